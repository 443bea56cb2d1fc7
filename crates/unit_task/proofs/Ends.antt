-- The end of a task: it has received all that its unit wants, and the unit's other tasks stay sound.
use Rattle.std.proofs.Common.{◌≡◌, ◌-◌, ◌≤◌, Bool, true, false, [], length, ap, arith, ◌∙◌, Option, Some, None}
use Rattle.scsi_words.specs.declared.phases.kinds.Direction.{Direction}
use Rattle.scsi_words.specs.declared.phases.kinds.Direction.TheVariants.{In, Out, None as NoData}
use Rattle.cdb_codec.specs.declared.commands.Cdb.TheVariants.{RequestSense}
use Rattle.cdb_codec.specs.Forms.{need_of}
use Rattle.plain_lun.specs.Unit.{UnitState}
use Rattle.plain_lun.specs.Performing.{Answered, perform, wants_now}
use Rattle.cdb_codec.specs.declared.commands.Need.{Need}
use Rattle.plain_lun.proofs.Laws.{wants-good}
use Rattle.target_law.specs.Session.{Task, total, total_of}
use Rattle.target_law.specs.Sound.{HasMoved, IsSoundTask, IsWaiting}
use Rattle.unit_task.specs.Ending.{performed_once, unit_ended_by, unit_ended}
use Rattle.unit_task.proofs.Readiness.{IsAsReady, ready-performed, ready-same, waiting-stays}

all-received : (d : Direction) (o : Option Answered) (u : UnitState) (k : Task) → d ≡ Out → k.position ≤ k.high → total_of o (wants_now u k.cdb).bytes - k.position ≡ 0 → HasMoved d o u k → length k.received ≡ (wants_now u k.cdb).bytes
all-received In o u k e p t m = cc
all-received Out (Some a) u k e p t m = absurd m
all-received Out None u k e p t m = let s = m.0 in let l = m.1 in omega arith
all-received NoData o u k e p t m = cc

-- a write that ends has received what its unit wants
pub whole-at-end : (u : UnitState) (k : Task) → IsSoundTask u k → total u k - k.position ≡ 0 → (need_of k.cdb).direction ≡ Out → length k.received ≡ (wants_now u k.cdb).bytes
whole-at-end u k h t d = all-received (need_of k.cdb).direction k.kept u k d h.position t h.moved

-- a command that sends and wasn't performed by then sends nothing
none-sent : (d : Direction) (o : Option Answered) (u : UnitState) (k : Task) → d ≡ In → o ≡ None → k.position ≤ k.high → total_of o (wants_now u k.cdb).bytes - k.position ≡ 0 → HasMoved d o u k → (wants_now u k.cdb).bytes ≤ 0
none-sent In (Some a) u k e n p t m = cc
none-sent In None u k e n p t m = let z = m.0 in omega arith
none-sent Out o u k e n p t m = cc
none-sent NoData o u k e n p t m = cc

pub none-at-end : (u : UnitState) (k : Task) → IsSoundTask u k → total u k - k.position ≡ 0 → k.kept ≡ None → (need_of k.cdb).direction ≡ In → (wants_now u k.cdb).bytes ≤ 0
none-at-end u k h t n d = none-sent (need_of k.cdb).direction k.kept u k d n h.position t h.moved

-- the unit stays as ready
once-ready : (o : Option Answered) (u : UnitState) (k : Task) → IsSoundTask u k → total u k - k.position ≡ 0 → IsAsReady u (performed_once o u (perform u k.cdb k.received))
once-ready (Some a) u k h t = ready-same u
once-ready None u k h t = ready-performed u k.cdb k.received (λ d g. whole-at-end u k h t d ∙ ap (λ (n : Need). n.bytes) (wants-good u k.cdb k.received g))

ended-ready : (b : Bool) (u : UnitState) (k : Task) → IsSoundTask u k → total u k - k.position ≡ 0 → IsAsReady u (unit_ended_by b u k)
ended-ready true u k h t = ready-performed u (RequestSense 18) [] (λ d g. cc)
ended-ready false u k h t = once-ready k.kept u k h t

-- so its other tasks wait as before
pub others-ended : (u : UnitState) (k : Task) → IsSoundTask u k → total u k - k.position ≡ 0 → (j : Task) → IsWaiting u j → IsWaiting (unit_ended u k) j
others-ended u k h t j w = waiting-stays u (unit_ended u k) j (ended-ready k.senses u k h t) w

pub others-looked : (u : UnitState) (k : Task) → (need_of k.cdb).direction ≡ In → (j : Task) → IsWaiting u j → IsWaiting (perform u k.cdb []).unit j
others-looked u k d j w = waiting-stays u (perform u k.cdb []).unit j (ready-performed u k.cdb [] (λ e g. cc)) w
