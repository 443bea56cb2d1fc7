-- What a task does by itself keeps it sound.
use Rattle.std.proofs.Common.{◌≡◌, ℕ, ◌+◌, ◌<◌, ◌≤◌, max, Bool, false, List, [], length, refl, ap, arith, Option, Some, None, length-append, length-take, length-drop}
use Rattle.scsi_words.specs.declared.phases.kinds.Direction.{Direction}
use Rattle.scsi_words.specs.declared.phases.kinds.Direction.TheVariants.{In, Out, None as NoData}
use Rattle.cdb_codec.specs.declared.commands.Cdb.{Cdb}
use Rattle.cdb_codec.specs.Forms.{FitsForm, need_of}
use Rattle.plain_lun.specs.Unit.{UnitState}
use Rattle.plain_lun.specs.Performing.{Answered, perform, wants_now}
use Rattle.plain_lun.proofs.Laws.{wants-most, bytes-most}
use Rattle.unit_law.specs.Report.{data_of}
use Rattle.target_law.specs.Session.{Task, total, total_of, began}
use Rattle.target_law.specs.Bytes.{advanced, put, away}
use Rattle.target_law.specs.Sound.{HasMoved, IsSoundTask, IsWaiting}

-- a fresh task has moved nothing
moved-none : (d : Direction) (u : UnitState) (k : Task) → k.high ≡ 0 → k.received ≡ [] → HasMoved d None u k
moved-none In u k h r = (h, r)
moved-none Out u k h r = let e : length k.received ≡ 0 = ap length r in (omega arith, omega arith)
moved-none NoData u k h r = (h, r)

pub began-waits : (tag ticket : ℕ) (c : Cdb) (disconnects : ℕ) (ended : Bool) → FitsForm c → (need_of c).bytes ≤ 65536 → (u : UnitState) → IsWaiting u (began tag ticket c disconnects ended)
began-waits tag ticket c disconnects ended f s u = record {
  task = record {
    fits = f;
    small = s;
    position = omega arith;
    saved = omega arith;
    moved = moved-none (need_of c).direction u (began tag ticket c disconnects ended) refl refl;
  };
  turn = refl;
}

-- a change of the positions and marks alone
moved-at : (d : Direction) (o : Option Answered) (u : UnitState) (k : Task) (at saved budget : ℕ) (fresh moved : Bool) → HasMoved d o u k → HasMoved d o u (record k { position = at; saved = saved; budget = budget; fresh = fresh; just_moved = moved })
moved-at In (Some a) u k at saved budget fresh moved m = m
moved-at In None u k at saved budget fresh moved m = m
moved-at Out (Some a) u k at saved budget fresh moved m = m
moved-at Out None u k at saved budget fresh moved m = m
moved-at NoData (Some a) u k at saved budget fresh moved m = m
moved-at NoData None u k at saved budget fresh moved m = m

pub sound-at : (u : UnitState) (k : Task) (at saved budget : ℕ) (fresh moved : Bool) → at ≤ k.high → saved ≤ k.high → IsSoundTask u k → IsSoundTask u (record k { position = at; saved = saved; budget = budget; fresh = fresh; just_moved = moved })
sound-at u k at saved budget fresh moved p q h = record {
  fits = h.fits;
  small = h.small;
  position = p;
  saved = q;
  moved = moved-at (need_of k.cdb).direction k.kept u k at saved budget fresh moved h.moved;
}

pub saved-sound : (u : UnitState) (k : Task) → IsSoundTask u k → IsSoundTask u (record k { saved = k.position })
saved-sound u k h = sound-at u k k.position k.position k.budget k.fresh k.just_moved h.position h.position h

pub restored-sound : (u : UnitState) (k : Task) → IsSoundTask u k → IsSoundTask u (record k { position = k.saved })
restored-sound u k h = sound-at u k k.saved k.saved k.budget k.fresh k.just_moved h.saved h.saved h

pub away-waits : (u : UnitState) (k : Task) → IsSoundTask u k → IsWaiting u (away k)
away-waits u k h = record { task = sound-at u k k.saved k.saved k.budget k.fresh false h.saved h.saved h; turn = refl }

pub marked-sound : (u : UnitState) (k : Task) (budget : ℕ) (fresh moved : Bool) → IsSoundTask u k → IsSoundTask u (record k { budget = budget; fresh = fresh; just_moved = moved })
marked-sound u k budget fresh moved h = sound-at u k k.position k.saved budget fresh moved h.position h.saved h

-- a byte was sent
moved-advanced : (d : Direction) (o : Option Answered) (u : UnitState) (k : Task) → k.position < length (data_of o) → HasMoved d o u k → HasMoved d o u (advanced k k.received)
moved-advanced In (Some a) u k h m = let l = m.0 in (omega arith, m.1, m.2)
moved-advanced In None u k h m = absurd (omega arith)
moved-advanced Out (Some a) u k h m = m
moved-advanced Out None u k h m = absurd (omega arith)
moved-advanced NoData (Some a) u k h m = m
moved-advanced NoData None u k h m = absurd (omega arith)

pub advanced-sound : (u : UnitState) (k : Task) → k.position < length (data_of k.kept) → IsSoundTask u k → IsSoundTask u (advanced k k.received)
advanced-sound u k l h = record {
  fits = h.fits;
  small = h.small;
  position = omega arith;
  saved = omega (arith, h.saved);
  moved = moved-advanced (need_of k.cdb).direction k.kept u k l h.moved;
}

-- a byte was received
length-put : (held : List ℕ) (at b : ℕ) → at ≤ length held → length (put held at b) ≡ max (length held) (at + 1)
length-put held at b h = simp (length-append, length-take, length-drop) (omega arith)

moved-received : (d : Direction) (o : Option Answered) (u : UnitState) (k : Task) (b : ℕ) → d ≡ Out → k.position ≤ k.high → k.position < (wants_now u k.cdb).bytes → HasMoved d o u k → HasMoved d o u (advanced k (put k.received k.position b))
moved-received In o u k b e p w m = cc
moved-received Out (Some a) u k b e p w m = m
moved-received Out None u k b e p w m =
    let same = m.0 in
    let most = m.1 in
    let n = length-put k.received k.position b (omega arith) in
    (omega arith, omega arith)
moved-received NoData o u k b e p w m = cc

pub received-sound : (u : UnitState) (k : Task) (b : ℕ) → (need_of k.cdb).direction ≡ Out → k.position < (wants_now u k.cdb).bytes → IsSoundTask u k → IsSoundTask u (advanced k (put k.received k.position b))
received-sound u k b e w h = record {
  fits = h.fits;
  small = h.small;
  position = omega arith;
  saved = omega (arith, h.saved);
  moved = moved-received (need_of k.cdb).direction k.kept u k b e h.position w h.moved;
}

-- the answer of a command that sends is kept
moved-looked : (d : Direction) (o : Option Answered) (u v : UnitState) (k : Task) (a : Answered) → d ≡ In → o ≡ None → length a.bytes ≤ (need_of k.cdb).bytes → HasMoved d o u k → HasMoved d (Some a) v (record k { kept = Some a })
moved-looked In (Some x) u v k a e n l m = cc
moved-looked In None u v k a e n l m = let z = m.0 in (omega arith, l, m.1)
moved-looked Out o u v k a e n l m = cc
moved-looked NoData o u v k a e n l m = cc

pub looked-sound : (u v : UnitState) (k : Task) (bs : List ℕ) → (need_of k.cdb).direction ≡ In → k.kept ≡ None → IsSoundTask u k → IsSoundTask v (record k { kept = Some (perform u k.cdb bs).answer })
looked-sound u v k bs d n h = record {
  fits = h.fits;
  small = h.small;
  position = h.position;
  saved = h.saved;
  moved = moved-looked (need_of k.cdb).direction k.kept u v k (perform u k.cdb bs).answer d n (bytes-most u k.cdb bs) h.moved;
}

-- nothing was received where the command doesn't receive, and nothing is kept where it does
unreceived : (d : Direction) (o : Option Answered) (u : UnitState) (k : Task) → d ≡ In → HasMoved d o u k → k.received ≡ []
unreceived In (Some a) u k e m = m.2
unreceived In None u k e m = m.1
unreceived Out o u k e m = cc
unreceived NoData o u k e m = cc

pub sends-unreceived : (u : UnitState) (k : Task) → (need_of k.cdb).direction ≡ In → IsSoundTask u k → k.received ≡ []
sends-unreceived u k d h = unreceived (need_of k.cdb).direction k.kept u k d h.moved

unkept : (d : Direction) (o : Option Answered) (u : UnitState) (k : Task) → d ≡ Out → HasMoved d o u k → (o ≡ None) × (k.high ≡ length k.received)
unkept In o u k e m = cc
unkept Out (Some a) u k e m = absurd m
unkept Out None u k e m = (refl, m.0)
unkept NoData o u k e m = cc

pub receives-unkept : (u : UnitState) (k : Task) → (need_of k.cdb).direction ≡ Out → IsSoundTask u k → (k.kept ≡ None) × (k.high ≡ length k.received)
receives-unkept u k d h = unkept (need_of k.cdb).direction k.kept u k d h.moved

-- a task moves at most 65,536 bytes
total-by : (d : Direction) (o : Option Answered) (u : UnitState) (k : Task) → HasMoved d o u k → total_of o (wants_now u k.cdb).bytes ≤ (need_of k.cdb).bytes
total-by In (Some a) u k m = m.1
total-by Out (Some a) u k m = absurd m
total-by NoData (Some a) u k m = absurd m
total-by d None u k m = wants-most u k.cdb

pub total-most : (u : UnitState) (k : Task) → IsSoundTask u k → total u k ≤ 65536
total-most u k h = let s = h.small in omega (arith, total-by (need_of k.cdb).direction k.kept u k h.moved)
