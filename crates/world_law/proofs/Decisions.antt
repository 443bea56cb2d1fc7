-- Whether a step is enabled is decided, by a test.
use Rattle.std.proofs.Common.{◌≡◌, ◌≤◌, ℕ, ◌==◌, ◌&&◌, nat_lt, nat_le, not, is_none, Bool, true, false, length, slice_get, Option, Some, None, refl, ap, ◌⊎◌, inl, inr}
use Rattle.std.specs.Bool.{Decides}
use Rattle.std.proofs.lemmas.Bool.{leb-true, le-leb, not-true}
use Rattle.std.proofs.lemmas.Bool.Decides.{Decides-eqb, Decides-ltb, Decides-and, Decides-like}
use Rattle.rig_types.specs.declared.acts.Act.{Act}
use Rattle.rig_types.specs.declared.step.Line.{Line}
use Rattle.rig_types.specs.declared.step.Step.{Step}
use Rattle.rig_types.specs.declared.step.Step.TheVariants as step
use Rattle.host_map.specs.declared.TheConstants.{FRONT_IDLE}
use Rattle.desk_law.specs.declared.stage.Stage.{Stage}
use Rattle.desk_law.specs.declared.stage.Stage.TheVariants as stage
use Rattle.desk_law.specs.declared.ticket.Ticket.{Ticket}
use Rattle.desk_law.specs.Desk.{aborter, reaper, chip, ticket, due}
use Rattle.world_law.specs.declared.reply.Stop.{Stop}
use Rattle.world_law.specs.declared.reply.Stop.TheVariants as stop
use Rattle.world_law.specs.World.{BenchSetting, World, commands_of, lines_of, front}
use Rattle.world_law.specs.Lines.{settled, blocking, is_run, drained}
use Rattle.world_law.specs.Stops.{is_clear, to_sweep, sweep, is_done}
use Rattle.world_law.specs.Enabling.{MayBuild, MayQueue, IsEnded, aborts_open, MayAct, Enabled}

-- ---- the test

abbrev is_mismatch : Stop → Bool
is_mismatch stop.Mismatch = true
is_mismatch _ = false

abbrev is_must_reset : Stop → Bool
is_must_reset stop.MustReset = true
is_must_reset _ = false

abbrev may_build : BenchSetting → World → (caller : ℕ) → Line → Bool
may_build g w caller l =
    caller == l.submitter && (l.number == length (lines_of w l.submitter) && (nat_lt l.number (length (commands_of g l.submitter))
    && (due w.desk caller == 0 && is_none (blocking g w caller))))

abbrev may_link : World → (caller : ℕ) → Ticket → Stage → Bool
may_link w caller k stage.Built = caller == k.line.submitter
may_link w caller k _ = false

abbrev may_queue : World → (caller : ℕ) → Ticket → Stage → Bool
may_queue w caller k stage.Linked = caller == k.line.submitter
may_queue w caller k stage.Again = caller == reaper w.desk
may_queue w caller k _ = false

abbrev is_ended : Stage → Bool
is_ended (stage.Ended o) = true
is_ended _ = false

abbrev is_unlinked : Stage → Bool
is_unlinked stage.Unlinked = true
is_unlinked _ = false

abbrev is_checked : Stage → Bool
is_checked stage.Check = true
is_checked _ = false

abbrev is_reached : World → Option Act → Bool
is_reached w None = false
is_reached w (Some act) = nat_le act.after (settled w) && not (aborts_open w act.kind)

abbrev may_act : BenchSetting → World → (caller k : ℕ) → Bool
may_act g w caller k =
    caller == aborter w.desk && (k == length w.acts && (due w.desk caller == 0 && is_reached w (slice_get g.acts k)))

abbrev is_enabled : BenchSetting → World → (caller : ℕ) → Step → Bool
is_enabled g w caller (step.Build l) = may_build g w caller l
is_enabled g w caller (step.Link t) = may_link w caller (ticket w.desk t) (ticket w.desk t).stage
is_enabled g w caller (step.Queue t) = may_queue w caller (ticket w.desk t) (ticket w.desk t).stage
is_enabled g w caller step.Signal = nat_lt 0 (due w.desk caller)
is_enabled g w caller (step.Chip word) = caller == chip w.desk && (is_run w.stop && not (drained g w))
is_enabled g w caller step.Fix = caller == reaper w.desk && is_mismatch w.stop
is_enabled g w caller (step.Sweep t) = caller == reaper w.desk && to_sweep w (ticket w.desk t)
is_enabled g w caller step.Restart = caller == reaper w.desk && (is_clear w.stop && is_none (sweep w))
is_enabled g w caller step.TakeDone = caller == reaper w.desk && is_done w
is_enabled g w caller (step.Unlink t) = caller == reaper w.desk && is_ended (ticket w.desk t).stage
is_enabled g w caller (step.Free t) = caller == reaper w.desk && is_unlinked (ticket w.desk t).stage
is_enabled g w caller (step.Act k) = may_act g w caller k
is_enabled g w caller step.ResetBus = caller == reaper w.desk && is_must_reset w.stop
is_enabled g w caller (step.Sense t) =
    caller == reaper w.desk && (is_run w.stop && (is_checked (ticket w.desk t).stage && front w == FRONT_IDLE))

-- ---- parts

never : {P : Type 0} → (P → ⊥) → Decides false P
never n = (λ e. absurd cc, λ p. absurd (n p))

is-true : (b : Bool) → Decides b (b ≡ true)
is-true b = (λ e. e, λ e. e)

back : (b : Bool) → b ≡ false → not b ≡ true
back b e = ap not e

is-false : (b : Bool) → Decides (not b) (b ≡ false)
is-false b = (λ e. not-true b e, λ e. back b e)

at-most : (a b : ℕ) → Decides (nat_le a b) (a ≤ b)
at-most a b = (λ e. leb-true a b e, λ h. le-leb a b h)

nothing : {A : Type 0} (o : Option A) → Decides (is_none o) (o ≡ None)
nothing None = (λ e. refl, λ e. refl)
nothing (Some x) = (λ e. absurd cc, λ e. absurd cc)

-- ---- stop stages

runs : (s : Stop) → Decides (is_run s) (s ≡ stop.Run)
runs stop.Run = (λ e. refl, λ e. refl)
runs stop.Mismatch = never (λ e. cc)
runs stop.Clear = never (λ e. cc)
runs stop.MustReset = never (λ e. cc)

mismatches : (s : Stop) → Decides (is_mismatch s) (s ≡ stop.Mismatch)
mismatches stop.Run = never (λ e. cc)
mismatches stop.Mismatch = (λ e. refl, λ e. refl)
mismatches stop.Clear = never (λ e. cc)
mismatches stop.MustReset = never (λ e. cc)

clears : (s : Stop) → Decides (is_clear s) (s ≡ stop.Clear)
clears stop.Run = never (λ e. cc)
clears stop.Mismatch = never (λ e. cc)
clears stop.Clear = (λ e. refl, λ e. refl)
clears stop.MustReset = never (λ e. cc)

must_reset : (s : Stop) → Decides (is_must_reset s) (s ≡ stop.MustReset)
must_reset stop.Run = never (λ e. cc)
must_reset stop.Mismatch = never (λ e. cc)
must_reset stop.Clear = never (λ e. cc)
must_reset stop.MustReset = (λ e. refl, λ e. refl)

-- ---- stages

links : (w : World) (caller : ℕ) (k : Ticket) (s : Stage) → Decides (may_link w caller k s) ((s ≡ stage.Built) × (caller ≡ k.line.submitter))
links w caller k stage.Built = Decides-like (caller == k.line.submitter) (λ e. (refl, e)) (λ h. h.1) (Decides-eqb caller k.line.submitter)
links w caller k stage.Linked = never (λ h. let e : stage.Linked ≡ stage.Built = h.0 in absurd cc)
links w caller k stage.Queued = never (λ h. let e : stage.Queued ≡ stage.Built = h.0 in absurd cc)
links w caller k stage.Again = never (λ h. let e : stage.Again ≡ stage.Built = h.0 in absurd cc)
links w caller k stage.Check = never (λ h. let e : stage.Check ≡ stage.Built = h.0 in absurd cc)
links w caller k stage.Sensing = never (λ h. let e : stage.Sensing ≡ stage.Built = h.0 in absurd cc)
links w caller k (stage.Ended o) = never (λ h. let e : stage.Ended o ≡ stage.Built = h.0 in absurd cc)
links w caller k stage.Unlinked = never (λ h. let e : stage.Unlinked ≡ stage.Built = h.0 in absurd cc)
links w caller k stage.Freed = never (λ h. let e : stage.Freed ≡ stage.Built = h.0 in absurd cc)

queues : (w : World) (caller : ℕ) (k : Ticket) (s : Stage) → Decides (may_queue w caller k s) (MayQueue w caller k s)
queues w caller k stage.Linked = Decides-eqb caller k.line.submitter
queues w caller k stage.Again = Decides-eqb caller (reaper w.desk)
queues w caller k stage.Built = never (λ h. h)
queues w caller k stage.Queued = never (λ h. h)
queues w caller k stage.Check = never (λ h. h)
queues w caller k stage.Sensing = never (λ h. h)
queues w caller k (stage.Ended o) = never (λ h. h)
queues w caller k stage.Unlinked = never (λ h. h)
queues w caller k stage.Freed = never (λ h. h)

ends : (s : Stage) → Decides (is_ended s) (IsEnded s)
ends (stage.Ended o) = (λ e. tt, λ h. refl)
ends stage.Built = never (λ h. h)
ends stage.Linked = never (λ h. h)
ends stage.Queued = never (λ h. h)
ends stage.Again = never (λ h. h)
ends stage.Check = never (λ h. h)
ends stage.Sensing = never (λ h. h)
ends stage.Unlinked = never (λ h. h)
ends stage.Freed = never (λ h. h)

unlinks : (s : Stage) → Decides (is_unlinked s) (s ≡ stage.Unlinked)
unlinks stage.Unlinked = (λ e. refl, λ h. refl)
unlinks stage.Built = never (λ e. cc)
unlinks stage.Linked = never (λ e. cc)
unlinks stage.Queued = never (λ e. cc)
unlinks stage.Again = never (λ e. cc)
unlinks stage.Check = never (λ e. cc)
unlinks stage.Sensing = never (λ e. cc)
unlinks (stage.Ended o) = never (λ e. cc)
unlinks stage.Freed = never (λ e. cc)

checks : (s : Stage) → Decides (is_checked s) (s ≡ stage.Check)
checks stage.Check = (λ e. refl, λ h. refl)
checks stage.Built = never (λ e. cc)
checks stage.Linked = never (λ e. cc)
checks stage.Queued = never (λ e. cc)
checks stage.Again = never (λ e. cc)
checks stage.Sensing = never (λ e. cc)
checks (stage.Ended o) = never (λ e. cc)
checks stage.Unlinked = never (λ e. cc)
checks stage.Freed = never (λ e. cc)

-- ---- Build and acts

builds : (g : BenchSetting) (w : World) (caller : ℕ) (l : Line) → Decides (is_enabled g w caller (step.Build l)) (MayBuild g w caller l)
builds g w caller l =
    Decides-like (is_enabled g w caller (step.Build l))
    (λ h. record { own = h.0; next = h.1.0; there = h.1.1.0; none_due = h.1.1.1.0; unblocked = h.1.1.1.1 })
    (λ m. (m.own, (m.next, (m.there, (m.none_due, m.unblocked)))))
    (Decides-and (caller == l.submitter) _ (Decides-eqb caller l.submitter)
    (Decides-and (l.number == length (lines_of w l.submitter)) _ (Decides-eqb l.number (length (lines_of w l.submitter)))
    (Decides-and (nat_lt l.number (length (commands_of g l.submitter))) _ (Decides-ltb l.number (length (commands_of g l.submitter)))
    (Decides-and (due w.desk caller == 0) (is_none (blocking g w caller)) (Decides-eqb (due w.desk caller) 0) (nothing (blocking g w caller))))))

record Reaches (w : World) (o : Option Act) : Type 0 where
  pub act : Act
  pub is : o ≡ Some act
  pub reached : act.after ≤ settled w
  pub decided : aborts_open w act.kind ≡ false

reaches : (w : World) (o : Option Act) → Decides (is_reached w o) (Reaches w o)
reaches w None = never (λ h. let e : None ≡ Some h.act = h.is in absurd cc)
reaches w (Some act) =
    Decides-like (is_reached w (Some act)) (λ h. record { act = act; is = refl; reached = h.0; decided = h.1 }) (λ r. at-act r)
    (Decides-and (nat_le act.after (settled w)) (not (aborts_open w act.kind)) (at-most act.after (settled w)) (is-false (aborts_open w act.kind)))
  where
    at-act : Reaches w (Some act) → (act.after ≤ settled w) × (aborts_open w act.kind ≡ false)
    at-act r =
        let e : act ≡ r.act = cc (r.is) in
        rw e (r.reached, r.decided)

acts : (g : BenchSetting) (w : World) (caller k : ℕ) → Decides (is_enabled g w caller (step.Act k)) (MayAct g w caller k)
acts g w caller k =
    Decides-like (is_enabled g w caller (step.Act k))
    (λ h. record { by = h.0; next = h.1.0; act = h.1.1.1.act; is = h.1.1.1.is; reached = h.1.1.1.reached; none_due = h.1.1.0; decided = h.1.1.1.decided })
    (λ m. (m.by, (m.next, (m.none_due, record { act = m.act; is = m.is; reached = m.reached; decided = m.decided }))))
    (Decides-and (caller == aborter w.desk) _ (Decides-eqb caller (aborter w.desk))
    (Decides-and (k == length w.acts) _ (Decides-eqb k (length w.acts))
    (Decides-and (due w.desk caller == 0) (is_reached w (slice_get g.acts k)) (Decides-eqb (due w.desk caller) 0) (reaches w (slice_get g.acts k)))))

-- ---- every step

-- a step of one caller, in a world of which this holds
by : {P : Type 0} (caller who : ℕ) (b : Bool) → Decides b P → Decides (caller == who && b) ((caller ≡ who) × P)
by caller who b d = Decides-and (caller == who) b (Decides-eqb caller who) d

by-two : {P Q : Type 0} (caller who : ℕ) (a b : Bool) → Decides a P → Decides b Q → Decides (caller == who && (a && b)) ((caller ≡ who) × P × Q)
by-two caller who a b d e = Decides-like (caller == who && (a && b)) (λ h. (h.0, h.1.0, h.1.1)) (λ h. (h.0, (h.1, h.2))) (by caller who (a && b) (Decides-and a b d e))

by-three : {P Q R : Type 0} (caller who : ℕ) (a b c : Bool) → Decides a P → Decides b Q → Decides c R → Decides (caller == who && (a && (b && c))) ((caller ≡ who) × P × Q × R)
by-three caller who a b c d e f =
    Decides-like (caller == who && (a && (b && c))) (λ h. (h.0, h.1.0, h.1.1.0, h.1.1.1)) (λ h. (h.0, (h.1, (h.2, h.3))))
    (by caller who (a && (b && c)) (Decides-and a (b && c) d (Decides-and b c e f)))

tests_decide : (g : BenchSetting) (w : World) (caller : ℕ) (s : Step) → Decides (is_enabled g w caller s) (Enabled g w caller s)
tests_decide g w caller (step.Build l) = builds g w caller l
tests_decide g w caller (step.Link t) = links w caller (ticket w.desk t) (ticket w.desk t).stage
tests_decide g w caller (step.Queue t) = queues w caller (ticket w.desk t) (ticket w.desk t).stage
tests_decide g w caller step.Signal = Decides-ltb 0 (due w.desk caller)
tests_decide g w caller (step.Chip word) = by-two caller (chip w.desk) (is_run w.stop) (not (drained g w)) (runs w.stop) (is-false (drained g w))
tests_decide g w caller step.Fix = by caller (reaper w.desk) (is_mismatch w.stop) (mismatches w.stop)
tests_decide g w caller (step.Sweep t) = by caller (reaper w.desk) (to_sweep w (ticket w.desk t)) (is-true (to_sweep w (ticket w.desk t)))
tests_decide g w caller step.Restart = by-two caller (reaper w.desk) (is_clear w.stop) (is_none (sweep w)) (clears w.stop) (nothing (sweep w))
tests_decide g w caller step.TakeDone = by caller (reaper w.desk) (is_done w) (is-true (is_done w))
tests_decide g w caller (step.Unlink t) = by caller (reaper w.desk) (is_ended (ticket w.desk t).stage) (ends (ticket w.desk t).stage)
tests_decide g w caller (step.Free t) = by caller (reaper w.desk) (is_unlinked (ticket w.desk t).stage) (unlinks (ticket w.desk t).stage)
tests_decide g w caller (step.Act k) = acts g w caller k
tests_decide g w caller step.ResetBus = by caller (reaper w.desk) (is_must_reset w.stop) (must_reset w.stop)
tests_decide g w caller (step.Sense t) =
    by-three caller (reaper w.desk) (is_run w.stop) (is_checked (ticket w.desk t).stage) (front w == FRONT_IDLE)
    (runs w.stop) (checks (ticket w.desk t).stage) (Decides-eqb (front w) FRONT_IDLE)

by-test : {P : Type 0} (b : Bool) → Decides b P → P ⊎ (P → ⊥)
by-test true d = inl (d.0 refl)
by-test false d = inr (λ p. let c : false ≡ true = d.1 p in absurd cc)

pub enabled_or_not : (g : BenchSetting) (w : World) (caller : ℕ) (s : Step) → Enabled g w caller s ⊎ (Enabled g w caller s → ⊥)
enabled_or_not g w caller s = by-test (is_enabled g w caller s) (tests_decide g w caller s)
