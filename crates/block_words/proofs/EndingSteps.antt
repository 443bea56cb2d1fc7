-- TakeDone and Sweep leave reported what was so, where memory agrees with the ticket that they take.
use Rattle.std.proofs.Common.{arith, ◌≡◌, ◌⊎◌, inl, inr, ℕ, ◌+◌, ◌-◌, ◌<◌, ◌≤◌, Bool, true, false, List, [], ◌∷◌, ◌++◌, length, drop, slice_index, Option, Some, refl, sym, ap, subst, ◌∙◌}
use Rattle.std.specs.Prelude.{◌&&◌, not, flat_map, if◌then◌else◌}
use Rattle.std.proofs.lemmas.Bool.{false≢true}
use Rattle.std.proofs.lemmas.List.{get_or-set_same, length-set}
use Rattle.std.proofs.lemmas.Option.{same_Some}
use Rattle.scsi_words.specs.declared.statuses.kinds.Status.{Status}
use Rattle.scsi_words.specs.declared.statuses.kinds.Status.TheVariants as status
use Rattle.scsi_words.specs.Statuses.{status_code}
use Rattle.bench_words.specs.Bytes.{IsBytes}
use Rattle.bench_words.specs.Memory.{word_at, put_word, bytes_at}
use Rattle.bench_words.proofs.MemoryLaws.{word_apart}
use Rattle.host_map.specs.declared.TheConstants.{IDLE}
use Rattle.host_map.specs.Places.{IsCommandBlock}
use Rattle.rig_types.specs.declared.report.Outcome.{Outcome}
use Rattle.rig_types.specs.declared.report.Outcome.TheVariants.{Done}
use Rattle.rig_types.specs.declared.step.Step.{Step}
use Rattle.rig_types.specs.declared.step.Step.TheVariants as step
use Rattle.plain_lun.specs.Performing.{Answered}
use Rattle.unit_law.specs.Log.{View, with_at}
use Rattle.unit_law.specs.Report.{ByEnd, ByRefusal}
use Rattle.unit_law.proofs.Views.{with_at-same, with_at-other}
use Rattle.desk_law.specs.declared.ticket.Piece.{Piece}
use Rattle.desk_law.specs.declared.stage.Stage.{Stage}
use Rattle.desk_law.specs.declared.stage.Stage.TheVariants as stage
use Rattle.desk_law.specs.declared.ticket.Ticket.{Ticket as DeskTicket}
use Rattle.desk_law.specs.Blocks.{own, buffer}
use Rattle.desk_law.specs.Desk.{ticket, no_ticket, is_sensing, is_rogue, lives}
use Rattle.desk_law.specs.Taking.{taken, taken_by, is_again, is_check as is_to_check, state_of, status_byte}
use Rattle.ticket_fate.specs.Fates.{FitsInCheck, Fate}
use Rattle.ticket_fate.specs.Moves.{TicketMove, Moves, target_of}
use Rattle.ticket_fate.specs.Tickets.{Plan, unit_of, Life, Unbuilt, Lost, Rejected, Finished, AskLost, Asked, AtRogue, Freed, is_live, Ticket, report_of, freed_report, rogue_ticket, view_for}
use Rattle.ticket_fate.proofs.Reached.{all-kept}
use Rattle.ticket_fate.proofs.TicketSteps.{fate_at}
use Rattle.bus_events.specs.Targets.{targets}
use Rattle.world_law.specs.Laws.{KeepsTicket}
use Rattle.world_law.specs.Opening.{opened}
use Rattle.world_law.specs.Runs.{Moment, Steps, IsRun, last}
use Rattle.world_law.specs.Resets.{sweeps}
use Rattle.world_law.specs.Steps.{Does, TakesOf, taken as taken_world}
use Rattle.world_law.specs.World.{BenchSetting, IsBenchSetting, World}
use Rattle.world_law.proofs.RunLaws.{goes_on, ends_after}
use Rattle.world_law.proofs.TicketsKept.{keeps_tickets}
use Rattle.word_owners.specs.BenchSteps.{IsOwned}
use Rattle.word_owners.specs.Tickets.{tickets_of, is_check, goal, IsTurned, IsLive}
use Rattle.word_owners.specs.Worlds.{HasBytes}
use Rattle.word_owners.proofs.Frames.{same_or}
use Rattle.word_owners.proofs.Worlds.{words_are_owned}
use Rattle.run_joined.specs.BlockWords.{StateAgrees, StatusAgrees}
use Rattle.run_joined.specs.DeskLives.{IsStage, IsKept, DeskJoined, IsLostToReset, WordsAgree}
use Rattle.run_joined.specs.Joined.{StepJoins}
use Rattle.run_joined.specs.JoinedRuns.{RunJoins}
use Rattle.run_joined.specs.Plans.{IsPlanOf}
use Rattle.run_joined.specs.Reports.{ReportAgrees}
use Rattle.run_joined.proofs.DoneSteps.{done-steps-move}
use Rattle.run_joined.proofs.Moved.{one-ticket-to, lives-so, own-unit, not-new, moved-on, room-on}
use Rattle.run_joined.proofs.JoinedRuns.{joined-on}
use Rattle.run_joined.proofs.Matching.{silent-move}
use Rattle.run_joined.proofs.Rigs.{same-rig}
use Rattle.rig_types.specs.declared.report.Report.{Report}
use Rattle.std.proofs.lemmas.List.{ext_get_or, get_or-drop, length-drop}
use Rattle.cmd_block.specs.Block.{field_of}
use Rattle.cmd_block.specs.declared.Field.TheVariants.{Lastp}
use Rattle.phase_fix.specs.Remain.{remain}
use Rattle.sense_job.specs.Turning.{sense_area}
use Rattle.target_law.specs.Target.{LogicalUnit, unit_at}
use Rattle.ticket_fate.specs.Histories as histories
use Rattle.ticket_fate.specs.Histories.{more}
use Rattle.ticket_fate.specs.Moves as move
use Rattle.word_owners.specs.Pointers.{IsSuffix}
use Rattle.word_owners.proofs.Buffers.{pointers_stay}
use Rattle.block_words.specs.EndedReports.{HasOutcome}
use Rattle.block_words.specs.EndedWords.{IsEndedOrUnlinked}
use Rattle.block_words.specs.EndingSteps.{EndAgrees, TakesReport, SweepsReport, JoinedStepsReport}
use Rattle.block_words.specs.LiveWords.{IsOfRules}
use Rattle.block_words.specs.ReportedRuns.{IsMade, AreReported, IsReportedRun}
use Rattle.block_words.proofs.EndedReports.{outcome-over}
use Rattle.block_words.proofs.Endings.{end-of, IsEnding, was_asked, has_sense, IsTold, FullAgrees, end-agrees}
use Rattle.block_words.proofs.HeldBuffers.{ranges, buffers-as, word-beside}
use Rattle.block_words.proofs.LiveWords.{lives-of-rules, state-and-status-tell}
use Rattle.block_words.proofs.OpenSenses.{IsOpenLife, none-sensed}
use Rattle.block_words.proofs.ReportedRuns.{reports-stay}
use Rattle.block_words.proofs.RunSteps.{below-or, stage-lives}
use Rattle.block_words.proofs.SenseFlags.{IsPast, sensed-past}

-- ---- flags of the desk

-- TakeDone, where it gives an outcome
taken-flags : (sensing again check : Bool) (m : List ℕ) (x : DeskTicket) → IsEndedOrUnlinked (taken_by sensing again check m x).stage
    → ((taken_by sensing again check m x).checked ≡ x.checked) × ((taken_by sensing again check m x).sensed ≡ (if sensing then true else x.sensed))
taken-flags true again check m x e = (refl, refl)
taken-flags false true check m x e = absurd e
taken-flags false false true m x e = absurd e
taken-flags false false false m x e = (refl, refl)

ending-open : (l : Life) → IsEnding l → IsOpenLife l
ending-open (Rejected st) i = tt
ending-open (Finished o) i = tt
ending-open Lost i = tt
ending-open AskLost i = tt
ending-open Asked i = tt
ending-open AtRogue i = tt
ending-open l i = absurd i

-- the flags by the stage
module _ (x : DeskTicket) (off : (s : Stage) → x.stage ≡ s → (s ≡ stage.Queued) ⊎ (s ≡ stage.Again) → x.checked ≡ false) (on : x.stage ≡ stage.Sensing → x.checked ≡ true) (none : (s : Stage) → x.stage ≡ s → (IsPast s → ⊥) → x.sensed ≡ false) where
  at-queued : Some stage.Queued ≡ Some x.stage → x.stage ≡ stage.Queued
  at-queued e = sym (same_Some stage.Queued x.stage e)

  at-sensing : Some stage.Sensing ≡ Some x.stage → x.stage ≡ stage.Sensing
  at-sensing e = sym (same_Some stage.Sensing x.stage e)

  checked-by : (l : Life) → IsEnding l → IsStage l x.stage → x.checked ≡ was_asked l
  checked-by (Rejected st) i e = off x.stage refl (inl (at-queued e))
  checked-by (Finished o) i e = off x.stage refl (inl (at-queued e))
  checked-by Lost i e = off x.stage refl (inl (at-queued e))
  checked-by AskLost i e = on (at-sensing e)
  checked-by Asked i e = on (at-sensing e)
  checked-by AtRogue i e = off x.stage refl e
  checked-by l i e = absurd i

  unsensed-by : (l : Life) → IsEnding l → IsStage l x.stage → x.sensed ≡ false
  unsensed-by (Rejected st) i e = none stage.Queued (at-queued e) (λ z. z)
  unsensed-by (Finished o) i e = none stage.Queued (at-queued e) (λ z. z)
  unsensed-by Lost i e = none stage.Queued (at-queued e) (λ z. z)
  unsensed-by AskLost i e = none stage.Sensing (at-sensing e) (λ z. z)
  unsensed-by Asked i e = none stage.Sensing (at-sensing e) (λ z. z)
  unsensed-by AtRogue i (inl e) = none stage.Queued e (λ z. z)
  unsensed-by AtRogue i (inr e) = none stage.Again e (λ z. z)
  unsensed-by l i e = absurd i

  sensing-by : (l : Life) → IsEnding l → (l ≡ AskLost → ⊥) → IsStage l x.stage → is_sensing x.stage ≡ has_sense l
  sensing-by (Rejected st) i n e = ap is_sensing (at-queued e)
  sensing-by (Finished o) i n e = ap is_sensing (at-queued e)
  sensing-by Lost i n e = ap is_sensing (at-queued e)
  sensing-by AskLost i n e = absurd (n refl)
  sensing-by Asked i n e = ap is_sensing (at-sensing e)
  sensing-by AtRogue i n (inl e) = ap is_sensing e
  sensing-by AtRogue i n (inr e) = ap is_sensing e
  sensing-by l i n e = absurd i

-- a suffix is what is left behind its place
suffix-drop-is : (ys xs : List ℕ) (s : IsSuffix ys xs) → ys ≡ drop s.from xs
suffix-drop-is ys xs s =
    ext_get_or 0 ys (drop s.from xs) (let e : length (drop s.from xs) ≡ length xs - s.from = length-drop s.from xs in omega (arith, e, s.within)) (λ i l. s.at i l ∙ sym (get_or-drop s.from xs i 0))

if-sensed : (b s : Bool) → s ≡ false → (if b then true else s) ≡ b
if-sensed true s e = refl
if-sensed false s e = e

module _ (g : BenchSetting) (p : Plan) (ms : List Moment) (m : Moment) (ks : ℕ → Ticket) (t : ℕ) (setting : IsBenchSetting g) (bytes : HasBytes g) (r : IsRun g (opened g) ms) (steps : Steps g (last (opened g) ms) m) (of : IsPlanOf g (last (opened g) ms) p) (j : RunJoins g p ms ks)
    (a : AreReported p (last (opened g) ms) ks) (l : t < length (last (opened g) ms).desk.tickets) where
  abbrev old : World
  old = last (opened g) ms

  abbrev x : DeskTicket
  x = ticket old.desk t

  abbrev y : DeskTicket
  y = ticket m.after.desk t

  abbrev k : Ticket
  k = ks t

  is_owned : IsOwned g.version g.units old
  is_owned = words_are_owned g setting bytes ms r

  owned-after : IsOwned g.version g.units m.after
  owned-after = subst (IsOwned g.version g.units) (ends_after (opened g) ms m) (words_are_owned g setting bytes (ms ++ m ∷ []) (goes_on g (opened g) ms m r steps))

  kept : KeepsTicket x y
  kept = keeps_tickets g old m t steps l

  stage-is : (b : Life) → k.life ≡ b → IsStage b x.stage
  stage-is b e = subst (λ (z : Life). IsStage z x.stage) e (j.joined.desk.each t l).stage_is

  -- ---- flags before the step

  checked-off : (s : Stage) → x.stage ≡ s → (s ≡ stage.Queued) ⊎ (s ≡ stage.Again) → x.checked ≡ false
  checked-off s e w = by x.checked refl
    where
      plain : (z : Stage) → (z ≡ stage.Queued) ⊎ (z ≡ stage.Again) → (not (is_check z) ≡ true) × (IsTurned z → ⊥)
      plain z (inl q) = (ap (λ (u : Stage). not (is_check u)) q, λ i. subst IsTurned q i)
      plain z (inr q) = (ap (λ (u : Stage). not (is_check u)) q, λ i. subst IsTurned q i)

      by : (b : Bool) → x.checked ≡ b → x.checked ≡ false
      by false q = q
      by true q =
          let n = plain s w in
          let flag : ((tickets_of old.desk).fixed t).turned ≡ true = ap (λ (b : Bool). b && not (is_check x.stage)) q ∙ ap (λ (u : Stage). not (is_check u)) e ∙ n.0 in
          absurd (n.1 (subst IsTurned e (is_owned.holds.tickets.turned t flag)))

  checked-on : x.stage ≡ stage.Sensing → x.checked ≡ true
  checked-on e = is_owned.holds.checked t (inr e)

  unsensed-at : (s : Stage) → x.stage ≡ s → (IsPast s → ⊥) → x.sensed ≡ false
  unsensed-at s e n = by x.sensed refl
    where
      by : (b : Bool) → x.sensed ≡ b → x.sensed ≡ false
      by false q = q
      by true q = absurd (n (subst IsPast e (sensed-past g ms r t q)))

  was-checked : (b : Life) → k.life ≡ b → IsEnding b → x.checked ≡ was_asked b
  was-checked b e i = checked-by x checked-off checked-on unsensed-at b i (stage-is b e)

  was-unsensed : (b : Life) → k.life ≡ b → IsEnding b → x.sensed ≡ false
  was-unsensed b e i = unsensed-by x checked-off checked-on unsensed-at b i (stage-is b e)

  -- ---- what the moves say

  none-yet : (b : Life) → k.life ≡ b → IsEnding b → k.sense ≡ []
  none-yet b e i = none-sensed p (length g.units) ks (targets old.bus) j.joined.tickets.reached t (subst IsOpenLife (sym e) (ending-open b i))

  fate-of : (b : Life) → k.life ≡ b → (v : View) × Fate p t b k v
  fate-of b e =
      let reached = j.joined.tickets.reached in
      let u = ((all-kept p (length g.units) ks (targets old.bus) reached).each (target_of p t)).units (unit_of p t) (reached.plan.known t) refl in
      (view_for p t u.0.log, fate_at p t k u.0.log b (u.2.each t refl) e)

  rules : IsOfRules k.life → (p.units (unit_of p t)).rogue ≡ false
  rules i = lives-of-rules p (length g.units) ks (targets old.bus) j.joined.tickets.reached t i

  check-of : (v : View) → FitsInCheck p t k v → (p.units (unit_of p t)).rogue ≡ false → k.status ≡ status_code status.Check
  check-of v f n = by (f.0 n).by
    where
      by : ByEnd (p.requests t) v (report_of t (p.requests t) k.status k.lastp k.tries k.buffer [] Done) ⊎ ByRefusal p.retries (p.requests t) v (report_of t (p.requests t) k.status k.lastp k.tries k.buffer [] Done) → k.status ≡ status_code status.Check
      by (inl q) =
          let same : q.given.0 ≡ f.1.1.0 = same_Some q.given.0 f.1.1.0 (sym q.given.1 ∙ f.1.1.1) in
          q.given.2 ∙ ap (λ (z : Answered). status_code z.status) same ∙ ap status_code f.1.1.2
      by (inr q) = let z : 0 ≡ 1 = sym q.no_end ∙ f.1.0 in absurd (omega (arith, z))

  asked-check : (b : Life) → k.life ≡ b → was_asked b ≡ true → k.status ≡ status_code status.Check
  asked-check AskLost e q = let f = fate-of AskLost e in check-of f.0 f.1 (rules (subst IsOfRules (sym e) tt))
  asked-check Asked e q = let f = fate-of Asked e in check-of f.0 f.1 (rules (subst IsOfRules (sym e) tt))
  asked-check b e q = absurd (false≢true q)

  refused-bad : (st : Status) → k.life ≡ Rejected st → k.status ≡ status_code status.Good → ⊥
  refused-bad st e good =
      let f = fate-of (Rejected st) e in
      elim f.1.3 [
        | inl q ↦ (let z : 0 ≡ 8 = sym good ∙ f.1.1 ∙ ap status_code q in omega (arith, z))
        | inr q ↦ (let z : 0 ≡ 0x28 = sym good ∙ f.1.1 ∙ ap status_code q in omega (arith, z))
      ]

  -- ---- memory

  place : IsLive x.stage → IsCommandBlock x.block
  place alive = is_owned.holds.tickets.block t alive

  -- a write below the buffers leaves the buffer
  buffer-low : IsLive x.stage → (n : List ℕ) (b v : ℕ) → b + 4 ≤ 0x200000 → buffer n x ≡ buffer old.memory x → buffer (put_word n b v) x ≡ buffer old.memory x
  buffer-low alive n b v low e =
      buffers-as n (put_word n b v) x.pieces (λ i k. let h = (is_owned.holds.tickets.within t i alive k).0 in word-beside n b (slice_index (ranges x.pieces) i) v (omega (arith, low, h))) ∙ e

  buffer-kept : (n : List ℕ) → buffer n x ≡ buffer old.memory x → buffer n y ≡ buffer old.memory x
  buffer-kept n e = ap (λ (ps : List Piece). flat_map (λ (q : Piece). bytes_at n q.chunk.base q.len) ps) kept.pieces ∙ e

  -- ---- the step, joined with the ticket's move

  module _ (n : List ℕ) (memory : m.after.memory ≡ n) (words : (i : ℕ) → i + 4 ≤ 0x200 → IsTold i → word_at n (x.block + i) ≡ word_at old.memory (x.block + i)) (buffers : buffer n x ≡ buffer old.memory x) (s : StepJoins g p old m ks) (j2 : Ticket) (v : View) (moved : TicketMove p t v k j2)
      (after : s.tickets ≡ with_at ks t j2) (flags : IsEndedOrUnlinked y.stage → (b : Life) → k.life ≡ b → IsEnding b → (y.checked ≡ x.checked) × (y.sensed ≡ has_sense b)) (status : StatusAgrees k.life (status_byte old.memory x) k.status) (ends : FullAgrees k.life old.memory x k) where
    bytes-n : IsBytes n
    bytes-n = subst IsBytes memory owned-after.holds.bytes

    there-after : (u : ℕ) (o : Outcome) → HasOutcome o (s.tickets u).life → u < length m.after.desk.tickets
    there-after u o e = elim (below-or u (length m.after.desk.tickets)) [ inl q ↦ q | inr q ↦ absurd (subst (HasOutcome o) (s.joined.desk.unbuilt u q) e) ]

    here : (o : Outcome) → ((q : Outcome) → HasOutcome q k.life → ⊥) → HasOutcome o (s.tickets t).life → ReportAgrees m.after.memory y (s.tickets t) o
    here o none e =
        let same : s.tickets t ≡ j2 = ap (λ (f : ℕ → Ticket). f t) after ∙ with_at-same ks t j2 in
        let over = outcome-over o (s.tickets t).life y.stage e (s.joined.desk.each t (there-after t o e)).stage_is in
        let fl = flags over in
        subst (λ (z : Ticket). ReportAgrees m.after.memory y z o) (sym same)
        (subst (λ (z : List ℕ). ReportAgrees z y j2 o) (sym memory)
        (end-agrees old.memory n x y k kept.block kept.pieces words is_owned.holds.bytes bytes-n (buffer-kept n buffers) (λ b q i. (fl b q i).0 ∙ was-checked b q i) (λ b q i. (fl b q i).1) none-yet asked-check refused-bad o j2
        (end-of p t v k j2 moved o none (subst (λ (z : Ticket). HasOutcome o z.life) same e)) status ends))

    reported : AreReported p m.after s.tickets
    reported =
        reports-stay g p ms m ks j.spare setting bytes r steps of j.joined s
        (λ w u o none e. elim (same_or u t) [
          | inl z ↦ subst (λ (i : ℕ). ReportAgrees m.after.memory (ticket m.after.desk i) (s.tickets i) o) (sym z) (here o (subst (λ (i : ℕ). (q : Outcome) → HasOutcome q (ks i).life → ⊥) z none) (subst (λ (i : ℕ). HasOutcome o (s.tickets i).life) z e))
          | inr z ↦ absurd (none o (subst (λ (f : Ticket). HasOutcome o f.life) (ap (λ (f : ℕ → Ticket). f u) after ∙ with_at-other ks t j2 u z) e))
        ]) a

  run-on : (s : StepJoins g p old m ks) → AreReported p m.after s.tickets → IsReportedRun g p (ms ++ m ∷ [])
  run-on s b = (s.tickets, joined-on g p ms m ks j s, subst (λ (w : World). AreReported p w s.tickets) (sym (ends_after (opened g) ms m)) b)

  -- TakeDone
  module _ (e : m.entry.step ≡ step.TakeDone) (d : m.after ≡ taken_world old t) (words : WordsAgree p old.desk old.memory t x k k.life) (state : StateAgrees k.life (state_of old.memory x)) (status : StatusAgrees k.life (status_byte old.memory x) k.status) (ends : FullAgrees k.life old.memory x k)
      (alive : IsLive x.stage) where
    low : old.desk.take + 4 ≤ 0x10000
    low = omega (arith, is_owned.holds.take)

    flags-taken : IsEndedOrUnlinked y.stage → (b : Life) → k.life ≡ b → IsEnding b → (y.checked ≡ x.checked) × (y.sensed ≡ has_sense b)
    flags-taken over b q i =
        let now : y ≡ taken old.desk old.memory x = ap (λ (w : World). ticket w.desk t) d ∙ get_or-set_same old.desk.tickets t (taken old.desk old.memory x) no_ticket l in
        let f = taken-flags (is_sensing x.stage) (is_again old.desk old.memory x) (is_to_check old.desk old.memory x) old.memory x (subst (λ (z : DeskTicket). IsEndedOrUnlinked z.stage) now over) in
        let not-lost : b ≡ AskLost → ⊥ = λ z. subst (λ (c : Life). StateAgrees c (state_of old.memory x)) (q ∙ z) state in (
          ap (λ (z : DeskTicket). z.checked) now ∙ f.0,
          ap (λ (z : DeskTicket). z.sensed) now ∙ f.1 ∙ if-sensed (is_sensing x.stage) x.sensed (was-unsensed b q i) ∙ sensing-by x checked-off checked-on unsensed-at b i not-lost (stage-is b q),
        )

    takes : IsReportedRun g p (ms ++ m ∷ [])
    takes =
        let to = done-steps-move.taken p old.desk ks old.memory t j.joined.desk l words in
        let one = one-ticket-to g p old m ks j.spare j.joined step.TakeDone e (λ z. refl) refl t l (taken_world old t) d to refl (length-set old.desk.tickets t _) (same-rig refl refl refl refl) in
        run-on one.0
        (reported (put_word old.memory old.desk.take IDLE) (ap (λ (w : World). w.memory) d)
        (λ i fits told. let q = (place alive).from in word_apart old.memory old.desk.take (x.block + i) IDLE (inr (omega (arith, low, q)))) (buffer-low alive old.memory old.desk.take IDLE (omega (arith, low)) refl) one.0 (to.to one.1) one.1
        (to.step one.1) one.2 flags-taken status ends)

  -- Sweep
  module _ (e : m.entry.step ≡ step.Sweep t) (d : m.after ≡ sweeps old t) (lost : IsLostToReset k.life (is_sensing x.stage) (is_rogue old.desk x)) (ends : FullAgrees k.life old.memory x k) (alive : IsLive x.stage) where
    status-free : (b : Life) → IsLostToReset b (is_sensing x.stage) (is_rogue old.desk x) → StatusAgrees b (status_byte old.memory x) k.status
    status-free Lost w = tt
    status-free AskLost w = tt
    status-free AtRogue w = tt
    status-free b w = absurd w

    none-taken : (b : Life) → IsLostToReset b (is_sensing x.stage) (is_rogue old.desk x) → false ≡ has_sense b
    none-taken Lost w = refl
    none-taken AskLost w = refl
    none-taken AtRogue w = refl
    none-taken b w = absurd w

    flags-swept : IsEndedOrUnlinked y.stage → (b : Life) → k.life ≡ b → IsEnding b → (y.checked ≡ x.checked) × (y.sensed ≡ has_sense b)
    flags-swept over b q i =
        let made = sweeps old t in
        let now : (y.checked ≡ x.checked) × (y.sensed ≡ x.sensed) = subst (λ (w : World). ((ticket w.desk t).checked ≡ x.checked) × ((ticket w.desk t).sensed ≡ x.sensed)) (sym d)
        (ap (λ (z : DeskTicket). z.checked) (get_or-set_same old.desk.tickets t _ no_ticket l), ap (λ (z : DeskTicket). z.sensed) (get_or-set_same old.desk.tickets t _ no_ticket l)) in
        (now.0, now.1 ∙ was-unsensed b q i ∙ none-taken b (subst (λ (c : Life). IsLostToReset c (is_sensing x.stage) (is_rogue old.desk x)) q lost))

    beside : (i : ℕ) → IsTold i → ((x.block + i + 4 ≤ x.block + 0x10) ⊎ (x.block + 0x10 + 4 ≤ x.block + i)) × ((x.block + i + 4 ≤ x.block + 0x1C) ⊎ (x.block + 0x1C + 4 ≤ x.block + i))
    beside i (inl q) = (inl (omega (arith, q.1)), inl (omega (arith, q.1)))
    beside i (inr (inl q)) = (inr (omega (arith, q.0)), inl (omega (arith, q.1)))
    beside i (inr (inr q)) = (inr (omega (arith, q)), inr (omega (arith, q)))

    swept : IsReportedRun g p (ms ++ m ∷ [])
    swept =
        let to = done-steps-move.swept p old.desk ks t j.joined.desk l lost in
        let one = one-ticket-to g p old m ks j.spare j.joined (step.Sweep t) e (λ z. refl) refl t l (sweeps old t) d to refl (length-set old.desk.tickets t _) (same-rig refl refl refl refl) in
        let first = put_word old.memory (x.block + 0x10) 4 in
        let q = (place alive).below in
        run-on one.0
        (reported (put_word first (x.block + 0x1C) 0x1C0) (ap (λ (w : World). w.memory) d)
        (λ i fits told. word_apart first (x.block + 0x1C) (x.block + i) 0x1C0 (beside i told).1 ∙ word_apart old.memory (x.block + 0x10) (x.block + i) 4 (beside i told).0)
        (buffer-low alive first (x.block + 0x1C) 0x1C0 (omega (arith, q)) (buffer-low alive old.memory (x.block + 0x10) 4 (omega (arith, q)) refl)) one.0 (to.to one.1) one.1 (to.step one.1) one.2 flags-swept (status-free k.life lost) ends)

  -- ---- a ticket of a unit that breaks the rules becomes what memory says

  module _ (life : k.life ≡ AtRogue) (alive : IsLive x.stage) where
    goal-own : goal ((tickets_of old.desk).fixed t) ≡ own x
    goal-own = ap (λ (b : Bool). if b && not (is_check x.stage) then sense_area x.block else own x) (was-checked AtRogue life tt)

    suffix : IsSuffix (remain (word_at old.memory) x.block (field_of old.memory x.block Lastp)) (own x)
    suffix =
        subst (λ (xs : List ℕ). IsSuffix (remain (word_at old.memory) x.block (field_of old.memory x.block Lastp)) xs) goal-own (pointers_stay g.version g.units is_owned.spot is_owned.counts old t is_owned.holds alive).last

    abbrev k1 : Ticket
    k1 = rogue_ticket k (status_byte old.memory x) suffix.from k.savep k.tries (buffer old.memory x) k.area

    abbrev ks1 : ℕ → Ticket
    ks1 = with_at ks t k1

    unit-here : (u : LogicalUnit) × (unit_at (targets old.bus (target_of p t)).units (p.units (unit_of p t)).lun ≡ Some u)
    unit-here = own-unit g p old m ks j.spare j.joined t

    makes : Moves p (length g.units) ks (targets old.bus) ks1 (targets old.bus)
    makes = move.alone t k1 unit-here.0 unit-here.1 (move.rogue_moves (status_byte old.memory x) suffix.from k.savep k.tries (buffer old.memory x) k.area life)

    desk1 : DeskJoined p old.desk ks1
    desk1 = record {
      unbuilt = λ u q. ap (λ (z : Ticket). z.life) (with_at-other ks t k1 u (λ z. absurd (omega (arith, z, q, l)))) ∙ j.joined.desk.unbuilt u q;
      each = λ u q. elim (same_or u t) [
        | inl z ↦ subst (λ (i : ℕ). IsKept p i (ticket old.desk i) (ks1 i)) (sym z) (subst (IsKept p t x) (sym (with_at-same ks t k1)) same-kept)
        | inr z ↦ subst (IsKept p u (ticket old.desk u)) (sym (with_at-other ks t k1 u z)) (j.joined.desk.each u q)
      ];
    }
      where
        same-kept : IsKept p t x k1
        same-kept = let h = j.joined.desk.each t l in record { stage_is = h.stage_is; tag_is = h.tag_is; unit_is = h.unit_is; tries_are = h.tries_are; outcome_is = h.outcome_is; counted_is = h.counted_is }

    joins1 : RunJoins g p ms ks1
    unfolding makes
    joins1 =
        let none-new = not-new p old.desk ks j.joined.desk t l in
        record {
          spare = j.spare;
          opens = j.opens;
          moves = more j.moves makes;
          joined = record {
            tickets = moved-on g p old m ks j.spare j.joined ks1 makes (λ z. absurd (none-new z));
            desk = desk1;
            rig = j.joined.rig;
            places = j.joined.places;
            reserved = room-on g p old m ks j.spare j.joined ks1 makes none-new (λ n. refl);
            most = j.joined.most;
          };
          histories = λ u. j.histories u ∙ sym (silent-move p (length g.units) ks (targets old.bus) ks1 (targets old.bus) u makes (histories.history u j.moves) (record { tally = refl; unmarked = refl; no_bus_reset = refl }));
        }

    life1 : (ks1 t).life ≡ AtRogue
    life1 = ap (λ (z : Ticket). z.life) (with_at-same ks t k1) ∙ life

    reported1 : AreReported p old ks1
    reported1 = record {
      agree = λ u o has. elim (same_or u t) [
        | inl z ↦ absurd (subst (HasOutcome o) (ap (λ (i : ℕ). (ks1 i).life) z ∙ life1) has)
        | inr z ↦ (let e = with_at-other ks t k1 u z in subst (λ (q : Ticket). ReportAgrees old.memory (ticket old.desk u) q o) (sym e) (a.agree u o (subst (λ (q : Ticket). HasOutcome o q.life) e has)))
      ];
      made = λ i d q. made1 _ (a.made i d q);
    }
      where
        made1 : (z : Report) → IsMade p ks z → IsMade p ks1 z
        made1 z h = elim (same_or z.ticket t) [
          | inl q ↦ (let c : Freed h.result ≡ AtRogue = sym h.freed ∙ ap (λ (i : ℕ). (ks i).life) q ∙ life in absurd cc)
          | inr q ↦ (let e = sym (with_at-other ks t k1 z.ticket q) in record { result = h.result; freed = subst (λ (b : Ticket). b.life ≡ Freed h.result) e h.freed; is = h.is ∙ ap (λ (b : Ticket). freed_report z.ticket (p.requests z.ticket) b h.result) e })
        ]

    full1 : FullAgrees (ks1 t).life old.memory x (ks1 t)
    full1 =
        subst (λ (b : Life). FullAgrees b old.memory x (ks1 t)) (sym life1)
        (subst (λ (z : Ticket). FullAgrees AtRogue old.memory x z) (sym (with_at-same ks t k1)) (refl, refl, λ good. suffix-drop-is (remain (word_at old.memory) x.block (field_of old.memory x.block Lastp)) (own x) suffix))

-- ---- the ticket is built and lives

lost-open : (l : Life) (sensing rogue : Bool) → IsLostToReset l sensing rogue → IsOpenLife l
lost-open Lost sensing rogue w = tt
lost-open AskLost sensing rogue w = tt
lost-open AtRogue sensing rogue w = tt
lost-open l sensing rogue w = absurd w

state-open : (l : Life) (s : ℕ) → StateAgrees l s → IsOpenLife l
state-open (Rejected st) s w = tt
state-open (Finished o) s w = tt
state-open Asked s w = tt
state-open AtRogue s w = tt
state-open l s w = absurd w

module _ (g : BenchSetting) (p : Plan) (ms : List Moment) (ks : ℕ → Ticket) (t : ℕ) (j : RunJoins g p ms ks) (o : IsOpenLife (ks t).life) where
  within : t < length (last (opened g) ms).desk.tickets
  within = elim (below-or t (length (last (opened g) ms).desk.tickets)) [ inl q ↦ q | inr q ↦ absurd (subst IsOpenLife (j.joined.desk.unbuilt t q) o) ]

  lives-here : lives (ticket (last (opened g) ms).desk t) ≡ true
  lives-here = lives-so p (last (opened g) ms).desk ks j.joined.desk t ∙ open-lives (ks t).life o
    where
      open-lives : (l : Life) → IsOpenLife l → is_live l ≡ true
      open-lives Unbuilt i = absurd i
      open-lives (Freed q) i = absurd i
      open-lives l i = refl

rogue-or : (l : Life) → (l ≡ AtRogue) ⊎ (l ≡ AtRogue → ⊥)
rogue-or AtRogue = inl refl
rogue-or l = inr (λ e. cc)

full-of : (l : Life) (m : List ℕ) (x : DeskTicket) (k : Ticket) → (l ≡ AtRogue → ⊥) → EndAgrees l m x k → FullAgrees l m x k
full-of AtRogue m x k n e = absurd (n refl)
full-of l m x k n e = e

pub takes-report : TakesReport
takes-report g p ms m ks t setting bytes r steps of j a e q state status ends =
    let w = last (opened g) ms in
    let x = ticket w.desk t in
    let o = state-open (ks t).life (state_of w.memory x) state in
    let l = within g p ms ks t j o in
    let alive = lives-here g p ms ks t j o in
    let live = stage-lives w.desk t alive in
    let d = subst (λ (z : Step). Does g w m.entry.caller z m.reply m.after) e steps.does in
    let made = (subst (λ (z : Option ℕ). TakesOf z w m.reply m.after) q d).1 in
    elim (rogue-or (ks t).life) [
      | inl z ↦
          let ns = ks1 g p ms m ks t setting bytes r steps of j a l z live in
          let i = joins1 g p ms m ks t setting bytes r steps of j a l z live in
          let life = life1 g p ms m ks t setting bytes r steps of j a l z live in
          let state1 = subst (λ (b : Life). StateAgrees b (state_of w.memory x)) (sym life) tt in
          let status1 = subst (λ (b : Life). StatusAgrees b (status_byte w.memory x) (ns t).status) (sym life) tt in
          let words = state-and-status-tell g p ms ns setting bytes r i of t alive state1 status1 in
          takes g p ms m ns t setting bytes r steps of i (reported1 g p ms m ks t setting bytes r steps of j a l z live) l e made words state1 status1 (full1 g p ms m ks t setting bytes r steps of j a l z live) live
      | inr z ↦
          let words = state-and-status-tell g p ms ks setting bytes r j of t alive state status in
          takes g p ms m ks t setting bytes r steps of j a l e made words state status (full-of (ks t).life w.memory x (ks t) z ends) live
    ]

pub sweeps-report : SweepsReport
sweeps-report g p ms m ks t setting bytes r steps of j a e lost ends =
    let w = last (opened g) ms in
    let x = ticket w.desk t in
    let o = lost-open (ks t).life (is_sensing x.stage) (is_rogue w.desk x) lost in
    let l = within g p ms ks t j o in
    let live = stage-lives w.desk t (lives-here g p ms ks t j o) in
    let d = (subst (λ (z : Step). Does g w m.entry.caller z m.reply m.after) e steps.does).1 in
    elim (rogue-or (ks t).life) [
      | inl z ↦
          let ns = ks1 g p ms m ks t setting bytes r steps of j a l z live in
          let lost1 = subst (λ (b : Life). IsLostToReset b (is_sensing x.stage) (is_rogue w.desk x)) (sym (life1 g p ms m ks t setting bytes r steps of j a l z live)) tt in
          swept g p ms m ns t setting bytes r steps of (joins1 g p ms m ks t setting bytes r steps of j a l z live) (reported1 g p ms m ks t setting bytes r steps of j a l z live) l e d lost1 (full1 g p ms m ks t setting bytes r steps of j a l z live) live
      | inr z ↦ swept g p ms m ks t setting bytes r steps of j a l e d lost (full-of (ks t).life w.memory x (ks t) z ends) live
    ]

pub joined-steps-report : JoinedStepsReport
joined-steps-report g p ms m ks setting bytes r steps of j a plain s = (
  s.tickets,
  joined-on g p ms m ks j s,
  subst (λ (w : World). AreReported p w s.tickets) (sym (ends_after (opened g) ms m)) (reports-stay g p ms m ks j.spare setting bytes r steps of j.joined s (λ e. absurd (false≢true (sym plain ∙ e))) a),
)
