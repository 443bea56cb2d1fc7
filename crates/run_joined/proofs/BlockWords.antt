-- Where the words of a ticket's block agree with its life, TakeDone does with it what its life says.
use Rattle.std.proofs.Common.{arith, ◌≡◌, ◌⊎◌, inl, inr, ℕ, ◌<◌, ◌≤◌, ◌==◌, nat_le, Bool, true, false, List, [], length, slice_index_or, Option, Some, None, refl, sym, ap, subst, ◌∙◌}
use Rattle.std.specs.Prelude.{◌||◌, ◌&&◌, not}
use Rattle.std.proofs.lemmas.Option.{get_or_from_slice_get}
use Rattle.scsi_words.specs.declared.statuses.kinds.Status.{Status}
use Rattle.scsi_words.specs.declared.statuses.kinds.Status.TheVariants as status
use Rattle.scsi_words.specs.Statuses.{status_code}
use Rattle.rig_types.specs.declared.report.Report.{Report}
use Rattle.rig_types.specs.declared.report.Outcome.{Outcome}
use Rattle.rig_types.specs.declared.report.Outcome.TheVariants.{Done, Cut, NoTarget, Reset, Broken}
use Rattle.rig_types.specs.declared.rig.Unit.{Unit as RigUnit}
use Rattle.unit_law.specs.declared.entry.LogEntry.{LogEntry}
use Rattle.unit_law.specs.Report.{ByEnd, ByRefusal}
use Rattle.unit_law.proofs.Answers.{answer-of-unit}
use Rattle.cmd_block.specs.declared.TheConstants.{ENDED, CUT, NO_TARGET}
use Rattle.desk_law.specs.declared.ticket.Ticket.{Ticket as DeskTicket}
use Rattle.desk_law.specs.Desk.{DeskState, ticket, no_unit, is_rogue}
use Rattle.desk_law.specs.Taking.{state_of, status_byte, is_marked, is_again, is_check, outcome_by}
use Rattle.ticket_fate.specs.Tickets.{Plan, unit_of, opening, report_of, Life, Rejected, Finished, Asked, AtRogue, Ticket, view_for}
use Rattle.ticket_fate.specs.Fates.{IsRefusal, Fate, TicketKept}
use Rattle.ticket_fate.specs.Moves.{IsToAsk, target_of}
use Rattle.ticket_fate.proofs.Reached.{all-kept}
use Rattle.world_law.specs.World.{BenchSetting, World}
use Rattle.run_joined.specs.DeskLives.{IsKept, WordsAgree}
use Rattle.run_joined.specs.Joined.{IsJoined}
use Rattle.run_joined.specs.Plans.{IsPlanOf}
use Rattle.run_joined.specs.BlockWords.{StateAgrees, StatusAgrees, EndsIn, BlockAgrees, BlocksAgree}

-- ---- the driver's tests, by STATE and the byte of STATUS
abbrev has : (state byte code : ℕ) → Bool
has s b code = s == ENDED && b == code

abbrev again_by : (state byte : ℕ) → (tried : Bool) → Bool
again_by s b tried = (has s b (status_code status.Busy) || has s b (status_code status.QueueFull)) && tried

abbrev check_by : (state byte : ℕ) → (asks : Bool) → Bool
check_by s b asks = has s b (status_code status.Check) && asks

and-parts-3 : (a b c : Bool) → a && (not b && not c) ≡ true → (a ≡ true) × (b ≡ false) × (c ≡ false)
and-parts-3 true false false e = (refl, refl, refl)
and-parts-3 true true c e = absurd cc
and-parts-3 true false true e = absurd cc
and-parts-3 false b c e = absurd cc

rogue-none : (h a m : Bool) → h && (a && (not true && m)) ≡ false
rogue-none true true m = refl
rogue-none true false m = refl
rogue-none false a m = refl

module _ (g : BenchSetting) (p : Plan) (w : World) (ks : ℕ → Ticket) (spare : ℕ → ℕ) (t : ℕ) (of : IsPlanOf g w p) (j : IsJoined g p w ks spare) (l : t < length w.desk.tickets) (b : BlockAgrees p w.memory t (ticket w.desk t) (ks t)) where
  abbrev x : DeskTicket
  x = ticket w.desk t

  abbrev k : Ticket
  k = ks t

  abbrev m : List ℕ
  m = w.memory

  here : IsKept p t x k
  here = j.desk.each t l

  log-and-kept : (log : List LogEntry) × TicketKept p t k log
  log-and-kept =
      let plan = j.tickets.reached.plan in
      let u = ((all-kept p (length g.units) ks _ j.tickets.reached).each (target_of p t)).units (unit_of p t) (plan.known t) refl in
      (u.0.log, u.2.each t refl)

  fate-of : (a : Life) → k.life ≡ a → Fate p t a k (view_for p t log-and-kept.0)
  fate-of a e = subst (λ z. Fate p t z k (view_for p t log-and-kept.0)) e log-and-kept.1.fate

  state-of : (a : Life) → k.life ≡ a → StateAgrees a (state_of m x)
  state-of a e = subst (λ z. StateAgrees z (state_of m x)) e b.state

  status-of : (a : Life) → k.life ≡ a → StatusAgrees a (status_byte m x) k.status
  status-of a e = subst (λ z. StatusAgrees z (status_byte m x) k.status) e b.status

  rogue-is : is_rogue w.desk x ≡ (p.units (unit_of p t)).rogue
  rogue-is =
      ap (λ us. (slice_index_or us x.unit no_unit).rogue) j.rig.units ∙ ap (λ n. (slice_index_or g.units n no_unit).rogue) here.unit_is
      ∙ ap (λ (r : RigUnit). r.rogue) (get_or_from_slice_get g.units (unit_of p t) (p.units (unit_of p t)) no_unit (of.units (unit_of p t) (j.tickets.reached.plan.known t)))

  tried-is : nat_le x.tries w.desk.retries ≡ nat_le k.tries p.retries
  tried-is = ap (λ z. nat_le z w.desk.retries) here.tries_are ∙ ap (nat_le k.tries) (j.rig.retries ∙ sym of.retries)

  abbrev asks : Bool
  asks = w.desk.autosense && (not (is_rogue w.desk x) && not (is_marked m x))

  -- the tests with a STATE and a STATUS
  again-at : (s c : ℕ) → state_of m x ≡ s → status_byte m x ≡ c → is_again w.desk m x ≡ again_by s c (nat_le x.tries w.desk.retries)
  again-at s c e f =
      ap (λ z. again_by z (status_byte m x) (nat_le x.tries w.desk.retries)) e ∙ ap (λ z. again_by s z (nat_le x.tries w.desk.retries)) f

  check-at : (s c : ℕ) → state_of m x ≡ s → status_byte m x ≡ c → is_check w.desk m x ≡ check_by s c asks
  check-at s c e f = ap (λ z. check_by z (status_byte m x) asks) e ∙ ap (λ z. check_by s z asks) f

  outcome-at : (s c : ℕ) → state_of m x ≡ s → status_byte m x ≡ c → outcome_by (state_of m x) (status_byte m x) ≡ outcome_by s c
  outcome-at s c e f = ap (λ z. outcome_by z (status_byte m x)) e ∙ ap (outcome_by s) f

  -- ---- BUSY and QUEUE FULL
  refused : (st : Status) → k.life ≡ Rejected st → WordsAgree p w.desk m t x k (Rejected st)
  refused st e =
      let f = fate-of (Rejected st) e in
      let s = state-of (Rejected st) e in
      by (status-of (Rejected st) e ∙ f.1) f.3
    where
      by : status_byte m x ≡ status_code st → IsRefusal st → WordsAgree p w.desk m t x k (Rejected st)
      by c (inl q) =
          let s = state-of (Rejected st) e in
          let z : status_byte m x ≡ 0x08 = c ∙ ap status_code q in
          (again-at ENDED 0x08 s z ∙ tried-is, check-at ENDED 0x08 s z, outcome-at ENDED 0x08 s z)
      by c (inr q) =
          let s = state-of (Rejected st) e in
          let z : status_byte m x ≡ 0x28 = c ∙ ap status_code q in
          (again-at ENDED 0x28 s z ∙ tried-is, check-at ENDED 0x28 s z, outcome-at ENDED 0x28 s z)

  -- ---- an answer
  abbrev report : Report
  report = report_of t (p.requests t) k.status k.lastp k.tries k.buffer [] Done

  answered : k.life ≡ Finished Done → (k.status ≡ status_code status.Good) ⊎ (k.status ≡ status_code status.Check)
  answered e =
      let f = fate-of (Finished Done) e in
      by f.1 (f.0 (b.keeps e)).by
    where
      by : (Done ≡ Done → (view_for p t log-and-kept.0).tally.ends ≡ 1) → ByEnd (p.requests t) (view_for p t log-and-kept.0) report ⊎ ByRefusal p.retries (p.requests t) (view_for p t log-and-kept.0) report
          → (k.status ≡ status_code status.Good) ⊎ (k.status ≡ status_code status.Check)
      by ends (inl r) =
          ends-by (answer-of-unit p.requests (opening p (unit_of p t)) log-and-kept.0 t r.given.0 r.given.1).ends
        where
          ends-by : (r.given.0.status ≡ status.Good) ⊎ (r.given.0.status ≡ status.Check) → (k.status ≡ status_code status.Good) ⊎ (k.status ≡ status_code status.Check)
          ends-by (inl q) = inl (r.given.2 ∙ ap status_code q)
          ends-by (inr q) = inr (r.given.2 ∙ ap status_code q)
      by ends (inr r) = let z : 0 ≡ 1 = sym r.no_end ∙ ends refl in absurd (omega (arith, z))

  to-ask : k.life ≡ Finished Done → k.status ≡ status_code status.Check → asks ≡ true → IsToAsk p t k
  to-ask e c q =
      let a = and-parts-3 w.desk.autosense (is_rogue w.desk x) (is_marked m x) q in
      record { keeps = b.keeps e; checked = c; autosense = of.autosense ∙ sym j.rig.autosense ∙ a.0; unmarked = sym b.mark ∙ a.2 }

  ask-tests : k.life ≡ Finished Done → IsToAsk p t k → asks ≡ true
  ask-tests e a =
      ap (λ z. z && (not (is_rogue w.desk x) && not (is_marked m x))) (j.rig.autosense ∙ sym of.autosense ∙ a.autosense)
      ∙ ap (λ z. not z && not (is_marked m x)) (rogue-is ∙ b.keeps e) ∙ ap not (b.mark ∙ a.unmarked)

  done : k.life ≡ Finished Done → WordsAgree p w.desk m t x k (Finished Done)
  done e = by (answered e)
    where
      by : (k.status ≡ status_code status.Good) ⊎ (k.status ≡ status_code status.Check) → WordsAgree p w.desk m t x k (Finished Done)
      by (inl c) =
          let s = state-of (Finished Done) e in
          let z : status_byte m x ≡ 0 = status-of (Finished Done) e ∙ c in
          let none : is_check w.desk m x ≡ false = check-at ENDED 0 s z in
          (again-at ENDED 0 s z, λ q. (let y : false ≡ true = sym none ∙ q in absurd cc), λ q. (outcome-at ENDED 0 s z, λ o a. (let y : 0 ≡ 2 = sym c ∙ a.checked in absurd (omega (arith, y)))))
      by (inr c) =
          let s = state-of (Finished Done) e in
          let z : status_byte m x ≡ 2 = status-of (Finished Done) e ∙ c in
          let test : is_check w.desk m x ≡ asks = check-at ENDED 2 s z in
          (again-at ENDED 2 s z, λ q. (refl, to-ask e c (sym test ∙ q)), λ q. (outcome-at ENDED 2 s z, λ o a. (let y : false ≡ true = sym q ∙ test ∙ ask-tests e a in absurd cc)))

  -- ---- by its outcome
  finished : (o : Outcome) → k.life ≡ Finished o → WordsAgree p w.desk m t x k (Finished o)
  finished Done e = done e
  finished Cut e =
      let s = state-of (Finished Cut) e in
      let none : is_check w.desk m x ≡ false = check-at CUT (status_byte m x) s refl in
      (again-at CUT (status_byte m x) s refl, λ q. (let y : false ≡ true = sym none ∙ q in absurd cc), λ q. (outcome-at CUT (status_byte m x) s refl, λ o a. absurd cc))
  finished NoTarget e =
      let s = state-of (Finished NoTarget) e in
      let none : is_check w.desk m x ≡ false = check-at NO_TARGET (status_byte m x) s refl in
      (again-at NO_TARGET (status_byte m x) s refl, λ q. (let y : false ≡ true = sym none ∙ q in absurd cc), λ q. (outcome-at NO_TARGET (status_byte m x) s refl, λ o a. absurd cc))
  finished Reset e = absurd (state-of (Finished Reset) e)
  finished Broken e = absurd (state-of (Finished Broken) e)

  agrees : (a : Life) → k.life ≡ a → WordsAgree p w.desk m t x k a
  agrees Asked e = tt
  agrees (Rejected st) e = refused st e
  agrees (Finished o) e = finished o e
  agrees AtRogue e =
      let r : is_rogue w.desk x ≡ true = rogue-is ∙ fate-of AtRogue e in
      let h = has (state_of m x) (status_byte m x) (status_code status.Check) in
      ap (λ z. h && (w.desk.autosense && (not z && not (is_marked m x)))) r ∙ rogue-none h w.desk.autosense (not (is_marked m x))
  agrees a e = absurd (state-of a e)

pub blocks-agree : BlocksAgree
blocks-agree g p w ks spare t of j l b = agrees g p w ks spare t of j l b (ks t).life refl
