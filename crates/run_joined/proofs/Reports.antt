-- Where the words of its block, its sense area and its buffer agree with an unlinked ticket, Free reports what the moves make of it.
use Rattle.std.proofs.Common.{arith, ◌≡◌, ◌⊎◌, inl, inr, ℕ, ◌+◌, ◌-◌, ◌<◌, ◌≤◌, ◌==◌, Bool, true, false, List, [], length, refl, sym, ap, ◌∙◌}
use Rattle.std.specs.Prelude.{if◌then◌else◌, unwrap_or, sum_by}
use Rattle.std.specs.List.{range_with_len}
use Rattle.std.proofs.lemmas.Bool.Decides.{nat_tests}
use Rattle.std.proofs.lemmas.List.{length-drop}
use Rattle.std.proofs.lemmas.List.Concat.{length-flat_map}
use Rattle.std.proofs.lemmas.List.FromFn.{length-range_with_len}
use Rattle.scsi_words.specs.declared.statuses.kinds.Status.TheVariants as status
use Rattle.scsi_words.specs.Statuses.{status_code}
use Rattle.bench_words.specs.Memory.{word_at, bytes_at}
use Rattle.cmd_block.specs.Block.{field_of}
use Rattle.cmd_block.specs.declared.Field.TheVariants.{Lastp}
use Rattle.cmd_block.specs.declared.TheConstants.{SENSE}
use Rattle.phase_fix.specs.Remain.{remain}
use Rattle.rig_types.specs.declared.report.Outcome.{Outcome}
use Rattle.rig_types.specs.declared.report.Outcome.TheVariants.{Done, Cut, Reset, NoTarget, Broken}
use Rattle.rig_types.specs.declared.report.Report.{Report}
use Rattle.desk_law.specs.declared.ticket.Piece.{Piece}
use Rattle.desk_law.specs.declared.ticket.Ticket.{Ticket as DeskTicket}
use Rattle.desk_law.specs.Desk.{ticket}
use Rattle.desk_law.specs.Blocks.{buffer_length, own}
use Rattle.desk_law.specs.Taking.{status_byte}
use Rattle.desk_law.specs.Reporting.{report_of, done_status, status_of, residual_of, sense_of}
use Rattle.desk_law.specs.Reporting as desk
use Rattle.ticket_fate.specs.Tickets.{Plan, Unbuilt, Unlinked, Ticket, status_for, residual_for, freed_report}
use Rattle.world_law.specs.Opening.{opened}
use Rattle.world_law.specs.Runs.{Moment, IsRun, last}
use Rattle.world_law.specs.World.{BenchSetting, World}
use Rattle.run_joined.specs.DeskLives.{IsKept, outcome_of}
use Rattle.run_joined.specs.Joined.{IsJoined}
use Rattle.run_joined.specs.Plans.{IsPlanOf}
use Rattle.run_joined.specs.Reports.{ReportAgrees, ReportsAgree}
use Rattle.run_joined.proofs.Buffers.{buffers-fit}
use Rattle.run_joined.proofs.Moved.{below-or}

-- as many addresses as bytes
own-length : (x : DeskTicket) → length (own x) ≡ buffer_length x
own-length x =
    length-flat_map (λ (p : Piece). range_with_len p.chunk.base p.len) x.pieces
    ∙ ap (λ (f : Piece → ℕ). sum_by f x.pieces) (λ i (p : Piece). length-range_with_len p.chunk.base p.len i)

-- two reports are one where their parts are
one-report : (a b : Report) → a.ticket ≡ b.ticket → a.unit ≡ b.unit → a.outcome ≡ b.outcome → a.status ≡ b.status → a.residual ≡ b.residual → a.tries ≡ b.tries → a.bytes ≡ b.bytes → a.sense ≡ b.sense → a ≡ b
one-report a b e0 e1 e2 e3 e4 e5 e6 e7 =
    λ i. record { ticket = e0 i; unit = e1 i; outcome = e2 i; status = e3 i; residual = e4 i; tries = e5 i; bytes = e6 i; sense = e7 i }

flag-or : (b : Bool) → (b ≡ true) ⊎ (b ≡ false)
flag-or true = inl refl
flag-or false = inr refl

-- the residual of a status, where the ticket is done
residual-by : (st size : ℕ) (b : Bool) (left lastp : ℕ) → (st == status_code status.Good) ≡ b → (st ≡ status_code status.Good → left ≡ size - lastp) → (if b then left else size) ≡ (if b then size - lastp else size)
residual-by st size true left lastp e h = h (grind (arith, nat_tests))
residual-by st size false left lastp e h = refl

module _ (m : List ℕ) (t : ℕ) (x : DeskTicket) (k : Ticket) (o : Outcome) (a : ReportAgrees m x k o) (size : ℕ) (long : buffer_length x ≡ size) where
  done-status : o ≡ Done → done_status m x ≡ k.status
  done-status e = by x.checked refl
    where
      by : (b : Bool) → x.checked ≡ b → (if b then status_code status.Check else status_byte m x) ≡ k.status
      by true c = sym (a.checked e c)
      by false c = a.status e c

  status-is : (q : Outcome) → o ≡ q → status_of q m x ≡ status_for q k.status
  status-is Done e = done-status e
  status-is Cut e = refl
  status-is Reset e = refl
  status-is NoTarget e = refl
  status-is Broken e = refl

  left : o ≡ Done → k.status ≡ status_code status.Good → length (remain (word_at m) x.block (field_of m x.block Lastp)) ≡ size - k.lastp
  left e good = ap length (a.last e good) ∙ length-drop k.lastp (own x) ∙ ap (λ n. n - k.lastp) (own-length x ∙ long)

  abbrev remaining : ℕ
  remaining = length (remain (word_at m) x.block (field_of m x.block Lastp))

  residual-is : (q : Outcome) → o ≡ q → residual_of (status_of q m x) m x ≡ residual_for q k.status k.lastp size
  residual-is Done e =
      ap (λ s. if s == status_code status.Good then remaining else buffer_length x) (done-status e)
      ∙ ap (λ n. if k.status == status_code status.Good then remaining else n) long
      ∙ residual-by k.status size (k.status == status_code status.Good) remaining k.lastp refl (left e)
  residual-is Cut e = long
  residual-is Reset e = long
  residual-is NoTarget e = long
  residual-is Broken e = long

  sense-is : sense_of m x ≡ k.sense
  sense-is = by x.sensed refl
    where
      by : (b : Bool) → x.sensed ≡ b → (if b then bytes_at m (x.block + SENSE) 18 else []) ≡ k.sense
      by true c = a.sensed c
      by false c = sym (a.unsensed c)

module _ (g : BenchSetting) (p : Plan) (ms : List Moment) (ks : ℕ → Ticket) (spare : ℕ → ℕ) (t : ℕ) (o : Outcome) (r : IsRun g (opened g) ms) (of : IsPlanOf g (last (opened g) ms) p) (j : IsJoined g p (last (opened g) ms) ks spare) (life : (ks t).life ≡ Unlinked o) where
  abbrev w : World
  w = last (opened g) ms

  abbrev x : DeskTicket
  x = ticket w.desk t

  within : t < length w.desk.tickets
  within = by (below-or t (length w.desk.tickets))
    where
      by : (t < length w.desk.tickets) ⊎ (length w.desk.tickets ≤ t) → t < length w.desk.tickets
      by (inl l) = l
      by (inr l) = (let z : Unlinked o ≡ Unbuilt = sym life ∙ j.desk.unbuilt t l in absurd cc)

  here : IsKept p t x (ks t)
  here = j.desk.each t within

  outcome : desk.outcome_of x ≡ o
  outcome = ap (λ q. unwrap_or q Done) (here.outcome_is ∙ ap outcome_of life)

  long : buffer_length x ≡ length (p.requests t).bytes
  long = buffers-fit g p ms r of t within

  agreed : ReportAgrees w.memory x (ks t) o → report_of w.memory t x ≡ freed_report t (p.requests t) (ks t) o
  agreed a =
      let size = length (p.requests t).bytes in
      one-report (report_of w.memory t x) (freed_report t (p.requests t) (ks t) o) refl here.unit_is outcome
      (ap (λ q. status_of q w.memory x) outcome ∙ status-is w.memory t x (ks t) o a size long o refl)
      (ap (λ q. residual_of (status_of q w.memory x) w.memory x) outcome ∙ residual-is w.memory t x (ks t) o a size long o refl)
      here.tries_are a.bytes (sense-is w.memory t x (ks t) o a size long)

pub reports-agree : ReportsAgree
reports-agree g p ms ks spare t o r of j life a = agreed g p ms ks spare t o r of j life a
