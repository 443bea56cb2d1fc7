-- The report fits the unit's log.
use Rattle.std.proofs.Common.{◌≡◌, ℕ, ◌+◌, ◌-◌, ◌^◌, ◌<◌, ◌≤◌, ◌⊎◌, inl, inr, true, false, List, [], ◌++◌, length, get_or, drop, refl, ap, sym, ◌∙◌, subst, arith, lit≤, Some, None}
use Rattle.std.proofs.Math.Seq.{take-length}
use Rattle.std.proofs.lemmas.List.{drop_all, length-replicate, append-nil}
use Rattle.scsi_words.specs.Statuses.{status_code}
use Rattle.bench_words.specs.Memory.{bytes_at}
use Rattle.cdb_codec.specs.declared.commands.Cdb.TheVariants.{Read}
use Rattle.rig_types.specs.declared.report.Report.{Report}
use Rattle.plain_lun.specs.Unit.{UnitState}
use Rattle.plain_lun.specs.Performing.{Answered, Performed, perform, transferred}
use Rattle.unit_law.specs.declared.entry.LogEntry.{LogEntry}
use Rattle.unit_law.specs.Request.{RequestData, command, received_of}
use Rattle.unit_law.specs.Log.{with_at, LogResult, log_result_none, performed, run_log, tally, Tally, view_of}
use Rattle.unit_law.specs.Report.{filled, moved, if_good, ByEnd, Fits, SenseFits}
use Rattle.unit_law.proofs.Views.{with_at-same}
use Rattle.chip_step.specs.Chip.{Chip}
use Rattle.straight_run.specs.Reading.{GoesThrough}
use Rattle.straight_run.specs.Steps.{FromOpening}
use Rattle.straight_run.proofs.TenSteps.{read_goes, status_goes}
use Rattle.one_target.specs.Bus.{BusState, moves}
use Rattle.one_target.specs.Opening.{one_plain, IsOpened}
use Rattle.one_target.specs.Reading.{Ended, after_read, block_at, read_log, refused_log}
use Rattle.one_target.specs.Reporting.{submitted, request_of, the_setting, the_course, report_with, report_in, OneReport, Reported}
use Rattle.one_target.proofs.OneRead.{read-cdb}
use Rattle.one_target.proofs.WholeReads.{one-read, one-refused, length-block_at, reads, checks}
use Rattle.one_target.proofs.Memory.{length-after, status-after, buffer-read, buffer-refused}

-- the log of a read, and that of one that ends with a status alone
run-read : (requests : ℕ → RequestData) (u : UnitState) (q : Performed) → perform u (command (requests 0)) (received_of (requests 0)) ≡ q → run_log requests u read_log ≡ performed requests (log_result_none u) 0 q
unfolding run_log with_at
run-read requests u q e = rw e refl

run-refused : (requests : ℕ → RequestData) (u : UnitState) (q : Performed) → perform u (command (requests 0)) (received_of (requests 0)) ≡ q → run_log requests u refused_log ≡ performed requests (log_result_none u) 0 q
unfolding run_log
run-refused requests u q e = rw e refl

-- what the tally of either log says
pub record OneEnd (k : Tally) : Type 0 where
  pub refusals : k.refusals ≡ 0
  pub ends : k.ends ≡ 1
  pub drops : k.drops ≡ 0
  pub senses : k.senses ≡ 0
  pub early : k.early ≡ 0
  pub clears : k.clears ≡ 0

tally-read : OneEnd (tally 0 read_log)
unfolding tally
tally-read = record { refusals = refl; ends = refl; drops = refl; senses = refl; early = refl; clears = refl }

tally-refused : OneEnd (tally 0 refused_log)
unfolding tally
tally-refused = record { refusals = refl; ends = refl; drops = refl; senses = refl; early = refl; clears = refl }

-- the unit performs the request as it performs a READ(10)
abbrev requests_of : ℕ → ℕ → RequestData
requests_of lba = λ t. request_of lba

one-performed : (lba : ℕ) → lba < 2 ^ 32 → perform one_plain (command (request_of lba)) (received_of (request_of lba)) ≡ perform one_plain (Read lba 1 false) (received_of (request_of lba))
one-performed lba h = ap (λ c. perform one_plain c (received_of (request_of lba))) (read-cdb lba h)

length-submitted : length submitted ≡ 512
unfolding submitted
length-submitted = length-replicate {A = ℕ} 512 0

filled-whole : (sent : List ℕ) → length sent ≡ 512 → filled sent (length sent) submitted ≡ sent
unfolding filled
filled-whole sent l =
    ap (λ (x : List ℕ). x ++ drop (length sent) submitted) (take-length sent)
    ∙ ap (λ (x : List ℕ). sent ++ x) (drop_all (length sent) submitted (omega (arith, length-submitted)))
    ∙ append-nil sent

filled-none : filled [] 0 submitted ≡ submitted
unfolding filled
filled-none = refl

fits-with : (lba : ℕ) (log : List LogEntry) (a : Answered) (status : ℕ) (bytes : List ℕ) → OneEnd (tally 0 log) → (run_log (requests_of lba) one_plain log).answers 0 ≡ Some a → status ≡ status_code a.status →
    (report_with status bytes).residual ≡ 512 - if_good a.status (length a.bytes) → bytes ≡ filled a.bytes (length a.bytes) submitted →
    Fits the_setting 0 (request_of lba) (view_of (requests_of lba) one_plain log 0) (the_course log) (report_with status bytes)
fits-with lba log a status bytes k answered is left held =
    let end : ByEnd (request_of lba) (view_of (requests_of lba) one_plain log 0) (report_with status bytes) = record {
      one_end = k.ends;
      no_drop = k.drops;
      tries = ap (λ (n : ℕ). n + 1) (sym k.refusals);
      given = (a, answered, is, left ∙ ap (λ (n : ℕ). n - if_good a.status (length a.bytes)) (sym length-submitted), held);
    } in
    λ quiet. record { ticket = refl; of_unit = refl; by = inl end; few_tries = lit≤ tt; all_within = refl; all_caused = k.clears }

sense-with : (lba : ℕ) (log : List LogEntry) (status : ℕ) (bytes : List ℕ) → OneEnd (tally 0 log) → (run_log (requests_of lba) one_plain log).senses 0 ≡ None →
    SenseFits the_setting (view_of (requests_of lba) one_plain log 0) (the_course log) (report_with status bytes)
sense-with lba log status bytes k none = λ quiet. record {
  at_most_one = omega arith;
  none_early = k.early;
  given = rw none refl;
  none_lost = λ e. refl;
  only_asked = λ h. absurd (omega arith);
  asked = λ h e. absurd (let f : false ≡ true = h.autosense in cc);
}

answers-of : (requests : ℕ → RequestData) (u : UnitState) (log : List LogEntry) (q : Performed) → run_log requests u log ≡ performed requests (log_result_none u) 0 q → (run_log requests u log).answers 0 ≡ Some q.answer
answers-of requests u log q e = ap (λ (r : LogResult). r.answers 0) e ∙ with_at-same (λ t. None) 0 (Some q.answer)

senses-of : (requests : ℕ → RequestData) (u : UnitState) (log : List LogEntry) (q : Performed) → run_log requests u log ≡ performed requests (log_result_none u) 0 q → (run_log requests u log).senses 0 ≡ None
senses-of requests u log q e = ap (λ (r : LogResult). r.senses 0) e

-- the report of memory, by its status and its buffer
report-in : (m : List ℕ) (status : ℕ) (bytes : List ℕ) → get_or m 0x10014 0 ≡ status → bytes_at m 0x200000 512 ≡ bytes → report_in m ≡ report_with status bytes
report-in m status bytes e f = ap (λ (x : ℕ). report_with x (bytes_at m 0x200000 512)) e ∙ ap (λ (x : List ℕ). report_with status x) f

-- all that is left is what the unit ended with
whole : (lba status : ℕ) (bytes : List ℕ) (log : List LogEntry) (q : Performed) (moved : List ℕ) (bus : BusState) (chip : Chip BusState) → IsOpened bus → FromOpening moves lba bus chip →
    GoesThrough lba moved status (Ended (after_read lba) log) chip → run_log (requests_of lba) one_plain log ≡ performed (requests_of lba) (log_result_none one_plain) 0 q → q.unit ≡ after_read lba →
    report_in chip.memory ≡ report_with status bytes → OneEnd (tally 0 log) → status ≡ status_code q.answer.status → (report_with status bytes).residual ≡ 512 - if_good q.answer.status (length q.answer.bytes) →
    bytes ≡ filled q.answer.bytes (length q.answer.bytes) submitted → OneReport lba (report_in chip.memory)
whole lba status bytes log q moved bus chip o f g ran after is k st left held =
    let e : Ended (after_read lba) log chip.bus = g.bus_is in
    let log_is : e.unit.log ≡ log = e.log_is in
    let alone : e.unit.plain ≡ (run_log (requests_of lba) one_plain log).unit = e.plain_is ∙ sym after ∙ sym (ap (λ (r : LogResult). r.unit) ran) in
    let fits : Fits the_setting 0 (request_of lba) (view_of (requests_of lba) one_plain log 0) (the_course log) (report_with status bytes) =
    fits-with lba log q.answer status bytes k (answers-of (requests_of lba) one_plain log q ran) st left held in
    let sense : SenseFits the_setting (view_of (requests_of lba) one_plain log 0) (the_course log) (report_with status bytes) =
    sense-with lba log status bytes k (senses-of (requests_of lba) one_plain log q ran) in
    record {
      bus = bus;
      opened = o;
      chip = chip;
      ran = f;
      through = g.cause_is;
      unit = e.unit;
      unit_is = e.unit_is;
      alone = subst (λ (l : List LogEntry). e.unit.plain ≡ (run_log (requests_of lba) one_plain l).unit) (sym log_is) alone;
      report_is = refl;
      fits = subst (λ (l : List LogEntry). Fits the_setting 0 (request_of lba) (view_of (requests_of lba) one_plain l 0) (the_course l) (report_in chip.memory)) (sym log_is)
          (subst (λ (r : Report). Fits the_setting 0 (request_of lba) (view_of (requests_of lba) one_plain log 0) (the_course log) r) (sym is) fits);
      sense = subst (λ (l : List LogEntry). SenseFits the_setting (view_of (requests_of lba) one_plain l 0) (the_course l) (report_in chip.memory)) (sym log_is)
          (subst (λ (r : Report). SenseFits the_setting (view_of (requests_of lba) one_plain log 0) (the_course log) r) (sym is) sense);
    }

-- a block of the unit
read-reported : (lba : ℕ) → lba < 64 → (bus : BusState) → IsOpened bus → (chip : Chip BusState) → FromOpening moves lba bus chip → OneReport lba (report_in chip.memory)
read-reported lba h bus o chip f =
    let received : List ℕ = received_of (request_of lba) in
    let q : Performed = transferred true one_plain one_plain.disk (block_at lba) in
    let len : length (block_at lba) ≡ 512 = length-block_at lba h in
    let g : GoesThrough lba (block_at lba) 0 (Ended (after_read lba) read_log) chip = read_goes moves (Ended (after_read lba) read_log) lba (block_at lba) 0 bus chip f len (reads lba h bus o) in
    let m : List ℕ = g.zero_memory in
    let ran : run_log (requests_of lba) one_plain read_log ≡ performed (requests_of lba) (log_result_none one_plain) 0 q = run-read (requests_of lba) one_plain q (one-performed lba (omega arith) ∙ one-read lba received h) in
    let is : report_in chip.memory ≡ report_with 0 (block_at lba) =
    report-in chip.memory 0 (block_at lba) (ap (λ (x : List ℕ). get_or x 0x10014 0) g.memory_is ∙ status-after lba (block_at lba) 0 m g.zeros)
    (ap (λ (x : List ℕ). bytes_at x 0x200000 512) g.memory_is ∙ buffer-read lba (block_at lba) 0 m g.zeros len) in
    whole lba 0 (block_at lba) read_log q (block_at lba) bus chip o f g ran (sym (ap (λ (x : Performed). x.unit) (one-read lba [] h))) is tally-read refl (ap (λ (n : ℕ). 512 - n) (sym len)) (sym (filled-whole (block_at lba) len))

-- an address past its end
refused-reported : (lba : ℕ) → 64 ≤ lba → lba < 2 ^ 32 → (bus : BusState) → IsOpened bus → (chip : Chip BusState) → FromOpening moves lba bus chip → OneReport lba (report_in chip.memory)
refused-reported lba h fits bus o chip f =
    let received : List ℕ = received_of (request_of lba) in
    let q : Performed = transferred false one_plain one_plain.disk (block_at lba) in
    let g : GoesThrough lba [] 2 (Ended (after_read lba) refused_log) chip = status_goes moves (Ended (after_read lba) refused_log) lba 2 bus chip f (checks lba h fits bus o) in
    let m : List ℕ = g.zero_memory in
    let ran : run_log (requests_of lba) one_plain refused_log ≡ performed (requests_of lba) (log_result_none one_plain) 0 q = run-refused (requests_of lba) one_plain q (one-performed lba fits ∙ one-refused lba received h) in
    let is : report_in chip.memory ≡ report_with 2 submitted =
    report-in chip.memory 2 submitted (ap (λ (x : List ℕ). get_or x 0x10014 0) g.memory_is ∙ status-after lba [] 2 m g.zeros)
    (ap (λ (x : List ℕ). bytes_at x 0x200000 512) g.memory_is ∙ buffer-refused lba 2 m g.zeros) in
    whole lba 2 submitted refused_log q [] bus chip o f g ran (sym (ap (λ (x : Performed). x.unit) (one-refused lba [] h))) is tally-refused refl refl (sym filled-none)

below_or_not : (a b : ℕ) → (a < b) ⊎ (b ≤ a)
below_or_not a b = grind arith

pub reported : Reported
reported lba fits bus o chip f = elim (below_or_not lba 64) [
  | inl h ↦ read-reported lba h bus o chip f
  | inr h ↦ refused-reported lba h fits bus o chip f
]

-- host memory keeps its size
through-size : (lba status : ℕ) (bytes : List ℕ) (P : BusState → Type 0) (chip : Chip BusState) → GoesThrough lba bytes status P chip → length chip.memory ≡ 4194304
through-size lba status bytes P chip g = ap length g.memory_is ∙ length-after lba bytes status g.zero_memory g.zeros

pub memory-size : (lba : ℕ) → lba < 2 ^ 32 → (bus : BusState) → IsOpened bus → (chip : Chip BusState) → FromOpening moves lba bus chip → length chip.memory ≡ 4194304
memory-size lba fits bus o chip f = elim (below_or_not lba 64) [
  | inl h ↦ through-size lba 0 (block_at lba) (Ended (after_read lba) read_log) chip (read_goes moves (Ended (after_read lba) read_log) lba (block_at lba) 0 bus chip f (length-block_at lba h) (reads lba h bus o))
  | inr h ↦ through-size lba 2 [] (Ended (after_read lba) refused_log) chip (status_goes moves (Ended (after_read lba) refused_log) lba 2 bus chip f (checks lba h fits bus o))
]
