use Rattle.std.proofs.Common.{◌≡◌, ℕ, true, false, length, sym, ap, subst, ◌∙◌}
use Rattle.run_law.specs.Serial.{next_word, eager, is_over}
use Rattle.serial_run.specs.Histories.{IsRound}
use Rattle.serial_run.proofs.Rounds.{IsUnderWay, run_begins, run_goes_on, run_ends}
use Rattle.serial_run.proofs.driving.drive.Goals as goal

pub loop-bench-init : goal.loop-bench-init
loop-bench-init c = run_begins c.args.seed c.args.bench c.requires c.list_is_lawful.ensures.lawful

pub loop-bench-preserved : goal.loop-bench-preserved
loop-bench-preserved c =
    let over : is_over c.loop-bench.bench.setting (length c.loop-bench.bench.entries) c.loop-bench.bench.world ≡ false = cc (c.loop-bench-test.true, c.loop-bench-test.ensures, c.is_over.ensures) in
    let round : IsRound (eager (next_word c.loop-bench.word)) c.loop-bench.bench c.round.new.bench =
    subst (λ (w : ℕ). IsRound w c.loop-bench.bench c.round.new.bench) (c.eager.ensures ∙ ap eager c.next_word-word.ensures) c.in_ok-round.ensures in
    subst (λ (w : ℕ). IsUnderWay c.args.bench.setting c.args.seed w c.round.new.bench) (sym c.next_word-word.ensures)
    (run_goes_on c.args.bench.setting c.args.seed c.loop-bench.word c.loop-bench.bench c.round.new.bench over c.loop-bench.invariant round)

pub returns-clause-serial : goal.returns-clause-serial
returns-clause-serial c =
    let over : is_over c.loop-bench.bench.setting (length c.loop-bench.bench.entries) c.loop-bench.bench.world ≡ true = cc (c.loop-bench-test.false, c.loop-bench-test.ensures, c.is_over.ensures) in
    run_ends c.args.bench.setting c.args.seed c.loop-bench.word c.loop-bench.bench over c.loop-bench.invariant c.list_is_lawful-2.ensures.lawful
