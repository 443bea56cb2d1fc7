use Rattle.std.proofs.Common.{◌≡◌, ◌+◌, inr, Some, length, arith, ap, sym, subst, ◌∙◌, true}
use Rattle.rig_types.specs.declared.step.Step.{Step}
use Rattle.bench_lock.specs.declared.view.View.{View}
use Rattle.bench_lock.specs.Log.{has}
use Rattle.bench_lock.proofs.OwnedNumbers.{has-numbers_from, all_of_first}
use Rattle.world_law.specs.World.{BenchSetting}
use Rattle.pool_run.specs.Callers.{GivesUp}
use Rattle.pool_run.proofs.Endings.{drains_behind, ok_map, err_map, pool_end}
use Rattle.pool_run.proofs.pool.run_pool.Goals as goal

pub run_from-seat-requires-clause-spare : goal.run_from-seat-requires-clause-spare
run_from-seat-requires-clause-spare g c κs within = λ x le lt. subst (λ (w : View BenchSetting Step). has x w.spare ≡ true) (sym c.in_ok-shared.ensures.view) (has-numbers_from x 1 _ le (omega arith))

pub close-bench-requires-clause-all : goal.close-bench-requires-clause-all
close-bench-requires-clause-all g c = λ x lt. all_of_first _ _ _ _ _ c.in_ok-shared.ensures.view c.run_from-seat.ensures.follows x lt

pub returns-clause-end : goal.returns-clause-end
returns-clause-end g c =
    let bench = c.close-bench.result in
    let first = c.in_ok-shared.seat.view in
    let last = c.run_from-seat.result.0.view in
    let answer = c.run_from-seat.result.1 in
    let opens : first.opening ≡ Some bench.setting = sym c.run_from-seat.ensures.follows.opening ∙ c.close-bench.ensures.opening in
    let opened : first.opening ≡ Some c.args.bench.setting = ap (λ (w : View BenchSetting Step). w.opening) c.in_ok-shared.ensures.view in
    let both : Some bench.setting ≡ Some c.args.bench.setting = sym opens ∙ opened in
    let same : bench.setting ≡ c.args.bench.setting = cc in
    let count : length bench.setting.submitters ≡ c.submitter_count.result = ap (λ (s : BenchSetting). length s.submitters) same ∙ sym c.submitter_count.ensures.submitters in
    pool_end bench.setting last.seen bench.entries bench.world answer c.in_ok-outcome.ensures
    (ok_map answer
    (λ h. drains_behind bench.setting (length bench.setting.submitters + 1) last.seen (omega arith)
    (h bench.setting opens (length bench.setting.submitters + 1) (inr (omega arith, omega (arith, count)))))
    c.run_from-seat.ensures.ok)
    (err_map (λ e. (s : BenchSetting) → first.opening ≡ Some s → GivesUp s last.seen e) (GivesUp bench.setting last.seen) answer (λ e h. h bench.setting opens) c.run_from-seat.ensures.fault)
    c.close-bench.ensures.list c.list_is_lawful.ensures.lawful c.list_is_lawful.ensures.within
