use Rattle.std.proofs.Common.{◌≡◌, ◌<◌, ◌≤◌, ◌∙◌, ℕ, List, length, slice_index_or, sym, ap, arith}
use Rattle.rig_types.specs.declared.commands.WhenFull.{WhenFull}
use Rattle.pool_run.proofs.Openings.{fresh_sees, fresh_rests}
use Rattle.pool_run.proofs.Endings.{work_lines, work_drained}
use Rattle.pool_run.proofs.working.work.Goals as goal

pub submit_lines-requires-clause-rests : goal.submit_lines-requires-clause-rests
submit_lines-requires-clause-rests g c =
    let same : c.as_slice-choices.result.now ≡ c.args.pool.now.choices = c.as_slice-choices.ensures in
    let counts = ap (λ (css : List (List WhenFull)). length css) same in
    let within : c.args.caller < length c.args.pool.now.choices = omega (arith, counts, c.if-place-choices.true, c.from-place.ensures) in
    let line : c.as_slice.result.now ≡ slice_index_or c.args.pool.now.choices c.args.caller c.as_slice.result.now =
    c.as_slice.ensures.choices
    ∙ c.index-choices-place.is
    ∙ ap (λ (css : List (List WhenFull)). slice_index_or css c.from-place.result c.index-choices-place.result) same
    ∙ ap (λ (n : ℕ). slice_index_or c.args.pool.now.choices n c.index-choices-place.result) c.from-place.ensures
    ∙ ap (λ (d : List WhenFull). slice_index_or c.args.pool.now.choices c.args.caller d) (sym c.as_slice.ensures.choices) in
    fresh_rests _ _ c.requires.fresh c.args.caller c.as_slice.result.now c.requires.caller within line

pub returns-then-place-choices-clause-ok : goal.returns-then-place-choices-clause-ok
returns-then-place-choices-clause-ok g c =
    let same : c.as_slice-choices.result.now ≡ c.args.pool.now.choices = c.as_slice-choices.ensures in
    let counts = ap (λ (css : List (List WhenFull)). length css) same in
    let within : c.args.caller < length c.args.pool.now.choices = omega (arith, counts, c.if-place-choices.true, c.from-place.ensures) in
    work_lines _ _ _ c.requires.fresh c.submit_lines.ensures.follows c.args.caller c.as_slice.result.now _ within c.submit_lines.ensures.ok

pub abort_worker-requires-clause-sees : goal.abort_worker-requires-clause-sees
abort_worker-requires-clause-sees g c = fresh_sees _ _ c.requires.fresh

pub reaper_worker-requires-clause-sees : goal.reaper_worker-requires-clause-sees
reaper_worker-requires-clause-sees g c = fresh_sees _ _ c.requires.fresh

pub chip_worker-requires-clause-sees : goal.chip_worker-requires-clause-sees
chip_worker-requires-clause-sees g c = fresh_sees _ _ c.requires.fresh

pub returns-in-0-clause-ok : goal.returns-in-0-clause-ok
returns-in-0-clause-ok g c =
    let same : c.as_slice-choices.result.now ≡ c.args.pool.now.choices = c.as_slice-choices.ensures in
    let counts = ap (λ (css : List (List WhenFull)). length css) same in
    let behind : length c.args.pool.now.choices ≤ c.args.caller = omega (arith, counts, c.if-place-choices.false, c.from-place.ensures) in
    work_drained _ _ _ c.requires.fresh c.abort_worker.ensures.follows c.args.caller _ behind c.abort_worker.ensures.ok

pub returns-in-1-clause-ok : goal.returns-in-1-clause-ok
returns-in-1-clause-ok g c =
    let same : c.as_slice-choices.result.now ≡ c.args.pool.now.choices = c.as_slice-choices.ensures in
    let counts = ap (λ (css : List (List WhenFull)). length css) same in
    let behind : length c.args.pool.now.choices ≤ c.args.caller = omega (arith, counts, c.if-place-choices.false, c.from-place.ensures) in
    work_drained _ _ _ c.requires.fresh c.reaper_worker.ensures.follows c.args.caller _ behind c.reaper_worker.ensures.ok

pub returns-in_default-clause-ok : goal.returns-in_default-clause-ok
returns-in_default-clause-ok g c =
    let same : c.as_slice-choices.result.now ≡ c.args.pool.now.choices = c.as_slice-choices.ensures in
    let counts = ap (λ (css : List (List WhenFull)). length css) same in
    let behind : length c.args.pool.now.choices ≤ c.args.caller = omega (arith, counts, c.if-place-choices.false, c.from-place.ensures) in
    work_drained _ _ _ c.requires.fresh c.chip_worker.ensures.follows c.args.caller _ behind c.chip_worker.ensures.ok
