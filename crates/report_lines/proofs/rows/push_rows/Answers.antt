use Rattle.std.proofs.Common.{◌≡◌, ◌<◌, ◌++◌, min, length, take, drop, arith}
use Rattle.std.proofs.lemmas.Grind.{common_steps}
use Rattle.report_lines.specs.Lines.{data_line}
use Rattle.report_lines.proofs.RowCounts.{data_rows-preserved, data_rows-done}
use Rattle.report_lines.proofs.rows.push_rows.Goals as goal

pub loop-rest-preserved : goal.loop-rest-preserved
loop-rest-preserved c =
    let some : 0 < length c.loop-rest.rest.now = grind (arith, common_steps) in
    let n : length c.split_at.result.0.now ≡ min 32 (length c.loop-rest.rest.now) = grind (arith, common_steps) in
    let front : c.split_at.result.0.now ≡ take (length c.split_at.result.0.now) c.loop-rest.rest.now = grind (arith, common_steps) in
    let back : c.split_at.result.1.now ≡ drop (length c.split_at.result.0.now) c.loop-rest.rest.now = grind (arith, common_steps) in
    let put : c.push_row.new.text.items ≡ c.loop-rest.text.items ++ data_line c.loop-rest.offset c.split_at.result.0.now = grind (arith, common_steps) in
    (grind (arith, common_steps), data_rows-preserved _ _ _ _ _ _ c.loop-rest.offset (length c.split_at.result.0.now) some n front back put c.loop-rest.invariant.1)

pub returns : goal.returns
returns c =
    let none : length c.loop-rest.rest.now ≡ 0 = grind (arith, common_steps) in
    data_rows-done _ _ _ c.loop-rest.offset none c.loop-rest.invariant.1
