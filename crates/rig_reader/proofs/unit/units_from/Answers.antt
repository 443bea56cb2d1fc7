use Rattle.std.proofs.Common.{◌≡◌, ◌+◌, [], ◌∷◌, drop, arith, length-append}
use Rattle.std.proofs.lemmas.List.Elements.{All-push}
use Rattle.std.proofs.lemmas.List.Quantifiers.{all_pairs_push}
use Rattle.toml.specs.Data.{item}
use Rattle.toml.specs.View.{view, items_view}
use Rattle.toml.proofs.Views.{items_view-drop}
use Rattle.rig_types.specs.Ranges.{IsUnit, Agree}
use Rattle.rig_reader.specs.RigFile.{units_fault, units_of}
use Rattle.rig_reader.proofs.Units.{faults_on, values_on}
use Rattle.rig_reader.proofs.unit.units_from.Goals as goal

pub loop-n-preserved : goal.loop-n-preserved
loop-n-preserved c =
    let entries = c.args.entries.now in
    let n = c.loop-n.n in
    let us = c.loop-n.units.items in
    let v = c.index-entries-n.result in
    let more : items_view (drop n entries) ≡ item (view v) (items_view (drop (n + 1) entries)) = rw (items_view-drop entries n v c.loop-n-test.true, ← c.index-entries-n.is) in
    let rest = items_view (drop (n + 1) entries) in
    let u = c.in_ok-unit.unit in
    let none = rw c.as_slice.ensures.value at c.in_ok-unit.ensures.reads.0 in
    record {
      faults = rw c.in_ok-push.ensures.items (faults_on c.args.version n us (view v) rest u (units_fault c.args.version 0 [] (items_view entries)) none c.in_ok-unit.ensures.reads.1 (rw more at c.loop-n.invariant.faults));
      values = rw c.in_ok-push.ensures.items (values_on c.args.version us (view v) rest u (units_of c.args.version (items_view entries)) c.in_ok-unit.ensures.reads.1 (rw more at c.loop-n.invariant.values));
      len = rw c.in_ok-push.ensures.items (omega (arith, c.loop-n.invariant.len, length-append us (u ∷ [])));
      valid = rw c.in_ok-push.ensures.items (All-push (IsUnit c.args.version) us u c.loop-n.invariant.valid c.in_ok-unit.ensures.valid);
      agree = rw c.in_ok-push.ensures.items (all_pairs_push Agree us u c.loop-n.invariant.agree (rw c.as_slice.ensures.value at c.in_ok-unit.ensures.agree));
    }
