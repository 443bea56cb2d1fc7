use Rattle.rig_chains.proofs.FindingLaws.{finds_targets, leaves_out_seven, finds_luns, finds_itself}
use Rattle.rig_chains.proofs.laws.units_are_found.Goals as goal

pub returns : goal.returns
returns c = record { targets = finds_targets; seven = leaves_out_seven; luns = finds_luns; itself = finds_itself }
