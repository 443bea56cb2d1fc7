use Rattle.std.proofs.Common.{◌≡◌, ◌<◌, length, arith}
use Rattle.std.proofs.lemmas.Grind.{common_steps}
use Rattle.sym_io.specs.ByName.{place_by_name}
use Rattle.sym_io.proofs.FirstOfName.{set-with_file, push-with_file}
use Rattle.sym_io.proofs.files.insert.Goals as goal

pub returns-then-at-len-clause-stored : goal.returns-then-at-len-clause-stored
returns-then-at-len-clause-stored c =
    let at : c.place_of-at.result ≡ place_by_name c.args.files.now.items c.args.file.name = grind (arith, common_steps) in
    let here : c.place_of-at.result < length c.args.files.now.items = grind (arith, common_steps) in
    set-with_file c.args.files.now.items c.place_of-at.result c.args.file at here

pub returns-in_ok-push-clause-stored : goal.returns-in_ok-push-clause-stored
returns-in_ok-push-clause-stored c = grind (arith, common_steps, push-with_file)
