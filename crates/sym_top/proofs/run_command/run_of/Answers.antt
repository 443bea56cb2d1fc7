use Rattle.std.proofs.Common.{rules, ◌≡◌, ◌∷◌, [], List, ℕ, subst}
use Rattle.sym_top.specs.Running.{SpellsRun}
use Rattle.sym_top.proofs.run_command.run_of.Goals as goal

pub returns-in-len5-clause-none : goal.returns-in-len5-clause-none
returns-in-len5-clause-none c none a s =
    let five : c.args.words.now ≡ c.name-item.result ∷ c.rig-item.result ∷ c.work-item.result ∷ c.seed-item.result ∷ c.trace-item.result ∷ [] = search rules in
    c.with_name.ensures.none none a (subst (λ (ws : List (List ℕ)). SpellsRun ws a) five s)
