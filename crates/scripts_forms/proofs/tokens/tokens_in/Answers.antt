use Rattle.std.proofs.Common.{◌≡◌, [], sym, ◌∙◌, length, rules}
use Rattle.std.proofs.lemmas.List.{append-nil}
use Rattle.scripts_forms.specs.Tokens.{tokens_in}
use Rattle.scripts_forms.specs.Seen.{all_seen}
use Rattle.scripts_forms.proofs.Pieces.{tokens_in_none}
use Rattle.scripts_forms.proofs.tokens.tokens_in.Goals as goal

pub returns : goal.returns
returns c =
    let empty : length c.loop-text.text.now ≡ 0 = search rules in
    let none : tokens_in c.loop-text.text.now ≡ [] = tokens_in_none c.loop-text.text.now empty in
    sym (append-nil (all_seen c.loop-text.tokens.items)) ∙ (rw none at c.loop-text.invariant)
