use Rattle.std.proofs.Common.{◌≡◌, sym, ap, ◌∙◌, Option, Some, None, map, string_bytes, drop}
use Rattle.std.proofs.IntoIterSteps.{All-taken}
use Rattle.std.proofs.lemmas.List.{nil_from_length}
use Rattle.std.specs.Vec.Iter.{into_iter_items, into_iter_steps}
use Rattle.std.specs.declared.vec.IntoIter.{IntoIter}
use Rattle.sym_top.proofs.words.words_of.Goals as goal

-- what an iterator leaves behind its first item
behind : {X A : Type 0} (r : Option X) (s t : IntoIter X A) → into_iter_steps s r t → drop 1 (into_iter_items s) ≡ into_iter_items t
behind None s t h =
    ap (drop 1) (nil_from_length (into_iter_items s) (sym s.rest.ok.0 ∙ h.0)) ∙ sym (nil_from_length (into_iter_items t) (sym t.rest.ok.0 ∙ h.1))
behind (Some x) s t h = ap (drop 1) h.0

pub returns : goal.returns
returns c =
    let it = c.into_iter-word-iterator.result in
    let taken : c.loop-word.yielded ≡ into_iter_items it =
    All-taken it c.loop-word.yielded (c.next-in-loop-word.new.self, (c.loop-word.word-iterator, c.loop-word.yielded_by, c.in-None.ensures.steps)) in
    c.loop-word.invariant
    ∙ ap (map string_bytes) (taken ∙ ap into_iter_items c.into_iter-word-iterator.ensures.into_iter_gives ∙ sym (behind c.next.result c.args.args c.next.new.self c.next.ensures.cases))
