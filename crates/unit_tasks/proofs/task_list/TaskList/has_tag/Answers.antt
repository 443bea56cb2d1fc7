use Rattle.std.proofs.Common.{rules, ◌∙◌}
use Rattle.std.proofs.lemmas.List.Sorted.{answers_always}
use Rattle.target_law.specs.Session.{Task}
use Rattle.unit_tasks.proofs.Places.{searched}
use Rattle.unit_tasks.proofs.task_list.TaskList.has_tag.Goals as goal

pub returns : goal.returns
returns c =
    let facts = c.binary_search_by_key.ensures in
    let by_tag = facts.position (λ (k : Task). k.tag) (answers_always _ _ _ (λ f a r g called. search rules)) in
    rw (← c.self.view_is) (c.is_ok.ensures.value ∙ searched _ c.self.invariant.rising c.args.tag _ (rw c.deref.ensures.value at facts.bound) (rw c.deref.ensures.value at by_tag))
