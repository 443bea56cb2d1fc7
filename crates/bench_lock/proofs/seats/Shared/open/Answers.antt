use Rattle.std.proofs.Common.{rules, ap, ◌∙◌, ◌≡◌, ◌<◌, ◌^◌, [], ◌∷◌, ◌++◌, sym, subst, List, length}
use Rattle.atomic_table.specs.Table as Table
use Rattle.bench_lock.specs.Rule.{Rule}
use Rattle.bench_lock.specs.Views.{first_view}
use Rattle.bench_lock.proofs.Keeps.{opens}
use Rattle.bench_lock.proofs.seats.Shared.open.Goals as goal

pub new-requires : goal.new-requires
new-requires g c =
    let m = c.of.result.value in
    let same : m ≡ c.args.machine = c.of.ensures in
    let items : c.push.new.self.items ≡ m ∷ [] = c.in_ok-push.ensures.items ∙ (ap (λ (l : List g.row.M.Denot). l ++ c.args.machine ∷ []) c.in_ok-slots.ensures.items ∙ ap (λ (x : g.row.M.Denot). x ∷ []) (sym same)) in
    let count : c.length-count.result ≡ length (g.M.Machine.list m) = c.length-count.ensures ∙ ap (λ (x : g.row.M.Denot). length (g.M.Machine.list x)) (sym same) in
    let few : c.args.callers < 2 ^ 32 = search rules in
    subst (λ (xs : List g.row.M.Denot). Rule g.M.Machine.opening g.M.Machine.list (g.M.Machine.opening m) (length (g.M.Machine.list m)) c.args.callers (Table.opening (0 ∷ 0 ∷ c.length-count.result ∷ []) xs (first_view (g.M.Machine.opening m) (g.M.Machine.list m) c.args.callers)))
    (sym items) (opens g.M.Machine.opening g.M.Machine.list m c.args.callers c.length-count.result c.requires few count)
