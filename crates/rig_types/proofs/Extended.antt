-- A work with one command more keeps the ranges of a work.
use Rattle.std.proofs.Common.{arith, ◌≡◌, ◌<◌, ◌≤◌, ◌+◌, ◌++◌, ◌∷◌, ℕ, zero, suc, List, [], length, map, sum, sum_by, slice_index, slice_index_or, slice_set, refl, sym, ap, subst, ◌∙◌, All, Result, Ok, Err, OnOk, OnErr, Fits, w32}
use Rattle.std.proofs.lemmas.List.{get_or_default, length-append, length-map, length-set, map-set}
use Rattle.std.proofs.lemmas.List.Sums.{sum_by-cons, sum_by-set}
use Rattle.std.proofs.lemmas.List.Elements.{All-push, All-set, All-get_or, All-weaker}
use Rattle.rig_types.specs.declared.acts.Act.{Act}
use Rattle.rig_types.specs.declared.acts.ActKind.TheVariants.{Abort}
use Rattle.rig_types.specs.declared.commands.Command.{Command}
use Rattle.rig_types.specs.declared.step.Line.{Line}
use Rattle.rig_types.specs.Works.{IsCommand, IsAct, IsWork, counts_of, extended}

one-more : (cs : List Command) (c : Command) → length (cs ++ c ∷ []) ≡ length cs + 1
one-more cs c = length-append cs (c ∷ [])

-- how many commands each submitter has then
abbrev raised : List ℕ → ℕ → List ℕ
raised ns s = slice_set ns s (slice_index ns s + 1)

count-at : (ss : List (List Command)) (s : ℕ) → slice_index (counts_of ss) s ≡ length (slice_index_or ss s [])
count-at [] s = refl
count-at (cs ∷ ss) zero = refl
count-at (cs ∷ ss) (suc s) = count-at ss s

counts-raised : (ss : List (List Command)) (s : ℕ) (c : Command) → counts_of (extended ss s c) ≡ raised (counts_of ss) s
counts-raised ss s c =
    map-set (λ (cs : List Command). length cs) ss s (slice_index_or ss s [] ++ c ∷ [])
    ∙ ap (λ (n : ℕ). slice_set (counts_of ss) s n) (one-more (slice_index_or ss s []) c ∙ ap (λ (n : ℕ). n + 1) (sym (count-at ss s)))

not-less : (ns : List ℕ) (s i : ℕ) → slice_index ns i ≤ slice_index (raised ns s) i
not-less [] s i = omega arith
not-less (n ∷ ns) zero zero = omega arith
not-less (n ∷ ns) zero (suc i) = omega arith
not-less (n ∷ ns) (suc s) zero = omega arith
not-less (n ∷ ns) (suc s) (suc i) = not-less ns s i

sum-raised : (ns : List ℕ) (s : ℕ) → s < length ns → sum (raised ns s) ≡ sum ns + 1
sum-raised ns s l = omega (arith, sum_by-set (λ (n : ℕ). n) ns s (slice_index ns s + 1) 0 l)

act-stays : (ns : List ℕ) (s : ℕ) → s < length ns → (a : Act) → IsAct ns a → IsAct (raised ns s) a
act-stays ns s l a h = record {
  abort = λ (x : Line) (e : a.kind ≡ Abort x). omega (arith, h.abort x e, not-less ns s x.submitter);
  device = h.device;
  after = omega (arith, h.after, sum-raised ns s l);
}

acts-stay : (ns : List ℕ) (s : ℕ) → s < length ns → (acts : List Act) → All (IsAct ns) acts → All (IsAct (raised ns s)) acts
acts-stay ns s l acts h = All-weaker (IsAct ns) (IsAct (raised ns s)) (act-stays ns s l) acts h

pub extended_is_work : (ss : List (List Command)) (acts : List Act) (s : ℕ) (c : Command) → IsWork ss acts → s < length ss → IsCommand c → sum (counts_of ss) < 2147483648
    → IsWork (extended ss s c) acts
extended_is_work ss acts s c h l i few =
    let there : s < length (counts_of ss) = subst (λ (n : ℕ). s < n) (sym (length-map ss (λ (cs : List Command). length cs))) l in record {
      few_submitters = subst (λ (n : ℕ). n ≤ 16) (sym (length-set ss s _)) h.few_submitters;
      few_commands = omega (arith, few, ap sum (counts-raised ss s c), sum-raised (counts_of ss) s there);
      commands = All-set (All IsCommand) ss s _ (All-push IsCommand _ c (All-get_or (All IsCommand) ss s [] l h.commands) i) h.commands;
      few_acts = h.few_acts;
      each_act = subst (λ (ns : List ℕ). All (IsAct ns) acts) (sym (counts-raised ss s c)) (acts-stay (counts_of ss) s there acts h.each_act);
    }

at-most-all : (ns : List ℕ) (i : ℕ) → slice_index ns i ≤ sum ns
at-most-all [] i = omega arith
at-most-all (n ∷ ns) zero = omega (arith, sum_by-cons (λ (x : ℕ). x) n ns)
at-most-all (n ∷ ns) (suc i) = omega (arith, at-most-all ns i, sum_by-cons (λ (x : ℕ). x) n ns)

pub few_commands : (ss : List (List Command)) (s : ℕ) → sum (counts_of ss) < 2147483648 → length (slice_index_or ss s []) < 4294967296
few_commands ss s few = omega (arith, few, count-at ss s, at-most-all (counts_of ss) s)

-- after a push, which may have met want of memory
pub work_after : {T E : Type 0} (r : Result T E) (ss new : List (List Command)) (acts : List Act) (s : ℕ) (c : Command) → OnOk r (new ≡ extended ss s c) → OnErr r (new ≡ ss)
    → IsWork (extended ss s c) acts → IsWork ss acts → IsWork new acts
work_after (Ok x) ss new acts s c ok err more same = subst (λ (xs : List (List Command)). IsWork xs acts) (sym ok) more
work_after (Err x) ss new acts s c ok err more same = subst (λ (xs : List (List Command)). IsWork xs acts) (sym err) same

pub count_fits : (ss xs : List (List Command)) (s : ℕ) (cs ds : List Command) → s < length ss → sum (counts_of ss) < 2147483648 → xs ≡ ss → cs ≡ slice_index_or xs s cs → ds ≡ cs
    → Fits w32 (length ds)
count_fits ss xs s cs ds l few e f g =
    let number : length ds ≡ length (slice_index_or ss s []) =
    ap (λ (x : List Command). length x) (g ∙ f ∙ ap (λ (y : List (List Command)). slice_index_or y s cs) e ∙ get_or_default ss s cs [] l) in omega (arith, number, few_commands ss s few)
