-- A work that is read keeps its ranges.
use Rattle.std.proofs.Common.{◌≡◌, ℕ, ◌≤◌, Bool, true, false, ltb, ◌||◌, List, [], ◌∷◌, length, map, refl, sym, ap, ◌∙◌, arith, Vec, Global}
use Rattle.std.specs.Prelude.{sum}
use Rattle.std.specs.List.{All}
use Rattle.std.proofs.lemmas.Bool.{ltb-false}
use Rattle.std.proofs.lemmas.List.{length-map}
use Rattle.rig_types.specs.declared.commands.Command.{Command}
use Rattle.rig_types.specs.declared.acts.Act.{Act}
use Rattle.rig_types.specs.Works.{IsCommand, IsAct, IsWork, counts_of as counts_in}
use Rattle.work_reader.specs.declared.spelled.Spelled.{Spelled}
use Rattle.work_reader.specs.WorkFile.{PlainSpelled, plain, filled, views, counts_of, total_bytes, is_too_large}

heads : {A : Type 0} (d : A) (x y : A) (xs ys : List A) → x ∷ xs ≡ y ∷ ys → x ≡ y
heads d x y xs ys e = cc

tails : {A : Type 0} (x y : A) (xs ys : List A) → x ∷ xs ≡ y ∷ ys → xs ≡ ys
tails x y xs ys e = cc

-- the commands with their bytes are as many
pub counts_same : (ss : List (List Command)) (vs : List (List PlainSpelled)) → map (λ (s : List Command). map plain s) ss ≡ map (λ (v : List PlainSpelled). map filled v) vs → counts_in ss ≡ counts_of vs
counts_same [] [] e = refl
counts_same [] (v ∷ vs) e = absurd cc
counts_same (s ∷ ss) [] e = absurd cc
counts_same (s ∷ ss) (v ∷ vs) e =
    let first : map plain s ≡ map filled v = heads (map plain s) _ _ _ _ e in
    let n : length s ≡ length v = sym (length-map s plain) ∙ ap length first ∙ length-map v filled in
    ap (λ x. x ∷ counts_in ss) n ∙ ap (λ xs. length v ∷ xs) (counts_same ss vs (tails _ _ _ _ e))

or_left : (a b : Bool) → (a || b) ≡ false → a ≡ false
or_left true b e = absurd cc
or_left false b e = refl

pub few : (vs : List (List PlainSpelled)) → is_too_large vs ≡ false → sum (counts_of vs) ≤ 4096
few vs e = ltb-false _ _ (or_left (ltb 4096 (sum (counts_of vs))) (ltb 67108864 (total_bytes vs)) e)

pub is_work : (ss : List (List Command)) (acts : List Act) (spelled : List (Vec Spelled Global)) (n m : ℕ)
    → map (λ (s : List Command). map plain s) ss ≡ map (λ (v : List PlainSpelled). map filled v) (views spelled) → is_too_large (views spelled) ≡ false
    → length spelled ≡ n → n ≤ 16 → All (All IsCommand) ss → length acts ≡ m → m ≤ 64 → All (IsAct (counts_of (views spelled))) acts → IsWork ss acts
is_work ss acts spelled n m value small len_n few_n commands len_m few_m valid =
    let same = counts_same ss (views spelled) value in
    let len : length ss ≡ length spelled = sym (length-map ss (λ (s : List Command). map plain s)) ∙ ap length value ∙ length-map (views spelled) (λ (v : List PlainSpelled). map filled v) ∙ length-map spelled _ in
    record {
      few_submitters = omega (arith, len, len_n, few_n);
      few_commands = rw same (omega (arith, few (views spelled) small));
      commands = commands;
      few_acts = omega (arith, len_m, few_m);
      each_act = rw same valid;
    }
