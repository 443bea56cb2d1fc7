-- A run is ASCII, so it is text.
use Rattle.std.proofs.Common.{◌≡◌, ℕ, suc, ◌+◌, ◌<◌, List, [], ◌∷◌, length, take, Bool, true, false, ◌&&◌, refl, arith, get_or, inl, inr, IsTrue}
use Rattle.std.proofs.lemmas.Grind.{common_steps}
use Rattle.std.proofs.lemmas.Bool.{and_parts, cases_Bool, false≢true}
use Rattle.std.proofs.lemmas.Bool.Decides.{nat_tests}
use Rattle.std.proofs.lemmas.Str.{IsUtf8-from_ascii}
use Rattle.std.proofs.lemmas.Str.Ascii.{IsAscii-nil, IsAscii-cons}
use Rattle.std.specs.List.{list_all, prefix_len}
use Rattle.std.specs.Str.{IsAscii, IsUtf8}
use Rattle.scripts_forms.specs.Tokens.{in_run}
use Rattle.scripts_forms.proofs.Pieces.{take_one_more}

run_byte : (b : ℕ) → in_run b ≡ true → b < 128
run_byte b h = grind (arith, nat_tests)

run_is_ascii : (bs : List ℕ) → list_all in_run bs ≡ true → IsAscii bs
run_is_ascii [] h = IsAscii-nil
run_is_ascii (b ∷ bs) h =
    let (one, more) = and_parts (in_run b) (list_all in_run bs) h in
    IsAscii-cons b bs (run_byte b one) (run_is_ascii bs more)

pub run_is_text : (bs : List ℕ) → IsTrue (list_all in_run bs) → IsUtf8 bs
run_is_text bs h = IsUtf8-from_ascii bs (run_is_ascii bs h)

pub prefix_is_run : (bs : List ℕ) → IsTrue (list_all in_run (take (prefix_len in_run bs) bs))
prefix_is_run [] = refl
prefix_is_run (b ∷ bs) = elim (cases_Bool (in_run b)) [
  | inl k ↦ rw (k, take_one_more (prefix_len in_run bs) b bs, k) (prefix_is_run bs)
  | inr k ↦ rw k refl
]
