-- The numbers of a form fit their fields, and an allowed form has a row.
use Rattle.std.proofs.Common.{◌≡◌, ◌≢◌, ℕ, ℤ, pos, negsuc, zero, suc, ◌+◌, ◌-◌, ◌*◌, ◌%◌, ◌<◌, ◌≤◌, List, [], ◌∷◌, ◌++◌, nat_eq, nat_lt, nat_le, Bool, true, false, not, ◌&&◌, ◌||◌, cond, Option, Some, None, is_some, unwrap_or, slice_get, refl, lit<, sym, ◌∙◌, ap, subst, arith, bit_and, IsTrue, inl, inr}
use Rattle.std.proofs.lemmas.Grind.{common_steps}
use Rattle.std.proofs.lemmas.Bool.Decides.{nat_tests}
use Rattle.std.proofs.lemmas.Bool.{and_parts, cases_Bool, false≢true}
use Rattle.scripts_ops.specs.declared.values.Change.TheVariants as changes
use Rattle.scripts_ops.specs.Table.{row, IsPhase, IsOffset, IsPart, IsCondition, is_wide, is_written, is_read}
use Rattle.scripts_ops.specs.Guess.{offset_of}
use Rattle.scripts_forms.specs.declared.words.Key.{Key}
use Rattle.scripts_forms.specs.declared.shapes.On.{On}
use Rattle.scripts_forms.specs.declared.shapes.On.TheVariants as ons
use Rattle.scripts_forms.specs.declared.shapes.Flags.TheVariants as flagsets
use Rattle.scripts_forms.specs.declared.shapes.Shape.{Shape}
use Rattle.scripts_forms.specs.declared.shapes.Shape.TheVariants as shapes
use Rattle.scripts_forms.specs.declared.shapes.Item.{Item}
use Rattle.scripts_forms.specs.declared.shapes.Item.TheVariants as item
use Rattle.scripts_forms.specs.Tokens.{Token}
use Rattle.scripts_forms.specs.Shapes as form
use Rattle.scripts_asm.specs.declared.faults.Kind.{Kind}
use Rattle.scripts_asm.specs.declared.faults.Kind.TheVariants as kinds
use Rattle.scripts_asm.specs.Assembled.{Givings, numbers, numbers_of, fits_in, value_of, all_known, has_bad_form, has_wide, has_unknown, is_bad_token, is_twice, names_given, fault_by}
use Rattle.scripts_forms.specs.Lines.{Line, Body, Nothing, Absolute, Instruction, BadToken, BadForm}
use Rattle.scripts_ops.specs.Fields.{is_phase}
use Rattle.scripts_asm.specs.Ops.{Numbers, number_at, at, allowed, op_of, AllFit, Fits, AreBytes, is_count, is_part, allowed_on, is_clear, allowed_change, condition_of, change_of, place_of}

-- the greatest value of the k-th value
abbrev hole : List Item → ℕ → ℕ
hole [] k = 0
hole (item.Value most ∷ is) zero = most
hole (item.Value most ∷ is) (suc k) = hole is k
hole (i ∷ is) k = hole is k

fits : (most : ℕ) (n : Option ℕ) → unwrap_or (fits_in most n) 0 ≤ most
fits most None = omega arith
fits most (Some n) = elim (cases_Bool (nat_le n most)) [ inl k ↦ (rw k (grind (arith, nat_tests))) | inr k ↦ (rw k (omega arith)) ]

fits_at : (first : Givings) (is : List Item) (vs : List Token) (k : ℕ) → number_at (numbers first is vs) k ≤ hole is k
fits_at first [] vs k = omega arith
fits_at first (item.Value most ∷ is) [] k = omega arith
fits_at first (item.Value most ∷ is) (v ∷ vs) zero = fits most (value_of first v)
fits_at first (item.Value most ∷ is) (v ∷ vs) (suc k) = fits_at first is vs k
fits_at first (item.Fixed w ∷ is) vs k = fits_at first is vs k
fits_at first (item.Mark m ∷ is) vs k = fits_at first is vs k

pub all_fit : (first : Givings) (s : Shape) (vs : List Token) → AllFit s (numbers first (form.items s) vs)
all_fit first (shapes.Move p) vs = omega (arith, fits_at first (form.items (shapes.Move p)) vs 0)
all_fit first (shapes.MoveFrom p) vs = omega (arith, fits_at first (form.items (shapes.MoveFrom p)) vs 0)
all_fit first shapes.MoveMemory vs = omega (arith, fits_at first (form.items shapes.MoveMemory) vs 0)
all_fit first (shapes.Modify r c s) vs = omega (arith, fits_at first (form.items (shapes.Modify r c s)) vs 0)
all_fit first (shapes.Put r) vs = omega (arith, fits_at first (form.items (shapes.Put r)) vs 0)
all_fit first shapes.Select vs = omega (arith, fits_at first (form.items shapes.Select) vs 0)
all_fit first shapes.WaitDisconnect vs = tt
all_fit first shapes.WaitReselect vs = tt
all_fit first (shapes.Set f) vs = tt
all_fit first (shapes.Clear f) vs = tt
all_fit first (shapes.Jump ons.Always) vs = tt
all_fit first (shapes.Jump (ons.Phase when not p)) vs = tt
all_fit first (shapes.Jump (ons.Byte true true)) vs = (omega (arith, fits_at first (form.items (shapes.Jump (ons.Byte true true))) vs 1), omega (arith, fits_at first (form.items (shapes.Jump (ons.Byte true true))) vs 2))
all_fit first (shapes.Jump (ons.Byte true false)) vs = omega (arith, fits_at first (form.items (shapes.Jump (ons.Byte true false))) vs 1)
all_fit first (shapes.Jump (ons.Byte false true)) vs = (omega (arith, fits_at first (form.items (shapes.Jump (ons.Byte false true))) vs 1), omega (arith, fits_at first (form.items (shapes.Jump (ons.Byte false true))) vs 2))
all_fit first (shapes.Jump (ons.Byte false false)) vs = omega (arith, fits_at first (form.items (shapes.Jump (ons.Byte false false))) vs 1)
all_fit first (shapes.Call ons.Always) vs = tt
all_fit first (shapes.Call (ons.Phase when not p)) vs = tt
all_fit first (shapes.Call (ons.Byte true true)) vs = (omega (arith, fits_at first (form.items (shapes.Call (ons.Byte true true))) vs 1), omega (arith, fits_at first (form.items (shapes.Call (ons.Byte true true))) vs 2))
all_fit first (shapes.Call (ons.Byte true false)) vs = omega (arith, fits_at first (form.items (shapes.Call (ons.Byte true false))) vs 1)
all_fit first (shapes.Call (ons.Byte false true)) vs = (omega (arith, fits_at first (form.items (shapes.Call (ons.Byte false true))) vs 1), omega (arith, fits_at first (form.items (shapes.Call (ons.Byte false true))) vs 2))
all_fit first (shapes.Call (ons.Byte false false)) vs = omega (arith, fits_at first (form.items (shapes.Call (ons.Byte false false))) vs 1)
all_fit first (shapes.Return ons.Always) vs = tt
all_fit first (shapes.Return (ons.Phase when not p)) vs = tt
all_fit first (shapes.Return (ons.Byte true true)) vs = (omega (arith, fits_at first (form.items (shapes.Return (ons.Byte true true))) vs 0), omega (arith, fits_at first (form.items (shapes.Return (ons.Byte true true))) vs 1))
all_fit first (shapes.Return (ons.Byte true false)) vs = omega (arith, fits_at first (form.items (shapes.Return (ons.Byte true false))) vs 0)
all_fit first (shapes.Return (ons.Byte false true)) vs = (omega (arith, fits_at first (form.items (shapes.Return (ons.Byte false true))) vs 0), omega (arith, fits_at first (form.items (shapes.Return (ons.Byte false true))) vs 1))
all_fit first (shapes.Return (ons.Byte false false)) vs = omega (arith, fits_at first (form.items (shapes.Return (ons.Byte false false))) vs 0)
all_fit first (shapes.Int ons.Always) vs = tt
all_fit first (shapes.Int (ons.Phase when not p)) vs = tt
all_fit first (shapes.Int (ons.Byte true true)) vs = (omega (arith, fits_at first (form.items (shapes.Int (ons.Byte true true))) vs 1), omega (arith, fits_at first (form.items (shapes.Int (ons.Byte true true))) vs 2))
all_fit first (shapes.Int (ons.Byte true false)) vs = omega (arith, fits_at first (form.items (shapes.Int (ons.Byte true false))) vs 1)
all_fit first (shapes.Int (ons.Byte false true)) vs = (omega (arith, fits_at first (form.items (shapes.Int (ons.Byte false true))) vs 1), omega (arith, fits_at first (form.items (shapes.Int (ons.Byte false true))) vs 2))
all_fit first (shapes.Int (ons.Byte false false)) vs = omega (arith, fits_at first (form.items (shapes.Int (ons.Byte false false))) vs 1)
all_fit first (shapes.IntFly ons.Always) vs = tt
all_fit first (shapes.IntFly (ons.Phase when not p)) vs = tt
all_fit first (shapes.IntFly (ons.Byte true true)) vs = (omega (arith, fits_at first (form.items (shapes.IntFly (ons.Byte true true))) vs 0), omega (arith, fits_at first (form.items (shapes.IntFly (ons.Byte true true))) vs 1))
all_fit first (shapes.IntFly (ons.Byte true false)) vs = omega (arith, fits_at first (form.items (shapes.IntFly (ons.Byte true false))) vs 0)
all_fit first (shapes.IntFly (ons.Byte false true)) vs = (omega (arith, fits_at first (form.items (shapes.IntFly (ons.Byte false true))) vs 0), omega (arith, fits_at first (form.items (shapes.IntFly (ons.Byte false true))) vs 1))
all_fit first (shapes.IntFly (ons.Byte false false)) vs = omega (arith, fits_at first (form.items (shapes.IntFly (ons.Byte false false))) vs 0)
all_fit first shapes.Nop vs = tt
all_fit first (shapes.Load r true) vs = (omega (arith, fits_at first (form.items (shapes.Load r true)) vs 0), omega (arith, fits_at first (form.items (shapes.Load r true)) vs 1))
all_fit first (shapes.Load r false) vs = omega (arith, fits_at first (form.items (shapes.Load r false)) vs 0)
all_fit first (shapes.Store r true) vs = (omega (arith, fits_at first (form.items (shapes.Store r true)) vs 0), omega (arith, fits_at first (form.items (shapes.Store r true)) vs 1))
all_fit first (shapes.Store r false) vs = omega (arith, fits_at first (form.items (shapes.Store r false)) vs 0)

known_at : (ns : Numbers) (k : ℕ) → all_known ns ≡ true → at ns k ≡ Some (number_at ns k)
known_at [] k h = refl
known_at (None ∷ ns) k h = absurd (false≢true h)
known_at (Some n ∷ ns) zero h = refl
known_at (Some n ∷ ns) (suc k) h = known_at ns k h

phase_is : (p : ℕ) → is_phase p ≡ true → IsPhase p
phase_is p h = grind (arith, nat_tests)

count_is : (o : Option ℕ) (n : ℕ) → o ≡ Some n → is_count o ≡ true → 0 < n
count_is None n e h = absurd (cc)
count_is (Some m) n e h = grind (arith, nat_tests)

offset_is : (n : ℕ) → n < 16777216 → IsOffset (offset_of n)
offset_is n h = elim (cases_Bool (nat_lt n 8388608)) [ inl k ↦ (rw k (grind (arith, nat_tests))) | inr k ↦ (rw k (grind (arith, nat_tests))) ]

not_eight : (s : ℕ) → nat_eq s 8 ≡ false → s ≢ 8
not_eight s k = grind (arith, nat_tests)

same_number : (r s : ℕ) → nat_eq r s ≡ true → r ≡ s
same_number r s k = grind (arith, nat_tests)

chosen_no : (b x y : Bool) → b ≡ false → cond b x y ≡ true → y ≡ true
chosen_no b x y k h = rw k at h

chosen_yes : (b x y : Bool) → b ≡ true → cond b x y ≡ true → x ≡ true
chosen_yes b x y k h = rw k at h

change_fields : (r : ℕ) (c : changes.the_data) (s d : ℕ) → allowed_change r s ≡ true → d < 256 → (row (change_of r c s d)).fields
change_fields r c s d h l = elim (cases_Bool (nat_eq s 8)) [
  | inl k ↦ rw k (rw k at h, l)
  | inr k ↦ elim (cases_Bool (nat_eq r 8)) [
    | inl j ↦ rw (k, j) (chosen_yes (nat_eq r 8) (is_written s) (nat_eq r s && is_written r) j (chosen_no (nat_eq s 8) (is_read r) (cond (nat_eq r 8) (is_written s) (nat_eq r s && is_written r)) k h), not_eight s k, l)
    | inr j ↦ (let (same, read) = and_parts (nat_eq r s) (is_written r) (chosen_no (nat_eq r 8) (is_written s) (nat_eq r s && is_written r) j (chosen_no (nat_eq s 8) (is_read r) (cond (nat_eq r 8) (is_written s) (nat_eq r s && is_written r)) k h)) in rw (k, j) (rw (same_number r s same) at read, not_eight s k, l))
  ]
]

clear_is : (o q : Option ℕ) (v m : ℕ) → o ≡ Some v → q ≡ Some m → is_clear o q ≡ true → bit_and m v ≡ 0
clear_is o q v m e f h = same_number (bit_and m v) 0 (rw (e, f) at h)

condition_fields : (on : On) (ns : Numbers) (i : ℕ) → allowed_on on ns i ≡ true → all_known ns ≡ true → AreBytes on ns i → IsCondition (condition_of on ns i)
condition_fields ons.Always ns i h k f = tt
condition_fields (ons.Phase when not p) ns i h k f = phase_is p h
condition_fields (ons.Byte not true) ns i h k f = (f.1, f.0, clear_is (at ns i) (at ns (i + 1)) (number_at ns i) (number_at ns (i + 1)) (known_at ns i k) (known_at ns (i + 1) k) h)
condition_fields (ons.Byte not false) ns i h k f = (lit< tt, f, refl)

part_is : (r : ℕ) (o : Option ℕ) (n : ℕ) → o ≡ Some n → is_part r o ≡ true → IsPart r n
part_is r None n e h = absurd (cc)
part_is r (Some m) n e h =
    let same : m ≡ n = cc in
    let (front, small) = and_parts (is_wide r && not (nat_eq m 0)) (nat_le (r % 4 + m) 4) h in
    let (wide, some) = and_parts (is_wide r) (not (nat_eq m 0)) front in
    (wide, grind (arith, nat_tests), grind (arith, nat_tests))

pub fields_of : (s : Shape) (ns : Numbers) → allowed s ns ≡ true → all_known ns ≡ true → AllFit s ns → (row (op_of s ns)).fields
fields_of (shapes.Move p) ns h k f = let (a, b) = and_parts (is_phase p) (is_count (at ns 0)) h in (phase_is p a, count_is (at ns 0) (number_at ns 0) (known_at ns 0 k) b, f)
fields_of (shapes.MoveFrom p) ns h k f = (phase_is p h, offset_is (number_at ns 0) f)
fields_of shapes.MoveMemory ns h k f = (count_is (at ns 0) (number_at ns 0) (known_at ns 0 k) h, f)
fields_of (shapes.Modify r c s) ns h k f = change_fields r c s (number_at ns 0) h f
fields_of (shapes.Put r) ns h k f = (h, f)
fields_of shapes.Select ns h k f = offset_is (number_at ns 0) f
fields_of shapes.WaitDisconnect ns h k f = tt
fields_of shapes.WaitReselect ns h k f = tt
fields_of (shapes.Set flagsets.Ack) ns h k f = refl
fields_of (shapes.Set flagsets.Atn) ns h k f = refl
fields_of (shapes.Set flagsets.Both) ns h k f = refl
fields_of (shapes.Clear flagsets.Ack) ns h k f = refl
fields_of (shapes.Clear flagsets.Atn) ns h k f = refl
fields_of (shapes.Clear flagsets.Both) ns h k f = refl
fields_of (shapes.Jump on) ns h k f = condition_fields on ns 1 h k f
fields_of (shapes.Call on) ns h k f = condition_fields on ns 1 h k f
fields_of (shapes.Return on) ns h k f = condition_fields on ns 0 h k f
fields_of (shapes.Int on) ns h k f = condition_fields on ns 1 h k f
fields_of (shapes.IntFly on) ns h k f = condition_fields on ns 0 h k f
fields_of shapes.Nop ns h k f = tt
fields_of (shapes.Load r true) ns h k f = (part_is r (at ns 0) (number_at ns 0) (known_at ns 0 k) h, offset_is (number_at ns 1) f.1)
fields_of (shapes.Load r false) ns h k f = (part_is r (at ns 0) (number_at ns 0) (known_at ns 0 k) h, tt)
fields_of (shapes.Store r true) ns h k f = (part_is r (at ns 0) (number_at ns 0) (known_at ns 0 k) h, offset_is (number_at ns 1) f.1)
fields_of (shapes.Store r false) ns h k f = (part_is r (at ns 0) (number_at ns 0) (known_at ns 0 k) h, tt)

not_not : (b : Bool) → not b ≡ false → b ≡ true
not_not true h = refl
not_not false h = absurd (false≢true (sym h))

pub body_fits : (first : Givings) (body : Body) → Fits body (numbers_of first body)
body_fits first (Instruction s vs) = all_fit first s vs
body_fits first Nothing = tt
body_fits first (Absolute name n) = tt
body_fits first BadToken = tt
body_fits first BadForm = tt

pub line_fields : (body : Body) (s : Shape) (vs : List Token) (ns : Numbers) → body ≡ Instruction s vs → Fits body ns → has_bad_form body ns ≡ false → has_wide body ns ≡ false → (row (op_of s ns)).fields
line_fields body s vs ns e f h k = fields_of s ns (not_not (allowed s ns) (rw e at h)) (not_not (all_known ns) (rw e at k)) (rw e at f)

-- ---- a line without a fault

none_chosen : (b : Bool) (k : Kind) (y : Option Kind) → cond b (Some k) y ≡ None → (b ≡ false) × (y ≡ None)
none_chosen true k y e = absurd (cc)
none_chosen false k y e = (refl, e)

pub without_fault : (first : Givings) (k count : ℕ) (l : Line) (ns : Numbers) → fault_by first k count l ns ≡ None → (has_bad_form l.body ns ≡ false) × (has_wide l.body ns ≡ false)
without_fault first k count l ns e =
    let (_, e1) = none_chosen (is_bad_token l.body) kinds.BadToken _ e in
    let (form, e2) = none_chosen (has_bad_form l.body ns) kinds.BadForm _ e1 in
    let (_, e3) = none_chosen (is_twice first k (names_given l)) kinds.TwiceLabel _ e2 in
    let (_, e4) = none_chosen (has_unknown first l.body) kinds.UnknownLabel _ e3 in
    let (wide, _) = none_chosen (has_wide l.body ns) kinds.TooWide _ e4 in
    (form, wide)
