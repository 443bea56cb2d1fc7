-- Each data move stands at its own address.
use Rattle.std.proofs.Common.{◌≡◌, ◌≢◌, ℕ, suc, ◌+◌, ◌-◌, ◌*◌, ◌/◌, ◌%◌, ◌<◌, ◌≤◌, ◌⊎◌, inl, inr, Bool, true, false, ◌&&◌, nat_eq, nat_lt, nat_le, Option, Some, None, refl, sym, ap, subst, ◌∙◌, arith}
use Rattle.std.specs.Prelude.{if◌then◌else◌}
use Rattle.std.specs.Option.{option_or, option_map}
use Rattle.std.proofs.lemmas.Bool.Decides.{nat_tests}
use Rattle.phase_fix.specs.declared.moves.DataPhase.{DataPhase}
use Rattle.phase_fix.specs.declared.moves.DataPhase.TheVariants.{In, Out}
use Rattle.phase_fix.specs.declared.moves.Entry.{Entry}
use Rattle.phase_fix.specs.declared.moves.Entry.TheVariants.{Segment, Context}
use Rattle.phase_fix.specs.declared.moves.DataMove.{DataMove}
use Rattle.phase_fix.specs.Moves.{IsEntry, first_segment, context_label, number_of, segment_move, context_move, move_at}
use Rattle.phase_fix.specs.Remain.{segment_of_entry, segment_of_move}
use Rattle.phase_fix.specs.Repair.{free_context}

-- the address of a data move
abbrev pub entry_place : DataPhase → Entry → ℕ
entry_place phase (Segment j) = first_segment phase + 8 * j
entry_place phase (Context k) = context_label phase 0 + 0x18 * k

abbrev pub place : DataMove → ℕ
place x = entry_place x.phase x.entry

-- ---- one row of places

if_known : (b : Bool) (q j : ℕ) → (if b then Some q else None) ≡ Some j → (b ≡ true) × (q ≡ j)
if_known true q j h = (refl, cc)
if_known false q j h = cc

segment_known : (first a j : ℕ) → number_of first 8 16 a ≡ Some j → (a ≡ first + 8 * j) × (j < 16)
segment_known first a j h =
    let k = if_known ((nat_le first a && nat_lt a (first + 8 * 16)) && nat_eq ((a - first) % 8) 0) ((a - first) / 8) j h in
    (grind (arith, nat_tests, k.0, k.1), grind (arith, nat_tests, k.0, k.1))

context_known : (first a j : ℕ) → number_of first 0x18 2 a ≡ Some j → (a ≡ first + 0x18 * j) × (j < 2)
context_known first a j h =
    let k = if_known ((nat_le first a && nat_lt a (first + 0x18 * 2)) && nat_eq ((a - first) % 0x18) 0) ((a - first) / 0x18) j h in
    (grind (arith, nat_tests, k.0, k.1), grind (arith, nat_tests, k.0, k.1))

-- ---- all four rows

or_known : (p q : Option DataMove) (x : DataMove) → option_or p q ≡ Some x → (p ≡ Some x) ⊎ (q ≡ Some x)
or_known None q x h = inr h
or_known (Some y) q x h = inl h

abbrev Stands : DataMove → ℕ → Type 0
Stands x a = IsEntry x.entry × (place x ≡ a)

segment_row : (phase : DataPhase) (o : Option ℕ) (a : ℕ) (x : DataMove) → ((j : ℕ) → o ≡ Some j → (a ≡ first_segment phase + 8 * j) × (j < 16)) → option_map (λ j. record { phase = phase; entry = Segment j }) o ≡ Some x → Stands x a
segment_row phase None a x known h = cc
segment_row phase (Some j) a x known h =
    let m : DataMove = record { phase = phase; entry = Segment j } in
    let e : m ≡ x = cc in
    let k = known j refl in
    subst (λ (y : DataMove). Stands y a) e (k.1, sym k.0)

context_row : (phase : DataPhase) (o : Option ℕ) (a : ℕ) (x : DataMove) → ((k : ℕ) → o ≡ Some k → (a ≡ context_label phase 0 + 0x18 * k) × (k < 2)) → option_map (λ k. record { phase = phase; entry = Context k }) o ≡ Some x → Stands x a
context_row phase None a x known h = cc
context_row phase (Some k) a x known h =
    let m : DataMove = record { phase = phase; entry = Context k } in
    let e : m ≡ x = cc in
    let f = known k refl in
    subst (λ (y : DataMove). Stands y a) e (f.1, sym f.0)

segment_stands : (phase : DataPhase) (a : ℕ) (x : DataMove) → segment_move phase a ≡ Some x → Stands x a
segment_stands phase a x h = segment_row phase (number_of (first_segment phase) 8 16 a) a x (segment_known (first_segment phase) a) h

context_stands : (phase : DataPhase) (a : ℕ) (x : DataMove) → context_move phase a ≡ Some x → Stands x a
context_stands phase a x h = context_row phase (number_of (context_label phase 0) 0x18 2 a) a x (context_known (context_label phase 0) a) h

or_stands : (p q : Option DataMove) (a : ℕ) (x : DataMove) → (p ≡ Some x → Stands x a) → (q ≡ Some x → Stands x a) → option_or p q ≡ Some x → Stands x a
or_stands p q a x f g h = elim (or_known p q x h) [ inl e ↦ f e | inr e ↦ g e ]

-- the data move at an address has an entry, and its address is that address
pub move_stands : (a : ℕ) (x : DataMove) → move_at a ≡ Some x → IsEntry x.entry × (place x ≡ a)
unfolding move_at
move_stands a x h =
    or_stands (option_or (option_or (segment_move In a) (segment_move Out a)) (context_move In a)) (context_move Out a) a x
    (or_stands (option_or (segment_move In a) (segment_move Out a)) (context_move In a) a x
    (or_stands (segment_move In a) (segment_move Out a) a x (segment_stands In a x) (segment_stands Out a x))
    (context_stands In a x))
    (context_stands Out a x) h

-- ---- at its own address there is that move

segment_here : (first j : ℕ) → j < 16 → number_of first 8 16 (first + 8 * j) ≡ Some j
segment_here first j h = grind (arith, nat_tests)

context_here : (first k : ℕ) → k < 2 → number_of first 0x18 2 (first + 0x18 * k) ≡ Some k
context_here first k h = grind (arith, nat_tests)

below : (first apart places a : ℕ) → a < first → number_of first apart places a ≡ None
below first apart places a h = grind (arith, nat_tests)

above : (first apart places a : ℕ) → first + apart * places ≤ a → number_of first apart places a ≡ None
above first apart places a h = grind (arith, nat_tests)

-- the four rows lie one behind another
in_segment : (j : ℕ) → j < 16 → move_at (first_segment In + 8 * j) ≡ Some (record { phase = In; entry = Segment j })
unfolding move_at
in_segment j h = rw (segment_here (first_segment In) j h) refl

out_segment : (j : ℕ) → j < 16 → move_at (first_segment Out + 8 * j) ≡ Some (record { phase = Out; entry = Segment j })
unfolding move_at
out_segment j h =
    rw (above (first_segment In) 8 16 (first_segment Out + 8 * j) (omega arith), segment_here (first_segment Out) j h) refl

in_context : (k : ℕ) → k < 2 → move_at (context_label In 0 + 0x18 * k) ≡ Some (record { phase = In; entry = Context k })
unfolding move_at
in_context k h =
    rw (above (first_segment In) 8 16 (context_label In 0 + 0x18 * k) (omega arith), above (first_segment Out) 8 16 (context_label In 0 + 0x18 * k) (omega arith), context_here (context_label In 0) k h) refl

out_context : (k : ℕ) → k < 2 → move_at (context_label Out 0 + 0x18 * k) ≡ Some (record { phase = Out; entry = Context k })
unfolding move_at
out_context k h =
    rw (above (first_segment In) 8 16 (context_label Out 0 + 0x18 * k) (omega arith), above (first_segment Out) 8 16 (context_label Out 0 + 0x18 * k) (omega arith), above (context_label In 0) 0x18 2 (context_label Out 0 + 0x18 * k) (omega arith), context_here (context_label Out 0) k h) refl

move_here : (phase : DataPhase) (e : Entry) → IsEntry e → move_at (entry_place phase e) ≡ Some (record { phase = phase; entry = e })
move_here In (Segment j) h = in_segment j h
move_here Out (Segment j) h = out_segment j h
move_here In (Context k) h = in_context k h
move_here Out (Context k) h = out_context k h

pub move-place : (x : DataMove) → IsEntry x.entry → move_at (place x) ≡ Some x
move-place x h = move_here x.phase x.entry h

-- ---- labels of contexts

label-place : (phase : DataPhase) (k : ℕ) → k < 2 → context_label phase k ≡ entry_place phase (Context k)
label-place In k h = grind (arith, nat_tests)
label-place Out k h = grind (arith, nat_tests)

pub move-context : (phase : DataPhase) (k : ℕ) → k < 2 → move_at (context_label phase k) ≡ Some (record { phase = phase; entry = Context k })
move-context phase k h = rw (label-place phase k h) (move_here phase (Context k) h)

-- the free context isn't the one that the saved pointer names
not_free : (phase : DataPhase) (savep : ℕ) → savep ≢ context_label phase 0 + 0x18 * free_context savep
not_free In savep e = grind (arith, nat_tests)
not_free Out savep e = grind (arith, nat_tests)

pub free_below : (savep : ℕ) → free_context savep < 2
free_below savep = grind (arith, nat_tests)

pub free_is_other : (savep k : ℕ) (x : DataMove) → move_at savep ≡ Some x → x.entry ≡ Context k → k ≢ free_context savep
free_is_other savep k x h e f =
    let s = move_stands savep x h in
    let p : entry_place x.phase (Context k) ≡ savep = rw e at s.1 in
    not_free x.phase savep (sym p ∙ ap (λ (n : ℕ). context_label x.phase 0 + 0x18 * n) f)

-- ---- what stands behind a segment's move

end_in : move_at (first_segment In + 8 * 16) ≡ None
unfolding move_at
end_in = refl

end_out : move_at (first_segment Out + 8 * 16) ≡ None
unfolding move_at
end_out = refl

end : (phase : DataPhase) → move_at (first_segment phase + 8 * 16) ≡ None
end In = end_in
end Out = end_out

next_segment : (phase : DataPhase) (j : ℕ) → (suc j < 16) ⊎ (suc j ≡ 16) → segment_of_move (move_at (first_segment phase + 8 * suc j)) ≡ suc j
next_segment phase j (inl h) = rw (move_here phase (Segment (suc j)) h) refl
next_segment phase j (inr h) = rw (h, end phase) refl

last_or_not : (j : ℕ) → j < 16 → (suc j < 16) ⊎ (suc j ≡ 16)
last_or_not j h = grind arith

pub segment_of_move-next : (dsp j : ℕ) (x : DataMove) → 8 ≤ dsp → move_at (dsp - 8) ≡ Some x → x.entry ≡ Segment j → segment_of_move (move_at dsp) ≡ suc j
segment_of_move-next dsp j x far h e =
    let s = move_stands (dsp - 8) x h in
    let p : entry_place x.phase (Segment j) ≡ dsp - 8 = rw e at s.1 in
    let b : IsEntry (Segment j) = rw e at s.0 in
    let q : dsp ≡ first_segment x.phase + 8 * suc j = omega arith in
    rw q (next_segment x.phase j (last_or_not j b))

segment_of_entry-most : (e : Entry) → IsEntry e → segment_of_entry e ≤ 16
segment_of_entry-most (Segment j) h = omega arith
segment_of_entry-most (Context k) h = omega arith

segment_most : (o : Option DataMove) → ((x : DataMove) → o ≡ Some x → IsEntry x.entry) → segment_of_move o ≤ 16
segment_most None h = omega arith
segment_most (Some x) h = segment_of_entry-most x.entry (h x refl)

pub segment_of_move-most : (a : ℕ) → segment_of_move (move_at a) ≤ 16
segment_of_move-most a = segment_most (move_at a) (λ x h. (move_stands a x h).0)
