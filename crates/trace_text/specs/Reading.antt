-- Reading a line. No public contract rests on these.
use Rattle.std.specs.Prelude.{ℕ, ◌+◌, ◌*◌, ◌-◌, ◌%◌, ◌^◌, Bool, not, ◌==◌, ◌&&◌, ◌||◌, nat_lt, List, [], ◌∷◌, length, slice_index, Option, Some, None, if◌then◌else◌}
use Rattle.std.specs.Prelude.{option_map, option_and_then, codes, ◌++◌}
use Rattle.std.specs.Fmt.{decimal}
use Rattle.std.specs.Str.{all_ascii_digits, bytes_eq}
use Rattle.rig_types.specs.declared.step.Step.{Step}
use Rattle.rig_types.specs.declared.step.Step.TheVariants.{Build, Link, Queue, Signal, Chip, Fix, Sweep, Restart, TakeDone, Unlink, Free, Act, ResetBus, Sense}
use Rattle.trace_text.specs.declared.types.TraceLine.{TraceLine}
use Rattle.trace_text.specs.Grammar.{hex_8}

-- the number that digits represent, after a number before them
abbrev pub value_after : ℕ → List ℕ → ℕ
value_after n [] = n
value_after n (c ∷ cs) = value_after (10 * n + (c - 48)) cs

-- the number below 2^32 that digits represent
abbrev pub digits_in : List ℕ → Option ℕ
digits_in bs = if all_ascii_digits bs && nat_lt (value_after 0 bs) (2 ^ 32) then Some (value_after 0 bs) else None

-- no zero stands before other digits
abbrev pub is_plain : List ℕ → Bool
is_plain bs = nat_lt 0 (length bs) && (not (slice_index bs 0 == 48) || length bs == 1)

abbrev pub number_in : List ℕ → Option ℕ
number_in bs = if is_plain bs then digits_in bs else None

-- what a hexadecimal digit counts
abbrev pub digit_value : ℕ → ℕ
digit_value b = if nat_lt b 97 then (b - 48) % 16 else (b - 87) % 16

abbrev pub word_value : List ℕ → ℕ
word_value bs =
    let d = λ (i : ℕ). digit_value (slice_index bs i) in
    (((d 0 * 16 + d 1) * 16 + d 2) * 16 + d 3) * 65536 + (((d 4 * 16 + d 5) * 16 + d 6) * 16 + d 7)

-- the word that the eight digits spell
abbrev pub word_in : List ℕ → Option ℕ
word_in bs = if length bs == 8 && bytes_eq (hex_8 (word_value bs)) bs then Some (word_value bs) else None

-- what stands before the first of these bytes, and after it
abbrev pub split_in : ℕ → List ℕ → Option (List ℕ × List ℕ)
split_in at [] = None
split_in at (b ∷ bs) = if b == at then Some ([], bs) else option_map (λ (p : List ℕ × List ℕ). (b ∷ p.0, p.1)) (split_in at bs)

-- ---- a line, without its end

abbrev pub silent : Step → TraceLine
silent step = record { step = step; caller = None }

abbrev pub bare_in : ℕ → Option TraceLine
bare_in k =
    if k == 102 then Some (silent Fix)
    else if k == 114 then Some (silent Restart)
    else if k == 100 then Some (silent TakeDone)
    else if k == 122 then Some (silent ResetBus)
    else None

abbrev pub numbered_in : ℕ → ℕ → Option TraceLine
numbered_in k n =
    if k == 108 then Some (silent (Link n))
    else if k == 113 then Some (silent (Queue n))
    else if k == 119 then Some (silent (Sweep n))
    else if k == 117 then Some (silent (Unlink n))
    else if k == 101 then Some (silent (Free n))
    else if k == 97 then Some (silent (Act n))
    else if k == 110 then Some (silent (Sense n))
    else if k == 115 then Some (record { step = Signal; caller = Some n })
    else None

abbrev pub build_at : ℕ → ℕ → Option TraceLine
build_at s n = if nat_lt s 65536 then Some (record { step = Build (record { submitter = s; number = n }); caller = Some s }) else None

abbrev pub build_in : Option (List ℕ × List ℕ) → Option TraceLine
build_in None = None
build_in (Some p) = option_and_then (λ s. option_and_then (build_at s) (number_in p.1)) (number_in p.0)

abbrev pub worded_in : ℕ → List ℕ → Option TraceLine
worded_in k rest =
    if k == 98 then build_in (split_in 32 rest)
    else if k == 99 then option_map (λ w. silent (Chip w)) (word_in rest)
    else option_and_then (numbered_in k) (number_in rest)

abbrev pub line_in : List ℕ → Option TraceLine
line_in [] = None
line_in (k ∷ []) = bare_in k
line_in (k ∷ s ∷ rest) = if s == 32 then worded_in k rest else None

-- the line at the front, and what follows its end
abbrev pub next_in : List ℕ → Option (TraceLine × List ℕ)
next_in bs = option_and_then (λ (p : List ℕ × List ℕ). option_map (λ (l : TraceLine). (l, p.1)) (line_in p.0)) (split_in 10 bs)

-- what follows the first line
abbrev pub after_first_line : ℕ → List ℕ → Option (List ℕ)
after_first_line version bs = option_and_then (λ (p : List ℕ × List ℕ). if bytes_eq p.0 (codes "sym-trace " ++ decimal version) then Some p.1 else None) (split_in 10 bs)
