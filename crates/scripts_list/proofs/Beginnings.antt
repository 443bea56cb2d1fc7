-- Whether an instruction begins with these words.
use Rattle.std.proofs.Common.{◌≡◌, ◌≢◌, ◌⊎◌, ℕ, ℤ, pos, negsuc, ◌+◌, ◌%◌, ◌<◌, ◌≤◌, Bool, ◌||◌, IsTrue, List, [], ◌∷◌, ◌++◌, Option, Some, None, refl, ap, ◌∙◌, subst, inl, inr, ⊎_elim, arith}
use Rattle.std.proofs.lemmas.Bool.{cases_Bool, cases_eq, cases_lt}
use Rattle.std.specs.Prelude.{bit_and}
use Rattle.scripts_ops.specs.declared.values.Op.{Op}
use Rattle.scripts_ops.specs.declared.values.Op.TheVariants.{Move, MoveFrom, Select, WaitDisconnect, WaitReselect, Set, Clear, FromSfbr, ToSfbr, Modify, Put, Jump, Call, Return, Int, IntFly, Nop, MoveMemory, Load, Store}
use Rattle.scripts_ops.specs.declared.values.Condition.{Condition}
use Rattle.scripts_ops.specs.declared.values.Condition.TheVariants.{Always, Phase, Byte}
use Rattle.scripts_ops.specs.declared.values.Address.{Address}
use Rattle.scripts_ops.specs.declared.values.Address.TheVariants.{At, FromDsa}
use Rattle.scripts_ops.specs.Table.{row, IsPhase, IsOffset, IsCondition, IsPart, IsAddress, is_wide, is_written, is_read}
use Rattle.scripts_asm.specs.Assembled.{words_of_op}
use Rattle.scripts_list.specs.Listing.{Starts}
use Rattle.scripts_list.proofs.Listed.{guess_at, guess_of_start}

abbrev OrNot : Type 0 → Type 0
OrNot P = P ⊎ (P → ⊥)

both : {P Q : Type 0} → OrNot P → OrNot Q → OrNot (P × Q)
both p q = ⊎_elim
    (λ yes. ⊎_elim (λ also. inl (yes, also)) (λ no. inr (λ h. no h.1)) q)
    (λ no. inr (λ h. no h.0))
    p

three : {P Q R : Type 0} → OrNot P → OrNot Q → OrNot R → OrNot (P × Q × R)
three p q r = ⊎_elim
    (λ yes. ⊎_elim
    (λ also. ⊎_elim (λ too. inl (yes, also, too)) (λ no. inr (λ h. no h.2)) r)
    (λ no. inr (λ h. no h.1))
    q)
    (λ no. inr (λ h. no h.0))
    p

-- ---- the fields of a row

is : (b : Bool) → OrNot (IsTrue b)
is b = ⊎_elim (λ yes. inl yes) (λ no. inr (λ yes. absurd cc)) (cases_Bool b)

less : (m n : ℕ) → OrNot (m < n)
less m n = ⊎_elim (λ l. inl l) (λ ge. inr (λ l. omega arith)) (cases_lt m n)

most : (m n : ℕ) → OrNot (m ≤ n)
most m n = ⊎_elim (λ l. inr (λ le. omega arith)) (λ le. inl le) (cases_lt n m)

other : (m n : ℕ) → OrNot (m ≢ n)
other m n = ⊎_elim (λ e. inr (λ ne. ne e)) (λ ne. inl ne) (cases_eq m n)

phase : (p : ℕ) → OrNot (IsPhase p)
phase p = three (less p 8) (other p 4) (other p 5)

offset : (o : ℤ) → OrNot (IsOffset o)
offset (pos n) = less n 8388608
offset (negsuc n) = less n 8388608

condition : (on : Condition) → OrNot (IsCondition on)
condition Always = inl tt
condition (Phase when not code) = phase code
condition (Byte not mask value) = three (less mask 256) (less value 256) (cases_eq (bit_and mask value) 0)

part : (r n : ℕ) → OrNot (IsPart r n)
part r n = three (is (is_wide r)) (less 0 n) (most (r % 4 + n) 4)

address : (place : Address) → OrNot (IsAddress place)
address (At a) = inl tt
address (FromDsa o) = offset o

fields : (op : Op) → OrNot (row op).fields
fields (Move n a p) = three (phase p) (less 0 n) (less n 16777216)
fields (MoveFrom o p) = both (phase p) (offset o)
fields (Select o alt) = offset o
fields WaitDisconnect = inl tt
fields (WaitReselect alt) = inl tt
fields (Set ack atn) = is (ack || atn)
fields (Clear ack atn) = is (ack || atn)
fields (FromSfbr c d r) = three (is (is_written r)) (other r 8) (less d 256)
fields (ToSfbr r c d) = both (is (is_read r)) (less d 256)
fields (Modify r c d) = three (is (is_written r)) (other r 8) (less d 256)
fields (Put d r) = both (is (is_written r)) (less d 256)
fields (Jump on a) = condition on
fields (Call on a) = condition on
fields (Return on) = condition on
fields (Int on v) = condition on
fields (IntFly on) = condition on
fields Nop = inl tt
fields (MoveMemory n s t) = both (less 0 n) (less n 16777216)
fields (Load r n place) = both (part r n) (address place)
fields (Store r n place) = both (part r n) (address place)

-- ---- the words

front : (p ws : List ℕ) → ((rest : List ℕ) × (ws ≡ p ++ rest)) ⊎ ((rest : List ℕ) → ws ≢ p ++ rest)
front [] ws = inl (ws, refl)
front (x ∷ p) [] = inr (λ rest e. absurd cc)
front (x ∷ p) (w ∷ ws) = ⊎_elim
    (λ (same : w ≡ x). ⊎_elim
    (λ found. inl (found.0, ap (λ (y : ℕ). y ∷ ws) same ∙ ap (λ (ys : List ℕ). x ∷ ys) found.1))
    (λ none. inr (λ rest e. let tail : ws ≡ p ++ rest = cc in none rest tail))
    (front p ws))
    (λ differs. inr (λ rest e. let head : w ≡ x = cc in differs head))
    (cases_eq w x)

-- ---- an instruction

guess_is : (o : Option Op) → (o ≡ None) ⊎ ((op : Op) × (o ≡ Some op))
guess_is None = inl refl
guess_is (Some op) = inr (op, refl)

same_guess : (o : Option Op) (op op' : Op) → o ≡ Some op → o ≡ Some op' → op' ≡ op
same_guess o op op' e f = cc

no_guess : (o : Option Op) (op : Op) → o ≡ None → o ≡ Some op → ⊥
no_guess o op e f = cc

starts : (ws : List ℕ) (op : Op) → OrNot (Starts ws op)
starts ws op = ⊎_elim
    (λ valid. ⊎_elim
    (λ found. inl (record { fields = valid; rest = found.0; words_are = found.1 }))
    (λ none. inr (λ s. none s.rest s.words_are))
    (front (words_of_op op) ws))
    (λ no. inr (λ s. no s.fields))
    (fields op)

pub begins_or_not : (ws : List ℕ) → ((op : Op) × Starts ws op) ⊎ ((op : Op) → Starts ws op → ⊥)
begins_or_not ws = ⊎_elim
    (λ none. inr (λ op s. no_guess (guess_at ws) op none (guess_of_start ws op s)))
    (λ guess. ⊎_elim
    (λ yes. inl (guess.0, yes))
    (λ no. inr (λ op s. no (subst (λ (x : Op). Starts ws x) (same_guess (guess_at ws) guess.0 op guess.1 (guess_of_start ws op s)) s)))
    (starts ws guess.0))
    (guess_is (guess_at ws))
