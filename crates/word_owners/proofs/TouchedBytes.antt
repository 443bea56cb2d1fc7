-- An instruction that is no data move touches no byte of the buffer region and of sense areas, where DSA is a low place or a command block.
use Rattle.std.proofs.Common.{◌≡◌, ◌⊎◌, inl, inr, ℕ, ℤ, pos, negsuc, ◌+◌, ◌≤◌, Bool, true, false, nat_eq, nat_le, List, length, Option, Some, ◌||◌, refl, arith}
use Rattle.std.proofs.lemmas.Bool.{and_parts, false≢true}
use Rattle.std.proofs.lemmas.Bool.Decides.{nat_tests}
use Rattle.host_map.specs.Places.{IsCommandBlock}
use Rattle.scripts_ops.specs.declared.values.Address.{Address}
use Rattle.scripts_ops.specs.declared.values.Address.TheVariants.{At, FromDsa}
use Rattle.scripts_ops.specs.declared.values.Op.{Op}
use Rattle.scripts_ops.specs.declared.values.Op.TheVariants as op
use Rattle.chip_step.specs.Addresses.{address_of, place_of}
use Rattle.chip_step.specs.Chip.{Chip}
use Rattle.chip_rows.specs.Touched.{Range, IsIn, Block, block_of, entry_of, went, is_in, range, range_at, of_block, writes, reads}
use Rattle.ownership.proofs.Control.{controls, fixed, from_dsa, at_place, in_either, came_in, went_in, of_came, of_went, true_le}
use Rattle.ownership.proofs.Footprint.{in_memory}
use Rattle.word_owners.specs.Touches.{IsDataByte}

-- the words that an instruction reaches from DSA on lie below the blocks, or in the head of a command block
abbrev pub IsLow : ℕ → Type 0
IsLow dsa = (dsa + 0xE0 ≤ 0x10000) ⊎ IsCommandBlock dsa

-- the instructions that go by DSA
abbrev is_from_dsa : Address → Bool
is_from_dsa (At a) = false
is_from_dsa (FromDsa o) = true

abbrev pub needs_dsa : Op → Bool
needs_dsa (op.MoveFrom o p) = true
needs_dsa (op.Select o alternate) = true
needs_dsa (op.Load r n place) = is_from_dsa place
needs_dsa (op.Store r n place) = is_from_dsa place
needs_dsa _ = false

pub low-in : (a n x : ℕ) → a + n ≤ 0x10000 → IsDataByte x → IsIn (range a n) x → ⊥
low-in a n x l (inl d) (inl i) = omega (arith, i.1, l, d)
low-in a n x l (inr d) (inl i) = omega (arith, i.1, l, d.from, d.is.from)
low-in a n x l d (inr i) = i

pub head-in : (b a n x : ℕ) → IsCommandBlock b → b ≤ a → a + n ≤ b + 0x100 → IsDataByte x → IsIn (range a n) x → ⊥
head-in b a n x c from to (inl d) (inl i) = omega (arith, i.1, to, d, c.below)
head-in b a n x c from to (inr d) (inl i) = omega (arith, i.0, i.1, from, to, c.aligned, d.is.aligned, d.from, d.below)
head-in b a n x c from to d (inr i) = i

-- all the bytes that an entry of the table at DSA names
abbrev pub Entry : {B : Type 0} → Chip B → ℤ → List Range
Entry chip o = of_block (λ (b : Block). range b.address b.count) (entry_of chip.memory (place_of chip.memory chip.regs.dsa o 8))

abbrev pub EntryIsLow : {B : Type 0} → Chip B → ℕ → Op → Type 0
EntryIsLow chip x (op.MoveFrom o p) = IsIn (Entry chip o) x → ⊥
EntryIsLow chip x _ = Unit {0}

module _ {B : Type 0} (chip : Chip B) (left x : ℕ) (datum : IsDataByte x) where
  pub from-dsa-in : (n o : ℕ) → o + n ≤ 0xE0 → IsLow chip.regs.dsa → IsIn (range_at (place_of chip.memory chip.regs.dsa (pos o) n) n) x → ⊥
  unfolding place_of
  from-dsa-in n o l (inl low) h = low-in (chip.regs.dsa + o) n x (omega (arith, l, low)) datum (in_memory (nat_le (chip.regs.dsa + o + n) (length chip.memory)) (chip.regs.dsa + o) n x h)
  from-dsa-in n o l (inr block) h = head-in chip.regs.dsa (chip.regs.dsa + o) n x block (omega arith) (omega (arith, l)) datum (in_memory (nat_le (chip.regs.dsa + o + n) (length chip.memory)) (chip.regs.dsa + o) n x h)

  offset-in : (n : ℕ) (o : ℤ) → from_dsa n o ≡ true → IsLow chip.regs.dsa → IsIn (range_at (place_of chip.memory chip.regs.dsa o n) n) x → ⊥
  offset-in n (pos o) t low h = from-dsa-in n o (true_le (o + n) 0xE0 t) low h
  offset-in n (negsuc o) t low h = false≢true t

  fixed-in : (n a : ℕ) → fixed n a ≡ true → IsIn (range a n) x → ⊥
  fixed-in n a t h = let u = true_le (a + n) 0x1034 (and_parts (nat_le 0x1000 a) (nat_le (a + n) 0x1034) t).1 in low-in a n x (omega (arith, u)) datum h

  address-in : (n : ℕ) (place : Address) → at_place n place ≡ true → (is_from_dsa place ≡ true → IsLow chip.regs.dsa) → IsIn (range_at (address_of chip.memory chip.regs.dsa place n) n) x → ⊥
  address-in n (At a) t low h = fixed-in n a t (in_memory (nat_le (a + n) (length chip.memory)) a n x h)
  address-in n (FromDsa o) t low h = offset-in n o t (low refl) h

  -- what it writes
  pub writes-none : (o : Op) → controls o ≡ true → (needs_dsa o ≡ true → IsLow chip.regs.dsa) → EntryIsLow chip x o → IsIn (writes o chip left) x → ⊥
  writes-none (op.Move n a p) t low e h = fixed-in n a t (came_in left x (is_in p) (record { count = n; address = a }) h)
  writes-none (op.MoveFrom o p) t low e h = e (of_came left x (is_in p) (entry_of chip.memory (place_of chip.memory chip.regs.dsa o 8)) h)
  writes-none (op.MoveMemory n u v) t low e h = false≢true t
  writes-none (op.Store r n place) t low e h = address-in n place t low h
  writes-none (op.Select o a) t low e h = h
  writes-none op.WaitDisconnect t low e h = h
  writes-none (op.WaitReselect a) t low e h = h
  writes-none (op.Set ack atn) t low e h = h
  writes-none (op.Clear ack atn) t low e h = h
  writes-none (op.FromSfbr c d r) t low e h = h
  writes-none (op.ToSfbr r c d) t low e h = h
  writes-none (op.Modify r c d) t low e h = h
  writes-none (op.Put d r) t low e h = h
  writes-none (op.Jump on a) t low e h = h
  writes-none (op.Call on a) t low e h = h
  writes-none (op.Return on) t low e h = h
  writes-none (op.Int on v) t low e h = h
  writes-none (op.IntFly on) t low e h = h
  writes-none op.Nop t low e h = h
  writes-none (op.Load r n place) t low e h = h

  entry-place : (o : ℤ) → controls (op.MoveFrom o 0) ≡ true → from_dsa 8 o ≡ true
  entry-place (pos o) t = by-cases o t
    where
      either : (a b : Bool) → (a || b) ≡ true → (a ≡ true) ⊎ (b ≡ true)
      either true b h = inl refl
      either false b h = inr h

      small : (a b : ℕ) → nat_eq a b ≡ true → b + 8 ≤ 0xE0 → nat_le (a + 8) 0xE0 ≡ true
      small a b h l = grind (arith, nat_tests, h, l)

      by-cases : (o : ℕ) → ((nat_eq o 0x20 || nat_eq o 0x28) || nat_eq o 0x30) ≡ true → nat_le (o + 8) 0xE0 ≡ true
      by-cases o h = elim (either (nat_eq o 0x20 || nat_eq o 0x28) (nat_eq o 0x30) h) [
        | inl k ↦ elim (either (nat_eq o 0x20) (nat_eq o 0x28) k) [ inl z ↦ small o 0x20 z (omega arith) | inr z ↦ small o 0x28 z (omega arith) ]
        | inr k ↦ small o 0x30 k (omega arith)
      ]
  entry-place (negsuc o) t = absurd (false≢true t)

  -- and what it reads
  pub reads-none : (o : Op) → controls o ≡ true → ((b : Block) → block_of o chip ≡ Some b → left ≤ b.count) → (needs_dsa o ≡ true → IsLow chip.regs.dsa) → EntryIsLow chip x o → IsIn (reads o chip left) x → ⊥
  reads-none (op.Move n a p) t most low e h = let b : Block = record { count = n; address = a } in fixed-in n a t (went_in left x (is_in p) b (most b refl) h)
  reads-none (op.MoveFrom o p) t most low e h =
      let c : Option Block = entry_of chip.memory (place_of chip.memory chip.regs.dsa o 8) in
      in_either (range_at (place_of chip.memory chip.regs.dsa o 8) 8) (of_block (went (is_in p) left) c) x ⊥ h
      (λ i. offset-in 8 o (entry-place o t) (low refl) i)
      (λ i. e (of_went left x (is_in p) c most i))
  reads-none (op.Select o a) t most low e h = offset-in 4 o t (low refl) h
  reads-none (op.MoveMemory n u v) t most low e h = false≢true t
  reads-none (op.Load r n place) t most low e h = address-in n place t low h
  reads-none (op.Store r n place) t most low e h = h
  reads-none op.WaitDisconnect t most low e h = h
  reads-none (op.WaitReselect a) t most low e h = h
  reads-none (op.Set ack atn) t most low e h = h
  reads-none (op.Clear ack atn) t most low e h = h
  reads-none (op.FromSfbr c d r) t most low e h = h
  reads-none (op.ToSfbr r c d) t most low e h = h
  reads-none (op.Modify r c d) t most low e h = h
  reads-none (op.Put d r) t most low e h = h
  reads-none (op.Jump on a) t most low e h = h
  reads-none (op.Call on a) t most low e h = h
  reads-none (op.Return on) t most low e h = h
  reads-none (op.Int on v) t most low e h = h
  reads-none (op.IntFly on) t most low e h = h
  reads-none op.Nop t most low e h = h
