-- Bytes on their way: until the count is done, or the target has none left.
use Rattle.std.specs.Prelude.{◌≡◌, ℕ, zero, suc, ◌+◌, Bool, true, false, ◌&&◌, Some, None, List, slice_index, slice_set, ◌⊎◌}
use Rattle.chip_step.specs.Event.{Event, ByteIn, ByteOut, ClearAck}

-- the message byte before is acknowledged, where there is one
abbrev pub Acked : {B : Type 0} → (B → Event → B → Type 0) → Bool → B → B → Type 0
Acked moves true old new = moves old ClearAck new
Acked moves false old new = new ≡ old

-- the target has no byte left
pub record InEnds {B : Type 0} (moves : B → Event → B → Type 0) (count : ℕ) (memory : List ℕ) (bus : B) (left : ℕ) (memory' : List ℕ) (bus' : B) : Type 0 where
  pub call : moves bus (ByteIn None) bus'
  pub all_left : left ≡ count
  pub same : memory' ≡ memory

-- In: so many bytes to an address on, of a message or not, the first of their move or later ones; then how many are
-- left, the memory and the bus. ACK is cleared between the bytes of a message.
abbrev pub TakesIn : {B : Type 0} → (B → Event → B → Type 0) → Bool → Bool → ℕ → List ℕ → ℕ → B → ℕ → List ℕ → B → Type 0
TakesIn moves message later zero memory at bus left memory' bus' = (left ≡ 0) × (memory' ≡ memory) × (bus' ≡ bus)
TakesIn {B} moves message later (suc n) memory at bus left memory' bus' =
    (acked : B) × Acked moves (message && later) bus acked
    × (InEnds moves (suc n) memory acked left memory' bus'
    ⊎ ((b : ℕ) × (mid : B) × moves acked (ByteIn (Some b)) mid
    × TakesIn moves message true n (slice_set memory at b) (at + 1) mid left memory' bus'))

-- Out: the same with the bytes of the memory, which stays.
abbrev pub GoesOut : {B : Type 0} → (B → Event → B → Type 0) → ℕ → List ℕ → ℕ → B → ℕ → B → Type 0
GoesOut moves zero memory at bus left bus' = (left ≡ 0) × (bus' ≡ bus)
GoesOut {B} moves (suc n) memory at bus left bus' =
    (moves bus (ByteOut (slice_index memory at) false) bus' × (left ≡ suc n))
    ⊎ ((mid : B) × moves bus (ByteOut (slice_index memory at) true) mid × GoesOut moves n memory (at + 1) mid left bus')
