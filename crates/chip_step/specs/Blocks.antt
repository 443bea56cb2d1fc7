-- MOVE: a count of bytes between memory and the bus. The count is in DBC, the address in DNAD.
use Rattle.std.specs.Prelude.{◌≡◌, ℕ, ℤ, ◌+◌, ◌-◌, ◌%◌, Bool, true, false, nat_eq, nat_lt, nat_le, ◌&&◌, ◌||◌, if◌then◌else◌, Option, Some, None, List, length, slice_index, MatchBool}
use Rattle.bench_words.specs.Memory.{word_at}
use Rattle.scsi_words.specs.Phases.{phase_code}
use Rattle.scsi_words.specs.declared.phases.kinds.Phase.{Phase}
use Rattle.chip_regs.specs.Registers.{stop_with}
use Rattle.chip_regs.specs.declared.registers.Regs.{Regs}
use Rattle.chip_regs.specs.declared.registers.Cause.TheVariants.{Iid, Bf, Ma, Udc}
use Rattle.chip_step.specs.Event as event
use Rattle.chip_step.specs.Event.{Event}
use Rattle.chip_step.specs.Bytes.{TakesIn, GoesOut}
use Rattle.chip_step.specs.Chip.{Chip, Stops}
use Rattle.chip_step.specs.Addresses.{place_of}
use Rattle.chip_step.specs.declared.outcome.StepEnd.{StepEnd}
use Rattle.chip_step.specs.declared.outcome.StepEnd.TheVariants.{Ran, Stopped}

-- the count and the address of a move
abbrev pub loaded : {B : Type 0} → ℕ → ℕ → Chip B → Chip B
loaded count a old = record old { regs = record old.regs { dbc = count; dnad = a } }

-- After the bytes: what is left stays in DBC, DNAD is past the bytes, and the first byte of a message or a status, if
-- one came, is in SFBR. Ranges don't wrap, so that byte still lies at the move's address.
abbrev pub after_bytes : ℕ → ℕ → List ℕ → Regs → Regs
after_bytes phase left memory r = record r {
  dbc = left;
  dnad = r.dnad + (r.dbc - left);
  sfbr = if (nat_eq phase 7 || nat_eq phase 3) && nat_lt left r.dbc then slice_index memory r.dnad else r.sfbr;
}

module _ {B : Type 0} (moves : B → Event → B → Type 0) where
  -- ATN is released, where it is named
  abbrev pub ReleasesAtn : Bool → B → B → Type 0
  ReleasesAtn true old new = moves old (event.SetAtn false) new
  ReleasesAtn false old new = new ≡ old

  -- the odd phases move bytes in, the even ones out: what is left, the memory and the bus
  abbrev pub Carries : ℕ → Chip B → ℕ → List ℕ → B → Type 0
  Carries phase old left memory bus =
      MatchBool (nat_eq (phase % 2) 1)
      (TakesIn moves (nat_eq phase 7) false old.regs.dbc old.memory old.regs.dnad old.bus left memory bus)
      (GoesOut moves old.regs.dbc old.memory old.regs.dnad old.bus left bus × (memory ≡ old.memory))

  -- a count that is done goes on, and releases ATN after a message out; else MA
  abbrev pub Finishes : ℕ → ℕ → B → Regs → StepEnd → Chip B → Type 0
  Finishes phase left bus r end new =
      MatchBool (nat_eq left 0)
      (ReleasesAtn (nat_eq phase 6) bus new.bus × (end ≡ Ran) × (new.regs ≡ r))
      ((new.bus ≡ bus) × (end ≡ Stopped Ma) × (new.regs ≡ stop_with Ma r))

  -- the move, in the phase that the target shows
  pub record Moves (phase : ℕ) (old : Chip B) (end : StepEnd) (new : Chip B) : Type 0 where
    pub left : ℕ
    pub bus : B
    pub carries : Carries phase old left new.memory bus
    pub finishes : Finishes phase left bus (after_bytes phase left new.memory old.regs) end new

module _ {B : Type 0} (moves : B → Event → B → Type 0) (word : ℕ) where
  -- An ACK that is still asserted is cleared, which changes nothing where it isn't; then the phase is asked.
  pub record Asks (shown : Option Phase) (old new : B) : Type 0 where
    pub mid : B
    pub acked : moves old event.ClearAck mid
    pub asked : moves mid (event.Phase word shown) new

  -- a free bus is UDC, another phase MA
  abbrev pub MovesAt : Option Phase → ℕ → Chip B → B → StepEnd → Chip B → Type 0
  MovesAt None phase old bus end new = Stops Udc (record old { bus = bus }) end new
  MovesAt (Some shown) phase old bus end new =
      MatchBool (nat_eq (phase_code shown) phase)
      (Moves moves phase (record old { bus = bus }) end new)
      (Stops Ma (record old { bus = bus }) end new)

  pub record AsksAndMoves (phase : ℕ) (old : Chip B) (end : StepEnd) (new : Chip B) : Type 0 where
    pub shown : Option Phase
    pub bus : B
    pub asks : Asks shown old.bus bus
    pub moved : MovesAt shown phase old bus end new

  -- before anything is asked of the bus, a count of 0 is IID and a range outside memory BF
  abbrev pub BlockMoves : ℕ → Chip B → StepEnd → Chip B → Type 0
  BlockMoves phase old end new =
      MatchBool (nat_eq old.regs.dbc 0)
      (Stops Iid old end new)
      (MatchBool (nat_le (old.regs.dnad + old.regs.dbc) (length old.memory))
      (AsksAndMoves phase old end new)
      (Stops Bf old end new))

  -- the form FROM: an entry of the table at DSA has the count in bits 23 to 0 of its first word, and the address
  abbrev pub MovesBy : Option ℕ → ℕ → Chip B → StepEnd → Chip B → Type 0
  MovesBy None phase old end new = Stops Bf old end new
  MovesBy (Some e) phase old end new =
      BlockMoves phase (loaded (word_at old.memory e % 16777216) (word_at old.memory (e + 4)) old) end new

  abbrev pub MovesFrom : ℤ → ℕ → Chip B → StepEnd → Chip B → Type 0
  MovesFrom offset phase old end new = MovesBy (place_of old.memory old.regs.dsa offset 8) phase old end new
