-- The chains (own): the code that finds the unit of a reselection. The one at CHAINS has the target's number in SFBR
-- and goes to the chain of the target; that one reads IDENTIFY and goes by the LUN to the chain of the unit; and that
-- one takes the unit's first tag table and goes to TAG in the driver script.
use Rattle.std.specs.Prelude.{◌≡◌, ℕ, ◌+◌, ◌*◌, ◌<◌, Bool, true, false, nat_eq, ◌&&◌, List, [], ◌∷◌, ◌++◌, length, map, filter, fold, position, slice_index_or, Option}
use Rattle.std.specs.List.{list_any, filter_map, range_with_len}
use Rattle.std.specs.Option.{option_map}
use Rattle.bench_words.specs.Memory.{put_word}
use Rattle.scripts_ops.specs.Table.{row, Spelled}
use Rattle.scripts_ops.specs.declared.values.Op.{Op}
use Rattle.scripts_ops.specs.declared.values.Op.TheVariants.{Move, ToSfbr, Jump, Int, Load, Nop}
use Rattle.scripts_ops.specs.declared.values.Condition.TheVariants.{Always, Byte}
use Rattle.scripts_ops.specs.declared.values.Change.TheVariants.{And}
use Rattle.scripts_ops.specs.declared.values.Address.TheVariants.{At}
use Rattle.host_map.specs.declared.TheConstants.{MSGIN, CHAINS}
use Rattle.host_map.specs.Places.{target_chain, unit_chain, table_at}
use Rattle.driver_script.specs.Script.{label_of}
use Rattle.driver_script.specs.declared.labels.Name.TheVariants.{Tag}
use Rattle.rig_types.specs.declared.rig.Unit.{Unit}

-- a unit of this target, and the unit with this target and LUN
abbrev pub has_target : List Unit → ℕ → Bool
has_target us target = list_any (λ (u : Unit). nat_eq u.target target) us

abbrev pub is_at : ℕ → ℕ → Unit → Bool
is_at target lun u = nat_eq u.target target && nat_eq u.lun lun

-- the targets of the rig by rising number
unfoldable pub targets : List Unit → List ℕ
targets us = filter (has_target us) (range_with_len 0 8)

-- JUMP address, IF value
abbrev pub jump_if : ℕ → ℕ → Op
jump_if value address = Jump (Byte false 0 value) address

-- the chain at CHAINS; a target that isn't in the rig stops the chip with vector 0x0A
abbrev pub target_ops : List Unit → List Op
target_ops us = map (λ (t : ℕ). jump_if t (target_chain t)) (targets us) ++ Int Always 0x0A ∷ []

-- MOVE 1, MSGIN, WHEN MSG_IN; INT 8, IF NOT 0x80 AND MASK 0x7F; MOVE SFBR & 0x07 TO SFBR: the LUN of IDENTIFY
abbrev pub identify_ops : List Op
identify_ops = Move 1 MSGIN 7 ∷ Int (Byte true 0x7F 0x80) 8 ∷ ToSfbr 0x08 And 0x07 ∷ []

-- the jump to the chain of the unit with a LUN of the target: the unit by its number in the rig
abbrev pub lun_jump : List Unit → ℕ → ℕ → Option Op
lun_jump us target lun = option_map (λ (u : ℕ). jump_if lun (unit_chain u)) (position (is_at target lun) us)

-- the jumps to the units of a target by rising LUN
unfoldable pub lun_jumps : List Unit → ℕ → List Op
lun_jumps us target = filter_map (lun_jump us target) (range_with_len 0 8)

-- the chain of a target; a LUN that the target doesn't have stops the chip with vector 9
abbrev pub lun_ops : List Unit → ℕ → List Op
lun_ops us target = identify_ops ++ (lun_jumps us target ++ Int Always 9 ∷ [])

-- the chain of a unit: LOAD DSA, 4, from the word behind it; JUMP TAG
abbrev pub unit_ops : ℕ → List Op
unit_ops unit = Load 0x10 4 (At (unit_chain unit + 0x10)) ∷ Jump Always (label_of Tag) ∷ []

-- ---- memory

-- memory after an instruction of two words was written, and after several were, one behind the other
abbrev pub put_op : List ℕ → ℕ → Op → List ℕ
put_op m a op = put_word (put_word m a (row op).first) (a + 4) (row op).second

unfoldable pub put_ops : List ℕ → ℕ → List Op → List ℕ
put_ops m a [] = m
put_ops m a (op ∷ ops) = put_ops (put_op m a op) (a + 8) ops

-- memory after the chain of a target was written, and after that of a unit was, with the address of the unit's first tag
-- table behind it
abbrev pub with_target : List Unit → List ℕ → ℕ → List ℕ
with_target us m target = put_ops m (target_chain target) (lun_ops us target)

abbrev pub with_unit : List ℕ → ℕ → List ℕ
with_unit m unit = put_word (put_ops m (unit_chain unit) (unit_ops unit)) (unit_chain unit + 0x10) (table_at unit 0)

-- memory after the chains of a rig were laid
unfoldable pub with_chains : List ℕ → List Unit → List ℕ
with_chains m us =
    fold with_unit (fold (with_target us) (put_ops m CHAINS (target_ops us)) (targets us)) (range_with_len 0 (length us))

-- ---- what memory says

-- memory seen by words spells each of these instructions at its address, from a on
pub record Spells (view : ℕ → ℕ) (a : ℕ) (ops : List Op) : Type 0 where
  pub at : (k w2 : ℕ) → k < length ops → Spelled (view (a + 8 * k)) (view (a + 8 * k + 4)) w2 (slice_index_or ops k Nop)

-- memory holds the chains of a rig: every instruction at its address, and each unit's tag tables
pub record IsLaid (view : ℕ → ℕ) (us : List Unit) : Type 0 where
  pub targets_laid : Spells view CHAINS (target_ops us)
  pub luns_laid : (t : ℕ) → t < 8 → has_target us t ≡ true → Spells view (target_chain t) (lun_ops us t)
  pub units_laid : (u : ℕ) → u < length us → Spells view (unit_chain u) (unit_ops u)
  pub tables_laid : (u : ℕ) → u < length us → view (unit_chain u + 0x10) ≡ table_at u 0
