-- The bus as the chip knows it: what each call answers, and what it makes of the bus.
use Rattle.std.specs.Prelude.{◌≡◌, ℕ, is_none, Option, option_map, List}
use Rattle.rig_types.specs.declared.rig.Unit.{Unit as RigUnit}
use Rattle.chip_step.specs.Event.{Event, Phase, Shown, ByteIn, ByteOut, Select, Reselect, SetAtn, ClearAck, Leave}
use Rattle.target_law.specs.declared.nexus.Nexus.{Nexus}
use Rattle.target_law.specs.Calls.{link_phase, link_takes}
use Rattle.bus_law.specs.Bus.{BusState, link_on}
use Rattle.bus_law.specs.Choices.{after_turn, phase_after}
use Rattle.bus_law.specs.Bytes.{byte_of, after_byte_in, after_byte_out}
use Rattle.bus_law.specs.Reselections.{candidate_named, target_of, after_reselection, can_select, settles, after_selection}
use Rattle.bus_law.specs.Attention.{after_atn, after_ack}

-- for the units of a rig in their order, and the live ticket of each nexus of a target
module _ (units : List RigUnit) (live : ℕ → Nexus → Option ℕ) where
  abbrev pub moves : BusState → Event → BusState → Type 0
  moves b (Phase word shown) b' = (shown ≡ phase_after b.connected word b) × (b' ≡ record (after_turn b.connected word b) { asked = shown })
  moves b (Shown shown) b' = (shown ≡ link_phase (link_on b)) × (b' ≡ b)
  moves b (ByteIn byte) b' = (byte ≡ byte_of b) × (b' ≡ after_byte_in b.connected byte b)
  moves b (ByteOut byte taken) b' = (taken ≡ link_takes (link_on b)) × (b' ≡ after_byte_out live taken b.connected byte b)
  moves b (Select target word settled) b' =
      (settled ≡ settles (candidate_named units b word) (can_select b target))
      × (b' ≡ after_selection (candidate_named units b word) (can_select b target) target word b)
  moves b (Reselect word by) b' =
      (by ≡ option_map target_of (candidate_named units b word)) × (b' ≡ after_reselection (candidate_named units b word) word b)
  moves b (SetAtn on) b' = b' ≡ after_atn on b
  moves b ClearAck b' = b' ≡ after_ack b.ack b
  moves b (Leave word gone) b' = (gone ≡ is_none (after_turn b.connected word b).connected) × (b' ≡ after_turn b.connected word b)
