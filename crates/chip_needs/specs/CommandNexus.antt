-- What is connected at the command behind a message. Source: own; the message is SCSI-2's, 6.6.7 IDENTIFY and 6.6.17.3 SIMPLE QUEUE TAG.
use Rattle.std.specs.Prelude.{◌≡◌, ℕ, true, List, [], length, Some}
use Rattle.rig_types.specs.declared.rig.Unit.{Unit as RigUnit}
use Rattle.target_law.specs.declared.nexus.Nexus.{Nexus}
use Rattle.target_law.specs.Target as connection_state
use Rattle.target_law.specs.Target.{ConnectionState, BusFree, RogueConnected, TakingCommand}
use Rattle.desk_law.specs.declared.ticket.Ticket.{Ticket}
use Rattle.desk_law.specs.Desk.{ticket, unit, lives}
use Rattle.bus_events.specs.Targets.{targets}
use Rattle.world_law.specs.Opening.{opened}
use Rattle.world_law.specs.Runs.{Moment, IsRun, last}
use Rattle.world_law.specs.World.{BenchSetting, IsBenchSetting, World}
use Rattle.world_law.specs.declared.reply.Stop.TheVariants.{Run}
use Rattle.word_owners.specs.Worlds.{HasBytes}

-- the nexus of a ticket: the LUN of its unit, and its tag
abbrev pub nexus_by : RigUnit → Ticket → Nexus
nexus_by u k = record { lun = u.lun; tag = k.tag }

abbrev pub nexus_for : World → ℕ → Nexus
nexus_for w t = nexus_by (unit w.desk (ticket w.desk t).unit) (ticket w.desk t)

-- a target that takes a command of this nexus, and none of its bytes yet; one that has the three bytes of a message still, as a log of it has no room;
-- units that break the rules; or nothing
abbrev pub TakesFor : Nexus → ConnectionState → Type 0
TakesFor n (TakingCommand x taken) = (x ≡ n) × (taken ≡ [])
TakesFor n (connection_state.Selected heard) = length heard ≡ 3
TakesFor n (RogueConnected s x) = Unit {0}
TakesFor n BusFree = Unit {0}
TakesFor n l = ⊥

-- where the chip runs at the command, with the block of a live ticket at DSA, the nexus is that of the ticket
abbrev pub CommandsFindNexus : Type 0
CommandsFindNexus =
    (g : BenchSetting) → IsBenchSetting g → HasBytes g → (ms : List Moment) → IsRun g (opened g) ms → (last (opened g) ms).stop ≡ Run → (last (opened g) ms).regs.dsp ≡ 0x088
    → (t : ℕ) → lives (ticket (last (opened g) ms).desk t) ≡ true → (last (opened g) ms).regs.dsa ≡ (ticket (last (opened g) ms).desk t).block
    → (i : ℕ) → (last (opened g) ms).bus.connected ≡ Some i → TakesFor (nexus_for (last (opened g) ms) t) (targets (last (opened g) ms).bus i).link
