-- What the words of a ticket's block are when it is taken, by its life. Source: own.
use Rattle.std.specs.Prelude.{◌≡◌, ℕ, ◌<◌, false, List, length}
use Rattle.rig_types.specs.declared.report.Outcome.{Outcome}
use Rattle.rig_types.specs.declared.report.Outcome.TheVariants.{Done, Cut, NoTarget}
use Rattle.cmd_block.specs.declared.TheConstants.{ENDED, CUT, NO_TARGET}
use Rattle.desk_law.specs.declared.ticket.Ticket.{Ticket as DeskTicket}
use Rattle.desk_law.specs.Desk.{ticket}
use Rattle.desk_law.specs.Taking.{state_of, status_byte, is_marked}
use Rattle.ticket_fate.specs.Tickets.{Plan, unit_of, Life, Rejected, Finished, Asked, AtRogue, Ticket}
use Rattle.world_law.specs.World.{BenchSetting, World}
use Rattle.run_joined.specs.DeskLives.{WordsAgree}
use Rattle.run_joined.specs.Joined.{IsJoined}
use Rattle.run_joined.specs.Plans.{IsPlanOf}

-- STATE of an outcome that the script writes
abbrev pub EndsIn : Outcome → (state : ℕ) → Type 0
EndsIn Done s = s ≡ ENDED
EndsIn Cut s = s ≡ CUT
EndsIn NoTarget s = s ≡ NO_TARGET
EndsIn o s = ⊥

-- STATE by the life: a refused ticket has ended as well; of a sense, and of a unit that breaks the rules, nothing is said
abbrev pub StateAgrees : Life → (state : ℕ) → Type 0
StateAgrees (Rejected st) s = s ≡ ENDED
StateAgrees (Finished o) s = EndsIn o s
StateAgrees Asked s = Unit {0}
StateAgrees AtRogue s = Unit {0}
StateAgrees l s = ⊥

-- the byte of STATUS, where the target gave one
abbrev pub StatusAgrees : Life → (byte status : ℕ) → Type 0
StatusAgrees (Rejected st) b s = b ≡ s
StatusAgrees (Finished Done) b s = b ≡ s
StatusAgrees l b s = Unit {0}

-- STATE and STATUS are those of its life, and RESTART says whether an abort has marked it; only a unit that keeps the rules ends a ticket so
pub record BlockAgrees (p : Plan) (m : List ℕ) (t : ℕ) (x : DeskTicket) (k : Ticket) : Type 0 where
  pub state : StateAgrees k.life (state_of m x)
  pub status : StatusAgrees k.life (status_byte m x) k.status
  pub mark : is_marked m x ≡ k.marked
  pub keeps : k.life ≡ Finished Done → (p.units (unit_of p t)).rogue ≡ false

-- then TakeDone does with it what its life says
abbrev pub BlocksAgree : Type 0
BlocksAgree =
    (g : BenchSetting) (p : Plan) (w : World) (ks : ℕ → Ticket) (spare : ℕ → ℕ) (t : ℕ) → IsPlanOf g w p → IsJoined g p w ks spare → t < length w.desk.tickets → BlockAgrees p w.memory t (ticket w.desk t) (ks t)
    → WordsAgree p w.desk w.memory t (ticket w.desk t) (ks t) (ks t).life
