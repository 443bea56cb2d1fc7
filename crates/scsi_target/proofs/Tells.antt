-- What a device is after a message of the initiator.
use Rattle.std.proofs.Common.{◌≡◌, ℕ, zero, suc, ◌<◌, ◌≤◌, Bool, true, false, List, [], ◌∷◌, length, slice_index_or, arith, ◌⊎◌, inl, inr, refl, ap, sym, ◌∙◌, Option, Some, None, map, subst}
use Rattle.std.specs.Prelude.{slice_get}
use Rattle.scsi_target.specs.declared.connection_state.Block.{Block}
use Rattle.target_law.specs.declared.nexus.Nexus.{Nexus}
use Rattle.target_law.specs.declared.rogue_phase.RoguePhase.{RoguePhase}
use Rattle.target_law.specs.declared.rogue_phase.RoguePhase.TheVariants as rogue_shows
use Rattle.target_law.specs.declared.task_phase.TaskPhase.{TaskPhase}
use Rattle.target_law.specs.Bytes.{Connection}
use Rattle.target_law.specs.Target.{LogicalUnit, ConnectionState, BusFree, Selected, TakingCommand, TaskConnected, RogueConnected, Target, at_lun, on_unit, unit_at, linked, target_reset}
use Rattle.target_law.specs.Calls.{InitiatorMessage, Names, Resets, AbortsTag, Other, message_of, greeted, aborted, told, messaged_by, target_messaged}
use Rattle.unit_tasks.specs.declared.queued.QueuedUnit.{QueuedUnit}
use Rattle.target_law.specs.Devices.{where_room}
use Rattle.scsi_target.specs.Messages.{read_of, exit_for, link_named}
use Rattle.scsi_target.specs.TaskExits.{May, target_by}
use Rattle.scsi_target.specs.Slots.{slot_of}
use Rattle.scsi_target.specs.Views.{busy, link_of, device_of, IsBlock, IsLinked, IsDevice}
use Rattle.scsi_target.specs.declared.connection_state.MessageBuffer.{MessageBuffer}
use Rattle.scsi_target.specs.declared.connection_state.ConnectionState.{ConnectionState as HeldState}
use Rattle.scsi_target.specs.declared.connection_state.ConnectionState.TheVariants as held
use Rattle.scsi_target.specs.declared.task_exit.TaskExit.{TaskExit}
use Rattle.scsi_target.specs.declared.initiator_message.InitiatorMessage.{InitiatorMessage as ReadMessage}
use Rattle.scsi_target.specs.declared.initiator_message.InitiatorMessage.TheVariants as read
use Rattle.scsi_target.proofs.Acks.{where_linked}
use Rattle.scsi_target.proofs.Devices.{device_relinked}
use Rattle.scsi_target.proofs.Places.{unit_is}

pub messaged_is : (t : Target) → target_messaged t ≡ messaged_by t.link t
unfolding target_messaged
messaged_is t = refl

-- the message that is told
pub names_are : (h : InitiatorMessage) (n : Nexus) → read_of h ≡ read.Names n → h ≡ Names n
names_are (Names m) n e = let same : m ≡ n = cc in ap Names same
names_are Resets n e = cc
names_are AbortsTag n e = cc
names_are Other n e = cc

pub resets_are : (h : InitiatorMessage) → read_of h ≡ read.Resets → h ≡ Resets
resets_are Resets e = refl
resets_are (Names m) e = cc
resets_are AbortsTag e = cc
resets_are Other e = cc

-- after a selection
named_as : (o : Option LogicalUnit) (us : List (Option LogicalUnit)) (l : ConnectionState) (n : Nexus)
    → on_unit o (λ u. linked (record { units = us; link = l }) (TakingCommand n [])) (linked (record { units = us; link = l }) BusFree) ≡ record { units = us; link = link_named o n }
named_as None us l n = refl
named_as (Some u) us l n = refl

pub greeted_names : (us : List (Option LogicalUnit)) (heard : List ℕ) (n : Nexus) → message_of heard ≡ Names n
    → target_messaged (record { units = us; link = Selected heard }) ≡ record { units = us; link = link_named (unit_at us n.lun) n }
greeted_names us heard n e = messaged_is _ ∙ ap (λ (h : InitiatorMessage). greeted (record { units = us; link = Selected heard }) h) e ∙ named_as (unit_at us n.lun) us (Selected heard) n

pub greeted_resets : (us : List (Option LogicalUnit)) (heard : List ℕ) → message_of heard ≡ Resets
    → target_messaged (record { units = us; link = Selected heard }) ≡ target_reset (record { units = us; link = Selected heard })
greeted_resets us heard e = messaged_is _ ∙ ap (λ (h : InitiatorMessage). greeted (record { units = us; link = Selected heard }) h) e

freed : (us : List (Option LogicalUnit)) (l : ConnectionState) (h : InitiatorMessage) → read_of h ≡ read.AbortsTag → greeted (record { units = us; link = l }) h ≡ record { units = us; link = BusFree }
freed us l AbortsTag e = refl
freed us l (Names n) e = cc
freed us l Resets e = cc
freed us l Other e = cc

freed_other : (us : List (Option LogicalUnit)) (l : ConnectionState) (h : InitiatorMessage) → read_of h ≡ read.Other → greeted (record { units = us; link = l }) h ≡ record { units = us; link = BusFree }
freed_other us l Other e = refl
freed_other us l (Names n) e = cc
freed_other us l Resets e = cc
freed_other us l AbortsTag e = cc

pub greeted_aborts : (us : List (Option LogicalUnit)) (heard : List ℕ) → read_of (message_of heard) ≡ read.AbortsTag → target_messaged (record { units = us; link = Selected heard }) ≡ record { units = us; link = BusFree }
greeted_aborts us heard e = messaged_is _ ∙ freed us (Selected heard) (message_of heard) e

pub greeted_other : (us : List (Option LogicalUnit)) (heard : List ℕ) → read_of (message_of heard) ≡ read.Other → target_messaged (record { units = us; link = Selected heard }) ≡ record { units = us; link = BusFree }
greeted_other us heard e = messaged_is _ ∙ freed_other us (Selected heard) (message_of heard) e

-- where only the link changes
pub relinked : (count : ℕ) (slots : List (Option QueuedUnit)) (old new : HeldState) (breaks : Bool) (t : Target) → IsDevice count slots old breaks → t ≡ record { units = map slot_of slots; link = link_of new }
    → device_of slots new ≡ where_room (device_of slots old) t
relinked count slots old new breaks t i e = sym (ap (λ (x : Target). where_room (device_of slots old) x) e ∙ where_linked count slots old breaks (link_of new) i)

pub idle_device : (count : ℕ) (slots : List (Option QueuedUnit)) (heard : MessageBuffer) (new : HeldState) → IsDevice count slots (held.Selected heard) false → ((k : ℕ) → busy new k ≡ 0) → IsLinked new slots false
    → IsDevice count slots new false
idle_device count slots heard new i b l = device_relinked count slots (held.Selected heard) new false i b l

-- with a task
pub told_resets : (us : List (Option LogicalUnit)) (c : Connection) → message_of c.heard ≡ Resets → target_messaged (record { units = us; link = TaskConnected c }) ≡ target_reset (record { units = us; link = TaskConnected c })
told_resets us c e = messaged_is _ ∙ ap (λ (h : InitiatorMessage). told h (record { units = us; link = TaskConnected c }) c) e

aborted_as : (b : Bool) (t : Target) (c : Connection) → at_lun t c.lun (aborted b t c) ≡ target_by (exit_for read.AbortsTag b) t c
aborted_as true t c = refl
aborted_as false t c = refl

told_by : (h : InitiatorMessage) (t : Target) (c : Connection) → (read_of h ≡ read.Resets → ⊥) → told h t c ≡ target_by (exit_for (read_of h) c.reselected) t c
told_by (Names n) t c f = refl
told_by Resets t c f = absurd (f refl)
told_by AbortsTag t c f = aborted_as c.reselected t c
told_by Other t c f = refl

pub told_parts : (us : List (Option LogicalUnit)) (c : Connection) → (read_of (message_of c.heard) ≡ read.Resets → ⊥)
    → target_messaged (record { units = us; link = TaskConnected c }) ≡ target_by (exit_for (read_of (message_of c.heard)) c.reselected) (record { units = us; link = TaskConnected c }) c
told_parts us c f = messaged_is _ ∙ told_by (message_of c.heard) (record { units = us; link = TaskConnected c }) c f

may_told : (h : ReadMessage) (b : Bool) (s : TaskPhase) → May (exit_for h b) s
may_told read.AbortsTag true s = tt
may_told read.AbortsTag false s = tt
may_told (read.Names n) b s = tt
may_told read.Resets b s = tt
may_told read.Other b s = tt

pub may_part_told : (h : ReadMessage) (b : Bool) (s : TaskPhase) (how : TaskExit) → how ≡ exit_for h b → May how s
may_part_told h b s how e = subst (λ (x : TaskExit). May x s) (sym e) (may_told h b s)

pub messaged_rogue : (us : List (Option LogicalUnit)) (s : RoguePhase) (n : Option Nexus) → target_messaged (record { units = us; link = RogueConnected s n }) ≡ record { units = us; link = RogueConnected rogue_shows.ToChoose n }
messaged_rogue us s n = messaged_is _

-- any other link stays
pub messaged_other : (l : HeldState) (us : List (Option LogicalUnit)) → ((h : MessageBuffer) → l ≡ held.Selected h → ⊥) → ((c : Connection) → l ≡ held.TaskConnected c → ⊥) → ((s : RoguePhase) (n : Option Nexus) → l ≡ held.RogueConnected s n → ⊥)
    → target_messaged (record { units = us; link = link_of l }) ≡ record { units = us; link = link_of l }
messaged_other held.BusFree us e f g = messaged_is _
messaged_other (held.Selected heard) us e f g = absurd (e heard refl)
messaged_other (held.TakingCommand n block) us e f g = messaged_is _
messaged_other (held.TaskConnected c) us e f g = absurd (f c refl)
messaged_other (held.RogueConnected s n) us e f g = absurd (g s n refl)

got : (slots : List (Option QueuedUnit)) (n : ℕ) (o : Option QueuedUnit) → n < length slots → o ≡ slice_index_or slots n o → slice_get slots n ≡ Some o
got [] n o l e = let f : ⊥ = omega arith in absurd f
got (q ∷ slots) zero o l e = ap Some (sym e)
got (q ∷ slots) (suc n) o l e = got slots n o (omega arith) e

past : (slots : List (Option QueuedUnit)) (n : ℕ) → length slots ≤ n → slice_get slots n ≡ None
past [] n l = refl
past (q ∷ slots) zero l = let f : ⊥ = omega arith in absurd f
past (q ∷ slots) (suc n) l = past slots n (omega arith)

pub named_past : (slots : List (Option QueuedUnit)) (n : Nexus) → length slots ≤ n.lun → BusFree ≡ link_named (unit_at (map slot_of slots) n.lun) n
named_past slots n l = sym (ap (λ o. link_named o n) (unit_is slots n.lun None (past slots n.lun l)))

pub named_none : (slots : List (Option QueuedUnit)) (n : Nexus) (o : Option QueuedUnit) → n.lun < length slots → o ≡ slice_index_or slots n.lun o → o ≡ None → BusFree ≡ link_named (unit_at (map slot_of slots) n.lun) n
named_none slots n o l e f = sym (ap (λ x. link_named x n) (unit_is slots n.lun (Some None) (got slots n.lun o l e ∙ ap Some f)))

pub named_there : (slots : List (Option QueuedUnit)) (n : Nexus) (o : Option QueuedUnit) (q : QueuedUnit) (bytes : List ℕ) → n.lun < length slots → o ≡ slice_index_or slots n.lun o → o ≡ Some q → bytes ≡ []
    → TakingCommand n bytes ≡ link_named (unit_at (map slot_of slots) n.lun) n
named_there slots n o q bytes l e f b = ap (λ x. TakingCommand n x) b ∙ sym (ap (λ x. link_named x n) (unit_is slots n.lun (Some (Some q)) (got slots n.lun o l e ∙ ap Some f)))

pub named_linked : (slots : List (Option QueuedUnit)) (n : Nexus) (o : Option QueuedUnit) (q : QueuedUnit) (block : Block) → n.lun < length slots → o ≡ slice_index_or slots n.lun o → o ≡ Some q → block.bytes.items ≡ []
    → IsLinked (held.TakingCommand n block) slots false
named_linked slots n o q block l e f b = (refl, subst IsBlock (sym b) tt, (q, got slots n.lun o l e ∙ ap Some f, tt))

-- a link that hears no more
pub rogue_device : (count : ℕ) (slots : List (Option QueuedUnit)) (s x : RoguePhase) (n : Option Nexus) (breaks : Bool) → IsDevice count slots (held.RogueConnected s n) breaks → IsDevice count slots (held.RogueConnected x n) breaks
rogue_device count slots s x n breaks i = device_relinked count slots (held.RogueConnected s n) (held.RogueConnected x n) breaks i (λ k. refl) i.linked

-- a message after a selection that frees the bus
pub greeted_frees : (us : List (Option LogicalUnit)) (heard : List ℕ) (t : ReadMessage) → t ≡ read_of (message_of heard) → (t ≡ read.AbortsTag) ⊎ (t ≡ read.Other)
    → target_messaged (record { units = us; link = Selected heard }) ≡ record { units = us; link = BusFree }
greeted_frees us heard t r (inl e) = greeted_aborts us heard (sym r ∙ e)
greeted_frees us heard t r (inr e) = greeted_other us heard (sym r ∙ e)
