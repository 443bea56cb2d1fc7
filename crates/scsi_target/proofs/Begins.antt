-- What a device is after the beginning of a task.
use Rattle.std.proofs.Common.{◌≡◌, ℕ, ◌<◌, Bool, true, false, ◌||◌, List, refl, ap, arith, sym, ◌∙◌, Option, Some, None, length, map, subst, slice_set, nat_lt, if◌then◌else◌}
use Rattle.std.specs.Prelude.{slice_get, IsSome}
use Rattle.std.proofs.lemmas.Bool.Decides.{nat_tests}
use Rattle.cdb_codec.specs.declared.commands.Cdb.{Cdb}
use Rattle.target_law.specs.declared.nexus.Nexus.{Nexus}
use Rattle.target_law.specs.Beginning.{has_place, where_placed, ticket_for, begins_if, begins}
use Rattle.target_law.specs.Lawful.{IsThere}
use Rattle.target_law.specs.Bytes.{Connection}
use Rattle.target_law.specs.Target.{LogicalUnit, ConnectionState, BusFree, Selected, TakingCommand, TaskConnected, RogueConnected, Target, linked}
use Rattle.target_law.specs.Calls.{has_tag, nexus_of, whole_by, begun, begun_with, begun_by, target_begun}
use Rattle.unit_tasks.specs.Units.{unit_of}
use Rattle.unit_tasks.specs.declared.queued.QueuedUnit.{QueuedUnit}
use Rattle.scsi_target.specs.Beginnings.{makes_none, link_begun, HasPlaceFor}
use Rattle.scsi_target.specs.Devices.{place_for}
use Rattle.scsi_target.specs.Slots.{room_of}
use Rattle.scsi_target.specs.Views.{link_of, device_of, IsSlot, IsDevice}
use Rattle.scsi_target.specs.declared.connection_state.Block.{Block}
use Rattle.scsi_target.specs.declared.connection_state.ConnectionState.{ConnectionState as HeldState}
use Rattle.scsi_target.specs.declared.connection_state.ConnectionState.TheVariants as held
use Rattle.scsi_target.specs.TaskExits.{IsOnlyHere}
use Rattle.scsi_target.proofs.Places.{within, units_stay, rooms_stay}
use Rattle.scsi_target.proofs.Devices.{device_set, device_relinked}
use Rattle.scsi_target.proofs.Parted.{busy_other, linked_here, state_same, on_there}

pub begun_device : (count : ℕ) (slots : List (Option QueuedUnit)) (n : Nexus) (block : Block) (old new : QueuedUnit) (to : HeldState) → IsDevice count slots (held.TakingCommand n block) false
    → slice_get slots n.lun ≡ Some (Some old) → IsSlot false to n.lun new → IsOnlyHere n.lun new to → IsDevice count (slice_set slots n.lun (Some new)) to false
begun_device count slots n block old new to i e s o =
    let inside = within slots n.lun old e in
    device_set count slots (held.TakingCommand n block) to false n.lun new i inside s (λ k d. busy_other n.lun k new to o d) (linked_here slots n.lun new to inside o)

pub freed_device : (count : ℕ) (slots : List (Option QueuedUnit)) (n : Nexus) (block : Block) → IsDevice count slots (held.TakingCommand n block) false → IsDevice count slots held.BusFree false
freed_device count slots n block i = device_relinked count slots (held.TakingCommand n block) held.BusFree false i (λ k. refl) tt

linked_if : (b : Bool) (t : Target) (x y : ConnectionState) → (if b then linked t x else linked t y) ≡ linked t (if b then x else y)
linked_if true t x y = refl
linked_if false t x y = refl

begun_as : (t : Target) (n : Nexus) (c : Cdb) (u : LogicalUnit) (ticket : ℕ) → begun t n c u ticket ≡ linked t (link_begun n c u ticket)
begun_as t n c u ticket = linked_if (makes_none u.tasks n.tag c) t BusFree _

pub begun_state : (slots : List (Option QueuedUnit)) (n : Nexus) (block : Block) (c : Cdb) (ticket : ℕ) (old new : QueuedUnit) (to : HeldState) → slice_get slots n.lun ≡ Some (Some old)
    → unit_of new ≡ unit_of old → new.core.log.room ≡ old.core.log.room → link_of to ≡ link_begun n c (unit_of old) ticket
    → device_of (slice_set slots n.lun (Some new)) to ≡ record { target = begun_with (device_of slots (held.TakingCommand n block)).target n c (Some ticket); rooms = map room_of slots }
begun_state slots n block c ticket old new to e f r l =
    let t : Target = (device_of slots (held.TakingCommand n block)).target in
    let is : begun_with t n c (Some ticket) ≡ linked t (link_begun n c (unit_of old) ticket) = on_there slots n.lun old (λ u. begun t n c u ticket) t e ∙ begun_as t n c (unit_of old) ticket in
    state_same _ _ _ _ _ _ (units_stay slots n.lun old new e f) l (rooms_stay slots n.lun old new e r)
    ∙ sym (ap (λ (x : Target). record { target = x; rooms = map room_of slots }) is)

pub begun_is : (t : Target) (ticket : Option ℕ) → target_begun t ticket ≡ begun_by t.link t ticket
unfolding target_begun
begun_is t ticket = refl

-- the same of a device with a command
pub begun_from : (slots news : List (Option QueuedUnit)) (link to : HeldState) (n : Nexus) (block : Block) (ticket : Option ℕ) → link ≡ held.TakingCommand n block
    → device_of news to ≡ record { target = begun_by (link_of (held.TakingCommand n block)) (device_of slots (held.TakingCommand n block)).target ticket; rooms = map room_of slots }
    → device_of news to ≡ record { target = target_begun (device_of slots link).target ticket; rooms = map room_of slots }
begun_from slots news link to n block ticket e h =
    subst (λ (l : HeldState). device_of news to ≡ record { target = target_begun (device_of slots l).target ticket; rooms = map room_of slots }) (sym e)
    (h ∙ ap (λ (x : Target). record { target = x; rooms = map room_of slots }) (sym (begun_is (device_of slots (held.TakingCommand n block)).target ticket)))

-- a unit that has a place
second : (a b : Bool) → (a || b) ≡ true → a ≡ false → b ≡ true
second true b e h = cc
second false b e h = e

pub place-of : (o : Option LogicalUnit) (n : Nexus) → has_place o n.tag ≡ true → IsThere o (HasPlaceFor n)
place-of (Some u) n e = λ none. let l : nat_lt (length u.tasks) u.rig.depth ≡ true = second (has_tag u.tasks n.tag) _ e none in grind (arith, nat_tests)
place-of None n e = cc

-- the ticket of a whole command
abbrev none_given : Option ℕ
none_given = None

pub place-some : (place : Bool) (ticket placed : Option ℕ) → placed ≡ where_placed place ticket → IsSome placed → place ≡ true
place-some true ticket placed e h = refl
place-some false ticket placed e h = let f : IsSome none_given = subst (λ (o : Option ℕ). IsSome o) e h in absurd cc

ticket-by : (t : Target) (l : ConnectionState) (ticket : Option ℕ) → whole_by l ≡ true → where_placed (place_for t (nexus_of l)) ticket ≡ ticket_for (λ n. ticket) t (nexus_of l)
ticket-by t (TakingCommand n taken) ticket e = refl
ticket-by t BusFree ticket e = cc
ticket-by t (Selected heard) ticket e = cc
ticket-by t (TaskConnected c) ticket e = cc
ticket-by t (RogueConnected s n) ticket e = cc

begins-if : (whole : Bool) (t : Target) (ticket : Option ℕ) → whole ≡ true → begins_if (λ n. ticket) whole t ≡ target_begun t (ticket_for (λ n. ticket) t (nexus_of t.link))
begins-if true t ticket e = refl
begins-if false t ticket e = cc

pub begins-whole : (t : Target) (ticket placed : Option ℕ) → whole_by t.link ≡ true → placed ≡ where_placed (place_for t (nexus_of t.link)) ticket → target_begun t placed ≡ begins (λ n. ticket) t
begins-whole t ticket placed e h = ap (target_begun t) (h ∙ ticket-by t t.link ticket e) ∙ sym (begins-if (whole_by t.link) t ticket e)
