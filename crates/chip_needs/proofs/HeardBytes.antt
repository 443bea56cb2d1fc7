-- What each call of a message to the target makes of one that was selected.
use Rattle.std.proofs.Common.{arith, ◌≡◌, inl, inr, ℕ, Bool, true, false, List, [], length, slice_set, Option, Some, None, refl, sym, ap, subst, ◌∙◌, if◌then◌else◌}
use Rattle.std.proofs.lemmas.Bool.{cases_lt}
use Rattle.std.proofs.lemmas.List.{get_or-set_same, get_or_past, length-set}
use Rattle.std.proofs.lemmas.Option.{same_Some}
use Rattle.rig_types.specs.declared.rig.Unit.{Unit as RigUnit}
use Rattle.target_law.specs.declared.nexus.Nexus.{Nexus}
use Rattle.target_law.specs.Beginning.{target_took, took_where, begins}
use Rattle.target_law.specs.Calls.{is_free, link_phase, link_takes, link_took, target_acked, acked_by}
use Rattle.target_law.specs.Devices.{DeviceState, where_room, lie_within}
use Rattle.target_law.specs.Target as connection_state
use Rattle.target_law.specs.Target.{ConnectionState, BusFree, RogueConnected, Target, linked}
use Rattle.bus_law.specs.Attention.{acked, after_ack, device_acked}
use Rattle.bus_law.specs.Bus.{BusState, device_at, device_of, no_device, free_if, with_device, link_on}
use Rattle.bus_law.specs.Bytes.{after_byte_out, device_took}
use Rattle.bus_law.specs.Choices.{turned_by, turned, after_turn}
use Rattle.bus_events.specs.Targets.{targets}
use Rattle.chip_needs.specs.Sending.{IsRogueOrFree, NoneOfRules}
use Rattle.chip_needs.specs.Greeting.{IsGreeted}
use Rattle.target_law.specs.Bytes.{hears}

-- ---- a link that a call leaves, or makes
module _ (L : ConnectionState → Type 0) (free : L BusFree) where
  pub room-so : (b : Bool) (d : DeviceState) (t : Target) → L d.target.link → L t.link → L (if b then record { target = t; rooms = d.rooms } else d).target.link
  room-so true d t h j = j
  room-so false d t h j = h

  device-so : (b : BusState) (id : ℕ) (d : DeviceState) → L d.target.link → L (device_at (with_device b id d) id).target.link
  device-so b id d h = elim (cases_lt id (length b.devices)) [
    | inl l ↦ subst (λ (x : DeviceState). L x.target.link) (sym (get_or-set_same b.devices id d no_device l)) h
    | inr l ↦ subst (λ (x : DeviceState). L x.target.link) (sym (get_or_past (slice_set b.devices id d) id no_device (omega (arith, l, length-set b.devices id d)))) free
  ]

  pub becomes-so : (f : Bool) (b : BusState) (id : ℕ) (d : DeviceState) → b.connected ≡ Some id → L d.target.link → (i : ℕ) → (free_if f (with_device b id d)).connected ≡ Some i → L (targets (free_if f (with_device b id d)) i).link
  becomes-so true b id d e h = λ i c. (let z : None ≡ Some i = c in absurd cc)
  becomes-so false b id d e h = λ i c. (let z : id ≡ i = same_Some id i (sym e ∙ c) in subst (λ (j : ℕ). L (device_at (with_device b id d) j).target.link) z (device-so b id d h))

-- ---- a target that was selected and heard such bytes of a message, or units that break the rules, or nothing
abbrev pub HasHeard : (List ℕ → Type 0) → ConnectionState → Type 0
HasHeard P (connection_state.Selected heard) = P heard
HasHeard P (RogueConnected s n) = Unit {0}
HasHeard P BusFree = Unit {0}
HasHeard P l = ⊥

abbrev pub HaveHeard : (List ℕ → Type 0) → BusState → Type 0
HaveHeard P b = (i : ℕ) → b.connected ≡ Some i → HasHeard P (targets b i).link

of-rogue : (P : List ℕ → Type 0) (l : ConnectionState) → IsRogueOrFree l → HasHeard P l
of-rogue P (RogueConnected s n) h = tt
of-rogue P BusFree h = tt
of-rogue P l h = absurd h

pub greeted-heard : (P : List ℕ → Type 0) → P [] → (l : ConnectionState) → IsGreeted l → HasHeard P l
greeted-heard P z (connection_state.Selected heard) h = subst P (sym h) z
greeted-heard P z (RogueConnected s n) h = tt
greeted-heard P z BusFree h = tt
greeted-heard P z l h = absurd h

-- ---- what a call makes of a target that was selected
module _ (heard : List ℕ) where
  abbrev Heard : ConnectionState
  Heard = connection_state.Selected heard

  acked-heard : (P : List ℕ → Type 0) (d : DeviceState) (l : ConnectionState) → l ≡ Heard → HasHeard P l → d.target.link ≡ l → HasHeard P (acked_by l d.target).link
  acked-heard P d (connection_state.Selected x) e h q = subst (HasHeard P) (sym q) h
  acked-heard P d l e h q = absurd cc

  out-heard : (live_at : Nexus → Option ℕ) (P : List ℕ → Type 0) (t : Target) (byte : ℕ) → t.link ≡ Heard → P (hears heard byte) → HasHeard P (target_took live_at t byte).link
  unfolding target_took
  out-heard live_at P t byte e h =
      subst (λ (l : ConnectionState). HasHeard P (took_where live_at (link_takes l) t byte).link) (sym e)
      (subst (λ (l : ConnectionState). HasHeard P (begins live_at (linked t (link_took l byte))).link) (sym e) h)

-- ---- each call of the move
module _ (units : List RigUnit) (live_at : ℕ → Nexus → Option ℕ) where
  -- a target that was selected is connected, or no target that keeps the rules
  pub data Stands (P : List ℕ → Type 0) (b : BusState) : Type 0 where
    selects : (id : ℕ) (heard : List ℕ) → b.connected ≡ Some id → (targets b id).link ≡ connection_state.Selected heard → P heard → Stands P b
    breaks : NoneOfRules b → Stands P b

  stands-by : (P : List ℕ → Type 0) (b : BusState) (id : ℕ) (l : ConnectionState) → b.connected ≡ Some id → (targets b id).link ≡ l → HasHeard P l → Stands P b
  stands-by P b id (connection_state.Selected heard) e q h = selects id heard e q h
  stands-by P b id (RogueConnected s n) e q h = breaks (λ i c. subst (λ (j : ℕ). IsRogueOrFree (targets b j).link) (same_Some id i (sym e ∙ c)) (subst IsRogueOrFree (sym q) tt))
  stands-by P b id BusFree e q h = breaks (λ i c. subst (λ (j : ℕ). IsRogueOrFree (targets b j).link) (same_Some id i (sym e ∙ c)) (subst IsRogueOrFree (sym q) tt))
  stands-by P b id l e q h = absurd h

  pub stands : (P : List ℕ → Type 0) (b : BusState) → HaveHeard P b → Stands P b
  stands P b h = by b.connected refl
    where
      by : (o : Option ℕ) → b.connected ≡ o → Stands P b
      by None e = breaks (λ i c. (let z : None ≡ Some i = sym e ∙ c in absurd cc))
      by (Some id) e = stands-by P b id (targets b id).link e refl (h id e)

  pub of-rules : (P : List ℕ → Type 0) (b : BusState) → NoneOfRules b → HaveHeard P b
  of-rules P b h i c = of-rogue P (targets b i).link (h i c)

  pub link-is : (b : BusState) (id : ℕ) (l : ConnectionState) → b.connected ≡ Some id → (targets b id).link ≡ l → link_on b ≡ l
  link-is b id l e q = ap (λ (x : Option ℕ). (device_of b x).target.link) e ∙ q

  pub ack-heard : (P : List ℕ → Type 0) (a : Bool) (b : BusState) (id : ℕ) (heard : List ℕ) → b.connected ≡ Some id → (targets b id).link ≡ connection_state.Selected heard → P heard → HaveHeard P (after_ack a b)
  unfolding target_acked where_room
  ack-heard P true b id heard e q h =
      subst (λ (o : Option ℕ). HaveHeard P (record (acked o b) { ack = false })) (sym e)
      (λ i c. (let d = device_at b id in
      becomes-so (HasHeard P) tt (is_free (device_acked d).target.link) b id (device_acked d) e
      (room-so (HasHeard P) tt (lie_within (target_acked d.target).units d.rooms) d (target_acked d.target) (subst (HasHeard P) (sym q) h) (acked-heard heard P d d.target.link q (subst (HasHeard P) (sym q) h) refl)) i c))
  ack-heard P false b id heard e q h = λ i c. subst (λ (j : ℕ). HasHeard P (targets b j).link) (same_Some id i (sym e ∙ c)) (subst (HasHeard P) (sym q) h)

  pub turn-heard : (P : List ℕ → Type 0) (word : ℕ) (b : BusState) (id : ℕ) (heard : List ℕ) → b.connected ≡ Some id → (targets b id).link ≡ connection_state.Selected heard → P heard → HaveHeard P (after_turn b.connected word b)
  turn-heard P word b id heard e q h =
      subst (λ (o : Option ℕ). HaveHeard P (after_turn o word b)) (sym e)
      (becomes-so (HasHeard P) tt (is_free (turned b.atn word (device_at b id)).target.link) b id (turned b.atn word (device_at b id)) e
      (subst (λ (l : ConnectionState). HasHeard P (turned_by (link_phase l) b.atn word (device_at b id)).target.link) (sym q) (subst (HasHeard P) (sym q) h)))

  pub takes-heard : (P : List ℕ → Type 0) (byte : ℕ) (taken : Bool) (b : BusState) (id : ℕ) (heard : List ℕ) → b.connected ≡ Some id → (targets b id).link ≡ connection_state.Selected heard → P (hears heard byte) → taken ≡ link_takes (link_on b)
      → HaveHeard P (after_byte_out live_at taken b.connected byte b)
  takes-heard P byte taken b id heard e q h t =
      let all : taken ≡ true = t ∙ ap link_takes (link-is b id (connection_state.Selected heard) e q) in
      subst (λ (x : Bool). HaveHeard P (after_byte_out live_at x b.connected byte b)) (sym all)
      (subst (λ (o : Option ℕ). HaveHeard P (after_byte_out live_at true o byte b)) (sym e)
      (becomes-so (HasHeard P) tt (is_free (device_took live_at id (device_at b id) byte).target.link) b id (device_took live_at id (device_at b id) byte) e (out-heard heard (live_at id) P (device_at b id).target byte q h)))
