-- The room of the logs of a bus suffices for each call.
use Rattle.std.proofs.Common.{◌≡◌, ℕ, ◌+◌, ◌≤◌, ◌<◌, Bool, true, false, List, length, slice_index_or, refl, ap, arith, sym, ◌∙◌, subst, Option, Some, inl, inr}
use Rattle.std.specs.Prelude.{◌==◌, ◌&&◌}
use Rattle.rig_types.specs.declared.rig.Unit.{Unit as RigUnit}
use Rattle.chip_step.specs.Event.{Event, Phase, Shown, ByteIn, ByteOut, Select, Reselect, SetAtn, ClearAck, Leave}
use Rattle.unit_law.specs.Log.{with_at}
use Rattle.unit_law.proofs.Views.{with_at-same}
use Rattle.target_law.specs.declared.moves.Move.{Move}
use Rattle.target_law.specs.declared.nexus.Nexus.{Nexus}
use Rattle.target_law.specs.declared.task_phase.TaskPhase.TheVariants.{ToChoose}
use Rattle.target_law.specs.Bytes.{Connection}
use Rattle.target_law.specs.Lawful.{CanOf}
use Rattle.target_law.specs.Target.{LogicalUnit, TaskConnected, Target, unit_at}
use Rattle.target_law.specs.Calls.{link_phase, target_acted, target_messaged, target_acked}
use Rattle.target_law.specs.Devices.{room_at}
use Rattle.target_law.proofs.Rooms.{lie_within-all}
use Rattle.bus_law.specs.Bus.{BusState, device_at, link_on}
use Rattle.bus_law.specs.Attention.{is_message_out}
use Rattle.ticket_fate.specs.Tickets.{Plan, Ticket}
use Rattle.ticket_fate.specs.Histories.{count_if}
use Rattle.ticket_fate.specs.Moves.{Moves, alone, resets_idle, resets_work, resets_asking, acts}
use Rattle.ticket_fate.specs.Kept.{AllKept}
use Rattle.ticket_fate.proofs.Reached.{all-kept}
use Rattle.ticket_link.specs.CallMoves.{IsCall, IsDeviceReset}
use Rattle.ticket_link.specs.Tags.{IsBuild}
use Rattle.ticket_room.specs.Rooms.{AreBelow, HasSpare, clears_in, HasLog}
use Rattle.ticket_room.proofs.Moves.{logs-stay-within}
use Rattle.bus_events.specs.Targets.{targets, HasRoom}
use Rattle.bus_events.specs.Tickets.{after_message, link_resets, resets_device, tickets_after}
use Rattle.bus_events.specs.Needs.{Needs, HasRoomAt, HasRoomFor}
use Rattle.bus_events.specs.TicketLaws.{AreJoined, Follows}
use Rattle.bus_events.specs.Rooms.{AreReserved, clears_at, CallsHaveRoom}
use Rattle.bus_events.proofs.Devices.{link-is}
use Rattle.bus_events.proofs.TicketCalls.{GoesBy, acked-goes, messaged-goes, messaged_if}
use Rattle.bus_events.proofs.Slots.{moves-there}
use Rattle.bus_events.proofs.KeptRooms.{rooms-stay}
use Rattle.bus_events.proofs.CallsMove.{calls-move}

-- ---- the Clears of a move
call-clears : {g : Plan} {count : ℕ} {ks : ℕ → Ticket} {ts : ℕ → Target} {ns : ℕ → Ticket} {us : ℕ → Target} (n : ℕ) (m : Moves g count ks ts ns us) → IsCall m → clears_in n m ≡ 0
call-clears n (alone x k u there m) c = absurd c
call-clears n (resets_idle i b idle can) c = absurd c
call-clears n (resets_work i b d u w plain there can) c = absurd c
call-clears n (resets_asking i d u w asks there) c = absurd c
call-clears n m c = refl

and-same : (a : Bool) → (a && true) ≡ a
and-same true = refl
and-same false = refl

reset-clears : {g : Plan} {count : ℕ} {ks : ℕ → Ticket} {ts : ℕ → Target} {ns : ℕ → Ticket} {us : ℕ → Target} (n i : ℕ) (m : Moves g count ks ts ns us) → IsDeviceReset i m
    → clears_in n m ≡ count_if ((g.units n).target == i) 1
reset-clears {g = g} n i (resets_idle j b idle can) c = ap (λ z. count_if z 1) (and-same ((g.units n).target == j) ∙ ap (λ z. (g.units n).target == z) c.0)
reset-clears {g = g} n i (resets_work j b d u w plain there can) c = ap (λ z. count_if z 1) (and-same ((g.units n).target == j) ∙ ap (λ z. (g.units n).target == z) c.0)
reset-clears n i m c = absurd c

call-builds : {g : Plan} {count : ℕ} {ks : ℕ → Ticket} {ts : ℕ → Target} {ns : ℕ → Ticket} {us : ℕ → Target} (m : Moves g count ks ts ns us) → IsCall m → IsBuild m → ⊥
call-builds (alone x k u there m) c e = c
call-builds m c e = e

reset-builds : {g : Plan} {count : ℕ} {ks : ℕ → Ticket} {ts : ℕ → Target} {ns : ℕ → Ticket} {us : ℕ → Target} (i : ℕ) (m : Moves g count ks ts ns us) → IsDeviceReset i m → IsBuild m → ⊥
reset-builds i (alone x k u there m) c e = c
reset-builds i m c e = e

module _ (g : Plan) (units : List RigUnit) (old : BusState) (ks : ℕ → Ticket) (j : AreJoined g units old ks) (built : ℕ) (below : AreBelow built ks) where
  abbrev count : ℕ
  count = length units

  abbrev ts : ℕ → Target
  ts = targets old

  h : AllKept g count ks ts
  h = all-kept g count ks ts j.reached

  abbrev room_of : ℕ → ℕ
  room_of n = room_at (device_at old (g.units n).target) (g.units n).lun

  -- what a move leaves
  pub left : (ns : ℕ → Ticket) (us : ℕ → Target) (m : Moves g count ks ts ns us) → (IsBuild m → ⊥) → (n : ℕ) → n < count → (v : LogicalUnit) → HasLog g n us v → (spare clears : ℕ) → clears_in n m ≡ clears
      → ((u : LogicalUnit) → HasLog g n ts u → HasSpare g n built ks u.log (room_of n) (spare + clears)) → HasSpare g n built ns v.log (room_of n) spare
  left ns us m old_one n less v there spare clears e s =
      let u = (h.each (g.units n).target).units n less refl in
      logs-stay-within g count ks ts ns us j.reached m old_one built n (room_of n) spare u.0 v below less u.1 there (subst (λ z. HasSpare g n built ks u.0.log (room_of n) (spare + z)) (sym e) (s u.0 u.1))

  -- ---- a target in place of one has room, where all its units have
  module _ (i : ℕ) (t : Target) where
    within : ((lun : ℕ) (v : LogicalUnit) → unit_at t.units lun ≡ Some v → (u : LogicalUnit) × (unit_at (ts i).units lun ≡ Some u))
        → ((n : ℕ) → n < count → (g.units n).target ≡ i → (v : LogicalUnit) → unit_at t.units (g.units n).lun ≡ Some v → length v.log ≤ room_of n) → HasRoom old i t
    within was f = lie_within-all t.units (device_at old i).rooms (λ lun v e.
        let u = was lun v e in
        let n = j.whole i lun u.0 u.1 in
        let l : length v.log ≤ room_of n.0 = f n.0 n.1 n.2 v (ap (unit_at t.units) n.3 ∙ e) in
        subst (λ z. length v.log ≤ room_at (device_at old i) z) n.3 (subst (λ z. length v.log ≤ room_at (device_at old z) (g.units n.0).lun) n.2 l))

    pub moved-within : (ns : ℕ → Ticket) (m : Moves g count ks ts ns (with_at ts i t)) → (IsBuild m → ⊥) → (clears : ℕ → ℕ) → ((n : ℕ) → (g.units n).target ≡ i → clears_in n m ≡ clears n)
        → AreReserved g units built old ks clears → HasRoom old i t
    moved-within ns m old_one clears e s =
        within
        (λ lun v f. moves-there g count ks ts ns (with_at ts i t) m i lun v (ap (λ (z : Target). unit_at z.units lun) (with_at-same ts i t) ∙ f))
        (λ n less q v f.
        let there : HasLog g n (with_at ts i t) v = ap (λ (z : Target). unit_at z.units (g.units n).lun) (ap (with_at ts i t) q ∙ with_at-same ts i t) ∙ f in
        let l = left ns (with_at ts i t) m old_one n less v there 0 (clears n) (e n q) (λ u own. let k = s n less u own in omega (arith, k)) in
        omega (arith, l))

    still-within : t ≡ ts i → (spare : ℕ → ℕ) → AreReserved g units built old ks spare → HasRoom old i t
    still-within e spare s =
        within (λ lun v f. (v, ap (λ (z : Target). unit_at z.units lun) (sym e) ∙ f))
        (λ n less q v f.
        let l = s n less v (ap (λ k. unit_at (ts k).units (g.units n).lun) q ∙ ap (λ (z : Target). unit_at z.units (g.units n).lun) (sym e) ∙ f) in
        omega (arith, l))

    goes-within : (resets : Bool) (ns : ℕ → Ticket) → old.connected ≡ Some i → GoesBy g count ks ts j.reached.plan h i resets ns t → (spare : ℕ → ℕ)
        → AreReserved g units built old ks (λ n. spare n + clears_at resets old.connected (g.units n).target) → HasRoom old i t
    goes-within false ns e (inl q) spare s = still-within q.1 _ s
    goes-within false ns e (inr m) spare s =
        moved-within ns m.0 (call-builds m.0 m.1) (λ n. 0) (λ n q. call-clears n m.0 m.1) (λ n less u there. let l = s n less u there in omega (arith, l))
    goes-within true ns e m spare s =
        moved-within ns m.0 (reset-builds i m.0 m.1) (λ n. count_if ((g.units n).target == i) 1) (λ n q. reset-clears n i m.0 m.1)
        (λ n less u there.
        let l = s n less u there in
        let z : clears_at true old.connected (g.units n).target ≡ count_if ((g.units n).target == i) 1 = ap (λ o. clears_at true o (g.units n).target) e in
        omega (arith, l, z))

  -- ---- so a call has room
  abbrev Spare : Event → (ℕ → ℕ) → Type 0
  Spare event spare = AreReserved g units built old ks (λ n. spare n + clears_at (resets_device old event) old.connected (g.units n).target)

  choice-room : (i : ℕ) → (spare : ℕ → ℕ) → AreReserved g units built old ks spare → (c : Connection) (u : LogicalUnit) (m : Move) → (ts i).link ≡ TaskConnected c → unit_at (ts i).units c.lun ≡ Some u
      → c.shows ≡ ToChoose → CanOf u c m → HasRoom old i (target_acted (ts i) m)
  choice-room i spare s c u m link there e can =
      moved-within i (target_acted (ts i) m) _ (acts i c u m link there e can) (λ z. z) (λ n. 0) (λ n q. refl) (λ n less w own. let l = s n less w own in omega (arith, l))

  no-more : (spare : ℕ → ℕ) → AreReserved g units built old ks (λ n. spare n + 0) → AreReserved g units built old ks spare
  no-more spare s n less u there = let l = s n less u there in omega (arith, l)

  link-old : (i : ℕ) → old.connected ≡ Some i → link_on old ≡ (ts i).link
  link-old i e = link-is old i (ts i).link e refl

  room-at : (event : Event) (spare : ℕ → ℕ) (live : ℕ → Nexus → Option ℕ) → Needs g live old event ks → Spare event spare → (i : ℕ) → old.connected ≡ Some i → HasRoomAt old i event
  room-at (Phase word shown) spare live needs s i e = choice-room i spare (no-more spare s)
  room-at (Leave word gone) spare live needs s i e = choice-room i spare (no-more spare s)
  room-at (SetAtn false) spare live needs s i e =
      λ shown. by (is_message_out (link_phase (ts i).link)) shown (messaged-goes g count ks ts j.reached.plan h i (ts i).link refl (needs i e))
    where
      by : (b : Bool) → b ≡ true → GoesBy g count ks ts j.reached.plan h i (link_resets (ts i).link) (after_message ks g i (ts i) b (ts i).link) (messaged_if g count ks ts j.reached.plan h i b) → HasRoom old i (target_messaged (ts i))
      by true f q = goes-within i (target_messaged (ts i)) (link_resets (ts i).link) _ e q spare (subst (λ z. AreReserved g units built old ks (λ n. spare n + clears_at (link_resets z) old.connected (g.units n).target)) (link-old i e) s)
      by false f q = cc
  room-at ClearAck spare live needs s i e = goes-within i (target_acked (ts i)) false _ e (acked-goes g count ks ts j.reached.plan h i (ts i).link refl (needs i e)) spare s
  room-at (Shown shown) spare live needs s i e = tt
  room-at (ByteIn byte) spare live needs s i e = tt
  room-at (ByteOut byte taken) spare live needs s i e = tt
  room-at (Select target word settled) spare live needs s i e = tt
  room-at (Reselect word by) spare live needs s i e = tt
  room-at (SetAtn true) spare live needs s i e = tt

  -- ---- and as much to spare is left
  module _ (new : BusState) (ns : ℕ → Ticket) (same_rooms : (i : ℕ) → (device_at new i).rooms ≡ (device_at old i).rooms) (spare : ℕ → ℕ) where
    same-room : (n : ℕ) → room_of n ≡ room_at (device_at new (g.units n).target) (g.units n).lun
    same-room n = ap (λ rs. slice_index_or rs (g.units n).lun 0) (sym (same_rooms (g.units n).target))

    moved-left : (m : Moves g count ks ts ns (targets new)) → (IsBuild m → ⊥) → (clears : ℕ → ℕ) → ((n : ℕ) → clears_in n m ≡ clears n) → AreReserved g units built old ks (λ n. spare n + clears n)
        → AreReserved g units built new ns spare
    moved-left m old_one clears e s n less v there =
        subst (λ r. HasSpare g n built ns v.log r (spare n)) (same-room n) (left ns (targets new) m old_one n less v there (spare n) (clears n) (e n) (s n less))

    follows-left : (resets : Bool) → Follows resets old.connected g count ks ts ns (targets new) → AreReserved g units built old ks (λ n. spare n + clears_at resets old.connected (g.units n).target)
        → AreReserved g units built new ns spare
    follows-left false (inl q) s = λ n less v there.
        let l = s n less v (ap (λ (z : ℕ → Target). unit_at (z (g.units n).target).units (g.units n).lun) (sym q.1) ∙ there) in
        let k : HasSpare g n built ks v.log (room_of n) (spare n) = omega (arith, l) in
        subst (λ r. HasSpare g n built ns v.log r (spare n)) (same-room n) (subst (λ z. HasSpare g n built z v.log (room_of n) (spare n)) (sym q.0) k)
    follows-left false (inr m) s =
        moved-left m.0 (call-builds m.0 m.1) (λ n. 0) (λ n. call-clears n m.0 m.1) s
    follows-left true m s =
        moved-left m.2.0 (reset-builds m.0 m.2.0 m.2.1) (λ n. clears_at true old.connected (g.units n).target)
        (λ n. reset-clears n m.0 m.2.0 m.2.1 ∙ sym (ap (λ o. clears_at true o (g.units n).target) m.1)) s

pub calls-have-room : CallsHaveRoom
calls-have-room g units live old event new ks built spare j call needs below s =
    let room : HasRoomFor old event = room-at g units old ks j built below event spare live needs s in
    let follows = calls-move g units live old event new ks (record { joined = j; call = call; needs = needs; room = room }) in (
      room,
      follows-left g units old ks j built below new (tickets_after g old event new ks) (rooms-stay units live old event new call) spare (resets_device old event) follows s,
    )
