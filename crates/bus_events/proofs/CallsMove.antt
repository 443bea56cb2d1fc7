-- Each call of the bus is one move of tickets and targets at most.
use Rattle.std.proofs.Common.{◌≡◌, ℕ, zero, suc, ◌<◌, ◌/◌, ◌%◌, Bool, true, false, List, [], ◌∷◌, length, slice_get, slice_index_or, is_none, arith, refl, ap, sym, ◌∙◌, subst, Option, Some, None, option_map, inl, inr}
use Rattle.std.proofs.lemmas.Bool.{and_parts}
use Rattle.std.proofs.lemmas.List.{get_or-set_same}
use Rattle.std.proofs.lemmas.Option.{same_Some}
use Rattle.rig_types.specs.declared.rig.Unit.{Unit as RigUnit}
use Rattle.chip_step.specs.Event.{Event, Phase, Shown, ByteIn, ByteOut, Select, Reselect, SetAtn, ClearAck, Leave}
use Rattle.chip_step.specs.declared.scsi_bus.Settled.{Settled}
use Rattle.unit_law.specs.Log.{with_at}
use Rattle.target_law.specs.declared.nexus.Nexus.{Nexus}
use Rattle.target_law.specs.Target.{LogicalUnit, BusFree, Target, unit_at, linked}
use Rattle.target_law.specs.Calls.{answers, is_free, link_phase, link_byte, link_sent, link_takes, target_selected, target_messaged, target_acked}
use Rattle.target_law.specs.Devices.{DeviceState}
use Rattle.bus_law.specs.Bus.{BusState, no_device, device_at, device_of, link_on, free_if, with_device, becomes}
use Rattle.bus_law.specs.Choices.{turned, after_turn}
use Rattle.bus_law.specs.Bytes.{sent, is_same_phase, if_asked, byte_of, after_byte_in, device_took, after_byte_out}
use Rattle.bus_law.specs.Reselections.{Candidate, candidate_count, candidate_named, target_of, device_reselected, reselected, after_reselection, can_select, settles, device_selected, after_selection}
use Rattle.bus_law.specs.Attention.{is_message_out, device_messaged, messaged, device_acked, acked, after_ack}
use Rattle.bus_law.specs.Laws.{OneConnected}
use Rattle.bus_law.specs.Moves.{moves}
use Rattle.bus_law.proofs.OneConnected.{stays_connected}
use Rattle.ticket_fate.specs.Tickets.{Plan, Ticket}
use Rattle.ticket_fate.specs.Histories.{more}
use Rattle.ticket_fate.specs.Moves.{Moves, alone}
use Rattle.ticket_fate.specs.Kept.{AllKept}
use Rattle.ticket_fate.specs.Laws.{Reached}
use Rattle.ticket_fate.proofs.Reached.{all-kept}
use Rattle.ticket_link.specs.CallMoves.{IsCall, IsDeviceReset, CallMoves, DeviceResetMoves}
use Rattle.ticket_link.specs.Tags.{TagsApart, TakesFreeTag}
use Rattle.ticket_link.proofs.Tags.{apart-kept}
use Rattle.bus_events.specs.Targets.{targets, HasRoom}
use Rattle.bus_events.specs.Tickets as after
use Rattle.bus_events.specs.Tickets.{tickets_after}
use Rattle.bus_events.specs.Needs.{NeedsChoice, NeedsByte, NeedsMessage, NeedsAck, Needs, HasRoomToChoose, HasRoomFor}
use Rattle.bus_events.specs.TicketLaws.{AreJoined, Follows, CallsMove, CallsStayJoined}
use Rattle.bus_events.proofs.Devices.{device-changed, device-becomes, link-is, roomy, same-target}
use Rattle.bus_events.proofs.TicketCalls.{Goes, GoesBy, free-is, sent-goes, acked-goes, messaged_if, messaged-goes}
use Rattle.bus_events.proofs.TicketTurns.{turned-goes}
use Rattle.bus_events.proofs.TicketBegins.{took-goes}
use Rattle.bus_events.proofs.TicketCandidates.{none-is, candidate-is}
use Rattle.bus_events.proofs.Slots.{moves-there, has-rogue}
use Rattle.bus_events.proofs.TicketSelections.{selected-goes, reselected-goes}

-- ---- devices of a bus
within : (ds : List DeviceState) (id : ℕ) → is_free (slice_index_or ds id no_device).target.link ≡ false → id < length ds
within [] id h = absurd cc
within (d ∷ ds) zero h = omega arith
within (d ∷ ds) (suc id) h = omega (arith, within ds id h)

pub unit-stands : (ds : List DeviceState) (id lun : ℕ) (u : LogicalUnit) → unit_at (slice_index_or ds id no_device).target.units lun ≡ Some u → id < length ds
unfolding unit_at
unit-stands [] id lun u h = absurd cc
unit-stands (d ∷ ds) zero lun u h = omega arith
unit-stands (d ∷ ds) (suc id) lun u h = omega (arith, unit-stands ds id lun u h)

answer-stands : (ds : List DeviceState) (id : ℕ) → answers (slice_index_or ds id no_device).target ≡ true → id < length ds
unfolding answers
answer-stands [] id h = absurd cc
answer-stands (d ∷ ds) zero h = omega arith
answer-stands (d ∷ ds) (suc id) h = omega (arith, answer-stands ds id h)

listed : (us : List RigUnit) (n : ℕ) (r : RigUnit) → slice_get us n ≡ Some r → n < length us
listed [] n r e = absurd cc
listed (u ∷ us) zero r e = omega arith
listed (u ∷ us) (suc n) r e = omega (arith, listed us n r e)

-- the link that is connected after a call
link-becomes : (b : BusState) (id : ℕ) (d : DeviceState) → b.connected ≡ Some id → id < length b.devices → link_on (becomes b id d) ≡ d.target.link
link-becomes b id d e l = by (is_free d.target.link) refl
  where
    by : (f : Bool) → is_free d.target.link ≡ f → link_on (free_if f (with_device b id d)) ≡ d.target.link
    by true q = sym (free-is d.target.link q)
    by false q = ap (λ o. (device_of (with_device b id d) o).target.link) e ∙ ap (λ (y : DeviceState). y.target.link) (get_or-set_same b.devices id d no_device l)

some-is : (a b : ℕ) → Some a ≡ Some b → a ≡ b
some-is a b e = cc

not-some : (a : ℕ) → None ≡ Some a → ⊥
not-some a e = cc

asked-some : (t : Bool) (o : Option ℕ) (byte : ℕ) → Some byte ≡ if_asked t o → (b : ℕ) × (o ≡ Some b)
asked-some true (Some b) byte e = (b, refl)
asked-some true None byte e = absurd cc
asked-some false o byte e = absurd cc

module _ (g : Plan) (units : List RigUnit) (old : BusState) (ks : ℕ → Ticket) (j : AreJoined g units old ks) (new : BusState) where
  abbrev count : ℕ
  count = length units

  abbrev ts : ℕ → Target
  ts = targets old

  h : AllKept g count ks ts
  h = all-kept g count ks ts j.reached

  abbrev FollowsBy : (ℕ → Ticket) → Type 0
  FollowsBy ns = Follows false old.connected g count ks ts ns (targets new)

  abbrev GoesAt : ℕ → (ℕ → Ticket) → Target → Type 0
  GoesAt i ns t = Goes g count ks ts j.reached.plan h i ns t

  stays : new ≡ old → FollowsBy ks
  stays e = inl (refl, ap targets e)

  follow : (i : ℕ) (ns : ℕ → Ticket) (t : Target) → targets new ≡ with_at ts i t → GoesAt i ns t → FollowsBy ns
  follow i ns t e (inl q) = inl (q.0, e ∙ ap (with_at ts i) q.1 ∙ same-target ts i)
  follow i ns t e (inr m) = inr (subst (CallMoves g count ks ts ns) (sym e) m)

  follow-by : (i : ℕ) (b : Bool) (ns : ℕ → Ticket) (t : Target) → targets new ≡ with_at ts i t → old.connected ≡ Some i → GoesBy g count ks ts j.reached.plan h i b ns t → Follows b old.connected g count ks ts ns (targets new)
  follow-by i false ns t e f q = follow i ns t e q
  follow-by i true ns t e f m = (i, f, subst (DeviceResetMoves i g count ks ts ns) (sym e) m)

  free-link : old.connected ≡ None → link_on old ≡ BusFree
  free-link e = ap (λ o. (device_of old o).target.link) e

  all-free : old.connected ≡ None → (i : ℕ) → (ts i).link ≡ BusFree
  all-free e i = free-is (ts i).link (j.connected.others i (λ q. not-some i (sym e ∙ q)))

  module _ (i : ℕ) (e : old.connected ≡ Some i) where
    holds : is_free (ts i).link ≡ false
    holds = j.connected.connected i e

    in-range : i < length old.devices
    in-range = within old.devices i holds

    link-old : link_on old ≡ (ts i).link
    link-old = link-is old i (ts i).link e refl

  -- ---- Phase and Leave
  turns : (word : ℕ) (o : Option ℕ) → old.connected ≡ o → targets new ≡ targets (after_turn o word old) → link_on new ≡ link_on (after_turn o word old)
      → ((i : ℕ) → old.connected ≡ Some i → NeedsChoice old.atn (ts i).link) → ((i : ℕ) → old.connected ≡ Some i → HasRoomToChoose old i)
      → FollowsBy (after.after_choice ks (link_phase (link_on old)) (link_on old) (link_on new))
  turns word None e t l needs room = subst (λ z. FollowsBy (after.after_choice ks (link_phase z) z (link_on new))) (sym (free-link e)) (inl (refl, t))
  turns word (Some i) e t l needs room =
      let d = turned old.atn word (device_at old i) in
      subst (λ z. FollowsBy (after.after_choice ks (link_phase z) z (link_on new))) (sym (link-old i e))
      (subst (λ z. FollowsBy (after.after_choice ks (link_phase (ts i).link) (ts i).link z)) (sym (l ∙ link-becomes old i d e (in-range i e)))
      (follow i _ d.target (t ∙ device-becomes old i d (in-range i e)) (turned-goes g count ks old j.reached.plan h i word (holds i e) (needs i e) (room i e))))

  -- ---- ByteIn
  byte-in : (byte : ℕ) (o : Option ℕ) → old.connected ≡ o → Some byte ≡ byte_of old → new ≡ after_byte_in o (Some byte) old → FollowsBy (after.after_sent ks (link_byte (link_on old)) (link_on old))
  byte-in byte None e f m =
      let s = asked-some (is_same_phase old.asked (link_phase (link_on old))) (link_byte (link_on old)) byte f in
      absurd (let z : None ≡ Some s.0 = sym (ap link_byte (free-link e)) ∙ s.1 in cc)
  byte-in byte (Some i) e f m =
      let s = asked-some (is_same_phase old.asked (link_phase (link_on old))) (link_byte (link_on old)) byte f in
      subst (λ z. FollowsBy (after.after_sent ks (link_byte z) z)) (sym (link-old i e))
      (follow i _ (linked (ts i) (link_sent (ts i).link)) (ap targets m ∙ device-changed old i (sent (Some byte) (device_at old i)) (in-range i e))
      (sent-goes g count ks ts j.reached.plan h i (ts i).link s.0 refl (ap link_byte (sym (link-old i e)) ∙ s.1)))

  no-byte-in : (o : Option ℕ) → new ≡ after_byte_in o None old → FollowsBy ks
  no-byte-in None m = stays m
  no-byte-in (Some i) m = stays m

  -- ---- ByteOut
  byte-out : (live : ℕ → Nexus → Option ℕ) (byte : ℕ) (taken : Bool) (o : Option ℕ) → old.connected ≡ o → taken ≡ link_takes (link_on old) → new ≡ after_byte_out live taken o byte old
      → ((i : ℕ) → old.connected ≡ Some i → NeedsByte g i ks (ts i).link (live i) byte) → FollowsBy (after.after_taken ks taken (link_on old) (link_on new))
  byte-out live byte false o e f m needs = stays m
  byte-out live byte true None e f m needs = absurd (let z : true ≡ false = f ∙ ap link_takes (free-link e) in cc)
  byte-out live byte true (Some i) e f m needs =
      let d = device_took live i (device_at old i) byte in
      subst (λ z. FollowsBy (after.after_taken ks true z (link_on new))) (sym (link-old i e))
      (subst (λ z. FollowsBy (after.after_taken ks true (ts i).link z)) (sym (ap link_on m ∙ link-becomes old i d e (in-range i e)))
      (follow i _ d.target (ap targets m ∙ device-becomes old i d (in-range i e)) (took-goes g count ks ts j.reached.plan h j.apart i (live i) byte (sym (f ∙ ap link_takes (link-old i e))) (needs i e))))

  -- ---- Select and Reselect
  named-follows : (word : ℕ) (c : Candidate) → candidate_named units old word ≡ Some c → new ≡ reselected old word c → FollowsBy (after.after_reselection ks (link_on new))
  named-follows word c e m =
      let q = candidate-is units old word c e in
      let n = q.1.number in
      let less = listed units n q.1.unit q.1.at in
      let rig : q.1.unit ≡ g.units n = same_Some q.1.unit (g.units n) (sym q.1.at ∙ j.rig n less) in
      let i = (g.units n).target in
      let tag = word / 256 % 256 in
      let y : Candidate = record { target = i; lun = (g.units n).lun; number = c.number } in
      let same : c ≡ y = candidate-same c y (q.1.target ∙ ap (λ r. r.target) rig) (q.1.lun ∙ ap (λ r. r.lun) rig) refl in
      let made : new ≡ reselected old word y = m ∙ ap (reselected old word) same in
      let u = (h.each i).units n less refl in
      let range : i < length old.devices = unit-stands old.devices i (g.units n).lun u.0 u.1 in
      let d = device_reselected (device_at old i) word y in
      let link : link_on new ≡ d.target.link = ap link_on made ∙ ap (λ (z : DeviceState). z.target.link) (get_or-set_same old.devices i d no_device range) in
      let below : c.number < candidate_count (unit_at (ts i).units (g.units n).lun) = subst (λ (r : RigUnit). c.number < candidate_count (unit_at (ts r.target).units r.lun)) rig q.1.below in
      subst (λ z. FollowsBy (after.after_reselection ks z)) (sym link)
      (follow i _ d.target (ap targets made ∙ device-changed old i d range) (reselected-goes g count ks ts j.reached.plan h n c.number tag less (all-free q.0 i) below))
    where
      candidate-same : (a b : Candidate) → a.target ≡ b.target → a.lun ≡ b.lun → a.number ≡ b.number → a ≡ b
      candidate-same a b t l n =
          ap (λ (z : ℕ). let y : Candidate = record { target = z; lun = a.lun; number = a.number } in y) t
          ∙ ap (λ (z : ℕ). let y : Candidate = record { target = b.target; lun = z; number = a.number } in y) l
          ∙ ap (λ (z : ℕ). let y : Candidate = record { target = b.target; lun = b.lun; number = z } in y) n

  select : (target word : ℕ) (o : Option Candidate) (there : Bool) (settled : Settled) → candidate_named units old word ≡ o → can_select old target ≡ there → settled ≡ settles o there
      → new ≡ after_selection o there target word old → FollowsBy (tickets_after g old (Select target word settled) new ks)
  select target word (Some c) there settled e f s m = subst (λ z. FollowsBy (tickets_after g old (Select target word z) new ks)) (sym s) (named-follows word c e m)
  select target word None true settled e f s m =
      let p = and_parts (is_none old.connected) (answers (ts target)) f in
      let free = none-is old.connected p.0 in
      let range = answer-stands old.devices target p.1 in
      subst (λ z. FollowsBy (tickets_after g old (Select target word z) new ks)) (sym s)
      (follow target ks (target_selected (ts target)) (ap targets m ∙ device-changed old target (device_selected (device_at old target)) range)
      (selected-goes g count ks ts j.reached.plan h target (all-free free target) (has-rogue g count ks ts h target (j.whole target))))
  select target word None false settled e f s m = subst (λ z. FollowsBy (tickets_after g old (Select target word z) new ks)) (sym s) (stays m)

  reselect : (word : ℕ) (o : Option Candidate) (by : Option ℕ) → candidate_named units old word ≡ o → by ≡ option_map target_of o → new ≡ after_reselection o word old
      → FollowsBy (tickets_after g old (Reselect word by) new ks)
  reselect word (Some c) by e s m = subst (λ z. FollowsBy (tickets_after g old (Reselect word z) new ks)) (sym s) (named-follows word c e m)
  reselect word None by e s m = subst (λ z. FollowsBy (tickets_after g old (Reselect word z) new ks)) (sym s) (stays m)

  -- ---- SetAtn and ClearAck
  tells : (o : Option ℕ) → old.connected ≡ o → new ≡ record (messaged (is_message_out (link_phase (link_on old))) o old) { atn = false }
      → ((i : ℕ) → old.connected ≡ Some i → NeedsMessage g i ks (ts i).link) → ((i : ℕ) → old.connected ≡ Some i → is_message_out (link_phase (ts i).link) ≡ true → HasRoom old i (target_messaged (ts i)))
      → Follows (after.link_resets (link_on old)) old.connected g count ks ts (after.after_attention g old o ks) (targets new)
  tells None e m needs room =
      subst (λ z. Follows (after.link_resets z) old.connected g count ks ts ks (targets new)) (sym (free-link e)) (inl (refl, ap targets m ∙ ap (λ z. targets (messaged (is_message_out (link_phase z)) None old)) (free-link e)))
  tells (Some i) e m needs room =
      let made : targets new ≡ targets (messaged (is_message_out (link_phase (ts i).link)) (Some i) old) = ap targets m ∙ ap (λ z. targets (messaged (is_message_out (link_phase z)) (Some i) old)) (link-old i e) in
      subst (λ z. Follows (after.link_resets z) old.connected g count ks ts (after.after_attention g old (Some i) ks) (targets new)) (sym (link-old i e))
      (by (is_message_out (link_phase (ts i).link)) refl made (messaged-goes g count ks ts j.reached.plan h i (ts i).link refl (needs i e)))
    where
      by : (b : Bool) → is_message_out (link_phase (ts i).link) ≡ b → targets new ≡ targets (messaged b (Some i) old) → GoesBy g count ks ts j.reached.plan h i (after.link_resets (ts i).link) (after.after_message ks g i (ts i) b (ts i).link) (messaged_if g count ks ts j.reached.plan h i b)
          → Follows (after.link_resets (ts i).link) old.connected g count ks ts (after.after_message ks g i (ts i) b (ts i).link) (targets new)
      by true s t q =
          follow-by i (after.link_resets (ts i).link) _ (target_messaged (ts i))
          (t ∙ device-becomes old i (device_messaged (device_at old i)) (in-range i e) ∙ ap (λ (y : DeviceState). with_at ts i y.target) (roomy (device_at old i) (target_messaged (ts i)) (room i e s))) e q
      by false s t q = follow-by i (after.link_resets (ts i).link) _ (ts i) (t ∙ sym (same-target ts i)) e q

  acknowledges : (ack : Bool) (o : Option ℕ) → old.connected ≡ o → new ≡ after_ack ack old → ((i : ℕ) → old.connected ≡ Some i → NeedsAck g i ks (ts i).link)
      → ((i : ℕ) → old.connected ≡ Some i → HasRoom old i (target_acked (ts i))) → FollowsBy (after.after_ack ks ack (link_on old))
  acknowledges false o e m needs room = stays m
  acknowledges true None e m needs room = subst (λ z. FollowsBy (after.after_ack ks true z)) (sym (free-link e)) (inl (refl, ap targets m ∙ ap (λ z. targets (acked z old)) e))
  acknowledges true (Some i) e m needs room =
      subst (λ z. FollowsBy (after.after_ack ks true z)) (sym (link-old i e))
      (follow i _ (target_acked (ts i))
      (ap targets m ∙ ap (λ z. targets (acked z old)) e ∙ device-becomes old i (device_acked (device_at old i)) (in-range i e)
      ∙ ap (λ (y : DeviceState). with_at ts i y.target) (roomy (device_at old i) (target_acked (ts i)) (room i e)))
      (acked-goes g count ks ts j.reached.plan h i (ts i).link refl (needs i e)))

  follows : (live : ℕ → Nexus → Option ℕ) (event : Event) → moves units live old event new → Needs g live old event ks → HasRoomFor old event → Follows (after.resets_device old event) old.connected g count ks ts (tickets_after g old event new ks) (targets new)
  follows live (Phase word shown) m needs room = turns word old.connected refl (ap targets m.1) (ap link_on m.1) needs room
  follows live (Shown shown) m needs room = stays m.1
  follows live (ByteIn None) m needs room = no-byte-in old.connected m.1
  follows live (ByteIn (Some byte)) m needs room = byte-in byte old.connected refl m.0 m.1
  follows live (ByteOut byte taken) m needs room = byte-out live byte taken old.connected refl m.0 m.1 needs
  follows live (Select target word settled) m needs room = select target word (candidate_named units old word) (can_select old target) settled refl refl m.0 m.1
  follows live (Reselect word by) m needs room = reselect word (candidate_named units old word) by refl m.0 m.1
  follows live (SetAtn true) m needs room = inl (refl, ap targets m)
  follows live (SetAtn false) m needs room = tells old.connected refl m needs room
  follows live ClearAck m needs room = acknowledges old.ack old.connected refl m needs room
  follows live (Leave word gone) m needs room = turns word old.connected refl (ap targets m.1) (ap link_on m.1) needs room

pub calls-move : CallsMove
calls-move g units live old event new ks c = follows g units old ks c.joined new live event c.call c.needs c.room

-- ---- what holds goes on
free-tag : {g : Plan} {count : ℕ} {ks : ℕ → Ticket} {ts : ℕ → Target} {ns : ℕ → Ticket} {us : ℕ → Target} (m : Moves g count ks ts ns us) → IsCall m → TakesFreeTag m
free-tag (alone x k u there m) c = absurd c
free-tag m c = tt

reset-tag : {g : Plan} {count : ℕ} {ks : ℕ → Ticket} {ts : ℕ → Target} {ns : ℕ → Ticket} {us : ℕ → Target} (i : ℕ) (m : Moves g count ks ts ns us) → IsDeviceReset i m → TakesFreeTag m
reset-tag i (alone x k u there m) c = absurd c
reset-tag i m c = tt

module _ (g : Plan) (units : List RigUnit) (old new : BusState) (ks ns : ℕ → Ticket) (j : AreJoined g units old ks) (one : OneConnected new) where
  moved-joined : (m : Moves g (length units) ks (targets old) ns (targets new)) → TakesFreeTag m → AreJoined g units new ns
  moved-joined m free =
      let r = j.reached in
      record {
        reached = record { plan = r.plan; from = (r.from.0, r.from.1, r.from.2, more r.from.3 m) };
        rig = j.rig;
        apart = apart-kept g (length units) r.plan ks (targets old) (all-kept g (length units) ks (targets old) r) ns (targets new) m free j.apart;
        connected = one;
        whole = λ i lun v e. let u = moves-there g (length units) ks (targets old) ns (targets new) m i lun v e in j.whole i lun u.0 u.1;
      }

  stays-joined : (resets : Bool) → Follows resets old.connected g (length units) ks (targets old) ns (targets new) → AreJoined g units new ns
  stays-joined false (inl q) = record {
    reached = subst (λ z. Reached g (length units) ns z) (sym q.1) (subst (λ z. Reached g (length units) z (targets old)) (sym q.0) j.reached);
    rig = j.rig;
    apart = subst (TagsApart g) (sym q.0) j.apart;
    connected = one;
    whole = λ i lun u e. j.whole i lun u (ap (λ (z : ℕ → Target). unit_at (z i).units lun) (sym q.1) ∙ e);
  }
  stays-joined false (inr m) = moved-joined m.0 (free-tag m.0 m.1)
  stays-joined true m = moved-joined m.2.0 (reset-tag m.0 m.2.0 m.2.1)

pub calls-stay-joined : CallsStayJoined
calls-stay-joined g units live old event new ks c =
    stays-joined g units old new ks (tickets_after g old event new ks) c.joined (stays_connected units live old event new c.joined.connected c.call) (after.resets_device old event) (calls-move g units live old event new ks c)
