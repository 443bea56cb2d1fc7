-- A bus reset resets each target in turn.
use Rattle.std.proofs.Common.{◌≡◌, ◌≢◌, ℕ, zero, suc, ◌+◌, ◌-◌, ◌≤◌, ◌<◌, Bool, true, false, List, [], ◌∷◌, length, map, slice_index_or, refl, ap, arith, sym, ◌∙◌, subst, Some, ◌⊎◌, inl, inr, nat_lt, nat_eq}
use Rattle.std.specs.Prelude.{◌==◌, ◌&&◌, ◌||◌, not}
use Rattle.std.proofs.lemmas.Bool.{and_parts}
use Rattle.std.proofs.lemmas.Bool.Decides.{nat_tests}
use Rattle.rig_types.specs.declared.rig.Unit.{Unit as RigUnit}
use Rattle.unit_law.specs.Log.{Tally, with_at, tally}
use Rattle.unit_law.specs.Report.{TicketHistory}
use Rattle.unit_law.proofs.Views.{with_at-same, with_at-other, same_or_not, eq-test, ne-test}
use Rattle.target_law.specs.Bytes.{Connection, away}
use Rattle.target_law.specs.Target as connection_state
use Rattle.target_law.specs.Target.{LogicalUnit, ConnectionState, BusFree, TakingCommand, TaskConnected, RogueConnected, Target, unit_at, target_reset}
use Rattle.target_law.specs.Devices.{DeviceState}
use Rattle.bus_law.specs.Bus.{BusState, no_device, device_reset, bus_reset}
use Rattle.bus_law.specs.Laws.{HasResetRoom}
use Rattle.bus_law.proofs.OneConnected.{resets_connected}
use Rattle.ticket_fate.specs.Tickets.{Plan, unit_of, Away, is_live, Ticket}
use Rattle.ticket_fate.specs.Linked.{WorkKept, LinkKept, ResetCause, ByBus, reset_ticket, log_of, reset_tickets}
use Rattle.ticket_fate.specs.Moves.{IsIdle, parts_ticket, target_of, Moves, alone, resets_idle, resets_work, resets_asking}
use Rattle.logs_have_room.specs.Room.{entries}
use Rattle.ticket_fate.specs.Histories.{progress_of, is_under_way, marks_in, is_bus, is_device, resets_by, Run, none, more, count_if, noted_by, tally_in, noted}
use Rattle.ticket_fate.specs.Kept.{AllKept}
use Rattle.ticket_fate.proofs.Reached.{kept-by, all-kept}
use Rattle.ticket_link.specs.Tags.{TagsApart, IsBuild, TakesFreeTag}
use Rattle.ticket_link.proofs.Tags.{apart-kept}
use Rattle.ticket_room.specs.Rooms.{lives_at, AreBelow, clears_in, HasLog}
use Rattle.ticket_room.proofs.Growths.{fewer-live}
use Rattle.bus_events.specs.Targets.{targets, HasRoom}
use Rattle.bus_events.specs.TicketLaws.{AreJoined}
use Rattle.bus_events.specs.Rooms.{AreReserved}
use Rattle.bus_events.specs.BusResets.{parted_by, parted_tickets, after_bus_reset, history_on, noted_reset, BusResetsMove}
use Rattle.bus_events.proofs.Devices.{roomy}
use Rattle.bus_events.proofs.TicketCalls.{own-unit}
use Rattle.bus_events.proofs.Slots.{reset-there}
use Rattle.bus_events.proofs.KeptRooms.{where-rooms}
use Rattle.bus_events.proofs.CallsMove.{unit-stands}
use Rattle.bus_events.proofs.CallRooms.{moved-within, left}

funext : {A B : Type 0} (f h : A → B) → ((x : A) → f x ≡ h x) → f ≡ h
funext f h p = λ i. λ x. p x i

less : (a c : ℕ) → a < suc c → a ≢ c → a < c
less a c l d = by (nat_lt a c) refl
  where
    by : (b : Bool) → nat_lt a c ≡ b → a < c
    by true e = grind (arith, nat_tests)
    by false e = absurd (d (grind (arith, nat_tests)))

below-or : (x n : ℕ) → (x < n) ⊎ (n ≤ x)
below-or x n = by (nat_lt x n) refl
  where
    by : (b : Bool) → nat_lt x n ≡ b → (x < n) ⊎ (n ≤ x)
    by true e = inl (grind (arith, nat_tests))
    by false e = inr (grind (arith, nat_tests))

same-number : (a c : ℕ) → nat_eq a c ≡ true → a ≡ c
same-number a c e = grind (arith, nat_tests)

out-of-range : (ds : List DeviceState) (i : ℕ) → length ds ≤ i → slice_index_or ds i no_device ≡ no_device
out-of-range [] i l = refl
out-of-range (d ∷ ds) zero l = absurd (omega (arith, l))
out-of-range (d ∷ ds) (suc i) l = out-of-range ds i (omega (arith, l))

-- the devices after a bus reset
nobody-reset : no_device.target ≡ target_reset no_device.target
unfolding target_reset
nobody-reset = refl

reset-target : (ds : List DeviceState) (i : ℕ) → ((k : ℕ) → HasResetRoom (slice_index_or ds k no_device)) → (slice_index_or (map device_reset ds) i no_device).target ≡ target_reset (slice_index_or ds i no_device).target
reset-target [] i room = nobody-reset
reset-target (d ∷ ds) zero room = ap (λ (y : DeviceState). y.target) (roomy d (target_reset d.target) (room 0))
reset-target (d ∷ ds) (suc i) room = reset-target ds i (λ k. room (suc k))

pub reset-rooms : (ds : List DeviceState) (i : ℕ) → (slice_index_or (map device_reset ds) i no_device).rooms ≡ (slice_index_or ds i no_device).rooms
reset-rooms [] i = refl
reset-rooms (d ∷ ds) zero = where-rooms d (target_reset d.target)
reset-rooms (d ∷ ds) (suc i) = reset-rooms ds i

-- a reset of target i, with the whole bus
abbrev IsReset : {g : Plan} {count : ℕ} {ks : ℕ → Ticket} {ts : ℕ → Target} {ns : ℕ → Ticket} {us : ℕ → Target} → ℕ → Moves g count ks ts ns us → Type 0
IsReset i (resets_idle j b idle can) = (j ≡ i) × (b ≡ ByBus)
IsReset i (resets_work j b c u w plain there can) = (j ≡ i) × (b ≡ ByBus)
IsReset i (resets_asking j c u w asks there) = (j ≡ i) × (ByBus ≡ ByBus)
IsReset i m = ⊥

reset-free-tag : {g : Plan} {count : ℕ} {ks : ℕ → Ticket} {ts : ℕ → Target} {ns : ℕ → Ticket} {us : ℕ → Target} (i : ℕ) (m : Moves g count ks ts ns us) → IsReset i m → TakesFreeTag m
reset-free-tag i (alone x k u there m) r = absurd r
reset-free-tag i m r = tt

reset-builds : {g : Plan} {count : ℕ} {ks : ℕ → Ticket} {ts : ℕ → Target} {ns : ℕ → Ticket} {us : ℕ → Target} (i : ℕ) (m : Moves g count ks ts ns us) → IsReset i m → IsBuild m → ⊥
reset-builds i (alone x k u there m) r e = r
reset-builds i m r e = e

reset-clears : {g : Plan} {count : ℕ} {ks : ℕ → Ticket} {ts : ℕ → Target} {ns : ℕ → Ticket} {us : ℕ → Target} (n i : ℕ) (m : Moves g count ks ts ns us) → IsReset i m → (g.units n).target ≡ i → clears_in n m ≡ 1
reset-clears {g = g} n i (resets_idle k b idle can) r q = ap (λ z. count_if (z && true) 1) (ap (λ t. t == k) (q ∙ sym r.0) ∙ eq-test k)
reset-clears {g = g} n i (resets_work k b c u w plain there can) r q = ap (λ z. count_if (z && true) 1) (ap (λ t. t == k) (q ∙ sym r.0) ∙ eq-test k)
reset-clears {g = g} n i (resets_asking k c u w asks there) r q = ap (λ z. count_if (z && true) 1) (ap (λ t. t == k) (q ∙ sym r.0) ∙ eq-test k)
reset-clears n i m r q = absurd r

reset-unmarked : {g : Plan} {count : ℕ} {ks : ℕ → Ticket} {ts : ℕ → Target} {ns : ℕ → Ticket} {us : ℕ → Target} (i x : ℕ) (m : Moves g count ks ts ns us) → IsReset i m → marks_in x m ≡ false
reset-unmarked i x (resets_idle j b idle can) r = refl
reset-unmarked i x (resets_work j b c u w plain there can) r = refl
reset-unmarked i x (resets_asking j c u w asks there) r = refl
reset-unmarked i x m r = absurd r

-- whether it resets a target, by its cause
by-cause : (by : ResetCause → Bool) (t j i : ℕ) (b : ResetCause) → j ≡ i → b ≡ ByBus → (t == j && by b) ≡ (t == i && by ByBus)
by-cause by t j i b e f = ap (λ z. t == z && by b) e ∙ ap (λ z. t == i && by z) f

reset-by : {g : Plan} {count : ℕ} {ks : ℕ → Ticket} {ts : ℕ → Target} {ns : ℕ → Ticket} {us : ℕ → Target} (by : ResetCause → Bool) (t i : ℕ) (m : Moves g count ks ts ns us) → IsReset i m → resets_by by t m ≡ (t == i && by ByBus)
reset-by by t i (resets_idle j b idle can) r = by-cause by t j i b r.0 r.1
reset-by by t i (resets_work j b c u w plain there can) r = by-cause by t j i b r.0 r.1
reset-by by t i (resets_asking j c u w asks there) r = by-cause by t j i ByBus r.0 r.1
reset-by by t i m r = absurd r

-- of a ticket of another target it says nothing
or-none : (a : Bool) → (a || false) ≡ a
or-none true = refl
or-none false = refl

count-none : (b : Bool) (n : ℕ) → count_if b (n - n) ≡ 0
count-none true n = omega arith
count-none false n = refl

same-history : (a b : TicketHistory) → a.marked ≡ b.marked → a.clears ≡ b.clears → a.bus_reset ≡ b.bus_reset → a.outside ≡ b.outside → a.uncaused_clears ≡ b.uncaused_clears → a ≡ b
same-history a b m c f o u =
    ap (λ (z : Bool). let h : TicketHistory = record { marked = z; clears = a.clears; bus_reset = a.bus_reset; outside = a.outside; uncaused_clears = a.uncaused_clears } in h) m
    ∙ ap (λ (z : ℕ). let h : TicketHistory = record { marked = b.marked; clears = z; bus_reset = a.bus_reset; outside = a.outside; uncaused_clears = a.uncaused_clears } in h) c
    ∙ ap (λ (z : Bool). let h : TicketHistory = record { marked = b.marked; clears = b.clears; bus_reset = z; outside = a.outside; uncaused_clears = a.uncaused_clears } in h) f
    ∙ ap (λ (z : ℕ). let h : TicketHistory = record { marked = b.marked; clears = b.clears; bus_reset = b.bus_reset; outside = z; uncaused_clears = a.uncaused_clears } in h) o
    ∙ ap (λ (z : ℕ). let h : TicketHistory = record { marked = b.marked; clears = b.clears; bus_reset = b.bus_reset; outside = b.outside; uncaused_clears = z } in h) u

pub nothing-noted : (k : Ticket) (t : Tally) (device : Bool) (h : TicketHistory) → noted_by k t t false false device h ≡ h
nothing-noted k t device h =
    same-history (noted_by k t t false false device h) h (or-none h.marked) (omega (arith, count-none (is_under_way (progress_of k.life)) t.clears)) (or-none h.bus_reset)
    (omega (arith, count-none (not (is_live k.life)) (entries t))) (omega (arith, count-none (not (false || device)) t.clears))

append : {g : Plan} {count : ℕ} {ks : ℕ → Ticket} {ts : ℕ → Target} {ms : ℕ → Ticket} {vs : ℕ → Target} {ns : ℕ → Ticket} {us : ℕ → Target} → Run g count ks ts ms vs → Run g count ms vs ns us → Run g count ks ts ns us
append r none = r
append r (more s m) = more (append r s) m

module _ (g : Plan) (units : List RigUnit) (b : BusState) (ks : ℕ → Ticket) (j : AreJoined g units b ks) where
  abbrev count : ℕ
  count = length units

  abbrev ts : ℕ → Target
  ts = targets b

  h : AllKept g count ks ts
  h = all-kept g count ks ts j.reached

  its-target : (i : ℕ) (c : Connection) → (ts i).link ≡ TaskConnected c → target_of g c.task.ticket ≡ i
  its-target i c e = by c.task.senses (subst (λ l. LinkKept l g i ks (ts i)) e (h.each i).link)
    where
      by : (s : Bool) → WorkKept s g i ks (ts i) c → target_of g c.task.ticket ≡ i
      by false w = w.target
      by true w = w.target

  -- ---- a target that is as it was is reset
  module _ (i : ℕ) (ms : ℕ → Ticket) (vs : ℕ → Target) (same : vs i ≡ ts i) where
    abbrev Resets : Target → ConnectionState → Type 0
    Resets t l = (m : Moves g count ms vs (reset_tickets g i ByBus t (parted_tickets l ms)) (with_at vs i (target_reset t))) × IsReset i m

    task-resets : (c : Connection) → (vs i).link ≡ TaskConnected c → (s : Bool) → c.task.senses ≡ s
        → (m : Moves g count ms vs (reset_tickets g i ByBus (vs i) (parted_by s ms c)) (with_at vs i (target_reset (vs i)))) × IsReset i m
    task-resets c e s f =
        let u = own-unit g count ks ts j.reached.plan h i c (ap (λ (t : Target). t.link) (sym same) ∙ e) in
        by s f u.0 (ap (λ (t : Target). unit_at t.units c.lun) same ∙ u.1)
      where
        by : (s : Bool) → c.task.senses ≡ s → (u : LogicalUnit) → unit_at (vs i).units c.lun ≡ Some u
            → (m : Moves g count ms vs (reset_tickets g i ByBus (vs i) (parted_by s ms c)) (with_at vs i (target_reset (vs i)))) × IsReset i m
        by false f u there = (resets_work i ByBus c u e f there (λ x q. tt), (refl, refl))
        by true f u there = (resets_asking i c u e f there, (refl, refl))

    link-resets : (l : ConnectionState) → (vs i).link ≡ l → Resets (vs i) l
    link-resets BusFree e = (resets_idle i ByBus (subst IsIdle (sym e) tt) (λ x q. tt), (refl, refl))
    link-resets (connection_state.Selected heard) e = (resets_idle i ByBus (subst IsIdle (sym e) tt) (λ x q. tt), (refl, refl))
    link-resets (TakingCommand n taken) e = (resets_idle i ByBus (subst IsIdle (sym e) tt) (λ x q. tt), (refl, refl))
    link-resets (TaskConnected c) e = task-resets c e c.task.senses refl
    link-resets (RogueConnected s n) e = (resets_idle i ByBus (subst IsIdle (sym e) tt) (λ x q. tt), (refl, refl))

    resets-at : Resets (ts i) (ts i).link
    resets-at = subst (λ (t : Target). Resets t t.link) same (link-resets (vs i).link refl)

  -- ---- one target after another
  abbrev reset_one : ℕ → (ℕ → Ticket) → ℕ → Ticket
  reset_one i ms = reset_tickets g i ByBus (ts i) (parted_tickets (ts i).link ms)

  abbrev tickets_to : ℕ → ℕ → Ticket
  tickets_to zero = ks
  tickets_to (suc n) = reset_one n (tickets_to n)

  abbrev targets_to : ℕ → ℕ → Target
  targets_to zero = ts
  targets_to (suc n) = with_at (targets_to n) n (target_reset (ts n))

  not-yet : (n i : ℕ) → n ≤ i → targets_to n i ≡ ts i
  not-yet zero i l = refl
  not-yet (suc n) i l = with_at-other (targets_to n) n (target_reset (ts n)) i (λ e. absurd (omega (arith, l, e))) ∙ not-yet n i (omega (arith, l))

  already : (n i : ℕ) → i < n → targets_to n i ≡ target_reset (ts i)
  already zero i l = absurd (omega (arith, l))
  already (suc n) i l = by (same_or_not i n) (λ k. already n i k)
    where
      by : (i ≡ n) ⊎ (i ≢ n) → (i < n → targets_to n i ≡ target_reset (ts i)) → targets_to (suc n) i ≡ target_reset (ts i)
      by (inl e) rest = ap (with_at (targets_to n) n (target_reset (ts n))) e ∙ with_at-same (targets_to n) n (target_reset (ts n)) ∙ ap (λ k. target_reset (ts k)) (sym e)
      by (inr d) rest = with_at-other (targets_to n) n (target_reset (ts n)) i d ∙ rest (less i n l d)

  abbrev Reset : ℕ → Type 0
  Reset n = (m : Moves g count (tickets_to n) (targets_to n) (tickets_to (suc n)) (targets_to (suc n))) × IsReset n m

  reset-of : (n : ℕ) → Reset n
  reset-of n = resets-at n (tickets_to n) (targets_to n) (not-yet n n (omega arith))

  run-to : (n : ℕ) → Run g count ks ts (tickets_to n) (targets_to n) × TagsApart g (tickets_to n)
  run-to zero = (none, j.apart)
  run-to (suc n) =
      let r = run-to n in
      let m = reset-of n in (
        more r.0 m.0,
        apart-kept g count j.reached.plan (tickets_to n) (targets_to n) (kept-by g count j.reached.plan ks ts h (tickets_to n) (targets_to n) r.0) (tickets_to (suc n)) (targets_to (suc n)) m.0 (reset-free-tag n m.0 m.1) r.1,
      )

  -- ---- the tickets
  -- those of another target stay
  parted-stays : (n : ℕ) (ms : ℕ → Ticket) (x : ℕ) → target_of g x ≢ n → (l : ConnectionState) → (ts n).link ≡ l → parted_tickets l ms x ≡ ms x
  parted-stays n ms x d BusFree e = refl
  parted-stays n ms x d (connection_state.Selected heard) e = refl
  parted-stays n ms x d (TakingCommand k taken) e = refl
  parted-stays n ms x d (RogueConnected s k) e = refl
  parted-stays n ms x d (TaskConnected c) e = by c.task.senses
    where
      by : (s : Bool) → parted_by s ms c x ≡ ms x
      by false = with_at-other ms c.task.ticket (parts_ticket ms c) x (λ q. d (ap (target_of g) q ∙ its-target n c e))
      by true = refl

  other-stays : (n : ℕ) (ms : ℕ → Ticket) (x : ℕ) → target_of g x ≢ n → reset_one n ms x ≡ ms x
  other-stays n ms x d =
      ap (λ z. reset_ticket z ByBus (tally x (log_of g (ts n) x)).ends (parted_tickets (ts n).link ms x)) (ne-test (target_of g x) n d) ∙ parted-stays n ms x d (ts n).link refl

  -- those of the target go by what the tickets of the target were
  parted-same : (n : ℕ) (ms os : ℕ → Ticket) → ((y : ℕ) → target_of g y ≡ n → ms y ≡ os y) → (x : ℕ) → target_of g x ≡ n → (l : ConnectionState) → (ts n).link ≡ l → parted_tickets l ms x ≡ parted_tickets l os x
  parted-same n ms os f x q BusFree e = f x q
  parted-same n ms os f x q (connection_state.Selected heard) e = f x q
  parted-same n ms os f x q (TakingCommand k taken) e = f x q
  parted-same n ms os f x q (RogueConnected s k) e = f x q
  parted-same n ms os f x q (TaskConnected c) e = by c.task.senses
    where
      at : (x ≡ c.task.ticket) ⊎ (x ≢ c.task.ticket) → with_at ms c.task.ticket (parts_ticket ms c) x ≡ with_at os c.task.ticket (parts_ticket os c) x
      at (inl p) =
          ap (with_at ms c.task.ticket (parts_ticket ms c)) p ∙ with_at-same ms c.task.ticket (parts_ticket ms c)
          ∙ ap (λ (k : Ticket). record k { life = Away; task = away c.task; savep = c.task.saved }) (f c.task.ticket (its-target n c e))
          ∙ sym (ap (with_at os c.task.ticket (parts_ticket os c)) p ∙ with_at-same os c.task.ticket (parts_ticket os c))
      at (inr d) = with_at-other ms c.task.ticket (parts_ticket ms c) x d ∙ f x q ∙ sym (with_at-other os c.task.ticket (parts_ticket os c) x d)

      by : (s : Bool) → parted_by s ms c x ≡ parted_by s os c x
      by false = at (same_or_not x c.task.ticket)
      by true = f x q

  own-resets : (n : ℕ) (ms os : ℕ → Ticket) → ((y : ℕ) → target_of g y ≡ n → ms y ≡ os y) → (x : ℕ) → target_of g x ≡ n → reset_one n ms x ≡ reset_one n os x
  own-resets n ms os f x q = ap (reset_ticket (target_of g x == n) ByBus (tally x (log_of g (ts n) x)).ends) (parted-same n ms os f x q (ts n).link refl)

  ticket-not-yet : (n x : ℕ) → n ≤ target_of g x → tickets_to n x ≡ ks x
  ticket-not-yet zero x l = refl
  ticket-not-yet (suc n) x l = other-stays n (tickets_to n) x (λ e. absurd (omega (arith, l, e))) ∙ ticket-not-yet n x (omega (arith, l))

  ticket-already : (n x : ℕ) → target_of g x < n → tickets_to n x ≡ after_bus_reset g b ks x
  ticket-already zero x l = absurd (omega (arith, l))
  ticket-already (suc n) x l = by (same_or_not (target_of g x) n) (λ k. ticket-already n x k)
    where
      by : (target_of g x ≡ n) ⊎ (target_of g x ≢ n) → (target_of g x < n → tickets_to n x ≡ after_bus_reset g b ks x) → tickets_to (suc n) x ≡ after_bus_reset g b ks x
      by (inl e) rest =
          own-resets n (tickets_to n) ks (λ y q. ticket-not-yet n y (omega (arith, q))) x e
          ∙ ap (λ i. reset_one i ks x) (sym e)
      by (inr d) rest = other-stays n (tickets_to n) x d ∙ rest (less (target_of g x) n l d)

  -- each ticket's target is on the bus
  on-bus : (x : ℕ) → target_of g x < length b.devices
  on-bus x = let u = (h.each (target_of g x)).units (unit_of g x) (j.reached.plan.known x) refl in unit-stands b.devices (target_of g x) (g.units (unit_of g x)).lun u.0 u.1

  tickets-are : tickets_to (length b.devices) ≡ after_bus_reset g b ks
  tickets-are = funext (tickets_to (length b.devices)) (after_bus_reset g b ks) (λ x. ticket-already (length b.devices) x (on-bus x))

  -- ---- the targets
  module _ (built : ℕ) (below : AreBelow built ks) (spare : ℕ → ℕ) (s : AreReserved g units built b ks (λ n. spare n + 1)) where
    abbrev one_clear : ℕ → ℕ
    one_clear n = 1

    reset-room : (i : ℕ) → HasRoom b i (target_reset (ts i))
    reset-room i =
        let m = resets-at i ks ts refl in
        moved-within g units b ks j built below i (target_reset (ts i)) (reset_one i ks) m.0 (reset-builds i m.0 m.1) one_clear (λ n q. reset-clears n i m.0 m.1 q)
        (λ n less u there. let l = s n less u there in omega (arith, l))

    all-reset : (i : ℕ) → targets (bus_reset b) i ≡ target_reset (ts i)
    all-reset i = reset-target b.devices i reset-room

    in-turn : (i : ℕ) → (i < length b.devices) ⊎ (length b.devices ≤ i) → targets_to (length b.devices) i ≡ target_reset (ts i)
    in-turn i (inl l) = already (length b.devices) i l
    in-turn i (inr l) =
        let nobody : ts i ≡ no_device.target = ap (λ (d : DeviceState). d.target) (out-of-range b.devices i l) in
        not-yet (length b.devices) i l ∙ nobody ∙ nobody-reset ∙ ap target_reset (sym nobody)

    targets-are : targets_to (length b.devices) ≡ targets (bus_reset b)
    targets-are = funext (targets_to (length b.devices)) (targets (bus_reset b)) (λ i. in-turn i (below-or i (length b.devices)) ∙ sym (all-reset i))

    -- ---- what the moves say of a ticket: that of its target all, the others nothing
    one-noted : (n x : ℕ) (f : TicketHistory) → target_of g x ≡ n → noted x (reset-of n).0 f ≡ noted_reset g b ks x f
    one-noted n x f e =
        let m = reset-of n in
        let old = tally_in g (targets_to n) x in
        let new = tally_in g (targets_to (suc n)) x in
        let is : target_of g x == n ≡ true = ap (λ (t : ℕ). t == n) e ∙ eq-test n in
        let before : old ≡ tally_in g ts x = ap (λ (t : Target). tally x (log_of g t x)) (not-yet n (target_of g x) (omega (arith, e))) in
        let reset : targets_to (suc n) (target_of g x) ≡ targets (bus_reset b) (target_of g x) =
        ap (targets_to (suc n)) e ∙ with_at-same (targets_to n) n (target_reset (ts n)) ∙ sym (ap (targets (bus_reset b)) e ∙ all-reset n) in
        let after : new ≡ tally_in g (targets (bus_reset b)) x = ap (λ (t : Target). tally x (log_of g t x)) reset in
        ap (λ (z : Bool). noted_by (tickets_to n x) old new z (resets_by is_bus (target_of g x) m.0) (resets_by is_device (target_of g x) m.0) f) (reset-unmarked n x m.0 m.1)
        ∙ ap (λ (z : Bool). noted_by (tickets_to n x) old new false z (resets_by is_device (target_of g x) m.0) f) (reset-by is_bus (target_of g x) n m.0 m.1 ∙ ap (λ (z : Bool). z && true) is)
        ∙ ap (λ (z : Bool). noted_by (tickets_to n x) old new false true z f) (reset-by is_device (target_of g x) n m.0 m.1 ∙ ap (λ (z : Bool). z && false) is)
        ∙ ap (λ (z : Tally). noted_by (tickets_to n x) z new false true false f) before
        ∙ ap (λ (z : Tally). noted_by (tickets_to n x) (tally_in g ts x) z false true false f) after
        ∙ ap (λ (z : Ticket). noted_by z (tally_in g ts x) (tally_in g (targets (bus_reset b)) x) false true false f) (ticket-not-yet n x (omega (arith, e)))

    other-noted : (n x : ℕ) (f : TicketHistory) → target_of g x ≢ n → noted x (reset-of n).0 f ≡ f
    other-noted n x f d =
        let m = reset-of n in
        let old = tally_in g (targets_to n) x in
        let new = tally_in g (targets_to (suc n)) x in
        let isnt : target_of g x == n ≡ false = ne-test (target_of g x) n d in
        let stays : new ≡ old = ap (λ (t : Target). tally x (log_of g t x)) (with_at-other (targets_to n) n (target_reset (ts n)) (target_of g x) d) in
        ap (λ (z : Bool). noted_by (tickets_to n x) old new z (resets_by is_bus (target_of g x) m.0) (resets_by is_device (target_of g x) m.0) f) (reset-unmarked n x m.0 m.1)
        ∙ ap (λ (z : Bool). noted_by (tickets_to n x) old new false z (resets_by is_device (target_of g x) m.0) f) (reset-by is_bus (target_of g x) n m.0 m.1 ∙ ap (λ (z : Bool). z && true) isnt)
        ∙ ap (λ (z : Tally). noted_by (tickets_to n x) old z false false (resets_by is_device (target_of g x) m.0) f) stays
        ∙ nothing-noted (tickets_to n x) old (resets_by is_device (target_of g x) m.0) f

    unnoted : (n x : ℕ) (f : TicketHistory) → n ≤ target_of g x → history_on x (run-to n).0 f ≡ f
    unfolding run-to
    unnoted zero x f l = refl
    unnoted (suc n) x f l = other-noted n x (history_on x (run-to n).0 f) (λ e. absurd (omega (arith, l, e))) ∙ unnoted n x f (omega (arith, l))

    noted-once : (n x : ℕ) (f : TicketHistory) → target_of g x < n → history_on x (run-to n).0 f ≡ noted_reset g b ks x f
    unfolding run-to
    noted-once zero x f l = absurd (omega (arith, l))
    noted-once (suc n) x f l = by (same_or_not (target_of g x) n) (λ k. noted-once n x f k)
      where
        by : (target_of g x ≡ n) ⊎ (target_of g x ≢ n) → (target_of g x < n → history_on x (run-to n).0 f ≡ noted_reset g b ks x f) → history_on x (run-to (suc n)).0 f ≡ noted_reset g b ks x f
        by (inl e) rest = one-noted n x (history_on x (run-to n).0 f) e ∙ ap (noted_reset g b ks x) (unnoted n x f (omega (arith, e)))
        by (inr d) rest = other-noted n x (history_on x (run-to n).0 f) d ∙ rest (less (target_of g x) n l d)

    abbrev NotedRun : (ℕ → Ticket) → (ℕ → Target) → Type 0
    NotedRun ns us = (r : Run g count ks ts ns us) × ((x : ℕ) (f : TicketHistory) → history_on x r f ≡ noted_reset g b ks x f)

    noted-run : NotedRun (after_bus_reset g b ks) (targets (bus_reset b))
    noted-run =
        subst (λ z. NotedRun z (targets (bus_reset b))) tickets-are
        (subst (NotedRun (tickets_to (length b.devices))) targets-are ((run-to (length b.devices)).0, λ x f. noted-once (length b.devices) x f (on-bus x)))

    run : Run g count ks ts (after_bus_reset g b ks) (targets (bus_reset b))
    run = noted-run.0

    joined : AreJoined g units (bus_reset b) (after_bus_reset g b ks)
    joined =
        let r = j.reached in
        record {
          reached = record { plan = r.plan; from = (r.from.0, r.from.1, r.from.2, append r.from.3 run) };
          rig = j.rig;
          apart = subst (TagsApart g) tickets-are (run-to (length b.devices)).1;
          connected = resets_connected b reset-room;
          whole = λ i lun v e. let u = reset-there (ts i) lun v (ap (λ (t : Target). unit_at t.units lun) (sym (all-reset i)) ∙ e) in j.whole i lun u.0 u.1;
        }

    -- ---- the room
    lives-one : (n x : ℕ) → lives_at g n (after_bus_reset g b ks) x ≡ true → lives_at g n (reset_one (g.units n).target ks) x ≡ true
    lives-one n x e =
        let p = and_parts (is_live (after_bus_reset g b ks x).life) (unit_of g x == n) e in
        subst (λ i. lives_at g n (reset_one i ks) x ≡ true) (ap (λ k. (g.units k).target) (same-number (unit_of g x) n p.1)) e

    reserved : AreReserved g units built (bus_reset b) (after_bus_reset g b ks) spare
    reserved n less v there =
        let i = (g.units n).target in
        let m = resets-at i ks ts refl in
        let own : HasLog g n (with_at ts i (target_reset (ts i))) v =
        ap (λ (t : Target). unit_at t.units (g.units n).lun) (with_at-same ts i (target_reset (ts i)) ∙ sym (all-reset i)) ∙ there in
        let l = left g units b ks j built below (reset_one i ks) (with_at ts i (target_reset (ts i))) m.0 (reset-builds i m.0 m.1) n less v own (spare n) 1 (reset-clears n i m.0 m.1 refl) (s n less) in
        let f = fewer-live (g.units n).refusals built (lives_at g n (reset_one i ks)) (lives_at g n (after_bus_reset g b ks)) v.log (λ x k e. lives-one n x e) in
        let room = ap (λ rs. slice_index_or rs (g.units n).lun 0) (reset-rooms b.devices i) in
        omega (arith, l, f, room)

pub bus-resets-move : BusResetsMove
unfolding run
bus-resets-move g units b ks built spare j below s = record {
  run = run g units b ks j built below spare s;
  notes = (noted-run g units b ks j built below spare s).1;
  joined = joined g units b ks j built below spare s;
  reserved = reserved g units b ks j built below spare s;
}
