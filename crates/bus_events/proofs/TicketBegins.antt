-- A byte to a target: its task takes it, or with the last byte of a descriptor block a command begins.
use Rattle.std.proofs.Common.{◌≡◌, ℕ, ◌≤◌, Bool, true, false, List, [], ◌∷◌, ◌++◌, length, refl, ap, arith, sym, ◌∙◌, subst, Option, Some, None, ◌⊎◌, inl, inr, nat_lt}
use Rattle.std.specs.Prelude.{◌||◌}
use Rattle.std.proofs.lemmas.Bool.Decides.{nat_tests}
use Rattle.cdb_codec.specs.declared.commands.Cdb.{Cdb}
use Rattle.cdb_codec.specs.declared.commands.Cdb.TheVariants.{RequestSense}
use Rattle.cdb_codec.specs.Blocks.{cdb_of}
use Rattle.cdb_codec.specs.Forms.{need_of}
use Rattle.unit_law.specs.Log.{with_at}
use Rattle.unit_law.specs.Request.{command}
use Rattle.target_law.specs.declared.nexus.Nexus.{Nexus}
use Rattle.target_law.specs.declared.task_phase.TaskPhase.TheVariants.{ToChoose}
use Rattle.target_law.specs.RoguePhases.{rogue_took}
use Rattle.target_law.specs.Session.{asks_sense, began}
use Rattle.target_law.specs.Bytes.{Connection, hears}
use Rattle.target_law.specs.Target as connection_state
use Rattle.target_law.specs.Target.{LogicalUnit, ConnectionState, BusFree, TakingCommand, TaskConnected, RogueConnected, Target, unit_at, linked}
use Rattle.target_law.specs.Calls.{link_takes, link_took, is_whole, whole_by, has_tag, has_ended, begun, begun_with, target_begun}
use Rattle.target_law.specs.Beginning.{has_place, where_placed, begins_if, took_where, target_took}
use Rattle.ticket_fate.specs.Tickets.{Plan, unit_of, Life, Selected, Connected, Away, AskStarts, AskConnected, is_live, Ticket}
use Rattle.ticket_fate.specs.Linked.{IsPlan, UnitKept}
use Rattle.ticket_fate.specs.Moves.{IsIdle, target_of, begins, ask_begins}
use Rattle.ticket_fate.specs.Kept.{AllKept}
use Rattle.ticket_fate.proofs.TicketSteps.{fate_at, sense_at}
use Rattle.ticket_fate.proofs.TaskEnds.{asks-none, tag-or, no-tag, cond-false}
use Rattle.ticket_fate.proofs.Targets.{at-lun, unit-of-work}
use Rattle.ticket_link.specs.CallMoves.{CallMoves}
use Rattle.ticket_link.specs.Tags.{TagsApart}
use Rattle.bus_events.specs.Tickets.{begun_life, comes, after_taken}
use Rattle.bus_events.specs.Needs.{IsToBegin, NeedsByte, NeedsCommand}
use Rattle.bus_events.proofs.TicketCalls.{Goes, relinked, link-kept, task-taken}

-- the connection of a command that has begun
abbrev begun_connection : Nexus → Cdb → LogicalUnit → ℕ → Connection
begun_connection n c u x = record { lun = n.lun; reselected = false; heard = []; task = began n.tag x c u.rig.disconnects (has_ended u.log x); shows = ToChoose }

module _ (g : Plan) (count : ℕ) (ks : ℕ → Ticket) (ts : ℕ → Target) (plan : IsPlan g count) (h : AllKept g count ks ts) (apart : TagsApart g ks) (i : ℕ) where
  abbrev Comes : (ℕ → Ticket) → Target → Type 0
  Comes ns t = Goes g count ks ts plan h i ns t

  module _ (x : ℕ) (n : Nexus) (u : LogicalUnit) (here : target_of g x ≡ i) (lun : n.lun ≡ (g.units (unit_of g x)).lun) (tag : n.tag ≡ (ks x).tag) (there : unit_at (ts i).units n.lun ≡ Some u) (idle : IsIdle (ts i).link) where
    kept : UnitKept g (unit_of g x) ks u
    kept = unit-of-work g count plan i ks (ts i) (h.each i).units x n.lun u here lun there

    -- no other ticket of the unit has the tag
    alone-by : (l : Life) → (ks x).life ≡ l → is_live l ≡ true → (l ≡ Away → ⊥) → (y : ℕ) → unit_of g y ≡ unit_of g x → (ks y).life ≡ Away → (ks y).tag ≡ (ks x).tag → ⊥
    alone-by l e live other y unit away t =
        let same = apart y x unit (ap is_live away) (ap is_live e ∙ live) t in
        other (sym e ∙ ap (λ z. (ks z).life) (sym same) ∙ away)

    untagged : ((y : ℕ) → unit_of g y ≡ unit_of g x → (ks y).life ≡ Away → (ks y).tag ≡ (ks x).tag → ⊥) → has_tag u.tasks n.tag ≡ false
    untagged alone = no-tag g (unit_of g x) ks n.tag u.tasks kept.lists.tasks (λ y e a z. alone y e a (sym (fate_at g y (ks y) u.log Away (kept.each y e) a).0.tag ∙ z ∙ tag))

    begun-is : (c : Cdb) → has_tag u.tasks n.tag ≡ false → nat_lt 65536 (need_of c).bytes ≡ false → (begun (ts i) n c u x).link ≡ TaskConnected (begun_connection n c u x)
    begun-is c free fits =
        ap (λ (t : Target). t.link) (cond-false (has_tag u.tasks n.tag || nat_lt 65536 (need_of c).bytes) (linked (ts i) BusFree) (linked (ts i) (TaskConnected (begun_connection n c u x))) (tag-or _ _ free fits))

    abbrev Begins : Cdb → Type 0
    Begins c = ((begun (ts i) n c u x).link ≡ TaskConnected (begun_connection n c u x)) × CallMoves g count ks ts (comes ks (begun_life (began n.tag x c u.rig.disconnects (has_ended u.log x)).senses) (begun_connection n c u x)) (with_at ts i (begun (ts i) n c u x))

    command-begins : (ks x).life ≡ Selected → Begins (command (g.requests x))
    command-begins life =
        let c = command (g.requests x) in
        let alone = alone-by Selected life refl (λ z. cc) in
        let q = fate_at g x (ks x) u.log Selected (kept.each x refl) life in
        let ended : has_ended u.log x ≡ false = ap (λ m. nat_lt 0 m) q.entries.ends in
        let plain : (began n.tag x c u.rig.disconnects (has_ended u.log x)).senses ≡ false = ap (asks_sense c) ended ∙ asks-none c in
        let a = plan.accepted x in
        let fits : nat_lt 65536 (need_of c).bytes ≡ false = fits-by (need_of c).bytes (length (g.requests x).bytes) a.enough a.small in (
          begun-is c (untagged alone) fits,
          subst (λ b. CallMoves g count ks ts (comes ks (begun_life b) (begun_connection n c u x)) (with_at ts i (begun (ts i) n c u x))) (sym plain)
              (at-target (λ z. (begins x n u (subst (λ j. IsIdle (ts j).link) (sym here) idle) (subst (λ j. unit_at (ts j).units n.lun ≡ Some u) (sym here) there) lun tag life alone, tt))),
        )
      where
        fits-by : (a b : ℕ) → a ≤ b → b ≤ 65536 → nat_lt 65536 a ≡ false
        fits-by a b e f = grind (arith, nat_tests)

        at-target : ((z : ℕ) → CallMoves g count ks ts (comes ks Connected (begun_connection n (command (g.requests x)) u x)) (with_at ts (target_of g x) (begun (ts (target_of g x)) n (command (g.requests x)) u x)))
            → CallMoves g count ks ts (comes ks Connected (begun_connection n (command (g.requests x)) u x)) (with_at ts i (begun (ts i) n (command (g.requests x)) u x))
        at-target m = subst (λ j. CallMoves g count ks ts (comes ks Connected (begun_connection n (command (g.requests x)) u x)) (with_at ts j (begun (ts j) n (command (g.requests x)) u x))) here (m 0)

    asking-begins : (ks x).life ≡ AskStarts → Begins (RequestSense 18)
    asking-begins life =
        let c = RequestSense 18 in
        let alone = alone-by AskStarts life refl (λ z. cc) in
        let q = sense_at g x (ks x) u.log AskStarts (kept.each x refl) life in
        let ended : has_ended u.log x ≡ true = ap (λ m. nat_lt 0 m) q.0.checked.0 in
        let asks : (began n.tag x c u.rig.disconnects (has_ended u.log x)).senses ≡ true = ap (asks_sense c) ended in
        let m : CallMoves g count ks ts (comes ks AskConnected (begun_connection n c u x)) (with_at ts (target_of g x) (begun (ts (target_of g x)) n c u x)) =
        (ask_begins x n u (subst (λ j. IsIdle (ts j).link) (sym here) idle) (subst (λ j. unit_at (ts j).units n.lun ≡ Some u) (sym here) there) lun tag life alone, tt) in (
          begun-is c (untagged alone) refl,
          subst (λ b. CallMoves g count ks ts (comes ks (begun_life b) (begun_connection n c u x)) (with_at ts i (begun (ts i) n c u x))) (sym asks)
              (subst (λ j. CallMoves g count ks ts (comes ks AskConnected (begun_connection n c u x)) (with_at ts j (begun (ts j) n c u x))) here m),
        )

    either-begins : (c : Cdb) → ((ks x).life ≡ Selected) × (c ≡ command (g.requests x)) ⊎ ((ks x).life ≡ AskStarts) × (c ≡ RequestSense 18) → Begins c
    either-begins c (inl e) = subst Begins (sym e.1) (command-begins e.0)
    either-begins c (inr e) = subst Begins (sym e.1) (asking-begins e.0)

  -- what the target makes of the last byte
  module _ (n : Nexus) (bytes : List ℕ) (idle : IsIdle (ts i).link) where
    abbrev t : Target
    t = linked (ts i) (TakingCommand n bytes)

    free-goes : Comes (after_taken ks true (TakingCommand n bytes) (linked t BusFree).link) (linked t BusFree)
    free-goes = relinked g count ks ts plan h i (linked (ts i) BusFree) idle (BusFree, tt, tt, refl)

    placed : (b : Bool) (o : Option ℕ) (x : ℕ) → where_placed b o ≡ Some x → (b ≡ true) × (o ≡ Some x)
    placed true o x e = (refl, e)
    placed false o x e = absurd cc

    there : (o : Option LogicalUnit) → has_place o n.tag ≡ true → (u : LogicalUnit) × (o ≡ Some u)
    there (Some u) e = (u, refl)
    there None e = absurd cc

    begun-goes : (x : ℕ) → IsToBegin g i n (cdb_of bytes) x (ks x) → (u : LogicalUnit) → unit_at (ts i).units n.lun ≡ Some u
        → Comes (after_taken ks true (TakingCommand n bytes) (begun t n (cdb_of bytes) u x).link) (begun t n (cdb_of bytes) u x)
    begun-goes x q u e =
        let r = either-begins x n u q.target q.lun q.tag e idle (cdb_of bytes) q.asks in
        subst (λ l. Comes (after_taken ks true (TakingCommand n bytes) l) (begun t n (cdb_of bytes) u x)) (sym r.0) (inr r.1)

    command-goes : (live : Option ℕ) (o : Option ℕ) → where_placed (has_place (unit_at (ts i).units n.lun) n.tag) live ≡ o → NeedsCommand g i ks n bytes live → is_whole bytes ≡ true
        → Comes (after_taken ks true (TakingCommand n bytes) (begun_with t n (cdb_of bytes) o).link) (begun_with t n (cdb_of bytes) o)
    command-goes live None e needs whole = free-goes
    command-goes live (Some x) e needs whole =
        let p = placed (has_place (unit_at (ts i).units n.lun) n.tag) live x e in
        let u = there (unit_at (ts i).units n.lun) p.0 in
        let q = at-lun t n.lun (λ v. begun t n (cdb_of bytes) v x) u.0 u.1 in
        subst (λ z. Comes (after_taken ks true (TakingCommand n bytes) z.link) z) (sym q) (begun-goes x (needs x p.1 whole) u.0 u.1)

    whole-goes : (lv : Nexus → Option ℕ) (b : Bool) → is_whole bytes ≡ b → NeedsCommand g i ks n bytes (lv n) → Comes (after_taken ks true (TakingCommand n bytes) (begins_if lv b t).link) (begins_if lv b t)
    unfolding target_begun
    whole-goes lv false e needs = relinked g count ks ts plan h i t idle (TakingCommand n bytes, tt, tt, refl)
    whole-goes lv true e needs = command-goes (lv n) (where_placed (has_place (unit_at (ts i).units n.lun) n.tag) (lv n)) refl needs e

  -- by the link
  abbrev taken_by : (Nexus → Option ℕ) → ConnectionState → ℕ → Target
  taken_by lv l b = begins_if lv (whole_by (link_took l b)) (linked (ts i) (link_took l b))

  taken-goes : (lv : Nexus → Option ℕ) (l : ConnectionState) (b : ℕ) → (ts i).link ≡ l → link_takes l ≡ true → NeedsByte g i ks l lv b → Comes (after_taken ks true l (taken_by lv l b).link) (taken_by lv l b)
  taken-goes lv BusFree b e f needs = absurd cc
  taken-goes lv (connection_state.Selected heard) b e f needs =
      relinked g count ks ts plan h i (linked (ts i) (connection_state.Selected (hears heard b))) (subst IsIdle (sym e) tt) (connection_state.Selected (hears heard b), tt, tt, refl)
  taken-goes lv (TakingCommand n taken) b e f needs = whole-goes n (taken ++ b ∷ []) (subst IsIdle (sym e) tt) lv (is_whole (taken ++ b ∷ [])) refl needs
  taken-goes lv (TaskConnected c) b e f needs = task-taken g count ks ts plan h i c e b f needs
  taken-goes lv (RogueConnected s n) b e f needs =
      relinked g count ks ts plan h i (linked (ts i) (RogueConnected (rogue_took s b) n)) (subst IsIdle (sym e) tt) (RogueConnected (rogue_took s b) n, tt, link-kept g count ks ts plan h i (RogueConnected s n) e, refl)

  took-is : (lv : Nexus → Option ℕ) (b : ℕ) → link_takes (ts i).link ≡ true → target_took lv (ts i) b ≡ taken_by lv (ts i).link b
  unfolding target_took
  took-is lv b f = ap (λ z. took_where lv z (ts i) b) f

  pub took-goes : (lv : Nexus → Option ℕ) (b : ℕ) → link_takes (ts i).link ≡ true → NeedsByte g i ks (ts i).link lv b
      → Comes (after_taken ks true (ts i).link (target_took lv (ts i) b).link) (target_took lv (ts i) b)
  took-goes lv b f needs = subst (λ z. Comes (after_taken ks true (ts i).link z.link) z) (sym (took-is lv b f)) (taken-goes lv (ts i).link b refl f needs)
