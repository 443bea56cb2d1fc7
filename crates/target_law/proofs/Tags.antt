-- No call of a target gives a unit two tasks of one tag.
use Rattle.std.proofs.Common.{◌≡◌, ◌≢◌, ℕ, zero, suc, ◌+◌, Bool, true, false, ◌||◌, List, [], ◌∷◌, map, fold, replicate, refl, ap, sym, subst, ◌∙◌, Option, Some, None, ◌⊎◌, inl, inr, nat_eq, if◌then◌else◌, slice_get, remove}
use Rattle.scsi_words.specs.declared.phases.kinds.Direction.{Direction}
use Rattle.scsi_words.specs.declared.phases.kinds.Direction.TheVariants.{In, Out, None as NoData}
use Rattle.cdb_codec.specs.declared.commands.Cdb.{Cdb}
use Rattle.cdb_codec.specs.Forms.{need_of}
use Rattle.cdb_codec.specs.Blocks.{cdb_of}
use Rattle.rig_types.specs.declared.rig.Unit.{Unit as RigUnit}
use Rattle.plain_lun.specs.Performing.{Answered, Performed, perform}
use Rattle.std.proofs.Common.{arith}
use Rattle.std.proofs.lemmas.Bool.Decides.{nat_tests}
use Rattle.unit_law.proofs.Views.{eq-test, ne-test}
use Rattle.target_law.specs.declared.moves.Move.{Move}
use Rattle.target_law.specs.declared.moves.Move.TheVariants as move
use Rattle.target_law.specs.declared.nexus.Nexus.{Nexus}
use Rattle.target_law.specs.declared.rogue_phase.RoguePhase.{RoguePhase}
use Rattle.target_law.specs.declared.task_phase.ReselectByte.TheVariants as part
use Rattle.target_law.specs.declared.task_phase.TargetMessage.{TargetMessage}
use Rattle.target_law.specs.declared.task_phase.TargetMessage.TheVariants as target_message
use Rattle.target_law.specs.declared.task_phase.TaskPhase.{TaskPhase}
use Rattle.target_law.specs.declared.task_phase.TaskPhase.TheVariants.{ToChoose, MessageOut, DataIn, DataOut, Status, MessageIn}
use Rattle.target_law.specs.Session.{Task, Session, acted, gone, phased, looked, looked_by, remaining, closed, began}
use Rattle.target_law.specs.Bytes.{Connection, away, sent_by, took_by, heard_by}
use Rattle.target_law.specs.Sound.{tasks_at, HaveDistinctTags}
use Rattle.target_law.specs.Target.{LogicalUnit, ConnectionState, BusFree, Selected, TakingCommand, TaskConnected, RogueConnected, Target, unit_at, with_unit, adds_unit, unit_opened, target_opened, session, unit_after, connection_after, at_lun, on_unit, goes_on, ends, leaves, linked, unit_left, drops, drops_by, clears, unit_reset, slot_reset, parted, target_reset}
use Rattle.target_law.specs.Calls.{InitiatorMessage, Names, Resets, AbortsTag, Other, has_tag, has_ended, is_rogue, selected_by, target_selected, task_reselected, reselected_by, target_reselected, link_or_free, rogue_acted, acted_by, target_acted, asked_by, link_byte, link_sent, sent_if, link_takes, link_took, took_if, whole_by, nexus_of, message_of, greeted, aborted, told, messaged_by, target_messaged, message_acked, shown_acked, acked_by, target_acked, begun, begun_with, begun_by, target_begun}
use Rattle.target_law.specs.Beginning.{ticket_for, begins_if, took_where, target_took}
use Rattle.target_law.specs.Devices.{DeviceState, lie_within, where_room}
use Rattle.target_law.specs.Laws.{TagsStayDistinct}
use Rattle.target_law.proofs.TagLists.{are_distinct, Apart, apart-of, distinct-of, distinct-by_tag, apart-remove, pairs-of, of_pairs}

-- the tasks of each unit, with these units and this link
abbrev pub Dist : List (Option LogicalUnit) → ConnectionState → Type 0
Dist us l = (lun : ℕ) (u : LogicalUnit) → unit_at us lun ≡ Some u → are_distinct (tasks_at l lun u) ≡ true

pub dist-of : (t : Target) → HaveDistinctTags t → Dist t.units t.link
dist-of t h lun u e = of_pairs (tasks_at t.link lun u) (h lun u e)

pub tags-of : (t : Target) → Dist t.units t.link → HaveDistinctTags t
tags-of t h lun u e = pairs-of (tasks_at t.link lun u) (h lun u e)

-- ---- the tasks that aren't connected

rest-if : (b : Bool) (k : Task) (ks : List Task) → are_distinct (if b then k ∷ ks else ks) ≡ true → are_distinct ks ≡ true
rest-if true k ks e = (apart-of k ks e).rest
rest-if false k ks e = e

waiting : (l : ConnectionState) (lun : ℕ) (u : LogicalUnit) → are_distinct (tasks_at l lun u) ≡ true → are_distinct u.tasks ≡ true
waiting BusFree lun u e = e
waiting (Selected heard) lun u e = e
waiting (TakingCommand n taken) lun u e = e
waiting (TaskConnected c) lun u e = rest-if (nat_eq c.lun lun) c.task u.tasks e
waiting (RogueConnected s n) lun u e = e

-- at the unit of the connected task, and at the others
here : (c : Connection) (u : LogicalUnit) → are_distinct (tasks_at (TaskConnected c) c.lun u) ≡ true → Apart c.task.tag u.tasks
here c u e = apart-of c.task u.tasks (rw (eq-test c.lun) at e)

at-here : (c : Connection) (lun : ℕ) (u : LogicalUnit) → c.lun ≡ lun → Apart c.task.tag u.tasks → are_distinct (tasks_at (TaskConnected c) lun u) ≡ true
at-here c lun u e a = let same : nat_eq c.lun lun ≡ true = ap (nat_eq c.lun) (sym e) ∙ eq-test c.lun in rw same (distinct-of c.task u.tasks a)

elsewhere : (c : Connection) (lun : ℕ) (u : LogicalUnit) → c.lun ≢ lun → are_distinct u.tasks ≡ true → are_distinct (tasks_at (TaskConnected c) lun u) ≡ true
elsewhere c lun u d e = rw (ne-test c.lun lun d) e

-- another connection of the same task's tag
tags-if : (b : Bool) (j k : Task) (ks : List Task) → k.tag ≡ j.tag → are_distinct (if b then j ∷ ks else ks) ≡ true → are_distinct (if b then k ∷ ks else ks) ≡ true
tags-if true j k ks e h = distinct-of k ks (subst (λ (tag : ℕ). Apart tag ks) (sym e) (apart-of j ks h))
tags-if false j k ks e h = h

pub record SameTask (old new : Connection) : Type 0 where
  pub lun : new.lun ≡ old.lun
  pub tag : new.task.tag ≡ old.task.tag

same : (old new : Connection) → SameTask old new → (lun : ℕ) (u v : LogicalUnit) → v.tasks ≡ u.tasks → are_distinct (tasks_at (TaskConnected old) lun u) ≡ true → are_distinct (tasks_at (TaskConnected new) lun v) ≡ true
same old new s lun u v t e =
    subst (λ (ks : List Task). are_distinct (if nat_eq new.lun lun then new.task ∷ ks else ks) ≡ true) (sym t)
    (subst (λ (n : ℕ). are_distinct (if nat_eq n lun then new.task ∷ u.tasks else u.tasks) ≡ true) (sym s.lun) (tags-if (nat_eq old.lun lun) old.task new.task u.tasks s.tag e))

-- ---- one unit has changed

shift : (us : List (Option LogicalUnit)) (lun k : ℕ) (v w : LogicalUnit) → ((k ≡ lun) × (w ≡ v)) ⊎ ((k ≢ lun) × (unit_at us k ≡ Some w)) → ((suc k ≡ suc lun) × (w ≡ v)) ⊎ ((suc k ≢ suc lun) × (unit_at us k ≡ Some w))
shift us lun k v w (inl p) = inl (ap suc p.0, p.1)
shift us lun k v w (inr p) = inr ((λ e. p.0 (let f : k ≡ lun = cc in f)), p.1)

pub at-with : (us : List (Option LogicalUnit)) (lun k : ℕ) (v w : LogicalUnit) → unit_at (with_unit us lun v) k ≡ Some w → ((k ≡ lun) × (w ≡ v)) ⊎ ((k ≢ lun) × (unit_at us k ≡ Some w))
unfolding unit_at with_unit
at-with [] lun k v w e = cc
at-with (x ∷ us) zero zero v w e = let same : w ≡ v = cc in inl (refl, same)
at-with (x ∷ us) zero (suc k) v w e = inr ((λ h. cc), e)
at-with (x ∷ us) (suc lun) zero v w e = inr ((λ h. cc), e)
at-with (x ∷ us) (suc lun) (suc k) v w e = shift us lun k v w (at-with us lun k v w e)

dist-by : (us : List (Option LogicalUnit)) (new : ConnectionState) (lun k : ℕ) (v w : LogicalUnit) → are_distinct (tasks_at new lun v) ≡ true → (k ≢ lun → unit_at us k ≡ Some w → are_distinct (tasks_at new k w) ≡ true)
    → ((k ≡ lun) × (w ≡ v)) ⊎ ((k ≢ lun) × (unit_at us k ≡ Some w)) → are_distinct (tasks_at new k w) ≡ true
dist-by us new lun k v w h f (inl p) = subst (λ (n : ℕ). are_distinct (tasks_at new n w) ≡ true) (sym p.0) (subst (λ (x : LogicalUnit). are_distinct (tasks_at new lun x) ≡ true) (sym p.1) h)
dist-by us new lun k v w h f (inr p) = f p.0 p.1

dist-with : (us : List (Option LogicalUnit)) (new : ConnectionState) (lun : ℕ) (v : LogicalUnit) → are_distinct (tasks_at new lun v) ≡ true
    → ((k : ℕ) (w : LogicalUnit) → k ≢ lun → unit_at us k ≡ Some w → are_distinct (tasks_at new k w) ≡ true) → Dist (with_unit us lun v) new
dist-with us new lun v h f k w e = dist-by us new lun k v w h (f k w) (at-with us lun k v w e)

-- what is done where the unit of a LUN is there
dist-on : (o : Option LogicalUnit) (t : Target) (f : LogicalUnit → Target) → Dist t.units t.link → ((u : LogicalUnit) → o ≡ Some u → Dist (f u).units (f u).link) → Dist (on_unit o f t).units (on_unit o f t).link
dist-on None t f h g = h
dist-on (Some u) t f h g = g u refl

dist-lun : (t : Target) (lun : ℕ) (f : LogicalUnit → Target) → Dist t.units t.link → ((u : LogicalUnit) → unit_at t.units lun ≡ Some u → Dist (f u).units (f u).link)
    → Dist (at_lun t lun f).units (at_lun t lun f).link
dist-lun t lun f h g = dist-on (unit_at t.units lun) t f h g

-- no task is connected any more
freed : (us : List (Option LogicalUnit)) (l : ConnectionState) → Dist us l → Dist us BusFree
freed us l h lun u e = waiting l lun u (h lun u e)

-- a task leaves the connection, and these are the tasks of its unit
parts-with : (us : List (Option LogicalUnit)) (c : Connection) (v : LogicalUnit) → Dist us (TaskConnected c) → are_distinct v.tasks ≡ true → Dist (with_unit us c.lun v) BusFree
parts-with us c v h e = dist-with us BusFree c.lun v e (λ k w d f. waiting (TaskConnected c) k w (h k w f))

away-apart : (c : Connection) (ks : List Task) → Apart c.task.tag ks → Apart (away c.task).tag ks
away-apart c ks a = a

left : (t : Target) (c : Connection) → Dist t.units (TaskConnected c) → t.link ≡ TaskConnected c → Dist (at_lun t c.lun (leaves t c)).units (at_lun t c.lun (leaves t c)).link
left t c h e = dist-lun t c.lun (leaves t c) (subst (λ (l : ConnectionState). Dist t.units l) (sym e) h) (λ u f.
    parts-with t.units c (unit_left u c.task) h (distinct-by_tag (away c.task) u.tasks (here c u (h c.lun u f))))

-- the connection goes on
goes : (us : List (Option LogicalUnit)) (c d : Connection) (u v : LogicalUnit) → Dist us (TaskConnected c) → unit_at us c.lun ≡ Some u → SameTask c d → v.tasks ≡ u.tasks → Dist (with_unit us c.lun v) (TaskConnected d)
goes us c d u v h e s t = dist-with us (TaskConnected d) c.lun v (same c d s c.lun u v t (h c.lun u e)) (λ k w n f. same c d s k w w refl (h k w f))

stays : (us : List (Option LogicalUnit)) (c d : Connection) → SameTask c d → Dist us (TaskConnected c) → Dist us (TaskConnected d)
stays us c d s h k w f = same c d s k w w refl (h k w f)

-- ---- moves

looked_by-tag : (b : Bool) (s : Session) (p : Performed) → (looked_by b s p).task.tag ≡ s.task.tag
looked_by-tag true s p = refl
looked_by-tag false s p = refl

looked-tag : (o : Option Answered) (s : Session) → (looked o s).task.tag ≡ s.task.tag
looked-tag (Some a) s = refl
looked-tag None s = looked_by-tag s.task.senses s (perform s.unit s.task.cdb [])

phased-tag : (d : Direction) (s : Session) (n : ℕ) → (phased d s n).task.tag ≡ s.task.tag
phased-tag In s n = looked-tag s.task.kept s
phased-tag Out s n = refl
phased-tag NoData s n = refl

gone-tag : (left : ℕ) (s : Session) (n : ℕ) → (gone left s n).task.tag ≡ s.task.tag
gone-tag zero s n = refl
gone-tag (suc left) s n = phased-tag (need_of s.task.cdb).direction s n

acted-tag : (m : Move) (s : Session) → (acted m s).task.tag ≡ s.task.tag
unfolding acted
acted-tag (move.Go n) s = gone-tag (remaining s) s n
acted-tag move.Busy s = refl
acted-tag move.QueueFull s = refl
acted-tag move.Leave s = refl
acted-tag move.SaveLeave s = refl
acted-tag move.Save s = refl
acted-tag move.Restore s = refl
acted-tag (move.Rogue word) s = refl

free-or : (us : List (Option LogicalUnit)) (o : Option RoguePhase) (n : Option Nexus) (l : ConnectionState) → Dist us l → Dist us (link_or_free o n)
free-or us None n l h = freed us l h
free-or us (Some s) n l h = freed us l h

rogue_acted-dist : (t : Target) (m : Move) (n : Option Nexus) → Dist t.units t.link → Dist (rogue_acted t m n).units (rogue_acted t m n).link
rogue_acted-dist t (move.Go k) n h = h
rogue_acted-dist t move.Busy n h = h
rogue_acted-dist t move.QueueFull n h = h
rogue_acted-dist t move.Leave n h = h
rogue_acted-dist t move.SaveLeave n h = h
rogue_acted-dist t move.Save n h = h
rogue_acted-dist t move.Restore n h = h
rogue_acted-dist t (move.Rogue word) n h = free-or t.units _ n t.link h

acted_by-dist : (l : ConnectionState) (t : Target) (m : Move) → t.link ≡ l → Dist t.units t.link → Dist (acted_by l t m).units (acted_by l t m).link
acted_by-dist BusFree t m e h = h
acted_by-dist (Selected heard) t m e h = h
acted_by-dist (TakingCommand n taken) t m e h = h
acted_by-dist (TaskConnected c) t m e h =
    let w : Dist t.units (TaskConnected c) = subst (λ (l : ConnectionState). Dist t.units l) e h in
    dist-lun t c.lun (λ u. goes_on t c u (acted m (session u c))) h (λ u f.
    goes t.units c (connection_after c (acted m (session u c))) u (unit_after u (acted m (session u c))) w f (record { lun = refl; tag = acted-tag m (session u c) }) refl)
acted_by-dist (RogueConnected s n) t m e h = rogue_acted-dist t m n h

pub acted-dist : (t : Target) (m : Move) → Dist t.units t.link → Dist (target_acted t m).units (target_acted t m).link
unfolding target_acted
acted-dist t m h = acted_by-dist t.link t m refl h

-- ---- bytes

sent-same : (s : TaskPhase) (c : Connection) → SameTask c (sent_by s c)
sent-same ToChoose c = record { lun = refl; tag = refl }
sent-same MessageOut c = record { lun = refl; tag = refl }
sent-same (DataIn n) c = record { lun = refl; tag = refl }
sent-same (DataOut n) c = record { lun = refl; tag = refl }
sent-same (Status v) c = record { lun = refl; tag = refl }
sent-same (MessageIn n sent) c = record { lun = refl; tag = refl }

took-same : (s : TaskPhase) (c : Connection) (b : ℕ) → SameTask c (took_by s c b)
took-same ToChoose c b = record { lun = refl; tag = refl }
took-same MessageOut c b = record { lun = refl; tag = refl }
took-same (DataIn n) c b = record { lun = refl; tag = refl }
took-same (DataOut n) c b = record { lun = refl; tag = refl }
took-same (Status v) c b = record { lun = refl; tag = refl }
took-same (MessageIn n sent) c b = record { lun = refl; tag = refl }

link_sent-dist : (us : List (Option LogicalUnit)) (l : ConnectionState) → Dist us l → Dist us (link_sent l)
link_sent-dist us BusFree h = h
link_sent-dist us (Selected heard) h = h
link_sent-dist us (TakingCommand n taken) h = h
link_sent-dist us (TaskConnected c) h = stays us c (sent_by c.shows c) (sent-same c.shows c) h
link_sent-dist us (RogueConnected s n) h = h

pub sent-dist : (us : List (Option LogicalUnit)) (l : ConnectionState) (o : Option ℕ) → Dist us l → Dist us (sent_if o l)
sent-dist us l (Some b) h = link_sent-dist us l h
sent-dist us l None h = h

link_took-dist : (us : List (Option LogicalUnit)) (l : ConnectionState) (b : ℕ) → Dist us l → Dist us (link_took l b)
link_took-dist us BusFree b h = h
link_took-dist us (Selected heard) b h = h
link_took-dist us (TakingCommand n taken) b h = h
link_took-dist us (TaskConnected c) b h = stays us c (took_by c.shows c b) (took-same c.shows c b) h
link_took-dist us (RogueConnected s n) b h = h

pub taken-dist : (us : List (Option LogicalUnit)) (l : ConnectionState) (takes : Bool) (b : ℕ) → Dist us l → Dist us (took_if takes l b)
taken-dist us l true b h = link_took-dist us l b h
taken-dist us l false b h = h

pub asked-dist : (us : List (Option LogicalUnit)) (l : ConnectionState) → Dist us l → Dist us (asked_by l)
asked-dist us BusFree h = h
asked-dist us (Selected heard) h = h
asked-dist us (TakingCommand n taken) h = h
asked-dist us (TaskConnected c) h = stays us c (record c { heard = []; shows = MessageOut }) (record { lun = refl; tag = refl }) h
asked-dist us (RogueConnected s n) h = h

-- ---- resets

reset-none : (us : List (Option LogicalUnit)) (lun : ℕ) (u : LogicalUnit) → unit_at (map slot_reset us) lun ≡ Some u → are_distinct u.tasks ≡ true
unfolding unit_at unit_reset
reset-none [] lun u e = cc
reset-none (None ∷ us) zero u e = cc
reset-none (Some x ∷ us) zero u e = let same : clears (fold drops x x.tasks) ≡ u = cc in ap (λ (v : LogicalUnit). are_distinct v.tasks) (sym same)
reset-none (x ∷ us) (suc lun) u e = reset-none us lun u e

pub reset-dist : (t : Target) → Dist (target_reset t).units (target_reset t).link
unfolding target_reset
reset-dist t lun u e = reset-none (parted t.link t).units lun u e

-- ---- a task begins

begun-if : (refused : Bool) (t : Target) (c : Connection) → Dist t.units t.link → ((k : ℕ) (w : LogicalUnit) → refused ≡ false → unit_at t.units k ≡ Some w → are_distinct (tasks_at (TaskConnected c) k w) ≡ true)
    → Dist (if refused then linked t BusFree else linked t (TaskConnected c)).units (if refused then linked t BusFree else linked t (TaskConnected c)).link
begun-if true t c h f = freed t.units t.link h
begun-if false t c h f = λ k w e. f k w refl e

first : (a b : Bool) → (a || b) ≡ false → a ≡ false
first false b e = refl
first true b e = cc

decided : (a b : ℕ) (same : Bool) → nat_eq a b ≡ same → (a ≡ b) ⊎ (a ≢ b)
decided a b true e = let f : a ≡ b = grind (arith, nat_tests) in inl f
decided a b false e = let f : a ≢ b = grind (arith, nat_tests) in inr f

joins_unit : (us : List (Option LogicalUnit)) (l : ConnectionState) (c : Connection) (u : LogicalUnit) → Dist us l → unit_at us c.lun ≡ Some u → has_tag u.tasks c.task.tag ≡ false
    → (k : ℕ) (w : LogicalUnit) → unit_at us k ≡ Some w → (c.lun ≡ k) ⊎ (c.lun ≢ k) → are_distinct (tasks_at (TaskConnected c) k w) ≡ true
joins_unit us l c u h e n k w f (inl p) =
    let is : u ≡ w = let g : Some u ≡ Some w = sym e ∙ ap (unit_at us) p ∙ f in cc in
    at-here c k w p (record { none = subst (λ (x : LogicalUnit). has_tag x.tasks c.task.tag ≡ false) is n; rest = waiting l k w (h k w f) })
joins_unit us l c u h e n k w f (inr p) = elsewhere c k w p (waiting l k w (h k w f))

begun-dist : (t : Target) (n : Nexus) (c : Cdb) (u : LogicalUnit) (ticket : ℕ) → Dist t.units t.link → unit_at t.units n.lun ≡ Some u → Dist (begun t n c u ticket).units (begun t n c u ticket).link
begun-dist t n c u ticket h e =
    let d : Connection = record {
      lun = n.lun;
      reselected = false;
      heard = [];
      task = began n.tag ticket c u.rig.disconnects (has_ended u.log ticket);
      shows = ToChoose;
    } in
    begun-if _ t d h (λ k w r f. joins_unit t.units t.link d u h e (first (has_tag u.tasks n.tag) _ r) k w f (decided n.lun k (nat_eq n.lun k) refl))

begun_with-dist : (t : Target) (n : Nexus) (c : Cdb) (o : Option ℕ) → Dist t.units t.link → Dist (begun_with t n c o).units (begun_with t n c o).link
begun_with-dist t n c None h = freed t.units t.link h
begun_with-dist t n c (Some ticket) h = dist-lun t n.lun (λ u. begun t n c u ticket) h (λ u e. begun-dist t n c u ticket h e)

begun_by-dist : (l : ConnectionState) (t : Target) (o : Option ℕ) → Dist t.units t.link → Dist (begun_by l t o).units (begun_by l t o).link
begun_by-dist BusFree t o h = h
begun_by-dist (Selected heard) t o h = h
begun_by-dist (TakingCommand n taken) t o h = begun_with-dist t n (cdb_of taken) o h
begun_by-dist (TaskConnected c) t o h = h
begun_by-dist (RogueConnected s n) t o h = h

pub target_begun-dist : (t : Target) (o : Option ℕ) → Dist t.units t.link → Dist (target_begun t o).units (target_begun t o).link
unfolding target_begun
target_begun-dist t o h = begun_by-dist t.link t o h

begins_if-dist : (live : Nexus → Option ℕ) (whole : Bool) (t : Target) → Dist t.units t.link → Dist (begins_if live whole t).units (begins_if live whole t).link
begins_if-dist live true t h = target_begun-dist t (ticket_for live t (nexus_of t.link)) h
begins_if-dist live false t h = h

took_where-dist : (live : Nexus → Option ℕ) (takes : Bool) (t : Target) (b : ℕ) → Dist t.units t.link → Dist (took_where live takes t b).units (took_where live takes t b).link
took_where-dist live true t b h = let l : ConnectionState = link_took t.link b in begins_if-dist live (whole_by l) (linked t l) (link_took-dist t.units t.link b h)
took_where-dist live false t b h = h

pub target_took-dist : (live : Nexus → Option ℕ) (t : Target) (b : ℕ) → Dist t.units t.link → Dist (target_took live t b).units (target_took live t b).link
unfolding target_took
target_took-dist live t b h = took_where-dist live (link_takes t.link) t b h

-- ---- selection and reselection

selected_by-dist : (rogue : Bool) (us : List (Option LogicalUnit)) (l : ConnectionState) → Dist us l → Dist us (selected_by rogue)
selected_by-dist true us l h = freed us l h
selected_by-dist false us l h = freed us l h

pub selected-dist : (t : Target) → Dist t.units t.link → Dist (target_selected t).units (target_selected t).link
selected-dist t h = selected_by-dist (is_rogue t) t.units t.link h

task-dist : (t : Target) (lun n : ℕ) (u : LogicalUnit) (o : Option Task) → Dist t.units t.link → unit_at t.units lun ≡ Some u → slice_get u.tasks n ≡ o → Dist (task_reselected t lun n u o).units (task_reselected t lun n u o).link
task-dist t lun n u None h e s = h
task-dist t lun n u (Some k) h e s =
    let c : Connection = record { lun = lun; reselected = true; heard = []; task = k; shows = MessageIn (target_message.Reselection part.Identify) false } in
    dist-with t.units (TaskConnected c) lun (record u { tasks = remove u.tasks n })
    (at-here c lun (record u { tasks = remove u.tasks n }) refl (apart-remove u.tasks n k (waiting t.link lun u (h lun u e)) s))
    (λ j w d f. elsewhere c j w (λ q. d (sym q)) (waiting t.link j w (h j w f)))

by-dist : (rogue : Bool) (t : Target) (lun n tag : ℕ) (u : LogicalUnit) → Dist t.units t.link → unit_at t.units lun ≡ Some u → Dist (reselected_by rogue t lun n tag u).units (reselected_by rogue t lun n tag u).link
by-dist true t lun n tag u h e = freed t.units t.link h
by-dist false t lun n tag u h e = task-dist t lun n u (slice_get u.tasks n) h e refl

pub reselected-dist : (t : Target) (lun n tag : ℕ) → Dist t.units t.link → Dist (target_reselected t lun n tag).units (target_reselected t lun n tag).link
unfolding target_reselected
reselected-dist t lun n tag h = dist-lun t lun (λ u. reselected_by u.rig.rogue t lun n tag u) h (λ u e. by-dist u.rig.rogue t lun n tag u h e)

-- ---- messages

greeted-dist : (t : Target) (m : InitiatorMessage) → Dist t.units t.link → Dist (greeted t m).units (greeted t m).link
greeted-dist t (Names n) h = dist-lun (linked t BusFree) n.lun (λ u. linked t (TakingCommand n [])) (freed t.units t.link h) (λ u e. freed t.units t.link h)
greeted-dist t Resets h = reset-dist t
greeted-dist t AbortsTag h = freed t.units t.link h
greeted-dist t Other h = freed t.units t.link h

drops_by-tasks : (b : Bool) (u : LogicalUnit) (k : Task) → (drops_by b u k).tasks ≡ u.tasks
drops_by-tasks true u k = refl
drops_by-tasks false u k = refl

aborted-dist : (reselected : Bool) (t : Target) (c : Connection) → Dist t.units (TaskConnected c) → t.link ≡ TaskConnected c → Dist (at_lun t c.lun (aborted reselected t c)).units (at_lun t c.lun (aborted reselected t c)).link
aborted-dist true t c h e = dist-lun t c.lun (aborted true t c) (subst (λ (l : ConnectionState). Dist t.units l) (sym e) h) (λ u f.
    parts-with t.units c (drops u c.task) h (ap are_distinct (drops_by-tasks c.task.senses u c.task) ∙ waiting (TaskConnected c) c.lun u (h c.lun u f)))
aborted-dist false t c h e = left t c h e

told-dist : (m : InitiatorMessage) (t : Target) (c : Connection) → Dist t.units (TaskConnected c) → t.link ≡ TaskConnected c → Dist (told m t c).units (told m t c).link
told-dist (Names n) t c h e = left t c h e
told-dist Resets t c h e = reset-dist t
told-dist AbortsTag t c h e = aborted-dist c.reselected t c h e
told-dist Other t c h e = left t c h e

messaged_by-dist : (l : ConnectionState) (t : Target) → t.link ≡ l → Dist t.units t.link → Dist (messaged_by l t).units (messaged_by l t).link
messaged_by-dist BusFree t e h = h
messaged_by-dist (Selected heard) t e h = greeted-dist t (message_of heard) h
messaged_by-dist (TakingCommand n taken) t e h = h
messaged_by-dist (TaskConnected c) t e h = told-dist (message_of c.heard) t c (subst (λ (l : ConnectionState). Dist t.units l) e h) e
messaged_by-dist (RogueConnected s n) t e h = freed t.units t.link h

pub messaged-dist : (t : Target) → Dist t.units t.link → Dist (target_messaged t).units (target_messaged t).link
unfolding target_messaged
messaged-dist t h = messaged_by-dist t.link t refl h

heard-same : (n : TargetMessage) (c : Connection) → SameTask c (heard_by n c)
heard-same (target_message.Reselection part.Identify) c = record { lun = refl; tag = refl }
heard-same (target_message.Reselection part.SimpleQueueTag) c = record { lun = refl; tag = refl }
heard-same (target_message.Reselection part.Tag) c = record { lun = refl; tag = refl }
heard-same (target_message.CommandComplete v) c = record { lun = refl; tag = refl }
heard-same target_message.SaveThenDisconnect c = record { lun = refl; tag = refl }
heard-same target_message.SaveDataPointer c = record { lun = refl; tag = refl }
heard-same target_message.RestorePointers c = record { lun = refl; tag = refl }
heard-same target_message.Disconnect c = record { lun = refl; tag = refl }

message_acked-dist : (n : TargetMessage) (t : Target) (c : Connection) → Dist t.units (TaskConnected c) → t.link ≡ TaskConnected c → Dist (message_acked n t c).units (message_acked n t c).link
message_acked-dist (target_message.CommandComplete v) t c h e = dist-lun t c.lun (λ u. ends t c u (closed v (session u c))) (subst (λ (l : ConnectionState). Dist t.units l) (sym e) h) (λ u f.
    parts-with t.units c (unit_after u (closed v (session u c))) h (waiting (TaskConnected c) c.lun u (h c.lun u f)))
message_acked-dist target_message.Disconnect t c h e = left t c h e
message_acked-dist (target_message.Reselection part.Identify) t c h e = stays t.units c _ (heard-same (target_message.Reselection part.Identify) c) h
message_acked-dist (target_message.Reselection part.SimpleQueueTag) t c h e = stays t.units c _ (heard-same (target_message.Reselection part.SimpleQueueTag) c) h
message_acked-dist (target_message.Reselection part.Tag) t c h e = stays t.units c _ (heard-same (target_message.Reselection part.Tag) c) h
message_acked-dist target_message.SaveThenDisconnect t c h e = stays t.units c _ (heard-same target_message.SaveThenDisconnect c) h
message_acked-dist target_message.SaveDataPointer t c h e = stays t.units c _ (heard-same target_message.SaveDataPointer c) h
message_acked-dist target_message.RestorePointers t c h e = stays t.units c _ (heard-same target_message.RestorePointers c) h

shown-dist : (s : TaskPhase) (t : Target) (c : Connection) → Dist t.units t.link → t.link ≡ TaskConnected c → Dist (shown_acked s t c).units (shown_acked s t c).link
shown-dist ToChoose t c h e = h
shown-dist MessageOut t c h e = h
shown-dist (DataIn n) t c h e = h
shown-dist (DataOut n) t c h e = h
shown-dist (Status v) t c h e = h
shown-dist (MessageIn n sent) t c h e = message_acked-dist n t c (subst (λ (l : ConnectionState). Dist t.units l) e h) e

acked_by-dist : (l : ConnectionState) (t : Target) → t.link ≡ l → Dist t.units t.link → Dist (acked_by l t).units (acked_by l t).link
acked_by-dist BusFree t e h = h
acked_by-dist (Selected heard) t e h = h
acked_by-dist (TakingCommand n taken) t e h = h
acked_by-dist (TaskConnected c) t e h = shown-dist c.shows t c h e
acked_by-dist (RogueConnected s n) t e h = freed t.units t.link h

pub acked-dist : (t : Target) → Dist t.units t.link → Dist (target_acked t).units (target_acked t).link
unfolding target_acked
acked-dist t h = acked_by-dist t.link t refl h

-- ---- the opening, and calls whose entries may not fit

added : (us : List (Option LogicalUnit)) (r : RigUnit) (lun : ℕ) (u : LogicalUnit) → ((k : ℕ) (w : LogicalUnit) → unit_at us k ≡ Some w → w.tasks ≡ [])
    → ((lun ≡ r.lun) × (u ≡ unit_opened r)) ⊎ ((lun ≢ r.lun) × (unit_at us lun ≡ Some u)) → u.tasks ≡ []
added us r lun u h (inl p) = ap (λ (x : LogicalUnit). x.tasks) p.1
added us r lun u h (inr p) = h lun u p.1

adds-none : (rs : List RigUnit) (us : List (Option LogicalUnit)) → ((lun : ℕ) (u : LogicalUnit) → unit_at us lun ≡ Some u → u.tasks ≡ [])
    → (lun : ℕ) (u : LogicalUnit) → unit_at (fold adds_unit us rs) lun ≡ Some u → u.tasks ≡ []
adds-none [] us h = h
adds-none (r ∷ rs) us h = adds-none rs (adds_unit us r) (λ lun u e. added us r lun u h (at-with us r.lun lun (unit_opened r) u e))

no_units : (n lun : ℕ) (u : LogicalUnit) → unit_at (replicate n None) lun ≡ Some u → u.tasks ≡ []
unfolding unit_at
no_units zero lun u e = cc
no_units (suc n) zero u e = cc
no_units (suc n) (suc lun) u e = no_units n lun u e

pub opened-dist : (rs : List RigUnit) → Dist (target_opened rs).units (target_opened rs).link
unfolding target_opened
opened-dist rs lun u e = ap are_distinct (adds-none rs (replicate 8 None) (no_units 8) lun u e)

where-dist : (lies : Bool) (d : DeviceState) (t : Target) → HaveDistinctTags d.target → HaveDistinctTags t → HaveDistinctTags (if lies then record { target = t; rooms = d.rooms } else d).target
where-dist true d t h i = i
where-dist false d t h i = h

pub where_room-tags : (d : DeviceState) (t : Target) → HaveDistinctTags d.target → HaveDistinctTags t → HaveDistinctTags (where_room d t).target
unfolding where_room
where_room-tags d t h i = where-dist (lie_within t.units d.rooms) d t h i

-- at the opening, and after each call
pub tags_stay : TagsStayDistinct
tags_stay = record {
  opened = λ rs. tags-of (target_opened rs) (opened-dist rs);
  selected = λ t h. tags-of (target_selected t) (selected-dist t (dist-of t h));
  reselected = λ lun n tag t h. tags-of (target_reselected t lun n tag) (reselected-dist t lun n tag (dist-of t h));
  acted = λ m t h. tags-of (target_acted t m) (acted-dist t m (dist-of t h));
  asked = λ t h. tags-of (linked t (asked_by t.link)) (asked-dist t.units t.link (dist-of t h));
  sent = λ t h. tags-of (linked t (sent_if (link_byte t.link) t.link)) (sent-dist t.units t.link (link_byte t.link) (dist-of t h));
  taken = λ b t h. tags-of (linked t (took_if (link_takes t.link) t.link b)) (taken-dist t.units t.link (link_takes t.link) b (dist-of t h));
  messaged = λ t h. tags-of (target_messaged t) (messaged-dist t (dist-of t h));
  acked = λ t h. tags-of (target_acked t) (acked-dist t (dist-of t h));
  reset = λ t h. tags-of (target_reset t) (reset-dist t);
  begun = λ ticket t h. tags-of (target_begun t ticket) (target_begun-dist t ticket (dist-of t h));
  took = λ live b t h. tags-of (target_took live t b) (target_took-dist live t b (dist-of t h));
  with_room = where_room-tags;
}
