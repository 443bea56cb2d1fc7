-- What each move adds to the log of a unit.
use Rattle.std.proofs.Common.{◌≡◌, ◌≢◌, ℕ, ◌≤◌, ◌<◌, Bool, true, false, List, [], ◌∷◌, refl, ap, arith, sym, ◌∙◌, subst, Some, ◌⊎◌, inl, inr, nat_eq, nat_lt, remove}
use Rattle.std.specs.Prelude.{◌==◌, ◌&&◌}
use Rattle.std.proofs.lemmas.Bool.{and_parts}
use Rattle.std.proofs.lemmas.Bool.Decides.{nat_tests}
use Rattle.std.proofs.lemmas.Option.{same_Some}
use Rattle.cdb_codec.specs.declared.commands.Cdb.TheVariants.{RequestSense}
use Rattle.unit_law.specs.declared.entry.LogEntry.{LogEntry}
use Rattle.unit_law.specs.Request.{command}
use Rattle.unit_law.specs.Log.{tally, with_at}
use Rattle.unit_law.proofs.Views.{with_at-same, with_at-other, same_or_not, eq-test, ne-test}
use Rattle.target_law.specs.declared.moves.Move.{Move}
use Rattle.target_law.specs.Session.{Task, acted, closed}
use Rattle.target_law.specs.Bytes.{Connection, away}
use Rattle.target_law.specs.Target.{LogicalUnit, TaskConnected, Target, unit_at, with_unit, session, parted, unit_after, leaves, unit_left, drops, unit_reset, target_reset}
use Rattle.target_law.specs.Calls.{target_acted, acted_by}
use Rattle.logs_have_room.specs.Room.{IsFew}
use Rattle.ticket_fate.specs.Tickets.{Plan, unit_of, Life, Unbuilt, Connected, is_live, Ticket, with_life}
use Rattle.ticket_fate.specs.Linked.{IsPlan, AwayTasks, UnitKept, WorkKept, LinkKept}
use Rattle.ticket_fate.specs.Moves.{target_of, Moves, alone, points, marks, relinks, acts, sends, receives, hears, listens, leaves_bus, completes, drops_task, reselects, begins, ask_sends, ask_completes, ask_begins, resets_idle, resets_work, resets_asking}
use Rattle.ticket_fate.specs.Histories.{more, count_if}
use Rattle.ticket_fate.specs.Kept.{AllKept}
use Rattle.ticket_fate.specs.Laws.{Reached}
use Rattle.ticket_fate.proofs.FewEntries.{entries-are-few}
use Rattle.ticket_fate.proofs.LogTurns.{Turned, acted-turned, closed-turned, drops-turned}
use Rattle.ticket_fate.proofs.Reached.{all-kept}
use Rattle.ticket_fate.proofs.Recorded.{reset-there, idle-parted, begun-units, at-work}
use Rattle.ticket_fate.proofs.Targets.{at-lun, unit-same, unit-other}
use Rattle.ticket_link.specs.Tags.{IsBuild}
use Rattle.ticket_link.proofs.Tags.{tags-kept}
use Rattle.ticket_room.specs.Rooms.{lives_at, AreBelow, clears_in, HasLog}
use Rattle.ticket_room.specs.Laws.{LogsStayWithin}
use Rattle.ticket_room.proofs.Growths.{GrowsBy, same, entry, grown-spare, fewer-live, EachMayDrop, reset-grown, may-by_tag}

and-true : (a b : Bool) → a ≡ true → b ≡ true → (a && b) ≡ true
and-true true b e f = f
and-true false b e f = cc

below-or : (x n : ℕ) → (x < n) ⊎ (n ≤ x)
below-or x n = by (nat_lt x n) refl
  where
    by : (b : Bool) → nat_lt x n ≡ b → (x < n) ⊎ (n ≤ x)
    by true e = inl (grind (arith, nat_tests))
    by false e = inr (grind (arith, nat_tests))

same-number : (a b : ℕ) → nat_eq a b ≡ true → a ≡ b
same-number a b e = grind (arith, nat_tests)

-- a life that is live exactly where this holds
abbrev life_if : Bool → Life
life_if true = Connected
life_if false = Unbuilt

live-if : (b : Bool) → is_live (life_if b) ≡ b
live-if true = refl
live-if false = refl

module _ (g : Plan) (count : ℕ) (plan : IsPlan g count) (ks : ℕ → Ticket) (ts : ℕ → Target) (h : AllKept g count ks ts) (built : ℕ) (below : AreBelow built ks) (n : ℕ) (less : n < count) (u : LogicalUnit) (there : HasLog g n ts u) where
  abbrev target : ℕ
  target = (g.units n).target

  abbrev lun : ℕ
  lun = (g.units n).lun

  abbrev live : ℕ → Bool
  live = lives_at g n ks

  abbrev Grows : ℕ → LogicalUnit → Type 0
  Grows clears v = GrowsBy live built clears u.log v.log

  -- a live ticket of the unit
  lives : (y : ℕ) → is_live (ks y).life ≡ true → unit_of g y ≡ n → (y < built) × (live y ≡ true)
  lives y a e = (by (below-or y built), and-true (is_live (ks y).life) (unit_of g y == n) a (ap (λ z. z == n) e ∙ eq-test n))
    where
      by : (y < built) ⊎ (built ≤ y) → y < built
      by (inl l) = l
      by (inr l) = absurd (let z : true ≡ false = sym a ∙ ap is_live (below y l) in cc)

  -- the tickets with lives that are live exactly for live tickets of the unit
  abbrev counted : ℕ → Ticket
  counted z = with_life (ks z) (life_if (live z))

  counted-lives : (y : ℕ) → is_live (counted y).life ≡ true → (y < built) × (live y ≡ true)
  counted-lives y a =
      let l : live y ≡ true = sym (live-if (live y)) ∙ a in
      let p = and_parts (is_live (ks y).life) (unit_of g y == n) l in
      ((lives y p.0 (same-number (unit_of g y) n p.1)).0, l)

  turned : (new : List LogEntry) → Turned counted u.log new → GrowsBy live built 0 u.log new
  turned new (inl e) = subst (GrowsBy live built 0 u.log) (sym e) same
  turned new (inr t) = let l = counted-lives t.0 t.3 in subst (GrowsBy live built 0 u.log) (sym t.4) (entry t.0 t.1 t.2 l.0 l.1 same)

  -- ---- another target in place of one
  grows-at : (i : ℕ) (t : Target) (clears : ℕ) → (target ≡ i → (v : LogicalUnit) → unit_at t.units lun ≡ Some v → Grows clears v) → (target ≢ i → clears ≡ 0) → (v : LogicalUnit) → HasLog g n (with_at ts i t) v → Grows clears v
  grows-at i t clears f z v e = by (same_or_not target i)
    where
      by : (target ≡ i) ⊎ (target ≢ i) → Grows clears v
      by (inl q) = f q v (ap (λ (y : Target). unit_at y.units lun) (sym (ap (with_at ts i t) q ∙ with_at-same ts i t)) ∙ e)
      by (inr d) =
          let same_unit : u ≡ v = same_Some u v (sym there ∙ ap (λ (y : Target). unit_at y.units lun) (sym (with_at-other ts i t target d)) ∙ e) in
          subst (λ c. Grows c v) (sym (z d)) (subst (Grows 0) same_unit same)

  here : (i : ℕ) → target ≡ i → unit_at (ts i).units lun ≡ Some u
  here i q = ap (λ j. unit_at (ts j).units lun) (sym q) ∙ there

  -- its units stay
  still : (i : ℕ) (t : Target) → t.units ≡ (ts i).units → (v : LogicalUnit) → HasLog g n (with_at ts i t) v → Grows 0 v
  still i t e v f = grows-at i t 0 (λ q w k. subst (Grows 0) (same_Some u w (sym (here i q) ∙ ap (λ z. unit_at z lun) (sym e) ∙ k)) same) (λ d. refl) v f

  unmoved : (v : LogicalUnit) → HasLog g n ts v → Grows 0 v
  unmoved v f = subst (Grows 0) (same_Some u v (sym there ∙ f)) same

  -- one of its units changes
  changed : (i : ℕ) (t : Target) (at : ℕ) (w y : LogicalUnit) → unit_at (ts i).units at ≡ Some w → t.units ≡ with_unit (ts i).units at y → (target ≡ i → lun ≡ at → w ≡ u → GrowsBy live built 0 w.log y.log)
      → (v : LogicalUnit) → HasLog g n (with_at ts i t) v → Grows 0 v
  changed i t at w y own e f v k = grows-at i t 0 (λ q x z. by q x (ap (λ us. unit_at us lun) (sym e) ∙ z) (same_or_not lun at)) (λ d. refl) v k
    where
      by : target ≡ i → (x : LogicalUnit) → unit_at (with_unit (ts i).units at y) lun ≡ Some x → (lun ≡ at) ⊎ (lun ≢ at) → Grows 0 x
      by q x z (inl p) =
          let old : w ≡ u = same_Some w u (sym own ∙ ap (unit_at (ts i).units) (sym p) ∙ here i q) in
          let new : y ≡ x = same_Some y x (sym (unit-same (ts i).units at w y own) ∙ ap (unit_at (with_unit (ts i).units at y)) (sym p) ∙ z) in
          subst (λ (a : LogicalUnit). GrowsBy live built 0 a.log x.log) old (subst (λ (a : LogicalUnit). GrowsBy live built 0 w.log a.log) new (f q p old))
      by q x z (inr d) = subst (Grows 0) (same_Some u x (sym (here i q) ∙ sym (unit-other (ts i).units at lun y d) ∙ z)) same

  -- ---- the unit of a connected task
  module _ (i : ℕ) (c : Connection) (working : (ts i).link ≡ TaskConnected c) where
    own-unit : target ≡ i → lun ≡ c.lun → unit_of g c.task.ticket ≡ n
    own-unit q p = by c.task.senses (subst (λ l. LinkKept l g i ks (ts i)) working (h.each i).link)
      where
        by : (b : Bool) → WorkKept b g i ks (ts i) c → unit_of g c.task.ticket ≡ n
        by false w = plan.apart (unit_of g c.task.ticket) n (w.target ∙ sym q) (sym w.lun ∙ sym p)
        by true w = plan.apart (unit_of g c.task.ticket) n (w.target ∙ sym q) (sym w.lun ∙ sym p)

    own-lives : target ≡ i → lun ≡ c.lun → (c.task.ticket < built) × (live c.task.ticket ≡ true)
    own-lives q p = lives c.task.ticket (at-work g count plan ks ts h 0 i c working) (own-unit q p)

    own-counted : target ≡ i → lun ≡ c.lun → is_live (counted c.task.ticket).life ≡ true
    own-counted q p = live-if (live c.task.ticket) ∙ (own-lives q p).1

    -- one entry of its ticket
    logs : (t : Target) (w y : LogicalUnit) → unit_at (ts i).units c.lun ≡ Some w → t.units ≡ with_unit (ts i).units c.lun y → (is_live (counted c.task.ticket).life ≡ true → Turned counted w.log y.log)
        → (v : LogicalUnit) → HasLog g n (with_at ts i t) v → Grows 0 v
    logs t w y own e f v k =
        changed i t c.lun w y own e (λ q p old. subst (λ (a : LogicalUnit). GrowsBy live built 0 a.log y.log) (sym old) (turned y.log (subst (λ (a : LogicalUnit). Turned counted a.log y.log) old (f (own-counted q p))))) v k

  -- ---- a reset
  away-drops : (xs : List Task) → AwayTasks g n ks xs → EachMayDrop live built xs
  away-drops [] a = tt
  away-drops (k ∷ xs) a = (λ s. lives k.ticket (ap is_live a.0.life) a.0.unit, away-drops xs a.2)

  kept : (i : ℕ) → target ≡ i → UnitKept g n ks u
  kept i q = let old = (h.each target).units n less refl in subst (UnitKept g n ks) (same_Some old.0 u (sym old.1 ∙ there)) old.2

  -- the unit that is reset is this one once its connected task is among the others
  reset-grows : (i : ℕ) → (target ≡ i → (w : LogicalUnit) × (unit_at (target_reset (ts i)).units lun ≡ Some (unit_reset w)) × (w.log ≡ u.log) × EachMayDrop live built w.tasks)
      → (v : LogicalUnit) → HasLog g n (with_at ts i (target_reset (ts i))) v → Grows (count_if (target == i && true) 1) v
  reset-grows i f v k = grows-at i (target_reset (ts i)) (count_if (target == i && true) 1) (λ q x z.
      let r = f q in
      let new : unit_reset r.0 ≡ x = same_Some (unit_reset r.0) x (sym r.1 ∙ z) in
      subst (λ m. Grows m x) (sym (ap (λ b. count_if (b && true) 1) (ap (λ y. y == i) q ∙ eq-test i)))
      (subst (Grows 1) new (subst (λ l. GrowsBy live built 1 l (unit_reset r.0).log) r.2 (reset-grown live built r.0 r.3))))
      (λ d. ap (λ b. count_if (b && true) 1) (ne-test target i d)) v k

  idle-grows : (i : ℕ) → parted (ts i).link (ts i) ≡ ts i → (v : LogicalUnit) → HasLog g n (with_at ts i (target_reset (ts i))) v → Grows (count_if (target == i && true) 1) v
  idle-grows i p v k = reset-grows i (λ q. (u, reset-there (ts i) (ts i) lun u p (here i q), refl, away-drops u.tasks (kept i q).lists.tasks)) v k

  work-grows : (i : ℕ) (c : Connection) (w : LogicalUnit) → (ts i).link ≡ TaskConnected c → unit_at (ts i).units c.lun ≡ Some w → (v : LogicalUnit) → HasLog g n (with_at ts i (target_reset (ts i))) v
      → Grows (count_if (target == i && true) 1) v
  work-grows i c w working own v k = reset-grows i (λ q. by q (same_or_not lun c.lun)) v k
    where
      p : parted (ts i).link (ts i) ≡ leaves (ts i) c w
      p = ap (λ l. parted l (ts i)) working ∙ at-lun (ts i) c.lun (leaves (ts i) c) w own

      by : target ≡ i → (lun ≡ c.lun) ⊎ (lun ≢ c.lun) → (w : LogicalUnit) × (unit_at (target_reset (ts i)).units lun ≡ Some (unit_reset w)) × (w.log ≡ u.log) × EachMayDrop live built w.tasks
      by q (inl e) =
          let old : u ≡ w = same_Some u w (sym (here i q) ∙ ap (unit_at (ts i).units) e ∙ own) in (
            unit_left w c.task,
            reset-there (ts i) (leaves (ts i) c w) lun (unit_left w c.task) p (ap (unit_at (with_unit (ts i).units c.lun (unit_left w c.task))) e ∙ unit-same (ts i).units c.lun w (unit_left w c.task) own),
            ap (λ (a : LogicalUnit). a.log) (sym old),
            may-by_tag live built (away c.task) w.tasks (λ s. own-lives i c working q e) (subst (λ (a : LogicalUnit). EachMayDrop live built a.tasks) old (away-drops u.tasks (kept i q).lists.tasks)),
          )
      by q (inr d) = (
        u,
        reset-there (ts i) (leaves (ts i) c w) lun u p (unit-other (ts i).units c.lun lun (unit_left w c.task) d ∙ here i q),
        refl,
        away-drops u.tasks (kept i q).lists.tasks,
      )

  acted-units : (t : Target) (c : Connection) (w : LogicalUnit) (m : Move) → t.link ≡ TaskConnected c → unit_at t.units c.lun ≡ Some w → (target_acted t m).units ≡ with_unit t.units c.lun (unit_after w (acted m (session w c)))
  unfolding target_acted
  acted-units t c w m working own = ap (λ (z : Target). z.units) (ap (λ l. acted_by l t m) working ∙ at-lun t c.lun _ w own)

  grows : (ns : ℕ → Ticket) (us : ℕ → Target) (m : Moves g count ks ts ns us) (v : LogicalUnit) → HasLog g n us v → Grows (clears_in n m) v
  grows ns us (alone y k w own m) v e = unmoved v e
  grows ns us (points y lastp savep f) v e = unmoved v e
  grows ns us (marks y can) v e = unmoved v e
  grows ns us (relinks i l f z may) v e = still i _ refl v e
  grows ns us (acts i c w m working own f can) v e =
      logs i c working _ w (unit_after w (acted m (session w c))) own (acted-units (ts i) c w m working own) (λ l. acted-turned counted m (session w c) l) v e
  grows ns us (sends i c at b working plain f byte) v e = still i _ refl v e
  grows ns us (receives i c k at b working plain f z byte) v e = still i _ refl v e
  grows ns us (hears i c k s working plain f d z) v e = still i _ refl v e
  grows ns us (listens i c heard working plain) v e = still i _ refl v e
  grows ns us (leaves_bus i c w working plain own f) v e = changed i _ c.lun w (unit_left w c.task) own refl (λ q p old. same) v e
  grows ns us (completes i c w a s k working plain own f z) v e =
      logs i c working _ w (unit_after w (closed a (session w c))) own refl (λ l. closed-turned a counted (session w c) l) v e
  grows ns us (drops_task i c w working plain own f) v e = logs i c working _ w (drops w c.task) own refl (λ l. drops-turned c.task.senses counted w c.task l) v e
  grows ns us (reselects j m w k few idle own f) v e = changed (g.units j).target _ (g.units j).lun w (record w { tasks = remove w.tasks m }) own refl (λ q p old. same) v e
  grows ns us (begins y j w idle own f tag life others) v e = still (target_of g y) _ (begun-units (ts (target_of g y)) j (command (g.requests y)) w y) v e
  grows ns us (ask_sends i c at b working asks f byte) v e = still i _ refl v e
  grows ns us (ask_completes i c w a s working asks own f) v e =
      logs i c working _ w (unit_after w (closed a (session w c))) own refl (λ l. closed-turned a counted (session w c) l) v e
  grows ns us (ask_begins y j w idle own f tag life others) v e = still (target_of g y) _ (begun-units (ts (target_of g y)) j (RequestSense 18) w y) v e
  grows ns us (resets_idle i b idle can) v e = idle-grows i (idle-parted (ts i).link idle (ts i)) v e
  grows ns us (resets_work i b c w working plain own can) v e = work-grows i c w working own v e
  grows ns us (resets_asking i c w working asks own) v e = work-grows i c w working own v e

pub logs-stay-within : LogsStayWithin
logs-stay-within g count ks ts ns us r m old built n room spare u v below less there new s =
    let h = all-kept g count ks ts r in
    let after : Reached g count ns us = record { plan = r.plan; from = (r.from.0, r.from.1, r.from.2, more r.from.3 m) } in
    let few : (x : ℕ) → lives_at g n ks x ≡ true → IsFew (g.units n).refusals (tally x v.log) = λ x l.
    let q = same-number (unit_of g x) n (and_parts (is_live (ks x).life) (unit_of g x == n) l).1 in
    let f = entries-are-few g count ns us after x in
    let unit : f.0 ≡ v = same_Some f.0 v (sym f.1 ∙ ap (λ z. unit_at (us (g.units z).target).units (g.units z).lun) q ∙ new) in
    subst (λ (a : LogicalUnit). IsFew (g.units n).refusals (tally x a.log)) unit (subst (λ z. IsFew (g.units z).refusals (tally x f.0.log)) q f.2) in
    let grown = grown-spare (lives_at g n ks) built (g.units n).refusals (clears_in n m) u.log v.log (grows g count r.plan ks ts h built below n less u there ns us m v new) few room spare s in
    let fewer = fewer-live (g.units n).refusals built (lives_at g n ks) (lives_at g n ns) v.log (λ x l b. stay x b (tags-kept g count r.plan ks ts h ns us m)) in
    omega (arith, grown, fewer)
  where
    stay : (x : ℕ) → lives_at g n ns x ≡ true → ((y : ℕ) → ((ns y).tag ≡ (ks y).tag) × (is_live (ns y).life ≡ true → is_live (ks y).life ≡ true)) ⊎ IsBuild m → lives_at g n ks x ≡ true
    stay x b (inl f) =
        let p = and_parts (is_live (ns x).life) (unit_of g x == n) b in
        and-true (is_live (ks x).life) (unit_of g x == n) ((f x).1 p.0) p.1
    stay x b (inr z) = absurd (old z)
