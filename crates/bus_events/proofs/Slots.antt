-- No move adds a unit to a target.
use Rattle.std.proofs.Common.{◌≡◌, ◌≢◌, ℕ, zero, suc, ◌<◌, Bool, true, false, List, [], ◌∷◌, map, refl, ap, sym, ◌∙◌, subst, Option, Some, None, ◌⊎◌, inl, inr, remove}
use Rattle.std.specs.Prelude.{◌||◌, slice_get}
use Rattle.std.specs.List.{list_any}
use Rattle.std.proofs.lemmas.Option.{same_Some}
use Rattle.cdb_codec.specs.declared.commands.Cdb.TheVariants.{RequestSense}
use Rattle.unit_law.specs.Log.{with_at}
use Rattle.unit_law.specs.Request.{command}
use Rattle.unit_law.proofs.Views.{with_at-same, with_at-other, same_or_not}
use Rattle.target_law.specs.declared.moves.Move.{Move}
use Rattle.target_law.specs.Session.{acted, closed}
use Rattle.target_law.specs.Bytes.{Connection}
use Rattle.target_law.specs.Target as connection_state
use Rattle.target_law.specs.Target.{LogicalUnit, ConnectionState, BusFree, TakingCommand, TaskConnected, RogueConnected, Target, flat, unit_at, with_unit, on_unit, session, unit_after, unit_left, leaves, drops, slot_reset, parted, target_reset}
use Rattle.target_law.specs.Calls.{slot_is_rogue, is_rogue, target_acted, acted_by}
use Rattle.ticket_fate.specs.Tickets.{Plan, Ticket}
use Rattle.ticket_fate.specs.Linked.{HasRogue}
use Rattle.ticket_fate.specs.Kept.{AllKept}
use Rattle.ticket_fate.specs.Moves.{target_of, Moves, alone, points, marks, relinks, acts, sends, receives, hears, listens, leaves_bus, completes, drops_task, reselects, begins, ask_sends, ask_completes, ask_begins, resets_idle, resets_work, resets_asking}
use Rattle.ticket_fate.proofs.Recorded.{begun-units}
use Rattle.ticket_fate.proofs.Targets.{at-lun, unit-other}

-- a unit was there
abbrev pub WasThere : List (Option LogicalUnit) → List (Option LogicalUnit) → Type 0
WasThere old new = (lun : ℕ) (v : LogicalUnit) → unit_at new lun ≡ Some v → (u : LogicalUnit) × (unit_at old lun ≡ Some u)

same-there : (old new : List (Option LogicalUnit)) → new ≡ old → WasThere old new
same-there old new e = λ lun v f. (v, ap (λ z. unit_at z lun) (sym e) ∙ f)

one-there : (old new : List (Option LogicalUnit)) (at : ℕ) (u w : LogicalUnit) → unit_at old at ≡ Some u → new ≡ with_unit old at w → WasThere old new
one-there old new at u w own e = λ lun v f. by lun v (ap (λ z. unit_at z lun) (sym e) ∙ f) (same_or_not lun at)
  where
    by : (lun : ℕ) (v : LogicalUnit) → unit_at (with_unit old at w) lun ≡ Some v → (lun ≡ at) ⊎ (lun ≢ at) → (u : LogicalUnit) × (unit_at old lun ≡ Some u)
    by lun v f (inl q) = (u, ap (unit_at old) q ∙ own)
    by lun v f (inr d) = (v, sym (unit-other old at lun w d) ∙ f)

reset-slot : (o : Option LogicalUnit) (v : LogicalUnit) → slot_reset o ≡ Some v → (u : LogicalUnit) × (o ≡ Some u)
reset-slot (Some u) v e = (u, refl)
reset-slot None v e = absurd cc

slot-there : (old : List (Option LogicalUnit)) → WasThere old (map slot_reset old)
unfolding unit_at
slot-there [] lun v e = absurd cc
slot-there (o ∷ os) zero v e = reset-slot o v e
slot-there (o ∷ os) (suc lun) v e = slot-there os lun v e

parted-there : (l : ConnectionState) (t : Target) → WasThere t.units (parted l t).units
parted-there BusFree t = same-there t.units t.units refl
parted-there (connection_state.Selected heard) t = same-there t.units t.units refl
parted-there (TakingCommand n taken) t = same-there t.units t.units refl
parted-there (RogueConnected s n) t = same-there t.units t.units refl
parted-there (TaskConnected c) t = by (unit_at t.units c.lun) refl
  where
    by : (o : Option LogicalUnit) → unit_at t.units c.lun ≡ o → WasThere t.units (on_unit o (leaves t c) t).units
    by (Some u) e = one-there t.units (leaves t c u).units c.lun u (unit_left u c.task) e refl
    by None e = same-there t.units t.units refl

pub reset-there : (t : Target) → WasThere t.units (target_reset t).units
unfolding target_reset
reset-there t lun v e = let r = slot-there (parted t.link t).units lun v e in parted-there t.link t lun r.0 r.1

acted-there : (t : Target) (c : Connection) (u : LogicalUnit) (m : Move) → t.link ≡ TaskConnected c → unit_at t.units c.lun ≡ Some u → WasThere t.units (target_acted t m).units
unfolding target_acted
acted-there t c u m link there =
    one-there t.units (target_acted t m).units c.lun u (unit_after u (acted m (session u c))) there (ap (λ (z : Target). z.units) (ap (λ l. acted_by l t m) link ∙ at-lun t c.lun _ u there))

-- a target in place of another one
abbrev pub AllThere : (ℕ → Target) → (ℕ → Target) → Type 0
AllThere ts us = (j : ℕ) → WasThere (ts j).units (us j).units

all-there : (ts : ℕ → Target) (i : ℕ) (t : Target) → WasThere (ts i).units t.units → AllThere ts (with_at ts i t)
all-there ts i t f j = by (same_or_not j i)
  where
    by : (j ≡ i) ⊎ (j ≢ i) → WasThere (ts j).units (with_at ts i t j).units
    by (inl q) = subst (λ (z : Target). WasThere (ts j).units z.units) (sym (ap (with_at ts i t) q ∙ with_at-same ts i t)) (subst (λ k. WasThere (ts k).units t.units) (sym q) f)
    by (inr d) = same-there (ts j).units (with_at ts i t j).units (ap (λ (z : Target). z.units) (with_at-other ts i t j d))

pub moves-there : (g : Plan) (count : ℕ) (ks : ℕ → Ticket) (ts : ℕ → Target) (ns : ℕ → Ticket) (us : ℕ → Target) → Moves g count ks ts ns us → AllThere ts us
moves-there g count ks ts ns us (alone x k u there m) = λ j. same-there (ts j).units (ts j).units refl
moves-there g count ks ts ns us (points y lastp savep e) = λ j. same-there (ts j).units (ts j).units refl
moves-there g count ks ts ns us (marks y can) = λ j. same-there (ts j).units (ts j).units refl
moves-there g count ks ts ns us (relinks i l e f may) = all-there ts i _ (same-there (ts i).units (ts i).units refl)
moves-there g count ks ts ns us (acts i c u m w there e can) = all-there ts i _ (acted-there (ts i) c u m w there)
moves-there g count ks ts ns us (sends i c at b w plain e byte) = all-there ts i _ (same-there (ts i).units (ts i).units refl)
moves-there g count ks ts ns us (receives i c n at b w plain e f byte) = all-there ts i _ (same-there (ts i).units (ts i).units refl)
moves-there g count ks ts ns us (hears i c n s w plain e d f) = all-there ts i _ (same-there (ts i).units (ts i).units refl)
moves-there g count ks ts ns us (listens i c bytes w plain) = all-there ts i _ (same-there (ts i).units (ts i).units refl)
moves-there g count ks ts ns us (leaves_bus i c u w plain there e) = all-there ts i _ (one-there (ts i).units _ c.lun u (unit_left u c.task) there refl)
moves-there g count ks ts ns us (completes i c u v s k w plain there e z) = all-there ts i _ (one-there (ts i).units _ c.lun u (unit_after u (closed v (session u c))) there refl)
moves-there g count ks ts ns us (drops_task i c u w plain there e) = all-there ts i _ (one-there (ts i).units _ c.lun u (drops u c.task) there refl)
moves-there g count ks ts ns us (reselects n m u k less idle there e) =
    all-there ts (g.units n).target _ (one-there (ts (g.units n).target).units _ (g.units n).lun u (record u { tasks = remove u.tasks m }) there refl)
moves-there g count ks ts ns us (begins y n u idle there lun tag life others) =
    all-there ts (target_of g y) _ (same-there (ts (target_of g y)).units _ (begun-units (ts (target_of g y)) n (command (g.requests y)) u y))
moves-there g count ks ts ns us (ask_sends i c at b w asks e byte) = all-there ts i _ (same-there (ts i).units (ts i).units refl)
moves-there g count ks ts ns us (ask_completes i c u v s w asks there e) = all-there ts i _ (one-there (ts i).units _ c.lun u (unit_after u (closed v (session u c))) there refl)
moves-there g count ks ts ns us (ask_begins y n u idle there lun tag life others) =
    all-there ts (target_of g y) _ (same-there (ts (target_of g y)).units _ (begun-units (ts (target_of g y)) n (RequestSense 18) u y))
moves-there g count ks ts ns us (resets_idle i b idle can) = all-there ts i _ (reset-there (ts i))
moves-there g count ks ts ns us (resets_work i b c u w plain there can) = all-there ts i _ (reset-there (ts i))
moves-there g count ks ts ns us (resets_asking i c u w asks there) = all-there ts i _ (reset-there (ts i))

or-right : (a b : Bool) → a ≡ false → (a || b) ≡ true → b ≡ true
or-right true b e f = cc
or-right false b e f = f

-- a target that breaks the rules has a unit that does
any-rogue : (us : List (Option LogicalUnit)) → list_any slot_is_rogue us ≡ true → (lun : ℕ) × (u : LogicalUnit) × (unit_at us lun ≡ Some u) × (u.rig.rogue ≡ true)
unfolding unit_at
any-rogue [] e = absurd cc
any-rogue (None ∷ us) e = let r = any-rogue us e in (suc r.0, r.1, r.2, r.3)
any-rogue (Some u ∷ us) e = by u.rig.rogue refl (λ f. any-rogue us f)
  where
    by : (b : Bool) → u.rig.rogue ≡ b → (list_any slot_is_rogue us ≡ true → (lun : ℕ) × (v : LogicalUnit) × (flat (slice_get us lun) ≡ Some v) × (v.rig.rogue ≡ true))
        → (lun : ℕ) × (v : LogicalUnit) × (flat (slice_get (Some u ∷ us) lun) ≡ Some v) × (v.rig.rogue ≡ true)
    by true f rest = (zero, u, refl, f)
    by false f rest = let r = rest (or-right u.rig.rogue (list_any slot_is_rogue us) f e) in (suc r.0, r.1, r.2, r.3)

pub has-rogue : (g : Plan) (count : ℕ) (ks : ℕ → Ticket) (ts : ℕ → Target) → AllKept g count ks ts → (i : ℕ)
    → ((lun : ℕ) (u : LogicalUnit) → unit_at (ts i).units lun ≡ Some u → (n : ℕ) × (n < count) × ((g.units n).target ≡ i) × ((g.units n).lun ≡ lun)) → is_rogue (ts i) ≡ true → HasRogue g i
unfolding is_rogue
has-rogue g count ks ts h i whole e =
    let r = any-rogue (ts i).units e in
    let n = whole r.0 r.1 r.2 in
    let u = (h.each i).units n.0 n.1 n.2 in
    let same : u.0 ≡ r.1 = same_Some u.0 r.1 (sym u.1 ∙ ap (unit_at (ts i).units) n.3 ∙ r.2) in
    record { unit = n.0; target = n.2; rogue = ap (λ z. z.rogue) (sym u.2.rig) ∙ ap (λ (z : LogicalUnit). z.rig.rogue) same ∙ r.3 }
