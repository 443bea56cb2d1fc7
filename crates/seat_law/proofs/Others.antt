-- Steps of others leave a submitter where it stands.
use Rattle.std.proofs.Common.{arith, ◌≡◌, ◌≢◌, ◌<◌, ℕ, eqb, eq-eqb, cond, Bool, true, false, List, [], ◌∷◌, ◌++◌, length, refl, sym, ap, subst, ◌∙◌}
use Rattle.rig_types.specs.declared.step.Step.{Step}
use Rattle.bench_lock.specs.Log.{entries_of}
use Rattle.desk_law.specs.declared.stage.Stage.{Stage}
use Rattle.desk_law.specs.declared.stage.Stage.TheVariants as stage
use Rattle.desk_law.specs.declared.ticket.Ticket.{Ticket}
use Rattle.desk_law.specs.Desk.{ticket}
use Rattle.world_law.specs.World.{BenchSetting, World, lines_of}
use Rattle.world_law.specs.Lines.{is_unqueued}
use Rattle.world_law.specs.Runs.{Moment, IsRun, last}
use Rattle.world_law.specs.Laws.{IsHeldBy, LeavesSubmitter}
use Rattle.world_law.proofs.Callers.{leaves_submitter}
use Rattle.seat_law.specs.Worlds.{pair_of, steps_of, Goes, LeadsTo}
use Rattle.seat_law.specs.Standing.{Standing, rests, has_built, has_linked, owes, HoldsNone, HoldsOne, StandsIn}
use Rattle.seat_law.proofs.ListWorlds.{longer_goes}
use Rattle.seat_law.proofs.Sizes.{IsSized, sized_on, sized}

-- ---- the steps of a list that are another's

other-first-by : (s : ℕ) (x : ℕ × Step) (xs : List (ℕ × Step)) (b : Bool) → eqb x.0 s ≡ b → cond b (x ∷ entries_of s xs) (entries_of s xs) ≡ [] → (x.0 ≢ s) × (entries_of s xs ≡ [])
other-first-by s x xs true is e = absurd cc
other-first-by s x xs false is e = (λ same. absurd (let c : true ≡ false = sym (eq-eqb x.0 s same) ∙ is in cc), e)

other-first : (s : ℕ) (x : ℕ × Step) (xs : List (ℕ × Step)) → entries_of s (x ∷ xs) ≡ [] → (x.0 ≢ s) × (entries_of s xs ≡ [])
other-first s x xs e = other-first-by s x xs (eqb x.0 s) refl e

-- ---- what is left to a submitter

left-same : (s : ℕ) (w : World) → LeavesSubmitter s w w
left-same s w = record { lines = refl; due = refl; held = λ t h. refl; no_more = λ t h. refl }

left-then : (s : ℕ) (a b c : World) → LeavesSubmitter s a b → LeavesSubmitter s b c → LeavesSubmitter s a c
left-then s a b c x y = record {
  lines = y.lines ∙ x.lines;
  due = y.due ∙ x.due;
  held = λ t h. y.held t (subst (λ (k : Ticket). IsHeldBy s k) (sym (x.held t h)) h) ∙ x.held t h;
  no_more = λ t h.
      let e : ticket c.desk t ≡ ticket b.desk t = y.no_more t h in
      e ∙ x.no_more t (subst (λ (k : Ticket). IsHeldBy s k) e h);
}

left-by : (g : BenchSetting) (s : ℕ) (w : World) (ms : List Moment) → s < length g.submitters → IsSized g w → entries_of s (steps_of ms) ≡ [] → IsRun g w ms → LeavesSubmitter s w (last w ms)
left-by g s w [] below z e r = left-same s w
left-by g s w (m ∷ ms) below z e r =
    let other : (m.entry.caller ≢ s) × (entries_of s (steps_of ms) ≡ []) = other-first s (pair_of m.entry) (steps_of ms) e in
    let first : LeavesSubmitter s w m.after = leaves_submitter g w m s (omega (arith, below, z.submitters)) (λ same. other.0 (sym same)) r.0 in
    left-then s w m.after (last m.after ms) first (left-by g s m.after ms below (sized_on g w m r.0 z) other.1 r.1)

-- ---- where it stands

none-held : (s : ℕ) (old new : World) → LeavesSubmitter s old new → HoldsNone old s → HoldsNone new s
none-held s old new x h = λ t held. h t (subst (λ (k : Ticket). IsHeldBy s k) (x.no_more t held) held)

one-held : (kind : Stage) (s t : ℕ) (old new : World) → is_unqueued kind ≡ true → LeavesSubmitter s old new → HoldsOne kind old s t → HoldsOne kind new s t
one-held kind s t old new u x h =
    let same : ticket new.desk t ≡ ticket old.desk t = x.held t (h.own, ap (λ (k : Stage). is_unqueued k) h.stage_is ∙ u) in
    record {
      stage_is = ap (λ (k : Ticket). k.stage) same ∙ h.stage_is;
      own = ap (λ (k : Ticket). k.line.submitter) same ∙ h.own;
      only = λ n held. h.only n (subst (λ (k : Ticket). IsHeldBy s k) (x.no_more n held) held);
    }

pub stands_on : (s : ℕ) (p : Standing) (old new : World) → LeavesSubmitter s old new → StandsIn old s p → StandsIn new s p
stands_on s rests old new x h = (x.due ∙ h.0, none-held s old new x h.1)
stands_on s (has_built t) old new x h = (x.due ∙ h.0, one-held stage.Built s t old new refl x h.1)
stands_on s (has_linked t) old new x h = (x.due ∙ h.0, one-held stage.Linked s t old new refl x h.1)
stands_on s owes old new x h = (x.due ∙ h.0, none-held s old new x h.1)

pub others_leave : (g : BenchSetting) (es others : List (ℕ × Step)) (old new : World) (s : ℕ) (p : Standing) → s < length g.submitters → entries_of s others ≡ []
    → LeadsTo g es old → LeadsTo g (es ++ others) new → StandsIn old s p → StandsIn new s p × (lines_of new s ≡ lines_of old s)
others_leave g es others old new s p below none h k at =
    let more : Goes g old others new = longer_goes g es others old new h k in
    let all : LeavesSubmitter s old (last old more.moments) = left-by g s old more.moments below (sized g es old h) (ap (λ (xs : List (ℕ × Step)). entries_of s xs) more.are ∙ none) more.run in
    let x : LeavesSubmitter s old new = subst (λ (w : World). LeavesSubmitter s old w) more.world all in
    (stands_on s p old new x at, x.lines)
