-- A list leads to one world, and a longer one goes on from there.
use Rattle.std.proofs.Common.{◌≡◌, ℕ, List, [], ◌∷◌, ◌++◌, refl, sym, ap, subst, ◌∙◌}
use Rattle.rig_types.specs.declared.step.Step.{Step}
use Rattle.rig_types.specs.declared.step.Entry.{Entry}
use Rattle.world_law.specs.World.{BenchSetting, World}
use Rattle.world_law.specs.Opening.{opened}
use Rattle.world_law.specs.Runs.{Moment, Steps, IsRun, last, entries}
use Rattle.world_law.proofs.OneRun.{runs_once}
use Rattle.world_law.proofs.RunLaws.{goes_on, ends_after}
use Rattle.seat_law.specs.Worlds.{pair_of, pairs_of, steps_of, Goes, LeadsTo}

first-is : {A : Type 0} (x y : A) (xs ys : List A) → x ∷ xs ≡ y ∷ ys → x ≡ y
first-is x y xs ys e = cc

rest-is : {A : Type 0} (x y : A) (xs ys : List A) → x ∷ xs ≡ y ∷ ys → xs ≡ ys
rest-is x y xs ys e = cc

-- ---- a list has one run

entry-is : (x y : Entry) → pair_of x ≡ pair_of y → x ≡ y
entry-is x y e =
    let with_caller : ℕ → Entry = λ n. record { caller = n; step = x.step } in
    let with_step : Step → Entry = λ z. record { caller = y.caller; step = z } in
    ap with_caller (ap (λ (p : ℕ × Step). p.0) e) ∙ ap with_step (ap (λ (p : ℕ × Step). p.1) e)

same-entries : (ms ns : List Moment) → steps_of ms ≡ steps_of ns → entries ms ≡ entries ns
same-entries [] [] e = refl
same-entries [] (n ∷ ns) e = absurd cc
same-entries (m ∷ ms) [] e = absurd cc
same-entries (m ∷ ms) (n ∷ ns) e =
    let first : m.entry ≡ n.entry = entry-is m.entry n.entry (first-is (pair_of m.entry) (pair_of n.entry) (steps_of ms) (steps_of ns) e) in
    let rest : entries ms ≡ entries ns = same-entries ms ns (rest-is (pair_of m.entry) (pair_of n.entry) (steps_of ms) (steps_of ns) e) in
    ap (λ (x : Entry). x ∷ entries ms) first ∙ ap (λ (xs : List Entry). n.entry ∷ xs) rest

pub leads_once : (g : BenchSetting) (es : List (ℕ × Step)) (a b : World) → LeadsTo g es a → LeadsTo g es b → a ≡ b
leads_once g es a b h k =
    let same : h.moments ≡ k.moments = runs_once g (opened g) h.moments k.moments (same-entries h.moments k.moments (h.are ∙ sym k.are)) h.run k.run in
    sym h.world ∙ ap (λ (ms : List Moment). last (opened g) ms) same ∙ k.world

-- ---- a longer list

record Cut (g : BenchSetting) (w : World) (ms : List Moment) (es more : List (ℕ × Step)) : Type 0 where
  pub first : List Moment
  pub rest : List Moment
  pub first_run : IsRun g w first
  pub first_are : steps_of first ≡ es
  pub rest_run : IsRun g (last w first) rest
  pub rest_are : steps_of rest ≡ more
  pub end : last (last w first) rest ≡ last w ms

cut : (g : BenchSetting) (w : World) (ms : List Moment) (es more : List (ℕ × Step)) → steps_of ms ≡ es ++ more → IsRun g w ms → Cut g w ms es more
cut g w ms [] more e r = record { first = []; rest = ms; first_run = tt; first_are = refl; rest_run = r; rest_are = e; end = refl }
cut g w [] (x ∷ es) more e r = absurd cc
cut g w (m ∷ ms) (x ∷ es) more e r =
    let c : Cut g m.after ms es more = cut g m.after ms es more (rest-is (pair_of m.entry) x (steps_of ms) (es ++ more) e) r.1 in
    let here : pair_of m.entry ≡ x = first-is (pair_of m.entry) x (steps_of ms) (es ++ more) e in
    record {
      first = m ∷ c.first;
      rest = c.rest;
      first_run = (r.0, c.first_run);
      first_are = ap (λ (y : ℕ × Step). y ∷ steps_of c.first) here ∙ ap (λ (ys : List (ℕ × Step)). x ∷ ys) c.first_are;
      rest_run = c.rest_run;
      rest_are = c.rest_are;
      end = c.end;
    }

pub longer_goes : (g : BenchSetting) (es more : List (ℕ × Step)) (old new : World) → LeadsTo g es old → LeadsTo g (es ++ more) new → Goes g old more new
longer_goes g es more old new h k =
    let c : Cut g (opened g) k.moments es more = cut g (opened g) k.moments es more k.are k.run in
    let there : LeadsTo g es (last (opened g) c.first) = record { moments = c.first; run = c.first_run; are = c.first_are; world = refl } in
    let from : Goes g (last (opened g) c.first) more new = record { moments = c.rest; run = c.rest_run; are = c.rest_are; world = c.end ∙ k.world } in
    subst (λ (w : World). Goes g w more new) (leads_once g es (last (opened g) c.first) old there h) from

-- ---- one step more

steps-on : (ms : List Moment) (m : Moment) → steps_of (ms ++ m ∷ []) ≡ steps_of ms ++ pair_of m.entry ∷ []
steps-on [] m = refl
steps-on (x ∷ xs) m = ap (λ (es : List (ℕ × Step)). pair_of x.entry ∷ es) (steps-on xs m)

pub leads_none : (g : BenchSetting) → LeadsTo g [] (opened g)
leads_none g = record { moments = []; run = tt; are = refl; world = refl }

pub leads_on : (g : BenchSetting) (es : List (ℕ × Step)) (w : World) (m : Moment) → LeadsTo g es w → Steps g w m → LeadsTo g (es ++ pair_of m.entry ∷ []) m.after
leads_on g es w m h s = record {
  moments = h.moments ++ m ∷ [];
  run = goes_on g (opened g) h.moments m h.run (subst (λ (x : World). Steps g x m) (sym h.world) s);
  are = steps-on h.moments m ∙ ap (λ (xs : List (ℕ × Step)). xs ++ pair_of m.entry ∷ []) h.are;
  world = ends_after (opened g) h.moments m;
}

-- ---- a run of the bench is one of the list of its pairs

pairs-are : (ms : List Moment) → steps_of ms ≡ pairs_of (entries ms)
pairs-are [] = refl
pairs-are (m ∷ ms) = ap (λ (es : List (ℕ × Step)). pair_of m.entry ∷ es) (pairs-are ms)

pub leads_as : (g : BenchSetting) (es : List Entry) (w : World) (ms : List Moment) → IsRun g (opened g) ms → entries ms ≡ es → last (opened g) ms ≡ w → LeadsTo g (pairs_of es) w
leads_as g es w ms r a e = record { moments = ms; run = r; are = pairs-are ms ∙ ap pairs_of a; world = e }
