-- A serial run is a run, and a seed has one.
use Rattle.std.proofs.Common.{◌≡◌, ℕ, zero, suc, ◌+◌, Bool, true, false, List, [], ◌∷◌, ◌++◌, length, Option, Some, None, refl, sym, ap, subst, ◌∙◌, inl, inr}
use Rattle.std.specs.List.{range_with_len}
use Rattle.rig_types.specs.declared.step.Step.{Step}
use Rattle.rig_types.specs.declared.step.Entry.{Entry}
use Rattle.world_law.specs.World.{BenchSetting, World}
use Rattle.world_law.specs.Runs.{Moment, IsRun, last, entries}
use Rattle.world_law.proofs.OneRun.{runs_once}
use Rattle.run_law.specs.Serial.{next_word, eager, tries_of, IsFirst, IsMade, Tries, made, unrecorded, none, is_over, TriesUnless, Turns, Rounds, IsSerial}

-- ---- runs one behind the other

record Leads (g : BenchSetting) (old : World) (ms : List Moment) (new : World) : Type 0 where
  pub run : IsRun g old ms
  pub end : last old ms ≡ new

rests : (g : BenchSetting) (old : World) (ms : List Moment) (new : World) → ms ≡ [] → new ≡ old → Leads g old ms new
rests g old ms new e f =
    let here : Leads g old [] old = record { run = tt; end = refl } in
    subst (λ (w : World). Leads g old ms w) (sym f) (subst (λ (xs : List Moment). Leads g old xs old) (sym e) here)

runs-on : (g : BenchSetting) (w : World) (ms ns : List Moment) → IsRun g w ms → IsRun g (last w ms) ns → IsRun g w (ms ++ ns)
runs-on g w [] ns h k = k
runs-on g w (m ∷ ms) ns h k = (h.0, runs-on g m.after ms ns h.1 k)

last-of : (w : World) (ms ns : List Moment) → last w (ms ++ ns) ≡ last (last w ms) ns
last-of w [] ns = refl
last-of w (m ∷ ms) ns = last-of m.after ms ns

joined : (g : BenchSetting) (old mid new : World) (first rest ms : List Moment) → Leads g old first mid → Leads g mid rest new → ms ≡ first ++ rest → Leads g old ms new
joined g old mid new first rest ms h k e =
    let later : IsRun g (last old first) rest = subst (λ (w : World). IsRun g w rest) (sym h.end) k.run in
    let both : Leads g old (first ++ rest) new = record {
      run = runs-on g old first rest h.run later;
      end = last-of old first rest ∙ ap (λ (w : World). last w rest) h.end ∙ k.end;
    } in
    subst (λ (xs : List Moment). Leads g old xs new) (sym e) both

-- ---- a serial run is a run

tries-lead : (g : BenchSetting) (old : World) (caller : ℕ) (ss : List Step) (ms : List Moment) (new : World) → Tries g old caller ss ms new → Leads g old ms new
tries-lead g old caller ss ms new (made s f m h) = record { run = (h.steps, tt); end = refl }
tries-lead g old caller ss ms new (unrecorded s f n) = record { run = tt; end = refl }
tries-lead g old caller ss ms new (none f) = record { run = tt; end = refl }

unless-leads : (over : Bool) (g : BenchSetting) (old : World) (caller : ℕ) (ss : List Step) (ms : List Moment) (new : World) → TriesUnless over g old caller ss ms new → Leads g old ms new
unless-leads true g old caller ss ms new h = rests g old ms new h.0 h.1
unless-leads false g old caller ss ms new h = tries-lead g old caller ss ms new h

turns-lead : (g : BenchSetting) (count word : ℕ) (old : World) (callers : List ℕ) (ms : List Moment) (new : World) → Turns g count word old callers ms new → Leads g old ms new
turns-lead g count word old [] ms new h = rests g old ms new h.0 h.1
turns-lead g count word old (caller ∷ callers) ms new (first, rest, mid, tries, turns, e) =
    joined g old mid new first rest ms
    (unless-leads (is_over g count old) g old caller (tries_of old caller word) first mid tries)
    (turns-lead g (count + length first) word mid callers rest new turns) e

rounds-lead : (n : ℕ) (g : BenchSetting) (count x : ℕ) (old : World) (ms : List Moment) (new : World) → Rounds n g count x old ms new → Leads g old ms new
rounds-lead zero g count x old ms new h = rests g old ms new h.1 h.2
rounds-lead (suc n) g count x old ms new (over, (first, rest, mid, round, rounds, e)) =
    joined g old mid new first rest ms
    (turns-lead g count (eager (next_word x)) old (range_with_len 0 (length g.submitters + 3)) first mid round)
    (rounds-lead n g (count + length first) (next_word x) mid rest new rounds) e

pub serial_runs : (g : BenchSetting) (seed : ℕ) (opening : World) (ms : List Moment) → IsSerial g seed opening ms → IsRun g opening ms
serial_runs g seed opening ms (n, new, h) = (rounds-lead n g 0 seed opening ms new h).run

-- ---- a seed has one

abbrev AreOne : List Moment → World → List Moment → World → Type 0
AreOne ms new ns other = (ms ≡ ns) × (new ≡ other)

first-once : (g : BenchSetting) (w : World) (caller : ℕ) (ss : List Step) (a b : Option Step) → IsFirst g w caller ss a → IsFirst g w caller ss b → a ≡ b
first-once g w caller [] a b h k = h ∙ sym k
first-once g w caller (s ∷ ss) a b (inl h) (inl k) = h.1 ∙ sym k.1
first-once g w caller (s ∷ ss) a b (inl h) (inr k) = absurd (k.0 h.0)
first-once g w caller (s ∷ ss) a b (inr h) (inl k) = absurd (h.0 k.0)
first-once g w caller (s ∷ ss) a b (inr h) (inr k) = first-once g w caller ss a b h.1 k.1

one-step : (s t : Step) → Some s ≡ Some t → s ≡ t
one-step s t e = cc

no-step : {P : Type 0} (s : Step) → Some s ≡ None → P
no-step s e = absurd cc

made-as : (g : BenchSetting) (old : World) (caller : ℕ) (s t : Step) (m : Moment) → s ≡ t → IsMade g old caller s m → IsMade g old caller t m
made-as g old caller s t m e h = subst (λ (x : Step). IsMade g old caller x m) e h

made-once : (g : BenchSetting) (old : World) (caller : ℕ) (s : Step) (m n : Moment) → IsMade g old caller s m → IsMade g old caller s n → AreOne (m ∷ []) m.after (n ∷ []) n.after
made-once g old caller s m n h k =
    let e : entries (m ∷ []) ≡ entries (n ∷ []) = ap (λ (x : Entry). x ∷ []) (h.entry ∙ sym k.entry) in
    let same : m ∷ [] ≡ n ∷ [] = runs_once g old (m ∷ []) (n ∷ []) e (h.steps, tt) (k.steps, tt) in
    (same, ap (λ (ms : List Moment). last old ms) same)

tries-once : (g : BenchSetting) (old : World) (caller : ℕ) (ss : List Step) (ms ns : List Moment) (new other : World) → Tries g old caller ss ms new → Tries g old caller ss ns other → AreOne ms new ns other
tries-once g old caller ss ms ns new other (made s f m h) (made t k n i) =
    made-once g old caller t m n (made-as g old caller s t m (one-step s t (first-once g old caller ss (Some s) (Some t) f k)) h) i
tries-once g old caller ss ms ns new other (made s f m h) (unrecorded t k n) =
    absurd (n m (made-as g old caller s t m (one-step s t (first-once g old caller ss (Some s) (Some t) f k)) h))
tries-once g old caller ss ms ns new other (made s f m h) (none k) = no-step s (first-once g old caller ss (Some s) None f k)
tries-once g old caller ss ms ns new other (unrecorded s f n) (made t k m h) =
    absurd (n m (made-as g old caller t s m (one-step t s (first-once g old caller ss (Some t) (Some s) k f)) h))
tries-once g old caller ss ms ns new other (unrecorded s f n) (unrecorded t k p) = (refl, refl)
tries-once g old caller ss ms ns new other (unrecorded s f n) (none k) = (refl, refl)
tries-once g old caller ss ms ns new other (none f) (made t k m h) = no-step t (first-once g old caller ss (Some t) None k f)
tries-once g old caller ss ms ns new other (none f) (unrecorded t k n) = (refl, refl)
tries-once g old caller ss ms ns new other (none f) (none k) = (refl, refl)

unless-once : (over : Bool) (g : BenchSetting) (old : World) (caller : ℕ) (ss : List Step) (ms ns : List Moment) (new other : World) → TriesUnless over g old caller ss ms new → TriesUnless over g old caller ss ns other
    → AreOne ms new ns other
unless-once true g old caller ss ms ns new other h k = (h.0 ∙ sym k.0, h.1 ∙ sym k.1)
unless-once false g old caller ss ms ns new other h k = tries-once g old caller ss ms ns new other h k

abbrev joined-once : (ms ns first second rest later : List Moment) → ms ≡ first ++ rest → ns ≡ second ++ later → first ≡ second → rest ≡ later → ms ≡ ns
joined-once ms ns first second rest later e f a b = e ∙ ap (λ (xs : List Moment). xs ++ rest) a ∙ ap (λ (ys : List Moment). second ++ ys) b ∙ sym f

turns-once : (g : BenchSetting) (count word : ℕ) (old : World) (callers : List ℕ) (ms ns : List Moment) (new other : World) → Turns g count word old callers ms new → Turns g count word old callers ns other
    → AreOne ms new ns other
turns-once g count word old [] ms ns new other h k = (h.0 ∙ sym k.0, h.1 ∙ sym k.1)
turns-once g count word old (caller ∷ callers) ms ns new other (first, rest, mid, tries, turns, e) (second, later, middle, tries', turns', f) =
    let one : AreOne first mid second middle = unless-once (is_over g count old) g old caller (tries_of old caller word) first second mid middle tries tries' in
    let there : Turns g (count + length first) word mid callers later other =
    subst (λ (w : World). Turns g (count + length first) word w callers later other) (sym one.1) (subst (λ (xs : List Moment). Turns g (count + length xs) word middle callers later other) (sym one.0) turns') in
    let two : AreOne rest new later other = turns-once g (count + length first) word mid callers rest later new other turns there in
    (joined-once ms ns first second rest later e f one.0 two.0, two.1)

clash : {P : Type 0} (b : Bool) → b ≡ true → b ≡ false → P
clash b t f = let c : true ≡ false = sym t ∙ f in absurd cc

rounds-once : (n k : ℕ) (g : BenchSetting) (count x : ℕ) (old : World) (ms ns : List Moment) (new other : World) → Rounds n g count x old ms new → Rounds k g count x old ns other → AreOne ms new ns other
rounds-once zero zero g count x old ms ns new other h k = (h.1 ∙ sym k.1, h.2 ∙ sym k.2)
rounds-once zero (suc k) g count x old ms ns new other h i = clash (is_over g count old) h.0 i.0
rounds-once (suc n) zero g count x old ms ns new other h i = clash (is_over g count old) i.0 h.0
rounds-once (suc n) (suc k) g count x old ms ns new other (over, (first, rest, mid, round, rounds, e)) (over', (second, later, middle, round', rounds', f)) =
    let one : AreOne first mid second middle =
    turns-once g count (eager (next_word x)) old (range_with_len 0 (length g.submitters + 3)) first second mid middle round round' in
    let there : Rounds k g (count + length first) (next_word x) mid later other =
    subst (λ (w : World). Rounds k g (count + length first) (next_word x) w later other) (sym one.1) (subst (λ (xs : List Moment). Rounds k g (count + length xs) (next_word x) middle later other) (sym one.0) rounds') in
    let two : AreOne rest new later other = rounds-once n k g (count + length first) (next_word x) mid rest later new other rounds there in
    (joined-once ms ns first second rest later e f one.0 two.0, two.1)

pub serial_once : (g : BenchSetting) (seed : ℕ) (opening : World) (ms ns : List Moment) → IsSerial g seed opening ms → IsSerial g seed opening ns → ms ≡ ns
serial_once g seed opening ms ns (n, new, h) (k, other, i) = (rounds-once n k g 0 seed opening ms ns new other h i).0
