-- Turns one behind the other are a round, and rounds one behind the other the serial run.
use Rattle.std.proofs.Common.{arith, ◌≡◌, ℕ, zero, suc, ◌+◌, ◌-◌, ◌<◌, true, false, List, [], ◌∷◌, ◌++◌, length, refl, sym, ap, subst, ◌∙◌, append-nil, append_assoc, length-append}
use Rattle.std.specs.List.{range_with_len}
use Rattle.rig_types.specs.declared.step.Entry.{Entry}
use Rattle.world_law.specs.World.{BenchSetting, World}
use Rattle.world_law.specs.Opening.{opened}
use Rattle.world_law.specs.Runs.{Moment, last, entries}
use Rattle.run_law.specs.Serial.{next_word, eager, tries_of, is_over, TriesUnless, Turns, Round, Rounds, IsSerial}
use Rattle.world_law.proofs.OneRun.{runs_once}
use Rattle.run_law.proofs.SerialRuns.{serial_runs}
use Rattle.bench_core.specs.Histories.{History, IsReplayed}
use Rattle.serial_run.specs.Histories.{IsSerialHistory, IsTurn, IsRound}

-- ---- entries of runs one behind the other

entries-of : (ms ns : List Moment) → entries (ms ++ ns) ≡ entries ms ++ entries ns
entries-of [] ns = refl
entries-of (m ∷ ms) ns = ap (λ (es : List Entry). m.entry ∷ es) (entries-of ms ns)

count-of : (ms : List Moment) → length (entries ms) ≡ length ms
count-of [] = refl
count-of (m ∷ ms) = ap suc (count-of ms)

joined : (es mid later : List Entry) (ms ns : List Moment) → mid ≡ es ++ entries ms → later ≡ mid ++ entries ns → later ≡ es ++ entries (ms ++ ns)
joined es mid later ms ns e f =
    f ∙ ap (λ (xs : List Entry). xs ++ entries ns) e ∙ append_assoc es (entries ms) (entries ns) ∙ ap (λ (xs : List Entry). es ++ xs) (sym (entries-of ms ns))

counted : (es later : List Entry) (ms : List Moment) → later ≡ es ++ entries ms → length es + length ms ≡ length later
counted es later ms e = omega (arith, ap (λ (xs : List Entry). length xs) e, length-append es (entries ms), count-of ms)

-- ---- turns of a round

-- the callers before this one have had their turns, and those from it on complete the round
pub record IsWithinRound (word : ℕ) (first : History) (caller : ℕ) (now : History) : Type 0 where
  pub setting : now.setting ≡ first.setting
  pub left : ℕ
  pub all : caller + left ≡ length first.setting.submitters + 3
  pub moments : List Moment
  pub entries : now.entries ≡ first.entries ++ entries moments
  pub goes_on : (rest : List Moment) (new : World) → Turns first.setting (length now.entries) word now.world (range_with_len caller left) rest new
      → Round first.setting (length first.entries) word first.world (moments ++ rest) new

pub round_begins : (word : ℕ) (first : History) → IsWithinRound word first 0 first
round_begins word first = record {
  setting = refl;
  left = length first.setting.submitters + 3;
  all = omega arith;
  moments = [];
  entries = sym (append-nil first.entries);
  goes_on = λ rest new t. t;
}

-- the turn, in the setting of the round's beginning
at-first : (g : BenchSetting) (caller word : ℕ) (old new : History) (t : IsTurn caller word old new) → old.setting ≡ g
    → TriesUnless (is_over g (length old.entries) old.world) g old.world caller (tries_of old.world caller word) t.moments new.world
at-first g caller word old new t e =
    subst (λ (x : BenchSetting). TriesUnless (is_over x (length old.entries) old.world) x old.world caller (tries_of old.world caller word) t.moments new.world) e t.tries

one-less : (n caller total : ℕ) → caller + n ≡ total → caller < total → (k : ℕ) × (n ≡ suc k)
one-less zero caller total e l = absurd (omega (arith, e, l))
one-less (suc k) caller total e l = (k, refl)

pub round_goes_on : (word : ℕ) (first : History) (caller : ℕ) (now new : History) → caller < length first.setting.submitters + 3 → IsWithinRound word first caller now
    → IsTurn caller word now new → IsWithinRound word first (caller + 1) new
round_goes_on word first caller now new l h t =
    let s : (k : ℕ) × (h.left ≡ suc k) = one-less h.left caller (length first.setting.submitters + 3) h.all l in
    record {
      setting = t.setting ∙ h.setting;
      left = s.0;
      all = omega (arith, h.all, s.1);
      moments = h.moments ++ t.moments;
      entries = joined first.entries now.entries new.entries h.moments t.moments h.entries t.entries;
      goes_on = λ rest last more. going (s.0) (s.1) rest last more;
    }
  where
    going : (k : ℕ) → h.left ≡ suc k → (rest : List Moment) (last : World)
        → Turns first.setting (length new.entries) word new.world (range_with_len (caller + 1) k) rest last
        → Round first.setting (length first.entries) word first.world ((h.moments ++ t.moments) ++ rest) last
    going k e rest last more =
        let more' : Turns first.setting (length now.entries + length t.moments) word new.world (range_with_len (caller + 1) k) rest last =
        subst (λ (n : ℕ). Turns first.setting n word new.world (range_with_len (caller + 1) k) rest last) (sym (counted now.entries new.entries t.moments t.entries)) more in
        let whole : Turns first.setting (length now.entries) word now.world (range_with_len caller (suc k)) (t.moments ++ rest) last =
        (t.moments, rest, new.world, at-first first.setting caller word now new t h.setting, more', refl) in
        let at : Turns first.setting (length now.entries) word now.world (range_with_len caller h.left) (t.moments ++ rest) last =
        subst (λ (n : ℕ). Turns first.setting (length now.entries) word now.world (range_with_len caller n) (t.moments ++ rest) last) (sym e) whole in
        subst (λ (ms : List Moment). Round first.setting (length first.entries) word first.world ms last) (sym (append_assoc h.moments t.moments rest)) (h.goes_on (t.moments ++ rest) last at)

pub round_ends : (word : ℕ) (first : History) (caller : ℕ) (now : History) → caller ≡ length first.setting.submitters + 3 → IsWithinRound word first caller now
    → IsRound word first now
round_ends word first caller now e h =
    let none : h.left ≡ 0 = omega (arith, h.all, e) in
    let at : Turns first.setting (length now.entries) word now.world (range_with_len caller h.left) [] now.world =
    subst (λ (n : ℕ). Turns first.setting (length now.entries) word now.world (range_with_len caller n) [] now.world) (sym none) (refl, refl) in
    record {
      setting = h.setting;
      moments = h.moments;
      round = subst (λ (ms : List Moment). Round first.setting (length first.entries) word first.world ms now.world) (append-nil h.moments) (h.goes_on [] now.world at);
      entries = h.entries;
    }

-- ---- rounds of a run

-- so far the list is that of some rounds, and those from here on complete the serial run
pub record IsUnderWay (g : BenchSetting) (seed x : ℕ) (now : History) : Type 0 where
  pub setting : now.setting ≡ g
  pub moments : List Moment
  pub entries : entries moments ≡ now.entries
  pub goes_on : (n : ℕ) (rest : List Moment) (new : World) → Rounds n g (length now.entries) x now.world rest new
      → (k : ℕ) × Rounds k g 0 seed (opened g) (moments ++ rest) new

no-moments : (ms : List Moment) → entries ms ≡ [] → ms ≡ []
no-moments [] e = refl
no-moments (m ∷ ms) e = absurd cc

pub run_begins : (seed : ℕ) (h : History) → h.entries ≡ [] → IsReplayed h.setting h.entries h.world → IsUnderWay h.setting seed seed h
run_begins seed h e r =
    let none : r.moments ≡ [] = no-moments r.moments (r.are ∙ e) in
    let w : opened h.setting ≡ h.world = ap (λ (ms : List Moment). last (opened h.setting) ms) (sym none) ∙ r.world in
    record {
      setting = refl;
      moments = [];
      entries = sym e;
      goes_on = λ n rest new more. (n, subst (λ (v : World). Rounds n h.setting 0 seed v rest new) (sym w) (subst (λ (es : List Entry). Rounds n h.setting (length es) seed h.world rest new) e more));
    }

-- the round, in the setting of the run
round-at : (g : BenchSetting) (word : ℕ) (old new : History) (r : IsRound word old new) → old.setting ≡ g
    → Round g (length old.entries) word old.world r.moments new.world
round-at g word old new r e = subst (λ (x : BenchSetting). Round x (length old.entries) word old.world r.moments new.world) e r.round

pub run_goes_on : (g : BenchSetting) (seed x : ℕ) (old new : History) → is_over old.setting (length old.entries) old.world ≡ false → IsUnderWay g seed x old
    → IsRound (eager (next_word x)) old new → IsUnderWay g seed (next_word x) new
run_goes_on g seed x old new over h r = record {
  setting = r.setting ∙ h.setting;
  moments = h.moments ++ r.moments;
  entries = entries-of h.moments r.moments ∙ ap (λ (es : List Entry). es ++ entries r.moments) h.entries ∙ sym r.entries;
  goes_on = going;
}
  where
    going : (n : ℕ) (rest : List Moment) (last : World) → Rounds n g (length new.entries) (next_word x) new.world rest last
        → (k : ℕ) × Rounds k g 0 seed (opened g) ((h.moments ++ r.moments) ++ rest) last
    going n rest last more =
        let more' : Rounds n g (length old.entries + length r.moments) (next_word x) new.world rest last =
        subst (λ (c : ℕ). Rounds n g c (next_word x) new.world rest last) (sym (counted old.entries new.entries r.moments r.entries)) more in
        let open' : is_over g (length old.entries) old.world ≡ false = subst (λ (y : BenchSetting). is_over y (length old.entries) old.world ≡ false) h.setting over in
        let whole : Rounds (suc n) g (length old.entries) x old.world (r.moments ++ rest) last =
        (open', (r.moments, rest, new.world, round-at g (eager (next_word x)) old new r h.setting, more', refl)) in
        let k : (k : ℕ) × Rounds k g 0 seed (opened g) (h.moments ++ (r.moments ++ rest)) last = h.goes_on (suc n) (r.moments ++ rest) last whole in
        (k.0, subst (λ (ms : List Moment). Rounds k.0 g 0 seed (opened g) ms last) (sym (append_assoc h.moments r.moments rest)) k.1)

pub run_ends : (g : BenchSetting) (seed x : ℕ) (now : History) → is_over now.setting (length now.entries) now.world ≡ true → IsUnderWay g seed x now
    → IsReplayed now.setting now.entries now.world → IsSerialHistory g seed now
run_ends g seed x now over h r =
    let over' : is_over g (length now.entries) now.world ≡ true = subst (λ (y : BenchSetting). is_over y (length now.entries) now.world ≡ true) h.setting over in
    let k : (k : ℕ) × Rounds k g 0 seed (opened g) (h.moments ++ []) now.world = h.goes_on 0 [] now.world (over', refl, refl) in
    let serial : IsSerial g seed (opened g) h.moments =
    (k.0, now.world, subst (λ (ms : List Moment). Rounds k.0 g 0 seed (opened g) ms now.world) (append-nil h.moments) k.1) in
    let lawful : IsReplayed g now.entries now.world = subst (λ (y : BenchSetting). IsReplayed y now.entries now.world) h.setting r in
    let same : h.moments ≡ lawful.moments =
    runs_once g (opened g) h.moments lawful.moments (h.entries ∙ sym lawful.are) (serial_runs g seed (opened g) h.moments serial) lawful.run in
    record {
      setting = h.setting;
      moments = h.moments;
      serial = serial;
      entries = h.entries;
      world = ap (λ (ms : List Moment). last (opened g) ms) same ∙ lawful.world;
    }
