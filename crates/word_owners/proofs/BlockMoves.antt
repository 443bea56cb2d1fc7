-- What a block move comes to, for every answer of the bus: refused, broken off or whole; which bytes it changed, and who is connected then.
use Rattle.std.proofs.Common.{◌≡◌, ◌≢◌, ◌⊎◌, inl, inr, ℕ, pos, zero, suc, ◌+◌, ◌-◌, ◌%◌, ◌<◌, ◌≤◌, List, length, Bool, true, false, ◌&&◌, nat_eq, nat_le, MatchBool, refl, sym, ap, subst, ◌∙◌, arith, Option, Some, None, get_or, set, length-set, get_or-set_other}
use Rattle.std.specs.Prelude.{if◌then◌else◌, is_none}
use Rattle.std.proofs.lemmas.Bool.Decides.{nat_tests}
use Rattle.bench_words.specs.Memory.{word_at}
use Rattle.bench_words.specs.Bytes.{IsBytes}
use Rattle.bench_words.specs.Views.{Outside}
use Rattle.bench_words.proofs.Bytes.{bytes-set}
use Rattle.scsi_words.specs.Phases.{phase_code}
use Rattle.scsi_words.specs.declared.phases.kinds.Phase.{Phase as BusPhase}
use Rattle.rig_types.specs.declared.rig.Unit.{Unit as RigUnit}
use Rattle.chip_regs.specs.declared.registers.Regs.{Regs}
use Rattle.chip_regs.specs.declared.registers.Cause.{Cause}
use Rattle.chip_regs.specs.declared.registers.Cause.TheVariants.{Iid, Bf, Ma, Udc}
use Rattle.chip_step.specs.Event as event
use Rattle.chip_step.specs.Bytes.{TakesIn, GoesOut, Acked}
use Rattle.chip_step.specs.Chip.{Chip, Stops}
use Rattle.chip_step.specs.Addresses.{place_of}
use Rattle.chip_step.specs.Blocks.{Asks, BlockMoves, AsksAndMoves, MovesAt, Moves, Carries, MovesBy, MovesFrom, loaded, after_bytes, ReleasesAtn}
use Rattle.chip_step.specs.declared.outcome.StepEnd.{StepEnd}
use Rattle.chip_step.specs.declared.outcome.StepEnd.TheVariants.{Ran, Stopped}
use Rattle.target_law.specs.declared.nexus.Nexus.{Nexus}
use Rattle.bus_law.specs.Bus.{BusState}
use Rattle.bus_law.specs.Moves.{moves}
use Rattle.bus_law.proofs.Connections.{connects}
use Rattle.bus_law.proofs.BusLaws.{moves_lawfully}
use Rattle.world_law.specs.ChipSteps.{stop_for}
use Rattle.world_law.specs.declared.reply.Stop.TheVariants as stop

pub by_bool : (P Q C : Type 0) (b : Bool) → MatchBool b P Q → (b ≡ true → P → C) → (b ≡ false → Q → C) → C
by_bool P Q C true h f g = f refl h
by_bool P Q C false h f g = g refl h

-- ---- bytes of a range changed, and nothing else

pub record Filled (from to : ℕ) (old new : List ℕ) : Type 0 where
  pub size : length new ≡ length old
  pub bytes : IsBytes old → IsBytes new
  pub other : (i : ℕ) → (i < from) ⊎ (to ≤ i) → get_or new i 0 ≡ get_or old i 0

filled-same : (from to : ℕ) (old new : List ℕ) → new ≡ old → Filled from to old new
filled-same from to old new e = record { size = ap length e; bytes = λ h. subst IsBytes (sym e) h; other = λ i h. ap (λ (m : List ℕ). get_or m i 0) e }

beside : (a low high : ℕ) → Outside a low high → (a + 4 ≤ low) ⊎ (high ≤ a)
beside a low high h = grind arith

filled-beside : (from to a : ℕ) (old new : List ℕ) → Filled from to old new → (a + 4 ≤ from) ⊎ (to ≤ a) → word_at new a ≡ word_at old a
unfolding word_at
filled-beside from to a old new f h = rw (f.other a (grind arith), f.other (suc a) (grind arith), f.other (suc (suc a)) (grind arith), f.other (suc (suc (suc a))) (grind arith)) refl

-- words outside the range
pub filled-word : (from to a : ℕ) (old new : List ℕ) → Filled from to old new → Outside a from to → word_at new a ≡ word_at old a
filled-word from to a old new f h = filled-beside from to a old new f (beside a from to h)

-- ---- who is connected

-- the same target as before, or none
abbrev pub Still : BusState → BusState → Type 0
Still b b' = (b'.connected ≡ b.connected) ⊎ (b'.connected ≡ None)

still-same : (b b' : BusState) → b' ≡ b → Still b b'
still-same b b' e = inl (ap (λ (x : BusState). x.connected) e)

pub still-then : (a b c : BusState) → Still a b → Still b c → Still a c
still-then a b c (inl h) (inl k) = inl (k ∙ h)
still-then a b c (inr h) (inl k) = inr (k ∙ h)
still-then a b c h (inr k) = inr k

-- who is connected afterwards was so before
still-back : (a b : BusState) → Still a b → b.connected ≢ None → a.connected ≢ None
still-back a b (inl h) n e = n (h ∙ e)
still-back a b (inr h) n e = n h

somebody : (o : Option ℕ) → is_none o ≡ false → o ≢ None
somebody None h e = absurd cc
somebody (Some x) h e = absurd cc

-- ---- the move

-- A stop that asks for a reset, with memory as before; MA with so many bytes left; or all of them. Where a byte moved, somebody was connected.
pub data MovedSo (count a : ℕ) (old : Chip BusState) (end : StepEnd) (new : Chip BusState) : Type 0 where
  refused : (cause : Cause) → stop_for cause ≡ stop.MustReset → end ≡ Stopped cause → new.memory ≡ old.memory → MovedSo count a old end new
  broke : (left : ℕ) → 0 < left → left ≤ count → a + count ≤ length old.memory → Filled a (a + (count - left)) old.memory new.memory → end ≡ Stopped Ma → new.regs.dbc ≡ left → new.regs.dsp ≡ old.regs.dsp → new.regs.dsa ≡ old.regs.dsa → Still old.bus new.bus
      → (left < count → old.bus.connected ≢ None) → MovedSo count a old end new
  whole : a + count ≤ length old.memory → Filled a (a + count) old.memory new.memory → end ≡ Ran → new.regs.dsp ≡ old.regs.dsp → new.regs.dsa ≡ old.regs.dsa → Still old.bus new.bus → old.bus.connected ≢ None → MovedSo count a old end new

some_if : (p : ℕ) (b : Bool) → b ≡ true → (if b then Some p else None) ≡ Some p
some_if p true e = refl
some_if p false e = absurd cc

placed : (m : List ℕ) (dsa o e : ℕ) → dsa + o ≡ e → length m ≡ 0x400000 → e + 8 ≤ 0x400000 → place_of m dsa (pos o) 8 ≡ Some e
unfolding place_of
placed m dsa o e i s f = some_if (dsa + o) (nat_le (dsa + o + 8) (length m)) (grind (arith, nat_tests)) ∙ ap (λ (x : ℕ). Some x) i

record Took (n : ℕ) (m : List ℕ) (at : ℕ) (b : BusState) (left : ℕ) (m' : List ℕ) (b' : BusState) : Type 0 where
  most : left ≤ n
  filled : Filled at (at + (n - left)) m m'
  still : Still b b'

module _ (units : List RigUnit) (live : ℕ → Nexus → Option ℕ) where
  abbrev calls : BusState → event.Event → BusState → Type 0
  calls = moves units live

  acked-still : (yes : Bool) (b b' : BusState) → Acked calls yes b b' → Still b b'
  acked-still true b b' h = connects units live b event.ClearAck b' h
  acked-still false b b' h = still-same b b' h

  takes_in : (message later : Bool) (n : ℕ) (m : List ℕ) (at : ℕ) (b : BusState) (left : ℕ) (m' : List ℕ) (b' : BusState) → TakesIn calls message later n m at b left m' b' → Took n m at b left m' b'
  takes_in message later zero m at b left m' b' t = record { most = omega (arith, t.0); filled = filled-same at (at + (0 - left)) m m' t.1; still = still-same b b' t.2 }
  takes_in message later (suc n) m at b left m' b' t =
      let before : Still b t.0 = acked-still (message && later) b t.0 t.1 in
      elim t.2 [
        | inl e ↦ record {
          most = omega (arith, e.all_left);
          filled = filled-same at (at + (suc n - left)) m m' e.same;
          still = still-then b t.0 b' before (connects units live t.0 (event.ByteIn None) b' e.call);
        }
        | inr r ↦
            let rest : Took n (set m at r.0) (at + 1) r.1 left m' b' = takes_in message true n (set m at r.0) (at + 1) r.1 left m' b' r.3 in
            let l : left ≤ n = rest.most in
            let small : r.0 < 256 = (moves_lawfully units live t.0 (event.ByteIn (Some r.0)) r.1 r.2).0 in
            record {
              most = omega arith;
              filled = record {
                size = rest.filled.size ∙ length-set m at r.0;
                bytes = λ h. rest.filled.bytes (bytes-set m at r.0 h small);
                other = λ i o. let far : i ≢ at = omega arith in rest.filled.other i (grind arith) ∙ get_or-set_other m at i r.0 0 far;
              };
              still = still-then b r.1 b' (still-then b t.0 r.1 before (connects units live t.0 (event.ByteIn (Some r.0)) r.1 r.2)) rest.still;
            }
      ]

  goes_out : (n : ℕ) (m : List ℕ) (at : ℕ) (b : BusState) (left : ℕ) (b' : BusState) → GoesOut calls n m at b left b' → (left ≤ n) × Still b b'
  goes_out zero m at b left b' g = (omega (arith, g.0), still-same b b' g.1)
  goes_out (suc n) m at b left b' g = elim g [
    | inl x ↦ (omega (arith, x.1), connects units live b (event.ByteOut (get_or m at 0) false) b' x.0)
    | inr x ↦
        let rest : (left ≤ n) × Still x.0 b' = goes_out n m (at + 1) x.0 left b' x.2 in
        let l : left ≤ n = rest.0 in
        (omega arith, still-then b x.0 b' (connects units live b (event.ByteOut (get_or m at 0) true) x.0 x.1) rest.1)
  ]

  carries : (phase : ℕ) (old : Chip BusState) (left : ℕ) (memory : List ℕ) (bus : BusState) → Carries calls phase old left memory bus → Took old.regs.dbc old.memory old.regs.dnad old.bus left memory bus
  carries phase old left memory bus t =
      by_bool (TakesIn calls (nat_eq phase 7) false old.regs.dbc old.memory old.regs.dnad old.bus left memory bus) (GoesOut calls old.regs.dbc old.memory old.regs.dnad old.bus left bus × (memory ≡ old.memory))
      (Took old.regs.dbc old.memory old.regs.dnad old.bus left memory bus) (nat_eq (phase % 2) 1) t
      (λ e h. takes_in (nat_eq phase 7) false old.regs.dbc old.memory old.regs.dnad old.bus left memory bus h)
      (λ e h. let g = goes_out old.regs.dbc old.memory old.regs.dnad old.bus left bus h.0 in
      record { most = g.0; filled = filled-same old.regs.dnad (old.regs.dnad + (old.regs.dbc - left)) old.memory memory h.1; still = g.1 })

  atn-still : (b : Bool) (x y : BusState) → ReleasesAtn calls b x y → Still x y
  atn-still true x y h = connects units live x (event.SetAtn false) y h
  atn-still false x y h = still-same x y h

  moved : (phase : ℕ) (old : Chip BusState) (end : StepEnd) (new : Chip BusState) → old.regs.dnad + old.regs.dbc ≤ length old.memory → old.bus.connected ≢ None → Moves calls phase old end new → MovedSo old.regs.dbc old.regs.dnad old end new
  moved phase old end new fits there t =
      let k : Took old.regs.dbc old.memory old.regs.dnad old.bus t.left new.memory t.bus = carries phase old t.left new.memory t.bus t.carries in
      let r : Regs = after_bytes phase t.left new.memory old.regs in
      by_bool (ReleasesAtn calls (nat_eq phase 6) t.bus new.bus × (end ≡ Ran) × (new.regs ≡ r)) _ (MovedSo old.regs.dbc old.regs.dnad old end new) (nat_eq t.left 0) t.finishes
      (λ z h.
      let none : t.left ≡ 0 = grind (arith, nat_tests, z) in
      let all : old.regs.dbc - t.left ≡ old.regs.dbc = omega arith in
      whole fits (subst (λ (n : ℕ). Filled old.regs.dnad (old.regs.dnad + n) old.memory new.memory) all k.filled) h.1 (ap (λ (x : Regs). x.dsp) h.2) (ap (λ (x : Regs). x.dsa) h.2)
      (still-then old.bus t.bus new.bus k.still (atn-still (nat_eq phase 6) t.bus new.bus h.0)) there)
      (λ z h.
      let some : 0 < t.left = grind (arith, nat_tests, z) in
      broke t.left some k.most fits k.filled h.1 (ap (λ (x : Regs). x.dbc) h.2) (ap (λ (x : Regs). x.dsp) h.2) (ap (λ (x : Regs). x.dsa) h.2)
      (still-then old.bus t.bus new.bus k.still (still-same t.bus new.bus h.0)) (λ u. there))

  with_bus : (count a : ℕ) (old : Chip BusState) (bus : BusState) (end : StepEnd) (new : Chip BusState) → Still old.bus bus → MovedSo count a (record old { bus = bus }) end new → MovedSo count a old end new
  with_bus count a old bus end new s (refused c n e m) = refused c n e m
  with_bus count a old bus end new s (broke left o l i g e d p q k t) = broke left o l i g e d p q (still-then old.bus bus new.bus s k) (λ u. still-back old.bus bus s (t u))
  with_bus count a old bus end new s (whole i g e p q k t) = whole i g e p q (still-then old.bus bus new.bus s k) (still-back old.bus bus s t)

  stops : (c : Cause) (count a : ℕ) (old : Chip BusState) (end : StepEnd) (new : Chip BusState) → stop_for c ≡ stop.MustReset → Stops c old end new → MovedSo count a old end new
  stops c count a old end new n s = refused c n s.ends.is s.ends.memory_is

  stops_ma : (old : Chip BusState) (end : StepEnd) (new : Chip BusState) → 0 < old.regs.dbc → old.regs.dnad + old.regs.dbc ≤ length old.memory → Stops Ma old end new → MovedSo old.regs.dbc old.regs.dnad old end new
  stops_ma old end new some fits s =
      broke old.regs.dbc some (omega arith) fits (filled-same old.regs.dnad (old.regs.dnad + (old.regs.dbc - old.regs.dbc)) old.memory new.memory s.ends.memory_is) s.ends.is (ap (λ (x : Regs). x.dbc) s.ends.regs_are) (ap (λ (x : Regs). x.dsp) s.ends.regs_are)
      (ap (λ (x : Regs). x.dsa) s.ends.regs_are) (still-same old.bus new.bus s.bus_is) (λ u. absurd (omega arith))

  moves_at : (word : ℕ) (shown : Option BusPhase) (phase : ℕ) (old : Chip BusState) (bus : BusState) (end : StepEnd) (new : Chip BusState) → 0 < old.regs.dbc → old.regs.dnad + old.regs.dbc ≤ length old.memory → Asks calls word shown old.bus bus
      → MovesAt calls word shown phase old bus end new → MovedSo old.regs.dbc old.regs.dnad old end new
  moves_at word None phase old bus end new some fits q h = refused Udc refl h.ends.is h.ends.memory_is
  moves_at word (Some p) phase old bus end new some fits q h =
      let s : Still old.bus bus = still-then old.bus q.mid bus (connects units live old.bus event.ClearAck q.mid q.acked) (connects units live q.mid (event.Phase word (Some p)) bus q.asked) in
      let there : bus.connected ≢ None = somebody bus.connected (moves_lawfully units live q.mid (event.Phase word (Some p)) bus q.asked) in
      with_bus old.regs.dbc old.regs.dnad old bus end new s
      (by_bool (Moves calls phase (record old { bus = bus }) end new) (Stops Ma (record old { bus = bus }) end new) (MovedSo old.regs.dbc old.regs.dnad (record old { bus = bus }) end new) (nat_eq (phase_code p) phase) h
      (λ z k. moved phase (record old { bus = bus }) end new fits there k)
      (λ z k. stops_ma (record old { bus = bus }) end new some fits k))

  block_moves : (word phase : ℕ) (old : Chip BusState) (end : StepEnd) (new : Chip BusState) → BlockMoves calls word phase old end new → MovedSo old.regs.dbc old.regs.dnad old end new
  block_moves word phase old end new h =
      by_bool (Stops Iid old end new) (MatchBool (nat_le (old.regs.dnad + old.regs.dbc) (length old.memory)) (AsksAndMoves calls word phase old end new) (Stops Bf old end new)) (MovedSo old.regs.dbc old.regs.dnad old end new) (nat_eq old.regs.dbc 0) h
      (λ z k. stops Iid old.regs.dbc old.regs.dnad old end new refl k)
      (λ z k.
      let some : 0 < old.regs.dbc = grind (arith, nat_tests, z) in
      by_bool (AsksAndMoves calls word phase old end new) (Stops Bf old end new) (MovedSo old.regs.dbc old.regs.dnad old end new) (nat_le (old.regs.dnad + old.regs.dbc) (length old.memory)) k
      (λ y a. let fits : old.regs.dnad + old.regs.dbc ≤ length old.memory = grind (arith, nat_tests, y) in moves_at word a.shown phase old a.bus end new some fits a.asks a.moved)
      (λ y a. stops Bf old.regs.dbc old.regs.dnad old end new refl a))

  unloaded : (count a : ℕ) (old : Chip BusState) (end : StepEnd) (new : Chip BusState) → MovedSo count a (loaded count a old) end new → MovedSo count a old end new
  unloaded count a old end new (refused c n e m) = refused c n e m
  unloaded count a old end new (broke left o l i g e d p q k t) = broke left o l i g e d p q k t
  unloaded count a old end new (whole i g e p q k t) = whole i g e p q k t

  -- MOVE count, a, WHEN phase
  pub moves_direct : (word count a phase : ℕ) (old : Chip BusState) (end : StepEnd) (new : Chip BusState) → BlockMoves calls word phase (loaded count a old) end new → MovedSo count a old end new
  moves_direct word count a phase old end new h = unloaded count a old end new (block_moves word phase (loaded count a old) end new h)

  moves_by : (word : ℕ) (o : Option ℕ) (e count a phase : ℕ) (old : Chip BusState) (end : StepEnd) (new : Chip BusState) → o ≡ Some e → word_at old.memory e % 16777216 ≡ count → word_at old.memory (e + 4) ≡ a → MovesBy calls word o phase old end new → MovedSo count a old end new
  moves_by word None e count a phase old end new q c x h = absurd cc
  moves_by word (Some b) e count a phase old end new q c x h =
      let s : b ≡ e = cc in
      subst (λ (n : ℕ). MovedSo n a old end new) c (subst (λ (n : ℕ). MovedSo (word_at old.memory e % 16777216) n old end new) x
      (moves_direct word (word_at old.memory e % 16777216) (word_at old.memory (e + 4)) phase old end new (subst (λ (n : ℕ). BlockMoves calls word phase (loaded (word_at old.memory n % 16777216) (word_at old.memory (n + 4)) old) end new) s h)))

  -- MOVE FROM o, WHEN phase: the entry lies in memory
  pub moves_from : (word o e count a phase : ℕ) (old : Chip BusState) (end : StepEnd) (new : Chip BusState) → old.regs.dsa + o ≡ e → length old.memory ≡ 0x400000 → e + 8 ≤ 0x400000 → word_at old.memory e % 16777216 ≡ count → word_at old.memory (e + 4) ≡ a
      → MovesFrom calls word (pos o) phase old end new → MovedSo count a old end new
  moves_from word o e count a phase old end new i s f c x h = moves_by word (place_of old.memory old.regs.dsa (pos o) 8) e count a phase old end new (placed old.memory old.regs.dsa o e i s f) c x h
