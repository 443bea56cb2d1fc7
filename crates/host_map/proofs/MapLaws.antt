-- Places lie in their regions, and words of two regions share no byte.
use Rattle.std.proofs.Common.{◌≡◌, ◌≢◌, ℕ, zero, suc, ◌+◌, ◌-◌, ◌<◌, ◌≤◌, ◌⊎◌, inl, inr, List, [], ◌∷◌, get_or, refl, sym, ap, ◌∙◌, arith, lit<, lit≤}
use Rattle.std.proofs.lemmas.Bool.{cases_order}
use Rattle.bench_words.specs.Views.{Apart}
use Rattle.host_map.specs.Map.{IsMap}
use Rattle.host_map.specs.Laws.{LieInRegions, RegionsApart, PlacesApart, NumbersBlocks, PlacesFit}
use Rattle.host_map.specs.Places.{tag_entry, IsCommandBlock, IsBlockPlace}
use Rattle.host_map.specs.Regions.{Region, Script, Control, FixedBlocks, StartRing, DoneRing, TagTables, Chains, CommandBlocks, Buffers, first, behind, IsWordOf}

-- the constants of the code are those of the map
pub is_map : IsMap
is_map =
    record {
      memory = (refl, refl);
      script = refl;
      front = refl;
      ringp = refl;
      donep = refl;
      cur = refl;
      msgin = refl;
      abort_tag = refl;
      over = refl;
      states = (refl, refl, refl);
      gates = (refl, refl);
      front_idle_address = refl;
      fixed_blocks = (refl, refl, refl, refl);
      rings = (refl, refl, refl);
      tag_tables = refl;
      chains = refl;
      blocks = (refl, refl, refl);
      buffers = (refl, refl, refl);
    }

-- ---- regions

-- the regions in the order of their addresses
abbrev pub number : Region → ℕ
number Script = 0
number Control = 1
number FixedBlocks = 2
number StartRing = 3
number DoneRing = 4
number TagTables = 5
number Chains = 6
number CommandBlocks = 7
number Buffers = 8

-- where the region of each number begins, and the end of memory
abbrev begins : List ℕ
begins = 0 ∷ 0x1000 ∷ 0x1200 ∷ 0x2000 ∷ 0x3000 ∷ 0x4000 ∷ 0x8000 ∷ 0x10000 ∷ 0x200000 ∷ 0x400000 ∷ []

abbrev begin : ℕ → ℕ
begin n = get_or begins n 0

first_is : (r : Region) → first r ≡ begin (number r)
first_is Script = refl
first_is Control = refl
first_is FixedBlocks = refl
first_is StartRing = refl
first_is DoneRing = refl
first_is TagTables = refl
first_is Chains = refl
first_is CommandBlocks = refl
first_is Buffers = refl

behind_by : (r : Region) → behind r ≤ begin (suc (number r))
behind_by Script = lit≤ tt
behind_by Control = lit≤ tt
behind_by FixedBlocks = lit≤ tt
behind_by StartRing = lit≤ tt
behind_by DoneRing = lit≤ tt
behind_by TagTables = lit≤ tt
behind_by Chains = lit≤ tt
behind_by CommandBlocks = lit≤ tt
behind_by Buffers = lit≤ tt

number_most : (r : Region) → number r < 9
number_most Script = lit< tt
number_most Control = lit< tt
number_most FixedBlocks = lit< tt
number_most StartRing = lit< tt
number_most DoneRing = lit< tt
number_most TagTables = lit< tt
number_most Chains = lit< tt
number_most CommandBlocks = lit< tt
number_most Buffers = lit< tt

rises : (n : ℕ) → n < 9 → begin n ≤ begin (suc n)
rises zero h = lit≤ tt
rises (suc zero) h = lit≤ tt
rises (suc (suc zero)) h = lit≤ tt
rises (suc (suc (suc zero))) h = lit≤ tt
rises (suc (suc (suc (suc zero)))) h = lit≤ tt
rises (suc (suc (suc (suc (suc zero))))) h = lit≤ tt
rises (suc (suc (suc (suc (suc (suc zero)))))) h = lit≤ tt
rises (suc (suc (suc (suc (suc (suc (suc zero))))))) h = lit≤ tt
rises (suc (suc (suc (suc (suc (suc (suc (suc zero)))))))) h = lit≤ tt
rises (suc (suc (suc (suc (suc (suc (suc (suc (suc n))))))))) h = absurd (omega arith)

rises_on : (k m : ℕ) → m + k < 10 → begin m ≤ begin (m + k)
rises_on zero m h = let e : m + 0 ≡ m = omega arith in rw e (omega arith)
rises_on (suc k) m h =
    let e : m + suc k ≡ suc (m + k) = omega arith in
    let here : begin (m + k) ≤ begin (suc (m + k)) = rises (m + k) (omega arith) in
    let so_far : begin m ≤ begin (m + k) = rises_on k m (omega arith) in
    rw e (omega arith)

-- the later of two regions begins behind the other
pub before : (r s : Region) → number r < number s → behind r ≤ first s
before r s h =
    let e : suc (number r) + (number s - suc (number r)) ≡ number s = omega arith in
    let up : begin (suc (number r)) ≤ begin (number s) =
    rw e at (rises_on (number s - suc (number r)) (suc (number r)) (omega (arith, number_most s))) in
    rw (first_is s) (omega (arith, behind_by r))

abbrev region_of_number : ℕ → Region
region_of_number zero = Script
region_of_number (suc zero) = Control
region_of_number (suc (suc zero)) = FixedBlocks
region_of_number (suc (suc (suc zero))) = StartRing
region_of_number (suc (suc (suc (suc zero)))) = DoneRing
region_of_number (suc (suc (suc (suc (suc zero))))) = TagTables
region_of_number (suc (suc (suc (suc (suc (suc zero)))))) = Chains
region_of_number (suc (suc (suc (suc (suc (suc (suc zero))))))) = CommandBlocks
region_of_number n = Buffers

again : (r : Region) → region_of_number (number r) ≡ r
again Script = refl
again Control = refl
again FixedBlocks = refl
again StartRing = refl
again DoneRing = refl
again TagTables = refl
again Chains = refl
again CommandBlocks = refl
again Buffers = refl

pub same_number : (r s : Region) → number r ≡ number s → r ≡ s
same_number r s e = sym (again r) ∙ (ap region_of_number e ∙ again s)

apart_by : (r s : Region) (a b : ℕ) → (number r ≡ number s) ⊎ ((number r < number s) ⊎ (number s < number r)) → r ≢ s → IsWordOf r a → IsWordOf s b → Apart a b
apart_by r s a b (inl e) n wa wb = absurd (n (same_number r s e))
apart_by r s a b (inr (inl h)) n wa wb = omega (arith, before r s h, wa.to, wb.from)
apart_by r s a b (inr (inr h)) n wa wb = omega (arith, before s r h, wb.to, wa.from)

-- words of two regions share no byte
pub regions_apart : RegionsApart
regions_apart r s a b n wa wb = apart_by r s a b (cases_order (number r) (number s)) n wa wb

-- ---- places

pub place_of_command : (a : ℕ) → IsCommandBlock a → IsBlockPlace a
place_of_command a h = record { from = omega (arith, h.from); gap = inr h.from; below = h.below; aligned = h.aligned }

pub numbers_blocks : NumbersBlocks
numbers_blocks =
    record {
      is_block = λ b h. record { from = omega arith; below = omega arith; aligned = omega arith };
      is_place = place_of_command;
      number = λ b. omega arith;
      address = λ a h. omega (arith, h.from, h.aligned);
    }

pub places_fit : PlacesFit
places_fit a h = (omega (arith, h.below), omega (arith, h.aligned))

-- the words of places lie in their regions
pub lie_in_regions : LieInRegions
lie_in_regions =
    record {
      fixed_block = λ a i h low k. record { from = omega (arith, h.from); to = omega arith };
      command_block = λ a i h k. record { from = omega (arith, h.from); to = omega (arith, h.below, h.aligned) };
      start_slot = λ n i k. record { from = omega arith; to = omega arith };
      done_slot = λ n i k. record { from = omega arith; to = omega arith };
      tag_entry = λ u g h k. record { from = omega arith; to = omega arith };
      target_chain = λ t i h k. record { from = omega arith; to = omega arith };
      unit_chain = λ u i h k. record { from = omega arith; to = omega arith };
      chunk = λ c i h k. record { from = omega arith; to = omega arith };
    }

-- and share no byte
pub tag_entries_apart : (u v g k : ℕ) → g < 256 → k < 256 → g ≢ k → Apart (tag_entry u g) (tag_entry v k)
tag_entries_apart u v g k hg hk n = omega arith

pub units_apart : (u v g k : ℕ) → g < 256 → k < 256 → u ≢ v → Apart (tag_entry u g) (tag_entry v k)
units_apart u v g k hg hk n = omega arith

entries_apart : (u v g k : ℕ) → g < 256 → k < 256 → (u ≢ v) ⊎ (g ≢ k) → Apart (tag_entry u g) (tag_entry v k)
entries_apart u v g k hg hk (inl n) = units_apart u v g k hg hk n
entries_apart u v g k hg hk (inr n) = tag_entries_apart u v g k hg hk n

pub places_apart : PlacesApart
places_apart =
    record {
      blocks = λ a b i j ha hb n hi hj. omega (arith, ha.aligned, hb.aligned);
      start_slots = λ n m i j l u hi hj. omega arith;
      done_slots = λ n m i j l u hi hj. omega arith;
      tag_entries = entries_apart;
      target_chains = λ s t i j n hi hj. omega arith;
      unit_chains = λ u v i j n hi hj. omega arith;
      chunks = λ c d i j n hi hj. omega arith;
    }
