-- What memory says at the opening, and that writing the table into empty memory makes it.
use Rattle.std.proofs.Common.{◌≡◌, ◌++◌, ℕ, zero, suc, ◌+◌, ◌-◌, ◌*◌, ◌/◌, ◌%◌, ◌<◌, ◌≤◌, List, length, replicate, flat_map, fold, refl, sym, ap, ◌∙◌, arith, lit≤}
use Rattle.std.specs.Prelude.{slice_index}
use Rattle.std.specs.List.{range_with_len}
use Rattle.std.proofs.lemmas.List.{length-replicate}
use Rattle.bench_words.specs.Memory.{word_at, put_word, IsZero}
use Rattle.host_map.specs.declared.TheConstants.{IDLE, NOTASK, START_RING, DONE_RING, CHAINS}
use Rattle.host_map.specs.Places.{start_slot, done_slot, tag_entry, target_chain, unit_chain, table_at}
use Rattle.driver_script.specs.Script.{image, laid, IsLoaded}
use Rattle.driver_script.proofs.ScriptLaws.{laid-zero, laid-more}
use Rattle.job_rings.specs.Rings.{next_slot}
use Rattle.job_rings.proofs.RingLaws.{counts_start_slots, counts_done_slots}
use Rattle.rig_types.specs.declared.rig.Unit.{Unit as RigUnit}
use Rattle.rig_chains.specs.Chains.{targets, target_ops, lun_ops, unit_ops, with_target, with_unit, with_chains, IsLaid}
use Rattle.rig_chains.proofs.LaidLaws.{chains_laid, laid_kept}
use Rattle.opening_memory.specs.Tables.{value_at, written, spread, spelled}
use Rattle.opening_memory.specs.Opening.{script_table, control_table, fixed_table, ring_table, tag_table, target_table, unit_table, chain_table, opening_table, IsOpening}
use Rattle.opening_memory.specs.Laws.{HasConstants, HasFixedBlocks, IsEmptyRing, IsOpened, SaysNames, IsWritten, Exists, WritesParts}
use Rattle.opening_memory.proofs.TableLaws.{value-append, value-twice, length-written, word-written, written-append, written-flat, written-spelled, last-word, spread-none, spread-next, spread-at, spread-off}
use Rattle.opening_memory.proofs.Pieces.{lie_chains, lie_opening, in_script, in_control, in_fixed, in_start, in_done, in_tags, in_chains, in_rest}

-- ---- what the calls write

script_to : (m : List ℕ) (version n : ℕ) → laid m version n ≡ written m (spread 0 4 (λ k. image k version) n)
script_to m version zero = laid-zero m version ∙ sym (spread-none m 0 4 (λ k. image k version))
script_to m version (suc n) =
    let e : suc n ≡ n + 1 = omega arith in
    let place : 4 * n ≡ 0 + 4 * n = omega arith in
    let before = written m (spread 0 4 (λ k. image k version) n) in
    rw e (
    laid-more m version n
    ∙ ap (λ (l : List ℕ). put_word l (4 * n) (image n version)) (script_to m version n)
    ∙ ap (λ (a : ℕ). put_word before a (image n version)) place
    ∙ spread-next m 0 4 (λ k. image k version) n
    )

unit_written : (m : List ℕ) (u : ℕ) → written m (unit_table u) ≡ with_unit m u
unit_written m u =
    last-word m (spelled (unit_chain u) (unit_ops u)) (unit_chain u + 0x10) (table_at u 0)
    ∙ ap (λ (n : List ℕ). put_word n (unit_chain u + 0x10) (table_at u 0)) (written-spelled m (unit_chain u) (unit_ops u))

chains_written : (m : List ℕ) (us : List RigUnit) → written m (chain_table us) ≡ with_chains m us
unfolding with_chains
chains_written m us =
    let luns = flat_map (target_table us) (targets us) in
    let units = flat_map unit_table (range_with_len 0 (length us)) in
    let first = written m (spelled CHAINS (target_ops us)) in
    written-append m (spelled CHAINS (target_ops us)) (luns ++ units)
    ∙ written-append first luns units
    ∙ written-flat unit_table with_unit unit_written (written first luns) (range_with_len 0 (length us))
    ∙ ap (λ (n : List ℕ). fold with_unit n (range_with_len 0 (length us)))
    (written-flat (target_table us) (with_target us) (λ n t. written-spelled n (target_chain t) (lun_ops us t)) first (targets us)
    ∙ ap (λ (n : List ℕ). fold (with_target us) n (targets us)) (written-spelled m CHAINS (target_ops us)))

pub writes_parts : WritesParts
writes_parts =
    record {
      script = λ m version. script_to m version 302;
      chains = λ m us. sym (chains_written m us);
      next = written-append;
    }

-- the parts one after another are the whole table
pub all_parts : (m : List ℕ) (version : ℕ) (us : List RigUnit) → with_chains (written (written (written (written (written (laid m version 302) control_table) fixed_table) (ring_table START_RING)) (ring_table DONE_RING)) tag_table) us ≡ written m (opening_table version us)
all_parts m version us =
    let script = laid m version 302 in
    let chains = chain_table us in
    let tags = tag_table ++ chains in
    let done = ring_table DONE_RING ++ tags in
    let start = ring_table START_RING ++ done in
    let fixed = fixed_table ++ start in
    let c = written script control_table in
    let f = written c fixed_table in
    let s = written f (ring_table START_RING) in
    let d = written s (ring_table DONE_RING) in
    sym (
    written-append m (script_table version) (control_table ++ fixed)
    ∙ ap (λ (n : List ℕ). written n (control_table ++ fixed)) (sym (script_to m version 302))
    ∙ written-append script control_table fixed
    ∙ written-append c fixed_table start
    ∙ written-append f (ring_table START_RING) done
    ∙ written-append s (ring_table DONE_RING) tags
    ∙ written-append d tag_table chains
    ∙ chains_written (written d tag_table) us
    )

-- ---- the words by their names

script_word : (version n : ℕ) → n < 302 → value_at (script_table version) (4 * n) 0 ≡ image n version
script_word version n h =
    let e : 0 + 4 * n ≡ 4 * n = omega arith in
    rw e at (spread-at 0 4 (λ k. image k version) 302 n 0 (λ i j d. omega arith) h)

ring_idle : (ring k : ℕ) → k < 512 → value_at (ring_table ring) (ring + 8 * k) 0 ≡ IDLE
ring_idle ring k h =
    let x = ring + 8 * k in
    let blocks = spread ring 8 (λ n. IDLE) 512 in
    let link = λ (n : ℕ). next_slot ring (ring + 8 * n) in
    value-append blocks (spread (ring + 4) 8 link 512) x 0
    ∙ spread-off (ring + 4) 8 link 512 x (value_at blocks x 0) (λ i. omega arith)
    ∙ spread-at ring 8 (λ n. IDLE) 512 k 0 (λ i j d. omega arith) h

ring_next : (ring k : ℕ) → k < 512 → value_at (ring_table ring) (ring + 8 * k + 4) 0 ≡ next_slot ring (ring + 8 * k)
ring_next ring k h =
    let e : ring + 4 + 8 * k ≡ ring + 8 * k + 4 = omega arith in
    let x = ring + 8 * k + 4 in
    let blocks = spread ring 8 (λ n. IDLE) 512 in
    let link = λ (n : ℕ). next_slot ring (ring + 8 * n) in
    value-append blocks (spread (ring + 4) 8 link 512) x 0
    ∙ rw e at (spread-at (ring + 4) 8 link 512 k (value_at blocks x 0) (λ i j d. omega arith) h)

tag_word : (u g : ℕ) → u < 16 → g < 256 → value_at tag_table (tag_entry u g) 0 ≡ NOTASK
tag_word u g hu hg =
    let k = (tag_entry u g - 0x4000) / 4 in
    let e : 0x4000 + 4 * k ≡ tag_entry u g = omega arith in
    rw e at (spread-at 0x4000 4 (λ n. NOTASK) 4096 k 0 (λ i j d. omega arith) (omega arith))

module _ (m : List ℕ) (version : ℕ) (us : List RigUnit) (few : length us ≤ 16) (o : IsOpening m version us) where
  script : IsLoaded (word_at m) version
  script = record {
    at = λ n h. o.words (4 * n) (omega arith) (omega arith) ∙ in_script version us few (4 * n) (omega arith) ∙ script_word version n h;
  }

  chain_word : (x : ℕ) → x % 4 ≡ 0 → 0x8000 ≤ x → x + 4 ≤ 0x9000 → word_at m x ≡ word_at (with_chains m us) x
  chain_word x al from to =
      let table = chain_table us in
      let here : word_at m x ≡ value_at table x 0 = o.words x al (omega arith) ∙ in_chains version us few x from in
      let size = o.size in
      here
      ∙ sym (
      ap (λ (n : List ℕ). word_at n x) (sym (chains_written m us))
      ∙ word-written m table 0x8000 0x9000 x (lie_chains us few) (omega arith) al
      ∙ ap (λ (v : ℕ). value_at table x v) here
      ∙ value-twice table x 0
      )

  chains : IsLaid (word_at m) us
  chains = laid_kept (word_at (with_chains m us)) (word_at m) us few chain_word (chains_laid m us o.size few)

  control : (a : ℕ) → a % 4 ≡ 0 → 0x1000 ≤ a → a + 4 ≤ 0x1200 → word_at m a ≡ value_at control_table a 0
  control a al from to = o.words a al (omega arith) ∙ in_control version us few a from to

  fixed : (a : ℕ) → a % 4 ≡ 0 → 0x1200 ≤ a → a + 4 ≤ 0x2000 → word_at m a ≡ value_at fixed_table a 0
  fixed a al from to = o.words a al (omega arith) ∙ in_fixed version us few a from to

  constants : HasConstants (word_at m)
  unfolding value_at
  constants = record {
    abort_tag = control 0x1014 refl (lit≤ tt) (lit≤ tt);
    over = control 0x1018 refl (lit≤ tt) (lit≤ tt);
    ended = control 0x101C refl (lit≤ tt) (lit≤ tt);
    cut = control 0x1020 refl (lit≤ tt) (lit≤ tt);
    no_target = control 0x1024 refl (lit≤ tt) (lit≤ tt);
    open_gate = control 0x1028 refl (lit≤ tt) (lit≤ tt);
    bad_gate = control 0x102C refl (lit≤ tt) (lit≤ tt);
    front_idle = control 0x1030 refl (lit≤ tt) (lit≤ tt);
  }

  fixed_blocks : HasFixedBlocks (word_at m)
  unfolding value_at
  fixed_blocks = record {
    idle = fixed 0x1200 refl (lit≤ tt) (lit≤ tt);
    no_task = (fixed 0x1404 refl (lit≤ tt) (lit≤ tt), fixed 0x141C refl (lit≤ tt) (lit≤ tt));
    front_idle = fixed 0x1600 refl (lit≤ tt) (lit≤ tt);
    job = fixed 0x1800 refl (lit≤ tt) (lit≤ tt);
    job_message = (fixed 0x1820 refl (lit≤ tt) (lit≤ tt), fixed 0x1824 refl (lit≤ tt) (lit≤ tt), fixed 0x18E0 refl (lit≤ tt) (lit≤ tt));
  }

  begins : (word_at m 0x1000 ≡ 0x1600) × (word_at m 0x1004 ≡ 0x2000) × (word_at m 0x1008 ≡ 0x3000)
  unfolding value_at
  begins = (control 0x1000 refl (lit≤ tt) (lit≤ tt), control 0x1004 refl (lit≤ tt) (lit≤ tt), control 0x1008 refl (lit≤ tt) (lit≤ tt))

  start_ring : IsEmptyRing (word_at m) start_slot
  start_ring = record {
    idle = λ n. o.words (start_slot n) (omega arith) (omega arith) ∙ in_start version us few (start_slot n) (omega arith) (omega arith) ∙ ring_idle START_RING (n % 512) (omega arith);
    next = λ n. o.words (start_slot n + 4) (omega arith) (omega arith) ∙ in_start version us few (start_slot n + 4) (omega arith) (omega arith) ∙ ring_next START_RING (n % 512) (omega arith) ∙ counts_start_slots.next n;
  }

  done_ring : IsEmptyRing (word_at m) done_slot
  done_ring = record {
    idle = λ n. o.words (done_slot n) (omega arith) (omega arith) ∙ in_done version us few (done_slot n) (omega arith) (omega arith) ∙ ring_idle DONE_RING (n % 512) (omega arith);
    next = λ n. o.words (done_slot n + 4) (omega arith) (omega arith) ∙ in_done version us few (done_slot n + 4) (omega arith) (omega arith) ∙ ring_next DONE_RING (n % 512) (omega arith) ∙ counts_done_slots.next n;
  }

  opened : IsOpened m version us
  opened = record {
    script = script;
    chains = chains;
    constants = constants;
    fixed = fixed_blocks;
    front = begins.0;
    ringp = begins.1;
    donep = begins.2;
    start = start_ring;
    done = done_ring;
    tags = λ u g hu hg. o.words (tag_entry u g) (omega arith) (omega arith) ∙ in_tags version us few (tag_entry u g) (omega arith) (omega arith) ∙ tag_word u g hu hg;
    rest = λ x al from to. o.words x al to ∙ in_rest version us few x (omega arith);
  }

pub says_names : SaysNames
says_names m version us few o = opened m version us few o

-- ---- such memory

zero_word : (m : List ℕ) (n x : ℕ) → IsZero m n → word_at m x ≡ 0
unfolding word_at
zero_word m n x z = rw (z.zeros x, z.zeros (suc x), z.zeros (suc (suc x)), z.zeros (suc (suc (suc x)))) refl

pub is_written : IsWritten
is_written m version us few z =
    let size = z.size in
    record {
      size = length-written m (opening_table version us) ∙ z.size;
      words = λ x al h.
          word-written m (opening_table version us) 0 0x400000 x (lie_opening version us few) (omega arith) al
          ∙ ap (λ (v : ℕ). value_at (opening_table version us) x v) (zero_word m 0x400000 x z);
    }

abbrev zeros : ℕ → List ℕ
zeros n = replicate n 0

zero_at : (n i : ℕ) → slice_index (zeros n) i ≡ 0
zero_at zero i = refl
zero_at (suc n) zero = refl
zero_at (suc n) (suc i) = zero_at n i

unfoldable empty : ℕ → List ℕ
empty n = zeros n

empty-zero : (n : ℕ) → IsZero (empty n) n
unfolding empty
empty-zero n = record { size = length-replicate n 0; zeros = λ i. zero_at n i }

pub exists : Exists
exists version us few =
    (written (empty 0x400000) (opening_table version us), is_written (empty 0x400000) version us few (empty-zero 0x400000))
