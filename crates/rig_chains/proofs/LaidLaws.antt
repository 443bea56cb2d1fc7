-- Memory after the chains were laid.
use Rattle.std.proofs.Common.{◌≡◌, ℕ, ◌+◌, ◌%◌, ◌<◌, ◌≤◌, ◌⊎◌, inl, inr, true, List, length, fold, refl, ◌∙◌, arith}
use Rattle.std.specs.List.{range_with_len}
use Rattle.bench_words.specs.Memory.{word_at}
use Rattle.bench_words.specs.Views.{Outside, WroteWithin}
use Rattle.bench_words.proofs.MemoryLaws.{length-put_word, word_same, word_apart}
use Rattle.host_map.specs.declared.TheConstants.{CHAINS}
use Rattle.host_map.specs.Places.{target_chain, unit_chain, table_at}
use Rattle.rig_types.specs.declared.rig.Unit.{Unit as RigUnit}
use Rattle.rig_chains.specs.Chains.{has_target, targets, target_ops, lun_ops, unit_ops, put_ops, with_target, with_unit, with_chains, Spells, IsLaid}
use Rattle.rig_chains.specs.Keeping.{KeepsChains}
use Rattle.rig_chains.proofs.LaidChains.{targets-is}
use Rattle.rig_chains.proofs.ChainLaws.{length-put_ops, put_ops-clear, put_ops-spells, spells_kept, target_ops-plain, lun_ops-plain, unit_ops-plain, target_ops-most, lun_ops-most}
use Rattle.rig_chains.proofs.Blocks.{KeepsBlocks, Rising, IsIn, LeftBy, rising_range, rising_filter, in_range, in_filter, length-fold, fold_before, fold_behind, fold_at}

target_clear : (us : List RigUnit) (m : List ℕ) (t x : ℕ) → (x + 4 ≤ target_chain t) ⊎ (target_chain t + 0x80 ≤ x) → word_at (with_target us m t) x ≡ word_at m x
target_clear us m t x (inl h) = put_ops-clear m (target_chain t) x (lun_ops us t) (inl h)
target_clear us m t x (inr h) =
    put_ops-clear m (target_chain t) x (lun_ops us t) (inr (omega (arith, lun_ops-most us t)))

pub target_blocks : (us : List RigUnit) → KeepsBlocks target_chain 0x80 (with_target us)
target_blocks us =
    record {
      kept = λ m t. length-put_ops m (target_chain t) (lun_ops us t);
      clear = λ m t x h. target_clear us m t x h;
      rises = λ i j h. omega arith;
    }

unit_clear : (m : List ℕ) (u x : ℕ) → (x + 4 ≤ unit_chain u) ⊎ (unit_chain u + 0x20 ≤ x) → word_at (with_unit m u) x ≡ word_at m x
unit_clear m u x (inl h) =
    word_apart (put_ops m (unit_chain u) (unit_ops u)) (unit_chain u + 0x10) x (table_at u 0) (inl (omega arith)) ∙ put_ops-clear m (unit_chain u) x (unit_ops u) (inl h)
unit_clear m u x (inr h) =
    word_apart (put_ops m (unit_chain u) (unit_ops u)) (unit_chain u + 0x10) x (table_at u 0) (inr (omega arith)) ∙ put_ops-clear m (unit_chain u) x (unit_ops u) (inr (omega arith))

pub unit_blocks : KeepsBlocks unit_chain 0x20 with_unit
unit_blocks =
    record {
      kept = λ m u. length-put_word (put_ops m (unit_chain u) (unit_ops u)) (unit_chain u + 0x10) (table_at u 0) ∙ length-put_ops m (unit_chain u) (unit_ops u);
      clear = λ m u x h. unit_clear m u x h;
      rises = λ i j h. omega arith;
    }

pub targets-rising : (us : List RigUnit) → Rising 0 8 (targets us)
targets-rising us = rw (targets-is us) (rising_filter (has_target us) 0 8 (range_with_len 0 8) (rising_range 0 8 8 (omega arith)))

pub targets-in : (us : List RigUnit) (t : ℕ) → t < 8 → has_target us t ≡ true → IsIn t (targets us)
targets-in us t h there = rw (targets-is us) (in_filter (has_target us) t (range_with_len 0 8) there (in_range 0 8 t (omega arith) (omega arith)))

-- memory with the chain of the targets, with those of the LUNs, and with those of the units
abbrev first_part : List ℕ → List RigUnit → List ℕ
first_part m us = put_ops m CHAINS (target_ops us)

abbrev second_part : List ℕ → List RigUnit → List ℕ
second_part m us = fold (with_target us) (first_part m us) (targets us)

abbrev third_part : List ℕ → List RigUnit → List ℕ
third_part m us = fold with_unit (second_part m us) (range_with_len 0 (length us))

units-rising : (us : List RigUnit) → length us ≤ 16 → Rising 0 16 (range_with_len 0 (length us))
units-rising us few = rising_range 0 (length us) 16 (omega arith)

below_units : (m : List ℕ) (us : List RigUnit) (x : ℕ) → length us ≤ 16 → x + 4 ≤ 0x8800 → word_at (third_part m us) x ≡ word_at (second_part m us) x
below_units m us x few h = fold_before unit_blocks (second_part m us) 0 16 x (range_with_len 0 (length us)) (units-rising us few) h

below_targets : (m : List ℕ) (us : List RigUnit) (x : ℕ) → x + 4 ≤ 0x8100 → word_at (second_part m us) x ≡ word_at (first_part m us) x
below_targets m us x h = fold_before (target_blocks us) (first_part m us) 0 8 x (targets us) (targets-rising us) h

targets_laid : (m : List ℕ) (us : List RigUnit) → length m ≡ 0x400000 → length us ≤ 16 → Spells (word_at (third_part m us)) CHAINS (target_ops us)
targets_laid m us size few =
    let most = target_ops-most us in
    spells_kept (word_at (first_part m us)) (word_at (third_part m us)) CHAINS (target_ops us) refl
    (put_ops-spells m CHAINS (target_ops us) (target_ops-plain us) (omega arith))
    (λ x al from to. below_units m us x few (omega arith) ∙ below_targets m us x (omega arith))

luns_laid : (m : List ℕ) (us : List RigUnit) (t : ℕ) → length m ≡ 0x400000 → length us ≤ 16 → t < 8 → has_target us t ≡ true → Spells (word_at (third_part m us)) (target_chain t) (lun_ops us t)
luns_laid m us t size few h there =
    let left = fold_at (target_blocks us) (first_part m us) 0 8 t (targets us) (targets-rising us) (targets-in us t h there) in
    let most = lun_ops-most us t in
    let kept = left.kept ∙ length-put_ops m CHAINS (target_ops us) in
    spells_kept (word_at (with_target us left.before t)) (word_at (third_part m us)) (target_chain t) (lun_ops us t) (omega arith)
    (put_ops-spells left.before (target_chain t) (lun_ops us t) (lun_ops-plain us t few) (omega (arith, kept)))
    (λ x al from to. below_units m us x few (omega arith) ∙ left.same x from (omega arith))

unit_left : (m : List ℕ) (us : List RigUnit) (u : ℕ) → length us ≤ 16 → u < length us → LeftBy unit_chain 0x20 with_unit (second_part m us) (third_part m us) u
unit_left m us u few h =
    fold_at unit_blocks (second_part m us) 0 16 u (range_with_len 0 (length us)) (units-rising us few) (in_range 0 (length us) u (omega arith) (omega arith))

length-second : (m : List ℕ) (us : List RigUnit) → length (second_part m us) ≡ length m
length-second m us = length-fold (target_blocks us) (first_part m us) (targets us) ∙ length-put_ops m CHAINS (target_ops us)

units_laid : (m : List ℕ) (us : List RigUnit) (u : ℕ) → length m ≡ 0x400000 → length us ≤ 16 → u < length us → Spells (word_at (third_part m us)) (unit_chain u) (unit_ops u)
units_laid m us u size few h =
    let left = unit_left m us u few h in
    let kept = left.kept ∙ length-second m us in
    let n = put_ops left.before (unit_chain u) (unit_ops u) in
    spells_kept (word_at n) (word_at (third_part m us)) (unit_chain u) (unit_ops u) (omega arith)
    (put_ops-spells left.before (unit_chain u) (unit_ops u) (unit_ops-plain u (omega arith)) (omega (arith, kept)))
    (λ x al from to. left.same x from (omega arith) ∙ word_apart n (unit_chain u + 0x10) x (table_at u 0) (inl (omega arith)))

tables_laid : (m : List ℕ) (us : List RigUnit) (u : ℕ) → length m ≡ 0x400000 → length us ≤ 16 → u < length us → word_at (third_part m us) (unit_chain u + 0x10) ≡ table_at u 0
tables_laid m us u size few h =
    let left = unit_left m us u few h in
    let kept = left.kept ∙ length-second m us in
    let n = put_ops left.before (unit_chain u) (unit_ops u) in
    let same = length-put_ops left.before (unit_chain u) (unit_ops u) in
    left.same (unit_chain u + 0x10) (omega arith) (omega arith) ∙ word_same n (unit_chain u + 0x10) (table_at u 0) (omega (arith, kept, same)) (omega arith)

-- memory spells every instruction of every chain at its address
pub chains_laid : (m : List ℕ) (us : List RigUnit) → length m ≡ 0x400000 → length us ≤ 16 → IsLaid (word_at (with_chains m us)) us
unfolding with_chains
chains_laid m us size few =
    record {
      targets_laid = targets_laid m us size few;
      luns_laid = λ t h there. luns_laid m us t size few h there;
      units_laid = λ u h. units_laid m us u size few h;
      tables_laid = λ u h. tables_laid m us u size few h;
    }

low_clear : (m : List ℕ) (us : List RigUnit) (x : ℕ) → length us ≤ 16 → x + 4 ≤ 0x8000 → word_at (third_part m us) x ≡ word_at m x
low_clear m us x few h =
    below_units m us x few (omega arith) ∙ below_targets m us x (omega arith) ∙ put_ops-clear m CHAINS x (target_ops us) (inl h)

high_clear : (m : List ℕ) (us : List RigUnit) (x : ℕ) → length us ≤ 16 → 0x9000 ≤ x → word_at (third_part m us) x ≡ word_at m x
high_clear m us x few h =
    fold_behind unit_blocks (second_part m us) 0 16 x (range_with_len 0 (length us)) (units-rising us few) (omega arith)
    ∙ fold_behind (target_blocks us) (first_part m us) 0 8 x (targets us) (targets-rising us) (omega arith)
    ∙ put_ops-clear m CHAINS x (target_ops us) (inr (omega (arith, target_ops-most us)))

clear_cases : (x : ℕ) → Outside x 0x8000 0x9000 → (x + 4 ≤ 0x8000) ⊎ (0x9000 ≤ x)
clear_cases x h = grind arith

clear_by : (m : List ℕ) (us : List RigUnit) (x : ℕ) → length us ≤ 16 → (x + 4 ≤ 0x8000) ⊎ (0x9000 ≤ x) → word_at (third_part m us) x ≡ word_at m x
clear_by m us x few (inl h) = low_clear m us x few h
clear_by m us x few (inr h) = high_clear m us x few h

-- and every word outside them is as before
pub chains_within : (m : List ℕ) (us : List RigUnit) → length us ≤ 16 → WroteWithin (word_at m) (word_at (with_chains m us)) 0x8000 0x9000
unfolding with_chains
chains_within m us few = record { other = λ x out. clear_by m us x few (clear_cases x out) }

-- memory still holds the chains where their region is as before
pub laid_kept : (v w : ℕ → ℕ) (us : List RigUnit) → length us ≤ 16 → ((x : ℕ) → x % 4 ≡ 0 → 0x8000 ≤ x → x + 4 ≤ 0x9000 → w x ≡ v x) → IsLaid v us → IsLaid w us
laid_kept v w us few same laid =
    record {
      targets_laid = spells_kept v w CHAINS (target_ops us) refl laid.targets_laid (λ x al from to. same x al (omega arith) (omega (arith, target_ops-most us)));
      luns_laid = λ t h there. spells_kept v w (target_chain t) (lun_ops us t) (omega arith) (laid.luns_laid t h there) (λ x al from to. same x al (omega arith) (omega (arith, lun_ops-most us t)));
      units_laid = λ u h. spells_kept v w (unit_chain u) (unit_ops u) (omega arith) (laid.units_laid u h) (λ x al from to. same x al (omega arith) (omega arith));
      tables_laid = λ u h. same (unit_chain u + 0x10) (omega arith) (omega arith) (omega arith) ∙ laid.tables_laid u h;
    }

pub keeps_chains : KeepsChains
keeps_chains old new us few kept laid =
    laid_kept old new us few (λ x al from to. kept.at x (record { from = from; to = to })) laid
