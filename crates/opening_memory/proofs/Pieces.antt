-- The pieces of the opening table: where each lies, and the value of the whole table in each region.
use Rattle.std.proofs.Common.{◌≡◌, ◌++◌, ℕ, ◌+◌, ◌*◌, ◌%◌, ◌<◌, ◌≤◌, inl, inr, List, [], ◌∷◌, length, flat_map, refl, ap, ◌∙◌, arith, lit<, lit≤}
use Rattle.std.specs.List.{range_with_len}
use Rattle.host_map.specs.declared.TheConstants.{IDLE, NOTASK, START_RING, DONE_RING, TAG_TABLES, CHAINS}
use Rattle.host_map.specs.Places.{target_chain, unit_chain, table_at}
use Rattle.driver_script.specs.Script.{image}
use Rattle.driver_script.proofs.ScriptLaws.{image-most}
use Rattle.job_rings.specs.Rings.{next_slot}
use Rattle.rig_types.specs.declared.rig.Unit.{Unit as RigUnit}
use Rattle.rig_chains.specs.Chains.{targets, target_ops, lun_ops, unit_ops}
use Rattle.rig_chains.proofs.Blocks.{rising_range}
use Rattle.rig_chains.proofs.ChainLaws.{target_ops-plain, lun_ops-plain, unit_ops-plain, target_ops-most, lun_ops-most}
use Rattle.rig_chains.proofs.LaidLaws.{targets-rising}
use Rattle.opening_memory.specs.Tables.{value_at, spread, spelled}
use Rattle.opening_memory.specs.Opening.{script_table, control_table, fixed_table, ring_table, tag_table, target_table, unit_table, chain_table, opening_table}
use Rattle.opening_memory.proofs.TableLaws.{Lie, lie-append, lie-wider, lies_so, value-append, value-outside, lie-flat, spread-lie, spelled-lie}

-- ---- where they lie

pub lie_script : (version : ℕ) → Lie 0 0x4B8 (script_table version)
lie_script version =
    spread-lie 0 4 (λ n. image n version) 302 0 0x4B8 (λ k h. (omega arith, omega arith, omega arith, image-most k version))

pub lie_control : Lie 0x1000 0x1200 control_table
lie_control = lies_so 0x1000 0x1200 control_table refl

pub lie_fixed : Lie 0x1200 0x2000 fixed_table
lie_fixed = lies_so 0x1200 0x2000 fixed_table refl

lie_ring : (ring : ℕ) → ring % 4 ≡ 0 → ring ≤ 0x10000 → Lie ring (ring + 0x1000) (ring_table ring)
lie_ring ring al h =
    lie-append ring (ring + 0x1000) (spread ring 8 (λ n. IDLE) 512) (spread (ring + 4) 8 (λ n. next_slot ring (ring + 8 * n)) 512)
    (spread-lie ring 8 (λ n. IDLE) 512 ring (ring + 0x1000) (λ k b. (omega arith, omega arith, omega arith, lit< tt)))
    (spread-lie (ring + 4) 8 (λ n. next_slot ring (ring + 8 * n)) 512 ring (ring + 0x1000) (λ k b. (omega arith, omega arith, omega arith, omega arith)))

pub lie_start : Lie 0x2000 0x3000 (ring_table START_RING)
lie_start = lie_ring START_RING refl (lit≤ tt)

pub lie_done : Lie 0x3000 0x4000 (ring_table DONE_RING)
lie_done = lie_ring DONE_RING refl (lit≤ tt)

pub lie_tags : Lie 0x4000 0x8000 tag_table
lie_tags = spread-lie TAG_TABLES 4 (λ n. NOTASK) 4096 0x4000 0x8000 (λ k h. (omega arith, omega arith, omega arith, lit< tt))

lie_target : (us : List RigUnit) (t : ℕ) → length us ≤ 16 → t < 8 → Lie 0x8000 0x9000 (target_table us t)
lie_target us t few h =
    let most = lun_ops-most us t in
    spelled-lie (target_chain t) 0x8000 0x9000 (lun_ops us t) (lun_ops-plain us t few) (omega arith) (omega arith) (omega (arith, most))

lie_unit : (u : ℕ) → u < 16 → Lie 0x8000 0x9000 (unit_table u)
lie_unit u h =
    lie-append 0x8000 0x9000 (spelled (unit_chain u) (unit_ops u)) ((unit_chain u + 0x10, table_at u 0) ∷ [])
    (spelled-lie (unit_chain u) 0x8000 0x9000 (unit_ops u) (unit_ops-plain u h) (omega arith) (omega arith) (omega arith))
    (omega arith, omega arith, omega arith, omega arith, tt)

pub lie_chains : (us : List RigUnit) → length us ≤ 16 → Lie 0x8000 0x9000 (chain_table us)
lie_chains us few =
    let most = target_ops-most us in
    lie-append 0x8000 0x9000 (spelled CHAINS (target_ops us)) (flat_map (target_table us) (targets us) ++ flat_map unit_table (range_with_len 0 (length us)))
    (spelled-lie CHAINS 0x8000 0x9000 (target_ops us) (target_ops-plain us) (lit≤ tt) refl (omega (arith, most)))
    (lie-append 0x8000 0x9000 (flat_map (target_table us) (targets us)) (flat_map unit_table (range_with_len 0 (length us)))
    (lie-flat (target_table us) 0x8000 0x9000 8 (λ t h. lie_target us t few h) 0 (targets us) (targets-rising us))
    (lie-flat unit_table 0x8000 0x9000 16 lie_unit 0 (range_with_len 0 (length us)) (rising_range 0 (length us) 16 (omega arith))))

-- ---- the whole table

-- the pieces from the chains back
abbrev from_tags : List RigUnit → List (ℕ × ℕ)
from_tags us = tag_table ++ chain_table us

abbrev from_done : List RigUnit → List (ℕ × ℕ)
from_done us = ring_table DONE_RING ++ from_tags us

abbrev from_start : List RigUnit → List (ℕ × ℕ)
from_start us = ring_table START_RING ++ from_done us

abbrev from_fixed : List RigUnit → List (ℕ × ℕ)
from_fixed us = fixed_table ++ from_start us

abbrev from_control : List RigUnit → List (ℕ × ℕ)
from_control us = control_table ++ from_fixed us

wide : (low high : ℕ) (ps : List (ℕ × ℕ)) → high ≤ 0x400000 → Lie low high ps → Lie 0 0x400000 ps
wide low high ps h l = lie-wider low high 0 0x400000 ps (omega arith) h l

pub lie_opening : (version : ℕ) (us : List RigUnit) → length us ≤ 16 → Lie 0 0x400000 (opening_table version us)
lie_opening version us few =
    lie-append 0 0x400000 (script_table version) (from_control us) (wide 0 0x4B8 (script_table version) (lit≤ tt) (lie_script version))
    (lie-append 0 0x400000 control_table (from_fixed us) (wide 0x1000 0x1200 control_table (lit≤ tt) lie_control)
    (lie-append 0 0x400000 fixed_table (from_start us) (wide 0x1200 0x2000 fixed_table (lit≤ tt) lie_fixed)
    (lie-append 0 0x400000 (ring_table START_RING) (from_done us) (wide 0x2000 0x3000 (ring_table START_RING) (lit≤ tt) lie_start)
    (lie-append 0 0x400000 (ring_table DONE_RING) (from_tags us) (wide 0x3000 0x4000 (ring_table DONE_RING) (lit≤ tt) lie_done)
    (lie-append 0 0x400000 tag_table (chain_table us) (wide 0x4000 0x8000 tag_table (lit≤ tt) lie_tags)
    (wide 0x8000 0x9000 (chain_table us) (lit≤ tt) (lie_chains us few)))))))

-- the value behind each piece
abbrev at_script : ℕ → ℕ → ℕ
at_script version x = value_at (script_table version) x 0

abbrev at_control : ℕ → ℕ → ℕ
at_control version x = value_at control_table x (at_script version x)

abbrev at_fixed : ℕ → ℕ → ℕ
at_fixed version x = value_at fixed_table x (at_control version x)

abbrev at_start : ℕ → ℕ → ℕ
at_start version x = value_at (ring_table START_RING) x (at_fixed version x)

abbrev at_done : ℕ → ℕ → ℕ
at_done version x = value_at (ring_table DONE_RING) x (at_start version x)

abbrev at_tags : ℕ → ℕ → ℕ
at_tags version x = value_at tag_table x (at_done version x)

whole : (version : ℕ) (us : List RigUnit) (x : ℕ) → value_at (opening_table version us) x 0 ≡ value_at (chain_table us) x (at_tags version x)
whole version us x =
    value-append (script_table version) (from_control us) x 0
    ∙ value-append control_table (from_fixed us) x (at_script version x)
    ∙ value-append fixed_table (from_start us) x (at_control version x)
    ∙ value-append (ring_table START_RING) (from_done us) x (at_fixed version x)
    ∙ value-append (ring_table DONE_RING) (from_tags us) x (at_start version x)
    ∙ value-append tag_table (chain_table us) x (at_done version x)

module _ (version : ℕ) (us : List RigUnit) (few : length us ≤ 16) (x : ℕ) where
  -- pieces behind an address leave its value
  before_chains : x + 4 ≤ 0x8000 → value_at (opening_table version us) x 0 ≡ at_tags version x
  before_chains h = whole version us x ∙ value-outside 0x8000 0x9000 (chain_table us) x (at_tags version x) (lie_chains us few) (inl h)

  before_tags : x + 4 ≤ 0x4000 → value_at (opening_table version us) x 0 ≡ at_done version x
  before_tags h = before_chains (omega arith) ∙ value-outside 0x4000 0x8000 tag_table x (at_done version x) lie_tags (inl h)

  before_done : x + 4 ≤ 0x3000 → value_at (opening_table version us) x 0 ≡ at_start version x
  before_done h = before_tags (omega arith) ∙ value-outside 0x3000 0x4000 (ring_table DONE_RING) x (at_start version x) lie_done (inl h)

  before_start : x + 4 ≤ 0x2000 → value_at (opening_table version us) x 0 ≡ at_fixed version x
  before_start h = before_done (omega arith) ∙ value-outside 0x2000 0x3000 (ring_table START_RING) x (at_fixed version x) lie_start (inl h)

  before_fixed : x + 4 ≤ 0x1200 → value_at (opening_table version us) x 0 ≡ at_control version x
  before_fixed h = before_start (omega arith) ∙ value-outside 0x1200 0x2000 fixed_table x (at_control version x) lie_fixed (inl h)

  -- pieces before an address have no value for it
  behind_script : 0x4B8 ≤ x → at_script version x ≡ 0
  behind_script h = value-outside 0 0x4B8 (script_table version) x 0 (lie_script version) (inr h)

  behind_control : 0x1200 ≤ x → at_control version x ≡ 0
  behind_control h = value-outside 0x1000 0x1200 control_table x (at_script version x) lie_control (inr h) ∙ behind_script (omega arith)

  behind_fixed : 0x2000 ≤ x → at_fixed version x ≡ 0
  behind_fixed h = value-outside 0x1200 0x2000 fixed_table x (at_control version x) lie_fixed (inr h) ∙ behind_control (omega arith)

  behind_start : 0x3000 ≤ x → at_start version x ≡ 0
  behind_start h = value-outside 0x2000 0x3000 (ring_table START_RING) x (at_fixed version x) lie_start (inr h) ∙ behind_fixed (omega arith)

  behind_done : 0x4000 ≤ x → at_done version x ≡ 0
  behind_done h = value-outside 0x3000 0x4000 (ring_table DONE_RING) x (at_start version x) lie_done (inr h) ∙ behind_start (omega arith)

  behind_tags : 0x8000 ≤ x → at_tags version x ≡ 0
  behind_tags h = value-outside 0x4000 0x8000 tag_table x (at_done version x) lie_tags (inr h) ∙ behind_done (omega arith)

  -- the value in each region
  pub in_script : x + 4 ≤ 0x1000 → value_at (opening_table version us) x 0 ≡ value_at (script_table version) x 0
  in_script h = before_fixed (omega arith) ∙ value-outside 0x1000 0x1200 control_table x (at_script version x) lie_control (inl h)

  pub in_control : 0x1000 ≤ x → x + 4 ≤ 0x1200 → value_at (opening_table version us) x 0 ≡ value_at control_table x 0
  in_control l h = before_fixed h ∙ ap (value_at control_table x) (behind_script (omega arith))

  pub in_fixed : 0x1200 ≤ x → x + 4 ≤ 0x2000 → value_at (opening_table version us) x 0 ≡ value_at fixed_table x 0
  in_fixed l h = before_start h ∙ ap (value_at fixed_table x) (behind_control l)

  pub in_start : 0x2000 ≤ x → x + 4 ≤ 0x3000 → value_at (opening_table version us) x 0 ≡ value_at (ring_table START_RING) x 0
  in_start l h = before_done h ∙ ap (value_at (ring_table START_RING) x) (behind_fixed l)

  pub in_done : 0x3000 ≤ x → x + 4 ≤ 0x4000 → value_at (opening_table version us) x 0 ≡ value_at (ring_table DONE_RING) x 0
  in_done l h = before_tags h ∙ ap (value_at (ring_table DONE_RING) x) (behind_start l)

  pub in_tags : 0x4000 ≤ x → x + 4 ≤ 0x8000 → value_at (opening_table version us) x 0 ≡ value_at tag_table x 0
  in_tags l h = before_chains h ∙ ap (value_at tag_table x) (behind_done l)

  pub in_chains : 0x8000 ≤ x → value_at (opening_table version us) x 0 ≡ value_at (chain_table us) x 0
  in_chains l = whole version us x ∙ ap (value_at (chain_table us) x) (behind_tags l)

  pub in_rest : 0x9000 ≤ x → value_at (opening_table version us) x 0 ≡ 0
  in_rest l = in_chains (omega arith) ∙ value-outside 0x8000 0x9000 (chain_table us) x 0 (lie_chains us few) (inr l)
