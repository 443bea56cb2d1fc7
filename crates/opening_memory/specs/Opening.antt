-- Host memory at the opening of a bench: 4 MiB with the words of a table, and 0 in every other word (own).
use Rattle.std.specs.Prelude.{◌≡◌, ℕ, ◌+◌, ◌*◌, ◌%◌, ◌≤◌, List, [], ◌∷◌, ◌++◌, length, flat_map}
use Rattle.std.specs.List.{range_with_len}
use Rattle.bench_words.specs.Memory.{word_at}
use Rattle.host_map.specs.declared.TheConstants.{SCRIPT, FRONT, RINGP, DONEP, ABORT_TAG, OVER_ADDRESS, ENDED_STATE, CUT_STATE, NO_TARGET_STATE, OPEN_ADDRESS, BADTASK_ADDRESS, FRONT_IDLE_ADDRESS, IDLE, NOTASK, FRONT_IDLE, JOB, START_RING, DONE_RING, TAG_TABLES, CHAINS}
use Rattle.host_map.specs.Places.{target_chain, unit_chain, table_at}
use Rattle.cmd_block.specs.declared.TheConstants.{MESSAGE, ENDED, CUT, NO_TARGET}
use Rattle.cmd_block.specs.declared.Field.TheVariants.{Start, Restart, Gate, MsgCount, MsgAt}
use Rattle.cmd_block.specs.Block.{offset}
use Rattle.driver_script.specs.Script.{label_of, image}
use Rattle.driver_script.specs.declared.labels.Name.TheVariants as label
use Rattle.job_rings.specs.Rings.{next_slot}
use Rattle.rig_types.specs.declared.rig.Unit.{Unit}
use Rattle.rig_chains.specs.Chains.{targets, target_ops, lun_ops, unit_ops}
use Rattle.opening_memory.specs.Tables.{value_at, spread, spelled}

-- the 302 words of the driver script
abbrev pub script_table : ℕ → List (ℕ × ℕ)
script_table version = spread SCRIPT 4 (λ n. image n version) 302

-- The words that driver and script share. Nothing is at FRONT, both rings begin at their first slots; the message is
-- ABORT TAG (SCSI-2), and the others are what the script loads.
abbrev pub control_table : List (ℕ × ℕ)
control_table =
    (FRONT, FRONT_IDLE) ∷ (RINGP, START_RING) ∷ (DONEP, DONE_RING) ∷ (ABORT_TAG, 0x0D) ∷
    (OVER_ADDRESS, label_of label.Over) ∷ (ENDED_STATE, ENDED) ∷ (CUT_STATE, CUT) ∷ (NO_TARGET_STATE, NO_TARGET) ∷
    (OPEN_ADDRESS, label_of label.Open) ∷ (BADTASK_ADDRESS, label_of label.Badtask) ∷
    (FRONT_IDLE_ADDRESS, FRONT_IDLE) ∷ []

-- The blocks that no command has: an idle slot leads to WAITR, a tag without a task to BADTASK, an idle FRONT to RING, and
-- the job to RESETJOB, with the message BUS DEVICE RESET (SCSI-2), 0x0C.
abbrev pub fixed_table : List (ℕ × ℕ)
fixed_table =
    (IDLE + offset Start, label_of label.Waitr) ∷
    (NOTASK + offset Restart, label_of label.Badtask) ∷ (NOTASK + offset Gate, label_of label.Open) ∷
    (FRONT_IDLE + offset Start, label_of label.Ring) ∷
    (JOB + offset Start, label_of label.Resetjob) ∷ (JOB + offset MsgCount, 1) ∷ (JOB + offset MsgAt, JOB + MESSAGE) ∷
    (JOB + MESSAGE, 0x0C) ∷ []

-- each slot of a ring is idle, and has the address of the slot behind it
abbrev pub ring_table : ℕ → List (ℕ × ℕ)
ring_table ring = spread ring 8 (λ n. IDLE) 512 ++ spread (ring + 4) 8 (λ n. next_slot ring (ring + 8 * n)) 512

-- no tag has a task
abbrev pub tag_table : List (ℕ × ℕ)
tag_table = spread TAG_TABLES 4 (λ n. NOTASK) 4096

-- the chains: that of the targets, those of the LUNs of each target, and those of the units with their tag tables
abbrev pub target_table : List Unit → ℕ → List (ℕ × ℕ)
target_table us t = spelled (target_chain t) (lun_ops us t)

abbrev pub unit_table : ℕ → List (ℕ × ℕ)
unit_table u = spelled (unit_chain u) (unit_ops u) ++ (unit_chain u + 0x10, table_at u 0) ∷ []

abbrev pub chain_table : List Unit → List (ℕ × ℕ)
chain_table us =
    spelled CHAINS (target_ops us) ++ (flat_map (target_table us) (targets us) ++ flat_map unit_table (range_with_len 0 (length us)))

-- all of them, for a version of the script and the units of a rig
abbrev pub opening_table : ℕ → List Unit → List (ℕ × ℕ)
opening_table version us =
    script_table version ++ (control_table ++ (fixed_table ++ (ring_table START_RING ++ (ring_table DONE_RING ++ (tag_table ++ chain_table us)))))

-- memory at the opening
pub record IsOpening (m : List ℕ) (version : ℕ) (us : List Unit) : Type 0 where
  pub size : length m ≡ 0x400000
  pub words : (x : ℕ) → x % 4 ≡ 0 → x + 4 ≤ 0x400000 → word_at m x ≡ value_at (opening_table version us) x 0
