-- What keeps the constants and the fixed blocks.
use Rattle.std.proofs.Common.{◌≡◌, ℕ, ◌+◌, ◌≤◌, ◌⊎◌, inl, inr, ◌∙◌, arith, lit≤}
use Rattle.bench_words.specs.Views.{Outside, Wrote}
use Rattle.host_map.specs.Regions.{FixedBlocks}
use Rattle.host_map.specs.Writes.{Kept}
use Rattle.opening_memory.specs.Laws.{HasFixedBlocks, KeepsConstants, KeepsFixedBlocks}

outside : (x low high : ℕ) → (high ≤ 0x1014) ⊎ (0x1034 ≤ low) → 0x1014 ≤ x → x ≤ 0x1030 → Outside x low high
outside x low high (inl h) from to = omega arith
outside x low high (inr h) from to = omega arith

pub keeps_constants : KeepsConstants
keeps_constants old new low high apart wrote c =
    let same = λ (x : ℕ) (from : 0x1014 ≤ x) (to : x ≤ 0x1030). wrote.other x (outside x low high apart from to) in
    record {
      abort_tag = same 0x1014 (lit≤ tt) (lit≤ tt) ∙ c.abort_tag;
      over = same 0x1018 (lit≤ tt) (lit≤ tt) ∙ c.over;
      ended = same 0x101C (lit≤ tt) (lit≤ tt) ∙ c.ended;
      cut = same 0x1020 (lit≤ tt) (lit≤ tt) ∙ c.cut;
      no_target = same 0x1024 (lit≤ tt) (lit≤ tt) ∙ c.no_target;
      open_gate = same 0x1028 (lit≤ tt) (lit≤ tt) ∙ c.open_gate;
      bad_gate = same 0x102C (lit≤ tt) (lit≤ tt) ∙ c.bad_gate;
      front_idle = same 0x1030 (lit≤ tt) (lit≤ tt) ∙ c.front_idle;
    }

-- the fixed blocks need eight words
blocks_by : (old new : ℕ → ℕ) → (new 0x1200 ≡ old 0x1200) → (new 0x1404 ≡ old 0x1404) → (new 0x141C ≡ old 0x141C) → (new 0x1600 ≡ old 0x1600) → (new 0x1800 ≡ old 0x1800) → (new 0x1820 ≡ old 0x1820) → (new 0x1824 ≡ old 0x1824) → (new 0x18E0 ≡ old 0x18E0) → HasFixedBlocks old → HasFixedBlocks new
blocks_by old new idle restart gate front job count place message b =
    record {
      idle = idle ∙ b.idle;
      no_task = (restart ∙ b.no_task.0, gate ∙ b.no_task.1);
      front_idle = front ∙ b.front_idle;
      job = job ∙ b.job;
      job_message = (count ∙ b.job_message.0, place ∙ b.job_message.1, message ∙ b.job_message.2);
    }

in_region : (old new : ℕ → ℕ) → Kept FixedBlocks old new → HasFixedBlocks old → HasFixedBlocks new
in_region old new kept =
    let same = λ (x : ℕ) (from : 0x1200 ≤ x) (to : x + 4 ≤ 0x1A00). kept.at x (record { from = from; to = to }) in
    blocks_by old new (same 0x1200 (lit≤ tt) (lit≤ tt)) (same 0x1404 (lit≤ tt) (lit≤ tt)) (same 0x141C (lit≤ tt) (lit≤ tt)) (same 0x1600 (lit≤ tt) (lit≤ tt)) (same 0x1800 (lit≤ tt) (lit≤ tt)) (same 0x1820 (lit≤ tt) (lit≤ tt)) (same 0x1824 (lit≤ tt) (lit≤ tt)) (same 0x18E0 (lit≤ tt) (lit≤ tt))

at_target : (old new : ℕ → ℕ) (value : ℕ) → Wrote old new 0x1818 value → HasFixedBlocks old → HasFixedBlocks new
at_target old new value wrote =
    blocks_by old new (wrote.other 0x1200 (lit≤ tt)) (wrote.other 0x1404 (lit≤ tt)) (wrote.other 0x141C (lit≤ tt)) (wrote.other 0x1600 (lit≤ tt)) (wrote.other 0x1800 (lit≤ tt)) (wrote.other 0x1820 (lit≤ tt)) (wrote.other 0x1824 (lit≤ tt)) (wrote.other 0x18E0 (lit≤ tt))

pub keeps_fixed_blocks : KeepsFixedBlocks
keeps_fixed_blocks = record { region = in_region; target = at_target }
