use Rattle.std.proofs.Common.{◌≡◌, ◌∙◌, ◌+◌, ◌*◌, ◌%◌, ℕ, List, refl, ap, sym, arith}
use Rattle.bench_words.specs.Memory.{put_word}
use Rattle.host_map.specs.declared.TheConstants.{IDLE}
use Rattle.job_rings.specs.Rings.{next_slot}
use Rattle.opening_memory.specs.Tables.{written, spread}
use Rattle.opening_memory.proofs.TableLaws.{written-append, spread-none, spread-next}
use Rattle.opening_memory.proofs.lay_ring.Goals as goal

pub loop-n-init : goal.loop-n-init
loop-n-init c = record { size = refl; so_far = sym (spread-none c.args.words.now c.args.ring 8 (λ n. IDLE)) }

pub loop-n-preserved : goal.loop-n-preserved
loop-n-preserved c =
    let ring = c.args.ring in
    let n = c.loop-n.n in
    record {
      size = c.set.ensures.size ∙ c.loop-n.invariant.size;
      so_far = c.set.ensures.wrote ∙ ap (λ (m : List ℕ). put_word m (ring + 8 * n) IDLE) c.loop-n.invariant.so_far ∙ spread-next c.args.words.now ring 8 (λ n. IDLE) n;
    }

pub loop-slot-init : goal.loop-slot-init
loop-slot-init c =
    let m = c.args.words.now in
    let ring = c.args.ring in
    let e : c.loop-n.n ≡ 512 = omega arith in
    record {
      size = c.loop-n.invariant.size;
      so_far = c.loop-n.invariant.so_far
          ∙ ap (λ (n : ℕ). written m (spread ring 8 (λ k. IDLE) n)) e
          ∙ sym (spread-none (written m (spread ring 8 (λ k. IDLE) 512)) (ring + 4) 8 (λ k. next_slot ring (ring + 8 * k)));
    }

link : (ring n : ℕ) → ring + 8 * ((n + 1) % 512) ≡ next_slot ring (ring + 8 * n)
link ring n = omega arith

pub loop-slot-preserved : goal.loop-slot-preserved
loop-slot-preserved c =
    let ring = c.args.ring in
    let n = c.loop-slot.slot in
    let m = written c.args.words.now (spread ring 8 (λ k. IDLE) 512) in
    record {
      size = c.set-in-loop-slot.ensures.size ∙ c.loop-slot.invariant.size;
      so_far = c.set-in-loop-slot.ensures.wrote
          ∙ ap (λ (v : ℕ). put_word c.loop-slot.words (ring + 4 + 8 * n) v) (link ring n)
          ∙ ap (λ (k : List ℕ). put_word k (ring + 4 + 8 * n) (next_slot ring (ring + 8 * n))) c.loop-slot.invariant.so_far
          ∙ spread-next m (ring + 4) 8 (λ k. next_slot ring (ring + 8 * k)) n;
    }

pub returns-clause-wrote : goal.returns-clause-wrote
returns-clause-wrote c =
    let m = c.args.words.now in
    let ring = c.args.ring in
    let e : c.loop-slot.slot ≡ 512 = omega arith in
    c.loop-slot.invariant.so_far
    ∙ ap (λ (n : ℕ). written (written m (spread ring 8 (λ k. IDLE) 512)) (spread (ring + 4) 8 (λ k. next_slot ring (ring + 8 * k)) n)) e
    ∙ sym (written-append m (spread ring 8 (λ k. IDLE) 512) (spread (ring + 4) 8 (λ k. next_slot ring (ring + 8 * k)) 512))
