-- A desk that was just opened: all chunks are free, and no block or tag has a ticket.
use Rattle.std.proofs.Common.{arith, ◌≡◌, ℕ, zero, suc, ◌+◌, ◌-◌, ◌*◌, ◌/◌, ◌%◌, ◌<◌, ◌≤◌, List, [], length, get_or, map, replicate, Option, Some, None, refl, sym, ap, subst, inl, inr, ⊎_elim, lit<, lit≤}
use Rattle.std.proofs.lemmas.Bool.{cases_lt}
use Rattle.std.proofs.lemmas.List.{length-replicate, get_or-replicate}
use Rattle.std.specs.List.{range_with_len}
use Rattle.dma_buddy.specs.declared.buddies.Chunk.{Chunk}
use Rattle.dma_buddy.specs.Regions.{Space, IsAmong, IsChunkOf, IsListed, IsRegion, IsWhole}
use Rattle.dma_buddy.proofs.Sets.{same-members, same-space}
use Rattle.dma_buddy.proofs.Sizes.{same-chunk}
use Rattle.desk_law.specs.declared.ticket.Ticket.{Ticket}
use Rattle.desk_law.specs.Desk.{whole_chunk}
use Rattle.rig_types.specs.declared.rig.Unit.{Unit as RigUnit}
use Rattle.rig_types.specs.Ranges.{IsRig}
use Rattle.dma_buddy.proofs.Held.{none-out}
use Rattle.driver_desk.specs.declared.reporting.Room.{Room}
use Rattle.driver_desk.specs.Kept.{IsIndex, IsDesk}
use Rattle.driver_desk.specs.Held.{Keyed, block_key, tag_key, IsCounted, IsKept}

-- ---- the chunks

abbrev pub wholes : ℕ → ℕ → List Chunk
wholes a n = map whole_chunk (range_with_len a n)

-- a chunk among them is a whole one, by its number
from-wholes : (a n : ℕ) (c : Chunk) → IsAmong (wholes a n) c → (i : ℕ) × (a ≤ i) × (i < a + n) × (c ≡ whole_chunk i)
from-wholes a zero c h = absurd h
from-wholes a (suc n) c h =
    ⊎_elim
    (λ e. (a, omega arith, omega arith, e))
    (λ t. let r = from-wholes (a + 1) n c t in (r.0, omega (arith, r.1), omega (arith, r.2), r.3))
    h

among-wholes : (a n i : ℕ) → a ≤ i → i < a + n → IsAmong (wholes a n) (whole_chunk i)
among-wholes a zero i low high = absurd (omega (arith, low, high))
among-wholes a (suc n) i low high =
    ⊎_elim
    (λ (l : a < i). inr (among-wholes (a + 1) n i (omega (arith, l)) (omega (arith, high))))
    (λ (e : i ≤ a). let same : i ≡ a = omega (arith, e, low) in inl (ap whole_chunk same))
    (cases_lt a i)

whole-listed : (a n : ℕ) → IsListed (wholes a n)
whole-listed a zero = tt
whole-listed a (suc n) = (
  (λ c i. let r = from-wholes (a + 1) n c i in
      let base : c.base ≡ (whole_chunk r.0).base = ap (λ (x : Chunk). x.base) r.3 in
      let size : c.size ≡ (whole_chunk r.0).size = ap (λ (x : Chunk). x.size) r.3 in
      inr (sym size, omega (arith, base, r.1))),
  whole-listed (a + 1) n,
)

is-whole : (s : Space) → s.base ≡ 0x200000 → s.units ≡ 32 → (i : ℕ) → i < 0 + 32 → IsChunkOf s (whole_chunk i) × ((whole_chunk i).size ≡ 65536)
is-whole s base units i below = (
  record {
    chunk = record { size = (7, lit< tt, refl); aligned = omega arith };
    from = omega (arith, base);
    to = omega (arith, base, units, below);
  },
  refl,
)

abbrev pub whole : Space
whole = record { base = 0x200000; units = 32; free = wholes 0 32 }

pub whole_space : (s : Space) → IsRegion s → IsWhole s → s.base ≡ 0x200000 → s.units ≡ 32
    → s ≡ whole
whole_space s r w base units =
    same-space s whole base units
    (same-members s.free (wholes 0 32) r.listed (whole-listed 0 32)
    (λ c f. let k = (w c).0 f in let n = (c.base - 0x200000) / 65536 in
    let aligned : c.base % 65536 ≡ 0 = subst (λ (x : ℕ). c.base % x ≡ 0) k.1 k.0.chunk.aligned in
    let there : n < 0 + 32 = omega (arith, k.0.to, k.0.from, k.1, base, units) in
    let at : c.base ≡ 0x200000 + 65536 * n = omega (arith, aligned, k.0.from, base) in
    subst (λ (x : Chunk). IsAmong (wholes 0 32) x) (sym (same-chunk c (whole_chunk n) at k.1)) (among-wholes 0 32 n (omega arith) there))
    (λ c i. let q = from-wholes 0 32 c i in (w c).1 (subst (λ (x : Chunk). IsChunkOf s x × (x.size ≡ 65536)) (sym q.3) (is-whole s base units q.0 q.2))))

-- ---- the index

pub index_of_none : IsIndex (replicate 256 None) (replicate 4096 None) []
index_of_none = record {
  blocks = length-replicate {A = Option ℕ} 256 None;
  tags = length-replicate {A = Option ℕ} 4096 None;
  block = λ b below. get_or-replicate 256 b None None below;
  tag = λ u g few byte. get_or-replicate 4096 (256 * u + g) None None (omega (arith, few, byte));
}

-- ---- what the desk keeps

none-here : (n a i : ℕ) → get_or (replicate n None) a None ≡ Some i → ⊥
none-here zero a i e = cc
none-here (suc n) zero i e = cc
none-here (suc n) (suc a) i e = none-here n a i e

keyed-none : (size : ℕ) (key : Ticket → ℕ) → Keyed size key (replicate size None) []
keyed-none size key = record {
  count = length-replicate {A = Option ℕ} size None;
  within = λ i low l. absurd (omega (arith, low));
  found = λ i low l. absurd (omega (arith, low));
  only = λ a i e. absurd (none-here size a i e);
}

counts-here : (n u : ℕ) → get_or (replicate n zero) u zero ≡ zero
counts-here zero u = refl
counts-here (suc n) zero = refl
counts-here (suc n) (suc u) = counts-here n u

counted-none : (us : List RigUnit) → IsCounted us (replicate (length us) 0) []
counted-none us = record {
  units = length-replicate {A = ℕ} (length us) 0;
  count = λ u low. counts-here (length us) u;
  few = λ u low. omega arith;
}

pub kept_of_none : (version : ℕ) (us : List RigUnit) (retries steps : ℕ) (s : Space) → IsRig version us retries steps → s.base ≡ 0x200000 → s.units ≡ 32
    → IsKept version us retries (replicate 256 None) (replicate 4096 None) (replicate 256 None) (replicate (length us) 0) s []
kept_of_none version us retries steps s r base units = record {
  rig = record {
    first_version = r.first_version;
    last_version = r.last_version;
    some_units = r.some_units;
    few_units = r.few_units;
    in_range = r.in_range;
    agree = r.agree;
    all_depths = r.all_depths;
    few_retries = r.few_retries;
    some_steps = lit≤ tt;
    few_steps = lit≤ tt;
  };
  blocks = keyed-none 256 block_key;
  tags = keyed-none 4096 tag_key;
  bytes = λ i d low. absurd (omega (arith, low));
  buffers = λ i d low. absurd (omega (arith, low));
  places = length-replicate {A = Option Room} 256 None;
  reports = λ i low l. absurd (omega (arith, low));
  counted = counted-none us;
  base = base;
  chunks = units;
  out = none-out s;
}

-- ---- the rest

pub desk_of_none : (units submitters retries callers : ℕ) → units ≤ 16 → retries ≤ 8 → callers ≡ submitters + 3
    → IsDesk units submitters retries 0x2000 0x3000 callers []
desk_of_none units submitters retries callers few most all = record {
  few_units = few;
  few_retries = most;
  put_slot = record { from = omega arith; below = omega arith; aligned = refl };
  take_slot = record { from = omega arith; below = omega arith; aligned = refl };
  all_callers = all;
  few_tickets = omega arith;
  each_ticket = λ i d low. absurd (omega (arith, low));
}
