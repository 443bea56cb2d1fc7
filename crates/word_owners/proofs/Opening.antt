-- The invariant at the opening: memory holds its table, and there is no ticket.
use Rattle.std.proofs.Common.{◌≡◌, ℕ, zero, suc, List, [], ◌∷◌, replicate, slice_index, refl, inl, inr, arith, None}
use Rattle.std.proofs.lemmas.List.{length-replicate}
use Rattle.bench_words.specs.Memory.{word_at, put_word}
use Rattle.bench_words.specs.Bytes.{IsBytes}
use Rattle.bench_words.proofs.Bytes.{bytes-zeros, bytes-put_word}
use Rattle.rig_types.specs.declared.rig.Unit.{Unit as RigUnit}
use Rattle.host_map.specs.declared.TheConstants.{MEMORY_BYTES}
use Rattle.opening_memory.specs.Tables.{written}
use Rattle.opening_memory.specs.Opening.{opening_table, IsOpening}
use Rattle.opening_memory.specs.Laws.{IsOpened}
use Rattle.opening_memory.proofs.OpeningLaws.{says_names}
use Rattle.desk_law.specs.declared.stage.Stage.TheVariants.{Built, Linked, Check, Sensing, Freed}
use Rattle.world_law.specs.World.{BenchSetting}
use Rattle.world_law.specs.Opening.{memory_opened, opened}
use Rattle.world_law.proofs.Opens.{opens}
use Rattle.word_owners.specs.Tickets.{tickets_of, AreTickets}
use Rattle.word_owners.specs.Parts.{Parts}
use Rattle.word_owners.specs.Laws.{HoldsOpened, no_counts}

all-zero : (n i : ℕ) → slice_index (replicate n 0) i ≡ 0
all-zero zero i = refl
all-zero (suc n) zero = refl
all-zero (suc n) (suc i) = all-zero n i

bytes-written : (m : List ℕ) (ps : List (ℕ × ℕ)) → IsBytes m → IsBytes (written m ps)
unfolding written
bytes-written m [] h = h
bytes-written m (p ∷ ps) h = bytes-written (put_word m p.0 p.1) ps (bytes-put_word m p.0 p.1 h)

zero-bytes : (n : ℕ) → IsBytes (replicate n 0)
zero-bytes n = bytes-zeros (replicate n 0) n (record { size = length-replicate n 0; zeros = all-zero n })

bytes-opened : (version : ℕ) (us : List RigUnit) → IsBytes (memory_opened version us)
unfolding memory_opened
bytes-opened version us = bytes-written (replicate MEMORY_BYTES 0) (opening_table version us) (zero-bytes MEMORY_BYTES)

no-tickets : (g : BenchSetting) → AreTickets (tickets_of (opened g).desk)
no-tickets g = record {
  block = λ t l. absurd (l refl);
  unit = λ t l. absurd (l refl);
  tag = λ t l. absurd (l refl);
  blocks = λ t u l. absurd (l refl);
  tags = λ t u l. absurd (l refl);
  turned = λ t e. tt;
  within = λ t i l. absurd (l refl);
  apart = λ t u i j l. absurd (l refl);
}

parts-opened : (g : BenchSetting) → IsOpened (opened g).memory g.version g.units → Parts g.version (word_at (opened g).memory) (tickets_of (opened g).desk) no_counts None
parts-opened g o = record {
  loaded = o.script;
  chains = o.chains;
  constants = o.constants;
  fixed = o.fixed;
  front = inl o.front;
  ringp = o.ringp;
  start = record {
    order = omega arith;
    entry = λ i l u. absurd (omega arith);
    once = λ i j l d u. absurd (omega arith);
    idle = o.start.idle 0;
    next = o.start.next;
  };
  done = record {
    order = omega arith;
    entry = λ i l u. absurd (omega arith);
    once = λ i j l d u. absurd (omega arith);
    idle = λ i l u. o.done.idle i;
    next = o.done.next;
  };
  blocks = λ t l. absurd (l refl);
  fresh = λ t f. elim f [
    | inl e ↦ let q : Freed ≡ Built = e in absurd cc
    | inr e ↦ let q : Freed ≡ Linked = e in absurd cc
  ];
  there = λ t l. absurd (l refl);
  gates = λ t l. absurd (l refl);
}

pub holds_opened : HoldsOpened
holds_opened g few =
    let opening : IsOpening (memory_opened g.version g.units) g.version g.units = opens g few in
    let o = says_names (opened g).memory g.version g.units few opening in
    record {
      size = opening.size;
      bytes = bytes-opened g.version g.units;
      units_are = refl;
      few_units = few;
      version_is = refl;
      tickets = no-tickets g;
      checked = λ t e. elim e [
        | inl i ↦ let q : Freed ≡ Check = i in absurd cc
        | inr i ↦ let q : Freed ≡ Sensing = i in absurd cc
      ];
      put = refl;
      take = refl;
      parts = parts-opened g o;
      tags = record { entries = λ u t a b. inl (o.tags u t a b); entered = λ t b. absurd (b.live refl) };
      donep = record { before = 0; entered = refl; is = o.donep };
      works = record { plays = tt; extra = tt };
      stays = (refl, refl, refl, refl, record { dsa = tt; temp = tt; scratcha = tt; scratchb = tt; ssid = tt; sfbr = tt });
      linked = (refl, refl);
    }
