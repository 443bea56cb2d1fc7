-- What holds goes on where nothing but bytes of the buffers and of one sense area changes.
use Rattle.std.proofs.Common.{◌≡◌, ℕ, ◌+◌, ◌≤◌, List, length, sym, subst, ◌∙◌, arith, Option}
use Rattle.bench_words.specs.Memory.{word_at}
use Rattle.bench_words.specs.Bytes.{IsBytes}
use Rattle.bench_words.specs.Views.{Outside}
use Rattle.rig_types.specs.declared.rig.Unit.{Unit as RigUnit}
use Rattle.chip_regs.specs.declared.registers.Regs.{Regs}
use Rattle.bus_law.specs.Bus.{BusState}
use Rattle.world_law.specs.declared.reply.Stop.{Stop}
use Rattle.world_law.specs.World.{World}
use Rattle.word_owners.specs.Tickets.{Tickets, tickets_of, block_of, IsLive, AreTickets}
use Rattle.word_owners.specs.Points.{Point, about}
use Rattle.word_owners.specs.Parts.{Counts, Parts}
use Rattle.word_owners.specs.Works.{Works}
use Rattle.word_owners.specs.Holds.{Spot, Holds, Running, Stays, Linked, work_at, link_at, ahead_at, closing_at}
use Rattle.word_owners.proofs.Frames.{Same, fixed-frame}
use Rattle.word_owners.proofs.WriteFrames.{Spares, parts-spared, tags-frame}

-- every word reads as before but those of the buffer region and of the sense area of one ticket
pub record Beside (w n : ℕ → ℕ) (ts : Tickets) (t : ℕ) : Type 0 where
  pub live : IsLive (ts.stage t)
  pub same : (x : ℕ) → x + 4 ≤ 0x200000 → Outside x (block_of ts t + 0x100) (block_of ts t + 0x112) → n x ≡ w x

module _ (w n : ℕ → ℕ) (ts : Tickets) (t : ℕ) (d : AreTickets ts) (o : Beside w n ts t) where
  pub beside-low : (x : ℕ) → x + 4 ≤ 0x10000 → n x ≡ w x
  beside-low x l = o.same x (omega arith) (omega (arith, (d.block t o.live).from))

  -- the head of a block, with its entries
  pub beside-head : (u : ℕ) → IsLive (ts.stage u) → Same w n (block_of ts u) (block_of ts u + 0xE0)
  beside-head u l x f g =
      let p = d.block t o.live in
      let q = d.block u l in
      o.same x (omega (arith, q.below)) (omega (arith, p.from, q.from, p.aligned, q.aligned))

  beside-spares : Spares w n ts
  beside-spares = record {
    script = λ x f g. beside-low x (omega arith);
    front = beside-low 0x1000 (omega arith);
    ringp = beside-low 0x1004 (omega arith);
    constants = λ x f g. beside-low x (omega arith);
    fixed = fixed-frame w n (λ x f g. beside-low x (omega arith));
    starts = λ x f g. beside-low x (omega arith);
    dones = λ x f g. beside-low x (omega arith);
    chains = λ x f g. beside-low x (omega arith);
    lower = λ u l x f g. beside-head u l x f (omega arith);
    upper = λ u l x f g. beside-head u l x (omega arith) g;
  }

  pub parts-beside : (version : ℕ) (c : Counts) (closing : Option ℕ) → length ts.units ≤ 16 → Parts version w ts c closing → Parts version n ts c closing
  parts-beside version c closing few p = parts-spared version w n ts c closing few beside-spares p

-- a world with such a memory, where none of the slots is ahead and no GATE is being closed
module _ (version : ℕ) (units : List RigUnit) (p : Point) (t : ℕ) (c : Counts) (w : World) (h : Holds version units (Running p) c w) (m : List ℕ) (o : Beside (word_at w.memory) (word_at m) (tickets_of w.desk) t) where
  pub beside_holds : (q : Spot) (stop : Stop) (r : Regs) (bus : BusState) → length m ≡ length w.memory → (IsBytes w.memory → IsBytes m) → (about p).closing ≡ closing_at q → (about p).ahead ≡ ahead_at q
      → Works (work_at q) (word_at m) (tickets_of w.desk) c → Stays q stop w.resume r (word_at m) (tickets_of w.desk) c → Linked (link_at q) (tickets_of w.desk) bus r
      → Holds version units q c (record w { memory = m; regs = r; bus = bus; stop = stop })
  beside_holds q stop r bus size bytes closing ahead works stays linked =
      let ts = tickets_of w.desk in
      let few : length ts.units ≤ 16 = subst (λ (us : List RigUnit). length us ≤ 16) (sym h.units_are) h.few_units in
      record {
        size = size ∙ h.size;
        bytes = bytes h.bytes;
        units_are = h.units_are;
        few_units = h.few_units;
        version_is = h.version_is;
        tickets = h.tickets;
        checked = h.checked;
        put = h.put;
        take = h.take;
        parts = parts-beside (word_at w.memory) (word_at m) ts t h.tickets o version c (closing_at q) few (subst (λ (i : Option ℕ). Parts version (word_at w.memory) ts c i) closing h.parts);
        tags = tags-frame (word_at w.memory) (word_at m) ts h.tickets few (λ x f g. beside-low (word_at w.memory) (word_at m) ts t h.tickets o x (omega arith)) h.tags;
        donep = record { before = h.donep.before; entered = subst (λ (i : ℕ). c.entered ≡ h.donep.before + i) ahead h.donep.entered; is = beside-low (word_at w.memory) (word_at m) ts t h.tickets o 0x1008 (omega arith) ∙ h.donep.is };
        works = works;
        stays = stays;
        linked = linked;
      }
