-- A step of the chip as the invariant reads it: its row, the world after it, and what is left to show of the spot where it leads.
use Rattle.std.proofs.Common.{◌≡◌, ℕ, ◌+◌, ◌*◌, ◌^◌, ◌<◌, ◌≤◌, List, false, refl, sym, ap, subst, ◌∙◌, arith, Option, Some, None}
use Rattle.bench_words.specs.Memory.{word_at, put_word}
use Rattle.bench_words.specs.Views.{Wrote}
use Rattle.bench_words.proofs.Bytes.{bytes-put_word}
use Rattle.bench_words.proofs.MemoryLaws.{length-put_word, wrote-put_word}
use Rattle.host_map.specs.Places.{start_slot, done_slot}
use Rattle.rig_types.specs.declared.rig.Unit.{Unit as RigUnit}
use Rattle.scripts_ops.specs.declared.values.Address.{Address}
use Rattle.scripts_ops.specs.declared.values.Op.{Op}
use Rattle.scripts_ops.specs.declared.values.Condition.TheVariants.{Always}
use Rattle.scripts_ops.specs.declared.values.Op.TheVariants.{Load, Store, Jump, Return}
use Rattle.driver_script.specs.Script.{instruction}
use Rattle.chip_regs.specs.Bytes.{Wide, Dsa, Temp, ScratchA, ScratchB, base_of, held, holding}
use Rattle.chip_regs.specs.Registers.{is_stopped, cause_of}
use Rattle.chip_regs.specs.declared.registers.Cause.{Cause}
use Rattle.chip_regs.specs.declared.registers.Regs.{Regs}
use Rattle.chip_step.specs.Chip.{Becomes, Ends}
use Rattle.chip_step.specs.Instructions.{Does}
use Rattle.chip_step.specs.Step.{after_fetch}
use Rattle.chip_step.specs.declared.outcome.StepEnd.{StepEnd}
use Rattle.chip_step.specs.declared.outcome.StepEnd.TheVariants.{Ran, Stopped}
use Rattle.chip_step.proofs.Causes.{caused, ChipStep-stops}
use Rattle.bus_law.specs.Bus.{BusState}
use Rattle.bus_law.specs.Moves.{moves}
use Rattle.ownership.specs.Standing.{StandsAt}
use Rattle.ownership.specs.Words.{IsReached, place_from}
use Rattle.ownership.proofs.Steps.{is_row, follows}
use Rattle.ownership.proofs.Transfers.{jumps_to, returns_to}
use Rattle.ownership.proofs.Words.{loads_word, stores_word}
use Rattle.world_law.specs.declared.reply.Reply.{Reply}
use Rattle.world_law.specs.declared.reply.Stop.{Stop}
use Rattle.world_law.specs.declared.reply.Stop.TheVariants as stop
use Rattle.world_law.specs.World.{World, live}
use Rattle.world_law.specs.ChipSteps.{chip_of, after_chip, stop_for, stop_after, RunsChip}
use Rattle.word_owners.specs.Tickets.{Tickets, tickets_of}
use Rattle.word_owners.specs.Points.{Point, about, Link, OfTicket, OfTarget, Nobody, Anyone}
use Rattle.word_owners.specs.Parts.{Counts, Parts, TagTables}
use Rattle.word_owners.specs.Works.{Works}
use Rattle.word_owners.specs.Holds.{Spot, Holds, IsDonep, Running, Broken, Stays, AtPoint, Linked, StoppedFor, work_at, link_at, ahead_at, closing_at}
use Rattle.word_owners.specs.Nexts.{Leads}

-- ---- registers

pub same-wide : (y x : Wide) → base_of y ≡ base_of x → y ≡ x
same-wide Dsa Dsa e = refl
same-wide Dsa Temp e = absurd (omega (arith, e))
same-wide Dsa ScratchA e = absurd (omega (arith, e))
same-wide Dsa ScratchB e = absurd (omega (arith, e))
same-wide Temp Dsa e = absurd (omega (arith, e))
same-wide Temp Temp e = refl
same-wide Temp ScratchA e = absurd (omega (arith, e))
same-wide Temp ScratchB e = absurd (omega (arith, e))
same-wide ScratchA Dsa e = absurd (omega (arith, e))
same-wide ScratchA Temp e = absurd (omega (arith, e))
same-wide ScratchA ScratchA e = refl
same-wide ScratchA ScratchB e = absurd (omega (arith, e))
same-wide ScratchB Dsa e = absurd (omega (arith, e))
same-wide ScratchB Temp e = absurd (omega (arith, e))
same-wide ScratchB ScratchA e = absurd (omega (arith, e))
same-wide ScratchB ScratchB e = refl

-- a LOAD changes one wide register alone
holding-running : (x : Wide) (v : ℕ) (r : Regs) → is_stopped (holding x v r) ≡ is_stopped r
holding-running Dsa v r = refl
holding-running Temp v r = refl
holding-running ScratchA v r = refl
holding-running ScratchB v r = refl

holding-dsp : (x : Wide) (v : ℕ) (r : Regs) → (holding x v r).dsp ≡ r.dsp
holding-dsp Dsa v r = refl
holding-dsp Temp v r = refl
holding-dsp ScratchA v r = refl
holding-dsp ScratchB v r = refl

holding-con : (x : Wide) (v : ℕ) (r : Regs) → (holding x v r).con ≡ r.con
holding-con Dsa v r = refl
holding-con Temp v r = refl
holding-con ScratchA v r = refl
holding-con ScratchB v r = refl

-- who is connected is told by the bus and by CON alone
pub linked-con : (l : Link) (ts : Tickets) (b : BusState) (r n : Regs) → n.con ≡ r.con → Linked l ts b r → Linked l ts b n
linked-con (OfTicket t) ts b r n e h = h
linked-con (OfTarget i) ts b r n e h = h
linked-con Nobody ts b r n e h = (h.0, e ∙ h.1)
linked-con Anyone ts b r n e h = h

module _ (version : ℕ) (units : List RigUnit) (p : Point) (c : Counts) (w : World) (h : Holds version units (Running p) c w) where
  pub stands : (k : ℕ) → k < 151 → (about p).place ≡ 8 * k → StandsAt version k (chip_of w)
  stands k inside place = record { size = h.size; loaded = h.parts.loaded; running = h.stays.2; dsp = h.stays.3 ∙ place; inside = inside }

  -- ---- where memory stays

  -- what is to be shown of a spot, and of a point
  pub record Onto (s : Spot) (at : Stop) (r : Regs) (b : BusState) : Type 0 where
    pub closing : (about p).closing ≡ closing_at s
    pub ahead : (about p).ahead ≡ ahead_at s
    pub works : Works (work_at s) (word_at w.memory) (tickets_of w.desk) c
    pub stays : Stays s at w.resume r (word_at w.memory) (tickets_of w.desk) c
    pub linked : Linked (link_at s) (tickets_of w.desk) b r

  pub onto : (s : Spot) (at : Stop) (r : Regs) (b : BusState) → Onto s at r b → Holds version units s c (record w { stop = at; regs = r; bus = b })
  onto s at r b x = record {
    size = h.size;
    bytes = h.bytes;
    units_are = h.units_are;
    few_units = h.few_units;
    version_is = h.version_is;
    tickets = h.tickets;
    checked = h.checked;
    put = h.put;
    take = h.take;
    parts = subst (λ (o : Option ℕ). Parts version (word_at w.memory) (tickets_of w.desk) c o) x.closing h.parts;
    tags = h.tags;
    donep = record { before = h.donep.before; entered = subst (λ (i : ℕ). c.entered ≡ h.donep.before + i) x.ahead h.donep.entered; is = h.donep.is };
    works = x.works;
    stays = x.stays;
    linked = x.linked;
  }

  pub record Arrives (q : Point) (r : Regs) (b : BusState) : Type 0 where
    pub closing : (about p).closing ≡ (about q).closing
    pub ahead : (about p).ahead ≡ (about q).ahead
    pub works : Works (about q).work (word_at w.memory) (tickets_of w.desk) c
    pub running : is_stopped r ≡ false
    pub dsp : r.dsp ≡ (about q).place
    pub at : AtPoint q (tickets_of w.desk) c r
    pub linked : Linked (about q).link (tickets_of w.desk) b r

  module _ (new : World) (word : ℕ) (answer : Reply) (run : RunsChip w word answer new) where
    pub row : (k : ℕ) (op : Op) → k < 151 → (about p).place ≡ 8 * k → instruction k version ≡ op
        → Does (moves w.desk.units (live w.desk)) word op (chip_of w) (after_fetch (chip_of w)) run.end run.chip
    row k op inside place here =
        subst (λ (o : Op). Does (moves w.desk.units (live w.desk)) word o (chip_of w) (after_fetch (chip_of w)) run.end run.chip) here
        (is_row (moves w.desk.units (live w.desk)) version k word (chip_of w) run.end run.chip (stands k inside place) run.ran)

    pub past : (k : ℕ) → k < 151 → (about p).place ≡ 8 * k → (after_fetch (chip_of w)).regs.dsp ≡ 8 * k + 8
    past k inside place = follows version k (chip_of w) (stands k inside place)

    -- the world after a step that ends so
    pub ended : (how : StepEnd) (m : List ℕ) (r : Regs) → Ends how m r run.end run.chip → new ≡ record w { memory = m; regs = r; bus = run.chip.bus; stop = stop_after how w.stop }
    ended how m r e =
        run.world
        ∙ ap (λ (i : StepEnd). after_chip w i run.chip) e.is
        ∙ ap (λ (i : List ℕ). record w { memory = i; regs = run.chip.regs; bus = run.chip.bus; stop = stop_after how w.stop }) e.memory_is
        ∙ ap (λ (i : Regs). record w { memory = m; regs = i; bus = run.chip.bus; stop = stop_after how w.stop }) e.regs_are

    pub lands : (s : Spot) (how : StepEnd) (r : Regs) → Ends how w.memory r run.end run.chip → Onto s (stop_after how w.stop) r run.chip.bus → Holds version units s c new
    lands s how r e x = subst (Holds version units s c) (sym (ended how w.memory r e)) (onto s (stop_after how w.stop) r run.chip.bus x)

    -- it goes on
    pub arrives : (q : Point) (r : Regs) → Ends Ran w.memory r run.end run.chip → Arrives q r run.chip.bus → Holds version units (Running q) c new
    arrives q r e x = lands (Running q) Ran r e (record { closing = x.closing; ahead = x.ahead; works = x.works; stays = (h.stays.0, h.stays.1, x.running, x.dsp, x.at); linked = x.linked })

    -- it stops, and the registers have the cause
    pub stopped-for : (cause : Cause) (m : List ℕ) (r : Regs) → Ends (Stopped cause) m r run.end run.chip → StoppedFor cause r
    stopped-for cause m r e =
        let z : cause_of r ≡ Some cause = ap cause_of (sym e.regs_are) ∙ ChipStep-stops (moves w.desk.units (live w.desk)) word (chip_of w) run.end run.chip run.ran cause e.is in
        record { stopped = caused r cause z; is = z }

    -- the bus is to be reset
    pub breaks : (cause : Cause) (r : Regs) → Ends (Stopped cause) w.memory r run.end run.chip → stop_for cause ≡ stop.MustReset → (about p).closing ≡ None → (about p).ahead ≡ 0 → Holds version units Broken c new
    breaks cause r e must closing ahead =
        lands Broken (Stopped cause) r e (record { closing = closing; ahead = ahead; works = record { plays = tt; extra = tt }; stays = (must, h.stays.1, (stopped-for cause w.memory r e).stopped); linked = tt })

    -- ---- LOAD

    pub record Loads (q : Point) (x : Wide) (v : ℕ) : Type 0 where
      pub closing : (about p).closing ≡ (about q).closing
      pub ahead : (about p).ahead ≡ (about q).ahead
      pub works : Works (about q).work (word_at w.memory) (tickets_of w.desk) c
      pub at : AtPoint q (tickets_of w.desk) c (holding x v (after_fetch (chip_of w)).regs)
      pub linked : Linked (about q).link (tickets_of w.desk) w.bus w.regs

    pub loaded : (q : Point) (k v : ℕ) (x : Wide) (place : Address) → k < 151 → (about p).place ≡ 8 * k → instruction k version ≡ Load (base_of x) 4 place → (about q).place ≡ 8 * k + 8
        → IsReached place w.regs.dsa → word_at w.memory (place_from w.regs.dsa place) ≡ v → Loads q x v → Holds version units (Running q) c new
    loaded q k v x place inside from here to reached value l =
        let d = loads_word (moves w.desk.units (live w.desk)) version k word (base_of x) 4 place (chip_of w) run.end run.chip (stands k inside from) h.bytes reached here run.ran in
        let f : Regs = (after_fetch (chip_of w)).regs in
        let a : ℕ = word_at w.memory (place_from w.regs.dsa place) in
        let b : Becomes (holding x v f) (after_fetch (chip_of w)) run.end run.chip =
        subst (λ (i : ℕ). Becomes (holding x i f) (after_fetch (chip_of w)) run.end run.chip) value
        (subst (λ (y : Wide). Becomes (holding y a f) (after_fetch (chip_of w)) run.end run.chip) (same-wide d.register x d.named) d.becomes) in
        arrives q (holding x v f) b.ends (record {
          closing = l.closing;
          ahead = l.ahead;
          works = l.works;
          running = holding-running x v f ∙ h.stays.2;
          dsp = holding-dsp x v f ∙ past k inside from ∙ sym to;
          at = l.at;
          linked = subst (λ (i : BusState). Linked (about q).link (tickets_of w.desk) i (holding x v f)) (sym b.bus_is) (linked-con (about q).link (tickets_of w.desk) w.bus w.regs (holding x v f) (holding-con x v f) l.linked);
        })

    -- ---- JUMP and RETURN

    pub record Turns (q : Point) : Type 0 where
      pub closing : (about p).closing ≡ (about q).closing
      pub ahead : (about p).ahead ≡ (about q).ahead
      pub works : Works (about q).work (word_at w.memory) (tickets_of w.desk) c
      pub at : AtPoint q (tickets_of w.desk) c w.regs
      pub linked : Linked (about q).link (tickets_of w.desk) w.bus w.regs

    turned : (q : Point) (a : ℕ) → Becomes (record (after_fetch (chip_of w)).regs { dsp = a }) (after_fetch (chip_of w)) run.end run.chip → a ≡ (about q).place → Turns q → Holds version units (Running q) c new
    turned q a b to x =
        let r : Regs = record (after_fetch (chip_of w)).regs { dsp = a } in
        arrives q r b.ends (record {
          closing = x.closing;
          ahead = x.ahead;
          works = x.works;
          running = h.stays.2;
          dsp = to;
          at = record { dsa = x.at.dsa; temp = x.at.temp; scratcha = x.at.scratcha; scratchb = x.at.scratchb; ssid = x.at.ssid; sfbr = x.at.sfbr };
          linked = subst (λ (i : BusState). Linked (about q).link (tickets_of w.desk) i r) (sym b.bus_is) (linked-con (about q).link (tickets_of w.desk) w.bus w.regs r refl x.linked);
        })

    pub jumped : (q : Point) (k a : ℕ) → k < 151 → (about p).place ≡ 8 * k → instruction k version ≡ Jump Always a → a ≡ (about q).place → Turns q → Holds version units (Running q) c new
    jumped q k a inside from here to x =
        turned q a (jumps_to (moves w.desk.units (live w.desk)) a (chip_of w) run.end run.chip (record { version = version; k = k; word = word; stands = stands k inside from; here = here; ran = run.ran })) to x

    pub returned : (q : Point) (k : ℕ) → k < 151 → (about p).place ≡ 8 * k → instruction k version ≡ Return Always → w.regs.temp ≡ (about q).place → Turns q → Holds version units (Running q) c new
    returned q k inside from here to x =
        turned q w.regs.temp (returns_to (moves w.desk.units (live w.desk)) (chip_of w) run.end run.chip (record { version = version; k = k; word = word; stands = stands k inside from; here = here; ran = run.ran })) to x

    -- the step leads there
    pub leads : (next : Spot → Type 0) (s : Spot) → next s → Holds version units s c new → Leads next version units c new
    leads next s is x = record { spot = s; counts = c; is = is; queued = refl; taken = refl; holds = x }

    -- ---- STORE

    -- what is to be shown of memory with a word written
    pub record Stores (q : Point) (d : Counts) (n : ℕ → ℕ) : Type 0 where
      pub queued : d.queued ≡ c.queued
      pub taken : d.taken ≡ c.taken
      pub parts : Parts version n (tickets_of w.desk) d (about q).closing
      pub tags : TagTables n (tickets_of w.desk)
      pub donep : IsDonep n d (about q).ahead
      pub works : Works (about q).work n (tickets_of w.desk) d
      pub at : AtPoint q (tickets_of w.desk) d w.regs
      pub linked : Linked (about q).link (tickets_of w.desk) w.bus w.regs

    pub stored : (next : Spot → Type 0) (q : Point) (d : Counts) (k a v : ℕ) (x : Wide) (place : Address) → next (Running q) → k < 151 → (about p).place ≡ 8 * k → instruction k version ≡ Store (base_of x) 4 place
        → (about q).place ≡ 8 * k + 8 → IsReached place w.regs.dsa → place_from w.regs.dsa place ≡ a → a + 4 ≤ 0x400000 → held x w.regs ≡ v → v < 2 ^ 32
        → ((n : ℕ → ℕ) → Wrote (word_at w.memory) n a v → Stores q d n) → Leads next version units c new
    stored next q d k a v x place is inside from here to reached lies within value small rest =
        let z = stores_word (moves w.desk.units (live w.desk)) version k word (base_of x) 4 place (chip_of w) run.end run.chip (stands k inside from) reached here run.ran in
        let f : Regs = (after_fetch (chip_of w)).regs in
        let m : List ℕ = put_word w.memory a v in
        let e : run.chip.memory ≡ m =
        z.becomes.ends.memory_is
        ∙ ap (λ (y : Wide). put_word w.memory (place_from w.regs.dsa place) (held y w.regs)) (same-wide z.register x z.named)
        ∙ ap (λ (i : ℕ). put_word w.memory i (held x w.regs)) lies
        ∙ ap (λ (i : ℕ). put_word w.memory a i) value in
        let l : Stores q d (word_at m) = rest (word_at m) (wrote-put_word w.memory a v (omega (arith, h.size, within)) small) in
        record {
          spot = Running q;
          counts = d;
          is = is;
          queued = l.queued;
          taken = l.taken;
          holds = subst (Holds version units (Running q) d) (sym (ended Ran m f (record { is = z.becomes.ends.is; memory_is = e; regs_are = z.becomes.ends.regs_are }))) (record {
            size = length-put_word w.memory a v ∙ h.size;
            bytes = bytes-put_word w.memory a v h.bytes;
            units_are = h.units_are;
            few_units = h.few_units;
            version_is = h.version_is;
            tickets = h.tickets;
            checked = h.checked;
            put = h.put ∙ ap start_slot (sym l.queued);
            take = h.take ∙ ap done_slot (sym l.taken);
            parts = l.parts;
            tags = l.tags;
            donep = l.donep;
            works = l.works;
            stays = (
              h.stays.0,
              h.stays.1,
              h.stays.2,
              past k inside from ∙ sym to,
              record { dsa = l.at.dsa; temp = l.at.temp; scratcha = l.at.scratcha; scratchb = l.at.scratchb; ssid = l.at.ssid; sfbr = l.at.sfbr },
            );
            linked = subst (λ (i : BusState). Linked (about q).link (tickets_of w.desk) i f) (sym z.becomes.bus_is) (linked-con (about q).link (tickets_of w.desk) w.bus w.regs f refl l.linked);
          });
        }
