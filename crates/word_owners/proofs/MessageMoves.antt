-- The moves of messages, commands and the status keep the invariant: they go on, are broken off, or can't be made.
use Rattle.std.proofs.Common.{◌≡◌, inl, inr, ℕ, pos, suc, ◌+◌, ◌-◌, ◌*◌, ◌%◌, ◌<◌, ◌≤◌, List, length, slice_index, false, refl, sym, ap, subst, ◌∙◌, arith, Option, None}
use Rattle.bench_words.specs.Memory.{word_at}
use Rattle.bench_words.specs.Bytes.{IsBytes}
use Rattle.rig_types.specs.declared.rig.Unit.{Unit as RigUnit}
use Rattle.cmd_block.specs.declared.Field.TheVariants.{CmdCount}
use Rattle.scripts_ops.specs.declared.values.Op.TheVariants.{Move, MoveFrom}
use Rattle.driver_script.specs.Script.{instruction}
use Rattle.driver_script.specs.Moves.{data_move}
use Rattle.chip_regs.specs.Registers.{is_stopped}
use Rattle.chip_regs.specs.declared.registers.Cause.TheVariants.{Ma}
use Rattle.chip_regs.specs.declared.registers.Regs.{Regs}
use Rattle.chip_step.specs.Step.{ChipStep, after_fetch}
use Rattle.chip_step.specs.declared.outcome.StepEnd.{StepEnd}
use Rattle.chip_step.specs.declared.outcome.StepEnd.TheVariants.{Ran, Stopped}
use Rattle.chip_rows.proofs.StepWrites.{runs_on}
use Rattle.phase_fix.specs.Moves.{move_at}
use Rattle.phase_fix.specs.Remain.{field}
use Rattle.bus_law.specs.Bus.{BusState}
use Rattle.bus_law.specs.Moves.{moves}
use Rattle.ownership.specs.Footprint.{Place, Nowhere, footprint, ranges}
use Rattle.ownership.proofs.Footprint.{writes_only}
use Rattle.chip_rows.specs.Leaving.{ChangesWithin}
use Rattle.world_law.specs.declared.reply.Reply.{Reply}
use Rattle.world_law.specs.declared.reply.Stop.{Stop}
use Rattle.world_law.specs.World.{World, live}
use Rattle.world_law.specs.ChipSteps.{chip_of, stop_after, RunsChip}
use Rattle.word_owners.specs.Tickets.{Tickets, tickets_of, block_of, IsLive, AreTickets}
use Rattle.word_owners.specs.Points.{Point, about, At080, At088, At090, At0C8, At0D0, At0D8, At0E0, At288, At290, At2A0, At2A8}
use Rattle.word_owners.specs.Parts.{Counts, Parts, MayWork}
use Rattle.word_owners.specs.Works.{Works}
use Rattle.word_owners.specs.Holds.{Spot, Holds, Running, NotData, Stays, AtPoint, Linked, work_at, link_at, ahead_at, closing_at}
use Rattle.word_owners.specs.Nexts.{IsNext, Leads, Moved}
use Rattle.word_owners.proofs.PointGroups.{moves_messages, StepsHold}
use Rattle.word_owners.proofs.Frames.{Same, active-live, fixed-frame}
use Rattle.word_owners.proofs.WriteFrames.{Spares, parts-spared, tags-frame, may-work}
use Rattle.word_owners.proofs.Patches.{few}
use Rattle.word_owners.proofs.BlockMoves.{Filled, filled-word, MovedSo, refused, broke, whole, moves_direct, moves_from}
use Rattle.word_owners.proofs.BusCalls.{Still, linked-still}
use Rattle.word_owners.proofs.ChipSteps.{breaks, leads, ended, past, row, stands, stopped-for}

-- memory that leaves all parts
pub record Sparing (w n : ℕ → ℕ) (ts : Tickets) : Type 0 where
  pub spares : Spares w n ts
  pub tags : Same w n 0x4000 0x8000
  pub donep : n 0x1008 ≡ w 0x1008

sparing-all : (w n : ℕ → ℕ) (ts : Tickets) → ((x : ℕ) → n x ≡ w x) → Sparing w n ts
sparing-all w n ts e = record {
  spares = record {
    script = λ x f l. e x;
    front = e 0x1000;
    ringp = e 0x1004;
    constants = λ x f l. e x;
    fixed = fixed-frame w n (λ x f l. e x);
    starts = λ x f l. e x;
    dones = λ x f l. e x;
    chains = λ x f l. e x;
    lower = λ t k x f l. e x;
    upper = λ t k x f l. e x;
  };
  tags = λ x f l. e x;
  donep = e 0x1008;
}

-- bytes of MSGIN alone
pub sparing-msgin : (m n : List ℕ) (ts : Tickets) → AreTickets ts → (to : ℕ) → to ≤ 0x1014 → Filled 0x1010 to m n → Sparing (word_at m) (word_at n) ts
sparing-msgin m n ts d to l f =
    let below : (x : ℕ) → x + 4 ≤ 0x1010 → word_at n x ≡ word_at m x = λ x k. filled-word 0x1010 to x m n f (omega arith) in
    let above : (x : ℕ) → 0x1014 ≤ x → word_at n x ≡ word_at m x = λ x k. filled-word 0x1010 to x m n f (omega arith) in
    record {
      spares = record {
        script = λ x i k. below x (omega arith);
        front = below 0x1000 (omega arith);
        ringp = below 0x1004 (omega arith);
        constants = λ x i k. above x i;
        fixed = fixed-frame (word_at m) (word_at n) (λ x i k. above x (omega arith));
        starts = λ x i k. above x (omega arith);
        dones = λ x i k. above x (omega arith);
        chains = λ x i k. above x (omega arith);
        lower = λ t k x i j. above x (omega (arith, (d.block t k).from));
        upper = λ t k x i j. above x (omega (arith, (d.block t k).from));
      };
      tags = λ x i k. above x (omega arith);
      donep = below 0x1008 (omega arith);
    }

-- bytes of the status of a ticket's block
sparing-status : (m n : List ℕ) (ts : Tickets) → AreTickets ts → (t : ℕ) → IsLive (ts.stage t) → (to : ℕ) → to ≤ block_of ts t + 0x18 → Filled (block_of ts t + 0x14) to m n → Sparing (word_at m) (word_at n) ts
sparing-status m n ts d t live to l f =
    let b = d.block t live in
    let below : (x : ℕ) → x + 4 ≤ 0x10000 → word_at n x ≡ word_at m x = λ x k. filled-word (block_of ts t + 0x14) to x m n f (omega (arith, b.from)) in
    record {
      spares = record {
        script = λ x i k. below x (omega arith);
        front = below 0x1000 (omega arith);
        ringp = below 0x1004 (omega arith);
        constants = λ x i k. below x (omega arith);
        fixed = fixed-frame (word_at m) (word_at n) (λ x i k. below x (omega arith));
        starts = λ x i k. below x (omega arith);
        dones = λ x i k. below x (omega arith);
        chains = λ x i k. below x (omega arith);
        lower = λ u k x i j. let q = d.block u k in filled-word (block_of ts t + 0x14) to x m n f (omega (arith, b.aligned, q.aligned));
        upper = λ u k x i j. let q = d.block u k in filled-word (block_of ts t + 0x14) to x m n f (omega (arith, b.aligned, q.aligned));
      };
      tags = λ x i k. below x (omega arith);
      donep = below 0x1008 (omega arith);
    }

word-same : (m n : List ℕ) (a : ℕ) → ((x : ℕ) → slice_index n x ≡ slice_index m x) → word_at n a ≡ word_at m a
unfolding word_at
word-same m n a e = rw (e a, e (suc a), e (suc (suc a)), e (suc (suc (suc a)))) refl

module _ (version : ℕ) (units : List RigUnit) (p : Point) (c : Counts) (w : World) (h : Holds version units (Running p) c w) (new : World) (word : ℕ) (answer : Reply) (run : RunsChip w word answer new) where
  -- memory where the instruction writes nowhere
  stays-same : (k : ℕ) → k < 151 → (about p).place ≡ 8 * k → footprint (8 * k) ≡ Nowhere → Sparing (word_at w.memory) (word_at run.chip.memory) (tickets_of w.desk)
  stays-same k inside from none =
      let x = writes_only (moves w.desk.units (live w.desk)) version k word (chip_of w) run.end run.chip (stands version units p c w h k inside from) run.ran in
      let y = subst (λ (q : Place). ChangesWithin (ranges q (chip_of w) run.chip.regs.dbc) w.memory run.chip.memory) none x in
      sparing-all (word_at w.memory) (word_at run.chip.memory) (tickets_of w.desk) (λ a. word-same w.memory run.chip.memory a (λ i. y.others i (λ z. z)))

  -- what holds with memory that leaves all parts
  pub spared : (s : Spot) (at : Stop) (m : List ℕ) (r : Regs) (b : BusState) → Sparing (word_at w.memory) (word_at m) (tickets_of w.desk) → length m ≡ length w.memory → IsBytes m → (about p).closing ≡ closing_at s → (about p).ahead ≡ ahead_at s
      → Works (work_at s) (word_at m) (tickets_of w.desk) c → Stays s at w.resume r (word_at m) (tickets_of w.desk) c → Linked (link_at s) (tickets_of w.desk) b r → Holds version units s c (record w { memory = m; regs = r; bus = b; stop = at })
  spared s at m r b x size bytes closing ahead works stays linked =
      let u = few version units (Running p) c w 0 h in
      record {
        size = size ∙ h.size;
        bytes = bytes;
        units_are = h.units_are;
        few_units = h.few_units;
        version_is = h.version_is;
        tickets = h.tickets;
        checked = h.checked;
        put = h.put;
        take = h.take;
        parts = parts-spared version (word_at w.memory) (word_at m) (tickets_of w.desk) c (closing_at s) u x.spares (subst (λ (o : Option ℕ). Parts version (word_at w.memory) (tickets_of w.desk) c o) closing h.parts);
        tags = tags-frame (word_at w.memory) (word_at m) (tickets_of w.desk) h.tickets u x.tags h.tags;
        donep = record { before = h.donep.before; entered = subst (λ (i : ℕ). c.entered ≡ h.donep.before + i) ahead h.donep.entered; is = x.donep ∙ h.donep.is };
        works = works;
        stays = stays;
        linked = linked;
      }

  -- the ticket is worked on as before
  work-spared : (t : ℕ) (n : ℕ → ℕ) → Sparing (word_at w.memory) n (tickets_of w.desk) → MayWork (word_at w.memory) (tickets_of w.desk) c t → MayWork n (tickets_of w.desk) c t
  work-spared t n x q =
      let ts = tickets_of w.desk in
      may-work version (word_at w.memory) n ts c None (few version units (Running p) c w 0 h) t (x.spares.lower t (active-live (ts.stage t) q.begun.stage) (block_of ts t + 0x10) (omega arith) (omega arith)) x.spares.starts x.spares.front q

  -- what is to be shown of the point behind the move
  pub record Behind (q : Point) : Type 0 where
    pub closing : (about p).closing ≡ None
    pub closing' : (about q).closing ≡ None
    pub ahead : (about p).ahead ≡ 0
    pub ahead' : (about q).ahead ≡ 0
    pub works : (n : ℕ → ℕ) → Sparing (word_at w.memory) n (tickets_of w.desk) → Works (about q).work n (tickets_of w.desk) c
    pub at : (r : Regs) → r.dsa ≡ w.regs.dsa → AtPoint q (tickets_of w.desk) c r
    pub linked : (b : BusState) (r : Regs) → Still w.bus b → Linked (about q).link (tickets_of w.desk) b r

  module _ (q : Point) (k count a : ℕ) (inside : k < 151) (from : (about p).place ≡ 8 * k) (to : (about q).place ≡ 8 * k + 8) (none : move_at (8 * k) ≡ None) (next : (s : Spot) → Moved q s → IsNext p s) (x : Behind q)
      (sparing : (end : ℕ) → end ≤ a + count → Filled a end w.memory run.chip.memory → Sparing (word_at w.memory) (word_at run.chip.memory) (tickets_of w.desk)) where
    leads-to : (s : Spot) → Moved q s → Holds version units s c new → Leads (IsNext p) version units c new
    leads-to s i y = leads version units p c w h new word answer run (IsNext p) s (next s i) y

    pub moved-so : MovedSo count a (after_fetch (chip_of w)) run.end run.chip → Leads (IsNext p) version units c new
    moved-so (refused cause must e same) = leads-to _ (inr (inr refl)) (breaks version units p c w h new word answer run cause run.chip.regs (record { is = e; memory_is = same; regs_are = refl }) must x.closing x.ahead)
    moved-so (broke left o l g f e d dsp dsa s t) =
        let z = sparing (a + (count - left)) (omega arith) f in
        let y : run.chip.regs.dsp - 8 ≡ 8 * k = omega (arith, dsp, past version units p c w h new word answer run k inside from) in
        leads-to NotData (inr (inl refl)) (subst (Holds version units NotData c) (sym (ended version units p c w h new word answer run (Stopped Ma) run.chip.memory run.chip.regs (record { is = e; memory_is = refl; regs_are = refl })))
        (spared NotData (stop_after (Stopped Ma) w.stop) run.chip.memory run.chip.regs run.chip.bus z f.size (f.bytes h.bytes) x.closing x.ahead (record { plays = tt; extra = tt })
        (refl, h.stays.1, stopped-for version units p c w h new word answer run Ma run.chip.memory run.chip.regs (record { is = e; memory_is = refl; regs_are = refl }), ap move_at y ∙ none) tt))
    moved-so (whole g f e dsp dsa s t) =
        let z = sparing (a + count) (omega arith) f in
        let running : is_stopped run.chip.regs ≡ false = runs_on (moves w.desk.units (live w.desk)) word (chip_of w) run.chip (subst (λ (i : StepEnd). ChipStep (moves w.desk.units (live w.desk)) word (chip_of w) i run.chip) e run.ran) in
        leads-to (Running q) (inl refl) (subst (Holds version units (Running q) c) (sym (ended version units p c w h new word answer run Ran run.chip.memory run.chip.regs (record { is = e; memory_is = refl; regs_are = refl })))
        (spared (Running q) w.stop run.chip.memory run.chip.regs run.chip.bus z f.size (f.bytes h.bytes) (x.closing ∙ sym x.closing') (x.ahead ∙ sym x.ahead') (x.works (word_at run.chip.memory) z)
        (h.stays.0, h.stays.1, running, dsp ∙ past version units p c w h new word answer run k inside from ∙ sym to, x.at run.chip.regs dsa)
        (x.linked run.chip.bus run.chip.regs s)))

pub keeps : StepsHold moves_messages
unfolding instruction footprint data_move move_at
keeps version units (At080 t) c w new word answer e run h =
    let ts = tickets_of w.desk in
    let live-now = active-live (ts.stage t) h.works.plays.begun.stage in
    let place = h.tickets.block t live-now in
    let b = h.parts.blocks t live-now in
    let count : ℕ = 3 in
    let n : word_at w.memory (block_of ts t + 0x20) % 16777216 ≡ count = omega (arith, b.message.0) in
    moved-so version units (At080 t) c w h new word answer run (At088 t) 16 count (block_of ts t + 0xE0) (omega arith) refl refl refl (λ s x. x) (record { closing = refl; closing' = refl; ahead = refl; ahead' = refl; works = λ n x. record { plays = work-spared version units (At080 t) c w h new word answer run t n x h.works.plays; extra = tt }; at = λ r i. record { dsa = i ∙ h.stays.4.dsa; temp = tt; scratcha = tt; scratchb = tt; ssid = tt; sfbr = tt }; linked = λ b r s. linked-still (about (At088 t)).link (tickets_of w.desk) w.bus b r s h.linked }) (λ end l f. stays-same version units (At080 t) c w h new word answer run 16 (omega arith) refl refl)
    (moves_from w.desk.units (live w.desk) word 0x20 (block_of ts t + 0x20) count (block_of ts t + 0xE0) 6 (after_fetch (chip_of w)) run.end run.chip (ap (λ (i : ℕ). i + 0x20) h.stays.4.dsa) h.size (omega (arith, place.below)) n (ap (word_at w.memory) (omega arith) ∙ b.message.1)
    (row version units (At080 t) c w h new word answer run 16 (MoveFrom (pos 0x20) 6) (omega arith) refl refl))
keeps version units (At088 t) c w new word answer e run h =
    let ts = tickets_of w.desk in
    let live-now = active-live (ts.stage t) h.works.plays.begun.stage in
    let place = h.tickets.block t live-now in
    let b = h.parts.blocks t live-now in
    let count : ℕ = field (word_at w.memory) (block_of ts t) CmdCount in
    let n : word_at w.memory (block_of ts t + 0x28) % 16777216 ≡ count = omega (arith, b.command.0) in
    moved-so version units (At088 t) c w h new word answer run (At090 t) 17 count (block_of ts t + 0xF0) (omega arith) refl refl refl (λ s x. x) (record { closing = refl; closing' = refl; ahead = refl; ahead' = refl; works = λ n x. record { plays = work-spared version units (At088 t) c w h new word answer run t n x h.works.plays; extra = tt }; at = λ r i. record { dsa = i ∙ h.stays.4.dsa; temp = tt; scratcha = tt; scratchb = tt; ssid = tt; sfbr = tt }; linked = λ b r s. linked-still (about (At090 t)).link (tickets_of w.desk) w.bus b r s h.linked }) (λ end l f. stays-same version units (At088 t) c w h new word answer run 17 (omega arith) refl refl)
    (moves_from w.desk.units (live w.desk) word 0x28 (block_of ts t + 0x28) count (block_of ts t + 0xF0) 2 (after_fetch (chip_of w)) run.end run.chip (ap (λ (i : ℕ). i + 0x28) h.stays.4.dsa) h.size (omega (arith, place.below)) n (ap (word_at w.memory) (omega arith) ∙ b.command.1)
    (row version units (At088 t) c w h new word answer run 17 (MoveFrom (pos 0x28) 2) (omega arith) refl refl))
keeps version units (At0C8 t) c w new word answer e run h =
    let ts = tickets_of w.desk in
    let live-now = active-live (ts.stage t) h.works.plays.begun.stage in
    let place = h.tickets.block t live-now in
    let b = h.parts.blocks t live-now in
    let count : ℕ = 1 in
    let n : word_at w.memory (block_of ts t + 0x30) % 16777216 ≡ count = omega (arith, b.status.0) in
    moved-so version units (At0C8 t) c w h new word answer run (At0D0 t) 25 count (block_of ts t + 0x14) (omega arith) refl refl refl (λ s x. x) (record { closing = refl; closing' = refl; ahead = refl; ahead' = refl; works = λ n x. record { plays = work-spared version units (At0C8 t) c w h new word answer run t n x h.works.plays; extra = tt }; at = λ r i. record { dsa = i ∙ h.stays.4.dsa; temp = tt; scratcha = tt; scratchb = tt; ssid = tt; sfbr = tt }; linked = λ b r s. linked-still (about (At0D0 t)).link (tickets_of w.desk) w.bus b r s h.linked }) (λ end l f. sparing-status w.memory run.chip.memory ts h.tickets t live-now end (omega arith) f)
    (moves_from w.desk.units (live w.desk) word 0x30 (block_of ts t + 0x30) count (block_of ts t + 0x14) 3 (after_fetch (chip_of w)) run.end run.chip (ap (λ (i : ℕ). i + 0x30) h.stays.4.dsa) h.size (omega (arith, place.below)) n (ap (word_at w.memory) (omega arith) ∙ b.status.1)
    (row version units (At0C8 t) c w h new word answer run 25 (MoveFrom (pos 0x30) 3) (omega arith) refl refl))
keeps version units (At0D8 t) c w new word answer e run h =
    moved-so version units (At0D8 t) c w h new word answer run (At0E0 t) 27 1 0x1010 (omega arith) refl refl refl (λ s x. x) (record { closing = refl; closing' = refl; ahead = refl; ahead' = refl; works = λ n x. record { plays = work-spared version units (At0D8 t) c w h new word answer run t n x h.works.plays; extra = tt }; at = λ r i. record { dsa = i ∙ h.stays.4.dsa; temp = tt; scratcha = tt; scratchb = tt; ssid = tt; sfbr = tt }; linked = λ b r s. linked-still (about (At0E0 t)).link (tickets_of w.desk) w.bus b r s h.linked }) (λ end l f. sparing-msgin w.memory run.chip.memory (tickets_of w.desk) h.tickets end (omega arith) f)
    (moves_direct w.desk.units (live w.desk) word 1 0x1010 7 (after_fetch (chip_of w)) run.end run.chip (row version units (At0D8 t) c w h new word answer run 27 (Move 1 0x1010 7) (omega arith) refl refl))
keeps version units (At288 t) c w new word answer e run h =
    moved-so version units (At288 t) c w h new word answer run (At290 t) 81 1 0x1014 (omega arith) refl refl refl (λ s x. x) (record { closing = refl; closing' = refl; ahead = refl; ahead' = refl; works = λ n x. let q = work-spared version units (At288 t) c w h new word answer run t n x h.works.plays in record { plays = (q.begun, q.out); extra = (omega arith, omega arith, λ i. absurd (omega (arith, i))) }; at = λ r i. record { dsa = i ∙ h.stays.4.dsa; temp = tt; scratcha = tt; scratchb = tt; ssid = tt; sfbr = tt }; linked = λ b r s. tt }) (λ end l f. stays-same version units (At288 t) c w h new word answer run 81 (omega arith) refl refl)
    (moves_direct w.desk.units (live w.desk) word 1 0x1014 6 (after_fetch (chip_of w)) run.end run.chip (row version units (At288 t) c w h new word answer run 81 (Move 1 0x1014 6) (omega arith) refl refl))
keeps version units At2A0 c w new word answer e run h =
    let n : word_at w.memory 0x1820 % 16777216 ≡ 1 = omega (arith, h.parts.fixed.job_message.0) in
    moved-so version units At2A0 c w h new word answer run At2A8 84 1 0x18E0 (omega arith) refl refl refl (λ s x. x) (record { closing = refl; closing' = refl; ahead = refl; ahead' = refl; works = λ n x. record { plays = tt; extra = tt }; at = λ r i. record { dsa = tt; temp = tt; scratcha = tt; scratchb = tt; ssid = tt; sfbr = tt }; linked = λ b r s. tt }) (λ end l f. stays-same version units At2A0 c w h new word answer run 84 (omega arith) refl refl)
    (moves_from w.desk.units (live w.desk) word 0x20 0x1820 1 0x18E0 6 (after_fetch (chip_of w)) run.end run.chip (ap (λ (i : ℕ). i + 0x20) h.stays.4.dsa) h.size (omega arith) n h.parts.fixed.job_message.1
    (row version units At2A0 c w h new word answer run 84 (MoveFrom (pos 0x20) 6) (omega arith) refl refl))
keeps version units _ c w new word answer e run h = absurd cc
