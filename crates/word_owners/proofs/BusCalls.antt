-- Instructions that call the bus and leave memory: what each comes to, whatever the bus answers.
use Rattle.std.proofs.Common.{◌≡◌, ◌⊎◌, inl, inr, ℕ, ◌+◌, ◌-◌, ◌*◌, ◌%◌, ◌<◌, List, Bool, true, false, ◌&&◌, nat_lt, refl, sym, ap, subst, ◌∙◌, arith, Option, Some, None}
use Rattle.std.specs.Prelude.{is_none, option_map, length, slice_get, MatchBool}
use Rattle.std.proofs.lemmas.Bool.Decides.{nat_tests}
use Rattle.bench_words.specs.Memory.{word_at}
use Rattle.rig_types.specs.declared.rig.Unit.{Unit as RigUnit}
use Rattle.scsi_words.specs.declared.phases.kinds.Phase.{Phase as BusPhase}
use Rattle.scripts_ops.specs.declared.values.Condition.{Condition}
use Rattle.scripts_ops.specs.declared.values.Condition.TheVariants as condition
use Rattle.scripts_ops.specs.declared.values.Op.TheVariants.{Jump, Clear, Set, WaitDisconnect, Int}
use Rattle.driver_script.specs.Script.{instruction}
use Rattle.chip_regs.specs.Registers.{stop_with}
use Rattle.chip_regs.specs.declared.registers.Cause.TheVariants.{Sir, Ma, Udc}
use Rattle.chip_regs.specs.declared.registers.Regs.{Regs}
use Rattle.chip_step.specs.Event as event
use Rattle.chip_step.specs.Event.{Event}
use Rattle.chip_step.specs.Blocks.{Asks}
use Rattle.chip_step.specs.Chip.{Ends}
use Rattle.chip_step.specs.Connection.{Clears, Sets, Waits, WaitsAt}
use Rattle.chip_step.specs.Step.{after_fetch}
use Rattle.chip_step.specs.Transfers.{Decides, Transfers, TransfersAt}
use Rattle.chip_step.specs.declared.outcome.StepEnd.TheVariants.{Ran, Stopped}
use Rattle.phase_fix.specs.Moves.{move_at}
use Rattle.bus_law.specs.Bus.{BusState}
use Rattle.bus_law.specs.Moves.{moves}
use Rattle.bus_law.specs.Reselections.{Candidate, named_if, with_id, if_id, target_of as target_named}
use Rattle.bus_law.proofs.Connections.{connects}
use Rattle.ownership.proofs.Transfers.{stops_with}
use Rattle.world_law.specs.declared.reply.Reply.{Reply}
use Rattle.world_law.specs.World.{World, live}
use Rattle.world_law.specs.ChipSteps.{chip_of, RunsChip}
use Rattle.word_owners.specs.Tickets.{Tickets, tickets_of}
use Rattle.word_owners.specs.Points.{Point, about, Link, OfTicket, OfTarget, Nobody, Anyone}
use Rattle.word_owners.specs.Parts.{Counts}
use Rattle.word_owners.specs.Works.{Works}
use Rattle.word_owners.specs.Holds.{Holds, Running, NotData, Broken, AtPoint, Linked}
pub use Rattle.word_owners.proofs.BlockMoves.{by_bool, Still, still-then}
use Rattle.word_owners.proofs.ChipSteps.{Turns, arrives, lands, breaks, past, row, stands, stopped-for, linked-con}

-- ---- tests

pub when_false : (P Q : Type 0) (b : Bool) → b ≡ false → MatchBool b P Q → Q
when_false P Q true e h = absurd cc
when_false P Q false e h = h

pub both-true : (a b : Bool) → a ≡ true → b ≡ true → a && b ≡ true
both-true true b e f = f
both-true false b e f = absurd cc

-- ---- the bus

pub linked-still : (l : Link) (ts : Tickets) (b n : BusState) (r : Regs) → Still b n → Linked l ts b r → Linked l ts n r
linked-still (OfTicket t) ts b n r (inl s) (inl h) = inl (s ∙ h)
linked-still (OfTicket t) ts b n r (inl s) (inr h) = inr (s ∙ h)
linked-still (OfTicket t) ts b n r (inr s) h = inr s
linked-still (OfTarget i) ts b n r (inl s) (inl h) = inl (s ∙ h)
linked-still (OfTarget i) ts b n r (inl s) (inr h) = inr (s ∙ h)
linked-still (OfTarget i) ts b n r (inr s) h = inr s
linked-still Nobody ts b n r (inl s) h = (s ∙ h.0, h.1)
linked-still Nobody ts b n r (inr s) h = (s, h.1)
linked-still Anyone ts b n r s h = h

nobody-is : (o : Option ℕ) → true ≡ is_none o → o ≡ None
nobody-is None e = refl
nobody-is (Some x) e = absurd cc

-- a candidate has an ID below 8
if-id : (b : Bool) (c : Candidate) (by : ℕ) → nat_lt c.target 8 ≡ b → Some by ≡ option_map target_named (if_id b c) → by < 8
if-id true c by t e = let z : by ≡ c.target = cc in let l : c.target < 8 = grind (arith, nat_tests) in omega (arith, z, l)
if-id false c by t e = absurd cc

has-id : (o : Option Candidate) (by : ℕ) → Some by ≡ option_map target_named (with_id o) → by < 8
has-id None by e = absurd cc
has-id (Some c) by e = if-id (nat_lt c.target 8) c by refl e

pub id-below : (called : Bool) (cs : List Candidate) (word by : ℕ) → Some by ≡ option_map target_named (named_if called cs word) → by < 8
id-below true cs word by e = has-id (slice_get cs (word % 256 % length cs)) by e
id-below false cs word by e = absurd cc

module _ (version : ℕ) (units : List RigUnit) (p : Point) (c : Counts) (w : World) (h : Holds version units (Running p) c w) (new : World) (word : ℕ) (answer : Reply) (run : RunsChip w word answer new) where
  abbrev f : Regs
  f = (after_fetch (chip_of w)).regs

  abbrev bus_moves : BusState → Event → BusState → Type 0
  bus_moves = moves w.desk.units (live w.desk)

  same-at : (q : Point) → AtPoint q (tickets_of w.desk) c w.regs → AtPoint q (tickets_of w.desk) c f
  same-at q x = record { dsa = x.dsa; temp = x.temp; scratcha = x.scratcha; scratchb = x.scratchb; ssid = x.ssid; sfbr = x.sfbr }

  -- it goes on with the registers of the fetch
  pub passes : (q : Point) (k : ℕ) → k < 151 → (about p).place ≡ 8 * k → (about q).place ≡ 8 * k + 8 → Ends Ran w.memory f run.end run.chip → Still w.bus run.chip.bus
      → Turns version units p c w h new word answer run q → Holds version units (Running q) c new
  passes q k inside from to e s x = arrives version units p c w h new word answer run q f e (record {
    closing = x.closing;
    ahead = x.ahead;
    works = x.works;
    running = h.stays.2;
    dsp = past version units p c w h new word answer run k inside from ∙ sym to;
    at = same-at q x.at;
    linked = linked-con (about q).link (tickets_of w.desk) run.chip.bus w.regs f refl (linked-still (about q).link (tickets_of w.desk) w.bus run.chip.bus w.regs s x.linked);
  })

  -- a phase mismatch at another instruction than a data move
  pub mismatches : (k : ℕ) (r : Regs) → Ends (Stopped Ma) w.memory r run.end run.chip → r.dsp ≡ 8 * k + 8 → move_at (8 * k) ≡ None → (about p).closing ≡ None → (about p).ahead ≡ 0 → Holds version units NotData c new
  mismatches k r e d none closing ahead =
      let z : r.dsp - 8 ≡ 8 * k = omega (arith, d) in
      lands version units p c w h new word answer run NotData (Stopped Ma) r e (record {
        closing = closing;
        ahead = ahead;
        works = record { plays = tt; extra = tt };
        stays = (refl, h.stays.1, stopped-for version units p c w h new word answer run Ma w.memory r e, ap move_at z ∙ none);
        linked = tt;
      })

  -- ---- CLEAR of ACK, SET of ATN

  pub cleared : (q : Point) (k : ℕ) → k < 151 → (about p).place ≡ 8 * k → instruction k version ≡ Clear true false → (about q).place ≡ 8 * k + 8 → Turns version units p c w h new word answer run q → Holds version units (Running q) c new
  cleared q k inside from here to x =
      let d : Clears bus_moves true false (after_fetch (chip_of w)) run.end run.chip = row version units p c w h new word answer run k (Clear true false) inside from here in
      let s : Still d.mid run.chip.bus = connects w.desk.units (live w.desk) d.mid event.ClearAck run.chip.bus d.ack_then in
      passes q k inside from to d.ends (subst (λ (b : BusState). Still b run.chip.bus) d.atn_first s) x

  pub sets : (q : Point) (k : ℕ) → k < 151 → (about p).place ≡ 8 * k → instruction k version ≡ Set false true → (about q).place ≡ 8 * k + 8 → Turns version units p c w h new word answer run q → Holds version units (Running q) c new
  sets q k inside from here to x =
      let d : Sets bus_moves false true (after_fetch (chip_of w)) run.end run.chip = row version units p c w h new word answer run k (Set false true) inside from here in
      passes q k inside from to d.ends (connects w.desk.units (live w.desk) w.bus (event.SetAtn true) run.chip.bus d.asserts) x

  -- ---- WAIT DISCONNECT

  waits-at : (q : Point) (k : ℕ) (gone : Bool) → k < 151 → (about p).place ≡ 8 * k → (about q).place ≡ 8 * k + 8 → (about q).link ≡ Nobody → move_at (8 * k) ≡ None → (about p).closing ≡ None → (about p).ahead ≡ 0
      → bus_moves w.bus (event.Leave word gone) run.chip.bus → WaitsAt gone (after_fetch (chip_of w)) run.end run.chip
      → (about q).closing ≡ None → (about q).ahead ≡ 0 → Works (about q).work (word_at w.memory) (tickets_of w.desk) c → AtPoint q (tickets_of w.desk) c w.regs
      → Holds version units (Running q) c new ⊎ Holds version units NotData c new
  waits-at q k true inside from to free none closing ahead m e cq aq works x =
      let gone : run.chip.bus.connected ≡ None = nobody-is run.chip.bus.connected (m.0 ∙ ap (λ (b : BusState). is_none b.connected) (sym m.1)) in
      let r : Regs = record f { con = false } in
      inl (arrives version units p c w h new word answer run q r e (record {
        closing = closing ∙ sym cq;
        ahead = ahead ∙ sym aq;
        works = works;
        running = h.stays.2;
        dsp = past version units p c w h new word answer run k inside from ∙ sym to;
        at = record { dsa = x.dsa; temp = x.temp; scratcha = x.scratcha; scratchb = x.scratchb; ssid = x.ssid; sfbr = x.sfbr };
        linked = subst (λ (l : Link). Linked l (tickets_of w.desk) run.chip.bus r) (sym free) (gone, refl);
      }))
  waits-at q k false inside from to free none closing ahead m e cq aq works x =
      inr (mismatches k (stop_with Ma (record f { dbc = 0 })) e (past version units p c w h new word answer run k inside from) none closing ahead)

  pub waited : (q : Point) (k : ℕ) → k < 151 → (about p).place ≡ 8 * k → instruction k version ≡ WaitDisconnect → (about q).place ≡ 8 * k + 8 → (about q).link ≡ Nobody → move_at (8 * k) ≡ None → (about p).closing ≡ None → (about p).ahead ≡ 0
      → (about q).closing ≡ None → (about q).ahead ≡ 0 → Works (about q).work (word_at w.memory) (tickets_of w.desk) c → AtPoint q (tickets_of w.desk) c w.regs
      → Holds version units (Running q) c new ⊎ Holds version units NotData c new
  waited q k inside from here to free none closing ahead cq aq works x =
      let d : Waits bus_moves word (after_fetch (chip_of w)) run.end run.chip = row version units p c w h new word answer run k WaitDisconnect inside from here in
      waits-at q k d.0 inside from to free none closing ahead d.1 d.2 cq aq works x

  -- ---- JUMP by a condition

  asks-still : (shown : Option BusPhase) (old b : BusState) → Asks bus_moves word shown old b → Still old b
  asks-still shown old b a = still-then old a.mid b (connects w.desk.units (live w.desk) old event.ClearAck a.mid a.acked) (connects w.desk.units (live w.desk) a.mid (event.Phase word shown) b a.asked)

  decides-still : (on : Condition) (sfbr : ℕ) (old : BusState) (d : Option Bool) (b : BusState) → Decides bus_moves word on sfbr old d b → Still old b
  decides-still condition.Always sfbr old d b x = inl (ap (λ (i : BusState). i.connected) x.1)
  decides-still (condition.Byte negated mask value) sfbr old d b x = inl (ap (λ (i : BusState). i.connected) x.1)
  decides-still (condition.Phase true negated code) sfbr old d b x = asks-still x.0 old b x.1
  decides-still (condition.Phase false negated code) sfbr old d b x = inl (ap (λ (i : BusState). i.connected) x.2)

  -- a condition that asks for no phase always has an answer
  abbrev pub IsIf : Condition → Type 0
  IsIf (condition.Phase true negated code) = ⊥
  IsIf _ = Unit {0}

  decides-so : (on : Condition) (sfbr : ℕ) (old : BusState) (b : BusState) → IsIf on → Decides bus_moves word on sfbr old None b → ⊥
  decides-so condition.Always sfbr old b i x = let e = x.0 in absurd cc
  decides-so (condition.Byte negated mask value) sfbr old b i x = let e = x.0 in absurd cc
  decides-so (condition.Phase true negated code) sfbr old b i x = i
  decides-so (condition.Phase false negated code) sfbr old b i x = let e = x.3 in absurd cc

  module _ (q n : Point) (k a : ℕ) (on : Condition) (inside : k < 151) (from : (about p).place ≡ 8 * k) (here : instruction k version ≡ Jump on a) (to : a ≡ (about q).place) (next : (about n).place ≡ 8 * k + 8)
      (x : Turns version units p c w h new word answer run q) (y : Turns version units p c w h new word answer run n) where
    d : Transfers bus_moves word on Ran (record f { dsp = a }) (after_fetch (chip_of w)) run.end run.chip
    d = row version units p c w h new word answer run k (Jump on a) inside from here

    s : Still w.bus run.chip.bus
    s = decides-still on w.regs.sfbr w.bus d.decision run.chip.bus d.decides

    jumps : Ends Ran w.memory (record f { dsp = a }) run.end run.chip → Holds version units (Running q) c new
    jumps e = arrives version units p c w h new word answer run q (record f { dsp = a }) e (record {
      closing = x.closing;
      ahead = x.ahead;
      works = x.works;
      running = h.stays.2;
      dsp = to;
      at = record { dsa = x.at.dsa; temp = x.at.temp; scratcha = x.at.scratcha; scratchb = x.at.scratchb; ssid = x.at.ssid; sfbr = x.at.sfbr };
      linked = linked-con (about q).link (tickets_of w.desk) run.chip.bus w.regs (record f { dsp = a }) refl (linked-still (about q).link (tickets_of w.desk) w.bus run.chip.bus w.regs s x.linked);
    })

    by-decision : (o : Option Bool) → TransfersAt o Ran (record f { dsp = a }) (after_fetch (chip_of w)) run.end run.chip
        → Holds version units (Running q) c new ⊎ (Holds version units (Running n) c new ⊎ (Ends (Stopped Udc) w.memory (stop_with Udc f) run.end run.chip × (o ≡ None)))
    by-decision None e = inr (inr (e, refl))
    by-decision (Some true) e = inl (jumps e)
    by-decision (Some false) e = inr (inl (passes n k inside from next e s y))

    pub either : IsIf on → Holds version units (Running q) c new ⊎ Holds version units (Running n) c new
    either i = elim (by-decision d.decision d.transfers) [
      | inl e ↦ inl e
      | inr (inl e) ↦ inr e
      | inr (inr e) ↦ absurd (decides-so on w.regs.sfbr w.bus run.chip.bus i (subst (λ (o : Option Bool). Decides bus_moves word on w.regs.sfbr w.bus o run.chip.bus) e.1 d.decides))
    ]

    pub asked : (about p).closing ≡ None → (about p).ahead ≡ 0 → Holds version units (Running q) c new ⊎ (Holds version units (Running n) c new ⊎ Holds version units Broken c new)
    asked closing ahead = elim (by-decision d.decision d.transfers) [
      | inl e ↦ inl e
      | inr (inl e) ↦ inr (inl e)
      | inr (inr e) ↦ inr (inr (breaks version units p c w h new word answer run Udc (stop_with Udc f) e.0 refl closing ahead))
    ]

  -- ---- INT

  pub stops : (k v : ℕ) → k < 151 → (about p).place ≡ 8 * k → instruction k version ≡ Int condition.Always v → Ends (Stopped (Sir v)) w.memory (stop_with (Sir v) f) run.end run.chip × (run.chip.bus ≡ w.bus)
  stops k v inside from here =
      let b = stops_with bus_moves v (chip_of w) run.end run.chip (record { version = version; k = k; word = word; stands = stands version units p c w h k inside from; here = here; ran = run.ran }) in
      (b.ends, b.bus_is)
