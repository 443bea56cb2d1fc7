-- The 36 data moves keep the invariant, for every answer of the bus.
use Rattle.std.proofs.Common.{◌≡◌, ◌≢◌, ◌⊎◌, inl, inr, ℕ, suc, ◌+◌, ◌-◌, ◌*◌, ◌/◌, ◌%◌, ◌<◌, ◌≤◌, List, length, Bool, true, false, refl, sym, ap, subst, ◌∙◌, arith, Option, Some, None}
use Rattle.std.specs.Prelude.{if◌then◌else◌, ◌==◌}
use Rattle.std.proofs.lemmas.Bool.Decides.{nat_tests}
use Rattle.bench_words.specs.Memory.{word_at}
use Rattle.bench_words.specs.Views.{Outside}
use Rattle.rig_types.specs.declared.rig.Unit.{Unit as RigUnit}
use Rattle.scsi_words.specs.declared.phases.kinds.Direction.{Direction}
use Rattle.scripts_ops.specs.declared.values.Op.{Op}
use Rattle.cmd_block.specs.Block.{offset}
use Rattle.phase_fix.specs.declared.moves.DataMove.{DataMove}
use Rattle.phase_fix.specs.declared.moves.DataPhase.{DataPhase}
use Rattle.phase_fix.specs.declared.moves.DataPhase.TheVariants.{In, Out}
use Rattle.phase_fix.specs.declared.moves.Entry.{Entry}
use Rattle.phase_fix.specs.declared.moves.Entry.TheVariants.{Segment, Context}
use Rattle.phase_fix.specs.InScript.{instruction_of, phase_code}
use Rattle.phase_fix.specs.Moves.{IsEntry, count_field, address_field, first_segment}
use Rattle.phase_fix.specs.Remain.{count_of, address_of, segments_from, remain_at_move}
use Rattle.phase_fix.proofs.MoveLaws.{move_stands, move-place}
use Rattle.phase_fix.proofs.ScriptMoves.{finds_moves}
use Rattle.chip_regs.specs.Registers.{is_stopped, cause_of}
use Rattle.chip_regs.specs.declared.registers.Cause.{Cause}
use Rattle.chip_regs.specs.declared.registers.Cause.TheVariants.{Ma}
use Rattle.chip_step.specs.Step.{ChipStep, after_fetch}
use Rattle.chip_step.specs.Instructions.{Does}
use Rattle.chip_step.specs.declared.outcome.StepEnd.{StepEnd}
use Rattle.chip_step.specs.declared.outcome.StepEnd.TheVariants.{Ran, Stopped}
use Rattle.chip_step.proofs.Causes.{caused, ChipStep-stops}
use Rattle.chip_rows.proofs.StepWrites.{runs_on}
use Rattle.bus_law.specs.Bus.{BusState}
use Rattle.bus_law.specs.Moves.{moves}
use Rattle.ownership.specs.Standing.{StandsAt}
use Rattle.ownership.proofs.Steps.{is_row, follows}
use Rattle.world_law.specs.declared.reply.Reply.{Reply}
use Rattle.world_law.specs.declared.reply.Stop.{Stop}
use Rattle.world_law.specs.declared.reply.Stop.TheVariants as stop
use Rattle.world_law.specs.World.{World, live}
use Rattle.world_law.specs.ChipSteps.{chip_of, after_chip, stop_for, RunsChip}
use Rattle.word_owners.specs.Tickets.{Tickets, tickets_of, block_of, goal, way, IsLive}
use Rattle.word_owners.specs.Pointers.{IsSuffix, Names, Follows, move_place}
use Rattle.word_owners.specs.Points.{Moves, At340, At3C8, BehindContext, Point, about, Link, OfTicket, Moving}
use Rattle.word_owners.specs.Parts.{Counts, MayWork}
use Rattle.word_owners.specs.Works.{Works}
use Rattle.word_owners.specs.Holds.{Holds, Running, Mismatched, Broken, BrokenOff, Linked, AtPoint}
use Rattle.word_owners.specs.DataMoves.{DataMovesHold, AfterMove, behind_move, behind_last}
use Rattle.word_owners.proofs.Frames.{Same, active-live, names-frame}
use Rattle.word_owners.proofs.WriteFrames.{may-work}
use Rattle.word_owners.proofs.Suffixes.{names-behind, InGoal, in-goal, goal-place, InBuffer, InArea}
use Rattle.word_owners.proofs.BlockMoves.{Filled, filled-word, Still, MovedSo, refused, broke, whole, moves_from}
use Rattle.word_owners.proofs.Beside.{Beside, beside-low, beside-head, beside_holds}

-- ---- the entries of a block

pub address-next : (e : Entry) → offset (address_field e) ≡ offset (count_field e) + 4
address-next (Segment j) = omega arith
address-next (Context k) = omega arith

pub entry-below : (e : Entry) → IsEntry e → (0x40 ≤ offset (count_field e)) × (offset (count_field e) + 8 ≤ 0xE0)
entry-below (Segment j) h = (omega arith, omega arith)
entry-below (Context k) h = (omega arith, omega arith)

follows-some : (w : ℕ → ℕ) (b : ℕ) (phase : DataPhase) (e : Entry) → IsEntry e → Follows w b phase e → count_of w b e ≢ 0
follows-some w b phase (Segment j) h f = f j (omega arith) h
follows-some w b phase (Context k) h f = f.0

-- an entry reads as before
count-same : (w n : ℕ → ℕ) (b : ℕ) (e : Entry) → IsEntry e → Same w n b (b + 0xE0) → count_of n b e ≡ count_of w b e
count-same w n b e h o = let l = entry-below e h in ap (λ (i : ℕ). i % 16777216) (o (b + offset (count_field e)) (omega arith) (omega (arith, l)))

address-same : (w n : ℕ → ℕ) (b : ℕ) (e : Entry) → IsEntry e → Same w n b (b + 0xE0) → address_of n b e ≡ address_of w b e
address-same w n b e h o = let l = entry-below e h in o (b + offset (address_field e)) (omega arith) (omega (arith, l, address-next e))

-- ---- the next segment

some-left : (a : ℕ) → a ≢ 0 → 0 < a
some-left a h = grind arith

last-or : (j : ℕ) → j < 16 → (j ≡ 15) ⊎ (j < 15)
last-or j h = grind arith

is-last : (j : ℕ) → j ≡ 15 → (j == 15) ≡ true
is-last j h = grind (arith, nat_tests)

not-last : (j : ℕ) → j < 15 → (j == 15) ≡ false
not-last j h = grind (arith, nat_tests)

names-next : (w : ℕ → ℕ) (b : ℕ) (goes : Direction) (xs : List ℕ) (phase : DataPhase) (j : ℕ) → j < 15 → Names w b goes xs (move_place phase (Segment j)) (record { phase = phase; entry = Segment j })
    → Names w b goes xs (move_place phase (Segment (j + 1))) (record { phase = phase; entry = Segment (j + 1) })
names-next w b goes xs phase j l g =
    let z : DataMove = record { phase = phase; entry = Segment (j + 1) } in
    record {
      at = move-place z (omega arith);
      rest = subst (λ (i : Option DataMove). IsSuffix (remain_at_move w b i) xs) (sym (move-place z (omega arith)))
          (let e : suc j ≡ j + 1 = omega arith in subst (λ (i : ℕ). IsSuffix (segments_from w b i) xs) e (names-behind w b goes xs (move_place phase (Segment j)) (record { phase = phase; entry = Segment j }) g));
      follows = λ i f h. g.follows i (omega arith) h;
      way = g.way;
    }

last-place : (t : ℕ) (phase : DataPhase) → (about (behind_last t phase)).place ≡ move_place phase (Segment 15) + 8
last-place t In = refl
last-place t Out = refl

-- ---- the step

module _ (version : ℕ) (units : List RigUnit) (t : ℕ) (phase : DataPhase) (e : Entry) (c : Counts) (w new : World) (word : ℕ) (answer : Reply) (s : RunsChip w word answer new) (h : Holds version units (Running (Moves t (record { phase = phase; entry = e }))) c w) where
  abbrev x : DataMove
  x = record { phase = phase; entry = e }

  abbrev ts : Tickets
  ts = tickets_of w.desk

  abbrev b : ℕ
  b = block_of ts t

  abbrev v : ℕ → ℕ
  v = word_at w.memory

  abbrev n : ℕ → ℕ
  n = word_at s.chip.memory

  pub alive : IsLive (ts.stage t)
  alive = active-live (ts.stage t) h.works.plays.begun.stage

  entry : IsEntry e
  entry = (move_stands (move_place phase e) x h.works.extra.at).0

  some : 0 < count_of v b e
  some = some-left (count_of v b e) (follows-some v b phase e entry h.works.extra.follows)

  pub goes : InGoal (goal (ts.fixed t)) (address_of v b e) (count_of v b e)
  goes = in-goal v b (way (ts.fixed t)) (goal (ts.fixed t)) (move_place phase e) x h.works.extra

  stands : StandsAt version (move_place phase e / 8) (chip_of w)
  stands =
      let f = finds_moves (move_place phase e) version x h.works.extra.at in
      record { size = h.size; loaded = h.parts.loaded; running = h.stays.2; dsp = h.stays.3 ∙ omega (arith, f.aligned); inside = f.within }

  past : (after_fetch (chip_of w)).regs.dsp ≡ move_place phase e + 8
  past = let f = finds_moves (move_place phase e) version x h.works.extra.at in omega (arith, follows version (move_place phase e / 8) (chip_of w) stands, f.aligned)

  pub moved : MovedSo (count_of v b e) (address_of v b e) (after_fetch (chip_of w)) s.end s.chip
  moved =
      let f = finds_moves (move_place phase e) version x h.works.extra.at in
      let d : Does (moves w.desk.units (live w.desk)) word (instruction_of x) (chip_of w) (after_fetch (chip_of w)) s.end s.chip = subst (λ (o : Op). Does (moves w.desk.units (live w.desk)) word o (chip_of w) (after_fetch (chip_of w)) s.end s.chip) f.stands
      (is_row (moves w.desk.units (live w.desk)) version (move_place phase e / 8) word (chip_of w) s.end s.chip stands s.ran) in
      let l = entry-below e entry in
      let p = h.tickets.block t alive in
      let a : b + offset (count_field e) + 4 ≡ b + offset (address_field e) = omega (arith, address-next e) in
      moves_from w.desk.units (live w.desk) word (offset (count_field e)) (b + offset (count_field e)) (count_of v b e) (address_of v b e) (phase_code phase) (after_fetch (chip_of w)) s.end s.chip
      (ap (λ (i : ℕ). i + offset (count_field e)) h.stays.4.dsa) h.size (omega (arith, l, p.below)) refl (ap v a) d

  -- ---- memory: what was filled lies beside the parts

  by-place : InBuffer (address_of v b e) (count_of v b e) ⊎ InArea b (address_of v b e) (count_of v b e) → (y : ℕ) → y + 4 ≤ 0x200000 → Outside y (b + 0x100) (b + 0x112) → Outside y (address_of v b e) (address_of v b e + count_of v b e)
  by-place (inl g) y l o = omega (arith, g.from, l)
  by-place (inr g) y l o = omega (arith, g.from, g.to, o)

  wider : (less : ℕ) → less ≤ count_of v b e → Filled (address_of v b e) (address_of v b e + less) w.memory s.chip.memory → Filled (address_of v b e) (address_of v b e + count_of v b e) w.memory s.chip.memory
  wider less l f = record { size = f.size; bytes = f.bytes; other = λ i o. f.other i (elim o [ inl g ↦ inl g | inr g ↦ inr (omega (arith, g, l)) ]) }

  filled-beside : Filled (address_of v b e) (address_of v b e + count_of v b e) w.memory s.chip.memory → Beside v n ts t
  filled-beside f = record {
    live = alive;
    same = λ y l o. filled-word (address_of v b e) (address_of v b e + count_of v b e) y w.memory s.chip.memory f
        (by-place (goal-place (count_of v b e) (address_of v b e) ts t h.tickets alive some goes) y l o);
  }

  few : length ts.units ≤ 16
  few = subst (λ (us : List RigUnit). length us ≤ 16) (sym h.units_are) h.few_units

  module _ (o : Beside v n ts t) where
    head : Same v n b (b + 0xE0)
    head = beside-head v n ts t h.tickets o t alive

    entries : Same v n (b + 0x40) (b + 0xE0)
    entries y l u = head y (omega arith) u

    plays : MayWork n ts c t
    plays = may-work version v n ts c None few t (head (b + 0x10) (omega arith) (omega arith)) (λ y l u. beside-low v n ts t h.tickets o y (omega arith)) (beside-low v n ts t h.tickets o 0x1000 (omega arith)) h.works.plays

    still-moving : Works (Moving t x) n ts c
    still-moving = record { plays = plays; extra = names-frame v n b (way (ts.fixed t)) (goal (ts.fixed t)) (move_place phase e) x entries h.works.extra }

  -- ---- who is connected

  linked : (bus : BusState) → Still w.bus bus → Linked (OfTicket t) ts bus s.chip.regs
  linked bus (inl k) = elim h.linked [ inl g ↦ inl (k ∙ g) | inr g ↦ inr (k ∙ g) ]
  linked bus (inr k) = inr k

  -- ---- a stop that asks for a reset

  fault : (cause : Cause) → stop_for cause ≡ stop.MustReset → s.end ≡ Stopped cause → s.chip.memory ≡ w.memory → Holds version units Broken c new
  fault cause k end m =
      let stopped : is_stopped s.chip.regs ≡ true = caused s.chip.regs cause (ChipStep-stops (moves w.desk.units (live w.desk)) word (chip_of w) s.end s.chip s.ran cause end) in
      let made : Holds version units Broken c (record w { regs = s.chip.regs; bus = s.chip.bus; stop = stop.MustReset }) = record {
        size = h.size;
        bytes = h.bytes;
        units_are = h.units_are;
        few_units = h.few_units;
        version_is = h.version_is;
        tickets = h.tickets;
        checked = h.checked;
        put = h.put;
        take = h.take;
        parts = h.parts;
        tags = h.tags;
        donep = record { before = h.donep.before; entered = h.donep.entered; is = h.donep.is };
        works = record { plays = tt; extra = tt };
        stays = (refl, h.stays.1, stopped);
        linked = tt;
      } in
      subst (Holds version units Broken c) (sym (s.world ∙ ap (λ (i : StepEnd). after_chip w i s.chip) end ∙ ap (λ (i : Stop). record w { memory = s.chip.memory; regs = s.chip.regs; bus = s.chip.bus; stop = i }) k
      ∙ ap (λ (i : List ℕ). record w { memory = i; regs = s.chip.regs; bus = s.chip.bus; stop = stop.MustReset }) m)) made

  -- ---- broken off

  broken : (left : ℕ) → 0 < left → left ≤ count_of v b e → address_of v b e + count_of v b e ≤ 0x400000 → Filled (address_of v b e) (address_of v b e + (count_of v b e - left)) w.memory s.chip.memory → s.end ≡ Stopped Ma → s.chip.regs.dbc ≡ left
      → s.chip.regs.dsp ≡ (after_fetch (chip_of w)).regs.dsp → s.chip.regs.dsa ≡ w.regs.dsa → Still w.bus s.chip.bus → Holds version units (Mismatched t x new.regs.dbc) c new
  broken left l m fits f end dbc dsp dsa k =
      let o = filled-beside (wider (count_of v b e - left) (omega arith) f) in
      let cause : cause_of s.chip.regs ≡ Some Ma = ChipStep-stops (moves w.desk.units (live w.desk)) word (chip_of w) s.end s.chip s.ran Ma end in
      let counts = count-same v n b e entry (head o) in
      let off : BrokenOff n b x s.chip.regs.dbc s.chip.regs = record {
        dsp = dsp ∙ past;
        dsa = dsa ∙ h.stays.4.dsa;
        dbc = refl;
        entry = entry;
        some = omega (arith, dbc);
        most = omega (arith, dbc, counts);
        within = omega (arith, fits, counts, address-same v n b e entry (head o));
      } in
      let made = beside_holds version units (Moves t x) t c w h s.chip.memory o (Mismatched t x s.chip.regs.dbc) stop.Mismatch s.chip.regs s.chip.bus f.size f.bytes refl refl
      (still-moving o) (refl, h.stays.1, record { stopped = caused s.chip.regs Ma cause; is = cause }, off) (linked s.chip.bus k) in
      let q : new ≡ record w { memory = s.chip.memory; regs = s.chip.regs; bus = s.chip.bus; stop = stop.Mismatch } = s.world ∙ ap (λ (i : StepEnd). after_chip w i s.chip) end in
      subst (λ (i : World). Holds version units (Mismatched t x i.regs.dbc) c i) (sym q) made

  -- ---- whole

  goes-on : Filled (address_of v b e) (address_of v b e + count_of v b e) w.memory s.chip.memory → s.end ≡ Ran → s.chip.regs.dsp ≡ (after_fetch (chip_of w)).regs.dsp → s.chip.regs.dsa ≡ w.regs.dsa → Still w.bus s.chip.bus
      → (q : Point) → (about q).closing ≡ None → (about q).ahead ≡ 0 → (about q).place ≡ move_place phase e + 8 → (about q).link ≡ OfTicket t → (s.chip.regs.dsa ≡ b → AtPoint q ts c s.chip.regs) → (Beside v n ts t → Works (about q).work n ts c)
      → Holds version units (Running q) c new
  goes-on f end dsp dsa k q closing ahead place link at works =
      let o = filled-beside f in
      let running : is_stopped s.chip.regs ≡ false = runs_on (moves w.desk.units (live w.desk)) word (chip_of w) s.chip (subst (λ (i : StepEnd). ChipStep (moves w.desk.units (live w.desk)) word (chip_of w) i s.chip) end s.ran) in
      let made = beside_holds version units (Moves t x) t c w h s.chip.memory o (Running q) w.stop s.chip.regs s.chip.bus f.size f.bytes (sym closing) (sym ahead) (works o)
      (h.stays.0, h.stays.1, running, dsp ∙ past ∙ sym place, at (dsa ∙ h.stays.4.dsa)) (subst (λ (i : Link). Linked i ts s.chip.bus s.chip.regs) (sym link) (linked s.chip.bus k)) in
      subst (Holds version units (Running q) c) (sym (s.world ∙ ap (λ (i : StepEnd). after_chip w i s.chip) end)) made

  -- by the next point
  behind-last : (j : ℕ) → e ≡ Segment j → j ≡ 15 → (q : DataPhase) → phase ≡ q
      → ((p : Point) → (about p).closing ≡ None → (about p).ahead ≡ 0 → (about p).place ≡ move_place phase e + 8 → (about p).link ≡ OfTicket t → (s.chip.regs.dsa ≡ b → AtPoint p ts c s.chip.regs) → (Beside v n ts t → Works (about p).work n ts c) → Holds version units (Running p) c new)
      → Holds version units (Running (behind_last t q)) c new
  behind-last j i z In p goes = goes (At340 t) refl refl (ap (λ (y : DataPhase). move_place y (Segment 15) + 8) (sym p) ∙ ap (λ (y : ℕ). move_place phase (Segment y) + 8) (sym z) ∙ ap (λ (y : Entry). move_place phase y + 8) (sym i)) refl
      (λ d. record { dsa = d; temp = tt; scratcha = tt; scratchb = tt; ssid = tt; sfbr = tt }) (λ o. record { plays = plays o; extra = tt })
  behind-last j i z Out p goes = goes (At3C8 t) refl refl (ap (λ (y : DataPhase). move_place y (Segment 15) + 8) (sym p) ∙ ap (λ (y : ℕ). move_place phase (Segment y) + 8) (sym z) ∙ ap (λ (y : Entry). move_place phase y + 8) (sym i)) refl
      (λ d. record { dsa = d; temp = tt; scratcha = tt; scratchb = tt; ssid = tt; sfbr = tt }) (λ o. record { plays = plays o; extra = tt })

  behind-segment : (j : ℕ) → e ≡ Segment j → j < 15
      → ((p : Point) → (about p).closing ≡ None → (about p).ahead ≡ 0 → (about p).place ≡ move_place phase e + 8 → (about p).link ≡ OfTicket t → (s.chip.regs.dsa ≡ b → AtPoint p ts c s.chip.regs) → (Beside v n ts t → Works (about p).work n ts c) → Holds version units (Running p) c new)
      → Holds version units (Running (Moves t (record { phase = phase; entry = Segment (j + 1) }))) c new
  behind-segment j i l goes =
      let z : DataMove = record { phase = phase; entry = Segment (j + 1) } in
      let next : Names v b (way (ts.fixed t)) (goal (ts.fixed t)) (move_place phase (Segment (j + 1))) z = names-next v b (way (ts.fixed t)) (goal (ts.fixed t)) phase j l
      (subst (λ (y : Entry). Names v b (way (ts.fixed t)) (goal (ts.fixed t)) (move_place phase y) (record { phase = phase; entry = y })) i h.works.extra) in
      goes (Moves t z) refl refl ((let a : first_segment phase + 8 * (j + 1) ≡ first_segment phase + 8 * j + 8 = omega arith in a) ∙ ap (λ (y : Entry). move_place phase y + 8) (sym i)) refl
      (λ d. record { dsa = d; temp = tt; scratcha = tt; scratchb = tt; ssid = tt; sfbr = tt })
      (λ o. record { plays = plays o; extra = names-frame v n b (way (ts.fixed t)) (goal (ts.fixed t)) (move_place phase (Segment (j + 1))) z (entries o) next })

  behind-context : (k : ℕ) → e ≡ Context k
      → ((p : Point) → (about p).closing ≡ None → (about p).ahead ≡ 0 → (about p).place ≡ move_place phase e + 8 → (about p).link ≡ OfTicket t → (s.chip.regs.dsa ≡ b → AtPoint p ts c s.chip.regs) → (Beside v n ts t → Works (about p).work n ts c) → Holds version units (Running p) c new)
      → Holds version units (Running (BehindContext t phase k)) c new
  behind-context k i goes = goes (BehindContext t phase k) refl refl (ap (λ (y : Entry). move_place phase y + 8) (sym i)) refl
      (λ d. record { dsa = d; temp = tt; scratcha = tt; scratchb = tt; ssid = tt; sfbr = tt })
      (λ o. subst (λ (y : Entry). Works (Moving t (record { phase = phase; entry = y })) n ts c) i (still-moving o))

  behind : (y : Entry) → e ≡ y
      → ((p : Point) → (about p).closing ≡ None → (about p).ahead ≡ 0 → (about p).place ≡ move_place phase e + 8 → (about p).link ≡ OfTicket t → (s.chip.regs.dsa ≡ b → AtPoint p ts c s.chip.regs) → (Beside v n ts t → Works (about p).work n ts c) → Holds version units (Running p) c new)
      → Holds version units (Running (behind_move t phase y)) c new
  behind (Context k) i goes = behind-context k i goes
  behind (Segment j) i goes = elim (last-or j (subst IsEntry i entry)) [
    | inl z ↦ subst (λ (y : Bool). Holds version units (Running (if y then behind_last t phase else Moves t (record { phase = phase; entry = Segment (j + 1) }))) c new) (sym (is-last j z)) (behind-last j i z phase refl goes)
    | inr l ↦ subst (λ (y : Bool). Holds version units (Running (if y then behind_last t phase else Moves t (record { phase = phase; entry = Segment (j + 1) }))) c new) (sym (not-last j l)) (behind-segment j i l goes)
  ]

  step-ends : MovedSo (count_of v b e) (address_of v b e) (after_fetch (chip_of w)) s.end s.chip → AfterMove version units t x c new
  step-ends (refused cause k end m) = inr (inr (fault cause k end m))
  step-ends (broke left l m fits f end dbc dsp dsa k g) = inr (inl (broken left l m (subst (λ (i : ℕ). address_of v b e + count_of v b e ≤ i) h.size fits) f end dbc dsp dsa k))
  step-ends (whole fits f end dsp dsa k g) = inl (behind e refl (goes-on f end dsp dsa k))

  pub move-holds : AfterMove version units t x c new
  move-holds = step-ends moved

pub data_moves_hold : DataMovesHold
data_moves_hold version units t x c w new word answer s h = move-holds version units t x.phase x.entry c w new word answer s h
