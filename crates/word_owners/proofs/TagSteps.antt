-- The tag of a reselection keeps the invariant: its messages, the table that it names in both versions, and its entry.
use Rattle.std.proofs.Common.{◌≡◌, ◌⊎◌, inl, inr, ℕ, pos, ◌+◌, ◌-◌, ◌*◌, ◌/◌, ◌%◌, ◌^◌, ◌<◌, List, length, slice_index, Bool, true, false, nat_eq, nat_le, nat_lt, refl, sym, ap, subst, ◌∙◌, arith, Option, Some, None}
use Rattle.std.specs.Prelude.{bit_and, bit_or, if◌then◌else◌, slice_index_or}
use Rattle.std.proofs.lemmas.Bool.Decides.{nat_tests}
use Rattle.bench_words.specs.Memory.{word_at}
use Rattle.rig_types.specs.declared.rig.Unit.{Unit as RigUnit}
use Rattle.host_map.specs.Places.{table_at, tag_entry}
use Rattle.scripts_ops.specs.declared.values.Address.TheVariants.{FromDsa}
use Rattle.scripts_ops.specs.declared.values.Change.TheVariants as change
use Rattle.scripts_ops.specs.declared.values.Condition.TheVariants as condition
use Rattle.scripts_ops.specs.declared.values.Op.TheVariants as op
use Rattle.scsi_words.specs.Phases.{phase_code}
use Rattle.scsi_words.specs.declared.phases.kinds.Phase.{Phase as BusPhase}
use Rattle.desk_law.specs.Desk.{no_unit}
use Rattle.driver_script.specs.Script.{instruction}
use Rattle.driver_script.specs.Moves.{data_move}
use Rattle.driver_script.proofs.ScriptTests.{below}
use Rattle.chip_regs.specs.Bytes.{Dsa, with_digit}
use Rattle.chip_regs.specs.Registers.{byte_at, written, stop_with}
use Rattle.chip_regs.specs.declared.registers.Cause.TheVariants.{Sir, Bf, Ma, Udc}
use Rattle.chip_regs.specs.declared.registers.Regs.{Regs}
use Rattle.chip_regs.proofs.Words.{wide_by_bytes}
use Rattle.chip_step.specs.Blocks.{AsksAndMoves, BlockMoves, Moves, MovesAt, loaded as move_loaded}
use Rattle.chip_step.specs.Chip.{Chip, Becomes, Ends, Stops}
use Rattle.chip_step.specs.Event.{Event}
use Rattle.chip_step.specs.Step.{ChipStep, after_fetch}
use Rattle.chip_rows.proofs.StepWrites.{runs_on}
use Rattle.chip_step.specs.Transfers.{Transfers, TransfersAt}
use Rattle.chip_step.specs.declared.outcome.StepEnd.{StepEnd}
use Rattle.chip_step.specs.declared.outcome.StepEnd.TheVariants.{Ran, Stopped}
use Rattle.phase_fix.specs.Moves.{move_at}
use Rattle.bus_law.specs.Bus.{BusState}
use Rattle.bus_law.specs.Moves.{moves}
use Rattle.ownership.specs.Footprint.{footprint}
use Rattle.ownership.specs.Words.{IsHead}
use Rattle.world_law.specs.declared.reply.Reply.{Reply}
use Rattle.world_law.specs.World.{World, live}
use Rattle.world_law.specs.ChipSteps.{chip_of, stop_for, RunsChip}
use Rattle.world_law.specs.declared.reply.Stop.TheVariants as stop
use Rattle.word_owners.specs.Tickets.{tickets_of, block_of, target_of}
use Rattle.word_owners.specs.Points.{Point, about, At160, At168, At170, At178, At180, At188, At190, At198, At1A0, At1A0None, At460, At468, At470, At478, At480, At488, At490, At498, At4A0, At4A8, At4B0, OfTarget}
use Rattle.word_owners.specs.Parts.{Counts}
use Rattle.word_owners.specs.Works.{Works}
use Rattle.word_owners.specs.Holds.{Spot, Holds, Running, NotData, Broken, AtPoint, Linked}
use Rattle.word_owners.specs.Nexts.{IsNext, Leads, To}
use Rattle.word_owners.proofs.PointGroups.{of_tags, StepsHold}
use Rattle.word_owners.proofs.BlockMoves.{MovedSo, refused, broke, whole, moves_direct}
use Rattle.word_owners.proofs.BusCalls.{by_bool, linked-still, cleared, either, passes}
use Rattle.word_owners.proofs.BusSteps.{on-either}
use Rattle.word_owners.proofs.ChipSteps.{Turns, arrives, breaks, ended, jumped, leads, loaded, past, row, linked-con, stopped-for}
use Rattle.word_owners.proofs.MessageMoves.{sparing-msgin, moved-so, spared}
use Rattle.word_owners.proofs.Patches.{few}

-- ---- tests of all bytes

same : (a b : ℕ) → nat_eq a b ≡ true → a ≡ b
same a b h = grind (arith, nat_tests)

-- the tag without its two low bits
high-bits : (g : ℕ) → g < 256 → bit_and g 0xFC ≡ g - g % 4
high-bits g h = same (bit_and g 0xFC) (g - g % 4) (below 256 g (λ i. nat_eq (bit_and i 0xFC) (i - i % 4)) refl h)

no-change : (k : ℕ) → k < 256 → bit_or k 0 ≡ k
no-change k h = same (bit_or k 0) k (below 256 k (λ i. nat_eq (bit_or i 0) i) refl h)

-- DSA1 of the second table, of the third and of the fourth
second-table : (u : ℕ) → u < 16 → bit_or (64 + 4 * u) 1 ≡ 65 + 4 * u
second-table u h = same (bit_or (64 + 4 * u) 1) (65 + 4 * u) (below 16 u (λ i. nat_eq (bit_or (64 + 4 * i) 1) (65 + 4 * i)) refl h)

third-table : (u : ℕ) → u < 16 → bit_or (64 + 4 * u) 2 ≡ 66 + 4 * u
third-table u h = same (bit_or (64 + 4 * u) 2) (66 + 4 * u) (below 16 u (λ i. nat_eq (bit_or (64 + 4 * i) 2) (66 + 4 * i)) refl h)

fourth-table : (u : ℕ) → u < 16 → bit_or (64 + 4 * u) 3 ≡ 67 + 4 * u
fourth-table u h = same (bit_or (64 + 4 * u) 3) (67 + 4 * u) (below 16 u (λ i. nat_eq (bit_or (64 + 4 * i) 3) (67 + 4 * i)) refl h)

digit-one : (u : ℕ) → u < 16 → table_at u 0 / 256 % 256 ≡ 64 + 4 * u
digit-one u h = omega arith

table-digit : (u s v : ℕ) → u < 16 → s < 4 → v ≡ 64 + 4 * u + s → with_digit (table_at u 0) 1 v ≡ table_at u s
table-digit u s v h i e = let z : table_at u 0 / 256 % 256 ≡ 64 + 4 * u = omega arith in omega (arith, z, e)

entry-digit : (u s k : ℕ) → u < 16 → s < 4 → k < 256 → k % 4 ≡ 0 → with_digit (table_at u s) 0 k ≡ tag_entry u (k + s)
entry-digit u s k h i l z = let e : (k + s) % 4 ≡ s = omega arith in let d : table_at u s % 256 ≡ 0 = omega arith in omega (arith, e, d)

-- ---- a step that changes SFBR or a byte of DSA

module _ (version : ℕ) (units : List RigUnit) (p : Point) (c : Counts) (w : World) (h : Holds version units (Running p) c w) (new : World) (word : ℕ) (answer : Reply) (run : RunsChip w word answer new) where
  abbrev f : Regs
  f = (after_fetch (chip_of w)).regs

  -- what is to be shown of the point behind it
  record Behind (q : Point) (r : Regs) : Type 0 where
    closing : (about p).closing ≡ (about q).closing
    ahead : (about p).ahead ≡ (about q).ahead
    link : (about q).link ≡ (about p).link
    works : Works (about q).work (word_at w.memory) (tickets_of w.desk) c
    at : AtPoint q (tickets_of w.desk) c r

  sfbr-becomes : (q : Point) (k v : ℕ) → k < 151 → (about p).place ≡ 8 * k → (about q).place ≡ 8 * k + 8 → Becomes (record f { sfbr = v }) (after_fetch (chip_of w)) run.end run.chip → Behind q (record f { sfbr = v }) → Holds version units (Running q) c new
  sfbr-becomes q k v inside from to b x = arrives version units p c w h new word answer run q (record f { sfbr = v }) b.ends (record {
    closing = x.closing;
    ahead = x.ahead;
    works = x.works;
    running = h.stays.2;
    dsp = past version units p c w h new word answer run k inside from ∙ sym to;
    at = x.at;
    linked = linked-con (about q).link (tickets_of w.desk) run.chip.bus w.regs (record f { sfbr = v }) refl
        (linked-still (about q).link (tickets_of w.desk) w.bus run.chip.bus w.regs (inl (ap (λ (i : BusState). i.connected) b.bus_is)) (subst (λ l. Linked l (tickets_of w.desk) w.bus w.regs) (sym x.link) h.linked));
  })

  dsa-becomes : (q : Point) (k v : ℕ) → k < 151 → (about p).place ≡ 8 * k → (about q).place ≡ 8 * k + 8 → Becomes (record f { dsa = v }) (after_fetch (chip_of w)) run.end run.chip → Behind q (record f { dsa = v }) → Holds version units (Running q) c new
  dsa-becomes q k v inside from to b x = arrives version units p c w h new word answer run q (record f { dsa = v }) b.ends (record {
    closing = x.closing;
    ahead = x.ahead;
    works = x.works;
    running = h.stays.2;
    dsp = past version units p c w h new word answer run k inside from ∙ sym to;
    at = x.at;
    linked = linked-con (about q).link (tickets_of w.desk) run.chip.bus w.regs (record f { dsa = v }) refl
        (linked-still (about q).link (tickets_of w.desk) w.bus run.chip.bus w.regs (inl (ap (λ (i : BusState). i.connected) b.bus_is)) (subst (λ l. Linked l (tickets_of w.desk) w.bus w.regs) (sym x.link) h.linked));
  })

  -- a byte of DSA is written
  byte-written : (k v a : ℕ) → k < 4 → v < 256 → w.regs.dsa < 2 ^ 32 → with_digit w.regs.dsa k v ≡ a → Becomes (written (0x10 + k) v f) (after_fetch (chip_of w)) run.end run.chip → Becomes (record f { dsa = a }) (after_fetch (chip_of w)) run.end run.chip
  byte-written k v a small byte word_small is b =
      subst (λ (i : ℕ). Becomes (record f { dsa = i }) (after_fetch (chip_of w)) run.end run.chip) is
      (subst (λ (r : Regs). Becomes r (after_fetch (chip_of w)) run.end run.chip) (wide_by_bytes.writes Dsa k v f small byte word_small) b)

  -- DSA1 of the first table is that of another
  table-written : (u s bits v : ℕ) → u < 16 → s < 4 → w.regs.dsa ≡ table_at u 0 → bit_or (64 + 4 * u) bits ≡ v → v ≡ 64 + 4 * u + s → Becomes (written 0x11 (bit_or (byte_at 0x11 f) bits) f) (after_fetch (chip_of w)) run.end run.chip
      → Becomes (record f { dsa = table_at u s }) (after_fetch (chip_of w)) run.end run.chip
  table-written u s bits v hu hs d o e b =
      let one : byte_at 0x11 f ≡ 64 + 4 * u = wide_by_bytes.reads Dsa 1 f (omega arith) ∙ ap (λ (i : ℕ). i / 256 % 256) d ∙ digit-one u hu in
      let two : bit_or (byte_at 0x11 f) bits ≡ v = ap (λ (i : ℕ). bit_or i bits) one ∙ o in
      byte-written 1 v (table_at u s) (omega arith) (omega arith) (omega (arith, d)) (ap (λ (i : ℕ). with_digit i 1 v) d ∙ table-digit u s v hu hs e)
      (subst (λ (i : ℕ). Becomes (written 0x11 i f) (after_fetch (chip_of w)) run.end run.chip) two b)

-- INT by a byte that is shown: the bus is to be reset, or the chip goes on
module _ (version : ℕ) (units : List RigUnit) (p : Point) (c : Counts) (w : World) (h : Holds version units (Running p) c w) (new : World) (word : ℕ) (answer : Reply) (run : RunsChip w word answer new) where
  by-decision : (q : Point) (k v : ℕ) (o : Option Bool) (d : Bool) → ((s : Spot) → To q s ⊎ (s ≡ Broken) → IsNext p s) → k < 151 → (about p).place ≡ 8 * k → stop_for (Sir v) ≡ stop.MustReset → (about q).place ≡ 8 * k + 8
      → (about p).closing ≡ None → (about p).ahead ≡ 0 → Turns version units p c w h new word answer run q → run.chip.bus.connected ≡ w.bus.connected
      → TransfersAt o (Stopped (Sir v)) (stop_with (Sir v) (after_fetch (chip_of w)).regs) (after_fetch (chip_of w)) run.end run.chip → o ≡ Some d → Leads (IsNext p) version units c new
  by-decision q k v None d next inside from must to closing ahead x s t e = absurd cc
  by-decision q k v (Some true) d next inside from must to closing ahead x s t e =
      leads version units p c w h new word answer run (IsNext p) Broken (next Broken (inr refl)) (breaks version units p c w h new word answer run (Sir v) (stop_with (Sir v) (after_fetch (chip_of w)).regs) t must closing ahead)
  by-decision q k v (Some false) d next inside from must to closing ahead x s t e =
      leads version units p c w h new word answer run (IsNext p) (Running q) (next (Running q) (inl refl)) (passes version units p c w h new word answer run q k inside from to t (inl s) x)

  int-or : (q : Point) (k v : ℕ) → ((s : Spot) → To q s ⊎ (s ≡ Broken) → IsNext p s) → k < 151 → (about p).place ≡ 8 * k → instruction k version ≡ op.Int (condition.Byte true 0 0x20) v → stop_for (Sir v) ≡ stop.MustReset → (about q).place ≡ 8 * k + 8
      → (about p).closing ≡ None → (about p).ahead ≡ 0 → Turns version units p c w h new word answer run q → Leads (IsNext p) version units c new
  int-or q k v next inside from here must to closing ahead x =
      let d : Transfers (moves w.desk.units (live w.desk)) word (condition.Byte true 0 0x20) (Stopped (Sir v)) (stop_with (Sir v) (after_fetch (chip_of w)).regs) (after_fetch (chip_of w)) run.end run.chip =
      row version units p c w h new word answer run k (op.Int (condition.Byte true 0 0x20) v) inside from here in
      by-decision q k v d.decision _ next inside from must to closing ahead x (ap (λ (b : BusState). b.connected) d.decides.1) d.transfers d.decides.0

-- what the row of a move says of SFBR
module _ {B : Type 0} (calls : B → Event → B → Type 0) (word : ℕ) (old : Chip B) (end : StepEnd) (new : Chip B) (ran : end ≡ Ran) where
  finished : (b : B) → Moves calls 7 (record (move_loaded 1 0x1010 old) { bus = b }) end new → new.regs.sfbr ≡ slice_index new.memory 0x1010
  finished b m = by_bool _ _ (new.regs.sfbr ≡ slice_index new.memory 0x1010) (nat_eq m.left 0) m.finishes
      (λ z f. let zero-left : m.left ≡ 0 = grind (arith, nat_tests, z) in ap (λ (r : Regs). r.sfbr) f.2 ∙ ap (λ (n : ℕ). if nat_lt n 1 then slice_index new.memory 0x1010 else old.regs.sfbr) zero-left)
      (λ z f. let e : Ran ≡ Stopped Ma = sym ran ∙ f.1 in absurd cc)

  came : (shown : Option BusPhase) (b : B) → MovesAt calls word shown 7 (move_loaded 1 0x1010 old) b end new → new.regs.sfbr ≡ slice_index new.memory 0x1010
  came None b m = let e : Ran ≡ Stopped Udc = sym ran ∙ m.ends.is in absurd cc
  came (Some p) b m = by_bool (Moves calls 7 (record (move_loaded 1 0x1010 old) { bus = b }) end new) (Stops Ma (record (move_loaded 1 0x1010 old) { bus = b }) end new) (new.regs.sfbr ≡ slice_index new.memory 0x1010) (nat_eq (phase_code p) 7) m
      (λ z f. finished b f)
      (λ z f. let e : Ran ≡ Stopped Ma = sym ran ∙ f.ends.is in absurd cc)

-- the byte of a message that came is in SFBR
message-byte : {B : Type 0} (calls : B → Event → B → Type 0) (word : ℕ) (old : Chip B) (end : StepEnd) (new : Chip B) → end ≡ Ran → BlockMoves calls word 7 (move_loaded 1 0x1010 old) end new → new.regs.sfbr ≡ slice_index new.memory 0x1010
message-byte {B} calls word old end new ran h =
    let c : Chip B = move_loaded 1 0x1010 old in
    by_bool (AsksAndMoves calls word 7 c end new) (Stops Bf c end new) (new.regs.sfbr ≡ slice_index new.memory 0x1010) (nat_le (0x1010 + 1) (length old.memory)) h
    (λ z a. came calls word old end new ran a.shown a.bus a.moved)
    (λ z a. let e : Ran ≡ Stopped Bf = sym ran ∙ a.ends.is in absurd cc)

-- 0x180: the tag comes
module _ (version : ℕ) (units : List RigUnit) (c : Counts) (w : World) (word : ℕ) (answer : Reply) (new : World) (u r : ℕ) (h : Holds version units (Running (At180 u r)) c w) (run : RunsChip w word answer new) where
  tag-came : MovedSo 1 0x1010 (after_fetch (chip_of w)) run.end run.chip → BlockMoves (moves w.desk.units (live w.desk)) word 7 (move_loaded 1 0x1010 (after_fetch (chip_of w))) run.end run.chip → Leads (IsNext (At180 u r)) version units c new
  unfolding instruction move_at
  tag-came (refused cause must e same) d = leads version units (At180 u r) c w h new word answer run (IsNext (At180 u r)) Broken (inr (inr refl))
      (breaks version units (At180 u r) c w h new word answer run cause run.chip.regs (record { is = e; memory_is = same; regs_are = refl }) must refl refl)
  tag-came (broke left o l g f e b dsp dsa s t) d =
      let z = sparing-msgin w.memory run.chip.memory (tickets_of w.desk) h.tickets (0x1010 + (1 - left)) (omega arith) f in
      let y : run.chip.regs.dsp - 8 ≡ 0x180 = omega (arith, dsp, past version units (At180 u r) c w h new word answer run 48 (omega arith) refl) in
      let ends : Ends (Stopped Ma) run.chip.memory run.chip.regs run.end run.chip = record { is = e; memory_is = refl; regs_are = refl } in
      leads version units (At180 u r) c w h new word answer run (IsNext (At180 u r)) NotData (inr (inl refl)) (subst (Holds version units NotData c) (sym (ended version units (At180 u r) c w h new word answer run (Stopped Ma) run.chip.memory run.chip.regs ends))
      (spared version units (At180 u r) c w h new word answer run NotData stop.Mismatch run.chip.memory run.chip.regs run.chip.bus z f.size (f.bytes h.bytes) refl refl (record { plays = tt; extra = tt })
      (refl, h.stays.1, stopped-for version units (At180 u r) c w h new word answer run Ma run.chip.memory run.chip.regs ends, ap move_at y) tt))
  tag-came (whole g f e dsp dsa s t) d =
      let m : List ℕ = run.chip.memory in
      let z = sparing-msgin w.memory m (tickets_of w.desk) h.tickets 0x1011 (omega arith) f in
      let byte : run.chip.regs.sfbr ≡ slice_index m 0x1010 = message-byte (moves w.desk.units (live w.desk)) word (after_fetch (chip_of w)) run.end run.chip e d in
      let small : run.chip.regs.sfbr < 256 = subst (λ (i : ℕ). i < 256) (sym byte) ((f.bytes h.bytes).below 0x1010) in
      let running = runs_on (moves w.desk.units (live w.desk)) word (chip_of w) run.chip (subst (λ (i : StepEnd). ChipStep (moves w.desk.units (live w.desk)) word (chip_of w) i run.chip) e run.ran) in
      leads version units (At180 u r) c w h new word answer run (IsNext (At180 u r)) (Running (At188 u run.chip.regs.sfbr r)) (inl (run.chip.regs.sfbr, refl))
      (subst (Holds version units (Running (At188 u run.chip.regs.sfbr r)) c) (sym (ended version units (At180 u r) c w h new word answer run Ran m run.chip.regs (record { is = e; memory_is = refl; regs_are = refl })))
      (spared version units (At180 u r) c w h new word answer run (Running (At188 u run.chip.regs.sfbr r)) w.stop m run.chip.regs run.chip.bus z f.size (f.bytes h.bytes) refl refl (record { plays = tt; extra = (h.works.extra, small) })
      (h.stays.0, h.stays.1, running, dsp ∙ past version units (At180 u r) c w h new word answer run 48 (omega arith) refl, record { dsa = dsa ∙ h.stays.4.dsa; temp = tt; scratcha = tt; scratchb = tt; ssid = tt; sfbr = refl })
      (linked-still (OfTarget r) (tickets_of w.desk) w.bus run.chip.bus run.chip.regs s h.linked)))

  tag-byte : Leads (IsNext (At180 u r)) version units c new
  unfolding instruction footprint data_move move_at
  tag-byte =
      let d : BlockMoves (moves w.desk.units (live w.desk)) word 7 (move_loaded 1 0x1010 (after_fetch (chip_of w))) run.end run.chip = row version units (At180 u r) c w h new word answer run 48 (op.Move 1 0x1010 7) (omega arith) refl refl in
      tag-came (moves_direct w.desk.units (live w.desk) word 1 0x1010 7 (after_fetch (chip_of w)) run.end run.chip d) d

-- 0x188: in version 2 the tag has any value
module _ (version : ℕ) (units : List RigUnit) (c : Counts) (w : World) (word : ℕ) (answer : Reply) (new : World) (u g r : ℕ) (h : Holds version units (Running (At188 u g r)) c w) (run : RunsChip w word answer new) where
  tag-offset : instruction 0x31 version ≡ op.ToSfbr 0x08 change.And 0xFC → Leads (IsNext (At188 u g r)) version units c new
  unfolding byte_at
  tag-offset here = leads version units (At188 u g r) c w h new word answer run (IsNext (At188 u g r)) (Running (At190 u 0 (g - g % 4) r)) (inl refl)
      (sfbr-becomes version units (At188 u g r) c w h new word answer run (At190 u 0 (g - g % 4) r) 49 (bit_and w.regs.sfbr 0xFC) (omega arith) refl refl (row version units (At188 u g r) c w h new word answer run 49 (op.ToSfbr 0x08 change.And 0xFC) (omega arith) refl here)
      (record {
        closing = refl;
        ahead = refl;
        link = refl;
        works = record { plays = tt; extra = (h.works.extra.0, omega arith, omega (arith, h.works.extra.1), omega arith) };
        at = record { dsa = h.stays.4.dsa; temp = tt; scratcha = tt; scratchb = tt; ssid = tt; sfbr = ap (λ (i : ℕ). bit_and i 0xFC) h.stays.4.sfbr ∙ high-bits g h.works.extra.1 };
      }))

  tag-any : instruction 0x31 version ≡ op.Jump condition.Always 0x460 → Leads (IsNext (At188 u g r)) version units c new
  tag-any here = leads version units (At188 u g r) c w h new word answer run (IsNext (At188 u g r)) (Running (At460 u g r)) (inr refl)
      (jumped version units (At188 u g r) c w h new word answer run (At460 u g r) 49 0x460 (omega arith) refl here refl (record { closing = refl; ahead = refl; works = h.works; at = record { dsa = h.stays.4.dsa; temp = tt; scratcha = tt; scratchb = tt; ssid = tt; sfbr = h.stays.4.sfbr }; linked = h.linked }))

  by-version : (b : Bool) → nat_eq version 2 ≡ b → Leads (IsNext (At188 u g r)) version units c new
  unfolding instruction
  by-version true e = let v : version ≡ 2 = grind (arith, nat_tests, e) in tag-any (ap (instruction 0x31) v)
  by-version false e = tag-offset (ap (λ (b : Bool). if b then op.Jump condition.Always 0x460 else op.ToSfbr 0x08 change.And 0xFC) e)

  tagged : Leads (IsNext (At188 u g r)) version units c new
  tagged = by-version (nat_eq version 2) refl

pub keeps : StepsHold of_tags
unfolding instruction footprint data_move move_at byte_at
keeps version units (At160 u r) c w new word answer e run h =
    leads version units (At160 u r) c w h new word answer run (IsNext (At160 u r)) (Running (At168 u r)) refl (cleared version units (At160 u r) c w h new word answer run (At168 u r) 44 (omega arith) refl refl refl (record { closing = refl; ahead = refl; works = h.works; at = record { dsa = h.stays.4.dsa; temp = tt; scratcha = tt; scratchb = tt; ssid = tt; sfbr = tt }; linked = h.linked }))
keeps version units (At178 u r) c w new word answer e run h =
    leads version units (At178 u r) c w h new word answer run (IsNext (At178 u r)) (Running (At180 u r)) refl (cleared version units (At178 u r) c w h new word answer run (At180 u r) 47 (omega arith) refl refl refl (record { closing = refl; ahead = refl; works = h.works; at = record { dsa = h.stays.4.dsa; temp = tt; scratcha = tt; scratchb = tt; ssid = tt; sfbr = tt }; linked = h.linked }))
keeps version units (At168 u r) c w new word answer e run h =
    moved-so version units (At168 u r) c w h new word answer run (At170 u r) 45 1 0x1010 (omega arith) refl refl refl (λ s x. x) (record { closing = refl; closing' = refl; ahead = refl; ahead' = refl; works = λ n x. record { plays = tt; extra = h.works.extra }; at = λ i j. record { dsa = j ∙ h.stays.4.dsa; temp = tt; scratcha = tt; scratchb = tt; ssid = tt; sfbr = tt }; linked = λ b i s. linked-still (about (At170 u r)).link (tickets_of w.desk) w.bus b i s h.linked }) (λ end l g. sparing-msgin w.memory run.chip.memory (tickets_of w.desk) h.tickets end (omega arith) g)
    (moves_direct w.desk.units (live w.desk) word 1 0x1010 7 (after_fetch (chip_of w)) run.end run.chip (row version units (At168 u r) c w h new word answer run 45 (op.Move 1 0x1010 7) (omega arith) refl refl))
keeps version units (At170 u r) c w new word answer e run h =
    int-or version units (At170 u r) c w h new word answer run (At178 u r) 46 3 (λ s x. x) (omega arith) refl refl refl refl refl refl (record { closing = refl; ahead = refl; works = h.works; at = record { dsa = h.stays.4.dsa; temp = tt; scratcha = tt; scratchb = tt; ssid = tt; sfbr = tt }; linked = h.linked })
keeps version units (At180 u r) c w new word answer e run h =
    tag-byte version units c w word answer new u r h run
keeps version units (At188 u g r) c w new word answer e run h = tagged version units c w word answer new u g r h run
keeps version units (At460 u g r) c w new word answer e run h =
    on-either version units (At460 u g r) c w h new word answer run (At480 u g r) (At468 u g r) (λ s x. x) (either version units (At460 u g r) c w h new word answer run (At480 u g r) (At468 u g r) 140 0x480 (condition.Byte false 0xFC 1) (omega arith) refl refl refl refl (record { closing = refl; ahead = refl; works = h.works; at = record { dsa = h.stays.4.dsa; temp = tt; scratcha = tt; scratchb = tt; ssid = tt; sfbr = h.stays.4.sfbr }; linked = h.linked }) (record { closing = refl; ahead = refl; works = h.works; at = record { dsa = h.stays.4.dsa; temp = tt; scratcha = tt; scratchb = tt; ssid = tt; sfbr = h.stays.4.sfbr }; linked = h.linked }) tt)
keeps version units (At468 u g r) c w new word answer e run h =
    on-either version units (At468 u g r) c w h new word answer run (At490 u g r) (At470 u g r) (λ s x. x) (either version units (At468 u g r) c w h new word answer run (At490 u g r) (At470 u g r) 141 0x490 (condition.Byte false 0xFC 2) (omega arith) refl refl refl refl (record { closing = refl; ahead = refl; works = h.works; at = record { dsa = h.stays.4.dsa; temp = tt; scratcha = tt; scratchb = tt; ssid = tt; sfbr = h.stays.4.sfbr }; linked = h.linked }) (record { closing = refl; ahead = refl; works = h.works; at = record { dsa = h.stays.4.dsa; temp = tt; scratcha = tt; scratchb = tt; ssid = tt; sfbr = h.stays.4.sfbr }; linked = h.linked }) tt)
keeps version units (At470 u g r) c w new word answer e run h =
    on-either version units (At470 u g r) c w h new word answer run (At4A0 u g r) (At478 u g r) (λ s x. x) (either version units (At470 u g r) c w h new word answer run (At4A0 u g r) (At478 u g r) 142 0x4A0 (condition.Byte false 0xFC 3) (omega arith) refl refl refl refl (record { closing = refl; ahead = refl; works = h.works; at = record { dsa = h.stays.4.dsa; temp = tt; scratcha = tt; scratchb = tt; ssid = tt; sfbr = h.stays.4.sfbr }; linked = h.linked }) (record { closing = refl; ahead = refl; works = h.works; at = record { dsa = h.stays.4.dsa; temp = tt; scratcha = tt; scratchb = tt; ssid = tt; sfbr = h.stays.4.sfbr }; linked = h.linked }) tt)
keeps version units (At478 u g r) c w new word answer e run h =
    leads version units (At478 u g r) c w h new word answer run (IsNext (At478 u g r)) (Running (At4A8 u 0 g r)) refl (jumped version units (At478 u g r) c w h new word answer run (At4A8 u 0 g r) 143 0x4A8 (omega arith) refl refl refl (record { closing = refl; ahead = refl; works = record { plays = tt; extra = (h.works.extra.0, omega arith, h.works.extra.1) }; at = record { dsa = h.stays.4.dsa; temp = tt; scratcha = tt; scratchb = tt; ssid = tt; sfbr = h.stays.4.sfbr }; linked = h.linked }))
keeps version units (At488 u g r) c w new word answer e run h =
    leads version units (At488 u g r) c w h new word answer run (IsNext (At488 u g r)) (Running (At4A8 u 1 g r)) refl (jumped version units (At488 u g r) c w h new word answer run (At4A8 u 1 g r) 145 0x4A8 (omega arith) refl refl refl (record { closing = refl; ahead = refl; works = record { plays = tt; extra = (h.works.extra.0, omega arith, h.works.extra.1) }; at = record { dsa = h.stays.4.dsa; temp = tt; scratcha = tt; scratchb = tt; ssid = tt; sfbr = h.stays.4.sfbr }; linked = h.linked }))
keeps version units (At498 u g r) c w new word answer e run h =
    leads version units (At498 u g r) c w h new word answer run (IsNext (At498 u g r)) (Running (At4A8 u 2 g r)) refl (jumped version units (At498 u g r) c w h new word answer run (At4A8 u 2 g r) 147 0x4A8 (omega arith) refl refl refl (record { closing = refl; ahead = refl; works = record { plays = tt; extra = (h.works.extra.0, omega arith, h.works.extra.1) }; at = record { dsa = h.stays.4.dsa; temp = tt; scratcha = tt; scratchb = tt; ssid = tt; sfbr = h.stays.4.sfbr }; linked = h.linked }))
keeps version units (At480 u g r) c w new word answer e run h =
    let hu : u < 16 = omega (arith, h.works.extra.0.0, few version units (Running (At480 u g r)) c w 0 h) in
    leads version units (At480 u g r) c w h new word answer run (IsNext (At480 u g r)) (Running (At488 u g r)) refl (dsa-becomes version units (At480 u g r) c w h new word answer run (At488 u g r) 144 (table_at u 1) (omega arith) refl refl
    (table-written version units (At480 u g r) c w h new word answer run u 1 1 (65 + 4 * u) hu (omega arith) h.stays.4.dsa (second-table u hu) (omega arith) (row version units (At480 u g r) c w h new word answer run 144 (op.Modify 0x11 change.Or 1) (omega arith) refl refl))
    (record { closing = refl; ahead = refl; link = refl; works = h.works; at = record { dsa = refl; temp = tt; scratcha = tt; scratchb = tt; ssid = tt; sfbr = h.stays.4.sfbr } }))
keeps version units (At490 u g r) c w new word answer e run h =
    let hu : u < 16 = omega (arith, h.works.extra.0.0, few version units (Running (At490 u g r)) c w 0 h) in
    leads version units (At490 u g r) c w h new word answer run (IsNext (At490 u g r)) (Running (At498 u g r)) refl (dsa-becomes version units (At490 u g r) c w h new word answer run (At498 u g r) 146 (table_at u 2) (omega arith) refl refl
    (table-written version units (At490 u g r) c w h new word answer run u 2 2 (66 + 4 * u) hu (omega arith) h.stays.4.dsa (third-table u hu) (omega arith) (row version units (At490 u g r) c w h new word answer run 146 (op.Modify 0x11 change.Or 2) (omega arith) refl refl))
    (record { closing = refl; ahead = refl; link = refl; works = h.works; at = record { dsa = refl; temp = tt; scratcha = tt; scratchb = tt; ssid = tt; sfbr = h.stays.4.sfbr } }))
keeps version units (At4A0 u g r) c w new word answer e run h =
    let hu : u < 16 = omega (arith, h.works.extra.0.0, few version units (Running (At4A0 u g r)) c w 0 h) in
    leads version units (At4A0 u g r) c w h new word answer run (IsNext (At4A0 u g r)) (Running (At4A8 u 3 g r)) refl (dsa-becomes version units (At4A0 u g r) c w h new word answer run (At4A8 u 3 g r) 148 (table_at u 3) (omega arith) refl refl
    (table-written version units (At4A0 u g r) c w h new word answer run u 3 3 (67 + 4 * u) hu (omega arith) h.stays.4.dsa (fourth-table u hu) (omega arith) (row version units (At4A0 u g r) c w h new word answer run 148 (op.Modify 0x11 change.Or 3) (omega arith) refl refl))
    (record { closing = refl; ahead = refl; link = refl; works = record { plays = tt; extra = (h.works.extra.0, omega arith, h.works.extra.1) }; at = record { dsa = refl; temp = tt; scratcha = tt; scratchb = tt; ssid = tt; sfbr = h.stays.4.sfbr } }))
keeps version units (At4A8 u s g r) c w new word answer e run h =
    leads version units (At4A8 u s g r) c w h new word answer run (IsNext (At4A8 u s g r)) (Running (At4B0 u s (g - g % 4) r)) refl (sfbr-becomes version units (At4A8 u s g r) c w h new word answer run (At4B0 u s (g - g % 4) r) 149 (bit_and w.regs.sfbr 0xFC) (omega arith) refl refl (row version units (At4A8 u s g r) c w h new word answer run 149 (op.ToSfbr 0x08 change.And 0xFC) (omega arith) refl refl)
    (record {
      closing = refl;
      ahead = refl;
      link = refl;
      works = record { plays = tt; extra = (h.works.extra.0, h.works.extra.1, omega (arith, h.works.extra.2), omega arith) };
      at = record { dsa = h.stays.4.dsa; temp = tt; scratcha = tt; scratchb = tt; ssid = tt; sfbr = ap (λ (i : ℕ). bit_and i 0xFC) h.stays.4.sfbr ∙ high-bits g h.works.extra.2 };
    }))
keeps version units (At4B0 u s k r) c w new word answer e run h =
    leads version units (At4B0 u s k r) c w h new word answer run (IsNext (At4B0 u s k r)) (Running (At190 u s k r)) refl (jumped version units (At4B0 u s k r) c w h new word answer run (At190 u s k r) 150 0x190 (omega arith) refl refl refl (record { closing = refl; ahead = refl; works = h.works; at = record { dsa = h.stays.4.dsa; temp = tt; scratcha = tt; scratchb = tt; ssid = tt; sfbr = h.stays.4.sfbr }; linked = h.linked }))
keeps version units (At190 u s k r) c w new word answer e run h =
    let hu : u < 16 = omega (arith, h.works.extra.0.0, few version units (Running (At190 u s k r)) c w 0 h) in
    leads version units (At190 u s k r) c w h new word answer run (IsNext (At190 u s k r)) (Running (At198 u (k + s) r)) refl (dsa-becomes version units (At190 u s k r) c w h new word answer run (At198 u (k + s) r) 50 (tag_entry u (k + s)) (omega arith) refl refl
    (byte-written version units (At190 u s k r) c w h new word answer run 0 k (tag_entry u (k + s)) (omega arith) h.works.extra.2 (omega (arith, h.stays.4.dsa, hu, h.works.extra.1)) (ap (λ (i : ℕ). with_digit i 0 k) h.stays.4.dsa ∙ entry-digit u s k hu h.works.extra.1 h.works.extra.2 h.works.extra.3)
    (subst (λ (i : ℕ). Becomes (written 0x10 i (after_fetch (chip_of w)).regs) (after_fetch (chip_of w)) run.end run.chip) (ap (λ (i : ℕ). bit_or i 0) h.stays.4.sfbr ∙ no-change k h.works.extra.2) (row version units (At190 u s k r) c w h new word answer run 50 (op.FromSfbr change.Or 0 0x10) (omega arith) refl refl)))
    (record { closing = refl; ahead = refl; link = refl; works = record { plays = tt; extra = (h.works.extra.0, omega (arith, h.works.extra.1, h.works.extra.2, h.works.extra.3)) }; at = record { dsa = refl; temp = tt; scratcha = tt; scratchb = tt; ssid = tt; sfbr = tt } }))
keeps version units (At198 u g r) c w new word answer e run h =
    let ts = tickets_of w.desk in
    let hu : u < 16 = omega (arith, h.works.extra.0.0, few version units (Running (At198 u g r)) c w 0 h) in
    let head : IsHead w.regs.dsa = record { aligned = omega (arith, h.stays.4.dsa, hu, h.works.extra.1); inside = omega (arith, h.stays.4.dsa, hu, h.works.extra.1) } in
    let to : word_at w.memory (w.regs.dsa + 0) ≡ word_at w.memory (tag_entry u g) = ap (word_at w.memory) (omega (arith, h.stays.4.dsa)) in
    elim (h.tags.entries u g hu h.works.extra.1) [
      | inl i ↦ leads version units (At198 u g r) c w h new word answer run (IsNext (At198 u g r)) (Running At1A0None) (inl refl) (loaded version units (At198 u g r) c w h new word answer run At1A0None 51 0x1400 Dsa (FromDsa (pos 0)) (omega arith) refl refl refl head (to ∙ i)
          (record { closing = refl; ahead = refl; works = record { plays = tt; extra = tt }; at = record { dsa = refl; temp = tt; scratcha = tt; scratchb = tt; ssid = tt; sfbr = tt }; linked = tt }))
      | inr i ↦
          let t = i.0 in
          let target : target_of ts t ≡ r = ap (λ (j : ℕ). (slice_index_or ts.units j no_unit).target) i.1.unit_is ∙ h.works.extra.0.1 in
          leads version units (At198 u g r) c w h new word answer run (IsNext (At198 u g r)) (Running (At1A0 (block_of ts t) r)) (inr (block_of ts t, refl)) (loaded version units (At198 u g r) c w h new word answer run (At1A0 (block_of ts t) r) 51 (block_of ts t) Dsa (FromDsa (pos 0)) (omega arith) refl refl refl head (to ∙ i.1.block_is)
          (record { closing = refl; ahead = refl; works = record { plays = tt; extra = (h.tickets.block t i.1.bound.live, inr (t, record { live = i.1.bound.live; block_is = refl; target_is = target })) }; at = record { dsa = refl; temp = tt; scratcha = tt; scratchb = tt; ssid = tt; sfbr = tt }; linked = h.linked }))
    ]
keeps version units _ c w new word answer e run h = absurd cc
