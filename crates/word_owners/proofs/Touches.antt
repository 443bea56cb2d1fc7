-- What a step of the chip touches of the buffer region and of sense areas is moved by a data move.
use Rattle.std.proofs.Common.{◌≡◌, inl, inr, ℕ, ℤ, pos, zero, suc, ◌+◌, ◌-◌, ◌*◌, ◌/◌, ◌%◌, ◌<◌, ◌≤◌, ◌||◌, nat_eq, nat_le, Bool, true, false, List, length, [], ◌∷◌, ◌++◌, refl, sym, ap, subst, ◌∙◌, arith, lit<, length-append, Option, Some, None}
use Rattle.std.specs.Prelude.{if◌then◌else◌, is_some, not, slice_index_or}
use Rattle.std.proofs.lemmas.Bool.Decides.{nat_tests}
use Rattle.bench_words.specs.Memory.{word_at}
use Rattle.rig_types.specs.declared.rig.Unit.{Unit as RigUnit}
use Rattle.host_map.specs.declared.TheConstants.{CHAINS, MSGIN}
use Rattle.host_map.specs.Places.{IsCommandBlock, table_at, tag_entry, target_chain, unit_chain}
use Rattle.rig_chains.specs.Chains.{jump_if, identify_ops, target_ops, lun_ops, lun_jumps, unit_ops}
use Rattle.cmd_block.specs.Block.{offset}
use Rattle.scripts_ops.specs.declared.values.Address.TheVariants.{At}
use Rattle.scripts_ops.specs.declared.values.Change.TheVariants.{And}
use Rattle.scripts_ops.specs.declared.values.Condition.TheVariants.{Always, Byte}
use Rattle.scripts_ops.specs.declared.values.Op.{Op}
use Rattle.scripts_ops.specs.declared.values.Op.TheVariants as op
use Rattle.driver_script.proofs.ScriptTests.{all_below, both_versions}
use Rattle.driver_script.specs.Moves.{data_move}
use Rattle.driver_script.specs.Script.{instruction}
use Rattle.driver_script.specs.declared.script.TheConstants.{SCRIPT}
use Rattle.chip_rows.proofs.StepWrites.{counts_down}
use Rattle.chip_rows.specs.Touched.{IsIn, Block, block_of as block_at, entry_of, went, is_in, range, range_at, of_block, writes, reads, fetches, touched}
use Rattle.chip_step.proofs.Made.{one_spelling}
use Rattle.chip_step.specs.Addresses.{place_of}
use Rattle.chip_step.specs.Chip.{Chip}
use Rattle.chip_step.specs.Step.{IsAt, has_third, len_of, third_at}
use Rattle.bus_law.specs.Moves.{moves}
use Rattle.ownership.proofs.Control.{controls_at, in_either, of_came, of_went}
use Rattle.ownership.proofs.Footprint.{in_memory}
use Rattle.ownership.proofs.Steps.{stands_at, can}
use Rattle.phase_fix.proofs.MoveLaws.{move_stands}
use Rattle.phase_fix.proofs.ScriptMoves.{finds_moves}
use Rattle.phase_fix.specs.InScript.{phase_code, instruction_of}
use Rattle.phase_fix.specs.Moves.{move_at, context_label, count_field, address_field, IsEntry as IsMoveEntry}
use Rattle.phase_fix.specs.declared.moves.DataMove.{DataMove}
use Rattle.phase_fix.specs.declared.moves.DataPhase.{DataPhase}
use Rattle.phase_fix.specs.declared.moves.DataPhase.TheVariants.{In, Out}
use Rattle.phase_fix.specs.declared.moves.Entry.TheVariants.{Context}
use Rattle.world_law.specs.ChipSteps.{chip_of, RunsChip}
use Rattle.world_law.specs.Opening.{opened}
use Rattle.world_law.specs.Runs.{last}
use Rattle.world_law.specs.World.{World, live}
use Rattle.world_law.specs.declared.reply.Reply.{Reply}
use Rattle.word_owners.specs.Holds.{Holds, Running}
use Rattle.word_owners.specs.Parts.{Counts}
use Rattle.word_owners.specs.Points.{Point, about, Value, Number, OwnBlock, ThisStart, NextStart, NextDone, LastDone, Table, TagEntry, At000, At008, At010Idle, At010Job, At018Idle, At018Job, At020, At038Idle, At040Idle, At048, At050, At058, At080, At088, At0C8, At150, At158, At160, At168, At170, At178, At180, At188, At190, At198, At1A0, At1A0None, At1A8Bad, At1A8None, At1B0None, At1B8None, At1C0, At240, At248, At260, At268, At270, At298, At2A0, At2A8, At2B0, At2B8, At460, At468, At470, At478, At480, At488, At490, At498, At4A0, At4A8, At4B0, AtUnit, BehindContext, BehindUnit, InLuns, InTargets, LeavesContext, Moves}
use Rattle.word_owners.specs.Tickets.{tickets_of, block_of}
use Rattle.word_owners.specs.Pointers.{move_place}
use Rattle.word_owners.specs.Buffers.{IsOwn}
use Rattle.word_owners.specs.Touches.{IsDataByte, IsMoved, DataAreMoved}
use Rattle.word_owners.specs.Works.{Has, value, role, worker, own_block, block_by}
use Rattle.word_owners.proofs.Buffers.{data_stay}
use Rattle.word_owners.proofs.ChainOps.{jumps, stops, target-op, lun-op}
use Rattle.word_owners.proofs.ChainSteps.{IsAtChain, stands-here, in-targets, in-luns, jump-two}
use Rattle.word_owners.proofs.ChipSteps.{stands}
use Rattle.word_owners.proofs.DataMoves.{entry-below, address-next}
use Rattle.word_owners.proofs.Frames.{active-live}
use Rattle.word_owners.proofs.NextPlaces.{move-high, context-high}
use Rattle.word_owners.proofs.RunningChip.{running}
use Rattle.word_owners.proofs.Patches.{few}
use Rattle.word_owners.proofs.StageChanges.{worker-active}
use Rattle.word_owners.proofs.Standing.{script, at-over, in-chain, is_chain, not-zero, stands-at}
use Rattle.word_owners.proofs.TouchedBytes.{IsLow, needs_dsa, low-in, head-in, from-dsa-in, Entry, EntryIsLow, reads-none, writes-none}
use Rattle.word_owners.proofs.Worlds.{words_are_owned}

-- ---- where DSA is at work

-- an instruction by whose number it is known
at-number : (P : Op → Type 0) (k n version : ℕ) → k ≡ n → P (instruction n version) → P (instruction k version)
at-number P k n version e h = subst (λ (i : ℕ). P (instruction i version)) (sym e) h

abbrev Needless : Op → Type 0
Needless o = needs_dsa o ≡ false

-- a point at which nothing is said of DSA has no instruction that goes by it
needless : (version : ℕ) (p : Point) (k : ℕ) → k < 151 → (about p).held.dsa ≡ None → (about p).place ≡ 8 * k → Needless (instruction k version)
unfolding instruction
needless version At000 k l e place = at-number Needless k 0 version (omega (arith, place)) refl
needless version At008 k l e place = at-number Needless k 1 version (omega (arith, place)) refl
needless version At018Idle k l e place = at-number Needless k 3 version (omega (arith, place)) refl
needless version At020 k l e place = at-number Needless k 4 version (omega (arith, place)) refl
needless version At040Idle k l e place = at-number Needless k 8 version (omega (arith, place)) refl
needless version At048 k l e place = at-number Needless k 9 version (omega (arith, place)) refl
needless version (At050 r) k l e place = at-number Needless k 10 version (omega (arith, place)) refl
needless version (At058 r) k l e place = at-number Needless k 11 version (omega (arith, place)) refl
needless version At150 k l e place = at-number Needless k 42 version (omega (arith, place)) refl
needless version At158 k l e place = at-number Needless k 43 version (omega (arith, place)) refl
needless version At1A8Bad k l e place = at-number Needless k 53 version (omega (arith, place)) refl
needless version At1B8None k l e place = at-number Needless k 55 version (omega (arith, place)) refl
needless version At1C0 k l e place = at-number Needless k 56 version (omega (arith, place)) refl
needless version (At240 t) k l e place = at-number Needless k 72 version (omega (arith, place)) refl
needless version (At248 t) k l e place = at-number Needless k 73 version (omega (arith, place)) refl
needless version At260 k l e place = at-number Needless k 76 version (omega (arith, place)) refl
needless version At268 k l e place = at-number Needless k 77 version (omega (arith, place)) refl
needless version At270 k l e place = at-number Needless k 78 version (omega (arith, place)) refl
needless version At2A8 k l e place = at-number Needless k 85 version (omega (arith, place)) refl
needless version At2B0 k l e place = at-number Needless k 86 version (omega (arith, place)) refl
needless version (InTargets r j) k l e place = absurd (omega (arith, place, l))
needless version (InLuns r j) k l e place = absurd (omega (arith, place, l))
needless version (AtUnit u r) k l e place = absurd (omega (arith, place, l))
needless version _ k l e place = absurd cc

module _ (version : ℕ) (units : List RigUnit) (c : Counts) (w : World) where
  number-low : (p : Point) (n : ℕ) → (about p).held.dsa ≡ Some (Number n) → Holds version units (Running p) c w → IsLow n
  number-low At010Idle n e h = let z : 0x1600 ≡ n = cc in inl (omega (arith, z))
  number-low At010Job n e h = let z : 0x1800 ≡ n = cc in inl (omega (arith, z))
  number-low At018Job n e h = let z : 0x1800 ≡ n = cc in inl (omega (arith, z))
  number-low At038Idle n e h = let z : 0x1200 ≡ n = cc in inl (omega (arith, z))
  number-low At1A0None n e h = let z : 0x1400 ≡ n = cc in inl (omega (arith, z))
  number-low At1A8None n e h = let z : 0x1400 ≡ n = cc in inl (omega (arith, z))
  number-low At1B0None n e h = let z : 0x1400 ≡ n = cc in inl (omega (arith, z))
  number-low At298 n e h = let z : 0x1800 ≡ n = cc in inl (omega (arith, z))
  number-low At2A0 n e h = let z : 0x1800 ≡ n = cc in inl (omega (arith, z))
  number-low (At1A0 b r) n e h = let z : b ≡ n = cc in inr (subst IsCommandBlock z h.works.extra.0)
  number-low _ n e h = absurd cc

  table-low : (p : Point) (u s : ℕ) → (about p).held.dsa ≡ Some (Table u s) → Holds version units (Running p) c w → table_at u s + 0xE0 ≤ 0x10000
  table-low (BehindUnit v r) u s e h = let z : v ≡ u = cc in let y : 0 ≡ s = cc in let f = few version units (Running (BehindUnit v r)) c w 0 h in omega (arith, z, y, h.works.extra.0, f)
  table-low (At160 v r) u s e h = let z : v ≡ u = cc in let y : 0 ≡ s = cc in let f = few version units (Running (At160 v r)) c w 0 h in omega (arith, z, y, h.works.extra.0, f)
  table-low (At168 v r) u s e h = let z : v ≡ u = cc in let y : 0 ≡ s = cc in let f = few version units (Running (At168 v r)) c w 0 h in omega (arith, z, y, h.works.extra.0, f)
  table-low (At170 v r) u s e h = let z : v ≡ u = cc in let y : 0 ≡ s = cc in let f = few version units (Running (At170 v r)) c w 0 h in omega (arith, z, y, h.works.extra.0, f)
  table-low (At178 v r) u s e h = let z : v ≡ u = cc in let y : 0 ≡ s = cc in let f = few version units (Running (At178 v r)) c w 0 h in omega (arith, z, y, h.works.extra.0, f)
  table-low (At180 v r) u s e h = let z : v ≡ u = cc in let y : 0 ≡ s = cc in let f = few version units (Running (At180 v r)) c w 0 h in omega (arith, z, y, h.works.extra.0, f)
  table-low (At188 v g r) u s e h = let z : v ≡ u = cc in let y : 0 ≡ s = cc in let f = few version units (Running (At188 v g r)) c w 0 h in omega (arith, z, y, h.works.extra.0.0, f)
  table-low (At460 v g r) u s e h = let z : v ≡ u = cc in let y : 0 ≡ s = cc in let f = few version units (Running (At460 v g r)) c w 0 h in omega (arith, z, y, h.works.extra.0.0, f)
  table-low (At468 v g r) u s e h = let z : v ≡ u = cc in let y : 0 ≡ s = cc in let f = few version units (Running (At468 v g r)) c w 0 h in omega (arith, z, y, h.works.extra.0.0, f)
  table-low (At470 v g r) u s e h = let z : v ≡ u = cc in let y : 0 ≡ s = cc in let f = few version units (Running (At470 v g r)) c w 0 h in omega (arith, z, y, h.works.extra.0.0, f)
  table-low (At478 v g r) u s e h = let z : v ≡ u = cc in let y : 0 ≡ s = cc in let f = few version units (Running (At478 v g r)) c w 0 h in omega (arith, z, y, h.works.extra.0.0, f)
  table-low (At480 v g r) u s e h = let z : v ≡ u = cc in let y : 0 ≡ s = cc in let f = few version units (Running (At480 v g r)) c w 0 h in omega (arith, z, y, h.works.extra.0.0, f)
  table-low (At488 v g r) u s e h = let z : v ≡ u = cc in let y : 1 ≡ s = cc in let f = few version units (Running (At488 v g r)) c w 0 h in omega (arith, z, y, h.works.extra.0.0, f)
  table-low (At490 v g r) u s e h = let z : v ≡ u = cc in let y : 0 ≡ s = cc in let f = few version units (Running (At490 v g r)) c w 0 h in omega (arith, z, y, h.works.extra.0.0, f)
  table-low (At498 v g r) u s e h = let z : v ≡ u = cc in let y : 2 ≡ s = cc in let f = few version units (Running (At498 v g r)) c w 0 h in omega (arith, z, y, h.works.extra.0.0, f)
  table-low (At4A0 v g r) u s e h = let z : v ≡ u = cc in let y : 0 ≡ s = cc in let f = few version units (Running (At4A0 v g r)) c w 0 h in omega (arith, z, y, h.works.extra.0.0, f)
  table-low (At190 v i g r) u s e h = let z : v ≡ u = cc in let y : i ≡ s = cc in let f = few version units (Running (At190 v i g r)) c w 0 h in omega (arith, z, y, h.works.extra.0.0, h.works.extra.1, f)
  table-low (At4A8 v i g r) u s e h = let z : v ≡ u = cc in let y : i ≡ s = cc in let f = few version units (Running (At4A8 v i g r)) c w 0 h in omega (arith, z, y, h.works.extra.0.0, h.works.extra.1, f)
  table-low (At4B0 v i g r) u s e h = let z : v ≡ u = cc in let y : i ≡ s = cc in let f = few version units (Running (At4B0 v i g r)) c w 0 h in omega (arith, z, y, h.works.extra.0.0, h.works.extra.1, f)
  table-low _ u s e h = absurd cc

  tag-low : (p : Point) (u g : ℕ) → (about p).held.dsa ≡ Some (TagEntry u g) → Holds version units (Running p) c w → tag_entry u g + 0xE0 ≤ 0x10000
  tag-low (At198 v i r) u g e h = let z : v ≡ u = cc in let y : i ≡ g = cc in let f = few version units (Running (At198 v i r)) c w 0 h in omega (arith, z, y, h.works.extra.0.0, h.works.extra.1, f)
  tag-low _ u g e h = absurd cc

  block-low : (p : Point) (o : Option ℕ) → worker (role (about p).work) ≡ o → Holds version units (Running p) c w → IsLow (block_by (tickets_of w.desk) o)
  block-low p None e h = inl (omega arith)
  block-low p (Some t) e h = inr (h.tickets.block t (active-live ((tickets_of w.desk).stage t) (worker-active (role (about p).work) (word_at w.memory) (tickets_of w.desk) c t e h.works.plays)))

  value-low : (p : Point) (v : Value) → (about p).held.dsa ≡ Some v → Holds version units (Running p) c w → IsLow (value (own_block (tickets_of w.desk) (about p).work) c.started c.entered v)
  value-low p (Number n) e h = number-low p n e h
  value-low p OwnBlock e h = block-low p (worker (role (about p).work)) refl h
  value-low p ThisStart e h = inl (omega arith)
  value-low p NextStart e h = inl (omega arith)
  value-low p NextDone e h = inl (omega arith)
  value-low p LastDone e h = inl (omega arith)
  value-low p (Table u s) e h = inl (table-low p u s e h)
  value-low p (TagEntry u g) e h = inl (tag-low p u g e h)

  dsa-low : (p : Point) (k : ℕ) → k < 151 → (about p).place ≡ 8 * k → Holds version units (Running p) c w → needs_dsa (instruction k version) ≡ true → IsLow w.regs.dsa
  dsa-low p k l place h needs = by (about p).held.dsa refl
    where
      by : (o : Option Value) → (about p).held.dsa ≡ o → IsLow w.regs.dsa
      by None e = let z : false ≡ true = sym (needless version p k l e place) ∙ needs in absurd cc
      by (Some v) e =
          let z : w.regs.dsa ≡ value (own_block (tickets_of w.desk) (about p).work) c.started c.entered v = subst (λ (o : Option Value). Has (own_block (tickets_of w.desk) (about p).work) c.started c.entered o w.regs.dsa) e h.stays.4.dsa in
          subst IsLow (sym z) (value-low p v e h)

-- ---- the entries of message, command and status

entry-named : (yes : Bool) (m : List ℕ) (e x : ℕ) → IsIn (of_block (λ (b : Block). range b.address b.count) (entry_of m (if yes then Some e else None))) x → IsIn (range (word_at m (e + 4)) (word_at m e % 16777216)) x
entry-named true m e x h = h
entry-named false m e x h = absurd h

entry-at : {B : Type 0} (chip : Chip B) (o x : ℕ) → IsIn (Entry chip (pos o)) x → IsIn (range (word_at chip.memory (chip.regs.dsa + o + 4)) (word_at chip.memory (chip.regs.dsa + o) % 16777216)) x
unfolding place_of
entry-at chip o x h = entry-named (nat_le (chip.regs.dsa + o + 8) (length chip.memory)) chip.memory (chip.regs.dsa + o) x h

-- which instructions move by an entry of the table at DSA, but for the data moves
abbrev is_entry : Op → Bool
is_entry (op.MoveFrom o p) = true
is_entry _ = false

abbrev entry_fits : ℕ → Op → Bool
entry_fits k o = not (is_entry o) || (is_some (data_move (8 * k)) || (nat_eq k 16 || (nat_eq k 17 || (nat_eq k 25 || nat_eq k 84))))

all_fit : all_below 151 (λ k. entry_fits k (slice_index_or SCRIPT k op.Nop)) ≡ true
unfolding data_move
all_fit = refl

fits_188 : entry_fits 0x31 (op.Jump Always 0x460) ≡ true
unfolding data_move
fits_188 = refl

-- the four of them
data IsEntryMove (k : ℕ) : Type 0 where
  message : k ≡ 16 → IsEntryMove k
  command : k ≡ 17 → IsEntryMove k
  status : k ≡ 25 → IsEntryMove k
  job : k ≡ 84 → IsEntryMove k

which-move : (a b : Bool) (k : ℕ) → a ≡ true → b ≡ false → (not a || (b || (nat_eq k 16 || (nat_eq k 17 || (nat_eq k 25 || nat_eq k 84))))) ≡ true → IsEntryMove k
which-move true false k e f h = of (nat_eq k 16) (nat_eq k 17) (nat_eq k 25) (nat_eq k 84) refl refl refl refl h
  where
    of : (a b c d : Bool) → nat_eq k 16 ≡ a → nat_eq k 17 ≡ b → nat_eq k 25 ≡ c → nat_eq k 84 ≡ d → (a || (b || (c || d))) ≡ true → IsEntryMove k
    of true b c d i j l m h = message (grind (arith, nat_tests, i))
    of false true c d i j l m h = command (grind (arith, nat_tests, j))
    of false false true d i j l m h = status (grind (arith, nat_tests, l))
    of false false false true i j l m h = job (grind (arith, nat_tests, m))
    of false false false false i j l m h = absurd cc
which-move true true k e f h = absurd cc
which-move false b k e f h = absurd cc

none-if : (o : Op) {B : Type 0} (chip : Chip B) (x : ℕ) → is_entry o ≡ false → EntryIsLow chip x o
none-if (op.MoveFrom o p) chip x e = absurd cc
none-if _ chip x e = tt

-- ---- the points of these four

module _ (version : ℕ) (units : List RigUnit) (c : Counts) (w : World) (x : ℕ) (datum : IsDataByte x) where
  -- an entry whose bytes lie in the head of a block, or low
  head-entry : (b o a n : ℕ) → IsCommandBlock b → w.regs.dsa ≡ b → word_at w.memory (b + o) % 16777216 ≤ n → word_at w.memory (b + o + 4) ≡ a → b ≤ a → a + n ≤ b + 0x100 → IsIn (Entry (chip_of w) (pos o)) x → ⊥
  head-entry b o a n block dsa few-bytes address from to i =
      let d : IsIn (range (word_at w.memory (b + o + 4)) (word_at w.memory (b + o) % 16777216)) x = subst (λ (j : ℕ). IsIn (range (word_at w.memory (j + o + 4)) (word_at w.memory (j + o) % 16777216)) x) dsa (entry-at (chip_of w) o x i) in
      head-in b (word_at w.memory (b + o + 4)) (word_at w.memory (b + o) % 16777216) x block (omega (arith, address, from)) (omega (arith, address, few-bytes, to)) datum d

  message-low : (p : Point) → (about p).place ≡ 0x080 → Holds version units (Running p) c w → IsIn (Entry (chip_of w) (pos 0x20)) x → ⊥
  message-low (At080 t) e h i =
      let ts = tickets_of w.desk in
      let l = active-live (ts.stage t) h.works.plays.begun.stage in
      let m = (h.parts.blocks t l).message in
      head-entry (block_of ts t) 0x20 (block_of ts t + 0xE0) 3 (h.tickets.block t l) h.stays.4.dsa (omega (arith, m.0)) (let z : block_of ts t + 0x20 + 4 ≡ block_of ts t + 0x24 = omega arith in ap (word_at w.memory) z ∙ m.1) (omega arith) (omega arith) i
  message-low (Moves t y) e h i = let s = move-high y.phase y.entry in absurd (omega (arith, s, e))
  message-low (BehindContext t phase k) e h i = let s = move-high phase (Context k) in absurd (omega (arith, s, e))
  message-low (LeavesContext t phase j k) e h i = let s = context-high phase k in absurd (omega (arith, s, e))
  message-low _ e h i = absurd (omega (arith, e))

  command-low : (p : Point) → (about p).place ≡ 0x088 → Holds version units (Running p) c w → IsIn (Entry (chip_of w) (pos 0x28)) x → ⊥
  command-low (At088 t) e h i =
      let ts = tickets_of w.desk in
      let l = active-live (ts.stage t) h.works.plays.begun.stage in
      let m = (h.parts.blocks t l).command in
      head-entry (block_of ts t) 0x28 (block_of ts t + 0xF0) 12 (h.tickets.block t l) h.stays.4.dsa (omega (arith, m.0)) (let z : block_of ts t + 0x28 + 4 ≡ block_of ts t + 0x2C = omega arith in ap (word_at w.memory) z ∙ m.1) (omega arith) (omega arith) i
  command-low (Moves t y) e h i = let s = move-high y.phase y.entry in absurd (omega (arith, s, e))
  command-low (BehindContext t phase k) e h i = let s = move-high phase (Context k) in absurd (omega (arith, s, e))
  command-low (LeavesContext t phase j k) e h i = let s = context-high phase k in absurd (omega (arith, s, e))
  command-low _ e h i = absurd (omega (arith, e))

  status-low : (p : Point) → (about p).place ≡ 0x0C8 → Holds version units (Running p) c w → IsIn (Entry (chip_of w) (pos 0x30)) x → ⊥
  status-low (At0C8 t) e h i =
      let ts = tickets_of w.desk in
      let l = active-live (ts.stage t) h.works.plays.begun.stage in
      let m = (h.parts.blocks t l).status in
      head-entry (block_of ts t) 0x30 (block_of ts t + 0x14) 1 (h.tickets.block t l) h.stays.4.dsa (omega (arith, m.0)) (let z : block_of ts t + 0x30 + 4 ≡ block_of ts t + 0x34 = omega arith in ap (word_at w.memory) z ∙ m.1) (omega arith) (omega arith) i
  status-low (Moves t y) e h i = let s = move-high y.phase y.entry in absurd (omega (arith, s, e))
  status-low (BehindContext t phase k) e h i = let s = move-high phase (Context k) in absurd (omega (arith, s, e))
  status-low (LeavesContext t phase j k) e h i = let s = context-high phase k in absurd (omega (arith, s, e))
  status-low _ e h i = absurd (omega (arith, e))

  job-low : (p : Point) → (about p).place ≡ 0x2A0 → Holds version units (Running p) c w → IsIn (Entry (chip_of w) (pos 0x20)) x → ⊥
  job-low At2A0 e h i =
      let m = h.parts.fixed.job_message in
      let d : IsIn (range (word_at w.memory 0x1824) (word_at w.memory 0x1820 % 16777216)) x = subst (λ (j : ℕ). IsIn (range (word_at w.memory (j + 0x20 + 4)) (word_at w.memory (j + 0x20) % 16777216)) x) h.stays.4.dsa (entry-at (chip_of w) 0x20 x i) in
      low-in (word_at w.memory 0x1824) (word_at w.memory 0x1820 % 16777216) x (omega (arith, m.0, m.1)) datum d
  job-low (Moves t y) e h i = let s = move-high y.phase y.entry in absurd (omega (arith, s, e))
  job-low (BehindContext t phase k) e h i = let s = move-high phase (Context k) in absurd (omega (arith, s, e))
  job-low (LeavesContext t phase j k) e h i = let s = context-high phase k in absurd (omega (arith, s, e))
  job-low _ e h i = absurd (omega (arith, e))

  entry-low : (p : Point) (k : ℕ) → k < 151 → (about p).place ≡ 8 * k → data_move (8 * k) ≡ None → Holds version units (Running p) c w → EntryIsLow (chip_of w) x (instruction k version)
  unfolding instruction
  entry-low p k l place none h = by (is_entry (instruction k version)) refl
    where
      of : IsEntryMove k → EntryIsLow (chip_of w) x (instruction k version)
      of (message e) = at-number (EntryIsLow (chip_of w) x) k 16 version e (message-low p (omega (arith, place, e)) h)
      of (command e) = at-number (EntryIsLow (chip_of w) x) k 17 version e (command-low p (omega (arith, place, e)) h)
      of (status e) = at-number (EntryIsLow (chip_of w) x) k 25 version e (status-low p (omega (arith, place, e)) h)
      of (job e) = at-number (EntryIsLow (chip_of w) x) k 84 version e (job-low p (omega (arith, place, e)) h)

      by : (b : Bool) → is_entry (instruction k version) ≡ b → EntryIsLow (chip_of w) x (instruction k version)
      by false e = none-if (instruction k version) (chip_of w) x e
      by true e = of (which-move (is_entry (instruction k version)) (is_some (data_move (8 * k))) k e (ap (λ (o : Option (ℤ × ℕ)). is_some o) none) (both_versions entry_fits 151 all_fit fits_188 k version l))

-- ---- the data moves

abbrev is_move : Point → Bool
is_move (Moves t x) = true
is_move _ = false

context-none : (phase : DataPhase) (k : ℕ) → k < 2 → data_move (move_place phase (Context k) + 8) ≡ None
unfolding data_move
context-none In zero l = refl
context-none In (suc zero) l = refl
context-none Out zero l = refl
context-none Out (suc zero) l = refl
context-none In (suc (suc k)) l = absurd (omega (arith, l))
context-none Out (suc (suc k)) l = absurd (omega (arith, l))

leaves-none : (phase : DataPhase) (k : ℕ) → data_move (context_label phase k + 16) ≡ None
unfolding data_move
leaves-none In zero = refl
leaves-none In (suc k) = ap (λ (b : Bool). data_move ((if b then 0x3E0 else 0x3F8) + 16)) (not-zero k)
leaves-none Out zero = refl
leaves-none Out (suc k) = ap (λ (b : Bool). data_move ((if b then 0x410 else 0x428) + 16)) (not-zero k)

none-at : (version : ℕ) (units : List RigUnit) (c : Counts) (w : World) (p : Point) (k : ℕ) → k < 151 → (about p).place ≡ 8 * k → is_move p ≡ false → Holds version units (Running p) c w → data_move (about p).place ≡ None
unfolding data_move
none-at version units c w (Moves t y) k l place e h = absurd cc
none-at version units c w (InTargets r j) k l place e h = absurd (omega (arith, place, l))
none-at version units c w (InLuns r j) k l place e h = absurd (omega (arith, place, l))
none-at version units c w (AtUnit u r) k l place e h = absurd (omega (arith, place, l))
none-at version units c w (BehindUnit u r) k l place e h = absurd (omega (arith, place, l))
none-at version units c w (BehindContext t phase i) k l place e h = context-none phase i (move_stands (move_place phase (Context i)) (record { phase = phase; entry = Context i }) h.works.extra.at).0
none-at version units c w (LeavesContext t phase j i) k l place e h = leaves-none phase i
none-at version units c w _ k l place e h = refl

-- ---- a step

fetch-len : (b : Bool) → (if b then 12 else 8) ≤ 12
fetch-len true = omega arith
fetch-len false = omega arith

module _ (version : ℕ) (units : List RigUnit) (c : Counts) (w new : World) (word : ℕ) (answer : Reply) (run : RunsChip w word answer new) (o : Op) (at : IsAt (chip_of w) o) (x : ℕ) (datum : IsDataByte x) where
  -- an instruction lies low
  fetches-none : w.regs.dsp < 0x9000 → IsIn (fetches (chip_of w)) x → ⊥
  fetches-none l i = let n = fetch-len (has_third (word_at w.memory w.regs.dsp)) in low-in w.regs.dsp (len_of (word_at w.memory w.regs.dsp)) x (omega (arith, l, n)) datum i

  three : (C : Type 0) → IsIn (touched o (chip_of w) run.chip.regs.dbc) x → (IsIn (fetches (chip_of w)) x → C) → (IsIn (reads o (chip_of w) run.chip.regs.dbc) x → C) → (IsIn (writes o (chip_of w) run.chip.regs.dbc) x → C) → C
  three C i f g k = in_either (fetches (chip_of w)) (reads o (chip_of w) run.chip.regs.dbc ++ writes o (chip_of w) run.chip.regs.dbc) x C i f
      (λ j. in_either (reads o (chip_of w) run.chip.regs.dbc) (writes o (chip_of w) run.chip.regs.dbc) x C j g k)

  -- an instruction of the script that is no data move
  script-none : (p : Point) (k : ℕ) → k < 151 → (about p).place ≡ 8 * k → is_move p ≡ false → Holds version units (Running p) c w → IsIn (touched o (chip_of w) run.chip.regs.dbc) x → ⊥
  script-none p k l place e h i =
      let here : IsAt (chip_of w) (instruction k version) = stands_at version k (chip_of w) (stands version units p c w h k l place) in
      let same : o ≡ instruction k version = one_spelling (word_at w.memory w.regs.dsp) (word_at w.memory (w.regs.dsp + 4)) (third_at w.memory w.regs) o (instruction k version) at here in
      let none : data_move (8 * k) ≡ None = ap data_move (sym place) ∙ none-at version units c w p k l place e h in
      let t = controls_at k version l none in
      let low = dsa-low version units c w p k l place h in
      let entry = entry-low version units c w x datum p k l place none h in
      let most = λ (b : Block) (f : block_at (instruction k version) (chip_of w) ≡ Some b). (counts_down (moves w.desk.units (live w.desk)) word (chip_of w) run.end run.chip (instruction k version) b h.stays.2 (can w.memory w.regs k h.size (h.stays.3 ∙ place) l) here f run.ran).most in
      three ⊥ i (λ j. fetches-none (omega (arith, h.stays.3, place, l)) j)
      (λ j. reads-none (chip_of w) run.chip.regs.dbc x datum (instruction k version) t most low entry (subst (λ (n : Op). IsIn (reads n (chip_of w) run.chip.regs.dbc) x) same j))
      (λ j. writes-none (chip_of w) run.chip.regs.dbc x datum (instruction k version) t low entry (subst (λ (n : Op). IsIn (writes n (chip_of w) run.chip.regs.dbc) x) same j))

  -- ---- a chain

  chain-none : (p : Point) (h : Holds version units (Running p) c w) (a : ℕ) (ops : List Op) (j : ℕ) (n : Op) (i : IsAtChain p a ops j n w) → (IsIn (reads n (chip_of w) run.chip.regs.dbc) x → ⊥) → (IsIn (writes n (chip_of w) run.chip.regs.dbc) x → ⊥)
      → IsIn (touched o (chip_of w) run.chip.regs.dbc) x → ⊥
  chain-none p h a ops j n i r u z =
      let here : IsAt (chip_of w) n = stands-here version units p c w h new word answer run a ops j n i in
      let same : o ≡ n = one_spelling (word_at w.memory w.regs.dsp) (word_at w.memory (w.regs.dsp + 4)) (third_at w.memory w.regs) o n at here in
      three ⊥ z (λ y. fetches-none (omega (arith, h.stays.3, i.place, i.below)) y)
      (λ y. r (subst (λ (m : Op). IsIn (reads m (chip_of w) run.chip.regs.dbc) x) same y))
      (λ y. u (subst (λ (m : Op). IsIn (writes m (chip_of w) run.chip.regs.dbc) x) same y))

  abbrev us : List RigUnit
  us = (tickets_of w.desk).units

  lun-none : (r i : ℕ) → Holds version units (Running (InLuns r i)) c w → IsIn (touched o (chip_of w) run.chip.regs.dbc) x → ⊥
  lun-none r zero h z = chain-none (InLuns r 0) h (target_chain r) (lun_ops us r) 0 (op.Move 1 MSGIN 7) (in-luns version units c w new word answer run r 0 h (op.Move 1 MSGIN 7) refl refl)
      (λ y. y) (λ y. low-in MSGIN (1 - run.chip.regs.dbc) x (omega arith) datum y) z
  lun-none r (suc zero) h z = chain-none (InLuns r 1) h (target_chain r) (lun_ops us r) 1 (op.Int (Byte true 0x7F 0x80) 8) (in-luns version units c w new word answer run r 1 h (op.Int (Byte true 0x7F 0x80) 8) refl refl) (λ y. y) (λ y. y) z
  lun-none r (suc (suc zero)) h z = chain-none (InLuns r 2) h (target_chain r) (lun_ops us r) 2 (op.ToSfbr 0x08 And 0x07) (in-luns version units c w new word answer run r 2 h (op.ToSfbr 0x08 And 0x07) refl refl) (λ y. y) (λ y. y) z
  lun-none r (suc (suc (suc i))) h z =
      let j = suc (suc (suc i)) in
      let n : length (lun_ops us r) ≡ 3 + length (lun_jumps us r ++ op.Int Always 9 ∷ []) = length-append identify_ops (lun_jumps us r ++ op.Int Always 9 ∷ []) in
      elim (lun-op us r i (omega (arith, n, h.works.extra.2))) [
        | jumps y more ↦ chain-none (InLuns r j) h (target_chain r) (lun_ops us r) j (jump_if y.lun (unit_chain y.unit)) (in-luns version units c w new word answer run r j h (jump_if y.lun (unit_chain y.unit)) y.is (jump-two y.lun (unit_chain y.unit) y.small)) (λ v. v) (λ v. v) z
        | stops e ↦ chain-none (InLuns r j) h (target_chain r) (lun_ops us r) j (op.Int Always 9) (in-luns version units c w new word answer run r j h (op.Int Always 9) e refl) (λ v. v) (λ v. v) z
      ]

  chains-none : (p : Point) → is_chain p ≡ true → Holds version units (Running p) c w → IsIn (touched o (chip_of w) run.chip.regs.dbc) x → ⊥
  chains-none (InTargets r j) e h z = elim (target-op us j h.works.extra.1) [
    | jumps y more ↦ chain-none (InTargets r j) h CHAINS (target_ops us) j (jump_if y.target (target_chain y.target)) (in-targets version units c w new word answer run r j h (jump_if y.target (target_chain y.target)) y.is (jump-two y.target (target_chain y.target) y.below)) (λ v. v) (λ v. v) z
    | stops f ↦ chain-none (InTargets r j) h CHAINS (target_ops us) j (op.Int Always 0x0A) (in-targets version units c w new word answer run r j h (op.Int Always 0x0A) f refl) (λ v. v) (λ v. v) z
  ]
  chains-none (InLuns r j) e h z = lun-none r j h z
  chains-none (AtUnit u r) e h z =
      let f : length us ≤ 16 = few version units (Running (AtUnit u r)) c w 0 h in
      let i : IsAtChain (AtUnit u r) (unit_chain u) (unit_ops u) 0 (op.Load 0x10 4 (At (unit_chain u + 0x10))) w = record { spells = h.parts.chains.units_laid u h.works.extra.0; inside = lit< tt; is = refl; place = omega arith; aligned = omega arith; from = omega arith; below = omega (arith, f, h.works.extra.0); two = refl } in
      chain-none (AtUnit u r) h (unit_chain u) (unit_ops u) 0 (op.Load 0x10 4 (At (unit_chain u + 0x10))) i
      (λ y. low-in (unit_chain u + 0x10) 4 x (omega (arith, f, h.works.extra.0)) datum (in_memory (nat_le (unit_chain u + 0x10 + 4) (length w.memory)) (unit_chain u + 0x10) 4 x y)) (λ y. y) z
  chains-none (BehindUnit u r) e h z =
      let f : length us ≤ 16 = few version units (Running (BehindUnit u r)) c w 0 h in
      let i : IsAtChain (BehindUnit u r) (unit_chain u) (unit_ops u) 1 (op.Jump Always 0x160) w = record { spells = h.parts.chains.units_laid u h.works.extra.0; inside = lit< tt; is = refl; place = refl; aligned = omega arith; from = omega arith; below = omega (arith, f, h.works.extra.0); two = refl } in
      chain-none (BehindUnit u r) h (unit_chain u) (unit_ops u) 1 (op.Jump Always 0x160) i (λ y. y) (λ y. y) z
  chains-none _ e h z = absurd cc

  -- ---- a data move

  moved-own : (t : ℕ) (m : DataMove) → Holds version units (Running (Moves t m)) c w → IsIn (touched o (chip_of w) run.chip.regs.dbc) x → IsOwn ((tickets_of w.desk).fixed t) x
  moved-own t m h z =
      let ts = tickets_of w.desk in
      let k : ℕ = move_place m.phase m.entry / 8 in
      let f = finds_moves (move_place m.phase m.entry) version m h.works.extra.at in
      let place : (about (Moves t m)).place ≡ 8 * k = omega (arith, f.aligned) in
      let n : Op = instruction_of m in
      let here : IsAt (chip_of w) n = subst (λ (i : Op). IsAt (chip_of w) i) f.stands (stands_at version k (chip_of w) (stands version units (Moves t m) c w h k f.within place)) in
      let same : o ≡ n = one_spelling (word_at w.memory w.regs.dsp) (word_at w.memory (w.regs.dsp + 4)) (third_at w.memory w.regs) o n at here in
      let d = data_stay version units t m c w new word answer run h in
      let a : ℕ = offset (count_field m.entry) in
      let entry : IsMoveEntry m.entry = (move_stands (move_place m.phase m.entry) m h.works.extra.at).0 in
      let low = entry-below m.entry entry in
      let block : IsLow w.regs.dsa = inr (subst IsCommandBlock (sym h.stays.4.dsa) (h.tickets.block t d.live)) in
      let next : w.regs.dsa + a + 4 ≡ w.regs.dsa + offset (address_field m.entry) = omega (arith, address-next m.entry) in
      let own : IsIn (Entry (chip_of w) (pos a)) x → IsOwn (ts.fixed t) x = λ y.
      elim (subst (λ (i : ℕ). IsIn (range (word_at w.memory i) (word_at w.memory (w.regs.dsa + a) % 16777216)) x) next (entry-at (chip_of w) a x y)) [ inl v ↦ d.entry x v.0 v.1 | inr v ↦ absurd v ] in
      let e : Option Block = entry_of w.memory (place_of w.memory w.regs.dsa (pos a) 8) in
      let most = λ (b : Block) (g : block_at n (chip_of w) ≡ Some b). (counts_down (moves w.desk.units (live w.desk)) word (chip_of w) run.end run.chip n b h.stays.2 (can w.memory w.regs k h.size (h.stays.3 ∙ place) f.within) here g run.ran).most in
      three (IsOwn (ts.fixed t) x) z
      (λ y. absurd (fetches-none (omega (arith, h.stays.3, place, f.within)) y))
      (λ y. in_either (range_at (place_of w.memory w.regs.dsa (pos a) 8) 8) (of_block (went (is_in (phase_code m.phase)) run.chip.regs.dbc) e) x (IsOwn (ts.fixed t) x) (subst (λ (i : Op). IsIn (reads i (chip_of w) run.chip.regs.dbc) x) same y)
      (λ v. absurd (from-dsa-in (chip_of w) run.chip.regs.dbc x datum 8 a (omega (arith, low)) block v))
      (λ v. own (of_went run.chip.regs.dbc x (is_in (phase_code m.phase)) e most v)))
      (λ y. own (of_came run.chip.regs.dbc x (is_in (phase_code m.phase)) e (subst (λ (i : Op). IsIn (writes i (chip_of w) run.chip.regs.dbc) x) same y)))

  move-touched : (t : ℕ) (m : DataMove) → Holds version units (Running (Moves t m)) c w → IsIn (touched o (chip_of w) run.chip.regs.dbc) x → IsMoved w x
  move-touched t m h z =
      let d = data_stay version units t m c w new word answer run h in
      record { move = ap (λ (i : ℕ). is_some (move_at i)) h.stays.3 ∙ ap (λ (i : Option DataMove). is_some i) h.works.extra.at; number = t; live = d.live; dsa = d.dsa; own = moved-own t m h z; linked = h.linked }

  -- ---- each point

  as-move : (p : Point) → is_move p ≡ true → (t : ℕ) × (m : DataMove) × (p ≡ Moves t m)
  as-move (Moves t m) e = (t, m, refl)
  as-move _ e = absurd cc

  by-move : (b : Bool) (p : Point) (k : ℕ) → is_move p ≡ b → k < 151 → (about p).place ≡ 8 * k → Holds version units (Running p) c w → IsIn (touched o (chip_of w) run.chip.regs.dbc) x → IsMoved w x
  by-move true p k e l place h z = let m = as-move p e in move-touched m.0 m.1 (subst (λ (q : Point). Holds version units (Running q) c w) m.2 h) z
  by-move false p k e l place h z = absurd (script-none p k l place e h z)

  pub at-point : (p : Point) → Holds version units (Running p) c w → IsIn (touched o (chip_of w) run.chip.regs.dbc) x → IsMoved w x
  at-point p h z = elim (stands-at version units c w p h) [
    | script k l place side ↦ by-move (is_move p) p k refl l place h z
    | at-over t e ↦ absurd (script-none (At2B8 t) 87 (omega arith) refl refl (subst (λ (q : Point). Holds version units (Running q) c w) e h) z)
    | in-chain e far ↦ absurd (chains-none p e h z)
  ]

pub data_are_moved : DataAreMoved
data_are_moved g setting bytes ms r new word answer o x runs run at touches datum =
    let w = last (opened g) ms in
    let own = words_are_owned g setting bytes ms r in
    let k = running g.version g.units own.spot own.counts w runs own.holds in
    let dbc : new.regs.dbc ≡ run.chip.regs.dbc = ap (λ (v : World). v.regs.dbc) run.world in
    at-point g.version g.units own.counts w new word answer run o at x datum k.0 k.1 (subst (λ (i : ℕ). IsIn (touched o (chip_of w) i) x) dbc touches)
