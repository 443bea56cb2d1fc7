-- Which bytes a step of the chip changes: those of the script's footprint, but at a data move.
use Rattle.std.proofs.Common.{arith, lit<, length-append, ◌≡◌, ◌≢◌, ◌⊎◌, inl, inr, ℕ, pos, zero, suc, ◌+◌, ◌*◌, ◌%◌, ◌<◌, ◌≤◌, Bool, true, false, nat_le, List, [], ◌∷◌, ◌++◌, length, slice_index, Option, Some, None, refl, sym, ap, subst, ◌∙◌}
use Rattle.std.specs.Prelude.{if◌then◌else◌, nat_eq, is_some}
use Rattle.std.proofs.lemmas.Bool.{cases_lt}
use Rattle.std.proofs.lemmas.Bool.Decides.{nat_tests}
use Rattle.bench_words.specs.Memory.{word_at}
use Rattle.rig_types.specs.declared.rig.Unit.{Unit as RigUnit}
use Rattle.host_map.specs.declared.TheConstants.{CHAINS, DONEP, IDLE, MSGIN}
use Rattle.host_map.specs.Places.{target_chain, unit_chain}
use Rattle.scripts_ops.specs.declared.values.Op.{Op}
use Rattle.scripts_ops.specs.declared.values.Op.TheVariants.{Move, MoveFrom, Jump, Int, ToSfbr, Load}
use Rattle.scripts_ops.specs.declared.values.Address.TheVariants.{At}
use Rattle.scripts_ops.specs.declared.values.Change.TheVariants.{And}
use Rattle.scripts_ops.specs.declared.values.Condition.TheVariants.{Always, Byte}
use Rattle.driver_script.specs.Script.{instruction}
use Rattle.driver_script.specs.Moves.{data_move}
use Rattle.phase_fix.specs.declared.moves.DataMove.{DataMove}
use Rattle.phase_fix.specs.declared.moves.DataPhase.{DataPhase}
use Rattle.phase_fix.specs.declared.moves.DataPhase.TheVariants.{In, Out}
use Rattle.phase_fix.specs.declared.moves.Entry.TheVariants.{Context}
use Rattle.phase_fix.specs.Moves.{move_at}
use Rattle.phase_fix.proofs.MoveLaws.{move_stands}
use Rattle.rig_chains.specs.Chains.{jump_if, identify_ops, target_ops, lun_ops, lun_jumps, unit_ops}
use Rattle.chip_step.specs.Addresses.{place_of}
use Rattle.chip_step.specs.Step.{after_fetch}
use Rattle.chip_rows.specs.Leaving.{ChangesWithin}
use Rattle.chip_rows.specs.Touched.{Range, IsIn, range, range_at, writes}
use Rattle.chip_rows.proofs.StepWrites.{writes_within}
use Rattle.bus_law.specs.Moves.{moves}
use Rattle.ownership.specs.Footprint.{Place, Nowhere, Fixed, Relative, footprint, ranges}
use Rattle.ownership.proofs.Footprint.{writes_only}
use Rattle.world_law.specs.declared.reply.Reply.{Reply}
use Rattle.world_law.specs.Opening.{opened}
use Rattle.world_law.specs.Runs.{last}
use Rattle.world_law.specs.World.{World, live}
use Rattle.world_law.specs.ChipSteps.{chip_of, RunsChip}
use Rattle.word_owners.specs.Tickets.{tickets_of, block_of}
use Rattle.word_owners.specs.Points.{Point, about, InTargets, InLuns, AtUnit, BehindUnit, Moves, BehindContext, LeavesContext, At000, At008, At010Idle, At010Job, At010Sense, At018Idle, At018Job, At018Sense, At020, At028, At030, At038Idle, At038, At040Idle, At040, At048, At050, At058, At060, At068, At070, At078, At080, At088, At090, At098, At0A0, At0A8, At0B0, At0B8, At0C0, At0C8, At0D0, At0D8, At0E0, At0E8, At0F0, At0F8, At100, At108, At110, At118, At120, At128, At130, At138, At140, At148, At150, At158, At160, At168, At170, At178, At180, At188, At190, At460, At468, At470, At478, At480, At488, At490, At498, At4A0, At4A8, At4B0, At198, At1A0, At1A0None, At1A8, At1A8Bad, At1A8None, At1B0, At1B0None, At1B8, At1B8None, At1C0, At1C8, At1D0, At1D8, At1E0, At1E8, At1F0, At1F8, At200, At208, At210, At218, At220, At228, At230, At238, At240, At248, At250, At258, At260, At268, At270, At278, At280, At288, At290, At298, At2A0, At2A8, At2B0, At2B8, At340, At3C8, At3D0, At3D8, At440, At448, At450, At458}
use Rattle.word_owners.specs.Parts.{Counts}
use Rattle.word_owners.specs.Works.{role, worker}
use Rattle.word_owners.specs.Pointers.{move_place}
use Rattle.word_owners.specs.Holds.{Holds, Running}
use Rattle.word_owners.specs.Footprints.{IsScripts, IsDatum, ScriptWritesOnly}
use Rattle.word_owners.specs.BufferWrites.{OnlyDataMovesWrite}
use Rattle.word_owners.proofs.Frames.{active-live}
use Rattle.word_owners.proofs.Room.{done-room}
use Rattle.word_owners.proofs.StageChanges.{worker-active}
use Rattle.word_owners.proofs.Buffers.{data_stay}
use Rattle.word_owners.proofs.RunningChip.{running}
use Rattle.word_owners.proofs.Worlds.{words_are_owned}
use Rattle.word_owners.proofs.BlockMoves.{refused, broke, whole, moves_from}
use Rattle.word_owners.proofs.ChipSteps.{row, stands}
use Rattle.word_owners.proofs.ChainOps.{jumps, stops, target-op, lun-op}
use Rattle.word_owners.proofs.ChainSteps.{IsAtChain, stands-here, in-targets, in-luns, jump-two}

-- what changes is of the footprint
abbrev Kept : (w new : World) → Type 0
Kept w new = (i : ℕ) → slice_index new.memory i ≢ slice_index w.memory i → IsScripts w i

-- an address lies in the ranges, or doesn't
or-left : (from len i : ℕ) (P : Type 0) → P ⊎ (P → ⊥) → (((from ≤ i) × (i < from + len)) ⊎ P) ⊎ ((((from ≤ i) × (i < from + len)) ⊎ P) → ⊥)
or-left from len i P (inl p) = inl (inr p)
or-left from len i P (inr n) = elim (cases_lt i from) [
  | inl l ↦ inr (λ x. elim x [ inl y ↦ omega (arith, l, y.0) | inr y ↦ n y ])
  | inr l ↦ elim (cases_lt i (from + len)) [
    | inl u ↦ inl (inl (l, u))
    | inr u ↦ inr (λ x. elim x [ inl y ↦ omega (arith, u, y.1) | inr y ↦ n y ])
  ]
]

is-in-or : (rs : List Range) (i : ℕ) → IsIn rs i ⊎ (IsIn rs i → ⊥)
is-in-or [] i = inr (λ x. x)
is-in-or (r ∷ rs) i = or-left r.from r.len i (IsIn rs i) (is-in-or rs i)

place-reads : (b : Bool) (a n i : ℕ) → IsIn (range_at (if b then Some a else None) n) i → (a ≤ i) × (i < a + n)
place-reads true a n i (inl x) = x
place-reads true a n i (inr x) = absurd x
place-reads false a n i x = absurd x

in-relative : (m : List ℕ) (dsa o n i : ℕ) → IsIn (range_at (place_of m dsa (pos o) n) n) i → (dsa + o ≤ i) × (i < dsa + o + n)
unfolding place_of
in-relative m dsa o n i x = place-reads (nat_le (dsa + o + n) (length m)) (dsa + o) n i x

module _ (version : ℕ) (units : List RigUnit) (p : Point) (c : Counts) (w : World) (h : Holds version units (Running p) c w) (new : World) (word : ℕ) (answer : Reply) (run : RunsChip w word answer new) where
  memory-is : new.memory ≡ run.chip.memory
  memory-is = ap (λ (x : World). x.memory) run.world

  changes : (k : ℕ) (q : Place) → k < 151 → (about p).place ≡ 8 * k → footprint (8 * k) ≡ q → ChangesWithin (ranges q (chip_of w) run.chip.regs.dbc) w.memory run.chip.memory
  changes k q inside from e = subst (λ (x : Place). ChangesWithin (ranges x (chip_of w) run.chip.regs.dbc) w.memory run.chip.memory) e
      (writes_only (moves w.desk.units (live w.desk)) version k word (chip_of w) run.end run.chip (stands version units p c w h k inside from) run.ran)

  kept-by : (rs : List Range) → ChangesWithin rs w.memory run.chip.memory → ((i : ℕ) → IsIn rs i → IsScripts w i) → Kept w new
  kept-by rs x sub i ne = elim (is-in-or rs i) [
    | inl y ↦ sub i y
    | inr n ↦ absurd (ne (ap (λ (m : List ℕ). slice_index m i) memory-is ∙ x.others i n))
  ]

  nowhere-kept : (k : ℕ) → k < 151 → (about p).place ≡ 8 * k → footprint (8 * k) ≡ Nowhere → Kept w new
  nowhere-kept k inside from e = kept-by [] (changes k Nowhere inside from e) (λ i x. absurd x)

  -- the words that driver and script share
  fixed-kept : (k n a : ℕ) → k < 151 → (about p).place ≡ 8 * k → footprint (8 * k) ≡ Fixed n a → 0x1000 ≤ a → a + n ≤ 0x1011 → Kept w new
  fixed-kept k n a inside from e low high =
      kept-by (range a n) (changes k (Fixed n a) inside from e) (λ i x. elim x [ inl y ↦ inl (omega (arith, y.0, low), omega (arith, y.1, high)) | inr y ↦ absurd y ])

  -- DSA is the done slot that DONEP names, and it is idle
  slot-kept : (k : ℕ) → k < 151 → (about p).place ≡ 8 * k → footprint (8 * k) ≡ Relative 4 (pos 0) → word_at w.memory DONEP ≡ w.regs.dsa → word_at w.memory w.regs.dsa ≡ IDLE → Kept w new
  slot-kept k inside from e slot idle =
      kept-by (range_at (place_of w.memory w.regs.dsa (pos 0) 4) 4) (changes k (Relative 4 (pos 0)) inside from e)
      (λ i x. (let y = in-relative w.memory w.regs.dsa 0 4 i x in inr (inl (omega (arith, y.0, slot), omega (arith, y.1, slot), ap (word_at w.memory) slot ∙ idle))))

  -- DSA is the block of the ticket at work
  block-kept : (t k o : ℕ) → worker (role (about p).work) ≡ Some t → w.regs.dsa ≡ block_of (tickets_of w.desk) t → k < 151 → (about p).place ≡ 8 * k → footprint (8 * k) ≡ Relative 4 (pos o)
      → ((8 ≤ o) × (o + 4 ≤ 0x14)) ⊎ (o ≡ 0x1C) → Kept w new
  block-kept t k o e d inside from f field =
      let ts = tickets_of w.desk in
      let active = worker-active (role (about p).work) (word_at w.memory) ts c t e h.works.plays in
      kept-by (range_at (place_of w.memory w.regs.dsa (pos o) 4) 4) (changes k (Relative 4 (pos o)) inside from f) (λ i x.
      let y = in-relative w.memory w.regs.dsa o 4 i x in
      inr (inr (record {
        number = t;
        active = active;
        dsa = d;
        field = elim field [ inl z ↦ inl (omega (arith, y.0, z.0), omega (arith, y.1, z.1)) | inr z ↦ inr (omega (arith, y.0, z), omega (arith, y.1, z)) ];
      })))

  -- an instruction of a chain
  chain-kept : (a : ℕ) (ops : List Op) (j : ℕ) (op : Op) (i : IsAtChain p a ops j op w) → ((left x : ℕ) → IsIn (writes op (chip_of w) left) x → IsScripts w x) → Kept w new
  chain-kept a ops j op i out = kept-by (writes op (chip_of w) run.chip.regs.dbc) (writes_within (moves w.desk.units (live w.desk)) word (chip_of w) run.end run.chip op (stands-here version units p c w h new word answer run a ops j op i) run.ran) (out run.chip.regs.dbc)

-- the status that comes lies in the block
status-kept : (version : ℕ) (units : List RigUnit) (t : ℕ) (c : Counts) (w : World) (h : Holds version units (Running (At0C8 t)) c w) (new : World) (word : ℕ) (answer : Reply) → RunsChip w word answer new → Kept w new
unfolding instruction
status-kept version units t c w h new word answer run =
    let ts = tickets_of w.desk in
    let l = active-live (ts.stage t) h.works.plays.begun.stage in
    let b = h.tickets.block t l in
    let s = (h.parts.blocks t l).status in
    let d : w.regs.dsa ≡ block_of ts t = h.stays.4.dsa in
    let at : w.regs.dsa + 0x30 ≡ block_of ts t + 0x30 = ap (λ (x : ℕ). x + 0x30) d in
    let e : block_of ts t + 0x30 + 4 ≡ block_of ts t + 0x34 = omega arith in
    let m = moves_from w.desk.units (live w.desk) word 0x30 (block_of ts t + 0x30) 1 (block_of ts t + 0x14) 3 (after_fetch (chip_of w)) run.end run.chip at h.size (omega (arith, b.below)) (ap (λ (x : ℕ). x % 16777216) s.0) (ap (word_at w.memory) e ∙ s.1)
    (row version units (At0C8 t) c w h new word answer run 25 (MoveFrom (pos 0x30) 3) (omega arith) refl refl) in
    let mem : new.memory ≡ run.chip.memory = ap (λ (x : World). x.memory) run.world in
    let here : (i : ℕ) → block_of ts t + 0x14 ≤ i → i < block_of ts t + 0x15 → IsScripts w i = λ i from below. inr (inr (record { number = t; active = h.works.plays.begun.stage; dsa = d; field = inl (omega (arith, d, from), omega (arith, d, below)) })) in
    let kept : ((i : ℕ) → (i < block_of ts t + 0x14) ⊎ (block_of ts t + 0x15 ≤ i) → slice_index run.chip.memory i ≡ slice_index w.memory i) → Kept w new = λ other i ne. elim (cases_lt i (block_of ts t + 0x14)) [
      | inl y ↦ absurd (ne (ap (λ (x : List ℕ). slice_index x i) mem ∙ other i (inl y)))
      | inr y ↦ elim (cases_lt i (block_of ts t + 0x15)) [
        | inl z ↦ here i y z
        | inr z ↦ absurd (ne (ap (λ (x : List ℕ). slice_index x i) mem ∙ other i (inr z)))
      ]
    ] in
    elim m [
      | refused cause must end same ↦ λ i ne. absurd (ne (ap (λ (x : List ℕ). slice_index x i) (mem ∙ same)))
      | broke left some most fits f end dbc dsp dsa still who ↦ kept (λ i o. f.other i (elim o [ inl y ↦ inl y | inr y ↦ inr (omega (arith, y)) ]))
      | whole fits f end dsp dsa still who ↦ kept (λ i o. f.other i (elim o [ inl y ↦ inl y | inr y ↦ inr (omega (arith, y)) ]))
    ]

-- ---- the chains

target-kept : (version : ℕ) (units : List RigUnit) (r j : ℕ) (c : Counts) (w : World) (h : Holds version units (Running (InTargets r j)) c w) (new : World) (word : ℕ) (answer : Reply) → RunsChip w word answer new → Kept w new
target-kept version units r j c w h new word answer run =
    let us = (tickets_of w.desk).units in
    elim (target-op us j h.works.extra.1) [
      | jumps x more ↦
          let op = jump_if x.target (target_chain x.target) in
          chain-kept version units (InTargets r j) c w h new word answer run CHAINS (target_ops us) j op (in-targets version units c w new word answer run r j h op x.is (jump-two x.target (target_chain x.target) x.below)) (λ left y z. absurd z)
      | stops e ↦ chain-kept version units (InTargets r j) c w h new word answer run CHAINS (target_ops us) j (Int Always 0x0A) (in-targets version units c w new word answer run r j h (Int Always 0x0A) e refl) (λ left y z. absurd z)
    ]

lun-kept : (version : ℕ) (units : List RigUnit) (r j : ℕ) (c : Counts) (w : World) (h : Holds version units (Running (InLuns r j)) c w) (new : World) (word : ℕ) (answer : Reply) → RunsChip w word answer new → Kept w new
lun-kept version units r zero c w h new word answer run =
    let us = (tickets_of w.desk).units in
    chain-kept version units (InLuns r 0) c w h new word answer run (target_chain r) (lun_ops us r) 0 (Move 1 MSGIN 7) (in-luns version units c w new word answer run r 0 h (Move 1 MSGIN 7) refl refl) (λ left y z. elim z [ inl x ↦ inl (omega (arith, x.0), omega (arith, x.1)) | inr x ↦ absurd x ])
lun-kept version units r (suc zero) c w h new word answer run =
    let us = (tickets_of w.desk).units in
    chain-kept version units (InLuns r 1) c w h new word answer run (target_chain r) (lun_ops us r) 1 (Int (Byte true 0x7F 0x80) 8) (in-luns version units c w new word answer run r 1 h (Int (Byte true 0x7F 0x80) 8) refl refl) (λ left y z. absurd z)
lun-kept version units r (suc (suc zero)) c w h new word answer run =
    let us = (tickets_of w.desk).units in
    chain-kept version units (InLuns r 2) c w h new word answer run (target_chain r) (lun_ops us r) 2 (ToSfbr 0x08 And 0x07) (in-luns version units c w new word answer run r 2 h (ToSfbr 0x08 And 0x07) refl refl) (λ left y z. absurd z)
lun-kept version units r (suc (suc (suc i))) c w h new word answer run =
    let us = (tickets_of w.desk).units in
    let j = suc (suc (suc i)) in
    let n : length (lun_ops us r) ≡ 3 + length (lun_jumps us r ++ Int Always 9 ∷ []) = length-append identify_ops (lun_jumps us r ++ Int Always 9 ∷ []) in
    elim (lun-op us r i (omega (arith, n, h.works.extra.2))) [
      | jumps x more ↦
          let op = jump_if x.lun (unit_chain x.unit) in
          chain-kept version units (InLuns r j) c w h new word answer run (target_chain r) (lun_ops us r) j op (in-luns version units c w new word answer run r j h op x.is (jump-two x.lun (unit_chain x.unit) x.small)) (λ left y z. absurd z)
      | stops e ↦ chain-kept version units (InLuns r j) c w h new word answer run (target_chain r) (lun_ops us r) j (Int Always 9) (in-luns version units c w new word answer run r j h (Int Always 9) e refl) (λ left y z. absurd z)
    ]

unit-kept : (version : ℕ) (units : List RigUnit) (u r : ℕ) (c : Counts) (w : World) (h : Holds version units (Running (AtUnit u r)) c w) (new : World) (word : ℕ) (answer : Reply) → RunsChip w word answer new → Kept w new
unit-kept version units u r c w h new word answer run =
    let ts = tickets_of w.desk in
    let few : length ts.units ≤ 16 = subst (λ (x : List RigUnit). length x ≤ 16) (sym h.units_are) h.few_units in
    let op = Load 0x10 4 (At (unit_chain u + 0x10)) in
    let i : IsAtChain (AtUnit u r) (unit_chain u) (unit_ops u) 0 op w = record { spells = h.parts.chains.units_laid u h.works.extra.0; inside = lit< tt; is = refl; place = omega arith; aligned = omega arith; from = omega arith; below = omega (arith, few, h.works.extra.0); two = refl } in
    chain-kept version units (AtUnit u r) c w h new word answer run (unit_chain u) (unit_ops u) 0 op i (λ left y z. absurd z)

behind-kept : (version : ℕ) (units : List RigUnit) (u r : ℕ) (c : Counts) (w : World) (h : Holds version units (Running (BehindUnit u r)) c w) (new : World) (word : ℕ) (answer : Reply) → RunsChip w word answer new → Kept w new
behind-kept version units u r c w h new word answer run =
    let ts = tickets_of w.desk in
    let few : length ts.units ≤ 16 = subst (λ (x : List RigUnit). length x ≤ 16) (sym h.units_are) h.few_units in
    let op = Jump Always 0x160 in
    let i : IsAtChain (BehindUnit u r) (unit_chain u) (unit_ops u) 1 op w = record { spells = h.parts.chains.units_laid u h.works.extra.0; inside = lit< tt; is = refl; place = refl; aligned = omega arith; from = omega arith; below = omega (arith, few, h.works.extra.0); two = refl } in
    chain-kept version units (BehindUnit u r) c w h new word answer run (unit_chain u) (unit_ops u) 1 op i (λ left y z. absurd z)

-- ---- behind a context

context-kept : (version : ℕ) (units : List RigUnit) (t : ℕ) (phase : DataPhase) (k : ℕ) (c : Counts) (w : World) (h : Holds version units (Running (BehindContext t phase k)) c w) (new : World) (word : ℕ) (answer : Reply) → RunsChip w word answer new → k < 2 → Kept w new
unfolding footprint data_move
context-kept version units t In zero c w h new word answer run l = nowhere-kept version units (BehindContext t In 0) c w h new word answer run 125 (omega arith) refl refl
context-kept version units t In (suc zero) c w h new word answer run l = nowhere-kept version units (BehindContext t In 1) c w h new word answer run 128 (omega arith) refl refl
context-kept version units t Out zero c w h new word answer run l = nowhere-kept version units (BehindContext t Out 0) c w h new word answer run 131 (omega arith) refl refl
context-kept version units t Out (suc zero) c w h new word answer run l = nowhere-kept version units (BehindContext t Out 1) c w h new word answer run 134 (omega arith) refl refl
context-kept version units t In (suc (suc k)) c w h new word answer run l = absurd (omega (arith, l))
context-kept version units t Out (suc (suc k)) c w h new word answer run l = absurd (omega (arith, l))

not-zero : (k : ℕ) → nat_eq (suc k) 0 ≡ false
not-zero k = grind (arith, nat_tests)

leaves-kept : (version : ℕ) (units : List RigUnit) (t : ℕ) (phase : DataPhase) (j k : ℕ) (c : Counts) (w : World) (h : Holds version units (Running (LeavesContext t phase j k)) c w) (new : World) (word : ℕ) (answer : Reply) → RunsChip w word answer new → Kept w new
unfolding footprint data_move
leaves-kept version units t In j zero c w h new word answer run = nowhere-kept version units (LeavesContext t In j 0) c w h new word answer run 126 (omega arith) refl refl
leaves-kept version units t In j (suc k) c w h new word answer run = nowhere-kept version units (LeavesContext t In j (suc k)) c w h new word answer run 129 (omega arith) (ap (λ (b : Bool). (if b then 0x3E0 else 0x3F8) + 16) (not-zero k)) refl
leaves-kept version units t Out j zero c w h new word answer run = nowhere-kept version units (LeavesContext t Out j 0) c w h new word answer run 132 (omega arith) refl refl
leaves-kept version units t Out j (suc k) c w h new word answer run = nowhere-kept version units (LeavesContext t Out j (suc k)) c w h new word answer run 135 (omega arith) (ap (λ (b : Bool). (if b then 0x410 else 0x428) + 16) (not-zero k)) refl

-- ---- each point

abbrev Above : Point → World → World → Type 0
Above p w new = Kept w new ⊎ ((t : ℕ) × (x : DataMove) × (p ≡ Moves t x))

above : (version : ℕ) (units : List RigUnit) (p : Point) (c : Counts) (w new : World) (word : ℕ) (answer : Reply) (run : RunsChip w word answer new) → Holds version units (Running p) c w → Above p w new
unfolding footprint data_move
above version units At000 c w new word answer run h = inl (nowhere-kept version units At000 c w h new word answer run 0 (omega arith) refl refl)
above version units At008 c w new word answer run h = inl (nowhere-kept version units At008 c w h new word answer run 1 (omega arith) refl refl)
above version units At010Idle c w new word answer run h = inl (nowhere-kept version units At010Idle c w h new word answer run 2 (omega arith) refl refl)
above version units At010Job c w new word answer run h = inl (nowhere-kept version units At010Job c w h new word answer run 2 (omega arith) refl refl)
above version units (At010Sense t) c w new word answer run h = inl (nowhere-kept version units (At010Sense t) c w h new word answer run 2 (omega arith) refl refl)
above version units At018Idle c w new word answer run h = inl (nowhere-kept version units At018Idle c w h new word answer run 3 (omega arith) refl refl)
above version units At018Job c w new word answer run h = inl (nowhere-kept version units At018Job c w h new word answer run 3 (omega arith) refl refl)
above version units (At018Sense t) c w new word answer run h = inl (nowhere-kept version units (At018Sense t) c w h new word answer run 3 (omega arith) refl refl)
above version units At020 c w new word answer run h = inl (nowhere-kept version units At020 c w h new word answer run 4 (omega arith) refl refl)
above version units At028 c w new word answer run h = inl (nowhere-kept version units At028 c w h new word answer run 5 (omega arith) refl refl)
above version units At030 c w new word answer run h = inl (nowhere-kept version units At030 c w h new word answer run 6 (omega arith) refl refl)
above version units At038Idle c w new word answer run h = inl (nowhere-kept version units At038Idle c w h new word answer run 7 (omega arith) refl refl)
above version units (At038 t) c w new word answer run h = inl (nowhere-kept version units (At038 t) c w h new word answer run 7 (omega arith) refl refl)
above version units At040Idle c w new word answer run h = inl (nowhere-kept version units At040Idle c w h new word answer run 8 (omega arith) refl refl)
above version units (At040 t u) c w new word answer run h = inl (nowhere-kept version units (At040 t u) c w h new word answer run 8 (omega arith) refl refl)
above version units At048 c w new word answer run h = inl (nowhere-kept version units At048 c w h new word answer run 9 (omega arith) refl refl)
above version units (At050 t) c w new word answer run h = inl (nowhere-kept version units (At050 t) c w h new word answer run 10 (omega arith) refl refl)
above version units (At058 t) c w new word answer run h = inl (nowhere-kept version units (At058 t) c w h new word answer run 11 (omega arith) refl refl)
above version units (At060 t) c w new word answer run h = inl (nowhere-kept version units (At060 t) c w h new word answer run 12 (omega arith) refl refl)
above version units (At068 t) c w new word answer run h = inl (fixed-kept version units (At068 t) c w h new word answer run 13 4 0x1004 (omega arith) refl refl (omega arith) (omega arith))
above version units (At070 t) c w new word answer run h = inl (nowhere-kept version units (At070 t) c w h new word answer run 14 (omega arith) refl refl)
above version units (At078 t) c w new word answer run h = inl (block-kept version units (At078 t) c w h new word answer run t 15 0x1C refl h.stays.4.dsa (omega arith) refl refl (inr refl))
above version units (At080 t) c w new word answer run h = inl (nowhere-kept version units (At080 t) c w h new word answer run 16 (omega arith) refl refl)
above version units (At088 t) c w new word answer run h = inl (nowhere-kept version units (At088 t) c w h new word answer run 17 (omega arith) refl refl)
above version units (At090 t) c w new word answer run h = inl (nowhere-kept version units (At090 t) c w h new word answer run 18 (omega arith) refl refl)
above version units (At098 t) c w new word answer run h = inl (nowhere-kept version units (At098 t) c w h new word answer run 19 (omega arith) refl refl)
above version units (At0A0 t) c w new word answer run h = inl (nowhere-kept version units (At0A0 t) c w h new word answer run 20 (omega arith) refl refl)
above version units (At0A8 t) c w new word answer run h = inl (nowhere-kept version units (At0A8 t) c w h new word answer run 21 (omega arith) refl refl)
above version units (At0B0 t) c w new word answer run h = inl (nowhere-kept version units (At0B0 t) c w h new word answer run 22 (omega arith) refl refl)
above version units (At0B8 t) c w new word answer run h = inl (nowhere-kept version units (At0B8 t) c w h new word answer run 23 (omega arith) refl refl)
above version units (At0C0 t u) c w new word answer run h = inl (nowhere-kept version units (At0C0 t u) c w h new word answer run 24 (omega arith) refl refl)
above version units (At0C8 t) c w new word answer run h = inl (status-kept version units t c w h new word answer run)
above version units (At0D0 t) c w new word answer run h = inl (nowhere-kept version units (At0D0 t) c w h new word answer run 26 (omega arith) refl refl)
above version units (At0D8 t) c w new word answer run h = inl (fixed-kept version units (At0D8 t) c w h new word answer run 27 1 0x1010 (omega arith) refl refl (omega arith) (omega arith))
above version units (At0E0 t) c w new word answer run h = inl (nowhere-kept version units (At0E0 t) c w h new word answer run 28 (omega arith) refl refl)
above version units (At0E8 t) c w new word answer run h = inl (nowhere-kept version units (At0E8 t) c w h new word answer run 29 (omega arith) refl refl)
above version units (At0F0 t) c w new word answer run h = inl (nowhere-kept version units (At0F0 t) c w h new word answer run 30 (omega arith) refl refl)
above version units (At0F8 t) c w new word answer run h = inl (nowhere-kept version units (At0F8 t) c w h new word answer run 31 (omega arith) refl refl)
above version units (At100 t) c w new word answer run h = inl (nowhere-kept version units (At100 t) c w h new word answer run 32 (omega arith) refl refl)
above version units (At108 t) c w new word answer run h = inl (nowhere-kept version units (At108 t) c w h new word answer run 33 (omega arith) refl refl)
above version units (At110 t u) c w new word answer run h = inl (block-kept version units (At110 t u) c w h new word answer run t 34 0x0C refl h.stays.4.dsa (omega arith) refl refl (inl (omega arith, omega arith)))
above version units (At118 t) c w new word answer run h = inl (nowhere-kept version units (At118 t) c w h new word answer run 35 (omega arith) refl refl)
above version units (At120 t) c w new word answer run h = inl (nowhere-kept version units (At120 t) c w h new word answer run 36 (omega arith) refl refl)
above version units (At128 t) c w new word answer run h = inl (nowhere-kept version units (At128 t) c w h new word answer run 37 (omega arith) refl refl)
above version units (At130 t u) c w new word answer run h = inl (block-kept version units (At130 t u) c w h new word answer run t 38 0x08 refl h.stays.4.dsa (omega arith) refl refl (inl (omega arith, omega arith)))
above version units (At138 t) c w new word answer run h = inl (nowhere-kept version units (At138 t) c w h new word answer run 39 (omega arith) refl refl)
above version units (At140 t) c w new word answer run h = inl (nowhere-kept version units (At140 t) c w h new word answer run 40 (omega arith) refl refl)
above version units (At148 t) c w new word answer run h = inl (nowhere-kept version units (At148 t) c w h new word answer run 41 (omega arith) refl refl)
above version units At150 c w new word answer run h = inl (nowhere-kept version units At150 c w h new word answer run 42 (omega arith) refl refl)
above version units At158 c w new word answer run h = inl (nowhere-kept version units At158 c w h new word answer run 43 (omega arith) refl refl)
above version units (At160 t u) c w new word answer run h = inl (nowhere-kept version units (At160 t u) c w h new word answer run 44 (omega arith) refl refl)
above version units (At168 t u) c w new word answer run h = inl (fixed-kept version units (At168 t u) c w h new word answer run 45 1 0x1010 (omega arith) refl refl (omega arith) (omega arith))
above version units (At170 t u) c w new word answer run h = inl (nowhere-kept version units (At170 t u) c w h new word answer run 46 (omega arith) refl refl)
above version units (At178 t u) c w new word answer run h = inl (nowhere-kept version units (At178 t u) c w h new word answer run 47 (omega arith) refl refl)
above version units (At180 t u) c w new word answer run h = inl (fixed-kept version units (At180 t u) c w h new word answer run 48 1 0x1010 (omega arith) refl refl (omega arith) (omega arith))
above version units (At188 t u v) c w new word answer run h = inl (nowhere-kept version units (At188 t u v) c w h new word answer run 49 (omega arith) refl refl)
above version units (At190 t u v x) c w new word answer run h = inl (nowhere-kept version units (At190 t u v x) c w h new word answer run 50 (omega arith) refl refl)
above version units (At460 t u v) c w new word answer run h = inl (nowhere-kept version units (At460 t u v) c w h new word answer run 140 (omega arith) refl refl)
above version units (At468 t u v) c w new word answer run h = inl (nowhere-kept version units (At468 t u v) c w h new word answer run 141 (omega arith) refl refl)
above version units (At470 t u v) c w new word answer run h = inl (nowhere-kept version units (At470 t u v) c w h new word answer run 142 (omega arith) refl refl)
above version units (At478 t u v) c w new word answer run h = inl (nowhere-kept version units (At478 t u v) c w h new word answer run 143 (omega arith) refl refl)
above version units (At480 t u v) c w new word answer run h = inl (nowhere-kept version units (At480 t u v) c w h new word answer run 144 (omega arith) refl refl)
above version units (At488 t u v) c w new word answer run h = inl (nowhere-kept version units (At488 t u v) c w h new word answer run 145 (omega arith) refl refl)
above version units (At490 t u v) c w new word answer run h = inl (nowhere-kept version units (At490 t u v) c w h new word answer run 146 (omega arith) refl refl)
above version units (At498 t u v) c w new word answer run h = inl (nowhere-kept version units (At498 t u v) c w h new word answer run 147 (omega arith) refl refl)
above version units (At4A0 t u v) c w new word answer run h = inl (nowhere-kept version units (At4A0 t u v) c w h new word answer run 148 (omega arith) refl refl)
above version units (At4A8 t u v x) c w new word answer run h = inl (nowhere-kept version units (At4A8 t u v x) c w h new word answer run 149 (omega arith) refl refl)
above version units (At4B0 t u v x) c w new word answer run h = inl (nowhere-kept version units (At4B0 t u v x) c w h new word answer run 150 (omega arith) refl refl)
above version units (At198 t u v) c w new word answer run h = inl (nowhere-kept version units (At198 t u v) c w h new word answer run 51 (omega arith) refl refl)
above version units (At1A0 t u) c w new word answer run h = inl (nowhere-kept version units (At1A0 t u) c w h new word answer run 52 (omega arith) refl refl)
above version units At1A0None c w new word answer run h = inl (nowhere-kept version units At1A0None c w h new word answer run 52 (omega arith) refl refl)
above version units (At1A8 t) c w new word answer run h = inl (nowhere-kept version units (At1A8 t) c w h new word answer run 53 (omega arith) refl refl)
above version units At1A8Bad c w new word answer run h = inl (nowhere-kept version units At1A8Bad c w h new word answer run 53 (omega arith) refl refl)
above version units At1A8None c w new word answer run h = inl (nowhere-kept version units At1A8None c w h new word answer run 53 (omega arith) refl refl)
above version units (At1B0 t) c w new word answer run h = inl (nowhere-kept version units (At1B0 t) c w h new word answer run 54 (omega arith) refl refl)
above version units At1B0None c w new word answer run h = inl (nowhere-kept version units At1B0None c w h new word answer run 54 (omega arith) refl refl)
above version units (At1B8 t u) c w new word answer run h = inl (nowhere-kept version units (At1B8 t u) c w h new word answer run 55 (omega arith) refl refl)
above version units At1B8None c w new word answer run h = inl (nowhere-kept version units At1B8None c w h new word answer run 55 (omega arith) refl refl)
above version units At1C0 c w new word answer run h = inl (nowhere-kept version units At1C0 c w h new word answer run 56 (omega arith) refl refl)
above version units (At1C8 t) c w new word answer run h = inl (nowhere-kept version units (At1C8 t) c w h new word answer run 57 (omega arith) refl refl)
above version units (At1D0 t) c w new word answer run h = inl (nowhere-kept version units (At1D0 t) c w h new word answer run 58 (omega arith) refl refl)
above version units (At1D8 t) c w new word answer run h = inl (nowhere-kept version units (At1D8 t) c w h new word answer run 59 (omega arith) refl refl)
above version units (At1E0 t) c w new word answer run h = inl (nowhere-kept version units (At1E0 t) c w h new word answer run 60 (omega arith) refl refl)
above version units (At1E8 t) c w new word answer run h = inl (nowhere-kept version units (At1E8 t) c w h new word answer run 61 (omega arith) refl refl)
above version units (At1F0 t) c w new word answer run h = inl (nowhere-kept version units (At1F0 t) c w h new word answer run 62 (omega arith) refl refl)
above version units (At1F8 t) c w new word answer run h = inl (fixed-kept version units (At1F8 t) c w h new word answer run 63 4 0x1004 (omega arith) refl refl (omega arith) (omega arith))
above version units (At200 t) c w new word answer run h = inl (nowhere-kept version units (At200 t) c w h new word answer run 64 (omega arith) refl refl)
above version units (At208 t) c w new word answer run h = inl (nowhere-kept version units (At208 t) c w h new word answer run 65 (omega arith) refl refl)
above version units (At210 t) c w new word answer run h = inl (fixed-kept version units (At210 t) c w h new word answer run 66 4 0x1004 (omega arith) refl refl (omega arith) (omega arith))
above version units (At218 t) c w new word answer run h = inl (nowhere-kept version units (At218 t) c w h new word answer run 67 (omega arith) refl refl)
above version units (At220 t u) c w new word answer run h = inl (block-kept version units (At220 t u) c w h new word answer run t 68 0x10 refl h.stays.4.dsa (omega arith) refl refl (inl (omega arith, omega arith)))
above version units (At228 t) c w new word answer run h = inl (nowhere-kept version units (At228 t) c w h new word answer run 69 (omega arith) refl refl)
above version units (At230 t) c w new word answer run h = inl (block-kept version units (At230 t) c w h new word answer run t 70 0x1C refl h.stays.4.dsa (omega arith) refl refl (inr refl))
above version units (At238 t) c w new word answer run h = inl (fixed-kept version units (At238 t) c w h new word answer run 71 4 0x100C (omega arith) refl refl (omega arith) (omega arith))
above version units (At240 t) c w new word answer run h = inl (nowhere-kept version units (At240 t) c w h new word answer run 72 (omega arith) refl refl)
above version units (At248 t) c w new word answer run h = inl (nowhere-kept version units (At248 t) c w h new word answer run 73 (omega arith) refl refl)
above version units (At250 t) c w new word answer run h =
    let room = done-room (word_at w.memory) (tickets_of w.desk) c h.tickets h.parts.done in
    inl (slot-kept version units (At250 t) c w h new word answer run 74 (omega arith) refl refl (omega (arith, h.donep.is, h.donep.entered, h.stays.4.dsa)) (ap (word_at w.memory) h.stays.4.dsa ∙ h.parts.done.idle c.entered (omega arith) (omega (arith, room))))
above version units At258 c w new word answer run h = inl (nowhere-kept version units At258 c w h new word answer run 75 (omega arith) refl refl)
above version units At260 c w new word answer run h = inl (fixed-kept version units At260 c w h new word answer run 76 4 0x1008 (omega arith) refl refl (omega arith) (omega arith))
above version units At268 c w new word answer run h = inl (nowhere-kept version units At268 c w h new word answer run 77 (omega arith) refl refl)
above version units At270 c w new word answer run h = inl (nowhere-kept version units At270 c w h new word answer run 78 (omega arith) refl refl)
above version units (At278 t) c w new word answer run h = inl (nowhere-kept version units (At278 t) c w h new word answer run 79 (omega arith) refl refl)
above version units (At280 t) c w new word answer run h = inl (nowhere-kept version units (At280 t) c w h new word answer run 80 (omega arith) refl refl)
above version units (At288 t) c w new word answer run h = inl (nowhere-kept version units (At288 t) c w h new word answer run 81 (omega arith) refl refl)
above version units (At290 t) c w new word answer run h = inl (nowhere-kept version units (At290 t) c w h new word answer run 82 (omega arith) refl refl)
above version units At298 c w new word answer run h = inl (nowhere-kept version units At298 c w h new word answer run 83 (omega arith) refl refl)
above version units At2A0 c w new word answer run h = inl (nowhere-kept version units At2A0 c w h new word answer run 84 (omega arith) refl refl)
above version units At2A8 c w new word answer run h = inl (nowhere-kept version units At2A8 c w h new word answer run 85 (omega arith) refl refl)
above version units At2B0 c w new word answer run h = inl (nowhere-kept version units At2B0 c w h new word answer run 86 (omega arith) refl refl)
above version units (At2B8 t) c w new word answer run h = inl (nowhere-kept version units (At2B8 t) c w h new word answer run 87 (omega arith) refl refl)
above version units (At340 t) c w new word answer run h = inl (nowhere-kept version units (At340 t) c w h new word answer run 104 (omega arith) refl refl)
above version units (At3C8 t) c w new word answer run h = inl (nowhere-kept version units (At3C8 t) c w h new word answer run 121 (omega arith) refl refl)
above version units (At3D0 t) c w new word answer run h = inl (block-kept version units (At3D0 t) c w h new word answer run t 122 0x08 refl h.stays.4.dsa (omega arith) refl refl (inl (omega arith, omega arith)))
above version units (At3D8 t) c w new word answer run h = inl (nowhere-kept version units (At3D8 t) c w h new word answer run 123 (omega arith) refl refl)
above version units (At440 t) c w new word answer run h = inl (nowhere-kept version units (At440 t) c w h new word answer run 136 (omega arith) refl refl)
above version units (At448 t) c w new word answer run h = inl (nowhere-kept version units (At448 t) c w h new word answer run 137 (omega arith) refl refl)
above version units (At450 t) c w new word answer run h = inl (fixed-kept version units (At450 t) c w h new word answer run 138 4 0x1000 (omega arith) refl refl (omega arith) (omega arith))
above version units (At458 t) c w new word answer run h = inl (nowhere-kept version units (At458 t) c w h new word answer run 139 (omega arith) refl refl)
above version units (InTargets r j) c w new word answer run h = inl (target-kept version units r j c w h new word answer run)
above version units (InLuns r j) c w new word answer run h = inl (lun-kept version units r j c w h new word answer run)
above version units (AtUnit u r) c w new word answer run h = inl (unit-kept version units u r c w h new word answer run)
above version units (BehindUnit u r) c w new word answer run h = inl (behind-kept version units u r c w h new word answer run)
above version units (Moves t x) c w new word answer run h = inr (t, x, refl)
above version units (BehindContext t phase k) c w new word answer run h = inl (context-kept version units t phase k c w h new word answer run (move_stands (move_place phase (Context k)) (record { phase = phase; entry = Context k }) h.works.extra.at).0)
above version units (LeavesContext t phase j k) c w new word answer run h = inl (leaves-kept version units t phase j k c w h new word answer run)

-- the footprint lies below the buffer region
below-buffers : (version : ℕ) (units : List RigUnit) (p : Point) (c : Counts) (w : World) (i : ℕ) → Holds version units (Running p) c w → IsScripts w i → i < 0x200000
below-buffers version units p c w i h (inl x) = omega (arith, x.1)
below-buffers version units p c w i h (inr (inl x)) = omega (arith, x.1, h.donep.is)
below-buffers version units p c w i h (inr (inr x)) = let b = h.tickets.block x.number (active-live _ x.active) in elim x.field [ inl y ↦ omega (arith, y.1, x.dsa, b.below) | inr y ↦ omega (arith, y.1, x.dsa, b.below) ]

pub only_data_moves_write : OnlyDataMovesWrite
only_data_moves_write version units p c w new word answer a run h l ne = elim (above version units p c w new word answer run h) [
  | inl k ↦ (let low = below-buffers version units p c w a h (k a ne) in absurd (omega (arith, low, l)))
  | inr x ↦ x
]

-- ---- every world of a run

-- what a data move changes
datum : (version : ℕ) (units : List RigUnit) (t : ℕ) (m : DataMove) (c : Counts) (w new : World) (word : ℕ) (answer : Reply) (x : ℕ) → RunsChip w word answer new → Holds version units (Running (Moves t m)) c w
    → slice_index new.memory x ≢ slice_index w.memory x → IsDatum w x
datum version units t m c w new word answer x run h ne =
    let d = data_stay version units t m c w new word answer run h in
    let change = d.changes x ne in
    record { move = ap (λ (i : ℕ). is_some (move_at i)) h.stays.3 ∙ ap (λ (o : Option DataMove). is_some o) h.works.extra.at; number = t; active = h.works.plays.begun.stage; dsa = d.dsa; own = change.0; target = change.1 }

module _ (version : ℕ) (units : List RigUnit) (c : Counts) (w new : World) (word : ℕ) (answer : Reply) (x : ℕ) (run : RunsChip w word answer new) (ne : slice_index new.memory x ≢ slice_index w.memory x) where
  at-point : (p : Point) → Holds version units (Running p) c w → IsScripts w x ⊎ IsDatum w x
  at-point p h = elim (above version units p c w new word answer run h) [
    | inl k ↦ inl (k x ne)
    | inr k ↦ inr (datum version units k.0 k.1 c w new word answer x run (subst (λ (q : Point). Holds version units (Running q) c w) k.2 h) ne)
  ]

pub script_writes_only : ScriptWritesOnly
script_writes_only g setting bytes ms r new word answer x runs run ne =
    let o = words_are_owned g setting bytes ms r in
    let k = running g.version g.units o.spot o.counts (last (opened g) ms) runs o.holds in
    at-point g.version g.units o.counts (last (opened g) ms) new word answer x run ne k.0 k.1
