-- Behind the move of a context the chip loads where that goes back, and goes there: the invariant holds on.
use Rattle.std.proofs.Common.{◌≡◌, ◌⊎◌, inl, inr, ℕ, zero, suc, pos, ◌+◌, ◌*◌, ◌<◌, ◌≤◌, List, Bool, true, false, nat_eq, refl, sym, ap, subst, ◌∙◌, arith}
use Rattle.std.specs.Prelude.{if◌then◌else◌}
use Rattle.std.proofs.Math.Nat.{eq-or-lt_of_le}
use Rattle.bench_words.specs.Memory.{word_at}
use Rattle.rig_types.specs.declared.rig.Unit.{Unit as RigUnit}
use Rattle.cmd_block.specs.declared.Field.TheVariants.{CtxReturn}
use Rattle.scripts_ops.specs.declared.values.Address.TheVariants.{FromDsa}
use Rattle.scripts_ops.specs.declared.values.Condition.TheVariants.{Always}
use Rattle.scripts_ops.specs.declared.values.Op.TheVariants.{Load, Return}
use Rattle.driver_script.specs.Script.{instruction}
use Rattle.chip_regs.specs.Bytes.{Temp}
use Rattle.phase_fix.specs.declared.moves.DataPhase.{DataPhase}
use Rattle.phase_fix.specs.declared.moves.DataPhase.TheVariants.{In, Out}
use Rattle.phase_fix.specs.declared.moves.Entry.TheVariants.{Segment, Context}
use Rattle.phase_fix.specs.Moves.{first_segment, context_label, move_at}
use Rattle.phase_fix.specs.Remain.{field, remain_at_move, segment_of_move, segments_from}
use Rattle.phase_fix.proofs.MoveLaws.{move_stands, move-place}
use Rattle.world_law.specs.declared.reply.Reply.{Reply}
use Rattle.world_law.specs.World.{World}
use Rattle.world_law.specs.ChipSteps.{RunsChip}
use Rattle.word_owners.specs.Tickets.{tickets_of, block_of, goal, way}
use Rattle.word_owners.specs.Pointers.{IsSuffix, Names, move_place}
use Rattle.word_owners.specs.Points.{about, BehindContext, LeavesContext, Moves, At340, At3C8}
use Rattle.word_owners.specs.Parts.{Counts}
use Rattle.word_owners.specs.Holds.{Holds, Running}
use Rattle.word_owners.specs.Nexts.{IsNext, Leads}
use Rattle.word_owners.proofs.BlockLoads.{head-block}
use Rattle.word_owners.proofs.ChipSteps.{leads, loaded, returned}
use Rattle.word_owners.proofs.Frames.{active-live}
use Rattle.word_owners.proofs.PointGroups.{of_contexts, StepsHold}
use Rattle.word_owners.proofs.Suffixes.{names-behind}

-- a place where a context goes back is segment j's move, or the end behind the last
segment-at : (phase : DataPhase) (j : ℕ) → (j ≡ 16) ⊎ (j < 16) → segment_of_move (move_at (first_segment phase + 8 * j)) ≡ j
unfolding move_at
segment-at In j (inl e) = ap (λ (i : ℕ). segment_of_move (move_at (0x2C0 + 8 * i))) e ∙ sym e
segment-at Out j (inl e) = ap (λ (i : ℕ). segment_of_move (move_at (0x348 + 8 * i))) e ∙ sym e
segment-at phase j (inr l) = ap segment_of_move (move-place (record { phase = phase; entry = Segment j }) l)

-- what follows a context that goes back to a segment
following-is : (w : ℕ → ℕ) (b k j : ℕ) (phase : DataPhase) → field w b (CtxReturn k) ≡ first_segment phase + 8 * j → j ≤ 16 → segments_from w b (segment_of_move (move_at (field w b (CtxReturn k)))) ≡ segments_from w b j
following-is w b k j phase e l = ap (λ (i : ℕ). segments_from w b (segment_of_move (move_at i))) e ∙ ap (segments_from w b) (segment-at phase j (eq-or-lt_of_le l))

module _ (version : ℕ) (units : List RigUnit) (t : ℕ) (phase : DataPhase) (k : ℕ) (c : Counts) (w new : World) (word : ℕ) (answer : Reply) (run : RunsChip w word answer new) (h : Holds version units (Running (BehindContext t phase k)) c w) where
  loads-return : (i : ℕ) → i < 151 → (about (BehindContext t phase k)).place ≡ 8 * i → instruction i version ≡ Load 0x1C 4 (FromDsa (pos (0xC8 + 0x10 * k))) → context_label phase k + 16 ≡ 8 * i + 8 → Leads (IsNext (BehindContext t phase k)) version units c new
  loads-return i inside from here to =
      let ts = tickets_of w.desk in
      let b = block_of ts t in
      let v = word_at w.memory in
      let live = active-live (ts.stage t) h.works.plays.begun.stage in
      let names = h.works.extra in
      let g = names.follows.1 in
      let s = names-behind v b (way (ts.fixed t)) (goal (ts.fixed t)) (move_place phase (Context k)) (record { phase = phase; entry = Context k }) names in
      let rest : IsSuffix (segments_from v b g.segment) (goal (ts.fixed t)) = subst (λ (l : List ℕ). IsSuffix l (goal (ts.fixed t))) (following-is v b k g.segment phase g.return g.within) s in
      let at : word_at w.memory (w.regs.dsa + (0xC8 + 0x10 * k)) ≡ first_segment phase + 8 * g.segment = ap (λ (x : ℕ). word_at w.memory (x + (0xC8 + 0x10 * k))) h.stays.4.dsa ∙ g.return in
      leads version units (BehindContext t phase k) c w h new word answer run (IsNext (BehindContext t phase k)) (Running (LeavesContext t phase g.segment k)) (g.segment, refl)
      (loaded version units (BehindContext t phase k) c w h new word answer run (LeavesContext t phase g.segment k) i (first_segment phase + 8 * g.segment) Temp (FromDsa (pos (0xC8 + 0x10 * k))) inside from here to
      (head-block w.regs.dsa b h.stays.4.dsa (h.tickets.block t live)) at
      (record {
        closing = refl;
        ahead = refl;
        works = record { plays = h.works.plays; extra = (g.within, rest, g.filled, names.way) };
        at = record { dsa = h.stays.4.dsa; temp = refl; scratcha = tt; scratchb = tt; ssid = tt; sfbr = tt };
        linked = h.linked;
      }))

module _ (version : ℕ) (units : List RigUnit) (t : ℕ) (phase : DataPhase) (j k : ℕ) (c : Counts) (w new : World) (word : ℕ) (answer : Reply) (run : RunsChip w word answer new) (h : Holds version units (Running (LeavesContext t phase j k)) c w) where
  names-segment : j < 16 → Names (word_at w.memory) (block_of (tickets_of w.desk) t) (way ((tickets_of w.desk).fixed t)) (goal ((tickets_of w.desk).fixed t)) (first_segment phase + 8 * j) (record { phase = phase; entry = Segment j })
  names-segment l =
      let e = move-place (record { phase = phase; entry = Segment j }) l in
      record {
        at = e;
        rest = subst (λ (xs : List ℕ). IsSuffix xs (goal ((tickets_of w.desk).fixed t))) (sym (ap (remain_at_move (word_at w.memory) (block_of (tickets_of w.desk) t)) e)) h.works.extra.1;
        follows = h.works.extra.2;
        way = h.works.extra.3;
      }

  returns-to : (i : ℕ) → i < 151 → (about (LeavesContext t phase j k)).place ≡ 8 * i → instruction i version ≡ Return Always → (j ≡ 16) ⊎ (j < 16) → (goes : DataPhase) → goes ≡ phase → Leads (IsNext (LeavesContext t phase j k)) version units c new
  returns-to i inside from here (inr l) goes e = leads version units (LeavesContext t phase j k) c w h new word answer run (IsNext (LeavesContext t phase j k)) (Running (Moves t (record { phase = phase; entry = Segment j }))) (inr (inr refl))
      (returned version units (LeavesContext t phase j k) c w h new word answer run (Moves t (record { phase = phase; entry = Segment j })) i inside from here h.stays.4.temp
      (record { closing = refl; ahead = refl; works = record { plays = h.works.plays; extra = names-segment l }; at = record { dsa = h.stays.4.dsa; temp = tt; scratcha = tt; scratchb = tt; ssid = tt; sfbr = tt }; linked = h.linked }))
  returns-to i inside from here (inl z) In e = leads version units (LeavesContext t phase j k) c w h new word answer run (IsNext (LeavesContext t phase j k)) (Running (At340 t)) (inl refl)
      (returned version units (LeavesContext t phase j k) c w h new word answer run (At340 t) i inside from here (h.stays.4.temp ∙ ap (λ (x : DataPhase). first_segment x + 8 * j) (sym e) ∙ ap (λ (x : ℕ). 0x2C0 + 8 * x) z)
      (record { closing = refl; ahead = refl; works = record { plays = h.works.plays; extra = tt }; at = record { dsa = h.stays.4.dsa; temp = tt; scratcha = tt; scratchb = tt; ssid = tt; sfbr = tt }; linked = h.linked }))
  returns-to i inside from here (inl z) Out e = leads version units (LeavesContext t phase j k) c w h new word answer run (IsNext (LeavesContext t phase j k)) (Running (At3C8 t)) (inr (inl refl))
      (returned version units (LeavesContext t phase j k) c w h new word answer run (At3C8 t) i inside from here (h.stays.4.temp ∙ ap (λ (x : DataPhase). first_segment x + 8 * j) (sym e) ∙ ap (λ (x : ℕ). 0x348 + 8 * x) z)
      (record { closing = refl; ahead = refl; works = record { plays = h.works.plays; extra = tt }; at = record { dsa = h.stays.4.dsa; temp = tt; scratcha = tt; scratchb = tt; ssid = tt; sfbr = tt }; linked = h.linked }))

-- the address behind a context, by its number
leaves : (version : ℕ) (units : List RigUnit) (t : ℕ) (phase : DataPhase) (j k : ℕ) (c : Counts) (w new : World) (word : ℕ) (answer : Reply) → RunsChip w word answer new → Holds version units (Running (LeavesContext t phase j k)) c w → (b : Bool) → nat_eq k 0 ≡ b → Leads (IsNext (LeavesContext t phase j k)) version units c new
unfolding instruction
leaves version units t In j k c w new word answer run h true e =
    returns-to version units t In j k c w new word answer run h 126 (omega arith) (ap (λ (x : Bool). (if x then 0x3E0 else 0x3F8) + 16) e) refl (eq-or-lt_of_le h.works.extra.0) In refl
leaves version units t In j k c w new word answer run h false e =
    returns-to version units t In j k c w new word answer run h 129 (omega arith) (ap (λ (x : Bool). (if x then 0x3E0 else 0x3F8) + 16) e) refl (eq-or-lt_of_le h.works.extra.0) In refl
leaves version units t Out j k c w new word answer run h true e =
    returns-to version units t Out j k c w new word answer run h 132 (omega arith) (ap (λ (x : Bool). (if x then 0x410 else 0x428) + 16) e) refl (eq-or-lt_of_le h.works.extra.0) Out refl
leaves version units t Out j k c w new word answer run h false e =
    returns-to version units t Out j k c w new word answer run h 135 (omega arith) (ap (λ (x : Bool). (if x then 0x410 else 0x428) + 16) e) refl (eq-or-lt_of_le h.works.extra.0) Out refl

behind : (version : ℕ) (units : List RigUnit) (t : ℕ) (phase : DataPhase) (k : ℕ) (c : Counts) (w new : World) (word : ℕ) (answer : Reply) → k < 2 → RunsChip w word answer new → Holds version units (Running (BehindContext t phase k)) c w → Leads (IsNext (BehindContext t phase k)) version units c new
unfolding instruction
behind version units t In zero c w new word answer l run h = loads-return version units t In 0 c w new word answer run h 125 (omega arith) refl refl refl
behind version units t In (suc zero) c w new word answer l run h = loads-return version units t In 1 c w new word answer run h 128 (omega arith) refl refl refl
behind version units t Out zero c w new word answer l run h = loads-return version units t Out 0 c w new word answer run h 131 (omega arith) refl refl refl
behind version units t Out (suc zero) c w new word answer l run h = loads-return version units t Out 1 c w new word answer run h 134 (omega arith) refl refl refl
behind version units t phase (suc (suc k)) c w new word answer l run h = absurd (omega (arith, l))

pub keeps : StepsHold of_contexts
keeps version units (BehindContext t phase k) c w new word answer e run h = behind version units t phase k c w new word answer (move_stands (move_place phase (Context k)) (record { phase = phase; entry = Context k }) h.works.extra.at).0 run h
keeps version units (LeavesContext t phase j k) c w new word answer e run h = leaves version units t phase j k c w new word answer run h (nat_eq k 0) refl
keeps version units _ c w new word answer e run h = absurd cc
