-- LOADs from a block or a slot at DSA, the LOAD of FRONT, and the RETURNs of pointers keep the invariant.
use Rattle.std.proofs.Common.{◌≡◌, ◌⊎◌, inl, inr, ℕ, pos, ◌+◌, ◌%◌, ◌≤◌, refl, sym, ap, subst, ◌∙◌, arith, Some, None}
use Rattle.std.proofs.Math.Nat.{eq-or-lt_of_le}
use Rattle.bench_words.specs.Memory.{word_at}
use Rattle.host_map.specs.Places.{start_slot, done_slot, IsCommandBlock}
use Rattle.cmd_block.specs.declared.Field.TheVariants.{Start, Restart, Lastp, Savep, Gate}
use Rattle.scripts_ops.specs.declared.values.Address.TheVariants.{At, FromDsa}
use Rattle.driver_script.specs.Script.{instruction}
use Rattle.chip_regs.specs.Bytes.{Dsa, Temp, ScratchA, ScratchB}
use Rattle.phase_fix.specs.Remain.{field}
use Rattle.phase_fix.specs.declared.moves.DataPhase.{DataPhase}
use Rattle.phase_fix.specs.declared.moves.Entry.{Entry}
use Rattle.phase_fix.specs.declared.moves.Entry.TheVariants.{Segment, Context}
use Rattle.phase_fix.proofs.MoveLaws.{entry_place, move_stands}
use Rattle.desk_law.specs.declared.stage.Stage.{Stage}
use Rattle.bus_law.specs.Bus.{BusState}
use Rattle.ownership.specs.Words.{IsHead}
use Rattle.word_owners.specs.Tickets.{Tickets, tickets_of, block_of, target_of, goal, way}
use Rattle.word_owners.specs.Pointers.{Names, move_place}
use Rattle.word_owners.specs.Points.{At008, At010Idle, At010Job, At010Sense, At018Idle, At018Job, At018Sense, At028, At030, At038, At038Idle, At040, At040Idle, At060, At0B8, At0C0, At108, At110, At128, At130, At1A0, At1A0None, At1A8, At1A8Bad, At1A8None, At1B0, At1B0None, At1B8, At1B8None, At1F8, At258, At260, At278, At2B8, Moves}
use Rattle.word_owners.specs.Parts.{IsStart}
use Rattle.word_owners.specs.Holds.{Running}
use Rattle.word_owners.specs.Nexts.{IsNext}
use Rattle.word_owners.proofs.PointGroups.{from_dsa, StepsHold}
use Rattle.word_owners.proofs.Frames.{active-live}
use Rattle.word_owners.proofs.ChipSteps.{loaded, returned, leads}

pub head-at : (dsa a : ℕ) → dsa ≡ a → a % 4 ≡ 0 → a + 0xE0 ≤ 0x400000 → IsHead dsa
head-at dsa a e z l = record { aligned = omega (arith, e, z); inside = omega (arith, e, l) }

pub head-block : (dsa a : ℕ) → dsa ≡ a → IsCommandBlock a → IsHead dsa
head-block dsa a e b = record { aligned = omega (arith, e, b.aligned); inside = omega (arith, e, b.below) }

pub head-start : (dsa i : ℕ) → dsa ≡ start_slot i → IsHead dsa
head-start dsa i e = record { aligned = omega (arith, e); inside = omega (arith, e) }

pub head-done : (dsa i : ℕ) → dsa ≡ done_slot i → IsHead dsa
head-done dsa i e = record { aligned = omega (arith, e); inside = omega (arith, e) }

same-place : (phase : DataPhase) (e : Entry) → entry_place phase e ≡ move_place phase e
same-place phase (Segment j) = refl
same-place phase (Context k) = refl

of-ticket : (ts : Tickets) (t r : ℕ) (b : BusState) → target_of ts t ≡ r → (b.connected ≡ Some r) ⊎ (b.connected ≡ None) → (b.connected ≡ Some (target_of ts t)) ⊎ (b.connected ≡ None)
of-ticket ts t r b e (inl h) = inl (h ∙ ap (λ (i : ℕ). Some i) (sym e))
of-ticket ts t r b e (inr h) = inr h

pub keeps : StepsHold from_dsa
unfolding instruction
keeps version units At008 c w new word answer e run h =
    let m = w.memory in
    let ts = tickets_of w.desk in
    elim h.parts.front [
      | inl e ↦ leads version units At008 c w h new word answer run (IsNext At008) (Running At010Idle) (inl refl) (loaded version units At008 c w h new word answer run At010Idle 1 0x1600 Dsa (At 0x1000) (omega arith) refl refl refl tt e
          (record { closing = refl; ahead = refl; works = record { plays = tt; extra = tt }; at = record { dsa = refl; temp = tt; scratcha = tt; scratchb = tt; ssid = tt; sfbr = tt }; linked = h.linked }))
      | inr (inl e) ↦ leads version units At008 c w h new word answer run (IsNext At008) (Running At010Job) (inr (inl refl)) (loaded version units At008 c w h new word answer run At010Job 1 0x1800 Dsa (At 0x1000) (omega arith) refl refl refl tt e
          (record { closing = refl; ahead = refl; works = record { plays = tt; extra = tt }; at = record { dsa = refl; temp = tt; scratcha = tt; scratchb = tt; ssid = tt; sfbr = tt }; linked = h.linked }))
      | inr (inr e) ↦ leads version units At008 c w h new word answer run (IsNext At008) (Running (At010Sense e.0)) (inr (inr (e.0, refl))) (loaded version units At008 c w h new word answer run (At010Sense e.0) 1 (block_of ts e.0) Dsa (At 0x1000) (omega arith) refl refl refl tt e.1.is
          (record { closing = refl; ahead = refl; works = record { plays = (e.1, h.parts.there e.0 (active-live (ts.stage e.0) (inr e.1.stage)) (inr (inl e.1.stage))); extra = tt }; at = record { dsa = refl; temp = tt; scratcha = tt; scratchb = tt; ssid = tt; sfbr = tt }; linked = h.linked }))
    ]
keeps version units At010Idle c w new word answer e run h =
    leads version units At010Idle c w h new word answer run (IsNext At010Idle) (Running At018Idle) refl (loaded version units At010Idle c w h new word answer run At018Idle 2 0x20 Temp (FromDsa (pos 0)) (omega arith) refl refl refl (head-at w.regs.dsa 0x1600 h.stays.4.dsa refl (omega arith)) (ap (λ (i : ℕ). word_at w.memory (i + 0)) h.stays.4.dsa ∙ h.parts.fixed.front_idle)
    (record { closing = refl; ahead = refl; works = record { plays = tt; extra = tt }; at = record { dsa = tt; temp = refl; scratcha = tt; scratchb = tt; ssid = tt; sfbr = tt }; linked = h.linked }))
keeps version units At010Job c w new word answer e run h =
    leads version units At010Job c w h new word answer run (IsNext At010Job) (Running At018Job) refl (loaded version units At010Job c w h new word answer run At018Job 2 0x298 Temp (FromDsa (pos 0)) (omega arith) refl refl refl (head-at w.regs.dsa 0x1800 h.stays.4.dsa refl (omega arith)) (ap (λ (i : ℕ). word_at w.memory (i + 0)) h.stays.4.dsa ∙ h.parts.fixed.job)
    (record { closing = refl; ahead = refl; works = record { plays = tt; extra = tt }; at = record { dsa = h.stays.4.dsa; temp = refl; scratcha = tt; scratchb = tt; ssid = tt; sfbr = tt }; linked = h.linked }))
keeps version units (At010Sense t) c w new word answer e run h =
    let ts = tickets_of w.desk in
    let live = active-live (ts.stage t) (inr h.works.plays.0.stage) in
    let start = subst (λ (s : Stage). IsStart s (field (word_at w.memory) (block_of ts t) Start)) h.works.plays.0.stage (h.parts.blocks t live).start in
    leads version units (At010Sense t) c w h new word answer run (IsNext (At010Sense t)) (Running (At018Sense t)) refl (loaded version units (At010Sense t) c w h new word answer run (At018Sense t) 2 0x440 Temp (FromDsa (pos 0)) (omega arith) refl refl refl (head-block w.regs.dsa (block_of ts t) h.stays.4.dsa (h.tickets.block t live)) (ap (λ (i : ℕ). word_at w.memory (i + 0)) h.stays.4.dsa ∙ start)
    (record { closing = refl; ahead = refl; works = h.works; at = record { dsa = h.stays.4.dsa; temp = refl; scratcha = tt; scratchb = tt; ssid = tt; sfbr = tt }; linked = h.linked }))
keeps version units At028 c w new word answer e run h =
    leads version units At028 c w h new word answer run (IsNext At028) (Running At030) refl (loaded version units At028 c w h new word answer run At030 5 (start_slot (c.started + 1)) ScratchB (FromDsa (pos 4)) (omega arith) refl refl refl (head-start w.regs.dsa c.started h.stays.4.dsa) (ap (λ (i : ℕ). word_at w.memory (i + 4)) h.stays.4.dsa ∙ h.parts.start.next c.started)
    (record { closing = refl; ahead = refl; works = record { plays = tt; extra = tt }; at = record { dsa = h.stays.4.dsa; temp = tt; scratcha = tt; scratchb = refl; ssid = tt; sfbr = tt }; linked = h.linked }))
keeps version units At030 c w new word answer e run h =
    let ts = tickets_of w.desk in
    elim (eq-or-lt_of_le h.parts.start.order) [
      | inl e ↦ let to : w.regs.dsa + 0 ≡ start_slot c.queued = omega (arith, h.stays.4.dsa ∙ ap start_slot e) in
          leads version units At030 c w h new word answer run (IsNext At030) (Running At038Idle) (inl refl) (loaded version units At030 c w h new word answer run At038Idle 6 0x1200 Dsa (FromDsa (pos 0)) (omega arith) refl refl refl (head-start w.regs.dsa c.started h.stays.4.dsa) (ap (word_at w.memory) to ∙ h.parts.start.idle)
          (record { closing = refl; ahead = refl; works = record { plays = tt; extra = tt }; at = record { dsa = refl; temp = tt; scratcha = tt; scratchb = tt; ssid = tt; sfbr = tt }; linked = h.linked }))
      | inr l ↦ let to : w.regs.dsa + 0 ≡ start_slot c.started = omega (arith, h.stays.4.dsa) in let g = h.parts.start.entry c.started (omega arith) l in
          leads version units At030 c w h new word answer run (IsNext At030) (Running (At038 g.0)) (inr (g.0, refl)) (loaded version units At030 c w h new word answer run (At038 g.0) 6 (block_of ts g.0) Dsa (FromDsa (pos 0)) (omega arith) refl refl refl (head-start w.regs.dsa c.started h.stays.4.dsa) (ap (word_at w.memory) to ∙ g.1)
          (record { closing = refl; ahead = refl; works = record { plays = (l, g.1, g.2); extra = tt }; at = record { dsa = refl; temp = tt; scratcha = tt; scratchb = h.stays.4.scratchb; ssid = tt; sfbr = tt }; linked = h.linked }))
    ]
keeps version units At038Idle c w new word answer e run h =
    leads version units At038Idle c w h new word answer run (IsNext At038Idle) (Running At040Idle) refl (loaded version units At038Idle c w h new word answer run At040Idle 7 0x48 Temp (FromDsa (pos 0)) (omega arith) refl refl refl (head-at w.regs.dsa 0x1200 h.stays.4.dsa refl (omega arith)) (ap (λ (i : ℕ). word_at w.memory (i + 0)) h.stays.4.dsa ∙ h.parts.fixed.idle)
    (record { closing = refl; ahead = refl; works = record { plays = tt; extra = tt }; at = record { dsa = tt; temp = refl; scratcha = tt; scratchb = tt; ssid = tt; sfbr = tt }; linked = h.linked }))
keeps version units (At038 t) c w new word answer e run h =
    let ts = tickets_of w.desk in
    let live = active-live (ts.stage t) (inl h.works.plays.2.stage) in
    let a : ℕ = field (word_at w.memory) (block_of ts t) Start in
    let start = subst (λ (s : Stage). IsStart s a) h.works.plays.2.stage (h.parts.blocks t live).start in
    leads version units (At038 t) c w h new word answer run (IsNext (At038 t)) (Running (At040 t a)) (a, refl) (loaded version units (At038 t) c w h new word answer run (At040 t a) 7 a Temp (FromDsa (pos 0)) (omega arith) refl refl refl (head-block w.regs.dsa (block_of ts t) h.stays.4.dsa (h.tickets.block t live)) (ap (λ (i : ℕ). word_at w.memory (i + 0)) h.stays.4.dsa)
    (record { closing = refl; ahead = refl; works = record { plays = h.works.plays; extra = start }; at = record { dsa = h.stays.4.dsa; temp = refl; scratcha = tt; scratchb = h.stays.4.scratchb; ssid = tt; sfbr = tt }; linked = h.linked }))
keeps version units (At040 t a) c w new word answer e run h =
    elim h.works.extra [
      | inl e ↦ leads version units (At040 t a) c w h new word answer run (IsNext (At040 t a)) (Running (At060 t)) (inl refl) (returned version units (At040 t a) c w h new word answer run (At060 t) 8 (omega arith) refl refl (h.stays.4.temp ∙ e) (record { closing = refl; ahead = refl; works = record { plays = h.works.plays; extra = tt }; at = record { dsa = h.stays.4.dsa; temp = tt; scratcha = tt; scratchb = h.stays.4.scratchb; ssid = tt; sfbr = tt }; linked = h.linked }))
      | inr e ↦ leads version units (At040 t a) c w h new word answer run (IsNext (At040 t a)) (Running (At1F8 t)) (inr refl) (returned version units (At040 t a) c w h new word answer run (At1F8 t) 8 (omega arith) refl refl (h.stays.4.temp ∙ e) (record { closing = refl; ahead = refl; works = record { plays = h.works.plays; extra = tt }; at = record { dsa = h.stays.4.dsa; temp = tt; scratcha = tt; scratchb = h.stays.4.scratchb; ssid = tt; sfbr = tt }; linked = h.linked }))
    ]
keeps version units (At0B8 t) c w new word answer e run h =
    let ts = tickets_of w.desk in
    let live = active-live (ts.stage t) h.works.plays.begun.stage in
    let a : ℕ = field (word_at w.memory) (block_of ts t) Lastp in
    leads version units (At0B8 t) c w h new word answer run (IsNext (At0B8 t)) (Running (At0C0 t a)) (a, refl) (loaded version units (At0B8 t) c w h new word answer run (At0C0 t a) 23 a Temp (FromDsa (pos 8)) (omega arith) refl refl refl (head-block w.regs.dsa (block_of ts t) h.stays.4.dsa (h.tickets.block t live)) (ap (λ (i : ℕ). word_at w.memory (i + 8)) h.stays.4.dsa)
    (record { closing = refl; ahead = refl; works = record { plays = h.works.plays; extra = (h.parts.blocks t live).last }; at = record { dsa = h.stays.4.dsa; temp = refl; scratcha = tt; scratchb = tt; ssid = tt; sfbr = tt }; linked = h.linked }))
keeps version units (At108 t) c w new word answer e run h =
    let ts = tickets_of w.desk in
    let live = active-live (ts.stage t) h.works.plays.begun.stage in
    let a : ℕ = field (word_at w.memory) (block_of ts t) Lastp in
    leads version units (At108 t) c w h new word answer run (IsNext (At108 t)) (Running (At110 t a)) (a, refl) (loaded version units (At108 t) c w h new word answer run (At110 t a) 33 a ScratchA (FromDsa (pos 8)) (omega arith) refl refl refl (head-block w.regs.dsa (block_of ts t) h.stays.4.dsa (h.tickets.block t live)) (ap (λ (i : ℕ). word_at w.memory (i + 8)) h.stays.4.dsa)
    (record { closing = refl; ahead = refl; works = record { plays = h.works.plays; extra = (h.parts.blocks t live).last }; at = record { dsa = h.stays.4.dsa; temp = tt; scratcha = refl; scratchb = tt; ssid = tt; sfbr = tt }; linked = h.linked }))
keeps version units (At128 t) c w new word answer e run h =
    let ts = tickets_of w.desk in
    let live = active-live (ts.stage t) h.works.plays.begun.stage in
    let a : ℕ = field (word_at w.memory) (block_of ts t) Savep in
    leads version units (At128 t) c w h new word answer run (IsNext (At128 t)) (Running (At130 t a)) (a, refl) (loaded version units (At128 t) c w h new word answer run (At130 t a) 37 a ScratchA (FromDsa (pos 12)) (omega arith) refl refl refl (head-block w.regs.dsa (block_of ts t) h.stays.4.dsa (h.tickets.block t live)) (ap (λ (i : ℕ). word_at w.memory (i + 12)) h.stays.4.dsa)
    (record { closing = refl; ahead = refl; works = record { plays = h.works.plays; extra = (h.parts.blocks t live).saved }; at = record { dsa = h.stays.4.dsa; temp = tt; scratcha = refl; scratchb = tt; ssid = tt; sfbr = tt }; linked = h.linked }))
keeps version units (At1B0 t) c w new word answer e run h =
    let ts = tickets_of w.desk in
    let live = active-live (ts.stage t) h.works.plays.begun.stage in
    let a : ℕ = field (word_at w.memory) (block_of ts t) Restart in
    leads version units (At1B0 t) c w h new word answer run (IsNext (At1B0 t)) (Running (At1B8 t a)) (a, refl) (loaded version units (At1B0 t) c w h new word answer run (At1B8 t a) 54 a Temp (FromDsa (pos 4)) (omega arith) refl refl refl (head-block w.regs.dsa (block_of ts t) h.stays.4.dsa (h.tickets.block t live)) (ap (λ (i : ℕ). word_at w.memory (i + 4)) h.stays.4.dsa)
    (record { closing = refl; ahead = refl; works = record { plays = h.works.plays; extra = (h.parts.blocks t live).restart }; at = record { dsa = h.stays.4.dsa; temp = refl; scratcha = tt; scratchb = tt; ssid = tt; sfbr = tt }; linked = h.linked }))
keeps version units (At0C0 t p) c w new word answer e run h =
    let ts = tickets_of w.desk in
    elim h.works.extra [
      | inl e ↦ leads version units (At0C0 t p) c w h new word answer run (IsNext (At0C0 t p)) (Running (At2B8 t)) (inl refl) (returned version units (At0C0 t p) c w h new word answer run (At2B8 t) 24 (omega arith) refl refl (h.stays.4.temp ∙ e) (record { closing = refl; ahead = refl; works = record { plays = h.works.plays; extra = tt }; at = record { dsa = h.stays.4.dsa; temp = tt; scratcha = tt; scratchb = tt; ssid = tt; sfbr = tt }; linked = h.linked }))
      | inr g ↦ let x = g.0 in let to : p ≡ move_place x.phase x.entry = sym (move_stands p x g.1.at).1 ∙ same-place x.phase x.entry in
          leads version units (At0C0 t p) c w h new word answer run (IsNext (At0C0 t p)) (Running (Moves t x)) (inr (x, refl)) (returned version units (At0C0 t p) c w h new word answer run (Moves t x) 24 (omega arith) refl refl (h.stays.4.temp ∙ to) (record { closing = refl; ahead = refl; works = record { plays = h.works.plays; extra = subst (λ (i : ℕ). Names (word_at w.memory) (block_of ts t) (way (ts.fixed t)) (goal (ts.fixed t)) i x) to g.1 }; at = record { dsa = h.stays.4.dsa; temp = tt; scratcha = tt; scratchb = tt; ssid = tt; sfbr = tt }; linked = h.linked }))
    ]
keeps version units (At1A0 b r) c w new word answer e run h =
    let ts = tickets_of w.desk in
    let head = head-block w.regs.dsa b h.stays.4.dsa h.works.extra.0 in
    elim h.works.extra.1 [
      | inl e ↦ leads version units (At1A0 b r) c w h new word answer run (IsNext (At1A0 b r)) (Running At1A8Bad) (inl refl) (loaded version units (At1A0 b r) c w h new word answer run At1A8Bad 52 0x1C0 Temp (FromDsa (pos 0x1C)) (omega arith) refl refl refl head (ap (λ (i : ℕ). word_at w.memory (i + 0x1C)) h.stays.4.dsa ∙ e)
          (record { closing = refl; ahead = refl; works = record { plays = tt; extra = tt }; at = record { dsa = tt; temp = refl; scratcha = tt; scratchb = tt; ssid = tt; sfbr = tt }; linked = tt }))
      | inr g ↦ let t = g.0 in let f : field (word_at w.memory) b Gate ≡ field (word_at w.memory) (block_of ts t) Gate = ap (λ (i : ℕ). word_at w.memory (i + 0x1C)) (sym g.1.block_is) in elim (h.parts.blocks t g.1.live).gate [
        | inl o ↦ leads version units (At1A0 b r) c w h new word answer run (IsNext (At1A0 b r)) (Running (At1A8 t)) (inr (t, refl)) (loaded version units (At1A0 b r) c w h new word answer run (At1A8 t) 52 0x1B0 Temp (FromDsa (pos 0x1C)) (omega arith) refl refl refl head (ap (λ (i : ℕ). word_at w.memory (i + 0x1C)) h.stays.4.dsa ∙ f ∙ o)
            (record { closing = refl; ahead = refl; works = record { plays = h.parts.gates t g.1.live (λ i. absurd cc) o; extra = tt }; at = record { dsa = h.stays.4.dsa ∙ sym g.1.block_is; temp = refl; scratcha = tt; scratchb = tt; ssid = tt; sfbr = tt }; linked = of-ticket ts t r w.bus g.1.target_is h.linked }))
        | inr o ↦ leads version units (At1A0 b r) c w h new word answer run (IsNext (At1A0 b r)) (Running At1A8Bad) (inl refl) (loaded version units (At1A0 b r) c w h new word answer run At1A8Bad 52 0x1C0 Temp (FromDsa (pos 0x1C)) (omega arith) refl refl refl head (ap (λ (i : ℕ). word_at w.memory (i + 0x1C)) h.stays.4.dsa ∙ f ∙ o)
            (record { closing = refl; ahead = refl; works = record { plays = tt; extra = tt }; at = record { dsa = tt; temp = refl; scratcha = tt; scratchb = tt; ssid = tt; sfbr = tt }; linked = tt }))
      ]
    ]
keeps version units At1A0None c w new word answer e run h =
    leads version units At1A0None c w h new word answer run (IsNext At1A0None) (Running At1A8None) refl (loaded version units At1A0None c w h new word answer run At1A8None 52 0x1B0 Temp (FromDsa (pos 0x1C)) (omega arith) refl refl refl (head-at w.regs.dsa 0x1400 h.stays.4.dsa refl (omega arith)) (ap (λ (i : ℕ). word_at w.memory (i + 0x1C)) h.stays.4.dsa ∙ h.parts.fixed.no_task.1)
    (record { closing = refl; ahead = refl; works = record { plays = tt; extra = tt }; at = record { dsa = h.stays.4.dsa; temp = refl; scratcha = tt; scratchb = tt; ssid = tt; sfbr = tt }; linked = h.linked }))
keeps version units At1B0None c w new word answer e run h =
    leads version units At1B0None c w h new word answer run (IsNext At1B0None) (Running At1B8None) refl (loaded version units At1B0None c w h new word answer run At1B8None 54 0x1C0 Temp (FromDsa (pos 4)) (omega arith) refl refl refl (head-at w.regs.dsa 0x1400 h.stays.4.dsa refl (omega arith)) (ap (λ (i : ℕ). word_at w.memory (i + 4)) h.stays.4.dsa ∙ h.parts.fixed.no_task.0)
    (record { closing = refl; ahead = refl; works = record { plays = tt; extra = tt }; at = record { dsa = tt; temp = refl; scratcha = tt; scratchb = tt; ssid = tt; sfbr = tt }; linked = h.linked }))
keeps version units (At1B8 t a) c w new word answer e run h =
    elim h.works.extra [
      | inl e ↦ leads version units (At1B8 t a) c w h new word answer run (IsNext (At1B8 t a)) (Running (At128 t)) (inl refl) (returned version units (At1B8 t a) c w h new word answer run (At128 t) 55 (omega arith) refl refl (h.stays.4.temp ∙ e) (record { closing = refl; ahead = refl; works = record { plays = h.works.plays; extra = tt }; at = record { dsa = h.stays.4.dsa; temp = tt; scratcha = tt; scratchb = tt; ssid = tt; sfbr = tt }; linked = h.linked }))
      | inr e ↦ leads version units (At1B8 t a) c w h new word answer run (IsNext (At1B8 t a)) (Running (At278 t)) (inr refl) (returned version units (At1B8 t a) c w h new word answer run (At278 t) 55 (omega arith) refl refl (h.stays.4.temp ∙ e) (record { closing = refl; ahead = refl; works = record { plays = h.works.plays; extra = tt }; at = record { dsa = h.stays.4.dsa; temp = tt; scratcha = tt; scratchb = tt; ssid = tt; sfbr = tt }; linked = h.linked }))
    ]
keeps version units At258 c w new word answer e run h =
    let last : done_slot (c.entered + 511 + 1) ≡ done_slot c.entered = omega arith in
    leads version units At258 c w h new word answer run (IsNext At258) (Running At260) refl (loaded version units At258 c w h new word answer run At260 75 (done_slot c.entered) ScratchB (FromDsa (pos 4)) (omega arith) refl refl refl (head-done w.regs.dsa (c.entered + 511) h.stays.4.dsa) (ap (λ (i : ℕ). word_at w.memory (i + 4)) h.stays.4.dsa ∙ h.parts.done.next (c.entered + 511) ∙ last)
    (record { closing = refl; ahead = refl; works = record { plays = tt; extra = tt }; at = record { dsa = tt; temp = tt; scratcha = tt; scratchb = refl; ssid = tt; sfbr = tt }; linked = h.linked }))
keeps version units _ c w new word answer e run h = absurd cc
