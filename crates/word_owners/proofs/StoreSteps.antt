-- The STOREs of the script keep the invariant.
use Rattle.std.proofs.Common.{◌≡◌, inl, inr, ℕ, pos, ◌+◌, ◌^◌, ◌<◌, refl, sym, ap, subst, ◌∙◌, arith, None}
use Rattle.bench_words.specs.Memory.{word_at}
use Rattle.bench_words.specs.Views.{Wrote}
use Rattle.host_map.specs.declared.TheConstants.{FRONT_IDLE}
use Rattle.host_map.specs.Places.{start_slot, done_slot}
use Rattle.cmd_block.specs.declared.Field.TheVariants.{State, Gate}
use Rattle.scripts_ops.specs.declared.values.Address.TheVariants.{At, FromDsa}
use Rattle.driver_script.specs.Script.{instruction}
use Rattle.chip_regs.specs.Bytes.{Dsa, ScratchA, ScratchB}
use Rattle.phase_fix.specs.Remain.{field}
use Rattle.phase_fix.specs.Moves.{IsEntry}
use Rattle.phase_fix.proofs.MoveLaws.{entry_place, move_stands}
use Rattle.phase_fix.specs.declared.moves.DataPhase.{DataPhase}
use Rattle.phase_fix.specs.declared.moves.DataPhase.TheVariants.{In, Out}
use Rattle.phase_fix.specs.declared.moves.Entry.{Entry}
use Rattle.phase_fix.specs.declared.moves.Entry.TheVariants.{Segment, Context}
use Rattle.word_owners.specs.Tickets.{Tickets, tickets_of, block_of, goal, way, AreTickets}
use Rattle.word_owners.specs.Pointers.{IsPointer}
use Rattle.word_owners.specs.Points.{At068, At070, At078, At080, At110, At118, At130, At138, At1F8, At200, At210, At218, At220, At228, At230, At238, At240, At250, At258, At260, At268, At3D0, At3D8, At450, At458}
use Rattle.word_owners.specs.Parts.{Counts, Parts, Asks, IsThere, MayWork}
use Rattle.word_owners.specs.Holds.{Running}
use Rattle.word_owners.specs.Nexts.{IsNext}
use Rattle.word_owners.proofs.PointGroups.{stores, StepsHold}
use Rattle.word_owners.proofs.Frames.{active-live, begun-frame, over-frame, not_entered-frame}
use Rattle.word_owners.proofs.WriteFrames.{parts-spared, tags-frame}
use Rattle.word_owners.proofs.FrontWrites.{parts-front, tags-front}
use Rattle.word_owners.proofs.Patches.{few}
use Rattle.word_owners.proofs.RingWrites.{same-ticket, queued-not-sensing, spares-control, passed, begun-passed, out-passed, parts-passed, entered, parts-entered}
use Rattle.word_owners.proofs.BlockWrites.{block-wrote, tags-wrote, below, not_entered-wrote, work-wrote, parts-wrote, parts-pointer, parts-shut, over-now, not-entered-now, parts-over}
use Rattle.word_owners.proofs.BlockLoads.{head-block, head-done}
use Rattle.word_owners.proofs.ChipSteps.{stored}

place-small : (phase : DataPhase) (e : Entry) (p : ℕ) → IsEntry e → entry_place phase e ≡ p → p < 0x1000
place-small In (Segment j) p i q = omega (arith, i, q)
place-small Out (Segment j) p i q = omega (arith, i, q)
place-small In (Context k) p i q = omega (arith, i, q)
place-small Out (Context k) p i q = omega (arith, i, q)

-- a pointer is an address of the script
pointer-small : (w : ℕ → ℕ) (ts : Tickets) (t p : ℕ) → IsPointer w (block_of ts t) (way (ts.fixed t)) (goal (ts.fixed t)) p → p < 2 ^ 32
pointer-small w ts t p (inl e) = omega (arith, e)
pointer-small w ts t p (inr g) = let s = move_stands p g.0 g.1.at in omega (arith, place-small g.0.phase g.0.entry p s.0 s.1)

-- FRONT is idle again: its ticket is worked on
front-passed : (version : ℕ) (w n : ℕ → ℕ) (ts : Tickets) (c : Counts) (d : AreTickets ts) (t : ℕ) → Wrote w n 0x1000 0x1600 → Asks w ts t → IsThere ts t → Parts version w ts c None → MayWork n ts c t
front-passed version w n ts c d t r a there p =
    let live = active-live (ts.stage t) (inr a.stage) in
    record {
      begun = begun-frame w n ts t (r.other (block_of ts t + 0x10) (omega (arith, (d.block t live).from))) (record { stage = inr a.stage; live = a.live });
      out = record {
        ring = λ i l u e.
            let x = p.start.entry i l u in
            let same : x.0 ≡ t = same-ticket ts d x.0 t (active-live (ts.stage x.0) (inl x.2.stage)) live (sym x.1 ∙ sym (r.other (start_slot i) (omega arith)) ∙ e) in
            queued-not-sensing (ts.stage x.0) x.2.stage (ap ts.stage same ∙ a.stage);
        front = λ e. let z : block_of ts t ≡ 0x1600 = sym e ∙ r.same in absurd (omega (arith, z, (d.block t live).from));
      };
      there = there;
    }

pub keeps : StepsHold stores
unfolding instruction
keeps version units (At068 t) c w new word answer e run h =
    let ts = tickets_of w.desk in
    let m = word_at w.memory in
    let u = few version units (Running (At068 t)) c w 0 h in
    stored version units (At068 t) c w h new word answer run (IsNext (At068 t)) (At070 t) (passed c) 13 0x1004 (start_slot (c.started + 1)) ScratchB (At 0x1004) refl (omega arith) refl refl refl tt refl (omega arith) h.stays.4.scratchb (omega arith)
    (λ n r. record {
      queued = refl;
      taken = refl;
      parts = parts-passed version m n ts c u h.tickets t r h.works.plays h.parts;
      tags = tags-frame m n ts h.tickets u (λ x f l. r.other x (omega arith)) h.tags;
      donep = record { before = h.donep.before; entered = h.donep.entered; is = r.other 0x1008 (omega arith) ∙ h.donep.is };
      works = record { plays = record { begun = begun-passed version m n ts c u h.tickets t r h.works.plays h.parts; out = out-passed version m n ts c u h.tickets t r h.works.plays h.parts; there = h.works.extra }; extra = tt };
      at = record { dsa = h.stays.4.dsa; temp = tt; scratcha = tt; scratchb = tt; ssid = tt; sfbr = tt };
      linked = h.linked;
    })
keeps version units (At1F8 t) c w new word answer e run h =
    let ts = tickets_of w.desk in
    let m = word_at w.memory in
    let u = few version units (Running (At1F8 t)) c w 0 h in
    stored version units (At1F8 t) c w h new word answer run (IsNext (At1F8 t)) (At200 t) (passed c) 63 0x1004 (start_slot (c.started + 1)) ScratchB (At 0x1004) refl (omega arith) refl refl refl tt refl (omega arith) h.stays.4.scratchb (omega arith)
    (λ n r. record {
      queued = refl;
      taken = refl;
      parts = parts-passed version m n ts c u h.tickets t r h.works.plays h.parts;
      tags = tags-frame m n ts h.tickets u (λ x f l. r.other x (omega arith)) h.tags;
      donep = record { before = h.donep.before; entered = h.donep.entered; is = r.other 0x1008 (omega arith) ∙ h.donep.is };
      works = record { plays = (begun-passed version m n ts c u h.tickets t r h.works.plays h.parts, out-passed version m n ts c u h.tickets t r h.works.plays h.parts); extra = (omega arith, omega arith, λ i. absurd (omega (arith, i))) };
      at = record { dsa = h.stays.4.dsa; temp = tt; scratcha = tt; scratchb = tt; ssid = tt; sfbr = tt };
      linked = h.linked;
    })
keeps version units (At210 t) c w new word answer e run h =
    let ts = tickets_of w.desk in
    let m = word_at w.memory in
    let u = few version units (Running (At210 t)) c w 0 h in
    stored version units (At210 t) c w h new word answer run (IsNext (At210 t)) (At218 t) (passed c) 66 0x1004 (start_slot (c.started + 1)) ScratchB (At 0x1004) refl (omega arith) refl refl refl tt refl (omega arith) h.stays.4.scratchb (omega arith)
    (λ n r. record {
      queued = refl;
      taken = refl;
      parts = parts-passed version m n ts c u h.tickets t r h.works.plays h.parts;
      tags = tags-frame m n ts h.tickets u (λ x f l. r.other x (omega arith)) h.tags;
      donep = record { before = h.donep.before; entered = h.donep.entered; is = r.other 0x1008 (omega arith) ∙ h.donep.is };
      works = record { plays = (begun-passed version m n ts c u h.tickets t r h.works.plays h.parts, out-passed version m n ts c u h.tickets t r h.works.plays h.parts); extra = (omega arith, omega arith, λ i. absurd (omega (arith, i))) };
      at = record { dsa = h.stays.4.dsa; temp = tt; scratcha = tt; scratchb = tt; ssid = tt; sfbr = tt };
      linked = h.linked;
    })
keeps version units (At078 t) c w new word answer e run h =
    let ts = tickets_of w.desk in
    let m = word_at w.memory in
    let u = few version units (Running (At078 t)) c w 0 h in
    let live = active-live (ts.stage t) h.works.plays.begun.stage in
    let place = h.tickets.block t live in
    stored version units (At078 t) c w h new word answer run (IsNext (At078 t)) (At080 t) c 15 (block_of ts t + 0x1C) 0x1B0 ScratchA (FromDsa (pos 0x1C)) refl (omega arith) refl refl refl (head-block w.regs.dsa (block_of ts t) h.stays.4.dsa place) (ap (λ (i : ℕ). i + 0x1C) h.stays.4.dsa) (omega (arith, place.below)) h.stays.4.scratcha (omega arith)
    (λ n r. let state : field n (block_of ts t) State ≡ field m (block_of ts t) State = r.other (block_of ts t + 0x10) (omega arith) in let b = h.parts.blocks t live in let e2 = r.other (block_of ts t + 0x08) (omega arith) in let e3 = r.other (block_of ts t + 0x0C) (omega arith) in record {
      queued = refl;
      taken = refl;
      parts = parts-wrote version m n ts c u h.tickets t live 0x1C 0x1B0 r (omega arith) (omega arith) (omega arith) state None (block-wrote version m n ts c u h.tickets t live 0x1C 0x1B0 r (omega arith) (omega arith) (omega arith) (subst (IsPointer m (block_of ts t) (way (ts.fixed t)) (goal (ts.fixed t))) (sym e2) b.last) (subst (IsPointer m (block_of ts t) (way (ts.fixed t)) (goal (ts.fixed t))) (sym e3) b.saved) (inl r.same) b) (λ i j. inr h.works.plays) h.parts;
      tags = tags-wrote version m n ts c u h.tickets t live 0x1C 0x1B0 r (omega arith) (omega arith) (omega arith) h.tags;
      donep = record { before = h.donep.before; entered = h.donep.entered; is = below version m n ts c u h.tickets t live 0x1C 0x1B0 r (omega arith) (omega arith) (omega arith) 0x1008 (omega arith) ∙ h.donep.is };
      works = record { plays = work-wrote version m n ts c u h.tickets t live 0x1C 0x1B0 r (omega arith) (omega arith) (omega arith) state h.works.plays; extra = tt };
      at = record { dsa = h.stays.4.dsa; temp = tt; scratcha = tt; scratchb = tt; ssid = tt; sfbr = tt };
      linked = h.linked;
    })
keeps version units (At110 t p) c w new word answer e run h =
    let ts = tickets_of w.desk in
    let m = word_at w.memory in
    let u = few version units (Running (At110 t p)) c w 0 h in
    let live = active-live (ts.stage t) h.works.plays.begun.stage in
    let place = h.tickets.block t live in
    stored version units (At110 t p) c w h new word answer run (IsNext (At110 t p)) (At118 t) c 34 (block_of ts t + 0xC) p ScratchA (FromDsa (pos 0xC)) refl (omega arith) refl refl refl (head-block w.regs.dsa (block_of ts t) h.stays.4.dsa place) (ap (λ (i : ℕ). i + 0xC) h.stays.4.dsa) (omega (arith, place.below)) h.stays.4.scratcha (pointer-small m ts t p h.works.extra)
    (λ n r. let state : field n (block_of ts t) State ≡ field m (block_of ts t) State = r.other (block_of ts t + 0x10) (omega arith) in let b = h.parts.blocks t live in let e2 = r.other (block_of ts t + 0x08) (omega arith) in let e4 : field n (block_of ts t) Gate ≡ field m (block_of ts t) Gate = r.other (block_of ts t + 0x1C) (omega arith) in record {
      queued = refl;
      taken = refl;
      parts = parts-pointer version m n ts c u h.tickets t live 0xC p r (omega arith) (omega arith) (omega arith) state e4 (block-wrote version m n ts c u h.tickets t live 0xC p r (omega arith) (omega arith) (omega arith) (subst (IsPointer m (block_of ts t) (way (ts.fixed t)) (goal (ts.fixed t))) (sym e2) b.last) (subst (IsPointer m (block_of ts t) (way (ts.fixed t)) (goal (ts.fixed t))) (sym r.same) h.works.extra) (elim b.gate [ inl i ↦ inl (e4 ∙ i) | inr i ↦ inr (e4 ∙ i) ]) b) h.parts;
      tags = tags-wrote version m n ts c u h.tickets t live 0xC p r (omega arith) (omega arith) (omega arith) h.tags;
      donep = record { before = h.donep.before; entered = h.donep.entered; is = below version m n ts c u h.tickets t live 0xC p r (omega arith) (omega arith) (omega arith) 0x1008 (omega arith) ∙ h.donep.is };
      works = record { plays = work-wrote version m n ts c u h.tickets t live 0xC p r (omega arith) (omega arith) (omega arith) state h.works.plays; extra = tt };
      at = record { dsa = h.stays.4.dsa; temp = tt; scratcha = tt; scratchb = tt; ssid = tt; sfbr = tt };
      linked = h.linked;
    })
keeps version units (At130 t p) c w new word answer e run h =
    let ts = tickets_of w.desk in
    let m = word_at w.memory in
    let u = few version units (Running (At130 t p)) c w 0 h in
    let live = active-live (ts.stage t) h.works.plays.begun.stage in
    let place = h.tickets.block t live in
    stored version units (At130 t p) c w h new word answer run (IsNext (At130 t p)) (At138 t) c 38 (block_of ts t + 8) p ScratchA (FromDsa (pos 8)) refl (omega arith) refl refl refl (head-block w.regs.dsa (block_of ts t) h.stays.4.dsa place) (ap (λ (i : ℕ). i + 8) h.stays.4.dsa) (omega (arith, place.below)) h.stays.4.scratcha (pointer-small m ts t p h.works.extra)
    (λ n r. let state : field n (block_of ts t) State ≡ field m (block_of ts t) State = r.other (block_of ts t + 0x10) (omega arith) in let b = h.parts.blocks t live in let e3 = r.other (block_of ts t + 0x0C) (omega arith) in let e4 : field n (block_of ts t) Gate ≡ field m (block_of ts t) Gate = r.other (block_of ts t + 0x1C) (omega arith) in record {
      queued = refl;
      taken = refl;
      parts = parts-pointer version m n ts c u h.tickets t live 8 p r (omega arith) (omega arith) (omega arith) state e4 (block-wrote version m n ts c u h.tickets t live 8 p r (omega arith) (omega arith) (omega arith) (subst (IsPointer m (block_of ts t) (way (ts.fixed t)) (goal (ts.fixed t))) (sym r.same) h.works.extra) (subst (IsPointer m (block_of ts t) (way (ts.fixed t)) (goal (ts.fixed t))) (sym e3) b.saved) (elim b.gate [ inl i ↦ inl (e4 ∙ i) | inr i ↦ inr (e4 ∙ i) ]) b) h.parts;
      tags = tags-wrote version m n ts c u h.tickets t live 8 p r (omega arith) (omega arith) (omega arith) h.tags;
      donep = record { before = h.donep.before; entered = h.donep.entered; is = below version m n ts c u h.tickets t live 8 p r (omega arith) (omega arith) (omega arith) 0x1008 (omega arith) ∙ h.donep.is };
      works = record { plays = work-wrote version m n ts c u h.tickets t live 8 p r (omega arith) (omega arith) (omega arith) state h.works.plays; extra = tt };
      at = record { dsa = h.stays.4.dsa; temp = tt; scratcha = tt; scratchb = tt; ssid = tt; sfbr = tt };
      linked = h.linked;
    })
keeps version units (At3D0 t) c w new word answer e run h =
    let ts = tickets_of w.desk in
    let m = word_at w.memory in
    let u = few version units (Running (At3D0 t)) c w 0 h in
    let live = active-live (ts.stage t) h.works.plays.begun.stage in
    let place = h.tickets.block t live in
    stored version units (At3D0 t) c w h new word answer run (IsNext (At3D0 t)) (At3D8 t) c 122 (block_of ts t + 8) 0x2B8 ScratchA (FromDsa (pos 8)) refl (omega arith) refl refl refl (head-block w.regs.dsa (block_of ts t) h.stays.4.dsa place) (ap (λ (i : ℕ). i + 8) h.stays.4.dsa) (omega (arith, place.below)) h.stays.4.scratcha (omega arith)
    (λ n r. let state : field n (block_of ts t) State ≡ field m (block_of ts t) State = r.other (block_of ts t + 0x10) (omega arith) in let b = h.parts.blocks t live in let e3 = r.other (block_of ts t + 0x0C) (omega arith) in let e4 : field n (block_of ts t) Gate ≡ field m (block_of ts t) Gate = r.other (block_of ts t + 0x1C) (omega arith) in record {
      queued = refl;
      taken = refl;
      parts = parts-pointer version m n ts c u h.tickets t live 8 0x2B8 r (omega arith) (omega arith) (omega arith) state e4 (block-wrote version m n ts c u h.tickets t live 8 0x2B8 r (omega arith) (omega arith) (omega arith) (inl r.same) (subst (IsPointer m (block_of ts t) (way (ts.fixed t)) (goal (ts.fixed t))) (sym e3) b.saved) (elim b.gate [ inl i ↦ inl (e4 ∙ i) | inr i ↦ inr (e4 ∙ i) ]) b) h.parts;
      tags = tags-wrote version m n ts c u h.tickets t live 8 0x2B8 r (omega arith) (omega arith) (omega arith) h.tags;
      donep = record { before = h.donep.before; entered = h.donep.entered; is = below version m n ts c u h.tickets t live 8 0x2B8 r (omega arith) (omega arith) (omega arith) 0x1008 (omega arith) ∙ h.donep.is };
      works = record { plays = work-wrote version m n ts c u h.tickets t live 8 0x2B8 r (omega arith) (omega arith) (omega arith) state h.works.plays; extra = tt };
      at = record { dsa = h.stays.4.dsa; temp = tt; scratcha = tt; scratchb = tt; ssid = tt; sfbr = tt };
      linked = h.linked;
    })
keeps version units (At220 t v) c w new word answer e run h =
    let ts = tickets_of w.desk in
    let m = word_at w.memory in
    let u = few version units (Running (At220 t v)) c w 0 h in
    let live = active-live (ts.stage t) h.works.plays.0.stage in
    let place = h.tickets.block t live in
    stored version units (At220 t v) c w h new word answer run (IsNext (At220 t v)) (At228 t) c 68 (block_of ts t + 0x10) v ScratchA (FromDsa (pos 0x10)) refl (omega arith) refl refl refl (head-block w.regs.dsa (block_of ts t) h.stays.4.dsa place) (ap (λ (i : ℕ). i + 0x10) h.stays.4.dsa) (omega (arith, place.below)) h.stays.4.scratcha (omega (arith, h.works.extra.1))
    (λ n r. record {
      queued = refl;
      taken = refl;
      parts = parts-over version m n ts c u h.tickets t v h.works.plays.0 h.works.plays.1 h.works.extra.0 h.works.extra.1 h.works.extra.2 r h.parts;
      tags = tags-wrote version m n ts c u h.tickets t live 0x10 v r (omega arith) (omega arith) (omega arith) h.tags;
      donep = record { before = h.donep.before; entered = h.donep.entered; is = below version m n ts c u h.tickets t live 0x10 v r (omega arith) (omega arith) (omega arith) 0x1008 (omega arith) ∙ h.donep.is };
      works = record { plays = (over-now version m n ts c u h.tickets t v h.works.plays.0 h.works.plays.1 h.works.extra.0 h.works.extra.1 h.works.extra.2 r h.parts, not-entered-now version m n ts c u h.tickets t v h.works.plays.0 h.works.plays.1 h.works.extra.0 h.works.extra.1 h.works.extra.2 r h.parts); extra = tt };
      at = record { dsa = h.stays.4.dsa; temp = tt; scratcha = tt; scratchb = tt; ssid = tt; sfbr = tt };
      linked = h.linked;
    })
keeps version units (At230 t) c w new word answer e run h =
    let ts = tickets_of w.desk in
    let m = word_at w.memory in
    let u = few version units (Running (At230 t)) c w 0 h in
    let live = active-live (ts.stage t) h.works.plays.0.stage in
    let place = h.tickets.block t live in
    stored version units (At230 t) c w h new word answer run (IsNext (At230 t)) (At238 t) c 70 (block_of ts t + 0x1C) 0x1C0 ScratchA (FromDsa (pos 0x1C)) refl (omega arith) refl refl refl (head-block w.regs.dsa (block_of ts t) h.stays.4.dsa place) (ap (λ (i : ℕ). i + 0x1C) h.stays.4.dsa) (omega (arith, place.below)) h.stays.4.scratcha (omega arith)
    (λ n r. let state : field n (block_of ts t) State ≡ field m (block_of ts t) State = r.other (block_of ts t + 0x10) (omega arith) in let b = h.parts.blocks t live in let e2 = r.other (block_of ts t + 0x08) (omega arith) in let e3 = r.other (block_of ts t + 0x0C) (omega arith) in record {
      queued = refl;
      taken = refl;
      parts = parts-shut version m n ts c u h.tickets t live 0x1C 0x1C0 r (omega arith) (omega arith) (omega arith) state refl r.same (block-wrote version m n ts c u h.tickets t live 0x1C 0x1C0 r (omega arith) (omega arith) (omega arith) (subst (IsPointer m (block_of ts t) (way (ts.fixed t)) (goal (ts.fixed t))) (sym e2) b.last) (subst (IsPointer m (block_of ts t) (way (ts.fixed t)) (goal (ts.fixed t))) (sym e3) b.saved) (inr r.same) b) h.parts;
      tags = tags-wrote version m n ts c u h.tickets t live 0x1C 0x1C0 r (omega arith) (omega arith) (omega arith) h.tags;
      donep = record { before = h.donep.before; entered = h.donep.entered; is = below version m n ts c u h.tickets t live 0x1C 0x1C0 r (omega arith) (omega arith) (omega arith) 0x1008 (omega arith) ∙ h.donep.is };
      works = record { plays = (over-frame m n ts t state h.works.plays.0, not_entered-wrote version m n ts c u h.tickets t live 0x1C 0x1C0 r (omega arith) (omega arith) (omega arith) h.works.plays.1); extra = tt };
      at = record { dsa = h.stays.4.dsa; temp = tt; scratcha = tt; scratchb = tt; ssid = tt; sfbr = tt };
      linked = h.linked;
    })
keeps version units (At238 t) c w new word answer e run h =
    let ts = tickets_of w.desk in
    let m = word_at w.memory in
    let u = few version units (Running (At238 t)) c w 0 h in
    let live = active-live (ts.stage t) h.works.plays.0.stage in
    let place = h.tickets.block t live in
    stored version units (At238 t) c w h new word answer run (IsNext (At238 t)) (At240 t) c 71 0x100C (block_of ts t) Dsa (At 0x100C) refl (omega arith) refl refl refl tt refl (omega arith) h.stays.4.dsa (omega (arith, place.below))
    (λ n r. record {
      queued = refl;
      taken = refl;
      parts = parts-spared version m n ts c None u (spares-control m n ts h.tickets 0x100C (block_of ts t) r (omega arith) (omega arith)) h.parts;
      tags = tags-frame m n ts h.tickets u (λ x f l. r.other x (omega arith)) h.tags;
      donep = record { before = h.donep.before; entered = h.donep.entered; is = r.other 0x1008 (omega arith) ∙ h.donep.is };
      works = record { plays = (over-frame m n ts t (r.other (block_of ts t + 0x10) (omega (arith, place.from))) h.works.plays.0, not_entered-frame m n c (block_of ts t) (λ x f l. r.other x (omega arith)) h.works.plays.1); extra = r.same };
      at = record { dsa = tt; temp = tt; scratcha = tt; scratchb = tt; ssid = tt; sfbr = tt };
      linked = h.linked;
    })
keeps version units (At250 t) c w new word answer e run h =
    let ts = tickets_of w.desk in
    let m = word_at w.memory in
    let u = few version units (Running (At250 t)) c w 0 h in
    let live = active-live (ts.stage t) h.works.plays.0.stage in
    let place = h.tickets.block t live in
    let last : done_slot c.entered ≡ done_slot (c.entered + 1 + 511) = omega arith in
    stored version units (At250 t) c w h new word answer run (IsNext (At250 t)) At258 (entered c) 74 (done_slot c.entered) (block_of ts t) ScratchA (FromDsa (pos 0)) refl (omega arith) refl refl refl (head-done w.regs.dsa c.entered h.stays.4.dsa) (omega (arith, h.stays.4.dsa)) (omega arith) h.stays.4.scratcha (omega (arith, place.below))
    (λ n r. record {
      queued = refl;
      taken = refl;
      parts = parts-entered version m n ts c u h.tickets t r h.works.plays h.parts;
      tags = tags-frame m n ts h.tickets u (λ x f l. r.other x (omega arith)) h.tags;
      donep = record { before = h.donep.before; entered = omega (arith, h.donep.entered); is = r.other 0x1008 (omega arith) ∙ h.donep.is };
      works = record { plays = tt; extra = tt };
      at = record { dsa = h.stays.4.dsa ∙ last; temp = tt; scratcha = tt; scratchb = tt; ssid = tt; sfbr = tt };
      linked = h.linked;
    })
keeps version units At260 c w new word answer e run h =
    let ts = tickets_of w.desk in
    let m = word_at w.memory in
    let u = few version units (Running At260) c w 0 h in
    stored version units At260 c w h new word answer run (IsNext At260) At268 c 76 0x1008 (done_slot c.entered) ScratchB (At 0x1008) refl (omega arith) refl refl refl tt refl (omega arith) h.stays.4.scratchb (omega arith)
    (λ n r. record {
      queued = refl;
      taken = refl;
      parts = parts-spared version m n ts c None u (spares-control m n ts h.tickets 0x1008 (done_slot c.entered) r (omega arith) (omega arith)) h.parts;
      tags = tags-frame m n ts h.tickets u (λ x f l. r.other x (omega arith)) h.tags;
      donep = record { before = c.entered; entered = omega arith; is = r.same };
      works = record { plays = tt; extra = tt };
      at = record { dsa = tt; temp = tt; scratcha = tt; scratchb = tt; ssid = tt; sfbr = tt };
      linked = h.linked;
    })
keeps version units (At450 t) c w new word answer e run h =
    let ts = tickets_of w.desk in
    let m = word_at w.memory in
    let u = few version units (Running (At450 t)) c w 0 h in
    stored version units (At450 t) c w h new word answer run (IsNext (At450 t)) (At458 t) c 138 0x1000 0x1600 ScratchA (At 0x1000) refl (omega arith) refl refl refl tt refl (omega arith) h.stays.4.scratcha (omega arith)
    (λ n r. record {
      queued = refl;
      taken = refl;
      parts = parts-front version m n ts c None u h.tickets FRONT_IDLE r (inl refl) h.parts;
      tags = tags-front version m n ts c None u h.tickets FRONT_IDLE r (inl refl) h.tags;
      donep = record { before = h.donep.before; entered = h.donep.entered; is = r.other 0x1008 (omega arith) ∙ h.donep.is };
      works = record { plays = front-passed version m n ts c h.tickets t r h.works.plays.0 h.works.plays.1 h.parts; extra = tt };
      at = record { dsa = h.stays.4.dsa; temp = tt; scratcha = tt; scratchb = tt; ssid = tt; sfbr = tt };
      linked = h.linked;
    })
keeps version units _ c w new word answer e run h = absurd cc
