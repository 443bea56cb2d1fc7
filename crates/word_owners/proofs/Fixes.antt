-- Fix keeps the invariant: what is left of a data move becomes a context, and both data pointers denote suffixes again.
use Rattle.std.proofs.Common.{◌≡◌, ◌≢◌, ◌⊎◌, inl, inr, ℕ, ◌+◌, ◌-◌, ◌*◌, ◌%◌, ◌^◌, ◌<◌, ◌≤◌, List, length, Bool, true, false, refl, sym, ap, subst, ◌∙◌, arith, Some, None, length-append}
use Rattle.std.specs.Prelude.{if◌then◌else◌, nat_eq, is_some}
use Rattle.std.proofs.lemmas.Bool.Decides.{nat_tests}
use Rattle.std.proofs.lemmas.List.FromFn.{length-range_with_len}
use Rattle.bench_words.specs.Memory.{word_at, put_word}
use Rattle.bench_words.specs.Bytes.{IsBytes}
use Rattle.bench_words.specs.Views.{Apart, Outside}
use Rattle.bench_words.proofs.Bytes.{bytes-put_word, word_at-below}
use Rattle.bench_words.proofs.MemoryLaws.{length-put_word}
use Rattle.rig_types.specs.declared.rig.Unit.{Unit as RigUnit}
use Rattle.scsi_words.specs.declared.phases.kinds.Direction.{Direction}
use Rattle.scsi_words.specs.declared.phases.kinds.Direction.TheVariants as direction
use Rattle.host_map.specs.Places.{IsBlockPlace}
use Rattle.host_map.proofs.MapLaws.{place_of_command}
use Rattle.cmd_block.specs.Block.{offset, field_of}
use Rattle.cmd_block.specs.declared.Field.TheVariants.{Lastp, Savep, State, Gate, CtxCount, CtxReturn}
use Rattle.phase_fix.specs.declared.moves.DataMove.{DataMove}
use Rattle.phase_fix.specs.declared.moves.DataPhase.{DataPhase}
use Rattle.phase_fix.specs.declared.moves.DataPhase.TheVariants.{In, Out}
use Rattle.phase_fix.specs.declared.moves.Entry.{Entry}
use Rattle.phase_fix.specs.declared.moves.Entry.TheVariants.{Segment, Context}
use Rattle.phase_fix.specs.Moves.{move_at, first_segment, IsEntry}
use Rattle.phase_fix.specs.Remain.{field, count_of, address_of, range_of, remain}
use Rattle.phase_fix.specs.Repair.{IsRepairable, IsRepaired, free_context, return_of, with_rest, repaired}
use Rattle.phase_fix.proofs.MoveLaws.{entry_place, move_stands, move-context, free_below, free_is_other}
use Rattle.phase_fix.proofs.RemainLaws.{SegmentsKept, remain-kept, behind_entry}
use Rattle.phase_fix.proofs.RepairLaws.{repaired-last, repaired-saved, repaired-returns, again-repaired, rest-repaired}
use Rattle.desk_law.specs.declared.stage.Stage.{Stage}
use Rattle.desk_law.specs.Blocks.{beginning}
use Rattle.desk_law.specs.Desk.{ticket}
use Rattle.world_law.specs.declared.reply.Stop.{Stop}
use Rattle.world_law.specs.declared.reply.Stop.TheVariants as stop
use Rattle.world_law.specs.World.{World}
use Rattle.world_law.specs.Repairs.{CanFix, fixed}
use Rattle.word_owners.specs.Tickets.{Fixed, tickets_of, block_of, target_of, goal, way, IsLive}
use Rattle.word_owners.specs.Pointers.{IsSuffix, AreFilled, GoesBack, Follows, Names, IsPointer, move_place}
use Rattle.word_owners.specs.Parts.{Counts, IsStart, IsBlock}
use Rattle.word_owners.specs.Holds.{HoldsFor, Holds, Running, Mismatched, NotData, Fixed as Repaired, TimedOut, JobOver, ResetAt, Broken, BrokenOff}
use Rattle.word_owners.specs.Laws.{FixHolds}
use Rattle.word_owners.proofs.Frames.{same_or, active-live}
use Rattle.word_owners.proofs.WriteFrames.{BlockChanges, parts-block, tags-frame, low-same, may-work}
use Rattle.word_owners.proofs.Patches.{few}
use Rattle.word_owners.proofs.Suffixes.{suffix-drop, unrolled}

module _ (w n : ℕ → ℕ) (b dsp left : ℕ) (z : DataMove) (r : IsRepaired w n b dsp left z) where
  -- a repair writes LASTP and contexts alone
  other-by : (left ≡ count_of w b z.entry) ⊎ (left ≢ count_of w b z.entry) → (x : ℕ) → Apart (b + 0x08) x → Outside x (b + 0xC0) (b + 0xE0) → n x ≡ w x
  other-by (inl e) x a o = (r.again e).other x a
  other-by (inr e) x a o = let k : free_context (field w b Savep) < 2 = free_below (field w b Savep) in (r.rest e).other x a (omega (arith, k))

  pub repair-other : (x : ℕ) → Apart (b + 0x08) x → Outside x (b + 0xC0) (b + 0xE0) → n x ≡ w x
  repair-other x a o = other-by (same_or left (count_of w b z.entry)) x a o

  filled-low : (j : ℕ) → AreFilled w b j → AreFilled n b j
  filled-low j h i l u e = h i l u (ap (λ (x : ℕ). x % 16777216) (sym (repair-other (b + (0x40 + 8 * i)) (omega arith) (omega arith))) ∙ e)

  back-by : (phase : DataPhase) (k : ℕ) → field n b (CtxReturn k) ≡ field w b (CtxReturn k) → GoesBack w b phase k → GoesBack n b phase k
  back-by phase k e g = record { segment = g.segment; within = g.within; return = e ∙ g.return; filled = filled-low g.segment g.filled }

  -- an entry whose fields stay
  follows-by : (phase : DataPhase) (e : Entry) → ((k : ℕ) → e ≡ Context k → (field n b (CtxCount k) ≡ field w b (CtxCount k)) × (field n b (CtxReturn k) ≡ field w b (CtxReturn k))) → Follows w b phase e → Follows n b phase e
  follows-by phase (Segment j) s g = filled-low j g
  follows-by phase (Context k) s g = (λ e. g.0 (ap (λ (x : ℕ). x % 16777216) (sym (s k refl).0) ∙ e), back-by phase k (s k refl).1 g.1)

  -- behind the rest of the move the data go on where they did
  return-back : (phase : DataPhase) (e : Entry) (k : ℕ) → IsEntry e → dsp ≡ move_place phase e + 8 → field n b (CtxReturn k) ≡ return_of w b dsp e → Follows w b phase e → GoesBack n b phase k
  return-back phase (Segment j) k h d q g = record {
    segment = j + 1;
    within = omega arith;
    return = q ∙ d ∙ (let e : first_segment phase + 8 * j + 8 ≡ first_segment phase + 8 * (j + 1) = omega arith in e);
    filled = filled-low (j + 1) (λ i l u. g i (omega arith) u);
  }
  return-back phase (Context i) k h d q g = record { segment = g.1.segment; within = g.1.within; return = q ∙ g.1.return; filled = filled-low g.1.segment g.1.filled }

  -- LASTP names what is left, and all behind it
  last-repaired : (goes : Direction) (xs : List ℕ) → dsp ≡ move_place z.phase z.entry + 8 → 0 < left → left ≤ count_of w b z.entry → Names w b goes xs (move_place z.phase z.entry) z → IsPointer n b goes xs (n (b + 0x08))
  last-repaired goes xs hd some hl g =
      let he = (move_stands (move_place z.phase z.entry) z g.at).0 in
      let q : dsp - 8 ≡ move_place z.phase z.entry = omega arith in
      let at : move_at (dsp - 8) ≡ Some z = ap move_at q ∙ g.at in
      let m = count_of w b z.entry - left in
      let l = repaired-last w n b dsp left z (omega arith) at hl r in
      let s : IsSuffix (remain w b (dsp - 8)) xs = subst (λ (i : ℕ). IsSuffix (remain w b i) xs) (sym q) g.rest in
      let all : count_of w b z.entry ≤ length (remain w b (dsp - 8)) = omega (arith, ap (λ (i : List ℕ). length i) (unrolled w b (dsp - 8) z at), length-append (range_of w b z.entry) (behind_entry w b z.entry), length-range_with_len (address_of w b z.entry) (count_of w b z.entry)) in
      let rest : IsSuffix (remain n b (n (b + 0x08))) xs = subst (λ (i : List ℕ). IsSuffix i xs) (sym l) (suffix-drop m (remain w b (dsp - 8)) xs (omega arith) s) in
      elim (same_or left (count_of w b z.entry)) [
        | inl e ↦ inr (
          z,
          record {
            at = ap move_at ((r.again e).same) ∙ at;
            rest = rest;
            follows = follows-by z.phase z.entry (λ k i. ((r.again e).other (b + offset (CtxCount k)) (omega arith), (r.again e).other (b + offset (CtxReturn k)) (omega arith))) g.follows;
            way = g.way;
          },
        )
        | inr e ↦
            let k = free_context (field w b Savep) in
            let h = r.rest e in
            inr (
              record { phase = z.phase; entry = Context k },
              record {
                at = ap move_at h.last ∙ move-context z.phase k (free_below (field w b Savep));
                rest = rest;
                follows = (λ i. absurd (omega (arith, i, h.count, hl, some)), return-back z.phase z.entry k he hd h.return g.follows);
                way = g.way;
              },
            )
      ]

  -- SAVEP denotes what it did
  saved-repaired : (goes : Direction) (xs : List ℕ) → left ≤ count_of w b z.entry → IsPointer w b goes xs (w (b + 0x0C)) → IsPointer n b goes xs (n (b + 0x0C))
  saved-repaired goes xs hl s =
      let same : n (b + 0x0C) ≡ w (b + 0x0C) = repair-other (b + 0x0C) (omega arith) (omega arith) in
      elim s [
        | inl e ↦ inl (same ∙ e)
        | inr g ↦ inr (
          g.0,
          record {
            at = ap move_at same ∙ g.1.at;
            rest = subst (λ (i : List ℕ). IsSuffix i xs) (sym (repaired-saved w n b dsp left z hl r)) g.1.rest;
            follows = follows-by g.0.phase g.0.entry (λ k i. kept k g.0 g.1.at i (same_or left (count_of w b z.entry))) g.1.follows;
            way = g.1.way;
          },
        )
      ]
    where
      kept : (k : ℕ) (y : DataMove) → move_at (w (b + 0x0C)) ≡ Some y → y.entry ≡ Context k → (left ≡ count_of w b z.entry) ⊎ (left ≢ count_of w b z.entry) → (field n b (CtxCount k) ≡ field w b (CtxCount k)) × (field n b (CtxReturn k) ≡ field w b (CtxReturn k))
      kept k y at i (inl e) = ((r.again e).other (b + offset (CtxCount k)) (omega arith), (r.again e).other (b + offset (CtxReturn k)) (omega arith))
      kept k y at i (inr e) =
          let f : free_context (field w b Savep) < 2 = free_below (field w b Savep) in
          let ne : k ≢ free_context (field w b Savep) = free_is_other (field w b Savep) k y at i in
          ((r.rest e).other (b + offset (CtxCount k)) (omega arith) (omega (arith, f, ne)), (r.rest e).other (b + offset (CtxReturn k)) (omega arith) (omega (arith, f, ne)))

  -- a pointer to a segment denotes what it did
  segment-kept : SegmentsKept w n b
  segment-kept = record {
    count = λ j h. repair-other (b + (0x40 + 8 * j)) (omega arith) (omega arith);
    address = λ j h. repair-other (b + (0x44 + 8 * j)) (omega arith) (omega arith);
  }

  begins-repaired : (goes : Direction) (xs : List ℕ) (p : ℕ) → p ≤ 0x3C8 → IsPointer w b goes xs p → IsPointer n b goes xs p
  begins-repaired goes xs p low (inl e) = inl e
  begins-repaired goes xs p low (inr g) = inr (
    g.0,
    record {
      at = g.1.at;
      rest = subst (λ (i : List ℕ). IsSuffix i xs) (sym (remain-kept w n b p segment-kept (λ k x h a f. absurd (not-context k (same-move x a ∙ f))))) g.1.rest;
      follows = follows-by g.0.phase g.0.entry (λ k f. absurd (not-context k f)) g.1.follows;
      way = g.1.way;
    },
  )
    where
      far : (phase : DataPhase) (k : ℕ) → 0x3C8 < move_place phase (Context k)
      far In k = omega arith
      far Out k = omega arith

      as-place : (phase : DataPhase) (e : Entry) → entry_place phase e ≡ p → move_place phase e ≡ p
      as-place phase (Segment j) h = h
      as-place phase (Context k) h = h

      not-context : (k : ℕ) → g.0.entry ≡ Context k → ⊥
      not-context k e =
          let q : move_place g.0.phase g.0.entry ≡ p = as-place g.0.phase g.0.entry (move_stands p g.0 g.1.at).1 in
          let f : move_place g.0.phase (Context k) ≡ p = ap (move_place g.0.phase) (sym e) ∙ q in
          let l = far g.0.phase k in
          omega (arith, f, l)

      same-move : (x : DataMove) → move_at p ≡ Some x → g.0.entry ≡ x.entry
      same-move x a = let s : Some g.0 ≡ Some x = sym g.1.at ∙ a in let t : g.0 ≡ x = cc in ap (λ (i : DataMove). i.entry) t

-- ---- the block

begins-low : (d : Direction) (n : ℕ) → beginning d n ≤ 0x3C8
begins-low direction.In n = omega arith
begins-low direction.Out n = omega arith
begins-low direction.None n = omega arith

block-repaired : (w n : ℕ → ℕ) (s : Stage) (f : Fixed) (target dsp left : ℕ) (z : DataMove) → f.begins ≤ 0x3C8 → dsp ≡ move_place z.phase z.entry + 8 → 0 < left → IsRepairable w f.block left z.entry
    → Names w f.block (way f) (goal f) (move_place z.phase z.entry) z → IsRepaired w n f.block dsp left z → IsBlock w s f target → IsBlock n s f target
block-repaired w n s f target dsp left z low hd some hr g r h =
    let b = f.block in
    let o = repair-other w n b dsp left z r in
    let e0 = o (b + 0x00) (omega arith) (omega arith) in
    let e1 = o (b + 0x04) (omega arith) (omega arith) in
    let e4 = o (b + 0x1C) (omega arith) (omega arith) in
    let q : move_at (dsp - 8) ≡ Some z = (let e : dsp - 8 ≡ move_place z.phase z.entry = omega arith in ap move_at e ∙ g.at) in
    record {
      start = subst (IsStart s) (sym e0) h.start;
      restart = elim h.restart [ inl k ↦ inl (e1 ∙ k) | inr k ↦ inr (e1 ∙ k) ];
      last = last-repaired w n b dsp left z r (way f) (goal f) hd some hr.count g;
      saved = saved-repaired w n b dsp left z r (way f) (goal f) hr.count h.saved;
      begins = λ e. begins-repaired w n b dsp left z r (way f) (goal f) f.begins low (h.begins e);
      sel = o (b + 0x18) (omega arith) (omega arith) ∙ h.sel;
      gate = elim h.gate [ inl k ↦ inl (e4 ∙ k) | inr k ↦ inr (e4 ∙ k) ];
      message = (o (b + 0x20) (omega arith) (omega arith) ∙ h.message.0, o (b + 0x24) (omega arith) (omega arith) ∙ h.message.1);
      command = (subst (λ (i : ℕ). i ≤ 12) (sym (o (b + 0x28) (omega arith) (omega arith))) h.command.0, o (b + 0x2C) (omega arith) (omega arith) ∙ h.command.1);
      status = (o (b + 0x30) (omega arith) (omega arith) ∙ h.status.0, o (b + 0x34) (omega arith) (omega arith) ∙ h.status.1);
      returns = repaired-returns w n b dsp left z (omega arith) q hr r;
    }

-- ---- memory after the repair

move-low : (phase : DataPhase) (e : Entry) → IsEntry e → move_place phase e + 8 < 0x1000
move-low In (Segment j) h = omega arith
move-low In (Context k) h = omega arith
move-low Out (Segment j) h = omega arith
move-low Out (Context k) h = omega arith

return-fits : (m : List ℕ) (b dsp : ℕ) (e : Entry) → IsBytes m → dsp < 2 ^ 32 → return_of (word_at m) b dsp e < 2 ^ 32
return-fits m b dsp (Segment j) h d = d
return-fits m b dsp (Context k) h d = word_at-below m (b + offset (CtxReturn k)) h

module _ (m : List ℕ) (b dsp left : ℕ) (z : DataMove) (size : length m ≡ 0x400000) (place : IsBlockPlace b) (bytes : IsBytes m) (fits : dsp < 2 ^ 32) (most : left ≤ count_of (word_at m) b z.entry) (within : address_of (word_at m) b z.entry + count_of (word_at m) b z.entry ≤ 0x400000) where
  -- either only LASTP is written, or a context and LASTP
  as-again : nat_eq left (count_of (word_at m) b z.entry) ≡ true → repaired m b dsp left z ≡ put_word m (b + offset Lastp) (dsp - 8)
  as-again e = ap (λ (x : Bool). if x then put_word m (b + offset Lastp) (dsp - 8) else with_rest m b dsp left z (free_context (field_of m b Savep))) e

  as-rest : nat_eq left (count_of (word_at m) b z.entry) ≡ false → repaired m b dsp left z ≡ with_rest m b dsp left z (free_context (field_of m b Savep))
  as-rest e = ap (λ (x : Bool). if x then put_word m (b + offset Lastp) (dsp - 8) else with_rest m b dsp left z (free_context (field_of m b Savep))) e

  by-test : (P : List ℕ → Type 0) → (left ≡ count_of (word_at m) b z.entry → P (put_word m (b + offset Lastp) (dsp - 8))) → (left < count_of (word_at m) b z.entry → P (with_rest m b dsp left z (free_context (field_of m b Savep)))) → (x : Bool) → nat_eq left (count_of (word_at m) b z.entry) ≡ x
      → P (repaired m b dsp left z)
  by-test P f g true e = subst P (sym (as-again e)) (f (grind (arith, nat_tests)))
  by-test P f g false e = subst P (sym (as-rest e)) (g (grind (arith, nat_tests)))

  pub repaired-is : IsRepaired (word_at m) (word_at (repaired m b dsp left z)) b dsp left z
  repaired-is = by-test (λ (n : List ℕ). IsRepaired (word_at m) (word_at n) b dsp left z)
      (λ e. again-repaired m (put_word m (b + offset Lastp) (dsp - 8)) b dsp left z size place fits e refl)
      (λ l. rest-repaired m (with_rest m b dsp left z (free_context (field_of m b Savep))) b dsp left (free_context (field_of m b Savep)) (address_of (word_at m) b z.entry + (count_of (word_at m) b z.entry - left)) (return_of (word_at m) b dsp z.entry) z
      size place (omega (arith, most)) (omega (arith, within)) (return-fits m b dsp z.entry bytes fits) l refl refl refl refl)
      (nat_eq left (count_of (word_at m) b z.entry)) refl

  pub repaired-size : length (repaired m b dsp left z) ≡ length m
  repaired-size = by-test (λ (n : List ℕ). length n ≡ length m)
      (λ e. length-put_word m (b + offset Lastp) (dsp - 8))
      (λ l. length-put_word _ _ _ ∙ length-put_word _ _ _ ∙ length-put_word _ _ _ ∙ length-put_word _ _ _)
      (nat_eq left (count_of (word_at m) b z.entry)) refl

  pub repaired-bytes : IsBytes (repaired m b dsp left z)
  repaired-bytes = by-test IsBytes
      (λ e. bytes-put_word m (b + offset Lastp) (dsp - 8) bytes)
      (λ l. bytes-put_word _ _ _ (bytes-put_word _ _ _ (bytes-put_word _ _ _ (bytes-put_word _ _ _ bytes))))
      (nat_eq left (count_of (word_at m) b z.entry)) refl

-- ---- Fix

module _ (version : ℕ) (units : List RigUnit) (t : ℕ) (x : DataMove) (left : ℕ) (c : Counts) (w : World) (h : Holds version units (Mismatched t x left) c w) where
  alive : IsLive ((tickets_of w.desk).stage t)
  alive = active-live ((tickets_of w.desk).stage t) h.works.plays.begun.stage

  off : BrokenOff (word_at w.memory) (block_of (tickets_of w.desk) t) x left w.regs
  off = h.stays.3

  repairable : IsRepairable (word_at w.memory) (block_of (tickets_of w.desk) t) left x.entry
  repairable = record { count = off.most; ends = omega (arith, off.within); returns = (h.parts.blocks t alive).returns }

  -- the instruction before DSP is the move
  pub moved : move_at (w.regs.dsp - 8) ≡ Some x
  moved = let e : w.regs.dsp - 8 ≡ move_place x.phase x.entry = omega (arith, off.dsp) in ap move_at e ∙ h.works.extra.at

  -- it can be repaired
  pub can : CanFix w
  can =
      let place : IsBlockPlace w.regs.dsa = subst IsBlockPlace (sym off.dsa) (place_of_command (block_of (tickets_of w.desk) t) (h.tickets.block t alive)) in
      record {
        place = place;
        behind = omega (arith, off.dsp);
        moved = ap is_some moved;
        entry = λ y e. (
            let s : Some x ≡ Some y = sym moved ∙ e in
            let q : x ≡ y = cc in
            subst (λ (i : ℕ). IsRepairable (word_at w.memory) i w.regs.dbc y.entry) (sym off.dsa)
            (subst (λ (i : ℕ). IsRepairable (word_at w.memory) (block_of (tickets_of w.desk) t) i y.entry) (sym off.dbc)
            (subst (λ (i : DataMove). IsRepairable (word_at w.memory) (block_of (tickets_of w.desk) t) left i.entry) q repairable))
            );
      }

  fixes : Holds version units (Repaired t) c (fixed w x)
  fixes =
      let ts = tickets_of w.desk in
      let b = block_of ts t in
      let v = word_at w.memory in
      let place = place_of_command b (h.tickets.block t alive) in
      let low-dsp : w.regs.dsp < 2 ^ 32 = (let l = move-low x.phase x.entry off.entry in omega (arith, off.dsp, l)) in
      let m = repaired w.memory b w.regs.dsp left x in
      let n = word_at m in
      let r = repaired-is w.memory b w.regs.dsp left x h.size place h.bytes low-dsp off.most off.within in
      let o = repair-other v n b w.regs.dsp left x r in
      let few_units = few version units (Mismatched t x left) c w t h in
      let state : field n b State ≡ field v b State = o (b + 0x10) (omega arith) (omega arith) in
      let gate : field n b Gate ≡ field v b Gate = o (b + 0x1C) (omega arith) (omega arith) in
      let change : BlockChanges version v n ts c None few_units t = record {
        live = alive;
        outside = λ i q. o i (omega arith) (omega arith);
        block = block-repaired v n (ts.stage t) (ts.fixed t) (target_of ts t) w.regs.dsp left x (begins-low (ticket w.desk t).direction (length (ticket w.desk t).pieces)) off.dsp off.some repairable h.works.extra r (h.parts.blocks t alive);
        state = inl state;
        answered = λ q. inl (sym state ∙ q);
        fresh = λ q. state ∙ h.parts.fresh t q;
        gate = λ k q. (inl (sym gate ∙ q), state);
      } in
      let low = low-same version v n ts c None few_units h.tickets t change in
      let made : HoldsFor version units (Repaired t) c (record w { memory = m; stop = stop.Clear; resume = Some 0x90 }) ts = record {
        size = repaired-size w.memory b w.regs.dsp left x h.size place h.bytes low-dsp off.most off.within ∙ h.size;
        bytes = repaired-bytes w.memory b w.regs.dsp left x h.size place h.bytes low-dsp off.most off.within;
        units_are = h.units_are;
        few_units = h.few_units;
        version_is = h.version_is;
        tickets = h.tickets;
        checked = h.checked;
        put = h.put;
        take = h.take;
        parts = parts-block version v n ts c None few_units h.tickets t change h.parts;
        tags = tags-frame v n ts h.tickets few_units (λ i p q. low i (omega arith)) h.tags;
        donep = record { before = h.donep.before; entered = h.donep.entered; is = low 0x1008 (omega arith) ∙ h.donep.is };
        works = record { plays = may-work version v n ts c None few_units t state (λ i p q. low i (omega arith)) (low 0x1000 (omega arith)) h.works.plays; extra = tt };
        stays = (refl, refl, h.stays.2, off.dsa);
        linked = h.linked;
      } in
      subst (λ (i : ℕ). HoldsFor version units (Repaired t) c (record w { memory = repaired w.memory i w.regs.dsp w.regs.dbc x; stop = stop.Clear; resume = Some 0x90 }) ts) (sym off.dsa)
      (subst (λ (i : ℕ). HoldsFor version units (Repaired t) c (record w { memory = repaired w.memory b w.regs.dsp i x; stop = stop.Clear; resume = Some 0x90 }) ts) (sym off.dbc) made)

not-mismatch : {R : Type 0} (at other : Stop) → at ≡ stop.Mismatch → at ≡ other → (other ≡ stop.Mismatch → ⊥) → R
not-mismatch at other e f differs = absurd (differs (sym f ∙ e))

pub fix_holds : FixHolds
fix_holds version units (Mismatched t x left) c w new k (inl r) h =
    let s : Some x ≡ Some r.move = sym (moved version units t x left c w h) ∙ r.is in
    let q : x ≡ r.move = cc in
    subst (Holds version units (Repaired t) c) (ap (fixed w) q ∙ sym r.world) (fixes version units t x left c w h)
fix_holds version units (Mismatched t x left) c w new k (inr r) h = absurd (r.0 (can version units t x left c w h))
fix_holds version units NotData c w new k (inl r) h = let s : None ≡ Some r.move = sym h.stays.3 ∙ r.is in absurd cc
fix_holds version units NotData c w new k (inr r) h = subst (Holds version units Broken c) (sym r.1) (record {
  size = h.size;
  bytes = h.bytes;
  units_are = h.units_are;
  few_units = h.few_units;
  version_is = h.version_is;
  tickets = h.tickets;
  checked = h.checked;
  put = h.put;
  take = h.take;
  parts = h.parts;
  tags = h.tags;
  donep = h.donep;
  works = h.works;
  stays = (refl, h.stays.1, h.stays.2.stopped);
  linked = tt;
})
fix_holds version units (Running p) c w new k f h = not-mismatch w.stop stop.Run k h.stays.0 (λ e. absurd cc)
fix_holds version units (Repaired t) c w new k f h = not-mismatch w.stop stop.Clear k h.stays.0 (λ e. absurd cc)
fix_holds version units (TimedOut t) c w new k f h = not-mismatch w.stop stop.Clear k h.stays.0 (λ e. absurd cc)
fix_holds version units JobOver c w new k f h = not-mismatch w.stop stop.Clear k h.stays.0 (λ e. absurd cc)
fix_holds version units (ResetAt p) c w new k f h = not-mismatch w.stop stop.Clear k h.stays.0 (λ e. absurd cc)
fix_holds version units Broken c w new k f h = not-mismatch w.stop stop.MustReset k h.stays.0 (λ e. absurd cc)
