-- An abort that isn't late keeps the invariant: START becomes CANCEL and RESTART becomes ABORT.
use Rattle.std.proofs.Common.{◌≡◌, inl, inr, ℕ, ◌+◌, ◌≤◌, List, length, false, refl, sym, ap, subst, ◌∙◌, arith}
use Rattle.std.proofs.lemmas.Bool.{false≢true}
use Rattle.bench_words.specs.Memory.{word_at, put_word}
use Rattle.bench_words.specs.Bytes.{IsBytes}
use Rattle.bench_words.proofs.Bytes.{bytes-put_word}
use Rattle.bench_words.proofs.MemoryLaws.{length-put_word}
use Rattle.rig_types.specs.declared.rig.Unit.{Unit as RigUnit}
use Rattle.cmd_block.specs.Block.{offset}
use Rattle.cmd_block.specs.declared.Field.TheVariants.{Start, Restart, State, Gate}
use Rattle.driver_script.specs.Script.{label_of}
use Rattle.driver_script.specs.declared.labels.Name.TheVariants as label
use Rattle.phase_fix.specs.Remain.{field}
use Rattle.abort_reset.specs.Patches.{Marked, marked}
use Rattle.abort_reset.proofs.PatchLaws.{marked_is}
use Rattle.desk_law.specs.declared.stage.Stage.{Stage}
use Rattle.desk_law.specs.declared.stage.Stage.TheVariants as stage
use Rattle.desk_law.specs.Desk.{ticket}
use Rattle.world_law.specs.World.{World}
use Rattle.world_law.specs.Acts.{is_late}
use Rattle.word_owners.specs.Tickets.{Fixed, tickets_of, target_of, goal, way, IsLive}
use Rattle.word_owners.specs.Pointers.{IsPointer}
use Rattle.word_owners.specs.Parts.{Counts, IsStart, IsBlock}
use Rattle.word_owners.specs.Holds.{Spot, Holds, closing_at, work_at}
use Rattle.word_owners.specs.Laws.{MarkHolds}
use Rattle.word_owners.proofs.Frames.{same_or, block-with}
use Rattle.word_owners.proofs.WriteFrames.{BlockChanges, Untouched, low-same, parts-block, work-block, entries-block, tags-frame}
use Rattle.word_owners.proofs.ChipPlace.{Patch, patched, entries-at, unasked-same}
use Rattle.word_owners.proofs.Patches.{few}

-- a stage that isn't late has CANCEL among its STARTs
starts-cancelled : (s : Stage) (v : ℕ) → is_late s ≡ false → v ≡ label_of label.Cancel → IsStart s v
starts-cancelled stage.Built v l e = inr e
starts-cancelled stage.Linked v l e = inr e
starts-cancelled stage.Queued v l e = inr e
starts-cancelled stage.Again v l e = inr e
starts-cancelled stage.Check v l e = absurd (false≢true (sym l))
starts-cancelled stage.Sensing v l e = absurd (false≢true (sym l))
starts-cancelled (stage.Ended o) v l e = absurd (false≢true (sym l))
starts-cancelled stage.Unlinked v l e = absurd (false≢true (sym l))
starts-cancelled stage.Freed v l e = absurd (false≢true (sym l))

block-marked : (w n : ℕ → ℕ) (s : Stage) (f : Fixed) (target : ℕ) → is_late s ≡ false → Marked w n f.block → IsBlock w s f target → IsBlock n s f target
block-marked w n s f target l m h =
    let b = f.block in
    let e2 = m.other (b + 0x08) (omega arith) (omega arith) in
    let e3 = m.other (b + 0x0C) (omega arith) (omega arith) in
    let e4 = m.other (b + 0x1C) (omega arith) (omega arith) in
    block-with w n s f target (starts-cancelled s (field n b Start) l m.start) (inr m.restart)
    (subst (IsPointer w b (way f) (goal f)) (sym e2) h.last)
    (subst (IsPointer w b (way f) (goal f)) (sym e3) h.saved)
    (elim h.gate [ inl k ↦ inl (e4 ∙ k) | inr k ↦ inr (e4 ∙ k) ])
    (λ x i j. m.other x (omega arith) (omega arith)) (λ x i j. m.other x (omega arith) (omega arith)) h

-- a write within the block of a ticket, which leaves the stages
pub block-patch : (version : ℕ) (units : List RigUnit) (s : Spot) (c : Counts) (w : World) (t : ℕ) → (h : Holds version units s c w) → (few_units : length (tickets_of w.desk).units ≤ 16) (m : List ℕ)
    → (b : BlockChanges version (word_at w.memory) (word_at m) (tickets_of w.desk) c (closing_at s) few_units t)
    → Untouched version (word_at w.memory) (word_at m) (tickets_of w.desk) c (closing_at s) few_units h.tickets t b (work_at s)
    → (field (word_at w.memory) (ticket w.desk t).block Gate ≡ 0x1C0 → field (word_at m) (ticket w.desk t).block Gate ≡ 0x1C0)
    → length m ≡ length w.memory → IsBytes m → Patch version s c c w m w.desk (tickets_of w.desk).stage
block-patch version units s c w t h few_units m b f g size bytes =
    let ts = tickets_of w.desk in
    let v = word_at w.memory in
    let n = word_at m in
    let o = closing_at s in
    let low = low-same version v n ts c o few_units h.tickets t b in
    record {
      size = size;
      bytes = bytes;
      version_is = h.version_is;
      checked = h.checked;
      put = h.put;
      take = h.take;
      tickets = h.tickets;
      parts = parts-block version v n ts c o few_units h.tickets t b h.parts;
      tags = tags-frame v n ts h.tickets few_units (λ x i j. low x (omega arith)) h.tags;
      donep = low 0x1008 (omega arith);
      works = work-block version v n ts c o few_units h.tickets t b (work_at s) f g h.works;
      entries = entries-at s v n ts (unasked-same v n (low 0x1000 (omega arith))) (λ u e. entries-block version v n ts c o few_units h.tickets t b (work_at s) f h.works u e);
    }

pub mark_holds : MarkHolds
mark_holds version units s c w t h late =
    let d = w.desk in
    let ts = tickets_of d in
    let b = (ticket d t).block in
    let live : IsLive (ticket d t).stage = λ e. false≢true (sym late ∙ ap is_late e) in
    let place = h.tickets.block t live in
    let k = marked_is w.memory b h.size place in
    let m = marked w.memory b in
    let v = word_at w.memory in
    let n = word_at m in
    let first = put_word w.memory (b + offset Start) (label_of label.Cancel) in
    let few_units = few version units s c w t h in
    let state : field n b State ≡ field v b State = k.other (b + 0x10) (omega arith) (omega arith) in
    let gate : field n b Gate ≡ field v b Gate = k.other (b + 0x1C) (omega arith) (omega arith) in
    let change : BlockChanges version v n ts c (closing_at s) few_units t = record {
      live = live;
      outside = λ x o. k.other x (omega arith) (omega arith);
      block = block-marked v n (ticket d t).stage (ts.fixed t) (target_of ts t) late k (h.parts.blocks t live);
      state = inl state;
      answered = λ e. inl (sym state ∙ e);
      fresh = λ f. state ∙ h.parts.fresh t f;
      gate = λ k e. (inl (sym gate ∙ e), state);
    } in
    let free = block-patch version units s c w t h few_units m change
    (λ u e. elim (same_or u t) [
      | inl z ↦ inr (z, state, λ x i j. k.other x (omega arith) (omega arith))
      | inr z ↦ inl z
    ])
    (λ e. gate ∙ e)
    (length-put_word first (b + offset Restart) (label_of label.Abort) ∙ length-put_word w.memory (b + offset Start) (label_of label.Cancel))
    (bytes-put_word first (b + offset Restart) (label_of label.Abort) (bytes-put_word w.memory (b + offset Start) (label_of label.Cancel) h.bytes)) in
    patched version units s c c.queued c.taken w m d ts.stage h free refl
