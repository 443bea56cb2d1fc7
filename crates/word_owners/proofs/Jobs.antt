-- A device reset at FRONT keeps the invariant.
use Rattle.std.proofs.Common.{◌≡◌, inr, ℕ, ◌+◌, ◌*◌, ◌≤◌, length, refl, sym, subst, ◌∙◌, arith}
use Rattle.bench_words.specs.Memory.{word_at, put_word}
use Rattle.bench_words.specs.Views.{Wrote}
use Rattle.bench_words.proofs.Bytes.{bytes-put_word}
use Rattle.bench_words.proofs.MemoryLaws.{length-put_word, wrote-put_word}
use Rattle.host_map.specs.declared.TheConstants.{FRONT, JOB}
use Rattle.host_map.specs.Places.{start_slot}
use Rattle.cmd_block.specs.Block.{offset}
use Rattle.cmd_block.specs.declared.Field.TheVariants.{Sel}
use Rattle.opening_memory.specs.Laws.{HasFixedBlocks}
use Rattle.chip_regs.specs.declared.registers.Regs.{Regs}
use Rattle.bus_law.specs.Bus.{BusState}
use Rattle.bus_law.specs.Rooms.{with_room_at}
use Rattle.word_owners.specs.Tickets.{Tickets, tickets_of, block_of, AreTickets}
use Rattle.word_owners.specs.Points.{Link, OfTicket, OfTarget, Nobody, Anyone}
use Rattle.word_owners.specs.Parts.{Counts}
use Rattle.word_owners.specs.Works.{Role, Asked, role, Plays}
use Rattle.word_owners.specs.Holds.{Linked, closing_at, work_at, link_at}
use Rattle.word_owners.specs.Laws.{JobHolds}
use Rattle.word_owners.proofs.Frames.{active-live, not_starting-frame, not_entered-frame}
use Rattle.word_owners.proofs.StageChanges.{worker-active}
use Rattle.word_owners.proofs.WriteFrames.{Spares, parts-spared, tags-frame}
use Rattle.word_owners.proofs.ChipWork.{Onward, work-onward}
use Rattle.word_owners.proofs.ChipPlace.{entries-at, stays-same}
use Rattle.word_owners.proofs.FrontWrites.{parts-front, onward-front, tags-front}
use Rattle.word_owners.proofs.Patches.{few}

-- the target of the job was written
module _ (w n : ℕ → ℕ) (ts : Tickets) (v : ℕ) (d : AreTickets ts) (r : Wrote w n (JOB + offset Sel) v) where
  below : (x : ℕ) → x + 4 ≤ 0x1818 → n x ≡ w x
  below x l = r.other x (omega arith)

  above : (x : ℕ) → 0x181C ≤ x → n x ≡ w x
  above x l = r.other x (omega arith)

  fixed-job : HasFixedBlocks w → HasFixedBlocks n
  fixed-job c = record {
    idle = below 0x1200 (omega arith) ∙ c.idle;
    no_task = (below 0x1404 (omega arith) ∙ c.no_task.0, below 0x141C (omega arith) ∙ c.no_task.1);
    front_idle = below 0x1600 (omega arith) ∙ c.front_idle;
    job = below 0x1800 (omega arith) ∙ c.job;
    job_message = (above 0x1820 (omega arith) ∙ c.job_message.0, above 0x1824 (omega arith) ∙ c.job_message.1, above 0x18E0 (omega arith) ∙ c.job_message.2);
  }

  spares-job : Spares w n ts
  spares-job = record {
    script = λ x f l. below x (omega arith);
    front = below 0x1000 (omega arith);
    ringp = below 0x1004 (omega arith);
    constants = λ x f l. below x (omega arith);
    fixed = fixed-job;
    starts = λ x f l. above x (omega arith);
    dones = λ x f l. above x (omega arith);
    chains = λ x f l. above x (omega arith);
    lower = λ t k x f l. above x (omega (arith, (d.block t k).from));
    upper = λ t k x f l. above x (omega (arith, (d.block t k).from));
  }

  onward-job : (k : Role) (c : Counts) → Onward w n ts k c c
  onward-job k c = record {
    front = λ t e. below 0x1000 (omega arith);
    blocks = λ b q x f l. above x (omega (arith, q.from));
    cur = below 0x100C (omega arith);
    first = λ l. (l, above (start_slot c.started) (omega arith));
    out = λ t e i h. not_starting-frame w n c (block_of ts t) (λ x f l. above x (omega arith)) (below 0x1000 (omega arith)) h;
    entered = λ t e h. not_entered-frame w n c (block_of ts t) (λ x f l. above x (omega arith)) h;
  }

pub linked-room : (l : Link) (ts : Tickets) (b : BusState) (target : ℕ) (r : Regs) → Linked l ts b r → Linked l ts (with_room_at b target) r
linked-room (OfTicket t) ts b target r h = h
linked-room (OfTarget i) ts b target r h = h
linked-room Nobody ts b target r h = h
linked-room Anyone ts b target r h = h

pub job_holds : JobHolds
job_holds version units s c w caller target idle low h =
    let ts = tickets_of w.desk in
    let v = word_at w.memory in
    let first = put_word w.memory (JOB + offset Sel) (target * 0x10000) in
    let m = put_word first FRONT JOB in
    let n = word_at m in
    let size : length first ≡ 0x400000 = length-put_word w.memory (JOB + offset Sel) (target * 0x10000) ∙ h.size in
    let r : Wrote v (word_at first) (JOB + offset Sel) (target * 0x10000) = wrote-put_word w.memory (JOB + offset Sel) (target * 0x10000) (omega (arith, h.size)) (omega arith) in
    let q : Wrote (word_at first) n FRONT JOB = wrote-put_word first FRONT JOB (omega (arith, size)) (omega arith) in
    let few_units = few version units s c w 0 h in
    let o = closing_at s in
    let mid = word_at first in
    let unasked : (t : ℕ) → role (work_at s) ≡ Asked t → n FRONT ≡ mid FRONT = λ t e.
    let a = subst (λ (x : Role). Plays x v ts c) e h.works.plays in
    let l = (h.tickets.block t (active-live (ts.stage t) (inr a.0.stage))).from in
    absurd (omega (arith, l, sym idle ∙ a.0.is)) in
    record {
      size = length-put_word first FRONT JOB ∙ size;
      bytes = bytes-put_word first FRONT JOB (bytes-put_word w.memory (JOB + offset Sel) (target * 0x10000) h.bytes);
      units_are = h.units_are;
      few_units = h.few_units;
      version_is = h.version_is;
      tickets = h.tickets;
      checked = h.checked;
      put = h.put;
      take = h.take;
      parts = parts-front version mid n ts c o few_units h.tickets JOB q (inr refl) (parts-spared version v mid ts c o few_units (spares-job v mid ts (target * 0x10000) h.tickets r) h.parts);
      tags = tags-front version mid n ts c o few_units h.tickets JOB q (inr refl) (tags-frame v mid ts h.tickets few_units (λ x f l. r.other x (omega arith)) h.tags);
      donep = record { before = h.donep.before; entered = h.donep.entered; is = q.other 0x1008 (omega arith) ∙ r.other 0x1008 (omega arith) ∙ h.donep.is };
      works = work-onward mid n ts c c h.tickets (work_at s) (onward-front version mid n ts c o few_units h.tickets JOB q (inr refl) (role (work_at s)) unasked)
          (work-onward v mid ts c c h.tickets (work_at s) (onward-job v mid ts (target * 0x10000) h.tickets r (role (work_at s)) c) h.works);
      stays = stays-same s w.stop w.resume w.regs v n ts ts c c.queued c.taken (λ u e. refl)
          (entries-at s v n ts (λ e. inr q.same) (λ t e x f l.
          let k = (h.tickets.block t (active-live (ts.stage t) (worker-active (role (work_at s)) v ts c t e h.works.plays))).from in
          q.other x (omega (arith, k)) ∙ r.other x (omega (arith, k)))) h.stays;
      linked = linked-room (link_at s) ts w.bus target w.regs h.linked;
    }
