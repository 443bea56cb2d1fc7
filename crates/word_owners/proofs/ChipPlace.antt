-- Where the chip stands, after a step of the driver that leaves its registers, the stop stage and the bus.
use Rattle.std.proofs.Common.{◌≡◌, inl, inr, ℕ, ◌+◌, ◌-◌, ◌%◌, ◌≤◌, List, length, refl, sym, ap, subst, ◌∙◌, arith, Option, Some, None}
use Rattle.bench_words.specs.Memory.{word_at}
use Rattle.bench_words.specs.Bytes.{IsBytes}
use Rattle.rig_types.specs.declared.report.Report.{Report}
use Rattle.rig_types.specs.declared.rig.Unit.{Unit as RigUnit}
use Rattle.host_map.specs.declared.TheConstants.{FRONT, DONEP}
use Rattle.host_map.specs.Places.{start_slot, done_slot}
use Rattle.desk_law.specs.declared.stage.Stage.{Stage}
use Rattle.phase_fix.specs.declared.moves.DataMove.{DataMove}
use Rattle.phase_fix.specs.declared.moves.Entry.{Entry}
use Rattle.phase_fix.specs.declared.moves.Entry.TheVariants.{Segment, Context}
use Rattle.phase_fix.specs.Moves.{IsEntry, move_at}
use Rattle.chip_regs.specs.Registers.{is_stopped, cause_of}
use Rattle.chip_regs.specs.declared.registers.Cause.{Cause}
use Rattle.chip_regs.specs.declared.registers.Cause.TheVariants.{Sir, Ma, Rst, Sto}
use Rattle.phase_fix.specs.Remain.{count_of, address_of}
use Rattle.chip_regs.specs.declared.registers.Regs.{Regs}
use Rattle.bus_law.specs.Bus.{BusState}
use Rattle.desk_law.specs.Desk.{DeskState}
use Rattle.world_law.specs.declared.reply.Decided.{Decided}
use Rattle.world_law.specs.declared.reply.Reply.{Reply}
use Rattle.world_law.specs.declared.reply.Stop.{Stop}
use Rattle.world_law.specs.World.{World}
use Rattle.word_owners.specs.Tickets.{Tickets, tickets_of, AreTickets, AreChecked, block_of, target_of}
use Rattle.word_owners.specs.Points.{Point, At228, At230, about, Link, OfTicket, OfTarget, Nobody, Anyone}
use Rattle.word_owners.specs.Parts.{Counts, Parts, TagTables}
use Rattle.word_owners.specs.Works.{Works, Has, Holding, role, worker, block_by, own_block}
use Rattle.word_owners.specs.Holds.{Spot, Running, Mismatched, NotData, Fixed, TimedOut, JobOver, ResetAt, Broken, work_at, link_at, closing_at, StoppedFor, IsJobOver, BrokenOff, AtPoint, IsUnasked, Stays, Linked, HoldsFor, Holds}
use Rattle.word_owners.proofs.Frames.{Same, segments-frame, contexts-frame}
use Rattle.word_owners.proofs.StageChanges.{staged}

-- the block of the ticket at work is as before
abbrev pub SameBlock : Tickets → Tickets → Option ℕ → Type 0
SameBlock ts new o = (u : ℕ) → o ≡ Some u → block_of new u ≡ block_of ts u

block-same : (ts new : Tickets) (o : Option ℕ) → SameBlock ts new o → block_by new o ≡ block_by ts o
block-same ts new None h = refl
block-same ts new (Some u) h = h u refl

-- and so are the registers' values
point-same : (p : Point) (ts new : Tickets) (c : Counts) (r : Regs) → SameBlock ts new (worker (role (about p).work)) → AtPoint p ts c r → AtPoint p new c r
point-same p ts new c r e h =
    subst (λ (b : ℕ). Holding b c.started c.entered (about p).held r) (sym (block-same ts new (worker (role (about p).work)) e)) h

-- count and address of a data move stay with the entries of its block
entry-same : (w n : ℕ → ℕ) (b : ℕ) (e : Entry) → IsEntry e → Same w n (b + 0x40) (b + 0xE0) → (count_of n b e ≡ count_of w b e) × (address_of n b e ≡ address_of w b e)
entry-same w n b (Segment j) h o = (ap (λ (x : ℕ). x % 16777216) ((segments-frame w n b o).count j h), (segments-frame w n b o).address j h)
entry-same w n b (Context k) h o = (ap (λ (x : ℕ). x % 16777216) ((contexts-frame w n b k h o).count), (contexts-frame w n b k h o).address)

broken-same : (w n : ℕ → ℕ) (b d : ℕ) (x : DataMove) (left : ℕ) (r : Regs) → d ≡ b → Same w n (b + 0x40) (b + 0xE0) → BrokenOff w b x left r → BrokenOff n d x left r
broken-same w n b d x left r e o h =
    let s = entry-same w n b x.entry h.entry o in
    subst (λ (i : ℕ). BrokenOff n i x left r) (sym e) (record {
      dsp = h.dsp;
      dsa = h.dsa;
      dbc = h.dbc;
      entry = h.entry;
      some = h.some;
      most = subst (λ (i : ℕ). left ≤ i) (sym s.0) h.most;
      within = omega (arith, s, h.within);
    })

-- the entries of the ticket whose data move was broken off are as before, and after a reset FRONT asks for no sense
abbrev pub SameEntries : Spot → (ℕ → ℕ) → (ℕ → ℕ) → Tickets → Type 0
SameEntries (Mismatched t x left) w n ts = Same w n (block_of ts t + 0x40) (block_of ts t + 0xE0)
SameEntries (ResetAt p) w n ts = IsUnasked w → IsUnasked n
SameEntries _ w n ts = Unit {0}

pub stays-same : (q : Spot) (at : Stop) (resume : Option ℕ) (r : Regs) (w n : ℕ → ℕ) (ts new : Tickets) (c : Counts) (queued taken : ℕ) → SameBlock ts new (worker (role (work_at q)))
    → SameEntries q w n ts → Stays q at resume r w ts c → Stays q at resume r n new (record c { queued = queued; taken = taken })
stays-same (Running p) at resume r w n ts new c queued taken e s h = (h.0, h.1, h.2, h.3, point-same p ts new c r e h.4)
stays-same (Mismatched t x left) at resume r w n ts new c queued taken e s h = (h.0, h.1, h.2, broken-same w n (block_of ts t) (block_of new t) x left r (e t refl) s h.3)
stays-same NotData at resume r w n ts new c queued taken e s h = h
stays-same (Fixed t) at resume r w n ts new c queued taken e s h = (h.0, h.1, h.2, h.3 ∙ sym (e t refl))
stays-same (TimedOut t) at resume r w n ts new c queued taken e s h = (h.0, h.1, h.2, h.3 ∙ sym (e t refl), h.4)
stays-same JobOver at resume r w n ts new c queued taken e s h = h
stays-same (ResetAt p) at resume r w n ts new c queued taken e s h = (h.0, h.1, h.2, h.3, point-same p ts new c r e h.4, s h.5)
stays-same Broken at resume r w n ts new c queued taken e s h = h

-- who is connected
pub linked-same : (l : Link) (ts new : Tickets) (b : BusState) (r : Regs) → ((u : ℕ) → l ≡ OfTicket u → target_of new u ≡ target_of ts u) → Linked l ts b r → Linked l new b r
linked-same (OfTicket t) ts new b r e (inl h) = inl (h ∙ ap (λ (i : ℕ). Some i) (sym (e t refl)))
linked-same (OfTicket t) ts new b r e (inr h) = inr h
linked-same (OfTarget i) ts new b r e h = h
linked-same Nobody ts new b r e h = h
linked-same Anyone ts new b r e h = h

-- the entries of the ticket at work are as before
pub entries-at : (q : Spot) (w n : ℕ → ℕ) (ts : Tickets) → (IsUnasked w → IsUnasked n) → ((t : ℕ) → worker (role (work_at q)) ≡ Some t → Same w n (block_of ts t + 0x40) (block_of ts t + 0xE0)) → SameEntries q w n ts
entries-at (Mismatched t x left) w n ts f h = h t refl
entries-at (ResetAt p) w n ts f h = f
entries-at _ w n ts f h = tt

pub unasked-same : (w n : ℕ → ℕ) → n FRONT ≡ w FRONT → IsUnasked w → IsUnasked n
unasked-same w n e (inl h) = inl (e ∙ h)
unasked-same w n e (inr h) = inr (e ∙ h)

-- the ticket that the script is just closing is at work
closing-of : (p : Point) (t : ℕ) → (about p).closing ≡ Some t → worker (role (about p).work) ≡ Some t
closing-of (At228 u) t e = e
closing-of (At230 u) t e = e
closing-of _ t e = absurd cc

pub closing-worker : (q : Spot) (t : ℕ) → closing_at q ≡ Some t → worker (role (work_at q)) ≡ Some t
closing-worker (Running p) t e = closing-of p t e
closing-worker (ResetAt p) t e = closing-of p t e
closing-worker _ t e = absurd cc

-- ---- a step of the driver that changes memory, the stage of one ticket, and counts

pub record Patch (version : ℕ) (s : Spot) (c d : Counts) (w : World) (m : List ℕ) (desk : DeskState) (new : ℕ → Stage) : Type 0 where
  pub size : length m ≡ length w.memory
  pub bytes : IsBytes m
  pub version_is : desk.version ≡ version
  pub put : desk.put ≡ start_slot d.queued
  pub take : desk.take ≡ done_slot d.taken
  pub tickets : AreTickets (staged (tickets_of w.desk) new)
  pub checked : AreChecked desk
  pub parts : Parts version (word_at m) (staged (tickets_of w.desk) new) d (closing_at s)
  pub tags : TagTables (word_at m) (staged (tickets_of w.desk) new)
  pub donep : word_at m DONEP ≡ word_at w.memory DONEP
  pub works : Works (work_at s) (word_at m) (staged (tickets_of w.desk) new) d
  pub entries : SameEntries s (word_at w.memory) (word_at m) (tickets_of w.desk)

pub patched : (version : ℕ) (units : List RigUnit) (s : Spot) (c : Counts) (queued taken : ℕ) (w : World) (m : List ℕ) (desk : DeskState) (new : ℕ → Stage) → Holds version units s c w
    → Patch version s c (record c { queued = queued; taken = taken }) w m desk new → tickets_of desk ≡ staged (tickets_of w.desk) new
    → Holds version units s (record c { queued = queued; taken = taken }) (record w { memory = m; desk = desk })
patched version units s c queued taken w m desk new h p e =
    subst (λ (x : Tickets). HoldsFor version units s (record c { queued = queued; taken = taken }) (record w { memory = m; desk = desk }) x) (sym e) (record {
      size = p.size ∙ h.size;
      bytes = p.bytes;
      units_are = h.units_are;
      few_units = h.few_units;
      version_is = p.version_is;
      tickets = p.tickets;
      checked = p.checked;
      put = p.put;
      take = p.take;
      parts = p.parts;
      tags = p.tags;
      donep = record { before = h.donep.before; entered = h.donep.entered; is = p.donep ∙ h.donep.is };
      works = p.works;
      stays = stays-same s w.stop w.resume w.regs (word_at w.memory) (word_at m) (tickets_of w.desk) (staged (tickets_of w.desk) new) c queued taken (λ u i. refl) p.entries h.stays;
      linked = linked-same (link_at s) (tickets_of w.desk) (staged (tickets_of w.desk) new) w.bus w.regs (λ u i. refl) h.linked;
    })

-- ---- a step of the driver that changes only bits of the registers of which the invariant doesn't speak

pub record SameRegs (r n : Regs) : Type 0 where
  pub stopped : is_stopped n ≡ is_stopped r
  pub cause : cause_of n ≡ cause_of r
  pub dsp : n.dsp ≡ r.dsp
  pub dsa : n.dsa ≡ r.dsa
  pub temp : n.temp ≡ r.temp
  pub scratcha : n.scratcha ≡ r.scratcha
  pub scratchb : n.scratchb ≡ r.scratchb
  pub ssid : n.ssid ≡ r.ssid
  pub sfbr : n.sfbr ≡ r.sfbr
  pub dbc : n.dbc ≡ r.dbc
  pub con : n.con ≡ r.con

module _ (r n : Regs) (e : SameRegs r n) where
  point-regs : (p : Point) (ts : Tickets) (c : Counts) → AtPoint p ts c r → AtPoint p ts c n
  point-regs p ts c h =
      let b = own_block ts (about p).work in
      record {
        dsa = subst (Has b c.started c.entered (about p).held.dsa) (sym e.dsa) h.dsa;
        temp = subst (Has b c.started c.entered (about p).held.temp) (sym e.temp) h.temp;
        scratcha = subst (Has b c.started c.entered (about p).held.scratcha) (sym e.scratcha) h.scratcha;
        scratchb = subst (Has b c.started c.entered (about p).held.scratchb) (sym e.scratchb) h.scratchb;
        ssid = subst (Has b c.started c.entered (about p).held.ssid) (sym e.ssid) h.ssid;
        sfbr = subst (Has b c.started c.entered (about p).held.sfbr) (sym e.sfbr) h.sfbr;
      }

  stopped-regs : (cause : Cause) → StoppedFor cause r → StoppedFor cause n
  stopped-regs cause h = record { stopped = e.stopped ∙ h.stopped; is = e.cause ∙ h.is }

  job-regs : (cause : Cause) → IsJobOver cause r → IsJobOver cause n
  job-regs Sto h = e.dsa ∙ h
  job-regs (Sir v) h = h
  job-regs _ h = absurd h

  stays-regs : (q : Spot) (at : Stop) (resume : Option ℕ) (w : ℕ → ℕ) (ts : Tickets) (c : Counts) → Stays q at resume r w ts c → Stays q at resume n w ts c
  stays-regs (Running p) at resume w ts c h = (h.0, h.1, e.stopped ∙ h.2, e.dsp ∙ h.3, point-regs p ts c h.4)
  stays-regs (Mismatched t x left) at resume w ts c h =
      (h.0, h.1, stopped-regs Ma h.2, record { dsp = e.dsp ∙ h.3.dsp; dsa = e.dsa ∙ h.3.dsa; dbc = e.dbc ∙ h.3.dbc; entry = h.3.entry; some = h.3.some; most = h.3.most; within = h.3.within })
  stays-regs NotData at resume w ts c h = (h.0, h.1, stopped-regs Ma h.2, ap (λ (i : ℕ). move_at (i - 8)) e.dsp ∙ h.3)
  stays-regs (Fixed t) at resume w ts c h = (h.0, h.1, stopped-regs Ma h.2, e.dsa ∙ h.3)
  stays-regs (TimedOut t) at resume w ts c h = (h.0, h.1, stopped-regs Sto h.2, e.dsa ∙ h.3, e.scratchb ∙ h.4)
  stays-regs JobOver at resume w ts c h = (h.0, h.1, (h.2.0, stopped-regs h.2.0 h.2.1, job-regs h.2.0 h.2.2))
  stays-regs (ResetAt p) at resume w ts c h = (h.0, h.1, stopped-regs Rst h.2, h.3, point-regs p ts c h.4, h.5)
  stays-regs Broken at resume w ts c h = (h.0, h.1, e.stopped ∙ h.2)

  linked-regs : (l : Link) (ts : Tickets) (b : BusState) → Linked l ts b r → Linked l ts b n
  linked-regs (OfTicket t) ts b h = h
  linked-regs (OfTarget i) ts b h = h
  linked-regs Nobody ts b h = (h.0, e.con ∙ h.1)
  linked-regs Anyone ts b h = h

pub quiet_holds : (version : ℕ) (units : List RigUnit) (s : Spot) (c : Counts) (w : World) (n : Regs) → Holds version units s c w → SameRegs w.regs n → Holds version units s c (record w { regs = n })
quiet_holds version units s c w n h e = record {
  size = h.size;
  bytes = h.bytes;
  units_are = h.units_are;
  few_units = h.few_units;
  version_is = h.version_is;
  tickets = h.tickets;
  checked = h.checked;
  put = h.put;
  take = h.take;
  parts = h.parts;
  tags = h.tags;
  donep = h.donep;
  works = h.works;
  stays = stays-regs w.regs n e s w.stop w.resume (word_at w.memory) (tickets_of w.desk) c h.stays;
  linked = linked-regs w.regs n e (link_at s) (tickets_of w.desk) w.bus h.linked;
}

-- lines, answers to acts and reports stand beside the invariant
pub told : (version : ℕ) (units : List RigUnit) (s : Spot) (c : Counts) (w : World) (lines : List (List Decided)) (acts : List Reply) (reports : List Report) → Holds version units s c w
    → Holds version units s c (record w { lines = lines; acts = acts; reports = reports })
told version units s c w lines acts reports h = record {
  size = h.size;
  bytes = h.bytes;
  units_are = h.units_are;
  few_units = h.few_units;
  version_is = h.version_is;
  tickets = h.tickets;
  checked = h.checked;
  put = h.put;
  take = h.take;
  parts = h.parts;
  tags = h.tags;
  donep = h.donep;
  works = h.works;
  stays = h.stays;
  linked = h.linked;
}
