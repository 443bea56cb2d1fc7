-- Free keeps the invariant: the ticket lives no more, and its block's GATE is BADTASK.
use Rattle.std.proofs.Common.{◌≡◌, ◌≢◌, ◌⊎◌, inl, inr, ℕ, List, [], ◌∷◌, ◌++◌, refl, sym, ap, subst, ◌∙◌, Option, Some}
use Rattle.bench_words.specs.Memory.{word_at}
use Rattle.rig_types.specs.declared.report.Report.{Report}
use Rattle.cmd_block.specs.declared.Field.TheVariants.{Gate}
use Rattle.phase_fix.specs.Remain.{field}
use Rattle.desk_law.specs.declared.stage.Stage.{Stage}
use Rattle.desk_law.specs.declared.stage.Stage.TheVariants as stage
use Rattle.desk_law.specs.declared.ticket.Ticket.{Ticket}
use Rattle.desk_law.specs.Desk.{DeskState, ticket}
use Rattle.desk_law.specs.Calls.{staged as desk_staged}
use Rattle.desk_law.specs.Reporting.{report_at}
use Rattle.world_law.specs.World.{World}
use Rattle.word_owners.specs.Tickets.{Tickets, tickets_of, block_of, target_of, is_check, IsLive, IsActive, IsBound}
use Rattle.word_owners.specs.Points.{Work}
use Rattle.word_owners.specs.Parts.{Counts, Parts, TagTables, IsEntry, IsBlock, IsFresh}
use Rattle.word_owners.specs.Works.{role, worker, Works}
use Rattle.word_owners.specs.Holds.{Holds, closing_at, work_at}
use Rattle.word_owners.specs.Laws.{FreeHolds}
use Rattle.word_owners.proofs.Frames.{same_or}
use Rattle.word_owners.proofs.StageChanges.{Turns, staged, Aside, aside, live-before, tickets-turned, start-turned, done-turned, front-turned, answered-turned, works-turned, work-kept, to-other}
use Rattle.word_owners.proofs.WriteFrames.{fresh-live}
use Rattle.word_owners.proofs.Lists.{desk-turns, desk-staged, desk-checked, same-fixed}
use Rattle.word_owners.proofs.ChipPlace.{entries-at, patched, told}
use Rattle.word_owners.proofs.Patches.{idle-worker, idle-gate}

module _ (version : ℕ) (w : ℕ → ℕ) (ts : Tickets) (c : Counts) (o : Option ℕ) (new : ℕ → Stage) (t : ℕ) (turns : Turns ts.stage new t stage.Freed) (live : IsLive (ts.stage t)) where
  -- who lives now is another ticket, and lived before
  differs : (u : ℕ) → IsLive (new u) → u ≢ t
  differs u l z = l (ap new z ∙ turns.here)

  lived : (u : ℕ) → IsLive (new u) → IsLive (ts.stage u)
  lived u l = live-before w ts new t stage.Freed turns live u l

  fresh-before : (u : ℕ) → IsFresh (new u) → IsFresh (ts.stage u)
  fresh-before u f = subst IsFresh (turns.other u (differs u (fresh-live (new u) f))) f

  parts-freed : Aside w ts c t → Parts version w ts c o → Parts version w (staged ts new) c o
  parts-freed a p = record {
    loaded = p.loaded;
    chains = p.chains;
    constants = p.constants;
    fixed = p.fixed;
    front = front-turned w ts new t stage.Freed turns c a p.front;
    ringp = p.ringp;
    start = start-turned w ts new t stage.Freed turns c a p.start;
    done = done-turned w ts new t stage.Freed turns c a p.done;
    blocks = λ u l. subst (λ (i : Stage). IsBlock w i (ts.fixed u) (target_of ts u)) (sym (turns.other u (differs u l))) (p.blocks u (lived u l));
    fresh = λ u f. p.fresh u (fresh-before u f);
    there = λ u l k. p.there u (lived u l) (answered-turned w ts new t stage.Freed turns u (differs u l) k);
    gates = λ u l k e. works-turned w ts new t stage.Freed turns c u (differs u l) (p.gates u (lived u l) k e);
  }

  tags-freed : (IsBound (ts.stage t) → ⊥) → TagTables w ts → TagTables w (staged ts new)
  tags-freed unbound h = record {
    entries = λ x y lx ly. entry-freed x y (h.entries x y lx ly);
    entered = λ u k. let ne = differs u k.live in h.entered u (subst IsBound (turns.other u ne) k);
  }
    where
      entry-freed : (x y : ℕ) → IsEntry w ts x y → IsEntry w (staged ts new) x y
      entry-freed x y (inl e) = inl e
      entry-freed x y (inr k) =
          let ne : k.0 ≢ t = λ z. unbound (subst (λ (i : ℕ). IsBound (ts.stage i)) z k.1.bound) in
          inr (k.0, record { bound = subst IsBound (sym (turns.other k.0 ne)) k.1.bound; unit_is = k.1.unit_is; tag_is = k.1.tag_is; block_is = k.1.block_is })

  -- a candidate's block is that of another ticket, or its GATE is BADTASK
  work-freed : (k : Work) → field w (block_of ts t) Gate ≡ 0x1C0 → ((u : ℕ) → worker (role k) ≡ Some u → u ≢ t) → Works k w ts c → Works k w (staged ts new) c
  work-freed k g ne h = work-kept w ts new t stage.Freed turns k c
      (λ u l. elim (same_or u t) [ inl z ↦ inr (ap (λ (i : ℕ). field w (block_of ts i) Gate) z ∙ g) | inr z ↦ inl (to-other w ts new t stage.Freed turns IsLive u z l) ]) ne h

closed : (w : ℕ → ℕ) (b : ℕ) → (field w b Gate ≡ 0x1B0) ⊎ (field w b Gate ≡ 0x1C0) → field w b Gate ≢ 0x1B0 → field w b Gate ≡ 0x1C0
closed w b (inl e) shut = absurd (shut e)
closed w b (inr e) shut = e

pub free_holds : FreeHolds
free_holds version units s c w new t answer b r h =
    let d = w.desk in
    let ts = tickets_of d in
    let v = word_at w.memory in
    let live : IsLive (ticket d t).stage = λ e. (let z : stage.Unlinked ≡ stage.Freed = sym b ∙ e in absurd cc) in
    let still : IsActive (ticket d t).stage → ⊥ = λ e. elim e [
      | inl q ↦ let z : stage.Unlinked ≡ stage.Queued = sym b ∙ q in absurd cc
      | inr q ↦ let z : stage.Unlinked ≡ stage.Sensing = sym b ∙ q in absurd cc
    ] in
    let k : Ticket = record (ticket d t) { stage = stage.Freed } in
    let turns = desk-turns d t k live in
    let desk : DeskState = record (desk_staged d t stage.Freed) { space = new.desk.space } in
    let stages = (tickets_of desk).stage in
    let o = closing_at s in
    let away = aside version v ts c o t h.tickets live still h.parts in
    let gate = closed v (ticket d t).block (h.parts.blocks t live).gate (idle-gate version units s c w t h live still) in
    let made = patched version units s c c.queued c.taken w w.memory desk stages h (record {
      size = refl;
      bytes = h.bytes;
      version_is = h.version_is;
      tickets = tickets-turned v ts stages t stage.Freed turns live (λ e. tt) h.tickets;
      checked = desk-checked d t k live (λ e. elim e [ inl i ↦ absurd cc | inr i ↦ absurd cc ]) h.checked;
      put = h.put;
      take = h.take;
      parts = parts-freed version v ts c o stages t turns live away h.parts;
      tags = tags-freed version v ts c o stages t turns live (λ x. x.still b) h.tags;
      donep = refl;
      works = work-freed version v ts c o stages t turns live (work_at s) gate (idle-worker version units s c w t h still) h.works;
      entries = entries-at s v v ts (λ e. e) (λ u e x i j. refl);
    }) (desk-staged d t k live (same-fixed (ticket d t) stage.Freed (ap is_check (sym b)))) in
    let whole : new ≡ record w { desk = desk; reports = new.reports } =
    r.world ∙ ap (λ (x : DeskState). record w { desk = x; reports = w.reports ++ report_at d w.memory t ∷ [] }) r.frees.desk
    ∙ ap (λ (x : List Report). record w { desk = desk; reports = x }) (sym (ap (λ (x : World). x.reports) r.world)) in
    subst (Holds version units s c) (sym whole) (told version units s c (record w { desk = desk }) w.lines w.acts new.reports made)
