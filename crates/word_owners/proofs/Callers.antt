-- Each step keeps the callers' counts of due signals and the submitters of live tickets.
use Rattle.std.proofs.Common.{arith, ◌≡◌, ◌≢◌, ◌⊎◌, inl, inr, ℕ, ◌<◌, ◌==◌, ◌||◌, Bool, true, false, List, [], ◌∷◌, ◌++◌, length, Option, Some, None, refl, sym, ap, subst, ◌∙◌, get_or, set, get_or-set_same, get_or-set_other}
use Rattle.std.specs.Prelude.{slice_get}
use Rattle.std.proofs.lemmas.Bool.{and_parts, cases_lt}
use Rattle.std.proofs.lemmas.List.{get_or_past, length-set}
use Rattle.rig_types.specs.declared.acts.Act.{Act}
use Rattle.rig_types.specs.declared.acts.ActKind.{ActKind}
use Rattle.rig_types.specs.declared.acts.ActKind.TheVariants.{Abort, Device, Bus}
use Rattle.rig_types.specs.declared.commands.Command.{Command}
use Rattle.rig_types.specs.declared.step.Line.{Line}
use Rattle.rig_types.specs.declared.step.Step.TheVariants as step
use Rattle.unit_law.specs.Request.{plain}
use Rattle.host_map.specs.declared.TheConstants.{FRONT_IDLE}
use Rattle.desk_law.specs.declared.refused.Refused.{Refused}
use Rattle.desk_law.specs.declared.stage.Stage.TheVariants as stage
use Rattle.desk_law.specs.declared.ticket.Ticket.{Ticket}
use Rattle.desk_law.specs.Building.{new_ticket}
use Rattle.desk_law.specs.Desk.{DeskState, ticket, no_ticket, lives}
use Rattle.desk_law.specs.Rings.{done_ticket}
use Rattle.desk_law.specs.Taking.{taken, taken_by, is_again, is_check}
use Rattle.desk_law.specs.Desk.{is_sensing, is_queued}
use Rattle.world_law.specs.Acts.{ActsOf, acts_by, aborts, marks, device_resets, bus_resets, is_late}
use Rattle.world_law.specs.Builds.{BuildsBy, BuildsOf, refuses, is_tried_again}
use Rattle.world_law.specs.Steps.{TakesOf}
use Rattle.world_law.specs.Stops.{is_done_by}
use Rattle.world_law.specs.World.{BenchSetting, World, commands_of, command_at, decided, front}
use Rattle.world_law.specs.declared.reply.Decided.{Decided}
use Rattle.world_law.specs.declared.reply.Decided.TheVariants as line
use Rattle.world_law.specs.declared.reply.Reply.{Reply}
use Rattle.world_law.specs.declared.reply.Reply.TheVariants as reply
use Rattle.world_law.specs.declared.reply.Stop.{Stop}
use Rattle.world_law.specs.declared.reply.Stop.TheVariants as stop
use Rattle.word_owners.specs.Callers.{HasCallers, CallersKept}
use Rattle.word_owners.proofs.KeptDesks.{is-within, alive-at, active-lives, ended-lives, queue-lives, swept-lives}
use Rattle.word_owners.proofs.Spaces.{ticket-built}

module _ (n : ℕ) (old new : DeskState) (h : HasCallers n old) where
  -- no ticket turns
  same : new.tickets ≡ old.tickets → new.submitters ≡ old.submitters → length new.due ≡ length old.due → HasCallers n new
  same tickets submitters due =
      let at : (u : ℕ) → ticket new u ≡ ticket old u = λ u. ap (λ (ts : List Ticket). get_or ts u no_ticket) tickets in
      record {
        are = submitters ∙ h.are;
        counted = due ∙ h.counted;
        submitter = λ u l. subst (λ (k : Ticket). k.line.submitter < n) (sym (at u)) (h.submitter u (sym (ap lives (at u)) ∙ l));
      }

  -- a live ticket turns, and keeps its line
  module _ (t : ℕ) (k : Ticket) (tickets : new.tickets ≡ set old.tickets t k) (alive : lives (ticket old t) ≡ true) (line-is : k.line.submitter ≡ (ticket old t).line.submitter) where
    inside : t < length old.tickets
    inside = is-within old.tickets t alive (cases_lt t (length old.tickets))

    here : ticket new t ≡ k
    here = ap (λ (ts : List Ticket). get_or ts t no_ticket) tickets ∙ get_or-set_same old.tickets t k no_ticket inside

    other : (u : ℕ) → u ≢ t → ticket new u ≡ ticket old u
    other u ne = ap (λ (ts : List Ticket). get_or ts u no_ticket) tickets ∙ get_or-set_other old.tickets t u k no_ticket ne

    same_or : (u : ℕ) → (u ≡ t) ⊎ (u ≢ t)
    same_or u = grind arith

    turned : new.submitters ≡ old.submitters → length new.due ≡ length old.due → HasCallers n new
    turned submitters due = record {
      are = submitters ∙ h.are;
      counted = due ∙ h.counted;
      submitter = λ u l. elim (same_or u) [
        | inl e ↦
            let x = h.submitter t alive in
            let y : (ticket new u).line.submitter ≡ (ticket old t).line.submitter = ap (λ (i : ℕ). (ticket new i).line.submitter) e ∙ ap (λ (v : Ticket). v.line.submitter) here ∙ line-is in
            omega (arith, x, y)
        | inr e ↦ subst (λ (v : Ticket). v.line.submitter < n) (sym (other u e)) (h.submitter u (sym (ap lives (other u e)) ∙ l))
      ];
    }

  -- a ticket of a submitter is built
  built : (k : Ticket) → new.tickets ≡ old.tickets ++ k ∷ [] → new.submitters ≡ old.submitters → new.due ≡ old.due → k.line.submitter < n → HasCallers n new
  built k tickets submitters due mine = record {
    are = submitters ∙ h.are;
    counted = ap (λ (ns : List ℕ). length ns) due ∙ h.counted;
    submitter = λ u l.
        let e : ticket new u ≡ get_or (old.tickets ++ k ∷ []) u no_ticket = ap (λ (ts : List Ticket). get_or ts u no_ticket) tickets in
        elim (ticket-built old.tickets k u) [
          | inl x ↦ let z = e ∙ x.1 in subst (λ (v : Ticket). v.line.submitter < n) (sym z) (h.submitter u (sym (ap lives z) ∙ l))
          | inr (inl x) ↦ subst (λ (v : Ticket). v.line.submitter < n) (sym (e ∙ x.1)) mine
          | inr (inr x) ↦ (let z : true ≡ false = sym l ∙ ap lives (e ∙ x) in absurd cc)
        ];
  }

-- ---- each step

module _ (n : ℕ) where
  kept-world : (new made : World) → new ≡ made → HasCallers n made.desk → HasCallers n new.desk
  kept-world new made e h = subst (λ (x : World). HasCallers n x.desk) (sym e) h

  taken-line : (sensing again check : Bool) (m : List ℕ) (k : Ticket) → (taken_by sensing again check m k).line.submitter ≡ k.line.submitter
  taken-line true again check m k = refl
  taken-line false true check m k = refl
  taken-line false false true m k = refl
  taken-line false false false m k = refl

  takes-kept : (o : Option ℕ) (w new : World) (answer : Reply) → is_done_by w o ≡ true → TakesOf o w answer new → HasCallers n w.desk → HasCallers n new.desk
  takes-kept None w new answer e d h = absurd d
  takes-kept (Some t) w new answer e d h =
      let k = ticket w.desk t in
      let alive = active-lives k k.stage refl (and_parts (is_queued k.stage || is_sensing k.stage) _ e).0 in
      kept-world new _ d.1 (turned n w.desk _ h t (taken w.desk w.memory k) refl alive (taken-line (is_sensing k.stage) (is_again w.desk w.memory k) (is_check w.desk w.memory k) w.memory k) refl refl)

  marks-kept : (late : Bool) (w : World) (t : ℕ) → HasCallers n w.desk → HasCallers n (marks late w t).world.desk
  marks-kept true w t h = h
  marks-kept false w t h = h

  aborts-kept : (x : Decided) (w : World) → HasCallers n w.desk → HasCallers n (aborts w x).world.desk
  aborts-kept line.Open w h = h
  aborts-kept (line.Accepted t) w h = marks-kept (is_late (ticket w.desk t).stage) w t h
  aborts-kept (line.Refused r) w h = h

  device-kept : (idle : Bool) (w : World) (target : ℕ) → HasCallers n w.desk → HasCallers n (device_resets idle w target).world.desk
  device-kept true w target h = same n w.desk _ h refl refl (length-set _ _ _)
  device-kept false w target h = h

  bus-kept : (x : Stop) (w : World) → HasCallers n w.desk → HasCallers n (bus_resets x w).world.desk
  bus-kept stop.Run w h = h
  bus-kept stop.Mismatch w h = h
  bus-kept stop.Clear w h = h
  bus-kept stop.MustReset w h = h

  acts-kept : (k : ActKind) (w : World) → HasCallers n w.desk → HasCallers n (acts_by w k).world.desk
  acts-kept (Abort l) w h = aborts-kept (decided w l) w h
  acts-kept (Device target) w h = device-kept (front w == FRONT_IDLE) w target h
  acts-kept Bus w h = bus-kept w.stop w h

  act-kept : (o : Option Act) (w new : World) (answer : Reply) → ActsOf o w answer new → HasCallers n w.desk → HasCallers n new.desk
  act-kept None w new answer d h = absurd d
  act-kept (Some a) w new answer d h = kept-world new _ d.1 (acts-kept a.kind w h)

  refuses-kept : (again : Bool) (w : World) (l : Line) (r : Refused) → HasCallers n w.desk → HasCallers n (refuses again w l r).desk
  refuses-kept true w l r h = h
  refuses-kept false w l r h = h

  builds-by : (w new : World) (l : Line) (c : Command) (answer : Reply) → l.submitter < n → BuildsBy w l c answer new → HasCallers n w.desk → HasCallers n new.desk
  builds-by w new l c (reply.Built t) mine d h =
      built n w.desk new.desk h (new_ticket w.desk l (plain c.request) d.builds.chunks) (ap (λ (x : DeskState). x.tickets) d.builds.desk) (ap (λ (x : DeskState). x.submitters) d.builds.desk) (ap (λ (x : DeskState). x.due) d.builds.desk) mine
  builds-by w new l c (reply.Refused r) mine d h = kept-world new _ d.1 (refuses-kept (is_tried_again c.when_full r) w l r h)
  builds-by w new l c _ mine d h = absurd d

  builds-of : (o : Option Command) (w new : World) (l : Line) (answer : Reply) → l.submitter < n → BuildsOf o w l answer new → HasCallers n w.desk → HasCallers n new.desk
  builds-of None w new l answer mine d h = absurd d
  builds-of (Some c) w new l answer mine d h = builds-by w new l c answer mine d h

-- a line of the work is one of a submitter
line-mine : (g : BenchSetting) (l : Line) → l.number < length (commands_of g l.submitter) → l.submitter < length g.submitters
line-mine g l there = elim (cases_lt l.submitter (length g.submitters)) [
  | inl x ↦ x
  | inr x ↦ (let z : commands_of g l.submitter ≡ [] = get_or_past g.submitters l.submitter [] x in absurd (omega (arith, there, ap (λ (cs : List Command). length cs) z)))
]

pub callers_kept : CallersKept
callers_kept g w caller (step.Build l) answer new may d h = builds-of (length g.submitters) (command_at g l) w new l answer (line-mine g l may.there) d h
callers_kept g w caller (step.Chip word) answer new may d h = kept-world (length g.submitters) new _ d.world h
callers_kept g w caller (step.Link t) answer new may d h = kept-world (length g.submitters) new _ d.1 (turned (length g.submitters) w.desk _ h t _ refl (alive-at (ticket w.desk t) stage.Built may.0 refl) refl refl refl)
callers_kept g w caller (step.Queue t) answer new may d h = kept-world (length g.submitters) new _ d.1 (turned (length g.submitters) w.desk _ h t _ refl (queue-lives w caller (ticket w.desk t) (ticket w.desk t).stage refl may) refl refl (length-set _ _ _))
callers_kept g w caller step.Signal answer new may d h = kept-world (length g.submitters) new _ d.1 (same (length g.submitters) w.desk _ h refl refl (length-set _ _ _))
callers_kept g w caller step.Fix answer new may d h = elim d.1 [ inl r ↦ kept-world (length g.submitters) new _ r.world h | inr r ↦ kept-world (length g.submitters) new _ r.1 h ]
callers_kept g w caller (step.Sweep t) answer new may d h = kept-world (length g.submitters) new _ d.1 (turned (length g.submitters) w.desk _ h t _ refl (swept-lives w (ticket w.desk t) may.1) refl refl refl)
callers_kept g w caller step.Restart answer new may d h = kept-world (length g.submitters) new _ d.1 h
callers_kept g w caller step.TakeDone answer new may d h = takes-kept (length g.submitters) (done_ticket w.memory w.desk) w new answer may.1 d h
callers_kept g w caller (step.Unlink t) answer new may d h = kept-world (length g.submitters) new _ d.1 (turned (length g.submitters) w.desk _ h t _ refl (ended-lives (ticket w.desk t) (ticket w.desk t).stage refl may.1) refl refl refl)
callers_kept g w caller (step.Free t) answer new may d h =
    turned (length g.submitters) w.desk new.desk h t (record (ticket w.desk t) { stage = stage.Freed }) (ap (λ (x : DeskState). x.tickets) d.frees.desk) (alive-at (ticket w.desk t) stage.Unlinked may.1 refl) refl
    (ap (λ (x : DeskState). x.submitters) d.frees.desk) (ap (λ (x : DeskState). length x.due) d.frees.desk)
callers_kept g w caller (step.Act k) answer new may d h = act-kept (length g.submitters) (slice_get g.acts k) w new answer d h
callers_kept g w caller step.ResetBus answer new may d h = kept-world (length g.submitters) new _ d.1 h
callers_kept g w caller (step.Sense t) answer new may d h = kept-world (length g.submitters) new _ d.1 (turned (length g.submitters) w.desk _ h t _ refl (alive-at (ticket w.desk t) stage.Check may.2 refl) refl refl (length-set _ _ _))
