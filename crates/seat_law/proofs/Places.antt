-- What a submitter's own steps make of where it stands.
use Rattle.std.proofs.Common.{arith, ◌≡◌, ◌≢◌, ◌<◌, ℕ, zero, suc, ◌+◌, ◌-◌, Bool, true, false, List, [], ◌∷◌, ◌++◌, length, slice_set, slice_index_or, refl, sym, ap, subst, ◌∙◌, inl, inr}
use Rattle.std.proofs.lemmas.List.{get_or-set_same, get_or-set_other}
use Rattle.bus_law.proofs.OneConnected.{same-or-not}
use Rattle.rig_types.specs.declared.step.Line.{Line}
use Rattle.rig_types.specs.declared.step.Step.{Step}
use Rattle.rig_types.specs.declared.step.Step.TheVariants as step
use Rattle.rig_types.specs.declared.commands.Command.{Command}
use Rattle.unit_law.specs.Request.{plain}
use Rattle.desk_law.specs.declared.stage.Stage.{Stage}
use Rattle.desk_law.specs.declared.stage.Stage.TheVariants as stage
use Rattle.desk_law.specs.declared.ticket.Ticket.{Ticket}
use Rattle.desk_law.specs.Desk.{DeskState, no_ticket, ticket, due, is_freed}
use Rattle.desk_law.specs.Building.{new_ticket}
use Rattle.desk_law.specs.Calls.{queue_caller}
use Rattle.world_law.specs.declared.reply.Decided.{Decided}
use Rattle.world_law.specs.declared.reply.Decided.TheVariants as line
use Rattle.world_law.specs.declared.reply.Reply.{Reply}
use Rattle.world_law.specs.World.{BenchSetting, World, lines_of}
use Rattle.world_law.specs.Lines.{is_unqueued}
use Rattle.world_law.specs.Enabling.{MayQueue, Enabled}
use Rattle.world_law.specs.Builds.{Accepts}
use Rattle.world_law.specs.Steps.{Does}
use Rattle.world_law.specs.Laws.{IsHeldBy}
use Rattle.world_law.proofs.Effects.{not-freed-within}
use Rattle.seat_law.specs.Standing.{Standing, rests, has_built, has_linked, owes, HoldsNone, HoldsOne, StandsIn, IsNext}
use Rattle.seat_law.specs.Laws.{IsMade}

abbrev at : List Ticket → ℕ → Ticket
at ks t = slice_index_or ks t no_ticket

clash : {R : Type 0} (b : Bool) → b ≡ true → b ≡ false → R
clash b p q = let e : true ≡ false = sym p ∙ q in absurd cc

-- ---- one ticket goes on

there : (ks : List Ticket) (t : ℕ) (x : Stage) → (at ks t).stage ≡ x → is_freed x ≡ false → t < length ks
there ks t x e f = not-freed-within ks t (ap (λ (k : Stage). is_freed k) e ∙ f)

-- it stays the one that is held
still-one : (kind : Stage) (s t : ℕ) (old new : World) (k : Ticket) → t < length old.desk.tickets → new.desk.tickets ≡ slice_set old.desk.tickets t k → k.stage ≡ kind → k.line.submitter ≡ s
    → ((u : ℕ) → IsHeldBy s (ticket old.desk u) → u ≡ t) → HoldsOne kind new s t
still-one kind s t old new k l e stage own only =
    let here : at new.desk.tickets t ≡ k = ap (λ (ks : List Ticket). at ks t) e ∙ get_or-set_same old.desk.tickets t k no_ticket l in
    record {
      stage_is = ap (λ (x : Ticket). x.stage) here ∙ stage;
      own = ap (λ (x : Ticket). x.line.submitter) here ∙ own;
      only = λ u held. elim (same-or-not u t) [
        | inl same ↦ same
        | inr other ↦ only u (subst (λ (x : Ticket). IsHeldBy s x) (ap (λ (ks : List Ticket). at ks u) e ∙ get_or-set_other old.desk.tickets t u k no_ticket other) held)
      ];
    }

-- it is held no more
no-more : (s t : ℕ) (old new : World) (k : Ticket) → t < length old.desk.tickets → new.desk.tickets ≡ slice_set old.desk.tickets t k → is_unqueued k.stage ≡ false
    → ((u : ℕ) → IsHeldBy s (ticket old.desk u) → u ≡ t) → HoldsNone new s
no-more s t old new k l e off only u held = elim (same-or-not u t) [
  | inl same ↦
      let here : at new.desk.tickets u ≡ k = ap (λ (n : ℕ). at new.desk.tickets n) same ∙ (ap (λ (ks : List Ticket). at ks t) e ∙ get_or-set_same old.desk.tickets t k no_ticket l) in
      clash (is_unqueued (at new.desk.tickets u).stage) held.1 (ap (λ (x : Ticket). is_unqueued x.stage) here ∙ off)
  | inr other ↦ absurd (other (only u (subst (λ (x : Ticket). IsHeldBy s x) (ap (λ (ks : List Ticket). at ks u) e ∙ get_or-set_other old.desk.tickets t u k no_ticket other) held)))
]

-- ---- Link, Queue and Signal

links : (g : BenchSetting) (s t : ℕ) (old : World) (a : Reply) (new : World) → StandsIn old s (has_built t) → Does g old s (step.Link t) a new → IsMade s (has_built t) old a new
links g s t old a new h m =
    let k : Ticket = record (ticket old.desk t) { stage = stage.Linked } in
    record {
      made = m.0;
      stands = (ap (λ (w : World). due w.desk s) m.1 ∙ h.0, still-one stage.Linked s t old new k (there old.desk.tickets t stage.Built h.1.stage_is refl) (ap (λ (w : World). w.desk.tickets) m.1) refl h.1.own h.1.only);
      lines = ap (λ (w : World). lines_of w s) m.1;
    }

queue-of : (x : Stage) (d : DeskState) (k : Ticket) → x ≡ stage.Linked → queue_caller x d k ≡ k.line.submitter
queue-of x d k e = ap (λ (y : Stage). queue_caller y d k) e

one-due : (ns : List ℕ) (by s : ℕ) → by ≡ s → s < length ns → slice_index_or ns s 0 ≡ 0 → slice_index_or (slice_set ns by (slice_index_or ns by 0 + 1)) s 0 ≡ 1
one-due ns by s e l none =
    let here : slice_index_or (slice_set ns s (slice_index_or ns s 0 + 1)) s 0 ≡ slice_index_or ns s 0 + 1 = get_or-set_same ns s (slice_index_or ns s 0 + 1) 0 l in
    ap (λ (n : ℕ). slice_index_or (slice_set ns n (slice_index_or ns n 0 + 1)) s 0) e ∙ here ∙ ap (λ (n : ℕ). n + 1) none

queues : (g : BenchSetting) (s t : ℕ) (old : World) (a : Reply) (new : World) → s < length old.desk.due → StandsIn old s (has_linked t) → Does g old s (step.Queue t) a new → IsMade s (has_linked t) old a new
queues g s t old a new l h m =
    let k : Ticket = record (ticket old.desk t) { stage = stage.Queued; tries = (ticket old.desk t).tries + 1 } in
    let by : queue_caller (ticket old.desk t).stage old.desk (ticket old.desk t) ≡ s = queue-of (ticket old.desk t).stage old.desk (ticket old.desk t) h.1.stage_is ∙ h.1.own in
    record {
      made = m.0;
      stands = (ap (λ (w : World). due w.desk s) m.1 ∙ one-due old.desk.due (queue_caller (ticket old.desk t).stage old.desk (ticket old.desk t)) s by l h.0, no-more s t old new k (there old.desk.tickets t stage.Linked h.1.stage_is refl) (ap (λ (w : World). w.desk.tickets) m.1) refl h.1.only);
      lines = ap (λ (w : World). lines_of w s) m.1;
    }

none-due : (ns : List ℕ) (s : ℕ) → s < length ns → slice_index_or ns s 0 ≡ 1 → slice_index_or (slice_set ns s (slice_index_or ns s 0 - 1)) s 0 ≡ 0
none-due ns s l one = get_or-set_same ns s (slice_index_or ns s 0 - 1) 0 l ∙ ap (λ (n : ℕ). n - 1) one

none-stays : (s : ℕ) (old new : World) → new.desk.tickets ≡ old.desk.tickets → HoldsNone old s → HoldsNone new s
none-stays s old new e h t held = h t (subst (λ (ks : List Ticket). IsHeldBy s (at ks t)) e held)

signals : (g : BenchSetting) (s : ℕ) (old : World) (a : Reply) (new : World) → s < length old.desk.due → StandsIn old s owes → Does g old s step.Signal a new → IsMade s owes old a new
signals g s old a new l h m = record {
  made = m.0;
  stands = (ap (λ (w : World). due w.desk s) m.1 ∙ none-due old.desk.due s l h.0, none-stays s old new (ap (λ (w : World). w.desk.tickets) m.1) h.1);
  lines = ap (λ (w : World). lines_of w s) m.1;
}

pub next_does : (g : BenchSetting) (s : ℕ) (p : Standing) (x : Step) (old : World) (a : Reply) (new : World) → s < length old.desk.due → StandsIn old s p → IsNext p x → Does g old s x a new → IsMade s p old a new
next_does g s rests x old a new l h e m = absurd e
next_does g s (has_built t) x old a new l h e m = links g s t old a new h (subst (λ (y : Step). Does g old s y a new) e m)
next_does g s (has_linked t) x old a new l h e m = queues g s t old a new l h (subst (λ (y : Step). Does g old s y a new) e m)
next_does g s owes x old a new l h e m = signals g s old a new l h (subst (λ (y : Step). Does g old s y a new) e m)

-- ---- the next step is enabled, and no memory is wanting for it

pub next_enabled : (g : BenchSetting) (s : ℕ) (p : Standing) (x : Step) (w : World) → StandsIn w s p → IsNext p x → Enabled g w s x
next_enabled g s rests x w h e = absurd e
next_enabled g s (has_built t) x w h e = subst (λ (y : Step). Enabled g w s y) (sym e) (h.1.stage_is, sym h.1.own)
next_enabled g s (has_linked t) x w h e =
    let may : MayQueue w s (ticket w.desk t) (ticket w.desk t).stage = subst (λ (y : Stage). MayQueue w s (ticket w.desk t) y) (sym h.1.stage_is) (sym h.1.own) in
    subst (λ (y : Step). Enabled g w s y) (sym e) may
next_enabled g s owes x w h e =
    let may : 0 < due w.desk s = omega (arith, h.0) in
    subst (λ (y : Step). Enabled g w s y) (sym e) may

-- ---- Build

last-at : (ks : List Ticket) (k : Ticket) → at (ks ++ k ∷ []) (length ks) ≡ k
last-at [] k = refl
last-at (x ∷ xs) k = last-at xs k

before-last : (ks : List Ticket) (k : Ticket) (u : ℕ) → u ≢ length ks → at (ks ++ k ∷ []) u ≡ at ks u
before-last [] k zero n = absurd (n refl)
before-last [] k (suc u) n = refl
before-last (x ∷ xs) k zero n = refl
before-last (x ∷ xs) k (suc u) n = before-last xs k u (λ e. n (ap (λ (i : ℕ). suc i) e))

pub lines-more : (lss : List (List Decided)) (s : ℕ) (x : Decided) → s < length lss → slice_index_or (slice_set lss s (slice_index_or lss s [] ++ x ∷ [])) s [] ≡ slice_index_or lss s [] ++ x ∷ []
lines-more lss s x l = get_or-set_same lss s (slice_index_or lss s [] ++ x ∷ []) [] l

pub record IsBuilt (s t : ℕ) (old new : World) : Type 0 where
  pub stands : StandsIn new s (has_built t)
  pub lines : lines_of new s ≡ lines_of old s ++ line.Accepted t ∷ []

pub builds_one : (l : Line) (c : Command) (t : ℕ) (old new : World) → l.submitter < length old.lines → StandsIn old l.submitter rests → Accepts old l (plain c.request) t new → IsBuilt l.submitter t old new
builds_one l c t old new below h m =
    let k : Ticket = new_ticket old.desk l (plain c.request) m.builds.chunks in
    let tickets : new.desk.tickets ≡ old.desk.tickets ++ k ∷ [] = ap (λ (d : DeskState). d.tickets) m.builds.desk in
    let here : at new.desk.tickets t ≡ k = ap (λ (ks : List Ticket). at ks t) tickets ∙ (ap (λ (n : ℕ). at (old.desk.tickets ++ k ∷ []) n) m.builds.numbered ∙ last-at old.desk.tickets k) in
    record {
      stands = (
        ap (λ (d : DeskState). due d l.submitter) m.builds.desk ∙ h.0,
        record {
          stage_is = ap (λ (x : Ticket). x.stage) here;
          own = ap (λ (x : Ticket). x.line.submitter) here;
          only = λ u held. elim (same-or-not u (length old.desk.tickets)) [
            | inl same ↦ same ∙ sym m.builds.numbered
            | inr other ↦ absurd (h.1 u (subst (λ (x : Ticket). IsHeldBy l.submitter x) (ap (λ (ks : List Ticket). at ks u) tickets ∙ before-last old.desk.tickets k u other) held))
          ];
        },
      );
      lines = ap (λ (w : World). lines_of w l.submitter) m.world ∙ lines-more old.lines l.submitter (line.Accepted t) below;
    }

pub rests_still : (s : ℕ) (old new : World) → new.desk ≡ old.desk → StandsIn old s rests → StandsIn new s rests
rests_still s old new e h = subst (λ (d : DeskState). (due d s ≡ 0) × ((t : ℕ) → IsHeldBy s (ticket d t) → ⊥)) (sym e) h
