-- What the calls of the bus make of a target to which no task is connected.
use Rattle.std.proofs.Common.{◌≡◌, ℕ, Bool, true, false, List, [], ◌∷◌, ◌++◌, refl, ap, sym, ◌∙◌, subst, Option, Some, None, ◌⊎◌, inl, inr}
use Rattle.unit_law.specs.Log.{with_at}
use Rattle.target_law.specs.declared.moves.Move.{Move}
use Rattle.target_law.specs.declared.moves.Move.TheVariants as move
use Rattle.target_law.specs.declared.nexus.Nexus.{Nexus}
use Rattle.target_law.specs.declared.rogue_phase.RoguePhase.{RoguePhase}
use Rattle.target_law.specs.declared.rogue_phase.RoguePhase.TheVariants as rogue_shows
use Rattle.target_law.specs.RoguePhases.{rogue_chosen, rogue_byte, rogue_sent, rogue_takes, rogue_took, rogue_heard}
use Rattle.target_law.specs.Target as connection_state
use Rattle.target_law.specs.Target.{LogicalUnit, ConnectionState, BusFree, TakingCommand, TaskConnected, RogueConnected, Target, unit_at, on_unit, linked, target_reset}
use Rattle.target_law.specs.Calls.{is_rogue, selected_by, link_or_free, rogue_acted, acted_by, target_acted, asked_by, link_byte, sent_if, link_takes, is_whole, took_if, InitiatorMessage, Names, Resets, AbortsTag, Other, message_of, greeted, messaged_by, target_messaged, acked_by, target_acked}
use Rattle.std.specs.Prelude.{not}
use Rattle.target_law.specs.Bytes.{hears}
use Rattle.ticket_fate.specs.Tickets.{Plan, Ticket}
use Rattle.ticket_fate.specs.Linked.{HasRogue}
use Rattle.ticket_fate.specs.Moves.{IsIdle, MayLink, relinks}
use Rattle.ticket_link.specs.CallMoves.{CallMoves}
use Rattle.ticket_link.specs.Laws.{Relinks, IdleCallsRelink}

unchanged : (t : Target) → t ≡ linked t t.link
unchanged t = refl

module _ (g : Plan) (i : ℕ) (t : Target) where
  -- the target is as before
  stays : (l : ConnectionState) → t.link ≡ l → IsIdle l → MayLink g i l → Relinks g i t t
  stays l e idle may = (l, idle, may, unchanged t ∙ ap (linked t) e)

  by-selected : (b : Bool) → (b ≡ true → HasRogue g i) → Relinks g i t (linked t (selected_by b))
  by-selected true f = (RogueConnected rogue_shows.MessageOut None, tt, f refl, refl)
  by-selected false f = (connection_state.Selected [], tt, tt, refl)

  by-chosen : (o : Option RoguePhase) (n : Option Nexus) → HasRogue g i → Relinks g i t (linked t (link_or_free o n))
  by-chosen (Some s) n may = (RogueConnected s n, tt, may, refl)
  by-chosen None n may = (BusFree, tt, tt, refl)

  by-rogue : (m : Move) (s : RoguePhase) (n : Option Nexus) → t.link ≡ RogueConnected s n → HasRogue g i → Relinks g i t (rogue_acted t m n)
  by-rogue (move.Rogue word) s n e may = by-chosen (rogue_chosen word) n may
  by-rogue (move.Go k) s n e may = stays (RogueConnected s n) e tt may
  by-rogue move.Busy s n e may = stays (RogueConnected s n) e tt may
  by-rogue move.QueueFull s n e may = stays (RogueConnected s n) e tt may
  by-rogue move.Leave s n e may = stays (RogueConnected s n) e tt may
  by-rogue move.SaveLeave s n e may = stays (RogueConnected s n) e tt may
  by-rogue move.Save s n e may = stays (RogueConnected s n) e tt may
  by-rogue move.Restore s n e may = stays (RogueConnected s n) e tt may

  by-acted : (l : ConnectionState) (m : Move) → t.link ≡ l → IsIdle l → MayLink g i l → Relinks g i t (acted_by l t m)
  by-acted BusFree m e idle may = stays BusFree e idle may
  by-acted (connection_state.Selected heard) m e idle may = stays (connection_state.Selected heard) e idle may
  by-acted (TakingCommand n taken) m e idle may = stays (TakingCommand n taken) e idle may
  by-acted (TaskConnected c) m e idle may = absurd idle
  by-acted (RogueConnected s n) m e idle may = by-rogue m s n e may

  by-asked : (l : ConnectionState) → IsIdle l → MayLink g i l → Relinks g i t (linked t (asked_by l))
  by-asked BusFree idle may = (BusFree, tt, tt, refl)
  by-asked (connection_state.Selected heard) idle may = (connection_state.Selected heard, tt, tt, refl)
  by-asked (TakingCommand n taken) idle may = (TakingCommand n taken, tt, tt, refl)
  by-asked (TaskConnected c) idle may = absurd idle
  by-asked (RogueConnected s n) idle may = (RogueConnected s n, tt, may, refl)

  rogue-sent : (o : Option ℕ) (s : RoguePhase) (n : Option Nexus) → HasRogue g i → Relinks g i t (linked t (sent_if o (RogueConnected s n)))
  rogue-sent (Some b) s n may = (RogueConnected (rogue_sent s) n, tt, may, refl)
  rogue-sent None s n may = (RogueConnected s n, tt, may, refl)

  by-sent : (l : ConnectionState) → IsIdle l → MayLink g i l → Relinks g i t (linked t (sent_if (link_byte l) l))
  by-sent BusFree idle may = (BusFree, tt, tt, refl)
  by-sent (connection_state.Selected heard) idle may = (connection_state.Selected heard, tt, tt, refl)
  by-sent (TakingCommand n taken) idle may = (TakingCommand n taken, tt, tt, refl)
  by-sent (TaskConnected c) idle may = absurd idle
  by-sent (RogueConnected s n) idle may = rogue-sent (rogue_byte s n) s n may

  command-taken : (b : Bool) (n : Nexus) (taken : List ℕ) (x : ℕ) → Relinks g i t (linked t (took_if b (TakingCommand n taken) x))
  command-taken true n taken x = (TakingCommand n (taken ++ x ∷ []), tt, tt, refl)
  command-taken false n taken x = (TakingCommand n taken, tt, tt, refl)

  rogue-taken : (b : Bool) (s : RoguePhase) (n : Option Nexus) (x : ℕ) → HasRogue g i → Relinks g i t (linked t (took_if b (RogueConnected s n) x))
  rogue-taken true s n x may = (RogueConnected (rogue_took s x) n, tt, may, refl)
  rogue-taken false s n x may = (RogueConnected s n, tt, may, refl)

  by-taken : (l : ConnectionState) (x : ℕ) → IsIdle l → MayLink g i l → Relinks g i t (linked t (took_if (link_takes l) l x))
  by-taken BusFree x idle may = (BusFree, tt, tt, refl)
  by-taken (connection_state.Selected heard) x idle may = (connection_state.Selected (hears heard x), tt, tt, refl)
  by-taken (TakingCommand n taken) x idle may = command-taken (not (is_whole taken)) n taken x
  by-taken (TaskConnected c) x idle may = absurd idle
  by-taken (RogueConnected s n) x idle may = rogue-taken (rogue_takes s) s n x may

  named : (o : Option LogicalUnit) (n : Nexus) → Relinks g i t (on_unit o (λ u. linked t (TakingCommand n [])) (linked t BusFree))
  named (Some u) n = (TakingCommand n [], tt, tt, refl)
  named None n = (BusFree, tt, tt, refl)

  by-message : (m : InitiatorMessage) → Relinks g i t (greeted t m) ⊎ (greeted t m ≡ target_reset t)
  by-message (Names n) = inl (named (unit_at t.units n.lun) n)
  by-message Resets = inr refl
  by-message AbortsTag = inl (BusFree, tt, tt, refl)
  by-message Other = inl (BusFree, tt, tt, refl)

  by-messaged : (l : ConnectionState) → t.link ≡ l → IsIdle l → MayLink g i l → Relinks g i t (messaged_by l t) ⊎ (messaged_by l t ≡ target_reset t)
  by-messaged BusFree e idle may = inl (stays BusFree e idle may)
  by-messaged (connection_state.Selected heard) e idle may = by-message (message_of heard)
  by-messaged (TakingCommand n taken) e idle may = inl (stays (TakingCommand n taken) e idle may)
  by-messaged (TaskConnected c) e idle may = absurd idle
  by-messaged (RogueConnected s n) e idle may = inl (RogueConnected rogue_shows.ToChoose n, tt, may, refl)

  by-acked : (l : ConnectionState) → t.link ≡ l → IsIdle l → MayLink g i l → Relinks g i t (acked_by l t)
  by-acked BusFree e idle may = stays BusFree e idle may
  by-acked (connection_state.Selected heard) e idle may = stays (connection_state.Selected heard) e idle may
  by-acked (TakingCommand n taken) e idle may = stays (TakingCommand n taken) e idle may
  by-acked (TaskConnected c) e idle may = absurd idle
  by-acked (RogueConnected s n) e idle may = (RogueConnected (rogue_heard s) n, tt, may, refl)

  acted : (m : Move) → IsIdle t.link → MayLink g i t.link → Relinks g i t (target_acted t m)
  unfolding target_acted
  acted m idle may = by-acted t.link m refl idle may

  messaged : IsIdle t.link → MayLink g i t.link → Relinks g i t (target_messaged t) ⊎ (target_messaged t ≡ target_reset t)
  unfolding target_messaged
  messaged idle may = by-messaged t.link refl idle may

  acked : IsIdle t.link → MayLink g i t.link → Relinks g i t (target_acked t)
  unfolding target_acked
  acked idle may = by-acked t.link refl idle may

a-move : (g : Plan) (count : ℕ) (ks : ℕ → Ticket) (ts : ℕ → Target) (i : ℕ) (s : Target) → IsIdle (ts i).link → Relinks g i (ts i) s → CallMoves g count ks ts ks (with_at ts i s)
a-move g count ks ts i s idle r = subst (λ z. CallMoves g count ks ts ks (with_at ts i z)) (sym r.3) (relinks i r.0 idle r.1 r.2, tt)

pub idle-calls-relink : IdleCallsRelink
idle-calls-relink = record {
  selected = λ g i t f. by-selected g i t (is_rogue t) f;
  acted = λ g i t m idle may. acted g i t m idle may;
  asked = λ g i t idle may. by-asked g i t t.link idle may;
  sent = λ g i t idle may. by-sent g i t t.link idle may;
  taken = λ g i t b idle may. by-taken g i t t.link b idle may;
  messaged = λ g i t idle may. messaged g i t idle may;
  acked = λ g i t idle may. acked g i t idle may;
  moves = λ g count ks ts i s idle r. a-move g count ks ts i s idle r;
}
