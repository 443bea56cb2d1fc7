-- The buffer of each ticket has as many bytes as its request.
use Rattle.std.proofs.Common.{arith, ◌≡◌, ◌⊎◌, inl, inr, ℕ, ◌<◌, ◌≤◌, Bool, true, false, List, [], ◌∷◌, ◌++◌, length, length-append, map, zip, slice_index_or, Option, Some, None, refl, sym, ap, subst, ◌∙◌}
use Rattle.std.specs.Prelude.{option_map, sum, sum_by}
use Rattle.std.proofs.Math.Seq.{get_or-append_seam}
use Rattle.std.proofs.lemmas.List.Sums.{sum_by-cons}
use Rattle.std.proofs.lemmas.Option.{same_Some}
use Rattle.rig_types.specs.declared.commands.Command.{Command}
use Rattle.rig_types.specs.declared.step.Line.{Line}
use Rattle.rig_types.specs.declared.step.Step.{Step}
use Rattle.rig_types.specs.declared.step.Step.TheVariants as step
use Rattle.unit_law.specs.Request.{RequestData, plain}
use Rattle.dma_buddy.specs.declared.buddies.Chunk.{Chunk}
use Rattle.dma_buddy.specs.Regions.{Space, TakesAll}
use Rattle.desk_law.specs.declared.refused.Refused.{Refused}
use Rattle.desk_law.specs.declared.ticket.Piece.{Piece}
use Rattle.desk_law.specs.declared.ticket.Ticket.{Ticket}
use Rattle.desk_law.specs.Blocks.{buffer_length}
use Rattle.desk_law.specs.Building.{new_ticket, piece}
use Rattle.desk_law.specs.Desk.{DeskState, ticket, no_ticket}
use Rattle.world_law.specs.declared.reply.Reply.{Reply}
use Rattle.world_law.specs.declared.reply.Reply.TheVariants as reply
use Rattle.world_law.specs.World.{BenchSetting, World, command_at, request_at}
use Rattle.world_law.specs.Opening.{opened}
use Rattle.world_law.specs.Enabling.{Enabled}
use Rattle.world_law.specs.Builds.{refuses, is_tried_again, BuildsBy, BuildsOf}
use Rattle.world_law.specs.Runs.{Moment, Steps, IsRun, last, built}
use Rattle.world_law.specs.Steps.{Does}
use Rattle.world_law.proofs.Effects.{Counted, effect}
use Rattle.world_law.proofs.TicketsKept.{keeps_tickets}
use Rattle.run_joined.specs.Reports.{BuffersFitRequests}
use Rattle.run_joined.proofs.Moved.{below-or}
use Rattle.run_joined.proofs.Rigs.{none-built}

-- pieces have the lengths of their segments
pieces-long : (s t : Space) (lens : List ℕ) (cs : List Chunk) → TakesAll s lens cs t → sum_by (λ (p : Piece). p.len) (map piece (zip cs lens)) ≡ sum lens
pieces-long s t [] [] h = refl
pieces-long s t [] (c ∷ cs) h = absurd h
pieces-long s t (l ∷ lens) [] h = absurd h
pieces-long s t (l ∷ lens) (c ∷ cs) h =
    let r = pieces-long h.0 t lens cs h.2 in
    let a = sum_by-cons (λ (p : Piece). p.len) (piece (c, l)) (map piece (zip cs lens)) in
    let b = sum_by-cons (λ (n : ℕ). n) l lens in
    omega (arith, r, a, b)

-- a ticket's buffer is as long as the request of its line
abbrev Fits : BenchSetting → Ticket → Type 0
Fits g x = (r : RequestData) → request_at g x.line ≡ Some r → buffer_length x ≡ length r.bytes

abbrev AllFit : BenchSetting → World → Type 0
AllFit g w = (t : ℕ) → t < length w.desk.tickets → Fits g (ticket w.desk t)

-- as many tickets as before
no-more : (number : Option ℕ) (old new : List Ticket) → number ≡ None → Counted old number new → length new ≡ length old
no-more number old new e (inl h) = h.1
no-more number old new e (inr h) = let z : None ≡ Some (length old) = sym e ∙ h.0 in absurd cc

module _ (g : BenchSetting) where
  -- the ticket that Build adds
  added : (old : World) (l : Line) (c : Command) (t : ℕ) (new : World) → command_at g l ≡ Some c → BuildsBy old l c (reply.Built t) new → (i : ℕ) → i < length new.desk.tickets → length old.desk.tickets ≤ i → Fits g (ticket new.desk i)
  added old l c t new e m i low high =
      let k = new_ticket old.desk l (plain c.request) m.builds.chunks in
      let tickets : new.desk.tickets ≡ old.desk.tickets ++ k ∷ [] = ap (λ (x : DeskState). x.tickets) m.builds.desk in
      let size = length-append old.desk.tickets (k ∷ []) in
      let at : i ≡ length old.desk.tickets = omega (arith, low, high, ap length tickets, size) in
      let is : ticket new.desk i ≡ k =
      ap (λ ks. slice_index_or ks i no_ticket) tickets ∙ ap (λ n. slice_index_or (old.desk.tickets ++ k ∷ []) n no_ticket) at ∙ get_or-append_seam old.desk.tickets k [] no_ticket in
      let fits : Fits g k = λ r q.
      let same : plain c.request ≡ r = same_Some (plain c.request) r (sym (ap (option_map (λ (x : Command). plain x.request)) e) ∙ q) in
      pieces-long old.desk.space new.desk.space c.request.segments m.builds.chunks m.builds.takes ∙ sym c.request.whole ∙ ap (λ (x : RequestData). length x.bytes) same in
      subst (Fits g) (sym is) fits

  refused-same : (again : Bool) (old : World) (l : Line) (r : Refused) → length (refuses again old l r).desk.tickets ≡ length old.desk.tickets
  refused-same true old l r = refl
  refused-same false old l r = refl

  added-by : (k : Option Command) (old : World) (l : Line) (a : Reply) (new : World) → command_at g l ≡ k → BuildsOf k old l a new → (i : ℕ) → i < length new.desk.tickets → length old.desk.tickets ≤ i → Fits g (ticket new.desk i)
  added-by None old l a new e m i low high = absurd m
  added-by (Some c) old l (reply.Built t) new e m i low high = added old l c t new e m i low high
  added-by (Some c) old l (reply.Refused r) new e m i low high =
      absurd (omega (arith, low, high, ap (λ (w : World). length w.desk.tickets) m.1, refused-same (is_tried_again c.when_full r) old l r))
  added-by (Some c) old l _ new e m i low high = absurd m

  new-fits : (old : World) (caller : ℕ) (s : Step) (a : Reply) (new : World) → Enabled g old caller s → Does g old caller s a new → (i : ℕ) → i < length new.desk.tickets → length old.desk.tickets ≤ i → Fits g (ticket new.desk i)
  new-fits old caller (step.Build l) a new may m i low high = added-by (command_at g l) old l a new refl m i low high
  new-fits old caller s a new may m i low high =
      let x = effect g old caller s a new may m in
      absurd (omega (arith, low, high, no-more (built a) old.desk.tickets new.desk.tickets (none-built g old caller s a new refl m) x.counted))

  step-fits : (old : World) (m : Moment) → Steps g old m → AllFit g old → AllFit g m.after
  step-fits old m s h t l = by (below-or t (length old.desk.tickets))
    where
      by : (t < length old.desk.tickets) ⊎ (length old.desk.tickets ≤ t) → Fits g (ticket m.after.desk t)
      by (inl a) =
          let k = keeps_tickets g old m t s a in
          λ r q. ap (λ ps. sum_by (λ (p : Piece). p.len) ps) k.pieces ∙ h t a r (ap (request_at g) (sym k.line) ∙ q)
      by (inr a) = new-fits old m.entry.caller m.entry.step m.reply m.after s.enabled s.does t l a

  run-fits : (w : World) (ms : List Moment) → IsRun g w ms → AllFit g w → AllFit g (last w ms)
  run-fits w [] r h = h
  run-fits w (m ∷ ms) r h = run-fits m.after ms r.1 (step-fits w m r.0 h)

pub buffers-fit : BuffersFitRequests
buffers-fit g p ms r of t l = run-fits g (opened g) ms r (λ i low. absurd (omega (arith, low))) t l (p.requests t) (of.requests t l)
