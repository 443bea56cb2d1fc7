-- RESTART of a live ticket's block says whether an abort of it answered Marked.
use Rattle.std.proofs.Common.{arith, ◌≡◌, ◌⊎◌, inl, inr, ℕ, ◌+◌, ◌<◌, ◌≤◌, ◌==◌, Bool, true, false, List, [], ◌∷◌, ◌++◌, length, slice_get, Option, Some, None, refl, sym, ap, subst, ◌∙◌}
use Rattle.std.specs.Prelude.{◌||◌, ◌&&◌}
use Rattle.std.proofs.lemmas.Bool.{false≢true}
use Rattle.std.proofs.lemmas.Bool.Decides.{nat_tests}
use Rattle.bench_words.specs.Memory.{word_at}
use Rattle.rig_types.specs.declared.acts.Act.{Act}
use Rattle.rig_types.specs.declared.acts.ActKind.{ActKind}
use Rattle.rig_types.specs.declared.acts.ActKind.TheVariants.{Abort, Device, Bus}
use Rattle.rig_types.specs.declared.step.Line.{Line}
use Rattle.rig_types.specs.declared.step.Step.{Step}
use Rattle.rig_types.specs.declared.step.Step.TheVariants as step
use Rattle.unit_law.specs.Report.{TicketHistory}
use Rattle.unit_law.specs.Request.{plain}
use Rattle.abort_reset.proofs.PatchLaws.{marked_is}
use Rattle.abort_reset.specs.Patches.{marked}
use Rattle.sense_job.specs.Turning.{turned}
use Rattle.bench_words.proofs.MemoryLaws.{word_apart}
use Rattle.std.proofs.lemmas.List.{get_or_past}
use Rattle.desk_law.specs.Calls.{senses, sense_memory}
use Rattle.run_joined.proofs.Matching.{none-noted}
use Rattle.sense_job.proofs.TurningLaws.{turned_is}
use Rattle.desk_law.specs.declared.ticket.Ticket.{Ticket}
use Rattle.desk_law.specs.Desk.{ticket, no_ticket, lives}
use Rattle.run_law.specs.Changes.{Change, has_kind, is_accepted_as, is_abort_of, is_marked as says_marked, marks_by, marks}
use Rattle.run_law.specs.History.{history}
use Rattle.run_law.proofs.Longer.{notes_on}
use Rattle.world_law.specs.Acts.{ActsOf, acts_by, aborts, marks as marks_ticket, is_late}
use Rattle.world_law.specs.Opening.{opened}
use Rattle.world_law.specs.Runs.{Moment, Steps, IsRun, last}
use Rattle.world_law.specs.Steps.{Does}
use Rattle.world_law.specs.World.{BenchSetting, IsBenchSetting, World, decided}
use Rattle.world_law.specs.declared.reply.Decided.{Decided}
use Rattle.world_law.specs.declared.reply.Decided.TheVariants as line
use Rattle.world_law.specs.declared.reply.Reply.{Reply}
use Rattle.world_law.proofs.RunLaws.{ends_after}
use Rattle.world_law.proofs.TicketsKept.{keeps_tickets}
use Rattle.word_owners.specs.BenchSteps.{IsOwned}
use Rattle.word_owners.specs.BuiltTickets.{AreBuilt}
use Rattle.word_owners.specs.Tickets.{IsLive}
use Rattle.word_owners.specs.Worlds.{HasBytes}
use Rattle.word_owners.proofs.BuiltMemory.{reads-low, here}
use Rattle.word_owners.proofs.Worlds.{words_are_owned, depths_are_kept}
use Rattle.rig_types.specs.Ranges.{IsRig}
use Rattle.rig_types.specs.declared.rig.Unit.{Unit as RigUnit}
use Rattle.block_words.specs.KeptWords.{word_of, MayChange}
use Rattle.block_words.specs.Marks.{MarksAreTold}
use Rattle.block_words.proofs.KeptWords.{words-stay}
use Rattle.block_words.proofs.RunSteps.{by-steps, stage-lives, IsAccepted, lived-or-built, tickets-grow}

-- ---- tests
or-none : (a b : Bool) → b ≡ false → (a || b) ≡ a
or-none true b e = refl
or-none false b e = e

or-one : (a b : Bool) → b ≡ true → (a || b) ≡ true
or-one true b e = refl
or-one false b e = e

and-none : (a b : Bool) → a ≡ false → (a && b) ≡ false
and-none true b e = absurd cc
and-none false b e = refl

same-number : (a b : ℕ) → (a == b) ≡ true → a ≡ b
same-number a b e = grind (arith, nat_tests)

module _ (g : BenchSetting) (setting : IsBenchSetting g) (bytes : HasBytes g) (u : ℕ) where
  abbrev said : List Moment → ℕ → Bool
  said ms t = (history g u t (opened g) ms).marked

  abbrev word : World → ℕ → ℕ
  word w t = word_of w t 0x04

  -- what is told of the tickets of a world
  record Told (ms : List Moment) (w : World) : Type 0 where
    live : (t : ℕ) → lives (ticket w.desk t) ≡ true → (word w t == 0x278) ≡ said ms t
    fresh : (t : ℕ) → length w.desk.tickets ≤ t → said ms t ≡ false

  module _ (ms : List Moment) (m : Moment) (r : IsRun g (opened g) ms) (s : Steps g (last (opened g) ms) m) (h : Told ms (last (opened g) ms)) where
    abbrev old : World
    old = last (opened g) ms

    abbrev change : Change
    change = record { before = old; moment = m }

    own : IsOwned g.version g.units old
    own = words_are_owned g setting bytes ms r

    goes-on : (t : ℕ) → said (ms ++ m ∷ []) t ≡ (said ms t || marks g t change)
    goes-on t = ap (λ (x : TicketHistory). x.marked) (notes_on g u t (opened g) ms m)

    -- ---- a ticket that lived
    module _ (t : ℕ) (l : t < length old.desk.tickets) (alive : lives (ticket old.desk t) ≡ true) where
      live : IsLive (ticket old.desk t).stage
      live = stage-lives old.desk t alive

      block-same : (ticket m.after.desk t).block ≡ (ticket old.desk t).block
      block-same = (keeps_tickets g old m t s l).block

      abbrev Agrees : Type 0
      Agrees = (word m.after t == 0x278) ≡ (said ms t || marks g t change)

      unmarked : marks g t change ≡ false → word m.after t ≡ word old t → Agrees
      unmarked n e = ap (λ (i : ℕ). i == 0x278) e ∙ h.live t alive ∙ sym (or-none (said ms t) (marks g t change) n)

      is-marked : marks g t change ≡ true → word m.after t ≡ 0x278 → Agrees
      is-marked n e = ap (λ (i : ℕ). i == 0x278) e ∙ sym (or-one (said ms t) (marks g t change) n)

      made-word : (made : World) → m.after ≡ made → word_at made.memory ((ticket old.desk t).block + 0x04) ≡ word old t → word m.after t ≡ word old t
      made-word made e k = ap (λ (i : ℕ). word_at m.after.memory (i + 0x04)) block-same ∙ ap (λ (v : World). word_at v.memory ((ticket old.desk t).block + 0x04)) e ∙ k

      stays : (x : Step) → m.entry.step ≡ x → (MayChange g old x t 0x04 → ⊥) → word m.after t ≡ word old t
      stays x e n = elim (words-stay g setting bytes ms r m s t 0x04 alive (inl (omega arith))) [
        | inl k ↦ absurd (n (subst (λ (y : Step). MayChange g old y t 0x04) e k))
        | inr k ↦ k
      ]

      -- Sense leaves RESTART
      sensed : (x : ℕ) → m.entry.step ≡ step.Sense x → word m.after t ≡ word old t
      sensed x e = elim (words-stay g setting bytes ms r m s t 0x04 alive (inl (omega arith))) [
        | inr k ↦ k
        | inl k ↦
            let z : x ≡ t = subst (λ (y : Step). MayChange g old y t 0x04) e k in
            let d = subst (λ (y : Step). Does g old m.entry.caller y m.reply m.after) e s.does in
            let b = (ticket old.desk t).block in
            let p = own.holds.tickets.block t live in
            let q = turned_is old.memory b own.holds.size p in
            turned-same x z d.1 (q.other (b + 0x04) (omega arith) (omega arith) (omega arith) (omega arith) (omega arith))
      ]
        where
          turned-same : (x : ℕ) → x ≡ t → m.after ≡ record old { memory = sense_memory old.desk x old.memory; desk = senses old.desk x } → word_at (turned old.memory (ticket old.desk t).block) ((ticket old.desk t).block + 0x04) ≡ word old t → word m.after t ≡ word old t
          turned-same x z e k =
              let p = own.holds.tickets.block t live in
              let q : (ticket old.desk x).block ≡ (ticket old.desk t).block = ap (λ (i : ℕ). (ticket old.desk i).block) z in
              made-word _ e (word_apart (turned old.memory (ticket old.desk x).block) 0x1000 ((ticket old.desk t).block + 0x04) (ticket old.desk x).block (inr (omega (arith, p.from)))
              ∙ ap (λ (i : ℕ). word_at (turned old.memory i) ((ticket old.desk t).block + 0x04)) q ∙ k)

      -- ---- acts
      marked-here : (late : Bool) (x : ℕ) → x ≡ t → is_late (ticket old.desk x).stage ≡ late → m.reply ≡ (marks_ticket late old x).answer → m.after ≡ (marks_ticket late old x).world
          → ((says_marked m.reply ≡ true) × (word m.after t ≡ 0x278)) ⊎ ((says_marked m.reply ≡ false) × (word m.after t ≡ word old t))
      marked-here true x z e a w = inr (ap says_marked a, made-word _ w refl)
      marked-here false x z e a w =
          let b = (ticket old.desk t).block in
          let k = marked_is old.memory b own.holds.size (own.holds.tickets.block t live) in
          let q : (ticket old.desk x).block ≡ b = ap (λ (i : ℕ). (ticket old.desk i).block) z in
          inl (
            ap says_marked a,
            ap (λ (i : ℕ). word_at m.after.memory (i + 0x04)) block-same ∙ ap (λ (v : World). word_at v.memory (b + 0x04)) w
                ∙ ap (λ (i : ℕ). word_at (marked old.memory i) (b + 0x04)) q ∙ k.restart,
          )

      acted : (k : ℕ) → m.entry.step ≡ step.Act k → Agrees
      acted k e = by (slice_get g.acts k) refl (subst (λ (y : Step). Does g old m.entry.caller y m.reply m.after) e s.does)
        where
          marks-are : marks g t change ≡ (has_kind (is_abort_of t old) (slice_get g.acts k) && says_marked m.reply)
          marks-are = ap (marks_by g t change) e

          not-abort : has_kind (is_abort_of t old) (slice_get g.acts k) ≡ false → Agrees
          not-abort f = unmarked (marks-are ∙ and-none (has_kind (is_abort_of t old) (slice_get g.acts k)) (says_marked m.reply) f) (stays (step.Act k) e (λ q. false≢true (sym f ∙ q.0)))

          is-abort : has_kind (is_abort_of t old) (slice_get g.acts k) ≡ true → ((says_marked m.reply ≡ true) × (word m.after t ≡ 0x278)) ⊎ ((says_marked m.reply ≡ false) × (word m.after t ≡ word old t)) → Agrees
          is-abort f (inl q) = is-marked (marks-are ∙ ap (λ (b : Bool). b && says_marked m.reply) f ∙ q.0) q.1
          is-abort f (inr q) = unmarked (marks-are ∙ ap (λ (b : Bool). b && says_marked m.reply) f ∙ q.0) q.1

          by-line : (a : Act) (l : Line) (x : Decided) → a.kind ≡ Abort l → decided old l ≡ x → slice_get g.acts k ≡ Some a → (m.reply ≡ (aborts old x).answer) × (m.after ≡ (aborts old x).world) → Agrees
          by-line a l line.Open f d q w = not-abort (ap (has_kind (is_abort_of t old)) q ∙ ap (is_abort_of t old) f ∙ ap (is_accepted_as t) d)
          by-line a l (line.Refused y) f d q w = not-abort (ap (has_kind (is_abort_of t old)) q ∙ ap (is_abort_of t old) f ∙ ap (is_accepted_as t) d)
          by-line a l (line.Accepted x) f d q w = by-ticket (x == t) refl
            where
              kind-is : has_kind (is_abort_of t old) (slice_get g.acts k) ≡ (x == t)
              kind-is = ap (has_kind (is_abort_of t old)) q ∙ ap (is_abort_of t old) f ∙ ap (is_accepted_as t) d

              by-ticket : (b : Bool) → (x == t) ≡ b → Agrees
              by-ticket true z = is-abort (kind-is ∙ z) (marked-here (is_late (ticket old.desk x).stage) x (same-number x t z) refl w.0 w.1)
              by-ticket false z = not-abort (kind-is ∙ z)

          by-kind : (a : Act) (x : ActKind) → a.kind ≡ x → slice_get g.acts k ≡ Some a → (m.reply ≡ (acts_by old x).answer) × (m.after ≡ (acts_by old x).world) → Agrees
          by-kind a (Abort l) f q w = by-line a l (decided old l) f refl q w
          by-kind a (Device target) f q w = not-abort (ap (has_kind (is_abort_of t old)) q ∙ ap (is_abort_of t old) f)
          by-kind a Bus f q w = not-abort (ap (has_kind (is_abort_of t old)) q ∙ ap (is_abort_of t old) f)

          by : (x : Option Act) → slice_get g.acts k ≡ x → ActsOf (slice_get g.acts k) old m.reply m.after → Agrees
          by None q d = absurd (subst (λ (z : Option Act). ActsOf z old m.reply m.after) q d)
          by (Some a) q d = by-kind a a.kind refl q (subst (λ (z : Option Act). ActsOf z old m.reply m.after) q d)

      by-step : (x : Step) → m.entry.step ≡ x → Agrees
      by-step (step.Act k) e = acted k e
      by-step (step.Sense x) e = unmarked (ap (marks_by g t change) e) (sensed x e)
      by-step x e = unmarked (ap (marks_by g t change) e) (stays x e (λ q. q))

    -- ---- a ticket that the step builds
    rig-here : IsRig old.desk.version old.desk.units g.retries g.step_limit
    rig-here =
        subst (λ (v : ℕ). IsRig v old.desk.units g.retries g.step_limit) (sym own.holds.version_is)
        (subst (λ (us : List RigUnit). IsRig g.version us g.retries g.step_limit) (sym own.holds.units_are) setting.rig)

    built-word : (l : Line) (t : ℕ) → IsAccepted g old m.after l t → word m.after t ≡ 0x128
    built-word l t x =
        let desks = depths_are_kept g setting bytes ms r in
        let fit = bytes l x.command x.is in
        let built : AreBuilt old.desk = record { tickets = own.holds.tickets; depths = desks.depths; space = desks.space } in
        ap (λ (k : Ticket). word_at m.after.memory (k.block + 0x04)) (here g.retries g.step_limit old m.after.desk m.after.memory l (plain x.command.request) t rig-here fit own.holds.size own.holds.bytes own.holds.checked built x.accepts.builds)
        ∙ reads-low g.retries g.step_limit old m.after.desk m.after.memory l (plain x.command.request) t rig-here fit own.holds.size own.holds.bytes own.holds.checked built x.accepts.builds 1 (omega arith) (omega arith)

    built-told : (t : ℕ) (l : Line) → m.entry.step ≡ step.Build l → t ≡ length old.desk.tickets → IsAccepted g old m.after l t → (word m.after t == 0x278) ≡ said (ms ++ m ∷ []) t
    built-told t l e z x =
        ap (λ (i : ℕ). i == 0x278) (built-word l t x)
        ∙ sym (goes-on t ∙ or-none (said ms t) (marks g t change) (ap (marks_by g t change) e) ∙ h.fresh t (omega (arith, z)))

    -- ---- one that isn't built yet isn't marked: no line was accepted as it
    unbuilt : (t : ℕ) → length m.after.desk.tickets ≤ t → said (ms ++ m ∷ []) t ≡ false
    unbuilt t l = goes-on t ∙ or-none (said ms t) (marks g t change) (none-marked m.entry.step refl) ∙ h.fresh t (omega (arith, l, no-fewer))
      where
        no-fewer : length old.desk.tickets ≤ length m.after.desk.tickets
        no-fewer = tickets-grow g old m s

        none-here : ticket old.desk t ≡ no_ticket
        none-here = get_or_past old.desk.tickets t no_ticket (omega (arith, l, no-fewer))

        late-answer : (late : Bool) → is_late (ticket old.desk t).stage ≡ late → says_marked (marks_ticket late old t).answer ≡ false
        late-answer true e = refl
        late-answer false e = absurd (false≢true (sym e ∙ ap (λ (k : Ticket). is_late k.stage) none-here))

        by-line : (x : Decided) → is_accepted_as t x && says_marked (aborts old x).answer ≡ false
        by-line line.Open = refl
        by-line (line.Refused y) = refl
        by-line (line.Accepted x) = by (x == t) refl
          where
            by : (b : Bool) → (x == t) ≡ b → (x == t) && says_marked (marks_ticket (is_late (ticket old.desk x).stage) old x).answer ≡ false
            by false z = and-none (x == t) _ z
            by true z =
                ap (λ (b : Bool). b && says_marked (marks_ticket (is_late (ticket old.desk x).stage) old x).answer) z
                ∙ ap (λ (i : ℕ). says_marked (marks_ticket (is_late (ticket old.desk i).stage) old i).answer) (same-number x t z) ∙ late-answer (is_late (ticket old.desk t).stage) refl

        by-kind : (x : ActKind) → is_abort_of t old x && says_marked (acts_by old x).answer ≡ false
        by-kind (Abort k) = by-line (decided old k)
        by-kind (Device target) = refl
        by-kind Bus = refl

        by-act : (x : Option Act) → ActsOf x old m.reply m.after → has_kind (is_abort_of t old) x && says_marked m.reply ≡ false
        by-act None d = absurd d
        by-act (Some a) d = ap (λ (y : Reply). is_abort_of t old a.kind && says_marked y) d.0 ∙ by-kind a.kind

        none-marked : (x : Step) → m.entry.step ≡ x → marks g t change ≡ false
        none-marked (step.Act k) e = ap (marks_by g t change) e ∙ by-act (slice_get g.acts k) (subst (λ (y : Step). Does g old m.entry.caller y m.reply m.after) e s.does)
        none-marked x e = ap (marks_by g t change) e

    told-after : Told (ms ++ m ∷ []) m.after
    told-after = record {
      live = λ t e. elim (lived-or-built g old m s t e) [
        | inl k ↦ by-step t k.0 k.1 m.entry.step refl ∙ sym (goes-on t)
        | inr k ↦ built-told t k.0 k.1 k.2 k.3
      ];
      fresh = unbuilt;
    }

  at-opening : Told [] (opened g)
  at-opening = record { live = λ t e. absurd cc; fresh = λ t l. none-said t }
    where
      none-said : (t : ℕ) → said [] t ≡ false
      none-said t = ap (λ (x : TicketHistory). x.marked) (none-noted g u t (opened g))

  told : (ms : List Moment) → IsRun g (opened g) ms → Told ms (last (opened g) ms)
  told = by-steps g (λ (ms : List Moment). Told ms (last (opened g) ms)) at-opening
      (λ ms m r s h. subst (Told (ms ++ m ∷ [])) (sym (ends_after (opened g) ms m)) (told-after ms m r s h))

pub marks-are-told : MarksAreTold
marks-are-told g setting bytes ms r u t e = (told g setting bytes u ms r).live t e
