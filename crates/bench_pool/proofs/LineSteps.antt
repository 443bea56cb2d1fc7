-- The four steps of a line, one after the other.
use Rattle.std.proofs.Common.{arith, ◌≡◌, ◌<◌, ◌+◌, ℕ, Bool, true, false, List, [], ◌∷◌, ◌++◌, length, take, slice_index_or, Option, Some, None, Result, Ok, Err, refl, sym, ap, subst, ◌∙◌, append_assoc, append-nil, length-append, MatchBool}
use Rattle.std.proofs.Math.Seq.{get_or-append_seam}
use Rattle.rig_types.specs.declared.step.Line.{Line}
use Rattle.rig_types.specs.declared.step.Step.{Step}
use Rattle.rig_types.specs.declared.step.Step.TheVariants as step
use Rattle.rig_types.specs.declared.commands.WhenFull.{WhenFull}
use Rattle.bench_lock.specs.Log.{entry}
use Rattle.bench_lock.specs.declared.view.View.{View}
use Rattle.bench_lock.specs.Stepped.{Stepped}
use Rattle.desk_law.specs.declared.refused.Refused.{Refused}
use Rattle.world_law.specs.declared.reply.Decided.{Decided}
use Rattle.world_law.specs.declared.reply.Decided.TheVariants as line
use Rattle.world_law.specs.declared.reply.Reply.{Reply}
use Rattle.world_law.specs.declared.reply.Reply.TheVariants as reply
use Rattle.world_law.specs.declared.reply.Seen.{Seen}
use Rattle.world_law.specs.World.{BenchSetting, World, lines_of, decided}
use Rattle.world_law.specs.Builds.{is_tried_again}
use Rattle.world_law.specs.Runs.{is_recorded}
use Rattle.seat_law.specs.Worlds.{Allows}
use Rattle.seat_law.specs.Standing.{Standing, rests, has_built, has_linked, owes, IsAt, IsNext, after_next}
use Rattle.seat_law.specs.Outcomes.{SeesFull, Waits, Moves, Decides, NextAnswered, BuildAnswered, IsLineOf}
use Rattle.seat_law.proofs.Answered.{seat_build, seat_next}
use Rattle.bench_pool.specs.declared.line_steps.SubmitFault.{SubmitFault}
use Rattle.bench_pool.specs.declared.line_steps.SubmitFault.TheVariants as fault
use Rattle.bench_pool.specs.Submits.{MayBegin, HasDecided, HasMade, HasBuilt, HasSubmitted, StopsFull, Faults, IsTried, FindsFull, line_steps}

-- ---- Build

module _ (v v2 : View BenchSetting Step) (l : Line) (f : WhenFull) (h : MayBegin v l f) where
  decided-last : (d : Decided) (q : Standing) → Decides v h.setting h.world l d v2 q → HasDecided v2 l d q × (v2.own ≡ v.own ++ entry l.submitter (step.Build l) ∷ [])
  decided-last d q x =
      let lines : lines_of x.world l.submitter ≡ lines_of h.world l.submitter ++ d ∷ [] =
      subst (λ (s : ℕ). lines_of x.world s ≡ lines_of h.world s ++ d ∷ []) (sym h.line.own) x.lines in (
        record {
          setting = h.setting;
          world = x.world;
          at = x.at;
          caller = h.line.own ∙ sym x.caller;
          next = ap (λ (ds : List Decided). length ds) lines ∙ (length-append (lines_of h.world l.submitter) (d ∷ []) ∙ ap (λ (n : ℕ). n + 1) h.next);
          decided =
              ap (λ (ds : List Decided). slice_index_or ds l.number line.Open) lines
              ∙ (ap (λ (n : ℕ). slice_index_or (lines_of h.world l.submitter ++ d ∷ []) n line.Open) (sym h.next) ∙ get_or-append_seam (lines_of h.world l.submitter) d [] line.Open);
        },
        x.own ∙ ap (λ (s : ℕ). v.own ++ entry s (step.Build l) ∷ []) (sym h.line.own),
      )

  again : Waits v h.setting h.world v2 rests → MayBegin v2 l f × (v2.own ≡ v.own)
  again x = (
    record {
      setting = h.setting;
      world = x.world;
      at = x.at;
      line = record { own = h.line.own ∙ sym x.caller; command = h.line.command; is = h.line.is; when_full = h.line.when_full };
      next = ap (λ (s : ℕ). length (lines_of x.world s)) h.line.own ∙ (ap (λ (ds : List Decided). length ds) x.lines ∙ (ap (λ (s : ℕ). length (lines_of h.world s)) (sym h.line.own) ∙ h.next));
    },
    x.own,
  )

  module _ (o : BenchSetting) (answer : Reply) (front : ℕ) (s : Stepped Allows is_recorded o v v2 (step.Build l) answer front) where
    answered-as : (a : Reply) → answer ≡ a → BuildAnswered v h.setting h.world l f v2 a
    answered-as a e = subst (λ (y : Reply). BuildAnswered v h.setting h.world l f v2 y) e (seat_build o h.setting h.world l f v v2 answer front h.at h.line s)

    pub built_tried : (t : ℕ) → answer ≡ reply.Built t → HasBuilt v.own v2 l t
    built_tried t e = let x = decided-last (line.Accepted t) (has_built t) (answered-as (reply.Built t) e) in (x.0, record { are = x.1 })

    refused-as : (r : Refused) (b : Bool) → is_tried_again f r ≡ b → answer ≡ reply.Refused r → MatchBool b (Waits v h.setting h.world v2 rests) (Decides v h.setting h.world l (line.Refused r) v2 rests)
    refused-as r b is e = subst (λ (y : Bool). MatchBool y (Waits v h.setting h.world v2 rests) (Decides v h.setting h.world l (line.Refused r) v2 rests)) is (answered-as (reply.Refused r) e)

    pub refused_tried : (r : Refused) → is_tried_again f r ≡ false → answer ≡ reply.Refused r → Faults v.own v2 l f (fault.Refused r)
    refused_tried r is e = let x = decided-last (line.Refused r) rests (refused-as r false is e) in (x.0, record { are = x.1 })

    pub full_tried : answer ≡ reply.StepLimit → Faults v.own v2 l f fault.StepLimit
    full_tried e =
        let x : SeesFull v2 h.setting × (v2.own ≡ v.own) = answered-as reply.StepLimit e in
        record { setting = h.setting; full = x.0; ticket = 0; count = 0; few = omega arith; made = record { are = x.1 ∙ nothing-more v.own } }
      where
        nothing-more : (es : List (ℕ × Step)) → es ≡ es ++ []
        nothing-more es = sym (append-nil es)

    pub wanting_tried : answer ≡ reply.OutOfMemory → Faults v.own v2 l f fault.OutOfMemory
    wanting_tried e = again (answered-as reply.OutOfMemory e)

    pub refused_again : (r : Refused) → is_tried_again f r ≡ true → answer ≡ reply.Refused r → IsTried v.own v2 l f None
    refused_again r is e = again (refused-as r true is e)

    -- no other answer comes
    again-by : (a : Reply) → answer ≡ a → ((t : ℕ) → a ≡ reply.Built t → ⊥) → ((r : Refused) → a ≡ reply.Refused r → ⊥) → (a ≡ reply.StepLimit → ⊥) → IsTried v.own v2 l f None
    again-by (reply.Built t) e b r z = absurd (b t refl)
    again-by (reply.Refused x) e b r z = absurd (r x refl)
    again-by (reply.NotNow x) e b r z = again (answered-as (reply.NotNow x) e)
    again-by reply.OutOfMemory e b r z = wanting_tried e
    again-by reply.StepLimit e b r z = absurd (z refl)
    again-by reply.Made e b r z = absurd (answered-as reply.Made e)
    again-by (reply.Taken t) e b r z = absurd (answered-as (reply.Taken t) e)
    again-by reply.Marked e b r z = absurd (answered-as reply.Marked e)
    again-by reply.TooLate e b r z = absurd (answered-as reply.TooLate e)
    again-by reply.NeverAccepted e b r z = absurd (answered-as reply.NeverAccepted e)
    again-by reply.Started e b r z = absurd (answered-as reply.Started e)
    again-by (reply.BusyFront x) e b r z = absurd (answered-as (reply.BusyFront x) e)
    again-by (reply.BusyStop x) e b r z = absurd (answered-as (reply.BusyStop x) e)
    again-by reply.Idle e b r z = absurd (answered-as reply.Idle e)

    pub again_otherwise : ((t : ℕ) → answer ≡ reply.Built t → ⊥) → ((r : Refused) → answer ≡ reply.Refused r → ⊥) → (answer ≡ reply.StepLimit → ⊥) → IsTried v.own v2 l f None
    again_otherwise b r z = again-by answer refl b r z

-- ---- the steps after Build

module _ (own : List (ℕ × Step)) (l : Line) (t : ℕ) where
  -- a line that is decided stays so
  moved-on : (v v2 : View BenchSetting Step) (d : Decided) (p q : Standing) (x : Step) (h : HasDecided v l d p) → Moves v h.setting h.world x v2 q → HasDecided v2 l d q
  moved-on v v2 d p q x h m =
      let lines : lines_of m.world l.submitter ≡ lines_of h.world l.submitter = subst (λ (s : ℕ). lines_of m.world s ≡ lines_of h.world s) (sym h.caller) m.lines in
      record {
        setting = h.setting;
        world = m.world;
        at = m.at;
        caller = h.caller ∙ sym m.caller;
        next = ap (λ (ds : List Decided). length ds) lines ∙ h.next;
        decided = ap (λ (ds : List Decided). slice_index_or ds l.number line.Open) lines ∙ h.decided;
      }

  one-more : (v v2 : View BenchSetting Step) (x : Step) (done : List (ℕ × Step)) → l.submitter ≡ v.caller → v.own ≡ own ++ done → v2.own ≡ v.own ++ entry v.caller x ∷ [] → v2.own ≡ own ++ (done ++ entry l.submitter x ∷ [])
  one-more v v2 x done same is more =
      more ∙ (ap (λ (es : List (ℕ × Step)). es ++ entry v.caller x ∷ []) is ∙ (append_assoc own done (entry v.caller x ∷ []) ∙ ap (λ (s : ℕ). own ++ (done ++ entry s x ∷ [])) (sym same)))

  abbrev pub HasLinked : View BenchSetting Step → Type 0
  HasLinked v = HasDecided v l (line.Accepted t) (has_linked t) × HasMade own v l t 2

  abbrev pub HasQueued : View BenchSetting Step → Type 0
  HasQueued v = HasDecided v l (line.Accepted t) owes × HasMade own v l t 3

  pub linked : (v v2 : View BenchSetting Step) (h : HasBuilt own v l t) → Moves v h.0.setting h.0.world (step.Link t) v2 (has_linked t) → HasLinked v2
  linked v v2 h m = (moved-on v v2 (line.Accepted t) (has_built t) (has_linked t) (step.Link t) h.0 m, record { are = one-more v v2 (step.Link t) (take 1 (line_steps l.submitter l t)) h.0.caller h.1.are m.own })

  pub queued : (v v2 : View BenchSetting Step) (h : HasLinked v) → Moves v h.0.setting h.0.world (step.Queue t) v2 owes → HasQueued v2
  queued v v2 h m = (moved-on v v2 (line.Accepted t) (has_linked t) owes (step.Queue t) h.0 m, record { are = one-more v v2 (step.Queue t) (take 2 (line_steps l.submitter l t)) h.0.caller h.1.are m.own })

  pub signalled : (v v2 : View BenchSetting Step) (h : HasQueued v) → Moves v h.0.setting h.0.world step.Signal v2 rests → HasSubmitted own v2 l t
  signalled v v2 h m = (moved-on v v2 (line.Accepted t) owes rests step.Signal h.0 m, record { are = one-more v v2 step.Signal (take 3 (line_steps l.submitter l t)) h.0.caller h.1.are m.own })

  pub full_after : (v v2 : View BenchSetting Step) (g : BenchSetting) (f : WhenFull) (n : ℕ) (e : SubmitFault) → n < 4 → HasMade own v l t n → FindsFull v.own v2 g e → Faults own v2 l f e
  full_after v v2 g f n e few made x =
      subst (λ (y : SubmitFault). Faults own v2 l f y) (sym x.0) (record { setting = g; full = x.1; ticket = t; count = n; few = few; made = record { are = x.2 ∙ made.are } })

-- ---- make

pub next_made : (o g : BenchSetting) (w : World) (p : Standing) (v v2 : View BenchSetting Step) (x : Step) (answer : Reply) (front : ℕ) → Stepped Allows is_recorded o v v2 x answer front → IsAt v g w p → IsNext p x
    → answer ≡ reply.Made → Moves v g w x v2 (after_next p)
next_made o g w p v v2 x answer front s at e is = subst (λ (y : Reply). NextAnswered v g w p x v2 y) is (seat_next o g w p v v2 x answer front at e s)

full-only : (g : BenchSetting) (w : World) (p : Standing) (v v2 : View BenchSetting Step) (x : Step) (a : Reply) → NextAnswered v g w p x v2 a → (a ≡ reply.Made → ⊥) → FindsFull v.own v2 g fault.StepLimit
full-only g w p v v2 x reply.StepLimit h n = (refl, h.0, h.1)
full-only g w p v v2 x reply.Made h n = absurd (n refl)
full-only g w p v v2 x _ h n = absurd h

pub next_full : (o g : BenchSetting) (w : World) (p : Standing) (v v2 : View BenchSetting Step) (x : Step) (answer : Reply) (front : ℕ) → Stepped Allows is_recorded o v v2 x answer front → IsAt v g w p → IsNext p x
    → (answer ≡ reply.Made → ⊥) → FindsFull v.own v2 g fault.StepLimit
next_full o g w p v v2 x answer front s at e n = full-only g w p v v2 x answer (seat_next o g w p v v2 x answer front at e s) n
