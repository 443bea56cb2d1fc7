-- A bench stays one under the answer to a step.
use Rattle.std.proofs.Common.{arith, ◌≡◌, ◌≢◌, ◌<◌, ◌≤◌, ℕ, Bool, true, false, List, [], ◌∷◌, length, Option, Some, None, refl, sym, ap, subst, ◌∙◌, inl, inr}
use Rattle.std.proofs.lemmas.List.{length-append}
use Rattle.rig_types.specs.declared.step.Step.{Step}
use Rattle.rig_types.specs.declared.step.Step.TheVariants as step
use Rattle.rig_types.specs.declared.step.Entry.{Entry}
use Rattle.rig_types.specs.declared.commands.Command.{Command}
use Rattle.world_law.specs.declared.reply.Reply.{Reply}
use Rattle.world_law.specs.declared.reply.Reply.TheVariants as reply
use Rattle.world_law.specs.World.{BenchSetting, World, command_at}
use Rattle.world_law.specs.Enabling.{Enabled}
use Rattle.world_law.specs.Runs.{Moment, decides_line, is_recorded}
use Rattle.world_law.specs.Answers.{WithinLimit, Answers, at_limit, not_now, no_memory, done}
use Rattle.bus_law.proofs.OneConnected.{same-or-not}
use Rattle.world_law.proofs.Drained.{rests}
use Rattle.world_law.proofs.Recorded.{IsNoted, noted}
use Rattle.bench_core.specs.Histories.{IsBench, entered}
use Rattle.bench_core.proofs.Replays.{replays_on}

-- where a step is entered, there was place for it
place : (g : BenchSetting) (count : ℕ) (w : World) (caller : ℕ) (s : Step) → count ≤ g.step_limit → WithinLimit g count w → Enabled g w caller s → count < g.step_limit
place g count w caller s most within may = elim (same-or-not count g.step_limit) [
  | inl e ↦ absurd (rests g w caller s (within e) may)
  | inr n ↦ less count g.step_limit most n
]
  where
    less : (a b : ℕ) → a ≤ b → a ≢ b → a < b
    less a b l n = grind (arith, l, n)

-- the answer of a full list is entered for no step
not-entered : (o : Option Command) → decides_line o reply.StepLimit ≡ true → ⊥
not-entered None h = absurd cc
not-entered (Some c) h = absurd cc

limit-rests : (g : BenchSetting) (s : Step) → is_recorded g s reply.StepLimit ≡ true → ⊥
limit-rests g (step.Build l) h = not-entered (command_at g l) h
limit-rests g _ h = absurd cc

has-place : (g : BenchSetting) (es : List Entry) (old : World) (m : Moment) → length es ≤ g.step_limit
    → Answers g (length es) old m.entry.caller m.entry.step m.reply m.after → is_recorded g m.entry.step m.reply ≡ true → length es < g.step_limit
has-place g es old m most (at_limit full live e same) r =
    absurd (limit-rests g m.entry.step (ap (λ (a : Reply). is_recorded g m.entry.step a) (sym e) ∙ r))
has-place g es old m most (not_now free not e same) r = absurd (not ((noted g (length es) old m (not_now free not e same)).steps r).enabled)
has-place g es old m most (no_memory free may want e same) r = place g (length es) old m.entry.caller m.entry.step most free may
has-place g es old m most (done free may does) r = place g (length es) old m.entry.caller m.entry.step most free may

pub answered_on : (g : BenchSetting) (es : List Entry) (old : World) (m : Moment) (capacity : ℕ) → IsBench g es old capacity
    → Answers g (length es) old m.entry.caller m.entry.step m.reply m.after
    → IsBench g (entered (is_recorded g m.entry.step m.reply) es m.entry) m.after capacity
answered_on g es old m capacity h answer = by (is_recorded g m.entry.step m.reply) refl
  where
    n : IsNoted g old m
    n = noted g (length es) old m answer

    by : (b : Bool) → is_recorded g m.entry.step m.reply ≡ b → IsBench g (entered b es m.entry) m.after capacity
    by true e =
        let l : length es < g.step_limit = has-place g es old m h.within answer e in
        record {
          replayed = replays_on g es old m h.replayed (n.steps e);
          within = omega (arith, l, length-append es (m.entry ∷ []));
          limit = h.limit;
          room = h.room;
        }
    by false e = subst (λ (w : World). IsBench g es w capacity) (sym (n.stays e)) h

-- where a step is entered, the list has room
pub has_room : (g : BenchSetting) (es : List Entry) (old : World) (m : Moment) (capacity : ℕ) → IsBench g es old capacity
    → Answers g (length es) old m.entry.caller m.entry.step m.reply m.after → is_recorded g m.entry.step m.reply ≡ true → length es < capacity
has_room g es old m capacity h answer e = omega (arith, has-place g es old m h.within answer e, h.room)
