-- What the world makes of a step is its answer, and the bench stays one.
use Rattle.std.proofs.Common.{arith, ◌≡◌, ◌<◌, ◌+◌, ◌^◌, ℕ, true, List, length, sym, ap, subst, ◌∙◌}
use Rattle.std.specs.List.{sum}
use Rattle.rig_types.specs.declared.step.Step.{Step}
use Rattle.rig_types.specs.declared.step.Entry.{Entry}
use Rattle.world_law.specs.declared.reply.Reply.{Reply}
use Rattle.world_law.specs.World.{BenchSetting, World}
use Rattle.world_law.specs.Enabling.{Enabled}
use Rattle.world_law.specs.Runs.{Moment, is_recorded}
use Rattle.world_law.specs.Answers.{WithinLimit, Answers, no_memory, done}
use Rattle.bench_state.specs.Making.{Makes, wants, does}
use Rattle.bench_core.specs.Histories.{IsBench, entered}
use Rattle.bench_core.proofs.Answered.{answered_on, has_room}
use Rattle.bench_core.proofs.Growth.{few_of}

pub answers_made : (g : BenchSetting) (count : ℕ) (old : World) (caller : ℕ) (s : Step) (answer : Reply) (new : World) → WithinLimit g count old
    → Enabled g old caller s → Makes g old caller s answer new → Answers g count old caller s answer new
answers_made g count old caller s answer new free may (wants want e same) = no_memory free may want e same
answers_made g count old caller s answer new free may (does d) = done free may d

-- few signals are due, and few tickets were built
pub few_signals : (g : BenchSetting) (es : List Entry) (w : World) (capacity : ℕ) → IsBench g es w capacity → sum w.desk.due + 1 < 2 ^ 32
few_signals g es w capacity h = omega (arith, (few_of g es w h.replayed).due, h.within, h.limit)

pub few_tickets : (g : BenchSetting) (es : List Entry) (w : World) (capacity : ℕ) → IsBench g es w capacity → length w.desk.tickets + 1 < 2 ^ 32
few_tickets g es w capacity h = omega (arith, (few_of g es w h.replayed).tickets, h.within, h.limit)

abbrev pub entry_of : (caller : ℕ) → Step → Entry
entry_of caller s = record { caller = caller; step = s }

abbrev pub moment_of : (caller : ℕ) → Step → Reply → World → Moment
moment_of caller s answer new = record { entry = entry_of caller s; reply = answer; after = new }

-- where the step is entered, there is room for it
pub room_made : (g h : BenchSetting) (es : List Entry) (old : World) (caller : ℕ) (s : Step) (answer : Reply) (new : World) (capacity : ℕ) → IsBench g es old capacity
    → WithinLimit g (length es) old → Enabled g old caller s → Makes g old caller s answer new → h ≡ g → is_recorded h s answer ≡ true → length es < capacity
room_made g h es old caller s answer new capacity b free may m e r =
    has_room g es old (moment_of caller s answer new) capacity b (answers_made g (length es) old caller s answer new free may m)
    (ap (λ (x : BenchSetting). is_recorded x s answer) (sym e) ∙ r)

-- the bench after it
pub bench_made : (g h : BenchSetting) (es fs : List Entry) (old : World) (caller : ℕ) (s : Step) (answer : Reply) (new : World) (capacity other : ℕ) → IsBench g es old capacity
    → WithinLimit g (length es) old → Enabled g old caller s → Makes g old caller s answer new → h ≡ g → fs ≡ entered (is_recorded h s answer) es (entry_of caller s)
    → other ≡ capacity → IsBench h fs new other
bench_made g h es fs old caller s answer new capacity other b free may m e f c =
    subst (λ (x : BenchSetting). IsBench x fs new other) (sym e)
    (subst (λ (xs : List Entry). IsBench g xs new other) (sym (f ∙ ap (λ (x : BenchSetting). entered (is_recorded x s answer) es (entry_of caller s)) e))
    (subst (λ (n : ℕ). IsBench g (entered (is_recorded g s answer) es (entry_of caller s)) new n) (sym c)
    (answered_on g es old (moment_of caller s answer new) capacity b (answers_made g (length es) old caller s answer new free may m))))
