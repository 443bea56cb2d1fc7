-- What the code keeps holds at the opening.
use Rattle.std.proofs.Common.{arith, ◌≡◌, ◌≤◌, ◌∙◌, ◌+◌, ℕ, zero, suc, List, [], length, replicate, count_by, slice_index_or, refl, sym, ap, subst}
use Rattle.std.proofs.lemmas.List.{length-replicate}
use Rattle.std.proofs.lemmas.List.Sums.{sum_by-cons}
use Rattle.rig_types.specs.declared.commands.Command.{Command}
use Rattle.rig_types.specs.declared.acts.Act.{Act}
use Rattle.rig_types.specs.declared.report.Report.{Report}
use Rattle.desk_law.specs.Desk.{DeskState, lives, desk_opened}
use Rattle.world_law.specs.declared.reply.Decided.{Decided}
use Rattle.world_law.specs.declared.reply.Reply.{Reply}
use Rattle.world_law.specs.World.{BenchSetting}
use Rattle.world_law.specs.Opening.{memory_opened}
use Rattle.world_law.proofs.Opens.{opens}
use Rattle.bench_state.specs.declared.state.Lines.{Lines}
use Rattle.bench_state.specs.States.{decided_of, rooms_of, HasLineRooms}
use Rattle.bench_state.specs.Counting.{is_refused, refused_count}
use Rattle.bench_state.specs.Held.{IsHeld, HasRooms}

abbrev none-of : ℕ → List (List Decided)
none-of n = replicate n []

none-decided : (n s : ℕ) → length (slice_index_or (none-of n) s []) ≡ 0
none-decided zero s = refl
none-decided (suc n) zero = refl
none-decided (suc n) (suc s) = none-decided n s

none-refused : (n : ℕ) → refused_count (replicate n []) ≡ 0
none-refused zero = refl
none-refused (suc n) =
    omega (arith, sum_by-cons (λ (ls : List Decided). count_by is_refused ls) [] (replicate n []), none-refused n)

held : (g : BenchSetting) (m : List ℕ) (d : DeskState) (lss : List (List Decided)) → length m ≡ 0x400000
    → d ≡ desk_opened g.version g.units g.retries g.autosense (length g.submitters) → lss ≡ replicate (length g.submitters) [] → IsHeld g m d lss 0 0 0
held g m d lss size e f = record {
  size = size;
  units = ap (λ (x : DeskState). x.units) e;
  submitters = ap (λ (x : DeskState). x.submitters) e;
  lines = ap (λ (x : List (List Decided)). length x) f ∙ length-replicate (length g.submitters) [];
  within = λ s. omega (arith, ap (λ (x : List (List Decided)). length (slice_index_or x s [])) f, none-decided (length g.submitters) s);
  live = sym (ap (λ (x : DeskState). count_by lives x.tickets) e);
  refused = sym (ap (λ (x : List (List Decided)). refused_count x) f ∙ none-refused (length g.submitters));
  first = refl;
}

pub opens_held : (g : BenchSetting) (m : List ℕ) (d : DeskState) (ls : List Lines) (css : List (List Command)) (acts : List Act) (answered : List Reply) (rs : List Report)
    (answer_room report_room : ℕ) → length g.units ≤ 16 → m ≡ memory_opened g.version g.units
    → d ≡ desk_opened g.version g.units g.retries g.autosense (length g.submitters) → css ≡ g.submitters → decided_of ls ≡ replicate (length css) [] → HasLineRooms css ls
    → acts ≡ g.acts → length acts ≤ answer_room → answered ≡ [] → rs ≡ []
    → IsHeld g m d (decided_of ls) 0 0 0 × HasRooms g (rooms_of ls) (length answered) answer_room (length rs + 0) report_room
opens_held g m d ls css acts answered rs answer_room report_room few words desk same decided rooms acts-are room none nothing = (
  held g m d (decided_of ls) (ap (λ (x : List ℕ). length x) words ∙ (opens g few).size) desk
      (decided ∙ ap (λ (x : List (List Command)). replicate (length x) []) same),
  record {
    lines = subst (λ (x : List (List Command)). HasLineRooms x ls) same rooms;
    answered = omega (arith, ap (λ (x : List Reply). length x) none);
    answers = omega (arith, ap (λ (x : List Act). length x) acts-are, room);
    reports = omega (arith, ap (λ (x : List Report). length x) nothing);
  },
)
