-- What a line that is accepted makes of the counts and of the world, and how Build answers.
use Rattle.std.proofs.Common.{arith, ◌≡◌, ◌<◌, ◌≤◌, ◌+◌, ◌++◌, ◌∷◌, Bool, true, false, not, ℕ, zero, suc, List, [], length, take, count_by, slice_get, slice_index_or, Option, Some, None, refl, sym, ap, subst, ◌∙◌}
use Rattle.std.proofs.lemmas.List.{length-set}
use Rattle.std.proofs.lemmas.List.Sums.{sum_by_push}
use Rattle.std.proofs.lemmas.Option.{slice_get_within}
use Rattle.rig_types.specs.declared.commands.Command.{Command}
use Rattle.rig_types.specs.declared.rig.Unit.{Unit as RigUnit}
use Rattle.rig_types.specs.Ranges.{IsUnit, IsRig}
use Rattle.rig_types.specs.declared.step.Line.{Line}
use Rattle.rig_types.specs.declared.step.Step.TheVariants as step
use Rattle.unit_law.specs.Request.{RequestData, plain}
use Rattle.bus_law.specs.Bus.{BusState}
use Rattle.desk_law.specs.declared.refused.Refused.{Refused}
use Rattle.desk_law.specs.declared.ticket.Ticket.{Ticket}
use Rattle.desk_law.specs.Desk.{DeskState, lives}
use Rattle.desk_law.specs.Refusals.{Refuses}
use Rattle.desk_law.specs.Building.{Builds, new_ticket}
use Rattle.world_law.specs.declared.reply.Decided.{Decided}
use Rattle.world_law.specs.declared.reply.Decided.TheVariants as line
use Rattle.world_law.specs.declared.reply.Reply.TheVariants as reply
use Rattle.world_law.specs.World.{BenchSetting, World, commands_of, command_at}
use Rattle.world_law.specs.Builds.{is_tried_again, refuses, BuildsOf}
use Rattle.world_law.specs.Answers.{AcceptsOf}
use Rattle.world_law.specs.Runs.{is_recorded, decides_line}
use Rattle.bench_state.specs.States.{BenchState}
use Rattle.bench_state.specs.Held.{live_before, IsHeld, HasRooms}
use Rattle.bench_state.specs.Making.{Makes, wants, does}
use Rattle.bench_state.specs.Building.{RefusedFor, IsNotRefused, with_room_for, one_decided}
use Rattle.bench_state.proofs.CountLaws.{one_if, live_counted}
use Rattle.bench_state.proofs.NextLines.{has_commands, next_within, refused_more}

-- ---- the target of a unit

unit-at : (us : List RigUnit) (i : ℕ) (u : RigUnit) → slice_get us i ≡ Some u → slice_index_or us i u ≡ u
unit-at [] i u e = absurd cc
unit-at (x ∷ xs) zero u e = cc
unit-at (x ∷ xs) (suc i) u e = unit-at xs i u e

pub target_within : (version : ℕ) (us : List RigUnit) (retries limit i : ℕ) (u : RigUnit) → IsRig version us retries limit → slice_get us i ≡ Some u → u.target < 7
target_within version us retries limit i u h e =
    let found : IsUnit version (slice_index_or us i u) = h.in_range i u (slice_get_within us i u e) in
    omega (arith, found.in_range.target, ap (λ (x : RigUnit). x.target) (unit-at us i u e))

-- ---- one ticket more

one-more : (ks : List Ticket) (k : Ticket) → lives k ≡ true → count_by lives (ks ++ k ∷ []) ≡ count_by lives ks + 1
one-more ks k e = sum_by_push (λ (x : Ticket). one_if (lives x)) ks k ∙ ap (λ (b : Bool). count_by lives ks + one_if b) e

none-before : (m n : ℕ) (ks : List Ticket) (k : Ticket) → live_before n ks ≡ 0 → m ≤ n → m ≤ length ks → live_before m (ks ++ k ∷ []) ≡ 0
none-before zero n ks k e a b = refl
none-before (suc m) zero ks k e a b = absurd (omega (arith, a))
none-before (suc m) (suc n) [] k e a b = absurd (omega (arith, b))
none-before (suc m) (suc n) (x ∷ xs) k e a b =
    let rest : live_before m (xs ++ k ∷ []) ≡ 0 = none-before m n xs k (omega (arith, e, live_counted x (take n xs))) (omega (arith, a)) (omega (arith, b)) in
    omega (arith, e, rest, live_counted x (take n xs), live_counted x (take m (xs ++ k ∷ [])))

abbrev one_accepted : List (List Decided) → Line → ℕ → List (List Decided)
one_accepted lss l t = one_decided lss l.submitter (line.Accepted t)

pub accepted_held : (g : BenchSetting) (m new_m : List ℕ) (d new : DeskState) (lss : List (List Decided)) (live_count refused_total first_live then_first t : ℕ)
    (l : Line) (r : RequestData) → IsHeld g m d lss live_count refused_total first_live → Builds d m l r t new new_m → length new_m ≡ length m
    → l.number ≡ length (slice_index_or lss l.submitter []) → l.number < length (commands_of g l.submitter) → then_first ≤ first_live → then_first ≤ t → IsHeld g new_m new (one_accepted lss l t) (live_count + 1) refused_total then_first
accepted_held g m new_m d new lss live_count refused_total first_live then_first t l r h b size next there a c =
    let k : Ticket = new_ticket d l r b.chunks in
    record {
      size = size ∙ h.size;
      units = ap (λ (x : DeskState). x.units) b.desk ∙ h.units;
      submitters = ap (λ (x : DeskState). x.submitters) b.desk ∙ h.submitters;
      lines = length-set lss l.submitter (slice_index_or lss l.submitter [] ++ line.Accepted t ∷ []) ∙ h.lines;
      within = next_within g lss l (line.Accepted t) h.within next there;
      live = omega (arith, h.live, one-more d.tickets k refl, ap (λ (x : DeskState). count_by lives x.tickets) b.desk);
      refused = omega (arith, h.refused, refused_more lss l.submitter (line.Accepted t) (omega (arith, has_commands g.submitters l.submitter l.number there, h.lines)));
      first =
          ap (λ (x : DeskState). live_before then_first x.tickets) b.desk
          ∙ none-before then_first first_live d.tickets k h.first a (omega (arith, c, b.numbered));
    }

-- the room for one more report is there
pub accepted_rooms : (g : BenchSetting) (line_rooms then_rooms : List ℕ) (answer_count answer_room report_count report_room live_count then_room : ℕ)
    → HasRooms g line_rooms answer_count answer_room (report_count + live_count) report_room → then_rooms ≡ line_rooms → report_count + (live_count + 1) ≤ then_room
    → HasRooms g then_rooms answer_count answer_room (report_count + (live_count + 1)) then_room
accepted_rooms g line_rooms then_rooms answer_count answer_room report_count report_room live_count then_room h e room = record {
  lines = subst (λ (rs : List ℕ). (s : ℕ) → length (commands_of g s) ≤ slice_index_or rs s 0) (sym e) h.lines;
  answered = h.answered;
  answers = h.answers;
  reports = room;
}

-- both, where the rig stays
pub accepted_all : (g h : BenchSetting) (m new_m : List ℕ) (d new : DeskState) (lss new_lss : List (List Decided)) (line_rooms then_rooms : List ℕ)
    (live_count refused_total first_live then_first t answer_count answer_room report_count report_room then_count then_room : ℕ) (l : Line) (r : RequestData)
    → IsHeld g m d lss live_count refused_total first_live → HasRooms g line_rooms answer_count answer_room (report_count + live_count) report_room → h ≡ g
    → Builds d m l r t new new_m → length new_m ≡ length m → l.number ≡ length (slice_index_or lss l.submitter []) → l.number < length (commands_of g l.submitter)
    → then_first ≤ first_live → then_first ≤ t → new_lss ≡ one_accepted lss l t → then_rooms ≡ line_rooms → then_count ≡ report_count → then_count + (live_count + 1) ≤ then_room
    → IsHeld h new_m new new_lss (live_count + 1) refused_total then_first × HasRooms h then_rooms answer_count answer_room (then_count + (live_count + 1)) then_room
accepted_all g h m new_m d new lss new_lss line_rooms then_rooms live_count refused_total first_live then_first t answer_count answer_room report_count report_room then_count then_room l r held rooms same b size next there a c e f k room = (
  subst (λ (x : BenchSetting). IsHeld x new_m new new_lss (live_count + 1) refused_total then_first) (sym same)
      (subst (λ (xs : List (List Decided)). IsHeld g new_m new xs (live_count + 1) refused_total then_first) (sym e)
      (accepted_held g m new_m d new lss live_count refused_total first_live then_first t l r held b size next there a c)),
  subst (λ (x : BenchSetting). HasRooms x then_rooms answer_count answer_room (then_count + (live_count + 1)) then_room) (sym same)
      (subst (λ (n : ℕ). HasRooms g then_rooms answer_count answer_room (n + (live_count + 1)) then_room) (sym k)
      (accepted_rooms g line_rooms then_rooms answer_count answer_room report_count report_room live_count then_room rooms f (omega (arith, room, k)))),
)

-- ---- the world then

by-command : (o : Option Command) (c : Command) (old : World) (l : Line) (t : ℕ) (new_m : List ℕ) (new : DeskState) (bus : BusState) (lss : List (List Decided)) → o ≡ Some c
    → Builds old.desk old.memory l (plain c.request) t new new_m → bus ≡ with_room_for old.desk (plain c.request) old.bus → lss ≡ one_accepted old.lines l t
    → BuildsOf o old l (reply.Built t) (record old { memory = new_m; desk = new; bus = bus; lines = lss })
by-command o c old l t new_m new bus lss e b f n =
    subst (λ (x : Option Command). BuildsOf x old l (reply.Built t) (record old { memory = new_m; desk = new; bus = bus; lines = lss })) (sym e)
    (record {
      builds = b;
      world =
          ap (λ (x : BusState). record old { memory = new_m; desk = new; bus = x; lines = lss }) f
          ∙ ap (λ (x : List (List Decided)). record old { memory = new_m; desk = new; bus = with_room_for old.desk (plain c.request) old.bus; lines = x }) n;
    })

pub accepts_so : (b c : BenchState) (command : Command) (l : Line) (t : ℕ) (new_m : List ℕ) (new : DeskState) (bus : BusState) (lss : List (List Decided)) → b ≡ c
    → slice_get (slice_index_or b.setting.submitters l.submitter []) l.number ≡ Some command
    → Builds b.world.desk b.world.memory l (plain command.request) t new new_m → bus ≡ with_room_for b.world.desk (plain command.request) b.world.bus
    → lss ≡ one_accepted b.world.lines l t
    → BuildsOf (command_at c.setting l) c.world l (reply.Built t) (record b.world { memory = new_m; desk = new; bus = bus; lines = lss })
accepts_so b c command l t new_m new bus lss e is built f n =
    subst (λ (x : BenchState). BuildsOf (command_at x.setting l) x.world l (reply.Built t) (record b.world { memory = new_m; desk = new; bus = bus; lines = lss })) e
    (by-command (command_at b.setting l) command b.world l t new_m new bus lss is built f n)

-- ---- how Build answers

refused-by : (o : Option Command) (old new : World) (l : Line) (r : Refused) → RefusedFor o old r
    → new ≡ refuses (not (decides_line o (reply.Refused r))) old l r → BuildsOf o old l (reply.Refused r) new
refused-by None old new l r h n = absurd h
refused-by (Some c) old new l r h n = (h, n ∙ ap (λ (b : Bool). refuses b old l r) (twice (is_tried_again c.when_full r)))
  where
    twice : (b : Bool) → not (not b) ≡ b
    twice true = refl
    twice false = refl

pub build_refused : (g : BenchSetting) (old new : World) (caller : ℕ) (l : Line) (r : Refused) → RefusedFor (command_at g l) old r
    → new ≡ refuses (not (is_recorded g (step.Build l) (reply.Refused r))) old l r → Makes g old caller (step.Build l) (reply.Refused r) new
build_refused g old new caller l r h n = does (refused-by (command_at g l) old new l r h n)

pub build_accepted : (g : BenchSetting) (old new : World) (caller : ℕ) (l : Line) (t : ℕ) → BuildsOf (command_at g l) old l (reply.Built t) new
    → Makes g old caller (step.Build l) (reply.Built t) new
build_accepted g old new caller l t h = does h

pub build_wants : (g : BenchSetting) (old new : World) (caller : ℕ) (l : Line) → AcceptsOf (command_at g l) old → new ≡ old
    → Makes g old caller (step.Build l) reply.OutOfMemory new
build_wants g old new caller l h n = wants h refl n

-- ---- what a command tells

pub refused_for : (b c : BenchState) (command : Command) (l : Line) (r : Refused) → b ≡ c
    → slice_get (slice_index_or b.setting.submitters l.submitter []) l.number ≡ Some command → Refuses b.world.desk (plain command.request) r
    → RefusedFor (command_at c.setting l) c.world r
refused_for b c command l r e is h =
    subst (λ (x : BenchState). RefusedFor (command_at x.setting l) x.world r) e (subst (λ (o : Option Command). RefusedFor o b.world r) (sym is) h)

pub accepted_of : (b c : BenchState) (command : Command) (l : Line) → b ≡ c
    → slice_get (slice_index_or b.setting.submitters l.submitter []) l.number ≡ Some command → IsNotRefused b.world.desk (plain command.request)
    → AcceptsOf (command_at c.setting l) c.world
accepted_of b c command l e is h =
    subst (λ (x : BenchState). AcceptsOf (command_at x.setting l) x.world) e (subst (λ (o : Option Command). AcceptsOf o b.world) (sym is) h)

pub not_refused : (b c : BenchState) (command : Command) (l : Line) → b ≡ c
    → slice_get (slice_index_or b.setting.submitters l.submitter []) l.number ≡ Some command → AcceptsOf (command_at c.setting l) c.world
    → IsNotRefused b.world.desk (plain command.request)
not_refused b c command l e is h =
    subst (λ (o : Option Command). AcceptsOf o b.world) is (subst (λ (x : BenchState). AcceptsOf (command_at x.setting l) x.world) (sym e) h)
