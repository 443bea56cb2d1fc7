-- One more line of a submitter is decided.
use Rattle.std.proofs.Common.{arith, ◌≡◌, ◌<◌, ◌≤◌, ◌+◌, ◌++◌, ◌∷◌, ℕ, zero, suc, List, [], length, slice_set, slice_get, slice_index_or, count_by, sum, vec_capacity, Some, refl, sym, ap, ◌∙◌}
use Rattle.std.proofs.Math.Seq.{map-set_same}
use Rattle.std.proofs.lemmas.List.{map-set, length-set, length-append}
use Rattle.std.proofs.lemmas.List.Sums.{sum_by-cons, sum_by_push, sum_by-set, count_by-le-length}
use Rattle.std.proofs.lemmas.Option.{slice_get_read}
use Rattle.rig_types.specs.declared.commands.Command.{Command}
use Rattle.rig_types.specs.Works.{counts_of}
use Rattle.rig_types.specs.declared.step.Line.{Line}
use Rattle.desk_law.specs.declared.refused.Refused.{Refused}
use Rattle.desk_law.specs.Desk.{DeskState}
use Rattle.world_law.specs.declared.reply.Decided.{Decided}
use Rattle.world_law.specs.declared.reply.Decided.TheVariants as line
use Rattle.world_law.specs.World.{BenchSetting, commands_of}
use Rattle.bench_state.specs.declared.state.Lines.{Lines}
use Rattle.bench_state.specs.States.{decided_of, rooms_of}
use Rattle.bench_state.specs.Held.{IsHeld, HasRooms}
use Rattle.bench_state.specs.Counting.{is_refused, refused_count}
use Rattle.bench_state.specs.Building.{one_decided, MayDecide}
use Rattle.bench_state.proofs.CountLaws.{one_if}

-- a submitter with a line is there
pub has_commands : (css : List (List Command)) (s n : ℕ) → n < length (slice_index_or css s []) → s < length css
has_commands [] s n h = absurd (omega (arith, h))
has_commands (cs ∷ css) zero n h = omega arith
has_commands (cs ∷ css) (suc s) n h = omega (arith, has_commands css s n h)

same-commands : (css : List (List Command)) (s : ℕ) (cs : List Command) → s < length css → cs ≡ slice_index_or css s cs → slice_index_or css s [] ≡ cs
same-commands [] s cs h e = absurd (omega (arith, h))
same-commands (x ∷ xs) zero cs h e = sym e
same-commands (x ∷ xs) (suc s) cs h e = same-commands xs s cs (omega (arith, h)) e

pub command_there : (css xs : List (List Command)) (s n : ℕ) (cs ds : List Command) (c : Command) → n < length (slice_index_or css s []) → xs ≡ css
    → cs ≡ slice_index_or xs s cs → ds ≡ cs → c ≡ slice_index_or ds n c → slice_get (slice_index_or css s []) n ≡ Some c
command_there css xs s n cs ds c h same e again f =
    let at : cs ≡ slice_index_or css s cs = e ∙ ap (λ (ys : List (List Command)). slice_index_or ys s cs) same in
    let is : slice_index_or css s [] ≡ ds = same-commands css s cs (has_commands css s n h) at ∙ sym again in
    ap (λ (ys : List Command). slice_get ys n) is
    ∙ slice_get_read ds (length ds) n c refl (omega (arith, h, ap (λ (ys : List Command). length ys) is)) f

pub one_submitter_few : (css : List (List Command)) (s : ℕ) → length (slice_index_or css s []) ≤ sum (counts_of css)
one_submitter_few [] s = omega arith
one_submitter_few (cs ∷ css) zero = omega (arith, sum_by-cons (λ (n : ℕ). n) (length cs) (counts_of css))
one_submitter_few (cs ∷ css) (suc s) = omega (arith, sum_by-cons (λ (n : ℕ). n) (length cs) (counts_of css), one_submitter_few css s)

-- ---- the lists of the code

pub lines_at : (ls : List Lines) (s : ℕ) (old : Lines) → s < length ls → old ≡ slice_index_or ls s old → slice_index_or (decided_of ls) s [] ≡ old.decided.items
lines_at [] s old h e = absurd (omega (arith, h))
lines_at (x ∷ xs) zero old h e = ap (λ (l : Lines). l.decided.items) (sym e)
lines_at (x ∷ xs) (suc s) old h e = lines_at xs s old (omega (arith, h)) e

pub there : (ls : List Lines) (s : ℕ) → s < length (decided_of ls) → s < length ls
there [] s h = h
there (x ∷ xs) zero h = omega arith
there (x ∷ xs) (suc s) h = omega (arith, there xs s (omega (arith, h)))

pub rooms_at : (ls : List Lines) (s : ℕ) (old : Lines) → s < length ls → old ≡ slice_index_or ls s old → slice_index_or (rooms_of ls) s 0 ≡ vec_capacity old.decided
rooms_at [] s old h e = absurd (omega (arith, h))
rooms_at (x ∷ xs) zero old h e = ap (λ (l : Lines). vec_capacity l.decided) (sym e)
rooms_at (x ∷ xs) (suc s) old h e = rooms_at xs s old (omega (arith, h)) e

pub next_decided : (ls : List Lines) (s : ℕ) (old new : Lines) (x : Decided) → s < length ls → old ≡ slice_index_or ls s old
    → new.decided.items ≡ old.decided.items ++ x ∷ [] → decided_of (slice_set ls s new) ≡ one_decided (decided_of ls) s x
next_decided ls s old new x there is e =
    map-set (λ (l : Lines). l.decided.items) ls s new
    ∙ ap (λ (ds : List Decided). slice_set (decided_of ls) s ds) (e ∙ ap (λ (ds : List Decided). ds ++ x ∷ []) (sym (lines_at ls s old there is)))

pub rooms_stay : (ls : List Lines) (s : ℕ) (old new : Lines) → old ≡ slice_index_or ls s old → vec_capacity new.decided ≡ vec_capacity old.decided
    → rooms_of (slice_set ls s new) ≡ rooms_of ls
rooms_stay ls s old new is e =
    map-set_same (λ (l : Lines). vec_capacity l.decided) ls s new old (e ∙ ap (λ (l : Lines). vec_capacity l.decided) is)

-- ---- counts

pub within_more : (f : ℕ → ℕ) (lss : List (List Decided)) (s : ℕ) (xs : List Decided) → ((i : ℕ) → length (slice_index_or lss i []) ≤ f i) → length xs ≤ f s
    → (i : ℕ) → length (slice_index_or (slice_set lss s xs) i []) ≤ f i
within_more f [] s xs h e i = h i
within_more f (ls ∷ lss) zero xs h e zero = e
within_more f (ls ∷ lss) zero xs h e (suc i) = h (suc i)
within_more f (ls ∷ lss) (suc s) xs h e zero = h zero
within_more f (ls ∷ lss) (suc s) xs h e (suc i) = within_more (λ (k : ℕ). f (suc k)) lss s xs (λ k. h (suc k)) e i

pub refused_more : (lss : List (List Decided)) (s : ℕ) (x : Decided) → s < length lss
    → refused_count (one_decided lss s x) ≡ refused_count lss + one_if (is_refused x)
refused_more lss s x there =
    let counted : List Decided → ℕ = λ (ls : List Decided). count_by is_refused ls in
    let pushed : counted (slice_index_or lss s [] ++ x ∷ []) ≡ counted (slice_index_or lss s []) + one_if (is_refused x) =
    sum_by_push (λ (d : Decided). one_if (is_refused d)) (slice_index_or lss s []) x in
    omega (arith, pushed, sum_by-set counted lss s (slice_index_or lss s [] ++ x ∷ []) [] there)

pub refused_few : (lss : List (List Decided)) (css : List (List Command)) → ((s : ℕ) → length (slice_index_or lss s []) ≤ length (slice_index_or css s []))
    → refused_count lss ≤ sum (counts_of css)
refused_few [] css h = omega arith
refused_few (ls ∷ lss) [] h =
    omega (arith, h zero, sum_by-cons (λ (ds : List Decided). count_by is_refused ds) ls lss, count_by-le-length is_refused ls, refused_few lss [] (λ s. h (suc s)))
refused_few (ls ∷ lss) (cs ∷ css) h =
    omega (
      arith,
      h zero,
      sum_by-cons (λ (ds : List Decided). count_by is_refused ds) ls lss,
      sum_by-cons (λ (n : ℕ). n) (length cs) (counts_of css),
      count_by-le-length is_refused ls,
      refused_few lss css (λ s. h (suc s)),
    )

-- ---- a submitter's next line

pub may_decide : (g : BenchSetting) (m : List ℕ) (d : DeskState) (lss : List (List Decided)) (live_count refused_total first_live : ℕ) (line_rooms : List ℕ)
    (answer_count answer_room report_count report_room : ℕ) (l : Line) → IsHeld g m d lss live_count refused_total first_live
    → HasRooms g line_rooms answer_count answer_room report_count report_room → sum (counts_of g.submitters) ≤ 2147483648
    → l.number ≡ length (slice_index_or lss l.submitter []) → l.number < length (commands_of g l.submitter) → MayDecide lss line_rooms l.submitter
may_decide g m d lss live_count refused_total first_live line_rooms answer_count answer_room report_count report_room l h rooms few next there = record {
  there = omega (arith, has_commands g.submitters l.submitter l.number there, h.lines);
  room = omega (arith, next, there, rooms.lines l.submitter);
  few = omega (arith, next, there, few, one_submitter_few g.submitters l.submitter);
}

pub refused_within : (g : BenchSetting) (m : List ℕ) (d : DeskState) (lss : List (List Decided)) (live_count refused_total first_live : ℕ)
    → IsHeld g m d lss live_count refused_total first_live → sum (counts_of g.submitters) ≤ 2147483648 → refused_total ≤ 2147483648
refused_within g m d lss live_count refused_total first_live h few = omega (arith, h.refused, few, refused_few lss g.submitters h.within)

-- one line more is within the commands
pub next_within : (g : BenchSetting) (lss : List (List Decided)) (l : Line) (x : Decided)
    → ((s : ℕ) → length (slice_index_or lss s []) ≤ length (commands_of g s)) → l.number ≡ length (slice_index_or lss l.submitter [])
    → l.number < length (commands_of g l.submitter) → (s : ℕ) → length (slice_index_or (one_decided lss l.submitter x) s []) ≤ length (commands_of g s)
next_within g lss l x h next there =
    within_more (λ (s : ℕ). length (commands_of g s)) lss l.submitter (slice_index_or lss l.submitter [] ++ x ∷ []) h
    (omega (arith, next, there, length-append (slice_index_or lss l.submitter []) (x ∷ [])))

pub refused_held : (g : BenchSetting) (m : List ℕ) (d : DeskState) (lss : List (List Decided)) (live_count refused_total first_live : ℕ) (l : Line) (r : Refused)
    → IsHeld g m d lss live_count refused_total first_live → l.number ≡ length (slice_index_or lss l.submitter [])
    → l.number < length (commands_of g l.submitter) → IsHeld g m d (one_decided lss l.submitter (line.Refused r)) live_count (refused_total + 1) first_live
refused_held g m d lss live_count refused_total first_live l r h next there = record {
  size = h.size;
  units = h.units;
  submitters = h.submitters;
  lines = length-set lss l.submitter (slice_index_or lss l.submitter [] ++ line.Refused r ∷ []) ∙ h.lines;
  within = next_within g lss l (line.Refused r) h.within next there;
  live = h.live;
  refused = omega (arith, h.refused, refused_more lss l.submitter (line.Refused r) (omega (arith, has_commands g.submitters l.submitter l.number there, h.lines)));
  first = h.first;
}
