-- A submitter with one more line, and the room for it.
use Rattle.std.proofs.Common.{arith, ◌≡◌, ◌<◌, ◌≤◌, ◌+◌, ◌++◌, ◌∷◌, ℕ, zero, suc, List, [], length, slice_set, slice_index_or, vec_capacity, ◌⊎◌, inl, inr, Result, Ok, Err, OnOk, OnErr, refl, sym, ap, subst, ◌∙◌}
use Rattle.std.proofs.Math.Seq.{map-set_same}
use Rattle.std.proofs.lemmas.List.{length-set, length-append}
use Rattle.rig_types.specs.declared.acts.Act.{Act}
use Rattle.rig_types.specs.declared.commands.Command.{Command}
use Rattle.rig_types.specs.declared.rig.Rig.{Rig}
use Rattle.rig_types.specs.declared.work.Work.{Work}
use Rattle.rig_types.specs.Works.{extended}
use Rattle.desk_law.specs.Desk.{DeskState}
use Rattle.world_law.specs.declared.reply.Decided.{Decided}
use Rattle.world_law.specs.World.{BenchSetting, commands_of}
use Rattle.world_law.specs.Laws.{longer}
use Rattle.bench_state.specs.declared.state.Lines.{Lines}
use Rattle.bench_state.specs.States.{setting_of, decided_of, rooms_of}
use Rattle.bench_state.specs.Held.{IsHeld, HasRooms}

-- ---- room is made

pub decided_stay : (ls : List Lines) (s : ℕ) (old new : Lines) → old ≡ slice_index_or ls s old → new.decided.items ≡ old.decided.items
    → decided_of (slice_set ls s new) ≡ decided_of ls
decided_stay ls s old new is e =
    map-set_same (λ (l : Lines). l.decided.items) ls s new old (e ∙ ap (λ (l : Lines). l.decided.items) is)

pub rooms_grow : (ls : List Lines) (s : ℕ) (old new : Lines) → old ≡ slice_index_or ls s old → vec_capacity old.decided ≤ vec_capacity new.decided
    → (i : ℕ) → slice_index_or (rooms_of ls) i 0 ≤ slice_index_or (rooms_of (slice_set ls s new)) i 0
rooms_grow [] s old new is e i = omega arith
rooms_grow (x ∷ xs) zero old new is e zero = omega (arith, e, ap (λ (l : Lines). vec_capacity l.decided) is)
rooms_grow (x ∷ xs) zero old new is e (suc i) = omega arith
rooms_grow (x ∷ xs) (suc s) old new is e zero = omega arith
rooms_grow (x ∷ xs) (suc s) old new is e (suc i) = rooms_grow xs s old new is e i

pub room_there : (ls : List Lines) (s : ℕ) (new : Lines) → s < length ls → slice_index_or (rooms_of (slice_set ls s new)) s 0 ≡ vec_capacity new.decided
room_there [] s new h = absurd (omega (arith, h))
room_there (x ∷ xs) zero new h = refl
room_there (x ∷ xs) (suc s) new h = room_there xs s new (omega (arith, h))

pub more_rooms : (g : BenchSetting) (line_rooms then_rooms : List ℕ) (answer_count answer_room report_count report_room : ℕ)
    → HasRooms g line_rooms answer_count answer_room report_count report_room → ((s : ℕ) → slice_index_or line_rooms s 0 ≤ slice_index_or then_rooms s 0)
    → HasRooms g then_rooms answer_count answer_room report_count report_room
more_rooms g line_rooms then_rooms answer_count answer_room report_count report_room h more = record {
  lines = λ s. omega (arith, h.lines s, more s);
  answered = h.answered;
  answers = h.answers;
  reports = h.reports;
}

-- ---- the longer work

abbrev here : List (List Command) → ℕ → List Command
here css s = slice_index_or css s []

longer-fits : (css : List (List Command)) (f : ℕ → ℕ) (s : ℕ) (cs : List Command) → ((i : ℕ) → length (here css i) ≤ f i) → length cs ≤ f s
    → (i : ℕ) → length (here (slice_set css s cs) i) ≤ f i
longer-fits [] f s cs h e i = h i
longer-fits (x ∷ xs) f zero cs h e zero = e
longer-fits (x ∷ xs) f zero cs h e (suc i) = h (suc i)
longer-fits (x ∷ xs) f (suc s) cs h e zero = h zero
longer-fits (x ∷ xs) f (suc s) cs h e (suc i) = longer-fits xs (λ (k : ℕ). f (suc k)) s cs (λ k. h (suc k)) e i

longer-has : (css : List (List Command)) (f : ℕ → ℕ) (s : ℕ) (cs : List Command) → ((i : ℕ) → f i ≤ length (here css i)) → length (here css s) ≤ length cs
    → (i : ℕ) → f i ≤ length (here (slice_set css s cs) i)
longer-has [] f s cs h e i = h i
longer-has (x ∷ xs) f zero cs h e zero = omega (arith, h zero, e)
longer-has (x ∷ xs) f zero cs h e (suc i) = h (suc i)
longer-has (x ∷ xs) f (suc s) cs h e zero = h zero
longer-has (x ∷ xs) f (suc s) cs h e (suc i) = longer-has xs (λ (k : ℕ). f (suc k)) s cs (λ k. h (suc k)) e i

more-by-one : (cs : List Command) (c : Command) → length (cs ++ c ∷ []) ≡ length cs + 1
more-by-one cs c = length-append cs (c ∷ [])

pub longer_held : (g : BenchSetting) (m : List ℕ) (d : DeskState) (lss : List (List Decided)) (live_count refused_total first_live s : ℕ) (c : Command)
    → IsHeld g m d lss live_count refused_total first_live → IsHeld (longer g s c) m d lss live_count refused_total first_live
longer_held g m d lss live_count refused_total first_live s c h = record {
  size = h.size;
  units = h.units;
  submitters = h.submitters ∙ sym (length-set g.submitters s (commands_of g s ++ c ∷ []));
  lines = h.lines ∙ sym (length-set g.submitters s (commands_of g s ++ c ∷ []));
  within = longer-has g.submitters (λ (i : ℕ). length (slice_index_or lss i [])) s (commands_of g s ++ c ∷ []) h.within (omega (arith, more-by-one (commands_of g s) c));
  live = h.live;
  refused = h.refused;
  first = h.first;
}

pub longer_rooms : (g : BenchSetting) (line_rooms : List ℕ) (answer_count answer_room report_count report_room s : ℕ) (c : Command)
    → HasRooms g line_rooms answer_count answer_room report_count report_room → length (commands_of g s) + 1 ≤ slice_index_or line_rooms s 0
    → HasRooms (longer g s c) line_rooms answer_count answer_room report_count report_room
longer_rooms g line_rooms answer_count answer_room report_count report_room s c h room = record {
  lines = longer-fits g.submitters (λ (i : ℕ). slice_index_or line_rooms i 0) s (commands_of g s ++ c ∷ []) h.lines (omega (arith, room, more-by-one (commands_of g s) c));
  answered = h.answered;
  answers = h.answers;
  reports = h.reports;
}

-- a work that has the line has the longer setting, and one that hasn't the same
of-work : {A E : Type 0} (r : Result A E) (rig : Rig) (old new : Work) (s : ℕ) (c : Command) → OnOk r (new.submitters ≡ extended old.submitters s c)
    → OnErr r (new.submitters ≡ old.submitters) → new.acts ≡ old.acts
    → (setting_of rig new ≡ longer (setting_of rig old) s c) ⊎ (setting_of rig new ≡ setting_of rig old)
of-work r rig old new s c ok err acts = by r ok err
  where
    with-lines : (css : List (List Command)) → new.submitters ≡ css → setting_of rig new ≡ record (setting_of rig old) { submitters = css }
    with-lines css e =
        ap (λ (x : List (List Command)). record (setting_of rig new) { submitters = x }) e
        ∙ ap (λ (x : List Act). record (setting_of rig old) { submitters = css; acts = x }) acts

    by : {A E : Type 0} (r : Result A E) → OnOk r (new.submitters ≡ extended old.submitters s c) → OnErr r (new.submitters ≡ old.submitters)
        → (setting_of rig new ≡ longer (setting_of rig old) s c) ⊎ (setting_of rig new ≡ setting_of rig old)
    by (Ok x) e f = inl (with-lines (extended old.submitters s c) e)
    by (Err x) e f = inr (with-lines old.submitters f)

pub extended_all : {A E : Type 0} (r : Result A E) (rig : Rig) (old new : Work) (s : ℕ) (c : Command) (m : List ℕ) (d : DeskState) (lss then_lss : List (List Decided))
    (live_count refused_total first_live : ℕ) (line_rooms then_rooms : List ℕ) (answer_count answer_room report_count report_room : ℕ)
    → IsHeld (setting_of rig old) m d lss live_count refused_total first_live → HasRooms (setting_of rig old) line_rooms answer_count answer_room report_count report_room
    → OnOk r (new.submitters ≡ extended old.submitters s c) → OnErr r (new.submitters ≡ old.submitters) → new.acts ≡ old.acts → then_lss ≡ lss
    → ((i : ℕ) → slice_index_or line_rooms i 0 ≤ slice_index_or then_rooms i 0) → length (here old.submitters s) + 1 ≤ slice_index_or then_rooms s 0
    → IsHeld (setting_of rig new) m d then_lss live_count refused_total first_live × HasRooms (setting_of rig new) then_rooms answer_count answer_room report_count report_room
extended_all r rig old new s c m d lss then_lss live_count refused_total first_live line_rooms then_rooms answer_count answer_room report_count report_room h rooms ok err acts same more room =
    let kept : HasRooms (setting_of rig old) then_rooms answer_count answer_room report_count report_room =
    more_rooms (setting_of rig old) line_rooms then_rooms answer_count answer_room report_count report_room rooms more in
    let held : IsHeld (setting_of rig old) m d then_lss live_count refused_total first_live =
    subst (λ (x : List (List Decided)). IsHeld (setting_of rig old) m d x live_count refused_total first_live) (sym same) h in
    elim (of-work r rig old new s c ok err acts) [
      | inl e ↦ (
        subst (λ (g : BenchSetting). IsHeld g m d then_lss live_count refused_total first_live) (sym e)
            (longer_held (setting_of rig old) m d then_lss live_count refused_total first_live s c held),
        subst (λ (g : BenchSetting). HasRooms g then_rooms answer_count answer_room report_count report_room) (sym e)
            (longer_rooms (setting_of rig old) then_rooms answer_count answer_room report_count report_room s c kept room),
      )
      | inr e ↦ (
        subst (λ (g : BenchSetting). IsHeld g m d then_lss live_count refused_total first_live) (sym e) held,
        subst (λ (g : BenchSetting). HasRooms g then_rooms answer_count answer_room report_count report_room) (sym e) kept,
      )
    ]
