-- What Free makes of the counts, and where no ticket lives.
use Rattle.std.proofs.Common.{arith, ◌≡◌, ◌<◌, ◌≤◌, ◌+◌, ◌-◌, ◌++◌, ◌∷◌, Bool, true, false, not, ℕ, zero, suc, List, [], length, take, count_by, slice_set, slice_index_or, refl, ap, subst, ◌∙◌}
use Rattle.std.proofs.lemmas.List.{length-append}
use Rattle.rig_types.specs.declared.report.Report.{Report}
use Rattle.desk_law.specs.declared.stage.Stage.TheVariants.{Unlinked, Freed}
use Rattle.desk_law.specs.declared.ticket.Ticket.{Ticket}
use Rattle.desk_law.specs.Desk.{DeskState, no_ticket, ticket, lives, is_freed}
use Rattle.desk_law.specs.Calls.{staged, Frees}
use Rattle.desk_law.specs.Reporting.{report_at}
use Rattle.world_law.specs.declared.reply.Decided.{Decided}
use Rattle.world_law.specs.declared.reply.Reply.TheVariants as reply
use Rattle.world_law.specs.World.{BenchSetting}
use Rattle.world_law.specs.Steps.{FreesTicket}
use Rattle.bench_state.specs.States.{BenchState}
use Rattle.bench_state.specs.Held.{live_before, IsHeld, HasRooms}
use Rattle.bench_state.proofs.TicketLaws.{is_there}
use Rattle.bench_state.proofs.CountLaws.{one_if, live_counted, live_count_falls}

-- ---- where none lives

pub none_at_all : (n : ℕ) (ks : List Ticket) → 0 ≡ count_by lives ks → live_before n ks ≡ 0
none_at_all zero ks e = refl
none_at_all (suc n) [] e = refl
none_at_all (suc n) (k ∷ ks) e =
    let rest : live_before n ks ≡ 0 = none_at_all n ks (omega (arith, e, live_counted k ks)) in omega (arith, e, live_counted k ks, live_counted k (take n ks), rest)

more-before : (ks : List Ticket) (t : ℕ) → live_before (suc t) ks ≡ live_before t ks + one_if (lives (slice_index_or ks t no_ticket))
more-before [] zero = refl
more-before [] (suc t) = refl
more-before (k ∷ ks) zero = omega (arith, live_counted k [])
more-before (k ∷ ks) (suc t) = omega (arith, live_counted k (take (suc t) ks), live_counted k (take t ks), more-before ks t)

pub one_more_freed : (d : DeskState) (t : ℕ) → live_before t d.tickets ≡ 0 → is_freed (ticket d t).stage ≡ true → live_before (t + 1) d.tickets ≡ 0
one_more_freed d t e f =
    ap (λ (n : ℕ). live_before n d.tickets) (plus t) ∙ more-before d.tickets t
    ∙ ap (λ (b : Bool). live_before t d.tickets + one_if (not b)) f ∙ omega (arith, e)
  where
    plus : (n : ℕ) → n + 1 ≡ suc n
    plus n = omega arith

pub first_so : (b c : BenchState) (n : ℕ) → b ≡ c → live_before n b.world.desk.tickets ≡ 0 → live_before n c.world.desk.tickets ≡ 0
first_so b c n e h = subst (λ (x : BenchState). live_before n x.world.desk.tickets ≡ 0) e h

-- ---- one ticket less

pub unlinked_is_there : (d : DeskState) (t : ℕ) → (ticket d t).stage ≡ Unlinked → t < length d.tickets
unlinked_is_there d t e = is_there d t (ap is_freed e)

one-less : (d : DeskState) (t : ℕ) → (ticket d t).stage ≡ Unlinked → count_by lives (staged d t Freed).tickets + 1 ≡ count_by lives d.tickets
one-less d t e = live_count_falls d.tickets t (record (ticket d t) { stage = Freed }) (ap not (ap is_freed e)) refl

pub one_lives : (d : DeskState) (t live : ℕ) → live ≡ count_by lives d.tickets → (ticket d t).stage ≡ Unlinked → 1 ≤ live
one_lives d t live e f = omega (arith, e, one-less d t f)

before-falls : (n : ℕ) (ks : List Ticket) (t : ℕ) (k : Ticket) → lives k ≡ false → live_before n (slice_set ks t k) ≤ live_before n ks
before-falls zero ks t k e = omega arith
before-falls (suc n) [] t k e = omega arith
before-falls (suc n) (x ∷ xs) zero k e = omega (arith, live_counted k (take n xs), live_counted x (take n xs), ap (λ (b : Bool). one_if b) e)
before-falls (suc n) (x ∷ xs) (suc t) k e = omega (arith, live_counted x (take n (slice_set xs t k)), live_counted x (take n xs), before-falls n xs t k e)

pub freed_held : (g : BenchSetting) (m : List ℕ) (d new : DeskState) (lss : List (List Decided)) (live_count refused_total first_live t : ℕ)
    → IsHeld g m d lss live_count refused_total first_live → (ticket d t).stage ≡ Unlinked → Frees d t new → IsHeld g m new lss (live_count - 1) refused_total first_live
freed_held g m d new lss live_count refused_total first_live t h e f = record {
  size = h.size;
  units = ap (λ (x : DeskState). x.units) f.desk ∙ h.units;
  submitters = ap (λ (x : DeskState). x.submitters) f.desk ∙ h.submitters;
  lines = h.lines;
  within = h.within;
  live = omega (arith, h.live, one-less d t e, ap (λ (x : DeskState). count_by lives x.tickets) f.desk);
  refused = h.refused;
  first = omega (
    arith,
    h.first,
    before-falls first_live d.tickets t (record (ticket d t) { stage = Freed }) refl,
    ap (λ (x : DeskState). live_before first_live x.tickets) f.desk,
  );
}

pub freed_rooms_so : (g : BenchSetting) (line_rooms : List ℕ) (answer_count answer_room room new_room live_count : ℕ) (rs new : List Report) (r : Report) → 1 ≤ live_count
    → HasRooms g line_rooms answer_count answer_room (length rs + live_count) room → new ≡ rs ++ r ∷ [] → new_room ≡ room
    → HasRooms g line_rooms answer_count answer_room (length new + (live_count - 1)) new_room
freed_rooms_so g line_rooms answer_count answer_room room new_room live_count rs new r some h e f = record {
  lines = h.lines;
  answered = h.answered;
  answers = h.answers;
  reports = omega (arith, h.reports, some, length-append rs (r ∷ []), ap (λ (xs : List Report). length xs) e, f);
}

pub frees_so : (b c : BenchState) (d : DeskState) (r : Report) (new : List Report) (t : ℕ) → b ≡ c → Frees b.world.desk t d → r ≡ report_at b.world.desk b.world.memory t
    → new ≡ b.world.reports ++ r ∷ [] → FreesTicket c.world t reply.Made (record b.world { desk = d; reports = new })
frees_so b c d r new t e f k n =
    subst (λ (x : BenchState). FreesTicket x.world t reply.Made (record b.world { desk = d; reports = new })) e
    (record {
      answer_is = refl;
      frees = f;
      world = ap (λ (xs : List Report). record b.world { desk = d; reports = xs }) (n ∙ ap (λ (x : Report). b.world.reports ++ x ∷ []) k);
    })
