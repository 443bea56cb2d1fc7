-- The tickets of a run are numbered as they were accepted, and every report is of one of them, at most once.
use Rattle.std.proofs.Common.{arith, ◌≡◌, ◌≢◌, ◌<◌, ℕ, zero, suc, ◌+◌, ◌==◌, ◌||◌, not, Bool, true, false, List, [], ◌∷◌, ◌++◌, length, slice_index_or, Option, Some, None, refl, sym, ap, subst, ◌∙◌, inl, inr}
use Rattle.std.specs.List.{All, AllPairs, list_any, range_with_len, cons_option}
use Rattle.std.proofs.lemmas.List.Elements.{All-append}
use Rattle.std.proofs.lemmas.List.Quantifiers.{all_pairs_push}
use Rattle.rig_types.specs.declared.report.Report.{Report}
use Rattle.desk_law.specs.Desk.{ticket, is_freed}
use Rattle.world_law.specs.declared.reply.Reply.{Reply}
use Rattle.world_law.specs.World.{BenchSetting, World}
use Rattle.world_law.specs.Opening.{opened}
use Rattle.world_law.specs.Runs.{Moment, Steps, IsRun, last, built, accepted}
use Rattle.world_law.specs.Laws.{is_report_of, NumbersTickets}
use Rattle.world_law.specs.Lines.{drained}
use Rattle.world_law.proofs.Effects.{IsTold, Counted, OneReport, Effect, not-freed-within, effect}
use Rattle.world_law.proofs.Drained.{drained-freed}
use Rattle.world_law.proofs.Tickets.{freed_stays, was_freed, grown}

-- ---- reports

abbrev IsOfFreed : World → Report → Type 0
IsOfFreed w r = (r.ticket < length w.desk.tickets) × (is_freed (ticket w.desk r.ticket).stage ≡ true)

abbrev AreOfTwo : Report → Report → Type 0
AreOfTwo a b = a.ticket ≢ b.ticket

record Reported (w : World) : Type 0 where
  pub each : All (IsOfFreed w) w.reports
  pub once : AllPairs AreOfTwo w.reports
  pub all : (t : ℕ) → t < length w.desk.tickets → is_freed (ticket w.desk t).stage ≡ true → IsTold w.reports t

still-freed : (g : BenchSetting) (caller : ℕ) (old : World) (a : Reply) (new : World) → Effect g caller old a new → (r : Report) → IsOfFreed old r → IsOfFreed new r
still-freed g caller old a new x r h = (
  omega (arith, h.0, grown old.desk.tickets new.desk.tickets (built a) x.counted),
  freed_stays caller old.desk.tickets new.desk.tickets new.reports x.tickets r.ticket h.0 h.1,
)

one : (P : Report → Type 0) (r : Report) → P r → All P (r ∷ [])
one P r h = λ k d l. at-one k d l
  where
    at-one : (k : ℕ) (d : Report) → k < length (r ∷ []) → P (slice_index_or (r ∷ []) k d)
    at-one zero d l = h
    at-one (suc k) d l = absurd (omega (arith, l))

-- who was told of is told of
told-on : (rs qs : List Report) (t : ℕ) → IsTold rs t → IsTold (rs ++ qs) t
told-on [] qs t h = absurd cc
told-on (r ∷ rs) qs t h = either-told (r.ticket == t) (list_any (is_report_of t) rs) (list_any (is_report_of t) (rs ++ qs)) h (told-on rs qs t)
  where
    either-told : (a b c : Bool) → a || b ≡ true → (b ≡ true → c ≡ true) → a || c ≡ true
    either-told true b c h k = refl
    either-told false b c h k = k h

told-still : (g : BenchSetting) (caller : ℕ) (old : World) (a : Reply) (new : World) → Effect g caller old a new → (t : ℕ) → IsTold old.reports t → IsTold new.reports t
told-still g caller old a new x t h = elim x.reports [
  | inl e ↦ subst (λ (rs : List Report). IsTold rs t) (sym e) h
  | inr r ↦ subst (λ (rs : List Report). IsTold rs t) (sym r.are) (told-on old.reports (r.report ∷ []) t h)
]

all-told : (g : BenchSetting) (caller : ℕ) (old : World) (a : Reply) (new : World) → Effect g caller old a new → Reported old → (t : ℕ) → t < length new.desk.tickets → is_freed (ticket new.desk t).stage ≡ true
    → IsTold new.reports t
all-told g caller old a new x h t l f = elim (was_freed caller old.desk.tickets new.desk.tickets new.reports x.tickets t l f) [
  | inl was ↦ told-still g caller old a new x t (h.all t was.0 was.1)
  | inr told ↦ told
]

two-stages : (w : World) (a b : Report) → is_freed (ticket w.desk a.ticket).stage ≡ true → is_freed (ticket w.desk b.ticket).stage ≡ false → AreOfTwo a b
two-stages w a b f l e =
    let c : true ≡ false = sym f ∙ ap (λ (t : ℕ). is_freed (ticket w.desk t).stage) e ∙ l in absurd cc

reported-more : (g : BenchSetting) (caller : ℕ) (old : World) (a : Reply) (new : World) → Effect g caller old a new → Reported old → OneReport old new → Reported new
reported-more g caller old a new x h r = record {
  each = subst (λ (rs : List Report). All (IsOfFreed new) rs) (sym r.are)
      (All-append (IsOfFreed new) old.reports (r.report ∷ []) (λ k d l. still-freed g caller old a new x (slice_index_or old.reports k d) (h.each k d l))
      (one (IsOfFreed new) r.report
      (omega (arith, not-freed-within old.desk.tickets r.report.ticket r.live, grown old.desk.tickets new.desk.tickets (built a) x.counted), r.freed)));
  once = subst (λ (rs : List Report). AllPairs AreOfTwo rs) (sym r.are)
      (all_pairs_push AreOfTwo old.reports r.report h.once (λ k d l. two-stages old (slice_index_or old.reports k d) r.report (h.each k d l).1 r.live));
  all = all-told g caller old a new x h;
}

reported-same : (g : BenchSetting) (caller : ℕ) (old : World) (a : Reply) (new : World) → Effect g caller old a new → Reported old → new.reports ≡ old.reports → Reported new
reported-same g caller old a new x h e = record {
  each = subst (λ (rs : List Report). All (IsOfFreed new) rs) (sym e) (λ k d l. still-freed g caller old a new x (slice_index_or old.reports k d) (h.each k d l));
  once = subst (λ (rs : List Report). AllPairs AreOfTwo rs) (sym e) h.once;
  all = all-told g caller old a new x h;
}

reported : (g : BenchSetting) (caller : ℕ) (old : World) (a : Reply) (new : World) → Effect g caller old a new → Reported old → Reported new
reported g caller old a new x h = elim x.reports [
  | inl e ↦ reported-same g caller old a new x h e
  | inr r ↦ reported-more g caller old a new x h r
]

-- ---- numbers

abbrev consed : Option ℕ → List ℕ → List ℕ
consed None xs = xs
consed (Some x) xs = x ∷ xs

accepted-as : (m : Moment) (ms : List Moment) (p : Option ℕ) → built m.reply ≡ p → accepted (m ∷ ms) ≡ consed p (accepted ms)
accepted-as m ms None e = ap (λ (x : Option ℕ). cons_option x (accepted ms)) e
accepted-as m ms (Some t) e = ap (λ (x : Option ℕ). cons_option x (accepted ms)) e

record Numbered (w : World) (ms : List Moment) : Type 0 where
  pub n : ℕ
  pub are : accepted ms ≡ range_with_len (length w.desk.tickets) n
  pub many : length (last w ms).desk.tickets ≡ length w.desk.tickets + n
  pub reports : Reported (last w ms)

one-more : (w : World) (m : Moment) (ms : List Moment) → Counted w.desk.tickets (built m.reply) m.after.desk.tickets → Numbered m.after ms → Numbered w (m ∷ ms)
one-more w m ms c x = elim c [
  | inl h ↦ record {
    n = x.n;
    are = accepted-as m ms None h.0 ∙ x.are ∙ ap (λ (k : ℕ). range_with_len k x.n) h.1;
    many = x.many ∙ ap (λ (k : ℕ). k + x.n) h.1;
    reports = x.reports;
  }
  | inr h ↦ record {
    n = suc x.n;
    are = accepted-as m ms (Some (length w.desk.tickets)) h.0 ∙ ap (λ (ts : List ℕ). length w.desk.tickets ∷ ts) (x.are ∙ ap (λ (k : ℕ). range_with_len k x.n) h.1);
    many = omega (arith, x.many, h.1);
    reports = x.reports;
  }
]

numbers : (g : BenchSetting) (w : World) (ms : List Moment) → Reported w → IsRun g w ms → Numbered w ms
numbers g w [] h r = record { n = 0; are = refl; many = omega arith; reports = h }
numbers g w (m ∷ ms) h r =
    let x : Effect g m.entry.caller w m.reply m.after = effect g w m.entry.caller m.entry.step m.reply m.after r.0.enabled r.0.does in
    one-more w m ms x.counted (numbers g m.after ms (reported g m.entry.caller w m.reply m.after x h) r.1)

none-yet : (g : BenchSetting) → Reported (opened g)
none-yet g = record { each = λ k d l. absurd (omega (arith, l)); once = λ i j d l m. absurd (omega (arith, m)); all = λ t l f. absurd (omega (arith, l)) }

zero-plus : (n : ℕ) → 0 + n ≡ n
zero-plus n = omega arith

was-freed : (b : Bool) → not b ≡ false → b ≡ true
was-freed true h = refl
was-freed false h = absurd cc

pub numbers_tickets : (g : BenchSetting) (ms : List Moment) → IsRun g (opened g) ms → NumbersTickets (opened g) ms
numbers_tickets g ms r =
    let x : Numbered (opened g) ms = numbers g (opened g) ms (none-yet g) r in
    record {
      numbered = x.are ∙ ap (λ (k : ℕ). range_with_len 0 k) (sym (x.many ∙ zero-plus x.n));
      reported = λ k d l. (x.reports.each k d l).0;
      once = x.reports.once;
      all = λ t l f. x.reports.all t l (was-freed (is_freed (ticket (last (opened g) ms).desk t).stage) f);
    }

pub reports_all : (g : BenchSetting) (ms : List Moment) (t : ℕ) → IsRun g (opened g) ms → drained g (last (opened g) ms) ≡ true → t < length (last (opened g) ms).desk.tickets → IsTold (last (opened g) ms).reports t
reports_all g ms t r d l =
    let x : NumbersTickets (opened g) ms = numbers_tickets g ms r in
    x.all t l (ap not (drained-freed g (last (opened g) ms) d t))

pub freed_stays_so : (g : BenchSetting) (old : World) (m : Moment) (t : ℕ) → Steps g old m → t < length old.desk.tickets → not (is_freed (ticket old.desk t).stage) ≡ false
    → not (is_freed (ticket m.after.desk t).stage) ≡ false
freed_stays_so g old m t h l f =
    let x : Effect g m.entry.caller old m.reply m.after = effect g old m.entry.caller m.entry.step m.reply m.after h.enabled h.does in
    ap not (freed_stays m.entry.caller old.desk.tickets m.after.desk.tickets m.after.reports x.tickets t l (was-freed (is_freed (ticket old.desk t).stage) f))
