-- A ticket keeps what Build gave it, and its line was accepted as this ticket.
use Rattle.std.proofs.Common.{arith, ◌≡◌, ◌<◌, ℕ, zero, suc, ◌+◌, Bool, true, false, List, [], ◌∷◌, ◌++◌, length, replicate, slice_get, slice_set, slice_index_or, Option, Some, None, refl, sym, ap, subst, ◌∙◌, ◌⊎◌, inl, inr}
use Rattle.std.proofs.lemmas.List.{get_or-set_same, length-set, length-append}
use Rattle.rig_types.specs.declared.commands.Command.{Command}
use Rattle.rig_types.specs.declared.acts.Act.{Act}
use Rattle.rig_types.specs.declared.acts.ActKind.{ActKind}
use Rattle.rig_types.specs.declared.acts.ActKind.TheVariants.{Abort, Device, Bus}
use Rattle.rig_types.specs.declared.step.Line.{Line}
use Rattle.rig_types.specs.declared.step.Step.{Step}
use Rattle.rig_types.specs.declared.step.Step.TheVariants as step
use Rattle.unit_law.specs.Request.{plain}
use Rattle.desk_law.specs.declared.refused.Refused.{Refused}
use Rattle.desk_law.specs.declared.ticket.Ticket.{Ticket}
use Rattle.desk_law.specs.Desk.{DeskState, no_ticket, ticket, is_sensing}
use Rattle.desk_law.specs.Rings.{done_ticket}
use Rattle.desk_law.specs.Building.{new_ticket}
use Rattle.desk_law.specs.Taking.{taken_by, taken, is_again, is_check}
use Rattle.world_law.specs.declared.reply.Decided.{Decided}
use Rattle.world_law.specs.declared.reply.Decided.TheVariants as line
use Rattle.world_law.specs.declared.reply.Reply.{Reply}
use Rattle.world_law.specs.declared.reply.Reply.TheVariants as reply
use Rattle.world_law.specs.declared.reply.Stop.{Stop}
use Rattle.world_law.specs.declared.reply.Stop.TheVariants as stop
use Rattle.world_law.specs.World.{BenchSetting, World, commands_of, lines_of, command_at, decided}
use Rattle.world_law.specs.Opening.{opened}
use Rattle.world_law.specs.Enabling.{MayBuild, Enabled}
use Rattle.world_law.specs.Repairs.{Fixes}
use Rattle.world_law.specs.Builds.{refuses, is_tried_again, BuildsBy, BuildsOf}
use Rattle.world_law.specs.Acts.{is_late, marks, aborts, device_resets, bus_resets, acts_by, ActsOf}
use Rattle.world_law.specs.Steps.{TakesOf, Does}
use Rattle.world_law.specs.Runs.{Moment, Steps, IsRun, last}
use Rattle.world_law.specs.Laws.{KeepsTicket, IsMatched}

-- ---- lists of tickets

abbrev at : List Ticket → ℕ → Ticket
at ks t = slice_index_or ks t no_ticket

same : (k : Ticket) → KeepsTicket k k
same k = record { line = refl; unit = refl; tag = refl; block = refl; direction = refl; pieces = refl }

set-keeps : (ks : List Ticket) (n : ℕ) (k : Ticket) → KeepsTicket (at ks n) k → (t : ℕ) → KeepsTicket (at ks t) (at (slice_set ks n k) t)
set-keeps [] n k h t = same no_ticket
set-keeps (x ∷ xs) zero k h zero = h
set-keeps (x ∷ xs) zero k h (suc t) = same (at xs t)
set-keeps (x ∷ xs) (suc n) k h zero = same x
set-keeps (x ∷ xs) (suc n) k h (suc t) = set-keeps xs n k h t

before-end : (ks : List Ticket) (k : Ticket) (t : ℕ) → t < length ks → at (ks ++ k ∷ []) t ≡ at ks t
before-end [] k t l = absurd (omega (arith, l))
before-end (x ∷ xs) k zero l = refl
before-end (x ∷ xs) k (suc t) l = before-end xs k t (omega (arith, l))

at-end : (ks : List Ticket) (k : Ticket) → at (ks ++ k ∷ []) (length ks) ≡ k
at-end [] k = refl
at-end (x ∷ xs) k = at-end xs k

-- ---- every step but Build leaves the lines, and keeps the tickets

record Stays (old new : World) : Type 0 where
  pub lines : new.lines ≡ old.lines
  pub many : length new.desk.tickets ≡ length old.desk.tickets
  pub kept : (t : ℕ) → KeepsTicket (ticket old.desk t) (ticket new.desk t)

still : (old new : World) → new.lines ≡ old.lines → new.desk.tickets ≡ old.desk.tickets → Stays old new
still old new l e = record {
  lines = l;
  many = ap (λ (ks : List Ticket). length ks) e;
  kept = λ t. subst (λ (ks : List Ticket). KeepsTicket (at old.desk.tickets t) (at ks t)) (sym e) (same (at old.desk.tickets t));
}

one : (old new : World) (n : ℕ) (k : Ticket) → new.lines ≡ old.lines → new.desk.tickets ≡ slice_set old.desk.tickets n k → KeepsTicket (ticket old.desk n) k → Stays old new
one old new n k l e h = record {
  lines = l;
  many = ap (λ (ks : List Ticket). length ks) e ∙ length-set old.desk.tickets n k;
  kept = λ t. subst (λ (ks : List Ticket). KeepsTicket (at old.desk.tickets t) (at ks t)) (sym e) (set-keeps old.desk.tickets n k h t);
}

led : (old made new : World) → new ≡ made → Stays old made → Stays old new
led old made new e h = subst (λ (w : World). Stays old w) (sym e) h

staged : (k : Ticket) (x : Ticket) → x.line ≡ k.line → x.unit ≡ k.unit → x.tag ≡ k.tag → x.block ≡ k.block → x.direction ≡ k.direction → x.pieces ≡ k.pieces → KeepsTicket k x
staged k x l u g b d p = record { line = l; unit = u; tag = g; block = b; direction = d; pieces = p }

taken-keeps : (sensing again check : Bool) (m : List ℕ) (k : Ticket) → KeepsTicket k (taken_by sensing again check m k)
taken-keeps true again check m k = staged k _ refl refl refl refl refl refl
taken-keeps false true check m k = staged k _ refl refl refl refl refl refl
taken-keeps false false true m k = staged k _ refl refl refl refl refl refl
taken-keeps false false false m k = staged k _ refl refl refl refl refl refl

takes : (o : Option ℕ) (old : World) (a : Reply) (new : World) → TakesOf o old a new → Stays old new
takes None old a new m = absurd m
takes (Some t) old a new m =
    let k : Ticket = ticket old.desk t in
    led old _ new m.1
    (one old _ t (taken old.desk old.memory k) refl refl (taken-keeps (is_sensing k.stage) (is_again old.desk old.memory k) (is_check old.desk old.memory k) old.memory k))

fixes : (old new : World) → Fixes old new → Stays old new
fixes old new h = elim h [
  | inl x ↦ still old new (ap (λ (w : World). w.lines) x.world) (ap (λ (w : World). w.desk.tickets) x.world)
  | inr x ↦ still old new (ap (λ (w : World). w.lines) x.1) (ap (λ (w : World). w.desk.tickets) x.1)
]

marks-stay : (late : Bool) (old : World) (t : ℕ) → Stays old (marks late old t).world
marks-stay true old t = still old _ refl refl
marks-stay false old t = still old _ refl refl

aborts-stay : (d : Decided) (old : World) → Stays old (aborts old d).world
aborts-stay line.Open old = still old _ refl refl
aborts-stay (line.Accepted t) old = marks-stay (is_late (ticket old.desk t).stage) old t
aborts-stay (line.Refused r) old = still old _ refl refl

fronts : (idle : Bool) (old : World) (target : ℕ) → Stays old (device_resets idle old target).world
fronts true old target = still old _ refl refl
fronts false old target = still old _ refl refl

bus-stays : (s : Stop) (old : World) → Stays old (bus_resets s old).world
bus-stays stop.Run old = still old _ refl refl
bus-stays stop.Mismatch old = still old _ refl refl
bus-stays stop.Clear old = still old _ refl refl
bus-stays stop.MustReset old = still old _ refl refl

acts : (k : ActKind) (old : World) → Stays old (acts_by old k).world
acts (Abort l) old = aborts-stay (decided old l) old
acts (Device target) old = fronts _ old target
acts Bus old = bus-stays old.stop old

acts-of : (o : Option Act) (old : World) (a : Reply) (new : World) → ActsOf o old a new → Stays old new
acts-of None old a new m = absurd m
acts-of (Some x) old a new m = led old (acts_by old x.kind).world new m.1 (acts x.kind old)

-- ---- Build: a line is decided, and a ticket is there where it was accepted

record IsAccepted (old : World) (l : Line) (new : World) : Type 0 where
  pub made : Ticket
  pub own : made.line ≡ l
  pub lines : new.lines ≡ slice_set old.lines l.submitter (lines_of old l.submitter ++ line.Accepted (length old.desk.tickets) ∷ [])
  pub tickets : new.desk.tickets ≡ old.desk.tickets ++ made ∷ []

record IsRefused (old : World) (l : Line) (new : World) : Type 0 where
  pub reason : Refused
  pub lines : new.lines ≡ slice_set old.lines l.submitter (lines_of old l.submitter ++ line.Refused reason ∷ [])
  pub tickets : new.desk.tickets ≡ old.desk.tickets

abbrev Decides : World → Line → World → Type 0
Decides old l new = Stays old new ⊎ (IsRefused old l new ⊎ IsAccepted old l new)

refused : (again : Bool) (old : World) (l : Line) (r : Refused) → Decides old l (refuses again old l r)
refused true old l r = inl (still old old refl refl)
refused false old l r = inr (inl (record { reason = r; lines = refl; tickets = refl }))

builds : (c : Command) (old : World) (l : Line) (a : Reply) (new : World) → BuildsBy old l c a new → Decides old l new
builds c old l (reply.Built t) new m = inr (inr (record {
  made = new_ticket old.desk l (plain c.request) m.builds.chunks;
  own = refl;
  lines = ap (λ (w : World). w.lines) m.world
      ∙ ap (λ (n : ℕ). slice_set old.lines l.submitter (lines_of old l.submitter ++ line.Accepted n ∷ [])) m.builds.numbered;
  tickets = ap (λ (d : DeskState). d.tickets) m.builds.desk;
}))
builds c old l (reply.Refused r) new m = subst (λ (w : World). Decides old l w) (sym m.1) (refused (is_tried_again c.when_full r) old l r)
builds c old l _ new m = absurd m

builds-of : (o : Option Command) (old : World) (l : Line) (a : Reply) (new : World) → BuildsOf o old l a new → Decides old l new
builds-of None old l a new m = absurd m
builds-of (Some c) old l a new m = builds c old l a new m

-- what a step makes of lines and tickets: only of a line that its submitter may build
abbrev Goes : BenchSetting → World → World → Type 0
Goes g old new = Stays old new ⊎ ((l : Line) × (l.number ≡ length (lines_of old l.submitter)) × (l.number < length (commands_of g l.submitter)) × (IsRefused old l new ⊎ IsAccepted old l new))

decides-goes : (g : BenchSetting) (caller : ℕ) (old : World) (l : Line) (new : World) → MayBuild g old caller l → Decides old l new → Goes g old new
decides-goes g caller old l new e (inl s) = inl s
decides-goes g caller old l new e (inr d) = inr (l, e.next, e.there, d)

goes : (g : BenchSetting) (old : World) (caller : ℕ) (s : Step) (a : Reply) (new : World) → Enabled g old caller s → Does g old caller s a new → Goes g old new
goes g old caller (step.Build l) a new e m = decides-goes g caller old l new e (builds-of (command_at g l) old l a new m)
goes g old caller (step.Link t) a new e m = inl (led old _ new m.1 (one old _ t _ refl refl (staged (ticket old.desk t) _ refl refl refl refl refl refl)))
goes g old caller (step.Queue t) a new e m = inl (led old _ new m.1 (one old _ t _ refl refl (staged (ticket old.desk t) _ refl refl refl refl refl refl)))
goes g old caller step.Signal a new e m = inl (led old _ new m.1 (still old _ refl refl))
goes g old caller (step.Chip word) a new e m = inl (led old _ new m.world (still old _ refl refl))
goes g old caller step.Fix a new e m = inl (fixes old new m.1)
goes g old caller (step.Sweep t) a new e m = inl (led old _ new m.1 (one old _ t _ refl refl (staged (ticket old.desk t) _ refl refl refl refl refl refl)))
goes g old caller step.Restart a new e m = inl (led old _ new m.1 (still old _ refl refl))
goes g old caller step.TakeDone a new e m = inl (takes (done_ticket old.memory old.desk) old a new m)
goes g old caller (step.Unlink t) a new e m = inl (led old _ new m.1 (one old _ t _ refl refl (staged (ticket old.desk t) _ refl refl refl refl refl refl)))
goes g old caller (step.Free t) a new e m =
    inl (one old new t _ (ap (λ (w : World). w.lines) m.world) (ap (λ (d : DeskState). d.tickets) m.frees.desk) (staged (ticket old.desk t) _ refl refl refl refl refl refl))
goes g old caller (step.Act k) a new e m = inl (acts-of (slice_get g.acts k) old a new m)
goes g old caller step.ResetBus a new e m = inl (led old _ new m.1 (still old _ refl refl))
goes g old caller (step.Sense t) a new e m = inl (led old _ new m.1 (one old _ t _ refl refl (staged (ticket old.desk t) _ refl refl refl refl refl refl)))

-- ---- a ticket that was built is kept

kept-by : (g : BenchSetting) (old new : World) → Goes g old new → (t : ℕ) → t < length old.desk.tickets → KeepsTicket (ticket old.desk t) (ticket new.desk t)
kept-by g old new (inl s) t l = s.kept t
kept-by g old new (inr (x, next, there, inl d)) t l =
    subst (λ (ks : List Ticket). KeepsTicket (at old.desk.tickets t) (at ks t)) (sym d.tickets) (same (at old.desk.tickets t))
kept-by g old new (inr (x, next, there, inr d)) t l =
    subst (λ (k : Ticket). KeepsTicket (at old.desk.tickets t) k) (sym (ap (λ (ks : List Ticket). at ks t) d.tickets ∙ before-end old.desk.tickets d.made t l))
    (same (at old.desk.tickets t))

pub keeps_tickets : (g : BenchSetting) (old : World) (m : Moment) (t : ℕ) → Steps g old m → t < length old.desk.tickets → KeepsTicket (ticket old.desk t) (ticket m.after.desk t)
keeps_tickets g old m t h l = kept-by g old m.after (goes g old m.entry.caller m.entry.step m.reply m.after h.enabled h.does) t l

-- ---- one line more that is decided

abbrev decided_in : List (List Decided) → Line → Decided
decided_in lss l = slice_index_or (slice_index_or lss l.submitter []) l.number line.Open

-- the entry at a place of a longer list: as before, or the new one where there was none
entry-more : (ls : List Decided) (x : Decided) (n : ℕ)
    → (slice_index_or (ls ++ x ∷ []) n line.Open ≡ slice_index_or ls n line.Open)
    ⊎ ((n ≡ length ls) × (slice_index_or (ls ++ x ∷ []) n line.Open ≡ x) × (slice_index_or ls n line.Open ≡ line.Open))
entry-more [] x zero = inr (refl, refl, refl)
entry-more [] x (suc n) = inl refl
entry-more (y ∷ ys) x zero = inl refl
entry-more (y ∷ ys) x (suc n) = elim (entry-more ys x n) [
  | inl e ↦ inl e
  | inr p ↦ inr (ap (λ (k : ℕ). suc k) p.0, p.1, p.2)
]

list-more : (lss : List (List Decided)) (s k : ℕ) (ls : List Decided) → (slice_index_or (slice_set lss s ls) k [] ≡ slice_index_or lss k []) ⊎ ((k ≡ s) × (slice_index_or (slice_set lss s ls) k [] ≡ ls))
list-more [] s k ls = inl refl
list-more (x ∷ xs) zero zero ls = inr (refl, refl)
list-more (x ∷ xs) zero (suc k) ls = inl refl
list-more (x ∷ xs) (suc s) zero ls = inl refl
list-more (x ∷ xs) (suc s) (suc k) ls = elim (list-more xs s k ls) [
  | inl e ↦ inl e
  | inr p ↦ inr (ap (λ (n : ℕ). suc n) p.0, p.1)
]

-- a line is decided as before, or it is the new one, which was open
abbrev IsNewLine : List (List Decided) → ℕ → Decided → List (List Decided) → Line → Type 0
IsNewLine lss s x new l = (l.submitter ≡ s) × (l.number ≡ length (slice_index_or lss s [])) × (decided_in new l ≡ x) × (decided_in lss l ≡ line.Open)

decided-more : (lss : List (List Decided)) (s : ℕ) (x : Decided) (l : Line)
    → (decided_in (slice_set lss s (slice_index_or lss s [] ++ x ∷ [])) l ≡ decided_in lss l) ⊎ IsNewLine lss s x (slice_set lss s (slice_index_or lss s [] ++ x ∷ [])) l
decided-more lss s x l =
    let ls : List Decided = slice_index_or lss s [] in
    elim (list-more lss s l.submitter (ls ++ x ∷ [])) [
      | inl e ↦ inl (ap (λ (ys : List Decided). slice_index_or ys l.number line.Open) e)
      | inr p ↦
          let here : slice_index_or lss l.submitter [] ≡ ls = ap (λ (n : ℕ). slice_index_or lss n []) p.0 in
          let now : decided_in (slice_set lss s (ls ++ x ∷ [])) l ≡ slice_index_or (ls ++ x ∷ []) l.number line.Open =
          ap (λ (ys : List Decided). slice_index_or ys l.number line.Open) p.1 in
          let was : decided_in lss l ≡ slice_index_or ls l.number line.Open = ap (λ (ys : List Decided). slice_index_or ys l.number line.Open) here in
          elim (entry-more ls x l.number) [
            | inl e ↦ inl (now ∙ e ∙ sym was)
            | inr q ↦ inr (p.0, q.0, now ∙ q.1, was ∙ q.2)
          ]
    ]

-- ---- lines and tickets match

same-line : (a b : Line) → a.submitter ≡ b.submitter → a.number ≡ b.number → a ≡ b
same-line a b s n =
    let with_submitter : ℕ → Line = λ x. record { submitter = x; number = a.number } in
    let with_number : ℕ → Line = λ x. record { submitter = b.submitter; number = x } in
    ap with_submitter s ∙ ap with_number n

stay-matched : (old new : World) → Stays old new → IsMatched old → IsMatched new
stay-matched old new s h = record {
  of_line = λ l t e.
      let was : decided old l ≡ line.Accepted t = ap (λ (lss : List (List Decided)). decided_in lss l) (sym s.lines) ∙ e in
      (omega (arith, (h.of_line l t was).0, s.many), (s.kept t).line ∙ (h.of_line l t was).1);
  of_ticket = λ t l.
      ap (λ (lss : List (List Decided)). decided_in lss (ticket new.desk t).line) s.lines ∙ ap (λ (x : Line). decided old x) (s.kept t).line
      ∙ h.of_ticket t (omega (arith, l, s.many));
}

refuse-matched : (old : World) (l : Line) (new : World) → IsRefused old l new → IsMatched old → IsMatched new
refuse-matched old l new d h = record {
  of_line = λ x t e. elim (decided-more old.lines l.submitter (line.Refused d.reason) x) [
    | inl q ↦
        let was : decided old x ≡ line.Accepted t = sym q ∙ ap (λ (lss : List (List Decided)). decided_in lss x) (sym d.lines) ∙ e in
        subst (λ (ks : List Ticket). (t < length ks) × ((at ks t).line ≡ x)) (sym d.tickets) (h.of_line x t was)
    | inr n ↦
        let c : line.Refused d.reason ≡ line.Accepted t = sym n.2 ∙ ap (λ (lss : List (List Decided)). decided_in lss x) (sym d.lines) ∙ e in absurd cc
  ];
  of_ticket = λ t b.
      let b' : t < length old.desk.tickets = subst (λ (ks : List Ticket). t < length ks) d.tickets b in
      let k : Line = (at old.desk.tickets t).line in
      let here : decided_in new.lines (at new.desk.tickets t).line ≡ decided_in (slice_set old.lines l.submitter (lines_of old l.submitter ++ line.Refused d.reason ∷ [])) k =
      ap (λ (ks : List Ticket). decided_in new.lines (at ks t).line) d.tickets ∙ ap (λ (lss : List (List Decided)). decided_in lss k) d.lines in
      elim (decided-more old.lines l.submitter (line.Refused d.reason) k) [
        | inl q ↦ here ∙ q ∙ h.of_ticket t b'
        | inr n ↦ let c : line.Open ≡ line.Accepted t = sym n.3 ∙ h.of_ticket t b' in absurd cc
      ];
}

last-or-before : (t n : ℕ) → t < n + 1 → (t < n) ⊎ (t ≡ n)
last-or-before zero zero l = inr refl
last-or-before zero (suc n) l = inl (omega arith)
last-or-before (suc t) zero l = absurd (omega (arith, l))
last-or-before (suc t) (suc n) l = elim (last-or-before t n (omega (arith, l))) [
  | inl h ↦ inl (omega (arith, h))
  | inr e ↦ inr (ap (λ (x : ℕ). suc x) e)
]

-- the new line, in lines that have a place for it
at-new : (lss : List (List Decided)) (l : Line) (x : Decided) → l.submitter < length lss → l.number ≡ length (slice_index_or lss l.submitter [])
    → decided_in (slice_set lss l.submitter (slice_index_or lss l.submitter [] ++ x ∷ [])) l ≡ x
at-new lss l x there next =
    ap (λ (ls : List Decided). slice_index_or ls l.number line.Open) (get_or-set_same lss l.submitter (slice_index_or lss l.submitter [] ++ x ∷ []) [] there)
    ∙ ap (λ (n : ℕ). slice_index_or (slice_index_or lss l.submitter [] ++ x ∷ []) n line.Open) next ∙ last-entry (slice_index_or lss l.submitter []) x
  where
    last-entry : (ls : List Decided) (y : Decided) → slice_index_or (ls ++ y ∷ []) (length ls) line.Open ≡ y
    last-entry [] y = refl
    last-entry (z ∷ zs) y = last-entry zs y

accept-matched : (old : World) (l : Line) (new : World) → l.submitter < length old.lines → l.number ≡ length (lines_of old l.submitter) → IsAccepted old l new → IsMatched old → IsMatched new
accept-matched old l new there next d h =
    let ks : List Ticket = old.desk.tickets in
    let lss : List (List Decided) = slice_set old.lines l.submitter (lines_of old l.submitter ++ line.Accepted (length ks) ∷ []) in
    let many : length new.desk.tickets ≡ length ks + 1 = ap (λ (xs : List Ticket). length xs) d.tickets ∙ length-append ks (d.made ∷ []) in
    record {
      of_line = λ x t e. elim (decided-more old.lines l.submitter (line.Accepted (length ks)) x) [
        | inl q ↦
            let was : decided old x ≡ line.Accepted t = sym q ∙ ap (λ (xss : List (List Decided)). decided_in xss x) (sym d.lines) ∙ e in
            let b : t < length ks = (h.of_line x t was).0 in
            (omega (arith, b, many), ap (λ (xs : List Ticket). (at xs t).line) d.tickets ∙ ap (λ (k : Ticket). k.line) (before-end ks d.made t b) ∙ (h.of_line x t was).1)
        | inr n ↦
            let c : line.Accepted (length ks) ≡ line.Accepted t = sym n.2 ∙ ap (λ (xss : List (List Decided)). decided_in xss x) (sym d.lines) ∙ e in
            let same-number : length ks ≡ t = cc in (
              omega (arith, same-number, many),
              ap (λ (xs : List Ticket). (at xs t).line) d.tickets ∙ ap (λ (k : ℕ). (at (ks ++ d.made ∷ []) k).line) (sym same-number) ∙ ap (λ (k : Ticket). k.line) (at-end ks d.made) ∙ d.own
                  ∙ sym (same-line x l n.0 (n.1 ∙ sym next)),
            )
      ];
      of_ticket = λ t b. elim (last-or-before t (length ks) (omega (arith, b, many))) [
        | inl b' ↦
            let k : Line = (at ks t).line in
            let here : decided_in new.lines (at new.desk.tickets t).line ≡ decided_in lss k =
            ap (λ (xs : List Ticket). decided_in new.lines (at xs t).line) d.tickets ∙ ap (λ (y : Ticket). decided_in new.lines y.line) (before-end ks d.made t b')
            ∙ ap (λ (xss : List (List Decided)). decided_in xss k) d.lines in
            elim (decided-more old.lines l.submitter (line.Accepted (length ks)) k) [
              | inl q ↦ here ∙ q ∙ h.of_ticket t b'
              | inr n ↦ let c : line.Open ≡ line.Accepted t = sym n.3 ∙ h.of_ticket t b' in absurd cc
            ]
        | inr e ↦
            ap (λ (xs : List Ticket). decided_in new.lines (at xs t).line) d.tickets ∙ ap (λ (n : ℕ). decided_in new.lines (at (ks ++ d.made ∷ []) n).line) e
            ∙ ap (λ (y : Ticket). decided_in new.lines y.line) (at-end ks d.made) ∙ ap (λ (y : Line). decided_in new.lines y) d.own
            ∙ ap (λ (xss : List (List Decided)). decided_in xss l) d.lines ∙ at-new old.lines l (line.Accepted (length ks)) there next
            ∙ ap (λ (n : ℕ). line.Accepted n) (sym e)
      ];
    }

-- ---- over runs

has-commands : (css : List (List Command)) (s n : ℕ) → n < length (slice_index_or css s []) → s < length css
has-commands [] s n h = absurd (omega (arith, h))
has-commands (cs ∷ css) zero n h = omega arith
has-commands (cs ∷ css) (suc s) n h = omega (arith, has-commands css s n h)

record Held (g : BenchSetting) (w : World) : Type 0 where
  pub many : length w.lines ≡ length g.submitters
  pub matched : IsMatched w

held-by : (g : BenchSetting) (old new : World) → Goes g old new → Held g old → Held g new
held-by g old new (inl s) h = record { many = ap (λ (lss : List (List Decided)). length lss) s.lines ∙ h.many; matched = stay-matched old new s h.matched }
held-by g old new (inr (l, next, there, inl d)) h = record {
  many = ap (λ (lss : List (List Decided)). length lss) d.lines ∙ length-set old.lines l.submitter _ ∙ h.many;
  matched = refuse-matched old l new d h.matched;
}
held-by g old new (inr (l, next, there, inr d)) h = record {
  many = ap (λ (lss : List (List Decided)). length lss) d.lines ∙ length-set old.lines l.submitter _ ∙ h.many;
  matched = accept-matched old l new (omega (arith, has-commands g.submitters l.submitter l.number there, h.many)) next d h.matched;
}

held : (g : BenchSetting) (w : World) (ms : List Moment) → Held g w → IsRun g w ms → Held g (last w ms)
held g w [] h r = h
held g w (m ∷ ms) h r = held g m.after ms (held-by g w m.after (goes g w m.entry.caller m.entry.step m.reply m.after r.0.enabled r.0.does) h) r.1

abbrev empties : ℕ → List (List Decided)
empties n = replicate n []

empty-at : (n s : ℕ) → slice_index_or (empties n) s [] ≡ []
empty-at zero s = refl
empty-at (suc n) zero = refl
empty-at (suc n) (suc s) = empty-at n s

empty-count : (n : ℕ) → length (empties n) ≡ n
empty-count zero = refl
empty-count (suc n) = omega (arith, empty-count n)

open-yet : (n : ℕ) (l : Line) → decided_in (empties n) l ≡ line.Open
open-yet n l = ap (λ (ls : List Decided). slice_index_or ls l.number line.Open) (empty-at n l.submitter)

opens-held : (g : BenchSetting) → Held g (opened g)
opens-held g = record {
  many = empty-count (length g.submitters);
  matched = record {
    of_line = λ l t e. let c : line.Open ≡ line.Accepted t = sym (open-yet (length g.submitters) l) ∙ e in absurd cc;
    of_ticket = λ t b. absurd (omega (arith, b));
  };
}

pub lines_match : (g : BenchSetting) (ms : List Moment) → IsRun g (opened g) ms → IsMatched (last (opened g) ms)
lines_match g ms r = (held g (opened g) ms (opens-held g) r).matched
