-- What a submitter's steps are answered: in a world, and to its seat.
use Rattle.std.proofs.Common.{arith, ◌≡◌, ◌<◌, ◌⊎◌, ℕ, Bool, true, false, not, List, [], ◌∷◌, ◌++◌, length, Option, Some, None, refl, sym, ap, subst, ◌∙◌, inl, inr, MatchBool}
use Rattle.rig_types.specs.declared.step.Line.{Line}
use Rattle.rig_types.specs.declared.step.Step.{Step}
use Rattle.rig_types.specs.declared.step.Step.TheVariants as step
use Rattle.rig_types.specs.declared.commands.Command.{Command}
use Rattle.rig_types.specs.declared.commands.WhenFull.{WhenFull}
use Rattle.bench_lock.specs.Log.{entry, added, entries_of}
use Rattle.bench_lock.specs.declared.view.View.{View}
use Rattle.bench_lock.specs.Views.{IsOwn}
use Rattle.bench_lock.specs.Stepped.{Stepped}
use Rattle.desk_law.specs.declared.refused.Refused.{Refused}
use Rattle.world_law.specs.declared.reply.Decided.{Decided}
use Rattle.world_law.specs.declared.reply.Decided.TheVariants as line
use Rattle.world_law.specs.declared.reply.Reply.{Reply}
use Rattle.world_law.specs.declared.reply.Reply.TheVariants as reply
use Rattle.world_law.specs.World.{BenchSetting, World, lines_of, command_at}
use Rattle.world_law.specs.Lines.{drained}
use Rattle.world_law.specs.Builds.{refuses, is_tried_again, BuildsBy, BuildsOf}
use Rattle.world_law.specs.Runs.{Moment, decides_line, is_recorded}
use Rattle.world_law.specs.Answers.{MayWant, Answers, at_limit, not_now, no_memory, done}
use Rattle.world_law.proofs.Recorded.{noted}
use Rattle.seat_law.specs.Worlds.{pair_of, LeadsTo, Allows}
use Rattle.seat_law.specs.Standing.{Standing, rests, has_built, has_linked, owes, StandsIn, IsNext, after_next, IsAt}
use Rattle.seat_law.specs.Outcomes.{SeesFull, Waits, Decides, NextAnswered, BuildAnswered, IsLineOf}
use Rattle.seat_law.specs.Laws.{IsMade, IsFull}
use Rattle.seat_law.proofs.ListWorlds.{leads_on}
use Rattle.seat_law.proofs.Sizes.{IsSized, sized}
use Rattle.seat_law.proofs.Others.{others_leave}
use Rattle.seat_law.proofs.Places.{next_does, next_enabled, builds_one, rests_still, lines-more}

-- ---- the next step after Build

wants-none : (g : BenchSetting) (w : World) (p : Standing) (x : Step) → IsNext p x → MayWant g w x → ⊥
wants-none g w rests x e m = e
wants-none g w (has_built t) x e m = subst (λ (y : Step). MayWant g w y) e m
wants-none g w (has_linked t) x e m = subst (λ (y : Step). MayWant g w y) e m
wants-none g w owes x e m = subst (λ (y : Step). MayWant g w y) e m

pub answered : (g : BenchSetting) (es : List (ℕ × Step)) (old : World) (s : ℕ) (p : Standing) (x : Step) (answer : Reply) (new : World) → s < length g.submitters
    → LeadsTo g es old → StandsIn old s p → IsNext p x → Answers g (length es) old s x answer new → IsMade s p old answer new ⊎ IsFull g (length es) old answer new
answered g es old s p x a new below h at e (at_limit full live is same) = inr (record { full = full; left = live; answer_is = is; same = same })
answered g es old s p x a new below h at e (not_now free not is same) = absurd (not (next_enabled g s p x old at e))
answered g es old s p x a new below h at e (no_memory free may want is same) = absurd (wants-none g old p x e want)
answered g es old s p x a new below h at e (done free may does) =
    let z : IsSized g old = sized g es old h in
    inl (next_does g s p x old a new (omega (arith, below, z.due)) at e does)

-- ---- a step of the seat

pub record SeatStep (v : View BenchSetting Step) (g : BenchSetting) (x : Step) (answer : Reply) (v2 : View BenchSetting Step) : Type 0 where
  pub before : List (ℕ × Step)
  pub old : World
  pub new : World
  pub others : List (ℕ × Step)
  pub before_is : before ≡ v.seen ++ others
  pub none : entries_of v.caller others ≡ []
  pub leads_old : LeadsTo g before old
  pub answers : Answers g (length before) old v.caller x answer new
  pub seen : v2.seen ≡ added before (is_recorded g x answer) (entry v.caller x)
  pub leads : LeadsTo g v2.seen new
  pub own : v2.own ≡ added v.own (is_recorded g x answer) (entry v.caller x)
  pub caller : v2.caller ≡ v.caller
  pub opening : v2.opening ≡ Some g
  pub each_once : IsOwn v2 v2.seen

leads-then : (g : BenchSetting) (es : List (ℕ × Step)) (old : World) (m : Moment) (b : Bool) → is_recorded g m.entry.step m.reply ≡ b → LeadsTo g es old
    → Answers g (length es) old m.entry.caller m.entry.step m.reply m.after → LeadsTo g (added es b (pair_of m.entry)) m.after
leads-then g es old m true e h a = leads_on g es old m h ((noted g (length es) old m a).steps e)
leads-then g es old m false e h a = subst (λ (w : World). LeadsTo g es w) (sym ((noted g (length es) old m a).stays e)) h

same-setting : (a b : BenchSetting) → Some a ≡ Some b → a ≡ b
same-setting a b e = cc

steps-by : (g : BenchSetting) (v v2 : View BenchSetting Step) (x : Step) (answer : Reply) (front : ℕ) → v.opening ≡ Some g → Stepped Allows is_recorded g v v2 x answer front → SeatStep v g x answer v2
steps-by g v v2 x answer front opens s =
    let a : Allows g s.before v.caller x answer = s.allowed in
    let m : Moment = record { entry = record { caller = v.caller; step = x }; reply = answer; after = a.new } in
    record {
      before = s.before;
      old = a.old;
      new = a.new;
      others = s.others.0;
      before_is = s.others.1;
      none = s.others.2;
      leads_old = a.leads;
      answers = a.answers;
      seen = s.seen_is;
      leads = subst (λ (es : List (ℕ × Step)). LeadsTo g es a.new) (sym s.seen_is) (leads-then g s.before a.old m (is_recorded g x answer) refl a.leads a.answers);
      own = s.own_is;
      caller = ap (λ (z : View BenchSetting Step). z.caller) s.else_same;
      opening = ap (λ (z : View BenchSetting Step). z.opening) s.else_same ∙ opens;
      each_once = s.each_once;
    }

pub seat_steps : (o g : BenchSetting) (v v2 : View BenchSetting Step) (x : Step) (answer : Reply) (front : ℕ) → v.opening ≡ Some g → Stepped Allows is_recorded o v v2 x answer front → SeatStep v g x answer v2
seat_steps o g v v2 x answer front opens s =
    let e : o ≡ g = same-setting o g (sym s.opening_is ∙ opens) in
    steps-by g v v2 x answer front opens (subst (λ (y : BenchSetting). Stepped Allows is_recorded y v v2 x answer front) e s)

-- where the submitter stands just before the step
stood : (v v2 : View BenchSetting Step) (g : BenchSetting) (w : World) (p : Standing) (x : Step) (answer : Reply) (h : SeatStep v g x answer v2) → IsAt v g w p
    → StandsIn h.old v.caller p × (lines_of h.old v.caller ≡ lines_of w v.caller)
stood v v2 g w p x answer h at =
    others_leave g v.seen h.others w h.old v.caller p at.submitter h.none at.leads (subst (λ (es : List (ℕ × Step)). LeadsTo g es h.old) h.before_is h.leads_old) at.stands

at-then : (v v2 : View BenchSetting Step) (g : BenchSetting) (w : World) (p q : Standing) (x : Step) (answer : Reply) (h : SeatStep v g x answer v2) → IsAt v g w p → StandsIn h.new v.caller q → IsAt v2 g h.new q
at-then v v2 g w p q x answer h at stands = record {
  opening = h.opening;
  leads = h.leads;
  own = h.each_once;
  submitter = omega (arith, at.submitter, h.caller);
  stands = subst (λ (s : ℕ). StandsIn h.new s q) (sym h.caller) stands;
}

full-then : (v v2 : View BenchSetting Step) (g : BenchSetting) (x : Step) (answer : Reply) (h : SeatStep v g x answer v2) → is_recorded g x answer ≡ false
    → length h.before ≡ g.step_limit → drained g h.old ≡ false → SeesFull v2 g × (v2.own ≡ v.own)
full-then v v2 g x answer h r full left =
    let same : v2.seen ≡ h.before = h.seen ∙ ap (λ (b : Bool). added h.before b (entry v.caller x)) r in (
      record {
        world = h.old;
        opening = h.opening;
        leads = subst (λ (es : List (ℕ × Step)). LeadsTo g es h.old) (sym same) h.leads_old;
        own = h.each_once;
        full = ap (λ (es : List (ℕ × Step)). length es) same ∙ full;
        left = left;
      },
      h.own ∙ ap (λ (b : Bool). added v.own b (entry v.caller x)) r,
    )

next-recorded : (g : BenchSetting) (p : Standing) (x : Step) → IsNext p x → is_recorded g x reply.Made ≡ true
next-recorded g rests x e = absurd e
next-recorded g (has_built t) x e = ap (λ (y : Step). is_recorded g y reply.Made) e
next-recorded g (has_linked t) x e = ap (λ (y : Step). is_recorded g y reply.Made) e
next-recorded g owes x e = ap (λ (y : Step). is_recorded g y reply.Made) e

limit-of : (o : Option Command) → decides_line o reply.StepLimit ≡ false
limit-of None = refl
limit-of (Some c) = refl

pub limit-unrecorded : (g : BenchSetting) (x : Step) → is_recorded g x reply.StepLimit ≡ false
limit-unrecorded g (step.Build l) = limit-of (command_at g l)
limit-unrecorded g _ = refl

pub seat_next : (o g : BenchSetting) (w : World) (p : Standing) (v v2 : View BenchSetting Step) (x : Step) (answer : Reply) (front : ℕ) → IsAt v g w p → IsNext p x
    → Stepped Allows is_recorded o v v2 x answer front → NextAnswered v g w p x v2 answer
seat_next o g w p v v2 x answer front at e s =
    let h : SeatStep v g x answer v2 = seat_steps o g v v2 x answer front at.opening s in
    let here : StandsIn h.old v.caller p × (lines_of h.old v.caller ≡ lines_of w v.caller) = stood v v2 g w p x answer h at in
    elim (answered g h.before h.old v.caller p x answer h.new at.submitter h.leads_old here.0 e h.answers) [
      | inl m ↦
          let r : is_recorded g x answer ≡ true = ap (λ (y : Reply). is_recorded g x y) m.made ∙ next-recorded g p x e in
          subst (λ (y : Reply). NextAnswered v g w p x v2 y) (sym m.made) (record {
            world = h.new;
            caller = h.caller;
            at = at-then v v2 g w p (after_next p) x answer h at m.stands;
            lines = m.lines ∙ here.1;
            own = h.own ∙ ap (λ (b : Bool). added v.own b (entry v.caller x)) r;
          })
      | inr f ↦
          let r : is_recorded g x answer ≡ false = ap (λ (y : Reply). is_recorded g x y) f.answer_is ∙ limit-unrecorded g x in
          subst (λ (y : Reply). NextAnswered v g w p x v2 y) (sym f.answer_is) (full-then v v2 g x answer h r f.full f.left)
    ]

-- ---- Build

-- what Build may make of the world of a submitter that rests
abbrev Tried : BenchSetting → (count : ℕ) → Line → WhenFull → World → Reply → World → Type 0
Tried g count l f old (reply.Built t) new = StandsIn new l.submitter (has_built t) × (lines_of new l.submitter ≡ lines_of old l.submitter ++ line.Accepted t ∷ [])
Tried g count l f old (reply.Refused r) new =
    MatchBool (is_tried_again f r) (new ≡ old) (StandsIn new l.submitter rests × (lines_of new l.submitter ≡ lines_of old l.submitter ++ line.Refused r ∷ []))
Tried g count l f old (reply.NotNow x) new = new ≡ old
Tried g count l f old reply.OutOfMemory new = new ≡ old
Tried g count l f old reply.StepLimit new = (count ≡ g.step_limit) × (drained g old ≡ false)
Tried g count l f old _ new = ⊥

refused-by : (g : BenchSetting) (count : ℕ) (l : Line) (f : WhenFull) (old : World) (r : Refused) (new : World) (b : Bool) → is_tried_again f r ≡ b → l.submitter < length old.lines → StandsIn old l.submitter rests
    → new ≡ refuses b old l r → MatchBool b (new ≡ old) (StandsIn new l.submitter rests × (lines_of new l.submitter ≡ lines_of old l.submitter ++ line.Refused r ∷ []))
refused-by g count l f old r new true e below h m = m
refused-by g count l f old r new false e below h m =
    (rests_still l.submitter old new (ap (λ (w : World). w.desk) m) h, ap (λ (w : World). lines_of w l.submitter) m ∙ lines-more old.lines l.submitter (line.Refused r) below)

tried-by : (g : BenchSetting) (count : ℕ) (l : Line) (c : Command) (old : World) (a : Reply) (new : World) → l.submitter < length old.lines → StandsIn old l.submitter rests → BuildsBy old l c a new
    → Tried g count l c.when_full old a new
tried-by g count l c old (reply.Built t) new below h m = let b = builds_one l c t old new below h m in (b.stands, b.lines)
tried-by g count l c old (reply.Refused r) new below h m = refused-by g count l c.when_full old r new (is_tried_again c.when_full r) refl below h m.1
tried-by g count l c old _ new below h m = absurd m

tried-of : (g : BenchSetting) (count : ℕ) (l : Line) (c : Command) (o : Option Command) (old : World) (a : Reply) (new : World) → o ≡ Some c → l.submitter < length old.lines → StandsIn old l.submitter rests
    → BuildsOf o old l a new → Tried g count l c.when_full old a new
tried-of g count l c o old a new e below h m = tried-by g count l c old a new below h (subst (λ (x : Option Command). BuildsOf x old l a new) e m)

tried : (g : BenchSetting) (es : List (ℕ × Step)) (l : Line) (c : Command) (old : World) (a : Reply) (new : World) → command_at g l ≡ Some c → l.submitter < length g.submitters → LeadsTo g es old
    → StandsIn old l.submitter rests → Answers g (length es) old l.submitter (step.Build l) a new → Tried g (length es) l c.when_full old a new
tried g es l c old a new e below h at (at_limit full live is same) = subst (λ (y : Reply). Tried g (length es) l c.when_full old y new) (sym is) (full, live)
tried g es l c old a new e below h at (not_now free not is same) = subst (λ (y : Reply). Tried g (length es) l c.when_full old y new) (sym is) same
tried g es l c old a new e below h at (no_memory free may want is same) = subst (λ (y : Reply). Tried g (length es) l c.when_full old y new) (sym is) same
tried g es l c old a new e below h at (done free may does) =
    let z : IsSized g old = sized g es old h in
    tried-of g (length es) l c (command_at g l) old a new e (omega (arith, below, z.lines)) at does

-- to its seat
stays-then : (v v2 : View BenchSetting Step) (g : BenchSetting) (w : World) (x : Step) (answer : Reply) (h : SeatStep v g x answer v2) → IsAt v g w rests → h.new ≡ h.old → is_recorded g x answer ≡ false → Waits v g w v2 rests
stays-then v v2 g w x answer h at same r =
    let here : StandsIn h.old v.caller rests × (lines_of h.old v.caller ≡ lines_of w v.caller) = stood v v2 g w rests x answer h at in
    record {
      world = h.new;
      caller = h.caller;
      at = at-then v v2 g w rests rests x answer h at (subst (λ (y : World). StandsIn y v.caller rests) (sym same) here.0);
      lines = ap (λ (y : World). lines_of y v.caller) same ∙ here.1;
      own = h.own ∙ ap (λ (b : Bool). added v.own b (entry v.caller x)) r;
    }

decides-then : (v v2 : View BenchSetting Step) (g : BenchSetting) (w : World) (l : Line) (d : Decided) (q : Standing) (answer : Reply) (h : SeatStep v g (step.Build l) answer v2) → IsAt v g w rests → StandsIn h.new v.caller q
    → lines_of h.new v.caller ≡ lines_of h.old v.caller ++ d ∷ [] → is_recorded g (step.Build l) answer ≡ true → Decides v g w l d v2 q
decides-then v v2 g w l d q answer h at stands lines r =
    let here : StandsIn h.old v.caller rests × (lines_of h.old v.caller ≡ lines_of w v.caller) = stood v v2 g w rests (step.Build l) answer h at in
    record {
      world = h.new;
      caller = h.caller;
      at = at-then v v2 g w rests q (step.Build l) answer h at stands;
      lines = lines ∙ ap (λ (ds : List Decided). ds ++ d ∷ []) here.1;
      own = h.own ∙ ap (λ (b : Bool). added v.own b (entry v.caller (step.Build l))) r;
    }

recorded-of : (g : BenchSetting) (l : Line) (c : Command) (a : Reply) (b : Bool) → command_at g l ≡ Some c → decides_line (Some c) a ≡ b → is_recorded g (step.Build l) a ≡ b
recorded-of g l c a b e d = ap (λ (o : Option Command). decides_line o a) e ∙ d

refused-then : (v v2 : View BenchSetting Step) (g : BenchSetting) (w : World) (l : Line) (c : Command) (r : Refused) (h : SeatStep v g (step.Build l) (reply.Refused r) v2) (b : Bool) → is_tried_again c.when_full r ≡ b
    → IsAt v g w rests → command_at g l ≡ Some c → MatchBool b (h.new ≡ h.old) (StandsIn h.new v.caller rests × (lines_of h.new v.caller ≡ lines_of h.old v.caller ++ line.Refused r ∷ []))
    → MatchBool b (Waits v g w v2 rests) (Decides v g w l (line.Refused r) v2 rests)
refused-then v v2 g w l c r h true is at e m = stays-then v v2 g w (step.Build l) (reply.Refused r) h at m (recorded-of g l c (reply.Refused r) false e (ap (λ (b : Bool). not b) is))
refused-then v v2 g w l c r h false is at e m =
    decides-then v v2 g w l (line.Refused r) rests (reply.Refused r) h at m.0 m.1 (recorded-of g l c (reply.Refused r) true e (ap (λ (b : Bool). not b) is))

build-then : (v v2 : View BenchSetting Step) (g : BenchSetting) (w : World) (l : Line) (c : Command) (a : Reply) (h : SeatStep v g (step.Build l) a v2) → IsAt v g w rests → command_at g l ≡ Some c → l.submitter ≡ v.caller
    → Tried g (length h.before) l c.when_full h.old a h.new → BuildAnswered v g w l c.when_full v2 a
build-then v v2 g w l c (reply.Built t) h at e own m =
    decides-then v v2 g w l (line.Accepted t) (has_built t) (reply.Built t) h at (subst (λ (s : ℕ). StandsIn h.new s (has_built t)) own m.0) (subst (λ (s : ℕ). lines_of h.new s ≡ lines_of h.old s ++ line.Accepted t ∷ []) own m.1) (recorded-of g l c (reply.Built t) true e refl)
build-then v v2 g w l c (reply.Refused r) h at e own m =
    refused-then v v2 g w l c r h (is_tried_again c.when_full r) refl at e (subst (λ (s : ℕ). MatchBool (is_tried_again c.when_full r) (h.new ≡ h.old) (StandsIn h.new s rests × (lines_of h.new s ≡ lines_of h.old s ++ line.Refused r ∷ []))) own m)
build-then v v2 g w l c (reply.NotNow x) h at e own m = stays-then v v2 g w (step.Build l) (reply.NotNow x) h at m (recorded-of g l c (reply.NotNow x) false e refl)
build-then v v2 g w l c reply.OutOfMemory h at e own m = stays-then v v2 g w (step.Build l) reply.OutOfMemory h at m (recorded-of g l c reply.OutOfMemory false e refl)
build-then v v2 g w l c reply.StepLimit h at e own m = full-then v v2 g (step.Build l) reply.StepLimit h (recorded-of g l c reply.StepLimit false e refl) m.0 m.1
build-then v v2 g w l c _ h at e own m = absurd m

pub seat_build : (o g : BenchSetting) (w : World) (l : Line) (f : WhenFull) (v v2 : View BenchSetting Step) (answer : Reply) (front : ℕ) → IsAt v g w rests → IsLineOf v g l f
    → Stepped Allows is_recorded o v v2 (step.Build l) answer front → BuildAnswered v g w l f v2 answer
seat_build o g w l f v v2 answer front at own s =
    let h : SeatStep v g (step.Build l) answer v2 = seat_steps o g v v2 (step.Build l) answer front at.opening s in
    let here : StandsIn h.old v.caller rests × (lines_of h.old v.caller ≡ lines_of w v.caller) = stood v v2 g w rests (step.Build l) answer h at in
    let c : Command = own.command in
    let t : Tried g (length h.before) l c.when_full h.old answer h.new =
    tried g h.before l c h.old answer h.new own.is (omega (arith, at.submitter, own.own)) h.leads_old (subst (λ (y : ℕ). StandsIn h.old y rests) (sym own.own) here.0)
    (subst (λ (y : ℕ). Answers g (length h.before) h.old y (step.Build l) answer h.new) (sym own.own) h.answers) in
    subst (λ (y : WhenFull). BuildAnswered v g w l y v2 answer) own.when_full (build-then v v2 g w l c answer h at own.is own.own t)
