-- What a choice of the unit makes of a task and of its ticket's view.
use Rattle.std.proofs.Common.{◌≡◌, ℕ, zero, suc, ◌+◌, ◌-◌, Bool, true, false, List, [], ◌∷◌, ◌++◌, refl, ap, arith, sym, ◌∙◌, subst, Option, Some, None, inl, inr}
use Rattle.scsi_words.specs.declared.phases.kinds.Direction.{Direction}
use Rattle.scsi_words.specs.declared.phases.kinds.Direction.TheVariants.{In, Out, None as NoData}
use Rattle.cdb_codec.specs.Forms.{need_of}
use Rattle.plain_lun.specs.Unit.{UnitState}
use Rattle.plain_lun.specs.Performing.{Answered, perform}
use Rattle.unit_law.specs.declared.entry.LogEntry.TheVariants.{Look}
use Rattle.unit_law.specs.Request.{RequestData, command, received_of}
use Rattle.unit_law.specs.Log.{run_log, performs as ran_performs, View}
use Rattle.unit_law.specs.Report.{holding, data_of}
use Rattle.unit_law.proofs.Views.{run-push, tally-look, with_at-same}
use Rattle.target_law.specs.declared.moves.Move.{Move}
use Rattle.target_law.specs.declared.moves.Move.TheVariants as move
use Rattle.target_law.specs.declared.task_phase.TaskPhase.{TaskPhase}
use Rattle.target_law.specs.declared.task_phase.TaskPhase.TheVariants.{DataIn, DataOut}
use Rattle.target_law.specs.Session.{Task, Session, remaining, acted, gone, phased, looked, looked_by, moves, performs}
use Rattle.target_law.specs.Sound.{HasMoved, IsSoundTask}
use Rattle.ticket_fate.specs.Tickets.{Plan, unit_of, opening, view_for}
use Rattle.ticket_fate.specs.Senses.{Unasked}
use Rattle.ticket_fate.proofs.SenseLives.{unasked-entry}
use Rattle.ticket_fate.specs.Fates.{HasTask}
use Rattle.ticket_fate.proofs.Views.{Grows}
use Rattle.ticket_fate.proofs.TicketSteps.{held-none}
use Rattle.ticket_fate.proofs.ReceivedBytes.{perform-same}

-- a choice changes the budget and what was done last
pub unfresh : (n : ℕ) (r : RequestData) (tag tries : ℕ) (buffer : List ℕ) (x : Task) (v : View) (budget : ℕ) (just : Bool)
    → HasTask n r tag tries buffer x v → HasTask n r tag tries buffer (record x { budget = budget; fresh = false; just_moved = just }) v
unfresh n r tag tries buffer x v budget just q = record {
  tag = q.tag;
  cdb = q.cdb;
  plain = q.plain;
  tried = q.tried;
  most = q.most;
  ends = q.ends;
  drops = q.drops;
  high = q.high;
  senses = q.senses;
  looks = q.looks;
  looked = q.looked;
  answer = q.answer;
  received = q.received;
  holds = q.holds;
  fresh = λ e. cc;
}

-- where nothing was moved the data don't matter
pub unmoved : (w : Direction) (d e : List ℕ) (h : ℕ) (sub : List ℕ) → h ≡ 0 → holding w d h sub ≡ holding w e h sub
unmoved w d e h sub z = ap (λ n. holding w d n sub) z ∙ held-none w d sub ∙ sym (held-none w e sub) ∙ ap (λ n. holding w e n sub) (sym z)

none-moved : (d : Direction) (o : Option Answered) (u : UnitState) (k : Task) → d ≡ In → o ≡ None → HasMoved d o u k → k.high ≡ 0
none-moved In (Some a) u k e f m = cc
none-moved In None u k e f m = m.0
none-moved Out o u k e f m = cc
none-moved NoData o u k e f m = cc

-- from one session to another by a choice
pub record Follows (g : Plan) (t named tries : ℕ) (buffer : List ℕ) (x y : Session) : Type 0 where
  pub grows : Grows t x.log y.log
  pub runs : HasTask g.retries (g.requests t) named tries buffer y.task (view_for g t y.log)
  pub plain : y.unit ≡ (run_log g.requests (opening g (unit_of g t)) y.log).unit
  pub position : y.task.position ≡ x.task.position
  pub saved : y.task.saved ≡ x.task.saved
  pub ticket : y.task.ticket ≡ x.task.ticket
  pub clears : (view_for g t y.log).tally.clears ≡ (view_for g t x.log).tally.clears
  pub unasked : (given : List ℕ) → Unasked given (view_for g t x.log) → Unasked given (view_for g t y.log)

module _ (g : Plan) (t named tries : ℕ) (buffer : List ℕ) (x : Session) (own : x.task.ticket ≡ t)
    (q : HasTask g.retries (g.requests t) named tries buffer x.task (view_for g t x.log))
    (p : x.unit ≡ (run_log g.requests (opening g (unit_of g t)) x.log).unit)
    (i : IsSoundTask x.unit x.task) where
  idle : (budget : ℕ) (just : Bool) (sh : TaskPhase)
      → Follows g t named tries buffer x (record x { task = record x.task { budget = budget; fresh = false; just_moved = just }; shows = sh })
  idle budget just sh = record {
    grows = inl refl;
    runs = unfresh g.retries (g.requests t) named tries buffer x.task (view_for g t x.log) budget just q;
    plain = p;
    position = refl;
    saved = refl;
    ticket = refl;
    clears = refl;
    unasked = λ given u. u;
  }

  looks : (sh : TaskPhase) → (need_of x.task.cdb).direction ≡ In → x.task.kept ≡ None → Follows g t named tries buffer x (moves (performs x (perform x.unit x.task.cdb [])) sh)
  looks sh d n =
      let a = perform x.unit x.task.cdb [] in
      let old = run_log g.requests (opening g (unit_of g t)) x.log in
      let pushed : run_log g.requests (opening g (unit_of g t)) (x.log ++ Look t ∷ []) ≡ ran_performs g.requests old t = run-push g.requests (opening g (unit_of g t)) x.log (Look t) in
      let same : perform old.unit (command (g.requests t)) (received_of (g.requests t)) ≡ a =
      ap (λ w. perform w (command (g.requests t)) (received_of (g.requests t))) (sym p) ∙ ap (λ c. perform x.unit c (received_of (g.requests t))) (sym q.cdb)
      ∙ perform-same x.unit x.task.cdb (received_of (g.requests t)) [] (λ e. cc) in
      let v = tally-look t x.log in
      let z : x.task.high ≡ 0 = none-moved (need_of x.task.cdb).direction x.task.kept x.unit x.task d n i.moved in
      let answer : (run_log g.requests (opening g (unit_of g t)) (x.log ++ Look t ∷ [])).answers t ≡ Some a.answer =
      ap (λ w. w.answers t) pushed ∙ with_at-same _ t _ ∙ ap (λ w. Some w.answer) same in
      subst (λ y. Follows g t named tries buffer x (moves (record x { unit = a.unit; log = x.log ++ Look y ∷ []; task = record x.task { kept = Some a.answer } }) sh)) (sym own) (record {
        grows = inr (Look t, refl, refl);
        runs = record {
          tag = q.tag;
          cdb = q.cdb;
          plain = q.plain;
          tried = q.tried ∙ ap (λ w. w.refusals + 1) (sym v);
          most = q.most;
          ends = ap (λ w. w.ends) v ∙ q.ends;
          drops = ap (λ w. w.drops) v ∙ q.drops;
          high = ap (λ w. w.high) v ∙ q.high;
          senses = ap (λ w. w.senses) v ∙ q.senses;
          looks = λ e. cc;
          looked = let l = q.looks n in omega (arith, ap (λ w. w.looks) v, l);
          answer = answer;
          received = q.received;
          holds = q.holds ∙ unmoved (g.requests t).direction (data_of x.task.kept) a.answer.bytes x.task.high (g.requests t).bytes z;
          fresh = λ e. cc;
        };
        plain = sym (ap (λ w. w.unit) pushed ∙ ap (λ w. w.unit) same);
        position = refl;
        saved = refl;
        ticket = refl;
        clears = ap (λ w. w.clears) v;
        unasked = λ given u. unasked-entry g t given x.log (Look t) tt u;
      })

  looks_by : (b : Bool) (sh : TaskPhase) → x.task.senses ≡ b → (need_of x.task.cdb).direction ≡ In → x.task.kept ≡ None
      → Follows g t named tries buffer x (moves (looked_by b x (perform x.unit x.task.cdb [])) sh)
  looks_by true sh e d n = let f = q.plain in cc
  looks_by false sh e d n = looks sh d n

  looks_at : (o : Option Answered) (sh : TaskPhase) → x.task.kept ≡ o → (need_of x.task.cdb).direction ≡ In → Follows g t named tries buffer x (moves (looked o x) sh)
  looks_at (Some a) sh e d = idle x.task.budget true sh
  looks_at None sh e d = looks_by x.task.senses sh refl d e

  phases : (d : Direction) (n : ℕ) → (need_of x.task.cdb).direction ≡ d → Follows g t named tries buffer x (phased d x n)
  phases In n e = looks_at x.task.kept (DataIn n) refl e
  phases Out n e = idle x.task.budget true (DataOut n)
  phases NoData n e = record { grows = inl refl; runs = q; plain = p; position = refl; saved = refl; ticket = refl; clears = refl; unasked = λ given u. u }

  goes : (left n : ℕ) → Follows g t named tries buffer x (gone left x n)
  goes zero n = idle x.task.budget false _
  goes (suc left) n = phases (need_of x.task.cdb).direction n refl

  -- every move
  pub follows : (m : Move) → Follows g t named tries buffer x (acted m x)
  unfolding acted
  follows (move.Go n) = goes (remaining x) n
  follows move.Busy = idle x.task.budget false _
  follows move.QueueFull = idle x.task.budget false _
  follows move.Leave = idle (x.task.budget - 1) false _
  follows move.SaveLeave = idle (x.task.budget - 1) false _
  follows move.Save = idle (x.task.budget - 1) false _
  follows move.Restore = idle (x.task.budget - 1) false _
  follows (move.Rogue word) = record { grows = inl refl; runs = q; plain = p; position = refl; saved = refl; ticket = refl; clears = refl; unasked = λ given u. u }
