-- What is put into the buffer of a task.
use Rattle.std.proofs.Common.{◌≡◌, ℕ, ◌+◌, ◌<◌, ◌≤◌, max, Bool, true, false, List, [], ◌∷◌, ◌++◌, length, take, set, refl, ap, arith, sym, ◌∙◌, nat_lt, Option, Some, None, ◌⊎◌, inl, inr}
use Rattle.std.proofs.lemmas.Bool.Decides.{nat_tests}
use Rattle.std.proofs.lemmas.Grind.{common_steps}
use Rattle.std.proofs.lemmas.List.{take-append-le, take-append-drop, take-set, drop-set, take_more_set}
use Rattle.std.proofs.Math.Seq.{take-set-lt}
use Rattle.plain_lun.specs.declared.performing.Answer.{Answer}
use Rattle.scsi_words.specs.declared.statuses.kinds.Status.TheVariants.{Good}
use Rattle.cdb_codec.specs.declared.commands.Cdb.{Cdb}
use Rattle.cdb_codec.specs.declared.commands.Cdb.TheVariants.{RequestSense}
use Rattle.plain_lun.specs.Unit.{UnitState}
use Rattle.plain_lun.specs.Performing.{Answered, perform, sense_now, sense_data}
use Rattle.target_law.specs.Session.{Task}
use Rattle.target_law.specs.Bytes.{put}
use Rattle.unit_task.specs.Held.{kept_of}

-- where nothing is kept, the buffer doesn't matter
pub kept-same : (kept : Option Answer) (old new : List ℕ) → kept_of kept old ≡ None → kept_of kept new ≡ kept_of kept old
kept-same None old new h = refl
kept-same (Some a) old new h = cc

set-put : (held : List ℕ) (at b : ℕ) → at < length held → set held at b ≡ put held at b
set-put held at b h = sym (take-append-drop at (set held at b)) ∙ rw (take-set held at b, drop-set held at b h) refl

decided : (a b : ℕ) (t : Bool) → a ≤ b → nat_lt a b ≡ t → (a < b) ⊎ (a ≡ b)
decided a b true h e = inl (grind (arith, nat_tests))
decided a b false h e = inr (grind (arith, nat_tests))

put-at-end : (items : List ℕ) (at b : ℕ) → at < length items → put (take at items) at b ≡ take at items ++ b ∷ []
put-at-end items at b h = grind (arith, common_steps)

put-by : (items : List ℕ) (at b got : ℕ) → at < length items → got ≤ length items → (at < got) ⊎ (at ≡ got) → take (max got (at + 1)) (set items at b) ≡ put (take got items) at b
put-by items at b got h g (inl l) =
    let m : max got (at + 1) ≡ got = omega arith in
    let n : length (take got items) ≡ got = grind (arith, common_steps) in
    rw (m, take-set-lt got items at b l) (set-put (take got items) at b (omega arith))
put-by items at b got h g (inr e) =
    let m : max at (at + 1) ≡ at + 1 = omega arith in
    rw (sym e) (rw m (take_more_set items at b h ∙ sym (put-at-end items at b h)))

pub take-put : (items : List ℕ) (at b got : ℕ) → at < length items → got ≤ length items → at ≤ got → take (max got (at + 1)) (set items at b) ≡ put (take got items) at b
take-put items at b got h g l = put-by items at b got h g (decided at got (nat_lt at got) l refl)

-- nothing was received, whatever the buffer is
pub take-none : (old new : List ℕ) (got : ℕ) → got ≤ length old → take got old ≡ [] → take got new ≡ []
take-none old new got h e =
    let n : length (take got old) ≡ got = grind (arith, common_steps) in
    let z : got ≡ 0 = sym n ∙ ap length e in
    rw z refl

-- the sense data at the front of the buffer
sense-size : (u : UnitState) → length (sense_now u) ≡ 18
unfolding sense_now sense_data
sense-size u = refl

sense-front : (u : UnitState) (rest : List ℕ) → take 18 (sense_now u ++ rest) ≡ take 18 (sense_now u)
sense-front u rest = take-append-le 18 (sense_now u) rest (omega (arith, sense-size u))

pub kept-sense : (u : UnitState) (c : Cdb) (items rest : List ℕ) → c ≡ RequestSense 18 → items ≡ sense_now u ++ rest → kept_of (Some (record { status = Good; sent = 18 })) items ≡ Some (perform u c []).answer
unfolding perform
kept-sense u c items rest e i = rw (e, i) (ap (λ (bs : List ℕ). let a : Answered = record { status = Good; bytes = bs } in Some a) (sense-front u rest))

-- a task with another answer and what it has received
pub answer-kept : (v : Task) (old new : Option Answered) (was is : List ℕ) → old ≡ new → was ≡ is → is ≡ v.received → record v { kept = old; received = was } ≡ record v { kept = new }
answer-kept v old new was is e f g =
    ap (λ (x : Option Answered). record v { kept = x; received = was }) e ∙ ap (λ (x : List ℕ). record v { kept = new; received = x }) (f ∙ g)
