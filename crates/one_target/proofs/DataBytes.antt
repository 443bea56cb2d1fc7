-- The bytes of a data phase, one after another.
use Rattle.std.proofs.Common.{◌≡◌, ℕ, suc, ◌+◌, max, false, List, [], ◌∷◌, ◌++◌, length, refl, ap, sym, ◌∙◌, append_assoc, length-append, Option, Some, slice_get}
use Rattle.scsi_words.specs.declared.phases.kinds.Phase.{Phase as BusPhase}
use Rattle.scsi_words.specs.declared.phases.kinds.Phase.TheVariants.{DataIn}
use Rattle.bench_words.specs.Bytes.{IsBytes}
use Rattle.bench_words.proofs.Bytes.{bytes-front, bytes-rest}
use Rattle.chip_step.specs.Event.{Event}
use Rattle.plain_lun.specs.Performing.{Answered}
use Rattle.target_law.specs.declared.task_phase.TaskPhase.TheVariants as task_phase
use Rattle.target_law.specs.declared.task_phase.TaskPhase.TheVariants.{ToChoose}
use Rattle.target_law.specs.Session.{Task}
use Rattle.target_law.specs.Bytes.{data_at}
use Rattle.target_law.specs.Target.{LogicalUnit, Target}
use Rattle.straight_run.specs.Reading.{Answers, ins}
use Rattle.one_target.specs.Bus.{BusState, moves}
use Rattle.one_target.proofs.CallAnswers.{gives}
use Rattle.one_target.proofs.Choices.{working}

-- the bus with its target, no line asserted
abbrev pub bus : List ℕ → Target → Option BusPhase → BusState
bus rooms t asked = record { target = t; rooms = rooms; atn = false; ack = false; asked = asked }

-- the task at a position
abbrev pub at_place : Task → (position high : ℕ) → Task
at_place k position high = record k { position = position; high = high }

get-after : (front : List ℕ) (b : ℕ) (bs : List ℕ) → slice_get (front ++ b ∷ bs) (length front) ≡ Some b
get-after [] b bs = refl
get-after (x ∷ xs) b bs = get-after xs b bs

data-byte : (k : Task) (a : Answered) (front : List ℕ) (b : ℕ) (bs : List ℕ) (p : ℕ) → k.kept ≡ Some a → a.bytes ≡ front ++ b ∷ bs → p ≡ length front → data_at k.kept p ≡ Some b
data-byte k a front b bs p e f g = rw (e, f, g) (get-after front b bs)

module _ (P : BusState → Type 0) (rooms : List ℕ) (u : LogicalUnit) (k : Task) (a : Answered) (kept : k.kept ≡ Some a) where
  pub data_in : (bs : List ℕ) (b : ℕ) (front : List ℕ) (p high : ℕ) (es : List Event) → IsBytes (b ∷ bs) → a.bytes ≡ front ++ b ∷ bs → p ≡ length front →
      ((n h : ℕ) → n ≡ length a.bytes → Answers moves es P (bus rooms (working u (at_place k n h) ToChoose) (Some DataIn))) →
      Answers moves (ins (b ∷ bs) es) P (bus rooms (working u (at_place k p high) (task_phase.DataIn (length (b ∷ bs)))) (Some DataIn))
  data_in [] b front p high es small e g f =
      let n : p + 1 ≡ length a.bytes = ap (λ (x : ℕ). x + 1) g ∙ sym (ap length e ∙ length-append front (b ∷ [])) in
      gives P b (bus rooms (working u (at_place k p high) (task_phase.DataIn 1)) (Some DataIn)) es (bytes-front b [] small) refl (data-byte k a front b [] p kept e g)
      (f (p + 1) (max high (p + 1)) n)
  data_in (c ∷ cs) b front p high es small e g f =
      let n : p + 1 ≡ length (front ++ b ∷ []) = ap (λ (x : ℕ). x + 1) g ∙ sym (length-append front (b ∷ [])) in
      let e' : a.bytes ≡ (front ++ b ∷ []) ++ c ∷ cs = e ∙ sym (append_assoc front (b ∷ []) (c ∷ cs)) in
      gives P b (bus rooms (working u (at_place k p high) (task_phase.DataIn (suc (suc (length cs))))) (Some DataIn)) (ins (c ∷ cs) es) (bytes-front b (c ∷ cs) small) refl (data-byte k a front b (c ∷ cs) p kept e g)
      (data_in cs c (front ++ b ∷ []) (p + 1) (max high (p + 1)) es (bytes-rest b (c ∷ cs) small) e' n f)
