-- A ticket that comes to its outcome: what agreed with it before the step does so after it.
use Rattle.std.proofs.Common.{arith, ◌≡◌, ◌⊎◌, inl, inr, ℕ, ◌+◌, ◌%◌, ◌≤◌, Bool, true, false, List, [], drop, refl, sym, ap, subst, ◌∙◌}
use Rattle.std.proofs.lemmas.Bool.{false≢true}
use Rattle.scsi_words.specs.declared.statuses.kinds.Status.{Status}
use Rattle.scsi_words.specs.declared.statuses.kinds.Status.TheVariants.{Good, Check}
use Rattle.scsi_words.specs.Statuses.{status_code}
use Rattle.bench_words.specs.Bytes.{IsBytes}
use Rattle.bench_words.specs.Memory.{word_at, bytes_at}
use Rattle.cmd_block.specs.Block.{field_of}
use Rattle.cmd_block.specs.declared.Field.TheVariants as field
use Rattle.cmd_block.specs.declared.TheConstants.{SENSE}
use Rattle.phase_fix.specs.Remain.{remain}
use Rattle.rig_types.specs.declared.report.Outcome.{Outcome}
use Rattle.rig_types.specs.declared.report.Outcome.TheVariants.{Done, Reset}
use Rattle.unit_law.specs.Log.{View}
use Rattle.desk_law.specs.declared.ticket.Piece.{Piece}
use Rattle.desk_law.specs.declared.ticket.Ticket.{Ticket as DeskTicket}
use Rattle.desk_law.specs.Blocks.{own, buffer}
use Rattle.desk_law.specs.Taking.{status_byte}
use Rattle.ticket_fate.specs.Moves as move
use Rattle.ticket_fate.specs.Moves.{TicketMove}
use Rattle.ticket_fate.specs.Tickets.{Plan, Life, Lost, Rejected, Finished, AskLost, Asked, AtRogue, Ended, Ticket, with_life}
use Rattle.run_joined.specs.BlockWords.{StatusAgrees}
use Rattle.run_joined.specs.Reports.{ReportAgrees}
use Rattle.block_words.specs.EndedReports.{HasOutcome}
use Rattle.block_words.specs.EndingSteps.{EndAgrees}
use Rattle.block_words.proofs.Commands.{bytes-kept}
use Rattle.block_words.proofs.EndedReports.{remain-same}

-- ---- the moves that give a ticket its outcome

pub data EndMove (o : Outcome) (k : Ticket) : Ticket → Type 0 where
  refused : (st : Status) → k.life ≡ Rejected st → EndMove o k (with_life k (Ended Done))
  finished : k.life ≡ Finished o → EndMove o k (with_life k (Ended o))
  sensed : k.life ≡ Asked → EndMove o k (record k { life = Ended Done; sense = k.area })
  lost_asking : k.life ≡ AskLost → EndMove o k (with_life k (Ended Done))
  rogue : k.life ≡ AtRogue → EndMove o k (with_life k (Ended o))
  lost : k.life ≡ Lost → o ≡ Reset → EndMove o k (with_life k (Ended Reset))

pub end-of : (p : Plan) (x : ℕ) (v : View) (k j : Ticket) → TicketMove p x v k j → (o : Outcome) → ((q : Outcome) → HasOutcome q k.life → ⊥) → HasOutcome o j.life → EndMove o k j
end-of p x v k j (move.builds tag q) o none e = absurd e
end-of p x v k j (move.links q) o none e = absurd e
end-of p x v k j (move.queues q) o none e = absurd e
end-of p x v k j (move.requeues q) o none e = absurd e
end-of p x v k j (move.selects q a r) o none e = absurd e
end-of p x v k j (move.times_out q a) o none e = absurd e
end-of p x v k j (move.cancels q m) o none e = absurd e
end-of p x v k j (move.takes_again st q l) o none e = absurd e
end-of p x v k j (move.takes_refused st q l) o none e = refused st q
end-of p x v k j (move.takes r q n) o none e = subst (λ (z : Outcome). EndMove o k (with_life k (Ended z))) (sym e) (finished (q ∙ ap Finished e))
end-of p x v k j (move.takes_checked q a) o none e = absurd e
end-of p x v k j (move.asks area q l) o none e = absurd e
end-of p x v k j (move.ask_selects q) o none e = absurd e
end-of p x v k j (move.takes_sense q) o none e = sensed q
end-of p x v k j (move.sweeps_asking q) o none e = lost_asking q
end-of p x v k j (move.selects_rogue q r) o none e = absurd e
end-of p x v k j (move.rogue_moves status lastp savep tries buf area q) o none e = absurd (none o e)
end-of p x v k j (move.ends_rogue r q) o none e = subst (λ (z : Outcome). EndMove o k (with_life k (Ended z))) (sym e) (rogue q)
end-of p x v k j (move.sweeps q) o none e = lost q (sym e)
end-of p x v k j (move.unlinks r q) o none e = absurd (none r (subst (HasOutcome r) (sym q) refl))
end-of p x v k j (move.frees r q) o none e = absurd e

-- ---- lives that end, whether the sense was asked for in them, and whether TakeDone takes it

abbrev pub IsEnding : Life → Type 0
IsEnding (Rejected st) = Unit {0}
IsEnding (Finished o) = Unit {0}
IsEnding Lost = Unit {0}
IsEnding AskLost = Unit {0}
IsEnding Asked = Unit {0}
IsEnding AtRogue = Unit {0}
IsEnding l = ⊥

abbrev pub was_asked : Life → Bool
was_asked AskLost = true
was_asked Asked = true
was_asked l = false

abbrev pub has_sense : Life → Bool
has_sense Asked = true
has_sense l = false

-- what is asked, and of a ticket of a unit that breaks the rules STATUS as well
abbrev pub FullAgrees : Life → List ℕ → DeskTicket → Ticket → Type 0
FullAgrees AtRogue m x k =
    (buffer m x ≡ k.buffer) × (status_byte m x ≡ k.status) × (k.status ≡ status_code Good → remain (word_at m) x.block (field_of m x.block field.Lastp) ≡ drop k.lastp (own x))
FullAgrees l m x k = EndAgrees l m x k

-- a word of a block beside START, RESTART, STATE, SEL and GATE
abbrev pub IsTold : ℕ → Type 0
IsTold i = ((0x08 ≤ i) × (i + 4 ≤ 0x10)) ⊎ (((0x14 ≤ i) × (i + 4 ≤ 0x18)) ⊎ (0x20 ≤ i))

module _ (m n : List ℕ) (x y : DeskTicket) (k : Ticket) (block : y.block ≡ x.block) (pieces : y.pieces ≡ x.pieces) (words : (i : ℕ) → i + 4 ≤ 0x200 → IsTold i → word_at n (x.block + i) ≡ word_at m (x.block + i)) (hm : IsBytes m) (hn : IsBytes n)
    (buffers : buffer n y ≡ buffer m x) (checked_is : (l : Life) → k.life ≡ l → IsEnding l → y.checked ≡ was_asked l) (sensed_is : (l : Life) → k.life ≡ l → IsEnding l → y.sensed ≡ has_sense l)
    (unsensed : (l : Life) → k.life ≡ l → IsEnding l → k.sense ≡ []) (asked_is : (l : Life) → k.life ≡ l → was_asked l ≡ true → k.status ≡ status_code Check) (refused_is : (st : Status) → k.life ≡ Rejected st → k.status ≡ status_code Good → ⊥) where
  status-same : status_byte n y ≡ status_byte m x
  status-same = ap (λ (i : ℕ). field_of n i field.Status % 256) block ∙ ap (λ (i : ℕ). i % 256) (words 0x14 (omega arith) (inr (inl (omega arith, omega arith))))

  abbrev left : ℕ → List ℕ
  left b = remain (word_at m) b (field_of m b field.Lastp)

  left-same : remain (word_at n) y.block (field_of n y.block field.Lastp) ≡ left x.block
  left-same =
      ap (λ (a : ℕ). remain (word_at n) a (field_of n a field.Lastp)) block ∙ ap (remain (word_at n) x.block) (words 0x08 (omega arith) (inl (omega arith, omega arith)))
      ∙ remain-same m n x.block (field_of m x.block field.Lastp) (λ i low l. words i l (inr (inr low)))

  own-same : drop k.lastp (own x) ≡ drop k.lastp (own y)
  own-same = ap (λ (ps : List Piece). drop k.lastp (own (record x { pieces = ps }))) (sym pieces)

  sense-same : bytes_at n (y.block + SENSE) 18 ≡ bytes_at m (x.block + SENSE) 18
  sense-same =
      ap (λ (a : ℕ). bytes_at n (a + 0x100) 18) block
      ∙ bytes-kept m n (x.block + 0x100) 18 hm hn
      (λ i l. let z : x.block + 0x100 + i ≡ x.block + (0x100 + i) = omega arith in ap (word_at n) z ∙ words (0x100 + i) (omega (arith, l)) (inr (inr (omega arith))) ∙ ap (word_at m) (sym z))

  good-check : k.status ≡ status_code Good → k.status ≡ status_code Check → ⊥
  good-check a b = let z : 0 ≡ 2 = sym a ∙ b in omega (arith, z)

  -- its sense was never asked for
  plain : (o : Outcome) (l q : Life) → k.life ≡ l → IsEnding l → was_asked l ≡ false → has_sense l ≡ false → (o ≡ Done → status_byte m x ≡ k.status) → (o ≡ Done → k.status ≡ status_code Good → left x.block ≡ drop k.lastp (own x)) → buffer m x ≡ k.buffer
      → ReportAgrees n y (with_life k q) o
  plain o l q e i asked sense status last bytes = record {
    status = λ d c. status-same ∙ status d;
    checked = λ d c. absurd (false≢true (sym (checked_is l e i ∙ asked) ∙ c));
    last = λ d good. left-same ∙ last d good ∙ own-same;
    bytes = buffers ∙ bytes;
    sensed = λ c. absurd (false≢true (sym (sensed_is l e i ∙ sense) ∙ c));
    unsensed = λ c. unsensed l e i;
  }

  pub end-agrees : (o : Outcome) (j : Ticket) → EndMove o k j → StatusAgrees k.life (status_byte m x) k.status → FullAgrees k.life m x k → ReportAgrees n y j o
  end-agrees o j (refused st e) s a =
      plain o (Rejected st) (Ended Done) e tt refl refl (λ d. subst (λ (l : Life). StatusAgrees l (status_byte m x) k.status) e s) (λ d good. absurd (refused_is st e good)) (subst (λ (l : Life). FullAgrees l m x k) e a)
  end-agrees o j (finished e) s a =
      let z = subst (λ (l : Life). FullAgrees l m x k) e a in
      plain o (Finished o) (Ended o) e tt refl refl (λ d. subst (λ (l : Life). StatusAgrees l (status_byte m x) k.status) (e ∙ ap Finished d) s) z.1 z.0
  end-agrees o j (rogue e) s a =
      let z = subst (λ (l : Life). FullAgrees l m x k) e a in
      plain o AtRogue (Ended o) e tt refl refl (λ d. z.1) (λ d good. z.2 good) z.0
  end-agrees o j (lost e r) s a =
      let none : o ≡ Done → ⊥ = λ d. (let z : Reset ≡ Done = sym r ∙ d in absurd cc) in
      plain o Lost (Ended Reset) e tt refl refl (λ d. absurd (none d)) (λ d good. absurd (none d)) (subst (λ (l : Life). FullAgrees l m x k) e a)
  end-agrees o j (lost_asking e) s a = record {
    status = λ d c. absurd (false≢true (sym c ∙ checked_is AskLost e tt));
    checked = λ d c. asked_is AskLost e refl;
    last = λ d good. absurd (good-check good (asked_is AskLost e refl));
    bytes = buffers ∙ subst (λ (l : Life). FullAgrees l m x k) e a;
    sensed = λ c. absurd (false≢true (sym (sensed_is AskLost e tt) ∙ c));
    unsensed = λ c. unsensed AskLost e tt;
  }
  end-agrees o j (sensed e) s a =
      let z = subst (λ (l : Life). FullAgrees l m x k) e a in
      record {
        status = λ d c. absurd (false≢true (sym c ∙ checked_is Asked e tt));
        checked = λ d c. asked_is Asked e refl;
        last = λ d good. absurd (good-check good (asked_is Asked e refl));
        bytes = buffers ∙ z.0;
        sensed = λ c. sense-same ∙ z.1;
        unsensed = λ c. absurd (false≢true (sym c ∙ sensed_is Asked e tt));
      }
