-- What agrees with a ticket that has its outcome does so after each joined step.
use Rattle.std.proofs.Common.{arith, ◌≡◌, ◌≢◌, ◌⊎◌, inl, inr, ℕ, ◌+◌, ◌*◌, ◌%◌, ◌<◌, ◌≤◌, true, List, [], ◌∷◌, ◌++◌, length, drop, refl, sym, ap, subst, ◌∙◌}
use Rattle.bench_words.specs.Memory.{word_at, bytes_at}
use Rattle.cmd_block.specs.Block.{field_of}
use Rattle.cmd_block.specs.declared.Field.TheVariants.{Lastp, Status}
use Rattle.cmd_block.specs.declared.TheConstants.{SENSE}
use Rattle.phase_fix.specs.Remain.{remain}
use Rattle.phase_fix.proofs.RemainLaws.{remain-kept}
use Rattle.rig_types.specs.declared.report.Outcome.{Outcome}
use Rattle.desk_law.specs.declared.ticket.Piece.{Piece}
use Rattle.desk_law.specs.declared.stage.Stage.{Stage}
use Rattle.desk_law.specs.declared.stage.Stage.TheVariants as stage
use Rattle.desk_law.specs.declared.ticket.Ticket.{Ticket as DeskTicket}
use Rattle.desk_law.specs.Blocks.{own, buffer}
use Rattle.desk_law.specs.Desk.{ticket, lives}
use Rattle.ticket_fate.specs.Tickets.{Plan, Life, Ended, Unlinked, Ticket}
use Rattle.ticket_fate.proofs.Reached.{all-kept}
use Rattle.world_law.specs.Laws.{KeepsTicket}
use Rattle.world_law.specs.Opening.{opened}
use Rattle.world_law.specs.Runs.{Moment, Steps, IsRun, last}
use Rattle.world_law.specs.World.{BenchSetting, IsBenchSetting, World}
use Rattle.world_law.proofs.RunLaws.{goes_on, ends_after}
use Rattle.world_law.proofs.TicketsKept.{keeps_tickets}
use Rattle.word_owners.specs.BenchSteps.{IsOwned}
use Rattle.word_owners.specs.Worlds.{HasBytes}
use Rattle.word_owners.proofs.Worlds.{words_are_owned}
use Rattle.bus_events.specs.Targets.{targets}
use Rattle.run_joined.specs.DeskLives.{IsStage}
use Rattle.run_joined.specs.Joined.{IsJoined, StepJoins}
use Rattle.run_joined.specs.Reports.{ReportAgrees}
use Rattle.run_joined.proofs.Moved.{below-or}
use Rattle.block_words.specs.EndedReports.{HasOutcome, HasCome, KeepsReport, AgreementsStay}
use Rattle.block_words.specs.EndedWords.{IsEndedOrUnlinked}
use Rattle.block_words.proofs.Commands.{bytes-kept}
use Rattle.block_words.proofs.EndedBlocks.{ended-blocks-stay}
use Rattle.block_words.proofs.EndedDesks.{SameFlags, flags-stay}
use Rattle.block_words.proofs.EndedTickets.{run-keeps}
use Rattle.block_words.proofs.HeldBuffers.{buffers-stay}

pub outcome-come : (o : Outcome) (l : Life) → HasOutcome o l → HasCome o l
outcome-come o (Ended q) e = e
outcome-come o (Unlinked q) e = e
outcome-come o l e = absurd e

-- the stage of such a ticket
pub outcome-over : (o : Outcome) (l : Life) (s : Stage) → HasOutcome o l → IsStage l s → IsEndedOrUnlinked s
outcome-over o (Ended q) s e i = let z : stage.Ended q ≡ s = cc in subst IsEndedOrUnlinked z tt
outcome-over o (Unlinked q) s e i = let z : stage.Unlinked ≡ s = cc in subst IsEndedOrUnlinked z tt
outcome-over o l s e i = absurd e

over-lives : (k : DeskTicket) (x : Stage) → k.stage ≡ x → IsEndedOrUnlinked x → lives k ≡ true
over-lives k (stage.Ended o) e i = ap (λ (y : Stage). lives (record k { stage = y })) e
over-lives k stage.Unlinked e i = ap (λ (y : Stage). lives (record k { stage = y })) e
over-lives k x e i = absurd i

over-waits : (x : Stage) → IsEndedOrUnlinked x → x ≢ stage.Queued
over-waits x i e = subst IsEndedOrUnlinked e i

-- ---- words of a block as before

pub remain-same : (m n : List ℕ) (b p : ℕ) → ((o : ℕ) → 0x20 ≤ o → o + 4 ≤ 0x200 → word_at n (b + o) ≡ word_at m (b + o)) → remain (word_at n) b p ≡ remain (word_at m) b p
remain-same m n b p same =
    remain-kept (word_at m) (word_at n) b p (record { count = λ j l. same (0x40 + 8 * j) (omega arith) (omega (arith, l)); address = λ j l. same (0x44 + 8 * j) (omega arith) (omega (arith, l)) })
    (λ k x l e f. record { count = same (0xC0 + 0x10 * k) (omega arith) (omega (arith, l)); address = same (0xC4 + 0x10 * k) (omega arith) (omega (arith, l)); return = same (0xC8 + 0x10 * k) (omega arith) (omega (arith, l)) })

module _ (g : BenchSetting) (p : Plan) (ms : List Moment) (m : Moment) (ks : ℕ → Ticket) (spare : ℕ → ℕ) (setting : IsBenchSetting g) (bytes : HasBytes g) (r : IsRun g (opened g) ms) (steps : Steps g (last (opened g) ms) m) (j : IsJoined g p (last (opened g) ms) ks spare) where
  abbrev old : World
  old = last (opened g) ms

  within : (t : ℕ) (o : Outcome) → HasCome o (ks t).life → t < length old.desk.tickets
  within t o e = by (below-or t (length old.desk.tickets))
    where
      by : (t < length old.desk.tickets) ⊎ (length old.desk.tickets ≤ t) → t < length old.desk.tickets
      by (inl l) = l
      by (inr l) = absurd (subst (HasCome o) (j.desk.unbuilt t l) e)

  module _ (t : ℕ) (o : Outcome) (e : HasOutcome o (ks t).life) where
    there : t < length old.desk.tickets
    there = within t o (outcome-come o (ks t).life e)

    over : IsEndedOrUnlinked (ticket old.desk t).stage
    over = outcome-over o (ks t).life (ticket old.desk t).stage e (j.desk.each t there).stage_is

    kept : KeepsTicket (ticket old.desk t) (ticket m.after.desk t)
    kept = keeps_tickets g old m t steps there

    flags : SameFlags (ticket old.desk t) (ticket m.after.desk t)
    flags = flags-stay old t there over g m.after m.entry.caller m.entry.step m.reply steps.enabled steps.does

    abbrev b : ℕ
    b = (ticket old.desk t).block

    words : (i : ℕ) → i + 4 ≤ 0x200 → word_at m.after.memory (b + i) ≡ word_at old.memory (b + i)
    words i l = ap (λ (a : ℕ). word_at m.after.memory (a + i)) (sym kept.block) ∙ ended-blocks-stay g setting bytes ms r m steps t i over l

    buffer-same : buffer m.after.memory (ticket m.after.desk t) ≡ buffer old.memory (ticket old.desk t)
    buffer-same = buffers-stay g setting bytes ms r m steps t (over-lives (ticket old.desk t) (ticket old.desk t).stage refl over) (over-waits (ticket old.desk t).stage over)

    is_owned : IsOwned g.version g.units old
    is_owned = words_are_owned g setting bytes ms r

    owned-after : IsOwned g.version g.units m.after
    owned-after = subst (IsOwned g.version g.units) (ends_after (opened g) ms m) (words_are_owned g setting bytes (ms ++ m ∷ []) (goes_on g (opened g) ms m r steps))

    sense-same : bytes_at m.after.memory ((ticket m.after.desk t).block + SENSE) 18 ≡ bytes_at old.memory (b + SENSE) 18
    sense-same =
        ap (λ (a : ℕ). bytes_at m.after.memory (a + 0x100) 18) kept.block
        ∙ bytes-kept old.memory m.after.memory (b + 0x100) 18 is_owned.holds.bytes owned-after.holds.bytes
        (λ i l. let z : b + 0x100 + i ≡ b + (0x100 + i) = omega arith in ap (word_at m.after.memory) z ∙ words (0x100 + i) (omega (arith, l)) ∙ ap (word_at old.memory) (sym z))

    remain-is : remain (word_at m.after.memory) (ticket m.after.desk t).block (field_of m.after.memory (ticket m.after.desk t).block Lastp) ≡ remain (word_at old.memory) b (field_of old.memory b Lastp)
    remain-is =
        ap (λ (a : ℕ). remain (word_at m.after.memory) a (field_of m.after.memory a Lastp)) kept.block
        ∙ ap (remain (word_at m.after.memory) b) (words 0x08 (omega arith))
        ∙ remain-same old.memory m.after.memory b (field_of old.memory b Lastp) (λ i low l. words i l)

    agrees-on : (k : Ticket) → KeepsReport o (ks t) k → ReportAgrees old.memory (ticket old.desk t) (ks t) o → ReportAgrees m.after.memory (ticket m.after.desk t) k o
    agrees-on k s a = record {
      status = λ q c.
          ap (λ (i : ℕ). field_of m.after.memory i Status % 256) kept.block ∙ ap (λ (n : ℕ). n % 256) (words 0x14 (omega arith)) ∙ a.status q (sym flags.checked ∙ c) ∙ sym s.status;
      checked = λ q c. s.status ∙ a.checked q (sym flags.checked ∙ c);
      last = λ q good.
          remain-is ∙ a.last q (sym s.status ∙ good) ∙ ap (λ (n : ℕ). drop n (own (ticket old.desk t))) (sym s.lastp) ∙ ap (λ (ps : List Piece). drop k.lastp (own (record (ticket old.desk t) { pieces = ps }))) (sym kept.pieces);
      bytes = buffer-same ∙ a.bytes ∙ sym s.buffer;
      sensed = λ c. sense-same ∙ a.sensed (sym flags.sensed ∙ c) ∙ sym s.sense;
      unsensed = λ c. s.sense ∙ a.unsensed (sym flags.sensed ∙ c);
    }

  pub ticket-on : (s : StepJoins g p old m ks) (t : ℕ) (o : Outcome) → HasCome o (ks t).life → KeepsReport o (ks t) (s.tickets t)
  ticket-on s t o e =
      let reached = j.tickets.reached in
      run-keeps p (length g.units) reached.plan ks (targets old.bus) (all-kept p (length g.units) ks (targets old.bus) reached) t o e s.tickets (targets m.after.bus) s.moves

  pub agreed : (s : StepJoins g p old m ks) (t : ℕ) (o : Outcome) → HasOutcome o (ks t).life → ReportAgrees old.memory (ticket old.desk t) (ks t) o → ReportAgrees m.after.memory (ticket m.after.desk t) (s.tickets t) o
  agreed s t o e a = agrees-on t o e (s.tickets t) (ticket-on s t o (outcome-come o (ks t).life e)) a

pub agreements-stay : AgreementsStay
agreements-stay g p ms m ks spare setting bytes r steps j s t o e a = agreed g p ms m ks spare setting bytes r steps j s t o e a
