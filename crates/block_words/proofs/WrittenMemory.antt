-- What holds of memory, and is kept by each write of the driver, by the chip and by Build, holds after each step.
use Rattle.std.proofs.Common.{arith, ◌≡◌, inl, inr, ℕ, ◌+◌, ◌-◌, ◌*◌, ◌<◌, ◌≤◌, ◌==◌, nat_eq, Bool, true, false, List, Option, Some, None, refl, sym, subst, ◌∙◌}
use Rattle.std.specs.Prelude.{slice_get, ◌||◌, if◌then◌else◌}
use Rattle.std.proofs.lemmas.Bool.{false≢true}
use Rattle.bench_words.specs.Memory.{word_at, put_word}
use Rattle.host_map.specs.declared.TheConstants.{FRONT, FRONT_IDLE, START_RING, IDLE, JOB}
use Rattle.host_map.specs.Places.{tag_entry}
use Rattle.job_rings.specs.Rings.{next_slot}
use Rattle.rig_types.specs.declared.acts.Act.{Act}
use Rattle.rig_types.specs.declared.acts.ActKind.{ActKind}
use Rattle.rig_types.specs.declared.acts.ActKind.TheVariants.{Abort, Device, Bus}
use Rattle.rig_types.specs.declared.commands.Command.{Command}
use Rattle.rig_types.specs.declared.rig.Unit.{Unit as RigUnit}
use Rattle.rig_types.specs.declared.step.Line.{Line}
use Rattle.rig_types.specs.declared.step.Step.{Step}
use Rattle.rig_types.specs.declared.step.Step.TheVariants as step
use Rattle.unit_law.specs.Request.{plain}
use Rattle.cmd_block.specs.Block.{field_of}
use Rattle.cmd_block.specs.declared.Field.TheVariants.{Savep}
use Rattle.sense_job.specs.Turning.{turned}
use Rattle.phase_fix.specs.Remain.{count_of}
use Rattle.phase_fix.specs.Repair.{free_context, with_rest, repaired}
use Rattle.phase_fix.specs.declared.moves.DataMove.{DataMove}
use Rattle.desk_law.specs.declared.refused.Refused.{Refused}
use Rattle.desk_law.specs.declared.stage.Stage.{Stage}
use Rattle.desk_law.specs.declared.stage.Stage.TheVariants as stage
use Rattle.desk_law.specs.Desk.{ticket, is_queued, is_sensing}
use Rattle.desk_law.specs.Calls.{begun_anew, queue_memory}
use Rattle.desk_law.specs.Rings.{done_ticket}
use Rattle.world_law.specs.Acts.{ActsOf, acts_by, aborts, marks, device_resets, bus_resets, is_late}
use Rattle.world_law.specs.Builds.{Accepts, BuildsBy, BuildsOf, refuses, is_tried_again}
use Rattle.world_law.specs.ChipSteps.{RunsChip}
use Rattle.world_law.specs.Enabling.{Enabled, IsEnded}
use Rattle.world_law.specs.Repairs.{Fixes}
use Rattle.world_law.specs.Resets.{idle_if}
use Rattle.world_law.specs.Steps.{Does, TakesOf}
use Rattle.world_law.specs.World.{BenchSetting, World, command_at, decided, front}
use Rattle.world_law.specs.declared.reply.Decided.{Decided}
use Rattle.world_law.specs.declared.reply.Decided.TheVariants as line
use Rattle.world_law.specs.declared.reply.Reply.{Reply}
use Rattle.world_law.specs.declared.reply.Reply.TheVariants as reply
use Rattle.world_law.specs.declared.reply.Stop.{Stop}
use Rattle.world_law.specs.declared.reply.Stop.TheVariants as stop
use Rattle.word_owners.specs.Holds.{Spot, Holds, Running, Mismatched, NotData, Fixed as Repaired, TimedOut, JobOver, ResetAt, Broken}
use Rattle.word_owners.specs.Parts.{Counts}
use Rattle.word_owners.specs.Tickets.{IsLive, IsActive}
use Rattle.word_owners.proofs.KeptDesks.{swept-active}
use Rattle.word_owners.proofs.Patches.{few}
use Rattle.block_words.proofs.KeptWords.{few-context}

-- ---- stages

-- a live ticket without an outcome
abbrev pub IsOpen : Stage → Type 0
IsOpen (stage.Ended o) = ⊥
IsOpen stage.Unlinked = ⊥
IsOpen stage.Freed = ⊥
IsOpen s = Unit {0}

pub active-open : (x : Stage) → IsActive x → IsOpen x
active-open x (inl e) = subst IsOpen (sym e) tt
active-open x (inr e) = subst IsOpen (sym e) tt

pub open-live : (x : Stage) → IsOpen x → IsLive x
open-live x o e = subst IsOpen e o

busy-open : (x : Stage) → (is_queued x || is_sensing x) ≡ true → IsOpen x
busy-open stage.Queued e = tt
busy-open stage.Sensing e = tt
busy-open stage.Built e = tt
busy-open stage.Linked e = tt
busy-open stage.Again e = tt
busy-open stage.Check e = tt
busy-open (stage.Ended o) e = absurd (false≢true e)
busy-open stage.Unlinked e = absurd (false≢true e)
busy-open stage.Freed e = absurd (false≢true e)

early-open : (x : Stage) → is_late x ≡ false → IsOpen x
early-open stage.Built e = tt
early-open stage.Linked e = tt
early-open stage.Queued e = tt
early-open stage.Again e = tt
early-open stage.Check e = tt
early-open stage.Sensing e = tt
early-open (stage.Ended o) e = absurd (false≢true (sym e))
early-open stage.Unlinked e = absurd (false≢true (sym e))
early-open stage.Freed e = absurd (false≢true (sym e))

ended-live : (x : Stage) → IsEnded x → IsLive x
ended-live x i e = subst IsEnded e i

module _ (version : ℕ) (units : List RigUnit) (s : Spot) (c : Counts) (w : World) (h : Holds version units s c w) (Stays : List ℕ → Type 0) (start : Stays w.memory)
    (low : (m : List ℕ) (a v : ℕ) → a + 4 ≤ 0x10000 → Stays m → Stays (put_word m a v))
    (inside : (u e : ℕ) → IsOpen (ticket w.desk u).stage → e + 4 ≤ 0x200 → (m : List ℕ) (v : ℕ) → Stays m → Stays (put_word m ((ticket w.desk u).block + e) v))
    (turns : (u : ℕ) → IsOpen (ticket w.desk u).stage → Stays (turned w.memory (ticket w.desk u).block))
    (chip : (new : World) (word : ℕ) (answer : Reply) → w.stop ≡ stop.Run → RunsChip w word answer new → Stays new.memory) where
  entry-low : (u : ℕ) → IsLive (ticket w.desk u).stage → tag_entry (ticket w.desk u).unit (ticket w.desk u).tag + 4 ≤ 0x10000
  entry-low u alive = let z : (ticket w.desk u).unit < 16 = omega (arith, h.tickets.unit u alive, few version units s c w u h) in omega (arith, z, h.tickets.tag u alive)

  -- Queue
  anew-stays : (u : ℕ) (x : Stage) → (ticket w.desk u).stage ≡ x → Stays (begun_anew x (ticket w.desk u) w.memory)
  anew-stays u stage.Again e =
      let o = subst IsOpen (sym e) tt in
      inside u 0x0C o (omega arith) _ _ (inside u 0x08 o (omega arith) _ _ (inside u 0x14 o (omega arith) _ _ (inside u 0x10 o (omega arith) _ _ start)))
  anew-stays u stage.Built e = start
  anew-stays u stage.Linked e = start
  anew-stays u stage.Queued e = start
  anew-stays u stage.Check e = start
  anew-stays u stage.Sensing e = start
  anew-stays u (stage.Ended x) e = start
  anew-stays u stage.Unlinked e = start
  anew-stays u stage.Freed e = start

  queue-stays : (u : ℕ) → Stays (queue_memory w.desk u w.memory)
  queue-stays u = low _ w.desk.put _ (omega (arith, h.put)) (low _ (next_slot START_RING w.desk.put) IDLE (omega arith) (anew-stays u (ticket w.desk u).stage refl))

  -- Fix
  context-stays : (u k : ℕ) → IsOpen (ticket w.desk u).stage → k ≤ 1 → (m : List ℕ) (count address return : ℕ) → Stays m
      → Stays (put_word (put_word (put_word m ((ticket w.desk u).block + (0xC0 + 0x10 * k)) count) ((ticket w.desk u).block + (0xC4 + 0x10 * k)) address) ((ticket w.desk u).block + (0xC8 + 0x10 * k)) return)
  context-stays u k o l m count address return e =
      inside u (0xC8 + 0x10 * k) o (omega (arith, l)) _ return (inside u (0xC4 + 0x10 * k) o (omega (arith, l)) _ address (inside u (0xC0 + 0x10 * k) o (omega (arith, l)) m count e))

  repair-stays : (u dsp left : ℕ) (x : DataMove) → IsOpen (ticket w.desk u).stage → Stays (repaired w.memory (ticket w.desk u).block dsp left x)
  repair-stays u dsp left x o = by (nat_eq left (count_of (word_at w.memory) (ticket w.desk u).block x.entry))
    where
      by : (y : Bool) → Stays (if y then put_word w.memory ((ticket w.desk u).block + 0x08) (dsp - 8) else with_rest w.memory (ticket w.desk u).block dsp left x (free_context (field_of w.memory (ticket w.desk u).block Savep)))
      by true = inside u 0x08 o (omega arith) w.memory (dsp - 8) start
      by false =
          inside u 0x08 o (omega arith) _ _
          (context-stays u (free_context (field_of w.memory (ticket w.desk u).block Savep)) o (few-context (field_of w.memory (ticket w.desk u).block Savep)) w.memory _ _ _ start)

  -- an abort, and a sweep
  mark-stays : (u : ℕ) → IsOpen (ticket w.desk u).stage → Stays (put_word (put_word w.memory ((ticket w.desk u).block + 0x00) 0x1F8) ((ticket w.desk u).block + 0x04) 0x278)
  mark-stays u o = inside u 0x04 o (omega arith) _ 0x278 (inside u 0x00 o (omega arith) w.memory 0x1F8 start)

  sweep-stays : (u : ℕ) → IsOpen (ticket w.desk u).stage → Stays (put_word (put_word w.memory ((ticket w.desk u).block + 0x10) 4) ((ticket w.desk u).block + 0x1C) 0x1C0)
  sweep-stays u o = inside u 0x1C o (omega arith) _ 0x1C0 (inside u 0x10 o (omega arith) w.memory 4 start)

  idle-stays : (x : Bool) → Stays (idle_if x w.memory)
  idle-stays true = low w.memory FRONT FRONT_IDLE (omega arith) start
  idle-stays false = start

  -- ---- the steps of the driver

  abbrev StaysIn : World → Type 0
  StaysIn new = Stays new.memory

  of-made : (made new : World) → new ≡ made → StaysIn made → StaysIn new
  of-made made new e k = subst StaysIn (sym e) k

  fixes-stay : (new : World) → w.stop ≡ stop.Mismatch → Fixes w new → StaysIn new
  fixes-stay new at (inr r) = of-made _ new r.1 start
  fixes-stay new at (inl r) = by s h
    where
      not-here : (x : Stop) → w.stop ≡ x → (stop.Mismatch ≡ x → ⊥) → StaysIn new
      not-here x f miss = absurd (miss (sym at ∙ f))

      by : (q : Spot) → Holds version units q c w → StaysIn new
      by (Mismatched u x left) k =
          let o : IsOpen (ticket w.desk u).stage = active-open (ticket w.desk u).stage k.works.plays.begun.stage in
          of-made _ new r.world (subst (λ (i : ℕ). Stays (repaired w.memory i w.regs.dsp w.regs.dbc r.move)) (sym k.stays.3.dsa) (repair-stays u w.regs.dsp w.regs.dbc r.move o))
      by NotData k = (let z : None ≡ Some r.move = sym k.stays.3 ∙ r.is in absurd cc)
      by (Running p) k = not-here stop.Run k.stays.0 (λ z. absurd cc)
      by (Repaired u) k = not-here stop.Clear k.stays.0 (λ z. absurd cc)
      by (TimedOut u) k = not-here stop.Clear k.stays.0 (λ z. absurd cc)
      by JobOver k = not-here stop.Clear k.stays.0 (λ z. absurd cc)
      by (ResetAt p) k = not-here stop.Clear k.stays.0 (λ z. absurd cc)
      by Broken k = not-here stop.MustReset k.stays.0 (λ z. absurd cc)

  takes-stay : (x : Option ℕ) (new : World) (answer : Reply) → TakesOf x w answer new → StaysIn new
  takes-stay None new answer d = absurd d
  takes-stay (Some u) new answer d = of-made _ new d.1 (low w.memory w.desk.take IDLE (omega (arith, h.take)) start)

  marks-stay : (late : Bool) (u : ℕ) → is_late (ticket w.desk u).stage ≡ late → StaysIn (marks late w u).world
  marks-stay true u e = start
  marks-stay false u e = mark-stays u (early-open (ticket w.desk u).stage e)

  aborts-stay : (x : Decided) → StaysIn (aborts w x).world
  aborts-stay line.Open = start
  aborts-stay (line.Accepted u) = marks-stay (is_late (ticket w.desk u).stage) u refl
  aborts-stay (line.Refused r) = start

  device-stays : (idle : Bool) (target : ℕ) → StaysIn (device_resets idle w target).world
  device-stays true target = low _ FRONT JOB (omega arith) (low w.memory (JOB + 0x18) (target * 0x10000) (omega arith) start)
  device-stays false target = start

  bus-stays : (x : Stop) → StaysIn (bus_resets x w).world
  bus-stays stop.Run = low w.memory FRONT FRONT_IDLE (omega arith) start
  bus-stays stop.Mismatch = start
  bus-stays stop.Clear = start
  bus-stays stop.MustReset = low w.memory FRONT FRONT_IDLE (omega arith) start

  acts-stay : (k : ActKind) → StaysIn (acts_by w k).world
  acts-stay (Abort l) = aborts-stay (decided w l)
  acts-stay (Device target) = device-stays (front w == FRONT_IDLE) target
  acts-stay Bus = bus-stays w.stop

  acted-stays : (x : Option Act) (new : World) (answer : Reply) → ActsOf x w answer new → StaysIn new
  acted-stays None new answer d = absurd d
  acted-stays (Some a) new answer d = of-made _ new d.1 (acts-stay a.kind)

  refused-stays : (again : Bool) (l : Line) (r : Refused) → StaysIn (refuses again w l r)
  refused-stays true l r = start
  refused-stays false l r = start

  module _ (g : BenchSetting) (builds : (new : World) (l : Line) (k : Command) (u : ℕ) → command_at g l ≡ Some k → Accepts w l (plain k.request) u new → StaysIn new) where
    builds-by : (new : World) (l : Line) (k : Command) (answer : Reply) → command_at g l ≡ Some k → BuildsBy w l k answer new → StaysIn new
    builds-by new l k (reply.Built u) e d = builds new l k u e d
    builds-by new l k (reply.Refused r) e d = of-made _ new d.1 (refused-stays (is_tried_again k.when_full r) l r)
    builds-by new l k _ e d = absurd d

    builds-of : (x : Option Command) (new : World) (l : Line) (answer : Reply) → command_at g l ≡ x → BuildsOf x w l answer new → StaysIn new
    builds-of None new l answer e d = absurd d
    builds-of (Some k) new l answer e d = builds-by new l k answer e d

    pub each-step-stays : (new : World) (caller : ℕ) (x : Step) (answer : Reply) → Enabled g w caller x → Does g w caller x answer new → StaysIn new
    each-step-stays new caller (step.Build l) answer may d = builds-of (command_at g l) new l answer refl d
    each-step-stays new caller (step.Chip word) answer may d = chip new word answer may.1 d
    each-step-stays new caller (step.Link u) answer may d = of-made _ new d.1 (low w.memory _ (ticket w.desk u).block (entry-low u (open-live (ticket w.desk u).stage (subst IsOpen (sym may.0) tt))) start)
    each-step-stays new caller (step.Queue u) answer may d = of-made _ new d.1 (queue-stays u)
    each-step-stays new caller step.Signal answer may d = of-made _ new d.1 start
    each-step-stays new caller step.Fix answer may d = fixes-stay new may.1 d.1
    each-step-stays new caller (step.Sweep u) answer may d = of-made _ new d.1 (sweep-stays u (busy-open (ticket w.desk u).stage (swept-active w (ticket w.desk u) may.1)))
    each-step-stays new caller step.Restart answer may d = of-made _ new d.1 (idle-stays _)
    each-step-stays new caller step.TakeDone answer may d = takes-stay (done_ticket w.memory w.desk) new answer d
    each-step-stays new caller (step.Unlink u) answer may d = of-made _ new d.1 (low w.memory _ _ (entry-low u (ended-live (ticket w.desk u).stage may.1)) start)
    each-step-stays new caller (step.Free u) answer may d = of-made _ new d.world start
    each-step-stays new caller (step.Act k) answer may d = acted-stays (slice_get g.acts k) new answer d
    each-step-stays new caller step.ResetBus answer may d = of-made _ new d.1 (low w.memory FRONT FRONT_IDLE (omega arith) start)
    each-step-stays new caller (step.Sense u) answer may d =
        of-made _ new d.1 (low (turned w.memory (ticket w.desk u).block) FRONT (ticket w.desk u).block (omega arith) (turns u (subst IsOpen (sym may.2) tt)))
