-- No step changes the block of a ticket that has its outcome.
use Rattle.std.proofs.Common.{arith, ◌≡◌, ◌≢◌, ◌⊎◌, inl, inr, ℕ, ◌+◌, ◌<◌, ◌≤◌, Bool, true, false, List, length, slice_index, Some, refl, sym, ap, subst, ◌∙◌}
use Rattle.std.specs.Prelude.{if◌then◌else◌}
use Rattle.std.proofs.lemmas.List.FromFn.{get_or-range_with_len, length-range_with_len}
use Rattle.bench_words.specs.Memory.{word_at, put_word}
use Rattle.bench_words.specs.Views.{Outside, WroteWithin}
use Rattle.bench_words.proofs.Cells.{word_at-plus}
use Rattle.bench_words.proofs.MemoryLaws.{word_apart}
use Rattle.host_map.specs.Places.{IsCommandBlock}
use Rattle.rig_types.specs.Ranges.{IsRig}
use Rattle.rig_types.specs.declared.commands.Command.{Command}
use Rattle.rig_types.specs.declared.rig.Unit.{Unit as RigUnit}
use Rattle.rig_types.specs.declared.step.Line.{Line}
use Rattle.unit_law.specs.Request.{plain}
use Rattle.sense_job.specs.Turning.{sense_area, turned}
use Rattle.sense_job.proofs.TurningLaws.{turned_is, turned-within}
use Rattle.desk_law.specs.declared.stage.Stage.{Stage}
use Rattle.desk_law.specs.declared.stage.Stage.TheVariants as stage
use Rattle.desk_law.specs.Desk.{ticket}
use Rattle.world_law.specs.Builds.{Accepts}
use Rattle.world_law.specs.ChipSteps.{RunsChip}
use Rattle.world_law.specs.Opening.{opened}
use Rattle.world_law.specs.Runs.{Moment, Steps, last}
use Rattle.world_law.specs.World.{BenchSetting, IsBenchSetting, World, command_at}
use Rattle.world_law.specs.declared.reply.Reply.{Reply}
use Rattle.world_law.specs.declared.reply.Stop.TheVariants as stop
use Rattle.world_law.proofs.TicketsKept.{keeps_tickets}
use Rattle.word_owners.specs.Footprints.{IsScripts, IsDatum}
use Rattle.word_owners.specs.Holds.{Spot, Holds}
use Rattle.word_owners.specs.KeptDesks.{AreKept}
use Rattle.word_owners.specs.Parts.{Counts}
use Rattle.word_owners.specs.Tickets.{Fixed, tickets_of, IsLive}
use Rattle.word_owners.specs.Worlds.{HasBytes}
use Rattle.word_owners.proofs.BufferWrites.{script_writes_only}
use Rattle.word_owners.proofs.BuiltMemory.{build_adds}
use Rattle.word_owners.proofs.Frames.{active-live, same_or}
use Rattle.word_owners.proofs.Lists.{live-within}
use Rattle.word_owners.proofs.Worlds.{words_are_owned, depths_are_kept}
use Rattle.block_words.specs.EndedWords.{IsEndedOrUnlinked, EndedBlocksStay}
use Rattle.block_words.proofs.WrittenMemory.{IsOpen, active-open, open-live, each-step-stays}

pub over-live : (x : Stage) → IsEndedOrUnlinked x → IsLive x
over-live x o e = subst IsEndedOrUnlinked e o

over-closed : (x : Stage) → IsEndedOrUnlinked x → IsOpen x → ⊥
over-closed (stage.Ended o) i e = e
over-closed stage.Unlinked i e = e
over-closed x i e = absurd i

module _ (version : ℕ) (units : List RigUnit) (s : Spot) (c : Counts) (w : World) (h : Holds version units s c w) (t : ℕ) (over : IsEndedOrUnlinked (ticket w.desk t).stage) (o : ℕ) (fits : o + 4 ≤ 0x200) where
  abbrev b : ℕ
  b = (ticket w.desk t).block

  live : IsLive (ticket w.desk t).stage
  live = over-live (ticket w.desk t).stage over

  place : IsCommandBlock b
  place = h.tickets.block t live

  abbrev Stays : List ℕ → Type 0
  Stays m = word_at m (b + o) ≡ word_at w.memory (b + o)

  -- an open ticket is another one, with another block
  another : (u : ℕ) → IsOpen (ticket w.desk u).stage → u ≢ t
  another u open_is e = over-closed (ticket w.desk t).stage over (subst (λ (i : ℕ). IsOpen (ticket w.desk i).stage) e open_is)

  low : (m : List ℕ) (a v : ℕ) → a + 4 ≤ 0x10000 → Stays m → Stays (put_word m a v)
  low m a v l e = word_apart m a (b + o) v (inr (omega (arith, l, place.from))) ∙ e

  inside : (u e : ℕ) → IsOpen (ticket w.desk u).stage → e + 4 ≤ 0x200 → (m : List ℕ) (v : ℕ) → Stays m → Stays (put_word m ((ticket w.desk u).block + e) v)
  inside u e open_is within m v k = word_apart m ((ticket w.desk u).block + e) (b + o) v apart ∙ k
    where
      below-or : (x y : ℕ) → (x ≤ y) ⊎ (y ≤ x)
      below-or x y = grind arith

      apart : (b + o + 4 ≤ (ticket w.desk u).block + e) ⊎ ((ticket w.desk u).block + e + 4 ≤ b + o)
      apart =
          let alive = open-live (ticket w.desk u).stage open_is in
          let p = h.tickets.block u alive in
          let ne : (ticket w.desk u).block ≢ b = h.tickets.blocks u t alive live (another u open_is) in
          elim (below-or b (ticket w.desk u).block) [
            | inl x ↦ inl (omega (arith, p.aligned, place.aligned, ne, x, fits))
            | inr x ↦ inr (omega (arith, p.aligned, place.aligned, ne, x, within))
          ]

  turns : (u : ℕ) → IsOpen (ticket w.desk u).stage → Stays (turned w.memory (ticket w.desk u).block)
  turns u open_is = r.other (b + o) outside
    where
      alive : IsLive (ticket w.desk u).stage
      alive = open-live (ticket w.desk u).stage open_is

      p : IsCommandBlock (ticket w.desk u).block
      p = h.tickets.block u alive

      r : WroteWithin (word_at w.memory) (word_at (turned w.memory (ticket w.desk u).block)) ((ticket w.desk u).block + 0) ((ticket w.desk u).block + 0xF0 + 6)
      r = turned-within (word_at w.memory) (word_at (turned w.memory (ticket w.desk u).block)) (ticket w.desk u).block (turned_is w.memory (ticket w.desk u).block h.size p)

      outside : Outside (b + o) ((ticket w.desk u).block + 0) ((ticket w.desk u).block + 0xF0 + 6)
      outside = let ne : (ticket w.desk u).block ≢ b = h.tickets.blocks u t alive live (another u open_is) in omega (arith, p.aligned, place.aligned, ne, fits)

  -- ---- the chip

  -- what another ticket moves lies beside the block
  moved-beside : (f : Fixed) (i : ℕ) → b ≤ i → i < b + 0x200 → IsCommandBlock f.block → f.block ≢ b → ((j : ℕ) → j < length f.own → 0x200000 ≤ slice_index f.own j) → (x : Bool) → (j : ℕ) → j < length (if x then sense_area f.block else f.own)
      → slice_index (if x then sense_area f.block else f.own) j ≡ i → ⊥
  moved-beside f i l g p ne within false j k e = let z = within j k in omega (arith, z, e, g, place.below)
  moved-beside f i l g p ne within true j k e =
      let n : length (sense_area f.block) ≡ 18 = length-range_with_len (f.block + 0x100) 18 in
      let at : slice_index (sense_area f.block) j ≡ f.block + 0x100 + j = get_or-range_with_len (f.block + 0x100) 18 j 0 (omega (arith, k)) in
      omega (arith, at, e, k, n, l, g, p.aligned, place.aligned, ne)

  byte-kept : (i : ℕ) → b + o ≤ i → i < b + o + 4 → IsScripts w i ⊎ IsDatum w i → ⊥
  byte-kept i l g (inl (inl x)) = omega (arith, x.1, l, place.from)
  byte-kept i l g (inl (inr (inl x))) = omega (arith, x.1, h.donep.is, l, place.from)
  byte-kept i l g (inl (inr (inr x))) =
      let alive = active-live (ticket w.desk x.number).stage x.active in
      let p = h.tickets.block x.number alive in
      let ne : (ticket w.desk x.number).block ≢ b = h.tickets.blocks x.number t alive live (another x.number (active-open (ticket w.desk x.number).stage x.active)) in
      let q : w.regs.dsa ≡ (ticket w.desk x.number).block = x.dsa in
      elim x.field [
        | inl y ↦ omega (arith, q, y, l, g, fits, p.aligned, place.aligned, ne)
        | inr y ↦ omega (arith, q, y, l, g, fits, p.aligned, place.aligned, ne)
      ]
  byte-kept i l g (inr x) =
      let f = (tickets_of w.desk).fixed x.number in
      let alive = active-live (ticket w.desk x.number).stage x.active in
      let ne : (ticket w.desk x.number).block ≢ b = h.tickets.blocks x.number t alive live (another x.number (active-open (ticket w.desk x.number).stage x.active)) in
      moved-beside f i (omega (arith, l)) (omega (arith, g, fits)) (h.tickets.block x.number alive) ne (λ j k. (h.tickets.within x.number j alive k).0) f.turned x.own.0 x.own.1 x.own.2

  chip-stays : (m : List ℕ) → ((i : ℕ) → slice_index m i ≢ slice_index w.memory i → IsScripts w i ⊎ IsDatum w i) → Stays m
  chip-stays m only =
      let e0 = same-byte (b + o) (omega arith) (omega arith) in
      let e1 = same-byte (b + o + 1) (omega arith) (omega arith) in
      let e2 = same-byte (b + o + 2) (omega arith) (omega arith) in
      let e3 = same-byte (b + o + 3) (omega arith) (omega arith) in
      omega (arith, word_at-plus m (b + o), word_at-plus w.memory (b + o), e0, e1, e2, e3)
    where
      same-byte : (i : ℕ) → b + o ≤ i → i < b + o + 4 → slice_index m i ≡ slice_index w.memory i
      same-byte i l g = elim (same_or (slice_index m i) (slice_index w.memory i)) [ inl e ↦ e | inr ne ↦ absurd (byte-kept i l g (only i ne)) ]

  -- ---- Build
  module _ (g : BenchSetting) (setting : IsBenchSetting g) (bytes : HasBytes g) (desks : AreKept w.desk) (version_is : version ≡ g.version) (units_are : units ≡ g.units) where
    rig-here : IsRig w.desk.version w.desk.units g.retries g.step_limit
    rig-here =
        subst (λ (v : ℕ). IsRig v w.desk.units g.retries g.step_limit) (sym (h.version_is ∙ version_is))
        (subst (λ (us : List RigUnit). IsRig g.version us g.retries g.step_limit) (sym (h.units_are ∙ units_are)) setting.rig)

    accepts-stay : (new : World) (l : Line) (k : Command) (u : ℕ) → command_at g l ≡ Some k → Accepts w l (plain k.request) u new → Stays new.memory
    accepts-stay new l k u e d =
        let added = (build_adds g.retries g.step_limit w new.desk new.memory l (plain k.request) u rig-here (bytes l k e) h.size h.bytes h.checked (record { tickets = h.tickets; depths = desks.depths; space = desks.space }) d.builds).added in
        let ts = tickets_of w.desk in
        let other : t ≢ u = λ z. live (ap (λ (i : ℕ). (ticket w.desk i).stage) z ∙ added.was) in
        let fixed_same : (tickets_of new.desk).fixed t ≡ ts.fixed t = added.fixeds t other in
        let stage_same : (tickets_of new.desk).stage t ≡ ts.stage t = added.stages t other in
        let alive : IsLive ((tickets_of new.desk).stage t) = λ z. live (sym stage_same ∙ z) in
        let built_live : IsLive ((tickets_of new.desk).stage u) = λ z. (let y : stage.Built ≡ stage.Freed = sym added.stage ∙ z in absurd cc) in
        let q : ((tickets_of new.desk).fixed t).block ≡ b = ap (λ (f : Fixed). f.block) fixed_same in
        let ne = added.tickets.blocks t u alive built_live other in
        let p = added.tickets.block u built_live in
        added.outside (b + o) (omega (arith, fits, place.below)) (omega (arith, p.aligned, place.aligned, ne, q, fits))

    pub block-stays : (only : (new : World) (word : ℕ) (answer : Reply) → w.stop ≡ stop.Run → RunsChip w word answer new → (i : ℕ) → slice_index new.memory i ≢ slice_index w.memory i → IsScripts w i ⊎ IsDatum w i) → (m : Moment) → Steps g w m → Stays m.after.memory
    block-stays only m steps =
        each-step-stays version units s c w h Stays refl low inside turns (λ new word answer runs run. chip-stays new.memory (only new word answer runs run)) g accepts-stay m.after m.entry.caller m.entry.step m.reply steps.enabled steps.does

-- ---- every world of a run

pub ended-blocks-stay : EndedBlocksStay
ended-blocks-stay g setting bytes ms r m steps t o over fits =
    let w = last (opened g) ms in
    let own = words_are_owned g setting bytes ms r in
    let live = over-live (ticket w.desk t).stage over in
    let block : (ticket m.after.desk t).block ≡ (ticket w.desk t).block = (keeps_tickets g w m t steps (live-within w.desk.tickets t live)).block in
    ap (λ (i : ℕ). word_at m.after.memory (i + o)) block
    ∙ block-stays g.version g.units own.spot own.counts w own.holds t over o fits g setting bytes (depths_are_kept g setting bytes ms r) refl refl
    (λ new word answer runs run i ne. script_writes_only g setting bytes ms r new word answer i runs run ne) m steps
