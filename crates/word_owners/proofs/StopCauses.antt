-- Each stop stage has the causes that it is for.
use Rattle.std.proofs.Common.{◌≡◌, inl, inr, ℕ, refl, sym, ap, ◌∙◌}
use Rattle.chip_regs.specs.declared.registers.Cause.{Cause}
use Rattle.chip_regs.specs.declared.registers.Cause.TheVariants.{Iid, Bf, Ma, Udc, Sto, Rst, Sir}
use Rattle.chip_regs.specs.declared.registers.Regs.{Regs}
use Rattle.world_law.specs.World.{World}
use Rattle.world_law.specs.declared.reply.Stop.{Stop}
use Rattle.world_law.specs.declared.reply.Stop.TheVariants.{Run, Mismatch, Clear, MustReset}
use Rattle.word_owners.specs.Holds.{Running, Mismatched, NotData, Fixed, TimedOut, JobOver, ResetAt, Broken, StoppedFor, IsJobOver}
use Rattle.word_owners.specs.StopCauses.{IsCleared, AreStops, StopsAreHandled}

-- one stage at a time
other : {A : Type 0} (w : World) (x y : Stop) → w.stop ≡ x → w.stop ≡ y → (x ≡ y → A) → A
other w x y e f k = k (sym e ∙ f)

over-cleared : (cause : Cause) (r : Regs) → IsJobOver cause r → IsCleared cause
over-cleared Sto r h = inr (inl refl)
over-cleared (Sir vector) r h = inr (inr (inr (ap (λ (v : ℕ). Sir v) h)))
over-cleared Iid r h = absurd h
over-cleared Bf r h = absurd h
over-cleared Ma r h = absurd h
over-cleared Udc r h = absurd h
over-cleared Rst r h = absurd h

at-mismatch : (w : World) → w.stop ≡ Mismatch → StoppedFor Ma w.regs → AreStops w
at-mismatch w e s = record {
  run = λ f. other w Mismatch Run e f (λ z. absurd cc);
  mismatch = λ f. s.is;
  clear = λ f. other w Mismatch Clear e f (λ z. absurd cc);
  reset = λ f. other w Mismatch MustReset e f (λ z. absurd cc);
}

at-clear : (w : World) (cause : Cause) → w.stop ≡ Clear → StoppedFor cause w.regs → IsCleared cause → AreStops w
at-clear w cause e s k = record {
  run = λ f. other w Clear Run e f (λ z. absurd cc);
  mismatch = λ f. other w Clear Mismatch e f (λ z. absurd cc);
  clear = λ f. (cause, s.is, k);
  reset = λ f. other w Clear MustReset e f (λ z. absurd cc);
}

pub stops_are_handled : StopsAreHandled
stops_are_handled version units (Running p) c w h = record {
  run = λ f. h.stays.2;
  mismatch = λ f. other w Run Mismatch h.stays.0 f (λ z. absurd cc);
  clear = λ f. other w Run Clear h.stays.0 f (λ z. absurd cc);
  reset = λ f. other w Run MustReset h.stays.0 f (λ z. absurd cc);
}
stops_are_handled version units (Mismatched t x left) c w h = at-mismatch w h.stays.0 h.stays.2
stops_are_handled version units NotData c w h = at-mismatch w h.stays.0 h.stays.2
stops_are_handled version units (Fixed t) c w h = at-clear w Ma h.stays.0 h.stays.2 (inl refl)
stops_are_handled version units (TimedOut t) c w h = at-clear w Sto h.stays.0 h.stays.2 (inr (inl refl))
stops_are_handled version units JobOver c w h = let x = h.stays.2 in at-clear w x.0 h.stays.0 x.1 (over-cleared x.0 w.regs x.2)
stops_are_handled version units (ResetAt p) c w h = at-clear w Rst h.stays.0 h.stays.2 (inr (inr (inl refl)))
stops_are_handled version units Broken c w h = record {
  run = λ f. other w MustReset Run h.stays.0 f (λ z. absurd cc);
  mismatch = λ f. other w MustReset Mismatch h.stays.0 f (λ z. absurd cc);
  clear = λ f. other w MustReset Clear h.stays.0 f (λ z. absurd cc);
  reset = λ f. h.stays.2;
}
