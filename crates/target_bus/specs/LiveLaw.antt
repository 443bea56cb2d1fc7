-- The bus with its tickets keeps the laws of a bus.
use Rattle.std.proofs.Common.{◌≡◌, ℕ, List, Option, Some, None, true, false, ap, ◌∙◌}
use Rattle.rig_types.specs.declared.rig.Unit.{Unit as RigUnit}
use Rattle.chip_step.specs.Event.{Event, Phase, Shown, ByteIn, ByteOut, Select, Reselect, SetAtn, ClearAck, Leave}
use Rattle.chip_step.specs.Laws.{Signals, IsLawful}
use Rattle.chip_step.specs.declared.scsi_bus.Settled.TheVariants.{Selected, Reselected, TimedOut}
use Rattle.target_law.specs.declared.nexus.Nexus.{Nexus}
use Rattle.bus_law.specs.Bus.{BusState, signals_of}
use Rattle.bus_law.proofs.BusLaws as keeping
use Rattle.target_bus.specs.Live.{MovesWith}
use Rattle.target_bus.specs.declared.live_bus.LiveBus.{LiveBus}

-- a law of what is seen is one of what sees it, where what is seen tells that nothing changed
seen_lawfully : {A B : Type 0} (seen : A → B) (signals : B → Signals) (old : A) (event : Event) (new : A) → (seen new ≡ seen old → new ≡ old)
    → IsLawful signals (seen old) event (seen new) → IsLawful (λ (x : A). signals (seen x)) old event new
seen_lawfully seen signals old (Phase word None) new same h = h
seen_lawfully seen signals old (Phase word (Some phase)) new same h = h
seen_lawfully seen signals old (Shown phase) new same h = h
seen_lawfully seen signals old (ByteIn (Some b)) new same h = h
seen_lawfully seen signals old (ByteIn None) new same h = same h
seen_lawfully seen signals old (ByteOut b true) new same h = h
seen_lawfully seen signals old (ByteOut b false) new same h = same h
seen_lawfully seen signals old (Select target word Selected) new same h = h
seen_lawfully seen signals old (Select target word (Reselected by)) new same h = h
seen_lawfully seen signals old (Select target word TimedOut) new same h = h
seen_lawfully seen signals old (Reselect word (Some by)) new same h = h
seen_lawfully seen signals old (Reselect word None) new same h = same h
seen_lawfully seen signals old (SetAtn true) new same h = λ e. same (h e)
seen_lawfully seen signals old (SetAtn false) new same h = h
seen_lawfully seen signals old ClearAck new same h = λ e. same (h e)
seen_lawfully seen signals old (Leave word gone) new same h = (h.0, λ e. same (h.1 e))

is_same : {T : Type 0} (old new : LiveBus T) → new.tickets ≡ old.tickets → new.bus ≡ old.bus → new ≡ old
is_same {T} old new t b = ap (λ (x : T). record { bus = new.bus; tickets = x }) t ∙ ap (λ (x : BusState). record { bus = x; tickets = old.tickets }) b

pub moves_lawfully : {T : Type 0} (units : T → List RigUnit) (live : T → ℕ → Nexus → Option ℕ) (old : LiveBus T) (event : Event) (new : LiveBus T)
    → MovesWith units live old.bus old.tickets event new.bus new.tickets → IsLawful (λ (x : LiveBus T). signals_of x.bus) old event new
moves_lawfully {T} units live old event new m =
    seen_lawfully (λ (x : LiveBus T). x.bus) signals_of old event new (λ e. is_same old new m.1 e) (keeping.moves_lawfully (units old.tickets) (live old.tickets) old.bus event new.bus m.0)
