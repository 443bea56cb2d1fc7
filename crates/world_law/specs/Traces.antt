-- What a trace says of an entry: its step, and the caller of a Build and of a Signal alone (own).
use Rattle.std.specs.Prelude.{ℕ, List, map, Option, Some, None}
use Rattle.rig_types.specs.declared.step.Step.{Step}
use Rattle.rig_types.specs.declared.step.Step.TheVariants as step
use Rattle.rig_types.specs.declared.step.Entry.{Entry}

pub record TraceEntry : Type 0 where
  pub step : Step
  pub caller : Option ℕ

abbrev pub caller_told : Step → ℕ → Option ℕ
caller_told (step.Build l) caller = Some caller
caller_told step.Signal caller = Some caller
caller_told s caller = None

abbrev pub trace_entry : Entry → TraceEntry
trace_entry e = record { step = e.step; caller = caller_told e.step e.caller }

abbrev pub trace : List Entry → List TraceEntry
trace es = map trace_entry es
