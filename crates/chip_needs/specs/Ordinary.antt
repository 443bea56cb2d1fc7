-- The addresses at which a byte or a message goes to a target, and the steps of the chip at all others. Source: own.
use Rattle.std.specs.Prelude.{◌≡◌, ℕ, ◌+◌, ◌==◌, ◌&&◌, ◌||◌, nat_le, Bool, true, false, List, [], ◌∷◌, ◌++◌}
use Rattle.rig_types.specs.declared.step.Step.TheVariants as step
use Rattle.driver_script.specs.Script.{label_of}
use Rattle.driver_script.specs.declared.labels.Name.TheVariants as label
use Rattle.target_law.specs.Target.{ConnectionState, TaskConnected}
use Rattle.target_law.specs.Bytes.{Connection}
use Rattle.bus_law.specs.Bus.{BusState}
use Rattle.bus_events.specs.Needs.{NeedsAck}
use Rattle.bus_events.specs.Targets.{targets}
use Rattle.bus_events.specs.TicketLaws.{AreJoined}
use Rattle.rig_types.specs.declared.rig.Unit.{Unit as RigUnit}
use Rattle.ticket_fate.specs.Tickets.{Plan, Ticket}
use Rattle.world_law.specs.Opening.{opened}
use Rattle.world_law.specs.Runs.{Moment, Steps, IsRun, last}
use Rattle.world_law.specs.World.{BenchSetting, IsBenchSetting}
use Rattle.word_owners.specs.Worlds.{HasBytes}
use Rattle.run_joined.specs.JoinedRuns.{RunJoins, IsJoinedRun}

-- the message and the command behind a selection, ABORT TAG, BUS DEVICE RESET, and the data moves of a phase DATA OUT
abbrev pub goes_out : (dsp : ℕ) → Bool
goes_out dsp =
    dsp == 0x080 || (dsp == 0x088 || (dsp == label_of label.Abort + 0x10 || (dsp == label_of label.Resetjob + 0x08
    || ((nat_le (label_of label.Dataout) dsp && nat_le dsp 0x3C0) || (dsp == label_of label.Pmout0 || dsp == label_of label.Pmout1)))))

-- both pointers of a ticket stand where its connected task does, at its position and its saved position; of a sense task nothing is said
abbrev pub PointsBy : (senses : Bool) → Ticket → Connection → Type 0
PointsBy true k c = Unit {0}
PointsBy false k c = (k.lastp ≡ c.task.position) × (k.savep ≡ c.task.saved)

abbrev pub IsPointed : (ℕ → Ticket) → ConnectionState → Type 0
IsPointed ks (TaskConnected c) = PointsBy c.task.senses (ks c.task.ticket) c
IsPointed ks l = Unit {0}

abbrev pub ArePointed : (ℕ → Ticket) → BusState → Type 0
ArePointed ks b = (i : ℕ) → IsPointed ks (targets b i).link

-- then an acknowledgement finds what it asks of the tickets
abbrev pub AcksFind : Type 0
AcksFind = (p : Plan) (units : List RigUnit) (b : BusState) (ks : ℕ → Ticket) → AreJoined p units b ks → ArePointed ks b → (i : ℕ) → NeedsAck p i ks (targets b i).link

-- a joined run is joined with pointers that stand so
abbrev pub PointersStand : Type 0
PointersStand = (g : BenchSetting) (p : Plan) (ms : List Moment) (ks : ℕ → Ticket) → RunJoins g p ms ks → (ns : ℕ → Ticket) × RunJoins g p ms ns × ArePointed ns (last (opened g) ms).bus

-- so a step of the chip at any other address leaves a run joined that was so
abbrev pub OrdinaryStepsJoin : Type 0
OrdinaryStepsJoin =
    (g : BenchSetting) → IsBenchSetting g → HasBytes g → (p : Plan) (ms : List Moment) (m : Moment) (word : ℕ) → IsRun g (opened g) ms → Steps g (last (opened g) ms) m → m.entry.step ≡ step.Chip word
    → goes_out (last (opened g) ms).regs.dsp ≡ false → IsJoinedRun g p ms → IsJoinedRun g p (ms ++ m ∷ [])
