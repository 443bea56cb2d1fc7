-- A step of the chip at each point.
use Rattle.std.proofs.Common.{inl, inr, ℕ, List, refl}
use Rattle.word_owners.specs.Points.{At000, At008, At010Idle, At010Job, At010Sense, At018Idle, At018Job, At018Sense, At020, At028, At030, At038, At038Idle, At040, At040Idle, At048, At050, At058, At060, At068, At070, At078, At080, At088, At090, At098, At0A0, At0A8, At0B0, At0B8, At0C0, At0C8, At0D0, At0D8, At0E0, At0E8, At0F0, At0F8, At100, At108, At110, At118, At120, At128, At130, At138, At140, At148, At150, At158, At160, At168, At170, At178, At180, At188, At190, At198, At1A0, At1A0None, At1A8, At1A8Bad, At1A8None, At1B0, At1B0None, At1B8, At1B8None, At1C0, At1C8, At1D0, At1D8, At1E0, At1E8, At1F0, At1F8, At200, At208, At210, At218, At220, At228, At230, At238, At240, At248, At250, At258, At260, At268, At270, At278, At280, At288, At290, At298, At2A0, At2A8, At2B0, At2B8, At340, At3C8, At3D0, At3D8, At440, At448, At450, At458, At460, At468, At470, At478, At480, At488, At490, At498, At4A0, At4A8, At4B0, AtUnit, BehindContext, BehindUnit, InLuns, InTargets, LeavesContext, Moves}
use Rattle.cmd_block.specs.declared.TheConstants.{ENDED, CUT, NO_TARGET}
use Rattle.rig_types.specs.declared.rig.Unit.{Unit as RigUnit}
use Rattle.phase_fix.specs.declared.moves.DataMove.{DataMove}
use Rattle.world_law.specs.declared.reply.Reply.{Reply}
use Rattle.world_law.specs.World.{World}
use Rattle.world_law.specs.ChipSteps.{RunsChip}
use Rattle.word_owners.specs.DataMoves.{AfterMove, behind_move}
use Rattle.word_owners.specs.Parts.{Counts}
use Rattle.word_owners.specs.Holds.{Running, Mismatched, Broken}
use Rattle.word_owners.specs.Nexts.{IsNext, Leads}
use Rattle.word_owners.specs.Steps.{ChipStepsHold}
use Rattle.word_owners.proofs.BlockLoads as block
use Rattle.word_owners.proofs.BusSteps as bus
use Rattle.word_owners.proofs.MessageMoves as message
use Rattle.word_owners.proofs.Selections as selection
use Rattle.word_owners.proofs.StoreSteps as store
use Rattle.word_owners.proofs.TagSteps as tag
use Rattle.word_owners.proofs.ContextSteps as context
use Rattle.word_owners.proofs.ChainSteps as chain
use Rattle.word_owners.proofs.DataMoves.{data_moves_hold}
use Rattle.word_owners.proofs.Jumps.{jumps_hold}
use Rattle.word_owners.proofs.Loads.{loads_hold}
use Rattle.word_owners.proofs.Returns.{returns_hold}
use Rattle.word_owners.proofs.ChipSteps.{leads}

data_move : (version : ℕ) (units : List RigUnit) (t : ℕ) (x : DataMove) (c : Counts) (w new : World) (word : ℕ) (answer : Reply) → RunsChip w word answer new → AfterMove version units t x c new → Leads (IsNext (Moves t x)) version units c new
data_move version units t x c w new word answer run (inl h) = record { spot = Running (behind_move t x.phase x.entry); counts = c; is = inl refl; queued = refl; taken = refl; holds = h }
data_move version units t x c w new word answer run (inr (inl h)) = record { spot = Mismatched t x new.regs.dbc; counts = c; is = inr (inl (new.regs.dbc, refl)); queued = refl; taken = refl; holds = h }
data_move version units t x c w new word answer run (inr (inr h)) = record { spot = Broken; counts = c; is = inr (inr refl); queued = refl; taken = refl; holds = h }

pub chip_steps_hold : ChipStepsHold
chip_steps_hold version units At000 c w new word answer there run h = bus.keeps version units At000 c w new word answer refl run h
chip_steps_hold version units At008 c w new word answer there run h = block.keeps version units At008 c w new word answer refl run h
chip_steps_hold version units At010Idle c w new word answer there run h = block.keeps version units At010Idle c w new word answer refl run h
chip_steps_hold version units At010Job c w new word answer there run h = block.keeps version units At010Job c w new word answer refl run h
chip_steps_hold version units (At010Sense t) c w new word answer there run h = block.keeps version units (At010Sense t) c w new word answer refl run h
chip_steps_hold version units At018Idle c w new word answer there run h = leads version units At018Idle c w h new word answer run (IsNext At018Idle) (Running At020) refl (returns_hold version units At018Idle At020 c w new word answer refl run h)
chip_steps_hold version units At018Job c w new word answer there run h = leads version units At018Job c w h new word answer run (IsNext At018Job) (Running At298) refl (returns_hold version units At018Job At298 c w new word answer refl run h)
chip_steps_hold version units (At018Sense t) c w new word answer there run h = leads version units (At018Sense t) c w h new word answer run (IsNext (At018Sense t)) (Running (At440 t)) refl (returns_hold version units (At018Sense t) (At440 t) c w new word answer refl run h)
chip_steps_hold version units At020 c w new word answer there run h = leads version units At020 c w h new word answer run (IsNext At020) (Running At028) refl (loads_hold version units At020 At028 c w new word answer refl run h)
chip_steps_hold version units At028 c w new word answer there run h = block.keeps version units At028 c w new word answer refl run h
chip_steps_hold version units At030 c w new word answer there run h = block.keeps version units At030 c w new word answer refl run h
chip_steps_hold version units At038Idle c w new word answer there run h = block.keeps version units At038Idle c w new word answer refl run h
chip_steps_hold version units (At038 t) c w new word answer there run h = block.keeps version units (At038 t) c w new word answer refl run h
chip_steps_hold version units At040Idle c w new word answer there run h = leads version units At040Idle c w h new word answer run (IsNext At040Idle) (Running At048) refl (returns_hold version units At040Idle At048 c w new word answer refl run h)
chip_steps_hold version units (At040 t a) c w new word answer there run h = block.keeps version units (At040 t a) c w new word answer refl run h
chip_steps_hold version units At048 c w new word answer there run h = bus.keeps version units At048 c w new word answer refl run h
chip_steps_hold version units (At050 r) c w new word answer there run h = chain.keeps version units (At050 r) c w new word answer refl run h
chip_steps_hold version units (At058 r) c w new word answer there run h = chain.keeps version units (At058 r) c w new word answer refl run h
chip_steps_hold version units (InTargets r j) c w new word answer there run h = chain.keeps version units (InTargets r j) c w new word answer refl run h
chip_steps_hold version units (InLuns r j) c w new word answer there run h = chain.keeps version units (InLuns r j) c w new word answer refl run h
chip_steps_hold version units (AtUnit u r) c w new word answer there run h = chain.keeps version units (AtUnit u r) c w new word answer refl run h
chip_steps_hold version units (BehindUnit u r) c w new word answer there run h = chain.keeps version units (BehindUnit u r) c w new word answer refl run h
chip_steps_hold version units (At060 t) c w new word answer there run h = selection.keeps version units (At060 t) c w new word answer refl there run h
chip_steps_hold version units (At068 t) c w new word answer there run h = store.keeps version units (At068 t) c w new word answer refl run h
chip_steps_hold version units (At070 t) c w new word answer there run h = leads version units (At070 t) c w h new word answer run (IsNext (At070 t)) (Running (At078 t)) refl (loads_hold version units (At070 t) (At078 t) c w new word answer refl run h)
chip_steps_hold version units (At078 t) c w new word answer there run h = store.keeps version units (At078 t) c w new word answer refl run h
chip_steps_hold version units (At080 t) c w new word answer there run h = message.keeps version units (At080 t) c w new word answer refl run h
chip_steps_hold version units (At088 t) c w new word answer there run h = message.keeps version units (At088 t) c w new word answer refl run h
chip_steps_hold version units (At090 t) c w new word answer there run h = bus.keeps version units (At090 t) c w new word answer refl run h
chip_steps_hold version units (At098 t) c w new word answer there run h = bus.keeps version units (At098 t) c w new word answer refl run h
chip_steps_hold version units (At0A0 t) c w new word answer there run h = bus.keeps version units (At0A0 t) c w new word answer refl run h
chip_steps_hold version units (At0A8 t) c w new word answer there run h = bus.keeps version units (At0A8 t) c w new word answer refl run h
chip_steps_hold version units (At0B0 t) c w new word answer there run h = bus.keeps version units (At0B0 t) c w new word answer refl run h
chip_steps_hold version units (At0B8 t) c w new word answer there run h = block.keeps version units (At0B8 t) c w new word answer refl run h
chip_steps_hold version units (At0C0 t p) c w new word answer there run h = block.keeps version units (At0C0 t p) c w new word answer refl run h
chip_steps_hold version units (At0C8 t) c w new word answer there run h = message.keeps version units (At0C8 t) c w new word answer refl run h
chip_steps_hold version units (At0D0 t) c w new word answer there run h = leads version units (At0D0 t) c w h new word answer run (IsNext (At0D0 t)) (Running (At090 t)) refl (jumps_hold version units (At0D0 t) (At090 t) c w new word answer refl run h)
chip_steps_hold version units (At0D8 t) c w new word answer there run h = message.keeps version units (At0D8 t) c w new word answer refl run h
chip_steps_hold version units (At0E0 t) c w new word answer there run h = bus.keeps version units (At0E0 t) c w new word answer refl run h
chip_steps_hold version units (At0E8 t) c w new word answer there run h = bus.keeps version units (At0E8 t) c w new word answer refl run h
chip_steps_hold version units (At0F0 t) c w new word answer there run h = bus.keeps version units (At0F0 t) c w new word answer refl run h
chip_steps_hold version units (At0F8 t) c w new word answer there run h = bus.keeps version units (At0F8 t) c w new word answer refl run h
chip_steps_hold version units (At100 t) c w new word answer there run h = bus.keeps version units (At100 t) c w new word answer refl run h
chip_steps_hold version units (At108 t) c w new word answer there run h = block.keeps version units (At108 t) c w new word answer refl run h
chip_steps_hold version units (At110 t p) c w new word answer there run h = store.keeps version units (At110 t p) c w new word answer refl run h
chip_steps_hold version units (At118 t) c w new word answer there run h = bus.keeps version units (At118 t) c w new word answer refl run h
chip_steps_hold version units (At120 t) c w new word answer there run h = leads version units (At120 t) c w h new word answer run (IsNext (At120 t)) (Running (At090 t)) refl (jumps_hold version units (At120 t) (At090 t) c w new word answer refl run h)
chip_steps_hold version units (At128 t) c w new word answer there run h = block.keeps version units (At128 t) c w new word answer refl run h
chip_steps_hold version units (At130 t p) c w new word answer there run h = store.keeps version units (At130 t p) c w new word answer refl run h
chip_steps_hold version units (At138 t) c w new word answer there run h = bus.keeps version units (At138 t) c w new word answer refl run h
chip_steps_hold version units (At140 t) c w new word answer there run h = leads version units (At140 t) c w h new word answer run (IsNext (At140 t)) (Running (At090 t)) refl (jumps_hold version units (At140 t) (At090 t) c w new word answer refl run h)
chip_steps_hold version units (At148 t) c w new word answer there run h = bus.keeps version units (At148 t) c w new word answer refl run h
chip_steps_hold version units At150 c w new word answer there run h = bus.keeps version units At150 c w new word answer refl run h
chip_steps_hold version units At158 c w new word answer there run h = leads version units At158 c w h new word answer run (IsNext At158) (Running At000) refl (jumps_hold version units At158 At000 c w new word answer refl run h)
chip_steps_hold version units (At160 u r) c w new word answer there run h = tag.keeps version units (At160 u r) c w new word answer refl run h
chip_steps_hold version units (At168 u r) c w new word answer there run h = tag.keeps version units (At168 u r) c w new word answer refl run h
chip_steps_hold version units (At170 u r) c w new word answer there run h = tag.keeps version units (At170 u r) c w new word answer refl run h
chip_steps_hold version units (At178 u r) c w new word answer there run h = tag.keeps version units (At178 u r) c w new word answer refl run h
chip_steps_hold version units (At180 u r) c w new word answer there run h = tag.keeps version units (At180 u r) c w new word answer refl run h
chip_steps_hold version units (At188 u g r) c w new word answer there run h = tag.keeps version units (At188 u g r) c w new word answer refl run h
chip_steps_hold version units (At190 u s k r) c w new word answer there run h = tag.keeps version units (At190 u s k r) c w new word answer refl run h
chip_steps_hold version units (At460 u g r) c w new word answer there run h = tag.keeps version units (At460 u g r) c w new word answer refl run h
chip_steps_hold version units (At468 u g r) c w new word answer there run h = tag.keeps version units (At468 u g r) c w new word answer refl run h
chip_steps_hold version units (At470 u g r) c w new word answer there run h = tag.keeps version units (At470 u g r) c w new word answer refl run h
chip_steps_hold version units (At478 u g r) c w new word answer there run h = tag.keeps version units (At478 u g r) c w new word answer refl run h
chip_steps_hold version units (At480 u g r) c w new word answer there run h = tag.keeps version units (At480 u g r) c w new word answer refl run h
chip_steps_hold version units (At488 u g r) c w new word answer there run h = tag.keeps version units (At488 u g r) c w new word answer refl run h
chip_steps_hold version units (At490 u g r) c w new word answer there run h = tag.keeps version units (At490 u g r) c w new word answer refl run h
chip_steps_hold version units (At498 u g r) c w new word answer there run h = tag.keeps version units (At498 u g r) c w new word answer refl run h
chip_steps_hold version units (At4A0 u g r) c w new word answer there run h = tag.keeps version units (At4A0 u g r) c w new word answer refl run h
chip_steps_hold version units (At4A8 u s g r) c w new word answer there run h = tag.keeps version units (At4A8 u s g r) c w new word answer refl run h
chip_steps_hold version units (At4B0 u s k r) c w new word answer there run h = tag.keeps version units (At4B0 u s k r) c w new word answer refl run h
chip_steps_hold version units (At198 u g r) c w new word answer there run h = tag.keeps version units (At198 u g r) c w new word answer refl run h
chip_steps_hold version units (At1A0 b r) c w new word answer there run h = block.keeps version units (At1A0 b r) c w new word answer refl run h
chip_steps_hold version units At1A0None c w new word answer there run h = block.keeps version units At1A0None c w new word answer refl run h
chip_steps_hold version units (At1A8 t) c w new word answer there run h = leads version units (At1A8 t) c w h new word answer run (IsNext (At1A8 t)) (Running (At1B0 t)) refl (returns_hold version units (At1A8 t) (At1B0 t) c w new word answer refl run h)
chip_steps_hold version units At1A8Bad c w new word answer there run h = leads version units At1A8Bad c w h new word answer run (IsNext At1A8Bad) (Running At1C0) refl (returns_hold version units At1A8Bad At1C0 c w new word answer refl run h)
chip_steps_hold version units At1A8None c w new word answer there run h = leads version units At1A8None c w h new word answer run (IsNext At1A8None) (Running At1B0None) refl (returns_hold version units At1A8None At1B0None c w new word answer refl run h)
chip_steps_hold version units (At1B0 t) c w new word answer there run h = block.keeps version units (At1B0 t) c w new word answer refl run h
chip_steps_hold version units At1B0None c w new word answer there run h = block.keeps version units At1B0None c w new word answer refl run h
chip_steps_hold version units (At1B8 t a) c w new word answer there run h = block.keeps version units (At1B8 t a) c w new word answer refl run h
chip_steps_hold version units At1B8None c w new word answer there run h = leads version units At1B8None c w h new word answer run (IsNext At1B8None) (Running At1C0) refl (returns_hold version units At1B8None At1C0 c w new word answer refl run h)
chip_steps_hold version units At1C0 c w new word answer there run h = bus.keeps version units At1C0 c w new word answer refl run h
chip_steps_hold version units (At1C8 t) c w new word answer there run h = bus.keeps version units (At1C8 t) c w new word answer refl run h
chip_steps_hold version units (At1D0 t) c w new word answer there run h = bus.keeps version units (At1D0 t) c w new word answer refl run h
chip_steps_hold version units (At1D8 t) c w new word answer there run h = leads version units (At1D8 t) c w h new word answer run (IsNext (At1D8 t)) (Running (At1E0 t)) refl (loads_hold version units (At1D8 t) (At1E0 t) c w new word answer refl run h)
chip_steps_hold version units (At1E0 t) c w new word answer there run h = leads version units (At1E0 t) c w h new word answer run (IsNext (At1E0 t)) (Running (At220 t ENDED)) refl (jumps_hold version units (At1E0 t) (At220 t ENDED) c w new word answer refl run h)
chip_steps_hold version units (At1E8 t) c w new word answer there run h = bus.keeps version units (At1E8 t) c w new word answer refl run h
chip_steps_hold version units (At1F0 t) c w new word answer there run h = leads version units (At1F0 t) c w h new word answer run (IsNext (At1F0 t)) (Running (At200 t)) refl (jumps_hold version units (At1F0 t) (At200 t) c w new word answer refl run h)
chip_steps_hold version units (At1F8 t) c w new word answer there run h = store.keeps version units (At1F8 t) c w new word answer refl run h
chip_steps_hold version units (At200 t) c w new word answer there run h = leads version units (At200 t) c w h new word answer run (IsNext (At200 t)) (Running (At208 t)) refl (loads_hold version units (At200 t) (At208 t) c w new word answer refl run h)
chip_steps_hold version units (At208 t) c w new word answer there run h = leads version units (At208 t) c w h new word answer run (IsNext (At208 t)) (Running (At220 t CUT)) refl (jumps_hold version units (At208 t) (At220 t CUT) c w new word answer refl run h)
chip_steps_hold version units (At210 t) c w new word answer there run h = store.keeps version units (At210 t) c w new word answer refl run h
chip_steps_hold version units (At218 t) c w new word answer there run h = leads version units (At218 t) c w h new word answer run (IsNext (At218 t)) (Running (At220 t NO_TARGET)) refl (loads_hold version units (At218 t) (At220 t NO_TARGET) c w new word answer refl run h)
chip_steps_hold version units (At220 t v) c w new word answer there run h = store.keeps version units (At220 t v) c w new word answer refl run h
chip_steps_hold version units (At228 t) c w new word answer there run h = leads version units (At228 t) c w h new word answer run (IsNext (At228 t)) (Running (At230 t)) refl (loads_hold version units (At228 t) (At230 t) c w new word answer refl run h)
chip_steps_hold version units (At230 t) c w new word answer there run h = store.keeps version units (At230 t) c w new word answer refl run h
chip_steps_hold version units (At238 t) c w new word answer there run h = store.keeps version units (At238 t) c w new word answer refl run h
chip_steps_hold version units (At240 t) c w new word answer there run h = leads version units (At240 t) c w h new word answer run (IsNext (At240 t)) (Running (At248 t)) refl (loads_hold version units (At240 t) (At248 t) c w new word answer refl run h)
chip_steps_hold version units (At248 t) c w new word answer there run h = leads version units (At248 t) c w h new word answer run (IsNext (At248 t)) (Running (At250 t)) refl (loads_hold version units (At248 t) (At250 t) c w new word answer refl run h)
chip_steps_hold version units (At250 t) c w new word answer there run h = store.keeps version units (At250 t) c w new word answer refl run h
chip_steps_hold version units At258 c w new word answer there run h = block.keeps version units At258 c w new word answer refl run h
chip_steps_hold version units At260 c w new word answer there run h = store.keeps version units At260 c w new word answer refl run h
chip_steps_hold version units At268 c w new word answer there run h = bus.keeps version units At268 c w new word answer refl run h
chip_steps_hold version units At270 c w new word answer there run h = leads version units At270 c w h new word answer run (IsNext At270) (Running At000) refl (jumps_hold version units At270 At000 c w new word answer refl run h)
chip_steps_hold version units (At278 t) c w new word answer there run h = bus.keeps version units (At278 t) c w new word answer refl run h
chip_steps_hold version units (At280 t) c w new word answer there run h = bus.keeps version units (At280 t) c w new word answer refl run h
chip_steps_hold version units (At288 t) c w new word answer there run h = message.keeps version units (At288 t) c w new word answer refl run h
chip_steps_hold version units (At290 t) c w new word answer there run h = leads version units (At290 t) c w h new word answer run (IsNext (At290 t)) (Running (At1E8 t)) refl (jumps_hold version units (At290 t) (At1E8 t) c w new word answer refl run h)
chip_steps_hold version units At298 c w new word answer there run h = selection.keeps version units At298 c w new word answer refl there run h
chip_steps_hold version units At2A0 c w new word answer there run h = message.keeps version units At2A0 c w new word answer refl run h
chip_steps_hold version units At2A8 c w new word answer there run h = bus.keeps version units At2A8 c w new word answer refl run h
chip_steps_hold version units At2B0 c w new word answer there run h = bus.keeps version units At2B0 c w new word answer refl run h
chip_steps_hold version units (At2B8 t) c w new word answer there run h = bus.keeps version units (At2B8 t) c w new word answer refl run h
chip_steps_hold version units (Moves t x) c w new word answer there run h = data_move version units t x c w new word answer run (data_moves_hold version units t x c w new word answer run h)
chip_steps_hold version units (At340 t) c w new word answer there run h = leads version units (At340 t) c w h new word answer run (IsNext (At340 t)) (Running (At3C8 t)) refl (jumps_hold version units (At340 t) (At3C8 t) c w new word answer refl run h)
chip_steps_hold version units (At3C8 t) c w new word answer there run h = leads version units (At3C8 t) c w h new word answer run (IsNext (At3C8 t)) (Running (At3D0 t)) refl (loads_hold version units (At3C8 t) (At3D0 t) c w new word answer refl run h)
chip_steps_hold version units (At3D0 t) c w new word answer there run h = store.keeps version units (At3D0 t) c w new word answer refl run h
chip_steps_hold version units (At3D8 t) c w new word answer there run h = leads version units (At3D8 t) c w h new word answer run (IsNext (At3D8 t)) (Running (At090 t)) refl (jumps_hold version units (At3D8 t) (At090 t) c w new word answer refl run h)
chip_steps_hold version units (BehindContext t phase k) c w new word answer there run h = context.keeps version units (BehindContext t phase k) c w new word answer refl run h
chip_steps_hold version units (LeavesContext t phase j k) c w new word answer there run h = context.keeps version units (LeavesContext t phase j k) c w new word answer refl run h
chip_steps_hold version units (At440 t) c w new word answer there run h = selection.keeps version units (At440 t) c w new word answer refl there run h
chip_steps_hold version units (At448 t) c w new word answer there run h = leads version units (At448 t) c w h new word answer run (IsNext (At448 t)) (Running (At450 t)) refl (loads_hold version units (At448 t) (At450 t) c w new word answer refl run h)
chip_steps_hold version units (At450 t) c w new word answer there run h = store.keeps version units (At450 t) c w new word answer refl run h
chip_steps_hold version units (At458 t) c w new word answer there run h = leads version units (At458 t) c w h new word answer run (IsNext (At458 t)) (Running (At070 t)) refl (jumps_hold version units (At458 t) (At070 t) c w new word answer refl run h)
