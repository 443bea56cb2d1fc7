-- Where a step of the chip leads: which spots may follow a point, whatever the bus answers (own).
use Rattle.std.specs.Prelude.{◌≡◌, ◌⊎◌, ℕ, ◌+◌, ◌-◌, ◌%◌, List}
use Rattle.rig_types.specs.declared.rig.Unit.{Unit as RigUnit}
use Rattle.cmd_block.specs.declared.TheConstants.{ENDED, CUT, NO_TARGET}
use Rattle.phase_fix.specs.declared.moves.DataMove.{DataMove}
use Rattle.phase_fix.specs.declared.moves.Entry.TheVariants.{Segment}
use Rattle.world_law.specs.World.{World}
use Rattle.word_owners.specs.Points.{Point, At058, InTargets, InLuns, AtUnit, BehindUnit, At000, At008, At010Idle, At010Job, At010Sense, At018Idle, At018Job, At018Sense, At020, At028, At030, At038, At038Idle, At040, At040Idle, At048, At050, At060, At068, At070, At078, At080, At088, At090, At098, At0A0, At0A8, At0B0, At0B8, At0C0, At0C8, At0D0, At0D8, At0E0, At0E8, At0F0, At0F8, At100, At108, At110, At118, At120, At128, At130, At138, At140, At148, At150, At158, At160, At168, At170, At178, At180, At188, At190, At198, At1A0, At1A0None, At1A8, At1A8Bad, At1A8None, At1B0, At1B0None, At1B8, At1B8None, At1C0, At1C8, At1D0, At1D8, At1E0, At1E8, At1F0, At1F8, At200, At208, At210, At218, At220, At228, At230, At238, At240, At248, At250, At258, At260, At268, At270, At278, At280, At288, At290, At298, At2A0, At2A8, At2B0, At2B8, At340, At3C8, At3D0, At3D8, At440, At448, At450, At458, At460, At468, At470, At478, At480, At488, At490, At498, At4A0, At4A8, At4B0, BehindContext, LeavesContext, Moves}
use Rattle.word_owners.specs.DataMoves.{behind_move}
use Rattle.word_owners.specs.Parts.{Counts}
use Rattle.word_owners.specs.Holds.{Spot, Holds, Running, Mismatched, NotData, TimedOut, JobOver, Broken}

-- the chip runs on at a point
abbrev pub To : Point → Spot → Type 0
To p s = s ≡ Running p

-- a block move goes on, was broken off, or can't be made
abbrev pub Moved : Point → Spot → Type 0
Moved p s = To p s ⊎ (s ≡ NotData) ⊎ (s ≡ Broken)

-- a jump by the phase that is shown goes there or on; where the bus is free, it stops
abbrev pub Asked : Point → Point → Spot → Type 0
Asked p q s = To p s ⊎ To q s ⊎ (s ≡ Broken)

-- a jump by a byte, or by a phase that is shown already, goes there or on
abbrev pub Either : Point → Point → Spot → Type 0
Either p q s = To p s ⊎ To q s

-- the bus is free, or the target stays
abbrev pub Waited : Point → Spot → Type 0
Waited p s = To p s ⊎ (s ≡ NotData)

-- a target that reselects comes first
abbrev pub Called : Spot → Type 0
Called s = (r : ℕ) × To (At050 r) s

abbrev pub IsNext : Point → Spot → Type 0
IsNext At000 s = To At008 s
IsNext At008 s = To At010Idle s ⊎ To At010Job s ⊎ ((t : ℕ) × To (At010Sense t) s)
IsNext At010Idle s = To At018Idle s
IsNext At010Job s = To At018Job s
IsNext (At010Sense t) s = To (At018Sense t) s
IsNext At018Idle s = To At020 s
IsNext At018Job s = To At298 s
IsNext (At018Sense t) s = To (At440 t) s
IsNext At020 s = To At028 s
IsNext At028 s = To At030 s
IsNext At030 s = To At038Idle s ⊎ ((t : ℕ) × To (At038 t) s)
IsNext At038Idle s = To At040Idle s
IsNext (At038 t) s = (a : ℕ) × To (At040 t a) s
IsNext At040Idle s = To At048 s
IsNext (At040 t a) s = To (At060 t) s ⊎ To (At1F8 t) s
IsNext At048 s = To At048 s ⊎ To At000 s ⊎ Called s
IsNext (At060 t) s = To (At068 t) s ⊎ Called s ⊎ (s ≡ TimedOut t)
IsNext (At068 t) s = To (At070 t) s
IsNext (At070 t) s = To (At078 t) s
IsNext (At078 t) s = To (At080 t) s
IsNext (At080 t) s = Moved (At088 t) s
IsNext (At088 t) s = Moved (At090 t) s
IsNext (At090 t) s = Asked (At0D8 t) (At098 t) s
IsNext (At098 t) s = Either (At0C8 t) (At0A0 t) s
IsNext (At0A0 t) s = Either (At0B8 t) (At0A8 t) s
IsNext (At0A8 t) s = Either (At0B8 t) (At0B0 t) s
IsNext (At0B0 t) s = s ≡ Broken
IsNext (At0B8 t) s = (p : ℕ) × To (At0C0 t p) s
IsNext (At0C0 t p) s = To (At2B8 t) s ⊎ ((x : DataMove) × To (Moves t x) s)
IsNext (At0C8 t) s = Moved (At0D0 t) s
IsNext (At0D0 t) s = To (At090 t) s
IsNext (At0D8 t) s = Moved (At0E0 t) s
IsNext (At0E0 t) s = Either (At1C8 t) (At0E8 t) s
IsNext (At0E8 t) s = Either (At108 t) (At0F0 t) s
IsNext (At0F0 t) s = Either (At128 t) (At0F8 t) s
IsNext (At0F8 t) s = Either (At148 t) (At100 t) s
IsNext (At100 t) s = s ≡ Broken
IsNext (At108 t) s = (p : ℕ) × To (At110 t p) s
IsNext (At110 t p) s = To (At118 t) s
IsNext (At118 t) s = To (At120 t) s
IsNext (At120 t) s = To (At090 t) s
IsNext (At128 t) s = (p : ℕ) × To (At130 t p) s
IsNext (At130 t p) s = To (At138 t) s
IsNext (At138 t) s = To (At140 t) s
IsNext (At140 t) s = To (At090 t) s
IsNext (At148 t) s = To At150 s
IsNext At150 s = Waited At158 s
IsNext At158 s = To At000 s
IsNext (At160 u r) s = To (At168 u r) s
IsNext (At168 u r) s = Moved (At170 u r) s
IsNext (At170 u r) s = To (At178 u r) s ⊎ (s ≡ Broken)
IsNext (At178 u r) s = To (At180 u r) s
IsNext (At180 u r) s = ((g : ℕ) × To (At188 u g r) s) ⊎ (s ≡ NotData) ⊎ (s ≡ Broken)
IsNext (At188 u g r) s = To (At190 u 0 (g - g % 4) r) s ⊎ To (At460 u g r) s
IsNext (At190 u t k r) s = To (At198 u (k + t) r) s
IsNext (At198 u g r) s = To At1A0None s ⊎ ((b : ℕ) × To (At1A0 b r) s)
IsNext (At1A0 b r) s = To At1A8Bad s ⊎ ((t : ℕ) × To (At1A8 t) s)
IsNext At1A0None s = To At1A8None s
IsNext (At1A8 t) s = To (At1B0 t) s
IsNext At1A8Bad s = To At1C0 s
IsNext At1A8None s = To At1B0None s
IsNext (At1B0 t) s = (a : ℕ) × To (At1B8 t a) s
IsNext At1B0None s = To At1B8None s
IsNext (At1B8 t a) s = To (At128 t) s ⊎ To (At278 t) s
IsNext At1B8None s = To At1C0 s
IsNext At1C0 s = s ≡ Broken
IsNext (At1C8 t) s = To (At1D0 t) s
IsNext (At1D0 t) s = Waited (At1D8 t) s
IsNext (At1D8 t) s = To (At1E0 t) s
IsNext (At1E0 t) s = To (At220 t ENDED) s
IsNext (At1E8 t) s = Waited (At1F0 t) s
IsNext (At1F0 t) s = To (At200 t) s
IsNext (At1F8 t) s = To (At200 t) s
IsNext (At200 t) s = To (At208 t) s
IsNext (At208 t) s = To (At220 t CUT) s
IsNext (At210 t) s = To (At218 t) s
IsNext (At218 t) s = To (At220 t NO_TARGET) s
IsNext (At220 t v) s = To (At228 t) s
IsNext (At228 t) s = To (At230 t) s
IsNext (At230 t) s = To (At238 t) s
IsNext (At238 t) s = To (At240 t) s
IsNext (At240 t) s = To (At248 t) s
IsNext (At248 t) s = To (At250 t) s
IsNext (At250 t) s = To At258 s
IsNext At258 s = To At260 s
IsNext At260 s = To At268 s
IsNext At268 s = To At270 s
IsNext At270 s = To At000 s
IsNext (At278 t) s = To (At280 t) s
IsNext (At280 t) s = To (At288 t) s
IsNext (At288 t) s = Moved (At290 t) s
IsNext (At290 t) s = To (At1E8 t) s
IsNext At298 s = To At2A0 s ⊎ Called s ⊎ (s ≡ JobOver)
IsNext At2A0 s = Moved At2A8 s
IsNext At2A8 s = Waited At2B0 s
IsNext At2B0 s = s ≡ JobOver
IsNext (At2B8 t) s = s ≡ Broken
IsNext (At340 t) s = To (At3C8 t) s
IsNext (At3C8 t) s = To (At3D0 t) s
IsNext (At3D0 t) s = To (At3D8 t) s
IsNext (At3D8 t) s = To (At090 t) s
IsNext (At440 t) s = To (At448 t) s ⊎ Called s
IsNext (At448 t) s = To (At450 t) s
IsNext (At450 t) s = To (At458 t) s
IsNext (At458 t) s = To (At070 t) s
IsNext (At460 u g r) s = Either (At480 u g r) (At468 u g r) s
IsNext (At468 u g r) s = Either (At490 u g r) (At470 u g r) s
IsNext (At470 u g r) s = Either (At4A0 u g r) (At478 u g r) s
IsNext (At478 u g r) s = To (At4A8 u 0 g r) s
IsNext (At480 u g r) s = To (At488 u g r) s
IsNext (At488 u g r) s = To (At4A8 u 1 g r) s
IsNext (At490 u g r) s = To (At498 u g r) s
IsNext (At498 u g r) s = To (At4A8 u 2 g r) s
IsNext (At4A0 u g r) s = To (At4A8 u 3 g r) s
IsNext (At4A8 u t g r) s = To (At4B0 u t (g - g % 4) r) s
IsNext (At4B0 u t k r) s = To (At190 u t k r) s
IsNext (Moves t x) s = To (behind_move t x.phase x.entry) s ⊎ ((left : ℕ) × (s ≡ Mismatched t x left)) ⊎ (s ≡ Broken)
IsNext (BehindContext t phase k) s = (j : ℕ) × To (LeavesContext t phase j k) s
IsNext (LeavesContext t phase j k) s = To (At340 t) s ⊎ To (At3C8 t) s ⊎ To (Moves t (record { phase = phase; entry = Segment j })) s
IsNext (At050 r) s = To (At058 r) s
IsNext (At058 r) s = To (InTargets r 0) s
IsNext (InTargets r j) s = To (InLuns r 0) s ⊎ To (InTargets r (j + 1)) s ⊎ (s ≡ Broken)
IsNext (InLuns r j) s = To (InLuns r (j + 1)) s ⊎ ((u : ℕ) × To (AtUnit u r) s) ⊎ (s ≡ NotData) ⊎ (s ≡ Broken)
IsNext (AtUnit u r) s = To (BehindUnit u r) s
IsNext (BehindUnit u r) s = To (At160 u r) s

-- the invariant holds at a spot that may follow, and what the driver counts is as before
pub record Leads (next : Spot → Type 0) (version : ℕ) (units : List RigUnit) (c : Counts) (new : World) : Type 0 where
  pub spot : Spot
  pub counts : Counts
  pub is : next spot
  pub queued : counts.queued ≡ c.queued
  pub taken : counts.taken ≡ c.taken
  pub holds : Holds version units spot counts new
