-- Where the chip is in the script: a point for each address, with the ticket, the unit or the target at work, and one table that says what stands
-- there (own).
use Rattle.std.specs.Prelude.{ℕ, ◌+◌, ◌*◌, Option, Some, None}
use Rattle.host_map.specs.declared.TheConstants.{IDLE, NOTASK, FRONT_IDLE, JOB, CHAINS}
use Rattle.host_map.specs.Places.{target_chain, unit_chain}
use Rattle.cmd_block.specs.declared.TheConstants.{ENDED, CUT, NO_TARGET}
use Rattle.driver_script.specs.Script.{label_of}
use Rattle.driver_script.specs.declared.labels.Name.TheVariants as label
use Rattle.phase_fix.specs.declared.moves.DataMove.{DataMove}
use Rattle.phase_fix.specs.declared.moves.DataPhase.{DataPhase}
use Rattle.phase_fix.specs.declared.moves.Entry.TheVariants.{Context}
use Rattle.phase_fix.specs.Moves.{first_segment, context_label}
use Rattle.word_owners.specs.Pointers.{move_place}

-- What the chip works on, as far as memory tells.
pub data Work : Type 0 where
  -- nothing
  Free : Work
  -- the first ticket of the start ring; its START was read; it is selected
  Head : ℕ → Work
  Entering : ℕ → ℕ → Work
  Selected : ℕ → Work
  -- the ticket at FRONT
  Front : ℕ → Work
  -- a ticket that is begun
  Begun : ℕ → Work
  -- one that is to end with this STATE
  Ending : ℕ → ℕ → Work
  -- a ticket with a data pointer in a register, at a data move, and behind a context that goes back to this segment
  Carrying : ℕ → ℕ → Work
  Moving : ℕ → DataMove → Work
  Behind : ℕ → DataPhase → ℕ → Work
  -- a ticket whose RESTART was read
  Returning : ℕ → ℕ → Work
  -- a target that has reselected: by its number, and at an instruction of a chain
  Naming : ℕ → Work
  ChoosingTarget : ℕ → ℕ → Work
  Finding : ℕ → ℕ → Work
  -- a unit of it, with a tag, with a tag and a table, and with the offset of a tag in a table
  Listed : ℕ → ℕ → Work
  Tagged : ℕ → ℕ → ℕ → Work
  InTable : ℕ → ℕ → ℕ → ℕ → Work
  Offset : ℕ → ℕ → ℕ → ℕ → Work
  -- the block that a tag entry had, whose GATE isn't read yet
  Candidate : ℕ → ℕ → Work
  -- a ticket that is over; its block is in CUR
  Over : ℕ → Work
  Saved : ℕ → Work

-- Who is connected: the target of a ticket, or this target, unless the bus is free; nobody, and the chip takes itself for unconnected; anyone.
pub data Link : Type 0 where
  OfTicket : ℕ → Link
  OfTarget : ℕ → Link
  Nobody : Link
  Anyone : Link

-- What a register holds: a number, the block of the ticket at work, the start slot at RINGP or the one behind it, the done slot that is filled next or the
-- one before it, a tag table of a unit, the entry of a tag.
pub data Value : Type 0 where
  Number : ℕ → Value
  OwnBlock : Value
  ThisStart : Value
  NextStart : Value
  NextDone : Value
  LastDone : Value
  Table : ℕ → ℕ → Value
  TagEntry : ℕ → ℕ → Value

pub record Held : Type 0 where
  pub dsa : Option Value
  pub temp : Option Value
  pub scratcha : Option Value
  pub scratchb : Option Value
  pub ssid : Option Value
  pub sfbr : Option Value

abbrev pub nothing : Held
nothing = record { dsa = None; temp = None; scratcha = None; scratchb = None; ssid = None; sfbr = None }

abbrev pub dsa : Value → Held
dsa v = record nothing { dsa = Some v }

abbrev pub temp : Value → Held
temp v = record nothing { temp = Some v }

abbrev pub scratcha : Value → Held
scratcha v = record nothing { scratcha = Some v }

abbrev pub scratchb : Value → Held
scratchb v = record nothing { scratchb = Some v }

abbrev pub ssid : Value → Held
ssid v = record nothing { ssid = Some v }

abbrev pub sfbr : Value → Held
sfbr v = record nothing { sfbr = Some v }

abbrev pub dsa_temp : Value → Value → Held
dsa_temp v a = record nothing { dsa = Some v; temp = Some a }

abbrev pub dsa_scratcha : Value → Value → Held
dsa_scratcha v a = record nothing { dsa = Some v; scratcha = Some a }

abbrev pub dsa_scratchb : Value → Value → Held
dsa_scratchb v b = record nothing { dsa = Some v; scratchb = Some b }

abbrev pub dsa_temp_scratchb : Value → Value → Value → Held
dsa_temp_scratchb v a b = record nothing { dsa = Some v; temp = Some a; scratchb = Some b }

abbrev pub dsa_sfbr : Value → Value → Held
dsa_sfbr v b = record nothing { dsa = Some v; sfbr = Some b }

-- the address of the next instruction, the work, who is connected, what the registers hold, how many done slots are filled past DONEP, and the
-- ticket whose GATE may be open though it is over
pub record About : Type 0 where
  pub place : ℕ
  pub work : Work
  pub link : Link
  pub held : Held
  pub ahead : ℕ
  pub closing : Option ℕ

abbrev pub at : ℕ → Work → Link → Held → About
at place work link held = record { place = place; work = work; link = link; held = held; ahead = 0; closing = None }

pub data Point : Type 0 where
  -- START: the block at FRONT
  At000 : Point
  At008 : Point
  At010Idle : Point
  At010Job : Point
  At010Sense : ℕ → Point
  At018Idle : Point
  At018Job : Point
  At018Sense : ℕ → Point
  -- RING: the block in the next start slot
  At020 : Point
  At028 : Point
  At030 : Point
  At038Idle : Point
  At038 : ℕ → Point
  At040Idle : Point
  At040 : ℕ → ℕ → Point
  -- WAITR and RESELECT, with the chains
  At048 : Point
  At050 : ℕ → Point
  At058 : ℕ → Point
  InTargets : ℕ → ℕ → Point
  InLuns : ℕ → ℕ → Point
  AtUnit : ℕ → ℕ → Point
  BehindUnit : ℕ → ℕ → Point
  -- SELECT to COMMAND
  At060 : ℕ → Point
  At068 : ℕ → Point
  At070 : ℕ → Point
  At078 : ℕ → Point
  At080 : ℕ → Point
  At088 : ℕ → Point
  -- DISPATCH and DATA
  At090 : ℕ → Point
  At098 : ℕ → Point
  At0A0 : ℕ → Point
  At0A8 : ℕ → Point
  At0B0 : ℕ → Point
  At0B8 : ℕ → Point
  At0C0 : ℕ → ℕ → Point
  -- STATUS and MSG
  At0C8 : ℕ → Point
  At0D0 : ℕ → Point
  At0D8 : ℕ → Point
  At0E0 : ℕ → Point
  At0E8 : ℕ → Point
  At0F0 : ℕ → Point
  At0F8 : ℕ → Point
  At100 : ℕ → Point
  -- SAVE, RESTORE and LEAVE
  At108 : ℕ → Point
  At110 : ℕ → ℕ → Point
  At118 : ℕ → Point
  At120 : ℕ → Point
  At128 : ℕ → Point
  At130 : ℕ → ℕ → Point
  At138 : ℕ → Point
  At140 : ℕ → Point
  At148 : ℕ → Point
  At150 : Point
  At158 : Point
  -- TAG: the ticket that has reselected
  At160 : ℕ → ℕ → Point
  At168 : ℕ → ℕ → Point
  At170 : ℕ → ℕ → Point
  At178 : ℕ → ℕ → Point
  At180 : ℕ → ℕ → Point
  At188 : ℕ → ℕ → ℕ → Point
  At190 : ℕ → ℕ → ℕ → ℕ → Point
  At460 : ℕ → ℕ → ℕ → Point
  At468 : ℕ → ℕ → ℕ → Point
  At470 : ℕ → ℕ → ℕ → Point
  At478 : ℕ → ℕ → ℕ → Point
  At480 : ℕ → ℕ → ℕ → Point
  At488 : ℕ → ℕ → ℕ → Point
  At490 : ℕ → ℕ → ℕ → Point
  At498 : ℕ → ℕ → ℕ → Point
  At4A0 : ℕ → ℕ → ℕ → Point
  At4A8 : ℕ → ℕ → ℕ → ℕ → Point
  At4B0 : ℕ → ℕ → ℕ → ℕ → Point
  At198 : ℕ → ℕ → ℕ → Point
  At1A0 : ℕ → ℕ → Point
  At1A0None : Point
  At1A8 : ℕ → Point
  At1A8Bad : Point
  At1A8None : Point
  At1B0 : ℕ → Point
  At1B0None : Point
  At1B8 : ℕ → ℕ → Point
  At1B8None : Point
  At1C0 : Point
  -- COMPLETE, and the ends of a ticket
  At1C8 : ℕ → Point
  At1D0 : ℕ → Point
  At1D8 : ℕ → Point
  At1E0 : ℕ → Point
  At1E8 : ℕ → Point
  At1F0 : ℕ → Point
  At1F8 : ℕ → Point
  At200 : ℕ → Point
  At208 : ℕ → Point
  At210 : ℕ → Point
  At218 : ℕ → Point
  -- PUT: the done ring
  At220 : ℕ → ℕ → Point
  At228 : ℕ → Point
  At230 : ℕ → Point
  At238 : ℕ → Point
  At240 : ℕ → Point
  At248 : ℕ → Point
  At250 : ℕ → Point
  At258 : Point
  At260 : Point
  At268 : Point
  At270 : Point
  -- ABORT
  At278 : ℕ → Point
  At280 : ℕ → Point
  At288 : ℕ → Point
  At290 : ℕ → Point
  -- RESETJOB
  At298 : Point
  At2A0 : Point
  At2A8 : Point
  At2B0 : Point
  -- the data moves
  At2B8 : ℕ → Point
  Moves : ℕ → DataMove → Point
  At340 : ℕ → Point
  At3C8 : ℕ → Point
  At3D0 : ℕ → Point
  At3D8 : ℕ → Point
  BehindContext : ℕ → DataPhase → ℕ → Point
  LeavesContext : ℕ → DataPhase → ℕ → ℕ → Point
  -- SENSE
  At440 : ℕ → Point
  At448 : ℕ → Point
  At450 : ℕ → Point
  At458 : ℕ → Point

abbrev pub about : Point → About
about At000 = at 0x000 Free Nobody nothing
about At008 = at 0x008 Free Nobody nothing
about At010Idle = at 0x010 Free Nobody (dsa (Number FRONT_IDLE))
about At010Job = at 0x010 Free Nobody (dsa (Number JOB))
about (At010Sense t) = at 0x010 (Front t) Nobody (dsa OwnBlock)
about At018Idle = at 0x018 Free Nobody (temp (Number (label_of label.Ring)))
about At018Job = at 0x018 Free Nobody (dsa_temp (Number JOB) (Number (label_of label.Resetjob)))
about (At018Sense t) = at 0x018 (Front t) Nobody (dsa_temp OwnBlock (Number (label_of label.Sense)))
about At020 = at 0x020 Free Nobody nothing
about At028 = at 0x028 Free Nobody (dsa ThisStart)
about At030 = at 0x030 Free Nobody (dsa_scratchb ThisStart NextStart)
about At038Idle = at 0x038 Free Nobody (dsa (Number IDLE))
about (At038 t) = at 0x038 (Head t) Nobody (dsa_scratchb OwnBlock NextStart)
about At040Idle = at 0x040 Free Nobody (temp (Number (label_of label.Waitr)))
about (At040 t a) = at 0x040 (Entering t a) Nobody (dsa_temp_scratchb OwnBlock (Number a) NextStart)
about At048 = at 0x048 Free Nobody nothing
about (At050 r) = at 0x050 (Naming r) (OfTarget r) (ssid (Number (128 + r)))
about (At058 r) = at 0x058 (Naming r) (OfTarget r) (sfbr (Number r))
about (InTargets r j) = at (CHAINS + 8 * j) (ChoosingTarget r j) (OfTarget r) (sfbr (Number r))
about (InLuns r j) = at (target_chain r + 8 * j) (Finding r j) (OfTarget r) nothing
about (AtUnit u r) = at (unit_chain u) (Listed u r) (OfTarget r) nothing
about (BehindUnit u r) = at (unit_chain u + 8) (Listed u r) (OfTarget r) (dsa (Table u 0))
about (At060 t) = at 0x060 (Head t) Nobody (dsa_scratchb OwnBlock NextStart)
about (At068 t) = at 0x068 (Selected t) (OfTicket t) (dsa_scratchb OwnBlock NextStart)
about (At070 t) = at 0x070 (Begun t) (OfTicket t) (dsa OwnBlock)
about (At078 t) = at 0x078 (Begun t) (OfTicket t) (dsa_scratcha OwnBlock (Number (label_of label.Open)))
about (At080 t) = at 0x080 (Begun t) (OfTicket t) (dsa OwnBlock)
about (At088 t) = at 0x088 (Begun t) (OfTicket t) (dsa OwnBlock)
about (At090 t) = at 0x090 (Begun t) (OfTicket t) (dsa OwnBlock)
about (At098 t) = at 0x098 (Begun t) (OfTicket t) (dsa OwnBlock)
about (At0A0 t) = at 0x0A0 (Begun t) (OfTicket t) (dsa OwnBlock)
about (At0A8 t) = at 0x0A8 (Begun t) (OfTicket t) (dsa OwnBlock)
about (At0B0 t) = at 0x0B0 (Begun t) (OfTicket t) (dsa OwnBlock)
about (At0B8 t) = at 0x0B8 (Begun t) (OfTicket t) (dsa OwnBlock)
about (At0C0 t p) = at 0x0C0 (Carrying t p) (OfTicket t) (dsa_temp OwnBlock (Number p))
about (At0C8 t) = at 0x0C8 (Begun t) (OfTicket t) (dsa OwnBlock)
about (At0D0 t) = at 0x0D0 (Begun t) (OfTicket t) (dsa OwnBlock)
about (At0D8 t) = at 0x0D8 (Begun t) (OfTicket t) (dsa OwnBlock)
about (At0E0 t) = at 0x0E0 (Begun t) (OfTicket t) (dsa OwnBlock)
about (At0E8 t) = at 0x0E8 (Begun t) (OfTicket t) (dsa OwnBlock)
about (At0F0 t) = at 0x0F0 (Begun t) (OfTicket t) (dsa OwnBlock)
about (At0F8 t) = at 0x0F8 (Begun t) (OfTicket t) (dsa OwnBlock)
about (At100 t) = at 0x100 (Begun t) (OfTicket t) (dsa OwnBlock)
about (At108 t) = at 0x108 (Begun t) (OfTicket t) (dsa OwnBlock)
about (At110 t p) = at 0x110 (Carrying t p) (OfTicket t) (dsa_scratcha OwnBlock (Number p))
about (At118 t) = at 0x118 (Begun t) (OfTicket t) (dsa OwnBlock)
about (At120 t) = at 0x120 (Begun t) (OfTicket t) (dsa OwnBlock)
about (At128 t) = at 0x128 (Begun t) (OfTicket t) (dsa OwnBlock)
about (At130 t p) = at 0x130 (Carrying t p) (OfTicket t) (dsa_scratcha OwnBlock (Number p))
about (At138 t) = at 0x138 (Begun t) (OfTicket t) (dsa OwnBlock)
about (At140 t) = at 0x140 (Begun t) (OfTicket t) (dsa OwnBlock)
about (At148 t) = at 0x148 (Begun t) (OfTicket t) (dsa OwnBlock)
about At150 = at 0x150 Free Anyone nothing
about At158 = at 0x158 Free Nobody nothing
about (At160 u r) = at 0x160 (Listed u r) (OfTarget r) (dsa (Table u 0))
about (At168 u r) = at 0x168 (Listed u r) (OfTarget r) (dsa (Table u 0))
about (At170 u r) = at 0x170 (Listed u r) (OfTarget r) (dsa (Table u 0))
about (At178 u r) = at 0x178 (Listed u r) (OfTarget r) (dsa (Table u 0))
about (At180 u r) = at 0x180 (Listed u r) (OfTarget r) (dsa (Table u 0))
about (At188 u g r) = at 0x188 (Tagged u g r) (OfTarget r) (dsa_sfbr (Table u 0) (Number g))
about (At190 u s k r) = at 0x190 (Offset u s k r) (OfTarget r) (dsa_sfbr (Table u s) (Number k))
about (At460 u g r) = at 0x460 (Tagged u g r) (OfTarget r) (dsa_sfbr (Table u 0) (Number g))
about (At468 u g r) = at 0x468 (Tagged u g r) (OfTarget r) (dsa_sfbr (Table u 0) (Number g))
about (At470 u g r) = at 0x470 (Tagged u g r) (OfTarget r) (dsa_sfbr (Table u 0) (Number g))
about (At478 u g r) = at 0x478 (Tagged u g r) (OfTarget r) (dsa_sfbr (Table u 0) (Number g))
about (At480 u g r) = at 0x480 (Tagged u g r) (OfTarget r) (dsa_sfbr (Table u 0) (Number g))
about (At488 u g r) = at 0x488 (Tagged u g r) (OfTarget r) (dsa_sfbr (Table u 1) (Number g))
about (At490 u g r) = at 0x490 (Tagged u g r) (OfTarget r) (dsa_sfbr (Table u 0) (Number g))
about (At498 u g r) = at 0x498 (Tagged u g r) (OfTarget r) (dsa_sfbr (Table u 2) (Number g))
about (At4A0 u g r) = at 0x4A0 (Tagged u g r) (OfTarget r) (dsa_sfbr (Table u 0) (Number g))
about (At4A8 u s g r) = at 0x4A8 (InTable u s g r) (OfTarget r) (dsa_sfbr (Table u s) (Number g))
about (At4B0 u s k r) = at 0x4B0 (Offset u s k r) (OfTarget r) (dsa_sfbr (Table u s) (Number k))
about (At198 u g r) = at 0x198 (Tagged u g r) (OfTarget r) (dsa (TagEntry u g))
about (At1A0 b r) = at 0x1A0 (Candidate b r) (OfTarget r) (dsa (Number b))
about At1A0None = at 0x1A0 Free Anyone (dsa (Number NOTASK))
about (At1A8 t) = at 0x1A8 (Begun t) (OfTicket t) (dsa_temp OwnBlock (Number (label_of label.Open)))
about At1A8Bad = at 0x1A8 Free Anyone (temp (Number (label_of label.Badtask)))
about At1A8None = at 0x1A8 Free Anyone (dsa_temp (Number NOTASK) (Number (label_of label.Open)))
about (At1B0 t) = at 0x1B0 (Begun t) (OfTicket t) (dsa OwnBlock)
about At1B0None = at 0x1B0 Free Anyone (dsa (Number NOTASK))
about (At1B8 t a) = at 0x1B8 (Returning t a) (OfTicket t) (dsa_temp OwnBlock (Number a))
about At1B8None = at 0x1B8 Free Anyone (temp (Number (label_of label.Badtask)))
about At1C0 = at 0x1C0 Free Anyone nothing
about (At1C8 t) = at 0x1C8 (Begun t) (OfTicket t) (dsa OwnBlock)
about (At1D0 t) = at 0x1D0 (Begun t) Anyone (dsa OwnBlock)
about (At1D8 t) = at 0x1D8 (Begun t) Nobody (dsa OwnBlock)
about (At1E0 t) = at 0x1E0 (Begun t) Nobody (dsa_scratcha OwnBlock (Number ENDED))
about (At1E8 t) = at 0x1E8 (Ending t CUT) Anyone (dsa OwnBlock)
about (At1F0 t) = at 0x1F0 (Ending t CUT) Nobody (dsa OwnBlock)
about (At1F8 t) = at 0x1F8 (Head t) Nobody (dsa_scratchb OwnBlock NextStart)
about (At200 t) = at 0x200 (Ending t CUT) Nobody (dsa OwnBlock)
about (At208 t) = at 0x208 (Ending t CUT) Nobody (dsa_scratcha OwnBlock (Number CUT))
about (At210 t) = at 0x210 (Head t) Nobody (dsa_scratchb OwnBlock NextStart)
about (At218 t) = at 0x218 (Ending t NO_TARGET) Nobody (dsa OwnBlock)
about (At220 t v) = at 0x220 (Ending t v) Nobody (dsa_scratcha OwnBlock (Number v))
about (At228 t) = record (at 0x228 (Over t) Nobody (dsa OwnBlock)) { closing = Some t }
about (At230 t) = record (at 0x230 (Over t) Nobody (dsa_scratcha OwnBlock (Number (label_of label.Badtask)))) { closing = Some t }
about (At238 t) = at 0x238 (Over t) Nobody (dsa OwnBlock)
about (At240 t) = at 0x240 (Saved t) Nobody nothing
about (At248 t) = at 0x248 (Over t) Nobody (scratcha OwnBlock)
about (At250 t) = at 0x250 (Over t) Nobody (dsa_scratcha NextDone OwnBlock)
about At258 = record (at 0x258 Free Nobody (dsa LastDone)) { ahead = 1 }
about At260 = record (at 0x260 Free Nobody (scratchb NextDone)) { ahead = 1 }
about At268 = at 0x268 Free Nobody nothing
about At270 = at 0x270 Free Nobody nothing
about (At278 t) = at 0x278 (Begun t) (OfTicket t) (dsa OwnBlock)
about (At280 t) = at 0x280 (Begun t) (OfTicket t) (dsa OwnBlock)
about (At288 t) = at 0x288 (Begun t) (OfTicket t) (dsa OwnBlock)
about (At290 t) = at 0x290 (Ending t CUT) Anyone (dsa OwnBlock)
about At298 = at 0x298 Free Nobody (dsa (Number JOB))
about At2A0 = at 0x2A0 Free Anyone (dsa (Number JOB))
about At2A8 = at 0x2A8 Free Anyone nothing
about At2B0 = at 0x2B0 Free Nobody nothing
about (At2B8 t) = at 0x2B8 (Begun t) (OfTicket t) (dsa OwnBlock)
about (Moves t x) = at (move_place x.phase x.entry) (Moving t x) (OfTicket t) (dsa OwnBlock)
about (At340 t) = at 0x340 (Begun t) (OfTicket t) (dsa OwnBlock)
about (At3C8 t) = at 0x3C8 (Begun t) (OfTicket t) (dsa OwnBlock)
about (At3D0 t) = at 0x3D0 (Begun t) (OfTicket t) (dsa_scratcha OwnBlock (Number (label_of label.Over)))
about (At3D8 t) = at 0x3D8 (Begun t) (OfTicket t) (dsa OwnBlock)
about (BehindContext t phase k) = at (move_place phase (Context k) + 8) (Moving t (record { phase = phase; entry = Context k })) (OfTicket t) (dsa OwnBlock)
about (LeavesContext t phase j k) = at (context_label phase k + 16) (Behind t phase j) (OfTicket t) (dsa_temp OwnBlock (Number (first_segment phase + 8 * j)))
about (At440 t) = at 0x440 (Front t) Nobody (dsa OwnBlock)
about (At448 t) = at 0x448 (Front t) (OfTicket t) (dsa OwnBlock)
about (At450 t) = at 0x450 (Front t) (OfTicket t) (dsa_scratcha OwnBlock (Number FRONT_IDLE))
about (At458 t) = at 0x458 (Begun t) (OfTicket t) (dsa OwnBlock)
