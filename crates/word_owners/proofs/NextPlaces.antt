-- Where a step of the chip leads: behind the read of FRONT only on the way to WAIT RESELECT, and to OVER only from DATA's RETURN.
use Rattle.std.proofs.Common.{◌≡◌, ◌⊎◌, inl, inr, ℕ, ◌+◌, ◌-◌, ◌%◌, ◌<◌, ◌≤◌, ◌==◌, Bool, true, false, if◌then◌else◌, refl, sym, subst, arith}
use Rattle.cmd_block.specs.declared.TheConstants.{ENDED, CUT, NO_TARGET}
use Rattle.std.specs.Prelude.{nat_eq}
use Rattle.phase_fix.specs.Moves.{context_label}
use Rattle.phase_fix.specs.declared.moves.DataMove.{DataMove}
use Rattle.phase_fix.specs.declared.moves.DataPhase.{DataPhase}
use Rattle.phase_fix.specs.declared.moves.DataPhase.TheVariants.{In, Out}
use Rattle.phase_fix.specs.declared.moves.Entry.{Entry}
use Rattle.phase_fix.specs.declared.moves.Entry.TheVariants.{Segment, Context}
use Rattle.word_owners.specs.DataMoves.{behind_last, behind_move}
use Rattle.word_owners.specs.Holds.{Spot, Running, Mismatched, NotData, Fixed, TimedOut, JobOver, ResetAt, Broken}
use Rattle.word_owners.specs.Nexts.{To, Moved, Asked, Either, Waited, Called, IsNext}
use Rattle.word_owners.specs.Pointers.{move_place}
use Rattle.word_owners.specs.Points.{Point, about, At000, At008, At010Idle, At010Job, At010Sense, At018Idle, At018Job, At018Sense, At020, At028, At030, At038, At038Idle, At040, At040Idle, At048, At050, At058, At060, At068, At070, At078, At080, At088, At090, At098, At0A0, At0A8, At0B0, At0B8, At0C0, At0C8, At0D0, At0D8, At0E0, At0E8, At0F0, At0F8, At100, At108, At110, At118, At120, At128, At130, At138, At140, At148, At150, At158, At160, At168, At170, At178, At180, At188, At190, At198, At1A0, At1A0None, At1A8, At1A8Bad, At1A8None, At1B0, At1B0None, At1B8, At1B8None, At1C0, At1C8, At1D0, At1D8, At1E0, At1E8, At1F0, At1F8, At200, At208, At210, At218, At220, At228, At230, At238, At240, At248, At250, At258, At260, At268, At270, At278, At280, At288, At290, At298, At2A0, At2A8, At2B0, At2B8, At340, At3C8, At3D0, At3D8, At440, At448, At450, At458, At460, At468, At470, At478, At480, At488, At490, At498, At4A0, At4A8, At4B0, AtUnit, BehindContext, BehindUnit, InLuns, InTargets, LeavesContext, Moves}

-- the points from the read of FRONT to WAIT RESELECT
abbrev pub is_early : Point → Bool
is_early At008 = true
is_early At010Idle = true
is_early At010Job = true
is_early (At010Sense t) = true
is_early At018Idle = true
is_early At018Job = true
is_early (At018Sense t) = true
is_early At020 = true
is_early At028 = true
is_early At030 = true
is_early At038Idle = true
is_early (At038 t) = true
is_early At040Idle = true
is_early (At040 t a) = true
is_early At048 = true
is_early _ = false

-- the data moves lie behind OVER
pub move-high : (phase : DataPhase) (e : Entry) → 0x2B8 < move_place phase e
move-high In (Segment j) = omega arith
move-high In (Context k) = omega arith
move-high Out (Segment j) = omega arith
move-high Out (Context k) = omega arith

if-high : (first : Bool) (a b : ℕ) → 0x2B8 < a → 0x2B8 < b → 0x2B8 < (if first then a else b)
if-high true a b l m = l
if-high false a b l m = m

pub context-high : (phase : DataPhase) (k : ℕ) → 0x2B8 < context_label phase k
context-high In k = if-high (nat_eq k 0) 0x3E0 0x3F8 (omega arith) (omega arith)
context-high Out k = if-high (nat_eq k 0) 0x410 0x428 (omega arith) (omega arith)

-- the RETURN of DATA by the pointer that is in TEMP
abbrev pub is_return : Point → Bool
is_return (At0C0 t p) = true
is_return _ = false

-- a place before FRONT is read, on the way from there, behind it on either side of OVER, or OVER
pub data Where (early returns : Bool) (place : ℕ) : Type 0 where
  low : place < 0x010 → Where early returns place
  way : early ≡ true → place ≤ 0x048 → Where early returns place
  middle : 0x048 < place → place < 0x2B8 → Where early returns place
  high : 0x2B8 < place → Where early returns place
  over : returns ≡ true → place ≡ 0x2B8 → Where early returns place

abbrev pub Leads : (early returns : Bool) → Spot → Type 0
Leads early returns (Running q) = Where early returns (about q).place
Leads early returns _ = Unit {0}

stop : (e r : Bool) (s t : Spot) → s ≡ t → Leads e r t → Leads e r s
stop e r s t x l = subst (Leads e r) (sym x) l

called : (e r : Bool) (s : Spot) → Called s → Leads e r s
called e r s x = stop e r s (Running (At050 x.0)) x.1 (middle (omega arith) (omega arith))

module _ {e r : Bool} where
  to : (s : Spot) (q : Point) → Where e r (about q).place → To q s → Leads e r s
  to s q l x = subst (Leads e r) (sym x) l

  moved : (s : Spot) (q : Point) → Where e r (about q).place → Moved q s → Leads e r s
  moved s q l (inl x) = to s q l x
  moved s q l (inr (inl x)) = stop e r s NotData x tt
  moved s q l (inr (inr x)) = stop e r s Broken x tt

  asked : (s : Spot) (q n : Point) → Where e r (about q).place → Where e r (about n).place → Asked q n s → Leads e r s
  asked s q n l k (inl x) = to s q l x
  asked s q n l k (inr (inl x)) = to s n k x
  asked s q n l k (inr (inr x)) = stop e r s Broken x tt

  either : (s : Spot) (q n : Point) → Where e r (about q).place → Where e r (about n).place → Either q n s → Leads e r s
  either s q n l k (inl x) = to s q l x
  either s q n l k (inr x) = to s n k x

  waited : (s : Spot) (q : Point) → Where e r (about q).place → Waited q s → Leads e r s
  waited s q l (inl x) = to s q l x
  waited s q l (inr x) = stop e r s NotData x tt

  move-late : (t : ℕ) (x : DataMove) → Where e r (about (Moves t x)).place
  move-late t x = high (move-high x.phase x.entry)

  context-late : (t : ℕ) (phase : DataPhase) (j k : ℕ) → Where e r (about (LeavesContext t phase j k)).place
  context-late t phase j k = let l = context-high phase k in high (omega (arith, l))

  last-late : (t : ℕ) (phase : DataPhase) → Where e r (about (behind_last t phase)).place
  last-late t In = high (omega arith)
  last-late t Out = high (omega arith)

  chosen-late : (last : Bool) (t : ℕ) (phase : DataPhase) (j : ℕ) → Where e r (about (if last then behind_last t phase else Moves t (record { phase = phase; entry = Segment j }))).place
  chosen-late true t phase j = last-late t phase
  chosen-late false t phase j = move-late t (record { phase = phase; entry = Segment j })

  behind-late : (t : ℕ) (phase : DataPhase) (n : Entry) → Where e r (about (behind_move t phase n)).place
  behind-late t phase (Segment j) = chosen-late (j == 15) t phase (j + 1)
  behind-late t phase (Context k) = let l = move-high phase (Context k) in high (omega (arith, l))

-- each point
pub places : (p : Point) (s : Spot) → IsNext p s → Leads (is_early p) (is_return p) s
places At000 s n = to s At008 (low (omega arith)) n
places At008 s n = elim n [ inl v ↦ to s At010Idle (way refl (omega arith)) v | inr v ↦ elim v [ inl y ↦ to s At010Job (way refl (omega arith)) y | inr y ↦ to s (At010Sense y.0) (way refl (omega arith)) y.1 ] ]
places At010Idle s n = to s At018Idle (way refl (omega arith)) n
places At010Job s n = to s At018Job (way refl (omega arith)) n
places (At010Sense t) s n = to s (At018Sense t) (way refl (omega arith)) n
places At018Idle s n = to s At020 (way refl (omega arith)) n
places At018Job s n = to s At298 (middle (omega arith) (omega arith)) n
places (At018Sense t) s n = to s (At440 t) (high (omega arith)) n
places At020 s n = to s At028 (way refl (omega arith)) n
places At028 s n = to s At030 (way refl (omega arith)) n
places At030 s n = elim n [ inl v ↦ to s At038Idle (way refl (omega arith)) v | inr v ↦ to s (At038 v.0) (way refl (omega arith)) v.1 ]
places At038Idle s n = to s At040Idle (way refl (omega arith)) n
places (At038 t) s n = to s (At040 t n.0) (way refl (omega arith)) n.1
places At040Idle s n = to s At048 (way refl (omega arith)) n
places (At040 t a) s n = elim n [ inl v ↦ to s (At060 t) (middle (omega arith) (omega arith)) v | inr v ↦ to s (At1F8 t) (middle (omega arith) (omega arith)) v ]
places At048 s n = elim n [ inl v ↦ to s At048 (way refl (omega arith)) v | inr v ↦ elim v [ inl y ↦ to s At000 (low (omega arith)) y | inr y ↦ called true false s y ] ]
places (At060 t) s n = elim n [ inl v ↦ to s (At068 t) (middle (omega arith) (omega arith)) v | inr v ↦ elim v [ inl y ↦ called false false s y | inr y ↦ stop false false s (TimedOut t) y tt ] ]
places (At068 t) s n = to s (At070 t) (middle (omega arith) (omega arith)) n
places (At070 t) s n = to s (At078 t) (middle (omega arith) (omega arith)) n
places (At078 t) s n = to s (At080 t) (middle (omega arith) (omega arith)) n
places (At080 t) s n = moved s (At088 t) (middle (omega arith) (omega arith)) n
places (At088 t) s n = moved s (At090 t) (middle (omega arith) (omega arith)) n
places (At090 t) s n = asked s (At0D8 t) (At098 t) (middle (omega arith) (omega arith)) (middle (omega arith) (omega arith)) n
places (At098 t) s n = either s (At0C8 t) (At0A0 t) (middle (omega arith) (omega arith)) (middle (omega arith) (omega arith)) n
places (At0A0 t) s n = either s (At0B8 t) (At0A8 t) (middle (omega arith) (omega arith)) (middle (omega arith) (omega arith)) n
places (At0A8 t) s n = either s (At0B8 t) (At0B0 t) (middle (omega arith) (omega arith)) (middle (omega arith) (omega arith)) n
places (At0B0 t) s n = stop false false s Broken n tt
places (At0B8 t) s n = to s (At0C0 t n.0) (middle (omega arith) (omega arith)) n.1
places (At0C0 t p) s n = elim n [ inl v ↦ to s (At2B8 t) (over refl (omega arith)) v | inr v ↦ to s (Moves t v.0) (move-late t v.0) v.1 ]
places (At0C8 t) s n = moved s (At0D0 t) (middle (omega arith) (omega arith)) n
places (At0D0 t) s n = to s (At090 t) (middle (omega arith) (omega arith)) n
places (At0D8 t) s n = moved s (At0E0 t) (middle (omega arith) (omega arith)) n
places (At0E0 t) s n = either s (At1C8 t) (At0E8 t) (middle (omega arith) (omega arith)) (middle (omega arith) (omega arith)) n
places (At0E8 t) s n = either s (At108 t) (At0F0 t) (middle (omega arith) (omega arith)) (middle (omega arith) (omega arith)) n
places (At0F0 t) s n = either s (At128 t) (At0F8 t) (middle (omega arith) (omega arith)) (middle (omega arith) (omega arith)) n
places (At0F8 t) s n = either s (At148 t) (At100 t) (middle (omega arith) (omega arith)) (middle (omega arith) (omega arith)) n
places (At100 t) s n = stop false false s Broken n tt
places (At108 t) s n = to s (At110 t n.0) (middle (omega arith) (omega arith)) n.1
places (At110 t p) s n = to s (At118 t) (middle (omega arith) (omega arith)) n
places (At118 t) s n = to s (At120 t) (middle (omega arith) (omega arith)) n
places (At120 t) s n = to s (At090 t) (middle (omega arith) (omega arith)) n
places (At128 t) s n = to s (At130 t n.0) (middle (omega arith) (omega arith)) n.1
places (At130 t p) s n = to s (At138 t) (middle (omega arith) (omega arith)) n
places (At138 t) s n = to s (At140 t) (middle (omega arith) (omega arith)) n
places (At140 t) s n = to s (At090 t) (middle (omega arith) (omega arith)) n
places (At148 t) s n = to s At150 (middle (omega arith) (omega arith)) n
places At150 s n = waited s At158 (middle (omega arith) (omega arith)) n
places At158 s n = to s At000 (low (omega arith)) n
places (At160 u r) s n = to s (At168 u r) (middle (omega arith) (omega arith)) n
places (At168 u r) s n = moved s (At170 u r) (middle (omega arith) (omega arith)) n
places (At170 u r) s n = elim n [ inl v ↦ to s (At178 u r) (middle (omega arith) (omega arith)) v | inr v ↦ stop false false s Broken v tt ]
places (At178 u r) s n = to s (At180 u r) (middle (omega arith) (omega arith)) n
places (At180 u r) s n = elim n [ inl v ↦ to s (At188 u v.0 r) (middle (omega arith) (omega arith)) v.1 | inr v ↦ elim v [ inl y ↦ stop false false s NotData y tt | inr y ↦ stop false false s Broken y tt ] ]
places (At188 u g r) s n = elim n [ inl v ↦ to s (At190 u 0 (g - g % 4) r) (middle (omega arith) (omega arith)) v | inr v ↦ to s (At460 u g r) (high (omega arith)) v ]
places (At190 u t k r) s n = to s (At198 u (k + t) r) (middle (omega arith) (omega arith)) n
places (At198 u g r) s n = elim n [ inl v ↦ to s At1A0None (middle (omega arith) (omega arith)) v | inr v ↦ to s (At1A0 v.0 r) (middle (omega arith) (omega arith)) v.1 ]
places (At1A0 b r) s n = elim n [ inl v ↦ to s At1A8Bad (middle (omega arith) (omega arith)) v | inr v ↦ to s (At1A8 v.0) (middle (omega arith) (omega arith)) v.1 ]
places At1A0None s n = to s At1A8None (middle (omega arith) (omega arith)) n
places (At1A8 t) s n = to s (At1B0 t) (middle (omega arith) (omega arith)) n
places At1A8Bad s n = to s At1C0 (middle (omega arith) (omega arith)) n
places At1A8None s n = to s At1B0None (middle (omega arith) (omega arith)) n
places (At1B0 t) s n = to s (At1B8 t n.0) (middle (omega arith) (omega arith)) n.1
places At1B0None s n = to s At1B8None (middle (omega arith) (omega arith)) n
places (At1B8 t a) s n = elim n [ inl v ↦ to s (At128 t) (middle (omega arith) (omega arith)) v | inr v ↦ to s (At278 t) (middle (omega arith) (omega arith)) v ]
places At1B8None s n = to s At1C0 (middle (omega arith) (omega arith)) n
places At1C0 s n = stop false false s Broken n tt
places (At1C8 t) s n = to s (At1D0 t) (middle (omega arith) (omega arith)) n
places (At1D0 t) s n = waited s (At1D8 t) (middle (omega arith) (omega arith)) n
places (At1D8 t) s n = to s (At1E0 t) (middle (omega arith) (omega arith)) n
places (At1E0 t) s n = to s (At220 t ENDED) (middle (omega arith) (omega arith)) n
places (At1E8 t) s n = waited s (At1F0 t) (middle (omega arith) (omega arith)) n
places (At1F0 t) s n = to s (At200 t) (middle (omega arith) (omega arith)) n
places (At1F8 t) s n = to s (At200 t) (middle (omega arith) (omega arith)) n
places (At200 t) s n = to s (At208 t) (middle (omega arith) (omega arith)) n
places (At208 t) s n = to s (At220 t CUT) (middle (omega arith) (omega arith)) n
places (At210 t) s n = to s (At218 t) (middle (omega arith) (omega arith)) n
places (At218 t) s n = to s (At220 t NO_TARGET) (middle (omega arith) (omega arith)) n
places (At220 t v) s n = to s (At228 t) (middle (omega arith) (omega arith)) n
places (At228 t) s n = to s (At230 t) (middle (omega arith) (omega arith)) n
places (At230 t) s n = to s (At238 t) (middle (omega arith) (omega arith)) n
places (At238 t) s n = to s (At240 t) (middle (omega arith) (omega arith)) n
places (At240 t) s n = to s (At248 t) (middle (omega arith) (omega arith)) n
places (At248 t) s n = to s (At250 t) (middle (omega arith) (omega arith)) n
places (At250 t) s n = to s At258 (middle (omega arith) (omega arith)) n
places At258 s n = to s At260 (middle (omega arith) (omega arith)) n
places At260 s n = to s At268 (middle (omega arith) (omega arith)) n
places At268 s n = to s At270 (middle (omega arith) (omega arith)) n
places At270 s n = to s At000 (low (omega arith)) n
places (At278 t) s n = to s (At280 t) (middle (omega arith) (omega arith)) n
places (At280 t) s n = to s (At288 t) (middle (omega arith) (omega arith)) n
places (At288 t) s n = moved s (At290 t) (middle (omega arith) (omega arith)) n
places (At290 t) s n = to s (At1E8 t) (middle (omega arith) (omega arith)) n
places At298 s n = elim n [ inl v ↦ to s At2A0 (middle (omega arith) (omega arith)) v | inr v ↦ elim v [ inl y ↦ called false false s y | inr y ↦ stop false false s JobOver y tt ] ]
places At2A0 s n = moved s At2A8 (middle (omega arith) (omega arith)) n
places At2A8 s n = waited s At2B0 (middle (omega arith) (omega arith)) n
places At2B0 s n = stop false false s JobOver n tt
places (At2B8 t) s n = stop false false s Broken n tt
places (At340 t) s n = to s (At3C8 t) (high (omega arith)) n
places (At3C8 t) s n = to s (At3D0 t) (high (omega arith)) n
places (At3D0 t) s n = to s (At3D8 t) (high (omega arith)) n
places (At3D8 t) s n = to s (At090 t) (middle (omega arith) (omega arith)) n
places (At440 t) s n = elim n [ inl v ↦ to s (At448 t) (high (omega arith)) v | inr v ↦ called false false s v ]
places (At448 t) s n = to s (At450 t) (high (omega arith)) n
places (At450 t) s n = to s (At458 t) (high (omega arith)) n
places (At458 t) s n = to s (At070 t) (middle (omega arith) (omega arith)) n
places (At460 u g r) s n = either s (At480 u g r) (At468 u g r) (high (omega arith)) (high (omega arith)) n
places (At468 u g r) s n = either s (At490 u g r) (At470 u g r) (high (omega arith)) (high (omega arith)) n
places (At470 u g r) s n = either s (At4A0 u g r) (At478 u g r) (high (omega arith)) (high (omega arith)) n
places (At478 u g r) s n = to s (At4A8 u 0 g r) (high (omega arith)) n
places (At480 u g r) s n = to s (At488 u g r) (high (omega arith)) n
places (At488 u g r) s n = to s (At4A8 u 1 g r) (high (omega arith)) n
places (At490 u g r) s n = to s (At498 u g r) (high (omega arith)) n
places (At498 u g r) s n = to s (At4A8 u 2 g r) (high (omega arith)) n
places (At4A0 u g r) s n = to s (At4A8 u 3 g r) (high (omega arith)) n
places (At4A8 u t g r) s n = to s (At4B0 u t (g - g % 4) r) (high (omega arith)) n
places (At4B0 u t k r) s n = to s (At190 u t k r) (middle (omega arith) (omega arith)) n
places (Moves t x) s n = elim n [ inl v ↦ to s (behind_move t x.phase x.entry) (behind-late t x.phase x.entry) v | inr v ↦ elim v [ inl y ↦ stop false false s (Mismatched t x y.0) y.1 tt | inr y ↦ stop false false s Broken y tt ] ]
places (BehindContext t phase k) s n = to s (LeavesContext t phase n.0 k) (context-late t phase n.0 k) n.1
places (LeavesContext t phase j k) s n = elim n [ inl v ↦ to s (At340 t) (high (omega arith)) v | inr v ↦ elim v [ inl y ↦ to s (At3C8 t) (high (omega arith)) y | inr y ↦ to s (Moves t (record { phase = phase; entry = Segment j })) (move-late t (record { phase = phase; entry = Segment j })) y ] ]
places (At050 r) s n = to s (At058 r) (middle (omega arith) (omega arith)) n
places (At058 r) s n = to s (InTargets r 0) (high (omega arith)) n
places (InTargets r j) s n = elim n [ inl v ↦ to s (InLuns r 0) (high (omega arith)) v | inr v ↦ elim v [ inl y ↦ to s (InTargets r (j + 1)) (high (omega arith)) y | inr y ↦ stop false false s Broken y tt ] ]
places (InLuns r j) s n = elim n [ inl v ↦ to s (InLuns r (j + 1)) (high (omega arith)) v | inr v ↦ elim v [ inl y ↦ to s (AtUnit y.0 r) (high (omega arith)) y.1 | inr y ↦ elim y [ inl z ↦ stop false false s NotData z tt | inr z ↦ stop false false s Broken z tt ] ] ]
places (AtUnit u r) s n = to s (BehindUnit u r) (high (omega arith)) n
places (BehindUnit u r) s n = to s (At160 u r) (middle (omega arith) (omega arith)) n

-- FRONT is still to be read, or the way is left
abbrev pub IsBeside : ℕ → Type 0
IsBeside place = (place < 0x010) ⊎ (0x048 < place)

abbrev pub Late : Spot → Type 0
Late (Running q) = IsBeside (about q).place
Late _ = Unit {0}

beside : (returns : Bool) (place : ℕ) → Where false returns place → IsBeside place
beside returns place (low l) = inl l
beside returns place (way e l) = absurd cc
beside returns place (middle l u) = inr l
beside returns place (high l) = inr (omega (arith, l))
beside returns place (over e l) = inr (omega (arith, l))

leads-late : (returns : Bool) (s : Spot) → Leads false returns s → Late s
leads-late returns (Running q) l = beside returns (about q).place l
leads-late returns (Mismatched t x left) l = tt
leads-late returns NotData l = tt
leads-late returns (Fixed t) l = tt
leads-late returns (TimedOut t) l = tt
leads-late returns JobOver l = tt
leads-late returns (ResetAt p) l = tt
leads-late returns Broken l = tt

-- a step from no point of this way leads there
pub late : (p : Point) (s : Spot) → is_early p ≡ false → IsNext p s → Late s
late p s e n = leads-late (is_return p) s (subst (λ (b : Bool). Leads b (is_return p) s) e (places p s n))
