-- Where a running chip stands: at an instruction of the script, by its number, or in a chain.
use Rattle.std.proofs.Common.{◌≡◌, ◌⊎◌, inl, inr, ℕ, zero, suc, ◌+◌, ◌*◌, ◌<◌, ◌≤◌, List, Bool, true, false, refl, ap, arith}
use Rattle.std.specs.Prelude.{if◌then◌else◌, nat_eq}
use Rattle.std.proofs.lemmas.Bool.Decides.{nat_tests}
use Rattle.rig_types.specs.declared.rig.Unit.{Unit as RigUnit}
use Rattle.phase_fix.specs.Moves.{IsEntry}
use Rattle.phase_fix.specs.declared.moves.DataPhase.{DataPhase}
use Rattle.phase_fix.specs.declared.moves.DataPhase.TheVariants.{In, Out}
use Rattle.phase_fix.specs.declared.moves.Entry.{Entry}
use Rattle.phase_fix.specs.declared.moves.Entry.TheVariants.{Segment, Context}
use Rattle.phase_fix.proofs.MoveLaws.{move_stands}
use Rattle.world_law.specs.World.{World}
use Rattle.word_owners.specs.Pointers.{move_place}
use Rattle.word_owners.specs.Points.{Point, about, At000, At008, At010Idle, At010Job, At010Sense, At018Idle, At018Job, At018Sense, At020, At028, At030, At038, At038Idle, At040, At040Idle, At048, At050, At058, At060, At068, At070, At078, At080, At088, At090, At098, At0A0, At0A8, At0B0, At0B8, At0C0, At0C8, At0D0, At0D8, At0E0, At0E8, At0F0, At0F8, At100, At108, At110, At118, At120, At128, At130, At138, At140, At148, At150, At158, At160, At168, At170, At178, At180, At188, At190, At198, At1A0, At1A0None, At1A8, At1A8Bad, At1A8None, At1B0, At1B0None, At1B8, At1B8None, At1C0, At1C8, At1D0, At1D8, At1E0, At1E8, At1F0, At1F8, At200, At208, At210, At218, At220, At228, At230, At238, At240, At248, At250, At258, At260, At268, At270, At278, At280, At288, At290, At298, At2A0, At2A8, At2B0, At2B8, At340, At3C8, At3D0, At3D8, At440, At448, At450, At458, At460, At468, At470, At478, At480, At488, At490, At498, At4A0, At4A8, At4B0, AtUnit, BehindContext, BehindUnit, InLuns, InTargets, LeavesContext, Moves}
use Rattle.word_owners.specs.Parts.{Counts}
use Rattle.word_owners.specs.Holds.{Holds, Running}

-- the chains, by which a target that has reselected is found
abbrev pub is_chain : Point → Bool
is_chain (InTargets r j) = true
is_chain (InLuns r j) = true
is_chain (AtUnit u r) = true
is_chain (BehindUnit u r) = true
is_chain _ = false

-- OVER is instruction 87
pub data Stands (p : Point) : Type 0 where
  script : (k : ℕ) → k < 151 → (about p).place ≡ 8 * k → (k < 87) ⊎ (87 < k) → Stands p
  at-over : (t : ℕ) → p ≡ At2B8 t → Stands p
  in-chain : is_chain p ≡ true → 0x8000 ≤ (about p).place → Stands p

pub not-zero : (k : ℕ) → nat_eq (suc k) 0 ≡ false
not-zero k = grind (arith, nat_tests)

move-stands : (t : ℕ) (phase : DataPhase) (e : Entry) → IsEntry e → Stands (Moves t (record { phase = phase; entry = e }))
move-stands t In (Segment j) l = script (88 + j) (omega (arith, l)) (omega arith) (inr (omega arith))
move-stands t Out (Segment j) l = script (105 + j) (omega (arith, l)) (omega arith) (inr (omega arith))
move-stands t In (Context k) l = script (124 + 3 * k) (omega (arith, l)) (omega arith) (inr (omega arith))
move-stands t Out (Context k) l = script (130 + 3 * k) (omega (arith, l)) (omega arith) (inr (omega arith))

context-stands : (t : ℕ) (phase : DataPhase) (k : ℕ) → k < 2 → Stands (BehindContext t phase k)
context-stands t In k l = script (125 + 3 * k) (omega (arith, l)) (omega arith) (inr (omega arith))
context-stands t Out k l = script (131 + 3 * k) (omega (arith, l)) (omega arith) (inr (omega arith))

leaves-stands : (t : ℕ) (phase : DataPhase) (j k : ℕ) → Stands (LeavesContext t phase j k)
leaves-stands t In j zero = script 126 (omega arith) refl (inr (omega arith))
leaves-stands t In j (suc k) = script 129 (omega arith) (ap (λ (b : Bool). (if b then 0x3E0 else 0x3F8) + 16) (not-zero k)) (inr (omega arith))
leaves-stands t Out j zero = script 132 (omega arith) refl (inr (omega arith))
leaves-stands t Out j (suc k) = script 135 (omega arith) (ap (λ (b : Bool). (if b then 0x410 else 0x428) + 16) (not-zero k)) (inr (omega arith))

module _ (version : ℕ) (units : List RigUnit) (c : Counts) (w : World) where
  pub stands-at : (p : Point) → Holds version units (Running p) c w → Stands p
  stands-at At000 h = script 0 (omega arith) refl (inl (omega arith))
  stands-at At008 h = script 1 (omega arith) refl (inl (omega arith))
  stands-at At010Idle h = script 2 (omega arith) refl (inl (omega arith))
  stands-at At010Job h = script 2 (omega arith) refl (inl (omega arith))
  stands-at (At010Sense t) h = script 2 (omega arith) refl (inl (omega arith))
  stands-at At018Idle h = script 3 (omega arith) refl (inl (omega arith))
  stands-at At018Job h = script 3 (omega arith) refl (inl (omega arith))
  stands-at (At018Sense t) h = script 3 (omega arith) refl (inl (omega arith))
  stands-at At020 h = script 4 (omega arith) refl (inl (omega arith))
  stands-at At028 h = script 5 (omega arith) refl (inl (omega arith))
  stands-at At030 h = script 6 (omega arith) refl (inl (omega arith))
  stands-at At038Idle h = script 7 (omega arith) refl (inl (omega arith))
  stands-at (At038 t) h = script 7 (omega arith) refl (inl (omega arith))
  stands-at At040Idle h = script 8 (omega arith) refl (inl (omega arith))
  stands-at (At040 t a) h = script 8 (omega arith) refl (inl (omega arith))
  stands-at At048 h = script 9 (omega arith) refl (inl (omega arith))
  stands-at (At060 t) h = script 12 (omega arith) refl (inl (omega arith))
  stands-at (At068 t) h = script 13 (omega arith) refl (inl (omega arith))
  stands-at (At070 t) h = script 14 (omega arith) refl (inl (omega arith))
  stands-at (At078 t) h = script 15 (omega arith) refl (inl (omega arith))
  stands-at (At080 t) h = script 16 (omega arith) refl (inl (omega arith))
  stands-at (At088 t) h = script 17 (omega arith) refl (inl (omega arith))
  stands-at (At090 t) h = script 18 (omega arith) refl (inl (omega arith))
  stands-at (At098 t) h = script 19 (omega arith) refl (inl (omega arith))
  stands-at (At0A0 t) h = script 20 (omega arith) refl (inl (omega arith))
  stands-at (At0A8 t) h = script 21 (omega arith) refl (inl (omega arith))
  stands-at (At0B0 t) h = script 22 (omega arith) refl (inl (omega arith))
  stands-at (At0B8 t) h = script 23 (omega arith) refl (inl (omega arith))
  stands-at (At0C0 t p) h = script 24 (omega arith) refl (inl (omega arith))
  stands-at (At0C8 t) h = script 25 (omega arith) refl (inl (omega arith))
  stands-at (At0D0 t) h = script 26 (omega arith) refl (inl (omega arith))
  stands-at (At0D8 t) h = script 27 (omega arith) refl (inl (omega arith))
  stands-at (At0E0 t) h = script 28 (omega arith) refl (inl (omega arith))
  stands-at (At0E8 t) h = script 29 (omega arith) refl (inl (omega arith))
  stands-at (At0F0 t) h = script 30 (omega arith) refl (inl (omega arith))
  stands-at (At0F8 t) h = script 31 (omega arith) refl (inl (omega arith))
  stands-at (At100 t) h = script 32 (omega arith) refl (inl (omega arith))
  stands-at (At108 t) h = script 33 (omega arith) refl (inl (omega arith))
  stands-at (At110 t p) h = script 34 (omega arith) refl (inl (omega arith))
  stands-at (At118 t) h = script 35 (omega arith) refl (inl (omega arith))
  stands-at (At120 t) h = script 36 (omega arith) refl (inl (omega arith))
  stands-at (At128 t) h = script 37 (omega arith) refl (inl (omega arith))
  stands-at (At130 t p) h = script 38 (omega arith) refl (inl (omega arith))
  stands-at (At138 t) h = script 39 (omega arith) refl (inl (omega arith))
  stands-at (At140 t) h = script 40 (omega arith) refl (inl (omega arith))
  stands-at (At148 t) h = script 41 (omega arith) refl (inl (omega arith))
  stands-at At150 h = script 42 (omega arith) refl (inl (omega arith))
  stands-at At158 h = script 43 (omega arith) refl (inl (omega arith))
  stands-at (At160 u r) h = script 44 (omega arith) refl (inl (omega arith))
  stands-at (At168 u r) h = script 45 (omega arith) refl (inl (omega arith))
  stands-at (At170 u r) h = script 46 (omega arith) refl (inl (omega arith))
  stands-at (At178 u r) h = script 47 (omega arith) refl (inl (omega arith))
  stands-at (At180 u r) h = script 48 (omega arith) refl (inl (omega arith))
  stands-at (At188 u g r) h = script 49 (omega arith) refl (inl (omega arith))
  stands-at (At190 u t k r) h = script 50 (omega arith) refl (inl (omega arith))
  stands-at (At198 u g r) h = script 51 (omega arith) refl (inl (omega arith))
  stands-at (At1A0 b r) h = script 52 (omega arith) refl (inl (omega arith))
  stands-at At1A0None h = script 52 (omega arith) refl (inl (omega arith))
  stands-at (At1A8 t) h = script 53 (omega arith) refl (inl (omega arith))
  stands-at At1A8Bad h = script 53 (omega arith) refl (inl (omega arith))
  stands-at At1A8None h = script 53 (omega arith) refl (inl (omega arith))
  stands-at (At1B0 t) h = script 54 (omega arith) refl (inl (omega arith))
  stands-at At1B0None h = script 54 (omega arith) refl (inl (omega arith))
  stands-at (At1B8 t a) h = script 55 (omega arith) refl (inl (omega arith))
  stands-at At1B8None h = script 55 (omega arith) refl (inl (omega arith))
  stands-at At1C0 h = script 56 (omega arith) refl (inl (omega arith))
  stands-at (At1C8 t) h = script 57 (omega arith) refl (inl (omega arith))
  stands-at (At1D0 t) h = script 58 (omega arith) refl (inl (omega arith))
  stands-at (At1D8 t) h = script 59 (omega arith) refl (inl (omega arith))
  stands-at (At1E0 t) h = script 60 (omega arith) refl (inl (omega arith))
  stands-at (At1E8 t) h = script 61 (omega arith) refl (inl (omega arith))
  stands-at (At1F0 t) h = script 62 (omega arith) refl (inl (omega arith))
  stands-at (At1F8 t) h = script 63 (omega arith) refl (inl (omega arith))
  stands-at (At200 t) h = script 64 (omega arith) refl (inl (omega arith))
  stands-at (At208 t) h = script 65 (omega arith) refl (inl (omega arith))
  stands-at (At210 t) h = script 66 (omega arith) refl (inl (omega arith))
  stands-at (At218 t) h = script 67 (omega arith) refl (inl (omega arith))
  stands-at (At220 t v) h = script 68 (omega arith) refl (inl (omega arith))
  stands-at (At228 t) h = script 69 (omega arith) refl (inl (omega arith))
  stands-at (At230 t) h = script 70 (omega arith) refl (inl (omega arith))
  stands-at (At238 t) h = script 71 (omega arith) refl (inl (omega arith))
  stands-at (At240 t) h = script 72 (omega arith) refl (inl (omega arith))
  stands-at (At248 t) h = script 73 (omega arith) refl (inl (omega arith))
  stands-at (At250 t) h = script 74 (omega arith) refl (inl (omega arith))
  stands-at At258 h = script 75 (omega arith) refl (inl (omega arith))
  stands-at At260 h = script 76 (omega arith) refl (inl (omega arith))
  stands-at At268 h = script 77 (omega arith) refl (inl (omega arith))
  stands-at At270 h = script 78 (omega arith) refl (inl (omega arith))
  stands-at (At278 t) h = script 79 (omega arith) refl (inl (omega arith))
  stands-at (At280 t) h = script 80 (omega arith) refl (inl (omega arith))
  stands-at (At288 t) h = script 81 (omega arith) refl (inl (omega arith))
  stands-at (At290 t) h = script 82 (omega arith) refl (inl (omega arith))
  stands-at At298 h = script 83 (omega arith) refl (inl (omega arith))
  stands-at At2A0 h = script 84 (omega arith) refl (inl (omega arith))
  stands-at At2A8 h = script 85 (omega arith) refl (inl (omega arith))
  stands-at At2B0 h = script 86 (omega arith) refl (inl (omega arith))
  stands-at (At2B8 t) h = at-over t refl
  stands-at (At340 t) h = script 104 (omega arith) refl (inr (omega arith))
  stands-at (At3C8 t) h = script 121 (omega arith) refl (inr (omega arith))
  stands-at (At3D0 t) h = script 122 (omega arith) refl (inr (omega arith))
  stands-at (At3D8 t) h = script 123 (omega arith) refl (inr (omega arith))
  stands-at (At440 t) h = script 136 (omega arith) refl (inr (omega arith))
  stands-at (At448 t) h = script 137 (omega arith) refl (inr (omega arith))
  stands-at (At450 t) h = script 138 (omega arith) refl (inr (omega arith))
  stands-at (At458 t) h = script 139 (omega arith) refl (inr (omega arith))
  stands-at (At460 u g r) h = script 140 (omega arith) refl (inr (omega arith))
  stands-at (At468 u g r) h = script 141 (omega arith) refl (inr (omega arith))
  stands-at (At470 u g r) h = script 142 (omega arith) refl (inr (omega arith))
  stands-at (At478 u g r) h = script 143 (omega arith) refl (inr (omega arith))
  stands-at (At480 u g r) h = script 144 (omega arith) refl (inr (omega arith))
  stands-at (At488 u g r) h = script 145 (omega arith) refl (inr (omega arith))
  stands-at (At490 u g r) h = script 146 (omega arith) refl (inr (omega arith))
  stands-at (At498 u g r) h = script 147 (omega arith) refl (inr (omega arith))
  stands-at (At4A0 u g r) h = script 148 (omega arith) refl (inr (omega arith))
  stands-at (At4A8 u t g r) h = script 149 (omega arith) refl (inr (omega arith))
  stands-at (At4B0 u t k r) h = script 150 (omega arith) refl (inr (omega arith))
  stands-at (At050 r) h = script 10 (omega arith) refl (inl (omega arith))
  stands-at (At058 r) h = script 11 (omega arith) refl (inl (omega arith))
  stands-at (Moves t x) h = move-stands t x.phase x.entry (move_stands (move_place x.phase x.entry) x h.works.extra.at).0
  stands-at (BehindContext t phase k) h = context-stands t phase k (move_stands (move_place phase (Context k)) (record { phase = phase; entry = Context k }) h.works.extra.at).0
  stands-at (LeavesContext t phase j k) h = leaves-stands t phase j k
  stands-at (InTargets r j) h = in-chain refl (omega arith)
  stands-at (InLuns r j) h = in-chain refl (omega arith)
  stands-at (AtUnit u r) h = in-chain refl (omega arith)
  stands-at (BehindUnit u r) h = in-chain refl (omega arith)
