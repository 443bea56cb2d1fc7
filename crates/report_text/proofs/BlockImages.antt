-- The blocks of a unit, one after the other.
use Rattle.std.proofs.Common.{arith, ◌≡◌, ◌<◌, ◌+◌, ◌*◌, ℕ, zero, suc, List, [], ◌∷◌, ◌++◌, length, take, drop, slice_get, slice_index_or, IfSome, refl, sym, ap, ◌∙◌, append_assoc, append-nil}
use Rattle.std.proofs.lemmas.List.{drop-drop}
use Rattle.rig_types.specs.declared.rig.Unit.{Unit as RigUnit}
use Rattle.target_law.specs.Target.{unit_at}
use Rattle.bus_law.specs.Bus.{device_at}
use Rattle.world_law.specs.World.{World}
use Rattle.report_text.specs.Text.{is_changed, image_if, images_from, unit_images, disk_of}

abbrev pub disk_at : World → RigUnit → List ℕ
disk_at w u = disk_of (unit_at (device_at w.bus u.target).target.units u.lun)

-- with the blocks from this one on the text of a unit is whole
pub record IsShown (w : World) (u : RigUnit) (first : List ℕ) (block : ℕ) (text : List ℕ) : Type 0 where
  pub left : ℕ
  pub all : block + left ≡ u.blocks
  pub whole : text ++ images_from u left block (drop (512 * block) (disk_at w u)) ≡ first ++ unit_images w u

pub shown_first : (w : World) (u : RigUnit) (first : List ℕ) → IsShown w u first 0 first
shown_first w u first = record { left = u.blocks; all = omega arith; whole = refl }

abbrev block_text : RigUnit → (block : ℕ) → List ℕ → List ℕ
block_text u b bytes = image_if (is_changed u.pattern b bytes) u.target u.lun b bytes

one-less : (n block total : ℕ) → block + n ≡ total → block < total → (k : ℕ) × (n ≡ suc k)
one-less zero block total e l = absurd (omega (arith, e, l))
one-less (suc k) block total e l = (k, refl)

-- the block from here on, and those after it
shown-next : (u : RigUnit) (left block : ℕ) (disk : List ℕ) (text whole : List ℕ) → text ++ images_from u (suc left) block (drop (512 * block) disk) ≡ whole
    → (text ++ block_text u block (take 512 (drop (512 * block) disk))) ++ images_from u left (block + 1) (drop (512 * (block + 1)) disk) ≡ whole
shown-next u left block disk text whole e =
    append_assoc text (block_text u block (take 512 (drop (512 * block) disk))) (images_from u left (block + 1) (drop (512 * (block + 1)) disk))
    ∙ ap (λ (xs : List ℕ). text ++ (block_text u block (take 512 (drop (512 * block) disk)) ++ images_from u left (block + 1) xs)) next ∙ e
  where
    further : (n : ℕ) → 512 * (n + 1) ≡ 512 * n + 512
    further n = omega arith

    next : drop (512 * (block + 1)) disk ≡ drop 512 (drop (512 * block) disk)
    next = ap (λ (n : ℕ). drop n disk) (further block) ∙ sym (drop-drop 512 (512 * block) disk)

pub shown_more : (w : World) (u : RigUnit) (first : List ℕ) (block : ℕ) (text bytes more : List ℕ) → block < u.blocks → bytes ≡ take 512 (drop (512 * block) (disk_at w u))
    → more ≡ text ++ image_if (is_changed u.pattern block bytes) u.target u.lun block bytes → IsShown w u first block text → IsShown w u first (block + 1) more
shown_more w u first block text bytes more l e f h =
    let s : (k : ℕ) × (h.left ≡ suc k) = one-less h.left block u.blocks h.all l in
    record {
      left = s.0;
      all = omega (arith, h.all, s.1);
      whole = ap (λ (xs : List ℕ). xs ++ images_from u s.0 (block + 1) (drop (512 * (block + 1)) (disk_at w u))) (f ∙ ap (λ (bs : List ℕ). text ++ block_text u block bs) e)
          ∙ shown-next u s.0 block (disk_at w u) text (first ++ unit_images w u) (ap (λ (n : ℕ). text ++ images_from u n block (drop (512 * block) (disk_at w u))) (sym s.1) ∙ h.whole);
    }

pub shown_all : (w : World) (u : RigUnit) (first : List ℕ) (block : ℕ) (text : List ℕ) → block ≡ u.blocks → IsShown w u first block text → text ≡ first ++ unit_images w u
shown_all w u first block text e h =
    let none : h.left ≡ 0 = omega (arith, h.all, e) in
    sym (append-nil text) ∙ ap (λ (n : ℕ). text ++ images_from u n block (drop (512 * block) (disk_at w u))) (sym none) ∙ h.whole

-- what holds of the unit with a number, where there is one
pub of_unit : (us : List RigUnit) (n : ℕ) (d : RigUnit) (P : RigUnit → Type 0) → P (slice_index_or us n d) → IfSome (slice_get us n) P
of_unit [] n d P h = tt
of_unit (u ∷ us) zero d P h = h
of_unit (u ∷ us) (suc n) d P h = of_unit us n d P h

pub at_unit : (us : List RigUnit) (n : ℕ) (d : RigUnit) (P : RigUnit → Type 0) → n < length us → IfSome (slice_get us n) P → P (slice_index_or us n d)
at_unit [] n d P l h = absurd (omega (arith, l))
at_unit (u ∷ us) zero d P l h = h
at_unit (u ∷ us) (suc n) d P l h = at_unit us n d P (omega (arith, l)) h
