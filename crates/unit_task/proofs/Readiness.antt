-- Units whose tasks stay sound: a task that has received bytes wants some, so its unit has no attention and holds its blocks. Performing a
-- command never sets the attention, and neither it nor a drop changes the length of the disk.
use Rattle.std.proofs.Common.{◌≡◌, ℕ, ◌*◌, ◌/◌, ◌≤◌, Bool, true, false, List, [], length, refl, arith, Option, Some, None}
use Rattle.scsi_words.specs.declared.phases.kinds.Direction.{Direction}
use Rattle.scsi_words.specs.declared.phases.kinds.Direction.TheVariants.{In, Out, None as NoData}
use Rattle.scsi_words.specs.declared.statuses.kinds.Status.TheVariants.{Good}
use Rattle.cdb_codec.specs.declared.commands.Cdb.{Cdb}
use Rattle.cdb_codec.specs.declared.commands.Cdb.TheVariants.{TestUnitReady, RequestSense, Read, Write, Inquiry, ReadCapacity, BadField, Other}
use Rattle.cdb_codec.specs.Forms.{need_of, takes}
use Rattle.plain_lun.specs.Unit.{UnitState}
use Rattle.plain_lun.specs.Performing.{Answered, perform, attended, ordinary, transferred, attention_after, holds, where_good, wants_now}
use Rattle.plain_lun.specs.Losing.{dropped, stored_within, whole_blocks}
use Rattle.plain_lun.specs.declared.sense.SenseCode.{SenseCode}
use Rattle.plain_lun.proofs.Laws.{size-kept, size-dropped}
use Rattle.target_law.specs.Session.{Task}
use Rattle.target_law.specs.Sound.{HasMoved, IsSoundTask, IsWaiting}

-- the second unit is as long as the first, and has attention only where the first has
pub record IsAsReady (u v : UnitState) : Type 0 where
  pub size : length v.disk ≡ length u.disk
  pub attention : u.attention ≡ false → v.attention ≡ false

-- performing sets no attention
transferred-attention : (b : Bool) (u : UnitState) (d bs : List ℕ) → u.attention ≡ false → (transferred b u d bs).unit.attention ≡ false
transferred-attention true u d bs h = h
transferred-attention false u d bs h = refl

after-attention : (s : Option SenseCode) (a : Bool) → a ≡ false → attention_after s a ≡ false
after-attention (Some s) a h = h
after-attention None a h = refl

ordinary-attention : (u : UnitState) (c : Cdb) (bs : List ℕ) → u.attention ≡ false → (ordinary u c bs).unit.attention ≡ false
ordinary-attention u TestUnitReady bs h = h
ordinary-attention u (RequestSense len) bs h = after-attention u.sense u.attention h
ordinary-attention u (Read lba blocks six) bs h = transferred-attention (holds u lba blocks) u _ _ h
ordinary-attention u (Write lba blocks six) bs h = transferred-attention (holds u lba blocks) u _ _ h
ordinary-attention u (Inquiry len) bs h = h
ordinary-attention u ReadCapacity bs h = h
ordinary-attention u BadField bs h = refl
ordinary-attention u Other bs h = refl

attended-attention : (b : Bool) (u : UnitState) (c : Cdb) (bs : List ℕ) → u.attention ≡ false → (attended b u c bs).unit.attention ≡ false
attended-attention true u c bs h = refl
attended-attention false u c bs h = ordinary-attention u c bs h

perform-attention : (u : UnitState) (c : Cdb) (bs : List ℕ) → u.attention ≡ false → (perform u c bs).unit.attention ≡ false
unfolding perform
perform-attention u (Inquiry len) bs h = h
perform-attention u (RequestSense len) bs h = after-attention u.sense u.attention h
perform-attention u c bs h = attended-attention u.attention u c bs h

within-attention : (b : Bool) (u : UnitState) (lba : ℕ) (bs : List ℕ) → u.attention ≡ false → (stored_within b u lba bs).attention ≡ false
within-attention true u lba bs h = h
within-attention false u lba bs h = h

dropped-attention : (u : UnitState) (c : Cdb) (bs : List ℕ) → u.attention ≡ false → (dropped u c bs).attention ≡ false
unfolding dropped
dropped-attention u (Write lba blocks six) bs h = within-attention (holds u lba (length bs / 512)) u lba (whole_blocks bs) h
dropped-attention u c bs h = h

-- after a command whose bytes are whole, and after a drop
pub ready-performed : (u : UnitState) (c : Cdb) (bs : List ℕ) → ((need_of c).direction ≡ Out → (perform u c bs).answer.status ≡ Good → length bs ≡ (need_of c).bytes) → IsAsReady u (perform u c bs).unit
ready-performed u c bs h = record { size = size-kept u c bs h; attention = perform-attention u c bs }

pub ready-dropped : (u : UnitState) (c : Cdb) (bs : List ℕ) → IsAsReady u (dropped u c bs)
ready-dropped u c bs = record { size = size-dropped u c bs; attention = dropped-attention u c bs }

pub ready-same : (u : UnitState) → IsAsReady u u
ready-same u = record { size = refl; attention = λ h. h }

-- a command that receives wants as much of a unit that is as ready
same-wants : (b : Bool) (u v : UnitState) (n : ℕ) (d e : List ℕ) → (where_good (transferred b u d []).answer.status (takes n)).bytes ≤ (where_good (transferred b v e []).answer.status (takes n)).bytes
same-wants true u v n d e = omega arith
same-wants false u v n d e = omega arith

attended-wants : (a b : Bool) (u v : UnitState) (lba blocks : ℕ) (six : Bool) → (a ≡ false → b ≡ false) → holds v lba blocks ≡ holds u lba blocks
    → (where_good (attended a u (Write lba blocks six) []).answer.status (takes (512 * blocks))).bytes ≤ (where_good (attended b v (Write lba blocks six) []).answer.status (takes (512 * blocks))).bytes
attended-wants true b u v lba blocks six f e = omega arith
attended-wants false true u v lba blocks six f e = let x = f refl in cc
attended-wants false false u v lba blocks six f e = rw e (same-wants (holds u lba blocks) u v (512 * blocks) _ _)

holds-same : (u v : UnitState) (lba blocks : ℕ) → length v.disk ≡ length u.disk → holds v lba blocks ≡ holds u lba blocks
unfolding holds
holds-same u v lba blocks e = rw e refl

write-wants : (u v : UnitState) (lba blocks : ℕ) (six : Bool) → IsAsReady u v → (wants_now u (Write lba blocks six)).bytes ≤ (wants_now v (Write lba blocks six)).bytes
unfolding wants_now perform
write-wants u v lba blocks six r = attended-wants u.attention v.attention u v lba blocks six r.attention (holds-same u v lba blocks r.size)

pub wants-stay : (u v : UnitState) (c : Cdb) → IsAsReady u v → (need_of c).direction ≡ Out → (wants_now u c).bytes ≤ (wants_now v c).bytes
wants-stay u v TestUnitReady r h = cc
wants-stay u v (RequestSense len) r h = cc
wants-stay u v (Read lba blocks six) r h = cc
wants-stay u v (Write lba blocks six) r h = write-wants u v lba blocks six r
wants-stay u v (Inquiry len) r h = cc
wants-stay u v ReadCapacity r h = cc
wants-stay u v BadField r h = cc
wants-stay u v Other r h = cc

-- so its tasks stay sound
moved-stays : (d : Direction) (o : Option Answered) (u v : UnitState) (k : Task) → (d ≡ Out → (wants_now u k.cdb).bytes ≤ (wants_now v k.cdb).bytes) → HasMoved d o u k → HasMoved d o v k
moved-stays In (Some a) u v k f m = m
moved-stays In None u v k f m = m
moved-stays Out (Some a) u v k f m = m
moved-stays Out None u v k f m = let w = f refl in (m.0, omega (arith, m.1))
moved-stays NoData (Some a) u v k f m = m
moved-stays NoData None u v k f m = m

pub sound-stays : (u v : UnitState) (k : Task) → IsAsReady u v → IsSoundTask u k → IsSoundTask v k
sound-stays u v k r h = record {
  fits = h.fits;
  small = h.small;
  position = h.position;
  saved = h.saved;
  moved = moved-stays (need_of k.cdb).direction k.kept u v k (wants-stay u v k.cdb r) h.moved;
}

pub waiting-stays : (u v : UnitState) (k : Task) → IsAsReady u v → IsWaiting u k → IsWaiting v k
waiting-stays u v k r h = record { task = sound-stays u v k r h.task; turn = h.turn }
