-- What one command gives, whatever it is.
use Rattle.std.proofs.Common.{◌≡◌, ◌≢◌, ℕ, ◌+◌, ◌-◌, ◌*◌, ◌/◌, ◌≤◌, min, Bool, true, false, List, [], length, refl, ap, arith, ◌∙◌, ◌⊎◌, inl, inr, take, drop, length-take, length-drop, length-append}
use Rattle.std.proofs.lemmas.Bool.Decides.{nat_tests}
use Rattle.std.proofs.lemmas.Grind.{common_steps}
use Rattle.scsi_words.specs.declared.phases.kinds.Direction.TheVariants.{In, Out}
use Rattle.scsi_words.specs.declared.statuses.kinds.Status.{Status}
use Rattle.scsi_words.specs.declared.statuses.kinds.Status.TheVariants.{Good, Check, Busy, Conflict, QueueFull}
use Rattle.cdb_codec.specs.declared.commands.Cdb.{Cdb}
use Rattle.cdb_codec.specs.declared.commands.Cdb.TheVariants.{TestUnitReady, RequestSense, Read, Write, Inquiry, ReadCapacity, BadField, Other}
use Rattle.cdb_codec.specs.declared.commands.Need.{Need}
use Rattle.cdb_codec.specs.Forms.{need_of, gives}
use Rattle.plain_lun.specs.Unit.{UnitState}
use Rattle.plain_lun.specs.Performing.{perform, attended, ordinary, transferred, good, sense_now, sense_data, inquiry_data, capacity_data, holds, blocks_at, stored, wants_now, where_good}
use Rattle.plain_lun.specs.Losing.{dropped, stored_within, whole_blocks}

-- the status doesn't depend on what is received
transferred-status : (b : Bool) (u : UnitState) (d e bs cs : List ℕ) → (transferred b u d bs).answer.status ≡ (transferred b u e cs).answer.status
transferred-status true u d e bs cs = refl
transferred-status false u d e bs cs = refl

attended-status : (b : Bool) (u : UnitState) (c : Cdb) (bs cs : List ℕ) → (attended b u c bs).answer.status ≡ (attended b u c cs).answer.status
attended-status true u c bs cs = refl
attended-status false u (Write lba blocks six) bs cs = transferred-status (holds u lba blocks) u _ _ _ _
attended-status false u c bs cs = refl

pub status-same : (u : UnitState) (c : Cdb) (bs cs : List ℕ) → (perform u c bs).answer.status ≡ (perform u c cs).answer.status
unfolding perform
status-same u (Inquiry len) bs cs = refl
status-same u (RequestSense len) bs cs = refl
status-same u c bs cs = attended-status u.attention u c bs cs

-- a command that is performed ends with GOOD or CHECK CONDITION
abbrev pub GoodOrCheck : Status → Type 0
GoodOrCheck s = (s ≡ Good) ⊎ (s ≡ Check)

transferred-ends : (b : Bool) (u : UnitState) (d bs : List ℕ) → GoodOrCheck (transferred b u d bs).answer.status
transferred-ends true u d bs = inl refl
transferred-ends false u d bs = inr refl

ordinary-ends : (u : UnitState) (c : Cdb) (bs : List ℕ) → GoodOrCheck (ordinary u c bs).answer.status
ordinary-ends u TestUnitReady bs = inl refl
ordinary-ends u (RequestSense len) bs = inl refl
ordinary-ends u (Read lba blocks six) bs = transferred-ends (holds u lba blocks) u _ _
ordinary-ends u (Write lba blocks six) bs = transferred-ends (holds u lba blocks) u _ _
ordinary-ends u (Inquiry len) bs = inl refl
ordinary-ends u ReadCapacity bs = inl refl
ordinary-ends u BadField bs = inr refl
ordinary-ends u Other bs = inr refl

attended-ends : (b : Bool) (u : UnitState) (c : Cdb) (bs : List ℕ) → GoodOrCheck (attended b u c bs).answer.status
attended-ends true u c bs = inr refl
attended-ends false u c bs = ordinary-ends u c bs

pub good_or_check : (u : UnitState) (c : Cdb) (bs : List ℕ) → GoodOrCheck (perform u c bs).answer.status
unfolding perform
good_or_check u (Inquiry len) bs = inl refl
good_or_check u (RequestSense len) bs = inl refl
good_or_check u c bs = attended-ends u.attention u c bs

-- the unit wants at most what the command needs, and just that where it answers GOOD
where_good-most : (s : Status) (n : Need) → (where_good s n).bytes ≤ n.bytes
where_good-most Good n = omega arith
where_good-most Check n = omega arith
where_good-most Busy n = omega arith
where_good-most Conflict n = omega arith
where_good-most QueueFull n = omega arith

pub wants-most : (u : UnitState) (c : Cdb) → (wants_now u c).bytes ≤ (need_of c).bytes
unfolding wants_now
wants-most u c = where_good-most (perform u c []).answer.status (need_of c)

pub wants-good : (u : UnitState) (c : Cdb) (bs : List ℕ) → (perform u c bs).answer.status ≡ Good → wants_now u c ≡ need_of c
unfolding wants_now
wants-good u c bs h = ap (λ s. where_good s (need_of c)) (status-same u c [] bs ∙ h)

-- a command that sends gives just as many bytes as it wants
inquiry-size : length inquiry_data ≡ 36
unfolding inquiry_data
inquiry-size = refl

sense-size : (u : UnitState) → length (sense_now u) ≡ 18
unfolding sense_now sense_data
sense-size u = refl

capacity-size : (u : UnitState) → length (capacity_data u) ≡ 8
unfolding capacity_data
capacity-size u = refl

cut-size : (n m : ℕ) (xs : List ℕ) → length xs ≡ m → length (take n xs) ≡ min n m
cut-size n m xs h = grind (arith, common_steps)

blocks-size : (u : UnitState) (lba blocks : ℕ) → holds u lba blocks ≡ true → length (blocks_at u.disk lba blocks) ≡ 512 * blocks
unfolding holds blocks_at
blocks-size u lba blocks h =
    let within : lba + blocks ≤ length u.disk / 512 = grind (arith, nat_tests) in
    let d : length (drop (512 * lba) u.disk) ≡ length u.disk - 512 * lba = length-drop (512 * lba) u.disk in
    let f : 512 * blocks ≤ length (drop (512 * lba) u.disk) = omega arith in
    grind (arith, common_steps)

transferred-sends : (b : Bool) (u : UnitState) (d bs : List ℕ) (n : ℕ) → (b ≡ true → length bs ≡ n) → length (transferred b u d bs).answer.bytes ≡ (where_good (transferred b u d bs).answer.status (gives n)).bytes
transferred-sends true u d bs n h = h refl
transferred-sends false u d bs n h = refl

attended-sends : (b : Bool) (u : UnitState) (c : Cdb) (bs : List ℕ) → (need_of c).direction ≡ In → length (attended b u c bs).answer.bytes ≡ (where_good (attended b u c []).answer.status (need_of c)).bytes
attended-sends true u c bs i = refl
attended-sends false u (RequestSense len) bs i = cut-size len 18 (sense_now u) (sense-size u)
attended-sends false u (Read lba blocks six) bs i = transferred-sends (holds u lba blocks) u u.disk (blocks_at u.disk lba blocks) (512 * blocks) (blocks-size u lba blocks)
attended-sends false u (Inquiry len) bs i = cut-size len 36 inquiry_data inquiry-size
attended-sends false u ReadCapacity bs i = capacity-size u
attended-sends false u c bs i = cc

pub sends : (u : UnitState) (c : Cdb) (bs : List ℕ) → (need_of c).direction ≡ In → length (perform u c bs).answer.bytes ≡ (wants_now u c).bytes
unfolding perform wants_now
sends u (Inquiry len) bs i = cut-size len 36 inquiry_data inquiry-size
sends u (RequestSense len) bs i = cut-size len 18 (sense_now u) (sense-size u)
sends u c bs i = attended-sends u.attention u c bs i

-- any other command gives no bytes
transferred-none : (b : Bool) (u : UnitState) (d : List ℕ) → (transferred b u d []).answer.bytes ≡ []
transferred-none true u d = refl
transferred-none false u d = refl

attended-none : (b : Bool) (u : UnitState) (c : Cdb) (bs : List ℕ) → (need_of c).direction ≢ In → (attended b u c bs).answer.bytes ≡ []
attended-none true u c bs i = refl
attended-none false u TestUnitReady bs i = refl
attended-none false u (Write lba blocks six) bs i = transferred-none (holds u lba blocks) u _
attended-none false u BadField bs i = refl
attended-none false u Other bs i = refl
attended-none false u c bs i = absurd (i refl)

pub gives-none : (u : UnitState) (c : Cdb) (bs : List ℕ) → (need_of c).direction ≢ In → (perform u c bs).answer.bytes ≡ []
unfolding perform
gives-none u (Inquiry len) bs i = absurd (i refl)
gives-none u (RequestSense len) bs i = absurd (i refl)
gives-none u c bs i = attended-none u.attention u c bs i

-- data are no longer than the need
sends-most : (u : UnitState) (c : Cdb) (bs : List ℕ) → (need_of c).direction ≡ In → length (perform u c bs).answer.bytes ≤ (need_of c).bytes
sends-most u c bs i = omega (arith, sends u c bs i, wants-most u c)

none-most : (u : UnitState) (c : Cdb) (bs : List ℕ) → (need_of c).direction ≢ In → length (perform u c bs).answer.bytes ≤ (need_of c).bytes
none-most u c bs i = omega (arith, ap length (gives-none u c bs i))

pub bytes-most : (u : UnitState) (c : Cdb) (bs : List ℕ) → length (perform u c bs).answer.bytes ≤ (need_of c).bytes
bytes-most u TestUnitReady bs = none-most u TestUnitReady bs (λ e. cc)
bytes-most u (RequestSense len) bs = sends-most u (RequestSense len) bs refl
bytes-most u (Read lba blocks six) bs = sends-most u (Read lba blocks six) bs refl
bytes-most u (Write lba blocks six) bs = none-most u (Write lba blocks six) bs (λ e. cc)
bytes-most u (Inquiry len) bs = sends-most u (Inquiry len) bs refl
bytes-most u ReadCapacity bs = sends-most u ReadCapacity bs refl
bytes-most u BadField bs = none-most u BadField bs (λ e. cc)
bytes-most u Other bs = none-most u Other bs (λ e. cc)

-- what is received matters to a write alone, and there only where it is performed
transferred-same : (b : Bool) (u : UnitState) (d e : List ℕ) → ((transferred b u d []).answer.status ≡ Good → d ≡ e) → transferred b u d [] ≡ transferred b u e []
transferred-same true u d e h = ap (λ x. good u x []) (h refl)
transferred-same false u d e h = refl

attended-same : (b : Bool) (u : UnitState) (c : Cdb) (bs cs : List ℕ) → ((need_of c).direction ≡ Out → (attended b u c bs).answer.status ≡ Good → bs ≡ cs) → attended b u c bs ≡ attended b u c cs
attended-same true u c bs cs h = refl
attended-same false u (Write lba blocks six) bs cs h = transferred-same (holds u lba blocks) u _ _ (λ g. ap (stored u.disk (512 * lba)) (h refl g))
attended-same false u c bs cs h = refl

pub received-same : (u : UnitState) (c : Cdb) (bs cs : List ℕ) → ((need_of c).direction ≡ Out → (perform u c bs).answer.status ≡ Good → bs ≡ cs) → perform u c bs ≡ perform u c cs
unfolding perform
received-same u (Inquiry len) bs cs h = refl
received-same u (RequestSense len) bs cs h = refl
received-same u c bs cs h = attended-same u.attention u c bs cs h

-- no command changes the size of the disk
stored-size : (disk : List ℕ) (at : ℕ) (bs : List ℕ) → at + length bs ≤ length disk → length (stored disk at bs) ≡ length disk
unfolding stored
stored-size disk at bs h = simp (length-append, length-take, length-drop) (omega arith)

transferred-size : (b : Bool) (u : UnitState) (d bs : List ℕ) → (b ≡ true → length d ≡ length u.disk) → length (transferred b u d bs).unit.disk ≡ length u.disk
transferred-size true u d bs h = h refl
transferred-size false u d bs h = refl

written-size : (u : UnitState) (lba blocks : ℕ) (bs : List ℕ) → length bs ≡ 512 * blocks → holds u lba blocks ≡ true → length (stored u.disk (512 * lba) bs) ≡ length u.disk
unfolding holds
written-size u lba blocks bs n h =
    let within : lba + blocks ≤ length u.disk / 512 = grind (arith, nat_tests) in stored-size u.disk (512 * lba) bs (omega arith)

attended-size : (b : Bool) (u : UnitState) (c : Cdb) (bs : List ℕ) → ((need_of c).direction ≡ Out → (attended b u c bs).answer.status ≡ Good → length bs ≡ (need_of c).bytes) → length (attended b u c bs).unit.disk ≡ length u.disk
attended-size true u c bs h = refl
attended-size false u (Read lba blocks six) bs h = transferred-size (holds u lba blocks) u u.disk _ (λ e. refl)
attended-size false u (Write lba blocks six) bs h =
    transferred-size (holds u lba blocks) u (stored u.disk (512 * lba) bs) [] (λ e. written-size u lba blocks bs (h refl (ap (λ b. (transferred b u (stored u.disk (512 * lba) bs) []).answer.status) e)) e)
attended-size false u c bs h = refl

pub size-kept : (u : UnitState) (c : Cdb) (bs : List ℕ) → ((need_of c).direction ≡ Out → (perform u c bs).answer.status ≡ Good → length bs ≡ (need_of c).bytes) → length (perform u c bs).unit.disk ≡ length u.disk
unfolding perform
size-kept u (Inquiry len) bs h = refl
size-kept u (RequestSense len) bs h = refl
size-kept u c bs h = attended-size u.attention u c bs h

within-size : (b : Bool) (u : UnitState) (lba : ℕ) (bs : List ℕ) → (b ≡ true → length (stored u.disk (512 * lba) bs) ≡ length u.disk) → length (stored_within b u lba bs).disk ≡ length u.disk
within-size true u lba bs h = h refl
within-size false u lba bs h = refl

pub size-dropped : (u : UnitState) (c : Cdb) (bs : List ℕ) → length (dropped u c bs).disk ≡ length u.disk
unfolding dropped
size-dropped u (Write lba blocks six) bs =
    let n : length (whole_blocks bs) ≡ 512 * (length bs / 512) = grind (arith, common_steps) in
    within-size (holds u lba (length bs / 512)) u lba (whole_blocks bs) (written-size u lba (length bs / 512) (whole_blocks bs) n)
size-dropped u c bs = refl
