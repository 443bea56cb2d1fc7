-- From the opening the bus answers a read as the unit alone does.
use Rattle.std.proofs.Common.{◌≡◌, ℕ, ◌*◌, ◌<◌, ◌≤◌, Bool, true, false, List, [], length, refl, ap, sym, ◌∙◌, subst, arith}
use Rattle.scsi_words.specs.declared.statuses.kinds.Status.{Status}
use Rattle.scsi_words.specs.declared.statuses.kinds.Status.TheVariants.{Good, Check}
use Rattle.scsi_words.specs.Statuses.{status_code}
use Rattle.cdb_codec.specs.declared.commands.Cdb.TheVariants.{Read}
use Rattle.plain_lun.specs.Unit.{blocks_of}
use Rattle.plain_lun.specs.Performing.{Performed, perform, holds, transferred}
use Rattle.target_law.specs.Target.{BusFree}
use Rattle.straight_run.specs.Reading.{Answers, read_calls, status_calls}
use Rattle.one_target.specs.Bus.{BusState, moves}
use Rattle.one_target.specs.Opening.{one_unit, one_plain, IsOpened}
use Rattle.one_target.specs.Reading.{Ended, after_read, block_at, read_log, refused_log, Reads, Checks}
use Rattle.one_target.proofs.Slots.{slots}
use Rattle.one_target.proofs.BlockBytes.{bytes-filled_disk, bytes-blocks_at}
use Rattle.one_target.proofs.DataBytes.{bus}
use Rattle.one_target.proofs.OneRead.{performed, wants-there, wants-past, holds-there, holds-past, length-block}
use Rattle.one_target.proofs.Sessions.{unit_with}
use Rattle.one_target.proofs.Goes.{read_answers, refusal_answers, ended-slots, opened-bus, one-lun, one-blocks, one-quiet, one-calm, length-opened, blocks-opened}

pub one-blocks_of : blocks_of one_plain ≡ 64
one-blocks_of = blocks-opened one_unit.blocks one_unit.pattern ∙ one-blocks

pub one-length : length one_plain.disk ≡ 32768
one-length = length-opened one_unit.blocks one_unit.pattern ∙ ap (λ (n : ℕ). 512 * n) one-blocks

-- the command by itself
pub one-read : (lba : ℕ) (received : List ℕ) → lba < 64 → perform one_plain (Read lba 1 false) received ≡ transferred true one_plain one_plain.disk (block_at lba)
one-read lba received h = performed one_plain lba received refl ∙ ap (λ (x : Bool). transferred x one_plain one_plain.disk (block_at lba)) (holds-there one_plain lba 64 one-blocks_of h)

pub one-refused : (lba : ℕ) (received : List ℕ) → 64 ≤ lba → perform one_plain (Read lba 1 false) received ≡ transferred false one_plain one_plain.disk (block_at lba)
one-refused lba received h = performed one_plain lba received refl ∙ ap (λ (x : Bool). transferred x one_plain one_plain.disk (block_at lba)) (holds-past one_plain lba 64 one-blocks_of h)

pub length-block_at : (lba : ℕ) → lba < 64 → length (block_at lba) ≡ 512
length-block_at lba h = length-block one_plain.disk lba (rw one-length (omega arith))

abbrev opened_bus : BusState → BusState
opened_bus b = bus b.rooms (record { units = slots (unit_with one_unit one_plain []); link = BusFree }) b.asked

is-opened_bus : (b : BusState) → IsOpened b → b ≡ opened_bus b
is-opened_bus b o = opened-bus b one_unit o.target_is o.atn o.ack one-lun

pub reads : Reads
reads lba h b o =
    let P : BusState → Type 0 = Ended (after_read lba) read_log in
    let done : Performed = perform one_plain (Read lba 1 false) [] in
    let is : done ≡ transferred true one_plain one_plain.disk (block_at lba) = one-read lba [] h in
    let there : holds one_plain lba 1 ≡ true = holds-there one_plain lba 64 one-blocks_of h in
    let bytes : done.answer.bytes ≡ block_at lba = ap (λ (q : Performed). q.answer.bytes) is in
    let status : done.answer.status ≡ Good = ap (λ (q : Performed). q.answer.status) is in
    let a : Answers moves (read_calls lba (block_at lba) (status_code done.answer.status)) P (opened_bus b) =
    read_answers P b.rooms o.room one_unit one_plain lba one-calm (omega arith) b.asked (block_at lba) (bytes-blocks_at one_plain.disk lba 1 (bytes-filled_disk one_unit.pattern (512 * one_unit.blocks))) one-quiet bytes (length-block_at lba h) (wants-there one_plain lba refl there) (ended-slots b.rooms one_unit (after_read lba) read_log _) in
    let c : Answers moves (read_calls lba (block_at lba) (status_code Good)) P (opened_bus b) =
    subst (λ (st : Status). Answers moves (read_calls lba (block_at lba) (status_code st)) P (opened_bus b)) status a in
    subst (λ (x : BusState). Answers moves (read_calls lba (block_at lba) (status_code Good)) P x) (sym (is-opened_bus b o)) c

pub checks : Checks
checks lba h fits b o =
    let P : BusState → Type 0 = Ended (after_read lba) refused_log in
    let done : Performed = perform one_plain (Read lba 1 false) [] in
    let is : done ≡ transferred false one_plain one_plain.disk (block_at lba) = one-refused lba [] h in
    let past : holds one_plain lba 1 ≡ false = holds-past one_plain lba 64 one-blocks_of h in
    let status : done.answer.status ≡ Check = ap (λ (q : Performed). q.answer.status) is in
    let a : Answers moves (status_calls lba (status_code done.answer.status)) P (opened_bus b) =
    refusal_answers P b.rooms o.room one_unit one_plain lba one-calm fits b.asked one-quiet (wants-past one_plain lba refl past) (ended-slots b.rooms one_unit (after_read lba) refused_log _) in
    let c : Answers moves (status_calls lba (status_code Check)) P (opened_bus b) =
    subst (λ (st : Status). Answers moves (status_calls lba (status_code st)) P (opened_bus b)) status a in
    subst (λ (x : BusState). Answers moves (status_calls lba (status_code Check)) P x) (sym (is-opened_bus b o)) c
