-- A rig and a work of so many commands, drawn by the generator of the serial run: two units that four submitters read and write (own).
use Rattle.std.specs.Prelude.{◌≡◌, ℕ, zero, suc, ◌+◌, ◌-◌, ◌*◌, ◌/◌, ◌%◌, ◌==◌, Bool, true, false, List, [], ◌∷◌, map}
use Rattle.std.specs.List.{range_with_len}
use Rattle.scsi_words.specs.declared.phases.kinds.Direction.{Direction}
use Rattle.scsi_words.specs.declared.phases.kinds.Direction.TheVariants.{In, Out}
use Rattle.rig_types.specs.declared.rig.Rig.{Rig}
use Rattle.rig_types.specs.declared.rig.Unit.{Unit as RigUnit}
use Rattle.rig_types.specs.declared.rig.Pattern.TheVariants.{Count}
use Rattle.rig_types.specs.declared.work.Work.{Work}
use Rattle.rig_types.specs.declared.commands.Command.{Command}
use Rattle.rig_types.specs.declared.commands.WhenFull.{WhenFull}
use Rattle.rig_types.specs.declared.commands.WhenFull.TheVariants.{Wait}
use Rattle.cdb_codec.specs.declared.commands.Cdb.{Cdb}
use Rattle.cdb_codec.specs.declared.commands.Cdb.TheVariants.{Read, Write}
use Rattle.cdb_codec.specs.Forms.{cdb_bytes}
use Rattle.unit_law.specs.Request.{RequestData, plain}
use Rattle.run_law.specs.Serial.{next_word}

-- the word that is drawn for a command, by its number
abbrev pub word_for : (seed number : ℕ) → ℕ
word_for seed zero = next_word seed
word_for seed (suc i) = next_word (word_for seed i)

-- eight blocks of a unit of 4,096 are written or read, from an address that leaves room for them
abbrev pub address_of : (word : ℕ) → ℕ
address_of x = x / 256 % 4089

abbrev pub is_write : (word : ℕ) → Bool
is_write x = x / 16777216 % 2 == 1

abbrev pub cdb_by : (write : Bool) → (lba : ℕ) → Cdb
cdb_by true lba = Write lba 8 false
cdb_by false lba = Read lba 8 false

abbrev pub direction_by : (write : Bool) → Direction
direction_by true = Out
direction_by false = In

-- so many bytes of the buffer of command i: byte k is (i + k) mod 256
unfoldable pub filled : (number count : ℕ) → List ℕ
filled i n = map (λ (k : ℕ). (i % 256 + k) % 256) (range_with_len 0 n)

-- a command as its data alone
pub record CommandData : Type 0 where
  pub request : RequestData
  pub when_full : WhenFull
  pub wait : Bool

abbrev pub data_of : Command → CommandData
data_of c = record { request = plain c.request; when_full = c.when_full; wait = c.wait }

abbrev pub request_by : (word number : ℕ) → RequestData
request_by x i = record {
  unit = i % 2;
  cdb = cdb_bytes (cdb_by (is_write x) (address_of x));
  segments = 4096 ∷ [];
  direction = direction_by (is_write x);
  bytes = filled i 4096;
}

abbrev pub command_of : (seed number : ℕ) → CommandData
command_of seed i = record { request = request_by (word_for seed i) i; when_full = Wait; wait = false }

-- line j of submitter s is command 4j + s
abbrev pub number_of : (submitter line : ℕ) → ℕ
number_of s j = 4 * j + s

-- how many of n commands are a submitter's
abbrev pub line_count : (n submitter : ℕ) → ℕ
line_count n s = (n + 3 - s) / 4

abbrev pub lines_of : (n seed submitter : ℕ) → List CommandData
lines_of n seed s = map (λ (j : ℕ). command_of seed (number_of s j)) (range_with_len 0 (line_count n s))

-- one unit a target
abbrev pub unit_of : (target : ℕ) → RigUnit
unit_of target = record {
  target = target;
  lun = 0;
  blocks = 4096;
  pattern = Count;
  depth = 32;
  disconnects = 1;
  refusals = 0;
  absent = false;
  rogue = false;
}

pub record IsGeneratedRig (rig : Rig) : Type 0 where
  pub version : rig.version ≡ 1
  pub units : rig.units ≡ unit_of 0 ∷ unit_of 1 ∷ []
  pub retries : rig.retries ≡ 0
  pub step_limit : rig.step_limit ≡ 4194304
  pub autosense : rig.autosense ≡ false

pub record IsGeneratedWork (n seed : ℕ) (work : Work) : Type 0 where
  pub submitters : map (map data_of) work.submitters ≡ lines_of n seed 0 ∷ lines_of n seed 1 ∷ lines_of n seed 2 ∷ lines_of n seed 3 ∷ []
  pub acts : work.acts ≡ []
