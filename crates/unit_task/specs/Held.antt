-- What the struct of a task holds. One buffer serves the bytes that a write has received and the data that a command sends.
use Rattle.std.specs.Prelude.{◌≡◌, ℕ, ◌≤◌, Bool, true, List, length, take, Option, Some, None}
use Rattle.cdb_codec.specs.declared.commands.Cdb.{Cdb}
use Rattle.cdb_codec.specs.declared.commands.Cdb.TheVariants.{RequestSense}
use Rattle.plain_lun.specs.declared.performing.Answer.{Answer}
use Rattle.plain_lun.specs.Performing.{Answered}

-- an answer with its data at the front of the buffer
abbrev pub kept_of : Option Answer → List ℕ → Option Answered
kept_of None buffer = None
kept_of (Some a) buffer = Some (record { status = a.status; bytes = take a.sent buffer })

-- how many bytes of the buffer are data
abbrev pub sent_of : Option Answer → ℕ
sent_of None = 0
sent_of (Some a) = a.sent

-- the buffer has 65,536 bytes, and a sense task asks for the 18 bytes of sense data
pub record IsHeld (cdb : Cdb) (kept : Option Answer) (got : ℕ) (senses : Bool) (buffer : List ℕ) : Type 0 where
  pub size : length buffer ≡ 65536
  pub received : got ≤ 65536
  pub sent : sent_of kept ≤ 65536
  pub sense : senses ≡ true → cdb ≡ RequestSense 18
