-- The sink and the shelf in memory, which fail at the calls that they are told. Calls are counted from 1.
use Rattle.std.specs.Prelude.{ℕ, ◌+◌, ◌-◌, ◌^◌, min, List, length, take, ◌++◌, Bool, ◌&&◌, ◌||◌, not, is_some, nat_eq, if◌then◌else◌}
use Rattle.std.specs.List.{list_any}
use Rattle.sym_io.specs.Causes.{count_up}
use Rattle.sym_io.specs.ByName.{by_name}
use Rattle.sym_io.specs.declared.files.File.{File}

-- the number of the next call, which stands still at the end of its 32 bits
abbrev pub next_call : ℕ → ℕ
next_call calls = min (calls + 1) (2 ^ 32 - 1)

abbrev pub is_failing : List ℕ → ℕ → Bool
is_failing failing call = list_any (λ each. nat_eq each call) failing

pub record SinkState : Type 0 where
  pub bytes : List ℕ
  pub room : ℕ
  pub most : ℕ
  pub failing : List ℕ
  pub calls : ℕ
  pub faults : ℕ

-- whether a write of this piece fails: the call is to fail, or no room is left for a piece that isn't empty
abbrev pub write_fails : SinkState → List ℕ → Bool
write_fails s piece = (nat_eq s.room 0 && not (nat_eq (length piece) 0)) || is_failing s.failing (next_call s.calls)

-- how many bytes a write takes that doesn't fail
abbrev pub taken : SinkState → List ℕ → ℕ
taken s piece = min (min (length piece) s.most) s.room

abbrev pub failed_write : SinkState → SinkState
failed_write s = record s { calls = next_call s.calls; faults = count_up s.faults }

abbrev pub done_write : SinkState → List ℕ → SinkState
done_write s piece = record s { bytes = s.bytes ++ take (taken s piece) piece; room = s.room - taken s piece; calls = next_call s.calls }

pub record ShelfState : Type 0 where
  pub files : List File
  pub failing : List ℕ
  pub calls : ℕ
  pub load_faults : ℕ
  pub store_faults : ℕ

-- whether a load or a store fails because the call is to fail
abbrev pub call_fails : ShelfState → Bool
call_fails s = is_failing s.failing (next_call s.calls)

-- whether a load fails: the call is to fail, or the name isn't held
abbrev pub load_fails : ShelfState → List ℕ → Bool
load_fails s name = call_fails s || not (is_some (by_name s.files name))

-- the shelf after a load, which failed or not
abbrev pub after_load : ShelfState → Bool → ShelfState
after_load s failed = record s { calls = next_call s.calls; load_faults = if failed then count_up s.load_faults else s.load_faults }

-- the shelf after a store, which failed or not, apart from its files
abbrev pub after_store : ShelfState → Bool → ShelfState
after_store s failed = record s { calls = next_call s.calls; store_faults = if failed then count_up s.store_faults else s.store_faults }
