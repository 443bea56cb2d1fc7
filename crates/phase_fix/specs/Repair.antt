-- What the repair of a broken-off data move writes (own).
use Rattle.std.specs.Prelude.{◌≡◌, ◌≢◌, ℕ, ◌+◌, ◌-◌, ◌<◌, ◌≤◌, ◌^◌, ◌||◌, nat_eq, if◌then◌else◌, List, IsSome}
use Rattle.std.specs.Option.{ForSome}
use Rattle.bench_words.specs.Memory.{word_at, put_word}
use Rattle.bench_words.specs.Views.{Apart, Outside, Wrote}
use Rattle.host_map.specs.Places.{IsBlockPlace}
use Rattle.cmd_block.specs.Block.{offset, field_of}
use Rattle.cmd_block.specs.declared.Field.TheVariants.{Lastp, Savep, CtxCount, CtxAt, CtxReturn}
use Rattle.driver_script.specs.Script.{label_of}
use Rattle.driver_script.specs.declared.labels.Name.TheVariants as label
use Rattle.phase_fix.specs.declared.moves.Entry.{Entry}
use Rattle.phase_fix.specs.declared.moves.Entry.TheVariants.{Segment, Context}
use Rattle.phase_fix.specs.declared.moves.DataMove.{DataMove}
use Rattle.phase_fix.specs.Moves.{context_label, move_at}
use Rattle.phase_fix.specs.Remain.{count_of, address_of, field, ReturnsToSegments}

-- A move that stopped with so many bytes left can be repaired: its entry has no fewer bytes and ends below 2^32, and
-- no context returns to a context.
pub record IsRepairable (w : ℕ → ℕ) (block left : ℕ) (e : Entry) : Type 0 where
  pub count : left ≤ count_of w block e
  pub ends : address_of w block e + count_of w block e < 2 ^ 32
  pub returns : ReturnsToSegments w block

-- The chip stopped, with so many bytes left, where there is something to repair: DSA is a block place, and the
-- instruction before DSP is a data move that can be repaired.
pub record IsFixable (w : ℕ → ℕ) (block dsp left : ℕ) : Type 0 where
  pub place : IsBlockPlace block
  pub behind : 8 ≤ dsp
  pub moved : IsSome (move_at (dsp - 8))
  pub entry : ForSome (move_at (dsp - 8)) (λ x. IsRepairable w block left x.entry)

-- the context to write: the one that the saved data pointer doesn't name, and 0 where it names none
abbrev pub free_context : ℕ → ℕ
free_context savep = if nat_eq savep (label_of label.Pmin0) || nat_eq savep (label_of label.Pmout0) then 1 else 0

-- where the data go on behind the entry of the stopped move: DSP, or the context's own return
abbrev pub return_of : (ℕ → ℕ) → ℕ → ℕ → Entry → ℕ
return_of w block dsp (Segment j) = dsp
return_of w block dsp (Context k) = field w block (CtxReturn k)

-- memory with a context of a block written
abbrev pub with_context : List ℕ → ℕ → ℕ → ℕ → ℕ → ℕ → List ℕ
with_context m block k count address return =
    put_word (put_word (put_word m (block + offset (CtxCount k)) count) (block + offset (CtxAt k)) address) (block + offset (CtxReturn k)) return

-- memory with context k holding the rest of the move, and LASTP its move
abbrev pub with_rest : List ℕ → ℕ → ℕ → ℕ → DataMove → ℕ → List ℕ
with_rest m block dsp left x k =
    put_word
    (with_context m block k left (address_of (word_at m) block x.entry + (count_of (word_at m) block x.entry - left)) (return_of (word_at m) block dsp x.entry))
    (block + offset Lastp) (context_label x.phase k)

-- memory after the repair of move x: a move that moved nothing is named again, any other becomes a context
abbrev pub repaired : List ℕ → ℕ → ℕ → ℕ → DataMove → List ℕ
repaired m block dsp left x =
    if nat_eq left (count_of (word_at m) block x.entry)
    then put_word m (block + offset Lastp) (dsp - 8)
    else with_rest m block dsp left x (free_context (field_of m block Savep))

-- The same by words. Context k holds the rest of move x, LASTP names the context's move, and every word apart from
-- these four is as before.
pub record HasRest (old new : ℕ → ℕ) (block dsp left : ℕ) (x : DataMove) (k : ℕ) : Type 0 where
  pub count : field new block (CtxCount k) ≡ left
  pub address : field new block (CtxAt k) ≡ address_of old block x.entry + (count_of old block x.entry - left)
  pub return : field new block (CtxReturn k) ≡ return_of old block dsp x.entry
  pub last : field new block Lastp ≡ context_label x.phase k
  pub other : (a : ℕ) → Apart (block + offset Lastp) a → Outside a (block + offset (CtxCount k)) (block + offset (CtxReturn k) + 4) → new a ≡ old a

-- a move that moved nothing is named again and no other word is written; any other becomes the free context
pub record IsRepaired (old new : ℕ → ℕ) (block dsp left : ℕ) (x : DataMove) : Type 0 where
  pub again : left ≡ count_of old block x.entry → Wrote old new (block + offset Lastp) (dsp - 8)
  pub rest : left ≢ count_of old block x.entry → HasRest old new block dsp left x (free_context (field old block Savep))
