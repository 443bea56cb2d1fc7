-- When an answer comes. Where the shelf tells its files, the causes of the answers exclude each other: so an answer that
-- isn't blamed on a count of faults or on want of memory comes exactly where its cause holds.
use Rattle.std.specs.Prelude.{◌≡◌, ◌≢◌, ◌⊎◌, ℕ, Option, Some, Result, Ok, Err}
use Rattle.sym_io.specs.ByName.{FilesByName}
use Rattle.sym_io.specs.Causes.{Rose}
use Rattle.refusal_lines.specs.declared.exit.Exit.{Exit}
use Rattle.refusal_lines.specs.declared.exit.Exit.TheVariants as exits
use Rattle.refusal_lines.specs.declared.refusal.Refusal.{Refusal}
use Rattle.refusal_lines.specs.declared.refusal.Refusal.TheVariants as refusals
use Rattle.sym_top.specs.CommandLine.{Command}
use Rattle.sym_top.specs.Jobs.{Yields, EndsAs, IsFirstLong, IsTold, HasSteps}

-- but for want of memory there is no value where there is a refusal, and one refusal at most
pub record OneEnd {A : Type 0} (Given : Result A Refusal → Type 0) : Type 0 where
  pub either : (x : A) (r : Refusal) → Given (Ok x) → Given (Err r) → r ≡ refusals.OutOfMemory
  pub refusal : (q r : Refusal) → Given (Err q) → Given (Err r) → q ≢ refusals.OutOfMemory → r ≢ refusals.OutOfMemory → q ≡ r

abbrev pub OneCause : Type 0
OneCause = (c : Command) (held : FilesByName) → OneEnd (Yields c (Some held))

-- the count didn't rise, and doesn't stand at its end
abbrev pub NoRise : ℕ → ℕ → Type 0
NoRise before now = Rose before now → ⊥

-- the status is this one, or want of memory
abbrev pub IsOnly : Exit → Exit → Type 0
IsOnly exit wanted = (exit ≡ wanted) ⊎ (exit ≡ exits.OutOfMemory)

-- The status comes only where the command's files, or its run, are refused so. Where they are, the shelf tells the files and
-- no load failed, it comes, or want of memory.
pub record EndsExactly (c : Command) (files : Option FilesByName) (loads loads' : ℕ) (exit wanted : Exit) : Type 0 where
  pub only : exit ≡ wanted → EndsAs c files wanted
  pub always : EndsAs c files wanted → IsTold c files → NoRise loads loads' → IsOnly exit wanted

-- Where the first file that a command loads is too long, the shelf tells it and no load failed, the status is `TooLong`.
abbrev pub FirstIsLong : Command → Option FilesByName → (loads loads' : ℕ) → Exit → Type 0
FirstIsLong c files loads loads' exit = IsFirstLong c files → IsTold c files → NoRise loads loads' → exit ≡ exits.TooLong

-- a command of valid files has ended: with `Ok`, or where it has a list of steps with its limit, or for want of memory
abbrev pub IsServed : Command → Exit → Type 0
IsServed c exit = IsOnly exit exits.Ok ⊎ (HasSteps c × (exit ≡ exits.StepLimit))
