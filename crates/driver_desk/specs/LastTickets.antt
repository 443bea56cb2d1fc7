-- The last ticket of each submitter (own).
use Rattle.std.specs.Prelude.{◌≡◌, ◌≢◌, ℕ, ◌<◌, List, length, map, Option, None, MatchOption, slice_index_or}
use Rattle.desk_law.specs.declared.ticket.Ticket.{Ticket}
use Rattle.desk_law.specs.Desk.{DeskState, ticket}

-- None where no ticket is the submitter's, else the greatest that is
abbrev pub IsLastOf : DeskState → (submitter : ℕ) → Option ℕ → Type 0
IsLastOf d s o =
    MatchOption o ((i : ℕ) → i < length d.tickets → (ticket d i).line.submitter ≢ s)
    (λ t. (t < length d.tickets) × ((ticket d t).line.submitter ≡ s) × ((i : ℕ) → t < i → i < length d.tickets → (ticket d i).line.submitter ≢ s))

-- ---- as the desk keeps it: a place for each submitter, over the submitters of the tickets in their order

abbrev pub submitter_of : Ticket → ℕ
submitter_of k = k.line.submitter

abbrev pub IsLastAmong : List ℕ → (submitter : ℕ) → Option ℕ → Type 0
IsLastAmong ss s o =
    MatchOption o ((i : ℕ) → i < length ss → slice_index_or ss i 0 ≢ s)
    (λ t. (t < length ss) × (slice_index_or ss t 0 ≡ s) × ((i : ℕ) → t < i → i < length ss → slice_index_or ss i 0 ≢ s))

pub record AreLast (submitters : ℕ) (lasts : List (Option ℕ)) (xs : List Ticket) : Type 0 where
  pub count : length lasts ≡ submitters
  pub last : (s : ℕ) → s < submitters → IsLastAmong (map submitter_of xs) s (slice_index_or lasts s None)
