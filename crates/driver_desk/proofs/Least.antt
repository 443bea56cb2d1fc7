-- The least free block, and the least free tag of a unit: there is one where the unit isn't full.
use Rattle.std.proofs.Common.{arith, ◌≡◌, ℕ, ◌+◌, ◌*◌, ◌/◌, ◌%◌, ◌<◌, ◌≤◌, ◌==◌, Bool, true, false, cond, nat_le, List, map, length, Option, None, sym, ap, subst, ◌∙◌, get_or}
use Rattle.std.specs.Prelude.{All, position, filter, count_by, IsSome, unwrap_or}
use Rattle.std.specs.List.{list_any, range_with_len}
use Rattle.std.proofs.lemmas.List.{length-map, map-id}
use Rattle.rig_types.specs.declared.rig.Unit.{Unit as RigUnit}
use Rattle.rig_types.specs.Ranges.{most_depth}
use Rattle.host_map.specs.Places.{block_at}
use Rattle.dma_buddy.specs.Regions.{Space}
use Rattle.desk_law.specs.declared.ticket.Ticket.{Ticket}
use Rattle.desk_law.specs.Desk.{no_ticket, no_unit, lives, is_of_unit, has_tag, has_block}
use Rattle.desk_law.specs.Building.{first_free, tags}
use Rattle.driver_desk.specs.declared.reporting.Room.{Room}
use Rattle.driver_desk.specs.Kept.{IsTicket, IsIndex, IsDesk}
use Rattle.driver_desk.specs.Held.{core, at, IsKept}
use Rattle.place_table.specs.Places.{IsLeastFree}
use Rattle.driver_desk.specs.Conditions.{step_of}
use Rattle.driver_desk.proofs.Keys.{at-core}
use Rattle.driver_desk.proofs.Additions.{any-none, any-some, first-free}
use Rattle.driver_desk.proofs.LiveCounts.{IsTaken, by-some, not_full, some_room, all_blocks, all_tags}

taken-by : (p : Ticket → Bool) (xs : List Ticket) (o : Option ℕ) → o ≡ position p xs → IsSome o → list_any p xs ≡ true
taken-by p xs o e h = any-some p xs (unwrap_or o 0) (sym e ∙ by-some o h)

-- ---- what the search finds is the least

from-zero : (bb : List (Option ℕ)) (n : ℕ) → get_or bb (0 + n) None ≡ get_or bb n None
from-zero bb n = let e : 0 + n ≡ n = omega arith in ap (λ (m : ℕ). get_or bb m None) e

pub least_block : (bb bt : List (Option ℕ)) (xs : List Ticket) (n : ℕ) → IsIndex bb bt xs → IsLeastFree bb 0 1 n
    → first_free (λ (block : ℕ). list_any (has_block block) xs) (map block_at (range_with_len 0 256)) ≡ block_at n
least_block bb bt xs n h f =
    first-free (λ (block : ℕ). list_any (has_block block) xs) block_at 256 n f.low
    (any-none (has_block (block_at n)) xs (sym (h.block n f.low) ∙ sym (from-zero bb n) ∙ f.free))
    (λ i less. taken-by (has_block (block_at i)) xs (get_or bb (0 + i) None) (from-zero bb i ∙ h.block i (omega (arith, less, f.low))) (f.least i less (omega arith)))

free-of : (apart u n : ℕ) (bb bt : List (Option ℕ)) (xs : List Ticket) → IsIndex bb bt xs → u < 16 → IsLeastFree bt (256 * u) apart n → position (has_tag u n) xs ≡ None
free-of apart u n bb bt xs h few f = sym (h.tag u n few f.low) ∙ f.free

taken-tag : (apart u n i : ℕ) (bb bt : List (Option ℕ)) (xs : List Ticket) → IsIndex bb bt xs → u < 16 → IsLeastFree bt (256 * u) apart n → i < n → i % apart ≡ 0
    → list_any (has_tag u i) xs ≡ true
taken-tag apart u n i bb bt xs h few f less step =
    taken-by (has_tag u i) xs (get_or bt (256 * u + i) None) (h.tag u i few (omega (arith, less, f.low))) (f.least i less step)

least-of : (b : Bool) (u n : ℕ) (bb bt : List (Option ℕ)) (xs : List Ticket) → IsIndex bb bt xs → u < 16 → IsLeastFree bt (256 * u) (cond b 1 4) n
    → first_free (λ (tag : ℕ). list_any (has_tag u tag) xs) (cond b (range_with_len 0 256) (map (λ (x : ℕ). 4 * x) (range_with_len 0 64))) ≡ n
least-of true u n bb bt xs h few f =
    ap (λ (ns : List ℕ). first_free (λ (tag : ℕ). list_any (has_tag u tag) xs) ns) (sym (map-id (range_with_len 0 256)))
    ∙ first-free (λ (tag : ℕ). list_any (has_tag u tag) xs) (λ (x : ℕ). x) 256 n f.low
    (any-none (has_tag u n) xs (free-of 1 u n bb bt xs h few f))
    (λ i less. taken-tag 1 u n i bb bt xs h few f less (omega arith))
least-of false u n bb bt xs h few f =
    let step : n % 4 ≡ 0 = f.step in
    let is : 4 * (n / 4) ≡ n = omega (arith, step) in
    first-free (λ (tag : ℕ). list_any (has_tag u tag) xs) (λ (x : ℕ). 4 * x) 64 (n / 4) (omega (arith, f.low))
    (any-none (has_tag u (4 * (n / 4))) xs (subst (λ (x : ℕ). position (has_tag u x) xs ≡ None) (sym is) (free-of 4 u n bb bt xs h few f)))
    (λ i less. taken-tag 4 u n (4 * i) bb bt xs h few f (omega (arith, less, is)) (omega arith))
    ∙ is

pub least_tag : (version u n : ℕ) (bb bt : List (Option ℕ)) (xs : List Ticket) → IsIndex bb bt xs → u < 16 → IsLeastFree bt (256 * u) (step_of version) n
    → first_free (λ (tag : ℕ). list_any (has_tag u tag) xs) (tags version) ≡ n
least_tag version u n bb bt xs h few f = least-of (version == 2) u n bb bt xs h few f

-- ---- there is one

most-by : (b : Bool) → cond b 256 64 ≤ 256
most-by true = omega arith
most-by false = omega arith

most-most : (version : ℕ) → most_depth version ≤ 256
most-most version = most-by (version == 2)

unit-below : (units submitters retries : ℕ) (xs : List Ticket) → All (IsTicket units submitters retries) xs → (i : ℕ) → i < length (map core xs) → lives (at (map core xs) i) ≡ true
    → (at (map core xs) i).unit < units
unit-below units submitters retries xs all i low live =
    let l : i < length xs = omega (arith, low, length-map xs core) in
    subst (λ (k : Ticket). k.unit < units) (sym (at-core xs i l)) (all i no_ticket l).unit

pub some_block : (submitters retries put take callers : ℕ) (bb bt : List (Option ℕ)) (version : ℕ) (us : List RigUnit) (rooms : List (Option Room)) (counts : List ℕ) (space : Space)
    (xs : List Ticket) (u : ℕ)
    → IsDesk (length us) submitters retries put take callers xs × IsIndex bb bt xs × IsKept version us retries bb bt rooms counts space xs → u < length us
    → nat_le (get_or us u no_unit).depth (length (filter (is_of_unit u) xs)) ≡ false → ((n : ℕ) → n < 256 → n % 1 ≡ 0 → IsTaken bb (0 + n)) → 1 ≤ 0
some_block submitters retries put take callers bb bt version us rooms counts space xs u h low some all =
    let few = some_room us counts (map core xs) u h.2.counted low (not_full us xs u some) (unit-below (length us) submitters retries xs h.0.each_ticket) in
    let many = all_blocks bb (map core xs) h.2.blocks (λ n l. subst (λ (o : Option ℕ). IsSome o) (from-zero bb n) (all n l (omega arith))) in
    let most = h.2.rig.all_depths in
    omega (arith, few, many, most)

some-tag : (b : Bool) (u : ℕ) (bt : List (Option ℕ)) (ys : List Ticket)
    → ((n : ℕ) (f : ℕ → ℕ) → ((j : ℕ) → j < n → (f j < 256) × IsTaken bt (256 * u + f j)) → ((i j : ℕ) → i < j → f i < f j) → n ≤ count_by (is_of_unit u) ys)
    → ((n : ℕ) → n < 256 → n % cond b 1 4 ≡ 0 → IsTaken bt (256 * u + n)) → cond b 256 64 ≤ count_by (is_of_unit u) ys
some-tag true u bt ys crowded all = crowded 256 (λ (j : ℕ). j) (λ j low. (low, all j low (omega arith))) (λ i j less. less)
some-tag false u bt ys crowded all =
    crowded 64 (λ (j : ℕ). 4 * j) (λ j low. let l : 4 * j < 256 = omega (arith, low) in (l, all (4 * j) l (omega arith))) (λ i j less. omega (arith, less))

pub some_tag : (submitters retries put take callers : ℕ) (bb bt : List (Option ℕ)) (version : ℕ) (us : List RigUnit) (rooms : List (Option Room)) (counts : List ℕ) (space : Space)
    (xs : List Ticket) (u : ℕ)
    → IsDesk (length us) submitters retries put take callers xs × IsIndex bb bt xs × IsKept version us retries bb bt rooms counts space xs → u < length us
    → nat_le (get_or us u no_unit).depth (length (filter (is_of_unit u) xs)) ≡ false → ((n : ℕ) → n < 256 → n % step_of version ≡ 0 → IsTaken bt (256 * u + n)) → 1 ≤ 0
some_tag submitters retries put take callers bb bt version us rooms counts space xs u h low some all =
    let many : most_depth version ≤ count_by (is_of_unit u) (map core xs) =
    some-tag (version == 2) u bt (map core xs) (λ n f a rising. all_tags bt (map core xs) u n f h.2.tags h.2.bytes a rising) all in
    let few = not_full us xs u some in
    let most : (get_or us u no_unit).depth ≤ most_depth version = (h.2.rig.in_range u no_unit low).in_range.depth in
    omega (arith, few, many, most)

-- how many tickets live of a unit that isn't full
pub few_live : (submitters retries put take callers : ℕ) (bb bt : List (Option ℕ)) (version : ℕ) (us : List RigUnit) (rooms : List (Option Room)) (counts : List ℕ) (space : Space)
    (xs : List Ticket) (u : ℕ)
    → IsDesk (length us) submitters retries put take callers xs × IsIndex bb bt xs × IsKept version us retries bb bt rooms counts space xs → u < length us
    → get_or counts u 0 < 65535
few_live submitters retries put take callers bb bt version us rooms counts space xs u h low =
    let most : (get_or us u no_unit).depth ≤ most_depth version = (h.2.rig.in_range u no_unit low).in_range.depth in
    omega (arith, h.2.counted.count u low, h.2.counted.few u low, most, most-most version)
