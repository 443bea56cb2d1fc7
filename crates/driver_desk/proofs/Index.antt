-- The index of live tickets by block and by tag.
use Rattle.std.proofs.Common.{arith, ◌≡◌, ℕ, zero, suc, map, [], ◌∷◌, ◌+◌, ◌-◌, ◌*◌, ◌/◌, ◌==◌, ◌<◌, ◌≤◌, Bool, true, false, ◌&&◌, nat_lt, cond, List, length, Option, Some, None, refl, sym, ap, subst, ◌∙◌, get_or, set}
use Rattle.std.proofs.lemmas.Bool.Decides.{nat_tests}
use Rattle.std.specs.Prelude.{All, position, IsTrue, ◌↔◌}
use Rattle.std.specs.List.{position_or_len}
use Rattle.std.proofs.lemmas.List.{length-set, get_or_default}
use Rattle.std.proofs.lemmas.List.Elements.{All-set}
use Rattle.std.proofs.lemmas.List.Folds.{position_or_len-set}
use Rattle.std.proofs.lemmas.List.Quantifiers.{position-Some}
use Rattle.host_map.specs.Places.{IsCommandBlock, block_at}
use Rattle.desk_law.specs.declared.ticket.Ticket.{Ticket}
use Rattle.desk_law.specs.Desk.{DeskState, no_ticket, ticket, lives, has_tag, has_block}
use Rattle.rig_types.specs.declared.step.Line.{Line}
use Rattle.desk_law.specs.declared.ticket.Piece.{Piece}
use Rattle.driver_desk.specs.Kept.{most_tries, IsTicket, IsIndex, IsDesk}
use Rattle.driver_desk.specs.Held.{core, IsHeld, IsKept}
use Rattle.driver_desk.specs.declared.reporting.Room.{Room}
use Rattle.rig_types.specs.declared.rig.Unit.{Unit as RigUnit}
use Rattle.dma_buddy.specs.Regions.{Space}
use Rattle.desk_law.specs.declared.stage.Stage.TheVariants.{Built, Freed}
use Rattle.host_map.specs.declared.TheConstants.{START_RING}
use Rattle.job_rings.specs.Rings.{IsSlot, next_slot}
use Rattle.desk_law.specs.Taking.{taken_by}
use Rattle.driver_desk.proofs.Stages.{tries_at_most}

-- ---- a ticket that keeps its unit, tag and block, and lives on

pub record StaysAt (k old : Ticket) : Type 0 where
  pub line : k.line ≡ old.line
  pub pieces : k.pieces ≡ old.pieces
  pub unit : k.unit ≡ old.unit
  pub tag : k.tag ≡ old.tag
  pub block : k.block ≡ old.block
  pub lives : lives k ≡ lives old

position-set : (p : Ticket → Bool) (xs : List Ticket) (t : ℕ) (k d : Ticket) → p k ≡ p (get_or xs t d) → position p (set xs t k) ≡ position p xs
position-set p xs t k d e =
    let same = position_or_len-set p xs t k d e in
    let long = length-set xs t k in
    ap (λ (n : ℕ). cond (nat_lt n (length (set xs t k))) (Some n) None) same
    ∙ ap (λ (l : ℕ). cond (nat_lt (position_or_len p xs) l) (Some (position_or_len p xs)) None) long

same-block : (b : ℕ) (k old : Ticket) → StaysAt k old → has_block b k ≡ has_block b old
same-block b k old s = ap (λ (l : Bool). l && (k.block == b)) s.lives ∙ ap (λ (x : ℕ). lives old && (x == b)) s.block

same-tag : (u g : ℕ) (k old : Ticket) → StaysAt k old → has_tag u g k ≡ has_tag u g old
same-tag u g k old s =
    ap (λ (l : Bool). (l && (k.unit == u)) && (k.tag == g)) s.lives ∙ ap (λ (x : ℕ). (lives old && (x == u)) && (k.tag == g)) s.unit
    ∙ ap (λ (x : ℕ). (lives old && (old.unit == u)) && (x == g)) s.tag

pub index_stays : (by_block by_tag : List (Option ℕ)) (xs : List Ticket) (t : ℕ) (k d : Ticket) → IsIndex by_block by_tag xs → StaysAt k (get_or xs t d)
    → IsIndex by_block by_tag (set xs t k)
index_stays by_block by_tag xs t k d h s = record {
  blocks = h.blocks;
  tags = h.tags;
  block = λ b below. h.block b below ∙ sym (position-set (has_block (block_at b)) xs t k d (same-block (block_at b) k (get_or xs t d) s));
  tag = λ u g few byte. h.tag u g few byte ∙ sym (position-set (has_tag u g) xs t k d (same-tag u g k (get_or xs t d) s));
}

abbrev made : Bool → (unit tag block : ℕ) → List Piece → Ticket
made live unit tag block pieces = record no_ticket { unit = unit; tag = tag; block = block; pieces = pieces; stage = cond live Built Freed }

ticket-stays : (units submitters retries : ℕ) (k old : Ticket) → IsTicket units submitters retries old → StaysAt k old → k.tries ≤ most_tries retries k.stage
    → IsTicket units submitters retries k
ticket-stays units submitters retries k old is s tries = record {
  line = subst (λ (x : Line). x.submitter < submitters) (sym s.line) is.line;
  unit = subst (λ (x : ℕ). x < units) (sym s.unit) is.unit;
  block = subst (λ (x : ℕ). IsCommandBlock x) (sym s.block) is.block;
  pieces = subst (λ (x : List Piece). length x ≤ 16) (sym s.pieces) is.pieces;
  tries = tries;
}

core-same : (k old : Ticket) → StaysAt k old → core k ≡ core old
core-same k old s =
    ap (λ (l : Bool). made l k.unit k.tag k.block k.pieces) s.lives ∙ ap (λ (x : ℕ). made (lives old) x k.tag k.block k.pieces) s.unit
    ∙ ap (λ (x : ℕ). made (lives old) old.unit x k.block k.pieces) s.tag ∙ ap (λ (x : ℕ). made (lives old) old.unit old.tag x k.pieces) s.block
    ∙ ap (λ (ps : List Piece). made (lives old) old.unit old.tag old.block ps) s.pieces

cores-same : (xs : List Ticket) (t : ℕ) (k d : Ticket) → core k ≡ core (get_or xs t d) → map core (set xs t k) ≡ map core xs
cores-same [] zero k d e = refl
cores-same [] (suc t) k d e = refl
cores-same (x ∷ xs) zero k d e = ap (λ (c : Ticket). c ∷ map core xs) e
cores-same (x ∷ xs) (suc t) k d e = ap (λ (cs : List Ticket). core x ∷ cs) (cores-same xs t k d e)

pub kept_stays : (version : ℕ) (us : List RigUnit) (retries : ℕ) (by_block by_tag : List (Option ℕ)) (rooms : List (Option Room)) (counts : List ℕ) (space : Space) (xs : List Ticket) (t : ℕ) (k d : Ticket)
    → IsKept version us retries by_block by_tag rooms counts space xs → StaysAt k (get_or xs t d) → IsKept version us retries by_block by_tag rooms counts space (set xs t k)
kept_stays version us retries by_block by_tag rooms counts space xs t k d h s =
    subst (λ (ys : List Ticket). IsHeld version us retries by_block by_tag rooms counts space ys) (sym (cores-same xs t k d (core-same k (get_or xs t d) s))) h

-- the desk stays one
pub stays : (units submitters retries put take callers : ℕ) (by_block by_tag : List (Option ℕ)) (version : ℕ) (us : List RigUnit) (rooms : List (Option Room)) (counts : List ℕ) (space : Space)
    (xs : List Ticket) (t : ℕ) (k d : Ticket)
    → IsDesk units submitters retries put take callers xs × IsIndex by_block by_tag xs × IsKept version us retries by_block by_tag rooms counts space xs → t < length xs → StaysAt k (get_or xs t d)
    → k.tries ≤ most_tries retries k.stage
    → IsDesk units submitters retries put take callers (set xs t k) × IsIndex by_block by_tag (set xs t k) × IsKept version us retries by_block by_tag rooms counts space (set xs t k)
stays units submitters retries put take callers by_block by_tag version us rooms counts space xs t k d h there s tries = (
  record {
    few_units = h.0.few_units;
    few_retries = h.0.few_retries;
    put_slot = h.0.put_slot;
    take_slot = h.0.take_slot;
    all_callers = h.0.all_callers;
    few_tickets = subst (λ (n : ℕ). n < 4294967296) (sym (length-set xs t k)) h.0.few_tickets;
    each_ticket = All-set (IsTicket units submitters retries) xs t k
        (ticket-stays units submitters retries k (get_or xs t d) (h.0.each_ticket t d there) s tries) h.0.each_ticket;
  },
  index_stays by_block by_tag xs t k d h.1 s,
  kept_stays version us retries by_block by_tag rooms counts space xs t k d h.2 s,
)

-- a ticket was queued at most so often, whatever its stage
pub tries_of : (units submitters retries : ℕ) (xs : List Ticket) (t : ℕ) (d : Ticket) → All (IsTicket units submitters retries) xs → t < length xs
    → (get_or xs t d).tries ≤ retries + 1
tries_of units submitters retries xs t d all there =
    let tries = (all t d there).tries in let most = tries_at_most retries (get_or xs t d).stage in omega (arith, tries, most)

-- ---- look-up

pub tag_found : (by_block by_tag : List (Option ℕ)) (xs : List Ticket) (u g : ℕ) → IsIndex by_block by_tag xs → u < 16 → g < 256
    → get_or by_tag (256 * u + g) None ≡ position (has_tag u g) xs
tag_found by_block by_tag xs u g h few byte = h.tag u g few byte

block-number : (a : ℕ) → IsCommandBlock a → a ≡ block_at ((a - 0x10000) / 0x200)
block-number a is = omega (arith, is.from, is.aligned)

pub block_found : (by_block by_tag : List (Option ℕ)) (xs : List Ticket) (a : ℕ) → IsIndex by_block by_tag xs → IsCommandBlock a
    → get_or by_block ((a - 0x10000) / 0x200) None ≡ position (has_block a) xs
block_found by_block by_tag xs a h is =
    h.block ((a - 0x10000) / 0x200) (omega (arith, is.below)) ∙ ap (λ (x : ℕ). position (has_block x) xs) (sym (block-number a is))

nothing : (p : Ticket → Bool) (xs : List Ticket) (o : Option ℕ) → o ≡ position p xs → ((i : ℕ) → i < length xs → p (get_or xs i no_ticket) ≡ true → ⊥) → o ≡ None
nothing p xs None e never = refl
nothing p xs (Some i) e never =
    let there = position-Some p xs i no_ticket (sym e) in absurd (never i there.0 there.1)

has-block : (a : ℕ) (k : Ticket) → has_block a k ≡ true → k.block ≡ a
has-block a k h = grind (arith, nat_tests, h)

has-unit : (u g : ℕ) (k : Ticket) → has_tag u g k ≡ true → k.unit ≡ u
has-unit u g k h = grind (arith, nat_tests, h)

pub no_such_block : (units submitters retries a : ℕ) (xs : List Ticket) → All (IsTicket units submitters retries) xs → (IsCommandBlock a → ⊥)
    → position (has_block a) xs ≡ None
no_such_block units submitters retries a xs all never =
    nothing (has_block a) xs _ refl (λ i there found.
    never (subst (λ (x : ℕ). IsCommandBlock x) (has-block a (get_or xs i no_ticket) found) (all i no_ticket there).block))

pub no_such_unit : (units submitters retries u g : ℕ) (xs : List Ticket) → All (IsTicket units submitters retries) xs → units ≤ u
    → position (has_tag u g) xs ≡ None
no_such_unit units submitters retries u g xs all past =
    nothing (has_tag u g) xs _ refl (λ i there found.
    let same = has-unit u g (get_or xs i no_ticket) found in let below = (all i no_ticket there).unit in omega (arith, same, below, past))

-- the live ticket with a block was built
pub found_there : (a t : ℕ) (xs : List Ticket) → position (has_block a) xs ≡ Some t → t < length xs
found_there a t xs found = (position-Some (has_block a) xs t no_ticket found).0

is-live : (a : ℕ) (k : Ticket) → has_block a k ≡ true → lives k ≡ true
is-live a k h = grind (arith, nat_tests, h)

pub found_lives : (a t : ℕ) (xs : List Ticket) → position (has_block a) xs ≡ Some t → lives (get_or xs t no_ticket) ≡ true
found_lives a t xs found = is-live a (get_or xs t no_ticket) (position-Some (has_block a) xs t no_ticket found).1

pub not_so : (b : Bool) (P : Type 0) → IsTrue b ↔ P → b ≡ false → P → ⊥
not_so true P iff e p = absurd cc
not_so false P iff e p = let h : IsTrue false = iff.1 p in absurd cc

-- ---- a ticket that is taken

pub taken_keeps : (sensing again check : Bool) (m : List ℕ) (old : Ticket) → lives old ≡ true → StaysAt (taken_by sensing again check m old) old
taken_keeps true again check m old live = record { line = refl; pieces = refl; unit = refl; tag = refl; block = refl; lives = sym live }
taken_keeps false true check m old live = record { line = refl; pieces = refl; unit = refl; tag = refl; block = refl; lives = sym live }
taken_keeps false false true m old live = record { line = refl; pieces = refl; unit = refl; tag = refl; block = refl; lives = sym live }
taken_keeps false false false m old live = record { line = refl; pieces = refl; unit = refl; tag = refl; block = refl; lives = sym live }

taken-tries : (retries : ℕ) (sensing again check : Bool) (m : List ℕ) (old : Ticket) → old.tries ≤ retries + 1 → (again ≡ true → old.tries ≤ retries)
    → (taken_by sensing again check m old).tries ≤ most_tries retries (taken_by sensing again check m old).stage
taken-tries retries true again check m old most left = most
taken-tries retries false true check m old most left = left refl
taken-tries retries false false true m old most left = most
taken-tries retries false false false m old most left = most

-- the desk stays one where the ticket becomes this one
pub live_stays : (units submitters retries put take callers : ℕ) (by_block by_tag : List (Option ℕ)) (version : ℕ) (us : List RigUnit) (rooms : List (Option Room)) (counts : List ℕ) (space : Space)
    (xs : List Ticket) (t : ℕ) (k old : Ticket)
    → IsDesk units submitters retries put take callers xs × IsIndex by_block by_tag xs × IsKept version us retries by_block by_tag rooms counts space xs → t < length xs → old ≡ get_or xs t old → StaysAt k old
    → (old.tries ≤ retries + 1 → k.tries ≤ most_tries retries k.stage)
    → IsDesk units submitters retries put take callers (set xs t k) × IsIndex by_block by_tag (set xs t k) × IsKept version us retries by_block by_tag rooms counts space (set xs t k)
live_stays units submitters retries put take callers by_block by_tag version us rooms counts space xs t k old h there e s tries =
    let most : (get_or xs t old).tries ≤ retries + 1 = tries_of units submitters retries xs t old h.0.each_ticket there in
    stays units submitters retries put take callers by_block by_tag version us rooms counts space xs t k old h there (subst (λ (x : Ticket). StaysAt k x) e s)
    (tries (subst (λ (x : Ticket). x.tries ≤ retries + 1) (sym e) most))

-- the same where the stage that the ticket had bounds its tries
pub stays_by : (units submitters retries put take callers : ℕ) (by_block by_tag : List (Option ℕ)) (version : ℕ) (us : List RigUnit) (rooms : List (Option Room)) (counts : List ℕ) (space : Space)
    (xs : List Ticket) (t : ℕ) (k old : Ticket)
    → IsDesk units submitters retries put take callers xs × IsIndex by_block by_tag xs × IsKept version us retries by_block by_tag rooms counts space xs → t < length xs → old ≡ get_or xs t old → StaysAt k old
    → (old.tries ≤ most_tries retries old.stage → k.tries ≤ most_tries retries k.stage)
    → IsDesk units submitters retries put take callers (set xs t k) × IsIndex by_block by_tag (set xs t k) × IsKept version us retries by_block by_tag rooms counts space (set xs t k)
stays_by units submitters retries put take callers by_block by_tag version us rooms counts space xs t k old h there e s tries =
    let most : (get_or xs t old).tries ≤ most_tries retries (get_or xs t old).stage = (h.0.each_ticket t old there).tries in
    stays units submitters retries put take callers by_block by_tag version us rooms counts space xs t k old h there (subst (λ (x : Ticket). StaysAt k x) e s)
    (tries (subst (λ (x : Ticket). x.tries ≤ most_tries retries x.stage) (sym e) most))

-- the driver's next slot is one of the ring
pub next_is_slot : (slot next : ℕ) → IsSlot START_RING slot → next ≡ next_slot START_RING slot → IsSlot START_RING next
next_is_slot slot next h e = subst (λ (n : ℕ). IsSlot START_RING n) (sym e) (record { from = omega arith; below = omega arith; aligned = omega (arith, h.from, h.aligned) })

pub taken_stays : (units submitters retries put take callers : ℕ) (by_block by_tag : List (Option ℕ)) (version : ℕ) (us : List RigUnit) (rooms : List (Option Room)) (counts : List ℕ) (space : Space)
    (xs : List Ticket) (t : ℕ) (k old : Ticket) (sensing again check : Bool) (m : List ℕ)
    → IsDesk units submitters retries put take callers xs × IsIndex by_block by_tag xs × IsKept version us retries by_block by_tag rooms counts space xs → t < length xs → old ≡ get_or xs t old → lives old ≡ true
    → (again ≡ true → old.tries ≤ retries) → k ≡ taken_by sensing again check m old
    → IsDesk units submitters retries put take callers (set xs t k) × IsIndex by_block by_tag (set xs t k) × IsKept version us retries by_block by_tag rooms counts space (set xs t k)
taken_stays units submitters retries put take callers by_block by_tag version us rooms counts space xs t k old sensing again check m h there e live left same =
    let new = taken_by sensing again check m old in
    subst (λ (x : Ticket). IsDesk units submitters retries put take callers (set xs t x) × IsIndex by_block by_tag (set xs t x) × IsKept version us retries by_block by_tag rooms counts space (set xs t x)) (sym same)
    (live_stays units submitters retries put take callers by_block by_tag version us rooms counts space xs t new old h there e (taken_keeps sensing again check m old live)
    (λ most. taken-tries retries sensing again check m old most left))

-- ---- the ticket that a call sees

pub seen : (d : DeskState) (xs : List Ticket) (t : ℕ) (old : Ticket) → xs ≡ d.tickets → t < length xs → old ≡ get_or xs t old → ticket d t ≡ old
seen d xs t old e below at = ap (λ (ys : List Ticket). get_or ys t no_ticket) (sym e) ∙ get_or_default xs t no_ticket old below ∙ sym at
