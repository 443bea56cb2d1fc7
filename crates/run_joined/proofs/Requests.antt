-- A request of bytes that the driver accepts is one that the machine of tickets takes.
use Rattle.std.proofs.Common.{arith, ◌≡◌, ℕ, zero, suc, ◌+◌, ◌*◌, ◌%◌, ◌<◌, ◌≤◌, ◌==◌, ◌&&◌, ◌||◌, not, nat_lt, nat_le, Bool, true, false, cond, List, [], ◌∷◌, length, get_or, refl, sym, ap, subst, ◌∙◌, lit<, Option, Some, None}
use Rattle.std.specs.Prelude.{find, sum, option_map, if◌then◌else◌}
use Rattle.std.proofs.lemmas.Bool.Decides.{nat_tests}
use Rattle.scsi_words.specs.declared.phases.kinds.Direction.{Direction}
use Rattle.scsi_words.specs.declared.phases.kinds.Direction.TheVariants as direction
use Rattle.bench_words.specs.Bytes.{IsBytes}
use Rattle.cdb_codec.specs.Blocks.{byte, no_control, no_flag, no_page, address_6, blocks_6, address_10, blocks_10, sound, cdb_of}
use Rattle.cdb_codec.specs.Forms.{FitsForm, FitsTransfer, need_of}
use Rattle.cdb_codec.specs.declared.commands.Cdb.{Cdb}
use Rattle.cdb_codec.specs.declared.commands.Cdb.TheVariants.{TestUnitReady, RequestSense, Read, Write, Inquiry, ReadCapacity, Other}
use Rattle.rig_types.specs.declared.rig.Unit.{Unit as RigUnit}
use Rattle.unit_law.specs.Request.{RequestData, command}
use Rattle.desk_law.specs.declared.refused.Kind.{Kind}
use Rattle.desk_law.specs.declared.refused.Kind.TheVariants.{NoUnit}
use Rattle.desk_law.specs.Refusals.{has_no_data, is_same_direction, need, faults, kind_of}
use Rattle.ticket_fate.specs.Tickets.{IsAccepted}

-- ---- a descriptor block of bytes says a command whose numbers fit its form
sound-fits : (f : Bool) (c : Cdb) → FitsForm c → FitsForm (sound f c)
sound-fits true c h = h
sound-fits false c h = tt

one-of : (b : Bool) (c d : Cdb) → FitsForm c → FitsForm d → FitsForm (if b then c else d)
one-of true c d h k = h
one-of false c d h k = k

some-blocks : (n : ℕ) (b : Bool) → (n == 0) ≡ b → n < 256 → (1 ≤ (if b then 256 else n)) × ((if b then 256 else n) ≤ 256)
some-blocks n true e l = (omega arith, omega arith)
some-blocks zero false e l = absurd cc
some-blocks (suc n) false e l = (omega arith, omega (arith, l))

module _ (b : List ℕ) (h : IsBytes b) where
  short : FitsTransfer true (address_6 b) (blocks_6 b)
  short =
      let k = some-blocks (byte b 4) (byte b 4 == 0) refl (h.below 4) in
      (omega (arith, h.below 2, h.below 3), k.0, k.1)

  long : FitsTransfer false (address_10 b) (blocks_10 b)
  long = (omega (arith, h.below 2, h.below 3, h.below 4, h.below 5), omega (arith, h.below 7, h.below 8))

  pub fits-form : FitsForm (cdb_of b)
  fits-form =
      one-of (byte b 0 == 0x00) _ _ (sound-fits (no_control b) TestUnitReady tt)
      (one-of (byte b 0 == 0x03) _ _ (sound-fits (no_control b) (RequestSense (byte b 4)) (h.below 4))
      (one-of (byte b 0 == 0x08) _ _ (sound-fits (no_control b) (Read (address_6 b) (blocks_6 b) true) short)
      (one-of (byte b 0 == 0x0A) _ _ (sound-fits (no_control b) (Write (address_6 b) (blocks_6 b) true) short)
      (one-of (byte b 0 == 0x12) _ _ (sound-fits (no_control b && no_flag b && no_page b) (Inquiry (byte b 4)) (h.below 4))
      (one-of (byte b 0 == 0x25) _ _ (sound-fits (no_control b && no_flag b) ReadCapacity tt)
      (one-of (byte b 0 == 0x28) _ _ (sound-fits (no_control b && no_flag b) (Read (address_10 b) (blocks_10 b) false) long)
      (one-of (byte b 0 == 0x2A) _ _ (sound-fits (no_control b && no_flag b) (Write (address_10 b) (blocks_10 b) false) long) tt)))))))

-- ---- a request that isn't refused for its kind
by-flag : (b : Bool) (x : Bool × Kind) (o : Option (Bool × Kind)) → cond b (Some x) o ≡ None → (b ≡ false) × (o ≡ None)
by-flag true x o e = absurd cc
by-flag false x o e = (refl, e)

no-kind : (o : Option (Bool × Kind)) → option_map (λ (f : Bool × Kind). f.1) o ≡ None → o ≡ None
no-kind None e = refl
no-kind (Some x) e = absurd cc

none-true : (fs : List (Bool × Kind)) → find (λ (f : Bool × Kind). f.0) fs ≡ None → (i : ℕ) (d : Bool × Kind) → i < length fs → (get_or fs i d).0 ≡ false
none-true [] e i d low = absurd (omega (arith, low))
none-true (x ∷ xs) e zero d low = (by-flag x.0 x (find (λ (f : Bool × Kind). f.0) xs) e).0
none-true (x ∷ xs) e (suc i) d low = none-true xs (by-flag x.0 x (find (λ (f : Bool × Kind). f.0) xs) e).1 i d (omega (arith, low))

same-way : (a c : Direction) → is_same_direction a c ≡ true → a ≡ c
same-way direction.In direction.In e = refl
same-way direction.Out direction.Out e = refl
same-way direction.None direction.None e = refl
same-way direction.In direction.Out e = absurd cc
same-way direction.In direction.None e = absurd cc
same-way direction.Out direction.In e = absurd cc
same-way direction.Out direction.None e = absurd cc
same-way direction.None direction.In e = absurd cc
same-way direction.None direction.Out e = absurd cc

goes-so : (some same other : Bool) → (some && not same) || other ≡ false → some ≡ true → same ≡ true
goes-so true true other h e = refl
goes-so true false other h e = absurd cc
goes-so false same other h e = absurd cc

is-some : (n : ℕ) → 0 < n → nat_lt 0 n ≡ true
is-some n l = grind (arith, nat_tests)

pub accepted : (units : List RigUnit) (r : RequestData) → kind_of units r ≡ None → IsBytes r.cdb → length r.bytes ≡ sum r.segments → IsAccepted r
accepted units r e bytes whole =
    let none = no-kind (find (λ (f : Bool × Kind). f.0) (faults units r)) e in
    let d : Bool × Kind = (false, NoUnit) in
    let few : nat_lt 65536 (sum r.segments) ≡ false = none-true (faults units r) none 5 d (lit< tt) in
    let way = none-true (faults units r) none 6 d (lit< tt) in
    let enough : nat_lt (sum r.segments) (need r).bytes ≡ false = none-true (faults units r) none 7 d (lit< tt) in
    record {
      form = fits-form r.cdb bytes;
      way = λ l. same-way (need r).direction r.direction (goes-so (nat_lt 0 (need r).bytes) (is_same_direction (need r).direction r.direction) (has_no_data r.direction && nat_lt 0 (length r.segments)) way (is-some (need r).bytes l));
      enough = grind (arith, nat_tests, enough, whole);
      small = grind (arith, nat_tests, few, whole);
    }

pub in-rig : (units : List RigUnit) (r : RequestData) → kind_of units r ≡ None → r.unit < length units
in-rig units r e =
    let none = no-kind (find (λ (f : Bool × Kind). f.0) (faults units r)) e in
    let a : nat_le (length units) r.unit ≡ false = none-true (faults units r) none 0 (false, NoUnit) (lit< tt) in
    grind (arith, nat_tests, a)
