-- The words of a row lead back to it.
use Rattle.std.proofs.Common.{◌≡◌, ℕ, ℤ, pos, negsuc, ◌+◌, ◌*◌, ◌/◌, ◌%◌, ◌<◌, ◌≤◌, Bool, true, false, ◌||◌, nat_eq, cond, IsTrue, Option, Some, refl, sym, ap, ◌∙◌, arith, lit<, lit≤}
use Rattle.std.specs.Prelude.{IfSome}
use Rattle.std.proofs.lemmas.Bool.Decides.{nat_tests}
use Rattle.scripts_ops.specs.Table.{row, Spelled, IsOffset, offset_bits, IsCondition, IsAddress, address_top, address_bits, word, flags, condition_code, condition_bits, change_code, register_bits, is_wide, is_written, is_read}
use Rattle.scripts_ops.specs.Guess.{guessed, guessed_move, guessed_register, guessed_transfer, guessed_memory, offset_of, condition_of}
use Rattle.scripts_ops.specs.declared.values.Op.{Op}
use Rattle.scripts_ops.specs.declared.values.Op.TheVariants.{Move, MoveFrom, Select, WaitDisconnect, WaitReselect, Set, Clear, FromSfbr, ToSfbr, Modify, Put, Jump, Call, Return, Int, IntFly, Nop, MoveMemory, Load, Store}
use Rattle.scripts_ops.specs.declared.values.Condition.{Condition}
use Rattle.scripts_ops.specs.declared.values.Condition.TheVariants.{Always, Phase, Byte}
use Rattle.scripts_ops.specs.declared.values.Change.{Change}
use Rattle.scripts_ops.specs.declared.values.Change.TheVariants.{Or, And, Add}
use Rattle.scripts_ops.specs.declared.values.Address.{Address}
use Rattle.scripts_ops.specs.declared.values.Address.TheVariants.{At, FromDsa}

-- ---- parts of words

offset-again : (o : ℤ) → IsOffset o → offset_of (offset_bits o) ≡ o
offset-again (pos n) h = grind (arith, nat_tests)
offset-again (negsuc n) h = grind (arith, nat_tests)

bits_fit : (o : ℤ) → IsOffset o → offset_bits o < 16777216
bits_fit (pos n) h = omega arith
bits_fit (negsuc n) h = omega arith

small_offset : (o : ℤ) → IsOffset o → offset_of (offset_bits o % 16777216) ≡ o
small_offset o h = let b : offset_bits o < 16777216 = bits_fit o h in let e : offset_bits o % 16777216 ≡ offset_bits o = omega arith in rw e (offset-again o h)

register_again : (r d : ℕ) → d < 256 → (register_bits r d / 65536 ≡ r) × (register_bits r d / 256 % 256 ≡ d)
register_again r d h = (omega arith, omega arith)

wide_fits : (r : ℕ) → IsTrue (is_wide r) → r < 128
wide_fits r h = grind (arith, nat_tests)

or_cases : (a b : Bool) → (P : Type 0) → a || b ≡ true → (a ≡ true → P) → (b ≡ true → P) → P
or_cases true b P h f g = f refl
or_cases false b P h f g = g h

written_fits : (r : ℕ) → IsTrue (is_written r) → r < 128
written_fits r h = or_cases (nat_eq r 0x00 || nat_eq r 0x03 || nat_eq r 0x05 || nat_eq r 0x06 || nat_eq r 0x08) (is_wide r) (r < 128) h (λ e. grind (arith, nat_tests)) (λ e. wide_fits r e)

read_fits : (r : ℕ) → IsTrue (is_read r) → r < 128
read_fits r h = or_cases (is_written r || nat_eq r 0x0a) (nat_eq r 0x1a) (r < 128) h
    (λ e. or_cases (is_written r) (nat_eq r 0x0a) (r < 128) e (λ f. written_fits r f) (λ f. grind (arith, nat_tests)))
    (λ e. grind (arith, nat_tests))

register_fits : (r d : ℕ) → r < 128 → d < 256 → register_bits r d < 16777216
register_fits r d h k = omega arith

byte_again : (nb m v : ℕ) (not : Bool) → m < 256 → v < 256 → cond not 0 0x80000 ≡ nb → condition_of 0 (0x40000 + nb + m * 256 + v) ≡ Byte not m v
byte_again nb m v true hm hv e =
    let z : nb ≡ 0 = sym e in
    let low : ℕ = 0x40000 + nb + m * 256 + v in
    let e1 : low / 0x20000 % 2 ≡ 0 = omega arith in
    let e2 : low / 0x40000 % 2 ≡ 1 = omega arith in
    let e3 : low / 0x80000 % 2 ≡ 0 = omega arith in
    let e4 : low / 256 % 256 ≡ m = omega arith in
    let e5 : low % 256 ≡ v = omega arith in
    rw (e1, e2, e3, e4, e5) refl
byte_again nb m v false hm hv e =
    let z : nb ≡ 0x80000 = sym e in
    let low : ℕ = 0x40000 + nb + m * 256 + v in
    let e1 : low / 0x20000 % 2 ≡ 0 = omega arith in
    let e2 : low / 0x40000 % 2 ≡ 1 = omega arith in
    let e3 : low / 0x80000 % 2 ≡ 1 = omega arith in
    let e4 : low / 256 % 256 ≡ m = omega arith in
    let e5 : low % 256 ≡ v = omega arith in
    rw (e1, e2, e3, e4, e5) refl

condition-again : (on : Condition) → IsCondition on → condition_of (condition_code on) (condition_bits on) ≡ on
condition-again Always h = refl
condition-again (Phase true true c) h = refl
condition-again (Phase true false c) h = refl
condition-again (Phase false true c) h = refl
condition-again (Phase false false c) h = refl
condition-again (Byte not m v) h = byte_again (cond not 0 0x80000) m v not h.0 h.1 refl

code_fits : (on : Condition) → IsCondition on → condition_code on < 8
code_fits Always h = lit< tt
code_fits (Phase w n c) h = h.0
code_fits (Byte n m v) h = lit< tt

low_fits : (on : Condition) → IsCondition on → (0 < condition_bits on) × (condition_bits on < 0x100000)
low_fits Always h = (lit< tt, lit< tt)
low_fits (Phase true true c) h = (lit< tt, lit< tt)
low_fits (Phase true false c) h = (lit< tt, lit< tt)
low_fits (Phase false true c) h = (lit< tt, lit< tt)
low_fits (Phase false false c) h = (lit< tt, lit< tt)
low_fits (Byte true m v) h = let a : m < 256 = h.0 in let b : v < 256 = h.1 in (omega arith, omega arith)
low_fits (Byte false m v) h = let a : m < 256 = h.0 in let b : v < 256 = h.1 in (omega arith, omega arith)

-- ---- which part of the guess

to_move : (t l a b : ℕ) → t < 0x68 → guessed t l a b ≡ guessed_move t l a
unfolding guessed
to_move t l a b h = grind (arith, nat_tests)

to_register : (t l a b : ℕ) → 0x68 ≤ t → t < 0x80 → guessed t l a b ≡ guessed_register t l
unfolding guessed
to_register t l a b h k = grind (arith, nat_tests)

to_transfer : (t l a b : ℕ) → 0x80 ≤ t → t < 0xc0 → guessed t l a b ≡ guessed_transfer t l a
unfolding guessed
to_transfer t l a b h k = grind (arith, nat_tests)

-- ---- the rows

move : (n a p : ℕ) → p < 8 → guessed_move (8 + p) n a ≡ Some (Move n a p)
unfolding guessed_move
move n a p h = grind (arith, nat_tests)

move_from : (o : ℤ) (p : ℕ) → p < 8 → IsOffset o → guessed_move (0x18 + p) 0 (offset_bits o) ≡ Some (MoveFrom o p)
unfolding guessed_move
move_from o p h f = grind (arith, nat_tests, small_offset)

select : (o : ℤ) (a : ℕ) → IsOffset o → guessed_move 0x43 (offset_bits o) a ≡ Some (Select o a)
unfolding guessed_move
select o a f = ap (λ (z : ℤ). Some (Select z a)) (offset-again o f)

sets : (ack atn : Bool) → guessed_move 0x58 (flags ack atn) 0 ≡ Some (Set ack atn)
unfolding guessed_move
sets true true = refl
sets true false = refl
sets false true = refl
sets false false = refl

clears : (ack atn : Bool) → guessed_move 0x60 (flags ack atn) 0 ≡ Some (Clear ack atn)
unfolding guessed_move
clears true true = refl
clears true false = refl
clears false true = refl
clears false false = refl

flags_fit : (ack atn : Bool) → flags ack atn < 16777216
flags_fit true true = lit< tt
flags_fit true false = lit< tt
flags_fit false true = lit< tt
flags_fit false false = lit< tt

from_sfbr : (c : Change) (r d : ℕ) → d < 256 → guessed_register (0x68 + change_code c) (register_bits r d) ≡ Some (FromSfbr c d r)
unfolding guessed_register
from_sfbr Or r d h = rw (register_again r d h).0 (rw (register_again r d h).1 refl)
from_sfbr And r d h = rw (register_again r d h).0 (rw (register_again r d h).1 refl)
from_sfbr Add r d h = rw (register_again r d h).0 (rw (register_again r d h).1 refl)

to_sfbr : (c : Change) (r d : ℕ) → d < 256 → guessed_register (0x70 + change_code c) (register_bits r d) ≡ Some (ToSfbr r c d)
unfolding guessed_register
to_sfbr Or r d h = rw (register_again r d h).0 (rw (register_again r d h).1 refl)
to_sfbr And r d h = rw (register_again r d h).0 (rw (register_again r d h).1 refl)
to_sfbr Add r d h = rw (register_again r d h).0 (rw (register_again r d h).1 refl)

modify : (c : Change) (r d : ℕ) → d < 256 → guessed_register (0x78 + change_code c) (register_bits r d) ≡ Some (Modify r c d)
unfolding guessed_register
modify Or r d h = rw (register_again r d h).0 (rw (register_again r d h).1 refl)
modify And r d h = rw (register_again r d h).0 (rw (register_again r d h).1 refl)
modify Add r d h = rw (register_again r d h).0 (rw (register_again r d h).1 refl)

puts : (r d : ℕ) → d < 256 → guessed_register 0x78 (register_bits r d) ≡ Some (Put d r)
unfolding guessed_register
puts r d h = rw (register_again r d h).0 (rw (register_again r d h).1 refl)

code_range : (c : Change) → (2 ≤ change_code c) × (change_code c ≤ 6)
code_range Or = (lit≤ tt, lit≤ tt)
code_range And = (lit≤ tt, lit≤ tt)
code_range Add = (lit≤ tt, lit≤ tt)

jump : (c low a : ℕ) → c < 8 → 0 < low → guessed_transfer (0x80 + c) low a ≡ Some (Jump (condition_of c low) a)
unfolding guessed_transfer
jump c low a h k = grind (arith, nat_tests)

call : (c low a : ℕ) → c < 8 → guessed_transfer (0x88 + c) low a ≡ Some (Call (condition_of c low) a)
unfolding guessed_transfer
call c low a h = grind (arith, nat_tests)

returns : (c low a : ℕ) → c < 8 → guessed_transfer (0x90 + c) low a ≡ Some (Return (condition_of c low))
unfolding guessed_transfer
returns c low a h = grind (arith, nat_tests)

int : (c low a : ℕ) → c < 8 → low < 0x100000 → guessed_transfer (0x98 + c) low a ≡ Some (Int (condition_of c low) a)
unfolding guessed_transfer
int c low a h k = let e : low / 0x100000 % 2 ≡ 0 = omega arith in grind (arith, nat_tests)

int_fly : (c low a : ℕ) → c < 8 → low < 0x100000 → guessed_transfer (0x98 + c) (low + 0x100000) a ≡ Some (IntFly (condition_of c (low + 0x100000)))
unfolding guessed_transfer
int_fly c low a h k = let e : (low + 0x100000) / 0x100000 % 2 ≡ 1 = omega arith in grind (arith, nat_tests)

byte_fly : (nb m v : ℕ) (not : Bool) → m < 256 → v < 256 → cond not 0 0x80000 ≡ nb → condition_of 0 (0x40000 + nb + m * 256 + v + 0x100000) ≡ Byte not m v
byte_fly nb m v true hm hv e =
    let z : nb ≡ 0 = sym e in
    let low : ℕ = 0x40000 + nb + m * 256 + v + 0x100000 in
    let e1 : low / 0x20000 % 2 ≡ 0 = omega arith in
    let e2 : low / 0x40000 % 2 ≡ 1 = omega arith in
    let e3 : low / 0x80000 % 2 ≡ 0 = omega arith in
    let e4 : low / 256 % 256 ≡ m = omega arith in
    let e5 : low % 256 ≡ v = omega arith in
    rw (e1, e2, e3, e4, e5) refl
byte_fly nb m v false hm hv e =
    let z : nb ≡ 0x80000 = sym e in
    let low : ℕ = 0x40000 + nb + m * 256 + v + 0x100000 in
    let e1 : low / 0x20000 % 2 ≡ 0 = omega arith in
    let e2 : low / 0x40000 % 2 ≡ 1 = omega arith in
    let e3 : low / 0x80000 % 2 ≡ 1 = omega arith in
    let e4 : low / 256 % 256 ≡ m = omega arith in
    let e5 : low % 256 ≡ v = omega arith in
    rw (e1, e2, e3, e4, e5) refl

condition-fly : (on : Condition) → IsCondition on → condition_of (condition_code on) (condition_bits on + 0x100000) ≡ on
condition-fly Always h = refl
condition-fly (Phase true true c) h = refl
condition-fly (Phase true false c) h = refl
condition-fly (Phase false true c) h = refl
condition-fly (Phase false false c) h = refl
condition-fly (Byte not m v) h = byte_fly (cond not 0 0x80000) m v not h.0 h.1 refl

part_again : (r n : ℕ) → n ≤ 4 → ((r * 65536 + n) / 65536 ≡ r) × ((r * 65536 + n) % 8 ≡ n)
part_again r n h = (omega arith, omega arith)

load : (r n : ℕ) (place : Address) → n ≤ 4 → IsAddress place → guessed_memory (address_top place + 1) (r * 65536 + n) (address_bits place) 0 ≡ Some (Load r n place)
unfolding guessed_memory
load r n (At a) h k = rw (part_again r n h).0 (rw (part_again r n h).1 refl)
load r n (FromDsa o) h k = rw (part_again r n h).0 (rw (part_again r n h).1 (ap (λ (z : ℤ). Some (Load r n (FromDsa z))) (small_offset o k)))

store : (r n : ℕ) (place : Address) → n ≤ 4 → IsAddress place → guessed_memory (address_top place) (r * 65536 + n) (address_bits place) 0 ≡ Some (Store r n place)
unfolding guessed_memory
store r n (At a) h k = rw (part_again r n h).0 (rw (part_again r n h).1 refl)
store r n (FromDsa o) h k = rw (part_again r n h).0 (rw (part_again r n h).1 (ap (λ (z : ℤ). Some (Store r n (FromDsa z))) (small_offset o k)))

-- the words of a row, by its top byte, are guessed to be it
guessed_at : (t l s w : ℕ) (o : Option Op) → l < 16777216 → guessed t l s w ≡ o → guessed (word t l / 16777216) (word t l % 16777216) s w ≡ o
guessed_at t l s w o h g =
    let e : word t l / 16777216 ≡ t = omega arith in
    let f : word t l % 16777216 ≡ l = omega arith in
    rw (e, f) g

abbrev pub Leads : Op → Type 0
Leads op = (w : ℕ) → IfSome (row op).third (λ t. w ≡ t) → guessed ((row op).first / 16777216) ((row op).first % 16777216) (row op).second w ≡ Some op

transfer_leads : (base : ℕ) (on : Condition) (bits s w : ℕ) (op : Op) → IsCondition on → 0x80 ≤ base → base < 0xb0 → bits < 16777216 → guessed_transfer (base + condition_code on) bits s ≡ Some op →
    guessed (word (base + condition_code on) bits / 16777216) (word (base + condition_code on) bits % 16777216) s w ≡ Some op
transfer_leads base on bits s w op c lo hi fit g =
    let k : condition_code on < 8 = code_fits on c in
    guessed_at (base + condition_code on) bits s w (Some op) fit (to_transfer (base + condition_code on) bits s w (omega arith) (omega arith) ∙ g)

register_leads : (base : ℕ) (c : Change) (r d w : ℕ) (op : Op) → 0x68 ≤ base → base ≤ 0x78 → r < 128 → d < 256 → guessed_register (base + change_code c) (register_bits r d) ≡ Some op →
    guessed (word (base + change_code c) (register_bits r d) / 16777216) (word (base + change_code c) (register_bits r d) % 16777216) 0 w ≡ Some op
register_leads base c r d w op lo hi fr fd g =
    let k : change_code c ≤ 6 = (code_range c).1 in
    guessed_at (base + change_code c) (register_bits r d) 0 w (Some op) (register_fits r d fr fd) (to_register (base + change_code c) (register_bits r d) 0 w (omega arith) (omega arith) ∙ g)

memory_leads_load : (r n w : ℕ) (place : Address) → r < 128 → n ≤ 4 → IsAddress place → guessed (word (address_top place + 1) (r * 65536 + n) / 16777216) (word (address_top place + 1) (r * 65536 + n) % 16777216) (address_bits place) w ≡ Some (Load r n place)
unfolding guessed guessed_memory
memory_leads_load r n w (At a) fr h k = guessed_at 0xe1 (r * 65536 + n) a w (Some (Load r n (At a))) (omega arith) (rw (part_again r n h).0 (rw (part_again r n h).1 refl))
memory_leads_load r n w (FromDsa o) fr h k = guessed_at 0xf1 (r * 65536 + n) (offset_bits o) w (Some (Load r n (FromDsa o))) (omega arith) (rw (part_again r n h).0 (rw (part_again r n h).1 (ap (λ (z : ℤ). Some (Load r n (FromDsa z))) (small_offset o k))))

memory_leads_store : (r n w : ℕ) (place : Address) → r < 128 → n ≤ 4 → IsAddress place → guessed (word (address_top place) (r * 65536 + n) / 16777216) (word (address_top place) (r * 65536 + n) % 16777216) (address_bits place) w ≡ Some (Store r n place)
unfolding guessed guessed_memory
memory_leads_store r n w (At a) fr h k = guessed_at 0xe0 (r * 65536 + n) a w (Some (Store r n (At a))) (omega arith) (rw (part_again r n h).0 (rw (part_again r n h).1 refl))
memory_leads_store r n w (FromDsa o) fr h k = guessed_at 0xf0 (r * 65536 + n) (offset_bits o) w (Some (Store r n (FromDsa o))) (omega arith) (rw (part_again r n h).0 (rw (part_again r n h).1 (ap (λ (z : ℤ). Some (Store r n (FromDsa z))) (small_offset o k))))

copies : (n s t : ℕ) → n < 16777216 → guessed (word 0xc0 n / 16777216) (word 0xc0 n % 16777216) s t ≡ Some (MoveMemory n s t)
unfolding guessed guessed_memory
copies n s t h = guessed_at 0xc0 n s t (Some (MoveMemory n s t)) h refl

waits : (w : ℕ) → guessed 0x48 0 0 w ≡ Some WaitDisconnect
unfolding guessed guessed_move
waits w = refl

waits_reselect : (a w : ℕ) → guessed 0x50 0 a w ≡ Some (WaitReselect a)
unfolding guessed guessed_move
waits_reselect a w = refl

no_op : (w : ℕ) → guessed 0x80 0 0 w ≡ Some Nop
unfolding guessed guessed_transfer
no_op w = refl

pub leads : (op : Op) → (row op).fields → Leads op
leads (Move n a p) f w t = let k : p < 8 = f.0.0 in guessed_at (0x08 + p) n a w (Some (Move n a p)) f.2 (to_move (0x08 + p) n a w (omega arith) ∙ move n a p k)
leads (MoveFrom o p) f w t = let k : p < 8 = f.0.0 in guessed_at (0x18 + p) 0 (offset_bits o) w (Some (MoveFrom o p)) (lit< tt) (to_move (0x18 + p) 0 (offset_bits o) w (omega arith) ∙ move_from o p k f.1)
leads (Select o a) f w t = guessed_at 0x43 (offset_bits o) a w (Some (Select o a)) (bits_fit o f) (to_move 0x43 (offset_bits o) a w (lit< tt) ∙ select o a f)
leads WaitDisconnect f w t = waits w
leads (WaitReselect a) f w t = waits_reselect a w
leads (Set ack atn) f w t = guessed_at 0x58 (flags ack atn) 0 w (Some (Set ack atn)) (flags_fit ack atn) (to_move 0x58 (flags ack atn) 0 w (lit< tt) ∙ sets ack atn)
leads (Clear ack atn) f w t = guessed_at 0x60 (flags ack atn) 0 w (Some (Clear ack atn)) (flags_fit ack atn) (to_move 0x60 (flags ack atn) 0 w (lit< tt) ∙ clears ack atn)
leads (FromSfbr c d r) f w t = register_leads 0x68 c r d w (FromSfbr c d r) (lit≤ tt) (lit≤ tt) (written_fits r f.0) f.2 (from_sfbr c r d f.2)
leads (ToSfbr r c d) f w t = register_leads 0x70 c r d w (ToSfbr r c d) (lit≤ tt) (lit≤ tt) (read_fits r f.0) f.1 (to_sfbr c r d f.1)
leads (Modify r c d) f w t = register_leads 0x78 c r d w (Modify r c d) (lit≤ tt) (lit≤ tt) (written_fits r f.0) f.2 (modify c r d f.2)
leads (Put d r) f w t = guessed_at 0x78 (register_bits r d) 0 w (Some (Put d r)) (register_fits r d (written_fits r f.0) f.1) (to_register 0x78 (register_bits r d) 0 w (lit≤ tt) (lit< tt) ∙ puts r d f.1)
leads (Jump on a) f w t = let l : condition_bits on < 0x100000 = (low_fits on f).1 in
    transfer_leads 0x80 on (condition_bits on) a w (Jump on a) f (lit≤ tt) (lit< tt) (omega arith) (jump (condition_code on) (condition_bits on) a (code_fits on f) (low_fits on f).0 ∙ ap (λ (c : Condition). Some (Jump c a)) (condition-again on f))
leads (Call on a) f w t = let l : condition_bits on < 0x100000 = (low_fits on f).1 in
    transfer_leads 0x88 on (condition_bits on) a w (Call on a) f (lit≤ tt) (lit< tt) (omega arith) (call (condition_code on) (condition_bits on) a (code_fits on f) ∙ ap (λ (c : Condition). Some (Call c a)) (condition-again on f))
leads (Return on) f w t = let l : condition_bits on < 0x100000 = (low_fits on f).1 in
    transfer_leads 0x90 on (condition_bits on) 0 w (Return on) f (lit≤ tt) (lit< tt) (omega arith) (returns (condition_code on) (condition_bits on) 0 (code_fits on f) ∙ ap (λ (c : Condition). Some (Return c)) (condition-again on f))
leads (Int on v) f w t = let l : condition_bits on < 0x100000 = (low_fits on f).1 in
    transfer_leads 0x98 on (condition_bits on) v w (Int on v) f (lit≤ tt) (lit< tt) (omega arith) (int (condition_code on) (condition_bits on) v (code_fits on f) l ∙ ap (λ (c : Condition). Some (Int c v)) (condition-again on f))
leads (IntFly on) f w t = let l : condition_bits on < 0x100000 = (low_fits on f).1 in
    transfer_leads 0x98 on (condition_bits on + 0x100000) 0 w (IntFly on) f (lit≤ tt) (lit< tt) (omega arith) (int_fly (condition_code on) (condition_bits on) 0 (code_fits on f) l ∙ ap (λ (c : Condition). Some (IntFly c)) (condition-fly on f))
leads Nop f w t = no_op w
leads (MoveMemory n s u) f w t = rw t (copies n s u f.1)
leads (Load r n place) f w t = let small : n ≤ 4 = omega (arith, f.0.2) in memory_leads_load r n w place (wide_fits r f.0.0) small f.1
leads (Store r n place) f w t = let small : n ≤ 4 = omega (arith, f.0.2) in memory_leads_store r n w place (wide_fits r f.0.0) small f.1

-- words that a row spells are guessed to be that row
pub guess_of_spelled : (w0 w1 w2 : ℕ) (op : Op) → Spelled w0 w1 w2 op → guessed (w0 / 16777216) (w0 % 16777216) w1 w2 ≡ Some op
guess_of_spelled w0 w1 w2 op s = rw (s.first, s.second) (leads op s.fields w2 s.third)
