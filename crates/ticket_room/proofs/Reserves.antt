-- The room that is reserved suffices.
use Rattle.std.proofs.Common.{◌≡◌, ◌≢◌, ℕ, zero, suc, ◌+◌, ◌*◌, ◌≤◌, Bool, true, false, List, refl, ap, arith, sym, ◌∙◌, ◌⊎◌, inl, inr}
use Rattle.std.specs.Prelude.{◌==◌, ◌&&◌}
use Rattle.std.proofs.lemmas.Bool.{and_parts}
use Rattle.std.proofs.Math.Nat.{add-mul, mul-le-mul_right}
use Rattle.unit_law.specs.declared.entry.LogEntry.{LogEntry}
use Rattle.unit_law.specs.Log.{Tally, tally, with_at}
use Rattle.unit_law.proofs.Views.{with_at-other, same_or_not, ne-test}
use Rattle.logs_have_room.specs.Room.{left, total}
use Rattle.ticket_fate.specs.Tickets.{Plan, unit_of, is_live, Ticket}
use Rattle.ticket_fate.specs.Histories.{count_if}
use Rattle.ticket_room.specs.Rooms.{lives_at}
use Rattle.ticket_room.specs.Laws.{ReservesSuffice}
use Rattle.ticket_room.proofs.Growths.{fewer-live}

-- a ticket that lives needs at most limit + 3 entries
left-most : (limit : ℕ) (b : Bool) (k : Tally) → left limit b k ≤ count_if b 1 * (limit + 3)
left-most limit true k = omega arith
left-most limit false k = omega arith

total-most : (limit : ℕ) (live : ℕ → Bool) (log : List LogEntry) (built : ℕ) → total (λ x. left limit (live x) (tally x log)) built ≤ total (λ x. count_if (live x) 1) built * (limit + 3)
total-most limit live log zero = omega arith
total-most limit live log (suc n) = more (total (λ x. count_if (live x) 1) n) (count_if (live n) 1) (limit + 3) _ _ (total-most limit live log n) (left-most limit (live n) (tally n log))
  where
    more : (a b c x y : ℕ) → x ≤ a * c → y ≤ b * c → x + y ≤ (a + b) * c
    more a b c x y f h = omega (arith, f, h, add-mul a b c)

elsewhere : (g : Plan) (n x : ℕ) (ks : ℕ → Ticket) (k : Ticket) → unit_of g x ≢ n → (y : ℕ) → lives_at g n (with_at ks x k) y ≡ true → lives_at g n ks y ≡ true
elsewhere g n x ks k d y e = by (same_or_not y x)
  where
    by : (y ≡ x) ⊎ (y ≢ x) → lives_at g n ks y ≡ true
    by (inl q) =
        let p = and_parts (is_live (with_at ks x k y).life) (unit_of g y == n) e in
        absurd (let z : false ≡ true = sym (ne-test (unit_of g y) n (λ f. d (ap (unit_of g) (sym q) ∙ f))) ∙ p.1 in cc)
    by (inr f) = ap (λ (z : Ticket). is_live z.life && (unit_of g y == n)) (sym (with_at-other ks x k y f)) ∙ e

none-left : (limit : ℕ) (b c : Bool) (k : Tally) → b ≡ false → left limit (b && c) k ≡ 0
none-left limit true c k e = cc
none-left limit false c k e = refl

pub reserves-suffice : ReservesSuffice
reserves-suffice = record {
  reserved = λ g n built ks log room most s.
      let a = total-most (g.units n).refusals (lives_at g n ks) log built in
      let b = mul-le-mul_right ((g.units n).refusals + 3) most in
      omega (arith, s, a, b);
  elsewhere = λ g n built x ks k log room spare d s.
      let f = fewer-live (g.units n).refusals built (lives_at g n ks) (lives_at g n (with_at ks x k)) log (λ y l e. elsewhere g n x ks k d y e) in
      omega (arith, s, f);
  unbuilt = λ g n built ks log room spare below s.
      let z = none-left (g.units n).refusals (is_live (ks built).life) (unit_of g built == n) (tally built log) (ap is_live (below built (omega arith))) in
      omega (arith, s, z);
}
