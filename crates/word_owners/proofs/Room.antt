-- No more than 256 slots of a ring are in use, since their blocks are distinct.
use Rattle.std.proofs.Common.{◌≡◌, ◌≢◌, inl, ℕ, zero, suc, ◌+◌, ◌-◌, ◌/◌, ◌<◌, ◌≤◌, cond, nat_eq, arith}
use Rattle.std.proofs.lemmas.Bool.Decides.{nat_tests}
use Rattle.host_map.specs.Places.{start_slot, done_slot, IsCommandBlock}
use Rattle.word_owners.specs.Tickets.{Tickets, block_of, AreTickets}
use Rattle.word_owners.specs.Parts.{Counts, StartRing, DoneRing}
use Rattle.word_owners.proofs.Frames.{active-live}

swap_below : (x y k : ℕ) → x < k + 1 → y < k + 1 → x ≢ y → cond (nat_eq x k) y x < k
swap_below x y k a b d = grind (arith, nat_tests)

swap_distinct : (x z y k : ℕ) → x ≢ z → x ≢ y → z ≢ y → cond (nat_eq x k) y x ≢ cond (nat_eq z k) y z
swap_distinct x z y k a b c = grind (arith, nat_tests)

pigeons : (k n : ℕ) (f : ℕ → ℕ) → ((i : ℕ) → i < n → f i < k) → ((i j : ℕ) → i < j → j < n → f i ≢ f j) → n ≤ k
pigeons zero zero f b d = omega arith
pigeons zero (suc n) f b d = absurd (omega (arith, b 0 (omega arith)))
pigeons (suc k) zero f b d = omega arith
pigeons (suc k) (suc m) f b d =
    let r = pigeons k m (λ i. cond (nat_eq (f i) k) (f m) (f i))
    (λ i l. swap_below (f i) (f m) k (omega (arith, b i (omega arith))) (omega (arith, b m (omega arith))) (d i m l (omega arith)))
    (λ i j l u. swap_distinct (f i) (f j) (f m) k (d i j l (omega arith)) (d i m (omega arith) (omega arith)) (d j m u (omega arith))) in
    omega arith

pigeons_between : (k s q : ℕ) (f : ℕ → ℕ) → s ≤ q → ((i : ℕ) → s ≤ i → i < q → f i < k) → ((i j : ℕ) → s ≤ i → i < j → j < q → f i ≢ f j) → q ≤ s + k
pigeons_between k s q f h b d =
    let r = pigeons k (q - s) (λ i. f (s + i)) (λ i l. b (s + i) (omega arith) (omega arith)) (λ i j l u. d (s + i) (s + j) (omega arith) (omega arith) (omega arith)) in
    omega arith

-- the number of a block
number-below : (a b : ℕ) → a ≡ b → IsCommandBlock b → (a - 0x10000) / 0x200 < 256
number-below a b e k = omega (arith, e, k.from, k.below)

numbers-differ : (a b x y : ℕ) → a ≡ x → b ≡ y → IsCommandBlock x → IsCommandBlock y → a ≢ b → (a - 0x10000) / 0x200 ≢ (b - 0x10000) / 0x200
numbers-differ a b x y e f k l ne = omega (arith, e, f, k.from, k.aligned, l.from, l.aligned, ne)

pub start-room : (w : ℕ → ℕ) (ts : Tickets) (c : Counts) → AreTickets ts → StartRing w ts c.started c.queued → c.queued ≤ c.started + 256
start-room w ts c d r =
    pigeons_between 256 c.started c.queued (λ i. (w (start_slot i) - 0x10000) / 0x200) r.order
    (λ i l u. let x = r.entry i l u in number-below (w (start_slot i)) (block_of ts x.0) x.1 (d.block x.0 (active-live (ts.stage x.0) (inl x.2.stage))))
    (λ i j l a u.
    let x = r.entry i l (omega arith) in
    let y = r.entry j (omega arith) u in
    numbers-differ (w (start_slot i)) (w (start_slot j)) (block_of ts x.0) (block_of ts y.0) x.1 y.1 (d.block x.0 (active-live (ts.stage x.0) (inl x.2.stage))) (d.block y.0 (active-live (ts.stage y.0) (inl y.2.stage))) (r.once i j l a u))

pub done-room : (w : ℕ → ℕ) (ts : Tickets) (c : Counts) → AreTickets ts → DoneRing w ts c.taken c.entered → c.entered ≤ c.taken + 256
done-room w ts c d r =
    pigeons_between 256 c.taken c.entered (λ i. (w (done_slot i) - 0x10000) / 0x200) r.order
    (λ i l u. let x = r.entry i l u in number-below (w (done_slot i)) (block_of ts x.0) x.1 (d.block x.0 (active-live (ts.stage x.0) x.2.stage)))
    (λ i j l a u.
    let x = r.entry i l (omega arith) in
    let y = r.entry j (omega arith) u in
    numbers-differ (w (done_slot i)) (w (done_slot j)) (block_of ts x.0) (block_of ts y.0) x.1 y.1 (d.block x.0 (active-live (ts.stage x.0) x.2.stage)) (d.block y.0 (active-live (ts.stage y.0) y.2.stage)) (r.once i j l a u))
