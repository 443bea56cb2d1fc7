-- After a repair the active data pointer denotes the rest of the stopped move and all that followed it, and the saved
-- one what it did.
use Rattle.std.proofs.Common.{◌≡◌, ◌≢◌, ℕ, zero, suc, ◌+◌, ◌-◌, ◌%◌, ◌<◌, ◌≤◌, ◌^◌, ◌⊎◌, inl, inr, List, length, drop, Some, refl, sym, ap, subst, ◌∙◌, arith}
use Rattle.bench_words.specs.Memory.{word_at, put_word}
use Rattle.std.proofs.lemmas.Bool.Decides.{nat_tests}
use Rattle.bench_words.specs.Views.{Wrote, WroteWithin}
use Rattle.bench_words.proofs.MemoryLaws.{length-put_word}
use Rattle.host_map.specs.Places.{IsBlockPlace}
use Rattle.cmd_block.specs.Block.{offset, field_of}
use Rattle.cmd_block.specs.declared.Field.TheVariants.{Lastp, Savep, SegCount, SegAt, CtxCount, CtxAt, CtxReturn}
use Rattle.cmd_block.proofs.FieldLaws.{wrote-field}
use Rattle.phase_fix.specs.declared.moves.DataPhase.{DataPhase}
use Rattle.phase_fix.specs.declared.moves.DataPhase.TheVariants.{In, Out}
use Rattle.phase_fix.specs.declared.moves.Entry.{Entry}
use Rattle.phase_fix.specs.declared.moves.Entry.TheVariants.{Segment, Context}
use Rattle.phase_fix.specs.declared.moves.DataMove.{DataMove}
use Rattle.phase_fix.specs.Moves.{IsEntry, context_label, move_at}
use Rattle.phase_fix.specs.Remain.{field, count_of, address_of, segments_from, following, remain, IsNoContext, ReturnsToSegments}
use Rattle.phase_fix.specs.Repair.{IsRepairable, free_context, return_of, with_context, HasRest, IsRepaired}
use Rattle.phase_fix.proofs.MoveLaws.{entry_place, place, move_stands, move-context, free_below, free_is_other, segment_of_move-next}
use Rattle.phase_fix.proofs.RemainLaws.{SegmentsKept, ContextKept, following-kept, remain-kept, behind_entry, drop-entry}

-- ---- what stays

rest-segments : (w n : ℕ → ℕ) (block dsp left k : ℕ) (x : DataMove) → HasRest w n block dsp left x k → SegmentsKept w n block
rest-segments w n block dsp left k x r =
    record {
      count = λ j h. r.other (block + offset (SegCount j)) (omega arith) (omega arith);
      address = λ j h. r.other (block + offset (SegAt j)) (omega arith) (omega arith);
    }

rest-context : (w n : ℕ → ℕ) (block dsp left k c : ℕ) (x : DataMove) → k < 2 → c < 2 → c ≢ k → HasRest w n block dsp left x k → ContextKept w n block c
rest-context w n block dsp left k c x hk hc ne r =
    record {
      count = r.other (block + offset (CtxCount c)) (omega arith) (omega arith);
      address = r.other (block + offset (CtxAt c)) (omega arith) (omega arith);
      return = r.other (block + offset (CtxReturn c)) (omega arith) (omega arith);
    }

again-segments : (w n : ℕ → ℕ) (block v : ℕ) → Wrote w n (block + offset Lastp) v → SegmentsKept w n block
again-segments w n block v r =
    record {
      count = λ j h. r.other (block + offset (SegCount j)) (omega arith);
      address = λ j h. r.other (block + offset (SegAt j)) (omega arith);
    }

again-context : (w n : ℕ → ℕ) (block v c : ℕ) → Wrote w n (block + offset Lastp) v → ContextKept w n block c
again-context w n block v c r =
    record {
      count = r.other (block + offset (CtxCount c)) (omega arith);
      address = r.other (block + offset (CtxAt c)) (omega arith);
      return = r.other (block + offset (CtxReturn c)) (omega arith);
    }

-- a move moved nothing or something
all_or_some : (left count : ℕ) → left ≤ count → (left ≡ count) ⊎ (left ≢ count)
all_or_some left count h = grind arith

-- no word outside LASTP and the contexts is written
pub repaired-within : (w n : ℕ → ℕ) (block dsp left : ℕ) (x : DataMove) → left ≤ count_of w block x.entry → IsRepaired w n block dsp left x
    → WroteWithin w n (block + offset Lastp) (block + offset (CtxReturn 1) + 4)
repaired-within w n block dsp left x most r =
    let k : free_context (field w block Savep) < 2 = free_below (field w block Savep) in
    elim (all_or_some left (count_of w block x.entry) most) [
      | inl e ↦ record { other = λ a out. (r.again e).other a (omega arith) }
      | inr e ↦ record { other = λ a out. (r.rest e).other a (omega arith) (omega (arith, k)) }
    ]

-- ---- LASTP

-- what follows the stopped entry, by the address at which the data go on
behind-return : (w : ℕ → ℕ) (block dsp : ℕ) (x : DataMove) (e : Entry) → 8 ≤ dsp → move_at (dsp - 8) ≡ Some x → x.entry ≡ e → following w block (return_of w block dsp e) ≡ behind_entry w block e
behind-return w block dsp x (Segment j) far h is = ap (segments_from w block) (segment_of_move-next dsp j x far h is)
behind-return w block dsp x (Context k) far h is = refl

rest-last : (w n : ℕ → ℕ) (block dsp left k : ℕ) (x : DataMove) → 8 ≤ dsp → k < 2 → move_at (dsp - 8) ≡ Some x → left ≤ count_of w block x.entry → HasRest w n block dsp left x k
    → remain n block (field n block Lastp) ≡ drop (count_of w block x.entry - left) (remain w block (dsp - 8))
rest-last w n block dsp left k x far b h most r =
    let s = rest-segments w n block dsp left k x r in
    let m = count_of w block x.entry - left in
    let f = following-kept w n block (return_of w block dsp x.entry) s ∙ behind-return w block dsp x x.entry far h refl in
    let c : count_of w block x.entry - (count_of w block x.entry - left) ≡ left = omega arith in
    let small : left % 2 ^ 24 ≡ left = omega arith in
    let d = rw c at (drop-entry w block (count_of w block x.entry - left) x.entry (move_stands (dsp - 8) x h).0 (omega arith)) in
    rw (r.last, move-context x.phase k b, h, r.count, small, r.address, r.return, f) (sym d)

again-last : (w n : ℕ → ℕ) (block dsp left : ℕ) (x : DataMove) → move_at (dsp - 8) ≡ Some x → left ≡ count_of w block x.entry → Wrote w n (block + offset Lastp) (dsp - 8)
    → remain n block (field n block Lastp) ≡ drop (count_of w block x.entry - left) (remain w block (dsp - 8))
again-last w n block dsp left x h all r =
    let z : count_of w block x.entry - left ≡ 0 = omega arith in
    let k = remain-kept w n block (dsp - 8) (again-segments w n block (dsp - 8) r) (λ c y b e f. again-context w n block (dsp - 8) c r) in
    rw (r.same, z) k

pub repaired-last : (w n : ℕ → ℕ) (block dsp left : ℕ) (x : DataMove) → 8 ≤ dsp → move_at (dsp - 8) ≡ Some x → left ≤ count_of w block x.entry → IsRepaired w n block dsp left x
    → remain n block (field n block Lastp) ≡ drop (count_of w block x.entry - left) (remain w block (dsp - 8))
repaired-last w n block dsp left x far h most r =
    elim (all_or_some left (count_of w block x.entry) most) [
      | inl e ↦ again-last w n block dsp left x h e (r.again e)
      | inr e ↦ rest-last w n block dsp left (free_context (field w block Savep)) x far (free_below (field w block Savep)) h most (r.rest e)
    ]

-- ---- SAVEP

rest-saved : (w n : ℕ → ℕ) (block dsp left : ℕ) (x : DataMove) → HasRest w n block dsp left x (free_context (field w block Savep))
    → remain n block (field n block Savep) ≡ remain w block (field w block Savep)
rest-saved w n block dsp left x r =
    let k = free_context (field w block Savep) in
    let b : free_context (field w block Savep) < 2 = free_below (field w block Savep) in
    rw (r.other (block + offset Savep) (omega arith) (omega arith))
    (remain-kept w n block (field w block Savep) (rest-segments w n block dsp left k x r)
    (λ c y hc e f. rest-context w n block dsp left k c x b hc (free_is_other (field w block Savep) c y e f) r))

again-saved : (w n : ℕ → ℕ) (block v : ℕ) → Wrote w n (block + offset Lastp) v
    → remain n block (field n block Savep) ≡ remain w block (field w block Savep)
again-saved w n block v r =
    rw (r.other (block + offset Savep) (omega arith))
    (remain-kept w n block (field w block Savep) (again-segments w n block v r) (λ c y b e f. again-context w n block v c r))

pub repaired-saved : (w n : ℕ → ℕ) (block dsp left : ℕ) (x : DataMove) → left ≤ count_of w block x.entry → IsRepaired w n block dsp left x
    → remain n block (field n block Savep) ≡ remain w block (field w block Savep)
repaired-saved w n block dsp left x most r =
    elim (all_or_some left (count_of w block x.entry) most) [
      | inl e ↦ again-saved w n block (dsp - 8) (r.again e)
      | inr e ↦ rest-saved w n block dsp left x (r.rest e)
    ]

-- ---- the returns of contexts

return_at : (w : ℕ → ℕ) (block c : ℕ) → c < 2 → ReturnsToSegments w block → IsNoContext (field w block (CtxReturn c))
return_at w block zero h r = r.first
return_at w block (suc zero) h r = r.second
return_at w block (suc (suc c)) h r = absurd (omega arith)

no_label : (phase : DataPhase) (j : ℕ) → j < 16 → IsNoContext (entry_place phase (Segment j) + 8)
no_label In j h = (omega arith, omega arith, omega arith, omega arith)
no_label Out j h = (omega arith, omega arith, omega arith, omega arith)

return-no_context : (w : ℕ → ℕ) (block dsp : ℕ) (x : DataMove) (e : Entry) → 8 ≤ dsp → move_at (dsp - 8) ≡ Some x → x.entry ≡ e → ReturnsToSegments w block → IsNoContext (return_of w block dsp e)
return-no_context w block dsp x (Segment j) far h is r =
    let s = move_stands (dsp - 8) x h in
    let p : entry_place x.phase (Segment j) ≡ dsp - 8 = rw is at s.1 in
    let b : IsEntry (Segment j) = rw is at s.0 in
    let q : dsp ≡ entry_place x.phase (Segment j) + 8 = omega arith in
    rw q (no_label x.phase j b)
return-no_context w block dsp x (Context k) far h is r =
    let s = move_stands (dsp - 8) x h in
    let b : IsEntry (Context k) = rw is at s.0 in
    return_at w block k b r

same_or_other : (c k : ℕ) → (c ≡ k) ⊎ (c ≢ k)
same_or_other c k = grind arith

rest-return : (w n : ℕ → ℕ) (block dsp left k c : ℕ) (x : DataMove) → 8 ≤ dsp → k < 2 → c < 2 → move_at (dsp - 8) ≡ Some x → ReturnsToSegments w block → HasRest w n block dsp left x k → IsNoContext (field n block (CtxReturn c))
rest-return w n block dsp left k c x far hk hc h before r =
    elim (same_or_other c k) [
      | inl e ↦ rw (e, r.return) (return-no_context w block dsp x x.entry far h refl before)
      | inr e ↦ rw (rest-context w n block dsp left k c x hk hc e r).return (return_at w block c hc before)
    ]

pub repaired-returns : (w n : ℕ → ℕ) (block dsp left : ℕ) (x : DataMove) → 8 ≤ dsp → move_at (dsp - 8) ≡ Some x → IsRepairable w block left x.entry → IsRepaired w n block dsp left x → ReturnsToSegments n block
repaired-returns w n block dsp left x far h before r =
    let k = free_context (field w block Savep) in
    let b : free_context (field w block Savep) < 2 = free_below (field w block Savep) in
    elim (all_or_some left (count_of w block x.entry) before.count) [
      | inl e ↦ record {
        first = rw (again-context w n block (dsp - 8) 0 (r.again e)).return before.returns.first;
        second = rw (again-context w n block (dsp - 8) 1 (r.again e)).return before.returns.second;
      }
      | inr e ↦ record {
        first = rest-return w n block dsp left k 0 x far b (omega arith) h before.returns (r.rest e);
        second = rest-return w n block dsp left k 1 x far b (omega arith) h before.returns (r.rest e);
      }
    ]

-- ---- memory

again-written : (m : List ℕ) (block v : ℕ) → length m ≡ 0x400000 → IsBlockPlace block → v < 2 ^ 32 → Wrote (word_at m) (word_at (put_word m (block + offset Lastp) v)) (block + offset Lastp) v
again-written m block v size place fits = wrote-field m block v Lastp size place tt fits

label_fits : (phase : DataPhase) (k : ℕ) → context_label phase k < 2 ^ 32
label_fits In k = grind (arith, nat_tests)
label_fits Out k = grind (arith, nat_tests)

rest-written : (m : List ℕ) (block dsp left k address return : ℕ) (x : DataMove) → length m ≡ 0x400000 → IsBlockPlace block → k < 2 → left < 2 ^ 32 → address < 2 ^ 32 → return < 2 ^ 32
    → address ≡ address_of (word_at m) block x.entry + (count_of (word_at m) block x.entry - left) → return ≡ return_of (word_at m) block dsp x.entry
    → HasRest (word_at m) (word_at (put_word (with_context m block k left address return) (block + offset Lastp) (context_label x.phase k))) block dsp left x k
rest-written m block dsp left k address return x size place hk hl ha hr ea er =
    let m1 = put_word m (block + offset (CtxCount k)) left in
    let m2 = put_word m1 (block + offset (CtxAt k)) address in
    let m3 = put_word m2 (block + offset (CtxReturn k)) return in
    let s1 = length-put_word m (block + offset (CtxCount k)) left ∙ size in
    let s2 = length-put_word m1 (block + offset (CtxAt k)) address ∙ s1 in
    let s3 = length-put_word m2 (block + offset (CtxReturn k)) return ∙ s2 in
    let w1 = wrote-field m block left (CtxCount k) size place hk hl in
    let w2 = wrote-field m1 block address (CtxAt k) s1 place hk ha in
    let w3 = wrote-field m2 block return (CtxReturn k) s2 place hk hr in
    let w4 = wrote-field m3 block (context_label x.phase k) Lastp s3 place tt (label_fits x.phase k) in
    record {
      count = w4.other (block + offset (CtxCount k)) (omega arith) ∙ (w3.other (block + offset (CtxCount k)) (omega arith) ∙ (w2.other (block + offset (CtxCount k)) (omega arith) ∙ w1.same));
      address = w4.other (block + offset (CtxAt k)) (omega arith) ∙ (w3.other (block + offset (CtxAt k)) (omega arith) ∙ (w2.same ∙ ea));
      return = w4.other (block + offset (CtxReturn k)) (omega arith) ∙ (w3.same ∙ er);
      last = w4.same;
      other = λ a far out. w4.other a far ∙ (w3.other a (omega arith) ∙ (w2.other a (omega arith) ∙ w1.other a (omega arith)));
    }

pub again-repaired : (m n : List ℕ) (block dsp left : ℕ) (x : DataMove) → length m ≡ 0x400000 → IsBlockPlace block → dsp < 2 ^ 32 → left ≡ count_of (word_at m) block x.entry
    → n ≡ put_word m (block + offset Lastp) (dsp - 8) → IsRepaired (word_at m) (word_at n) block dsp left x
again-repaired m n block dsp left x size place fits all e =
    rw e (record { again = λ h. again-written m block (dsp - 8) size place (omega arith); rest = λ some. absurd (some all) })

pub rest-repaired : (m n : List ℕ) (block dsp left k address return : ℕ) (x : DataMove) → length m ≡ 0x400000 → IsBlockPlace block → left < 2 ^ 32 → address < 2 ^ 32 → return < 2 ^ 32 → left < count_of (word_at m) block x.entry
    → k ≡ free_context (field_of m block Savep) → address ≡ address_of (word_at m) block x.entry + (count_of (word_at m) block x.entry - left) → return ≡ return_of (word_at m) block dsp x.entry
    → n ≡ put_word (with_context m block k left address return) (block + offset Lastp) (context_label x.phase k) → IsRepaired (word_at m) (word_at n) block dsp left x
rest-repaired m n block dsp left k address return x size place hl ha hr some ek ea er e =
    let b : k < 2 = omega (arith, free_below (field_of m block Savep)) in
    let r = rest-written m block dsp left k address return x size place b hl ha hr ea er in
    let f : IsRepaired (word_at m) (word_at (put_word (with_context m block k left address return) (block + offset Lastp) (context_label x.phase k))) block dsp left x =
    record { again = λ all. absurd (omega arith); rest = λ h. subst (λ (i : ℕ). HasRest (word_at m) (word_at (put_word (with_context m block k left address return) (block + offset Lastp) (context_label x.phase k))) block dsp left x i) ek r } in
    rw e f
