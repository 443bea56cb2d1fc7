-- The work of the chip goes on where a step of the driver leaves the blocks, and moves in the rings or at FRONT alone.
use Rattle.std.proofs.Common.{◌≡◌, inl, inr, ℕ, ◌+◌, ◌<◌, List, refl, sym, subst, ◌∙◌, arith, Some}
use Rattle.host_map.specs.declared.TheConstants.{FRONT, CUR}
use Rattle.host_map.specs.Places.{start_slot, IsCommandBlock}
use Rattle.word_owners.specs.Tickets.{Tickets, block_of, goal, way, IsActive, AreTickets}
use Rattle.word_owners.specs.Pointers.{IsSuffix, move_place}
use Rattle.word_owners.specs.Points.{Work, Entering, Selected, Ending, Carrying, Moving, Behind, Returning, Naming, ChoosingTarget, Finding, Listed, Tagged, InTable, Offset, Candidate, Saved}
use Rattle.word_owners.specs.Parts.{Counts, NotStarting, NotEntered}
use Rattle.word_owners.specs.Works.{Role, Nothing, First, Asked, Working, Closing, Done, role, worker, Plays, Extra, Works}
use Rattle.word_owners.proofs.Frames.{Same, SameState, active-live, segments-same, filled-frame, names-frame, pointer-frame, waits-frame, begun-frame, over-frame}
use Rattle.word_owners.proofs.StageChanges.{worker-active}

-- what stays of the work
pub record Onward (w n : ℕ → ℕ) (ts : Tickets) (r : Role) (c d : Counts) : Type 0 where
  pub blocks : (b : ℕ) → IsCommandBlock b → Same w n b (b + 0x200)
  pub cur : n CUR ≡ w CUR
  pub first : c.started < c.queued → (d.started < d.queued) × (n (start_slot d.started) ≡ w (start_slot c.started))
  pub front : (t : ℕ) → r ≡ Asked t → n FRONT ≡ w FRONT
  pub out : (t : ℕ) → worker r ≡ Some t → IsActive (ts.stage t) → NotStarting w c (block_of ts t) → NotStarting n d (block_of ts t)
  pub entered : (t : ℕ) → worker r ≡ Some t → NotEntered w c (block_of ts t) → NotEntered n d (block_of ts t)

module _ (w n : ℕ → ℕ) (ts : Tickets) (c d : Counts) (a : AreTickets ts) where
  state-onward : (r : Role) → Onward w n ts r c d → (t : ℕ) → IsActive (ts.stage t) → SameState w n ts t
  state-onward r o t k = o.blocks (block_of ts t) (a.block t (active-live (ts.stage t) k)) (block_of ts t + 0x10) (omega arith) (omega arith)

  entries-onward : (r : Role) → Onward w n ts r c d → (t : ℕ) → IsActive (ts.stage t) → Same w n (block_of ts t + 0x40) (block_of ts t + 0xE0)
  entries-onward r o t k x f g = o.blocks (block_of ts t) (a.block t (active-live (ts.stage t) k)) x (omega arith) (omega arith)

  plays-onward : (r : Role) → Onward w n ts r c d → Plays r w ts c → Plays r n ts d
  plays-onward Nothing o h = tt
  plays-onward (First t) o h = let g = o.first h.0 in (g.0, g.1 ∙ h.1, waits-frame w n ts t (state-onward (First t) o t (inl h.2.stage)) h.2)
  plays-onward (Asked t) o h = (record { is = o.front t refl ∙ h.0.is; stage = h.0.stage; live = state-onward (Asked t) o t (inr h.0.stage) ∙ h.0.live }, h.1)
  plays-onward (Working t) o h = record { begun = begun-frame w n ts t (state-onward (Working t) o t h.begun.stage) h.begun; out = o.out t refl h.begun.stage h.out; there = h.there }
  plays-onward (Closing t) o h = (begun-frame w n ts t (state-onward (Closing t) o t h.0.stage) h.0, o.out t refl h.0.stage h.1)
  plays-onward (Done t) o h = (over-frame w n ts t (state-onward (Done t) o t h.0.stage) h.0, o.entered t refl h.1)

  extra-onward : (k : Work) → Onward w n ts (role k) c d → ((t : ℕ) → worker (role k) ≡ Some t → IsActive (ts.stage t)) → Extra k w ts → Extra k n ts
  extra-onward (Carrying t p) o s h = pointer-frame w n (block_of ts t) (way (ts.fixed t)) (goal (ts.fixed t)) p (entries-onward (Working t) o t (s t refl)) h
  extra-onward (Moving t x) o s h = names-frame w n (block_of ts t) (way (ts.fixed t)) (goal (ts.fixed t)) (move_place x.phase x.entry) x (entries-onward (Working t) o t (s t refl)) h
  extra-onward (Behind t phase j) o s h =
      let e = entries-onward (Working t) o t (s t refl) in
      (h.0, subst (λ (l : List ℕ). IsSuffix l (goal (ts.fixed t))) (sym (segments-same w n (block_of ts t) j h.0 e)) h.1, filled-frame w n (block_of ts t) j e h.2, h.3)
  extra-onward (Candidate b r) o s h = (
    h.0,
    elim h.1 [
      | inl e ↦ inl (o.blocks b h.0 (b + 0x1C) (omega arith) (omega arith) ∙ e)
      | inr e ↦ inr e
    ],
  )
  extra-onward (Saved t) o s h = o.cur ∙ h
  extra-onward (Entering t x) o s h = h
  extra-onward (Selected t) o s h = h
  extra-onward (Ending t v) o s h = h
  extra-onward (Returning t x) o s h = h
  extra-onward (Naming r) o s h = h
  extra-onward (ChoosingTarget r j) o s h = h
  extra-onward (Finding r j) o s h = h
  extra-onward (Listed u r) o s h = h
  extra-onward (Tagged u x r) o s h = h
  extra-onward (InTable u y x r) o s h = h
  extra-onward (Offset u y k r) o s h = h
  extra-onward _ o s h = tt

  pub work-onward : (k : Work) → Onward w n ts (role k) c d → Works k w ts c → Works k n ts d
  work-onward k o h = record { plays = plays-onward (role k) o h.plays; extra = extra-onward k o (λ t e. worker-active (role k) w ts c t e h.plays) h.extra }
