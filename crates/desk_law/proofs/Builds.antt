-- A request has one reason to be refused or makes one desk, and so has a ticket that is freed.
use Rattle.std.proofs.Common.{◌≡◌, ℕ, Bool, true, false, List, [], ◌∷◌, Option, Some, None, sym, ap, subst, ◌∙◌}
use Rattle.rig_types.specs.declared.step.Line.{Line}
use Rattle.unit_law.specs.Request.{RequestData}
use Rattle.dma_buddy.specs.declared.buddies.Chunk.{Chunk}
use Rattle.dma_buddy.specs.Regions.{Space}
use Rattle.dma_buddy.proofs.OneRegion.{one-take-all, one-give}
use Rattle.desk_law.specs.declared.refused.Kind.{Kind}
use Rattle.desk_law.specs.declared.refused.Refused.{Refused}
use Rattle.desk_law.specs.declared.refused.Refused.TheVariants.{LunFull, RegionFull, BadRequest}
use Rattle.desk_law.specs.declared.stage.Stage.TheVariants.{Freed}
use Rattle.desk_law.specs.Desk.{DeskState, ticket}
use Rattle.desk_law.specs.Refusals.{Refuses}
use Rattle.desk_law.specs.Building.{new_ticket, desk_built, memory_built, Builds}
use Rattle.desk_law.specs.Calls.{staged, GivesAll, chunks_of, Frees}

one-kind : (o : Option Kind) (a b : Kind) → o ≡ Some a → o ≡ Some b → a ≡ b
one-kind None a b h k = absurd cc
one-kind (Some x) a b h k = let e : x ≡ a = cc in let f : x ≡ b = cc in sym e ∙ f

no-kind : {R : Type 0} (o : Option Kind) (a : Kind) → o ≡ Some a → o ≡ None → R
no-kind None a h k = absurd cc
no-kind (Some x) a h k = absurd cc

both-ways : {R : Type 0} (b : Bool) → b ≡ true → b ≡ false → R
both-ways true h k = absurd cc
both-ways false h k = absurd cc

pub refuses_for_one : (d : DeskState) (r : RequestData) (a b : Refused) → Refuses d r a → Refuses d r b → a ≡ b
refuses_for_one d r (BadRequest a) (BadRequest b) h k = ap (λ (x : Kind). BadRequest x) (one-kind _ a b h k)
refuses_for_one d r (BadRequest a) (LunFull b) h k = no-kind _ a h k.0
refuses_for_one d r (BadRequest a) (RegionFull b) h k = no-kind _ a h k.0
refuses_for_one d r (LunFull a) (BadRequest b) h k = no-kind _ b k h.0
refuses_for_one d r (LunFull a) (LunFull b) h k = ap (λ (x : ℕ). LunFull x) (h.2 ∙ sym k.2)
refuses_for_one d r (LunFull a) (RegionFull b) h k = both-ways _ h.1 k.1
refuses_for_one d r (RegionFull a) (BadRequest b) h k = no-kind _ b k h.0
refuses_for_one d r (RegionFull a) (LunFull b) h k = both-ways _ k.1 h.1
refuses_for_one d r (RegionFull a) (RegionFull b) h k = ap (λ (x : ℕ). RegionFull x) ((one-take-all d.space r.segments).refused a b h.2 k.2)

pub refuses_or_builds : (d : DeskState) (m : List ℕ) (l : Line) (r : RequestData) (a : Refused) (t : ℕ) (new : DeskState) (m' : List ℕ) → Refuses d r a → Builds d m l r t new m' → ⊥
refuses_or_builds d m l r (BadRequest a) t new m' h b = no-kind _ a h b.sound
refuses_or_builds d m l r (LunFull a) t new m' h b = both-ways _ h.1 b.not_full
refuses_or_builds d m l r (RegionFull a) t new m' h b = (one-take-all d.space r.segments).either b.chunks new.space a b.takes h.2

pub builds_once : (d : DeskState) (m : List ℕ) (l : Line) (r : RequestData) (t u : ℕ) (new other : DeskState) (m' m'' : List ℕ) → Builds d m l r t new m' → Builds d m l r u other m''
    → (t ≡ u) × (new ≡ other) × (m' ≡ m'')
builds_once d m l r t u new other m' m'' h k =
    let e : (h.chunks ≡ k.chunks) × (new.space ≡ other.space) = (one-take-all d.space r.segments).one h.chunks k.chunks new.space other.space h.takes k.takes in
    let with_chunks : List Chunk → DeskState = λ cs. record (desk_built d (new_ticket d l r cs)) { space = new.space } in
    let with_space : Space → DeskState = λ s. record (desk_built d (new_ticket d l r k.chunks)) { space = s } in
    let made : List Chunk → List ℕ = λ cs. memory_built d m (new_ticket d l r cs) r in
    (h.numbered ∙ sym k.numbered, h.desk ∙ ap with_chunks e.0 ∙ ap with_space e.1 ∙ sym k.desk, h.wrote ∙ ap made e.0 ∙ sym k.wrote)

gives-once : (s t u : Space) (cs : List Chunk) → GivesAll s cs t → GivesAll s cs u → t ≡ u
gives-once s t u [] h k = h ∙ sym k
gives-once s t u (c ∷ cs) h k =
    let e : k.0 ≡ h.0 = one-give s c k.0 h.0 k.1 h.1 in gives-once h.0 t u cs h.2 (subst (λ (x : Space). GivesAll x cs u) e k.2)

pub frees_once : (d : DeskState) (t : ℕ) (new other : DeskState) → Frees d t new → Frees d t other → new ≡ other
frees_once d t new other h k =
    let e : new.space ≡ other.space = gives-once d.space new.space other.space (chunks_of (ticket d t)) h.gives k.gives in
    let with_space : Space → DeskState = λ s. record (staged d t Freed) { space = s } in
    h.desk ∙ ap with_space e ∙ sym k.desk
