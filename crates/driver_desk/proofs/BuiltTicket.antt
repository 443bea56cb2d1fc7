-- Build from its parts: chunks are taken, a ticket is entered, its block is written.
use Rattle.std.proofs.Common.{◌≡◌, ℕ, false, List, [], length, None, refl, sym, ap, subst, ◌∙◌}
use Rattle.std.proofs.lemmas.List.{get_or_push}
use Rattle.rig_types.specs.declared.step.Line.{Line}
use Rattle.unit_law.specs.Request.{RequestData}
use Rattle.dma_buddy.specs.declared.buddies.Chunk.{Chunk}
use Rattle.dma_buddy.specs.Regions.{Space, IsRegion, TakesAll}
use Rattle.desk_law.specs.declared.refused.Refused.{Refused}
use Rattle.desk_law.specs.declared.ticket.Ticket.{Ticket}
use Rattle.desk_law.specs.Desk.{DeskState, no_ticket, ticket}
use Rattle.desk_law.specs.Refusals.{Refuses, kind_of, is_full}
use Rattle.desk_law.specs.Building.{new_ticket, desk_built, memory_built, Builds}
use Rattle.desk_law.proofs.Builds.{refuses_or_builds}
use Rattle.driver_desk.specs.Conditions.{Accepts}

-- the desk with another region
abbrev pub with_space : DeskState → Space → DeskState
with_space d s = record d { space = s }

builds-in : (old new : DeskState) (s : Space) (m m' : List ℕ) (l : Line) (r : RequestData) (cs : List Chunk) (n : ℕ) → kind_of old.units r ≡ None → is_full old r.unit ≡ false
    → TakesAll old.space r.segments cs s → n ≡ length old.tickets → new ≡ desk_built (with_space old s) (new_ticket old l r cs)
    → m' ≡ memory_built new m (ticket new n) r → Builds old m l r n new m'
builds-in old new s m m' l r cs n kind full takes number desk wrote =
    let k = new_ticket old l r cs in
    let space : new.space ≡ s = ap (λ (d : DeskState). d.space) desk in
    let there : ticket new n ≡ k = ap (λ (d : DeskState). ticket d n) desk ∙ get_or_push old.tickets k no_ticket n (sym number) in
    record {
      sound = kind;
      not_full = full;
      chunks = cs;
      takes = subst (λ (t : Space). TakesAll old.space r.segments cs t) (sym space) takes;
      numbered = number;
      desk = desk ∙ ap (λ (t : Space). with_space (desk_built old k) t) (sym space);
      wrote = wrote ∙ ap (λ (x : Ticket). memory_built new m x r) there ∙ ap (λ (d : DeskState). memory_built d m k r) desk;
    }

pub builds : (old mid new : DeskState) (m m' : List ℕ) (l : Line) (r : RequestData) (cs : List Chunk) (n : ℕ) → Accepts old r cs mid → n ≡ length mid.tickets
    → new ≡ desk_built mid (new_ticket mid l r cs) → m' ≡ memory_built new m (ticket new n) r → Builds old m l r n new m'
builds old mid new m m' l r cs n h number desk wrote =
    builds-in old new mid.space m m' l r cs n h.sound h.not_full h.takes (subst (λ (d : DeskState). n ≡ length d.tickets) h.desk number)
    (subst (λ (d : DeskState). new ≡ desk_built d (new_ticket d l r cs)) h.desk desk) wrote

-- a request whose chunks were taken isn't refused
pub not_refused : (old mid : DeskState) (r : RequestData) (cs : List Chunk) → Accepts old r cs mid → (a : Refused) → Refuses old r a → ⊥
not_refused old mid r cs h a reason =
    let l : Line = record { submitter = 0; number = 0 } in
    let k = new_ticket old l r cs in
    refuses_or_builds old [] l r a (length old.tickets) (with_space (desk_built old k) mid.space) (memory_built old [] k r) reason
    (record { sound = h.sound; not_full = h.not_full; chunks = cs; takes = h.takes; numbered = refl; desk = refl; wrote = refl })

-- chunks that are given back leave the desk as before
pub given_back : (old mid last new : DeskState) (r : RequestData) (cs : List Chunk) → Accepts old r cs mid → last ≡ mid
    → ((s : Space) (ls : List ℕ) → IsRegion s → TakesAll s ls cs last.space → new ≡ with_space last s) → new ≡ old
given_back old mid last new r cs h same back =
    back old.space r.segments h.region (subst (λ (d : DeskState). TakesAll old.space r.segments cs d.space) (sym same) h.takes)
    ∙ ap (λ (d : DeskState). with_space d old.space) (same ∙ h.desk)
