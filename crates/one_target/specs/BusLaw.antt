-- The bus of one target keeps the laws of a bus.
use Rattle.std.proofs.Common.{◌≡◌, ℕ, ◌<◌, ◌%◌, arith, Bool, true, false, ◌&&◌, not, is_none, Option, Some, None, refl, sym, ap, ◌∙◌, ◌⊎◌, inl, inr}
use Rattle.scsi_words.specs.declared.phases.kinds.Phase.{Phase as BusPhase}
use Rattle.scsi_words.specs.declared.phases.kinds.Phase.TheVariants.{MsgIn, MsgOut}
use Rattle.chip_step.specs.Event.{Event, Phase, Shown, ByteIn, ByteOut, Select, Reselect, SetAtn, ClearAck, Leave}
use Rattle.chip_step.specs.Laws.{IsLawful}
use Rattle.chip_step.specs.declared.scsi_bus.Settled.TheVariants.{Selected, Reselected, TimedOut}
use Rattle.target_law.specs.Bytes.{Connection}
use Rattle.target_law.specs.Target as connection_state
use Rattle.target_law.specs.Target.{ConnectionState, BusFree, TakingCommand, TaskConnected, RogueConnected, Target, linked}
use Rattle.target_law.specs.Calls.{is_free, link_phase, link_byte, link_takes, sent_if, target_acted}
use Rattle.one_target.specs.Bus.{BusState, with_room, become, is_to_choose, SettlesWhere, Acts, Chooses, ChoosesWhere, GoesOn, TurnsWhere, as_byte, ack_by, ComesIn, StaysOut, taken_where, SelectsWhere, acked_where, moves, signals_of}

-- no phase is shown, and the target isn't to choose: the bus is free
free_where : (free : Bool) (shown : Option BusPhase) → shown ≡ None → not free && is_none shown ≡ false → free ≡ true
free_where true shown e h = refl
free_where false None e h = absurd cc
free_where false (Some p) e h = absurd cc

unfree : (l : ConnectionState) (p : BusPhase) → Some p ≡ link_phase l → is_free l ≡ false
unfree BusFree p e = absurd cc
unfree (connection_state.Selected heard) p e = refl
unfree (TakingCommand n taken) p e = refl
unfree (TaskConnected c) p e = refl
unfree (RogueConnected s n) p e = refl

become-target : (free : Bool) (b : BusState) (t : Target) → (become free b t).target ≡ t
become-target true b t = refl
become-target false b t = refl

-- after the turn of a target that is to choose and then shows nothing, the bus is free
settles-free : (still : Bool) (t t' : Target) → is_to_choose t.link ≡ still → SettlesWhere still t t' → link_phase t'.link ≡ None → is_free t'.link ≡ true
settles-free true t t' e m h = ap (λ (x : Target). is_free x.link) m.left
settles-free false t t' e m h = ap (λ (x : Target). is_free x.link) m ∙ free_where (is_free t.link) (link_phase t.link) (ap (λ (x : Target). link_phase x.link) (sym m) ∙ h) e

acts-free : (b : BusState) (word : ℕ) (t t' : Target) (c : Connection) → Acts b.rooms word t c t' → link_phase t'.link ≡ None → is_free t'.link ≡ true
acts-free b word t t' c a h =
    let after : Target = with_room b.rooms t (target_acted t a.move) in
    settles-free (is_to_choose after.link) after t' refl a.after h

chooses-free : (l : ConnectionState) (atn : Bool) (b : BusState) (word : ℕ) (t t' : Target) → Chooses l atn b.rooms word t t' → link_phase t'.link ≡ None → is_free t'.link ≡ true
chooses-free (TaskConnected c) true b word t t' m h = let e : Some MsgOut ≡ None = ap (λ (x : Target). link_phase x.link) (sym m) ∙ h in absurd cc
chooses-free (TaskConnected c) false b word t t' m h = acts-free b word t t' c m h
chooses-free BusFree atn b word t t' m h = absurd m
chooses-free (connection_state.Selected heard) atn b word t t' m h = absurd m
chooses-free (TakingCommand n taken) atn b word t t' m h = absurd m
chooses-free (RogueConnected s n) atn b word t t' m h = absurd m

turn-free : (to_choose : Bool) (b : BusState) (word : ℕ) (t t' : Target) → is_to_choose t.link ≡ to_choose → ChoosesWhere to_choose b.atn b.rooms word t t' → link_phase t'.link ≡ None → is_free t'.link ≡ true
turn-free true b word t t' e m h = chooses-free t.link b.atn b word t t' m h
turn-free false b word t t' e m h =
    ap (λ (x : Target). is_free x.link) m ∙ free_where (is_free t.link) (link_phase t.link) (ap (λ (x : Target). link_phase x.link) (sym m) ∙ h) e

goes-free : (b b' : BusState) (word : ℕ) → GoesOn word b b' → link_phase b'.target.link ≡ None → is_free b'.target.link ≡ true
goes-free b b' word g h =
    let e : b'.target ≡ g.target = ap (λ (x : BusState). x.target) g.becomes_it ∙ become-target (is_free g.target.link) b g.target in
    let f : link_phase g.target.link ≡ None = ap (λ (x : Target). link_phase x.link) (sym e) ∙ h in
    ap (λ (x : Target). is_free x.link) e ∙ turn-free (is_to_choose b.target.link) b word b.target g.target refl g.chooses f

turns-free : (free : Bool) (b b' : BusState) (word : ℕ) → is_free b.target.link ≡ free → TurnsWhere free word b b' → link_phase b'.target.link ≡ None → is_free b'.target.link ≡ true
turns-free true b b' word e m h = ap (λ (x : BusState). is_free x.target.link) m ∙ e
turns-free false b b' word e m h = goes-free b b' word m h

free-stays : (free : Bool) (b b' : BusState) (word : ℕ) → free ≡ true → TurnsWhere free word b b' → b' ≡ b
free-stays true b b' word e m = m
free-stays false b b' word e m = absurd cc

-- bytes
comes-ack : (byte : ℕ) (o : Option ℕ) (shown : Option BusPhase) (ack : Bool) → Some byte ≡ as_byte o → shown ≡ Some MsgIn → ack_by o shown ack ≡ true
comes-ack byte (Some x) shown ack e h = ap (λ (p : Option BusPhase). ack_by (Some x) p ack) h
comes-ack byte None shown ack e h = absurd cc

-- a byte of the target is below 256
below : (byte : ℕ) (o : Option ℕ) → Some byte ≡ as_byte o → byte < 256
below byte (Some x) e = let f : byte ≡ x % 256 = cc in omega arith
below byte None e = absurd cc

byte-below : (old new : BusState) (byte : ℕ) → ComesIn old (Some byte) new ⊎ StaysOut old (Some byte) new → byte < 256
byte-below old new byte m = elim m [
  | inl x ↦ below byte (link_byte old.target.link) x.byte_is
  | inr x ↦ let e : Some byte ≡ None = x.none in absurd cc
]

byte_acks : (old new : BusState) (byte : ℕ) → ComesIn old (Some byte) new ⊎ StaysOut old (Some byte) new → link_phase old.target.link ≡ Some MsgIn → new.ack ≡ true
byte_acks old new byte m shown = elim m [
  | inl x ↦ ap (λ (b : BusState). b.ack) x.after ∙ comes-ack byte (link_byte old.target.link) (link_phase old.target.link) old.ack x.byte_is shown
  | inr x ↦ let e : Some byte ≡ None = x.none in absurd cc
]

no_byte-stays : (o : Option ℕ) (b : BusState) → None ≡ as_byte o → record b { target = linked b.target (sent_if o b.target.link); ack = ack_by o (link_phase b.target.link) b.ack } ≡ b
no_byte-stays (Some x) b e = absurd cc
no_byte-stays None b e = refl

no_byte : (old new : BusState) → ComesIn old None new ⊎ StaysOut old None new → new ≡ old
no_byte old new m = elim m [
  | inl x ↦ x.after ∙ no_byte-stays (link_byte old.target.link) old x.byte_is
  | inr x ↦ x.same
]

untaken : (takes : Bool) (b : BusState) (byte : ℕ) → false ≡ takes → taken_where takes b byte ≡ b
untaken true b byte e = absurd cc
untaken false b byte e = refl

never_reselects : (there : Bool) (old new : BusState) (by : ℕ) → SelectsWhere there old (Reselected by) new → ⊥
never_reselects true old new by m = let e : Reselected by ≡ Selected = m.0 in cc
never_reselects false old new by m = let e : Reselected by ≡ TimedOut = m.0 in cc

unacknowledged : (ack : Bool) (b : BusState) → ack ≡ false → acked_where ack b ≡ b
unacknowledged true b e = absurd cc
unacknowledged false b e = refl

pub moves_lawfully : (old : BusState) → (event : Event) → (new : BusState) → moves old event new → IsLawful signals_of old event new
moves_lawfully old (Phase word None) new m =
    ap (λ (b : BusState). is_free b.target.link) m.3 ∙ turns-free (is_free old.target.link) old m.0 word refl m.1 (sym m.2)
moves_lawfully old (Phase word (Some phase)) new m = ap (λ (b : BusState). is_free b.target.link) m.3 ∙ unfree m.0.target.link phase m.2
moves_lawfully old (Shown phase) new m = m.0
moves_lawfully old (ByteIn (Some byte)) new m = (byte-below old new byte m, λ shown. byte_acks old new byte m shown)
moves_lawfully old (ByteIn None) new m = no_byte old new m
moves_lawfully old (ByteOut byte true) new m = tt
moves_lawfully old (ByteOut byte false) new m = m.1 ∙ untaken (link_takes old.target.link) old byte m.0
moves_lawfully old (Select target word Selected) new m = tt
moves_lawfully old (Select target word (Reselected by)) new m = absurd (never_reselects _ old new by m)
moves_lawfully old (Select target word TimedOut) new m = tt
moves_lawfully old (Reselect word (Some by)) new m = absurd (let e : Some by ≡ None = m.0 in cc)
moves_lawfully old (Reselect word None) new m = m.1
moves_lawfully old (SetAtn true) new m = λ e. let with : Bool → BusState = λ a. record old { atn = a } in m ∙ ap with (sym e)
moves_lawfully old (SetAtn false) new m = tt
moves_lawfully old ClearAck new m = λ e. m ∙ unacknowledged old.ack old e
moves_lawfully old (Leave word gone) new m = (m.1, λ e. free-stays (is_free old.target.link) old new word e m.0)
