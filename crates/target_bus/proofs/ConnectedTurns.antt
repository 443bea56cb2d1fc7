-- The turn of the connected target.
use Rattle.std.proofs.Common.{◌≡◌, ◌&&◌, not, ℕ, Bool, true, false, is_some, is_none, Option, Some, None, option_and_then, List, [], slice_set, slice_index_or, refl, sym, ap, subst, ◌∙◌}
use Rattle.std.proofs.lemmas.List.{get_or-set_same}
use Rattle.scsi_words.specs.declared.phases.kinds.Phase.{Phase as BusPhase}
use Rattle.scsi_words.specs.declared.phases.kinds.Phase.TheVariants as phase
use Rattle.chip_step.specs.Event.{Leave}
use Rattle.target_law.specs.declared.moves.Move.{Move}
use Rattle.target_law.specs.declared.nexus.Nexus.{Nexus}
use Rattle.target_law.specs.declared.task_phase.TaskPhase.{TaskPhase}
use Rattle.target_law.specs.declared.task_phase.TaskPhase.TheVariants.{ToChoose, MessageOut, DataIn, DataOut, Status, MessageIn}
use Rattle.target_law.specs.declared.rogue_phase.RoguePhase.{RoguePhase}
use Rattle.target_law.specs.declared.rogue_phase.RoguePhase.TheVariants as rogue_shows
use Rattle.target_law.specs.Bytes.{Connection, phase_of}
use Rattle.target_law.specs.RoguePhases.{rogue_phase}
use Rattle.target_law.specs.Target.{LogicalUnit, ConnectionState, BusFree, Selected, TakingCommand, TaskConnected, RogueConnected, Target, unit_at, linked, parted}
use Rattle.target_law.specs.Calls.{is_free, link_phase, is_rogue_connected, IsToChoose, asked_by, target_acted}
use Rattle.target_law.specs.Lawful.{IsThere, NamesOf, NamedBy}
use Rattle.target_law.specs.Devices.{DeviceState, where_room}
use Rattle.bus_law.specs.Bus.{BusState, device_at, link_on, free_if, with_device, becomes}
use Rattle.bus_law.specs.Choices.{named_by, named, acts, chooses, left_by, left_where, turned_by, turned, after_turn, phase_after}
use Rattle.bus_law.specs.Laws.{OneConnected}
use Rattle.bus_law.proofs.OneConnected.{stays_connected}
use Rattle.target_bus.specs.Fields.{IsHeldBus}
use Rattle.target_bus.proofs.BusInvariant.{waits, link-is, quiet, set-same, becomes-held, within}

-- ---- the choice

shows-none : (s : TaskPhase) → phase_of s ≡ None → s ≡ ToChoose
shows-none ToChoose e = refl
shows-none MessageOut e = absurd (let f : Some phase.MsgOut ≡ None = e in cc)
shows-none (DataIn n) e = absurd (let f : Some phase.DataIn ≡ None = e in cc)
shows-none (DataOut n) e = absurd (let f : Some phase.DataOut ≡ None = e in cc)
shows-none (Status v) e = absurd (let f : Some phase.Status ≡ None = e in cc)
shows-none (MessageIn n sent) e = absurd (let f : Some phase.MsgIn ≡ None = e in cc)

strays-none : (s : RoguePhase) → rogue_phase s ≡ None → s ≡ rogue_shows.ToChoose
strays-none rogue_shows.ToChoose e = refl
strays-none rogue_shows.MessageOut e = absurd (let f : Some phase.MsgOut ≡ None = e in cc)
strays-none (rogue_shows.DataIn left b) e = absurd (let f : Some phase.DataIn ≡ None = e in cc)
strays-none (rogue_shows.DataOut left) e = absurd (let f : Some phase.DataOut ≡ None = e in cc)
strays-none (rogue_shows.Command left) e = absurd (let f : Some phase.Command ≡ None = e in cc)
strays-none (rogue_shows.Status b) e = absurd (let f : Some phase.Status ≡ None = e in cc)
strays-none (rogue_shows.MessageIn b sent) e = absurd (let f : Some phase.MsgIn ≡ None = e in cc)
strays-none (rogue_shows.Reselection p sent) e = absurd (let f : Some phase.MsgIn ≡ None = e in cc)

pub to-choose : (l : ConnectionState) → is_free l ≡ false → link_phase l ≡ None → IsToChoose l
to-choose BusFree f e = absurd (let g : true ≡ false = f in cc)
to-choose (Selected heard) f e = absurd (let g : Some phase.MsgOut ≡ None = e in cc)
to-choose (TakingCommand n taken) f e = absurd (let g : Some phase.Command ≡ None = e in cc)
to-choose (TaskConnected c) f e = shows-none c.shows e
to-choose (RogueConnected s n) f e = strays-none s e

named-task : (o : Option LogicalUnit) (c : Connection) (word : ℕ) (m : Move) → IsThere o (λ u. NamesOf u c word m) → option_and_then (λ (u : LogicalUnit). named_by u c word) o ≡ Some m
named-task (Some u) c word m h = h
named-task None c word m h = absurd h

pub named-is : (l : ConnectionState) (t : Target) (word : ℕ) (m : Move) → NamedBy l t word m → named l t word ≡ Some m
named-is BusFree t word m h = absurd h
named-is (Selected heard) t word m h = absurd h
named-is (TakingCommand n taken) t word m h = absurd h
named-is (TaskConnected c) t word m h = named-task (unit_at t.units c.lun) c word m h
named-is (RogueConnected s n) t word m h = ap (λ (x : Move). Some x) (sym h)

pub asks-is : (l : ConnectionState) (d : DeviceState) (atn : Bool) (word : ℕ) → IsToChoose l → (atn && not (is_rogue_connected l)) ≡ true
    → record { target = linked d.target (asked_by l); rooms = d.rooms } ≡ chooses l atn word d
asks-is BusFree d atn word i e = absurd i
asks-is (Selected heard) d atn word i e = absurd i
asks-is (TakingCommand n taken) d atn word i e = absurd i
asks-is (TaskConnected c) d true word i e = refl
asks-is (TaskConnected c) d false word i e = absurd (let f : false ≡ true = e in cc)
asks-is (RogueConnected s n) d true word i e = absurd (let f : false ≡ true = e in cc)
asks-is (RogueConnected s n) d false word i e = absurd (let f : false ≡ true = e in cc)

pub acts-is : (l : ConnectionState) (d : DeviceState) (atn : Bool) (word : ℕ) (m : Move) → IsToChoose l → (atn && not (is_rogue_connected l)) ≡ false → named l d.target word ≡ Some m
    → where_room d (target_acted d.target m) ≡ chooses l atn word d
acts-is BusFree d atn word m i e n = absurd i
acts-is (Selected heard) d atn word m i e n = absurd i
acts-is (TakingCommand n taken) d atn word m i e f = absurd i
acts-is (TaskConnected c) d true word m i e n = absurd (let f : true ≡ false = e in cc)
acts-is (TaskConnected c) d false word m i e n = sym (ap (λ (o : Option Move). acts o d) n)
acts-is (RogueConnected s x) d true word m i e n = sym (ap (λ (o : Option Move). acts o d) n)
acts-is (RogueConnected s x) d false word m i e n = sym (ap (λ (o : Option Move). acts o d) n)

-- ---- the device after its turn

some-stays : (p : Option BusPhase) (atn : Bool) (word : ℕ) (d : DeviceState) → is_some p ≡ true → turned_by p atn word d ≡ d
some-stays (Some p) atn word d e = refl
some-stays None atn word d e = absurd (let f : false ≡ true = e in cc)

pub turned-stays : (atn : Bool) (word : ℕ) (d : DeviceState) → is_some (link_phase d.target.link) ≡ true → turned atn word d ≡ d
turned-stays atn word d e = some-stays (link_phase d.target.link) atn word d e

pub is-none : (p : Option BusPhase) → is_some p ≡ false → p ≡ None
is-none None e = refl
is-none (Some p) e = absurd (let f : true ≡ false = e in cc)

pub turned-none : (atn : Bool) (word : ℕ) (d : DeviceState) → link_phase d.target.link ≡ None → left_where (chooses d.target.link atn word d) ≡ turned atn word d
turned-none atn word d e = sym (ap (λ (p : Option BusPhase). turned_by p atn word d) e)

pub left-none : (d : DeviceState) → link_phase d.target.link ≡ None → record { target = linked (parted d.target.link d.target) BusFree; rooms = d.rooms } ≡ left_where d
left-none d e = sym (ap (λ (p : Option BusPhase). left_by p d) e)

some-left : (p : Option BusPhase) (d : DeviceState) → is_some p ≡ true → left_by p d ≡ d
some-left (Some p) d e = refl
some-left None d e = absurd (let f : false ≡ true = e in cc)

pub left-some : (d : DeviceState) → is_some (link_phase d.target.link) ≡ true → d ≡ left_where d
left-some d e = sym (some-left (link_phase d.target.link) d e)

-- ---- the bus after the turn

pub turned-is : (b : BusState) (id word : ℕ) → b.connected ≡ Some id → becomes b id (turned b.atn word (device_at b id)) ≡ after_turn b.connected word b
turned-is b id word e = sym (ap (λ (o : Option ℕ). after_turn o word b) e)

pub turned-shows : (b : BusState) (id word : ℕ) → b.connected ≡ Some id → link_phase (turned b.atn word (device_at b id)).target.link ≡ phase_after b.connected word b
turned-shows b id word e = sym (ap (λ (o : Option ℕ). phase_after o word b) e)

turned-one : (b : BusState) (id word : ℕ) → b.connected ≡ Some id → OneConnected b → OneConnected (becomes b id (turned b.atn word (device_at b id)))
turned-one b id word e o =
    let s : OneConnected (after_turn b.connected word b) = stays_connected [] (λ (i : ℕ) (x : Nexus). None) b (Leave word (is_none (after_turn b.connected word b).connected)) _ o (refl, refl) in
    subst OneConnected (sym (turned-is b id word e)) s

-- a device that shows a phase stays, and so does the bus
unchanged : (b : BusState) (id : ℕ) → b.connected ≡ Some id → OneConnected b → becomes b id (device_at b id) ≡ b
unchanged b id e o =
    ap (λ (gone : Bool). free_if gone (with_device b id (device_at b id))) (o.connected id e)
    ∙ ap (λ (ds : List DeviceState). record b { devices = ds }) (set-same b.devices id (device_at b id) refl)

turned-by : (p : Option BusPhase) (n : ℕ) (b : BusState) (id word : ℕ) → IsHeldBus n b → b.connected ≡ Some id → link_phase (device_at b id).target.link ≡ p
    → IsHeldBus n (becomes b id (turned b.atn word (device_at b id)))
turned-by None n b id word h e f =
    let silent : b.ack ≡ false = quiet b.ack (λ a. let g : None ≡ Some phase.MsgIn = sym f ∙ ap link_phase (sym (link-is b id e)) ∙ (waits (link_on b) (h.acknowledges a)).shown in absurd cc) in
    becomes-held n b id _ h.counted h.seven silent (turned-one b id word e h.one)
turned-by (Some p) n b id word h e f =
    let same : turned b.atn word (device_at b id) ≡ device_at b id = turned-stays b.atn word (device_at b id) (ap is_some f) in
    subst (IsHeldBus n) (sym (ap (λ (d : DeviceState). becomes b id d) same ∙ unchanged b id e h.one)) h

pub turned-held : (n : ℕ) (b : BusState) (id word : ℕ) → IsHeldBus n b → b.connected ≡ Some id → IsHeldBus n (becomes b id (turned b.atn word (device_at b id)))
turned-held n b id word h e = turned-by (link_phase (device_at b id).target.link) n b id word h e refl

-- the phase that is asked for is another
pub asked-held : (n : ℕ) (b : BusState) (asked : Option BusPhase) → IsHeldBus n b → IsHeldBus n (record b { asked = asked })
asked-held n b asked h = record {
  counted = h.counted;
  seven = h.seven;
  one = record { connected = h.one.connected; others = h.one.others };
  acknowledges = h.acknowledges;
}

pub connected-free : (n : ℕ) (b : BusState) (id : ℕ) (r : DeviceState) → IsHeldBus n b → b.connected ≡ Some id → r ≡ device_at b id → is_free r.target.link ≡ false
connected-free n b id r h e i = ap (λ (d : DeviceState). is_free d.target.link) i ∙ h.one.connected id e

-- what is read where it was written
pub read-set : (n : ℕ) (b : BusState) (id : ℕ) (d r : DeviceState) → IsHeldBus n b → b.connected ≡ Some id → r ≡ slice_index_or (slice_set b.devices id d) id r → r ≡ d
read-set n b id d r h e i = i ∙ get_or-set_same b.devices id d r (within n b id h e)
