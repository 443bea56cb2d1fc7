-- ByteIn and ByteOut.
use Rattle.std.proofs.Common.{◌≡◌, ℕ, ◌%◌, Bool, true, false, refl, ap, ◌∙◌, Option, Some, None}
use Rattle.unit_law.specs.Log.{with_at}
use Rattle.target_law.specs.declared.nexus.Nexus.{Nexus}
use Rattle.target_law.specs.Bytes.{Connection, byte_by, takes_by, took_by}
use Rattle.target_law.specs.Target.{TaskConnected, Target, linked}
use Rattle.target_law.specs.Calls.{link_phase, link_byte, link_sent, link_takes, link_took, whole_by}
use Rattle.target_law.specs.Beginning.{target_took, took_where, begins_if}
use Rattle.bus_law.specs.Bus.{device_at, link_on}
use Rattle.bus_law.specs.Bytes.{is_same_phase, if_asked, sent, after_byte_in, device_took, after_byte_out}
use Rattle.bus_events.specs.Targets.{targets}
use Rattle.bus_events.specs.Laws.{ByteInMakes, ByteOutMakes}
use Rattle.bus_events.proofs.Devices.{device-changed, device-becomes, link-is}

asked-some : (t : Bool) (o : Option ℕ) (byte : ℕ) → Some byte ≡ if_asked t o → (b : ℕ) × (o ≡ Some b) × (byte ≡ b % 256)
asked-some true (Some b) byte e = (b, refl, some byte (b % 256) e)
  where
    some : (x y : ℕ) → Some x ≡ Some y → x ≡ y
    some x y f = cc
asked-some true None byte e = cc
asked-some false o byte e = cc

pub byte-in-makes : ByteInMakes
byte-in-makes = record {
  sends = λ old new byte id c x h. (
    asked-some (is_same_phase old.asked (link_phase (link_on old))) (byte_by c.shows c.task c.lun) byte
        (x.2.0 ∙ ap (λ l. if_asked (is_same_phase old.asked (link_phase (link_on old))) (link_byte l)) (link-is old id (TaskConnected c) h.connected h.link)),
    ap targets x.2.1 ∙ ap (λ o. targets (after_byte_in o (Some byte) old)) h.connected ∙ device-changed old id (sent (Some byte) (device_at old id)) h.stands
        ∙ ap (λ l. with_at (targets old) id (linked (targets old id) (link_sent l))) h.link,
  );
  none = λ old new id x e. x.2.1 ∙ ap (λ o. after_byte_in o None old) e;
}

-- the task takes a byte, and no command begins
took-is : (live : Nexus → Option ℕ) (t : Target) (c : Connection) (b : ℕ) → t.link ≡ TaskConnected c → takes_by c.shows ≡ true → target_took live t b ≡ linked t (TaskConnected (took_by c.shows c b))
unfolding target_took
took-is live t c b e s =
    ap (λ l. took_where live (link_takes l) t b) e ∙ ap (λ z. took_where live z t b) s
    ∙ ap (λ l. begins_if live (whole_by (link_took l b)) (linked t (link_took l b))) e

pub byte-out-makes : ByteOutMakes
byte-out-makes = record {
  takes = λ old new byte taken id c x h s.
      let e : taken ≡ true = x.2.0 ∙ ap link_takes (link-is old id (TaskConnected c) h.connected h.link) ∙ s in (
        e,
        ap targets x.2.1 ∙ ap (λ o. targets (after_byte_out x.1 taken o byte old)) h.connected ∙ ap (λ z. targets (after_byte_out x.1 z (Some id) byte old)) e
            ∙ device-becomes old id (device_took x.1 id (device_at old id) byte) h.stands ∙ ap (λ t. with_at (targets old) id t) (took-is (x.1 id) (targets old id) c byte h.link s),
      );
  refuses = λ old new byte taken id c x h s.
      let e : taken ≡ false = x.2.0 ∙ ap link_takes (link-is old id (TaskConnected c) h.connected h.link) ∙ s in
      (e, x.2.1 ∙ ap (λ z. after_byte_out x.1 z old.connected byte old) e);
}
