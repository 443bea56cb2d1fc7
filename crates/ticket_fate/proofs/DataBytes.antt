-- The bytes of the data phases and the pointers, and what they make of the buffer.
use Rattle.std.proofs.Common.{◌≡◌, ℕ, ◌+◌, ◌≤◌, ◌<◌, max, Bool, false, List, length, refl, ap, arith, sym, ◌∙◌, subst, Option, Some, None}
use Rattle.std.specs.Prelude.{slice_get}
use Rattle.std.proofs.lemmas.List.{length-take-le}
use Rattle.std.proofs.lemmas.Option.{slice_get_within}
use Rattle.scsi_words.specs.declared.phases.kinds.Direction.{Direction}
use Rattle.scsi_words.specs.declared.phases.kinds.Direction.TheVariants.{In, Out, None as NoData}
use Rattle.cdb_codec.specs.Forms.{need_of}
use Rattle.plain_lun.specs.Unit.{UnitState}
use Rattle.plain_lun.specs.Performing.{Answered, wants_now}
use Rattle.plain_lun.proofs.Laws.{wants-most}
use Rattle.unit_law.specs.Request.{RequestData, command, received_of}
use Rattle.unit_law.specs.Log.{View}
use Rattle.unit_law.specs.Report.{holding, data_of}
use Rattle.target_law.specs.Session.{Task}
use Rattle.target_law.specs.Bytes.{advanced, put, data_at}
use Rattle.target_law.specs.Sound.{HasMoved, IsSoundTask}
use Rattle.ticket_fate.specs.Tickets.{IsAccepted}
use Rattle.ticket_fate.specs.Fates.{HasTask}
use Rattle.ticket_fate.proofs.Buffers.{filled-put, taken-put, get-take}

-- a command that has something to send is kept and sends
sends-data : (d : Direction) (o : Option Answered) (u : UnitState) (k : Task) (p b : ℕ) → HasMoved d o u k → data_at o p ≡ Some b
    → (d ≡ In) × (k.high ≤ length (data_of o)) × (length (data_of o) ≤ (need_of k.cdb).bytes) × (slice_get (data_of o) p ≡ Some b)
sends-data In (Some a) u k p b m e = (refl, m.0, m.1, e)
sends-data In None u k p b m e = cc
sends-data Out (Some a) u k p b m e = absurd m
sends-data Out None u k p b m e = cc
sends-data NoData (Some a) u k p b m e = absurd m
sends-data NoData None u k p b m e = cc

-- the buffer's way is the command's, where it needs a byte
pub same-way : (r : RequestData) (x : Task) (d : Direction) → IsAccepted r → x.cdb ≡ command r → 0 < (need_of x.cdb).bytes → (need_of x.cdb).direction ≡ d → r.direction ≡ d
same-way r x d a e n w =
    let some : 0 < (need_of (command r)).bytes = subst (λ c. 0 < (need_of c).bytes) e n in
    sym (a.way some) ∙ sym (ap (λ c. (need_of c).direction) e) ∙ w

-- a byte that the task had goes to its place in the buffer
pub given : (n : ℕ) (r : RequestData) (named tries : ℕ) (buffer : List ℕ) (x : Task) (v : View) (u : UnitState) (b : ℕ) → IsAccepted r → IsSoundTask u x → x.fresh ≡ false
    → HasTask n r named tries buffer x v → data_at x.kept x.position ≡ Some b → HasTask n r named tries (put buffer x.position b) (advanced x x.received) v
given n r named tries buffer x v u b a i f q e =
    let m = sends-data (need_of x.cdb).direction x.kept u x x.position b i.moved e in
    let c : x.position < length (data_of x.kept) = slice_get_within (data_of x.kept) x.position b m.3 in
    let w : r.direction ≡ In = same-way r x In a q.cdb (omega (arith, m.2, c)) m.0 in
    let d = data_of x.kept in
    record {
      tag = q.tag;
      cdb = q.cdb;
      plain = q.plain;
      tried = q.tried;
      most = q.most;
      ends = q.ends;
      drops = q.drops;
      high = q.high;
      senses = q.senses;
      looks = q.looks;
      looked = q.looked;
      answer = q.answer;
      received = λ o. let s : In ≡ Out = sym m.0 ∙ o in cc;
      holds = ap (λ z. put z x.position b) (q.holds ∙ ap (λ y. holding y d x.high r.bytes) w)
          ∙ filled-put x.position b d x.high r.bytes i.position m.1 m.3
          ∙ ap (λ y. holding y d (max x.high (x.position + 1)) r.bytes) (sym w);
      fresh = λ z. cc;
    }

-- what was received by then
unkept-length : (d : Direction) (o : Option Answered) (u : UnitState) (k : Task) → d ≡ Out → HasMoved d o u k → (o ≡ None) × (k.high ≡ length k.received) × (length k.received ≤ (wants_now u k.cdb).bytes)
unkept-length In o u k e m = cc
unkept-length Out (Some a) u k e m = absurd m
unkept-length Out None u k e m = (refl, m.0, m.1)
unkept-length NoData o u k e m = cc

-- byte `position` of the buffer goes to a write
pub taken : (n : ℕ) (r : RequestData) (named tries : ℕ) (buffer : List ℕ) (x : Task) (v : View) (u : UnitState) (b : ℕ) → IsAccepted r → IsSoundTask u x → x.fresh ≡ false
    → (need_of x.cdb).direction ≡ Out → x.position < (wants_now u x.cdb).bytes
    → HasTask n r named tries buffer x v → slice_get buffer x.position ≡ Some b → HasTask n r named tries buffer (advanced x (put x.received x.position b)) v
taken n r named tries buffer x v u b a i f o l q e =
    let m = unkept-length (need_of x.cdb).direction x.kept u x o i.moved in
    let few : (wants_now u x.cdb).bytes ≤ (need_of x.cdb).bytes = wants-most u x.cdb in
    let w : r.direction ≡ Out = same-way r x Out a q.cdb (omega arith) o in
    let held : buffer ≡ r.bytes = q.holds ∙ ap (λ y. holding y (data_of x.kept) x.high r.bytes) w in
    let enough : (need_of x.cdb).bytes ≤ length r.bytes = subst (λ c. (need_of c).bytes ≤ length r.bytes) (sym q.cdb) a.enough in
    let size : length (received_of r) ≡ (need_of x.cdb).bytes = length-take-le (need_of (command r)).bytes r.bytes a.enough ∙ sym (ap (λ c. (need_of c).bytes) q.cdb) in
    let same : (need_of x.cdb).bytes ≡ (need_of (command r)).bytes = ap (λ c. (need_of c).bytes) q.cdb in
    let got : slice_get r.bytes x.position ≡ Some b = ap (λ z. slice_get z x.position) (sym held) ∙ e in
    let here : slice_get (received_of r) x.position ≡ Some b = get-take r.bytes (need_of (command r)).bytes x.position b (omega arith) got in
    let most : x.high ≤ length (received_of r) = omega (arith, m.1, m.2) in
    record {
      tag = q.tag;
      cdb = q.cdb;
      plain = q.plain;
      tried = q.tried;
      most = q.most;
      ends = q.ends;
      drops = q.drops;
      high = q.high;
      senses = q.senses;
      looks = q.looks;
      looked = q.looked;
      answer = q.answer;
      received = λ z. ap (λ y. put y x.position b) (q.received z) ∙ taken-put x.position b (received_of r) x.high i.position most here;
      holds = held ∙ ap (λ y. holding y (data_of x.kept) (max x.high (x.position + 1)) r.bytes) (sym w);
      fresh = λ z. cc;
    }

-- other pointers: what was saved and where it stands
pub pointed : (n : ℕ) (r : RequestData) (named tries : ℕ) (buffer : List ℕ) (x : Task) (v : View) (position saved : ℕ) (just : Bool)
    → HasTask n r named tries buffer x v → HasTask n r named tries buffer (record x { position = position; saved = saved; just_moved = just }) v
pointed n r named tries buffer x v position saved just q = record {
  tag = q.tag;
  cdb = q.cdb;
  plain = q.plain;
  tried = q.tried;
  most = q.most;
  ends = q.ends;
  drops = q.drops;
  high = q.high;
  senses = q.senses;
  looks = q.looks;
  looked = q.looked;
  answer = q.answer;
  received = q.received;
  holds = q.holds;
  fresh = q.fresh;
}
