-- A file that is told is read in one way: its bytes are one table at most, whose first fault is one.
use Rattle.std.proofs.Common.{◌≡◌, ℕ, List, Option, Some, Ok, Err, ap, sym, subst, ◌∙◌, inl, inr}
use Rattle.sym_io.specs.ByName.{FilesByName}
use Rattle.rig_types.specs.declared.fault.BadKind.{BadKind}
use Rattle.rig_types.specs.declared.fault.ReadFault.TheVariants.{Bad}
use Rattle.rig_types.specs.declared.rig.Rig.{Rig}
use Rattle.rig_types.specs.declared.work.Work.{Work}
use Rattle.toml.specs.Data.{Members}
use Rattle.file_keys.specs.Faults.{Fault as KeyFault, at}
use Rattle.file_keys.specs.Documents.{IsDocument, ReadsFile}
use Rattle.rig_reader.specs.RigFile.{plain, rig_fault, rig_of}
use Rattle.work_reader.specs.WorkFile.{plain_work, work_fault, work_of}
use Rattle.trace_text.specs.declared.types.TraceLine.{TraceLine}
use Rattle.trace_text.specs.Grammar.{IsTrace}
use Rattle.trace_text.proofs.OneReading as text
use Rattle.refusal_lines.specs.declared.fault.Fault.{Fault}
use Rattle.refusal_lines.specs.declared.fault.Fault.TheVariants as faults
use Rattle.run_files.specs.Reading.{SpellsRig, SpellsWork, IsRigFault, IsTraceFault, IsWorkFault}
use Rattle.run_files.specs.Loading.{HasIn}
use Rattle.run_files.specs.Laws.{OneOf, OneRig, OneTrace, OneWork}
use Rattle.run_files.proofs.SameRecords.{rig-is, work-is}

-- what holds of bytes once, holds of a file that is told once
of-file : {A : Type 0} (limit : ℕ) (held : FilesByName) (name : List ℕ) (Says : List ℕ → A → Type 0) (Fails : List ℕ → Fault → Type 0)
    → ((bytes : List ℕ) → OneOf (Says bytes) (Fails bytes)) → OneOf (HasIn limit (Some held) name Says) (HasIn limit (Some held) name Fails)
of-file {A} limit held name Says Fails one = record {
  value = λ a b (x, i, p) (y, j, q). (one y).value a b (subst (λ (bytes : List ℕ). Says bytes a) (i.whole ∙ sym j.whole) p) q;
  either = λ a f (x, i, p) (y, j, q). (one y).either a f (subst (λ (bytes : List ℕ). Says bytes a) (i.whole ∙ sym j.whole) p) q;
  fault = λ e f (x, i, p) (y, j, q). (one y).fault e f (subst (λ (bytes : List ℕ). Fails bytes e) (i.whole ∙ sym j.whole) p) q;
}

-- ---- tables

same-table : (bytes : List ℕ) (ms ns : Members) → IsDocument bytes ms → IsDocument bytes ns → ms ≡ ns
same-table bytes ms ns i j = let both : Some ms ≡ Some ns = sym i.table ∙ j.table in cc

one-value : {A D : Type 0} (bytes : List ℕ) (fault : Members → Option KeyFault) (data_of : A → D) (said : Members → D) → ((a b : A) → data_of a ≡ data_of b → a ≡ b)
    → (a b : A) → ReadsFile (Ok a) bytes fault (λ ms x. data_of x ≡ said ms) → ReadsFile (Ok b) bytes fault (λ ms x. data_of x ≡ said ms) → a ≡ b
one-value bytes fault data_of said is a b (ms, i, none, p) (ns, j, never, q) = is a b (p ∙ ap said (same-table bytes ms ns i j) ∙ sym q)

no-fault : {A : Type 0} (bytes : List ℕ) (fault : Members → Option KeyFault) (P : Members → A → Type 0) (a : A) (key : List ℕ) (kind : BadKind)
    → ReadsFile (Ok a) bytes fault P → ReadsFile {A = A} (Err (Bad key kind)) bytes fault P → ⊥
no-fault bytes fault P a key kind (ms, i, none, p) (inl refused) = refused.2 ms i
no-fault bytes fault P a key kind (ms, i, none, p) (inr (ns, j, found)) = let same : fault ms ≡ fault ns = ap fault (same-table bytes ms ns i j) in absurd cc

same-fault : {A : Type 0} (bytes : List ℕ) (fault : Members → Option KeyFault) (P : Members → A → Type 0) (key key' : List ℕ) (kind kind' : BadKind)
    → ReadsFile {A = A} (Err (Bad key kind)) bytes fault P → ReadsFile {A = A} (Err (Bad key' kind')) bytes fault P → at key kind ≡ at key' kind'
same-fault bytes fault P key key' kind kind' (inl r) (inl s) = let k : key ≡ key' = r.0 ∙ sym s.0 in let m : kind ≡ kind' = r.1 ∙ sym s.1 in cc
same-fault bytes fault P key key' kind kind' (inl r) (inr (ns, j, found)) = absurd (r.2 ns j)
same-fault bytes fault P key key' kind kind' (inr (ms, i, found)) (inl s) = absurd (s.2 ms i)
same-fault bytes fault P key key' kind kind' (inr (ms, i, found)) (inr (ns, j, given)) =
    let same : fault ms ≡ fault ns = ap fault (same-table bytes ms ns i j) in
    let both : Some (at key kind) ≡ Some (at key' kind') = sym found ∙ same ∙ given in
    cc

-- ---- rigs

no-rig-fault : (bytes : List ℕ) (r : Rig) (f : Fault) → SpellsRig bytes r → IsRigFault bytes f → ⊥
no-rig-fault bytes r (faults.Rig key kind) s b = no-fault bytes rig_fault (λ (ms : Members) (r : Rig). plain r ≡ rig_of ms) r key kind s b
no-rig-fault bytes r (faults.Work key kind) s b = b
no-rig-fault bytes r (faults.Source line fault) s b = b
no-rig-fault bytes r (faults.TraceLine line) s b = b
no-rig-fault bytes r (faults.UnknownStep step) s b = b
no-rig-fault bytes r (faults.TraceStep step) s b = b
no-rig-fault bytes r faults.NotDrained s b = b

same-rig-fault : (bytes : List ℕ) (e f : Fault) → IsRigFault bytes e → IsRigFault bytes f → e ≡ f
same-rig-fault bytes (faults.Rig k m) (faults.Rig l n) a b =
    ap (λ (x : KeyFault). faults.Rig x.key x.kind) (same-fault bytes rig_fault (λ (ms : Members) (r : Rig). plain r ≡ rig_of ms) k l m n a b)
same-rig-fault bytes (faults.Rig k m) (faults.Work l n) a b = absurd b
same-rig-fault bytes (faults.Rig k m) (faults.Source line fault) a b = absurd b
same-rig-fault bytes (faults.Rig k m) (faults.TraceLine line) a b = absurd b
same-rig-fault bytes (faults.Rig k m) (faults.UnknownStep step) a b = absurd b
same-rig-fault bytes (faults.Rig k m) (faults.TraceStep step) a b = absurd b
same-rig-fault bytes (faults.Rig k m) faults.NotDrained a b = absurd b
same-rig-fault bytes (faults.Work k m) f a b = absurd a
same-rig-fault bytes (faults.Source line fault) f a b = absurd a
same-rig-fault bytes (faults.TraceLine line) f a b = absurd a
same-rig-fault bytes (faults.UnknownStep step) f a b = absurd a
same-rig-fault bytes (faults.TraceStep step) f a b = absurd a
same-rig-fault bytes faults.NotDrained f a b = absurd a

rig-bytes : (bytes : List ℕ) → OneOf (SpellsRig bytes) (IsRigFault bytes)
rig-bytes bytes = record { value = one-value bytes rig_fault plain rig_of rig-is; either = no-rig-fault bytes; fault = same-rig-fault bytes }

pub one_rig : OneRig
one_rig held name = of-file 4194304 held name SpellsRig IsRigFault rig-bytes

-- ---- works

no-work-fault : (bytes : List ℕ) (w : Work) (f : Fault) → SpellsWork bytes w → IsWorkFault bytes f → ⊥
no-work-fault bytes w (faults.Rig key kind) s b = b
no-work-fault bytes w (faults.Work key kind) s b = no-fault bytes work_fault (λ (ms : Members) (w : Work). plain_work w ≡ work_of ms) w key kind s b
no-work-fault bytes w (faults.Source line fault) s b = b
no-work-fault bytes w (faults.TraceLine line) s b = b
no-work-fault bytes w (faults.UnknownStep step) s b = b
no-work-fault bytes w (faults.TraceStep step) s b = b
no-work-fault bytes w faults.NotDrained s b = b

same-work-fault : (bytes : List ℕ) (e f : Fault) → IsWorkFault bytes e → IsWorkFault bytes f → e ≡ f
same-work-fault bytes (faults.Work k m) (faults.Work l n) a b =
    ap (λ (x : KeyFault). faults.Work x.key x.kind) (same-fault bytes work_fault (λ (ms : Members) (w : Work). plain_work w ≡ work_of ms) k l m n a b)
same-work-fault bytes (faults.Work k m) (faults.Rig l n) a b = absurd b
same-work-fault bytes (faults.Work k m) (faults.Source line fault) a b = absurd b
same-work-fault bytes (faults.Work k m) (faults.TraceLine line) a b = absurd b
same-work-fault bytes (faults.Work k m) (faults.UnknownStep step) a b = absurd b
same-work-fault bytes (faults.Work k m) (faults.TraceStep step) a b = absurd b
same-work-fault bytes (faults.Work k m) faults.NotDrained a b = absurd b
same-work-fault bytes (faults.Rig k m) f a b = absurd a
same-work-fault bytes (faults.Source line fault) f a b = absurd a
same-work-fault bytes (faults.TraceLine line) f a b = absurd a
same-work-fault bytes (faults.UnknownStep step) f a b = absurd a
same-work-fault bytes (faults.TraceStep step) f a b = absurd a
same-work-fault bytes faults.NotDrained f a b = absurd a

work-bytes : (bytes : List ℕ) → OneOf (SpellsWork bytes) (IsWorkFault bytes)
work-bytes bytes = record { value = one-value bytes work_fault plain_work work_of work-is; either = no-work-fault bytes; fault = same-work-fault bytes }

pub one_work : OneWork
one_work held name = of-file 4194304 held name SpellsWork IsWorkFault work-bytes

-- ---- traces

no-trace-fault : (version : ℕ) (bytes : List ℕ) (ls : List TraceLine) (f : Fault) → IsTrace version bytes ls → IsTraceFault version bytes f → ⊥
no-trace-fault version bytes ls (faults.TraceLine line) s b = (text.one_reading version bytes).either ls line s b
no-trace-fault version bytes ls (faults.Rig key kind) s b = b
no-trace-fault version bytes ls (faults.Work key kind) s b = b
no-trace-fault version bytes ls (faults.Source line fault) s b = b
no-trace-fault version bytes ls (faults.UnknownStep step) s b = b
no-trace-fault version bytes ls (faults.TraceStep step) s b = b
no-trace-fault version bytes ls faults.NotDrained s b = b

same-trace-fault : (version : ℕ) (bytes : List ℕ) (e f : Fault) → IsTraceFault version bytes e → IsTraceFault version bytes f → e ≡ f
same-trace-fault version bytes (faults.TraceLine m) (faults.TraceLine n) a b = ap (λ (k : ℕ). faults.TraceLine k) ((text.one_reading version bytes).fault m n a b)
same-trace-fault version bytes (faults.TraceLine m) (faults.Rig k n) a b = absurd b
same-trace-fault version bytes (faults.TraceLine m) (faults.Work k n) a b = absurd b
same-trace-fault version bytes (faults.TraceLine m) (faults.Source line fault) a b = absurd b
same-trace-fault version bytes (faults.TraceLine m) (faults.UnknownStep step) a b = absurd b
same-trace-fault version bytes (faults.TraceLine m) (faults.TraceStep step) a b = absurd b
same-trace-fault version bytes (faults.TraceLine m) faults.NotDrained a b = absurd b
same-trace-fault version bytes (faults.Rig k m) f a b = absurd a
same-trace-fault version bytes (faults.Work k m) f a b = absurd a
same-trace-fault version bytes (faults.Source line fault) f a b = absurd a
same-trace-fault version bytes (faults.UnknownStep step) f a b = absurd a
same-trace-fault version bytes (faults.TraceStep step) f a b = absurd a
same-trace-fault version bytes faults.NotDrained f a b = absurd a

trace-bytes : (version : ℕ) (bytes : List ℕ) → OneOf (IsTrace version bytes) (IsTraceFault version bytes)
trace-bytes version bytes = record { value = (text.one_reading version bytes).lines; either = no-trace-fault version bytes; fault = same-trace-fault version bytes }

pub one_trace : OneTrace
one_trace version held name = of-file 67108864 held name (IsTrace version) (IsTraceFault version) (trace-bytes version)
