use Rattle.std.proofs.Common.{◌≡◌, ◌≤◌, ◌++◌, ◌∷◌, [], length, sym, ◌∙◌, ap, arith, inl, inr, refl, length-append, append-nil}
use Rattle.trace_text.specs.Grammar.{trace_of, first_line}
use Rattle.trace_text.proofs.Traces.{no_first_line, first_line_takes, next_takes, AreLines-push, trace-push, length-rest, texts, not_empty, is_nil, trace_start, begins_with_none}
use Rattle.trace_text.proofs.OneReading.{no_trace, one_trace}
use Rattle.std.proofs.lemmas.Grind.{common_steps}
use Rattle.trace_text.proofs.reading.read.Goals as goal

pub returns-in-None-clause-only : goal.returns-in-None-clause-only
returns-in-None-clause-only c = λ ls t. absurd (no_first_line c.args.version c.args.bytes.now (texts ls) (omega arith) (sym c.in-None.ensures) t.text)

pub returns-in-None-clause-fault : goal.returns-in-None-clause-fault
returns-in-None-clause-fault c = inl (refl, λ rest e. no_first_line c.args.version c.args.bytes.now rest (omega arith) (sym c.in-None.ensures) e)

pub loop-rest-init : goal.loop-rest-init
loop-rest-init c =
    let whole : c.args.bytes.now ≡ first_line c.args.version ++ c.in-Some.rest.now = first_line_takes c.args.version c.args.bytes.now c.in-Some.rest.now (sym c.in-Some.ensures) in
    let fewer : length c.in-Some.rest.now ≤ length c.args.bytes.now = omega (arith, ap length whole, length-append (first_line c.args.version) c.in-Some.rest.now) in
    rw c.new-lines.ensures.items (record { spelled = whole ∙ sym (trace_start c.args.version c.in-Some.rest.now); lines = tt; few = omega (arith, fewer) })

pub returns-in-None-next-clause-only : goal.returns-in-None-next-clause-only
returns-in-None-next-clause-only c = λ ls t.
    absurd (no_trace c.args.version c.args.bytes.now c.loop-rest.lines.items ls c.loop-rest.rest.now
    (record {
      lines = c.loop-rest.invariant.lines;
      text = c.loop-rest.invariant.spelled;
      none = λ l more are e. begins_with_none c.loop-rest.rest.now l more (sym c.in-None-next.ensures) are e;
    })
    (not_empty c.loop-rest.rest.now c.is_empty.result c.is_empty.ensures c.loop-rest-test.true) t)

pub returns-in-None-next-clause-fault : goal.returns-in-None-next-clause-fault
returns-in-None-next-clause-fault c =
    inr (
      c.loop-rest.lines.items,
      c.loop-rest.rest.now,
      c.loop-rest.invariant.lines,
      c.loop-rest.invariant.spelled,
      not_empty c.loop-rest.rest.now c.is_empty.result c.is_empty.ensures c.loop-rest-test.true,
      grind (arith, common_steps),
      λ l more are e. begins_with_none c.loop-rest.rest.now l more (sym c.in-None-next.ensures) are e,
    )

pub loop-rest-smaller : goal.loop-rest-smaller
loop-rest-smaller c =
    let t = next_takes c.loop-rest.rest.now c.in-Some-next.line c.in-Some-next.after.now (sym c.in-Some-next.ensures) in
    omega (arith, length-rest c.loop-rest.rest.now c.in-Some-next.after.now c.in-Some-next.line t.0)

pub loop-rest-preserved : goal.loop-rest-preserved
loop-rest-preserved c =
    let t = next_takes c.loop-rest.rest.now c.in-Some-next.line c.in-Some-next.after.now (sym c.in-Some-next.ensures) in
    let line = c.in-Some-next.line in
    let ls = c.loop-rest.lines.items in
    let shorter = length-rest c.loop-rest.rest.now c.in-Some-next.after.now line t.0 in
    rw c.in_ok-push-in-Some-next.ensures.items (record {
      spelled = c.loop-rest.invariant.spelled ∙ ap (λ r. trace_of c.args.version ls ++ r) t.0 ∙ trace-push c.args.version ls line c.in-Some-next.after.now;
      lines = AreLines-push ls line c.loop-rest.invariant.lines t.1;
      few = omega (arith, shorter, c.loop-rest.invariant.few, length-append ls (line ∷ []));
    })

pub returns-clause-only : goal.returns-clause-only
returns-clause-only c = λ ls t.
    let nil : c.loop-rest.rest.now ≡ [] = is_nil c.loop-rest.rest.now c.is_empty.result c.is_empty.ensures c.loop-rest-test.false in
    let whole : c.args.bytes.now ≡ trace_of c.args.version c.loop-rest.lines.items = c.loop-rest.invariant.spelled ∙ ap (λ r. trace_of c.args.version c.loop-rest.lines.items ++ r) nil ∙ append-nil (trace_of c.args.version c.loop-rest.lines.items) in
    c.of.ensures ∙ one_trace c.args.version c.args.bytes.now c.loop-rest.lines.items ls (record { lines = c.loop-rest.invariant.lines; text = whole }) t
