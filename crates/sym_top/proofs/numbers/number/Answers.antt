use Rattle.std.proofs.Common.{sym, subst}
use Rattle.sym_top.specs.CommandLine.{IsPlain}
use Rattle.sym_top.proofs.Decimals.{unplain_spells_none, some_of_parse, none_of_parse}
use Rattle.sym_top.proofs.numbers.number.Goals as goal

pub returns-then-not-is_plain-clause-none : goal.returns-then-not-is_plain-clause-none
returns-then-not-is_plain-clause-none c = λ _. unplain_spells_none c.args.word.now (λ plain. let yes = c.is_plain.ensures.1 (subst IsPlain (sym c.as_bytes.ensures.value) plain) in absurd cc)

pub returns-clause-found : goal.returns-clause-found
returns-clause-found c = rw c.ok.ensures.value (some_of_parse c.args.word.now c.parse.result (subst IsPlain c.as_bytes.ensures.value (c.is_plain.ensures.0 c.if-not-is_plain.false)) c.parse.ensures.value.0)

pub returns-clause-none : goal.returns-clause-none
returns-clause-none c = λ none. none_of_parse c.args.word.now c.parse.result c.parse.ensures.value.0 (rw c.ok.ensures.value at none)
