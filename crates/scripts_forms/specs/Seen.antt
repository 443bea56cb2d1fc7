-- The program's tokens as those of the grammar.
use Rattle.std.specs.Prelude.{List, map}
use Rattle.scripts_forms.specs.declared.tokens.Token.{Token}
use Rattle.scripts_forms.specs.declared.tokens.Token.TheVariants.{Reserved, Mark, Number, Name, Bad}
use Rattle.scripts_forms.specs.Tokens as grammar

abbrev pub seen : Token → grammar.Token
seen (Reserved w) = grammar.Reserved w
seen (Mark m) = grammar.Mark m
seen (Number n) = grammar.Number n
seen (Name run) = grammar.Name run.now
seen Bad = grammar.Bad

abbrev pub all_seen : List Token → List grammar.Token
all_seen ts = map seen ts
