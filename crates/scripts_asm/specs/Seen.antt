-- The program's lines as those of the grammar. No public contract rests on these.
use Rattle.std.specs.Prelude.{ℕ, List, map, option_map}
use Rattle.std.specs.Borrow.{Bor}
use Rattle.scripts_forms.specs.Seen.{all_seen}
use Rattle.scripts_asm.specs.declared.lines.Body.{Body}
use Rattle.scripts_asm.specs.declared.lines.Body.TheVariants.{Nothing, Absolute, Instruction, BadToken, BadForm}
use Rattle.scripts_asm.specs.declared.lines.Line.{Line}
use Rattle.scripts_forms.specs.Lines as grammar

abbrev pub seen_body : Body → grammar.Body
seen_body Nothing = grammar.Nothing
seen_body (Absolute name n) = grammar.Absolute name.now n
seen_body (Instruction s vs) = grammar.Instruction s (all_seen vs.items)
seen_body BadToken = grammar.BadToken
seen_body BadForm = grammar.BadForm

abbrev pub seen_line : Line → grammar.Line
seen_line l = record { label = option_map (λ name. name.now) l.label; body = seen_body l.body }

abbrev pub all_lines : List Line → List grammar.Line
all_lines ls = map seen_line ls

abbrev pub all_texts : List (Bor (List ℕ)) → List (List ℕ)
all_texts ts = map (λ t. t.now) ts
