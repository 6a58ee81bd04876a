use Rattle.std.proofs.Common.{◌&&◌, drop, sym, ap, ◌∙◌, arith}
use Rattle.std.proofs.lemmas.List.{length-drop}
use Rattle.c_parser.specs.Paths.{next_is}
use Rattle.c_grammar.specs.declared.words.Terminal.TheVariants.{Struct}
use Rattle.c_parser.proofs.ItemLemmas.{structure_short, structure_long}
use Rattle.c_parser.proofs.items.begins_structure.Goals as goal

pub returns-then-left-lt3 : goal.returns-then-left-lt3
returns-then-left-lt3 c = sym (structure_short (drop c.args.at c.args.words.now) (omega (arith, length-drop c.args.at c.args.words.now, c.if-left-lt3.true)))

pub returns : goal.returns
returns c = ap (λ b. b && c.next_is-braced.result) c.next_is-named.ensures ∙ ap (λ b. next_is (drop c.args.at c.args.words.now) Struct && b) c.next_is-braced.ensures ∙ sym (structure_long c.args.words.now c.args.at (omega (arith, c.if-left-lt3.false, c.if-at-words.false)))
