use Rattle.std.proofs.Common.{nat_eq}
use Rattle.c_parser.proofs.TerminalLemmas.{tag_number}
use Rattle.c_parser.proofs.spot.same_terminal.Goals as goal

pub returns : goal.returns
returns c = λ i. nat_eq (tag_number c.args.one i) (tag_number c.args.other i)
