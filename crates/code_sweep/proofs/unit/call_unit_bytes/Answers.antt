use Rattle.std.proofs.Common.{rules}
use Rattle.code_sweep.proofs.Eight.{call_cells}
use Rattle.code_sweep.proofs.unit.call_unit_bytes.Goals as goal

pub returns : goal.returns
returns c = call_cells c.args.prefix c.inverted.result c.call_word.result c.args.register c.args.bits (search rules) c.inverted.ensures c.call_word.ensures c.requires.register
