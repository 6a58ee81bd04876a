use Rattle.std.proofs.Common.{rules}
use Rattle.code_sweep.proofs.Eight.{return_cells}
use Rattle.code_sweep.proofs.unit.return_unit_bytes.Goals as goal

pub returns : goal.returns
returns c = return_cells c.args.prefix c.inverted.result c.return_word.result c.args.bit (search rules) c.inverted.ensures c.return_word.ensures
