use Rattle.std.proofs.Common.{rules}
use Rattle.code_sweep.proofs.Begun.{call_found}
use Rattle.code_sweep.proofs.unit.call_unit_parts.Goals as goal

pub returns-then-starts-clause-found : goal.returns-then-starts-clause-found
returns-then-starts-clause-found c =
    call_found c.args.prefix c.args.bytes.now c.call_unit_bytes.result c.register.result _ _ c.register.ensures (search rules) (search rules)
    (search rules) c.call_unit_bytes.ensures (c.starts.ensures.0 c.if-starts.true)
