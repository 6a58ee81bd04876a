use Rattle.std.proofs.Common.{◌∙◌, ap}
use Rattle.type_rules.specs.Gates.{gates_in}
use Rattle.type_rules.specs.Programs.{string_sizes}
use Rattle.c_types.proofs.KnownLemmas.{known_first}
use Rattle.c_types.proofs.program.first_known.Goals as goal

pub returns : goal.returns
returns c =
    known_first c.args.p.now c.args.functions.now c.nothing_known.result _ _ _ c.nothing_known.ensures
    (c.in_ok-string_sizes.ensures ∙ ap string_sizes c.as_slice-2.ensures) (c.in_ok-scope.ensures ∙ ap gates_in c.as_slice.ensures)
    c.in_ok-declare_functions.ensures
