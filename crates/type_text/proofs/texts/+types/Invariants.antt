use Rattle.std.proofs.Common.{◌≡◌, ◌+◌, ◌*◌, ◌++◌, drop, map, sum}
use Rattle.type_text.specs.Texts as def
use Rattle.type_text.proofs.Measures.{levels_in}
use Rattle.type_text.proofs.texts.+types.Given as goal

abbrev pub decreases-put_before : goal.decreases-put_before
decreases-put_before l = 5 * levels_in l.ty.now + 2

abbrev pub decreases-put_behind : goal.decreases-put_behind
decreases-put_behind l = 5 * levels_in l.ty.now

abbrev pub decreases-put_parameters : goal.decreases-put_parameters
decreases-put_parameters l = 5 * sum (map levels_in l.params.now) + 4

abbrev pub decreases-put_listed : goal.decreases-put_listed
decreases-put_listed l = 5 * sum (map levels_in l.params.now) + 3

abbrev pub decreases-put_further : goal.decreases-put_further
decreases-put_further l = 5 * sum (map levels_in l.params.now) + 2

abbrev pub decreases-put_type : goal.decreases-put_type
decreases-put_type l = 5 * levels_in l.ty.now + 1

abbrev pub invariant-put_further-loop-ty : goal.invariant-put_further-loop-ty
invariant-put_further-loop-ty l =
    l.out.items ++ def.further (def.texts (map (def.said (def.reading l.names l.structs l.assignment)) (drop l.ty-index l.params)))
    ≡ l.initial.out.items ++ def.further (def.texts (map (def.said (def.reading l.names l.structs l.assignment)) l.params))
