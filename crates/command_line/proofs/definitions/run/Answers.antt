use Rattle.command_line.proofs.DefinitionLemmas.{last_one, one_more}
use Rattle.command_line.proofs.definitions.run.Goals as goal

pub returns : goal.returns
returns c =
    let name = one_more c.in_ok-arg.ensures c.new.ensures.app c.capital.ensures.rule c.capital.ensures.local in
    let steps = one_more c.in_ok-arg-2.ensures name c.capital-2.ensures.rule c.capital-2.ensures.local in
    let schedule = one_more c.in_ok-arg-3.ensures steps c.option.ensures.rule c.option.ensures.local in
    let public = one_more c.in_ok-arg-4.ensures schedule c.option-2.ensures.rule c.option-2.ensures.local in
    let private = one_more c.in_ok-arg-5.ensures public c.option-3.ensures.rule c.option-3.ensures.local in
    let private_out = one_more c.in_ok-arg-6.ensures private c.option-4.ensures.rule c.option-4.ensures.local in
    last_one c.arg-7.result _ c.option-5.result _ _ c.arg-7.ensures private_out c.option-5.ensures.rule c.option-5.ensures.local
