use Rattle.std.proofs.Common.{ap, ◌∙◌, map}
use Rattle.c_parser.proofs.NameLemmas.{names_of_keys, number_of_key}
use Rattle.c_parser.proofs.tokens_words.number_name.Goals as goal

pub returns-clause-names : goal.returns-clause-names
returns-clause-names c = ap (map (λ k. k.now)) c.in_ok-number.ensures.keys ∙ names_of_keys (λ k. k.now) c.args.text c.args.names.now.keys

pub returns-clause-number : goal.returns-clause-number
returns-clause-number c = c.in_ok-number.ensures.index ∙ number_of_key (λ k. k.now) c.args.text.now c.args.names.now.keys
