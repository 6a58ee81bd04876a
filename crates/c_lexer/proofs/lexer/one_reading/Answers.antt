use Rattle.c_lexer.proofs.ReadsLemmas.{is_read, one_list, one_place, list_or_place}
use Rattle.c_lexer.proofs.lexer.one_reading.Goals as goal

pub returns-clause-tokens : goal.returns-clause-tokens
returns-clause-tokens c = one_list

pub returns-clause-places : goal.returns-clause-places
returns-clause-places c = one_place

pub returns-clause-either : goal.returns-clause-either
returns-clause-either c = list_or_place

pub returns-clause-some : goal.returns-clause-some
returns-clause-some c = is_read
