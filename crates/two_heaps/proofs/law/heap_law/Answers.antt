use Rattle.two_heaps.proofs.Laws.{fresh_is_heap, take_is_heap, give_is_heap}
use Rattle.two_heaps.proofs.Covers.{is_covered, is_free, none_beyond}
use Rattle.two_heaps.proofs.law.heap_law.Goals as goal

pub returns : goal.returns
returns c = record { fresh = fresh_is_heap; take = take_is_heap; give = give_is_heap; covered = is_covered; free = is_free; beyond = none_beyond }
