use Rattle.taint_flow.specs.Places.{BeginsNowhereBelow}
use Rattle.taint_flow.proofs.places.search_from.Given as goal

abbrev pub invariant-loop-i : goal.invariant-loop-i
invariant-loop-i l = BeginsNowhereBelow l.items l.i l.place
