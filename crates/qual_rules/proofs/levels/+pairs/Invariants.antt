use Rattle.std.proofs.Common.{◌≡◌, ◌+◌, ◌*◌, ◌++◌, map, drop, sum}
use Rattle.std.specs.List.{flat_map}
use Rattle.qual_rules.specs.Flows.{both_ways}
use Rattle.qual_rules.specs.Levels.{compare_all, compare}
use Rattle.qual_rules.proofs.Counts.{levels_of}
use Rattle.qual_rules.proofs.levels.+pairs.Given as goal

abbrev pub decreases-push_pairs : goal.decreases-push_pairs
decreases-push_pairs l = 2 * levels_of l.a.now

abbrev pub decreases-push_all_pairs : goal.decreases-push_all_pairs
decreases-push_all_pairs l = 2 * sum (map levels_of l.one.now) + 1

-- what is put, with what the types that come give, is all
abbrev pub invariant-push_all_pairs-loop-i : goal.invariant-push_all_pairs-loop-i
invariant-push_all_pairs-loop-i l =
    l.out.items ++ flat_map (both_ways l.place) (compare_all (map compare (drop l.i l.one)) (drop l.i l.other)).pairs
    ≡ l.initial.out.items ++ flat_map (both_ways l.place) (compare_all (map compare l.one) l.other).pairs
