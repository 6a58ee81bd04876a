use Rattle.std.proofs.Common.{◌≡◌, ◌+◌, ◌*◌, length, map, drop, sum}
use Rattle.qual_rules.specs.Levels.{compare_all, compare}
use Rattle.qual_rules.proofs.Counts.{levels_of}
use Rattle.qual_rules.proofs.levels.+shapes.Given as goal

abbrev pub decreases-have_one_shape : goal.decreases-have_one_shape
decreases-have_one_shape l = 2 * levels_of l.a.now

abbrev pub decreases-are_of_one_shape : goal.decreases-are_of_one_shape
decreases-are_of_one_shape l = 2 * sum (map levels_of l.one.now) + 1

abbrev pub invariant-are_of_one_shape-loop-i : goal.invariant-are_of_one_shape-loop-i
invariant-are_of_one_shape-loop-i l = record {
  together : length l.one ≡ length l.other;
  so_far : (compare_all (map compare (drop l.i l.one)) (drop l.i l.other)).same_shape ≡ (compare_all (map compare l.one) l.other).same_shape;
}
