use Rattle.std.proofs.Common.{◌≡◌, true, rules, arith}
use Rattle.qual_rules.specs.Levels.{compare}
use Rattle.qual_rules.proofs.Appends.{ends_two}
use Rattle.qual_rules.proofs.Counts.{levels_of, one_part}
use Rattle.qual_rules.proofs.Equations.{same_lengths, function_levels, functions_put, pointers_put}
use Rattle.qual_rules.proofs.levels.+pairs.Goals as goal

pub push_all_pairs-push_pairs-requires : goal.push_all_pairs-push_pairs-requires
push_all_pairs-push_pairs-requires t c =
    let part = one_part levels_of c.args.one.now c.loop-i.i c.index-one-i.result c.loop-i-test.true c.index-one-i.is in
    (omega (arith, c.decreases), tt)

pub push_pairs-push_all_pairs-requires : goal.push_pairs-push_all_pairs-requires
push_pairs-push_all_pairs-requires t c =
    let shape : (compare c.args.a.now c.args.b.now).same_shape ≡ true = search rules in
    let same = same_lengths c.args.a.now c.args.b.now c.in-Fun-Fun.one c.in-Fun-Fun.other c.in-Fun-Fun.types c.in-Fun-Fun.others c.in-Fun-Fun.is-0 c.in-Fun-Fun.is-1 shape in
    let levels = function_levels c.args.a.now c.in-Fun-Fun.one c.in-Fun-Fun.types c.in-Fun-Fun.is-0 in
    (rw c.as_slice.ensures (omega (arith, c.decreases)), rw (c.as_slice.ensures, c.as_slice-in-Fun-Fun.ensures) same)

pub push_pairs-returns-in_ok-push_both_ways-in-Ptr-Ptr :
    goal.push_pairs-returns-in_ok-push_both_ways-in-Ptr-Ptr
push_pairs-returns-in_ok-push_both_ways-in-Ptr-Ptr t c =
    ends_two c.push_pairs.result c.args.out.now.items _ _ c.push_both_ways.new.out.items c.push_pairs.new.out.items _ c.in_ok-push_both_ways-in-Ptr-Ptr.ensures c.push_pairs.ensures
    (pointers_put c.args.place c.args.a.now c.args.b.now c.in-Ptr-Ptr.a c.in-Ptr-Ptr.b c.get.result.now c.get-in-Ptr-Ptr.result.now c.in-Ptr-Ptr.q c.in-Ptr-Ptr.r c.in-Ptr-Ptr.is-0 c.in-Ptr-Ptr.is-1 c.get.ensures c.get-in-Ptr-Ptr.ensures)

pub push_pairs-returns-in_ok-push_pairs-in-Fun-Fun :
    goal.push_pairs-returns-in_ok-push_pairs-in-Fun-Fun
push_pairs-returns-in_ok-push_pairs-in-Fun-Fun t c =
    let shape : (compare c.args.a.now c.args.b.now).same_shape ≡ true = search rules in
    ends_two c.push_all_pairs.result c.args.out.now.items _ _ c.push_pairs-in-Fun-Fun.new.out.items c.push_all_pairs.new.out.items _ c.in_ok-push_pairs-in-Fun-Fun.ensures c.push_all_pairs.ensures
    (functions_put c.args.place c.args.a.now c.args.b.now c.in-Fun-Fun.one c.in-Fun-Fun.other c.get-in-Fun-Fun.result.now c.get-in-Fun-Fun-2.result.now
    c.in-Fun-Fun.types c.in-Fun-Fun.others c.as_slice.result.now c.as_slice-in-Fun-Fun.result.now c.in-Fun-Fun.is-0 c.in-Fun-Fun.is-1
    c.get-in-Fun-Fun.ensures c.get-in-Fun-Fun-2.ensures c.as_slice.ensures c.as_slice-in-Fun-Fun.ensures shape)
