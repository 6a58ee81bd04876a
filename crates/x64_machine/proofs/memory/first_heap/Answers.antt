use Rattle.std.proofs.Common.{◌≡◌, ◌*◌, arith, rules, ap, length, ℕ}
use Rattle.x64_machine.proofs.StartLemmas.{stacks_aligned, heap_ends}
use Rattle.x64_machine.proofs.memory.first_heap.Goals as goal

pub new-requires-clause-end : goal.new-requires-clause-end
new-requires-clause-end c =
    let stack = c.requires.good.stack_size in
    let seg = c.requires.good.seg_size in
    let many : c.len.result ≡ length c.args.parts.now.entries.items = search rules in
    let same = ap (λ (n : ℕ). n * c.args.parts.now.stack_size) many in
    heap_ends c.args.count (c.len.result * c.args.parts.now.stack_size) c.args.parts.now.seg_size
    (stacks_aligned c.len.result c.args.parts.now.stack_size stack.0) seg.0 (omega (arith, same, c.requires.room))
