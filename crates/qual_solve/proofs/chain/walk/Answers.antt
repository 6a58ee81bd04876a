use Rattle.std.proofs.Common.{◌≡◌, ℕ, ◌<◌, List, get_or, sym, ap, subst, arith}
use Rattle.qual_solve.specs.declared.search.TheConstants.{UNREACHED}
use Rattle.c_ast.specs.declared.qualifiers.Qual.TheVariants.{Fixed}
use Rattle.cv_word.specs.declared.registers.Taint.TheVariants.{Priv}
use Rattle.qual_solve.specs.Leaks.{IsBestFrom}
use Rattle.qual_solve.specs.Ends.{node_of}
use Rattle.qual_solve.proofs.Numbered.{fallback}
use Rattle.qual_solve.proofs.Ways.{Known, IsWalking, walk_begins, walk_goes_on, walk_ends}
use Rattle.qual_solve.proofs.chain.walk.Goals as goal

pub loop-end-init : goal.loop-end-init
loop-end-init c =
    walk_begins c.args.list.now c.args.at UNREACHED c.args.distances.now c.new-numbers.result.items
    (record { some = omega arith; nodes = c.requires.nodes; to = c.requires.distances }) c.requires.some c.requires.reached c.new-numbers.ensures.items

pub loop-end-preserved : goal.loop-end-preserved
loop-end-preserved c =
    let known : Known c.args.list.now c.args.at UNREACHED c.args.distances.now = record { some = omega arith; nodes = c.requires.nodes; to = c.requires.distances } in
    let node : c.node-in-loop-end.result ≡ node_of c.loop-end.end = c.node-in-loop-end.ensures in
    let number = get_or c.args.next.now c.node-in-loop-end.result 0 in
    let some : 0 < get_or c.args.distances.now (node_of c.loop-end.end) 0 = omega (arith, c.loop-end-test.true, ap (λ n. get_or c.args.distances.now n 0) c.node.ensures) in
    let w = walk_goes_on c.args.list.now c.args.at UNREACHED c.args.distances.now c.args.next.now c.loop-end.numbers.items known c.requires.next
    c.loop-end.end c.loop-end.invariant some number (ap (λ n. get_or c.args.next.now n 0) node) fallback in
    let P : List ℕ → Type 0 = λ xs. IsWalking c.args.list.now c.args.at UNREACHED c.args.distances.now xs (get_or c.args.list.now number fallback).to in
    subst P (sym c.in_ok-push.ensures.items) w.goes_on

pub loop-end-smaller : goal.loop-end-smaller
loop-end-smaller c =
    let known : Known c.args.list.now c.args.at UNREACHED c.args.distances.now = record { some = omega arith; nodes = c.requires.nodes; to = c.requires.distances } in
    let node : c.node-in-loop-end.result ≡ node_of c.loop-end.end = c.node-in-loop-end.ensures in
    let number = get_or c.args.next.now c.node-in-loop-end.result 0 in
    let some : 0 < get_or c.args.distances.now (node_of c.loop-end.end) 0 = omega (arith, c.loop-end-test.true, ap (λ n. get_or c.args.distances.now n 0) c.node.ensures) in
    let w = walk_goes_on c.args.list.now c.args.at UNREACHED c.args.distances.now c.args.next.now c.loop-end.numbers.items known c.requires.next
    c.loop-end.end c.loop-end.invariant some number (ap (λ n. get_or c.args.next.now n 0) node) fallback in
    w.nearer

pub returns : goal.returns
returns c =
    let P : List ℕ → Type 0 = λ xs. IsBestFrom c.args.list.now (Fixed Priv) c.args.at xs in
    subst P (sym c.from_vec.ensures)
    (walk_ends c.args.list.now c.args.at UNREACHED c.args.distances.now c.loop-end.numbers.items c.push-2.new.self.items
    (record { some = omega arith; nodes = c.requires.nodes; to = c.requires.distances }) c.loop-end.end c.loop-end.invariant
    (omega (arith, c.loop-end-test.false, ap (λ n. get_or c.args.distances.now n 0) c.node.ensures)) c.in_ok-push-2.ensures.items)
