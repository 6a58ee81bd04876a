use Rattle.std.proofs.Common.{◌≡◌, ℕ, ◌-◌, ◌<◌, arith, length, get_or, sym, ◌∙◌, subst, refl}
use Rattle.std.proofs.lemmas.List.{get_or_default}
use Rattle.qual_solve.specs.declared.search.TheConstants.{UNREACHED}
use Rattle.qual_solve.proofs.Searches.{InMiddle, follows, middle_begins, middle_goes_on, middle_ends, head_few}
use Rattle.qual_solve.proofs.search.follow_all.Goals as goal

pub loop-bound-init : goal.loop-bound-init
loop-bound-init c =
    let head : c.args.head < length c.args.search.now.order.items = c.requires.head in
    let node : c.index-node.result.now ≡ get_or c.args.search.now.order.items c.args.head 0 = c.index-node.ensures ∙ get_or_default _ _ _ 0 head in
    let size : length c.args.search.now.distances.items ≡ length c.args.graph.now.index.last.items = c.requires.search.nodes in
    let s = c.requires.search.is_search in
    let inside : c.index-node.result.now < length c.args.graph.now.index.last.items = omega (arith, s.nodes c.args.head head) in
    let bound : c.index-bound.result.now ≡ get_or c.args.graph.now.index.last.items c.index-node.result.now 0 = c.index-bound.ensures ∙ get_or_default _ _ _ 0 inside in
    let P : ℕ → Type 0 = λ b. InMiddle c.args.graph.now.near.items c.args.graph.now.far.items c.args.search.now.start UNREACHED c.args.search.now.distances.items c.args.search.now.order.items c.args.head c.index-node.result.now b in
    (refl, size, subst P (sym bound) (middle_begins _ _ _ _ _ _ _ _ _ _ c.requires.graph.indexed s head (sym node) size))

pub index-requires : goal.index-requires
index-requires c = omega (arith, c.loop-bound.invariant.2.below, c.requires.graph.pairs, c.args.graph.now.far.ok.0)

pub follow-requires-clause-from : goal.follow-requires-clause-from
follow-requires-clause-from c =
    let m = c.loop-bound.invariant.2 in
    omega (arith, m.is_search.nodes c.args.head m.longer, m.at_head)

pub follow-requires-clause-to : goal.follow-requires-clause-to
follow-requires-clause-to c =
    let within : c.loop-bound.bound - 1 < length c.args.graph.now.far.items = omega (arith, c.loop-bound.invariant.2.below, c.requires.graph.pairs, c.loop-bound-test.true) in
    omega (arith, c.requires.graph.far_within (c.loop-bound.bound - 1) c.index.result.now within, c.index.ensures, c.loop-bound.invariant.1)

pub follow-requires-clause-reached : goal.follow-requires-clause-reached
follow-requires-clause-reached c =
    let m = c.loop-bound.invariant.2 in
    head_few _ _ _ _ _ _ _ _ m.is_search m.longer m.at_head

pub index-bound-requires-in-loop-bound : goal.index-bound-requires-in-loop-bound
index-bound-requires-in-loop-bound c =
    omega (arith, c.loop-bound.invariant.2.below, c.requires.graph.indexed.each, c.loop-bound-test.true, c.args.graph.now.index.before.ok.0)

pub loop-bound-preserved : goal.loop-bound-preserved
loop-bound-preserved c =
    let m = c.loop-bound.invariant.2 in
    let some : 0 < c.loop-bound.bound = c.loop-bound-test.true in
    let arrow = c.loop-bound.bound - 1 in
    let within : arrow < length c.args.graph.now.near.items = omega (arith, m.below) in
    let within_far : arrow < length c.args.graph.now.far.items = omega (arith, c.requires.graph.pairs) in
    let within_before : arrow < length c.args.graph.now.index.before.items = omega (arith, c.requires.graph.indexed.each) in
    let to : c.index.result.now ≡ get_or c.args.graph.now.far.items arrow 0 = c.index.ensures ∙ get_or_default _ _ _ 0 within_far in
    let inside : c.index.result.now < length c.loop-bound.search.distances.items =
    omega (arith, c.requires.graph.far_within arrow c.index.result.now within_far, c.index.ensures, c.loop-bound.invariant.1) in
    let next : c.index-bound-in-loop-bound.result.now ≡ get_or c.args.graph.now.index.before.items arrow 0 =
    c.index-bound-in-loop-bound.ensures ∙ get_or_default _ _ _ 0 within_before in
    let f = follows c.args.graph.now.near.items c.args.graph.now.far.items c.loop-bound.search.start UNREACHED c.loop-bound.search.distances.items
    c.loop-bound.search.order.items c.follow.new.search.distances.items c.follow.new.search.order.items c.args.head c.index-node.result.now arrow c.index.result.now
    m.is_search m.longer m.at_head within (m.there some) (sym to) inside c.in_ok-follow.ensures.distances c.in_ok-follow.ensures.order in
    let same : c.follow.new.search.start ≡ c.loop-bound.search.start = c.in_ok-follow.ensures.start in
    let P : ℕ → Type 0 = λ start. InMiddle c.args.graph.now.near.items c.args.graph.now.far.items start UNREACHED c.follow.new.search.distances.items
    c.follow.new.search.order.items c.args.head c.index-node.result.now c.index-bound-in-loop-bound.result.now in
    let Q : ℕ → Type 0 = λ bound. InMiddle c.args.graph.now.near.items c.args.graph.now.far.items c.loop-bound.search.start UNREACHED c.follow.new.search.distances.items
    c.follow.new.search.order.items c.args.head c.index-node.result.now bound in (
      same ∙ c.loop-bound.invariant.0,
      f.nodes ∙ c.loop-bound.invariant.1,
      subst P (sym same) (subst Q (sym next) (middle_goes_on _ _ _ _ _ _ _ _ _ _ _ _ _ c.requires.graph.indexed m some f)),
    )

pub returns-clause-search : goal.returns-clause-search
returns-clause-search c =
    record {
      nodes = c.loop-bound.invariant.1;
      is_search = middle_ends _ _ _ _ _ _ _ _ _ c.loop-bound.invariant.2 (omega (arith, c.loop-bound-test.false));
    }
