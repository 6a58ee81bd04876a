use Rattle.std.proofs.Common.{◌≡◌, ℕ, arith, length, sym, ◌∙◌, subst}
use Rattle.qual_solve.specs.Distances.{IsSearch, AreDistances}
use Rattle.qual_solve.specs.declared.search.TheConstants.{UNREACHED}
use Rattle.qual_solve.proofs.Searches.{search_ends}
use Rattle.qual_solve.proofs.search.distances.Goals as goal

pub loop-head-init : goal.loop-head-init
loop-head-init c =
    let same : c.in_ok-search.search.start ≡ c.args.start = c.in_ok-search.ensures.start in
    let nodes : length c.in_ok-search.search.distances.items ≡ length c.args.graph.now.index.last.items =
    omega (arith, c.in_ok-search.ensures.nodes, c.len.ensures, c.args.graph.now.index.last.ok.0) in
    let P : ℕ → Type 0 = λ start. IsSearch c.args.graph.now.near.items c.args.graph.now.far.items start UNREACHED c.in_ok-search.search.distances.items c.in_ok-search.search.order.items 0 in
    (same, record { nodes = nodes; is_search = subst P (sym same) (c.in_ok-search.ensures.search c.args.graph.now.near.items c.args.graph.now.far.items) })

pub loop-head-preserved : goal.loop-head-preserved
loop-head-preserved c = (c.follow_all.ensures.start ∙ c.loop-head.invariant.0, c.in_ok-follow_all.ensures.search)

pub loop-head-smaller : goal.loop-head-smaller
loop-head-smaller c =
    let s = c.loop-head.invariant.1.is_search in
    let nodes = c.loop-head.invariant.1.nodes in
    omega (arith, s.count, nodes, c.len-in-loop-head.ensures, c.loop-head-test.true, c.loop-head.search.order.ok.0)

pub returns-clause-nodes : goal.returns-clause-nodes
returns-clause-nodes c = c.loop-head.invariant.1.nodes

pub returns-clause-distances : goal.returns-clause-distances
returns-clause-distances c =
    let nodes = c.loop-head.invariant.1.nodes in
    let P : ℕ → Type 0 = λ start. AreDistances c.args.graph.now.near.items c.args.graph.now.far.items start UNREACHED c.loop-head.search.distances.items in
    subst P c.loop-head.invariant.0
    (search_ends _ _ _ _ _ _ c.loop-head.head c.loop-head.invariant.1.is_search (omega (arith, c.len-in-loop-head.ensures, c.loop-head-test.false, c.loop-head.search.order.ok.0))
    (λ arrow d within. omega (arith, c.requires.graph.near_within arrow d within, nodes)))
