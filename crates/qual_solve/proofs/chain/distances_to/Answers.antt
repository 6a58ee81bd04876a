use Rattle.std.proofs.Common.{◌∙◌}
use Rattle.qual_solve.specs.declared.search.TheConstants.{UNREACHED}
use Rattle.qual_solve.proofs.Numbered.{fallback, lefts_within, rights_within, distances_to}
use Rattle.qual_solve.proofs.chain.distances_to.Goals as goal

pub new-requires-clause-near : goal.new-requires-clause-near
new-requires-clause-near c = rights_within c.args.nodes c.args.list.now c.in_ok-near.near.items c.in_ok-near.ensures c.requires.nodes

pub new-requires-clause-far : goal.new-requires-clause-far
new-requires-clause-far c = lefts_within c.args.nodes c.args.list.now c.in_ok-far.far.items c.in_ok-far.ensures c.requires.nodes

pub returns-clause-distances : goal.returns-clause-distances
returns-clause-distances c =
    distances_to c.args.list.now c.args.at UNREACHED c.in_ok-graph.graph.near.items c.in_ok-graph.graph.far.items c.in_ok-found.found.items c.node.result fallback
    c.requires.at (c.in_ok-graph.ensures.near_is ∙ c.in_ok-near.ensures) (c.in_ok-graph.ensures.far_is ∙ c.in_ok-far.ensures) c.node.ensures
    c.in_ok-found.ensures.distances
