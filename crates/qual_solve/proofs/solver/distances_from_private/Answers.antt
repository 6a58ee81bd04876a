use Rattle.std.proofs.Common.{◌∙◌, ap, refl}
use Rattle.qual_solve.specs.Ends.{lefts_of, rights_of}
use Rattle.qual_solve.specs.declared.search.TheConstants.{UNREACHED}
use Rattle.qual_solve.proofs.Numbered.{lefts_within, rights_within, open_within, distances_over}
use Rattle.qual_solve.proofs.solver.distances_from_private.Goals as goal

pub new-requires-clause-near : goal.new-requires-clause-near
new-requires-clause-near c =
    lefts_within c.args.nodes c.deref.result.now c.in_ok-near.near.items c.in_ok-near.ensures
    (open_within c.args.nodes c.args.list.now c.deref.result.now (c.deref.ensures.value ∙ c.in_ok-kept.ensures) c.requires.nodes)

pub new-requires-clause-far : goal.new-requires-clause-far
new-requires-clause-far c =
    rights_within c.args.nodes c.deref-2.result.now c.in_ok-far.far.items c.in_ok-far.ensures
    (open_within c.args.nodes c.args.list.now c.deref-2.result.now (c.deref-2.ensures.value ∙ c.in_ok-kept.ensures) c.requires.nodes)

pub returns-clause-distances : goal.returns-clause-distances
returns-clause-distances c =
    distances_over c.in_ok-graph.graph.near.items c.in_ok-graph.graph.far.items _ _ 0 0 UNREACHED c.in_ok-found.found.items
    (c.in_ok-graph.ensures.near_is ∙ c.in_ok-near.ensures ∙ ap lefts_of (c.deref.ensures.value ∙ c.in_ok-kept.ensures))
    (c.in_ok-graph.ensures.far_is ∙ c.in_ok-far.ensures ∙ ap rights_of (c.deref-2.ensures.value ∙ c.in_ok-kept.ensures)) refl
    c.in_ok-found.ensures.distances
