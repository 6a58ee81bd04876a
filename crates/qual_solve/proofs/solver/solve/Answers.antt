use Rattle.std.proofs.Common.{arith, refl, sym, ◌∙◌}
use Rattle.std.proofs.lemmas.Option.{slice_get_within}
use Rattle.qual_solve.specs.declared.search.TheConstants.{UNREACHED}
use Rattle.qual_solve.proofs.Forced.{spread_of, least_of, leak, has_chain}
use Rattle.qual_solve.proofs.solver.solve.Goals as goal

pub returns-in-None-clause-least : goal.returns-in-None-clause-least
returns-in-None-clause-least c =
    least_of c.args.vars c.args.list.now UNREACHED c.deref-in-None.result.now c.deref.result.now c.in_ok-taints-in-None.taints.items
    (spread_of c.args.vars _ c.args.list.now UNREACHED c.in_ok-distances.distances.items c.deref.result.now c.requires (omega arith)
    c.deref.ensures.value c.in_ok-distances.ensures.nodes refl c.in_ok-distances.ensures.distances)
    c.in-None.ensures c.in_ok-taints-in-None.ensures (c.deref.ensures.value ∙ sym c.deref-in-None.ensures.value)

pub shortest_chain-requires-clause-at : goal.shortest_chain-requires-clause-at
shortest_chain-requires-clause-at c = slice_get_within c.args.list.now c.in-Some.at c.in-Some.ensures.0.constraint c.in-Some.ensures.0.numbered

pub shortest_chain-requires-clause-reached : goal.shortest_chain-requires-clause-reached
shortest_chain-requires-clause-reached c =
    has_chain c.args.vars c.args.list.now UNREACHED c.deref.result.now
    (spread_of c.args.vars _ c.args.list.now UNREACHED c.in_ok-distances.distances.items c.deref.result.now c.requires (omega arith)
    c.deref.ensures.value c.in_ok-distances.ensures.nodes refl c.in_ok-distances.ensures.distances)
    c.in-Some.at c.in-Some.ensures.0

pub returns-clause-reason : goal.returns-clause-reason
returns-clause-reason c =
    leak c.args.vars c.args.list.now UNREACHED c.deref.result.now
    (spread_of c.args.vars _ c.args.list.now UNREACHED c.in_ok-distances.distances.items c.deref.result.now c.requires (omega arith)
    c.deref.ensures.value c.in_ok-distances.ensures.nodes refl c.in_ok-distances.ensures.distances)
    c.in-Some.at c.in_ok-chain-in-Some.chain c.in-Some.ensures.0 c.in-Some.ensures.1 c.in_ok-chain-in-Some.ensures
