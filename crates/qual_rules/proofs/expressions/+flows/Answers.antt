use Rattle.std.proofs.Common.{◌≡◌, ◌++◌, map, refl, ap, append_assoc, rules, arith}
use Rattle.std.specs.List.{flat_map}
use Rattle.c_ast.specs.Nodes.{nodes_of}
use Rattle.c_ast.specs.declared.typed.Expr.{Expr}
use Rattle.qual_rules.specs.Flows.{flow_of, passed_all, public, same_below_all}
use Rattle.qual_rules.specs.Levels.{parameters_of}
use Rattle.qual_rules.proofs.Appends.{as_whole, two, three, ends_one, ends_four, put_already}
use Rattle.qual_rules.proofs.Counts.{one_part}
use Rattle.qual_rules.proofs.Equations.{arrow_put, assign_put, call_put, cast_put, cond_put, index_put}
use Rattle.qual_rules.proofs.expressions.+flows.Goals as goal

pub call-returns : goal.call-returns
call-returns t c =
    let all : c.as_slice.result.now ≡ map (λ (a : Expr). (flow_of a).sources) c.args.args.now = search rules in
    let called : c.as_slice-2.result.now ≡ (flow_of c.args.callee.now).sources = search rules in
    ends_four c.push_public.result c.args.out.now.items _ _ _ _ c.flow.new.out.items c.flow_of_all.new.out.items c.push_arguments.new.out.items c.push_public.new.out.items _
    c.in_ok-called.ensures.constraints c.in_ok-all.ensures.constraints c.in_ok-push_arguments.ensures c.push_public.ensures
    (rw (all, called) (ap (λ l. l ++ public (flow_of c.args.callee.now).sources)
    (append_assoc ((flow_of c.args.callee.now).constraints ++ flat_map (λ (a : Expr). (flow_of a).constraints) c.args.args.now)
    (passed_all (map (λ (a : Expr). (flow_of a).sources) c.args.args.now) (parameters_of c.args.callee.now.ty))
    (same_below_all (map flow_of c.args.args.now) (parameters_of c.args.callee.now.ty)))))

pub flow-returns-in-Assign-clause-constraints : goal.flow-returns-in-Assign-clause-constraints
flow-returns-in-Assign-clause-constraints t c =
    ends_one c.assign.result c.args.out.now.items _ c.assign.new.out.items _ c.assign.ensures.constraints
    (assign_put c.args.e.now c.in-Assign.to c.in-Assign.from c.get-in-Assign.result.now c.get-in-Assign-2.result.now c.in-Assign.is c.get-in-Assign.ensures c.get-in-Assign-2.ensures)

pub flow-returns-in-Cond-clause-constraints : goal.flow-returns-in-Cond-clause-constraints
flow-returns-in-Cond-clause-constraints t c =
    ends_one c.choice.result c.args.out.now.items _ c.choice.new.out.items _ c.choice.ensures.constraints
    (cond_put c.args.e.now c.in-Cond.on c.in-Cond.yes c.in-Cond.no c.get-in-Cond.result.now c.get-in-Cond-2.result.now c.get-in-Cond-3.result.now
    c.in-Cond.is c.get-in-Cond.ensures c.get-in-Cond-2.ensures c.get-in-Cond-3.ensures)

pub flow-returns-in_ok-call-in-Call-clause-constraints :
    goal.flow-returns-in_ok-call-in-Call-clause-constraints
flow-returns-in_ok-call-in-Call-clause-constraints t c =
    put_already c.own.result (as_whole c.args.out.now.items _ c.call.new.out.items _ c.in_ok-call-in-Call.ensures
    (call_put c.args.e.now c.in-Call.callee c.get-in-Call.result.now c.in-Call.args c.as_slice-in-Call.result.now c.in-Call.is c.get-in-Call.ensures c.as_slice-in-Call.ensures))

pub flow-returns-in_ok-push_public-in-Index-clause-constraints :
    goal.flow-returns-in_ok-push_public-in-Index-clause-constraints
flow-returns-in_ok-push_public-in-Index-clause-constraints t c =
    let seen : c.as_slice-in-Index.result.now ≡ (flow_of c.get-in-Index.result.now).sources ++ (flow_of c.get-in-Index-2.result.now).sources = search rules in
    put_already c.own-in-Index.result (as_whole c.args.out.now.items _ c.push_public-in-Index.new.out.items _
    (three c.args.out.now.items (flow_of c.get-in-Index.result.now).constraints (flow_of c.get-in-Index-2.result.now).constraints (public c.as_slice-in-Index.result.now)
    (c.args.out.now.items ++ (flow_of c.get-in-Index.result.now).constraints) c.flow_of_two-in-Index.new.out.items c.push_public-in-Index.new.out.items
    refl c.in_ok-sources-in-Index.ensures.constraints c.in_ok-push_public-in-Index.ensures)
    (index_put c.args.e.now c.in-Index.of c.in-Index.at c.get-in-Index.result.now c.get-in-Index-2.result.now c.as_slice-in-Index.result.now
    c.in-Index.is c.get-in-Index.ensures c.get-in-Index-2.ensures seen))

pub flow-returns-in_ok-push_if_private-in-Cast-clause-constraints :
    goal.flow-returns-in_ok-push_if_private-in-Cast-clause-constraints
flow-returns-in_ok-push_if_private-in-Cast-clause-constraints t c =
    let first : c.get-in-Cast.result.now ≡ c.get-value.result.now = search rules in
    as_whole c.args.out.now.items _ c.push_same_below.new.out.items _
    (two c.args.out.now.items (flow_of c.get-value.result.now).constraints _ c.flow-in-Cast.new.out.items c.push_same_below.new.out.items
    (rw (← first) c.in_ok-sources-in-Cast.ensures.constraints) c.in_ok-push_same_below-in-Cast.ensures)
    (cast_put c.args.e.now c.in-Cast.part c.get-value.result.now c.in-Cast.is c.get-value.ensures)

pub flow-returns-in_ok-push_public-in-Arrow-clause-constraints :
    goal.flow-returns-in_ok-push_public-in-Arrow-clause-constraints
flow-returns-in_ok-push_public-in-Arrow-clause-constraints t c =
    let seen : c.as_slice-in-Arrow.result.now ≡ (flow_of c.get-in-Arrow.result.now).sources = search rules in
    put_already c.own-in-Arrow.result (as_whole c.args.out.now.items _ c.push_public-in-Arrow.new.out.items _
    (two c.args.out.now.items (flow_of c.get-in-Arrow.result.now).constraints (public c.as_slice-in-Arrow.result.now)
    c.flow-in-Arrow.new.out.items c.push_public-in-Arrow.new.out.items c.in_ok-sources-in-Arrow.ensures.constraints c.in_ok-push_public-in-Arrow.ensures)
    (arrow_put c.args.e.now c.in-Arrow.of c.get-in-Arrow.result.now c.as_slice-in-Arrow.result.now c.in-Arrow.is c.get-in-Arrow.ensures seen))

pub flow_of_all-flow-requires : goal.flow_of_all-flow-requires
flow_of_all-flow-requires t c =
    let part = one_part nodes_of c.args.args.now c.loop-arg.arg-index c.arg-item.result c.loop-arg-test.true c.arg-item.is in
    (omega (arith, c.decreases), tt)
