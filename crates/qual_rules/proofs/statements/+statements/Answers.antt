use Rattle.std.proofs.Common.{◌≡◌, ◌++◌, append-nil, rules, arith}
use Rattle.qual_rules.specs.Flows.{flow_of}
use Rattle.qual_rules.specs.Rules.{perhaps_sources}
use Rattle.qual_rules.proofs.Appends.{ends_one, ends_three, ends_four, ends_five}
use Rattle.qual_rules.proofs.Counts.{one_part, statements_of}
use Rattle.qual_rules.proofs.Equations.{block_put, while_put, do_while_put, for_put, if_put, other_branch}
use Rattle.qual_rules.proofs.statements.+statements.Goals as goal
use Rattle.qual_rules.proofs.statements.+statements.Goals.{statement-in-Some+in_ok-statement-in-If-2, statement-in_default}

pub statement-returns-in-Block : goal.statement-returns-in-Block
statement-returns-in-Block t c =
    ends_one c.statements.result c.args.out.now.items _ c.statements.new.out.items _ c.statements.ensures
    (block_put c.args.s.now c.args.ret.now c.in-Block.items c.as_slice.result.now c.in-Block.is c.as_slice.ensures)

pub statement-returns-after-no : goal.statement-returns-after-no
statement-returns-after-no t c =
    let seen : c.as_slice-in-If.result.now ≡ (flow_of c.get.result.now).sources = search rules in
    let other : c.match-no.out.items ≡ c.statement.new.out.items ++ other_branch c.in-If.no c.args.ret.now =
    elim c.match-no.branch [
      | statement-in-Some+in_ok-statement-in-If-2 w ↦ search rules
      | statement-in_default w ↦ search (rules, append-nil)
    ] in
    ends_four c.push_public.result c.args.out.now.items _ _ _ _ c.flow.new.out.items c.statement.new.out.items c.match-no.out.items c.push_public.new.out.items _
    c.in_ok-sources-in-If.ensures.constraints c.in_ok-statement-in-If.ensures other c.push_public.ensures
    (if_put c.args.s.now c.args.ret.now c.in-If.on c.get.result.now c.in-If.yes c.get-in-If.result.now c.in-If.no c.as_slice-in-If.result.now c.in-If.is c.get.ensures c.get-in-If.ensures seen)

pub statement-returns-in_ok-statement-in-While : goal.statement-returns-in_ok-statement-in-While
statement-returns-in_ok-statement-in-While t c =
    let seen : c.as_slice-in-While.result.now ≡ (flow_of c.get-in-While.result.now).sources = search rules in
    ends_three c.push_public-in-While.result c.args.out.now.items _ _ _ c.flow-in-While.new.out.items c.statement-in-While.new.out.items c.push_public-in-While.new.out.items _
    c.in_ok-sources-in-While.ensures.constraints c.in_ok-statement-in-While.ensures c.push_public-in-While.ensures
    (while_put c.args.s.now c.args.ret.now c.in-While.on c.get-in-While.result.now c.in-While.body c.get-in-While-2.result.now c.as_slice-in-While.result.now
    c.in-While.is c.get-in-While.ensures c.get-in-While-2.ensures seen)

pub statement-returns-in_ok-sources-in-DoWhile : goal.statement-returns-in_ok-sources-in-DoWhile
statement-returns-in_ok-sources-in-DoWhile t c =
    let seen : c.as_slice-in-DoWhile.result.now ≡ (flow_of c.get-in-DoWhile-2.result.now).sources = search rules in
    ends_three c.push_public-in-DoWhile.result c.args.out.now.items _ _ _ c.statement-in-DoWhile.new.out.items c.flow-in-DoWhile.new.out.items c.push_public-in-DoWhile.new.out.items _
    c.in_ok-statement-in-DoWhile.ensures c.in_ok-sources-in-DoWhile.ensures.constraints c.push_public-in-DoWhile.ensures
    (do_while_put c.args.s.now c.args.ret.now c.in-DoWhile.on c.get-in-DoWhile-2.result.now c.in-DoWhile.body c.get-in-DoWhile.result.now c.as_slice-in-DoWhile.result.now
    c.in-DoWhile.is c.get-in-DoWhile-2.ensures c.get-in-DoWhile.ensures seen)

pub statement-returns-in_ok-statement-in-For : goal.statement-returns-in_ok-statement-in-For
statement-returns-in_ok-statement-in-For t c =
    let seen : c.as_slice-in-For.result.now ≡ perhaps_sources c.in-For.on = search rules in
    ends_five c.push_public-in-For.result c.args.out.now.items _ _ _ _ _ c.perhaps.new.out.items c.perhaps-in-For.new.out.items c.perhaps-in-For-2.new.out.items c.statement-in-For.new.out.items c.push_public-in-For.new.out.items _
    c.in_ok-perhaps-in-For.ensures.constraints c.in_ok-sources-in-For.ensures.constraints c.in_ok-perhaps-in-For-2.ensures.constraints c.in_ok-statement-in-For.ensures c.push_public-in-For.ensures
    (for_put c.args.s.now c.args.ret.now c.in-For.first c.in-For.on c.in-For.after c.in-For.body c.get-in-For.result.now c.as_slice-in-For.result.now
    c.in-For.is c.get-in-For.ensures seen)

pub statements-statement-requires : goal.statements-statement-requires
statements-statement-requires t c =
    let part = one_part statements_of c.args.items.now c.loop-item.item-index c.item-item.result c.loop-item-test.true c.item-item.is in
    (omega (arith, c.decreases), tt)
