use Rattle.std.proofs.Common.{◌≡◌, ◌+◌, ◌*◌, drop, map, fold, sum}
use Rattle.type_rules.specs.Statements as def
use Rattle.type_statements.proofs.GrowthLemmas.{Grows}
use Rattle.type_statements.proofs.Measures.{statements_in, statements_of_item, statements_of_branch}
use Rattle.type_statements.proofs.statements.+statements.Given as goal

abbrev pub decreases-branch : goal.decreases-branch
decreases-branch l = 4 * statements_of_branch l.s.now + 2

abbrev pub decreases-block_stated : goal.decreases-block_stated
decreases-block_stated l = 4 * sum (map statements_of_item l.all.now) + 2

abbrev pub decreases-if_stated : goal.decreases-if_stated
decreases-if_stated l = 4 * (statements_in l.yes.now + statements_of_branch l.no.now) + 3

abbrev pub decreases-while_stated : goal.decreases-while_stated
decreases-while_stated l = 4 * statements_in l.body.now + 3

abbrev pub decreases-do_while_stated : goal.decreases-do_while_stated
decreases-do_while_stated l = 4 * statements_in l.body.now + 3

abbrev pub decreases-for_stated : goal.decreases-for_stated
decreases-for_stated l = 4 * statements_in l.body.now + 3

abbrev pub decreases-statement : goal.decreases-statement
decreases-statement l = 4 * statements_in l.s.now + 2

abbrev pub decreases-block_item : goal.decreases-block_item
decreases-block_item l = 4 * statements_of_item l.item.now

abbrev pub decreases-block_items : goal.decreases-block_items
decreases-block_items l = 4 * sum (map statements_of_item l.all.now) + 1

abbrev pub invariant-block_items-loop-item : goal.invariant-block_items-loop-item
invariant-block_items-loop-item l = record {
  all : fold (λ inside item. item l.frame l.in_loop l.start inside) (record { known = l.known; items = l.items; notes = l.notes }) (map def.item_typed (drop l.item-index l.all))
      ≡ def.block_of (map def.item_typed l.all) l.frame l.in_loop l.start l.initial.known l.initial.notes;
  grows : Grows l.initial.known l.known;
}
