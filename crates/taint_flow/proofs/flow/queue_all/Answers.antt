use Rattle.std.proofs.Common.{arith, rules, sym, subst, List, ℕ, ◌≡◌, ◌++◌, ◌∙◌, ap, vec_capacity}
use Rattle.std.proofs.lemmas.List.{append-nil}
use Rattle.taint_flow.specs.Worklist.{waiting}
use Rattle.taint_flow.proofs.Sound.{Highest, waiting_all, fresh_from}
use Rattle.taint_flow.proofs.flow.queue_all.Goals as goal

pub returns : goal.returns
returns c =
    let all : waiting 0 c.args.count ++ c.in_ok-stack.stack.items ≡ waiting 0 c.args.count =
    ap (λ (xs : List ℕ). waiting 0 c.args.count ++ xs) c.in_ok-stack.ensures.items ∙ append-nil (waiting 0 c.args.count) in
    fresh_from c.args.count (vec_capacity c.in_ok-stack.stack) c.in_ok-labels.labels.items c.in_ok-queued.queued.items
    (waiting 0 c.args.count ++ c.in_ok-stack.stack.items) (omega (arith, c.in_ok-stack.ensures.capacity)) (search rules) (search rules)
    (subst (λ (xs : List ℕ). Highest c.args.count c.args.count xs) (sym all) (waiting_all c.args.count))
