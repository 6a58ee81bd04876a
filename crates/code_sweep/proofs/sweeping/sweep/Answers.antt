use Rattle.std.proofs.Common.{arith, ◌+◌, sym, List, subst, refl}
use Rattle.code_sweep.specs.Listing.{IsChain}
use Rattle.code_sweep.specs.declared.item.Placed.{Placed}
use Rattle.code_sweep.proofs.Begun.{chain_more}
use Rattle.code_sweep.proofs.sweeping.sweep.Goals as goal

pub loop-at-smaller : goal.loop-at-smaller
loop-at-smaller c = let inside = c.in-Some.ensures.inside in let some = inside.0 in let fits = inside.1 in omega arith

pub loop-at-preserved : goal.loop-at-preserved
loop-at-preserved c = record {
  inside = c.in-Some.ensures.inside.1;
  so_far =
      subst (λ (l : List Placed). IsChain c.args.prefix c.args.code.now l 0 (c.loop-at.at + c.in-Some.len)) (sym c.in_ok-push.ensures.items)
      (chain_more c.args.prefix c.args.code.now c.loop-at.items.items 0 c.loop-at.at (record { at = c.loop-at.at; len = c.in-Some.len; item = c.in-Some.item })
      c.loop-at.invariant.so_far refl c.in-Some.ensures.len c.in-Some.ensures.found);
}
