use Rattle.std.proofs.Common.{◌≤◌, ◌-◌, length}
use Rattle.code_sweep.specs.Listing.{IsChain}
use Rattle.code_sweep.proofs.sweeping.sweep.Given as goal

abbrev pub invariant-loop-at : goal.invariant-loop-at
invariant-loop-at l = record { inside : l.at ≤ length l.code; so_far : IsChain l.prefix l.code l.items.items 0 l.at }

abbrev pub decreases-loop-at : goal.decreases-loop-at
decreases-loop-at l = length l.code - l.at
