use Rattle.std.proofs.Common.{◌≡◌, ◌++◌, drop, length}
use Rattle.conf_verify.specs.Answer.{image_of}
use Rattle.x64_machine.specs.Start.{start_cores}
use Rattle.x64_machine.proofs.cores.first_cores.Given as goal

-- the cores so far, and those of the entries that are left, are the cores of all entries
abbrev pub invariant-loop-i : goal.invariant-loop-i
invariant-loop-i l = record {
  count : length l.cores.items ≡ l.i;
  cores : l.cores.items ++ start_cores (image_of l.parts) l.i (drop l.i l.entries) ≡ start_cores (image_of l.parts) 0 l.entries;
}
