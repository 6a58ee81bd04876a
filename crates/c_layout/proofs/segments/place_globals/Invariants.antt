use Rattle.std.proofs.Common.{◌≡◌, ◌++◌, [], take, drop}
use Rattle.cv_word.specs.declared.registers.Taint.TheVariants.{Pub, Priv}
use Rattle.c_layout.specs.Segments as def
use Rattle.c_layout.proofs.segments.place_globals.Given as goal

abbrev pub invariant-loop-global : goal.invariant-loop-global
invariant-loop-global l = record {
  all : l.offsets.items ++ def.offsets_behind l.structs l.asg (take l.global-index l.globals) (drop l.global-index l.globals)
      ≡ def.offsets_behind l.structs l.asg [] l.globals;
  public : l.public_end ≡ def.end_in l.structs l.asg Pub (take l.global-index l.globals);
  private : l.private_end ≡ def.end_in l.structs l.asg Priv (take l.global-index l.globals);
}
