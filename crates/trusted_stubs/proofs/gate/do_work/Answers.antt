use Rattle.trusted_stubs.proofs.WorkLemmas.{held_so, served_as, served_so}
use Rattle.trusted_stubs.proofs.ReleaseLemmas.{plain_plays}
use Rattle.cv_word.specs.declared.gates.Gate.TheVariants as gate
use Rattle.cv_word.specs.GateStep.{read_from, reads}
use Rattle.trusted_stubs.proofs.gate.do_work.Goals as goal

pub release-requires-clause-served : goal.release-requires-clause-served
release-requires-clause-served g c = served_as c.args.segs.now.size c.args.gate c.args.a c.args.world.now _ c.requires gate.Release c.in-Release.is

pub release-requires-clause-held : goal.release-requires-clause-held
release-requires-clause-held g c = held_so c.args.segs.now.size c.args.gate c.args.a c.args.world.now _ c.requires c.in-Release.is

pub do_other-requires : goal.do_other-requires
do_other-requires g c = record {
  other = c.in_default.not-Release;
  served = served_so c.args.segs.now.size c.args.gate c.args.a c.args.world.now _ c.requires;
}

pub returns-in_default : goal.returns-in_default
returns-in_default g c =
    plain_plays c.args.gate c.args.a (read_from c.args.segs.now (reads c.args.gate c.args.a)) c.args.next c.do_other.result c.args.regs.now c.do_other.new.regs c.args.segs.now c.do_other.new.segs
    c.args.world.now c.do_other.new.world _ c.in_default.not-Release c.do_other.ensures
