use Rattle.x64_machine.proofs.StartLemmas.{started}
use Rattle.x64_machine.proofs.memory.first_segments.Goals as goal

pub returns : goal.returns
returns c = started c.args.parts.now.seg_size c.args.parts.now.code.now c.args.parts.now.public.now c.args.private_start.now c.new.result c.requires.most c.new.ensures
