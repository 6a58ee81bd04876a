use Rattle.cv_word.specs.declared.gates.Gate.TheVariants as gate
use Rattle.trusted_stubs.proofs.WorkLemmas.{is_served, has_room, answered, exited, core_ended}
use Rattle.trusted_stubs.proofs.gate.do_other.Goals as goal

pub read_public-requires : goal.read_public-requires
read_public-requires c =
    let served = is_served c.args.segs.now.size c.args.gate gate.PubIn c.args.a c.args.world.now c.in-PubIn.is c.requires.served in
    served.writes_good

pub write_public-requires-clause-range : goal.write_public-requires-clause-range
write_public-requires-clause-range c =
    let served = is_served c.args.segs.now.size c.args.gate gate.PubOut c.args.a c.args.world.now c.in-PubOut.is c.requires.served in
    served.reads_good

pub write_public-requires-clause-room : goal.write_public-requires-clause-room
write_public-requires-clause-room c =
    let served = is_served c.args.segs.now.size c.args.gate gate.PubOut c.args.a c.args.world.now c.in-PubOut.is c.requires.served in
    has_room _ _ served.within

pub read_private-requires : goal.read_private-requires
read_private-requires c =
    let served = is_served c.args.segs.now.size c.args.gate gate.PrivIn c.args.a c.args.world.now c.in-PrivIn.is c.requires.served in
    served.writes_good

pub write_private-requires-clause-range : goal.write_private-requires-clause-range
write_private-requires-clause-range c =
    let served = is_served c.args.segs.now.size c.args.gate gate.PrivOut c.args.a c.args.world.now c.in-PrivOut.is c.requires.served in
    served.reads_good

pub write_private-requires-clause-room : goal.write_private-requires-clause-room
write_private-requires-clause-room c =
    let served = is_served c.args.segs.now.size c.args.gate gate.PrivOut c.args.a c.args.world.now c.in-PrivOut.is c.requires.served in
    has_room _ _ served.within

pub put_private-requires : goal.put_private-requires
put_private-requires c =
    let served = is_served c.args.segs.now.size c.args.gate gate.PrivPut c.args.a c.args.world.now c.in-PrivPut.is c.requires.served in
    has_room _ _ served.within

pub unreachable-requires : goal.unreachable-requires
unreachable-requires c = absurd (c.requires.other c.in-Release.is)

pub returns-in-Exit : goal.returns-in-Exit
returns-in-Exit c = λ r. exited c.args.gate c.args.a c.args.next c.exit.result c.args.regs.now c.args.segs.now c.args.world.now c.in-Exit.is c.exit.ensures r

pub returns-in-CoreEnd : goal.returns-in-CoreEnd
returns-in-CoreEnd c = λ r. core_ended c.args.gate c.args.a c.args.next c.args.regs.now c.args.segs.now c.args.world.now c.in-CoreEnd.is r

pub returns-in-PrivGet : goal.returns-in-PrivGet
returns-in-PrivGet c =
    answered c.args.gate gate.PrivGet c.args.a c.get_private.result c.args.next c.go_on-in-PrivGet.result c.args.regs.now c.go_on-in-PrivGet.new.regs c.args.segs.now c.args.segs.now
    c.args.world.now c.get_private.new.world c.in-PrivGet.is c.go_on-in-PrivGet.ensures.end (λ r. c.get_private.ensures r c.args.a c.args.segs.now) c.go_on-in-PrivGet.ensures.registers

pub returns-in-PrivPut : goal.returns-in-PrivPut
returns-in-PrivPut c =
    answered c.args.gate gate.PrivPut c.args.a c.put_private.result c.args.next c.go_on-in-PrivPut.result c.args.regs.now c.go_on-in-PrivPut.new.regs c.args.segs.now c.args.segs.now
    c.args.world.now c.put_private.new.world c.in-PrivPut.is c.go_on-in-PrivPut.ensures.end (λ r. c.put_private.ensures r c.args.segs.now) c.go_on-in-PrivPut.ensures.registers

pub returns-in-PubAlloc : goal.returns-in-PubAlloc
returns-in-PubAlloc c =
    answered c.args.gate gate.PubAlloc c.args.a c.alloc_public.result c.args.next c.go_on-in-PubAlloc.result c.args.regs.now c.go_on-in-PubAlloc.new.regs c.args.segs.now c.args.segs.now
    c.args.world.now c.alloc_public.new.world c.in-PubAlloc.is c.go_on-in-PubAlloc.ensures.end (λ r. c.alloc_public.ensures r c.args.segs.now) c.go_on-in-PubAlloc.ensures.registers

pub returns-in-PrivAlloc : goal.returns-in-PrivAlloc
returns-in-PrivAlloc c =
    answered c.args.gate gate.PrivAlloc c.args.a c.alloc_private.result c.args.next c.go_on-in-PrivAlloc.result c.args.regs.now c.go_on-in-PrivAlloc.new.regs c.args.segs.now c.args.segs.now
    c.args.world.now c.alloc_private.new.world c.in-PrivAlloc.is c.go_on-in-PrivAlloc.ensures.end (λ r. c.alloc_private.ensures r c.args.segs.now) c.go_on-in-PrivAlloc.ensures.registers

pub returns-in-PubFree : goal.returns-in-PubFree
returns-in-PubFree c =
    answered c.args.gate gate.PubFree c.args.a c.free_public.result c.args.next c.go_on-in-PubFree.result c.args.regs.now c.go_on-in-PubFree.new.regs c.args.segs.now c.args.segs.now
    c.args.world.now c.free_public.new.world c.in-PubFree.is c.go_on-in-PubFree.ensures.end (λ r. c.free_public.ensures r c.args.segs.now) c.go_on-in-PubFree.ensures.registers

pub returns-in-PrivFree : goal.returns-in-PrivFree
returns-in-PrivFree c =
    answered c.args.gate gate.PrivFree c.args.a c.free_private.result c.args.next c.go_on-in-PrivFree.result c.args.regs.now c.go_on-in-PrivFree.new.regs c.args.segs.now c.args.segs.now
    c.args.world.now c.free_private.new.world c.in-PrivFree.is c.go_on-in-PrivFree.ensures.end (λ r. c.free_private.ensures r c.args.segs.now) c.go_on-in-PrivFree.ensures.registers
