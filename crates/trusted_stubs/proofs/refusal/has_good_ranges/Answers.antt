use Rattle.std.proofs.Common.{◌∙◌, sym}
use Rattle.std.proofs.Math.Bool.{and-true}
use Rattle.x64_decode.specs.declared.instr.Seg.TheVariants.{Fs, Gs}
use Rattle.trusted_stubs.proofs.WorkLemmas.{both_are}
use Rattle.trusted_stubs.proofs.refusal.has_good_ranges.Goals as goal

pub returns-in-PubIn : goal.returns-in-PubIn
returns-in-PubIn c = rw (c.in-PubIn.is) (c.is_good.ensures Fs)

pub returns-in-PrivIn : goal.returns-in-PrivIn
returns-in-PrivIn c = rw (c.in-PrivIn.is) (c.is_good-in-PrivIn.ensures Fs)

pub returns-in-PubOut : goal.returns-in-PubOut
returns-in-PubOut c = rw (c.in-PubOut.is) ((c.is_good-in-PubOut.ensures Fs) ∙ sym (and-true _))

pub returns-in-PrivOut : goal.returns-in-PrivOut
returns-in-PrivOut c = rw (c.in-PrivOut.is) ((c.is_good-in-PrivOut.ensures Fs) ∙ sym (and-true _))

pub returns-in-Release : goal.returns-in-Release
returns-in-Release c = rw (c.in-Release.is) (c.both.ensures ∙ both_are (c.is_good-in-Release.ensures Gs) (c.is_good-in-Release-2.ensures Fs))
