use Rattle.disasm_text.proofs.Inside.{listing_inside}
use Rattle.disasm_text.proofs.law.listing_law.Goals as goal

pub returns : goal.returns
returns c = listing_inside
