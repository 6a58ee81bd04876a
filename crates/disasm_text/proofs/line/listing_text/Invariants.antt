use Rattle.std.proofs.Common.{◌≡◌, take}
use Rattle.std.specs.String.{string_bytes}
use Rattle.disasm_text.specs.ListingText.{text_of}
use Rattle.disasm_text.proofs.line.listing_text.Given as goal

abbrev pub invariant-loop-p : goal.invariant-loop-p
invariant-loop-p l = string_bytes l.text ≡ text_of l.l.code.now (take l.p-index l.l.items.items)
