-- What `disasm` finds, and what it tells.
use Rattle.std.specs.Prelude.{◌≡◌, ℕ, List}
use Rattle.code_sweep.specs.declared.item.Placed.{Placed}
use Rattle.conf_verify.specs.Listed.{IsListed}
use Rattle.disasm_text.specs.ListingText.{text_of}

-- the code of the bytes' image is a chain of items
pub record CanBeListed (bytes : List ℕ) : Type 0 where
  pub code : List ℕ
  pub items : List Placed
  pub listed : IsListed bytes code items

-- the text is the listing of that code, a line for each item
pub record TellsListing (bytes text : List ℕ) : Type 0 where
  pub code : List ℕ
  pub items : List Placed
  pub listed : IsListed bytes code items
  pub is : text ≡ text_of code items
