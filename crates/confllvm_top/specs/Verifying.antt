-- What `verify` tells of bytes that it accepts.
use Rattle.std.specs.Prelude.{◌≡◌, ℕ, List}
use Rattle.conf_verify.specs.Verdict.{IsImage}
use Rattle.conf_verify.specs.Answer.{Checked, HasCounts}
use Rattle.confllvm_top.specs.Lines.{accepted_line}

-- the line tells the numbers of procedures and items of the bytes' image
pub record TellsCounts (bytes line : List ℕ) : Type 0 where
  pub checked : Checked
  pub image : IsImage bytes checked.image
  pub counts : HasCounts checked
  pub is : line ≡ accepted_line checked.procedures checked.items
