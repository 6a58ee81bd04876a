-- The room of an output.
use Rattle.std.specs.Prelude.{ℕ, ◌≤◌}
use Rattle.cv_word.specs.GateStep.{most_output}

-- an output has at most as many bytes as it may have, and room for them all
pub record HasRoom (length capacity : ℕ) : Type 0 where
  pub few : length ≤ most_output
  pub room : most_output ≤ capacity
