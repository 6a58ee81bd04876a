-- Noninterference: what may be seen of a run doesn't depend on what is private.
use Rattle.std.specs.Prelude.{◌≡◌, ℕ, List}
use Rattle.image_form.specs.Image.{Image}
use Rattle.conf_verify.specs.Verdict.{IsImage}
use Rattle.x64_machine.specs.Run.{run, view}
use Rattle.x64_machine.specs.Start.{Shared, Secret, start}

-- For every two starts of the bytes that have the same in common, with any private segments and any private inputs, and
-- for every schedule, the views of the two runs are equal.
abbrev pub Noninterfering : List ℕ → Type 0
Noninterfering bytes =
    (image : Image) (shared : Shared) (mine yours : Secret) (schedule : List ℕ) →
    IsImage bytes image →
    view (run schedule (start image shared mine)) ≡ view (run schedule (start image shared yours))
