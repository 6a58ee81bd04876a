-- Runs over a schedule: what an ended run leaves, and the entries of a round robin.
use Rattle.std.proofs.Common.{◌≡◌, ◌∙◌, sym, ap, ℕ, suc, ◌+◌, ◌-◌, ◌%◌, ◌<◌, false, List, [], ◌∷◌, refl, arith}
use Rattle.std.proofs.Math.Nat.{suc-mod}
use Rattle.x64_machine.specs.declared.outcome.Outcome.{Outcome}
use Rattle.x64_machine.specs.declared.outcome.Outcome.TheVariants as outcome
use Rattle.x64_machine.specs.declared.schedule.Progress.TheVariants as progress
use Rattle.x64_machine.specs.Run.{Configuration, is_running, step, run}
use Rattle.x64_machine.specs.Entries.{turns}
use Rattle.x64_machine.specs.Endings.{progress_of}

step-ended : (i : ℕ) (c : Configuration) → is_running c.state.outcome ≡ false → step i c ≡ c
unfolding step
step-ended i c e = rw e refl

-- an ended run stays as it is under any schedule
pub run-ended : (schedule : List ℕ) (c : Configuration) → is_running c.state.outcome ≡ false → run schedule c ≡ c
run-ended [] c e = refl
run-ended (i ∷ schedule) c e = ap (λ (d : Configuration). run schedule d) (step-ended i c e) ∙ run-ended schedule c e

pub ended_not_running : (o : Outcome) → progress_of o ≡ progress.Ended → is_running o ≡ false
ended_not_running outcome.Running e = absurd (cc)
ended_not_running (outcome.Exited status) e = refl
ended_not_running (outcome.Fault core at kind) e = refl
ended_not_running (outcome.Tape core at class) e = refl

-- where a run ends at an entry, the entries after it change nothing
pub run_stopped : (i : ℕ) (schedule : List ℕ) (before after : Configuration)
    → after ≡ step i before → progress_of after.state.outcome ≡ progress.Ended
    → after ≡ run (i ∷ schedule) before
run_stopped i schedule before after e h =
    sym (run-ended schedule after (ended_not_running after.state.outcome h)) ∙ ap (λ (c : Configuration). run schedule c) e

-- the turns that are left begin with the next one
pub turns_next : (n j count : ℕ) → j < count → turns n j (count - j) ≡ j % n ∷ turns n (suc j) (count - suc j)
unfolding turns
turns_next n j count h =
    let more : count - j ≡ suc (count - suc j) = omega arith in
    rw more refl

pub turns_empty : (n j count : ℕ) → count ≡ 0 → turns n j count ≡ []
unfolding turns
turns_empty n j count none = rw none refl

pub next_turn : (n j core next : ℕ) → core ≡ j % n → next ≡ (core + 1) % n → next ≡ (j + 1) % n
next_turn n j core next e f =
    let more : suc j % n ≡ suc (j % n) % n = suc-mod j n in
    grind (arith, more)
