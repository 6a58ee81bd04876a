-- What each step of the check leaves known of an image's code.
use Rattle.std.specs.Prelude.{ℕ, ◌<◌, List}
use Rattle.code_sweep.specs.declared.item.Placed.{Placed}
use Rattle.image_form.specs.Image.{Image}
use Rattle.conf_verify.specs.declared.rule.Rule.{Rule}
use Rattle.conf_verify.specs.declared.verdict.VerifyError.{VerifyError}
use Rattle.conf_verify.specs.declared.verdict.VerifyError.TheVariants.{NoMemory, Refused}
use Rattle.conf_verify.specs.Rules.{BreaksShape, rule_number}
use Rattle.conf_verify.specs.Verdict.{BreaksCode, IsBefore}

-- the verdict on a good image's code
pub record IsCodeVerdict (image : Image) (rule : Rule) (at : ℕ) : Type 0 where
  pub broken : BreaksCode rule image at
  pub first : (other : Rule) (there : ℕ) → IsBefore other there rule at → BreaksCode other image there → ⊥

abbrev pub IsCodeRefusal : Image → VerifyError → Type 0
IsCodeRefusal image NoMemory = Unit {0}
IsCodeRefusal image (Refused rule at) = IsCodeVerdict image rule at

-- no rule of V3 to V9 with a number below this one is broken
abbrev pub HoldsBelow : Image → List Placed → ℕ → Type 0
HoldsBelow image items number = (rule : Rule) (place : ℕ) → rule_number rule < number → BreaksShape rule image items place → ⊥
