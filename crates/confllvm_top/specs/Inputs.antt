-- What `run` has loaded, by its inputs.
use Rattle.std.specs.Prelude.{ℕ, List, [], Option}
use Rattle.command_line.specs.Words.{text_of}
use Rattle.cv_word.specs.GateStep.{Releasers, Tape}
use Rattle.x64_machine.specs.Run.{State}
use Rattle.x64_machine.specs.Following.{unanswered}
use Rattle.confllvm_top.specs.declared.loading.Inputs.{Inputs}
use Rattle.confllvm_top.specs.Loading.{Loaded}
use Rattle.confllvm_top.specs.Running.{Finding}
use Rattle.confllvm_top.specs.declared.telling.Saves as given

abbrev pub loaded_with : List ℕ → Inputs → List (Option Tape) → Loaded
loaded_with image inputs tapes = record {
  image = image;
  schedule = inputs.schedule.items;
  public_input = inputs.public.items;
  private_input = inputs.private.items;
  tapes = tapes;
}

-- what a command has loaded that has no inputs
abbrev pub image_alone : List ℕ → List (Option Tape) → Loaded
image_alone image tapes = record { image = image; schedule = []; public_input = []; private_input = []; tapes = tapes }

-- what a machine leaves to tell, and the releasers of the model's run beside it
abbrev pub finding_in : State → Releasers → Finding
finding_in m r = record {
  outcome = m.outcome;
  unanswered = unanswered m.outcome m.cores;
  public_output = m.world.visible.public_output;
  private_output = m.world.private_output;
  audit = m.world.visible.audit;
  releasers = r;
}

-- what is saved, each if a file is named for it
pub record Saves : Type 0 where
  pub private_name : Option (List ℕ)
  pub private : List ℕ
  pub audit_name : Option (List ℕ)
  pub audit : List ℕ

abbrev pub saves_of : given.Saves → Saves
saves_of s = record {
  private_name = text_of s.private_name;
  private = s.private.now;
  audit_name = text_of s.audit_name;
  audit = s.audit.now;
}
