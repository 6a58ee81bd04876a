-- Configurations by their parts.
use Rattle.std.specs.Prelude.{List}
use Rattle.cv_word.specs.GateStep.{World, Releasers}
use Rattle.cv_word.specs.Memory.{Memory}
use Rattle.x64_machine.specs.declared.outcome.Outcome.{Outcome}
use Rattle.x64_machine.specs.declared.outcome.Outcome.TheVariants.{Running}
use Rattle.x64_machine.specs.Run.{Core, Configuration}

abbrev pub stepped : List Core → Memory → World → Outcome → Releasers → Configuration
stepped cores m w o r = record { state = record { cores = cores; memory = m; world = w; outcome = o }; releasers = r }

-- one whose run goes on
abbrev pub running : List Core → Memory → World → Releasers → Configuration
running cores m w r = stepped cores m w Running r
