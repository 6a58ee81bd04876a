-- A command's definition, built argument by argument.
use Rattle.std.proofs.Common.{◌≡◌, ◌∙◌, Result, Ok, Err, false, ap}
use Rattle.std.specs.Prelude.{IfOk}
use Rattle.clap.specs.Words.{AddsArg, App, Rule, app_of, rule_of, with_rule}
use Rattle.clap.specs.declared.builder.arg.Arg.{Arg}
use Rattle.clap.specs.declared.builder.command.Command.{Command}

-- one argument more, by its rule
pub one_more : {old new : Command} {arg : Arg} {definition : App} {rule : Rule} → AddsArg old arg new →
    app_of old ≡ definition → rule_of arg ≡ rule → arg.global ≡ false → app_of new ≡ with_rule definition rule
one_more {arg = arg} {definition = definition} adds so_far is local =
    adds.shape local ∙ ap (λ (d : App). with_rule d (rule_of arg)) so_far ∙ ap (with_rule definition) is

-- the same of the last one, where it may be refused
pub last_one : {E : Type 0} (result : Result Command E) (old : Command) (arg : Arg) (definition : App) (rule : Rule) →
    IfOk result (AddsArg old arg) → app_of old ≡ definition → rule_of arg ≡ rule → arg.global ≡ false →
    IfOk result (λ new. app_of new ≡ with_rule definition rule)
last_one (Ok new) old arg definition rule adds so_far is local = one_more adds so_far is local
last_one (Err fault) old arg definition rule adds so_far is local = tt
