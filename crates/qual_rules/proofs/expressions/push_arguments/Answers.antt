use Rattle.std.proofs.Common.{◌≡◌, [], rules}
use Rattle.qual_rules.specs.Levels.{parameters_of}
use Rattle.qual_rules.proofs.Arguments.{nothing_put}
use Rattle.qual_rules.proofs.expressions.push_arguments.Goals as goal

pub returns-in-None : goal.returns-in-None
returns-in-None c =
    let none : parameters_of c.args.callee.now ≡ [] = search rules in
    nothing_put c.args.out.now.items c.args.all.now c.args.args.now (parameters_of c.args.callee.now) none
