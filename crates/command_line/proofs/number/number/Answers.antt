use Rattle.std.proofs.Common.{rules}
use Rattle.command_line.specs.declared.number.TheConstants.{MOST_STEPS}
use Rattle.command_line.proofs.NumberLemmas.{too-large, whole-value}
use Rattle.command_line.proofs.number.number.Goals as goal

pub returns-then-value-gt-MOST_STEPS : goal.returns-then-value-gt-MOST_STEPS
returns-then-value-gt-MOST_STEPS c =
    let digits = c.as_bytes-digits.result.now in
    let l = c.loop-digit in
    λ value number. too-large MOST_STEPS c.args.word.now digits l.digit-index l.value value (search rules) (search rules)
    l.invariant.value number (search rules)

pub returns : goal.returns
returns c =
    let digits = c.as_bytes-digits.result.now in
    let l = c.loop-digit in (
      whole-value c.args.word.now digits l.digit-index l.value (search rules) (search rules) (search rules)
          l.invariant.value l.invariant.digits,
      l.invariant.most,
    )
