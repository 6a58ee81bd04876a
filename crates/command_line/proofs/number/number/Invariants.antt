use Rattle.std.proofs.Common.{◌≡◌, ◌<◌, ◌≤◌, ℕ, drop, get_or}
use Rattle.std.specs.Prelude.{fold}
use Rattle.std.specs.Char.{IsAsciiDigit}
use Rattle.command_line.specs.Numbers.{with_digit}
use Rattle.command_line.specs.declared.number.TheConstants.{MOST_STEPS}
use Rattle.command_line.proofs.number.number.Given as goal

-- the digits that are left make of the value so far that of the word
abbrev pub invariant-loop-digit : goal.invariant-loop-digit
invariant-loop-digit l = record {
  value : fold with_digit l.value (drop l.digit-index l.digits) ≡ fold with_digit 0 l.digits;
  digits : (k : ℕ) → k < l.digit-index → IsAsciiDigit (get_or l.digits k 0);
  most : l.value ≤ MOST_STEPS;
}
