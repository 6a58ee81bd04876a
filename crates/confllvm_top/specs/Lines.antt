-- The lines that a command prints. Each ends with a newline.
use Rattle.std.specs.Prelude.{◌==◌, ℕ, ℤ, false, List, [], ◌∷◌, ◌++◌, codes, if◌then◌else◌}
use Rattle.std.specs.Fmt.{decimal, digits, signed_decimal}
use Rattle.conf_verify.specs.declared.rule.Rule.{Rule}
use Rattle.conf_verify.specs.Rules.{rule_number}
use Rattle.cv_word.specs.declared.fault.FaultKind.{FaultKind}
use Rattle.cv_word.specs.declared.fault.FaultKind.TheVariants.{Memory, Undefined, Divide, GateReturn, Range, OutLimit, NoReleaser}

abbrev pub newline : List ℕ
newline = 10 ∷ []

-- lower-case, without leading zeros
abbrev pub hexadecimal : ℕ → List ℕ
hexadecimal number = digits 16 false number

abbrev pub accepted_line : ℕ → ℕ → List ℕ
accepted_line procedures items =
    codes "accepted procedures " ++ (decimal procedures ++ (codes " items " ++ (decimal items ++ newline)))

-- V1 is broken at a place in the file, any other rule at an address
abbrev pub refused_line : Rule → ℕ → List ℕ
refused_line rule at =
    if rule_number rule == 1
    then codes "refused V1 at place " ++ (decimal at ++ newline)
    else codes "refused V" ++ (decimal (rule_number rule) ++ (codes " at 0x" ++ (hexadecimal at ++ newline)))

abbrev pub kind_word : FaultKind → List ℕ
kind_word Memory = codes "Memory"
kind_word Undefined = codes "Undefined"
kind_word Divide = codes "Divide"
kind_word GateReturn = codes "GateReturn"
kind_word Range = codes "Range"
kind_word OutLimit = codes "OutLimit"
kind_word NoReleaser = codes "NoReleaser"

abbrev pub fault_line : ℕ → ℕ → FaultKind → List ℕ
fault_line core at kind =
    codes "fault core " ++ (decimal core ++ (codes " at 0x" ++ (hexadecimal at ++ (codes " " ++ (kind_word kind ++ newline)))))

abbrev pub steps_line : ℕ → List ℕ
steps_line used = codes "steps " ++ (decimal used ++ newline)

-- the status of a run that exited, in decimal with a sign where it is negative
abbrev pub exit_line : ℤ → List ℕ
exit_line status = codes "exit " ++ (signed_decimal status ++ newline)

abbrev pub trust_fault_line : ℕ → List ℕ
trust_fault_line class = codes "trust fault class " ++ (decimal class ++ newline)

abbrev pub usage_line : List ℕ
usage_line = codes "usage fault" ++ newline

abbrev pub store_fault_line : List ℕ → List ℕ
store_fault_line name = codes "store fault " ++ (name ++ newline)

abbrev pub no_memory_line : List ℕ
no_memory_line = codes "no memory" ++ newline
