-- What a status says, and the exit status of each.
use Rattle.std.specs.Prelude.{ℕ, Bool, true, false}
use Rattle.command_line.specs.Commands.{Command, Run, Disasm}
use Rattle.confllvm_top.specs.declared.status.Status.{Status}
use Rattle.confllvm_top.specs.declared.status.Status.TheVariants.{Done, Refused, Usage, StoreFault, SinkFault, Fault, Steps, TrustFault, NoMemory}

abbrev pub code_of : Status → ℕ
code_of Done = 0
code_of (Refused rule at) = 1
code_of Usage = 2
code_of StoreFault = 3
code_of SinkFault = 4
code_of (Fault core at kind) = 5
code_of (Steps used) = 6
code_of (TrustFault class) = 8
code_of NoMemory = 9

-- whether a command checks the bytes of its file before all else; `disasm` only lists them
abbrev pub checks : Command → Bool
checks (Disasm name) = false
checks _ = true

-- whether a command may ask releasers
abbrev pub asks : Command → Bool
asks (Run name steps files) = true
asks _ = false

-- the command did its work with the bytes of its file, and didn't refuse them
abbrev pub is_passed : Status → Bool
is_passed Done = true
is_passed (Fault core at kind) = true
is_passed (Steps used) = true
is_passed (TrustFault class) = true
is_passed _ = false

-- the command has told how it ended: it passed the bytes or refused them
abbrev pub is_told : Status → Bool
is_told (Refused rule at) = true
is_told status = is_passed status
