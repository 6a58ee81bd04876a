-- The command that a command line was read as.
use Rattle.std.specs.Prelude.{List, Option, option_map, ℕ}
use Rattle.std.specs.Borrow.{Bor}
use Rattle.command_line.specs.declared.words.Command as words
use Rattle.command_line.specs.declared.words.Command.TheVariants as read
use Rattle.command_line.specs.declared.words.RunFiles as named
use Rattle.command_line.specs.Commands.{Command, RunFiles, Verify, Run, Disasm}

-- the text behind the reference, where there is one
abbrev pub text_of : Option (Bor (List ℕ)) → Option (List ℕ)
text_of = option_map (λ text. text.now)

-- the files of `run` as they were read
abbrev pub files_of : named.RunFiles → RunFiles
files_of files = record {
  schedule = text_of files.schedule;
  public_input = text_of files.public_input;
  private_input = text_of files.private_input;
  private_output = text_of files.private_output;
  audit = text_of files.audit;
}

abbrev pub command_of : words.Command → Command
command_of (read.Verify name) = Verify name.now
command_of (read.Run name steps files) = Run name.now steps (files_of files)
command_of (read.Disasm name) = Disasm name.now
