use Rattle.conf_verify.proofs.verdict.check_flow.Given as goal

abbrev pub ghosts-least_labels : goal.ghosts-least_labels
ghosts-least_labels a = record { name = a.blank.name; parts = a.blank.parts }
