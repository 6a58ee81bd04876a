use Rattle.taint_flow.proofs.tests.callees.Given as goal

abbrev pub ghosts-labels_of : goal.ghosts-labels_of
ghosts-labels_of g a = record { name = a.blank.name; parts = a.blank.parts }
