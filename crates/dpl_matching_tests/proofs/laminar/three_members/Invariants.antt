use Rattle.dpl_matching_tests.proofs.laminar.three_members.Given as goal

-- the ledger that is opened
abbrev pub ghosts-made_and_taken_apart : goal.ghosts-made_and_taken_apart
ghosts-made_and_taken_apart g a = record { name = a.blank.name; parts = a.blank.parts }
