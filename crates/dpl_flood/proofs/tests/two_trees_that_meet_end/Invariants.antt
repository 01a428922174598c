use Rattle.dpl_flood.proofs.tests.two_trees_that_meet_end.Given as goal

-- the ledger that is opened
abbrev pub ghosts-mates_at_end : goal.ghosts-mates_at_end
ghosts-mates_at_end g a = record { name = a.blank.name; parts = a.blank.parts }
