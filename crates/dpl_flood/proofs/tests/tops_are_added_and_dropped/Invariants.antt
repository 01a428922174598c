use Rattle.dpl_flood.proofs.tests.tops_are_added_and_dropped.Given as goal

-- the ledger that is opened
abbrev pub ghosts-sums_of_two : goal.ghosts-sums_of_two
ghosts-sums_of_two g a = record { name = a.blank.name; parts = a.blank.parts }
