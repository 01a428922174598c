use Rattle.dpl_flood.proofs.tests.closing.a_single_closes.Given as goal

-- the ledger that is opened
abbrev pub ghosts-tops_in_row : goal.ghosts-tops_in_row
ghosts-tops_in_row g a = record { name = a.blank.name; parts = a.blank.parts }
