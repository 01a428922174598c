use Rattle.dpl_flood.proofs.tests.pairing.three_faces_fold_before_the_fourth_is_met.Given as goal

-- the ledger that is opened
abbrev pub ghosts-pairs_with_tail : goal.ghosts-pairs_with_tail
ghosts-pairs_with_tail g a = record { name = a.blank.name; parts = a.blank.parts }
