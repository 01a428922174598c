use Rattle.dpl_flood.proofs.tests.a_member_loses_what_its_child_has.Given as goal

-- the ledger that is opened
abbrev pub ghosts-inners_after : goal.ghosts-inners_after
ghosts-inners_after g a = record { name = a.blank.name; parts = a.blank.parts }
