use Rattle.dpl_pack.proofs.rounds.go_round.Goals as goal

pub go_round_set-requires-clause-course : goal.go_round_set-requires-clause-course
go_round_set-requires-clause-course c = record {
  map = c.requires.map;
  laid = c.laid.ensures.laid;
  below = rw c.laid.ensures.moats c.requires.faces;
  odd = rw c.laid.ensures.moats c.requires.odd;
}
