use Rattle.std.proofs.Common.{arith, length, []}
use Rattle.std.proofs.lemmas.List.FromFn.{get_or-map-range_with_len, length-map-range_with_len}
use Rattle.dpl_flood.specs.Steps.{steps_of}
use Rattle.dpl_flood.proofs.StepLemmas.{each_below, only_below}
use Rattle.dpl_flood.proofs.chains.steps_are.Goals as goal

pub returns-clause-each : goal.returns-clause-each
returns-clause-each c = λ ways f w h at ne. each_below ways f w (length ways) h at ne

pub returns-clause-only : goal.returns-clause-only
returns-clause-only c = λ ways f y h. only_below ways f y (length ways) (omega arith) h

pub returns-clause-row : goal.returns-clause-row
returns-clause-row c = λ ways faces f h. get_or-map-range_with_len (steps_of ways) 0 faces f f [] h (omega arith)

pub returns-clause-sizes : goal.returns-clause-sizes
returns-clause-sizes c = λ ways faces. length-map-range_with_len (steps_of ways) 0 faces
