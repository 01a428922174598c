use Rattle.dpl_pack.proofs.MarkedLemmas.{map_at, beyond_searched, found_at, face_below, row_in}
use Rattle.dpl_pack.proofs.walks.search_face.Goals as goal

pub returns-then-around-i-clause-found : goal.returns-then-around-i-clause-found
returns-then-around-i-clause-found c = beyond_searched c.args.around.now c.args.i c.args.seen.now c.if-around-i.true

pub darts_of-row-requires : goal.darts_of-row-requires
darts_of-row-requires c = face_below c.args.around.now c.args.i c.requires.around c.requires.place c.if-around-i.false

pub search-requires-clause-map : goal.search-requires-clause-map
search-requires-clause-map c = map_at c.args.around.now c.requires.around

pub search-requires-clause-row : goal.search-requires-clause-row
search-requires-clause-row c = row_in c.args.around.now c.args.i _ c.requires.around c.requires.place c.if-around-i.false c.darts_of-row.ensures

pub returns-clause-found : goal.returns-clause-found
returns-clause-found c = found_at c.args.around.now c.args.i c.darts_of-row.result.now c.args.seen.now c.search.new.seen c.in_ok-found.found.0
    c.requires.around c.if-around-i.false c.darts_of-row.ensures c.in_ok-found.ensures.found
