use Rattle.dpl_index.proofs.stops.stops_of.Goals as goal

pub stops_at-requires : goal.stops_at-requires
stops_at-requires c = rw c.as_slice.ensures.value (c.sort.ensures _ c.in_ok-places.ensures)
