use Rattle.dpl_index.proofs.grouping.stops_by_kind.Goals as goal

pub stops_at-requires : goal.stops_at-requires
stops_at-requires c =
    rw c.as_slice-2.ensures.value (c.in_ok-group.ensures _ (c.in_ok-groups.ensures _ (rw c.as_slice.ensures.value (c.sort.ensures _ c.in_ok-places.ensures))))
