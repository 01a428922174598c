use Rattle.dpl_flood.proofs.StampedLemmas.{never_written}
use Rattle.dpl_flood.proofs.stamped.Stamped.new.Goals as goal

pub returns : goal.returns
returns c = never_written c.args.places c.in_ok-vec.field-0.items (c.in_ok-vec.ensures.items_if_clones_equal (λ y h. h))
