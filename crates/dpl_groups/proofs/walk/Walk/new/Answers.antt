use Rattle.std.proofs.Common.{◌≡◌, replicate, length}
use Rattle.dpl_groups.specs.declared.walk.Mark.TheVariants.{New}
use Rattle.dpl_groups.proofs.Views.{new_walk}
use Rattle.dpl_groups.proofs.walk.Walk.new.Goals as goal

pub returns-clause-walk : goal.returns-clause-walk
returns-clause-walk c =
    let marks : c.in_ok-vec.field-0.items ≡ replicate (length c.args.edges.now) New = c.in_ok-vec.ensures.items_if_clones_equal (λ y e. e) in
    new_walk c.args.edges.now _ marks c.in_ok-counts.ensures c.new.ensures.items c.new-2.ensures.items c.new-3.ensures.items c.new-4.ensures.items
