use Rattle.dpl_good.proofs.HolderLemmas.{held_where, one_holds, told_for_holders}
use Rattle.dpl_good.proofs.laws.one_fragment_holds_a_cell.Goals as goal

pub returns-clause-held : goal.returns-clause-held
returns-clause-held c = λ cells tiles f a x y. held_where c.args.options.now cells tiles f c.in_range.ensures a x y

pub returns-clause-one : goal.returns-clause-one
returns-clause-one c = λ cells tiles f a i j x y g h. one_holds c.args.options.now cells tiles f c.in_range.ensures a i j x y g h

pub returns-clause-told : goal.returns-clause-told
returns-clause-told c = λ cells tiles f net r a x y x' y'.
    told_for_holders c.args.options.now cells tiles f net r c.in_range.ensures a x y x' y'
