use Rattle.std.proofs.Common.{◌∙◌, ap, sym, ◌++◌, ◌∷◌, [], List, ℕ, get_or}
use Rattle.std.proofs.lemmas.List.{take_more, take_all}
use Rattle.dpl_near.proofs.surroundings.narrow.Goals as goal

pub loop-j-preserved : goal.loop-j-preserved
loop-j-preserved c = c.in_ok-push.ensures.items ∙
    ap (λ (xs : List ℕ). xs ++ get_or c.args.found.now c.loop-j.j-index 0 ∷ []) c.loop-j.invariant ∙
    sym (take_more c.args.found.now c.loop-j.j-index 0 c.loop-j-test.true)

pub returns : goal.returns
returns c = c.loop-j.invariant ∙ take_all c.loop-j.j-index c.args.found.now c.loop-j-test.false
