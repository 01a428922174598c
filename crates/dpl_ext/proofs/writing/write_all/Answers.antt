use Rattle.std.proofs.Common.{◌+◌, ◌∙◌, ap, drop}
use Rattle.std.proofs.lemmas.List.{take_rest, drop-drop}
use Rattle.dpl_ext.proofs.TakenLemmas.{Appends-take}
use Rattle.dpl_ext.proofs.writing.write_all.Goals as goal

pub loop-rest-preserved : goal.loop-rest-preserved
loop-rest-preserved g c =
    let n = c.in_ok-count.count in
    let k = c.loop-rest.invariant.count in
    record {
      same = c.in_ok-count.ensures.cause.steady ∙ c.loop-rest.invariant.same;
      count = k + n;
      rest = take_rest _ n ∙ ap (drop n) c.loop-rest.invariant.rest ∙ drop-drop n k _;
      taken = Appends-take _ _ _ _ _ k n c.loop-rest.invariant.taken c.loop-rest.invariant.rest c.in_ok-count.ensures.bytes;
    }
