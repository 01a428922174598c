use Rattle.std.proofs.Common.{arith, ◌≡◌, inl, inr}
use Rattle.std.proofs.lemmas.Bool.{cases_lt}
use Rattle.std.proofs.lemmas.List.{get_or_default}
use Rattle.dpl_tiles.proofs.WindowLemmas.{at_most_on, reached}
use Rattle.dpl_tiles.proofs.sweeping.window_of.Goals as goal

pub loop-r-preserved : goal.loop-r-preserved
loop-r-preserved c =
    let v = c.loop-r.invariant in
    let w = c.with_stack-columns.ensures in
    let i = c.loop-r.r-index in
    record {
      left = at_most_on _ _ _ w.left v.left;
      right = at_most_on _ _ _ v.right w.right;
      lefts = λ k d l h. elim (cases_lt k i) [
        | inl g ↦ at_most_on _ _ _ w.left (v.lefts k d g h)
        | inr g ↦ let e : k ≡ i = omega arith in rw (e, get_or_default c.args.near.now i d c.r-item.result c.loop-r-test.true, ← c.r-item.is) w.own_left
      ];
      rights = λ k d l h. elim (cases_lt k i) [
        | inl g ↦ at_most_on _ _ _ (v.rights k d g h) w.right
        | inr g ↦ let e : k ≡ i = omega arith in rw (e, get_or_default c.args.near.now i d c.r-item.result c.loop-r-test.true, ← c.r-item.is) w.own_right
      ];
      first = reached (λ r. r.x1) c.args.near.now i c.r-item.result _ _ _ c.loop-r-test.true c.r-item.is w.first v.first;
      last = reached (λ r. r.x2) c.args.near.now i c.r-item.result _ _ _ c.loop-r-test.true c.r-item.is w.last v.last;
    }
