use Rattle.std.proofs.Common.{arith, ◌≡◌, ◌≢◌, ◌<◌, ℕ, length, get_or, refl, ◌∙◌, ap, length-set, get_or-set_other}
use Rattle.dpl_classes.proofs.WayLemmas.{falls_short, tops_short, top_step}
use Rattle.dpl_classes.proofs.rooting.top.Goals as goal

pub up-preserved : goal.up-preserved
up-preserved c =
    let v = c.up.invariant in
    let f = v.falls c.up.at v.inside in
    let within : get_or c.up.ups c.up.at 0 < length c.up.ups = let i = v.inside in omega arith in
    let g = v.falls (get_or c.up.ups c.up.at 0) within in
    record {
      falls = falls_short c.up.ups c.up.at _ v.falls v.inside refl;
      inside = rw length-set (omega arith);
      ends = λ k e. let h = v.ends k e in let other : k ≢ c.up.at =
          λ m. c.up-test.true (ap (λ j. get_or c.up.ups j 0) (m-back c.up.at k m) ∙ h ∙ m) in
          rw (get_or-set_other c.up.ups c.up.at k _ 0 other) h;
      same = λ tops t. tops_short c.up.ups tops c.up.at _ v.inside refl (v.same tops t);
      top = λ tops t. top_step c.up.ups tops c.up.at _ c.args.of v.inside refl (v.same tops t) (v.top tops t);
    } where
      m-back : (a k : ℕ) → k ≡ a → a ≡ k
      m-back a k e = omega arith

pub up-smaller : goal.up-smaller
up-smaller c =
    let v = c.up.invariant in
    let n = c.up-test.true in
    let f = v.falls c.up.at v.inside in
    let within : get_or c.up.ups c.up.at 0 < length c.up.ups = let i = v.inside in omega arith in
    let g = v.falls (get_or c.up.ups c.up.at 0) within in
    omega (arith, n)
