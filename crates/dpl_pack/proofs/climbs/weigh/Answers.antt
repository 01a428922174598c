use Rattle.std.proofs.Common.{rules, arith, ◌≡◌, ◌+◌, ◌-◌, ap, true}
use Rattle.dpl_laminar.specs.Storing.{sets_of}
use Rattle.dpl_pack.specs.Climbs.{weight_in}
use Rattle.dpl_pack.proofs.MoatLemmas.{all_within}
use Rattle.dpl_pack.proofs.OutLemmas.{total_most, totals_less, weight_both}
use Rattle.dpl_pack.proofs.climbs.weigh.Goals as goal

pub overflow_add-beside : goal.overflow_add-beside
overflow_add-beside c = omega (
  arith,
  c.requires.small,
  c.requires.totals.each c.args.second.0 c.requires.second,
  total_most (sets_of c.args.tree.now.family.now) c.args.second.0,
  all_within _ c.requires.family,
)

pub overflow_sub-beside : goal.overflow_sub-beside
overflow_sub-beside c =
    let both : c.holds.result ≡ true = search rules in
    let held : (sets_of c.args.tree.now.family.now).holds c.args.set c.args.second.0 ≡ true = rw c.holds.ensures at both in
    omega (
      arith,
      c.requires.totals.each c.args.first.0 c.requires.first,
      c.requires.totals.each c.args.second.0 c.requires.second,
      totals_less _ c.requires.family c.args.set c.args.first.0 c.args.second.0 c.args.inside (omega (arith, c.requires.set)) c.requires.first
          c.requires.second c.requires.held held c.requires.inside,
    )

pub returns-then-depth-other : goal.returns-then-depth-other
returns-then-depth-other c =
    let both : c.holds.result ≡ true = search rules in
    let held : (sets_of c.args.tree.now.family.now).holds c.args.set c.args.second.0 ≡ true = rw c.holds.ensures at both in
    omega (
      arith,
      ap (λ z. weight_in (sets_of c.args.tree.now.family.now) c.args.first c.args.second z c.args.set) c.if-skips.false,
      weight_both _ c.requires.family c.args.first c.args.second c.args.set c.args.inside _ c.min-depth.result c.min-other.result
          (omega (arith, c.requires.set)) c.requires.first c.requires.second c.requires.held held c.requires.inside
          (λ i. c.args.inside + c.requires.totals.each c.args.second.0 c.requires.second i - c.requires.totals.each c.args.first.0 c.requires.first i)
          (omega (arith, c.min-depth.ensures, c.saturating_sub.ensures, c.value-value.ensures.value))
          (omega (arith, c.min-other.ensures, c.saturating_sub-2.ensures, c.value-value.ensures.value)),
      c.if-depth-other.true,
    )

pub returns : goal.returns
returns c =
    let both : c.holds.result ≡ true = search rules in
    let held : (sets_of c.args.tree.now.family.now).holds c.args.set c.args.second.0 ≡ true = rw c.holds.ensures at both in
    omega (
      arith,
      ap (λ z. weight_in (sets_of c.args.tree.now.family.now) c.args.first c.args.second z c.args.set) c.if-skips.false,
      weight_both _ c.requires.family c.args.first c.args.second c.args.set c.args.inside _ c.min-depth.result c.min-other.result
          (omega (arith, c.requires.set)) c.requires.first c.requires.second c.requires.held held c.requires.inside
          (λ i. c.args.inside + c.requires.totals.each c.args.second.0 c.requires.second i - c.requires.totals.each c.args.first.0 c.requires.first i)
          (omega (arith, c.min-depth.ensures, c.saturating_sub.ensures, c.value-value.ensures.value))
          (omega (arith, c.min-other.ensures, c.saturating_sub-2.ensures, c.value-value.ensures.value)),
      c.if-depth-other.false,
    )
