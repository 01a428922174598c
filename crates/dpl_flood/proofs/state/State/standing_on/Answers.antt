use Rattle.std.proofs.Common.{arith, sym, ap}
use Rattle.dpl_laminar.specs.Storing.{sets_of}
use Rattle.dpl_tree.specs.steps.Forests.{gain, drop_of}
use Rattle.dpl_tree.specs.Views.{place_of}
use Rattle.dpl_flood.proofs.StateLemmas.{total_is, total_small}
use Rattle.dpl_flood.proofs.state.State.standing_on.Goals as goal

pub overflow_add-total : goal.overflow_add-total
overflow_add-total c = omega (
  arith,
  total_is c.requires.state.0 c.args.self.now c.requires.state.1 c.args.member c.requires.member,
  total_small c.requires.state.0 c.args.self.now c.requires.state.1 c.args.member c.requires.member,
  c.inner.ensures,
  c.value.ensures.value,
  ap (sets_of c.args.self.now.family).value c.tops-top.ensures.value,
)

pub returns : goal.returns
returns c = record {
  inside = c.requires.member;
  top = c.tops-top.ensures.value;
  reach = omega (
    arith,
    c.saturating_sub.ensures,
    total_is c.requires.state.0 c.args.self.now c.requires.state.1 c.args.member c.requires.member,
    c.inner.ensures,
    c.value.ensures.value,
    ap (sets_of c.args.self.now.family).value c.tops-top.ensures.value,
  );
  gains = sym (ap (λ l. gain (place_of l)) c.label.ensures);
  losses = sym (ap (λ l. drop_of (place_of l)) c.label.ensures);
  rests = sym c.is_resting.ensures;
}
