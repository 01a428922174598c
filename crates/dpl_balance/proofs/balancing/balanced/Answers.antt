use Rattle.std.proofs.Common.{arith, ◌≡◌, ◌<◌, ℕ, length, sym, ap, subst, ◌∙◌, All}
use Rattle.dpl_balance.proofs.BalanceLemmas.{AreTurnedBy, whole_components, balanced_by}
use Rattle.dpl_balance.proofs.balancing.balanced.Goals as goal

turned_long : (c : goal.After-drop-number-2) → length c.in_ok-turned.turned.items ≡ length c.in_ok-on_a.on_a.items
turned_long c = c.in_ok-turned.ensures.long ∙ ap length c.as_slice-3.ensures.value

turned_by : (c : goal.After-drop-number-2) → AreTurnedBy c.args.fragments.now c.args.net.now c.args.colours.now
    c.in_ok-found.found.items c.in_ok-number.number.items c.in_ok-turned.turned.items
turned_by c = record {
  components = c.in_ok-number.ensures.components;
  nodes = c.requires.nodes;
  one = c.requires.one;
  long = c.in_ok-found.ensures.long;
  within =
      let P : ℕ → Type 0 = λ n. All (λ k. k < n) c.in_ok-number.number.items in
      subst P (sym (turned_long c ∙ c.in_ok-on_a.ensures.long)) c.in_ok-number.ensures.within;
  each = rw (c.as_slice-5.ensures.value, c.as_slice-6.ensures.value) at c.in_ok-found.ensures.each;
}

pub returns-clause-turned : goal.returns-clause-turned
returns-clause-turned c = whole_components c.args.fragments.now c.args.net.now c.args.colours.now
    c.in_ok-found.found.items c.in_ok-number.number.items c.in_ok-turned.turned.items (turned_by c)

pub returns-clause-even : goal.returns-clause-even
returns-clause-even c =
    let a = rw (c.as_slice-rects.ensures, c.as_slice.ensures.value) at c.in_ok-on_a.ensures.each in
    let b = rw (c.as_slice-rects.ensures, c.as_slice-2.ensures.value) at c.in_ok-on_b.ensures.each in
    let n = c.in_ok-on_a.ensures.long in
    let even = rw (c.as_slice-3.ensures.value, c.as_slice-4.ensures.value) at c.in_ok-turned.ensures.even in
    balanced_by c.args.fragments.now c.args.net.now c.args.colours.now c.in_ok-found.found.items
    c.in_ok-number.number.items c.in_ok-turned.turned.items c.in_ok-on_a.on_a.items c.in_ok-on_b.on_b.items
    (turned_by c) (sym (turned_long c))
    (λ k l. a k (omega (arith, n))) (λ k l. b k (omega (arith, n))) even
