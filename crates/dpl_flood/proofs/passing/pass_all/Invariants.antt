use Rattle.std.proofs.Common.{◌≡◌, ◌≢◌, ℕ, ◌+◌, ◌*◌, ◌<◌, ◌≤◌, true}
use Rattle.dpl_laminar.specs.Families.{IsFamily}
use Rattle.dpl_laminar.specs.Storing.{sets_of}
use Rattle.dpl_tree.specs.steps.Forests.{free, gain, drop_of}
use Rattle.dpl_tree.specs.Views.{place_in}
use Rattle.dpl_flood.proofs.passing.pass_all.Given as goal

abbrev pub invariant-loop-i : goal.invariant-loop-i
invariant-loop-i g l = record {
  rest : sets_of l.family ≡ record (sets_of l.fn.family) { value = (sets_of l.family).value };
  done : (j : ℕ) → j < l.i → (sets_of l.family).value j + drop_of (place_in l.labels j) * l.span ≡ (sets_of l.fn.family).value j + gain (place_in l.labels j) * l.span;
  todo : (j : ℕ) → l.i ≤ j → (sets_of l.family).value j ≡ (sets_of l.fn.family).value j;
  alive : (j : ℕ) → j < 2 * (sets_of l.fn.family).size → place_in l.labels j ≢ free → (sets_of l.family).live j ≡ true;
  family : IsFamily (sets_of l.family);
  count : l.steps ≤ l.fn.steps + l.i;
}
