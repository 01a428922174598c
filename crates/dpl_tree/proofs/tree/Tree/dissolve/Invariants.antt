use Rattle.std.proofs.Common.{◌≡◌, ◌≢◌, ℕ, ◌<◌, ◌⊎◌, length, get_or}
use Rattle.dpl_tree.specs.steps.Forests.{free}
use Rattle.dpl_tree.specs.Views.{place_in}
use Rattle.dpl_tree.proofs.tree.Tree.dissolve.Given as goal

abbrev pub invariant-loop-i : goal.invariant-loop-i
invariant-loop-i l = record {
  rest : l.self ≡ record l.fn.self { labels = l.self.labels };
  count : length l.self.labels.items ≡ length l.fn.self.labels.items;
  gone : (j : ℕ) → j < l.i → (get_or l.fn.self.trees.items j 0 ≡ l.one) ⊎ (get_or l.fn.self.trees.items j 0 ≡ l.two) → place_in l.self.labels.items j ≡ free;
  others : (j : ℕ) → get_or l.fn.self.trees.items j 0 ≢ l.one → get_or l.fn.self.trees.items j 0 ≢ l.two →
      place_in l.self.labels.items j ≡ place_in l.fn.self.labels.items j;
}
