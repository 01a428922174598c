-- The darts of a set of edges while they are listed by their faces. Only the map's own steps say this.
use Rattle.std.specs.Prelude.{◌≡◌, ℕ, ◌/◌, ◌<◌, true, Bool, List, length, slice_index, All}
use Rattle.dpl_sign.specs.Drawings.{is_in}
use Rattle.dpl_list.specs.Rows.{of_key}
use Rattle.dpl_map.specs.Fields.{darts_below}

-- two lists have those of the first n darts that are in the set, and the numbers of their faces
pub record AreChosen (set : List Bool) (numbers : List ℕ) (n : ℕ) (faces darts : List ℕ) : Type 0 where
  pub sizes : length faces ≡ length darts
  pub rows : (f : ℕ) → of_key f faces darts ≡ darts_below set numbers f n
  pub below : (count : ℕ) → ((d : ℕ) → d < n → is_in set (d / 2) ≡ true →
      slice_index numbers d < count) →
      All (λ x. x < count) faces
