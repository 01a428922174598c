-- What is asked of a split, as plain values, and their ranges.
use Rattle.std.specs.Prelude.{◌≡◌, ℕ, ◌≤◌, true, List, [], length, Option, None, Some, IfSome}
use Rattle.dpl_limits.specs.declared.TheConstants.{MOST_SPACE, MOST_WEIGHT}
use Rattle.dpl_lex.specs.Name.{is_name}

-- what a broken stitch weighs, a broken conflict between sides, and one between corners
pub record PlainWeights : Type 0 where
  pub stitch : ℕ
  pub conflict : ℕ
  pub corner : ℕ

-- the weights where none is asked for
abbrev pub usual_weights : PlainWeights
usual_weights = record { stitch = 1; conflict = 10; corner = 10 }

-- the layer, spacing and overlap in hundredths of a micron, weights, the layer where nothing is cut
pub record PlainOptions : Type 0 where
  pub layer : List ℕ
  pub space : ℕ
  pub overlap : ℕ
  pub weights : PlainWeights
  pub keep : Option (List ℕ)

-- each weight is in its range
pub record AreWeights (w : PlainWeights) : Type 0 where
  pub some_stitch : 1 ≤ w.stitch
  pub most_stitch : w.stitch ≤ MOST_WEIGHT
  pub some_conflict : 1 ≤ w.conflict
  pub most_conflict : w.conflict ≤ MOST_WEIGHT
  pub some_corner : 1 ≤ w.corner
  pub most_corner : w.corner ≤ MOST_WEIGHT

-- the name of a layer that is split: a letter comes behind it for each mask, and a layer has at most 32 bytes
abbrev pub IsSplitLayer : List ℕ → Type 0
IsSplitLayer name = (is_name name ≡ true) × (length name ≤ 31)

-- each option is in its range
pub record AreOptions (o : PlainOptions) : Type 0 where
  pub layer : IsSplitLayer o.layer
  pub some_space : 1 ≤ o.space
  pub most_space : o.space ≤ MOST_SPACE
  pub some_overlap : 1 ≤ o.overlap
  pub most_overlap : o.overlap ≤ MOST_SPACE
  pub weights : AreWeights o.weights
  pub keep : IfSome o.keep IsSplitLayer

-- the name of a layer, the empty one where there is none
abbrev pub name_or_nothing : Option (List ℕ) → List ℕ
name_or_nothing None = []
name_or_nothing (Some name) = name
