-- What a colouring of the nodes breaks, and what that costs: conflicts and stitches as in Kahng, Park, Xu, Yao 2008,
-- "Layout decomposition for double patterning lithography".
use Rattle.std.specs.Prelude.{◌≡◌, ℕ, Bool, true, false, not, List, length, slice_index_or, sum_by, if◌then◌else◌, All}
use Rattle.dpl_sign.specs.declared.edges.Kind.{Kind}
use Rattle.dpl_sign.specs.declared.edges.Kind.TheVariants.{Bond, Stitch, Clash}
use Rattle.dpl_sign.specs.declared.edges.Edge.{Edge}
use Rattle.dpl_sign.specs.declared.graphs.Signed.{Signed}
use Rattle.dpl_sign.specs.Kinds.{is_bond}

-- two colours are one
abbrev pub agree : Bool → Bool → Bool
agree true b = b
agree false b = not b

-- a stitch is broken where its ends differ, a clash where they agree, and a bond never
abbrev pub is_broken : Kind → Bool → Bool → Bool
is_broken Bond a b = false
is_broken Stitch a b = not (agree a b)
is_broken Clash a b = agree a b

abbrev pub colour_of : List Bool → ℕ → Bool
colour_of colours v = slice_index_or colours v false

abbrev pub breaks : List Bool → Edge → Bool
breaks colours e = is_broken e.kind (colour_of colours e.a) (colour_of colours e.b)

abbrev pub broken_weight : List Bool → Edge → ℕ
broken_weight colours e = if breaks colours e then e.weight else 0

-- the sum of the weights of the broken edges
abbrev pub cost_of : Signed → List Bool → ℕ
cost_of g colours = sum_by (broken_weight colours) g.edges

-- a colour for each node, one for the two ends of each bond
pub record IsColouring (g : Signed) (colours : List Bool) : Type 0 where
  pub length : length colours ≡ g.nodes
  pub bonds : All (λ e. is_bond e.kind ≡ true →
      colour_of colours e.a ≡ colour_of colours e.b) g.edges
