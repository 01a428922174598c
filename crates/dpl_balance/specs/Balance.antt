-- Masks that cover about the same area.
use Rattle.std.specs.Prelude.{◌≡◌, ℕ, ◌+◌, ◌-◌, ◌<◌, ◌≤◌, Bool, true, false, not, List, length, if◌then◌else◌, All}
use Rattle.dpl_sign.specs.declared.nets.Net.{Net}
use Rattle.dpl_sign.specs.Colourings.{agree, colour_of, breaks}
use Rattle.dpl_cuts.specs.declared.types.Fragments.{Fragments}
use Rattle.dpl_balance.specs.Areas.{area_on, all_fragments}
use Rattle.dpl_parts.specs.Components.{are_one_component}

-- how far two numbers are apart
abbrev pub difference : ℕ → ℕ → ℕ
difference a b = (a - b) + (b - a)

-- by how much the two masks differ in those fragments and the zones between them
abbrev pub mask_difference : Fragments → (ℕ → Bool) → List Bool → ℕ
mask_difference f those colours =
    difference (area_on f those false colours) (area_on f those true colours)

-- a bound on what the masks differ by in one component bounds what they differ by in all: so they differ by no more
-- than the greatest difference of a component, and by nothing where there is none
abbrev pub AreBalanced : Fragments → Net → List Bool → Type 0
AreBalanced f net colours = (most : ℕ)
    → ((u : ℕ) → u < net.graph.nodes →
    mask_difference f (are_one_component net u) colours ≤ most)
    → mask_difference f all_fragments colours ≤ most

-- the other colour, where a component is turned over
abbrev pub turn : Bool → Bool → Bool
turn turned colour = if turned then not colour else colour

-- In each component all new colours are the old ones, or all are the opposite ones.
pub record AreTurned (net : Net) (old new : List Bool) : Type 0 where
  pub long : length new ≡ length old
  pub whole : (u v : ℕ) → u < net.graph.nodes → v < net.graph.nodes
      → are_one_component net u v ≡ true
      → agree (colour_of old u) (colour_of new u) ≡ agree (colour_of old v) (colour_of new v)

-- the colourings break the same edges
abbrev pub BreakTheSame : Net → List Bool → List Bool → Type 0
BreakTheSame net old new = All (λ e. breaks new e ≡ breaks old e) net.graph.edges
