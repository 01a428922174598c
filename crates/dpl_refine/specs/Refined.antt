-- Colourings that no turn of one piece makes cheaper: optima of the neighbourhood of single turns, as in Kernighan and Lin 1970.
use Rattle.std.specs.Prelude.{◌≡◌, ◌⊎◌, ℕ, ◌<◌, ◌≤◌, Bool, true, not, List, length}
use Rattle.dpl_sign.specs.declared.graphs.Signed.{Signed}
use Rattle.dpl_sign.specs.Colourings.{IsColouring, colour_of, cost_of}
use Rattle.dpl_refine.specs.Pieces.{AreOnePiece}
use Rattle.dpl_refine.specs.Components.{is_around, cost_around}

-- the piece of the node u is turned over: its nodes have the other colour, and all others the one that they had
pub record IsTurnedAt (g : Signed) (u : ℕ) (old new : List Bool) : Type 0 where
  pub long : length new ≡ length old
  pub inside : (v : ℕ) → v < g.nodes → AreOnePiece g u v →
      colour_of new v ≡ not (colour_of old v)
  pub others : (v : ℕ) → v < g.nodes → ¬ AreOnePiece g u v → colour_of new v ≡ colour_of old v

-- no piece can be turned over alone to cost less
abbrev pub IsSettled : Signed → List Bool → Type 0
IsSettled g colours = (u : ℕ) (others : List Bool) → u < g.nodes → IsTurnedAt g u colours others →
    cost_of g colours ≤ cost_of g others

-- the colours cost less than those before, or they are the same
abbrev pub IsCheaperOrSame : Signed → List Bool → List Bool → Type 0
IsCheaperOrSame g before after = (cost_of g after < cost_of g before) ⊎ (after ≡ before)

-- the nodes of the component of the node u have the colours that they had
abbrev pub IsSameAround : Signed → ℕ → List Bool → List Bool → Type 0
IsSameAround g u before after =
    (v : ℕ) → v < g.nodes → is_around g u v ≡ true → colour_of after v ≡ colour_of before v

-- in each component the colours cost less than those before, or they are the same
abbrev pub IsCheaperOrSameAround : Signed → List Bool → List Bool → Type 0
IsCheaperOrSameAround g before after = (u : ℕ) → u < g.nodes →
    (cost_around g u after < cost_around g u before) ⊎ IsSameAround g u before after

-- Colours that agree at bonds, cost less than those before or are the same, and that no turn of one piece makes cheaper. So
-- they cost no more, and where no colours cost less than those before, they are the same. The same holds in each component,
-- so a component in which none cost less keeps its colours.
pub record IsRefined (g : Signed) (before after : List Bool) : Type 0 where
  pub colouring : IsColouring g after
  pub cheaper : IsCheaperOrSame g before after
  pub around : IsCheaperOrSameAround g before after
  pub settled : IsSettled g after
