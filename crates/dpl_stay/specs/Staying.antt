-- Components that stay, and their nodes in the old net.
use Rattle.std.specs.Prelude.{◌≡◌, ℕ, ◌<◌, Bool, true, List, length, Option, Some, None}
use Rattle.dpl_cell.specs.declared.rect.Rect.{Rect}
use Rattle.dpl_sign.specs.declared.nets.Net.{Net}
use Rattle.dpl_parts.specs.Parts.{IsPartOf}
use Rattle.dpl_parts.specs.Picks.{is_taken, AreClosed}
use Rattle.dpl_stay.specs.Same.{corners_at, AreSame}
use Rattle.dpl_stay.specs.Pairs.{at}

-- the number, where there is one
abbrev pub number_or_zero : Option ℕ → ℕ
number_or_zero None = 0
number_or_zero (Some v) = v

-- a part of the new net whose nodes have these numbers is a part of the old one, where the partners of the nodes stand
-- for them
abbrev pub IsPartOfOld : Net → List (Option ℕ) → Net → (ℕ → ℕ) → Type 0
IsPartOfOld m ps part node = (edge : ℕ → ℕ) × IsPartOf part m (λ i. number_or_zero (at ps (node i))) edge

-- Whole components are taken. Each of their nodes has a partner, and together they are a part of both nets. Each component
-- that is the same as an old one is taken.
pub record AreStaying (f g : List Rect) (n m : Net) (ps : List (Option ℕ)) (taken : List Bool) : Type 0 where
  pub long : length taken ≡ n.graph.nodes
  pub partners_long : length ps ≡ n.graph.nodes
  pub closed : AreClosed taken n.graph.edges
  pub partner : (v : ℕ) → v < n.graph.nodes → is_taken taken v ≡ true → (w : ℕ) × (at ps v ≡ Some w)
  pub part : (part : Net) (node edge : ℕ → ℕ) → IsPartOf part n node edge →
      ((i : ℕ) → i < part.graph.nodes → is_taken taken (node i) ≡ true) → IsPartOfOld m ps part node
  pub same : (v w : ℕ) → v < n.graph.nodes → w < m.graph.nodes → AreSame f g n m v w →
      corners_at f v ≡ corners_at g w → (is_taken taken v ≡ true) × (at ps v ≡ Some w)
