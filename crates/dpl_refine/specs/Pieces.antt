-- Pieces: the classes of the nodes of a graph under its bonds. The ends of a bond have one colour, so a piece is turned over as a whole.
use Rattle.std.specs.Prelude.{ℕ, List, [], ◌∷◌, if◌then◌else◌}
use Rattle.dpl_classes.specs.Chains.{AreLinked}
use Rattle.dpl_classes.specs.Classes.{AreClasses}
use Rattle.dpl_sign.specs.declared.edges.Edge.{Edge}
use Rattle.dpl_sign.specs.declared.graphs.Signed.{Signed}
use Rattle.dpl_sign.specs.Kinds.{is_bond}

-- the two ends of each bond
abbrev pub bonds_of : List Edge → List (ℕ × ℕ)
bonds_of [] = []
bonds_of (e ∷ edges) = if is_bond e.kind then (e.a, e.b) ∷ bonds_of edges else bonds_of edges

-- a chain of bonds leads from one node to the other
abbrev pub AreOnePiece : Signed → ℕ → ℕ → Type 0
AreOnePiece g u v = AreLinked (bonds_of g.edges) u v

-- each node has the number of its piece
abbrev pub ArePieces : Signed → List ℕ → ℕ → Type 0
ArePieces g piece count = AreClasses (bonds_of g.edges) g.nodes piece count
