-- The faces of the edges of a set as the nodes of another graph, the dual: the conflict graphs of Xu and Chu 2010.
use Rattle.std.specs.Prelude.{◌≡◌, ℕ, ◌+◌, ◌*◌, ◌/◌, ◌%◌, ◌<◌, ◌==◌, ◌&&◌, Bool, true, false, List, [], ◌∷◌, length, if◌then◌else◌, ◌⊎◌}
use Rattle.dpl_sign.specs.declared.nets.Net.{Net}
use Rattle.dpl_sign.specs.Kinds.{is_bond, is_clash}
use Rattle.dpl_sign.specs.Walks.{edge_at}
use Rattle.dpl_sign.specs.Drawings.{dart_count, face_of}
use Rattle.dpl_cycle.specs.Sums.{count_on}

abbrev pub is_clash_edge : Net → ℕ → Bool
is_clash_edge net e = is_clash (edge_at net.graph e).kind

-- a stitch or a clash of the set
abbrev pub is_crossable : Net → (ℕ → Bool) → ℕ → Bool
is_crossable net set e =
    if set e then (if is_bond (edge_at net.graph e).kind then false else true) else false

-- how often a face passes edges that pass a test, each dart counted
abbrev pub passages_on_face : Net → (ℕ → Bool) → (ℕ → Bool) → ℕ → ℕ
passages_on_face net set test f =
    count_on (λ d. set (d / 2) && (face_of net set d == f) && test (d / 2)) (dart_count net)

-- a face that passes clashes an odd number of times
abbrev pub is_odd_face : Net → (ℕ → Bool) → ℕ → Bool
is_odd_face net set f = passages_on_face net set (is_clash_edge net) f % 2 == 1

-- stitches and clashes of the set of which each face passes as many as it passes clashes, up to parity
pub record MeetsFaces (net : Net) (set chosen : ℕ → Bool) : Type 0 where
  pub crossable : (e : ℕ) → e < length net.graph.edges → chosen e ≡ true →
      is_crossable net set e ≡ true
  pub parity : (f : ℕ) → f < dart_count net → passages_on_face net set chosen f % 2
      ≡ passages_on_face net set (is_clash_edge net) f % 2

-- a kept stitch or clash with one of the faces on each side
pub record Separates (net : Net) (set : ℕ → Bool) (e f g : ℕ) : Type 0 where
  pub edge : e < length net.graph.edges
  pub crossable : is_crossable net set e ≡ true
  pub sides : ((face_of net set (2 * e) ≡ f) × (face_of net set (2 * e + 1) ≡ g)) ⊎
      ((face_of net set (2 * e) ≡ g) × (face_of net set (2 * e + 1) ≡ f))

-- two faces are neighbours where an edge has one on each side
abbrev pub AreAdjacentFaces : Net → (ℕ → Bool) → ℕ → ℕ → Type 0
AreAdjacentFaces net set f g = (e : ℕ) × Separates net set e f g

-- these faces lead from f to g, each a neighbour of the one before
abbrev pub IsFacePath : Net → (ℕ → Bool) → ℕ → List ℕ → ℕ → Type 0
IsFacePath net set f [] g = f ≡ g
IsFacePath net set f (h ∷ hs) g = AreAdjacentFaces net set f h × IsFacePath net set h hs g

-- two faces are of one part where neighbours lead from one to the other
abbrev pub AreOfOnePart : Net → (ℕ → Bool) → ℕ → ℕ → Type 0
AreOfOnePart net set f g = (hs : List ℕ) × IsFacePath net set f hs g
