-- Walks and odd walks: a closed walk that passes clashes an odd number of times is broken by every colouring.
use Rattle.std.specs.Prelude.{◌≡◌, ℕ, ◌%◌, ◌<◌, ◌==◌, ◌||◌, ◌&&◌, nat_lt, Bool, true, List, [], ◌∷◌, length, slice_index_or, count_by, if◌then◌else◌}
use Rattle.std.proofs.Common.{lit<, lit≤}
use Rattle.dpl_sign.specs.declared.edges.Kind.TheVariants.{Bond}
use Rattle.dpl_sign.specs.declared.edges.Edge.{Edge}
use Rattle.dpl_sign.specs.declared.graphs.Signed.{Signed}
use Rattle.dpl_sign.specs.declared.walks.Walk.{Walk}
use Rattle.dpl_sign.specs.Kinds.{is_clash}

-- what stands where there is no edge
abbrev pub no_edge : Edge
no_edge = record {
  a = 0;
  b = 1;
  kind = Bond;
  weight = 0;
  ordered = lit< tt;
  least = lit≤ tt;
  most = lit≤ tt;
}

abbrev pub edge_at : Signed → ℕ → Edge
edge_at g e = slice_index_or g.edges e no_edge

-- one end of an edge from the other
abbrev pub across : Edge → ℕ → ℕ
across e v = if e.a == v then e.b else e.a

-- there is such an edge, and the node is one of its ends
abbrev pub leaves : Signed → ℕ → ℕ → Bool
leaves g e v = nat_lt e (length g.edges) && (((edge_at g e).a == v) || ((edge_at g e).b == v))

-- the edges lead from v to w, each leaving the node that the earlier ones reached
abbrev pub IsPath : Signed → ℕ → List ℕ → ℕ → Type 0
IsPath g v [] w = v ≡ w
IsPath g v (e ∷ es) w = (leaves g e v ≡ true) × IsPath g (across (edge_at g e) v) es w

-- how many of these edges are clashes, each passage counted
abbrev pub clashes : Signed → List ℕ → ℕ
clashes g es = count_by (λ e. is_clash (edge_at g e).kind) es

abbrev pub IsClosed : Signed → Walk → Type 0
IsClosed g w = (0 < length w.edges) × IsPath g w.start w.edges w.start

-- a closed walk that passes clashes an odd number of times
pub record IsOddWalk (g : Signed) (w : Walk) : Type 0 where
  pub closed : IsClosed g w
  pub odd : clashes g w.edges % 2 ≡ 1
