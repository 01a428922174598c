-- Names and colours of nodes while a colouring is made. No public clause speaks of this.
use Rattle.std.specs.Prelude.{◌≡◌, ◌≢◌, ℕ, ◌+◌, ◌*◌, ◌/◌, ◌%◌, ◌<◌, ◌≤◌, Bool, true, false, List, length, slice_index, slice_index_or, if◌then◌else◌, ◌⊎◌}
use Rattle.dpl_sign.specs.declared.graphs.Signed.{Signed}
use Rattle.dpl_sign.specs.Kinds.{is_clash}
use Rattle.dpl_sign.specs.Colourings.{colour_of}
use Rattle.dpl_sign.specs.Walks.{edge_at}
use Rattle.dpl_map.specs.Views.{MapView, view_of}
use Rattle.dpl_map.specs.Sides.{is_kept, clash_bit, differ}
use Rattle.dpl_map.specs.Planes.{IsPlane, AreLabels, joined_bit}
use Rattle.dpl_colour.specs.declared.merging.Change.{Change}
use Rattle.dpl_colour.specs.declared.merging.Wanted.{Wanted}
use Rattle.dpl_colour.specs.Meets.{is_joined}

-- the bit of a dart, by which the colours of its ends are to differ
unfoldable pub bits : Signed → List Bool → ℕ → ℕ
bits g joined d = joined_bit joined (d / 2) + clash_bit g d

-- whether the colours on one side of an edge have to be exchanged
abbrev pub flip_for : Signed → List Bool → List Bool → ℕ → Bool
flip_for g joined colours e =
    differ (differ (colour_of colours (edge_at g e).a) (colour_of colours (edge_at g e).b))
    (differ (is_joined joined e) (is_clash (edge_at g e).kind))

-- the colour of a node and its label
abbrev pub shade : List Bool → (ℕ → ℕ) → ℕ → ℕ
shade colours labels v = (if colour_of colours v then 1 else 0) + labels v

-- there are labels from which the colours of one name differ all or none, and the ends of the first k edges have one name
pub record IsColoured (g : Signed) (m : MapView) (joined : List Bool) (k : ℕ) (names : List ℕ)
    (colours : List Bool) :
    Type 0 where
  pub lengths : length names ≡ g.nodes
  pub sizes : length colours ≡ g.nodes
  pub labels : ℕ → ℕ
  pub fit : AreLabels g m (bits g joined) labels
  pub same : (v w : ℕ) → v < g.nodes → w < g.nodes → slice_index names v ≡ slice_index names w →
      shade colours labels v % 2 ≡ shade colours labels w % 2
  pub done : (e : ℕ) → e < k → is_kept m (2 * e) ≡ true →
      slice_index names (edge_at g e).a ≡ slice_index names (edge_at g e).b

-- a place for each edge of a drawn graph
pub record IsWanted (w : Wanted) : Type 0 where
  pub map : IsPlane w.graph.now (view_of w.map.now)
  pub places : length w.joined.now ≡ length w.graph.now.edges

-- the names and the colours of the nodes
pub record Painted : Type 0 where
  pub names : List ℕ
  pub colours : List Bool

abbrev pub painted : List ℕ → List Bool → Painted
painted names colours = record { names = names; colours = colours }

abbrev pub name_in : Painted → ℕ → ℕ
name_in p v = slice_index p.names v

abbrev pub colour_in : Painted → ℕ → Bool
colour_in p v = slice_index_or p.colours v false

-- the name and the colour of a node are as before
abbrev pub IsSame : Painted → Painted → ℕ → Type 0
IsSame old new v = (name_in new v ≡ name_in old v) × (colour_in new v ≡ colour_in old v)

-- the node has the other name now, and its colour is exchanged where that is asked
pub record IsMoved (c : Change) (old new : Painted) (v : ℕ) : Type 0 where
  pub was : name_in old v ≡ c.from
  pub now : name_in new v ≡ c.to
  pub colour : colour_in new v ≡ differ c.flip (colour_in old v)

-- of the first k nodes those of the one name have the other now, and their colours are exchanged where that is asked
pub record IsMerged (c : Change) (k : ℕ) (old new : Painted) : Type 0 where
  pub lengths : length new.names ≡ length old.names
  pub sizes : length new.colours ≡ length old.colours
  pub hit : (v : ℕ) → v < k → name_in old v ≡ c.from → (name_in new v ≡ c.to) ×
      (colour_in new v ≡ differ c.flip (colour_in old v))
  pub miss : (v : ℕ) → name_in old v ≢ c.from → IsSame old new v
  pub later : (v : ℕ) → k ≤ v → IsSame old new v

-- of the nodes of the one name those at the first places have the other now
pub record IsMerging (c : Change) (places : ℕ → ℕ) (i : ℕ) (old new : Painted) : Type 0 where
  pub lengths : length new.names ≡ length old.names
  pub sizes : length new.colours ≡ length old.colours
  pub each : (v : ℕ) → IsSame old new v ⊎ (IsMoved c old new v × (places v < i))
  pub done : (v : ℕ) → v < length old.names → name_in old v ≡ c.from → places v < i →
      name_in new v ≡ c.to
