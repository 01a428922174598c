-- Fragments with many others around them, and links for which one that was found stands.
use Rattle.std.specs.Prelude.{◌≡◌, ◌≢◌, ◌⊎◌, ℕ, ◌*◌, ◌<◌, ◌≤◌, Bool, false, true, List, length, map, slice_index_or, min, max}
use Rattle.std.specs.Prelude.{All, Any, Contains, IfSome, Option, Some}
use Rattle.dpl_cell.specs.Places.{Corners, corners_of}
use Rattle.dpl_index.specs.declared.bounds.Bounds.{Bounds}
use Rattle.dpl_index.specs.declared.stops.Stop.{Stop}
use Rattle.dpl_index.specs.Holds.{Holds}
use Rattle.dpl_index.specs.Kinds.{HasKinds}
use Rattle.dpl_index.specs.Stops.{IsIndex}
use Rattle.dpl_near.specs.Bounds.{bounds_of}
use Rattle.dpl_cuts.specs.Positions.{rect_at}
use Rattle.dpl_links.specs.declared.linking.Link.{Link}
use Rattle.dpl_links.specs.declared.crowded.Crowd.{Crowd}
use Rattle.dpl_links.specs.declared.turning.Turn.{Turn}
use Rattle.dpl_links.specs.Pairs.{Scene, rect_gap2}
use Rattle.dpl_links.specs.Links.{piece_of, IsLink}
use Rattle.dpl_links.specs.Gathering.{StandsFor, ArePieces}

-- a link of the list stands for this one
abbrev pub IsCovered : List Link → Link → Type 0
IsCovered links l = Any (λ m. StandsFor m l) links

-- whether a fragment is one of the crowded ones
abbrev pub is_crowded : List Bool → ℕ → Bool
is_crowded crowded j = slice_index_or crowded j false

-- each link with a fragment below i has one that stands for it, or that fragment is a crowded one
pub record AreGatheredBut (s : Scene) (pieces : List ℕ) (i : ℕ) (crowded : List Bool)
    (links : List Link) : Type 0 where
  pub each : All (IsLink s pieces) links
  pub first : (l : Link) → IsLink s pieces l → l.a < i →
      IsCovered links l ⊎ (is_crowded crowded l.a ≡ true)
  pub second : (l : Link) → IsLink s pieces l → l.b < i →
      IsCovered links l ⊎ (is_crowded crowded l.b ≡ true)

-- the fragments of the link are these two
abbrev pub HasEnds : Link → ℕ → ℕ → Type 0
HasEnds l i j = ((l.a ≡ i) × (l.b ≡ j)) ⊎ ((l.a ≡ j) × (l.b ≡ i))

-- the item stands at a stop from one on
pub record IsFrom (stops : List Stop) (from j : ℕ) : Type 0 where
  pub place : ℕ
  pub later : from ≤ place
  pub within : place < length stops
  pub number : (d : Stop) → (slice_index_or stops place d).number ≡ j

-- the turn looks from one fragment at the other
abbrev pub LooksAt : List Stop → Turn → ℕ → ℕ → Type 0
LooksAt stops t i j = (t.number ≡ i) × IsFrom stops t.from j

-- for each link that is kept one of the list stands
abbrev pub AreKept : List (Option Link) → List Link → Type 0
AreKept nearest links = All (λ kept. IfSome kept (IsCovered links)) nearest

-- links, and some of them that are kept
pub record AreKnown (s : Scene) (pieces : List ℕ) (links : List Link)
    (nearest : List (Option Link)) : Type 0 where
  pub each : All (IsLink s pieces) links
  pub kept : AreKept nearest links

-- links are added, until each of the fragment i with one that is done has one that stands for it
pub record AddsLinks (s : Scene) (pieces : List ℕ) (i : ℕ) (IsDone : ℕ → Type 0)
    (links new : List Link) (nearest : List (Option Link)) : Type 0 where
  pub known : AreKnown s pieces new nearest
  pub grows : (l : Link) → IsCovered links l → IsCovered new l
  pub all : (l : Link) (j : ℕ) → IsLink s pieces l → HasEnds l i j → IsDone j → IsCovered new l

-- links are added, until each has one that stands for it of which one fragment is looked at by one of the first k turns
pub record AddsTurns (s : Scene) (pieces : List ℕ) (stops : List Stop) (turns : List Turn) (k : ℕ)
    (links new : List Link) : Type 0 where
  pub each : All (IsLink s pieces) new
  pub grows : (l : Link) → IsCovered links l → IsCovered new l
  pub all : (m j : ℕ) (d : Turn) (l : Link) → m < k → m < length turns → IsLink s pieces l →
      HasEnds l (slice_index_or turns m d).number j →
      IsFrom stops (slice_index_or turns m d).from j → IsCovered new l

-- a link of two pieces is kept whose gap is less
pub record HasNearer (nearest : List (Option Link)) (p q gap : ℕ) : Type 0 where
  pub link : Link
  pub kept : Contains nearest (Some link)
  pub low : link.p ≡ p
  pub high : link.q ≡ q
  pub less : link.gap < gap

-- a link is kept that stands for this one
pub record HasStanding (nearest : List (Option Link)) (l : Link) : Type 0 where
  pub link : Link
  pub kept : Contains nearest (Some link)
  pub stands : StandsFor link l

-- numbers with the same key are the same
abbrev pub AreTold : List ℕ → List ℕ → Type 0
AreTold keys values = (j k : ℕ) → j < length keys → k < length keys →
    slice_index_or keys j 0 ≡ slice_index_or keys k 0 →
    slice_index_or values j 0 ≡ slice_index_or values k 0

-- stops over the bounds of all fragments, with kinds that tell the pieces and their shapes
pub record IsCrowd (x : Crowd) : Type 0 where
  pub pieces : ArePieces x.pieces
  pub index : IsIndex (map (λ r. bounds_of (corners_of r)) x.pieces.rects.now) x.stops.now
  pub kinds : HasKinds x.kinds.now x.stops.now
  pub long : length x.kinds.now ≡ length x.pieces.rects.now
  pub shapes : x.told ≡ true → AreTold x.kinds.now x.pieces.shape.now
  pub told : x.told ≡ true → AreTold x.kinds.now x.pieces.piece.now

-- of each two crowded fragments of different shapes one has a turn that looks at the other
pub record AreTurns (x : Crowd) (crowded : List Bool) (turns : List Turn) : Type 0 where
  pub each : All (λ t. t.number < length x.pieces.rects.now) turns
  pub all : (i j : ℕ) → i < length x.pieces.rects.now → j < length x.pieces.rects.now →
      is_crowded crowded i ≡ true → is_crowded crowded j ≡ true →
      slice_index_or x.pieces.shape.now i 0 ≢ slice_index_or x.pieces.shape.now j 0 →
      Any (λ t. LooksAt x.stops.now t i j ⊎ LooksAt x.stops.now t j i) turns

-- the stops from k on up to another one are all of one shape
pub record AreOfOneShape (x : Crowd) (k from : ℕ) : Type 0 where
  pub some : k ≤ from
  pub within : from ≤ length x.stops.now
  pub same : (m : ℕ) (d : Stop) → k ≤ m → m < from →
      slice_index_or x.pieces.shape.now (slice_index_or x.stops.now m d).number 0 ≡
      slice_index_or x.pieces.shape.now (slice_index_or x.stops.now k d).number 0

-- the gap to each rectangle that the bounds hold is at least this
abbrev pub IsLeastGap : Corners → Bounds → ℕ → Type 0
IsLeastGap r bounds gap = (other : Corners) → Holds bounds (bounds_of other) → gap ≤ rect_gap2 r other

-- the stop is all of one piece: one of the shape of the fragment i, or one to which a nearer link is kept
pub record IsBehind (x : Crowd) (nearest : List (Option Link)) (stop : Stop)
    (i gap : ℕ) : Type 0 where
  pub kind : ℕ
  pub is : stop.kind ≡ Some kind
  pub told : x.told ≡ true
  pub why : (slice_index_or x.pieces.shape.now i 0
      ≡ slice_index_or x.pieces.shape.now stop.number 0) ⊎ HasNearer nearest
      (min (piece_of x.pieces.piece.now i) (piece_of x.pieces.piece.now stop.number))
      (max (piece_of x.pieces.piece.now i) (piece_of x.pieces.piece.now stop.number)) gap

-- a stop is far from the fragment i, or behind what is known
pub record IsLeftOut (x : Crowd) (nearest : List (Option Link)) (stop : Stop) (i : ℕ) : Type 0 where
  pub gap : ℕ
  pub least : IsLeastGap (rect_at (map corners_of x.pieces.rects.now) i) stop.bounds gap
  pub why : (x.pieces.space * x.pieces.space ≤ gap) ⊎ IsBehind x nearest stop i gap
