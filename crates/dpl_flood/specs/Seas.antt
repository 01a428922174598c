-- What moats are at one moment, while all their tops grow and fall at once, and when something comes next. The rates are
-- those of Edmonds' dual changes (1965, "Maximum matching and a polyhedron with 0,1-vertices"), in all trees at once;
-- Goemans and Williamson 1995 let moats grow so, and Higgott and Gidney 2023 in a graph, with no distances.
use Rattle.std.specs.Prelude.{◌≡◌, ◌≢◌, ℕ, ◌+◌, ◌-◌, ◌*◌, ◌%◌, ◌<◌, ◌≤◌, ◌⊎◌, ◌==◌, if◌then◌else◌, Bool, true, false, None, List, [], ◌∷◌, length, slice_index, ◌/◌, nat_lt}
use Rattle.dpl_laminar.specs.Loads.{sum_below}
use Rattle.dpl_laminar.specs.Families.{Sets, IsFamily, has, load_of}
use Rattle.dpl_laminar.specs.Changes.{IsSingles, IsShrunk, IsExpanded}
use Rattle.dpl_dual.specs.declared.crosses.Dual.{Dual}
use Rattle.dpl_dual.specs.Duals.{way_at}
use Rattle.dpl_pack.specs.Nests.{inner_of}
use Rattle.dpl_pack.specs.Points.{Point, water, on, apart, total_at}
use Rattle.dpl_pack.specs.Floods.{IsFlood}
use Rattle.dpl_pack.specs.Tides.{with_values, place_of}
use Rattle.dpl_flood.specs.Dues.{Tide, Sides, gains, losses, IsDue, Turns, AreLooked}

-- a family, the points of faces, what its tops gain and lose in a unit of time, which tops rest, and the time
pub record Sea : Type 0 where
  pub sets : Sets
  pub point : ℕ → Point
  pub gain : ℕ → ℕ
  pub loss : ℕ → ℕ
  pub rests : ℕ → Bool
  pub time : ℕ

abbrev pub sides_of : Dual → Sides
sides_of d = record { one = λ w. (way_at d.crosses w).f; two = λ w. (way_at d.crosses w).g }

-- how much longer a way is than its faces are apart
abbrev pub room_of : Dual → Sea → ℕ → ℕ
room_of d s w = (way_at d.crosses w).length - apart s.sets (s.point (way_at d.crosses w).f) (s.point (way_at d.crosses w).g)

abbrev pub tide_of : Dual → Sea → Tide
tide_of d s = record {
  place = λ g. place_of s.sets (s.point g);
  gain = s.gain;
  loss = s.loss;
  rests = s.rests;
  room = room_of d s;
}

-- only tops move, each one way, and what rests does not
pub record AreMoving (s : Sea) : Type 0 where
  pub once : (k : ℕ) → s.gain k + s.loss k ≤ 1
  pub tops : (k : ℕ) → 0 < s.gain k + s.loss k → (k < 2 * s.sets.size) × ((s.sets.live k ≡ true) × (s.sets.parent k ≡ None))
  pub still : (k : ℕ) → s.rests k ≡ true → (k < 2 * s.sets.size) × (s.gain k + s.loss k ≡ 0)

-- the top of a member moves
abbrev pub Moves : Sea → ℕ → Type 0
Moves s t = s.gain (s.sets.top t) + s.loss (s.sets.top t) ≡ 1

-- A flood in which no point lies beyond its top, no total is above the time, and those of members of trees have the parity of the
-- time; how far points are from their seats is even, and each seat is its own point.
pub record IsSea (d : Dual) (terminals : List ℕ) (s : Sea) : Type 0 where
  pub family : IsFamily s.sets
  pub flood : IsFlood d terminals s.sets s.point
  pub moving : AreMoving s
  pub reached : (g t far : ℕ) → s.point g ≡ on t far → far ≤ total_at s.sets t
  pub clock : (t : ℕ) → t < s.sets.size → total_at s.sets t ≤ s.time
  pub pace : (t : ℕ) → t < s.sets.size → Moves s t → total_at s.sets t % 2 ≡ s.time % 2
  pub even : (g t far : ℕ) → s.point g ≡ on t far → far % 2 ≡ 0
  pub seated : (t : ℕ) → t < s.sets.size → s.point (slice_index terminals t) ≡ on t 0

-- no top that falls is at its end, or leaves a face, before the time of its key
pub record IsTopDue (s : Sea) (key : ℕ → ℕ) (k : ℕ) : Type 0 where
  pub value : key k - s.time ≤ s.sets.value k
  pub faces : (g t far : ℕ) → s.point g ≡ on t far → s.sets.top t ≡ k → far + (key k - s.time) ≤ total_at s.sets t

-- nothing comes on a way, or to a top that falls, before the time of its key
pub record IsSeaDue (d : Dual) (s : Sea) (way_key top_key : ℕ → ℕ) : Type 0 where
  pub ways : IsDue (length d.crosses) (sides_of d) (tide_of d s) s.time way_key
  pub tops : (k : ℕ) → s.loss k ≡ 1 → IsTopDue s top_key k

-- What the sets have at a later time: tops that grow have gained it, those that fall have lost it.
pub record ArePassed (s : Sea) (t : ℕ) (v : ℕ → ℕ) : Type 0 where
  pub later : s.time ≤ t
  pub each : (k : ℕ) → k < 2 * s.sets.size → v k + s.loss k * (t - s.time) ≡ s.sets.value k + s.gain k * (t - s.time)
  pub dead : (k : ℕ) → s.sets.live k ≡ false → v k ≡ 0

-- the same at a later time, with nothing between
abbrev pub advanced : Sea → ℕ → (ℕ → ℕ) → Sea
advanced s t v = record s { sets = with_values s.sets v; time = t }

-- no key is before this time
pub record AreLate (d : Dual) (s : Sea) (t : ℕ) (way_key top_key : ℕ → ℕ) : Type 0 where
  pub ways : (w : ℕ) → w < length d.crosses → t ≤ way_key w
  pub tops : (k : ℕ) → s.loss k ≡ 1 → t ≤ top_key k

-- the same at the same time over other sets, with other rates and rests
abbrev pub changed : Sea → Sets → (ℕ → ℕ) → (ℕ → ℕ) → (ℕ → Bool) → Sea
changed s sets gain loss rests = record { sets = sets; point = s.point; gain = gain; loss = loss; rests = rests; time = s.time }

-- the same at the same time but for the point of one face
abbrev pub noted_at : Sea → ℕ → Point → Sea
noted_at s h p = record s { point = λ g. if g == h then p else s.point g }

-- the keys of the ways at these faces and of these tops are set anew, and the others stay or are set anew too
pub record AreRenewed (d : Dual) (s : Sea) (looked seen : ℕ → Bool) (old_way old_top way_key top_key : ℕ → ℕ) : Type 0 where
  pub looks : AreLooked (length d.crosses) (sides_of d) (tide_of d s) s.time looked old_way way_key
  pub seen_due : (k : ℕ) → seen k ≡ true → s.loss k ≡ 1 → IsTopDue s top_key k
  pub unseen : (k : ℕ) → seen k ≡ false → s.loss k ≡ 1 → (top_key k ≡ old_top k) ⊎ IsTopDue s top_key k

-- An event keeps what is due if the ways at these faces are looked at and these tops are seen.
pub record IsEvent (d : Dual) (x y : Sea) (looked seen : ℕ → Bool) : Type 0 where
  pub time : y.time ≡ x.time
  pub turns : Turns (length d.crosses) (sides_of d) (tide_of d x) (tide_of d y) looked
  pub fell : (k : ℕ) → seen k ≡ false → y.loss k ≡ 1 → x.loss k ≡ 1
  pub value : (k : ℕ) → seen k ≡ false → y.loss k ≡ 1 → y.sets.value k ≡ x.sets.value k
  pub faces : (k g t far : ℕ) → seen k ≡ false → y.loss k ≡ 1 → y.point g ≡ on t far → y.sets.top t ≡ k →
      (x.point g ≡ on t far) × ((x.sets.top t ≡ k) × (total_at y.sets t ≡ total_at x.sets t))

-- A free top, and the one that is paired with it, go into a tree: the one falls and the other grows. What rested does not any more
-- where it grows.
pub record Grows (s : Sea) (inner outer : ℕ) (gain loss : ℕ → ℕ) (rests : ℕ → Bool) : Type 0 where
  pub falls : (gain inner ≡ 0) × (loss inner ≡ 1)
  pub rises : (gain outer ≡ 1) × (loss outer ≡ 0)
  pub others : (k : ℕ) → k ≢ inner → k ≢ outer → (gain k ≡ s.gain k) × (loss k ≡ s.loss k)
  pub free : (s.gain inner ≡ 0) × (s.loss inner ≡ 0)
  pub rest : (k : ℕ) → k ≢ outer → rests k ≡ s.rests k
  pub awake : (s.rests inner ≡ false) × (rests outer ≡ false)
  pub tops : (k : ℕ) → (k ≡ inner) ⊎ (k ≡ outer) → (k < 2 * s.sets.size) × ((s.sets.live k ≡ true) × (s.sets.parent k ≡ None))
  pub pace : (t : ℕ) → t < s.sets.size → (s.sets.top t ≡ inner) ⊎ (s.sets.top t ≡ outer) → total_at s.sets t % 2 ≡ s.time % 2

-- Trees end: some of the tops that moved stand still and rest, the others stay as they are.
pub record Ceases (s : Sea) (gain loss : ℕ → ℕ) (rests : ℕ → Bool) : Type 0 where
  pub each : (k : ℕ) → ((gain k ≡ s.gain k) × ((loss k ≡ s.loss k) × (rests k ≡ s.rests k)))
      ⊎ ((gain k ≡ 0) × ((loss k ≡ 0) × (rests k ≡ true)))
  pub range : (k : ℕ) → rests k ≡ true → k < 2 * s.sets.size

-- tops that moved or not become one, which grows
pub record Folds (s : Sea) (children : List ℕ) (joins : List (ℕ × ℕ)) (set : ℕ) (new : Sets) (gain loss : ℕ → ℕ)
    (rests : ℕ → Bool) : Type 0 where
  pub shrunk : IsShrunk s.sets children joins set new
  pub family : IsFamily new
  pub moved : (c : ℕ) → has children c ≡ true → s.gain c + s.loss c ≡ 1
  pub rises : (gain set ≡ 1) × ((loss set ≡ 0) × (rests set ≡ false))
  pub still : (c : ℕ) → has children c ≡ true → (gain c ≡ 0) × ((loss c ≡ 0) × (rests c ≡ false))
  pub others : (k : ℕ) → k ≢ set → has children k ≡ false → (gain k ≡ s.gain k) × ((loss k ≡ s.loss k) × (rests k ≡ s.rests k))

-- a top that fell and has no value gives way to its children, of which some fall, some grow and some are free
pub record GivesWay (s : Sea) (set : ℕ) (new : Sets) (gain loss : ℕ → ℕ) (rests : ℕ → Bool) : Type 0 where
  pub expanded : IsExpanded s.sets set new
  pub family : IsFamily new
  pub above : s.sets.size ≤ set
  pub below : set < 2 * s.sets.size
  pub empty : s.sets.value set ≡ 0
  pub fell : s.loss set ≡ 1
  pub still : (gain set ≡ 0) × ((loss set ≡ 0) × (rests set ≡ false))
  pub once : (c : ℕ) → has (s.sets.children set) c ≡ true → gain c + loss c ≤ 1
  pub awake : (c : ℕ) → has (s.sets.children set) c ≡ true → rests c ≡ false
  pub others : (k : ℕ) → k ≢ set → has (s.sets.children set) k ≡ false →
      (gain k ≡ s.gain k) × ((loss k ≡ s.loss k) × (rests k ≡ s.rests k))

-- a face gets a point that is no distance away: a top takes it at its shore, or leaves it there
pub record Shifts (d : Dual) (terminals : List ℕ) (s : Sea) (h : ℕ) (p : Point) : Type 0 where
  pub near : apart s.sets (s.point h) p ≡ 0
  pub member : (t far : ℕ) → p ≡ on t far → (t < s.sets.size) × ((far ≤ total_at s.sets t) × (far % 2 ≡ 0))
  pub grows : (t far : ℕ) → p ≡ on t far → s.loss (s.sets.top t) ≡ 0
  pub home : p ≢ water → (h < d.faces) × (slice_index d.part h ≡ slice_index d.part (slice_index terminals 0))
  pub no_seat : (t : ℕ) → t < s.sets.size → slice_index terminals t ≢ h

-- a top that grows takes a face in open water, to which it has just come
pub record Takes (d : Dual) (terminals : List ℕ) (s : Sea) (h t far : ℕ) : Type 0 where
  pub open_water : s.point h ≡ water
  pub member : t < s.sets.size
  pub grows : s.gain (s.sets.top t) ≡ 1
  pub shore : far ≡ total_at s.sets t
  pub even : far % 2 ≡ 0
  pub home : (h < d.faces) × (slice_index d.part h ≡ slice_index d.part (slice_index terminals 0))

-- a top that falls leaves a face at its shore, which is no seat
pub record Leaves (terminals : List ℕ) (s : Sea) (h t far : ℕ) : Type 0 where
  pub held : s.point h ≡ on t far
  pub shore : far ≡ total_at s.sets t
  pub no_seat : (m : ℕ) → m < s.sets.size → slice_index terminals m ≢ h

-- something comes on a way: its faces are on two tops, or one is in open water, neither rests, and they come nearer
pub record IsComing (d : Dual) (s : Sea) (w : ℕ) : Type 0 where
  pub two : place_of s.sets (s.point (way_at d.crosses w).f) ≢ place_of s.sets (s.point (way_at d.crosses w).g)
  pub one_awake : s.rests (place_of s.sets (s.point (way_at d.crosses w).f)) ≡ false
  pub two_awake : s.rests (place_of s.sets (s.point (way_at d.crosses w).g)) ≡ false
  pub nearer : losses (sides_of d) (tide_of d s) w < gains (sides_of d) (tide_of d s) w

-- how much nearer in a unit of time
abbrev pub speed_of : Dual → Sea → ℕ → ℕ
speed_of d s w = gains (sides_of d) (tide_of d s) w - losses (sides_of d) (tide_of d s) w

-- when it comes: the last time at which there is room; where nothing comes any time will do
pub record IsDueTime (d : Dual) (s : Sea) (w time : ℕ) : Type 0 where
  pub later : s.time ≤ time
  pub room : IsComing d s w → speed_of d s w * (time - s.time) ≤ room_of d s w
  pub last : IsComing d s w → room_of d s w < speed_of d s w * (time - s.time + 1)

-- a face stands on the stack of a set that holds its member, not beyond what that set has
pub record IsOnSet (s : Sea) (k g : ℕ) : Type 0 where
  pub member : ℕ
  pub far : ℕ
  pub at : s.point g ≡ on member far
  pub holds : s.sets.holds k member ≡ true
  pub inside : inner_of s.sets k member ≤ far
  pub within : far ≤ inner_of s.sets k member + s.sets.value k

-- how far out a point lies in a set, beyond the sets inside
abbrev pub depth_above : Sets → ℕ → Point → ℕ
depth_above f k water = 0
depth_above f k (on t far) = far - inner_of f k t

-- each face once, and none deeper than those before it
abbrev pub IsPile : (ℕ → ℕ) → List ℕ → Type 0
IsPile depth [] = Unit {0}
IsPile depth (h ∷ rest) = ((g : ℕ) → has rest g ≡ true → depth g ≤ depth h) × ((has rest h ≡ false) × IsPile depth rest)

-- The faces that each set took, the last one first and none deeper than those that were taken after it. Each face that is held
-- stands on just one of these stacks, but for seats.
pub record AreHeldBy (terminals : List ℕ) (s : Sea) (stack : ℕ → List ℕ) : Type 0 where
  pub each : (k g : ℕ) → k < 2 * s.sets.size → has (stack k) g ≡ true → IsOnSet s k g
  pub order : (k : ℕ) → k < 2 * s.sets.size → IsPile (λ g. depth_above s.sets k (s.point g)) (stack k)
  pub no_seat : (k t : ℕ) → k < 2 * s.sets.size → t < s.sets.size → has (stack k) (slice_index terminals t) ≡ false
  pub once : (k j g : ℕ) → k < 2 * s.sets.size → j < 2 * s.sets.size → has (stack k) g ≡ true → has (stack j) g ≡ true → k ≡ j
  pub all : (g t far : ℕ) → s.point g ≡ on t far → ((far ≡ 0) × (g ≡ slice_index terminals t)) ⊎ ((k : ℕ) × ((k < 2 * s.sets.size) × ((s.sets.holds k t ≡ true) ×
      (has (stack k) g ≡ true))))

-- the stacks with one face more, or with others for one set
abbrev pub stack_with : (ℕ → List ℕ) → ℕ → List ℕ → ℕ → List ℕ
stack_with stack at xs k = if k == at then xs else stack k

-- a time that is no later than the next leave of a top that falls, or where it has no face left its end
pub record IsTopTime (s : Sea) (stack : ℕ → List ℕ) (k time : ℕ) : Type 0 where
  pub none : stack k ≡ [] → time - s.time ≤ s.sets.value k
  pub some : (h t far : ℕ) (rest : List ℕ) → stack k ≡ h ∷ rest → s.point h ≡ on t far → time - s.time ≤ total_at s.sets t - far

-- no key is before now
abbrev pub AreNow : Dual → Sea → (ℕ → ℕ) → (ℕ → ℕ) → Type 0
AreNow d s way_key top_key = AreLate d s s.time way_key top_key

-- single members without values, each the root of a tree that grows, in open water but for their seats
pub record IsStart (d : Dual) (terminals : List ℕ) (s : Sea) : Type 0 where
  pub family : IsFamily s.sets
  pub singles : IsSingles s.sets.size s.sets
  pub seated : (t : ℕ) → t < s.sets.size → s.point (slice_index terminals t) ≡ on t 0
  pub others : (g t far : ℕ) → s.point g ≡ on t far → (t < s.sets.size) × ((far ≡ 0) × (g ≡ slice_index terminals t))
  pub seats : (t : ℕ) → t < s.sets.size → (slice_index terminals t < d.faces) ×
      (slice_index d.part (slice_index terminals t) ≡ slice_index d.part (slice_index terminals 0))
  pub grow : (k : ℕ) → k < s.sets.size → s.gain k ≡ 1
  pub rest : (k : ℕ) → s.sets.size ≤ k → s.gain k ≡ 0
  pub none_falls : (k : ℕ) → s.loss k ≡ 0
  pub none_rests : (k : ℕ) → s.rests k ≡ false
  pub time : s.time ≡ 0

-- What falls while rates stand: 2 for a face on a top that falls, which it may leave, 1 for one in open water, which may be taken.
abbrev pub face_weight : Sea → Point → ℕ
face_weight s water = 1
face_weight s (on t far) = if s.loss (s.sets.top t) == 1 then 2 else 0

abbrev pub faces_left : Dual → Sea → ℕ
faces_left d s = sum_below d.faces (λ g. face_weight s (s.point g))

-- a member that names a tree: its top grows, and its total is the time
pub record IsNamed (s : Sea) (a : ℕ) : Type 0 where
  pub member : a < s.sets.size
  pub grows : s.gain (s.sets.top a) ≡ 1
  pub whole : total_at s.sets a ≡ s.time

-- When something comes on a way, as it is computed: at speed 2 half of the room is asked for, and where nothing comes the answer
-- is a time that never is.
abbrev pub due_of : Dual → Sea → ℕ → ℕ → ℕ
due_of d s never w =
    if place_of s.sets (s.point (way_at d.crosses w).f) == place_of s.sets (s.point (way_at d.crosses w).g) then never
    else if s.rests (place_of s.sets (s.point (way_at d.crosses w).f)) then never
    else if s.rests (place_of s.sets (s.point (way_at d.crosses w).g)) then never
    else if nat_lt (losses (sides_of d) (tide_of d s) w) (gains (sides_of d) (tide_of d s) w)
    then s.time + (if speed_of d s w == 2 then room_of d s w / 2 else room_of d s w)
    else never

-- how many places, of ways and of sets, have a key that is earlier than what is due there
abbrev pub early_keys : ℕ → (ℕ → ℕ) → (ℕ → ℕ) → ℕ
early_keys places due key = sum_below places (λ p. if nat_lt (key p) (due p) then 1 else 0)

-- the key of one place is set anew
abbrev pub key_with : (ℕ → ℕ) → ℕ → ℕ → ℕ → ℕ
key_with key place time p = if p == place then time else key p

-- two tops have met over a way: with what leads to its faces it is as long as the load of the members
pub record HaveMet (s : Sea) (f g long : ℕ) : Type 0 where
  pub one : ℕ
  pub far : ℕ
  pub two : ℕ
  pub beyond : ℕ
  pub at_one : s.point f ≡ on one far
  pub at_two : s.point g ≡ on two beyond
  pub differ : s.sets.top one ≢ s.sets.top two
  pub tight : far + long + beyond ≡ load_of s.sets one two
  pub parity : total_at s.sets one % 2 ≡ total_at s.sets two % 2
  pub nearer : s.loss (s.sets.top one) + s.loss (s.sets.top two) < s.gain (s.sets.top one) + s.gain (s.sets.top two)

-- a top that grows has come to a face in open water
pub record HasReached (d : Dual) (terminals : List ℕ) (s : Sea) (f g long : ℕ) : Type 0 where
  pub member : ℕ
  pub far : ℕ
  pub at : s.point f ≡ on member far
  pub takes : Takes d terminals s g member (far + long)

-- how far a point lies below the shore
abbrev pub span_at : Sea → Point → ℕ
span_at s water = 0
span_at s (on t far) = total_at s.sets t - far

-- how long a top that falls has until it leaves its last face, or where it has none until its end
abbrev pub span_for : Sea → ℕ → List ℕ → ℕ
span_for s k [] = s.sets.value k
span_for s k (h ∷ rest) = span_at s (s.point h)

abbrev pub span_of : Sea → (ℕ → List ℕ) → ℕ → ℕ
span_of s stack k = span_for s k (stack k)

-- a top that falls leaves the last face of its stack
pub record Drops (terminals : List ℕ) (s : Sea) (stack : ℕ → List ℕ) (k : ℕ) : Type 0 where
  pub face : ℕ
  pub rest : List ℕ
  pub member : ℕ
  pub far : ℕ
  pub last : stack k ≡ face ∷ rest
  pub leaves : Leaves terminals s face member far
