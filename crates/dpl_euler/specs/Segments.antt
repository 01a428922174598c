-- How segments of the plane lie to each other, by the orientation of three points, which is the sign of a cross product
-- (as in de Berg and others, "Computational Geometry", 2008, chapters 1 and 2). Only the steps of the search for a crossing
-- say this; `Crossings` says the same over points.
use Rattle.std.specs.Prelude.{ℤ, ◌-ℤ◌, ◌*ℤ◌, Bool, not, ◌&&◌, ◌||◌, int_lt, int_le}
use Rattle.std.specs.Int.{int_max, int_min}
use Rattle.dpl_euler.specs.declared.segment.Segment.{Segment}
use Rattle.dpl_euler.specs.Points.{Ends}

-- the two ends of a segment of the code
abbrev pub ends_of : Segment → Ends
ends_of s = record { x1 = s.x1; y1 = s.y1; x2 = s.x2; y2 = s.y2 }

-- the point lies left of the line, for one who looks from the first end to the second
abbrev pub is_left : Ends → ℤ → ℤ → Bool
is_left s x y = int_lt ((s.y2 -ℤ s.y1) *ℤ (x -ℤ s.x1)) ((s.x2 -ℤ s.x1) *ℤ (y -ℤ s.y1))

-- the same, right of it
abbrev pub is_right : Ends → ℤ → ℤ → Bool
is_right s x y = int_lt ((s.x2 -ℤ s.x1) *ℤ (y -ℤ s.y1)) ((s.y2 -ℤ s.y1) *ℤ (x -ℤ s.x1))

-- both ends of the other segment do
abbrev pub are_left : Ends → Ends → Bool
are_left s t = is_left s t.x1 t.y1 && is_left s t.x2 t.y2

abbrev pub are_right : Ends → Ends → Bool
are_right s t = is_right s t.x1 t.y1 && is_right s t.x2 t.y2

-- the line leaves the whole of the other segment on one side
abbrev pub is_beside : Ends → Ends → Bool
is_beside s t = are_left s t || are_right s t

-- the point lies on the line
abbrev pub is_on : Ends → ℤ → ℤ → Bool
is_on s x y = not (is_left s x y || is_right s x y)

-- the line goes through both ends of the other segment
abbrev pub is_along : Ends → Ends → Bool
is_along s t = is_on s t.x1 t.y1 && is_on s t.x2 t.y2

-- the places from a1 to a2 and those from b1 to b2, in any order, have one in common
abbrev pub spans_meet : ℤ → ℤ → ℤ → ℤ → Bool
spans_meet a1 a2 b1 b2 =
    int_le (int_min a1 a2) (int_max b1 b2) && int_le (int_min b1 b2) (int_max a1 a2)

-- they have more than one in common
abbrev pub spans_overlap : ℤ → ℤ → ℤ → ℤ → Bool
spans_overlap a1 a2 b1 b2 =
    int_lt (int_max (int_min a1 a2) (int_min b1 b2)) (int_min (int_max a1 a2) (int_max b1 b2))

-- the least upright rectangles around them have a point in common
abbrev pub bounds_meet : Ends → Ends → Bool
bounds_meet s t = spans_meet s.x1 s.x2 t.x1 t.x2 && spans_meet s.y1 s.y2 t.y1 t.y2

-- the segments have a point in common: neither line leaves the other segment on one side, and their bounds meet
abbrev pub segments_meet : Ends → Ends → Bool
segments_meet s t = bounds_meet s t && not (is_beside s t || is_beside t s)

-- they have more than one: besides, they lie on one line, and their columns or their rows overlap
abbrev pub segments_overlap : Ends → Ends → Bool
segments_overlap s t = segments_meet s t && is_along s t
    && (spans_overlap s.x1 s.x2 t.x1 t.x2 || spans_overlap s.y1 s.y2 t.y1 t.y2)
