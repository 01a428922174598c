-- Calls that are still to be carried out.
use Rattle.std.specs.Prelude.{ℕ, zero, suc, ◌+◌, ◌*◌, ◌^◌, ◌≡◌, List, [], ◌∷◌, ◌++◌, map, Some, All, sum_by}
use Rattle.std.specs.List.{flat_map}
use Rattle.dpl_calls.specs.declared.figure.Figure.{Figure}
use Rattle.dpl_calls.specs.declared.unfolding.Frame.{Frame}
use Rattle.dpl_calls.specs.Parts.{Part, Bodies}
use Rattle.dpl_calls.specs.Parts.Part.{Drawn, Called}
use Rattle.dpl_calls.specs.Unfolding.{part_figures, figures_of}
use Rattle.dpl_calls.specs.Totals.{part_total, total_of, own_calls}
use Rattle.dpl_calls.specs.Placement.{apply, IsNear}
use Rattle.dpl_calls.specs.Table.{entry_part}
use Rattle.dpl_calls.specs.Entries.{IsEntryNear}
use Rattle.dpl_calls.specs.Kept.{IsPartKept}

-- the parts that a frame has left
abbrev pub left : Frame → List Part
left f = map entry_part f.rest.now

-- the figures that they give
abbrev pub frame_figures : Bodies → Frame → List Figure
frame_figures bodies f =
    flat_map (part_figures bodies (figures_of f.below bodies) (apply f.place)) (left f)

-- the last frame comes first
abbrev pub pending : Bodies → List Frame → List Figure
pending bodies [] = []
pending bodies (f ∷ fs) = pending bodies fs ++ frame_figures bodies f

-- how many turns a part takes
abbrev pub part_turns : Bodies → (List Part → ℕ) → Part → ℕ
part_turns bodies inner (Drawn figure) = 1
part_turns bodies inner (Called n moves) = 1 + inner (bodies (Some n))

abbrev pub turns_of : ℕ → Bodies → List Part → ℕ
turns_of zero bodies parts = 0
turns_of (suc depth) bodies parts = 1 + sum_by (part_turns bodies (turns_of depth bodies)) parts

abbrev pub frame_turns : Bodies → Frame → ℕ
frame_turns bodies f = 1 + sum_by (part_turns bodies (turns_of f.below bodies)) (left f)

abbrev pub turns_left : Bodies → List Frame → ℕ
turns_left bodies fs = sum_by (frame_turns bodies) fs

-- the calls that a frame still carries out
abbrev pub frame_calls : Bodies → Frame → ℕ
frame_calls bodies f = sum_by (part_total own_calls bodies (total_of own_calls f.below bodies))
    (left f)

abbrev pub calls_left : Bodies → List Frame → ℕ
calls_left bodies fs = sum_by (frame_calls bodies) fs

-- a frame after so many calls
pub record IsFrameNear (done : ℕ) (f : Frame) : Type 0 where
  pub place : IsNear (done * 2 ^ 107) f.place
  pub entries : All IsEntryNear f.rest.now
  pub parts : All IsPartKept (left f)

-- these figures and calls are done, and the frames give the others
pub record Goes (bodies : Bodies) (all : List Figure) (total : ℕ) (figures : List Figure)
    (frames : List Frame) (done : ℕ) : Type 0 where
  pub figures_come : figures ++ pending bodies frames ≡ all
  pub calls_come : done + calls_left bodies frames ≡ total
  pub near : All (IsFrameNear done) frames
