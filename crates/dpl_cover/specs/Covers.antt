-- Which columns boxes cover in the row that a sweep has reached.
use Rattle.std.specs.Prelude.{◌≡◌, ℕ, ◌<◌, ◌≤◌, ◌+◌, ◌^◌, ℤ, pos, neg_ℤ, ◌+ℤ◌, ◌<ℤ◌, ◌≤ℤ◌, List, Bool}
use Rattle.std.specs.Prelude.{if◌then◌else◌, length, slice_index_or, take, IsPermutation}
use Rattle.std.specs.List.{list_any}
use Rattle.dpl_cell.specs.declared.rect.Rect.{Rect}
use Rattle.dpl_cell.specs.Places.{corners_of}
use Rattle.dpl_cell.specs.Layers.{is_in_box}
use Rattle.dpl_list.specs.Order.{Ascends}
use Rattle.dpl_cover.specs.declared.blocks.Block.{Block}
use Rattle.dpl_cover.specs.declared.cover.Cover.{Cover}
use Rattle.dpl_cover.specs.Columns.{AreColumns, column_at}
use Rattle.dpl_cover.specs.Counts.{AreCounts, AreSmall, count_at}
use Rattle.dpl_cover.specs.Tallies.{having, times}

-- the row of the lower side of a box, or of its upper side
abbrev pub side_of : Bool → Rect → ℤ
side_of is_upper r = if is_upper then r.y2 else r.y1

-- the first n boxes have a key up to the row, and the others one beyond it
pub record IsPassed (key : Rect → ℤ) (row : ℤ) (boxes : List Rect) (n : ℕ) : Type 0 where
  pub within : n ≤ length boxes
  pub up_to : (k : ℕ) (d : Rect) → k < n → key (slice_index_or boxes k d) ≤ℤ row
  pub beyond : (k : ℕ) (d : Rect) → n ≤ k → k < length boxes → row <ℤ key (slice_index_or boxes k d)

-- each place is counted as often as boxes that began have it, less those that ended
pub record IsCounted (columns each : List ℤ) (blocks : List Block) (up down : List Rect) : Type 0 where
  pub counts : AreCounts each blocks
  pub long : length each ≡ length columns
  pub same : (k : ℕ) → k < length columns → count_at each blocks k ≡
      times (pos 1) (having (column_at columns k) up) +ℤ times (neg_ℤ (pos 1)) (having (column_at columns k) down)
  pub small : AreSmall (length up + length down) each blocks

-- the row below all others
abbrev pub least_row : ℤ
least_row = neg_ℤ (pos (2 ^ 63))

-- the boxes in the order of their lower and of their upper sides, and the counts for the row that was reached
pub record IsCover (c : Cover) : Type 0 where
  pub few : length c.begins.items ≤ 2 ^ 40
  pub same : IsPermutation c.begins.items c.ends.items
  pub rising : Ascends (λ r. r.y1) c.begins.items
  pub closing : Ascends (λ r. r.y2) c.ends.items
  pub columns : AreColumns c.begins.items c.columns.items
  pub begun : IsPassed (λ r. r.y1) c.row c.begins.items c.began
  pub closed : IsPassed (λ r. r.y2) c.row c.ends.items c.ended
  pub counted : IsCounted c.columns.items c.each.items c.blocks.items (take c.began c.begins.items) (take c.ended c.ends.items)

-- some box has column x in the row that was reached
abbrev pub is_covered : Cover → ℤ → Bool
is_covered c x = list_any (λ r. is_in_box (corners_of r) x c.row) c.begins.items
