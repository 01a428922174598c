-- What the fields of a map hold. Only the map's own steps say this.
use Rattle.std.specs.Prelude.{◌≡◌, ℕ, ◌/◌, ◌<◌, ◌==◌, ◌&&◌, Bool, true, List, [], filter, length, slice_index, slice_index_or}
use Rattle.std.specs.List.{range_with_len}
use Rattle.dpl_sign.specs.declared.nets.Net.{Net}
use Rattle.dpl_sign.specs.Drawings.{is_in, dart_count}
use Rattle.dpl_sign.specs.Excess.{excess, all_edges, kept_edges, aside_edges}
use Rattle.dpl_map.specs.Maps.{is_kept, corner_of, face_at, faces_of, darts_at}

pub record HoldsMap (net : Net) (kept : List Bool) (aside corners numbers : List ℕ)
    (rows : List (List ℕ)) (faces total : ℕ) : Type 0 where
  pub kept_is : kept ≡ kept_edges net
  pub aside_is : aside ≡ aside_edges net
  pub darts : length corners ≡ dart_count net
  pub corner_is : (d : ℕ) → d < dart_count net → slice_index corners d ≡ corner_of net d
  pub numbered : length numbers ≡ dart_count net
  pub number_is : (d : ℕ) → d < dart_count net → is_kept net (d / 2) ≡ true →
      slice_index numbers d ≡ face_at net d
  pub rows_are : length rows ≡ faces_of net
  pub row_is : (f : ℕ) → f < faces_of net → slice_index_or rows f [] ≡ darts_at net f
  pub faces_is : faces ≡ faces_of net
  pub excess_is : total ≡ excess net all_edges

-- of the first darts those of a set of edges that have a number
abbrev pub darts_below : List Bool → List ℕ → ℕ → ℕ → List ℕ
darts_below set numbers f n =
    filter (λ d. is_in set (d / 2) && (slice_index numbers d == f)) (range_with_len 0 n)
