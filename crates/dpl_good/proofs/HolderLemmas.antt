-- The fragment that holds a cell, and what is told for it.
use Rattle.std.proofs.Common.{arith, ◌≡◌, ◌*◌, ◌<◌, ◌↔◌, inl, inr, ℕ, ℤ, Bool, List, [], length, map, sym, subst, AllPairs, Any, IsTrue}
use Rattle.std.proofs.lemmas.Bool.{cases_order}
use Rattle.std.proofs.lemmas.List.{length-map}
use Rattle.dpl_cell.specs.Places.{Corners, corners_of}
use Rattle.dpl_cell.specs.Cells.{AreApart}
use Rattle.dpl_cuts.specs.declared.types.Fragments.{Fragments}
use Rattle.dpl_cuts.specs.Zones.{HoldLayer}
use Rattle.dpl_cuts.proofs.AssembleLemmas.{parts_apart}
use Rattle.dpl_cuts.proofs.ZoneLemmas.{hold_layer}
use Rattle.dpl_sign.specs.declared.nets.Net.{Net}
use Rattle.dpl_options.specs.Options.{PlainOptions, AreOptions}
use Rattle.dpl_report.specs.Plain.{PlainReport}
use Rattle.dpl_good.specs.MaskCells.{AreCutFrom, AreToldClose, HoldsCell, JoinsPieces}
use Rattle.dpl_good.proofs.MaskCellLemmas.{cell_on_fragment, in_layer, never_both, wide}

all_hold : (o : PlainOptions) (cells : ℤ → ℤ → Bool) (tiles : List Corners) (f : Fragments) → AreOptions o
    → AreCutFrom o cells tiles f → HoldLayer tiles (map corners_of f.rects)
all_hold o cells tiles f ranges c = hold_layer c.keep (2 * o.space) (2 * o.overlap) tiles c.label (map corners_of f.rects) f.tile
    f.shape (wide o.overlap ranges.some_overlap) c.fragments.parts

-- a fragment holds each cell of the layer, and no other cell
pub held_where : (o : PlainOptions) (cells : ℤ → ℤ → Bool) (tiles : List Corners) (f : Fragments) → AreOptions o
    → AreCutFrom o cells tiles f → (x y : ℤ) → IsTrue (cells x y) ↔ ((i : ℕ) × HoldsCell f i x y)
held_where o cells tiles f ranges c x y =
    let hold = all_hold o cells tiles f ranges c in (
      (λ t.
          let h = (cell_on_fragment tiles f.rects [] x y hold (subst IsTrue (sym (c.drawn x y)) t)).1 in
          (h.i, record { within = h.within; holds = h.holds })),
      λ (i, h). subst IsTrue (c.drawn x y) (in_layer tiles f.rects i x y hold h.within h.holds),
    )

-- no two fragments hold one cell
pub one_holds : (o : PlainOptions) (cells : ℤ → ℤ → Bool) (tiles : List Corners) (f : Fragments) → AreOptions o
    → AreCutFrom o cells tiles f → (i j : ℕ) (x y : ℤ) → HoldsCell f i x y → HoldsCell f j x y → i ≡ j
one_holds o cells tiles f ranges c i j x y g h =
    let n = length-map f.rects corners_of in
    let apart : AllPairs AreApart (map corners_of f.rects) =
    parts_apart c.keep (2 * o.space) (2 * o.overlap) tiles c.label (map corners_of f.rects) f.tile f.shape
    (wide o.overlap ranges.some_overlap) c.apart c.fragments.parts in
    let first : i < length (map corners_of f.rects) = let w = g.within in omega (arith, n, w) in
    let second : j < length (map corners_of f.rects) = let w = h.within in omega (arith, n, w) in
    elim (cases_order i j) [
      | inl e ↦ e
      | inr s ↦ elim s [
        | inl l ↦ absurd (never_both (map corners_of f.rects) i j x y apart l second g.holds h.holds)
        | inr l ↦ absurd (never_both (map corners_of f.rects) j i x y apart l first h.holds g.holds)
      ]
    ]

-- two cells are told exactly where they are cells of the layer and a line is there for each two fragments that hold them
pub told_for_holders : (o : PlainOptions) (cells : ℤ → ℤ → Bool) (tiles : List Corners) (f : Fragments) (net : Net) (r : PlainReport)
    → AreOptions o → AreCutFrom o cells tiles f → (x y x' y' : ℤ) → AreToldClose f net r x y x' y'
    ↔ (IsTrue (cells x y) × IsTrue (cells x' y') × ((i j : ℕ) → HoldsCell f i x y → HoldsCell f j x' y' →
    Any (JoinsPieces net.pieces i j) r.lists.clashes))
told_for_holders o cells tiles f net r ranges c x y x' y' = (
  (λ t. (
    (held_where o cells tiles f ranges c x y).1 (t.i, t.first),
    (held_where o cells tiles f ranges c x' y').1 (t.j, t.second),
    λ i j g h.
        let first : t.i ≡ i = one_holds o cells tiles f ranges c t.i i x y t.first g in
        let second : t.j ≡ j = one_holds o cells tiles f ranges c t.j j x' y' t.second h in
        let P : ℕ → ℕ → Type 0 = λ a b. Any (JoinsPieces net.pieces a b) r.lists.clashes in
        subst (P i) second (subst (λ a. P a t.j) first t.told),
  )),
  λ (a, b, all).
      let (i, g) = (held_where o cells tiles f ranges c x y).0 a in
      let (j, h) = (held_where o cells tiles f ranges c x' y').0 b in
      record { i = i; j = j; first = g; second = h; told = all i j g h },
)
