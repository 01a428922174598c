-- Searches from the faces of a moat, among those near its set.
use Rattle.std.proofs.Common.{arith, ◌≡◌, ℕ, ◌+◌, ◌*◌, ◌%◌, ◌<◌, ◌≤◌, sym, ap, ◌∙◌, subst, Bool, true, false, List, [], ◌∷◌, ◌++◌, length, get_or, take}
use Rattle.std.specs.Prelude.{All, nat_le, MatchOption, Option, Some, None}
use Rattle.std.proofs.lemmas.Bool.{cond-true, cond-false, leb-true, le-leb, false_from_ne_true, false≢true}
use Rattle.std.proofs.lemmas.List.{append-nil}
use Rattle.dpl_sign.specs.declared.walks.Walk.{Walk}
use Rattle.dpl_map.specs.Views.{view_of}
use Rattle.dpl_map.specs.Sides.{IsMap, odd_faces_in}
use Rattle.dpl_map.proofs.ViewLemmas.{map_of}
use Rattle.dpl_laminar.specs.Families.{has}
use Rattle.dpl_laminar.proofs.Numbers.{place_in}
use Rattle.dpl_pack.specs.declared.walks.Around.{Around}
use Rattle.dpl_pack.specs.Laid.{up_to}
use Rattle.dpl_pack.specs.Traces.{face_set, is_active, IsSearching}
use Rattle.dpl_pack.specs.Rounds.{enclosed, IsMarked, AreWholeAround, AreSearchedAround, IsSearchedAt, IsWalkAround}
use Rattle.dpl_pack.proofs.LaidLemmas.{up_to_chosen, up_to_more, up_to_all}
use Rattle.dpl_pack.proofs.OddLemmas.{face_searched, row_active, some_odd}

pub map_at : (a : Around) → IsMarked a → IsMap a.graph.now (view_of a.map.now)
map_at a k = map_of a.graph.now a.map.now k.map

-- ---- one face

one_in : (level f d : ℕ) → d ≤ level → up_to level (f ∷ []) (d ∷ []) ≡ f ∷ []
one_in level f d h = cond-true {A = List ℕ} (nat_le d level) (f ∷ []) [] (le-leb d level h)

one_out : (level f d : ℕ) → level < d → up_to level (f ∷ []) (d ∷ []) ≡ []
one_out level f d h = cond-false {A = List ℕ} (nat_le d level) (f ∷ []) [] (false_from_ne_true (nat_le d level) (λ q. omega (arith, h, leb-true d level q)))

pub beyond_searched : (a : Around) (i : ℕ) (seen : List Bool) → a.level < get_or a.depths.now i 0 → IsSearchedAt a i seen seen
beyond_searched a i seen h faces s =
    let P : List ℕ → Type 0 = λ z. AreSearchedAround a seen z in
    subst P (sym (ap (λ z. faces ++ z) (one_out a.level (get_or a.faces.now i 0) (get_or a.depths.now i 0) h) ∙ append-nil faces)) s

pub within_searched : (a : Around) (i : ℕ) (row : List ℕ) (old seen : List Bool) → IsMarked a → get_or a.depths.now i 0 ≤ a.level
    → row ≡ (view_of a.map.now).rows (get_or a.faces.now i 0)
    → IsSearching (face_set a.graph.now (view_of a.map.now) a.inside.now) old seen row (length row) → IsSearchedAt a i old seen
within_searched a i row old seen k h er s faces w =
    let P : List ℕ → Type 0 = λ z. AreSearchedAround a seen z in
    let f = get_or a.faces.now i 0 in
    subst P (sym (ap (λ z. faces ++ z) (one_in a.level f (get_or a.depths.now i 0) h)))
    (face_searched a.graph.now (view_of a.map.now) (map_at a k) a.inside.now old seen row faces f er w s)

-- ---- the faces of the moat

pub face_in : (a : Around) (i : ℕ) → IsMarked a → i < length a.faces.now → get_or a.depths.now i 0 ≤ a.level
    → has (enclosed a) (get_or a.faces.now i 0) ≡ true
face_in a i k l h = (up_to_chosen a.level a.faces.now a.depths.now k.sizes).inside i l h

pub face_below : (a : Around) (i : ℕ) → IsMarked a → i < length a.faces.now → get_or a.depths.now i 0 ≤ a.level
    → get_or a.faces.now i 0 < (view_of a.map.now).faces
face_below a i k l h =
    let p = place_in (enclosed a) (get_or a.faces.now i 0) (face_in a i k l h) in
    omega (arith, k.below p.0 0 p.1, p.2)

pub row_in : (a : Around) (i : ℕ) (row : List ℕ) → IsMarked a → i < length a.faces.now → get_or a.depths.now i 0 ≤ a.level
    → row ≡ (view_of a.map.now).rows (get_or a.faces.now i 0)
    → All (λ d. (d < 2 * length a.graph.now.edges) × (is_active (view_of a.map.now) a.inside.now d ≡ true)) row
row_in a i row k l h er =
    let f = get_or a.faces.now i 0 in
    let below = face_below a i k l h in
    let inside : get_or a.inside.now f false ≡ true = k.written f (omega (arith, below, k.places)) ∙ face_in a i k l h in
    row_active a.graph.now (view_of a.map.now) (map_at a k) a.inside.now row f below er inside

pub searched_none : (a : Around) (seen : List Bool) (faces : List ℕ) → AreSearchedAround a seen faces
    → AreSearchedAround a seen []
searched_none a seen faces s = record { whole = s.whole; even = s.even; all = λ d h act l. absurd (false≢true l) }

pub found_at : (a : Around) (i : ℕ) (row : List ℕ) (old seen : List Bool) (found : Option Walk) → IsMarked a → get_or a.depths.now i 0 ≤ a.level
    → row ≡ (view_of a.map.now).rows (get_or a.faces.now i 0)
    → MatchOption found (IsSearching (face_set a.graph.now (view_of a.map.now) a.inside.now) old seen row (length row))
    (λ w. IsWalkAround a w × AreWholeAround a seen)
    → MatchOption found (IsSearchedAt a i old seen)
    (λ w. IsWalkAround a w × AreWholeAround a seen)
found_at a i row old seen (Some w) k h er m = m
found_at a i row old seen None k h er m = within_searched a i row old seen k h er m

-- ---- the first faces, one more, and all

pub searched_more : (a : Around) (i : ℕ) (old seen : List Bool) → IsMarked a → i < length a.faces.now → IsSearchedAt a i old seen
    → AreSearchedAround a old (up_to a.level (take i a.faces.now) (take i a.depths.now))
    → AreSearchedAround a seen (up_to a.level (take (i + 1) a.faces.now) (take (i + 1) a.depths.now))
searched_more a i old seen k h s w =
    let P : List ℕ → Type 0 = λ z. AreSearchedAround a seen z in
    subst P (sym (up_to_more a.level a.faces.now a.depths.now i k.sizes h)) (s _ w)

pub not_searched : (a : Around) (i : ℕ) (seen : List Bool) → IsMarked a → length a.faces.now ≤ i
    → odd_faces_in a.graph.now (view_of a.map.now) a.inside.now % 2 ≡ 1
    → AreSearchedAround a seen (up_to a.level (take i a.faces.now) (take i a.depths.now)) → ⊥
not_searched a i seen k h odd s =
    let P : List ℕ → Type 0 = λ z. AreSearchedAround a seen z in
    some_odd a.graph.now (view_of a.map.now) (map_at a k) (enclosed a) a.inside.now seen k.places k.written odd
    (subst P (up_to_all a.level a.faces.now a.depths.now i k.sizes h) s)
