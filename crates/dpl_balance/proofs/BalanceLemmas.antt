-- Masks of which whole components were turned over cover about the same area.
use Rattle.std.proofs.Common.{arith, ◌≡◌, ◌+◌, ◌<◌, ◌≤◌, ◌==◌, inl, inr, ℕ, Bool, true, false, cond, List, length, refl, sym, ap, subst, ◌∙◌, All, get_or}
use Rattle.std.specs.Prelude.{◌&&◌}
use Rattle.std.proofs.lemmas.Bool.{eqb-true, and_left}
use Rattle.dpl_cycle.proofs.SumLemmas.{sum_same}
use Rattle.dpl_cycle.proofs.LabelLemmas.{sum_none}
use Rattle.dpl_sign.specs.declared.nets.Net.{Net}
use Rattle.dpl_sign.specs.Colourings.{agree, colour_of}
use Rattle.dpl_cuts.specs.declared.types.Fragments.{Fragments}
use Rattle.dpl_balance.specs.Areas.{area_at, fragments_area, zones_area, all_fragments}
use Rattle.dpl_parts.specs.Components.{are_one_component, AreComponents}
use Rattle.dpl_balance.specs.Balance.{difference, mask_difference, AreBalanced, turn, AreTurned}
use Rattle.dpl_balance.specs.Sides.{component_area}
use Rattle.dpl_balance.specs.Parts.{part_at, cells_by, total_after, AreEven}
use Rattle.dpl_balance.proofs.SumLemmas.{some_passes}
use Rattle.dpl_balance.proofs.ShareLemmas.{sum_shared, turn_same, turned_side}
use Rattle.dpl_parts.proofs.JoinedLemmas.{one_number}

-- the new colours are the old ones, turned over where the list says so of their component
pub record AreTurnedBy (f : Fragments) (net : Net) (old new : List Bool) (number : List ℕ) (turned : List Bool) : Type 0 where
  pub components : AreComponents net number
  pub nodes : net.graph.nodes ≡ length f.rects
  pub one : length old ≡ length f.rects
  pub long : length new ≡ length old
  pub within : All (λ c. c < length turned) number
  pub each : (v : ℕ) → v < length old → get_or new v false ≡ turn (get_or turned (get_or number v 0) false) (get_or old v false)

number_at : List ℕ → ℕ → ℕ
number_at number v = get_or number v 0

pub whole_components : (f : Fragments) (net : Net) (old new : List Bool) (number : List ℕ) (turned : List Bool)
    → AreTurnedBy f net old new number turned → AreTurned net old new
whole_components f net old new number turned t = record {
  long = t.long;
  whole = λ u v l m e.
      let n = t.nodes in let o = t.one in
      let same : get_or number v 0 ≡ get_or number u 0 = eqb-true _ _ (one_number net number t.components u v l m ∙ e) in
      let side : (w : ℕ) → w < net.graph.nodes → agree (colour_of old w) (colour_of new w) ≡ agree true
      (turn (get_or turned (get_or number w 0) false) true) = λ w k.
      ap (agree (colour_of old w)) (t.each w (omega arith)) ∙ turn_same (get_or turned (get_or number w 0) false) (colour_of old w) in
      side u l ∙ ap (λ c. agree true (turn (get_or turned c false) true)) (sym same) ∙ sym (side v m);
}

-- ---- areas

difference_both : (x y z : ℕ) → difference (x + z) (y + z) ≡ difference x y
difference_both x y z = omega arith

difference_turned : (t : Bool) (g : Bool → ℕ) → difference (g (turn t false)) (g (turn t true)) ≡ difference (g false) (g true)
difference_turned true g = flip (g true) (g false) where
  flip : (x y : ℕ) → difference x y ≡ difference y x
  flip x y = omega arith
difference_turned false g = refl

-- what a component has on a mask after it was turned over or not
new_side : (f : Fragments) (net : Net) (old new : List Bool) (number : List ℕ) (turned : List Bool)
    → AreTurnedBy f net old new number turned → (c : ℕ) (b : Bool)
    → component_area f.rects number c b new ≡ component_area f.rects number c (turn (get_or turned c false) b) old
new_side f net old new number turned t c b =
    let o = t.one in
    turned_side (length f.rects) c (λ v. get_or number v 0) (colour_of old) (colour_of new) (λ c. get_or turned c false)
    (area_at f.rects) b (λ v l. t.each v (omega arith))

-- what all components have on a mask
pub all_sides : (f : Fragments) (net : Net) (old new : List Bool) (number : List ℕ) (turned : List Bool) (on_a on_b : List ℕ)
    → AreTurnedBy f net old new number turned → length on_a ≡ length turned
    → ((c : ℕ) → c < length on_a → get_or on_a c 0 ≡ component_area f.rects number c false old)
    → ((c : ℕ) → c < length on_a → get_or on_b c 0 ≡ component_area f.rects number c true old) → (b : Bool)
    → total_after on_a on_b turned b ≡ fragments_area f.rects all_fragments b new
all_sides f net old new number turned on_a on_b t long a_is b_is b =
    sum_same (length on_a) (λ c. true) (λ c. true) (λ c. cells_by turned b (part_at on_a on_b c)) (λ c. component_area f.rects number c b new) (λ c l. refl)
    (λ c l. part_is (turn (get_or turned c false) b) c l ∙ sym (new_side f net old new number turned t c b))
    ∙ sum_shared (length f.rects) (length on_a) (λ v. get_or number v 0) (λ v. agree (colour_of new v) b) (area_at f.rects)
    (λ v l. let n = t.nodes in let k = t.components.long in let m : get_or number v 0 < length turned =
    t.within v 0 (omega arith) in omega (arith, m, long)) where
      part_is : (b : Bool) (c : ℕ) → c < length on_a → cond {A = ℕ} b (get_or on_b c 0) (get_or on_a c 0) ≡ component_area f.rects number c b old
      part_is true c l = b_is c l
      part_is false c l = a_is c l

-- the difference of a component is that of its two sides
one_side : (f : Fragments) (net : Net) (old new : List Bool) (number : List ℕ) (turned : List Bool)
    → AreTurnedBy f net old new number turned → (u c : ℕ) → u < net.graph.nodes → get_or number u 0 ≡ c
    → (b : Bool)
    → fragments_area f.rects (are_one_component net u) b new ≡ component_area f.rects number c (turn (get_or turned c false) b) old
one_side f net old new number turned t u c l e b =
    let n = t.nodes in
    sum_same (length f.rects) (λ v. are_one_component net u v && agree (colour_of new v) b)
    (λ v. (get_or number v 0 == c) && agree (colour_of new v) b) (area_at f.rects) (area_at f.rects)
    (λ v m. ap (λ z. z && agree (colour_of new v) b) (sym (one_number net number t.components u v l (omega arith)) ∙
    ap (λ z. get_or number v 0 == z) e)) (λ v m. refl)
    ∙ new_side f net old new number turned t c b

side_difference : (f : Fragments) (net : Net) (old new : List Bool) (number : List ℕ) (turned : List Bool)
    → AreTurnedBy f net old new number turned → (most : ℕ)
    → ((u : ℕ) → u < net.graph.nodes → mask_difference f (are_one_component net u) new ≤ most) → (c : ℕ)
    → difference (component_area f.rects number c false old) (component_area f.rects number c true old) ≤ most
side_difference f net old new number turned t most each c = elim (some_passes (length f.rects) (λ v. get_or number v 0 == c)) [
  | inl (u, l, e) ↦
      let n = t.nodes in
      let inside : u < net.graph.nodes = omega arith in
      let side = one_side f net old new number turned t u c inside (eqb-true _ _ e) in
      let zones = zones_area f.cuts (are_one_component net u) new in
      let one : mask_difference f (are_one_component net u) new ≡ difference (component_area f.rects number c false old)
      (component_area f.rects number c true old) =
      difference_both (fragments_area f.rects (are_one_component net u) false new) (fragments_area f.rects (are_one_component net u) true new) zones
      ∙ ap (λ x. difference x (fragments_area f.rects (are_one_component net u) true new)) (side false)
      ∙ ap (λ y. difference (component_area f.rects number c (turn (get_or turned c false) false) old) y) (side true)
      ∙ difference_turned (get_or turned c false) (λ b. component_area f.rects number c b old) in
      let D : ℕ → Type 0 = λ d. d ≤ most in
      subst D one (each u inside)
  | inr none ↦
      let empty : (b : Bool) → component_area f.rects number c b old ≡ 0 =
      λ b. sum_none (length f.rects) (λ v. (get_or number v 0 == c) && agree (colour_of old v) b) (area_at f.rects)
      (λ v l. and_left _ _ (none v l)) in
      nothing (component_area f.rects number c false old) (component_area f.rects number c true old) most (empty false) (empty true)
] where
  nothing : (x y most : ℕ) → x ≡ 0 → y ≡ 0 → difference x y ≤ most
  nothing x y most e f = omega arith

-- the areas of the masks are about the same
pub balanced_by : (f : Fragments) (net : Net) (old new : List Bool) (number : List ℕ) (turned : List Bool) (on_a on_b : List ℕ)
    → AreTurnedBy f net old new number turned → length on_a ≡ length turned
    → ((c : ℕ) → c < length on_a → get_or on_a c 0 ≡ component_area f.rects number c false old)
    → ((c : ℕ) → c < length on_a → get_or on_b c 0 ≡ component_area f.rects number c true old)
    → AreEven on_a on_b turned → AreBalanced f net new
balanced_by f net old new number turned on_a on_b t long a_is b_is even most each =
    let sides = all_sides f net old new number turned on_a on_b t long a_is b_is in
    let bound = even most (λ c l.
    let D : ℕ → Type 0 = λ x. difference x (get_or on_b c 0) ≤ most in
    let E : ℕ → Type 0 = λ y. difference (component_area f.rects number c false old) y ≤ most in
    subst D (sym (a_is c l)) (subst E (sym (b_is c l)) (side_difference f net old new number turned t most each c))) in
    let D : ℕ → Type 0 = λ x. difference x (total_after on_a on_b turned true) ≤ most in
    let E : ℕ → Type 0 = λ y. difference (fragments_area f.rects all_fragments false new) y ≤ most in
    let F : ℕ → Type 0 = λ d. d ≤ most in
    subst F (sym (difference_both (fragments_area f.rects all_fragments false new)
    (fragments_area f.rects all_fragments true new) (zones_area f.cuts all_fragments new)))
    (subst E (sides true) (subst D (sides false) bound))
