-- Components by what their fragments have on each mask, one after the other.
use Rattle.std.specs.Prelude.{ℕ, ◌<◌, ◌≤◌, ◌^◌, ◌==◌, nat_le, zero, suc, Bool, true, false, not, length, List, [], ◌∷◌, ◌++◌, slice_index_or, if◌then◌else◌}
use Rattle.dpl_sign.specs.Colourings.{agree}
use Rattle.dpl_balance.specs.declared.turning.Part.{Part}
use Rattle.dpl_balance.specs.declared.types.Areas.{Areas}
use Rattle.dpl_cycle.specs.Sums.{sum_on}
use Rattle.dpl_balance.specs.Balance.{difference, turn}

-- the component with this number, of which a and b are the cells on the two masks
abbrev pub part_at : List ℕ → List ℕ → ℕ → Part
part_at a b c = record {
  number = c;
  on_a = slice_index_or a c 0;
  on_b = slice_index_or b c 0;
}

-- the components below k in order
abbrev pub parts_below : List ℕ → List ℕ → ℕ → List Part
parts_below a b zero = []
parts_below a b (suc k) = parts_below a b k ++ part_at a b k ∷ []

abbrev pub have_one_number : Part → Part → Bool
have_one_number p q = p.number == q.number

-- the cells of a component on a mask
abbrev pub cells_on : Bool → Part → ℕ
cells_on on_b p = if on_b then p.on_b else p.on_a

-- the same, where it is turned over or not
abbrev pub cells_after : Bool → Bool → Part → ℕ
cells_after turned on_b p = cells_on (turn turned on_b) p

abbrev pub is_turned : List Bool → Part → Bool
is_turned turned p = slice_index_or turned p.number false

-- the same, where this list says which are turned over
abbrev pub cells_by : List Bool → Bool → Part → ℕ
cells_by turned on_b p = cells_after (is_turned turned p) on_b p

-- the heavier side comes on the lighter mask by turning over
abbrev pub lightens : Areas → Part → Bool
lightens on p = not (agree (nat_le on.a on.b) (nat_le p.on_b p.on_a))

-- so few cells that the sums of 2^32 such parts fit
pub record IsWithinRoom (p : Part) : Type 0 where
  pub a : p.on_a ≤ 2 ^ 94
  pub b : p.on_b ≤ 2 ^ 94

-- what the components have together on a mask, turned over as the list says
abbrev pub total_after : List ℕ → List ℕ → List Bool → Bool → ℕ
total_after a b turned on_b = sum_on (λ c. true) (λ c.
    cells_by turned on_b (part_at a b c)) (length a)

-- a bound on what each component differs by bounds what all together differ by, turned over as the list says
abbrev pub AreEven : List ℕ → List ℕ → List Bool → Type 0
AreEven a b turned = (most : ℕ)
    → ((c : ℕ) → c < length a → difference (slice_index_or a c 0) (slice_index_or b c 0) ≤ most)
    → difference (total_after a b turned false) (total_after a b turned true) ≤ most
