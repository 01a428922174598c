-- The moats round one set of a surface.
use Rattle.std.proofs.Common.{arith, ◌≡◌, ℕ, ◌+◌, ◌*◌, ◌<◌, sym, ◌∙◌, subst, List, length, map, get_or, add-one}
use Rattle.dpl_laminar.specs.Families.{Sets}
use Rattle.dpl_pack.specs.declared.moat.Moat.{Moat}
use Rattle.dpl_pack.specs.Levels.{Layers}
use Rattle.dpl_pack.specs.Nests.{layers_of}
use Rattle.dpl_pack.specs.Depths.{AreEnds}
use Rattle.dpl_pack.specs.Stacks.{ends_at, IsTable, AreDepths, AreStacked}
use Rattle.dpl_pack.specs.Points.{Point, fars}
use Rattle.dpl_pack.specs.Spots.{near_held}
use Rattle.dpl_pack.specs.Surfaces.{IsAfloat}
use Rattle.dpl_pack.proofs.NestLemmas.{value_in}
use Rattle.dpl_pack.proofs.StackLemmas.{set_more}
use Rattle.dpl_pack.proofs.SpotLemmas.{held_depths}

-- the moats round one set more are laid
pub laid_set : (f : Sets) (table : List (List (ℕ × ℕ))) (values : List ℕ) (point : ℕ → Point) (faces : List ℕ)
    → (spots : List (List (ℕ × ℕ))) (k : ℕ) (ends near : List (ℕ × ℕ)) (old new : List Moat)
    → IsTable f table values → IsAfloat f point faces spots → k < length table → 0 < get_or values k 0
    → ends ≡ ends_at table k → near ≡ near_held (get_or values k 0) ends spots
    → ((s : Layers) (points : ℕ → ℕ → ℕ) (faces : List ℕ) (x : ℕ)
    → AreDepths s points faces (map (λ p. p.0) near) x (map (λ p. p.1) near) → s.value x ≡ get_or values k 0
    → AreStacked s points faces x 0 old → AreStacked s points faces x (get_or values k 0) new)
    → AreStacked (layers_of f) (fars f point) faces k 0 old → AreStacked (layers_of f) (fars f point) faces (k + 1) 0 new
laid_set f table values point faces spots k ends near old new t a h some e n stack w =
    let s = layers_of f in
    let below : k < 2 * f.size = omega (arith, h, t.ends_length) in
    let v : get_or values k 0 ≡ f.value k = t.value k below in
    let is : s.value k ≡ get_or values k 0 = value_in f k below ∙ sym v in
    let Q : List (ℕ × ℕ) → Type 0 = λ z. AreEnds s k z in
    let are : AreEnds s k ends = subst Q (sym e) (t.each k below (omega (arith, some, v))) in
    let depths = held_depths f point faces k ends spots (get_or values k 0) near are a.are a.members a.home below v n in
    let P : ℕ → Type 0 = λ z. AreStacked s (fars f point) faces k z new in
    rw add-one (set_more s (fars f point) faces k new (subst P (sym is) (stack s (fars f point) faces k depths is w)))
