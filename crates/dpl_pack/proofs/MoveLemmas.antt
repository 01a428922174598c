-- A flood stays one where a face is given another name of its point: what is taken, and what is left.
use Rattle.std.proofs.Common.{arith, ◌≡◌, ◌≢◌, ℕ, ◌<◌, ◌==◌, sym, ap, ◌∙◌, inl, inr, List, get_or, eq-eqb}
use Rattle.std.specs.Prelude.{slice_index, All}
use Rattle.std.proofs.lemmas.Bool.{cases_eq, cond-true, cond-false, ne_eqb}
use Rattle.dpl_laminar.specs.Families.{Sets, IsFamily}
use Rattle.dpl_dual.specs.declared.crosses.Cross.{Cross}
use Rattle.dpl_dual.specs.declared.crosses.Dual.{Dual}
use Rattle.dpl_pack.specs.Points.{Point, water, on, apart}
use Rattle.dpl_pack.specs.Floods.{IsFlood}
use Rattle.dpl_pack.specs.Tides.{with_values, AreTurned, Stays, place_of, HasRoom, moved}
use Rattle.dpl_pack.proofs.PointLemmas.{apart_self, apart_back, apart_over}
use Rattle.dpl_pack.proofs.TideLemmas.{turned_together, turned_way}

moved_here : (point : ℕ → Point) (g : ℕ) (q : Point) (h : ℕ) → h ≡ g → moved point g q h ≡ q
moved_here point g q h e = cond-true {A = Point} (h == g) q (point h) (eq-eqb h g e)

moved_other : (point : ℕ → Point) (g : ℕ) (q : Point) (h : ℕ) → h ≢ g → moved point g q h ≡ point h
moved_other point g q h ne = cond-false {A = Point} (h == g) q (point h) (ne_eqb h g ne)

-- no point has moved
still : (f : Sets) (point : ℕ → Point) (g : ℕ) (q : Point) → apart f (point g) q ≡ 0 → (h : ℕ)
    → apart f (moved point g q h) (point h) ≡ 0
still f point g q zero_apart h = elim (cases_eq h g) [
  | inl e ↦
      ap (λ z. apart f z (point h)) (moved_here point g q h e) ∙ ap (λ z. apart f q (point z)) e ∙ apart_back f q (point g) ∙ zero_apart
  | inr ne ↦ ap (λ z. apart f z (point h)) (moved_other point g q h ne) ∙ apart_self f (point h)
]

-- another name of the point of a face keeps a flood
pub flood_moved : (d : Dual) (terminals : List ℕ) (f : Sets) (point : ℕ → Point) (g : ℕ) (q : Point) → IsFlood d terminals f point
    → apart f (point g) q ≡ 0 → ((t far : ℕ) → q ≡ on t far → t < f.size)
    → (q ≢ water → (g < d.faces) × (slice_index d.part g ≡ slice_index d.part (slice_index terminals 0)))
    → IsFlood d terminals f (moved point g q)
flood_moved d terminals f point g q flood same members home =
    let new : ℕ → Point = moved point g q in
    record {
      members = λ h t far e. elim (cases_eq h g) [
        | inl x ↦ members t far (sym (moved_here point g q h x) ∙ e)
        | inr x ↦ flood.members h t far (sym (moved_other point g q h x) ∙ e)
      ];
      seats = λ t ht.
          let h = get_or terminals t 0 in
          omega (arith, apart_over f (new h) (point h) (on t 0), still f point g q same h, flood.seats t ht);
      ways = λ k e l.
          let x : Cross = get_or d.crosses k e in
          omega (
            arith,
            apart_over f (new x.f) (point x.f) (new x.g),
            apart_over f (point x.f) (point x.g) (new x.g),
            still f point g q same x.f,
            still f point g q same x.g,
            apart_back f (point x.g) (new x.g),
            flood.ways k e l,
          );
      home = λ h dry. elim (cases_eq h g) [
        | inl x ↦
            let r = home (λ w. dry (moved_here point g q h x ∙ w)) in
            (omega (arith, r.0, x), ap (slice_index d.part) x ∙ r.1)
        | inr x ↦ flood.home h (λ w. dry (moved_other point g q h x ∙ w))
      ];
    }

-- a flood stays one while time passes, where all points stay on their tops, seats on those of their members, and all ways have room
pub flood_turned : (d : Dual) (terminals : List ℕ) (f : Sets) (gain loss v : ℕ → ℕ) (point : ℕ → Point) → IsFamily f
    → AreTurned f gain loss v → IsFlood d terminals f point → ((g : ℕ) → Stays f v (point g))
    → ((t : ℕ) → t < f.size → place_of f (point (slice_index terminals t)) ≡ f.top t)
    → All (HasRoom f gain loss point) d.crosses → IsFlood d terminals (with_values f v) point
flood_turned d terminals f gain loss v point family turned flood stays seats room = record {
  members = flood.members;
  seats = λ t ht.
      let g = get_or terminals t 0 in
      let seat : Stays f v (on t 0) = (record { member = ht; reached = omega arith }, record { member = ht; reached = omega arith }) in
      turned_together f gain loss v family turned (point g) (on t 0) (stays g) seat (seats t ht) ∙ flood.seats t ht;
  ways = λ k e l.
      let x : Cross = get_or d.crosses k e in
      turned_way f gain loss v family turned (point x.f) (point x.g) x.length (stays x.f) (stays x.g) (flood.ways k e l) (room k e l);
  home = flood.home;
}
