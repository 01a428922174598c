-- Where faces stand, and what is due on the ways between them.
use Rattle.std.proofs.Common.{arith, ◌≡◌, ◌≢◌, ℕ, ◌+◌, ◌-◌, ◌*◌, ◌/◌, ◌≤◌, ◌==◌, sym, ap, ◌∙◌, Bool, false, cond, inl, inr, eq-eqb, List}
use Rattle.std.specs.Prelude.{nat_lt}
use Rattle.std.proofs.lemmas.Bool.{cases_eq, cases_Bool, cond-true, cond-false, ne_eqb}
use Rattle.dpl_dual.specs.declared.crosses.Dual.{Dual}
use Rattle.dpl_dual.specs.Duals.{way_at}
use Rattle.dpl_pack.specs.Points.{water, apart}
use Rattle.dpl_pack.specs.Tides.{place_of}
use Rattle.dpl_pack.proofs.PointLemmas.{apart_back}
use Rattle.dpl_flood.specs.declared.standing.Standing.{Standing}
use Rattle.dpl_flood.specs.Queues.{never}
use Rattle.dpl_flood.specs.Seas.{Sea, IsSea, room_of, due_of}
use Rattle.dpl_flood.specs.Standings.{IsHeldAs, gain_of, loss_of, due_between, due_at_shore}
use Rattle.dpl_flood.proofs.SeaLemmas.{still_beyond}
use Rattle.dpl_flood.proofs.MeetLemmas.{room_tops}
use Rattle.dpl_flood.proofs.ShoreLemmas.{water_apart}

-- what is due, from what is known of both sides
abbrev by_parts : ℕ → ℕ → Bool → Bool → ℕ → ℕ → ℕ → ℕ → ℕ
by_parts i j a b lose win now room =
    cond (i == j) never (cond a never (cond b never (cond (nat_lt lose win) (now + cond (win - lose == 2) (room / 2) room) never)))

-- the room counts where the tops are two
same_parts : (i j : ℕ) (a b : Bool) (lose win now room other : ℕ) → (i ≢ j → room ≡ other)
    → by_parts i j a b lose win now room ≡ by_parts i j a b lose win now other
same_parts i j a b lose win now room other h =
    let rest : ℕ → ℕ = λ z. cond a never (cond b never (cond (nat_lt lose win) (now + cond (win - lose == 2) (z / 2) z) never)) in
    elim (cases_eq i j) [
      | inl e ↦ cond-true {A = ℕ} (i == j) never (rest room) (eq-eqb i j e) ∙ sym (cond-true {A = ℕ} (i == j) never (rest other) (eq-eqb i j e))
      | inr ne ↦ ap (by_parts i j a b lose win now) (h ne)
    ]

-- towards what does not move
shore_parts : (i j : ℕ) (a : Bool) (lose win now room : ℕ) → i ≢ j → win ≤ 1
    → by_parts i j a false lose win now room ≡ cond a never (cond (nat_lt lose win) (now + room) never)
shore_parts i j a lose win now room ne h =
    let rest : ℕ → ℕ = λ z. cond a never (cond (nat_lt lose win) (now + z) never) in
    cond-false {A = ℕ} (i == j) never (rest (cond (win - lose == 2) (room / 2) room)) (ne_eqb i j ne)
    ∙ ap rest (cond-false {A = ℕ} (win - lose == 2) (room / 2) room (ne_eqb (win - lose) 2 (λ e. omega (arith, e, h))))

-- the same from the other side
back_parts : (i j : ℕ) (b : Bool) (lose win now room : ℕ) → i ≢ j → win ≤ 1
    → by_parts i j false b lose win now room ≡ cond b never (cond (nat_lt lose win) (now + room) never)
back_parts i j b lose win now room ne h =
    let rest : ℕ → ℕ = λ z. cond b never (cond (nat_lt lose win) (now + z) never) in
    cond-false {A = ℕ} (i == j) never (rest (cond (win - lose == 2) (room / 2) room)) (ne_eqb i j ne)
    ∙ ap rest (cond-false {A = ℕ} (win - lose == 2) (room / 2) room (ne_eqb (win - lose) 2 (λ e. omega (arith, e, h))))

-- the top of a face that stands so
pub top_is : (s : Sea) (f : ℕ) (x : Standing) → IsHeldAs s f x → place_of s.sets (s.point f) ≡ x.top
top_is s f x h = ap (place_of s.sets) h.at ∙ sym h.is.top

-- A way between two held faces.
pub between_due : (d : Dual) (terminals : List ℕ) (s : Sea) (w : ℕ) (x y : Standing) (long now : ℕ) → IsSea d terminals s
    → s.time ≡ now → (way_at d.crosses w).length ≡ long → IsHeldAs s (way_at d.crosses w).f x → IsHeldAs s (way_at d.crosses w).g y
    → due_between x y long now ≡ due_of d s never w
between_due d terminals s w x y long now sea time size hx hy =
    let ei = top_is s (way_at d.crosses w).f x hx in
    let ej = top_is s (way_at d.crosses w).g y hy in
    let room : x.top ≢ y.top → long - (x.reach + y.reach) ≡ room_of d s w = λ ne.
    omega (
      arith,
      room_tops d terminals s w hx.member hx.far hy.member hy.far sea hx.at hy.at (λ e. ne (hx.is.top ∙ e ∙ sym hy.is.top)),
      hx.is.reach,
      hy.is.reach,
      size,
    ) in
    let a : x.rests ≡ s.rests (place_of s.sets (s.point (way_at d.crosses w).f)) = sym hx.is.rests ∙ ap s.rests (sym ei) in
    let b : y.rests ≡ s.rests (place_of s.sets (s.point (way_at d.crosses w).g)) = sym hy.is.rests ∙ ap s.rests (sym ej) in
    let lx : loss_of x ≡ s.loss (place_of s.sets (s.point (way_at d.crosses w).f)) = sym hx.is.losses ∙ ap s.loss (sym ei) in
    let ly : loss_of y ≡ s.loss (place_of s.sets (s.point (way_at d.crosses w).g)) = sym hy.is.losses ∙ ap s.loss (sym ej) in
    let gx : gain_of x ≡ s.gain (place_of s.sets (s.point (way_at d.crosses w).f)) = sym hx.is.gains ∙ ap s.gain (sym ei) in
    let gy : gain_of y ≡ s.gain (place_of s.sets (s.point (way_at d.crosses w).g)) = sym hy.is.gains ∙ ap s.gain (sym ej) in
    same_parts x.top y.top x.rests y.rests (loss_of x + loss_of y) (gain_of x + gain_of y) now (long - (x.reach + y.reach)) (room_of d s w) room
    ∙ (λ z. by_parts (sym ei z) (sym ej z) (a z) (b z) (lx z + ly z) (gx z + gy z) (sym time z) (room_of d s w))

-- how far a face that stands so is from open water
shore_apart : (d : Dual) (terminals : List ℕ) (s : Sea) (f g : ℕ) (x : Standing) → IsSea d terminals s → IsHeldAs s f x → s.point g ≡ water
    → apart s.sets (s.point f) (s.point g) ≡ x.reach
shore_apart d terminals s f g x sea h e =
    (λ z. apart s.sets (h.at z) (e z)) ∙ water_apart s.sets sea.family h.member h.far h.is.inside ∙ sym h.is.reach

-- open water does not move, nor does it rest, and no top has its number
open_rests : (d : Dual) (terminals : List ℕ) (s : Sea) → IsSea d terminals s → s.rests (2 * s.sets.size) ≡ false
open_rests d terminals s sea = elim (cases_Bool (s.rests (2 * s.sets.size))) [
  | inr n ↦ n
  | inl y ↦ absurd (omega (arith, (sea.moving.still (2 * s.sets.size) y).0))
]

top_differs : (d : Dual) (terminals : List ℕ) (s : Sea) (f : ℕ) (x : Standing) → IsSea d terminals s → IsHeldAs s f x → x.top ≢ 2 * s.sets.size
top_differs d terminals s f x sea h e = omega (arith, sea.family.laminar.tops.top_range h.member h.is.inside, h.is.top, e)

gains_one : (d : Dual) (terminals : List ℕ) (s : Sea) (f : ℕ) (x : Standing) → IsSea d terminals s → IsHeldAs s f x → gain_of x ≤ 1
gains_one d terminals s f x sea h = omega (arith, sea.moving.once x.top, h.is.gains)

-- A way from a held face to open water
pub shore_due : (d : Dual) (terminals : List ℕ) (s : Sea) (w : ℕ) (x : Standing) (long now : ℕ) → IsSea d terminals s
    → s.time ≡ now → (way_at d.crosses w).length ≡ long → IsHeldAs s (way_at d.crosses w).f x → s.point (way_at d.crosses w).g ≡ water
    → due_at_shore x long now ≡ due_of d s never w
shore_due d terminals s w x long now sea time size hx water_is =
    let n = 2 * s.sets.size in
    let ei = top_is s (way_at d.crosses w).f x hx in
    let ej : place_of s.sets (s.point (way_at d.crosses w).g) ≡ n = ap (place_of s.sets) water_is in
    let beyond = still_beyond s sea.moving n (omega arith) in
    let room : long - x.reach ≡ room_of d s w = omega (arith, shore_apart d terminals s (way_at d.crosses w).f (way_at d.crosses w).g x sea hx water_is, size) in
    let a : x.rests ≡ s.rests (place_of s.sets (s.point (way_at d.crosses w).f)) = sym hx.is.rests ∙ ap s.rests (sym ei) in
    let b : false ≡ s.rests (place_of s.sets (s.point (way_at d.crosses w).g)) = sym (open_rests d terminals s sea) ∙ ap s.rests (sym ej) in
    let l : loss_of x ≡ s.loss (place_of s.sets (s.point (way_at d.crosses w).f)) + s.loss (place_of s.sets (s.point (way_at d.crosses w).g)) =
    omega (arith, hx.is.losses, ap s.loss ei, ap s.loss ej, beyond.1) in
    let g : gain_of x ≡ s.gain (place_of s.sets (s.point (way_at d.crosses w).f)) + s.gain (place_of s.sets (s.point (way_at d.crosses w).g)) =
    omega (arith, hx.is.gains, ap s.gain ei, ap s.gain ej, beyond.0) in
    sym (shore_parts x.top n x.rests (loss_of x) (gain_of x) now (long - x.reach) (top_differs d terminals s (way_at d.crosses w).f x sea hx)
    (gains_one d terminals s (way_at d.crosses w).f x sea hx))
    ∙ (λ z. by_parts (sym ei z) (sym ej z) (a z) (b z) (l z) (g z) (sym time z) (room z))

-- and one from open water to a held face.
pub shore_due_back : (d : Dual) (terminals : List ℕ) (s : Sea) (w : ℕ) (x : Standing) (long now : ℕ) → IsSea d terminals s
    → s.time ≡ now → (way_at d.crosses w).length ≡ long → s.point (way_at d.crosses w).f ≡ water → IsHeldAs s (way_at d.crosses w).g x
    → due_at_shore x long now ≡ due_of d s never w
shore_due_back d terminals s w x long now sea time size water_is hx =
    let n = 2 * s.sets.size in
    let ej = top_is s (way_at d.crosses w).g x hx in
    let ei : place_of s.sets (s.point (way_at d.crosses w).f) ≡ n = ap (place_of s.sets) water_is in
    let beyond = still_beyond s sea.moving n (omega arith) in
    let room : long - x.reach ≡ room_of d s w = omega (
      arith,
      shore_apart d terminals s (way_at d.crosses w).g (way_at d.crosses w).f x sea hx water_is,
      apart_back s.sets (s.point (way_at d.crosses w).f) (s.point (way_at d.crosses w).g),
      size,
    ) in
    let a : false ≡ s.rests (place_of s.sets (s.point (way_at d.crosses w).f)) = sym (open_rests d terminals s sea) ∙ ap s.rests (sym ei) in
    let b : x.rests ≡ s.rests (place_of s.sets (s.point (way_at d.crosses w).g)) = sym hx.is.rests ∙ ap s.rests (sym ej) in
    let l : loss_of x ≡ s.loss (place_of s.sets (s.point (way_at d.crosses w).f)) + s.loss (place_of s.sets (s.point (way_at d.crosses w).g)) =
    omega (arith, hx.is.losses, ap s.loss ei, ap s.loss ej, beyond.1) in
    let g : gain_of x ≡ s.gain (place_of s.sets (s.point (way_at d.crosses w).f)) + s.gain (place_of s.sets (s.point (way_at d.crosses w).g)) =
    omega (arith, hx.is.gains, ap s.gain ei, ap s.gain ej, beyond.0) in
    sym (back_parts n x.top x.rests (loss_of x) (gain_of x) now (long - x.reach) (λ e. top_differs d terminals s (way_at d.crosses w).g x sea hx (sym e))
    (gains_one d terminals s (way_at d.crosses w).g x sea hx))
    ∙ (λ z. by_parts (sym ei z) (sym ej z) (a z) (b z) (l z) (g z) (sym time z) (room z))
