-- Links stand around a fragment as one meets them when turning counterclockwise.
use Rattle.std.proofs.Common.{arith, ◌≡◌, ◌⊎◌, inl, inr, ℕ, ◌+◌, ◌*◌, ◌%◌, ◌==◌, ◌<◌, ℤ, ◌+ℤ◌, neg_ℤ, ◌<ℤ◌, ◌≤ℤ◌, refl, sym, ap, ◌∙◌, true, if◌then◌else◌}
use Rattle.std.specs.Ordering.{nat_cmp, int_cmp, ordering_then}
use Rattle.std.specs.declared.cmp.Ordering.TheVariants.{Less, Equal}
use Rattle.std.specs.Cmp.{nat_cmp_is, int_cmp_is}
use Rattle.std.proofs.lemmas.Bool.{cond-false, ne_eqb}
use Rattle.dpl_list.proofs.Integers.{signed}
use Rattle.dpl_cell.specs.declared.types.Facing.TheVariants.{Side, Corner}
use Rattle.dpl_sign.specs.declared.ports.Port.{Port}
use Rattle.dpl_sign.specs.Sides.{is_corner}
use Rattle.dpl_sign.specs.PortOrder.{rise, run, slope_cmp, StandsBefore}
use Rattle.dpl_sign.proofs.RedrawnPorts.{rise_by, run_by}
use Rattle.dpl_links.specs.Ports.{side_key, IsPort}

by_key : (p q : Port) (e f : ℕ) → p.side ≡ q.side → p.key <ℤ q.key → StandsBefore p e q f
by_key p q e f s k =
    ap (λ o. ordering_then o (ordering_then (int_cmp p.key q.key) (ordering_then (slope_cmp p q) (nat_cmp e f)))) (sym (nat_cmp_is p.side q.side Equal s)) ∙
    ap (λ o. ordering_then o (ordering_then (slope_cmp p q) (nat_cmp e f))) (sym (int_cmp_is p.key q.key Less k))

by_slope : (p q : Port) (e f : ℕ) → p.side ≡ q.side → p.key ≡ q.key → rise p * run q < rise q * run p → StandsBefore p e q f
by_slope p q e f s k h =
    ap (λ o. ordering_then o (ordering_then (int_cmp p.key q.key) (ordering_then (slope_cmp p q) (nat_cmp e f)))) (sym (nat_cmp_is p.side q.side Equal s)) ∙
    ap (λ o. ordering_then o (ordering_then (slope_cmp p q) (nat_cmp e f))) (sym (int_cmp_is p.key q.key Equal k)) ∙
    ap (λ o. ordering_then o (nat_cmp e f)) (sym (nat_cmp_is (rise p * run q) (rise q * run p) Less h))

key_up : (port : ℕ) (from to : ℤ) → (port ≡ 1) ⊎ (port ≡ 3) → side_key port from to ≡ from +ℤ to
key_up port from to (inl e) = rw e refl
key_up port from to (inr e) = rw e refl

key_down : (port : ℕ) (from to : ℤ) → (port ≡ 5) ⊎ (port ≡ 7) → side_key port from to ≡ neg_ℤ (from +ℤ to)
key_down port from to (inl e) = rw e refl
key_down port from to (inr e) = rw e refl

-- at south and east from the left to the right and upwards
pub sides_rise : (p q : Port) (e f port : ℕ) (from to from' to' : ℤ) → (port ≡ 1) ⊎ (port ≡ 3)
    → IsPort (Side port from to) p → IsPort (Side port from' to') q → from ≤ℤ from' → to <ℤ to'
    → StandsBefore p e q f
sides_rise p q e f port from to from' to' at i j low high =
    let x : p.key ≡ from +ℤ to = i.1 ∙ key_up port from to at in
    let y : q.key ≡ from' +ℤ to' = j.1 ∙ key_up port from' to' at in
    by_key p q e f (i.0 ∙ sym j.0) (omega signed)

-- at north and west from the right to the left and downwards
pub sides_fall : (p q : Port) (e f port : ℕ) (from to from' to' : ℤ) → (port ≡ 5) ⊎ (port ≡ 7)
    → IsPort (Side port from to) p → IsPort (Side port from' to') q → from' ≤ℤ from → to' <ℤ to
    → StandsBefore p e q f
sides_fall p q e f port from to from' to' at i j low high =
    let x : p.key ≡ neg_ℤ (from +ℤ to) = i.1 ∙ key_down port from to at in
    let y : q.key ≡ neg_ℤ (from' +ℤ to') = j.1 ∙ key_down port from' to' at in
    by_key p q e f (i.0 ∙ sym j.0) (omega signed)

given : (dx dy z : ℕ) → 0 < dx + dy → (if dx + dy == 0 then 1 else z) ≡ z
given dx dy z h = cond-false (dx + dy == 0) 1 z (ne_eqb (dx + dy) 0 (λ k. omega (arith, h, k)))

at_side : (s : ℕ) (n : ℕ) → s ≡ n → is_corner n ≡ true → is_corner s ≡ true
at_side s n e h = ap is_corner e ∙ h

no_key : (p q : Port) → is_corner p.side ≡ true → is_corner q.side ≡ true → p.key ≡ q.key
no_key p q h k = p.no_key h ∙ sym (q.no_key k)

steeper : (a b c d : ℕ) → a < c → d < b → a * d < c * b
steeper a b c d h k = grind arith

-- at south-west and north-east from the level to the upright
pub corners_rise : (p q : Port) (e f port dx dy dx' dy' : ℕ) → (port ≡ 0) ⊎ (port ≡ 4)
    → IsPort (Corner port dx dy) p → IsPort (Corner port dx' dy') q → dx' < dx → dy < dy'
    → StandsBefore p e q f
corners_rise p q e f port dx dy dx' dy' at i j closer further =
    let px : p.dx ≡ dx = i.1 ∙ given dx dy dx (omega arith) in
    let py : p.dy ≡ dy = i.2 ∙ given dx dy dy (omega arith) in
    let qx : q.dx ≡ dx' = j.1 ∙ given dx' dy' dx' (omega arith) in
    let qy : q.dy ≡ dy' = j.2 ∙ given dx' dy' dy' (omega arith) in
    let ps : p.side % 4 ≡ 0 = ap (λ z. z % 4) i.0 ∙ fourth port at in
    let qs : q.side % 4 ≡ 0 = ap (λ z. z % 4) j.0 ∙ fourth port at in
    let corner = λ (s : ℕ) (k : s ≡ port). even s port k at in
    let one : rise p * run q ≡ dy * dx' = ap (λ z. z * run q) ((rise_by p).0 ps ∙ py) ∙ ap (λ z. dy * z) ((run_by q).0 qs ∙ qx) in
    let two : rise q * run p ≡ dy' * dx = ap (λ z. z * run p) ((rise_by q).0 qs ∙ qy) ∙ ap (λ z. dy' * z) ((run_by p).0 ps ∙ px) in
    by_slope p q e f (i.0 ∙ sym j.0) (no_key p q (corner p.side i.0) (corner q.side j.0)) (less _ _ _ _ one two (steeper dy dx dy' dx' further closer)) where
      fourth : (n : ℕ) → (n ≡ 0) ⊎ (n ≡ 4) → n % 4 ≡ 0
      fourth n (inl k) = omega arith
      fourth n (inr k) = omega arith

      even : (s n : ℕ) → s ≡ n → (n ≡ 0) ⊎ (n ≡ 4) → is_corner s ≡ true
      even s n k (inl h) = at_side s 0 (k ∙ h) refl
      even s n k (inr h) = at_side s 4 (k ∙ h) refl

      less : (a b c d : ℕ) → a ≡ c → b ≡ d → c < d → a < b
      less a b c d h k l = omega arith

-- at south-east and north-west from the upright to the level
pub corners_fall : (p q : Port) (e f port dx dy dx' dy' : ℕ) → (port ≡ 2) ⊎ (port ≡ 6)
    → IsPort (Corner port dx dy) p → IsPort (Corner port dx' dy') q → dx < dx' → dy' < dy
    → StandsBefore p e q f
corners_fall p q e f port dx dy dx' dy' at i j further closer =
    let px : p.dx ≡ dx = i.1 ∙ given dx dy dx (omega arith) in
    let py : p.dy ≡ dy = i.2 ∙ given dx dy dy (omega arith) in
    let qx : q.dx ≡ dx' = j.1 ∙ given dx' dy' dx' (omega arith) in
    let qy : q.dy ≡ dy' = j.2 ∙ given dx' dy' dy' (omega arith) in
    let ps : p.side % 4 ≡ 0 → ⊥ = λ z. fourth port at (sym (ap (λ k. k % 4) i.0) ∙ z) in
    let qs : q.side % 4 ≡ 0 → ⊥ = λ z. fourth port at (sym (ap (λ k. k % 4) j.0) ∙ z) in
    let corner = λ (s : ℕ) (k : s ≡ port). even s port k at in
    let one : rise p * run q ≡ dx * dy' = ap (λ z. z * run q) ((rise_by p).1 ps ∙ px) ∙ ap (λ z. dx * z) ((run_by q).1 qs ∙ qy) in
    let two : rise q * run p ≡ dx' * dy = ap (λ z. z * run p) ((rise_by q).1 qs ∙ qx) ∙ ap (λ z. dx' * z) ((run_by p).1 ps ∙ py) in
    by_slope p q e f (i.0 ∙ sym j.0) (no_key p q (corner p.side i.0) (corner q.side j.0)) (less _ _ _ _ one two (steeper dx dy dx' dy' further closer)) where
      fourth : (n : ℕ) → (n ≡ 2) ⊎ (n ≡ 6) → n % 4 ≡ 0 → ⊥
      fourth n (inl k) h = omega arith
      fourth n (inr k) h = omega arith

      even : (s n : ℕ) → s ≡ n → (n ≡ 2) ⊎ (n ≡ 6) → is_corner s ≡ true
      even s n k (inl h) = at_side s 2 (k ∙ h) refl
      even s n k (inr h) = at_side s 6 (k ∙ h) refl

      less : (a b c d : ℕ) → a ≡ c → b ≡ d → c < d → a < b
      less a b c d h k l = omega arith
