-- The order of ports that are moved, and of their mirror images.
use Rattle.std.proofs.Common.{arith, ◌≡◌, ℕ, ◌+◌, ◌-◌, ◌*◌, ◌%◌, ◌==◌, ◌<◌, ◌≤◌, ℤ, ◌+ℤ◌, neg_ℤ, ◌<ℤ◌, refl, sym, ap, ◌∙◌, inl, inr, ◌⊎◌}
use Rattle.std.specs.Ordering.{nat_cmp, int_cmp, ordering_then}
use Rattle.std.specs.declared.cmp.Ordering.{Ordering}
use Rattle.std.specs.declared.cmp.Ordering.TheVariants.{Less, Equal, Greater}
use Rattle.std.specs.Cmp.{nat_cmp_is, int_cmp_is}
use Rattle.std.proofs.lemmas.Cmp.{ranked, int_ranked, by_ranked}
use Rattle.std.proofs.lemmas.Int.{ints}
use Rattle.std.proofs.lemmas.Bool.{cases_eq, cond-true, cond-false, ne_eqb}
use Rattle.std.proofs.Common.{eq-eqb}
use Rattle.dpl_sign.specs.declared.ports.Port.{Port}
use Rattle.dpl_sign.specs.PortOrder.{rise, run, slope_cmp, port_cmp}
use Rattle.dpl_sign.specs.Redrawn.{IsMovedPort, IsMirroredPort, IsTransposedPort, AreAtOnePlace}
use Rattle.dpl_sign.proofs.PortOrderLemmas.{then_same}

-- ---- comparisons

nat_alike : (x y a b : ℕ) → (x < y → a < b) → (x ≡ y → a ≡ b) → (y < x → b < a) → nat_cmp x y ≡ nat_cmp a b
nat_alike x y a b f g h = by_ranked (x < y) (x ≡ y) (y < x) (nat_cmp x y) (ranked x y (nat_cmp x y) refl)
    (λ o l. o ∙ nat_cmp_is a b Less (f l)) (λ o l. o ∙ nat_cmp_is a b Equal (g l)) (λ o l. o ∙ nat_cmp_is a b Greater (h l))

int_alike : (x y a b : ℤ) → (x <ℤ y → a <ℤ b) → (x ≡ y → a ≡ b) → (y <ℤ x → b <ℤ a) → int_cmp x y ≡ int_cmp a b
int_alike x y a b f g h = by_ranked (x <ℤ y) (x ≡ y) (y <ℤ x) (int_cmp x y) (int_ranked x y (int_cmp x y) refl)
    (λ o l. o ∙ int_cmp_is a b Less (f l)) (λ o l. o ∙ int_cmp_is a b Equal (g l)) (λ o l. o ∙ int_cmp_is a b Greater (h l))

shifted_keys : (x y x' y' s : ℤ) → x' ≡ x +ℤ s → y' ≡ y +ℤ s → int_cmp x' y' ≡ int_cmp x y
shifted_keys x y x' y' s e f = int_alike x' y' x y (λ h. omega (arith, ints)) (λ h. omega (arith, ints)) (λ h. omega (arith, ints))

negated_keys : (x y x' y' : ℤ) → x' ≡ neg_ℤ x → y' ≡ neg_ℤ y → int_cmp x' y' ≡ int_cmp y x
negated_keys x y x' y' e f = int_alike x' y' y x (λ h. omega (arith, ints)) (λ h. omega (arith, ints)) (λ h. omega (arith, ints))

-- ---- moved ports

rise_moved : (shift : ℕ → ℤ) (p p' : Port) → IsMovedPort shift p p' → rise p' ≡ rise p
rise_moved shift p p' a = rw (a.side, a.dx, a.dy) refl

run_moved : (shift : ℕ → ℤ) (p p' : Port) → IsMovedPort shift p p' → run p' ≡ run p
run_moved shift p p' a = rw (a.side, a.dx, a.dy) refl

slope_alike : (p p' q q' : Port) → rise p' ≡ rise p → run p' ≡ run p → rise q' ≡ rise q → run q' ≡ run q → slope_cmp p' q' ≡ slope_cmp p q
slope_alike p p' q q' a b c d =
    let one : rise p' * run q' ≡ rise p * run q = ap (λ z. z * run q') a ∙ ap (λ z. rise p * z) d in
    let two : rise q' * run p' ≡ rise q * run p = ap (λ z. z * run p') c ∙ ap (λ z. rise q * z) b in
    ap (λ z. nat_cmp z (rise q' * run p')) one ∙ ap (λ z. nat_cmp (rise p * run q) z) two

-- ports whose keys are moved side by side stand in the same order
pub moved_order : (shift : ℕ → ℤ) (p p' q q' : Port) (e f : ℕ) → IsMovedPort shift p p'
    → IsMovedPort shift q q' → port_cmp p' e q' f ≡ port_cmp p e q f
moved_order shift p p' q q' e f a b =
    let slopes : slope_cmp p' q' ≡ slope_cmp p q = slope_alike p p' q q' (rise_moved shift p p' a) (run_moved shift p p' a)
    (rise_moved shift q q' b) (run_moved shift q q' b) in
    let rest = ordering_then (int_cmp p'.key q'.key) (ordering_then (slope_cmp p' q') (nat_cmp e f)) in
    let sides : nat_cmp p'.side q'.side ≡ nat_cmp p.side q.side = ap (λ z. nat_cmp z q'.side) a.side ∙ ap (λ z. nat_cmp p.side z) b.side in
    ap (λ o. ordering_then o rest) sides ∙ then_same (nat_cmp p.side q.side) rest
    (ordering_then (int_cmp p.key q.key) (ordering_then (slope_cmp p q) (nat_cmp e f)))
    (λ o.
    let s : p.side ≡ q.side = ranked p.side q.side Equal (sym o) in
    let keys : int_cmp p'.key q'.key ≡ int_cmp p.key q.key =
    shifted_keys p.key q.key p'.key q'.key (shift p.side) a.key (b.key ∙ ap (λ z. q.key +ℤ shift z) (sym s)) in
    ap (λ o. ordering_then o (ordering_then (slope_cmp p' q') (nat_cmp e f))) keys ∙
    ap (λ o. ordering_then (int_cmp p.key q.key) (ordering_then o (nat_cmp e f))) slopes)

-- ---- mirror images

-- a port and its image at a mirror that leaves the order of the sides turned round, those below t and those from t on
pub record IsTurned (t : ℕ) (p q : Port) : Type 0 where
  pub few : t ≤ 8
  pub side : q.side ≡ (t + 7 - p.side) % 8
  pub key : q.key ≡ neg_ℤ p.key
  pub rising : rise q ≡ run p
  pub running : run q ≡ rise p

abbrev pub AreInOneBlock : ℕ → Port → Port → Type 0
AreInOneBlock t p q = ((p.side < t) × (q.side < t)) ⊎ ((t ≤ p.side) × (t ≤ q.side))

image_low : (t s s' : ℕ) → t ≤ 8 → s ≤ 7 → s' ≡ (t + 7 - s) % 8 → s < t → s' + s + 1 ≡ t
image_low t s s' a b e h = omega arith

image_high : (t s s' : ℕ) → t ≤ 8 → s ≤ 7 → s' ≡ (t + 7 - s) % 8 → t ≤ s → s' + s ≡ t + 7
image_high t s s' a b e h = omega arith

sides_turned : (t : ℕ) (p p' q q' : Port) → IsTurned t p p' → IsTurned t q q' → AreInOneBlock t p q → nat_cmp p'.side q'.side ≡ nat_cmp q.side p.side
sides_turned t p p' q q' a b (inl (h, k)) =
    let e = image_low t p.side p'.side a.few p.eight a.side h in
    let f = image_low t q.side q'.side b.few q.eight b.side k in
    nat_alike p'.side q'.side q.side p.side (λ l. omega arith) (λ l. omega arith) (λ l. omega arith)
sides_turned t p p' q q' a b (inr (h, k)) =
    let e = image_high t p.side p'.side a.few p.eight a.side h in
    let f = image_high t q.side q'.side b.few q.eight b.side k in
    nat_alike p'.side q'.side q.side p.side (λ l. omega arith) (λ l. omega arith) (λ l. omega arith)

slopes_turned : (t : ℕ) (p p' q q' : Port) → IsTurned t p p' → IsTurned t q q' → slope_cmp p' q' ≡ slope_cmp q p
slopes_turned t p p' q q' a b =
    let one : rise p' * run q' ≡ run p * rise q = ap (λ z. z * run q') a.rising ∙ ap (λ z. run p * z) b.running in
    let two : rise q' * run p' ≡ run q * rise p = ap (λ z. z * run p') b.rising ∙ ap (λ z. run q * z) a.running in
    let one' : rise p' * run q' ≡ rise q * run p = one ∙ turned (run p) (rise q) in
    let two' : rise q' * run p' ≡ rise p * run q = two ∙ turned (run q) (rise p) in
    ap (λ z. nat_cmp z (rise q' * run p')) one' ∙ ap (λ z. nat_cmp (rise q * run p) z) two' where
      turned : (x y : ℕ) → x * y ≡ y * x
      turned x y = omega arith

last_alike : (a b c x y : Ordering) → (a ≡ Equal → b ≡ Equal → c ≡ Equal → ⊥)
    → ordering_then a (ordering_then b (ordering_then c x)) ≡ ordering_then a (ordering_then b (ordering_then c y))
last_alike Less b c x y h = refl
last_alike Greater b c x y h = refl
last_alike Equal Less c x y h = refl
last_alike Equal Greater c x y h = refl
last_alike Equal Equal Less x y h = refl
last_alike Equal Equal Greater x y h = refl
last_alike Equal Equal Equal x y h = absurd (h refl refl refl)

-- ports of one block stand in the opposite order
pub turned_order : (t : ℕ) (p p' q q' : Port) (e f : ℕ) → IsTurned t p p' → IsTurned t q q'
    → AreInOneBlock t p q → (AreAtOnePlace p q → ⊥) → port_cmp p' e q' f ≡ port_cmp q f p e
turned_order t p p' q q' e f a b block apart =
    let sides = sides_turned t p p' q q' a b block in
    let keys : int_cmp p'.key q'.key ≡ int_cmp q.key p.key = negated_keys p.key q.key p'.key q'.key a.key b.key in
    let slopes = slopes_turned t p p' q q' a b in
    let o = nat_cmp q.side p.side in
    let k = int_cmp q.key p.key in
    let s = slope_cmp q p in
    ap (λ z. ordering_then z (ordering_then (int_cmp p'.key q'.key) (ordering_then (slope_cmp p' q') (nat_cmp e f)))) sides ∙
    ap (λ z. ordering_then o (ordering_then z (ordering_then (slope_cmp p' q') (nat_cmp e f)))) keys ∙
    ap (λ z. ordering_then o (ordering_then k (ordering_then z (nat_cmp e f)))) slopes ∙
    last_alike o k s (nat_cmp e f) (nat_cmp f e) (λ x y z. apart (record {
      side = sym (ranked q.side p.side Equal (sym x));
      key = sym (int_ranked q.key p.key Equal (sym y));
      slope = sym (nat_cmp_is (rise p * run q) (rise q * run p) Equal (sym (ranked (rise q * run p) (rise p * run q) Equal (sym z))));
    }))

less_side : (p q : Port) (e f : ℕ) → p.side < q.side → port_cmp p e q f ≡ Less
less_side p q e f h = ap (λ o. ordering_then o (ordering_then (int_cmp p.key q.key) (ordering_then (slope_cmp p q) (nat_cmp e f))))
    (sym (nat_cmp_is p.side q.side Less h))

more_side : (p q : Port) (e f : ℕ) → q.side < p.side → port_cmp p e q f ≡ Greater
more_side p q e f h = ap (λ o. ordering_then o (ordering_then (int_cmp p.key q.key) (ordering_then (slope_cmp p q) (nat_cmp e f))))
    (sym (nat_cmp_is p.side q.side Greater h))

-- what holds of ports of two blocks: the first stands before the second, and so do their images
pub record AreOfTwoBlocks (p p' q q' : Port) (e f : ℕ) : Type 0 where
  pub image : port_cmp p' e q' f ≡ Less
  pub image_back : port_cmp q' f p' e ≡ Greater
  pub here : port_cmp p e q f ≡ Less
  pub back : port_cmp q f p e ≡ Greater

pub two_blocks : (t : ℕ) (p p' q q' : Port) (e f : ℕ) → IsTurned t p p' → IsTurned t q q' → p.side < t
    → t ≤ q.side → AreOfTwoBlocks p p' q q' e f
two_blocks t p p' q q' e f a b h k =
    let x = image_low t p.side p'.side a.few p.eight a.side h in
    let y = image_high t q.side q'.side b.few q.eight b.side k in
    let z = q.eight in
    let w : p'.side < q'.side = omega arith in
    let v : p.side < q.side = omega arith in
    record {
      image = less_side p' q' e f w;
      image_back = more_side q' p' f e w;
      here = less_side p q e f v;
      back = more_side q p f e v;
    }

-- ---- the two mirrors

pub rise_by : (p : Port) → (p.side % 4 ≡ 0 → rise p ≡ p.dy) × ((p.side % 4 ≡ 0 → ⊥) → rise p ≡ p.dx)
rise_by p = (
  (λ h. cond-true (p.side % 4 == 0) p.dy p.dx (eq-eqb (p.side % 4) 0 h)),
  (λ h. cond-false (p.side % 4 == 0) p.dy p.dx (ne_eqb (p.side % 4) 0 h)),
)

pub run_by : (p : Port) → (p.side % 4 ≡ 0 → run p ≡ p.dx) × ((p.side % 4 ≡ 0 → ⊥) → run p ≡ p.dy)
run_by p = (
  (λ h. cond-true (p.side % 4 == 0) p.dx p.dy (eq-eqb (p.side % 4) 0 h)),
  (λ h. cond-false (p.side % 4 == 0) p.dx p.dy (ne_eqb (p.side % 4) 0 h)),
)

-- ports on sides have no direction
flat_rise : (p : Port) → p.dx ≡ 0 → p.dy ≡ 0 → (rise p ≡ 0) × (run p ≡ 0)
flat_rise p e f = elim (cases_eq (p.side % 4) 0) [
  | inl h ↦ ((rise_by p).0 h ∙ f, (run_by p).0 h ∙ e)
  | inr h ↦ ((rise_by p).1 h ∙ e, (run_by p).1 h ∙ f)
]

no_direction_of : (p : Port) → (p.side % 2 ≡ 0 → ⊥) → (p.dx ≡ 0) × (p.dy ≡ 0)
no_direction_of p h =
    let e : p.dx + p.dy ≡ 0 = p.no_direction (ne_eqb (p.side % 2) 0 h) in
    (omega (arith, e), omega (arith, e))

pub mirrored_turns : (p q : Port) → IsMirroredPort p q → IsTurned 3 p q
mirrored_turns p q a = record {
  few = omega arith;
  side = a.side;
  key = a.key;
  rising = elim (cases_eq (p.side % 2) 0) [
    | inl even ↦ elim (cases_eq (p.side % 4) 0) [
      | inl h ↦ (rise_by q).1 (λ z. other p.side q.side p.eight a.side h z) ∙ a.dx ∙ sym ((run_by p).0 h)
      | inr h ↦ (rise_by q).0 (same p.side q.side p.eight a.side even h) ∙ a.dy ∙ sym ((run_by p).1 h)
    ]
    | inr odd ↦
        let (e, f) = no_direction_of p odd in
        (flat_rise q (a.dx ∙ e) (a.dy ∙ f)).0 ∙ sym (flat_rise p e f).1
  ];
  running = elim (cases_eq (p.side % 2) 0) [
    | inl even ↦ elim (cases_eq (p.side % 4) 0) [
      | inl h ↦ (run_by q).1 (λ z. other p.side q.side p.eight a.side h z) ∙ a.dy ∙ sym ((rise_by p).0 h)
      | inr h ↦ (run_by q).0 (same p.side q.side p.eight a.side even h) ∙ a.dx ∙ sym ((rise_by p).1 h)
    ]
    | inr odd ↦
        let (e, f) = no_direction_of p odd in
        (flat_rise q (a.dx ∙ e) (a.dy ∙ f)).1 ∙ sym (flat_rise p e f).0
  ];
} where
  other : (s s' : ℕ) → s ≤ 7 → s' ≡ (10 - s) % 8 → s % 4 ≡ 0 → s' % 4 ≡ 0 → ⊥
  other s s' h e f g = omega arith

  same : (s s' : ℕ) → s ≤ 7 → s' ≡ (10 - s) % 8 → s % 2 ≡ 0 → (s % 4 ≡ 0 → ⊥) → s' % 4 ≡ 0
  same s s' h e f g = omega (arith, g)

pub transposed_turns : (p q : Port) → IsTransposedPort p q → IsTurned 1 p q
transposed_turns p q a = record {
  few = omega arith;
  side = a.side;
  key = a.key;
  rising = elim (cases_eq (p.side % 2) 0) [
    | inl even ↦ elim (cases_eq (p.side % 4) 0) [
      | inl h ↦ (rise_by q).0 (same p.side q.side p.eight a.side h) ∙ a.dy ∙ sym ((run_by p).0 h)
      | inr h ↦ (rise_by q).1 (λ z. other p.side q.side p.eight a.side even h z) ∙ a.dx ∙ sym ((run_by p).1 h)
    ]
    | inr odd ↦
        let (e, f) = no_direction_of p odd in
        (flat_rise q (a.dx ∙ f) (a.dy ∙ e)).0 ∙ sym (flat_rise p e f).1
  ];
  running = elim (cases_eq (p.side % 2) 0) [
    | inl even ↦ elim (cases_eq (p.side % 4) 0) [
      | inl h ↦ (run_by q).0 (same p.side q.side p.eight a.side h) ∙ a.dx ∙ sym ((rise_by p).0 h)
      | inr h ↦ (run_by q).1 (λ z. other p.side q.side p.eight a.side even h z) ∙ a.dy ∙ sym ((rise_by p).1 h)
    ]
    | inr odd ↦
        let (e, f) = no_direction_of p odd in
        (flat_rise q (a.dx ∙ f) (a.dy ∙ e)).1 ∙ sym (flat_rise p e f).0
  ];
} where
  same : (s s' : ℕ) → s ≤ 7 → s' ≡ (8 - s) % 8 → s % 4 ≡ 0 → s' % 4 ≡ 0
  same s s' h e f = omega arith

  other : (s s' : ℕ) → s ≤ 7 → s' ≡ (8 - s) % 8 → s % 2 ≡ 0 → (s % 4 ≡ 0 → ⊥) → s' % 4 ≡ 0 → ⊥
  other s s' h e f g k = omega (arith, g)
