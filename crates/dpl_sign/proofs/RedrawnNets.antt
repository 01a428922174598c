-- Nets whose ports are moved or mirrored, and what their drawings have in common.
use Rattle.std.proofs.Common.{arith, ◌≡◌, ◌≢◌, ℕ, zero, suc, ◌+◌, ◌*◌, ◌/◌, ◌%◌, ◌==◌, ◌<◌, ◌≤◌, ℤ, ◌&&◌, ◌||◌, refl, sym, ap, ◌∙◌, inl, inr}
use Rattle.std.proofs.Common.{Bool, true, false, not, length, nat_lt, subst}
use Rattle.std.specs.Prelude.{if◌then◌else◌, slice_index_or}
use Rattle.std.specs.Ordering.{is_lt}
use Rattle.std.proofs.lemmas.Bool.{cases_Bool, cases_lt, cond-true, cond-false, eqb-true, lt-ltb, le-ltb}
use Rattle.dpl_list.proofs.Zips.{zip_at}
use Rattle.dpl_cycle.specs.Cycles.{least}
use Rattle.dpl_cycle.proofs.Shorter.{least_same}
use Rattle.dpl_sign.specs.declared.ports.Port.{Port}
use Rattle.dpl_sign.specs.declared.graphs.Signed.{Signed}
use Rattle.dpl_sign.specs.declared.nets.Net.{Net}
use Rattle.dpl_sign.specs.Drawings.{dart_count, no_port, port_of, tail_of, twin_of, is_before}
use Rattle.dpl_sign.specs.Drawings.{is_met_before, first_met, next_below, next_around, next_in_face, face_of, corner_face}
use Rattle.dpl_sign.specs.Redrawn.{IsMovedPort, IsMirroredPort, IsTransposedPort, IsRedrawn}
use Rattle.dpl_sign.specs.Redrawn.{AreAround, AreThreeAround, HasNoTies, AreDrawnAlike, AreOpposite}
use Rattle.dpl_sign.proofs.DartLemmas.{twin_below}
use Rattle.dpl_sign.proofs.Unfold.{next_in, next_out}
use Rattle.dpl_sign.proofs.Turning.{IsAt, rank_of, ranked}
use Rattle.dpl_sign.proofs.RedrawnPorts.{IsTurned, AreInOneBlock, moved_order, turned_order, two_blocks, mirrored_turns, transposed_turns}

-- ---- darts and graphs

pub same_darts : (n m : Net) → m.graph ≡ n.graph → dart_count m ≡ dart_count n
same_darts n m g = ap (λ (h : Signed). 2 * length h.edges) g

pub same_tail : (n m : Net) → m.graph ≡ n.graph → (d : ℕ) → tail_of m.graph d ≡ tail_of n.graph d
same_tail n m g d = ap (λ (h : Signed). tail_of h d) g

-- ---- ports of a net that is drawn once more

by_half : (has : Port → Port → Type 0) (b : Bool) (x y : Port × Port) → has x.0 y.0 → has x.1 y.1
    → has (elim b [ true ↦ x.0 | false ↦ x.1 ]) (elim b [ true ↦ y.0 | false ↦ y.1 ])
by_half has true x y h k = h
by_half has false x y h k = k

redrawn_port : (has : Port → Port → Type 0) (n m : Net) → IsRedrawn has n m → (d : ℕ) → d < dart_count n → has (port_of n d) (port_of m d)
redrawn_port has n m r d l =
    let size : length n.ports ≡ length n.graph.edges = n.ports_per_edge in
    let z = zip_at (λ (p : Port × Port) (q : Port × Port). has p.0 q.0 × has p.1 q.1) n.ports m.ports (d / 2) (no_port, no_port)
    (no_port, no_port) r.ports (omega arith) in
    by_half has (d % 2 == 0) (slice_index_or n.ports (d / 2) (no_port, no_port)) (slice_index_or m.ports (d / 2) (no_port, no_port)) z.0 z.1

-- nets whose keys are moved side by side are drawn alike
pub moved_alike : (shift : ℕ → ℤ) (n m : Net) → IsRedrawn (IsMovedPort shift) n m → AreDrawnAlike n m
moved_alike shift n m r = record {
  graph = r.graph;
  order = λ d c h. ap is_lt (moved_order shift (port_of n d) (port_of m d) (port_of n c) (port_of m c) (d / 2) (c / 2)
      (redrawn_port (IsMovedPort shift) n m r d h.first) (redrawn_port (IsMovedPort shift) n m r c h.second));
}

-- ---- what is met first, from three tests

-- the first of three tests tells whether the others are to hold both, or one
abbrev pub met : Bool → Bool → Bool → Bool
met x y z = elim x [ true ↦ y && z | false ↦ y || z ]

pub met_same : (x y z x' y' z' : Bool) → x ≡ x' → y ≡ y' → z ≡ z' → met x y z ≡ met x' y' z'
met_same x y z x' y' z' e f g = ap (λ b. met b y z) e ∙ ap (λ b. met x' b z) f ∙ ap (λ b. met x' y' b) g

-- ---- mirror images

-- three numbers, read upwards and downwards
numbers_turned : (a b g : ℕ) → a ≢ b → a ≢ g → b ≢ g → met (nat_lt g a) (nat_lt b a) (nat_lt g b) ≡ met (nat_lt a b) (nat_lt a g) (nat_lt g b)
numbers_turned a b g p q r =
    let both = λ (x y z x' y' : Bool) (e : nat_lt g a ≡ x) (f : nat_lt b a ≡ y) (h : nat_lt g b ≡ z) (e' : nat_lt a b ≡ x')
    (f' : nat_lt a g ≡ y') (k : met x y z ≡ met x' y' z).
    met_same (nat_lt g a) (nat_lt b a) (nat_lt g b) x y z e f h ∙ k ∙ sym (met_same (nat_lt a b) (nat_lt a g) (nat_lt g b) x' y' z e' f' h) in
    elim (cases_lt a b) [
      | inl ab ↦ elim (cases_lt a g) [
        | inl ag ↦ elim (cases_lt g b) [
          | inl gb ↦ both false false true true true (le-ltb g a (omega arith)) (le-ltb b a (omega arith)) (lt-ltb g b gb) (lt-ltb a b ab) (lt-ltb a g ag) refl
          | inr gb ↦ both false false false true true (le-ltb g a (omega arith)) (le-ltb b a (omega arith)) (le-ltb g b gb) (lt-ltb a b ab) (lt-ltb a g ag) refl
        ]
        | inr ag ↦ both true false true true false (lt-ltb g a (omega arith)) (le-ltb b a (omega arith)) (lt-ltb g b (omega arith)) (lt-ltb a b ab)
            (le-ltb a g ag) refl
      ]
      | inr ab ↦ elim (cases_lt a g) [
        | inl ag ↦ both false true false false true (le-ltb g a (omega arith)) (lt-ltb b a (omega arith)) (le-ltb g b (omega arith)) (le-ltb a b ab)
            (lt-ltb a g ag) refl
        | inr ag ↦ elim (cases_lt g b) [
          | inl gb ↦ both true true true false false (lt-ltb g a (omega arith)) (lt-ltb b a (omega arith)) (lt-ltb g b gb) (le-ltb a b ab) (le-ltb a g ag) refl
          | inr gb ↦ both true true false false false (lt-ltb g a (omega arith)) (lt-ltb b a (omega arith)) (le-ltb g b gb) (le-ltb a b ab) (le-ltb a g ag) refl
        ]
      ]
    ]

-- one that stands apart from the other two
second_low : (r : Bool) → met (not r) false true ≡ met false r false
second_low true = refl
second_low false = refl

second_high : (r : Bool) → met (not r) true false ≡ met true r true
second_high true = refl
second_high false = refl

third_low : (p : Bool) → met false (not p) false ≡ met p false true
third_low true = refl
third_low false = refl

third_high : (p : Bool) → met true (not p) true ≡ met p true false
third_high true = refl
third_high false = refl

pub at_node : (net : Net) (d c : ℕ) → AreAround net d c → IsAt net (tail_of net.graph d) c
at_node net d c h = record { inside = h.second; tail = sym h.tail }

-- darts of one node by their ranks
by_rank : (net : Net) (v d c : ℕ) → IsAt net v d → IsAt net v c → is_before net d c ≡ nat_lt (rank_of net v d) (rank_of net v c)
by_rank net v d c h k = (ranked net v).order d c h.inside k.inside h.tail k.tail

pub rank_differs : (net : Net) (v d c : ℕ) → IsAt net v d → IsAt net v c → d ≢ c → rank_of net v d ≢ rank_of net v c
rank_differs net v d c h k ne e = ne ((ranked net v).apart d c h.inside k.inside h.tail k.tail e)

other_way : (a b : ℕ) → a ≢ b → nat_lt b a ≡ not (nat_lt a b)
other_way a b ne = elim (cases_lt a b) [
  | inl h ↦ rw (lt-ltb a b h, le-ltb b a (omega arith)) refl
  | inr h ↦ rw (le-ltb a b h, lt-ltb b a (omega arith)) refl
]

-- of two darts of a node just one stands before the other
pub one_before : (net : Net) (v d c : ℕ) → IsAt net v d → IsAt net v c → d ≢ c → is_before net c d ≡ not (is_before net d c)
one_before net v d c h k ne = by_rank net v c d k h ∙ other_way (rank_of net v d) (rank_of net v c) (rank_differs net v d c h k ne) ∙
    ap not (sym (by_rank net v d c h k))

-- the images of the ports of a net at a mirror
abbrev pub AreTurned : ℕ → Net → Net → Type 0
AreTurned t n m = (d : ℕ) → d < dart_count n → IsTurned t (port_of n d) (port_of m d)

-- darts whose ports are of one block
block_order : (t : ℕ) (n m : Net) → AreTurned t n m → HasNoTies n → (d c : ℕ) → AreAround n d c → d ≢ c
    → AreInOneBlock t (port_of n d) (port_of n c) → is_before m d c ≡ is_before n c d
block_order t n m r ties d c h ne b = ap is_lt (turned_order t (port_of n d) (port_of m d) (port_of n c) (port_of m c) (d / 2) (c / 2)
    (r d h.first) (r c h.second) b (ties d c h ne))

-- a dart whose port is of the first block, and one of the second
pub record AreOrdered (n m : Net) (d c : ℕ) : Type 0 where
  pub image : is_before m d c ≡ true
  pub image_back : is_before m c d ≡ false
  pub here : is_before n d c ≡ true
  pub back : is_before n c d ≡ false

blocks_order : (t : ℕ) (n m : Net) → AreTurned t n m → (d c : ℕ) → d < dart_count n → c < dart_count n
    → (port_of n d).side < t → t ≤ (port_of n c).side → AreOrdered n m d c
blocks_order t n m r d c ld lc h k =
    let o = two_blocks t (port_of n d) (port_of m d) (port_of n c) (port_of m c) (d / 2) (c / 2) (r d ld) (r c lc) h k in
    record { image = ap is_lt o.image; image_back = ap is_lt o.image_back; here = ap is_lt o.here; back = ap is_lt o.back }

-- the order of three darts turns round at a mirror
three_turned : (t : ℕ) (n m : Net) → AreTurned t n m → HasNoTies n → (d c e : ℕ) → AreThreeAround n d c e
    → is_met_before m d c e ≡ is_met_before n d e c
three_turned t n m r ties d c e h =
    let v = tail_of n.graph d in
    let ld = h.one.first in
    let lc = h.one.second in
    let le = h.two.second in
    let ad : IsAt n v d = record { inside = ld; tail = refl } in
    let ac : IsAt n v c = at_node n d c h.one in
    let ae : IsAt n v e = at_node n d e h.two in
    let ce : AreAround n c e = record { first = lc; second = le; tail = sym h.one.tail ∙ h.two.tail } in
    let ec : e ≢ c = λ q. h.other (sym q) in
    let bd = is_before n d c in
    let be = is_before n d e in
    let bc = is_before n c e in
    let ecb = is_before n e c in
    let image = λ (x y z x' y' z' : Bool) (p : is_before m d e ≡ x) (q : is_before m d c ≡ y) (s : is_before m c e ≡ z)
    (p' : is_before n d c ≡ x') (q' : is_before n d e ≡ y') (s' : is_before n e c ≡ z') (k : met x y z ≡ met x' y' z').
    met_same (is_before m d e) (is_before m d c) (is_before m c e) x y z p q s ∙ k ∙
    sym (met_same (is_before n d c) (is_before n d e) (is_before n e c) x' y' z' p' q' s') in
    let back_d : AreInOneBlock t (port_of n d) (port_of n c) → is_before m d c ≡ not bd = λ b.
    block_order t n m r ties d c h.one h.apart b ∙ one_before n v d c ad ac h.apart in
    let back_e : AreInOneBlock t (port_of n d) (port_of n e) → is_before m d e ≡ not be = λ b.
    block_order t n m r ties d e h.two h.far b ∙ one_before n v d e ad ae h.far in
    let back_c : AreInOneBlock t (port_of n c) (port_of n e) → is_before m c e ≡ ecb = λ b.
    block_order t n m r ties c e ce h.other b in
    let whole : AreInOneBlock t (port_of n d) (port_of n c) → AreInOneBlock t (port_of n d) (port_of n e) →
    AreInOneBlock t (port_of n c) (port_of n e) → is_met_before m d c e ≡ is_met_before n d e c = λ p q s.
    image (nat_lt (rank_of n v e) (rank_of n v d)) (nat_lt (rank_of n v c) (rank_of n v d)) (nat_lt (rank_of n v e) (rank_of n v c))
    (nat_lt (rank_of n v d) (rank_of n v c)) (nat_lt (rank_of n v d) (rank_of n v e)) (nat_lt (rank_of n v e) (rank_of n v c))
    (block_order t n m r ties d e h.two h.far q ∙ by_rank n v e d ae ad)
    (block_order t n m r ties d c h.one h.apart p ∙ by_rank n v c d ac ad)
    (block_order t n m r ties c e ce h.other s ∙ by_rank n v e c ae ac)
    (by_rank n v d c ad ac) (by_rank n v d e ad ae) (by_rank n v e c ae ac)
    (numbers_turned (rank_of n v d) (rank_of n v c) (rank_of n v e) (rank_differs n v d c ad ac h.apart)
    (rank_differs n v d e ad ae h.far) (rank_differs n v c e ac ae h.other)) in
    elim (cases_lt (port_of n d).side t) [
      | inl pd ↦ elim (cases_lt (port_of n c).side t) [
        | inl pc ↦ elim (cases_lt (port_of n e).side t) [
          | inl pe ↦ whole (inl (pd, pc)) (inl (pd, pe)) (inl (pc, pe))
          | inr pe ↦
              let x = blocks_order t n m r d e ld le pd pe in
              let y = blocks_order t n m r c e lc le pc pe in
              image true (not bd) true bd true false x.image (back_d (inl (pd, pc))) y.image refl x.here y.back (third_high bd)
        ]
        | inr pc ↦ elim (cases_lt (port_of n e).side t) [
          | inl pe ↦
              let x = blocks_order t n m r d c ld lc pd pc in
              let y = blocks_order t n m r e c le lc pe pc in
              image (not be) true false true be true (back_e (inl (pd, pe))) x.image y.image_back x.here refl y.here (second_high be)
          | inr pe ↦
              let x = blocks_order t n m r d c ld lc pd pc in
              let y = blocks_order t n m r d e ld le pd pe in
              image true true ecb true true ecb y.image x.image (back_c (inr (pc, pe))) x.here y.here refl refl
        ]
      ]
      | inr pd ↦ elim (cases_lt (port_of n c).side t) [
        | inl pc ↦ elim (cases_lt (port_of n e).side t) [
          | inl pe ↦
              let x = blocks_order t n m r c d lc ld pc pd in
              let y = blocks_order t n m r e d le ld pe pd in
              image false false ecb false false ecb y.image_back x.image_back (back_c (inl (pc, pe))) x.back y.back refl refl
          | inr pe ↦
              let x = blocks_order t n m r c d lc ld pc pd in
              let y = blocks_order t n m r c e lc le pc pe in
              image (not be) false true false be false (back_e (inr (pd, pe))) x.image_back y.image x.back refl y.back (second_low be)
        ]
        | inr pc ↦ elim (cases_lt (port_of n e).side t) [
          | inl pe ↦
              let x = blocks_order t n m r e d le ld pe pd in
              let y = blocks_order t n m r e c le lc pe pc in
              image false (not bd) false bd false true x.image_back (back_d (inr (pd, pc))) y.image_back refl x.back y.here (third_low bd)
          | inr pe ↦ whole (inr (pd, pc)) (inr (pd, pe)) (inr (pc, pe))
        ]
      ]
    ]

opposite_by : (t : ℕ) (n m : Net) → m.graph ≡ n.graph → AreTurned t n m → HasNoTies n → AreOpposite n m
opposite_by t n m g r ties = record { graph = g; order = λ d c e h. three_turned t n m r ties d c e h }

-- mirror images are drawn in the opposite order, but for ties
pub mirrored_opposite : (n m : Net) → IsRedrawn IsMirroredPort n m → HasNoTies n → AreOpposite n m
mirrored_opposite n m r ties = opposite_by 3 n m r.graph (λ d l. mirrored_turns (port_of n d) (port_of m d) (redrawn_port IsMirroredPort n m r d l)) ties

pub transposed_opposite : (n m : Net) → IsRedrawn IsTransposedPort n m → HasNoTies n → AreOpposite n m
transposed_opposite n m r ties = opposite_by 1 n m r.graph (λ d l. transposed_turns (port_of n d) (port_of m d) (redrawn_port IsTransposedPort n m r d l)) ties

-- ---- nets that are drawn alike

before_alike : (n m : Net) → AreDrawnAlike n m → (v d c : ℕ) → IsAt n v d → IsAt n v c → is_before m d c ≡ is_before n d c
before_alike n m a v d c h k = a.order d c (record { first = h.inside; second = k.inside; tail = h.tail ∙ sym k.tail })

met_alike : (n m : Net) → AreDrawnAlike n m → (v d c e : ℕ) → IsAt n v d → IsAt n v c → IsAt n v e → is_met_before m d c e ≡ is_met_before n d c e
met_alike n m a v d c e h k l = met_same (is_before m d e) (is_before m d c) (is_before m c e) (is_before n d e) (is_before n d c) (is_before n c e)
    (before_alike n m a v d e h l) (before_alike n m a v d c h k) (before_alike n m a v c e k l)

both_alike : (a b x y : Bool) → a ≡ b → (b ≡ true → x ≡ y) → (a && x) ≡ (b && y)
both_alike a true x y e h = ap (λ z. z && x) e ∙ h refl
both_alike a false x y e h = ap (λ z. z && x) e

first_alike : (n m : Net) → AreDrawnAlike n m → (v d c e : ℕ) → IsAt n v d → c < dart_count n → IsAt n v e → first_met m d c e ≡ first_met n d c e
first_alike n m a v d c e h l k = ap (λ b. if b then c else e) (both_alike (tail_of m.graph c == tail_of m.graph d)
    (tail_of n.graph c == tail_of n.graph d) (is_met_before m d c e) (is_met_before n d c e)
    (ap (λ (g : Signed). tail_of g c == tail_of g d) a.graph)
    (λ t. met_alike n m a v d c e h (record { inside = l; tail = eqb-true (tail_of n.graph c) (tail_of n.graph d) t ∙ h.tail }) k))

at_same : (net : Net) (v x y : ℕ) → x ≡ y → IsAt net v x → IsAt net v y
at_same net v x y e h = let P : ℕ → Type 0 = λ z. IsAt net v z in subst P e h

and_first : (a b : Bool) → (a && b) ≡ true → a ≡ true
and_first true b h = refl
and_first false b h = h

first_at : (net : Net) (v d c e : ℕ) → IsAt net v d → c < dart_count net → IsAt net v e → IsAt net v (first_met net d c e)
first_at net v d c e h l k =
    let test = (tail_of net.graph c == tail_of net.graph d) && is_met_before net d c e in
    elim (cases_Bool test) [
      | inl t ↦ at_same net v c (first_met net d c e) (sym (cond-true test c e t)) (record {
        inside = l;
        tail = eqb-true (tail_of net.graph c) (tail_of net.graph d) (and_first _ (is_met_before net d c e) t) ∙ h.tail;
      })
      | inr t ↦ at_same net v e (first_met net d c e) (sym (cond-false test c e t)) k
    ]

below_alike : (n m : Net) → AreDrawnAlike n m → (set : ℕ → Bool) (v d : ℕ) → IsAt n v d → (k : ℕ)
    → k ≤ length n.graph.edges
    → (next_below m set k d ≡ next_below n set k d) × IsAt n v (next_below n set k d)
below_alike n m a set v d h zero l = (refl, h)
below_alike n m a set v d h (suc k) l =
    let rest = below_alike n m a set v d h k (omega arith) in
    elim (cases_Bool (set k)) [
      | inl t ↦
          let e = next_below n set k d in
          let one : first_met m d (2 * k) (next_below m set k d) ≡ first_met n d (2 * k) e =
          ap (first_met m d (2 * k)) rest.0 ∙ first_alike n m a v d (2 * k) e h (omega arith) rest.1 in
          let at : IsAt n v (first_met n d (2 * k) e) = first_at n v d (2 * k) e h (omega arith) rest.1 in (
            next_in m set k d t ∙ ap (first_met m d (2 * k + 1)) one ∙
                first_alike n m a v d (2 * k + 1) (first_met n d (2 * k) e) h (omega arith) at ∙ sym (next_in n set k d t),
            at_same n v _ _ (sym (next_in n set k d t)) (first_at n v d (2 * k + 1) (first_met n d (2 * k) e) h (omega arith) at),
          )
      | inr t ↦ (
        next_out m set k d t ∙ rest.0 ∙ sym (next_out n set k d t),
        at_same n v _ _ (sym (next_out n set k d t)) rest.1,
      )
    ]

-- around each node they have the same next darts
pub next_alike : (n m : Net) → AreDrawnAlike n m → (set : ℕ → Bool) (d : ℕ) → d < dart_count n → next_around m set d ≡ next_around n set d
next_alike n m a set d l = ap (λ (g : Signed). next_below m set (length g.edges) d) a.graph ∙
    (below_alike n m a set (tail_of n.graph d) d (record { inside = l; tail = refl }) (length n.graph.edges) (omega arith)).0

face_alike : (n m : Net) → AreDrawnAlike n m → (set : ℕ → Bool) (d : ℕ) → d < dart_count n → next_in_face m set d ≡ next_in_face n set d
face_alike n m a set d l = ap (λ z. if set (d / 2) then z else d) (next_alike n m a set (twin_of d) (twin_below d (length n.graph.edges) l))

-- and the same faces
pub faces_alike : (n m : Net) → AreDrawnAlike n m → (set : ℕ → Bool) (d : ℕ) → face_of m set d ≡ face_of n set d
faces_alike n m a set d = ap (λ k. least (next_in_face m set) k d) (same_darts n m a.graph) ∙
    least_same (dart_count n) (next_in_face m set) (next_in_face n set) (face_alike n m a set) d

pub corner_alike : (n m : Net) → AreDrawnAlike n m → (set : ℕ → Bool) (d : ℕ) → d < dart_count n → corner_face m set d ≡ corner_face n set d
corner_alike n m a set d l = ap (face_of m set) (next_alike n m a set d l) ∙ faces_alike n m a set (next_around n set d)
