-- The list of the faces after an edge is put in.
use Rattle.std.proofs.Common.{arith, ◌≡◌, ◌≢◌, ℕ, ◌+◌, ◌*◌, ◌<◌, refl, sym, ap, ◌∙◌, Bool, inl, inr, List, [], ◌∷◌, length, get_or}
use Rattle.std.specs.Prelude.{swap, slice_index}
use Rattle.std.proofs.lemmas.Bool.{cases_eq, cases_Bool}
use Rattle.dpl_cycle.specs.Cycles.{exchange}
use Rattle.dpl_cycle.proofs.Steps.{exchange_first, exchange_second, exchange_other}
use Rattle.dpl_cycle.proofs.Turns.{next, Mem}
use Rattle.dpl_ring.proofs.RingLemmas.{swap_value, length_swap}
use Rattle.dpl_sign.specs.declared.nets.Net.{Net}
use Rattle.dpl_sign.specs.Walks.{edge_at}
use Rattle.dpl_sign.specs.Drawings.{tail_of, dart_count, next_around, next_in_face, is_bare}
use Rattle.dpl_sign.proofs.Turning.{rank_of, rank_end}
use Rattle.dpl_sign.proofs.Rotation.{around, around_set, around_tail, next_is, next_member}
use Rattle.dpl_sign.proofs.Insert.{IsOneMore, IsNewDart, IsBetween}
use Rattle.dpl_sign.proofs.FaceSteps.{NoneAt, not_new, paired, apart, turned_new, into, corner}
use Rattle.dpl_sign.proofs.EdgeEffect.{news, between_first, between_second, none_first, none_second}
use Rattle.dpl_drawing.specs.Faces.{AreFaces}
use Rattle.dpl_drawing.specs.Drawn.{IsAttached, IsInserted}
use Rattle.dpl_sign.proofs.FaceSteps.{lone_is, hung_is, new_at, added_is}
use Rattle.dpl_cycle.proofs.Exchange.{exchange_turned}

-- ---- lists that tell where a permutation leads

-- the list gives for each number below n what f gives
pub record Tells (n : ℕ) (xs : List ℕ) (f : ℕ → ℕ) : Type 0 where
  pub size : length xs ≡ n
  pub at : (z : ℕ) → z < n → get_or xs z 0 ≡ f z

exchange_alike : (n : ℕ) (f f' : ℕ → ℕ) (i j : ℕ) → i < n → j < n → ((z : ℕ) → z < n → f z ≡ f' z) → (z : ℕ) → z < n → exchange f i j z ≡ exchange f' i j z
exchange_alike n f f' i j hi hj same z h = elim (cases_eq z i) [
  | inl a ↦ ap (exchange f i j) a ∙ exchange_first f i j ∙ same j hj ∙ sym (ap (exchange f' i j) a ∙ exchange_first f' i j)
  | inr a ↦ elim (cases_eq z j) [
    | inl b ↦
        let ji : j ≢ i = λ k. a (b ∙ k) in
        ap (exchange f i j) b ∙ exchange_second f i j ji ∙ same i hi ∙ sym (ap (exchange f' i j) b ∙ exchange_second f' i j ji)
    | inr b ↦ exchange_other f i j z a b ∙ same z h ∙ sym (exchange_other f' i j z a b)
  ]
]

-- an exchange in the list is an exchange of what it tells
pub tells_swap : (n : ℕ) (xs ys : List ℕ) (f : ℕ → ℕ) (i j : ℕ) → Tells n xs f → i < n → j < n → i ≢ j → ys ≡ swap xs i j → Tells n ys (exchange f i j)
tells_swap n xs ys f i j t hi hj ne e =
    let li : i < length xs = omega (arith, t.size) in
    let lj : j < length xs = omega (arith, t.size) in
    record {
      size = ap length e ∙ length_swap xs i j li lj ∙ t.size;
      at = λ z h. ap (λ (zs : List ℕ). get_or zs z 0) e ∙ swap_value xs i j li lj ne z ∙ exchange_alike n (slice_index xs) f i j hi hj t.at z h;
    }

tells_same : (n : ℕ) (xs ys : List ℕ) (f : ℕ → ℕ) → Tells n xs f → ys ≡ xs → Tells n ys f
tells_same n xs ys f t e = record { size = ap length e ∙ t.size; at = λ z h. ap (λ (zs : List ℕ). get_or zs z 0) e ∙ t.at z h }

-- ---- what is next around a node

next_empty : (m : ℕ) (r : ℕ → ℕ) (d : ℕ) (cs : List ℕ) → ((z : ℕ) → Mem z cs → ⊥) → next m r d cs ≡ d
next_empty m r d [] h = refl
next_empty m r d (c ∷ cs) h = absurd (h c (inl refl))

-- at a bare node a dart meets none but itself
pub bare_next : (net : Net) (p : ℕ → Bool) (c : ℕ) → c < dart_count net → NoneAt net p c → next_around net p c ≡ c
bare_next net p c h none =
    let v = tail_of net.graph c in
    next_is net p v c h refl ∙ next_empty (rank_end net v) (rank_of net v) c (around net p v) (λ z m. none z (around_set net p v z m) (around_tail net p v z m))

-- and otherwise another
pub used_next : (net : Net) (p q : ℕ → Bool) (e c z : ℕ) → IsNewDart net p q e z → IsBetween net p q c → next_around net p c ≢ z
used_next net p q e c z n b k =
    let m = next_member net p _ _ b.prev_in b.prev_tail in
    not_new net p q e z _ n (around_set net p _ _ m) (sym b.corner ∙ k)

-- ---- the cases

-- the exchange at the corner of c is that of the dart that leads into it
attached_used : (net : Net) (p q : ℕ → Bool) (e c : ℕ) (xs ys : List ℕ) (f : ℕ → ℕ) (u twin : ℕ)
    → IsNewDart net p q e c → IsBetween net p q c → Tells (dart_count net) xs f → u ≡ next_around net p c
    → f (into net p c) ≡ next_in_face net p (into net p c) → IsAttached xs c u twin ys
    → ys ≡ swap xs (into net p c) twin
attached_used net p q e c xs ys f u twin n b t hu fi a =
    let k = corner net p q e c n b in
    let i = into net p c in
    let move = a.moves (λ r. used_next net p q e c c n b (sym hu ∙ r)) in
    let leads : get_or xs i 0 ≡ u = t.at i k.set.inside ∙ fi ∙ sym k.face ∙ sym hu in
    move.1.swapped ∙ ap (λ x. swap xs x twin) (sym (move.1.only i (omega (arith, t.size, k.set.inside)) leads))

attached_bare : (net : Net) (p : ℕ → Bool) (c : ℕ) (xs ys : List ℕ) (u twin : ℕ) → c < dart_count net
    → NoneAt net p c → u ≡ next_around net p c → IsAttached xs c u twin ys → ys ≡ xs
attached_bare net p c xs ys u twin h none hu a = a.stays (hu ∙ bare_next net p c h none)

faces_from : (net : Net) (q : ℕ → Bool) (xs : List ℕ) (f : ℕ → ℕ) → Tells (dart_count net) xs f
    → ((z : ℕ) → z < dart_count net → next_in_face net q z ≡ f z) → AreFaces net q xs
faces_from net q xs f t same = record { darts = t.size; next = λ d h. t.at d h ∙ sym (same d h) }

-- where the darts of an edge are put in at their corners, the list tells the faces with the edge
pub faces_more : (net : Net) (p q : ℕ → Bool) (e : ℕ) (xs ys : List ℕ) (u v : ℕ) → IsOneMore net p q e
    → AreFaces net p xs → u ≡ next_around net p (2 * e) → v ≡ next_around net p (2 * e + 1)
    → IsInserted xs e u v ys → AreFaces net q ys
faces_more net p q e xs ys u v k faces hu hv (mid, one, two) =
    let m = dart_count net in
    let f = next_in_face net p in
    let c = 2 * e in
    let d = 2 * e + 1 in
    let n = news net p q e k in
    let cd = apart net p q e c d n in
    let f0 = paired net p c d in
    let t0 : Tells m xs f = record { size = faces.darts; at = faces.next } in
    let t1 : Tells m (swap xs c d) f0 = tells_swap m xs (swap xs c d) f c d t0 n.first.inside n.second.inside cd refl in
    elim (cases_Bool (is_bare net.graph p (edge_at net.graph e).a)) [
      | inl ha ↦
          let none = none_first net p e ha in
          let t2 : Tells m mid f0 = tells_same m _ mid f0 t1 (attached_bare net p c _ mid u d n.first.inside none hu one) in
          elim (cases_Bool (is_bare net.graph p (edge_at net.graph e).b)) [
            | inl hb ↦
                let none_d = none_second net p e hb in
                faces_from net q ys f0 (tells_same m mid ys f0 t2
                (attached_bare net p d mid ys v c n.second.inside none_d hv two))
                (lone_is net p q e c d n none none_d)
            | inr hb ↦
                let b = between_second net p q e k hb in
                let j = into net p d in
                let l = corner net p q e d n.second b in
                let jc : j ≢ c = not_new net p q e c j n.first l.set in
                let jd : j ≢ d = not_new net p q e d j n.second l.set in
                let t3 : Tells m ys (exchange f0 j c) =
                tells_swap m mid ys f0 j c t2 l.set.inside n.first.inside jc
                (attached_used net p q e d mid ys f0 v c n.second b t2 hv (exchange_other f c d j jc jd) two) in
                faces_from net q ys _ t3 (λ z h. hung_is net p q e d c (turned_new net p q e c d n) b none z h ∙
                exchange_alike m (paired net p d c) f0 j c l.set.inside n.first.inside
                (λ y hy. exchange_turned f d c y (λ r. cd (sym r))) z h)
          ]
      | inr ha ↦
          let b = between_first net p q e k ha in
          let i = into net p c in
          let l = corner net p q e c n.first b in
          let ic : i ≢ c = not_new net p q e c i n.first l.set in
          let id : i ≢ d = not_new net p q e d i n.second l.set in
          let t2 : Tells m mid (exchange f0 i d) = tells_swap m _ mid f0 i d t1 l.set.inside n.second.inside id
          (attached_used net p q e c _ mid f0 u d n.first b t1 hu (exchange_other f c d i ic id) one) in
          elim (cases_Bool (is_bare net.graph p (edge_at net.graph e).b)) [
            | inl hb ↦
                let none_d = none_second net p e hb in
                faces_from net q ys _ (tells_same m mid ys _ t2
                (attached_bare net p d mid ys v c n.second.inside none_d hv two)) (hung_is net p q e c d n b none_d)
            | inr hb ↦
                let b' = between_second net p q e k hb in
                let j = into net p d in
                let new = new_at net p q e c d n b b' in
                let fj : exchange f0 i d j ≡ f j = exchange_other f0 i d j (λ r. new.ij (sym r)) new.jd ∙ exchange_other f c d j new.jc new.jd in
                let t3 = tells_swap m mid ys (exchange f0 i d) j c t2 new.j_in n.first.inside new.jc
                (attached_used net p q e d mid ys (exchange f0 i d) v c n.second b' t2 hv fj two) in
                faces_from net q ys _ t3 (added_is net p q e c d n b b')
          ]
    ]

-- after the first dart is put in, it still leads to its twin
pub attached_back : (xs ones mid : List ℕ) (c d u : ℕ) → c < length xs → d < length xs → c ≢ d
    → get_or xs c 0 ≡ c → get_or xs d 0 ≡ d → u ≢ d → ones ≡ swap xs c d → IsAttached ones c u d mid
    → get_or mid c 0 ≡ d
attached_back xs ones mid c d u hc hd cd fc fd ud e a =
    let l : length ones ≡ length xs = ap length e ∙ length_swap xs c d hc hd in
    let at : (z : ℕ) → get_or ones z 0 ≡ exchange (slice_index xs) c d z = λ z. ap (λ (zs : List ℕ). get_or zs z 0) e ∙ swap_value xs c d hc hd cd z in
    let first : get_or ones c 0 ≡ d = at c ∙ exchange_first (slice_index xs) c d ∙ fd in
    let second : get_or ones d 0 ≡ c = at d ∙ exchange_second (slice_index xs) c d (λ k. cd (sym k)) ∙ fc in
    elim (cases_eq u c) [
      | inl r ↦ ap (λ (zs : List ℕ). get_or zs c 0) (a.stays r) ∙ first
      | inr r ↦
          let move = a.moves r in
          let i = move.0 in
          let ci : c ≢ i = λ k. ud (sym move.1.leads ∙ ap (λ z. get_or ones z 0) (sym k) ∙ first) in
          let id : i ≢ d = λ k. r (sym move.1.leads ∙ ap (λ z. get_or ones z 0) k ∙ second) in
          ap (λ (zs : List ℕ). get_or zs c 0) move.1.swapped ∙
          swap_value ones i d move.1.inside (omega (arith, l)) id c ∙
          exchange_other (slice_index ones) i d c ci cd ∙ first
    ]

-- after an exchange the second number leads to the first, which had led to itself
pub swapped_second : (xs ones : List ℕ) (c d : ℕ) → c < length xs → d < length xs → c ≢ d → get_or xs c 0 ≡ c → ones ≡ swap xs c d → get_or ones d 0 ≡ c
swapped_second xs ones c d hc hd cd fc e = ap (λ (zs : List ℕ). get_or zs d 0) e ∙ swap_value xs c d hc hd cd d ∙
    exchange_second (slice_index xs) c d (λ k. cd (sym k)) ∙ fc
