-- The face rule with one edge more, as the exchanges that make it.
use Rattle.std.proofs.Common.{arith, ◌≡◌, ◌≢◌, ℕ, ◌/◌, ◌<◌, sym, ap, ◌∙◌, Bool, inl, inr, ◌⊎◌}
use Rattle.std.proofs.lemmas.Bool.{cases_eq, cases_Bool, both_ways}
use Rattle.dpl_cycle.specs.Cycles.{exchange}
use Rattle.dpl_cycle.proofs.Steps.{exchange_first, exchange_second, exchange_other}
use Rattle.dpl_cycle.proofs.Added.{IsNew, added, added_i, added_j, added_c, added_d, added_other}
use Rattle.dpl_sign.specs.declared.nets.Net.{Net}
use Rattle.dpl_sign.specs.Drawings.{tail_of, twin_of, dart_count, next_around, next_in_face}
use Rattle.dpl_sign.proofs.DartLemmas.{dart_cases, twin_twin, tails_apart}
use Rattle.dpl_sign.proofs.Rotation.{InSet, prev_around, twin_set, face_in, face_out}
use Rattle.dpl_sign.proofs.Insert.{IsNewDart, IsBetween, grown, next_elsewhere, alone, new_dart_set}

-- the darts of one edge
pub pair_cases : (z c : ℕ) → z / 2 ≡ c / 2 → (z ≡ c) ⊎ (z ≡ twin_of c)
pair_cases z c h = elim (dart_cases z) [
  | inl a ↦ elim (dart_cases c) [ inl b ↦ inl (omega (arith, a.0, b.0, h)) | inr b ↦ inr (omega (arith, a.0, b.1, h)) ]
  | inr a ↦ elim (dart_cases c) [ inl b ↦ inr (omega (arith, a.0, b.1, h)) | inr b ↦ inl (omega (arith, a.0, b.0, h)) ]
]

-- no dart is its own twin
pub twin_apart : (c : ℕ) → c ≢ twin_of c
twin_apart c h = elim (dart_cases c) [ inl a ↦ omega (arith, a.0, a.1, h) | inr a ↦ omega (arith, a.0, a.1, h) ]

-- the set has no dart at the node of c
abbrev pub NoneAt : Net → (ℕ → Bool) → ℕ → Type 0
NoneAt net p c = (y : ℕ) → InSet net p y → tail_of net.graph y ≢ tail_of net.graph c

-- the two darts of the new edge
pub record AreNew (net : Net) (p q : ℕ → Bool) (e c d : ℕ) : Type 0 where
  pub first : IsNewDart net p q e c
  pub second : IsNewDart net p q e d
  pub twin : d ≡ twin_of c
  pub back : c ≡ twin_of d

-- a dart of the set is not one of the new edge
pub not_new : (net : Net) (p q : ℕ → Bool) (e c z : ℕ) → IsNewDart net p q e c → InSet net p z → z ≢ c
not_new net p q e c z k h t = both_ways _ k.more.out (ap p (sym k.half ∙ ap (λ x. x / 2) (sym t)) ∙ h.chosen)

-- a dart whose face step does not meet the new edge
pub next_stays : (net : Net) (p q : ℕ → Bool) (e c d y : ℕ) → AreNew net p q e c d → InSet net p y
    → (tail_of net.graph y ≡ tail_of net.graph c → next_around net q y ≡ next_around net p y)
    → (tail_of net.graph y ≡ tail_of net.graph d → next_around net q y ≡ next_around net p y)
    → next_around net q y ≡ next_around net p y
next_stays net p q e c d y n h at_c at_d = elim (cases_eq (tail_of net.graph y) (tail_of net.graph c)) [
  | inl a ↦ at_c a
  | inr a ↦ elim (cases_eq (tail_of net.graph y) (tail_of net.graph d)) [
    | inl b ↦ at_d b
    | inr b ↦ next_elsewhere net p q e y n.first.more h (λ z hz half t. elim (pair_cases z c (half ∙ sym n.first.half)) [
      | inl k ↦ a (t ∙ ap (tail_of net.graph) k)
      | inr k ↦ b (t ∙ ap (tail_of net.graph) (k ∙ sym n.twin))
    ])
  ]
]

-- a dart whose next one around its far node is as before leads where it led in its face
pub face_stays : (net : Net) (p q : ℕ → Bool) (e c d z : ℕ) → AreNew net p q e c d → z < dart_count net
    → z ≢ c → z ≢ d
    → (InSet net p (twin_of z) → next_around net q (twin_of z) ≡ next_around net p (twin_of z))
    → next_in_face net q z ≡ next_in_face net p z
face_stays net p q e c d z n hz zc zd stays =
    let other : z / 2 ≢ e = λ t. elim (pair_cases z c (t ∙ sym n.first.half)) [ inl k ↦ zc k | inr k ↦ zd (k ∙ sym n.twin) ] in
    let same : p (z / 2) ≡ q (z / 2) = n.first.more.same (z / 2) (omega arith) other in
    elim (cases_Bool (p (z / 2))) [
      | inl t ↦ face_in net q z (sym same ∙ t) ∙ stays (twin_set net p z (record { inside = hz; chosen = t })) ∙ sym (face_in net p z t)
      | inr t ↦ face_out net q z (sym same ∙ t) ∙ sym (face_out net p z t)
    ]

-- ---- the new edge as a face of its own

-- without the new edge its dart leads to itself
pub fixed : (net : Net) (p q : ℕ → Bool) (e c : ℕ) → IsNewDart net p q e c → next_in_face net p c ≡ c
fixed net p q e c n = face_out net p c (ap p n.half ∙ n.more.out)

-- the face rule without the edge, with its two darts made one cycle
abbrev pub paired : Net → (ℕ → Bool) → ℕ → ℕ → ℕ → ℕ
paired net p c d = exchange (next_in_face net p) c d

-- the two new darts differ
pub apart : (net : Net) (p q : ℕ → Bool) (e c d : ℕ) → AreNew net p q e c d → c ≢ d
apart net p q e c d n h = twin_apart c (h ∙ n.twin)

-- the first of the pair leads to the second
pub paired_first : (net : Net) (p q : ℕ → Bool) (e c d : ℕ) → AreNew net p q e c d → paired net p c d c ≡ d
paired_first net p q e c d n = exchange_first (next_in_face net p) c d ∙ fixed net p q e d n.second

-- the second of the pair leads to the first
pub paired_second : (net : Net) (p q : ℕ → Bool) (e c d : ℕ) → AreNew net p q e c d → paired net p c d d ≡ c
paired_second net p q e c d n = exchange_second (next_in_face net p) c d (λ k. apart net p q e c d n (sym k)) ∙ fixed net p q e c n.first

-- the new darts may be named the other way round
pub turned_new : (net : Net) (p q : ℕ → Bool) (e c d : ℕ) → AreNew net p q e c d → AreNew net p q e d c
turned_new net p q e c d n = record { first = n.second; second = n.first; twin = n.back; back = n.twin }

-- where a new dart leads
pub new_face : (net : Net) (p q : ℕ → Bool) (e c d : ℕ) → AreNew net p q e c d → next_in_face net q c ≡ next_around net q d
new_face net p q e c d n = face_in net q c (new_dart_set net p q e c n.first).chosen ∙ ap (next_around net q) (sym n.twin)

-- the dart of which the face step leads to the corner of c
abbrev pub into : Net → (ℕ → Bool) → ℕ → ℕ
into net p c = twin_of (prev_around net p c)

-- the corner at which a new dart leaves its node: i led there in its face, and leads to the new dart now
pub record Corner (net : Net) (p q : ℕ → Bool) (c i : ℕ) : Type 0 where
  pub set : InSet net p i
  pub to_new : next_in_face net q i ≡ c
  pub from_new : next_around net q c ≡ next_in_face net p i
  pub face : next_around net p c ≡ next_in_face net p i

-- where the set has darts at the node, a new dart has a corner
pub corner : (net : Net) (p q : ℕ → Bool) (e c : ℕ) → IsNewDart net p q e c → IsBetween net p q c → Corner net p q c (into net p c)
corner net p q e c n b =
    let x = prev_around net p c in
    let i = twin_of x in
    let set : InSet net p i = twin_set net p x b.prev_in in
    let back : twin_of i ≡ x = twin_twin x in
    let here : next_in_face net p i ≡ next_around net p x = face_in net p i set.chosen ∙ ap (next_around net p) back in
    record {
      set = set;
      to_new = face_in net q i (grown net p q e n.more i set).chosen ∙ ap (next_around net q) back ∙ b.to_new;
      from_new = b.from_new ∙ sym here;
      face = b.corner ∙ sym here;
    }

-- all but the dart into the corner turn around the node as before
pub stays_between : (net : Net) (p q : ℕ → Bool) (c z : ℕ) → IsBetween net p q c → z ≢ into net p c
    → InSet net p (twin_of z) → tail_of net.graph (twin_of z) ≡ tail_of net.graph c
    → next_around net q (twin_of z) ≡ next_around net p (twin_of z)
stays_between net p q c z b ne h t = b.others (twin_of z) h t (λ k. ne (sym (twin_twin z) ∙ ap twin_of k))

-- ---- the three cases

-- both nodes were bare
pub lone_is : (net : Net) (p q : ℕ → Bool) (e c d : ℕ) → AreNew net p q e c d → NoneAt net p c
    → NoneAt net p d → (z : ℕ) → z < dart_count net → next_in_face net q z ≡ paired net p c d z
lone_is net p q e c d n none_c none_d z h = elim (cases_eq z c) [
  | inl a ↦ ap (next_in_face net q) a ∙ new_face net p q e c d n ∙ alone net p q e d n.second none_d ∙
      sym (ap (paired net p c d) a ∙ paired_first net p q e c d n)
  | inr a ↦ elim (cases_eq z d) [
    | inl b ↦ ap (next_in_face net q) b ∙ new_face net p q e d c (turned_new net p q e c d n) ∙
        alone net p q e c n.first none_c ∙ sym (ap (paired net p c d) b ∙ paired_second net p q e c d n)
    | inr b ↦
        face_stays net p q e c d z n h a b (λ k. next_stays net p q e c d (twin_of z) n k
        (λ t. absurd (none_c (twin_of z) k t)) (λ t. absurd (none_d (twin_of z) k t))) ∙
        sym (exchange_other (next_in_face net p) c d z a b)
  ]
]

-- the node of d was bare
pub hung_is : (net : Net) (p q : ℕ → Bool) (e c d : ℕ) → AreNew net p q e c d → IsBetween net p q c
    → NoneAt net p d → (z : ℕ) → z < dart_count net
    → next_in_face net q z ≡ exchange (paired net p c d) (into net p c) d z
hung_is net p q e c d n b none z h =
    let i = into net p c in
    let k = corner net p q e c n.first b in
    let f0 = paired net p c d in
    let ic : i ≢ c = not_new net p q e c i n.first k.set in
    let id : i ≢ d = not_new net p q e d i n.second k.set in
    let cd = apart net p q e c d n in
    let f0i : f0 i ≡ next_in_face net p i = exchange_other (next_in_face net p) c d i ic id in
    elim (cases_eq z i) [
      | inl a ↦ ap (next_in_face net q) a ∙ k.to_new ∙ sym (ap (exchange f0 i d) a ∙ exchange_first f0 i d ∙ paired_second net p q e c d n)
      | inr zi ↦ elim (cases_eq z d) [
        | inl a ↦ ap (next_in_face net q) a ∙ new_face net p q e d c (turned_new net p q e c d n) ∙ k.from_new ∙
            sym (ap (exchange f0 i d) a ∙ exchange_second f0 i d (λ r. id (sym r)) ∙ f0i)
        | inr zd ↦ elim (cases_eq z c) [
          | inl a ↦
              ap (next_in_face net q) a ∙ new_face net p q e c d n ∙ alone net p q e d n.second none ∙
              sym (ap (exchange f0 i d) a ∙ exchange_other f0 i d c (λ r. ic (sym r)) cd ∙
              paired_first net p q e c d n)
          | inr zc ↦
              face_stays net p q e c d z n h zc zd (λ s. next_stays net p q e c d (twin_of z) n s
              (stays_between net p q c z b zi s) (λ t. absurd (none (twin_of z) s t))) ∙
              sym (exchange_other f0 i d z zi zd ∙ exchange_other (next_in_face net p) c d z zc zd)
        ]
      ]
    ]

-- the places where a new edge leaves two nodes that have darts
pub new_at : (net : Net) (p q : ℕ → Bool) (e c d : ℕ) → AreNew net p q e c d → IsBetween net p q c
    → IsBetween net p q d → IsNew (dart_count net) (paired net p c d) (into net p c) (into net p d) c d
new_at net p q e c d n bc bd =
    let i = into net p c in
    let j = into net p d in
    let k = corner net p q e c n.first bc in
    let l = corner net p q e d n.second bd in
    let cd = apart net p q e c d n in
    record {
      i_in = k.set.inside;
      j_in = l.set.inside;
      c_in = n.first.inside;
      d_in = n.second.inside;
      there = paired_first net p q e c d n;
      again = paired_second net p q e c d n;
      cd = cd;
      ij = λ r. cd (tails_apart net.graph c d (n.first.half ∙ sym n.second.half)
          (sym bc.prev_tail ∙ ap (tail_of net.graph) (sym (twin_twin (prev_around net p c)) ∙ ap twin_of r ∙
          twin_twin (prev_around net p d)) ∙ bd.prev_tail));
      ic = not_new net p q e c i n.first k.set;
      id = not_new net p q e d i n.second k.set;
      jc = not_new net p q e c j n.first l.set;
      jd = not_new net p q e d j n.second l.set;
    }

-- both nodes had darts
pub added_is : (net : Net) (p q : ℕ → Bool) (e c d : ℕ) → AreNew net p q e c d → IsBetween net p q c
    → IsBetween net p q d → (z : ℕ) → z < dart_count net
    → next_in_face net q z ≡ added (paired net p c d) (into net p c) (into net p d) c d z
added_is net p q e c d n bc bd z h =
    let m = dart_count net in
    let f = next_in_face net p in
    let i = into net p c in
    let j = into net p d in
    let k = corner net p q e c n.first bc in
    let l = corner net p q e d n.second bd in
    let f0 = paired net p c d in
    let new = new_at net p q e c d n bc bd in
    let f0i : f0 i ≡ f i = exchange_other f c d i new.ic new.id in
    let f0j : f0 j ≡ f j = exchange_other f c d j new.jc new.jd in
    elim (cases_eq z i) [
      | inl a ↦ ap (next_in_face net q) a ∙ k.to_new ∙ sym (ap (added f0 i j c d) a ∙ added_i m f0 i j c d new)
      | inr zi ↦ elim (cases_eq z j) [
        | inl a ↦ ap (next_in_face net q) a ∙ l.to_new ∙ sym (ap (added f0 i j c d) a ∙ added_j m f0 i j c d new)
        | inr zj ↦ elim (cases_eq z c) [
          | inl a ↦ ap (next_in_face net q) a ∙ new_face net p q e c d n ∙ l.from_new ∙ sym (ap (added f0 i j c d) a ∙ added_c m f0 i j c d new ∙ f0j)
          | inr zc ↦ elim (cases_eq z d) [
            | inl a ↦ ap (next_in_face net q) a ∙ new_face net p q e d c (turned_new net p q e c d n) ∙ k.from_new ∙
                sym (ap (added f0 i j c d) a ∙ added_d m f0 i j c d new ∙ f0i)
            | inr zd ↦
                face_stays net p q e c d z n h zc zd (λ s. next_stays net p q e c d (twin_of z) n s
                (stays_between net p q c z bc zi s) (stays_between net p q d z bd zj s)) ∙
                sym (added_other f0 i j c d z zi zj zc zd ∙ exchange_other f c d z zc zd)
          ]
        ]
      ]
    ]
