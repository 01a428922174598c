-- Walking around the ring of a set.
use Rattle.std.proofs.Common.{arith, ◌≡◌, ◌≢◌, ℕ, zero, suc, ◌+◌, ◌-◌, ◌*◌, ◌%◌, ◌<◌, ◌≤◌, refl, sym, ap, ◌∙◌, subst}
use Rattle.std.proofs.Common.{inl, inr, true, eq-eqb, List, [], ◌∷◌, ◌++◌, length, get_or, Option}
use Rattle.std.proofs.Common.{Some, None}
use Rattle.std.specs.Prelude.{option_and_then}
use Rattle.std.proofs.lemmas.Bool.{cases_eq, cases_lt}
use Rattle.std.proofs.lemmas.List.{length_push, get_or_append_left}
use Rattle.std.proofs.Math.Seq.{get_or-append_seam}
use Rattle.std.proofs.Math.Nat.{mod-add-mod, mod_self, mod-eq_of_lt}
use Rattle.std.proofs.lemmas.Option.{same_Some}
use Rattle.dpl_laminar.specs.Families.{Sets, IsFamily, has, next_in, climb, AreReached}
use Rattle.dpl_laminar.specs.Changes.{IsNext}
use Rattle.dpl_laminar.proofs.Numbers.{has_at, place_in, cases_Option, some_none}
use Rattle.dpl_tree.specs.Mates.{loads}
use Rattle.dpl_tree.specs.Metrics.{AreSymmetric}
use Rattle.dpl_tree.specs.Stages.{IsRest}
use Rattle.dpl_tree.specs.steps.Opened.{IsAround}
use Rattle.dpl_tree.specs.steps.Rounds.{IsPart, IsRingFrom, IsTurned}
use Rattle.dpl_tree.proofs.Counting.{ring_short}
use Rattle.dpl_tree.proofs.Ways.{load_turned}
use Rattle.dpl_laminar.proofs.Reached.{size_most}

mod_next : (e j k : ℕ) → ((e + j) % k + 1) % k ≡ (e + (j + 1)) % k
mod_next e j k = mod-add-mod (e + j) k 1 ∙ ap (λ z. z % k) (let z : e + j + 1 ≡ e + (j + 1) = omega arith in z)

mod_once : (k y : ℕ) → y < k → (k + y) % k ≡ y
mod_once k y h = sym (mod-add-mod k k y) ∙ ap (λ z. (z + y) % k) (mod_self k) ∙ ap (λ z. z % k) (let z : 0 + y ≡ y = omega arith in z) ∙ mod-eq_of_lt h

turned : (e k : ℕ) → e < k → (e + k) % k ≡ e
turned e k h = ap (λ z. z % k) (let z : e + k ≡ k + e = omega arith in z) ∙ mod_once k e h

-- a whole turn, and no less, leads back
pub mod_back : (e l k : ℕ) → e < k → 0 < l → l ≤ k → (e + l) % k ≡ e → l ≡ k
mod_back e l k he hl hk back = elim (cases_lt (e + l) k) [
  | inl lt ↦ absurd (omega (arith, sym (mod-eq_of_lt lt) ∙ back))
  | inr ge ↦
      let y : ℕ = e + l - k in
      let split : e + l ≡ k + y = omega arith in
      omega (arith, sym (mod_once k y (let z : y < k = omega arith in z)) ∙ ap (λ z. z % k) (sym split) ∙ back)
]

-- places less than a whole turn apart are different
mod_differ : (e i j k : ℕ) → e < k → i < j → j < k → (e + i) % k ≡ (e + j) % k → ⊥
mod_differ e i j k he ij jk q = elim (cases_lt (e + i) k) [
  | inl a ↦ elim (cases_lt (e + j) k) [
    | inl b ↦ omega (arith, sym (mod-eq_of_lt a) ∙ q ∙ mod-eq_of_lt b, ij)
    | inr b ↦
        let y : ℕ = e + j - k in
        let s : e + j ≡ k + y = omega (arith, b) in
        omega (arith, sym (mod-eq_of_lt a) ∙ q ∙ ap (λ z. z % k) s ∙ mod_once k y (let z : y < k = omega (arith, he, jk) in z), b, ij, jk)
  ]
  | inr a ↦
      let x : ℕ = e + i - k in
      let y : ℕ = e + j - k in
      let s : e + i ≡ k + x = omega (arith, a) in
      let t : e + j ≡ k + y = omega (arith, a, ij) in
      omega (
        arith,
        sym (ap (λ z. z % k) s ∙ mod_once k x (let z : x < k = omega (arith, he, jk, ij) in z)) ∙ q ∙
            ap (λ z. z % k) t ∙ mod_once k y (let z : y < k = omega (arith, he, jk) in z),
        a,
        ij,
      )
]

-- ---- the loop

pub record IsGoing (f : Sets) (first : ℕ) (sets : List ℕ) (joins : List (ℕ × ℕ)) (child : ℕ) : Type 0 where
  pub parent : ℕ
  pub at : ℕ
  pub is_parent : f.parent first ≡ Some parent
  pub starts : get_or (f.children parent) at 0 ≡ first
  pub part : IsPart f parent at sets joins
  pub some : 0 < length sets
  pub short : length sets ≤ length (f.children parent)
  pub next : child ≡ get_or (f.children parent) ((at + length sets) % length (f.children parent)) 0

pub parent_below : (f : Sets) (first p : ℕ) → IsFamily f → first < 2 * f.size → f.live first ≡ true
    → f.parent first ≡ Some p → (p < 2 * f.size) × (has (f.children p) first ≡ true)
parent_below f first p fam low live e = let w = fam.laminar.children.parent_range first p low live e in (w.1, w.3)

-- the child in hand is live and has the same parent
pub going_child : (f : Sets) (first : ℕ) (sets : List ℕ) (joins : List (ℕ × ℕ)) (child : ℕ) → IsFamily f
    → first < 2 * f.size → f.live first ≡ true → (g : IsGoing f first sets joins child)
    → (child < 2 * f.size) × (f.live child ≡ true) × (f.parent child ≡ Some g.parent)
going_child f first sets joins child fam low live g =
    let w = parent_below f first g.parent fam low live g.is_parent in
    let cs : List ℕ = f.children g.parent in
    fam.laminar.children.child g.parent child w.0 (ap (has cs) g.next ∙
    has_at cs ((g.at + length sets) % length cs) (let z : (g.at + length sets) % length cs < length cs =
    omega (arith, g.some, g.short) in z))

-- where the child in hand is the first one, the round is whole
pub going_whole : (f : Sets) (first : ℕ) (sets : List ℕ) (joins : List (ℕ × ℕ)) (child : ℕ) → IsFamily f
    → first < 2 * f.size → f.live first ≡ true → IsGoing f first sets joins child → child ≡ first
    → IsRingFrom f first sets joins
going_whole f first sets joins child fam below live g e =
    let w = parent_below f first g.parent fam below live g.is_parent in
    let cs : List ℕ = f.children g.parent in
    let pos : ℕ = (g.at + length sets) % length cs in
    let low : pos < length cs = omega (arith, g.some, g.short) in
    let same : get_or cs pos 0 ≡ get_or cs g.at 0 = sym g.next ∙ e ∙ sym g.starts in
    let back : pos ≡ g.at = elim (cases_lt pos g.at) [
      | inl lt ↦ absurd (fam.laminar.children.distinct g.parent pos g.at w.0 lt g.part.place same)
      | inr le ↦ elim (cases_eq pos g.at) [
        | inl z ↦ z
        | inr z ↦ absurd (fam.laminar.children.distinct g.parent g.at pos w.0 (omega (arith, le, z)) low (sym same))
      ]
    ] in
    record {
      parent = g.parent;
      at = g.at;
      is_parent = g.is_parent;
      starts = g.starts;
      count = mod_back g.at (length sets) (length cs) g.part.place g.some g.short back;
      part = g.part;
    }

-- one child more
pub going_on : (f : Sets) (first : ℕ) (sets : List ℕ) (joins : List (ℕ × ℕ)) (child after : ℕ) (pair : ℕ × ℕ)
    → IsFamily f → first < 2 * f.size → f.live first ≡ true → (g : IsGoing f first sets joins child)
    → child ≢ first → IsNext f child after pair
    → IsGoing f first (sets ++ child ∷ []) (joins ++ pair ∷ []) after
going_on f first sets joins child after pair fam below live g ne nx =
    let cs : List ℕ = f.children g.parent in
    let k : ℕ = length cs in
    let l : ℕ = length sets in
    let pos : ℕ = (g.at + l) % k in
    let low : pos < k = omega (arith, g.some, g.short) in
    let more : suc l ≤ k = elim (cases_eq l k) [
      | inr z ↦ omega (arith, g.short, z)
      | inl z ↦ absurd (ne (g.next ∙ ap (λ a. get_or cs a 0) (ap (λ a. (g.at + a) % k) z ∙ turned g.at k g.part.place) ∙ g.starts))
    ] in
    let step = nx.next g.parent pos (going_child f first sets joins child fam below live g).2 low (sym g.next) in
    let len : length (sets ++ child ∷ []) ≡ l + 1 = length_push sets child in
    record {
      parent = g.parent;
      at = g.at;
      is_parent = g.is_parent;
      starts = g.starts;
      part = record {
        place = g.part.place;
        joins_length = length_push joins pair ∙ omega (arith, g.part.joins_length, len);
        each = λ i h. elim (cases_lt i l) [
          | inl lt ↦ get_or_append_left sets (child ∷ []) 0 i lt ∙ g.part.each i lt
          | inr ge ↦
              let e : i ≡ l = omega (arith, len, h, ge) in
              ap (λ z. get_or (sets ++ child ∷ []) z 0) e ∙ get_or-append_seam sets child [] 0 ∙ g.next ∙ ap (λ z. get_or cs ((g.at + z) % k) 0) (sym e)
        ];
        each_join = λ i h. elim (cases_lt i l) [
          | inl lt ↦ get_or_append_left joins (pair ∷ []) (0, 0) i (omega (arith, g.part.joins_length, lt)) ∙
              g.part.each_join i lt ∙ ap f.join (sym (get_or_append_left sets (child ∷ []) 0 i lt))
          | inr ge ↦
              let e : i ≡ length joins = omega (arith, len, g.part.joins_length, h, ge) in
              let e' : i ≡ l = omega (arith, len, h, ge) in
              ap (λ z. get_or (joins ++ pair ∷ []) z (0, 0)) e ∙ get_or-append_seam joins pair [] (0, 0) ∙ nx.join ∙
              ap f.join (sym (ap (λ z. get_or (sets ++ child ∷ []) z 0) e' ∙ get_or-append_seam sets child [] 0))
        ];
      };
      some = omega (arith, len);
      short = omega (arith, len, more);
      next = step ∙ ap (λ z. get_or cs z 0) (mod_next g.at l k ∙ ap (λ z. (g.at + z) % k) (sym len));
    }

pub going_begun : (f : Sets) (first after : ℕ) (pair : ℕ × ℕ) → IsFamily f → first < 2 * f.size
    → f.live first ≡ true → (f.parent first ≡ None → ⊥) → IsNext f first after pair
    → IsGoing f first (first ∷ []) (pair ∷ []) after
going_begun f first after pair fam below live ne nx = elim (cases_Option (f.parent first)) [
  | inl z ↦ absurd (ne z)
  | inr p ↦
      let w = parent_below f first p.0 fam below live p.1 in
      let e = place_in (f.children p.0) first w.1 in
      let step = nx.next p.0 e.0 p.1 e.1 e.2 in
      let zero' : e.0 + 0 ≡ e.0 = omega arith in
      let here : (e.0 + 0) % length (f.children p.0) ≡ e.0 = ap (λ z. z % length (f.children p.0)) zero' ∙ mod-eq_of_lt e.1 in
      record {
        parent = p.0;
        at = e.0;
        is_parent = p.1;
        starts = e.2;
        part = record {
          place = e.1;
          joins_length = refl;
          each = λ i h. let z : i ≡ 0 = omega (arith, h) in ap (λ a. get_or (first ∷ []) a 0) z ∙ sym e.2 ∙
              ap (λ a. get_or (f.children p.0) a 0) (sym here) ∙
              ap (λ a. get_or (f.children p.0) ((e.0 + a) % length (f.children p.0)) 0) (sym z);
          each_join = λ i h. let z : i ≡ 0 = omega (arith, h) in ap (λ a. get_or (pair ∷ []) a (0, 0)) z ∙ nx.join ∙
              ap (λ a. f.join (get_or (first ∷ []) a 0)) (sym z);
        };
        some = omega arith;
        short = omega (arith, e.1);
        next = step;
      }
]

-- a ring is no longer than there are numbers
pub going_short : (f : Sets) (first : ℕ) (sets : List ℕ) (joins : List (ℕ × ℕ)) (child : ℕ) → IsFamily f
    → first < 2 * f.size → f.live first ≡ true → IsGoing f first sets joins child → length sets ≤ 2 * f.size
going_short f first sets joins child fam below live g =
    let w = parent_below f first g.parent fam below live g.is_parent in
    omega (
      arith,
      g.short,
      ring_short (2 * f.size) (f.children g.parent)
          (λ i j h k. fam.laminar.children.distinct g.parent i j w.0 h k)
          (λ i h. (fam.laminar.children.child g.parent _ w.0 (has_at (f.children g.parent) i h)).0),
    )

-- ---- what a round is

pub ring_around : (n : ℕ) (f : Sets) (dist : ℕ → ℕ → ℕ) (mate : ℕ → Option ℕ) (set first : ℕ) (sets : List ℕ) (joins : List (ℕ × ℕ))
    → IsRest n f dist mate → n ≤ set → set < 2 * n → f.live set ≡ true → f.parent first ≡ Some set
    → IsRingFrom f first sets joins → IsAround n f dist set sets joins
ring_around n f dist mate set first sets joins rest ns hs live ep ring =
    let lam = rest.laminar in
    let ps : ring.parent ≡ set = same_Some _ _ (sym ring.is_parent ∙ ep) in
    let cs : List ℕ = f.children set in
    let k : ℕ = length cs in
    let e : ℕ = ring.at in
    let len : length sets ≡ k = ring.count ∙ ap (λ z. length (f.children z)) ps in
    let he : e < k = omega (arith, ring.part.place, ap (λ z. length (f.children z)) ps) in
    let each = λ (i : ℕ) (h : i < length sets). ring.part.each i h ∙ ap (λ z. get_or (f.children z) ((e + i) % length (f.children z)) 0) ps in
    let low = λ (i : ℕ). let z : (e + i) % k < k = omega (arith, he) in z in
    let kid = λ (i : ℕ) (h : i < length sets). ap (has cs) (each i h) ∙ has_at cs ((e + i) % k) (low i) in
    let join = λ (i : ℕ) (h : i < length sets). ring.part.each_join i h in
    let after = λ (i : ℕ) (h : i < length sets). (
    let a : f.after (get_or sets i 0) ≡ next_in cs ((e + i) % k) = ap f.after (each i h) ∙ rest.family.around set ((e + i) % k) (low i) in
    let b : next_in cs ((e + i) % k) ≡ get_or cs ((e + (i + 1)) % k) 0 = ap (λ z. get_or cs z 0) (mod_next e i k) in
    let r : f.after (get_or sets i 0) ≡ next_in sets i = a ∙ b ∙ (elim (cases_eq (i + 1) k) [
      | inl last ↦
          let z0 : (i + 1) % length sets ≡ 0 = ap (λ z. (i + 1) % z) (len ∙ sym last) ∙ mod_self (i + 1) in
          let z1 : (e + (i + 1)) % k ≡ (e + 0) % k = ap (λ z. (e + z) % k) last ∙ turned e k he ∙
          sym (mod-eq_of_lt he) ∙ ap (λ z. z % k) (let z : e ≡ e + 0 = omega arith in z) in
          ap (λ z. get_or cs z 0) z1 ∙ sym (each 0 (omega (arith, h))) ∙ ap (λ z. get_or sets z 0) (sym z0)
      | inr more ↦
          let lt : i + 1 < length sets = omega (arith, h, len, more) in
          sym (each (i + 1) lt) ∙ ap (λ z. get_or sets z 0) (sym (mod-eq_of_lt lt))
    ]) in r) in
    let tie = λ (i : ℕ) (h : i < length sets). rest.family.tied (get_or sets i 0) set (lam.children.child set (get_or sets i 0) hs (kid i h)).2 in
    let odd = lam.children.children_odd (set - n) (omega (arith, hs, ns)) (ap f.live (let z : n + (set - n) ≡ set = omega (arith, ns) in z) ∙ live) in
    record {
      count = ring.part.joins_length;
      odd = omega (arith, len, odd.0, ap (λ z. length (f.children z)) (let z : n + (set - n) ≡ set = omega (arith, ns) in z));
      kids = kid;
      all = λ c h.
          let v = place_in cs c h in
          elim (cases_lt v.0 e) [
            | inr ge ↦
                let i : ℕ = v.0 - e in
                let hi : i < length sets = omega (arith, v.1, len, ge) in
                (i, hi, each i hi ∙ ap (λ z. get_or cs z 0) (ap (λ z. z % k) (let z : e + i ≡ v.0 = omega (arith, ge) in z) ∙ mod-eq_of_lt v.1) ∙ v.2)
            | inl lt ↦
                let i : ℕ = v.0 + k - e in
                let hi : i < length sets = omega (arith, v.1, len, lt, he) in
                (i, hi, each i hi ∙ ap (λ z. get_or cs z 0) (ap (λ z. z % k) (let z : e + i ≡ k + v.0 = omega (arith, he) in z) ∙ mod_once k v.0 v.1) ∙ v.2)
          ];
      distinct = λ i j ij hj z.
          let hi : i < length sets = omega (arith, ij, hj) in
          let a = low i in
          let b = low j in
          let same : get_or cs ((e + i) % k) 0 ≡ get_or cs ((e + j) % k) 0 = sym (each i hi) ∙ z ∙ each j hj in
          elim (cases_lt ((e + i) % k) ((e + j) % k)) [
            | inl lt ↦ lam.children.distinct set _ _ hs lt b same
            | inr ge ↦ elim (cases_eq ((e + i) % k) ((e + j) % k)) [
              | inr ne ↦ lam.children.distinct set _ _ hs (omega (arith, ge, ne)) a (sym same)
              | inl q ↦ mod_differ e i j k he ij (omega (arith, hj, len)) q
            ]
          ];
      from = λ i h. let t = tie i h in (
        omega (arith, t.from_range, rest.size, ap (λ z. z.0) (join i h)),
        ap (λ z. f.holds (get_or sets i 0) z.0) (join i h) ∙ t.from,
      );
      to = λ i h. let t = tie i h in (
        omega (arith, t.to_range, rest.size, ap (λ z. z.1) (join i h)),
        ap (λ z. f.holds z (get_or joins i (0, 0)).1) (sym (after i h)) ∙
            ap (λ z. f.holds (f.after (get_or sets i 0)) z.1) (join i h) ∙ t.to,
      );
      tight = λ i h.
          let c = lam.children.child set (get_or sets i 0) hs (kid i h) in
          subst (λ (z : ℕ × ℕ). loads n f z.0 z.1 ≡ dist z.0 z.1) (sym (join i h)) (rest.joins (get_or sets i 0) set c.0 c.2);
    }

-- the same the other way around
pub around_turned : (n : ℕ) (f : Sets) (dist : ℕ → ℕ → ℕ) (set : ℕ) (sets sets' : List ℕ) (joins joins' : List (ℕ × ℕ))
    → AreSymmetric n dist → IsAround n f dist set sets joins → IsTurned sets joins sets' joins'
    → IsAround n f dist set sets' joins'
around_turned n f dist set sets sets' joins joins' me a t =
    let k : ℕ = length sets in
    let some : 0 < k = omega (arith, a.odd) in
    let place : ℕ → ℕ = λ i. (k - i) % k in
    let low = λ (i : ℕ). let z : (k - i) % k < k = omega (arith, some) in z in
    let each = λ (i : ℕ) (h : i < k). (elim (cases_eq i 0) as (λ _. get_or sets' i 0 ≡ get_or sets ((k - i) % k) 0) [
      | inl z ↦ ap (λ y. get_or sets' y 0) z ∙ t.first ∙
          ap (λ y. get_or sets y 0) (sym (ap (λ y. (k - y) % k) z ∙
          ap (λ y. y % k) (let y : k - 0 ≡ k = omega arith in y) ∙ mod_self k))
      | inr z ↦ t.each i (omega (arith, z)) h ∙ ap (λ y. get_or sets y 0) (sym (mod-eq_of_lt (let y : k - i < k = omega (arith, z, some) in y)))
    ]) in
    let back = λ (i : ℕ) (h : i < k). let z : k - 1 - i < k = omega (arith, some) in z in
    -- where the join of a place leads back to
    let next_back = λ (i : ℕ) (h : i < k). (
    let z : next_in sets (k - 1 - i) ≡ get_or sets ((k - i) % k) 0 =
    ap (λ y. get_or sets (y % k) 0) (let y : k - 1 - i + 1 ≡ k - i = omega (arith, h) in y) in z) in
    let after = λ (i : ℕ) (h : i < k). (elim (cases_eq (i + 1) k) as (λ _. next_in sets' i ≡ get_or sets (k - 1 - i) 0) [
      | inl last ↦
          let z0 : (i + 1) % length sets' ≡ 0 = ap (λ z. (i + 1) % z) (t.sets_length ∙ sym last) ∙ mod_self (i + 1) in
          ap (λ z. get_or sets' z 0) z0 ∙ t.first ∙ ap (λ z. get_or sets z 0) (let z : 0 ≡ k - 1 - i = omega (arith, last) in z)
      | inr more ↦
          let lt : i + 1 < length sets' = omega (arith, h, more, t.sets_length) in
          ap (λ z. get_or sets' z 0) (mod-eq_of_lt lt) ∙ t.each (i + 1) (omega arith) (omega (arith, h, more)) ∙
          ap (λ z. get_or sets z 0) (let z : k - (i + 1) ≡ k - 1 - i = omega arith in z)
    ]) in
    let within = λ (i : ℕ) (h : i < length sets'). let z : i < k = omega (arith, h, t.sets_length) in z in
    record {
      count = t.joins_length ∙ sym t.sets_length;
      odd = ap (λ z. z % 2) t.sets_length ∙ a.odd;
      kids = λ i h. ap (has (f.children set)) (each i (within i h)) ∙ a.kids ((k - i) % k) (low i);
      all = λ c h.
          let v = a.all c h in
          elim (cases_eq v.0 0) [
            | inl z ↦ (0, omega (arith, some, t.sets_length), t.first ∙ ap (λ y. get_or sets y 0) (sym z) ∙ v.2)
            | inr z ↦
                let i : ℕ = k - v.0 in
                let hi : i < k = omega (arith, z, v.1) in (
                  i,
                  omega (arith, hi, t.sets_length),
                  t.each i (omega (arith, v.1)) hi ∙
                      ap (λ y. get_or sets y 0) (let y : k - i ≡ v.0 = omega (arith, v.1) in y) ∙ v.2,
                )
          ];
      distinct = λ i j ij hj z.
          let hj' = within j hj in
          let hi' : i < k = omega (arith, ij, hj') in
          let tj = t.each j (omega (arith, ij)) hj' in
          elim (cases_eq i 0) [
            | inl y ↦ a.distinct 0 (k - j) (omega (arith, hj')) (omega (arith, ij, hj')) (sym t.first ∙ ap (λ y'. get_or sets' y' 0) (sym y) ∙ z ∙ tj)
            | inr y ↦ a.distinct (k - j) (k - i) (omega (arith, ij, hj')) (omega (arith, y, hi')) (sym tj ∙ sym z ∙ t.each i (omega (arith, y)) hi')
          ];
      from = λ i h.
          let hi = within i h in
          let w = a.to (k - 1 - i) (back i hi) in (
            omega (arith, w.0, t.each_from i hi),
            ap (λ z. f.holds z (get_or joins' i (0, 0)).0) (each i hi) ∙
                ap (f.holds (get_or sets ((k - i) % k) 0)) (t.each_from i hi) ∙
                ap (λ z. f.holds z (get_or joins (k - 1 - i) (0, 0)).1) (sym (next_back i hi)) ∙ w.1,
          );
      to = λ i h.
          let hi = within i h in
          let w = a.from (k - 1 - i) (back i hi) in (
            omega (arith, w.0, t.each_to i hi),
            ap (λ z. f.holds z (get_or joins' i (0, 0)).1) (after i hi) ∙
                ap (f.holds (get_or sets (k - 1 - i) 0)) (t.each_to i hi) ∙ w.1,
          );
      tight = λ i h.
          let hi = within i h in
          let b = back i hi in
          let x : ℕ = (get_or joins (k - 1 - i) (0, 0)).0 in
          let y : ℕ = (get_or joins (k - 1 - i) (0, 0)).1 in
          let e : loads n f y x ≡ dist y x = load_turned n f y x ∙ a.tight (k - 1 - i) b ∙ me x y (a.from (k - 1 - i) b).0 (a.to (k - 1 - i) b).0 in
          ap (λ z. loads n f z (get_or joins' i (0, 0)).1) (t.each_from i hi) ∙ ap (loads n f y) (t.each_to i hi) ∙ e ∙
          sym (ap (λ z. dist z (get_or joins' i (0, 0)).1) (t.each_from i hi) ∙ ap (dist y) (t.each_to i hi));
    }

-- ---- from a member up to a set

climb_none : (f : Sets) (m k j : ℕ) → climb f m k ≡ None → k ≤ j → climb f m j ≡ None
climb_none f m k zero e h = ap (climb f m) (let z : 0 ≡ k = omega (arith, h) in z) ∙ e
climb_none f m k (suc j) e h = elim (cases_lt j k) [
  | inl lt ↦ ap (climb f m) (let z : suc j ≡ k = omega (arith, h, lt) in z) ∙ e
  | inr le ↦ ap (option_and_then f.parent) (climb_none f m k j e le)
]

-- a set on the way from a member to a set above it, after so many steps
pub record IsRising (f : Sets) (set m k child : ℕ) : Type 0 where
  pub reaches : ℕ
  pub steps : climb f m k ≡ Some child
  pub reached : climb f m reaches ≡ Some set
  pub more : k < reaches
  pub few : reaches ≤ f.size
  pub below : child < 2 * f.size
  pub live : f.live child ≡ true
  pub held : f.holds child m ≡ true

climb_next : (f : Sets) (m k child : ℕ) → climb f m k ≡ Some child → climb f m (k + 1) ≡ f.parent child
climb_next f m k child e = ap (climb f m) (let z : k + 1 ≡ suc k = omega arith in z) ∙ ap (option_and_then f.parent) e

pub rising_parent : (f : Sets) (set m k child : ℕ) → IsRising f set m k child → f.parent child ≢ None
rising_parent f set m k child r e = some_none (climb f m r.reaches) set r.reached
    (climb_none f m (k + 1) r.reaches (climb_next f m k child r.steps ∙ e) (omega (arith, r.more)))

pub rising_more : (f : Sets) (set m k child p : ℕ) → IsFamily f → m < f.size → IsRising f set m k child
    → f.parent child ≡ Some p → p ≢ set → IsRising f set m (k + 1) p
rising_more f set m k child p fam hm r e ne =
    let w = fam.laminar.children.parent_range child p r.below r.live e in
    record {
      reaches = r.reaches;
      steps = climb_next f m k child r.steps ∙ e;
      reached = r.reached;
      more = elim (cases_eq (k + 1) r.reaches) [
        | inl z ↦ absurd (ne (same_Some _ _ (sym (climb_next f m k child r.steps ∙ e) ∙ ap (climb f m) z ∙ r.reached)))
        | inr z ↦ omega (arith, r.more, z)
      ];
      few = r.few;
      below = w.1;
      live = w.2;
      held = fam.laminar.children.child_holds p child m w.1 hm w.3 r.held;
    }

pub rising_begun : (f : Sets) (set m : ℕ) → IsFamily f → AreReached f → m < f.size → f.size ≤ set
    → set < 2 * f.size → f.live set ≡ true → f.holds set m ≡ true → IsRising f set m 0 m
rising_begun f set m fam all hm above below live held =
    let w = all set m below hm live held in
    record {
      reaches = w.0;
      steps = refl;
      reached = w.2;
      more = elim (cases_eq w.0 0) [
        | inl z ↦ absurd (omega (arith, same_Some _ _ (ap (climb f m) (sym z) ∙ w.2), hm, above))
        | inr z ↦ omega (arith, z)
      ];
      few = omega (arith, w.1, size_most f.size (f.holds set));
      below = omega (arith, hm);
      live = fam.laminar.sets.single_live m hm;
      held = fam.laminar.sets.single m m hm hm ∙ eq-eqb m m refl;
    }
