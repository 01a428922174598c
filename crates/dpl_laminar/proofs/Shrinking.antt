-- The lists of a family after a new top is made.
use Rattle.std.proofs.Common.{arith, ◌≡◌, ◌≢◌, ℕ, ◌+◌, ◌*◌, ◌%◌, ◌<◌, ◌≤◌, ◌⊎◌, refl, sym, ap, ◌∙◌, subst, Bool, true}
use Rattle.std.proofs.Common.{false, cond, inl, inr, eqb, eq-eqb, ◌||◌, List, [], ◌∷◌, length, get_or, set, length-set}
use Rattle.std.proofs.Common.{get_or-set_same, get_or-set_other, Option, Some, None}
use Rattle.std.proofs.lemmas.Bool.{cases_eq, cases_lt, cases_Bool, cond-true, cond-false, ne_eqb}
use Rattle.std.proofs.lemmas.List.{get_or_past}
use Rattle.std.specs.List.{list_any}
use Rattle.dpl_laminar.specs.Families.{Sets, IsLaminar, IsTie, has}
use Rattle.dpl_laminar.specs.Changes.{AreJoined, IsShrunk}
use Rattle.dpl_laminar.specs.Storing.{Stored, sets_of, walk, IsKept, IsRow, IsNameOf}
use Rattle.dpl_laminar.proofs.Numbers.{has_at, has_head, has_tail, place_in, true_false, some_none}
use Rattle.dpl_laminar.proofs.Walks.{walk_is, walk_same, length_walk, around_next}
use Rattle.dpl_laminar.proofs.Gathered.{gathered}

-- two tops have no common member
pub tops_apart : (s : Stored) (x y m : ℕ) → IsKept s → x < 2 * s.size → y < 2 * s.size
    → get_or s.parents x None ≡ None → get_or s.parents y None ≡ None → x ≢ y → m < s.size
    → has (get_or s.rows x []) m ≡ true → has (get_or s.rows y []) m ≡ false
tops_apart s x y m p hx hy tx ty ne hm h = elim (cases_Bool (has (get_or s.rows y []) m)) [
  | inl k ↦ absurd (ne (sym (p.family.laminar.tops.top_alone x m hx hm tx h) ∙ p.family.laminar.tops.top_alone y m hy hm ty k))
  | inr k ↦ k
]

-- a top holds a member exactly where it is the member's top
held_by_top : (s : Stored) (c m : ℕ) → IsKept s → c < 2 * s.size → get_or s.parents c None ≡ None → m < s.size
    → has (get_or s.rows c []) m ≡ eqb c (get_or s.tops m 0)
held_by_top s c m p hc tc hm = elim (cases_eq c (get_or s.tops m 0)) [
  | inl e ↦
      ap (λ z. has (get_or s.rows z []) m) e ∙ p.family.laminar.tops.top_holds m hm ∙
      sym (eq-eqb c (get_or s.tops m 0) e)
  | inr ne ↦ (elim (cases_Bool (has (get_or s.rows c []) m)) as (λ _. has (get_or s.rows c []) m ≡ false) [
    | inl k ↦ absurd (ne (sym (p.family.laminar.tops.top_alone c m hc hm tc k)))
    | inr k ↦ k
  ]) ∙ sym (ne_eqb c (get_or s.tops m 0) ne)
]

-- two tests find the same where they agree on each number of the list
any_same : (cs : List ℕ) (p q : ℕ → Bool) → ((c : ℕ) → has cs c ≡ true → p c ≡ q c) → list_any p cs ≡ list_any q cs
any_same [] p q e = refl
any_same (c ∷ cs) p q e =
    let head : p c ≡ q c = e c (has_head c c cs refl) in
    let tail : list_any p cs ≡ list_any q cs = any_same cs p q (λ d k. e d (elim (cases_eq c d) [
      | inl z ↦ has_head c d cs z
      | inr z ↦ has_tail c d cs z ∙ k
    ])) in
    ap (λ z. z || list_any p cs) head ∙ ap (λ z. q c || z) tail

-- the members of some tops are those whose tops they are
pub members_united : (s : Stored) (cs : List ℕ) (js : List (ℕ × ℕ)) (m : ℕ) → IsKept s → AreJoined (sets_of s) cs js → m < s.size
    → list_any (λ c. has (get_or s.rows c []) m) cs ≡ has cs (get_or s.tops m 0)
members_united s cs js m p j hm = any_same cs (λ c. has (get_or s.rows c []) m) (λ c. eqb c (get_or s.tops m 0))
    (λ c k. held_by_top s c m p (j.tops.below c k) (j.tops.parentless c k) hm)

-- the number that a new set gets is free
name_free : (s : Stored) (q x y : ℕ) → IsKept s → IsNameOf s.size (sets_of s).holds q x y → x < 2 * s.size
    → get_or s.parents x None ≡ None → get_or s.live (s.size + q) false ≡ false
name_free s q x y p w hx tx =
    let f : Sets = sets_of s in
    let lam = p.family.laminar in
    elim (cases_Bool (f.live (s.size + q))) [
      | inr k ↦ k
      | inl k ↦
          let v = lam.sets.named q w.below k in
          let an : v.1.0 < s.size = omega (arith, v.1.1, w.below) in
          let ta : f.top v.1.0 ≡ f.top q = lam.tops.top_shared (s.size + q) v.1.0 q
          (let z : s.size + q < 2 * s.size = omega (arith, w.below) in z) an w.below v.1.2 v.0 in
          let tx' : f.top q ≡ x = lam.tops.top_alone x q hx w.below tx w.held in
          true_false (f.holds x v.1.0) (ap (λ z. f.holds z v.1.0) (sym (ta ∙ tx')) ∙ lam.tops.top_holds v.1.0 an) (w.least v.1.0 v.1.1)
    ]

abbrev pub IsName : Stored → List ℕ → ℕ → Type 0
IsName s cs q = (IsNameOf s.size (sets_of s).holds q (get_or cs 0 0) (get_or cs 1 0)) ⊎ (IsNameOf s.size (sets_of s).holds q (get_or cs 1 0) (get_or cs 0 0))

pub shrunk_free : (s : Stored) (cs : List ℕ) (js : List (ℕ × ℕ)) (q : ℕ) → IsKept s
    → AreJoined (sets_of s) cs js → IsName s cs q → get_or s.live (s.size + q) false ≡ false
shrunk_free s cs js q p j (inl w) = let k = has_at cs 0 (omega (arith, j.tops.several)) in name_free s q _ _ p w (j.tops.below _ k) (j.tops.parentless _ k)
shrunk_free s cs js q p j (inr w) = let k = has_at cs 1 (omega (arith, j.tops.several)) in name_free s q _ _ p w (j.tops.below _ k) (j.tops.parentless _ k)

-- what the writes of a new set leave
pub record AreWritten (s : Stored) (cs : List ℕ) (js : List (ℕ × ℕ)) (r : ℕ) (row : List ℕ) (ps : List (Option ℕ))
    (rg : List ℕ) (jn : List (ℕ × ℕ)) (ts : List ℕ) : Type 0 where
  pub row_is : IsRow s.size row
  pub members : (m : ℕ) → m < s.size → has row m ≡ has cs (get_or s.tops m 0)
  pub parents_length : length ps ≡ length s.parents
  pub parents : (i : ℕ) → get_or ps i None ≡ cond (has cs i) (Some r) (get_or s.parents i None)
  pub ring_length : length rg ≡ length s.ring
  pub circle : (i : ℕ) → i < length cs → get_or rg (get_or cs i 0) 0 ≡ get_or cs ((i + 1) % length cs) 0
  pub ring_others : (c : ℕ) → has cs c ≡ false → get_or rg c 0 ≡ get_or s.ring c 0
  pub joins_length : length jn ≡ length s.joins
  pub joins : (i : ℕ) → i < length cs → get_or jn (get_or cs i 0) (0, 0) ≡ get_or js i (0, 0)
  pub joins_others : (c : ℕ) → has cs c ≡ false → get_or jn c (0, 0) ≡ get_or s.joins c (0, 0)
  pub tops_length : length ts ≡ length s.tops
  pub tops : (m : ℕ) → m < length s.tops → get_or ts m 0 ≡ cond (has cs (get_or s.tops m 0)) r (get_or s.tops m 0)

abbrev pub with_set : Stored → List ℕ → ℕ → List ℕ → List (Option ℕ) → List ℕ → List (ℕ × ℕ) → List ℕ → Stored
with_set s cs r row ps rg jn ts = record s {
  live = set s.live r true;
  rows = set s.rows r row;
  parents = ps;
  firsts =
      set s.firsts r (get_or cs 0 0);
  counts = set s.counts r (length cs);
  ring = rg;
  joins = jn;
  tops = ts;
}

-- a child of a set is none of these tops
no_top : (s : Stored) (cs : List ℕ) (js : List (ℕ × ℕ)) (d c : ℕ) → IsKept s → AreJoined (sets_of s) cs js
    → d < 2 * s.size → has ((sets_of s).children d) c ≡ true → has cs c ≡ false
no_top s cs js d c p j hd k = elim (cases_Bool (has cs c)) [
  | inl t ↦ some_none (get_or s.parents c None) d (p.family.laminar.children.child d c hd k).2 (j.tops.parentless c t)
  | inr t ↦ t
]

-- a number past the sets has no children
pub childless_past : (s : Stored) (d : ℕ) → IsKept s → 2 * s.size ≤ d → get_or s.counts d 0 ≡ 0
childless_past s d p h = get_or_past s.counts d 0 (omega (arith, p.counts_length))

children_kept : (s : Stored) (cs : List ℕ) (js : List (ℕ × ℕ)) (r : ℕ) (row : List ℕ) (ps : List (Option ℕ)) (rg : List ℕ) (jn : List (ℕ × ℕ)) (ts : List ℕ)
    → IsKept s → AreJoined (sets_of s) cs js → AreWritten s cs js r row ps rg jn ts → (i : ℕ) → i ≢ r
    → (sets_of (with_set s cs r row ps rg jn ts)).children i ≡ (sets_of s).children i
children_kept s cs js r row ps rg jn ts p j w i ne =
    let after : ℕ → ℕ = λ c. get_or rg c 0 in
    let old : ℕ → ℕ = λ c. get_or s.ring c 0 in
    let first : get_or (set s.firsts r (get_or cs 0 0)) i 0 ≡ get_or s.firsts i 0 = get_or-set_other s.firsts r i (get_or cs 0 0) 0 ne in
    let count : get_or (set s.counts r (length cs)) i 0 ≡ get_or s.counts i 0 = get_or-set_other s.counts r i (length cs) 0 ne in
    let moved : walk after (get_or s.firsts i 0) (get_or s.counts i 0) ≡ walk old (get_or s.firsts i 0) (get_or s.counts i 0) = elim (cases_lt i (2 * s.size)) [
      | inl lt ↦ sym (walk_same old after (get_or s.firsts i 0) (get_or s.counts i 0) (λ c k. sym (w.ring_others c (no_top s cs js i c p j lt k))))
      | inr past ↦ (let none : get_or s.counts i 0 ≡ 0 = childless_past s i p past in
          ap (λ z. walk after (get_or s.firsts i 0) z) none ∙ sym (ap (λ z. walk old (get_or s.firsts i 0) z) none))
    ] in
    ap (λ z. walk after z (get_or (set s.counts r (length cs)) i 0)) first ∙ ap (λ z. walk after (get_or s.firsts i 0) z) count ∙ moved

children_made : (s : Stored) (cs : List ℕ) (js : List (ℕ × ℕ)) (r : ℕ) (row : List ℕ) (ps : List (Option ℕ)) (rg : List ℕ) (jn : List (ℕ × ℕ)) (ts : List ℕ)
    → IsKept s → r < 2 * s.size → 3 ≤ length cs → AreWritten s cs js r row ps rg jn ts
    → (sets_of (with_set s cs r row ps rg jn ts)).children r ≡ cs
children_made s cs js r row ps rg jn ts p below several w =
    let after : ℕ → ℕ = λ c. get_or rg c 0 in
    let first : get_or (set s.firsts r (get_or cs 0 0)) r 0 ≡ get_or cs 0 0 = get_or-set_same s.firsts r (get_or cs 0 0) 0 (omega (arith, p.firsts_length)) in
    let count : get_or (set s.counts r (length cs)) r 0 ≡ length cs = get_or-set_same s.counts r (length cs) 0 (omega (arith, p.counts_length)) in
    ap (λ z. walk after z (get_or (set s.counts r (length cs)) r 0)) first ∙ ap (λ z. walk after (get_or cs 0 0) z) count ∙
    walk_is after cs (omega (arith, several)) (λ i h. w.circle i (omega arith) ∙ ap (λ z. get_or cs z 0) (around_next i (length cs) h))

pub shrunk : (s : Stored) (cs : List ℕ) (js : List (ℕ × ℕ)) (r : ℕ) (row : List ℕ) (ps : List (Option ℕ)) (rg : List ℕ) (jn : List (ℕ × ℕ)) (ts : List ℕ)
    → IsKept s → AreJoined (sets_of s) cs js → s.size ≤ r → r < 2 * s.size → get_or s.live r false ≡ false
    → AreWritten s cs js r row ps rg jn ts
    → IsShrunk (sets_of s) cs js r (sets_of (with_set s cs r row ps rg jn ts))
shrunk s cs js r row ps rg jn ts p j least below free w =
    let held : (m : ℕ) → m < s.size → m < length s.tops = λ m h. omega (arith, p.tops_length) in
    record {
      size = refl;
      value = λ i. refl;
      value_set = p.family.value_dead r free;
      sets = record {
        at_least = least;
        below = below;
        was_free = free;
        live_set = get_or-set_same s.live r true false (omega (arith, p.live_length));
        live_others = λ i ne. get_or-set_other s.live r i true false ne;
        holds_set = λ m h.
            ap (λ z. has z m) (get_or-set_same s.rows r row [] (omega (arith, p.rows_length))) ∙ w.members m h;
        holds_others = λ i m hi ne h. ap (λ z. has z m) (get_or-set_other s.rows r i row [] ne);
        parent_child = λ i h. w.parents i ∙ cond-true (has cs i) _ _ h;
        parent_others = λ i h. w.parents i ∙ cond-false (has cs i) _ _ h;
        children_set = children_made s cs js r row ps rg jn ts p below j.tops.several w;
        children_others = children_kept s cs js r row ps rg jn ts p j w;
        top_inside = λ m h k. w.tops m (held m h) ∙ cond-true (has cs (get_or s.tops m 0)) _ _ k;
        top_others = λ m h k. w.tops m (held m h) ∙ cond-false (has cs (get_or s.tops m 0)) _ _ k;
      };
      after_child = w.circle;
      after_others = w.ring_others;
      join_child = w.joins;
      join_others = w.joins_others;
    }

-- what holds a member is no free number
held_still : (s : Stored) (r : ℕ) (row : List ℕ) (i m : ℕ) → IsKept s → get_or s.live r false ≡ false
    → has (get_or s.rows i []) m ≡ true → has (get_or (set s.rows r row) i []) m ≡ true
held_still s r row i m p free h = elim (cases_eq i r) [
  | inl e ↦ true_false (has (get_or s.rows i []) m) h
      (ap (λ z. has (get_or s.rows z []) m) e ∙ ap (λ z. has z m) (p.row_dead r free))
  | inr ne ↦ ap (λ z. has z m) (get_or-set_other s.rows r i row [] ne) ∙ h
]

pub shrunk_kept : (s : Stored) (cs : List ℕ) (js : List (ℕ × ℕ)) (q : ℕ) (row : List ℕ)
    → (ps : List (Option ℕ)) (rg : List ℕ) (jn : List (ℕ × ℕ)) (ts : List ℕ) → IsKept s
    → AreJoined (sets_of s) cs js → q < s.size → IsName s cs q
    → AreWritten s cs js (s.size + q) row ps rg jn ts
    → IsShrunk (sets_of s) cs js (s.size + q) (sets_of (with_set s cs (s.size + q) row ps rg jn ts))
    → IsKept (with_set s cs (s.size + q) row ps rg jn ts)
shrunk_kept s cs js q row ps rg jn ts p j lt name w t =
    let r : ℕ = s.size + q in
    let new : Stored = with_set s cs r row ps rg jn ts in
    let f : Sets = sets_of s in
    let g : Sets = sets_of new in
    let free : get_or s.live r false ≡ false = shrunk_free s cs js q p j name in
    let h0 = has_at cs 0 (omega (arith, j.tops.several)) in
    let h1 = has_at cs 1 (omega (arith, j.tops.several)) in
    let still : (c d : ℕ) (pair : ℕ × ℕ) → IsTie f c d pair → IsTie g c d pair =
    λ c d pair z. record {
      from_range = z.from_range;
      from = held_still s r row c pair.0 p free z.from;
      to_range =
          z.to_range;
      to = held_still s r row d pair.1 p free z.to;
    } in
    let lam : IsLaminar s.size g = elim name [
      | inl v ↦ gathered s.size f g cs r p.family.laminar j.tops t.sets q refl _ _ h0 h1 v.held v.less.0 v.less.1 v.less.2
      | inr v ↦ gathered s.size f g cs r p.family.laminar j.tops t.sets q refl _ _ h1 h0 v.held v.less.0 v.less.1 v.less.2
    ] in
    record {
      live_length = length-set s.live r true ∙ p.live_length;
      rows_length = length-set s.rows r row ∙ p.rows_length;
      values_length = p.values_length;
      parents_length = w.parents_length ∙ p.parents_length;
      firsts_length = length-set s.firsts r (get_or cs 0 0) ∙ p.firsts_length;
      counts_length = length-set s.counts r (length cs) ∙ p.counts_length;
      ring_length = w.ring_length ∙ p.ring_length;
      joins_length = w.joins_length ∙ p.joins_length;
      tops_length = w.tops_length ∙ p.tops_length;
      row_dead = λ i dead. elim (cases_eq i r) [
        | inl e ↦ true_false (g.live i) (ap g.live e ∙ t.sets.live_set) dead
        | inr ne ↦ get_or-set_other s.rows r i row [] ne ∙ p.row_dead i (sym (t.sets.live_others i ne) ∙ dead)
      ];
      rows_are = λ i. elim (cases_eq i r) [
        | inl e ↦
            let written : get_or (set s.rows r row) i [] ≡ row =
            ap (λ z. get_or (set s.rows r row) z []) e ∙ get_or-set_same s.rows r row [] (omega (arith, p.rows_length)) in
            subst (IsRow s.size) (sym written) w.row_is
        | inr ne ↦ subst (IsRow s.size) (sym (get_or-set_other s.rows r i row [] ne)) (p.rows_are i)
      ];
      family = record {
        small = p.family.small;
        laminar = lam;
        around = λ d i hi. elim (cases_eq d r) [
          | inl e ↦
              let kids : g.children d ≡ cs = ap g.children e ∙ t.sets.children_set in
              subst (λ z. (i < length z → g.after (get_or z i 0) ≡ get_or z ((i + 1) % length z) 0)) (sym kids) (t.after_child i) hi
          | inr ne ↦
              let kids : g.children d ≡ f.children d = t.sets.children_others d ne in
              let hi' : i < length (f.children d) = omega (arith, hi, ap length kids) in
              let hd : d < 2 * s.size = elim (cases_lt d (2 * s.size)) [
                | inl z ↦ z
                | inr past ↦ absurd (omega (arith, hi', length_walk f.after (get_or s.firsts d 0) (get_or s.counts d 0), childless_past s d p past))
              ] in
              let same : g.after (get_or (f.children d) i 0) ≡ f.after (get_or (f.children d) i 0) =
              t.after_others _ (no_top s cs js d _ p j hd (has_at (f.children d) i hi')) in
              ap (λ z. g.after (get_or z i 0)) kids ∙ same ∙ p.family.around d i hi' ∙ sym (ap (λ z. get_or z ((i + 1) % length z) 0) kids)
        ];
        alone = λ i hi none. elim (cases_Bool (has cs i)) [
          | inl k ↦ some_none (g.parent i) r (t.sets.parent_child i k) none
          | inr k ↦ t.after_others i k ∙ p.family.alone i hi (sym (t.sets.parent_others i k) ∙ none)
        ];
        tied = λ c d e. elim (cases_Bool (has cs c)) [
          | inl k ↦
              let v = place_in cs c k in
              let next : g.after c ≡ get_or cs ((v.0 + 1) % length cs) 0 = ap g.after (sym v.2) ∙ t.after_child v.0 v.1 in
              let pair : g.join c ≡ get_or js v.0 (0, 0) = ap g.join (sym v.2) ∙ t.join_child v.0 v.1 in
              let tie : IsTie g (get_or cs v.0 0) (get_or cs ((v.0 + 1) % length cs) 0) (get_or js v.0 (0, 0)) = still _ _ _ (j.tied v.0 v.1) in
              subst (λ z. IsTie g z (g.after c) (g.join c)) v.2
              (subst (λ z. IsTie g (get_or cs v.0 0) z (g.join c)) (sym next)
              (subst (λ z. IsTie g (get_or cs v.0 0) (get_or cs ((v.0 + 1) % length cs) 0) z) (sym pair) tie))
          | inr k ↦
              let tie : IsTie g c (f.after c) (f.join c) = still _ _ _ (p.family.tied c d (sym (t.sets.parent_others c k) ∙ e)) in
              subst (λ z. IsTie g c z (g.join c)) (sym (t.after_others c k)) (subst (λ z. IsTie g c (f.after c) z) (sym (t.join_others c k)) tie)
        ];
        value_small = p.family.value_small;
        value_dead = λ i dead. elim (cases_eq i r) [
          | inl e ↦ true_false (g.live i) (ap g.live e ∙ t.sets.live_set) dead
          | inr ne ↦ p.family.value_dead i (sym (t.sets.live_others i ne) ∙ dead)
        ];
      };
    }

-- ---- the lists as the code leaves them

pub row_fits : (s : Stored) (cs : List ℕ) (js : List (ℕ × ℕ)) (i : ℕ) → AreJoined (sets_of s) cs js → i < length cs → get_or cs i 0 < 2 * s.size
row_fits s cs js i j h = j.tops.below _ (has_at cs i h)

pub shrink_answer : (s : Stored) (cs : List ℕ) (js : List (ℕ × ℕ)) (q : ℕ) (row : List ℕ)
    → (ps ps' : List (Option ℕ)) (rg : List ℕ) (jn jn' : List (ℕ × ℕ)) (ts ts' : List ℕ) → IsKept s
    → AreJoined (sets_of s) cs js → q < s.size → IsName s cs q
    → AreWritten s cs js (s.size + q) row ps rg jn ts → ps' ≡ ps → jn' ≡ jn → ts' ≡ ts
    → IsKept (with_set s cs (s.size + q) row ps' rg jn' ts') × IsShrunk (sets_of s) cs js (s.size + q) (sets_of (with_set s cs (s.size + q) row ps' rg jn' ts'))
shrink_answer s cs js q row ps ps' rg jn jn' ts ts' p j lt name w ep ej et =
    let r : ℕ = s.size + q in
    let P : List (Option ℕ) → List (ℕ × ℕ) → List ℕ → Type 0 = λ a b c. IsKept (with_set s cs r row a rg b c) ×
    IsShrunk (sets_of s) cs js r (sets_of (with_set s cs r row a rg b c)) in
    let t = shrunk s cs js r row ps rg jn ts p j (let z : s.size ≤ r = omega arith in z)
    (let z : r < 2 * s.size = omega arith in z) (shrunk_free s cs js q p j name) w in
    let both : P ps jn ts = (shrunk_kept s cs js q row ps rg jn ts p j lt name w t, t) in
    subst (λ z. P ps' jn' z) (sym et) (subst (λ z. P ps' z ts) (sym ej) (subst (λ z. P z jn ts) (sym ep) both))
