-- The lists of a family after a top is taken away.
use Rattle.std.proofs.Common.{arith, ◌≡◌, ◌≢◌, ℕ, ◌+◌, ◌-◌, ◌*◌, ◌%◌, ◌<◌, ◌≤◌, refl, sym, ap, ◌∙◌, subst, true, false}
use Rattle.std.proofs.Common.{cond, inl, inr, List, [], length, get_or, set, length-set, get_or-set_same}
use Rattle.std.proofs.Common.{get_or-set_other, Option, Some, None}
use Rattle.std.proofs.lemmas.Bool.{cases_eq, cases_lt, cases_Bool, cond-true, cond-false}
use Rattle.std.proofs.lemmas.List.{get_or_past}
use Rattle.std.proofs.lemmas.Option.{same_Some}
use Rattle.dpl_laminar.specs.Families.{Sets, IsTie, has}
use Rattle.dpl_laminar.specs.Changes.{IsExpanded}
use Rattle.dpl_laminar.specs.Storing.{Stored, sets_of, walk, IsKept, IsCircle, IsRow}
use Rattle.dpl_laminar.proofs.Numbers.{has_at, place_in, true_false, some_none}
use Rattle.dpl_laminar.proofs.Walks.{walk_same, length_walk}
use Rattle.dpl_laminar.proofs.Lifting.{AreLifted}
use Rattle.dpl_laminar.proofs.Released.{released}
use Rattle.dpl_laminar.proofs.Rows.{none_row}
use Rattle.dpl_laminar.proofs.Keeping.{live_below}
use Rattle.dpl_laminar.proofs.Shrinking.{childless_past}

-- a set with children is no number past the sets
parent_below : (s : Stored) (d c : ℕ) → IsKept s → has ((sets_of s).children d) c ≡ true → d < 2 * s.size
parent_below s d c p k = elim (cases_lt d (2 * s.size)) [
  | inl z ↦ z
  | inr past ↦
      let f : Sets = sets_of s in
      let none : f.children d ≡ [] = ap (λ z. walk f.after (get_or s.firsts d 0) z) (childless_past s d p past) in
      true_false (has (f.children d) c) k (ap (λ z. has z c) none)
]

-- the children of a top that is no single
pub kids_below : (s : Stored) (r c : ℕ) → IsKept s → has ((sets_of s).children r) c ≡ true → c < 2 * s.size
kids_below s r c p k = (p.family.laminar.children.child r c (parent_below s r c p k) k).0

pub kids_some : (s : Stored) (r : ℕ) → IsKept s → s.size ≤ r → get_or s.live r false ≡ true → 3 ≤ get_or s.counts r 0
kids_some s r p least live =
    let f : Sets = sets_of s in
    let i = r - s.size in
    let e : s.size + i ≡ r = omega arith in
    let below : r < 2 * s.size = live_below s r p live in
    let w = p.family.laminar.children.children_odd i (omega arith) (ap f.live e ∙ live) in
    omega (arith, w.1, ap (λ z. length (f.children z)) e, length_walk f.after (get_or s.firsts r 0) (get_or s.counts r 0))

pub kids_circle : (s : Stored) (r : ℕ) → IsKept s → get_or s.live r false ≡ true → IsCircle s.ring (get_or s.firsts r 0) (get_or s.counts r 0)
kids_circle s r p live =
    let f : Sets = sets_of s in
    let cs = f.children r in
    let l : length cs ≡ get_or s.counts r 0 = length_walk f.after (get_or s.firsts r 0) (get_or s.counts r 0) in
    record {
      below = λ i h. omega (arith, kids_below s r (get_or cs i 0) p (has_at cs i (omega arith)), p.ring_length);
      distinct = λ i j ij hj. p.family.laminar.children.distinct r i j (live_below s r p live) ij (omega arith);
      around = λ i h. p.family.around r i (omega arith) ∙ ap (λ z. get_or cs ((i + 1) % z) 0) l;
    }

-- what the writes leave
pub record AreCleared (s : Stored) (r : ℕ) (ps : List (Option ℕ)) (rg : List ℕ) (ts : List ℕ) : Type 0 where
  pub parents_length : length ps ≡ length s.parents
  pub parents : (i : ℕ) → get_or ps i None ≡ cond (has ((sets_of s).children r) i) None (get_or s.parents i None)
  pub ring_length : length rg ≡ length s.ring
  pub alone : (c : ℕ) → has ((sets_of s).children r) c ≡ true → get_or rg c 0 ≡ c
  pub ring_others : (c : ℕ) → has ((sets_of s).children r) c ≡ false → get_or rg c 0 ≡ get_or s.ring c 0
  pub tops_length : length ts ≡ length s.tops
  pub tops : AreLifted (length s.tops) (sets_of s).holds ((sets_of s).children r) s.tops ts

abbrev pub without_set : Stored → ℕ → List (Option ℕ) → List ℕ → List ℕ → Stored
without_set s r ps rg ts = record s { live = set s.live r false; rows = set s.rows r []; parents = ps; counts = set s.counts r 0; ring = rg; tops = ts }

-- a child of another set is no child of this one
not_kid : (s : Stored) (r d c : ℕ) → IsKept s → r < 2 * s.size → d < 2 * s.size → d ≢ r
    → has ((sets_of s).children d) c ≡ true → has ((sets_of s).children r) c ≡ false
not_kid s r d c p hr hd ne k = elim (cases_Bool (has ((sets_of s).children r) c)) [
  | inl t ↦ absurd (ne (same_Some _ _ (sym (p.family.laminar.children.child d c hd k).2 ∙ (p.family.laminar.children.child r c hr t).2)))
  | inr t ↦ t
]

children_left : (s : Stored) (r : ℕ) (ps : List (Option ℕ)) (rg : List ℕ) (ts : List ℕ) → IsKept s
    → r < 2 * s.size → AreCleared s r ps rg ts → (i : ℕ) → i ≢ r
    → (sets_of (without_set s r ps rg ts)).children i ≡ (sets_of s).children i
children_left s r ps rg ts p hr w i ne =
    let after : ℕ → ℕ = λ c. get_or rg c 0 in
    let old : ℕ → ℕ = λ c. get_or s.ring c 0 in
    let first = get_or s.firsts i 0 in
    let count : get_or (set s.counts r 0) i 0 ≡ get_or s.counts i 0 = get_or-set_other s.counts r i 0 0 ne in
    let moved : walk after first (get_or s.counts i 0) ≡ walk old first (get_or s.counts i 0) = elim (cases_lt i (2 * s.size)) [
      | inl lt ↦ sym (walk_same old after first (get_or s.counts i 0) (λ c k. sym (w.ring_others c (not_kid s r i c p hr lt ne k))))
      | inr past ↦ (let none : get_or s.counts i 0 ≡ 0 = childless_past s i p past in ap (λ z. walk after first z) none ∙ sym (ap (λ z. walk old first z) none))
    ] in
    ap (λ z. walk after first z) count ∙ moved

pub expanded : (s : Stored) (r : ℕ) (ps : List (Option ℕ)) (rg : List ℕ) (ts : List ℕ) → IsKept s → s.size ≤ r
    → get_or s.live r false ≡ true → get_or s.parents r None ≡ None → AreCleared s r ps rg ts
    → IsExpanded (sets_of s) r (sets_of (without_set s r ps rg ts))
expanded s r ps rg ts p least live top w =
    let f : Sets = sets_of s in
    let below : r < 2 * s.size = live_below s r p live in
    let lam = p.family.laminar in
    let here : (m : ℕ) → m < s.size → m < length s.tops = λ m h. omega (arith, p.tops_length) in
    record {
      size = refl;
      value = λ i. refl;
      sets = record {
        live_set = get_or-set_same s.live r false false (omega (arith, p.live_length));
        live_others = λ i ne. get_or-set_other s.live r i false false ne;
        holds_set = λ m h. ap (λ z. has z m) (get_or-set_same s.rows r [] [] (omega (arith, p.rows_length)));
        holds_others = λ i m hi ne h. ap (λ z. has z m) (get_or-set_other s.rows r i [] [] ne);
        parent_child = λ i h. w.parents i ∙ cond-true (has (f.children r) i) _ _ h;
        parent_others = λ i h. w.parents i ∙ cond-false (has (f.children r) i) _ _ h;
        children_set = ap (λ z. walk (λ c. get_or rg c 0) (get_or s.firsts r 0) z) (get_or-set_same s.counts r 0 0 (omega (arith, p.counts_length)));
        children_others = children_left s r ps rg ts p below w;
        top_inside = λ c m h k l. w.tops.inside c m (here m h) k l;
        top_others = λ m h ne. w.tops.outside m (here m h) (λ c k. elim (cases_Bool (f.holds c m)) [
          | inl t ↦ absurd (ne (lam.tops.top_alone r m below h top (lam.children.child_holds r c m below h k t)))
          | inr t ↦ t
        ]);
      };
      after_child = w.alone;
      after_others = w.ring_others;
      join = λ c. refl;
    }

-- the next child around has the same parent
after_parent : (s : Stored) (c d : ℕ) → IsKept s → get_or s.parents c None ≡ Some d → get_or s.parents (get_or s.ring c 0) None ≡ Some d
after_parent s c d p e =
    let f : Sets = sets_of s in
    let hc : c < 2 * s.size = elim (cases_lt c (2 * s.size)) [
      | inl z ↦ z
      | inr past ↦ some_none (get_or s.parents c None) d e (get_or_past s.parents c None (omega (arith, p.parents_length)))
    ] in
    let live : f.live c ≡ true = elim (cases_Bool (f.live c)) [
      | inl z ↦ z
      | inr dead ↦ some_none (f.parent c) d e (p.family.laminar.children.dead_parent c hc dead)
    ] in
    let up = p.family.laminar.children.parent_range c d hc live e in
    let v = place_in (f.children d) c up.3 in
    let next : f.after c ≡ get_or (f.children d) ((v.0 + 1) % length (f.children d)) 0 = ap f.after (sym v.2) ∙ p.family.around d v.0 v.1 in
    ap f.parent next ∙ (p.family.laminar.children.child d _ up.1 (has_at (f.children d) ((v.0 + 1) % length (f.children d)) (omega (arith, v.1)))).2

pub expanded_kept : (s : Stored) (r : ℕ) (ps : List (Option ℕ)) (rg : List ℕ) (ts : List ℕ) → IsKept s
    → s.size ≤ r → get_or s.live r false ≡ true → get_or s.parents r None ≡ None → get_or s.values r 0 ≡ 0
    → AreCleared s r ps rg ts → IsExpanded (sets_of s) r (sets_of (without_set s r ps rg ts))
    → IsKept (without_set s r ps rg ts)
expanded_kept s r ps rg ts p least live top none w t =
    let f : Sets = sets_of s in
    let g : Sets = sets_of (without_set s r ps rg ts) in
    let below : r < 2 * s.size = live_below s r p live in
    let still : (i m : ℕ) → i ≢ r → f.holds i m ≡ true → g.holds i m ≡ true =
    λ i m ne h. ap (λ z. has z m) (get_or-set_other s.rows r i [] [] ne) ∙ h in
    let inner : (c d : ℕ) → f.parent c ≡ Some d → c ≢ r = λ c d e z. some_none (f.parent c) d e (ap f.parent z ∙ top) in
    record {
      live_length = length-set s.live r false ∙ p.live_length;
      rows_length = length-set s.rows r [] ∙ p.rows_length;
      values_length = p.values_length;
      parents_length = w.parents_length ∙ p.parents_length;
      firsts_length = p.firsts_length;
      counts_length = length-set s.counts r 0 ∙ p.counts_length;
      ring_length = w.ring_length ∙ p.ring_length;
      joins_length = p.joins_length;
      tops_length = w.tops_length ∙ p.tops_length;
      row_dead = λ i dead. elim (cases_eq i r) [
        | inl e ↦ ap (λ z. get_or (set s.rows r []) z []) e ∙ get_or-set_same s.rows r [] [] (omega (arith, p.rows_length))
        | inr ne ↦ get_or-set_other s.rows r i [] [] ne ∙ p.row_dead i (sym (t.sets.live_others i ne) ∙ dead)
      ];
      rows_are = λ i. elim (cases_eq i r) [
        | inl e ↦
            let written : get_or (set s.rows r []) i [] ≡ [] =
            ap (λ z. get_or (set s.rows r []) z []) e ∙ get_or-set_same s.rows r [] [] (omega (arith, p.rows_length)) in
            subst (IsRow s.size) (sym written) (none_row s.size)
        | inr ne ↦ subst (IsRow s.size) (sym (get_or-set_other s.rows r i [] [] ne)) (p.rows_are i)
      ];
      family = record {
        small = p.family.small;
        laminar = released s.size f g r p.family.laminar least below live top t.sets;
        around = λ d i hi. elim (cases_eq d r) [
          | inl e ↦ absurd (omega (arith, hi, ap length (ap g.children e ∙ t.sets.children_set)))
          | inr ne ↦
              let kids : g.children d ≡ f.children d = t.sets.children_others d ne in
              let hi' : i < length (f.children d) = omega (arith, hi, ap length kids) in
              let k = has_at (f.children d) i hi' in
              let same : g.after (get_or (f.children d) i 0) ≡ f.after (get_or (f.children d) i 0) =
              t.after_others _ (not_kid s r d _ p below (parent_below s d _ p k) ne k) in
              ap (λ z. g.after (get_or z i 0)) kids ∙ same ∙ p.family.around d i hi' ∙ sym (ap (λ z. get_or z ((i + 1) % length z) 0) kids)
        ];
        alone = λ i hi e. elim (cases_Bool (has (f.children r) i)) [
          | inl k ↦ t.after_child i k
          | inr k ↦ t.after_others i k ∙ p.family.alone i hi (sym (t.sets.parent_others i k) ∙ e)
        ];
        tied = λ c d e. elim (cases_Bool (has (f.children r) c)) [
          | inl k ↦ some_none (g.parent c) d e (t.sets.parent_child c k)
          | inr k ↦
              let up : f.parent c ≡ Some d = sym (t.sets.parent_others c k) ∙ e in
              let z = p.family.tied c d up in
              let tie : IsTie g c (f.after c) (f.join c) =
              record {
                from_range = z.from_range;
                from = still c _ (inner c d up) z.from;
                to_range = z.to_range;
                to = still (f.after c) _ (inner (f.after c) d (after_parent s c d p up)) z.to;
              } in
              subst (λ z. IsTie g c z (f.join c)) (sym (t.after_others c k)) tie
        ];
        value_small = p.family.value_small;
        value_dead = λ i dead. elim (cases_eq i r) [
          | inl e ↦ ap f.value e ∙ none
          | inr ne ↦ p.family.value_dead i (sym (t.sets.live_others i ne) ∙ dead)
        ];
      };
    }

-- ---- the lists as the code leaves them

pub expand_answer : (s : Stored) (r : ℕ) (ps ps' : List (Option ℕ)) (rg : List ℕ) (ts ts' : List ℕ) → IsKept s
    → s.size ≤ r → get_or s.live r false ≡ true → get_or s.parents r None ≡ None → get_or s.values r 0 ≡ 0
    → AreCleared s r ps rg ts → ps' ≡ ps → ts' ≡ ts
    → IsKept (without_set s r ps' rg ts') × IsExpanded (sets_of s) r (sets_of (without_set s r ps' rg ts'))
expand_answer s r ps ps' rg ts ts' p least live top none w ep et =
    let P : List (Option ℕ) → List ℕ → Type 0 = λ a b. IsKept (without_set s r a rg b) × IsExpanded (sets_of s) r (sets_of (without_set s r a rg b)) in
    let t = expanded s r ps rg ts p least live top w in
    let both : P ps ts = (expanded_kept s r ps rg ts p least live top none w t, t) in
    subst (λ z. P ps' z) (sym et) (subst (λ z. P z ts) (sym ep) both)
