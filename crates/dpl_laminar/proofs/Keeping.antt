-- The lists of a family after each of its calls.
use Rattle.std.proofs.Common.{arith, ◌≡◌, ◌≢◌, ℕ, ◌*◌, ◌<◌, ◌≤◌, ◌^◌, refl, sym, ap, ◌∙◌, subst, true, false, inl, inr}
use Rattle.std.proofs.Common.{ltb, List, Bool, Option, [], ◌∷◌, length, get_or, set, length-set, get_or-set_same, get_or-set_other, None}
use Rattle.std.specs.Prelude.{replicate}
use Rattle.std.proofs.lemmas.Bool.{cases_eq, cases_lt, ne_eqb, lt-ltb}
use Rattle.std.proofs.lemmas.List.{get_or_past, get_or_read, length-replicate}
use Rattle.dpl_laminar.specs.declared.TheConstants.{MOST_MEMBERS}
use Rattle.dpl_laminar.specs.Families.{Sets, IsLaminar, IsTie, has}
use Rattle.dpl_laminar.specs.Changes.{IsSingles, IsNext}
use Rattle.dpl_laminar.specs.Storing.{Stored, sets_of, walk, IsKept, IsRow}
use Rattle.dpl_laminar.proofs.Numbers.{true_false, cases_Option}
use Rattle.dpl_laminar.proofs.Rows.{has_single, single_row, none_row}
use Rattle.dpl_laminar.proofs.Singles.{singles_family}
use Rattle.dpl_list.proofs.Lists.{repeated}

-- lists that keep sets
abbrev pub stored : (size : ℕ) (live : List Bool) (rows : List (List ℕ)) (values : List ℕ)
    → (parents : List (Option ℕ)) (firsts counts ring : List ℕ) (joins : List (ℕ × ℕ)) → (tops : List ℕ)
    → Stored
stored size live rows values parents firsts counts ring joins tops = record {
  size = size;
  live = live;
  rows = rows;
  values = values;
  parents = parents;
  firsts = firsts;
  counts = counts;
  ring = ring;
  joins = joins;
  tops = tops;
}

-- a live set stands at a place of the lists
pub live_below : (s : Stored) (i : ℕ) → IsKept s → get_or s.live i false ≡ true → i < 2 * s.size
live_below s i p h = elim (cases_lt i (length s.live)) [
  | inl lt ↦ omega (arith, lt, p.live_length)
  | inr past ↦ true_false (get_or s.live i false) h (get_or_past s.live i false past)
]

-- what was read at a live set is one of its children
pub first_read : (s : Stored) (i x : ℕ) → IsKept s → get_or s.live i false ≡ true → x ≡ get_or s.firsts i x → x ≡ get_or s.firsts i 0
first_read s i x p h e = get_or_read s.firsts i x (omega (arith, live_below s i p h, p.firsts_length)) e 0

-- and how many it has
pub count_read : (s : Stored) (i x : ℕ) → IsKept s → get_or s.live i false ≡ true → x ≡ get_or s.counts i x → x ≡ get_or s.counts i 0
count_read s i x p h e = get_or_read s.counts i x (omega (arith, live_below s i p h, p.counts_length)) e 0

-- ---- single members

-- what the lists of single members are
pub record AreStart (s : Stored) : Type 0 where
  pub live_length : length s.live ≡ 2 * s.size
  pub live : (k : ℕ) → k < 2 * s.size → get_or s.live k false ≡ ltb k s.size
  pub rows_length : length s.rows ≡ 2 * s.size
  pub row_single : (i : ℕ) → i < s.size → get_or s.rows i [] ≡ i ∷ []
  pub row_none : (i : ℕ) → s.size ≤ i → get_or s.rows i [] ≡ []
  pub values : s.values ≡ replicate (2 * s.size) 0
  pub parents : s.parents ≡ replicate (2 * s.size) None
  pub firsts : s.firsts ≡ replicate (2 * s.size) 0
  pub counts : s.counts ≡ replicate (2 * s.size) 0
  pub ring_length : length s.ring ≡ 2 * s.size
  pub ring : (k : ℕ) → k < length s.ring → get_or s.ring k 0 ≡ k
  pub joins : s.joins ≡ replicate (2 * s.size) (0, 0)
  pub tops_length : length s.tops ≡ s.size
  pub tops : (m : ℕ) → m < s.size → get_or s.tops m 0 ≡ m

pub start_singles : (s : Stored) → AreStart s → IsSingles s.size (sets_of s)
start_singles s p = record {
  size = refl;
  live = p.live;
  holds = λ i m hi hm. elim (cases_lt i s.size) [
    | inl lt ↦ ap (λ z. has z m) (p.row_single i lt) ∙ has_single i m
    | inr le ↦ ap (λ z. has z m) (p.row_none i le) ∙ sym (ne_eqb i m (λ e. omega arith))
  ];
  value = λ i. ap (λ z. get_or z i 0) p.values ∙ repeated (2 * s.size) i 0;
  parent = λ i. ap (λ z. get_or z i None) p.parents ∙ repeated (2 * s.size) i None;
  children = λ i. ap (λ z. walk (λ c. get_or s.ring c 0) (get_or s.firsts i 0) z) (ap (λ z. get_or z i 0) p.counts ∙ repeated (2 * s.size) i 0);
  after = λ i h. p.ring i (omega (arith, p.ring_length));
  top = p.tops;
}

pub start_kept : (s : Stored) → AreStart s → s.size ≤ MOST_MEMBERS → IsKept s
start_kept s p small = record {
  live_length = p.live_length;
  rows_length = p.rows_length;
  values_length = ap length p.values ∙ length-replicate _ _;
  parents_length = ap length p.parents ∙ length-replicate _ _;
  firsts_length = ap length p.firsts ∙ length-replicate _ _;
  counts_length = ap length p.counts ∙ length-replicate _ _;
  ring_length = p.ring_length;
  joins_length = ap length p.joins ∙ length-replicate _ _;
  tops_length = p.tops_length;
  row_dead = λ i dead. elim (cases_lt i s.size) [
    | inl lt ↦ true_false (get_or s.live i false) (p.live i (omega arith) ∙ lt-ltb i s.size lt) dead
    | inr le ↦ p.row_none i le
  ];
  rows_are = λ i. elim (cases_lt i s.size) [
    | inl lt ↦ subst (IsRow s.size) (sym (p.row_single i lt)) (single_row s.size i lt)
    | inr le ↦ subst (IsRow s.size) (sym (p.row_none i le)) (none_row s.size)
  ];
  family = singles_family (sets_of s) (start_singles s p) small;
}

-- ---- a value is changed

-- values are not part of how sets nest
laminar_revalued : (n : ℕ) (f : Sets) (v : ℕ → ℕ) → IsLaminar n f → IsLaminar n (record f { value = v })
laminar_revalued n f v p = record {
  sets = record {
    single_live = p.sets.single_live;
    single = p.sets.single;
    dead = p.sets.dead;
    odd = p.sets.odd;
    nested = p.sets.nested;
    named = p.sets.named;
  };
  tops = record {
    top_range = p.tops.top_range;
    top_live = p.tops.top_live;
    top_holds = p.tops.top_holds;
    top_parent = p.tops.top_parent;
    top_alone = p.tops.top_alone;
    top_shared = p.tops.top_shared;
  };
  children = record {
    dead_parent = p.children.dead_parent;
    parent_range = p.children.parent_range;
    child = p.children.child;
    child_holds = p.children.child_holds;
    covered = p.children.covered;
    apart = p.children.apart;
    distinct = p.children.distinct;
    between = p.children.between;
    childless = p.children.childless;
    children_odd = p.children.children_odd;
    children_dead = p.children.children_dead;
  };
}

pub raised_kept : (s : Stored) (i v : ℕ) → IsKept s → get_or s.live i false ≡ true → v ≤ 2 ^ 50 → IsKept (record s { values = set s.values i v })
raised_kept s i v p live small =
    let here : i < length s.values = omega (arith, live_below s i p live, p.values_length) in
    let f = p.family in
    record {
      live_length = p.live_length;
      rows_length = p.rows_length;
      values_length = length-set s.values i v ∙ p.values_length;
      parents_length = p.parents_length;
      firsts_length = p.firsts_length;
      counts_length = p.counts_length;
      ring_length = p.ring_length;
      joins_length = p.joins_length;
      tops_length = p.tops_length;
      row_dead = p.row_dead;
      rows_are = p.rows_are;
      family = record {
        small = f.small;
        laminar = laminar_revalued s.size (sets_of s) (λ j. get_or (set s.values i v) j 0) f.laminar;
        around = f.around;
        alone = f.alone;
        tied = λ c q e. let t = f.tied c q e in record { from_range = t.from_range; from = t.from; to_range = t.to_range; to = t.to };
        value_small = λ j. elim (cases_eq j i) [
          | inl e ↦ omega (arith, ap (λ z. get_or (set s.values i v) z 0) e, get_or-set_same s.values i v 0 here)
          | inr ne ↦ omega (arith, get_or-set_other s.values i j v 0 ne, f.value_small j)
        ];
        value_dead = λ j dead. elim (cases_eq j i) [
          | inl e ↦ true_false (get_or s.live i false) live (ap (λ z. get_or s.live z false) (sym e) ∙ dead)
          | inr ne ↦ get_or-set_other s.values i j v 0 ne ∙ f.value_dead j dead
        ];
      };
    }

-- ---- the next child around

-- a child stands at a place of the lists
pub child_below : (s : Stored) (i : ℕ) → IsKept s → get_or s.parents i None ≢ None → i < 2 * s.size
child_below s i p inner = elim (cases_lt i (length s.parents)) [
  | inl lt ↦ omega (arith, lt, p.parents_length)
  | inr past ↦ absurd (inner (get_or_past s.parents i None past))
]

pub next_is : (s : Stored) (child next : ℕ) (pair : ℕ × ℕ) → IsKept s → get_or s.parents child None ≢ None
    → next ≡ get_or s.ring child 0 → pair ≡ get_or s.joins child (0, 0) → IsNext (sets_of s) child next pair
next_is s child next pair p inner en ep = record {
  next = λ d i e hi k. en ∙ ap (λ z. get_or s.ring z 0) (sym k) ∙ p.family.around d i hi;
  join = ep;
  tie = elim (cases_Option (get_or s.parents child None)) [
    | inl none ↦ absurd (inner none)
    | inr some ↦
        let f : Sets = sets_of s in
        subst (λ z. IsTie f child z pair) (sym en) (subst (λ z. IsTie f child (f.after child) z) (sym ep) (p.family.tied child some.0 some.1))
  ];
}
