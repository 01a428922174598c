-- What a walk keeps true, while nodes are opened.
use Rattle.std.proofs.Common.{◌≡◌, ◌≢◌, ◌⊎◌, inl, inr, ℕ, ◌+◌, ◌-◌, ◌<◌, ◌≤◌, length, refl, sym, ◌∙◌, ap, subst, arith, get_or}
use Rattle.std.proofs.lemmas.Bool.{cases_eq}
use Rattle.std.proofs.Math.Nat.{eq-or-lt_of_le}
use Rattle.dpl_groups.specs.Graph.{Graph, next_of, Reaches}
use Rattle.dpl_groups.specs.declared.walk.Mark.{Mark}
use Rattle.dpl_groups.specs.declared.walk.Mark.TheVariants.{New, Open, Done}
use Rattle.dpl_groups.specs.Walk.{View, NoStart, IsDone, IsSettled, IsOnStack, IsWalk, Comes, opened}
use Rattle.dpl_groups.proofs.Reach.{reaches_trans, reaches_edge, reaches_self, cases_le, set_same, set_other}

pub open_inj : (i j : ℕ) → Open i ≡ Open j → i ≡ j
open_inj i j e = cc

pub done_inj : (i j : ℕ) → Done i ≡ Done j → i ≡ j
done_inj i j e = cc

pub open_new : (i : ℕ) → Open i ≡ New → ⊥
open_new i e = cc

pub done_new : (i : ℕ) → Done i ≡ New → ⊥
done_new i e = cc

pub open_done : (i j : ℕ) → Open i ≡ Done j → ⊥
open_done i j e = cc

module _ (g : Graph) (v : View) (I : IsWalk g v) where
  abbrev pub top : ℕ
  top = v.stack (v.height - 1)

  pub stack_low : (t : ℕ) → t < v.height → v.stack t ≤ top
  stack_low t h =
      let le : t ≤ v.height - 1 = omega arith in
      elim (eq-or-lt_of_le le) [
        | inl e ↦ let s : v.stack t ≡ top = ap v.stack e in omega arith
        | inr l ↦ let s : v.stack t < top = I.climbing t (v.height - 1) l (omega arith) in omega arith
      ]

  pub start_low : (t : ℕ) → t < v.tops → v.start t ≤ top
  start_low t h = let b : IsOnStack v (v.start t) = I.begun t h in subst (λ (n : ℕ). n ≤ top) b.there (stack_low b.t b.within)

  pub start_deep : (t : ℕ) → t < v.tops → v.start t < v.depth
  start_deep t h = let b : IsOnStack v (v.start t) = I.begun t h in subst (λ (n : ℕ). n < v.depth) b.there (I.placed b.t b.within)

  -- what is on the path leads to the top of the stack
  pub to_top : 0 < v.height → (k : ℕ) → k < v.depth → Reaches g (v.path k) (v.path top)
  to_top s k h = elim (cases_le k top) [
    | inl le ↦ I.upward k top le (I.placed (v.height - 1) (omega arith))
    | inr lt ↦ I.back top k (omega arith) h (λ t ht lo hi. let b : v.start t ≤ top = start_low t ht in omega arith)
  ]

  pub path_empty : v.height ≡ 0 → v.depth ≡ 0
  path_empty e = elim (cases_le v.depth 0) [
    | inl le ↦ omega arith
    | inr lt ↦ let b : IsOnStack v (v.start 0) = I.begun 0 (I.first 0 lt) in let w : b.t < v.height = b.within in absurd (omega arith)
  ]

  pub starts_empty : v.height ≡ 0 → v.tops ≡ 0
  starts_empty e = elim (cases_le v.tops 0) [
    | inl le ↦ omega arith
    | inr lt ↦ let b : IsOnStack v (v.start 0) = I.begun 0 lt in let w : b.t < v.height = b.within in absurd (omega arith)
  ]

  module _ (y : ℕ) (hy : y < length g) (new : v.mark y ≡ New) (from : Comes g v y) where
    abbrev w : View
    w = opened v y

    come : (k : ℕ) → k < v.depth → Reaches g (v.path k) y
    come k h = elim from [
      | inl e ↦ let d : v.depth ≡ 0 = path_empty e in absurd (omega arith)
      | inr e ↦ reaches_trans g (v.path k) (v.path top) y (to_top e.some k h) (reaches_edge g (v.path top) y e.edge)
    ]

    mark_new : (x : ℕ) → x ≡ y → w.mark x ≡ Open v.depth
    mark_new x e = set_same v.mark y x (Open v.depth) e

    mark_old : (x : ℕ) → x ≢ y → w.mark x ≡ v.mark x
    mark_old x e = set_other v.mark y x (Open v.depth) e

    -- what is not new stays as it is
    keep : (x : ℕ) (m : Mark) → v.mark x ≡ m → (m ≡ New → ⊥) → w.mark x ≡ m
    keep x m e h = mark_old x (λ s. h (sym e ∙ (ap v.mark s ∙ new))) ∙ e

    -- what is so now is y, or was so before
    was : (x : ℕ) (m : Mark) → w.mark x ≡ m → ((x ≡ y) × (Open v.depth ≡ m)) ⊎ (v.mark x ≡ m)
    was x m e = elim (cases_eq x y) [ inl s ↦ inl (s, sym (mark_new x s) ∙ e) | inr s ↦ inr (sym (mark_old x s) ∙ e) ]

    was_done : (x l : ℕ) → w.mark x ≡ Done l → v.mark x ≡ Done l
    was_done x l e = elim (was x (Done l) e) [ inl s ↦ absurd (open_done v.depth l s.1) | inr s ↦ s ]

    path_new : (i : ℕ) → i ≡ v.depth → w.path i ≡ y
    path_new i e = set_same v.path v.depth i y e

    path_old : (i : ℕ) → i < v.depth → w.path i ≡ v.path i
    path_old i h = set_other v.path v.depth i y (λ e. omega arith)

    start_new : (t : ℕ) → t ≡ v.tops → w.start t ≡ v.depth
    start_new t e = set_same v.start v.tops t v.depth e

    start_old : (t : ℕ) → t < v.tops → w.start t ≡ v.start t
    start_old t h = set_other v.start v.tops t v.depth (λ e. omega arith)

    stack_new : (t : ℕ) → t ≡ v.height → w.stack t ≡ v.depth
    stack_new t e = set_same v.stack v.height t v.depth e

    stack_old : (t : ℕ) → t < v.height → w.stack t ≡ v.stack t
    stack_old t h = set_other v.stack v.height t v.depth (λ e. omega arith)

    less : (i n : ℕ) → i < n + 1 → (i ≡ n) ⊎ (i < n)
    less i n h = let le : i ≤ n = omega arith in eq-or-lt_of_le le

    on_stack : (i : ℕ) → IsOnStack v i → IsOnStack w i
    on_stack i s = let h : s.t < v.height = s.within in record { t = s.t; within = omega arith; there = stack_old s.t h ∙ s.there }

    no_start : (i j : ℕ) → NoStart w i j → NoStart v i j
    no_start i j h t ht lo hi = let e : w.start t ≡ v.start t = start_old t ht in h t (omega arith) (omega arith) (omega arith)

    settle : (i z : ℕ) → i < v.depth → IsSettled v i z → IsSettled w i z
    settle i z hi (inl d) = inl (record { label = d.label; done = keep z (Done d.label) d.done (done_new d.label); low = d.low })
    settle i z hi (inr o) = inr (record {
      at = o.at;
      here = keep z (Open o.at) o.here (open_new o.at);
      later = λ t ht lo up. elim (less t v.tops ht) [
        | inl e ↦ let s : w.start t ≡ v.depth = start_new t e in omega arith
        | inr l ↦ let s : w.start t ≡ v.start t = start_old t l in o.later t l (omega arith) (omega arith)
      ];
    })

    pub opened_kept : IsWalk g w
    opened_kept = record {
      size = I.size;
      lefts = I.lefts;
      few = I.few;
      fresh = λ x m. elim (was x New m) [ inl s ↦ absurd (open_new v.depth s.1) | inr s ↦ I.fresh x s ];
      node = λ i h. elim (less i v.depth h) [
        | inl e ↦ subst (λ (n : ℕ). n < length g) (sym (path_new i e)) hy
        | inr l ↦ subst (λ (n : ℕ). n < length g) (sym (path_old i l)) (I.node i l)
      ];
      here = λ i h. elim (less i v.depth h) [
        | inl e ↦ mark_new (w.path i) (path_new i e) ∙ ap Open (sym e)
        | inr l ↦ ap w.mark (path_old i l) ∙ keep (v.path i) (Open i) (I.here i l) (open_new i)
      ];
      onpath = λ x i m. elim (was x (Open i) m) [
        | inl s ↦ let e : v.depth ≡ i = open_inj v.depth i s.1 in omega arith
        | inr s ↦ let h : i < v.depth = I.onpath x i s in omega arith
      ];
      itself = λ x i m. elim (was x (Open i) m) [
        | inl s ↦ path_new i (sym (open_inj v.depth i s.1)) ∙ sym s.0
        | inr s ↦ path_old i (I.onpath x i s) ∙ I.itself x i s
      ];
      upward = λ i j le h. elim (less j v.depth h) [
        | inl e ↦ elim (cases_eq i j) [
          | inl s ↦ reaches_self g (w.path i) (w.path j) (ap w.path s)
          | inr s ↦ let l : i < v.depth = (elim (eq-or-lt_of_le le) [ inl q ↦ absurd (s q) | inr q ↦ omega arith ]) in
              subst (λ (n : ℕ). Reaches g n (w.path j)) (sym (path_old i l)) (subst (Reaches g (v.path i)) (sym (path_new j e)) (come i l))
        ]
        | inr l ↦ let li : i < v.depth = omega arith in
            subst (λ (n : ℕ). Reaches g n (w.path j)) (sym (path_old i li)) (subst (Reaches g (v.path i)) (sym (path_old j l)) (I.upward i j le l))
      ];
      back = λ i j le h ns. elim (less j v.depth h) [
        | inl e ↦ elim (cases_eq i j) [
          | inl s ↦ reaches_self g (w.path j) (w.path i) (ap w.path (sym s))
          | inr s ↦ let l : i < v.depth = (elim (eq-or-lt_of_le le) [ inl q ↦ absurd (s q) | inr q ↦ omega arith ]) in
              let b : w.start v.tops ≡ v.depth = start_new v.tops refl in
              absurd (ns v.tops (omega arith) (omega arith) (omega arith))
        ]
        | inr l ↦ let li : i < v.depth = omega arith in
            subst (λ (n : ℕ). Reaches g n (w.path i)) (sym (path_old j l))
            (subst (Reaches g (v.path j)) (sym (path_old i li)) (I.back i j le l (no_start i j ns)))
      ];
      first = λ i h. omega arith;
      lowest = λ h. elim (cases_le v.tops 0) [
        | inl le ↦ let d : v.depth ≡ 0 = (elim (cases_le v.depth 0) [ inl z ↦ omega arith | inr p ↦ let f : 0 < v.tops = I.first 0 p in omega arith ]) in
            start_new 0 (omega arith) ∙ d
        | inr lt ↦ start_old 0 lt ∙ I.lowest lt
      ];
      rising = λ t u l h. let lt : t < v.tops = omega arith in let st : w.start t ≡ v.start t = start_old t lt in elim (less u v.tops h) [
        | inl e ↦ let su : w.start u ≡ v.depth = start_new u e in let d : v.start t < v.depth = start_deep t lt in omega arith
        | inr lu ↦ let su : w.start u ≡ v.start u = start_old u lu in let r : v.start t < v.start u = I.rising t u l lu in omega arith
      ];
      begun = λ t h. elim (less t v.tops h) [
        | inl e ↦ record { t = v.height; within = omega arith; there = stack_new v.height refl ∙ sym (start_new t e) }
        | inr l ↦ subst (IsOnStack w) (sym (start_old t l)) (on_stack (v.start t) (I.begun t l))
      ];
      climbing = λ t u l h. let lt : t < v.height = omega arith in let st : w.stack t ≡ v.stack t = stack_old t lt in elim (less u v.height h) [
        | inl e ↦ let su : w.stack u ≡ v.depth = stack_new u e in let d : v.stack t < v.depth = I.placed t lt in omega arith
        | inr lu ↦ let su : w.stack u ≡ v.stack u = stack_old u lu in let r : v.stack t < v.stack u = I.climbing t u l lu in omega arith
      ];
      placed = λ t h. elim (less t v.height h) [
        | inl e ↦ let s : w.stack t ≡ v.depth = stack_new t e in omega arith
        | inr l ↦ let s : w.stack t ≡ v.stack t = stack_old t l in let d : v.stack t < v.depth = I.placed t l in omega arith
      ];
      busy = λ i h. elim (less i v.depth h) [
        | inl e ↦ inl (record { t = v.height; within = omega arith; there = stack_new v.height refl ∙ sym e })
        | inr l ↦ elim (I.busy i l) [ inl s ↦ inl (on_stack i s) | inr z ↦ inr (ap v.left (path_old i l) ∙ z) ]
      ];
      settled = λ x i k m lt. elim (was x (Open i) m) [
        | inl s ↦ let f : v.left x ≡ length (next_of g x) = I.fresh x (ap v.mark s.0 ∙ new) in absurd (omega arith)
        | inr s ↦ settle i (get_or (next_of g x) k 0) (I.onpath x i s) (I.settled x i k s lt)
      ];
      downward = λ x l k m lt. let d : IsDone v (get_or (next_of g x) k 0) l = I.downward x l k (was_done x l m) lt in
          record { label = d.label; done = keep (get_or (next_of g x) k 0) (Done d.label) d.done (done_new d.label); low = d.low };
      joined = λ x z l m n. I.joined x z l (was_done x l m) (was_done z l n);
      numbered = λ x l m. I.numbered x l (was_done x l m);
      headed = I.headed;
      own = λ l h. keep (v.head l) (Done l) (I.own l h) (done_new l);
    }
