-- What a walk keeps true, when a group is done.
use Rattle.std.proofs.Common.{◌≡◌, ◌⊎◌, inl, inr, ℕ, ◌-◌, ◌<◌, ◌≤◌, length, refl, sym, ◌∙◌, ap, subst, arith, get_or}
use Rattle.std.proofs.lemmas.Grind.{common_steps}
use Rattle.std.proofs.Math.Nat.{eq-or-lt_of_le}
use Rattle.dpl_groups.specs.Graph.{Graph, next_of, Reaches}
use Rattle.dpl_groups.specs.declared.walk.Mark.{Mark}
use Rattle.dpl_groups.specs.declared.walk.Mark.TheVariants.{New, Open, Done}
use Rattle.dpl_groups.specs.Walk.{View, NoStart, IsDone, IsSettled, IsOnStack, IsWalk, shut, closed}
use Rattle.dpl_groups.proofs.Reach.{cases_le, set_same, set_other, below_is}
use Rattle.dpl_groups.proofs.Walks.{open_inj, open_new, open_done, done_inj, done_new, top, stack_low}

pub shut_low : (i l k : ℕ) → k < i → shut i l (Open k) ≡ Open k
shut_low i l k h = grind (arith, common_steps)

pub shut_high : (i l k : ℕ) → i ≤ k → shut i l (Open k) ≡ Done l
shut_high i l k h = grind (arith, common_steps)

pub record WasOpen (i l n : ℕ) (m : Mark) : Type 0 where
  pub at : ℕ
  pub here : m ≡ Open at
  pub high : i ≤ at
  pub same : n ≡ l

pub shut_new : (i l : ℕ) (m : Mark) → shut i l m ≡ New → m ≡ New
shut_new i l New e = refl
shut_new i l (Open k) e = elim (cases_le i k) [
  | inl h ↦ absurd (done_new l (sym (shut_high i l k h) ∙ e))
  | inr h ↦ absurd (open_new k (sym (shut_low i l k h) ∙ e))
]
shut_new i l (Done n) e = absurd (done_new n e)

shut_open : (i l k : ℕ) (m : Mark) → shut i l m ≡ Open k → (m ≡ Open k) × (k < i)
shut_open i l k New e = absurd (open_new k (sym e))
shut_open i l k (Open n) e = elim (cases_le i n) [
  | inl h ↦ absurd (open_done k l (sym e ∙ shut_high i l n h))
  | inr h ↦ let s : Open n ≡ Open k = sym (shut_low i l n h) ∙ e in let q : n ≡ k = open_inj n k s in (s, omega arith)
]
shut_open i l k (Done n) e = absurd (open_done k n (sym e))

shut_done : (i l n : ℕ) (m : Mark) → shut i l m ≡ Done n → (m ≡ Done n) ⊎ WasOpen i l n m
shut_done i l n New e = absurd (done_new n (sym e))
shut_done i l n (Open k) e = elim (cases_le i k) [
  | inl h ↦ inr (record { at = k; here = refl; high = h; same = done_inj n l (sym e ∙ shut_high i l k h) })
  | inr h ↦ absurd (open_done k n (sym (shut_low i l k h) ∙ e))
]
shut_done i l n (Done m) e = inl e

module _ (g : Graph) (v : View) (I : IsWalk g v) (busy : 0 < v.height) (none : v.left (v.path (top g v I)) ≡ 0)
    (begins : 0 < v.tops) (last : v.start (v.tops - 1) ≡ top g v I) where
  abbrev i : ℕ
  i = top g v I

  abbrev w : View
  w = closed v i

  deep : i < v.depth
  deep = I.placed (v.height - 1) (omega arith)

  path_old : (k : ℕ) → k < i → w.path k ≡ v.path k
  path_old k h = below_is v.path i k h

  start_old : (t : ℕ) → t < v.tops - 1 → w.start t ≡ v.start t
  start_old t h = below_is v.start (v.tops - 1) t h

  stack_old : (t : ℕ) → t < v.height - 1 → w.stack t ≡ v.stack t
  stack_old t h = below_is v.stack (v.height - 1) t h

  head_new : (l : ℕ) → l ≡ v.count → w.head l ≡ v.path i
  head_new l e = set_same v.head v.count l (v.path i) e

  head_old : (l : ℕ) → l < v.count → w.head l ≡ v.head l
  head_old l h = set_other v.head v.count l (v.path i) (λ e. omega arith)

  -- no group begins behind the one that is done
  start_low : (t : ℕ) → t < v.tops → v.start t ≤ i
  start_low t h =
      let le : t ≤ v.tops - 1 = omega arith in
      elim (eq-or-lt_of_le le) [
        | inl e ↦ let s : v.start t ≡ i = ap v.start e ∙ last in omega arith
        | inr l ↦ let s : v.start t < v.start (v.tops - 1) = I.rising t (v.tops - 1) l (omega arith) in omega arith
      ]

  no_start : (a b : ℕ) → b < i → NoStart w a b → NoStart v a b
  no_start a b h ns t ht lo hi =
      let le : t ≤ v.tops - 1 = omega arith in
      elim (eq-or-lt_of_le le) [
        | inl e ↦ let s : v.start t ≡ i = ap v.start e ∙ last in omega arith
        | inr l ↦ let s : w.start t ≡ v.start t = start_old t l in ns t l (omega arith) (omega arith)
      ]

  not_top : (k : ℕ) → k < i → IsOnStack v k → IsOnStack w k
  not_top k h s =
      let ht : s.t < v.height = s.within in
      let le : s.t ≤ v.height - 1 = omega arith in
      elim (eq-or-lt_of_le le) [
        | inl e ↦ let q : k ≡ i = sym s.there ∙ ap v.stack e in absurd (omega arith)
        | inr lt ↦ record { t = s.t; within = lt; there = stack_old s.t lt ∙ s.there }
      ]

  still_done : (z l : ℕ) → v.mark z ≡ Done l → w.mark z ≡ Done l
  still_done z l e = ap (shut i v.count) e

  now_done : (z k : ℕ) → v.mark z ≡ Open k → i ≤ k → w.mark z ≡ Done v.count
  now_done z k e h = ap (shut i v.count) e ∙ shut_high i v.count k h

  still_open : (z k : ℕ) → v.mark z ≡ Open k → k < i → w.mark z ≡ Open k
  still_open z k e h = ap (shut i v.count) e ∙ shut_low i v.count k h

  settle : (a z : ℕ) → a < i → IsSettled v a z → IsSettled w a z
  settle a z ha (inl d) = inl (let lo : d.label ≤ v.count = d.low in record { label = d.label; done = still_done z d.label d.done; low = omega arith })
  settle a z ha (inr o) = elim (cases_le i o.at) [
    | inl h ↦ inl (record { label = v.count; done = now_done z o.at o.here h; low = omega arith })
    | inr h ↦ inr (record {
      at = o.at;
      here = still_open z o.at o.here h;
      later = λ t ht lo hi.
          let s : w.start t ≡ v.start t = start_old t ht in o.later t (omega arith) (omega arith) (omega arith);
    })
  ]

  -- all edges of what is done now have been looked at
  exhausted : (x a : ℕ) → v.mark x ≡ Open a → i ≤ a → v.left x ≡ 0
  exhausted x a e h =
      let it : v.path a ≡ x = I.itself x a e in
      elim (I.busy a (I.onpath x a e)) [
        | inl s ↦ let lo : v.stack s.t ≤ i = stack_low g v I s.t s.within in let there : v.stack s.t ≡ a = s.there in let q : a ≡ i = omega arith in
            ap v.left (sym it) ∙ (ap (λ (n : ℕ). v.left (v.path n)) q ∙ none)
        | inr z ↦ ap v.left (sym it) ∙ z
      ]

  reached : (x l k : ℕ) → WasOpen i v.count l (v.mark x) → k < length (next_of g x) → IsDone w (get_or (next_of g x) k 0) l
  reached x l k o lt =
      let z : ℕ = get_or (next_of g x) k 0 in
      let same : l ≡ v.count = o.same in
      let e : v.left x ≡ 0 = exhausted x o.at o.here o.high in
      elim (I.settled x o.at k o.here (omega arith)) [
        | inl d ↦ let lo : d.label ≤ v.count = d.low in record { label = d.label; done = still_done z d.label d.done; low = omega arith }
        | inr s ↦ elim (cases_le i s.at) [
          | inl h ↦ record { label = v.count; done = now_done z s.at s.here h; low = omega arith }
          | inr h ↦ let hi : i ≤ o.at = o.high in absurd (s.later (v.tops - 1) (omega arith) (omega arith) (omega arith))
        ]
      ]

  together : (a b : ℕ) → i ≤ a → a ≤ b → b < v.depth → Reaches g (v.path b) (v.path a)
  together a b ha le hb = I.back a b le hb (λ t ht lo hi. let s : v.start t ≤ i = start_low t ht in omega arith)

  both : (x z : ℕ) (l : ℕ) → WasOpen i v.count l (v.mark x) → WasOpen i v.count l (v.mark z) → Reaches g x z
  both x z l o q =
      let px : v.path o.at ≡ x = I.itself x o.at o.here in
      let pz : v.path q.at ≡ z = I.itself z q.at q.here in
      subst (λ (n : ℕ). Reaches g n z) px (subst (Reaches g (v.path o.at)) pz (elim (cases_le o.at q.at) [
        | inl h ↦ I.upward o.at q.at h (I.onpath z q.at q.here)
        | inr h ↦ let hi : i ≤ q.at = q.high in together q.at o.at hi (omega arith) (I.onpath x o.at o.here)
      ]))

  mixed : (x z l : ℕ) → v.mark x ≡ Done l → WasOpen i v.count l (v.mark z) → ⊥
  mixed x z l e o = let n : l < v.count = I.numbered x l e in let s : l ≡ v.count = o.same in omega arith

  pub closed_kept : IsWalk g w
  closed_kept = record {
    size = I.size;
    lefts = I.lefts;
    few = I.few;
    fresh = λ x m. I.fresh x (shut_new i v.count (v.mark x) m);
    node = λ k h. subst (λ (n : ℕ). n < length g) (sym (path_old k h)) (I.node k (let d : i < v.depth = deep in omega arith));
    here = λ k h. ap w.mark (path_old k h) ∙ still_open (v.path k) k (I.here k (let d : i < v.depth = deep in omega arith)) h;
    onpath = λ x k m. (shut_open i v.count k (v.mark x) m).1;
    itself = λ x k m. let o = shut_open i v.count k (v.mark x) m in path_old k o.1 ∙ I.itself x k o.0;
    upward = λ a b le h. let d : i < v.depth = deep in
        subst (λ (n : ℕ). Reaches g n (w.path b)) (sym (path_old a (omega arith)))
        (subst (Reaches g (v.path a)) (sym (path_old b h)) (I.upward a b le (omega arith)));
    back = λ a b le h ns. let d : i < v.depth = deep in
        subst (λ (n : ℕ). Reaches g n (w.path a)) (sym (path_old b h))
        (subst (Reaches g (v.path b)) (sym (path_old a (omega arith)))
        (I.back a b le (omega arith) (no_start a b h ns)));
    first = λ k h. elim (cases_le (v.tops - 1) 0) [
      | inl le ↦ let z : v.start 0 ≡ 0 = I.lowest begins in let one : v.tops - 1 ≡ 0 = omega arith in
          let s : v.start 0 ≡ i = sym (ap v.start one) ∙ last in absurd (omega arith)
      | inr lt ↦ lt
    ];
    lowest = λ h. start_old 0 h ∙ I.lowest begins;
    rising = λ t u lt h. let st : w.start t ≡ v.start t = start_old t (omega arith) in let su : w.start u ≡ v.start u = start_old u h in
        let r : v.start t < v.start u = I.rising t u lt (omega arith) in omega arith;
    begun = λ t h. let r : v.start t < v.start (v.tops - 1) = I.rising t (v.tops - 1) h (omega arith) in
        subst (IsOnStack w) (sym (start_old t h)) (not_top (v.start t) (omega arith) (I.begun t (omega arith)));
    climbing = λ t u lt h. let st : w.stack t ≡ v.stack t = stack_old t (omega arith) in let su : w.stack u ≡ v.stack u = stack_old u h in
        let r : v.stack t < v.stack u = I.climbing t u lt (omega arith) in omega arith;
    placed = λ t h. let s : w.stack t ≡ v.stack t = stack_old t h in let r : v.stack t < i = I.climbing t (v.height - 1) h (omega arith) in omega arith;
    busy = λ k h. let d : i < v.depth = deep in elim (I.busy k (omega arith)) [
      | inl s ↦ inl (not_top k h s)
      | inr z ↦ inr (ap v.left (path_old k h) ∙ z)
    ];
    settled = λ x a k m lt. let o = shut_open i v.count a (v.mark x) m in settle a (get_or (next_of g x) k 0) o.1 (I.settled x a k o.0 lt);
    downward = λ x l k m lt. elim (shut_done i v.count l (v.mark x) m) [
      | inl e ↦ let d : IsDone v (get_or (next_of g x) k 0) l = I.downward x l k e lt in
          record { label = d.label; done = still_done (get_or (next_of g x) k 0) d.label d.done; low = d.low }
      | inr o ↦ reached x l k o lt
    ];
    joined = λ x z l m n. elim (shut_done i v.count l (v.mark x) m) [
      | inl e ↦ elim (shut_done i v.count l (v.mark z) n) [ inl f ↦ I.joined x z l e f | inr q ↦ absurd (mixed x z l e q) ]
      | inr o ↦ elim (shut_done i v.count l (v.mark z) n) [ inl f ↦ absurd (mixed z x l f o) | inr q ↦ both x z l o q ]
    ];
    numbered = λ x l m. elim (shut_done i v.count l (v.mark x) m) [
      | inl e ↦ let n : l < v.count = I.numbered x l e in omega arith
      | inr o ↦ let s : l ≡ v.count = o.same in omega arith
    ];
    headed = λ l h. let le : l ≤ v.count = omega arith in elim (eq-or-lt_of_le le) [
      | inl e ↦ subst (λ (n : ℕ). n < length g) (sym (head_new l e)) (I.node i deep)
      | inr lt ↦ subst (λ (n : ℕ). n < length g) (sym (head_old l lt)) (I.headed l lt)
    ];
    own = λ l h. let le : l ≤ v.count = omega arith in elim (eq-or-lt_of_le le) [
      | inl e ↦ ap w.mark (head_new l e) ∙ (now_done (v.path i) i (I.here i deep) (omega arith) ∙ ap Done (sym e))
      | inr lt ↦ ap w.mark (head_old l lt) ∙ still_done (v.head l) l (I.own l lt)
    ];
  }
