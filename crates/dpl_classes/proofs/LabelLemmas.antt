-- Labels from roots.
use Rattle.std.proofs.Common.{arith, ◌≡◌, ◌≢◌, ℕ, ◌+◌, ◌<◌, ◌≤◌, List, length, get_or, ◌∙◌, refl, sym, ap, subst, inl, inr, ◌∷◌, [], ◌++◌, max}
use Rattle.std.proofs.lemmas.Bool.{cases_lt}
use Rattle.std.proofs.lemmas.List.{get_or_default, length_push, get_or_append_left, get_or_push, take_all, take-append-le}
use Rattle.std.proofs.lemmas.List.Sums.{fold-append}
use Rattle.dpl_classes.specs.Classes.{IsNumbered, next_label, AreClasses}
use Rattle.dpl_classes.specs.Roots.{AreNumbers, AreRoots}

-- the labels of the first i members
pub record Numbered (roots : List ℕ) (i : ℕ) (label : List ℕ) (count' : ℕ) : Type 0 where
  pub long : length label ≡ i
  pub few : count' ≤ i
  pub root : (k : ℕ) → k < i → get_or label k 0 ≡ get_or label (get_or roots k 0) 0
  pub below : (k : ℕ) → k < i → get_or label k 0 < count'
  pub one : (k l : ℕ) → k < i → l < i → get_or roots k 0 ≡ k → get_or roots l 0 ≡ l → get_or label k 0 ≡ get_or label l 0 → k ≡ l
  pub numbered : IsNumbered label count'

pub numbered_none : (roots : List ℕ) → Numbered roots 0 [] 0
numbered_none roots = record {
  long = refl;
  few = omega arith;
  root = λ k l. absurd (omega arith);
  below = λ k l. absurd (omega arith);
  one = λ k l m. absurd (omega arith);
  numbered = record { grows = λ k l. absurd (omega arith); count = refl };
}

next_push : (label : List ℕ) (x : ℕ) → next_label (label ++ x ∷ []) ≡ max (next_label label) (x + 1)
next_push label x = fold-append _ 0 label (x ∷ [])

numbered_push : (label : List ℕ) (x n : ℕ) → IsNumbered label n → x ≤ n → IsNumbered (label ++ x ∷ []) (max n (x + 1))
numbered_push label x n h l = record {
  grows = λ k m. elim (cases_lt k (length label)) [
    | inl g ↦ rw (get_or_append_left label (x ∷ []) 0 k g, take-append-le k label (x ∷ []) (omega arith)) (h.grows k g)
    | inr g ↦ let e : length label ≡ k = let f = length_push label x in omega arith in
        rw (get_or_push label x 0 k e, take-append-le k label (x ∷ []) (omega arith), take_all k label (omega arith)) (let c = h.count in omega arith)
  ];
  count = let c = h.count in next_is c;
} where
  next_is : n ≡ next_label label → max n (x + 1) ≡ next_label (label ++ x ∷ [])
  next_is c = sym (next_push label x ∙ ap (λ m. max m (x + 1)) (sym c))

push_before : (label : List ℕ) (x k : ℕ) → k < length label → get_or (label ++ x ∷ []) k 0 ≡ get_or label k 0
push_before label x k l = get_or_append_left label (x ∷ []) 0 k l

pub numbered_new : (roots : List ℕ) (i : ℕ) (label new : List ℕ) (n : ℕ)
    → ((k : ℕ) → k < length roots → get_or roots k 0 ≤ k) → i < length roots → get_or roots i 0 ≡ i
    → new ≡ label ++ n ∷ [] → Numbered roots i label n → Numbered roots (i + 1) new (n + 1)
numbered_new roots i label new n low within own e s = rw e (record {
  long = rw length_push (let l = s.long in omega arith);
  few = let f = s.few in omega arith;
  root = λ k l. elim (cases_lt k i) [
    | inl h ↦ let r = low k (omega arith) in let g = s.long in
        rw (push_before label n k (omega arith), push_before label n (get_or roots k 0) (omega arith)) (s.root k h)
    | inr h ↦ let f : k ≡ i = omega arith in rw (f, own) refl
  ];
  below = λ k l. elim (cases_lt k i) [
    | inl h ↦ let g = s.long in let b = s.below k h in let c = push_before label n k (omega arith) in omega arith
    | inr h ↦ let c = get_or_push label n 0 k (let g = s.long in omega arith) in omega arith
  ];
  one = λ k l h g p q r. let long = s.long in elim (cases_lt k i) [
    | inl a ↦ elim (cases_lt l i) [
      | inl b ↦ s.one k l a b p q (sym (push_before label n k (omega arith)) ∙ r ∙ push_before label n l (omega arith))
      | inr b ↦ absurd (let c = push_before label n k (omega arith) in let d = get_or_push label n 0 l (omega arith) in let f = s.below k a in omega arith)
    ]
    | inr a ↦ elim (cases_lt l i) [
      | inl b ↦ absurd (let c = push_before label n l (omega arith) in let d = get_or_push label n 0 k (omega arith) in let f = s.below l b in omega arith)
      | inr b ↦ omega arith
    ]
  ];
  numbered = let m : max n (n + 1) ≡ n + 1 = omega arith in let P : ℕ → Type 0 = IsNumbered (label ++ n ∷ []) in
      subst P m (numbered_push label n n s.numbered (omega arith));
})

pub numbered_old : (roots : List ℕ) (i : ℕ) (label new : List ℕ) (n x : ℕ)
    → ((k : ℕ) → k < length roots → get_or roots k 0 ≤ k)
    → ((k : ℕ) → k < length roots → get_or roots (get_or roots k 0) 0 ≡ get_or roots k 0) → i < length roots
    → get_or roots i 0 ≢ i → x ≡ get_or label (get_or roots i 0) x → new ≡ label ++ x ∷ []
    → Numbered roots i label n → Numbered roots (i + 1) new n
numbered_old roots i label new n x low fixed within own read e s =
    let lo = low i within in let long = s.long in
    let under : get_or roots i 0 < i = omega (arith, own) in
    let f : x ≡ get_or label (get_or roots i 0) 0 = read ∙ get_or_default label (get_or roots i 0) x 0 (omega arith) in
    let small : x < n = let b = s.below _ under in omega arith in rw e (record {
      long = rw length_push (omega arith);
      few = let f = s.few in omega arith;
      root = λ k l. elim (cases_lt k i) [
        | inl h ↦ let r = low k (omega arith) in rw (push_before label x k (omega arith), push_before label x (get_or roots k 0) (omega arith)) (s.root k h)
        | inr h ↦ let g : k ≡ i = omega arith in rw g (get_or_push label x 0 i long ∙ f ∙ sym (push_before label x (get_or roots i 0) (omega arith)))
      ];
      below = λ k l. elim (cases_lt k i) [
        | inl h ↦ let b = s.below k h in let c = push_before label x k (omega arith) in omega arith
        | inr h ↦ let c = get_or_push label x 0 k (omega arith) in omega arith
      ];
      one = λ k l h g p q r. elim (cases_lt k i) [
        | inl a ↦ elim (cases_lt l i) [
          | inl b ↦ s.one k l a b p q (sym (push_before label x k (omega arith)) ∙ r ∙ push_before label x l (omega arith))
          | inr b ↦ absurd (let d : l ≡ i = omega arith in own (rw d at q))
        ]
        | inr a ↦ absurd (let d : k ≡ i = omega arith in own (rw d at p))
      ];
      numbered = let m : max n (x + 1) ≡ n = omega arith in let P : ℕ → Type 0 = IsNumbered (label ++ x ∷ []) in
          subst P m (numbered_push label x n s.numbered (omega arith));
    })

pub numbered_all : (roots : List ℕ) (i : ℕ) (label : List ℕ) (n : ℕ) → i ≡ length roots
    → ((k : ℕ) → k < length roots → get_or roots k 0 ≤ k)
    → ((k : ℕ) → k < length roots → get_or roots (get_or roots k 0) 0 ≡ get_or roots k 0)
    → Numbered roots i label n → AreNumbers roots label n
numbered_all roots i label n whole low fixed s = record {
  long = s.long ∙ whole;
  same = λ k l p q. (
    (λ e. let a = low k p in let b = low l q in s.one _ _ (omega arith) (omega arith) (fixed k p) (fixed l q)
        (sym (s.root k (omega arith)) ∙ e ∙ s.root l (omega arith))),
    (λ e. s.root k (omega arith) ∙ ap (λ r. get_or label r 0) e ∙ sym (s.root l (omega arith))),
  );
  numbered = s.numbered;
}

pub classes_are : (pairs : List (ℕ × ℕ)) (n : ℕ) (roots label : List ℕ) (count' : ℕ) → AreRoots pairs n roots
    → AreNumbers roots label count' → AreClasses pairs n label count'
classes_are pairs n roots label count' r s = record {
  long = s.long ∙ r.long;
  same = λ i j l m.
      let f = s.same i j (rw r.long l) (rw r.long m) in
      let g = r.same i j l m in ((λ e. g.0 (f.0 e)), (λ t. f.1 (g.1 t)));
  numbered = s.numbered;
}
