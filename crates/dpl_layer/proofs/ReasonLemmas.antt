-- Lists of reasons, of which the first that applies is answered.
use Rattle.std.proofs.Common.{◌≡◌, ◌⊎◌, inl, inr, List, [], ◌∷◌, ◌++◌, ap, sym, ◌∙◌}
use Rattle.dpl_layer.specs.declared.error.LayerError.{LayerError}
use Rattle.dpl_layer.specs.Reasons.{FirstOf, NoneOf}

-- what gives answers
abbrev pub Reason : Type 1
Reason = LayerError → Type 0

-- it has no answer
abbrev pub IsFree : Reason → Type 0
IsFree R = (f : LayerError) → ¬ R f

-- it has one answer at most
abbrev pub IsOnce : Reason → Type 0
IsOnce R = (e f : LayerError) → R e → R f → e ≡ f

-- ---- one reason before others

pub first : (R : Reason) (Rs : List Reason) (e : LayerError) → R e → FirstOf (R ∷ Rs) e
unfolding FirstOf
first R Rs e r = inl r

pub later : (R : Reason) (Rs : List Reason) (e : LayerError) → IsFree R → FirstOf Rs e → FirstOf (R ∷ Rs) e
unfolding FirstOf
later R Rs e free r = inr (free, r)

pub which : (R : Reason) (Rs : List Reason) (e : LayerError) → FirstOf (R ∷ Rs) e → R e ⊎ (IsFree R × FirstOf Rs e)
unfolding FirstOf
which R Rs e r = r

pub no_first : (e : LayerError) → ¬ FirstOf [] e
unfolding FirstOf
no_first e r = r

pub none_cons : (R : Reason) (Rs : List Reason) → IsFree R → NoneOf Rs → NoneOf (R ∷ Rs)
none_cons R Rs free none e r = elim (which R Rs e r) [ inl a ↦ free e a | inr b ↦ none e b.1 ]

pub none_head : (R : Reason) (Rs : List Reason) → NoneOf (R ∷ Rs) → IsFree R
none_head R Rs none e r = none e (first R Rs e r)

pub none_tail : (R : Reason) (Rs : List Reason) → NoneOf (R ∷ Rs) → NoneOf Rs
none_tail R Rs none e r = none e (later R Rs e (none_head R Rs none) r)

-- ---- some reasons before others

pub in_front : (Rs Ss : List Reason) (e : LayerError) → FirstOf Rs e → FirstOf (Rs ++ Ss) e
in_front [] Ss e r = absurd (no_first e r)
in_front (R ∷ Rs) Ss e r = elim (which R Rs e r) [
  | inl a ↦ first R (Rs ++ Ss) e a
  | inr b ↦ later R (Rs ++ Ss) e b.0 (in_front Rs Ss e b.1)
]

pub behind : (Rs Ss : List Reason) (e : LayerError) → NoneOf Rs → FirstOf Ss e → FirstOf (Rs ++ Ss) e
behind [] Ss e none r = r
behind (R ∷ Rs) Ss e none r = later R (Rs ++ Ss) e (none_head R Rs none) (behind Rs Ss e (none_tail R Rs none) r)

pub where_first : (Rs Ss : List Reason) (e : LayerError) → FirstOf (Rs ++ Ss) e → FirstOf Rs e ⊎ (NoneOf Rs × FirstOf Ss e)
where_first [] Ss e r = inr (no_first, r)
where_first (R ∷ Rs) Ss e r = elim (which R (Rs ++ Ss) e r) [
  | inl a ↦ inl (first R Rs e a)
  | inr b ↦ elim (where_first Rs Ss e b.1) [
    | inl c ↦ inl (later R Rs e b.0 c)
    | inr d ↦ inr (none_cons R Rs b.0 d.0, d.1)
  ]
]

pub none_both : (Rs Ss : List Reason) → NoneOf Rs → NoneOf Ss → NoneOf (Rs ++ Ss)
none_both Rs Ss none also e r = elim (where_first Rs Ss e r) [ inl a ↦ none e a | inr b ↦ also e b.1 ]

-- ---- what holds of the answer

-- all answers of each have the property
abbrev pub AllHave : (LayerError → Type 0) → List Reason → Type 0
AllHave P [] = Unit {0}
AllHave P (R ∷ Rs) = ((e : LayerError) → R e → P e) × AllHave P Rs

pub have_both : (P : LayerError → Type 0) (Rs Ss : List Reason) → AllHave P Rs → AllHave P Ss → AllHave P (Rs ++ Ss)
have_both P [] Ss a b = b
have_both P (R ∷ Rs) Ss a b = (a.0, have_both P Rs Ss a.1 b)

pub first_has : (P : LayerError → Type 0) (Rs : List Reason) (e : LayerError) → AllHave P Rs → FirstOf Rs e → P e
first_has P [] e a r = absurd (no_first e r)
first_has P (R ∷ Rs) e a r = elim (which R Rs e r) [ inl x ↦ a.0 e x | inr y ↦ first_has P Rs e a.1 y.1 ]

-- each has one answer at most
abbrev pub AllOnce : List Reason → Type 0
AllOnce [] = Unit {0}
AllOnce (R ∷ Rs) = IsOnce R × AllOnce Rs

pub once_both : (Rs Ss : List Reason) → AllOnce Rs → AllOnce Ss → AllOnce (Rs ++ Ss)
once_both [] Ss a b = b
once_both (R ∷ Rs) Ss a b = (a.0, once_both Rs Ss a.1 b)

-- so has the first that applies
pub first_once : (Rs : List Reason) → AllOnce Rs → IsOnce (FirstOf Rs)
first_once [] a e f r q = absurd (no_first e r)
first_once (R ∷ Rs) a e f r q = elim (which R Rs e r) [
  | inl x ↦ elim (which R Rs f q) [ inl y ↦ a.0 e f x y | inr y ↦ absurd (y.0 e x) ]
  | inr x ↦ elim (which R Rs f q) [ inl y ↦ absurd (x.0 f y) | inr y ↦ first_once Rs a.1 e f x.1 y.1 ]
]
