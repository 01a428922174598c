-- What a reading of a layer, and of two layers, says of the reasons not to draw them.
use Rattle.std.proofs.Common.{◌≡◌, ◌≢◌, ◌⊎◌, inl, inr, ℕ, ◌<◌, ◌≤◌, arith, List, [], ◌∷◌, ◌++◌, map, Bool, refl, ap, sym, ◌∙◌, subst, lt-ltb, le-ltb}
use Rattle.std.specs.Prelude.{Option, Some, None, nat_lt, if◌then◌else◌, option_to_list}
use Rattle.std.proofs.lemmas.Bool.{cases_lt}
use Rattle.dpl_limits.specs.Limits.{most_coordinate, most_of}
use Rattle.dpl_limits.specs.declared.TheConstants.{MOST_CALLS, MOST_PRIMITIVES}
use Rattle.dpl_limits.specs.declared.counted.Counted.{Counted}
use Rattle.dpl_limits.specs.declared.counted.Counted.TheVariants as Counted
use Rattle.dpl_cell.specs.Outlines.{Outline}
use Rattle.dpl_calls.specs.Totals.{shown}
use Rattle.dpl_rules.specs.Rules.{Fault, fault}
use Rattle.dpl_cif.specs.declared.error.CifError.{CifError}
use Rattle.dpl_cif.specs.declared.error.CifError.TheVariants as cif
use Rattle.dpl_cif.specs.declared.error.CifLimit.TheVariants.{Primitives, Calls, Coordinate}
use Rattle.dpl_cif.specs.Drawn.{reach}
use Rattle.dpl_cif.specs.Gives.{Refuses}
use Rattle.dpl_cif.specs.Reading.{Reading, reading, or_within, within_limits, first_fault, primitives_of, primitive_count, call_count}
use Rattle.dpl_cif.specs.Reading.Reading.{Faulty, TooMany, TooManyCalls, TooFar, Good}
use Rattle.dpl_layer.specs.declared.error.LayerError.{LayerError}
use Rattle.dpl_layer.specs.declared.error.LayerError.TheVariants.{Layout, Limit, NoMemory}
use Rattle.dpl_layer.specs.Errors.{of_reading}
use Rattle.dpl_layer.specs.Reasons.{FirstOf, NoneOf, IsOver}
use Rattle.dpl_layer.specs.Drawings.{HasFault, PassesLimit, kept_of}
use Rattle.dpl_layer.specs.Steps.{keep_reading, fault_or, joined}
use Rattle.dpl_layer.proofs.ReasonLemmas.{Reason, IsFree, first, later, no_first, none_cons}

-- the reasons not to draw these layers
abbrev pub reasons_in : List (List ℕ) → List ℕ → List Reason
reasons_in layers text = map (HasFault text) layers ++ map (PassesLimit text) layers

-- ---- one layer

-- what a reading says of a fault and of the limits
pub data Says (F L : Reason) : Reading → Type 0 where
  faulty : (f : Fault) → F (Layout f.command f.what) → Says F L (Faulty f)
  many : (n : ℕ) → IsFree F → L (Limit 2 n) → Says F L (TooMany n)
  calls : (n : ℕ) → IsFree F → L (Limit 3 n) → Says F L (TooManyCalls n)
  far : (n : ℕ) → IsFree F → L (Limit 4 n) → Says F L (TooFar n)
  good : (parts : List Outline) → IsFree F → IsFree L → Says F L (Good parts)

pick : {X : Type 0} (P : X → Type 0) (m n : ℕ) (x y : X) → (m < n → P x) → (n ≤ m → P y) → P (if nat_lt m n then x else y)
pick P m n x y more few = elim (cases_lt m n) [
  | inl l ↦ rw (lt-ltb m n l) (more l)
  | inr l ↦ rw (le-ltb m n l) (few l)
]

-- the counts of a layer as reasons
abbrev limits : ℕ → ℕ → ℕ → List Reason
limits p c r = IsOver Counted.Primitives p ∷ IsOver Counted.Calls c ∷ IsOver Counted.Coordinates r ∷ []

free_over : (counted : Counted) (n : ℕ) → n ≤ most_of counted → IsFree (IsOver counted n)
free_over counted n few e over = let more = over.0 in omega (arith, few, more)

abbrev near_of : List Outline → Reading
near_of os = if nat_lt most_coordinate (reach os) then TooFar (shown (reach os)) else Good os

abbrev called_of : ℕ → List Outline → Reading
called_of c os = if nat_lt MOST_CALLS c then TooManyCalls (shown c) else near_of os

-- where no rule is broken, the first limit that is passed is told
within : (F : Reason) → IsFree F → (p c : ℕ) (os : List Outline) → Says F (FirstOf (limits p c (reach os))) (within_limits p c os)
within F free p c os =
    let P : Reason = IsOver Counted.Primitives p in
    let C : Reason = IsOver Counted.Calls c in
    let R : Reason = IsOver Counted.Coordinates (reach os) in
    let S : Reading → Type 0 = Says F (FirstOf (limits p c (reach os))) in
    pick S MOST_PRIMITIVES p (TooMany (shown p)) (called_of c os)
    (λ more. many (shown p) free (first P (C ∷ R ∷ []) (Limit 2 (shown p)) (more, refl)))
    (λ few. let no_p = free_over Counted.Primitives p few in
    pick S MOST_CALLS c (TooManyCalls (shown c)) (near_of os)
    (λ more. calls (shown c) free (later P (C ∷ R ∷ []) (Limit 3 (shown c)) no_p (first C (R ∷ []) (Limit 3 (shown c)) (more, refl))))
    (λ also. let no_c = free_over Counted.Calls c also in
    pick S most_coordinate (reach os) (TooFar (shown (reach os))) (Good os)
    (λ more. far (shown (reach os)) free (later P (C ∷ R ∷ []) (Limit 4 (shown (reach os))) no_p
    (later C (R ∷ []) (Limit 4 (shown (reach os))) no_c (first R [] (Limit 4 (shown (reach os))) (more, refl)))))
    (λ near. good os free (none_cons P (C ∷ R ∷ []) no_p (none_cons C (R ∷ []) no_c
    (none_cons R [] (free_over Counted.Coordinates (reach os) near) no_first))))))

-- what the reading of a layer says
pub layer_says : (text layer : List ℕ) → Says (HasFault text layer) (PassesLimit text layer) (reading layer text)
layer_says text layer = by_fault (first_fault layer text) refl where
  by_fault : (x : Option Fault) → first_fault layer text ≡ x → Says (HasFault text layer) (PassesLimit text layer)
      (or_within x (within_limits (primitive_count layer text) (call_count layer text) (primitives_of layer text)))
  by_fault (Some f) is = faulty f (f, is, refl)
  by_fault None is = within (HasFault text layer) none (primitive_count layer text) (call_count layer text) (primitives_of layer text) where
    none : IsFree (HasFault text layer)
    none e (f, found, same) = let bad : ◌≡◌ {A = Option Fault} None (Some f) = sym is ∙ found in absurd (cc)

within_good : (p c : ℕ) (os parts : List Outline) → within_limits p c os ≡ Good parts → parts ≡ os
within_good p c os parts =
    let S : Reading → Type 0 = λ r. r ≡ Good parts → parts ≡ os in
    pick S MOST_PRIMITIVES p (TooMany (shown p)) (called_of c os) (λ more e. absurd (cc))
    (λ few. pick S MOST_CALLS c (TooManyCalls (shown c)) (near_of os) (λ more e. absurd (cc))
    (λ also. pick S most_coordinate (reach os) (TooFar (shown (reach os))) (Good os) (λ more e. absurd (cc))
    (λ near e. let same : os ≡ parts = cc in sym same)))

-- a good reading gives the parts of the layer
pub good_is : (text layer : List ℕ) (parts : List Outline) → reading layer text ≡ Good parts → parts ≡ primitives_of layer text
good_is text layer parts = by_fault (first_fault layer text) where
  by_fault : (x : Option Fault) →
      or_within x (within_limits (primitive_count layer text) (call_count layer text) (primitives_of layer text)) ≡ Good parts →
      parts ≡ primitives_of layer text
  by_fault (Some f) e = absurd (cc)
  by_fault None e = within_good (primitive_count layer text) (call_count layer text) (primitives_of layer text) parts e

pub keep_is : (text : List ℕ) (keep : Option (List ℕ)) (parts : List Outline) → keep_reading keep text ≡ Good parts → parts ≡ kept_of keep text
keep_is text None parts e = let same : [] ≡ parts = cc in sym same
keep_is text (Some name) parts e = good_is text name parts e

-- where it is good, nothing refuses
says_good : (F L : Reason) (read : Reading) (parts : List Outline) → Says F L read → read ≡ Good parts → IsFree F × IsFree L
says_good F L _ parts (faulty f p) e = absurd (cc)
says_good F L _ parts (many n free p) e = absurd (cc)
says_good F L _ parts (calls n free p) e = absurd (cc)
says_good F L _ parts (far n free p) e = absurd (cc)
says_good F L _ parts (good os free also) e = (free, also)

-- ---- two layers

-- the refusal that a reading tells
abbrev pub answer_of : Reading → Option LayerError
answer_of (Faulty f) = Some (Layout f.command f.what)
answer_of (TooMany n) = Some (Limit 2 n)
answer_of (TooManyCalls n) = Some (Limit 3 n)
answer_of (TooFar n) = Some (Limit 4 n)
answer_of (Good parts) = None

-- an error of the reader of CIF is this refusal, but for want of memory
pub refusal_answers : (read : Reading) (e : CifError) → Refuses e read → (of_reading e ≡ NoMemory) ⊎ (answer_of read ≡ Some (of_reading e))
refusal_answers read (cif.Fault k w) is = inr (ap answer_of is)
refusal_answers read (cif.Limit Primitives n) is = inr (ap answer_of is)
refusal_answers read (cif.Limit Calls n) is = inr (ap answer_of is)
refusal_answers read (cif.Limit Coordinate n) is = inr (ap answer_of is)
refusal_answers read cif.NoMemory is = inl refl

as_told : (R : Reason) (x e : LayerError) → ◌≡◌ {A = Option LayerError} (Some x) (Some e) → R x → R e
as_told R x e is r = let same : x ≡ e = cc in subst R same r

one_says : (F L : Reason) (a : Reading) → Says F L a → (e : LayerError) → answer_of (joined a (Good [])) ≡ Some e → FirstOf (F ∷ L ∷ []) e
one_says F L _ (faulty f p) e is = first F (L ∷ []) e (as_told F (Layout f.command f.what) e is p)
one_says F L _ (many n free p) e is = later F (L ∷ []) e free (first L [] e (as_told L (Limit 2 n) e is p))
one_says F L _ (calls n free p) e is = later F (L ∷ []) e free (first L [] e (as_told L (Limit 3 n) e is p))
one_says F L _ (far n free p) e is = later F (L ∷ []) e free (first L [] e (as_told L (Limit 4 n) e is p))
one_says F L _ (good os free also) e is = absurd (cc)

-- the fault of the second comes before a limit of the first
fault_second : (F L G M : Reason) (g x e : LayerError) → IsFree F → ◌≡◌ {A = Option LayerError} (Some g) (Some e) → G g → FirstOf (F ∷ G ∷ L ∷ M ∷ []) e
fault_second F L G M g x e free is q = later F (G ∷ L ∷ M ∷ []) e free (first G (L ∷ M ∷ []) e (as_told G g e is q))

limit_first : (F L G M : Reason) (x e : LayerError) → IsFree F → IsFree G → ◌≡◌ {A = Option LayerError} (Some x) (Some e) → L x → FirstOf (F ∷ G ∷ L ∷ M ∷ []) e
limit_first F L G M x e free also is p =
    later F (G ∷ L ∷ M ∷ []) e free (later G (L ∷ M ∷ []) e also (first L (M ∷ []) e (as_told L x e is p)))

limit_second : (F L G M : Reason) (x e : LayerError) → IsFree F → IsFree G → IsFree L
    → ◌≡◌ {A = Option LayerError} (Some x) (Some e) → M x → FirstOf (F ∷ G ∷ L ∷ M ∷ []) e
limit_second F L G M x e free also few is p =
    later F (G ∷ L ∷ M ∷ []) e free (later G (L ∷ M ∷ []) e also (later L (M ∷ []) e few (first M [] e (as_told M x e is p))))

-- a limit of the first layer, where the second has no fault before it
limit_told : (F L G M : Reason) (x : LayerError) (b a : Reading) → IsFree F → L x → answer_of a ≡ Some x → Says G M b → (e : LayerError)
    → answer_of (fault_or b a) ≡ Some e → FirstOf (F ∷ G ∷ L ∷ M ∷ []) e
limit_told F L G M x _ a free p same (faulty g q) e is = fault_second F L G M (Layout g.command g.what) x e free is q
limit_told F L G M x _ a free p same (many n also q) e is = limit_first F L G M x e free also (sym same ∙ is) p
limit_told F L G M x _ a free p same (calls n also q) e is = limit_first F L G M x e free also (sym same ∙ is) p
limit_told F L G M x _ a free p same (far n also q) e is = limit_first F L G M x e free also (sym same ∙ is) p
limit_told F L G M x _ a free p same (good os also none) e is = limit_first F L G M x e free also (sym same ∙ is) p

two_say : (F L G M : Reason) (a b : Reading) → Says F L a → Says G M b → (e : LayerError) → answer_of (joined a b) ≡ Some e → FirstOf (F ∷ G ∷ L ∷ M ∷ []) e
two_say F L G M _ b (faulty f p) s e is = first F (G ∷ L ∷ M ∷ []) e (as_told F (Layout f.command f.what) e is p)
two_say F L G M _ b (many n free p) s e is = limit_told F L G M (Limit 2 n) b (TooMany n) free p refl s e is
two_say F L G M _ b (calls n free p) s e is = limit_told F L G M (Limit 3 n) b (TooManyCalls n) free p refl s e is
two_say F L G M _ b (far n free p) s e is = limit_told F L G M (Limit 4 n) b (TooFar n) free p refl s e is
two_say F L G M _ _ (good os free few) (faulty g q) e is = later F (G ∷ L ∷ M ∷ []) e free (first G (L ∷ M ∷ []) e (as_told G (Layout g.command g.what) e is q))
two_say F L G M _ _ (good os free few) (many n also q) e is = limit_second F L G M (Limit 2 n) e free also few is q
two_say F L G M _ _ (good os free few) (calls n also q) e is = limit_second F L G M (Limit 3 n) e free also few is q
two_say F L G M _ _ (good os free few) (far n also q) e is = limit_second F L G M (Limit 4 n) e free also few is q
two_say F L G M _ _ (good os free few) (good ps also none) e is = absurd (cc)

-- what stops the reading of two layers is the first reason that applies
pub joined_tells : (text layer : List ℕ) (keep : Option (List ℕ)) (e : LayerError)
    → answer_of (joined (reading layer text) (keep_reading keep text)) ≡ Some e
    → FirstOf (reasons_in (layer ∷ option_to_list keep) text) e
joined_tells text layer None e is =
    one_says (HasFault text layer) (PassesLimit text layer) (reading layer text) (layer_says text layer) e is
joined_tells text layer (Some name) e is =
    two_say (HasFault text layer) (PassesLimit text layer) (HasFault text name) (PassesLimit text name)
    (reading layer text) (reading name text) (layer_says text layer) (layer_says text name) e is

-- where both readings are good, no reason applies
pub both_free : (text layer : List ℕ) (keep : Option (List ℕ)) (xs ys : List Outline)
    → reading layer text ≡ Good xs → keep_reading keep text ≡ Good ys
    → NoneOf (reasons_in (layer ∷ option_to_list keep) text)
both_free text layer None xs ys a b =
    let F : Reason = HasFault text layer in
    let L : Reason = PassesLimit text layer in
    let p = says_good F L (reading layer text) xs (layer_says text layer) a in
    none_cons F (L ∷ []) p.0 (none_cons L [] p.1 no_first)
both_free text layer (Some name) xs ys a b =
    let F : Reason = HasFault text layer in
    let L : Reason = PassesLimit text layer in
    let G : Reason = HasFault text name in
    let M : Reason = PassesLimit text name in
    let p = says_good F L (reading layer text) xs (layer_says text layer) a in
    let q = says_good G M (reading name text) ys (layer_says text name) b in
    none_cons F (G ∷ L ∷ M ∷ []) p.0 (none_cons G (L ∷ M ∷ []) q.0 (none_cons L (M ∷ []) p.1 (none_cons M [] q.1 no_first)))
