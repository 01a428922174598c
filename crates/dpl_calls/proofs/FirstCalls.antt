-- The first call of a table that passes a test is the first of its calls in the order of the file.
use Rattle.std.proofs.Common.{◌≡◌, inl, inr, ℕ, ◌+◌, ◌≤◌, Bool, true, false, cond, ◌||◌, ◌==◌, nat_eq, is_some, min}
use Rattle.std.proofs.Common.{List, [], ◌∷◌, Option, None, Some, refl, sym, ◌∙◌, ap, subst, arith}
use Rattle.std.specs.List.{list_any, filter}
use mathlib.Core.Path.{fun_ext}
use Rattle.indexmap.specs.IndexMap.{keys, get}
use Rattle.dpl_rules.specs.declared.what.What.{What}
use Rattle.dpl_rules.specs.Rules.{fault}
use Rattle.dpl_calls.specs.declared.entry.Entry.{Entry}
use Rattle.dpl_calls.specs.declared.table.CallSite.{CallSite}
use Rattle.dpl_calls.specs.declared.table.Table.{Table}
use Rattle.dpl_calls.specs.Parts.{is_same}
use Rattle.dpl_calls.specs.Loops.{first_site}
use Rattle.dpl_calls.specs.Table.{or_nothing}
use Rattle.dpl_calls.specs.Found.{FindsAt, calls_in, standing, AreRising, AreCalls, first_number, earlier, earliest, first_call}
use Rattle.dpl_calls.proofs.Absent.{present}
use Rattle.dpl_calls.proofs.Cases.{of_eq, to_eq}
use Rattle.std.proofs.lemmas.Bool.{or_left, or_right, or_cases}

-- no smaller number
abbrev AtLeast : ℕ → Option ℕ → Type 0
AtLeast m None = Unit {0}
AtLeast m (Some a) = m ≤ a

earlier_first : (m : ℕ) (o : Option ℕ) → AtLeast m o → earlier (Some m) o ≡ Some m
earlier_first m None h = refl
earlier_first m (Some a) h = ap (λ (k : ℕ). Some k) (let e : min m a ≡ m = omega (arith, h) in e)

earlier_second : (m : ℕ) (o : Option ℕ) → AtLeast m o → earlier o (Some m) ≡ Some m
earlier_second m None h = refl
earlier_second m (Some a) h = ap (λ (k : ℕ). Some k) (let e : min a m ≡ m = omega (arith, h) in e)

earlier_least : (m : ℕ) (o p : Option ℕ) → AtLeast m o → AtLeast m p → AtLeast m (earlier o p)
earlier_least m None p h g = g
earlier_least m (Some a) None h g = h
earlier_least m (Some a) (Some b) h g = omega (arith, h, g)

module _ (first : Option ℕ → Option ℕ) where
  nothing : (ns : List ℕ) → ((n : ℕ) → first (Some n) ≡ None) → earliest first None ns ≡ None
  nothing [] e = refl
  nothing (n ∷ ns) e = ap (λ (o : Option ℕ). earliest first (earlier None o) ns) (e n) ∙ nothing ns e

  module _ (m : ℕ) (least : (n : ℕ) → AtLeast m (first (Some n))) where
    stays : (ns : List ℕ) → earliest first (Some m) ns ≡ Some m
    stays [] = refl
    stays (n ∷ ns) = ap (λ (o : Option ℕ). earliest first o ns) (earlier_first m (first (Some n)) (least n)) ∙ stays ns

    comes : (found : Option ℕ) (ns : List ℕ) (k : ℕ) → AtLeast m found → first (Some k) ≡ Some m →
        list_any (λ n. n == k) ns ≡ true → earliest first found ns ≡ Some m
    comes found [] k h e c = cc
    comes found (n ∷ ns) k h e c = elim (or_cases (n == k) (list_any (λ n. n == k) ns) c) [
      | inl here ↦
          let ek : first (Some n) ≡ Some m = ap (λ (x : ℕ). first (Some x)) (of_eq n k here) ∙ e in
          (ap (λ (o : Option ℕ). earliest first (earlier found o) ns) ek ∙ ap (λ (o : Option ℕ). earliest first o ns) (earlier_second m found h)) ∙ stays ns
      | inr later ↦ comes (earlier found (first (Some n))) ns k (earlier_least m found (first (Some n)) h (least n)) e later
    ]

pub rising_more : (m n : ℕ) (sites : List CallSite) → m ≤ n → AreRising n sites → AreRising m sites
rising_more m n [] h r = tt
rising_more m n (s ∷ ss) h r = (omega (arith, r.0), r.1)

module _ (test : CallSite → Bool) where
  passed : (b : Bool) (m a : ℕ) (o : Option ℕ) → m ≤ a → AtLeast m o → AtLeast m (cond b (Some a) o)
  passed true m a o h g = h
  passed false m a o h g = g

  least_of : (b : Bool) (m : ℕ) (s : CallSite) (ss : List CallSite) → m ≤ s.at → AtLeast m (first_number test ss) →
      AtLeast m (first_number test (cond b (s ∷ ss) ss))
  least_of true m s ss h g = passed (test s) m s.at (first_number test ss) h g
  least_of false m s ss h g = g

  least_standing : (place : Option ℕ) (m : ℕ) (sites : List CallSite) → AreRising m sites → AtLeast m (first_number test (standing place sites))
  least_standing place m [] r = tt
  least_standing place m (s ∷ ss) r =
      least_of (is_same place s.definition) m s (standing place ss) r.0 (least_standing place m ss (rising_more m (s.at + 1) ss (omega (arith, r.0)) r.1))

  -- a call that does not pass is as none
  skipped : (b : Bool) (s : CallSite) (ss : List CallSite) → test s ≡ false → first_number test (cond b (s ∷ ss) ss) ≡ first_number test ss
  skipped true s ss e = ap (λ (t : Bool). cond t (Some s.at) (first_number test ss)) e
  skipped false s ss e = refl

  met : (b : Bool) (s : CallSite) (ss : List CallSite) → b ≡ true → test s ≡ true → first_number test (cond b (s ∷ ss) ss) ≡ Some s.at
  met true s ss eb e = ap (λ (t : Bool). cond t (Some s.at) (first_number test ss)) e
  met false s ss eb e = cc

  abbrev first_in : List CallSite → Option ℕ → Option ℕ
  first_in sites place = first_number test (standing place sites)

  in_order : (ns : List ℕ) (m : ℕ) (sites : List CallSite) → AreRising m sites →
      ((n : ℕ) → list_any (λ s. is_same (Some n) s.definition) sites ≡ true → list_any (λ k. k == n) ns ≡ true)
      → earliest (first_in sites) (first_in sites None) ns ≡ first_number test sites
  in_order ns m [] r known = nothing (first_in []) ns (λ n. refl)
  in_order ns m (s ∷ ss) r known =
      by (test s) refl (in_order ns (s.at + 1) ss r.1 (λ n c. known n
      (or_right (is_same (Some n) s.definition) (list_any (λ s. is_same (Some n) s.definition) ss) c)))
    where
      least : (place : Option ℕ) → AtLeast s.at (first_in (s ∷ ss) place)
      least place = least_standing place s.at (s ∷ ss) (omega arith, r.1)

      here : (d : Option ℕ) → s.definition ≡ d → test s ≡ true → earliest (first_in (s ∷ ss)) (first_in (s ∷ ss) None) ns ≡ Some s.at
      here None ed e =
          let top : first_in (s ∷ ss) None ≡ Some s.at = met (is_same None s.definition) s (standing None ss) (ap (λ (o : Option ℕ). is_same None o) ed) e in
          ap (λ (o : Option ℕ). earliest (first_in (s ∷ ss)) o ns) top ∙ stays (first_in (s ∷ ss)) s.at (λ n. least (Some n)) ns
      here (Some k) ed e =
          let same : is_same (Some k) s.definition ≡ true = ap (λ (o : Option ℕ). is_same (Some k) o) ed ∙ to_eq k k refl in
          comes (first_in (s ∷ ss)) s.at (λ n. least (Some n)) (first_in (s ∷ ss) None) ns k (least None)
          (met (is_same (Some k) s.definition) s (standing (Some k) ss) same e)
          (known k (or_left (is_same (Some k) s.definition) (list_any (λ s. is_same (Some k) s.definition) ss) same))

      by : (t : Bool) → test s ≡ t → earliest (first_in ss) (first_in ss None) ns ≡ first_number test ss →
          earliest (first_in (s ∷ ss)) (first_in (s ∷ ss) None) ns ≡ cond t (Some s.at) (first_number test ss)
      by true e ih = here s.definition refl e
      by false e ih =
          let same : first_in (s ∷ ss) ≡ first_in ss = fun_ext (λ place. skipped (is_same place s.definition) s (standing place ss) e) in
          ap (λ (f : Option ℕ → Option ℕ). earliest f (f None) ns) same ∙ ih

  found_at : (what : What) (sites : List CallSite) → FindsAt what (first_number test sites) (first_site test what sites)
  found_at what [] = refl
  found_at what (s ∷ ss) = by (test s) (found_at what ss)
    where
      by : (t : Bool) → FindsAt what (first_number test ss) (first_site test what ss) →
          FindsAt what (cond t (Some s.at) (first_number test ss))
          (cond t (Some (fault s.at what)) (first_site test what ss))
      by true h = refl
      by false h = h

some_standing : (p : CallSite → Bool) (sites : List CallSite) → list_any p sites ≡ true → filter p sites ≡ [] → ⊥
some_standing p [] c e = cc
some_standing p (s ∷ ss) c e = by (p s) c e (λ d f. some_standing p ss d f)
  where
    by : (b : Bool) → (b || list_any p ss) ≡ true → cond b (s ∷ filter p ss) (filter p ss) ≡ [] → (list_any p ss ≡ true → filter p ss ≡ [] → ⊥) → ⊥
    by true c e ih = cc
    by false c e ih = ih c e

module _ (t : Table) (sites : List CallSite) (h : AreCalls t sites) where
  -- what has a call is a definition
  begun : (n : ℕ) → list_any (λ s. is_same (Some n) s.definition) sites ≡ true → list_any (λ k. k == n) (keys t.definitions) ≡ true
  begun n c = sym (present n t.definitions.entries) ∙ by (get nat_eq t.definitions n) refl
    where
      by : (o : Option (List Entry)) → get nat_eq t.definitions n ≡ o → is_some (get nat_eq t.definitions n) ≡ true
      by None e = absurd (some_standing (λ s. is_same (Some n) s.definition) sites c
          (sym (h.held (Some n)) ∙ ap (λ (o : Option (List Entry)). calls_in (Some n) (or_nothing o)) e))
      by (Some es) e = ap (λ (o : Option (List Entry)). is_some o) e

  first_is : (test : CallSite → Bool) → first_call test t ≡ first_number test sites
  first_is test =
      ap (λ (held : Option ℕ → List CallSite). earliest (λ place. first_number test (held place))
      (first_number test (held None)) (keys t.definitions)) (fun_ext h.held)
      ∙ in_order test (keys t.definitions) 1 sites h.rising begun

  pub first_found : (test : CallSite → Bool) (what : What) (found : Option ℕ) → found ≡ first_call test t → FindsAt what found (first_site test what sites)
  first_found test what found e = subst (λ (o : Option ℕ). FindsAt what o (first_site test what sites)) (sym (e ∙ first_is test)) (found_at test what sites)
