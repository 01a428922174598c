-- Paths of calls.
use Rattle.std.proofs.Common.{◌≡◌, ◌⊎◌, inl, inr, ℕ, zero, suc, ◌+◌, ◌-◌, ◌≤◌, ◌<◌, Bool, true, false, cond, ◌||◌, ◌==◌}
use Rattle.std.proofs.Common.{List, [], ◌∷◌, map, length, Option, None, Some, MatchOption, refl, sym, ◌∙◌, ap, subst}
use Rattle.std.proofs.Common.{arith, get_or}
use Rattle.std.specs.List.{list_any}
use Rattle.dpl_calls.specs.declared.table.CallSite.{CallSite}
use Rattle.dpl_calls.specs.Parts.{Part, Bodies}
use Rattle.dpl_calls.specs.Parts.Part.{Drawn, Called}
use Rattle.dpl_calls.specs.Loops.{part_leads, leads_to, is_looped, names, calls, Path, LeadsBack}
use Rattle.dpl_calls.specs.Loops.Path.{once, more}
use Rattle.dpl_calls.specs.Places.{place_among, one_further}
use Rattle.dpl_calls.proofs.Cases.{of_eq, to_eq}
use Rattle.std.proofs.lemmas.Bool.{or_left, or_right, or_cases, cases_Bool}
use Rattle.std.proofs.lemmas.List.{length-map}

-- these parts lead there
pub record Out (b : Bodies) (to : ℕ) (parts : List Part) : Type 0 where
  pub n : ℕ
  pub named : list_any (names n) parts ≡ true
  pub on : (n ≡ to) ⊎ Path b n to

out_later : (b : Bodies) (to : ℕ) (p : Part) (parts : List Part) → Out b to parts → Out b to (p ∷ parts)
out_later b to p parts o = record { n = o.n; named = or_right (names o.n p) (list_any (names o.n) parts) o.named; on = o.on }

out_parts : (b : Bodies) (to : ℕ) (inner : List Part → Bool)
    → ((n : ℕ) → inner (b (Some n)) ≡ true → Out b to (b (Some n))) → (parts : List Part)
    → list_any (part_leads b inner to) parts ≡ true → Out b to parts
out_parts b to inner ih [] h = cc
out_parts b to inner ih (Drawn f ∷ ps) h = out_later b to (Drawn f) ps (out_parts b to inner ih ps h)
out_parts b to inner ih (Called n moves ∷ ps) h =
    elim (or_cases (n == to || inner (b (Some n))) (list_any (part_leads b inner to) ps) h) [
      | inl here ↦ record {
        n = n;
        named = or_left (n == n) (list_any (names n) ps) (to_eq n n refl);
        on = elim (or_cases (n == to) (inner (b (Some n))) here) [
          | inl e ↦ inl (of_eq n to e)
          | inr l ↦ inr (let o : Out b to (b (Some n)) = ih n l in elim o.on [
            | inl e ↦ once n to (subst (λ (k : ℕ). calls b n k ≡ true) e o.named)
            | inr p ↦ more n o.n to o.named p
          ])
        ];
      }
      | inr later ↦ out_later b to (Called n moves) ps (out_parts b to inner ih ps later)
    ]

pub leads_out : (k : ℕ) (b : Bodies) (to : ℕ) (parts : List Part) → leads_to k b to parts ≡ true → Out b to parts
leads_out zero b to parts h = cc
leads_out (suc k) b to parts h = out_parts b to (leads_to k b to) (λ n l. leads_out k b to (b (Some n)) l) parts h

in_parts : (b : Bodies) (to n : ℕ) (inner : List Part → Bool) → (n == to || inner (b (Some n))) ≡ true
    → (parts : List Part) → list_any (names n) parts ≡ true → list_any (part_leads b inner to) parts ≡ true
in_parts b to n inner h [] named = cc
in_parts b to n inner h (Drawn f ∷ ps) named = in_parts b to n inner h ps named
in_parts b to n inner h (Called m moves ∷ ps) named =
    elim (or_cases (m == n) (list_any (names n) ps) named) [
      | inl e ↦ or_left (m == to || inner (b (Some m))) (list_any (part_leads b inner to) ps)
          (subst (λ (k : ℕ). (k == to || inner (b (Some k))) ≡ true) (sym (of_eq m n e)) h)
      | inr later ↦ or_right (m == to || inner (b (Some m))) (list_any (part_leads b inner to) ps) (in_parts b to n inner h ps later)
    ]

-- a path is found over as many calls as it has
pub record Found (b : Bodies) (to : ℕ) (parts : List Part) : Type 0 where
  pub k : ℕ
  pub leads : leads_to k b to parts ≡ true

path_found : (b : Bodies) (n to : ℕ) → Path b n to → Found b to (b (Some n))
path_found b _ _ (once n to c) = record { k = 1; leads = in_parts b to to (leads_to 0 b to) (or_left (to == to) false (to_eq to to refl)) (b (Some n)) c }
path_found b _ _ (more n m to c p) =
    let f : Found b to (b (Some m)) = path_found b m to p in
    record { k = suc f.k; leads = in_parts b to m (leads_to f.k b to) (or_right (m == to) (leads_to f.k b to (b (Some m))) f.leads) (b (Some n)) c }

-- ---- as many calls as there are definitions are enough

up : ℕ → ℕ → ℕ
up k zero = k
up k (suc m) = suc (up k m)

up_is : (k m : ℕ) → up k m ≡ k + m
unfolding up
up_is k zero = omega arith
up_is k (suc m) = omega (arith, up_is k m)

parts_same : (b : Bodies) (to : ℕ) (t u : List Part → Bool) → ((n : ℕ) → t (b (Some n)) ≡ u (b (Some n)))
    → (parts : List Part) → list_any (part_leads b t to) parts ≡ list_any (part_leads b u to) parts
parts_same b to t u same [] = refl
parts_same b to t u same (Drawn f ∷ ps) = parts_same b to t u same ps
parts_same b to t u same (Called n moves ∷ ps) = rw (same n, parts_same b to t u same ps) refl

parts_more : (b : Bodies) (to : ℕ) (t u : List Part → Bool)
    → ((n : ℕ) → t (b (Some n)) ≡ true → u (b (Some n)) ≡ true) → (parts : List Part)
    → list_any (part_leads b t to) parts ≡ true → list_any (part_leads b u to) parts ≡ true
parts_more b to t u h [] l = l
parts_more b to t u h (Drawn f ∷ ps) l = parts_more b to t u h ps l
parts_more b to t u h (Called n moves ∷ ps) l =
    elim (or_cases (n == to || t (b (Some n))) (list_any (part_leads b t to) ps) l) [
      | inl here ↦ or_left (n == to || u (b (Some n))) (list_any (part_leads b u to) ps) (elim (or_cases (n == to) (t (b (Some n))) here) [
        | inl e ↦ or_left (n == to) (u (b (Some n))) e
        | inr e ↦ or_right (n == to) (u (b (Some n))) (h n e)
      ])
      | inr later ↦ or_right (n == to || u (b (Some n))) (list_any (part_leads b u to) ps) (parts_more b to t u h ps later)
    ]

leads_more : (k : ℕ) (b : Bodies) (to : ℕ) (parts : List Part) → leads_to k b to parts ≡ true → leads_to (suc k) b to parts ≡ true
leads_more zero b to parts h = cc
leads_more (suc k) b to parts h = parts_more b to (leads_to k b to) (leads_to (suc k) b to) (λ n l. leads_more k b to (b (Some n)) l) parts h

leads_up : (k m : ℕ) (b : Bodies) (to : ℕ) (parts : List Part) → leads_to k b to parts ≡ true → leads_to (up k m) b to parts ≡ true
unfolding up
leads_up k zero b to parts h = h
leads_up k (suc m) b to parts h = leads_more (up k m) b to parts (leads_up k m b to parts h)

trues : List Bool → ℕ
trues [] = 0
trues (true ∷ bs) = suc (trues bs)
trues (false ∷ bs) = trues bs

trues_le : (bs : List Bool) → trues bs ≤ length bs
unfolding trues
trues_le [] = omega arith
trues_le (true ∷ bs) = omega (arith, trues_le bs)
trues_le (false ∷ bs) = omega (arith, trues_le bs)

record Grows (xs ys : List Bool) : Type 0 where
  le : trues xs ≤ trues ys
  same : (xs ≡ ys) ⊎ (trues xs < trues ys)

grows : (f h : ℕ → Bool) → ((n : ℕ) → f n ≡ true → h n ≡ true) → (ks : List ℕ) → Grows (map f ks) (map h ks)
unfolding trues
grows f h m [] = record { le = omega arith; same = inl refl }
grows f h m (k ∷ ks) = by (f k) (h k) (m k) (grows f h m ks)
  where
    by : (x y : Bool) → (x ≡ true → y ≡ true) → Grows (map f ks) (map h ks) → Grows (x ∷ map f ks) (y ∷ map h ks)
    by true true i g = record {
      le = omega (arith, g.le);
      same =
          elim g.same [ inl e ↦ inl (ap (λ (bs : List Bool). true ∷ bs) e) | inr l ↦ inr (omega (arith, l)) ];
    }
    by true false i g = let bad : false ≡ true = i refl in cc
    by false true i g = record { le = omega (arith, g.le); same = inr (omega (arith, g.le)) }
    by false false i g = record { le = g.le; same = elim g.same [ inl e ↦ inl (ap (λ (bs : List Bool). false ∷ bs) e) | inr l ↦ inr l ] }

pub placed_key : (n i : ℕ) (ks : List ℕ) → place_among n ks ≡ Some i → (i < length ks) × (get_or ks i 0 ≡ n)
placed_key n i [] h = cc
placed_key n i (k ∷ ks) h = elim (cases_Bool (n == k)) [
  | inl e ↦ let z : Some 0 ≡ Some i = subst (λ (b : Bool). cond b (Some 0) (one_further (place_among n ks)) ≡ Some i) e h in let q : 0 ≡ i = cc in
      subst (λ (j : ℕ). (j < length (k ∷ ks)) × (get_or (k ∷ ks) j 0 ≡ n)) q (omega arith, sym (of_eq n k e))
  | inr e ↦ later i (λ j q. placed_key n j ks q) (place_among n ks) refl (subst (λ (b : Bool). cond b (Some 0) (one_further (place_among n ks)) ≡ Some i) e h)
]
  where
    later : (i : ℕ) → ((j : ℕ) → place_among n ks ≡ Some j → (j < length ks) × (get_or ks j 0 ≡ n)) → (o : Option ℕ) →
        place_among n ks ≡ o → one_further o ≡ Some i → (i < length (k ∷ ks)) × (get_or (k ∷ ks) i 0 ≡ n)
    later i ih None e f = cc
    later i ih (Some j) e f =
        let q : suc j ≡ i = (let w : j + 1 ≡ i = cc in omega arith) in
        let at = ih j e in
        subst (λ (m : ℕ). (m < length (k ∷ ks)) × (get_or (k ∷ ks) m 0 ≡ n)) q (omega (arith, at.0), at.1)

map_at : (f h : ℕ → Bool) (ks : List ℕ) (i : ℕ) → map f ks ≡ map h ks → i < length ks → f (get_or ks i 0) ≡ h (get_or ks i 0)
map_at f h [] i e l = absurd (omega arith)
map_at f h (k ∷ ks) zero e l = cc
map_at f h (k ∷ ks) (suc i) e l = let tail : map f ks ≡ map h ks = cc in map_at f h ks i tail (omega arith)

module _ (b : Bodies) (to : ℕ) (ks : List ℕ) (only : (n : ℕ) → place_among n ks ≡ None → b (Some n) ≡ []) where
  abbrev led : ℕ → ℕ → Bool
  led k n = leads_to k b to (b (Some n))

  leads_nil : (k : ℕ) → leads_to k b to [] ≡ false
  leads_nil zero = refl
  leads_nil (suc k) = refl

  -- what is the same for all definitions is the same for all numbers
  same_led : (k : ℕ) → map (led k) ks ≡ map (led (suc k)) ks → (n : ℕ) → led k n ≡ led (suc k) n
  same_led k e n = by (place_among n ks) refl
    where
      by : (o : Option ℕ) → place_among n ks ≡ o → led k n ≡ led (suc k) n
      by None h = rw (only n h) (leads_nil k ∙ sym (leads_nil (suc k)))
      by (Some i) h =
          let at = placed_key n i ks h in
          subst (λ (m : ℕ). led k m ≡ led (suc k) m) at.1 (map_at (led k) (led (suc k)) ks i e at.0)

  still_led : (k : ℕ) → ((n : ℕ) → led k n ≡ led (suc k) n) → (m n : ℕ) → led (up k m) n ≡ led k n
  unfolding up
  still_led k e zero n = refl
  still_led k e (suc m) n = sym (next m n) ∙ still_led k e m n
    where
      next : (m n : ℕ) → led (up k m) n ≡ led (suc (up k m)) n
      next zero n = e n
      next (suc m) n = parts_same b to (leads_to (up k m) b to) (leads_to (suc (up k m)) b to) (λ j. next m j) (b (Some n))

  -- it is settled after some calls, or more definitions lead there with each
  pub record Settled (most : ℕ) : Type 0 where
    pub j : ℕ
    pub low : j < most
    pub still : map (led j) ks ≡ map (led (suc j)) ks

  rises : (k : ℕ) → Settled k ⊎ (k ≤ trues (map (led k) ks))
  rises zero = inr (omega arith)
  rises (suc k) = elim (rises k) [
    | inl s ↦ inl (let l : s.j < k = s.low in record { j = s.j; low = omega arith; still = s.still })
    | inr h ↦ let g : Grows (map (led k) ks) (map (led (suc k)) ks) = grows (led k) (led (suc k)) (λ n l. leads_more k b to (b (Some n)) l) ks in elim g.same [
      | inl e ↦ inl (record { j = k; low = omega arith; still = e })
      | inr l ↦ inr (omega arith)
    ]
  ]

  settled : Settled (suc (length ks))
  settled = elim (rises (suc (length ks))) [
    | inl s ↦ s
    | inr h ↦ let l : trues (map (led (suc (length ks))) ks) ≤ length (map (led (suc (length ks))) ks) = trues_le (map (led (suc (length ks))) ks) in
        let e : length (map (led (suc (length ks))) ks) ≡ length ks = length-map ks (led (suc (length ks))) in absurd (omega arith)
  ]

  -- as many calls as there are definitions find what any number finds
  enough : (k n : ℕ) → led k n ≡ true → led (length ks) n ≡ true
  enough k n h =
      let s : Settled (suc (length ks)) = settled in
      let low : s.j < suc (length ks) = s.low in
      let still : (m z : ℕ) → led (up s.j m) z ≡ led s.j z = still_led s.j (same_led s.j s.still) in
      let end : up s.j (length ks - s.j) ≡ length ks = omega (arith, up_is s.j (length ks - s.j), low) in
      let last : led (length ks) n ≡ led s.j n = subst (λ (z : ℕ). led z n ≡ led s.j n) end (still (length ks - s.j) n) in
      let all : up k s.j ≡ up s.j k = omega (arith, up_is k s.j, up_is s.j k) in
      let more : led (up k s.j) n ≡ true = leads_up k s.j b to (b (Some n)) h in
      let there : led (up s.j k) n ≡ true = subst (λ (z : ℕ). led z n ≡ true) all more in
      last ∙ (sym (still k n) ∙ there)

  pub path_leads_to : (n : ℕ) → Path b n to → leads_to (length ks) b to (b (Some n)) ≡ true
  path_leads_to n p = let f : Found b to (b (Some n)) = path_found b n to p in enough f.k n f.leads

  pub leads_to_path : (n : ℕ) → leads_to (length ks) b to (b (Some n)) ≡ true → Path b n to
  leads_to_path n h =
      let o : Out b to (b (Some n)) = leads_out (length ks) b to (b (Some n)) h in
      elim o.on [
        | inl e ↦ once n to (subst (λ (k : ℕ). calls b n k ≡ true) e o.named)
        | inr p ↦ more n o.n to o.named p
      ]

-- a call is looped exactly where it leads back
module _ (b : Bodies) (ks : List ℕ) (only : (n : ℕ) → place_among n ks ≡ None → b (Some n) ≡ []) where
  pub looped_back : (s : CallSite) → is_looped (length ks) b s ≡ true → LeadsBack b s
  unfolding is_looped
  looped_back s h = by s.definition h
    where
      by : (d : Option ℕ) → (elim d as (λ o. Bool) [
        | None ↦ false
        | Some d ↦
            s.called == d || leads_to (length ks) b d (b (Some s.called))
      ]) ≡ true →
          MatchOption d ⊥ (λ d. (s.called ≡ d) ⊎ Path b s.called d)
      by None e = cc
      by (Some d) e = elim (or_cases (s.called == d) (leads_to (length ks) b d (b (Some s.called))) e) [
        | inl q ↦ inl (of_eq s.called d q)
        | inr l ↦ inr (leads_to_path b d ks only s.called l)
      ]

  pub back_looped : (s : CallSite) → LeadsBack b s → is_looped (length ks) b s ≡ true
  unfolding is_looped
  back_looped s h = by s.definition h
    where
      by : (d : Option ℕ) → MatchOption d ⊥ (λ d. (s.called ≡ d) ⊎ Path b s.called d) →
          (elim d as (λ o. Bool) [
            | None ↦ false
            | Some d ↦
                s.called == d || leads_to (length ks) b d (b (Some s.called))
          ]) ≡ true
      by None e = absurd e
      by (Some d) e = elim e [
        | inl q ↦ or_left (s.called == d) (leads_to (length ks) b d (b (Some s.called))) (to_eq s.called d q)
        | inr p ↦ or_right (s.called == d) (leads_to (length ks) b d (b (Some s.called))) (path_leads_to b d ks only s.called p)
      ]
