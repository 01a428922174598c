-- Parts solved one after another, and the net that they share out.
use Rattle.std.proofs.Common.{arith, ◌≡◌, ℕ, zero, suc, ◌-◌, ◌<◌, ◌≤◌, inl, inr, List, [], ◌∷◌, ◌++◌, length}
use Rattle.std.proofs.Common.{map, refl, sym, ap, subst, ◌∙◌}
use Rattle.std.specs.Prelude.{All, Contains, slice_index_or}
use Rattle.std.proofs.lemmas.Bool.{cases_eq}
use Rattle.std.proofs.lemmas.List.{append-nil, append_assoc, map-append, length-map, get_or-map}
use Rattle.std.proofs.lemmas.List.Elements.{All-map, All-push}
use Rattle.dpl_sign.specs.declared.nets.Net.{Net}
use Rattle.dpl_parts.specs.declared.gathering.Gathered.{Gathered}
use Rattle.dpl_parts.specs.Gathers.{part_of}
use Rattle.dpl_parts.specs.Parts.{IsPartOf}
use Rattle.dpl_parts.specs.Shares.{Part, AreApart, IsInSome, ShareOut}
use Rattle.dpl_sum.specs.declared.combining.SolvedPart.{SolvedPart}
use Rattle.dpl_sum.specs.Laying.{solved_part}
use Rattle.dpl_sum.specs.Solved.{IsSolved}
use Rattle.dpl_sum.specs.Solving.{part_in, AreSolvedTo}

-- ---- a part has no more edges than the whole

module _ (part whole : Net) (node edge : ℕ → ℕ) (h : IsPartOf part whole node edge) where
  rises : (e : ℕ) → e < length part.graph.edges → e ≤ edge e
  rises zero l = omega arith
  rises (suc e) l = let r = rises e (omega (arith, l)) in let o = h.order e (suc e) (omega arith) l in omega (arith, r, o)

  pub part_small : length part.graph.edges ≤ length whole.graph.edges
  part_small = elim (cases_eq (length part.graph.edges) 0) [
    | inl z ↦ omega (arith, z)
    | inr z ↦
        let last = length part.graph.edges - 1 in
        let low : last < length part.graph.edges = omega (arith, z) in
        let r = rises last low in
        let i = h.edges last low in
        omega (arith, r, i, z)
  ]

-- ---- elements of lists that are not empty

abbrev pick : {X : Type 0} (xs : List X) (k : ℕ) → k < length xs → X
pick [] k l = absurd (omega (arith, l))
pick (x ∷ xs) zero l = x
pick (x ∷ xs) (suc k) l = pick xs k (omega (arith, l))

pick_is : {X Y : Type 0} (f : X → Y) (xs : List X) (k : ℕ) (l : k < length xs) (d : Y) → slice_index_or (map f xs) k d ≡ f (pick xs k l)
pick_is f [] k l d = absurd (omega (arith, l))
pick_is f (x ∷ xs) zero l d = refl
pick_is f (x ∷ xs) (suc k) l d = pick_is f xs k (omega (arith, l)) d

pick_at : {X : Type 0} (xs : List X) (k : ℕ) (l : k < length xs) (d : X) → slice_index_or xs k d ≡ pick xs k l
pick_at [] k l d = absurd (omega (arith, l))
pick_at (x ∷ xs) zero l d = refl
pick_at (x ∷ xs) (suc k) l d = pick_at xs k (omega (arith, l)) d

pub edges_few : (whole : Net) (parts : List Gathered) (n : ℕ) → ShareOut whole (map part_of parts)
    → length whole.graph.edges ≤ n → All (λ p. length p.net.graph.edges ≤ n) parts
edges_few whole parts n h few k d l =
    let size = length-map parts part_of in
    let e : slice_index_or (map part_of parts) k (part_of d) ≡ part_of (slice_index_or parts k d) = get_or-map part_of parts k d (part_of d) l in
    let own = subst (λ p. IsPartOf p.net whole p.node p.edge) e (h.are k (part_of d) (omega (arith, l, size))) in
    let s = part_small (slice_index_or parts k d).net whole _ _ own in
    omega (arith, s, few)

-- ---- parts with their solutions share out what the parts do

abbrev bare_of : SolvedPart → Part
bare_of s = part_of s.part

bare_map : (solved : List SolvedPart) → map part_of (map part_in solved) ≡ map bare_of solved
bare_map [] = refl
bare_map (s ∷ solved) = ap (λ zs. part_of s.part ∷ zs) (bare_map solved)

share_bare : (whole : Net) (solved : List SolvedPart) → ShareOut whole (map bare_of solved) → ShareOut whole (map solved_part solved)
share_bare whole solved h =
    let n = length-map solved bare_of in
    let m = length-map solved solved_part in
    record {
      are = λ k d l.
          let low : k < length solved = omega (arith, l, m) in
          let own : IsPartOf (bare_of (pick solved k low)).net whole (bare_of (pick solved k low)).node
          (bare_of (pick solved k low)).edge = subst (λ p. IsPartOf p.net whole p.node p.edge)
          (pick_is bare_of solved k low d) (h.are k d (omega (arith, low, n))) in
          subst (λ p. IsPartOf p.net whole p.node p.edge) (sym (pick_is solved_part solved k low d)) own;
      apart = λ i j d s l.
          let low : j < length solved = omega (arith, l, m) in
          let under : i < length solved = omega (arith, low, s) in
          let own : AreApart (bare_of (pick solved i under)) (bare_of (pick solved j low)) =
          subst (AreApart (bare_of (pick solved i under))) (pick_is bare_of solved j low d)
          (subst (λ p. AreApart p (slice_index_or (map bare_of solved) j d)) (pick_is bare_of solved i under d)
          (h.apart i j d s (omega (arith, low, n)))) in
          let as_solved : AreApart (solved_part (pick solved i under)) (solved_part (pick solved j low)) = own in
          subst (λ p. AreApart p (slice_index_or (map solved_part solved) j d))
          (sym (pick_is solved_part solved i under d))
          (subst (AreApart (solved_part (pick solved i under))) (sym (pick_is solved_part solved j low d))
          as_solved);
      all = λ w l. in_solved w (h.all w l);
    } where
      in_solved : (w : ℕ) → IsInSome (map bare_of solved) w → IsInSome (map solved_part solved) w
      in_solved w i = held i.among where
        held : Contains (map bare_of solved) i.part → IsInSome (map solved_part solved) w
        held (k, l, e) =
            let n = length-map solved bare_of in
            let m = length-map solved solved_part in
            let low : k < length solved = omega (arith, l, n) in
            let s = pick solved k low in
            let at : bare_of s ≡ i.part = sym (pick_is bare_of solved k low i.part) ∙ e in
            let b : i.own < (bare_of s).net.graph.nodes = subst (λ p. i.own < p.net.graph.nodes) (sym at) i.below in
            let is : (bare_of s).node i.own ≡ w = ap (λ (p : Part). p.node i.own) at ∙ i.is in
            record {
              part = solved_part s;
              among = (
                k,
                omega (arith, low, m),
                pick_is solved_part solved k low (solved_part s),
              );
              own = i.own;
              below = b;
              is = is;
            }

pub share_solved : (whole : Net) (parts : List Gathered) (solved : List SolvedPart)
    → ShareOut whole (map part_of parts) → map part_in solved ≡ parts
    → ShareOut whole (map solved_part solved)
share_solved whole parts solved h e = share_bare whole solved (subst (ShareOut whole) (ap (map part_of) (sym e) ∙ bare_map solved) h)

pub all_solved : (solved : List SolvedPart) → All (λ s. IsSolved (solved_part s)) solved → All IsSolved (map solved_part solved)
all_solved solved h = All-map IsSolved solved_part solved h

-- ---- one part after another

pub none_yet : AreSolvedTo [] []
none_yet = record { each = λ k d l. absurd (omega (arith, l)); all = refl }

pub one_solved : (parts : List Gathered) (solved new : List SolvedPart) (p : Gathered) (s : SolvedPart)
    → AreSolvedTo parts solved → s.part ≡ p → IsSolved (solved_part s) → new ≡ solved ++ s ∷ []
    → AreSolvedTo (parts ++ p ∷ []) new
one_solved parts solved new p s h e own is = subst (AreSolvedTo (parts ++ p ∷ [])) (sym is) (record {
  each = All-push (λ z. IsSolved (solved_part z)) solved s h.each own;
  all = map-append part_in solved (s ∷ []) ∙ ap (λ zs. zs ++ part_in s ∷ []) h.all ∙ ap (λ z. parts ++ z ∷ []) e;
})

-- ---- the list that is gone through

pub middle : {X : Type 0} (P : X → Type 0) (xs : List X) (y : X) (zs : List X) → All P (xs ++ y ∷ zs) → P y
middle P [] y zs h = h 0 y (omega arith)
middle P (x ∷ xs) y zs h = middle P xs y zs (λ k d l. h (suc k) d (omega (arith, l)))

pub ended : {X : Type 0} (xs rest all : List X) → xs ++ rest ≡ all → length rest ≡ 0 → xs ≡ all
ended xs [] all e z = sym (append-nil xs) ∙ e
ended xs (y ∷ rest) all e z = absurd (omega (arith, z))

pub one_on : {X : Type 0} (xs rest more all : List X) (y : X) → xs ++ rest ≡ all → rest ≡ y ∷ more → (xs ++ y ∷ []) ++ more ≡ all
one_on xs rest more all y e r = append_assoc xs (y ∷ []) more ∙ ap (λ zs. xs ++ zs) (sym r) ∙ e
