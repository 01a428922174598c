-- The places between sides that are taken in pairs.
use Rattle.std.proofs.Common.{arith, ◌≡◌, ℕ, suc, ◌+◌, ◌-◌, ◌%◌, ◌≤◌, ℤ, pos, ◌<ℤ◌, ◌≤ℤ◌, List, length, get_or, take}
use Rattle.std.proofs.Common.{drop, ◌∙◌, All, refl, sym, ap, ◌∷◌, [], ◌++◌, ◌||◌, ◌==◌, int_le, false}
use Rattle.std.proofs.lemmas.Int.{ints}
use Rattle.std.proofs.lemmas.List.{take_all}
use Rattle.std.proofs.lemmas.List.Elements.{All-tail, All-head}
use Rattle.dpl_cell.specs.Ranges.{IsInRange}
use Rattle.dpl_cell.specs.Layers.{is_within}
use Rattle.dpl_cell.specs.declared.stretch.Stretch.{Stretch}
use Rattle.dpl_cell.specs.Stretches.{is_in_stretches}
use Rattle.dpl_list.specs.Order.{Ascends}
use Rattle.dpl_tiles.specs.Stretches.{AddsPlaces}
use Rattle.dpl_tiles.specs.Sides.{at_or_left}
use Rattle.std.proofs.Math.Bool.{or-false, or_assoc}
use Rattle.dpl_list.proofs.Integers.{signed}
use Rattle.dpl_cell.proofs.StretchLemmas.{within_none, in_pushed}
use Rattle.dpl_tiles.proofs.SideLemmas.{bit, left_cons}

-- nothing stands left of numbers that are greater
pub left_none : (x z : ℤ) (zs : List ℤ) → x <ℤ z → All (λ w. z ≤ℤ w) zs → at_or_left x zs ≡ 0
left_none x z [] h a = refl
left_none x z (w ∷ ws) h a =
    let f : z ≤ℤ w = All-head (λ w. z ≤ℤ w) w ws a in
    let g : bit (int_le w x) ≡ 0 = far w x (omega signed) in
    left_cons x w ws ∙ omega (arith, g, left_none x z ws h (All-tail (λ w. z ≤ℤ w) w ws a)) where
      far : (w x : ℤ) → x <ℤ w → bit (int_le w x) ≡ 0
      far w x h = grind (arith, ints)

-- the parity of a pair and a rest
pair_places : (a b x : ℤ) (rest : ℕ) → a ≤ℤ b → (x <ℤ b → rest ≡ 0)
    → ((bit (int_le a x) + (bit (int_le b x) + rest)) % 2 == 1) ≡ (is_within a b x || (rest % 2 == 1))
pair_places a b x rest h none = grind (arith, ints)

-- the places between the pairs so far, and those of the sides that are left
pub record Pairing (old : List Stretch) (sides : List ℤ) (parts : List Stretch) (rest : List ℤ) : Type 0 where
  pub sorted : Ascends (λ z. z) rest
  pub even : length rest % 2 ≡ 0
  pub range : All IsInRange rest
  pub same : (x : ℤ) → (is_in_stretches parts x || (at_or_left x rest % 2 == 1)) ≡ (is_in_stretches old x || (at_or_left x sides % 2 == 1))

pub pairing_none : (old : List Stretch) (sides : List ℤ) → Ascends (λ z. z) sides → length sides % 2 ≡ 0 → All IsInRange sides → Pairing old sides old sides
pairing_none old sides s e r = record { sorted = s; even = e; range = r; same = λ x. refl }

pair_split : (a b x : ℤ) (rest : List ℤ) → Ascends (λ z. z) (a ∷ b ∷ rest)
    → (at_or_left x (a ∷ b ∷ rest) % 2 == 1) ≡ (is_within a b x || (at_or_left x rest % 2 == 1))
pair_split a b x rest s =
    let h : at_or_left x (a ∷ b ∷ rest) ≡ bit (int_le a x) + (bit (int_le b x) + at_or_left x rest) =
    left_cons x a (b ∷ rest) ∙ ap (λ n. bit (int_le a x) + n) (left_cons x b rest) in
    rw h (pair_places a b x (at_or_left x rest) (s 0 1 a (omega arith) (omega arith))
    (λ g. left_none x b rest g (λ k d l. s 1 (suc (suc k)) d (omega arith) (omega arith))))

tail_sorted : (a b : ℤ) (rest : List ℤ) → Ascends (λ z. z) (a ∷ b ∷ rest) → Ascends (λ z. z) rest
tail_sorted a b rest s i j d h l = s (suc (suc i)) (suc (suc j)) d (omega arith) (omega arith)

tail_range : (a b : ℤ) (rest : List ℤ) → All IsInRange (a ∷ b ∷ rest) → All IsInRange rest
tail_range a b rest r k d l = r (suc (suc k)) d (omega arith)

pub pairing_more : (old : List Stretch) (sides : List ℤ) (parts new : List Stretch) (rest others : List ℤ) (a b : ℤ) (s : Stretch)
    → Pairing old sides parts rest → rest ≡ a ∷ b ∷ others → new ≡ parts ++ s ∷ [] → s.from ≡ a → s.to ≡ b
    → Pairing old sides new others
pairing_more old sides parts new rest others a b s p e f g h =
    let sorted' : Ascends (λ z. z) (a ∷ b ∷ others) = rw e at p.sorted in
    let even' : length (a ∷ b ∷ others) % 2 ≡ 0 = rw e at p.even in
    let range' : All IsInRange (a ∷ b ∷ others) = rw e at p.range in
    record {
      sorted = tail_sorted a b others sorted';
      even = omega (arith, even');
      range = tail_range a b others range';
      same = λ x. let q : (is_in_stretches parts x || (at_or_left x (a ∷ b ∷ others) % 2 == 1))
          ≡ (is_in_stretches old x || (at_or_left x sides % 2 == 1)) = rw e at (p.same x) in
          let t : is_in_stretches new x ≡ (is_in_stretches parts x || is_within a b x) = rw (f, in_pushed parts s x, g, h) refl in
          ap (λ c. c || (at_or_left x others % 2 == 1)) t ∙ or_assoc (is_in_stretches parts x) _ _ ∙
          ap (λ c. is_in_stretches parts x || c) (sym (pair_split a b x others sorted')) ∙ q;
    }

pub pairing_skip : (old : List Stretch) (sides : List ℤ) (parts : List Stretch) (rest others : List ℤ) (a b : ℤ)
    → Pairing old sides parts rest → rest ≡ a ∷ b ∷ others → b ≤ℤ a → Pairing old sides parts others
pairing_skip old sides parts rest others a b p e f =
    let sorted' : Ascends (λ z. z) (a ∷ b ∷ others) = rw e at p.sorted in
    let even' : length (a ∷ b ∷ others) % 2 ≡ 0 = rw e at p.even in
    let range' : All IsInRange (a ∷ b ∷ others) = rw e at p.range in
    record {
      sorted = tail_sorted a b others sorted';
      even = omega (arith, even');
      range = tail_range a b others range';
      same = λ x. let q : (is_in_stretches parts x || (at_or_left x (a ∷ b ∷ others) % 2 == 1))
          ≡ (is_in_stretches old x || (at_or_left x sides % 2 == 1)) = rw e at (p.same x) in
          let t : is_within a b x ≡ false = within_none a b x f in
          ap (λ c. is_in_stretches parts x || c) (sym (pair_split a b x others sorted' ∙ ap (λ c. c || (at_or_left x others % 2 == 1)) t)) ∙ q;
    }

pub pairing_end : (old : List Stretch) (sides : List ℤ) (parts : List Stretch) (rest : List ℤ)
    → Pairing old sides parts rest → rest ≡ [] → AddsPlaces (λ x. at_or_left x sides % 2 == 1) old parts
pairing_end old sides parts rest p e = λ x.
    let q : (is_in_stretches parts x || (at_or_left x [] % 2 == 1)) ≡ (is_in_stretches old x || (at_or_left x sides % 2 == 1)) = rw e at (p.same x) in
    sym (or-false _) ∙ q

pub pair_front : (rest : List ℤ) → 2 ≤ length rest → rest ≡ get_or rest 0 (pos 0) ∷ get_or rest 1 (pos 0) ∷ take (length rest - 2) (drop 2 rest)
pair_front [] h = absurd (omega arith)
pair_front (x ∷ []) h = absurd (omega arith)
pair_front (x ∷ y ∷ zs) h = ap (λ (l : List ℤ). x ∷ y ∷ l) (sym (take_all (length (x ∷ y ∷ zs) - 2) zs (omega arith)))
