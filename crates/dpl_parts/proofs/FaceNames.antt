-- The faces of a part are faces of the whole, each named by its least dart, and how many there are.
use Rattle.std.proofs.Common.{arith, ◌≡◌, ℕ, zero, suc, ◌+◌, ◌/◌, ◌<◌, ◌≤◌, ◌==◌, ◌&&◌, refl, sym, ap, ◌∙◌, Bool, true, false, inl, inr, length, eq-eqb}
use Rattle.std.proofs.lemmas.Bool.{cases_eq, cases_Bool, ne_eqb}
use Rattle.dpl_cycle.specs.Cycles.{Permutes, cycles, least, without}
use Rattle.dpl_cycle.specs.Sums.{count_on}
use Rattle.dpl_cycle.specs.Among.{others_count}
use Rattle.dpl_cycle.proofs.Steps.{cycles_alone, cycles_more, least_alone, least_top, least_under}
use Rattle.dpl_cycle.proofs.Shorter.{shorter}
use Rattle.dpl_cycle.proofs.Least.{least_le}
use Rattle.dpl_cycle.proofs.Fixed.{least_fixed}
use Rattle.dpl_cycle.proofs.SumLemmas.{count_on_same, count_on_yes, count_on_no}
use Rattle.dpl_cycle.proofs.AmongLemmas.{cycles_members, others_in, others_out}
use Rattle.dpl_sign.specs.declared.nets.Net.{Net}
use Rattle.dpl_sign.specs.Drawings.{dart_count, next_in_face, face_of, face_count, bare_count}
use Rattle.dpl_sign.proofs.Rotation.{face_back, face_permutes, face_out, face_below}
use Rattle.dpl_parts.specs.Parts.{IsPartOf, dart}
use Rattle.dpl_parts.proofs.Darts.{dart_below, dart_apart}
use Rattle.dpl_parts.proofs.Faces.{face_here}
use Rattle.dpl_parts.proofs.Counted.{dart_order}
use Rattle.dpl_sign.proofs.OddCounts.{face_twice}
use Rattle.dpl_parts.proofs.Linked.{from_dart, up_is}

-- ---- cycles by their least numbers

-- there are as many cycles as numbers that are the least of theirs
least_count : (n : ℕ) (f g : ℕ → ℕ) → Permutes n f g → cycles f n ≡ count_on (λ d. least f n d == d) n
least_count zero f g p = refl
least_count (suc n) f g p =
    let q = shorter n f g p in
    let r = least_count n (without n f) (without n g) q in
    let same = count_on_same n (λ d. least f (suc n) d == d) (λ d. least (without n f) n d == d)
    (λ d l. ap (λ z. z == d) (least_under f n d (λ e. omega (arith, e, l)))) in
    elim (cases_eq (f n) n) [
      | inl a ↦
          let c = cycles_alone f n a in
          let s = count_on_yes (λ d. least f (suc n) d == d) n (eq-eqb _ _ (least_alone f n a)) in
          omega (arith, r, same, c, s)
      | inr a ↦
          let c = cycles_more f n a in
          let low : f n < n = let t = p.to n (omega arith) in omega arith in
          let t = least_top f n a in
          let m = least_le n (without n f) (without n g) q (f n) low in
          let s = count_on_no (λ d. least f (suc n) d == d) n (ne_eqb _ _ (λ e. omega (arith, e, t, m, low))) in
          omega (arith, r, same, c, s)
    ]

-- what passes a test does so inside or outside of a set, where all outside passes it
split_count : (p t : ℕ → Bool) (n : ℕ) → ((d : ℕ) → d < n → p d ≡ false → t d ≡ true) → count_on t n ≡ count_on (λ d. p d && t d) n + others_count p n
split_count p t zero h = refl
split_count p t (suc n) h =
    let r = split_count p t n (λ d l. h d (omega arith)) in
    elim (cases_Bool (p n)) [
      | inl a ↦
          let o = others_in p n a in
          let s : (p n && t n) ≡ t n = rw a refl in
          elim (cases_Bool (t n)) [
            | inl b ↦ let x = count_on_yes t n b in let y = count_on_yes (λ d. p d && t d) n (s ∙ b) in omega (arith, r, o, x, y)
            | inr b ↦ let x = count_on_no t n b in let y = count_on_no (λ d. p d && t d) n (s ∙ b) in omega (arith, r, o, x, y)
          ]
      | inr a ↦
          let o = others_out p n a in
          let s : (p n && t n) ≡ false = rw a refl in
          let x = count_on_yes t n (h n (omega arith) a) in
          let y = count_on_no (λ d. p d && t d) n s in
          omega (arith, r, o, x, y)
    ]

-- a dart of the set that is the least of its face
abbrev pub names_face : Net → (ℕ → Bool) → ℕ → Bool
names_face net set d = set (d / 2) && (face_of net set d == d)

-- a face for each such dart and each bare node
pub faces_counted : (net : Net) (set : ℕ → Bool) → face_count net set ≡ count_on (names_face net set) (dart_count net) + bare_count net.graph set
faces_counted net set =
    let n = dart_count net in
    let f = next_in_face net set in
    let g = face_back net set in
    let p : ℕ → Bool = λ d. set (d / 2) in
    let all = face_permutes net set in
    let a = cycles_members n p f g all (λ x l o. face_out net set x o) in
    let b = least_count n f g all in
    let c = split_count p (λ d. least f n d == d) n (λ d l o. eq-eqb _ _ (least_fixed n f d (face_out net set d o))) in
    omega (arith, a, b, c)

-- ---- the faces of a part

module _ (part whole : Net) (node edge : ℕ → ℕ) (h : IsPartOf part whole node edge) (p q : ℕ → Bool)
    (alike : (e : ℕ) → e < length part.graph.edges → q (edge e) ≡ p e) where
  -- the least dart of a face is the least one also in the whole
  pub face_up : (c : ℕ) → c < dart_count part → face_of whole q (dart edge c) ≡ dart edge (face_of part p c)
  face_up c l =
      let high = dart_below part whole node edge h c l in
      let y = face_of whole q (dart edge c) in
      let f = face_of part p c in
      let f_low = face_below part p c l in
      let name : face_of whole q y ≡ y = face_twice whole q (dart edge c) high in
      let (x, lx, rx) = from_dart part whole node edge h p q alike c y l (face_below whole q (dart edge c) high) name in
      let same : face_of part p x ≡ f = face_here part whole node edge h p q alike x c lx l (ap (face_of whole q) rx ∙ name) in
      let below : face_of part p x ≤ x = least_le (dart_count part) (next_in_face part p) (face_back part p) (face_permutes part p) x lx in
      let up : face_of whole q (dart edge f) ≡ y = up_is part whole node edge h p q alike c l in
      let le : face_of whole q (dart edge f) ≤ dart edge f =
      least_le (dart_count whole) (next_in_face whole q) (face_back whole q) (face_permutes whole q) (dart edge f)
      (dart_below part whole node edge h f f_low) in
      elim (cases_eq f x) [
        | inl e ↦ sym rx ∙ ap (dart edge) (sym e)
        | inr e ↦ let o = dart_order part whole node edge h p q alike f x (omega (arith, same, below, e)) lx in absurd (omega (arith, o, up, le, rx))
      ]

  -- a dart of the part names a face in the whole where it does in the part
  pub names_alike : (c : ℕ) → c < dart_count part → names_face whole q (dart edge c) ≡ names_face part p c
  names_alike c l =
      let half : q (dart edge c / 2) ≡ p (c / 2) = ap q (omega arith) ∙ alike (c / 2) (omega arith) in
      let up = face_up c l in
      let own : (face_of whole q (dart edge c) == dart edge c) ≡ (face_of part p c == c) = elim (cases_eq (face_of part p c) c) [
        | inl e ↦ eq-eqb _ _ (up ∙ ap (dart edge) e) ∙ sym (eq-eqb _ _ e)
        | inr e ↦ ne_eqb _ _ (λ s. e (one_dart (face_of part p c) c (face_below part p c l) l (sym up ∙ s))) ∙ sym (ne_eqb _ _ e)
      ] in
      rw (half, own) refl where
        one_dart : (c d : ℕ) → c < dart_count part → d < dart_count part → dart edge c ≡ dart edge d → c ≡ d
        one_dart = dart_apart part whole node edge h
