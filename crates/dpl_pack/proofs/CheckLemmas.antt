-- What is noted of the faces that are held is a flood, where no way is too short.
use Rattle.std.proofs.Common.{arith, ◌≡◌, ◌≢◌, ℕ, zero, suc, ◌+◌, ◌*◌, ◌<◌, ◌≤◌, refl, sym, ap, ◌∙◌, subst, set}
use Rattle.std.proofs.Common.{inl, inr, ◌⊎◌, false, replicate, Option, Some, None, List, length, get_or, length-set, get_or-set_same, get_or-set_other}
use Rattle.std.specs.Option.{is_some}
use Rattle.std.specs.Prelude.{slice_index}
use Rattle.std.proofs.lemmas.Bool.{cases_eq, true≢false}
use Rattle.std.proofs.lemmas.List.{length-map, get_or-map}
use Rattle.dpl_laminar.specs.Families.{Sets, IsFamily}
use Rattle.dpl_laminar.proofs.Sums.{sum_same}
use Rattle.dpl_dual.specs.declared.crosses.Cross.{Cross}
use Rattle.dpl_dual.specs.declared.crosses.Dual.{Dual}
use Rattle.dpl_pack.specs.declared.held.Held.{Held}
use Rattle.dpl_pack.specs.Depths.{gap}
use Rattle.dpl_pack.specs.Points.{Point, water, on, depth_in, apart}
use Rattle.dpl_pack.specs.Climbs.{point_of}
use Rattle.dpl_pack.specs.Floods.{IsFloodOf}
use Rattle.dpl_pack.specs.Notes.{note_at, noted, IsHoldable, AreNoted, AreShortTo, AreSeatedTo, IsShore}
use Rattle.dpl_pack.proofs.OutLemmas.{shore_depth}
use Rattle.dpl_pack.proofs.PointLemmas.{water_on, same_member}

-- ---- what is noted

cases_note : (o : Option (ℕ × ℕ)) → (o ≡ None) ⊎ ((s : ℕ × ℕ) × (o ≡ Some s))
cases_note None = inl refl
cases_note (Some s) = inr (s, refl)

spot_in : Option (ℕ × ℕ) → ℕ × ℕ
spot_in None = (0, 0)
spot_in (Some s) = s

same_spot : (s r : ℕ × ℕ) → Some s ≡ Some r → s ≡ r
unfolding spot_in
same_spot s r e = ap spot_in e

is_none : Option (ℕ × ℕ) → ℕ
is_none None = 1
is_none (Some s) = 0

not_both : (o : Option (ℕ × ℕ)) (s : ℕ × ℕ) → o ≡ Some s → o ≡ None → ⊥
unfolding is_none
not_both o s a b = omega (arith, ap is_none (sym a ∙ b))

-- before the first face is noted nothing is
pub nothing_noted : (d : Dual) (start n : ℕ) (held : List Held) (notes : List (Option (ℕ × ℕ))) → length notes ≡ d.faces
    → ((g : ℕ) → note_at notes g ≡ None) → AreNoted d start n held 0 notes
nothing_noted d start n held notes size none = record {
  sizes = size;
  good = λ j h l. absurd (omega (arith, l));
  each = λ j h l. absurd (omega (arith, l));
  only = λ g s e. absurd (not_both (note_at notes g) s e (none g));
}

-- a list of nothing notes nothing of any face
pub replicate_none : (n g : ℕ) → note_at (replicate n None) g ≡ None
replicate_none zero g = refl
replicate_none (suc n) zero = refl
replicate_none (suc n) (suc g) = replicate_none n g

-- what is not there is none
pub none_from : (o : Option (ℕ × ℕ)) → is_some o ≡ false → o ≡ None
none_from None e = refl
none_from (Some s) e = absurd (true≢false e)

-- a face that may be held and was not noted is noted
pub one_noted : (d : Dual) (start n : ℕ) (held : List Held) (i : ℕ) (notes new : List (Option (ℕ × ℕ))) (x : Held)
    → AreNoted d start n held i notes → i < length held → ((h : Held) → x ≡ get_or held i h) → IsHoldable d start n x
    → note_at notes x.face ≡ None → new ≡ set notes x.face (Some (x.member, x.far)) → AreNoted d start n held (i + 1) new
one_noted d start n held i notes new x w less at good blank e =
    let inside : x.face < length notes = omega (arith, good.face, w.sizes) in
    let here : note_at new x.face ≡ Some (x.member, x.far) =
    ap (λ z. note_at z x.face) e ∙ get_or-set_same notes x.face (Some (x.member, x.far)) None inside in
    let other : (g : ℕ) → g ≢ x.face → note_at new g ≡ note_at notes g = λ g ne.
    ap (λ z. note_at z g) e ∙ get_or-set_other notes x.face g (Some (x.member, x.far)) None ne in
    record {
      sizes = ap length e ∙ length-set notes x.face (Some (x.member, x.far)) ∙ w.sizes;
      good = λ j h l. elim (cases_eq j i) [
        | inl q ↦
            let P : Held → Type 0 = λ z. IsHoldable d start n z in
            subst P (at h ∙ ap (λ z. get_or held z h) (sym q)) good
        | inr ne ↦ w.good j h (omega (arith, l, ne))
      ];
      each = λ j h l. elim (cases_eq j i) [
        | inl q ↦
            let is : x ≡ get_or held j h = at h ∙ ap (λ z. get_or held z h) (sym q) in
            let P : Held → Type 0 = λ z. note_at new z.face ≡ Some (z.member, z.far) in
            subst P is here
        | inr ne ↦
            let old = w.each j h (omega (arith, l, ne)) in
            let apart : (get_or held j h).face ≢ x.face = λ q.
            not_both (note_at notes (get_or held j h).face) ((get_or held j h).member, (get_or held j h).far) old (ap (note_at notes) q ∙ blank) in
            other (get_or held j h).face apart ∙ old
      ];
      only = λ g s q. elim (cases_eq g x.face) [
        | inl f ↦ (i, omega arith, (λ h. ap (λ (z : Held). z.face) (sym (at h)) ∙ sym f))
        | inr ne ↦
            let old = w.only g s (sym (other g ne) ∙ q) in
            (old.0, omega (arith, old.1), old.2)
      ];
    }

-- each member that is noted is one of so many
pub noted_member : (d : Dual) (start n : ℕ) (held : List Held) (i : ℕ) (notes : List (Option (ℕ × ℕ))) (h : Held)
    → AreNoted d start n held i notes → (g : ℕ) (s : ℕ × ℕ) → note_at notes g ≡ Some s → s.0 < n
noted_member d start n held i notes h w g s e =
    let r = w.only g s e in
    let x : Held = get_or held r.0 h in
    let there = w.each r.0 h r.1 in
    let same : s ≡ (x.member, x.far) = same_spot s (x.member, x.far) (sym e ∙ ap (note_at notes) (sym (r.2 h)) ∙ there) in
    omega (arith, (w.good r.0 h r.1).member, ap (λ (z : ℕ × ℕ). z.0) same)

-- ---- the shore stands for open water

depths_apart : (f : Sets) (p p' q : Point) → ((k : ℕ) → k < 2 * f.size → depth_in f p k ≡ depth_in f p' k) → apart f p q ≡ apart f p' q
depths_apart f p p' q e = sum_same (2 * f.size) (λ k. gap (depth_in f p k) (depth_in f q k)) (λ k. gap (depth_in f p' k) (depth_in f q k))
    (λ k hk. ap (λ z. gap z (depth_in f q k)) (e k hk))

apart_depths : (f : Sets) (p q q' : Point) → ((k : ℕ) → k < 2 * f.size → depth_in f q k ≡ depth_in f q' k) → apart f p q ≡ apart f p q'
apart_depths f p q q' e = sum_same (2 * f.size) (λ k. gap (depth_in f p k) (depth_in f q k)) (λ k. gap (depth_in f p k) (depth_in f q' k))
    (λ k hk. ap (gap (depth_in f p k)) (e k hk))

-- what stands for a face
pub record StandsFor (notes : List (Option (ℕ × ℕ))) (shore : ℕ × ℕ) (g : ℕ) (r : ℕ × ℕ) : Type 0 where
  pub some : (s : ℕ × ℕ) → note_at notes g ≡ Some s → r ≡ s
  pub none : note_at notes g ≡ None → r ≡ shore

stand_depth : (f : Sets) → IsFamily f → (notes : List (Option (ℕ × ℕ))) (shore r : ℕ × ℕ) (g : ℕ) → IsShore f shore
    → StandsFor notes shore g r → (k : ℕ) → k < 2 * f.size → depth_in f (on r.0 r.1) k ≡ depth_in f (noted notes g) k
stand_depth f fam notes shore r g sh w k hk = elim (cases_note (note_at notes g)) [
  | inl e ↦
      let is = w.none e in
      ap (λ (z : ℕ × ℕ). depth_in f (on z.0 z.1) k) is ∙ shore_depth f fam shore.0 shore.1 k sh.member sh.far hk ∙
      sym (ap (λ z. depth_in f (point_of z) k) e)
  | inr s ↦
      let is = w.some s.0 s.1 in
      ap (λ (z : ℕ × ℕ). depth_in f (on z.0 z.1) k) is ∙ sym (ap (λ z. depth_in f (point_of z) k) s.1)
]

-- what stands for two faces is as far apart as their points
pub stands_apart : (f : Sets) → IsFamily f → (notes : List (Option (ℕ × ℕ))) (shore r s : ℕ × ℕ) (g h : ℕ) → IsShore f shore
    → StandsFor notes shore g r → StandsFor notes shore h s
    → apart f (on r.0 r.1) (on s.0 s.1) ≡ apart f (noted notes g) (noted notes h)
stands_apart f fam notes shore r s g h sh a b =
    depths_apart f (on r.0 r.1) (noted notes g) (on s.0 s.1) (stand_depth f fam notes shore r g sh a) ∙
    apart_depths f (noted notes g) (on s.0 s.1) (noted notes h) (stand_depth f fam notes shore s h sh b)

-- and what stands for one is as far from a seat
pub stands_seat : (f : Sets) → IsFamily f → (notes : List (Option (ℕ × ℕ))) (shore r : ℕ × ℕ) (g t : ℕ) → IsShore f shore
    → StandsFor notes shore g r → apart f (on r.0 r.1) (on t 0) ≡ apart f (noted notes g) (on t 0)
stands_seat f fam notes shore r g t sh a =
    depths_apart f (on r.0 r.1) (noted notes g) (on t 0) (stand_depth f fam notes shore r g sh a)

-- ---- all ways, all seats

-- one way more is long enough
pub short_more : (f : Sets) (point : ℕ → Point) (ways : List Cross) (i : ℕ) → i < length ways
    → ((x : Cross) → apart f (point (get_or ways i x).f) (point (get_or ways i x).g) ≤ (get_or ways i x).length)
    → AreShortTo f point ways i → AreShortTo f point ways (i + 1)
short_more f point ways i less here all k x l = elim (cases_eq k i) [
  | inl e ↦
      let P : ℕ → Type 0 = λ z. apart f (point (get_or ways z x).f) (point (get_or ways z x).g) ≤ (get_or ways z x).length in
      subst P (sym e) (here x)
  | inr ne ↦ all k x (omega (arith, l, ne))
]

-- one odd face more has the point of its seat
pub seated_more : (f : Sets) (point : ℕ → Point) (terminals : List ℕ) (i : ℕ)
    → apart f (point (get_or terminals i 0)) (on i 0) ≡ 0 → AreSeatedTo f point terminals i → AreSeatedTo f point terminals (i + 1)
seated_more f point terminals i here all t l = elim (cases_eq t i) [
  | inl e ↦
      let P : ℕ → Type 0 = λ z. apart f (point (get_or terminals z 0)) (on z 0) ≡ 0 in
      subst P (sym e) here
  | inr ne ↦ all t (omega (arith, l, ne))
]

-- what is checked is a flood
pub flood_checked : (d : Dual) (terminals : List ℕ) (f : Sets) (n : ℕ) (held : List Held) (notes : List (Option (ℕ × ℕ))) (h : Held)
    → n ≡ f.size → f.size ≡ length terminals → AreNoted d (get_or terminals 0 0) n held (length held) notes
    → AreSeatedTo f (noted notes) terminals (length terminals) → AreShortTo f (noted notes) d.crosses (length d.crosses)
    → IsFloodOf d terminals f held
flood_checked d terminals f n held notes h size count w seats ways =
    let some : (g : ℕ) → noted notes g ≢ water → (s : ℕ × ℕ) × (note_at notes g ≡ Some s) = λ g dry. elim (cases_note (note_at notes g)) [
      | inl e ↦ absurd (dry (ap point_of e))
      | inr s ↦ s
    ] in
    record {
      point = noted notes;
      are = record {
        each = λ k x l. ap point_of (w.each k x l);
        all = λ g dry.
            let s = some g dry in
            let r = w.only g s.0 s.1 in
            (r.0, omega (arith, r.1, length-map held (λ (x : Held). x.face)), get_or-map (λ (x : Held). x.face) held r.0 h g r.1 ∙ r.2 h);
      };
      flood = record {
        members = λ g t far e.
            let s = some g (λ q. water_on t far (sym q ∙ e)) in
            let p : on s.0.0 s.0.1 ≡ on t far = sym (ap point_of s.1) ∙ e in
            omega (arith, noted_member d (get_or terminals 0 0) n held (length held) notes h w g s.0 s.1, same_member s.0.0 t s.0.1 far p, size);
        seats = λ t ht. seats t (omega (arith, ht, count));
        ways = λ k x l. ways k x l;
        home = λ g dry.
            let s = some g dry in
            let r = w.only g s.0 s.1 in
            let good = w.good r.0 h r.1 in
            let at = r.2 h in
            (omega (arith, good.face, at), sym (ap (slice_index d.part) at) ∙ good.part);
      };
    }
