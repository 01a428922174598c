-- Where a command is cut out, its semicolon stands.
use Rattle.std.proofs.Common.{arith, ◌≡◌, ◌∙◌, ◌==◌, ℕ, suc, ◌+◌, ◌-◌, true, false, List, [], ◌∷◌, ◌++◌, length, refl, ap, add-zero, Some}
use Rattle.std.specs.List.{list_all}
use Rattle.std.proofs.lemmas.Bool.Decides.{nat_tests}
use Rattle.dpl_lex.specs.Cutting.{cut, with_span, span}
use Rattle.dpl_lex.specs.CuttingLaws.{is_inside}
use Rattle.dpl_lex.specs.declared.cutting.Place.{Place}
use Rattle.dpl_lex.specs.declared.cutting.Place.TheVariants.{Between, Inside, Comment}
use Rattle.dpl_lex.specs.declared.types.Ending.TheVariants.{End}

-- from here to the semicolon of a command that began before
pub record ToSemicolon (place : Place) (start at : ℕ) (bs : List ℕ) : Type 0 where
  pub body : List ℕ
  pub others : List ℕ
  pub is : bs ≡ body ++ (59 ∷ others)
  pub cuts : cut place at bs ≡ with_span (Some (span start (at + length body))) (cut Between (at + length body + 1) others)

-- with a byte before
byte_before : (place from : Place) (start at b : ℕ) (bs : List ℕ)
    → cut place at (b ∷ bs) ≡ cut from (at + 1) bs → ToSemicolon from start (at + 1) bs
    → ToSemicolon place start at (b ∷ bs)
byte_before place from start at b bs e t =
    let size : at + 1 + length t.body ≡ at + suc (length t.body) = omega arith in
    record {
      body = b ∷ t.body;
      others = t.others;
      is = ap (λ x. b ∷ x) t.is;
      cuts = e ∙ (rw size at t.cuts);
    }

-- the same where no semicolon stands in between
pub record PlainToSemicolon (start at : ℕ) (bs : List ℕ) : Type 0 where
  pub to : ToSemicolon (Inside start) start at bs
  pub plain : list_all is_inside to.body ≡ true

semicolon_here : (start at b : ℕ) (bs : List ℕ) → (b == 59) ≡ true → PlainToSemicolon start at (b ∷ bs)
semicolon_here start at b bs e =
    let same : b ≡ 59 = grind (arith, nat_tests) in
    record {
      to = record {
        body = [];
        others = bs;
        is = ap (λ x. x ∷ bs) same;
        cuts = rw (e, add-zero) refl;
      };
      plain = refl;
    }

plain_before : (start at b : ℕ) (bs : List ℕ) → (b == 59) ≡ false → PlainToSemicolon start (at + 1) bs → PlainToSemicolon start at (b ∷ bs)
unfolding byte_before
plain_before start at b bs e t = record {
  to = byte_before (Inside start) (Inside start) start at b bs (rw e refl) t.to;
  plain = rw e t.plain;
}

pub inside_cuts : (bs : List ℕ) (start at : ℕ) → (cut (Inside start) at bs).ending ≡ End → PlainToSemicolon start at bs
inside_cuts [] start at h = absurd (cc)
inside_cuts (b ∷ bs) start at h = (elim (b == 59) as (λ t. (b == 59) ≡ t → PlainToSemicolon start at (b ∷ bs)) [
  | true ↦ λ e. semicolon_here start at b bs e
  | false ↦ λ e. plain_before start at b bs e (inside_cuts bs start (at + 1) (rw e at h))
]) refl

-- in a comment, up to its end and on
pub comment_cuts : (bs : List ℕ) (start depth at : ℕ) → (cut (Comment start depth) at bs).ending ≡ End → ToSemicolon (Comment start depth) start at bs
comment_cuts [] start depth at h = absurd (cc)
comment_cuts (b ∷ bs) start depth at h = (elim (b == 40) as (λ t. (b == 40) ≡ t → ToSemicolon (Comment start depth) start at (b ∷ bs)) [
  | true ↦ λ e.
      let q : cut (Comment start depth) at (b ∷ bs) ≡ cut (Comment start (depth + 1)) (at + 1) bs = rw e refl in
      byte_before (Comment start depth) (Comment start (depth + 1)) start at b bs q (comment_cuts bs start (depth + 1) (at + 1) (rw q at h))
  | false ↦ λ e. (elim (b == 41) as (λ t. (b == 41) ≡ t → ToSemicolon (Comment start depth) start at (b ∷ bs)) [
    | true ↦ λ f. (elim (depth == 0) as (λ t. (depth == 0) ≡ t → ToSemicolon (Comment start depth) start at (b ∷ bs)) [
      | true ↦ λ g.
          let q : cut (Comment start depth) at (b ∷ bs) ≡ cut (Inside start) (at + 1) bs = rw (e, f, g) refl in
          byte_before (Comment start depth) (Inside start) start at b bs q (inside_cuts bs start (at + 1) (rw q at h)).to
      | false ↦ λ g.
          let q : cut (Comment start depth) at (b ∷ bs) ≡ cut (Comment start (depth - 1)) (at + 1) bs = rw (e, f, g) refl in
          byte_before (Comment start depth) (Comment start (depth - 1)) start at b bs q (comment_cuts bs start (depth - 1) (at + 1) (rw q at h))
    ]) refl
    | false ↦ λ f.
        let q : cut (Comment start depth) at (b ∷ bs) ≡ cut (Comment start depth) (at + 1) bs = rw (e, f) refl in
        byte_before (Comment start depth) (Comment start depth) start at b bs q (comment_cuts bs start depth (at + 1) (rw q at h))
  ]) refl
]) refl
