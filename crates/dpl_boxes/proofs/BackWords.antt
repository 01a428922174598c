-- What is read as a part of a command is written so.
use Rattle.std.proofs.Common.{arith, ◌≡◌, ◌∙◌, ◌==◌, ℕ, true, false, List, [], ◌∷◌, ◌++◌, refl, sym, subst, ap, append_assoc, Option, None, Some}
use Rattle.std.specs.Prelude.{ℤ, unsigned_abs}
use Rattle.std.specs.List.{list_all}
use Rattle.std.proofs.lemmas.Bool.{and_parts}
use Rattle.std.proofs.lemmas.Bool.Decides.{nat_tests}
use Rattle.dpl_lex.specs.Classes.{is_blank, is_separator, drop_while}
use Rattle.dpl_lex.specs.Number.{digits_value, of_magnitude, of_negated, digits_at, signed_digits_at}
use Rattle.dpl_rules.specs.declared.command.Spot.{Spot}
use Rattle.dpl_rules.specs.Readers.{◌>>=◌, number_at_front, letter, at_front, signed_of, unsigned_of, spot, spot_of}
use Rattle.dpl_boxes.specs.Written.{Word, spot_words, is_moderate, AreDigits, IsSigned, IsSpelled, IsGap, AreBlanks, is_apart, AreBehind}
use Rattle.dpl_boxes.specs.Written.Word.{Letters, Number, Integer}
use Rattle.dpl_boxes.specs.Written.IsSigned.{plain, minus}
use Rattle.dpl_boxes.proofs.WordLemmas.{moderate}
use Rattle.dpl_boxes.proofs.BackNumbers.{from_some, split, digits_read, are_digits, plain_stands, minus_stands}

-- a word that stands at the front of a text
pub record Stood (w : Word) (text rest : List ℕ) : Type 0 where
  pub gap : List ℕ
  pub bytes : List ℕ
  pub between : IsGap w gap
  pub spelled : IsSpelled w bytes
  pub is : text ≡ gap ++ (bytes ++ rest)
  pub apart : is_apart w rest ≡ true

pub stood_behind : (v w : Word) (ws : List Word) (text rest : List ℕ) → Stood w text rest
    → is_apart v text ≡ true → AreBehind w ws rest → AreBehind v (w ∷ ws) text
stood_behind v w ws text rest s a h = (s.gap, s.bytes, rest, s.between, s.spelled, s.is, a, h)

-- one step of a reader was made
pub record Bound {A B : Type 0} (o : Option A) (f : A → Option B) (b : B) : Type 0 where
  pub value : A
  pub is : o ≡ Some value
  pub next : f value ≡ Some b

pub bound : {A B : Type 0} → (o : Option A) (f : A → Option B) (b : B) → (o >>= f) ≡ Some b → Bound o f b
bound None f b h = absurd (cc)
bound (Some a) f b h = record { value = a; is = refl; next = h }

-- an integer

is_minus : (b : ℕ) → (b == 45) ≡ true → b ≡ 45
is_minus b t = grind (arith, nat_tests)

without_minus : (gap bs whole : List ℕ) (z : ℤ) (rest : List ℕ) → is_moderate (Integer z) ≡ true
    → list_all is_separator gap ≡ true → whole ≡ gap ++ bs
    → number_at_front (digits_at of_magnitude whole bs).0 (digits_at of_magnitude whole bs).1 ≡ Some (z, rest)
    → Stood (Integer z) whole rest
without_minus gap bs whole z rest m g e h =
    let d = digits_read of_magnitude whole bs z rest h in
    let s = plain_stands (digits_value 0 (d.first ∷ d.others)) z rest (moderate (unsigned_abs z) m) d.found in
    let a = are_digits d.first d.others d.digit d.all s.few in
    record {
      gap = gap;
      bytes = d.first ∷ d.others;
      between = g;
      spelled = subst (λ y. IsSigned y (d.first ∷ d.others)) s.same (plain (digits_value 0 (d.first ∷ d.others)) (d.first ∷ d.others) a);
      is = e ∙ ap (λ x. gap ++ x) d.is;
      apart = d.apart;
    }

behind_minus : (gap : List ℕ) (b : ℕ) (bs whole : List ℕ) (z : ℤ) (rest : List ℕ)
    → is_moderate (Integer z) ≡ true → list_all is_separator gap ≡ true → whole ≡ gap ++ (b ∷ bs) → b ≡ 45
    → number_at_front (digits_at of_negated whole bs).0 (digits_at of_negated whole bs).1 ≡ Some (z, rest)
    → Stood (Integer z) whole rest
behind_minus gap b bs whole z rest m g e b45 h =
    let d = digits_read of_negated whole bs z rest h in
    let s = minus_stands (digits_value 0 (d.first ∷ d.others)) z rest (moderate (unsigned_abs z) m) d.found in
    let a = are_digits d.first d.others d.digit d.all s.few in
    let all : b ∷ bs ≡ (45 ∷ d.first ∷ d.others) ++ rest = λ i. b45 i ∷ d.is i in
    record {
      gap = gap;
      bytes = 45 ∷ d.first ∷ d.others;
      between = g;
      spelled = subst (λ y. IsSigned y (45 ∷ d.first ∷ d.others)) s.same (minus (digits_value 0 (d.first ∷ d.others)) (d.first ∷ d.others) a);
      is = e ∙ ap (λ x. gap ++ x) all;
      apart = d.apart;
    }

signed_digits : (gap bs whole : List ℕ) (z : ℤ) (rest : List ℕ) → is_moderate (Integer z) ≡ true
    → list_all is_separator gap ≡ true → whole ≡ gap ++ bs
    → number_at_front (signed_digits_at whole bs).0 (signed_digits_at whole bs).1 ≡ Some (z, rest)
    → Stood (Integer z) whole rest
signed_digits gap [] whole z rest m g e h = absurd (cc)
signed_digits gap (b ∷ bs) whole z rest m g e h = (elim (b == 45) as (λ t. (b == 45) ≡ t → Stood (Integer z) whole rest) [
  | true ↦ λ t. behind_minus gap b bs whole z rest m g e (is_minus b t) (rw t at h)
  | false ↦ λ t. without_minus gap (b ∷ bs) whole z rest m g e (rw t at h)
]) refl

pub signed_stood : (text : List ℕ) (z : ℤ) (rest : List ℕ) → is_moderate (Integer z) ≡ true → signed_of text ≡ Some (z, rest) → Stood (Integer z) text rest
signed_stood text z rest m h =
    let s = split is_separator text in
    signed_digits s.front s.rest text z rest m s.all s.is (rw s.drop at h)

-- a number without a sign

count_digits : (gap bs whole : List ℕ) (z : ℤ) (rest : List ℕ) → is_moderate (Number (unsigned_abs z)) ≡ true
    → list_all is_separator gap ≡ true → whole ≡ gap ++ bs
    → number_at_front (digits_at of_magnitude whole bs).0 (digits_at of_magnitude whole bs).1 ≡ Some (z, rest)
    → Stood (Number (unsigned_abs z)) whole rest
count_digits gap bs whole z rest m g e h =
    let d = digits_read of_magnitude whole bs z rest h in
    let s = plain_stands (digits_value 0 (d.first ∷ d.others)) z rest (moderate (unsigned_abs z) m) d.found in
    let a = are_digits d.first d.others d.digit d.all s.few in
    record {
      gap = gap;
      bytes = d.first ∷ d.others;
      between = g;
      spelled = subst (λ y. AreDigits (unsigned_abs y) (d.first ∷ d.others)) s.same a;
      is = e ∙ ap (λ x. gap ++ x) d.is;
      apart = d.apart;
    }

count_from : (text : List ℕ) (p : ℤ × List ℕ) → is_moderate (Number (unsigned_abs p.0)) ≡ true
    → number_at_front (digits_at of_magnitude text (drop_while is_separator text)).0 (digits_at of_magnitude text (drop_while is_separator text)).1 ≡ Some p
    → Stood (Number (unsigned_abs p.0)) text p.1
count_from text p m h =
    let s = split is_separator text in
    count_digits s.front s.rest text p.0 p.1 m s.all s.is (rw s.drop at h)

-- told for both parts at once, so that they may be rewritten
abbrev StoodCount : List ℕ → ℕ × List ℕ → Type 0
StoodCount text q = is_moderate (Number q.0) ≡ true → Stood (Number q.0) text q.1

pub unsigned_stood : (text : List ℕ) (n : ℕ) (rest : List ℕ) → is_moderate (Number n) ≡ true → unsigned_of text ≡ Some (n, rest) → Stood (Number n) text rest
unsigned_stood text n rest m h =
    let t = bound _ (λ (q : ℤ × List ℕ). Some (unsigned_abs q.0, q.1)) (n, rest) h in
    let e : ◌≡◌ {A = ℕ × List ℕ} (unsigned_abs t.value.0, t.value.1) (n, rest) = from_some (unsigned_abs t.value.0, t.value.1) (n, rest) t.next in
    subst (StoodCount text) e (λ k. count_from text t.value k t.is) m

-- a letter

front_letter : (b : ℕ) (gap bs text rest : List ℕ) → AreBlanks gap → text ≡ gap ++ bs → at_front b bs ≡ Some rest → Stood (Letters (b ∷ [])) text rest
front_letter b gap [] text rest g e h = absurd (cc)
front_letter b gap (c ∷ bs) text rest g e h = (elim (c == b) as (λ t. (c == b) ≡ t → Stood (Letters (b ∷ [])) text rest) [
  | true ↦ λ t. at_letter (same_letter t) (from_some bs rest (rw t at h))
  | false ↦ λ t. let n : ◌≡◌ {A = Option (List ℕ)} None (Some rest) = rw t at h in absurd (cc)
]) refl
  where
    same_letter : (c == b) ≡ true → c ≡ b
    same_letter t = grind (arith, nat_tests)

    at_letter : c ≡ b → bs ≡ rest → Stood (Letters (b ∷ [])) text rest
    at_letter k r = record {
      gap = gap;
      bytes = b ∷ [];
      between = g;
      spelled = refl;
      is = e ∙ ap (λ x. gap ++ x) (λ i. k i ∷ r i);
      apart = refl;
    }

pub letter_stood : (b : ℕ) (text rest : List ℕ) → letter b text ≡ Some rest → Stood (Letters (b ∷ [])) text rest
letter_stood b text rest h =
    let s = split is_blank text in
    front_letter b s.front s.rest text rest s.all s.is (rw s.drop at h)

-- words that stand at the front of a text: whatever words are behind them, all of them stand in it
pub record Back (words : List Word) (text rest : List ℕ) : Type 0 where
  pub last : Word
  pub apart : is_apart last rest ≡ true
  pub behind : (v : Word) (ws : List Word) → is_apart v text ≡ true → AreBehind last ws rest → AreBehind v (words ++ ws) text

pub one_back : (w : Word) (text rest : List ℕ) → Stood w text rest → Back (w ∷ []) text rest
one_back w text rest s = record { last = w; apart = s.apart; behind = λ v ws a h. stood_behind v w ws text rest s a h }

pub then_back : (us ws : List Word) (text mid rest : List ℕ) → Back us text mid → Back ws mid rest → Back (us ++ ws) text rest
then_back us ws text mid rest f s = record {
  last = s.last;
  apart = s.apart;
  behind = λ v vs a h. subst (λ x. AreBehind v x text) (sym (append_assoc us ws vs)) (f.behind v (ws ++ vs) a (s.behind f.last vs f.apart h));
}

pub letter_back : (b : ℕ) (text rest : List ℕ) → letter b text ≡ Some rest → Back (Letters (b ∷ []) ∷ []) text rest
letter_back b text rest h = one_back (Letters (b ∷ [])) text rest (letter_stood b text rest h)

pub unsigned_back : (text : List ℕ) (n : ℕ) (rest : List ℕ) → is_moderate (Number n) ≡ true → unsigned_of text ≡ Some (n, rest) → Back (Number n ∷ []) text rest
unsigned_back text n rest m h = one_back (Number n) text rest (unsigned_stood text n rest m h)

-- a point

abbrev SpotBack : List ℕ → Spot × List ℕ → Type 0
SpotBack text q = list_all is_moderate (spot_words q.0) ≡ true → Back (spot_words q.0) text q.1

spot_from : (text mid rest : List ℕ) (x y : ℤ) → signed_of text ≡ Some (x, mid) → signed_of mid ≡ Some (y, rest) → SpotBack text (spot x y, rest)
spot_from text mid rest x y e f m =
    let p = and_parts (is_moderate (Integer x)) (list_all is_moderate (Integer y ∷ [])) m in
    let q = and_parts (is_moderate (Integer y)) true p.1 in
    then_back (Integer x ∷ []) (Integer y ∷ []) text mid rest
    (one_back (Integer x) text mid (signed_stood text x mid p.0 e)) (one_back (Integer y) mid rest (signed_stood mid y rest q.0 f))

pub spot_back : (text : List ℕ) (s : Spot) (rest : List ℕ) → list_all is_moderate (spot_words s) ≡ true
    → spot_of text ≡ Some (s, rest) → Back (spot_words s) text rest
spot_back text s rest m h =
    let x = bound (signed_of text) _ (s, rest) h in
    let y = bound (signed_of x.value.1) _ (s, rest) x.next in
    let e : ◌≡◌ {A = Spot × List ℕ} (spot x.value.0 y.value.0, y.value.1) (s, rest) = from_some (spot x.value.0 y.value.0, y.value.1) (s, rest) y.next in
    subst (SpotBack text) e (spot_from text x.value.1 y.value.1 x.value.0 y.value.0 x.is y.is) m
