-- The edges in what is left of a cycle line.
use Rattle.std.proofs.Common.{arith, ◌≡◌, ◌≢◌, ℕ, true, List, [], ◌∷◌, ◌++◌, get_or, map, refl, sym, ap, ◌∙◌, codes}
use Rattle.std.specs.Prelude.{pos, unsigned_abs}
use Rattle.std.specs.List.{AllByRecursion}
use Rattle.dpl_boxes.specs.Masks.{spaced}
use Rattle.dpl_boxes.specs.Written.{has_no_digit}
use Rattle.dpl_report.specs.ReportLines.{numbered}
use Rattle.dpl_report.specs.Valid.{IsIdentifier}
use Rattle.dpl_report.proofs.ItemLemmas.{edges_near}
use Rattle.dpl_report.proofs.LineLemmas.{numbers_in-numbered, closing_is_end}
use Rattle.dpl_walks.specs.Cycles.{edges_in, AreEdges, IsSpaced}
use Rattle.dpl_walks.proofs.DecimalLemmas.{spaced_once}

-- edges as their line has them, with its end and what follows it
abbrev pub edges_text : List ℕ → List ℕ → List ℕ
edges_text es after = numbered (map pos es) (codes ");\n" ++ after)

pub no_digit-edges_text : (es after : List ℕ) → has_no_digit (edges_text es after) ≡ true
no_digit-edges_text [] after = refl
no_digit-edges_text (e ∷ es) after = refl

numbers_again : (es : List ℕ) → map unsigned_abs (map pos es) ≡ es
numbers_again [] = refl
numbers_again (e ∷ es) = ap (λ t. e ∷ t) (numbers_again es)

-- the edges that were written are those in the text
pub edges_in-text : (es text : List ℕ) → AllByRecursion IsIdentifier es → text ≡ edges_text es [] → edges_in text ≡ es
edges_in-text es text f e =
    let read = numbers_in-numbered 32 [] (map pos es) (codes ");\n") closing_is_end refl (edges_near es f) in
    ap edges_in e ∙ ap (λ zs. map unsigned_abs zs) read ∙ numbers_again es

-- the first of some edges stands at the front
pub edge_there : (n : ℕ) (es after text : List ℕ) → IsIdentifier n → text ≡ edges_text (n ∷ es) after → IsSpaced 4294967295 n (edges_text es after) text
edge_there n es after text f e = record { small = f; ends = no_digit-edges_text es after; is = e }

-- no edge stands where the line ends
end_is_no_edge : (n : ℕ) (rest after text : List ℕ) → text ≡ codes ");\n" ++ after → ¬ IsSpaced 4294967295 n rest text
end_is_no_edge n rest after text e at =
    let bad : ◌≡◌ {A = ℕ} 41 32 = ap (λ (t : List ℕ). get_or t 0 0) (sym e ∙ at.is) in
    omega arith

-- the others are some of these edges
pub record AreOthers (n : ℕ) (es rest after : List ℕ) : Type 0 where
  pub others : List ℕ
  pub all : es ≡ n ∷ others
  pub small : AllByRecursion IsIdentifier others
  pub is : rest ≡ edges_text others after

others_of : (es : List ℕ) (n : ℕ) (rest after text : List ℕ) → AllByRecursion IsIdentifier es → text ≡ edges_text es after
    → IsSpaced 4294967295 n rest text → AreOthers n es rest after
others_of [] n rest after text f e at = absurd (end_is_no_edge n rest after text e at)
others_of (m ∷ es) n rest after text f e at =
    let same = spaced_once 4294967295 n m rest (edges_text es after) text (omega arith) at (edge_there m es after text f.0 e) in
    record { others = es; all = ap (λ k. k ∷ es) (sym same.number); small = f.1; is = same.behind }

pub edges_back : (n : ℕ) (rest after text : List ℕ) → AreEdges after text → IsSpaced 4294967295 n rest text → AreEdges after rest
edges_back n rest after text a at =
    let o = others_of a.edges n rest after text a.small a.is at in
    record { edges = o.others; small = o.small; is = o.is }

pub first_edge : (n : ℕ) (rest text : List ℕ) → AreEdges [] text → IsSpaced 4294967295 n rest text → edges_in text ≡ n ∷ edges_in rest
first_edge n rest text a at =
    let o = others_of a.edges n rest [] text a.small a.is at in
    edges_in-text a.edges text a.small a.is ∙ o.all ∙ ap (λ t. n ∷ t) (sym (edges_in-text o.others rest o.small o.is))

no_edge_of : (es after text : List ℕ) → AllByRecursion IsIdentifier es → text ≡ edges_text es after → ((n : ℕ) (rest : List ℕ) → ¬ IsSpaced 4294967295 n rest text)
    → es ≡ []
no_edge_of [] after text f e none = refl
no_edge_of (m ∷ es) after text f e none = absurd (none m (edges_text es after) (edge_there m es after text f.0 e))

-- where no edge stands, none is left
pub no_edge : (text : List ℕ) → AreEdges [] text → ((n : ℕ) (rest : List ℕ) → ¬ IsSpaced 4294967295 n rest text) → edges_in text ≡ []
no_edge text a none = edges_in-text a.edges text a.small a.is ∙ no_edge_of a.edges [] text a.small a.is none

pub edges_more : (n : ℕ) (rest after text : List ℕ) → IsSpaced 4294967295 n rest text → AreEdges after rest → AreEdges after text
edges_more n rest after text at a = record {
  edges = n ∷ a.edges;
  small = (at.small, a.small);
  is = at.is ∙ ap (λ t. spaced (pos n) ++ t) a.is;
}

-- a text is that of edges exactly where another is
pub record SameEdges (rest text : List ℕ) : Type 0 where
  pub on : (after : List ℕ) → AreEdges after rest → AreEdges after text
  pub back : (after : List ℕ) → AreEdges after text → AreEdges after rest

pub same_edges : (text : List ℕ) → SameEdges text text
same_edges text = record { on = λ after a. a; back = λ after a. a }

pub same_behind : (n : ℕ) (others rest text : List ℕ) → IsSpaced 4294967295 n others rest → SameEdges rest text → SameEdges others text
same_behind n others rest text at s = record {
  on = λ after a. s.on after (edges_more n others after rest at a);
  back = λ after a. edges_back n others after rest (s.back after a) at;
}

pub end_is_edges : (after text : List ℕ) → text ≡ codes ");\n" ++ after → AreEdges after text
end_is_edges after text e = record { edges = []; small = tt; is = e }

pub end_alone : (after text : List ℕ) → ((n : ℕ) (rest : List ℕ) → ¬ IsSpaced 4294967295 n rest text) → ((left : List ℕ) → text ≢ codes ");\n" ++ left)
    → ¬ AreEdges after text
end_alone after text none differs a =
    differs after (a.is ∙ ap (λ es. edges_text es after) (no_edge_of a.edges after text a.small a.is none))
