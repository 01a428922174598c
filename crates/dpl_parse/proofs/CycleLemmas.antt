-- A cycle line is no item of another kind.
use Rattle.std.proofs.Common.{◌≡◌, ℕ, false, List, [], ◌∷◌, ◌++◌, refl, ap, ◌∙◌, codes, Option, None, Some}
use Rattle.std.specs.Prelude.{ℤ}
use Rattle.std.specs.Str.{bytes_eq}
use Rattle.dpl_form.specs.Readers.{many}
use Rattle.dpl_rules.specs.Readers.{◌>>=◌}
use Rattle.dpl_walks.specs.Cycles.{BeginWithCycle}
use Rattle.dpl_report.specs.Reading.{numbers_in, from_edge, if_written}
use Rattle.dpl_parse.specs.Items.{item_from}
use Rattle.dpl_parse.specs.Blocks.{rising_block}

-- nothing is written as this line
none_written : {X : Type 0} (line_of : X → List ℕ) (line : List ℕ) (o : Option X) → ((x : X) → bytes_eq (line_of x) line ≡ false)
    → (o >>= if_written line_of line) ≡ None
none_written line_of line None n = refl
none_written line_of line (Some x) n = rw (n x) refl

none_from : {X : Type 0} (edge_of : X → ℕ) (line_of : X → List ℕ) (least : ℕ) (line : List ℕ) (o : Option X)
    → ((x : X) → bytes_eq (line_of x) line ≡ false) → (o >>= λ x. from_edge least (edge_of x) x >>= if_written line_of line) ≡ None
none_from edge_of line_of least line None n = refl
none_from edge_of line_of least line (Some x) n = none_written line_of line (from_edge least (edge_of x) x) n

-- where a cycle line stands at the front, all lines are behind the items
pub all_behind : {X : Type 0} (made_of : List ℤ → Option X) (edge_of : X → ℕ) (line_of : X → List ℕ) (least : ℕ) (ls : List (List ℕ))
    → ((x : X) (rest : List ℕ) → bytes_eq (line_of x) (codes "(cycle" ++ rest) ≡ false) → BeginWithCycle ls
    → (rising_block made_of edge_of line_of least ls).1 ≡ ls
all_behind made_of edge_of line_of least [] n b = refl
all_behind made_of edge_of line_of least (l ∷ ls) n b =
    let none : item_from made_of edge_of line_of least l ≡ None =
    none_from edge_of line_of least l (made_of (numbers_in l)) (λ x. ap (bytes_eq (line_of x)) b.1 ∙ n x b.0) in
    rw (none, rising_block, many) refl
