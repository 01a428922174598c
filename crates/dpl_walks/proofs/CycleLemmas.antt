-- A cycle line and what is read of it.
use Rattle.std.proofs.Common.{arith, ◌≡◌, ℕ, suc, ◌<◌, true, List, [], ◌∷◌, ◌++◌, length, length-append, drop, refl, sym, ap, ◌∙◌, append_assoc, codes}
use Rattle.std.proofs.Common.{Option, None, Some}
use Rattle.std.specs.Prelude.{ℤ, pos}
use Rattle.std.specs.List.{AllByRecursion}
use Rattle.std.specs.Fmt.{signed_decimal}
use Rattle.dpl_boxes.specs.Masks.{spaced}
use Rattle.dpl_form.specs.Lines.{lines_in, text_of, is_line}
use Rattle.dpl_form.specs.Readers.{many, with_item}
use Rattle.dpl_form.proofs.TextLemmas.{text_of-lines_in, lines_in-line}
use Rattle.dpl_sign.specs.declared.walks.Cycle.{Cycle}
use Rattle.dpl_report.specs.ReportLines.{numbered, cycle_numbers, cycle_line}
use Rattle.dpl_report.specs.Reading.{item_cycle}
use Rattle.dpl_report.specs.Valid.{IsIdentifier, IsCycle}
use Rattle.dpl_report.proofs.ItemLemmas.{cycle_item, cycle_near}
use Rattle.dpl_report.proofs.LineLemmas.{IsNear, is_line-append, comment_bytes-signed}
use Rattle.dpl_walks.specs.Cycles.{cycle_lines, cycles_in, cycle_text, edges_in, AreEdges, IsCycleBefore, IsSpaced, IsFront}
use Rattle.dpl_walks.proofs.DecimalLemmas.{spaced_once}
use Rattle.dpl_walks.proofs.EdgeLemmas.{edges_text, no_digit-edges_text, edges_in-text, edge_there, edges_back}

-- ---- what stands before the edges

-- what is behind the half weight
abbrev from_start : Cycle → List ℕ → List ℕ
from_start c after = spaced (pos c.walk.start) ++ edges_text c.walk.edges after

pub half_there : (after text rest : List ℕ) (a : IsCycleBefore after text) → text ≡ codes "(cycle" ++ rest
    → IsSpaced 1000000000000 a.cycle.half (from_start a.cycle after) rest
half_there after text rest a b = record { small = a.fits.half; ends = refl; is = ap (λ t. drop 6 t) (sym b ∙ a.is) }

-- the half weight is that of the cycle, and its start stands behind
pub record IsHalf (c : Cycle) (half : ℕ) (after rest : List ℕ) : Type 0 where
  pub same : half ≡ c.half
  pub start : IsSpaced 4294967295 c.walk.start (edges_text c.walk.edges after) rest

pub start_there : (half : ℕ) (after text rest others : List ℕ) (a : IsCycleBefore after text) → text ≡ codes "(cycle" ++ rest
    → IsSpaced 1000000000000 half others rest → IsHalf a.cycle half after others
start_there half after text rest others a b at =
    let c = a.cycle in
    let s = spaced_once 1000000000000 half c.half others (from_start c after) rest (omega arith) at (half_there after text rest a b) in
    record { same = s.number; start = record { small = a.fits.start; ends = no_digit-edges_text c.walk.edges after; is = s.behind } }

-- what was read is of this cycle
pub record IsRead (c : Cycle) (half start : ℕ) (edges after : List ℕ) : Type 0 where
  pub half_is : half ≡ c.half
  pub start_is : start ≡ c.walk.start
  pub edges_is : edges ≡ edges_text c.walk.edges after

pub front_is : (half start : ℕ) (edges after text : List ℕ) (a : IsCycleBefore after text) → IsFront half start edges text
    → IsRead a.cycle half start edges after
front_is half start edges after text a f =
    let c = a.cycle in
    let others = spaced (pos start) ++ edges in
    let h = start_there half after text (spaced (pos half) ++ others) others a f.is (record { small = f.half_is; ends = refl; is = refl }) in
    let s = spaced_once 4294967295 start c.walk.start edges (edges_text c.walk.edges after) others (omega arith)
    (record { small = f.start_is; ends = f.ends; is = refl }) h.start in
    record { half_is = h.same; start_is = s.number; edges_is = s.behind }

-- ---- whether a cycle line stands at the front

no_first_edge : (es after edges : List ℕ) → 0 < length es → AllByRecursion IsIdentifier es → edges ≡ edges_text es after
    → ¬ ((n : ℕ) (rest : List ℕ) → ¬ IsSpaced 4294967295 n rest edges)
no_first_edge [] after edges l f e none = absurd (omega arith)
no_first_edge (m ∷ es) after edges l f e none = none m (edges_text es after) (edge_there m es after edges f.0 e)

-- a line with no edge
pub no_edge_at_all : (half start : ℕ) (edges after text : List ℕ) → IsFront half start edges text
    → ((n : ℕ) (rest : List ℕ) → ¬ IsSpaced 4294967295 n rest edges) → ¬ IsCycleBefore after text
no_edge_at_all half start edges after text f none a =
    no_first_edge a.cycle.walk.edges after edges a.fits.not_empty a.fits.edges (front_is half start edges after text a f).edges_is none

pub cycle_there : (half start n : ℕ) (others edges after text : List ℕ) → IsFront half start edges text → IsSpaced 4294967295 n others edges
    → AreEdges after others → IsCycleBefore after text
cycle_there half start n others edges after text f at o =
    let e : edges ≡ edges_text (n ∷ o.edges) after = at.is ∙ ap (λ t. spaced (pos n) ++ t) o.is in
    record {
      cycle = record { half = half; walk = record { start = start; edges = n ∷ o.edges } };
      fits = record { some = f.some; half = f.half_is; start = f.start_is; edges = (at.small, o.small); not_empty = omega arith };
      is = f.is ∙ ap (λ t. codes "(cycle" ++ (spaced (pos half) ++ (spaced (pos start) ++ t))) e;
    }

pub edges_there : (half start n : ℕ) (others edges after text : List ℕ) → IsFront half start edges text → IsSpaced 4294967295 n others edges
    → IsCycleBefore after text → AreEdges after others
edges_there half start n others edges after text f at a =
    let whole : AreEdges after edges = record {
      edges = a.cycle.walk.edges;
      small = a.fits.edges;
      is = (front_is half start edges after text a f).edges_is;
    } in
    edges_back n others after edges whole at

-- ---- the lines of a text

is_line-numbered : (zs : List ℤ) → AllByRecursion IsNear zs → is_line (numbered zs (codes ");\n")) ≡ true
is_line-numbered [] a = refl
is_line-numbered (z ∷ zs) a =
    is_line-append (signed_decimal z) (numbered zs (codes ");\n")) (comment_bytes-signed z a.0) ∙ is_line-numbered zs a.1

numbered-append : (zs : List ℤ) (end after : List ℕ) → numbered zs end ++ after ≡ numbered zs (end ++ after)
numbered-append [] end after = refl
numbered-append (z ∷ zs) end after =
    ap (λ t. 32 ∷ t) (append_assoc (signed_decimal z) (numbered zs end) after ∙ ap (λ t. signed_decimal z ++ t) (numbered-append zs end after))

cycle_text-line : (c : Cycle) (after : List ℕ) → cycle_line c ++ after ≡ cycle_text c after
cycle_text-line c after = ap (λ t. codes "(cycle" ++ t) (numbered-append (cycle_numbers c) (codes ");\n") after)

-- the cycle line is the first line
first_line_is : (after text : List ℕ) (a : IsCycleBefore after text) → lines_in text ≡ cycle_line a.cycle ∷ lines_in after
first_line_is after text a =
    ap lines_in (a.is ∙ sym (cycle_text-line a.cycle after))
    ∙ lines_in-line (cycle_line a.cycle) after (is_line-numbered (cycle_numbers a.cycle) (cycle_near a.cycle a.fits))

pub cycle_shortens : (after text : List ℕ) → IsCycleBefore after text → length after < length text
cycle_shortens after text a =
    let e : length text ≡ length (cycle_line a.cycle ++ after) = ap (λ t. length t) (a.is ∙ sym (cycle_text-line a.cycle after)) in
    omega (arith, length-append (cycle_line a.cycle) after)

many_some : {S X : Type 0} (item : S → List ℕ → Option X) (after : X → S) (s : S) (l : List ℕ) (text others : List (List ℕ)) (x : X)
    → text ≡ l ∷ others → item s l ≡ Some x → many item after s text ≡ with_item x (many item after (after x) others)
many_some item after s l text others x t e = rw (t, many, e) refl

many_none : {S X : Type 0} (item : S → List ℕ → Option X) (after : X → S) (s : S) (l : List ℕ) (text others : List (List ℕ))
    → text ≡ l ∷ others → item s l ≡ None → many item after s text ≡ ([], text)
many_none item after s l text others t e = rw (t, many, e) refl

-- the cycle lines from one on, and those behind it
pub record OneLine (text after : List ℕ) : Type 0 where
  pub count : length (cycles_in text) ≡ suc (length (cycles_in after))
  pub rest : (cycle_lines (lines_in text)).1 ≡ (cycle_lines (lines_in after)).1

pub one_line : (after text : List ℕ) → IsCycleBefore after text → OneLine text after
one_line after text a =
    let c = a.cycle in
    let m = many_some (λ (s : ℕ). item_cycle) (λ _. 0) 0 (cycle_line c) (lines_in text) (lines_in after) c (first_line_is after text a)
    (cycle_item.again c a.fits) in
    record { count = ap (λ (p : List Cycle × List (List ℕ)). length p.0) m; rest = ap (λ (p : List Cycle × List (List ℕ)). p.1) m }

no_line_by : (o : Option Cycle) (l : List ℕ) (text : List ℕ) (ls : List (List ℕ)) → item_cycle l ≡ o → lines_in text ≡ l ∷ ls
    → ((after : List ℕ) → ¬ IsCycleBefore after text) → cycle_lines (lines_in text) ≡ ([], lines_in text)
no_line_by None l text ls e t none = many_none (λ (s : ℕ). item_cycle) (λ _. 0) 0 l (lines_in text) ls t e
no_line_by (Some c) l text ls e t none =
    let k = cycle_item.takes l c e in
    let whole : text ≡ cycle_line c ++ text_of ls = sym (text_of-lines_in text) ∙ ap text_of t ∙ ap (λ t. t ++ text_of ls) k.1 in
    absurd (none (text_of ls) (record { cycle = c; fits = k.0; is = whole ∙ cycle_text-line c (text_of ls) }))

no_line_of : (lines : List (List ℕ)) (text : List ℕ) → lines_in text ≡ lines → ((after : List ℕ) → ¬ IsCycleBefore after text)
    → cycle_lines (lines_in text) ≡ ([], lines_in text)
no_line_of [] text t none = rw t refl
no_line_of (l ∷ ls) text t none = no_line_by (item_cycle l) l text ls refl t none

-- no cycle line stands at the front
pub no_line : (text : List ℕ) → ((after : List ℕ) → ¬ IsCycleBefore after text) → cycle_lines (lines_in text) ≡ ([], lines_in text)
no_line text none = no_line_of (lines_in text) text refl none

-- the first cycle and the others
pub record FirstCycle (text line rest : List ℕ) : Type 0 where
  pub cycle : Cycle
  pub fits : IsCycle cycle
  pub line_is : line ≡ cycle_line cycle
  pub first : cycles_in text ≡ cycle ∷ cycles_in rest

first_by : (o : Option Cycle) (text line rest : List ℕ) → item_cycle line ≡ o → lines_in text ≡ line ∷ lines_in rest
    → 0 < length (cycles_in text) → FirstCycle text line rest
first_by None text line rest e t l =
    let m = many_none (λ (s : ℕ). item_cycle) (λ _. 0) 0 line (lines_in text) (lines_in rest) t e in
    let n : length (cycles_in text) ≡ 0 = ap (λ (p : List Cycle × List (List ℕ)). length p.0) m in
    absurd (omega arith)
first_by (Some c) text line rest e t l =
    let k = cycle_item.takes line c e in
    let m = many_some (λ (s : ℕ). item_cycle) (λ _. 0) 0 line (lines_in text) (lines_in rest) c t e in
    record { cycle = c; fits = k.0; line_is = k.1; first = ap (λ (p : List Cycle × List (List ℕ)). p.0) m }

pub first_cycle : (text line rest : List ℕ) → lines_in text ≡ line ∷ lines_in rest → 0 < length (cycles_in text) → FirstCycle text line rest
first_cycle text line rest t l = first_by (item_cycle line) text line rest refl t l

-- the line of the first cycle, with nothing behind it
abbrev pub line_there : (text line rest : List ℕ) → FirstCycle text line rest → IsCycleBefore [] line
line_there text line rest n = record { cycle = n.cycle; fits = n.fits; is = n.line_is }

pub edges_of_front : (text line rest : List ℕ) (half start : ℕ) (edges : List ℕ) → FirstCycle text line rest → IsFront half start edges line
    → AreEdges [] edges
edges_of_front text line rest half start edges n f = record {
  edges = n.cycle.walk.edges;
  small = n.fits.edges;
  is = (front_is half start edges [] line (line_there text line rest n) f).edges_is;
}

abbrev pub made_of : ℕ → ℕ → List ℕ → Cycle
made_of half start edges = record { half = half; walk = record { start = start; edges = edges } }

pub cycle_of_line : (text line rest : List ℕ) (half start : ℕ) (edges : List ℕ) → FirstCycle text line rest → IsFront half start edges line
    → cycles_in text ≡ made_of half start (edges_in edges) ∷ cycles_in rest
cycle_of_line text line rest half start edges n f =
    let r = front_is half start edges [] line (line_there text line rest n) f in
    let e : edges_in edges ≡ n.cycle.walk.edges = edges_in-text n.cycle.walk.edges edges n.fits.edges r.edges_is in
    let same : made_of half start (edges_in edges) ≡ n.cycle = rw (e, r.half_is, r.start_is) refl in
    n.first ∙ ap (λ c. c ∷ cycles_in rest) (sym same)
