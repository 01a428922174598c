-- Lines of one edge each are read by their bytes.
use Rattle.std.proofs.Common.{arith, ◌≡◌, ℕ, ◌≤◌, Bool, true, false, nat_le, List, [], ◌∷◌, ◌++◌, drop, refl, sym, ap, ◌∙◌, codes, Option, None, Some}
use Rattle.std.specs.Prelude.{ℤ, pos}
use Rattle.std.specs.List.{AllByRecursion}
use Rattle.std.proofs.lemmas.Bool.{leb-true, le-leb}
use Rattle.dpl_form.proofs.Formats.{AreItems}
use Rattle.dpl_report.specs.declared.marks.Broken.{Broken}
use Rattle.dpl_report.specs.Plain.{PlainZone}
use Rattle.dpl_report.specs.ReportLines.{numbered, aside_line, clash_line, cut_line, broken_numbers, zone_numbers}
use Rattle.dpl_report.specs.Reading.{from_edge, item_aside, item_clash, item_cut}
use Rattle.dpl_report.specs.Valid.{IsIdentifier, IsBroken, IsZone}
use Rattle.dpl_report.proofs.ItemLemmas.{aside_items, clash_items, cut_items, near, zone_near}
use Rattle.dpl_report.proofs.LineLemmas.{IsNear}
use Rattle.dpl_parse.specs.Standing.{Stand}

abbrev pub closing : List ℕ
closing = codes ");\n"

no_item_by : {X : Type 0} (o : Option X) (item : ℕ → List ℕ → Option X) (line_of : X → List ℕ) (edge_of : X → ℕ) (Fits : X → Type 0)
    → AreItems item line_of (λ least x. (least ≤ edge_of x) × Fits x) → (least : ℕ) (l : List ℕ) → item least l ≡ o
    → ((x : X) → Fits x → ¬ (l ≡ line_of x)) → o ≡ None
no_item_by None item line_of edge_of Fits items least l e none = refl
no_item_by (Some x) item line_of edge_of Fits items least l e none = let t = items.takes least l x e in absurd (none x t.0.1 t.1)

-- a line that is that of no item reads as none
no_item : {X : Type 0} (item : ℕ → List ℕ → Option X) (line_of : X → List ℕ) (edge_of : X → ℕ) (Fits : X → Type 0)
    → AreItems item line_of (λ least x. (least ≤ edge_of x) × Fits x) → (l : List ℕ)
    → ((x : X) → Fits x → ¬ (l ≡ line_of x)) → (least : ℕ) → item least l ≡ None
no_item item line_of edge_of Fits items l none least = no_item_by (item least l) item line_of edge_of Fits items least l refl none

too_low : {X : Type 0} (o : Option X) (item : ℕ → List ℕ → Option X) (line_of : X → List ℕ) (edge_of : X → ℕ) (Fits : X → Type 0)
    → AreItems item line_of (λ least x. (least ≤ edge_of x) × Fits x) → (l : List ℕ) (x : X) → Fits x → l ≡ line_of x
    → (least : ℕ) → nat_le least (edge_of x) ≡ false → item least l ≡ o → o ≡ None
too_low None item line_of edge_of Fits items l x f e least t h = refl
too_low (Some y) item line_of edge_of Fits items l x f e least t h =
    let k = items.takes least l y h in
    let one : item 0 l ≡ Some x = ap (item 0) e ∙ items.again 0 x (omega arith, f) in
    let two : item 0 l ≡ Some y = ap (item 0) k.1 ∙ items.again 0 y (omega arith, k.0.1) in
    let same : x ≡ y = cc (one, two) in
    let bad : nat_le least (edge_of x) ≡ true = le-leb least (edge_of x) (rw same k.0.0) in
    absurd (cc (t, bad))

item_by_test : {X : Type 0} (t : Bool) (item : ℕ → List ℕ → Option X) (line_of : X → List ℕ) (edge_of : X → ℕ) (Fits : X → Type 0)
    → AreItems item line_of (λ least x. (least ≤ edge_of x) × Fits x) → (l : List ℕ) (x : X) → Fits x → l ≡ line_of x
    → (least : ℕ) → nat_le least (edge_of x) ≡ t → item least l ≡ from_edge least (edge_of x) x
item_by_test true item line_of edge_of Fits items l x f e least t =
    rw t (ap (item least) e ∙ items.again least x (leb-true least (edge_of x) t, f))
item_by_test false item line_of edge_of Fits items l x f e least t =
    rw t (too_low (item least l) item line_of edge_of Fits items l x f e least t refl)

-- the line of an item reads as it
the_item : {X : Type 0} (item : ℕ → List ℕ → Option X) (line_of : X → List ℕ) (edge_of : X → ℕ) (Fits : X → Type 0)
    → AreItems item line_of (λ least x. (least ≤ edge_of x) × Fits x) → (l : List ℕ) (x : X) → Fits x → l ≡ line_of x
    → (least : ℕ) → item least l ≡ from_edge least (edge_of x) x
the_item item line_of edge_of Fits items l x f e least = item_by_test (nat_le least (edge_of x)) item line_of edge_of Fits items l x f e least refl

-- ---- each kind

stands : (zs : List ℤ) (rest : List ℕ) → AllByRecursion IsNear zs → rest ≡ numbered zs closing → Stand zs closing rest
stands zs rest n e = record { near = n; ends = refl; is = e }

pub no_aside : (l : List ℕ) → ((rest : List ℕ) → ¬ (l ≡ codes "(aside" ++ rest)) → (least : ℕ) → item_aside least l ≡ None
no_aside l none = no_item item_aside aside_line (λ e. e) IsIdentifier aside_items l (λ e f is. none (numbered (pos e ∷ []) closing) is)

pub no_aside_behind : (l rest : List ℕ) → l ≡ codes "(aside" ++ rest → ((e : ℕ) → IsIdentifier e → ¬ Stand (pos e ∷ []) closing rest)
    → (least : ℕ) → item_aside least l ≡ None
no_aside_behind l rest b none = no_item item_aside aside_line (λ e. e) IsIdentifier aside_items l (λ e f is.
    none e f (stands (pos e ∷ []) rest (near e f, tt) (ap (λ t. drop 6 t) (sym b ∙ is))))

pub aside_there : (l rest : List ℕ) (e : ℕ) → l ≡ codes "(aside" ++ rest → IsIdentifier e → Stand (pos e ∷ []) closing rest
    → (least : ℕ) → item_aside least l ≡ from_edge least e e
aside_there l rest e b f s = the_item item_aside aside_line (λ e. e) IsIdentifier aside_items l e f (b ∙ ap (λ t. codes "(aside" ++ t) s.is)

pub no_clash : (l : List ℕ) → ((rest : List ℕ) → ¬ (l ≡ codes "(clash" ++ rest)) → (least : ℕ) → item_clash least l ≡ None
no_clash l none = no_item item_clash clash_line (λ b. b.edge) IsBroken clash_items l (λ b f is. none (numbered (broken_numbers b) closing) is)

pub no_clash_behind : (l rest : List ℕ) → l ≡ codes "(clash" ++ rest → ((b : Broken) → IsBroken b → ¬ Stand (broken_numbers b) closing rest)
    → (least : ℕ) → item_clash least l ≡ None
no_clash_behind l rest b none = no_item item_clash clash_line (λ b. b.edge) IsBroken clash_items l (λ x f is.
    none x f (stands (broken_numbers x) rest (near x.edge f.edge, (near x.a f.a, (near x.b f.b, tt))) (ap (λ t. drop 6 t) (sym b ∙ is))))

pub clash_there : (l rest : List ℕ) (x : Broken) → l ≡ codes "(clash" ++ rest → IsBroken x → Stand (broken_numbers x) closing rest
    → (least : ℕ) → item_clash least l ≡ from_edge least x.edge x
clash_there l rest x b f s = the_item item_clash clash_line (λ b. b.edge) IsBroken clash_items l x f (b ∙ ap (λ t. codes "(clash" ++ t) s.is)

pub no_cut : (l : List ℕ) → ((rest : List ℕ) → ¬ (l ≡ codes "(cut" ++ rest)) → (least : ℕ) → item_cut least l ≡ None
no_cut l none = no_item item_cut cut_line (λ z. z.at.edge) IsZone cut_items l (λ z f is. none (numbered (zone_numbers z) closing) is)

pub no_cut_behind : (l rest : List ℕ) → l ≡ codes "(cut" ++ rest → ((z : PlainZone) → IsZone z → ¬ Stand (zone_numbers z) closing rest)
    → (least : ℕ) → item_cut least l ≡ None
no_cut_behind l rest b none = no_item item_cut cut_line (λ z. z.at.edge) IsZone cut_items l (λ z f is.
    none z f (stands (zone_numbers z) rest (zone_near z f) (ap (λ t. drop 4 t) (sym b ∙ is))))

pub cut_there : (l rest : List ℕ) (z : PlainZone) → l ≡ codes "(cut" ++ rest → IsZone z → Stand (zone_numbers z) closing rest
    → (least : ℕ) → item_cut least l ≡ from_edge least z.at.edge z
cut_there l rest z b f s = the_item item_cut cut_line (λ z. z.at.edge) IsZone cut_items l z f (b ∙ ap (λ t. codes "(cut" ++ t) s.is)
