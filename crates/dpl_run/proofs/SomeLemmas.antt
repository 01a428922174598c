-- For which words and texts some status is due, by what is computed of them.
use Rattle.std.proofs.Common.{arith, ◌≡◌, ◌⊎◌, ◌∙◌, ◌<◌, ℕ, Bool, true, false, List, [], ◌∷◌, ◌++◌, length, map, Option, None, Some, refl, sym, subst, inl, inr}
use Rattle.std.specs.Prelude.{Result, Ok, Err, IfSome, option_to_list}
use Rattle.std.proofs.lemmas.Bool.{cases_lt}
use Rattle.dpl_limits.specs.Limits.{most_of}
use Rattle.dpl_limits.specs.declared.TheConstants.{MOST_LAYOUT_BYTES}
use Rattle.dpl_limits.specs.declared.counted.Counted.{Counted}
use Rattle.dpl_limits.specs.declared.counted.Counted.TheVariants as counted
use Rattle.dpl_cell.specs.Layers.{is_cell}
use Rattle.dpl_rules.specs.Rules.{Fault}
use Rattle.dpl_cif.specs.Drawn.{reach}
use Rattle.dpl_cif.specs.Reading.{first_fault, primitives_of, primitive_count, call_count}
use Rattle.dpl_options.specs.Options.{PlainOptions}
use Rattle.dpl_layer.specs.declared.error.LayerError.{LayerError}
use Rattle.dpl_layer.specs.declared.error.LayerError.TheVariants.{Layout}
use Rattle.dpl_layer.specs.Errors.{passed}
use Rattle.dpl_layer.specs.Reasons.{FirstOf, NoneOf, IsOver, IsPassed}
use Rattle.dpl_layer.specs.Drawings.{HasFault, PassesLimit, drawing_reasons, kept_of}
use Rattle.dpl_layer.specs.Refusals.{cells_reasons, layer_reasons}
use Rattle.dpl_layer.proofs.ReasonLemmas.{Reason, IsFree, first, later, no_first, none_cons, in_front}
use Rattle.dpl_words.specs.declared.command.Command.{Command}
use Rattle.dpl_words.specs.declared.command.Command.TheVariants as asked
use Rattle.dpl_words.specs.declared.work.Work.TheVariants.{Split, Check, Cross, Edit, Balance, Refine}
use Rattle.dpl_run.specs.declared.status.Status.{Status}
use Rattle.dpl_run.specs.declared.status.Status.TheVariants.{Usage}
use Rattle.dpl_run.specs.Inputs.{Opened, opens, reads_layout}
use Rattle.dpl_run.specs.Errors.{status_of}
use Rattle.dpl_run.specs.Answer.{DueOf, IsDueOf, IsOpenedLong, bytes_reasons}
use Rattle.dpl_run.specs.Answer.IsDueFor.{too_long, carried_out}
use Rattle.dpl_run.specs.Deciding.{GoByCells, drawn_by}
use Rattle.dpl_run.specs.due.Made.IsMade.{refused as made}
use Rattle.dpl_run.specs.due.Check.IsCheckDue.{refused as judged}
use Rattle.dpl_run.specs.due.Edit.IsEditDue.{unread}

-- ---- reasons that are computed

-- a reason has an answer, or it has none
abbrev IsDecided : Reason → Type 0
IsDecided R = ((e : LayerError) × R e) ⊎ IsFree R

abbrev AllDecided : List Reason → Type 0
AllDecided [] = Unit {0}
AllDecided (R ∷ Rs) = IsDecided R × AllDecided Rs

-- one of the reasons is the first that applies, or none applies
first_decided : (Rs : List Reason) → AllDecided Rs → ((e : LayerError) × FirstOf Rs e) ⊎ NoneOf Rs
first_decided [] a = inr no_first
first_decided (R ∷ Rs) a = elim a.0 [
  | inl p ↦ inl (p.0, first R Rs p.0 p.1)
  | inr free ↦ elim (first_decided Rs a.1) [
    | inl p ↦ inl (p.0, later R Rs p.0 free p.1)
    | inr none ↦ inr (none_cons R Rs free none)
  ]
]

decided_both : (Rs Ss : List Reason) → AllDecided Rs → AllDecided Ss → AllDecided (Rs ++ Ss)
decided_both [] Ss a b = b
decided_both (R ∷ Rs) Ss a b = (a.0, decided_both Rs Ss a.1 b)

each_decided : (R : List ℕ → Reason) → ((layer : List ℕ) → IsDecided (R layer)) → (layers : List (List ℕ)) → AllDecided (map R layers)
each_decided R each [] = tt
each_decided R each (l ∷ ls) = (each l, each_decided R each ls)

over_decided : (c : Counted) (n : ℕ) → IsDecided (IsOver c n)
over_decided c n = elim (cases_lt (most_of c) n) [
  | inl l ↦ inl (_, (l, refl))
  | inr l ↦ inr (λ e p. absurd (omega (arith, l, p.0)))
]

passed_decided : (c : Counted) (cause : Type 0) → cause ⊎ (cause → ⊥) → IsDecided (IsPassed c cause)
passed_decided c cause (inl p) = inl (passed c, (p, refl))
passed_decided c cause (inr never) = inr (λ e p. never p.0)

long_decided : (reads : Bool) (most n : ℕ) → ((reads ≡ true) × (most < n)) ⊎ (((reads ≡ true) × (most < n)) → ⊥)
long_decided false most n = inr (λ p. let e : false ≡ true = p.0 in absurd (cc))
long_decided true most n = elim (cases_lt most n) [
  | inl l ↦ inl (refl, l)
  | inr l ↦ inr (λ p. absurd (omega (arith, l, p.1)))
]

-- ---- what a text draws

fault_by : (text layer : List ℕ) (x : Option Fault) → first_fault layer text ≡ x → IsDecided (HasFault text layer)
fault_by text layer None e = inr (λ f p. let both : ◌≡◌ {A = Option Fault} None (Some p.0) = sym e ∙ p.1 in absurd (cc))
fault_by text layer (Some f) e = inl (Layout f.command f.what, (f, e, refl))

limit_decided : (text layer : List ℕ) → IsDecided (PassesLimit text layer)
limit_decided text layer = first_decided
    (IsOver counted.Primitives (primitive_count layer text) ∷ IsOver counted.Calls (call_count layer text)
    ∷ IsOver counted.Coordinates (reach (primitives_of layer text)) ∷ []) (
      over_decided counted.Primitives (primitive_count layer text),
      (
        over_decided counted.Calls (call_count layer text),
        (over_decided counted.Coordinates (reach (primitives_of layer text)), tt),
      ),
    )

drawn : (o : PlainOptions) (text : List ℕ) → ((e : LayerError) × FirstOf (drawing_reasons o text) e) ⊎ NoneOf (drawing_reasons o text)
drawn o text =
    let layers = o.layer ∷ option_to_list o.keep in
    first_decided (drawing_reasons o text) (decided_both (map (HasFault text) layers) (map (PassesLimit text) layers)
    (each_decided (HasFault text) (λ layer. fault_by text layer (first_fault layer text) refl) layers)
    (each_decided (PassesLimit text) (limit_decided text) layers))

-- ---- what is due

some_layer : (o : PlainOptions) (text : List ℕ) (e : LayerError) → FirstOf (drawing_reasons o text) e → FirstOf (layer_reasons o text) e
some_layer o text e r =
    in_front (drawing_reasons o text) (cells_reasons o (is_cell (primitives_of o.layer text)) (is_cell (kept_of o.keep text))) e r

-- a refusal is due, or the layout is drawn
abbrev IsSome : Command → List ℕ → List ℕ → Type 0
IsSome c text second = ((e : LayerError) × DueOf c text second (status_of e) [])
    ⊎ IfSome (drawn_by c) (λ o. NoneOf (drawing_reasons o text))

some_of : (c : Command) (text second : List ℕ) → IsSome c text second
some_of (asked.Layout o Split) text second = elim (drawn o text) [ inl p ↦ inl (p.0, made p.0 (some_layer o text p.0 p.1)) | inr none ↦ inr none ]
some_of (asked.Layout o (Check name)) text second = elim (drawn o text) [ inl p ↦ inl (p.0, judged p.0 (some_layer o text p.0 p.1)) | inr none ↦ inr none ]
some_of (asked.Load start rows columns) text second = inr tt
some_of (asked.Layout o Cross) text second = elim (drawn o text) [ inl p ↦ inl (p.0, made p.0 (some_layer o text p.0 p.1)) | inr none ↦ inr none ]
some_of (asked.Layout o (Edit name)) text second = elim (drawn o text) [ inl p ↦ inl (p.0, unread p.0 p.1) | inr none ↦ inr none ]
some_of (asked.Layout o Balance) text second = elim (drawn o text) [ inl p ↦ inl (p.0, made p.0 (some_layer o text p.0 p.1)) | inr none ↦ inr none ]
some_of (asked.Layout o Refine) text second = elim (drawn o text) [ inl p ↦ inl (p.0, made p.0 (some_layer o text p.0 p.1)) | inr none ↦ inr none ]

opened_decided : (asked : Option Opened) (second : List ℕ) → IsDecided (IsOpenedLong asked second)
opened_decided None second = inr (λ e p. let both : ◌≡◌ {A = Option Opened} None (Some p.0) = p.1 in absurd (cc))
opened_decided (Some o) second = elim (cases_lt (most_of o.counted) (length second)) [
  | inl l ↦ inl (passed o.counted, (o, refl, (l, refl)))
  | inr l ↦ inr (λ e p.
      let both : ◌≡◌ {A = Option Opened} (Some o) (Some p.0) = p.1 in
      let same : p.0 ≡ o = cc in
      let long : most_of o.counted < length second = subst (λ (z : Opened). most_of z.counted < length second) same p.2.0 in
      absurd (omega (arith, l, long)))
]

bytes_decided : (c : Command) (text second : List ℕ) → AllDecided (bytes_reasons c text second)
bytes_decided c text second = (
  passed_decided counted.LayoutBytes _ (long_decided (reads_layout c) MOST_LAYOUT_BYTES (length text)),
  (opened_decided (opens c) second, tt),
)

-- some status is due, or what is due goes by the cells
pub some_due : (command : Result Command ℕ) (text second : List ℕ)
    → ((status : Status) × (output : List ℕ) × IsDueOf command text second status output) ⊎ GoByCells command text second
some_due (Err kind) text second = inl (Usage kind, [], (refl, refl))
some_due (Ok c) text second = elim (first_decided (bytes_reasons c text second) (bytes_decided c text second)) [
  | inl p ↦ inl (status_of p.0, [], too_long p.0 p.1)
  | inr short ↦ elim (some_of c text second) [
    | inl p ↦ inl (status_of p.0, [], carried_out (status_of p.0) [] short p.1)
    | inr is ↦ inr (record { asked = c; is = refl; short = short; drawn = is })
  ]
]
