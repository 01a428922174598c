-- What is read as a command is written so.
use Rattle.std.proofs.Common.{arith, ◌≡◌, ◌∙◌, ◌⊎◌, inl, inr, ◌==◌, ℕ, zero, suc, ◌+◌, ◌-◌, true, false, not, Bool}
use Rattle.std.proofs.Common.{List, [], ◌∷◌, ◌++◌, refl, sym, ap, subst, add-one, append_assoc, Option, None, Some}
use Rattle.std.specs.Prelude.{◌||◌, if◌then◌else◌, Result, Ok, Err}
use Rattle.std.specs.List.{list_all}
use Rattle.std.proofs.lemmas.Bool.Decides.{nat_tests}
use Rattle.dpl_lex.specs.Classes.{is_digit}
use Rattle.dpl_lex.specs.CuttingLaws.{is_inside, IsNested}
use Rattle.dpl_lex.specs.CuttingLaws.IsNested.{nothing, byte, pair}
use Rattle.dpl_rules.specs.declared.command.Command.{Command}
use Rattle.dpl_rules.specs.declared.command.Command.TheVariants.{Idle}
use Rattle.dpl_rules.specs.declared.what.What.{What}
use Rattle.dpl_rules.specs.declared.what.What.TheVariants.{Syntax, Number}
use Rattle.dpl_rules.specs.Readers.{complete}
use Rattle.dpl_rules.specs.Forms.{comment_of, polygon_of, box_of, wire_of, flash_of, layer_command, definition_of, call_of, form_of}
use Rattle.dpl_rules.specs.Bounds.{is_command_in_bounds, bounded, command_of}
use Rattle.dpl_boxes.specs.Written as written
use Rattle.dpl_boxes.specs.Written.{AreBlanks}
use Rattle.dpl_boxes.specs.Written.IsIdle.{empty, comment, extension}
use Rattle.dpl_boxes.proofs.BackNumbers.{from_some}
use Rattle.dpl_boxes.proofs.BackForms.{Formed, Forms, ended, polygon_back, box_back, wire_back, flash_back, layer_back, definition_back, call_back}
use Rattle.dpl_calls.proofs.Cases.{of_eq}

-- comments

-- so many more parentheses are closed, and then a comment is
abbrev Closes : ℕ → List ℕ → Type 0
Closes zero bytes = (inner gap : List ℕ) × (bytes ≡ inner ++ (41 ∷ gap)) × IsNested inner × AreBlanks gap
Closes (suc depth) bytes = (inner more : List ℕ) × (bytes ≡ inner ++ (41 ∷ more)) × IsNested inner × Closes depth more

closes_byte : (depth b : ℕ) (bytes : List ℕ) → not (b == 40 || b == 41) ≡ true → Closes depth bytes → Closes depth (b ∷ bytes)
closes_byte zero b bytes h k = (b ∷ k.0, k.1, ap (λ x. b ∷ x) k.2, byte b k.0 h k.3, k.4)
closes_byte (suc depth) b bytes h k = (b ∷ k.0, k.1, ap (λ x. b ∷ x) k.2, byte b k.0 h k.3, k.4)

joined : (bytes inner more others rest : List ℕ) → bytes ≡ inner ++ (41 ∷ more) → more ≡ others ++ (41 ∷ rest)
    → 40 ∷ bytes ≡ (40 ∷ (inner ++ (41 ∷ others))) ++ (41 ∷ rest)
joined bytes inner more others rest e f =
    let g : bytes ≡ inner ++ (41 ∷ (others ++ (41 ∷ rest))) = e ∙ ap (λ x. inner ++ (41 ∷ x)) f in
    ap (λ x. 40 ∷ x) (g ∙ sym (append_assoc inner (41 ∷ others) (41 ∷ rest)))

closes_pair : (depth : ℕ) (bytes : List ℕ) → Closes (suc depth) bytes → Closes depth (40 ∷ bytes)
closes_pair zero bytes k =
    let m = k.4 in
    (40 ∷ (k.0 ++ (41 ∷ m.0)), m.1, joined bytes k.0 k.1 m.0 m.1 k.2 m.2, pair k.0 m.0 k.3 m.3, m.4)
closes_pair (suc depth) bytes k =
    let m = k.4 in
    (40 ∷ (k.0 ++ (41 ∷ m.0)), m.1, joined bytes k.0 k.1 m.0 m.1 k.2 m.2, pair k.0 m.0 k.3 m.3, m.4)

not_zero : (n : ℕ) → (suc n == 0) ≡ false
not_zero n = grind (arith, nat_tests)

less_one : (n : ℕ) → suc n - 1 ≡ n
less_one n = omega arith

closes_here : (depth : ℕ) (bytes : List ℕ) (c : Command) → ((d : ℕ) → comment_of d bytes ≡ Some c → Closes d bytes)
    → (if depth == 0 then complete Idle bytes else comment_of (depth - 1) bytes) ≡ Some c → Closes depth (41 ∷ bytes)
closes_here zero bytes c h e = ([], bytes, refl, nothing, (ended Idle bytes c e).1)
closes_here (suc depth) bytes c h e =
    let f : comment_of (suc depth - 1) bytes ≡ Some c = rw (not_zero depth) at e in
    let g : comment_of depth bytes ≡ Some c = rw (less_one depth) at f in
    ([], bytes, refl, nothing, h depth g)

-- one of two, by a test
pub tested : {A : Type 0} (t : Bool) (x y : Option A) (a : A) → (if t then x else y) ≡ Some a → ((t ≡ true) × (x ≡ Some a)) ⊎ ((t ≡ false) × (y ≡ Some a))
tested true x y a h = inl (refl, h)
tested false x y a h = inr (refl, h)

neither : (b : ℕ) → (b == 40) ≡ false → (b == 41) ≡ false → not (b == 40 || b == 41) ≡ true
neither b e f = rw (e, f) refl

comment_closes : (bytes : List ℕ) (depth : ℕ) (c : Command) → comment_of depth bytes ≡ Some c → Closes depth bytes
comment_closes [] depth c h = absurd (cc)
comment_closes (b ∷ bytes) depth c h =
    elim (tested (b == 40) _ _ c h) as (λ s. Closes depth (b ∷ bytes)) [
      | inl s ↦
          let k = comment_closes bytes (depth + 1) c s.1 in
          let m : Closes (suc depth) bytes = rw add-one at k in
          subst (λ x. Closes depth (x ∷ bytes)) (sym (of_eq b 40 s.0)) (closes_pair depth bytes m)
      | inr s ↦ elim (tested (b == 41) _ _ c s.1) as (λ r. Closes depth (b ∷ bytes)) [
        | inl r ↦ subst (λ x. Closes depth (x ∷ bytes)) (sym (of_eq b 41 r.0)) (closes_here depth bytes c (λ d e. comment_closes bytes d c e) r.1)
        | inr r ↦ closes_byte depth b bytes (neither b s.0 r.0) (comment_closes bytes depth c r.1)
      ]
    ]

same_idle : (bytes : List ℕ) (depth : ℕ) (c : Command) → comment_of depth bytes ≡ Some c → Idle ≡ c
same_idle [] depth c h = absurd (cc)
same_idle (b ∷ bytes) depth c h =
    elim (tested (b == 40) _ _ c h) as (λ s. Idle ≡ c) [
      | inl s ↦ same_idle bytes (depth + 1) c s.1
      | inr s ↦ elim (tested (b == 41) _ _ c s.1) as (λ r. Idle ≡ c) [
        | inl r ↦ elim (tested (depth == 0) _ _ c r.1) as (λ q. Idle ≡ c) [
          | inl q ↦ (ended Idle bytes c q.1).0
          | inr q ↦ same_idle bytes (depth - 1) c q.1
        ]
        | inr r ↦ same_idle bytes depth c r.1
      ]
    ]

comment_back : (bytes : List ℕ) (c : Command) → comment_of 0 bytes ≡ Some c → Forms (40 ∷ bytes) c
comment_back bytes c h =
    let k = comment_closes bytes 0 c h in
    subst (Forms (40 ∷ bytes)) (same_idle bytes 0 c h) (λ b. record {
      can = refl;
      form = subst (λ x. written.IsIdle (40 ∷ x)) (sym k.2) (comment k.0 k.1 k.3 k.4);
    })

-- each form

idle_back : (bytes : List ℕ) (c : Command) → written.IsIdle bytes → ◌≡◌ {A = Option Command} (Some Idle) (Some c) → Forms bytes c
idle_back bytes c i h = subst (Forms bytes) (from_some Idle c h) (λ b. record { can = refl; form = i })

none_is_none : (c : Command) → ◌≡◌ {A = Option Command} None (Some c) → ⊥
none_is_none c h = absurd (cc)

-- what begins with this letter
at_letter : (letter b : ℕ) (bytes : List ℕ) (c : Command) → (b == letter) ≡ true → Forms (letter ∷ bytes) c → Forms (b ∷ bytes) c
at_letter letter b bytes c e f = subst (λ x. Forms (x ∷ bytes) c) (sym (of_eq b letter e)) f

letters_back : (b : ℕ) (bytes : List ℕ) (c : Command) → (
    if b == 80 then polygon_of bytes
    else if b == 66 then box_of bytes
    else if b == 87 then wire_of bytes
    else if b == 82 then flash_of bytes
    else if b == 76 then layer_command bytes
    else if b == 68 then definition_of bytes
    else if b == 67 then call_of bytes
    else None) ≡ Some c → Forms (b ∷ bytes) c
letters_back b bytes c h =
    elim (tested (b == 80) _ _ c h) as (λ s. Forms (b ∷ bytes) c) [
      | inl s ↦ at_letter 80 b bytes c s.0 (polygon_back bytes c s.1)
      | inr s ↦ elim (tested (b == 66) _ _ c s.1) as (λ s. Forms (b ∷ bytes) c) [
        | inl s ↦ at_letter 66 b bytes c s.0 (box_back bytes c s.1)
        | inr s ↦ elim (tested (b == 87) _ _ c s.1) as (λ s. Forms (b ∷ bytes) c) [
          | inl s ↦ at_letter 87 b bytes c s.0 (wire_back bytes c s.1)
          | inr s ↦ elim (tested (b == 82) _ _ c s.1) as (λ s. Forms (b ∷ bytes) c) [
            | inl s ↦ at_letter 82 b bytes c s.0 (flash_back bytes c s.1)
            | inr s ↦ elim (tested (b == 76) _ _ c s.1) as (λ s. Forms (b ∷ bytes) c) [
              | inl s ↦ at_letter 76 b bytes c s.0 (layer_back bytes c s.1)
              | inr s ↦ elim (tested (b == 68) _ _ c s.1) as (λ s. Forms (b ∷ bytes) c) [
                | inl s ↦ at_letter 68 b bytes c s.0 (definition_back bytes c s.1)
                | inr s ↦ elim (tested (b == 67) _ _ c s.1) as (λ s. Forms (b ∷ bytes) c) [
                  | inl s ↦ at_letter 67 b bytes c s.0 (call_back bytes c s.1)
                  | inr s ↦ absurd (none_is_none c s.1)
                ]
              ]
            ]
          ]
        ]
      ]
    ]

-- a command, of which none but a comment has a semicolon in it
form_back : (bytes : List ℕ) (c : Command)
    → ((b : ℕ) (others : List ℕ) → bytes ≡ b ∷ others → is_digit b ≡ true → list_all is_inside others ≡ true)
    → form_of bytes ≡ Some c → Forms bytes c
form_back [] c i h = idle_back [] c empty h
form_back (b ∷ bytes) c i h =
    elim (tested (is_digit b) _ _ c h) as (λ s. Forms (b ∷ bytes) c) [
      | inl s ↦ idle_back (b ∷ bytes) c (extension b bytes s.0 (i b bytes refl s.0)) s.1
      | inr s ↦ elim (tested (b == 40) _ _ c s.1) as (λ s. Forms (b ∷ bytes) c) [
        | inl s ↦ at_letter 40 b bytes c s.0 (comment_back bytes c s.1)
        | inr s ↦ letters_back b bytes c s.1
      ]
    ]

-- a command that was read is one in bounds

ok_same : (a c : Command) → ◌≡◌ {A = Result Command What} (Ok a) (Ok c) → a ≡ c
ok_same a c h = cc

bounded_back : (a c : Command) → bounded a ≡ Ok c → (is_command_in_bounds a ≡ true) × (a ≡ c)
bounded_back a c h = (elim (is_command_in_bounds a) as (λ t. is_command_in_bounds a ≡ t → (is_command_in_bounds a ≡ true) × (a ≡ c)) [
  | true ↦ λ e. (e, ok_same a c (rw e at h))
  | false ↦ λ e. let g : ◌≡◌ {A = Result Command What} (Err Number) (Ok c) = rw e at h in absurd (cc)
]) refl

abbrev read_as : Option Command → Result Command What
read_as None = Err Syntax
read_as (Some a) = bounded a

read_form : (bytes : List ℕ) (c : Command) (o : Option Command) → form_of bytes ≡ o → read_as o ≡ Ok c
    → (form_of bytes ≡ Some c) × (is_command_in_bounds c ≡ true)
read_form bytes c None e h = absurd (cc)
read_form bytes c (Some a) e h =
    let p = bounded_back a c h in
    (e ∙ ap (λ x. Some x) p.1, rw (← p.1) (p.0))

pub command_back : (bytes : List ℕ) (c : Command)
    → ((b : ℕ) (others : List ℕ) → bytes ≡ b ∷ others → is_digit b ≡ true → list_all is_inside others ≡ true)
    → command_of bytes ≡ Ok c → Formed bytes c
command_back bytes c i h =
    let p = read_form bytes c (form_of bytes) refl h in
    form_back bytes c i p.0 p.1
