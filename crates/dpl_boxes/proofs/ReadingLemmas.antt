-- What the lines of a text of masks say.
use Rattle.std.proofs.Common.{arith, ◌≡◌, ℕ, suc, ◌+◌, true, false, ◌&&◌, List, [], ◌∷◌, ◌++◌, length, refl, length-append, Some}
use Rattle.std.specs.Prelude.{nat_le, Ok, codes}
use Rattle.std.specs.List.{list_all, prefix_len}
use Rattle.std.proofs.lemmas.Bool.Decides.{nat_tests}
use Rattle.std.proofs.Math.Seq.{take-length, drop-length}
use Rattle.dpl_lex.specs.Classes.{is_blank, is_name_byte, drop_while}
use Rattle.dpl_lex.specs.Name.{is_name}
use Rattle.dpl_lex.specs.Cutting.{cut, with_span, span}
use Rattle.dpl_lex.specs.CuttingLaws.{begins_plain, is_inside, IsNested}
use Rattle.dpl_lex.specs.CuttingLaws.IsNested.{nothing, byte}
use Rattle.dpl_lex.specs.declared.cutting.Place.TheVariants.{Between}
use Rattle.dpl_lex.proofs.CuttingRules.{plain_is_cut, comment_is_cut}
use Rattle.dpl_rules.specs.declared.command.Command.{Command}
use Rattle.dpl_rules.specs.declared.command.Command.TheVariants.{Idle, Layer, Finish}
use Rattle.dpl_rules.specs.Bounds.{command_of, is_command_in_bounds}
use Rattle.dpl_rules.specs.Forms.{form_of, comment_of, layer_command}
use Rattle.dpl_boxes.specs.Lines.{IsRead, is_flat, CommentsAreRead}
use Rattle.dpl_boxes.specs.MaskLines.{start_line, finish_line, call_line, LayersAreRead}
use Rattle.dpl_boxes.proofs.NumberLemmas.{list_all-weaker}
use Rattle.std.proofs.lemmas.Bool.{and_parts}

-- any line but a comment goes to its semicolon
plain_cut : (first : ℕ) (body : List ℕ) → begins_plain first ≡ true → list_all is_inside body ≡ true → (rest : List ℕ) (at : ℕ)
    → cut Between at (first ∷ (body ++ 59 ∷ rest)) ≡ with_span (Some (span at (at + suc (length body)))) (cut Between (at + suc (length body) + 1) rest)
plain_cut first body b h rest at =
    let e : at + 1 + length body ≡ at + suc (length body) = omega arith in
    rw e at (plain_is_cut first body rest at b h)

nested_from_flat : (inner : List ℕ) → list_all is_flat inner ≡ true → IsNested inner
nested_from_flat [] h = nothing
nested_from_flat (b ∷ bs) h = let s = and_parts (is_flat b) (list_all is_flat bs) h in byte b bs s.0 (nested_from_flat bs s.1)

comment_cut : (inner : List ℕ) → list_all is_flat inner ≡ true → (rest : List ℕ) (at : ℕ)
    → cut Between at ((40 ∷ (inner ++ 41 ∷ [])) ++ 59 ∷ rest) ≡ with_span
    (Some (span at (at + length (40 ∷ (inner ++ 41 ∷ [])))))
    (cut Between (at + length (40 ∷ (inner ++ 41 ∷ [])) + 1) rest)
comment_cut inner h rest at =
    let size : at + 1 + length inner + 1 + 0 ≡ at + suc (length (inner ++ 41 ∷ [])) = simp length-append (omega arith) in
    let c = comment_is_cut inner [] rest at (nested_from_flat inner h) refl in
    rw (← size) c

comment_of-flat : (inner : List ℕ) → list_all is_flat inner ≡ true → comment_of 0 (inner ++ 41 ∷ []) ≡ Some Idle
comment_of-flat [] h = refl
comment_of-flat (b ∷ bs) h = let s = and_parts (is_flat b) (list_all is_flat bs) h in grind (arith, nat_tests, comment_of-flat bs s.1)

-- a form whose numbers are in bounds is the command
pub command_of-form : (bytes : List ℕ) (command : Command) → form_of bytes ≡ Some command → is_command_in_bounds command ≡ true → command_of bytes ≡ Ok command
command_of-form bytes command f b = rw (f, command_of, b) refl

-- a line that is no comment
pub plain_is_read : (first : ℕ) (body : List ℕ) (command : Command) → begins_plain first ≡ true
    → list_all is_inside body ≡ true → form_of (first ∷ body) ≡ Some command
    → is_command_in_bounds command ≡ true → IsRead (record { bytes = first ∷ body; command = command })
plain_is_read first body command b h f n = record { cut_out = plain_cut first body b h; read = command_of-form (first ∷ body) command f n }

pub comment_is_read : CommentsAreRead
comment_is_read inner h = record { cut_out = comment_cut inner h; read = command_of-form (40 ∷ (inner ++ 41 ∷ [])) Idle (comment_of-flat inner h) refl }

pub start_is_read : IsRead start_line
start_is_read = plain_is_read 68 (codes "S 1 1 4") start_line.command refl refl refl refl

pub finish_is_read : IsRead finish_line
finish_is_read = plain_is_read 68 (codes "F") Finish refl refl refl refl

pub call_is_read : IsRead call_line
call_is_read = plain_is_read 67 (codes " 1") call_line.command refl refl refl refl

-- names

pub name_byte_is_no_blank : (b : ℕ) → is_name_byte b ≡ true → is_blank b ≡ false
name_byte_is_no_blank b e = grind (arith, nat_tests)

pub name_byte_is_inside : (b : ℕ) → is_name_byte b ≡ true → is_inside b ≡ true
name_byte_is_inside b e = grind (arith, nat_tests)

pub name_bytes : (name : List ℕ) → is_name name ≡ true → list_all is_name_byte name ≡ true
name_bytes name h = (and_parts (nat_le 1 (length name) && nat_le (length name) 32) (list_all is_name_byte name) h).1

drop_while-name : (name : List ℕ) → list_all is_name_byte name ≡ true → drop_while is_blank name ≡ name
drop_while-name [] h = refl
drop_while-name (b ∷ bs) h = rw (name_byte_is_no_blank b (and_parts (is_name_byte b) (list_all is_name_byte bs) h).0) refl

prefix_len-all : (name : List ℕ) → list_all is_name_byte name ≡ true → prefix_len is_name_byte name ≡ length name
prefix_len-all [] h = refl
prefix_len-all (b ∷ bs) h =
    let s = and_parts (is_name_byte b) (list_all is_name_byte bs) h in
    rw (s.0, prefix_len-all bs s.1) (omega arith)

layer_command-name : (name : List ℕ) → is_name name ≡ true → layer_command (32 ∷ name) ≡ Some (Layer name)
layer_command-name name h =
    let all = name_bytes name h in
    rw (drop_while-name name all, prefix_len-all name all, take-length name, drop-length name, h) refl

pub layer_is_read : LayersAreRead
layer_is_read name h = plain_is_read 76 (32 ∷ name) (Layer name) refl
    (list_all-weaker is_name_byte is_inside name_byte_is_inside name (name_bytes name h)) (layer_command-name name h) refl
