-- What is read as a command by its letter is written so.
use Rattle.std.proofs.Common.{arith, ◌≡◌, ◌∙◌, ◌⊎◌, inl, inr, ℕ, true, false, ◌&&◌, List, [], ◌∷◌, ◌++◌, length, refl}
use Rattle.std.proofs.Common.{sym, ap, subst, take-append-drop, Option, None, Some}
use Rattle.std.specs.Prelude.{nat_le, flat_map, codes, take, drop, if◌then◌else◌}
use Rattle.std.specs.List.{list_all, prefix_len}
use Rattle.std.proofs.lemmas.Bool.{and_parts}
use Rattle.std.proofs.lemmas.Bool.Decides.{nat_tests}
use Rattle.dpl_lex.specs.Classes.{is_blank, is_name_byte}
use Rattle.dpl_lex.specs.Name.{is_name}
use Rattle.dpl_rules.specs.declared.command.Spot.{Spot}
use Rattle.dpl_rules.specs.declared.command.Scale.{Scale}
use Rattle.dpl_rules.specs.declared.command.BoxForm.{BoxForm}
use Rattle.dpl_rules.specs.declared.command.Transformation.{Transformation}
use Rattle.dpl_rules.specs.declared.command.Transformation.TheVariants.{Shift, MirrorX, MirrorY, Rotate}
use Rattle.dpl_rules.specs.declared.command.Command.{Command}
use Rattle.dpl_rules.specs.declared.command.Command.TheVariants.{Polygon, Box, Wire, Flash, Layer, Start, Finish, Delete, Call}
use Rattle.dpl_rules.specs.Readers.{◌>>=◌, letter, unsigned_of, spot_of, repeated, not_empty, complete}
use Rattle.dpl_rules.specs.Forms.{path_of, polygon_of, wire_of, box_of, direction_of, flash_of, layer_command, ratio_of}
use Rattle.dpl_rules.specs.Forms.{scale_of, where_there, start_command, delete_of, definition_of, call_of}
use Rattle.dpl_rules.specs.Forms.{transformation_of}
use Rattle.dpl_rules.specs.Bounds.{is_in_bounds, is_spot_in_bounds, is_transformation_in_bounds, is_command_in_bounds}
use Rattle.dpl_boxes.specs.Written.{Word, spot_words, transformation_words, direction_words, scale_words, is_moderate}
use Rattle.dpl_boxes.specs.Written.{can_be_written, AreBlanks, is_apart, AreBehind, HasForm}
use Rattle.dpl_boxes.specs.Written.Word.{Letters, Number, Integer}
use Rattle.dpl_boxes.proofs.BackNumbers.{from_some, split}
use Rattle.dpl_boxes.proofs.BackWords.{bound, letter_back, unsigned_back, spot_back}
use Rattle.dpl_boxes.proofs.BackParts.{PartsBack, spots_back, transformations_back, repeated_back, direction_back, scale_back}

-- bounds of a command are those of its words

moderate_spot : (s : Spot) → is_spot_in_bounds s ≡ true → list_all is_moderate (spot_words s) ≡ true
moderate_spot s b =
    let p = and_parts (is_moderate (Integer s.x)) (is_moderate (Integer s.y)) b in
    rw (p.0, p.1) refl

moderate_path : (path : List Spot) → list_all is_spot_in_bounds path ≡ true → list_all is_moderate (flat_map spot_words path) ≡ true
moderate_path [] b = refl
moderate_path (s ∷ path) b =
    let p = and_parts (is_spot_in_bounds s) (list_all is_spot_in_bounds path) b in
    let q = and_parts (is_moderate (Integer s.x)) (is_moderate (Integer s.y)) p.0 in
    rw (q.0, q.1, moderate_path path p.1) refl

moderate_transformations : (ts : List Transformation) → list_all is_transformation_in_bounds ts ≡ true
    → list_all is_moderate (flat_map transformation_words ts) ≡ true
moderate_transformations [] b = refl
moderate_transformations (Shift by ∷ ts) b =
    let p = and_parts (is_spot_in_bounds by) (list_all is_transformation_in_bounds ts) b in
    let q = and_parts (is_moderate (Integer by.x)) (is_moderate (Integer by.y)) p.0 in
    rw (q.0, q.1, moderate_transformations ts p.1) refl
moderate_transformations (MirrorX ∷ ts) b = moderate_transformations ts b
moderate_transformations (MirrorY ∷ ts) b = moderate_transformations ts b
moderate_transformations (Rotate to ∷ ts) b =
    let p = and_parts (is_spot_in_bounds to) (list_all is_transformation_in_bounds ts) b in
    let q = and_parts (is_moderate (Integer to.x)) (is_moderate (Integer to.y)) p.0 in
    rw (q.0, q.1, moderate_transformations ts p.1) refl

-- the bytes of a command that can be written
pub record Formed (bytes : List ℕ) (c : Command) : Type 0 where
  pub can : can_be_written c ≡ true
  pub form : HasForm c bytes

-- the same where its numbers are in bounds
abbrev pub Forms : List ℕ → Command → Type 0
Forms bytes c = is_command_in_bounds c ≡ true → Formed bytes c

pub ended : (a : Command) (rest : List ℕ) (c : Command) → complete a rest ≡ Some c → (a ≡ c) × AreBlanks rest
ended a rest c h = (elim (list_all is_blank rest) as (λ t. list_all is_blank rest ≡ t → (a ≡ c) × AreBlanks rest) [
  | true ↦ λ e. let g : ◌≡◌ {A = Option Command} (Some a) (Some c) = rw e at h in (from_some a c g, e)
  | false ↦ λ e. let g : ◌≡◌ {A = Option Command} None (Some c) = rw e at h in absurd (cc)
]) refl

-- paths

path_whole : (path : List Spot) → not_empty path ≡ true → nat_le 1 (length path) ≡ true
path_whole [] h = absurd (cc)
path_whole (s ∷ path) h = grind (arith, nat_tests)

-- a path was found, and nothing but blanks is behind it
record PathFound (make : List Spot → Command) (text : List ℕ) (c : Command) : Type 0 where
  path : List Spot
  made : make path ≡ c
  some : nat_le 1 (length path) ≡ true
  behind : (v : Word) → list_all is_moderate (flat_map spot_words path) ≡ true → is_apart v text ≡ true → AreBehind v (flat_map spot_words path) text

path_found : (make : List Spot → Command) (text : List ℕ) (c : Command) (found : List Spot × List ℕ) → PartsBack spot_words text found
    → (if not_empty found.0 then complete (make found.0) found.1 else None) ≡ Some c → PathFound make text c
path_found make text c found back h = (elim (not_empty found.0) as (λ t. not_empty found.0 ≡ t → PathFound make text c) [
  | true ↦ λ t.
      let d = ended (make found.0) found.1 c (rw t at h) in
      record { path = found.0; made = d.0; some = path_whole found.0 t; behind = λ v m a. back m d.1 v a }
  | false ↦ λ t. let g : ◌≡◌ {A = Option Command} None (Some c) = rw t at h in absurd (cc)
]) refl

path_back : (make : List Spot → Command) (text : List ℕ) (c : Command) → path_of make text ≡ Some c → PathFound make text c
path_back make text c h = path_found make text c (repeated spot_of (length text) text) (repeated_back spot_of spot_words spots_back (length text) text) h

pub polygon_back : (text : List ℕ) (c : Command) → polygon_of text ≡ Some c → Forms (80 ∷ text) c
polygon_back text c h =
    let p = path_back Polygon text c h in
    subst (Forms (80 ∷ text)) p.made (λ b.
    let m = moderate_path p.path b in
    record { can = rw (p.some, m) refl; form = (false, (codes "P", text, refl, refl, p.behind (Letters (codes "P")) m refl)) })

pub wire_back : (text : List ℕ) (c : Command) → wire_of text ≡ Some c → Forms (87 ∷ text) c
wire_back text c h =
    let w = bound (unsigned_of text) _ c h in
    let p = path_back (Wire w.value.0) w.value.1 c w.next in
    subst (Forms (87 ∷ text)) p.made (λ b.
    let q = and_parts (is_in_bounds w.value.0) (list_all is_spot_in_bounds p.path) b in
    let m = moderate_path p.path q.1 in
    let f = unsigned_back text w.value.0 w.value.1 q.0 w.is in
    let behind = f.behind (Letters (codes "W")) (flat_map spot_words p.path) refl (p.behind f.last m f.apart) in
    record { can = rw (p.some, q.0, m) refl; form = (false, (codes "W", text, refl, refl, behind)) })

-- a box

box_can : (box : BoxForm) → is_in_bounds box.length ≡ true → is_in_bounds box.width ≡ true
    → list_all is_moderate (spot_words box.centre) ≡ true
    → list_all is_moderate (spot_words box.direction) ≡ true → can_be_written (Box box) ≡ true
box_can box l w c d =
    let p = and_parts (is_moderate (Integer box.centre.x)) (list_all is_moderate (Integer box.centre.y ∷ [])) c in
    let q = and_parts (is_moderate (Integer box.centre.y)) true p.1 in
    rw (l, w, p.0, q.0) d

pub box_back : (text : List ℕ) (c : Command) → box_of text ≡ Some c → Forms (66 ∷ text) c
box_back text c h =
    let l = bound (unsigned_of text) _ c h in
    let w = bound (unsigned_of l.value.1) _ c l.next in
    let m = bound (spot_of w.value.1) _ c w.next in
    let d = direction_of (spot_of m.value.1) m.value.1 in
    let box : BoxForm = record { length = l.value.0; width = w.value.0; centre = m.value.0; direction = d.0 } in
    let e = ended (Box box) d.1 c m.next in
    subst (Forms (66 ∷ text)) e.0 (λ b.
    let p = and_parts (is_in_bounds box.length && is_in_bounds box.width && is_spot_in_bounds box.centre) (is_spot_in_bounds box.direction) b in
    let q = and_parts (is_in_bounds box.length && is_in_bounds box.width) (is_spot_in_bounds box.centre) p.0 in
    let r = and_parts (is_in_bounds box.length) (is_in_bounds box.width) q.0 in
    let cm = moderate_spot box.centre q.1 in
    let dm = moderate_spot box.direction p.1 in
    let fl = unsigned_back text l.value.0 l.value.1 r.0 l.is in
    let fw = unsigned_back l.value.1 w.value.0 w.value.1 r.1 w.is in
    let fc = spot_back w.value.1 m.value.0 m.value.1 cm m.is in
    let fd = direction_back m.value.1 (spot_of m.value.1) refl dm in
    let others = direction_words fd.short box.direction in
    let behind = fl.behind (Letters (codes "B")) (Number box.width ∷ (spot_words box.centre ++ others)) refl
    (fw.behind fl.last (spot_words box.centre ++ others) fl.apart (fc.behind fw.last others fw.apart (fd.behind fc.last fc.apart e.1))) in
    record { can = box_can box r.0 r.1 cm dm; form = (fd.short, (codes "B", text, refl, refl, behind)) })

-- a round flash

pub flash_back : (text : List ℕ) (c : Command) → flash_of text ≡ Some c → Forms (82 ∷ text) c
flash_back text c h =
    let d = bound (unsigned_of text) _ c h in
    let m = bound (spot_of d.value.1) _ c d.next in
    let e = ended (Flash d.value.0 m.value.0) m.value.1 c m.next in
    subst (Forms (82 ∷ text)) e.0 (λ b.
    let p = and_parts (is_in_bounds d.value.0) (is_spot_in_bounds m.value.0) b in
    let cm = moderate_spot m.value.0 p.1 in
    let fd = unsigned_back text d.value.0 d.value.1 p.0 d.is in
    let fc = spot_back d.value.1 m.value.0 m.value.1 cm m.is in
    let behind = fd.behind (Letters (codes "R")) (spot_words m.value.0) refl (fc.behind fd.last [] fd.apart e.1) in
    record { can = rw (p.0) cm; form = (false, (codes "R", text, refl, refl, behind)) })

-- definitions

-- a letter was there, or not
there_back : {A B : Type 0} (o : Option A) (f : A → Option B) (otherwise : Option B) (b : B)
    → where_there o f otherwise ≡ Some b → ((a : A) × (o ≡ Some a) × (f a ≡ Some b)) ⊎ (otherwise ≡ Some b)
there_back None f otherwise b h = inr h
there_back (Some a) f otherwise b h = inl (a, refl, h)

start_can : (n : ℕ) (scale : Scale) → is_command_in_bounds (Start n scale) ≡ true → list_all is_moderate (scale_words false scale) ≡ true
start_can n scale b =
    let p = and_parts (is_in_bounds n && is_in_bounds scale.times) (is_in_bounds scale.over) b in
    let q = and_parts (is_in_bounds n) (is_in_bounds scale.times) p.0 in
    rw (q.1, p.1) refl

start_back : (text rest : List ℕ) (c : Command) → letter 83 text ≡ Some rest → start_command rest ≡ Some c → Forms (68 ∷ text) c
start_back text rest c s h =
    let n = bound (unsigned_of rest) _ c h in
    let k = scale_of (ratio_of n.value.1) n.value.1 in
    let e = ended (Start n.value.0 k.0) k.1 c n.next in
    subst (Forms (68 ∷ text)) e.0 (λ b.
    let p = and_parts (is_in_bounds n.value.0 && is_in_bounds k.0.times) (is_in_bounds k.0.over) b in
    let q = and_parts (is_in_bounds n.value.0) (is_in_bounds k.0.times) p.0 in
    let m = start_can n.value.0 k.0 b in
    let fs = letter_back 83 text rest s in
    let fn = unsigned_back rest n.value.0 n.value.1 q.0 n.is in
    let fk = scale_back n.value.1 (ratio_of n.value.1) refl m in
    let others = scale_words fk.short k.0 in
    let behind = fs.behind (Letters (codes "D")) (Number n.value.0 ∷ others) refl
    (fn.behind fs.last others fs.apart (fk.behind fn.last fn.apart e.1)) in
    record { can = rw (q.0) m; form = (fk.short, (codes "D", text, refl, refl, behind)) })

finish_back : (text rest : List ℕ) (c : Command) → letter 70 text ≡ Some rest → complete Finish rest ≡ Some c → Forms (68 ∷ text) c
finish_back text rest c s h =
    let e = ended Finish rest c h in
    let fs = letter_back 70 text rest s in
    subst (Forms (68 ∷ text)) e.0 (λ b. record {
      can = refl;
      form = (false, (codes "D", text, refl, refl, fs.behind (Letters (codes "D")) [] refl e.1));
    })

delete_back : (text rest : List ℕ) (c : Command) → letter 68 text ≡ Some rest → delete_of rest ≡ Some c → Forms (68 ∷ text) c
delete_back text rest c s h =
    let n = bound (unsigned_of rest) _ c h in
    let e = ended (Delete n.value.0) n.value.1 c n.next in
    let fs = letter_back 68 text rest s in
    subst (Forms (68 ∷ text)) e.0 (λ b.
    let fn = unsigned_back rest n.value.0 n.value.1 b n.is in
    let behind = fs.behind (Letters (codes "D")) (Number n.value.0 ∷ []) refl (fn.behind fs.last [] fs.apart e.1) in
    record { can = rw b refl; form = (false, (codes "D", text, refl, refl, behind)) })

pub definition_back : (text : List ℕ) (c : Command) → definition_of text ≡ Some c → Forms (68 ∷ text) c
definition_back text c h =
    let otherwise = where_there (letter 70 text) (complete Finish) (letter 68 text >>= delete_of) in
    elim (there_back (letter 83 text) start_command otherwise c h) as (λ s. Forms (68 ∷ text) c) [
      | inl s ↦ start_back text s.0 c s.1 s.2
      | inr f ↦ elim (there_back (letter 70 text) (complete Finish) (letter 68 text >>= delete_of) c f) as (λ s. Forms (68 ∷ text) c) [
        | inl s ↦ finish_back text s.0 c s.1 s.2
        | inr d ↦ let l = bound (letter 68 text) delete_of c d in delete_back text l.value c l.is l.next
      ]
    ]

-- a call

pub call_back : (text : List ℕ) (c : Command) → call_of text ≡ Some c → Forms (67 ∷ text) c
call_back text c h =
    let n = bound (unsigned_of text) _ c h in
    let found = repeated transformation_of (length n.value.1) n.value.1 in
    let e = ended (Call n.value.0 found.0) found.1 c n.next in
    subst (Forms (67 ∷ text)) e.0 (λ b.
    let p = and_parts (is_in_bounds n.value.0) (list_all is_transformation_in_bounds found.0) b in
    let m = moderate_transformations found.0 p.1 in
    let fn = unsigned_back text n.value.0 n.value.1 p.0 n.is in
    let others = repeated_back transformation_of transformation_words transformations_back (length n.value.1) n.value.1 m e.1 fn.last fn.apart in
    let behind = fn.behind (Letters (codes "C")) (flat_map transformation_words found.0) refl others in
    record { can = rw (p.0) m; form = (false, (codes "C", text, refl, refl, behind)) })

-- a layer

layer_parts : (gap bs text : List ℕ) (n : ℕ) (c : Command) → AreBlanks gap → text ≡ gap ++ bs
    → (if is_name (take n bs) then complete (Layer (take n bs)) (drop n bs) else None) ≡ Some c → Forms (76 ∷ text) c
layer_parts gap bs text n c g e h = (elim (is_name (take n bs)) as (λ t. is_name (take n bs) ≡ t → Forms (76 ∷ text) c) [
  | true ↦ λ t.
      let d = ended (Layer (take n bs)) (drop n bs) c (rw t at h) in
      let is : text ≡ gap ++ (take n bs ++ drop n bs) = e ∙ ap (λ x. gap ++ x) (sym (take-append-drop n bs)) in
      let behind : AreBehind (Letters (codes "L")) (Letters (take n bs) ∷ []) text = (gap, take n bs, drop n bs, g, refl, is, refl, d.1) in
      subst (Forms (76 ∷ text)) d.0 (λ b. record { can = rw t refl; form = (false, (codes "L", text, refl, refl, behind)) })
  | false ↦ λ t. let k : ◌≡◌ {A = Option Command} None (Some c) = rw t at h in absurd (cc)
]) refl

pub layer_back : (text : List ℕ) (c : Command) → layer_command text ≡ Some c → Forms (76 ∷ text) c
layer_back text c h =
    let s = split is_blank text in
    layer_parts s.front s.rest text (prefix_len is_name_byte s.rest) c s.all s.is (rw s.drop at h)
