-- Colours of the parts colour the whole, and faces that the whole links lie in one part.
use Rattle.std.proofs.Common.{◌≡◌, ℕ, ◌<◌, sym, ap, ◌∙◌, Bool, true, List, length, subst}
use Rattle.std.specs.Prelude.{All}
use Rattle.std.proofs.lemmas.List.Elements.{All-contains}
use Rattle.dpl_sign.specs.declared.nets.Net.{Net}
use Rattle.dpl_sign.specs.Kinds.{is_bond}
use Rattle.dpl_sign.specs.Colourings.{IsColouring, colour_of}
use Rattle.dpl_sign.specs.Walks.{edge_at}
use Rattle.dpl_sign.specs.Drawings.{is_in, dart_count}
use Rattle.dpl_sign.specs.Excess.{kept_edges}
use Rattle.dpl_sign.proofs.ComponentLemmas.{start_below, end_below}
use Rattle.dpl_sign.proofs.Rotation.{face_below}
use Rattle.dpl_parts.specs.Parts.{IsPartOf, dart, face_at, AreOfOneKeptPart}
use Rattle.dpl_parts.specs.Shares.{Part, ShareOut, AgreeWith, AreTogether}
use Rattle.dpl_parts.proofs.Darts.{dart_apart}
use Rattle.dpl_parts.proofs.Kept.{keeps_alike}
use Rattle.dpl_parts.proofs.Linked.{links_stay}
use Rattle.dpl_parts.proofs.FaceNames.{face_up}
use Rattle.dpl_parts.proofs.Stays.{bond_at, bonds_from}
use Rattle.dpl_parts.proofs.Shared.{edge_held, dart_held}

pub colouring_sum : (whole : Net) (parts : List Part) → ShareOut whole parts → (colours : List Bool)
    → length colours ≡ whole.graph.nodes → AgreeWith colours parts
    → All (λ p. IsColouring p.net.graph p.colours) parts → IsColouring whole.graph colours
colouring_sum whole parts h colours long agree each = record { length = long; bonds = bonds_from whole colours one } where
  one : (f : ℕ) → f < length whole.graph.edges → is_bond (edge_at whole.graph f).kind ≡ true →
      colour_of colours (edge_at whole.graph f).a ≡ colour_of colours (edge_at whole.graph f).b
  one f l b =
      let s = edge_held whole parts h f l in
      let p = s.holder in
      let e = s.own in
      let hp = All-contains (λ p. IsPartOf p.net whole p.node p.edge) parts p h.are s.among in
      let ag = All-contains (λ p. (v : ℕ) → v < p.net.graph.nodes → colour_of colours (p.node v) ≡ colour_of p.colours v) parts p agree s.among in
      let own = All-contains (λ p. IsColouring p.net.graph p.colours) parts p each s.among in
      let x : (edge_at whole.graph f).a ≡ p.node (edge_at p.net.graph e).a = ap (λ z. (edge_at whole.graph z).a) (sym s.is) ∙ hp.first e s.below in
      let y : (edge_at whole.graph f).b ≡ p.node (edge_at p.net.graph e).b = ap (λ z. (edge_at whole.graph z).b) (sym s.is) ∙ hp.second e s.below in
      let t : is_bond (edge_at p.net.graph e).kind ≡ true = ap is_bond (sym (hp.kind e s.below)) ∙ ap (λ z. is_bond (edge_at whole.graph z).kind) s.is ∙ b in
      ap (colour_of colours) x ∙ ag _ (start_below p.net.graph e s.below) ∙ bond_at p.net p.colours own e s.below t ∙
      sym (ag _ (end_below p.net.graph e s.below)) ∙ ap (colour_of colours) (sym y)

-- a face of the whole is one of a part where its name is a dart of the part
pub face_name_up : (p : Part) (whole : Net) → IsPartOf p.net whole p.node p.edge → (c : ℕ)
    → c < dart_count p.net → face_at whole (dart p.edge c) ≡ dart p.edge (face_at p.net c)
face_name_up p whole h c l = face_up p.net whole p.node p.edge h (is_in (kept_edges p.net)) (is_in (kept_edges whole))
    (keeps_alike p.net whole p.node p.edge h) c l

pub face_name_down : (p : Part) (whole : Net) → IsPartOf p.net whole p.node p.edge → (c : ℕ)
    → c < dart_count p.net → face_at whole (dart p.edge c) ≡ dart p.edge c → face_at p.net c ≡ c
face_name_down p whole h c l name = dart_apart p.net whole p.node p.edge h (face_at p.net c) c
    (face_below p.net (is_in (kept_edges p.net)) c l) l (sym (face_name_up p whole h c l) ∙ name)

pub are_together : (whole : Net) (parts : List Part) → ShareOut whole parts → (f g : ℕ) → f < dart_count whole
    → face_at whole f ≡ f → AreOfOneKeptPart whole f g → AreTogether parts f g
are_together whole parts h f g l name linked =
    let s = dart_held whole parts h f l in
    let p = s.holder in
    let c = s.own in
    let hp = All-contains (λ p. IsPartOf p.net whole p.node p.edge) parts p h.are s.among in
    let there : face_at whole (dart p.edge c) ≡ f = ap (face_at whole) s.is ∙ name in
    let own : face_at p.net c ≡ c = face_name_down p whole hp c s.below (there ∙ sym s.is) in
    let (x, lx, nx, way, at) = links_stay p.net whole p.node p.edge hp c g s.below own (subst (λ z. AreOfOneKeptPart whole z g) (sym there) linked) in
    record {
      part = p;
      among = s.among;
      first = c;
      second = x;
      first_below = s.below;
      second_below = lx;
      first_is = s.is;
      second_is = ap (dart p.edge) (sym nx) ∙ sym (face_name_up p whole hp x lx) ∙ at;
      linked = way;
    }
