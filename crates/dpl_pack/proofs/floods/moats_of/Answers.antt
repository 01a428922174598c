use Rattle.std.proofs.Common.{arith, refl, sym, ap, ◌∙◌, List, length, ℕ, get_or}
use Rattle.std.specs.Prelude.{slice_index}
use Rattle.dpl_dual.specs.declared.crosses.Dual.{Dual}
use Rattle.dpl_laminar.specs.Families.{Sets}
use Rattle.dpl_laminar.specs.Storing.{sets_of}
use Rattle.dpl_pack.specs.declared.held.Held.{Held}
use Rattle.dpl_pack.specs.Surfaces.{IsAfloat}
use Rattle.dpl_pack.proofs.TableLemmas.{table_members, table_inner, table_small}
use Rattle.dpl_pack.proofs.MoatLemmas.{part_faces}
use Rattle.dpl_pack.proofs.FloodLemmas.{IsFlooded, part_has, flooded_moats}
use Rattle.dpl_pack.proofs.SpotLemmas.{are_spots}
use Rattle.dpl_pack.proofs.floods.moats_of.Goals as goal

pub spots_of-requires : goal.spots_of-requires
spots_of-requires c =
    let fl = c.requires.flood in
    record {
      members = λ k d l.
          let h : Held = get_or c.args.held.now k d in
          omega (arith, fl.flood.members h.face h.member h.far (fl.are.each k d l), c.requires.members);
    }

pub lay-requires : goal.lay-requires
lay-requires c =
    let family = c.in_ok-table.ensures.family in
    let table = c.in_ok-table.ensures.table in
    let fl = c.requires.flood in
    let spots = are_spots (sets_of c.args.family.now) fl.point c.args.held.now _ _ fl.are fl.flood.members (sym c.requires.members)
    c.in_ok-spots.ensures in
    record {
      ends = table.ends_length ∙ sym table.values_length ∙ ap length (sym c.deref.ensures.value);
      small = rw c.deref.ensures.value (table_small _ _ _ family table);
      members = table_members _ _ _ _ table (sym spots.rows);
      inner = table_inner _ _ _ family table;
    }

pub returns : goal.returns
returns c =
    let d : Dual = c.args.dual.now in
    let terminals : List ℕ = c.args.terminals.now in
    let f : Sets = sets_of c.args.family.now in
    let fl = c.requires.flood in
    let faces : List ℕ = part_faces d (slice_index d.part (slice_index terminals 0)) in
    let p : IsFlooded d terminals f fl.point faces = record {
      came = c.requires.dual;
      terms = c.requires.terminals;
      family = c.in_ok-table.ensures.family;
      size = c.requires.members;
      flood = fl.flood;
      faces_are = refl;
    } in
    let spots = are_spots f fl.point c.args.held.now _ _ fl.are fl.flood.members (sym c.requires.members) c.in_ok-spots.ensures in
    let afloat : IsAfloat f fl.point faces _ = record {
      are = spots;
      members = fl.flood.members;
      home = λ g w. let h = fl.flood.home g w in part_has d terminals f fl.point faces p g h.0 h.1;
    } in
    let stacked = rw c.deref.ensures.value at c.in_ok-moats.ensures in
    record { moats = flooded_moats d terminals f fl.point faces _ p (stacked f fl.point faces c.in_ok-table.ensures.table afloat) }
