use Rattle.std.proofs.Common.{sym, ◌∙◌, Bool, List, subst}
use Rattle.dpl_sign.specs.declared.nets.Net.{Net}
use Rattle.dpl_sign.specs.Drawings.{is_in}
use Rattle.dpl_sign.specs.Parity.{MeetsFaces}
use Rattle.dpl_map.specs.Maps.{is_kept}
use Rattle.dpl_colour.specs.Meets.{is_joined}
use Rattle.dpl_graph_tests.proofs.colour.coloured.Goals as goal

pub meets_by_number-requires : goal.meets_by_number-requires
meets_by_number-requires c =
    let joined = c.args.joined.now in
    let met : MeetsFaces c.args.net.now (is_in c.as_slice-2.result.now) (is_joined joined) = c.in_ok-meets_faces.ensures.0 c.if-not-branch.false in
    let P : List Bool → Type 0 = λ z. MeetsFaces c.args.net.now (is_in z) (is_joined joined) in
    let Q : Net → Type 0 = λ z. MeetsFaces z (is_kept z) (is_joined joined) in
    subst Q (sym c.in_ok-map.ensures) (subst P (c.as_slice-2.ensures ∙ c.in_ok-kept.ensures) met)
