use Rattle.std.proofs.Common.{◌≡◌, true, false, [], ◌∷◌, ◌++◌, refl, ap, ◌∙◌, codes, rules}
use Rattle.dpl_report.specs.ReportLines.{numbered}
use Rattle.dpl_parse.proofs.StandingLemmas.{others_stand, stand_joined}
use Rattle.dpl_parse.proofs.BoxLemmas.{end_of_box, box_stands}
use Rattle.dpl_parse.proofs.drawn.drawn_in.Goals as goal

pub returns-in_default-pair_at-2 : goal.returns-in_default-pair_at-2
returns-in_default-pair_at-2 c = λ x y z w s.
    let n = c.in-Some-pair_at in
    let o = others_stand (n.sides.0 ∷ n.sides.1 ∷ []) (x ∷ y ∷ []) (z ∷ w ∷ []) n.rest.now end_of_box c.in-Some.rest.now refl n.ensures
    (box_stands (x ∷ y ∷ z ∷ w ∷ []) c.args.line.now c.in-Some.rest.now c.in-Some.ensures s) in
    c.in_default-pair_at-2.ensures z w end_of_box o.1

pub returns-then-not-is_end : goal.returns-then-not-is_end
returns-then-not-is_end c = λ x y z w s.
    let n = c.in-Some-pair_at in
    let m = c.in-Some-pair_at-2 in
    let no_end : c.is_end.result ≡ false = search rules in
    let o = others_stand (n.sides.0 ∷ n.sides.1 ∷ []) (x ∷ y ∷ []) (z ∷ w ∷ []) n.rest.now end_of_box c.in-Some.rest.now refl n.ensures
    (box_stands (x ∷ y ∷ z ∷ w ∷ []) c.args.line.now c.in-Some.rest.now c.in-Some.ensures s) in
    let p = others_stand (m.middle.0 ∷ m.middle.1 ∷ []) (z ∷ w ∷ []) [] m.rest.now end_of_box n.rest.now refl m.ensures o.1 in
    let end : c.is_end.result ≡ true = c.is_end.ensures.1 p.1.is in
    absurd (cc (end, no_end))

pub returns : goal.returns
returns c =
    let n = c.in-Some-pair_at in
    let m = c.in-Some-pair_at-2 in
    let end : c.is_end.result ≡ true = search rules in
    let s = stand_joined (n.sides.0 ∷ n.sides.1 ∷ []) (m.middle.0 ∷ m.middle.1 ∷ []) m.rest.now n.rest.now c.in-Some.rest.now n.ensures m.ensures in
    let e : m.rest.now ≡ end_of_box = c.is_end.ensures.0 end in
    record {
      near = s.near;
      is = c.in-Some.ensures
          ∙ ap (λ t. codes "B" ++ t) (s.is ∙ ap (λ t. numbered (n.sides.0 ∷ n.sides.1 ∷ m.middle.0 ∷ m.middle.1 ∷ []) t) e);
    }
