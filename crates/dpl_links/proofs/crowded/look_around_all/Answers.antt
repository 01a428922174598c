use Rattle.std.proofs.Common.{arith, ◌≡◌, ◌+◌, ℕ, List, length, get_or, subst}
use Rattle.std.proofs.lemmas.List.{get_or_default}
use Rattle.dpl_index.specs.declared.stops.Stop.{Stop}
use Rattle.dpl_links.specs.declared.turning.Turn.{Turn}
use Rattle.dpl_links.specs.Pairs.{Scene}
use Rattle.dpl_links.specs.Gathering.{scene_in}
use Rattle.dpl_links.specs.Crowds.{AddsTurns}
use Rattle.dpl_links.proofs.GatherLemmas.{more_clashes}
use Rattle.dpl_links.proofs.CrowdLemmas.{UnderWay, under_more, under_heads, no_turn}
use Rattle.dpl_links.proofs.crowded.look_around_all.Goals as goal
use Rattle.dpl_links.proofs.crowded.look_around_all.Goals.{then-len-gt-MOST_GATHERED+in-Ok, else-len-gt-MOST_GATHERED}

pub returns-in-Err-clause-many : goal.returns-in-Err-clause-many
returns-in-Err-clause-many c = λ e.
    more_clashes (scene_in c.args.crowd.now.pieces) c.args.crowd.now.pieces.piece.now c.look_around.new.found.items c.args.room
    c.in_ok-look_around.ensures.known.each (c.in-Err.ensures.many (let f = e in cc))

pub loop-turn-preserved : goal.loop-turn-preserved
loop-turn-preserved c =
    let s : Scene = scene_in c.args.crowd.now.pieces in
    let piece : List ℕ = c.args.crowd.now.pieces.piece.now in
    let stops : List Stop = c.args.crowd.now.stops.now in
    let k : ℕ = c.loop-turn.turn-index in
    let turn : Turn = get_or c.args.turns.now k no_turn in
    let u : UnderWay s piece stops c.args.turns.now (k + 1) c.args.found.items c.look_around.new.found.items c.look_around.new.nearest.items =
    under_more s piece stops c.args.turns.now k turn c.args.found.items c.loop-turn.found.items c.look_around.new.found.items
    c.loop-turn.nearest.items c.look_around.new.nearest.items (λ d. get_or_default c.args.turns.now k d no_turn c.loop-turn-test.true)
    c.in_ok-look_around.ensures c.loop-turn.invariant in
    elim c.if-len-gt-MOST_GATHERED.branch [
      | then-len-gt-MOST_GATHERED+in-Ok w ↦ rw w.found-is (under_heads s piece stops c.args.turns.now (k + 1) c.args.found.items
          c.look_around.new.found.items _ c.look_around.new.nearest.items w.in-Ok.ensures.heads u)
      | else-len-gt-MOST_GATHERED w ↦ rw w.found-is u
    ]

pub returns-clause-links : goal.returns-clause-links
returns-clause-links c =
    let h = c.loop-turn-test.false in let l = c.loop-turn.auto.turn-index-end in
    let e : c.loop-turn.turn-index ≡ length c.args.turns.now = omega arith in
    let P : ℕ → Type 0 = λ k. AddsTurns (scene_in c.args.crowd.now.pieces) c.args.crowd.now.pieces.piece.now c.args.crowd.now.stops.now
    c.args.turns.now k c.args.found.items c.loop-turn.found.items in
    subst P e c.loop-turn.invariant.adds
