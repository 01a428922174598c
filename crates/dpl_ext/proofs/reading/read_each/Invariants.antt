use Rattle.std.proofs.Common.{◌≡◌, ◌+◌, ◌≤◌}
use Rattle.dpl_ext.specs.Reading.{HandsOn}
use Rattle.dpl_ext.proofs.reading.read_each.Given as goal

abbrev pub invariant-loop-turn : goal.invariant-loop-turn
invariant-loop-turn g l =
    record {
      turns : l._turn ≤ l.taken;
      reads : g.S.Source.reads l.source ≤ g.S.Source.reads l.initial.source + l._turn;
      within : l.taken ≤ l.limit;
      hands : HandsOn (g.S.Source.seen l.initial.source) (g.S.Source.seen l.source)
          (g.T.Taker.got l.initial.taker) (g.T.Taker.got l.taker) l.taken;
      room : g.T.Taker.room l.taker ≡ g.T.Taker.room l.initial.taker;
    }
