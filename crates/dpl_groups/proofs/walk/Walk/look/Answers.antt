use Rattle.std.proofs.Common.{◌≡◌, ◌-◌, ◌<◌, ℕ, ap, refl, length, get_or, arith}
use Rattle.dpl_groups.specs.Walk.{view}
use Rattle.dpl_groups.proofs.Views.{left_at, looked_view, looked_lower}
use Rattle.dpl_groups.proofs.Settling.{Looking, looking, look_edge, same_next, look_kept, look_seen}
use Rattle.dpl_groups.proofs.walk.Walk.look.Goals as goal

pub overflow_sub-next : goal.overflow_sub-next
overflow_sub-next c =
    let q : Looking c.args.edges.now c.args.self.now c.args.node c.as_slice-list.result.now c.index-left.result.now =
    looking c.args.edges.now c.args.self.now c.args.node c.as_slice-list.result.now c.index-edges-node.result
    c.index-left.result.now c.requires.walk c.requires.top c.requires.more c.as_slice-list.ensures
    c.index-edges-node.is c.index-left.ensures in
    q.few

pub bounds-list-list : goal.bounds-list-list
bounds-list-list c =
    let q : Looking c.args.edges.now c.args.self.now c.args.node c.as_slice-list.result.now c.index-left.result.now =
    looking c.args.edges.now c.args.self.now c.args.node c.as_slice-list.result.now c.index-edges-node.result
    c.index-left.result.now c.requires.walk c.requires.top c.requires.more c.as_slice-list.ensures
    c.index-edges-node.is c.index-left.ensures in
    omega (arith, q.few, q.more)

pub settle-requires-clause-edge : goal.settle-requires-clause-edge
settle-requires-clause-edge c =
    let q : Looking c.args.edges.now c.args.self.now c.args.node c.as_slice-list.result.now c.index-left.result.now =
    looking c.args.edges.now c.args.self.now c.args.node c.as_slice-list.result.now c.index-edges-node.result
    c.index-left.result.now c.requires.walk c.requires.top c.requires.more c.as_slice-list.ensures
    c.index-edges-node.is c.index-left.ensures in
    look_edge c.args.edges.now c.args.node c.as_slice-list.result.now c.index-left.result.now q.same q.more q.few

pub settle-requires-clause-next : goal.settle-requires-clause-next
settle-requires-clause-next c =
    let q : Looking c.args.edges.now c.args.self.now c.args.node c.as_slice-list.result.now c.index-left.result.now =
    looking c.args.edges.now c.args.self.now c.args.node c.as_slice-list.result.now c.index-edges-node.result
    c.index-left.result.now c.requires.walk c.requires.top c.requires.more c.as_slice-list.ensures
    c.index-edges-node.is c.index-left.ensures in
    c.requires.graph c.args.node _ (look_edge c.args.edges.now c.args.node c.as_slice-list.result.now c.index-left.result.now q.same q.more q.few)

pub returns-clause-walk : goal.returns-clause-walk
returns-clause-walk c =
    let q : Looking c.args.edges.now c.args.self.now c.args.node c.as_slice-list.result.now c.index-left.result.now =
    looking c.args.edges.now c.args.self.now c.args.node c.as_slice-list.result.now c.index-edges-node.result
    c.index-left.result.now c.requires.walk c.requires.top c.requires.more c.as_slice-list.ensures
    c.index-edges-node.is c.index-left.ensures in
    let same_left : c.settle.new.self.left.items ≡ c.args.self.now.left.items = c.in_ok-settle.ensures.left in
    let more : 0 < (view c.args.self.now).left c.args.node = rw (left_at c.args.self.now c.args.node) c.requires.more in
    let here : c.args.node < length c.settle.new.self.left.items = rw same_left q.node in
    let count : c.index-left.result.now ≡ get_or c.settle.new.self.left.items c.args.node 0 = rw same_left q.count in
    look_kept c.args.edges.now (view c.args.self.now) (view c.settle.new.self) _ c.args.node _ c.in_ok-settle.ensures.settled more
    (same_next c.args.edges.now c.args.node c.as_slice-list.result.now c.index-left.result.now
    ((view c.args.self.now).left c.args.node) q.same (rw (left_at c.args.self.now c.args.node) q.count))
    (looked_view c.settle.new.self _ c.args.node (c.index-left.result.now - 1) here (ap (λ (n : ℕ). n - 1) count) refl refl refl refl refl refl)

pub returns-clause-seen : goal.returns-clause-seen
returns-clause-seen c =
    let q : Looking c.args.edges.now c.args.self.now c.args.node c.as_slice-list.result.now c.index-left.result.now =
    looking c.args.edges.now c.args.self.now c.args.node c.as_slice-list.result.now c.index-edges-node.result
    c.index-left.result.now c.requires.walk c.requires.top c.requires.more c.as_slice-list.ensures
    c.index-edges-node.is c.index-left.ensures in
    let same_left : c.settle.new.self.left.items ≡ c.args.self.now.left.items = c.in_ok-settle.ensures.left in
    let more : 0 < (view c.args.self.now).left c.args.node = rw (left_at c.args.self.now c.args.node) c.requires.more in
    let here : c.args.node < length c.settle.new.self.left.items = rw same_left q.node in
    let count : c.index-left.result.now ≡ get_or c.settle.new.self.left.items c.args.node 0 = rw same_left q.count in
    look_seen c.args.edges.now (view c.args.self.now) (view c.settle.new.self) _ c.args.node _ c.in_ok-settle.ensures.settled
    (looked_view c.settle.new.self _ c.args.node (c.index-left.result.now - 1) here (ap (λ (n : ℕ). n - 1) count) refl refl refl refl refl refl)

pub returns-clause-smaller : goal.returns-clause-smaller
returns-clause-smaller c =
    let q : Looking c.args.edges.now c.args.self.now c.args.node c.as_slice-list.result.now c.index-left.result.now =
    looking c.args.edges.now c.args.self.now c.args.node c.as_slice-list.result.now c.index-edges-node.result
    c.index-left.result.now c.requires.walk c.requires.top c.requires.more c.as_slice-list.ensures
    c.index-edges-node.is c.index-left.ensures in
    let same_left : c.settle.new.self.left.items ≡ c.args.self.now.left.items = c.in_ok-settle.ensures.left in
    let more : 0 < (view c.args.self.now).left c.args.node = rw (left_at c.args.self.now c.args.node) c.requires.more in
    let here : c.args.node < length c.settle.new.self.left.items = rw same_left q.node in
    let count : c.index-left.result.now ≡ get_or c.settle.new.self.left.items c.args.node 0 = rw same_left q.count in
    looked_lower c.args.self.now c.settle.new.self _ c.args.node (c.index-left.result.now - 1) here
    (omega (arith, count, q.more)) same_left c.in_ok-settle.ensures.settled.height refl refl
