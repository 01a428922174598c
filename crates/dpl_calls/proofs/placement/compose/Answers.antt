use Rattle.std.proofs.Common.{rules, ◌≡◌, ◌≤◌, ◌+◌, ◌+ℤ◌, FitsSigned, unsigned_abs, not, refl}
use Rattle.std.specs.Int.{w128}
use Rattle.std.proofs.lemmas.Int.{to_z-of_z}
use Rattle.dpl_calls.specs.Placement.{signed}
use Rattle.dpl_calls.proofs.Turns.{placement, swapped_at, plain_at, near_at}
use Rattle.dpl_calls.proofs.placement.compose.Goals as goal

pub returns-then-outer-clause-value : goal.returns-then-outer-clause-value
returns-then-outer-clause-value q = λ c.
    let ox : FitsSigned w128 q.args.outer.x = search rules in
    let oy : FitsSigned w128 q.args.outer.y = search rules in
    let ix : FitsSigned w128 q.args.inner.x = search rules in
    let iy : FitsSigned w128 q.args.inner.y = search rules in
    let rx : FitsSigned w128 q.farther-x.result = search rules in
    let ry : FitsSigned w128 q.farther-y.result = search rules in
    let ex : q.farther-x.result ≡ q.args.outer.x +ℤ signed q.args.outer.negate_x q.args.inner.y = simp to_z-of_z at q.farther-x.ensures.value in
    let ey : q.farther-y.result ≡ q.args.outer.y +ℤ signed q.args.outer.negate_y q.args.inner.x = simp to_z-of_z at q.farther-y.ensures.value in
    let made : q.make.result ≡ placement (not q.args.inner.swap) q.differ-negate_x.result q.differ-negate_y.result
    q.farther-x.result q.farther-y.result = simp to_z-of_z at q.make.ensures in
    swapped_at q.args.outer q.args.inner q.make.result _ _ _ _ _ made c refl q.differ-negate_x.ensures q.differ-negate_y.ensures q.if-outer.true ex ey

pub returns-then-outer-clause-near : goal.returns-then-outer-clause-near
returns-then-outer-clause-near q = λ n m o i.
    let ox : FitsSigned w128 q.args.outer.x = search rules in
    let oy : FitsSigned w128 q.args.outer.y = search rules in
    let ix : FitsSigned w128 q.args.inner.x = search rules in
    let iy : FitsSigned w128 q.args.inner.y = search rules in
    let rx : FitsSigned w128 q.farther-x.result = search rules in
    let ry : FitsSigned w128 q.farther-y.result = search rules in
    let nx : unsigned_abs q.farther-x.result ≤ unsigned_abs q.args.outer.x + unsigned_abs q.args.inner.y = simp to_z-of_z at q.farther-x.ensures.near in
    let ny : unsigned_abs q.farther-y.result ≤ unsigned_abs q.args.outer.y + unsigned_abs q.args.inner.x = simp to_z-of_z at q.farther-y.ensures.near in
    let made : q.make.result ≡ placement (not q.args.inner.swap) q.differ-negate_x.result q.differ-negate_y.result
    q.farther-x.result q.farther-y.result = simp to_z-of_z at q.make.ensures in
    near_at q.args.outer q.args.inner q.make.result _ _ _ _ _ made n m _ _ o i.y i.x nx ny

pub returns-else-outer-clause-value : goal.returns-else-outer-clause-value
returns-else-outer-clause-value q = λ c.
    let ox : FitsSigned w128 q.args.outer.x = search rules in
    let oy : FitsSigned w128 q.args.outer.y = search rules in
    let ix : FitsSigned w128 q.args.inner.x = search rules in
    let iy : FitsSigned w128 q.args.inner.y = search rules in
    let rx : FitsSigned w128 q.farther-x-else-outer.result = search rules in
    let ry : FitsSigned w128 q.farther-y-else-outer.result = search rules in
    let ex : q.farther-x-else-outer.result ≡ q.args.outer.x +ℤ signed q.args.outer.negate_x q.args.inner.x =
    simp to_z-of_z at q.farther-x-else-outer.ensures.value in
    let ey : q.farther-y-else-outer.result ≡ q.args.outer.y +ℤ signed q.args.outer.negate_y q.args.inner.y =
    simp to_z-of_z at q.farther-y-else-outer.ensures.value in
    let made : q.make-else-outer.result ≡ placement q.args.inner.swap q.differ-negate_x-else-outer.result
    q.differ-negate_y-else-outer.result q.farther-x-else-outer.result q.farther-y-else-outer.result =
    simp to_z-of_z at q.make-else-outer.ensures in
    plain_at q.args.outer q.args.inner q.make-else-outer.result _ _ _ _ _ made c refl
    q.differ-negate_x-else-outer.ensures q.differ-negate_y-else-outer.ensures q.if-outer.false ex ey

pub returns-else-outer-clause-near : goal.returns-else-outer-clause-near
returns-else-outer-clause-near q = λ n m o i.
    let ox : FitsSigned w128 q.args.outer.x = search rules in
    let oy : FitsSigned w128 q.args.outer.y = search rules in
    let ix : FitsSigned w128 q.args.inner.x = search rules in
    let iy : FitsSigned w128 q.args.inner.y = search rules in
    let rx : FitsSigned w128 q.farther-x-else-outer.result = search rules in
    let ry : FitsSigned w128 q.farther-y-else-outer.result = search rules in
    let nx : unsigned_abs q.farther-x-else-outer.result ≤ unsigned_abs q.args.outer.x + unsigned_abs q.args.inner.x =
    simp to_z-of_z at q.farther-x-else-outer.ensures.near in
    let ny : unsigned_abs q.farther-y-else-outer.result ≤ unsigned_abs q.args.outer.y + unsigned_abs q.args.inner.y =
    simp to_z-of_z at q.farther-y-else-outer.ensures.near in
    let made : q.make-else-outer.result ≡ placement q.args.inner.swap q.differ-negate_x-else-outer.result
    q.differ-negate_y-else-outer.result q.farther-x-else-outer.result q.farther-y-else-outer.result =
    simp to_z-of_z at q.make-else-outer.ensures in
    near_at q.args.outer q.args.inner q.make-else-outer.result _ _ _ _ _ made n m _ _ o i.x i.y nx ny
