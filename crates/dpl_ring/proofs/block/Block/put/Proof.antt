-- `put` writes one place through the pointer.
use Rattle.dpl_ring.proofs.Steps.{◌*◌, ◌+◌, ◌<◌, ◌^◌, List, [], ◌∷◌, length, set, refl, sym, ap, ◌∙◌, w64, arith}
use Rattle.dpl_ring.proofs.Steps.{length-set, true, proved, full_share, id⊢, ftrue, froom, flft, named, Val, vunit}
use Rattle.dpl_ring.proofs.Steps.{vint, fact, tables, ‵, raw, ◌⊛◌, at_ret, ◌$◌, ◌∵◌, !, qed, done, move, keep, use1}
use Rattle.dpl_ring.proofs.Steps.{use3, split, join, fsplit, fsplit3, fjoin, feq_i, rewrite, suffices, frame, group}
use Rattle.dpl_ring.proofs.Steps.{enter, of_opd, lit, unit_lit, bin, load, init, stop, fld, assigns_last, first, blocks}
use Rattle.dpl_ring.proofs.Steps.{exec, returns, alloc_all, pass_all, free_all, look_at, get, through, sets, env, whole}
use Rattle.dpl_ring.proofs.Steps.{sub, look_in, after, usize, shows, cell_at, uint_vals, uint_Tells, Ptr, block_ptr}
use Rattle.dpl_ring.proofs.Steps.{in_a_block, MutRef, mut_vals, mut_Tells, plain, nothing, opens, closes, peeks, heard}
use Rattle.dpl_ring.proofs.Steps.{Stays, walk_of, says, stay_ref, stay_dropped, Goes-ref, Goes-dropped, ends_at}
use Rattle.dpl_ring.proofs.Steps.{besides, room_out, value_in, E}
use Rattle.core.proofs.mem.Param.{elτ}
use Rattle.dpl_ring.specs.Blocks.{block_owns}
use Rattle.dpl_ring.specs.contracts.block.Block.put as f
use Rattle.dpl_ring.proofs.block.Block.put.Statement.{statement}
use Rattle.dpl_ring.proofs.block.Block.put.Code as code
use Rattle.dpl_ring.specs.contracts.block.Block.{the_row as R}
use Rattle.dpl_ring.specs.contracts.pair.Pair.{the_row as P}
use Rattle.dpl_ring.proofs.block.Block.TheLaws.{lowers}
use Rattle.dpl_ring.proofs.pair.Pair.TheLaws as pair

abbrev stayed : Stays f.ended.signature.params f.ended.kept
stayed = (stay_ref (0 ∷ []) tt (plain (λ _. R)), (stay_dropped (plain (λ _. usize)) f.ended.kept.1.0, (stay_dropped (plain (λ _. P)) f.ended.kept.1.1.0, tt)))

pub put_spec : {M : Type 1} → statement M
put_spec 𝓤 𝓛 𝓜 𝓡 wired =
    let c = f.clauses 𝓛 𝓜.mem 𝓡.returns in let W = walk_of 𝓛 f.ended stayed c in let 𝓣 = tables 𝓤 𝓛.H 𝓜 𝓡 𝓡.env in
    proved 𝓛 f.ended stayed c 𝓜 𝓡 (
      Goes-ref 𝓛 1 0 tt (plain (λ _. R)),
      (
        Goes-dropped 𝓛 1 (plain (λ _. usize)) f.ended.kept.1.0 (λ κs x g. refl),
        (Goes-dropped 𝓛 1 (plain (λ _. P)) f.ended.kept.1.1.0 (λ κs x g. refl), tt),
      ),
    )
    f.Key.name code.function (code.unfolded 𝓤 𝓛.H 𝓜 𝓡 wired)
    (λ κs. (mut_vals, (uint_vals w64, ((λ x. pair.lowered x ∷ []), tt))))
    (λ κs. (mut_Tells (named 0) κs.0 R, (uint_Tells w64, (pair.lowers.val_is, tt)))) (λ κs qs bounds a _ are.
    let rb = a.0.ref_ptr.0 in let ro = a.0.ref_ptr.1 in let h = a.0.now in let vs = mut_vals a.0 in let i = a.1.0 in
    let x = a.1.1.0 in let v = pair.lowered x in
    let y : W.Ghost = ((κs, qs, bounds, a, (vs, (vint w64 i ∷ [], (v ∷ [], tt)))), tt) in
    let tv = ((pair.the_row_laws.lawful 𝓛).typed x (v ∷ []) are.1.1.0).0 in
    qed 𝓛 (((‵ (flft κs.0 qs.0) ⊛ ‵ ftrue) ⊛ ‵ ((MutRef (named 0) κs.0 R).own_val a.0 vs) ⊛
    ‵ (usize.own_val i (vint w64 i ∷ [])) ⊛ ‵ (P.own_val x (v ∷ [])) ⊛ ‵ ftrue) ∷
    raw (fact 𝓤 (i < length h.items)) ∷ []) ∵
    move ! (1 ∷ []) $ heard ! (i < length h.items) (λ inside.
    split ! $ split ! $ move ! (2 ∷ []) $ split ! $ move ! (1 ∷ []) $ split ! $ move ! (1 ∷ []) $ split ! $ keep ! (3 ∷ 4 ∷ 0 ∷ []) $
    enter ! _ _ _ _ _ $ alloc_all ! (λ l. pass_all ! refl ((tt, tt), ((tt, record { fits = are.1.0.1 }), (tv, tt))) $
    fsplit3 ! $ move ! (1 ∷ 2 ∷ 3 ∷ []) $ opens ! tt R rb ro (λ us.
    move ! (1 ∷ []) $ peeks ! R _ (shows 𝓛 R) h us (λ is. fsplit ! $ move ! (1 ∷ []) $
    in_a_block ! h.at (λ p. block_owns p h.items h.filled) (id⊢ 𝓤 _) (λ b o e.
    let fx : i < length h.filled = omega (arith, h.sizes.0, h.sizes.1, inside) in let fm : i * 8 < 2 ^ 64 = omega (arith, h.sizes.0, h.small, inside) in
    let new = record h {
      items = set h.items i x;
      filled = set h.filled i true;
      sizes =
          (h.sizes.0 ∙ sym (length-set h.items i x), h.sizes.1 ∙ sym (length-set h.filled i true));
    } in
    let word = lowers.val_is h us is ∙ ap (λ (p : Ptr). lowers.lowered (record h { at = p }) ∷ []) e in
    let Cell = λ (ws : List Val). ‵ (cell_at full_share R.mir ws rb ro) in
    use1 𝓛 (‵ (froom (elτ E) b (i * 8 + o)) ⊛ ‵ (besides E b o h.items h.filled i))
    (room_out E 𝓛 b o h.items h.filled i inside fx x) $ split ! $ rewrite ! 3 Cell word refl $
    -- [the room of place i; the other places; the two words; their cell; the open borrow, in three entries; self's first part; what the pair owns]
    first ! $ blocks ! $
    sets ! (of_opd ! (load ! (through ! refl (fld ! refl (stop !))) (look_in ! 3 (sub ! 0 refl (whole !))))) refl (tt, tt) $
    sets ! (bin ! (get ! refl) (lit ! tt) (record { fits = fm })) refl (tt, record { fits = fm }) $
    sets ! (bin ! (get ! refl) (get ! refl) tt) refl (tt, tt) $
    assigns_last ! (of_opd ! (get ! refl)) (through ! refl (stop !)) (init ! 0 refl tv) $
    exec ! 𝓣.C 𝓣.Λ (env code.Mir.locals l) (after 1 (code.function).body) (at_ret _ (W.post y)) $
    sets ! (of_opd ! (unit_lit !)) refl (tt, tt) $
    move ! (0 ∷ 8 ∷ 1 ∷ []) $ use3 𝓛 (‵ (block_owns (block_ptr b o) new.items new.filled)) (value_in E 𝓛 b o h.items h.filled i inside fx x v) $
    rewrite ! 0 (λ (p : Ptr). ‵ (block_owns p new.items new.filled)) (sym e) refl $ rewrite ! 2 Cell (sym word) refl $
    move ! (1 ∷ []) $ fjoin ! $ move ! (1 ∷ []) $ closes ! tt R new us rb ro $
    returns ! (look_at ! 0 refl) $ free_all ! refl $ move ! (3 ∷ []) $
    suffices ! _ (ends_at 𝓛 f.ended stayed c y vunit tt (new, (tt, (tt, tt))) (tt, (tt, (tt, tt)))) $ says ! (refl, refl, refl, refl) $
    group ! 3 $ nothing ! $ nothing ! $ join ! $ nothing ! $ join ! $ move ! (1 ∷ 0 ∷ []) $ join ! $ nothing ! $
    move ! (2 ∷ 0 ∷ []) $ join ! $ frame ! $ frame ! $
    feq_i ! _ (vunit ∷ []) _ refl $ done !))))))
