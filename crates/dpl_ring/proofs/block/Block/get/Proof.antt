-- `get` hands on the `&` to the pair of one place.
use Rattle.dpl_ring.proofs.Steps.{◌≡◌, ◌*◌, ◌+◌, ◌<◌, ◌^◌, List, [], ◌∷◌, length, get_or, refl, w64, arith, true, false}
use Rattle.dpl_ring.proofs.Steps.{proved, id⊢, ftrue, flft, named, Val, vint, vptr, fact, tables, ‵, raw, ◌⊛◌, at_ret}
use Rattle.dpl_ring.proofs.Steps.{◌$◌, ◌∵◌, !, qed, done, move, keep, drop, use1, split, join, fsplit, fjoin, feq_i}
use Rattle.dpl_ring.proofs.Steps.{suffices, enter, of_opd, lit, bin, addr, load, look, stop, fld, first, blocks, exec}
use Rattle.dpl_ring.proofs.Steps.{returns, alloc_all, pass_all, free_all, look_at, get, through, sets, sets_last, env}
use Rattle.dpl_ring.proofs.Steps.{after, usize, RefOf, hidden_shr, RawPtr, uint_vals, uint_Tells, in_a_block, ShrRef}
use Rattle.dpl_ring.proofs.Steps.{shr_vals, shr_Tells, plain, nothing, heard, Stays, walk_of, says, stay_dropped}
use Rattle.dpl_ring.proofs.Steps.{Goes-dropped, ends_at, E}
use base.Fml.{fhide}
use denote.Opens.{unhide}
use denote.Struct.Struct.{Struct}
use denote.Struct.Owning.{shape}
use denote.Struct.Lending.{lent_out}
use Rattle.core.proofs.slots.Lent.{none_at_null, value_lent, pointer_in, pointer_out}
use Rattle.dpl_ring.specs.Blocks.{block_lends, pair_row}
use Rattle.dpl_ring.specs.Places.{pair_at}
use Rattle.dpl_ring.specs.contracts.block.Block.get as f
use Rattle.dpl_ring.proofs.block.Block.get.Statement.{statement}
use Rattle.dpl_ring.proofs.block.Block.get.Code as code
use Rattle.dpl_ring.specs.contracts.block.Block as C

abbrev stayed : Stays f.ended.signature.params f.ended.kept
stayed = (stay_dropped (RefOf (0 ∷ []) tt (plain (λ _. C.the_row)) (λ _. tt)) f.ended.kept.0, (stay_dropped (plain (λ _. usize)) f.ended.kept.1.0, tt))

pub get_spec : {M : Type 1} → statement M
get_spec 𝓤 𝓛 𝓜 𝓡 wired =
    let c = f.clauses 𝓛 𝓜.mem 𝓡.returns in let W = walk_of 𝓛 f.ended stayed c in let 𝓣 = tables 𝓤 𝓛.H 𝓜 𝓡 𝓡.env in
    proved 𝓛 f.ended stayed c 𝓜 𝓡 (
      Goes-dropped 𝓛 1 (RefOf (0 ∷ []) tt (plain (λ _. C.the_row)) (λ _. tt))
          f.ended.kept.0 (λ κs x g. refl),
      (Goes-dropped 𝓛 1 (plain (λ _. usize)) f.ended.kept.1.0 (λ κs x g. refl), tt),
    )
    f.Key.name code.function (code.unfolded 𝓤 𝓛.H 𝓜 𝓡 wired)
    (λ κs. (shr_vals, (uint_vals w64, tt))) (λ κs. (shr_Tells (named 0) κs.0 C.the_row, (uint_Tells w64, tt))) (λ κs qs bounds a _ are.
    let κ = κs.0 in let q = qs.0 in let rb = a.0.ref_ptr.0 in let ro = a.0.ref_ptr.1 in let h = a.0.now in let vs =
    shr_vals a.0 in let i = a.1.0 in let x = pair_at h.items i in
    let y : W.Ghost = ((κs, qs, bounds, a, (vs, (vint w64 i ∷ [], tt))), tt) in
    let Asked : Type 0 = (i < length h.items) × (get_or h.filled i false ≡ true) in
    qed 𝓛 (((‵ (flft κ q) ⊛ ‵ ftrue) ⊛ ‵ ((ShrRef (named 0) κ C.the_row).own_val a.0 vs) ⊛
    ‵ (usize.own_val i (vint w64 i ∷ [])) ⊛ ‵ ftrue) ∷ raw (fact 𝓤 Asked) ∷ []) ∵
    move ! (1 ∷ []) $ heard ! Asked (λ asked. let inside = asked.0 in
    let fx : i < length h.filled = omega (arith, h.sizes.0, h.sizes.1, inside) in let fm : i * 8 < 2 ^ 64 = omega (arith, h.sizes.0, h.small, inside) in
    split ! $ split ! $ move ! (2 ∷ []) $ split ! $ fsplit ! $ drop ! $
    use1 𝓛 (‵ (hidden_shr (Struct (shape C.the_type)) κ (h.at, (h.count, tt)) rb ro) ⊛ ‵ (fhide (C.the_lent h h.at κ)))
    (lent_out 𝓛 C.struct C.the_codes C.the_heap C.the_lent κ h rb ro) $ split ! $
    unhide ! $ fsplit ! $ fsplit ! $ keep ! (0 ∷ 3 ∷ 5 ∷ []) $
    use1 𝓛 (‵ (hidden_shr RawPtr κ h.at rb (ro + 0))) (id⊢ 𝓤 _) $ move ! (1 ∷ []) $
    use1 𝓛 (‵ (block_lends h.at h.items h.filled κ)) (id⊢ 𝓤 _) $
    in_a_block ! h.at (λ p. block_lends p h.items h.filled κ) (none_at_null E 𝓛 κ h.items h.filled i inside fx asked.1) (λ b o e.
    use1 𝓛 (‵ (hidden_shr pair_row κ x b (i * 8 + o)))
    (value_lent E 𝓛 κ b o h.items h.filled i (record { next = 0; prev = 0 }) inside fx asked.1) $
    move ! (1 ∷ 2 ∷ []) $
    -- [the word of the pointer; the token; the pair]
    enter ! _ _ _ _ _ $ alloc_all ! (λ l. pass_all ! refl ((tt, tt), ((tt, record { fits = are.1.0.1 }), tt)) $
    first ! $ blocks ! $ pointer_in ! tt h.at b o e rb (ro + 0) (λ q'.
    sets ! (of_opd ! (load ! (through ! refl (fld ! refl (stop !))) (look ! 0 refl))) refl (tt, tt) $
    pointer_out ! tt h.at b o e rb (ro + 0) $
    sets ! (bin ! (get ! refl) (lit ! tt) (record { fits = fm })) refl (tt, record { fits = fm }) $
    sets ! (bin ! (get ! refl) (get ! refl) tt) refl (tt, tt) $
    sets_last ! (addr ! (through ! refl (stop !))) refl (tt, tt) $
    exec ! 𝓣.C 𝓣.Λ (env code.Mir.locals l) (after 1 (code.function).body) (at_ret _ (W.post y)) $ sets ! (of_opd ! (get ! refl)) refl (tt, tt) $
    returns ! (look_at ! 0 refl) $ free_all ! refl $
    suffices ! _ (ends_at 𝓛 f.ended stayed c y (vptr b (i * 8 + o)) (record { ref_ptr = (b, i * 8 + o); now = x })
    (tt, (tt, tt)) (tt, (tt, tt))) $ says ! refl $
    nothing ! $ move ! (1 ∷ 0 ∷ []) $ join ! $ move ! (1 ∷ []) $ feq_i ! (List Val) (vptr b (i * 8 + o) ∷ []) (vptr b (i * 8 + o) ∷ []) refl $ fjoin ! $
    nothing ! $ nothing ! $ fjoin ! $ nothing ! $ fjoin ! $ keep ! (2 ∷ 0 ∷ 1 ∷ []) $ done !)))))
