-- `end` ends the lifetime of the loan once the reader has gone, and has the set again.
use Rattle.std.proofs.Common.{◌≡◌, List, [], ◌∷◌, ◌++◌, refl, sym, subst, ap, ◌∙◌}
use mir.Val.{Val, vptr, has_ty}
use base.Logic.{SProp, ent, emp, id⊢, never, fst∗}
use base.Fml.{ftrue, fsep, flft}
use base.Fraction.{full_share}
use prog.Wp.{WpFn}
use types.Kit.{‵, raw, ◌⊛◌, some, later, ◌$◌, ◌∵◌, !, qed, by, move, keep, drop, split, join, fsplit, fjoin, fpick, feq_l, rewrite, await, pick, suffices, use1, use2}
use types.Run.{stop, fld, of_opd, no_more, and_then, returns, enter}
use types.ByLocal.{alloc_all, pass_all, free_all, look_at, get, get_in, sets, lands_as}
use types.Part.{agg, sub, whole}
use types.Tokens.{lft_end, lent_back}
use types.Logic.{sem}
use contract.Running.{tables}
use denote.Builtin.{unit}
use denote.Exit.{yes}
use denote.Param.{layout}
use denote.Signature.{plain}
use denote.RawPtr.{Ptr, in_a_block, null_ptr, ptr_val, block_of, count_of}
use denote.Steps.{nothing, only}
use denote.Triple.Call.{calls_at}
use denote.Triple.Clauses.{lasts}
use denote.Triple.Spec.{triple_of}
use denote.Triple.Table.{framed}
use denote.Triple.Walked.{Stays, stay_dropped, walk_of, Goes-dropped}
use mir.Raw.{raw as bare}
use Rattle.std.proofs.alloc.Calls.{token}
use Rattle.std.proofs.BoxSteps.Form.{D, word, box_typed, R, τ}
use Rattle.std.proofs.BoxSteps.Steps.{box_in}
use Rattle.std.proofs.ResultValues.{and_tt}
use Rattle.std.proofs.raw_atomic.Walks.{proved_at, leaves}
use Rattle.std.specs.Box.Ownership.{box_owns}
use denote.Struct.Laws as LL
use Rattle.std_heap.proofs.Global.TheLaws as heap
use Rattle.std_heap.specs.contracts.Global as Heap
use Rattle.std_heap.specs.contracts.GlobalAllocator.TheImpl.{ghosts}
use Rattle.fast_kept.specs.contracts.parts.Parts as Parts
use Rattle.fast_kept.specs.contracts.lease.Lease as Held
use Rattle.fast_kept.specs.contracts.shared.SharedSet as Set
use Rattle.fast_kept.specs.Lending.{room_row}
use Rattle.fast_kept.proofs.Leases.{Room, Sets, three, held_out}
use Rattle.fast_kept.specs.contracts.lease.close as g
use Rattle.fast_kept.proofs.lease.close.Met.{met}
use Rattle.fast_kept.specs.contracts.lease.Lease.end as f
use Rattle.fast_kept.specs.contracts.lease.Lease.end.Key.{name as #self}
use Rattle.fast_kept.proofs.lease.Lease.end.Statement.{statement}
use Rattle.fast_kept.proofs.lease.Lease.end.Code as code

abbrev stayed : Stays f.ended.signature.params f.ended.kept
stayed = (stay_dropped (plain (λ _. Held.the_row)) yes, tt)

pub end_spec : {M : Type 1} → statement M
end_spec 𝓤 𝓛 𝓜 𝓡 wired =
    let H = 𝓛.H in let 𝓣 = tables 𝓤 H 𝓜 𝓡 𝓡.env in let c = f.clauses 𝓛 𝓜.mem 𝓡.returns in
    proved_at 𝓛 f.ended stayed c 𝓜 𝓡 (Goes-dropped 𝓛 0 (plain (λ _. Held.the_row)) yes (λ κs x w. refl), tt) #self code.function (code.unfolded 𝓤 H 𝓜 𝓡 wired) (λ z are.
    let Post : Val → SProp 𝓤 = (walk_of 𝓛 f.ended stayed c).post z in let Run : List Val → SProp 𝓤 = λ ws. WpFn 𝓤 H 𝓣.C 𝓣.Λ code.function (ws ++ []) Post in
    let d = z.0.3.0 in let κ = d.life ∷ [] in let E = Room κ in
    let To = Parts.the_row (room_row κ) Heap.the_row ghosts in let v : D E = record { ptr = d.room; alloc = d.alloc; value = d.value } in let made : To.Denot = record { ptr = d.room; alloc = d.alloc; value = d.value } in
    let sb = block_of d.set in let so = count_of d.set in
    qed 𝓛 ((‵ ftrue ⊛ ‵ (fsep (Held.the_row.own_val d z.0.4.0) ftrue)) ∷ raw (emp 𝓤) ∷ []) ∵ split ! $ drop ! $ move ! (0 ∷ []) $ fsplit ! $ held_out ! d z.0.4.0 (λ h ws fits.
    move ! (1 ∷ []) $ fsplit ! $ move ! (1 ∷ []) $ fsplit ! $
    in_a_block ! d.room (λ p. box_owns (token E.al d.alloc) (R E) p d.value) (fst∗ 𝓤 (never 𝓤) (sem 𝓛 (token E.al d.alloc (bare (τ E)) null_ptr))) (λ b o ep. fsplit ! $
    -- [the room; the right to free it; what stands for the set; the token; the allocator]
    move ! (4 ∷ []) $ use1 𝓛 (‵ (Heap.the_row.own_val d.alloc (h ∷ [])) ⊛ ‵ (Heap.the_row.own_val d.alloc (h ∷ []))) ((LL.copy Heap.the_type heap.the_copy 𝓛).twice d.alloc (h ∷ [])) $ split ! $
    move ! (2 ∷ 3 ∷ 0 ∷ []) $ box_in E ! v b o d.value ep refl $ use1 𝓛 (‵ (To.own_val made (word E h b o ∷ []))) (id⊢ 𝓤 _) $
    let w : Val = three (vptr sb so) (vptr b o) h in let at_w : z.0.4.0 ≡ w ∷ [] = ws ∙ ap (λ p. three (ptr_val p) (ptr_val d.room) h ∷ []) d.placed ∙ ap (λ p. three (vptr sb so) (ptr_val p) h ∷ []) ep in
    suffices ! (Run (w ∷ [])) (subst (λ (us : List Val). ent 𝓤 (Run (w ∷ [])) (Run us)) (sym at_w) (id⊢ 𝓤 (Run (w ∷ [])))) $
    enter ! 𝓣.C 𝓣.Λ code.function (w ∷ []) Post $ alloc_all ! (λ l. pass_all ! refl ((and_tt (has_ty (layout Heap.the_row) h) fits.0, (tt, (tt, (fits.1, tt)))), tt) $
    sets ! (of_opd ! (get_in ! (fld ! refl (stop !)) (sub ! 0 refl (whole !)))) refl (tt, tt) $ sets ! (of_opd ! (get_in ! (fld ! refl (stop !)) (sub ! 1 refl (whole !)))) refl (tt, tt) $ sets ! (of_opd ! (get_in ! (fld ! refl (stop !)) (sub ! 2 refl (whole !)))) refl fits $
    sets ! (agg ! (and_then ! (get ! refl) (and_then ! (get ! refl) (no_more !)))) refl (box_typed E h b o fits) $
    let G = triple_of 𝓛 g.signature (g.spec 𝓛 𝓜.mem 𝓡.returns) in
    let y : G.Ghost = (((κ, tt), (full_share, tt), tt, (made, tt), (word E h b o ∷ [], tt)), tt) in
    nothing ! $ move ! (1 ∷ 0 ∷ []) $ join ! $ nothing ! $ move ! (4 ∷ 0 ∷ []) $ join ! $ join ! $ nothing ! $ move ! (1 ∷ 0 ∷ []) $ use2 𝓛 (raw (G.pre y)) (id⊢ 𝓤 _) $
    calls_at ! (framed 𝓤 𝓛.H 𝓜 (tables 𝓤 𝓛.H 𝓜 𝓡 𝓡.env)) G (met 𝓤 𝓛 𝓜 𝓡 (code.calls-fast_kept::lease::close 𝓡.env wired)) y (and_then ! (get ! refl) (no_more !)) (λ u.
    use1 𝓛 (later (some (λ (r : Unit {0}). ((‵ (flft κ full_share) ⊛ ‵ ftrue) ⊛ ‵ (unit.own_val r (u ∷ []))) ⊛ some (λ (ws' : Unit {0} × Unit {0}). ‵ (lasts g.ended y.0.0 y.0.3 ws') ⊛ ‵ ftrue)))) (id⊢ 𝓤 _) $ await ! tt $
    pick ! (λ r. split ! $ split ! $ split ! $ lft_end ! tt $
    -- [the loan is over; nothing; what `close` returned, twice; the allocator; what stands for the set]
    move ! (2 ∷ []) $ feq_l ! (λ is_unit. lands_as ! (ap only is_unit) refl (tt, tt) $
    sets ! (agg ! (and_then ! (get ! refl) (and_then ! (get ! refl) (no_more !)))) refl (box_typed Sets h sb so fits) $
    move ! (4 ∷ []) $ fsplit ! $ move ! (2 ∷ 0 ∷ []) $ lent_back ! tt $ fpick ! (λ s. fsplit ! $ move ! (1 ∷ []) $ drop ! $
    rewrite ! 1 (λ (p : Ptr). ‵ (token Sets.al d.alloc (bare (τ Sets)) p)) d.placed refl $
    let back : D Sets = record { ptr = d.set; alloc = d.alloc; value = s } in let To' = Parts.the_row Set.the_row Heap.the_row ghosts in let set : To'.Denot = record { ptr = d.set; alloc = d.alloc; value = s } in
    move ! (0 ∷ 1 ∷ 4 ∷ []) $ box_in Sets ! back sb so s d.placed refl $ use1 𝓛 (‵ (To'.own_val set (word Sets h sb so ∷ []))) (id⊢ 𝓤 _) $
    nothing ! $ nothing ! $ nothing ! $ fjoin ! $ nothing ! $
    returns ! (look_at ! 0 refl) $ free_all ! refl $ keep ! (0 ∷ 1 ∷ 3 ∷ 2 ∷ []) $
    by ! (leaves 𝓛 f.ended stayed c z (word Sets h sb so) set (tt, tt) (tt, tt))))))))))
