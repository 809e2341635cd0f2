-- `with` lends the room, where the reader's lifetime lasts, for the call alone.
use Rattle.std.proofs.Common.{◌≡◌, ℕ, List, [], ◌∷◌, ◌++◌, refl, sym, subst, ap, ◌∙◌, Option}
use seplogic.Ra.Ura.{Ura}
use lib.Dec.{T}
use mir.MapTy.{inst_fn}
use mir.Syntax.{Fn, Dict, dcons, dnil, a_type, named}
use mir.Val.{Val, vptr, has_ty, WT}
use base.Fml.{GName, Fml, ftrue, fsep, flft, flent, fdead, fobs, fbor}
use base.Fraction.{full_share}
use base.Logic.{SProp, ent, sep, emp, id⊢, never, fst∗}
use base.Share
use contract.BorrowLft.{◌⊑◌, meet_⊑_left, meet_⊑_right}
use contract.Monad.{fact, fact_i}
use contract.Running.{Running, MachineTables, tables, tables_of}
use denote.Builtin.{u8}
use denote.Slice.{MutSlice, Room as Room', mut_slice_vals, slice_val}
use lib.ListN.{length}
use denote.Exit.{no}
use denote.Laws.{Is, shows}
use denote.Lend.{lends_ref, ref_back}
use denote.Memory.{mem, part_at, cell_at}
use denote.Param.{param, bounded, layout}
use denote.Param.Glue as glue
use denote.Param.Laws.{Laws, param_laws}
use denote.Param.Steps.{one_value}
use denote.RattleType.{RattleType}
use denote.RawPtr.{Ptr, in_a_block, null_ptr, ptr_val, block_ptr}
use denote.Ref.{MutBor, MutRef}
use denote.Signature.{plain}
use denote.Steps.{nothing, heard, opens, closes, peeks}
use denote.Triple.Call.{calls_at}
use denote.Triple.Clauses.{Clauses, Lasts, lasts, closing}
use denote.Triple.Spec.{Meets, triple_of}
use denote.Triple.Table.{entered, framed}
use denote.Triple.Walked.{Stays, gave_slice, Goes-gave_slice, stay_ref, stay_dropped, walk_of, Goes-ref, Goes-dropped, walk_Meets}
use mir.Raw.{raw as bare}
use prog.Model.{Model}
use prog.Wired.{Wired}
use prog.Wp.{WpFn}
use sound.WpLaws.{WpFn-mono}
use types.ByLocal.{alloc_all, pass_all, free_all, look_at, get, get_in, through, look_in_at, sets, sets_last, lands_as, env}
use types.Kit.{Item, mean, at_ret, ‵, raw, ◌⊛◌, some, later, ◌$◌, ◌∵◌, !, qed, by, move, keep, drop, split, split3, join, fsplit, fsplit3, fjoin, fjoin3, feq_i, feq_l, rewrite, await, pick, use0, use1, use2, use3}
use types.Logic.{Logic, sem}
use types.Part.{agg, look_in, sub, whole}
use types.Run.{stop, from, hop, fld, of_opd, load, addr, no_more, and_then, first, blocks, exec, returns, enter}
use types.SemTy.{Body}
use types.Tokens.{lft_new, lft_end}
use denote.Param.Always.{always_once}
use Rattle.fast_tape.specs.contracts.node.TapeNode as Node
use Rattle.fast_tape.specs.declared.node.TapeNode.{TapeNode}
use Rattle.fast_kept.specs.Returning.{ReturnsAtRooms}
use Rattle.std.proofs.VecSteps.Shapes.{after}
use Rattle.std.proofs.alloc.Calls.{token}
use Rattle.std.proofs.BoxSteps.Form.{R, τ}
use Rattle.std.proofs.raw_atomic.Walks.{leaves}
use Rattle.std.specs.Box.Ownership.{box_owns}
use Rattle.fast_kept.specs.contracts.lease.Lease as Held
use Rattle.fast_kept.specs.declared.lease.Lease.{Lease as HeldOf}
use Rattle.fast_kept.specs.declared.lent.Lent.{Lent as ReaderOf}
use Rattle.fast_kept.specs.Lending.{lease_owns}
use Rattle.fast_kept.proofs.Leases.{Room, RoomAt, three, held_in, held_out}
use Rattle.fast_kept.specs.contracts.lease.work_beside as g
use Rattle.fast_kept.proofs.lease.work_beside.Met as work_met
use Rattle.fast_kept.specs.contracts.lease.Lease.with as f
use Rattle.fast_kept.specs.contracts.lease.Lease.with.F-FnOnce as Called
use Rattle.fast_kept.specs.contracts.lease.Lease.with.Key.{name as #self}
use Rattle.fast_kept.proofs.lease.Lease.with.Statement as stated
use Rattle.fast_kept.proofs.lease.Lease.with.Code as code

module _ (Y X : RattleType) (LY : Laws Y) (LX : Laws X) (w : Called.Ghosts Y X) (d d' : Dict) {M : Type 1} {𝓤 : Ura M} (𝓛 : Logic 𝓤) (𝓜 : Model 𝓤 𝓛.H) (𝓡 : Running 𝓤 𝓛.H 𝓜) (wired : Wired 𝓡.env code.code)
    (met : Called.Met 𝓛 𝓜 𝓡 𝓡.env Y X w d) (goes : glue.Met 𝓛 𝓜 𝓡 𝓡.env X d') where
  open 𝓛 use {H, A}

  abbrev function : Fn
  function = inst_fn (bounded (a_type ∷ a_type ∷ []) (Y, (X, tt)) (dcons d (dcons d' dnil))) code.function

  abbrev stayed : Stays (f.ended Y X w d d').signature.params (f.ended Y X w d d').kept
  stayed = (stay_ref (0 ∷ []) tt (plain (λ _. Held.the_row)), (gave_slice (1 ∷ []) tt (plain (λ _. Node.the_row)), (gave_slice (2 ∷ []) tt (plain (λ _. u8)), (stay_dropped (plain (λ _. param 1 X)) no, tt))))

  abbrev 𝓣 : MachineTables 𝓤 H 𝓜
  𝓣 = tables 𝓤 H 𝓜 𝓡 𝓡.env

  abbrev held : Clauses 𝓤 (f.ended Y X w d d')
  held = f.clauses Y X w d d' 𝓛 𝓜.mem 𝓡.returns

  module _ (z : (walk_of 𝓛 (f.ended Y X w d d') stayed held).Ghost) where
    abbrev Post : Val → SProp 𝓤
    Post = (walk_of 𝓛 (f.ended Y X w d d') stayed held).post z

    abbrev me : MutBor HeldOf
    me = z.0.3.0

    abbrev x : X.Denot
    x = z.0.3.1.1.1.0

    abbrev ns : MutBor (List TapeNode)
    ns = z.0.3.1.0

    abbrev bs : MutBor (List ℕ)
    bs = z.0.3.1.1.0

    abbrev toks : Item 𝓤
    toks = ‵ (flft z.0.0.1.0 z.0.1.1.0) ⊛ ‵ (flft z.0.0.1.1.0 z.0.1.1.1.0) ⊛ ‵ (flft z.0.0.1.1.1.0 z.0.1.1.1.1.0) ⊛ ‵ (flft z.0.0.1.1.1.1.0 z.0.1.1.1.1.1.0) ⊛ ‵ ftrue

    abbrev slices : Fml
    slices = fsep ((MutSlice (named 1) z.0.0.1.0 Node.the_row).own_val ns (mut_slice_vals ns)) ((MutSlice (named 2) z.0.0.1.1.0 u8).own_val bs (mut_slice_vals bs))

    runs : z.0.4.0 ≡ vptr me.ref_ptr.0 me.ref_ptr.1 ∷ [] → Room' Node.the_row (length ns.now) → Room' u8 (length bs.now) → (u : Val) → T (has_ty (layout X) u) × WT u → z.0.0.1.1.1.0 ⊑ Y.lives → z.0.0.1.1.1.1.0 ⊑ X.lives → always_once w x
        → ent 𝓤 (sep 𝓤 (mean 𝓛 (‵ (flft z.0.0.0 z.0.1.0) ⊛ toks)) (sep 𝓤 (mean 𝓛 (‵ (fobs me.ghost_name (Held.the_row.coded.code me.now)) ⊛ ‵ (fbor z.0.0.0 (Body (mem Held.the_row) me.ref_ptr.0 me.ref_ptr.1 me.ghost_name)))) (sep 𝓤 (sem 𝓛 slices) (sem 𝓛 (X.own_val x (u ∷ [])))))) (WpFn 𝓤 H 𝓣.C 𝓣.Λ function (vptr me.ref_ptr.0 me.ref_ptr.1 ∷ slice_val ns.ref_ptr (length ns.now) ∷ slice_val bs.ref_ptr (length bs.now) ∷ u ∷ []) Post)
    runs is r₁ r₂ u gu inY inX asks =
        let b = me.ref_ptr.0 in let o = me.ref_ptr.1 in let h = me.now in let κ = h.life ∷ [] in let E = Room κ in let E' = RoomAt (record { mir = named 1; lft = κ }) in let Row = E'.row in
        let hl = Share.left full_share in let hr = Share.right full_share in
        qed 𝓛 ((‵ (flft z.0.0.0 z.0.1.0) ⊛ toks) ∷ (‵ (fobs me.ghost_name (Held.the_row.coded.code h)) ⊛ ‵ (fbor z.0.0.0 (Body (mem Held.the_row) b o me.ghost_name))) ∷ ‵ slices ∷ ‵ (X.own_val x (u ∷ [])) ∷ []) ∵
        enter ! 𝓣.C 𝓣.Λ function (vptr b o ∷ slice_val ns.ref_ptr (length ns.now) ∷ slice_val bs.ref_ptr (length bs.now) ∷ u ∷ []) Post $ alloc_all ! (λ l. pass_all ! refl ((tt, tt), ((tt, (tt, (record { fits = r₁.0 }, tt))), ((tt, (tt, (record { fits = r₂.0 }, tt))), (gu, tt)))) $
        move ! (2 ∷ []) $ fsplit ! $ move ! (2 ∷ 3 ∷ []) $ split ! $ move ! (2 ∷ []) $ split ! $ move ! (0 ∷ 1 ∷ 2 ∷ []) $ opens ! tt Held.the_row b o (λ us. move ! (1 ∷ []) $ held_out ! h us (λ hv ws fits.
        move ! (1 ∷ []) $ fsplit ! $ move ! (1 ∷ []) $ fsplit ! $
        in_a_block ! h.room (λ p. box_owns (token E.al h.alloc) (R E) p h.value) (fst∗ 𝓤 (never 𝓤) (sem 𝓛 (token E.al h.alloc (bare (τ E)) null_ptr))) (λ rb ro ep. fsplit ! $
        -- [the room; the right to free it; what stands for the set; the token; the allocator; the cell; the open borrow in three; other tokens; the work]
        let Cell = λ (vs : List Val). ‵ (cell_at full_share Held.the_row.mir vs b o) in let word = ws ∙ ap (λ p. three (ptr_val h.set) (ptr_val p) hv ∷ []) ep in
        rewrite ! 5 Cell word refl $
        sets ! (of_opd ! (load ! (through ! refl (fld ! refl (stop !))) (look_in ! 5 (sub ! 1 refl (whole !))))) refl (tt, tt) $
        first ! $ blocks ! $ sets_last ! (addr ! (through ! refl (stop !))) refl (tt, tt) $
        exec ! 𝓣.C 𝓣.Λ (env function.locals l) (after 2 function.body) (at_ret _ Post) $
        sets ! (of_opd ! (get ! refl)) refl (tt, tt) $
        sets ! (addr ! (from ! (fld ! refl (hop ! (look_in_at ! 2 (sub ! 0 refl (whole !))) (stop !))))) refl (tt, tt) $
        sets ! (agg ! (and_then ! (get ! refl) (and_then ! (get_in ! (fld ! refl (stop !)) (sub ! 1 refl (whole !))) (no_more !)))) refl (tt, (tt, (record { fits = r₁.0 }, tt))) $
        sets ! (addr ! (from ! (fld ! refl (hop ! (look_in_at ! 3 (sub ! 0 refl (whole !))) (stop !))))) refl (tt, tt) $
        sets ! (agg ! (and_then ! (get ! refl) (and_then ! (get_in ! (fld ! refl (stop !)) (sub ! 1 refl (whole !))) (no_more !)))) refl (tt, (tt, (record { fits = r₂.0 }, tt))) $
        sets ! (of_opd ! (get ! refl)) refl gu $
        lft_new ! tt (λ β. let σ = β ∷ κ in
        use1 𝓛 (‵ (flft (β ∷ []) hl) ⊛ ‵ (flft (β ∷ []) hr)) (𝓛.lfts.lft_split (β ∷ []) full_share) $ split ! $
        move ! (5 ∷ []) $ use1 𝓛 (‵ (flft κ hl) ⊛ ‵ (flft κ hr)) (𝓛.lfts.lft_split κ full_share) $ split ! $
        move ! (2 ∷ 0 ∷ []) $ use2 𝓛 (‵ (flft σ hl)) (𝓛.lfts.lft_meet (β ∷ []) κ hl) $
        -- [the token of the call; the rest of the reader's; the rest of the call's; the room; the right to free it; what stands for the set; ..]
        move ! (3 ∷ []) $ use1 𝓛 (‵ (part_at (R E') full_share h.value rb ro)) (id⊢ 𝓤 _) $
        use1 𝓛 (later (some (λ (γ : GName). ‵ ((MutRef (named 0) σ Row).own_val (record { ref_ptr = (rb, ro); ghost_name = γ; now = h.value }) (vptr rb ro ∷ [])) ⊛ ‵ (flent σ (Body (mem Row) rb ro γ))))) (lends_ref 𝓛 Row (named 0) σ h.value rb ro) $ await ! tt $ pick ! (λ γ. split ! $
        let ref : MutBor (Option ReaderOf) = record { ref_ptr = (rb, ro); ghost_name = γ; now = h.value } in
        let G = triple_of 𝓛 (g.signature Y X) (g.spec Y X w d d' 𝓛 𝓜.mem 𝓡.returns) in
        let y : G.Ghost = (((σ, (κ, (z.0.0.1.0, (z.0.0.1.1.0, (z.0.0.1.1.1.0, (z.0.0.1.1.1.1.0, tt)))))), (hl, (hr, (z.0.1.1.0, (z.0.1.1.1.0, (z.0.1.1.1.1.0, (z.0.1.1.1.1.1.0, tt)))))), (meet_⊑_right (β ∷ []) κ, tt), (ref, (ns, (bs, (x, tt)))), (vptr rb ro ∷ [], (mut_slice_vals ns, (mut_slice_vals bs, (u ∷ [], tt))))), tt) in
        use0 𝓛 (raw (fact 𝓤 (always_once w x))) (fact_i 𝓤 (always_once w x) (emp 𝓤) asks) $ use0 𝓛 (raw (fact 𝓤 (z.0.0.1.1.1.1.0 ⊑ X.lives))) (fact_i 𝓤 (z.0.0.1.1.1.1.0 ⊑ X.lives) (emp 𝓤) inX) $ join ! $
        use0 𝓛 (raw (fact 𝓤 (z.0.0.1.1.1.0 ⊑ Y.lives))) (fact_i 𝓤 (z.0.0.1.1.1.0 ⊑ Y.lives) (emp 𝓤) inY) $ join ! $
        -- [what it requires; the loan; what the lender keeps; the token of the call; the rest of the reader's; the rest of the call's; ..]
        nothing ! $ move ! (17 ∷ 0 ∷ []) $ join ! $ move ! (16 ∷ 0 ∷ []) $ join ! $ move ! (15 ∷ 0 ∷ []) $ join ! $ move ! (2 ∷ 0 ∷ []) $ join ! $ move ! (4 ∷ 13 ∷ []) $ join ! $ move ! (4 ∷ 0 ∷ []) $ join ! $ join ! $ use2 𝓛 (raw (G.pre y)) (id⊢ 𝓤 (G.pre y)) $
        calls_at ! (framed 𝓤 H 𝓜 𝓣) G (work_met.met 𝓤 𝓛 𝓜 𝓡 (code.calls-fast_kept::lease::work_beside 𝓡.env wired) Y X LY LX w d d' met goes) y (and_then ! (get ! refl) (and_then ! (get ! refl) (and_then ! (get ! refl) (and_then ! (get ! refl) (no_more !))))) (λ v.
        use1 𝓛 (later (some (λ (r : Y.Denot). ((‵ (flft σ hl) ⊛ ‵ (flft κ hr) ⊛ toks) ⊛ ‵ (Y.own_val r (v ∷ []))) ⊛ some (λ (ends : Lasts (g.ended Y X w d d') y.0.0 y.0.3). ‵ (lasts (g.ended Y X w d d') y.0.0 y.0.3 ends) ⊛ raw (fact 𝓤 (ReturnsAtRooms w x h.value ns.now bs.now r ends.0 ends.1.0 ends.1.1.0)))))) (id⊢ 𝓤 _) $ await ! tt $
        pick ! (λ r. split ! $ split ! $ move ! (2 ∷ []) $ pick ! (λ ends. split ! $ move ! (1 ∷ []) $ heard ! _ (λ gave. fsplit ! $
        -- what is left of the two slices goes behind the rest
        move ! (1 ∷ []) $ fsplit ! $ fsplit ! $ fsplit ! $ move ! (1 ∷ []) $ feq_l ! (λ same₁. fjoin ! $
        move ! (1 ∷ []) $ fsplit ! $ fsplit ! $ fsplit ! $ move ! (1 ∷ []) $ feq_l ! (λ same₂. fjoin ! $
        nothing ! $ nothing ! $ fjoin ! $ move ! (1 ∷ 0 ∷ []) $ fjoin ! $ move ! (2 ∷ 0 ∷ []) $ fjoin ! $ move ! (1 ∷ []) $ drop ! $
        move ! (1 ∷ 2 ∷ 3 ∷ 4 ∷ 5 ∷ 6 ∷ 7 ∷ 8 ∷ 9 ∷ 10 ∷ 11 ∷ 12 ∷ []) $ fsplit ! $ move ! (1 ∷ []) $ drop ! $
        -- [the loan's last value; tokens; the result; what the lender keeps; the rest of the call's token; the right to free the room; what stands for the set; the allocator; the cell; the open borrow in three]
        move ! (1 ∷ []) $ split3 ! $ use1 𝓛 (‵ (flft (β ∷ []) hl) ⊛ ‵ (flft κ hl)) (𝓛.lfts.lft_unmeet (β ∷ []) κ hl) $ split ! $
        move ! (1 ∷ 2 ∷ []) $ use2 𝓛 (‵ (flft κ full_share)) (𝓛.lfts.lft_join κ full_share) $ move ! (1 ∷ 6 ∷ []) $ use2 𝓛 (‵ (flft (β ∷ []) full_share)) (𝓛.lfts.lft_join (β ∷ []) full_share) $ lft_end ! tt $
        use1 𝓛 (‵ (fdead σ)) (𝓛.lfts.dead-incl σ (β ∷ []) (meet_⊑_left (β ∷ []) κ)) $
        move ! (0 ∷ 5 ∷ 3 ∷ []) $ use3 𝓛 (later (‵ (part_at (R E') full_share ends.0 rb ro))) (ref_back 𝓛 Row σ γ ends.0 rb ro) $ await ! tt $ use1 𝓛 (‵ (part_at (R E) full_share ends.0 rb ro)) (id⊢ 𝓤 _) $
        -- [the room; the reader's token; other tokens; the result; the right to free the room; what stands for the set; the allocator; the cell; the open borrow in three]
        move ! (3 ∷ []) $ peeks ! (param 0 Y) (Is (param 0 Y)) (shows 𝓛 (param 0 Y)) r (v ∷ []) (λ isY. let gv = (((param_laws 0 Y LY).lawful 𝓛).typed r (v ∷ []) isY).0 in lands_as ! refl refl gv $
        let new : HeldOf = record h { value = ends.0 } in
        move ! (1 ∷ 4 ∷ []) $ fjoin ! $ use1 𝓛 (‵ (box_owns (token E.al h.alloc) (R E) (block_ptr rb ro) ends.0)) (id⊢ 𝓤 _) $ rewrite ! 0 (λ (p : Ptr). ‵ (box_owns (token E.al h.alloc) (R E) p ends.0)) (sym ep) refl $
        move ! (0 ∷ 4 ∷ []) $ fjoin ! $ move ! (2 ∷ 0 ∷ []) $ fjoin ! $ use1 𝓛 (‵ (lease_owns new.life new.name new.alloc new.set new.room new.value)) (id⊢ 𝓤 _) $ move ! (0 ∷ 3 ∷ []) $ held_in ! new hv $
        rewrite ! 3 Cell (sym (ap (λ p. three (ptr_val h.set) (ptr_val p) hv ∷ []) ep)) refl $
        move ! (3 ∷ 0 ∷ 4 ∷ 5 ∷ 6 ∷ []) $ closes ! tt Held.the_row new (three (ptr_val h.set) (ptr_val h.room) hv ∷ []) b o $
        feq_i ! (List Val) z.0.4.0 (vptr b o ∷ []) is $ fjoin3 ! $ move ! (0 ∷ 4 ∷ []) $ fjoin ! $ move ! (1 ∷ 3 ∷ []) $ join ! $
        returns ! (look_at ! 0 refl) $ free_all ! refl $ use0 𝓛 (raw (fact 𝓤 (ReturnsAtRooms w x h.value ns.now bs.now r ends.0 ends.1.0 ends.1.1.0))) (fact_i 𝓤 (ReturnsAtRooms w x h.value ns.now bs.now r ends.0 ends.1.0 ends.1.1.0) (emp 𝓤) gave) $ keep ! (1 ∷ 2 ∷ 3 ∷ 0 ∷ []) $
        by ! (leaves 𝓛 (f.ended Y X w d d') stayed held z v r (new, (ends.1.0, (ends.1.1.0, (tt, tt)))) (tt, (same₁, (same₂, (tt, tt))))))))))))))))))

    abbrev Goes : List Val → List Val → List Val → List Val → Type 1
    Goes vs ms os us = ent 𝓤 (sep 𝓤 (mean 𝓛 (‵ (flft z.0.0.0 z.0.1.0) ⊛ toks)) (sep 𝓤 (mean 𝓛 (‵ (fobs me.ghost_name (Held.the_row.coded.code me.now)) ⊛ ‵ (fbor z.0.0.0 (Body (mem Held.the_row) me.ref_ptr.0 me.ref_ptr.1 me.ghost_name)))) (sep 𝓤 (sem 𝓛 slices) (sem 𝓛 (X.own_val x us))))) (WpFn 𝓤 H 𝓣.C 𝓣.Λ function (vs ++ (ms ++ (os ++ (us ++ [])))) Post)

    walks : ent 𝓤 ((walk_of 𝓛 (f.ended Y X w d d') stayed held).pre z) (WpFn 𝓤 H 𝓣.C 𝓣.Λ function ((walk_of 𝓛 (f.ended Y X w d d') stayed held).args z) Post)
    walks =
        let vs = z.0.4.0 in let ms = z.0.4.1.0 in let os = z.0.4.1.1.0 in let us = z.0.4.1.1.1.0 in let X' : RattleType = param 1 X in
        let N : RattleType = MutSlice (named 1) z.0.0.1.0 Node.the_row in let B : RattleType = MutSlice (named 2) z.0.0.1.1.0 u8 in
        qed 𝓛 (((‵ (flft z.0.0.0 z.0.1.0) ⊛ toks) ⊛ ‵ (fsep ((MutRef (named 0) z.0.0.0 Held.the_row).own_val me vs) (fsep (N.own_val ns ms) (fsep (B.own_val bs os) (fsep (X.own_val x us) ftrue))))) ∷ (raw (fact 𝓤 (z.0.0.1.1.1.0 ⊑ Y.lives)) ⊛ raw (fact 𝓤 (z.0.0.1.1.1.1.0 ⊑ X.lives)) ⊛ raw (fact 𝓤 (always_once w x))) ∷ []) ∵
        move ! (1 ∷ []) $ split3 ! $ heard ! _ (λ inY. heard ! _ (λ inX. heard ! _ (λ asks. split ! $ move ! (1 ∷ []) $ fsplit3 ! $ move ! (2 ∷ []) $ fsplit3 ! $
        -- [the bytes; the work; nothing; me; the nodes; tokens]
        peeks ! B (Is B) (shows 𝓛 B) bs os (λ isB. rewrite ! 0 (λ (ws : List Val). ‵ (B.own_val bs ws)) isB.0.0 refl $ move ! (4 ∷ []) $
        peeks ! N (Is N) (shows 𝓛 N) ns ms (λ isN. rewrite ! 0 (λ (ws : List Val). ‵ (N.own_val ns ws)) isN.0.0 refl $ move ! (0 ∷ 1 ∷ []) $ fjoin ! $ move ! (1 ∷ []) $
        peeks ! X' (Is X') (shows 𝓛 X') x us (λ isX. move ! (1 ∷ 0 ∷ []) $ join ! $ move ! (2 ∷ []) $ fsplit3 ! $ feq_l ! (λ is. join ! $ move ! (0 ∷ 1 ∷ []) $ join ! $ move ! (2 ∷ 0 ∷ []) $ join ! $ keep ! (0 ∷ []) $
        by ! (subst (λ (ws : List Val). Goes ws ms os us) (sym is) (subst (λ (ws : List Val). Goes (vptr me.ref_ptr.0 me.ref_ptr.1 ∷ []) ws os us) (sym isN.0.0) (subst (λ (ws : List Val). Goes (vptr me.ref_ptr.0 me.ref_ptr.1 ∷ []) (mut_slice_vals ns) ws us) (sym isB.0.0)
        (one_value (layout X) (Goes (vptr me.ref_ptr.0 me.ref_ptr.1 ∷ []) (mut_slice_vals ns) (mut_slice_vals bs)) us (((param_laws 1 X LX).lawful 𝓛).typed x us isX) (λ u gu. runs is isN.0.1 isB.0.1 u gu inY inX asks))))))))))))

  meets : Meets 𝓛 (f.ended Y X w d d').signature (WpFn 𝓤 H 𝓣.C 𝓣.Λ function) (closing 𝓛 (f.ended Y X w d d') held)
  unfolding tables_of
  meets = walk_Meets 𝓛 (f.ended Y X w d d') stayed (Goes-ref 𝓛 5 0 tt (plain (λ _. Held.the_row)), (Goes-gave_slice 𝓛 5 1 tt (plain (λ _. Node.the_row)), (Goes-gave_slice 𝓛 5 2 tt (plain (λ _. u8)), (Goes-dropped 𝓛 5 (plain (λ _. param 1 X)) no (λ κs x f. refl), tt)))) held (WpFn 𝓤 H 𝓣.C 𝓣.Λ function) (WpFn-mono 𝓤 H 𝓛.laws (tables_of 𝓤 H 𝓜 𝓣) function) (λ z. walks z)

pub with_spec : {M : Type 1} → stated.statement M
with_spec 𝓤 𝓛 𝓜 𝓡 wired Y X LY LX w d d' met goes = let 𝓣' = tables 𝓤 𝓛.H 𝓜 𝓡 𝓡.env in
    entered 𝓤 𝓛.H (triple_of 𝓛 (f.ended Y X w d d').signature (closing 𝓛 (f.ended Y X w d d') (held Y X LY LX w d d' 𝓛 𝓜 𝓡 wired met goes))) 𝓣'.C 𝓣'.Λ (#self (bounded (a_type ∷ a_type ∷ []) (Y, (X, tt)) (dcons d (dcons d' dnil)))) (function Y X LY LX w d d' 𝓛 𝓜 𝓡 wired met goes)
    (code.unfolded 𝓤 𝓛.H 𝓜 𝓡 wired (Y, (X, tt)) d d') (meets Y X LY LX w d d' 𝓛 𝓜 𝓡 wired met goes)
