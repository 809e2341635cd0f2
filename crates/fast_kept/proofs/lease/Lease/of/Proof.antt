-- `of` lends the set for a lifetime that it makes, and keeps the token of.
use Rattle.std.proofs.Common.{◌≡◌, ℕ, List, [], ◌∷◌, ◌++◌, refl, sym, subst, ap, None}
use mir.Syntax.{named}
use mir.Val.{Val, vptr, has_ty}
use base.Logic.{SProp, ent, emp, id⊢}
use base.Fml.{GName, ftrue, fsep, flft, flent}
use base.Fraction.{full_share}
use prog.Wp.{WpFn}
use types.Kit.{at_ret, ‵, raw, ◌⊛◌, some, later, ◌$◌, ◌∵◌, !, qed, by, move, keep, drop, split, join, fsplit, fsplit3, fjoin, rewrite, await, pick, suffices, use0, use1, use2}
use types.Run.{stop, fld, of_opd, addr, no_more, and_then, first, blocks, exec, returns, enter}
use types.ByLocal.{alloc_all, pass_all, free_all, look_at, get, get_in, through, sets, sets_last, lands_as, env}
use types.Part.{agg, sub, whole}
use types.SemTy.{Body}
use types.Tokens.{lft_new}
use contract.Monad.{fact, fact_i}
use contract.Running.{tables}
use denote.Exit.{yes, no}
use denote.Memory.{mem, part_at, part_of}
use denote.Param.{layout}
use denote.RattleType.{RattleType}
use denote.Builtin.{RefOf}
use denote.Laws.{Is, shows}
use denote.Ref.{MutRef, ShrRef, shr_vals}
use denote.Lend.{lends_ref}
use denote.Signature.{Slot, plain, static_lft}
use denote.RawPtr.{block_ptr}
use denote.Steps.{nothing, only, heard, peeks}
use denote.Triple.Call.{calls_at}
use denote.Triple.Clauses.{Lasts, lasts}
use denote.Triple.Spec.{triple_of}
use denote.Triple.Table.{framed}
use denote.Triple.Walked.{Stays, stay_dropped, walk_of, Goes-dropped}
use Rattle.std.proofs.alloc.Calls.{Goes-blank}
use Rattle.std.proofs.BoxSteps.Form.{D, word, box_typed, R}
use Rattle.std.proofs.BoxSteps.Steps.{box_in, box_out}
use Rattle.std.proofs.ResultValues.{and_tt}
use Rattle.std.proofs.raw_atomic.Walks.{proved_at, leaves}
use Rattle.std_heap.specs.contracts.Global as Heap
use Rattle.std_heap.specs.contracts.GlobalAllocator.TheImpl.{ghosts}
use Rattle.fast_kept.specs.contracts.parts.Parts as Parts
use Rattle.fast_kept.specs.contracts.lease.Lease as Held
use Rattle.fast_kept.specs.contracts.shared.SharedSet as Set
use Rattle.fast_kept.specs.contracts.lent.Lent as Reader
use Rattle.std.specs.contracts.option.Option as option
use Rattle.fast_kept.specs.Leasing.{IsMade}
use Rattle.fast_kept.specs.contracts.lent.Wanted as Wanted
use Rattle.fast_kept.specs.Lending.{room_row, lease_owns}
use Rattle.fast_kept.proofs.Leases.{Room, RoomAt, Sets, three, held_in}
use Rattle.fast_kept.specs.contracts.lease.fill as g
use Rattle.fast_kept.proofs.lease.fill.Met.{met}
use Rattle.fast_kept.specs.contracts.lease.Lease.of as f
use Rattle.fast_kept.specs.contracts.lease.Lease.of.Key.{name as #self}
use Rattle.fast_kept.proofs.lease.Lease.of.Statement.{statement}
use Rattle.fast_kept.proofs.lease.Lease.of.Code as code

abbrev Still : RattleType
Still = option.the_row (Reader.the_row static_lft)

abbrev asked : Slot 1
asked = RefOf (0 ∷ []) tt (plain (λ _. Wanted.the_row)) (λ _. tt)

abbrev stayed : Stays f.ended.signature.params f.ended.kept
stayed = (stay_dropped (plain (λ _. Parts.the_row Set.the_row Heap.the_row ghosts)) yes, (stay_dropped (plain (λ _. Parts.the_row Still Heap.the_row ghosts)) no, (stay_dropped asked yes, tt)))

pub of_spec : {M : Type 1} → statement M
unfolding part_of
of_spec 𝓤 𝓛 𝓜 𝓡 wired =
    let H = 𝓛.H in let 𝓣 = tables 𝓤 H 𝓜 𝓡 𝓡.env in let c = f.clauses 𝓛 𝓜.mem 𝓡.returns in
    proved_at 𝓛 f.ended stayed c 𝓜 𝓡 (Goes-dropped 𝓛 1 (plain (λ _. Parts.the_row Set.the_row Heap.the_row ghosts)) yes (λ κs x w. refl), (Goes-blank 𝓛 1 (plain (λ _. Parts.the_row Still Heap.the_row ghosts)) no (λ κs x w. tt), (Goes-dropped 𝓛 1 asked yes (λ κs x w. refl), tt))) #self code.function (code.unfolded 𝓤 H 𝓜 𝓡 wired) (λ z are.
    let Post : Val → SProp 𝓤 = (walk_of 𝓛 f.ended stayed c).post z in let Run : List Val → List Val → List Val → SProp 𝓤 = λ us vs os. WpFn 𝓤 H 𝓣.C 𝓣.Λ code.function (us ++ (vs ++ (os ++ []))) Post in let w = z.0.3.1.1.0 in let WR : RattleType = ShrRef (named 0) z.0.0.0 Wanted.the_row in
    let d = z.0.3.0 in let e = z.0.3.1.0 in let E₀ = RoomAt static_lft in
    let set : D Sets = record { ptr = d.ptr; alloc = d.alloc; value = d.value } in let still : D E₀ = record { ptr = e.ptr; alloc = e.alloc; value = e.value } in
    let u₁ = λ (b o : ℕ) (h : Val). word Sets h b o ∷ [] in let u₂ = λ (b o : ℕ) (h : Val). word E₀ h b o ∷ [] in
    qed 𝓛 (((‵ (flft z.0.0.0 z.0.1.0) ⊛ ‵ ftrue) ⊛ ‵ (fsep ((Parts.the_row Set.the_row Heap.the_row ghosts).own_val d z.0.4.0) (fsep ((Parts.the_row Still Heap.the_row ghosts).own_val e z.0.4.1.0) (fsep (WR.own_val w z.0.4.1.1.0) ftrue)))) ∷ raw (fact 𝓤 (e.value ≡ None)) ∷ []) ∵ split ! $ move ! (2 ∷ []) $ heard ! (e.value ≡ None) (λ empty. move ! (1 ∷ []) $ fsplit3 ! $ move ! (2 ∷ []) $ fsplit ! $
    peeks ! WR (Is WR) (shows 𝓛 WR) w z.0.4.1.1.0 (λ isW. rewrite ! 0 (λ (vs : List Val). ‵ (WR.own_val w vs)) isW.0 refl $ move ! (1 ∷ []) $ drop ! $ move ! (1 ∷ []) $
    box_out Sets ! set z.0.4.0 (λ sb so h₁ e₁ ws₁ fits₁. move ! (4 ∷ []) $ box_out E₀ ! still z.0.4.1.0 (λ b o h e₂ ws₂ fits. nothing ! $ move ! (1 ∷ 2 ∷ 3 ∷ 0 ∷ []) $
    -- [the empty room; the right to free it; its allocator; nothing; the set; the right to free it; its allocator; what is wanted; other tokens]
    rewrite ! 0 (λ (x : Still.Denot). ‵ (part_at (R E₀) full_share x b o)) empty refl $
    let End : SProp 𝓤 = Run (u₁ sb so h₁) (u₂ b o h) (shr_vals w) in
    suffices ! End (subst (λ (us : List Val). ent 𝓤 End (Run us z.0.4.1.0 z.0.4.1.1.0)) (sym ws₁) (subst (λ (us : List Val). ent 𝓤 End (Run (u₁ sb so h₁) us z.0.4.1.1.0)) (sym ws₂) (subst (λ (us : List Val). ent 𝓤 End (Run (u₁ sb so h₁) (u₂ b o h) us)) (sym isW.0) (id⊢ 𝓤 End)))) $
    enter ! 𝓣.C 𝓣.Λ code.function (word Sets h₁ sb so ∷ word E₀ h b o ∷ vptr w.ref_ptr.0 w.ref_ptr.1 ∷ []) Post $ alloc_all ! (λ l. pass_all ! refl (box_typed Sets h₁ sb so fits₁, (box_typed E₀ h b o fits, ((tt, tt), tt))) $
    sets ! (of_opd ! (get_in ! (fld ! refl (stop !)) (sub ! 0 refl (whole !)))) refl (tt, tt) $
    sets ! (of_opd ! (get ! refl)) refl (box_typed E₀ h b o fits) $
    first ! $ blocks ! $ sets_last ! (addr ! (through ! refl (stop !))) refl (tt, tt) $
    exec ! 𝓣.C 𝓣.Λ (env code.Mir.locals l) code.Mir.t-4 (at_ret _ Post) $
    sets ! (of_opd ! (get ! refl)) refl (tt, tt) $ sets ! (of_opd ! (get ! refl)) refl (tt, tt) $
    lft_new ! tt (λ α. let κ = α ∷ [] in let E = Room κ in let To = Parts.the_row (room_row κ) Heap.the_row ghosts in
    let room : D E = record { ptr = e.ptr; alloc = e.alloc; value = None } in let made : To.Denot = record { ptr = e.ptr; alloc = e.alloc; value = None } in
    move ! (1 ∷ 2 ∷ 3 ∷ []) $ use1 𝓛 (‵ (part_at (R E) full_share None b o)) (id⊢ 𝓤 _) $ box_in E ! room b o None e₂ refl $ use1 𝓛 (‵ (To.own_val made (word E h b o ∷ []))) (id⊢ 𝓤 _) $
    -- [the empty room; the token; nothing; the set; the right to free it; its allocator]
    move ! (3 ∷ []) $ use1 𝓛 (later (some (λ (γ : GName). ‵ ((MutRef (named 0) κ Set.the_row).own_val (record { ref_ptr = (sb, so); ghost_name = γ; now = d.value }) (vptr sb so ∷ [])) ⊛ ‵ (flent κ (Body (mem Set.the_row) sb so γ))))) (lends_ref 𝓛 Set.the_row (named 0) κ d.value sb so) $ await ! tt $ pick ! (λ γ. split ! $
    let G = triple_of 𝓛 g.signature (g.spec 𝓛 𝓜.mem 𝓡.returns) in
    let y : G.Ghost = (((κ, (z.0.0.0, tt)), (full_share, (z.0.1.0, tt)), tt, (made, (record { ref_ptr = (sb, so); ghost_name = γ; now = d.value }, (w, tt))), (word E h b o ∷ [], (vptr sb so ∷ [], (shr_vals w, tt)))), tt) in
    nothing ! $ move ! (8 ∷ 0 ∷ []) $ join ! $ move ! (1 ∷ 0 ∷ []) $ join ! $ move ! (2 ∷ 0 ∷ []) $ join ! $ move ! (2 ∷ 6 ∷ []) $ join ! $ join ! $ nothing ! $ move ! (1 ∷ 0 ∷ []) $ use2 𝓛 (raw (G.pre y)) (id⊢ 𝓤 _) $
    calls_at ! (framed 𝓤 𝓛.H 𝓜 (tables 𝓤 𝓛.H 𝓜 𝓡 𝓡.env)) G (met 𝓤 𝓛 𝓜 𝓡 (code.calls-fast_kept::lease::fill 𝓡.env wired)) y (and_then ! (get ! refl) (and_then ! (get ! refl) (and_then ! (get ! refl) (no_more !)))) (λ u.
    use1 𝓛 (later (some (λ (r : To.Denot). ((‵ (flft κ full_share) ⊛ ‵ (flft z.0.0.0 z.0.1.0) ⊛ ‵ ftrue) ⊛ ‵ (To.own_val r (u ∷ []))) ⊛ some (λ (ends : Lasts g.ended y.0.0 y.0.3). ‵ (lasts g.ended y.0.0 y.0.3 ends) ⊛ raw (fact 𝓤 (IsMade d.value w.now r.value)))))) (id⊢ 𝓤 _) $ await ! tt $
    pick ! (λ r. split ! $ split ! $ split ! $ move ! (3 ∷ []) $ pick ! (λ ends. split ! $ drop ! $ heard ! _ (λ made'. move ! (2 ∷ []) $ let filled : D E = record { ptr = r.ptr; alloc = r.alloc; value = r.value } in box_out E ! filled (u ∷ []) (λ b' o' h' e' wu fu.
    -- [the room; the right to free it; its allocator; the token; other tokens; what stands for the set; nothing; the right to free the set; its allocator]
    lands_as ! (ap only wu) refl (box_typed E h' b' o' fu) $
    sets ! (of_opd ! (get_in ! (fld ! refl (stop !)) (sub ! 0 refl (whole !)))) refl (tt, tt) $ sets ! (of_opd ! (get_in ! (fld ! refl (stop !)) (sub ! 1 refl (whole !)))) refl fu $
    sets ! (of_opd ! (get ! refl)) refl (tt, tt) $ sets ! (of_opd ! (get ! refl)) refl (tt, tt) $ sets ! (of_opd ! (get ! refl)) refl fu $
    sets ! (agg ! (and_then ! (get ! refl) (and_then ! (get ! refl) (and_then ! (get ! refl) (no_more !))))) refl (and_tt (has_ty (layout Heap.the_row) h') fu.0, (tt, (tt, (fu.1, tt)))) $
    let held : Held.the_row.Denot = record { set = block_ptr sb so; room = block_ptr b' o'; alloc = r.alloc; life = α; name = γ; value = r.value; placed = refl } in
    fjoin ! $ move ! (4 ∷ 6 ∷ []) $ fjoin ! $ move ! (1 ∷ 0 ∷ []) $ fjoin ! $ move ! (2 ∷ 0 ∷ []) $ fjoin ! $
    use1 𝓛 (‵ (lease_owns held.life held.name held.alloc held.set held.room held.value)) (id⊢ 𝓤 _) $ held_in ! held h' $
    nothing ! $ nothing ! $ fjoin ! $ nothing ! $ fjoin ! $ nothing ! $ fjoin ! $ use0 𝓛 (raw (fact 𝓤 (IsMade d.value w.now r.value))) (fact_i 𝓤 (IsMade d.value w.now r.value) (emp 𝓤) made') $
    returns ! (look_at ! 0 refl) $ free_all ! refl $ keep ! (3 ∷ 1 ∷ 2 ∷ 0 ∷ []) $
    by ! (leaves 𝓛 f.ended stayed c z (three (vptr sb so) (vptr b' o') h') held (tt, (tt, (tt, tt))) (tt, (tt, (tt, tt)))))))))))))))))
