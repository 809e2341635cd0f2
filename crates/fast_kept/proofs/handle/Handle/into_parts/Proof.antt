-- `into_parts` moves two fields, and what they own goes with them.
use Rattle.std.proofs.Common.{◌≡◌, List, [], ◌∷◌, ◌++◌, refl, sym, subst, ap, ◌∙◌, IsSome, w32, Option, Some}
use mir.Val.{Val, vint, vptr, has_ty}
use base.Logic.{SProp, ent, emp, id⊢, never, fst∗}
use base.Fml.{ftrue, fsep}
use prog.Wp.{WpFn}
use types.Kit.{‵, raw, ◌⊛◌, ◌$◌, ◌∵◌, !, qed, by, move, keep, drop, split, fsplit, fjoin, feq_l, rewrite, suffices, use0, use1}
use types.Run.{stop, fld, of_opd, no_more, and_then, returns, enter}
use types.ByLocal.{alloc_all, pass_all, free_all, look_at, get, get_in, sets}
use types.Part.{agg, sub, whole}
use contract.Monad.{fact, fact_i}
use contract.Running.{tables}
use denote.Exit.{yes}
use denote.Param.{layout}
use denote.Signature.{plain}
use denote.RawPtr.{in_a_block, null_ptr, ptr_val}
use denote.Steps.{nothing, heard}
use denote.Triple.Walked.{Stays, stay_dropped, walk_of, Goes-dropped}
use Rattle.std.proofs.BoxSteps.Form.{D, word, box_typed, R, τ}
use Rattle.std.proofs.BoxSteps.Steps.{box_in}
use Rattle.std.proofs.ResultValues.{and_tt}
use Rattle.std.proofs.raw_atomic.Walks.{proved_at, leaves}
use Rattle.std_heap.specs.contracts.Global as Heap
use Rattle.std_heap.specs.contracts.GlobalAllocator.TheImpl.{ghosts}
use Rattle.fast_kept.specs.contracts.kept.Kept as Kept
use Rattle.fast_kept.specs.contracts.parts.Parts as Parts
use Rattle.fast_kept.specs.contracts.handle.Handle as Handle
use mir.Raw.{raw as bare}
use types.Logic.{sem}
use Rattle.std.proofs.alloc.Calls.{token}
use Rattle.std.specs.Box.Ownership.{box_owns}
use Rattle.fast_kept.specs.Keeping.{kept_owns}
use Rattle.fast_kept.proofs.Values.{E, three, handle_out, some_of}
use Rattle.fast_kept.specs.contracts.handle.Handle.into_parts as f
use Rattle.fast_kept.specs.contracts.handle.Handle.into_parts.Key.{name as #self}
use Rattle.fast_kept.proofs.handle.Handle.into_parts.Statement.{statement}
use Rattle.fast_kept.proofs.handle.Handle.into_parts.Code as code

abbrev stayed : Stays f.ended.signature.params f.ended.kept
stayed = (stay_dropped (plain (λ _. Handle.the_row)) yes, tt)

pub into_parts_spec : {M : Type 1} → statement M
into_parts_spec 𝓤 𝓛 𝓜 𝓡 wired =
    let H = 𝓛.H in let 𝓣 = tables 𝓤 H 𝓜 𝓡 𝓡.env in let c = f.clauses 𝓛 𝓜.mem 𝓡.returns in
    proved_at 𝓛 f.ended stayed c 𝓜 𝓡 (Goes-dropped 𝓛 0 (plain (λ _. Handle.the_row)) yes (λ κs x w. refl), tt) #self code.function (code.unfolded 𝓤 H 𝓜 𝓡 wired) (λ z are.
    let Post : Val → SProp 𝓤 = (walk_of 𝓛 f.ended stayed c).post z in let Run : List Val → SProp 𝓤 = λ ws. WpFn 𝓤 H 𝓣.C 𝓣.Λ code.function (ws ++ []) Post in
    let d = z.0.3.0 in let To = Parts.the_row Kept.the_row Heap.the_row ghosts in
    qed 𝓛 ((‵ ftrue ⊛ ‵ (fsep (Handle.the_row.own_val d z.0.4.0) ftrue)) ∷ raw (fact 𝓤 (IsSome d.value)) ∷ []) ∵ split ! $ drop ! $ move ! (1 ∷ []) $ heard ! (IsSome d.value) (λ has.
    let sx = some_of d.value has in let v : D E = record { ptr = d.at; alloc = d.alloc; value = sx.0 } in let made : To.Denot = record { ptr = d.at; alloc = d.alloc; value = sx.0 } in
    fsplit ! $ handle_out ! d z.0.4.0 (λ h ws low fits. move ! (1 ∷ []) $
    rewrite ! 0 (λ (o : Option Kept.the_row.Denot). ‵ (kept_owns d.alloc d.at d.there o)) sx.1 refl $ fsplit ! $ feq_l ! (λ en.
    in_a_block ! d.at (λ p. box_owns (token E.al d.alloc) (R E) p sx.0) (fst∗ 𝓤 (never 𝓤) (sem 𝓛 (token E.al d.alloc (bare (τ E)) null_ptr))) (λ b o ep. fsplit ! $
    box_in E ! v b o sx.0 ep refl $ use1 𝓛 (‵ (To.own_val made (word E h b o ∷ []))) (id⊢ 𝓤 _) $
    let w : Val = three (vptr b o) (vint w32 d.there) h in let at_w : z.0.4.0 ≡ w ∷ [] = ws ∙ ap (λ p. three (ptr_val p) (vint w32 d.there) h ∷ []) ep in
    suffices ! (Run (w ∷ [])) (subst (λ (us : List Val). ent 𝓤 (Run (w ∷ [])) (Run us)) (sym at_w) (id⊢ 𝓤 (Run (w ∷ [])))) $
    enter ! 𝓣.C 𝓣.Λ code.function (w ∷ []) Post $ alloc_all ! (λ l. pass_all ! refl ((and_tt (has_ty (layout Heap.the_row) h) fits.0, (tt, (record { fits = low }, (fits.1, tt)))), tt) $
    sets ! (of_opd ! (get_in ! (fld ! refl (stop !)) (sub ! 0 refl (whole !)))) refl (tt, tt) $ sets ! (of_opd ! (get_in ! (fld ! refl (stop !)) (sub ! 2 refl (whole !)))) refl fits $
    sets ! (agg ! (and_then ! (get ! refl) (and_then ! (get ! refl) (no_more !)))) refl (box_typed E h b o fits) $
    use0 𝓛 (raw (fact 𝓤 (Some sx.0 ≡ d.value))) (fact_i 𝓤 (Some sx.0 ≡ d.value) (emp 𝓤) (sym sx.1)) $ nothing ! $ nothing ! $ fjoin ! $ nothing ! $
    returns ! (look_at ! 0 refl) $ free_all ! refl $ keep ! (0 ∷ 1 ∷ 3 ∷ 2 ∷ []) $
    by ! (leaves 𝓛 f.ended stayed c z (word E h b o) made (tt, tt) (tt, tt))))))))
