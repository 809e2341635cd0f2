-- `of_parts` moves two fields, and what they own goes with them.
use Rattle.std.proofs.Common.{◌≡◌, ℕ, List, [], ◌∷◌, ◌++◌, refl, sym, subst, lit<, w32, Option, Some}
use mir.Val.{Val, vint, vptr, has_ty}
use base.Logic.{SProp, ent, emp, id⊢}
use base.Fml.{ftrue, fsep}
use prog.Wp.{WpFn}
use types.Kit.{‵, raw, ◌⊛◌, ◌$◌, ◌∵◌, !, qed, by, keep, drop, split, fsplit, fjoin, feq_i, suffices, use0}
use types.Run.{stop, fld, lit, of_opd, no_more, and_then, returns, enter}
use types.ByLocal.{alloc_all, pass_all, free_all, look_at, get, get_in, sets}
use types.Part.{agg, sub, whole}
use contract.Monad.{fact, fact_i}
use contract.Running.{tables}
use denote.Exit.{yes}
use denote.Param.{layout}
use denote.Signature.{plain}
use denote.RawPtr.{block_ptr}
use denote.Steps.{nothing}
use denote.Triple.Walked.{Stays, stay_dropped, walk_of, Goes-dropped}
use Rattle.std.proofs.BoxSteps.Form.{D, B, word, box_typed}
use Rattle.std.proofs.BoxSteps.Steps.{box_out}
use Rattle.std.proofs.ResultValues.{and_tt}
use Rattle.std.proofs.raw_atomic.Walks.{proved_at, leaves}
use Rattle.std_heap.specs.contracts.Global as Heap
use Rattle.std_heap.specs.contracts.GlobalAllocator.TheImpl.{ghosts}
use Rattle.fast_kept.specs.contracts.kept.Kept as Kept
use Rattle.fast_kept.specs.contracts.parts.Parts as Parts
use Rattle.fast_kept.proofs.Values.{E, three, handle_in}
use Rattle.fast_kept.specs.contracts.handle.Handle.of_parts as f
use Rattle.fast_kept.specs.contracts.handle.Handle.of_parts.Key.{name as #self}
use Rattle.fast_kept.proofs.handle.Handle.of_parts.Statement.{statement}
use Rattle.fast_kept.proofs.handle.Handle.of_parts.Code as code

abbrev stayed : Stays f.ended.signature.params f.ended.kept
stayed = (stay_dropped (plain (λ _. Parts.the_row Kept.the_row Heap.the_row ghosts)) yes, tt)

pub of_parts_spec : {M : Type 1} → statement M
of_parts_spec 𝓤 𝓛 𝓜 𝓡 wired =
    let H = 𝓛.H in let 𝓣 = tables 𝓤 H 𝓜 𝓡 𝓡.env in let c = f.clauses 𝓛 𝓜.mem 𝓡.returns in
    proved_at 𝓛 f.ended stayed c 𝓜 𝓡 (Goes-dropped 𝓛 0 (plain (λ _. Parts.the_row Kept.the_row Heap.the_row ghosts)) yes (λ κs x w. refl), tt) #self code.function (code.unfolded 𝓤 H 𝓜 𝓡 wired) (λ z are.
    let Post : Val → SProp 𝓤 = (walk_of 𝓛 f.ended stayed c).post z in let Run : List Val → SProp 𝓤 = λ ws. WpFn 𝓤 H 𝓣.C 𝓣.Λ code.function (ws ++ []) Post in
    let v : D E = record { ptr = z.0.3.0.ptr; alloc = z.0.3.0.alloc; value = z.0.3.0.value } in let some_x : Option Kept.the_row.Denot = Some v.value in
    qed 𝓛 ((‵ ftrue ⊛ ‵ (fsep ((B E).own_val v z.0.4.0) ftrue)) ∷ raw (emp 𝓤) ∷ []) ∵ split ! $ drop ! $ fsplit ! $
    box_out E ! v z.0.4.0 (λ b o h e ws fits. fjoin ! $ feq_i ! ℕ 1 1 refl $ fjoin ! $
    suffices ! (Run (word E h b o ∷ [])) (subst (λ (us : List Val). ent 𝓤 (Run (word E h b o ∷ [])) (Run us)) (sym ws) (id⊢ 𝓤 (Run (word E h b o ∷ [])))) $
    enter ! 𝓣.C 𝓣.Λ code.function (word E h b o ∷ []) Post $ alloc_all ! (λ l. pass_all ! refl (box_typed E h b o fits, tt) $
    sets ! (of_opd ! (get_in ! (fld ! refl (stop !)) (sub ! 0 refl (whole !)))) refl (tt, tt) $ sets ! (of_opd ! (get_in ! (fld ! refl (stop !)) (sub ! 1 refl (whole !)))) refl fits $
    sets ! (agg ! (and_then ! (get ! refl) (and_then ! (lit ! tt) (and_then ! (get ! refl) (no_more !))))) refl (and_tt (has_ty (layout Heap.the_row) h) fits.0, (tt, (record { fits = lit< tt }, (fits.1, tt)))) $
    handle_in ! (block_ptr b o) 1 (lit< tt) v.alloc some_x h $
    use0 𝓛 (raw (fact 𝓤 (some_x ≡ some_x))) (fact_i 𝓤 (some_x ≡ some_x) (emp 𝓤) refl) $ nothing ! $ nothing ! $ fjoin ! $ nothing ! $
    returns ! (look_at ! 0 refl) $ free_all ! refl $ keep ! (0 ∷ 1 ∷ 3 ∷ 2 ∷ []) $
    by ! (leaves 𝓛 f.ended stayed c z (three (vptr b o) (vint w32 1) h) (record { at = block_ptr b o; there = 1; alloc = v.alloc; value = some_x }) (tt, tt) (tt, tt)))))
