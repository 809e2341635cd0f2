-- `split` reads a field, and makes the struct again.
use Rattle.std.proofs.Common.{◌≡◌, List, [], ◌∷◌, ◌++◌, refl, sym, subst, w32}
use mir.Val.{Val, vint, has_ty, vstruct, vcons, vnil}
use base.Logic.{SProp, ent, emp, id⊢}
use base.Fml.{ftrue, fsep}
use prog.Wp.{WpFn}
use types.Kit.{‵, raw, ◌⊛◌, ◌$◌, ◌∵◌, !, qed, by, move, keep, drop, split, fsplit, fjoin, feq_i, suffices, use0, fpack, join}
use types.Run.{stop, fld, of_opd, no_more, and_then, returns, enter}
use types.ByLocal.{alloc_all, pass_all, free_all, look_at, get, get_in, sets}
use types.Part.{agg, sub, whole}
use contract.Monad.{fact, fact_i}
use contract.Running.{tables}
use denote.Exit.{yes}
use denote.Param.{layout}
use denote.Signature.{plain}
use denote.RawPtr.{ptr_val}
use denote.Steps.{nothing, owned}
use denote.Triple.Walked.{Stays, stay_dropped, walk_of, Goes-dropped}
use Rattle.std.proofs.ResultValues.{and_tt}
use Rattle.std.proofs.raw_atomic.Walks.{proved_at, leaves}
use Rattle.fast_kept.specs.contracts.handle.Handle as Handle
use denote.Builtin.{u32}
use denote.Laws.{Is}
use denote.Plain.{uint_Makes}
use denote.RattleType.{Valss}
use denote.Struct.Struct.{within}
use denote.Struct.Declared.{shape}
use denote.Struct.Tuple.{Tuple, tuple_type}
use Rattle.fast_kept.specs.Keeping.{flag}
use Rattle.fast_kept.proofs.Values.{three, handle_in, handle_out, owns_tells, ptr_ok, three_typed}
use Rattle.fast_kept.specs.contracts.handle.Handle.split as f
use Rattle.fast_kept.specs.contracts.handle.Handle.split.Key.{name as #self}
use Rattle.fast_kept.proofs.handle.Handle.split.Statement.{statement}
use Rattle.fast_kept.proofs.handle.Handle.split.Code as code

abbrev stayed : Stays f.ended.signature.params f.ended.kept
stayed = (stay_dropped (plain (λ _. Handle.the_row)) yes, tt)

pub split_spec : {M : Type 1} → statement M
split_spec 𝓤 𝓛 𝓜 𝓡 wired =
    let H = 𝓛.H in let 𝓣 = tables 𝓤 H 𝓜 𝓡 𝓡.env in let c = f.clauses 𝓛 𝓜.mem 𝓡.returns in
    proved_at 𝓛 f.ended stayed c 𝓜 𝓡 (Goes-dropped 𝓛 0 (plain (λ _. Handle.the_row)) yes (λ κs x w. refl), tt) #self code.function (code.unfolded 𝓤 H 𝓜 𝓡 wired) (λ z are.
    let Post : Val → SProp 𝓤 = (walk_of 𝓛 f.ended stayed c).post z in let Run : List Val → SProp 𝓤 = λ ws. WpFn 𝓤 H 𝓣.C 𝓣.Λ code.function (ws ++ []) Post in
    let d = z.0.3.0 in let Pair = Tuple (u32 ∷ Handle.the_row ∷ []) in
    qed 𝓛 ((‵ ftrue ⊛ ‵ (fsep (Handle.the_row.own_val d z.0.4.0) ftrue)) ∷ raw (emp 𝓤) ∷ []) ∵ split ! $ drop ! $ fsplit ! $ handle_out ! d z.0.4.0 (λ h ws low fits. move ! (1 ∷ []) $
    owns_tells ! d.alloc d.at d.there d.value (λ en.
    let w : Val = three (ptr_val d.at) (vint w32 d.there) h in let two : Val = vstruct (vcons (vint w32 d.there) (vcons w vnil)) in
    let ok = three_typed d.at d.there low h fits in
    suffices ! (Run (w ∷ [])) (subst (λ (us : List Val). ent 𝓤 (Run (w ∷ [])) (Run us)) (sym ws) (id⊢ 𝓤 (Run (w ∷ [])))) $
    handle_in ! d.at d.there low d.alloc d.value h $
    enter ! 𝓣.C 𝓣.Λ code.function (w ∷ []) Post $ alloc_all ! (λ l. pass_all ! refl (ok, tt) $
    sets ! (of_opd ! (get_in ! (fld ! refl (stop !)) (sub ! 0 refl (whole !)))) refl (ptr_ok d.at) $ sets ! (of_opd ! (get_in ! (fld ! refl (stop !)) (sub ! 1 refl (whole !)))) refl (tt, record { fits = low }) $
    sets ! (of_opd ! (get_in ! (fld ! refl (stop !)) (sub ! 2 refl (whole !)))) refl fits $
    sets ! (agg ! (and_then ! (get ! refl) (and_then ! (get ! refl) (and_then ! (get ! refl) (no_more !))))) refl ok $
    sets ! (agg ! (and_then ! (get ! refl) (and_then ! (get ! refl) (no_more !)))) refl (and_tt (has_ty (layout Handle.the_row) w) ok.0, (record { fits = low }, (ok.1, tt))) $
    nothing ! $ move ! (1 ∷ 0 ∷ []) $ fjoin ! $ owned ! u32 (Is u32) (uint_Makes 𝓛 w32) d.there (vint w32 d.there ∷ []) (refl, low) $ fjoin ! $
    feq_i ! (List Val) (two ∷ []) (two ∷ []) refl $ fjoin ! $
    fpack ! (Valss (u32 ∷ Handle.the_row ∷ [])) (within (shape (tuple_type (u32 ∷ Handle.the_row ∷ []))) (d.there, (d, tt)) (two ∷ [])) (vint w32 d.there ∷ [], (w ∷ [], tt)) $
    use0 𝓛 (raw (fact 𝓤 (d.value ≡ d.value))) (fact_i 𝓤 (d.value ≡ d.value) (emp 𝓤) refl) $ use0 𝓛 (raw (fact 𝓤 (d.there ≡ flag d.value))) (fact_i 𝓤 (d.there ≡ flag d.value) (emp 𝓤) en) $ join ! $
    nothing ! $ nothing ! $ fjoin ! $ nothing ! $
    returns ! (look_at ! 0 refl) $ free_all ! refl $ keep ! (0 ∷ 1 ∷ 3 ∷ 2 ∷ []) $
    by ! (leaves 𝓛 f.ended stayed c z two (d.there, d) (tt, tt) (tt, tt))))))
