-- The machine values of a handle, and what it owns. Assumes `Logic`.
use Rattle.std.proofs.Common.{◌≡◌, ℕ, ◌<◌, ◌^◌, List, [], ◌∷◌, ◌++◌, refl, sym, w32, Option, None, Some, IsSome, ◌∙◌, true≢false, lit<}
use mathlib.Core.Bool.{Bool, true, ◌&&◌, false}
use lib.Dec.{T}
use seplogic.Ra.Ura.{Ura}
use mir.Syntax.{impl, tnil, dnil, ty_ptr}
use mir.Val.{Val, vint, vstruct, vcons, vnil, of_list, has_ty, WT}
use types.Logic.{Logic}
use types.Kit.{Item, Goal, Seq, Step, step, ‵, ◌$◌, move, drop, fsplit, fjoin, fpick, fpack, feq_i, feq_l}
use denote.RattleType.{Valss}
use denote.Builtin.{RawPtr, u32}
use denote.Laws.{Is, shows}
use denote.Plain.{uint_Makes, uint_Tells}
use denote.RawPtr.{Ptr, block_ptr, null_ptr, ptr_val}
use denote.Steps.{nothing, owned, peeks}
use denote.Struct.Struct.{within}
use denote.Struct.Owning.{shape, to}
use denote.Param.{layout}
use Rattle.std.proofs.alloc.Calls.{Fits, handle_tells}
use Rattle.std.proofs.BoxSteps.Form.{Bx}
use Rattle.std.proofs.ResultValues.{and_tt}
use Rattle.std_heap.specs.contracts.Global as Heap
use Rattle.std_heap.specs.contracts.GlobalAllocator.TheImpl.{ghosts, dict}
use Rattle.std_heap.proofs.Global.TheLaws as heap
use Rattle.fast_kept.specs.Keeping.{kept_owns, flag}
use Rattle.fast_kept.specs.contracts.kept.Kept as Kept
use Rattle.fast_kept.proofs.kept.Kept.TheLaws as kept
use Rattle.fast_kept.specs.contracts.handle.Handle as Handle

abbrev pub E : Bx
E = record { row = Kept.the_row; laws = kept.the_row_laws; al = record { row = Heap.the_row; laws = heap.the_row_laws; g = ghosts; d = dict; drops = impl [] tnil dnil } }

abbrev pub three : Val → Val → Val → Val
three u v w = vstruct (vcons u (vcons v (vcons w vnil)))

module _ {M : Type 1} {𝓤 : Ura M} {𝓛 : Logic 𝓤} {K : Type 0} {Γ : List (Item 𝓤)} {G : Goal 𝓤 𝓛.H} where
  pub handle_in : K → (p : Ptr) (n : ℕ) (fits : n < 2 ^ 32) (a : Heap.the_row.Denot) (x : Option Kept.the_row.Denot) (h : Val)
      → Step K 𝓛 (‵ (Handle.the_row.own_val (record { at = p; there = n; alloc = a; value = x }) (three (ptr_val p) (vint w32 n) h ∷ [])) ∷ Γ) G
      (‵ (kept_owns a p n x) ∷ ‵ (Heap.the_row.own_val a (h ∷ [])) ∷ Γ) G
  handle_in t p n fits a x h = step (λ s. let v : Val = three (ptr_val p) (vint w32 n) h in
      nothing t $ move t (2 ∷ 0 ∷ []) $ fjoin t $ owned t u32 (Is u32) (uint_Makes 𝓛 w32) n (vint w32 n ∷ []) (refl, fits) $ fjoin t $
      feq_i t (List Val) (ptr_val p ∷ []) (ptr_val p ∷ []) refl $ fjoin t $ feq_i t (List Val) (v ∷ []) (v ∷ []) refl $ fjoin t $
      fpack t (Valss (RawPtr ∷ u32 ∷ Heap.the_row ∷ [])) (within (shape Handle.the_type) (to Handle.the_type (record { at = p; there = n; alloc = a; value = x })) (v ∷ [])) (ptr_val p ∷ [], (vint w32 n ∷ [], (h ∷ [], tt))) $ fjoin t $ s)

  pub handle_out : K → (d : Handle.the_row.Denot) (vs : List Val)
      → ((h : Val) → vs ≡ three (ptr_val d.at) (vint w32 d.there) h ∷ [] → d.there < 2 ^ 32 → Fits E.al h
      → Seq K 𝓛 (‵ (Heap.the_row.own_val d.alloc (h ∷ [])) ∷ ‵ (kept_owns d.alloc d.at d.there d.value) ∷ Γ) G)
      → Seq K 𝓛 (‵ (Handle.the_row.own_val d vs) ∷ Γ) G
  handle_out t d vs k = fsplit t $ fpick t (λ vss. fsplit t $ feq_l t (λ ev. fsplit t $ feq_l t (λ ep. fsplit t $
      peeks t u32 (Is u32) (shows 𝓛 u32) d.there vss.1.0 (λ is. drop t $ fsplit t $ handle_tells E.al t d.alloc vss.1.1.0 (λ h ea fits. move t (1 ∷ []) $ drop t $
      k h (ev ∙ (λ i. vstruct (of_list (ep i ++ (uint_Tells w32 d.there vss.1.0 is i ++ (ea i ++ [])))) ∷ [])) is.1 fits)))))

  pub owns_tells : K → (a : Heap.the_row.Denot) (p : Ptr) (n : ℕ) (x : Option Kept.the_row.Denot)
      → (n ≡ flag x → Seq K 𝓛 (‵ (kept_owns a p n x) ∷ Γ) G) → Seq K 𝓛 (‵ (kept_owns a p n x) ∷ Γ) G
  owns_tells t a p n None k = feq_l t (λ e. feq_i t ℕ n 0 e $ k e)
  owns_tells t a p n (Some x) k = fsplit t $ feq_l t (λ e. feq_i t ℕ n 1 e $ fjoin t $ k e)

pub some_of : {T : Type 0} (x : Option T) → IsSome x → (y : T) × (x ≡ Some y)
some_of None s = absurd (true≢false (sym s))
some_of (Some y) s = (y, refl)

t_and : (x y : Bool) → T x → T y → T (x && y)
t_and true y s t = t
t_and false y s t = absurd s

pub ptr_ok : (p : Ptr) → T (has_ty ty_ptr (ptr_val p)) × WT (ptr_val p)
ptr_ok (block_ptr b o) = (tt, tt)
ptr_ok null_ptr = (tt, record { fits = lit< tt })

pub three_typed : (p : Ptr) (n : ℕ) → n < 2 ^ 32 → (h : Val) → Fits E.al h → T (has_ty ty_ptr (ptr_val p) && (has_ty (layout Heap.the_row) h && true)) × WT (three (ptr_val p) (vint w32 n) h)
three_typed p n low h fits =
    (t_and (has_ty ty_ptr (ptr_val p)) (has_ty (layout Heap.the_row) h && true) (ptr_ok p).0 (and_tt (has_ty (layout Heap.the_row) h) fits.0), ((ptr_ok p).1, (record { fits = low }, (fits.1, tt))))
