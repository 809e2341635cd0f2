-- The machine values of what holds a reader, and what it owns. Assumes `Logic`.
use Rattle.std.proofs.Common.{◌≡◌, List, [], ◌∷◌, ◌++◌, refl, ◌∙◌}
use seplogic.Ra.Ura.{Ura}
use mir.Syntax.{impl, tnil, dnil}
use mir.Val.{Val, vstruct, vcons, vnil, of_list}
use base.Fml.{Lft}
use types.Logic.{Logic}
use types.Kit.{Item, Goal, Seq, Step, step, ‵, ◌$◌, move, drop, fsplit, fjoin, fpick, fpack, feq_i, feq_l}
use denote.RattleType.{Valss}
use denote.Builtin.{RawPtr}
use denote.RawPtr.{ptr_val}
use denote.Ref.{NamedLft}
use denote.Steps.{nothing}
use denote.Struct.Struct.{within}
use denote.Struct.Owning.{shape, to}
use Rattle.std.proofs.alloc.Calls.{Fits, handle_tells}
use Rattle.std.proofs.BoxSteps.Form.{Bx}
use Rattle.std.specs.contracts.option.Option as option
use Rattle.std.proofs.option.Option.TheLaws as options
use Rattle.std_heap.specs.contracts.Global as Heap
use Rattle.std_heap.specs.contracts.GlobalAllocator.TheImpl.{ghosts, dict}
use Rattle.std_heap.proofs.Global.TheLaws as heap
use Rattle.fast_kept.specs.Lending.{lease_owns, hidden}
use Rattle.fast_kept.specs.contracts.lent.Lent as Reader
use Rattle.fast_kept.proofs.lent.Lent.TheLaws as reader
use Rattle.fast_kept.specs.contracts.shared.SharedSet as Set
use Rattle.fast_kept.proofs.shared.SharedSet.TheLaws as set
use Rattle.fast_kept.specs.contracts.lease.Lease as Held

-- a box of room for a reader
abbrev pub RoomAt : NamedLft → Bx
RoomAt κ = record { row = option.the_row (Reader.the_row κ); laws = options.the_row_laws (Reader.the_row κ) (reader.the_row_laws κ); al = record { row = Heap.the_row; laws = heap.the_row_laws; g = ghosts; d = dict; drops = impl [] tnil dnil } }

abbrev pub Room : Lft → Bx
Room κ = RoomAt (hidden κ)

-- a box of a set
abbrev pub Sets : Bx
Sets = record { row = Set.the_row; laws = set.the_row_laws; al = record { row = Heap.the_row; laws = heap.the_row_laws; g = ghosts; d = dict; drops = impl [] tnil dnil } }

abbrev pub three : Val → Val → Val → Val
three u v w = vstruct (vcons u (vcons v (vcons w vnil)))

module _ {M : Type 1} {𝓤 : Ura M} {𝓛 : Logic 𝓤} {K : Type 0} {Γ : List (Item 𝓤)} {G : Goal 𝓤 𝓛.H} where
  pub held_out : K → (d : Held.the_row.Denot) (vs : List Val)
      → ((h : Val) → vs ≡ three (ptr_val d.set) (ptr_val d.room) h ∷ [] → Fits Sets.al h
      → Seq K 𝓛 (‵ (Heap.the_row.own_val d.alloc (h ∷ [])) ∷ ‵ (lease_owns d.life d.name d.alloc d.set d.room d.value) ∷ Γ) G)
      → Seq K 𝓛 (‵ (Held.the_row.own_val d vs) ∷ Γ) G
  held_out t d vs k = fsplit t $ fpick t (λ vss. fsplit t $ feq_l t (λ ev. fsplit t $ feq_l t (λ ep. fsplit t $ feq_l t (λ er. fsplit t $
      handle_tells Sets.al t d.alloc vss.1.1.0 (λ h ea fits. move t (1 ∷ []) $ drop t $
      k h (ev ∙ (λ i. vstruct (of_list (ep i ++ (er i ++ (ea i ++ [])))) ∷ [])) fits)))))

  pub held_in : K → (d : Held.the_row.Denot) (h : Val)
      → Step K 𝓛 (‵ (Held.the_row.own_val d (three (ptr_val d.set) (ptr_val d.room) h ∷ [])) ∷ Γ) G
      (‵ (lease_owns d.life d.name d.alloc d.set d.room d.value) ∷ ‵ (Heap.the_row.own_val d.alloc (h ∷ [])) ∷ Γ) G
  held_in t d h = step (λ s. let v : Val = three (ptr_val d.set) (ptr_val d.room) h in
      nothing t $ move t (2 ∷ 0 ∷ []) $ fjoin t $ feq_i t (List Val) (ptr_val d.room ∷ []) (ptr_val d.room ∷ []) refl $ fjoin t $
      feq_i t (List Val) (ptr_val d.set ∷ []) (ptr_val d.set ∷ []) refl $ fjoin t $ feq_i t (List Val) (v ∷ []) (v ∷ []) refl $ fjoin t $
      fpack t (Valss (RawPtr ∷ RawPtr ∷ Heap.the_row ∷ [])) (within (shape Held.the_type) (to Held.the_type d) (v ∷ [])) (ptr_val d.set ∷ [], (ptr_val d.room ∷ [], (h ∷ [], tt))) $ fjoin t $ s)
