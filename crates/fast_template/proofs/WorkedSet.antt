-- The templates of the worked rows, resolved, are a sound set. Each stands here as it is; that the written ones are resolved to
-- these is shown in fast_load.
use Rattle.fast_template.proofs.Common.{◌≡◌, ◌+◌, ℕ, List, [], ◌∷◌, if◌then◌else◌, Option, Some, None, Bool, true, false, pos, negsuc, refl, sym, ap, subst, ◌∙◌, lit≤, lit<, codes, IsSome, IfSome, Kind, Int32, UInt32, Int64, Decimal, Ascii, Unicode, Bytes, Presence, Mandatory, Optional, Operator, Plain, Constant, Default, Copy, Increment, Delta, Tail, Part, Whole, Exponent, Mantissa, Length, Scalar, Global, Key, FieldPart, Instruction, whole_field, field_in_parts, group_of, sequence_of, instructions_of, Resolved, applies, IsInitial, IsPartOf, HaveTypedParts, AreSound, identifier_key, keys_of_all}
use Rattle.fast_template.proofs.Tested.{names_tie, slotted_by, all_differ}

-- The keys, in the order in which they first stand; the place of each is its slot.
abbrev named : List ℕ → Part → Key
named name part = record { slot = 0; scope = Global; name = name; part = part }

abbrev pub worked_keys : List Key
worked_keys =
    identifier_key
    ∷ named (codes "Seq") Whole ∷ named (codes "Sym") Whole ∷ named (codes "Px") Whole ∷ named (codes "Qty") Whole
    ∷ named (codes "A") Whole ∷ named (codes "B") Whole
    ∷ named (codes "Px") Exponent ∷ named (codes "Px") Mantissa ∷ named (codes "Flag") Whole
    ∷ named (codes "L") Length ∷ named (codes "P") Whole ∷ named (codes "Q") Whole
    ∷ named (codes "K") Whole ∷ named (codes "S") Whole
    ∷ named (codes "O") Whole ∷ named (codes "D") Whole ∷ named (codes "Raw") Whole
    ∷ []

-- the place of a key in a list, from n on
abbrev pub place_in : List Key → ℕ → Key → ℕ
place_in [] n k = n
place_in (l ∷ ls) n k = if names_tie k l then n else place_in ls (n + 1) k

abbrev pub slot_of : Key → ℕ
slot_of = place_in worked_keys 0

-- a part of an instruction under a global key, and an instruction of such a part, under its own name and under a key
abbrev part_at : ℕ → Part → Kind → Presence → Operator → Option Scalar → ℕ → List ℕ → Part → FieldPart
part_at number part kind presence operator initial slot key key_part = record { number = number; part = part; kind = kind; presence = presence; operator = operator; initial = initial; key = record { slot = slot; scope = Global; name = key; part = key_part } }

abbrev field_under : ℕ → List ℕ → Kind → Presence → Operator → Option Scalar → ℕ → List ℕ → Instruction
field_under number name kind presence operator initial slot key = whole_field name number presence (part_at number Whole kind presence operator initial slot key Whole)

abbrev field : ℕ → List ℕ → Kind → Presence → Operator → Option Scalar → ℕ → Instruction
field number name kind presence operator initial slot = field_under number name kind presence operator initial slot name

-- a decimal in parts, by the operators of its exponent and of its mantissa
abbrev parts : ℕ → List ℕ → Presence → Operator → Option Scalar → ℕ → Operator → ℕ → Instruction
parts number name presence exponent initial slot mantissa next = field_in_parts name number presence
    (part_at number Exponent Int32 presence exponent initial slot name Exponent)
    (part_at number Mantissa Int64 Mandatory mantissa None next name Mantissa)

-- a sequence whose length has no name and no operator
abbrev sequence : ℕ → List ℕ → Presence → ℕ → List Instruction → Instruction
sequence number name presence slot members = sequence_of name number presence (part_at number Length UInt32 presence Plain None slot name Length) (instructions_of members)

abbrev template : Option ℕ → List ℕ → List Instruction → Resolved
template id name members = record { id = id; name = name; members = instructions_of members }

abbrev pub quote : Resolved
quote = template (Some 1) (codes "Quote") (
    field 1 (codes "Seq") UInt32 Mandatory Increment None 1
    ∷ field 2 (codes "Sym") Ascii Mandatory Copy None 2
    ∷ field 3 (codes "Px") Decimal Mandatory Delta None 3
    ∷ field 4 (codes "Qty") UInt32 Optional Copy None 4
    ∷ [])

abbrev pub wrap : Resolved
wrap = template (Some 2) (codes "Wrap") (field 1 (codes "A") UInt32 Mandatory Increment None 5 ∷ field 2 (codes "B") UInt32 Mandatory Delta None 6 ∷ [])

abbrev pub opt : Resolved
opt = template (Some 3) (codes "Opt") (parts 1 (codes "Px") Optional Default (Some (Scalar.I32 (pos 2))) 7 Copy 8 ∷ field 2 (codes "Flag") UInt32 Mandatory Copy None 9 ∷ [])

abbrev pub legs : Resolved
legs = template (Some 4) (codes "Legs") (sequence 1 (codes "L") Optional 10 (field 2 (codes "P") UInt32 Mandatory Plain None 11 ∷ []) ∷ [])

abbrev pub marks : Resolved
marks = template (Some 5) (codes "Marks") (sequence 1 (codes "L") Mandatory 10 (field 2 (codes "Q") UInt32 Mandatory Copy None 12 ∷ []) ∷ [])

abbrev pub bare : Resolved
bare = template (Some 6) (codes "Bare") (sequence 1 (codes "L") Mandatory 10 [] ∷ [])

abbrev pub clash : Resolved
clash = template (Some 7) (codes "Clash") (field_under 1 (codes "A") UInt32 Mandatory Copy None 13 (codes "K") ∷ field_under 2 (codes "B") Ascii Mandatory Copy None 13 (codes "K") ∷ [])

abbrev pub tail : Resolved
tail = template (Some 8) (codes "Tail") (field 1 (codes "S") Ascii Optional Tail None 14 ∷ [])

abbrev pub init : Resolved
init = template (Some 9) (codes "Init") (field 1 (codes "S") Ascii Optional Tail (Some (Scalar.Ascii (codes "ab"))) 14 ∷ [])

abbrev pub delta : Resolved
delta = template (Some 10) (codes "Delta") (field 1 (codes "S") Ascii Mandatory Delta None 14 ∷ [])

abbrev pub common : Resolved
common = template None (codes "Common") (field 1 (codes "B") UInt32 Mandatory Copy None 6 ∷ [])

abbrev pub grp : Resolved
grp = template (Some 11) (codes "Grp") (
    group_of (codes "Hd") 1 Optional (instructions_of (field 2 (codes "A") UInt32 Mandatory Copy None 5 ∷ []))
    ∷ field 3 (codes "B") UInt32 Mandatory Copy None 6
    ∷ [])

abbrev pub uni : Resolved
uni = template (Some 12) (codes "Uni") (field 1 (codes "S") Unicode Mandatory Tail None 14 ∷ [])

abbrev pub empty : Resolved
empty = template (Some 13) (codes "Empty") (field_under 1 (codes "A") UInt32 Optional Copy None 13 (codes "K") ∷ field_under 2 (codes "B") UInt32 Mandatory Delta None 13 (codes "K") ∷ [])

abbrev pub const : Resolved
const = template (Some 14) (codes "Const") (
    field 1 (codes "K") UInt32 Mandatory Constant (Some (Scalar.U32 7)) 13
    ∷ field 2 (codes "O") UInt32 Optional Constant (Some (Scalar.U32 9)) 15
    ∷ field 3 (codes "D") UInt32 Mandatory Default (Some (Scalar.U32 3)) 16
    ∷ [])

abbrev pub fixed : Resolved
fixed = template (Some 15) (codes "Fixed") (parts 1 (codes "Px") Mandatory Constant (Some (Scalar.I32 (negsuc 1))) 7 Delta 8 ∷ field 2 (codes "Raw") Bytes Optional Copy None 17 ∷ [])

abbrev pub first : Resolved
first = template (Some 16) (codes "First") (field 1 (codes "A") UInt32 Mandatory Plain None 5 ∷ field 2 (codes "B") UInt32 Mandatory Copy None 6 ∷ [])

-- in the order of their list
abbrev pub worked_set : List Resolved
worked_set =
    quote ∷ wrap ∷ opt ∷ legs ∷ marks ∷ bare ∷ clash ∷ tail ∷ init
    ∷ delta ∷ common ∷ grp ∷ uni ∷ empty ∷ const ∷ fixed ∷ first ∷ []

-- ---- each part is typed

-- whether a part has to have an initial value
abbrev needs_value : Operator → Presence → Bool
needs_value Constant presence = true
needs_value Default Mandatory = true
needs_value o presence = false

never : {A : Type 0} (o : Operator) (p : Presence) → needs_value o p ≡ false → o ≡ Constant → A
never o p e is = absurd (cc (sym (ap (λ q. needs_value q p) is) ∙ e))

never_default : {A : Type 0} (o : Operator) (p : Presence) → needs_value o p ≡ false → o ≡ Default → p ≡ Mandatory → A
never_default o p e is also = absurd (cc (sym (λ i. needs_value (is i) (also i)) ∙ e))

-- a part without an initial value, where it needs none
bare_part : {part : Part} {kind : Kind} {presence : Presence} (p : FieldPart) → p.part ≡ part → p.kind ≡ kind → p.presence ≡ presence → applies p.operator p.kind ≡ true → p.initial ≡ None → needs_value p.operator p.presence ≡ false → IsPartOf part kind presence p
bare_part p parts kinds presences apply none needs = record {
  part_is = parts;
  kind_is = kinds;
  presence_is = presences;
  typed = record {
    operator_applies = apply;
    initial_fits = subst (λ o. IfSome o (IsInitial p)) (sym none) tt;
    constant_has_value = λ e. never p.operator p.presence needs e;
    default_has_value = λ e f. never_default p.operator p.presence needs e f;
  };
}

-- a part with an initial value
part_with : {part : Part} {kind : Kind} {presence : Presence} (p : FieldPart) (v : Scalar) → p.part ≡ part → p.kind ≡ kind → p.presence ≡ presence → applies p.operator p.kind ≡ true → p.initial ≡ Some v → IsInitial p v → IsPartOf part kind presence p
part_with p v parts kinds presences apply some fits = record {
  part_is = parts;
  kind_is = kinds;
  presence_is = presences;
  typed = record {
    operator_applies = apply;
    initial_fits = subst (λ o. IfSome o (IsInitial p)) (sym some) fits;
    constant_has_value = λ e. subst IsSome (sym some) refl;
    default_has_value = λ e f. subst IsSome (sym some) refl;
  };
}

typed_1 : HaveTypedParts quote.members
typed_1 = (bare_part _ refl refl refl refl refl refl, (bare_part _ refl refl refl refl refl refl, (bare_part _ refl refl refl refl refl refl, (bare_part _ refl refl refl refl refl refl, tt))))

typed_2 : HaveTypedParts wrap.members
typed_2 = (bare_part _ refl refl refl refl refl refl, (bare_part _ refl refl refl refl refl refl, tt))

typed_3 : HaveTypedParts opt.members
typed_3 = ((part_with _ (Scalar.I32 (pos 2)) refl refl refl refl refl (refl, refl, refl), bare_part _ refl refl refl refl refl refl), (bare_part _ refl refl refl refl refl refl, tt))

typed_4 : HaveTypedParts legs.members
typed_4 = ((bare_part _ refl refl refl refl refl refl, (bare_part _ refl refl refl refl refl refl, tt)), tt)

typed_5 : HaveTypedParts marks.members
typed_5 = ((bare_part _ refl refl refl refl refl refl, (bare_part _ refl refl refl refl refl refl, tt)), tt)

typed_6 : HaveTypedParts bare.members
typed_6 = ((bare_part _ refl refl refl refl refl refl, tt), tt)

typed_7 : HaveTypedParts clash.members
typed_7 = (bare_part _ refl refl refl refl refl refl, (bare_part _ refl refl refl refl refl refl, tt))

typed_8 : HaveTypedParts tail.members
typed_8 = (bare_part _ refl refl refl refl refl refl, tt)

typed_9 : HaveTypedParts init.members
typed_9 = (part_with _ (Scalar.Ascii (codes "ab")) refl refl refl refl refl (refl, refl, (lit≤ tt, (lit< tt, (lit< tt, tt)))), tt)

typed_10 : HaveTypedParts delta.members
typed_10 = (bare_part _ refl refl refl refl refl refl, tt)

typed_11 : HaveTypedParts common.members
typed_11 = (bare_part _ refl refl refl refl refl refl, tt)

typed_12 : HaveTypedParts grp.members
typed_12 = ((bare_part _ refl refl refl refl refl refl, tt), (bare_part _ refl refl refl refl refl refl, tt))

typed_13 : HaveTypedParts uni.members
typed_13 = (bare_part _ refl refl refl refl refl refl, tt)

typed_14 : HaveTypedParts empty.members
typed_14 = (bare_part _ refl refl refl refl refl refl, (bare_part _ refl refl refl refl refl refl, tt))

typed_15 : HaveTypedParts const.members
typed_15 = (part_with _ (Scalar.U32 7) refl refl refl refl refl (refl, refl, lit< tt), (part_with _ (Scalar.U32 9) refl refl refl refl refl (refl, refl, lit< tt), (part_with _ (Scalar.U32 3) refl refl refl refl refl (refl, refl, lit< tt), tt)))

typed_16 : HaveTypedParts fixed.members
typed_16 = ((part_with _ (Scalar.I32 (negsuc 1)) refl refl refl refl refl (refl, refl, refl), bare_part _ refl refl refl refl refl refl), (bare_part _ refl refl refl refl refl refl, tt))

typed_17 : HaveTypedParts first.members
typed_17 = (bare_part _ refl refl refl refl refl refl, (bare_part _ refl refl refl refl refl refl, tt))

-- ---- the whole set

pub worked_set_is_sound : AreSound worked_set 18
worked_set_is_sound = record {
  few = lit≤ tt;
  distinct = all_differ worked_set refl;
  typed = (typed_1, (typed_2, (typed_3, (typed_4, (typed_5, (typed_6, (typed_7, (typed_8, (typed_9, (typed_10, (typed_11, (typed_12, (typed_13, (typed_14, (typed_15, (typed_16, (typed_17, tt)))))))))))))))));
  in_order = (refl, (refl, (refl, (refl, (refl, (refl, (refl, (refl, (refl, (refl, (refl, (refl, (refl, (refl, (refl, (refl, (refl, tt)))))))))))))))));
  shallow = (lit≤ tt, (lit≤ tt, (lit≤ tt, (lit≤ tt, (lit≤ tt, (lit≤ tt, (lit≤ tt, (lit≤ tt, (lit≤ tt, (lit≤ tt, (lit≤ tt, (lit≤ tt, (lit≤ tt, (lit≤ tt, (lit≤ tt, (lit≤ tt, (lit≤ tt, tt)))))))))))))))));
  small = lit≤ tt;
  slotted = slotted_by (identifier_key ∷ keys_of_all worked_set) 18 refl refl refl;
}
