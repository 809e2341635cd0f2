-- What a call that writes the best form of a value leaves behind, and why it refuses one. (Own.)
use Rattle.std.specs.Prelude.{◌≡◌, ◌⊎◌, ℕ, ◌≤◌, Bool, false, List, ◌++◌, length, Option, Some, None}
use Rattle.fast_field.specs.Prelude.{Usual, FieldPart, Scalar, Entry}
use Rattle.fast_field.specs.declared.fault.FieldRefusal.{FieldRefusal}
use Rattle.fast_field.specs.Fields.{Form}
use Rattle.fast_field.specs.Best.{IsBest, CutsNothing}
use Rattle.fast_field.specs.Refusals.{refusal_of}

-- behind what was there stand the bytes of the best form of a value
pub record AppendsBest (i : FieldPart) (e : Entry) (v : Option Scalar) (bit : Bool)
    (old new : List ℕ) : Type 0 where
  pub bytes : List ℕ
  pub appended : new ≡ old ++ bytes
  pub best : IsBest i e bit bytes v
  -- no form of the value has fewer, and none has bit 0 where this bit is 1
  pub shortest : (other : Bool) (c : List ℕ) → Form Usual i e other c v
      → (other ≡ false → bit ≡ false) × (length bytes ≤ length c)
  -- one that is as long is the same bytes, save of a tail and of a delta of a string or vector
  pub same : (other : Bool) (c : List ℕ) → CutsNothing i.operator i.kind → Form Usual i e other c v
      → length bytes ≡ length c → bytes ≡ c

-- the first reason why a value has no form; where it has one, memory was refused
abbrev pub IsRefusal : FieldPart → Entry → Option Scalar → FieldRefusal → Type 0
IsRefusal i e v f = (refusal_of i e v ≡ Some f)
    ⊎ ((refusal_of i e v ≡ None) × (f ≡ FieldRefusal.Memory))
