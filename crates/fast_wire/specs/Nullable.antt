-- FAST 1.1, Transfer Encoding, Nullable: forms that have one value more, NULL.
use Rattle.std.specs.Prelude.{ℕ, zero, suc, ◌+◌, ℤ, pos, negsuc, List, length, Vec}
use Rattle.std.specs.Borrow.{Bor}
use Rattle.std.specs.declared.alloc.Global.{Global}
use Rattle.fast_wire.specs.Integer.{IsUnsigned, IsSigned}
use Rattle.fast_wire.specs.declared.nullable.Nullable.{Nullable}
use Rattle.fast_wire.specs.declared.nullable.Nullable.TheVariants.{Null, Value}

-- what is sent for a nullable number: 0 for NULL, a number from 0 up plus one, and a negative one as it is
abbrev pub sent_unsigned : Nullable ℕ → ℕ
sent_unsigned Null = 0
sent_unsigned (Value n) = n + 1

abbrev pub sent_signed : Nullable ℤ → ℤ
sent_signed Null = pos 0
sent_signed (Value (pos n)) = pos (n + 1)
sent_signed (Value (negsuc n)) = negsuc n

-- the bytes spell what is sent for v; so a longer entity of zeros is NULL too (our own reading)
abbrev pub IsUnsignedNullable : List ℕ → Nullable ℕ → Type 0
IsUnsignedNullable bytes v = IsUnsigned bytes (sent_unsigned v)

abbrev pub IsSignedNullable : List ℕ → Nullable ℤ → Type 0
IsSignedNullable bytes v = IsSigned bytes (sent_signed v)

-- what is meant by a number that was sent
abbrev pub received_unsigned : ℕ → Nullable ℕ
received_unsigned zero = Null
received_unsigned (suc n) = Value n

abbrev pub received_signed : ℤ → Nullable ℤ
received_signed (pos zero) = Null
received_signed (pos (suc n)) = Value (pos n)
received_signed (negsuc n) = Value (negsuc n)

-- NULL, or a value for which this holds
abbrev pub IsNullOr : {V : Type 0} → (V → Type 0) → Nullable V → Type 0
IsNullOr P Null = Unit {0}
IsNullOr P (Value v) = P v

-- the bytes, where there are some
abbrev pub items_of : Nullable (Vec ℕ Global) → Nullable (List ℕ)
items_of Null = Null
items_of (Value v) = Value v.items

abbrev pub borrowed : Nullable (Bor (List ℕ)) → Nullable (List ℕ)
borrowed Null = Null
borrowed (Value s) = Value s.now

-- how many units a string or a vector has, none for NULL
abbrev pub units : Nullable (List ℕ) → ℕ
units Null = 0
units (Value s) = length s
