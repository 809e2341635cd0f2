-- The fields of the worked rows, and how a row reads.
use Rattle.fast_field.proofs.Common.{◌≡◌, ℕ, List, [], ◌∷◌, drop, Option, Some, None, Bool, Result, Ok, Err, pos, negsuc, codes, Usual, Kind, Presence, Mandatory, Optional, Operator, Constant, Default, Copy, Increment, Delta, Tail, Part, Whole, Exponent, Global, FieldPart, Scalar, U32, I32, Ascii, Entry, Assigned, ◌>>=◌, FieldFault, next, field_at}

abbrev pub part_of : Part → Kind → Presence → Operator → Option Scalar → FieldPart
part_of p k presence operator initial = record {
  number = 1;
  part = p;
  kind = k;
  presence = presence;
  operator = operator;
  initial = initial;
  key = record { slot = 1; scope = Global; name = codes "F"; part = p };
}

abbrev pub field : Kind → Presence → Operator → FieldPart
field k presence operator = part_of Whole k presence operator None

abbrev pub field_with : Kind → Presence → Operator → Scalar → FieldPart
field_with k presence operator initial = part_of Whole k presence operator (Some initial)

-- each field by the names of its template and of itself
abbrev pub quote_seq : FieldPart
quote_seq = field Kind.UInt32 Mandatory Increment

abbrev pub quote_sym : FieldPart
quote_sym = field Kind.Ascii Mandatory Copy

abbrev pub quote_qty : FieldPart
quote_qty = field Kind.UInt32 Optional Copy

abbrev pub opt_px_exponent : FieldPart
opt_px_exponent = part_of Exponent Kind.Int32 Optional Default (Some (I32 (pos 2)))

abbrev pub fixed_px_exponent : FieldPart
fixed_px_exponent = part_of Exponent Kind.Int32 Mandatory Constant (Some (I32 (negsuc 1)))

abbrev pub tail_s : FieldPart
tail_s = field Kind.Ascii Optional Tail

abbrev pub init_s : FieldPart
init_s = field_with Kind.Ascii Optional Tail (Ascii (codes "ab"))

abbrev pub delta_s : FieldPart
delta_s = field Kind.Ascii Mandatory Delta

abbrev pub uni_s : FieldPart
uni_s = field Kind.Unicode Mandatory Tail

abbrev pub const_k : FieldPart
const_k = field_with Kind.UInt32 Mandatory Constant (U32 7)

abbrev pub const_o : FieldPart
const_o = field_with Kind.UInt32 Optional Constant (U32 9)

abbrev pub const_d : FieldPart
const_d = field_with Kind.UInt32 Mandatory Default (U32 3)

-- an entry with a text, and with a number
abbrev pub text : List ℕ → Entry
text s = Assigned (Ascii s)

abbrev pub number : ℕ → Entry
number n = Assigned (U32 n)

-- A table: rows of what is computed, and what it is.
abbrev computed : {A : Type 0} → List (A × A) → List A
computed [] = []
computed (row ∷ rows) = row.0 ∷ computed rows

abbrev wanted : {A : Type 0} → List (A × A) → List A
wanted [] = []
wanted (row ∷ rows) = row.1 ∷ wanted rows

abbrev pub Hold : {A : Type 0} → List (A × A) → Type 0
Hold rows = computed rows ≡ wanted rows

-- Rows of what a field reads under this bit of these bytes: the value, the bytes behind it and the entry afterwards, or
-- the first fault.
abbrev Row : Type 0
Row = Result (Option Scalar × List ℕ × Entry) FieldFault × Result (Option Scalar × List ℕ × Entry) FieldFault

abbrev read : FieldPart → Entry → Bool → List ℕ → Result (Option Scalar × List ℕ × Entry) FieldFault
read i e bit bytes = field_at Usual i e bit bytes >>= λ x. Ok (x.0, x.1, next i e x.0)

abbrev pub reads : FieldPart → Entry → Bool → List ℕ → Option Scalar → Entry → ℕ → Row
reads i e bit bytes v after place = (read i e bit bytes, Ok (v, drop place bytes, after))

abbrev pub fails : FieldPart → Entry → Bool → List ℕ → FieldFault → Row
fails i e bit bytes f = (read i e bit bytes, Err f)
