-- The templates of the worked rows, as they are written.
use Rattle.fast_written.proofs.Common.{ℕ, List, [], ◌∷◌, Option, Some, None, codes, UInt32, Decimal, Ascii, Unicode, Bytes, Mandatory, Optional, Operator, Plain, Constant, Default, Copy, Increment, Delta, Tail, WrittenOperation, Surroundings, WrittenInstruction, written_field, written_parts, written_group, written_sequence, written_reference, written_list, WrittenTemplate}

-- an operator alone, with a value, and with a key
abbrev pub by : Operator → WrittenOperation
by o = record { operator = o; initial = None; dictionary = None; key = None }

abbrev pub by_value : Operator → List ℕ → WrittenOperation
by_value o text = record { operator = o; initial = Some text; dictionary = None; key = None }

abbrev pub by_key : Operator → List ℕ → WrittenOperation
by_key o key = record { operator = o; initial = None; dictionary = None; key = Some key }

abbrev pub nothing_around : Surroundings
nothing_around = record { dictionary = None; type_ref = None }

abbrev pub template : List ℕ → Option ℕ → List WrittenInstruction → WrittenTemplate
template name id members = record { name = name; id = id; around = nothing_around; members = written_list members }

abbrev pub quote : WrittenTemplate
quote = template (codes "Quote") (Some 1) (
    written_field (codes "Seq") UInt32 Mandatory (by Increment)
    ∷ written_field (codes "Sym") Ascii Mandatory (by Copy)
    ∷ written_field (codes "Px") Decimal Mandatory (by Delta)
    ∷ written_field (codes "Qty") UInt32 Optional (by Copy)
    ∷ [])

abbrev pub wrap : WrittenTemplate
wrap = template (codes "Wrap") (Some 2) (written_field (codes "A") UInt32 Mandatory (by Increment) ∷ written_field (codes "B") UInt32 Mandatory (by Delta) ∷ [])

abbrev pub opt : WrittenTemplate
opt = template (codes "Opt") (Some 3) (written_parts (codes "Px") Optional (by_value Default (codes "2")) (by Copy) ∷ written_field (codes "Flag") UInt32 Mandatory (by Copy) ∷ [])

abbrev pub legs : WrittenTemplate
legs = template (codes "Legs") (Some 4) (written_sequence (codes "L") Optional nothing_around None (by Plain) (written_list (written_field (codes "P") UInt32 Mandatory (by Plain) ∷ [])) ∷ [])

abbrev pub marks : WrittenTemplate
marks = template (codes "Marks") (Some 5) (written_sequence (codes "L") Mandatory nothing_around None (by Plain) (written_list (written_field (codes "Q") UInt32 Mandatory (by Copy) ∷ [])) ∷ [])

abbrev pub bare : WrittenTemplate
bare = template (codes "Bare") (Some 6) (written_sequence (codes "L") Mandatory nothing_around None (by Plain) (written_list []) ∷ [])

abbrev pub clash : WrittenTemplate
clash = template (codes "Clash") (Some 7) (written_field (codes "A") UInt32 Mandatory (by_key Copy (codes "K")) ∷ written_field (codes "B") Ascii Mandatory (by_key Copy (codes "K")) ∷ [])

abbrev pub tail : WrittenTemplate
tail = template (codes "Tail") (Some 8) (written_field (codes "S") Ascii Optional (by Tail) ∷ [])

abbrev pub init : WrittenTemplate
init = template (codes "Init") (Some 9) (written_field (codes "S") Ascii Optional (by_value Tail (codes "ab")) ∷ [])

abbrev pub delta : WrittenTemplate
delta = template (codes "Delta") (Some 10) (written_field (codes "S") Ascii Mandatory (by Delta) ∷ [])

abbrev pub common : WrittenTemplate
common = template (codes "Common") None (written_field (codes "B") UInt32 Mandatory (by Copy) ∷ [])

abbrev pub grp : WrittenTemplate
grp = template (codes "Grp") (Some 11) (
    written_group (codes "Hd") Optional nothing_around (written_list (written_field (codes "A") UInt32 Mandatory (by Copy) ∷ []))
    ∷ written_reference (codes "Common")
    ∷ [])

abbrev pub uni : WrittenTemplate
uni = template (codes "Uni") (Some 12) (written_field (codes "S") Unicode Mandatory (by Tail) ∷ [])

abbrev pub empty : WrittenTemplate
empty = template (codes "Empty") (Some 13) (written_field (codes "A") UInt32 Optional (by_key Copy (codes "K")) ∷ written_field (codes "B") UInt32 Mandatory (by_key Delta (codes "K")) ∷ [])

abbrev pub const : WrittenTemplate
const = template (codes "Const") (Some 14) (
    written_field (codes "K") UInt32 Mandatory (by_value Constant (codes "7"))
    ∷ written_field (codes "O") UInt32 Optional (by_value Constant (codes "9"))
    ∷ written_field (codes "D") UInt32 Mandatory (by_value Default (codes "3"))
    ∷ [])

abbrev pub fixed : WrittenTemplate
fixed = template (codes "Fixed") (Some 15) (written_parts (codes "Px") Mandatory (by_value Constant (codes "-2")) (by Delta) ∷ written_field (codes "Raw") Bytes Optional (by Copy) ∷ [])

abbrev pub first : WrittenTemplate
first = template (codes "First") (Some 16) (written_field (codes "A") UInt32 Mandatory (by Plain) ∷ written_field (codes "B") UInt32 Mandatory (by Copy) ∷ [])

-- in the order of their list
abbrev pub worked : List WrittenTemplate
worked = quote ∷ wrap ∷ opt ∷ legs ∷ marks ∷ bare ∷ clash ∷ tail ∷ init ∷ delta ∷ common ∷ grp ∷ uni ∷ empty ∷ const ∷ fixed ∷ first ∷ []
