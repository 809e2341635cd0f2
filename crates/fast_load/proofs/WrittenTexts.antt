-- The initial values of templates that a program has are texts.
use Rattle.fast_load.proofs.Common.{List, [], ◌∷◌, map, Option, Some, None, string_bytes, sym, subst, IfSome, IsUtf8, option_map, AllByRecursion, Global, IsUtf8-string_bytes, Instruction-F, Template, WrittenInstruction, written_step, written_of, written_list, listed, listed_one, written_template_of}
use Rattle.std.specs.declared.string.String.{String}
use Rattle.fast_written.specs.declared.written.Instruction.{Instruction, map-Instruction, fold-roll-Instruction, ind-Instruction}
use Rattle.fast_load.proofs.AllOf.{all_of_both}
use Rattle.fast_load.proofs.TypedLists.{HasTexts}

text_of : (o : Option (String Global)) → IfSome (option_map string_bytes o) IsUtf8
text_of None = tt
text_of (Some s) = IsUtf8-string_bytes s

abbrev Texts : Instruction → Type 0
Texts i = AllByRecursion HasTexts (listed_one (written_of i))

abbrev Proved : Type 0
Proved = (i : Instruction) × Texts i

lists : (is : List Proved) → AllByRecursion HasTexts (listed (written_list (map written_of (map (λ e. e.0) is))))
lists [] = tt
lists (i ∷ is) = all_of_both HasTexts (listed_one (written_of i.0)) (listed (written_list (map written_of (map (λ e. e.0) is)))) i.1 (lists is)

abbrev known : Instruction-F Proved → Instruction-F Instruction
known = map-Instruction Proved Instruction (λ e. e.0)

abbrev seen : Instruction-F Instruction → WrittenInstruction
seen z = written_step (map-Instruction Instruction WrittenInstruction written_of z)

level : (y : Instruction-F Proved) → AllByRecursion HasTexts (listed_one (seen (known y)))
level (Instruction-F.Field name kind presence operation) = ((text_of operation.initial, tt), tt)
level (Instruction-F.Parts name presence exponent mantissa) = ((text_of exponent.initial, (text_of mantissa.initial, tt)), tt)
level (Instruction-F.Group name presence dictionary type_ref members) = (tt, lists members.items)
level (Instruction-F.Sequence name presence dictionary type_ref length_name length members) = ((text_of length.initial, tt), lists members.items)
level (Instruction-F.Reference name) = (tt, tt)

texts : (i : Instruction) → Texts i
texts = ind-Instruction Texts (λ x y is. subst (λ w. AllByRecursion HasTexts (listed_one w)) (sym (fold-roll-Instruction WrittenInstruction written_step x)) (subst (λ z. AllByRecursion HasTexts (listed_one (seen z))) is (level y)))

proved : List Instruction → List Proved
proved = map (λ i. (i, texts i))

members_have_texts : (is : List Instruction) → AllByRecursion HasTexts (listed (written_list (map written_of is)))
members_have_texts [] = tt
members_have_texts (i ∷ is) = all_of_both HasTexts (listed_one (written_of i)) (listed (written_list (map written_of is))) (texts i) (members_have_texts is)

pub template_has_texts : (t : Template) → AllByRecursion HasTexts (listed (written_template_of t).members)
template_has_texts t = members_have_texts t.members.items
