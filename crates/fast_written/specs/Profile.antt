-- What the objects of a template text may hold: a table with a row for each kind of object.
-- Own: FAST 1.1, Appendix 3, Template Definition Schemas, has the same in XML.
use Rattle.std.specs.Prelude.{ℕ, ◌^◌, ◌&&◌, ◌||◌, nat_eq, nat_lt, not, Bool, true, false, List, [], ◌∷◌, codes, is_some}
use Rattle.std.specs.List.{list_all, list_any}
use Rattle.std.specs.Cmp.Lexicographic.{pointwise}
use Rattle.serde_json.specs.Data.{Data, number, string, array, object, Members, no_members, member, unsigned}
use Rattle.serde_json.specs.Find.{get}
use Rattle.fast_written.specs.declared.profile.Word.{Word}
use Rattle.fast_written.specs.declared.profile.Shape.{Shape}
use Rattle.fast_written.specs.declared.profile.Need.{Need}
use Rattle.fast_written.specs.declared.profile.Need.TheVariants.{Needed, Allowed}
use Rattle.fast_written.specs.declared.profile.Row.{Row}

abbrev pub word_text : Word → List ℕ
word_text Word.Templates = codes "templates"
word_text Word.Dictionary = codes "dictionary"
word_text Word.Name = codes "name"
word_text Word.Id = codes "id"
word_text Word.TypeRef = codes "typeRef"
word_text Word.Instructions = codes "instructions"
word_text Word.Kind = codes "kind"
word_text Word.Presence = codes "presence"
word_text Word.Charset = codes "charset"
word_text Word.Operator = codes "operator"
word_text Word.Value = codes "value"
word_text Word.Key = codes "key"
word_text Word.Exponent = codes "exponent"
word_text Word.Mantissa = codes "mantissa"
word_text Word.Length = codes "length"

-- the keys of a kind of object, the type of what stands under each, and whether it has to be there
abbrev pub row_of : Row → List (Word × Shape × Need)
row_of Row.Top = (Word.Templates, Shape.Array, Needed) ∷ (Word.Dictionary, Shape.Text, Allowed) ∷ []
row_of Row.Template = (Word.Name, Shape.Text, Needed) ∷ (Word.Instructions, Shape.Array, Needed) ∷ (Word.Id, Shape.Whole, Allowed) ∷ (Word.Dictionary, Shape.Text, Allowed) ∷ (Word.TypeRef, Shape.Text, Allowed) ∷ []
row_of Row.Field = (Word.Kind, Shape.Text, Needed) ∷ (Word.Name, Shape.Text, Needed) ∷ (Word.Presence, Shape.Text, Allowed) ∷ (Word.Operator, Shape.Text, Allowed) ∷ (Word.Value, Shape.Text, Allowed) ∷ (Word.Dictionary, Shape.Text, Allowed) ∷ (Word.Key, Shape.Text, Allowed) ∷ []
row_of Row.Text = (Word.Kind, Shape.Text, Needed) ∷ (Word.Name, Shape.Text, Needed) ∷ (Word.Presence, Shape.Text, Allowed) ∷ (Word.Charset, Shape.Text, Allowed) ∷ (Word.Operator, Shape.Text, Allowed) ∷ (Word.Value, Shape.Text, Allowed) ∷ (Word.Dictionary, Shape.Text, Allowed) ∷ (Word.Key, Shape.Text, Allowed) ∷ []
row_of Row.Decimal = (Word.Kind, Shape.Text, Needed) ∷ (Word.Name, Shape.Text, Needed) ∷ (Word.Presence, Shape.Text, Allowed) ∷ (Word.Operator, Shape.Text, Allowed) ∷ (Word.Value, Shape.Text, Allowed) ∷ (Word.Dictionary, Shape.Text, Allowed) ∷ (Word.Key, Shape.Text, Allowed) ∷ (Word.Exponent, Shape.Object, Allowed) ∷ (Word.Mantissa, Shape.Object, Allowed) ∷ []
row_of Row.Group = (Word.Kind, Shape.Text, Needed) ∷ (Word.Name, Shape.Text, Needed) ∷ (Word.Instructions, Shape.Array, Needed) ∷ (Word.Presence, Shape.Text, Allowed) ∷ (Word.Dictionary, Shape.Text, Allowed) ∷ (Word.TypeRef, Shape.Text, Allowed) ∷ []
row_of Row.Sequence = (Word.Kind, Shape.Text, Needed) ∷ (Word.Name, Shape.Text, Needed) ∷ (Word.Instructions, Shape.Array, Needed) ∷ (Word.Presence, Shape.Text, Allowed) ∷ (Word.Dictionary, Shape.Text, Allowed) ∷ (Word.TypeRef, Shape.Text, Allowed) ∷ (Word.Length, Shape.Object, Allowed) ∷ []
row_of Row.Reference = (Word.Kind, Shape.Text, Needed) ∷ (Word.Name, Shape.Text, Needed) ∷ []
row_of Row.Part = (Word.Operator, Shape.Text, Allowed) ∷ (Word.Value, Shape.Text, Allowed) ∷ (Word.Dictionary, Shape.Text, Allowed) ∷ (Word.Key, Shape.Text, Allowed) ∷ []
row_of Row.Length = (Word.Name, Shape.Text, Allowed) ∷ (Word.Operator, Shape.Text, Allowed) ∷ (Word.Value, Shape.Text, Allowed) ∷ (Word.Dictionary, Shape.Text, Allowed) ∷ (Word.Key, Shape.Text, Allowed) ∷ []

-- a whole number of 32 bits in digits alone; any text, array or object
abbrev pub is_of : Shape → Data → Bool
is_of Shape.Text (string s) = true
is_of Shape.Whole (number (unsigned n)) = nat_lt n (2 ^ 32)
is_of Shape.Array (array ds) = true
is_of Shape.Object (object ms) = true
is_of s d = false

abbrev pub is_needed : Need → Bool
is_needed Needed = true
is_needed Allowed = false

abbrev pub allows : Row → List ℕ → Data → Bool
allows r key d = list_any (λ (rule : Word × Shape × Need). pointwise nat_eq (word_text rule.0) key && is_of rule.1 d) (row_of r)

abbrev pub all_allowed : Row → Members → Bool
all_allowed r no_members = true
all_allowed r (member key d ms) = allows r key d && all_allowed r ms

abbrev pub has_needed : Row → Data → Bool
has_needed r d = list_all (λ (rule : Word × Shape × Need). not (is_needed rule.2) || is_some (get (word_text rule.0) d)) (row_of r)

-- an object with the keys of its row
abbrev pub fits : Row → Data → Bool
fits r (object ms) = all_allowed r ms && has_needed r (object ms)
fits r d = false
