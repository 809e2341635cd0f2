-- The JSON that `show --json` writes, as a value (our own).
use Rattle.std.specs.Prelude.{ℕ, List, [], ◌∷◌, ◌++◌, codes, decimal, Bool, Some, None}
use Rattle.std.specs.Fmt.{signed_decimal}
use Rattle.hex.specs.Hex.{encode_lower}
use Rattle.json.specs.Token.{Token, key, string as string_token}
use Rattle.json.specs.Json.{Json, null, number, string, array, object, Items as Listed, no_items as none_listed, item as listed, Members, no_members, member}
use Rattle.json.specs.Print.{token_text, ends, separator}
use Rattle.fast_value.specs.declared.scalar.Scalar.{Scalar}
use Rattle.fast_value.specs.declared.scalar.Scalar.TheVariants.{U32, I32, U64, I64, Decimal, Ascii, Unicode, Bytes}
use Rattle.fast_template.specs.Resolved.{Instruction, group_of, sequence_of, Instructions, then_instruction}
use Rattle.fast_stream.specs.Nodes.{Item, single, group_items, sequence_elements, Items, then_item, Elements, no_elements, then_element, Content}
use Rattle.fast_lines.specs.declared.form.Form.{Form}
use Rattle.fast_lines.specs.Lines.{decimal_text}
use Rattle.fast_lines.specs.Signs.{quoted}
use Rattle.fast_spelled.specs.Spelled.{name_in}

abbrev pub json_scalar : Scalar → Json
json_scalar (U32 n) = number (decimal n)
json_scalar (I32 z) = number (signed_decimal z)
json_scalar (U64 n) = number (decimal n)
json_scalar (I64 z) = number (signed_decimal z)
json_scalar (Decimal exponent mantissa) = number (decimal_text mantissa exponent)
json_scalar (Ascii s) = string s
json_scalar (Unicode s) = string s
json_scalar (Bytes s) = string (encode_lower s)

abbrev mutual
  pub json_item : Instruction → Item → Json
  json_item i (single None) = null
  json_item i (single (Some v)) = json_scalar v
  json_item (group_of name i presence members) (group_items ns) = object (json_members members ns)
  json_item (sequence_of name i presence length members) (sequence_elements es) = array (json_elements members es)
  json_item i n = null

  pub json_members : Instructions → Items → Members
  json_members (then_instruction i is) (then_item n ns) = member (name_in i) (json_item i n) (json_members is ns)
  json_members is ns = no_members

  pub json_elements : Instructions → Elements → Listed
  json_elements members no_elements = none_listed
  json_elements members (then_element ns es) = listed (object (json_members members ns)) (json_elements members es)

abbrev pub json_line : List ℕ → Instructions → Content → Json
json_line name members m =
    object (member (codes "template") (string name) (member (codes "id") (number (decimal m.template)) (member (codes "fields") (object (json_members members m.items)) no_members)))

-- ---- its text

-- the text of a token, with the escapes of a line
abbrev pub spelled : Token → List ℕ
spelled (key s) = quoted Form.Json s ++ codes ":"
spelled (string_token s) = quoted Form.Json s
spelled t = token_text t

-- tokens one behind the other, behind a value or not, with the commas that are due, and a line feed
unfoldable pub spelled_from : Bool → List Token → List ℕ
spelled_from after [] = codes "\n"
spelled_from after (t ∷ ts) = separator after t ++ (spelled t ++ spelled_from (ends t) ts)
