-- Which packet a line of JSON is of, and which message it stands for in it (our own).
use Rattle.std.specs.Prelude.{◌≡◌, ℕ, ◌==◌, ◌⊎◌, if◌then◌else◌, true, List, [], ◌∷◌, codes, Option, Some, None, option_map, option_and_then, IsUtf8}
use Rattle.std.specs.List.{list_all}
use Rattle.json.specs.Json.{Json, number, object, document}
use Rattle.fast_value.specs.InitialValues.{value_of_text}
use Rattle.fast_value.specs.declared.kind.Kind.{Kind}
use Rattle.fast_value.specs.declared.kind.Part.{Part}
use Rattle.fast_value.specs.declared.scalar.Scalar.{Scalar}
use Rattle.fast_value.specs.declared.scalar.Scalar.TheVariants.{U64}
use Rattle.fast_template.specs.TemplateSets.{TemplateList}
use Rattle.fast_stream.specs.Nodes.{Content}
use Rattle.fast_spelled.specs.Members.{first_named, without_first}
use Rattle.fast_spelled.specs.Spelled.{is_blank, message_by}

-- packets are counted from 1
abbrev pub counted_from_one : Option Scalar → Option ℕ
counted_from_one (Some (U64 n)) = if n == 0 then None else Some n
counted_from_one v = None

-- the number of a packet is a number of digits alone
abbrev pub packet_by : Json → Option ℕ
packet_by (number text) = counted_from_one (value_of_text Part.Whole Kind.UInt64 text)
packet_by j = None

-- an object of `packet`, and besides of what stands for a message, in any order
abbrev pub numbered_by : TemplateList → Json → Option (ℕ × Content)
numbered_by set (object ms) =
    option_and_then (λ n. option_map (λ m. (n, m)) (message_by set (object (without_first (codes "packet") ms)))) (packet_by (first_named (codes "packet") ms))
numbered_by set j = None

-- a line, with its line feed or without, stands for a message in a packet with a number
pub record SpellsIn (set : TemplateList) (line : List ℕ) (n : ℕ) (m : Content) : Type 0 where
  pub utf8 : IsUtf8 line
  pub read : option_and_then (numbered_by set) (document line) ≡ Some (n, m)

-- lines stand for messages in packets
abbrev pub SpellIn : TemplateList → List (List ℕ) → List (ℕ × Content) → Type 0
SpellIn set [] ms = ms ≡ []
SpellIn set (line ∷ lines) ms =
    ((list_all is_blank line ≡ true) × SpellIn set lines ms)
    ⊎ ((n : ℕ) × (m : Content) × (rest : List (ℕ × Content)) × (ms ≡ (n, m) ∷ rest) × SpellsIn set line n m × SpellIn set lines rest)
