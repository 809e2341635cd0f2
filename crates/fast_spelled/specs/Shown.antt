-- Lines as `show --json` writes them, read from the front (our own).
use Rattle.std.specs.Prelude.{◌≡◌, ℕ, ◌==◌, ◌+◌, ◌≤◌, nat_le, not, Bool, ◌&&◌, List, ◌++◌, Option, Some, ◌<◌, ◌^◌, ◌∷◌}
use Rattle.fast_template.specs.TemplateSets.{IsSound, TemplateList}
use Rattle.fast_stream.specs.Nodes.{Content, node_limit, nodes_in}
use Rattle.fast_packets.specs.Numbered.{packet_label}
use Rattle.fast_lines.specs.declared.form.Form.TheVariants.{Json}
use Rattle.fast_lines.specs.Lines.{line_in}
use Rattle.fast_spelled.specs.declared.shown.Left.{Left}
use Rattle.fast_spelled.specs.Within.{IsWithin}

-- a byte that stands in a string of a line as it is
abbrev pub is_plain_unit : ℕ → Bool
is_plain_unit c = nat_le 0x20 c && not (c == 0x7f) && not (c == 0x22) && not (c == 0x5c)

-- a text that is there stands in front of what is left of bytes
pub record Stands (text : Option (List ℕ)) (bytes left : List ℕ) : Type 0 where
  pub front : List ℕ
  pub there : text ≡ Some front
  pub is : bytes ≡ front ++ left

-- What is read has this text, which stands in front of what is left, and is so; so many nodes have been taken of those that
-- could still come.
pub record IsShown (text : Option (List ℕ)) (IsSo : Type 0) (nodes : ℕ) (old new : Left) : Type 0 where
  pub stands : Stands text old.bytes.now new.bytes.now
  pub so : IsSo
  pub count : old.nodes ≡ nodes + new.nodes

-- a line is the one that is shown of a message
pub record IsLineOf (set : TemplateList) (line : List ℕ) (m : Content) : Type 0 where
  pub sound : IsSound set
  pub within : IsWithin m
  pub shown : line_in Json set m ≡ Some line
  pub small : nodes_in m.items ≤ node_limit

-- a line is the one that is shown of a message in a packet
pub record IsNumberedLineOf (set : TemplateList) (line : List ℕ) (n : ℕ) (m : Content) : Type 0 where
  pub some : 0 < n
  pub few : n < 2 ^ 64
  pub rest : List ℕ
  pub is : line ≡ 123 ∷ (packet_label n ++ rest)
  pub own : IsLineOf set (123 ∷ rest) m
