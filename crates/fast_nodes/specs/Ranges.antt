-- The values of a message, as their types have them.
use Rattle.std.specs.Prelude.{◌^◌, ◌<◌}
use Rattle.fast_field.specs.Within.{HasRangeOr}
use Rattle.fast_stream.specs.Nodes.{Item, single, group_items, sequence_elements, Items, no_items, then_item, Elements, no_elements, then_element, Content}

abbrev mutual
  pub HasRanges : Item → Type 0
  HasRanges (single v) = HasRangeOr v
  HasRanges (group_items ns) = HaveRanges ns
  HasRanges (sequence_elements es) = HaveRangesIn es

  pub HaveRanges : Items → Type 0
  HaveRanges no_items = Unit {0}
  HaveRanges (then_item n ns) = HasRanges n × HaveRanges ns

  pub HaveRangesIn : Elements → Type 0
  HaveRangesIn no_elements = Unit {0}
  HaveRangesIn (then_element ns es) = HaveRanges ns × HaveRangesIn es

-- What the types of the code say of a message: its identifier and its numbers are in range, units are bytes, and texts
-- are UTF-8.
pub record IsInRange (m : Content) : Type 0 where
  pub template : m.template < 2 ^ 32
  pub items : HaveRanges m.items
