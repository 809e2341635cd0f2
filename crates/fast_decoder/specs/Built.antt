-- What a builder of nodes has of the message that is open.
use Rattle.std.specs.Prelude.{◌≡◌, List, [], map}
use Rattle.std.specs.Global.{Vec}
use Rattle.fast_stream.specs.declared.message.Message.{Message}
use Rattle.fast_stream.specs.declared.message.Node.{Node}
use Rattle.fast_decoder.specs.declared.builder.Outer.{Outer}
use Rattle.fast_decoder.specs.declared.builder.Builder.{Builder}
use Rattle.fast_stream.specs.Nodes.{Item, Items, items_of, item_of, content_of}
use Rattle.fast_walk.specs.OpenSegments.{Inside, in_group, in_sequence, Waiting, Next, at_instruction, at_mantissa, at_element}
use Rattle.fast_walk.specs.Received.{Received}

-- the elements of a sequence that are built
abbrev pub elements_built : List (Vec Node) → List Items
elements_built es = map (λ v. items_of (map item_of v.items)) es

-- what is read of a body that waits, and of the sequence inside which it waits
abbrev pub inside_done : Inside → List Items
inside_done in_group = []
inside_done (in_sequence s) = s.done

abbrev pub waiting_done : Waiting → List Item × List Items
waiting_done w = (w.body.done, inside_done w.inside)

abbrev pub outer_done : Outer → List Item × List Items
outer_done o = (map item_of o.nodes.items, elements_built o.elements.items)

-- the exponent of the mantissa that is next, or the elements before the one that is next
abbrev pub IsNextBuilt : Builder → Next → Type 0
IsNextBuilt b at_instruction = Unit {0}
IsNextBuilt b (at_mantissa e mantissa) = e ≡ b.exponent
IsNextBuilt b (at_element s) = s.done ≡ elements_built b.elements.items

pub record IsBuilt (b : Builder) (o : Received) : Type 0 where
  pub before : o.before ≡ map content_of b.whole.items
  pub template : o.template ≡ b.template
  pub next : IsNextBuilt b o.next
  pub done : o.body.done ≡ map item_of b.nodes.items
  pub around : map waiting_done o.around ≡ map outer_done b.outer.items

-- with other messages in place of those that are finished
abbrev pub with_whole : Builder → Vec Message → Builder
with_whole b messages = record { template = b.template; nodes = b.nodes; exponent = b.exponent; elements = b.elements; outer = b.outer; whole = messages; usual = b.usual; aside = b.aside }
