use Rattle.fast_wire.proofs.Common.{◌∙◌, sym, inl, inr, false≢true, bits_behind}
use Rattle.fast_wire.proofs.WordBits.{set_back, set_either}
use Rattle.fast_wire.proofs.presence_map.Bits.left_set.Goals as goal

pub returns-else-left_set : goal.returns-else-left_set
returns-else-left_set c =
    let short = c.self.inside.short in let long = bits_behind c.self.inside.long in (
      λ t. rw (← c.self.view_is) (set_back short long (c.behind_set.ensures.0 t)),
      λ h. elim (set_either short long (rw c.self.view_is h)) [
        | inl s ↦ absurd (false≢true (sym c.if-left_set.false ∙ c.left_set.ensures.1 s))
        | inr l ↦ c.behind_set.ensures.1 l
      ],
    )
