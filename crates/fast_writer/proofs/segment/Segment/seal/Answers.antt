use Rattle.fast_writer.proofs.Common.{◌≡◌, zero, suc, Bool, true, false, List, [], ◌∷◌, rules, drop, inl, inr, refl, sym, ◌∙◌, WireFault, HasSetBit, has_set}
use Rattle.fast_writer.proofs.SetBits.{set_at}
use Rattle.fast_writer.proofs.segment.Segment.seal.Goals.{then-self+in-Ok, else-self}
use Rattle.fast_writer.proofs.segment.Segment.seal.Goals as goal

none_set_of : (bits : List Bool) → (HasSetBit bits → ⊥) → has_set bits ≡ false
none_set_of [] h = refl
none_set_of (true ∷ bits) h = absurd (h (zero, refl))
none_set_of (false ∷ bits) h = none_set_of bits (λ s. h (suc s.0, s.1))

pub returns-in-Err-TooLong-clause-refused : goal.returns-in-Err-TooLong-clause-refused
returns-in-Err-TooLong-clause-refused c = elim c.in-Err-TooLong.ensures.err [
  | inl many ↦ inr (refl, rw (c.if-self.true, set_at (drop 1792 c.args.self.now.bits) many.1.0 many.1.1) refl)
  | inr memory ↦ absurd (let both = sym c.in-Err-TooLong.field-0-is ∙ memory.0 in cc)
]

pub returns-in-Ok-extend_from_slice-clause-room : goal.returns-in-Ok-extend_from_slice-clause-room
returns-in-Ok-extend_from_slice-clause-room c = elim c.if-self.branch [
  | then-self+in-Ok w ↦ rw (none_set_of (drop 1792 c.args.self.now.bits) (λ many. absurd (let both = sym w.in-Ok.is ∙ w.write.ensures.refused WireFault.TooLong (refl, many) in cc))) (search rules)
  | else-self w ↦ rw (w.if-self.false) refl
]
