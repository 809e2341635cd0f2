-- Recordings, packet by packet.
use Rattle.std.proofs.Common.{List, ℕ, [], ◌∷◌, ◌++◌, ◌≡◌, refl, sym, ap, ap₂, subst, ◌∙◌}
use Rattle.std.proofs.lemmas.List.{append_assoc}
use Rattle.fast_wire.specs.declared.level.Level.{Level}
use Rattle.fast_template.specs.Resolved.{Resolved}
use Rattle.fast_stream.specs.Nodes.{Content}
use Rattle.fast_stream.specs.Modes.{Carries, plainly}
use Rattle.fast_packets.specs.Recordings.{CarriesPackets}
use Rattle.fast_packets.proofs.Parts.{parts_once, some_bytes}

module _ (level : Level) (set : List Resolved) where
  pub join : (ps qs : List (List Content)) (a b : List ℕ) → CarriesPackets level set a ps → CarriesPackets level set b qs → CarriesPackets level set (a ++ b) (ps ++ qs)
  join [] qs a b h k = subst (λ (z : List ℕ). CarriesPackets level set (z ++ b) qs) (sym h) k
  join (p ∷ ps) qs a b h k = record {
    between = h.between;
    front = h.front;
    back = h.back ++ b;
    parts = ap (λ (z : List ℕ). z ++ b) h.parts ∙ append_assoc h.front h.back b;
    first = h.first;
    second = join ps qs h.back b h.second k;
  }

  module _ (one : (stream : List ℕ) (ms ns : List Content) → Carries (plainly level) set stream ms → Carries (plainly level) set stream ns → ms ≡ ns) where
    pub one_list_of_packets : (ps qs : List (List Content)) (a : List ℕ) → CarriesPackets level set a ps → CarriesPackets level set a qs → ps ≡ qs
    one_list_of_packets [] [] a h k = refl
    one_list_of_packets [] (q ∷ qs) a h k = absurd (some_bytes level k.front k.between k.back k.first.0 (sym k.parts ∙ h))
    one_list_of_packets (p ∷ ps) [] a h k = absurd (some_bytes level h.front h.between h.back h.first.0 (sym h.parts ∙ k))
    one_list_of_packets (p ∷ ps) (q ∷ qs) a h k =
        let same = parts_once level h.front h.back h.between k.front k.back k.between h.first.0 k.first.0 (sym h.parts ∙ k.parts) in
        ap₂ (λ (m : List Content) (ms : List (List Content)). m ∷ ms)
        (one k.between p q (subst (λ (s : List ℕ). Carries (plainly level) set s p) same.0 h.first.1) k.first.1)
        (one_list_of_packets ps qs k.back (subst (λ (y : List ℕ). CarriesPackets level set y ps) same.1 h.second) k.second)
