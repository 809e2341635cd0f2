-- Labels in lines that stand one behind the other.
use Rattle.std.proofs.Common.{◌≡◌, ℕ, ◌==◌, Bool, true, false, List, [], ◌∷◌, ◌++◌, ap, sym, refl, ◌∙◌, append_assoc}
use Rattle.fast_packets.specs.Numbered.{labelled, numbered, packet_label}

-- whether a line begins behind bytes
abbrev pub begins_behind : Bool → List ℕ → Bool
begins_behind begins [] = begins
begins_behind begins (b ∷ bytes) = begins_behind (b == 10) bytes

pub labelled-append : (label : List ℕ) (begins : Bool) (s t : List ℕ) → labelled label begins (s ++ t) ≡ labelled label begins s ++ labelled label (begins_behind begins s) t
labelled-append label begins [] t = refl
labelled-append label true (b ∷ s) t =
    ap (λ (xs : List ℕ). b ∷ (label ++ xs)) (labelled-append label (b == 10) s t)
    ∙ ap (λ (xs : List ℕ). b ∷ xs) (sym (append_assoc label (labelled label (b == 10) s) (labelled label (begins_behind (b == 10) s) t)))
labelled-append label false (b ∷ s) t = ap (λ (xs : List ℕ). b ∷ xs) (labelled-append label (b == 10) s t)

line_feed_ends : (begins : Bool) (body : List ℕ) → begins_behind begins (body ++ 10 ∷ []) ≡ true
line_feed_ends begins [] = refl
line_feed_ends begins (b ∷ body) = line_feed_ends (b == 10) body

-- a line that is whole, in front of others
pub numbered-line : (n : ℕ) (body rest : List ℕ) → numbered n ((body ++ 10 ∷ []) ++ rest) ≡ numbered n (body ++ 10 ∷ []) ++ numbered n rest
numbered-line n body rest =
    labelled-append (packet_label n) true (body ++ 10 ∷ []) rest ∙ ap (λ (b : Bool). numbered n (body ++ 10 ∷ []) ++ labelled (packet_label n) b rest) (line_feed_ends true body)
