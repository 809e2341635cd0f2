-- Rows that hold the definitions in place: worked messages as nodes.
use Rattle.std.proofs.Common.{◌≡◌, ◌++◌, ℕ, pos, negsuc, [], ◌∷◌, Some, refl, codes, length, arith, ap, ◌∙◌}
use Rattle.std.proofs.lemmas.List.{length-append}
use Rattle.fast_value.specs.declared.scalar.Scalar.TheVariants.{I32, I64, U64}
use Rattle.fast_stream.specs.Nodes.{single}
use Rattle.fast_stream.proofs.Rows.{absent, group, message, quote, sequence, u32, unicode, vector}
use Rattle.fast_tape.specs.declared.node.TapeNode.{TapeNode}
use Rattle.fast_tape.specs.Tapes.{IsTape, LiesAt, long_node, signed_node}

-- a header that says how many nodes are its own, and a text of this length at this place
abbrev header : ℕ → ℕ → ℕ → TapeNode
header kind instruction own = long_node kind instruction 0 own

lies_first : LiesAt (codes "AB") 0 (codes "AB")
lies_first = record { before = []; behind = []; whole = refl; at = refl }

-- a sequence number, a text, a decimal in parts, and a field that is left out
quote_tape : IsTape (codes "AB") (quote 1 100 ∷ [])
    (header 0 1 4 ∷ long_node 2 1 1 0 ∷ long_node 7 2 0 2 ∷ signed_node 6 3 (pos 100) (negsuc 1) ∷ long_node 1 4 0 0 ∷ [])
quote_tape = (refl, (refl, ((refl, lies_first), (refl, (refl, tt)))))

-- two messages may share a text
shared_tape : IsTape (codes "AB") (quote 1 100 ∷ quote 2 101 ∷ [])
    (header 0 1 4 ∷ long_node 2 1 1 0 ∷ long_node 7 2 0 2 ∷ signed_node 6 3 (pos 100) (negsuc 1) ∷ long_node 1 4 0 0
    ∷ header 0 1 4 ∷ long_node 2 1 2 0 ∷ long_node 7 2 0 2 ∷ signed_node 6 3 (pos 101) (negsuc 1) ∷ long_node 1 4 0 0 ∷ [])
shared_tape = (refl, (refl, ((refl, lies_first), (refl, (refl, (refl, (refl, ((refl, lies_first), (refl, (refl, tt))))))))))

-- a group, a sequence of two elements, the first of them empty, and one of none
nested_tape : IsTape [] (message 7 (group (u32 5 ∷ absent ∷ []) ∷ sequence ([] ∷ (u32 6 ∷ []) ∷ []) ∷ sequence [] ∷ []) ∷ [])
    (header 0 7 8 ∷ header 10 1 2 ∷ long_node 2 2 5 0 ∷ header 1 3 0 ∷ long_node 11 4 2 3 ∷ header 12 4 0 ∷ header 12 4 1 ∷ long_node 2 5 6 0 ∷ header 11 6 0 ∷ [])
nested_tape = (refl, (refl, (refl, (refl, (refl, (refl, (refl, (refl, (refl, tt)))))))))

-- integers of 64 bits and with a sign, a text in UTF-8 and a byte vector, whose bytes overlap
wide_tape : IsTape (codes "xyz") (message 2 (single (Some (U64 18446744073709551615)) ∷ single (Some (I32 (negsuc 0))) ∷ single (Some (I64 (negsuc 6))) ∷ unicode (codes "xy") ∷ vector (codes "yz") ∷ []) ∷ [])
    (header 0 2 5 ∷ long_node 3 1 18446744073709551615 0 ∷ signed_node 4 2 (negsuc 0) (pos 0) ∷ signed_node 5 3 (negsuc 6) (pos 0) ∷ long_node 8 4 0 2 ∷ long_node 9 5 1 2 ∷ [])
wide_tape = (refl, (refl, (refl, (refl, ((refl, record { before = []; behind = codes "z"; whole = refl; at = refl }), ((refl, record { before = codes "x"; behind = []; whole = refl; at = refl }), tt))))))

-- not with the length of the sequence one short
one_short : IsTape [] (message 7 (sequence ((u32 6 ∷ []) ∷ []) ∷ []) ∷ []) (header 0 7 3 ∷ long_node 11 1 1 1 ∷ header 12 1 1 ∷ long_node 2 2 6 0 ∷ []) → ⊥
one_short h = absurd (let e : 1 ≡ 2 = ap (λ (n : TapeNode). n.length) h.1.0 in omega arith)

-- not with a text that passes the end of the bytes
past_the_end : LiesAt (codes "AB") 1 (codes "BC") → ⊥
past_the_end l = absurd (let e = ap length l.whole ∙ length-append l.before (codes "BC" ++ l.behind) in let f = length-append (codes "BC") l.behind in let g = l.at in omega arith)
