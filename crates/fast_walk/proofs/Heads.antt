-- How reading goes on from a message's map and identifier to its body.
use Rattle.fast_walk.proofs.Common.{◌≡◌, ℕ, Bool, true, List, [], ◌++◌, length, Some, Ok, Err, refl, sym, ap, ◌∙◌, U32, Instructions, Resolved, part_needs_bit, Dictionary, ◌>>=◌, IsLeftClear, some_set, Level, Strict, R8, Items, node_limit, bit_for, after_bit, members_of, identifier, Stop, Cursor, Reads, field_part_at, own_map_at, body_at, named_at, head_at, closing, message_at, in_template, Reading, body_on, cursor, ended_on, message_of, named_on, Took, identifier_on}
use Rattle.fast_walk.proofs.Steps.{part_goes, closed_on, from_none, end_passes, clear_goes, set_stops}

abbrev pub own_bit : List Bool → Bool
own_bit bits = bit_for (part_needs_bit identifier) bits

module _ (level : Level) where
  pub at_map : (set : List Resolved) (d : Dictionary) (bytes : List ℕ)
      → message_at level set d bytes ≡ named_on level (in_template 0 (own_map_at level 0 true (cursor d [] node_limit bytes) >>= λ c. field_part_at level identifier c >>= named_at set c.bytes))
  unfolding message_at head_at
  at_map set d bytes = refl

  abbrev content_of : ℕ → Reads Items → Reading
  content_of id r = in_template id r >>= λ x. Ok (record { template = id; items = x.0 }, x.1.dictionary, x.1.bytes)

  begins : (id : ℕ) (members : Instructions) (c : Cursor)
      → content_of id (closing level 0 (λ j. body_at level members j) c) ≡ message_of level id (body_on level (record { rest = members; done = [] }) c)
  begins id members c =
      ap (content_of id) (closed_on level 0 (λ j. body_at level members j) c)
      ∙ ap (λ (r : Reads Items). content_of id (ended_on level 0 r)) (sym (from_none (body_at level members c)))

  pub identifier_goes : (set : List Resolved) (d e : Dictionary) (bits : List Bool) (bytes rest more : List ℕ) (id : ℕ) (members : Instructions)
      → Took level identifier (own_bit bits) d e (Some (U32 id)) bytes rest → members_of set id ≡ Some members
      → identifier_on level set d bits (bytes ++ more) ≡ message_of level id (body_on level (record { rest = members; done = [] }) (cursor e (after_bit (part_needs_bit identifier) bits) node_limit (rest ++ more)))
  identifier_goes set d e bits bytes rest more id members took named =
      rw (part_goes level identifier d bits node_limit (bytes ++ more) (rest ++ more) (Some (U32 id)) (took.value more), named, took.entry) (begins id members _)

  -- the end of a message
  pub content_goes : (id : ℕ) (ns : Items) (c : Cursor) → IsLeftClear level c.bits → message_of level id (Ok (ns, c)) ≡ Ok (record { template = id; items = ns }, c.dictionary, c.bytes)
  content_goes id ns c clear = ap (content_of id) (clear_goes level 0 ns c clear)

  pub content_fails : (id : ℕ) (s : Stop) → message_of level id (Err s) ≡ Err (record { template = id; stop = s })
  content_fails id s = ap (content_of id) (end_passes level 0 s)

  pub content_stops : (id : ℕ) (ns : Items) (c : Cursor) → level ≡ Strict → some_set c.bits ≡ true
      → message_of level id (Ok (ns, c)) ≡ Err (record { template = id; stop = record { cause = R8; instruction = 0; left = length c.bytes } })
  content_stops id ns c strict left = ap (content_of id) (set_stops level 0 ns c strict left)
