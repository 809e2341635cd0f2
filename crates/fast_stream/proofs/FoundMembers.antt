-- What holds of the members of each template of a set holds of those found under an identifier.
use Rattle.fast_stream.proofs.Common.{◌≡◌, ℕ, Bool, true, false, List, [], ◌∷◌, Some, subst, find, option_map, if◌then◌else◌, AllByRecursion, Instructions, Resolved, has_id, members_of}

module _ (P : Instructions → Type 0) where
  found_has : (t : Resolved) (ts : List Resolved) → P t.members → (id : ℕ) (members : Instructions) (b : Bool) → (members_of ts id ≡ Some members → P members)
      → option_map (λ (r : Resolved). r.members) (if b then Some t else find (λ r. has_id id r.id) ts) ≡ Some members → P members
  found_has t ts own id members true later h = let same : t.members ≡ members = cc in subst P same own
  found_has t ts own id members false later h = later h

  pub members_have : (set : List Resolved) → AllByRecursion (λ t. P t.members) set → (id : ℕ) (members : Instructions) → members_of set id ≡ Some members → P members
  members_have [] all id members e = absurd cc
  members_have (t ∷ ts) all id members e = found_has t ts all.0 id members (has_id id t.id) (members_have ts all.1 id members) e
