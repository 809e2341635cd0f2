-- A piece has at least so many bytes: what is lacking behind those that have come, and behind some more that do not end it.
use Rattle.fast_machine.proofs.Common.{◌≡◌, ◌≤◌, ◌<◌, ◌+◌, ◌-◌, ◌++◌, ℕ, zero, suc, Bool, true, List, [], length, refl, sym, subst, arith, length-append, append_assoc, Dictionary, AreUnstopped, Lacks, StopsShort, reads_on, Lack, Traversal, both_unstopped, IsLong}

-- what is lacking is kept as an end
pub long_of : (end : ℕ) (t : Traversal) (d : Dictionary) (held : List ℕ) (l : Lack) → Lacks t d held l → end ≡ length held + l.most + 1 → IsLong end t d held l.until_stop l.number
long_of zero t d held l lacks is = tt
long_of (suc n) t d held l lacks is = (omega (arith, is), (lacks.0, λ o more lacking at. lacks.1 o more (record { few = omega (arith, is); unstopped = lacking.unstopped }) at))

-- and told again behind some bytes more
pub still_lacks : (end : ℕ) (t : Traversal) (d : Dictionary) (held chunk : List ℕ) (until_stop : Bool) (number : ℕ) → length (held ++ chunk) < end → (until_stop ≡ true → AreUnstopped chunk) → IsLong end t d held until_stop number
    → Lacks t d (held ++ chunk) (record { most = end - length (held ++ chunk) - 1; number = number; until_stop = until_stop })
still_lacks zero t d held chunk until_stop number short none long = absurd (omega (arith, short))
still_lacks (suc n) t d held chunk until_stop number short none long = (
  long.1.0,
  λ o more lacking at.
      let few = lacking.few in
      subst (λ (xs : List ℕ). StopsShort number (length xs) (reads_on t.level t.walk d o xs)) (sym (append_assoc held chunk more))
      (long.1.1 o (chunk ++ more) (record { few = omega (arith, length-append {A = ℕ}, few, short); unstopped = λ u. both_unstopped chunk more (none u) (lacking.unstopped u) }) at),
)

-- an end stays one behind some bytes more that do not reach it
pub long_behind : (end : ℕ) (t : Traversal) (d : Dictionary) (held chunk : List ℕ) (until_stop : Bool) (number : ℕ) → length (held ++ chunk) < end → (until_stop ≡ true → AreUnstopped chunk) → IsLong end t d held until_stop number → IsLong end t d (held ++ chunk) until_stop number
long_behind end t d held chunk until_stop number short none long =
    let most = end - length (held ++ chunk) - 1 in
    long_of end t d (held ++ chunk) (record { most = most; number = number; until_stop = until_stop }) (still_lacks end t d held chunk until_stop number short none long) (omega (arith, short))

-- what a piece lacks that begins with some bytes
pub opened_lacks : (t : Traversal) (d : Dictionary) (chunk : List ℕ) (l : Lack) → Lacks t d [] l → length chunk ≤ l.most → AreUnstopped chunk → Lacks t d chunk (record { most = l.most - length chunk; number = l.number; until_stop = true })
opened_lacks t d chunk l lacks few none = (
  lacks.0,
  λ o more lacking at.
      lacks.1 o (chunk ++ more) (record { few = omega (arith, few, length-append {A = ℕ}); unstopped = λ u. both_unstopped chunk more none (lacking.unstopped refl) }) at,
)
