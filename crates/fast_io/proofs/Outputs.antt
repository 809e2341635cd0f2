-- Lemmas on runs of writes.
use Rattle.std.proofs.Common.{ℕ, List, [], ◌++◌, Option, None, Some, ap, ◌∙◌, append_assoc, append-nil, sym, take, drop, take-append-drop}
use Rattle.std.specs.Io.KnownBytes.{Appends, Keeps}
use Rattle.fast_io.specs.Traffic.{Taken}

pub Appends-nil : (a : Option (List ℕ)) → Appends a a []
Appends-nil None = tt
Appends-nil (Some x) = sym (append-nil x)

pub Appends-trans : (a b c : Option (List ℕ)) (bs cs : List ℕ) → Appends a b bs → Appends b c cs → Appends a c (bs ++ cs)
Appends-trans None b c bs cs p q = tt
Appends-trans (Some x) None c bs cs p q = absurd p
Appends-trans (Some x) (Some y) None bs cs p q = absurd q
Appends-trans (Some x) (Some y) (Some z) bs cs p q = q ∙ ap (λ (l : List ℕ). l ++ cs) p ∙ append_assoc x bs cs

pub Appends-kept : (a b c : Option (List ℕ)) (bs : List ℕ) → Appends a b bs → Keeps b c → Appends a c bs
Appends-kept None b c bs p q = tt
Appends-kept (Some x) None c bs p q = absurd p
Appends-kept (Some x) (Some y) None bs p q = absurd q
Appends-kept (Some x) (Some y) (Some z) bs p q = q ∙ p

-- one push more, which took n bytes of the rest
pub takes_more : (a b c : Option (List ℕ)) (bytes rest : List ℕ) (n : ℕ) → Taken a b bytes rest → Appends b c (take n rest) → Taken a c bytes (drop n rest)
takes_more a b c bytes rest n t p = record {
  front = t.front ++ take n rest;
  parts = t.parts ∙ ap (λ (l : List ℕ). t.front ++ l) (sym (take-append-drop n rest)) ∙ sym (append_assoc t.front (take n rest) (drop n rest));
  appended = Appends-trans a b c t.front (take n rest) t.appended p;
}

pub takes_kept : (a b c : Option (List ℕ)) (bytes rest : List ℕ) → Taken a b bytes rest → Keeps b c → Taken a c bytes rest
takes_kept a b c bytes rest t k = record { front = t.front; parts = t.parts; appended = Appends-kept a b c t.front t.appended k }

-- a write of the whole was kept by a flush
pub kept_whole : (a b c : Option (List ℕ)) (bytes : List ℕ) → Appends a b bytes → Keeps b c → (rest : List ℕ) × Taken a c bytes rest
kept_whole a b c bytes w k = ([], record { front = bytes; parts = sym (append-nil bytes); appended = Appends-kept a b c bytes w k })
