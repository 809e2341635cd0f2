-- Laws of readers, and how readers are put together.
use Rattle.fast_wire.proofs.Common.{◌≡◌, ℕ, Bool, true, false, List, [], ◌++◌, Result, Ok, Err, refl, sym, ap, subst, ◌∙◌, append_assoc, append-nil, cond, ◌>>=◌, IsBytes, IsReader, Both}

-- ---- laws of every reader

abbrev pub done : {A F : Type 0} → A → Result A F
done x = Ok x

pub ok_is : {A F : Type 0} (x y : A) → done {F = F} x ≡ done y → x ≡ y
ok_is x y e = cc

-- one form at most begins a list, with one value
pub one_form : {A F : Type 0} (wait : F) (r : List ℕ → Result (A × List ℕ) F) (Form : List ℕ → A → Type 0) → IsReader wait r Form
    → (b b' rest rest' : List ℕ) (x x' : A) → Form b x → Form b' x' → b ++ rest ≡ b' ++ rest' → (x ≡ x') × (rest ≡ rest')
one_form wait r Form is b b' rest rest' x x' h h' e =
    let both = ok_is (x, rest) (x', rest') (sym (is.again b x rest h) ∙ ap r e ∙ is.again b' x' rest' h') in
    (ap (λ p. p.0) both, ap (λ p. p.1) both)

-- where a fault is answered, no front of the list is a form
pub no_form : {A F : Type 0} (wait : F) (r : List ℕ → Result (A × List ℕ) F) (Form : List ℕ → A → Type 0) → IsReader wait r Form
    → (bytes b rest : List ℕ) (x : A) (f : F) → r bytes ≡ Err f → bytes ≡ b ++ rest → Form b x → ⊥
no_form wait r Form is bytes b rest x f e parts h =
    let read : r bytes ≡ Ok (x, rest) = ap r parts ∙ is.again b x rest h in
    cc

-- ---- how readers are put together

pub bind_ok : {A B F : Type 0} (r : Result A F) (k : A → Result B F) (y : B) → (r >>= k) ≡ Ok y → (x : A) × (r ≡ Ok x) × (k x ≡ Ok y)
bind_ok (Ok x) k y e = (x, refl, e)
bind_ok (Err d) k y e = absurd cc

-- the first failed, or the second did
pub data Failed {A B F : Type 0} (r : Result A F) (k : A → Result B F) (f : F) : Type 0 where
  at_first : r ≡ Err f → Failed r k f
  at_second : (x : A) → r ≡ Ok x → k x ≡ Err f → Failed r k f

pub bind_err : {A B F : Type 0} (r : Result A F) (k : A → Result B F) (f : F) → (r >>= k) ≡ Err f → Failed r k f
bind_err (Ok x) k f e = at_second x refl e
bind_err (Err d) k f e = at_first cc

pub reader_then : {A B F : Type 0} (wait : F) (r : List ℕ → Result (A × List ℕ) F) (k : A → List ℕ → Result (B × List ℕ) F) (First : List ℕ → A → Type 0) (Second : A → List ℕ → B → Type 0)
    → IsReader wait r First → ((x : A) → IsReader wait (k x) (Second x)) → IsReader wait (λ bytes. r bytes >>= λ x. k x.0 x.1) (Both First Second)
reader_then wait r k First Second one two = record {
  found = λ bytes y rest fits e.
      let a = bind_ok (r bytes) (λ x. k x.0 x.1) (y, rest) e in
      let t = one.found bytes a.0.0 a.0.1 fits a.1 in
      let u = (two a.0.0).found a.0.1 y rest t.rest_bytes a.2 in
      record { front = t.front ++ u.front; parts = t.parts ∙ ap (λ (z : List ℕ). t.front ++ z) u.parts ∙ sym (append_assoc t.front u.front rest); rest_bytes = u.rest_bytes; form = record { x = a.0.0; front = t.front; back = u.front; parts = refl; first = t.form; second = u.form } };
  again = λ b y rest h.
      let regrouped : b ++ rest ≡ h.front ++ (h.back ++ rest) = ap (λ (z : List ℕ). z ++ rest) h.parts ∙ append_assoc h.front h.back rest in
      rw (regrouped, one.again h.front h.x (h.back ++ rest) h.first) ((two h.x).again h.back y rest h.second);
  stays = λ bytes others f fits e other. elim (bind_err (r bytes) (λ x. k x.0 x.1) f e) [
    | at_first g ↦ rw (one.stays bytes others f fits g other) refl
    | at_second x g h ↦
        let t = one.found bytes x.0 x.1 fits g in
        let regrouped : bytes ++ others ≡ t.front ++ (x.1 ++ others) = ap (λ (z : List ℕ). z ++ others) t.parts ∙ append_assoc t.front x.1 others in
        rw (regrouped, one.again t.front x.0 (x.1 ++ others) t.form) ((two x.0).stays x.1 others f t.rest_bytes h other)
  ];
}

-- a value that takes no bytes
pub reader_of : {A F : Type 0} (wait : F) (m : Result A F) → IsReader wait (λ bytes. m >>= λ x. Ok (x, bytes)) (λ b x. (b ≡ []) × (m ≡ Ok x))
reader_of wait (Ok y) = record {
  found = λ bytes x rest fits e.
      let both = ok_is (y, bytes) (x, rest) e in
      let same : bytes ≡ rest = ap (λ p. p.1) both in
      record { front = []; parts = same; rest_bytes = subst (λ (z : List ℕ). IsBytes z) same fits; form = (refl, ap (λ p. Ok p.0) both) };
  again = λ b x rest h. rw (h.0, ok_is y x h.1) refl;
  stays = λ bytes others f fits e other. absurd cc;
}
reader_of wait (Err d) = record {
  found = λ bytes x rest fits e. absurd cc;
  again = λ b x rest h. let s = h.1 in absurd cc;
  stays = λ bytes others f fits e other. e;
}

-- the same form said otherwise
pub reader_as : {A F : Type 0} (wait : F) (r : List ℕ → Result (A × List ℕ) F) (Form Other : List ℕ → A → Type 0)
    → ((b : List ℕ) (x : A) → Form b x → Other b x) → ((b : List ℕ) (x : A) → Other b x → Form b x) → IsReader wait r Form → IsReader wait r Other
reader_as wait r Form Other to from is = record {
  found = λ bytes x rest fits e. let t = is.found bytes x rest fits e in record { front = t.front; parts = t.parts; rest_bytes = t.rest_bytes; form = to t.front x t.form };
  again = λ b x rest h. is.again b x rest (from b x h);
  stays = is.stays;
}

-- a value that is made of a form's value, or refused
pub reader_checked : {A B F : Type 0} (wait : F) (r : List ℕ → Result (A × List ℕ) F) (m : A → Result B F) (Form : List ℕ → A → Type 0) → IsReader wait r Form
    → IsReader wait (λ bytes. r bytes >>= λ x. (m x.0 >>= λ y. Ok (y, x.1))) (λ b y. (x : A) × Form b x × (m x ≡ Ok y))
reader_checked {A = A} {B = B} {F = F} wait r m Form is =
    reader_as wait (λ bytes. r bytes >>= λ x. (m x.0 >>= λ y. Ok (y, x.1))) (Both Form (λ x b y. (b ≡ []) × (m x ≡ Ok y))) (λ b y. (x : A) × Form b x × (m x ≡ Ok y))
    (λ b y h.
    let whole : b ≡ h.front = h.parts ∙ ap (λ (z : List ℕ). h.front ++ z) h.second.0 ∙ append-nil h.front in
    (h.x, subst (λ (z : List ℕ). Form z h.x) (sym whole) h.first, h.second.1))
    (λ b y h. record { x = h.0; front = b; back = []; parts = sym (append-nil b); first = h.1; second = (refl, h.2) })
    (reader_then wait r (λ x rest. m x >>= λ y. Ok (y, rest)) Form (λ x b y. (b ≡ []) × (m x ≡ Ok y)) is (λ x. reader_of wait (m x)))

-- a value that is made of a form's value
pub reader_map : {A B F : Type 0} (wait : F) (r : List ℕ → Result (A × List ℕ) F) (g : A → B) (Form : List ℕ → A → Type 0) → IsReader wait r Form
    → IsReader wait (λ bytes. r bytes >>= λ x. Ok (g x.0, x.1)) (λ b y. (x : A) × Form b x × (g x ≡ y))
reader_map {A = A} {B = B} {F = F} wait r g Form is =
    reader_as wait (λ bytes. r bytes >>= λ x. Ok (g x.0, x.1)) (λ b y. (x : A) × Form b x × (done {F = F} (g x) ≡ Ok y)) (λ b y. (x : A) × Form b x × (g x ≡ y))
    (λ b y h. (h.0, h.1, ok_is (g h.0) y h.2))
    (λ b y h. (h.0, h.1, ap (λ (z : B). done {F = F} z) h.2))
    (reader_checked wait r (λ x. done {F = F} (g x)) Form is)

-- a step that looks at no bytes, before a reader
pub reader_after : {A B F : Type 0} (wait : F) (m : Result A F) (k : A → List ℕ → Result (B × List ℕ) F) (Form : A → List ℕ → B → Type 0)
    → ((x : A) → IsReader wait (k x) (Form x)) → IsReader wait (λ bytes. m >>= λ x. k x bytes) (λ b y. (x : A) × (m ≡ Ok x) × Form x b y)
reader_after wait (Ok x) k Form is = record {
  found = λ bytes y rest fits e. let t = (is x).found bytes y rest fits e in record { front = t.front; parts = t.parts; rest_bytes = t.rest_bytes; form = (x, refl, t.form) };
  again = λ b y rest h. let same : x ≡ h.0 = ok_is x h.0 h.1 in rw same ((is h.0).again b y rest h.2);
  stays = λ bytes others f fits e other. (is x).stays bytes others f fits e other;
}
reader_after wait (Err d) k Form is = record {
  found = λ bytes y rest fits e. absurd cc;
  again = λ b y rest h. let e = h.1 in absurd cc;
  stays = λ bytes others f fits e other. e;
}

-- a test before a reader
pub reader_if : {B F : Type 0} (wait : F) (t : Bool) (d : F) (k : List ℕ → Result (B × List ℕ) F) (Form : List ℕ → B → Type 0) → IsReader wait k Form
    → IsReader wait (λ bytes. cond t (k bytes) (Err d)) (λ b y. (t ≡ true) × Form b y)
reader_if wait true d k Form is = record {
  found = λ bytes y rest fits e. let t = is.found bytes y rest fits e in record { front = t.front; parts = t.parts; rest_bytes = t.rest_bytes; form = (refl, t.form) };
  again = λ b y rest h. is.again b y rest h.1;
  stays = λ bytes others f fits e other. is.stays bytes others f fits e other;
}
reader_if wait false d k Form is = record {
  found = λ bytes y rest fits e. absurd cc;
  again = λ b y rest h. let e = h.0 in absurd cc;
  stays = λ bytes others f fits e other. e;
}
