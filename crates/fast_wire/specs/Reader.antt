-- What ties a form to the function that reads it from the front of a list.
use Rattle.std.specs.Prelude.{◌≡◌, ℕ, ◌<◌, List, ◌++◌, Result, Ok, Err}
use Rattle.std.specs.List.{AllByRecursion}

-- each number is a byte
abbrev pub IsBytes : List ℕ → Type 0
IsBytes bytes = AllByRecursion (λ b. b < 256) bytes

-- a form of x stands at the front of the bytes, and the rest follows
pub record Takes {A : Type 0} (Form : List ℕ → A → Type 0)
    (bytes : List ℕ) (x : A) (rest : List ℕ) : Type 0 where
  pub front : List ℕ
  pub parts : bytes ≡ front ++ rest
  pub rest_bytes : IsBytes rest
  pub form : Form front x

-- the function reads the form, and no more; wait is the fault that more bytes may heal
pub record IsReader {A F : Type 0} (wait : F) (read : List ℕ → Result (A × List ℕ) F)
    (Form : List ℕ → A → Type 0) : Type 0 where
  -- what is read is a form
  pub found : (bytes : List ℕ) (x : A) (rest : List ℕ) → IsBytes bytes → read bytes ≡ Ok (x, rest)
      → Takes Form bytes x rest
  -- each form is read, whatever follows
  pub again : (form : List ℕ) (x : A) (rest : List ℕ) → Form form x
      → read (form ++ rest) ≡ Ok (x, rest)
  -- another fault stays, whatever follows
  pub stays : (bytes others : List ℕ) (f : F) → IsBytes bytes → read bytes ≡ Err f
      → (f ≡ wait → ⊥) → read (bytes ++ others) ≡ Err f

-- what is read is read whatever follows: more bytes change neither the value nor where it ends
abbrev pub GoesOn : {A F : Type 0} → (List ℕ → Result (A × List ℕ) F) → Type 0
GoesOn {A} read = (bytes : List ℕ) (x : A) (rest more : List ℕ) → read bytes ≡ Ok (x, rest)
    → read (bytes ++ more) ≡ Ok (x, rest ++ more)

-- a form in two parts: the second's form may depend on the first's value
pub record Both {A B : Type 0} (First : List ℕ → A → Type 0)
    (Second : A → List ℕ → B → Type 0) (bytes : List ℕ) (y : B) : Type 0 where
  pub x : A
  pub front : List ℕ
  pub back : List ℕ
  pub parts : bytes ≡ front ++ back
  pub first : First front x
  pub second : Second x back y
