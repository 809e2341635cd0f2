-- What a stream of messages has written since it was new.
use Rattle.std.specs.Prelude.{◌≡◌, ℕ, Bool, true, false, List, [], ◌∷◌, ◌++◌, Result, Ok, Err}
use Rattle.std.specs.FinMap as map
use Rattle.fast_template.specs.Resolved.{Resolved}
use Rattle.fast_dictionary.specs.Dictionary.{Dictionary}
use Rattle.fast_stream.specs.Nodes.{Content}
use Rattle.fast_nodes.specs.declared.fault.EncodeFault.{EncodeFault}
use Rattle.fast_writer.specs.Canonical.{CanonFrom, IsCanonical}

-- the canonical bytes of lists of messages, each of which begins with undefined entries
abbrev pub CanonRuns : List Resolved → List (List Content) → List ℕ → Type 0
CanonRuns set [] bytes = bytes ≡ []
CanonRuns set (messages ∷ runs) bytes = (front back : List ℕ) × (bytes ≡ front ++ back) × IsCanonical set messages front × CanonRuns set runs back

-- The bytes are those of the messages before each reset, and behind them those of the messages since the last one.
pub record AreSent (set : List Resolved) (runs : List (List Content)) (messages : List Content) (bytes : List ℕ) (after : Dictionary) : Type 0 where
  pub before : List ℕ
  pub now : List ℕ
  pub parts : bytes ≡ before ++ now
  pub earlier : CanonRuns set runs before
  pub since : CanonFrom set map.empty now messages after

-- Until a write has failed these are the bytes; from then on they are a front of those with the last message's, the one
-- whose write failed.
abbrev pub Sends : Bool → List Resolved → Dictionary → List (List Content) → List Content → Content → List ℕ → Type 0
Sends false set d runs messages last bytes = AreSent set runs messages bytes d
Sends true set d runs messages last bytes = (rest : List ℕ) × (after : Dictionary) × AreSent set runs (messages ++ last ∷ []) (bytes ++ rest) after

-- the message handed in last while no write had failed: this one, unless one had
abbrev pub last_tried : Bool → Content → Content → Content
last_tried false last m = m
last_tried true last m = last

-- the messages answered Ok, with this one
abbrev pub answered : Result (Unit {0}) EncodeFault → List Content → Content → List Content
answered (Ok x) messages m = messages ++ m ∷ []
answered (Err f) messages m = messages
