-- How a traversal with its receiver stands to the bytes read since the reset and the messages found in them, in each mode.
use Rattle.std.specs.Prelude.{◌≡◌, ◌<◌, ◌⊎◌, ℕ, ◌+◌, List, [], ◌++◌, length, take, Err}
use Rattle.fast_machine.specs.Prelude.{IsBytes, Resolved, templates_in, Dictionary, Framing, Plain, Blocks, Mode, Stand, at_start, Opens, Content, MessageStop, Stage, Traversal, Reading}
use Rattle.fast_stream.specs.Modes.{CarriesFrom, GoesOn, next_at}
use Rattle.fast_machine.specs.Runs.{Front}
pub use Rattle.fast_machine.specs.Runs.{Having, Standing, ReadsOn, Unfinished}

-- a framing, at the level of a traversal
abbrev pub framed_as : Framing → Traversal → Mode
framed_as framing t = record { level = t.level; framing = framing }

-- the messages, each in its form, and behind them a rest of which this is so
abbrev pub Onward : Mode → List Resolved → Stand → List ℕ → List Content → (Stand → List ℕ → Type 0) → Type 0
Onward mode set s bytes messages Ends = Front (CarriesFrom mode set) s bytes messages Ends

abbrev pub Behind : Mode → List Resolved → List ℕ → List Content → (Stand → List ℕ → Type 0) → Type 0
Behind mode set bytes messages Ends = Onward mode set at_start bytes messages Ends

-- a prefix of the bytes carries the messages
abbrev pub Carried : Mode → List Resolved → List ℕ → List Content → Type 0
Carried mode set bytes messages = Behind mode set bytes messages (λ s rest. Unit {0})

-- and the reading of the next message stops
abbrev pub StopsBehind : Mode → List Resolved → List ℕ → List Content → MessageStop → Type 0
StopsBehind mode set bytes messages stop = Behind mode set bytes messages (λ s rest. GoesOn s rest × IsBytes rest × (next_at mode set s rest ≡ Err stop))

-- No block is open, and no message: what is unread may be the front of a size.
pub record BetweenBlocks (Goes : Dictionary → (List ℕ → Reading) → Type 0) (left : ℕ) (t : Traversal) (unread : List ℕ) (s : Stand) (rest : List ℕ) : Type 0 where
  pub none : left ≡ 0
  pub outside : s.left ≡ 0
  pub stage : t.stage ≡ Stage.Map
  pub same : rest ≡ unread
  pub fits : IsBytes rest
  pub next : Unfinished Goes t [] s.dictionary []

-- A block is open, of which so many bytes are left from the unread ones on. The next message, with its block's size where
-- it is the block's first, is what is taken of it, and the rest of it is read in those bytes.
pub record InsideBlock (Goes : Dictionary → (List ℕ → Reading) → Type 0) (left : ℕ) (t : Traversal) (unread : List ℕ) (s : Stand) (rest : List ℕ) : Type 0 where
  pub some : 0 < left
  pub size : List ℕ
  pub within : List ℕ
  pub next : Unfinished Goes t (take left unread) s.dictionary within
  pub opens : Opens t.level s.left size (length next.taken + left)
  pub parts : rest ≡ size ++ (next.taken ++ unread)
  pub fits : IsBytes rest

-- the rest of a stream, of which these bytes are unread
abbrev pub GoesIn : Framing → ℕ → (Dictionary → (List ℕ → Reading) → Type 0) → Traversal → List ℕ → Stand → List ℕ → Type 0
GoesIn Plain left Goes t unread s rest = Unfinished Goes t unread s.dictionary rest × (s.left ≡ 0) × (left ≡ 0)
GoesIn Blocks left Goes t unread s rest = BetweenBlocks Goes left t unread s rest ⊎ InsideBlock Goes left t unread s rest

abbrev pub Stands : Framing → ℕ → (Dictionary → (List ℕ → Reading) → Type 0) → Traversal → List ℕ → List ℕ → List Content → Type 0
Stands framing left Goes t unread bytes messages = Behind (framed_as framing t) (templates_in t.set.now) bytes messages (λ s rest. GoesIn framing left Goes t unread s rest)

-- The receiver has these messages, from the dictionary behind a prefix of the bytes that carries the messages.
abbrev pub HasAll : {R : Type 0} → Standing R → Framing → Traversal → R → List Content → List ℕ → List Content → Type 0
HasAll stands framing t r before bytes messages = Behind (framed_as framing t) (templates_in t.set.now) bytes messages (λ s rest. stands r (templates_in t.set.now) before s.dictionary)
