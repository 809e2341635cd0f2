-- How a traversal with its receiver stands to the messages that stand one behind the other in some bytes, from a dictionary.
use Rattle.std.specs.Prelude.{◌≡◌, ◌≢◌, ◌<◌, ◌⊎◌, ℕ, List, [], ◌++◌, length, Option, Some, None, Err}
pub use Rattle.fast_walk.specs.Received.{Having, Keeping as Standing}
use Rattle.fast_machine.specs.Prelude.{IsBytes, Level, Resolved, templates_in, Dictionary, Truncated, Memory, Halt, Stage, Traversal, Content, CarriesFrom, MessageStop, message_at, Reading, Continues, stop_of}

-- messages that stand one behind the other at the front of the bytes, from an origin, and behind them a rest of which this is so
pub record Front {S : Type 0} (Stand : S → List ℕ → List Content → S → Type 0) (origin : S) (bytes : List ℕ) (messages : List Content) (Ends : S → List ℕ → Type 0) : Type 0 where
  pub front : List ℕ
  pub rest : List ℕ
  pub start : S
  pub parts : bytes ≡ front ++ rest
  pub carried : Stand origin front messages start
  pub ends : Ends start rest

-- as message forms, from a dictionary
abbrev pub Run : Level → List Resolved → Dictionary → List ℕ → List Content → (Dictionary → List ℕ → Type 0) → Type 0
Run level set origin bytes messages Ends = Front (CarriesFrom level set) origin bytes messages Ends

-- a prefix of the bytes is the messages
abbrev pub RunCarried : Level → List Resolved → Dictionary → List ℕ → List Content → Type 0
RunCarried level set origin bytes messages = Run level set origin bytes messages (λ d rest. Unit {0})

-- and the reading of the next message stops
abbrev pub RunStops : Level → List Resolved → Dictionary → List ℕ → List Content → MessageStop → Type 0
RunStops level set origin bytes messages stop = Run level set origin bytes messages (λ d rest. (0 < length rest) × IsBytes rest × (message_at level set d rest ≡ Err stop))

-- What a receiver has or keeps it still has, and nothing is open in it.
abbrev pub Forgets : {R : Type 0} → Standing R → Standing R → R → R → Type 0
Forgets stands keeps old new = (set : List Resolved) (ms : List Content) (d : Dictionary) → keeps old set ms d ⊎ stands old set ms d → stands new set ms d

-- and it may be open
abbrev pub Retains : {R : Type 0} → Standing R → Standing R → R → R → Type 0
Retains stands keeps old new = (set : List Resolved) (ms : List Content) (d : Dictionary) → keeps old set ms d ⊎ stands old set ms d → keeps new set ms d ⊎ stands new set ms d

-- what a traversal and its receiver still read: of messages behind these, which the receiver has
abbrev pub ReadsOn : {R : Type 0} → Having R → Standing R → Standing R → Traversal → R → Dictionary → List Content → Dictionary → (List ℕ → Reading) → Type 0
ReadsOn has stands keeps t r d before start read = Continues has stands keeps t r (templates_in t.set.now) d before start read

-- The next message, of which a part may be read: with any bytes behind it, it reads as what is left, behind the bytes
-- that are not read.
pub record Unfinished (GoesOn : Dictionary → (List ℕ → Reading) → Type 0) (t : Traversal) (unread : List ℕ) (start : Dictionary) (rest : List ℕ) : Type 0 where
  pub read : List ℕ → Reading
  pub goes : GoesOn start read
  pub fits : IsBytes rest
  pub reads : (more : List ℕ) → message_at t.level (templates_in t.set.now) start (rest ++ more) ≡ read (unread ++ more)
  pub taken : List ℕ
  pub whole : rest ≡ taken ++ unread
  pub between : t.stage ≡ Stage.Map → taken ≡ []
  pub some : t.stage ≢ Stage.Map → 0 < length rest

abbrev pub RunStands : (Dictionary → (List ℕ → Reading) → Type 0) → Traversal → List ℕ → Dictionary → List ℕ → List Content → Type 0
RunStands GoesOn t unread origin bytes messages = Run t.level (templates_in t.set.now) origin bytes messages (λ start rest. Unfinished GoesOn t unread start rest)

-- The receiver has these messages, from the dictionary behind a prefix of the bytes that is the messages.
abbrev pub RunHasAll : {R : Type 0} → Standing R → Traversal → R → List Content → Dictionary → List ℕ → List Content → Type 0
RunHasAll stands t r before origin bytes messages = Run t.level (templates_in t.set.now) origin bytes messages (λ d rest. stands r (templates_in t.set.now) before d)

-- How the reading of a message ends: between two, or at a piece, where it can go on if more bytes come; else the receiver
-- has forgotten what was open.
abbrev pub Ended : {R : Type 0} → Having R → Standing R → Standing R → Option Halt → Traversal → R → Dictionary → List Content → List ℕ → Dictionary → List ℕ → List Content → Type 0
Ended has stands keeps None t r d before unread origin bytes messages = RunStands (ReadsOn has stands keeps t r d before) t unread origin bytes messages × (t.stage ≡ Stage.Map)
Ended has stands keeps (Some h) t r d before unread origin bytes messages =
    RunCarried t.level (templates_in t.set.now) origin bytes messages
    × (h.cause ≢ Memory → RunStops t.level (templates_in t.set.now) origin bytes messages (stop_of t.template h unread))
    × (h.cause ≡ Truncated → RunStands (ReadsOn has stands keeps t r d before) t unread origin bytes messages)
    × (h.cause ≢ Truncated → RunHasAll stands t r before origin bytes messages)

-- Of any run a traversal reads on in these bytes: so many messages end, and the reading ends here.
abbrev pub ReadsRun : {R : Type 0} → Having R → Standing R → Standing R → Traversal → R → Dictionary → List ℕ → ℕ → Option Halt → Traversal → R → Dictionary → List ℕ → Type 0
ReadsRun has stands keeps t r d bytes count halt u s e unread = (before : List Content) (origin : Dictionary) (run : List ℕ) (messages : List Content)
    → RunStands (ReadsOn has stands keeps t r d before) t bytes origin run messages
    → (ended : List Content) × (length ended ≡ count) × Ended has stands keeps halt u s e (before ++ ended) unread origin run (messages ++ ended)

-- And so many messages have ended in these bytes, behind which the traversal reads on from the rest.
abbrev pub LeadsOn : {R : Type 0} → Having R → Standing R → Standing R → Traversal → R → Dictionary → List ℕ → ℕ → Traversal → R → Dictionary → List ℕ → Type 0
LeadsOn has stands keeps t r d bytes count u s e unread = (before : List Content) (origin : Dictionary) (run : List ℕ) (messages : List Content)
    → RunStands (ReadsOn has stands keeps t r d before) t bytes origin run messages
    → (ended : List Content) × (length ended ≡ count) × RunStands (ReadsOn has stands keeps u s e (before ++ ended)) u unread origin run (messages ++ ended)
