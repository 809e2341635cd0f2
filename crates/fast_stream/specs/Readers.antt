-- What ties the function that reads a piece of a message to the piece's forms and faults.
use Rattle.std.specs.Prelude.{◌≡◌, ◌≢◌, ℕ, ◌+◌, List, ◌++◌, length, Ok, Err}
use Rattle.fast_stream.specs.Prelude.{Level, IsBytes, Resolved, Dictionary}
use Rattle.fast_stream.specs.declared.fault.Cause.TheVariants.{Truncated}
use Rattle.fast_stream.specs.Nodes.{Content}
use Rattle.fast_stream.specs.Bodies.{State}
use Rattle.fast_stream.specs.Streams.{MessageForm}
use Rattle.fast_stream.specs.Faults.{Stop, MessageStop, MessageStops}
use Rattle.fast_stream.specs.Reading.{Cursor, state_of, Reads, message_at}
use Rattle.fast_stream.specs.declared.mode.Mode.{Mode}
use Rattle.fast_stream.specs.Blocks.{Stand}
use Rattle.fast_stream.specs.Modes.{NextForm, NextStops, next_at}

-- a state, how many nodes may still come, and the bytes
abbrev pub cursor : State → ℕ → List ℕ → Cursor
cursor s spare bytes = record { dictionary = s.dictionary; bits = s.bits; spare = spare; bytes = bytes }

-- the same stop, seen from so many bytes more
abbrev pub further : ℕ → Stop → Stop
further more s = record { cause = s.cause; instruction = s.instruction; left = s.left + more }

-- a form of x stands at the front of the bytes, and behind it is the cursor, with fewer nodes to come
pub record Passes {A : Type 0} (nodes : A → ℕ) (Form : State → List ℕ → A → State → Type 0) (s : State) (spare : ℕ) (bytes : List ℕ) (x : A) (behind : Cursor) : Type 0 where
  pub front : List ℕ
  pub parts : bytes ≡ front ++ behind.bytes
  pub rest_bytes : IsBytes behind.bytes
  pub form : Form s front x (state_of behind)
  pub counted : spare ≡ nodes x + behind.spare

-- the function reads the forms of a piece, and stops exactly at its faults
pub record IsPieceReader {A : Type 0} (nodes : A → ℕ) (Form : State → List ℕ → A → State → Type 0) (Stops : State → ℕ → List ℕ → Stop → Type 0) (read : Cursor → Reads A) : Type 0 where
  -- what is read is a form
  pub found : (s : State) (spare : ℕ) (bytes : List ℕ) (x : A) (behind : Cursor) → IsBytes bytes
      → read (cursor s spare bytes) ≡ Ok (x, behind) → Passes nodes Form s spare bytes x behind
  -- each form is read, whatever follows
  pub again : (s after : State) (spare : ℕ) (form rest : List ℕ) (x : A) → Form s form x after
      → read (cursor s (nodes x + spare) (form ++ rest)) ≡ Ok (x, cursor after spare rest)
  -- where reading stops there is that fault
  pub stops : (s : State) (spare : ℕ) (bytes : List ℕ) (stop : Stop) → IsBytes bytes
      → read (cursor s spare bytes) ≡ Err stop → Stops s spare bytes stop
  -- at each fault reading stops
  pub stopped : (s : State) (spare : ℕ) (bytes : List ℕ) (stop : Stop) → Stops s spare bytes stop
      → read (cursor s spare bytes) ≡ Err stop
  -- a fault other than want of bytes stays, whatever follows
  pub stays : (s : State) (spare : ℕ) (bytes more : List ℕ) (stop : Stop) → IsBytes bytes
      → read (cursor s spare bytes) ≡ Err stop → stop.cause ≢ Truncated
      → read (cursor s spare (bytes ++ more)) ≡ Err (further (length more) stop)

-- the same stop in a message, seen from so many bytes more
abbrev pub further_on : ℕ → MessageStop → MessageStop
further_on more m = record { template = m.template; stop = further more m.stop }

-- a message stands at the front of the bytes, and the rest follows
pub record MessagePasses (level : Level) (set : List Resolved) (d : Dictionary) (bytes : List ℕ) (m : Content) (after : Dictionary) (rest : List ℕ) : Type 0 where
  pub front : List ℕ
  pub parts : bytes ≡ front ++ rest
  pub rest_bytes : IsBytes rest
  pub form : MessageForm level set d front m after

-- messages of the set are read, and reading stops exactly at their faults
pub record IsMessageReader (level : Level) (set : List Resolved) : Type 0 where
  pub found : (d : Dictionary) (bytes : List ℕ) (m : Content) (after : Dictionary) (rest : List ℕ) → IsBytes bytes
      → message_at level set d bytes ≡ Ok (m, after, rest) → MessagePasses level set d bytes m after rest
  pub again : (d : Dictionary) (form rest : List ℕ) (m : Content) (after : Dictionary) → MessageForm level set d form m after
      → message_at level set d (form ++ rest) ≡ Ok (m, after, rest)
  pub stops : (d : Dictionary) (bytes : List ℕ) (m : MessageStop) → IsBytes bytes
      → message_at level set d bytes ≡ Err m → MessageStops level set d bytes m
  pub stopped : (d : Dictionary) (bytes : List ℕ) (m : MessageStop) → MessageStops level set d bytes m
      → message_at level set d bytes ≡ Err m
  pub stays : (d : Dictionary) (bytes more : List ℕ) (m : MessageStop) → IsBytes bytes
      → message_at level set d bytes ≡ Err m → m.stop.cause ≢ Truncated
      → message_at level set d (bytes ++ more) ≡ Err (further_on (length more) m)

-- the next message of a stream stands at the front of the bytes, and the rest follows
pub record NextPasses (mode : Mode) (set : List Resolved) (s : Stand) (bytes : List ℕ) (m : Content) (after : Stand) (rest : List ℕ) : Type 0 where
  pub front : List ℕ
  pub parts : bytes ≡ front ++ rest
  pub rest_bytes : IsBytes rest
  pub form : NextForm mode set s front m after

-- messages in a stream of the mode are read, and reading stops exactly at their faults
pub record IsNextReader (mode : Mode) (set : List Resolved) : Type 0 where
  pub found : (s : Stand) (bytes : List ℕ) (m : Content) (after : Stand) (rest : List ℕ) → IsBytes bytes
      → next_at mode set s bytes ≡ Ok (m, after, rest) → NextPasses mode set s bytes m after rest
  pub again : (s : Stand) (form rest : List ℕ) (m : Content) (after : Stand) → NextForm mode set s form m after
      → next_at mode set s (form ++ rest) ≡ Ok (m, after, rest)
  pub stops : (s : Stand) (bytes : List ℕ) (m : MessageStop) → IsBytes bytes
      → next_at mode set s bytes ≡ Err m → NextStops mode set s bytes m
  pub stopped : (s : Stand) (bytes : List ℕ) (m : MessageStop) → NextStops mode set s bytes m
      → next_at mode set s bytes ≡ Err m
  pub stays : (s : Stand) (bytes more : List ℕ) (m : MessageStop) → IsBytes bytes
      → next_at mode set s bytes ≡ Err m → m.stop.cause ≢ Truncated
      → next_at mode set s (bytes ++ more) ≡ Err (further_on (length more) m)
