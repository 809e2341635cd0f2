-- What reading the next message comes to.
use Rattle.std.specs.Prelude.{◌≡◌, ◌≢◌, ◌≤◌, ◌<◌, ◌+◌, ◌++◌, ℕ, List, Result, Ok, Err, length, drop, slice_range}
use Rattle.fast_walk.specs.Prelude.{templates_in, IsWholeMap, Dictionary, Ghosts, Truncated, Memory, node_limit, message_at}
use Rattle.fast_walk.specs.Awaited.{IsAwaitedAt}
use Rattle.fast_walk.specs.Told.{KeepScalars}
use Rattle.fast_walk.specs.Traversals.{CanGoOn, Continues, Finishes, KeepsBefore, LeavesOn, Left, StopsAt, identifier_on}
use Rattle.fast_walk.specs.declared.halt.Halt.{Halt}
use Rattle.fast_walk.specs.declared.receiver.Receiver.{Ghosts as Receiving}
use Rattle.fast_walk.specs.declared.traversal.Stage.{Stage}
use Rattle.fast_walk.specs.declared.traversal.Traversal.{Traversal as TraversalNow}

-- what a traversal still reads, with its receiver and its dictionary
abbrev pub LeftOf : {R E : Type 0} → Receiving R → Ghosts E → TraversalNow → R → E → Left
LeftOf receiver entries t r d before start read = Continues receiver.has receiver.stands receiver.keeps t r (templates_in t.set.now) (entries.contents d) before start read

-- A traversal can read on: what it may come to is served, each entry is within its type, and its receiver knows the bits that are left.
pub record CanRead {R E : Type 0} (receiver : Receiving R) (entries : Ghosts E) (t : TraversalNow) (r : R) (d : E) : Type 0 where
  pub ready : CanGoOn (entries.serves d) t
  pub kept : KeepScalars (entries.contents d)
  pub awaited : IsAwaitedAt (receiver.awaits r) (receiver.begun r) t.stage t.walk

-- what no call changes
pub record IsSameSet {E : Type 0} (entries : Ghosts E) (t : TraversalNow) (d : E) (u : TraversalNow) (e : E) : Type 0 where
  pub set : u.set ≡ t.set
  pub level : u.level ≡ t.level
  pub same_keys : entries.serves e ≡ entries.serves d

-- A message's map is read, up to a place.
pub record MapRead (t : TraversalNow) (bytes : List ℕ) (at n : ℕ) (u : TraversalNow) : Type 0 where
  pub place : (at < n) × (n ≤ length bytes)
  pub goes : (d : Dictionary) (more : List ℕ)
      → message_at t.level (templates_in t.set.now) d (drop at bytes ++ more) ≡ identifier_on t.level (templates_in t.set.now) d u.walk.bits (drop n bytes ++ more)
  pub stage : u.stage ≡ Stage.Identifier
  pub template : u.template ≡ t.template
  pub spare : u.walk.spare ≡ node_limit
  pub map : IsWholeMap (slice_range bytes at n) u.walk.bits
  pub set : u.set ≡ t.set
  pub level : u.level ≡ t.level

-- Reading has gone on from one place to another, inside a message.
pub record IsStep {R E : Type 0} (receiver : Receiving R) (entries : Ghosts E) (t : TraversalNow) (r : R) (d : E) (bytes : List ℕ) (at n : ℕ) (u : TraversalNow) (s : R) (e : E) : Type 0 where
  pub place : (at ≤ n) × (n ≤ length bytes)
  pub took : t.stage ≡ Stage.Map → at < n
  pub inside : u.stage ≢ Stage.Map
  pub leaves : LeavesOn (LeftOf receiver entries t r d) (LeftOf receiver entries u s e) (drop at bytes) (drop n bytes)

-- A message is read to its end, at a place.
pub record MessageRead {R E : Type 0} (receiver : Receiving R) (entries : Ghosts E) (t : TraversalNow) (r : R) (d : E) (bytes : List ℕ) (at n : ℕ) (u : TraversalNow) (s : R) (e : E) : Type 0 where
  pub place : (at ≤ n) × (n ≤ length bytes)
  -- a message has a byte
  pub took : t.stage ≡ Stage.Map → at < n
  pub finishes : Finishes (LeftOf receiver entries t r d) (receiver.stands s (templates_in u.set.now)) (entries.contents e) (drop at bytes) (drop n bytes)
  pub between : u.stage ≡ Stage.Map
  pub template : u.template ≡ 0
  pub kept : KeepScalars (entries.contents e)

-- More bytes are wanted than there are from a place on: from there reading goes on.
pub record MessageWaits {R E : Type 0} (receiver : Receiving R) (entries : Ghosts E) (t : TraversalNow) (r : R) (d : E) (bytes : List ℕ) (at n : ℕ) (u : TraversalNow) (s : R) (e : E) : Type 0 where
  pub leaves : LeavesOn (LeftOf receiver entries t r d) (LeftOf receiver entries u s e) (drop at bytes) (drop n bytes)
  pub between : u.stage ≡ Stage.Map → (t.stage ≡ Stage.Map) × (n ≡ at)
  pub begun : t.stage ≡ Stage.Map → u.stage ≢ Stage.Map → at < n
  -- few bytes are left
  pub few : length bytes ≤ n + 65554
  pub can : CanRead receiver entries u s e

-- Reading a message stops at a place.
pub record MessageStops {R E : Type 0} (receiver : Receiving R) (entries : Ghosts E) (t : TraversalNow) (r : R) (d : E) (bytes : List ℕ) (at : ℕ) (x : ℕ × Halt) (u : TraversalNow) (s : R) (e : E) : Type 0 where
  pub place : (at ≤ x.0) × (x.0 ≤ length bytes)
  pub keeps : KeepsBefore (LeftOf receiver entries t r d) (receiver.keeps s (templates_in u.set.now)) (receiver.stands s (templates_in u.set.now))
  pub stops : (x.1).cause ≢ Memory → StopsAt (LeftOf receiver entries t r d) u.template x.1 (drop at bytes) (drop x.0 bytes)
  pub waits : (x.1).cause ≡ Truncated → MessageWaits receiver entries t r d bytes at x.0 u s e

-- What a traversal answers that reads the next message from a place on.
abbrev pub ReadsMessage : {R E : Type 0} → Receiving R → Ghosts E → TraversalNow → R → E → List ℕ → ℕ → Result ℕ (ℕ × Halt) → TraversalNow → R → E → Type 0
ReadsMessage receiver entries t r d bytes at (Ok n) u s e = MessageRead receiver entries t r d bytes at n u s e
ReadsMessage receiver entries t r d bytes at (Err x) u s e = MessageStops receiver entries t r d bytes at x u s e
