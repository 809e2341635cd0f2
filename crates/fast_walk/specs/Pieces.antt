-- What stands where a walk has taken a piece, and where it has stopped at one.
use Rattle.std.specs.Prelude.{◌≡◌, ◌≢◌, ◌≤◌, ◌<◌, ℕ, Bool, List, Result, Ok, Err, drop, length}
use Rattle.fast_walk.specs.Prelude.{Key, Dictionary, Ghosts, Level, Memory}
use Rattle.fast_walk.specs.Received.{CarriesOpen, Having}
use Rattle.fast_walk.specs.Awaited.{IsAwaited}
use Rattle.fast_walk.specs.Told.{KeepScalars}
use Rattle.fast_walk.specs.Walks.{HaltsAs, IsReady, IsWhole, Moves, rank_of}
use Rattle.fast_walk.specs.declared.halt.Halt.{Halt}
use Rattle.fast_walk.specs.declared.receiver.Receiver.{Ghosts as Receiving}
use Rattle.fast_walk.specs.declared.walk.Walk.{Walk as WalkNow}

-- The walk can go on: what it may come to is served, each entry is within its type, and its receiver knows the bits that are left.
pub record CanWalk (serves : Key → Bool) (d : Dictionary) (Awaits : List (List Bool) → List Bool → Bool) (w : WalkNow) : Type 0 where
  pub ready : IsReady serves w
  pub kept : KeepScalars d
  pub awaited : IsAwaited Awaits w

-- Reading stops at a piece: nothing has changed but the receiver, which has what it had, and knows as much.
pub record Stops {R : Type 0} (level : Level) (Has : Having R) (Awaits : R → List (List Bool) → List Bool → Bool) (w : WalkNow) (r : R) (d : Dictionary)
    (v : WalkNow) (s : R) (e : Dictionary) (bytes : List ℕ) (h : Halt) : Type 0 where
  pub halts : HaltsAs level w d bytes h
  pub walk : v ≡ w
  pub entries : e ≡ d
  pub has : CarriesOpen (Has r) (Has s)
  pub awaited : IsAwaited (Awaits s) v

-- From one place of the bytes the walk has come to another: reading has gone on, and can go on from there.
pub record Reaches {R : Type 0} (level : Level) (Has : Having R) (Awaits : R → List (List Bool) → List Bool → Bool) (serves : Key → Bool)
    (w : WalkNow) (r : R) (d : Dictionary) (v : WalkNow) (s : R) (e : Dictionary) (bytes : List ℕ) (at next : ℕ) : Type 0 where
  pub from : at ≤ next
  pub within : next ≤ length bytes
  pub goes : Moves level Has w r d v s e (drop at bytes) (drop next bytes)
  pub on : CanWalk serves e (Awaits s) v

-- what a call for a piece answers: the place behind it, or where reading stops
abbrev pub IsTaken : {R E : Type 0} → Level → Receiving R → Ghosts E → WalkNow → R → E → WalkNow → R → E → List ℕ → ℕ → Result ℕ Halt → Type 0
IsTaken level receiver entries w r d v s e bytes at (Ok n) = Reaches level receiver.has receiver.awaits (entries.serves d) w r (entries.contents d) v s (entries.contents e) bytes at n × (rank_of v < rank_of w)
IsTaken level receiver entries w r d v s e bytes at (Err h) = h.cause ≢ Memory → Stops level receiver.has receiver.awaits w r (entries.contents d) v s (entries.contents e) (drop at bytes) h

-- Reading has gone on from these bytes to the rest, stops there, and can go on from there.
pub record Holds {R : Type 0} (level : Level) (Has : Having R) (Awaits : R → List (List Bool) → List Bool → Bool) (serves : Key → Bool)
    (w : WalkNow) (r : R) (d : Dictionary) (v : WalkNow) (s : R) (e : Dictionary) (bytes rest : List ℕ) (h : Halt) : Type 0 where
  pub goes : Moves level Has w r d v s e bytes rest
  pub halts : HaltsAs level v e rest h
  pub on : CanWalk serves e (Awaits s) v

-- what a call for all that is left of a body answers: the place behind it, or the one at which reading stops
abbrev pub Runs : {R E : Type 0} → Level → Receiving R → Ghosts E → WalkNow → R → E → WalkNow → R → E → List ℕ → ℕ → Result ℕ (ℕ × Halt) → Type 0
Runs level receiver entries w r d v s e bytes at (Ok n) = Reaches level receiver.has receiver.awaits (entries.serves d) w r (entries.contents d) v s (entries.contents e) bytes at n × IsWhole v
Runs level receiver entries w r d v s e bytes at (Err x) = ((at ≤ x.0) × (x.0 ≤ length bytes))
    × ((x.1).cause ≢ Memory → Holds level receiver.has receiver.awaits (entries.serves e) w r (entries.contents d) v s (entries.contents e) (drop at bytes) (drop x.0 bytes) x.1)
