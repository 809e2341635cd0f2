-- How a traversal of a stream goes on from where it is.
use Rattle.std.specs.Prelude.{◌≡◌, ◌≤◌, ◌++◌, ◌∷◌, [], ℕ, Bool, List, length, Some, Ok, Err, ◌⊎◌, IsTrue, Contains}
use Rattle.fast_walk.specs.Prelude.{Key, Resolved, TemplateList, keys_in, Dictionary, Level, ◌>>=◌, Content, nodes_in, node_limit, members_of, identifier, MessageStop, field_part_at, named_at, in_template, message_at}
use Rattle.fast_walk.specs.OpenSegments.{Reading, cursor, message_of, named_on}
use Rattle.fast_walk.specs.Received.{Received, Having, Keeping}
use Rattle.fast_walk.specs.Walks.{IsAt, IsReady, reads_on}
use Rattle.fast_walk.specs.declared.halt.Halt.{Halt}
use Rattle.fast_walk.specs.declared.traversal.Stage.{Stage as StageNow}
use Rattle.fast_walk.specs.declared.traversal.Traversal.{Traversal as TraversalNow}

-- what is left of a message behind its map
abbrev pub identifier_on : Level → List Resolved → Dictionary → List Bool → List ℕ → Reading
identifier_on level set d bits bytes = named_on level (in_template 0 (field_part_at level identifier (cursor d bits node_limit bytes) >>= named_at set bytes))

-- the fault of the piece that is first of these bytes
abbrev pub stop_of : ℕ → Halt → List ℕ → MessageStop
stop_of template h bytes = record { template = template; stop = record { cause = h.cause; instruction = h.number; left = length bytes } }

-- what is left to be read, behind which messages and from which dictionary
abbrev pub Left : Type 1
Left = List Content → Dictionary → (List ℕ → Reading) → Type 0

-- The body of a message is open: of these messages before, from the dictionary behind them; and this is still read.
pub record IsOpen {R : Type 0} (Has : Having R) (Keeps : Keeping R)
    (t : TraversalNow) (r : R) (set : List Resolved) (d : Dictionary) (before : List Content) (start : Dictionary) (read : List ℕ → Reading) : Type 0 where
  pub received : Received
  pub at : IsAt t.walk received
  pub has : Has r received d
  pub keeps : Keeps r set before start
  pub set_is : received.set ≡ set
  pub before_is : received.before ≡ before
  pub template_is : received.template ≡ t.template
  pub named : members_of received.set received.template ≡ Some received.members
  pub reads : (bytes : List ℕ) → read bytes ≡ message_of t.level t.template (reads_on t.level t.walk d received bytes)

-- No message is open, or only its map is read.
pub record IsBetween (Stands : Type 0) (d start : Dictionary) (read now : List ℕ → Reading) : Type 0 where
  pub stands : Stands
  pub start_is : start ≡ d
  pub reads : (bytes : List ℕ) → read bytes ≡ now bytes

-- What a traversal, its receiver and its dictionary still read: behind these messages, from the dictionary there.
abbrev pub ContinuesAt : {R : Type 0} → Having R → Keeping R → Keeping R → StageNow → TraversalNow → R → List Resolved → Dictionary → Left
ContinuesAt has stands keeps StageNow.Map t r set d before start read = IsBetween (stands r set before d) d start read (message_at t.level set d)
ContinuesAt has stands keeps StageNow.Identifier t r set d before start read = IsBetween (stands r set before d) d start read (identifier_on t.level set d t.walk.bits)
ContinuesAt has stands keeps StageNow.Body t r set d before start read = IsOpen has keeps t r set d before start read

abbrev pub Continues : {R : Type 0} → Having R → Keeping R → Keeping R → TraversalNow → R → List Resolved → Dictionary → Left
Continues has stands keeps t r set d before start read = ContinuesAt has stands keeps t.stage t r set d before start read

-- ---- what a call comes to

-- The message that is left at these bytes is read to its end, and has been received, where its nodes are not too many.
abbrev pub Finishes : Left → (List Content → Dictionary → Type 0) → Dictionary → List ℕ → List ℕ → Type 0
Finishes Was Stands e bytes rest = (before : List Content) (start : Dictionary) (read : List ℕ → Reading) → Was before start read
    → (m : Content) × ((more : List ℕ) → read (bytes ++ more) ≡ Ok (m, e, rest ++ more)) × (nodes_in m.items ≤ node_limit → Stands (before ++ m ∷ []) e)

-- Reading what is left at these bytes stops, at the first of the rest.
abbrev pub StopsAt : Left → ℕ → Halt → List ℕ → List ℕ → Type 0
StopsAt Was template h bytes rest = (before : List Content) (start : Dictionary) (read : List ℕ → Reading) → Was before start read
    → read bytes ≡ Err (stop_of template h rest)

-- Of what is left at these bytes, something is still left at the rest.
abbrev pub LeavesOn : Left → Left → List ℕ → List ℕ → Type 0
LeavesOn Was Is bytes rest = (before : List Content) (start : Dictionary) (read : List ℕ → Reading) → Was before start read
    → (later : List ℕ → Reading) × Is before start later × ((more : List ℕ) → read (bytes ++ more) ≡ later (rest ++ more))

-- The messages in front of what was left are kept, inside one or between two.
abbrev pub KeepsBefore : Left → (List Content → Dictionary → Type 0) → (List Content → Dictionary → Type 0) → Type 0
KeepsBefore Was Keeps Stands = (before : List Content) (start : Dictionary) (read : List ℕ → Reading) → Was before start read → Keeps before start ⊎ Stands before start

-- ---- keys

-- each key of a set is served
abbrev pub ServesAll : (Key → Bool) → TemplateList → Type 0
ServesAll serves set = (k : Key) → Contains (keys_in set) k → IsTrue (serves k)

-- Each part that an open body may come to is one of a set, and its key is served; before it no template is known, and no
-- node counted.
abbrev pub IsReadyAt : StageNow → (Key → Bool) → TraversalNow → Type 0
IsReadyAt StageNow.Map serves t = t.template ≡ 0
IsReadyAt StageNow.Identifier serves t = (t.template ≡ 0) × (t.walk.spare ≡ node_limit)
IsReadyAt StageNow.Body serves t = IsReady serves t.walk

-- The traversal is as it leaves itself.
abbrev pub CanGoOn : (Key → Bool) → TraversalNow → Type 0
CanGoOn serves t = IsReadyAt t.stage serves t

abbrev pub begun_at : StageNow → ℕ
begun_at StageNow.Map = 0
begun_at n = 1

-- whether a message has begun
abbrev pub begun_of : TraversalNow → ℕ
begun_of t = begun_at t.stage
