-- A search depth first along references, and what holds at each of its steps.
-- Own: how templates on cycles are told from those that only lead to one.
use Rattle.std.specs.Prelude.{◌≡◌, ◌<◌, ◌≤◌, ◌+◌, ◌-◌, ◌⊎◌, ℕ, List, [], ◌∷◌, ◌++◌, length, set, take, drop, slice_get, Option, Some, None, Vec, Bool, true, false}
use Rattle.std.specs.Option.{option_map_or}
use Rattle.std.specs.declared.alloc.Global.{Global}
use Rattle.fast_order.specs.Order.{IsReference, Reaches}
use Rattle.fast_order.specs.declared.order.Mark.{Mark}
use Rattle.fast_order.specs.declared.order.Mark.TheVariants.{Unseen, Open, Done}
use Rattle.fast_order.specs.declared.order.Visit.{Visit}
use Rattle.fast_order.specs.declared.order.Search.{Search}

-- where a search stands
pub record State : Type 0 where
  pub marks : List Mark
  pub opened : List ℕ
  pub starts : List ℕ
  pub path : List Visit
  pub order : List ℕ

abbrev pub state_of : Search → State
state_of s = record { marks = s.marks.items; opened = s.opened.items; starts = s.starts.items; path = s.path.items; order = s.order.items }

-- with one more on the path
abbrev pub visiting : State → Visit → State
visiting s x = record { marks = s.marks; opened = s.opened; starts = s.starts; path = s.path ++ x ∷ []; order = s.order }

-- the same, or reached
abbrev pub Joins : List (Vec ℕ Global) → ℕ → ℕ → Type 0
Joins rows u v = (u ≡ v) ⊎ Reaches rows u v

-- the search is through with it, and knows whether it lies on a cycle
abbrev pub IsDone : List Mark → ℕ → Type 0
IsDone marks v = (b : Bool) × (slice_get marks v ≡ Some (Done b))

-- no group starts behind j up to i
abbrev pub NoneStarts : List ℕ → ℕ → ℕ → Type 0
NoneStarts starts j i = (p b : ℕ) → slice_get starts p ≡ Some b → (b ≤ j) ⊎ (i < b)

-- a reference that is still to be followed
abbrev pub ToCome : List Visit → ℕ → ℕ → Type 0
ToCome path i k = (p : ℕ) × (x : Visit) × (slice_get path p ≡ Some x) × (x.place ≡ i) × (x.next ≤ k)

-- the one that is being followed
abbrev pub IsNow : Option Visit → ℕ → ℕ → Type 0
IsNow None i k = ⊥
IsNow (Some x) i k = (x.place ≡ i) × (x.next ≡ k)

-- A reference of what is open at i leads to what is done, or to what is open no group below its own.
abbrev pub IsFollowed : List Mark → List ℕ → ℕ → ℕ → Type 0
IsFollowed marks starts i w = IsDone marks w ⊎ ((j : ℕ) × (slice_get marks w ≡ Some (Open j)) × ((p b : ℕ) → slice_get starts p ≡ Some b → b ≤ i → b ≤ j))

-- Groups of open templates follow one another; each reaches those of its own group and of those behind it.
pub record Stands (rows : List (Vec ℕ Global)) (s : State) (now : Option Visit) : Type 0 where
  pub marks_len : length s.marks ≡ length rows
  pub opened_marked : (i v : ℕ) → slice_get s.opened i ≡ Some v → slice_get s.marks v ≡ Some (Open i)
  pub marked_opened : (i v : ℕ) → slice_get s.marks v ≡ Some (Open i) → slice_get s.opened i ≡ Some v
  pub joins : (i j u v : ℕ) → slice_get s.opened i ≡ Some u → slice_get s.opened j ≡ Some v → NoneStarts s.starts j i → Joins rows u v
  pub explored : (i k u w : ℕ) → slice_get s.opened i ≡ Some u → IsReference rows u k w → (IsNow now i k ⊎ ToCome s.path i k) ⊎ IsFollowed s.marks s.starts i w
  pub visits : (p : ℕ) (x : Visit) → slice_get s.path p ≡ Some x → slice_get s.opened x.place ≡ Some x.node
  pub rising : (p q : ℕ) (x y : Visit) → slice_get s.path p ≡ Some x → slice_get s.path q ≡ Some y → p < q → x.place < y.place
  pub starts_visited : (p b : ℕ) → slice_get s.starts p ≡ Some b → (q : ℕ) × (x : Visit) × (slice_get s.path q ≡ Some x) × (x.place ≡ b)
  pub starts_rising : (p q b c : ℕ) → slice_get s.starts p ≡ Some b → slice_get s.starts q ≡ Some c → p < q → b < c
  pub first_starts : 0 < length s.opened → (p : ℕ) × (slice_get s.starts p ≡ Some 0)
  pub done_closed : (v k w : ℕ) → IsDone s.marks v → IsReference rows v k w → IsDone s.marks w
  pub judged : (v : ℕ) → (slice_get s.marks v ≡ Some (Done true) → Reaches rows v v) × (slice_get s.marks v ≡ Some (Done false) → ¬ (Reaches rows v v))
  pub placed : (v : ℕ) → IsDone s.marks v → (p : ℕ) × (slice_get s.order p ≡ Some v)
  pub behind : (p v k w : ℕ) → slice_get s.order p ≡ Some v → IsReference rows v k w → Reaches rows v v ⊎ ((q : ℕ) × (q < p) × (slice_get s.order q ≡ Some w))
  pub ordered : (p v : ℕ) → slice_get s.order p ≡ Some v → IsDone s.marks v
  pub once : (p q v : ℕ) → slice_get s.order p ≡ Some v → slice_get s.order q ≡ Some v → p ≡ q

-- what was seen stays seen
abbrev pub KeepsSeen : State → State → Type 0
KeepsSeen old new = (v : ℕ) → slice_get new.marks v ≡ Some Unseen → slice_get old.marks v ≡ Some Unseen

-- how many steps are left at most
abbrev pub row_length : List (Vec ℕ Global) → ℕ → ℕ
row_length rows v = option_map_or (λ (row : Vec ℕ Global). length row.items) (slice_get rows v) 0

abbrev pub unseen_steps : List (Vec ℕ Global) → List Mark → ℕ
unseen_steps [] ms = 0
unseen_steps (row ∷ rows) [] = 0
unseen_steps (row ∷ rows) (Unseen ∷ ms) = length row.items + 2 + unseen_steps rows ms
unseen_steps (row ∷ rows) (Open i ∷ ms) = unseen_steps rows ms
unseen_steps (row ∷ rows) (Done b ∷ ms) = unseen_steps rows ms

abbrev pub path_steps : List (Vec ℕ Global) → List Visit → ℕ
path_steps rows [] = 0
path_steps rows (x ∷ xs) = (row_length rows x.node - x.next) + 1 + path_steps rows xs

abbrev pub steps_left : List (Vec ℕ Global) → State → ℕ
steps_left rows s = unseen_steps rows s.marks + path_steps rows s.path

-- one step further
pub record Advances (rows : List (Vec ℕ Global)) (old new : State) : Type 0 where
  pub stands : Stands rows new None
  pub seen : KeepsSeen old new
  pub fewer : steps_left rows new < steps_left rows old

-- all of some marks set
abbrev pub set_all : List Mark → List ℕ → Mark → List Mark
set_all ms [] m = ms
set_all ms (v ∷ vs) m = set_all (set ms v m) vs m

-- one more open, as a group of its own
abbrev pub entered : ℕ → State → State
entered v s = record {
  marks = set s.marks v (Open (length s.opened));
  opened = s.opened ++ v ∷ [];
  starts = s.starts ++ length s.opened ∷ [];
  path = s.path ++ record { node = v; place = length s.opened; next = 0 } ∷ [];
  order = s.order;
}

-- the last group done
abbrev pub closed : ℕ → Bool → State → State
closed start on_cycle s = record {
  marks = set_all s.marks (drop start s.opened) (Done on_cycle);
  opened = take start s.opened;
  starts = take (length s.starts - 1) s.starts;
  path = s.path;
  order = s.order ++ drop start s.opened;
}
