-- Dictionaries: one finite map from keys to empty or assigned entries.
-- FAST 1.1, Field Operators, Dictionaries and Previous Values.
use Rattle.std.specs.Prelude.{◌≡◌, ◌≢◌, Option, Some, None, Bool, true, false, cond, List, [], ◌∷◌, refl}
use Rattle.std.proofs.Common.{ap, sym, ◌∙◌}
use Rattle.std.specs.Cmp.{tied_itself}
use Rattle.std.specs.Ordering.{is_eq}
use Rattle.std.specs.declared.cmp.Ordering.{Ordering}
use Rattle.std.specs.declared.cmp.Ordering.TheVariants.{Less, Equal, Greater}
use Rattle.std.specs.FinMap as map
use Rattle.std.specs.Coded.{Coded, coded_option}
use Rattle.fast_value.specs.Key.{key_cmp, key_cmp-total, key_cmp-exact}
use Rattle.fast_value.specs.declared.key.Key.{Key}
use Rattle.fast_value.specs.declared.scalar.Scalar.{Scalar}
use Rattle.fast_value.specs.contracts.key.Key as key
use Rattle.fast_value.specs.contracts.scalar.Scalar as scalar
use Rattle.fast_dictionary.specs.declared.entry.Entry.{Entry}
use Rattle.fast_dictionary.specs.declared.entry.Entry.TheVariants.{Undefined, Empty, Assigned}
use Rattle.fast_dictionary.specs.declared.entry.EntryRef.{EntryRef}

-- A key that is not there is undefined, one without a value is empty. After a reset the map is empty.
abbrev pub Dictionary : Type 0
Dictionary = map.FinMap key_cmp (Option Scalar)

abbrev pub dictionary_code : Coded Dictionary
dictionary_code = map.code key.the_row.coded (coded_option scalar.the_row.coded)

-- what a map has under a key, as an entry
abbrev pub entry_from : Option (Option Scalar) → Entry
entry_from None = Undefined
entry_from (Some None) = Empty
entry_from (Some (Some value)) = Assigned value

abbrev pub entry_at : Dictionary → Key → Entry
entry_at dictionary k = entry_from (map.get dictionary k)

-- the value that a map has for an entry that is not undefined
abbrev pub value_in : Entry → Option Scalar
value_in Undefined = None
value_in Empty = None
value_in (Assigned value) = Some value

-- the dictionary with an entry under a key, in place of the one that is there
abbrev pub set_entry : Dictionary → Key → Entry → Dictionary
set_entry dictionary k Undefined = map.remove dictionary k
set_entry dictionary k Empty = map.insert dictionary k (value_in Empty)
set_entry dictionary k (Assigned value) = map.insert dictionary k (value_in (Assigned value))

-- the dictionary of pairs: of two with one key the first holds
abbrev pub from_pairs : List (Key × Entry) → Dictionary
from_pairs [] = map.empty
from_pairs (pair ∷ pairs) = set_entry (from_pairs pairs) pair.0 pair.1

-- the entry that a reference shows
abbrev pub entry_of : EntryRef → Entry
entry_of EntryRef.Undefined = Undefined
entry_of EntryRef.Empty = Empty
entry_of (EntryRef.Assigned value) = Assigned value.now

-- ---- what follows of one map after another

-- After a reset every entry is undefined.
pub entry_at-empty : (k : Key) → entry_at map.empty k ≡ Undefined
entry_at-empty k = ap entry_from (map.get-empty key_cmp k)

entry_from-value_in : (e : Entry) → e ≢ Undefined → entry_from (Some (value_in e)) ≡ e
entry_from-value_in Undefined other = absurd (other refl)
entry_from-value_in Empty other = refl
entry_from-value_in (Assigned value) other = refl

-- what was put is there
pub entry_at-insert_same : (d : Dictionary) (k : Key) (e : Entry) → e ≢ Undefined → entry_at (map.insert d k (value_in e)) k ≡ e
entry_at-insert_same d k e other =
    ap entry_from (map.get-insert key_cmp-total d k (value_in e) k ∙ ap (λ o. cond (is_eq o) (Some (value_in e)) (map.get d k)) (tied_itself key_cmp-total k))
    ∙ entry_from-value_in e other

apart : (a b : Key) (o : Ordering) → key_cmp a b ≡ o → a ≢ b → is_eq o ≡ false
apart a b Less is other = refl
apart a b Equal is other = absurd (other (key_cmp-exact a b is))
apart a b Greater is other = refl

-- and every other entry stays
pub entry_at-insert_other : (d : Dictionary) (k q : Key) (v : Option Scalar) → q ≢ k → entry_at (map.insert d k v) q ≡ entry_at d q
entry_at-insert_other d k q v other =
    ap entry_from (map.get-insert key_cmp-total d k v q ∙ ap (λ b. cond b (Some v) (map.get d q)) (apart q k (key_cmp q k) refl other))

-- ---- entries that are set, undefined ones too

chosen : (b : Bool) (v : Option (Option Scalar)) (o : Option (Option Scalar)) → entry_from (cond b v o) ≡ cond b (entry_from v) (entry_from o)
chosen true v o = refl
chosen false v o = refl

-- what is set is there, and every other entry stays
pub entry_at-set_entry : (d : Dictionary) (k : Key) (e : Entry) (q : Key) → entry_at (set_entry d k e) q ≡ cond (is_eq (key_cmp q k)) e (entry_at d q)
entry_at-set_entry d k Undefined q = ap entry_from (map.get-remove key_cmp-total d k q) ∙ chosen (is_eq (key_cmp q k)) None (map.get d q)
entry_at-set_entry d k Empty q = ap entry_from (map.get-insert key_cmp-total d k None q) ∙ chosen (is_eq (key_cmp q k)) (Some None) (map.get d q)
entry_at-set_entry d k (Assigned v) q = ap entry_from (map.get-insert key_cmp-total d k (Some v) q) ∙ chosen (is_eq (key_cmp q k)) (Some (Some v)) (map.get d q)

pub entry_at-set_same : (d : Dictionary) (k : Key) (e : Entry) → entry_at (set_entry d k e) k ≡ e
entry_at-set_same d k e = entry_at-set_entry d k e k ∙ ap (λ o. cond (is_eq o) e (entry_at d k)) (tied_itself key_cmp-total k)

-- to put an entry is to set it
pub set_entry-put : (d : Dictionary) (k : Key) (e : Entry) → e ≢ Undefined → set_entry d k e ≡ map.insert d k (value_in e)
set_entry-put d k Undefined other = absurd (other refl)
set_entry-put d k Empty other = refl
set_entry-put d k (Assigned v) other = refl

held : Entry → Option (Option Scalar)
held Undefined = None
held Empty = Some None
held (Assigned value) = Some (Some value)

held-entry_from : (o : Option (Option Scalar)) → held (entry_from o) ≡ o
unfolding held
held-entry_from None = refl
held-entry_from (Some None) = refl
held-entry_from (Some (Some value)) = refl

-- Two dictionaries with the same entry under each key are one.
pub same_dictionary : (d e : Dictionary) → ((k : Key) → entry_at d k ≡ entry_at e k) → d ≡ e
same_dictionary d e is =
    map.same_map key_cmp-total key_cmp-exact d e (λ k. sym (held-entry_from (map.get d k)) ∙ ap held (is k) ∙ held-entry_from (map.get e k))

stays : (d : Dictionary) (k q : Key) (o : Ordering) → key_cmp q k ≡ o → cond (is_eq o) (entry_at d k) (entry_at d q) ≡ entry_at d q
stays d k q Less is = refl
stays d k q Equal is = ap (entry_at d) (sym (key_cmp-exact q k is))
stays d k q Greater is = refl

-- To set what is there changes nothing.
pub set_entry-there : (d : Dictionary) (k : Key) → set_entry d k (entry_at d k) ≡ d
set_entry-there d k = same_dictionary (set_entry d k (entry_at d k)) d (λ q. entry_at-set_entry d k (entry_at d k) q ∙ stays d k q (key_cmp q k) refl)

pub insert-there : (d : Dictionary) (k : Key) → entry_at d k ≢ Undefined → map.insert d k (value_in (entry_at d k)) ≡ d
insert-there d k other = sym (set_entry-put d k (entry_at d k) other) ∙ set_entry-there d k

pub remove-undefined : (d : Dictionary) (k : Key) → entry_at d k ≡ Undefined → map.remove d k ≡ d
remove-undefined d k is = ap (set_entry d k) (sym is) ∙ set_entry-there d k
