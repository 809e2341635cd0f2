-- A message that is written, or why it is not.
use Rattle.fast_nodes.proofs.Common.{◌≡◌, ◌≤◌, ℕ, Bool, true, false, List, ◌++◌, Option, Some, None, refl, ltb-false, or_parts, nat_lt, not, if◌then◌else◌, Instructions, Resolved, TemplateList, templates_in, IsSound, Dictionary, IsFieldPart, EachPartIn, parts_of_sets, Items, Content, nodes_in, node_limit, members_of, HoldScalars, ServesAll, members_have, members_served, EncodeCause, EncodeFault, AddsBytes, Books, CanTry, in_segment, of_message, CanonMessage, early_refusal, message_refusal, refused, items_fit, is_too_large, has_large, whole_refusal}
use Rattle.fast_nodes.proofs.Tries.{small_all}

-- ---- what is judged before the fields

pub record Fitting (members : Instructions) (ns : Items) : Type 0 where
  pub fits : items_fit members ns ≡ true
  pub few : nodes_in ns ≤ node_limit
  pub large : has_large ns ≡ false

fitting_by : (members : Instructions) (ns : Items) (fits large : Bool) → items_fit members ns ≡ fits → is_too_large ns ≡ large
    → (if not fits then Some (refused EncodeCause.Mismatch) else if large then Some (refused EncodeCause.Limit) else None) ≡ None → Fitting members ns
fitting_by members ns false large is small h = absurd cc
fitting_by members ns true true is small h = absurd cc
fitting_by members ns true false is small h =
    let p = or_parts (nat_lt node_limit (nodes_in ns)) (has_large ns) small in
    record { fits = is; few = ltb-false 65536 (nodes_in ns) p.0; large = p.1 }

pub fitting : (members : Instructions) (ns : Items) → whole_refusal members ns ≡ None → Fitting members ns
fitting members ns h = fitting_by members ns (items_fit members ns) (is_too_large ns) refl refl h

pub can_try : {a : Books} (set : TemplateList) (m : Content) {members : Instructions} → IsSound set → ServesAll a.serves set → HoldScalars a.entries → members_of (templates_in set) m.template ≡ Some members
    → whole_refusal members m.items ≡ None → CanTry a members m.items
can_try {a} set m {members} sound served holds named whole =
    let f = fitting members m.items whole in
    record {
      parts = members_have (EachPartIn IsFieldPart) (templates_in set) (parts_of_sets set sound) m.template members named;
      served = members_served a.serves set m.template members sound served named;
      fits = f.fits;
      small = small_all m.items f.large;
      holds = holds;
    }

-- the first refusal of a message, by what is judged before its fields
pub early_first : (found : Option Instructions) (d : Dictionary) (m : Content) {f : EncodeFault} → early_refusal found m.items ≡ Some f → message_refusal found d m ≡ Some f
early_first None d m why = why
early_first (Some members) d m why = rw (why) refl

-- ---- the contract of a call

abbrev pub Written : List Resolved → Dictionary → Content → List ℕ → Dictionary → List ℕ → Type 0
Written set d m old e new = (bytes : List ℕ) × (new ≡ old ++ bytes) × CanonMessage set d bytes m e

pub written_is : (set : List Resolved) (m : Content) (members : Instructions) {d e : Dictionary} {old new : List ℕ} → members_of set m.template ≡ Some members → whole_refusal members m.items ≡ None
    → AddsBytes (in_segment true (of_message members m)) d old e new → Written set d m old e new
written_is set m members named whole a = (a.form, a.bytes, record { few = (fitting members m.items whole).few; segment = rw (named) a.stands })
