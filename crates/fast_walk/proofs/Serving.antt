-- Each part of a set's template is told as such, and its key is a key of the set.
use Rattle.fast_walk.proofs.Common.{◌≡◌, ℕ, Bool, true, false, List, [], ◌∷◌, map, Option, Some, refl, arith, Contains, IsTrue, find, option_map, if◌then◌else◌, Contains-append_left, Contains-append_right, AllByRecursion, Key, Kind, Part, Presence, FieldPart, Mandatory, FlatTemplate, Instruction, Instructions, whole_field, field_in_parts, group_of, sequence_of, no_instructions, then_instruction, keys_of_one, keys_of, Resolved, resolved_of, list_of, TemplateList, IsPartOf, IsSound, HasTypedParts, HaveTypedParts, templates_in, keys_of_all, identifier_key, has_id, template_of, members_of, IsServed, IsServedWith, AreServed, ServesAll}
use Rattle.fast_stream.proofs.FoundMembers.{members_have}
use Rattle.fast_walk.proofs.Telling.{part_told}

abbrev Serves : (Key → Bool) → List Key → Type 0
Serves serves ks = (k : Key) → Contains ks k → IsTrue (serves k)

part_served : (serves : Key → Bool) (part : Part) (kind : Kind) (presence : Presence) (p : FieldPart) → IsPartOf part kind presence p → IsTrue (serves p.key) → IsServedWith serves part kind presence p
part_served serves part kind presence p typed h = ((h, part_told part kind presence p typed), typed.presence_is)

mutual
  served_one : (serves : Key → Bool) (i : Instruction) → HasTypedParts i → Serves serves (keys_of_one i) → IsServed serves i
  served_one serves (whole_field name number presence whole) typed h = part_served serves Part.Whole whole.kind presence whole typed (h whole.key (0, omega arith, refl))
  served_one serves (field_in_parts name number presence exponent mantissa) typed h =
      (part_served serves Part.Exponent Kind.Int32 presence exponent typed.0 (h exponent.key (0, omega arith, refl)), part_served serves Part.Mantissa Kind.Int64 Mandatory mantissa typed.1 (h mantissa.key (1, omega arith, refl)))
  served_one serves (group_of name number presence members) typed h = served_list serves members typed h
  served_one serves (sequence_of name number presence length members) typed h =
      (part_served serves Part.Length Kind.UInt32 presence length typed.0 (h length.key (0, omega arith, refl)), served_list serves members typed.1 (λ k there. h k (Contains-append_right (length.key ∷ []) (keys_of members) k there)))

  served_list : (serves : Key → Bool) (is : Instructions) → HaveTypedParts is → Serves serves (keys_of is) → AreServed serves is
  served_list serves no_instructions typed h = tt
  served_list serves (then_instruction i is) typed h =
      (served_one serves i typed.0 (λ k there. h k (Contains-append_left (keys_of_one i) (keys_of is) k there)), served_list serves is typed.1 (λ k there. h k (Contains-append_right (keys_of_one i) (keys_of is) k there)))

served_all : (serves : Key → Bool) (ts : List Resolved) → AllByRecursion (λ t. HaveTypedParts t.members) ts → Serves serves (keys_of_all ts) → AllByRecursion (λ t. AreServed serves t.members) ts
served_all serves [] typed h = tt
served_all serves (t ∷ ts) typed h =
    (served_list serves t.members typed.0 (λ k there. h k (Contains-append_left (keys_of t.members) (keys_of_all ts) k there)), served_all serves ts typed.1 (λ k there. h k (Contains-append_right (keys_of t.members) (keys_of_all ts) k there)))

pub members_served : (serves : Key → Bool) (set : TemplateList) (id : ℕ) (members : Instructions) → IsSound set → ServesAll serves set → members_of (templates_in set) id ≡ Some members → AreServed serves members
members_served serves set id members sound h e =
    members_have (AreServed serves) (templates_in set) (served_all serves (templates_in set) sound.typed (λ k there. h k (Contains-append_right (identifier_key ∷ []) (keys_of_all (templates_in set)) k there))) id members e

-- ---- the template of an identifier

both : (b : Bool) (t : FlatTemplate) (o : Option FlatTemplate) (r : Option Resolved) → option_map (λ (x : Resolved). x.members) r ≡ option_map (λ (f : FlatTemplate). list_of f.members.items) o
    → option_map (λ (x : Resolved). x.members) (if b then Some (resolved_of t) else r) ≡ option_map (λ (f : FlatTemplate). list_of f.members.items) (if b then Some t else o)
both true t o r h = refl
both false t o r h = h

found_in : (ts : List FlatTemplate) (id : ℕ) → members_of (map resolved_of ts) id ≡ option_map (λ (f : FlatTemplate). list_of f.members.items) (find (λ t. has_id id t.id) ts)
found_in [] id = refl
found_in (t ∷ ts) id = both (has_id id t.id) t (find (λ t. has_id id t.id) ts) (find (λ t. has_id id t.id) (map resolved_of ts)) (found_in ts id)

pub found_members : (set : TemplateList) (id : ℕ) → members_of (templates_in set) id ≡ option_map (λ (f : FlatTemplate). list_of f.members.items) (template_of id set)
found_members set id = found_in set.templates id
