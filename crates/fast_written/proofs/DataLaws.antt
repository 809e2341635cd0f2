-- What the data of JSON has under a key.
use Rattle.std.proofs.Common.{◌≡◌, ℕ, List, Bool, true, false, cond, Option, Some, None, option_map, Bor, refl, sym, ap, subst, ap₂, ◌∙◌, ◌&&◌, is_some, option_and_then, true≢false, arith, length, ◌<◌}
use Rattle.std.proofs.lemmas.Slice.Eq.{bytes_eq-Decides}
use Rattle.std.proofs.lemmas.List.{length-append}
use Rattle.std.specs.Prelude.{IfSome}
use Rattle.json.specs.Tree.{json_tokens, members_tokens}
use Rattle.std.specs.Option.{option_or, option_map_or}
use Rattle.std.specs.Str.{bytes_eq}
use Rattle.json.specs.Json as json
use Rattle.json.specs.Find as find
use Rattle.json.specs.Value.{value_view}
use Rattle.json.specs.declared.value.Value.{Value}
use Rattle.serde_json.specs.Data.{Data, Num, null, number, array, object, Items, item, Members, no_members, put}
use Rattle.serde_json.specs.Find.{get, get_member, as_str}
use Rattle.serde_json.specs.Read.{number_of, of_items, of_json, of_members}
use Rattle.serde_json.proofs.Views.{get_member-put, get_member-put_other}
use Rattle.fast_written.specs.JsonData.{data_of, data_in, items_fit, items_of, members_fit, members_of, numbers_fit}

put_by : (name k : List ℕ) (d : Data) (found : Members) (b : Bool) → bytes_eq k name ≡ b
    → get_member name (put k d found) ≡ cond b (Some d) (get_member name found)
put_by name k d found true e = subst (λ x. get_member x (put k d found) ≡ Some d) ((bytes_eq-Decides k name).0 e) (get_member-put k d found)
put_by name k d found false e = get_member-put_other name k d found (λ h. true≢false (sym ((bytes_eq-Decides k name).1 (sym h)) ∙ e))

later : (o : Option json.Json) (b : Bool) (j : json.Json) (p : Option Data)
    → option_or (option_map data_of o) (cond b (Some (data_of j)) p)
    ≡ option_or (option_map data_of (find.later_or o (cond b (Some j) None))) p
later None true j p = refl
later None false j p = refl
later (Some x) b j p = refl

-- the last of the members of a name, or what was found before
pub found_in : (name : List ℕ) (ms : json.Members) (found : Members)
    → get_member name (members_of ms found) ≡ option_or (option_map data_of (find.get_member name ms)) (get_member name found)
found_in name json.no_members found = refl
found_in name (json.member k j ms) found =
    found_in name ms (put k (data_of j) found)
    ∙ ap (option_or (option_map data_of (find.get_member name ms))) (put_by name k (data_of j) found (bytes_eq k name) refl)
    ∙ later (find.get_member name ms) (bytes_eq k name) j (get_member name found)

or_none : {A : Type 0} (o : Option A) → option_or o None ≡ o
or_none None = refl
or_none (Some a) = refl

in_number : (name : List ℕ) (o : Option Num) → get name (option_map_or number o null) ≡ None
in_number name None = refl
in_number name (Some n) = refl

pub get_is : (name : List ℕ) (j : json.Json) → get name (data_of j) ≡ option_map data_of (find.get name j)
get_is name json.null = refl
get_is name (json.boolean b) = refl
get_is name (json.number s) = in_number name (number_of s)
get_is name (json.string s) = refl
get_is name (json.array js) = refl
get_is name (json.object ms) = found_in name ms _ ∙ or_none (option_map data_of (find.get_member name ms))

text_of_number : (o : Option Num) → as_str (option_map_or number o null) ≡ None
text_of_number None = refl
text_of_number (Some n) = refl

pub as_str_is : (j : json.Json) → as_str (data_of j) ≡ find.as_str j
as_str_is json.null = refl
as_str_is (json.boolean b) = refl
as_str_is (json.number s) = text_of_number (number_of s)
as_str_is (json.string s) = refl
as_str_is (json.array js) = refl
as_str_is (json.object ms) = refl

abbrev json_or : json.Json → Option json.Json → json.Json
json_or d None = d
json_or d (Some j) = j

seen : {A : Type 0} (r : Option (Bor (Value A)))
    → option_map (λ v. data_in v.now) r ≡ option_map data_of (option_map (λ v. value_view v.now) r)
seen None = refl
seen (Some v) = refl

-- what is found in JSON under a name
pub looked_up : {A : Type 0} (r : Option (Bor (Value A))) (name : List ℕ) (v : Value A)
    → option_map (λ x. value_view x.now) r ≡ find.get name (value_view v) → option_map (λ x. data_in x.now) r ≡ get name (data_in v)
looked_up r name v is = seen r ∙ ap (option_map data_of) is ∙ sym (get_is name (value_view v))

-- ---- what is found is smaller

module _ (name : List ℕ) where
  found_smaller : (k : List ℕ) (j x : json.Json) (ms : json.Members) (o : Option json.Json) (b : Bool) → find.get_member name ms ≡ o
      → ((y : json.Json) → find.get_member name ms ≡ Some y → length (json_tokens y) < length (members_tokens ms))
      → find.later_or o (cond b (Some j) None) ≡ Some x → length (json_tokens x) < length (members_tokens (json.member k j ms))
  found_smaller k j x ms (Some y) b is later e =
      let less : length (json_tokens x) < length (members_tokens ms) = later x (is ∙ e) in
      omega (arith, length-append (json_tokens j) (members_tokens ms), less)
  found_smaller k j x ms None true is later e =
      let here : length (json_tokens j) < length (members_tokens (json.member k j ms)) =
      omega (arith, length-append (json_tokens j) (members_tokens ms)) in
      subst (λ y. length (json_tokens y) < length (members_tokens (json.member k j ms))) (ap (json_or x) e) here
  found_smaller k j x ms None false is later e = absurd (cc)

  pub member_smaller : (ms : json.Members) (x : json.Json) → find.get_member name ms ≡ Some x
      → length (json_tokens x) < length (members_tokens ms)
  member_smaller json.no_members x e = absurd (cc)
  member_smaller (json.member k j ms) x e = found_smaller k j x ms (find.get_member name ms) (bytes_eq k name) refl (member_smaller ms) e

  pub get_smaller : (j x : json.Json) → find.get name j ≡ Some x → length (json_tokens x) < length (json_tokens j)
  get_smaller json.null x e = absurd (cc)
  get_smaller (json.boolean b) x e = absurd (cc)
  get_smaller (json.number s) x e = absurd (cc)
  get_smaller (json.string s) x e = absurd (cc)
  get_smaller (json.array js) x e = absurd (cc)
  get_smaller (json.object ms) x e = let less = member_smaller ms x e in omega (arith, less)

pub smaller_of : {A : Type 0} (r : Option (Bor (Value A))) (name : List ℕ) (v : Value A)
    → option_map (λ x. value_view x.now) r ≡ find.get name (value_view v)
    → IfSome r (λ x. length (json_tokens (value_view x.now)) < length (json_tokens (value_view v)))
smaller_of None name v e = tt
smaller_of (Some x) name v e = get_smaller name (value_view v) (value_view x.now) (sym e)

-- ---- what `serde_json` reads of it

of_number : (o : Option Num) → option_map number o ≡ cond (is_some o) (Some (option_map_or number o null)) None
of_number None = refl
of_number (Some n) = refl

through : {A B : Type 0} (f : A → B) (b : Bool) (x : A) → option_map f (cond b (Some x) None) ≡ cond b (Some (f x)) None
through f true x = refl
through f false x = refl

item_through : (a b : Bool) (d : Data) (ds : Items)
    → option_and_then (λ x. option_map (item x) (cond b (Some ds) None)) (cond a (Some d) None) ≡ cond (a && b) (Some (item d ds)) None
item_through true true d ds = refl
item_through true false d ds = refl
item_through false b d ds = refl

member_through : (a b : Bool) (d : Data) (f : Data → Option Members) (ms : Members) → f d ≡ cond b (Some ms) None
    → option_and_then f (cond a (Some d) None) ≡ cond (a && b) (Some ms) None
member_through true b d f ms e = e
member_through false b d f ms e = refl

mutual
  pub of_json_is : (j : json.Json) → of_json j ≡ cond (numbers_fit j) (Some (data_of j)) None
  of_json_is json.null = refl
  of_json_is (json.boolean b) = refl
  of_json_is (json.number s) = of_number (number_of s)
  of_json_is (json.string s) = refl
  of_json_is (json.array js) = ap (option_map array) (of_items_is js) ∙ through array (items_fit js) (items_of js)
  of_json_is (json.object ms) =
      ap (option_map object) (of_members_is ms no_members) ∙ through object (members_fit ms) (members_of ms no_members)

  of_items_is : (js : json.Items) → of_items js ≡ cond (items_fit js) (Some (items_of js)) None
  of_items_is json.no_items = refl
  of_items_is (json.item j js) =
      ap₂ (λ o p. option_and_then (λ d. option_map (item d) p) o) (of_json_is j) (of_items_is js)
      ∙ item_through (numbers_fit j) (items_fit js) (data_of j) (items_of js)

  of_members_is : (ms : json.Members) (found : Members) → of_members ms found ≡ cond (members_fit ms) (Some (members_of ms found)) None
  of_members_is json.no_members found = refl
  of_members_is (json.member k j ms) found =
      ap (option_and_then (λ d. of_members ms (put k d found))) (of_json_is j)
      ∙ (let found = put k (data_of j) found in
      member_through (numbers_fit j) (members_fit ms) (data_of j) _ (members_of ms found) (of_members_is ms found))
