-- The steps of the loops that read.
use Rattle.std.proofs.Common.{◌≡◌, ℕ, zero, suc, ◌<◌, List, [], ◌∷◌, ◌++◌, length, map, replicate, set, Option, Some, None, option_map, option_and_then, refl, sym, ap, ◌∙◌, arith, append_assoc}
use Rattle.std.specs.Global.{Vec}
use Rattle.json.specs.Token as token
use Rattle.json.specs.Token.{Token}
use Rattle.json.specs.Json.{Json, null, boolean, number, string, array, object, Items as Listed, no_items as none_listed, item as listed, Members, no_members, member, after_end_array, read_key}
use Rattle.json.specs.Tree.{json_tokens, items_tokens, members_tokens}
use Rattle.fast_template.specs.declared.resolved.Flat.{Flat}
use Rattle.fast_template.specs.Resolved.{Instruction, Instructions, list_of}
use Rattle.fast_stream.specs.declared.message.Node.{Node}
use Rattle.fast_stream.specs.Nodes.{Elements, no_elements, then_element, item_of, items_in, elements_of}
use Rattle.fast_spelled.specs.Spelled.{item_by, items_by, element_by, elements_by}
use Rattle.fast_spelled.specs.Slots.{empty_slots, filled, filled_first, finished}
use Rattle.fast_spelled.specs.Tokens.{first_token, slots_of}
use Rattle.fast_spelled.proofs.Filling.{filled_is}

-- ---- tokens

abbrev tail_of : List Token → List Token
tail_of [] = []
tail_of (t ∷ ts) = ts

abbrev head_or : Token → List Token → Token
head_or d [] = d
head_or d (t ∷ ts) = t

abbrev pair_or : Option (List ℕ) × List Token → Option (Option (List ℕ) × List Token) → Option (List ℕ) × List Token
pair_or d None = d
pair_or d (Some p) = p

abbrev list_or : List Token → Option (List Token) → List Token
list_or d None = d
list_or d (Some x) = x

pub key_shorter : (ts : List Token) (k : Option (List ℕ)) (us : List Token) → read_key ts ≡ Some (k, us) → length us < length ts
key_shorter [] k us e = absurd (cc e)
key_shorter (token.begin_object ∷ ts) k us e = absurd (cc e)
key_shorter (token.end_object ∷ ts) k us e = omega (arith, ap (λ o. length (pair_or (k, us) o).1) e)
key_shorter (token.begin_array ∷ ts) k us e = absurd (cc e)
key_shorter (token.end_array ∷ ts) k us e = absurd (cc e)
key_shorter (token.key s ∷ ts) k us e = omega (arith, ap (λ o. length (pair_or (k, us) o).1) e)
key_shorter (token.string s ∷ ts) k us e = absurd (cc e)
key_shorter (token.number s ∷ ts) k us e = absurd (cc e)
key_shorter (token.boolean b ∷ ts) k us e = absurd (cc e)
key_shorter (token.null ∷ ts) k us e = absurd (cc e)
key_shorter (token.bad ∷ ts) k us e = absurd (cc e)

pub end_shorter : (ts us : List Token) → after_end_array ts ≡ Some us → length us < length ts
end_shorter [] us e = absurd (cc e)
end_shorter (token.begin_object ∷ ts) us e = absurd (cc e)
end_shorter (token.end_object ∷ ts) us e = absurd (cc e)
end_shorter (token.begin_array ∷ ts) us e = absurd (cc e)
end_shorter (token.end_array ∷ ts) us e = omega (arith, ap (λ o. length (list_or us o)) e)
end_shorter (token.key s ∷ ts) us e = absurd (cc e)
end_shorter (token.string s ∷ ts) us e = absurd (cc e)
end_shorter (token.number s ∷ ts) us e = absurd (cc e)
end_shorter (token.boolean b ∷ ts) us e = absurd (cc e)
end_shorter (token.null ∷ ts) us e = absurd (cc e)
end_shorter (token.bad ∷ ts) us e = absurd (cc e)

-- JSON begins with its first token
abbrev pub rest_tokens : Json → List Token
rest_tokens (array js) = items_tokens js
rest_tokens (object ms) = members_tokens ms
rest_tokens j = []

pub first_first : (j : Json) → json_tokens j ≡ first_token j ∷ rest_tokens j
first_first null = refl
first_first (boolean b) = refl
first_first (number s) = refl
first_first (string s) = refl
first_first (array js) = refl
first_first (object ms) = refl

pub head_is : (j : Json) (rest ts : List Token) (t : Token) → t ∷ ts ≡ json_tokens j ++ rest → t ≡ first_token j
head_is j rest ts t e = ap (head_or t) (e ∙ ap (λ l. l ++ rest) (first_first j))

pub tail_is : (j : Json) (rest ts : List Token) (t : Token) → t ∷ ts ≡ json_tokens j ++ rest → ts ≡ rest_tokens j ++ rest
tail_is j rest ts t e = ap tail_of (e ∙ ap (λ l. l ++ rest) (first_first j))

not_end : (j : Json) (rest : List Token) → after_end_array (json_tokens j ++ rest) ≡ None
not_end null rest = refl
not_end (boolean b) rest = refl
not_end (number s) rest = refl
not_end (string s) rest = refl
not_end (array js) rest = refl
not_end (object ms) rest = refl

-- ---- elements

abbrev pub elements_before : List (Vec Node) → Elements → Elements
elements_before [] rest = rest
elements_before (v ∷ vs) rest = then_element (items_in v.items) (elements_before vs rest)

abbrev pub By : Instructions → Listed → Option Elements
By is js = elements_by (λ ms. items_by is ms) js

-- these elements are read, and the rest is left
pub record ElementsLeft (is : Instructions) (js : Listed) (rest reader : List Token) (done : List (Vec Node)) : Type 0 where
  pub left : Listed
  pub stands : reader ≡ items_tokens left ++ rest
  pub so_far : By is js ≡ option_map (elements_before done) (By is left)

as_it_is : (o : Option Elements) → o ≡ option_map (elements_before []) o
as_it_is None = refl
as_it_is (Some x) = refl

pub elements_begin : (is : Instructions) (js : Listed) (rest reader : List Token) → reader ≡ items_tokens js ++ rest → ElementsLeft is js rest reader []
elements_begin is js rest reader e = record { left = js; stands = e; so_far = as_it_is (By is js) }

pub whole_elements : (vs : List (Vec Node)) → elements_before vs no_elements ≡ elements_of (map (λ v. items_in v.items) vs)
whole_elements [] = refl
whole_elements (v ∷ vs) = ap (then_element (items_in v.items)) (whole_elements vs)

closes : (is : Instructions) (js left : Listed) (rest reader next : List Token) (done : List (Vec Node)) → reader ≡ items_tokens left ++ rest → By is js ≡ option_map (elements_before done) (By is left) → after_end_array reader ≡ Some next
    → (By is js ≡ Some (elements_of (map (λ v. items_in v.items) done))) × (next ≡ rest)
closes is js none_listed rest reader next done e f g = (f ∙ ap Some (whole_elements done), sym (ap (list_or next) (sym (ap after_end_array e) ∙ g)))
closes is js (listed j more) rest reader next done e f g =
    absurd (cc (sym (ap after_end_array (e ∙ append_assoc (json_tokens j) (items_tokens more) rest) ∙ not_end j (items_tokens more ++ rest)) ∙ g))

pub elements_end : {is : Instructions} {js : Listed} {rest reader : List Token} {done : List (Vec Node)} → ElementsLeft is js rest reader done → (next : List Token) → after_end_array reader ≡ Some next
    → (By is js ≡ Some (elements_of (map (λ v. items_in v.items) done))) × (next ≡ rest)
elements_end {is = is} {js = js} {rest = rest} {reader = reader} {done = done} x next g = closes is js x.left rest reader next done x.stands x.so_far g

-- an element that is next
pub record Next (is : Instructions) (js : Listed) (rest reader : List Token) (done : List (Vec Node)) : Type 0 where
  pub one : Json
  pub more : Listed
  pub stands : reader ≡ json_tokens one ++ (items_tokens more ++ rest)
  pub so_far : By is js ≡ option_map (elements_before done) (option_and_then (λ ns. option_map (then_element ns) (By is more)) (element_by (λ ms. items_by is ms) one))

goes_on : (is : Instructions) (js left : Listed) (rest reader : List Token) (done : List (Vec Node)) → reader ≡ items_tokens left ++ rest → By is js ≡ option_map (elements_before done) (By is left) → after_end_array reader ≡ None
    → Next is js rest reader done
goes_on is js none_listed rest reader done e f g = absurd (cc (sym (ap after_end_array e) ∙ g))
goes_on is js (listed j more) rest reader done e f g = record { one = j; more = more; stands = e ∙ append_assoc (json_tokens j) (items_tokens more) rest; so_far = f }

pub elements_next : {is : Instructions} {js : Listed} {rest reader : List Token} {done : List (Vec Node)} → ElementsLeft is js rest reader done → after_end_array reader ≡ None → Next is js rest reader done
elements_next {is = is} {js = js} {rest = rest} {reader = reader} {done = done} x g = goes_on is js x.left rest reader done x.stands x.so_far g

-- it is an object
pub record Opened (is : Instructions) (js : Listed) (rest after : List Token) (done : List (Vec Node)) : Type 0 where
  pub members : Members
  pub more : Listed
  pub stands : after ≡ members_tokens members ++ (items_tokens more ++ rest)
  pub so_far : By is js ≡ option_map (elements_before done) (option_and_then (λ ns. option_map (then_element ns) (By is more)) (items_by is members))

opens : (is : Instructions) (js more : Listed) (one : Json) (rest reader after : List Token) (done : List (Vec Node)) → reader ≡ json_tokens one ++ (items_tokens more ++ rest)
    → By is js ≡ option_map (elements_before done) (option_and_then (λ ns. option_map (then_element ns) (By is more)) (element_by (λ ms. items_by is ms) one)) → reader ≡ token.begin_object ∷ after → Opened is js rest after done
opens is js more (object ms) rest reader after done e f g = record { members = ms; more = more; stands = ap tail_of (sym g ∙ e); so_far = f }
opens is js more null rest reader after done e f g = absurd (cc (ap (head_or token.bad) (sym g ∙ e)))
opens is js more (boolean b) rest reader after done e f g = absurd (cc (ap (head_or token.bad) (sym g ∙ e)))
opens is js more (number s) rest reader after done e f g = absurd (cc (ap (head_or token.bad) (sym g ∙ e)))
opens is js more (string s) rest reader after done e f g = absurd (cc (ap (head_or token.bad) (sym g ∙ e)))
opens is js more (array is2) rest reader after done e f g = absurd (cc (ap (head_or token.bad) (sym g ∙ e)))

pub element_opens : {is : Instructions} {js : Listed} {rest reader : List Token} {done : List (Vec Node)} → Next is js rest reader done → (after : List Token) → reader ≡ token.begin_object ∷ after → Opened is js rest after done
element_opens {is = is} {js = js} {rest = rest} {reader = reader} {done = done} x after g = opens is js x.more x.one rest reader after done x.stands x.so_far g

-- or it is none
no_object : (is : Instructions) (js more : Listed) (one : Json) (rest reader after : List Token) (done : List (Vec Node)) (t : Token) → reader ≡ json_tokens one ++ (items_tokens more ++ rest)
    → By is js ≡ option_map (elements_before done) (option_and_then (λ ns. option_map (then_element ns) (By is more)) (element_by (λ ms. items_by is ms) one)) → reader ≡ t ∷ after → (t ≡ token.begin_object → ⊥) → By is js ≡ None
no_object is js more (object ms) rest reader after done t e f g h = absurd (h (ap (head_or t) (sym g ∙ e)))
no_object is js more null rest reader after done t e f g h = f
no_object is js more (boolean b) rest reader after done t e f g h = f
no_object is js more (number s) rest reader after done t e f g h = f
no_object is js more (string s) rest reader after done t e f g h = f
no_object is js more (array is2) rest reader after done t e f g h = f

pub element_is_none : {is : Instructions} {js : Listed} {rest reader : List Token} {done : List (Vec Node)} → Next is js rest reader done → (after : List Token) (t : Token) → reader ≡ t ∷ after → (t ≡ token.begin_object → ⊥) → By is js ≡ None
element_is_none {is = is} {js = js} {rest = rest} {reader = reader} {done = done} x after t g h = no_object is js x.more x.one rest reader after done t x.stands x.so_far g h

pub elements_more : (vs : List (Vec Node)) (v : Vec Node) (rest : Elements) → elements_before vs (then_element (items_in v.items) rest) ≡ elements_before (vs ++ v ∷ []) rest
elements_more [] v rest = refl
elements_more (w ∷ vs) v rest = ap (then_element (items_in w.items)) (elements_more vs v rest)

one_more : (vs : List (Vec Node)) (v : Vec Node) (o : Option Elements) → option_map (elements_before vs) (option_map (then_element (items_in v.items)) o) ≡ option_map (elements_before (vs ++ v ∷ [])) o
one_more vs v None = refl
one_more vs v (Some x) = ap Some (elements_more vs v x)

pub element_read : {is : Instructions} {js : Listed} {rest after : List Token} {done : List (Vec Node)} → (x : Opened is js rest after done) → (v : Vec Node) (reader : List Token) → items_by is x.members ≡ Some (items_in v.items) → reader ≡ items_tokens x.more ++ rest
    → ElementsLeft is js rest reader (done ++ v ∷ [])
element_read {is = is} {done = done} x v reader e f = record {
  left = x.more;
  stands = f;
  so_far = x.so_far ∙ ap (λ o. option_map (elements_before done) (option_and_then (λ ns. option_map (then_element ns) (By is x.more)) o)) e ∙ one_more done v (By is x.more);
}

pub element_refused : {is : Instructions} {js : Listed} {rest after : List Token} {done : List (Vec Node)} → (x : Opened is js rest after done) → items_by is x.members ≡ None → By is js ≡ None
element_refused {is = is} {done = done} x e = x.so_far ∙ ap (λ o. option_map (elements_before done) (option_and_then (λ ns. option_map (then_element ns) (By is x.more)) o)) e

-- ---- members

-- these slots are filled, and the rest is left
pub record MembersLeft (is : Instructions) (ms : Members) (rest reader : List Token) (slots : List (Option Node)) : Type 0 where
  pub left : Members
  pub stands : reader ≡ members_tokens left ++ rest
  pub so_far : items_by is ms ≡ filled is (slots_of slots) left

pub empty : (flats : List Flat) → slots_of (replicate (length flats) None) ≡ empty_slots (list_of flats)
empty [] = refl
empty (f ∷ fs) = ap (λ l. None ∷ l) (empty fs)

pub members_begin : (flats : List Flat) (ms : Members) (rest reader : List Token) (slots : List (Option Node)) → slots ≡ replicate (length flats) None → reader ≡ members_tokens ms ++ rest → MembersLeft (list_of flats) ms rest reader slots
members_begin flats ms rest reader slots e f = record {
  left = ms;
  stands = f;
  so_far = sym (filled_is (list_of flats) ms) ∙ ap (λ s. filled (list_of flats) s ms) (sym (ap slots_of e ∙ empty flats));
}

brace : (is : Instructions) (ms left : Members) (rest reader next : List Token) (slots : List (Option Node)) → reader ≡ members_tokens left ++ rest → items_by is ms ≡ filled is (slots_of slots) left → read_key reader ≡ Some (None, next)
    → (items_by is ms ≡ finished is (slots_of slots)) × (next ≡ rest)
brace is ms no_members rest reader next slots e f g = (f, sym (ap (λ o. (pair_or (None, next) o).1) (sym (ap read_key e) ∙ g)))
brace is ms (member k j more) rest reader next slots e f g = absurd (cc (ap (λ o. (pair_or (None, next) o).0) (sym (ap read_key e) ∙ g)))

pub members_end : {is : Instructions} {ms : Members} {rest reader : List Token} {slots : List (Option Node)} → MembersLeft is ms rest reader slots → (next : List Token) → read_key reader ≡ Some (None, next)
    → (items_by is ms ≡ finished is (slots_of slots)) × (next ≡ rest)
members_end {is = is} {ms = ms} {rest = rest} {reader = reader} {slots = slots} x next g = brace is ms x.left rest reader next slots x.stands x.so_far g

-- a member whose name has been read
pub record Named (is : Instructions) (ms : Members) (rest after : List Token) (slots : List (Option Node)) (name : List ℕ) : Type 0 where
  pub one : Json
  pub more : Members
  pub stands : after ≡ json_tokens one ++ (members_tokens more ++ rest)
  pub so_far : items_by is ms ≡ option_and_then (λ next. filled is next more) (filled_first is (slots_of slots) name one)

abbrev name_or : List ℕ → Option (List ℕ) → List ℕ
name_or d None = d
name_or d (Some x) = x

named : (is : Instructions) (ms left : Members) (rest reader next : List Token) (slots : List (Option Node)) (name : List ℕ) → reader ≡ members_tokens left ++ rest → items_by is ms ≡ filled is (slots_of slots) left → read_key reader ≡ Some (Some name, next)
    → Named is ms rest next slots name
named is ms no_members rest reader next slots name e f g = absurd (cc (ap (λ o. (pair_or (None, next) o).0) (sym (ap read_key e) ∙ g)))
named is ms (member k j more) rest reader next slots name e f g =
    let same = sym (ap read_key e) ∙ g in
    let key_is : k ≡ name = ap (λ o. name_or name (pair_or (None, next) o).0) same in
    record {
      one = j;
      more = more;
      stands = sym (ap (λ o. (pair_or (None, next) o).1) same) ∙ append_assoc (json_tokens j) (members_tokens more) rest;
      so_far = f ∙ ap (λ n. option_and_then (λ s. filled is s more) (filled_first is (slots_of slots) n j)) key_is;
    }

pub member_named : {is : Instructions} {ms : Members} {rest reader : List Token} {slots : List (Option Node)} → MembersLeft is ms rest reader slots → (next : List Token) (name : List ℕ) → read_key reader ≡ Some (Some name, next) → Named is ms rest next slots name
member_named {is = is} {ms = ms} {rest = rest} {reader = reader} {slots = slots} x next name g = named is ms x.left rest reader next slots name x.stands x.so_far g

always_key : (left : Members) (rest reader : List Token) → reader ≡ members_tokens left ++ rest → read_key reader ≡ None → ⊥
always_key no_members rest reader e g = absurd (cc (sym (ap read_key e) ∙ g))
always_key (member k j more) rest reader e g = absurd (cc (sym (ap read_key e) ∙ g))

pub members_key : {is : Instructions} {ms : Members} {rest reader : List Token} {slots : List (Option Node)} → MembersLeft is ms rest reader slots → read_key reader ≡ None → ⊥
members_key {rest = rest} {reader = reader} x g = always_key x.left rest reader x.stands g

pub map-set : (slots : List (Option Node)) (place : ℕ) (n : Node) → slots_of (set slots place (Some n)) ≡ set (slots_of slots) place (Some (item_of n))
map-set [] place n = refl
map-set (s ∷ slots) zero n = refl
map-set (s ∷ slots) (suc place) n = ap (λ l. option_map item_of s ∷ l) (map-set slots place n)

pub member_read : {is : Instructions} {ms : Members} {rest after : List Token} {slots : List (Option Node)} {name : List ℕ} → (x : Named is ms rest after slots name) → (i : Instruction) (place : ℕ) (n : Node) (reader : List Token)
    → filled_first is (slots_of slots) name x.one ≡ option_map (λ v. set (slots_of slots) place (Some v)) (item_by i x.one) → item_by i x.one ≡ Some (item_of n) → reader ≡ members_tokens x.more ++ rest
    → MembersLeft is ms rest reader (set slots place (Some n))
member_read {is = is} {slots = slots} x i place n reader e f g = record {
  left = x.more;
  stands = g;
  so_far = x.so_far ∙ ap (option_and_then (λ next. filled is next x.more)) (e ∙ ap (option_map (λ v. set (slots_of slots) place (Some v))) f) ∙ ap (λ s. filled is s x.more) (sym (map-set slots place n));
}

pub member_refused : {is : Instructions} {ms : Members} {rest after : List Token} {slots : List (Option Node)} {name : List ℕ} → (x : Named is ms rest after slots name) → (i : Instruction) (place : ℕ)
    → filled_first is (slots_of slots) name x.one ≡ option_map (λ v. set (slots_of slots) place (Some v)) (item_by i x.one) → item_by i x.one ≡ None → items_by is ms ≡ None
member_refused {is = is} {slots = slots} x i place e f = x.so_far ∙ ap (option_and_then (λ next. filled is next x.more)) (e ∙ ap (option_map (λ v. set (slots_of slots) place (Some v))) f)

pub member_unknown : {is : Instructions} {ms : Members} {rest after : List Token} {slots : List (Option Node)} {name : List ℕ} → (x : Named is ms rest after slots name) → filled_first is (slots_of slots) name x.one ≡ None → items_by is ms ≡ None
member_unknown {is = is} x e = x.so_far ∙ ap (option_and_then (λ next. filled is next x.more)) e
