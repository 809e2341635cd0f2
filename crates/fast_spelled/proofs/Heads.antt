-- The head of a line, member by member.
use Rattle.std.proofs.Common.{◌≡◌, ◌⊎◌, inl, inr, Result, Ok, Err, MatchResult, IfOk, IfErr, IsSome, IsUtf8, Bool, ◌&&◌, ℕ, ◌<◌, ◌≤◌, true, false, List, [], ◌∷◌, ◌++◌, Option, Some, None, is_some, codes, option_map, option_and_then, refl, sym, ap, ap₂, ◌∙◌, subst, arith}
use Rattle.std.specs.Str.{bytes_eq}
use Rattle.std.proofs.lemmas.Slice.Eq.{bytes_eq-Decides}
use Rattle.json.specs.Token as token
use Rattle.json.specs.Token.{Token}
use Rattle.json.specs.Lex.{tokens}
use Rattle.json.specs.Json.{Json, null, boolean, number, string, array, object, Members, no_members, member, read_key, value, skip_value, if_last, document, max_depth}
use Rattle.json.specs.Tree.{json_tokens, members_tokens, depth, members_depth}
use Rattle.json.proofs.Printed.Trees.{value-json_tokens}
use Rattle.json.proofs.Nesting.{value-depth}
use Rattle.json.proofs.Found.{not_found, Some_inj}
use Rattle.fast_template.specs.TemplateSets.{TemplateList}
use Rattle.fast_template.specs.declared.resolved.FlatTemplate.{FlatTemplate}
use Rattle.fast_template.specs.Resolved.{resolved_of}
use Rattle.fast_stream.specs.declared.message.Message.{Message}
use Rattle.fast_stream.specs.Nodes.{Items, Content, content_of, nodes_in, node_limit}
use Rattle.fast_spelled.specs.declared.fault.LineFault.{LineFault}
use Rattle.fast_spelled.specs.declared.fault.LineCause.TheVariants.{Memory, Limit}
use Rattle.fast_spelled.specs.Tokens.{Refuses}
use Rattle.fast_spelled.proofs.Answering.{refused_by}
use Rattle.fast_spelled.specs.declared.head.Said.{Said}
use Rattle.fast_spelled.specs.declared.head.Said.TheVariants.{Nothing, Null, Text}
use Rattle.fast_spelled.specs.declared.head.Head.{Head}
use Rattle.fast_spelled.specs.declared.head.LinePart.{LinePart}
use Rattle.fast_spelled.specs.declared.head.LineHead.{LineHead}
use Rattle.fast_spelled.specs.declared.head.LinePart.TheVariants.{Template, Id, Fields}
use Rattle.fast_spelled.specs.Members.{first_named, without_first}
use Rattle.fast_spelled.specs.Numbered.{SpellsIn, numbered_by, packet_by}
use Rattle.fast_spelled.specs.Spelled.{template_by, fields_of, if_no_more, message_by, content_if, items_by, Spells}
use Rattle.fast_spelled.specs.Heads.{name_of_part, IsNoPart, first_or, without_more, others_behind, message_behind, there, said, HasSeen, message_after, TakesPart, message_of_head, StandsForNone, kept, IsHead}

-- ---- what is left of other members

-- a member of another name stays
stays : (o : Option Json) (name k : List ℕ) (j : Json) (ms : Members) → bytes_eq k name ≡ false → without_more o name (member k j ms) ≡ member k j (without_more o name ms)
stays None name k j ms e = rw e refl
stays (Some x) name k j ms e = refl

no_more_none : (ms : Members) → if_no_more ms None ≡ None
no_more_none no_members = refl
no_more_none (member k j ms) = refl

no_message : (others : Members) (o : Option FlatTemplate) (f : FlatTemplate → Option Content) → o ≡ None → if_no_more others (option_and_then f o) ≡ None
no_message others o f e = ap (λ x. if_no_more others (option_and_then f x)) e ∙ no_more_none others

-- one that no line has, or one that was there already
pub unknown : (set : TemplateList) (name id fields : Option Json) (k : List ℕ) (j : Json) (ms : Members) → IsNoPart k → message_behind set name id fields (member k j ms) ≡ None
unknown set name id fields k j ms x =
    ap (λ l. if_no_more l (option_and_then (λ t. fields_of t (first_or fields (codes "fields") (member k j ms))) (template_by set (first_or name (codes "template") (member k j ms)) (first_or id (codes "id") (member k j ms)))))
    (
    ap (λ l. without_more fields (codes "fields") (without_more id (codes "id") l)) (stays name (codes "template") k j ms x.no_template)
    ∙ ap (without_more fields (codes "fields")) (stays id (codes "id") k j (without_more name (codes "template") ms) x.no_id)
    ∙ stays fields (codes "fields") k j (without_more id (codes "id") (without_more name (codes "template") ms)) x.no_fields
    )

pub name_twice : (set : TemplateList) (n : Json) (id fields : Option Json) (j : Json) (ms : Members) → message_behind set (Some n) id fields (member (codes "template") j ms) ≡ None
name_twice set n None None j ms = refl
name_twice set n None (Some f) j ms = refl
name_twice set n (Some i) None j ms = refl
name_twice set n (Some i) (Some f) j ms = refl

pub id_twice : (set : TemplateList) (name : Option Json) (i : Json) (fields : Option Json) (j : Json) (ms : Members) → message_behind set name (Some i) fields (member (codes "id") j ms) ≡ None
id_twice set None i None j ms = refl
id_twice set None i (Some f) j ms = refl
id_twice set (Some n) i None j ms = refl
id_twice set (Some n) i (Some f) j ms = refl

pub fields_twice : (set : TemplateList) (name id : Option Json) (f : Json) (j : Json) (ms : Members) → message_behind set name id (Some f) (member (codes "fields") j ms) ≡ None
fields_twice set None None f j ms = refl
fields_twice set None (Some i) f j ms = refl
fields_twice set (Some n) None f j ms = refl
fields_twice set (Some n) (Some i) f j ms = refl

-- ---- the members that are taken

pub takes_name : (set : TemplateList) (id fields : Option Json) (j : Json) (ms : Members) → message_behind set None id fields (member (codes "template") j ms) ≡ message_behind set (Some j) id fields ms
takes_name set None None j ms = refl
takes_name set None (Some f) j ms = refl
takes_name set (Some i) None j ms = refl
takes_name set (Some i) (Some f) j ms = refl

pub takes_id : (set : TemplateList) (name fields : Option Json) (j : Json) (ms : Members) → message_behind set name None fields (member (codes "id") j ms) ≡ message_behind set name (Some j) fields ms
takes_id set None None j ms = refl
takes_id set None (Some f) j ms = refl
takes_id set (Some n) None j ms = refl
takes_id set (Some n) (Some f) j ms = refl

pub takes_fields : (set : TemplateList) (name id : Option Json) (j : Json) (ms : Members) → message_behind set name id None (member (codes "fields") j ms) ≡ message_behind set name id (Some j) ms
takes_fields set None None j ms = refl
takes_fields set None (Some i) j ms = refl
takes_fields set (Some n) None j ms = refl
takes_fields set (Some n) (Some i) j ms = refl

pub same_fields : (fields : Option Json) (k : List ℕ) (j : Json) (ms : Members) → bytes_eq k (codes "fields") ≡ false → first_or fields (codes "fields") (member k j ms) ≡ first_or fields (codes "fields") ms
same_fields None k j ms e = rw e refl
same_fields (Some f) k j ms e = refl

-- ---- those whose value is no name, no identifier

no_such_name : (set : TemplateList) (id fields : Option Json) (j : Json) (ms : Members) → ((s : TemplateList) (i : Json) → template_by s j i ≡ None) → message_behind set (Some j) id fields ms ≡ None
no_such_name set id fields j ms h =
    no_message (others_behind (Some j) id fields ms) (template_by set j (first_or id (codes "id") ms)) (λ t. fields_of t (first_or fields (codes "fields") ms)) (h set (first_or id (codes "id") ms))

pub bad_name : (set : TemplateList) (id fields : Option Json) (j : Json) (ms : Members) → ((s : TemplateList) (i : Json) → template_by s j i ≡ None) → message_behind set None id fields (member (codes "template") j ms) ≡ None
bad_name set id fields j ms h = takes_name set id fields j ms ∙ no_such_name set id fields j ms h

no_such_id : (set : TemplateList) (name fields : Option Json) (j : Json) (ms : Members) → ((s : TemplateList) (n : Json) → template_by s n j ≡ None) → message_behind set name (Some j) fields ms ≡ None
no_such_id set name fields j ms h =
    no_message (others_behind name (Some j) fields ms) (template_by set (first_or name (codes "template") ms) j) (λ t. fields_of t (first_or fields (codes "fields") ms)) (h set (first_or name (codes "template") ms))

pub bad_id : (set : TemplateList) (name fields : Option Json) (j : Json) (ms : Members) → ((s : TemplateList) (n : Json) → template_by s n j ≡ None) → message_behind set name None fields (member (codes "id") j ms) ≡ None
bad_id set name fields j ms h = takes_id set name fields j ms ∙ no_such_id set name fields j ms h

-- ---- a name, an identifier

pub no_name : (j : Json) → ((s : List ℕ) → j ≡ string s → ⊥) → (j ≡ null → ⊥) → (set : TemplateList) (i : Json) → template_by set j i ≡ None
no_name null h g set i = absurd (g refl)
no_name (boolean b) h g set i = refl
no_name (number s) h g set i = refl
no_name (string s) h g set i = absurd (h s refl)
no_name (array js) h g set i = refl
no_name (object ms) h g set i = refl

pub no_id : (j : Json) → ((s : List ℕ) → j ≡ number s → ⊥) → (j ≡ null → ⊥) → (set : TemplateList) (n : Json) → template_by set n j ≡ None
no_id null h g set n = absurd (g refl)
no_id (number s) h g set n = absurd (h s refl)
no_id (boolean b) h g set null = refl
no_id (boolean b) h g set (boolean c) = refl
no_id (boolean b) h g set (number s) = refl
no_id (boolean b) h g set (string s) = refl
no_id (boolean b) h g set (array js) = refl
no_id (boolean b) h g set (object ms) = refl
no_id (string t) h g set null = refl
no_id (string t) h g set (boolean c) = refl
no_id (string t) h g set (number s) = refl
no_id (string t) h g set (string s) = refl
no_id (string t) h g set (array js) = refl
no_id (string t) h g set (object ms) = refl
no_id (array is) h g set null = refl
no_id (array is) h g set (boolean c) = refl
no_id (array is) h g set (number s) = refl
no_id (array is) h g set (string s) = refl
no_id (array is) h g set (array js) = refl
no_id (array is) h g set (object ms) = refl
no_id (object is) h g set null = refl
no_id (object is) h g set (boolean c) = refl
no_id (object is) h g set (number s) = refl
no_id (object is) h g set (string s) = refl
no_id (object is) h g set (array js) = refl
no_id (object is) h g set (object ms) = refl

abbrev tail_of : List Token → List Token
tail_of [] = []
tail_of (t ∷ ts) = ts

abbrev head_or : Token → List Token → Token
head_or d [] = d
head_or d (t ∷ ts) = t

abbrev head_text : List ℕ → List Token → List ℕ
head_text d (token.string s ∷ ts) = s
head_text d (token.number s ∷ ts) = s
head_text d ts = d

pub reads_string : (j : Json) (rest old new : List Token) (s : List ℕ) → old ≡ json_tokens j ++ rest → old ≡ token.string s ∷ new → (string s ≡ j) × (new ≡ rest)
reads_string (string t) rest old new s e g = (ap string (ap (head_text s) (sym g ∙ e)), ap tail_of (sym g ∙ e))
reads_string null rest old new s e g = absurd (cc (sym g ∙ e))
reads_string (boolean b) rest old new s e g = absurd (cc (sym g ∙ e))
reads_string (number t) rest old new s e g = absurd (cc (sym g ∙ e))
reads_string (array js) rest old new s e g = absurd (cc (sym g ∙ e))
reads_string (object ms) rest old new s e g = absurd (cc (sym g ∙ e))

pub reads_number : (j : Json) (rest old new : List Token) (s : List ℕ) → old ≡ json_tokens j ++ rest → old ≡ token.number s ∷ new → (number s ≡ j) × (new ≡ rest)
reads_number (number t) rest old new s e g = (ap number (ap (head_text s) (sym g ∙ e)), ap tail_of (sym g ∙ e))
reads_number null rest old new s e g = absurd (cc (sym g ∙ e))
reads_number (boolean b) rest old new s e g = absurd (cc (sym g ∙ e))
reads_number (string t) rest old new s e g = absurd (cc (sym g ∙ e))
reads_number (array js) rest old new s e g = absurd (cc (sym g ∙ e))
reads_number (object ms) rest old new s e g = absurd (cc (sym g ∙ e))

pub reads_null : (j : Json) (rest old new : List Token) → old ≡ json_tokens j ++ rest → old ≡ token.null ∷ new → (null ≡ j) × (new ≡ rest)
reads_null null rest old new e g = (refl, ap tail_of (sym g ∙ e))
reads_null (boolean b) rest old new e g = absurd (cc (sym g ∙ e))
reads_null (number t) rest old new e g = absurd (cc (sym g ∙ e))
reads_null (string t) rest old new e g = absurd (cc (sym g ∙ e))
reads_null (array js) rest old new e g = absurd (cc (sym g ∙ e))
reads_null (object ms) rest old new e g = absurd (cc (sym g ∙ e))

-- ---- passing over a value

pub passed : (j : Json) (rest ts new : List Token) → depth j ≤ 127 → ts ≡ json_tokens j ++ rest → skip_value 128 ts ≡ Some new → new ≡ rest
passed j rest ts new h e p = sym (Some_inj rest new (sym (ap (option_map (λ x. x.1)) (ap (value 128) e ∙ value-json_tokens j 128 rest (omega (arith, h)))) ∙ p))

pub passes : (j : Json) (rest ts : List Token) → depth j ≤ 127 → ts ≡ json_tokens j ++ rest → skip_value 128 ts ≡ None → ⊥
passes j rest ts h e p = not_found rest (sym p ∙ ap (option_map (λ x. x.1)) (ap (value 128) e ∙ value-json_tokens j 128 rest (omega (arith, h))))

-- ---- a document

last : (o : Option (Json × List Token)) (j : Json) → option_and_then (λ p. if_last p.0 p.1) o ≡ Some j → o ≡ Some (j, [])
last None j e = not_found j e
last (Some (i, [])) j e = ap (λ x. Some (x, [])) (Some_inj i j e)
last (Some (i, t ∷ ts)) j e = not_found j e

pub document_depth : (text : List ℕ) (j : Json) → document text ≡ Some j → depth j ≤ 128
document_depth text j e = value-depth 128 (tokens text) [] j (last (value max_depth (tokens text)) j e)

-- ---- the members to come

-- the members of a line up to here, and those that are left
pub record LineLeft (packets : Bool) (ms : Members) (reader : List Token) (head : Head) (packet : Said) : Type 0 where
  pub left : Members
  pub fields : Option Json
  pub stands : reader ≡ members_tokens left
  pub shallow : members_depth left ≤ 127
  pub has_seen : HasSeen head fields
  pub same_message : (set : TemplateList) → message_by set (object (kept packets None ms)) ≡ message_after set head fields (kept packets (there number packet) left)
  pub same_fields : first_named (codes "fields") ms ≡ first_or fields (codes "fields") left
  pub same_packet : first_named (codes "packet") ms ≡ first_or (there number packet) (codes "packet") left

pub line_begins : (packets : Bool) (ms : Members) (reader : List Token) (head : Head) (packet : Said) → head.name ≡ Nothing → head.id ≡ Nothing → head.has_fields ≡ false → packet ≡ Nothing → members_depth ms ≤ 127 → reader ≡ members_tokens ms → LineLeft packets ms reader head packet
line_begins packets ms reader head packet n i f p shallow e = record {
  left = ms;
  fields = None;
  stands = e;
  shallow = shallow;
  has_seen = sym f;
  same_message = λ set.
      sym (ap₂ (λ a b. message_behind set (there string a) (there number b) None (kept packets None ms)) n i)
      ∙ ap (λ s. message_after set head None (kept packets (there number s) ms)) (sym p);
  same_fields = refl;
  same_packet = ap (λ s. first_or (there number s) (codes "packet") ms) (sym p);
}

-- a member whose name was read
pub record LineNamed (packets : Bool) (ms : Members) (after : List Token) (head : Head) (packet : Said) (name : List ℕ) : Type 0 where
  pub one : Json
  pub more : Members
  pub fields : Option Json
  pub stands : after ≡ json_tokens one ++ members_tokens more
  pub shallow : depth one ≤ 127
  pub more_shallow : members_depth more ≤ 127
  pub has_seen : HasSeen head fields
  pub same_message : (set : TemplateList) → message_by set (object (kept packets None ms)) ≡ message_after set head fields (kept packets (there number packet) (member name one more))
  pub same_fields : first_named (codes "fields") ms ≡ first_or fields (codes "fields") (member name one more)
  pub same_packet : first_named (codes "packet") ms ≡ first_or (there number packet) (codes "packet") (member name one more)

abbrev key_or : Option (List ℕ) × List Token → Option (Option (List ℕ) × List Token) → Option (List ℕ) × List Token
key_or d None = d
key_or d (Some p) = p

abbrev text_or : List ℕ → Option (List ℕ) → List ℕ
text_or d None = d
text_or d (Some s) = s

-- the name that is read is the first of those to come
pub record IsFirst (left : Members) (next : List Token) (name : List ℕ) : Type 0 where
  pub one : Json
  pub more : Members
  pub is : left ≡ member name one more
  pub stands : next ≡ json_tokens one ++ members_tokens more

pub first_is : (left : Members) (reader next : List Token) (name : List ℕ) → reader ≡ members_tokens left → read_key reader ≡ Some (Some name, next) → IsFirst left next name
first_is no_members reader next name e g = absurd (cc (ap (λ o. (key_or (None, next) o).0) (sym (ap read_key e) ∙ g)))
first_is (member k j more) reader next name e g =
    let same = sym (ap read_key e) ∙ g in
    record {
      one = j;
      more = more;
      is = ap (λ n. member n j more) (ap (λ o. text_or name (key_or (None, next) o).0) same);
      stands = sym (ap (λ o. (key_or (None, next) o).1) same);
    }

pub none_is : (left : Members) (reader next : List Token) → reader ≡ members_tokens left → read_key reader ≡ Some (None, next) → left ≡ no_members
none_is no_members reader next e g = refl
none_is (member k j more) reader next e g = absurd (cc (ap (λ o. (key_or (None, next) o).0) (sym (ap read_key e) ∙ g)))

pub always_key : (left : Members) (reader : List Token) → reader ≡ members_tokens left → read_key reader ≡ None → ⊥
always_key no_members reader e g = absurd (cc (sym (ap read_key e) ∙ g))
always_key (member k j more) reader e g = absurd (cc (sym (ap read_key e) ∙ g))

pub line_named : {packets : Bool} {ms : Members} {reader : List Token} {head : Head} {packet : Said} → LineLeft packets ms reader head packet → (next : List Token) (name : List ℕ) → read_key reader ≡ Some (Some name, next) → LineNamed packets ms next head packet name
line_named {packets = packets} {reader = reader} {head = head} {packet = packet} x next name g =
    let f = first_is x.left reader next name x.stands g in
    let d : members_depth (member name f.one f.more) ≤ 127 = subst (λ l. members_depth l ≤ 127) f.is x.shallow in
    record {
      one = f.one;
      more = f.more;
      fields = x.fields;
      stands = f.stands;
      shallow = omega (arith, d);
      more_shallow = omega (arith, d);
      has_seen = x.has_seen;
      same_message = λ set. x.same_message set ∙ ap (λ l. message_after set head x.fields (kept packets (there number packet) l)) f.is;
      same_fields = x.same_fields ∙ ap (first_or x.fields (codes "fields")) f.is;
      same_packet = x.same_packet ∙ ap (first_or (there number packet) (codes "packet")) f.is;
    }

not_both : (a b : Bool) → (a && b) ≡ false → a ≡ true → b ≡ false
not_both true b e is = e
not_both false b e is = absurd (cc is)

-- a member of another name is kept
kept_other : (packets : Bool) (packet : Option Json) (name : List ℕ) (j : Json) (ms : Members) → (packets ≡ true → bytes_eq name (codes "packet") ≡ false) → kept packets packet (member name j ms) ≡ member name j (kept packets packet ms)
kept_other true packet name j ms other = stays packet (codes "packet") name j ms (other refl)
kept_other false packet name j ms other = refl

no_packet : (part : LinePart) → bytes_eq (name_of_part part) (codes "packet") ≡ false
no_packet Template = refl
no_packet Id = refl
no_packet Fields = refl

same_part : (packets : Bool) (packet : Option Json) (part : LinePart) (j : Json) (ms : Members) → kept packets packet (member (name_of_part part) j ms) ≡ member (name_of_part part) j (kept packets packet ms)
same_part packets packet part j ms = kept_other packets packet (name_of_part part) j ms (λ there. no_packet part)

-- what is named by a part is none of another name
same_first : (o : Option Json) (part : LinePart) (j : Json) (ms : Members) → first_or o (codes "packet") (member (name_of_part part) j ms) ≡ first_or o (codes "packet") ms
same_first None part j ms = rw (no_packet part) refl
same_first (Some p) part j ms = refl

pub line_goes_on : {packets : Bool} {ms : Members} {after : List Token} {head : Head} {packet : Said} {name : List ℕ} → (x : LineNamed packets ms after head packet name) → (part : LinePart) (new : Head) (reader : List Token) → name ≡ name_of_part part → TakesPart part head x.fields x.one new → reader ≡ members_tokens x.more
    → LineLeft packets ms reader new packet
line_goes_on {packets = packets} {head = head} {packet = packet} x part new reader is t e = record {
  left = x.more;
  fields = t.now;
  stands = e;
  shallow = x.more_shallow;
  has_seen = t.has_seen;
  same_message = λ set.
      x.same_message set
      ∙ ap (λ n. message_after set head x.fields (kept packets (there number packet) (member n x.one x.more))) is
      ∙ ap (message_after set head x.fields) (same_part packets (there number packet) part x.one x.more)
      ∙ t.same_message set (kept packets (there number packet) x.more);
  same_fields = x.same_fields ∙ ap (λ n. first_or x.fields (codes "fields") (member n x.one x.more)) is ∙ t.same_fields x.more;
  same_packet = x.same_packet ∙ ap (λ n. first_or (there number packet) (codes "packet") (member n x.one x.more)) is ∙ same_first (there number packet) part x.one x.more;
}

-- ---- lines that stand for none

-- a message in a packet
abbrev pub in_packet : ℕ → Option Content → Option (ℕ × Content)
in_packet n o = option_map (λ m. (n, m)) o

numbered_none : (o : Option ℕ) (q : Option Content) → q ≡ None → option_and_then (λ n. in_packet n q) o ≡ None
numbered_none None q e = refl
numbered_none (Some n) q e = ap (in_packet n) e

none_kept : (packets : Bool) (set : TemplateList) (ms : Members) → message_by set (object (kept packets None ms)) ≡ None → StandsForNone packets set (object ms)
none_kept true set ms e = numbered_none (packet_by (first_named (codes "packet") ms)) (message_by set (object (kept true None ms))) e
none_kept false set ms e = e

-- the members of a line are those of its object
pub none_at : (packets : Bool) (set : TemplateList) (j : Json) (ms : Members) → j ≡ object ms → StandsForNone packets set (object ms) → StandsForNone packets set j
none_at packets set j ms is e = subst (StandsForNone packets set) (sym is) e

pub line_unknown : {packets : Bool} {ms : Members} {after : List Token} {head : Head} {packet : Said} {name : List ℕ} → LineNamed packets ms after head packet name → (packets && bytes_eq name (codes "packet")) ≡ false → IsNoPart name → (set : TemplateList) → StandsForNone packets set (object ms)
line_unknown {packets = packets} {ms = ms} {head = head} {packet = packet} {name = name} x other h set =
    none_kept packets set ms (
    x.same_message set
    ∙ ap (message_after set head x.fields) (kept_other packets (there number packet) name x.one x.more (not_both packets (bytes_eq name (codes "packet")) other))
    ∙ unknown set (there string head.name) (there number head.id) x.fields name x.one (kept packets (there number packet) x.more) h
    )

pub line_refused : {packets : Bool} {ms : Members} {after : List Token} {head : Head} {packet : Said} {name : List ℕ} → (x : LineNamed packets ms after head packet name) → (part : LinePart) → name ≡ name_of_part part
    → ((set : TemplateList) (more : Members) → message_after set head x.fields (member (name_of_part part) x.one more) ≡ None) → (set : TemplateList) → StandsForNone packets set (object ms)
line_refused {packets = packets} {ms = ms} {head = head} {packet = packet} x part is h set =
    none_kept packets set ms (
    x.same_message set
    ∙ ap (λ n. message_after set head x.fields (kept packets (there number packet) (member n x.one x.more))) is
    ∙ ap (message_after set head x.fields) (same_part packets (there number packet) part x.one x.more)
    ∙ h set (kept packets (there number packet) x.more)
    )

-- ---- the packet

both : (a b : Bool) → (a && b) ≡ true → (a ≡ true) × (b ≡ true)
both true b e = (refl, e)
both false b e = absurd (cc e)

pub is_the_packet : (packets : Bool) (name : List ℕ) → (packets && bytes_eq name (codes "packet")) ≡ true → (packets ≡ true) × (name ≡ codes "packet")
is_the_packet packets name e = let two = both packets (bytes_eq name (codes "packet")) e in (two.0, (bytes_eq-Decides name (codes "packet")).0 two.1)

-- it was not there before
pub line_takes_packet : {packets : Bool} {ms : Members} {after : List Token} {head : Head} {packet : Said} {name : List ℕ} → (x : LineNamed packets ms after head packet name) → (packets ≡ true) × (name ≡ codes "packet") → (new : Said) (reader : List Token)
    → packet ≡ Nothing → there number new ≡ Some x.one → reader ≡ members_tokens x.more → LineLeft packets ms reader head new
line_takes_packet {packets = packets} {head = head} {packet = packet} {name = name} x is new reader nothing now e = record {
  left = x.more;
  fields = x.fields;
  stands = e;
  shallow = x.more_shallow;
  has_seen = x.has_seen;
  same_message = λ set.
      x.same_message set
      ∙ ap (message_after set head x.fields) (
      ap (λ s. kept packets (there number s) (member name x.one x.more)) nothing
      ∙ ap₂ (λ b n. kept b None (member n x.one x.more)) is.0 is.1
      ∙ ap (λ o. kept true o x.more) (sym now)
      ∙ ap (λ b. kept b (there number new) x.more) (sym is.0)
      );
  same_fields = x.same_fields ∙ ap (λ n. first_or x.fields (codes "fields") (member n x.one x.more)) is.1 ∙ same_fields x.fields (codes "packet") x.one x.more refl;
  same_packet = x.same_packet ∙ ap₂ (λ s n. first_or (there number s) (codes "packet") (member n x.one x.more)) nothing is.1 ∙ ap (λ o. first_or o (codes "packet") x.more) (sym now);
}

packet_is_no_part : IsNoPart (codes "packet")
packet_is_no_part = record { no_template = refl; no_id = refl; no_fields = refl }

once_more : {packets : Bool} {ms : Members} {after : List Token} {head : Head} {packet : Said} {name : List ℕ} → (x : LineNamed packets ms after head packet name) → (packets ≡ true) × (name ≡ codes "packet") → (p : Json) → there number packet ≡ Some p → (set : TemplateList) → StandsForNone packets set (object ms)
once_more {packets = packets} {ms = ms} {head = head} {packet = packet} {name = name} x is p before set =
    none_kept packets set ms (
    x.same_message set
    ∙ ap (message_after set head x.fields) (ap (λ o. kept packets o (member name x.one x.more)) before ∙ ap₂ (λ b n. kept b (Some p) (member n x.one x.more)) is.0 is.1)
    ∙ unknown set (there string head.name) (there number head.id) x.fields (codes "packet") x.one x.more packet_is_no_part
    )

-- it was, or is no number
pub line_refuses_packet : {packets : Bool} {ms : Members} {after : List Token} {head : Head} {name : List ℕ} → (packet : Said) → (x : LineNamed packets ms after head packet name) → (packets ≡ true) × (name ≡ codes "packet") → (packet ≡ Nothing → packet_by x.one ≡ None) → (set : TemplateList) → StandsForNone packets set (object ms)
line_refuses_packet {packets = packets} {ms = ms} Nothing x is none set =
    let first : first_named (codes "packet") ms ≡ x.one = x.same_packet ∙ ap (λ n. first_or None (codes "packet") (member n x.one x.more)) is.1 in
    let no_number : packet_by (first_named (codes "packet") ms) ≡ None = ap packet_by first ∙ none refl in
    subst (λ b. StandsForNone b set (object ms)) (sym is.0) (ap (option_and_then (λ n. in_packet n (message_by set (object (without_first (codes "packet") ms))))) no_number)
line_refuses_packet Null x is none set = once_more x is null refl set
line_refuses_packet (Text s) x is none set = once_more x is (number s.now) refl set

-- ---- the end of the members

ended_as : (make : List ℕ → Json) (s : Said) (name : List ℕ) → first_or (there make s) name no_members ≡ said make s
ended_as make Nothing name = refl
ended_as make Null name = refl
ended_as make (Text s) name = refl

none_left : (name id fields : Option Json) → others_behind name id fields no_members ≡ no_members
none_left None None None = refl
none_left None None (Some f) = refl
none_left None (Some i) None = refl
none_left None (Some i) (Some f) = refl
none_left (Some n) None None = refl
none_left (Some n) None (Some f) = refl
none_left (Some n) (Some i) None = refl
none_left (Some n) (Some i) (Some f) = refl

whole_message : (set : TemplateList) (head : Head) (fields : Option Json) → message_after set head fields no_members ≡ message_of_head set head (first_or fields (codes "fields") no_members)
whole_message set head fields =
    ap (λ l. if_no_more l (option_and_then (λ t. fields_of t (first_or fields (codes "fields") no_members)) (template_by set (first_or (there string head.name) (codes "template") no_members) (first_or (there number head.id) (codes "id") no_members))))
    (none_left (there string head.name) (there number head.id) fields)
    ∙ ap₂ (λ a b. option_and_then (λ t. fields_of t (first_or fields (codes "fields") no_members)) (template_by set a b)) (ended_as string head.name (codes "template")) (ended_as number head.id (codes "id"))

kept_none : (packets : Bool) (packet : Option Json) → kept packets packet no_members ≡ no_members
kept_none true None = refl
kept_none true (Some p) = refl
kept_none false packet = refl

pub line_ends : {packets : Bool} {ms : Members} {reader : List Token} {head : Head} {packet : Said} → LineLeft packets ms reader head packet → (next : List Token) → read_key reader ≡ Some (None, next) → (set : TemplateList) → message_by set (object (kept packets None ms)) ≡ message_of_head set head (first_named (codes "fields") ms)
line_ends {packets = packets} {reader = reader} {head = head} {packet = packet} x next g set =
    let none = none_is x.left reader next x.stands g in
    x.same_message set ∙ ap (message_after set head x.fields) (ap (kept packets (there number packet)) none ∙ kept_none packets (there number packet)) ∙ whole_message set head x.fields ∙ ap (message_of_head set head) (sym (x.same_fields ∙ ap (first_or x.fields (codes "fields")) none))

no_fields_in : (o : Option FlatTemplate) → option_and_then (λ t. fields_of t null) o ≡ None
no_fields_in None = refl
no_fields_in (Some t) = refl

missing : (fields : Option Json) → is_some fields ≡ false → first_or fields (codes "fields") no_members ≡ null
missing None e = refl
missing (Some f) e = absurd (cc e)

pub line_without_fields : {packets : Bool} {ms : Members} {reader : List Token} {head : Head} {packet : Said} → LineLeft packets ms reader head packet → (next : List Token) → read_key reader ≡ Some (None, next) → head.has_fields ≡ false → (set : TemplateList) → StandsForNone packets set (object ms)
line_without_fields {packets = packets} {ms = ms} {reader = reader} {head = head} {packet = packet} x next g has set =
    let none = none_is x.left reader next x.stands g in
    none_kept packets set ms (
    x.same_message set
    ∙ ap (message_after set head x.fields) (ap (kept packets (there number packet)) none ∙ kept_none packets (there number packet))
    ∙ whole_message set head x.fields
    ∙ ap (message_of_head set head) (missing x.fields (x.has_seen ∙ has))
    ∙ no_fields_in (template_by set (said string head.name) (said number head.id))
    )

-- what was said of the packet is its first member
pub packet_ends : {packets : Bool} {ms : Members} {reader : List Token} {head : Head} {packet : Said} → LineLeft packets ms reader head packet → (next : List Token) → read_key reader ≡ Some (None, next) → first_named (codes "packet") ms ≡ said number packet
packet_ends {reader = reader} {packet = packet} x next g = x.same_packet ∙ ap (first_or (there number packet) (codes "packet")) (none_is x.left reader next x.stands g) ∙ ended_as number packet (codes "packet")

-- ---- a line that is no object

pub not_object : (packets : Bool) (j : Json) → ((ms : Members) → j ≡ object ms → ⊥) → (set : TemplateList) → StandsForNone packets set j
not_object packets (object ms) h set = absurd (h ms refl)
not_object true null h set = refl
not_object true (boolean b) h set = refl
not_object true (number s) h set = refl
not_object true (string s) h set = refl
not_object true (array js) h set = refl
not_object false null h set = refl
not_object false (boolean b) h set = refl
not_object false (number s) h set = refl
not_object false (string s) h set = refl
not_object false (array js) h set = refl

pub no_object_fields : (j : Json) → ((ms : Members) → j ≡ object ms → ⊥) → (t : FlatTemplate) → fields_of t j ≡ None
no_object_fields (object ms) h t = absurd (h ms refl)
no_object_fields null h t = refl
no_object_fields (boolean b) h t = refl
no_object_fields (number s) h t = refl
no_object_fields (string s) h t = refl
no_object_fields (array js) h t = refl

pub opens_object : (j : Json) (rest old new : List Token) → old ≡ json_tokens j ++ rest → old ≡ token.begin_object ∷ new → (ms : Members) × (j ≡ object ms) × (new ≡ members_tokens ms ++ rest)
opens_object (object ms) rest old new e g = (ms, refl, ap tail_of (sym g ∙ e))
opens_object null rest old new e g = absurd (cc (sym g ∙ e))
opens_object (boolean b) rest old new e g = absurd (cc (sym g ∙ e))
opens_object (number t) rest old new e g = absurd (cc (sym g ∙ e))
opens_object (string t) rest old new e g = absurd (cc (sym g ∙ e))
opens_object (array js) rest old new e g = absurd (cc (sym g ∙ e))

pub depth_within : (j : Json) (ms : Members) → depth j ≤ 128 → j ≡ object ms → members_depth ms ≤ 127
depth_within j ms d e = let two : depth (object ms) ≤ 128 = subst (λ k. depth k ≤ 128) e d in omega (arith, two)

-- ---- up to the fields

-- those that stand before the fields are passed
pub record FieldsLeft (ms : Members) (reader : List Token) : Type 0 where
  pub left : Members
  pub stands : reader ≡ members_tokens left
  pub shallow : members_depth left ≤ 127
  pub same : first_named (codes "fields") ms ≡ first_named (codes "fields") left

pub fields_begin : (ms : Members) (reader : List Token) → members_depth ms ≤ 127 → reader ≡ members_tokens ms → FieldsLeft ms reader
fields_begin ms reader d e = record { left = ms; stands = e; shallow = d; same = refl }

pub record FieldsNamed (ms : Members) (after : List Token) (name : List ℕ) : Type 0 where
  pub one : Json
  pub more : Members
  pub stands : after ≡ json_tokens one ++ members_tokens more
  pub shallow : depth one ≤ 127
  pub more_shallow : members_depth more ≤ 127
  pub same : first_named (codes "fields") ms ≡ first_named (codes "fields") (member name one more)

pub fields_named : {ms : Members} {reader : List Token} → FieldsLeft ms reader → (next : List Token) (name : List ℕ) → read_key reader ≡ Some (Some name, next) → FieldsNamed ms next name
fields_named {reader = reader} x next name g =
    let f = first_is x.left reader next name x.stands g in
    let d : members_depth (member name f.one f.more) ≤ 127 = subst (λ l. members_depth l ≤ 127) f.is x.shallow in
    record { one = f.one; more = f.more; stands = f.stands; shallow = omega (arith, d); more_shallow = omega (arith, d); same = x.same ∙ ap (first_named (codes "fields")) f.is }

pub fields_go_on : {ms : Members} {after : List Token} {name : List ℕ} → (x : FieldsNamed ms after name) → (reader : List Token) → bytes_eq name (codes "fields") ≡ false → reader ≡ members_tokens x.more → FieldsLeft ms reader
fields_go_on {name = name} x reader other e = record { left = x.more; stands = e; shallow = x.more_shallow; same = x.same ∙ same_fields None name x.one x.more other }

pub fields_missing : {ms : Members} {reader : List Token} → FieldsLeft ms reader → (next : List Token) → read_key reader ≡ Some (None, next) → (t : FlatTemplate) → fields_of t (first_named (codes "fields") ms) ≡ None
fields_missing {reader = reader} x next g t = ap (fields_of t) (x.same ∙ ap (first_named (codes "fields")) (none_is x.left reader next x.stands g))

pub fields_found : {ms : Members} {after : List Token} {name : List ℕ} → (x : FieldsNamed ms after name) → bytes_eq name (codes "fields") ≡ true → first_named (codes "fields") ms ≡ x.one
fields_found x e = x.same ∙ rw e refl

-- ---- fields that are taken

pub fields_taken : (part : LinePart) (head : Head) (fields : Option Json) (j : Json) (new : Head) → part ≡ Fields → HasSeen head fields → head.has_fields ≡ false → new.name ≡ head.name → new.id ≡ head.id → new.has_fields ≡ true → TakesPart part head fields j new
fields_taken part head (Some f) j new p seen unset same_name same_id has = absurd (cc (seen ∙ unset))
fields_taken part head None j new p seen unset same_name same_id has = record {
  now = Some j;
  has_seen = sym has;
  same_message = λ set ms. ap (λ q. message_after set head None (member (name_of_part q) j ms)) p ∙ takes_fields set (there string head.name) (there number head.id) j ms ∙ ap₂ (λ a b. message_behind set (there string a) (there number b) (Some j) ms) (sym same_name) (sym same_id);
  same_fields = λ ms. ap (λ q. first_or None (codes "fields") (member (name_of_part q) j ms)) p;
}

abbrev pub members_in : Json → Members
members_in (object ms) = ms
members_in j = no_members

pub fields_opened : (r : Result (Unit {0}) LineFault) (j first : Json) (rest new : List Token) → first ≡ j → MatchResult r (λ x. (fs : Members) × (j ≡ object fs) × (new ≡ members_tokens fs ++ rest)) (λ f. (fs : Members) → j ≡ object fs → ⊥)
    → MatchResult r (λ x. (fs : Members) × (more : List Token) × (first ≡ object fs) × (new ≡ members_tokens fs ++ more)) (λ f. (t : FlatTemplate) → fields_of t first ≡ None)
fields_opened (Ok x) j first rest new e h = (h.0, rest, e ∙ h.1, h.2)
fields_opened (Err f) j first rest new e h = λ t. ap (fields_of t) e ∙ no_object_fields j h t

-- ---- the message

pub fields_are : (t : FlatTemplate) (id : ℕ) (j : Json) (fs : Members) (ns : Items) → t.id ≡ Some id → j ≡ object fs → items_by (resolved_of t).members fs ≡ Some ns → fields_of t j ≡ Some (record { template = id; items = ns })
fields_are t id j fs ns named is read = ap (fields_of t) is ∙ ap₂ content_if named read

no_content : (id : Option ℕ) → content_if id None ≡ None
no_content None = refl
no_content (Some id) = refl

abbrev items_or : Items → Option Content → Items
items_or d None = d
items_or d (Some m) = m.items

content_over : (id : Option ℕ) (o : Option Items) (before : ℕ) → ((ns : Items) → o ≡ Some ns → before < nodes_in ns) → (m : Content) → content_if id o ≡ Some m → before < nodes_in m.items
content_over None o before h m e = absurd (cc e)
content_over (Some id) None before h m e = absurd (cc e)
content_over (Some id) (Some ns) before h m e = omega (arith, h ns refl, ap (λ o. nodes_in (items_or ns o)) e)

pub fields_refused : (t : FlatTemplate) (j : Json) (fs : Members) (before : ℕ) (f : LineFault) → j ≡ object fs → Refuses nodes_in before (items_by (resolved_of t).members fs) f → Refuses (λ m. nodes_in m.items) before (fields_of t j) f
fields_refused t j fs before f is h =
    refused_by f (λ p. ap (fields_of t) is ∙ ap (content_if t.id) p ∙ no_content t.id) (λ more m e. content_over t.id (items_by (resolved_of t).members fs) before more m (sym (ap (fields_of t) is) ∙ e)) h

-- ---- a line

pub some_of : {A : Type 0} (o : Option A) → IsSome o → (a : A) × (o ≡ Some a)
some_of None h = absurd (cc h)
some_of (Some a) h = (a, refl)

read_as : (set : TemplateList) (line : List ℕ) (j : Json) → document line ≡ Some j → option_and_then (message_by set) (document line) ≡ message_by set j
read_as set line j e = ap (option_and_then (message_by set)) e

pub no_spelling : (set : TemplateList) (line : List ℕ) (j : Json) → document line ≡ Some j → message_by set j ≡ None → (m : Content) → Spells set line m → ⊥
no_spelling set line j e none m s = not_found m (sym none ∙ sym (read_as set line j e) ∙ s.read)

-- the template that was found reads the fields
pub found_reads : (set : TemplateList) (head : Head) (fields : Json) (t : FlatTemplate) → template_by set (said string head.name) (said number head.id) ≡ Some t → message_of_head set head fields ≡ fields_of t fields
found_reads set head fields t e = ap (option_and_then (λ x. fields_of x fields)) e

-- or none was
pub no_template : (set : TemplateList) (head : Head) → None ≡ template_by set (said string head.name) (said number head.id) → (fields : Json) → message_of_head set head fields ≡ None
no_template set head e fields = ap (option_and_then (λ x. fields_of x fields)) (sym e)

no_id_in : (t : FlatTemplate) (j : Json) → t.id ≡ None → fields_of t j ≡ None
no_id_in t (object ms) e = ap (λ id. content_if id (items_by (resolved_of t).members ms)) e
no_id_in t null e = refl
no_id_in t (boolean b) e = refl
no_id_in t (number s) e = refl
no_id_in t (string s) e = refl
no_id_in t (array js) e = refl

pub without_id : (set : TemplateList) (head : Head) (t : FlatTemplate) → template_by set (said string head.name) (said number head.id) ≡ Some t → t.id ≡ None → (fields : Json) → message_of_head set head fields ≡ None
without_id set head t e none fields = found_reads set head fields t e ∙ no_id_in t fields none

-- what the head of a line says of its message
pub message_is : (set : TemplateList) (j : Json) (line : LineHead) (h : IsHead false j line) → message_by set j ≡ message_of_head set line.head (first_named (codes "fields") h.members)
message_is set j line h = ap (message_by set) h.is ∙ h.message set

pub spelled_as : (set : TemplateList) (line : List ℕ) (j : Json) (m : Content) → IsUtf8 line → document line ≡ Some j → message_by set j ≡ Some m → Spells set line m
spelled_as set line j m text e read = record { utf8 = text; read = read_as set line j e ∙ read }

-- what is answered of the fields is answered of the line
pub answered : (r : Result Message LineFault) (set : TemplateList) (line : List ℕ) (j : Json) (o : Option Content) → IsUtf8 line → document line ≡ Some j → message_by set j ≡ o
    → MatchResult r (λ m. (o ≡ Some (content_of m)) × (nodes_in (content_of m).items ≤ node_limit)) (λ f. Refuses (λ m. nodes_in m.items) node_limit o f)
    → MatchResult r (λ m. Spells set line (content_of m) × (nodes_in (content_of m).items ≤ node_limit))
    (λ f. (f.cause ≡ Memory) ⊎ ((m : Content) → Spells set line m → ⊥) ⊎ ((f.cause ≡ Limit) × ((m : Content) → Spells set line m → node_limit < nodes_in m.items)))
answered (Ok m) set line j o text e is h = (spelled_as set line j (content_of m) text e (is ∙ h.0), h.1)
answered (Err f) set line j o text e is h = go h where
  go : Refuses (λ m. nodes_in m.items) node_limit o f → (f.cause ≡ Memory) ⊎ ((m : Content) → Spells set line m → ⊥) ⊎ ((f.cause ≡ Limit) × ((m : Content) → Spells set line m → node_limit < nodes_in m.items))
  go (inl c) = inl c
  go (inr (inl none)) = inr (inl (no_spelling set line j e (is ∙ none)))
  go (inr (inr more)) = inr (inr (more.0, λ m s. more.1 m (sym is ∙ sym (read_as set line j e) ∙ s.read)))

-- one clause of it each
abbrev pub Answers : Result Message LineFault → TemplateList → List ℕ → Type 0
Answers r set line = MatchResult r (λ m. Spells set line (content_of m) × (nodes_in (content_of m).items ≤ node_limit))
    (λ f. (f.cause ≡ Memory) ⊎ ((m : Content) → Spells set line m → ⊥) ⊎ ((f.cause ≡ Limit) × ((m : Content) → Spells set line m → node_limit < nodes_in m.items)))

pub only_first : (r : Result Message LineFault) (set : TemplateList) (line : List ℕ) → Answers r set line → IfOk r (λ m. Spells set line (content_of m))
only_first (Ok m) set line h = h.0
only_first (Err f) set line h = tt

pub only_second : (r : Result Message LineFault) (set : TemplateList) (line : List ℕ) → Answers r set line → IfOk r (λ m. nodes_in (content_of m).items ≤ node_limit)
only_second (Ok m) set line h = h.1
only_second (Err f) set line h = tt

pub only_fault : (r : Result Message LineFault) (set : TemplateList) (line : List ℕ) → Answers r set line
    → IfErr r (λ f. (f.cause ≡ Memory) ⊎ ((m : Content) → Spells set line m → ⊥) ⊎ ((f.cause ≡ Limit) × ((m : Content) → Spells set line m → node_limit < nodes_in m.items)))
only_fault (Ok m) set line h = tt
only_fault (Err f) set line h = h

-- ---- a line of a packet

pub numbered_is : (set : TemplateList) (j : Json) (line : LineHead) (h : IsHead true j line) (n : ℕ) → Some n ≡ packet_by (said number line.packet) → numbered_by set j ≡ in_packet n (message_of_head set line.head (first_named (codes "fields") h.members))
numbered_is set j line h n e =
    ap (numbered_by set) h.is
    ∙ ap (λ o. option_and_then (λ k. in_packet k (message_by set (object (without_first (codes "packet") h.members)))) o) (ap packet_by h.packet ∙ sym e)
    ∙ ap (in_packet n) (h.message set)

pub no_number : (set : TemplateList) (j : Json) (line : LineHead) (h : IsHead true j line) → None ≡ packet_by (said number line.packet) → numbered_by set j ≡ None
no_number set j line h e =
    ap (numbered_by set) h.is ∙ ap (λ o. option_and_then (λ k. in_packet k (message_by set (object (without_first (codes "packet") h.members)))) o) (ap packet_by h.packet ∙ sym e)

numbered_as : (set : TemplateList) (line : List ℕ) (j : Json) → document line ≡ Some j → option_and_then (numbered_by set) (document line) ≡ numbered_by set j
numbered_as set line j e = ap (option_and_then (numbered_by set)) e

pub no_numbered : (set : TemplateList) (line : List ℕ) (j : Json) → document line ≡ Some j → numbered_by set j ≡ None → (n : ℕ) (m : Content) → SpellsIn set line n m → ⊥
no_numbered set line j e none n m s = not_found (n, m) (sym none ∙ sym (numbered_as set line j e) ∙ s.read)

in_packet_none : (n : ℕ) (o : Option Content) → o ≡ None → in_packet n o ≡ None
in_packet_none n o e = ap (in_packet n) e

message_in : (n k : ℕ) (o : Option Content) (m : Content) → in_packet n o ≡ Some (k, m) → o ≡ Some m
message_in n k None m e = absurd (cc e)
message_in n k (Some c) m e = ap (option_map (λ p. p.1)) e

-- what is answered of the fields is answered of the line
pub answered_in : (r : Result Message LineFault) (set : TemplateList) (line : List ℕ) (j : Json) (n : ℕ) (o : Option Content) → IsUtf8 line → document line ≡ Some j → numbered_by set j ≡ in_packet n o
    → MatchResult r (λ m. (o ≡ Some (content_of m)) × (nodes_in (content_of m).items ≤ node_limit)) (λ f. Refuses (λ m. nodes_in m.items) node_limit o f)
    → MatchResult r (λ m. SpellsIn set line n (content_of m) × (nodes_in (content_of m).items ≤ node_limit))
    (λ f. (f.cause ≡ Memory) ⊎ ((k : ℕ) (m : Content) → SpellsIn set line k m → ⊥) ⊎ ((f.cause ≡ Limit) × ((k : ℕ) (m : Content) → SpellsIn set line k m → node_limit < nodes_in m.items)))
answered_in (Ok m) set line j n o text e is h = (record { utf8 = text; read = numbered_as set line j e ∙ is ∙ ap (in_packet n) h.0 }, h.1)
answered_in (Err f) set line j n o text e is h = go h where
  go : Refuses (λ m. nodes_in m.items) node_limit o f → (f.cause ≡ Memory) ⊎ ((k : ℕ) (m : Content) → SpellsIn set line k m → ⊥) ⊎ ((f.cause ≡ Limit) × ((k : ℕ) (m : Content) → SpellsIn set line k m → node_limit < nodes_in m.items))
  go (inl c) = inl c
  go (inr (inl none)) = inr (inl (no_numbered set line j e (is ∙ in_packet_none n o none)))
  go (inr (inr more)) = inr (inr (more.0, λ k m s. more.1 m (message_in n k o m (sym is ∙ sym (numbered_as set line j e) ∙ s.read))))

-- memory was refused, or this is so
pub refused_or : {A B C D : Type 0} → A ⊎ B → (B → C) → A ⊎ C ⊎ D
refused_or (inl a) f = inl a
refused_or (inr b) f = inr (inl (f b))
