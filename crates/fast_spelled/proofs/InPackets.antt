-- The line of a message that says its packet stands for that message in that packet.
use Rattle.std.proofs.Common.{◌≡◌, ℕ, pos, ◌==◌, ◌<◌, ◌≤◌, ◌^◌, true, false, List, [], ◌∷◌, ◌++◌, Option, Some, None, option_map, option_and_then, codes, decimal, refl, sym, ap, ap₂, ◌∙◌, arith, subst, append_assoc, append-nil, inl, inr, map, IsUtf8, suc}
use Rattle.std.proofs.lemmas.Bool.{and_parts, ne_eqb, not-true}
use Rattle.std.proofs.lemmas.Fmt.{IsAscii-decimal}
use Rattle.std.proofs.lemmas.Str.{IsUtf8-append, IsUtf8-past_char, encode_ascii}
use Rattle.std.specs.Str.{IsAscii}
use Rattle.std.specs.List.{AllByRecursion, list_all}
use Rattle.json.specs.Lex.{fresh, punctuate}
use Rattle.json.specs.Json.{Json, number, string, object, Members, no_members, member, value, if_last, max_depth, document}
use Rattle.json.specs.Tree.{json_tokens, members_tokens, depth, HasNumbers}
use Rattle.json.proofs.Printed.Trees.{value-json_tokens, ArePrintable-json_tokens}
use Rattle.json.proofs.Printed.Decimals.{IsNumber-decimal}
use Rattle.json.proofs.Printed.Utf8.{IsUtf8-are_ascii}
use Rattle.fast_value.specs.declared.kind.Kind.{Kind}
use Rattle.fast_template.specs.Resolved.{resolved_of}
use Rattle.fast_template.specs.declared.resolved.FlatTemplate.{FlatTemplate}
use Rattle.fast_template.specs.TemplateSets.{IsSound, TemplateList, template_of}
use Rattle.fast_stream.specs.Nodes.{Content}
use Rattle.fast_packets.proofs.Labels.{numbered-line}
use Rattle.fast_packets.specs.Numbered.{labelled, numbered, packet_label}
use Rattle.fast_lines.specs.declared.form.Form.TheVariants as form
use Rattle.fast_lines.specs.Lines.{line_by, line_if, line_in, lines_in}
use Rattle.fast_spelled.specs.Shown.{IsNumberedLineOf}
use Rattle.fast_spelled.specs.Numbered.{SpellIn, SpellsIn, counted_from_one, numbered_by, packet_by}
use Rattle.fast_spelled.specs.Laws.{HasTextLines}
use Rattle.fast_spelled.specs.Spelled.{is_blank, lines_of, message_by}
use Rattle.fast_spelled.specs.Trees.{json_members, spelled_from}
use Rattle.fast_spelled.specs.Within.{IsWithin}
use Rattle.fast_spelled.proofs.Back.{below64, integer_back}
use Rattle.fast_spelled.proofs.Digits.{decimal_read}
use Rattle.fast_spelled.proofs.Feeds.{Line, NoFeed, both_clean, decimal_clean, first_line, line_is}
use Rattle.fast_spelled.proofs.Showing.{all_ascii}
use Rattle.fast_spelled.proofs.Streams.{blanks}
use Rattle.fast_spelled.proofs.Read.{tokens_spelled}
use Rattle.fast_spelled.proofs.Texts.{both_of, line_says, same_given}
use Rattle.fast_spelled.proofs.Texture.{decimal_text_is}
use Rattle.fast_spelled.proofs.Whole.{Found, depth_members, found, numbers_members, stands}

-- ---- the text

-- inside a line that ends in a line feed no label is put
inside : (label body : List ℕ) → NoFeed body → labelled label false (body ++ 10 ∷ []) ≡ body ++ 10 ∷ []
inside label [] h = refl
inside label (c ∷ body) h =
    let p = and_parts _ _ h in
    rw (not-true (c == 10) p.0) (ap (λ (xs : List ℕ). c ∷ xs) (inside label body p.1))

-- a line that begins with a brace
record Braced (line rest : List ℕ) : Type 0 where
  is : line ≡ 123 ∷ rest
  quiet : (label : List ℕ) → labelled label false rest ≡ rest

quiet_rest : (body rest : List ℕ) → body ++ (10 ∷ []) ≡ 123 ∷ rest → NoFeed body → (label : List ℕ) → labelled label false rest ≡ rest
quiet_rest [] rest e h label = absurd (cc e)
quiet_rest (c ∷ body) rest e h label =
    let same : body ++ (10 ∷ []) ≡ rest = cc e in
    subst (λ (xs : List ℕ). labelled label false xs ≡ xs) same (inside label body (and_parts _ _ h).1)

braced : (line rest : List ℕ) → Line line → line ≡ 123 ∷ rest → Braced line rest
braced line rest l is = record { is = is; quiet = quiet_rest l.body rest (sym l.whole ∙ is) l.clean }

-- the label stands behind the brace
numbered_line : (n : ℕ) (line rest : List ℕ) (b : Braced line rest) → numbered n line ≡ 123 ∷ (packet_label n ++ rest)
numbered_line n line rest b = ap (numbered n) b.is ∙ ap (λ (xs : List ℕ). 123 ∷ (packet_label n ++ xs)) (b.quiet (packet_label n))

label_text : (n : ℕ) → n < 2 ^ 64 → IsUtf8 (packet_label n)
label_text n h =
    IsUtf8-append (codes "\"packet\":") (decimal n ++ codes ",") (IsUtf8-are_ascii (codes "\"packet\":") refl) (IsUtf8-append (decimal n) (codes ",") (decimal_text_is n h) (IsUtf8-are_ascii (codes ",") refl))

numbered_text : (n : ℕ) (line rest : List ℕ) → n < 2 ^ 64 → Braced line rest → IsUtf8 line → IsUtf8 (numbered n line)
numbered_text n line rest h b u =
    let own = IsUtf8-past_char line rest 123 u (b.is ∙ ap (λ (xs : List ℕ). xs ++ rest) (sym (encode_ascii 123 (omega arith)))) in
    subst IsUtf8 (sym (numbered_line n line rest b)) (IsUtf8-append (123 ∷ []) (packet_label n ++ rest) (IsUtf8-are_ascii (123 ∷ []) refl) (IsUtf8-append (packet_label n) rest (label_text n h) own))

-- ---- the JSON

abbrev behind_name : Content → FlatTemplate → Members
behind_name m t = member (codes "id") (number (decimal m.template)) (member (codes "fields") (object (json_members (resolved_of t).members m.items)) no_members)

abbrev in_line : Content → FlatTemplate → Members
in_line m t = member (codes "template") (string t.name) (behind_name m t)

abbrev with_packet : ℕ → Members → Json
with_packet n ms = object (member (codes "packet") (number (decimal n)) ms)

brace_first : (ms : Members) → spelled_from false (json_tokens (object ms)) ≡ 123 ∷ spelled_from false (members_tokens ms)
unfolding spelled_from
brace_first ms = refl

behind_packet : (n : ℕ) (k : List ℕ) (j : Json) (ms : Members) → spelled_from false (json_tokens (with_packet n (member k j ms))) ≡ 123 ∷ (packet_label n ++ spelled_from false (members_tokens (member k j ms)))
unfolding spelled_from
behind_packet n k j ms =
    let rest = spelled_from false (members_tokens (member k j ms)) in
    ap (λ (xs : List ℕ). 123 ∷ xs) (
    ap (λ (xs : List ℕ). codes "\"packet\":" ++ xs) (sym (append_assoc (decimal n) (codes ",") rest))
    ∙ sym (append_assoc (codes "\"packet\":") (decimal n ++ codes ",") rest)
    )

-- ---- a line of a template

module _ (set : TemplateList) (n : ℕ) (t : FlatTemplate) (m : Content) (line : List ℕ) (e : line_by form.Json t.name (resolved_of t).members m ≡ Some line) (w : IsWithin m) (f : Found m.template t) (own : Line line) (few : n < 2 ^ 64) where
  abbrev members : Members
  members = in_line m t

  abbrev line_rest : List ℕ
  line_rest = spelled_from false (members_tokens members)

  begins : Braced line line_rest
  begins = braced line line_rest own (sym (line_says t.name (resolved_of t).members m line e w.items) ∙ brace_first members)

  text_is : numbered n line ≡ spelled_from false (json_tokens (with_packet n members))
  text_is = numbered_line n line line_rest begins ∙ sym (behind_packet n (codes "template") (string t.name) (behind_name m t))

  numbered_back : document (numbered n line) ≡ Some (with_packet n members)
  numbered_back =
      let j = with_packet n members in
      let numbers : HasNumbers j = (IsNumber-decimal n (omega (arith, few)), (tt, (IsNumber-decimal m.template (omega (arith, w.template)), (numbers_members (resolved_of t).members m.items w.items, tt)))) in
      let shallow : depth j ≤ max_depth = omega (arith, depth_members (resolved_of t).members m.items, f.shallow) in
      ap document text_is
      ∙ ap (λ ts. option_and_then (λ p. if_last p.0 p.1) (value max_depth ts)) (tokens_spelled (json_tokens j) (ArePrintable-json_tokens j numbers) ∙ sym (append-nil (json_tokens j)))
      ∙ ap (option_and_then (λ p. if_last p.0 p.1)) (value-json_tokens j max_depth [] shallow)

  packet_back : 0 < n → packet_by (number (decimal n)) ≡ Some n
  packet_back some =
      ap counted_from_one (integer_back Kind.UInt64 (pos n) (decimal n) (decimal_read n few) (below64 n few)) ∙ rw (ne_eqb n 0 (λ zero. omega (arith, zero, some))) refl

  spells_in : 0 < n → template_of m.template set ≡ Some t → IsUtf8 line → SpellsIn set (numbered n line) n m
  spells_in some there utf8 = record {
    utf8 = numbered_text n line line_rest few begins utf8;
    read =
        ap (option_and_then (numbered_by set)) numbered_back
        ∙ ap (option_and_then (λ k. option_map (λ c. (k, c)) (message_by set (object members)))) (packet_back some)
        ∙ ap (option_map (λ c. (n, c))) (stands set t m line there e w f);
  }

by_template : (set : TemplateList) (n : ℕ) (o : Option FlatTemplate) (m : Content) (line : List ℕ) → template_of m.template set ≡ o → line_if form.Json o m ≡ Some line → IsSound set → IsWithin m → IsUtf8 line → 0 < n → n < 2 ^ 64 → SpellsIn set (numbered n line) n m
by_template set n None m line there e sound w utf8 some few = absurd (cc e)
by_template set n (Some t) m line there e sound w utf8 some few = spells_in set n t m line e w (found m.template set.templates t there sound.shallow) (line_is (Some t) m line e w) few some there utf8

pub numbered_spells : (set : TemplateList) (n : ℕ) (m : Content) (line : List ℕ) → IsSound set → IsWithin m → IsUtf8 line → line_in form.Json set m ≡ Some line → 0 < n → n < 2 ^ 64 → SpellsIn set (numbered n line) n m
numbered_spells set n m line sound w utf8 e some few = by_template set n (template_of m.template set) m line refl e sound w utf8 some few

-- ---- a line that is read from its front

-- what stands behind characters of ASCII is UTF-8
past_ascii : (a rest : List ℕ) → AllByRecursion (λ c. c < 128) a → IsUtf8 (a ++ rest) → IsUtf8 rest
past_ascii [] rest h u = u
past_ascii (c ∷ a) rest h u = past_ascii a rest h.1 (IsUtf8-past_char (c ∷ (a ++ rest)) (a ++ rest) c u (ap (λ (xs : List ℕ). xs ++ (a ++ rest)) (sym (encode_ascii c h.0))))

each_ascii : (s : List ℕ) → IsAscii s → AllByRecursion (λ c. c < 128) s
each_ascii [] h = tt
each_ascii (c ∷ s) h = (h 0, each_ascii s (λ k. h (suc k)))

rest_text : (n : ℕ) (rest : List ℕ) → n < 2 ^ 64 → IsUtf8 (123 ∷ (packet_label n ++ rest)) → IsUtf8 rest
rest_text n rest few u =
    let whole = append_assoc (codes "\"packet\":") (decimal n ++ codes ",") rest ∙ ap (λ (xs : List ℕ). codes "\"packet\":" ++ xs) (append_assoc (decimal n) (codes ",") rest) in
    past_ascii (codes ",") rest (all_ascii (codes ",") refl)
    (past_ascii (decimal n) (codes "," ++ rest) (each_ascii (decimal n) (IsAscii-decimal n few))
    (past_ascii (codes "{\"packet\":") (decimal n ++ (codes "," ++ rest)) (all_ascii (codes "{\"packet\":") refl) (subst IsUtf8 (ap (λ (xs : List ℕ). 123 ∷ xs) whole) u)))

pub numbered_shown : (set : TemplateList) (n : ℕ) (m : Content) (line : List ℕ) → IsNumberedLineOf set line n m → IsUtf8 line → SpellsIn set line n m
numbered_shown set n m line x utf8 =
    let own = 123 ∷ x.rest in
    let begun = braced own x.rest (line_is (template_of m.template set) m own x.own.shown x.own.within) refl in
    let text = IsUtf8-append (123 ∷ []) x.rest (IsUtf8-are_ascii (123 ∷ []) refl) (rest_text n x.rest x.few (subst IsUtf8 x.is utf8)) in
    subst (λ (l : List ℕ). SpellsIn set l n m) (numbered_line n own x.rest begun ∙ sym x.is) (numbered_spells set n m own x.own.sound x.own.within text x.own.shown x.some x.few)

-- ---- and no other

pub same_numbered : (set : TemplateList) (line : List ℕ) (n k : ℕ) (m l : Content) → SpellsIn set line n m → SpellsIn set line k l → (n ≡ k) × (m ≡ l)
same_numbered set line n k m l a b =
    let same = same_given (n, m) (k, l) (sym a.read ∙ b.read) in
    (ap (λ p. p.0) same, ap (λ p. p.1) same)

-- ---- lines one behind the other

label_clean : (n : ℕ) → n < 2 ^ 64 → NoFeed (packet_label n)
label_clean n few = both_clean (codes "\"packet\":") (decimal n ++ codes ",") refl (both_clean (decimal n) (codes ",") (decimal_clean n few) refl)

-- what is left of a line behind its brace ends as it did
rest_line : (body rest : List ℕ) → body ++ (10 ∷ []) ≡ 123 ∷ rest → NoFeed body → Line rest
rest_line [] rest e h = absurd (cc e)
rest_line (c ∷ body) rest e h = record { body = body; clean = (and_parts _ _ h).1; whole = sym (cc e) }

-- with its number a line is one line still
numbered_is_line : (n : ℕ) (line rest : List ℕ) → n < 2 ^ 64 → Braced line rest → Line line → Line (numbered n line)
numbered_is_line n line rest few b l =
    let r = rest_line l.body rest (sym l.whole ∙ b.is) l.clean in
    record {
      body = 123 ∷ (packet_label n ++ r.body);
      clean = both_clean (123 ∷ []) (packet_label n ++ r.body) refl (both_clean (packet_label n) r.body (label_clean n few) r.clean);
      whole = numbered_line n line rest b ∙ ap (λ (xs : List ℕ). 123 ∷ (packet_label n ++ xs)) r.whole ∙ ap (λ (xs : List ℕ). 123 ∷ xs) (sym (append_assoc (packet_label n) r.body (10 ∷ [])));
    }

-- a line begins with a brace
braced_by : (o : Option FlatTemplate) (m : Content) (line : List ℕ) → line_if form.Json o m ≡ Some line → IsWithin m → (rest : List ℕ) × Braced line rest
braced_by None m line e w = absurd (cc e)
braced_by (Some t) m line e w =
    let rest = spelled_from false (members_tokens (in_line m t)) in
    (rest, braced line rest (line_is (Some t) m line e w) (sym (line_says t.name (resolved_of t).members m line e w.items) ∙ brace_first (in_line m t)))

-- the lines of one packet, in front of others
pub numbered_lines_spell : (set : TemplateList) (n : ℕ) (ms : List Content) (text later : List ℕ) (others : List (ℕ × Content)) → IsSound set → HasTextLines set → AllByRecursion IsWithin ms → 0 < n → n < 2 ^ 64
    → lines_in form.Json set ms ≡ Some text → SpellIn set (lines_of later) others → SpellIn set (lines_of (numbered n text ++ later)) (map (λ m. (n, m)) ms ++ others)
numbered_lines_spell set n [] text later others sound texts w some few e behind = subst (λ (t : List ℕ). SpellIn set (lines_of (numbered n t ++ later)) others) (same_given [] text e) behind
numbered_lines_spell set n (m ∷ ms) text later others sound texts w some few e behind =
    let two = both_of (line_in form.Json set m) (lines_in form.Json set ms) text e in
    let own = line_is (template_of m.template set) m two.left two.first w.0 in
    let begun = braced_by (template_of m.template set) m two.left two.first w.0 in
    let line = numbered n two.left in
    let parts : numbered n text ++ later ≡ line ++ (numbered n two.right ++ later) =
    ap (λ (t : List ℕ). numbered n t ++ later) (two.whole ∙ ap (λ (t : List ℕ). t ++ two.right) own.whole)
    ∙ ap (λ (t : List ℕ). t ++ later) (numbered-line n own.body two.right ∙ ap (λ (t : List ℕ). numbered n t ++ numbered n two.right) (sym own.whole))
    ∙ append_assoc line (numbered n two.right) later in
    let cut = ap lines_of parts ∙ first_line line (numbered n two.right ++ later) (numbered_is_line n two.left begun.0 few begun.1 own) in
    subst (λ ls. SpellIn set ls ((n, m) ∷ (map (λ c. (n, c)) ms ++ others))) (sym cut)
    (inr (
      n,
      m,
      map (λ c. (n, c)) ms ++ others,
      refl,
      numbered_spells set n m two.left sound w.0 (texts m two.left w.0 two.first) two.first some few,
      numbered_lines_spell set n ms two.right later others sound texts w.1 some few two.second behind,
    ))

-- ---- no others

blank_is_none : (set : TemplateList) (line : List ℕ) (n : ℕ) (m : Content) → list_all is_blank line ≡ true → SpellsIn set line n m → ⊥
unfolding value punctuate
blank_is_none set line n m e s =
    let none = ap (λ ls. option_and_then (numbered_by set) (option_and_then (λ p. if_last p.0 p.1) (value max_depth (punctuate fresh ls)))) (blanks line e) in
    absurd (cc (sym none ∙ s.read))

pub numbered_once : (set : TemplateList) (lines : List (List ℕ)) (ms ns : List (ℕ × Content)) → SpellIn set lines ms → SpellIn set lines ns → ms ≡ ns
numbered_once set [] ms ns a b = a ∙ sym b
numbered_once set (line ∷ lines) ms ns (inl a) (inl b) = numbered_once set lines ms ns a.1 b.1
numbered_once set (line ∷ lines) ms ns (inl a) (inr b) = absurd (blank_is_none set line b.0 b.1 a.0 b.4)
numbered_once set (line ∷ lines) ms ns (inr a) (inl b) = absurd (blank_is_none set line a.0 a.1 b.0 a.4)
numbered_once set (line ∷ lines) ms ns (inr a) (inr b) =
    let same = same_numbered set line a.0 b.0 a.1 b.1 a.4 b.4 in
    a.3 ∙ ap₂ (λ (n : ℕ) (m : Content). (n, m) ∷ a.2) same.0 same.1 ∙ ap (λ (rest : List (ℕ × Content)). (b.0, b.1) ∷ rest) (numbered_once set lines a.2 b.2 a.5 b.5) ∙ sym b.3
