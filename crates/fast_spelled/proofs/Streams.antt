-- The lines of messages stand for these messages, and for no others.
use Rattle.std.proofs.Common.{◌≡◌, ℕ, true, List, [], ◌∷◌, Some, option_and_then, inl, inr, refl, sym, ap, ap₂, ◌∙◌, subst}
use Rattle.std.proofs.lemmas.Bool.{and_parts, eqb-true, or_cases}
use Rattle.std.specs.List.{list_all, AllByRecursion}
use Rattle.json.specs.Json.{value, if_last, max_depth}
use Rattle.json.specs.Lex.{lex, between, punctuate, fresh}
use Rattle.fast_template.specs.TemplateSets.{IsSound, TemplateList, template_of}
use Rattle.fast_stream.specs.Nodes.{Content}
use Rattle.fast_lines.specs.declared.form.Form.TheVariants as form
use Rattle.fast_lines.specs.Lines.{line_in, lines_in}
use Rattle.fast_spelled.specs.Laws.{HasTextLines}
use Rattle.fast_spelled.specs.Spelled.{lines_of, is_blank, message_by, Spells, Spell}
use Rattle.fast_spelled.specs.Within.{IsWithin}
use Rattle.fast_spelled.proofs.Feeds.{line_is, first_line}
use Rattle.fast_spelled.proofs.Texts.{both_of, same_given}
use Rattle.fast_spelled.proofs.Whole.{line_spells}

pub lines_spell : (set : TemplateList) (ms : List Content) (text : List ℕ) → IsSound set → HasTextLines set → AllByRecursion IsWithin ms → lines_in form.Json set ms ≡ Some text → Spell set (lines_of text) ms
lines_spell set [] text sound texts w e = subst (λ t. Spell set (lines_of t) []) (same_given [] text e) refl
lines_spell set (m ∷ ms) text sound texts w e =
    let two = both_of (line_in form.Json set m) (lines_in form.Json set ms) text e in
    let cut = ap lines_of two.whole ∙ first_line two.left two.right (line_is (template_of m.template set) m two.left two.first w.0) in
    subst (λ ls. Spell set ls (m ∷ ms)) (sym cut)
    (inr (m, ms, refl, line_spells set m two.left sound w.0 (texts m two.left w.0 two.first) two.first, lines_spell set ms two.right sound texts w.1 two.second))

-- ---- no others

blank_one : (c : ℕ) (cs : List ℕ) → is_blank c ≡ true → lex between (c ∷ cs) ≡ lex between cs
unfolding lex
blank_one c cs e = elim (or_cases _ _ e) [
  | inr a ↦ rw (eqb-true c 13 a) refl
  | inl r ↦ elim (or_cases _ _ r) [
    | inr a ↦ rw (eqb-true c 10 a) refl
    | inl s ↦ elim (or_cases _ _ s) [
      | inl a ↦ rw (eqb-true c 32 a) refl
      | inr a ↦ rw (eqb-true c 9 a) refl
    ]
  ]
]

pub blanks : (line : List ℕ) → list_all is_blank line ≡ true → lex between line ≡ []
unfolding lex
blanks [] e = refl
blanks (c ∷ cs) e = let p = and_parts _ _ e in blank_one c cs p.0 ∙ blanks cs p.1

pub blank_no_line : (set : TemplateList) (line : List ℕ) (m : Content) → list_all is_blank line ≡ true → Spells set line m → ⊥
unfolding value punctuate
blank_no_line set line m e s =
    let none = ap (λ ls. option_and_then (message_by set) (option_and_then (λ p. if_last p.0 p.1) (value max_depth (punctuate fresh ls)))) (blanks line e) in
    absurd (cc (sym none ∙ s.read))

pub same_message : (set : TemplateList) (line : List ℕ) (m n : Content) → Spells set line m → Spells set line n → m ≡ n
same_message set line m n a b = same_given m n (sym a.read ∙ b.read)

pub spelled_once : (set : TemplateList) (lines : List (List ℕ)) (ms ns : List Content) → Spell set lines ms → Spell set lines ns → ms ≡ ns
spelled_once set [] ms ns a b = a ∙ sym b
spelled_once set (line ∷ lines) ms ns (inl a) (inl b) = spelled_once set lines ms ns a.1 b.1
spelled_once set (line ∷ lines) ms ns (inl a) (inr b) = absurd (blank_no_line set line b.0 a.0 b.3)
spelled_once set (line ∷ lines) ms ns (inr a) (inl b) = absurd (blank_no_line set line a.0 b.0 a.3)
spelled_once set (line ∷ lines) ms ns (inr a) (inr b) =
    a.2 ∙ ap₂ (λ x xs. x ∷ xs) (same_message set line a.0 b.0 a.3 b.3) (spelled_once set lines a.1 b.1 a.4 b.4) ∙ sym b.2
