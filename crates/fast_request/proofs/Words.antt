-- Words added to a line one after the other, and what is found of them.
use Rattle.fast_request.proofs.Common.{◌≡◌, ◌∙◌, List, Option, true, ap, ap₂, refl, subst, App, Row, Rule, Text, is_simple, matches_of, with_rule, ValueParser, clap_on_literals, Asked, Finds, line_among, rows_among}

-- one word more
pub next : (old new whole : App) (added rule : Rule) → new ≡ with_rule old added → old ≡ whole → added ≡ rule → new ≡ with_rule whole rule
next old new whole added rule is begun same = is ∙ ap₂ with_rule begun same

simple : (among : Option ValueParser) → is_simple (line_among among) ≡ true
unfolding clap_on_literals
simple among = refl

-- the rows that a parser of the line found are those of its words
pub rows_found : (line : App) (among : Option ValueParser) (words : List Text) (rows : List Row) → line ≡ line_among among → (is_simple line ≡ true → rows ≡ matches_of line words) → rows ≡ rows_among among words
unfolding rows_among
rows_found line among words rows is found = found (ap is_simple is ∙ simple among) ∙ ap (λ (a : App). matches_of a words) is

-- and so what is found in them is asked for
pub asks : (found rows : List Row) (asked : Asked) → found ≡ rows → Finds found asked → Finds rows asked
asks found rows asked same h = subst (λ (r : List Row). Finds r asked) same h
