-- Lines, and the canonical bytes of their messages.
use Rattle.std.proofs.Common.{◌≡◌, ℕ, true, List, [], ◌∷◌, ◌++◌, inl, inr, refl, ap}
use Rattle.std.specs.FinMap as map
use Rattle.std.specs.List.{list_all, AllByRecursion}
use Rattle.fast_template.specs.TemplateSets.{TemplateList}
use Rattle.fast_dictionary.specs.Dictionary.{Dictionary}
use Rattle.fast_stream.specs.Nodes.{Content}
use Rattle.fast_spelled.specs.Spelled.{Spell, Spells, is_blank}
use Rattle.fast_write.specs.Written.{IsShort, Make}

pub all_short : (lines : List (List ℕ)) (line : List ℕ) → AllByRecursion IsShort lines → IsShort line → AllByRecursion IsShort (lines ++ line ∷ [])
all_short [] line all one = (one, tt)
all_short (l ∷ ls) line all one = (all.0, all_short ls line all.1 one)

pub spell_blank : (set : TemplateList) (lines : List (List ℕ)) (ms : List Content) (line : List ℕ) → Spell set lines ms → list_all is_blank line ≡ true → Spell set (lines ++ line ∷ []) ms
spell_blank set [] ms line h b = inl (b, h)
spell_blank set (l ∷ ls) ms line (inl x) b = inl (x.0, spell_blank set ls ms line x.1 b)
spell_blank set (l ∷ ls) ms line (inr x) b = inr (x.0, x.1, x.2, x.3, spell_blank set ls x.1 line x.4 b)

pub spell_more : (set : TemplateList) (lines : List (List ℕ)) (ms : List Content) (line : List ℕ) (m : Content) → Spell set lines ms → Spells set line m → Spell set (lines ++ line ∷ []) (ms ++ m ∷ [])
spell_more set [] ms line m h s = inr (m, [], ap (λ (l : List Content). l ++ m ∷ []) h, s, refl)
spell_more set (l ∷ ls) ms line m (inl x) s = inl (x.0, spell_more set ls ms line m x.1 s)
spell_more set (l ∷ ls) ms line m (inr x) s = inr (x.0, x.1 ++ m ∷ [], ap (λ (l : List Content). l ++ m ∷ []) x.2, x.3, spell_more set ls x.1 line m x.4 s)

abbrev pub make_none : (set : TemplateList) (d : Dictionary) → d ≡ map.empty → Make set [] [] d
make_none set d e = record { messages = []; short = tt; spelled = refl; canonical = (refl, e) }
