use Rattle.fast_value.proofs.Common.{ap, sym, ◌∙◌, Some, decode_of, is_some, hex_bytes_of, Bytes}
use Rattle.fast_value.proofs.HexTexts.{value_of_hex, spelled_none, spelled_bytes}
use Rattle.fast_value.proofs.initial.hexadecimal.Goals as goal

pub returns-then-not-spells_bytes-clause-value : goal.returns-then-not-spells_bytes-clause-value
returns-then-not-spells_bytes-clause-value c = spelled_none c.args.text.now c.spells_bytes.result (c.spells_bytes.ensures ∙ ap (λ text. is_some (value_of_hex (hex_bytes_of text))) c.as_bytes-digits.ensures.value) c.if-not-spells_bytes.true

pub returns-in-Ok-clause-value : goal.returns-in-Ok-clause-value
returns-in-Ok-clause-value c = ap (λ b. Some (Bytes b)) c.from_vec.ensures ∙ spelled_bytes c.args.text.now c.in-Ok.bytes.items c.spells_bytes.result (ap decode_of (sym c.as_bytes-digits.ensures.value) ∙ c.in-Ok.ensures.ok) (c.spells_bytes.ensures ∙ ap (λ text. is_some (value_of_hex (hex_bytes_of text))) c.as_bytes-digits.ensures.value) c.if-not-spells_bytes.false
