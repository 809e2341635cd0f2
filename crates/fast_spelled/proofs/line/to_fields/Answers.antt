use Rattle.std.proofs.Common.{ap, sym, ◌∙◌, Some, option_map, refl, append-nil}
use Rattle.json.specs.Json.{object}
use Rattle.json.specs.Tree.{json_tokens, members_tokens}
use Rattle.fast_spelled.proofs.Heads.{always_key, fields_begin, fields_found, fields_go_on, fields_missing, fields_named, fields_opened, members_in}
use Rattle.fast_spelled.proofs.line.to_fields.Goals as goal

pub returns-in-Err : goal.returns-in-Err
returns-in-Err c = λ ms d e t. absurd (c.in-Err.ensures.read (object ms) _ (e ∙ sym (append-nil (json_tokens (object ms)))) ms refl)

pub loop-name-init : goal.loop-name-init
loop-name-init c = λ ms d e.
    let o = c.in-Ok.ensures.read (object ms) _ (e ∙ sym (append-nil (json_tokens (object ms)))) in
    fields_begin ms c.open_object.new.reader d (o.2 ∙ append-nil (members_tokens o.0) ∙ ap members_tokens (sym (ap members_in o.1)))

pub returns-in-Ok-None : goal.returns-in-Ok-None
returns-in-Ok-None c = λ ms d e t.
    let key_is = c.in-Ok-None.ensures.value ∙ ap (λ o. Some (option_map (λ s. s.now) o, c.next_key.new.self)) c.in-Ok-None.field-0-is in
    fields_missing (c.loop-name.invariant ms d e) c.next_key.new.self key_is t

pub returns-in-Err-next_key : goal.returns-in-Err-next_key
returns-in-Err-next_key c = λ ms d e t. let x = c.loop-name.invariant ms d e in absurd (always_key x.left c.loop-name.reader x.stands c.in-Err-next_key.ensures.value)

pub loop-name-preserved : goal.loop-name-preserved
loop-name-preserved c = λ ms d e.
    let key_is = c.in-Ok-Some.ensures.value ∙ ap (λ o. Some (option_map (λ s. s.now) o, c.next_key.new.self)) c.in-Ok-Some.field-0-is in
    let x = fields_named (c.loop-name.invariant ms d e) c.next_key.new.self c.in-Ok-Some.name.now key_is in
    fields_go_on x c.pass.new.reader (sym c.eq.ensures ∙ c.if-eq.false) (c.in-Ok-pass.ensures.read x.one (members_tokens x.more) x.shallow x.stands)

pub returns-in-Err-pass : goal.returns-in-Err-pass
returns-in-Err-pass c = λ ms d e t.
    let key_is = c.in-Ok-Some.ensures.value ∙ ap (λ o. Some (option_map (λ s. s.now) o, c.next_key.new.self)) c.in-Ok-Some.field-0-is in
    let x = fields_named (c.loop-name.invariant ms d e) c.next_key.new.self c.in-Ok-Some.name.now key_is in
    absurd (c.in-Err-pass.ensures.read x.one (members_tokens x.more) x.shallow x.stands)

pub returns : goal.returns
returns c = λ ms d e.
    let key_is = c.in-Ok-Some.ensures.value ∙ ap (λ o. Some (option_map (λ s. s.now) o, c.next_key.new.self)) c.in-Ok-Some.field-0-is in
    let x = fields_named (c.loop-name.invariant ms d e) c.next_key.new.self c.in-Ok-Some.name.now key_is in
    fields_opened c.open_object-2.result x.one _ (members_tokens x.more) c.open_object-2.new.reader (fields_found x (sym c.eq.ensures ∙ c.if-eq.true)) (c.open_object-2.ensures.read x.one (members_tokens x.more) x.stands)
