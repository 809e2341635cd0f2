use Rattle.fast_value.proofs.Common.{◌≡◌, rules, true, false, sym, ap, ◌∙◌, Some, where_so, in_range_of, in_range, of_integer}
use Rattle.fast_value.proofs.NumberLaws.{integer_value_some, integer_value_none, in_type}
use Rattle.fast_value.proofs.initial.whole_number.Goals as goal

pub of_integer-requires : goal.of_integer-requires
of_integer-requires c =
    let within : in_range_of c.args.part c.args.kind c.in-Some.z ≡ true = search rules in
    let typed : in_range c.args.kind c.in-Some.z ≡ true = in_type c.args.part c.args.kind c.in-Some.z c.requires within in
    search rules

pub returns-then-in_range_of : goal.returns-then-in_range_of
returns-then-in_range_of c =
    let within : in_range_of c.args.part c.args.kind c.in-Some.z ≡ true = search rules in
    let value : c.of_integer.result ≡ of_integer c.args.kind c.in-Some.z = search rules in
    ap Some value
    ∙ sym (ap (λ b. where_so b (of_integer c.args.kind c.in-Some.z)) within)
    ∙ sym (integer_value_some c.args.part c.args.kind c.args.text.now c.in-Some.z c.in-Some.ensures)

pub returns-else-in_range_of : goal.returns-else-in_range_of
returns-else-in_range_of c =
    let outside : in_range_of c.args.part c.args.kind c.in-Some.z ≡ false = search rules in
    sym (ap (λ b. where_so b (of_integer c.args.kind c.in-Some.z)) outside)
    ∙ sym (integer_value_some c.args.part c.args.kind c.args.text.now c.in-Some.z c.in-Some.ensures)

pub returns-in-None : goal.returns-in-None
returns-in-None c = sym (integer_value_none c.args.part c.args.kind c.args.text.now c.in-None.ensures)
