use Rattle.std.proofs.Common.{◌≡◌, ◌≤◌, IsUtf8, length, rules, arith, ap}
use Rattle.std.proofs.ByRecursion.{All-from_ascii}
use Rattle.fast_spelled.proofs.Showing.{all_bytes, ascii_shown, two_each, unicode_shown}
use Rattle.fast_spelled.proofs.shown.string_value.Goals as goal

pub returns-in-Ok-clause-text : goal.returns-in-Ok-clause-text
returns-in-Ok-clause-text c =
    let same : c.from_vec.result ≡ c.args.units.now = search rules in
    ascii_shown c.args.kind c.from_vec.result c.args.units.now c.in-Ascii.is same c.requires (search rules)

pub returns-in-Ok-clause-within : goal.returns-in-Ok-clause-within
returns-in-Ok-clause-within c =
    let same : c.from_vec.result ≡ c.args.units.now = search rules in
    rw same (omega (arith, c.if-units-gt-UNIT_LIMIT.false), All-from_ascii c.args.units.now (search rules))

pub returns-in-Ok-from_str-clause-text : goal.returns-in-Ok-from_str-clause-text
returns-in-Ok-from_str-clause-text c =
    let same : c.from_string.result ≡ c.args.units.now = search rules in
    unicode_shown c.args.kind c.from_string.result c.args.units.now c.in-Unicode.is same c.requires

pub returns-in-Ok-from_str-clause-within : goal.returns-in-Ok-from_str-clause-within
returns-in-Ok-from_str-clause-within c =
    let same : c.from_string.result ≡ c.args.units.now = search rules in
    let utf8 : IsUtf8 c.args.units.now = search rules in
    rw same (omega (arith, c.if-units-gt-UNIT_LIMIT.false), all_bytes c.args.units.now (λ k. search rules), utf8)

pub returns-in_ok-bytes-in-Bytes-clause-within : goal.returns-in_ok-bytes-in-Bytes-clause-within
returns-in_ok-bytes-in-Bytes-clause-within c =
    let same : c.from_vec-in-Bytes.result ≡ c.in_ok-bytes-in-Bytes.bytes.items = search rules in
    let short : length c.in_ok-bytes-in-Bytes.bytes.items ≤ 65535 =
    omega (arith, two_each c.in_ok-bytes-in-Bytes.bytes.items, ap length c.in_ok-bytes-in-Bytes.ensures.digits, c.if-units-gt-UNIT_LIMIT.false) in
    rw same (short, c.in_ok-bytes-in-Bytes.ensures.bytes)
