use Rattle.fast_wire.proofs.Written.{null_text_appended, nullable_text_appended}
use Rattle.fast_wire.proofs.ascii.write_ascii_nullable.Goals as goal

pub returns-in-Null : goal.returns-in-Null
returns-in-Null c = rw c.in-Null.is (null_text_appended c.args.out.now c.append_string.new.out c.append_string.result c.append_string.ensures)

pub returns-in_ok-check_characters-in-Value : goal.returns-in_ok-check_characters-in-Value
returns-in_ok-check_characters-in-Value c =
    rw c.in-Value.is (nullable_text_appended c.args.out.now c.append_string-in-Value.new.out c.in-Value.text.now c.preamble_size.result c.append_string-in-Value.result
    c.in_ok-check_characters-in-Value.ensures c.preamble_size.ensures c.append_string-in-Value.ensures)
