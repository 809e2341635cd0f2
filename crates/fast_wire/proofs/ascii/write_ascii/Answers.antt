use Rattle.fast_wire.proofs.Written.{text_appended}
use Rattle.fast_wire.proofs.ascii.write_ascii.Goals as goal

pub returns : goal.returns
returns c =
    text_appended c.args.out.now c.append_string.new.out c.args.text.now c.preamble_size.result c.append_string.result c.in_ok-check_characters.ensures c.preamble_size.ensures c.append_string.ensures
