use Rattle.fast_show.proofs.Common.{written_of, ◌≡◌, ◌++◌, rules, decimal_text}
use Rattle.fast_show.proofs.Writing.{has_mantissa}
use Rattle.fast_show.proofs.writer.LineWriterReceiver.mantissa.Goals as goal

pub returns-clause-goes : goal.returns-clause-goes
returns-clause-goes g c =
    let old = c.args.self.now in
    let m = c.in_ok-mantissa.mantissa in
    let form = g.S.Escape.form in
    let here = c.in_ok-push_decimal.ensures.text form in
    let told : written_of form c.push_decimal.new.self ≡ written_of form old.line ++ decimal_text m old.exponent = search rules in
    (m, c.in_ok-mantissa.ensures.takes.1, λ e o next. has_mantissa m next told c.push_decimal.ensures.led)
