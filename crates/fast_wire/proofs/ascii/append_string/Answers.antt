use Rattle.fast_wire.proofs.Common.{rules, arith, ◌≡◌, is_ok, true, refl, err_from_is_err_and}
use Rattle.fast_wire.proofs.AsciiForms.{string_length, written_last}
use Rattle.fast_wire.proofs.ascii.append_string.Goals as goal

pub returns-in_err-reserve : goal.returns-in_err-reserve
returns-in_err-reserve c =
    let p = err_from_is_err_and c.from_residual.result c.from_residual.ensures.1 in
    rw (p.1, p.2) (record { ok = tt; err = (refl, c.in_err-reserve.ensures.items, omega (arith, string_length c.args.preamble c.args.text.now, c.in_err-reserve.ensures.full)) })

pub returns : goal.returns
returns c =
    let first : is_ok c.extend_from_slice.result ≡ true = rw c.unwrap.ensures refl in
    let second : is_ok c.extend_from_slice-2.result ≡ true = rw c.unwrap-2.ensures refl in
    let zeros = rw first at c.extend_from_slice.ensures.items in
    let all = rw (second, zeros, c.reserve.ensures.items) at c.extend_from_slice-2.ensures.items in record {
      ok =
          written_last c.extend_from_slice-2.new.self.items c.args.out.now.items c.args.preamble c.args.text.now c.len-last.result c.index_mut.result.now c.requires.few c.requires.some c.requires.text.0
          all (search rules) c.index_mut.ensures.value;
      err = tt;
    }
