use Rattle.fast_serve.proofs.Common.{ℕ, List, Ok, Err, inl, inr, refl, subst, reader_by, LoadsText}
use Rattle.fast_serve.proofs.Texts.{has_text}
use Rattle.fast_serve.proofs.serve.read_templates.Goals as goal

pub returns-in-Err-clause-refused : goal.returns-in-Err-clause-refused
returns-in-Err-clause-refused g c =
    let e = c.in-Err.ensures.read in
    inl (c.in-Err.fault, record { count = e.0; got = e.1; read = record { reads = e.2; bounded = e.3 }; fails = e.5 }, c.of_template_text.ensures)

pub returns-in-Ok-from_json-clause-ok : goal.returns-in-Ok-from_json-clause-ok
returns-in-Ok-from_json-clause-ok g c =
    let e = c.in-Ok.ensures.read in
    let loads = c.in-Ok-from_json.ensures in record {
      old = reader_by g.I.ByteInput.left g.I.ByteInput.calls g.I.ByteInput.errors g.I.ByteInput.ends c.args.input.now;
      new = reader_by g.I.ByteInput.left g.I.ByteInput.calls g.I.ByteInput.errors g.I.ByteInput.ends c.read_text.new.reader;
      text = c.in-Ok.text.items;
      begins = refl;
      read = has_text c.args.turns e.0 _ _ c.in-Ok.text.items e.1 e.2 e.3 e.4;
      loads = subst (λ (text : List ℕ). LoadsText text (Ok c.in-Ok-from_json.set)) c.deref.ensures.value (loads.read, loads.unread, loads.no_json);
    }

pub returns-clause-refused : goal.returns-clause-refused
returns-clause-refused g c =
    let e = c.in-Ok.ensures.read in
    let loads = c.in-Err-from_json.ensures in
    inr (
      c.in-Ok.text.items,
      c.in-Err-from_json.fault,
      has_text c.args.turns e.0 _ _ c.in-Ok.text.items e.1 e.2 e.3 e.4,
      subst (λ (text : List ℕ). LoadsText text (Err c.in-Err-from_json.fault)) c.deref.ensures.value (loads.read, loads.unread, loads.no_json),
      c.of_load.ensures,
    )
