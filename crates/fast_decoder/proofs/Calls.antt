-- How a stream of messages goes on from call to call.
use Rattle.fast_decoder.proofs.Common.{◌≡◌, ◌+◌, ◌++◌, ◌∙◌, ℕ, [], refl, arith, append_assoc, append-nil, Ghosts, MessageInputStream, Reached, IsSameStream, ReadsOn}
use Rattle.fast_io.specs.declared.input.ByteInput.{Ghosts as Giving}
use Rattle.fast_machine.proofs.Inputs.{causes_none, causes_on, more_read, none_read}

module _ {R E : Type 0} {input : Giving R} {entries : Ghosts E} where
  pub same_as : (s : MessageInputStream R E input entries) → IsSameStream s s
  same_as s = record { turns = refl; set = refl; mode = refl }

  pub same_on : {a b c : MessageInputStream R E input entries} → IsSameStream a b → IsSameStream b c → IsSameStream a c
  same_on i r = record { turns = r.turns ∙ i.turns; set = r.set ∙ i.set; mode = r.mode ∙ i.mode }

  pub reads_none : (s : MessageInputStream R E input entries) → ReadsOn s s 0
  reads_none s = record { got = []; gave = none_read _; counted = omega arith; stands = λ bytes answered stands. (rw (append-nil bytes) stands, causes_none _ _) }

  pub reads_on : {a b c : MessageInputStream R E input entries} {count : ℕ} → ReadsOn a b count → b.reached ≡ Reached.Open → ReadsOn b c 1 → ReadsOn a c (count + 1)
  reads_on {a = a} {b = b} {c = c} {count = count} i is r = record {
    got = i.got ++ r.got;
    gave = more_read _ _ _ count i.got r.got i.gave r.gave;
    counted = let before = i.counted in let now = r.counted in omega (arith, before, now);
    stands = λ bytes answered stands.
        let s = i.stands bytes answered stands in
        let t = r.stands (bytes ++ i.got) answered s.0 in
        (rw (← append_assoc bytes i.got r.got) t.0, causes_on a.reached b.reached c.reached _ _ _ is s.1 (rw is at t.1));
  }
