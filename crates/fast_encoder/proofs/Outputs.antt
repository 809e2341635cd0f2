-- What is written to a writer, and of which messages it is.
use Rattle.std.proofs.Common.{◌≡◌, ℕ, List, [], ◌∷◌, ◌++◌, refl, ap, ◌∙◌, append_assoc, append-nil, sym}
use Rattle.std.specs.FinMap as map
use Rattle.fast_template.specs.Resolved.{Resolved}
use Rattle.fast_dictionary.specs.Dictionary.{Dictionary}
use Rattle.fast_stream.specs.Nodes.{Content}
use Rattle.fast_writer.specs.Canonical.{CanonMessage, IsCanonical}
use Rattle.fast_encoder.specs.Outputs.{CanonRuns, AreSent}
use Rattle.fast_writer.proofs.Writers.{canon_more}

-- ---- messages

-- one message more
pub sent_more : {set : List Resolved} {runs : List (List Content)} {messages : List Content} {m : Content} {sent bytes : List ℕ} {d e : Dictionary}
    → AreSent set runs messages sent d → CanonMessage set d bytes m e → AreSent set runs (messages ++ m ∷ []) (sent ++ bytes) e
sent_more {set} {messages = messages} {m} {bytes = bytes} {d} {e} s form = record {
  before = s.before;
  now = s.now ++ bytes;
  parts = ap (λ (l : List ℕ). l ++ bytes) s.parts ∙ append_assoc s.before s.now bytes;
  earlier = s.earlier;
  since = canon_more set messages m map.empty s.now bytes d e s.since form;
}

-- of which the last bytes are not out
pub sent_part : {set : List Resolved} {runs : List (List Content)} {messages : List Content} {m : Content} {sent bytes : List ℕ} {d e : Dictionary} (front rest : List ℕ) → bytes ≡ front ++ rest
    → AreSent set runs messages sent d → CanonMessage set d bytes m e → AreSent set runs (messages ++ m ∷ []) ((sent ++ front) ++ rest) e
sent_part {sent = sent} front rest parts s form = rw (append_assoc sent front rest, sym parts) (sent_more s form)

runs_more : (set : List Resolved) (runs : List (List Content)) (messages : List Content) (before now : List ℕ) → CanonRuns set runs before → IsCanonical set messages now → CanonRuns set (runs ++ messages ∷ []) (before ++ now)
runs_more set [] messages before now h k = (now, [], ap (λ (l : List ℕ). l ++ now) h ∙ sym (append-nil now), k, refl)
runs_more set (run ∷ runs) messages before now h k =
    (h.0, h.1 ++ now, ap (λ (l : List ℕ). l ++ now) h.2 ∙ append_assoc h.0 h.1 now, h.3, runs_more set runs messages h.1 now h.4 k)

-- a reset
pub sent_reset : (set : List Resolved) (runs : List (List Content)) (messages : List Content) (sent : List ℕ) (d e : Dictionary) → e ≡ map.empty → AreSent set runs messages sent d → AreSent set (runs ++ messages ∷ []) [] sent e
sent_reset set runs messages sent d e empty s = record {
  before = s.before ++ s.now;
  now = [];
  parts = s.parts ∙ sym (append-nil (s.before ++ s.now));
  earlier = runs_more set runs messages s.before s.now s.earlier (d, s.since);
  since = (refl, empty);
}
