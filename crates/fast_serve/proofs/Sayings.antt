-- What is said of a refusal, of words that may ask for an explanation.
use Rattle.fast_serve.proofs.Common.{◌≡◌, List, ℕ, [], false, inl, inr, Result, Ok, Err, refl, sym, subst, OnOk, OnErr, Appends, append-nil, counted, CountsError, Taken, Failed, Writer, text_of, Refusal, CanonFault, Fault, Asked, AsksFor, Answer, AnswersInHex, Says, SaysAsked, SaysText, WritesHex}

-- the refusal's text alone
pub said_alone : (words : List (List ℕ)) (old new : Writer) (r : Refusal) → SaysText old new (text_of r) → SaysAsked words old new (Err r)
said_alone words old new r h = (false, (λ e. absurd cc), ([], (λ e. refl), subst (λ (text : List ℕ). SaysText old new text) (sym (append-nil (text_of r))) h))

-- what the words ask for
pub said_asked : (words : List (List ℕ)) (old new : Writer) (r : Answer) (asked : Asked) → AsksFor words asked → Says asked.explain old new r → SaysAsked words old new r
said_asked words old new r asked asks says = (asked.explain, (λ e. (asked, asks, e)), says)

-- a text that was handed to the writer
pub handed_text : (old new : Writer) (text : List ℕ) (r : Result (Unit {0}) Failed) → OnOk r (Appends old.taken new.taken text) → OnErr r ((rest : List ℕ) × Taken old.taken new.taken text rest)
    → CountsError r old.errors new.errors → OnOk r (new.flushes ≡ counted old.flushes) → SaysText old new text
handed_text old new text (Ok x) written part failed flushed = inl (written, failed, flushed)
handed_text old new text (Err e) written part failed flushed = inr (part.0, part.1, failed)

-- a line of hex that failed behind a refused stream
pub failed_line : (old new : Writer) (bytes : List ℕ) (f : Fault) (e : Refusal) → WritesHex old new bytes (Err e) → AnswersInHex old new bytes (Err (CanonFault.Stream f)) (Err e)
failed_line old new bytes f e (inl h) = absurd cc
failed_line old new bytes f e (inr (inl h)) = inr (inl h)
failed_line old new bytes f e (inr (inr h)) = inr (inr h)
