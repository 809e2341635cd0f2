-- Lemmas on a stream on its way to canonical bytes.
use Rattle.std.proofs.Common.{◌≡◌, ◌≢◌, ◌≤◌, ℕ, List, length, length-append, arith, Option, Result, Ok, Err, ap, ◌∙◌}
use Rattle.fast_canon.proofs.Common.{IsSound, TemplateList, templates_in, Mode, at_start, as_messages_from, Content, Carried, counted_by, all_carried, Summary, summary_by, CanonFault, Passes, Canonicalises, IsCanonical}
use Rattle.fast_canon.proofs.StreamLaws.{none_shorter_alone}

-- The canonical bytes of messages that a front of the bytes read carries are no more than these.
pub no_longer : (mode : Mode) (set : TemplateList) → IsSound set → (input bytes : List ℕ) (messages : List Content) → Carried mode (templates_in set) input messages → IsCanonical (templates_in set) messages bytes → length bytes ≤ length input
no_longer mode set sound input bytes messages c canonical =
    let alone = as_messages_from mode (templates_in set) messages at_start c.start c.front c.carried in
    omega (arith, none_shorter_alone set sound alone.0 bytes messages c.start.dictionary alone.1 canonical, ap (λ (xs : List ℕ). length xs) c.parts ∙ length-append c.front c.rest)

-- What a run answers of canonical bytes: they are counted exactly, being no more than the bytes read.
pub canonicalised : (mode : Mode) (set : TemplateList) (turns : ℕ) (left a b : Option (List ℕ)) (input : List ℕ) (r : Result Summary CanonFault) → (r ≢ Err CanonFault.Memory → IsSound set) → ((n : ℕ) → n ≤ length input → counted_by 0 n ≡ n)
    → Passes IsCanonical mode (templates_in set) turns left a b input r → Canonicalises mode (templates_in set) turns left a b input r
canonicalised mode set turns left a b input (Ok summary) sound exact p =
    let less = no_longer mode set (sound (λ e. cc)) input p.out p.messages (all_carried mode (templates_in set) input p.messages p.ends.carried) p.made in
    record {
      messages = p.messages;
      out = p.out;
      ends = p.ends;
      canonical = p.made;
      written = p.written;
      counts = p.counts ∙ ap (λ (n : ℕ). summary_by (length p.messages) (length input) n) (exact (length p.out) less);
      no_longer = less;
    }
canonicalised mode set turns left a b input (Err (CanonFault.Stream f)) sound exact p = p
canonicalised mode set turns left a b input r sound exact p = p
