-- What waits in a stream of messages, and what it answers.
use Rattle.std.proofs.Common.{◌≡◌, ◌≤◌, ℕ, ◌+◌, List, [], ◌∷◌, ◌++◌, length, map, reverse, Option, sym, ap, ◌∙◌, append_assoc}
use Rattle.std.proofs.lemmas.List.{reverse-reverse, reverse-append}
use Rattle.fast_machine.specs.declared.reached.Reached.{Reached}
use Rattle.fast_decoder.specs.declared.decoder.Decoder.{Decoder}
use Rattle.fast_stream.specs.declared.message.Message.{Message}
use Rattle.fast_template.specs.TemplateSets.{templates_in}
use Rattle.fast_dictionary.specs.declared.entries.Entries.{Ghosts}
use Rattle.fast_stream.specs.Nodes.{Content, content_of}
use Rattle.fast_machine.specs.Following.{mode_of}
use Rattle.fast_machine.specs.Standing.{Carried}
use Rattle.fast_decoder.specs.Inputs.{Follows, Stands, waiting_in}
use Rattle.fast_machine.proofs.Runs.{carried_of}
use Rattle.fast_machine.proofs.Inputs.{front_carried, reached_carried}

pub pushed_waits : (old out new : List Message) (pushed : List Content) → old ≡ [] → new ≡ reverse out → map content_of out ≡ map content_of old ++ pushed → waiting_in new ≡ pushed
pushed_waits old out new pushed none turned grown =
    ap waiting_in turned ∙ ap (map content_of) (reverse-reverse out) ∙ grown ∙ ap (λ (xs : List Message). map content_of xs ++ pushed) none

-- the message that waited last in the list is answered
popped : (answered : List Content) (old rest : List Message) (m : Message) → old ≡ rest ++ m ∷ [] → answered ++ waiting_in old ≡ (answered ++ content_of m ∷ []) ++ waiting_in rest
popped answered old rest m is =
    ap (λ (ms : List Message). answered ++ waiting_in ms) is ∙ ap (λ (ms : List Message). answered ++ map content_of ms) (reverse-append rest (m ∷ []))
    ∙ sym (append_assoc answered (content_of m ∷ []) (waiting_in rest))

pub stands_popped : {E : Type 0} {ghosts : Ghosts E} (at : Reached) (d : Decoder E ghosts) (old rest : List Message) (m : Message) (turns reads : ℕ) (left : Option (List ℕ)) (bytes : List ℕ) (answered : List Content) → old ≡ rest ++ m ∷ []
    → Stands at d old turns reads left bytes answered
    → Stands at d rest turns reads left bytes (answered ++ content_of m ∷ []) × Carried (mode_of d.machine) (templates_in d.machine.traversal.set.now) bytes (answered ++ content_of m ∷ [])
stands_popped at d old rest m turns reads left bytes answered is stands =
    let now = rw (popped answered old rest m is) at stands in
    let carried = reached_carried at _ (mode_of d.machine) (templates_in d.machine.traversal.set.now) turns left bytes _ (λ (f : Follows d bytes ((answered ++ content_of m ∷ []) ++ waiting_in rest) × (reads ≤ length bytes)). let at = rw (f.0.goes_on) at f.0.follows.at in carried_of at.0) now in
    (now, front_carried (mode_of d.machine) (templates_in d.machine.traversal.set.now) bytes (answered ++ content_of m ∷ []) (waiting_in rest) carried)
