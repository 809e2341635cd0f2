use Rattle.std.proofs.Common.{List, [], ◌∷◌, ◌++◌, ap, ◌∙◌}
use Rattle.std.proofs.lemmas.List.{map_push}
use Rattle.fast_stream.specs.Nodes.{Item, Items, item_of, sequence_elements, elements_of}
use Rattle.fast_decoder.specs.Built.{elements_built}
use Rattle.fast_walk.proofs.Views.{item_of-sequence}
use Rattle.fast_decoder.proofs.builder.BuilderReceiver.end_sequence.Goals as goal

pub returns-clause-has : goal.returns-clause-has
returns-clause-has c = λ o d s next none has.
    let old = c.args.self.now in
    let elements = rw next at has.next in
    record {
      before = has.before;
      template = has.template;
      next = tt;
      done = rw (c.in_ok-push.ensures.items, map_push item_of old.nodes.items _, item_of-sequence c.replace-elements.result, c.replace-elements.ensures.value)
          (ap (λ (es : List Items). o.body.done ++ sequence_elements (elements_of es) ∷ []) elements ∙ ap (λ (ns : List Item). ns ++ sequence_elements (elements_of (elements_built old.elements.items)) ∷ []) has.done);
      around = has.around;
    }
