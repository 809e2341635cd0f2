use Rattle.fast_decoder.proofs.Common.{IfOk-weaker, ap, sym, ◌∙◌, List, [], ◌∷◌, ◌++◌, Item, single}
use Rattle.fast_decoder.proofs.builder.BuilderReceiver.field.Goals as goal

pub returns-clause-goes : goal.returns-clause-goes
returns-clause-goes g c = IfOk-weaker c.put_field.result _ _
    (λ n r. (
      r.0,
      r.1,
      λ number is o next first has. record {
        before = has.before;
        template = has.template;
        next = tt;
        done = ap (λ (xs : List Item). xs ++ single r.0 ∷ []) has.done ∙ sym r.2;
        around = has.around;
      },
    )) c.put_field.ensures.put
