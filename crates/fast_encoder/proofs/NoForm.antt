-- What is refused has no form.
use Rattle.std.proofs.Common.{◌≡◌, ℕ, List, Some, None, Result, Ok, Err, ◌⊎◌, inl, inr, true, ap, ◌∙◌}
use Rattle.std.specs.Prelude.{IfErr, OnOk}
use Rattle.fast_template.specs.Resolved.{Instructions, Resolved}
use Rattle.fast_template.specs.TemplateSets.{IsSound, TemplateList, templates_in}
use Rattle.fast_dictionary.specs.Dictionary.{Dictionary}
use Rattle.fast_wire.specs.declared.level.Level.TheVariants.{Usual}
use Rattle.fast_stream.specs.Nodes.{Content}
use Rattle.fast_stream.specs.Streams.{MessageForm, members_of}
use Rattle.fast_nodes.specs.Added.{AnswersBytes, in_segment, of_message}
use Rattle.fast_walk.specs.Told.{HoldScalars}
use Rattle.fast_nodes.specs.declared.fault.EncodeCause.{EncodeCause}
use Rattle.fast_nodes.specs.declared.fault.EncodeFault.{EncodeFault}
use Rattle.fast_nodes.specs.FirstRefusal.{error_in, first_refusal, message_refusal, or_else, refused, whole_refusal}
use Rattle.fast_nodes.proofs.Messages.{Written, written_is}
use Rattle.fast_nodes.proofs.NoForms.{refused_has_no_form}

abbrev HasNoForm : List Resolved → Dictionary → Content → Type 0
HasNoForm set d m = (bytes : List ℕ) (after : Dictionary) → MessageForm Usual set d bytes m after → ⊥

pub no_form : (set : TemplateList) (d : Dictionary) (m : Content) (f : EncodeFault) → IsSound set → HoldScalars d
    → (f ≡ refused EncodeCause.Memory) ⊎ (first_refusal (templates_in set) d m ≡ Some f) → (f ≡ refused EncodeCause.Memory) ⊎ HasNoForm (templates_in set) d m
no_form set d m f sound holds (inl memory) = inl memory
no_form set d m f sound holds (inr why) = inr (λ bytes after form. refused_has_no_form set d m f bytes after sound holds why form)

-- of a message of a template of the set
pub no_form_of : (set : TemplateList) (d e : Dictionary) (m : Content) (members : Instructions) (old new : List ℕ) (r : Result (Unit {0}) EncodeFault)
    → IsSound set → HoldScalars d → members_of (templates_in set) m.template ≡ Some members → whole_refusal members m.items ≡ None
    → AnswersBytes (in_segment true (of_message members m)) d old e new r
    → IfErr r (λ f. (f ≡ refused EncodeCause.Memory) ⊎ HasNoForm (templates_in set) d m)
no_form_of set d e m members old new (Ok x) sound holds named whole answer = tt
no_form_of set d e m members old new (Err f) sound holds named whole (inl memory) = inl memory
no_form_of set d e m members old new (Err f) sound holds named whole (inr why) =
    no_form set d m f sound holds (inr (ap (λ o. message_refusal o d m) named ∙ ap (λ o. or_else o (error_in ((in_segment true (of_message members m)).judge d))) whole ∙ ap error_in why))

-- or it is written
pub written_of : (set : TemplateList) (d e : Dictionary) (m : Content) (members : Instructions) (old new : List ℕ) (r : Result (Unit {0}) EncodeFault)
    → members_of (templates_in set) m.template ≡ Some members → whole_refusal members m.items ≡ None
    → AnswersBytes (in_segment true (of_message members m)) d old e new r → OnOk r (Written (templates_in set) d m old e new)
written_of set d e m members old new (Ok x) named whole answer = written_is (templates_in set) m members named whole answer
written_of set d e m members old new (Err f) named whole answer = tt
