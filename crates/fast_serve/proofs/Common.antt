-- What the proofs of this crate cite from elsewhere, passed on from one place. Declares nothing.
pub use Rattle.std.proofs.Common.{Err, List, None, Ok, OnErr, OnOk, Option, Result, Some, [], ap, arith, false, inl, inr, length, map, refl, rules, string_bytes, subst, sym, take, ℕ, ◌∙◌, ◌≡◌, ◌≢◌, ◌≤◌}
pub use Rattle.std.proofs.lemmas.List.{append-nil}
pub use Rattle.std.proofs.lemmas.Result.{err_from_is_err_and}
pub use Rattle.std.specs.Io.KnownBytes.{Appends}
pub use Rattle.fast_io.specs.Counts.{counted, counted_by}
pub use Rattle.fast_io.specs.Traffic.{CountsError, Taken}
pub use Rattle.fast_io.specs.declared.input.Failed.{Failed}
pub use Rattle.fast_stream.specs.declared.fault.Fault.{Fault}
pub use Rattle.fast_machine.specs.Inputs.{Reader, Reads, reader_by}
pub use Rattle.fast_pass.specs.declared.fault.CanonFault.{CanonFault}
pub use Rattle.fast_template.specs.TemplateSets.{TemplateList}
pub use Rattle.fast_host.specs.Devices.{Inputs, IsReadFrom, IsUnopened, Writer, input_of, inputs_by, writer_by}
pub use Rattle.fast_host.specs.Input.{IsText}
pub use Rattle.fast_host.specs.Refusals.{text_of}
pub use Rattle.fast_host.specs.declared.refusal.Refusal.{Refusal}
pub use Rattle.fast_host.specs.declared.refusal.Refusal.TheVariants.{Memory}
pub use Rattle.fast_request.specs.CommandLine.{Asked, AsksFor, asked_by}
pub use Rattle.fast_serve.specs.Served.{Answer, AnswersInHex, CanonInHex, HasText, LoadsText, PerformsWith, Says, SaysAsked, SaysText, WritesHex}
