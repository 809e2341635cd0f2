-- What the proofs of this crate cite from elsewhere, passed on from one place. Declares nothing.
pub use Rattle.std.proofs.Common.{Bool, List, None, Option, Some, [], ap, ap₂, codes, map, option_and_then, option_map, refl, false, subst, sym, true, ◌∙◌, ◌∷◌, ◌≡◌}
pub use Rattle.std.proofs.lemmas.Result.{IfOk-weaker}
unfoldable pub use Rattle.clap.proofs.OnLiterals.{clap_on_literals}
pub use Rattle.clap.proofs.WalkLemmas.{first_value-rows, one_text-rows}
pub use Rattle.clap.specs.Simple.{app_of_fields, on_top}
pub use Rattle.clap.specs.Words.{App, Row, Rule, Text, app_of, first_of, found_of, is_simple, matches_of, one_of, rows_of, rule_of, with_rule}
pub use Rattle.clap.specs.declared.builder.arg.Arg.{Arg}
pub use Rattle.clap.specs.declared.builder.value_parser.ValueParser.{ValueParser}
pub use Rattle.fast_command.specs.declared.command.Command.{Command}
pub use Rattle.fast_command.specs.declared.command.Command.TheVariants.{Show, Check, Canon}
pub use Rattle.fast_wire.specs.declared.level.Level.TheVariants.{Usual, Strict}
pub use Rattle.fast_stream.specs.declared.mode.Framing.TheVariants.{Blocks}
pub use Rattle.fast_request.specs.CommandLine.{Asked, Finds, asked_by, command_named, line_among, task_named}
pub use Rattle.fast_request.specs.declared.request.Flags.{Flags}
pub use Rattle.fast_request.specs.declared.request.Task.{Task}
unfoldable pub use Rattle.fast_request.specs.CommandLine.{rows_among}
