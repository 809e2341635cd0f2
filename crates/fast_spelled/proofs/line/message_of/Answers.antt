use Rattle.std.proofs.Common.{ap, ◌∙◌, Some, inl, inr, codes}
use Rattle.json.specs.Json.{document}
use Rattle.json.proofs.Unique.Spelling.{tokens-document}
use Rattle.fast_stream.specs.Nodes.{content_of}
use Rattle.fast_spelled.specs.Members.{first_named}
use Rattle.fast_spelled.specs.Spelled.{fields_of}
use Rattle.fast_spelled.proofs.Heads.{answered, document_depth, found_reads, message_is, no_spelling, only_fault, only_first, only_second, refused_or, some_of}
use Rattle.fast_spelled.proofs.Whole.{line_spells}
use Rattle.fast_spelled.proofs.line.message_of.Goals as goal

pub returns-in-Some-clause-spelled : goal.returns-in-Some-clause-spelled
returns-in-Some-clause-spelled c =
    let x = c.in-Some.ensures in
    line_spells c.args.set.now (content_of c.in-Some.message) c.args.line.now x.sound x.within c.utf8.line x.shown

pub returns-in-Err-read_head-clause-refused : goal.returns-in-Err-read_head-clause-refused
returns-in-Err-read_head-clause-refused c =
    let line = c.args.line.now in
    let x = some_of (document line) c.in-Ok.ensures in
    inr (inl (no_spelling c.args.set.now line x.0 x.1 (c.in-Err-read_head.ensures x.0 (document_depth line x.0 x.1) (c.in_ok-reader.ensures.ok ∙ tokens-document line x.0 x.1) c.args.set.now)))

pub returns-in-Err-template_for-clause-refused : goal.returns-in-Err-template_for-clause-refused
returns-in-Err-template_for-clause-refused c =
    let line = c.args.line.now in
    let x = some_of (document line) c.in-Ok.ensures in
    let h = c.in-Ok-read_head.ensures x.0 (document_depth line x.0 x.1) (c.in_ok-reader.ensures.ok ∙ tokens-document line x.0 x.1) in
    refused_or c.in-Err-template_for.ensures (λ none. (no_spelling c.args.set.now line x.0 x.1 (message_is c.args.set.now x.0 c.in-Ok-read_head.found h ∙ none (first_named (codes "fields") h.members))))

pub returns-clause-spelled : goal.returns-clause-spelled
returns-clause-spelled c =
    let line = c.args.line.now in
    let x = some_of (document line) c.in-Ok.ensures in
    let h = c.in-Ok-read_head.ensures x.0 (document_depth line x.0 x.1) (c.in_ok-reader.ensures.ok ∙ tokens-document line x.0 x.1) in
    let fields = first_named (codes "fields") h.members in
    let message = message_is c.args.set.now x.0 c.in-Ok-read_head.found h ∙ found_reads c.args.set.now c.in-Ok-read_head.found.head fields c.in-Ok-template_for.found.0.now c.in-Ok-template_for.ensures.0 in
    only_first c.read_fields.result c.args.set.now line (answered c.read_fields.result c.args.set.now line x.0 (fields_of c.in-Ok-template_for.found.0.now fields) c.utf8.line x.1 message (c.read_fields.ensures h.members (x.1 ∙ ap Some h.is)))

pub returns-clause-small : goal.returns-clause-small
returns-clause-small c =
    let line = c.args.line.now in
    let x = some_of (document line) c.in-Ok.ensures in
    let h = c.in-Ok-read_head.ensures x.0 (document_depth line x.0 x.1) (c.in_ok-reader.ensures.ok ∙ tokens-document line x.0 x.1) in
    let fields = first_named (codes "fields") h.members in
    let message = message_is c.args.set.now x.0 c.in-Ok-read_head.found h ∙ found_reads c.args.set.now c.in-Ok-read_head.found.head fields c.in-Ok-template_for.found.0.now c.in-Ok-template_for.ensures.0 in
    only_second c.read_fields.result c.args.set.now line (answered c.read_fields.result c.args.set.now line x.0 (fields_of c.in-Ok-template_for.found.0.now fields) c.utf8.line x.1 message (c.read_fields.ensures h.members (x.1 ∙ ap Some h.is)))

pub returns-clause-refused : goal.returns-clause-refused
returns-clause-refused c =
    let line = c.args.line.now in
    let x = some_of (document line) c.in-Ok.ensures in
    let h = c.in-Ok-read_head.ensures x.0 (document_depth line x.0 x.1) (c.in_ok-reader.ensures.ok ∙ tokens-document line x.0 x.1) in
    let fields = first_named (codes "fields") h.members in
    let message = message_is c.args.set.now x.0 c.in-Ok-read_head.found h ∙ found_reads c.args.set.now c.in-Ok-read_head.found.head fields c.in-Ok-template_for.found.0.now c.in-Ok-template_for.ensures.0 in
    only_fault c.read_fields.result c.args.set.now line (answered c.read_fields.result c.args.set.now line x.0 (fields_of c.in-Ok-template_for.found.0.now fields) c.utf8.line x.1 message (c.read_fields.ensures h.members (x.1 ∙ ap Some h.is)))
