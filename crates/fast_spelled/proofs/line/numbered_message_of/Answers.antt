use Rattle.std.proofs.Common.{ap, sym, ◌∙◌, Some, Ok, Err, inl, inr, codes}
use Rattle.json.specs.Json.{document}
use Rattle.json.proofs.Unique.Spelling.{tokens-document}
use Rattle.fast_stream.specs.Nodes.{content_of}
use Rattle.fast_spelled.specs.Members.{first_named}
use Rattle.fast_spelled.specs.Spelled.{fields_of}
use Rattle.fast_spelled.proofs.Heads.{answered_in, document_depth, found_reads, in_packet, no_number, no_numbered, numbered_is, refused_or, some_of}
use Rattle.fast_spelled.proofs.InPackets.{numbered_shown}
use Rattle.fast_spelled.proofs.line.numbered_message_of.Goals as goal

pub returns-in-Some-clause-spelled : goal.returns-in-Some-clause-spelled
returns-in-Some-clause-spelled c =
    let x = c.in-Some.numbered in
    numbered_shown c.args.set.now x.0 (content_of x.1) c.args.line.now c.in-Some.ensures c.utf8.line

pub returns-in-Err-read_head-clause-refused : goal.returns-in-Err-read_head-clause-refused
returns-in-Err-read_head-clause-refused c =
    let line = c.args.line.now in
    let x = some_of (document line) c.in-Ok.ensures in
    inr (inl (no_numbered c.args.set.now line x.0 x.1 (c.in-Err-read_head.ensures x.0 (document_depth line x.0 x.1) (c.in_ok-reader.ensures.ok ∙ tokens-document line x.0 x.1) c.args.set.now)))

pub returns-in-None-clause-refused : goal.returns-in-None-clause-refused
returns-in-None-clause-refused c =
    let line = c.args.line.now in
    let x = some_of (document line) c.in-Ok.ensures in
    let h = c.in-Ok-read_head.ensures x.0 (document_depth line x.0 x.1) (c.in_ok-reader.ensures.ok ∙ tokens-document line x.0 x.1) in
    inr (inl (no_numbered c.args.set.now line x.0 x.1 (no_number c.args.set.now x.0 c.in-Ok-read_head.found h (sym c.in-None.is ∙ c.in_ok-number.ensures))))

pub returns-in-Err-template_for-clause-refused : goal.returns-in-Err-template_for-clause-refused
returns-in-Err-template_for-clause-refused c =
    let line = c.args.line.now in
    let x = some_of (document line) c.in-Ok.ensures in
    let h = c.in-Ok-read_head.ensures x.0 (document_depth line x.0 x.1) (c.in_ok-reader.ensures.ok ∙ tokens-document line x.0 x.1) in
    let numbered = numbered_is c.args.set.now x.0 c.in-Ok-read_head.found h c.in-Some-2.number (sym c.in-Some-2.is ∙ c.in_ok-number.ensures) in
    refused_or c.in-Err-template_for.ensures (λ none. no_numbered c.args.set.now line x.0 x.1 (numbered ∙ ap (in_packet c.in-Some-2.number) (none (first_named (codes "fields") h.members))))

pub returns-in-Ok-read_fields-clause-spelled : goal.returns-in-Ok-read_fields-clause-spelled
returns-in-Ok-read_fields-clause-spelled c =
    let line = c.args.line.now in
    let x = some_of (document line) c.in-Ok.ensures in
    let h = c.in-Ok-read_head.ensures x.0 (document_depth line x.0 x.1) (c.in_ok-reader.ensures.ok ∙ tokens-document line x.0 x.1) in
    let fields = first_named (codes "fields") h.members in
    let template = c.in-Ok-template_for.found.0.now in
    let message = numbered_is c.args.set.now x.0 c.in-Ok-read_head.found h c.in-Some-2.number (sym c.in-Some-2.is ∙ c.in_ok-number.ensures) ∙ ap (in_packet c.in-Some-2.number) (found_reads c.args.set.now c.in-Ok-read_head.found.head fields template c.in-Ok-template_for.ensures.0) in
    (answered_in (Ok c.in-Ok-read_fields.message) c.args.set.now line x.0 c.in-Some-2.number (fields_of template fields) c.utf8.line x.1 message (c.in-Ok-read_fields.ensures h.members (x.1 ∙ ap Some h.is))).0

pub returns-in-Ok-read_fields-clause-small : goal.returns-in-Ok-read_fields-clause-small
returns-in-Ok-read_fields-clause-small c =
    let line = c.args.line.now in
    let x = some_of (document line) c.in-Ok.ensures in
    let h = c.in-Ok-read_head.ensures x.0 (document_depth line x.0 x.1) (c.in_ok-reader.ensures.ok ∙ tokens-document line x.0 x.1) in
    let fields = first_named (codes "fields") h.members in
    let template = c.in-Ok-template_for.found.0.now in
    let message = numbered_is c.args.set.now x.0 c.in-Ok-read_head.found h c.in-Some-2.number (sym c.in-Some-2.is ∙ c.in_ok-number.ensures) ∙ ap (in_packet c.in-Some-2.number) (found_reads c.args.set.now c.in-Ok-read_head.found.head fields template c.in-Ok-template_for.ensures.0) in
    (answered_in (Ok c.in-Ok-read_fields.message) c.args.set.now line x.0 c.in-Some-2.number (fields_of template fields) c.utf8.line x.1 message (c.in-Ok-read_fields.ensures h.members (x.1 ∙ ap Some h.is))).1

pub returns-in-Err-read_fields-clause-refused : goal.returns-in-Err-read_fields-clause-refused
returns-in-Err-read_fields-clause-refused c =
    let line = c.args.line.now in
    let x = some_of (document line) c.in-Ok.ensures in
    let h = c.in-Ok-read_head.ensures x.0 (document_depth line x.0 x.1) (c.in_ok-reader.ensures.ok ∙ tokens-document line x.0 x.1) in
    let fields = first_named (codes "fields") h.members in
    let template = c.in-Ok-template_for.found.0.now in
    let message = numbered_is c.args.set.now x.0 c.in-Ok-read_head.found h c.in-Some-2.number (sym c.in-Some-2.is ∙ c.in_ok-number.ensures) ∙ ap (in_packet c.in-Some-2.number) (found_reads c.args.set.now c.in-Ok-read_head.found.head fields template c.in-Ok-template_for.ensures.0) in
    answered_in (Err c.in-Err-read_fields.fault) c.args.set.now line x.0 c.in-Some-2.number (fields_of template fields) c.utf8.line x.1 message (c.in-Err-read_fields.ensures h.members (x.1 ∙ ap Some h.is))
