use Rattle.std.proofs.Common.{ap, sym, ◌∙◌, refl, arith, subst, codes}
use Rattle.json.specs.Json.{object}
use Rattle.json.proofs.Unique.Spelling.{tokens-document}
use Rattle.fast_template.specs.Resolved.{list_of}
use Rattle.fast_stream.specs.Nodes.{nodes_in, node_limit}
use Rattle.fast_spelled.specs.Members.{first_named}
use Rattle.fast_spelled.specs.Spelled.{items_by}
use Rattle.fast_spelled.specs.Tokens.{Refuses}
use Rattle.fast_spelled.proofs.Answering.{refused_so}
use Rattle.fast_spelled.proofs.Heads.{depth_within, document_depth, fields_are, fields_refused}
use Rattle.fast_spelled.proofs.line.read_fields.Goals as goal

pub returns-in-Err : goal.returns-in-Err
returns-in-Err c = λ ms e.
    let line = c.args.line.now in
    refused_so c.in-Err.fault (c.in-Err.ensures ms (depth_within (object ms) ms (document_depth line (object ms) e) refl) (c.in_ok-reader.ensures.ok ∙ tokens-document line (object ms) e) c.args.template.now)

pub returns-in-Ok-read_members : goal.returns-in-Ok-read_members
returns-in-Ok-read_members c = λ ms e.
    let line = c.args.line.now in
    let f = c.in-Ok.ensures ms (depth_within (object ms) ms (document_depth line (object ms) e) refl) (c.in_ok-reader.ensures.ok ∙ tokens-document line (object ms) e) in
    let r = c.in-Ok-read_members.ensures.read f.0 f.1 f.3 in (
      fields_are c.args.template.now c.args.id (first_named (codes "fields") ms) f.0 _ c.requires f.2 (ap (λ l. items_by (list_of l) f.0) (sym c.deref.ensures.value) ∙ r.0.0),
      omega (arith, r.0.1),
    )

pub returns-in-Err-read_members : goal.returns-in-Err-read_members
returns-in-Err-read_members c = λ ms e.
    let line = c.args.line.now in
    let f = c.in-Ok.ensures ms (depth_within (object ms) ms (document_depth line (object ms) e) refl) (c.in_ok-reader.ensures.ok ∙ tokens-document line (object ms) e) in
    fields_refused c.args.template.now (first_named (codes "fields") ms) f.0 node_limit c.in-Err-read_members.fault f.2
    (subst (λ l. Refuses nodes_in node_limit (items_by (list_of l) f.0) c.in-Err-read_members.fault) c.deref.ensures.value (c.in-Err-read_members.ensures.read f.0 f.1 f.3))
