use Rattle.std.proofs.Common.{◌≡◌, ◌∙◌, Some, None, ap, sym, length, arith}
use Rattle.std.specs.Prelude.{option_map}
use Rattle.fast_template.specs.declared.resolved.FlatTemplate.{FlatTemplate}
use Rattle.fast_template.specs.TemplateSets.{templates_in}
use Rattle.fast_template.specs.Resolved.{list_of}
use Rattle.fast_stream.specs.Nodes.{content_of}
use Rattle.fast_stream.specs.Streams.{members_of}
use Rattle.fast_tape.specs.Tapes.{long_node, message_kind}
use Rattle.fast_walk.proofs.Serving.{found_members}
use Rattle.fast_untape.proofs.Messages.{begins_message, message_front, mismatch, unknown}
use Rattle.fast_untape.proofs.message.message_at.Goals as goal

pub returns-in_default-own_nodes : goal.returns-in_default-own_nodes
returns-in_default-own_nodes c = λ m count range begins.
    let f = message_front c.args.bytes.now c.args.nodes.now c.in-Some.first.now c.in-Some.behind.now count m c.in-Some.ensures.cases.0 begins in
    c.in_default-own_nodes.ensures m.template 0 f.rest f.b f.header f.join

pub returns-in_default-find : goal.returns-in_default-find
returns-in_default-find c =
    let none : members_of (templates_in c.args.set.now) c.in-Some.first.now.instruction ≡ None = found_members c.args.set.now c.in-Some.first.now.instruction ∙ ap (option_map (λ (f : FlatTemplate). list_of f.members.items)) (sym c.in_default-find.ensures.value) in
    rw (c.refused.ensures) (unknown (templates_in c.args.set.now) c.args.bytes.now c.args.nodes.now c.in-Some.first.now c.in-Some.behind.now c.in-Some.ensures.cases.0 none)

pub returns-in-Ok-None : goal.returns-in-Ok-None
returns-in-Ok-None c =
    let own = c.in-Some-own_nodes in
    let members = list_of c.in-Some-find.template.now.members.items in
    let known : members_of (templates_in c.args.set.now) c.in-Some.first.now.instruction ≡ Some members = found_members c.args.set.now c.in-Some.first.now.instruction ∙ ap (option_map (λ (f : FlatTemplate). list_of f.members.items)) (sym c.in-Some-find.ensures.value) in
    rw (c.refused-in-Ok-None.ensures) (mismatch (templates_in c.args.set.now) c.args.bytes.now c.args.nodes.now c.in-Some.first.now c.in-Some.behind.now own.own.now members c.in-Some.ensures.cases.0 known own.ensures.0 own.ensures.2 own.ensures.1 (rw (c.in-Ok-None.field-0-is, c.deref.ensures.value) at c.in-Ok-None.ensures))

pub returns-in-Ok-Some : goal.returns-in-Ok-Some
returns-in-Ok-Some c =
    let own = c.in-Some-own_nodes in
    let f = c.in-Some.first.now in
    let zero : f.number ≡ 0 = omega (arith, c.if-first-ne0.false) in
    let header : f ≡ long_node message_kind f.instruction 0 (length own.own.now) = own.ensures.0 ∙ ap (λ n. long_node message_kind f.instruction n (length own.own.now)) zero in
    begins_message c.args.bytes.now c.args.nodes.now f c.in-Some.behind.now own.own.now (content_of (record { template = f.instruction; fields = c.in-Ok-Some.fields })) c.in-Some.ensures.cases.0 header own.ensures.2 own.ensures.1 (rw (c.in-Ok-Some.field-0-is) at c.in-Ok-Some.ensures)
