use Rattle.std.proofs.Common.{rules, ◌∙◌, Some, true, refl, sym, subst}
use Rattle.fast_value.specs.declared.scalar.Scalar.TheVariants.{U32}
use Rattle.fast_template.specs.Resolved.{list_of}
use Rattle.fast_stream.specs.Nodes.{content_of}
use Rattle.fast_walk.specs.Told.{HoldScalars}
use Rattle.fast_writer.specs.Levels.{level_of}
use Rattle.fast_writer.specs.Written.{IsEmpty}
use Rattle.fast_nodes.proofs.Additions.{adds_then, message_added}
use Rattle.fast_encoder.proofs.message.put_message.Goals as goal

pub put_back-requires : goal.put_back-requires
put_back-requires g c =
    let d = g.E.Entries.contents c.put_value.new.entries in
    let goes = c.in-Err.ensures.put.goes in
    record { changed = (d, goes.changed d (rw (c.keep.ensures.changes) refl)) }

pub returns-in-Err-clause-unchanged : goal.returns-in-Err-clause-unchanged
returns-in-Err-clause-unchanged g c =
    let d = g.E.Entries.contents c.args.journal.now.entries in
    let e = g.E.Entries.contents c.put_value.new.entries in
    let goes = c.in-Err.ensures.put.goes in
    let back = c.put_back.ensures.back e (goes.changed e (rw (c.keep.ensures.changes) refl)) in
    let put = rw (c.keep.ensures.entries) at c.in_ok-before.ensures.put in
    (c.in-Err.ensures.unchanged, c.put_back-in-Err.ensures.back d (Some (U32 c.args.message.now.template)) put.before (back ∙ put.after))

pub returns-in-Err-clause-holds : goal.returns-in-Err-clause-holds
returns-in-Err-clause-holds g c = subst HoldScalars (sym ((returns-in-Err-clause-unchanged g c).1)) c.requires.ready.holds

pub returns-in-Ok-clause-answer : goal.returns-in-Ok-clause-answer
returns-in-Ok-clause-answer g c =
    let empty : IsEmpty true (level_of c.begin.new.self) = search rules in
    let first = rw (c.requires.identifier, c.keep.ensures.entries) at c.in_ok-before.ensures.put.adds in
    let rest = rw (c.deref.ensures.value) at c.in-Ok.ensures.put in
    message_added (list_of c.args.members.now) (content_of c.args.message.now) empty (adds_then first rest.put.adds) rest.sealed
