use Rattle.std.proofs.Common.{◌≡◌, rules, length, []}
use Rattle.fast_draft.proofs.Places.{sound_empty}
use Rattle.fast_draft.proofs.Leaving.{none_around}
use Rattle.fast_draft.proofs.draft.Draft.finish.Goals as goal

pub invariant_of-self : goal.invariant_of-self
invariant_of-self c =
    let d = c.self.inside in
    let long : c.len.result ≡ length c.end.new.out.items = search rules in
    rw (c.at-self-inside.ensures, long, none_around d.around.items d.out.items d.inner _ c.args.self.now c.self.view_is c.requires) (sound_empty c.end.new.out.items [] tt)
