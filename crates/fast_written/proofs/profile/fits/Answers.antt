use Rattle.std.proofs.Common.{◌≡◌, ◌&&◌, sym, ap, ap₂, ◌∙◌}
use Rattle.json.proofs.Trees.{view-Object}
use Rattle.json.specs.Json as json
use Rattle.json.specs.Value.{members_view, value_view}
use Rattle.fast_written.specs.JsonData.{all_known, all_met, data_in, data_of}
use Rattle.fast_written.specs.Profile.{fits}
use Rattle.fast_written.proofs.Fitting.{fits_is}
use Rattle.fast_written.proofs.profile.fits.Goals as goal

pub returns-then-knows_all : goal.returns-then-knows_all
returns-then-knows_all c =
    let ms = members_view c.in-Object.members.items in
    let seen : value_view c.args.value.now ≡ json.object ms = ap value_view c.in-Object.is ∙ view-Object c.in-Object.members in
    let known : all_known c.args.row ms ≡ c.knows_all.result = sym (c.knows_all.ensures ∙ ap (λ xs. all_known c.args.row (members_view xs)) c.deref.ensures.value) in
    let met : all_met c.args.row (data_of (json.object ms)) ≡ c.meets_all.result = sym (c.meets_all.ensures ∙ ap (λ v. all_met c.args.row (data_of v)) seen) in
    sym (ap (λ v. fits c.args.row (data_of v)) seen ∙ sym (fits_is c.args.row ms) ∙ ap₂ (λ a b. a && b) (known ∙ c.if-knows_all.true) met)

pub returns-else-knows_all : goal.returns-else-knows_all
returns-else-knows_all c =
    let ms = members_view c.in-Object.members.items in
    let seen : value_view c.args.value.now ≡ json.object ms = ap value_view c.in-Object.is ∙ view-Object c.in-Object.members in
    let known : all_known c.args.row ms ≡ c.knows_all.result = sym (c.knows_all.ensures ∙ ap (λ xs. all_known c.args.row (members_view xs)) c.deref.ensures.value) in
    c.if-knows_all.false ∙ sym (ap (λ v. fits c.args.row (data_of v)) seen ∙ sym (fits_is c.args.row ms) ∙ ap (λ a. a && all_met c.args.row (data_of (json.object ms))) (known ∙ c.if-knows_all.false))
