use Rattle.fast_load.proofs.Common.{◌≡◌, ◌≤◌, rules, inl, length, map, List, ℕ, Bool, is_some, Some, None, Vec, subst, sym, ap, length-map, nat_cmp, slice_cmp, get, reference_cause, WrittenTemplate, written_template_of, Global, place_in, places_of, referred_by, first_at_fault, kept_of}
use Rattle.fast_load.proofs.LinkLaws.{are_links}
use Rattle.fast_load.proofs.ReferencePhase.{references_pass, references_fault}
use Rattle.fast_load.proofs.references.check_references.Goals as goal

pub returns-in-Ok-Ok : goal.returns-in-Ok-Ok
returns-in-Ok-Ok c =
    let ts : List WrittenTemplate = map written_template_of c.args.templates.now in
    let known : List ℕ → Bool = λ name. is_some (get (slice_cmp nat_cmp) c.args.names.now name) in
    let none : first_at_fault (λ w. None) (reference_cause known) ts 1 ≡ None = search rules in
    let kept : map (λ (row : Vec ℕ Global). row.items) c.in-Ok-Ok.links.items ≡ map (λ t. kept_of (λ i. places_of (place_in c.args.names.now) (referred_by i)) (written_template_of t).members) c.args.templates.now = search rules in
    (references_pass ts known (λ name. ap is_some (c.requires.lead name)) none, are_links c.args.templates.now c.args.names.now c.in-Ok-Ok.links.items c.requires.lead kept)

pub returns-in-Ok-Err : goal.returns-in-Ok-Err
returns-in-Ok-Err c =
    let ts : List WrittenTemplate = map written_template_of c.args.templates.now in
    let known : List ℕ → Bool = λ name. is_some (get (slice_cmp nat_cmp) c.args.names.now name) in
    let few : length ts ≤ 65535 = subst (λ n. n ≤ 65535) (sym (length-map c.args.templates.now written_template_of)) c.requires.few in
    let some : first_at_fault (λ w. None) (reference_cause known) ts 1 ≡ Some c.in-Ok-Err.fault = search rules in
    inl (references_fault ts known (λ name. ap is_some (c.requires.lead name)) c.in-Ok-Err.fault few some)
