-- The written templates of the worked rows are resolved to the worked set of fast_template, with its keys and slots.
use Rattle.fast_load.proofs.Common.{◌≡◌, ℕ, List, refl, Instructions, no_instructions, Resolved, numbered, with_keys, context_of, flat_list, WrittenTemplate, slot_of, quote, wrap, opt, legs, marks, bare, clash, tail, init, delta, common, grp, uni, empty, const, fixed, first}
use Rattle.fast_template.proofs.WorkedSet as worked

-- The only reference is to Common, the eleventh template.
abbrev pub common_list : List ℕ → Instructions
common_list name = flat_list (λ _. no_instructions) (context_of 11 common) common.members

-- the template at a place, as it is once it is resolved
abbrev resolved : ℕ → WrittenTemplate → Resolved
resolved place t = record { id = t.id; name = t.name; members = numbered 1 (with_keys (λ k. record k { slot = slot_of k }) (flat_list common_list (context_of place t) t.members)) }

quote_is : resolved 1 quote ≡ worked.quote
quote_is = refl

wrap_is : resolved 2 wrap ≡ worked.wrap
wrap_is = refl

opt_is : resolved 3 opt ≡ worked.opt
opt_is = refl

legs_is : resolved 4 legs ≡ worked.legs
legs_is = refl

marks_is : resolved 5 marks ≡ worked.marks
marks_is = refl

bare_is : resolved 6 bare ≡ worked.bare
bare_is = refl

clash_is : resolved 7 clash ≡ worked.clash
clash_is = refl

tail_is : resolved 8 tail ≡ worked.tail
tail_is = refl

init_is : resolved 9 init ≡ worked.init
init_is = refl

delta_is : resolved 10 delta ≡ worked.delta
delta_is = refl

common_is : resolved 11 common ≡ worked.common
common_is = refl

grp_is : resolved 12 grp ≡ worked.grp
grp_is = refl

uni_is : resolved 13 uni ≡ worked.uni
uni_is = refl

empty_is : resolved 14 empty ≡ worked.empty
empty_is = refl

const_is : resolved 15 const ≡ worked.const
const_is = refl

fixed_is : resolved 16 fixed ≡ worked.fixed
fixed_is = refl

first_is : resolved 17 first ≡ worked.first
first_is = refl
