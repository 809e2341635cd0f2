-- Keys of a set and their slots.
use Rattle.fast_template.proofs.Common.{◌≡◌, Contains, Key, IsSound, TemplateList, NamesSame, keys_in}

pub same_slot_same_key : (set : TemplateList) (k l : Key) → IsSound set → Contains (keys_in set) k → Contains (keys_in set) l → k.slot ≡ l.slot → k ≡ l
same_slot_same_key set k l sound found there slots =
    let same : NamesSame k l = sound.slotted.one_key k l found there slots in
    λ i. record { slot = slots i; scope = same.0 i; name = same.1 i; part = same.2 i }
