-- Laws of canonical bytes: they exist, are one, stay, and no stream of the same messages is shorter.
use Rattle.fast_canon.proofs.Common.{◌≡◌, ◌≤◌, ◌↔◌, ℕ, List, arith, length, refl, sym, subst, Level, Usual, TemplateList, IsSound, templates_in, Dictionary, parts_of_sets, Mode, Content, CarriesFrom, Carries, plainly, as_messages, in_mode, message_reader, next_reader, one_list, IsCanonical, canonical_carries, empty_holds}
use Rattle.std.specs.FinMap as map
use Rattle.fast_canon.proofs.BetterBodies.{better_stream}
use Rattle.fast_canon.proofs.OneCanonical.{one_canonical}

module _ (set : TemplateList) (sound : IsSound set) where
  -- canonical bytes carry their messages in plain framing, at each level
  pub canonical_in_mode : (level : Level) (messages : List Content) (bytes : List ℕ) → IsCanonical (templates_in set) messages bytes → Carries (plainly level) (templates_in set) bytes messages
  canonical_in_mode level messages bytes h = in_mode level (templates_in set) bytes messages (canonical_carries level (templates_in set) messages bytes h)

  pub canonical_exists : (mode : Mode) (level : Level) (stream : List ℕ) (messages : List Content) → Carries mode (templates_in set) stream messages → (bytes : List ℕ) × IsCanonical (templates_in set) messages bytes × Carries (plainly level) (templates_in set) bytes messages
  canonical_exists mode level stream messages h =
      let usual = as_messages mode (templates_in set) stream messages h in
      let better = better_stream (templates_in set) (parts_of_sets set sound) messages map.empty usual.0 usual.1.0 empty_holds usual.1.1 in
      let canonical : IsCanonical (templates_in set) messages better.bytes = (usual.1.0, better.stands) in
      (better.bytes, canonical, canonical_in_mode level messages better.bytes canonical)

  one_of_messages : (messages : List Content) (b c : List ℕ) → IsCanonical (templates_in set) messages b → IsCanonical (templates_in set) messages c → b ≡ c
  one_of_messages messages b c h k = (one_canonical (templates_in set) messages map.empty map.empty h.0 k.0 b c refl h.1 k.1).0

  same_list : (level : Level) (stream : List ℕ) (messages others : List Content) → Carries (plainly level) (templates_in set) stream messages → Carries (plainly level) (templates_in set) stream others → messages ≡ others
  same_list level stream messages others = one_list (plainly level) (templates_in set) (next_reader (plainly level) (templates_in set) (message_reader level (templates_in set) sound.typed)) stream messages others

  pub same_exactly : (messages others : List Content) (bytes more : List ℕ) → IsCanonical (templates_in set) messages bytes → IsCanonical (templates_in set) others more → (messages ≡ others) ↔ (bytes ≡ more)
  same_exactly messages others bytes more h k = (
    λ e. one_of_messages others bytes more (subst (λ (ms : List Content). IsCanonical (templates_in set) ms bytes) e h) k,
    λ e. same_list Usual more messages others
        (subst (λ (b : List ℕ). Carries (plainly Usual) (templates_in set) b messages) e (canonical_in_mode Usual messages bytes h))
        (canonical_in_mode Usual others more k),
  )

  pub stays : (level : Level) (messages others : List Content) (bytes more : List ℕ) → IsCanonical (templates_in set) messages bytes → Carries (plainly level) (templates_in set) bytes others
      → (others ≡ messages) × (IsCanonical (templates_in set) others more ↔ (more ≡ bytes))
  stays level messages others bytes more h k =
      let same : others ≡ messages = same_list level bytes others messages k (canonical_in_mode level messages bytes h) in
      let own : IsCanonical (templates_in set) others bytes = subst (λ (ms : List Content). IsCanonical (templates_in set) ms bytes) (sym same) h in (
        same,
        (λ g. one_of_messages others more bytes g own, λ e. subst (λ (b : List ℕ). IsCanonical (templates_in set) others b) (sym e) own),
      )

  -- canonical bytes of messages that stand alone in some bytes, from the dictionary in which every entry is undefined
  pub none_shorter_alone : (stream bytes : List ℕ) (messages : List Content) (after : Dictionary) → CarriesFrom Usual (templates_in set) map.empty stream messages after → IsCanonical (templates_in set) messages bytes → length bytes ≤ length stream
  none_shorter_alone stream bytes messages after h k =
      let better = better_stream (templates_in set) (parts_of_sets set sound) messages map.empty stream after empty_holds h in
      subst (λ (b : List ℕ). length b ≤ length stream) (one_of_messages messages better.bytes bytes (after, better.stands) k) better.no_longer

  pub none_shorter : (mode : Mode) (stream bytes : List ℕ) (messages : List Content) → Carries mode (templates_in set) stream messages → IsCanonical (templates_in set) messages bytes → length bytes ≤ length stream
  none_shorter mode stream bytes messages h k =
      let usual = as_messages mode (templates_in set) stream messages h in
      omega (arith, none_shorter_alone usual.0 bytes messages usual.1.0 usual.1.1 k)
