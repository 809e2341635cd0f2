-- What loading a template text answers.
-- Own: the order of the checks of a load begins with the shape of the text.
use Rattle.std.specs.Prelude.{◌≡◌, ◌⊎◌, List, MatchResult, Result, Ok, Err}
use Rattle.fast_load.specs.Prelude.{LoadCause, LoadFault, WrittenTemplate, fault_at, want_of_memory, TemplateList, templates_in}
use Rattle.fast_load.specs.FlatLists.{AreResolved}
use Rattle.fast_load.specs.LoadChecks.{IsAccepted, IsFirstFault}

-- templates as written are built; a fault of the text's shape comes before that
abbrev pub Loads : Result (List WrittenTemplate) LoadFault → Result TemplateList LoadFault → Type 0
Loads (Ok written) result =
    MatchResult result (λ set. IsAccepted written × AreResolved written (templates_in set)) (λ fault. IsFirstFault written fault ⊎ (fault ≡ want_of_memory))
Loads (Err shape) result = MatchResult result (λ set. ⊥) (λ fault. (fault ≡ shape) ⊎ (fault ≡ want_of_memory))

-- bytes that are no JSON
abbrev pub IsNoText : Result TemplateList LoadFault → Type 0
IsNoText result = MatchResult result (λ set. ⊥) (λ fault. (fault ≡ fault_at LoadCause.S1 0 0) ⊎ (fault ≡ want_of_memory))
