-- What a reader whose bytes are kept shows of itself.
use Rattle.fast_explain.specs.declared.seen.Seen.{Seen}

-- the reader itself
abbrev pub inner_of : {I : Type 0} → Seen I → I
inner_of s = s.inner
