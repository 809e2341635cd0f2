-- Where the piece that is next still lacks bytes, the stream stops at it.
use Rattle.fast_machine.proofs.Common.{◌≡◌, ◌<◌, ℕ, List, [], ◌-◌, length, take, refl, sym, ◌∙◌, append-nil, arith, false, nat_le, take_all, templates_in, Dictionary, Truncated, Framing, Plain, Blocks, Content, Reading, Lacks, stop_of, HaltedBy, Halt, Lack, Stage, Traversal, lacking_stops, Having, ReadsOn, RunStops, Standing, Unfinished, Stands, StopsBehind, framed_as}
use Rattle.fast_machine.proofs.BlockReads.{block_stops, open_stands}
use Rattle.fast_machine.proofs.Runs.{now_reads}
use Rattle.fast_machine.proofs.PlainReads.{plain_stops}

module _ {R : Type 0} (has : Having R) (stands keeps : Standing R) (t : Traversal) (r : R) (d : Dictionary) (before : List Content) (l : Lack) where
  abbrev Goes : Dictionary → (List ℕ → Reading) → Type 0
  Goes = ReadsOn has stands keeps t r d before

  abbrev halt : Halt
  halt = record { cause = Truncated; number = l.number; by = HaltedBy.Walk }

  message_stops : (unread : List ℕ) (start : Dictionary) (rest : List ℕ) → Lacks t d unread l → Unfinished Goes t unread start rest → RunStops t.level (templates_in t.set.now) start rest [] (stop_of t.template halt unread)
  message_stops unread start rest lacks u = record {
    front = [];
    rest = rest;
    start = start;
    parts = refl;
    carried = (refl, refl);
    ends = (
      u.some (λ map. let same : Stage.Body ≡ Stage.Map = sym lacks.0 ∙ map in absurd cc),
      u.fits,
      now_reads u ∙ lacking_stops has stands keeps t r (templates_in t.set.now) d start before u.read unread l u.goes lacks,
    );
  }

  pub still_waits : (framing : Framing) (left : ℕ) (unread fed : List ℕ) (messages : List Content) → Lacks t d unread l → (framing ≡ Blocks → length unread < left) → Stands framing left Goes t unread fed messages
      → StopsBehind (framed_as framing t) (templates_in t.set.now) fed messages (stop_of t.template halt unread)
  still_waits Plain left unread fed messages lacks room s =
      rw (append-nil messages) at (plain_stops t [] s refl refl (stop_of t.template halt unread) (message_stops unread s.start.dictionary s.rest lacks s.ends.0))
  still_waits Blocks left unread fed messages lacks room s =
      let short = room refl in
      let some : 0 < left = omega (arith, short) in
      let b = open_stands left 0 refl (λ k. (refl, refl)) (λ none. absurd (omega (arith, none, some))) some s in
      let all : take left unread ≡ unread = take_all left unread (omega (arith, short)) in
      let run = message_stops (take left unread) b.start.dictionary b.ends.within (rw (all) lacks) b.ends.next in
      let some_lack : nat_le (left - 0) (length unread) ≡ false = grind (arith, short) in
      rw (append-nil messages) at (block_stops t 0 [] b (omega arith) refl refl halt Truncated (rw (some_lack) refl) run)
