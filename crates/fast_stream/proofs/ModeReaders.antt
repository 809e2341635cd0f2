-- The reading function of the next message, in each mode: what is read is its form, each form is read, and reading stops
-- exactly at its faults.
use Rattle.fast_stream.proofs.Common.{◌≡◌, ℕ, ◌<◌, List, [], ◌∷◌, length, Result, Ok, Err, refl, sym, ap, subst, ◌∙◌, arith, length-append, Level, IsEntity, IsBytes, ok_is, Resolved, Dictionary, Framing, Plain, Blocks, Mode, Content, MessageForm, MessageStop, message_at, IsMessageReader, NextPasses, IsNextReader, Stand, outside, plainly, in_blocks, FormIn, NextForm, bare}
use Rattle.fast_stream.proofs.Ends.{map_of}
use Rattle.fast_stream.proofs.BlockReaders.{block_again, block_found, block_stops, block_stopped, block_stays}

entity_some : (b : List ℕ) → IsEntity b → 0 < length b
entity_some [] h = absurd h
entity_some (x ∷ xs) h = omega arith

-- a message has a byte
pub message_some : (level : Level) (set : List Resolved) (d : Dictionary) (b : List ℕ) (m : Content) (after : Dictionary) → MessageForm level set d b m after → 0 < length b
message_some level set d b m after h =
    let g = h.segment in
    let map = entity_some g.map (map_of level g.bits g.left g.map g.map_form).entity in
    let size = ap (λ (z : List ℕ). length z) g.parts ∙ length-append g.map g.body in
    omega arith

some_in : (framing : Framing) (level : Level) (set : List Resolved) (s : Stand) (b : List ℕ) (m : Content) (after : Stand) → FormIn framing level set s b m after → 0 < length b
some_in Plain level set s b m after h = message_some level set s.dictionary b m after.dictionary h.0
some_in Blocks level set s b m after h =
    let some = message_some level set s.dictionary h.form m after.dictionary h.message in
    let size = ap (λ (z : List ℕ). length z) h.parts ∙ length-append h.size h.form in
    omega arith

pub next_some : (mode : Mode) (set : List Resolved) (s : Stand) (b : List ℕ) (m : Content) (after : Stand) → NextForm mode set s b m after → 0 < length b
next_some mode = some_in mode.framing mode.level

module _ (level : Level) (set : List Resolved) (is : IsMessageReader level set) where
  abbrev Message : Type 0
  Message = Result (Content × Dictionary × List ℕ) MessageStop

  abbrev Answer : Type 0
  Answer = Content × Stand × List ℕ

  abbrev failed : MessageStop → Result Answer MessageStop
  failed m = Err m

  bare_found : (s : Stand) (bytes : List ℕ) (m : Content) (after : Stand) (rest : List ℕ) (r : Message) → IsBytes bytes → message_at level set s.dictionary bytes ≡ r → bare r ≡ Ok (m, after, rest)
      → NextPasses (plainly level) set s bytes m after rest
  bare_found s bytes m after rest (Err f) fits h e = absurd cc
  bare_found s bytes m after rest (Ok r) fits h e =
      let t = is.found s.dictionary bytes r.0 r.1 r.2 fits h in
      subst (λ (p : Answer). NextPasses (plainly level) set s bytes p.0 p.1 p.2) (ok_is {F = MessageStop} (r.0, outside r.1, r.2) (m, after, rest) e)
      (record { front = t.front; parts = t.parts; rest_bytes = t.rest_bytes; form = (t.form, refl) })

  bare_refused : (m : MessageStop) (r : Message) → bare r ≡ Err m → r ≡ Err m
  bare_refused m (Ok r) e = absurd cc
  bare_refused m (Err f) e = cc

  outside_is : (s : Stand) → s.left ≡ 0 → outside s.dictionary ≡ s
  outside_is s none = rw (sym none) refl

  abbrev as_answer : Content → Stand → List ℕ → Result Answer MessageStop
  as_answer m s rest = Ok (m, s, rest)

  plain_reader : IsNextReader (plainly level) set
  plain_reader = record {
    found = λ s bytes m after rest fits e. bare_found s bytes m after rest (message_at level set s.dictionary bytes) fits refl e;
    again = λ s form rest m after h. ap bare (is.again s.dictionary form rest m after.dictionary h.0) ∙ ap (λ (t : Stand). as_answer m t rest) (outside_is after h.1);
    stops = λ s bytes m fits e. is.stops s.dictionary bytes m fits (bare_refused m (message_at level set s.dictionary bytes) e);
    stopped = λ s bytes m h. ap bare (is.stopped s.dictionary bytes m h);
    stays = λ s bytes more m fits e other. ap bare (is.stays s.dictionary bytes more m fits (bare_refused m (message_at level set s.dictionary bytes) e) other);
  }

  block_reader : IsNextReader (in_blocks level) set
  block_reader = record {
    found = λ s bytes m after rest fits e. let t = block_found level set is s bytes m after rest fits e in record { front = t.front; parts = t.parts; rest_bytes = t.rest_bytes; form = t.form };
    again = block_again level set is;
    stops = block_stops level set is;
    stopped = block_stopped level set is;
    stays = block_stays level set is;
  }

  reader_in : (framing : Framing) → IsNextReader (record { level = level; framing = framing }) set
  reader_in Plain = plain_reader
  reader_in Blocks = block_reader

pub next_reader : (mode : Mode) (set : List Resolved) → IsMessageReader mode.level set → IsNextReader mode set
next_reader mode set is = reader_in mode.level set is mode.framing
