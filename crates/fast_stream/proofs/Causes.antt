-- The causes that bytes can have: a stream's fault is no failed read, and no used up reads.
use Rattle.fast_stream.proofs.Common.{ℕ, zero, suc, true, false, Bool, List, [], length, take, sym, subst, inl, inr, nat_le, Level, Usual, Strict, FieldPart, Instruction, Instructions, whole_field, field_in_parts, group_of, sequence_of, no_instructions, then_instruction, has_map, Resolved, Dictionary, WireFault, FieldFault, Cause, Place, Items, nodes_in, State, Framing, Mode, Stand, SizeFault, block_cause, in_size, in_message, StopsIn, FirstFault}
use Rattle.fast_stream.specs.Faults.{cause_of_wire, cause_of_field, Stop, MessageStop, MapFault, ClosedStops, PartFault, NodeStops, SegmentStops, EachStops, PieceStops, BodyStops, IdentifierFault, MessageStops, in_map, in_identifier, in_body, FirstFault as FirstPlainFault}

module _ (level : Level) where
  -- a cause that bytes can have
  abbrev pub IsOfBytes : Cause → Type 0
  IsOfBytes Cause.Read = ⊥
  IsOfBytes Cause.Turns = ⊥
  IsOfBytes c = Unit {0}

  of_wire : (f : WireFault) → IsOfBytes (cause_of_wire f)
  of_wire WireFault.NeedMore = tt
  of_wire WireFault.TooLong = tt
  of_wire WireFault.Range = tt
  of_wire WireFault.NotUtf8 = tt
  of_wire WireFault.Memory = tt

  of_field : (f : FieldFault) → IsOfBytes (cause_of_field f)
  of_field FieldFault.D2 = tt
  of_field FieldFault.D4 = tt
  of_field FieldFault.D5 = tt
  of_field FieldFault.D6 = tt
  of_field FieldFault.D7 = tt
  of_field FieldFault.R1 = tt
  of_field FieldFault.R2 = tt
  of_field FieldFault.R6 = tt
  of_field FieldFault.R9 = tt
  of_field FieldFault.Limit = tt
  of_field FieldFault.NeedMore = tt
  of_field FieldFault.Memory = tt

  of_map_at : (l : Level) (rest : List ℕ) (c : Cause) → MapFault l rest c → IsOfBytes c
  of_map_at Usual rest c h = subst IsOfBytes (sym h.2) (of_wire h.0)
  of_map_at Strict rest c (inl h) = subst IsOfBytes (sym h.2) (of_wire h.0)
  of_map_at Strict rest c (inr h) = subst IsOfBytes (sym h.0) tt

  of_map : (rest : List ℕ) (c : Cause) → MapFault level rest c → IsOfBytes c
  of_map rest c h = of_map_at level rest c h

  of_part : (p : FieldPart) (s : State) (rest : List ℕ) (c : Cause) → PartFault level p s rest c → IsOfBytes c
  of_part p s rest c h = subst IsOfBytes (sym h.2) (of_field h.0)

  of_node : (number spare : ℕ) (Behind : ℕ → Type 0) (rest : List ℕ) (stop : Stop) → NodeStops number spare Behind rest stop → ((k : ℕ) → Behind k → IsOfBytes stop.cause) → IsOfBytes stop.cause
  of_node number zero Behind rest stop h behind = subst IsOfBytes (sym h.fault) tt
  of_node number (suc spare) Behind rest stop h behind = behind spare h

  of_segment : (number : ℕ) (has : Bool) (Inside : State → List ℕ → Type 0) (d : Dictionary) (rest : List ℕ) (stop : Stop) → SegmentStops level number has Inside d rest stop
      → ((s : State) (y : List ℕ) → Inside s y → IsOfBytes stop.cause) → IsOfBytes stop.cause
  of_segment number true Inside d rest stop (inl h) inside = of_map rest stop.cause h.fault
  of_segment number true Inside d rest stop (inr h) inside = inside (record { dictionary = d; bits = h.between }) h.back h.second
  of_segment number false Inside d rest stop h inside = inside (record { dictionary = d; bits = [] }) rest h

  of_each : (number : ℕ) (One : Dictionary → List ℕ → Items → Dictionary → Type 0) (OneStops : ℕ → Dictionary → List ℕ → Type 0) (stop : Stop)
      → ((k : ℕ) (d : Dictionary) (y : List ℕ) → OneStops k d y → IsOfBytes stop.cause) → (count spare : ℕ) (d : Dictionary) (rest : List ℕ) → EachStops number One OneStops count spare d rest stop → IsOfBytes stop.cause
  of_each number One OneStops stop one zero spare d rest h = absurd h
  of_each number One OneStops stop one (suc n) spare d rest h =
      of_node number spare _ rest stop h (λ k b. elim b [ inl first ↦ one k d rest first | inr later ↦ of_each number One OneStops stop one n later.between.spare later.between.after later.back later.second ])

  of_closed : {A : Type 0} (l : Level) (number : ℕ) (nodes : A → ℕ) (Inside : State → List ℕ → A → State → Type 0) (Stops : State → ℕ → List ℕ → Stop → Type 0) (s : State) (spare : ℕ) (rest : List ℕ) (stop : Stop) → ClosedStops l number nodes Inside Stops s spare rest stop
      → (Stops s spare rest stop → IsOfBytes stop.cause) → IsOfBytes stop.cause
  of_closed Usual number nodes Inside Stops s spare rest stop h inside = inside h
  of_closed Strict number nodes Inside Stops s spare rest stop (inl h) inside = inside h
  of_closed Strict number nodes Inside Stops s spare rest stop (inr h) inside = let f = h.second.fault in subst IsOfBytes (sym f.0) tt

  mutual
    of_piece : (i : Instruction) (s : State) (spare : ℕ) (rest : List ℕ) (stop : Stop) → PieceStops level i s spare rest stop → IsOfBytes stop.cause
    of_piece (whole_field name number presence whole) s spare rest stop h = of_node number spare _ rest stop h (λ k p. of_part whole s rest stop.cause p.fault)
    of_piece (field_in_parts name number presence exponent mantissa) s spare rest stop h =
        of_node number spare _ rest stop h (λ k b. elim b [ inl p ↦ of_part exponent s rest stop.cause p.fault | inr t ↦ of_part mantissa t.between t.back stop.cause t.second.fault ])
    of_piece (group_of name number presence members) s spare rest stop h =
        of_node number spare _ rest stop h (λ k b. of_segment number (has_map members) _ s.dictionary rest stop b.1 (λ t y inside. of_closed level number nodes_in _ _ t k y stop inside (λ i. of_body members t k y stop i)))
    of_piece (sequence_of name number presence length members) s spare rest stop h =
        of_node number spare _ rest stop h
        (λ k b. elim b [
          | inl p ↦ of_part length s rest stop.cause p.fault
          | inr t ↦ of_each number _ _ stop (λ n d y one. of_segment number (has_map members) _ d y stop one (λ u z inside. of_closed level number nodes_in _ _ u n z stop inside (λ i. of_body members u n z stop i))) t.between.value t.between.spare t.between.after.dictionary t.back t.second
        ])

    of_body : (is : Instructions) (s : State) (spare : ℕ) (rest : List ℕ) (stop : Stop) → BodyStops level is s spare rest stop → IsOfBytes stop.cause
    of_body no_instructions s spare rest stop h = absurd h
    of_body (then_instruction i is) s spare rest stop (inl h) = of_piece i s spare rest stop h
    of_body (then_instruction i is) s spare rest stop (inr t) = of_body is t.between.after t.between.spare t.back stop t.second

  of_identifier : (set : List Resolved) (s : State) (rest : List ℕ) (c : Cause) → IdentifierFault level set s rest c → IsOfBytes c
  of_identifier set s rest c (inl h) = of_part _ s rest c h
  of_identifier set s rest c (inr h) = subst IsOfBytes (sym h.0) tt

  of_message : (set : List Resolved) (d : Dictionary) (rest : List ℕ) (m : MessageStop) → MessageStops level set d rest m → IsOfBytes m.stop.cause
  of_message set d rest m (in_map named h) = of_map rest m.stop.cause h.fault
  of_message set d rest m (in_identifier named h) = of_identifier set (record { dictionary = d; bits = h.between }) h.back m.stop.cause h.second.fault
  of_message set d rest m (in_body h) = let b = h.second in of_closed level 0 nodes_in _ _ b.behind.between _ b.behind.back m.stop b.behind.second (λ i. of_body b.members b.behind.between _ b.behind.back m.stop i)

  -- ---- blocks

  of_size : (l : Level) (rest : List ℕ) (c : Cause) → SizeFault l rest c → IsOfBytes c
  of_size l rest c (inl h) = subst IsOfBytes (sym h.2) (of_wire h.0)
  of_size Usual rest c (inr (inl h)) = absurd h
  of_size Strict rest c (inr (inl h)) = subst IsOfBytes (sym h.0) tt
  of_size l rest c (inr (inr h)) = subst IsOfBytes (sym h.0) tt

  of_block_cause : (t : Bool) (c : Cause) → IsOfBytes c → IsOfBytes (block_cause t c)
  of_block_cause false c h = h
  of_block_cause true Cause.D2 h = tt
  of_block_cause true Cause.D4 h = tt
  of_block_cause true Cause.D5 h = tt
  of_block_cause true Cause.D6 h = tt
  of_block_cause true Cause.D7 h = tt
  of_block_cause true Cause.D9 h = tt
  of_block_cause true Cause.D12 h = tt
  of_block_cause true Cause.BlockEnd h = tt
  of_block_cause true Cause.R1 h = tt
  of_block_cause true Cause.R2 h = tt
  of_block_cause true Cause.R6 h = tt
  of_block_cause true Cause.R7 h = tt
  of_block_cause true Cause.R8 h = tt
  of_block_cause true Cause.R9 h = tt
  of_block_cause true Cause.Truncated h = tt
  of_block_cause true Cause.Limit h = tt
  of_block_cause true Cause.Memory h = tt
  of_block_cause true Cause.Read h = absurd h
  of_block_cause true Cause.Turns h = absurd h

  of_next : (f : Framing) (set : List Resolved) (s : Stand) (rest : List ℕ) (m : MessageStop) → StopsIn f level set s rest m → IsOfBytes m.stop.cause
  of_next Framing.Plain set s rest m h = of_message set s.dictionary rest m h
  of_next Framing.Blocks set s rest m (in_size none t h) = of_size level rest m.stop.cause h.fault
  of_next Framing.Blocks set s rest m (in_message room size back inner parts opens stops seen) =
      subst (λ (y : MessageStop). IsOfBytes y.stop.cause) (sym seen) (of_block_cause (nat_le room (length back)) inner.stop.cause (of_message set s.dictionary (take room back) inner stops))

pub of_mode : (mode : Mode) (set : List Resolved) (bytes : List ℕ) (place : Place) (c : Cause) → FirstFault mode set bytes place c → IsOfBytes mode.level c
of_mode mode set bytes place c h = subst (IsOfBytes mode.level) (sym h.cause_is) (of_next mode.level mode.framing set h.stand h.rest h.stop h.stops)

pub of_stream : (level : Level) (set : List Resolved) (bytes : List ℕ) (place : Place) (c : Cause) → FirstPlainFault level set bytes place c → IsOfBytes level c
of_stream level set bytes place c h = subst (IsOfBytes level) (sym h.cause_is) (of_message level set h.dictionary h.rest h.stop h.stops)
