-- Messages in packets, and their recordings.
use Rattle.std.proofs.Common.{◌≡◌, ◌⊎◌, ℕ, ◌+◌, ◌<◌, ◌≤◌, ◌==◌, Bool, true, false, List, [], ◌∷◌, ◌++◌, length, inl, inr, refl, sym, ap, ◌∙◌, subst, arith, append_assoc, append-nil, length-append, eq-eqb}
use Rattle.std.proofs.lemmas.Bool.{eqb-true}
use Rattle.std.specs.Prelude.{if◌then◌else◌}
use Rattle.std.specs.FinMap as map
use Rattle.std.specs.List.{list_all}
use Rattle.fast_field.specs.Fields.{Form}
use Rattle.fast_field.specs.Best.{IsBest}
use Rattle.fast_field.proofs.StrictForms.{best_at_level}
use Rattle.fast_stream.specs.Streams.{MapAt, MessageForm}
use Rattle.fast_stream.proofs.Weaker.{message_weaker}
use Rattle.fast_stream.proofs.ModeReaders.{message_some}
use Rattle.fast_wire.specs.declared.level.Level.TheVariants.{Usual}
use Rattle.fast_template.specs.Resolved.{Resolved}
use Rattle.fast_template.specs.TemplateSets.{TemplateList, templates_in}
use Rattle.fast_dictionary.specs.Dictionary.{Dictionary}
use Rattle.fast_stream.specs.Nodes.{Content}
use Rattle.fast_packets.specs.Recordings.{packet_limit}
use Rattle.fast_packet_laws.specs.CanonicalRecordings.{CanonicalPacket, IsCanonicalRecording}
use Rattle.fast_spelled.specs.Numbered.{SpellIn, SpellsIn}
use Rattle.fast_spelled.specs.Spelled.{is_blank}
use Rattle.fast_writer.specs.Canonical.{CanonFrom, CanonMessage, IsCanonical, IsShortestMap}
use Rattle.fast_writer.proofs.Writers.{canon_more}
use Rattle.fast_write.specs.Packets.{AreInOrder, IsTooMuch, Numbered, Packets, all_of, if_some, no_packets, packets_on, with_next}
use Rattle.fast_write.specs.Ways.{Closes, MadePackets}

-- ---- lines

spell_in_blank : (set : TemplateList) (lines : List (List ℕ)) (ms : List Numbered) (line : List ℕ) → SpellIn set lines ms → list_all is_blank line ≡ true → SpellIn set (lines ++ line ∷ []) ms
spell_in_blank set [] ms line h b = inl (b, h)
spell_in_blank set (l ∷ ls) ms line (inl x) b = inl (x.0, spell_in_blank set ls ms line x.1 b)
spell_in_blank set (l ∷ ls) ms line (inr x) b = inr (x.0, x.1, x.2, x.3, x.4, spell_in_blank set ls x.2 line x.5 b)

spell_in_more : (set : TemplateList) (lines : List (List ℕ)) (ms : List Numbered) (line : List ℕ) (n : ℕ) (m : Content) → SpellIn set lines ms → SpellsIn set line n m → SpellIn set (lines ++ line ∷ []) (ms ++ (n, m) ∷ [])
spell_in_more set [] ms line n m h s = inr (n, m, [], ap (λ (l : List Numbered). l ++ (n, m) ∷ []) h, s, refl)
spell_in_more set (l ∷ ls) ms line n m (inl x) s = inl (x.0, spell_in_more set ls ms line n m x.1 s)
spell_in_more set (l ∷ ls) ms line n m (inr x) s = inr (x.0, x.1, x.2 ++ (n, m) ∷ [], ap (λ (l : List Numbered). l ++ (n, m) ∷ []) x.3, x.4, spell_in_more set ls x.2 line n m x.5 s)

-- ---- packets

number_by : (b : Bool) (p : Packets) (x : Numbered) → (x.0 == p.number) ≡ b → (if b then record p { last = p.last ++ x.1 ∷ [] } else record { ended = all_of p; number = x.0; last = x.1 ∷ [] }).number ≡ x.0
number_by true p x e = sym (eqb-true x.0 p.number e)
number_by false p x e = refl

pub number_next : (p : Packets) (x : Numbered) → (with_next p x).number ≡ x.0
number_next p x = number_by (x.0 == p.number) p x refl

packets_more : (p : Packets) (xs : List Numbered) (x : Numbered) → packets_on p (xs ++ x ∷ []) ≡ with_next (packets_on p xs) x
packets_more p [] x = refl
packets_more p (y ∷ ys) x = packets_more (with_next p y) ys x

order_more : (p : Packets) (xs : List Numbered) (x : Numbered) → AreInOrder p.number xs → (packets_on p xs).number ≤ x.0 → AreInOrder p.number (xs ++ x ∷ [])
order_more p [] x o h = (h, tt)
order_more p (y ∷ ys) x o h =
    (o.0, subst (λ k. AreInOrder k (ys ++ x ∷ [])) (number_next p y) (order_more (with_next p y) ys x (subst (λ k. AreInOrder k ys) (sym (number_next p y)) o.1) h))

-- ---- recordings

recorded_more : (set : List Resolved) (ps : List (List Content)) (ms : List Content) (a x : List ℕ) → IsCanonicalRecording set ps a → CanonicalPacket set x ms → IsCanonicalRecording set (ps ++ ms ∷ []) (a ++ x)
recorded_more set [] ms a x h c = record { between = tt; front = x; back = []; parts = ap (λ (l : List ℕ). l ++ x) h ∙ sym (append-nil x); first = c; second = refl }
recorded_more set (p ∷ ps) ms a x h c = record {
  between = tt;
  front = h.front;
  back = h.back ++ x;
  parts = ap (λ (l : List ℕ). l ++ x) h.parts ∙ append_assoc h.front h.back x;
  first = h.first;
  second = recorded_more set ps ms h.back x h.second c;
}

pub usual_form : (set : List Resolved) (d : Dictionary) (bytes : List ℕ) (m : Content) (after : Dictionary) → CanonMessage set d bytes m after → MessageForm Usual set d bytes m after
usual_form set d bytes m after h = message_weaker IsBest (Form Usual) IsShortestMap (MapAt Usual) (best_at_level Usual) (λ bits left b s. s.form) set d bytes m after h

-- the packet that is open, behind those that have ended
pub closed_packet : (set : List Resolved) (ended : List (List Content)) (ms : List Content) (a packet bytes : List ℕ) (d : Dictionary) → IsCanonicalRecording set ended a → CanonFrom set map.empty packet ms d → length packet ≤ packet_limit → Closes packet bytes
    → IsCanonicalRecording set (ended ++ if_some ms) (a ++ bytes)
closed_packet set ended [] a [] bytes d h c few k = rw (append-nil ended, k, append-nil a) h
closed_packet set ended [] a (b ∷ bs) bytes d h c few k = absurd (cc (c.0))
closed_packet set ended (m ∷ ms) a [] bytes d h c few k =
    let some = message_some Usual set map.empty c.front m c.between (usual_form set map.empty c.front m c.between c.first) in
    let size = ap (λ (l : List ℕ). length l) c.parts ∙ length-append c.front c.back in
    absurd (omega (arith, some, size))
closed_packet set ended (m ∷ ms) a (b ∷ bs) bytes d h c few k = recorded_more set ended (m ∷ ms) a bytes h (record {
  stream = b ∷ bs;
  packet = record { size = k.0; parts = k.1; size_is = k.2.form; some = omega arith; few = few };
  least = k.2;
  canonical = (d, c);
})

-- ---- a line more

pub made_blank : {set : TemplateList} {lines : List (List ℕ)} {bytes : List ℕ} {count : ℕ} {p : Packets} {d : Dictionary} {number : ℕ} {packet : List ℕ} → MadePackets set lines bytes count p d number packet → (line : List ℕ) → list_all is_blank line ≡ true
    → MadePackets set (lines ++ line ∷ []) bytes count p d number packet
made_blank {set = set} {lines = lines} m line blank = record {
  messages = m.messages;
  many = m.many;
  spelled = spell_in_blank set lines m.messages line m.spelled blank;
  in_order = m.in_order;
  packets = m.packets;
  recorded = m.recorded;
  going_on = m.going_on;
  number_is = m.number_is;
  few = m.few;
}

-- what waits before a message of this packet
abbrev pub WaitsAt : List ℕ → List ℕ → ℕ → ℕ → List ℕ → Type 0
WaitsAt bytes packet n number now = ((n ≡ number) × (now ≡ bytes)) ⊎ ((n ≡ number → ⊥) × (more : List ℕ) × Closes packet more × (now ≡ bytes ++ more))

pushed : {A : Type 0} (xs : List A) (x : A) → length (xs ++ x ∷ []) ≡ length xs + 1
pushed xs x = length-append xs (x ∷ [])

module _ (set : TemplateList) (lines : List (List ℕ)) (bytes : List ℕ) (count : ℕ) (p : Packets) (d : Dictionary) (packet line : List ℕ) (n : ℕ) (m : Content) (own : List ℕ) (after : Dictionary) (now : List ℕ) where
  abbrev Next : ℕ → Type 0
  Next number =
      MadePackets set lines bytes count p d number packet → SpellsIn set line n m → number ≤ n → CanonMessage (templates_in set) (if n == number then d else map.empty) own m after → WaitsAt bytes packet n number now
      → length ((if n == number then packet else []) ++ own) ≤ packet_limit → MadePackets set (lines ++ line ∷ []) now (count + 1) (with_next p (n, m)) after n ((if n == number then packet else []) ++ own)

  recorded_by : (b : Bool) → (n == p.number) ≡ b → IsCanonicalRecording (templates_in set) p.ended bytes → CanonFrom (templates_in set) map.empty packet p.last d → length packet ≤ packet_limit → WaitsAt bytes packet n p.number now
      → IsCanonicalRecording (templates_in set) (if b then record p { last = p.last ++ m ∷ [] } else record { ended = all_of p; number = n; last = m ∷ [] }).ended now
  recorded_by true e h c few (inl w) = rw (w.1) h
  recorded_by true e h c few (inr w) = absurd (w.0 (eqb-true n p.number e))
  recorded_by false e h c few (inl w) = absurd (cc (sym (eq-eqb n p.number w.0) ∙ e))
  recorded_by false e h c few (inr w) = rw (w.3) (closed_packet (templates_in set) p.ended p.last bytes packet w.1 d h c few w.2)

  going_by : (b : Bool) → CanonFrom (templates_in set) map.empty packet p.last d → CanonMessage (templates_in set) (if b then d else map.empty) own m after
      → CanonFrom (templates_in set) map.empty ((if b then packet else []) ++ own) (if b then record p { last = p.last ++ m ∷ [] } else record { ended = all_of p; number = n; last = m ∷ [] }).last after
  going_by true c form = canon_more (templates_in set) p.last m map.empty packet own d after c form
  going_by false c form = canon_more (templates_in set) [] m map.empty [] own map.empty after (refl, refl) form

  next_here : Next p.number
  next_here made spelled order form waits few = record {
    messages = made.messages ++ (n, m) ∷ [];
    many = ap (λ k. k + 1) made.many ∙ sym (pushed made.messages (n, m));
    spelled = spell_in_more set lines made.messages line n m made.spelled spelled;
    in_order = order_more no_packets made.messages (n, m) made.in_order (subst (λ q. q.number ≤ n) (sym made.packets) order);
    packets = packets_more no_packets made.messages (n, m) ∙ ap (λ (q : Packets). with_next q (n, m)) made.packets;
    recorded = recorded_by (n == p.number) refl made.recorded made.going_on made.few waits;
    going_on = going_by (n == p.number) made.going_on form;
    number_is = number_next p (n, m);
    few = few;
  }

  pub made_next : (number : ℕ) → Next number
  made_next number made = subst Next made.number_is next_here made

-- ---- a packet that would have too many bytes

too_much_by : (set : TemplateList) (p : Packets) (d : Dictionary) (packet : List ℕ) (n : ℕ) (m : Content) (own : List ℕ) (after : Dictionary) (b : Bool) → CanonFrom (templates_in set) map.empty packet p.last d → CanonMessage (templates_in set) (if b then d else map.empty) own m after
    → IsCanonical (templates_in set) (if b then record p { last = p.last ++ m ∷ [] } else record { ended = all_of p; number = n; last = m ∷ [] }).last ((if b then packet else []) ++ own)
too_much_by set p d packet n m own after true c form = (after, canon_more (templates_in set) p.last m map.empty packet own d after c form)
too_much_by set p d packet n m own after false c form = (after, canon_more (templates_in set) [] m map.empty [] own map.empty after (refl, refl) form)

module _ (set : TemplateList) (line : List ℕ) (p : Packets) (d : Dictionary) (packet : List ℕ) where
  abbrev TooMuch : ℕ → Type 0
  TooMuch number =
      (n : ℕ) (m : Content) (own : List ℕ) (after : Dictionary) → CanonFrom (templates_in set) map.empty packet p.last d → SpellsIn set line n m → CanonMessage (templates_in set) (if n == number then d else map.empty) own m after
      → packet_limit < length ((if n == number then packet else []) ++ own) → IsTooMuch set line p

  too_much_here : TooMuch p.number
  too_much_here n m own after c spelled form many = record {
    number = n;
    message = m;
    stream = (if n == p.number then packet else []) ++ own;
    spelled = spelled;
    canonical = too_much_by set p d packet n m own after (n == p.number) c form;
    many = many;
  }

  pub too_much : (number n : ℕ) (m : Content) (own : List ℕ) (after : Dictionary) → p.number ≡ number → CanonFrom (templates_in set) map.empty packet p.last d → SpellsIn set line n m → CanonMessage (templates_in set) (if n == number then d else map.empty) own m after
      → packet_limit < length ((if n == number then packet else []) ++ own) → IsTooMuch set line p
  too_much number n m own after is = subst TooMuch is too_much_here n m own after
