-- The lines of packets, written again, are their canonical recording.
use Rattle.std.proofs.Common.{◌≡◌, ◌⊎◌, ℕ, ◌+◌, ◌^◌, ◌<◌, ◌≤◌, ◌==◌, Bool, true, false, List, [], ◌∷◌, ◌++◌, length, map, Option, Some, Result, Ok, Err, inl, inr, refl, sym, ap, ap₂, ◌∙◌, subst, arith, append_assoc, append-nil, length-append, eq-eqb}
use Rattle.std.proofs.lemmas.Bool.{eqb-true}
use Rattle.std.specs.Prelude.{if◌then◌else◌}
use Rattle.std.specs.FinMap as finite
use Rattle.std.specs.List.{AllByRecursion, list_all}
use Rattle.fast_template.specs.Resolved.{Resolved}
use Rattle.fast_template.specs.TemplateSets.{IsSound, TemplateList, templates_in}
use Rattle.fast_dictionary.specs.Dictionary.{Dictionary}
use Rattle.fast_stream.specs.Nodes.{Content, nodes_in, node_limit}
use Rattle.fast_stream.specs.Streams.{MessageForm}
use Rattle.fast_wire.specs.declared.level.Level.TheVariants.{Usual}
use Rattle.fast_canon.proofs.OneCanonical.{one_canonical}
use Rattle.fast_packets.specs.Recordings.{packet_limit}
use Rattle.fast_spelled.specs.declared.fault.LineFault.{LineFault}
use Rattle.fast_spelled.specs.declared.fault.LineCause.TheVariants.{Limit, Line}
use Rattle.fast_lines.specs.declared.form.Form.TheVariants.{Json}
use Rattle.fast_lines.specs.Lines.{lines_in}
use Rattle.fast_packets.specs.Numbered.{numbered}
use Rattle.fast_packet_laws.specs.CanonicalRecordings.{CanonicalPacket, IsCanonicalRecording}
use Rattle.fast_spelled.specs.Numbered.{SpellIn, SpellsIn}
use Rattle.fast_spelled.specs.Spelled.{is_blank, lines_of}
use Rattle.fast_spelled.specs.Within.{IsWithin}
use Rattle.fast_writer.specs.Canonical.{CanonFrom, IsCanonical}
use Rattle.fast_write.specs.PacketLaws.{ShownFrom, WritesShownPackets}
use Rattle.fast_write.specs.Laws.{HasShortLines, IsWrittenAs}
use Rattle.fast_nodes.specs.declared.fault.EncodeFault.{EncodeFault}
use Rattle.fast_packet_laws.proofs.CanonicalLaws.{same_exactly_packets}
use Rattle.fast_writer.proofs.LawProofs.{canonical_carries}
use Rattle.fast_write.proofs.Cuts.{nothing_follows}
use Rattle.fast_write.proofs.Withins.{carried_within}
use Rattle.fast_write.specs.declared.fault.WriteFault.{WriteFault}
use Rattle.fast_write.specs.declared.fault.WriteFault.TheVariants as refusal
use Rattle.fast_write.specs.declared.output.OutputForm.{OutputForm}
use Rattle.fast_write.specs.declared.summary.WrittenSummary.{WrittenSummary}
use Rattle.fast_write.specs.Outputs.{output_of}
use Rattle.fast_write.specs.Written.{IsShort}
use Rattle.fast_write.proofs.InPackets.{number_next, usual_form}
use Rattle.fast_write.proofs.Shown.{apart, short_one}
use Rattle.fast_write.specs.Packets.{AreInOrder, HasNoFormIn, IsNoLineIn, IsTooMuch, MakePackets, Numbered, Packets, StopsForIn, WritesPackets, all_of, entries_for, if_some, no_packets, packets_of, packets_on, with_next}

-- ---- the messages of packets, with their numbers

abbrev pub pairs_from : ℕ → List (List Content) → List Numbered
pairs_from n [] = []
pairs_from n (ms ∷ ps) = map (λ m. (n, m)) ms ++ pairs_from (n + 1) ps

-- ---- they are in order

order_on : (least n : ℕ) (ms : List Content) (rest : List Numbered) → least ≤ n → AreInOrder n rest → ((k : ℕ) → k ≤ n → AreInOrder n rest → AreInOrder k rest) → AreInOrder least (map (λ m. (n, m)) ms ++ rest)
order_on least n [] rest low o weaker = weaker least low o
order_on least n (m ∷ ms) rest low o weaker = (low, order_on n n ms rest (omega arith) o weaker)

order_weaker : (k n : ℕ) (xs : List Numbered) → k ≤ n → AreInOrder n xs → AreInOrder k xs
order_weaker k n [] low o = tt
order_weaker k n (x ∷ xs) low o = let first = o.0 in (omega (arith, low, first), o.1)

pairs_in_order : (least n : ℕ) (ps : List (List Content)) → least ≤ n → AreInOrder least (pairs_from n ps)
pairs_in_order least n [] low = tt
pairs_in_order least n (ms ∷ ps) low = order_on least n ms (pairs_from (n + 1) ps) low (pairs_in_order n (n + 1) ps (omega arith)) (λ k below o. order_weaker k n (pairs_from (n + 1) ps) below o)

-- ---- they are grouped as they were

same_next : (p : Packets) (m : Content) → with_next p (p.number, m) ≡ record p { last = p.last ++ m ∷ [] }
same_next p m = rw (eq-eqb p.number p.number refl) refl

other_by : (b : Bool) (p : Packets) (n : ℕ) (m : Content) → (n == p.number) ≡ b → p.number < n → (if b then record p { last = p.last ++ m ∷ [] } else record { ended = all_of p; number = n; last = m ∷ [] }) ≡ record { ended = all_of p; number = n; last = m ∷ [] }
other_by true p n m e low = let same = eqb-true n p.number e in absurd (omega (arith, same, low))
other_by false p n m e low = refl

other_next : (p : Packets) (n : ℕ) (m : Content) → p.number < n → with_next p (n, m) ≡ record { ended = all_of p; number = n; last = m ∷ [] }
other_next p n m low = other_by (n == p.number) p n m refl low

same_on : (p : Packets) (ms : List Content) (rest : List Numbered) → packets_on p (map (λ m. (p.number, m)) ms ++ rest) ≡ packets_on (record p { last = p.last ++ ms }) rest
same_on p [] rest = ap (λ (l : List Content). packets_on (record p { last = l }) rest) (sym (append-nil p.last))
same_on p (m ∷ ms) rest =
    ap (λ (q : Packets). packets_on q (map (λ m. (p.number, m)) ms ++ rest)) (same_next p m) ∙ same_on (record p { last = p.last ++ m ∷ [] }) ms rest
    ∙ ap (λ (l : List Content). packets_on (record p { last = l }) rest) (append_assoc p.last (m ∷ []) ms)

-- each has a message
abbrev pub IsSome : List Content → Type 0
IsSome [] = ⊥
IsSome (m ∷ ms) = Unit {0}

grouped : (p : Packets) (n : ℕ) (ps : List (List Content)) → p.number < n → AllByRecursion IsSome ps → all_of (packets_on p (pairs_from n ps)) ≡ all_of p ++ ps
grouped p n [] low some = sym (append-nil (all_of p))
grouped p n ([] ∷ ps) low some = absurd some.0
grouped p n ((m ∷ ms) ∷ ps) low some =
    let q : Packets = record { ended = all_of p; number = n; last = m ∷ ms } in
    ap (λ (r : Packets). all_of (packets_on r (map (λ m. (n, m)) ms ++ pairs_from (n + 1) ps))) (other_next p n m low) ∙ ap all_of (same_on (record { ended = all_of p; number = n; last = m ∷ [] }) ms (pairs_from (n + 1) ps))
    ∙ grouped q (n + 1) ps (omega arith) some.1 ∙ append_assoc (all_of p) ((m ∷ ms) ∷ []) ps

pub packets_again : (ps : List (List Content)) → AllByRecursion IsSome ps → all_of (packets_of (pairs_from 1 ps)) ≡ ps
packets_again ps some = grouped no_packets 1 ps (omega arith) some

-- ---- the lines stand for them

pub spelled_from : (set : TemplateList)
    → ((n : ℕ) (ms : List Content) (text later : List ℕ) (others : List Numbered) → AllByRecursion IsWithin ms → 0 < n → n < 2 ^ 64 → lines_in Json set ms ≡ Some text → SpellIn set (lines_of later) others → SpellIn set (lines_of (numbered n text ++ later)) (map (λ m. (n, m)) ms ++ others))
    → (ps : List (List Content)) (n : ℕ) (text : List ℕ) → 0 < n → n + length ps ≤ 2 ^ 64 → AllByRecursion (λ ms. AllByRecursion IsWithin ms) ps → ShownFrom set n ps text → SpellIn set (lines_of text) (pairs_from n ps)
spelled_from set law [] n text low few within shown = subst (λ t. SpellIn set (lines_of t) []) (sym shown) refl
spelled_from set law (ms ∷ ps) n text low few within shown =
    subst (λ t. SpellIn set (lines_of t) (pairs_from n (ms ∷ ps))) (sym shown.2)
    (law n ms shown.0 shown.1 (pairs_from (n + 1) ps) within.0 low (omega (arith, few)) shown.3 (spelled_from set law ps (n + 1) shown.1 (omega arith) (omega (arith, few)) within.1 shown.4))

-- ---- canonical recordings

-- no packet is empty
recorded_some : (set : List Resolved) (ps : List (List Content)) (bytes : List ℕ) → IsCanonicalRecording set ps bytes → AllByRecursion IsSome ps
recorded_some set [] bytes h = tt
recorded_some set ([] ∷ ps) bytes h =
    let none = ap (λ (l : List ℕ). length l) h.first.canonical.1.0 in
    let some = h.first.packet.some in
    absurd (omega (arith, none, some))
recorded_some set ((m ∷ ms) ∷ ps) bytes h = (tt, recorded_some set ps h.back h.second)

-- a packet among others
recorded_at : (set : List Resolved) (before : List (List Content)) (ms : List Content) (behind : List (List Content)) (bytes : List ℕ) → IsCanonicalRecording set (before ++ ms ∷ behind) bytes → (x : List ℕ) × CanonicalPacket set x ms
recorded_at set [] ms behind bytes h = (h.front, h.first)
recorded_at set (p ∷ ps) ms behind bytes h = recorded_at set ps ms behind h.back h.second

-- ---- what goes on

on_append : (p : Packets) (xs ys : List Numbered) → packets_on p (xs ++ ys) ≡ packets_on (packets_on p xs) ys
on_append p [] ys = refl
on_append p (x ∷ xs) ys = on_append (with_next p x) xs ys

-- a packet that goes on is a front of one in the end
pub record IsFrontOf (l : List Content) (before ps : List (List Content)) : Type 0 where
  pub more : List Content
  pub behind : List (List Content)
  pub is : ps ≡ before ++ (l ++ more) ∷ behind

front_by : (b : Bool) (r : Packets) (m : Content) (ms : List Content) (y : Numbered) (ys : List Numbered) → r.last ≡ m ∷ ms
    → ((q : Packets) (k : Content) (ks : List Content) → q.last ≡ k ∷ ks → IsFrontOf q.last q.ended (all_of (packets_on q ys)))
    → IsFrontOf r.last r.ended (all_of (packets_on (if b then record r { last = r.last ++ y.1 ∷ [] } else record { ended = all_of r; number = y.0; last = y.1 ∷ [] }) ys))
front_by true r m ms y ys is later =
    let f = later (record r { last = r.last ++ y.1 ∷ [] }) m (ms ++ y.1 ∷ []) (ap (λ (l : List Content). l ++ y.1 ∷ []) is) in
    record { more = y.1 ∷ f.more; behind = f.behind; is = f.is ∙ ap (λ (l : List Content). r.ended ++ l ∷ f.behind) (append_assoc r.last (y.1 ∷ []) f.more) }
front_by false r m ms y ys is later =
    let f = later (record { ended = all_of r; number = y.0; last = y.1 ∷ [] }) y.1 [] refl in
    record {
      more = [];
      behind = (y.1 ∷ f.more) ∷ f.behind;
      is = f.is ∙ ap (λ (l : List (List Content)). (r.ended ++ l) ++ (y.1 ∷ f.more) ∷ f.behind) (ap if_some is ∙ ap (λ (l : List Content). l ∷ []) (sym is)) ∙ append_assoc r.ended (r.last ∷ []) ((y.1 ∷ f.more) ∷ f.behind)
          ∙ ap (λ (l : List Content). r.ended ++ l ∷ (y.1 ∷ f.more) ∷ f.behind) (sym (append-nil r.last));
    }

front_of : (ys : List Numbered) (r : Packets) (m : Content) (ms : List Content) → r.last ≡ m ∷ ms → IsFrontOf r.last r.ended (all_of (packets_on r ys))
front_of [] r m ms is = record {
  more = [];
  behind = [];
  is = ap (λ (l : List (List Content)). r.ended ++ l) (ap if_some is ∙ ap (λ (l : List Content). l ∷ []) (sym is ∙ sym (append-nil r.last)));
}
front_of (y ∷ ys) r m ms is = front_by (y.0 == r.number) r m ms y ys is (λ q k ks e. front_of ys q k ks e)

-- of canonical bytes of messages a front is that of those in front
pub record Fronts (set : List Resolved) (l : List Content) (bytes : List ℕ) : Type 0 where
  pub own : List ℕ
  pub rest : List ℕ
  pub after : Dictionary
  pub parts : bytes ≡ own ++ rest
  pub canonical : CanonFrom set finite.empty own l after

fronts_from : (set : List Resolved) (l more : List Content) (d : Dictionary) (bytes : List ℕ) (after : Dictionary) → CanonFrom set d bytes (l ++ more) after
    → (own : List ℕ) × (rest : List ℕ) × (mid : Dictionary) × (bytes ≡ own ++ rest) × CanonFrom set d own l mid
fronts_from set [] more d bytes after h = ([], bytes, d, refl, (refl, refl))
fronts_from set (m ∷ ms) more d bytes after h =
    let f = fronts_from set ms more h.between h.back after h.second in (
      h.front ++ f.0,
      f.1,
      f.2,
      h.parts ∙ ap (λ (x : List ℕ). h.front ++ x) f.3 ∙ sym (append_assoc h.front f.0 f.1),
      record { between = h.between; front = h.front; back = f.0; parts = refl; first = h.first; second = f.4 },
    )

-- ---- a line among others, and its message

pub record AmongIn (set : TemplateList) (lines : List (List ℕ)) (line : List ℕ) (ms : List Numbered) : Type 0 where
  pub front : List Numbered
  pub number : ℕ
  pub message : Content
  pub back : List Numbered
  pub whole : ms ≡ front ++ (number, message) ∷ back
  pub before : SpellIn set lines front
  pub spelled : SpellsIn set line number message

among_in : (set : TemplateList) (lines : List (List ℕ)) (line : List ℕ) (more : List (List ℕ)) (ms : List Numbered) → SpellIn set (lines ++ line ∷ more) ms → (list_all is_blank line ≡ true) ⊎ AmongIn set lines line ms
among_in set [] line more ms (inl x) = inl x.0
among_in set [] line more ms (inr x) = inr (record { front = []; number = x.0; message = x.1; back = x.2; whole = x.3; before = refl; spelled = x.4 })
among_in set (l ∷ ls) line more ms (inl x) = behind_blank (among_in set ls line more ms x.1) where
  behind_blank : (list_all is_blank line ≡ true) ⊎ AmongIn set ls line ms → (list_all is_blank line ≡ true) ⊎ AmongIn set (l ∷ ls) line ms
  behind_blank (inl b) = inl b
  behind_blank (inr a) = inr (record { front = a.front; number = a.number; message = a.message; back = a.back; whole = a.whole; before = inl (x.0, a.before); spelled = a.spelled })
among_in set (l ∷ ls) line more ms (inr x) = behind_line (among_in set ls line more x.2 x.5) where
  behind_line : (list_all is_blank line ≡ true) ⊎ AmongIn set ls line x.2 → (list_all is_blank line ≡ true) ⊎ AmongIn set (l ∷ ls) line ms
  behind_line (inl b) = inl b
  behind_line (inr a) = inr (record {
    front = (x.0, x.1) ∷ a.front;
    number = a.number;
    message = a.message;
    back = a.back;
    whole = x.3 ∙ ap (λ (l : List Numbered). (x.0, x.1) ∷ l) a.whole;
    before = inr (x.0, x.1, a.front, refl, x.4, a.before);
    spelled = a.spelled;
  })

order_at : (p : Packets) (xs : List Numbered) (x : Numbered) (back : List Numbered) → AreInOrder p.number (xs ++ x ∷ back) → (packets_on p xs).number ≤ x.0
order_at p [] x back o = o.0
order_at p (y ∷ ys) x back o = order_at (with_next p y) ys x back (subst (λ k. AreInOrder k (ys ++ x ∷ back)) (sym (number_next p y)) o.1)

snoc_some : (l : List Content) (m : Content) → (k : Content) × (ks : List Content) × (l ++ m ∷ [] ≡ k ∷ ks)
snoc_some [] m = (m, [], refl)
snoc_some (x ∷ xs) m = (x, xs ++ m ∷ [], refl)

some_by : (b : Bool) (p : Packets) (x : Numbered) → (k : Content) × (ks : List Content) × ((if b then record p { last = p.last ++ x.1 ∷ [] } else record { ended = all_of p; number = x.0; last = x.1 ∷ [] }).last ≡ k ∷ ks)
some_by true p x = snoc_some p.last x.1
some_by false p x = (x.1, [], refl)

some_next : (p : Packets) (x : Numbered) → (k : Content) × (ks : List Content) × ((with_next p x).last ≡ k ∷ ks)
some_next p x = some_by (x.0 == p.number) p x

-- a message has a form in its packet
form_by : (b : Bool) (set : List Resolved) (p : Packets) (n : ℕ) (m : Content) (own : List ℕ) (mid d : Dictionary) (stream : List ℕ) → CanonFrom set finite.empty own (if b then record p { last = p.last ++ m ∷ [] } else record { ended = all_of p; number = n; last = m ∷ [] }).last mid
    → CanonFrom set finite.empty stream p.last d → (bytes : List ℕ) × (after : Dictionary) × MessageForm Usual set (if b then d else finite.empty) bytes m after
form_by true set p n m own mid d stream h before =
    let a = apart set p.last m [] finite.empty mid own h in
    let same : a.between ≡ d = (one_canonical set p.last finite.empty finite.empty a.between d a.before stream refl a.earlier before).1 in
    (a.own, a.after, subst (λ e. MessageForm Usual set e a.own m a.after) same (usual_form set a.between a.own m a.after a.form))
form_by false set p n m own mid d stream h before = (h.front, h.between, usual_form set finite.empty h.front m h.between h.first)

few_by : (b : Bool) (set : List Resolved) (p : Packets) (n : ℕ) (m : Content) (own : List ℕ) (mid : Dictionary) → CanonFrom set finite.empty own (if b then record p { last = p.last ++ m ∷ [] } else record { ended = all_of p; number = n; last = m ∷ [] }).last mid → nodes_in m.items ≤ node_limit
few_by true set p n m own mid h = (apart set p.last m [] finite.empty mid own h).form.few
few_by false set p n m own mid h = h.first.few

-- ---- no line is refused

-- the canonical bytes of a packet as far as it has come
pub record Held (set : TemplateList) (l : List Content) : Type 0 where
  pub own : List ℕ
  pub mid : Dictionary
  pub canonical : CanonFrom (templates_in set) finite.empty own l mid
  pub few : length own ≤ packet_limit

module _ (set : TemplateList) (ps : List (List Content)) (bytes text : List ℕ) (recorded : IsCanonicalRecording (templates_in set) ps bytes) (spelled : SpellIn set (lines_of text) (pairs_from 1 ps))
    (once : (lines : List (List ℕ)) (ms ns : List Numbered) → SpellIn set lines ms → SpellIn set lines ns → ms ≡ ns)
    (once_line : (line : List ℕ) (n k : ℕ) (m l : Content) → SpellsIn set line n m → SpellsIn set line k l → (n ≡ k) × (m ≡ l)) where
  held : (lines : List (List ℕ)) (line : List ℕ) → (a : AmongIn set lines line (pairs_from 1 ps)) → Held set (with_next (packets_of a.front) (a.number, a.message)).last
  held lines line a =
      let r = with_next (packets_of a.front) (a.number, a.message) in
      let some = some_next (packets_of a.front) (a.number, a.message) in
      let f = front_of a.back r some.0 some.1 some.2 in
      let is : ps ≡ r.ended ++ (r.last ++ f.more) ∷ f.behind =
      sym (packets_again ps (recorded_some (templates_in set) ps bytes recorded)) ∙ ap (λ (l : List Numbered). all_of (packets_of l)) a.whole ∙ ap all_of (on_append no_packets a.front ((a.number, a.message) ∷ a.back)) ∙ f.is in
      let packet = recorded_at (templates_in set) r.ended (r.last ++ f.more) f.behind bytes (subst (λ l. IsCanonicalRecording (templates_in set) l bytes) is recorded) in
      let c = packet.1 in
      let x = fronts_from (templates_in set) r.last f.more finite.empty c.stream c.canonical.0 c.canonical.1 in
      record { own = x.0; mid = x.2; canonical = x.4; few = let size = ap (λ (l : List ℕ). length l) x.3 ∙ length-append x.0 x.1 in let most = c.packet.few in omega (arith, size, most) }

  line_stays : (lines : List (List ℕ)) (line : List ℕ) (more : List (List ℕ)) (out : List ℕ) (p : Packets) (d : Dictionary) (f : LineFault) → HasShortLines text → lines_of text ≡ lines ++ line ∷ more → MakePackets set lines out p d → IsNoLineIn set line p f → ⊥
  line_stays lines line more out p d f short cut made (inl long) =
      let least = short_one lines line more (subst (AllByRecursion IsShort) cut short) in
      let most = long.1 in
      absurd (omega (arith, least, most))
  line_stays lines line more out p d f short cut made (inr why) = go (among_in set lines line more (pairs_from 1 ps) (subst (λ ls. SpellIn set ls (pairs_from 1 ps)) cut spelled)) where
    inside : (a : AmongIn set lines line (pairs_from 1 ps)) → packets_of a.front ≡ p
    inside a = ap (λ (l : List Numbered). packets_of l) (once lines a.front made.messages a.before made.spelled) ∙ made.packets

    by_cause : (a : AmongIn set lines line (pairs_from 1 ps)) → ((n : ℕ) (m : Content) → SpellsIn set line n m → ⊥) ⊎ ((f.cause ≡ Limit) × ((n : ℕ) (m : Content) → SpellsIn set line n m → node_limit < nodes_in m.items))
        ⊎ ((f.cause ≡ Line) × (n : ℕ) × (m : Content) × SpellsIn set line n m × (n < p.number)) ⊎ ((f.cause ≡ Limit) × IsTooMuch set line p) → ⊥
    by_cause a (inl none) = none a.number a.message a.spelled
    by_cause a (inr (inl many)) =
        let h = held lines line a in
        let few = few_by (a.number == (packets_of a.front).number) (templates_in set) (packets_of a.front) a.number a.message h.own h.mid h.canonical in
        let large = many.1 a.number a.message a.spelled in
        absurd (omega (arith, few, large))
    by_cause a (inr (inr (inl low))) =
        let same = (once_line line low.1 a.number low.2 a.message low.3 a.spelled).0 in
        let least = order_at no_packets a.front (a.number, a.message) a.back (subst (AreInOrder 0) a.whole (pairs_in_order 0 1 ps (omega arith))) in
        let number = ap (λ (q : Packets). q.number) (inside a) in
        let below = low.4 in
        absurd (omega (arith, same, least, number, below))
    by_cause a (inr (inr (inr much))) =
        let t = much.1 in
        let h = held lines line a in
        let same = once_line line t.number a.number t.message a.message t.spelled a.spelled in
        let is : (with_next p (t.number, t.message)).last ≡ (with_next (packets_of a.front) (a.number, a.message)).last =
        ap (λ (q : Packets). (with_next q (t.number, t.message)).last) (sym (inside a)) ∙ ap₂ (λ (n : ℕ) (m : Content). (with_next (packets_of a.front) (n, m)).last) same.0 same.1 in
        let c = subst (λ l. IsCanonical (templates_in set) l t.stream) is t.canonical in
        let one = (one_canonical (templates_in set) (with_next (packets_of a.front) (a.number, a.message)).last finite.empty finite.empty c.0 h.mid t.stream h.own refl c.1 h.canonical).0 in
        let size = ap (λ (l : List ℕ). length l) one in
        let most = h.few in
        let many = t.many in
        absurd (omega (arith, size, most, many))

    go : (list_all is_blank line ≡ true) ⊎ AmongIn set lines line (pairs_from 1 ps) → ⊥
    go (inl b) = absurd (cc (sym b ∙ why.0))
    go (inr a) = by_cause a why.1

  form_stays : (lines : List (List ℕ)) (line : List ℕ) (more : List (List ℕ)) (out : List ℕ) (p : Packets) (d : Dictionary) (template : ℕ) (f : EncodeFault) → lines_of text ≡ lines ++ line ∷ more → MakePackets set lines out p d → HasNoFormIn set line p d template f → ⊥
  form_stays lines line more out p d template f cut made none = go (among_in set lines line more (pairs_from 1 ps) (subst (λ ls. SpellIn set ls (pairs_from 1 ps)) cut spelled)) where
    go : (list_all is_blank line ≡ true) ⊎ AmongIn set lines line (pairs_from 1 ps) → ⊥
    go (inl b) =
        let empty : [] ≡ (none.number, none.message) ∷ [] = once (line ∷ []) [] ((none.number, none.message) ∷ []) (inl (b, refl)) (inr (none.number, none.message, [], refl, none.spelled, refl)) in
        absurd (cc empty)
    go (inr a) =
        let inside : packets_of a.front ≡ p = ap (λ (l : List Numbered). packets_of l) (once lines a.front made.messages a.before made.spelled) ∙ made.packets in
        let h = held lines line a in
        let same = once_line line none.number a.number none.message a.message none.spelled a.spelled in
        let before = subst (λ l. CanonFrom (templates_in set) finite.empty made.stream l d) (ap (λ (q : Packets). q.last) (sym inside)) made.going_on in
        let x = form_by (a.number == (packets_of a.front).number) (templates_in set) (packets_of a.front) a.number a.message h.own h.mid d made.stream h.canonical before in
        let entries : (if a.number == (packets_of a.front).number then d else finite.empty) ≡ entries_for p none.number d =
        ap₂ (λ (n : ℕ) (q : Packets). if n == q.number then d else finite.empty) (sym same.0) inside in
        none.no_form x.0 x.1 (subst (λ m. MessageForm Usual (templates_in set) (entries_for p none.number d) x.0 m x.1) (sym same.1) (subst (λ e. MessageForm Usual (templates_in set) e x.0 a.message x.1) entries x.2))

  stopped : (form : OutputForm) (lines rest : List (List ℕ)) (out : List ℕ) (p : Packets) (d : Dictionary) (f : WriteFault) (written : List ℕ) → HasShortLines text → lines_of text ≡ lines ++ rest → MakePackets set lines out p d → StopsForIn set p d lines rest f → IsWrittenAs (output_of form bytes) (Err f) written
  stopped form lines rest out p d (refusal.Line n f) written short cut made why = line_stays lines why.1 why.2 out p d f short (cut ∙ ap (λ l. lines ++ l) why.3) made why.4
  stopped form lines rest out p d (refusal.Message n template f) written short cut made why = form_stays lines why.1 why.2 out p d template f (cut ∙ ap (λ l. lines ++ l) why.3) made why.4
  stopped form lines rest out p d refusal.Read written short cut made why = tt
  stopped form lines rest out p d refusal.Write written short cut made why = tt
  stopped form lines rest out p d refusal.Turns written short cut made why = tt
  stopped form lines rest out p d refusal.Memory written short cut made why = tt

  pub packets_written_as : IsSound set → (form : OutputForm) (left : Option (List ℕ)) (out : List ℕ) (r : Result WrittenSummary WriteFault) → HasShortLines text → WritesPackets form set left (Some []) (Some out) text r → IsWrittenAs (output_of form bytes) r out
  packets_written_as sound form left out (Ok summary) short w =
      let same : all_of w.packets ≡ ps =
      ap all_of (sym w.made.packets ∙ ap (λ (l : List Numbered). packets_of l) (once (lines_of text) w.made.messages (pairs_from 1 ps) w.made.spelled spelled)) ∙ packets_again ps (recorded_some (templates_in set) ps bytes recorded) in
      let own = subst (λ l. IsCanonicalRecording (templates_in set) l w.out) same w.made.recorded in
      w.written ∙ ap (output_of form) ((same_exactly_packets set sound ps ps w.out bytes own recorded).0 refl)
  packets_written_as sound form left out (Err (refusal.Line n f)) short w =
      let s = w.stops [] (λ e. refl) in stopped form w.lines s.0 w.out w.packets w.entries (refusal.Line n f) out short (nothing_follows text w.lines s.0 s.1) w.made s.2
  packets_written_as sound form left out (Err (refusal.Message n template f)) short w =
      let s = w.stops [] (λ e. refl) in stopped form w.lines s.0 w.out w.packets w.entries (refusal.Message n template f) out short (nothing_follows text w.lines s.0 s.1) w.made s.2
  packets_written_as sound form left out (Err refusal.Read) short w = tt
  packets_written_as sound form left out (Err refusal.Write) short w = tt
  packets_written_as sound form left out (Err refusal.Turns) short w = tt
  packets_written_as sound form left out (Err refusal.Memory) short w = tt

-- ---- with the messages of canonical recordings

recorded_within : (set : TemplateList) (ps : List (List Content)) (bytes : List ℕ) → IsSound set → IsCanonicalRecording (templates_in set) ps bytes → AllByRecursion (λ ms. AllByRecursion IsWithin ms) ps
recorded_within set [] bytes sound h = tt
recorded_within set (ms ∷ ps) bytes sound h = (carried_within set ms h.first.stream sound (canonical_carries Usual (templates_in set) ms h.first.stream h.first.canonical), recorded_within set ps h.back sound h.second)

pub writes_shown_packets : (set : TemplateList) → IsSound set
    → ((n : ℕ) (ms : List Content) (text later : List ℕ) (others : List Numbered) → AllByRecursion IsWithin ms → 0 < n → n < 2 ^ 64 → lines_in Json set ms ≡ Some text → SpellIn set (lines_of later) others → SpellIn set (lines_of (numbered n text ++ later)) (map (λ m. (n, m)) ms ++ others))
    → ((lines : List (List ℕ)) (ms ns : List Numbered) → SpellIn set lines ms → SpellIn set lines ns → ms ≡ ns) → ((line : List ℕ) (n k : ℕ) (m l : Content) → SpellsIn set line n m → SpellsIn set line k l → (n ≡ k) × (m ≡ l)) → WritesShownPackets set
writes_shown_packets set sound law once once_line packets last text bytes out form result shown recorded few short w =
    packets_written_as set packets bytes text recorded (spelled_from set law packets 1 text (omega arith) (omega (arith, few)) (recorded_within set packets bytes sound recorded) shown) once once_line sound form last out result short w
