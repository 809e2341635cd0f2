-- Canonical bytes in place of given ones: they are no longer, and ask for no bit 1 where the given ones have bit 0.
use Rattle.fast_canon.proofs.Common.{◌≡◌, ℕ, ◌+◌, ◌≤◌, Bool, true, false, List, [], ◌++◌, length, Option, refl, sym, ap, subst, ◌∙◌, arith, length-append, Usual, part_needs_bit, FieldPart, Scalar, Dictionary, entry_at, Form, IsBest, IsFieldPart, form_has_best, none_shorter, after_bit, bit_for, State, Then, Each, WithMap, SegmentBy, PartBy, written, Items, Elements, no_elements, then_element, MapAt, IsShortestMap, HoldScalars, form_holds}
use Rattle.fast_canon.proofs.AskedBits.{Begins, behind, AreBelow, begins_front, begins_back, behind_both, below_both, below_none, behind_none}
use Rattle.fast_canon.proofs.PartBits.{one_asked, asked_is, asked_left, asked_below, form_bit}
use Rattle.fast_canon.proofs.Stages.{Stage, with_bits}
use Rattle.fast_canon.proofs.ShortestMaps.{shorter_map, map_of_asked}

-- In place of bytes that lead from s to t: bytes of the stage, under any map whose bits begin with those asked for.
pub record IsBetter (Best : Stage) (s : State) (b : List ℕ) (t : State) : Type 0 where
  pub asked : List Bool
  pub bytes : List ℕ
  pub stands : (bits : List Bool) → Begins asked bits → Best (with_bits s.dictionary bits) bytes (with_bits t.dictionary (behind asked bits))
  pub below : AreBelow asked s.bits
  pub left : t.bits ≡ behind asked s.bits
  pub no_longer : length bytes ≤ length b
  pub holds : HoldScalars t.dictionary

-- The same of what takes no bits of the map around it.
pub record IsBetterWhole (Best : List ℕ → Type 0) (b : List ℕ) (after : Dictionary) : Type 0 where
  pub bytes : List ℕ
  pub stands : Best bytes
  pub no_longer : length bytes ≤ length b
  pub holds : HoldScalars after

no_longer_both : (b x y p q : List ℕ) → b ≡ x ++ y → length p ≤ length x → length q ≤ length y → length (p ++ q) ≤ length b
no_longer_both b x y p q parts h k =
    let long : length b ≡ length x + length y = ap (λ (l : List ℕ). length l) parts ∙ length-append x y in
    omega (arith, length-append p q)

-- ---- one behind the other

pub better_then : (First Second : Stage) (s u t : State) (b x y : List ℕ) → b ≡ x ++ y → IsBetter First s x u → IsBetter Second u y t → IsBetter (λ s b t. Then (First s) (λ u y. Second u y t) b) s b t
better_then First Second s u t b x y parts h k = record {
  asked = h.asked ++ k.asked;
  bytes = h.bytes ++ k.bytes;
  stands = λ bits begins. record {
    between = with_bits u.dictionary (behind h.asked bits);
    front = h.bytes;
    back = k.bytes;
    parts = refl;
    first = h.stands bits (begins_front h.asked k.asked bits begins);
    second = subst (λ (l : List Bool). Second (with_bits u.dictionary (behind h.asked bits)) k.bytes (with_bits t.dictionary l)) (sym (behind_both h.asked k.asked bits))
        (k.stands (behind h.asked bits) (begins_back h.asked k.asked bits begins));
  };
  below = below_both h.asked k.asked s.bits h.below (subst (AreBelow k.asked) h.left k.below);
  left = k.left ∙ ap (behind k.asked) h.left ∙ sym (behind_both h.asked k.asked s.bits);
  no_longer = no_longer_both b x y h.bytes k.bytes parts h.no_longer k.no_longer;
  holds = k.holds;
}

pub whole_then : (First : List ℕ → Dictionary → Type 0) (Second : Dictionary → List ℕ → Type 0) (between after : Dictionary) (b x y : List ℕ) → b ≡ x ++ y
    → IsBetterWhole (λ x. First x between) x between → IsBetterWhole (Second between) y after → IsBetterWhole (Then First Second) b after
whole_then First Second between after b x y parts h k = record {
  bytes = h.bytes ++ k.bytes;
  stands = record { between = between; front = h.bytes; back = k.bytes; parts = refl; first = h.stands; second = k.stands };
  no_longer = no_longer_both b x y h.bytes k.bytes parts h.no_longer k.no_longer;
  holds = k.holds;
}

-- no bytes where nothing is to stand
pub whole_none : (Best : List ℕ → Type 0) (b : List ℕ) (after : Dictionary) → Best [] → HoldScalars after → IsBetterWhole Best b after
whole_none Best b after stands holds = record { bytes = []; stands = stands; no_longer = omega arith; holds = holds }

-- ---- a part

pub better_part : (p : FieldPart) (v : Option Scalar) (s : State) (b : List ℕ) (t : State) → IsFieldPart p → HoldScalars s.dictionary → PartBy (Form Usual) p s b v t → IsBetter (λ s b t. PartBy IsBest p s b v t) s b t
better_part p v s b t is holds h =
    let needs = part_needs_bit p in
    let entry = entry_at s.dictionary p.key in
    let best = form_has_best p entry (bit_for needs s.bits) b v is (holds p.key) h.0 in
    let least = none_shorter p entry best.0 (bit_for needs s.bits) best.1 b v best.2 h.0 in
    let after : t.dictionary ≡ written p s.dictionary v = ap (λ t. t.dictionary) h.1 in record {
      asked = one_asked needs best.0;
      bytes = best.1;
      stands = λ bits begins. (
        subst (λ (bit : Bool). IsBest p entry bit best.1 v) (asked_is needs best.0 bits (form_bit p entry best.0 best.2.cut best.1 v best.2.form) begins) best.2,
        ap (λ d. with_bits d (behind (one_asked needs best.0) bits)) after ∙ ap (with_bits (written p s.dictionary v)) (asked_left needs best.0 bits),
      );
      below = asked_below needs best.0 s.bits least.0;
      left = ap (λ t. t.bits) h.1 ∙ sym (asked_left needs best.0 s.bits);
      no_longer = least.1;
      holds = subst HoldScalars (sym after) (form_holds p s.dictionary (bit_for needs s.bits) b v is holds h.0);
    }

-- what is to stand is said in other words
pub better_as : {A B : Stage} {s t : State} {b : List ℕ} → ((s : State) (x : List ℕ) (t : State) → A s x t → B s x t) → IsBetter A s b t → IsBetter B s b t
better_as {s = s} {t = t} same h = record {
  asked = h.asked;
  bytes = h.bytes;
  stands = λ bits begins. same (with_bits s.dictionary bits) h.bytes (with_bits t.dictionary (behind h.asked bits)) (h.stands bits begins);
  below = h.below;
  left = h.left;
  no_longer = h.no_longer;
  holds = h.holds;
}

-- what takes one bit of the map around it, or none
pub better_under : (takes bit : Bool) (Best : Dictionary → List ℕ → Dictionary → Type 0) (s t : State) (b : List ℕ) → bit_for takes s.bits ≡ bit → (takes ≡ false → bit ≡ true) → t.bits ≡ after_bit takes s.bits → IsBetterWhole (λ x. Best s.dictionary x t.dictionary) b t.dictionary
    → IsBetter (λ s b t. (bit_for takes s.bits ≡ bit) × (t.bits ≡ after_bit takes s.bits) × Best s.dictionary b t.dictionary) s b t
better_under takes bit Best s t b is own left h = record {
  asked = one_asked takes bit;
  bytes = h.bytes;
  stands = λ bits begins. (sym (asked_is takes bit bits own begins), asked_left takes bit bits, h.stands);
  below = asked_below takes bit s.bits (λ unset. sym is ∙ unset);
  left = left ∙ sym (asked_left takes bit s.bits);
  no_longer = h.no_longer;
  holds = h.holds;
}

-- ---- a segment

-- what stands under a map of its own
pub better_with_map : (Inside Best : Stage) (d : Dictionary) (b : List ℕ) (after : Dictionary)
    → ((bits left : List Bool) (x : List ℕ) → Inside (with_bits d bits) x (with_bits after left) → IsBetter Best (with_bits d bits) x (with_bits after left))
    → WithMap (MapAt Usual) Inside d b after → IsBetterWhole (λ x. WithMap IsShortestMap Best d x after) b after
better_with_map Inside Best d b after better h =
    let k = better h.bits h.left h.body h.inside in
    let map = shorter_map k.asked h.bits h.map h.map_form k.below in
    let m = map_of_asked k.asked map.bytes map.shortest in record {
      bytes = map.bytes ++ k.bytes;
      stands = record {
        bits = m.bits;
        left = behind k.asked m.bits;
        map = map.bytes;
        body = k.bytes;
        parts = refl;
        map_form = m.shortest;
        inside = k.stands m.bits m.begins;
      };
      no_longer = no_longer_both b h.map h.body map.bytes k.bytes h.parts map.no_longer k.no_longer;
      holds = k.holds;
    }

pub better_segment : (has : Bool) (Inside Best : Stage) (d : Dictionary) (b : List ℕ) (after : Dictionary)
    → ((bits left : List Bool) (x : List ℕ) → Inside (with_bits d bits) x (with_bits after left) → IsBetter Best (with_bits d bits) x (with_bits after left))
    → SegmentBy (MapAt Usual) has Inside d b after → IsBetterWhole (λ x. SegmentBy IsShortestMap has Best d x after) b after
better_segment true Inside Best d b after better h = better_with_map Inside Best d b after better h
better_segment false Inside Best d b after better h =
    let k = better [] [] b h in record {
      bytes = k.bytes;
      stands = subst (λ (l : List Bool). Best (with_bits d []) k.bytes (with_bits after l)) (behind_none k.asked) (k.stands [] (below_none k.asked k.below));
      no_longer = k.no_longer;
      holds = k.holds;
    }

-- ---- one segment for each element

pub better_each : (One Best : Dictionary → List ℕ → Items → Dictionary → Type 0)
    → ((d : Dictionary) (x : List ℕ) (ns : Items) (e : Dictionary) → HoldScalars d → One d x ns e → IsBetterWhole (λ x. Best d x ns e) x e)
    → (es : Elements) (d : Dictionary) (b : List ℕ) (after : Dictionary) → HoldScalars d → Each One d b es after → IsBetterWhole (λ y. Each Best d y es after) b after
better_each One Best better no_elements d b after holds h = whole_none (λ y. Each Best d y no_elements after) b after (refl, h.1) (subst HoldScalars (sym h.1) holds)
better_each One Best better (then_element ns es) d b after holds h =
    let first = better d h.front ns h.between holds h.first in
    whole_then (λ x e. Best d x ns e) (λ e y. Each Best e y es after) h.between after b h.front h.back h.parts first (better_each One Best better es h.between h.back after first.holds h.second)
