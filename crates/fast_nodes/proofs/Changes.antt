-- What was changed can be put back.
use Rattle.fast_nodes.proofs.Common.{◌≡◌, Bool, true, false, List, [], ◌∷◌, ◌++◌, Option, Err, inl, inr, refl, sym, ap, ◌∙◌, cond, IsTrue, is_eq, key_cmp, Key, Scalar, FieldPart, Entry, Undefined, Dictionary, entry_at, entry_at-set_entry, entry_at-set_same, set_entry, set_entry-there, same_dictionary, next, IsFieldPart, with_entry, written, HoldScalars, set_written, form_holds, Change, Books, Changed, GoesOn, IsPartPut, IsPut, IsValuePut, NoPartPut, NoValuePut, of_part, EncodeFault, Segment}
use Rattle.fast_nodes.proofs.Additions.{part_added}

-- ---- one entry

twice : (b : Bool) (e f g : Entry) → cond b e (cond b f g) ≡ cond b e g
twice true e f g = refl
twice false e f g = refl

set_entry-twice : (d : Dictionary) (k : Key) (e f : Entry) → set_entry (set_entry d k e) k f ≡ set_entry d k f
set_entry-twice d k e f =
    same_dictionary (set_entry (set_entry d k e) k f) (set_entry d k f)
    (λ q. entry_at-set_entry (set_entry d k e) k f q ∙ ap (cond (is_eq (key_cmp q k)) f) (entry_at-set_entry d k e q) ∙ twice (is_eq (key_cmp q k)) f e (entry_at d q) ∙ sym (entry_at-set_entry d k f q))

-- to set the entry of a part back that was written
pub set_back : (p : FieldPart) (d : Dictionary) (v : Option Scalar) → set_entry (written p d v) p.key (entry_at d p.key) ≡ d
set_back p d v =
    ap (λ (e : Dictionary). set_entry e p.key (entry_at d p.key)) (sym (set_written p d v))
    ∙ set_entry-twice d p.key (next p (entry_at d p.key) v) (entry_at d p.key) ∙ set_entry-there d p.key

-- where it is undefined, it was so before
pub still_undefined : (p : FieldPart) (d : Dictionary) (v : Option Scalar) → entry_at (written p d v) p.key ≡ Undefined → written p d v ≡ d
still_undefined p d v h =
    let entry = next p (entry_at d p.key) v in
    let none : entry ≡ Undefined = sym (entry_at-set_same d p.key entry) ∙ ap (λ (e : Dictionary). entry_at e p.key) (set_written p d v) ∙ h in
    ap (with_entry d p.key) none

-- ---- a part's value

pub value_is : (d : Dictionary) {p : FieldPart} {v : Option Scalar} {l k : Segment} {before new : Entry} {e : Dictionary} → IsFieldPart p → HoldScalars d → IsPartPut p v (entry_at d p.key) l before new k → e ≡ set_entry d p.key new → IsValuePut p v d l before e k
value_is d {p} {v} is holds put set =
    let after = set ∙ ap (set_entry d p.key) put.after ∙ set_written p d v in
    record { adds = rw (after) (part_added d put); before = put.before; after = after; holds = rw (after) (form_holds p d put.spelt.bit put.spelt.form v is holds (put.spelt.best.cut, put.spelt.best.form)) }

pub no_value : (d : Dictionary) {p : FieldPart} {v : Option Scalar} {l : Segment} {new : Entry} {e : Dictionary} {f : EncodeFault} → NoPartPut p v (entry_at d p.key) new f → e ≡ set_entry d p.key new → NoValuePut p v d l e f
no_value d {p} not set = record {
  why = elim (not.why) [ inl memory ↦ inl memory | inr refusal ↦ inr (rw (refusal.1) (ap Err (sym refusal.2))) ];
  unchanged = set ∙ ap (set_entry d p.key) not.kept ∙ set_entry-there d p.key;
}

-- ---- many entries

pub changed_more : (serves : Key → Bool) (cs : List Change) (c : Change) (start d : Dictionary) (v : Option Scalar) → IsTrue (serves c.part.now.key) → c.before ≡ entry_at d c.part.now.key
    → Changed serves cs start d → Changed serves (cs ++ c ∷ []) start (written c.part.now d v)
changed_more serves [] c start d v served before h = (served, before ∙ ap (λ (e : Dictionary). entry_at e c.part.now.key) h, v, ap (λ (e : Dictionary). written c.part.now e v) h)
changed_more serves (b ∷ cs) c start d v served before h = (h.0, h.1, h.2, changed_more serves cs c (written b.part.now start h.2) d v served before h.3)

-- the last change, and those before it
pub record Last (serves : Key → Bool) (cs : List Change) (c : Change) (start e : Dictionary) : Type 0 where
  pub mid : Dictionary
  pub value : Option Scalar
  pub served : IsTrue (serves c.part.now.key)
  pub before : c.before ≡ entry_at mid c.part.now.key
  pub after : e ≡ written c.part.now mid value
  pub changed : Changed serves cs start mid

pub changed_last : (serves : Key → Bool) (cs : List Change) (c : Change) (start e : Dictionary) → Changed serves (cs ++ c ∷ []) start e → Last serves cs c start e
changed_last serves [] c start e h = record { mid = start; value = h.2; served = h.0; before = h.1; after = h.3; changed = refl }
changed_last serves (b ∷ cs) c start e h =
    let l = changed_last serves cs c (written b.part.now start h.2) e h.3 in
    record { mid = l.mid; value = l.value; served = l.served; before = l.before; after = l.after; changed = (h.0, h.1, h.2, l.changed) }

-- ---- from one to another

pub goes_same : {a : Books} → GoesOn a a
goes_same = record { same_keys = refl; holds = λ h. h; changed = λ start h. h }

pub goes_then : {a b c : Books} → GoesOn a b → GoesOn b c → GoesOn a c
goes_then g h = record {
  same_keys = h.same_keys ∙ g.same_keys;
  holds = λ was. h.holds (g.holds was);
  changed = λ start was. h.changed start (g.changed start was);
}

-- one change more
pub value_put : {a b : Books} {l k : Segment} {v : Option Scalar} (c : Change) → b.serves ≡ a.serves → b.changes ≡ a.changes ++ c ∷ [] → IsTrue (a.serves c.part.now.key)
    → IsValuePut c.part.now v a.entries l c.before b.entries k → IsPut (of_part c.part.now v) a l b k
value_put {a} {v = v} c keys items served put = record {
  adds = put.adds;
  goes = record {
    same_keys = keys;
    holds = λ h. put.holds;
    changed = λ start h. rw (keys, items, put.after) (changed_more a.serves a.changes c start a.entries v served put.before h);
  };
}
