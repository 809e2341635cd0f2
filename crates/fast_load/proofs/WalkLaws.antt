-- What a walk over instructions answers, by their places in the list of all of them.
use Rattle.fast_load.proofs.Common.{◌≡◌, ◌≤◌, ◌<◌, ◌+◌, ℕ, zero, suc, List, [], ◌∷◌, ◌++◌, map, drop, get_or, length, min, Option, Some, None, refl, sym, ap, subst, ◌∙◌, lit≤, arith, slice_get, min-le_right, drop_all, drop_more, option_map_or, LoadCause, LoadFault, Walked, Next, Fault, WrittenInstruction, WrittenInstructions, written_field, written_parts, written_group, written_sequence, written_reference, no_written, then_written, WrittenTemplate, listed, listed_one, Leveled, found_of, and_then, judged, walk, walk_one, after_walk, after_template, first_at_fault, next_number}

module _ (judge : WrittenInstruction → Option LoadCause) where
  -- the same along a list
  abbrev pub along : List WrittenInstruction → ℕ → Walked
  along [] n = Next n
  along (x ∷ xs) n = and_then (judged (judge x) n) (along xs)

  and_then-assoc : (w : Walked) (f g : ℕ → Walked) → and_then (and_then w f) g ≡ and_then w (λ n. and_then (f n) g)
  and_then-assoc (Next n) f g = refl
  and_then-assoc (Fault cause n) f g = refl

  and_then-Next : (w : Walked) → and_then w Next ≡ w
  and_then-Next (Next n) = refl
  and_then-Next (Fault cause n) = refl

  and_then-same : (w : Walked) (f g : ℕ → Walked) → ((n : ℕ) → f n ≡ g n) → and_then w f ≡ and_then w g
  and_then-same (Next n) f g same = same n
  and_then-same (Fault cause n) f g same = refl

  along-append : (xs ys : List WrittenInstruction) (n : ℕ) → along (xs ++ ys) n ≡ and_then (along xs n) (along ys)
  along-append [] ys n = refl
  along-append (x ∷ xs) ys n = and_then-same (judged (judge x) n) _ _ (along-append xs ys) ∙ sym (and_then-assoc (judged (judge x) n) (along xs) (along ys))

  mutual
    walk_one-along : (i : WrittenInstruction) (n : ℕ) → walk_one judge i n ≡ along (listed_one i) n
    walk_one-along (written_field name kind presence operation) n = sym (and_then-Next (judged (judge (written_field name kind presence operation)) n))
    walk_one-along (written_parts name presence exponent mantissa) n = sym (and_then-Next (judged (judge (written_parts name presence exponent mantissa)) n))
    walk_one-along (written_group name presence around members) n = and_then-same (judged (judge (written_group name presence around members)) n) _ _ (walk-along members)
    walk_one-along (written_sequence name presence around length_name length members) n = and_then-same (judged (judge (written_sequence name presence around length_name length members)) n) _ _ (walk-along members)
    walk_one-along (written_reference name) n = sym (and_then-Next (judged (judge (written_reference name)) n))

    pub walk-along : (is : WrittenInstructions) (n : ℕ) → walk judge is n ≡ along (listed is) n
    walk-along no_written n = refl
    walk-along (then_written i is) n =
        ap (λ w. and_then w (walk judge is)) (walk_one-along i n)
        ∙ and_then-same (along (listed_one i) n) _ _ (walk-along is)
        ∙ sym (along-append (listed_one i) (listed is) n)

  -- the first at fault, and where
  pub record IsFirstAlong (xs : List WrittenInstruction) (n : ℕ) (cause : LoadCause) (number : ℕ) : Type 0 where
    pub place : ℕ
    pub instruction : WrittenInstruction
    pub there : slice_get xs place ≡ Some instruction
    pub at_fault : judge instruction ≡ Some cause
    pub numbered : number ≡ min (n + place) 4294967295
    pub before : (k : ℕ) (x : WrittenInstruction) → k < place → slice_get xs k ≡ Some x → judge x ≡ None

  fault_here : (c d : LoadCause) (m n : ℕ) → Fault c m ≡ Fault d n → (c ≡ d) × (m ≡ n)
  fault_here c d m n e = (ap (cause_in c) e, ap number_in e) where
    cause_in : LoadCause → Walked → LoadCause
    cause_in d (Next n) = d
    cause_in d (Fault c n) = c

    number_in : Walked → ℕ
    number_in (Next n) = 0
    number_in (Fault c n) = n

  shifted : (n p m : ℕ) → n ≤ 4294967295 → m ≡ min (next_number n + p) 4294967295 → m ≡ min (n + suc p) 4294967295
  shifted n p m small is = omega (arith, is, small)

  unshifted : (n : ℕ) → n ≤ 4294967295 → n ≡ min (n + 0) 4294967295
  unshifted n small = omega (arith, small)

  next_small : (n : ℕ) → next_number n ≤ 4294967295
  next_small n = min-le_right (n + 1) 4294967295

  before-suc : (x : WrittenInstruction) (xs : List WrittenInstruction) (p : ℕ) → judge x ≡ None → ((k : ℕ) (y : WrittenInstruction) → k < p → slice_get xs k ≡ Some y → judge y ≡ None) → (k : ℕ) (y : WrittenInstruction) → k < suc p → slice_get (x ∷ xs) k ≡ Some y → judge y ≡ None
  before-suc x xs p is others zero y less there = let same : x ≡ y = ap (λ o. option_map_or (λ v. v) o x) there in subst (λ v. judge v ≡ None) same is
  before-suc x xs p is others (suc k) y less there = others k y (omega (arith, less)) there

  first_after : (x : WrittenInstruction) (xs : List WrittenInstruction) (n : ℕ) → n ≤ 4294967295 → (c : LoadCause) (m : ℕ) (o : Option LoadCause) → judge x ≡ o → and_then (judged o n) (along xs) ≡ Fault c m
      → (along xs (next_number n) ≡ Fault c m → IsFirstAlong xs (next_number n) c m) → IsFirstAlong (x ∷ xs) n c m
  first_after x xs n small c m None is e go =
      let later : IsFirstAlong xs (next_number n) c m = go e in
      record {
        place = suc later.place;
        instruction = later.instruction;
        there = later.there;
        at_fault = later.at_fault;
        numbered = shifted n later.place m small later.numbered;
        before = before-suc x xs later.place is later.before;
      }
  first_after x xs n small c m (Some d) is e go =
      let same : (d ≡ c) × (n ≡ m) = fault_here d c n m e in
      record {
        place = 0;
        instruction = x;
        there = refl;
        at_fault = is ∙ ap Some same.0;
        numbered = sym same.1 ∙ unshifted n small;
        before = λ k y less there. absurd (omega (arith, less));
      }

  pub first_along : (xs : List WrittenInstruction) (n : ℕ) → n ≤ 4294967295 → (c : LoadCause) (m : ℕ) → along xs n ≡ Fault c m → IsFirstAlong xs n c m
  first_along [] n small c m e = absurd (cc e)
  first_along (x ∷ xs) n small c m e = first_after x xs n small c m (judge x) refl e (first_along xs (next_number n) (next_small n) c m)

  none_after : (x : WrittenInstruction) (xs : List WrittenInstruction) (n m : ℕ) (o : Option LoadCause) → judge x ≡ o → and_then (judged o n) (along xs) ≡ Next m
      → (along xs (next_number n) ≡ Next m → (k : ℕ) (y : WrittenInstruction) → slice_get xs k ≡ Some y → judge y ≡ None)
      → (k : ℕ) (y : WrittenInstruction) → slice_get (x ∷ xs) k ≡ Some y → judge y ≡ None
  none_after x xs n m None is e go zero y there = let same : x ≡ y = ap (λ o. option_map_or (λ v. v) o x) there in subst (λ v. judge v ≡ None) same is
  none_after x xs n m None is e go (suc k) y there = go e k y there
  none_after x xs n m (Some d) is e go k y there = absurd (cc e)

  pub none_along : (xs : List WrittenInstruction) (n m : ℕ) → along xs n ≡ Next m → (k : ℕ) (y : WrittenInstruction) → slice_get xs k ≡ Some y → judge y ≡ None
  none_along [] n m e = λ k y there. absurd (cc there)
  none_along (x ∷ xs) n m e = none_after x xs n m (judge x) refl e (none_along xs (next_number n) m)

-- ---- templates one after another

module _ (of_template : WrittenTemplate → Option LoadCause) (judge : WrittenInstruction → Option LoadCause) where
  -- what is judged at a place among templates: the template itself at 0, and each instruction at its number
  abbrev pub CauseIn : List WrittenTemplate → ℕ → ℕ → LoadCause → Type 0
  CauseIn ws p zero c = (w : WrittenTemplate) × (slice_get ws p ≡ Some w) × (of_template w ≡ Some c)
  CauseIn ws p (suc i) c = (w : WrittenTemplate) × (x : WrittenInstruction) × (slice_get ws p ≡ Some w) × (slice_get (listed w.members) i ≡ Some x) × (judge x ≡ Some c)

  -- the first place with a cause
  pub record IsFirstPlace (ws : List WrittenTemplate) (t : ℕ) (fault : LoadFault) : Type 0 where
    pub place : ℕ
    pub number : ℕ
    pub cause : LoadCause
    pub here : CauseIn ws place number cause
    pub earlier : (q k : ℕ) (c : LoadCause) → q < place → ¬ (CauseIn ws q k c)
    pub before : (k : ℕ) (c : LoadCause) → k < number → ¬ (CauseIn ws place k c)
    pub answered : fault ≡ record { cause = cause; template = t + place; instruction = min number 4294967295 }

  none_some : {A : Type 0} (x : A) → None ≡ Some x → ⊥
  none_some x e = cc e

  same_template : (w v : WrittenTemplate) (ws : List WrittenTemplate) → slice_get (w ∷ ws) 0 ≡ Some v → w ≡ v
  same_template w v ws there = ap (λ o. option_map_or (λ x. x) o w) there

  -- a template without a cause of its own
  no_own : (w : WrittenTemplate) (ws : List WrittenTemplate) (c : LoadCause) → of_template w ≡ None → ¬ (CauseIn (w ∷ ws) 0 0 c)
  no_own w ws c none found = none_some c (sym none ∙ ap of_template (same_template w found.0 ws found.1) ∙ found.2)

  -- and whose first instructions have none
  no_inner : (w : WrittenTemplate) (ws : List WrittenTemplate) (i : ℕ) (c : LoadCause) → ((x : WrittenInstruction) → slice_get (listed w.members) i ≡ Some x → judge x ≡ None) → ¬ (CauseIn (w ∷ ws) 0 (suc i) c)
  no_inner w ws i c none found =
      let at : slice_get (listed w.members) i ≡ Some found.1 = ap (λ v. slice_get (listed v.members) i) (same_template w found.0 ws found.2) ∙ found.3 in
      none_some c (sym (none found.1 at) ∙ found.4)

  later_place : (w : WrittenTemplate) (ws : List WrittenTemplate) (p k : ℕ) (c : LoadCause) → CauseIn ws p k c → CauseIn (w ∷ ws) (suc p) k c
  later_place w ws p zero c found = found
  later_place w ws p (suc i) c found = found

  sooner_place : (w : WrittenTemplate) (ws : List WrittenTemplate) (p k : ℕ) (c : LoadCause) → CauseIn (w ∷ ws) (suc p) k c → CauseIn ws p k c
  sooner_place w ws p zero c found = found
  sooner_place w ws p (suc i) c found = found

  before_here : (w : WrittenTemplate) (ws : List WrittenTemplate) (p : ℕ) → of_template w ≡ None → ((k : ℕ) (x : WrittenInstruction) → k < p → slice_get (listed w.members) k ≡ Some x → judge x ≡ None) → (k : ℕ) (c : LoadCause) → k < suc p → ¬ (CauseIn (w ∷ ws) 0 k c)
  before_here w ws p own inner zero c less found = no_own w ws c own found
  before_here w ws p own inner (suc k) c less found = no_inner w ws k c (λ x. inner k x (omega (arith, less))) found

  earlier_there : (w : WrittenTemplate) (ws : List WrittenTemplate) (p : ℕ) → of_template w ≡ None → ((k : ℕ) (x : WrittenInstruction) → slice_get (listed w.members) k ≡ Some x → judge x ≡ None) → ((q k : ℕ) (c : LoadCause) → q < p → ¬ (CauseIn ws q k c)) → (q k : ℕ) (c : LoadCause) → q < suc p → ¬ (CauseIn (w ∷ ws) q k c)
  earlier_there w ws p own inner others zero zero c less found = no_own w ws c own found
  earlier_there w ws p own inner others zero (suc k) c less found = no_inner w ws k c (inner k) found
  earlier_there w ws p own inner others (suc q) k c less found = others q k c (omega (arith, less)) (sooner_place w ws q k c found)

  fault_is : (a b : LoadFault) → Some a ≡ Some b → a ≡ b
  fault_is a b e = ap (λ o. option_map_or (λ x. x) o a) e

  place_after : (w : WrittenTemplate) (ws : List WrittenTemplate) (t : ℕ) (fault : LoadFault) (o : Option LoadCause) → of_template w ≡ o → (walked : Walked) → walk judge w.members 1 ≡ walked
      → after_template o t (after_walk walked t (first_at_fault of_template judge ws (t + 1))) ≡ Some fault
      → (first_at_fault of_template judge ws (t + 1) ≡ Some fault → IsFirstPlace ws (t + 1) fault) → IsFirstPlace (w ∷ ws) t fault
  place_after w ws t fault (Some d) own walked walks e go =
      let zeros : t ≡ t + 0 = omega arith in
      let least : 0 ≡ min 0 4294967295 = omega arith in
      record {
        place = 0;
        number = 0;
        cause = d;
        here = (w, refl, own);
        earlier = λ q k c less found. absurd (omega (arith, less));
        before = λ k c less found. absurd (omega (arith, less));
        answered = sym (fault_is _ _ e) ∙ (λ i. record { cause = d; template = zeros i; instruction = least i });
      }
  place_after w ws t fault None own (Fault c n) walks e go =
      let f : IsFirstAlong judge (listed w.members) 1 c n = first_along judge (listed w.members) 1 (lit≤ tt) c n (sym (walk-along judge w.members 1) ∙ walks) in
      let zeros : t ≡ t + 0 = omega arith in
      let number : n ≡ min (suc f.place) 4294967295 = omega (arith, f.numbered) in
      record {
        place = 0;
        number = suc f.place;
        cause = c;
        here = (w, f.instruction, refl, f.there, f.at_fault);
        earlier = λ q k d less found. absurd (omega (arith, less));
        before = before_here w ws f.place own f.before;
        answered = sym (fault_is _ _ e) ∙ (λ i. record { cause = c; template = zeros i; instruction = number i });
      }
  place_after w ws t fault None own (Next n) walks e go =
      let later : IsFirstPlace ws (t + 1) fault = go e in
      let places : (t + 1) + later.place ≡ t + suc later.place = omega arith in
      record {
        place = suc later.place;
        number = later.number;
        cause = later.cause;
        here = later_place w ws later.place later.number later.cause later.here;
        earlier = earlier_there w ws later.place own (none_along judge (listed w.members) 1 n (sym (walk-along judge w.members 1) ∙ walks)) later.earlier;
        before = λ k c less found. later.before k c less (sooner_place w ws later.place k c found);
        answered = later.answered ∙ (λ i. record { cause = later.cause; template = places i; instruction = min later.number 4294967295 });
      }

  pub first_place : (ws : List WrittenTemplate) (t : ℕ) (fault : LoadFault) → first_at_fault of_template judge ws t ≡ Some fault → IsFirstPlace ws t fault
  first_place [] t fault e = absurd (cc e)
  first_place (w ∷ ws) t fault e = place_after w ws t fault (of_template w) refl (walk judge w.members 1) refl e (first_place ws (t + 1) fault)

  none_then : (w : WrittenTemplate) (ws : List WrittenTemplate) (t : ℕ) (o : Option LoadCause) → of_template w ≡ o → (walked : Walked) → walk judge w.members 1 ≡ walked
      → after_template o t (after_walk walked t (first_at_fault of_template judge ws (t + 1))) ≡ None
      → (first_at_fault of_template judge ws (t + 1) ≡ None → (p k : ℕ) (c : LoadCause) → ¬ (CauseIn ws p k c))
      → (p k : ℕ) (c : LoadCause) → ¬ (CauseIn (w ∷ ws) p k c)
  none_then w ws t (Some d) own walked walks e go p k c found = none_some _ (sym e)
  none_then w ws t None own (Fault d n) walks e go p k c found = none_some _ (sym e)
  none_then w ws t None own (Next n) walks e go zero zero c found = no_own w ws c own found
  none_then w ws t None own (Next n) walks e go zero (suc k) c found = no_inner w ws k c (none_along judge (listed w.members) 1 n (sym (walk-along judge w.members 1) ∙ walks) k) found
  none_then w ws t None own (Next n) walks e go (suc p) k c found = go e p k c (sooner_place w ws p k c found)

  no_cause : (p k : ℕ) (c : LoadCause) → ¬ (CauseIn [] p k c)
  no_cause p zero c found = none_some _ found.1
  no_cause p (suc k) c found = none_some _ found.2

  pub no_place : (ws : List WrittenTemplate) (t : ℕ) → first_at_fault of_template judge ws t ≡ None → (p k : ℕ) (c : LoadCause) → ¬ (CauseIn ws p k c)
  no_place [] t e = no_cause
  no_place (w ∷ ws) t e = none_then w ws t (of_template w) refl (walk judge w.members 1) refl e (no_place ws (t + 1))

-- ---- along a list of instructions that were put in order

pub along_fault : (judge : WrittenInstruction → Option LoadCause) (ls : List Leveled) (d : Leveled) (i next n : ℕ) (cause : LoadCause) → i < length ls → d ≡ get_or ls i d → judge (found_of d) ≡ Some cause → along judge (map found_of (drop i ls)) next ≡ along judge (map found_of ls) n → Fault cause next ≡ along judge (map found_of ls) n
along_fault judge ls d i next n cause inside at is h =
    let split : drop i ls ≡ d ∷ drop (i + 1) ls = drop_more ls i d inside ∙ ap (λ e. e ∷ drop (i + 1) ls) (sym at) in
    sym (ap (λ xs. along judge (map found_of xs) next) split ∙ ap (λ o. and_then (judged o next) (along judge (map found_of (drop (i + 1) ls)))) is) ∙ h

pub along_more : (judge : WrittenInstruction → Option LoadCause) (ls : List Leveled) (d : Leveled) (i next new : ℕ) (all : Walked) → i < length ls → d ≡ get_or ls i d → judge (found_of d) ≡ None → new ≡ next_number next → along judge (map found_of (drop i ls)) next ≡ all → along judge (map found_of (drop (i + 1) ls)) new ≡ all
along_more judge ls d i next new all inside at is number h =
    let split : drop i ls ≡ d ∷ drop (i + 1) ls = drop_more ls i d inside ∙ ap (λ e. e ∷ drop (i + 1) ls) (sym at) in
    ap (along judge (map found_of (drop (i + 1) ls))) number
    ∙ sym (ap (λ xs. along judge (map found_of xs) next) split ∙ ap (λ o. and_then (judged o next) (along judge (map found_of (drop (i + 1) ls)))) is)
    ∙ h

pub along_end : (judge : WrittenInstruction → Option LoadCause) (ls : List Leveled) (i next n : ℕ) → length ls ≤ i → along judge (map found_of (drop i ls)) next ≡ along judge (map found_of ls) n → Next next ≡ along judge (map found_of ls) n
along_end judge ls i next n le h = sym (ap (λ xs. along judge (map found_of xs) next) (drop_all i ls le)) ∙ h

-- what is found along a list is what a walk finds
pub along_walk : (judge : WrittenInstruction → Option LoadCause) (ls all : List Leveled) (is : WrittenInstructions) (n : ℕ) → ls ≡ all → map found_of all ≡ listed is → along judge (map found_of ls) n ≡ walk judge is n
along_walk judge ls all is n same put = ap (λ xs. along judge (map found_of xs) n) same ∙ ap (λ xs. along judge xs n) put ∙ sym (walk-along judge is n)
