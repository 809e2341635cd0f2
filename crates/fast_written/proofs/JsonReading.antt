-- Reading the instructions of a template text one after another.
use Rattle.fast_written.proofs.Common.{min, arith, ◌⊎◌, inl, inr, Result, ◌≡◌, ◌<◌, ◌≤◌, ◌+◌, ℕ, List, [], ◌∷◌, ◌++◌, length, drop, get_or, Option, Some, Ok, Err, refl, sym, ap, ◌∙◌, option_map_or, nat_cmp, match_ordering, Ordering, Less, Equal, Greater, slice_cmp, drop_more, drop_all, append_assoc, append-nil, LoadCause, LoadFault, want_of_memory, fault_at as load_fault, WrittenTemplate, Data, null, boolean, number, string, array, object, Members, no_members, member, get_member, data_in, items_in, Global, Value, Word, word_text, next_number, WrittenInstruction, WrittenInstructions, no_written, then_written, written_list, Unread, Read, ReadsAs, ReadsTemplate, fault_of_unread, read_template, read_templates, then_templates, one_of, members_in, read_one, read_inside, read_all, read_items, before_others, then_others}

-- what stands under a key is the same whether it is looked for or met
inside_by : (o : Ordering) (a b c : Read WrittenInstructions) (x y z : Option Data) (n : ℕ) → a ≡ option_map_or (λ e. read_all e n) x (Ok (no_written, n)) → b ≡ option_map_or (λ e. read_all e n) y (Ok (no_written, n)) → c ≡ option_map_or (λ e. read_all e n) z (Ok (no_written, n))
    → match_ordering o a b c ≡ option_map_or (λ e. read_all e n) (match_ordering o x y z) (Ok (no_written, n))
inside_by Less a b c x y z n p q r = p
inside_by Equal a b c x y z n p q r = q
inside_by Greater a b c x y z n p q r = r

inside_is : (ms : Members) (n : ℕ) → read_inside ms n ≡ members_in (object ms) n
inside_is no_members n = refl
inside_is (member k d ms) n = inside_by (slice_cmp nat_cmp (word_text Word.Instructions) k) _ _ _ (get_member (word_text Word.Instructions) ms) (Some d) (get_member (word_text Word.Instructions) ms) n (inside_is ms n) refl (inside_is ms n)

pub one_is : (d : Data) (n : ℕ) → read_one d n ≡ one_of d n (members_in d (next_number n))
one_is null n = refl
one_is (boolean b) n = refl
one_is (number x) n = refl
one_is (string s) n = refl
one_is (array ds) n = refl
one_is (object ms) n = ap (one_of (object ms) n) (inside_is ms (next_number n))

-- ---- some instructions, and then what is read

abbrev before : List WrittenInstruction → WrittenInstructions → WrittenInstructions
before [] is = is
before (x ∷ xs) is = then_written x (before xs is)

abbrev pub behind : List WrittenInstruction → Read WrittenInstructions → Read WrittenInstructions
behind xs (Err n) = Err n
behind xs (Ok p) = Ok (before xs p.0, p.1)

before_push : (xs : List WrittenInstruction) (x : WrittenInstruction) (is : WrittenInstructions) → before (xs ++ x ∷ []) is ≡ before xs (then_written x is)
before_push [] x is = refl
before_push (y ∷ xs) x is = ap (then_written y) (before_push xs x is)

before_all : (xs : List WrittenInstruction) → before xs no_written ≡ written_list xs
before_all [] = refl
before_all (x ∷ xs) = ap (then_written x) (before_all xs)

behind_push : (xs : List WrittenInstruction) (x : WrittenInstruction) (r : Read WrittenInstructions) → behind (xs ++ x ∷ []) r ≡ behind xs (before_others x r)
behind_push xs x (Err n) = refl
behind_push xs x (Ok p) = ap (λ is. Ok (is, p.1)) (before_push xs x p.0)

behind_nothing : (r : Read WrittenInstructions) → behind [] r ≡ r
behind_nothing (Err n) = refl
behind_nothing (Ok p) = refl

pub none_yet : (vs : List (Value Global)) (n : ℕ) → behind [] (read_items (items_in (drop 0 vs)) n) ≡ read_items (items_in vs) n
none_yet vs n = behind_nothing (read_items (items_in vs) n)

here_is : (vs : List (Value Global)) (i n : ℕ) (d : Value Global) → i < length vs → read_items (items_in (drop i vs)) n ≡ then_others (one_of (data_in (get_or vs i d)) n (members_in (data_in (get_or vs i d)) (next_number n))) (read_items (items_in (drop (i + 1) vs)))
here_is vs i n d lt =
    ap (λ l. read_items (items_in l) n) (drop_more vs i d lt) ∙ ap (λ r. then_others r (read_items (items_in (drop (i + 1) vs)))) (one_is (data_in (get_or vs i d)) n)

-- one that is read joins those before it
pub one_more : (xs : List WrittenInstruction) (vs : List (Value Global)) (i n next : ℕ) (d : Value Global) (x : WrittenInstruction) → i < length vs → one_of (data_in (get_or vs i d)) n (members_in (data_in (get_or vs i d)) (next_number n)) ≡ Ok (x, next)
    → behind (xs ++ x ∷ []) (read_items (items_in (drop (i + 1) vs)) next) ≡ behind xs (read_items (items_in (drop i vs)) n)
one_more xs vs i n next d x lt is =
    let rest = read_items (items_in (drop (i + 1) vs)) in
    behind_push xs x (rest next) ∙ ap (λ r. behind xs (then_others r rest)) (sym is) ∙ ap (behind xs) (sym (here_is vs i n d lt))

-- one that is not ends the reading
pub one_at_fault : (xs : List WrittenInstruction) (vs : List (Value Global)) (i n m : ℕ) (d : Value Global) → i < length vs → one_of (data_in (get_or vs i d)) n (members_in (data_in (get_or vs i d)) (next_number n)) ≡ Err m
    → behind xs (read_items (items_in (drop i vs)) n) ≡ Err m
one_at_fault xs vs i n m d lt is = ap (behind xs) (here_is vs i n d lt ∙ ap (λ r. then_others r (read_items (items_in (drop (i + 1) vs)))) is)

pub all_read : (xs : List WrittenInstruction) (vs : List (Value Global)) (i n : ℕ) → length vs ≤ i → behind xs (read_items (items_in (drop i vs)) n) ≡ Ok (written_list xs, n)
all_read xs vs i n le = ap (λ l. behind xs (read_items (items_in l) n)) (drop_all i vs le) ∙ ap (λ is. Ok (is, n)) (before_all xs)

-- what cannot be read there cannot be read as a whole
pub fails : {A B : Type 0} (f : A → WrittenInstruction) (g : B → WrittenInstructions) (e : Unread) (one : Read WrittenInstruction) (all : Read WrittenInstructions) → ((m : ℕ) → one ≡ Err m → all ≡ Err m) → ReadsAs f (Err e) one → ReadsAs g (Err e) all
fails f g (Unread.At m) one all lead reads = lead m reads
fails f g Unread.Memory one all lead reads = tt

-- ---- templates

abbrev pub templates_behind : List WrittenTemplate → Result (List WrittenTemplate) LoadFault → Result (List WrittenTemplate) LoadFault
templates_behind xs (Err fault) = Err fault
templates_behind xs (Ok ws) = Ok (xs ++ ws)

behind_one : (xs : List WrittenTemplate) (t : ℕ) (x : WrittenTemplate) (r : Result (List WrittenTemplate) LoadFault) → templates_behind (xs ++ x ∷ []) r ≡ templates_behind xs (then_templates t (Ok x) r)
behind_one xs t x (Err fault) = refl
behind_one xs t x (Ok ws) = ap Ok (append_assoc xs (x ∷ []) ws)

behind_no_templates : (r : Result (List WrittenTemplate) LoadFault) → templates_behind [] r ≡ r
behind_no_templates (Err fault) = refl
behind_no_templates (Ok ws) = refl

pub no_templates_yet : (default : Option (List ℕ)) (vs : List (Value Global)) → templates_behind [] (read_templates default (items_in (drop 0 vs)) (0 + 1)) ≡ read_templates default (items_in vs) 1
no_templates_yet default vs = behind_no_templates (read_templates default (items_in vs) 1)

template_is : (default : Option (List ℕ)) (vs : List (Value Global)) (i : ℕ) (d : Value Global) → i < length vs → read_templates default (items_in (drop i vs)) (i + 1) ≡ then_templates (i + 1) (read_template default (data_in (get_or vs i d))) (read_templates default (items_in (drop (i + 1) vs)) (i + 1 + 1))
template_is default vs i d lt = ap (λ l. read_templates default (items_in l) (i + 1)) (drop_more vs i d lt)

pub one_template : (default : Option (List ℕ)) (xs : List WrittenTemplate) (vs : List (Value Global)) (i : ℕ) (d : Value Global) (x : WrittenTemplate) → i < length vs → read_template default (data_in (get_or vs i d)) ≡ Ok x
    → templates_behind (xs ++ x ∷ []) (read_templates default (items_in (drop (i + 1) vs)) (i + 1 + 1)) ≡ templates_behind xs (read_templates default (items_in (drop i vs)) (i + 1))
one_template default xs vs i d x lt is =
    let rest = read_templates default (items_in (drop (i + 1) vs)) (i + 1 + 1) in
    behind_one xs (i + 1) x rest ∙ ap (λ r. templates_behind xs (then_templates (i + 1) r rest)) (sym is) ∙ ap (templates_behind xs) (sym (template_is default vs i d lt))

pub template_at_fault : (default : Option (List ℕ)) (xs : List WrittenTemplate) (vs : List (Value Global)) (i m : ℕ) (d : Value Global) → i < length vs → read_template default (data_in (get_or vs i d)) ≡ Err m
    → templates_behind xs (read_templates default (items_in (drop i vs)) (i + 1)) ≡ Err (load_fault LoadCause.S1 (i + 1) m)
template_at_fault default xs vs i m d lt is = ap (templates_behind xs) (template_is default vs i d lt ∙ ap (λ r. then_templates (i + 1) r (read_templates default (items_in (drop (i + 1) vs)) (i + 1 + 1))) is)

pub all_templates : (default : Option (List ℕ)) (xs : List WrittenTemplate) (vs : List (Value Global)) (i : ℕ) → length vs ≤ i → templates_behind xs (read_templates default (items_in (drop i vs)) (i + 1)) ≡ Ok xs
all_templates default xs vs i le = ap (λ l. templates_behind xs (read_templates default (items_in l) (i + 1))) (drop_all i vs le) ∙ ap Ok (append-nil xs)

-- the fault of a template that was not read
pub unread_template : (e : Unread) (t place : ℕ) (spec : Result WrittenTemplate ℕ) (all : Result (List WrittenTemplate) LoadFault) → place ≡ min t 4294967295 → ((m : ℕ) → e ≡ Unread.At m → m ≤ 4294967295)
    → ((m : ℕ) → spec ≡ Err m → all ≡ Err (load_fault LoadCause.S1 t m)) → ReadsTemplate (Err e) spec → (all ≡ Err (fault_of_unread e place)) ⊎ (fault_of_unread e place ≡ want_of_memory)
unread_template (Unread.At m) t place spec all at small lead reads =
    let le = small m refl in
    let same : min m 4294967295 ≡ m = omega (arith, le) in
    inl (lead m reads ∙ (λ i. Err (record { cause = LoadCause.S1; template = sym at i; instruction = same i })))
unread_template Unread.Memory t place spec all at small lead reads = inr refl
