-- Instructions one after another: what is taken of a pile of lists, and what is still to come.
use Rattle.std.proofs.Common.{◌≡◌, ◌≤◌, ◌<◌, ◌+◌, ℕ, max, List, [], ◌∷◌, ◌++◌, drop, get_or, length, length-append, map, refl, sym, ap, ◌∙◌, append_assoc, append-nil, arith}
use Rattle.fast_load.proofs.Common.{drop_all, drop_more, map-append, WrittenInstruction, WrittenInstructions, written_field, written_parts, written_group, written_sequence, written_reference, no_written, then_written, listed, listed_one, written_list, written_of, Leveled, Level, count_in, found_of, left_of, level_inside, leveled, leveled_of, leveled_one, members_in, to_come, referred_by, referred_along, references_in, references_in_one, depth_along, depth_with, depth_with_one, own_depth, own_size, size_along, size_with, size_with_one, stopped_depth, stopped_size}
use Rattle.fast_written.specs.declared.written.Instruction.{Instruction}

-- the last list comes first
pub to_come-push : (ls : List Level) (l : Level) → to_come (ls ++ l ∷ []) ≡ members_in l ++ to_come ls
to_come-push [] l = sym (append-nil (members_in l))
to_come-push (k ∷ ks) l = ap (λ xs. xs ++ members_in k) (to_come-push ks l) ∙ append_assoc (members_in l) (to_come ks) (members_in k)

-- an instruction's members are put on the pile
pub entered : (old new : List Level) (l : Level) (x : ℕ × WrittenInstruction) (one : List (ℕ × WrittenInstruction)) → new ≡ old ++ l ∷ [] → one ≡ x ∷ members_in l → x ∷ to_come new ≡ one ++ to_come old
entered old new l x one pushed is = ap (λ ls. x ∷ to_come ls) pushed ∙ ap (λ xs. x ∷ xs) (to_come-push old l) ∙ ap (λ xs. xs ++ to_come old) (sym is)

module _ (list list_new : List Leveled) (old mid new : List Level) (found : Leveled) (front rest : Level) where
  abbrev one : List (ℕ × WrittenInstruction)
  one = leveled_one found.level (written_of found.instruction.now)

  abbrev Parts : Type 0
  Parts = (list_new ≡ list ++ found ∷ []) × (mid ≡ old ++ rest ∷ []) × (leveled_of found ∷ to_come new ≡ one ++ to_come mid) × (members_in front ≡ one ++ members_in rest)

  behind : Parts → leveled_of found ∷ to_come new ≡ to_come (old ++ front ∷ [])
  behind (taken, put, entered_so, split) =
      entered_so
      ∙ ap (λ ls. one ++ to_come ls) put
      ∙ ap (λ xs. one ++ xs) (to_come-push old rest)
      ∙ sym (append_assoc one (members_in rest) (to_come old))
      ∙ ap (λ xs. xs ++ to_come old) (sym split)
      ∙ sym (to_come-push old front)

  -- one instruction is taken
  pub taken_one : Parts → map leveled_of list_new ++ to_come new ≡ map leveled_of list ++ to_come (old ++ front ∷ [])
  taken_one parts =
      ap (λ xs. map leveled_of xs ++ to_come new) parts.0
      ∙ ap (λ xs. xs ++ to_come new) (map-append leveled_of list (found ∷ []))
      ∙ append_assoc (map leveled_of list) (leveled_of found ∷ []) (to_come new)
      ∙ ap (λ xs. map leveled_of list ++ xs) (behind parts)

  pub taken_less : Parts → length new ≤ length mid + 1 → left_of new < left_of (old ++ front ∷ [])
  taken_less parts few =
      let all : length (to_come new) + 1 ≡ length (to_come (old ++ front ∷ [])) = (let k = ap length (behind parts) in omega (arith, k)) in
      let put : length mid ≡ length old + 1 = ap length parts.1 ∙ length-append old (rest ∷ []) in
      let size : length (old ++ front ∷ []) ≡ length old + 1 = length-append old (front ∷ []) in
      omega (arith, few, all, put, size)

-- nothing comes of an empty list
pub none_in : (l : Level) → length l.members.now ≡ 0 → members_in l ≡ []
none_in l none = of l.members.now none where
  of : (is : List Instruction) → length is ≡ 0 → leveled l.level (written_list (map written_of is)) ≡ []
  of [] e = refl
  of (i ∷ is) e = absurd (omega (arith, e))

-- a list of which none is left
pub none_taken : (old : List Level) (front : Level) → members_in front ≡ [] → to_come old ≡ to_come (old ++ front ∷ [])
none_taken old front none = ap (λ xs. xs ++ to_come old) (sym none) ∙ sym (to_come-push old front)

pub none_less : (old : List Level) (front : Level) → members_in front ≡ [] → left_of old < left_of (old ++ front ∷ [])
none_less old front none =
    let same = ap length (none_taken old front none) in
    let size : length (old ++ front ∷ []) ≡ length old + 1 = length-append old (front ∷ []) in
    omega (arith, same, size)

-- ---- without levels

mutual
  listed_one_again : (n : ℕ) (i : WrittenInstruction) → map (λ l. l.1) (leveled_one n i) ≡ listed_one i
  listed_one_again n (written_field name kind presence operation) = refl
  listed_one_again n (written_parts name presence exponent mantissa) = refl
  listed_one_again n (written_group name presence around members) = ap (λ is. written_group name presence around members ∷ is) (listed_again (level_inside n) members)
  listed_one_again n (written_sequence name presence around length_name len members) = ap (λ is. written_sequence name presence around length_name len members ∷ is) (listed_again (level_inside n) members)
  listed_one_again n (written_reference name) = refl

  listed_again : (n : ℕ) (is : WrittenInstructions) → map (λ l. l.1) (leveled n is) ≡ listed is
  listed_again n no_written = refl
  listed_again n (then_written i is) =
      map-append (λ l. l.1) (leveled_one n i) (leveled n is)
      ∙ ap (λ xs. xs ++ map (λ l. l.1) (leveled n is)) (listed_one_again n i)
      ∙ ap (λ xs. listed_one i ++ xs) (listed_again n is)

levels_off : (ls : List Leveled) → map found_of ls ≡ map (λ l. l.1) (map leveled_of ls)
levels_off [] = refl
levels_off (l ∷ ls) = ap (λ is. found_of l ∷ is) (levels_off ls)

pub found_in_order : (ls : List Leveled) (is : WrittenInstructions) → map leveled_of ls ≡ leveled 0 is → map found_of ls ≡ listed is
found_in_order ls is e = levels_off ls ∙ ap (map (λ l. l.1)) e ∙ listed_again 0 is

-- ---- references

referred-append : (xs ys : List WrittenInstruction) → referred_along (xs ++ ys) ≡ referred_along xs ++ referred_along ys
referred-append [] ys = refl
referred-append (x ∷ xs) ys = ap (λ l. referred_by x ++ l) (referred-append xs ys) ∙ sym (append_assoc (referred_by x) (referred_along xs) (referred_along ys))

mutual
  referred_one : (i : WrittenInstruction) → referred_along (listed_one i) ≡ references_in_one i
  referred_one (written_field name kind presence operation) = refl
  referred_one (written_parts name presence exponent mantissa) = refl
  referred_one (written_group name presence around members) = referred_all members
  referred_one (written_sequence name presence around length_name len members) = referred_all members
  referred_one (written_reference name) = refl

  pub referred_all : (is : WrittenInstructions) → referred_along (listed is) ≡ references_in is
  referred_all no_written = refl
  referred_all (then_written i is) =
      referred-append (listed_one i) (listed is)
      ∙ ap (λ l. l ++ referred_along (listed is)) (referred_one i)
      ∙ ap (λ l. references_in_one i ++ l) (referred_all is)

-- ---- extents

size-append : (sizes : List ℕ → ℕ) (xs ys : List WrittenInstruction) → size_along sizes (xs ++ ys) ≡ size_along sizes xs + size_along sizes ys
size-append sizes [] ys = omega arith
size-append sizes (x ∷ xs) ys = let k = size-append sizes xs ys in omega (arith, k)

mutual
  sizes_one : (sizes : List ℕ → ℕ) (i : WrittenInstruction) → size_along sizes (listed_one i) ≡ size_with_one sizes i
  sizes_one sizes (written_field name kind presence operation) = refl
  sizes_one sizes (written_parts name presence exponent mantissa) = refl
  sizes_one sizes (written_group name presence around members) = let k = sizes_all sizes members in omega (arith, k)
  sizes_one sizes (written_sequence name presence around length_name len members) = let k = sizes_all sizes members in omega (arith, k)
  sizes_one sizes (written_reference name) = omega arith

  pub sizes_all : (sizes : List ℕ → ℕ) (is : WrittenInstructions) → size_along sizes (listed is) ≡ size_with sizes is
  sizes_all sizes no_written = refl
  sizes_all sizes (then_written i is) =
      let k = size-append sizes (listed_one i) (listed is) in
      let l = sizes_one sizes i in
      let m = sizes_all sizes is in
      omega (arith, k, l, m)

depth-append : (depths : List ℕ → ℕ) (xs ys : List (ℕ × WrittenInstruction)) → depth_along depths (xs ++ ys) ≡ max (depth_along depths xs) (depth_along depths ys)
depth-append depths [] ys = omega arith
depth-append depths (x ∷ xs) ys = let k = depth-append depths xs ys in omega (arith, k)

mutual
  depths_one : (depths : List ℕ → ℕ) (n : ℕ) (i : WrittenInstruction) → stopped_depth (max n (depth_along depths (leveled_one n i))) ≡ stopped_depth (n + depth_with_one depths i)
  depths_one depths n (written_field name kind presence operation) = omega arith
  depths_one depths n (written_parts name presence exponent mantissa) = omega arith
  depths_one depths n (written_group name presence around members) = let k = depths_of depths (level_inside n) members in omega (arith, k)
  depths_one depths n (written_sequence name presence around length_name len members) = let k = depths_of depths (level_inside n) members in omega (arith, k)
  depths_one depths n (written_reference name) = omega arith

  depths_of : (depths : List ℕ → ℕ) (n : ℕ) (is : WrittenInstructions) → stopped_depth (max n (depth_along depths (leveled n is))) ≡ stopped_depth (n + depth_with depths is)
  depths_of depths n no_written = omega arith
  depths_of depths n (then_written i is) =
      let k = depth-append depths (leveled_one n i) (leveled n is) in
      let l = depths_one depths n i in
      let m = depths_of depths n is in
      omega (arith, k, l, m)

pub depths_all : (depths : List ℕ → ℕ) (is : WrittenInstructions) → stopped_depth (depth_along depths (leveled 0 is)) ≡ stopped_depth (depth_with depths is)
depths_all depths is = let k = depths_of depths 0 is in omega (arith, k)

-- one instruction more is counted
pub size_more : (sizes : List ℕ → ℕ) (ls : List Leveled) (d : Leveled) (i size new all own : ℕ) → i < length ls → d ≡ get_or ls i d → own ≡ own_size sizes (found_of d) → new ≡ stopped_size (size + own) → stopped_size (size + size_along sizes (map found_of (drop i ls))) ≡ all → stopped_size (new + size_along sizes (map found_of (drop (i + 1) ls))) ≡ all
size_more sizes ls d i size new all own inside at mine made h =
    let split : size_along sizes (map found_of (drop i ls)) ≡ own_size sizes (found_of d) + size_along sizes (map found_of (drop (i + 1) ls)) = ap (λ xs. size_along sizes (map found_of xs)) (drop_more ls i d inside ∙ ap (λ e. e ∷ drop (i + 1) ls) (sym at)) in
    let same : stopped_size (new + size_along sizes (map found_of (drop (i + 1) ls))) ≡ stopped_size (size + size_along sizes (map found_of (drop i ls))) = omega (arith, split, mine, made) in
    same ∙ h

pub depth_more : (depths : List ℕ → ℕ) (ls : List Leveled) (d : Leveled) (i depth new all own below : ℕ) → i < length ls → d ≡ get_or ls i d → own ≡ own_depth depths (found_of d) → below ≡ stopped_depth (d.level + own) → new ≡ stopped_depth (max depth below) → stopped_depth (max depth (depth_along depths (map leveled_of (drop i ls)))) ≡ all → stopped_depth (max new (depth_along depths (map leveled_of (drop (i + 1) ls)))) ≡ all
depth_more depths ls d i depth new all own below inside at mine placed made h =
    let split : depth_along depths (map leveled_of (drop i ls)) ≡ max (d.level + own_depth depths (found_of d)) (depth_along depths (map leveled_of (drop (i + 1) ls))) = ap (λ xs. depth_along depths (map leveled_of xs)) (drop_more ls i d inside ∙ ap (λ e. e ∷ drop (i + 1) ls) (sym at)) in
    let same : stopped_depth (max new (depth_along depths (map leveled_of (drop (i + 1) ls)))) ≡ stopped_depth (max depth (depth_along depths (map leveled_of (drop i ls)))) = omega (arith, split, mine, placed, made) in
    same ∙ h

-- all are counted
pub size_end : (sizes : List ℕ → ℕ) (ls made : List Leveled) (is : WrittenInstructions) (i size : ℕ) → length ls ≤ i → ls ≡ made → map found_of made ≡ listed is → size ≤ 65536 → stopped_size (size + size_along sizes (map found_of (drop i ls))) ≡ stopped_size (size_along sizes (map found_of ls)) → size ≡ stopped_size (size_with sizes is)
size_end sizes ls made is i size le same put stops h =
    let none : size_along sizes (map found_of (drop i ls)) ≡ 0 = ap (λ xs. size_along sizes (map found_of xs)) (drop_all i ls le) in
    let all : size_along sizes (map found_of ls) ≡ size_with sizes is = ap (λ xs. size_along sizes (map found_of xs)) same ∙ ap (size_along sizes) put ∙ sizes_all sizes is in
    omega (arith, stops, h, none, all)

pub depth_end : (depths : List ℕ → ℕ) (ls made : List Leveled) (is : WrittenInstructions) (i depth : ℕ) → length ls ≤ i → ls ≡ made → map leveled_of made ≡ leveled 0 is → depth ≤ 9 → stopped_depth (max depth (depth_along depths (map leveled_of (drop i ls)))) ≡ stopped_depth (depth_along depths (map leveled_of ls)) → depth ≡ stopped_depth (depth_with depths is)
depth_end depths ls made is i depth le same put stops h =
    let none : depth_along depths (map leveled_of (drop i ls)) ≡ 0 = ap (λ xs. depth_along depths (map leveled_of xs)) (drop_all i ls le) in
    let all : depth_along depths (map leveled_of ls) ≡ depth_along depths (leveled 0 is) = ap (λ xs. depth_along depths (map leveled_of xs)) same ∙ ap (depth_along depths) put in
    let of = depths_all depths is in
    omega (arith, stops, h, none, all, of)

-- ---- instructions that are taken apart

pub one_listed : (i : WrittenInstruction) → 0 < length (listed_one i)
one_listed (written_field name kind presence operation) = omega arith
one_listed (written_parts name presence exponent mantissa) = omega arith
one_listed (written_group name presence around members) = omega arith
one_listed (written_sequence name presence around length_name len members) = omega arith
one_listed (written_reference name) = omega arith

pub count-append : (xs ys : List Instruction) → count_in (xs ++ ys) ≡ count_in xs + count_in ys
count-append [] ys = omega arith
count-append (x ∷ xs) ys =
    let k = count-append xs ys in
    let l = length-append (listed_one (written_of x)) (listed (written_list (map written_of (xs ++ ys)))) in
    let m = length-append (listed_one (written_of x)) (listed (written_list (map written_of xs))) in
    omega (arith, k, l, m)

-- what is on the pile gets less
pub pile_less : (old rest members new : List Instruction) (i : Instruction) → old ≡ rest ++ i ∷ [] → count_in members < length (listed_one (written_of i)) → new ≡ rest ++ members → count_in new < count_in old
pile_less old rest members new i taken few put =
    let a : count_in old ≡ count_in rest + count_in (i ∷ []) = ap count_in taken ∙ count-append rest (i ∷ []) in
    let b : count_in new ≡ count_in rest + count_in members = ap count_in put ∙ count-append rest members in
    let c : count_in (i ∷ []) ≡ length (listed_one (written_of i)) = ap length (append-nil (listed_one (written_of i))) in
    omega (arith, a, b, c, few)
