-- How many rows there are, and how they are numbered.
use Rattle.std.proofs.Common.{◌≡◌, ℕ, ◌+◌, List, [], ◌∷◌, ◌++◌, length, ap, refl, subst, ◌∙◌, arith, length-append}
use Rattle.fast_template.specs.Resolved.{Instruction, Instructions, whole_field, field_in_parts, group_of, sequence_of, no_instructions, then_instruction, Resolved, size_of, size_of_one, numbered, numbered_one}
use Rattle.fast_template.specs.TemplateSets.{IsNumbered, size_of_all}
use Rattle.fast_layout.specs.Fields.{Row, CountsOn, fields_of, placed, rows_of, rows_of_one, rows_of_all, rows_of_template}

mutual
  pub as_many_of_one : (i : Instruction) → length (rows_of_one i) ≡ size_of_one i
  as_many_of_one (whole_field name number presence whole) = refl
  as_many_of_one (field_in_parts name number presence exponent mantissa) = refl
  as_many_of_one (group_of name number presence members) = grind (arith, as_many members)
  as_many_of_one (sequence_of name number presence part members) = grind (arith, as_many members)

  pub as_many : (is : Instructions) → length (rows_of is) ≡ size_of is
  as_many no_instructions = refl
  as_many (then_instruction i is) = length-append (rows_of_one i) (rows_of is) ∙ grind (arith, as_many_of_one i, as_many is)

pub placed_many : (at : ℕ) (rs : List Row) → length (placed at rs) ≡ length rs
placed_many at [] = refl
placed_many at (r ∷ rs) = grind (arith, placed_many (at + length r.name) rs)

pub as_many_rows : (ts : List Resolved) → length (rows_of_all ts) ≡ length ts + size_of_all ts
as_many_rows [] = refl
as_many_rows (t ∷ ts) = length-append (rows_of_template t) (rows_of_all ts) ∙ grind (arith, as_many t.members, as_many_rows ts)

pub as_many_fields : (ts : List Resolved) → length (fields_of ts) ≡ length ts + size_of_all ts
as_many_fields ts = placed_many 0 (rows_of_all ts) ∙ as_many_rows ts

-- rows that count on, and others that count on behind them
pub counts_both : (n m : ℕ) (a b : List Row) → CountsOn n a → n + length a ≡ m → CountsOn m b → CountsOn n (a ++ b)
counts_both n m [] b h e g = let same : m ≡ n = omega (arith, e) in subst (λ k. CountsOn k b) same g
counts_both n m (r ∷ a) b h e g = (h.0, counts_both (n + 1) m a b h.1 (grind arith) g)

mutual
  pub numbered_one_counts : (n : ℕ) (i : Instruction) → CountsOn n (rows_of_one (numbered_one n i))
  numbered_one_counts n (whole_field name number presence whole) = (refl, tt)
  numbered_one_counts n (field_in_parts name number presence exponent mantissa) = (refl, tt)
  numbered_one_counts n (group_of name number presence members) = (refl, numbered_counts (n + 1) members)
  numbered_one_counts n (sequence_of name number presence part members) = (refl, numbered_counts (n + 1) members)

  pub numbered_counts : (n : ℕ) (is : Instructions) → CountsOn n (rows_of (numbered n is))
  numbered_counts n no_instructions = tt
  numbered_counts n (then_instruction i is) =
      counts_both n (n + size_of_one i) (rows_of_one (numbered_one n i)) (rows_of (numbered (n + size_of_one i) is)) (numbered_one_counts n i) (ap (λ k. n + k) (as_many_of_one (numbered_one n i) ∙ numbered_size_of_one n i)) (numbered_counts (n + size_of_one i) is)

  pub numbered_size_of_one : (n : ℕ) (i : Instruction) → size_of_one (numbered_one n i) ≡ size_of_one i
  numbered_size_of_one n (whole_field name number presence whole) = refl
  numbered_size_of_one n (field_in_parts name number presence exponent mantissa) = refl
  numbered_size_of_one n (group_of name number presence members) = ap (λ k. 1 + k) (numbered_size (n + 1) members)
  numbered_size_of_one n (sequence_of name number presence part members) = ap (λ k. 1 + k) (numbered_size (n + 1) members)

  pub numbered_size : (n : ℕ) (is : Instructions) → size_of (numbered n is) ≡ size_of is
  numbered_size n no_instructions = refl
  numbered_size n (then_instruction i is) = grind (arith, numbered_size_of_one n i, numbered_size (n + size_of_one i) is)

pub by_number : (members : Instructions) → IsNumbered members → CountsOn 1 (rows_of members)
by_number members h = subst (λ is. CountsOn 1 (rows_of is)) h (numbered_counts 1 members)
