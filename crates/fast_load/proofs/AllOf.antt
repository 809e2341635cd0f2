-- What holds of each element of two lists, and of both together.
use Rattle.fast_load.proofs.Common.{List, [], ◌∷◌, ◌++◌, AllByRecursion}

module _ {A : Type 0} (P : A → Type 0) where
  pub all_of_both : (xs ys : List A) → AllByRecursion P xs → AllByRecursion P ys → AllByRecursion P (xs ++ ys)
  all_of_both [] ys a b = b
  all_of_both (x ∷ xs) ys a b = (a.0, all_of_both xs ys a.1 b)

  pub all_of_front : (xs ys : List A) → AllByRecursion P (xs ++ ys) → AllByRecursion P xs
  all_of_front [] ys all = tt
  all_of_front (x ∷ xs) ys all = (all.0, all_of_front xs ys all.1)

  pub all_of_back : (xs ys : List A) → AllByRecursion P (xs ++ ys) → AllByRecursion P ys
  all_of_back [] ys all = all
  all_of_back (x ∷ xs) ys all = all_of_back xs ys all.1
