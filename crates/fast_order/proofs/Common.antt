-- What the proofs of this crate cite from elsewhere, passed on from one place. Declares nothing.
pub use Rattle.std.proofs.Common.{Bool, IsTrue, List, MatchOption, None, Option, Some, Vec, [], ap, arith, drop, false, get_or, inl, inr, length, refl, rules, set, slice_get, subst, suc, sym, take, true, zero, ℕ, ◌++◌, ◌+◌, ◌-◌, ◌<◌, ◌↔◌, ◌∙◌, ◌∷◌, ◌≡◌, ◌≢◌, ◌≤◌, ◌⊎◌}
pub use Rattle.std.proofs.lemmas.Bool.{cases_eq, cases_lt}
pub use Rattle.std.proofs.lemmas.List.{length-set, length-take, take_all, take_more}
pub use Rattle.std.proofs.lemmas.Option.{get_or_from_slice_get, slice_get-get_or, slice_get_read, slice_get_within}
pub use Rattle.std.specs.Option.{option_map_or}
pub use Rattle.std.specs.declared.alloc.Global.{Global}
pub use Rattle.fast_order.specs.Order.{AreWithin, IsFirstOnCycle, IsOrder, IsReference, Reaches, further, one}
pub use Rattle.fast_order.specs.Search.{Advances, IsDone, IsFollowed, IsNow, Joins, KeepsSeen, NoneStarts, Stands, State, ToCome, closed, entered, path_steps, row_length, set_all, state_of, steps_left, unseen_steps, visiting}
pub use Rattle.fast_order.specs.declared.order.Mark.{Mark}
pub use Rattle.fast_order.specs.declared.order.Mark.TheVariants.{Done, Open, Unseen}
pub use Rattle.fast_order.specs.declared.order.Visit.{Visit}
