pub use Rattle.sizes.specs.declared.TheConstants.{FRAME_UNITS, LAST_SPACE, LINE_BYTES, PAGE_END, PAGE_LINES}
pub use Rattle.std.proofs.Common.{Bool, IfSome, IsSome, IsTrue, List, None, Option, Some, [], ap, ap₂, arith, cond, drop, false, get_or, inl, inr, is_some, length, nat_cmp, nat_eq, nat_lt, not, option_map, pow_pos, refl, replicate, slice_index_or, slice_set, subst, suc, sym, take, true, true≢false, zero, ℕ, ◌%◌, ◌&&◌, ◌*◌, ◌++◌, ◌+◌, ◌-◌, ◌<◌, ◌^◌, ◌||◌, ◌∙◌, ◌∷◌, ◌≡◌, ◌≤◌, ◌⊎◌}
pub use Rattle.std.proofs.lemmas.Bool.{cases_eq, cases_lt, and_parts, or_parts, and_right, cases_cond}
pub use Rattle.std.proofs.lemmas.Bool.Decides.{nat_tests}
pub use Rattle.std.proofs.lemmas.List.{get_or-replicate, get_or-set_other, get_or-set_same}
pub use Rattle.std.proofs.lemmas.Option.{none-some, same_Some}
pub use Rattle.std.specs.FinMap.{FinMap, empty, get, get-empty, len, remove}
pub use Rattle.std.specs.Option.{option_and_then, option_map_or}
pub use Rattle.std.specs.Prelude.{Err, Ok, OnErr, OnOk, Result}

-- What proofs here use of std and of the sizes.
