pub use Rattle.sizes.specs.declared.TheConstants.{FRAME_UNITS, LAST_SPACE, MOST_FRAMES, PAGE_END, PAGE_LINES}
pub use Rattle.std.proofs.Common.{Bool, Err, IfOk, IfSome, IsSome, List, None, Ok, OnErr, OnOk, Option, Result, Some, [], ap, arith, cond, false, inl, inr, is_some, length, nat_cmp, nat_eq, nat_le, nat_lt, not, option_and_then, option_map, refl, subst, subst₂, suc, sym, true, zero, ℕ, ◌&&◌, ◌*◌, ◌+◌, ◌-◌, ◌<◌, ◌==◌, ◌^◌, ◌||◌, ◌∙◌, ◌∷◌, ◌≡◌, ◌≤◌, ◌⊎◌}
pub use Rattle.std.proofs.lemmas.Bool.Decides.{nat_tests}
pub use Rattle.std.proofs.lemmas.List.{length-set}
pub use Rattle.std.proofs.lemmas.Option.{none-some, same_Some}
pub use Rattle.std.specs.Cmp.{nat_cmp_total}
pub use Rattle.std.specs.FinMap.{FinMap, empty, empty_of_len, get, get-empty, get-retain_keys, insert, len, len-empty, len-insert, len-remove, nat_cmp-IsAntisymmetric, remove}
pub use Rattle.std.specs.Option.{option_map_or}

-- What proofs here use of std and of the sizes.
