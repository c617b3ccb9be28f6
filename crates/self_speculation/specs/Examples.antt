use Rattle.std.specs.Prelude.{◌≡◌, ◌-◌, ◌^◌, refl}
use Rattle.self_speculation.specs.declared.TheConstants.{NOT_DONE}

-- What a0 says of a request that isn't done, as the checker computes it.

pub not_done_is : NOT_DONE ≡ 2 ^ 64 - 1
not_done_is = refl
