use Rattle.std.specs.Prelude.{◌≡◌, refl}
use Rattle.translation_cache.specs.declared.TheConstants.{SETS, SET_ENTRIES}

-- The sizes of the translation lists as numbers: 16 sets of 4 entries.

pub sets_is : SETS ≡ 16
sets_is = refl

pub set_entries_is : SET_ENTRIES ≡ 4
set_entries_is = refl
