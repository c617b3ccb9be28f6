use Rattle.std.proofs.Common.{◌≡◌, None, take}
use Rattle.translation_cache.specs.Translations.{found_in}
use Rattle.translation_cache.proofs.entries.Entries.place.Given as goal

abbrev pub invariant-looking : goal.invariant-looking
invariant-looking l = found_in l.space l.page (take l.at l.entry-items) ≡ None
