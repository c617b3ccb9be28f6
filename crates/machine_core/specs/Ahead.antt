use Rattle.std.specs.Prelude.{ℕ, zero, suc}
use Rattle.translation_cache.specs.Bare.{BareTranslations}
use Rattle.translation_cache.specs.Translations.{with_hits}
use Rattle.machine_core.specs.Turns.{Guest, with_translations}

-- Hits that are still to be counted.

-- the lists with so many more, one by one
unfoldable pub ahead : ℕ → BareTranslations → BareTranslations
ahead zero t = t
ahead (suc n) t = with_hits 1 (ahead n t)

abbrev pub guest_ahead : ℕ → Guest → Guest
guest_ahead n guest = with_translations (ahead n guest.translations) guest
