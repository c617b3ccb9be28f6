use Rattle.std.specs.Prelude.{◌≡◌, ℕ, [], ◌∷◌}
use Rattle.std.proofs.Common.{ap, ◌∙◌}
use Rattle.ovl_io.specs.Memory.{Access}
use Rattle.overlay_pages.specs.State.{memory_of}
use Rattle.overlay_memory.specs.View.{TranslatedView, state_of, translations_of}
use Rattle.translation_cache.specs.Bare.{BareTranslations}
use Rattle.translation_cache.specs.Counted.{counted}
use Rattle.translation_cache.specs.Finding.{flushed_twice}
use Rattle.translation_cache.specs.Translations.{flushed}

-- What becomes of the translation lists.

-- they are as they were, but for entries of one space, some of which may have been removed
abbrev pub KeepsOtherTranslations : ℕ → TranslatedView → TranslatedView → Type 0
KeepsOtherTranslations space old new = flushed space (translations_of new) ≡ flushed space (translations_of old)

pub keeps_flushed : (space : ℕ) (old new : TranslatedView) → translations_of new ≡ flushed space (translations_of old) → KeepsOtherTranslations space old new
keeps_flushed space old new is = ap (flushed space) is ∙ flushed_twice space (translations_of old)

abbrev pub access_at : ℕ → ℕ → ℕ → Access
access_at need address length = record { need = need; address = address; length = length }

-- after an access of a space
abbrev pub after_access : TranslatedView → ℕ → Access → BareTranslations
after_access view space access = counted space (memory_of (state_of view) space) (access ∷ []) (translations_of view)
