use Rattle.std.specs.Prelude.{◌≡◌, ℕ, ◌*◌, ◌/◌, true, List, length}
use Rattle.sizes.specs.declared.TheConstants.{LINE_BYTES, PAGE_BYTES}
use Rattle.ovl_io.specs.Memory.{bytes_at}
use Rattle.ovl_io.specs.PageBytes.{page_allows}
use Rattle.ovl_io.specs.Permissions.{executable}
use Rattle.overlay_memory.specs.View.{TranslatedView, state_of, translations_of}
use Rattle.overlay_pages.specs.State.{memory_of}
use Rattle.translation_cache.specs.CountedLaws.{IsFront}

-- The line with the byte at an address: its page may be used so, and is at the front of its list, so an access to it is a hit that moves nothing.
pub record IsFrontLine (view : TranslatedView) (space need address : ℕ) (line : List ℕ) : Type 0 where
  pub may : page_allows (memory_of (state_of view) space) need (address / PAGE_BYTES) ≡ true
  pub front : IsFront space (address / PAGE_BYTES) (translations_of view)
  pub bytes : line ≡ bytes_at (memory_of (state_of view) space) (LINE_BYTES * (address / LINE_BYTES)) LINE_BYTES
  pub long : length line ≡ LINE_BYTES

-- such a line may be fetched from
abbrev pub IsCodeLine : TranslatedView → ℕ → ℕ → List ℕ → Type 0
IsCodeLine view space address line = IsFrontLine view space executable address line
