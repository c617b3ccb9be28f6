use Rattle.std.specs.Prelude.{ℕ, zero, suc, ◌+◌, ◌-◌, ◌*◌, ◌/◌, nat_le, ◌&&◌, List, [], map}
use Rattle.std.specs.List.{filter, range_with_len}
use Rattle.sizes.specs.declared.TheConstants.{LINE_BYTES, PAGE_BYTES, PAGE_LINES}

-- What an access touches.

-- the lines of a page that lie from line `first` to line `last` of the whole memory
unfoldable pub lines_on_page : ℕ → ℕ → ℕ → List ℕ
lines_on_page first last page =
    filter (λ line. nat_le first (PAGE_LINES * page + line) && nat_le (PAGE_LINES * page + line) last) (range_with_len 0 PAGE_LINES)

-- the pages that the bytes from `address` to `last` lie in, each with the lines of it that they lie in
unfoldable pub touched_between : ℕ → ℕ → List (ℕ × List ℕ)
touched_between address last =
    map (λ page. (page, lines_on_page (address / LINE_BYTES) (last / LINE_BYTES) page))
    (range_with_len (address / PAGE_BYTES) (last / PAGE_BYTES + 1 - address / PAGE_BYTES))

-- the same of `count` bytes from `address` on
unfoldable pub touched : ℕ → ℕ → List (ℕ × List ℕ)
touched address zero = []
touched address (suc count) = touched_between address (address + count)
