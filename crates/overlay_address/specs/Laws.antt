use Rattle.std.proofs.Common.{◌+◌, ◌≡◌, ℕ, ◌^◌, ◌<◌, sym, ap, ◌∙◌, refl, arith}
use Rattle.overlay_address.specs.Names.{overlay_page, page_of, space_of, IsName}

-- Laws of the names of overlays, for the crates above.

-- a name has the space and the page that it was made of
pub space_back : (space page : ℕ) → space < 2 ^ 15 → page < 2 ^ 36 → space_of (overlay_page space page) ≡ space
space_back space page few low = omega (arith, few, low)

pub page_back : (space page : ℕ) → space < 2 ^ 15 → page < 2 ^ 36 → page_of (overlay_page space page) ≡ page
page_back space page few low = omega (arith, few, low)

-- so it is a name
pub is_name : (space page : ℕ) → space < 2 ^ 15 → page < 2 ^ 36 → IsName (overlay_page space page)
is_name space page few low = omega (arith, space_back space page few low, page_back space page few low)

-- pages that have one name are of one space, and are one page
pub same_space : (s p t q : ℕ) → s < 2 ^ 15 → p < 2 ^ 36 → t < 2 ^ 15 → q < 2 ^ 36 → overlay_page s p ≡ overlay_page t q → s ≡ t
same_space s p t q fs lp ft lq same = sym (space_back s p fs lp) ∙ ap space_of same ∙ space_back t q ft lq

pub same_page : (s p t q : ℕ) → s < 2 ^ 15 → p < 2 ^ 36 → t < 2 ^ 15 → q < 2 ^ 36 → overlay_page s p ≡ overlay_page t q → p ≡ q
same_page s p t q fs lp ft lq same = sym (page_back s p fs lp) ∙ ap page_of same ∙ page_back t q ft lq

-- an example: the address of byte 64 of page 16 of space 1 is 0x8001000000010040
example : overlay_page 1 16 + 64 ≡ 9223653511831552064
example = refl
