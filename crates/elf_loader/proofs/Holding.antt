use Rattle.std.proofs.Common.{◌≡◌, ℕ, ◌+◌, ◌-◌, ◌*◌, ◌<◌, ◌≤◌, Bool, true, false, cond, ◌&&◌, leb, ltb, List, length, drop, get_or, arith, sym, ap, ◌∙◌, refl, Option, Some, slice_index}
use Rattle.std.proofs.lemmas.Bool.Decides.{nat_tests}
use Rattle.std.proofs.lemmas.List.{drop_more}
use Rattle.std.specs.Option.{option_map_or}
use Rattle.elf_loader.specs.Image.{file_holds, fills}
use Rattle.elf_loader.specs.Layers.{no_header, last_among}
use Rattle.elf_loader.specs.declared.header.ProgramHeader.{ProgramHeader}

-- Which of some segments is the last to hold an address, and the byte that it gives.

pub or_later : (b : Bool) (header : ProgramHeader) (later else_ : Option ProgramHeader)
    → option_map_or Some (cond b (Some header) later) else_ ≡ cond b (Some header) (option_map_or Some later else_)
or_later true header later else_ = refl
or_later false header later else_ = refl

held : (page address start size : ℕ) → (leb start (4096 * page) && leb (4096 * page + 4096) (start + size)) ≡ true → 4096 * page ≤ address
    → address < 4096 * page + 4096 → (leb start address && ltb address (start + size)) ≡ true
held page address start size fills low high = grind (arith, nat_tests)

-- a header that fills a page holds each address in it
pub held_by : (header : ProgramHeader) (page address : ℕ) → fills page header ≡ true → 4096 * page ≤ address → address < 4096 * page + 4096
    → file_holds header address ≡ true
held_by header page address f low high = held page address header.address header.file_size f low high

-- the file's byte at an address, of the segment that holds it; else 0
abbrev pub byte_by : List ℕ → ℕ → Option ProgramHeader → ℕ
byte_by file address last = option_map_or (λ header. slice_index file (header.offset + (address - header.address))) last 0

chosen : (file : List ℕ) (address : ℕ) (b : Bool) (header : ProgramHeader) (last : Option ProgramHeader)
    → byte_by file address (cond b (Some header) last)
    ≡ cond b (slice_index file (header.offset + (address - header.address))) (byte_by file address last)
chosen file address true header last = refl
chosen file address false header last = refl

-- A page after the bytes of one more segment were laid over those of the ones before it.
pub laid_more : (loads : List ProgramHeader) (layers : List ℕ) (left : ℕ) (file old new : List ℕ) (page : ℕ) → left < length layers
    → ((i : ℕ) → i < 4096 → get_or old i 0 ≡ byte_by file (4096 * page + i) (last_among loads (drop (left + 1) layers) (4096 * page + i)))
    → ((i : ℕ) → i < 4096 → get_or new i 0
    ≡ cond (file_holds (get_or loads (get_or layers left 0) no_header) (4096 * page + i))
    (slice_index file ((get_or loads (get_or layers left 0) no_header).offset + (4096 * page + i - (get_or loads (get_or layers left 0) no_header).address))) (get_or old i 0))
    → (i : ℕ) → i < 4096 → get_or new i 0 ≡ byte_by file (4096 * page + i) (last_among loads (drop left layers) (4096 * page + i))
laid_more loads layers left file old new page within before laid i in_page =
    let header = get_or loads (get_or layers left 0) no_header in
    let address = 4096 * page + i in
    laid i in_page
    ∙ ap (λ (b : ℕ). cond (file_holds header address) (slice_index file (header.offset + (address - header.address))) b) (before i in_page)
    ∙ sym (chosen file address (file_holds header address) header (last_among loads (drop (left + 1) layers) address))
    ∙ ap (λ ls. byte_by file address (last_among loads ls address)) (sym (drop_more layers left 0 within))
