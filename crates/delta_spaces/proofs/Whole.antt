use Rattle.std.specs.Prelude.{◌≡◌, ℕ, ◌+◌, ◌*◌, ◌≤◌, List, [], ◌∷◌, length, map}
use Rattle.std.proofs.Common.{sym, ap, subst, ◌∙◌, arith}
use Rattle.std.proofs.lemmas.List.{length-map}
use Rattle.std.specs.FinMap.{entries, len, len-entries}
use Rattle.number_maps.specs.Views.{entries_viewed, len_viewed}
use Rattle.sizes.specs.declared.TheConstants.{LINE_BYTES, MOST_SPACE_PAGES}
use Rattle.ovl_io.specs.Memory.{Memory, Page}
use Rattle.ovl_io.specs.PageBytes.{IsMemory}
use Rattle.ovl_io.specs.declared.process_state.ProcessState.{ProcessState}
use Rattle.rv_execute.specs.Registers.{Registers}
use Rattle.space_maps.specs.Spaces.{space_in}
use Rattle.overlay_pages.specs.State.{PageState, State, memory_of, seen_page}
use Rattle.overlay_pages.specs.Lines.{bytes_in_lines}
use Rattle.delta_image.specs.declared.delta.DeltaPage.{DeltaPage}
use Rattle.delta_image.specs.declared.encoding.TheConstants.{PAGE_HEAD_BYTES}
use Rattle.delta_image.specs.Applied.{base_bytes, gathered, gathered_page}
use Rattle.delta_image.specs.AppliedLaws.{gathered_ascend, lines_whole}
use Rattle.delta_image.specs.Fine.{Ascend, IsPage, IsPlain}
use Rattle.delta_image.specs.Image.{image_of, registers_part, state_part}
use Rattle.delta_image.specs.LengthLaws.{AreWhole, length_of_parts, line_count}
use Rattle.delta_spaces.specs.Gathered.{HasFitPages, gathered_pages}
use Rattle.overlay_pages.specs.LineLaws.{byte_count}

-- A delta that is gathered: how long its image is, and that it may be encoded.

each_whole : (base : Memory) (es : List (ℕ × PageState)) → AreWhole (map (λ (e : ℕ × Page). gathered_page base e.0 e.1) (map (λ (e : ℕ × PageState). (e.0, seen_page e.1)) es))
each_whole base [] = tt
each_whole base (e ∷ es) = (lines_whole (bytes_in_lines e.1.lines) (base_bytes base e.0) (byte_count e.1.lines), each_whole base es)

gathered_whole : (v : State) (space : ℕ) (base : Memory) → AreWhole (gathered_pages (memory_of v space) base)
unfolding memory_of
gathered_whole v space base =
    subst (λ (es : List (ℕ × Page)). AreWhole (map (λ (e : ℕ × Page). gathered_page base e.0 e.1) es)) (sym (entries_viewed (λ _ (x : PageState). seen_page x) (space_in v space).pages))
    (each_whole base (entries (space_in v space).pages))

pub many_gathered : (memory base : Memory) → length (gathered_pages memory base) ≡ len memory
many_gathered memory base = length-map (entries memory) (λ (e : ℕ × Page). gathered_page base e.0 e.1) ∙ sym (len-entries memory)

seen_len : (v : State) (space : ℕ) → len (memory_of v space) ≡ len (space_in v space).pages
unfolding memory_of
seen_len v space = len_viewed (λ _ (x : PageState). seen_page x) (space_in v space).pages

pub length_is : (v : State) (space : ℕ) (base : Memory) (state : ProcessState) (regs : Registers) (pages lines n : ℕ) → pages ≡ len (space_in v space).pages
    → lines ≡ line_count (gathered_pages (memory_of v space) base)
    → n ≡ length (state_part state) + length (registers_part regs) + 8 + PAGE_HEAD_BYTES * pages + LINE_BYTES * lines → n ≡ length (image_of (gathered state regs (memory_of v space) base))
length_is v space base state regs pages lines n pages_are lines_are is =
    let parts = length_of_parts (gathered state regs (memory_of v space) base) (gathered_whole v space base) in
    let many = many_gathered (memory_of v space) base ∙ seen_len v space in
    omega (arith, pages_are, lines_are, is, parts, many)

-- Pages that fit.

plain_all : (from : ℕ) (pages : List DeltaPage) → Ascend IsPage from pages → Ascend IsPlain from pages
plain_all from [] ascend = tt
plain_all from (p ∷ ps) ascend = (ascend.0, ascend.1.0, plain_all (p.page + 1) ps ascend.2)

pub fit_ascend : (memory base : Memory) (pages : List DeltaPage) → pages ≡ gathered_pages memory base → IsMemory memory → HasFitPages memory → Ascend IsPlain 0 pages
fit_ascend memory base pages is whole fit = subst (Ascend IsPlain 0) (sym is) (plain_all 0 (gathered_pages memory base) (gathered_ascend memory base whole fit.perms))

pub fit_few : (memory base : Memory) (pages : List DeltaPage) → pages ≡ gathered_pages memory base → HasFitPages memory → length pages ≤ MOST_SPACE_PAGES
fit_few memory base pages is fit =
    let many = many_gathered memory base in let same = ap (λ (ps : List DeltaPage). length ps) is in let few = fit.few in omega (arith, many, same, few)
