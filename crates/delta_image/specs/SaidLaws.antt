use Rattle.std.proofs.Common.{◌≡◌, ℕ, ◌+◌, ◌≤◌, ◌^◌, Bool, List, [], ◌∷◌, ◌++◌, length, drop, take, refl, sym, ap, subst, ◌∙◌, arith, append_assoc}
use Rattle.std.specs.Prelude.{Some, None, nat_le, slice_index}
use Rattle.std.specs.Bool.{Decides}
use Rattle.std.specs.Int.{w32, to_le_bytes}
use Rattle.std.specs.List.{AllByRecursion, list_all}
use Rattle.std.proofs.lemmas.Bool.{cond-true, cond_both, le-leb, leb-true}
use Rattle.std.proofs.lemmas.Bool.Decides.{Decides-and, Decides-eqb, Decides-like, Decides-ltb}
use Rattle.std.proofs.lemmas.List.{append-nil, drop_at, take_at}
use Rattle.std.proofs.lemmas.Nat.{from_le_bytes-to_le_bytes_4, from_le_bytes-to_le_bytes_8}
use Rattle.std.proofs.lemmas.Option.{cond_some}
use Rattle.std.proofs.lemmas.Slice.Eq.{bytes_eq-Decides}
use Rattle.sizes.specs.declared.TheConstants.{LINE_BYTES, MOST_SPACE_PAGES, PAGE_END, PAGE_LINES}
use Rattle.overlay_bits.specs.Kept.{lines_of_word, word_of}
use Rattle.overlay_bits.specs.Lines.{Rise}
use Rattle.ovl_io.specs.declared.process_state.FaultKind.{FaultKind}
use Rattle.ovl_io.specs.declared.process_state.FaultKind.TheVariants.{Align, Fetch, Illegal, Load, Store, Break}
use Rattle.ovl_io.specs.declared.process_state.ProcessState.{ProcessState}
use Rattle.ovl_io.specs.declared.process_state.ProcessState.TheVariants.{Running, Exited, Faulted}
use Rattle.rv_execute.specs.Registers.{Registers}
use Rattle.delta_image.specs.declared.delta.Delta.{Delta}
use Rattle.delta_image.specs.declared.delta.DeltaPage.{DeltaPage}
use Rattle.delta_image.specs.declared.encoding.TheConstants.{MAGIC}
use Rattle.delta_image.specs.Line.{Line, IsLine, numbers_of}
use Rattle.delta_image.specs.Image.{head_part, image_of, kind_code, lines_part, page_part, pages_part, register_numbers, registers_part, state_part, words_part}
use Rattle.delta_image.specs.Fine.{AreRegisters, Ascend, IsFine, IsImageOf, IsPage, IsPlain, IsState, IsWord}
use Rattle.delta_image.specs.LengthLaws.{registers_length}
use Rattle.delta_image.specs.VectorLaws.{numbers_back, word_fits}
use Rattle.delta_image.specs.FineTest.{are_registers, do_ascend, do_rise, is_fine, is_line, is_page, is_plain, is_state, is_word}
use Rattle.delta_image.specs.Said.{all_pages_in, behind_state, delta_in, delta_of, is_image_of, kind_in, lines_in, page_in, pages_in, registers_in, state_in, words_in}

-- The delta of an image, in the words of images.

-- What stands in the part of a value is that value, whatever stands behind it.

kind_back : (kind : FaultKind) → kind_in (kind_code kind) ≡ kind
kind_back Align = refl
kind_back Fetch = refl
kind_back Illegal = refl
kind_back Load = refl
kind_back Store = refl
kind_back Break = refl

state_back : (state : ProcessState) (r : List ℕ) → IsState state → state_in (state_part state ++ r) ≡ state
state_back Running r is = refl
state_back (Exited code) r is = refl
state_back (Faulted kind address) r is = λ i. Faulted (kind_back kind i) (from_le_bytes-to_le_bytes_8 address is i)

state_passed : (state : ProcessState) (r : List ℕ) → IsState state → behind_state (state_part state ++ r) ≡ r
state_passed state r is =
    ap (λ s. drop (length (state_part s)) (state_part state ++ r)) (state_back state r is) ∙ drop_at (state_part state) r (length (state_part state)) refl

words_back : (words r : List ℕ) → AllByRecursion IsWord words → words_in (length words) (words_part words ++ r) ≡ words
unfolding words_in
words_back [] r all = refl
words_back (word ∷ words) r all = λ i. from_le_bytes-to_le_bytes_8 word all.0 i ∷ words_back words r all.1 i

registers_back : (regs : Registers) (r : List ℕ) → AreRegisters regs → registers_in (registers_part regs ++ r) ≡ regs
unfolding registers_in
registers_back regs r are =
    λ i. record { pc = from_le_bytes-to_le_bytes_8 regs.pc are.words.0 i; x = at regs.x are.count are.zero are.words.1 i }
  where
    at : (x : List ℕ) → length x ≡ 32 → slice_index x 0 ≡ 0 → AllByRecursion IsWord (drop 1 x) → 0 ∷ words_in 31 (words_part (drop 1 x) ++ r) ≡ x
    at [] count none words = absurd (omega (arith, count))
    at (y ∷ ys) count none words =
        let many : 31 ≡ length ys = omega (arith, count) in
        let rest = ap (λ n. words_in n (words_part ys ++ r)) many ∙ words_back ys r words in
        λ i. sym none i ∷ rest i

lines_back : (lines : List Line) (r : List ℕ) → AllByRecursion IsLine lines → lines_in (numbers_of lines) (lines_part lines ++ r) ≡ lines
lines_back [] r all = refl
lines_back (line ∷ lines) r all =
    let rest = lines_part lines ++ r in
    let joined = append_assoc line.1 (lines_part lines) r in
    let first = ap (take LINE_BYTES) joined ∙ take_at line.1 rest LINE_BYTES all.0 in
    let behind = ap (drop LINE_BYTES) joined ∙ drop_at line.1 rest LINE_BYTES all.0 in
    let others = ap (lines_in (numbers_of lines)) behind ∙ lines_back lines r all.1 in
    λ i. (line.0, first i) ∷ others i

page_back : (page : DeltaPage) (r : List ℕ) → IsPage page → page_in (page_part page ++ r) ≡ page
unfolding page_in head_part
page_back page r is =
    let numbers = numbers_of page.lines in
    let rest = lines_part page.lines ++ r in
    let lines =
    ap (λ word. lines_in (lines_of_word word) rest) (from_le_bytes-to_le_bytes_8 (word_of numbers) (word_fits numbers is.0.rise))
    ∙ ap (λ ns. lines_in ns rest) (numbers_back numbers is.0.rise) ∙ lines_back page.lines r is.1 in
    λ i. record { page = from_le_bytes-to_le_bytes_4 page.page (omega (arith, is.0.low)) i; perms = page.perms; lines = lines i }

pages_back : (from : ℕ) (pages : List DeltaPage) (r : List ℕ) → Ascend IsPage from pages → pages_in (length pages) (pages_part pages ++ r) ≡ pages
pages_back from [] r are = refl
pages_back from (page ∷ pages) r are =
    let bytes = pages_part (page ∷ pages) ++ r in
    let rest = pages_part pages ++ r in
    let joined = append_assoc (page_part page) (pages_part pages) r in
    let first = ap page_in joined ∙ page_back page rest are.1 in
    let behind = ap (λ (p : DeltaPage). drop (length (page_part p)) bytes) first ∙ ap (drop (length (page_part page))) joined
    ∙ drop_at (page_part page) rest (length (page_part page)) refl in
    let others = ap (pages_in (length pages)) behind ∙ pages_back (page.page + 1) pages r are.2 in
    λ i. first i ∷ others i

-- So the delta of an image is what stands in it.
delta_back : (delta : Delta) → IsFine delta → delta_in (image_of delta) ≡ delta
unfolding delta_in
delta_back delta fine = ap delta_in grouped ∙ at
  where
    pages : List ℕ
    pages = to_le_bytes w32 (length delta.pages) ++ pages_part delta.pages

    grouped : image_of delta ≡ MAGIC ++ (state_part delta.state ++ (registers_part delta.regs ++ pages))
    grouped = simp append_assoc

    at : delta_in (MAGIC ++ (state_part delta.state ++ (registers_part delta.regs ++ pages))) ≡ delta
    at =
        let behind = state_passed delta.state (registers_part delta.regs ++ pages) fine.state in
        let regs = ap registers_in behind ∙ registers_back delta.regs pages fine.regs in
        let rest = ap (drop 256) behind ∙ drop_at (registers_part delta.regs) pages 256 (registers_length delta.regs fine.regs.count) in
        let count = from_le_bytes-to_le_bytes_4 (length delta.pages) (omega (arith, fine.few)) in
        let all = ap all_pages_in rest ∙ ap (λ n. pages_in n (pages_part delta.pages)) count
        ∙ ap (pages_in (length delta.pages)) (sym (append-nil (pages_part delta.pages))) ∙ pages_back 0 delta.pages [] fine.pages in
        λ i. record { state = state_back delta.state (registers_part delta.regs ++ pages) fine.state i; regs = regs i; pages = all i }

-- What the tests tell.

le_tells : (m n : ℕ) → Decides (nat_le m n) (m ≤ n)
le_tells m n = (leb-true m n, le-leb m n)

all_tells : {X : Type 0} (test : X → Bool) (P : X → Type 0) → ((x : X) → Decides (test x) (P x)) → (xs : List X) → Decides (list_all test xs) (AllByRecursion P xs)
all_tells test P each [] = (λ _. tt, λ _. refl)
all_tells test P each (x ∷ xs) = Decides-and _ _ (each x) (all_tells test P each xs)

word_tells : (n : ℕ) → Decides (is_word n) (IsWord n)
word_tells n = Decides-ltb n (2 ^ 64)

state_tells : (state : ProcessState) → Decides (is_state state) (IsState state)
state_tells Running = (λ _. tt, λ _. refl)
state_tells (Exited code) = (λ _. tt, λ _. refl)
state_tells (Faulted kind address) = word_tells address

registers_tell : (regs : Registers) → Decides (are_registers regs) (AreRegisters regs)
registers_tell regs =
    Decides-like (are_registers regs) (λ are. record { count = are.0.0; zero = are.0.1; words = are.1 }) (λ are. ((are.count, are.zero), are.words))
    (Decides-and _ _ (Decides-and _ _ (Decides-eqb (length regs.x) 32) (Decides-eqb (slice_index regs.x 0) 0)) (all_tells is_word IsWord word_tells (register_numbers regs)))

rise_tells : (from : ℕ) (xs : List ℕ) (end : ℕ) → Decides (do_rise from xs end) (Rise from xs end)
rise_tells from [] end = le_tells from end
rise_tells from (x ∷ xs) end = Decides-and _ _ (le_tells from x) (rise_tells (x + 1) xs end)

plain_tells : (page : DeltaPage) → Decides (is_plain page) (IsPlain page)
plain_tells page =
    Decides-like (is_plain page) (λ is. record { low = is.0.0; perms = is.0.1; rise = is.1 }) (λ is. ((is.low, is.perms), is.rise))
    (Decides-and _ _ (Decides-and _ _ (Decides-ltb page.page PAGE_END) (λ may. may, λ may. may)) (rise_tells 0 (numbers_of page.lines) PAGE_LINES))

page_tells : (page : DeltaPage) → Decides (is_page page) (IsPage page)
page_tells page = Decides-and _ _ (plain_tells page) (all_tells is_line IsLine (λ line. Decides-eqb (length line.1) LINE_BYTES) page.lines)

ascend_tells : (from : ℕ) (pages : List DeltaPage) → Decides (do_ascend from pages) (Ascend IsPage from pages)
ascend_tells from [] = (λ _. tt, λ _. refl)
ascend_tells from (page ∷ pages) =
    Decides-like (do_ascend from (page ∷ pages)) (λ are. (are.0.0, are.0.1, are.1)) (λ are. ((are.0, are.1), are.2))
    (Decides-and _ _ (Decides-and _ _ (le_tells from page.page) (page_tells page)) (ascend_tells (page.page + 1) pages))

pub fine_tells : (delta : Delta) → Decides (is_fine delta) (IsFine delta)
unfolding is_fine
fine_tells delta =
    Decides-like (is_fine delta) (λ is. record { state = is.0.0.0; regs = is.0.0.1; few = is.0.1; pages = is.1 })
    (λ is. (((is.state, is.regs), is.few), is.pages))
    (Decides-and _ _ (Decides-and _ _ (Decides-and _ _ (state_tells delta.state) (registers_tell delta.regs)) (le_tells (length delta.pages) MOST_SPACE_PAGES))
    (ascend_tells 0 delta.pages))

image_tells : (bytes : List ℕ) (delta : Delta) → Decides (is_image_of bytes delta) (IsImageOf bytes delta)
image_tells bytes delta =
    Decides-like (is_image_of bytes delta) (λ is. (is.0, sym is.1)) (λ is. (is.0, sym is.1))
    (Decides-and _ _ (fine_tells delta) (bytes_eq-Decides (image_of delta) bytes))

-- Bytes are of a delta exactly where they are its image.

pub says_delta : (bytes : List ℕ) (delta : Delta) → IsImageOf bytes delta → delta_of bytes ≡ Some delta
unfolding delta_of
says_delta bytes delta is =
    let same : delta_in bytes ≡ delta = ap delta_in is.1 ∙ delta_back delta is.0 in
    cond-true (is_image_of bytes (delta_in bytes)) (Some (delta_in bytes)) None
    ((image_tells bytes (delta_in bytes)).1 (subst (IsImageOf bytes) (sym same) is))
    ∙ ap Some same

pub is_said : (bytes : List ℕ) (delta : Delta) → delta_of bytes ≡ Some delta → IsImageOf bytes delta
unfolding delta_of
is_said bytes delta e =
    let found = cond_some (is_image_of bytes (delta_in bytes)) (delta_in bytes) delta e in
    subst (IsImageOf bytes) found.1 ((image_tells bytes (delta_in bytes)).0 found.0)

pub delta_of_image : (delta : Delta) → IsFine delta → delta_of (image_of delta) ≡ Some delta
delta_of_image delta fine = says_delta (image_of delta) delta (fine, refl)

-- They are of none exactly where they are the image of none.

pub says_none : (bytes : List ℕ) → ((delta : Delta) → IsImageOf bytes delta → ⊥) → delta_of bytes ≡ None
unfolding delta_of
says_none bytes none =
    cond_both (is_image_of bytes (delta_in bytes)) (Some (delta_in bytes)) None (λ found. found ≡ None)
    (λ passes. absurd (none (delta_in bytes) ((image_tells bytes (delta_in bytes)).0 passes))) (λ fails. refl)

pub none_said : (bytes : List ℕ) → delta_of bytes ≡ None → (delta : Delta) → IsImageOf bytes delta → ⊥
none_said bytes e delta is =
    let same : Some delta ≡ None = sym (says_delta bytes delta is) ∙ e in
    cc
