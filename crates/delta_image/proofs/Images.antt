use Rattle.std.proofs.Common.{◌≡◌, ℕ, ◌^◌, ◌<◌, ◌≤◌, List, [], ◌++◌, length, drop, sym, ap, ◌∙◌, arith, append_assoc}
use Rattle.std.specs.Prelude.{IfOk, Result, Ok, Err, Some}
use Rattle.std.specs.Int.{w32, to_le_bytes}
use Rattle.std.specs.List.{AllByRecursion}
use Rattle.std.proofs.lemmas.List.{append-nil}
use Rattle.sizes.specs.declared.TheConstants.{MOST_SPACE_PAGES}
use Rattle.ovl_io.specs.declared.process_state.ProcessState.{ProcessState}
use Rattle.rv_execute.specs.Registers.{Registers}
use Rattle.delta_image.specs.declared.delta.Delta.{Delta}
use Rattle.delta_image.specs.declared.encoding.TheConstants.{MAGIC}
use Rattle.delta_image.specs.declared.image_error.ImageError.{ImageError}
use Rattle.delta_image.specs.declared.image_error.ImageError.TheVariants.{BadImage, Memory}
use Rattle.delta_image.specs.Image.{image_of, pages_part, registers_part, state_part}
use Rattle.delta_image.specs.Fine.{AreRegisters, Ascend, HasLines, IsImageOf, IsPlain, IsState}
use Rattle.delta_image.specs.Decoding.{AreManyPages, Decodes, DecodesAlone}
use Rattle.delta_image.specs.Said.{SaysDelta}
use Rattle.delta_image.specs.SaidLaws.{says_delta, says_none}
use Rattle.delta_image.proofs.Numbers.{one32}
use Rattle.delta_image.proofs.Pages.{with_lines, without_lines}
use Rattle.delta_image.proofs.Registers.{one_registers}
use Rattle.delta_image.proofs.States.{one_state}

-- An image as a whole.

-- what stands behind the registers, and behind the state
abbrev pub behind_registers : Delta → List ℕ
behind_registers delta = to_le_bytes w32 (length delta.pages) ++ pages_part delta.pages

abbrev pub behind_state : Delta → List ℕ
behind_state delta = registers_part delta.regs ++ behind_registers delta

pub image_split : (delta : Delta) → image_of delta ≡ MAGIC ++ (state_part delta.state ++ behind_state delta)
image_split delta = simp append_assoc

-- What is left of an image behind each part that was read.

pub to_state : (bytes r : List ℕ) (delta : Delta) → bytes ≡ MAGIC ++ r → IsImageOf bytes delta → r ≡ state_part delta.state ++ behind_state delta
to_state bytes r delta begins is = ap (drop 4) (sym begins ∙ is.1 ∙ image_split delta)

pub to_registers : (bytes r r1 : List ℕ) (s : ProcessState) (delta : Delta) → bytes ≡ MAGIC ++ r → IsState s × (r ≡ state_part s ++ r1) → IsImageOf bytes delta
    → (s ≡ delta.state) × (r1 ≡ behind_state delta)
to_registers bytes r r1 s delta begins state is =
    one_state s delta.state r1 (behind_state delta) state.0 is.0.state (sym state.1 ∙ to_state bytes r delta begins is)

pub to_count : (bytes r r1 r2 : List ℕ) (s : ProcessState) (regs : Registers) (delta : Delta) → bytes ≡ MAGIC ++ r → IsState s × (r ≡ state_part s ++ r1)
    → AreRegisters regs × (r1 ≡ registers_part regs ++ r2) → IsImageOf bytes delta → r2 ≡ behind_registers delta
to_count bytes r r1 r2 s regs delta begins state registers is =
    (one_registers regs delta.regs r2 (behind_registers delta) registers.0 is.0.regs
    (sym registers.1 ∙ (to_registers bytes r r1 s delta begins state is).1)).1

pub to_pages : (bytes r r1 r2 r3 : List ℕ) (s : ProcessState) (regs : Registers) (n : ℕ) (delta : Delta) → bytes ≡ MAGIC ++ r
    → IsState s × (r ≡ state_part s ++ r1) → AreRegisters regs × (r1 ≡ registers_part regs ++ r2) → (n < 2 ^ 32) × (r2 ≡ to_le_bytes w32 n ++ r3)
    → IsImageOf bytes delta → (n ≡ length delta.pages) × (r3 ≡ pages_part delta.pages)
to_pages bytes r r1 r2 r3 s regs n delta begins state registers count is =
    one32 n (length delta.pages) r3 (pages_part delta.pages) count.0 (omega (arith, is.0.few))
    (sym count.1 ∙ to_count bytes r r1 r2 s regs delta begins state registers is)

-- an image that was read to its end
pub read_image : (bytes r r1 r2 r3 rest : List ℕ) (delta : Delta) (n : ℕ) → bytes ≡ MAGIC ++ r → IsState delta.state × (r ≡ state_part delta.state ++ r1)
    → AreRegisters delta.regs × (r1 ≡ registers_part delta.regs ++ r2) → (n < 2 ^ 32) × (r2 ≡ to_le_bytes w32 n ++ r3) → n ≤ MOST_SPACE_PAGES
    → AreManyPages n delta.pages × (r3 ≡ pages_part delta.pages ++ rest) → rest ≡ [] → IsImageOf bytes delta
read_image bytes r r1 r2 r3 rest delta n begins state registers count few pages ended =
    let behind : r3 ≡ pages_part delta.pages = pages.1 ∙ ap (λ (t : List ℕ). pages_part delta.pages ++ t) ended ∙ append-nil (pages_part delta.pages) in (
      record { state = state.0; regs = registers.0; few = omega (arith, few, pages.0.0); pages = pages.0.1 },
      begins ∙ ap (λ (t : List ℕ). MAGIC ++ t) (state.1 ∙ ap (λ (t : List ℕ). state_part delta.state ++ t)
          (registers.1 ∙ ap (λ (t : List ℕ). registers_part delta.regs ++ t) (count.1
          ∙ (λ i. to_le_bytes w32 (sym pages.0.0 i) ++ behind i)))) ∙ sym (image_split delta),
    )

-- an image that was put part by part
pub put_image : (delta : Delta) (one two three four five : List ℕ) (n : ℕ) → IsState delta.state → AreRegisters delta.regs → length delta.pages ≤ MOST_SPACE_PAGES
    → Ascend IsPlain 0 delta.pages → AllByRecursion HasLines delta.pages → one ≡ MAGIC → two ≡ one ++ state_part delta.state
    → three ≡ two ++ registers_part delta.regs → four ≡ three ++ to_le_bytes w32 n → n ≡ length delta.pages → five ≡ four ++ pages_part delta.pages
    → IsImageOf five delta
put_image delta one two three four five n state regs few plain whole first second third fourth same fifth =
    let joined : five ≡ (((MAGIC ++ state_part delta.state) ++ registers_part delta.regs) ++ to_le_bytes w32 (length delta.pages)) ++ pages_part delta.pages =
    fifth ∙ ap (λ (t : List ℕ). t ++ pages_part delta.pages) (fourth ∙ (λ i. third i ++ to_le_bytes w32 (same i))
    ∙ ap (λ (t : List ℕ). (t ++ registers_part delta.regs) ++ to_le_bytes w32 (length delta.pages)) (second ∙ ap (λ (t : List ℕ). t ++ state_part delta.state) first)) in
    let grouped : (((MAGIC ++ state_part delta.state) ++ registers_part delta.regs) ++ to_le_bytes w32 (length delta.pages)) ++ pages_part delta.pages ≡ image_of delta =
    simp append_assoc in
    (record { state = state; regs = regs; few = few; pages = with_lines 0 delta.pages plain whole }, joined ∙ grouped)

-- No two fine deltas have one image.
pub one_image : (bytes : List ℕ) (a b : Delta) → IsImageOf bytes a → IsImageOf bytes b → a ≡ b
one_image bytes a b one other =
    let same : Some a ≡ Some b = sym (says_delta bytes a one) ∙ says_delta bytes b other in
    cc

pub decodes_alone : (bytes : List ℕ) (r : Result Delta ImageError) → Decodes bytes r → DecodesAlone bytes r
decodes_alone bytes (Ok delta) is = λ other h. one_image bytes other delta h is
decodes_alone bytes (Err error) is = tt

-- What is decoded is what the bytes say.
pub decodes_said : (bytes : List ℕ) (r : Result Delta ImageError) → Decodes bytes r → SaysDelta bytes r
decodes_said bytes (Ok delta) is = says_delta bytes delta is
decodes_said bytes (Err BadImage) none = says_none bytes none
decodes_said bytes (Err Memory) none = tt

-- What is decoded may be encoded.

pub decodes_few : (bytes : List ℕ) (r : Result Delta ImageError) → Decodes bytes r → IfOk r (λ delta. length delta.pages ≤ MOST_SPACE_PAGES)
decodes_few bytes (Ok delta) is = is.0.few
decodes_few bytes (Err error) is = tt

pub decodes_pages : (bytes : List ℕ) (r : Result Delta ImageError) → Decodes bytes r → IfOk r (λ delta. Ascend IsPlain 0 delta.pages)
decodes_pages bytes (Ok delta) is = without_lines 0 delta.pages is.0.pages
decodes_pages bytes (Err error) is = tt
