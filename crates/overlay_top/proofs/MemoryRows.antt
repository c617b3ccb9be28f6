use Rattle.std.proofs.Common.{◌≡◌, ℕ, zero, suc, ◌+◌, ◌-◌, ◌*◌, ◌/◌, ◌<◌, ◌≤◌, Bool, List, [], ◌++◌, append_assoc, append-nil, ap, sym, ◌∙◌, refl, arith, inl, inr, Option, Some, None, Result, Ok}
use Rattle.std.proofs.lemmas.Bool.{cases_lt}
use Rattle.std.specs.Prelude.{min}
use Rattle.ovl_io.specs.Memory.{Memory, bytes_at, first_denied}
use Rattle.ovl_io.specs.MemoryLaws.{denied_back, denied_front}
use Rattle.machine_core.specs.Process.{Process}
use Rattle.report_text.specs.declared.TheConstants.{ROW_BYTES}
use Rattle.report_text.specs.declared.answer.Code.{Code}
use Rattle.report_text.specs.Lines.{dump_line}
use Rattle.command_core.specs.declared.TheConstants.{WORD_BYTES}
use Rattle.command_core.specs.Commands.{disasm_row, disasm_text, dump_from, dump_text}
use Rattle.command_core.specs.Looks.{look_denied, look_of}
use Rattle.overlay_top.specs.Printing.{Sees}
use Rattle.overlay_top.specs.declared.printing.TheConstants.{READ_BYTES}

-- Bytes that were looked at, and parts of them.

none_denied : (o : Option ℕ) → ◌≡◌ {A = Result (Unit {0}) Code} (look_denied o) (Ok tt) → o ≡ None
none_denied None looks = refl
none_denied (Some at) looks = cc

front_none_at : (memory : Memory) (address n k : ℕ) (o : Option ℕ) → first_denied memory 0 address n ≡ o → first_denied memory 0 address (n + k) ≡ None → o ≡ None
front_none_at memory address n k None is none = refl
front_none_at memory address n k (Some x) is none = let some = denied_front memory 0 address n k x is in cc

front_none : (memory : Memory) (address n left : ℕ) → n ≤ left → first_denied memory 0 address left ≡ None → first_denied memory 0 address n ≡ None
front_none memory address n left within none =
    let all : n + (left - n) ≡ left = omega (arith, within) in
    front_none_at memory address n (left - n) (first_denied memory 0 address n) refl (ap (first_denied memory 0 address) all ∙ none)

rest_none : (memory : Memory) (address n left : ℕ) → n ≤ left → first_denied memory 0 address left ≡ None → first_denied memory 0 (address + n) (left - n) ≡ None
rest_none memory address n left within none =
    let all : n + (left - n) ≡ left = omega (arith, within) in
    sym (denied_back memory 0 address n (left - n) (front_none memory address n left within none)) ∙ ap (first_denied memory 0 address) all ∙ none

looks_front : (found : Option Process) (address n left : ℕ) → n ≤ left → look_of address left found ≡ Ok tt → look_of address n found ≡ Ok tt
looks_front None address n left within looks = cc
looks_front (Some process) address n left within looks =
    ap look_denied (front_none process.memory address n left within (none_denied (first_denied process.memory 0 address left) looks))

looks_rest : (found : Option Process) (address n left : ℕ) → n ≤ left → look_of address left found ≡ Ok tt → look_of (address + n) (left - n) found ≡ Ok tt
looks_rest None address n left within looks = cc
looks_rest (Some process) address n left within looks =
    ap look_denied (rest_none process.memory address n left within (none_denied (first_denied process.memory 0 address left) looks))

pub sees_front : (found : Option Process) (address n left : ℕ) → n ≤ left → Sees found address left → Sees found address n
sees_front found address n left within sees = record {
  there = looks_front found address n left within sees.there;
  low = λ some. omega (arith, some, within, sees.low (omega (arith, some, within)));
}

pub sees_rest : (found : Option Process) (address n left : ℕ) → n ≤ left → Sees found address left → Sees found (address + n) (left - n)
sees_rest found address n left within sees = record {
  there = looks_rest found address n left within sees.there;
  low = λ some. omega (arith, some, within, sees.low (omega (arith, some, within)));
}

-- Lines of bytes: one, and those behind it.

same_rest : (memory : Memory) (rows at left n : ℕ) → (0 < rows → n ≡ ROW_BYTES)
    → dump_from rows memory (at + ROW_BYTES) (left - ROW_BYTES) ≡ dump_from rows memory (at + n) (left - n)
unfolding dump_from
same_rest memory zero at left n full = refl
same_rest memory (suc rows) at left n full =
    let some : 0 < suc rows = omega arith in
    sym (ap (λ k. dump_from (suc rows) memory (at + k) (left - k)) (full some))

first_row : (memory : Memory) (rows more at left n : ℕ) (line : List ℕ) → rows ≡ suc more → n ≡ min ROW_BYTES left → line ≡ dump_line at (bytes_at memory at n)
    → dump_from rows memory at left ≡ line ++ dump_from more memory (at + ROW_BYTES) (left - ROW_BYTES)
unfolding dump_from
first_row memory rows more at left n line many is says =
    ap (λ k. dump_from k memory at left) many
    ∙ sym (ap (λ bs. bs ++ dump_from more memory (at + ROW_BYTES) (left - ROW_BYTES)) (says ∙ ap (λ k. dump_line at (bytes_at memory at k)) is))

pub next_row : (memory : Memory) (at left n : ℕ) (line : List ℕ) → 0 < left → n ≡ min ROW_BYTES left → line ≡ dump_line at (bytes_at memory at n)
    → dump_text memory at left ≡ line ++ dump_text memory (at + n) (left - n)
next_row memory at left n line some is says =
    let more = (left - n + (ROW_BYTES - 1)) / ROW_BYTES in
    let many : (left + (ROW_BYTES - 1)) / ROW_BYTES ≡ suc more = omega (arith, some, is) in
    first_row memory ((left + (ROW_BYTES - 1)) / ROW_BYTES) more at left n line many is says
    ∙ ap (λ bs. line ++ bs) (same_rest memory more at left n (λ rows. omega (arith, rows, is)))

none_dumped : (memory : Memory) (rows at left : ℕ) → rows ≡ 0 → dump_from rows memory at left ≡ []
unfolding dump_from
none_dumped memory rows at left none = ap (λ k. dump_from k memory at left) none

pub no_rows : (memory : Memory) (at left : ℕ) → left ≤ 0 → dump_text memory at left ≡ []
no_rows memory at left none = none_dumped memory ((left + (ROW_BYTES - 1)) / ROW_BYTES) at left (omega (arith, none))

-- Lines of words: one, and those behind it.

pub next_word : (extension : Bool) (memory : Memory) (at left : ℕ) (line : List ℕ) → 0 < left → line ≡ disasm_row extension memory at
    → disasm_text extension memory at left ≡ line ++ disasm_text extension memory (at + WORD_BYTES) (left - 1)
unfolding disasm_text
next_word extension memory at left line some says =
    let more : left ≡ suc (left - 1) = omega (arith, some) in
    ap (disasm_text extension memory at) more ∙ sym (ap (λ bs. bs ++ disasm_text extension memory (at + WORD_BYTES) (left - 1)) says)

pub no_words : (extension : Bool) (memory : Memory) (at left : ℕ) → left ≤ 0 → disasm_text extension memory at left ≡ []
unfolding disasm_text
no_words extension memory at left none = let zero_left : left ≡ 0 = omega (arith, none) in ap (disasm_text extension memory at) zero_left

-- Lines of many bytes: those of whole rows, and those behind them.

front_rows : (memory : Memory) (r s at left : ℕ) → ROW_BYTES * r ≤ left
    → dump_from (r + s) memory at left ≡ dump_from r memory at (ROW_BYTES * r) ++ dump_from s memory (at + ROW_BYTES * r) (left - ROW_BYTES * r)
unfolding dump_from
front_rows memory zero s at left within =
    let all : zero + s ≡ s = omega arith in
    let here : at ≡ at + ROW_BYTES * zero = omega arith in
    let many : left ≡ left - ROW_BYTES * zero = omega arith in
    ap (λ k. dump_from k memory at left) all ∙ ap (λ a. dump_from s memory a left) here ∙ ap (dump_from s memory (at + ROW_BYTES * zero)) many
front_rows memory (suc r) s at left within =
    let more : suc r + s ≡ suc (r + s) = omega arith in
    let full : min ROW_BYTES left ≡ min ROW_BYTES (ROW_BYTES * suc r) = omega (arith, within) in
    let here : at + ROW_BYTES + ROW_BYTES * r ≡ at + ROW_BYTES * suc r = omega arith in
    let many : left - ROW_BYTES - ROW_BYTES * r ≡ left - ROW_BYTES * suc r = omega (arith, within) in
    let fewer : ROW_BYTES * r ≡ ROW_BYTES * suc r - ROW_BYTES = omega arith in
    let line = dump_line at (bytes_at memory at (min ROW_BYTES left)) in
    let behind = dump_from s memory (at + ROW_BYTES * suc r) (left - ROW_BYTES * suc r) in
    ap (λ k. dump_from k memory at left) more
    ∙ ap (λ bs. line ++ bs) (front_rows memory r s (at + ROW_BYTES) (left - ROW_BYTES) (omega (arith, within))
    ∙ ap (λ a. dump_from r memory (at + ROW_BYTES) (ROW_BYTES * r) ++ dump_from s memory a (left - ROW_BYTES - ROW_BYTES * r)) here
    ∙ ap (λ n. dump_from r memory (at + ROW_BYTES) (ROW_BYTES * r) ++ dump_from s memory (at + ROW_BYTES * suc r) n) many)
    ∙ sym (append_assoc line (dump_from r memory (at + ROW_BYTES) (ROW_BYTES * r)) behind)
    ∙ ap (λ n. (dump_line at (bytes_at memory at n) ++ dump_from r memory (at + ROW_BYTES) (ROW_BYTES * r)) ++ behind) full
    ∙ ap (λ n. (dump_line at (bytes_at memory at (min ROW_BYTES (ROW_BYTES * suc r))) ++ dump_from r memory (at + ROW_BYTES) n) ++ behind) fewer

-- the lines of as many bytes as are read at once, or of all that are left
pub next_rows : (memory : Memory) (at left n : ℕ) → n ≡ min READ_BYTES left
    → dump_text memory at left ≡ dump_text memory at n ++ dump_text memory (at + n) (left - n)
next_rows memory at left n is =
    elim (cases_lt READ_BYTES left) [
      | inl many ↦
          let whole : n ≡ ROW_BYTES * 16 = omega (arith, is, many) in
          let s = (left - n + (ROW_BYTES - 1)) / ROW_BYTES in
          let rows : (left + (ROW_BYTES - 1)) / ROW_BYTES ≡ 16 + s = omega (arith, whole, many) in
          let mine : 16 ≡ (n + (ROW_BYTES - 1)) / ROW_BYTES = omega (arith, whole) in
          ap (λ k. dump_from k memory at left) rows ∙ front_rows memory 16 s at left (omega (arith, many))
          ∙ ap (λ k. dump_from 16 memory at k ++ dump_from s memory (at + k) (left - k)) (sym whole)
          ∙ ap (λ k. dump_from k memory at n ++ dump_from s memory (at + n) (left - n)) mine
      | inr few ↦
          let all : left ≡ n = omega (arith, is, few) in
          ap (dump_text memory at) all ∙ sym (append-nil (dump_text memory at n))
          ∙ ap (λ bs. dump_text memory at n ++ bs) (sym (no_rows memory (at + n) (left - n) (omega (arith, all))))
    ]

-- Lines of many words.

pub next_words : (extension : Bool) (memory : Memory) (n at left : ℕ) → n ≤ left
    → disasm_text extension memory at left ≡ disasm_text extension memory at n ++ disasm_text extension memory (at + WORD_BYTES * n) (left - n)
unfolding disasm_text
next_words extension memory zero at left within =
    let here : at ≡ at + WORD_BYTES * zero = omega arith in
    let many : left ≡ left - zero = omega arith in
    ap (λ a. disasm_text extension memory a left) here ∙ ap (disasm_text extension memory (at + WORD_BYTES * zero)) many
next_words extension memory (suc n) at left within =
    let more : left ≡ suc (left - 1) = omega (arith, within) in
    let here : at + WORD_BYTES + WORD_BYTES * n ≡ at + WORD_BYTES * suc n = omega arith in
    let many : left - 1 - n ≡ left - suc n = omega (arith, within) in
    let line = disasm_row extension memory at in
    let front = disasm_text extension memory (at + WORD_BYTES) n in
    ap (disasm_text extension memory at) more
    ∙ ap (λ bs. line ++ bs) (next_words extension memory n (at + WORD_BYTES) (left - 1) (omega (arith, within))
    ∙ ap (λ a. front ++ disasm_text extension memory a (left - 1 - n)) here
    ∙ ap (λ k. front ++ disasm_text extension memory (at + WORD_BYTES * suc n) k) many)
    ∙ sym (append_assoc line front (disasm_text extension memory (at + WORD_BYTES * suc n) (left - suc n)))
