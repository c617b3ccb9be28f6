use Rattle.std.proofs.Common.{◌≡◌, ℕ, ◌+◌, ◌-◌, ◌*◌, ◌<◌, ◌≤◌, List, [], ◌++◌, length, get_or, set, take, drop, replicate, sym, ap, refl, ◌∙◌, arith}
use Rattle.std.proofs.lemmas.List.{drop-append-le, get_or-append_right, get_or_append_left, length-append, replicate-append-replicate, set-append_left, set-append_right, take-append-le, length-drop}
use Rattle.line_store.specs.Lines.{line_of, zero_lines}

-- The lines of the units with those of scratch behind them.

pub all_zero : (frames : ℕ) (units scratch : List (List ℕ)) → units ≡ zero_lines (64 * frames) → scratch ≡ zero_lines (64 * 1) → units ++ scratch ≡ zero_lines (64 * (frames + 1))
unfolding zero_lines
all_zero frames units scratch e f =
    let all : 64 * frames + 64 * 1 ≡ 64 * (frames + 1) = omega arith in
    ap (λ l. l ++ scratch) e ∙ ap (λ l. zero_lines (64 * frames) ++ l) f ∙ replicate-append-replicate (64 * frames) (64 * 1) (replicate 64 0) ∙ ap zero_lines all

module _ (units scratch whole : List (List ℕ)) (same : units ++ scratch ≡ whole) (size : length scratch ≡ 64) where
  pub before_is : length units + 64 ≡ length whole
  before_is = omega (arith, length-append units scratch, ap length same, size)

  pub before_at : (at : ℕ) → at + 64 < length whole → at < length units
  before_at at h = omega (arith, before_is, h)

  pub line_before : (at : ℕ) → at + 64 < length whole → line_of units at ≡ line_of whole at
  line_before at h = sym (get_or_append_left units scratch [] at (before_at at h)) ∙ ap (λ l. line_of l at) same

  pub set_before : (at : ℕ) (line : List ℕ) → at + 64 < length whole → set units at line ++ scratch ≡ set whole at line
  set_before at line h = sym (set-append_left units scratch at line (before_at at h)) ∙ ap (λ l. set l at line) same

  pub page_before : (at : ℕ) → at + 2 * 64 ≤ length whole → take 64 (drop at units) ≡ take 64 (drop at whole)
  page_before at h =
      sym (ap (take 64) (drop-append-le at units scratch (omega (arith, before_is, h))) ∙ take-append-le 64 (drop at units) scratch (omega (arith, before_is, h, length-drop at units)))
      ∙ ap (λ l. take 64 (drop at l)) same

  place_behind : (line : ℕ) → length whole - 64 + line ≡ length units + line
  place_behind line = omega (arith, before_is)

  pub line_behind : (line : ℕ) → line_of scratch line ≡ line_of whole (length whole - 64 + line)
  line_behind line =
      let off : length units + line - length units ≡ line = omega arith in
      ap (λ n. get_or scratch n []) (sym off) ∙ sym (get_or-append_right units scratch (length units) (length units + line) [] refl (omega arith))
      ∙ ap (λ l. line_of l (length units + line)) same ∙ ap (line_of whole) (sym (place_behind line))

  pub set_behind : (line : ℕ) (bytes : List ℕ) → units ++ set scratch line bytes ≡ set whole (length whole - 64 + line) bytes
  set_behind line bytes =
      let off : length units + line - length units ≡ line = omega arith in
      ap (λ n. units ++ set scratch n bytes) (sym off) ∙ sym (set-append_right units scratch (length units) (length units + line) bytes refl (omega arith))
      ∙ ap (λ l. set l (length units + line) bytes) same ∙ ap (λ n. set whole n bytes) (sym (place_behind line))
