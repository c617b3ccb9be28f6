use Rattle.std.proofs.Common.{◌≡◌, ℕ, ◌*◌, ◌+◌, ◌/◌, ◌%◌, inl, inr, List, [], get_or, sym, ap, subst, ◌∙◌, refl, arith}
use Rattle.sizes.specs.declared.TheConstants.{LINE_BYTES}
use Rattle.overlay_bits.specs.Lines.{has_line}
use Rattle.overlay_memory.specs.Code.{IsCodeLine}
use Rattle.overlay_memory.specs.View.{TranslatedView}
use Rattle.decoded_lines.specs.declared.TheConstants.{KEPT_LINES}
use Rattle.machine_core.specs.Held.{IsInHand}
use Rattle.machine_core.specs.InHand.{IsLineHeld, KeepsHand, StaysInHand, lost, page_in}
use Rattle.machine_core.specs.declared.hand.Hand.{Hand}
use Rattle.machine_core.specs.declared.view.View.{View}

-- Lines in hand stay there, or are lost.

-- a line is held of what follows
pub held_over : (lines : List (List ℕ)) (old new : TranslatedView) (p q start : ℕ) → IsLineHeld lines old p start
    → (IsCodeLine old p start (get_or lines (start / LINE_BYTES % KEPT_LINES) []) → IsCodeLine new q start (get_or lines (start / LINE_BYTES % KEPT_LINES) []))
    → IsLineHeld lines new q start
held_over lines old new p q start held goes = record { whole = held.whole; low = held.low; code = goes held.code }

-- nothing happens
pub keeps_same : (old new : View) → new ≡ old → KeepsHand old new
keeps_same old new is = subst (KeepsHand old) (sym is) (refl, λ lines start held page. held)

pub stays_same : (old new : View) → new ≡ old → StaysInHand old new
stays_same old new is = inl (keeps_same old new is)

-- one after the other
pub stays_both : (old mid new : View) → StaysInHand old mid → StaysInHand mid new → StaysInHand old new
stays_both old mid new (inl one) (inl two) =
    inl (two.0 ∙ one.0, λ lines start held page. two.1 lines start (one.1 lines start held page) (page ∙ sym (ap page_in one.0)))
stays_both old mid new (inl one) (inr two) = inr (two ∙ ap lost one.0)
stays_both old mid new (inr one) (inl two) = inr (two.0 ∙ one)
stays_both old mid new (inr one) (inr two) = inr (two ∙ ap lost one)

-- so many fetches are still to be counted
pub stays_owed : (old new : View) → StaysInHand old new → new.hand.owed ≡ old.hand.owed
stays_owed old new (inl keeps) = ap (λ (h : Hand). h.owed) keeps.0
stays_owed old new (inr none) = ap (λ (h : Hand). h.owed) none

-- no line is in hand
pub none_in_hand : (lines : List (List ℕ)) (memory : TranslatedView) (space : ℕ) (hand : Hand) → hand.known ≡ [] → IsInHand lines memory space hand
none_in_hand lines memory space hand none line low has = absurd (let lacks = ap (λ known. has_line known line) none in let both = sym lacks ∙ has in cc)

-- those that were are held still
pub keeps_in_hand : (lines : List (List ℕ)) (old new : View) → KeepsHand old new → IsInHand lines old.memory.now old.space old.hand → IsInHand lines new.memory.now new.space old.hand
keeps_in_hand lines old new keeps held line low has =
    let whole = (held line low has).0 in
    (whole, keeps.1 lines (old.hand.start + LINE_BYTES * line) (held line low has).1 (omega (arith, low, whole)))

pub stays_in_hand : (lines : List (List ℕ)) (old new : View) → StaysInHand old new → IsInHand lines old.memory.now old.space old.hand
    → IsInHand lines new.memory.now new.space new.hand
stays_in_hand lines old new (inl keeps) held =
    subst (IsInHand lines new.memory.now new.space) (sym keeps.0) (keeps_in_hand lines old new keeps held)
stays_in_hand lines old new (inr none) held = none_in_hand lines new.memory.now new.space new.hand (ap (λ (h : Hand). h.known) none)
