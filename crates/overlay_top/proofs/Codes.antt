use Rattle.std.proofs.Common.{◌≡◌, ℕ, ◌==◌, cond, sym, ap, ◌∙◌, refl}
use Rattle.overlay_top.specs.declared.status.Status.{Status}
use Rattle.overlay_top.specs.declared.status.Status.TheVariants.{Done, NoMemory, BadWords, ReadFailed, WriteFailed, BadLine, TooLong}
use Rattle.overlay_top.specs.Status.{code_of}

-- Different statuses have different numbers.

status_at : ℕ → Status
status_at n =
    cond (n == 0) Done (cond (n == 1) NoMemory (cond (n == 2) BadWords (cond (n == 3) ReadFailed (cond (n == 4) WriteFailed (cond (n == 5) BadLine TooLong)))))

back : (status : Status) → status_at (code_of status) ≡ status
unfolding status_at
back Done = refl
back NoMemory = refl
back BadWords = refl
back ReadFailed = refl
back WriteFailed = refl
back BadLine = refl
back TooLong = refl

pub same_status : (number : ℕ) (status other : Status) → number ≡ code_of status → number ≡ code_of other → status ≡ other
same_status number status other is also = sym (back status) ∙ ap status_at (sym is ∙ also) ∙ back other

pub other_number : (number : ℕ) (status : Status) → number ≡ code_of status → (status ≡ ReadFailed → ⊥) → number ≡ 3 → ⊥
other_number number status is not three = not (same_status number status ReadFailed is three)
