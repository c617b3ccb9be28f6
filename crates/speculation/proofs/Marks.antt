use Rattle.std.specs.Prelude.{◌≡◌, ℕ, Bool, true, false}
use Rattle.std.proofs.Common.{sym, ap, subst, ◌∙◌}
use Rattle.std.specs.FinMap.{get}
use Rattle.number_maps.specs.Keys.{alike}
use Rattle.ovl_io.specs.Memory.{Memory}
use Rattle.ledger.specs.Alike.{AreAlike}
use Rattle.ledger.specs.Changes.{has_own, is_large}
use Rattle.ledger.specs.Events.{Commit, Settle, ledger_after}
use Rattle.ledger.specs.LargeLaws.{NoneLarge, none_large_commit}
use Rattle.ledger.specs.RowLaws.{is_large_too}
use Rattle.ledger.specs.Ledger.{Ledger}
use Rattle.overlay_pages.specs.State.{State, books}
use Rattle.space_maps.specs.Spaces.{holds_space, put_mark}
use Rattle.promotion.specs.FateFolds.{bare_small}
use Rattle.promotion.specs.Settled.{HasCommittedPages, HasSettled, alone_or_large_in, every_page, mark_of}
use Rattle.promotion.specs.Altered.{marked_so, settled_marked}
use Rattle.speculation.specs.Speculated.{HasCommitted, HasDiscarded, HasStarted}

-- A space is marked after its pages were settled, committed or discarded.

pub started : (old mid new : State) (space : ℕ) → HasSettled old mid space → holds_space old space ≡ true → new ≡ put_mark mid space true → HasStarted old new space
started old mid new space h there is =
    let m = marked_so mid new space true (h.settled.spaces space ∙ there) is in
    let whole = settled_marked every_page (mark_of old space) true old mid new space h.settled m in record {
      settled = whole;
      base = alike _ _ (λ r. whole.base r ∙ ap (λ (l : Memory). get l r) (sym whole.memory));
      ledger = subst (λ (l : Ledger). AreAlike l (ledger_after (Settle space) (books old))) (sym m.ledger) h.ledger;
    }

-- after a commit no page has 32 own lines or more
pub none_left : (old mid : State) (space : ℕ) → HasCommittedPages old mid space → NoneLarge (books mid) space
none_left old mid space h r = is_large_too (books mid) (ledger_after (Commit space) (books old)) h.ledger space r ∙ none_large_commit (books old) space r

pub committed : (old mid new : State) (space : ℕ) → HasCommittedPages old mid space → holds_space old space ≡ true → new ≡ put_mark mid space false → HasCommitted old new space
committed old mid new space h there is =
    let m = marked_so mid new space false (h.settled.spaces space ∙ there) is in record {
      settled = settled_marked (alone_or_large_in old space) (mark_of old space) false old mid new space h.settled m;
      ledger = subst (λ (l : Ledger). AreAlike l (ledger_after (Commit space) (books old))) (sym m.ledger) h.ledger;
    }

pub none_left_marked : (old mid new : State) (space : ℕ) → HasCommittedPages old mid space → holds_space old space ≡ true → new ≡ put_mark mid space false
    → NoneLarge (books new) space
none_left_marked old mid new space h there is r =
    ap (λ (l : Ledger). is_large l space r) (marked_so mid new space false (h.settled.spaces space ∙ there) is).ledger ∙ none_left old mid space h r

-- nor after each overlay was given up
pub none_kept : (mark : Bool) (old mid : State) (space : ℕ) → HasDiscarded mark old mid space → NoneLarge (books mid) space
none_kept mark old mid space h r = bare_small (books mid) space r (h.own r)

pub discarded : (mark : Bool) (old mid new : State) (space : ℕ) → HasDiscarded mark old mid space → holds_space old space ≡ true → new ≡ put_mark mid space false
    → HasDiscarded false old new space
discarded mark old mid new space h there is =
    let m = marked_so mid new space false (h.spaces space ∙ there) is in record {
      memory = m.memory ∙ h.memory;
      base = m.base ∙ h.base;
      ledger = m.ledger ∙ h.ledger;
      own = λ r. ap (λ (l : Ledger). has_own l space r) m.ledger ∙ h.own r;
      awaiting = m.awaiting ∙ h.awaiting;
      marked = m.marked;
      others = λ q d. m.others q d ∙ h.others q d;
      spaces = λ q. m.spaces q ∙ h.spaces q;
      frames = m.frames ∙ h.frames;
      zero_frame = m.zero_frame ∙ h.zero_frame;
    }
