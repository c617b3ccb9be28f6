use Rattle.std.proofs.Common.{◌≡◌, ℕ, Bool, true, false, cond, map, ap, subst, ◌∙◌, refl, Option, Some, None}
use Rattle.std.specs.Prelude.{◌&&◌, nat_lt}
use Rattle.ledger.specs.Alike.{AreAlike}
use Rattle.ledger.specs.Events.{ledger_after}
use Rattle.ledger.specs.RowLaws.{alike_after}
use Rattle.ledger.specs.AlikeUnits.{units_alike}
use Rattle.translation_cache.specs.Absent.{HasNone, none_counted, none_flushed}
use Rattle.translation_cache.specs.Bare.{BareTranslations}
use Rattle.ovl_io.specs.declared.turn.Turn.TheVariants as turn
use Rattle.rv_execute.specs.Calls.{access_of}
use Rattle.process_calls.specs.declared.calls.ProcessCall.{ProcessCall}
use Rattle.machine_core.specs.Process.{Process}
use Rattle.machine_core.specs.Machine.{AreLike, Wholes, unit_limit}
use Rattle.machine_core.specs.Turns.{AreLikeGuests, Guest, execution_of, guest_refused, translations_executed}
use Rattle.machine_core.specs.Absent.{left_none, none_after}
use Rattle.machine_core.specs.Laws.{after_both, at_both, like_after, like_refused, like_turn_in}
use Rattle.self_speculation.specs.Called.{CallRow, after_by, after_called, call_of, called_in, called_turn, guest_called, row_after, row_does, row_is_full, row_needs, row_of, row_translations, row_turn, turn_by}

-- Laws: alike states come to the same, and stay alike.

module _ (p : ℕ) (row : CallRow) (a b : Guest) (like : AreLikeGuests a b) where
  ledgers : AreAlike (ledger_after row.event a.ledger) (ledger_after row.event b.ledger)
  ledgers = alike_after row.event a.ledger b.ledger like.ledger

  needs_same : row_needs row a ≡ row_needs row b
  needs_same = units_alike (ledger_after row.event a.ledger) (ledger_after row.event b.ledger) ledgers

  full_same : row_is_full row a ≡ row_is_full row b
  full_same =
      ap (λ n. row.may_need_units && nat_lt (unit_limit n) (row_needs row a)) like.frames
      ∙ ap (λ n. row.may_need_units && nat_lt (unit_limit b.frames) n) needs_same

  pub like_row_turn : row_turn row a ≡ row_turn row b
  like_row_turn =
      ap (λ f. cond f (turn.Full (row_needs row a) (unit_limit a.frames)) turn.Stepped) full_same
      ∙ ap (λ n. cond (row_is_full row b) (turn.Full n (unit_limit a.frames)) turn.Stepped) needs_same
      ∙ ap (λ n. cond (row_is_full row b) (turn.Full (row_needs row b) (unit_limit n)) turn.Stepped) like.frames

  like_does : AreLikeGuests (row_does p row a) (row_does p row b)
  like_does = record {
    process = refl;
    ledger = ledgers;
    frames = like.frames;
    extension = like.extension;
    translations = ap (row_translations p row.flushes) like.translations;
  }

  pub like_row_after : AreLikeGuests (row_after p row a) (row_after p row b)
  like_row_after = by_full (row_is_full row a) (row_is_full row b) full_same
    where
      by_full : (f g : Bool) → f ≡ g → AreLikeGuests (cond f a (row_does p row a)) (cond g b (row_does p row b))
      by_full true true same = like
      by_full false false same = like_does
      by_full true false same = cc
      by_full false true same = cc

module _ (p : ℕ) (a b : Guest) (like : AreLikeGuests a b) where
  call_same : call_of a.extension a.process ≡ call_of b.extension b.process
  call_same = ap (call_of a.extension) like.process ∙ ap (λ x. call_of x b.process) like.extension

  pub like_called_in : called_in p a ≡ called_in p b
  like_called_in = by_call (call_of a.extension a.process) ∙ ap (λ (o : Option ProcessCall). turn_by p o b) call_same
    where
      by_call : (o : Option ProcessCall) → turn_by p o a ≡ turn_by p o b
      by_call None = like_turn_in p a b like
      by_call (Some call) =
          like_row_turn p (row_of p call a.process) (guest_refused p a) (guest_refused p b) (like_refused p a b like)
          ∙ ap (λ (x : Process). row_turn (row_of p call x) (guest_refused p b)) like.process

  pub like_guest_called : AreLikeGuests (guest_called p a) (guest_called p b)
  like_guest_called =
      subst (λ (o : Option ProcessCall). AreLikeGuests (guest_called p a) (after_by p o b)) call_same (by_call (call_of a.extension a.process))
    where
      by_call : (o : Option ProcessCall) → AreLikeGuests (after_by p o a) (after_by p o b)
      by_call None = like_after p a b like
      by_call (Some call) =
          subst (λ (x : Process). AreLikeGuests (row_after p (row_of p call a.process) (guest_refused p a)) (row_after p (row_of p call x) (guest_refused p b))) like.process
          (like_row_after p (row_of p call a.process) (guest_refused p a) (guest_refused p b) (like_refused p a b like))

-- of a process that may be there
module _ (p : ℕ) (a b : Wholes) (like : AreLike a b) where
  pub like_called : called_turn a p ≡ called_turn b p
  like_called = at_both p a b like (called_in p) turn.Stepped (like_called_in p)

  pub like_after_called : AreLike (after_called a p) (after_called b p)
  like_after_called = after_both p a b like (guest_called p) (like_guest_called p)

-- Where nothing of a space was translated, turns of another process leave it so.
module _ (q p : ℕ) (other : q ≡ p → ⊥) where
  none_in_row : (flushes : Bool) (t : BareTranslations) → HasNone q t → HasNone q (row_translations p flushes t)
  none_in_row true t none = none_flushed q p t none
  none_in_row false t none = none

  none_refused : (guest : Guest) → HasNone q guest.translations → HasNone q (guest_refused p guest).translations
  unfolding translations_executed
  none_refused guest none = none_counted q p other guest.process.memory (map access_of (execution_of guest.extension guest.process).calls) guest.translations none

  none_called : (guest : Guest) → HasNone q guest.translations → HasNone q (guest_called p guest).translations
  none_called guest none = by_call (call_of guest.extension guest.process)
    where
      by_full : (row : CallRow) (b : Bool) → HasNone q (cond b (guest_refused p guest) (row_does p row (guest_refused p guest))).translations
      by_full row true = none_refused guest none
      by_full row false = none_in_row row.flushes (guest_refused p guest).translations (none_refused guest none)

      by_call : (o : Option ProcessCall) → HasNone q (after_by p o guest).translations
      by_call None = none_after q p other guest none
      by_call (Some call) = by_full (row_of p call guest.process) (row_is_full (row_of p call guest.process) (guest_refused p guest))

  pub none_after_called : (state : Wholes) → HasNone q state.translations → HasNone q (after_called state p).translations
  none_after_called state = left_none q p other state (guest_called p) none_called
