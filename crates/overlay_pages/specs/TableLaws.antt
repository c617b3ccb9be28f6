use Rattle.std.specs.Prelude.{◌≡◌, ℕ, Bool}
use Rattle.std.proofs.Common.{ap, ◌∙◌}
use Rattle.page_table.specs.Table.{Pages}
use Rattle.segment_store.specs.Store.{Store}
use Rattle.space_maps.specs.Spaces.{bare_space, cut_space, put_awaiting, put_mark, put_space}
use Rattle.space_maps.specs.Mapped.{mapped_bare, mapped_cut, mapped_put, mapped_put_awaiting, mapped_put_mark}
use Rattle.space_ledger.specs.View.{LedgerView}
use Rattle.overlay_pages.specs.View.{page_state, state_of, view_of}

-- What changes of the tables alone make of the state.

module _ (store : Store) (v : LedgerView) (s : ℕ) where
  pub state_added : state_of (view_of store (put_space v s bare_space)) ≡ put_space (state_of (view_of store v)) s bare_space
  unfolding state_of
  state_added =
      mapped_put (λ _ _ x. page_state store x) v s bare_space
      ∙ ap (put_space (state_of (view_of store v)) s) (mapped_bare (λ _ _ x. page_state store x) (λ _ x. page_state store x))

  pub state_cut_space : state_of (view_of store (cut_space v s)) ≡ cut_space (state_of (view_of store v)) s
  unfolding state_of
  state_cut_space = mapped_cut (λ _ _ x. page_state store x) v s

  pub state_mark_put : (on : Bool) → state_of (view_of store (put_mark v s on)) ≡ put_mark (state_of (view_of store v)) s on
  unfolding state_of
  state_mark_put on = mapped_put_mark (λ _ _ x. page_state store x) v s on

  pub state_awaiting_put : (awaiting : Pages) → state_of (view_of store (put_awaiting v s awaiting)) ≡ put_awaiting (state_of (view_of store v)) s awaiting
  unfolding state_of
  state_awaiting_put awaiting = mapped_put_awaiting (λ _ _ x. page_state store x) v s awaiting
