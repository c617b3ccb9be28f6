use Rattle.std.specs.Prelude.{◌≡◌, ℕ, ◌+◌, ◌*◌, ◌<◌, ◌≤◌, true, false, not, ◌&&◌, IsSome, [], ◌∷◌, length, Some, refl}
use Rattle.std.proofs.Common.{true≢false, sym, ap, subst, ◌∙◌, arith}
use Rattle.sizes.specs.declared.TheConstants.{LINE_BYTES, PAGE_LINES}
use Rattle.ledger.specs.Changes.{with_lines}
use Rattle.ledger.specs.ClassLaws.{class_most}
use Rattle.ledger.specs.Events.{Store, ledger_after}
use Rattle.ledger.specs.Ledger.{is_alone}
use Rattle.ledger.specs.StoreLaws.{store_nothing, units_store}
use Rattle.ledger.specs.Units.{class, units}
use Rattle.overlay_pages.specs.Changes.{limit_of, units_of}
use Rattle.overlay_pages.specs.State.{PageState, State, books, held_page}
use Rattle.overlay_memory.specs.Access.{FitsStored, line_address, stored_books}
use Rattle.overlay_memory.specs.PageLaws.{held_there}
use Rattle.overlay_memory.specs.TouchLaws.{one_under, touched_one}
use Rattle.space_maps.specs.Options.{by_option, by_test}
use Rattle.space_maps.specs.Spaces.{page_in, space_in}

-- Laws: what a line that is put comes to.

-- it is the one line that is touched
pub put_row : (v : State) (space page line : ℕ) → line < PAGE_LINES
    → stored_books v space (line_address page line) LINE_BYTES ≡ ledger_after (Store (space_in v space).speculating space ((page, line ∷ []) ∷ [])) (books v)
put_row v space page line low =
    ap (λ t. ledger_after (Store (space_in v space).speculating space t) (books v))
    (touched_one (line_address page line) 64 page (64 * line) (omega arith) refl (omega (arith, low))
    ∙ ap (λ l. (page, l) ∷ []) (one_under (64 * line) 64 line (omega arith) (omega arith) (omega arith)))

-- a page that is alone takes no units for it
pub put_alone : (v : State) (space page line : ℕ) → line < PAGE_LINES → (space_in v space).speculating ≡ false → is_alone (books v) space page ≡ true
    → stored_books v space (line_address page line) LINE_BYTES ≡ books v
put_alone v space page line low settled alone =
    put_row v space page line low
    ∙ store_nothing (space_in v space).speculating (books v) space page (line ∷ [])
    (ap (λ s. not s && is_alone (books v) space page) settled ∙ alone)

-- another one takes as many as the class of its own lines rises by
pub put_units : (v : State) (space page line : ℕ) (x : PageState) → page_in v space page ≡ Some x → line < PAGE_LINES → (space_in v space).speculating ≡ false
    → is_alone (books v) space page ≡ false
    → units (stored_books v space (line_address page line) LINE_BYTES) + class (length x.own) ≡ units_of v + class (length (with_lines x.own (line ∷ [])))
put_units v space page line x there low settled shared =
    ap (λ l. units l + class (length x.own)) (put_row v space page line low)
    ∙ units_store (space_in v space).speculating (books v) space page (line ∷ []) (held_page v.zero_frame x) (held_there v space page x there)
    (ap (λ s. not s && is_alone (books v) space page) settled ∙ shared)

-- so 16 units suffice
pub put_fits : (v : State) (space page line : ℕ) → IsSome (page_in v space page) → line < PAGE_LINES → (space_in v space).speculating ≡ false
    → units_of v + 16 ≤ limit_of v → FitsStored v space (line_address page line) LINE_BYTES
put_fits v space page line there low settled room = by_test (is_alone (books v) space page)
    (λ alone. let same = ap units (put_alone v space page line low settled alone) in omega (arith, same, room))
    (λ shared. by_option (page_in v space page)
    (λ none. absurd (true≢false (sym (subst IsSome none there))))
    (λ x found.
    let rises = put_units v space page line x found low settled shared in
    let most = class_most (length (with_lines x.own (line ∷ []))) in
    omega (arith, rises, most, room)))
