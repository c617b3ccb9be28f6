use Rattle.std.proofs.Common.{◌≡◌, ℕ, ◌+◌, ◌<◌, ◌≤◌, ◌⊎◌, inl, inr, true, false, cond, nat_eq, List, length, Some, sym, ap, subst, ◌∙◌, refl, arith, true≢false}
use Rattle.std.specs.Prelude.{IfSome, IsSome}
use Rattle.std.proofs.lemmas.Bool.Decides.{nat_tests}
use Rattle.std.specs.Option.{option_map}
use Rattle.std.specs.FinMap.{empty, get}
use Rattle.number_maps.specs.Keys.{by_key}
use Rattle.number_maps.specs.Views.{viewed}
use Rattle.ledger.specs.AloneLaws.{IsAlone, alone_apart, are, arent}
use Rattle.ledger.specs.Changes.{is_origin_here, rebased}
use Rattle.ledger.specs.Ledger.{Holding, Ledger, holding_at, is_alone}
use Rattle.ledger.specs.RebaseLaws.{at_here, rebased_units}
use Rattle.ledger.specs.RowLaws.{rebased_there}
use Rattle.ledger.specs.Units.{units}
use Rattle.overlay_pages.specs.Changes.{IsAway, IsRebased, SeesFrame, rebased_page}
use Rattle.overlay_pages.specs.State.{PageState, SpaceState, State, base_of, books, held_page, memory_of, seen_page}
use Rattle.overlay_pages.specs.View.{MemoryView, state_of}
use Rattle.overlay_pages.specs.ViewLaws.{outside_line}
use Rattle.overlay_memory.specs.PageLaws.{HasPage, has_page, held_there, some_is}
use Rattle.overlay_memory.specs.Pieces.{KeepsAllElse}
use Rattle.overlay_memory.specs.Rebased.{AreAlikeBut, HasRebased, TellsApart, apart_in}
use Rattle.overlay_memory.specs.StateMemory.{base_beside, beside_put, memory_kept}
use Rattle.overlay_memory.specs.View.{AreTranslated}
use Rattle.overlay_memory.proofs.Truths.{put_translated}
use Rattle.space_ledger.specs.View.{origin_of}
use Rattle.space_maps.specs.Books.{books_put_page}
use Rattle.space_maps.specs.Laws.{changed_there, there_space}
use Rattle.space_maps.specs.Options.{by_test, map_from}
use Rattle.space_maps.specs.Spaces.{altered_page, page_in, put_page, space_in}
use Rattle.translation_cache.specs.Translations.{Translations, flushed}
use Rattle.translation_cache.specs.declared.cached.Cached.{Cached}

-- A page that is put on another one.

module _ (old : State) (s p from other : ℕ) (there : IsSome (page_in old s p)) (theirs : IsSome (page_in old from other)) (alone : is_alone (books old) s p ≡ true)
    (away : is_origin_here (books old) s from other ≡ false) where
  abbrev one : HasPage old s p
  one = has_page old s p there

  abbrev two : HasPage old from other
  two = has_page old from other theirs

  abbrev z : ℕ
  z = old.zero_frame

  abbrev mine : Holding
  mine = held_page old.zero_frame one.x

  abbrev other_held : Holding
  other_held = held_page old.zero_frame two.x

  held_mine : holding_at (books old) s p ≡ Some (held_page old.zero_frame one.x)
  held_mine = held_there old s p one.x one.there

  held_other : holding_at (books old) from other ≡ Some (held_page old.zero_frame two.x)
  held_other = held_there old from other two.x two.there

  -- a page of the space on its frame would be one
  not_here : (q : ℕ) (w : PageState) → page_in old s q ≡ Some w → w.entry.frame ≡ two.x.entry.frame → nat_eq (origin_of z two.x.entry.frame) 0 ≡ false → ⊥
  not_here q w at same some =
      true≢false (sym (at_here (books old) s from other q (held_page z w) other_held held_other some (held_there old s q w at)
      (are (origin_of z w.entry.frame) (origin_of z two.x.entry.frame) (ap (origin_of z) same))) ∙ away)

  -- it isn't the page itself
  pub differs : from ≡ s → other ≡ p → ⊥
  differs ss pp =
      let apart : IsAlone (books old) s p = alone_apart (books old) s p alone in
      let here : page_in old s p ≡ Some two.x = (λ i. page_in old (sym ss i) (sym pp i)) ∙ two.there in
      let held : apart.holding ≡ held_page z two.x = some_is _ _ (sym apart.there ∙ held_there old s p two.x here) in
      not_here p two.x here refl (ap (λ (h : Holding). nat_eq h.origin 0) (sym held) ∙ apart.not_zero)

  -- so it is away
  pub is_away : IsAway old s from other
  is_away = by_test (nat_eq two.x.entry.frame z)
      (λ zero. let same : two.x.entry.frame ≡ z = grind (arith, nat_tests) in inl (ap (option_map (λ (w : PageState). w.entry.frame)) two.there ∙ ap Some same))
      (λ some. inr (λ q e.
      map_from (λ (w : PageState). w.entry.frame) (page_in old s q) two.x.entry.frame (e ∙ ap (option_map (λ (w : PageState). w.entry.frame)) two.there)
      (λ w at same. not_here q w at same (ap (λ b. nat_eq (cond b 0 (two.x.entry.frame + 1)) 0) some ∙ arent (two.x.entry.frame + 1) 0 (λ n. omega (arith, n))))))

  module _ (new : State) (lines : List ℕ) (done : IsRebased old new s p from other lines) (few : length lines ≤ 31) where
    abbrev page : PageState
    page = rebased_page lines two.x one.x

    new_is : new ≡ put_page old s p (rebased_page lines two.x one.x)
    new_is =
        subst (λ o. IfSome o (λ (w : PageState). new ≡ altered_page (rebased_page lines w) old s p)) two.there done
        ∙ changed_there (rebased_page lines two.x) old s p one.x one.there

    row : books new ≡ rebased s from (books old) p other lines
    row = ap books new_is ∙ books_put_page held_page old s p page ∙ sym (rebased_there s from (books old) p other lines other_held held_other)

    fewer : units (books new) + 8 ≤ units (books old)
    fewer = subst (λ (l : Ledger). units l + 8 ≤ units (books old)) (sym row) (rebased_units s from (books old) p other lines mine other_held differs held_mine held_other alone few)

    memories : (q : ℕ) → memory_of new q ≡ memory_of old q
    unfolding memory_of
    memories q = ap (λ v. memory_of v q) new_is ∙ by_key q s
        (λ same. ap (memory_of (put_page old s p page)) same ∙ memory_kept old s p page one.x one.there refl ∙ ap (memory_of old) (sym same))
        (λ away. ap (λ (y : SpaceState). viewed (λ _ x. seen_page x) y.pages) ((beside_put old s p page one.x one.there refl).others q away))

    pub has_rebased : lines ≡ apart_in old s p from other → HasRebased old new s p from other
    has_rebased all = record {
      memories = memories;
      ledger = row ∙ ap (λ l. rebased s from (books old) p other l) all;
      units = fewer;
      bases = λ q away. ap (λ v. get (base_of v s) q) new_is ∙ base_beside old s p page q away;
      beside = subst (λ v. KeepsAllElse old v s) (sym new_is) (beside_put old s p page one.x one.there refl);
    }

    pub rebased_translated : (t : Translations Cached) → (space_in old s).awaiting ≡ empty → AreTranslated old t → AreTranslated new (flushed s t)
    rebased_translated t settled all = put_translated old new s p page t new_is (there_space old s p one.x one.there) settled few all

-- What is seen of it but for these lines stands in the other one's frame: where a line isn't own it is that of the frame.
pub sees_frame : (view : MemoryView) (from other : ℕ) (but : List ℕ) (x y : PageState) → page_in (state_of view) from other ≡ Some y → AreAlikeBut but x y → SeesFrame but x y
sees_frame view from other but x y at alike line low absent = (alike line low absent).1 ∙ outside_line view from other y line low at (alike line low absent).0

-- Of lines that are apart, as many as were told.

pub told_few : (all told : List ℕ) (most : ℕ) → TellsApart all most told → length told ≤ 31 → 31 ≤ most → told ≡ all
told_few all told most (inl same) few enough = same
told_few all told most (inr more) few enough = absurd (omega (arith, more.0, few, enough))

pub told_many : (all told : List ℕ) (most n : ℕ) → TellsApart all most told → n ≡ length told → 31 < n → 31 ≤ most → (31 < length all) × ((n ≡ length all) ⊎ (most < n))
told_many all told most n (inl same) count many enough = (omega (arith, count, many, ap length same), inl (count ∙ ap length same))
told_many all told most n (inr more) count many enough = (omega (arith, more.1, enough), inr (omega (arith, more.0, count)))
