use Rattle.std.proofs.Common.{◌≡◌, ℕ, ◌+◌, ◌<◌, ◌≤◌, Bool, true, false, cond, List, [], ◌∷◌, ◌++◌, length, drop, get_or, set, sym, ap, subst, ◌∙◌, refl, ◌≢◌, ◌⊎◌, arith, Option, Some, None, IsSome, inl, inr, Result, Ok, Err, OnOk}
use Rattle.std.specs.Option.{option_map_or}
use Rattle.std.specs.Global.{Vec}
use Rattle.std.proofs.lemmas.Bool.{cases_lt, cases_eq}
use Rattle.std.proofs.lemmas.List.{drop_more, map-set, get_or-map, get_or-set_same, length-map}
use Rattle.std.proofs.lemmas.List.Elements.{All-cons, All-nil, All-append}
use Rattle.elf_loader.specs.Image.{file_holds, fills, last_holding}
use Rattle.elf_loader.specs.Layers.{last_among, no_header, Layered, IsOutsidePage, Skips, IsLaid, HasLayers, number_of, items_of}
use Rattle.elf_loader.specs.declared.header.ProgramHeader.{ProgramHeader}
use Rattle.elf_loader.specs.declared.image.ImagePage.{ImagePage}
use Rattle.elf_loader.proofs.Pages.{IsPlaceOf}
use Rattle.elf_loader.proofs.Holding.{or_later, held_by}

-- The segments of a page, gone through from the last to the first.

-- the header at a place, where it holds an address
abbrev held_at : List ProgramHeader → ℕ → ℕ → Option ProgramHeader
held_at loads k a = cond (file_holds (get_or loads k no_header) a) (Some (get_or loads k no_header)) None

-- one more below the others
among_more : (loads : List ProgramHeader) (places : List ℕ) (k a : ℕ)
    → last_among loads (places ++ k ∷ []) a ≡ option_map_or Some (last_among loads places a) (held_at loads k a)
among_more loads [] k a = refl
among_more loads (place ∷ places) k a =
    ap (λ (o : Option ProgramHeader). cond (file_holds (get_or loads place no_header) a) (Some (get_or loads place no_header)) o) (among_more loads places k a)
    ∙ sym (or_later (file_holds (get_or loads place no_header) a) (get_or loads place no_header) (last_among loads places a) (held_at loads k a))

holding_more : (loads : List ProgramHeader) (k a : ℕ) → k < length loads
    → last_holding (drop k loads) a ≡ option_map_or Some (last_holding (drop (k + 1) loads) a) (held_at loads k a)
holding_more loads k a within = ap (λ hs. last_holding hs a) (drop_more loads k no_header within)

-- where the later ones hold it an earlier one makes no difference
kept_by : (o else_ : Option ProgramHeader) → IsSome o → option_map_or Some o else_ ≡ o
kept_by (Some h) else_ some = refl
kept_by None else_ some = cc

some_kept : (o : Option ProgramHeader) (h : ProgramHeader) → IsSome (option_map_or Some o (Some h))
some_kept (Some l) h = refl
some_kept None h = refl

-- the segment is added to a page that isn't full
pub layered_more : (loads : List ProgramHeader) (k page : ℕ) (places : List ℕ) (is_full : Bool) → k < length loads
    → Layered loads (k + 1) page places is_full
    → Layered loads k page (places ++ k ∷ []) (fills page (get_or loads k no_header))
layered_more loads k page places is_full within layered = record {
  there = All-append (λ place. place < length loads) places (k ∷ []) layered.there
      (All-cons (λ place. place < length loads) k [] within (All-nil (λ place. place < length loads)));
  same = λ a low high.
      among_more loads places k a
      ∙ ap (λ (o : Option ProgramHeader). option_map_or Some o (held_at loads k a)) (layered.same a low high)
      ∙ sym (holding_more loads k a within);
  gives = λ fills a low high.
      subst IsSome (sym (among_more loads places k a
      ∙ ap (λ (b : Bool). option_map_or Some (last_among loads places a) (cond b (Some (get_or loads k no_header)) None))
      (held_by (get_or loads k no_header) page a fills low high)))
      (some_kept (last_among loads places a) (get_or loads k no_header));
}

-- a page that is full stays as it is
pub layered_full : (loads : List ProgramHeader) (k page : ℕ) (places : List ℕ) (is_full : Bool) → k < length loads → is_full ≡ true
    → Layered loads (k + 1) page places is_full → Layered loads k page places is_full
layered_full loads k page places is_full within full layered = record {
  there = layered.there;
  same = λ a low high.
      layered.same a low high
      ∙ sym (holding_more loads k a within
      ∙ kept_by _ _ (subst IsSome (layered.same a low high) (layered.gives full a low high)));
  gives = layered.gives;
}

none_there : (o : Option ProgramHeader) → option_map_or Some o None ≡ o
none_there (Some l) = refl
none_there None = refl

-- a page of which the segment holds no address stays as it is
pub layered_apart : (loads : List ProgramHeader) (k page : ℕ) (places : List ℕ) (is_full : Bool) → k < length loads
    → IsOutsidePage (get_or loads k no_header) page
    → Layered loads (k + 1) page places is_full → Layered loads k page places is_full
layered_apart loads k page places is_full within apart layered = record {
  there = layered.there;
  same = λ a low high.
      layered.same a low high
      ∙ sym (holding_more loads k a within
      ∙ ap (λ (b : Bool). option_map_or Some (last_holding (drop (k + 1) loads) a) (cond b (Some (get_or loads k no_header)) None)) (apart a low high)
      ∙ none_there (last_holding (drop (k + 1) loads) a));
  gives = layered.gives;
}

-- one more at the end of one of some lists
pub added : (layers : List (Vec ℕ)) (at load : ℕ) (new was : Vec ℕ) → at < length (items_of layers)
    → new.items ≡ was.items ++ load ∷ [] → was.items ≡ get_or (items_of layers) at []
    → items_of (set layers at new) ≡ set (items_of layers) at (get_or (items_of layers) at [] ++ load ∷ [])
added layers at load new was within pushed is =
    map-set (λ v. v.items) layers at new ∙ ap (set (items_of layers) at) (pushed ∙ ap (λ ks. ks ++ load ∷ []) is)

-- what a list of lists has at a place
pub read_item : (layers : List (Vec ℕ)) (at : ℕ) (v : Vec ℕ) → at < length (items_of layers) → v ≡ get_or layers at v
    → v.items ≡ get_or (items_of layers) at []
read_item layers at v within is = ap (λ x. x.items) is ∙ sym (get_or-map (λ x. x.items) layers at v [] (omega (arith, length-map layers (λ x. x.items))))

-- How far the laying of a segment between two places has come: up to a place the pages have it, and the others don't.
pub record Comes (loads : List ProgramHeader) (pages : List ImagePage) (load from at : ℕ) (layers : List (List ℕ)) (full : List Bool) (next : List ℕ) : Type 0 where
  pub begun : from ≤ at
  pub as_many : length layers ≡ length pages
  pub marked : length full ≡ length pages
  pub done : (p : ℕ) → p < length pages → from ≤ p → p < at → Layered loads load (number_of pages p) (get_or layers p []) (get_or full p false)
  pub waits : (p : ℕ) → p < length pages → (p < from) ⊎ (at ≤ p) → Layered loads (load + 1) (number_of pages p) (get_or layers p []) (get_or full p false)
  pub skips : Skips full next

same_layered : (loads : List ProgramHeader) (from page : ℕ) (old new : List ℕ) (was is : Bool) → new ≡ old → is ≡ was
    → Layered loads from page old was → Layered loads from page new is
same_layered loads from page old new was is same same_mark layered =
    subst (λ ks. Layered loads from page ks is) (sym same) (subst (Layered loads from page old) (sym same_mark) layered)

-- one page more, and the full ones behind it
pub comes_more : (loads : List ProgramHeader) (pages : List ImagePage) (load from at on : ℕ) (old new : List (List ℕ)) (was full : List Bool) (next after : List ℕ)
    → load < length loads → Comes loads pages load from at old was next
    → length new ≡ length pages → length full ≡ length pages
    → Layered loads load (number_of pages at) (get_or new at []) (get_or full at false)
    → ((p : ℕ) → p ≢ at → (get_or new p [] ≡ get_or old p []) × (get_or full p false ≡ get_or was p false))
    → Skips full after → at < on → ((q : ℕ) → at < q → q < on → get_or full q false ≡ true)
    → Comes loads pages load from on new full after
comes_more loads pages load from at on old new was full next after is_load comes as_many marked here others skips rises between =
    let begun = comes.begun in
    record {
      begun = omega arith;
      as_many = as_many;
      marked = marked;
      done = λ p within low high. elim (cases_lt p at) [
        | inl before ↦ let kept = others p (λ same. absurd (omega arith)) in
            same_layered loads load (number_of pages p) _ _ _ _ kept.0 kept.1 (comes.done p within low before)
        | inr behind ↦ elim (cases_eq p at) [
          | inl same ↦ subst (λ q. Layered loads load (number_of pages q) (get_or new q []) (get_or full q false)) (sym same) here
          | inr other ↦ let kept = others p other in
              layered_full loads load (number_of pages p) (get_or new p []) (get_or full p false) is_load (between p (omega (arith, above p at behind other)) high)
              (same_layered loads (load + 1) (number_of pages p) _ _ _ _ kept.0 kept.1 (comes.waits p within (inr behind)))
        ]
      ];
      waits = λ p within apart. elim apart [
        | inl before ↦ let kept = others p (λ same. absurd (omega arith)) in
            same_layered loads (load + 1) (number_of pages p) _ _ _ _ kept.0 kept.1 (comes.waits p within (inl before))
        | inr behind ↦ let kept = others p (λ same. absurd (omega arith)) in
            same_layered loads (load + 1) (number_of pages p) _ _ _ _ kept.0 kept.1 (comes.waits p within (inr (omega arith)))
      ];
      skips = skips;
    }
  where
    above : (p at : ℕ) → at ≤ p → p ≢ at → at < p
    above p at low other = elim (cases_lt at p) [ inl h ↦ h | inr h ↦ absurd (other (omega arith)) ]

-- the others have none of its addresses
pub comes_last : (loads : List ProgramHeader) (pages : List ImagePage) (load from at to : ℕ) (layers : List (Vec ℕ)) (full : List Bool) (next : List ℕ)
    → load < length loads → to ≤ at
    → ((p : ℕ) → p < length pages → (p < from) ⊎ (to ≤ p) → IsOutsidePage (get_or loads load no_header) (number_of pages p))
    → Comes loads pages load from at (items_of layers) full next → IsLaid loads pages load layers full next
comes_last loads pages load from at to layers full next is_load past apart comes = record {
  as_many = comes.as_many;
  marked = comes.marked;
  layered = λ p within. elim (cases_lt p from) [
    | inl before ↦ layered_apart loads load (number_of pages p) _ _ is_load (apart p within (inl before)) (comes.waits p within (inl before))
    | inr low ↦ elim (cases_lt p at) [
      | inl high ↦ comes.done p within low high
      | inr behind ↦ layered_apart loads load (number_of pages p) _ _ is_load (apart p within (inr (omega arith))) (comes.waits p within (inr behind))
    ]
  ];
  skips = comes.skips;
}

pub both_ok : {T E P Q R : Type 0} (r : Result T E) → OnOk r P → OnOk r Q → (P → Q → R) → OnOk r R
both_ok (Ok x) p q f = f p q
both_ok (Err e) p q f = tt

-- the segment was added at its place
pub layered_put : (loads : List ProgramHeader) (k page at : ℕ) (old new : List (List ℕ)) (was is : List Bool) (fills_it : Bool) → k < length loads
    → at < length old → at < length was → fills_it ≡ fills page (get_or loads k no_header)
    → Layered loads (k + 1) page (get_or old at []) (get_or was at false)
    → new ≡ set old at (get_or old at [] ++ k ∷ []) → is ≡ set was at fills_it
    → Layered loads k page (get_or new at []) (get_or is at false)
layered_put loads k page at old new was is fills_it within inside marked by layered news marks =
    same_layered loads k page (get_or old at [] ++ k ∷ []) (get_or new at []) (fills page (get_or loads k no_header)) (get_or is at false)
    (ap (λ xs. get_or xs at []) news ∙ get_or-set_same old at (get_or old at [] ++ k ∷ []) [] inside)
    (ap (λ xs. get_or xs at false) marks ∙ get_or-set_same was at fills_it false marked ∙ by)
    (layered_more loads k page (get_or old at []) (get_or was at false) within layered)

-- behind the last segment
pub stands_all : (loads : List ProgramHeader) (pages : List ImagePage) (layers : List (Vec ℕ)) (full : List Bool) (next : List ℕ)
    → IsLaid loads pages 0 layers full next → HasLayers loads pages layers
stands_all loads pages layers full next stands = record {
  as_many = stands.as_many;
  layered = λ p within. let it = stands.layered p within in record { there = it.there; same = it.same; gives = λ full a low high. cc };
}

-- the places of the segments of a page of an image
pub at_page : (loads : List ProgramHeader) (pages : List ImagePage) (layers : List (Vec ℕ)) (page place : ℕ) (v : Vec ℕ) (ks : List ℕ)
    → HasLayers loads pages layers → IsPlaceOf pages page place → v ≡ get_or layers place v → ks ≡ v.items → Layered loads 0 page ks false
at_page loads pages layers page place v ks has at is same =
    let within = at.within in
    let items = same ∙ read_item layers place v (omega (arith, has.as_many)) is in
    subst (λ xs. Layered loads 0 page xs false) (sym items)
    (subst (λ q. Layered loads 0 q (get_or (items_of layers) place []) false) at.is (has.layered place at.within))

pub layers_there : (loads : List ProgramHeader) (pages : List ImagePage) (layers : List (Vec ℕ)) (page place : ℕ)
    → HasLayers loads pages layers → IsPlaceOf pages page place → place < length layers
layers_there loads pages layers page place has at = omega (arith, has.as_many, at.within, length-map layers (λ v. v.items))
