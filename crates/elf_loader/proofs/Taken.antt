use Rattle.std.proofs.Common.{◌≡◌, ℕ, ◌+◌, ◌*◌, ◌<◌, ◌≤◌, Bool, true, false, cond, ◌||◌, ltb, ◌==◌, List, [], ◌∷◌, ◌++◌, length, get_or, sym, ap, subst, ◌∙◌, refl, arith, Option, Some, None, All, map, Result, Ok, Err, IsErr, IsErrAnd}
use Rattle.std.specs.List.{list_any}
use Rattle.std.proofs.lemmas.Bool.{ltb-false, false_from_ne_true, lt-ltb, le-ltb}
use Rattle.std.proofs.lemmas.Bool.Decides.{nat_tests}
use Rattle.std.proofs.lemmas.List.Folds.{list_any_at}
use Rattle.sizes.specs.declared.TheConstants.{MOST_IMAGE_PAGES, STACK_ADDRESS}
use Rattle.elf_loader.specs.Fields.{table_offset, table_length, loads_of}
use Rattle.elf_loader.specs.Accepted.{ends_behind, refused_if, first_refusal, file_refusal, header_refusals, table_refusals, page_refusals, HasTable}
use Rattle.elf_loader.specs.TakenLaws.{none_holds, unless}
use Rattle.elf_loader.specs.Image.{pages_in, image_pages, page_given, listed_page, KeptImage, ReadsImage}
use Rattle.elf_loader.specs.Reach.{IsBelowStack, Lies, IsTooMany}
use Rattle.elf_loader.specs.declared.header.ProgramHeader.{ProgramHeader}
use Rattle.elf_loader.specs.declared.image.ElfError.{ElfError}
use Rattle.elf_loader.specs.declared.image.ElfError.TheVariants.{TooShort, TableOutside, FileLarger, SegmentOutside, AddressOutside, TooManyPages, Memory}

-- Why a file is refused, and what is known of one that is taken.

-- The first refusal of two lists.

then_of : (xs ys : List (Option ElfError)) → first_refusal xs ≡ None → first_refusal (xs ++ ys) ≡ first_refusal ys
then_of [] ys h = refl
then_of (None ∷ xs) ys h = then_of xs ys h
then_of (Some e ∷ xs) ys h = cc

some_of : (xs ys : List (Option ElfError)) (e : ElfError) → first_refusal xs ≡ Some e → first_refusal (xs ++ ys) ≡ Some e
some_of [] ys e h = cc
some_of (None ∷ xs) ys e h = some_of xs ys e h
some_of (Some x ∷ xs) ys e h = h

none_before : (xs ys : List (Option ElfError)) → first_refusal (xs ++ ys) ≡ None → first_refusal xs ≡ None
none_before [] ys h = refl
none_before (None ∷ xs) ys h = none_before xs ys h
none_before (Some e ∷ xs) ys h = h

alone : (b : Bool) (e : ElfError) → first_refusal (refused_if b e ∷ []) ≡ refused_if b e
alone true e = refl
alone false e = refl

pub by_header : (file : List ℕ) (e : ElfError) → first_refusal (header_refusals file) ≡ Some e → file_refusal file ≡ Some e
unfolding file_refusal
by_header file e h = some_of (header_refusals file ++ table_refusals file) (page_refusals file) e (some_of (header_refusals file) (table_refusals file) e h)

pub by_table : (file : List ℕ) (e : ElfError) → first_refusal (header_refusals file) ≡ None → first_refusal (table_refusals file) ≡ Some e → file_refusal file ≡ Some e
unfolding file_refusal
by_table file e h t =
    some_of (header_refusals file ++ table_refusals file) (page_refusals file) e (then_of (header_refusals file) (table_refusals file) h ∙ t)

pub by_pages : (file : List ℕ) → first_refusal (header_refusals file) ≡ None → first_refusal (table_refusals file) ≡ None
    → file_refusal file ≡ cond (ltb MOST_IMAGE_PAGES (length (image_pages file))) (Some TooManyPages) None
unfolding file_refusal page_refusals
by_pages file h t =
    then_of (header_refusals file ++ table_refusals file) (page_refusals file) (then_of (header_refusals file) (table_refusals file) h ∙ t)
    ∙ alone (ltb MOST_IMAGE_PAGES (length (image_pages file))) TooManyPages

within : (n size at : ℕ) → ((n == 65535) || ends_behind size at (56 * n)) ≡ false → 0 < n → at + 56 * n ≤ size
within n size at h some = grind (arith, nat_tests)

-- a file whose header passes is long enough to have one, and its table is in it
pub record HeaderPasses (file : List ℕ) : Type 0 where
  pub long : 64 ≤ length file
  pub table : HasTable file

pub header_passes : (file : List ℕ) → first_refusal (header_refusals file) ≡ None → HeaderPasses file
unfolding header_refusals
header_passes file h =
    let at : (k : ℕ) → k < length (header_refusals file) → get_or (header_refusals file) k None ≡ None = λ k. none_holds (header_refusals file) k None h in
    record {
      long = ltb-false (length file) 64 (unless _ TooShort (at 0 (omega arith)));
      table = within (table_length file) (length file) (table_offset file) (unless _ TableOutside (at 8 (omega arith)));
    }

none_of : (test : ProgramHeader → Bool) (headers : List ProgramHeader) → list_any test headers ≡ false → All (λ h. test h ≡ false) headers
none_of test headers none k d h =
    false_from_ne_true (test (get_or headers k d)) (λ is. let some = list_any_at test headers k d h is in cc)

inside : (some size at : ℕ) → ends_behind size at some ≡ false → 0 < some → at + some ≤ size
inside some size at h is = grind (arith, nat_tests)

pub all_lie : (file : List ℕ) → first_refusal (table_refusals file) ≡ None → All (Lies file) (loads_of file)
unfolding table_refusals
all_lie file h k d below =
    let at : (i : ℕ) → i < length (table_refusals file) → get_or (table_refusals file) i None ≡ None = λ i. none_holds (table_refusals file) i None h in
    let none : (test : ProgramHeader → Bool) → list_any test (loads_of file) ≡ false → test (get_or (loads_of file) k d) ≡ false =
    λ test holds. none_of test (loads_of file) holds k d below in
    let header = get_or (loads_of file) k d in
    record {
      part = ltb-false header.memory_size header.file_size (none _ (unless _ FileLarger (at 1 (omega arith))));
      in_file = inside header.file_size (length file) header.offset (none _ (unless _ SegmentOutside (at 2 (omega arith))));
      below = inside header.memory_size STACK_ADDRESS header.address (none _ (unless _ AddressOutside (at 3 (omega arith))));
    }

pub all_below : (file : List ℕ) → first_refusal (table_refusals file) ≡ None → All IsBelowStack (loads_of file)
all_below file h k d below = let lies = all_lie file h k d below in record { part = lies.part; below = lies.below }

table_passes : (file : List ℕ) → file_refusal file ≡ None → first_refusal (table_refusals file) ≡ None
unfolding file_refusal
table_passes file h =
    let both = none_before (header_refusals file ++ table_refusals file) (page_refusals file) h in
    sym (then_of (header_refusals file) (table_refusals file) (none_before (header_refusals file) (table_refusals file) both)) ∙ both

pub taken_lie : (file : List ℕ) (headers : List ProgramHeader) → file_refusal file ≡ None → headers ≡ loads_of file → All (Lies file) headers
taken_lie file headers taken same = subst (All (Lies file)) (sym same) (all_lie file (table_passes file taken))

-- What reading a file answers.

pub reads_error : (file : List ℕ) (e : ElfError) → file_refusal file ≡ Some e → ReadsImage file (Err e)
reads_error file Memory h = tt
reads_error file e h = h

pub reads_err : (file : List ℕ) (r : Result KeptImage ElfError) (e : ElfError) → IsErr r × IsErrAnd r (λ x. x ≡ e) → ReadsImage file (Err e) → ReadsImage file r
reads_err file (Ok image) e is reads = let no_error = is.0 in cc
reads_err file (Err x) e is reads = subst (λ x. ReadsImage file (Err x)) (sym is.1) reads

-- the pages are the image's where it has so many
pub reads_too_many : (file : List ℕ) (e : ElfError) → first_refusal (header_refusals file) ≡ None → first_refusal (table_refusals file) ≡ None
    → IsTooMany (length (pages_in (loads_of file))) e → ReadsImage file (Err e)
unfolding image_pages
reads_too_many file TooManyPages h t many =
    by_pages file h t ∙ ap (λ b. cond b (Some TooManyPages) None) (lt-ltb MOST_IMAGE_PAGES (length (pages_in (loads_of file))) many)
reads_too_many file Memory h t many = tt
reads_too_many file e h t many = absurd many

pub taken_by : (file : List ℕ) → first_refusal (header_refusals file) ≡ None → first_refusal (table_refusals file) ≡ None
    → length (pages_in (loads_of file)) ≤ MOST_IMAGE_PAGES → file_refusal file ≡ None
unfolding image_pages
taken_by file h t few =
    by_pages file h t ∙ ap (λ b. cond b (Some TooManyPages) None) (le-ltb MOST_IMAGE_PAGES (length (pages_in (loads_of file))) few)

pub image_pages_are : (file : List ℕ) (headers : List ProgramHeader) → headers ≡ loads_of file
    → map (page_given headers) (pages_in headers) ≡ map (listed_page file) (image_pages file)
unfolding image_pages
image_pages_are file headers same = ap (λ hs. map (page_given hs) (pages_in hs)) same
