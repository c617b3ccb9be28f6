use Rattle.std.proofs.Common.{◌≡◌, ℕ, ◌+◌, ◌/◌, ◌<◌, ◌≤◌, max, cond, ltb, List, [], take, drop, get_or, length, sym, ap, subst, ◌∙◌, arith, All}
use Rattle.std.specs.List.Sorted.{IsNonDecreasingBy}
use Rattle.std.proofs.lemmas.Bool.Decides.{nat_tests}
use Rattle.std.proofs.lemmas.List.{take_more, get_or-drop, length-drop, get_or_default}
use Rattle.std.proofs.lemmas.List.Elements.{All-more}
use Rattle.ovl_io.specs.Permissions.{readable, writable, executable}
use Rattle.elf_loader.specs.Image.{page_numbers}
use Rattle.elf_loader.specs.Reach.{first_page, memory_end, file_end, end_with, IsBelowStack}
use Rattle.elf_loader.specs.declared.header.ProgramHeader.{ProgramHeader}
use Rattle.elf_loader.specs.declared.sweep.Reach.{Reach}
use Rattle.elf_loader.proofs.Pages.{page_numbers_is}
use Rattle.elf_loader.proofs.Reaching.{tells_none, tells_more, IsReachOf}
use Rattle.elf_loader.proofs.Filling.{Gap}

-- How far a sweep over sorted segments has come.

pub reach_none : IsReachOf [] (record { memory = 0; read = 0; write = 0; execute = 0; file = 0 })
reach_none = record {
  memory = tells_none memory_end;
  read = tells_none (end_with readable);
  write = tells_none (end_with writable);
  execute = tells_none (end_with executable);
  file = tells_none file_end;
}

-- one segment more
pub reach_more : (headers : List ProgramHeader) (i : ℕ) (d : ProgramHeader) (old new : Reach) → i < length headers → IsReachOf (take i headers) old
    → new.memory ≡ max old.memory (memory_end (get_or headers i d))
    → new.read ≡ max old.read (end_with readable (get_or headers i d))
    → new.write ≡ max old.write (end_with writable (get_or headers i d))
    → new.execute ≡ max old.execute (end_with executable (get_or headers i d))
    → new.file ≡ max old.file (file_end (get_or headers i d))
    → IsReachOf (take (i + 1) headers) new
reach_more headers i d old new within is m r w x f =
    let header = get_or headers i d in
    subst (λ hs. IsReachOf hs new) (sym (take_more headers i d within)) (record {
      memory = tells_more memory_end old.memory new.memory (take i headers) header is.memory m;
      read = tells_more (end_with readable) old.read new.read (take i headers) header is.read r;
      write = tells_more (end_with writable) old.write new.write (take i headers) header is.write w;
      execute = tells_more (end_with executable) old.execute new.execute (take i headers) header is.execute x;
      file = tells_more file_end old.file new.file (take i headers) header is.file f;
    })

-- the first i segments begin at most in a page, and the others in it at the least
pub record Stands (headers : List ProgramHeader) (i at : ℕ) : Type 0 where
  pub begun : All (λ h. first_page h ≤ at) (take i headers)
  pub later : All (λ h. at ≤ first_page h) (drop i headers)

pub stands_first : (headers : List ProgramHeader) → Stands headers 0 0
stands_first headers = record { begun = λ k d h. absurd (omega arith); later = λ k d h. omega arith }

here : (headers : List ProgramHeader) (i at : ℕ) (d : ProgramHeader) → i < length headers → Stands headers i at → at ≤ first_page (get_or headers i d)
here headers i at d within stands =
    let zero_i : i + 0 ≡ i = omega arith in
    let there = stands.later 0 d (omega (arith, length-drop i headers)) in
    subst (λ h. at ≤ first_page h) (get_or-drop i headers 0 d ∙ ap (λ j. get_or headers j d) zero_i) there

pub stands_more : (headers : List ProgramHeader) (i at : ℕ) (d : ProgramHeader) → i < length headers → IsNonDecreasingBy first_page headers
    → Stands headers i at → Stands headers (i + 1) (first_page (get_or headers i d))
stands_more headers i at d within sorted stands =
    let at_here = here headers i at d within stands in
    record {
      begun = All-more (λ h. first_page h ≤ first_page (get_or headers i d)) headers i d within
          (λ k e h. let low = stands.begun k e h in omega arith) (omega arith);
      later = λ k e h.
          let inside : i + 1 + k < length headers = omega (arith, length-drop (i + 1) headers) in
          subst (λ x. first_page (get_or headers i d) ≤ first_page x) (sym (get_or-drop (i + 1) headers k e))
          (subst (λ x. first_page x ≤ first_page (get_or headers (i + 1 + k) e)) (get_or_default headers i e d within) (sorted i (i + 1 + k) e (omega arith) inside));
    }

-- from where it stands to where the next segment begins
pub gap_before : (headers : List ProgramHeader) (i at : ℕ) (d : ProgramHeader) (reach : Reach) → i < length headers → All IsBelowStack headers
    → IsNonDecreasingBy first_page headers → Stands headers i at → IsReachOf (take i headers) reach → Gap headers i at (first_page (get_or headers i d)) reach
gap_before headers i at d reach within below sorted stands is = record {
  ascends = here headers i at d within stands;
  below = below;
  splits = λ q low high. record {
    begun = λ k e h. let first = stands.begun k e h in omega arith;
    later = λ k e h.
        let inside : i + k < length headers = omega (arith, length-drop i headers) in
        subst (λ x. q < first_page x) (sym (get_or-drop i headers k e))
        (let up = sorted i (i + k) e (omega arith) inside in
        let same = ap first_page (get_or_default headers i e d within) in omega arith);
  };
  is = is;
}

-- from where it stands after the last segment, to the end
pub gap_behind : (headers : List ProgramHeader) (i at : ℕ) (reach : Reach) → length headers ≤ i → at ≤ page_numbers → All IsBelowStack headers
    → Stands headers i at → IsReachOf (take i headers) reach → Gap headers i at page_numbers reach
gap_behind headers i at reach past low below stands is = record {
  ascends = low;
  below = below;
  splits = λ q from to. record {
    begun = λ k e h. let first = stands.begun k e h in omega arith;
    later = λ k e h. absurd (omega (arith, length-drop i headers));
  };
  is = is;
}

low_first : (a s : ℕ) → (0 < s → a + s ≤ 274877841408) → cond (ltb 0 s) (a / 4096) 0 ≤ 67108864
low_first a s h = grind (arith, nat_tests)

-- a segment begins at most in the last page
pub first_low : (header : ProgramHeader) → IsBelowStack header → first_page header ≤ page_numbers
first_low header is = let low = low_first header.address header.memory_size is.below in omega (arith, page_numbers_is)
