use Rattle.std.proofs.Common.{◌≡◌, ℕ, ◌+◌, ◌-◌, ◌/◌, ◌<◌, ◌≤◌, Bool, true, false, cond, ◌&&◌, ◌||◌, ltb, max, List, [], ◌∷◌, ◌++◌, take, drop, get_or, sym, ap, ◌∙◌, inl, inr, arith, refl, All}
use Rattle.std.specs.List.{list_any}
use Rattle.std.proofs.lemmas.Bool.{cases_lt, le-ltb}
use Rattle.std.proofs.lemmas.Bool.Decides.{nat_tests}
use Rattle.std.proofs.lemmas.List.{take-append-drop}
use Rattle.std.proofs.lemmas.List.Folds.{list_any-append, list_any_none}
use Rattle.std.proofs.lemmas.List.Elements.{All-head, All-tail, All-take}
use Rattle.ovl_io.specs.Permissions.{readable, writable, executable, permits}
use Rattle.elf_loader.specs.Image.{touches, touches_memory, touches_file, perms_of}
use Rattle.elf_loader.specs.Reach.{pages_end, first_page, memory_end, file_end, end_with, IsBelowStack}
use Rattle.elf_loader.specs.declared.header.ProgramHeader.{ProgramHeader}
use Rattle.elf_loader.specs.declared.sweep.Reach.{Reach}

-- Whether some of the segments that begin in or before a page touch it shows by the largest of their ends.

not_yet : (a s q : ℕ) → q < a / 4096 → touches a s q ≡ false
not_yet a s q h = grind (arith, nat_tests)

empty : (a s q : ℕ) → s ≤ 0 → touches a s q ≡ ltb q (cond (ltb 0 s) ((a + s - 1) / 4096 + 1) 0)
empty a s q h = grind (arith, nat_tests)

some : (a s q : ℕ) → 0 < s → a / 4096 ≤ q → touches a s q ≡ ltb q (cond (ltb 0 s) ((a + s - 1) / 4096 + 1) 0)
some a s q h low = grind (arith, nat_tests)

-- a range that begins in or before a page touches it where its end lies above
by_end : (a s q : ℕ) → (0 < s → a / 4096 ≤ q) → touches a s q ≡ ltb q (pages_end a s)
by_end a s q low = elim (cases_lt 0 s) [ inl h ↦ some a s q h (low h) | inr h ↦ empty a s q h ]

-- where a segment begins
begun : (a s q : ℕ) → cond (ltb 0 s) (a / 4096) 0 ≤ q → 0 < s → a / 4096 ≤ q
begun a s q low h = grind (arith, nat_tests)

later : (a s q : ℕ) → q < cond (ltb 0 s) (a / 4096) 0 → q < a / 4096
later a s q h = grind (arith, nat_tests)

memory_by_end : (header : ProgramHeader) (q : ℕ) → first_page header ≤ q → touches_memory q header ≡ ltb q (memory_end header)
memory_by_end header q low = by_end header.address header.memory_size q (begun header.address header.memory_size q low)

file_by_end : (header : ProgramHeader) (q : ℕ) → header.file_size ≤ header.memory_size → first_page header ≤ q → touches_file q header ≡ ltb q (file_end header)
file_by_end header q part low =
    by_end header.address header.file_size q (λ h. begun header.address header.memory_size q low (omega arith))

with_if : (b t : Bool) (q e : ℕ) → t ≡ ltb q e → (t && b) ≡ ltb q (cond b e 0)
with_if true t q e h = grind (arith, nat_tests)
with_if false t q e h = grind (arith, nat_tests)

with_by_end : (need : ℕ) (header : ProgramHeader) (q : ℕ) → first_page header ≤ q
    → (touches_memory q header && permits (perms_of header) need) ≡ ltb q (end_with need header)
with_by_end need header q low = with_if (permits (perms_of header) need) _ q (memory_end header) (memory_by_end header q low)

-- the largest end of some segments, by what it says of each page
abbrev pub Tells : (ProgramHeader → ℕ) → ℕ → List ProgramHeader → Type 0
Tells end r headers = (q : ℕ) → list_any (λ header. ltb q (end header)) headers ≡ ltb q r

pub tells_none : (end : ProgramHeader → ℕ) → Tells end 0 []
tells_none end q = sym (le-ltb q 0 (omega arith))

larger : (a b : Bool) (q r e : ℕ) → a ≡ ltb q r → b ≡ ltb q e → (a || (b || false)) ≡ ltb q (max r e)
larger a b q r e h k = grind (arith, nat_tests)

pub tells_more : (end : ProgramHeader → ℕ) (r s : ℕ) (headers : List ProgramHeader) (header : ProgramHeader)
    → Tells end r headers → s ≡ max r (end header) → Tells end s (headers ++ header ∷ [])
tells_more end r s headers header so_far is q =
    list_any-append (λ header. ltb q (end header)) headers (header ∷ [])
    ∙ larger _ _ q r (end header) (so_far q) refl ∙ ap (ltb q) (sym is)

agree : (p t : ProgramHeader → Bool) (headers : List ProgramHeader) → All (λ h. p h ≡ t h) headers → list_any p headers ≡ list_any t headers
agree p t [] h = refl
agree p t (x ∷ xs) h =
    ap (λ b. b || list_any p xs) (All-head (λ y. p y ≡ t y) x xs h) ∙ ap (λ b. t x || b) (agree p t xs (All-tail (λ y. p y ≡ t y) x xs h))

left_alone : (a b c : Bool) → a ≡ c → b ≡ false → (a || b) ≡ c
left_alone true b c h k = h
left_alone false b c h k = k ∙ h

-- a test that shows by an end among the first segments, and that the others fail
pub any_by_end : (test : ProgramHeader → Bool) (end : ProgramHeader → ℕ) (headers : List ProgramHeader) (i q r : ℕ)
    → All (λ h. test h ≡ ltb q (end h)) (take i headers) → All (λ h. test h ≡ false) (drop i headers) → Tells end r (take i headers)
    → list_any test headers ≡ ltb q r
any_by_end test end headers i q r front rest tells =
    ap (list_any test) (sym (take-append-drop i headers)) ∙ list_any-append test (take i headers) (drop i headers)
    ∙ left_alone _ _ _ (agree test (λ h. ltb q (end h)) (take i headers) front ∙ tells q) (list_any_none test (drop i headers) rest)

-- a reach is that of some segments
pub record IsReachOf (headers : List ProgramHeader) (reach : Reach) : Type 0 where
  pub memory : Tells memory_end reach.memory headers
  pub read : Tells (end_with readable) reach.read headers
  pub write : Tells (end_with writable) reach.write headers
  pub execute : Tells (end_with executable) reach.execute headers
  pub file : Tells file_end reach.file headers

-- Segments of which the first i begin in or before a page, and the others behind it.
pub record Splits (headers : List ProgramHeader) (i q : ℕ) : Type 0 where
  pub begun : All (λ h. first_page h ≤ q) (take i headers)
  pub later : All (λ h. q < first_page h) (drop i headers)

pub some_touch : (headers : List ProgramHeader) (i q r : ℕ) → Splits headers i q → Tells memory_end r (take i headers)
    → list_any (touches_memory q) headers ≡ ltb q r
some_touch headers i q r at tells =
    any_by_end (touches_memory q) memory_end headers i q r
    (λ k d h. memory_by_end (get_or (take i headers) k d) q (at.begun k d h))
    (λ k d h. not_yet _ _ q (later (get_or (drop i headers) k d).address (get_or (drop i headers) k d).memory_size q (at.later k d h)))
    tells

first_false : (a b : Bool) → a ≡ false → (a && b) ≡ false
first_false a b h = cc

pub some_with : (need : ℕ) (headers : List ProgramHeader) (i q r : ℕ) → Splits headers i q → Tells (end_with need) r (take i headers)
    → list_any (λ h. touches_memory q h && permits (perms_of h) need) headers ≡ ltb q r
some_with need headers i q r at tells =
    any_by_end (λ h. touches_memory q h && permits (perms_of h) need) (end_with need) headers i q r
    (λ k d h. with_by_end need (get_or (take i headers) k d) q (at.begun k d h))
    (λ k d h. first_false _ _ (not_yet _ _ q (later (get_or (drop i headers) k d).address (get_or (drop i headers) k d).memory_size q (at.later k d h))))
    tells

pub some_stored : (headers : List ProgramHeader) (i q r : ℕ) → All IsBelowStack headers → Splits headers i q → Tells file_end r (take i headers)
    → list_any (touches_file q) headers ≡ ltb q r
some_stored headers i q r below at tells =
    any_by_end (touches_file q) file_end headers i q r
    (λ k d h. file_by_end (get_or (take i headers) k d) q (All-take IsBelowStack i headers below k d h).part (at.begun k d h))
    (λ k d h. not_yet _ _ q (later (get_or (drop i headers) k d).address (get_or (drop i headers) k d).memory_size q (at.later k d h)))
    tells
