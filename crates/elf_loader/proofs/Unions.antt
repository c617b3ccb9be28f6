use Rattle.std.proofs.Common.{◌≡◌, ℕ, ◌<◌, Bool, true, false, cond, ◌&&◌, ◌||◌, ◌==◌, List, [], ◌∷◌, fold, sym, ap, ◌∙◌, refl, arith, bit_or, bit_and}
use Rattle.std.specs.List.{filter, list_any}
use Rattle.std.proofs.lemmas.Bool.{eqb-true, and_parts, agree_below_at}
use Rattle.std.proofs.Math.Bool.{or_assoc, or-false}
use Rattle.std.proofs.lemmas.Nat.{and_le_r}
use Rattle.ovl_io.specs.Permissions.{readable, writable, executable, permits}
use Rattle.elf_loader.specs.Image.{touches_memory, perms_of, perms_in}
use Rattle.elf_loader.specs.Reach.{perms_by}
use Rattle.elf_loader.specs.declared.header.ProgramHeader.{ProgramHeader}

-- A union of permissions, permission by permission.

-- a test of a choice that holds both ways
abbrev both : (Bool → Bool) → Bool
both p = p true && p false

each : (p : Bool → Bool) → both p ≡ true → (b : Bool) → p b ≡ true
each p h true = (and_parts (p true) (p false) h).0
each p h false = (and_parts (p true) (p false) h).1

abbrev unites : Bool → Bool → Bool → Bool → Bool → Bool → Bool
unites r w x a b d = bit_or (perms_by r w x) (perms_by a b d) == perms_by (r || a) (w || b) (x || d)

-- the union of permissions that are given one by one
union_by : (r w x a b d : Bool) → bit_or (perms_by r w x) (perms_by a b d) ≡ perms_by (r || a) (w || b) (x || d)
union_by r w x a b d =
    let r_is = each (λ r. both (λ w. both (λ x. both (λ a. both (λ b. both (λ d. unites r w x a b d)))))) refl r in
    let w_is = each (λ w. both (λ x. both (λ a. both (λ b. both (λ d. unites r w x a b d))))) r_is w in
    let x_is = each (λ x. both (λ a. both (λ b. both (λ d. unites r w x a b d)))) w_is x in
    let a_is = each (λ a. both (λ b. both (λ d. unites r w x a b d))) x_is a in
    let b_is = each (λ b. both (λ d. unites r w x a b d)) a_is b in
    eqb-true _ _ (each (λ d. unites r w x a b d) b_is d)

abbrev with_read : ℕ → ℕ
with_read bits = cond (permits bits writable) (bit_or bits readable) bits

abbrev by_three : ℕ → ℕ
by_three perms = perms_by (permits perms readable) (permits perms writable) (permits perms executable)

-- a segment's permissions are what each of the three says
three : (bits : ℕ) → bits < 8 → with_read bits ≡ by_three (with_read bits)
three bits small = eqb-true _ _ (agree_below_at (λ n. with_read n == by_three (with_read n)) (λ n. true) 8 bits refl small)

perms_of_is : (header : ProgramHeader) → perms_of header ≡ by_three (perms_of header)
perms_of_is header = let le = and_le_r header.flags 7 in three (bit_and header.flags 7) (omega arith)

-- whether some segment that touches a page has a permission
abbrev pub some_have : ℕ → ℕ → List ProgramHeader → Bool
some_have need page headers = list_any (λ header. touches_memory page header && permits (perms_of header) need) headers

pub three_same : (r w x a b d : Bool) → r ≡ a → w ≡ b → x ≡ d → perms_by r w x ≡ perms_by a b d
three_same r w x a b d h k l = λ i. perms_by (h i) (k i) (l i)

-- one header more, which touches the page or doesn't
step : (t : Bool) (header : ProgramHeader) (rest : List ProgramHeader) (r w x u v z : Bool)
    → ((r w x : Bool) → fold (λ perms h. bit_or perms (perms_of h)) (perms_by r w x) rest ≡ perms_by (r || u) (w || v) (x || z))
    → fold (λ perms h. bit_or perms (perms_of h)) (perms_by r w x) (cond t (header ∷ rest) rest)
    ≡ perms_by (r || ((t && permits (perms_of header) readable) || u)) (w || ((t && permits (perms_of header) writable) || v))
    (x || ((t && permits (perms_of header) executable) || z))
step true header rest r w x u v z others =
    let a = permits (perms_of header) readable in
    let b = permits (perms_of header) writable in
    let d = permits (perms_of header) executable in
    ap (λ perms. fold (λ perms h. bit_or perms (perms_of h)) perms rest) (ap (bit_or (perms_by r w x)) (perms_of_is header) ∙ union_by r w x a b d)
    ∙ others (r || a) (w || b) (x || d)
    ∙ three_same _ _ _ _ _ _ (or_assoc r a u) (or_assoc w b v) (or_assoc x d z)
step false header rest r w x u v z others = others r w x

unions : (page : ℕ) (headers : List ProgramHeader) (r w x : Bool)
    → fold (λ perms h. bit_or perms (perms_of h)) (perms_by r w x) (filter (touches_memory page) headers)
    ≡ perms_by (r || some_have readable page headers) (w || some_have writable page headers) (x || some_have executable page headers)
unions page [] r w x = three_same _ _ _ _ _ _ (sym (or-false r)) (sym (or-false w)) (sym (or-false x))
unions page (header ∷ headers) r w x =
    step (touches_memory page header) header (filter (touches_memory page) headers) r w x
    (some_have readable page headers) (some_have writable page headers) (some_have executable page headers) (unions page headers)

-- a page's permissions, by whether some segment that touches it has each
pub perms_in_is : (headers : List ProgramHeader) (page : ℕ)
    → perms_in headers page ≡ perms_by (some_have readable page headers) (some_have writable page headers) (some_have executable page headers)
perms_in_is headers page = unions page headers false false false
