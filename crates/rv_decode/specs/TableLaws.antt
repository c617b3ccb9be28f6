-- Laws of the table: a test over all names, and that no word fits the rows of two.
use Rattle.std.proofs.Common.{◌≡◌, ℕ, zero, suc, ◌==◌, ◌<◌, Bool, true, List, [], ◌∷◌, Contains, length, get_or, map, subst, bit_and, refl, ap, sym, ◌∙◌, inl, inr, arith, lit<}
use Rattle.std.specs.Prelude.{AllPairs, ◌&&◌, not}
use Rattle.std.specs.List.{list_all}
use Rattle.std.proofs.lemmas.Bool.{eqb-true, eqb-false, not-true, and_parts, cases_order}
use Rattle.std.proofs.lemmas.Nat.{and_assoc, and_comm}
use Rattle.std.proofs.lemmas.List.Elements.{All-contains, All-weaker}
use Rattle.std.proofs.lemmas.List.Kept.{AllPairs-cons}
use Rattle.std.proofs.lemmas.List.Sums.{AllPass-from_list_all}
use Rattle.rv_decode.specs.declared.names.Name.{Name}
use Rattle.rv_decode.specs.declared.names.Name.TheVariants.{Lui, Auipc, Jal, Jalr, Beq, Bne, Blt, Bge, Bltu, Bgeu, Lb, Lh, Lw, Ld, Lbu, Lhu, Lwu, Sb, Sh, Sw, Sd, Addi, Slti, Sltiu, Xori, Ori, Andi, Slli, Srli, Srai, Add, Sub, Sll, Slt, Sltu, Xor, Srl, Sra, Or, And, Addiw, Slliw, Srliw, Sraiw, Addw, Subw, Sllw, Srlw, Sraw, Fence, Ecall, Ebreak, Mul, Mulh, Mulhsu, Mulhu, Div, Divu, Rem, Remu, Mulw, Divw, Divuw, Remw, Remuw}
use Rattle.rv_decode.specs.declared.rows.CaseRow.{CaseRow}
use Rattle.rv_decode.specs.Table.{row_of, all_names}
use Rattle.rv_decode.specs.Fits.{FitsRow, FitsAt, IsWithinMask, AreApart, IsCaseTable}

-- each name stands in the list of all
pub all_names-contains : (name : Name) → Contains all_names name
all_names-contains Lui = (0, lit< tt, refl)
all_names-contains Auipc = (1, lit< tt, refl)
all_names-contains Jal = (2, lit< tt, refl)
all_names-contains Jalr = (3, lit< tt, refl)
all_names-contains Beq = (4, lit< tt, refl)
all_names-contains Bne = (5, lit< tt, refl)
all_names-contains Blt = (6, lit< tt, refl)
all_names-contains Bge = (7, lit< tt, refl)
all_names-contains Bltu = (8, lit< tt, refl)
all_names-contains Bgeu = (9, lit< tt, refl)
all_names-contains Lb = (10, lit< tt, refl)
all_names-contains Lh = (11, lit< tt, refl)
all_names-contains Lw = (12, lit< tt, refl)
all_names-contains Ld = (13, lit< tt, refl)
all_names-contains Lbu = (14, lit< tt, refl)
all_names-contains Lhu = (15, lit< tt, refl)
all_names-contains Lwu = (16, lit< tt, refl)
all_names-contains Sb = (17, lit< tt, refl)
all_names-contains Sh = (18, lit< tt, refl)
all_names-contains Sw = (19, lit< tt, refl)
all_names-contains Sd = (20, lit< tt, refl)
all_names-contains Addi = (21, lit< tt, refl)
all_names-contains Slti = (22, lit< tt, refl)
all_names-contains Sltiu = (23, lit< tt, refl)
all_names-contains Xori = (24, lit< tt, refl)
all_names-contains Ori = (25, lit< tt, refl)
all_names-contains Andi = (26, lit< tt, refl)
all_names-contains Slli = (27, lit< tt, refl)
all_names-contains Srli = (28, lit< tt, refl)
all_names-contains Srai = (29, lit< tt, refl)
all_names-contains Add = (30, lit< tt, refl)
all_names-contains Sub = (31, lit< tt, refl)
all_names-contains Sll = (32, lit< tt, refl)
all_names-contains Slt = (33, lit< tt, refl)
all_names-contains Sltu = (34, lit< tt, refl)
all_names-contains Xor = (35, lit< tt, refl)
all_names-contains Srl = (36, lit< tt, refl)
all_names-contains Sra = (37, lit< tt, refl)
all_names-contains Or = (38, lit< tt, refl)
all_names-contains And = (39, lit< tt, refl)
all_names-contains Addiw = (40, lit< tt, refl)
all_names-contains Slliw = (41, lit< tt, refl)
all_names-contains Srliw = (42, lit< tt, refl)
all_names-contains Sraiw = (43, lit< tt, refl)
all_names-contains Addw = (44, lit< tt, refl)
all_names-contains Subw = (45, lit< tt, refl)
all_names-contains Sllw = (46, lit< tt, refl)
all_names-contains Srlw = (47, lit< tt, refl)
all_names-contains Sraw = (48, lit< tt, refl)
all_names-contains Fence = (49, lit< tt, refl)
all_names-contains Ecall = (50, lit< tt, refl)
all_names-contains Ebreak = (51, lit< tt, refl)
all_names-contains Mul = (52, lit< tt, refl)
all_names-contains Mulh = (53, lit< tt, refl)
all_names-contains Mulhsu = (54, lit< tt, refl)
all_names-contains Mulhu = (55, lit< tt, refl)
all_names-contains Div = (56, lit< tt, refl)
all_names-contains Divu = (57, lit< tt, refl)
all_names-contains Rem = (58, lit< tt, refl)
all_names-contains Remu = (59, lit< tt, refl)
all_names-contains Mulw = (60, lit< tt, refl)
all_names-contains Divw = (61, lit< tt, refl)
all_names-contains Divuw = (62, lit< tt, refl)
all_names-contains Remw = (63, lit< tt, refl)
all_names-contains Remuw = (64, lit< tt, refl)

-- a test that passes along the table passes at each name
pub each_name : (test : Name → Bool) → list_all test all_names ≡ true → (name : Name) → test name ≡ true
each_name test all name =
    All-contains (λ n. test n ≡ true) all_names name (AllPass-from_list_all test all_names all) (all_names-contains name)

-- two masks of one word are taken in either order
pub and_swap : (w a b : ℕ) → bit_and (bit_and w a) b ≡ bit_and (bit_and w b) a
and_swap w a b = and_assoc b w a ∙ ap (bit_and w) (and_comm a b) ∙ sym (and_assoc a w b)

-- a row that fits agrees with the word's known bits wherever the row fixes them
pub known_bits : (word mask key : ℕ) (row : CaseRow) → bit_and word mask ≡ key → FitsRow row word → bit_and row.value mask ≡ bit_and key row.mask
known_bits word mask key row known fit =
    ap (λ x. bit_and x mask) (sym fit) ∙ and_swap word row.mask mask ∙ ap (λ x. bit_and x row.mask) known

-- a row that fits stands at a place of the list
pub at_place : (rows : List CaseRow) (word k : ℕ) (d : CaseRow) → FitsAt rows word k → (k < length rows) × FitsRow (get_or rows k d) word
at_place [] word k d fit = absurd fit
at_place (r ∷ rs) word zero d fit = (omega arith, fit)
at_place (r ∷ rs) word (suc k) d fit = let rest = at_place rs word k d fit in (omega (arith, rest.0), rest.1)

-- the test of each two rows
abbrev pub are_apart : CaseRow → CaseRow → Bool
are_apart a b = not (bit_and a.value b.mask == bit_and b.value a.mask)

abbrev pub all_apart : List CaseRow → Bool
all_apart [] = true
all_apart (r ∷ rs) = list_all (are_apart r) rs && all_apart rs

pub AllPairs-from_test : (rows : List CaseRow) → all_apart rows ≡ true → AllPairs AreApart rows
AllPairs-from_test [] test = λ i j d before within. absurd (omega (arith, within))
AllPairs-from_test (r ∷ rs) test =
    let both = and_parts _ _ test in
    AllPairs-cons AreApart r rs
    (All-weaker (λ b. are_apart r b ≡ true) (AreApart r) (λ b h. eqb-false _ _ (not-true _ h)) rs (AllPass-from_list_all (are_apart r) rs both.0))
    (AllPairs-from_test rs both.1)

-- no word fits two places of a list whose rows are apart
pub one_place : (rows : List CaseRow) → AllPairs AreApart rows → (word j k : ℕ) → FitsAt rows word j → FitsAt rows word k → j ≡ k
one_place [] apart word j k first second = absurd first
one_place (r ∷ rs) apart word j k first second =
    let rows : List CaseRow = r ∷ rs in
    let a = at_place rows word j r first in
    let b = at_place rows word k r second in
    elim (cases_order j k) [
      | inl same ↦ same
      | inr other ↦ elim other [
        | inl below ↦ absurd (apart j k r below b.0 (known_bits word _ _ (get_or rows j r) b.1 a.1))
        | inr above ↦ absurd (apart k j r above a.0 (known_bits word _ _ (get_or rows k r) a.1 b.1))
      ]
    ]

-- the test of a table
abbrev pub is_case_table : List CaseRow → Bool
is_case_table rows = list_all (λ row. bit_and row.value row.mask == row.value) rows && all_apart rows

pub IsCaseTable-from_test : (rows : List CaseRow) → is_case_table rows ≡ true → IsCaseTable rows
IsCaseTable-from_test rows test =
    let both = and_parts _ _ test in
    record {
      within = All-weaker (λ row. (bit_and row.value row.mask == row.value) ≡ true) IsWithinMask (λ row same. eqb-true _ _ same) rows
          (AllPass-from_list_all (λ row. bit_and row.value row.mask == row.value) rows both.0);
      apart = AllPairs-from_test rows both.1;
    }

-- a name whose row fits stands at its place of the list
fits_at_name : (word : ℕ) (names : List Name) (k : ℕ) (name : Name) → k < length names → get_or names k name ≡ name → FitsRow (row_of name) word → FitsAt (map row_of names) word k
fits_at_name word [] k name within here fit = absurd (omega (arith, within))
fits_at_name word (n ∷ ns) zero name within here fit = subst (λ x. FitsRow (row_of x) word) (sym here) fit
fits_at_name word (n ∷ ns) (suc k) name within here fit = fits_at_name word ns k name (omega (arith, within)) here fit

-- within a list the default is not read
get_or_default : (names : List Name) (k : ℕ) (a b : Name) → k < length names → get_or names k a ≡ get_or names k b
get_or_default [] k a b within = absurd (omega (arith, within))
get_or_default (n ∷ ns) zero a b within = refl
get_or_default (n ∷ ns) (suc k) a b within = get_or_default ns k a b (omega (arith, within))

same_at : (names : List Name) (j k : ℕ) (a b : Name) → j < length names → j ≡ k → get_or names j a ≡ a → get_or names k b ≡ b → a ≡ b
same_at [] j k a b within e at_j at_k = absurd (omega (arith, within))
same_at (n ∷ ns) j k a b within e at_j at_k = sym at_j ∙ get_or_default (n ∷ ns) j a b within ∙ ap (λ i. get_or (n ∷ ns) i b) e ∙ at_k

-- no word fits the rows of two names
pub one_name : (word : ℕ) (a b : Name) → FitsRow (row_of a) word → FitsRow (row_of b) word → a ≡ b
one_name word a b fit_a fit_b =
    let ca = all_names-contains a in
    let cb = all_names-contains b in
    let rows : List CaseRow = map row_of all_names in
    same_at all_names ca.0 cb.0 a b ca.1
    (one_place rows (AllPairs-from_test rows refl) word ca.0 cb.0
    (fits_at_name word all_names ca.0 a ca.1 ca.2 fit_a) (fits_at_name word all_names cb.0 b cb.1 cb.2 fit_b)) ca.2 cb.2
