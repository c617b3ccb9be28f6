use Rattle.std.proofs.Common.{◌≡◌, ℕ, suc, ◌*◌, ◌<◌, ◌≤◌, nat_lt, Bool, true, false, cond, List, [], ◌∷◌, length, sym, ap, subst, ◌∙◌, refl, arith, Option, Some, None}
use Rattle.std.specs.Prelude.{Result, Ok, Err, IfOk, get_or}
use Rattle.std.specs.Option.{option_map, option_map_or}
use Rattle.std.specs.List.{AllByRecursion}
use Rattle.std.proofs.lemmas.Bool.Decides.{nat_tests}
use Rattle.sizes.specs.declared.TheConstants.{MOST_FILE_BYTES}
use Rattle.image_lines.specs.Lines.{IsByte, printed}
use Rattle.image_lines.specs.PrintedLaws.{printed_fits}
use Rattle.image_lines.specs.Said.{said_by}
use Rattle.image_lines.specs.SaidLaws.{said_printed}
use Rattle.delta_image.specs.declared.delta.Delta.{Delta}
use Rattle.delta_image.specs.Applied.{applied, gathered}
use Rattle.delta_image.specs.Fine.{IsImageOf}
use Rattle.delta_image.specs.Image.{image_of}
use Rattle.delta_image.specs.Said.{delta_of}
use Rattle.delta_image.specs.SaidLaws.{says_delta}
use Rattle.overlay_pages.specs.State.{State as Spaces, memory_of}
use Rattle.overlay_memory.specs.View.{TranslatedView, state_of}
use Rattle.machine_core.specs.Process.{Whole}
use Rattle.machine_core.specs.Machine.{Machine, spaces_of}
use Rattle.report_text.specs.declared.answer.Code.{Code}
use Rattle.report_text.specs.declared.answer.Code.TheVariants.{NoCheckpoint, TooLarge}
use Rattle.command_core.specs.declared.imaging.ExportError.{ExportError}
use Rattle.command_core.specs.declared.imaging.TheConstants.{MOST_EXPORTED}
use Rattle.command_core.specs.declared.checkpoints.Kept.{Kept}
use Rattle.command_core.specs.State.{Checkpoint}
use Rattle.command_core.specs.Kept.{checkpoint_in, checkpoints_in, kept_named}
use Rattle.command_core.specs.Checkpoints.{checkpoint_named}
use Rattle.command_core.specs.Images.{AreExported, ComeBack, ComesBack, IsOkResult, delta_between, delta_by, delta_or_code, exported_by, exported_of, image_between, short_enough}
use Rattle.command_core.proofs.Keeping.{named_shown}

-- What is exported.

-- whether an image is short enough, by its length
pub too_large : (image : List ℕ) (n : ℕ) → n ≡ length image → MOST_EXPORTED < n → short_enough image ≡ Err (TooLarge n)
too_large image n is more =
    let long : nat_lt MOST_EXPORTED (length image) ≡ true = grind (arith, nat_tests, is, more) in
    ap (λ (b : Bool). cond b (Err (TooLarge (length image))) (Ok image)) long ∙ ap (λ k. Err (TooLarge k)) (sym is)

pub short : (image : List ℕ) (n : ℕ) → n ≡ length image → n ≤ MOST_EXPORTED → short_enough image ≡ Ok image
short image n is few = ap (λ (b : Bool). cond b (Err (TooLarge (length image))) (Ok image)) not_long
  where
    by_test : (b : Bool) → nat_lt MOST_EXPORTED (length image) ≡ b → b ≡ false
    by_test true e = absurd (grind (arith, nat_tests, is, few, e))
    by_test false e = refl

    not_long : nat_lt MOST_EXPORTED (length image) ≡ false
    not_long = by_test (nat_lt MOST_EXPORTED (length image)) refl

-- each byte of a list fits
pub all_bytes : (bytes : List ℕ) → ((i : ℕ) → get_or bytes i 0 < 256) → AllByRecursion IsByte bytes
all_bytes [] each = tt
all_bytes (b ∷ bytes) each = (each 0, all_bytes bytes (λ i. each (suc i)))

-- an image has bytes
some_bytes : (delta : Delta) → 0 < length (image_of delta)
some_bytes delta = omega arith

module _ (spaces : Spaces) (x y : Kept) where
  abbrev whole : Whole
  whole = (checkpoint_in spaces x).whole

  abbrev base : Whole
  base = (checkpoint_in spaces y).whole

  pub image_is : (delta : Delta) (image : List ℕ) → delta ≡ gathered x.state x.regs (memory_of spaces x.space) (memory_of spaces y.space)
      → IsImageOf image delta → image ≡ image_between whole base
  unfolding image_between
  image_is delta image is encoded = encoded.1 ∙ ap image_of is

  pub comes_back : (delta : Delta) (image : List ℕ) → delta ≡ gathered x.state x.regs (memory_of spaces x.space) (memory_of spaces y.space)
      → applied delta (memory_of spaces y.space) ≡ memory_of spaces x.space → IsImageOf image delta → AllByRecursion IsByte image
      → length image ≤ MOST_EXPORTED → ComesBack whole base image
  comes_back delta image is back encoded bytes few = record {
    small = printed_fits image (omega (arith, few));
    said = ap delta_by (said_printed image (subst (λ (t : List ℕ). 0 < length t) (sym encoded.1) (some_bytes delta)) bytes)
        ∙ ap delta_or_code (says_delta image delta encoded) ∙ ap Ok is;
    back = λ i. record {
      registers = x.regs;
      state = x.state;
      memory = (ap (λ (d : Delta). applied d (memory_of spaces y.space)) (sym is) ∙ back) i;
    };
  }

-- Of a machine's memory, as it is lent.
module _ (machine : Machine) (memory : TranslatedView) (same : memory ≡ machine.memory) (x y : Kept) where
  abbrev of_memory : Delta
  of_memory = gathered x.state x.regs (memory_of (state_of memory) x.space) (memory_of (state_of memory) y.space)

  pub delta_same : (delta : Delta) → delta ≡ of_memory → delta ≡ gathered x.state x.regs (memory_of (spaces_of machine) x.space) (memory_of (spaces_of machine) y.space)
  delta_same delta is = is ∙ ap (λ (m : TranslatedView). gathered x.state x.regs (memory_of (state_of m) x.space) (memory_of (state_of m) y.space)) same

  pub length_is : (n : ℕ) → n ≡ length (image_of of_memory)
      → n ≡ length (image_between (checkpoint_in (spaces_of machine) x).whole (checkpoint_in (spaces_of machine) y).whole)
  unfolding image_between
  length_is n is = is ∙ ap (λ (d : Delta). length (image_of d)) (delta_same of_memory refl)

  pub back_same : (delta : Delta) → applied delta (memory_of (state_of memory) y.space) ≡ memory_of (state_of memory) x.space
      → applied delta (memory_of (spaces_of machine) y.space) ≡ memory_of (spaces_of machine) x.space
  back_same delta back = subst (λ (m : TranslatedView). applied delta (memory_of (state_of m) y.space) ≡ memory_of (state_of m) x.space) same back

-- want of memory comes where an image would have been
pub is_wanted : (r : Result (List ℕ) Code) (image : List ℕ) → r ≡ Ok image → IsOkResult r
is_wanted r image is = subst IsOkResult (sym is) tt

-- By name.
module _ (spaces : Spaces) (xs : List Kept) (name base : List ℕ) where
  abbrev found : List ℕ → Option Checkpoint
  found n = option_map (checkpoint_in spaces) (kept_named n xs)

  exported_found : (o p : Option Kept) → kept_named name xs ≡ o → kept_named base xs ≡ p
      → exported_by name base (checkpoints_in spaces xs) ≡ exported_of (option_map (checkpoint_in spaces) o) (option_map (checkpoint_in spaces) p)
  exported_found o p is also =
      λ i. exported_of ((named_shown name spaces xs ∙ ap (option_map (checkpoint_in spaces)) is) i)
      ((named_shown base spaces xs ∙ ap (option_map (checkpoint_in spaces)) also) i)

  pub exports_none : kept_named name xs ≡ None → exported_by name base (checkpoints_in spaces xs) ≡ Err NoCheckpoint
  exports_none none = exported_found None (kept_named base xs) none refl

  pub exports_baseless : (x : Kept) → kept_named name xs ≡ Some x → kept_named base xs ≡ None → exported_by name base (checkpoints_in spaces xs) ≡ Err NoCheckpoint
  exports_baseless x is none = exported_found (Some x) None is none

  module _ (x y : Kept) (is : kept_named name xs ≡ Some x) (also : kept_named base xs ≡ Some y) where
    pub exports_both : exported_by name base (checkpoints_in spaces xs) ≡ short_enough (image_between (checkpoint_in spaces x).whole (checkpoint_in spaces y).whole)
    exports_both = exported_found (Some x) (Some y) is also

    same_found : (n : List ℕ) (z : Kept) (c : Checkpoint) → kept_named n xs ≡ Some z → checkpoint_named n (checkpoints_in spaces xs) ≡ Some c
        → (checkpoint_in spaces z).whole ≡ c.whole
    same_found n z c here shown =
        let both : ◌≡◌ {A = Option Checkpoint} (Some (checkpoint_in spaces z)) (Some c) =
        sym (named_shown n spaces xs ∙ ap (option_map (checkpoint_in spaces)) here) ∙ shown in
        ap (λ (o : Option Checkpoint). option_map_or (λ (k : Checkpoint). k.whole) o c.whole) both

    pub come_back : (image : List ℕ) → ComesBack (checkpoint_in spaces x).whole (checkpoint_in spaces y).whole image
        → ComeBack name base (checkpoints_in spaces xs) image
    come_back image comes = λ a b first second.
        subst (λ (w : Whole). ComesBack w b.whole image) (same_found name x a is first)
        (subst (λ (w : Whole). ComesBack (checkpoint_in spaces x).whole w image) (same_found base y b also second) comes)

    pub come_back_of : {V : Type 0} (view : V → List ℕ) (r : Result V ExportError) → AreExported (checkpoint_in spaces x).whole (checkpoint_in spaces y).whole view r
        → IfOk r (λ image. ComeBack name base (checkpoints_in spaces xs) (view image))
    come_back_of view (Ok image) comes = come_back (view image) comes
    come_back_of view (Err error) comes = tt
