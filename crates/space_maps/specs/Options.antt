use Rattle.std.specs.Prelude.{◌≡◌, Bool, true, false, Option, Some, None, is_some, refl}
use Rattle.std.proofs.Common.{sym, ap}
use Rattle.std.proofs.lemmas.Option.{none-some, same_Some}
use Rattle.std.specs.Option.{option_map}

-- Laws of options and tests: what holds in either case holds, and one that is mapped.

pub by_option : {X P : Type 0} (o : Option X) → (o ≡ None → P) → ((x : X) → o ≡ Some x → P) → P
by_option None none some = none refl
by_option (Some x) none some = some x refl

pub by_test : {P : Type 0} (b : Bool) → (b ≡ true → P) → (b ≡ false → P) → P
by_test true yes_ no_ = yes_ refl
by_test false yes_ no_ = no_ refl

pub none_by : {X : Type 0} (o : Option X) → is_some o ≡ false → o ≡ None
none_by None h = refl
none_by (Some x) h = cc

-- by two functions that agree on it, one after the other, and by one that changes nothing
pub map_alike : {X Y : Type 0} (f g : X → Y) (o : Option X) → ((x : X) → o ≡ Some x → f x ≡ g x) → option_map f o ≡ option_map g o
map_alike f g None same = refl
map_alike f g (Some x) same = ap Some (same x refl)

pub map_twice : {X Y Z : Type 0} (f : Y → Z) (g : X → Y) (h : X → Z) (o : Option X) → ((x : X) → o ≡ Some x → f (g x) ≡ h x) → option_map f (option_map g o) ≡ option_map h o
map_twice f g h None same = refl
map_twice f g h (Some x) same = ap Some (same x refl)

pub map_still : {X : Type 0} (f : X → X) → ((x : X) → f x ≡ x) → (o : Option X) → o ≡ option_map f o
map_still f same None = refl
map_still f same (Some x) = ap Some (sym (same x))

-- what is there comes from something
pub map_from : {X Y P : Type 0} (f : X → Y) (o : Option X) (y : Y) → option_map f o ≡ Some y → ((x : X) → o ≡ Some x → f x ≡ y → P) → P
map_from f None y h go = absurd (none-some y h)
map_from f (Some x) y h go = go x refl (same_Some (f x) y h)

pub map_some : {X Y : Type 0} (f : X → Y) (o : Option X) → is_some (option_map f o) ≡ is_some o
map_some f None = refl
map_some f (Some x) = refl
