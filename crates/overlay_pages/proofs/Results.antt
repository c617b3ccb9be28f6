use Rattle.overlay_pages.proofs.Common.{Result, Ok, Err, OnOk, OnErr}

-- What holds of a result in either case.

pub either : {X E : Type 0} (P : Type 0) (A B : Type 0) (r : Result X E) → OnOk r A → OnErr r B → (A → P) → (B → P) → P
either P A B (Ok x) a b f g = f a
either P A B (Err e) a b f g = g b

pub on_ok : {X E : Type 0} {A B : Type 0} (r : Result X E) → OnOk r A → (A → B) → OnOk r B
on_ok (Ok x) a f = f a
on_ok (Err e) a f = tt
