use Rattle.std.proofs.Common.{◌≡◌, ap, subst, ◌∙◌}
use Rattle.std.specs.Prelude.{Result, Ok, Err, IsErr, IsErrAnd}
use Rattle.ovl_io.specs.Outside.{Rose}
use Rattle.ovl_io.specs.declared.shelf.Shelf.{Ghosts as ShelfOf}
use Rattle.ovl_io.specs.declared.sink.Sink.{Ghosts as SinkOf}
use Rattle.overlay_top.specs.Outside.{ShelfHalted, SinkBy}
use Rattle.overlay_top.specs.declared.running.Halt.{Halt}
use Rattle.overlay_top.specs.declared.running.Halt.TheVariants as halt

pub by_err : {T E : Type 0} (r : Result T E) (e : E) → IsErr r × IsErrAnd r (λ x. x ≡ e) → r ≡ Err e
by_err (Ok x) e h = let no = h.0 in cc
by_err (Err x) e h = ap Err h.1

-- what a call showed of the faults of a shelf and of a sink, behind others that raised none
pub shelf_behind : {H : Type 0} (h : ShelfOf H) (old mid new : H) (why : Halt) → h.faults mid ≡ h.faults old → ShelfHalted h mid new why → ShelfHalted h old new why
shelf_behind h old mid new halt.Missing same is = (is.0 ∙ same, is.1)
shelf_behind h old mid new halt.FetchFailed same is = (subst (λ f. Rose f (h.faults new)) same is.0, is.1)
shelf_behind h old mid new halt.TooLong same is = is ∙ same
shelf_behind h old mid new halt.Memory same is = is ∙ same
shelf_behind h old mid new halt.SendFailed same is = is ∙ same

pub sink_behind : {K : Type 0} (k : SinkOf K) (old mid new : K) (why : Halt) → k.faults mid ≡ k.faults old → SinkBy k mid new (Err why) → SinkBy k old new (Err why)
sink_behind k old mid new halt.SendFailed same is = subst (λ f. Rose f (k.faults new)) same is
sink_behind k old mid new halt.Missing same is = is ∙ same
sink_behind k old mid new halt.FetchFailed same is = is ∙ same
sink_behind k old mid new halt.TooLong same is = is ∙ same
sink_behind k old mid new halt.Memory same is = is ∙ same
