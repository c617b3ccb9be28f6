use Rattle.std.specs.Prelude.{◌≡◌, ℕ, List, Some, Result, Ok, Err}
use Rattle.ovl_io.specs.Outside.{Rose}
use Rattle.ovl_io.specs.declared.shelf.ShelfError.{ShelfError}
use Rattle.ovl_io.specs.declared.shelf.ShelfError.TheVariants as shelf
use Rattle.ovl_io.specs.declared.source.Source.{Ghosts as SourceOf}
use Rattle.ovl_io.specs.declared.shelf.Shelf.{Ghosts as ShelfOf}
use Rattle.ovl_io.specs.declared.sink.Sink.{Ghosts as SinkOf}
use Rattle.overlay_top.specs.declared.running.Halt.{Halt}
use Rattle.overlay_top.specs.declared.running.Halt.TheVariants.{Missing, FetchFailed, SendFailed}

-- What the outside shows of a call, by its objects before it and after it: whether its faults rose, or none came.

abbrev pub SourceRose : {S : Type 0} → SourceOf S → S → S → Type 0
SourceRose s old new = Rose (s.faults old) (s.faults new)

abbrev pub SourceSound : {S : Type 0} → SourceOf S → S → S → Type 0
SourceSound s old new = s.faults new ≡ s.faults old

abbrev pub ShelfRose : {H : Type 0} → ShelfOf H → H → H → Type 0
ShelfRose h old new = Rose (h.faults old) (h.faults new)

abbrev pub ShelfSound : {H : Type 0} → ShelfOf H → H → H → Type 0
ShelfSound h old new = h.faults new ≡ h.faults old

abbrev pub SinkRose : {K : Type 0} → SinkOf K → K → K → Type 0
SinkRose k old new = Rose (k.faults old) (k.faults new)

abbrev pub SinkSound : {K : Type 0} → SinkOf K → K → K → Type 0
SinkSound k old new = k.faults new ≡ k.faults old

-- what the shelf tells of its last fetch: the name and the answer
abbrev pub RefusedFor : {H : Type 0} → ShelfOf H → H → List ℕ → ShelfError → Type 0
RefusedFor h new name answer = h.refused new ≡ Some (record { name = name; answer = answer })

abbrev pub WasRefused : {H : Type 0} → ShelfOf H → H → ShelfError → Type 0
WasRefused h new answer = (name : List ℕ) × RefusedFor h new name answer

-- The faults of a sink to which something was to be sent, by how that ended.
abbrev pub SinkBy : {K : Type 0} → SinkOf K → K → K → Result (Unit {0}) Halt → Type 0
SinkBy k old new (Err SendFailed) = SinkRose k old new
SinkBy k old new other = SinkSound k old new

-- The faults of a shelf that was asked for files, by how that ended: they rose where a fetch failed, whose
-- answer the shelf then tells, as it does of a file that isn't there.
abbrev pub ShelfHalted : {H : Type 0} → ShelfOf H → H → H → Halt → Type 0
ShelfHalted h old new Missing = ShelfSound h old new × WasRefused h new shelf.Missing
ShelfHalted h old new FetchFailed = ShelfRose h old new × WasRefused h new shelf.Failed
ShelfHalted h old new other = ShelfSound h old new

abbrev pub ShelfBy : {T H : Type 0} → ShelfOf H → H → H → Result T Halt → Type 0
ShelfBy h old new (Ok done) = ShelfSound h old new
ShelfBy h old new (Err halt) = ShelfHalted h old new halt

-- a fetch that gave no file: one that failed was one of this name, and no sink failed
abbrev pub HaltedFor : {H : Type 0} → ShelfOf H → H → List ℕ → Halt → Type 0
HaltedFor h new name FetchFailed = RefusedFor h new name shelf.Failed
HaltedFor h new name SendFailed = ⊥
HaltedFor h new name other = Unit {0}

abbrev pub FetchedFor : {T H : Type 0} → ShelfOf H → H → List ℕ → Result T Halt → Type 0
FetchedFor h new name (Ok done) = Unit {0}
FetchedFor h new name (Err halt) = HaltedFor h new name halt
