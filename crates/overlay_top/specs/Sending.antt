use Rattle.std.specs.Prelude.{◌≡◌, ℕ, ◌<◌, List, ◌++◌, length, Result, Ok, Err}
use Rattle.ovl_io.specs.declared.sink.Sink.{Ghosts as SinkOf}
use Rattle.overlay_top.specs.Outside.{SinkRose, SinkSound}

-- What a sink holds after a text was sent to it: the text behind what it held, or, where a write failed, a
-- front of the text that isn't the whole.
abbrev pub IsSent : List ℕ → List ℕ → List ℕ → Type 0
IsSent old text new = new ≡ old ++ text

abbrev pub IsCut : List ℕ → List ℕ → List ℕ → Type 0
IsCut old text new = (front : List ℕ) × (rest : List ℕ) × (front ++ rest ≡ text) × (0 < length rest) × (new ≡ old ++ front)

-- A text was sent, and nothing else: all of it, and no fault rose; or the sink's faults rose, and a front of it was sent.
abbrev pub SendsText : {K T E : Type 0} → SinkOf K → K → List ℕ → K → Result T E → Type 0
SendsText k old text new (Ok done) = SinkSound k old new × (k.tells → IsSent (k.taken old) text (k.taken new))
SendsText k old text new (Err error) = SinkRose k old new × (k.tells → IsCut (k.taken old) text (k.taken new))
