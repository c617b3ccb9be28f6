use Rattle.std.proofs.Common.{◌≡◌, ℕ, ◌+◌, ◌<◌, ◌≤◌, Bool, true, false, cond, List, [], ◌++◌, length, sym, ap, subst, ◌∙◌, refl, arith, append-nil, length-append, Option, Result, Ok, Err, inl, inr, ◌||◌}
use Rattle.std.proofs.lemmas.Bool.Decides.{nat_tests}
use Rattle.std.specs.Prelude.{nat_lt}
use Rattle.sizes.specs.declared.TheConstants.{MOST_SCRIPT_BYTES, MOST_SCRIPT_LINES}
use Rattle.ovl_io.specs.declared.source.Source.{Ghosts as SourceOf}
use Rattle.ovl_io.specs.declared.shelf.Shelf.{Ghosts as ShelfOf}
use Rattle.ovl_io.specs.declared.sink.Sink.{Ghosts as SinkOf}
use Rattle.overlay_top.specs.declared.running.Halt.{Halt}
use Rattle.overlay_top.specs.declared.running.Halt.TheVariants.{Missing, FetchFailed, TooLong, Memory, SendFailed}
use Rattle.script_text.specs.declared.command.Command.{Command}
use Rattle.script_text.specs.declared.command.ScriptError.{ScriptError}
use Rattle.script_text.specs.declared.command.ScriptError.TheVariants.{Line}
use Rattle.script_text.specs.declared.command.ScriptError.TheVariants as script
use Rattle.overlay_top.specs.declared.reading.ReadError.{ReadError}
use Rattle.overlay_top.specs.declared.reading.ReadError.TheVariants as read
use Rattle.overlay_top.specs.declared.status.Status.{Status}
use Rattle.overlay_top.specs.declared.status.Status.TheVariants as ending
use Rattle.report_text.specs.Lines.{bad_line}
use Rattle.script_text.specs.Script.{commands_of, Parses}
use Rattle.script_text.specs.Lines.{line_count}
use Rattle.overlay_top.specs.declared.words.Settings.{Settings}
use Rattle.overlay_top.specs.Outcome.{RunOutcome, ScriptSays, is_too_much, SaysTooMuch, ended, names_said, said, read_by, said_outcome}
use Rattle.overlay_top.specs.Outside.{ShelfBy, SinkBy, SourceSound}
use Rattle.overlay_top.specs.Running.{Reported, RunEnds}
use Rattle.overlay_top.specs.Status.{code_of}
use Rattle.overlay_top.specs.Ends.{Ends, IsTaken, IsCompleteWith, NoFault, Refuses, SaysAt, World, status_of}
use Rattle.overlay_top.specs.Ends.Ends.{Untouched, Whole, SourceFailed, ShelfFailed, SinkFailed, OutOfMemory}

-- How the whole call ends, from how its parts end.

pub ends_whole : {S H K : Type 0} (s : SourceOf S) (h : ShelfOf H) (k : SinkOf K) (outcome : RunOutcome) (names : List (Option (List ℕ)))
    (old new : World S H K) (status : Status) → outcome.status ≡ status → Ends s h k outcome names old new outcome.status → Ends s h k outcome names old new status
ends_whole s h k outcome names old new status is ends = subst (Ends s h k outcome names old new) is ends

-- the same, of an outcome and names that are these
pub ends_as : {S H K : Type 0} (s : SourceOf S) (h : ShelfOf H) (k : SinkOf K) (outcome other : RunOutcome) (names others : List (Option (List ℕ)))
    (old new : World S H K) (status : Status) → outcome ≡ other → names ≡ others → Ends s h k other others old new status → Ends s h k outcome names old new status
ends_as s h k outcome other names others old new status is are ends =
    subst (λ o. Ends s h k o names old new status) (sym is) (subst (λ ns. Ends s h k other ns old new status) (sym are) ends)

-- what a script says that is within its limits, or isn't
by_tests : (a b : Bool) (script : List ℕ) (x y : ScriptSays) → nat_lt MOST_SCRIPT_BYTES (length script) ≡ a → nat_lt MOST_SCRIPT_LINES (line_count script) ≡ b
    → cond (is_too_much script) x y ≡ cond (a || b) x y
by_tests a b script x y long many =
    ap (λ (c : Bool). cond (c || nat_lt MOST_SCRIPT_LINES (line_count script)) x y) long ∙ ap (λ (c : Bool). cond (a || c) x y) many

pub said_small : (left script : List ℕ) (lines : ℕ) (read : Result (List Command) ℕ) → script ≡ left → length script ≤ MOST_SCRIPT_BYTES
    → lines ≡ line_count script → lines ≤ MOST_SCRIPT_LINES → commands_of script ≡ read → said left ≡ read_by read
said_small left script lines read is small count few parsed =
    let within : nat_lt MOST_SCRIPT_BYTES (length script) ≡ false = grind (arith, nat_tests, small) in
    let below : nat_lt MOST_SCRIPT_LINES (line_count script) ≡ false = grind (arith, nat_tests, few, count) in
    ap said (sym is) ∙ by_tests false false script SaysTooMuch (read_by (commands_of script)) within below ∙ ap read_by parsed

pub long_left : (left taken after : List ℕ) → left ≡ taken ++ after → length taken ≡ MOST_SCRIPT_BYTES + 1 → MOST_SCRIPT_BYTES < length left
long_left left taken after is long = omega (arith, ap (λ bs. length bs) is, length-append taken after, long)

pub said_long : (left : List ℕ) → MOST_SCRIPT_BYTES < length left → said left ≡ SaysTooMuch
said_long left long =
    let above : nat_lt MOST_SCRIPT_BYTES (length left) ≡ true = grind (arith, nat_tests, long) in
    by_tests true (nat_lt MOST_SCRIPT_LINES (line_count left)) left SaysTooMuch (read_by (commands_of left)) above refl

pub said_many : (left script : List ℕ) (lines : ℕ) → script ≡ left → length script ≤ MOST_SCRIPT_BYTES → lines ≡ line_count script
    → MOST_SCRIPT_LINES < lines → said left ≡ SaysTooMuch
said_many left script lines is small count many =
    let within : nat_lt MOST_SCRIPT_BYTES (length script) ≡ false = grind (arith, nat_tests, small) in
    let above : nat_lt MOST_SCRIPT_LINES (line_count script) ≡ true = grind (arith, nat_tests, many, count) in
    ap said (sym is) ∙ by_tests false true script SaysTooMuch (read_by (commands_of script)) within above

pub taken_whole : (left script after : List ℕ) → script ≡ left → length script ≤ MOST_SCRIPT_BYTES → after ≡ [] → IsTaken left after
taken_whole left script after is small none = inl (omega (arith, small, ap (λ bs. length bs) is), none)

-- a read that gave a script, or that was too long or had no memory, didn't fail
pub read_it : {T : Type 0} (script : T) → Ok script ≡ Err read.Failed → ⊥
read_it script is = cc

pub read_long : {T : Type 0} (error : ReadError) → error ≡ read.TooLong → ◌≡◌ {A = Result T ReadError} (Err error) (Err read.Failed) → ⊥
read_long error is failed = cc

pub read_none : {T : Type 0} (error : ReadError) → error ≡ read.Memory → ◌≡◌ {A = Result T ReadError} (Err error) (Err read.Failed) → ⊥
read_none error is failed = cc

-- what a script without commands says, where its line is reported
pub refused_says : {K : Type 0} (k : SinkOf K) (error : ScriptError) (left bytes : List ℕ) (lines : ℕ) (old new : K) (status : Status) → bytes ≡ left → length bytes ≤ MOST_SCRIPT_BYTES
    → lines ≡ line_count bytes → lines ≤ MOST_SCRIPT_LINES
    → Parses (λ (commands : List Command). commands) bytes (Err error) → Refuses k error old new status → SaysAt k left old new status
refused_says k (Line line) left bytes lines old new status is small count few parsed (inl whole) =
    subst (SaysAt k left old new) (sym whole.0) (line, said_small left bytes lines (Err line) is small count few parsed, whole.2)
refused_says k (Line line) left bytes lines old new status is small count few parsed (inr cut) = subst (SaysAt k left old new) (sym cut.0) tt
refused_says k script.Memory left bytes lines old new status is small count few parsed none = subst (SaysAt k left old new) (sym none.0) tt

-- nothing was reported
pub nothing : {K : Type 0} (k : SinkOf K) (old : K) → Reported k old [] old
nothing k old is_told = sym (append-nil (k.taken old))

done_not_bad : (st : Status) → st ≡ ending.Done → st ≡ ending.BadWords → ⊥
done_not_bad st is_done is_bad = let both : ending.Done ≡ ending.BadWords = sym is_done ∙ is_bad in cc

-- there was no memory before a command was done
pub no_memory : {S H K : Type 0} (s : SourceOf S) (h : ShelfOf H) (k : SinkOf K) (outcome : RunOutcome) (names : List (Option (List ℕ))) (source_old source_new : S)
    (files : H) (report : K) → SourceSound s source_old source_new
    → Ends s h k outcome names (record { script = source_old; files = files; report = report }) (record { script = source_new; files = files; report = report }) ending.NoMemory
no_memory s h k outcome names source_old source_new files report sound = OutOfMemory 0 0 (omega arith) (inl (refl, refl)) sound refl refl refl (nothing k report)

-- the commands, all done or not
pub commands_ended : {S H K : Type 0} (s : SourceOf S) (h : ShelfOf H) (k : SinkOf K) (outcome : RunOutcome) (names : List (Option (List ℕ))) (old new : World S H K)
    → SourceSound s old.script new.script → IsTaken (s.left old.script) (s.left new.script)
    → ShelfBy {T = Unit {0}} h old.files new.files (Ok tt) → SinkBy k old.report new.report (Ok tt)
    → RunEnds h k outcome names old.files new.files old.report new.report (Ok tt) → Ends s h k outcome names old new ending.Done
commands_ended s h k outcome names old new sound taken shelf sink ends =
    ends_whole s h k outcome names old new ending.Done ends.0 (Whole sound shelf sink taken ends.1 ends.2)

pub commands_halted : {S H K : Type 0} (s : SourceOf S) (h : ShelfOf H) (k : SinkOf K) (halt : Halt) (outcome : RunOutcome) (names : List (Option (List ℕ)))
    (old new : World S H K) → SourceSound s old.script new.script → IsTaken (s.left old.script) (s.left new.script) → s.left new.script ≡ []
    → ShelfBy {T = Unit {0}} h old.files new.files (Err halt) → SinkBy k old.report new.report (Err halt)
    → RunEnds h k outcome names old.files new.files old.report new.report (Err halt) → Ends s h k outcome names old new (status_of halt)
commands_halted s h k Missing outcome names old new sound taken none shelf sink ends =
    ends_whole s h k outcome names old new ending.ReadFailed ends.0 (Whole sound shelf.0 sink taken ends.1 ends.2)
commands_halted s h k TooLong outcome names old new sound taken none shelf sink ends =
    ends_whole s h k outcome names old new ending.TooLong ends.0 (Whole sound shelf sink taken ends.1 ends.2)
commands_halted s h k FetchFailed outcome names old new sound taken none shelf sink ends =
    ShelfFailed ends.0 ends.1 ends.2 ends.3 sound shelf.0 sink none ends.4 ends.5 ends.6
commands_halted s h k Memory outcome names old new sound taken none shelf sink ends =
    OutOfMemory ends.0 ends.1 ends.2 ends.3 sound shelf sink ends.4 ends.5
commands_halted s h k SendFailed outcome names old new sound taken none shelf sink ends =
    SinkFailed ends.0 ends.1 sound shelf sink none ends.2 ends.3

-- a script without commands
pub refused : {S H K : Type 0} (set : Settings) (s : SourceOf S) (h : ShelfOf H) (k : SinkOf K) (error : ScriptError) (bytes : List ℕ) (lines : ℕ) (files : List ℕ → Option (List ℕ))
    (source_old source_new : S) (shelf : H) (report_old report_new : K) (status : Status)
    → SourceSound s source_old source_new → s.left source_new ≡ [] → bytes ≡ s.left source_old → length bytes ≤ MOST_SCRIPT_BYTES
    → lines ≡ line_count bytes → lines ≤ MOST_SCRIPT_LINES → Parses (λ (commands : List Command). commands) bytes (Err error) → Refuses k error report_old report_new status
    → Ends s h k (said_outcome set (said (s.left source_old)) files) (names_said (said (s.left source_old)))
    (record { script = source_old; files = shelf; report = report_old }) (record { script = source_new; files = shelf; report = report_new }) status
refused {S = S} {H = H} {K = K} set s h k (Line line) bytes lines files source_old source_new shelf report_old report_new status sound none is small count few parsed (inl whole) =
    let says = said_small (s.left source_old) bytes lines (Err line) is small count few parsed in
    let old : World S H K = record { script = source_old; files = shelf; report = report_old } in
    let new : World S H K = record { script = source_new; files = shelf; report = report_new } in
    ends_as s h k _ (ended (bad_line line) ending.BadLine) _ [] old new status
    (ap (λ says. said_outcome set says files) says) (ap names_said says)
    (ends_whole s h k (ended (bad_line line) ending.BadLine) [] old new status (sym whole.0)
    (Whole sound refl whole.1 (taken_whole (s.left source_old) bytes (s.left source_new) is small none) refl whole.2))
refused {S = S} {H = H} {K = K} set s h k (Line line) bytes lines files source_old source_new shelf report_old report_new status sound none is small count few parsed (inr cut) =
    let says = said_small (s.left source_old) bytes lines (Err line) is small count few parsed in
    let old : World S H K = record { script = source_old; files = shelf; report = report_old } in
    let new : World S H K = record { script = source_new; files = shelf; report = report_new } in
    ends_as s h k _ (ended (bad_line line) ending.BadLine) _ [] old new status
    (ap (λ says. said_outcome set says files) says) (ap names_said says)
    (subst (Ends s h k (ended (bad_line line) ending.BadLine) [] old new) (sym cut.0)
    (SinkFailed 0 (omega arith) sound refl cut.1 none refl cut.2))
refused {S = S} {H = H} {K = K} set s h k script.Memory bytes lines files source_old source_new shelf report_old report_new status sound none is small count few parsed h0 =
    let old : World S H K = record { script = source_old; files = shelf; report = report_old } in
    let outcome = said_outcome set (said (s.left source_old)) files in
    let names = names_said (said (s.left source_old)) in
    subst (Ends s h k outcome names old (record { script = source_new; files = shelf; report = report_new })) (sym h0.0)
    (subst (λ held. Ends s h k outcome names old (record { script = source_new; files = shelf; report = held }) ending.NoMemory) (sym h0.1)
    (no_memory s h k outcome names source_old source_new shelf report_old sound))

-- a call for which the outcome has status 0, and in which no fault rose
pub complete : {S H K : Type 0} (s : SourceOf S) (h : ShelfOf H) (k : SinkOf K) (outcome : RunOutcome) (names : List (Option (List ℕ))) (old new : World S H K)
    (status : Status) → Ends s h k outcome names old new status → outcome.status ≡ ending.Done → NoFault s h k old new
    → IsCompleteWith k outcome old.report new.report (code_of status)
complete s h k outcome names old new _ (Untouched is_bad nothing same) is none = absurd (done_not_bad outcome.status is is_bad)
complete s h k outcome names old new _ (Whole source shelf sink taken asked whole) is none = inr (ap code_of is, whole)
complete s h k outcome names old new _ (SourceFailed rose files report taken) is none = absurd (none.0 rose)
complete s h k outcome names old new _ (ShelfFailed j name within at source rose sink taken asked refused first) is none = absurd (none.1 rose)
complete s h k outcome names old new _ (SinkFailed j within source shelf rose taken asked cut) is none = absurd (none.2 rose)
complete s h k outcome names old new _ (OutOfMemory j begun within few source shelf sink asked first) is none = inl refl
