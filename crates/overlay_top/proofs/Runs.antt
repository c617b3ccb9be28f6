use Rattle.std.proofs.Common.{◌≡◌, ℕ, suc, ◌+◌, ◌<◌, ◌≤◌, Bool, true, false, List, [], ◌∷◌, ◌++◌, length, take, drop, get_or, sym, ap, subst, ◌∙◌, refl, arith, append_assoc, length-append, append-nil, Option, Some, None, Result, Ok, Err, inr}
use Rattle.std.proofs.Math.Seq.{take-append_seam, drop-cons}
use Rattle.std.proofs.lemmas.Grind.{flat_map-append}
use Rattle.std.proofs.lemmas.List.{length-map}
use Rattle.std.specs.Prelude.{map}
use Rattle.ovl_io.specs.Outside.{AsksFor}
use Rattle.ovl_io.specs.declared.shelf.ShelfError.TheVariants as shelf
use Rattle.ovl_io.specs.declared.shelf.Shelf.{Ghosts as ShelfOf}
use Rattle.ovl_io.specs.declared.sink.Sink.{Ghosts as SinkOf}
use Rattle.overlay_top.specs.declared.running.Halt.{Halt}
use Rattle.overlay_top.specs.declared.running.Halt.TheVariants.{Missing, FetchFailed, TooLong, Memory, SendFailed}
use Rattle.script_text.specs.declared.command.Command.{Command}
use Rattle.overlay_top.specs.declared.status.Status.{Status}
use Rattle.overlay_top.specs.declared.status.Status.TheVariants as ending
use Rattle.command_core.specs.declared.modes.Modes.{Modes}
use Rattle.command_core.specs.State.{AreLikeStates, State, fresh}
use Rattle.script_text.specs.Given.{asks}
use Rattle.command_core.specs.Commands.{FileAsked, AsksNothing, HasFile, IsMissing, IsTooLong, Performed, asked_by, asked_for, file_asked, file_in, has_all, performed}
use Rattle.command_core.specs.LikeLaws.{AreLikePerformed, like_performed, states_chain, states_same}
use Rattle.overlay_top.specs.declared.words.Settings.{Settings}
use Rattle.overlay_top.specs.Sending.{IsSent, IsCut}
use Rattle.overlay_top.specs.Outcome.{modes_of, Passage, RunOutcome, report_of, passage_after, passage_of, first_report, ended_by, not_fetched, done, texts_of, with_asked, run_from, run_all, named, command_done}
use Rattle.overlay_top.specs.Running.{FailedAt, FailedFor, LacksMemory, Reported, WasGiven, RunEnds, Sends}
use Rattle.overlay_top.specs.Outside.{RefusedFor}
use Rattle.overlay_top.proofs.Asks.{asked_at, fetches_all}

-- The commands of a script, one after the other.

one_more : (passages : List Passage) (passage : Passage) → texts_of (passages ++ passage ∷ []) ≡ texts_of passages ++ passage.text
one_more passages passage =
    flat_map-append (λ (p : Passage). p.text) passages (passage ∷ []) ∙ ap (λ bs. texts_of passages ++ bs) (append-nil passage.text)

-- more passages in front of an outcome
abbrev pub behind : List Passage → RunOutcome → RunOutcome
behind passages outcome = record { passages = passages ++ outcome.passages; last = outcome.last; status = outcome.status }

-- The commands before an index are done, and the others are left.
pub record HasRun (set : Settings) (all : List Command) (index : ℕ) (files : List ℕ → Option (List ℕ)) (state : State) (tells : Type 0) (start now : List ℕ) : Type 0 where
  pub passages : List Passage
  pub as_many : length passages ≡ index
  pub comes : run_all set all files ≡ behind passages (run_from (modes_of set) (drop index all) state files)
  pub sent : tells → now ≡ start ++ texts_of passages

-- The same of a session, which stands for the state that those commands come to.
pub record SessionHasRun (set : Settings) (all : List Command) (index : ℕ) (files : List ℕ → Option (List ℕ)) (session : State) (tells : Type 0) (start now : List ℕ) : Type 0 where
  pub state : State
  pub stands : AreLikeStates session state
  pub run : HasRun set all index files state tells start now

-- what a command comes to on states that are alike
like_done : (modes turns : Modes) (files : List ℕ → Option (List ℕ)) (command : Command) (a b : State) → modes ≡ turns → AreLikeStates a b
    → AreLikePerformed (command_done modes files command a) (command_done turns files command b)
like_done modes turns files command a b same like =
    subst (λ n. AreLikePerformed (command_done modes files command a) (command_done n files command b)) same
    (like_performed modes (file_in (file_asked files command)) command a b like)

-- an outcome that has more passages in front
outcome_behind : (passages : List Passage) (passage : Passage) (outcome : RunOutcome) → behind passages (done passage outcome) ≡ behind (passages ++ passage ∷ []) outcome
outcome_behind passages passage outcome =
    ap (λ ps. record { passages = ps; last = outcome.last; status = outcome.status }) (sym (append_assoc passages (passage ∷ []) outcome.passages))

within : (out : RunOutcome) (passages : List Passage) (outcome : RunOutcome) → out ≡ behind passages outcome → length passages ≤ length out.passages
within out passages outcome is = omega (arith, ap (λ (o : RunOutcome). length o.passages) is, length-append passages outcome.passages)

as_long : (out : RunOutcome) (passages : List Passage) (last : Passage) (status : Status) → out ≡ behind passages (ended_by last status)
    → length out.passages ≡ length passages
as_long out passages last status is = ap (λ (o : RunOutcome). length o.passages) is ∙ ap (λ ps. length ps) (append-nil passages)

first_texts : (out : RunOutcome) (passages : List Passage) (outcome : RunOutcome) → out ≡ behind passages outcome → first_report (length passages) out ≡ texts_of passages
first_texts out passages outcome is =
    ap (λ (o : RunOutcome). texts_of (take (length passages) o.passages)) is ∙ ap texts_of (take-append_seam passages outcome.passages)

next_passage : (passages rest : List Passage) (passage last : Passage) → get_or (passages ++ passage ∷ rest) (length passages) last ≡ passage
next_passage [] rest passage last = refl
next_passage (p ∷ passages) rest passage last = next_passage passages rest passage last

last_passage : (passages : List Passage) (last : Passage) → get_or (passages ++ []) (length passages) last ≡ last
last_passage [] last = refl
last_passage (p ∷ passages) last = last_passage passages last

passage_next : (out : RunOutcome) (passages : List Passage) (passage : Passage) (outcome : RunOutcome) → out ≡ behind passages (done passage outcome)
    → passage_after (length passages) out ≡ passage
passage_next out passages passage outcome is =
    ap (λ (o : RunOutcome). get_or o.passages (length passages) o.last) is ∙ next_passage passages outcome.passages passage outcome.last

-- the report where the commands that are left say no more
reported : (out : RunOutcome) (passages : List Passage) (wants : Bool) (status : Status) → out ≡ behind passages (ended_by (record { text = []; wants_memory = wants }) status)
    → report_of out ≡ texts_of passages
reported out passages wants status is =
    ap report_of is ∙ append-nil (texts_of (passages ++ [])) ∙ ap texts_of (append-nil passages)

-- the outcome of a command that has what it asks for
has_asked : (asked : FileAsked) (passage : Passage) (rest : RunOutcome) → has_all asked ≡ true → with_asked asked passage rest ≡ done passage rest
has_asked AsksNothing passage rest has = refl
has_asked (HasFile file) passage rest has = refl
has_asked IsMissing passage rest has = cc
has_asked IsTooLong passage rest has = cc

-- one for which there was no memory may want it
wants_next : (passages : List Passage) (asked : FileAsked) (performed : Performed State) (rest : RunOutcome) → (asked ≡ AsksNothing → performed.wants_memory ≡ true)
    → (passage_after (length passages) (behind passages (with_asked asked (passage_of asked performed) rest))).wants_memory ≡ true
wants_next passages AsksNothing performed rest lacks =
    ap (λ (p : Passage). p.wants_memory) (next_passage passages rest.passages (passage_of AsksNothing performed) rest.last) ∙ lacks refl
wants_next passages (HasFile file) performed rest lacks =
    ap (λ (p : Passage). p.wants_memory) (next_passage passages rest.passages (passage_of (HasFile file) performed) rest.last)
wants_next passages IsMissing performed rest lacks = ap (λ (p : Passage). p.wants_memory) (last_passage passages (record { text = []; wants_memory = true }))
wants_next passages IsTooLong performed rest lacks = ap (λ (p : Passage). p.wants_memory) (last_passage passages (record { text = []; wants_memory = true }))

-- what is left, from the command at an index
left_at : (all : List Command) (index : ℕ) (command : Command) → index < length all → command ≡ get_or all index command
    → drop index all ≡ command ∷ drop (index + 1) all
left_at all index command below is =
    let next : suc index ≡ index + 1 = omega arith in
    drop-cons all index command below ∙ ap (λ c. c ∷ drop (suc index) all) (sym is) ∙ ap (λ n. command ∷ drop n all) next

-- The same, where the shelf has the same files before the command.
same_file : (asked : Option (List ℕ)) (files now : List ℕ → Option (List ℕ)) → ((name : List ℕ) → now name ≡ files name)
    → asked_for asked now ≡ asked_for asked files
same_file None files now same = refl
same_file (Some name) files now same = ap asked_by (same name)

same_asked : (files now : List ℕ → Option (List ℕ)) (command : Command) → ((name : List ℕ) → now name ≡ files name)
    → file_asked now command ≡ file_asked files command
same_asked files now command same = same_file (asks command) files now same

-- the name of a fetch that failed
failed_name : {H : Type 0} (h : ShelfOf H) (new : H) (asked : Option (List ℕ)) → FailedAt h new asked
    → (name : List ℕ) × (asked ≡ Some name) × RefusedFor h new name shelf.Failed
failed_name h new None failed = absurd failed
failed_name h new (Some name) failed = (name, refl, failed)

-- the outcome, with the command at an index
comes_at : (set : Settings) (all : List Command) (index : ℕ) (command : Command) (files now_files : List ℕ → Option (List ℕ)) (state : State) (tells : Type 0)
    (start now : List ℕ) → index < length all → command ≡ get_or all index command → ((name : List ℕ) → now_files name ≡ files name)
    → (run : HasRun set all index files state tells start now)
    → run_all set all files ≡ behind run.passages (with_asked (file_asked now_files command) (passage_of (file_asked now_files command) (command_done (modes_of set) now_files command state))
    (run_from (modes_of set) (drop (index + 1) all) (command_done (modes_of set) now_files command state).after files))
comes_at set all index command files now_files state tells start now below is same run =
    run.comes ∙ ap (λ left. behind run.passages (run_from (modes_of set) left state files)) (left_at all index command below is)
    ∙ ap (λ asked. behind run.passages (with_asked asked (passage_of asked (performed (modes_of set) (file_in asked) command state))
    (run_from (modes_of set) (drop (index + 1) all) (performed (modes_of set) (file_in asked) command state).after files)))
    (sym (same_asked files now_files command same))

-- one command more is done
one_step : (set : Settings) (all : List Command) (index : ℕ) (command : Command) (files now_files : List ℕ → Option (List ℕ)) (state : State) (tells : Type 0)
    (start now new : List ℕ) → index < length all → command ≡ get_or all index command → ((name : List ℕ) → now_files name ≡ files name)
    → HasRun set all index files state tells start now → has_all (file_asked now_files command) ≡ true
    → (tells → IsSent now (command_done (modes_of set) now_files command state).text new)
    → HasRun set all (index + 1) files (command_done (modes_of set) now_files command state).after tells start new
one_step set all index command files now_files state tells start now new below is same run has sends =
    let passage = passage_of (file_asked now_files command) (command_done (modes_of set) now_files command state) in
    let left = run_from (modes_of set) (drop (index + 1) all) (command_done (modes_of set) now_files command state).after files in
    record {
      passages = run.passages ++ passage ∷ [];
      as_many = length-append run.passages (passage ∷ []) ∙ ap (λ n. n + 1) run.as_many;
      comes = comes_at set all index command files now_files state tells start now below is same run
          ∙ ap (behind run.passages) (has_asked (file_asked now_files command) passage left has)
          ∙ outcome_behind run.passages passage left;
      sent = λ is_told.
          sends is_told ∙ ap (λ bs. bs ++ passage.text) (run.sent is_told) ∙ append_assoc start (texts_of run.passages) passage.text
          ∙ ap (λ bs. start ++ bs) (sym (one_more run.passages passage));
    }

pub step : (set : Settings) (modes : Modes) (all : List Command) (index : ℕ) (command : Command) (files now_files : List ℕ → Option (List ℕ)) (session after : State)
    (tells : Type 0) (start now new : List ℕ) → modes ≡ (modes_of set) → index < length all → command ≡ get_or all index command → ((name : List ℕ) → now_files name ≡ files name)
    → SessionHasRun set all index files session tells start now → has_all (file_asked now_files command) ≡ true
    → (tells → IsSent now (command_done modes now_files command session).text new) → AreLikeStates after (command_done modes now_files command session).after
    → SessionHasRun set all (index + 1) files after tells start new
step set modes all index command files now_files session after tells start now new turns below is same has_run has sends leaves =
    let state = has_run.state in
    let like = like_done modes (modes_of set) now_files command session state turns has_run.stands in
    record {
      state = (command_done (modes_of set) now_files command state).after;
      stands = states_chain after (command_done modes now_files command session).after (command_done (modes_of set) now_files command state).after leaves like.after;
      run = one_step set all index command files now_files state tells start now new below is same has_run.run has
          (λ is_told. subst (λ text. IsSent now text new) like.text (sends is_told));
    }

pub none_run : (set : Settings) (all : List Command) (files : List ℕ → Option (List ℕ)) (session : State) (tells : Type 0) (start : List ℕ) → session ≡ fresh (modes_of set)
    → SessionHasRun set all 0 files session tells start start
none_run set all files session tells start is = record {
  state = fresh (modes_of set);
  stands = states_same session (fresh (modes_of set)) is;
  run = record { passages = []; as_many = refl; comes = refl; sent = λ is_told. sym (append-nil start) };
}

-- all commands are done
pub all_done : {H K : Type 0} (set : Settings) (h : ShelfOf H) (k : SinkOf K) (all : List Command) (index : ℕ) (files : List ℕ → Option (List ℕ)) (session : State)
    (shelf_old shelf_new : H) (start now : K) → length all ≤ index → drop index all ≡ []
    → SessionHasRun set all index files session k.tells (k.taken start) (k.taken now)
    → AsksFor h.fetched (named (take index (map asks all))) shelf_old shelf_new
    → RunEnds h k (run_all set all files) (map asks all) shelf_old shelf_new start now (Ok tt)
all_done set h k all index files session shelf_old shelf_new start now last none has_run asked =
    let run = has_run.run in
    let comes = run.comes ∙ ap (λ left. behind run.passages (run_from (modes_of set) left has_run.state files)) none in
    let many : length (map asks all) ≤ index = omega (arith, last, length-map all asks) in
    let enough : length (map asks all) ≤ length (run_all set all files).passages + 1 =
    omega (arith, last, length-map all asks, run.as_many, as_long (run_all set all files) run.passages _ ending.Done comes) in (
      ap (λ (o : RunOutcome). o.status) comes,
      fetches_all h.fetched (map asks all) index (length (run_all set all files).passages + 1) shelf_old shelf_new many enough asked,
      λ is_told. run.sent is_told ∙ ap (λ bs. k.taken start ++ bs) (sym (reported (run_all set all files) run.passages false ending.Done comes)),
    )

-- the file of the next command isn't had, and that ends the call
unfetched : {H K : Type 0} (set : Settings) (h : ShelfOf H) (k : SinkOf K) (status : Status) (all : List Command) (index : ℕ) (command : Command)
    (files now_files : List ℕ → Option (List ℕ)) (state : State) (shelf_old shelf_new : H) (start now new : K)
    (run : HasRun set all index files state k.tells (k.taken start) (k.taken now))
    → AsksFor h.fetched (named (take (index + 1) (map asks all))) shelf_old shelf_new → (k.tells → k.taken new ≡ k.taken now)
    → run_all set all files ≡ behind run.passages (not_fetched status)
    → ((run_all set all files).status ≡ status)
    × AsksFor h.fetched (named (take (length (run_all set all files).passages + 1) (map asks all))) shelf_old shelf_new
    × Reported k start (report_of (run_all set all files)) new
unfetched set h k status all index command files now_files state shelf_old shelf_new start now new run asked sends comes =
    let out = run_all set all files in
    let long : index + 1 ≡ length out.passages + 1 = ap (λ n. n + 1) (sym run.as_many ∙ sym (as_long out run.passages _ status comes)) in (
      ap (λ (o : RunOutcome). o.status) comes,
      subst (λ n. AsksFor h.fetched (named (take n (map asks all))) shelf_old shelf_new) long asked,
      λ is_told. sends is_told ∙ run.sent is_told ∙ ap (λ bs. k.taken start ++ bs) (sym (reported out run.passages true status comes)),
    )

-- the next command isn't done
halted : {H K : Type 0} (set : Settings) (h : ShelfOf H) (k : SinkOf K) (halt : Halt) (all : List Command) (index : ℕ) (command : Command)
    (files now_files : List ℕ → Option (List ℕ)) (state : State) (shelf_old shelf_new : H) (start now new : K)
    → index < length all → command ≡ get_or all index command → ((name : List ℕ) → now_files name ≡ files name)
    → HasRun set all index files state k.tells (k.taken start) (k.taken now) → WasGiven (file_asked now_files command) (Err halt)
    → LacksMemory (file_asked now_files command) (command_done (modes_of set) now_files command state) (Err halt)
    → (k.tells → Sends (k.taken now) (command_done (modes_of set) now_files command state).text (k.taken new) (Err halt))
    → FailedFor h shelf_new (asks command) (Err halt)
    → AsksFor h.fetched (named (take (index + 1) (map asks all))) shelf_old shelf_new
    → RunEnds h k (run_all set all files) (map asks all) shelf_old shelf_new start new (Err halt)
halted set h k Missing all index command files now_files state shelf_old shelf_new start now new below is same run given lacks sends failed asked =
    unfetched set h k ending.ReadFailed all index command files now_files state shelf_old shelf_new start now new run asked sends
    (comes_at set all index command files now_files state k.tells (k.taken start) (k.taken now) below is same run
    ∙ ap (λ a. behind run.passages (with_asked a (passage_of (file_asked now_files command) (command_done (modes_of set) now_files command state))
    (run_from (modes_of set) (drop (index + 1) all) (command_done (modes_of set) now_files command state).after files))) given)
halted set h k TooLong all index command files now_files state shelf_old shelf_new start now new below is same run given lacks sends failed asked =
    unfetched set h k ending.TooLong all index command files now_files state shelf_old shelf_new start now new run asked sends
    (comes_at set all index command files now_files state k.tells (k.taken start) (k.taken now) below is same run
    ∙ ap (λ a. behind run.passages (with_asked a (passage_of (file_asked now_files command) (command_done (modes_of set) now_files command state))
    (run_from (modes_of set) (drop (index + 1) all) (command_done (modes_of set) now_files command state).after files))) given)
halted set h k FetchFailed all index command files now_files state shelf_old shelf_new start now new below is same run given lacks sends failed asked =
    let left = run_from (modes_of set) (drop index all) state files in
    let named_by = failed_name h shelf_new (asks command) failed in
    let at : ◌≡◌ {A = ℕ} index (length run.passages) = sym run.as_many in (
      index,
      named_by.0,
      subst (λ n. n ≤ length (run_all set all files).passages) run.as_many (within _ run.passages left run.comes),
      asked_at asks all index command below is ∙ ap Some named_by.1,
      asked,
      named_by.2,
      λ is_told. sends is_told ∙ run.sent is_told ∙ ap (λ bs. k.taken start ++ bs) (sym (ap (λ n. first_report n (run_all set all files)) at ∙ first_texts _ run.passages left run.comes)),
    )
halted set h k Memory all index command files now_files state shelf_old shelf_new start now new below is same run given lacks sends failed asked =
    let left = run_from (modes_of set) (drop index all) state files in
    let out = run_all set all files in
    let next = run_from (modes_of set) (drop (index + 1) all) (command_done (modes_of set) now_files command state).after files in
    let comes = comes_at set all index command files now_files state k.tells (k.taken start) (k.taken now) below is same run in
    let wants = ap (λ n. (passage_after n out).wants_memory) (sym run.as_many) ∙ ap (λ (o : RunOutcome). (passage_after (length run.passages) o).wants_memory) comes
    ∙ wants_next run.passages (file_asked now_files command) (command_done (modes_of set) now_files command state) next lacks in (
      index,
      index + 1,
      subst (λ n. n ≤ length out.passages) run.as_many (within _ run.passages left run.comes),
      inr (refl, wants),
      asked,
      λ is_told. sends is_told ∙ run.sent is_told ∙ ap (λ bs. k.taken start ++ bs) (sym (ap (λ n. first_report n (run_all set all files)) (sym run.as_many) ∙ first_texts _ run.passages left run.comes)),
    )
halted set h k SendFailed all index command files now_files state shelf_old shelf_new start now new below is same run given lacks sends failed asked =
    let passage = passage_of (file_asked now_files command) (command_done (modes_of set) now_files command state) in
    let left = run_from (modes_of set) (drop (index + 1) all) (command_done (modes_of set) now_files command state).after files in
    let out = run_all set all files in
    let comes = comes_at set all index command files now_files state k.tells (k.taken start) (k.taken now) below is same run
    ∙ ap (behind run.passages) (has_asked (file_asked now_files command) passage left given) in
    let first = ap (λ n. first_report n out) (sym run.as_many) ∙ first_texts out run.passages (done passage left) comes in
    let next = ap (λ n. passage_after n out) (sym run.as_many) ∙ passage_next out run.passages passage left comes in (
      index,
      subst (λ n. n ≤ length out.passages) run.as_many (within out run.passages (done passage left) comes),
      asked,
      λ is_told.
          subst (λ (p : Passage). IsCut (k.taken start ++ first_report index out) p.text (k.taken new)) (sym next)
          (subst (λ held. IsCut held passage.text (k.taken new)) (run.sent is_told ∙ ap (λ bs. k.taken start ++ bs) (sym first)) (sends is_told)),
    )

lacks_like : (halt : Halt) (asked : FileAsked) (x y : Performed State) → x.wants_memory ≡ y.wants_memory → LacksMemory asked x (Err halt) → LacksMemory asked y (Err halt)
lacks_like Memory asked x y same lacks = λ has. sym same ∙ lacks has
lacks_like Missing asked x y same lacks = tt
lacks_like TooLong asked x y same lacks = tt
lacks_like FetchFailed asked x y same lacks = tt
lacks_like SendFailed asked x y same lacks = tt

pub stop : {H K : Type 0} (set : Settings) (modes : Modes) (h : ShelfOf H) (k : SinkOf K) (r : Result (Unit {0}) Halt) (halt : Halt) (all : List Command) (index : ℕ) (command : Command)
    (files now_files : List ℕ → Option (List ℕ)) (session : State) (shelf_old shelf_new : H) (start now new : K) → modes ≡ (modes_of set) → r ≡ Err halt
    → index < length all → command ≡ get_or all index command → ((name : List ℕ) → now_files name ≡ files name)
    → SessionHasRun set all index files session k.tells (k.taken start) (k.taken now) → WasGiven (file_asked now_files command) (Err halt)
    → LacksMemory (file_asked now_files command) (command_done modes now_files command session) (Err halt)
    → (k.tells → Sends (k.taken now) (command_done modes now_files command session).text (k.taken new) (Err halt))
    → FailedFor h shelf_new (asks command) (Err halt)
    → AsksFor h.fetched (named (take (index + 1) (map asks all))) shelf_old shelf_new
    → RunEnds h k (run_all set all files) (map asks all) shelf_old shelf_new start new r
stop set modes h k r halt all index command files now_files session shelf_old shelf_new start now new turns is_err below is same has_run given lacks sends failed asked =
    let like = like_done modes (modes_of set) now_files command session has_run.state turns has_run.stands in
    subst (RunEnds h k (run_all set all files) (map asks all) shelf_old shelf_new start new) (sym is_err)
    (halted set h k halt all index command files now_files has_run.state shelf_old shelf_new start now new below is same has_run.run given
    (lacks_like halt (file_asked now_files command) (command_done modes now_files command session) (command_done (modes_of set) now_files command has_run.state) like.wants lacks)
    (λ is_told. subst (λ text. Sends (k.taken now) text (k.taken new) (Err halt)) like.text (sends is_told)) failed asked)
