use Rattle.std.proofs.Common.{◌≡◌, Bool, ℕ, List, ◌++◌, ap, sym, subst, ◌∙◌, refl, Ok, Err}
use Rattle.ovl_io.specs.declared.sink.Sink.{Ghosts as SinkOf}
use Rattle.report_text.specs.declared.answer.Answer.{Answer}
use Rattle.report_text.specs.declared.answer.Answer.TheVariants.{Done, Loaded, Forked, Saved, Imported, Shared, Refused, Full, Memory}
use Rattle.report_text.specs.Answers.{answer_text}
use Rattle.command_core.specs.State.{AreLikeStates, State, registry_of}
use Rattle.command_core.specs.Sessions.{InSession}
use Rattle.command_core.specs.Rows.{Changed, Row, change_by}
use Rattle.command_core.specs.Giving.{ComesTo, GivesChange}
use Rattle.command_core.specs.Changes.{load_row}
use Rattle.command_core.specs.Commands.{Performed, exec_done, exec_turns, rules, tells_exec}
use Rattle.command_core.specs.LikeLaws.{AreLikePerformed, like_exec_turns, states_chain}
use Rattle.overlay_top.specs.declared.running.Halt.TheVariants as halt
use Rattle.overlay_top.specs.Sending.{IsCut, IsSent}
use Rattle.overlay_top.specs.Running.{EndsCommand, TakesOn}

-- What a change gave, and what was sent of it.

given_is : (row : Row) (old : State) (answer : Answer) (new : State) → GivesChange row old answer new → (answer ≡ Memory → ⊥) → ComesTo (change_by row old) answer new
given_is row old Done new gives other = gives
given_is row old (Loaded p pages entry) new gives other = gives
given_is row old (Forked p q) new gives other = gives
given_is row old (Saved p name space) new gives other = gives
given_is row old (Imported name space pages) new gives other = gives
given_is row old (Shared pages) new gives other = gives
given_is row old (Refused code) new gives other = gives
given_is row old (Full units limit) new gives other = gives
given_is row old Memory new gives other = absurd (other refl)

-- a load's line and the turns that follow it are those of what it was to give
exec_with : (calls : Bool) (file : List ℕ) (turns : ℕ) (old : State) (answer : Answer) (new : State) → GivesChange (load_row file (registry_of old)) old answer new → (answer ≡ Memory → ⊥)
    → AreLikePerformed (tells_exec rules calls turns answer new) (exec_done rules calls file turns old)
exec_with calls file turns old answer new gives other =
    let wanted : Changed State = change_by (load_row file (registry_of old)) old in
    let comes = given_is (load_row file (registry_of old)) old answer new gives other in
    let next = like_exec_turns calls turns answer new wanted.after comes.after_is in
    record {
      text = ap (λ text. answer_text answer ++ text) next.text ∙ ap (λ a. answer_text a ++ (exec_turns rules calls turns a wanted.after).text) comes.answer_is;
      after = subst (λ a. AreLikeStates (exec_turns rules calls turns answer new).after (exec_turns rules calls turns a wanted.after).after) comes.answer_is next.after;
      wants = refl;
    }

-- where what may be called stays
pub exec_like : (calls left : Bool) → left ≡ calls → (file : List ℕ) (turns : ℕ) (old : State) (answer : Answer) (new : State) → GivesChange (load_row file (registry_of old)) old answer new
    → (answer ≡ Memory → ⊥) → AreLikePerformed (tells_exec rules left turns answer new) (exec_done rules calls file turns old)
exec_like calls left same file turns old answer new gives other =
    subst (λ b. AreLikePerformed (tells_exec rules b turns answer new) (exec_done rules calls file turns old)) (sym same) (exec_with calls file turns old answer new gives other)

-- what was sent and done, as a command
module _ {K E : Type 0} (k : SinkOf K) (sink_old sink_new : K) (took wanted : Performed State) (old new : InSession) (text : took.text ≡ wanted.text) where
  pub ends_done : TakesOn {T = Unit {0}} {E = E} k sink_old sink_new took old new (Ok tt) → AreLikeStates took.after wanted.after
      → EndsCommand k sink_old sink_new wanted new.state (Ok tt)
  ends_done takes like = (
    takes.sends.0,
    λ tells. subst (λ t. IsSent (k.taken sink_old) t (k.taken sink_new)) text (takes.sends.1 tells),
    states_chain new.state took.after wanted.after takes.after like,
  )

  pub ends_failed : (e : E) → TakesOn {T = Unit {0}} k sink_old sink_new took old new (Err e) → EndsCommand k sink_old sink_new wanted new.state (Err halt.SendFailed)
  ends_failed e takes = (takes.sends.0, λ tells. subst (λ t. IsCut (k.taken sink_old) t (k.taken sink_new)) text (takes.sends.1 tells))
