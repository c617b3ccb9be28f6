use Rattle.std.proofs.Common.{◌≡◌, ℕ, ◌<◌, ◌≤◌, Bool, true, false, [], sym, ap, subst, ◌∙◌, refl, arith, Option, Some, None}
use Rattle.std.specs.Option.{is_some, option_map_or}
use Rattle.std.specs.Ordering.{nat_cmp}
use Rattle.std.specs.FinMap.{empty, get, get-empty, insert, remove}
use Rattle.number_maps.specs.Keys.{by_key, get_other, get_same, removed_other, removed_same}
use Rattle.ascending_numbers.specs.Numbers.{IsListed, Numbers, is_in}
use Rattle.machine_core.specs.Process.{runs}
use Rattle.machine_core.specs.declared.process.Process as declared
use Rattle.machine_core.specs.Machine.{Machine, StaysBut, is_running, wholes}
use Rattle.machine_core.specs.Laws.{runs_shown}
use Rattle.machine_core.specs.Kept.{IsListBut, IsRunningList, KeptProcesses, runs_at}

-- The list of running numbers, before and after a change of one process.

abbrev pub runs_found : Option declared.Process → Bool
runs_found found = option_map_or (λ (process : declared.Process). runs process.state) found false

pub runs_put : (old : KeptProcesses) (p : ℕ) (process : declared.Process) → runs_at (insert old p process) p ≡ runs process.state
runs_put old p process = ap runs_found (get_same old p p process refl)

-- a process that runs is there
runs_there : (found : Option declared.Process) → runs_found found ≡ true → is_some found ≡ true
runs_there None h = h
runs_there (Some process) h = refl

pub none_listed : (processes : KeptProcesses) (running : Numbers) → processes ≡ empty → running.items ≡ [] → IsRunningList processes running
none_listed processes running empty_is none =
    let absent : (q : ℕ) → get processes q ≡ None = λ q. ap (λ (m : KeptProcesses). get m q) empty_is ∙ get-empty {X = declared.Process} nat_cmp q in
    record {
      listed = λ q. ap (λ xs. is_in xs q) none ∙ sym (ap runs_found (absent q));
      room = λ q has. let no = ap is_some (absent q) in cc;
    }

module _ (processes : KeptProcesses) (running : Numbers) (p : ℕ) (kept : IsListBut p processes running) where
  -- a process that runs is below what there is room for, as those that are listed are
  pub room_for : runs_at processes p ≡ true → p < running.room
  room_for run = kept.room p (runs_there (get processes p) run)

  pub listed_below : runs_at processes p ≡ true → (q : ℕ) → is_in running.items q ≡ true → q < running.room
  listed_below run q is = by_key q p
      (λ same. subst (λ n. n < running.room) (sym same) (room_for run))
      (λ other. kept.room q (runs_there (get processes q) (sym (kept.listed q other) ∙ is)))

  -- it is right of all once it is right of this one
  pub relisted : (left : Numbers) → IsListed p (runs_at processes p) running.items left.items → running.room ≤ left.room → IsRunningList processes left
  relisted left listed room = record {
    listed = λ q. by_key q p
        (λ same. subst (λ n. is_in left.items n ≡ runs_at processes n) (sym same) listed.here)
        (λ other. listed.others q other ∙ kept.listed q other);
    room = λ q has. let below = kept.room q has in omega (arith, below, room);
  }

-- a process was changed, put or taken away, over a list with more room
pub list_but : (old new : KeptProcesses) (running left : Numbers) (p : ℕ) → IsRunningList old running → ((q : ℕ) → (q ≡ p → ⊥) → get new q ≡ get old q)
    → left.items ≡ running.items → running.room ≤ left.room → (is_some (get new p) ≡ true → p < left.room) → IsListBut p new left
list_but old new running left p kept others same more place = record {
  listed = λ q other. ap (λ xs. is_in xs q) same ∙ kept.listed q ∙ ap runs_found (sym (others q other));
  room = λ q has. by_key q p
      (λ here. let below = place (subst (λ n. is_some (get new n) ≡ true) here has) in omega (arith, below, here))
      (λ other. let below = kept.room q (ap is_some (sym (others q other)) ∙ has) in omega (arith, below, more));
}

pub put_but : (old : KeptProcesses) (running left : Numbers) (p : ℕ) (process : declared.Process) → IsRunningList old running
    → left.items ≡ running.items → running.room ≤ left.room → p < left.room → IsListBut p (insert old p process) left
put_but old running left p process kept same more below =
    list_but old (insert old p process) running left p kept (λ q other. get_other old p q process other) same more (λ has. below)

pub removed_but : (old : KeptProcesses) (running : Numbers) (p : ℕ) → IsRunningList old running → IsListBut p (remove old p) running
removed_but old running p kept =
    list_but old (remove old p) running running p kept (λ q other. removed_other old p q other) refl (omega arith)
    (λ has. absurd (let no = ap is_some (removed_same old p p refl) in cc))

pub changed_but : (old new : Machine) (running : Numbers) (p : ℕ) → IsRunningList old.processes running → is_running (wholes old) p ≡ true → StaysBut p old new
    → IsListBut p new.processes running
changed_but old new running p kept run others =
    list_but old.processes new.processes running running p kept others.processes refl (omega arith)
    (λ has. kept.room p (runs_there (get old.processes p) (sym (runs_shown old p) ∙ run)))

-- one that ran and still runs is listed
pub still_listed : (old new : Machine) (running : Numbers) (p : ℕ) → IsRunningList old.processes running → is_running (wholes old) p ≡ true → StaysBut p old new
    → runs_at new.processes p ≡ true → IsRunningList new.processes running
still_listed old new running p kept run others is =
    relisted new.processes running p (changed_but old new running p kept run others) running
    (record { here = kept.listed p ∙ sym (runs_shown old p) ∙ run ∙ sym is; others = λ q other. refl }) (omega arith)
