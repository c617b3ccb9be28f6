use Rattle.std.proofs.Common.{◌≡◌, ℕ, zero, suc, ◌+◌, ◌-◌, ◌*◌, List, [], ◌∷◌, ◌++◌, ap, ◌∙◌, sym, refl, arith, codes, append_assoc, append-nil}
use Rattle.std.specs.Prelude.{flat_map}
use Rattle.std.specs.List.{range_with_len}
use Rattle.std.proofs.lemmas.List.{flat_map_more}
use Rattle.workload.specs.declared.script.TheConstants.{ROUNDS}
use Rattle.workload.specs.Draws.{next_state, state_drawn, drawn_in, draw}
use Rattle.workload.specs.Script.{first_text, command_text, round_text, rounds, made_script}

-- The script as it is written, round by round.

-- the first rounds are written, and the next one's draws are ahead
pub record HasRounds (seed done : ℕ) (text : List ℕ) (state : ℕ) : Type 0 where
  pub text_is : text ≡ first_text (draw seed 1) ++ flat_map (round_text seed) (range_with_len 1 done)
  pub state_is : state ≡ state_drawn seed (3 * done + 1)

-- a state is the next one after that of so many steps
next_is : (seed steps more old new : ℕ) → old ≡ state_drawn seed steps → new ≡ next_state old → more ≡ suc steps → new ≡ state_drawn seed more
unfolding state_drawn
next_is seed steps more old new is stepped count = stepped ∙ ap next_state is ∙ ap (state_drawn seed) (sym count)

-- one number more
range_after : (first count : ℕ) → range_with_len first (suc count) ≡ range_with_len first count ++ (first + count) ∷ []
range_after first zero = let same : first ≡ first + zero = omega arith in ap (λ n. n ∷ []) same
range_after first (suc count) =
    let same : first + 1 + count ≡ first + suc count = omega arith in
    ap (λ rest. first ∷ rest) (range_after (first + 1) count ∙ ap (λ n. range_with_len (first + 1) count ++ n ∷ []) same)

range_more : (count : ℕ) → range_with_len 1 (count + 1) ≡ range_with_len 1 count ++ (count + 1) ∷ []
range_more count =
    let more : count + 1 ≡ suc count = omega arith in
    let last : 1 + count ≡ count + 1 = omega arith in
    ap (range_with_len 1) more ∙ range_after 1 count ∙ ap (λ n. range_with_len 1 count ++ n ∷ []) last

-- before the first round
pub none_done : (seed start state drawn : ℕ) (empty text : List ℕ) → start ≡ seed → state ≡ next_state start → drawn ≡ drawn_in state → empty ≡ []
    → text ≡ empty ++ first_text drawn → HasRounds seed 0 text state
unfolding state_drawn
none_done seed start state drawn empty text is stepped took none written =
    let at : state ≡ state_drawn seed 1 = next_is seed 0 1 start state is stepped refl in
    record {
      text_is = written ∙ ap (λ front. front ++ first_text drawn) none ∙ ap first_text (took ∙ ap drawn_in at) ∙ sym (append-nil (first_text (draw seed 1)));
      state_is = at;
    }

-- a round more: its draws, its command, and its turns
pub one_more : (seed done state first second third a b c : ℕ) (text commanded written : List ℕ) → HasRounds seed done text state
    → first ≡ next_state state → a ≡ drawn_in first → second ≡ next_state first → b ≡ drawn_in second → third ≡ next_state second → c ≡ drawn_in third
    → commanded ≡ text ++ command_text a b c → written ≡ commanded ++ codes "run 20000\n" → HasRounds seed (done + 1) written third
one_more seed done state first second third a b c text commanded written so_far is_first is_a is_second is_b is_third is_c is_commanded is_written =
    let at_first : first ≡ state_drawn seed (3 * (done + 1) - 1) = next_is seed (3 * done + 1) (3 * (done + 1) - 1) state first so_far.state_is is_first (omega arith) in
    let at_second : second ≡ state_drawn seed (3 * (done + 1)) = next_is seed (3 * (done + 1) - 1) (3 * (done + 1)) first second at_first is_second (omega arith) in
    let at_third : third ≡ state_drawn seed (3 * (done + 1) + 1) = next_is seed (3 * (done + 1)) (3 * (done + 1) + 1) second third at_second is_third (omega arith) in
    let is_round : command_text a b c ≡ command_text (draw seed (3 * (done + 1) - 1)) (draw seed (3 * (done + 1))) (draw seed (3 * (done + 1) + 1)) =
    ap (λ n. command_text n b c) (is_a ∙ ap drawn_in at_first) ∙ ap (λ n. command_text (draw seed (3 * (done + 1) - 1)) n c) (is_b ∙ ap drawn_in at_second)
    ∙ ap (command_text (draw seed (3 * (done + 1) - 1)) (draw seed (3 * (done + 1)))) (is_c ∙ ap drawn_in at_third) in
    record {
      text_is =
          is_written ∙ ap (λ front. front ++ codes "run 20000\n") is_commanded ∙ append_assoc text (command_text a b c) (codes "run 20000\n")
          ∙ ap (λ command. text ++ (command ++ codes "run 20000\n")) is_round ∙ ap (λ front. front ++ round_text seed (done + 1)) so_far.text_is
          ∙ flat_map_more (round_text seed) (first_text (draw seed 1)) (range_with_len 1 done) (done + 1)
          ∙ ap (λ rs. first_text (draw seed 1) ++ flat_map (round_text seed) rs) (sym (range_more done));
      state_is = at_third;
    }

all_rounds : (done : ℕ) → done ≡ ROUNDS → range_with_len 1 done ≡ rounds
unfolding rounds
all_rounds done all = ap (range_with_len 1) all

-- all rounds, and what follows them
pub all_done : (seed done state : ℕ) (text written : List ℕ) → HasRounds seed done text state → done ≡ ROUNDS
    → written ≡ text ++ codes "compact\nlist\nstats\n" → written ≡ made_script seed
unfolding made_script
all_done seed done state text written so_far all is =
    is ∙ ap (λ front. front ++ codes "compact\nlist\nstats\n")
    (so_far.text_is ∙ ap (λ rs. first_text (draw seed 1) ++ flat_map (round_text seed) rs) (all_rounds done all))
