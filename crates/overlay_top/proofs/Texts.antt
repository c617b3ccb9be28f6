use Rattle.std.proofs.Common.{◌≡◌, ℕ, List, [], ◌++◌, sym, ap, subst, ◌∙◌, arith, append_assoc, length-append, append-nil, refl, Result, Ok, Err, OnOk}
use Rattle.ovl_io.specs.Outside.{Rose}
use Rattle.ovl_io.specs.declared.sink.Sink.{Ghosts as SinkOf}
use Rattle.overlay_top.specs.Sending.{IsSent, IsCut, SendsText}
use Rattle.overlay_top.specs.Outside.{SinkRose, SinkSound}

-- Texts that are sent one behind the other.

pub sent_then : (start now new done text : List ℕ) → now ≡ start ++ done → IsSent now text new → IsSent start (done ++ text) new
sent_then start now new done text so_far sent = sent ∙ ap (λ bs. bs ++ text) so_far ∙ append_assoc start done text

regrouped : (done front left rest : List ℕ) → (done ++ front) ++ (left ++ rest) ≡ done ++ ((front ++ left) ++ rest)
regrouped done front left rest =
    append_assoc done front (left ++ rest) ∙ ap (λ bs. done ++ bs) (sym (append_assoc front left rest))

-- a text that is cut within a longer one
pub cut_then : (start now new done text rest whole : List ℕ) → now ≡ start ++ done → done ++ (text ++ rest) ≡ whole → IsCut now text new → IsCut start whole new
cut_then start now new done text rest whole so_far all cut =
    let front = cut.0 in
    let left = cut.1 in (
      done ++ front,
      left ++ rest,
      regrouped done front left rest ∙ ap (λ bs. done ++ (bs ++ rest)) cut.2 ∙ all,
      omega (arith, length-append left rest, cut.3),
      cut.4 ∙ ap (λ bs. bs ++ front) so_far ∙ append_assoc start done front,
    )

-- Some of a text was sent, and what is left of it.
pub record IsDone (start now left whole : List ℕ) : Type 0 where
  pub front : List ℕ
  pub sent : now ≡ start ++ front
  pub all : front ++ left ≡ whole

pub none_done : (start whole : List ℕ) → IsDone start start whole whole
none_done start whole = record { front = []; sent = sym (append-nil start); all = refl }

pub more_done : (start now new left line rest whole : List ℕ) → left ≡ line ++ rest → IsSent now line new → IsDone start now left whole
    → IsDone start new rest whole
more_done start now new left line rest whole is sent done = record {
  front = done.front ++ line;
  sent = sent_then start now new done.front line done.sent sent;
  all = append_assoc done.front line rest ∙ ap (λ bs. done.front ++ bs) (sym is) ∙ done.all;
}

pub cut_done : (start now new left line rest whole : List ℕ) → left ≡ line ++ rest → IsCut now line new → IsDone start now left whole → IsCut start whole new
cut_done start now new left line rest whole is cut done =
    cut_then start now new done.front line rest whole done.sent (ap (λ bs. done.front ++ bs) (sym is) ∙ done.all) cut

pub last_done : (start now new left line whole : List ℕ) → left ≡ line → IsSent now line new → IsDone start now left whole → IsSent start whole new
last_done start now new left line whole is sent done =
    sent_then start now new done.front line done.sent sent
    ∙ ap (λ bs. start ++ bs) (ap (λ bs. done.front ++ bs) (sym is) ∙ done.all)

pub last_cut : (start now new left line whole : List ℕ) → left ≡ line → IsCut now line new → IsDone start now left whole → IsCut start whole new
last_cut start now new left line whole is cut done =
    cut_done start now new left line [] whole (is ∙ sym (append-nil line)) cut done

-- Sending what is left of a text, of which a front was sent without a fault.
module _ {K : Type 0} (k : SinkOf K) (start now new : K) (sound : SinkSound k start now) where
  rose_since : SinkRose k now new → SinkRose k start new
  rose_since rose = subst (λ n. Rose n (k.faults new)) sound rose

  -- a line of it failed, behind which more follows
  pub sends_cut : {T E F : Type 0} (left line rest whole : List ℕ) (e : E) (r : Result T F) (f : F) → r ≡ Err f → left ≡ line ++ rest
      → (k.tells → IsDone (k.taken start) (k.taken now) left whole) → SendsText {T = T} k now line new (Err e) → SendsText k start whole new r
  sends_cut {T = T} {F = F} left line rest whole e r f is_err is so_far (rose, cut) =
      subst (λ (x : Result T F). SendsText k start whole new x) (sym is_err)
      (rose_since rose, λ tells. cut_done (k.taken start) (k.taken now) (k.taken new) left line rest whole is (cut tells) (so_far tells))

  -- all of it
  pub sends_last : {T E : Type 0} (left text whole : List ℕ) (r : Result T E) → left ≡ text → (k.tells → IsDone (k.taken start) (k.taken now) left whole)
      → SendsText k now text new r → SendsText k start whole new r
  sends_last left text whole (Ok x) is so_far (none, sent) =
      (none ∙ sound, λ tells. last_done (k.taken start) (k.taken now) (k.taken new) left text whole is (sent tells) (so_far tells))
  sends_last left text whole (Err e) is so_far (rose, cut) =
      (rose_since rose, λ tells. last_cut (k.taken start) (k.taken now) (k.taken new) left text whole is (cut tells) (so_far tells))

-- A fact for one variant.
pub at_ok : {T E P : Type 0} (r : Result T E) → P → OnOk r P
at_ok (Ok x) h = h
at_ok (Err e) h = tt
