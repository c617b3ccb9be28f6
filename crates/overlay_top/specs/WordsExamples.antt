use Rattle.std.specs.Prelude.{◌≡◌, ◌-◌, ◌^◌, [], ◌∷◌, true, false, Some, None, codes, refl}
use Rattle.clap.proofs.OnLiterals.{clap_on_literals}
use Rattle.overlay_top.specs.Words.{command_line, settings_of}

-- What words set, as the checker computes it.

no_words : settings_of [] ≡ Some (record { frames = 1024; quantum = 100; seed = None; extension = false; calls = false })
unfolding clap_on_literals command_line settings_of
no_words = refl

frames_alone : settings_of (codes "--frames" ∷ codes "3" ∷ []) ≡ Some (record { frames = 3; quantum = 100; seed = None; extension = false; calls = false })
unfolding clap_on_literals command_line settings_of
frames_alone = refl

both_in_one_word_each : settings_of (codes "--quantum=7" ∷ codes "--frames=+003" ∷ []) ≡ Some (record { frames = 3; quantum = 7; seed = None; extension = false; calls = false })
unfolding clap_on_literals command_line settings_of
both_in_one_word_each = refl

lone_hyphens_last : settings_of (codes "--quantum" ∷ codes "7" ∷ codes "--" ∷ []) ≡ Some (record { frames = 1024; quantum = 7; seed = None; extension = false; calls = false })
unfolding clap_on_literals command_line settings_of
lone_hyphens_last = refl

seed_alone : settings_of (codes "--make" ∷ codes "3" ∷ []) ≡ Some (record { frames = 1024; quantum = 100; seed = Some 3; extension = false; calls = false })
unfolding clap_on_literals command_line settings_of
seed_alone = refl

all_three : settings_of (codes "--quantum" ∷ codes "7" ∷ codes "--make=18446744073709551615" ∷ codes "--frames=3" ∷ [])
    ≡ Some (record { frames = 3; quantum = 7; seed = Some (2 ^ 64 - 1); extension = false; calls = false })
unfolding clap_on_literals command_line settings_of
all_three = refl

flag_alone : settings_of (codes "--m" ∷ []) ≡ Some (record { frames = 1024; quantum = 100; seed = None; extension = true; calls = false })
unfolding clap_on_literals command_line settings_of
flag_alone = refl

flag_among_others : settings_of (codes "--make" ∷ codes "3" ∷ codes "--m" ∷ codes "--frames=3" ∷ [])
    ≡ Some (record { frames = 3; quantum = 100; seed = Some 3; extension = true; calls = false })
unfolding clap_on_literals command_line settings_of
flag_among_others = refl

flag_with_a_value : settings_of (codes "--m=1" ∷ []) ≡ None
unfolding clap_on_literals command_line settings_of
flag_with_a_value = refl

flag_before_a_word : settings_of (codes "--m" ∷ codes "x" ∷ []) ≡ None
unfolding clap_on_literals command_line settings_of
flag_before_a_word = refl

flag_twice : settings_of (codes "--m" ∷ codes "--m" ∷ []) ≡ None
unfolding clap_on_literals command_line settings_of
flag_twice = refl

calls_alone : settings_of (codes "--calls" ∷ []) ≡ Some (record { frames = 1024; quantum = 100; seed = None; extension = false; calls = true })
unfolding clap_on_literals command_line settings_of
calls_alone = refl

both_flags : settings_of (codes "--calls" ∷ codes "--quantum=7" ∷ codes "--m" ∷ [])
    ≡ Some (record { frames = 1024; quantum = 7; seed = None; extension = true; calls = true })
unfolding clap_on_literals command_line settings_of
both_flags = refl

calls_with_a_value : settings_of (codes "--calls=1" ∷ []) ≡ None
unfolding clap_on_literals command_line settings_of
calls_with_a_value = refl

calls_before_a_word : settings_of (codes "--calls" ∷ codes "x" ∷ []) ≡ None
unfolding clap_on_literals command_line settings_of
calls_before_a_word = refl

calls_twice : settings_of (codes "--calls" ∷ codes "--calls" ∷ []) ≡ None
unfolding clap_on_literals command_line settings_of
calls_twice = refl

no_seed_of_64_bits : settings_of (codes "--make" ∷ codes "18446744073709551616" ∷ []) ≡ None
unfolding clap_on_literals command_line settings_of
no_seed_of_64_bits = refl

seed_twice : settings_of (codes "--make" ∷ codes "1" ∷ codes "--make=1" ∷ []) ≡ None
unfolding clap_on_literals command_line settings_of
seed_twice = refl

no_frames : settings_of (codes "--frames" ∷ codes "0" ∷ []) ≡ None
unfolding clap_on_literals command_line settings_of
no_frames = refl

twice : settings_of (codes "--frames=3" ∷ codes "--frames=3" ∷ []) ≡ None
unfolding clap_on_literals command_line settings_of
twice = refl

shortened : settings_of (codes "--frame" ∷ codes "3" ∷ []) ≡ None
unfolding clap_on_literals command_line settings_of
shortened = refl

behind_hyphens : settings_of (codes "--" ∷ codes "--frames=3" ∷ []) ≡ None
unfolding clap_on_literals command_line settings_of
behind_hyphens = refl

without_a_value : settings_of (codes "--frames" ∷ []) ≡ None
unfolding clap_on_literals command_line settings_of
without_a_value = refl

help : settings_of (codes "--help" ∷ []) ≡ None
unfolding clap_on_literals command_line settings_of
help = refl

empty_word : settings_of ([] ∷ []) ≡ None
unfolding clap_on_literals command_line settings_of
empty_word = refl
