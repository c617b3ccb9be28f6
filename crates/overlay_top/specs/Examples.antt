use Rattle.std.specs.Prelude.{◌≡◌, refl}
use Rattle.overlay_top.specs.declared.words.TheConstants.{FRAMES, MOST_QUANTUM, QUANTUM}

-- What the words set where they say nothing, and the greatest quantum, as numbers.

pub frames_is : FRAMES ≡ 1024
frames_is = refl

pub quantum_is : QUANTUM ≡ 100
quantum_is = refl

pub most_quantum_is : MOST_QUANTUM ≡ 1000000
most_quantum_is = refl
