use Rattle.std.proofs.Common.{refl, rules, [], ◌∷◌}
use Rattle.rv_decode.specs.Table.{is_base}
use Rattle.rv_decode.proofs.NoneFits.{none_fits}
use Rattle.rv_decode.proofs.groups.register_word.Goals as goal

pub returns-in_default : goal.returns-in_default
returns-in_default c =
    none_fits is_base c.args.word 0x7F 0x3B
    ((0xFE00_707F, 0x003B) ∷ (0xFE00_707F, 0x4000_003B) ∷ (0xFE00_707F, 0x103B) ∷ (0xFE00_707F, 0x503B) ∷ (0xFE00_707F, 0x4000_503B) ∷ [])
    refl c.requires (search rules)
