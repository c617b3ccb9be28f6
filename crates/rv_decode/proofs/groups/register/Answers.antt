use Rattle.std.proofs.Common.{refl, rules, [], ◌∷◌}
use Rattle.rv_decode.specs.Table.{is_base}
use Rattle.rv_decode.proofs.NoneFits.{none_fits}
use Rattle.rv_decode.proofs.groups.register.Goals as goal

pub returns-in_default : goal.returns-in_default
returns-in_default c =
    none_fits is_base c.args.word 0x7F 0x33
    ((0xFE00_707F, 0x0033) ∷ (0xFE00_707F, 0x4000_0033) ∷ (0xFE00_707F, 0x1033) ∷ (0xFE00_707F, 0x2033) ∷ (0xFE00_707F, 0x3033) ∷ (0xFE00_707F, 0x4033) ∷ (0xFE00_707F, 0x5033) ∷ (0xFE00_707F, 0x4000_5033) ∷ (0xFE00_707F, 0x6033) ∷ (0xFE00_707F, 0x7033) ∷ [])
    refl c.requires (search rules)
