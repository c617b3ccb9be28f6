use Rattle.std.proofs.Common.{refl, rules, [], ◌∷◌}
use Rattle.rv_decode.specs.Table.{is_base}
use Rattle.rv_decode.proofs.NoneFits.{none_fits}
use Rattle.rv_decode.proofs.groups.immediate.Goals as goal

pub returns-in_default : goal.returns-in_default
returns-in_default c =
    none_fits is_base c.args.word 0x7F 0x13
    ((0x707F, 0x13) ∷ (0x707F, 0x1013) ∷ (0x707F, 0x2013) ∷ (0x707F, 0x3013) ∷ (0x707F, 0x4013) ∷ (0x707F, 0x5013) ∷ (0x707F, 0x6013) ∷ (0x707F, 0x7013) ∷ [])
    refl c.requires (search rules)
