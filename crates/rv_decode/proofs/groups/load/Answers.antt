use Rattle.std.proofs.Common.{refl, rules, [], ◌∷◌}
use Rattle.rv_decode.specs.Table.{is_base}
use Rattle.rv_decode.proofs.NoneFits.{none_fits}
use Rattle.rv_decode.proofs.groups.load.Goals as goal

pub returns-in_default : goal.returns-in_default
returns-in_default c =
    none_fits is_base c.args.word 0x7F 0x03
    ((0x707F, 0x0003) ∷ (0x707F, 0x1003) ∷ (0x707F, 0x2003) ∷ (0x707F, 0x3003) ∷ (0x707F, 0x4003) ∷ (0x707F, 0x5003) ∷ (0x707F, 0x6003) ∷ [])
    refl c.requires (search rules)
