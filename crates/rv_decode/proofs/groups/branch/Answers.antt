use Rattle.std.proofs.Common.{refl, rules, [], ◌∷◌}
use Rattle.rv_decode.specs.Table.{is_base}
use Rattle.rv_decode.proofs.NoneFits.{none_fits}
use Rattle.rv_decode.proofs.groups.branch.Goals as goal

pub returns-in_default : goal.returns-in_default
returns-in_default c =
    none_fits is_base c.args.word 0x7F 0x63
    ((0x707F, 0x0063) ∷ (0x707F, 0x1063) ∷ (0x707F, 0x4063) ∷ (0x707F, 0x5063) ∷ (0x707F, 0x6063) ∷ (0x707F, 0x7063) ∷ [])
    refl c.requires (search rules)
