use Rattle.std.proofs.Common.{refl, rules, [], ◌∷◌}
use Rattle.rv_decode.specs.Table.{is_base}
use Rattle.rv_decode.proofs.NoneFits.{none_fits}
use Rattle.rv_decode.proofs.groups.store.Goals as goal

pub returns-in_default : goal.returns-in_default
returns-in_default c =
    none_fits is_base c.args.word 0x7F 0x23
    ((0x707F, 0x0023) ∷ (0x707F, 0x1023) ∷ (0x707F, 0x2023) ∷ (0x707F, 0x3023) ∷ [])
    refl c.requires (search rules)
