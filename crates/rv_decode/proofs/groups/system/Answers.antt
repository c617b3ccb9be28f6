use Rattle.std.proofs.Common.{[], ◌∷◌, refl, rules, arith}
use Rattle.rv_decode.specs.Table.{is_base}
use Rattle.rv_decode.proofs.NoneFits.{none_fits}
use Rattle.rv_decode.proofs.Masks.{whole_word}
use Rattle.rv_decode.proofs.groups.system.Goals as goal

pub returns-in_default : goal.returns-in_default
returns-in_default c =
    let whole = whole_word c.args.word (omega arith) in
    none_fits is_base c.args.word 0x7F 0x73
    ((0xFFFFFFFF, 0x73) ∷ (0xFFFFFFFF, 0x100073) ∷ [])
    refl c.requires (search rules)
