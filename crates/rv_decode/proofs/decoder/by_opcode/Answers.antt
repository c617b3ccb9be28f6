use Rattle.std.proofs.Common.{refl, rules, [], ◌∷◌}
use Rattle.rv_decode.specs.Table.{is_base}
use Rattle.rv_decode.proofs.NoneFits.{none_fits}
use Rattle.rv_decode.proofs.Masks.{no_bits}
use Rattle.rv_decode.proofs.MeansInstr.{means_instr}
use Rattle.rv_decode.proofs.decoder.by_opcode.Goals as goal

pub returns-in_default : goal.returns-in_default
returns-in_default c =
    none_fits is_base c.args.word 0 0
    ((0x7F, 0x37) ∷ (0x7F, 0x17) ∷ (0x7F, 0x6F) ∷ (0x7F, 0x67) ∷ (0x7F, 0x63) ∷ (0x7F, 0x3) ∷ (0x7F, 0x23) ∷ (0x7F, 0x13) ∷ (0x7F, 0x33) ∷ (0x7F, 0x1B) ∷ (0x7F, 0x3B) ∷ (0x7F, 0xF) ∷ (0x7F, 0x73) ∷ [])
    refl (no_bits c.args.word) (search rules)

pub returns-in_ok-system-in-115 : goal.returns-in_ok-system-in-115
returns-in_ok-system-in-115 c =
    let named = c.in_ok-system-in-115.ensures in
    means_instr (c.n_format.ensures c.args.word) named.0 named.1 named.2
