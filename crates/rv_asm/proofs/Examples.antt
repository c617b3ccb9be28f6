-- Whole texts, by the definition alone.
use Rattle.std.proofs.Common.{◌≡◌, refl, Ok, Err, codes, ◌++◌, [], ◌∷◌}
use Rattle.asm_lines.specs.Words.{words}
use Rattle.asm_lines.specs.Kinds.{name_word, raw_word, register_word, signed_word, immediate_word, offset_word, is_label, target_word}
use Rattle.asm_lines.specs.Lines.{front_of, item_on, lines_in}
use Rattle.rv_asm.specs.declared.error.AsmError.TheVariants.{BadLine, Twice, NoLabel}
use Rattle.rv_asm.specs.Labels.{labels_of}
use Rattle.rv_asm.specs.Outcomes.{outcomes_of}
use Rattle.rv_asm.specs.File.{file_header, file_of}
use Rattle.rv_asm.specs.Assembly.{first_outside, words_of, assembled}

-- three instructions, and the file byte for byte
whole : assembled (codes "addi x17, x0, 93\naddi x10, x0, 7\necall\n") ≡ Ok (file_header ++
    (1 ∷ 0 ∷ 0 ∷ 0 ∷ 7 ∷ 0 ∷ 0 ∷ 0 ∷ 120 ∷ 0 ∷ 0 ∷ 0 ∷ 0 ∷ 0 ∷ 0 ∷ 0
    ∷ 0x78 ∷ 0 ∷ 1 ∷ 0 ∷ 0 ∷ 0 ∷ 0 ∷ 0 ∷ 0x78 ∷ 0 ∷ 1 ∷ 0 ∷ 0 ∷ 0 ∷ 0 ∷ 0
    ∷ 12 ∷ 0 ∷ 0 ∷ 0 ∷ 0 ∷ 0 ∷ 0 ∷ 0 ∷ 12 ∷ 0 ∷ 0 ∷ 0 ∷ 0 ∷ 0 ∷ 0 ∷ 0 ∷ 0 ∷ 0x10 ∷ 0 ∷ 0 ∷ 0 ∷ 0 ∷ 0 ∷ 0
    ∷ 0x93 ∷ 0x08 ∷ 0xD0 ∷ 0x05 ∷ 0x13 ∷ 0x05 ∷ 0x70 ∷ 0x00 ∷ 0x73 ∷ 0x00 ∷ 0x00 ∷ 0x00 ∷ []))
unfolding assembled words_of first_outside labels_of outcomes_of file_of lines_in item_on front_of words name_word register_word signed_word immediate_word is_label target_word
whole = refl

-- a branch ahead and a jump back
around : words_of (codes "here: bne x1, x0, there\n jal x0, here # back\nthere:\nfence\n.word 0x7f") ≡ Ok (0x00009463 ∷ 0xFFDFF06F ∷ 0x0FF0000F ∷ 127 ∷ [])
unfolding words_of first_outside labels_of outcomes_of lines_in item_on front_of words name_word raw_word register_word signed_word immediate_word is_label target_word
around = refl

-- refusals, the first that holds
bad : words_of (codes "a:\na: jal x0, c\nlw x5, -4 (x2)") ≡ Err (BadLine 3)
unfolding words_of first_outside labels_of outcomes_of lines_in item_on front_of words name_word register_word signed_word immediate_word offset_word is_label target_word
bad = refl

second : words_of (codes "a: ecall\nb:\na: jal x0, c\n") ≡ Err (Twice 3)
unfolding words_of first_outside labels_of outcomes_of lines_in item_on front_of words name_word register_word signed_word immediate_word is_label target_word
second = refl

absent : words_of (codes "ecall\n\njal x0, c\n") ≡ Err (NoLabel 3)
unfolding words_of first_outside labels_of outcomes_of lines_in item_on front_of words name_word register_word signed_word immediate_word is_label target_word
absent = refl
