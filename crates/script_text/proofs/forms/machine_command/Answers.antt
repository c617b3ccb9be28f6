use Rattle.std.proofs.Common.{refl, codes, ◌∙◌}
use Rattle.script_text.specs.declared.command.Command.TheVariants.{Exec, Load, Asm, Fork, Run, Step, Checkpoint, Restore, Forget, Export, Import, Speculate, Commit, Discard, Promote, PromoteAll, Drop}
use Rattle.script_text.specs.declared.command.Command.TheVariants as command
use Rattle.script_text.specs.Words.{words_of}
use Rattle.script_text.specs.Kinds.{file_word, checkpoint_word, turns_word, process_word, address_word, pages_word, perms_word, all_word}
use Rattle.script_text.specs.Forms.{no_words, one_word, two_words, three_words, four_words, machine_forms, made_by}
use Rattle.script_text.specs.FormLaws.{◌beside◌}
use Rattle.script_text.proofs.Rows.{at_row, at_rows, at_no_row, not_text, if_ok}
use Rattle.script_text.proofs.forms.machine_command.Goals as goal

pub returns-then-eq : goal.returns-then-eq
returns-then-eq c =
    let words = words_of c.args.words.now in
    if_ok c.exec.result (two_words file_word turns_word Exec words) (made_by machine_forms c.args.first.now words)
    (at_row machine_forms (codes "exec") c.as_slice.result.now (two_words file_word turns_word Exec)
    c.args.first.now (words_of c.args.words.now) (λ ws. refl) c.as_slice.ensures c.if-eq.ensures) c.exec.ensures

pub returns-then-eq-2 : goal.returns-then-eq-2
returns-then-eq-2 c =
    let words = words_of c.args.words.now in
    if_ok c.load.result (one_word file_word Load words) (made_by machine_forms c.args.first.now words)
    (at_row machine_forms (codes "load") c.as_slice-else-eq.result.now (one_word file_word Load)
    c.args.first.now (words_of c.args.words.now) (λ ws. refl) c.as_slice-else-eq.ensures c.if-eq-2.ensures) c.load.ensures

pub returns-then-eq-3 : goal.returns-then-eq-3
returns-then-eq-3 c =
    let words = words_of c.args.words.now in
    if_ok c.asm.result (one_word file_word Asm words) (made_by machine_forms c.args.first.now words)
    (at_row machine_forms (codes "asm") c.as_slice-else-eq-2.result.now (one_word file_word Asm)
    c.args.first.now (words_of c.args.words.now) (λ ws. refl) c.as_slice-else-eq-2.ensures c.if-eq-3.ensures) c.asm.ensures

pub returns-then-eq-4 : goal.returns-then-eq-4
returns-then-eq-4 c =
    c.fork.ensures
    ∙ at_row machine_forms (codes "fork") c.as_slice-else-eq-3.result.now (one_word process_word Fork)
    c.args.first.now (words_of c.args.words.now) (λ ws. refl) c.as_slice-else-eq-3.ensures c.if-eq-4.ensures

pub returns-then-eq-5 : goal.returns-then-eq-5
returns-then-eq-5 c =
    c.run.ensures
    ∙ at_row machine_forms (codes "run") c.as_slice-else-eq-4.result.now (one_word turns_word Run)
    c.args.first.now (words_of c.args.words.now) (λ ws. refl) c.as_slice-else-eq-4.ensures c.if-eq-5.ensures

pub returns-then-eq-6 : goal.returns-then-eq-6
returns-then-eq-6 c =
    c.step.ensures
    ∙ at_row machine_forms (codes "step") c.as_slice-else-eq-5.result.now (two_words process_word turns_word Step)
    c.args.first.now (words_of c.args.words.now) (λ ws. refl) c.as_slice-else-eq-5.ensures c.if-eq-6.ensures

pub returns-then-eq-7 : goal.returns-then-eq-7
returns-then-eq-7 c =
    let words = words_of c.args.words.now in
    if_ok c.checkpoint.result (two_words process_word checkpoint_word Checkpoint words) (made_by machine_forms c.args.first.now words)
    (at_row machine_forms (codes "checkpoint") c.as_slice-else-eq-6.result.now (two_words process_word checkpoint_word Checkpoint)
    c.args.first.now (words_of c.args.words.now) (λ ws. refl) c.as_slice-else-eq-6.ensures c.if-eq-7.ensures) c.checkpoint.ensures

pub returns-then-eq-8 : goal.returns-then-eq-8
returns-then-eq-8 c =
    let words = words_of c.args.words.now in
    if_ok c.restore.result (two_words process_word checkpoint_word Restore words) (made_by machine_forms c.args.first.now words)
    (at_row machine_forms (codes "restore") c.as_slice-else-eq-7.result.now (two_words process_word checkpoint_word Restore)
    c.args.first.now (words_of c.args.words.now) (λ ws. refl) c.as_slice-else-eq-7.ensures c.if-eq-8.ensures) c.restore.ensures

pub returns-then-eq-9 : goal.returns-then-eq-9
returns-then-eq-9 c =
    let words = words_of c.args.words.now in
    if_ok c.forget.result (one_word checkpoint_word Forget words) (made_by machine_forms c.args.first.now words)
    (at_row machine_forms (codes "forget") c.as_slice-else-eq-8.result.now (one_word checkpoint_word Forget)
    c.args.first.now (words_of c.args.words.now) (λ ws. refl) c.as_slice-else-eq-8.ensures c.if-eq-9.ensures) c.forget.ensures

pub returns-then-eq-10 : goal.returns-then-eq-10
returns-then-eq-10 c =
    let words = words_of c.args.words.now in
    if_ok c.export.result (two_words checkpoint_word checkpoint_word Export words) (made_by machine_forms c.args.first.now words)
    (at_row machine_forms (codes "export") c.as_slice-else-eq-9.result.now (two_words checkpoint_word checkpoint_word Export)
    c.args.first.now (words_of c.args.words.now) (λ ws. refl) c.as_slice-else-eq-9.ensures c.if-eq-10.ensures) c.export.ensures

pub returns-then-eq-11 : goal.returns-then-eq-11
returns-then-eq-11 c =
    let words = words_of c.args.words.now in
    if_ok c.import.result (three_words checkpoint_word checkpoint_word file_word Import words) (made_by machine_forms c.args.first.now words)
    (at_row machine_forms (codes "import") c.as_slice-else-eq-10.result.now (three_words checkpoint_word checkpoint_word file_word Import)
    c.args.first.now (words_of c.args.words.now) (λ ws. refl) c.as_slice-else-eq-10.ensures c.if-eq-11.ensures) c.import.ensures

pub returns-then-eq-12 : goal.returns-then-eq-12
returns-then-eq-12 c =
    c.speculate.ensures
    ∙ at_row machine_forms (codes "speculate") c.as_slice-else-eq-11.result.now (one_word process_word Speculate)
    c.args.first.now (words_of c.args.words.now) (λ ws. refl) c.as_slice-else-eq-11.ensures c.if-eq-12.ensures

pub returns-then-eq-13 : goal.returns-then-eq-13
returns-then-eq-13 c =
    c.commit.ensures
    ∙ at_row machine_forms (codes "commit") c.as_slice-else-eq-12.result.now (one_word process_word Commit)
    c.args.first.now (words_of c.args.words.now) (λ ws. refl) c.as_slice-else-eq-12.ensures c.if-eq-13.ensures

pub returns-then-eq-14 : goal.returns-then-eq-14
returns-then-eq-14 c =
    c.discard.ensures
    ∙ at_row machine_forms (codes "discard") c.as_slice-else-eq-13.result.now (one_word process_word Discard)
    c.args.first.now (words_of c.args.words.now) (λ ws. refl) c.as_slice-else-eq-13.ensures c.if-eq-14.ensures

pub returns-then-eq-15 : goal.returns-then-eq-15
returns-then-eq-15 c =
    c.promote.ensures
    ∙ at_rows machine_forms (codes "promote") c.as_slice-else-eq-14.result.now (two_words process_word address_word Promote) (two_words process_word all_word (λ p all. PromoteAll p))
    c.args.first.now (words_of c.args.words.now) (λ ws. refl) c.as_slice-else-eq-14.ensures c.if-eq-15.ensures

pub returns-then-eq-16 : goal.returns-then-eq-16
returns-then-eq-16 c =
    c.dedup.ensures
    ∙ at_rows machine_forms (codes "dedup") c.as_slice-else-eq-15.result.now (four_words process_word address_word process_word address_word command.Dedup)
    (three_words process_word all_word process_word (λ p all q. command.DedupAll p q))
    c.args.first.now (words_of c.args.words.now) (λ ws. refl) c.as_slice-else-eq-15.ensures c.if-eq-16.ensures

pub returns-then-eq-17 : goal.returns-then-eq-17
returns-then-eq-17 c =
    c.compact.ensures
    ∙ at_row machine_forms (codes "compact") c.as_slice-else-eq-16.result.now (no_words command.Compact)
    c.args.first.now (words_of c.args.words.now) (λ ws. refl) c.as_slice-else-eq-16.ensures c.if-eq-17.ensures

pub returns-then-eq-18 : goal.returns-then-eq-18
returns-then-eq-18 c =
    c.map.ensures
    ∙ at_row machine_forms (codes "map") c.as_slice-else-eq-17.result.now (four_words process_word address_word pages_word perms_word command.Map)
    c.args.first.now (words_of c.args.words.now) (λ ws. refl) c.as_slice-else-eq-17.ensures c.if-eq-18.ensures

pub returns-then-eq-19 : goal.returns-then-eq-19
returns-then-eq-19 c =
    c.unmap.ensures
    ∙ at_row machine_forms (codes "unmap") c.as_slice-else-eq-18.result.now (three_words process_word address_word pages_word command.Unmap)
    c.args.first.now (words_of c.args.words.now) (λ ws. refl) c.as_slice-else-eq-18.ensures c.if-eq-19.ensures

pub returns-then-eq-20 : goal.returns-then-eq-20
returns-then-eq-20 c =
    c.give_up.ensures
    ∙ at_row machine_forms (codes "drop") c.as_slice-else-eq-19.result.now (one_word process_word Drop)
    c.args.first.now (words_of c.args.words.now) (λ ws. refl) c.as_slice-else-eq-19.ensures c.if-eq-20.ensures

pub returns-else-eq-20 : goal.returns-else-eq-20
returns-else-eq-20 c =
    at_no_row machine_forms c.args.first.now (words_of c.args.words.now) (
    not_text (codes "exec") c.as_slice.result.now c.args.first.now c.as_slice.ensures c.if-eq.ensures
    beside not_text (codes "load") c.as_slice-else-eq.result.now c.args.first.now c.as_slice-else-eq.ensures c.if-eq-2.ensures
    beside not_text (codes "asm") c.as_slice-else-eq-2.result.now c.args.first.now c.as_slice-else-eq-2.ensures c.if-eq-3.ensures
    beside not_text (codes "fork") c.as_slice-else-eq-3.result.now c.args.first.now c.as_slice-else-eq-3.ensures c.if-eq-4.ensures
    beside not_text (codes "run") c.as_slice-else-eq-4.result.now c.args.first.now c.as_slice-else-eq-4.ensures c.if-eq-5.ensures
    beside not_text (codes "step") c.as_slice-else-eq-5.result.now c.args.first.now c.as_slice-else-eq-5.ensures c.if-eq-6.ensures
    beside not_text (codes "checkpoint") c.as_slice-else-eq-6.result.now c.args.first.now c.as_slice-else-eq-6.ensures c.if-eq-7.ensures
    beside not_text (codes "restore") c.as_slice-else-eq-7.result.now c.args.first.now c.as_slice-else-eq-7.ensures c.if-eq-8.ensures
    beside not_text (codes "forget") c.as_slice-else-eq-8.result.now c.args.first.now c.as_slice-else-eq-8.ensures c.if-eq-9.ensures
    beside not_text (codes "export") c.as_slice-else-eq-9.result.now c.args.first.now c.as_slice-else-eq-9.ensures c.if-eq-10.ensures
    beside not_text (codes "import") c.as_slice-else-eq-10.result.now c.args.first.now c.as_slice-else-eq-10.ensures c.if-eq-11.ensures
    beside not_text (codes "speculate") c.as_slice-else-eq-11.result.now c.args.first.now c.as_slice-else-eq-11.ensures c.if-eq-12.ensures
    beside not_text (codes "commit") c.as_slice-else-eq-12.result.now c.args.first.now c.as_slice-else-eq-12.ensures c.if-eq-13.ensures
    beside not_text (codes "discard") c.as_slice-else-eq-13.result.now c.args.first.now c.as_slice-else-eq-13.ensures c.if-eq-14.ensures
    beside not_text (codes "promote") c.as_slice-else-eq-14.result.now c.args.first.now c.as_slice-else-eq-14.ensures c.if-eq-15.ensures
    beside not_text (codes "promote") c.as_slice-else-eq-14.result.now c.args.first.now c.as_slice-else-eq-14.ensures c.if-eq-15.ensures
    beside not_text (codes "dedup") c.as_slice-else-eq-15.result.now c.args.first.now c.as_slice-else-eq-15.ensures c.if-eq-16.ensures
    beside not_text (codes "dedup") c.as_slice-else-eq-15.result.now c.args.first.now c.as_slice-else-eq-15.ensures c.if-eq-16.ensures
    beside not_text (codes "compact") c.as_slice-else-eq-16.result.now c.args.first.now c.as_slice-else-eq-16.ensures c.if-eq-17.ensures
    beside not_text (codes "map") c.as_slice-else-eq-17.result.now c.args.first.now c.as_slice-else-eq-17.ensures c.if-eq-18.ensures
    beside not_text (codes "unmap") c.as_slice-else-eq-18.result.now c.args.first.now c.as_slice-else-eq-18.ensures c.if-eq-19.ensures
    beside not_text (codes "drop") c.as_slice-else-eq-19.result.now c.args.first.now c.as_slice-else-eq-19.ensures c.if-eq-20.ensures
    beside tt
    )
