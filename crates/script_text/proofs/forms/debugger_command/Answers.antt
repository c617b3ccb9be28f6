use Rattle.std.proofs.Common.{refl, codes, ◌∙◌}
use Rattle.script_text.specs.declared.command.Command.TheVariants as command
use Rattle.script_text.specs.Words.{words_of}
use Rattle.script_text.specs.Kinds.{process_word, address_word, register_word, dumped_word, words_word, hex_word}
use Rattle.script_text.specs.Forms.{no_words, one_word, two_words, three_words, debugger_forms, made_by}
use Rattle.script_text.specs.FormLaws.{◌beside◌}
use Rattle.script_text.proofs.Rows.{at_row, at_no_row, not_text, if_ok}
use Rattle.script_text.proofs.forms.debugger_command.Goals as goal

pub returns-then-eq : goal.returns-then-eq
returns-then-eq c =
    c.regs.ensures
    ∙ at_row debugger_forms (codes "regs") c.as_slice.result.now (one_word process_word command.Regs)
    c.args.first.now (words_of c.args.words.now) (λ ws. refl) c.as_slice.ensures c.if-eq.ensures

pub returns-then-eq-2 : goal.returns-then-eq-2
returns-then-eq-2 c =
    c.dump.ensures
    ∙ at_row debugger_forms (codes "dump") c.as_slice-else-eq.result.now (three_words process_word address_word dumped_word command.Dump)
    c.args.first.now (words_of c.args.words.now) (λ ws. refl) c.as_slice-else-eq.ensures c.if-eq-2.ensures

pub returns-then-eq-3 : goal.returns-then-eq-3
returns-then-eq-3 c =
    let words = words_of c.args.words.now in
    if_ok c.poke.result (three_words process_word address_word hex_word command.Poke words) (made_by debugger_forms c.args.first.now words)
    (at_row debugger_forms (codes "poke") c.as_slice-else-eq-2.result.now (three_words process_word address_word hex_word command.Poke)
    c.args.first.now (words_of c.args.words.now) (λ ws. refl) c.as_slice-else-eq-2.ensures c.if-eq-3.ensures) c.poke.ensures

pub returns-then-eq-4 : goal.returns-then-eq-4
returns-then-eq-4 c =
    c.set.ensures
    ∙ at_row debugger_forms (codes "set") c.as_slice-else-eq-3.result.now (three_words process_word register_word address_word command.Set)
    c.args.first.now (words_of c.args.words.now) (λ ws. refl) c.as_slice-else-eq-3.ensures c.if-eq-4.ensures

pub returns-then-eq-5 : goal.returns-then-eq-5
returns-then-eq-5 c =
    c.add_break.ensures
    ∙ at_row debugger_forms (codes "break") c.as_slice-else-eq-4.result.now (two_words process_word address_word command.Break)
    c.args.first.now (words_of c.args.words.now) (λ ws. refl) c.as_slice-else-eq-4.ensures c.if-eq-5.ensures

pub returns-then-eq-6 : goal.returns-then-eq-6
returns-then-eq-6 c =
    c.unbreak.ensures
    ∙ at_row debugger_forms (codes "unbreak") c.as_slice-else-eq-5.result.now (two_words process_word address_word command.Unbreak)
    c.args.first.now (words_of c.args.words.now) (λ ws. refl) c.as_slice-else-eq-5.ensures c.if-eq-6.ensures

pub returns-then-eq-7 : goal.returns-then-eq-7
returns-then-eq-7 c =
    c.disasm.ensures
    ∙ at_row debugger_forms (codes "disasm") c.as_slice-else-eq-6.result.now (three_words process_word address_word words_word command.Disasm)
    c.args.first.now (words_of c.args.words.now) (λ ws. refl) c.as_slice-else-eq-6.ensures c.if-eq-7.ensures

pub returns-then-eq-8 : goal.returns-then-eq-8
returns-then-eq-8 c =
    c.list.ensures
    ∙ at_row debugger_forms (codes "list") c.as_slice-else-eq-7.result.now (no_words command.List)
    c.args.first.now (words_of c.args.words.now) (λ ws. refl) c.as_slice-else-eq-7.ensures c.if-eq-8.ensures

pub returns-then-eq-9 : goal.returns-then-eq-9
returns-then-eq-9 c =
    c.stats.ensures
    ∙ at_row debugger_forms (codes "stats") c.as_slice-else-eq-8.result.now (no_words command.Stats)
    c.args.first.now (words_of c.args.words.now) (λ ws. refl) c.as_slice-else-eq-8.ensures c.if-eq-9.ensures

pub returns-else-eq-9 : goal.returns-else-eq-9
returns-else-eq-9 c =
    at_no_row debugger_forms c.args.first.now (words_of c.args.words.now) (
    not_text (codes "regs") c.as_slice.result.now c.args.first.now c.as_slice.ensures c.if-eq.ensures
    beside not_text (codes "dump") c.as_slice-else-eq.result.now c.args.first.now c.as_slice-else-eq.ensures c.if-eq-2.ensures
    beside not_text (codes "poke") c.as_slice-else-eq-2.result.now c.args.first.now c.as_slice-else-eq-2.ensures c.if-eq-3.ensures
    beside not_text (codes "set") c.as_slice-else-eq-3.result.now c.args.first.now c.as_slice-else-eq-3.ensures c.if-eq-4.ensures
    beside not_text (codes "break") c.as_slice-else-eq-4.result.now c.args.first.now c.as_slice-else-eq-4.ensures c.if-eq-5.ensures
    beside not_text (codes "unbreak") c.as_slice-else-eq-5.result.now c.args.first.now c.as_slice-else-eq-5.ensures c.if-eq-6.ensures
    beside not_text (codes "disasm") c.as_slice-else-eq-6.result.now c.args.first.now c.as_slice-else-eq-6.ensures c.if-eq-7.ensures
    beside not_text (codes "list") c.as_slice-else-eq-7.result.now c.args.first.now c.as_slice-else-eq-7.ensures c.if-eq-8.ensures
    beside not_text (codes "stats") c.as_slice-else-eq-8.result.now c.args.first.now c.as_slice-else-eq-8.ensures c.if-eq-9.ensures
    beside tt
    )
