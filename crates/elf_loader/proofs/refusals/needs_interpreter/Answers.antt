use Rattle.std.proofs.Common.{◌≡◌, ◌+◌, ◌*◌, ◌<◌, ◌==◌, false, map, sym, ◌∙◌, ap, subst, eq-eqb, arith}
use Rattle.std.proofs.lemmas.Bool.{ne_eqb}
use Rattle.std.specs.List.{list_any, range_with_len}
use Rattle.elf_loader.specs.Fields.{header_at, number_at, table_offset, headers_of}
use Rattle.elf_loader.proofs.Tables.{none_more, one_is}
use Rattle.elf_loader.proofs.refusals.needs_interpreter.Goals as goal

pub returns-then-u32_at-eq3 : goal.returns-then-u32_at-eq3
unfolding headers_of
returns-then-u32_at-eq3 c =
    let file = c.args.file.now in
    let k = c.loop-k.k in
    sym (one_is (λ h. h.kind == 3) (λ i. header_at file (table_offset file + 56 * i)) k _ (subst (λ n. k < n) c.u16_at-count.ensures c.loop-k-test.true)
    (eq-eqb _ _ (ap (λ t. number_at file (t + 56 * k) 4) (sym c.u64_at-table.ensures) ∙ sym c.u32_at.ensures ∙ c.if-u32_at-eq3.true)))

pub loop-k-preserved : goal.loop-k-preserved
loop-k-preserved c =
    let file = c.args.file.now in
    let k = c.loop-k.k in
    none_more (λ h. h.kind == 3) (λ i. header_at file (table_offset file + 56 * i)) k c.loop-k.invariant
    (ne_eqb _ _ (λ e. c.if-u32_at-eq3.false (c.u32_at.ensures ∙ ap (λ t. number_at file (t + 56 * k) 4) c.u64_at-table.ensures ∙ e)))

pub returns : goal.returns
unfolding headers_of
returns c =
    let file = c.args.file.now in
    let end : c.loop-k.k ≡ c.u16_at-count.result = omega arith in
    sym (subst (λ n. list_any (λ h. h.kind == 3) (map (λ i. header_at file (table_offset file + 56 * i)) (range_with_len 0 n)) ≡ false)
    (end ∙ c.u16_at-count.ensures) c.loop-k.invariant)
