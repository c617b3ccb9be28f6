use Rattle.std.proofs.Common.{◌≡◌, ℕ, ◌+◌, ◌*◌, ◌==◌, ◌++◌, ◌∷◌, [], map, ap, sym, ◌∙◌, arith, eq-eqb}
use Rattle.std.proofs.lemmas.Bool.{ne_eqb}
use Rattle.std.specs.List.{range_with_len, filter}
use Rattle.elf_loader.specs.Fields.{header_at, table_offset, headers_of, loads_of}
use Rattle.elf_loader.proofs.Tables.{loaded, passed}
use Rattle.elf_loader.proofs.refusals.read_loads.Goals as goal
use Rattle.elf_loader.proofs.refusals.read_loads.Goals.{then-header-eq1+in_ok-push, else-header-eq1}

pub loop-k-preserved : goal.loop-k-preserved
loop-k-preserved c =
    let file = c.args.file.now in
    let k = c.loop-k.k in
    let f = λ (i : ℕ). header_at file (table_offset file + 56 * i) in
    let same = c.read-header.ensures ∙ ap (λ t. header_at file (t + 56 * k)) c.u64_at-table.ensures in
    elim c.if-header-eq1.branch [
      | then-header-eq1+in_ok-push w ↦
          ap (λ loads. loads.items) w.loads-is ∙ w.in_ok-push.ensures.items ∙ ap (λ h. c.loop-k.loads.items ++ h ∷ []) same
          ∙ loaded f k c.loop-k.loads.items (eq-eqb _ _ (sym (ap (λ h. h.kind) same) ∙ w.if-header-eq1.true)) c.loop-k.invariant
      | else-header-eq1 w ↦
          ap (λ loads. loads.items) w.loads-is
          ∙ passed f k c.loop-k.loads.items (ne_eqb _ _ (λ e. w.if-header-eq1.false (ap (λ h. h.kind) same ∙ e))) c.loop-k.invariant
    ]

pub returns : goal.returns
unfolding headers_of loads_of
returns c =
    let file = c.args.file.now in
    let end : c.loop-k.k ≡ c.u16_at-count.result = omega arith in
    c.loop-k.invariant
    ∙ ap (λ n. filter (λ header. header.kind == 1) (map (λ i. header_at file (table_offset file + 56 * i)) (range_with_len 0 n))) (end ∙ c.u16_at-count.ensures)
