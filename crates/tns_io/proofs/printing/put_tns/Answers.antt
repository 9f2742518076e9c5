use Rattle.std.specs.Prelude.{◌+◌, ◌<◌, ℕ, All, drop}
use Rattle.std.proofs.Common.{subst, sym, ◌∙◌}
use Rattle.limits.specs.Limits.{greatest_position_count}
use Rattle.text_lines.proofs.PutPieces.{more_so_far, part_printed, refused, rest_told, then_rest}
use Rattle.tns_io.specs.Text.{entries_text}
use Rattle.tns_io.proofs.PrintLaws.{entries_step, no_entry}
use Rattle.tns_io.proofs.printing.put_tns.Goals as goal

pub put_entry-requires : goal.put_entry-requires
put_entry-requires g c =
    subst (All (λ x. x < greatest_position_count)) (sym (c.as_slice.ensures.value ∙ c.coords-coords.ensures.value no_entry))
    (c.requires c.loop-i.i no_entry (subst (λ (n : ℕ). c.loop-i.i < n) c.len-i-end.ensures.value c.loop-i-test.true))

pub loop-i-preserved : goal.loop-i-preserved
loop-i-preserved g c =
    more_so_far _ _ _ _ _ _
    (rest_told _ _ _ _ _ (entries_step g.S.Semiring.arithmetic g.S.Semiring.is_signed c.args.entries.now.list c.loop-i.i _ _
    (subst (λ (n : ℕ). c.loop-i.i < n) c.len-i-end.ensures.value c.loop-i-test.true) (c.as_slice.ensures.value
    ∙ c.coords-coords.ensures.value no_entry)
    (c.value.ensures no_entry))
    c.loop-i.invariant)
    c.in_ok-put_entry.ensures

pub returns-in_err-put_entry-clause-part : goal.returns-in_err-put_entry-clause-part
returns-in_err-put_entry-clause-part g c =
    part_printed c.from_residual.result _ _ _ (
    then_rest _ _ _ _ _ _
    (rest_told _ _ _ _ _ (entries_step g.S.Semiring.arithmetic g.S.Semiring.is_signed c.args.entries.now.list c.loop-i.i _ _
    (subst (λ (n : ℕ). c.loop-i.i < n) c.len-i-end.ensures.value c.loop-i-test.true) (c.as_slice.ensures.value
    ∙ c.coords-coords.ensures.value no_entry)
    (c.value.ensures no_entry))
    c.loop-i.invariant)
    (refused c.from_residual.result c.in_err-put_entry.field-0.0 _ _ _
    (entries_text g.S.Semiring.arithmetic g.S.Semiring.is_signed (drop (c.loop-i.i + 1) c.args.entries.now.list))
    c.from_residual.ensures.1 c.in_err-put_entry.ensures)
    )
