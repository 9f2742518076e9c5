use Rattle.std.proofs.Common.{◌∙◌, ap, sym}
use Rattle.std.specs.Prelude.{max}
use Rattle.resolved_code.specs.Rooms.{room_to, room_of_value, room_of_statement, room_of_code}
use Rattle.resolved_code.proofs.FitsLemmas.{room_of_if, room_of_while}
use Rattle.resolved_code.proofs.rooms.+greatest.Goals as goal

pub greatest_in-returns-in-If : goal.greatest_in-returns-in-If
greatest_in-returns-in-If t c =
    let s = c.in-If in
    c.greater-in-If-2.ensures
    ∙ ap (λ n. max n (room_to c.greater-in-If.result)) c.greatest_of-in-If.ensures
    ∙ ap (max (room_of_value s.v)) (c.greater-in-If.ensures
    ∙ ap (λ n. max n (room_to c.greatest_variable-second.result)) (c.greatest_variable-first.ensures ∙ ap room_of_code c.as_slice.ensures)
    ∙ ap (max (room_of_code s.first)) (c.greatest_variable-second.ensures ∙ ap room_of_code c.as_slice-in-If.ensures))
    ∙ sym (ap room_of_statement s.is ∙ room_of_if s.v s.first s.second)

pub greatest_in-returns-in-While : goal.greatest_in-returns-in-While
greatest_in-returns-in-While t c =
    let s = c.in-While in
    c.greater-in-While.ensures
    ∙ ap (λ n. max n (room_to c.greatest_variable-body.result)) c.greatest_of-in-While.ensures
    ∙ ap (max (room_of_value s.v)) (c.greatest_variable-body.ensures ∙ ap room_of_code c.as_slice-in-While.ensures)
    ∙ sym (ap room_of_statement s.is ∙ room_of_while s.field-0 s.v s.body)
