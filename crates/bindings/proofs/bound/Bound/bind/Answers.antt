use Rattle.std.proofs.Common.{◌<◌, length, sym, ◌∙◌, ap, subst, Some, refl}
use Rattle.std.specs.Prelude.{nat_eq}
use Rattle.bindings.specs.Bindings.{number_in, names_for, fault_of_said}
use Rattle.bindings.specs.Views.{said_in, HasNumber}
use Rattle.bindings.proofs.Tables.{format_bound, range_bound, file_bound, file_is_new}
use Rattle.indexmap.proofs.CallerLemmas.{insert_entry-new}
use Rattle.bindings.proofs.bound.Bound.bind.Goals as goal

pub returns-in-Format : goal.returns-in-Format
returns-in-Format c words text is said sound =
    let s = c.args.statement.now in
    format_bound s words text c.args.self.now c.args.number c.in-Format.name.now is c.in-Format.text
    (c.requires.number ∙ ap (λ w. number_in s (said_in w)) c.in-Format.is)
    (subst (λ w. c.args.number < length (names_for s (said_in w))) c.in-Format.is c.requires.within)
    (said ∙ ap (λ w. Some (said_in w)) c.in-Format.is)
    (sym (ap (λ w. fault_of_said s words (said_in w)) c.in-Format.is) ∙ sound)

pub returns-in_ok-insert-in-File : goal.returns-in_ok-insert-in-File
returns-in_ok-insert-in-File c words text is said sound =
    let s = c.args.statement.now in
    let place = c.requires.number ∙ ap (λ w. number_in s (said_in w)) c.in-File.is in
    let known = said ∙ ap (λ w. Some (said_in w)) c.in-File.is in
    let without = sym (ap (λ w. fault_of_said s words (said_in w)) c.in-File.is) ∙ sound in
    let new = file_is_new s words text c.args.self.now c.args.number c.in-File.name.now is c.in-File.file.path.now place without in
    file_bound s words text c.args.self.now c.args.number c.in-File.name.now is c.in-File.file _ _ place known
    (insert_entry-new nat_eq c.args.self.now.files c.args.number c.in-File.file new) c.in_ok-insert-in-File.ensures.entries refl refl

pub returns-in-Range : goal.returns-in-Range
returns-in-Range c words text is said sound =
    let s = c.args.statement.now in
    range_bound s words text c.args.self.now c.args.number c.in-Range.name.now is c.in-Range.digits.now c.in-Range.range
    (c.requires.number ∙ ap (λ w. number_in s (said_in w)) c.in-Range.is)
    (subst (λ w. c.args.number < length (names_for s (said_in w))) c.in-Range.is c.requires.within)
    (said ∙ ap (λ w. Some (said_in w)) c.in-Range.is) (subst HasNumber c.in-Range.is c.requires.range)
    (sym (ap (λ w. fault_of_said s words (said_in w)) c.in-Range.is) ∙ sound)
