use Rattle.std.proofs.Common.{◌≡◌, ◌<◌, length, sym, ◌∙◌, ap, subst, arith}
use Rattle.std.specs.Prelude.{is_some}
use Rattle.index_notation.specs.Numbering.{place_of}
use Rattle.bindings.specs.Bindings.{first_in, format_in, path_in, range_in, is_bound, number_in, names_for}
use Rattle.bindings.specs.Views.{said_in, text_in}
use Rattle.bindings.proofs.Tables.{file_found, is_some_map}
use Rattle.bindings.proofs.bound.Bound.holds.Goals as goal

pub index-requires : goal.index-requires
index-requires c =
    let within : c.args.number < length c.args.statement.now.tensors =
    subst (λ w. c.args.number < length (names_for c.args.statement.now (said_in w))) c.in-Format.is c.requires.within in
    omega (arith, within, c.requires.places.tensors)

pub index-requires-in-Range : goal.index-requires-in-Range
index-requires-in-Range c =
    let within : c.args.number < length c.args.statement.now.vars =
    subst (λ w. c.args.number < length (names_for c.args.statement.now (said_in w))) c.in-Range.is c.requires.within in
    omega (arith, within, c.requires.places.variables)

pub returns-in-Format : goal.returns-in-Format
returns-in-Format c words bound =
    let s = c.args.statement.now in
    let within : c.args.number < length s.tensors =
    subst (λ w. c.args.number < length (names_for s (said_in w))) c.in-Format.is c.requires.within in
    let number : c.args.number ≡ place_of s.tensors (record { bytes = c.in-Format.name.now }) =
    c.requires.number ∙ ap (λ w. number_in s (said_in w)) c.in-Format.is in
    c.is_some.ensures ∙ ap is_some c.index.ensures ∙ sym (is_some_map text_in _)
    ∙ ap is_some (bound.texts c.args.number c.index.result.now within)
    ∙ ap (λ n. is_some (first_in (format_in s n) words)) number ∙ sym (ap (λ w. is_bound s words (said_in w)) c.in-Format.is)

pub returns-in-File : goal.returns-in-File
returns-in-File c words bound =
    let s = c.args.statement.now in
    let number : c.args.number ≡ place_of s.tensors (record { bytes = c.in-File.name.now }) =
    c.requires.number ∙ ap (λ w. number_in s (said_in w)) c.in-File.is in
    c.contains_key.ensures ∙ file_found s words c.args.number c.args.self.now.files.entries bound.files
    ∙ ap (λ n. is_some (first_in (path_in s n) words)) number ∙ sym (ap (λ w. is_bound s words (said_in w)) c.in-File.is)

pub returns-in-Range : goal.returns-in-Range
returns-in-Range c words bound =
    let s = c.args.statement.now in
    let within : c.args.number < length s.vars =
    subst (λ w. c.args.number < length (names_for s (said_in w))) c.in-Range.is c.requires.within in
    let number : c.args.number ≡ place_of s.vars (record { bytes = c.in-Range.name.now }) =
    c.requires.number ∙ ap (λ w. number_in s (said_in w)) c.in-Range.is in
    c.is_some-in-Range.ensures ∙ ap is_some c.index-in-Range.ensures
    ∙ ap is_some (bound.ranges c.args.number c.index-in-Range.result.now within)
    ∙ ap (λ n. is_some (first_in (range_in s n) words)) number ∙ sym (ap (λ w. is_bound s words (said_in w)) c.in-Range.is)
