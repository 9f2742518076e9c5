use Rattle.std.proofs.Common.{◌≡◌, ◌+◌, ℕ, [], Result, length, subst, sym, ◌∙◌, rules}
use Rattle.text_lines.specs.Cutting.{told_lines}
use Rattle.mtx_io.specs.Matrix.{Matrix, BadLine, matrix_of_text}
use Rattle.mtx_io.specs.Progress.{counted, told, rest_of}
use Rattle.std.proofs.Common.{ap, inr, false, ◌∷◌}
use Rattle.mtx_io.specs.MtxReader.{MtxReader, EndsEntry}
use Rattle.mtx_io.specs.Reader.{Tells}
use Rattle.mtx_io.proofs.AnswersTold.{answer_told}
use Rattle.mtx_io.proofs.ReaderLaws.{counts_behind}
use Rattle.mtx_io.proofs.mtx_reader.MtxReader.finish.Goals as goal

pub returns-in-Ok : goal.returns-in-Ok
returns-in-Ok g c =
    let a = g.S.Semiring.arithmetic in
    let has_minus = g.S.Semiring.has_minus in
    let signed = g.S.Semiring.is_signed in
    let inside = c.self.inside in
    let result = c.answer_at_end.result in
    let entries = c.take_end.new.entries in
    let text = c.take_end.new.lines.text in
    let number : ℕ = length (told_lines text) + 1 in
    let counts : c.saturating_add.result ≡ counted (c.number.result + 1) = search rules in
    let read = c.in-Ok.ensures.read inside.fed.bytes (c.self.invariant.read c.if-wants.false) in
    let tells = c.answer_at_end.ensures a has_minus signed number (counts ∙ counts_behind text c.number.result c.number.ensures) in
    let so = subst (λ (n : ℕ). Tells
    (told (rest_of a has_minus signed n entries.list c.in-Ok.stage number [])) n result) c.in-Ok.ensures.order
    tells in
    let calm : c.args.self.wants ≡ false = sym (ap (λ (r : MtxReader). r.wants) c.self.view_is) ∙ c.if-wants.false in
    answer_told a has_minus signed c.args.self calm result
    (subst (λ (r : MtxReader). Tells (told (matrix_of_text a has_minus signed r.order r.text)) r.order result) c.self.view_is
    (subst (λ (w : Result Matrix BadLine). Tells w inside.entries.order result) (sym read) so))

pub returns : goal.returns
returns g c =
    let inside = c.self.inside in
    inr (subst (λ (r : MtxReader). EndsEntry g.S.Semiring.arithmetic g.S.Semiring.has_minus g.S.Semiring.is_signed r.order r.text
    (10 ∷ [])) c.self.view_is
    (c.in-Err.ensures.ended inside.fed.bytes (c.self.invariant.read c.if-wants.false)))
