use Rattle.std.proofs.Common.{ℕ, List, subst, sym}
use Rattle.mtx_io.specs.Progress.{IsStage, IsMatrixOrder}
use Rattle.mtx_io.specs.Reader.{IsReadSoFar}
use Rattle.mtx_io.specs.declared.stage.Stage.{Stage}
use Rattle.mtx_io.proofs.mtx_reader.MtxReaderEater.feed.Goals as goal

pub invariant_of-self-in-Ok : goal.invariant_of-self-in-Ok
invariant_of-self-in-Ok g c =
    let a = g.S.Semiring.arithmetic in
    let has_minus = g.S.Semiring.has_minus in
    let signed = g.S.Semiring.is_signed in
    let inside = c.self.inside in
    let entries = c.take_piece.new.entries in
    let text = c.take_piece.new.lines.text in
    let stage = c.in-Ok.stage in
    let same = sym c.in-Ok.ensures.order in
    record {
      order = subst IsMatrixOrder same c.self.invariant.order;
      stage = λ fed. subst (λ (n : ℕ). IsStage has_minus n entries.list stage) same c.in-Ok.ensures.stage;
      read = λ fed.
          let read = subst (λ (s : Stage). IsReadSoFar a has_minus signed inside.entries.order inside.fed.bytes inside.lines.text
          inside.entries.list s) (sym c.replace-stage.ensures.value) (c.self.invariant.read fed) in
          let after = c.in-Ok.ensures.read inside.fed.bytes read in
          subst (λ (n : ℕ). IsReadSoFar a has_minus signed n c.extend.new.self.bytes text entries.list stage) same
          (subst (λ (bytes : List ℕ). IsReadSoFar a has_minus signed inside.entries.order bytes text entries.list stage)
          (sym c.extend.ensures)
          after);
    }
