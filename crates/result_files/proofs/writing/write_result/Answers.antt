use Rattle.std.specs.Prelude.{ℕ, List}
use Rattle.std.proofs.Common.{ap}
use Rattle.std.proofs.lemmas.Result.{IfErr-weaker, on_ok_weaker}
use Rattle.bindings.specs.Tables.{path_to}
use Rattle.result_files.specs.EntriesText.{result_text}
use Rattle.result_files.proofs.FileTexts.{part_in_file, part_put_out, put_in_file, put_out, result_refused, result_written}
use Rattle.result_files.proofs.writing.write_result.Goals as goal

pub returns-in-Some-clause-written : goal.returns-in-Some-clause-written
returns-in-Some-clause-written g c =
    let a = g.S.Semiring.arithmetic in
    let signed = g.S.Semiring.is_signed in
    let entries = c.args.entries.now in
    let text : List ℕ = result_text c.is_matrix.result a signed c.args.shape.now entries.list in
    let path = ap path_to c.in-Some.is in
    on_ok_weaker c.write_file.result
    (λ whole. result_written a signed g.met.S.Semiring.laws c.args.shape.now entries c.requires.are _ c.is_matrix.result
    c.is_matrix.ensures c.requires _ _ (g.O.Sink.state c.args.out.now) _
    (put_in_file _ text _ _ (g.O.Sink.state c.args.out.now) (g.O.Sink.state c.args.out.now) c.in-Some.file.path.now path whole))
    c.write_file.ensures.whole

pub returns-in-Some-clause-refused : goal.returns-in-Some-clause-refused
returns-in-Some-clause-refused g c =
    let a = g.S.Semiring.arithmetic in
    let signed = g.S.Semiring.is_signed in
    let entries = c.args.entries.now in
    let text : List ℕ = result_text c.is_matrix.result a signed c.args.shape.now entries.list in
    let path = ap path_to c.in-Some.is in
    IfErr-weaker c.write_file.result _ _
    (λ why part. result_refused a signed g.met.S.Semiring.laws c.args.shape.now entries c.requires.are _ c.is_matrix.result
    c.is_matrix.ensures c.requires _ _ (g.O.Sink.state c.args.out.now) _ why
    (part_in_file _ text _ _ (g.O.Sink.state c.args.out.now) (g.O.Sink.state c.args.out.now) c.in-Some.file.path.now why path part))
    c.write_file.ensures.part

pub returns-in-None-clause-written : goal.returns-in-None-clause-written
returns-in-None-clause-written g c =
    let a = g.S.Semiring.arithmetic in
    let signed = g.S.Semiring.is_signed in
    let entries = c.args.entries.now in
    let text : List ℕ = result_text c.is_matrix.result a signed c.args.shape.now entries.list in
    let path = ap path_to c.in-None.is in
    on_ok_weaker c.print_text.result
    (λ whole. result_written a signed g.met.S.Semiring.laws c.args.shape.now entries c.requires.are _ c.is_matrix.result
    c.is_matrix.ensures c.requires (g.F.Folder.state c.args.files.now) _ _ _
    (put_out _ text (g.F.Folder.state c.args.files.now) (g.F.Folder.state c.args.files.now) _ _ path whole))
    c.print_text.ensures.whole

pub returns-in-None-clause-refused : goal.returns-in-None-clause-refused
returns-in-None-clause-refused g c =
    let a = g.S.Semiring.arithmetic in
    let signed = g.S.Semiring.is_signed in
    let entries = c.args.entries.now in
    let text : List ℕ = result_text c.is_matrix.result a signed c.args.shape.now entries.list in
    let path = ap path_to c.in-None.is in
    IfErr-weaker c.print_text.result _ _
    (λ why part. result_refused a signed g.met.S.Semiring.laws c.args.shape.now entries c.requires.are _ c.is_matrix.result
    c.is_matrix.ensures c.requires (g.F.Folder.state c.args.files.now) _ _ _ why
    (part_put_out _ text (g.F.Folder.state c.args.files.now) (g.F.Folder.state c.args.files.now) _ _ why path part))
    c.print_text.ensures.part
