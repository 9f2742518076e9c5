use Rattle.std.proofs.Common.{subst, rules, ◌∙◌}
use Rattle.outside.specs.Folder.{FolderState}
use Rattle.result_files.specs.Refused.{refused_as}
use Rattle.result_files.specs.Writes.{FailsToFill, FillsFile}
use Rattle.result_files.proofs.Batches.{handed_on, same_borrow}
use Rattle.result_files.proofs.FilledFiles.{file_filled, file_part}
use Rattle.result_files.proofs.writing.write_file.Goals as goal

pub returns-in_err-fill-clause-part : goal.returns-in_err-fill-clause-part
returns-in_err-fill-clause-part g c =
    let state = g.F.Folder.state in
    let new = c.fill.new.sink in
    let name = c.args.path.now in
    let why = c.in_err-fill.field-0.0 in
    let text = g.T.Text.text c.args.text.now in
    let borrow = same_borrow _ _ new.files.ghost_name c.in_err-fill.ensures.part.beside_is ∙ c.new-file.ensures.borrow in
    handed_on c.from_residual-in_err-fill.result (refused_as why) _ c.from_residual-in_err-fill.ensures.1
    (subst (λ (s : FolderState). FailsToFill (state c.args.files.now) s name text (refused_as why)) (search (rules, borrow))
    (file_part (state c.args.files.now) (state c.start_write.new.self) (state new.files.now) _ name text
    _ new.files.ghost_name why c.new-file.ensures.state c.in_ok-start_write.ensures.started c.in_err-fill.ensures.part))

pub returns-clause-whole : goal.returns-clause-whole
returns-clause-whole g c =
    let state = g.F.Folder.state in
    let new = c.fill.new.sink in
    let name = c.args.path.now in
    let text = g.T.Text.text c.args.text.now in
    let borrow = same_borrow _ _ new.files.ghost_name c.in_ok-fill.ensures.whole.beside_is ∙ c.new-file.ensures.borrow in
    subst (λ (s : FolderState). FillsFile (state c.args.files.now) s name text) (search (rules, borrow))
    (file_filled (state c.args.files.now) (state c.start_write.new.self) (state new.files.now) _ name text
    _ new.files.ghost_name c.new-file.ensures.state c.in_ok-start_write.ensures.started c.in_ok-fill.ensures.whole)
