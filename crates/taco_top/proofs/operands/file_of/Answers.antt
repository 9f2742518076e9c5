use Rattle.std.proofs.Common.{◌∙◌, ap}
use Rattle.bindings.specs.Tables.{path_to}
use Rattle.taco_top.proofs.Paths.{path_in_view}
use Rattle.taco_top.proofs.operands.file_of.Goals as goal

pub returns : goal.returns
returns c = ap path_to (c.copied.ensures ∙ c.get.ensures.value) ∙ path_in_view c.args.tensor c.args.bindings.now.files.entries
