use Rattle.std.specs.Prelude.{◌+◌, length}
use Rattle.std.proofs.Common.{◌∙◌, sym, subst}
use Rattle.appended_results.specs.Codes.{AreKeys}
use Rattle.appended_results.proofs.SinkRows.{range_keys}
use Rattle.appended_results.proofs.sink.copied_row.Goals as goal

pub row_code-requires-clause-keys : goal.row_code-requires-clause-keys
row_code-requires-clause-keys c =
    let k = c.args.sink.now in
    let keys = c.args.keys.now in
    subst (AreKeys (length k.levels) k.base (c.args.free + length keys + 1)) (sym (c.as_slice.ensures ∙ c.in_ok-copied.ensures))
    (range_keys (length k.levels) k.base c.args.free (length keys) c.requires.many c.requires.below)
