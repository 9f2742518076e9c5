use Rattle.std.proofs.Common.{sym, subst}
use Rattle.std.proofs.lemmas.List.{length-map}
use Rattle.bindings.specs.Bindings.{AreSound}
use Rattle.bindings.proofs.Rows.{texts}
use Rattle.bindings.proofs.binding.bind.Goals as goal

pub returns : goal.returns
returns c =
    let s = c.args.statement.now in
    let words = texts c.args.words.now in
    let bound = c.in_ok-bound.ensures.0 in
    record {
      sound = subst (λ n. AreSound s words n) (sym (length-map c.args.words.now (λ word. word.now))) c.in_ok-bound.ensures.1;
      files_are = bound.files;
      all_read = c.in_ok-check_files.ensures words bound;
      formats_are = c.in_ok-formats.ensures words bound;
      variables = bound.places.variables;
      ranges_are = bound.ranges;
    }
