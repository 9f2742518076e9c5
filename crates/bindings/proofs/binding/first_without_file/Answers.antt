use Rattle.std.specs.Prelude.{◌≡◌, true, None, is_some, length}
use Rattle.std.proofs.Common.{sym, ◌∙◌, ap, subst, arith}
use Rattle.bindings.specs.Bindings.{first_in, path_in}
use Rattle.bindings.specs.Outcome.{first_named}
use Rattle.bindings.proofs.Tables.{file_found, none_if_absent}
use Rattle.bindings.proofs.Rows.{files_on}
use Rattle.bindings.proofs.binding.first_without_file.Goals as goal

pub returns-then-not-contains_key : goal.returns-then-not-contains_key
returns-then-not-contains_key c words is =
    let s = c.args.statement.now in
    let tensor = c.loop-tensor.tensor in
    let key : c.first_named.result ≡ first_named s.tensors tensor =
    c.first_named.ensures ∙ ap (λ names. first_named names tensor) c.as_slice-names.ensures in
    let found = file_found s words c.first_named.result c.args.bound.now.files.entries is.files in
    record {
      operand = omega (arith, c.loop-tensor.auto.tensor);
      within = omega (arith, c.loop-tensor-test.true, ap length c.as_slice-names.ensures);
      before = c.loop-tensor.invariant words is;
      lacks = subst (λ n. first_in (path_in s n) words ≡ None) key
          (none_if_absent _ (sym found ∙ sym c.contains_key.ensures ∙ c.if-not-contains_key.true));
    }

pub loop-tensor-preserved : goal.loop-tensor-preserved
loop-tensor-preserved c words is =
    let s = c.args.statement.now in
    let tensor = c.loop-tensor.tensor in
    let key : c.first_named.result ≡ first_named s.tensors tensor =
    c.first_named.ensures ∙ ap (λ names. first_named names tensor) c.as_slice-names.ensures in
    let found = file_found s words c.first_named.result c.args.bound.now.files.entries is.files in
    files_on s words tensor (c.loop-tensor.invariant words is)
    (subst (λ n. is_some (first_in (path_in s n) words) ≡ true) key
    (sym found ∙ sym c.contains_key.ensures ∙ c.if-not-contains_key.false))

pub returns : goal.returns
returns c words is tensor first lt =
    c.loop-tensor.invariant words is tensor first
    (omega (arith, c.loop-tensor-test.false, ap length c.as_slice-names.ensures, lt))
