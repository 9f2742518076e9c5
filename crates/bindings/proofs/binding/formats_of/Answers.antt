use Rattle.std.specs.Prelude.{◌≡◌, ℕ, ◌+◌, ◌≤◌, ◌<◌, length, slice_index_or}
use Rattle.std.proofs.Common.{sym, ◌∙◌, ap, subst, arith, refl, []}
use Rattle.limits.specs.Limits.{greatest_order}
use Rattle.bindings.specs.Outcome.{first_named}
use Rattle.bindings.proofs.FirstNamed.{first_within}
use Rattle.bindings.proofs.Formats.{FormatsSoFar, order_small, formats_on, format_here}
use Rattle.bindings.proofs.binding.formats_of.Goals as goal

pub index-text-requires : goal.index-text-requires
index-text-requires c =
    let s = c.args.statement.now in
    let tensor : ℕ = c.loop-tensor.tensor in
    let key : c.first_named.result ≡ first_named s.tensors tensor =
    c.first_named.ensures ∙ ap (λ names. first_named names tensor) c.as_slice-names.ensures in
    let long : tensor < length s.tensors = omega (arith, c.loop-tensor-test.true, ap length c.as_slice-names.ensures) in
    let within : first_named s.tensors tensor < length s.tensors = first_within s.tensors tensor long in
    let places : length c.args.bound.now.texts.items ≡ length s.tensors = c.requires.places.tensors in
    omega (arith, key, within, places)

pub format_of-requires : goal.format_of-requires
format_of-requires c = subst (λ n. n ≤ greatest_order) (sym c.order_of.ensures)
    (order_small c.args.statement.now c.requires.numbered c.loop-tensor.tensor)

pub returns-in-Err : goal.returns-in-Err
returns-in-Err c words is =
    let s = c.args.statement.now in
    let tensor : ℕ = c.loop-tensor.tensor in
    let items = c.args.bound.now.texts.items in
    let key : c.first_named.result ≡ first_named s.tensors tensor =
    c.first_named.ensures ∙ ap (λ names. first_named names tensor) c.as_slice-names.ensures in
    let within : tensor < length s.tensors = omega (arith, c.loop-tensor-test.true, ap length c.as_slice-names.ensures) in
    let before = c.loop-tensor.invariant words is in
    record {
      within = within;
      before = λ other lt. (_, before.are other [] lt);
      is = format_here s words c.args.bound.now tensor _ _ c.index-text.result.now _ is within items refl
          (c.index-text.ensures ∙ ap (λ n. slice_index_or items n c.index-text.result.now) key) c.order_of.ensures c.in-Err.ensures;
    }

pub loop-tensor-preserved : goal.loop-tensor-preserved
loop-tensor-preserved c words is =
    let s = c.args.statement.now in
    let tensor : ℕ = c.loop-tensor.tensor in
    let items = c.args.bound.now.texts.items in
    let key : c.first_named.result ≡ first_named s.tensors tensor =
    c.first_named.ensures ∙ ap (λ names. first_named names tensor) c.as_slice-names.ensures in
    let within : tensor < length s.tensors = omega (arith, c.loop-tensor-test.true, ap length c.as_slice-names.ensures) in
    subst (FormatsSoFar s words (tensor + 1)) (sym c.in_ok-push-in-Ok.ensures)
    (formats_on s words tensor c.loop-tensor.formats.items c.in-Ok.format (c.loop-tensor.invariant words is)
    (format_here s words c.args.bound.now tensor _ _ c.index-text.result.now _ is within items refl
    (c.index-text.ensures ∙ ap (λ n. slice_index_or items n c.index-text.result.now) key) c.order_of.ensures c.in-Ok.ensures))
