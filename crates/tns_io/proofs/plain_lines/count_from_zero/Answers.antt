use Rattle.std.proofs.Common.{◌≡◌, ◌≢◌, ℕ, ◌-◌, ◌<◌, List, length, arith, get_or, get_or-set_other, get_or-set_same, below_more}
use Rattle.std.proofs.Common.{ap, sym, ◌∙◌}
use Rattle.std.specs.Prelude.{Some, Ok}
use Rattle.tns_io.specs.Reading.{coordinate_from}
use Rattle.tns_io.proofs.NumberEntries.{coordinate_within}
use Rattle.tns_io.proofs.plain_lines.count_from_zero.Goals as goal

pub loop-number-preserved : goal.loop-number-preserved
loop-number-preserved c =
    let i : ℕ = c.loop-number.number-index in
    let numbers : List ℕ = c.loop-number.numbers in
    let n : ℕ = get_or numbers i 0 in
    let lt : i < length numbers = omega (arith, c.loop-number-test.true, c.loop-number.auto.numbers) in
    let here : coordinate_from (Some (get_or c.args.numbers.now i 0)) ≡ Ok (n - 1) =
    ap (λ (m : ℕ). coordinate_from (Some m)) (sym (c.loop-number.invariant.left i (omega arith)))
    ∙ coordinate_within n (omega arith) (omega arith) in
    record {
      done = below_more _ _
          (λ mode h. let ne : mode ≢ i = omega arith in rw get_or-set_other (c.loop-number.invariant.done mode h))
          (rw get_or-set_same here);
      left = λ mode h. let ne : mode ≢ i = omega arith in rw get_or-set_other (c.loop-number.invariant.left mode (omega arith));
    }

pub returns : goal.returns
returns c = λ all. record { long = omega arith; each = λ mode h. c.loop-number.invariant.done mode (omega arith) }
