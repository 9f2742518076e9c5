use Rattle.std.specs.Prelude.{refl}
use Rattle.std.proofs.Common.{◌∙◌, ap, arith}
use Rattle.level_location.specs.Found.{moved_to}
use Rattle.kernel_emit.proofs.summing.begin_sum.Goals as goal

pub returns : goal.returns
returns g c = record {
  tells = c.in_ok-flag.ensures;
  sink_is = refl;
  begins = c.in_ok-begin.ensures;
  ends = c.in_ok-end.ensures;
  places_are = c.set_cursor.ensures ∙ ap (λ p. moved_to p c.args.sum c.args.free) c.in_ok-behind.ensures;
  free_is = refl;
  room = omega (arith, c.if-free.false);
}
