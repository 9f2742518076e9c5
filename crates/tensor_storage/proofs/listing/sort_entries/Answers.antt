use Rattle.std.specs.Prelude.{refl}
use Rattle.tensor_storage.proofs.listing.sort_entries.Goals as goal

pub returns-then-are_increasing-clause-ok : goal.returns-then-are_increasing-clause-ok
returns-then-are_increasing-clause-ok g c = record {
  order = c.args.entries.now.order;
  each = c.are_increasing.ensures.entries.each;
  increasing = c.are_increasing.ensures.increasing c.if-are_increasing.true;
  listed = λ coords. (λ l. l, λ l. l);
  values = λ coords. refl;
}
