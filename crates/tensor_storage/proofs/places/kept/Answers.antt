use Rattle.std.specs.Prelude.{◌≡◌, length}
use Rattle.std.proofs.Common.{sym, arith}
use Rattle.tensor_storage.proofs.PlaceSteps.{own_list}
use Rattle.tensor_storage.proofs.places.kept.Goals as goal

pub returns-then-own : goal.returns-then-own
returns-then-own c =
    let long : c.len.result ≡ length c.args.list.items = omega (arith, c.len.ensures, c.args.list.ok.0) in
    sym (own_list c.len.result c.args.list.items (sym long) (λ i h. c.requires c.if-own.true i (omega (arith, h, long))))
