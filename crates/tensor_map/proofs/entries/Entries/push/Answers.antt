use Rattle.std.proofs.Common.{◌<◌, ◌^◌, sym, ◌∙◌, ap, arith}
use Rattle.std.proofs.lemmas.List.Elements.{All-from_get_or}
use Rattle.tensor_map.specs.Entries.{Entries, IsEntry}
use Rattle.tensor_map.proofs.Noted.{noted_more}
use Rattle.tensor_map.proofs.entries.Entries.push.Goals as goal

pub invariant_of-self-2 : goal.invariant_of-self-2
invariant_of-self-2 c =
    let is_entry : IsEntry c.self.inside.list.order (record { coords = c.args.coords.now; value = c.args.v }) = record {
      long = c.requires ∙ sym (ap (λ (row : Entries). row.order) c.self.view_is);
      words = All-from_get_or (λ coordinate. coordinate < 2 ^ 64) c.args.coords.now 0 (λ i h. omega (arith, c.type_inv.coords i));
      word = omega arith;
    } in
    noted_more c.args.v c.self.inside.list c.push.new.self c.args.coords.now c.self.inside.greatest c.raise.new.greatest
    c.self.invariant c.push.ensures.order c.in_ok-push.ensures.ok is_entry c.raise.ensures
