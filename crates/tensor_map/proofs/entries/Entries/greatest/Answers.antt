use Rattle.std.proofs.Common.{◌<◌, length, sym, subst, arith}
use Rattle.std.proofs.lemmas.Grind.{common_steps}
use Rattle.tensor_map.specs.Entries.{IsGreatest}
use Rattle.tensor_map.proofs.Noted.{is_greatest}
use Rattle.tensor_map.proofs.entries.Entries.greatest.Goals as goal

pub returns : goal.returns
returns c =
    let some : 0 < length c.self.inside.list.list = grind (arith, common_steps) in
    rw (← c.self.view_is) (subst (IsGreatest c.self.inside.list.list c.args.mode) (sym (c.self.invariant.most c.args.mode))
    (is_greatest c.self.inside.list.list c.args.mode some))
