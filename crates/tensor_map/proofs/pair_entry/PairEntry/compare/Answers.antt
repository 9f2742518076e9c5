use Rattle.std.proofs.Common.{◌∙◌, ◌<◌, arith}
use Rattle.std.specs.Ordering.{nat_cmp}
use Rattle.std.specs.Cmp.Lexicographic.{slice_cmp}
use Rattle.tensor_map.proofs.Words.{compared_in_one}
use Rattle.tensor_map.proofs.pair_entry.PairEntry.compare.Goals as goal

pub returns : goal.returns
returns c =
    let mine : c.self.inside.column < 4294967296 = omega (arith) in
    let others : c.other.inside.column < 4294967296 = omega (arith) in
    c.cmp.ensures ∙ compared_in_one c.self.inside.row c.self.inside.column c.other.inside.row c.other.inside.column mine others
    ∙ (λ i. slice_cmp nat_cmp (c.self.view_is i).coords (c.other.view_is i).coords)
