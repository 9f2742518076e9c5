use Rattle.std.specs.Prelude.{◌<◌, ◌^◌, ℕ, List, All}
use Rattle.std.proofs.Common.{sym, subst, arith}
use Rattle.std.proofs.lemmas.List.Elements.{All-from_get_or}
use Rattle.tensor_storage.proofs.packing.copy_of.Goals as goal

pub returns-clause-words : goal.returns-clause-words
returns-clause-words c =
    subst (λ (vs : List ℕ). All (λ v. v < 2 ^ 64) vs) (sym c.in_ok-copy.ensures)
    (All-from_get_or (λ v. v < 2 ^ 64) c.args.words.now 0 (λ i h. omega (arith, c.type_inv.words i)))
