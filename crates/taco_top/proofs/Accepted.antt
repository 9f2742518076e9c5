-- What words ask for can be compiled: the statement is well named, and each tensor has a format of its order.
use Rattle.std.specs.Prelude.{◌≡◌, ℕ, List, length}
use Rattle.std.proofs.Common.{sym, subst}
use Rattle.lists.specs.Each.{Each}
use Rattle.format_spec.specs.declared.format.FormatLevel.{FormatLevel}
use Rattle.index_notation.specs.Statement.{IsNumberedWithSums, IsWellNamed}
use Rattle.iteration_graph.specs.Edges.{HasFormat}
use Rattle.expr_terms.proofs.ExpandLaws.{expanded_named}
use Rattle.nested_sums.specs.Bad.{ReadsItsSums}
use Rattle.nested_sums.specs.Bound.{HasNoBadSum}
use Rattle.nested_sums.specs.Pieces.{HasMeaningWithSums}
use Rattle.nested_sums.proofs.BadSums.{fine_is_clear}
use Rattle.operand_packing.proofs.FormatsBound.{formats_fit}
use Rattle.taco_top.specs.Values.{values_of}
use Rattle.taco_top.specs.Asked.{needs_files}
use Rattle.taco_top.specs.Run.{Request, AsksFor}
use Rattle.taco_top.proofs.TreeSums.{expanded_reads_sums, tree_reads_sums}
use Rattle.taco_top.proofs.WellNamed.{notation_well_named}

module _ (words : List (List ℕ)) (r : Request) (asks : AsksFor words r) where
  pub asked_meant : HasMeaningWithSums (values_of r.over).has_minus r.statement
  asked_meant = asks.names.meant

  pub well_named : IsWellNamed r.statement
  well_named =
      let named = asks.names.named in
      subst IsWellNamed (sym named.stands_for)
      (expanded_named named.written (notation_well_named asks.names.text named.written named.notation named.names))

  -- each nested sum is read, and none is bad
  pub is_bound : IsNumberedWithSums r.statement → HasNoBadSum r.statement
  is_bound numbered =
      let named = asks.names.named in
      fine_is_clear r.statement numbered named.fine
      (subst ReadsItsSums (sym named.stands_for)
      (expanded_reads_sums named.written (subst ReadsItsSums (sym named.notation.is) (tree_reads_sums named.notation.tree))))

  -- the formats that were handed in are those of the request
  module _ (numbered : IsNumberedWithSums r.statement) (formats : List (List FormatLevel)) (formats_are : formats ≡ r.formats) where
    fit : HasFormat r.formats r.statement.left × Each (HasFormat r.formats) r.statement.accesses
    fit = formats_fit r.statement asks.rest (needs_files r.task) r.formats r.files r.given asks.binds numbered well_named

    pub left_has_format : HasFormat formats r.statement.left
    left_has_format = subst (λ fs. HasFormat fs r.statement.left) (sym formats_are) fit.0

    pub right_have_formats : Each (HasFormat formats) r.statement.accesses
    right_have_formats = subst (λ fs. Each (HasFormat fs) r.statement.accesses) (sym formats_are) fit.1

  -- and there is one for each tensor
  pub each_format : length r.formats ≡ length r.statement.tensors
  each_format = asks.binds.formats_are.tensors
