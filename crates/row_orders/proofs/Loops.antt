-- Loops that a concrete statement is lowered to are those of its statement.
use Rattle.std.specs.Prelude.{◌≡◌, ℕ, List, [], ◌∷◌, ◌++◌, map, refl}
use Rattle.std.specs.List.Sorted.{IsPermutation}
use Rattle.std.proofs.Common.{◌∙◌, sym, ap, subst, inl, inr}
use denote.Hole.Carrier.{hidden}
use Rattle.format_spec.specs.declared.format.FormatLevel.{FormatLevel}
use Rattle.index_notation.specs.Statement.{IsDistinct}
use Rattle.index_notation.specs.declared.syntax.Statement.{Statement}
use Rattle.expr_terms.specs.Terms.{terms}
use Rattle.concrete_notation.specs.declared.concrete.Concrete.{Concrete, Add, Where, Forall', Both', Where', Row_of-Concrete}
use Rattle.concrete_notation.specs.declared.concrete.Concrete.{end_of-Concrete, more_of-Concrete}
use Rattle.concrete_notation.specs.declared.concrete.Concrete.TheBlock.{hidden-the_row-Concrete-0}
use Rattle.concrete_notation.specs.Nests.{nest_of, next_loops, next_loops_in, workspaces, workspaces_in, HasTerms}
use Rattle.concrete_notation.specs.Nests.{SharesLoops, SharesLoops_in}
use Rattle.concrete_notation.proofs.LoopSums.{none_of_both}
use Rattle.loop_code.specs.declared.loops.LoopCode.{LoopCode}
use Rattle.lowering.specs.Lowered.{plain, plain_in, concrete_of, IsInOrder}
use Rattle.lowering.proofs.RightLoops.{same_nests}
use Rattle.row_orders.specs.Orders.{AreLoopsOf, IsOutermost}

mutual
  unfolding hidden-the_row-Concrete-0 hidden

  -- without a workspace the same loops stand side by side
  next_plain : (c : Concrete) → workspaces c ≡ [] → next_loops (plain c) ≡ next_loops c
  next_plain (Add t) none = refl
  next_plain (Forall' v p body) none = refl
  next_plain (Both' p f q g) none =
      let parts = none_of_both (workspaces_in f) (workspaces_in g) none in
      ap (λ vs. vs ++ next_loops (plain_in g)) (next_plain_in f parts.0) ∙ ap (λ vs. next_loops_in f ++ vs) (next_plain_in g parts.1)
  next_plain (Where' keys p body) none = cc

  next_plain_in : {m : _} (row : Row_of-Concrete m) → workspaces_in row ≡ [] → next_loops (plain_in row) ≡ next_loops_in row
  next_plain_in end_of-Concrete none = refl
  next_plain_in (more_of-Concrete c rest) none = next_plain c none

mutual
  unfolding hidden-the_row-Concrete-0 hidden

  -- and share what they share
  pub shared_plain : (c : Concrete) → workspaces c ≡ [] → SharesLoops c → SharesLoops (plain c)
  shared_plain (Add t) none shared = tt
  shared_plain (Forall' v p body) none shared = shared_plain_in body none shared
  shared_plain (Both' p f q g) none shared =
      let parts = none_of_both (workspaces_in f) (workspaces_in g) none in (
        subst IsDistinct (ap (λ vs. vs ++ next_loops_in g) (sym (next_plain_in f parts.0))
            ∙ ap (λ vs. next_loops (plain_in f) ++ vs) (sym (next_plain_in g parts.1))) shared.0,
        shared_plain_in f parts.0 shared.1,
        shared_plain_in g parts.1 shared.2,
      )
  shared_plain (Where' keys p body) none shared = absurd (some none)
    where
      some : keys ∷ workspaces_in body ≡ [] → ⊥
      some e = cc

  shared_plain_in : {m : _} (row : Row_of-Concrete m) → workspaces_in row ≡ [] → SharesLoops_in row → SharesLoops (plain_in row)
  shared_plain_in end_of-Concrete none shared = tt
  shared_plain_in (more_of-Concrete c rest) none shared = shared_plain c none shared

-- so do those of one workspace around all
pub shared_through : (keys : List ℕ) (c : Concrete) → workspaces c ≡ [] → SharesLoops (Where keys c) → SharesLoops (plain (Where keys c))
unfolding hidden-the_row-Concrete-0 hidden
shared_through keys c none shared = shared_plain c none shared

pub shared_outermost : (c : Concrete) → IsOutermost c → SharesLoops c → SharesLoops (plain c)
shared_outermost c (inl none) shared = shared_plain c none shared
shared_outermost c (inr through) shared =
    subst (λ d. SharesLoops (plain d)) (sym through.2)
    (shared_through through.0 through.1 through.3 (subst SharesLoops through.2 shared))

-- what a concrete statement in order is lowered to, where no two of its loops over one variable stand side by side
pub loops_are : (s : Statement) (formats : List (List FormatLevel)) (c : Concrete) (in_order : IsInOrder s formats c) (loops : LoopCode)
    → concrete_of loops ≡ plain c → SharesLoops (plain c) → AreLoopsOf s in_order.order loops
loops_are s formats c in_order loops shape shared = record {
  terms = subst (HasTerms s in_order.order) (sym shape)
      (subst (IsPermutation (map (nest_of s in_order.order) (terms s.expr))) (sym (same_nests c)) in_order.terms);
  shared = subst SharesLoops (sym shape) shared;
}
