-- Where a concrete statement has no workspace, its loops are shared as they were.
use Rattle.std.specs.Prelude.{◌≡◌, ℕ, List, [], ◌∷◌, ◌++◌, refl}
use Rattle.std.proofs.Common.{◌∙◌, sym, ap, subst}
use Rattle.index_notation.specs.Statement.{IsDistinct}
use Rattle.concrete_notation.specs.declared.concrete.Concrete.{Concrete, Add, Forall', Both', Where', Row_of-Concrete, end_of-Concrete}
use Rattle.concrete_notation.specs.declared.concrete.Concrete.{more_of-Concrete}
use Rattle.concrete_notation.specs.Nests.{SharesLoops, SharesLoops_in, next_loops, next_loops_in, workspaces, workspaces_in}
use Rattle.concrete_notation.proofs.Trees.{next_both, next_forall, shared_both, shared_forall}
use Rattle.lowering.specs.Lowered.{plain, plain_in}

first_none : (xs ys : List (List ℕ)) → xs ++ ys ≡ [] → xs ≡ []
first_none [] ys h = refl
first_none (x ∷ xs) ys h = absurd (cc h)

second_none : (xs ys : List (List ℕ)) → xs ++ ys ≡ [] → ys ≡ []
second_none [] ys h = h
second_none (x ∷ xs) ys h = absurd (cc h)

mutual
  next_plain : (c : Concrete) → workspaces c ≡ [] → next_loops (plain c) ≡ next_loops c
  next_plain (Add t) h = refl
  next_plain (Forall' v p body) h = next_forall v (plain_in body)
  next_plain (Both' p f q g) h =
      next_both (plain_in f) (plain_in g)
      ∙ ap (λ vs. vs ++ next_loops (plain_in g)) (next_plain_in f (first_none (workspaces_in f) (workspaces_in g) h))
      ∙ ap (λ vs. next_loops_in f ++ vs) (next_plain_in g (second_none (workspaces_in f) (workspaces_in g) h))
  next_plain (Where' keys p body) h = absurd (cc h)

  next_plain_in : {m : _} (row : Row_of-Concrete m) → workspaces_in row ≡ [] → next_loops (plain_in row) ≡ next_loops_in row
  next_plain_in end_of-Concrete h = refl
  next_plain_in (more_of-Concrete c rest) h = next_plain c h

mutual
  pub shared_plain : (c : Concrete) → workspaces c ≡ [] → SharesLoops c → SharesLoops (plain c)
  shared_plain (Add t) h s = tt
  shared_plain (Forall' v p body) h s = shared_forall v (plain_in body) (shared_plain_in body h s)
  shared_plain (Both' p f q g) h s =
      let first = first_none (workspaces_in f) (workspaces_in g) h in
      let second = second_none (workspaces_in f) (workspaces_in g) h in
      shared_both (plain_in f) (plain_in g)
      (subst IsDistinct
      (sym (ap (λ vs. vs ++ next_loops (plain_in g)) (next_plain_in f first) ∙ ap (λ vs. next_loops_in f ++ vs) (next_plain_in g second)))
      s.0)
      (shared_plain_in f first s.1) (shared_plain_in g second s.2)
  shared_plain (Where' keys p body) h s = absurd (cc h)

  shared_plain_in : {m : _} (row : Row_of-Concrete m) → workspaces_in row ≡ [] → SharesLoops_in row → SharesLoops (plain_in row)
  shared_plain_in end_of-Concrete h s = tt
  shared_plain_in (more_of-Concrete c rest) h s = shared_plain c h s
