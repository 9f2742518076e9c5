use Rattle.std.specs.Prelude.{◌≡◌, ℕ, zero, suc, ◌<◌, Bool, true, false, IsTrue, List, [], ◌∷◌, length, map, refl}
use Rattle.std.specs.List.Sorted.{IsPermutation}
use Rattle.std.proofs.Common.{◌∙◌, sym, ap, subst, arith, get_or}
use Rattle.expr_terms.specs.Terms.{terms}
use Rattle.concrete_notation.specs.Nests.{nests, workspaces, nest_of, left_in_order, SharesLoops}
use Rattle.concrete_notation.specs.Right.{IsRight}
use Rattle.concrete_notation.specs.Workspaces.{AreAllDense}
use Rattle.concrete_notation.proofs.Around.{keys_distinct, keys_contain}
use Rattle.concrete_notation.proofs.Right.{plain_is_right}
use Rattle.concrete_notation.proofs.Through.{keyed_is_right}
use Rattle.concrete_notation.proofs.Trees.{nests_where, workspaces_where, shared_where}
use Rattle.concrete_notation.proofs.statement_loops.concretize.Goals as goal

pub returns-then-is_all_dense-clause-right : goal.returns-then-is_all_dense-clause-right
returns-then-is_all_dense-clause-right c =
    plain_is_right c.args.statement.now c.requires.numbered c.requires.named c.args.order.now c.requires.order c.in_ok-tree.tree
    c.in_ok-tree.ensures.plain c.in_ok-tree.ensures.terms

pub returns-clause-right : goal.returns-clause-right
returns-clause-right c =
    let s = c.args.statement.now in
    let order = c.args.order.now in
    subst (IsRight s) (sym c.in_ok-all.ensures)
    (keyed_is_right s c.requires.numbered c.requires.named order c.requires.order (left_in_order s order)
    (keys_distinct s c.requires.numbered order c.requires.order) (keys_contain s c.requires.numbered order c.requires.order)
    c.in_ok-tree.tree c.in_ok-tree.ensures.plain c.in_ok-tree.ensures.terms)

pub returns-clause-terms : goal.returns-clause-terms
returns-clause-terms c =
    let s = c.args.statement.now in
    let order = c.args.order.now in
    subst (IsPermutation (map (nest_of s order) (terms s.expr)))
    (sym (ap nests c.in_ok-all.ensures ∙ nests_where (left_in_order s order) c.in_ok-tree.tree)) c.in_ok-tree.ensures.terms

pub returns-clause-shared : goal.returns-clause-shared
returns-clause-shared c =
    subst SharesLoops (sym c.in_ok-all.ensures)
    (shared_where (left_in_order c.args.statement.now c.args.order.now) c.in_ok-tree.tree c.in_ok-tree.ensures.shared)

-- within a list the default doesn't matter
read_within : {X : Type 0} (xs : List X) (i : ℕ) (d e : X) → i < length xs → get_or xs i d ≡ get_or xs i e
read_within [] i d e h = absurd (omega arith)
read_within (x ∷ xs) zero d e h = refl
read_within (x ∷ xs) (suc i) d e h = read_within xs i d e (omega arith)

never : (b : Bool) → IsTrue b → b ≡ false → ⊥
never true t f = cc
never false t f = cc

pub returns-clause-workspaces : goal.returns-clause-workspaces
returns-clause-workspaces c =
    let keys = left_in_order c.args.statement.now c.args.order.now in
    let read = c.index-formats-statement.is in
    let here = c.index-formats-statement.result in
    let level = c.args.statement.now.left.tensor in
    record {
      none = λ dense. absurd (never c.is_all_dense.result (c.is_all_dense.ensures.told.1 (subst AreAllDense
          (read_within c.args.formats.now level [] here c.requires.format ∙ sym read) dense)) c.if-is_all_dense.false);
      one = λ other. ap workspaces c.in_ok-all.ensures ∙ workspaces_where keys c.in_ok-tree.tree
          ∙ ap (λ ks. keys ∷ ks) c.in_ok-tree.ensures.plain;
    }
