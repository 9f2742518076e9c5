-- What remains of loops, and is full there, is the same with the sums in the places of their accesses.
use Rattle.std.specs.Prelude.{◌≡◌, ℕ, nat_eq, Bool, true, false, ◌||◌, ◌&&◌, if◌then◌else◌, List, refl}
use Rattle.std.proofs.Common.{◌∙◌, sym, ap, subst}
use denote.Hole.Carrier.{hidden}
use Rattle.index_notation.specs.Operators.{is_there}
use Rattle.index_notation.specs.declared.operator.Operator.{Operator}
use Rattle.index_notation.specs.declared.syntax.Expr.{Expr, map-Expr, Num, Access as AccessOf, Binary, Neg}
use Rattle.index_notation.specs.declared.syntax.Expr.TheVariants.{rolls-Num, rolls-Access, rolls-Binary, rolls-Neg}
use Rattle.index_notation.specs.declared.syntax.Expr.TheBlock.{hidden-the_row-Expr-0}
use Rattle.index_notation.specs.declared.syntax.Expr.TheFolds.{ind-Expr}
use Rattle.index_notation.specs.declared.syntax.Expr.TheViews.{roll-Expr}
use Rattle.index_notation.specs.declared.syntax.Expr.TheOpen as open_expr
use Rattle.expr_terms.specs.declared.term.Term.{Term}
use Rattle.loop_code.specs.declared.loops.Seek.{Seek}
use Rattle.loop_code.specs.declared.loops.LoopCode.{LoopCode, map-LoopCode, Loop, Both, Add, Sum}
use Rattle.loop_code.specs.declared.loops.LoopCode.TheVariants.{rolls-Loop, rolls-Both, rolls-Add, rolls-Sum}
use Rattle.loop_code.specs.declared.loops.LoopCode.TheBlock.{hidden-the_row-LoopCode-0}
use Rattle.loop_code.specs.declared.loops.LoopCode.TheFolds.{ind-LoopCode}
use Rattle.loop_code.specs.declared.loops.LoopCode.TheViews.{roll-LoopCode}
use Rattle.loop_code.specs.declared.loops.LoopCode.TheOpen as view
use Rattle.loop_code.specs.Opened.{opened, opened_by, put_at, put_in, whole}
use Rattle.loop_code.specs.Parts.{given, is_full_below, remains, remains_below}
use Rattle.loop_code.proofs.Parts.{full_part}

module _ (P : ℕ → Bool) where
  module _ (others : ℕ → Expr) where
    abbrev StillRemains : Expr → Type 0
    StillRemains e = remains P (put_in others e) ≡ remains (λ k. remains P (others k)) e

    binary_remains : (o : Operator) (e f : Expr) → StillRemains e → StillRemains f → StillRemains (Binary o e f)
    unfolding hidden-the_row-Expr-0 hidden
    binary_remains o e f h g = λ i. is_there o (h i) (g i)

    neg_remains : (e : Expr) → StillRemains e → StillRemains (Neg e)
    unfolding hidden-the_row-Expr-0 hidden
    neg_remains e h = h

    num_remains : (n : ℕ) → StillRemains (Num n)
    num_remains n = refl

    access_remains : (k : ℕ) → StillRemains (AccessOf k)
    access_remains k = refl

    layer_remains : (y : open_expr.Expr-F ((e : Expr) × StillRemains e))
        → StillRemains (roll-Expr (map-Expr ((e : Expr) × StillRemains e) Expr (λ e. e.0) y))
    layer_remains (open_expr.Num n) = subst StillRemains (sym (rolls-Num n)) (num_remains n)
    layer_remains (open_expr.Access k) = subst StillRemains (sym (rolls-Access k)) (access_remains k)
    layer_remains (open_expr.Binary o e f) = subst StillRemains (sym (rolls-Binary o e.0 f.0)) (binary_remains o e.0 f.0 e.1 f.1)
    layer_remains (open_expr.Neg e) = subst StillRemains (sym (rolls-Neg e.0)) (neg_remains e.0 e.1)

    pub put_remains : (e : Expr) → StillRemains e
    put_remains = ind-Expr StillRemains (λ x y is. subst (λ z. StillRemains (roll-Expr z)) is (layer_remains y))

  -- the whole remains where a part does
  pub record Remains (c : LoopCode) : Type 0 where
    pub as_whole : (others : ℕ → Expr) → remains P (whole others c) ≡ remains_below (λ k. remains P (others k)) c
    pub in_place : (others : ℕ → Expr) → remains_below P (opened_by others c) ≡ remains_below (λ k. remains P (others k)) c

  pub at_sum : (others : ℕ → Expr) (k : ℕ) (e : Expr) (b : Bool) → remains P e ≡ b
      → (λ j. remains P (put_at others k e j)) ≡ given (λ j. remains P (others j)) k b
  at_sum others k e b is = λ i. λ j. by j (nat_eq k j) i
    where
      by : (j : ℕ) (t : Bool) → remains P (if t then e else others j) ≡ (if t then b else remains P (others j))
      by j true = is
      by j false = refl

  loop_remains : (v : ℕ) (seeks : List Seek) (body : LoopCode) → Remains body → Remains (Loop v seeks body)
  unfolding hidden-the_row-LoopCode-0 hidden
  loop_remains v seeks body h = record { as_whole = h.as_whole; in_place = h.in_place }

  both_remains : (f g : LoopCode) → Remains f → Remains g → Remains (Both f g)
  unfolding hidden-the_row-LoopCode-0 hidden-the_row-Expr-0 hidden
  both_remains f g h k = record {
    as_whole = λ others. λ i. h.as_whole others i || k.as_whole others i;
    in_place = λ others. λ i. h.in_place others i || k.in_place others i;
  }

  add_remains : (t : Term) → Remains (Add t)
  add_remains t = record { as_whole = λ others. put_remains others t.expr; in_place = λ others. put_remains others t.expr }

  sum_remains : (k : ℕ) (inside body : LoopCode) → Remains inside → Remains body → Remains (Sum k inside body)
  unfolding hidden-the_row-LoopCode-0 hidden
  sum_remains k inside body f g = record {
    as_whole = λ others.
        g.as_whole (put_at others k (whole others inside))
        ∙ ap (λ (Q : ℕ → Bool). remains_below Q body)
        (at_sum others k (whole others inside) (remains_below (λ j. remains P (others j)) inside) (f.as_whole others));
    in_place = λ others.
        g.in_place (put_at others k (whole others inside))
        ∙ ap (λ (Q : ℕ → Bool). remains_below Q body)
        (at_sum others k (whole others inside) (remains_below (λ j. remains P (others j)) inside) (f.as_whole others));
  }

  layer_all : (y : view.LoopCode-F ((c : LoopCode) × Remains c))
      → Remains (roll-LoopCode (map-LoopCode ((c : LoopCode) × Remains c) LoopCode (λ c. c.0) y))
  layer_all (view.Loop v seeks body) = subst Remains (sym (rolls-Loop v seeks body.0)) (loop_remains v seeks body.0 body.1)
  layer_all (view.Both f g) = subst Remains (sym (rolls-Both f.0 g.0)) (both_remains f.0 g.0 f.1 g.1)
  layer_all (view.Add t) = subst Remains (sym (rolls-Add t)) (add_remains t)
  layer_all (view.Sum k f g) = subst Remains (sym (rolls-Sum k f.0 g.0)) (sum_remains k f.0 g.0 f.1 g.1)

  pub all_remain : (c : LoopCode) → Remains c
  all_remain = ind-LoopCode Remains (λ x y is. subst (λ z. Remains (roll-LoopCode z)) is (layer_all y))

  -- a part of loops remains where one of the opened loops does
  pub opened_remains : (c : LoopCode) → remains_below P (opened c) ≡ remains_below P c
  opened_remains c = (all_remain c).in_place (λ k. AccessOf k)

-- and is full where that is
pub opened_full : (F P : ℕ → Bool) (c : LoopCode) → is_full_below F P (opened c) ≡ is_full_below F P c
opened_full F P c =
    sym (full_part F P (λ k. F k && P k) (λ k. refl) (opened c)) ∙ opened_remains (λ k. F k && P k) c
    ∙ full_part F P (λ k. F k && P k) (λ k. refl) c
