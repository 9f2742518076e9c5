-- The accesses that stand in the part of loops that remains are those of the opened loops, but for the numbers of the sums.
use Rattle.std.specs.Prelude.{◌≡◌, ℕ, nat_eq, Bool, true, false, ◌||◌, ◌&&◌, if◌then◌else◌, List, refl}
use Rattle.std.proofs.Common.{◌∙◌, sym, ap, subst, arith}
use Rattle.std.proofs.lemmas.Bool.Decides.{nat_tests}
use denote.Hole.Carrier.{hidden}
use Rattle.index_notation.specs.Operators.{is_there}
use Rattle.index_notation.specs.declared.operator.Operator.{Operator}
use Rattle.index_notation.specs.declared.syntax.Expr.{Expr, map-Expr, Num, Access as AccessOf, Binary, Neg, Binary', Neg'}
use Rattle.index_notation.specs.declared.syntax.Expr.{Row_of-Expr, end_of-Expr, more_of-Expr}
use Rattle.index_notation.specs.declared.syntax.Expr.TheVariants.{rolls-Num, rolls-Access, rolls-Binary, rolls-Neg}
use Rattle.index_notation.specs.declared.syntax.Expr.TheBlock.{hidden-the_row-Expr-0}
use Rattle.index_notation.specs.declared.syntax.Expr.TheFolds.{ind-Expr}
use Rattle.index_notation.specs.declared.syntax.Expr.TheViews.{roll-Expr}
use Rattle.index_notation.specs.declared.syntax.Expr.TheOpen as open_expr
use Rattle.expr_terms.specs.declared.term.Term.{Term}
use Rattle.loop_code.specs.declared.loops.Seek.{Seek}
use Rattle.loop_code.specs.declared.loops.LoopCode.{LoopCode, map-LoopCode, Loop, Both, Add, Sum}
use Rattle.loop_code.specs.declared.loops.LoopCode.TheVariants.{rolls-Loop, rolls-Both, rolls-Add, rolls-Sum}
use Rattle.loop_code.specs.declared.loops.LoopCode.TheBlock.{hidden-the_row-LoopCode-0}
use Rattle.loop_code.specs.declared.loops.LoopCode.TheFolds.{ind-LoopCode}
use Rattle.loop_code.specs.declared.loops.LoopCode.TheViews.{roll-LoopCode}
use Rattle.loop_code.specs.declared.loops.LoopCode.TheOpen as view
use Rattle.loop_code.specs.Loops.{Both', Loop', Sum', Row_of-LoopCode, end_of-LoopCode, more_of-LoopCode}
use Rattle.loop_code.specs.Opened.{AreOnce, AreOnce_in, HasNoSum, HasNoSum_in, opened, opened_by, put_at, put_in, whole}
use Rattle.loop_code.specs.Parts.{given, is_live, is_live_in, is_live_below, is_live_below_in, remains, remains_in, remains_below}
use Rattle.loop_code.specs.Parts.{remains_below_in}
use Rattle.loop_code.proofs.Opened.{all_remain, at_sum, put_remains}
use Rattle.loop_code.proofs.PresentParts.{or_left, or_right}

abbrev mutual
  -- whether some access that stands in the part that remains is one of these
  some_live : (ℕ → Bool) → (ℕ → Bool) → Expr → Bool
  some_live P L (Num n) = false
  some_live P L (AccessOf k) = L k && P k
  some_live P L (Binary' o p e q f) = is_there o (remains_in P e) (remains_in P f) && (some_live_in P L e || some_live_in P L f)
  some_live P L (Neg' p e) = some_live_in P L e

  -- the same of the one expression in a box
  some_live_in : {m : _} → (ℕ → Bool) → (ℕ → Bool) → Row_of-Expr m → Bool
  some_live_in P L end_of-Expr = false
  some_live_in P L (more_of-Expr e rest) = some_live P L e

abbrev mutual
  -- the same of loops: of a sum, whether one is that stands in what is summed
  some_below : (ℕ → Bool) → (ℕ → Bool) → LoopCode → Bool
  some_below P L (Loop' v seeks p body) = some_below_in P L body
  some_below P L (Both' p f q g) = some_below_in P L f || some_below_in P L g
  some_below P L (Add t) = some_live P L t.expr
  some_below P L (Sum' k p inside q body) =
      some_below_in (given P k (remains_below_in P inside)) (given L k (some_below_in P L inside)) body

  -- the same of the one loop code in a box
  some_below_in : {m : _} → (ℕ → Bool) → (ℕ → Bool) → Row_of-LoopCode m → Bool
  some_below_in P L end_of-LoopCode = false
  some_below_in P L (more_of-LoopCode c rest) = some_below P L c

and_so : (b c : Bool) → (b && c) ≡ true → (b ≡ true) × (c ≡ true)
and_so true c h = (refl, h)
and_so false c h = absurd (cc h)

mutual
  -- a part in which an access stands remains
  live_remains : (P : ℕ → Bool) (e : Expr) (k : ℕ) → is_live P e k ≡ true → remains P e ≡ true
  live_remains P (Num n) k h = refl
  live_remains P (AccessOf j) k h = (and_so (nat_eq j k) (P j) h).1
  live_remains P (Binary' o p e q f) k h =
      (and_so (is_there o (remains_in P e) (remains_in P f)) (is_live_in P e k || is_live_in P f k) h).0
  live_remains P (Neg' p e) k h = live_remains_in P e k h

  live_remains_in : {m : _} (P : ℕ → Bool) (row : Row_of-Expr m) (k : ℕ) → is_live_in P row k ≡ true → remains_in P row ≡ true
  live_remains_in P end_of-Expr k h = absurd (cc h)
  live_remains_in P (more_of-Expr e rest) k h = live_remains P e k h

-- what is so only where something else is
only_where : (b c : Bool) → (b ≡ true → c ≡ true) → b ≡ (b && c)
only_where true c f = sym (f refl)
only_where false c f = refl

where_only : (b c : Bool) → (b ≡ true → c ≡ true) → (c && b) ≡ b
where_only true c f = ap (λ x. x && true) (f refl)
where_only false true f = refl
where_only false false f = refl

either_so : (a b c d : Bool) → (a ≡ true → c ≡ true) → (b ≡ true → d ≡ true) → (a || b) ≡ true → (c || d) ≡ true
either_so true b c d f g h = or_left c d (f refl)
either_so false b c d f g h = or_right c d (g h)

module _ (P : ℕ → Bool) (j : ℕ) where
  module _ (others : ℕ → Expr) where
    abbrev StillLive : Expr → Type 0
    StillLive e = is_live P (put_in others e) j ≡ some_live (λ k. remains P (others k)) (λ k. is_live P (others k) j) e

    binary_live : (o : Operator) (e f : Expr) → StillLive e → StillLive f → StillLive (Binary o e f)
    unfolding hidden-the_row-Expr-0 hidden
    binary_live o e f h g = λ i. is_there o (put_remains P others e i) (put_remains P others f i) && (h i || g i)

    neg_live : (e : Expr) → StillLive e → StillLive (Neg e)
    unfolding hidden-the_row-Expr-0 hidden
    neg_live e h = h

    num_live : (n : ℕ) → StillLive (Num n)
    num_live n = refl

    access_live : (k : ℕ) → StillLive (AccessOf k)
    access_live k = only_where (is_live P (others k) j) (remains P (others k)) (live_remains P (others k) j)

    layer_live : (y : open_expr.Expr-F ((e : Expr) × StillLive e))
        → StillLive (roll-Expr (map-Expr ((e : Expr) × StillLive e) Expr (λ e. e.0) y))
    layer_live (open_expr.Num n) = subst StillLive (sym (rolls-Num n)) (num_live n)
    layer_live (open_expr.Access k) = subst StillLive (sym (rolls-Access k)) (access_live k)
    layer_live (open_expr.Binary o e f) = subst StillLive (sym (rolls-Binary o e.0 f.0)) (binary_live o e.0 f.0 e.1 f.1)
    layer_live (open_expr.Neg e) = subst StillLive (sym (rolls-Neg e.0)) (neg_live e.0 e.1)

    put_live : (e : Expr) → StillLive e
    put_live = ind-Expr StillLive (λ x y is. subst (λ z. StillLive (roll-Expr z)) is (layer_live y))

  record Lives (c : LoopCode) : Type 0 where
    as_whole : (others : ℕ → Expr)
        → is_live P (whole others c) j ≡ some_below (λ k. remains P (others k)) (λ k. is_live P (others k) j) c
    in_place : (others : ℕ → Expr)
        → is_live_below P (opened_by others c) j ≡ some_below (λ k. remains P (others k)) (λ k. is_live P (others k) j) c

  live_sum : (others : ℕ → Expr) (k : ℕ) (e : Expr) (b : Bool) → is_live P e j ≡ b
      → (λ i. is_live P (put_at others k e i) j) ≡ given (λ i. is_live P (others i) j) k b
  live_sum others k e b is = λ t. λ i. by i (nat_eq k i) t
    where
      by : (i : ℕ) (c : Bool) → is_live P (if c then e else others i) j ≡ (if c then b else is_live P (others i) j)
      by i true = is
      by i false = refl

  loop_lives : (v : ℕ) (seeks : List Seek) (body : LoopCode) → Lives body → Lives (Loop v seeks body)
  unfolding hidden-the_row-LoopCode-0 hidden
  loop_lives v seeks body h = record { as_whole = h.as_whole; in_place = h.in_place }

  both_lives : (f g : LoopCode) → Lives f → Lives g → Lives (Both f g)
  unfolding hidden-the_row-LoopCode-0 hidden-the_row-Expr-0 hidden
  both_lives f g h k = record {
    as_whole = λ others.
        where_only (is_live P (whole others f) j || is_live P (whole others g) j)
        (remains P (whole others f) || remains P (whole others g))
        (either_so (is_live P (whole others f) j) (is_live P (whole others g) j) (remains P (whole others f)) (remains P (whole others g))
        (live_remains P (whole others f) j) (live_remains P (whole others g) j))
        ∙ (λ i. h.as_whole others i || k.as_whole others i);
    in_place = λ others. λ i. h.in_place others i || k.in_place others i;
  }

  add_lives : (t : Term) → Lives (Add t)
  add_lives t = record { as_whole = λ others. put_live others t.expr; in_place = λ others. put_live others t.expr }

  sum_lives : (k : ℕ) (inside body : LoopCode) → Lives inside → Lives body → Lives (Sum k inside body)
  unfolding hidden-the_row-LoopCode-0 hidden
  sum_lives k inside body f g = record {
    as_whole = λ others. g.as_whole (put_at others k (whole others inside)) ∙ both others;
    in_place = λ others. g.in_place (put_at others k (whole others inside)) ∙ both others;
  }
    where
      both : (others : ℕ → Expr)
          → some_below (λ i. remains P (put_at others k (whole others inside) i))
          (λ i. is_live P (put_at others k (whole others inside) i) j) body
          ≡ some_below (given (λ i. remains P (others i)) k (remains_below (λ i. remains P (others i)) inside))
          (given (λ i. is_live P (others i) j) k (some_below (λ i. remains P (others i)) (λ i. is_live P (others i) j) inside)) body
      both others = λ t.
          some_below
          (at_sum P others k (whole others inside) (remains_below (λ i. remains P (others i)) inside)
          ((all_remain P inside).as_whole others) t)
          (live_sum others k (whole others inside) (some_below (λ i. remains P (others i)) (λ i. is_live P (others i) j) inside)
          (f.as_whole others) t) body

  layer_lives : (y : view.LoopCode-F ((c : LoopCode) × Lives c))
      → Lives (roll-LoopCode (map-LoopCode ((c : LoopCode) × Lives c) LoopCode (λ c. c.0) y))
  layer_lives (view.Loop v seeks body) = subst Lives (sym (rolls-Loop v seeks body.0)) (loop_lives v seeks body.0 body.1)
  layer_lives (view.Both f g) = subst Lives (sym (rolls-Both f.0 g.0)) (both_lives f.0 g.0 f.1 g.1)
  layer_lives (view.Add t) = subst Lives (sym (rolls-Add t)) (add_lives t)
  layer_lives (view.Sum k f g) = subst Lives (sym (rolls-Sum k f.0 g.0)) (sum_lives k f.0 g.0 f.1 g.1)

  all_live : (c : LoopCode) → Lives c
  all_live = ind-LoopCode Lives (λ x y is. subst (λ z. Lives (roll-LoopCode z)) is (layer_lives y))

-- of two tests, the second of which counts where a flag is set
abbrev and_if : (ℕ → Bool) → (ℕ → Bool) → Bool → ℕ → Bool
and_if L M b k = L k || (M k && b)

leaf_split : (l m p b : Bool) → ((l || (m && b)) && p) ≡ ((l && p) || ((m && p) && b))
leaf_split true m true b = refl
leaf_split true true false b = refl
leaf_split true false false b = refl
leaf_split false true true true = refl
leaf_split false true true false = refl
leaf_split false true false true = refl
leaf_split false true false false = refl
leaf_split false false p b = refl

sides_split : (l m n o b : Bool) → ((l || (m && b)) || (n || (o && b))) ≡ ((l || n) || ((m || o) && b))
sides_split true m n o b = refl
sides_split false true n o true = sym (or_true n)
  where
    or_true : (c : Bool) → (c || true) ≡ true
    or_true true = refl
    or_true false = refl
sides_split false true true o false = refl
sides_split false true false true false = refl
sides_split false true false false false = refl
sides_split false false n o b = refl

part_split : (t l m b : Bool) → (t && (l || (m && b))) ≡ ((t && l) || ((t && m) && b))
part_split true l m b = refl
part_split false l m b = refl

module _ (b : Bool) where
  mutual
    live_split : (P L M : ℕ → Bool) (e : Expr) → some_live P (and_if L M b) e ≡ (some_live P L e || (some_live P M e && b))
    live_split P L M (Num n) = refl
    live_split P L M (AccessOf k) = leaf_split (L k) (M k) (P k) b
    live_split P L M (Binary' o p e q f) =
        (λ i. is_there o (remains_in P e) (remains_in P f) && (live_split_in P L M e i || live_split_in P L M f i))
        ∙ ap (λ x. is_there o (remains_in P e) (remains_in P f) && x)
        (sides_split (some_live_in P L e) (some_live_in P M e) (some_live_in P L f) (some_live_in P M f) b)
        ∙ part_split (is_there o (remains_in P e) (remains_in P f)) (some_live_in P L e || some_live_in P L f)
        (some_live_in P M e || some_live_in P M f) b
    live_split P L M (Neg' p e) = live_split_in P L M e

    live_split_in : {m : _} (P L M : ℕ → Bool) (row : Row_of-Expr m)
        → some_live_in P (and_if L M b) row ≡ (some_live_in P L row || (some_live_in P M row && b))
    live_split_in P L M end_of-Expr = refl
    live_split_in P L M (more_of-Expr e rest) = live_split P L M e

  given_split : (L M : ℕ → Bool) (k : ℕ) (x l m : Bool) → x ≡ (l || (m && b))
      → given (and_if L M b) k x ≡ and_if (given L k l) (given M k m) b
  given_split L M k x l m is = λ i. λ n. by n (nat_eq k n) i
    where
      by : (n : ℕ) (t : Bool) → (if t then x else and_if L M b n) ≡ ((if t then l else L n) || ((if t then m else M n) && b))
      by n true = is
      by n false = refl

  mutual
    below_split : (P L M : ℕ → Bool) (c : LoopCode) → some_below P (and_if L M b) c ≡ (some_below P L c || (some_below P M c && b))
    below_split P L M (Loop' v seeks p body) = below_split_in P L M body
    below_split P L M (Both' p f q g) =
        (λ i. below_split_in P L M f i || below_split_in P L M g i)
        ∙ sides_split (some_below_in P L f) (some_below_in P M f) (some_below_in P L g) (some_below_in P M g) b
    below_split P L M (Add t) = live_split P L M t.expr
    below_split P L M (Sum' k p inside q body) =
        ap (λ (N : ℕ → Bool). some_below_in (given P k (remains_below_in P inside)) N body)
        (given_split L M k (some_below_in P (and_if L M b) inside) (some_below_in P L inside) (some_below_in P M inside)
        (below_split_in P L M inside))
        ∙ below_split_in (given P k (remains_below_in P inside)) (given L k (some_below_in P L inside))
        (given M k (some_below_in P M inside)) body

    below_split_in : {m : _} (P L M : ℕ → Bool) (row : Row_of-LoopCode m)
        → some_below_in P (and_if L M b) row ≡ (some_below_in P L row || (some_below_in P M row && b))
    below_split_in P L M end_of-LoopCode = refl
    below_split_in P L M (more_of-LoopCode c rest) = below_split P L M c

mutual
  one_live : (P : ℕ → Bool) (j : ℕ) (e : Expr) → some_live P (λ k. nat_eq k j) e ≡ is_live P e j
  one_live P j (Num n) = refl
  one_live P j (AccessOf k) = refl
  one_live P j (Binary' o p e q f) =
      λ i. is_there o (remains_in P e) (remains_in P f) && (one_live_in P j e i || one_live_in P j f i)
  one_live P j (Neg' p e) = one_live_in P j e

  one_live_in : {m : _} (P : ℕ → Bool) (j : ℕ) (row : Row_of-Expr m) → some_live_in P (λ k. nat_eq k j) row ≡ is_live_in P row j
  one_live_in P j end_of-Expr = refl
  one_live_in P j (more_of-Expr e rest) = one_live P j e

-- one access that isn't a sum's, or those that stand in what is summed
given_one : (j k : ℕ) (b : Bool) → nat_eq k j ≡ false → given (λ i. nat_eq i j) k b ≡ and_if (λ i. nat_eq i j) (λ i. nat_eq i k) b
given_one j k b apart = λ t. λ i. by i (nat_eq k i) refl t
  where
    same_by : (x y : ℕ) → nat_eq x y ≡ true → x ≡ y
    same_by x y h = grind (arith, nat_tests, h)

    turned : (x y : ℕ) (c : Bool) → nat_eq x y ≡ c → nat_eq y x ≡ c
    turned x y true h = let is = same_by x y h in grind (arith, nat_tests, is)
    turned x y false h = grind (arith, nat_tests, h)

    or_false : (c : Bool) → c ≡ (c || false)
    or_false true = refl
    or_false false = refl

    by : (i : ℕ) (c : Bool) → nat_eq k i ≡ c → (if c then b else nat_eq i j) ≡ (nat_eq i j || (nat_eq i k && b))
    by i true is =
        sym (ap (λ x. x || (nat_eq i k && b)) (ap (λ x. nat_eq x j) (sym (same_by k i is)) ∙ apart)
        ∙ ap (λ x. x && b) (turned k i true is))
    by i false is = or_false (nat_eq i j) ∙ ap (λ x. nat_eq i j || (x && b)) (sym (turned k i false is))

mutual
  one_below : (P : ℕ → Bool) (j : ℕ) (c : LoopCode) → HasNoSum j c → AreOnce c
      → some_below P (λ k. nat_eq k j) c ≡ is_live_below P c j
  one_below P j (Loop' v seeks p body) none once = one_below_in P j body none once
  one_below P j (Both' p f q g) none once = λ i. one_below_in P j f none.0 once.0 i || one_below_in P j g none.1 once.1 i
  one_below P j (Add t) none once = one_live P j t.expr
  one_below P j (Sum' k p inside q body) none once =
      let Q = given P k (remains_below_in P inside) in
      ap (λ (N : ℕ → Bool). some_below_in Q N body) (given_one j k (some_below_in P (λ i. nat_eq i j) inside) none.0)
      ∙ below_split_in (some_below_in P (λ i. nat_eq i j) inside) Q (λ i. nat_eq i j) (λ i. nat_eq i k) body
      ∙ (λ t. one_below_in Q j body none.2 once.2 t
      || (one_below_in Q k body once.0 once.2 t && one_below_in P j inside none.1 once.1 t))

  one_below_in : {m : _} (P : ℕ → Bool) (j : ℕ) (row : Row_of-LoopCode m) → HasNoSum_in j row → AreOnce_in row
      → some_below_in P (λ k. nat_eq k j) row ≡ is_live_below_in P row j
  one_below_in P j end_of-LoopCode none once = refl
  one_below_in P j (more_of-LoopCode c rest) none once = one_below P j c none once

-- of accesses that don't remain nothing depends
abbrev AreAlike : (ℕ → Bool) → (ℕ → Bool) → (ℕ → Bool) → Type 0
AreAlike P L M = (k : ℕ) → (L k && P k) ≡ (M k && P k)

mutual
  live_alike : (P L M : ℕ → Bool) → AreAlike P L M → (e : Expr) → some_live P L e ≡ some_live P M e
  live_alike P L M h (Num n) = refl
  live_alike P L M h (AccessOf k) = h k
  live_alike P L M h (Binary' o p e q f) =
      λ i. is_there o (remains_in P e) (remains_in P f) && (live_alike_in P L M h e i || live_alike_in P L M h f i)
  live_alike P L M h (Neg' p e) = live_alike_in P L M h e

  live_alike_in : {m : _} (P L M : ℕ → Bool) → AreAlike P L M → (row : Row_of-Expr m) → some_live_in P L row ≡ some_live_in P M row
  live_alike_in P L M h end_of-Expr = refl
  live_alike_in P L M h (more_of-Expr e rest) = live_alike P L M h e

given_alike : (P L M : ℕ → Bool) (k : ℕ) (r x y : Bool) → x ≡ y → AreAlike P L M → AreAlike (given P k r) (given L k x) (given M k y)
given_alike P L M k r x y is h n = by (nat_eq k n)
  where
    by : (t : Bool) → ((if t then x else L n) && (if t then r else P n)) ≡ ((if t then y else M n) && (if t then r else P n))
    by true = ap (λ b. b && r) is
    by false = h n

mutual
  below_alike : (P L M : ℕ → Bool) → AreAlike P L M → (c : LoopCode) → some_below P L c ≡ some_below P M c
  below_alike P L M h (Loop' v seeks p body) = below_alike_in P L M h body
  below_alike P L M h (Both' p f q g) = λ i. below_alike_in P L M h f i || below_alike_in P L M h g i
  below_alike P L M h (Add t) = live_alike P L M h t.expr
  below_alike P L M h (Sum' k p inside q body) =
      below_alike_in (given P k (remains_below_in P inside)) (given L k (some_below_in P L inside)) (given M k (some_below_in P M inside))
      (given_alike P L M k (remains_below_in P inside) (some_below_in P L inside) (some_below_in P M inside)
      (below_alike_in P L M h inside) h) body

  below_alike_in : {m : _} (P L M : ℕ → Bool) → AreAlike P L M → (row : Row_of-LoopCode m) → some_below_in P L row ≡ some_below_in P M row
  below_alike_in P L M h end_of-LoopCode = refl
  below_alike_in P L M h (more_of-LoopCode c rest) = below_alike P L M h c

and_again : (b c : Bool) → ((b && c) && c) ≡ (b && c)
and_again true true = refl
and_again true false = refl
and_again false c = refl

-- an access that isn't a sum's stands in the part of loops that remains where it does in that of the opened loops
pub opened_live : (P : ℕ → Bool) (j : ℕ) (c : LoopCode) → HasNoSum j c → AreOnce c → is_live_below P (opened c) j ≡ is_live_below P c j
opened_live P j c none once =
    (all_live P j c).in_place (λ k. AccessOf k)
    ∙ below_alike P (λ k. nat_eq k j && P k) (λ k. nat_eq k j) (λ k. and_again (nat_eq k j) (P k)) c ∙ one_below P j c none once
