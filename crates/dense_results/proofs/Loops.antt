-- What is so of loops by the nests of their terms.
use Rattle.std.specs.Prelude.{◌≡◌, ℕ, zero, suc, ◌+◌, ◌<◌, Bool, true, false, ◌||◌, nat_eq, List, [], ◌∷◌, ◌++◌, length, map, All, refl}
use Rattle.std.specs.Prelude.{slice_index_or}
use Rattle.std.specs.List.Sorted.{IsPermutation}
use Rattle.std.proofs.Common.{◌∙◌, sym, ap, subst, arith}
use Rattle.std.proofs.lemmas.Bool.{eq-eqb}
use Rattle.std.proofs.lemmas.List.Sorted.{All-permutation}
use Rattle.lists.specs.Each.{Each}
use Rattle.lists.proofs.Each.{each_append}
use Rattle.format_spec.specs.declared.format.FormatLevel.{FormatLevel}
use Rattle.index_notation.specs.Statement.{AreSums, IsNumbered}
use Rattle.index_notation.specs.declared.syntax.NestedSum.{NestedSum}
use Rattle.index_notation.specs.declared.operator.Operator.{Operator}
use Rattle.index_notation.specs.declared.operator.Operator.TheVariants as op
use Rattle.index_notation.specs.declared.syntax.Expr.{Expr, Num, Access as AccessOf, Binary', Neg', Row_of-Expr, end_of-Expr, more_of-Expr}
use Rattle.index_notation.specs.declared.syntax.Statement.{Statement}
use Rattle.iteration_graph.specs.Edges.{statement_edges}
use Rattle.index_notation.specs.Operators.{is_minus}
use Rattle.expr_terms.specs.Minus.{HasMeaning, has_minus, has_minus_in}
use Rattle.expr_terms.specs.Terms.{terms, terms_in, terms_of_sides, contains, own_variables, plain_term}
use Rattle.expr_terms.proofs.Meanings.{neither}
use Rattle.expr_terms.specs.declared.term.Term.{Term}
use Rattle.concrete_notation.specs.declared.concrete.Concrete.{Concrete, Forall, Both}
use Rattle.concrete_notation.specs.Nests.{Nest, inside, nests, nest_of, loops_of, IsOrderOf}
use Rattle.concrete_notation.proofs.Around.{left_below, own_below, loops_contain}
use Rattle.concrete_notation.proofs.Orders.{is_order_of}
use Rattle.concrete_notation.proofs.Trees.{nests_forall, nests_both}
use Rattle.loop_code.specs.declared.loops.LoopCode.{LoopCode, Add, Both', Loop', Sum', Row_of-LoopCode, end_of-LoopCode}
use Rattle.loop_code.specs.declared.loops.LoopCode.{more_of-LoopCode}
use Rattle.loop_code.specs.Parts.{given}
use Rattle.lowering.specs.Lowered.{IsInOrder, concrete_of, concrete_in, plain}
use Rattle.lowering.specs.Shapes.{HasStarts, HasStarts_in}
use Rattle.lowering.specs.Sums.{HasSums, first_sum, inside_of, no_sum, sum_at, sum_tree}
use Rattle.lowering.proofs.RightLoops.{same_nests}
use Rattle.operand_arrays.specs.Terms.{EachTerm, EachTerm_in, EachVariable, EachVariable_in, IsMeant, TargetIsBound, TargetIsBound_in}
use Rattle.dense_results.specs.Loops.{GoThrough, LoweredLoopsGoThrough}

each_first : {X : Type 0} (P : X → Type 0) (xs ys : List X) → Each P (xs ++ ys) → Each P xs
each_first P [] ys h = tt
each_first P (x ∷ xs) ys h = (h.0, each_first P xs ys h.1)

each_second : {X : Type 0} (P : X → Type 0) (xs ys : List X) → Each P (xs ++ ys) → Each P ys
each_second P [] ys h = h
each_second P (x ∷ xs) ys h = each_second P xs ys h.1

each_of_map : {X Y : Type 0} (P : Y → Type 0) (f : X → Y) (xs : List X) → Each P (map f xs) → Each (λ x. P (f x)) xs
each_of_map P f [] h = tt
each_of_map P f (x ∷ xs) h = (h.0, each_of_map P f xs h.1)

each_to_map : {X Y : Type 0} (P : Y → Type 0) (f : X → Y) (xs : List X) → Each (λ x. P (f x)) xs → Each P (map f xs)
each_to_map P f [] h = tt
each_to_map P f (x ∷ xs) h = (h.0, each_to_map P f xs h.1)

each_as : {X : Type 0} (P Q : X → Type 0) (xs : List X) → ((x : X) → P x → Q x) → Each P xs → Each Q xs
each_as P Q [] f h = tt
each_as P Q (x ∷ xs) f h = (f x h.0, each_as P Q xs f h.1)

-- what is true of each is true of each in another order
to_all : {X : Type 0} (P : X → Type 0) (xs : List X) → Each P xs → All P xs
to_all P [] h k d l = absurd (omega (arith, l))
to_all P (x ∷ xs) h zero d l = h.0
to_all P (x ∷ xs) h (suc k) d l = to_all P xs h.1 k d (omega (arith, l))

from_all : {X : Type 0} (P : X → Type 0) (xs : List X) → All P xs → Each P xs
from_all P [] h = tt
from_all P (x ∷ xs) h = (h 0 x (omega arith), from_all P xs (λ k d l. h (suc k) d (omega (arith, l))))

each_moved : {X : Type 0} (P : X → Type 0) (xs ys : List X) → IsPermutation xs ys → Each P xs → Each P ys
each_moved P xs ys moved h = from_all P ys (All-permutation P xs ys moved (to_all P xs h))

-- the nests of a loop and of two trees side by side
in_loop : (P : Nest → Type 0) (v : ℕ) (body : Concrete) → Each P (nests (Forall v body)) → Each (λ n. P (inside v n)) (nests body)
in_loop P v body h = each_of_map P (inside v) (nests body) (subst (Each P) (nests_forall v body) h)

in_first : (P : Nest → Type 0) (f g : Concrete) → Each P (nests (Both f g)) → Each P (nests f)
in_first P f g h = each_first P (nests f) (nests g) (subst (Each P) (nests_both f g) h)

in_second : (P : Nest → Type 0) (f g : Concrete) → Each P (nests (Both f g)) → Each P (nests g)
in_second P f g h = each_second P (nests f) (nests g) (subst (Each P) (nests_both f g) h)

-- each tree has a nest
record HasNest (ns : List Nest) : Type 0 where
  first : Nest
  others : List Nest
  is : ns ≡ first ∷ others

mutual
  has_nest : (c : LoopCode) → HasNest (nests (concrete_of c))
  has_nest (Loop' v seeks p body) =
      let n = has_nest_in body in
      record {
        first = inside v n.first;
        others = map (inside v) n.others;
        is = nests_forall v (concrete_in body) ∙ ap (map (inside v)) n.is;
      }
  has_nest (Both' p f q g) =
      let n = has_nest_in f in
      record {
        first = n.first;
        others = n.others ++ nests (concrete_in g);
        is = nests_both (concrete_in f) (concrete_in g) ∙ ap (λ ns. ns ++ nests (concrete_in g)) n.is;
      }
  has_nest (Add t) = record { first = record { loops = []; term = t }; others = []; is = refl }
  has_nest (Sum' k p inside q body) = has_nest_in body

  has_nest_in : {m : _} (row : Row_of-LoopCode m) → HasNest (nests (concrete_in row))
  has_nest_in end_of-LoopCode = record { first = record { loops = []; term = plain_term (Num 0) }; others = []; is = refl }
  has_nest_in (more_of-LoopCode c rest) = has_nest c

-- the nest of what is summed, which is one loop
sum_nest : (P : Nest → Type 0) (s : Statement) (n : ℕ) (c : Concrete) → c ≡ sum_tree s n
    → P (record { loops = (sum_at s n).var ∷ []; term = plain_term (sum_at s n).inside }) → Each P (nests c)
sum_nest P s n c is h =
    subst (λ d. Each P (nests d)) (sym is) (subst (Each P) (sym (nests_forall (sum_at s n).var (inside_of s n))) (h, tt))

module _ (s : Statement) where
  module _ (P : Term → Type 0) (sums : (n : ℕ) → n < length s.sums → P (plain_term (sum_at s n).inside)) where
    mutual
      -- what is true of the term of each nest, and of what is summed
      terms_of : (bound : List ℕ) (started : ℕ → Bool) (c : LoopCode) → HasStarts s bound started c
          → Each (λ (n : Nest). P n.term) (nests (concrete_of c)) → EachTerm P c
      terms_of bound started (Loop' v seeks p body) starts h =
          terms_of_in (v ∷ bound) started body starts (in_loop (λ (n : Nest). P n.term) v (concrete_in body) h)
      terms_of bound started (Both' p f q g) starts h = (
        terms_of_in bound started f starts.0 (in_first (λ (n : Nest). P n.term) (concrete_in f) (concrete_in g) h),
        terms_of_in bound started g starts.1 (in_second (λ (n : Nest). P n.term) (concrete_in f) (concrete_in g) h),
      )
      terms_of bound started (Add t) starts h = h.0
      terms_of bound started (Sum' k p inside q body) starts h = (
        terms_of_in bound started inside starts.1
            (sum_nest (λ (n : Nest). P n.term) s starts.0.number (concrete_in inside) starts.0.inside
            (sums starts.0.number starts.0.below)),
        terms_of_in bound (given started k true) body starts.2 h,
      )

      terms_of_in : {m : _} (bound : List ℕ) (started : ℕ → Bool) (row : Row_of-LoopCode m) → HasStarts_in s bound started row
          → Each (λ (n : Nest). P n.term) (nests (concrete_in row)) → EachTerm_in P row
      terms_of_in bound started end_of-LoopCode starts h = tt
      terms_of_in bound started (more_of-LoopCode c rest) starts h = terms_of bound started c starts h

  module _ (P : ℕ → Type 0) (sums : (n : ℕ) → n < length s.sums → P (sum_at s n).var) where
    mutual
      -- what is true of each variable of the loops of each nest, and of those that sums are over
      variables_of : (bound : List ℕ) (started : ℕ → Bool) (c : LoopCode) → HasStarts s bound started c
          → Each (λ (n : Nest). Each P n.loops) (nests (concrete_of c)) → EachVariable P c
      variables_of bound started (Loop' v seeks p body) starts h =
          let n = has_nest_in body in
          let inner = in_loop (λ (n : Nest). Each P n.loops) v (concrete_in body) h in
          let one = subst (Each (λ (n : Nest). Each P (v ∷ n.loops))) n.is inner in (
            one.0.0,
            variables_of_in (v ∷ bound) started body starts (each_as (λ (n : Nest). Each P (v ∷ n.loops)) (λ (n : Nest). Each P n.loops)
                (nests (concrete_in body)) (λ n e. e.1) inner),
          )
      variables_of bound started (Both' p f q g) starts h = (
        variables_of_in bound started f starts.0 (in_first (λ (n : Nest). Each P n.loops) (concrete_in f) (concrete_in g) h),
        variables_of_in bound started g starts.1 (in_second (λ (n : Nest). Each P n.loops) (concrete_in f) (concrete_in g) h),
      )
      variables_of bound started (Add t) starts h = tt
      variables_of bound started (Sum' k p inside q body) starts h = (
        variables_of_in bound started inside starts.1
            (sum_nest (λ (n : Nest). Each P n.loops) s starts.0.number (concrete_in inside) starts.0.inside
            (sums starts.0.number starts.0.below, tt)),
        variables_of_in bound (given started k true) body starts.2 h,
      )

      variables_of_in : {m : _} (bound : List ℕ) (started : ℕ → Bool) (row : Row_of-LoopCode m) → HasStarts_in s bound started row
          → Each (λ (n : Nest). Each P n.loops) (nests (concrete_in row)) → EachVariable_in P row
      variables_of_in bound started end_of-LoopCode starts h = tt
      variables_of_in bound started (more_of-LoopCode c rest) starts h = variables_of bound started c starts h

-- the variables of a target are bound, or those of the loops of a nest
abbrev Reaches : List ℕ → List ℕ → Nest → Type 0
Reaches target bound n = All (λ v. (contains bound v || contains n.loops v) ≡ true) target

or_moved : (b c d : Bool) → (b || (c || d)) ≡ true → ((c || b) || d) ≡ true
or_moved true true d h = refl
or_moved true false d h = refl
or_moved false true d h = refl
or_moved false false d h = h

or_left : (b : Bool) → (b || false) ≡ true → b ≡ true
or_left true h = refl
or_left false h = h

mutual
  target_bound : (target bound : List ℕ) (c : LoopCode) → Each (Reaches target bound) (nests (concrete_of c))
      → TargetIsBound target bound c
  target_bound target bound (Loop' v seeks p body) h =
      target_bound_in target (v ∷ bound) body
      (each_as (λ n. Reaches target bound (inside v n)) (Reaches target (v ∷ bound)) (nests (concrete_in body))
      (λ n r k d l. or_moved (contains bound (slice_index_or target k d)) (nat_eq v (slice_index_or target k d))
      (contains n.loops (slice_index_or target k d)) (r k d l))
      (in_loop (Reaches target bound) v (concrete_in body) h))
  target_bound target bound (Both' p f q g) h = (
    target_bound_in target bound f (in_first (Reaches target bound) (concrete_in f) (concrete_in g) h),
    target_bound_in target bound g (in_second (Reaches target bound) (concrete_in f) (concrete_in g) h),
  )
  target_bound target bound (Add t) h = λ k d l. or_left (contains bound (slice_index_or target k d)) (h.0 k d l)
  target_bound target bound (Sum' k p inside q body) h = target_bound_in target bound body h

  target_bound_in : {m : _} (target bound : List ℕ) (row : Row_of-LoopCode m) → Each (Reaches target bound) (nests (concrete_in row))
      → TargetIsBound_in target bound row
  target_bound_in target bound end_of-LoopCode h = tt
  target_bound_in target bound (more_of-LoopCode c rest) h = target_bound target bound c h

-- the terms of an expression that has a meaning have one, with the sign that they are given: where there is no minus
record IsPlain (t : Term) : Type 0 where
  expr : has_minus t.expr ≡ false
  sign : t.negated ≡ false

plain_sides : (o : Operator) (whole : Expr) (ts us : List Term) → is_minus o ≡ false → IsPlain (plain_term whole) → Each IsPlain ts
    → Each IsPlain us → Each IsPlain (terms_of_sides o whole ts us)
plain_sides op.Add whole ts us n one first second = each_append IsPlain ts us first second
plain_sides op.Sub whole ts us n one first second = absurd (cc n)
plain_sides op.Mul whole ts us n one first second = (one, tt)

mutual
  plain_terms : (e : Expr) → has_minus e ≡ false → Each IsPlain (terms e)
  plain_terms (Num n) h = (record { expr = refl; sign = refl }, tt)
  plain_terms (AccessOf k) h = (record { expr = refl; sign = refl }, tt)
  plain_terms (Binary' o p e q f) h =
      let parts = neither (is_minus o) (has_minus_in e || has_minus_in f) h in
      let sides = neither (has_minus_in e) (has_minus_in f) parts.1 in
      plain_sides o (Binary' o p e q f) (terms_in e) (terms_in f) parts.0 (record { expr = h; sign = refl }) (plain_terms_in e sides.0)
      (plain_terms_in f sides.1)
  plain_terms (Neg' p e) h = cc

  plain_terms_in : {m : _} (row : Row_of-Expr m) → has_minus_in row ≡ false → Each IsPlain (terms_in row)
  plain_terms_in end_of-Expr h = tt
  plain_terms_in (more_of-Expr e rest) h = plain_terms e h

all_meant : (ts : List Term) → Each (IsMeant true) ts
all_meant [] = tt
all_meant (t ∷ ts) = (record { expr = tt; sign = λ e. refl }, all_meant ts)

terms_meant : (b : Bool) (e : Expr) → HasMeaning b e → Each (IsMeant b) (terms e)
terms_meant true e h = all_meant (terms e)
terms_meant false e h =
    each_as IsPlain (IsMeant false) (terms e) (λ t p. record { expr = p.expr; sign = λ n. sym p.sign ∙ n }) (plain_terms e h)

-- the variable of a sum is one of so many
sum_below : (vars first : ℕ) (sums : List NestedSum) → AreSums vars first sums → (n : ℕ) → n < length sums
    → (slice_index_or sums n no_sum).var < vars
sum_below vars first [] are n l = absurd (omega (arith, l))
sum_below vars first (sum ∷ sums) are zero l = are.0
sum_below vars first (sum ∷ sums) are (suc n) l = sum_below vars (first + 1) sums are.2 n (omega (arith, l))

-- what stands inside of each sum has a meaning, as a term
sum_meant : (b : Bool) (sums : List NestedSum) → Each (λ (sum : NestedSum). HasMeaning b sum.inside) sums → (n : ℕ) → n < length sums
    → IsMeant b (plain_term (slice_index_or sums n no_sum).inside)
sum_meant b [] h n l = absurd (omega (arith, l))
sum_meant b (sum ∷ sums) h zero l = record { expr = h.0; sign = λ e. absurd (cc e) }
sum_meant b (sum ∷ sums) h (suc n) l = sum_meant b sums h.1 n (omega (arith, l))

module _ (s : Statement) (numbered : IsNumbered s) (formats : List (List FormatLevel)) (sums : HasSums s formats) (c : Concrete)
    (in_order : IsInOrder s formats c) (loops : LoopCode) (shape : concrete_of loops ≡ plain c)
    (starts : HasStarts s [] (λ k. false) loops) where
  order : List ℕ
  order = in_order.order

  ordered : IsOrderOf (length s.vars) in_order.order
  ordered = is_order_of (length s.vars) (statement_edges s formats) in_order.order in_order.is_order

  -- what is true of the nest of each term
  nests_have : (P : Nest → Type 0) → Each (λ (t : Term). P (nest_of s in_order.order t)) (terms s.expr) → Each P (nests (concrete_of loops))
  nests_have P h =
      subst (Each P) (sym (ap nests shape ∙ same_nests c))
      (each_moved P (map (nest_of s in_order.order) (terms s.expr)) (nests c) in_order.terms
      (each_to_map P (nest_of s in_order.order) (terms s.expr) h))

  each_term : (P : Term → Type 0) → ((t : Term) → P t) → (ts : List Term) → Each P ts
  each_term P f [] = tt
  each_term P f (t ∷ ts) = (f t, each_term P f ts)

  each_contained : (P : ℕ → Type 0) (vs : List ℕ) → ((v : ℕ) → contains vs v ≡ true → P v) → Each P vs
  each_contained P [] f = tt
  each_contained P (v ∷ vs) f = (
    f v (first (nat_eq v v) (contains vs v) (eq-eqb v v refl)),
    each_contained P vs (λ w h. f w (later (nat_eq v w) (contains vs w) h)),
  )
    where
      first : (b d : Bool) → b ≡ true → (b || d) ≡ true
      first true d e = refl
      first false d e = cc

      later : (b d : Bool) → d ≡ true → (b || d) ≡ true
      later true d e = refl
      later false d e = e

  loop_below : (t : Term) (v : ℕ) → contains (loops_of s in_order.order (own_variables s t)) v ≡ true → v < length s.vars
  loop_below t v h = by (contains s.left.vars v) refl (sym (loops_contain s numbered in_order.order ordered t v) ∙ h)
    where
      by : (b : Bool) → contains s.left.vars v ≡ b → (b || contains (own_variables s t) v) ≡ true → v < length s.vars
      by true is g = left_below s numbered v is
      by false is g = own_below s numbered t v g

  reaches : (t : Term) → Reaches s.left.vars [] (nest_of s in_order.order t)
  reaches t k d l =
      let v : ℕ = slice_index_or s.left.vars k d in
      loops_contain s numbered in_order.order ordered t v
      ∙ first (contains s.left.vars v) (contains (own_variables s t) v) (stands s.left.vars k d l)
    where
      first : (b e : Bool) → b ≡ true → (b || e) ≡ true
      first true e g = refl
      first false e g = cc

      stands : (vs : List ℕ) (j e : ℕ) → j < length vs → contains vs (slice_index_or vs j e) ≡ true
      stands [] j e g = absurd (omega (arith, g))
      stands (w ∷ vs) zero e g = first (nat_eq w w) (contains vs w) (eq-eqb w w refl)
      stands (w ∷ vs) (suc j) e g = later (nat_eq w (slice_index_or vs j e)) (stands vs j e (omega (arith, g)))
        where
          later : (b : Bool) → contains vs (slice_index_or vs j e) ≡ true → (b || contains vs (slice_index_or vs j e)) ≡ true
          later true h = refl
          later false h = h

  go_through : (has_minus : Bool) → GoThrough s has_minus loops
  go_through has_minus = record {
    variables = variables_of s (λ v. v < length s.vars) (sum_below (length s.vars) (first_sum s) s.sums sums.numbers) [] (λ k. false) loops
        starts
        (nests_have (λ (n : Nest). Each (λ v. v < length s.vars) n.loops)
        (each_term (λ t. Each (λ v. v < length s.vars) (loops_of s in_order.order (own_variables s t)))
        (λ t. each_contained (λ v. v < length s.vars) (loops_of s in_order.order (own_variables s t)) (loop_below t)) (terms s.expr)));
    bound = target_bound s.left.vars [] loops
        (nests_have (Reaches s.left.vars []) (each_term (λ t. Reaches s.left.vars [] (nest_of s in_order.order t)) reaches (terms s.expr)));
    meant = λ h insides. terms_of s (IsMeant has_minus) (sum_meant has_minus s.sums insides) [] (λ k. false) loops starts
        (nests_have (λ (n : Nest). IsMeant has_minus n.term) (terms_meant has_minus s.expr h));
  }

pub lowered_loops_go_through : LoweredLoopsGoThrough
lowered_loops_go_through s numbered formats sums c in_order loops shape starts has_minus =
    go_through s numbered formats sums c in_order loops shape starts has_minus
