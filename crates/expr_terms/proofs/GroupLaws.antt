-- The value of a statement is the total of what its groups add.
use Rattle.std.specs.Prelude.{◌≡◌, ◌≢◌, ℕ, Bool, true, false, not, cond, ◌&&◌, ◌||◌, nat_eq, List, [], ◌∷◌, map, filter, refl}
use Rattle.std.specs.List.{list_any}
use Rattle.std.specs.Cmp.Lexicographic.{pointwise}
use Rattle.std.proofs.Common.{sym, ◌∙◌, ap, true≢false}
use Rattle.numbers.specs.Arithmetic.{Arithmetic, Laws}
use Rattle.numbers.specs.Sums.{total_of}
use Rattle.numbers.proofs.Sums.{sum_same, sum_zeros, sum_plus, plus_swap}
use Rattle.tensor_map.specs.Laws.{same, other}
use Rattle.tensor_map.proofs.Lemmas.{tested, at_itself}
use Rattle.index_notation.specs.declared.syntax.Statement.{Statement}
use Rattle.expr_terms.specs.Points.{point_of, with_coordinate, sum_over}
use Rattle.expr_terms.specs.Terms.{Term, terms, own_variables, term_value, term_sum, statement_value}
use Rattle.expr_terms.specs.Groups.{firsts, group_in, groups, group_sum}

-- what a test keeps
pub kept : {X : Type 0} (p : X → Bool) (x : X) (xs : List X) → p x ≡ true → filter p (x ∷ xs) ≡ x ∷ filter p xs
kept p x xs e = ap (λ b. cond b (x ∷ filter p xs) (filter p xs)) e

pub dropped : {X : Type 0} (p : X → Bool) (x : X) (xs : List X) → p x ≡ false → filter p (x ∷ xs) ≡ filter p xs
dropped p x xs e = ap (λ b. cond b (x ∷ filter p xs) (filter p xs)) e

all_kept : {X : Type 0} (xs : List X) → filter (λ x. true) xs ≡ xs
all_kept [] = refl
all_kept (x ∷ xs) = ap (λ zs. x ∷ zs) (all_kept xs)

filter_as : {X : Type 0} (p q : X → Bool) → ((x : X) → p x ≡ q x) → (xs : List X) → filter p xs ≡ filter q xs
filter_as p q h [] = refl
filter_as p q h (x ∷ xs) = ap (λ b. cond b (x ∷ filter p xs) (filter p xs)) (h x) ∙ ap (λ zs. cond (q x) (x ∷ zs) zs) (filter_as p q h xs)

and_true : (b : Bool) → (b && true) ≡ b
and_true true = refl
and_true false = refl

and_false : (b : Bool) → (b && false) ≡ false
and_false true = refl
and_false false = refl

and_self : (b : Bool) → (b && b) ≡ b
and_self true = refl
and_self false = refl

and_swap : (b c : Bool) → (b && c) ≡ (c && b)
and_swap true c = sym (and_true c)
and_swap false c = sym (and_false c)

-- one test after another is both at once
filtered_twice : {X : Type 0} (p q : X → Bool) (xs : List X) → filter q (filter p xs) ≡ filter (λ x. q x && p x) xs
filtered_twice p q [] = refl
filtered_twice p q (x ∷ xs) = elim (p x) as (λ b. p x ≡ b → filter q (filter p (x ∷ xs)) ≡ filter (λ y. q y && p y) (x ∷ xs)) [
  | true ↦ (λ e.
      ap (filter q) (kept p x xs e)
      ∙ ap (λ zs. cond (q x) (x ∷ zs) zs) (filtered_twice p q xs)
      ∙ ap (λ b. cond b (x ∷ filter (λ y. q y && p y) xs) (filter (λ y. q y && p y) xs))
      (sym (and_true (q x)) ∙ ap (λ b. q x && b) (sym e)))
  | false ↦ (λ e.
      ap (filter q) (dropped p x xs e)
      ∙ filtered_twice p q xs
      ∙ sym (dropped (λ y. q y && p y) x xs (ap (λ b. q x && b) e ∙ and_false (q x))))
] refl

-- a list of numbers is another one
abbrev pub apart_from : List ℕ → List ℕ → Bool
apart_from vs ws = not (pointwise nat_eq ws vs)

pub turned : (vs ws : List ℕ) → vs ≢ ws → pointwise nat_eq ws vs ≡ false
turned vs ws apart = elim (tested ws vs) [
  | same is e ↦ absurd (apart (sym is))
  | other is e ↦ e
]

module _ (a : Arithmetic) (laws : Laws a) where
  -- of lists that each stand once, one is taken out of a sum; where it doesn't stand there, its value is zero
  taken_out : (k : List ℕ) (g : List ℕ → ℕ) (q : List ℕ → Bool) → q k ≡ true → (ks : List (List ℕ))
      → (list_any (λ ws. pointwise nat_eq ws k) ks ≡ false → g k ≡ a.zero)
      → a.plus (g k) (total_of a (map g (filter q (filter (apart_from k) (firsts ks))))) ≡ total_of a (map g (filter q (firsts ks)))
  taken_out k g q passes [] none = ap (λ x. a.plus x a.zero) (none refl) ∙ laws.plus_zero a.zero laws.zero_fits
  taken_out k g q passes (v ∷ ks) none = elim (tested v k) [
    | same is e ↦ ap (λ u. a.plus (g k) (total_of a (map g (filter q (filter (apart_from k) (firsts (u ∷ ks))))))) is ∙ here
        ∙ ap (λ u. total_of a (map g (filter q (firsts (u ∷ ks))))) (sym is)
    | other is e ↦ (
        let more : List ℕ → Bool = λ ws. q ws && apart_from v ws in
        let first : more k ≡ true = ap (λ b. q k && not b) (turned v k is) ∙ and_true (q k) ∙ passes in
        let without : List (List ℕ) = filter more (filter (apart_from k) (firsts ks)) in
        let all : List (List ℕ) = filter more (firsts ks) in
        let swapped : filter (apart_from k) (filter (apart_from v) (firsts ks)) ≡ filter (apart_from v)
        (filter (apart_from k) (firsts ks)) =
        filtered_twice (apart_from v) (apart_from k) (firsts ks)
        ∙ filter_as (λ ws. apart_from k ws && apart_from v ws) (λ ws. apart_from v ws && apart_from k ws)
        (λ ws. and_swap (apart_from k ws) (apart_from v ws)) (firsts ks)
        ∙ sym (filtered_twice (apart_from k) (apart_from v) (firsts ks)) in
        let left : filter q (filter (apart_from k) (filter (apart_from v) (firsts ks))) ≡ without =
        ap (filter q) swapped ∙ filtered_twice (apart_from v) q (filter (apart_from k) (firsts ks)) in
        let right : filter q (filter (apart_from v) (firsts ks)) ≡ all = filtered_twice (apart_from v) q (firsts ks) in
        let others : a.plus (g k) (total_of a (map g without)) ≡ total_of a (map g all) =
        taken_out k g more first ks (λ absent. none (ap (λ b. b || list_any (λ ws. pointwise nat_eq ws k) ks) e ∙ absent)) in
        ap (λ zs. a.plus (g k) (total_of a (map g (filter q zs)))) (kept (apart_from k) v (filter (apart_from v) (firsts ks)) (ap not e))
        ∙ ap (λ zs. a.plus (g k) (total_of a (map g (cond (q v) (v ∷ zs) zs)))) left
        ∙ with_first (q v) v without all others
        ∙ ap (λ zs. total_of a (map g (cond (q v) (v ∷ zs) zs))) (sym right))
  ]
    where
      here : a.plus (g k) (total_of a (map g (filter q (filter (apart_from k) (firsts (k ∷ ks)))))) ≡ total_of a
          (map g (filter q (firsts (k ∷ ks))))
      here =
          let once : filter (apart_from k) (firsts (k ∷ ks)) ≡ filter (apart_from k) (firsts ks) =
          dropped (apart_from k) k (filter (apart_from k) (firsts ks)) (ap not (at_itself k))
          ∙ filtered_twice (apart_from k) (apart_from k) (firsts ks)
          ∙ filter_as (λ ws. apart_from k ws && apart_from k ws) (apart_from k) (λ ws. and_self (apart_from k ws)) (firsts ks) in
          ap (λ zs. a.plus (g k) (total_of a (map g (filter q zs)))) once
          ∙ sym (ap (λ zs. total_of a (map g zs)) (kept q k (filter (apart_from k) (firsts ks)) passes))

      with_first : (b : Bool) (u : List ℕ) (xs ys : List (List ℕ)) → a.plus (g k) (total_of a (map g xs)) ≡ total_of a (map g ys)
          → a.plus (g k) (total_of a (map g (cond b (u ∷ xs) xs))) ≡ total_of a (map g (cond b (u ∷ ys) ys))
      with_first true u xs ys h = plus_swap a laws (g k) (g u) (total_of a (map g xs)) ∙ ap (a.plus (g u)) h
      with_first false u xs ys h = h

  module _ (f : Term → ℕ) (key : Term → List ℕ) where
    -- what the terms of one key add
    abbrev share : List ℕ → List Term → ℕ
    share vs ts = total_of a (map f (filter (λ t. pointwise nat_eq (key t) vs) ts))

    share_here : (vs : List ℕ) (t : Term) (ts : List Term) → pointwise nat_eq (key t) vs ≡ true
        → share vs (t ∷ ts) ≡ a.plus (f t) (share vs ts)
    share_here vs t ts e = ap (λ zs. total_of a (map f zs)) (kept (λ t. pointwise nat_eq (key t) vs) t ts e)

    share_elsewhere : (vs : List ℕ) (t : Term) (ts : List Term) → pointwise nat_eq (key t) vs ≡ false → share vs (t ∷ ts) ≡ share vs ts
    share_elsewhere vs t ts e = ap (λ zs. total_of a (map f zs)) (dropped (λ t. pointwise nat_eq (key t) vs) t ts e)

    no_share : (k : List ℕ) (ts : List Term) → list_any (λ ws. pointwise nat_eq ws k) (map key ts) ≡ false → share k ts ≡ a.zero
    no_share k [] absent = refl
    no_share k (t ∷ ts) absent = elim (tested (key t) k) [
      | same is e ↦ absurd (true≢false (sym (ap (λ b. b || list_any (λ ws. pointwise nat_eq ws k) (map key ts)) e) ∙ absent))
      | other is e ↦ share_elsewhere k t ts e
          ∙ no_share k ts (sym (ap (λ b. b || list_any (λ ws. pointwise nat_eq ws k) (map key ts)) e) ∙ absent)
    ]

    -- a term adds nothing to the shares of other keys
    others_same : (t : Term) (ts : List Term) (ks : List (List ℕ))
        → total_of a (map (λ vs. share vs (t ∷ ts)) (filter (apart_from (key t)) ks)) ≡ total_of a
        (map (λ vs. share vs ts) (filter (apart_from (key t)) ks))
    others_same t ts [] = refl
    others_same t ts (vs ∷ ks) = elim (tested vs (key t)) [
      | same is e ↦ (
          let gone = dropped (apart_from (key t)) vs ks (ap not e) in
          ap (λ zs. total_of a (map (λ vs. share vs (t ∷ ts)) zs)) gone ∙ others_same t ts ks
          ∙ sym (ap (λ zs. total_of a (map (λ vs. share vs ts) zs)) gone))
      | other is e ↦ (
          let stays = kept (apart_from (key t)) vs ks (ap not e) in
          ap (λ zs. total_of a (map (λ vs. share vs (t ∷ ts)) zs)) stays
          ∙ ap (λ x. a.plus x (total_of a (map (λ vs. share vs (t ∷ ts)) (filter (apart_from (key t)) ks))))
          (share_elsewhere vs t ts (turned vs (key t) is))
          ∙ ap (a.plus (share vs ts)) (others_same t ts ks)
          ∙ sym (ap (λ zs. total_of a (map (λ vs. share vs ts) zs)) stays))
    ]

    shares_add_up : (ts : List Term) → total_of a (map (λ vs. share vs ts) (firsts (map key ts))) ≡ total_of a (map f ts)
    shares_add_up [] = refl
    shares_add_up (t ∷ ts) =
        let k : List ℕ = key t in
        let ks : List (List ℕ) = firsts (map key ts) in
        let out : a.plus (share k ts) (total_of a (map (λ vs. share vs ts) (filter (apart_from k) ks))) ≡ total_of a
        (map (λ vs. share vs ts) ks) =
        ap (λ zs. a.plus (share k ts) (total_of a (map (λ vs. share vs ts) zs))) (sym (all_kept (filter (apart_from k) ks)))
        ∙ taken_out k (λ vs. share vs ts) (λ ws. true) refl (map key ts) (no_share k ts)
        ∙ ap (λ zs. total_of a (map (λ vs. share vs ts) zs)) (all_kept ks) in
        ap (λ x. a.plus x (total_of a (map (λ vs. share vs (t ∷ ts)) (filter (apart_from k) ks)))) (share_here k t ts (at_itself k))
        ∙ ap (a.plus (a.plus (f t) (share k ts))) (others_same t ts ks)
        ∙ laws.plus_assoc (f t) (share k ts) (total_of a (map (λ vs. share vs ts) (filter (apart_from k) ks)))
        ∙ ap (a.plus (f t)) (out ∙ shares_add_up ts)

  module _ (ranges : ℕ → ℕ) where
    sum_over_zeros : (vs : List ℕ) (p : ℕ → ℕ) → sum_over a ranges vs (λ q. a.zero) p ≡ a.zero
    sum_over_zeros [] p = refl
    sum_over_zeros (v ∷ vs) p =
        sum_same a (ranges v) (λ x. sum_over a ranges vs (λ q. a.zero) (with_coordinate p v x)) (λ x. a.zero)
        (λ x h. sum_over_zeros vs (with_coordinate p v x)) ∙ sum_zeros a laws (ranges v)

    sum_over_plus : (vs : List ℕ) (f g : (ℕ → ℕ) → ℕ) (p : ℕ → ℕ)
        → sum_over a ranges vs (λ q. a.plus (f q) (g q)) p ≡ a.plus (sum_over a ranges vs f p) (sum_over a ranges vs g p)
    sum_over_plus [] f g p = refl
    sum_over_plus (v ∷ vs) f g p =
        sum_same a (ranges v) (λ x. sum_over a ranges vs (λ q. a.plus (f q) (g q)) (with_coordinate p v x))
        (λ x. a.plus (sum_over a ranges vs f (with_coordinate p v x)) (sum_over a ranges vs g (with_coordinate p v x)))
        (λ x h. sum_over_plus vs f g (with_coordinate p v x))
        ∙ sum_plus a laws (ranges v) (λ x. sum_over a ranges vs f (with_coordinate p v x))
        (λ x. sum_over a ranges vs g (with_coordinate p v x))

    module _ (s : Statement) (values : ℕ → List ℕ → ℕ) (point : ℕ → ℕ) where
      -- a group adds what its terms add one by one
      group_is : (vs : List ℕ) (ts : List Term)
          → sum_over a ranges vs
          (λ p. total_of a (map (term_value a values s.accesses p) (filter (λ t. pointwise nat_eq (own_variables s t) vs) ts))) point
          ≡ total_of a (map (term_sum a s values ranges point) (filter (λ t. pointwise nat_eq (own_variables s t) vs) ts))
      group_is vs [] = sum_over_zeros vs point
      group_is vs (t ∷ ts) =
          let test : Term → Bool = λ t. pointwise nat_eq (own_variables s t) vs in
          let value : List Term → (ℕ → ℕ) → ℕ = λ zs p. total_of a (map (term_value a values s.accesses p) zs) in
          elim (tested (own_variables s t) vs) [
            | same is e ↦ (
                let stays = kept test t ts e in
                ap (λ zs. sum_over a ranges vs (value zs) point) stays
                ∙ sum_over_plus vs (λ p. term_value a values s.accesses p t) (value (filter test ts)) point
                ∙ ap (λ ws. a.plus (sum_over a ranges ws (λ p. term_value a values s.accesses p t) point)
                (sum_over a ranges vs (value (filter test ts)) point)) (sym is)
                ∙ ap (a.plus (term_sum a s values ranges point t)) (group_is vs ts)
                ∙ sym (ap (λ zs. total_of a (map (term_sum a s values ranges point) zs)) stays))
            | other is e ↦ (
                let gone = dropped test t ts e in
                ap (λ zs. sum_over a ranges vs (value zs) point) gone ∙ group_is vs ts
                ∙ sym (ap (λ zs. total_of a (map (term_sum a s values ranges point) zs)) gone))
          ]

      group_sums : (ks : List (List ℕ))
          → map (group_sum a s values ranges point) (map (group_in s (terms s.expr)) ks) ≡ map
          (λ vs. share (term_sum a s values ranges point) (own_variables s) vs (terms s.expr)) ks
      group_sums [] = refl
      group_sums (vs ∷ ks) =
          ap (λ x. x ∷ map (group_sum a s values ranges point) (map (group_in s (terms s.expr)) ks)) (group_is vs (terms s.expr))
          ∙ ap (λ zs. share (term_sum a s values ranges point) (own_variables s) vs (terms s.expr) ∷ zs) (group_sums ks)

  -- the value of a statement is the total of what its groups add
  pub groups_add_up : (s : Statement) (values : ℕ → List ℕ → ℕ) (ranges : ℕ → ℕ) (coords : List ℕ)
      → total_of a (map (group_sum a s values ranges (point_of s.left.vars coords)) (groups s)) ≡ statement_value a s values ranges coords
  groups_add_up s values ranges coords =
      let point : ℕ → ℕ = point_of s.left.vars coords in
      ap (total_of a) (group_sums ranges s values point (firsts (map (own_variables s) (terms s.expr))))
      ∙ shares_add_up (term_sum a s values ranges point) (own_variables s) (terms s.expr)
