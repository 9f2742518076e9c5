-- Totals of groups: they don't depend on the order of terms, those of terms that share no loop add up, and those of terms in one loop
-- are what the loop's group has.
use Rattle.std.specs.Prelude.{◌≡◌, ◌⊎◌, ℕ, ◌+◌, ◌≤◌, nat_eq, cond, Bool, true, false, ◌||◌, if◌then◌else◌, List, [], ◌∷◌, ◌++◌}
use Rattle.std.specs.Prelude.{length, map, filter, Option, Some, refl}
use Rattle.std.specs.List.{sum_by}
use Rattle.std.specs.List.Sorted.{IsPermutation}
use Rattle.std.proofs.Common.{◌∙◌, sym, ap, subst, arith, inl, inr}
use Rattle.std.proofs.lemmas.Bool.Decides.{nat_tests}
use Rattle.std.proofs.lemmas.List.{append-nil}
use Rattle.std.proofs.lemmas.List.Concat.{flat_map-append}
use Rattle.std.proofs.lemmas.List.Sums.{sum_by-append, sum_by-cons}
use Rattle.std.proofs.lemmas.List.Sorted.{sum_by-IsPermutation}
use Rattle.format_spec.specs.declared.format.FormatLevel.{FormatLevel}
use Rattle.index_notation.specs.declared.syntax.Expr.{Expr}
use Rattle.index_notation.specs.declared.syntax.Statement.{Statement}
use Rattle.lists.specs.Each.{Each}
use Rattle.expr_terms.specs.Points.{with_coordinate}
use Rattle.expr_terms.specs.Terms.{contains}
use Rattle.concrete_notation.specs.Nests.{Nest, inside}
use Rattle.loop_code.specs.Loops.{Stored}
use Rattle.loop_code.specs.Parts.{given, is_live, remains}
use Rattle.loop_code.specs.Turns.{count_below}
use Rattle.lowering.specs.Sums.{first_sum, starts_at}
use Rattle.statement_costs.specs.Costs.{group_of, has_started, has_started_before, in_place, inside_of, is_here, is_there, is_wanted}
use Rattle.statement_costs.specs.Costs.{of_starting, opened_group, own_group, some_term, total, with_others}
use Rattle.statement_costs.proofs.Parts.{same_if}

-- each number of a term, summed, is the same
abbrev pub AreSame : List Nest → List Nest → Type 0
AreSame xs ys = (f : Nest → ℕ) → sum_by f xs ≡ sum_by f ys

pub permutation_same : (xs ys : List Nest) → IsPermutation xs ys → AreSame xs ys
permutation_same xs ys h f = sym (sum_by-IsPermutation f xs ys h)

abbrev one_if : Bool → ℕ
one_if true = 1
one_if false = 0

abbrev weight : (Expr → Bool) → Nest → ℕ
weight test n = one_if (test n.term.expr)

some_counts : (test : Expr → Bool) (nests : List Nest) → some_term test nests ≡ true → 1 ≤ sum_by (weight test) nests
some_counts test [] h = absurd (cc h)
some_counts test (n ∷ nests) h =
    subst (λ m. 1 ≤ m) (sym (sum_by-cons (weight test) n nests))
    (by (test n.term.expr) (some_term test nests) (sum_by (weight test) nests) (some_counts test nests) h)
  where
    by : (b rest : Bool) (m : ℕ) → (rest ≡ true → 1 ≤ m) → (b || rest) ≡ true → 1 ≤ one_if b + m
    by true rest m f h = omega arith
    by false rest m f h = let more = f h in omega (arith, more)

counts_some : (test : Expr → Bool) (nests : List Nest) → 1 ≤ sum_by (weight test) nests → some_term test nests ≡ true
counts_some test [] h = absurd (omega (arith, h))
counts_some test (n ∷ nests) h =
    by (test n.term.expr) (some_term test nests) (sum_by (weight test) nests) (counts_some test nests)
    (subst (λ m. 1 ≤ m) (sum_by-cons (weight test) n nests) h)
  where
    by : (b rest : Bool) (m : ℕ) → (1 ≤ m → rest ≡ true) → 1 ≤ one_if b + m → (b || rest) ≡ true
    by true rest m f h = refl
    by false rest m f h = f (omega (arith, h))

pub some_same : (test : Expr → Bool) (xs ys : List Nest) → AreSame xs ys → some_term test xs ≡ some_term test ys
some_same test xs ys same = same_if (some_term test xs) (some_term test ys)
    (λ h. counts_some test ys (subst (λ m. 1 ≤ m) (same (weight test)) (some_counts test xs h)))
    (λ h. counts_some test xs (subst (λ m. 1 ≤ m) (sym (same (weight test))) (some_counts test ys h)))

sum_group : (v : ℕ) (f : Nest → ℕ) (nests : List Nest)
    → sum_by f (group_of v nests) ≡ sum_by (λ (n : Nest). sum_by f (inside_of v n.loops n.term)) nests
sum_group v f [] = refl
sum_group v f (n ∷ nests) =
    sum_by-append f (inside_of v n.loops n.term) (group_of v nests)
    ∙ ap (λ m. sum_by f (inside_of v n.loops n.term) + m) (sum_group v f nests)
    ∙ sym (sum_by-cons (λ (k : Nest). sum_by f (inside_of v k.loops k.term)) n nests)

same_group : (v : ℕ) (xs ys : List Nest) → AreSame xs ys → AreSame (group_of v xs) (group_of v ys)
same_group v xs ys same f =
    sum_group v f xs ∙ same (λ (n : Nest). sum_by f (inside_of v n.loops n.term)) ∙ sym (sum_group v f ys)

sum_mapped : (g : Nest → Nest) (f : Nest → ℕ) (xs : List Nest) → sum_by f (map g xs) ≡ sum_by (λ x. f (g x)) xs
sum_mapped g f [] = refl
sum_mapped g f (x ∷ xs) =
    sum_by-cons f (g x) (map g xs) ∙ ap (λ m. f (g x) + m) (sum_mapped g f xs) ∙ sym (sum_by-cons (λ y. f (g y)) x xs)

same_mapped : (g : Nest → Nest) (xs ys : List Nest) → AreSame xs ys → AreSame (map g xs) (map g ys)
same_mapped g xs ys same f = sum_mapped g f xs ∙ same (λ x. f (g x)) ∙ sym (sum_mapped g f ys)

-- loops in the order of some variables
abbrev Choose : Bool → Type 0 → Type 0 → Type 0
Choose true A B = A
Choose false A B = B

abbrev pub IsAlong : List ℕ → List ℕ → Type 0
IsAlong [] [] = Unit {0}
IsAlong [] (w ∷ ws) = ⊥
IsAlong (v ∷ order) [] = Unit {0}
IsAlong (v ∷ order) (w ∷ ws) = Choose (nat_eq v w) (IsAlong order ws) (IsAlong order (w ∷ ws))

same_by : (a b : ℕ) → nat_eq a b ≡ true → a ≡ b
same_by a b h = grind (arith, nat_tests, h)

self : (k : ℕ) → nat_eq k k ≡ true
self k = grind (arith, nat_tests)

each_filtered : (f : ℕ → Bool) (xs : List ℕ) → Each (λ x. f x ≡ true) (filter f xs)
each_filtered f [] = tt
each_filtered f (x ∷ xs) = by (each_filtered f xs) (f x) refl
  where
    by : Each (λ y. f y ≡ true) (filter f xs) → (b : Bool) → f x ≡ b → Each (λ y. f y ≡ true) (cond b (x ∷ filter f xs) (filter f xs))
    by rest true is = (is, rest)
    by rest false is = rest

pub filtered_along : (f : ℕ → Bool) (order : List ℕ) → IsAlong order (filter f order)
filtered_along f [] = tt
filtered_along f (v ∷ order) = by (filtered_along f order) (f v) refl
  where
    skipped : f v ≡ false → (ws : List ℕ) → Each (λ w. f w ≡ true) ws → IsAlong order ws → IsAlong (v ∷ order) ws
    skipped is [] each along = tt
    skipped is (w ∷ ws) each along = at (nat_eq v w) refl
      where
        at : (b : Bool) → nat_eq v w ≡ b → Choose b (IsAlong order ws) (IsAlong order (w ∷ ws))
        at true same = absurd (let clash = sym is ∙ ap f (same_by v w same) ∙ each.0 in cc clash)
        at false other = along

    by : IsAlong order (filter f order) → (b : Bool) → f v ≡ b
        → IsAlong (v ∷ order) (cond b (v ∷ filter f order) (filter f order))
    by rest true is = subst (λ b. Choose b (IsAlong order (filter f order)) (IsAlong order (v ∷ filter f order))) (sym (self v)) rest
    by rest false is = skipped is (filter f order) (each_filtered f order) rest

abbrev pub AreAlong : List ℕ → List Nest → Type 0
AreAlong order nests = Each (λ (n : Nest). IsAlong order n.loops) nests

along_taken : (u v : ℕ) (order : List ℕ) (nests : List Nest) → nat_eq u v ≡ true → AreAlong (u ∷ order) (map (inside v) nests)
    → AreAlong order nests
along_taken u v order [] is along = tt
along_taken u v order (n ∷ nests) is along = (
  subst (λ b. Choose b (IsAlong order n.loops) (IsAlong order (v ∷ n.loops))) is along.0,
  along_taken u v order nests is along.1,
)

along_passed : (u v : ℕ) (order : List ℕ) (nests : List Nest) → nat_eq u v ≡ false → AreAlong (u ∷ order) (map (inside v) nests)
    → AreAlong order (map (inside v) nests)
along_passed u v order [] is along = tt
along_passed u v order (n ∷ nests) is along = (
  subst (λ b. Choose b (IsAlong order n.loops) (IsAlong order (v ∷ n.loops))) is along.0,
  along_passed u v order nests is along.1,
)

-- one loop goes along any order in which its variable stands
pub along_one : (order : List ℕ) (w : ℕ) → contains order w ≡ true → IsAlong order (w ∷ [])
along_one [] w h = absurd (cc h)
along_one (v ∷ order) w h = by (nat_eq v w) h (along_one order w)
  where
    nothing : (xs : List ℕ) → IsAlong xs []
    nothing [] = tt
    nothing (x ∷ xs) = tt

    by : (b : Bool) → (b || contains order w) ≡ true → (contains order w ≡ true → IsAlong order (w ∷ []))
        → Choose b (IsAlong order []) (IsAlong order (w ∷ []))
    by true g more = nothing order
    by false g more = more g

-- terms in a loop are its group
pub group_inside : (v : ℕ) (nests : List Nest) → group_of v (map (inside v) nests) ≡ nests
group_inside v [] = refl
group_inside v (n ∷ nests) =
    ap (λ b. (if b then (n ∷ []) else []) ++ group_of v (map (inside v) nests)) (self v) ∙ ap (λ xs. n ∷ xs) (group_inside v nests)

pub group_other : (w v : ℕ) (nests : List Nest) → nat_eq w v ≡ false → group_of v (map (inside w) nests) ≡ []
group_other w v [] is = refl
group_other w v (n ∷ nests) is =
    ap (λ b. (if b then (n ∷ []) else []) ++ group_of v (map (inside w) nests)) is ∙ group_other w v nests is

module _ (s : Statement) (formats : List (List FormatLevel)) (stored : Stored) (ranges : ℕ → ℕ)
    (number : List Nest → List ℕ → (ℕ → ℕ) → ℕ → ℕ) where
  -- the sums that start at a point
  abbrev pub starting : List ℕ → Option ℕ → List ℕ → (ℕ → ℕ) → List Nest → ℕ
  starting order innermost bound point group =
      of_starting s formats stored ranges (λ own. total s formats stored ranges number order own bound point) innermost bound point group

  -- the sums that are wanted don't depend on the order of terms
  pub starting_same : (order : List ℕ) (innermost : Option ℕ) (bound : List ℕ) (point : ℕ → ℕ) (xs ys : List Nest) → AreSame xs ys
      → starting order innermost bound point xs ≡ starting order innermost bound point ys
  starting_same order innermost bound point xs ys same =
      λ i. count_below (length s.sums) (λ n. if starts_at s (λ k. wanted n i) innermost bound n
      then total s formats stored ranges number order (own_group s n) bound point else 0)
    where
      wanted : (n : ℕ) → is_wanted s formats stored ranges innermost bound point xs n
          ≡ is_wanted s formats stored ranges innermost bound point ys n
      wanted n =
          some_same
          (λ e. is_live
          (given (is_there s formats stored ranges (has_started_before s innermost bound (first_sum s + n)) bound point) (first_sum s + n)
          (some_term (remains (is_there s formats stored ranges (has_started_before s innermost bound (first_sum s + n)) bound point))
          (opened_group s (has_started_before s innermost bound (first_sum s + n)) (own_group s n)))) e (first_sum s + n))
          (opened_group s (given (has_started_before s innermost bound (first_sum s + n)) (first_sum s + n) true) xs)
          (opened_group s (given (has_started_before s innermost bound (first_sum s + n)) (first_sum s + n) true) ys)
          (same_mapped (with_others (in_place s (given (has_started_before s innermost bound (first_sum s + n)) (first_sum s + n) true)
          (length s.sums))) xs ys same)

  -- a group and those that it falls into
  abbrev pub entered : ℕ → List ℕ → List Nest → List ℕ → (ℕ → ℕ) → ℕ
  entered v order group bound point =
      if some_term (remains (is_here s formats stored ranges bound point)) (opened_group s (has_started s bound) group)
      then number (opened_group s (has_started s bound) group) bound point v
      + count_below (ranges v) (λ x. starting order (Some v) (v ∷ bound) (with_coordinate point v x) group
      + total s formats stored ranges number order group (v ∷ bound) (with_coordinate point v x)) else 0

  -- the order of terms doesn't matter
  pub total_same : ((xs ys : List Nest) (bound : List ℕ) (point : ℕ → ℕ) (v : ℕ) → AreSame xs ys
      → number xs bound point v ≡ number ys bound point v)
      → (order : List ℕ) (xs ys : List Nest) → AreSame xs ys → (bound : List ℕ) (point : ℕ → ℕ)
      → total s formats stored ranges number order xs bound point ≡ total s formats stored ranges number order ys bound point
  total_same numbers [] xs ys same bound point = refl
  total_same numbers (v ∷ order) xs ys same bound point =
      let groups : AreSame (group_of v xs) (group_of v ys) = same_group v xs ys same in
      let opened : AreSame (opened_group s (has_started s bound) (group_of v xs)) (opened_group s (has_started s bound) (group_of v ys)) =
      same_mapped (with_others (in_place s (has_started s bound) (length s.sums))) (group_of v xs) (group_of v ys) groups in
      let left = some_same (remains (is_here s formats stored ranges bound point)) (opened_group s (has_started s bound) (group_of v xs))
      (opened_group s (has_started s bound) (group_of v ys)) opened in
      let own = numbers (opened_group s (has_started s bound) (group_of v xs)) (opened_group s (has_started s bound) (group_of v ys)) bound
      point v opened in
      let sums : (x : ℕ) → starting order (Some v) (v ∷ bound) (with_coordinate point v x) (group_of v xs)
      ≡ starting order (Some v) (v ∷ bound) (with_coordinate point v x) (group_of v ys) =
      λ x. starting_same order (Some v) (v ∷ bound) (with_coordinate point v x) (group_of v xs) (group_of v ys) groups in
      let more : (x : ℕ) → total s formats stored ranges number order (group_of v xs) (v ∷ bound) (with_coordinate point v x)
      ≡ total s formats stored ranges number order (group_of v ys) (v ∷ bound) (with_coordinate point v x) =
      λ x. total_same numbers order (group_of v xs) (group_of v ys) groups (v ∷ bound) (with_coordinate point v x) in
      let rest = total_same numbers order xs ys same bound point in
      λ i. (if left i then own i + count_below (ranges v) (λ x. sums x i + more x i) else 0) + rest i

  plus_none : (m : ℕ) → m + 0 ≡ m
  plus_none m = omega arith

  none_plus : (m : ℕ) → 0 + m ≡ m
  none_plus m = omega arith

  -- terms that share no loop
  pub total_both : (order : List ℕ) (xs ys : List Nest) → ((v : ℕ) → (group_of v xs ≡ []) ⊎ (group_of v ys ≡ [])) → (bound : List ℕ)
      (point : ℕ → ℕ)
      → total s formats stored ranges number order xs bound point + total s formats stored ranges number order ys bound point
      ≡ total s formats stored ranges number order (xs ++ ys) bound point
  total_both [] xs ys apart bound point = refl
  total_both (v ∷ order) xs ys apart bound point =
      let rest = total_both order xs ys apart bound point in
      let here = by (apart v) in
      omega (arith, rest, here)
    where
      group_both : group_of v (xs ++ ys) ≡ group_of v xs ++ group_of v ys
      group_both = flat_map-append (λ (n : Nest). inside_of v n.loops n.term) xs ys

      by : (group_of v xs ≡ []) ⊎ (group_of v ys ≡ [])
          → entered v order (group_of v xs) bound point + entered v order (group_of v ys) bound point
          ≡ entered v order (group_of v (xs ++ ys)) bound point
      by (inl none) =
          ap (λ g. entered v order g bound point + entered v order (group_of v ys) bound point) none
          ∙ none_plus (entered v order (group_of v ys) bound point)
          ∙ ap (λ g. entered v order g bound point) (sym (group_both ∙ ap (λ g. g ++ group_of v ys) none))
      by (inr none) =
          ap (λ g. entered v order (group_of v xs) bound point + entered v order g bound point) none
          ∙ plus_none (entered v order (group_of v xs) bound point)
          ∙ ap (λ g. entered v order g bound point)
          (sym (group_both ∙ ap (λ g. group_of v xs ++ g) none ∙ append-nil (group_of v xs)))

  -- terms in one loop, where something is so of each order that is left
  module _ (Q : List ℕ → Type 0) (tail : (u : ℕ) (order : List ℕ) → Q (u ∷ order) → Q order) where
    pub total_loop : (v : ℕ) (nests : List Nest) (bound : List ℕ) (point : ℕ → ℕ) (m : ℕ) → (nests ≡ [] → m ≤ 0)
        → ((rest : List ℕ) → AreAlong rest nests → Q (v ∷ rest) → m ≤ entered v rest nests bound point)
        → (order : List ℕ) → Q order → AreAlong order (map (inside v) nests)
        → m ≤ total s formats stored ranges number order (map (inside v) nests) bound point
    total_loop v [] bound point m none f [] q along = none refl
    total_loop v (n ∷ nests) bound point m none f [] q along = absurd along.0
    total_loop v nests bound point m none f (u ∷ order) q along =
        by (λ passed. total_loop v nests bound point m none f order (tail u order q) passed) (nat_eq u v) refl
      where
        taken : u ≡ v → nat_eq u v ≡ true → m ≤ entered u order (group_of u (map (inside v) nests)) bound point
        taken same is =
            subst (λ w. m ≤ entered w order (group_of w (map (inside v) nests)) bound point) (sym same)
            (subst (λ g. m ≤ entered v order g bound point) (sym (group_inside v nests))
            (f order (along_taken u v order nests is along) (subst (λ w. Q (w ∷ order)) same q)))

        by : (AreAlong order (map (inside v) nests) → m ≤ total s formats stored ranges number order (map (inside v) nests) bound point)
            → (b : Bool) → nat_eq u v ≡ b → m ≤ total s formats stored ranges number (u ∷ order) (map (inside v) nests) bound point
        by more true is = let most = taken (same_by u v is) is in omega (arith, most)
        by more false is = let most = more (along_passed u v order nests is along) in omega (arith, most)
