-- A stable sort leaves what insertion of each element into a sorted list does.
use Rattle.std.specs.Prelude.{◌≡◌, ℕ, zero, suc, ◌≤◌, ◌<◌, Bool, true, false, not, ◌&&◌, cond, nat_lt, if◌then◌else◌, List, [], ◌∷◌}
use Rattle.std.specs.Prelude.{length, filter, map, take, ◌==◌, ◌++◌, Option, Some, slice_index, slice_index_or, refl}
use Rattle.std.proofs.Common.{◌∙◌, sym, ap, arith}
use Rattle.std.proofs.lemmas.Bool.Decides.{nat_tests}
use Rattle.std.specs.Cmp.{IsStrictWeakOrder}
use Rattle.std.specs.Ordering.{is_lt, nat_cmp}
use Rattle.std.specs.List.Sorted.{IsSortedBy, IsStableBy, ties}
use Rattle.std.proofs.lemmas.List.Sorted.{sorted_far}
use Rattle.kernel_code.specs.declared.syntax.Arr.TheVariants.{ListCoordinates, ListPositions}
use Rattle.kernel_code.specs.Rows.{insert_by, sorted_by, list_rows, sorted_rows}
use Rattle.kernel_code.specs.Meaning.{State, Ended, Stuck, set_array, sort_outcome}

-- none of the elements is before x
abbrev NoneBefore : {X : Type 0} → (X → X → Bool) → X → List X → Type 0
NoneBefore lt x [] = Unit {0}
NoneBefore lt x (y ∷ ys) = (lt y x ≡ false) × NoneBefore lt x ys

abbrev Sorted : {X : Type 0} → (X → X → Bool) → List X → Type 0
Sorted lt [] = Unit {0}
Sorted lt (x ∷ xs) = NoneBefore lt x xs × Sorted lt xs

none_before : {X : Type 0} (lt : X → X → Bool) (x : X) (ys : List X)
    → ((j : ℕ) (d : X) → j < length ys → lt (slice_index_or ys j d) x ≡ false) → NoneBefore lt x ys
none_before lt x [] h = tt
none_before lt x (y ∷ ys) h = (h 0 y (omega arith), none_before lt x ys (λ j d l. h (suc j) d (omega arith)))

sorted_from : {X : Type 0} (lt : X → X → Bool) (xs : List X)
    → ((i j : ℕ) (d : X) → i ≤ j → j < length xs → lt (slice_index_or xs j d) (slice_index_or xs i d) ≡ false) → Sorted lt xs
sorted_from lt [] h = tt
sorted_from lt (x ∷ xs) h = (
  none_before lt x xs (λ j d l. h 0 (suc j) d (omega arith) (omega arith)),
  sorted_from lt xs
      (λ i j d a b. h (suc i) (suc j) d (omega arith) (omega arith)),
)

-- facts on tests
not_true : (b : Bool) → (b ≡ true → ⊥) → b ≡ false
not_true true h = absurd (h refl)
not_true false h = refl

not_false : (b : Bool) → (b ≡ false → ⊥) → b ≡ true
not_false true h = refl
not_false false h = absurd (h refl)

true_false : (b : Bool) → b ≡ true → b ≡ false → ⊥
true_false b h g = cc

untied_by : (a b : Bool) → a ≡ true → (not a && not b) ≡ false
untied_by true b h = refl
untied_by false b h = cc

tied_by : (a b : Bool) → a ≡ false → b ≡ false → (not a && not b) ≡ true
tied_by true b h g = cc
tied_by false true h g = cc
tied_by false false h g = refl

tied_first : (a b : Bool) → (not a && not b) ≡ true → a ≡ false
tied_first true b h = cc
tied_first false b h = refl

tied_second : (a b : Bool) → (not a && not b) ≡ true → b ≡ false
tied_second true b h = cc
tied_second false true h = cc
tied_second false false h = refl

not_self : {X : Type 0} (lt : X → X → Bool) (o : IsStrictWeakOrder lt) (x : X) → lt x x ≡ false
not_self lt o x = not_true (lt x x) (λ h. true_false (lt x x) h (o.one_way x x h))

tied_self : {X : Type 0} (lt : X → X → Bool) (o : IsStrictWeakOrder lt) (x : X) → ties lt x x ≡ true
tied_self lt o x = tied_by (lt x x) (lt x x) (not_self lt o x) (not_self lt o x)

-- where the first element is after y, none ties with y
none_tie : {X : Type 0} (lt : X → X → Bool) (o : IsStrictWeakOrder lt) (y z : X) (zs : List X) → lt y z ≡ true → NoneBefore lt z zs
    → filter (ties lt y) zs ≡ []
none_tie lt o y z [] h n = refl
none_tie lt o y z (w ∷ ws) h n =
    let after : lt y w ≡ true = not_false (lt y w) (λ e. true_false (lt y z) h (o.chain y w z e n.0)) in
    ap (λ b. cond b (w ∷ filter (ties lt y) ws) (filter (ties lt y) ws)) (untied_by (lt y w) (lt w y) after) ∙ none_tie lt o y z ws h n.1

first_kept : {X : Type 0} (lt : X → X → Bool) (o : IsStrictWeakOrder lt) (x : X) (xs : List X)
    → filter (ties lt x) (x ∷ xs) ≡ x ∷ filter (ties lt x) xs
first_kept lt o x xs = ap (λ b. cond b (x ∷ filter (ties lt x) xs) (filter (ties lt x) xs)) (tied_self lt o x)

cons_not_empty : {X : Type 0} (x : X) (xs : List X) → x ∷ xs ≡ [] → ⊥
cons_not_empty x xs h = cc

first_same : {X : Type 0} (x y : X) (xs ys : List X) → x ∷ xs ≡ y ∷ ys → x ≡ y
first_same x y xs ys h = cc

rest_same : {X : Type 0} (x y : X) (xs ys : List X) → x ∷ xs ≡ y ∷ ys → xs ≡ ys
rest_same x y xs ys h = cc

same_rest : {X : Type 0} (b : Bool) (x : X) (xs ys : List X) → cond b (x ∷ xs) xs ≡ cond b (x ∷ ys) ys → xs ≡ ys
same_rest true x xs ys h = rest_same x x xs ys h
same_rest false x xs ys h = h

-- of two sorted lists with the same elements of each tie in the same order, one isn't ahead of the other
not_ahead : {X : Type 0} (lt : X → X → Bool) (o : IsStrictWeakOrder lt) (y z : X) (ys zs : List X) → NoneBefore lt z zs
    → ((x : X) → filter (ties lt x) (y ∷ ys) ≡ filter (ties lt x) (z ∷ zs)) → lt y z ≡ false
not_ahead lt o y z ys zs n h =
    not_true (lt y z) (λ e. cons_not_empty y (filter (ties lt y) ys) (sym (first_kept lt o y ys) ∙ h y
    ∙ none_tie lt o y z (z ∷ zs) e (not_self lt o z, n)))

heads_same : {X : Type 0} (lt : X → X → Bool) (o : IsStrictWeakOrder lt) (y z : X) (ys zs : List X) → lt y z ≡ false → lt z y ≡ false
    → ((x : X) → filter (ties lt x) (y ∷ ys) ≡ filter (ties lt x) (z ∷ zs)) → y ≡ z
heads_same lt o y z ys zs a b h = first_same y z (filter (ties lt y) ys) (filter (ties lt y) zs) (sym (first_kept lt o y ys) ∙ h y
    ∙ ap (λ t. cond t (z ∷ filter (ties lt y) zs) (filter (ties lt y) zs)) (tied_by (lt y z) (lt z y) a b))

pub one_order : {X : Type 0} (lt : X → X → Bool) (o : IsStrictWeakOrder lt) (ys zs : List X) → Sorted lt ys → Sorted lt zs
    → ((x : X) → filter (ties lt x) ys ≡ filter (ties lt x) zs) → ys ≡ zs
one_order lt o [] [] s t h = refl
one_order lt o [] (z ∷ zs) s t h = absurd (cons_not_empty z (filter (ties lt z) zs) (sym (first_kept lt o z zs) ∙ sym (h z)))
one_order lt o (y ∷ ys) [] s t h = absurd (cons_not_empty y (filter (ties lt y) ys) (sym (first_kept lt o y ys) ∙ h y))
one_order lt o (y ∷ ys) (z ∷ zs) s t h =
    let a = not_ahead lt o y z ys zs t.0 h in
    let b = not_ahead lt o z y zs ys s.0 (λ x. sym (h x)) in
    let e = heads_same lt o y z ys zs a b h in
    let rest = one_order lt o ys zs s.1 t.1 (λ x. same_rest (ties lt x y) y (filter (ties lt x) ys) (filter (ties lt x) zs) (h x
    ∙ ap (λ w. cond (ties lt x w) (w ∷ filter (ties lt x) zs) (filter (ties lt x) zs)) (sym e))) in
    ap (λ w. w ∷ ys) e ∙ ap (λ ws. z ∷ ws) rest

-- insertion keeps the order
chosen_sorted : {X : Type 0} (P : List X → Type 0) (b : Bool) (xs ys : List X) → (b ≡ true → P xs) → (b ≡ false → P ys)
    → P (if b then xs else ys)
chosen_sorted P true xs ys f g = f refl
chosen_sorted P false xs ys f g = g refl

none_before_insert : {X : Type 0} (lt : X → X → Bool) (w r : X) (qs : List X) → lt r w ≡ false → NoneBefore lt w qs
    → NoneBefore lt w (insert_by lt r qs)
none_before_insert lt w r [] h n = (h, tt)
none_before_insert lt w r (q ∷ qs) h n =
    chosen_sorted (NoneBefore lt w) (lt q r) (q ∷ insert_by lt r qs) (r
    ∷ (q ∷ qs)) (λ e. (n.0, none_before_insert lt w r qs h n.1)) (λ e. (h, (n.0, n.1)))

none_before_all : {X : Type 0} (lt : X → X → Bool) (o : IsStrictWeakOrder lt) (r q : X) (qs : List X) → lt q r ≡ false
    → NoneBefore lt q qs → NoneBefore lt r qs
none_before_all lt o r q [] h n = tt
none_before_all lt o r q (w ∷ ws) h n = (o.chain w q r n.0 h, none_before_all lt o r q ws h n.1)

insert_sorted : {X : Type 0} (lt : X → X → Bool) (o : IsStrictWeakOrder lt) (r : X) (qs : List X) → Sorted lt qs
    → Sorted lt (insert_by lt r qs)
insert_sorted lt o r [] s = (tt, tt)
insert_sorted lt o r (q ∷ qs) s =
    chosen_sorted (Sorted lt) (lt q r) (q ∷ insert_by lt r qs) (r ∷ (q ∷ qs))
    (λ e. (none_before_insert lt q r qs (o.one_way q r e) s.0, insert_sorted lt o r qs s.1))
    (λ e. ((e, none_before_all lt o r q qs e s.0), (s.0, s.1)))

all_sorted : {X : Type 0} (lt : X → X → Bool) (o : IsStrictWeakOrder lt) (xs : List X) → Sorted lt (sorted_by lt xs)
all_sorted lt o [] = tt
all_sorted lt o (x ∷ xs) = insert_sorted lt o x (sorted_by lt xs) (all_sorted lt o xs)

-- insertion keeps the elements of each tie in order
swapped : {X : Type 0} (a b : Bool) (q r : X) (xs : List X) → (a ≡ true → b ≡ true → ⊥)
    → cond a (q ∷ cond b (r ∷ xs) xs) (cond b (r ∷ xs) xs) ≡ cond b (r ∷ cond a (q ∷ xs) xs) (cond a (q ∷ xs) xs)
swapped true true q r xs h = absurd (h refl refl)
swapped true false q r xs h = refl
swapped false true q r xs h = refl
swapped false false q r xs h = refl

insert_ties : {X : Type 0} (lt : X → X → Bool) (o : IsStrictWeakOrder lt) (x r : X) (qs : List X)
    → filter (ties lt x) (insert_by lt r qs) ≡ filter (ties lt x) (r ∷ qs)
insert_ties lt o x r [] = refl
insert_ties lt o x r (q ∷ qs) =
    chosen_sorted (λ ws. filter (ties lt x) ws ≡ filter (ties lt x) (r ∷ (q ∷ qs))) (lt q r) (q ∷ insert_by lt r qs) (r ∷ (q ∷ qs))
    (λ e. ap (λ ws. cond (ties lt x q) (q ∷ ws) ws) (insert_ties lt o x r qs)
    ∙ swapped (ties lt x q) (ties lt x r) q r (filter (ties lt x) qs)
    (λ tq tr. true_false (lt q r) e (o.chain q x r (tied_second (lt x q) (lt q x) tq) (tied_first (lt x r) (lt r x) tr))))
    (λ e. refl)

all_ties : {X : Type 0} (lt : X → X → Bool) (o : IsStrictWeakOrder lt) (x : X) (xs : List X)
    → filter (ties lt x) (sorted_by lt xs) ≡ filter (ties lt x) xs
all_ties lt o x [] = refl
all_ties lt o x (y ∷ ys) = insert_ties lt o x y (sorted_by lt ys) ∙ ap (λ ws. cond (ties lt x y) (y ∷ ws) ws) (all_ties lt o x ys)

pub stable_sort_is : {X : Type 0} (lt : X → X → Bool) (o : IsStrictWeakOrder lt) (xs ys : List X) → IsSortedBy lt ys → IsStableBy lt xs ys
    → ys ≡ sorted_by lt xs
stable_sort_is lt o xs ys s t =
    one_order lt o ys (sorted_by lt xs) (sorted_from lt ys (sorted_far lt o ys s)) (all_sorted lt o xs) (λ x. t x
    ∙ sym (all_ties lt o x xs))

compare_lt : (m n : ℕ) → is_lt (nat_cmp m n) ≡ nat_lt m n
compare_lt m n = grind (arith, nat_tests)

pub by_numbers : {X : Type 0} (key : X → ℕ) (xs : List X)
    → sorted_by (λ x y. is_lt (nat_cmp (key x) (key y))) xs ≡ sorted_by (λ x y. nat_lt (key x) (key y)) xs
by_numbers {X} key xs = ap (λ (lt : X → X → Bool). sorted_by lt xs) (λ i x y. compare_lt (key x) (key y) i)

-- one row more
pub list_rows_more : (cs ps : List ℕ) (i : ℕ) → i < length cs → i < length ps
    → list_rows (take (suc i) cs) (take (suc i) ps) ≡ list_rows (take i cs) (take i ps)
    ++ record { coordinate = slice_index cs i; position = slice_index ps i } ∷ []
list_rows_more [] ps i l m = absurd (omega arith)
list_rows_more (c ∷ cs) [] i l m = absurd (omega arith)
list_rows_more (c ∷ cs) (p ∷ ps) zero l m = refl
list_rows_more (c ∷ cs) (p ∷ ps) (suc i) l m =
    ap (λ rows. record { coordinate = c; position = p } ∷ rows) (list_rows_more cs ps i (omega arith) (omega arith))

pub sort_done : (s t : State) (g : ℕ) (cs ps : List ℕ) (xs ys : Option (List ℕ)) → xs ≡ Some cs → ys ≡ Some ps → length cs ≡ length ps
    → t ≡ set_array (set_array s (ListCoordinates g) (map (λ r. r.coordinate) (sorted_rows (list_rows cs ps)))) (ListPositions g)
    (map (λ r. r.position) (sorted_rows (list_rows cs ps)))
    → Ended t ≡ sort_outcome s g xs ys
sort_done s t g cs ps xs ys x y l e =
    let same : (length cs == length ps) ≡ true = grind (arith, nat_tests) in
    ap Ended e ∙ sym (ap (λ xs. sort_outcome s g xs ys) x ∙ ap (sort_outcome s g (Some cs)) y
    ∙ ap (λ b. if b then Ended
    (set_array (set_array s (ListCoordinates g) (map (λ r. r.coordinate) (sorted_rows (list_rows cs ps)))) (ListPositions g)
    (map (λ r. r.position) (sorted_rows (list_rows cs ps)))) else Stuck s.turns 1) same)
