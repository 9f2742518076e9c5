-- Loops with sums are told by their terms, in which what is summed counts in the place of each sum that hasn't started.
use Rattle.std.specs.Prelude.{◌≡◌, ◌⊎◌, ℕ, zero, suc, ◌+◌, ◌≤◌, ◌<◌, nat_eq, nat_lt, not, Bool, true, false, ◌||◌, ◌&&◌, if◌then◌else◌}
use Rattle.std.specs.Prelude.{List, [], ◌∷◌, ◌++◌, length, map, Option, Some, refl}
use Rattle.std.proofs.Common.{◌∙◌, sym, ap, subst, arith, inl, inr}
use Rattle.std.proofs.lemmas.Bool.Decides.{nat_tests}
use Rattle.std.proofs.lemmas.List.{map-append}
use denote.Hole.Carrier.{hidden}
use Rattle.index_notation.specs.Statement.{AreSums}
use Rattle.index_notation.specs.declared.operator.Operator.TheVariants as op
use Rattle.index_notation.specs.declared.syntax.Expr.{Expr, Num, Access as AccessOf, Binary, Neg, Binary', Neg', Row_of-Expr, end_of-Expr}
use Rattle.index_notation.specs.declared.syntax.Expr.{more_of-Expr}
use Rattle.index_notation.specs.declared.syntax.Statement.{Statement}
use Rattle.expr_terms.specs.Terms.{contains}
use Rattle.concrete_notation.specs.declared.concrete.Concrete.{Concrete, Add as AddOf, Forall', Both' as BothOf', Where', Row_of-Concrete}
use Rattle.concrete_notation.specs.declared.concrete.Concrete.{end_of-Concrete, more_of-Concrete}
use Rattle.concrete_notation.specs.declared.concrete.Concrete.TheBlock.{hidden-the_row-Concrete-0}
use Rattle.concrete_notation.specs.Nests.{Nest, inside, nests}
use Rattle.loop_code.specs.declared.loops.LoopCode.TheBlock.{hidden-the_row-LoopCode-0}
use Rattle.loop_code.specs.declared.loops.LoopCode.{LoopCode, Add, Both', Loop', Sum', Row_of-LoopCode, end_of-LoopCode, more_of-LoopCode}
use Rattle.loop_code.specs.Opened.{AreOnce, AreOnce_in, HasNoSum, HasNoSum_in, opened, opened_by, opened_in, put_at, put_in, put_inside}
use Rattle.loop_code.specs.Opened.{whole, whole_in}
use Rattle.loop_code.specs.Parts.{is_full, is_full_below, is_live, is_live_below, remains, remains_below}
use Rattle.loop_code.specs.Places.{EachAccess, EachAccess_in}
use Rattle.loop_code.proofs.Opened.{opened_full, opened_remains}
use Rattle.loop_code.proofs.OpenedLive.{opened_live}
use Rattle.lowering.specs.Lowered.{concrete_in, concrete_of}
use Rattle.lowering.specs.Seeking.{uses}
use Rattle.lowering.specs.Sums.{first_sum, inside_of, is_met, reads_any, sum_at, sum_tree, through, vars_at}
use Rattle.lowering.proofs.Accesses.{each_access, or_left, or_right}
use Rattle.lowering.proofs.Standing.{all_bound, bound_less, one_bound}
use Rattle.lowering.proofs.Through.{sum_of_list, through_closed, through_limit, through_more, through_uses, under}
use Rattle.statement_costs.specs.Costs.{has_started, has_started_before, in_place, opened_group, some_term, with_others}
use Rattle.lowering.specs.Starts.{IsNext, MayStart, StartsInPlace, StartsInPlace_in}
use Rattle.statement_costs.proofs.Plain.{HasNone}
use Rattle.statement_costs.proofs.Trees.{full_terms, live_terms, nests_of, remains_terms}

mutual
  -- expressions that are the same in the places of all accesses that stand there
  put_alike : (first second : ℕ → Expr) (e : Expr) → EachAccess (λ k. first k ≡ second k) e → put_in first e ≡ put_in second e
  put_alike first second (Num n) h = refl
  put_alike first second (AccessOf k) h = h
  put_alike first second (Binary' o p e q f) h =
      λ i. Binary o (put_alike_in first second e h.0 i) (put_alike_in first second f h.1 i)
  put_alike first second (Neg' p e) h = λ i. Neg (put_alike_in first second e h i)

  put_alike_in : {m : _} (first second : ℕ → Expr) (row : Row_of-Expr m) → EachAccess_in (λ k. first k ≡ second k) row
      → put_inside first row ≡ put_inside second row
  put_alike_in first second end_of-Expr h = refl
  put_alike_in first second (more_of-Expr e rest) h = put_alike first second e h

less_or_same : (m n : ℕ) → m ≤ n → (m < n) ⊎ (m ≡ n)
less_or_same m n l = grind (arith, l)

pub less_or_not : (m n : ℕ) → (m < n) ⊎ (n ≤ m)
less_or_not m n = grind arith

self : (n : ℕ) → nat_eq n n ≡ true
self n = grind (arith, nat_tests)

pub same_by : (a b : ℕ) → nat_eq a b ≡ true → a ≡ b
same_by a b h = grind (arith, nat_tests, h)

apart : (a b : ℕ) → b < a → nat_eq a b ≡ false
apart a b l = grind (arith, nat_tests, l)

pub not_both : {A : Type 0} (b : Bool) → b ≡ true → b ≡ false → A
not_both b h g = absurd (cc (h, g))

module _ (s : Statement) (started : ℕ → Bool) where
  -- an access that is no sum counts as itself, and so does a sum that has started
  counts_itself : (n k : ℕ) → ((m : ℕ) → m < n → first_sum s + m ≡ k → started k ≡ true) → in_place s started n k ≡ AccessOf k
  counts_itself zero k f = refl
  counts_itself (suc n) k f =
      by (started (first_sum s + n)) refl (nat_eq (first_sum s + n) k) refl
      (counts_itself n k (λ m l is. f m (omega (arith, l)) is))
    where
      by : (b : Bool) → started (first_sum s + n) ≡ b → (c : Bool) → nat_eq (first_sum s + n) k ≡ c
          → in_place s started n k ≡ AccessOf k
          → (if b then in_place s started n
          else put_at (in_place s started n) (first_sum s + n) (put_in (in_place s started n) (sum_at s n).inside)) k ≡ AccessOf k
      by true is c e rest = rest
      by false is true e rest =
          let same = same_by (first_sum s + n) k e in
          not_both (started k) (f n (omega arith) same) (ap started (sym same) ∙ is)
      by false is false e rest =
          ap (λ d. if d then put_in (in_place s started n) (sum_at s n).inside else in_place s started n k) e ∙ rest

  passed : (n j : ℕ) → nat_eq (first_sum s + n) j ≡ false → in_place s started (suc n) j ≡ in_place s started n j
  passed n j e = by (started (first_sum s + n))
    where
      by : (b : Bool) → (if b then in_place s started n
          else put_at (in_place s started n) (first_sum s + n) (put_in (in_place s started n) (sum_at s n).inside)) j
          ≡ in_place s started n j
      by true = refl
      by false = ap (λ d. if d then put_in (in_place s started n) (sum_at s n).inside else in_place s started n j) e

  earlier : (m n j : ℕ) → m ≤ n → j < first_sum s + m → in_place s started n j ≡ in_place s started m j
  earlier m zero j l low = ap (λ i. in_place s started i j) (let none : 0 ≡ m = omega (arith, l) in none)
  earlier m (suc n) j l low = elim (less_or_same m (suc n) l) [
    | inl less ↦ passed n j (apart (first_sum s + n) j (omega (arith, low, less))) ∙ earlier m n j (omega (arith, less)) low
    | inr same ↦ ap (λ i. in_place s started i j) (sym same)
  ]

  -- in the place of one that hasn't counts what it sums
  counts_inside : (m : ℕ) → started (first_sum s + m) ≡ false
      → in_place s started (suc m) (first_sum s + m) ≡ put_in (in_place s started m) (sum_at s m).inside
  counts_inside m is =
      ap (λ (b : Bool). (if b then in_place s started m
      else put_at (in_place s started m) (first_sum s + m) (put_in (in_place s started m) (sum_at s m).inside)) (first_sum s + m)) is
      ∙ ap (λ d. if d then put_in (in_place s started m) (sum_at s m).inside else in_place s started m (first_sum s + m))
      (self (first_sum s + m))

  module _ (vars : ℕ) (are : AreSums vars (first_sum s) s.sums) where
    counts_within : (m n : ℕ) → m < n → n ≤ length s.sums → started (first_sum s + m) ≡ false
        → in_place s started n (first_sum s + m) ≡ put_in (in_place s started n) (sum_at s m).inside
    counts_within m n l top is =
        earlier (suc m) n (first_sum s + m) (omega (arith, l)) (omega arith) ∙ counts_inside m is
        ∙ put_alike (in_place s started m) (in_place s started n) (sum_at s m).inside
        (each_access (λ j. j < first_sum s + m) (λ j. in_place s started m j ≡ in_place s started n j) (sum_at s m).inside
        (λ j there low. sym (earlier m n j (omega (arith, l)) low))
        (under (first_sum s + m) (sum_at s m).inside (sum_of_list vars (first_sum s) s.sums are m (omega (arith, l, top))).1))

-- ---- what has started
module _ (s : Statement) (innermost : Option ℕ) (bound : List ℕ) (from j : ℕ) where
  abbrev pub Started : Type 0
  Started = has_started_before s innermost bound from j ≡ true

  both_so : (b c : Bool) → (b && c) ≡ true → (b ≡ true) × (c ≡ true)
  both_so true c h = (refl, h)
  both_so false c h = absurd (cc h)

  pub started_known : Started → has_started s bound j ≡ true
  started_known h =
      (both_so (has_started s bound j) (not (is_met innermost (vars_at s j)) || nat_lt j from) h).0

  pub started_before : Started → MayStart s innermost bound j → j < from
  started_before h may =
      by (is_met innermost (vars_at s j)) (nat_lt j from) refl may.met
      (both_so (has_started s bound j) (not (is_met innermost (vars_at s j)) || nat_lt j from) h).1
    where
      by : (b c : Bool) → nat_lt j from ≡ c → b ≡ true → (not b || c) ≡ true → j < from
      by true true e is h = grind (arith, nat_tests, e)
      by true false e is h = absurd (cc h)
      by false c e is h = absurd (cc is)

  pub started_so : has_started s bound j ≡ true → (MayStart s innermost bound j → j < from) → Started
  started_so known f =
      ap (λ b. b && (not (is_met innermost (vars_at s j)) || nat_lt j from)) known
      ∙ by (is_met innermost (vars_at s j)) refl
    where
      test : j < from → nat_lt j from ≡ true
      test l = grind (arith, nat_tests, l)

      or_true : (b : Bool) → (b || true) ≡ true
      or_true true = refl
      or_true false = refl

      by : (b : Bool) → is_met innermost (vars_at s j) ≡ b → (not b || nat_lt j from) ≡ true
      by true is = test (f (record { known = known; met = is }))
      by false is = refl

-- the loop of one more variable
module _ (s : Statement) (bound : List ℕ) (v j : ℕ) where
  pub started_outside : Started s (Some v) (v ∷ bound) 0 j → has_started s bound j ≡ true
  started_outside h = by (contains (vars_at s j) v) refl
    where
      known : has_started s (v ∷ bound) j ≡ true
      known = started_known s (Some v) (v ∷ bound) 0 j h

      by : (b : Bool) → contains (vars_at s j) v ≡ b → has_started s bound j ≡ true
      by true is =
          let none = started_before s (Some v) (v ∷ bound) 0 j h (record { known = known; met = is }) in absurd (omega (arith, none))
      by false is = bound_less v bound (vars_at s j) known is

  pub started_inside : contains bound v ≡ false → has_started s bound j ≡ true → Started s (Some v) (v ∷ bound) 0 j
  started_inside fresh h =
      started_so s (Some v) (v ∷ bound) 0 j
      (all_bound (v ∷ bound) (vars_at s j)
      (λ w is. or_right (nat_eq v w) (contains bound w) (one_bound bound (vars_at s j) h w is)))
      (λ may. not_both (contains bound v) (one_bound bound (vars_at s j) h v may.met) fresh)

-- the terms of loops where sums have started
pub inside_others : (others : ℕ → Expr) (v : ℕ) (ns : List Nest)
    → map (inside v) (map (with_others others) ns) ≡ map (with_others others) (map (inside v) ns)
inside_others others v [] = refl
inside_others others v (n ∷ ns) = ap (λ rest. inside v (with_others others n) ∷ rest) (inside_others others v ns)

abbrev mutual
  -- the sum of the terms of a concrete statement, with other expressions in the places of accesses
  whole_of : (ℕ → Expr) → Concrete → Expr
  whole_of others (AddOf t) = put_in others t.expr
  whole_of others (Forall' v p body) = whole_of_in others body
  whole_of others (BothOf' p f q g) = Binary op.Add (whole_of_in others f) (whole_of_in others g)
  whole_of others (Where' keys p body) = whole_of_in others body

  whole_of_in : {m : _} → (ℕ → Expr) → Row_of-Concrete m → Expr
  whole_of_in others end_of-Concrete = Num 0
  whole_of_in others (more_of-Concrete c rest) = whole_of others c

whole_sum : (others : ℕ → Expr) (s : Statement) (n : ℕ) → whole_of others (sum_tree s n) ≡ put_in others (sum_at s n).inside
unfolding hidden-the_row-Concrete-0 hidden
whole_sum others s n = refl

reads_tree : (s : Statement) (n j : ℕ) → reads_any s (sum_tree s n) j ≡ true → through s (length s.sums) (uses (inside_of s n)) j ≡ true
unfolding hidden-the_row-Concrete-0 hidden
reads_tree s n j h = h

module _ (s : Statement) (vars : ℕ) (are : AreSums vars (first_sum s) s.sums) (outer : ℕ → Bool) where
  abbrev count_of : ℕ
  count_of = length s.sums

  abbrev placed : ℕ → Expr
  placed = in_place s outer (length s.sums)

  -- a sum that is read and has started by the outer test has started here
  abbrev Covers : Option ℕ → List ℕ → ℕ → Concrete → Type 0
  Covers innermost bound from c =
      (j : ℕ) → reads_any s c j ≡ true → first_sum s ≤ j → outer j ≡ true → Started s innermost bound from j

  -- of an access that is read, and is no sum or has started here, stands what counts by the outer test
  abbrev Agrees : Option ℕ → List ℕ → ℕ → (ℕ → Expr) → Concrete → Type 0
  Agrees innermost bound from others c =
      (j : ℕ) → reads_any s c j ≡ true → (first_sum s ≤ j → Started s innermost bound from j) → others j ≡ placed j

  pub into : (c d : Concrete) → ((k : ℕ) → uses c k ≡ true → uses d k ≡ true) → (j : ℕ) → reads_any s c j ≡ true → reads_any s d j ≡ true
  into c d f j h = through_more s count_of (uses c) (uses d) f j h

  -- at a sum
  module _ (innermost : Option ℕ) (bound : List ℕ) (from k : ℕ) (inside body : Concrete)
      (next : IsNext s innermost bound from k inside body) where
    pub high : first_sum s ≤ k
    high = let is = next.access in omega (arith, is)

    pub inside_read : (j : ℕ) → reads_any s inside j ≡ true → reads_any s body j ≡ true
    inside_read j h =
        through_closed s vars are count_of (omega arith) (uses body) next.number next.below
        (subst (λ i. reads_any s body i ≡ true) next.access next.used) j
        (through_limit s vars are next.number count_of (omega arith) next.below (let l = next.below in omega (arith, l)) j
        (reads_tree s next.number j (subst (λ c. reads_any s c j ≡ true) next.tree h)))

    pub before_it : (j : ℕ) → reads_any s body j ≡ true → first_sum s ≤ j → Started s innermost bound k j → Started s innermost bound from j
    before_it j read low h =
        started_so s innermost bound from j (started_known s innermost bound k j h)
        (λ may. let l = started_before s innermost bound k j h may in elim (less_or_not j from) [
          | inl less ↦ less
          | inr more ↦ absurd (next.skipped j more l low read may)
        ])

    pub past_it : (j : ℕ) → Started s innermost bound from j → Started s innermost bound k j
    past_it j h =
        started_so s innermost bound k j (started_known s innermost bound from j h)
        (λ may. let l = started_before s innermost bound from j h may in let m = next.next in omega (arith, l, m))

    pub behind_it : (j : ℕ) → Started s innermost bound k j → Started s innermost bound (suc k) j
    behind_it j h =
        started_so s innermost bound (suc k) j (started_known s innermost bound k j h)
        (λ may. let l = started_before s innermost bound k j h may in omega (arith, l))

    pub but_it : (j : ℕ) → nat_eq k j ≡ false → Started s innermost bound (suc k) j → Started s innermost bound k j
    but_it j other h =
        started_so s innermost bound k j (started_known s innermost bound (suc k) j h)
        (λ may. let l = started_before s innermost bound (suc k) j h may in by other l)
      where
        by : nat_eq k j ≡ false → j < suc k → j < k
        by e l = grind (arith, nat_tests, e, l)

    not_before : Covers innermost bound from body → outer k ≡ false
    not_before covers = by (outer k) refl
      where
        by : (b : Bool) → outer k ≡ b → outer k ≡ false
        by true is =
            let l = started_before s innermost bound from k (covers k next.used high is) next.starts in
            let m = next.next in absurd (omega (arith, l, m))
        by false is = is

    placed_it : Covers innermost bound from body → whole_of placed inside ≡ placed k
    placed_it covers =
        ap (whole_of placed) next.tree ∙ whole_sum placed s next.number
        ∙ sym (counts_within s outer vars are next.number count_of next.below (omega arith)
        (subst (λ i. outer i ≡ false) next.access (not_before covers)))
        ∙ ap placed (sym next.access)

  mutual
    unfolding hidden-the_row-LoopCode-0 hidden-the_row-Concrete-0 hidden

    opened_are : (c : LoopCode) (innermost : Option ℕ) (bound : List ℕ) (from : ℕ) (others : ℕ → Expr)
        → StartsInPlace s innermost bound from c → Covers innermost bound from (concrete_of c)
        → Agrees innermost bound from others (concrete_of c)
        → (nests_of (opened_by others c) ≡ map (with_others placed) (nests_of c)) × (whole others c ≡ whole_of placed (concrete_of c))
    opened_are (Loop' v seeks p body) innermost bound from others starts covers agrees =
        let more = opened_are_in body (Some v) (v ∷ bound) 0 others starts.2
        (λ j read low out. started_inside s bound v j starts.1 (started_known s innermost bound from j (covers j read low out)))
        (λ j read f. agrees j read (λ low. started_so s innermost bound from j (started_outside s bound v j (f low))
        (λ may. elim (less_or_not j from) [
          | inl less ↦ less
          | inr over ↦ absurd (starts.0.none j over low read may)
        ]))) in
        (ap (map (inside v)) more.0 ∙ inside_others placed v (nests (concrete_in body)), more.1)
    opened_are (Both' p f q g) innermost bound from others starts covers agrees =
        let left = λ (j : ℕ) (read : reads_any s (concrete_in f) j ≡ true).
        into (concrete_in f) (concrete_of (Both' p f q g)) (λ k h. or_left (uses (concrete_in f) k) (uses (concrete_in g) k) h) j read in
        let right = λ (j : ℕ) (read : reads_any s (concrete_in g) j ≡ true).
        into (concrete_in g) (concrete_of (Both' p f q g)) (λ k h. or_right (uses (concrete_in f) k) (uses (concrete_in g) k) h) j read in
        let one = opened_are_in f innermost bound from others starts.2 (λ j read low out. covers j (left j read) low out)
        (λ j read h. agrees j (left j read) h) in
        let two = opened_are_in g innermost bound from others starts.3 (λ j read low out. covers j (right j read) low out)
        (λ j read h. agrees j (right j read) h) in (
          (λ i. one.0 i ++ two.0 i) ∙ sym (map-append (with_others placed) (nests (concrete_in f)) (nests (concrete_in g))),
          λ i. Binary op.Add (one.1 i) (two.1 i),
        )
    opened_are (Add t) innermost bound from others starts covers agrees =
        let same = put_alike others placed t.expr (each_access
        (λ k. first_sum s ≤ k → (k < first_sum s + length s.sums) × (has_started s bound k ≡ true)
        × (MayStart s innermost bound k → k < from)) (λ k. others k ≡ placed k) t.expr
        (λ k there h. agrees k (through_uses s count_of (uses (AddOf t)) k there)
        (λ low. started_so s innermost bound from k (h low).1 (h low).2)) starts) in
        (λ i. record { loops = []; term = record { negated = t.negated; expr = same i } } ∷ [], same)
    opened_are (Sum' k p inside q body) innermost bound from others starts covers agrees =
        let next = starts.0 in
        let inner = opened_are_in inside innermost bound k others starts.1
        (λ j read low out. past_it innermost bound from k (concrete_in inside) (concrete_in body) next j
        (covers j (inside_read innermost bound from k (concrete_in inside) (concrete_in body) next j read) low out))
        (λ j read f. let here = inside_read innermost bound from k (concrete_in inside) (concrete_in body) next j read in
        agrees j here (λ low. before_it innermost bound from k (concrete_in inside) (concrete_in body) next j here low (f low))) in
        opened_are_in body innermost bound (suc k) (put_at others k (whole_in others inside)) starts.2
        (λ j read low out. behind_it innermost bound from k (concrete_in inside) (concrete_in body) next j
        (past_it innermost bound from k (concrete_in inside) (concrete_in body) next j (covers j read low out)))
        (λ j read f. by j read f (inner.1 ∙ placed_it innermost bound from k (concrete_in inside) (concrete_in body) next covers)
        (nat_eq k j) refl)
      where
        by : (j : ℕ) → reads_any s (concrete_in body) j ≡ true → (first_sum s ≤ j → Started s innermost bound (suc k) j)
            → whole_in others inside ≡ placed k → (b : Bool) → nat_eq k j ≡ b
            → (if b then whole_in others inside else others j) ≡ placed j
        by j read f whole true is = whole ∙ ap placed (same_by k j is)
        by j read f whole false is =
            agrees j read (λ low. before_it innermost bound from k (concrete_in inside) (concrete_in body) starts.0 j read low
            (but_it innermost bound from k (concrete_in inside) (concrete_in body) starts.0 j is (f low)))

    opened_are_in : {m : _} (row : Row_of-LoopCode m) (innermost : Option ℕ) (bound : List ℕ) (from : ℕ) (others : ℕ → Expr)
        → StartsInPlace_in s innermost bound from row → Covers innermost bound from (concrete_in row)
        → Agrees innermost bound from others (concrete_in row)
        → (nests_of (opened_in others row) ≡ map (with_others placed) (nests (concrete_in row)))
        × (whole_in others row ≡ whole_of placed (concrete_in row))
    opened_are_in end_of-LoopCode innermost bound from others starts covers agrees = (refl, refl)
    opened_are_in (more_of-LoopCode c rest) innermost bound from others starts covers agrees =
        opened_are c innermost bound from others starts covers agrees

mutual
  unfolding hidden-the_row-LoopCode-0 hidden

  -- opened loops have no sum
  pub none_opened : (c : LoopCode) (others : ℕ → Expr) → HasNone (opened_by others c)
  none_opened (Loop' v seeks p body) others = none_opened_in body others
  none_opened (Both' p f q g) others = (none_opened_in f others, none_opened_in g others)
  none_opened (Add t) others = tt
  none_opened (Sum' k p inside q body) others = none_opened_in body (put_at others k (whole_in others inside))

  none_opened_in : {m : _} (row : Row_of-LoopCode m) (others : ℕ → Expr) → HasNone (opened_in others row)
  none_opened_in end_of-LoopCode others = tt
  none_opened_in (more_of-LoopCode c rest) others = none_opened c others

module _ (s : Statement) where
  -- an access that is no sum, or has started
  abbrev pub IsKnown : Option ℕ → List ℕ → ℕ → ℕ → Type 0
  IsKnown innermost bound from j = first_sum s ≤ j → Started s innermost bound from j

  mutual
    unfolding hidden-the_row-LoopCode-0 hidden

    -- it doesn't start again
    known_once : (c : LoopCode) (innermost : Option ℕ) (bound : List ℕ) (from j : ℕ) → StartsInPlace s innermost bound from c
        → IsKnown innermost bound from j → HasNoSum j c
    known_once (Loop' v seeks p body) innermost bound from j starts known =
        known_once_in body (Some v) (v ∷ bound) 0 j starts.2
        (λ low. started_inside s bound v j starts.1 (started_known s innermost bound from j (known low)))
    known_once (Both' p f q g) innermost bound from j starts known =
        (known_once_in f innermost bound from j starts.2 known, known_once_in g innermost bound from j starts.3 known)
    known_once (Add t) innermost bound from j starts known = tt
    known_once (Sum' k p inside q body) innermost bound from j starts known = (
      by (nat_eq k j) refl,
      known_once_in inside innermost bound k j starts.1 at_it,
      known_once_in body innermost bound (suc k) j starts.2 (λ low. started_so s innermost bound (suc k) j
          (started_known s innermost bound k j (at_it low))
          (λ may. let l = started_before s innermost bound k j (at_it low) may in omega (arith, l))),
    )
      where
        at_it : IsKnown innermost bound k j
        at_it low = started_so s innermost bound k j (started_known s innermost bound from j (known low))
            (λ may. let l = started_before s innermost bound from j (known low) may in let m = starts.0.next in omega (arith, l, m))

        by : (b : Bool) → nat_eq k j ≡ b → nat_eq k j ≡ false
        by false is = is
        by true is =
            let same = same_by k j is in
            let high : first_sum s ≤ j = let a = starts.0.access in omega (arith, a, same) in
            let l = started_before s innermost bound from j (known high)
            (subst (MayStart s innermost bound) same starts.0.starts) in
            let m = starts.0.next in absurd (omega (arith, l, m, same))

    known_once_in : {m : _} (row : Row_of-LoopCode m) (innermost : Option ℕ) (bound : List ℕ) (from j : ℕ)
        → StartsInPlace_in s innermost bound from row → IsKnown innermost bound from j → HasNoSum_in j row
    known_once_in end_of-LoopCode innermost bound from j starts known = tt
    known_once_in (more_of-LoopCode c rest) innermost bound from j starts known = known_once c innermost bound from j starts known

  mutual
    -- no sum starts again inside itself
    all_once : (c : LoopCode) (innermost : Option ℕ) (bound : List ℕ) (from : ℕ) → StartsInPlace s innermost bound from c → AreOnce c
    all_once (Loop' v seeks p body) innermost bound from starts = all_once_in body (Some v) (v ∷ bound) 0 starts.2
    all_once (Both' p f q g) innermost bound from starts =
        (all_once_in f innermost bound from starts.2, all_once_in g innermost bound from starts.3)
    all_once (Add t) innermost bound from starts = tt
    all_once (Sum' k p inside q body) innermost bound from starts = (
      known_once_in body innermost bound (suc k) k starts.2
          (λ low. started_so s innermost bound (suc k) k starts.0.starts.known (λ may. omega arith)),
      all_once_in inside innermost bound k starts.1,
      all_once_in body innermost bound (suc k) starts.2,
    )

    all_once_in : {m : _} (row : Row_of-LoopCode m) (innermost : Option ℕ) (bound : List ℕ) (from : ℕ)
        → StartsInPlace_in s innermost bound from row → AreOnce_in row
    all_once_in end_of-LoopCode innermost bound from starts = tt
    all_once_in (more_of-LoopCode c rest) innermost bound from starts = all_once c innermost bound from starts

-- ---- what remains of loops is what does of their terms, where some sums have started, which are those of the place as far as they are
-- read
module _ (s : Statement) (vars : ℕ) (are : AreSums vars (first_sum s) s.sums) (outer : ℕ → Bool) (c : LoopCode) (innermost : Option ℕ)
    (bound : List ℕ) (from : ℕ) (starts : StartsInPlace s innermost bound from c)
    (covers : (j : ℕ) → reads_any s (concrete_of c) j ≡ true → first_sum s ≤ j → outer j ≡ true → Started s innermost bound from j)
    (covered : (j : ℕ) → reads_any s (concrete_of c) j ≡ true → first_sum s ≤ j → Started s innermost bound from j → outer j ≡ true) where
  abbrev terms_here : List Nest
  terms_here = opened_group s outer (nests_of c)

  pub terms_are : nests_of (opened c) ≡ terms_here
  terms_are =
      (opened_are s vars are outer c innermost bound from (λ k. AccessOf k) starts covers
      (λ j read f. sym (counts_itself s outer (length s.sums) j
      (λ m l is. let low : first_sum s ≤ j = omega (arith, is) in covered j read low (f low))))).0

  pub remains_here : (P : ℕ → Bool) → remains_below P c ≡ some_term (remains P) terms_here
  remains_here P =
      sym (opened_remains P c) ∙ remains_terms P (opened c) (none_opened c (λ k. AccessOf k)) ∙ ap (some_term (remains P)) terms_are

  pub full_here : (F P : ℕ → Bool) → is_full_below F P c ≡ some_term (is_full F P) terms_here
  full_here F P =
      sym (opened_full F P c) ∙ full_terms F P (opened c) (none_opened c (λ k. AccessOf k)) ∙ ap (some_term (is_full F P)) terms_are

  pub live_here : (P : ℕ → Bool) (j : ℕ) → (first_sum s ≤ j → Started s innermost bound from j)
      → is_live_below P c j ≡ some_term (λ e. is_live P e j) terms_here
  live_here P j known =
      sym (opened_live P j c (known_once s c innermost bound from j starts known) (all_once s c innermost bound from starts))
      ∙ live_terms P (opened c) (none_opened c (λ k. AccessOf k)) j ∙ ap (some_term (λ e. is_live P e j)) terms_are
