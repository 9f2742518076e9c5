-- Merged loops make no more turns than their cost, and step over no more coordinates than are repeated.
use Rattle.std.specs.Prelude.{◌≡◌, ◌≢◌, ℕ, zero, suc, ◌+◌, ◌≤◌, ◌==◌, ◌||◌, ◌&&◌, not, Bool, true, false, if◌then◌else◌, List, [], ◌∷◌}
use Rattle.std.specs.Prelude.{length, Option, Some, refl}
use Rattle.std.proofs.Common.{ap, arith, inl, inr}
use Rattle.std.proofs.lemmas.Bool.Decides.{nat_tests, eqb_tells}
use Rattle.level_core.specs.declared.span.Span.{Span}
use Rattle.level_core.specs.declared.span.Entry.{Entry as LevelEntry}
use Rattle.tensor_storage.specs.Children.{child_of}
use Rattle.loop_code.specs.Loops.{Layout, Stored, Env, Seek, LoopCode, Add, Both', Loop', Sum', Row_of-LoopCode, end_of-LoopCode}
use Rattle.loop_code.specs.Loops.{more_of-LoopCode, moved}
use Rattle.loop_code.specs.Parts.{here, given, is_some, entries_at, remains_below_in, is_live_below_in, some_has}
use Rattle.loop_code.specs.Turns.{count_below, weight_of, weight_at, repeats, lengths, repeated, repeated_at, is_full_at, turns_at}
use Rattle.loop_code.specs.Turns.{if_remains, length_at, pruned_in, cost, cost_in, merge_turns, merge_turns_in, dups, dups_in, skip_turns}
use Rattle.loop_code.specs.Turns.{skip_turns_in, summed, if_live}

pub count_plus : (n : ℕ) (f g : ℕ → ℕ) → count_below n (λ i. f i + g i) ≡ count_below n f + count_below n g
count_plus zero f g = refl
count_plus (suc n) f g = let more = count_plus n f g in omega (arith, more)

pub count_most : (n : ℕ) (f g : ℕ → ℕ) → ((x : ℕ) → f x ≤ g x) → count_below n f ≤ count_below n g
count_most zero f g h = omega arith
count_most (suc n) f g h = let more = count_most n f g h in omega (arith, more, h n)

pub count_none : (n : ℕ) → count_below n (λ x. 0) ≡ 0
count_none zero = refl
count_none (suc n) = let more = count_none n in omega (arith, more)

abbrev one_if : Bool → ℕ
one_if true = 1
one_if false = 0

or_count : (a b : Bool) → one_if (a || b) ≤ one_if a + one_if b
or_count true b = omega arith
or_count false b = omega arith

same_test : (a b : ℕ) → a ≡ b → (a == b) ≡ true
same_test a b h = grind (arith, nat_tests)

other_test : (a b : ℕ) → a ≢ b → (a == b) ≡ false
other_test a b h = grind (arith, nat_tests)

-- of a sum in which one coordinate counts at most that number is left
count_single : (n x w : ℕ) → count_below n (λ y. if x == y then w else 0) ≤ w
count_single zero x w = omega arith
count_single (suc n) x w = elim (eqb_tells x n) [
  | inl e ↦ (
      let none = before n (omega (arith, e.1)) in
      let this : (if x == n then w else 0) ≡ w = ap (λ b. if b then w else 0) (same_test x n e.1) in
      omega (arith, none, this))
  | inr e ↦ (
      let some = count_single n x w in
      let none : (if x == n then w else 0) ≡ 0 = ap (λ b. if b then w else 0) (other_test x n e.1) in
      omega (arith, some, none))
]
  where
    before : (n : ℕ) → n ≤ x → count_below n (λ y. if x == y then w else 0) ≡ 0
    before zero l = refl
    before (suc n) l =
        let more = before n (omega (arith, l)) in
        let none : (if x == n then w else 0) ≡ 0 = ap (λ b. if b then w else 0) (other_test x n (λ e. omega (arith, e, l))) in
        omega (arith, more, none)

-- over a range the numbers at the coordinates are together at most those of all entries
count_weights : (n : ℕ) (weight : LevelEntry → ℕ) (es : List LevelEntry) → count_below n (λ x. weight_at weight es x) ≤ weight_of weight es
count_weights n weight [] = let none = count_none n in omega (arith, none)
count_weights n weight (e ∷ es) =
    let more = count_weights n weight es in
    let this = count_single n e.coord (weight e) in
    let both = count_most n (λ x. if e.coord == x then weight e else weight_at weight es x)
    (λ x. (if e.coord == x then weight e else 0) + weight_at weight es x) (λ x. by_test (e.coord == x) (weight_at weight es x)) in
    let sum = count_plus n (λ x. if e.coord == x then weight e else 0) (λ x. weight_at weight es x) in
    omega (arith, more, this, both, sum)
  where
    by_test : (b : Bool) (m : ℕ) → (if b then weight e else m) ≤ (if b then weight e else 0) + m
    by_test true m = omega arith
    by_test false m = omega arith

-- a list has at most as many coordinates as entries
count_entries : (n : ℕ) (es : List LevelEntry) → count_below n (λ x. one_if (is_some (child_of es x))) ≤ length es
count_entries n [] = let none = count_none n in omega (arith, none)
count_entries n (e ∷ es) =
    let more = count_entries n es in
    let this = count_single n e.coord 1 in
    let both = count_most n (λ x. one_if (is_some (if e.coord == x then Some e.child else child_of es x)))
    (λ x. (if e.coord == x then 1 else 0) + one_if (is_some (child_of es x))) (λ x. by_test (e.coord == x) (child_of es x)) in
    let sum = count_plus n (λ x. if e.coord == x then 1 else 0) (λ x. one_if (is_some (child_of es x))) in
    omega (arith, more, this, both, sum)
  where
    by_test : (b : Bool) (o : Option Span) → one_if (is_some (if b then Some e.child else o)) ≤ (if b then 1 else 0) + one_if (is_some o)
    by_test true o = omega arith
    by_test false o = omega arith

module _ (layout : Layout) (stored : Stored) (ranges : ℕ → ℕ) where
  count_has : (n : ℕ) (env : Env) (seeks : List Seek) → count_below n (λ x. one_if (some_has stored env seeks x)) ≤ lengths stored env seeks
  count_has n env [] = let none = count_none n in omega (arith, none)
  count_has n env (s ∷ seeks) =
      let more = count_has n env seeks in
      let this = one n s.full (entries_at stored env s) in
      let both = count_most n (λ x. one_if (some_has stored env (s ∷ seeks) x))
      (λ x. one_if (not s.full && is_some (child_of (entries_at stored env s) x)) + one_if (some_has stored env seeks x))
      (λ x. or_count (not s.full && is_some (child_of (entries_at stored env s) x)) (some_has stored env seeks x)) in
      let sum = count_plus n (λ x. one_if (not s.full && is_some (child_of (entries_at stored env s) x)))
      (λ x. one_if (some_has stored env seeks x)) in
      omega (arith, more, this, both, sum)
    where
      one : (n : ℕ) (b : Bool) (es : List LevelEntry) → count_below n (λ x. one_if (not b && is_some (child_of es x))) ≤
          (if b then 0 else length es)
      one n true es = let none = count_none n in omega (arith, none)
      one n false es = count_entries n es

  count_repeated : (n : ℕ) (env : Env) (seeks : List Seek)
      → count_below n (λ x. repeated_at layout stored env seeks x) ≤ repeated layout stored env seeks
  count_repeated n env [] = let none = count_none n in omega (arith, none)
  count_repeated n env (s ∷ seeks) =
      let more = count_repeated n env seeks in
      let this = one s.full (entries_at stored env s) in
      let sum = count_plus n (λ x. if s.full then 0 else weight_at (repeats layout s) (entries_at stored env s) x)
      (λ x. repeated_at layout stored env seeks x) in
      omega (arith, more, this, sum)
    where
      one : (b : Bool) (es : List LevelEntry)
          → count_below n (λ x. if b then 0 else weight_at (repeats layout s) es x) ≤ (if b then 0 else weight_of (repeats layout s) es)
      one true es = let none = count_none n in omega (arith, none)
      one false es = count_weights n (repeats layout s) es

  count_all : (n : ℕ) → count_below n (λ x. 1) ≤ n
  count_all zero = omega arith
  count_all (suc n) = let more = count_all n in omega (arith, more)

  -- one entry of a loop makes no more turns than its length
  entry_turns : (n : ℕ) (b : Bool) (env : Env) (seeks : List Seek)
      → count_below n (λ x. one_if (b || some_has stored env seeks x)) ≤ (if b then n else lengths stored env seeks)
  entry_turns n true env seeks = count_all n
  entry_turns n false env seeks = count_has n env seeks

  some_or_none : {m : _} (body : Row_of-LoopCode m) (env : Env) (f g : Env → ℕ) → ((e : Env) → f e ≤ g e)
      → if_remains layout stored ranges body env f ≤ if_remains layout stored ranges body env g
  some_or_none body env f g h = by_test (remains_below_in (here env) body)
    where
      by_test : (b : Bool) → (if b then f (pruned_in layout stored ranges body env) else 0) ≤
          (if b then g (pruned_in layout stored ranges body env) else 0)
      by_test true = h (pruned_in layout stored ranges body env)
      by_test false = omega arith

  live_most : {m n : _} (k : ℕ) (inside : Row_of-LoopCode m) (body : Row_of-LoopCode n) (env : Env) (x y : ℕ) → x ≤ y
      → if_live layout stored ranges k inside body env x ≤ if_live layout stored ranges k inside body env y
  live_most k inside body env x y h = by (is_live_below_in (given (here env) k (remains_below_in (here env) inside)) body k)
    where
      by : (b : Bool) → (if b then x else 0) ≤ (if b then y else 0)
      by true = h
      by false = omega arith

  mutual
    pub turns_within : (loops : LoopCode) (env : Env) → merge_turns layout stored ranges loops env ≤ cost layout stored ranges loops env
    turns_within (Loop' v seeks p body) env = some_or_none body env
        (λ e. count_below (ranges v) (λ x. if turns_at layout stored ranges seeks body e x
        then 1 + merge_turns_in layout stored ranges body (moved layout stored v seeks e x) else 0))
        (λ e. length_at layout stored ranges v seeks body e
        + count_below (ranges v) (λ x. cost_in layout stored ranges body (moved layout stored v seeks e x)))
        (λ e. entered e (λ x. turns_within_in body (moved layout stored v seeks e x)))
      where
        by_test : (b : Bool) (t u : ℕ) → t ≤ u → (if b then 1 + t else 0) ≤ one_if b + u
        by_test true t u l = omega (arith, l)
        by_test false t u l = omega arith

        entered : (e : Env)
            → ((x : ℕ) → merge_turns_in layout stored ranges body (moved layout stored v seeks e x)
            ≤ cost_in layout stored ranges body (moved layout stored v seeks e x))
            → count_below (ranges v) (λ x. if turns_at layout stored ranges seeks body e x
            then 1 + merge_turns_in layout stored ranges body (moved layout stored v seeks e x) else 0)
            ≤ length_at layout stored ranges v seeks body e
            + count_below (ranges v) (λ x. cost_in layout stored ranges body (moved layout stored v seeks e x))
        entered e more =
            let inner : ℕ → ℕ = λ x. cost_in layout stored ranges body (moved layout stored v seeks e x) in
            let turns : ℕ → ℕ = λ x. merge_turns_in layout stored ranges body (moved layout stored v seeks e x) in
            let entry = entry_turns (ranges v) (is_full_at layout stored ranges seeks body e) e seeks in
            let all = count_most (ranges v) (λ x. if turns_at layout stored ranges seeks body e x then 1 + turns x else 0)
            (λ x. one_if (turns_at layout stored ranges seeks body e x) + inner x)
            (λ x. by_test (turns_at layout stored ranges seeks body e x) (turns x) (inner x) (more x)) in
            let sum = count_plus (ranges v) (λ x. one_if (turns_at layout stored ranges seeks body e x)) inner in
            omega (arith, entry, all, sum)
    turns_within (Both' p f q g) env = let a = turns_within_in f env in let b = turns_within_in g env in omega (arith, a, b)
    turns_within (Add t) env = omega arith
    turns_within (Sum' k p inside q body) env =
        let one = live_most k inside body env (merge_turns_in layout stored ranges inside env) (cost_in layout stored ranges inside env)
        (turns_within_in inside env) in
        let two = turns_within_in body (summed layout stored ranges k inside env) in
        omega (arith, one, two)

    pub turns_within_in : {m : _} (row : Row_of-LoopCode m) (env : Env)
        → merge_turns_in layout stored ranges row env ≤ cost_in layout stored ranges row env
    turns_within_in end_of-LoopCode env = omega arith
    turns_within_in (more_of-LoopCode c rest) env = turns_within c env

  mutual
    pub skips_within : (loops : LoopCode) (env : Env) → skip_turns layout stored ranges loops env ≤ dups layout stored ranges loops env
    skips_within (Loop' v seeks p body) env = some_or_none body env
        (λ e. count_below (ranges v) (λ x. if turns_at layout stored ranges seeks body e x
        then repeated_at layout stored e seeks x + skip_turns_in layout stored ranges body (moved layout stored v seeks e x) else 0))
        (λ e. repeated layout stored e seeks
        + count_below (ranges v) (λ x. dups_in layout stored ranges body (moved layout stored v seeks e x)))
        (λ e. entered e (λ x. skips_within_in body (moved layout stored v seeks e x)))
      where
        by_test : (b : Bool) (r t u : ℕ) → t ≤ u → (if b then r + t else 0) ≤ r + u
        by_test true r t u l = omega (arith, l)
        by_test false r t u l = omega arith

        entered : (e : Env)
            → ((x : ℕ) → skip_turns_in layout stored ranges body (moved layout stored v seeks e x)
            ≤ dups_in layout stored ranges body (moved layout stored v seeks e x))
            → count_below (ranges v) (λ x. if turns_at layout stored ranges seeks body e x
            then repeated_at layout stored e seeks x + skip_turns_in layout stored ranges body (moved layout stored v seeks e x) else 0)
            ≤ repeated layout stored e seeks
            + count_below (ranges v) (λ x. dups_in layout stored ranges body (moved layout stored v seeks e x))
        entered e more =
            let inner : ℕ → ℕ = λ x. dups_in layout stored ranges body (moved layout stored v seeks e x) in
            let turns : ℕ → ℕ = λ x. skip_turns_in layout stored ranges body (moved layout stored v seeks e x) in
            let entry = count_repeated (ranges v) e seeks in
            let all = count_most (ranges v)
            (λ x. if turns_at layout stored ranges seeks body e x then repeated_at layout stored e seeks x + turns x else 0)
            (λ x. repeated_at layout stored e seeks x + inner x)
            (λ x. by_test (turns_at layout stored ranges seeks body e x) (repeated_at layout stored e seeks x) (turns x) (inner x)
            (more x)) in
            let sum = count_plus (ranges v) (λ x. repeated_at layout stored e seeks x) inner in
            omega (arith, entry, all, sum)
    skips_within (Both' p f q g) env = let a = skips_within_in f env in let b = skips_within_in g env in omega (arith, a, b)
    skips_within (Add t) env = omega arith
    skips_within (Sum' k p inside q body) env =
        let one = live_most k inside body env (skip_turns_in layout stored ranges inside env) (dups_in layout stored ranges inside env)
        (skips_within_in inside env) in
        let two = skips_within_in body (summed layout stored ranges k inside env) in
        omega (arith, one, two)

    pub skips_within_in : {m : _} (row : Row_of-LoopCode m) (env : Env)
        → skip_turns_in layout stored ranges row env ≤ dups_in layout stored ranges row env
    skips_within_in end_of-LoopCode env = omega arith
    skips_within_in (more_of-LoopCode c rest) env = skips_within c env
