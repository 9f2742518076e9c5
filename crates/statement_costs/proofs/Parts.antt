-- Which parts of terms remain where fewer accesses are present: no more do, and just as many where those that are missing stand in no
-- part.
use Rattle.std.specs.Prelude.{◌≡◌, ℕ, nat_eq, Bool, true, false, ◌||◌, ◌&&◌, List, [], ◌∷◌, ◌++◌, map, refl}
use Rattle.std.proofs.Common.{◌∙◌, sym, ap, arith}
use Rattle.std.proofs.lemmas.Bool.Decides.{nat_tests}
use Rattle.index_notation.specs.declared.operator.Operator.{Operator}
use Rattle.index_notation.specs.declared.operator.Operator.TheVariants as op
use Rattle.index_notation.specs.declared.syntax.Expr.{Expr, Num, Access as AccessOf, Binary', Neg', Row_of-Expr, end_of-Expr, more_of-Expr}
use Rattle.index_notation.specs.Operators.{is_there}
use Rattle.concrete_notation.specs.Nests.{Nest, inside}
use Rattle.loop_code.specs.Parts.{remains, remains_in, is_live, is_live_in, is_full, is_full_in}
use Rattle.lowering.specs.Seeking.{has_access, has_access_in}
use Rattle.statement_costs.specs.Costs.{some_term}

pub or_left : (a b : Bool) → a ≡ true → (a || b) ≡ true
or_left true b h = refl
or_left false b h = absurd (cc h)

pub or_right : (a b : Bool) → b ≡ true → (a || b) ≡ true
or_right true b h = refl
or_right false b h = h

pub or_more : (a b c d : Bool) → (a ≡ true → c ≡ true) → (b ≡ true → d ≡ true) → (a || b) ≡ true → (c || d) ≡ true
or_more true b c d f g h = or_left c d (f refl)
or_more false b c d f g h = or_right c d (g h)

pub and_more : (a b c d : Bool) → (a ≡ true → c ≡ true) → (b ≡ true → d ≡ true) → (a && b) ≡ true → (c && d) ≡ true
and_more true b c d f g h = ap (λ x. x && d) (f refl) ∙ g h
and_more false b c d f g h = absurd (cc h)

-- where more is so of the sides, more is of the whole
there_more : (o : Operator) (a b c d : Bool) → (a ≡ true → c ≡ true) → (b ≡ true → d ≡ true) → is_there o a b ≡ true
    → is_there o c d ≡ true
there_more op.Add a b c d f g h = or_more a b c d f g h
there_more op.Sub a b c d f g h = or_more a b c d f g h
there_more op.Mul a b c d f g h = and_more a b c d f g h

pub and_first : (a b : Bool) → (a && b) ≡ true → a ≡ true
and_first true b h = refl
and_first false b h = absurd (cc h)

pub and_second : (a b : Bool) → (a && b) ≡ true → b ≡ true
and_second true b h = h
and_second false b h = absurd (cc h)

-- two tests that hold of the same are one
pub same_if : (a b : Bool) → (a ≡ true → b ≡ true) → (b ≡ true → a ≡ true) → a ≡ b
same_if true b f g = sym (f refl)
same_if false true f g = g refl
same_if false false f g = refl

self : (k : ℕ) → nat_eq k k ≡ true
self k = grind (arith, nat_tests)

same_number : (k j : ℕ) → nat_eq k j ≡ true → k ≡ j
same_number k j h = grind (arith, nat_tests, h)

either : (a b c : Bool) → (a ≡ true → c ≡ true) → (b ≡ true → c ≡ true) → (a || b) ≡ true → c ≡ true
either true b c f g h = f refl
either false b c f g h = g h

never : {A : Type 0} → false ≡ true → A
never h = absurd (cc h)

-- where each access that stands there and is present by the first is by the second
module _ (Q P : ℕ → Bool) where
  abbrev IsLess : Expr → Type 0
  IsLess e = (k : ℕ) → has_access e k ≡ true → Q k ≡ true → P k ≡ true

  abbrev IsLess_in : {m : _} → Row_of-Expr m → Type 0
  IsLess_in row = (k : ℕ) → has_access_in row k ≡ true → Q k ≡ true → P k ≡ true

  left_less : {m n : _} (e : Row_of-Expr m) (f : Row_of-Expr n)
      → ((k : ℕ) → (has_access_in e k || has_access_in f k) ≡ true → Q k ≡ true → P k ≡ true) → IsLess_in e
  left_less e f c k is = c k (or_left (has_access_in e k) (has_access_in f k) is)

  right_less : {m n : _} (e : Row_of-Expr m) (f : Row_of-Expr n)
      → ((k : ℕ) → (has_access_in e k || has_access_in f k) ≡ true → Q k ≡ true → P k ≡ true) → IsLess_in f
  right_less e f c k is = c k (or_right (has_access_in e k) (has_access_in f k) is)

  mutual
    pub less_remains : (e : Expr) → IsLess e → remains Q e ≡ true → remains P e ≡ true
    less_remains (Num n) c h = refl
    less_remains (AccessOf k) c h = c k (self k) h
    less_remains (Binary' o p e q f) c h =
        there_more o (remains_in Q e) (remains_in Q f) (remains_in P e) (remains_in P f) (less_remains_in e (left_less e f c))
        (less_remains_in f (right_less e f c)) h
    less_remains (Neg' p e) c h = less_remains_in e c h

    less_remains_in : {m : _} (row : Row_of-Expr m) → IsLess_in row → remains_in Q row ≡ true → remains_in P row ≡ true
    less_remains_in end_of-Expr c h = h
    less_remains_in (more_of-Expr e rest) c h = less_remains e c h

  mutual
    pub less_live : (j : ℕ) (e : Expr) → IsLess e → is_live Q e j ≡ true → is_live P e j ≡ true
    less_live j (Num n) c h = h
    less_live j (AccessOf k) c h = and_more (nat_eq k j) (Q k) (nat_eq k j) (P k) (λ is. is) (c k (self k)) h
    less_live j (Binary' o p e q f) c h =
        and_more (is_there o (remains_in Q e) (remains_in Q f)) (is_live_in Q e j || is_live_in Q f j)
        (is_there o (remains_in P e) (remains_in P f)) (is_live_in P e j || is_live_in P f j)
        (there_more o (remains_in Q e) (remains_in Q f) (remains_in P e) (remains_in P f) (less_remains_in e (left_less e f c))
        (less_remains_in f (right_less e f c)))
        (or_more (is_live_in Q e j) (is_live_in Q f j) (is_live_in P e j) (is_live_in P f j) (less_live_in j e (left_less e f c))
        (less_live_in j f (right_less e f c))) h
    less_live j (Neg' p e) c h = less_live_in j e c h

    less_live_in : {m : _} (j : ℕ) (row : Row_of-Expr m) → IsLess_in row → is_live_in Q row j ≡ true → is_live_in P row j ≡ true
    less_live_in j end_of-Expr c h = h
    less_live_in j (more_of-Expr e rest) c h = less_live j e c h

  mutual
    pub less_full : (F : ℕ → Bool) (e : Expr) → IsLess e → is_full F Q e ≡ true → is_full F P e ≡ true
    less_full F (Num n) c h = refl
    less_full F (AccessOf k) c h = and_more (F k) (Q k) (F k) (P k) (λ is. is) (c k (self k)) h
    less_full F (Binary' o p e q f) c h =
        there_more o (is_full_in F Q e) (is_full_in F Q f) (is_full_in F P e) (is_full_in F P f) (less_full_in F e (left_less e f c))
        (less_full_in F f (right_less e f c)) h
    less_full F (Neg' p e) c h = less_full_in F e c h

    less_full_in : {m : _} (F : ℕ → Bool) (row : Row_of-Expr m) → IsLess_in row → is_full_in F Q row ≡ true
        → is_full_in F P row ≡ true
    less_full_in F end_of-Expr c h = h
    less_full_in F (more_of-Expr e rest) c h = less_full F e c h

mutual
  -- a part that is full remains
  pub full_remains : (F P : ℕ → Bool) (e : Expr) → is_full F P e ≡ true → remains P e ≡ true
  full_remains F P (Num n) h = refl
  full_remains F P (AccessOf k) h = and_second (F k) (P k) h
  full_remains F P (Binary' o p e q f) h =
      there_more o (is_full_in F P e) (is_full_in F P f) (remains_in P e) (remains_in P f) (full_remains_in F P e) (full_remains_in F P f) h
  full_remains F P (Neg' p e) h = full_remains_in F P e h

  full_remains_in : {m : _} (F P : ℕ → Bool) (row : Row_of-Expr m) → is_full_in F P row ≡ true → remains_in P row ≡ true
  full_remains_in F P end_of-Expr h = h
  full_remains_in F P (more_of-Expr e rest) h = full_remains F P e h

mutual
  -- what is full counts at the accesses that stand there
  pub other_full : (F G P : ℕ → Bool) (e : Expr) → ((k : ℕ) → has_access e k ≡ true → F k ≡ true → G k ≡ true)
      → is_full F P e ≡ true → is_full G P e ≡ true
  other_full F G P (Num n) c h = refl
  other_full F G P (AccessOf k) c h = and_more (F k) (P k) (G k) (P k) (c k (self k)) (λ is. is) h
  other_full F G P (Binary' o p e q f) c h =
      there_more o (is_full_in F P e) (is_full_in F P f) (is_full_in G P e) (is_full_in G P f)
      (other_full_in F G P e (λ k is. c k (or_left (has_access_in e k) (has_access_in f k) is)))
      (other_full_in F G P f (λ k is. c k (or_right (has_access_in e k) (has_access_in f k) is))) h
  other_full F G P (Neg' p e) c h = other_full_in F G P e c h

  other_full_in : {m : _} (F G P : ℕ → Bool) (row : Row_of-Expr m) → ((k : ℕ) → has_access_in row k ≡ true → F k ≡ true → G k ≡ true)
      → is_full_in F P row ≡ true → is_full_in G P row ≡ true
  other_full_in F G P end_of-Expr c h = h
  other_full_in F G P (more_of-Expr e rest) c h = other_full F G P e c h

mutual
  -- an access in a part that remains stands there
  pub live_stands : (P : ℕ → Bool) (e : Expr) (j : ℕ) → is_live P e j ≡ true → has_access e j ≡ true
  live_stands P (Num n) j h = h
  live_stands P (AccessOf k) j h = and_first (nat_eq k j) (P k) h
  live_stands P (Binary' o p e q f) j h =
      or_more (is_live_in P e j) (is_live_in P f j) (has_access_in e j) (has_access_in f j) (live_stands_in P e j) (live_stands_in P f j)
      (and_second (is_there o (remains_in P e) (remains_in P f)) (is_live_in P e j || is_live_in P f j) h)
  live_stands P (Neg' p e) j h = live_stands_in P e j h

  live_stands_in : {m : _} (P : ℕ → Bool) (row : Row_of-Expr m) (j : ℕ) → is_live_in P row j ≡ true → has_access_in row j ≡ true
  live_stands_in P end_of-Expr j h = h
  live_stands_in P (more_of-Expr e rest) j h = live_stands P e j h

mutual
  -- and is present
  pub live_present : (P : ℕ → Bool) (e : Expr) (j : ℕ) → is_live P e j ≡ true → P j ≡ true
  live_present P (Num n) j h = never h
  live_present P (AccessOf k) j h = ap P (sym (same_number k j (and_first (nat_eq k j) (P k) h))) ∙ and_second (nat_eq k j) (P k) h
  live_present P (Binary' o p e q f) j h =
      either (is_live_in P e j) (is_live_in P f j) (P j) (live_present_in P e j) (live_present_in P f j)
      (and_second (is_there o (remains_in P e) (remains_in P f)) (is_live_in P e j || is_live_in P f j) h)
  live_present P (Neg' p e) j h = live_present_in P e j h

  live_present_in : {m : _} (P : ℕ → Bool) (row : Row_of-Expr m) (j : ℕ) → is_live_in P row j ≡ true → P j ≡ true
  live_present_in P end_of-Expr j h = never h
  live_present_in P (more_of-Expr e rest) j h = live_present P e j h

-- where each access that stands in a part by the first is present by the second
module _ (P Q : ℕ → Bool) where
  abbrev HasLive : Expr → Type 0
  HasLive e = (k : ℕ) → is_live P e k ≡ true → Q k ≡ true

  abbrev HasLive_in : {m : _} → Row_of-Expr m → Type 0
  HasLive_in row = (k : ℕ) → is_live_in P row k ≡ true → Q k ≡ true

  left_live : {m n : _} (e : Row_of-Expr m) (f : Row_of-Expr n) → ((k : ℕ) → (is_live_in P e k || is_live_in P f k) ≡ true → Q k ≡ true)
      → HasLive_in e
  left_live e f c k is = c k (or_left (is_live_in P e k) (is_live_in P f k) is)

  right_live : {m n : _} (e : Row_of-Expr m) (f : Row_of-Expr n) → ((k : ℕ) → (is_live_in P e k || is_live_in P f k) ≡ true → Q k ≡ true)
      → HasLive_in f
  right_live e f c k is = c k (or_right (is_live_in P e k) (is_live_in P f k) is)

  -- where the whole remains, what is so of its accesses is so of both sides'
  both_live : {m n : _} (o : Operator) (e : Row_of-Expr m) (f : Row_of-Expr n) → is_there o (remains_in P e) (remains_in P f) ≡ true
      → ((k : ℕ) → (is_there o (remains_in P e) (remains_in P f) && (is_live_in P e k || is_live_in P f k)) ≡ true → Q k ≡ true)
      → (k : ℕ) → (is_live_in P e k || is_live_in P f k) ≡ true → Q k ≡ true
  both_live o e f is c k h = c k (ap (λ b. b && (is_live_in P e k || is_live_in P f k)) is ∙ h)

  mutual
    pub more_remains : (e : Expr) → HasLive e → remains P e ≡ true → remains Q e ≡ true
    more_remains (Num n) c h = refl
    more_remains (AccessOf k) c h = c k (ap (λ b. b && P k) (self k) ∙ h)
    more_remains (Binary' o p e q f) c h =
        there_more o (remains_in P e) (remains_in P f) (remains_in Q e) (remains_in Q f)
        (more_remains_in e (left_live e f (both_live o e f h c)))
        (more_remains_in f (right_live e f (both_live o e f h c))) h
    more_remains (Neg' p e) c h = more_remains_in e c h

    more_remains_in : {m : _} (row : Row_of-Expr m) → HasLive_in row → remains_in P row ≡ true → remains_in Q row ≡ true
    more_remains_in end_of-Expr c h = h
    more_remains_in (more_of-Expr e rest) c h = more_remains e c h

  mutual
    pub more_live : (j : ℕ) (e : Expr) → HasLive e → is_live P e j ≡ true → is_live Q e j ≡ true
    more_live j (Num n) c h = h
    more_live j (AccessOf k) c h =
        and_more (nat_eq k j) (P k) (nat_eq k j) (Q k) (λ is. is) (λ is. c k (ap (λ b. b && P k) (self k) ∙ is)) h
    more_live j (Binary' o p e q f) c h =
        let is = and_first (is_there o (remains_in P e) (remains_in P f)) (is_live_in P e j || is_live_in P f j) h in
        and_more (is_there o (remains_in P e) (remains_in P f)) (is_live_in P e j || is_live_in P f j)
        (is_there o (remains_in Q e) (remains_in Q f)) (is_live_in Q e j || is_live_in Q f j)
        (there_more o (remains_in P e) (remains_in P f) (remains_in Q e) (remains_in Q f)
        (more_remains_in e (left_live e f (both_live o e f is c)))
        (more_remains_in f (right_live e f (both_live o e f is c))))
        (or_more (is_live_in P e j) (is_live_in P f j) (is_live_in Q e j) (is_live_in Q f j)
        (more_live_in j e (left_live e f (both_live o e f is c)))
        (more_live_in j f (right_live e f (both_live o e f is c)))) h
    more_live j (Neg' p e) c h = more_live_in j e c h

    more_live_in : {m : _} (j : ℕ) (row : Row_of-Expr m) → HasLive_in row → is_live_in P row j ≡ true → is_live_in Q row j ≡ true
    more_live_in j end_of-Expr c h = h
    more_live_in j (more_of-Expr e rest) c h = more_live j e c h

  mutual
    pub more_full : (F : ℕ → Bool) (e : Expr) → HasLive e → is_full F P e ≡ true → is_full F Q e ≡ true
    more_full F (Num n) c h = refl
    more_full F (AccessOf k) c h =
        and_more (F k) (P k) (F k) (Q k) (λ is. is) (λ is. c k (ap (λ b. b && P k) (self k) ∙ is)) h
    more_full F (Binary' o p e q f) c h =
        let is = there_more o (is_full_in F P e) (is_full_in F P f) (remains_in P e) (remains_in P f) (full_remains_in F P e)
        (full_remains_in F P f) h in
        there_more o (is_full_in F P e) (is_full_in F P f) (is_full_in F Q e) (is_full_in F Q f)
        (more_full_in F e (left_live e f (both_live o e f is c)))
        (more_full_in F f (right_live e f (both_live o e f is c))) h
    more_full F (Neg' p e) c h = more_full_in F e c h

    more_full_in : {m : _} (F : ℕ → Bool) (row : Row_of-Expr m) → HasLive_in row → is_full_in F P row ≡ true → is_full_in F Q row ≡ true
    more_full_in F end_of-Expr c h = h
    more_full_in F (more_of-Expr e rest) c h = more_full F e c h

-- some term of a list
pub some_more : (f g : Expr → Bool) (nests : List Nest) → ((e : Expr) → f e ≡ true → g e ≡ true) → some_term f nests ≡ true
    → some_term g nests ≡ true
some_more f g [] c h = h
some_more f g (n ∷ nests) c h =
    or_more (f n.term.expr) (some_term f nests) (g n.term.expr) (some_term g nests) (c n.term.expr) (some_more f g nests c) h

-- whether the access stands in some term
abbrev pub some_uses : List Nest → ℕ → Bool
some_uses nests k = some_term (λ e. has_access e k) nests

-- by what is so of each access that stands in some of them
pub some_under : (R : ℕ → Type 0) (f g : Expr → Bool)
    → ((e : Expr) → ((k : ℕ) → has_access e k ≡ true → R k) → f e ≡ true → g e ≡ true) → (nests : List Nest)
    → ((k : ℕ) → some_uses nests k ≡ true → R k) → some_term f nests ≡ true → some_term g nests ≡ true
some_under R f g more [] c h = h
some_under R f g more (n ∷ nests) c h =
    or_more (f n.term.expr) (some_term f nests) (g n.term.expr) (some_term g nests)
    (more n.term.expr (λ k is. c k (or_left (has_access n.term.expr k) (some_uses nests k) is)))
    (some_under R f g more nests (λ k is. c k (or_right (has_access n.term.expr k) (some_uses nests k) is))) h

pub some_inside : (f : Expr → Bool) (v : ℕ) (nests : List Nest) → some_term f (map (inside v) nests) ≡ some_term f nests
some_inside f v [] = refl
some_inside f v (n ∷ nests) = ap (λ b. f n.term.expr || b) (some_inside f v nests)

pub some_both : (f : Expr → Bool) (xs ys : List Nest) → some_term f (xs ++ ys) ≡ (some_term f xs || some_term f ys)
some_both f [] ys = refl
some_both f (x ∷ xs) ys = ap (λ b. f x.term.expr || b) (some_both f xs ys) ∙ by (f x.term.expr)
  where
    by : (b : Bool) → (b || (some_term f xs || some_term f ys)) ≡ ((b || some_term f xs) || some_term f ys)
    by true = refl
    by false = refl

-- each access that stands in a part of some of these terms by the first is present by the second
module _ (P Q : ℕ → Bool) where
  abbrev pub AreLive : List Nest → Type 0
  AreLive nests = (k : ℕ) → some_term (λ e. is_live P e k) nests ≡ true → Q k ≡ true

  pub some_live : (f g : Expr → Bool) → ((e : Expr) → ((k : ℕ) → is_live P e k ≡ true → Q k ≡ true) → f e ≡ true → g e ≡ true)
      → (nests : List Nest) → AreLive nests → some_term f nests ≡ true → some_term g nests ≡ true
  some_live f g more [] c h = h
  some_live f g more (n ∷ nests) c h =
      or_more (f n.term.expr) (some_term f nests) (g n.term.expr) (some_term g nests)
      (more n.term.expr (λ k is. c k (or_left (is_live P n.term.expr k) (some_term (λ e. is_live P e k) nests) is)))
      (some_live f g more nests (λ k is. c k (or_right (is_live P n.term.expr k) (some_term (λ e. is_live P e k) nests) is))) h

  abbrev pub AreLess : List Nest → Type 0
  AreLess nests = (k : ℕ) → some_uses nests k ≡ true → Q k ≡ true → P k ≡ true

  pub some_less : (f g : Expr → Bool) → ((e : Expr) → ((k : ℕ) → has_access e k ≡ true → Q k ≡ true → P k ≡ true)
      → f e ≡ true → g e ≡ true) → (nests : List Nest) → AreLess nests → some_term f nests ≡ true → some_term g nests ≡ true
  some_less f g more nests less = some_under (λ k. Q k ≡ true → P k ≡ true) f g more nests less

  -- accesses that stand in no part may be left out
  module _ (nests : List Nest) (less : AreLess nests) (live : AreLive nests) where
    pub remains_same : some_term (remains Q) nests ≡ some_term (remains P) nests
    remains_same = same_if (some_term (remains Q) nests) (some_term (remains P) nests)
        (some_less (remains Q) (remains P) (less_remains Q P) nests less) (some_live (remains P) (remains Q) (more_remains P Q) nests live)

    pub live_same : (j : ℕ) → some_term (λ e. is_live Q e j) nests ≡ some_term (λ e. is_live P e j) nests
    live_same j = same_if (some_term (λ e. is_live Q e j) nests) (some_term (λ e. is_live P e j) nests)
        (some_less (λ e. is_live Q e j) (λ e. is_live P e j) (less_live Q P j) nests less)
        (some_live (λ e. is_live P e j) (λ e. is_live Q e j) (more_live P Q j) nests live)

    pub full_same : (F : ℕ → Bool) → some_term (is_full F Q) nests ≡ some_term (is_full F P) nests
    full_same F = same_if (some_term (is_full F Q) nests) (some_term (is_full F P) nests)
        (some_less (is_full F Q) (is_full F P) (less_full Q P F) nests less)
        (some_live (is_full F P) (is_full F Q) (more_full P Q F) nests live)

-- accesses that are there by both tests
module _ (P Q : ℕ → Bool) (nests : List Nest) (same : (k : ℕ) → some_uses nests k ≡ true → P k ≡ Q k) where
  pub alike_remains : some_term (remains P) nests ≡ some_term (remains Q) nests
  alike_remains = same_if (some_term (remains P) nests) (some_term (remains Q) nests)
      (some_less Q P (remains P) (remains Q) (less_remains P Q) nests (λ k is h. sym (same k is) ∙ h))
      (some_less P Q (remains Q) (remains P) (less_remains Q P) nests (λ k is h. same k is ∙ h))

  pub alike_live : (j : ℕ) → some_term (λ e. is_live P e j) nests ≡ some_term (λ e. is_live Q e j) nests
  alike_live j = same_if (some_term (λ e. is_live P e j) nests) (some_term (λ e. is_live Q e j) nests)
      (some_less Q P (λ e. is_live P e j) (λ e. is_live Q e j) (less_live P Q j) nests (λ k is h. sym (same k is) ∙ h))
      (some_less P Q (λ e. is_live Q e j) (λ e. is_live P e j) (less_live Q P j) nests (λ k is h. same k is ∙ h))

  pub alike_full : (F : ℕ → Bool) → some_term (is_full F P) nests ≡ some_term (is_full F Q) nests
  alike_full F = same_if (some_term (is_full F P) nests) (some_term (is_full F Q) nests)
      (some_less Q P (is_full F P) (is_full F Q) (less_full P Q F) nests (λ k is h. sym (same k is) ∙ h))
      (some_less P Q (is_full F Q) (is_full F P) (less_full Q P F) nests (λ k is h. same k is ∙ h))

pub some_present : (P : ℕ → Bool) (k : ℕ) (nests : List Nest) → some_term (λ e. is_live P e k) nests ≡ true → P k ≡ true
some_present P k [] h = never h
some_present P k (n ∷ nests) h =
    either (is_live P n.term.expr k) (some_term (λ e. is_live P e k) nests) (P k) (live_present P n.term.expr k)
    (some_present P k nests) h

pub full_other : (F G P : ℕ → Bool) (nests : List Nest) → ((k : ℕ) → some_uses nests k ≡ true → F k ≡ G k)
    → some_term (is_full F P) nests ≡ some_term (is_full G P) nests
full_other F G P nests c =
    same_if (some_term (is_full F P) nests) (some_term (is_full G P) nests)
    (each F G nests (λ k is. λ f. sym (c k is) ∙ f))
    (each G F nests (λ k is. λ f. c k is ∙ f))
  where
    each : (F G : ℕ → Bool) (nests : List Nest) → ((k : ℕ) → some_uses nests k ≡ true → F k ≡ true → G k ≡ true)
        → some_term (is_full F P) nests ≡ true → some_term (is_full G P) nests ≡ true
    each F G [] c h = h
    each F G (n ∷ nests) c h =
        or_more (is_full F P n.term.expr) (some_term (is_full F P) nests) (is_full G P n.term.expr) (some_term (is_full G P) nests)
        (other_full F G P n.term.expr (λ k is. c k (or_left (has_access n.term.expr k) (some_uses nests k) is)))
        (each F G nests (λ k is. c k (or_right (has_access n.term.expr k) (some_uses nests k) is))) h

pub some_stands : (P : ℕ → Bool) (nests : List Nest) (k : ℕ) → some_term (λ e. is_live P e k) nests ≡ true → some_uses nests k ≡ true
some_stands P nests k = some_more (λ e. is_live P e k) (λ e. has_access e k) nests (λ e. live_stands P e k)
