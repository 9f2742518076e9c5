-- Variables that have places, in code and in its parts.
use Rattle.std.specs.Prelude.{◌≡◌, ℕ, suc, ◌+◌, ◌<◌, ◌≤◌, max, List, [], ◌∷◌, length, drop, slice_index_or, refl}
use Rattle.std.proofs.Common.{◌∙◌, ap, sym, subst, arith}
use Rattle.std.proofs.Math.Seq.{drop-cons}
use Rattle.kernel_code.specs.declared.syntax.LoopKind.{LoopKind}
use Rattle.resolved_code.specs.declared.syntax.Value.{Value}
use Rattle.resolved_code.specs.declared.syntax.Value.TheVariants.{Number, Variable, AddNumber, Add, LessNumber, Less, Equal}
use Rattle.resolved_code.specs.declared.syntax.Value.TheVariants.{Least, Word, WordAfter, WordOfWord, LessWord, LessWordAfter}
use Rattle.resolved_code.specs.declared.syntax.Value.TheVariants.{Product, ProductOfWord, Other}
use Rattle.resolved_code.specs.declared.syntax.Resolved.{Resolved, Count, Set, Combine, Put, AddTo, Push, Extend, Cut, Sort, SortSum}
use Rattle.resolved_code.specs.declared.syntax.Resolved.{If, If', While, While', Row_of-Resolved, end_of-Resolved, more_of-Resolved}
use Rattle.resolved_code.specs.declared.syntax.Resolved.{items-the_row-Resolved, items_hidden-the_row-Resolved-0}
use Rattle.resolved_code.specs.declared.syntax.Resolved.TheBlock.{hidden-the_row-Resolved-0}
use Rattle.resolved_code.specs.Fits.{Reads, Fits, Fits_row, FitsAll}
use Rattle.resolved_code.specs.Rooms.{room_of_value, room_of_statement, room_of_row, room_of_code}

first_of : (k m n : ℕ) → max k m ≤ n → k ≤ n
first_of k m n l = omega (arith, l)

second_of : (k m n : ℕ) → max k m ≤ n → m ≤ n
second_of k m n l = omega (arith, l)

below : (x n : ℕ) → x + 1 ≤ n → x < n
below x n l = omega (arith, l)

both_below : (x y n : ℕ) → max (x + 1) (y + 1) ≤ n → (x < n) × (y < n)
both_below x y n l = (below x n (first_of (x + 1) (y + 1) n l), below y n (second_of (x + 1) (y + 1) n l))

reads : (n : ℕ) (v : Value) → room_of_value v ≤ n → Reads n v
reads n (Number k) l = tt
reads n (Variable x) l = below x n l
reads n (AddNumber x k) l = below x n l
reads n (Add x y) l = both_below x y n l
reads n (LessNumber x k) l = below x n l
reads n (Less x y) l = both_below x y n l
reads n (Equal x y) l = both_below x y n l
reads n (Least x y) l = both_below x y n l
reads n (Word a x) l = below x n l
reads n (WordAfter a x k) l = below x n l
reads n (WordOfWord a b x) l = below x n l
reads n (LessWord x a k) l = below x n l
reads n (LessWordAfter x a y k) l = both_below x y n l
reads n (Product a x b y) l = both_below x y n l
reads n (ProductOfWord a x b c y) l = both_below x y n l
reads n (Other e) l = tt

both_read : (n : ℕ) (v w : Value) → max (room_of_value v) (room_of_value w) ≤ n → Reads n v × Reads n w
both_read n v w l = (reads n v (first_of _ _ n l), reads n w (second_of _ _ n l))

mutual
  fits : (n : ℕ) (s : Resolved) → room_of_statement s ≤ n → Fits n s
  fits n (Count x k) l = below x n l
  fits n (Set x v) l = (below x n (first_of (x + 1) _ n l), reads n v (second_of (x + 1) _ n l))
  fits n (Combine x o v w) l =
      let both = both_read n v w (second_of (x + 1) _ n l) in
      (below x n (first_of (x + 1) _ n l), both.0, both.1)
  fits n (Put a i v) l = both_read n i v l
  fits n (AddTo a i v) l = both_read n i v l
  fits n (Push a v) l = reads n v l
  fits n (Extend a count v) l = both_read n count v l
  fits n (Cut a v) l = reads n v l
  fits n (Sort g) l = tt
  fits n (SortSum w) l = tt
  fits n (If' v p first q second) l =
      let bodies = second_of (room_of_value v) _ n l in
      (reads n v (first_of (room_of_value v) _ n l), fits_row n first (first_of _ _ n bodies), fits_row n second (second_of _ _ n bodies))
  fits n (While' k v p body) l = (reads n v (first_of _ _ n l), fits_row n body (second_of _ _ n l))

  fits_row : {m : _} (n : ℕ) (row : Row_of-Resolved m) → room_of_row row ≤ n → Fits_row n row
  fits_row n end_of-Resolved l = tt
  fits_row n (more_of-Resolved s rest) l = (fits n s (first_of _ _ n l), fits_row n rest (second_of _ _ n l))

-- with so many places each variable has one
pub fits_code : (n : ℕ) (code : List Resolved) → room_of_code code ≤ n → FitsAll n code
fits_code n [] l = tt
fits_code n (s ∷ rest) l = (fits n s (first_of _ _ n l), fits_code n rest (second_of _ _ n l))

row_fits : {m : _} (n : ℕ) (row : Row_of-Resolved m) → Fits_row n row → FitsAll n (items-the_row-Resolved m row)
row_fits n end_of-Resolved h = tt
row_fits n (more_of-Resolved s rest) h = (h.0, row_fits n rest h.1)

held_fits : (n : ℕ) (body : List Resolved) → Fits_row n (hidden-the_row-Resolved-0 body) → FitsAll n body
held_fits n body h = subst (FitsAll n) (items_hidden-the_row-Resolved-0 body) (row_fits n (hidden-the_row-Resolved-0 body) h)

pub first_fits : (n : ℕ) (v : Value) (first second : List Resolved) → Fits n (If v first second) → FitsAll n first
first_fits n v first second h = held_fits n first h.1

pub second_fits : (n : ℕ) (v : Value) (first second : List Resolved) → Fits n (If v first second) → FitsAll n second
second_fits n v first second h = held_fits n second h.2

pub body_fits : (n : ℕ) (k : LoopKind) (v : Value) (body : List Resolved) → Fits n (While k v body) → FitsAll n body
body_fits n k v body h = held_fits n body h.1

next : (i : ℕ) → suc i ≡ i + 1
next i = omega arith

-- the statement at a place
pub here_fits : (n : ℕ) (code : List Resolved) (i : ℕ) (s : Resolved) → i < length code → s ≡ slice_index_or code i s
    → FitsAll n (drop i code) → Fits n s
here_fits n code i s l is h = subst (Fits n) (sym is) (subst (FitsAll n) (drop-cons code i s l) h).0

-- what stands behind it
pub rest_fits : (n : ℕ) (code : List Resolved) (i : ℕ) (s : Resolved) → i < length code → FitsAll n (drop i code)
    → FitsAll n (drop (i + 1) code)
rest_fits n code i s l h = subst (λ k. FitsAll n (drop k code)) (next i) (subst (FitsAll n) (drop-cons code i s l) h).1

row_room : {m : _} (row : Row_of-Resolved m) → room_of_row row ≡ room_of_code (items-the_row-Resolved m row)
row_room end_of-Resolved = refl
row_room (more_of-Resolved s rest) = ap (λ n. max (room_of_statement s) n) (row_room rest)

held_room : (body : List Resolved) → room_of_row (hidden-the_row-Resolved-0 body) ≡ room_of_code body
held_room body = row_room (hidden-the_row-Resolved-0 body) ∙ ap room_of_code (items_hidden-the_row-Resolved-0 body)

pub room_of_if : (v : Value) (first second : List Resolved)
    → room_of_statement (If v first second) ≡ max (room_of_value v) (max (room_of_code first) (room_of_code second))
room_of_if v first second =
    ap (λ n. max (room_of_value v) (max n (room_of_row (hidden-the_row-Resolved-0 second)))) (held_room first)
    ∙ ap (λ n. max (room_of_value v) (max (room_of_code first) n)) (held_room second)

pub room_of_while : (k : LoopKind) (v : Value) (body : List Resolved)
    → room_of_statement (While k v body) ≡ max (room_of_value v) (room_of_code body)
room_of_while k v body = ap (λ n. max (room_of_value v) n) (held_room body)

-- the statement at a place, and those behind it
pub next_room : (code : List Resolved) (i : ℕ) (d : Resolved) → i < length code
    → room_of_code (drop i code) ≡ max (room_of_statement (slice_index_or code i d)) (room_of_code (drop (suc i) code))
next_room code i d l = ap room_of_code (drop-cons code i d l)
