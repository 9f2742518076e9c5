-- How many variables have to have places for resolved code, of the first ones: one more than the greatest that it sets or reads where
-- it stands.
use Rattle.std.specs.Prelude.{ℕ, ◌+◌, max, List, [], ◌∷◌, Option, Some, None}
use Rattle.resolved_code.specs.declared.syntax.Value.{Value}
use Rattle.resolved_code.specs.declared.syntax.Value.TheVariants.{Number, Variable, AddNumber, Add, LessNumber, Less, Equal}
use Rattle.resolved_code.specs.declared.syntax.Value.TheVariants.{Least, Word, WordAfter, WordOfWord, LessWord, LessWordAfter}
use Rattle.resolved_code.specs.declared.syntax.Value.TheVariants.{Product, ProductOfWord, Other}
use Rattle.resolved_code.specs.declared.syntax.Resolved.{Resolved, Count, Set, Combine, Put, AddTo, Push, Extend, Cut, Sort, SortSum}
use Rattle.resolved_code.specs.declared.syntax.Resolved.{If', While', Row_of-Resolved, end_of-Resolved, more_of-Resolved}

-- the places up to a variable, if there is one
abbrev pub room_to : Option ℕ → ℕ
room_to None = 0
room_to (Some x) = x + 1

abbrev pub room_of_value : Value → ℕ
room_of_value (Number k) = 0
room_of_value (Variable x) = x + 1
room_of_value (AddNumber x k) = x + 1
room_of_value (Add x y) = max (x + 1) (y + 1)
room_of_value (LessNumber x k) = x + 1
room_of_value (Less x y) = max (x + 1) (y + 1)
room_of_value (Equal x y) = max (x + 1) (y + 1)
room_of_value (Least x y) = max (x + 1) (y + 1)
room_of_value (Word a x) = x + 1
room_of_value (WordAfter a x k) = x + 1
room_of_value (WordOfWord a b x) = x + 1
room_of_value (LessWord x a k) = x + 1
room_of_value (LessWordAfter x a y k) = max (x + 1) (y + 1)
room_of_value (Product a x b y) = max (x + 1) (y + 1)
room_of_value (ProductOfWord a x b c y) = max (x + 1) (y + 1)
room_of_value (Other e) = 0

abbrev mutual
  pub room_of_statement : Resolved → ℕ
  room_of_statement (Count x k) = x + 1
  room_of_statement (Set x v) = max (x + 1) (room_of_value v)
  room_of_statement (Combine x o v w) = max (x + 1) (max (room_of_value v) (room_of_value w))
  room_of_statement (Put a i v) = max (room_of_value i) (room_of_value v)
  room_of_statement (AddTo a i v) = max (room_of_value i) (room_of_value v)
  room_of_statement (Push a v) = room_of_value v
  room_of_statement (Extend a count v) = max (room_of_value count) (room_of_value v)
  room_of_statement (Cut a v) = room_of_value v
  room_of_statement (Sort g) = 0
  room_of_statement (SortSum w) = 0
  room_of_statement (If' v p first q second) = max (room_of_value v) (max (room_of_row first) (room_of_row second))
  room_of_statement (While' k v p body) = max (room_of_value v) (room_of_row body)

  pub room_of_row : {m : _} → Row_of-Resolved m → ℕ
  room_of_row end_of-Resolved = 0
  room_of_row (more_of-Resolved s rest) = max (room_of_statement s) (room_of_row rest)

-- the same of statements in a list
abbrev pub room_of_code : List Resolved → ℕ
room_of_code [] = 0
room_of_code (s ∷ rest) = max (room_of_statement s) (room_of_code rest)
