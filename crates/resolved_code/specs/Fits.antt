-- How many variables have to have places, so that resolved code finds each that it sets or reads where it stands.
use Rattle.std.specs.Prelude.{ℕ, ◌<◌, List, [], ◌∷◌}
use Rattle.resolved_code.specs.declared.syntax.Value.{Value}
use Rattle.resolved_code.specs.declared.syntax.Value.TheVariants.{Number, Variable, AddNumber, Add, LessNumber, Less, Equal}
use Rattle.resolved_code.specs.declared.syntax.Value.TheVariants.{Least, Word, WordAfter, WordOfWord, LessWord, LessWordAfter}
use Rattle.resolved_code.specs.declared.syntax.Value.TheVariants.{Product, ProductOfWord, Other}
use Rattle.resolved_code.specs.declared.syntax.Resolved.{Resolved, Count, Set, Combine, Put, AddTo, Push, Extend, Cut, Sort, SortSum}
use Rattle.resolved_code.specs.declared.syntax.Resolved.{If', While', Row_of-Resolved, end_of-Resolved, more_of-Resolved}

-- each variable that is read where it stands is below n
abbrev pub Reads : ℕ → Value → Type 0
Reads n (Number k) = Unit {0}
Reads n (Variable x) = x < n
Reads n (AddNumber x k) = x < n
Reads n (Add x y) = (x < n) × (y < n)
Reads n (LessNumber x k) = x < n
Reads n (Less x y) = (x < n) × (y < n)
Reads n (Equal x y) = (x < n) × (y < n)
Reads n (Least x y) = (x < n) × (y < n)
Reads n (Word a x) = x < n
Reads n (WordAfter a x k) = x < n
Reads n (WordOfWord a b x) = x < n
Reads n (LessWord x a k) = x < n
Reads n (LessWordAfter x a y k) = (x < n) × (y < n)
Reads n (Product a x b y) = (x < n) × (y < n)
Reads n (ProductOfWord a x b c y) = (x < n) × (y < n)
Reads n (Other e) = Unit {0}

abbrev mutual
  -- and each that is set
  pub Fits : ℕ → Resolved → Type 0
  Fits n (Count x k) = x < n
  Fits n (Set x v) = (x < n) × Reads n v
  Fits n (Combine x o v w) = (x < n) × Reads n v × Reads n w
  Fits n (Put a i v) = Reads n i × Reads n v
  Fits n (AddTo a i v) = Reads n i × Reads n v
  Fits n (Push a v) = Reads n v
  Fits n (Extend a count v) = Reads n count × Reads n v
  Fits n (Cut a v) = Reads n v
  Fits n (Sort g) = Unit {0}
  Fits n (SortSum w) = Unit {0}
  Fits n (If' v p first q second) = Reads n v × Fits_row n first × Fits_row n second
  Fits n (While' k v p body) = Reads n v × Fits_row n body

  pub Fits_row : {m : _} → ℕ → Row_of-Resolved m → Type 0
  Fits_row n end_of-Resolved = Unit {0}
  Fits_row n (more_of-Resolved s rest) = Fits n s × Fits_row n rest

-- the same of each statement of a list
abbrev pub FitsAll : ℕ → List Resolved → Type 0
FitsAll n [] = Unit {0}
FitsAll n (s ∷ rest) = Fits n s × FitsAll n rest
