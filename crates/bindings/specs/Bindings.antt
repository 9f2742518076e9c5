-- What words bind together, and the first of them that is refused.
use Rattle.std.specs.Prelude.{◌≡◌, ℕ, ◌+◌, ◌<◌, Bool, false, ◌==◌, ◌||◌}
use Rattle.std.specs.Prelude.{not, nat_lt, if◌then◌else◌, List, [], ◌∷◌, length}
use Rattle.std.specs.Prelude.{take, Option, Some, None, is_some, slice_index_or}
use Rattle.std.specs.Str.Parse.{digits_value}
use Rattle.limits.specs.Limits.{greatest_range_word}
use Rattle.index_notation.specs.declared.syntax.Name.{Name}
use Rattle.index_notation.specs.declared.syntax.Access.{Access}
use Rattle.index_notation.specs.declared.syntax.Statement.{Statement}
use Rattle.index_notation.specs.Numbering.{place_of}
use Rattle.bindings.specs.Words.{FormatText, Said, SaysFormat, SaysFile, SaysRange, said_of, is_mtx}
use Rattle.bindings.specs.declared.fault.WordFault.{WordFault}
use Rattle.bindings.specs.declared.fault.WordFault.TheVariants.{BadBinding, UnknownName, Twice, NotMatrix, RangeLimit}

-- the names that a word's name is sought among: the variables' for a range, the tensors' else
abbrev pub names_for : Statement → Said → List Name
names_for s (SaysFormat name text) = s.tensors
names_for s (SaysFile name path) = s.tensors
names_for s (SaysRange name digits) = s.vars

abbrev pub name_in : Said → Name
name_in (SaysFormat name text) = record { bytes = name }
name_in (SaysFile name path) = record { bytes = name }
name_in (SaysRange name digits) = record { bytes = name }

-- the number of the tensor or variable that a word is about
abbrev pub number_in : Statement → Said → ℕ
number_in s said = place_of (names_for s said) (name_in said)

-- what a word says of the format of this tensor
abbrev pub format_in : Statement → ℕ → Option Said → Option FormatText
format_in s tensor (Some (SaysFormat name text)) = if place_of s.tensors (record { bytes = name }) == tensor then Some text else None
format_in s tensor _ = None

-- of its file
abbrev pub path_in : Statement → ℕ → Option Said → Option (List ℕ)
path_in s tensor (Some (SaysFile name path)) = if place_of s.tensors (record { bytes = name }) == tensor then Some path else None
path_in s tensor _ = None

-- and of the range of this variable
abbrev pub range_in : Statement → ℕ → Option Said → Option ℕ
range_in s var (Some (SaysRange name digits)) =
    if place_of s.vars (record { bytes = name }) == var then Some (digits_value 10 digits) else None
range_in s var _ = None

-- the first that there is
abbrev pub or_later : {X : Type 0} → Option X → Option X → Option X
or_later None later = later
or_later (Some x) later = Some x

-- what the first of these words says that says something of this kind
abbrev pub first_in : {X : Type 0} → (Option Said → Option X) → List (List ℕ) → Option X
first_in pick [] = None
first_in pick (word ∷ words) = or_later (pick (said_of word)) (first_in pick words)

-- a word says by the same form something of the same tensor or variable
abbrev pub is_bound : Statement → List (List ℕ) → Said → Bool
is_bound s words (SaysFormat name text) = is_some (first_in (format_in s (place_of s.tensors (record { bytes = name }))) words)
is_bound s words (SaysFile name path) = is_some (first_in (path_in s (place_of s.tensors (record { bytes = name }))) words)
is_bound s words (SaysRange name digits) = is_some (first_in (range_in s (place_of s.vars (record { bytes = name }))) words)

-- the number of variables of a tensor's accesses
abbrev pub order_in : List Access → ℕ → ℕ
order_in [] tensor = 0
order_in (access ∷ accesses) tensor = if access.tensor == tensor then length access.vars else order_in accesses tensor

abbrev pub order_of : Statement → ℕ → ℕ
order_of s tensor = order_in (s.left ∷ s.accesses) tensor

-- the file is a matrix, and the tensor has another order than a matrix or a vector
abbrev pub is_no_matrix : Statement → Said → Bool
is_no_matrix s (SaysFormat name text) = false
is_no_matrix s (SaysFile name path) =
    if is_mtx path then not ((order_of s (place_of s.tensors (record { bytes = name })) == 1)
    || (order_of s (place_of s.tensors (record { bytes = name })) == 2)) else false
is_no_matrix s (SaysRange name digits) = false

abbrev pub is_above_limit : Said → Bool
is_above_limit (SaysFormat name text) = false
is_above_limit (SaysFile name path) = false
is_above_limit (SaysRange name digits) = nat_lt greatest_range_word (digits_value 10 digits)

-- the fault of a word behind these words, the first that it has
abbrev pub fault_of_said : Statement → List (List ℕ) → Said → Option WordFault
fault_of_said s before said =
    if not (nat_lt (number_in s said) (length (names_for s said))) then Some UnknownName
    else (if is_bound s before said then Some Twice
    else (if is_no_matrix s said then Some NotMatrix
    else (if is_above_limit said then Some RangeLimit else None)))

abbrev pub fault_of : Statement → List (List ℕ) → Option Said → Option WordFault
fault_of s before None = Some BadBinding
fault_of s before (Some said) = fault_of_said s before said

-- the fault of a word, counted from 0
abbrev pub fault_at : Statement → List (List ℕ) → ℕ → Option WordFault
fault_at s words k = fault_of s (take k words) (said_of (slice_index_or words k []))

-- the words up to this one have no fault
abbrev pub AreSound : Statement → List (List ℕ) → ℕ → Type 0
AreSound s words count = (k : ℕ) → k < count → fault_at s words k ≡ None

-- the word, counted from 1, is the first with a fault
pub record IsFirstFault (s : Statement) (words : List (List ℕ)) (word : ℕ) (fault : WordFault) : Type 0 where
  pub at : ℕ
  pub word_is : word ≡ at + 1
  pub within : at < length words
  pub before : AreSound s words at
  pub is : fault_at s words at ≡ Some fault
