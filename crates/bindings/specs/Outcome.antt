-- What words bind, whole, and why they bind nothing.
use Rattle.std.specs.Prelude.{◌≡◌, ℕ, ◌<◌, Bool, true, List, [], ◌∷◌, length, Option, Some, None, is_some, Result, Ok, Err}
use Rattle.std.specs.Prelude.{slice_index_or}
use Rattle.std.specs.Prelude.{replicate}
use Rattle.level_core.specs.declared.letter.Letter.TheVariants.{Dense}
use Rattle.format_spec.specs.declared.format.FormatLevel.{FormatLevel}
use Rattle.format_spec.specs.Formats.{letters_of, modes_of, standing}
use Rattle.format_spec.specs.declared.fault.FormatFault.{FormatFault}
use Rattle.format_spec.specs.Words.{Answers}
use Rattle.index_notation.specs.declared.syntax.Name.{Name}
use Rattle.index_notation.specs.declared.syntax.Statement.{Statement}
use Rattle.index_notation.specs.Numbering.{place_of}
use Rattle.bindings.specs.Names.{name_at}
use Rattle.bindings.specs.Words.{FormatText, Said, SaysFile, said_of}
use Rattle.bindings.specs.Bindings.{AreSound, IsFirstFault, first_in, format_in, path_in, range_in, order_of}
use Rattle.bindings.specs.declared.fault.BindingFault.{BindingFault}
use Rattle.bindings.specs.declared.fault.BindingFault.TheVariants.{Word, NoFile, BadFormat, Memory}

-- the format of a tensor of this order, or why there is none: by its word, or all dense, the modes in their own order
abbrev pub AnswersFormat : Option FormatText → ℕ → Result (List FormatLevel) FormatFault → Type 0
AnswersFormat None order (Ok levels) = (letters_of levels ≡ replicate order Dense) × (modes_of levels ≡ standing order)
AnswersFormat None order (Err fault) = ⊥
AnswersFormat (Some text) order answer = Answers text.letters text.order order answer

-- the first tensor of the name of this one: what words say of a name is kept there, and holds of each tensor that has it
abbrev pub first_named : List Name → ℕ → ℕ
first_named names tensor = place_of names (record { bytes = name_at names tensor })

abbrev pub FormatIs : Statement → List (List ℕ) → ℕ → Result (List FormatLevel) FormatFault → Type 0
FormatIs s words tensor answer =
    AnswersFormat (first_in (format_in s (first_named s.tensors tensor)) words) (order_of s tensor) answer

abbrev pub with_file : Statement → Option Said → List (ℕ × List ℕ) → List (ℕ × List ℕ)
with_file s (Some (SaysFile name path)) files = (place_of s.tensors (record { bytes = name }), path) ∷ files
with_file s _ files = files

-- the tensors that have files, with their paths, in the order of words
abbrev pub files_in : Statement → List (List ℕ) → List (ℕ × List ℕ)
files_in s [] = []
files_in s (word ∷ words) = with_file s (said_of word) (files_in s words)

abbrev pub has_file : Statement → List (List ℕ) → ℕ → Bool
has_file s words tensor = is_some (first_in (path_in s (first_named s.tensors tensor)) words)

-- each operand before this tensor has a file
abbrev pub HaveFiles : Statement → List (List ℕ) → ℕ → Type 0
HaveFiles s words count = (tensor : ℕ) → 0 < tensor → tensor < count → has_file s words tensor ≡ true

-- why all words together aren't bound
abbrev pub IsWordRefused : Statement → List (List ℕ) → BindingFault → Type 0
IsWordRefused s words (Word word fault) = IsFirstFault s words word fault
IsWordRefused s words (NoFile tensor) = ⊥
IsWordRefused s words (BadFormat tensor fault) = ⊥
IsWordRefused s words (Memory error) = Unit {0}

-- the tensor is the first operand without a file
pub record IsWithoutFile (s : Statement) (words : List (List ℕ)) (tensor : ℕ) : Type 0 where
  pub operand : 0 < tensor
  pub within : tensor < length s.tensors
  pub before : HaveFiles s words tensor
  pub lacks : first_in (path_in s (first_named s.tensors tensor)) words ≡ None

-- why an operand's file is missed, where files are needed
abbrev pub IsFileRefused : Statement → List (List ℕ) → Bool → BindingFault → Type 0
IsFileRefused s words need (Word word fault) = ⊥
IsFileRefused s words need (NoFile tensor) = (need ≡ true) × IsWithoutFile s words tensor
IsFileRefused s words need (BadFormat tensor fault) = ⊥
IsFileRefused s words need (Memory error) = ⊥

-- each tensor has its format
pub record AreFormats (s : Statement) (words : List (List ℕ)) (formats : List (List FormatLevel)) : Type 0 where
  pub tensors : length formats ≡ length s.tensors
  pub are : (tensor : ℕ) (d : List FormatLevel) → tensor < length s.tensors
      → FormatIs s words tensor (Ok (slice_index_or formats tensor d))

-- the tensor is the first whose format is none
pub record IsFirstBad (s : Statement) (words : List (List ℕ)) (tensor : ℕ) (fault : FormatFault) : Type 0 where
  pub within : tensor < length s.tensors
  pub before : (other : ℕ) → other < tensor → (levels : List FormatLevel) × FormatIs s words other (Ok levels)
  pub is : FormatIs s words tensor (Err fault)

abbrev pub IsFormatRefused : Statement → List (List ℕ) → BindingFault → Type 0
IsFormatRefused s words (Word word fault) = ⊥
IsFormatRefused s words (NoFile tensor) = ⊥
IsFormatRefused s words (BadFormat tensor fault) = IsFirstBad s words tensor fault
IsFormatRefused s words (Memory error) = Unit {0}

-- what words bind that have no fault: a format for each tensor, the files, and a range for each variable that has a word
pub record Binds (s : Statement) (words : List (List ℕ)) (need : Bool) (formats : List (List FormatLevel))
    (files : List (ℕ × List ℕ))
    (ranges : List (Option ℕ)) : Type 0 where
  pub sound : AreSound s words (length words)
  pub files_are : files ≡ files_in s words
  pub all_read : need ≡ true → HaveFiles s words (length s.tensors)
  pub formats_are : AreFormats s words formats
  pub variables : length ranges ≡ length s.vars
  pub ranges_are : (var : ℕ) (d : Option ℕ) → var < length s.vars → slice_index_or ranges var d ≡ first_in (range_in s var) words

-- files are needed, and the tensor is the first operand without one
pub record LacksFile (s : Statement) (words : List (List ℕ)) (need : Bool) (tensor : ℕ) : Type 0 where
  pub sound : AreSound s words (length words)
  pub needed : need ≡ true
  pub lacks : IsWithoutFile s words tensor

-- no word is refused, each operand has its file where files are needed, and the tensor is the first whose format is none
pub record HasBadFormat (s : Statement) (words : List (List ℕ)) (need : Bool) (tensor : ℕ)
    (fault : FormatFault) : Type 0 where
  pub sound : AreSound s words (length words)
  pub all_read : need ≡ true → HaveFiles s words (length s.tensors)
  pub bad : IsFirstBad s words tensor fault

-- why words bind nothing
abbrev pub IsRefused : Statement → List (List ℕ) → Bool → BindingFault → Type 0
IsRefused s words need (Word word fault) = IsFirstFault s words word fault
IsRefused s words need (NoFile tensor) = LacksFile s words need tensor
IsRefused s words need (BadFormat tensor fault) = HasBadFormat s words need tensor fault
IsRefused s words need (Memory error) = Unit {0}

-- a refusal for want of memory
abbrev pub IsWant : BindingFault → Type 0
IsWant (Memory error) = Unit {0}
IsWant fault = ⊥
