-- What the words so far bind, as it is kept.
use Rattle.std.specs.Prelude.{◌≡◌, ℕ, ◌<◌, List, length, map, Option, slice_index_or}
use Rattle.std.specs.Option.{option_map}
use Rattle.index_notation.specs.declared.syntax.Statement.{Statement}
use Rattle.bindings.specs.Bindings.{first_in, format_in, range_in}
use Rattle.bindings.specs.Outcome.{files_in}
use Rattle.bindings.specs.Views.{text_in}
use Rattle.bindings.specs.declared.bound.Bound.{Bound}
use Rattle.bindings.specs.declared.tensor_file.TensorFile.{TensorFile}
use Rattle.bindings.specs.declared.word.FormatText.{FormatText}

-- a tensor's number and the path of its file
abbrev pub file_in : ℕ × TensorFile → ℕ × List ℕ
file_in file = (file.0, file.1.path.now)

-- the path of a file, if there is one
abbrev pub path_to : Option TensorFile → Option (List ℕ)
path_to file = option_map (λ f. f.path.now) file

-- the paths of files
abbrev pub paths_in : List TensorFile → List (List ℕ)
paths_in files = map (λ file. file.path.now) files

-- a place for each tensor and each variable
pub record HasPlaces (s : Statement) (bound : Bound) : Type 0 where
  pub tensors : length bound.texts.items ≡ length s.tensors
  pub variables : length bound.ranges.items ≡ length s.vars

pub record IsBound (s : Statement) (words : List (List ℕ)) (bound : Bound) : Type 0 where
  pub places : HasPlaces s bound
  pub texts : (tensor : ℕ) (d : Option FormatText) → tensor < length s.tensors
      → option_map text_in (slice_index_or bound.texts.items tensor d) ≡ first_in (format_in s tensor) words
  pub files : map file_in bound.files.entries ≡ files_in s words
  pub ranges : (var : ℕ) (d : Option ℕ) → var < length s.vars
      → slice_index_or bound.ranges.items var d ≡ first_in (range_in s var) words
