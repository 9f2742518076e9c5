-- The first line of a Matrix Market file, as NISTIR 5935 describes it: what kind of matrix follows. Only matrices of integers and
-- patterns, which tell places alone, are read here.
use Rattle.std.specs.Prelude.{ℕ, Bool, true, false, not, ◌&&◌, List, Option, Some, None, if◌then◌else◌, codes}
use Rattle.std.specs.Str.{bytes_eq, str_eq_ignore_ascii_case}
use Rattle.mtx_io.specs.Fields.{five_tokens}
use Rattle.mtx_io.specs.declared.banner.Banner.{Banner}
use Rattle.mtx_io.specs.declared.banner.Layout.{Layout}
use Rattle.mtx_io.specs.declared.banner.Layout.TheVariants.{Coordinate, Pattern, Array}
use Rattle.mtx_io.specs.declared.banner.Symmetry.{Symmetry}
use Rattle.mtx_io.specs.declared.banner.Symmetry.TheVariants.{General, Symmetric, SkewSymmetric}

-- the word, in capital or small letters
abbrev pub is_word : List ℕ → List ℕ → Bool
is_word token word = str_eq_ignore_ascii_case token word

abbrev pub integer_layout_of : List ℕ → Option Layout
integer_layout_of token =
    if is_word token (codes "coordinate") then Some Coordinate else (if is_word token (codes "array") then Some Array else None)

-- how the entries are told, by the words for it and for their values: a pattern tells places alone
abbrev pub layout_of : List ℕ → List ℕ → Option Layout
layout_of token field =
    if is_word field (codes "integer") then integer_layout_of token else
    (if is_word field (codes "pattern") && is_word token (codes "coordinate") then Some Pattern else None)

abbrev pub symmetry_of : List ℕ → Option Symmetry
symmetry_of token =
    if is_word token (codes "general") then Some General else (
    if is_word token (codes "symmetric") then Some Symmetric else
    (if is_word token (codes "skew-symmetric") then Some SkewSymmetric else None)
    )

-- a skew-symmetric matrix asks for a minus
abbrev pub needs_minus : Symmetry → Bool
needs_minus General = false
needs_minus Symmetric = false
needs_minus SkewSymmetric = true

-- a pattern has no values that could be negated
abbrev pub go_together : Layout → Symmetry → Bool
go_together Coordinate which = true
go_together Pattern which = not (needs_minus which)
go_together Array which = true

abbrev pub banner_from : Option Layout → Option Symmetry → Option Banner
banner_from None symmetry = None
banner_from (Some layout) None = None
banner_from (Some layout) (Some symmetry) =
    if go_together layout symmetry then Some (record { layout = layout; symmetry = symmetry }) else None

-- the mark, which is written so and not otherwise, and the word for a matrix
abbrev pub begins_matrix : List ℕ → List ℕ → Bool
begins_matrix mark object = bytes_eq mark (codes "%%MatrixMarket") && is_word object (codes "matrix")

abbrev pub banner_of_five : Option (List ℕ × List ℕ × List ℕ × List ℕ × List ℕ) → Option Banner
banner_of_five None = None
banner_of_five (Some words) =
    if begins_matrix words.0 words.1 then banner_from (layout_of words.2 words.3) (symmetry_of words.4) else None

-- the banner that these tokens are
abbrev pub banner_of : List (List ℕ) → Option Banner
banner_of tokens = banner_of_five (five_tokens tokens)
