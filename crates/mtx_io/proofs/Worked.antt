-- What small texts stand for: an entry and its mirror image, the places of a pattern and of an array, and the first bad line.
use Rattle.std.specs.Prelude.{◌≡◌, ◌-◌, ◌^◌, ◌∷◌, [], codes, true, false, Ok, Err, refl}
use Rattle.limits.specs.Limits.{greatest_file_coordinate, greatest_line_bytes, greatest_matrix_entries, greatest_matrix_size}
use Rattle.numbers.specs.Ring.{ring, word_product}
use Rattle.mtx_io.specs.Matrix.{matrix_of_text}
use Rattle.text_lines.specs.declared.line_kind.LineKind.TheVariants.{BadBanner, NoMinus, BadSize, Fields, Extra, Truncated, CoordRange}
use Rattle.text_lines.specs.declared.line_kind.LineKind.TheVariants.{Negative, SkewDiagonal}

-- an entry and its mirror image
pub mirrored_entry : matrix_of_text ring true true 2
    (codes "%%MatrixMarket MATRIX Coordinate Integer Symmetric\n%\n2 2 2\n\n1 2 3\r\n2 2 4\n% end")
    ≡ Ok (record {
      rows = 2;
      columns = 2;
      entries = record { coords = 0 ∷ 1 ∷ []; value = 3 } ∷ record { coords = 1 ∷ 0 ∷ []; value = 3 }
          ∷ record { coords = 1 ∷ 1 ∷ []; value = 4 } ∷ [];
    })
unfolding greatest_file_coordinate greatest_line_bytes greatest_matrix_entries greatest_matrix_size ring word_product
mirrored_entry = refl

-- a pattern, whose entries are ones
pub mirrored_pattern : matrix_of_text ring true true 2
    (codes "%%MatrixMarket matrix coordinate pattern symmetric\n2 2 2\n1 1\n2 1\n")
    ≡ Ok (record {
      rows = 2;
      columns = 2;
      entries = record { coords = 0 ∷ 0 ∷ []; value = 1 } ∷ record { coords = 1 ∷ 0 ∷ []; value = 1 }
          ∷ record { coords = 0 ∷ 1 ∷ []; value = 1 } ∷ [];
    })
unfolding greatest_file_coordinate greatest_line_bytes greatest_matrix_entries greatest_matrix_size ring word_product
mirrored_pattern = refl

-- the places of arrays
pub skew_places : matrix_of_text ring true true 2 (codes "%%MatrixMarket matrix array integer skew-symmetric\n3 3\n1\n2\n0\n")
    ≡ Ok (record {
      rows = 3;
      columns = 3;
      entries = record { coords = 1 ∷ 0 ∷ []; value = 1 } ∷ record { coords = 0 ∷ 1 ∷ []; value = 2 ^ 64 - 1 }
          ∷ record { coords = 2 ∷ 0 ∷ []; value = 2 } ∷ record { coords = 0 ∷ 2 ∷ []; value = 2 ^ 64 - 2 }
          ∷ record { coords = 2 ∷ 1 ∷ []; value = 0 } ∷ record { coords = 1 ∷ 2 ∷ []; value = 0 } ∷ [];
    })
unfolding greatest_file_coordinate greatest_line_bytes greatest_matrix_entries greatest_matrix_size ring word_product
skew_places = refl

pub general_places : matrix_of_text ring true true 1 (codes "%%MatrixMarket matrix array integer general\n2 1\n7\n-1")
    ≡ Ok (record {
      rows = 2;
      columns = 1;
      entries =
          record { coords = 0 ∷ []; value = 7 } ∷ record { coords = 1 ∷ []; value = 2 ^ 64 - 1 } ∷ [];
    })
unfolding greatest_file_coordinate greatest_line_bytes greatest_matrix_entries greatest_matrix_size ring word_product
general_places = refl

-- first bad lines
pub value_without_sign : matrix_of_text ring true false 1 (codes "%%MatrixMarket matrix array integer general\n2 1\n-0\n-1")
    ≡ Err (record { number = 4; kind = Negative })
unfolding greatest_file_coordinate greatest_line_bytes greatest_matrix_entries greatest_matrix_size ring word_product
value_without_sign = refl

pub skew_pattern : matrix_of_text ring true true 2 (codes "%%MatrixMarket matrix coordinate pattern skew-symmetric\n2 2 0\n")
    ≡ Err (record { number = 1; kind = BadBanner })
unfolding greatest_file_coordinate greatest_line_bytes greatest_matrix_entries greatest_matrix_size ring word_product
skew_pattern = refl

pub pattern_with_value : matrix_of_text ring true true 2 (codes "%%MatrixMarket matrix coordinate pattern general\n2 2 1\n1 1 1\n")
    ≡ Err (record { number = 3; kind = Fields })
unfolding greatest_file_coordinate greatest_line_bytes greatest_matrix_entries greatest_matrix_size ring word_product
pattern_with_value = refl

pub empty_text : matrix_of_text ring true true 2 [] ≡ Err (record { number = 1; kind = BadBanner })
unfolding greatest_file_coordinate greatest_line_bytes greatest_matrix_entries greatest_matrix_size ring word_product
empty_text = refl

pub skew_without_minus : matrix_of_text ring false true 2 (codes "%%MatrixMarket matrix array integer skew-symmetric\n")
    ≡ Err (record { number = 1; kind = NoMinus })
unfolding greatest_file_coordinate greatest_line_bytes greatest_matrix_entries greatest_matrix_size ring word_product
skew_without_minus = refl

pub text_without_size : matrix_of_text ring true true 2 (codes "%%MatrixMarket matrix coordinate integer general\n2 2\n") ≡ Err
    (record { number = 2; kind = BadSize })
unfolding greatest_file_coordinate greatest_line_bytes greatest_matrix_entries greatest_matrix_size ring word_product
text_without_size = refl

pub truncated_text : matrix_of_text ring true true 2 (codes "%%MatrixMarket matrix coordinate integer general\n2 2 2\n1 1 0\n%\n")
    ≡ Err (record { number = 5; kind = Truncated })
unfolding greatest_file_coordinate greatest_line_bytes greatest_matrix_entries greatest_matrix_size ring word_product
truncated_text = refl

pub line_too_many : matrix_of_text ring true true 2 (codes "%%MatrixMarket matrix coordinate integer general\n2 2 1\n1 1 0\n% \n0\n")
    ≡ Err (record { number = 5; kind = Extra })
unfolding greatest_file_coordinate greatest_line_bytes greatest_matrix_entries greatest_matrix_size ring word_product
line_too_many = refl

pub coordinate_outside : matrix_of_text ring true true 2 (codes "%%MatrixMarket matrix coordinate integer general\n2 2 1\n3 1 x\n")
    ≡ Err (record { number = 3; kind = CoordRange })
unfolding greatest_file_coordinate greatest_line_bytes greatest_matrix_entries greatest_matrix_size ring word_product
coordinate_outside = refl

pub skew_diagonal : matrix_of_text ring true true 2 (codes "%%MatrixMarket matrix coordinate integer skew-symmetric\n2 2 1\n1 1 x\n")
    ≡ Err (record { number = 3; kind = SkewDiagonal })
unfolding greatest_file_coordinate greatest_line_bytes greatest_matrix_entries greatest_matrix_size ring word_product
skew_diagonal = refl
