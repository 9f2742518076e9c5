-- What lines of order 2, 1 and 0 are, where values have a sign or none, and what a text with a bad line says.
use Rattle.std.specs.Prelude.{◌≡◌, ◌-◌, ◌^◌, true, false, ◌∷◌, [], map, replicate, codes, Ok, Err, refl}
use Rattle.limits.specs.Limits.{greatest_file_coordinate, greatest_line_bytes}
use Rattle.tns_io.specs.Reading.{entries_of_text, reading}
use Rattle.tns_io.specs.Reading.Reading.{Skipped, Read, Bad}
use Rattle.text_lines.specs.declared.line_kind.LineKind.TheVariants.{Fields, NotNumber, NotWhole, NumRange, Negative, ZeroCoordinate}

pub lines_of_order_two : map (reading true 2) (codes "1 2 3.0" ∷ codes " 1099511627776 \t0001 -0 " ∷ codes "2 1 -9223372036854775808" ∷ [])
    ≡ map Read (record { coords = 0 ∷ 1 ∷ []; value = 3 } ∷ record { coords = 1099511627775 ∷ 0 ∷ []; value = 0 }
    ∷ record { coords = 1 ∷ 0 ∷ []; value = 2 ^ 63 } ∷ [])
unfolding greatest_file_coordinate greatest_line_bytes
lines_of_order_two = refl

pub skipped_lines : map (reading true 2) (codes "" ∷ codes " \t" ∷ codes "# 1 2 3" ∷ codes "  #1" ∷ []) ≡ replicate 4 Skipped
unfolding greatest_file_coordinate greatest_line_bytes
skipped_lines = refl

pub bad_lines : map (reading true 2) (codes "1 2 3.5" ∷ codes "0 1 3" ∷ codes "1 2" ∷ codes "1 2 3 #" ∷ codes "1099511627777 0 x"
    ∷ codes "+1 1 3" ∷ codes "1 1 1e" ∷ codes "1 1 9223372036854775808" ∷ [])
    ≡ map Bad (NotWhole ∷ ZeroCoordinate ∷ Fields ∷ Fields ∷ NumRange ∷ NotNumber ∷ NotNumber ∷ NumRange ∷ [])
unfolding greatest_file_coordinate greatest_line_bytes
bad_lines = refl

pub lines_of_order_zero : map (reading true 0) (codes "-1" ∷ codes "1 2" ∷ [])
    ≡ Read (record { coords = []; value = 2 ^ 64 - 1 }) ∷ Bad Fields ∷ []
unfolding greatest_file_coordinate greatest_line_bytes
lines_of_order_zero = refl

pub lines_without_a_sign : map (reading false 1) (codes "1 -1" ∷ codes "1 -0" ∷ codes "0 -1" ∷ codes "1 -1.5"
    ∷ codes "1 -9223372036854775809" ∷ codes "2 9223372036854775807" ∷ [])
    ≡ Bad Negative ∷ Read (record { coords = 0 ∷ []; value = 0 }) ∷ Bad ZeroCoordinate ∷ Bad NotWhole ∷ Bad NumRange
    ∷ Read (record { coords = 1 ∷ []; value = 2 ^ 63 - 1 }) ∷ []
unfolding greatest_file_coordinate greatest_line_bytes
lines_without_a_sign = refl

pub text_of_entries : entries_of_text true 1 (codes "1 5\r\n# 2\n3 7")
    ≡ Ok (record { coords = 0 ∷ []; value = 5 } ∷ record { coords = 2 ∷ []; value = 7 } ∷ [])
unfolding greatest_file_coordinate greatest_line_bytes
text_of_entries = refl

pub text_with_a_bad_line : entries_of_text true 1 (codes "1 5\n\n1 x\n0 1\n") ≡ Err (record { number = 3; kind = NotNumber })
unfolding greatest_file_coordinate greatest_line_bytes
text_with_a_bad_line = refl
