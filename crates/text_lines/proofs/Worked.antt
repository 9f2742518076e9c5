-- What stands for a whole number of 64 bits, and what doesn't.
use Rattle.std.specs.Prelude.{◌≡◌, pos, negsuc, map, replicate, codes, Ok, Err, ◌∷◌, [], refl}
use Rattle.text_lines.specs.Numbers.{read_whole_of}
use Rattle.text_lines.specs.declared.num_fault.NumFault.TheVariants.{NotNumber, NotWhole, NumRange}

pub whole_numbers : map read_whole_of (codes "1.0" ∷ codes "3." ∷ codes "+7" ∷ codes "-0" ∷ codes "-007"
    ∷ codes "9223372036854775807" ∷ codes "-9223372036854775808" ∷ [])
    ≡ map Ok (pos 1 ∷ pos 3 ∷ pos 7 ∷ pos 0 ∷ negsuc 6 ∷ pos 9223372036854775807 ∷ negsuc 9223372036854775807 ∷ [])
whole_numbers = refl

pub not_whole : map read_whole_of (codes "1.5" ∷ codes "1e3" ∷ codes ".0" ∷ codes "3.e5" ∷ codes "-2.50E+1" ∷ [])
    ≡ replicate 5 (Err NotWhole)
not_whole = refl

pub out_of_range : map read_whole_of (codes "9223372036854775808" ∷ codes "-9223372036854775809" ∷ [])
    ≡ replicate 2 (Err NumRange)
out_of_range = refl

pub no_numbers : map read_whole_of (codes "1e" ∷ codes "1e+" ∷ codes "." ∷ codes "+" ∷ codes "--1" ∷ codes "1.5.2" ∷ codes "x" ∷ [])
    ≡ replicate 7 (Err NotNumber)
no_numbers = refl
