-- What words, as they are lent, say; and what was bound so far.
use Rattle.std.specs.Prelude.{◌≡◌, nat_lt, if◌then◌else◌, Some, None}
use Rattle.std.specs.Option.{option_map}
use Rattle.std.specs.Str.Parse.{digits_value}
use Rattle.limits.specs.Limits.{greatest_range_word}
use Rattle.bindings.specs.Words as words
use Rattle.bindings.specs.declared.word.FormatText.{FormatText}
use Rattle.bindings.specs.declared.word.Word.{Word}
use Rattle.bindings.specs.declared.word.Word.TheVariants as word

abbrev pub text_in : FormatText → words.FormatText
text_in text = record { letters = text.letters.now; order = option_map (λ order. order.now) text.order }

abbrev pub said_in : Word → words.Said
said_in (word.Format name text) = words.SaysFormat name.now (text_in text)
said_in (word.File name file) = words.SaysFile name.now file.path.now
said_in (word.Range name digits range) = words.SaysRange name.now digits.now

-- a range is the number of its digits, or None where that is above the limit
abbrev pub HasNumber : Word → Type 0
HasNumber (word.Format name text) = Unit {0}
HasNumber (word.File name file) = Unit {0}
HasNumber (word.Range name digits range) =
    range ≡ (if nat_lt greatest_range_word (digits_value 10 digits.now) then None else Some (digits_value 10 digits.now))
