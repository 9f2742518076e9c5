-- What a contract sees of `Words`, and of what is lent of them.
use Rattle.std.specs.Prelude.{◌≡◌, ◌<◌, ◌^◌, ℕ, Bool, true, false, List}
use Rattle.seg_buffer.specs.declared.words.Form.{Form}
use Rattle.seg_buffer.specs.declared.words.Form.TheVariants.{Narrow, Wide}
use Rattle.seg_buffer.specs.declared.words.Lent.{Lent}
use Rattle.seg_buffer.specs.declared.words.Lent.TheVariants.{Narrow as OfNarrow, Wide as OfWide}

-- the words, how many more can be pushed before memory is wanted, and whether each takes eight bytes
pub record WordBuffer : Type 0 where
  pub items : List ℕ
  pub spare : ℕ
  pub wide : Bool

abbrev pub word_buffer : List ℕ → ℕ → Bool → WordBuffer
word_buffer items spare wide = record { items = items; spare = spare; wide = wide }

-- the words in either form
abbrev pub words_in : Form → WordBuffer
words_in (Narrow words) = word_buffer words.items words.spare false
words_in (Wide words) = word_buffer words.items words.spare true

-- a number that words so wide can hold
abbrev pub FitsWord : Bool → ℕ → Type 0
FitsWord wide x = wide ≡ false → x < 2 ^ 32

-- the words that are lent
abbrev pub lent_items : Lent → List ℕ
lent_items (OfNarrow words) = words.now
lent_items (OfWide words) = words.now

-- whether each takes eight bytes
abbrev pub lent_wide : Lent → Bool
lent_wide (OfNarrow words) = false
lent_wide (OfWide words) = true
