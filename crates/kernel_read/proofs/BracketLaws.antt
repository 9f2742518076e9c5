-- How far a loop over bytes has come.
use Rattle.std.specs.Prelude.{◌≡◌, ℕ, ◌+◌, ◌<◌, List, [], ◌∷◌, length, drop, get_or, Option, Some, None, refl}
use Rattle.std.proofs.Common.{◌∙◌, ap, sym}
use Rattle.std.proofs.lemmas.List.{drop_more}
use Rattle.kernel_read.specs.Brackets.{open_behind, open_with}

pub none_stays : (text : List ℕ) → open_behind None text ≡ None
none_stays [] = refl
none_stays (byte ∷ text) = none_stays text

pub open_more : (whole : Option ℕ) (text : List ℕ) (i depth : ℕ) (next : Option ℕ) → i < length text
    → whole ≡ open_behind (Some depth) (drop i text) → next ≡ open_with (Some depth) (get_or text i 0)
    → whole ≡ open_behind next (drop (i + 1) text)
open_more whole text i depth next h so_far byte =
    so_far ∙ ap (open_behind (Some depth)) (drop_more text i 0 h)
    ∙ ap (λ (o : Option ℕ). open_behind o (drop (i + 1) text)) (sym byte)

pub open_none : (whole : Option ℕ) (text : List ℕ) (i depth : ℕ) → i < length text
    → whole ≡ open_behind (Some depth) (drop i text) → None ≡ open_with (Some depth) (get_or text i 0) → None ≡ whole
open_none whole text i depth h so_far byte =
    sym (open_more whole text i depth None h so_far byte ∙ none_stays (drop (i + 1) text))
