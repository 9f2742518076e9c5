-- What follows from the definition of tokens.
use Rattle.std.specs.Prelude.{◌≡◌, ℕ, ◌<◌, Bool, false, not, List, [], ◌∷◌, ◌++◌, length}
use Rattle.std.specs.List.{All, flat_map}
use Rattle.lists.specs.Blanks.{is_blank}

-- it could be a token: it has a byte, and no blank
pub record IsToken (token : List ℕ) : Type 0 where
  pub some : 0 < length token
  pub whole : All (λ byte. is_blank byte ≡ false) token

-- these, each followed by a space
abbrev pub joined_tokens : List (List ℕ) → List ℕ
joined_tokens parts = flat_map (λ part. part ++ 32 ∷ []) parts

abbrev pub is_filled : ℕ → Bool
is_filled byte = not (is_blank byte)
