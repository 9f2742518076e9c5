-- Lines of so many tokens.
use Rattle.std.specs.Prelude.{ℕ, List, [], ◌∷◌, Option, Some, None}

-- the token of a line that has no other
abbrev pub one_token : List (List ℕ) → Option (List ℕ)
one_token (a ∷ []) = Some a
one_token _ = None

-- the two tokens of a line that has no other
abbrev pub two_tokens : List (List ℕ) → Option (List ℕ × List ℕ)
two_tokens (a ∷ b ∷ []) = Some (a, b)
two_tokens _ = None

-- the three tokens of a line that has no other
abbrev pub three_tokens : List (List ℕ) → Option (List ℕ × List ℕ × List ℕ)
three_tokens (a ∷ b ∷ c ∷ []) = Some (a, b, c)
three_tokens _ = None

-- the five tokens of a line that has no other
abbrev pub five_tokens : List (List ℕ) → Option (List ℕ × List ℕ × List ℕ × List ℕ × List ℕ)
five_tokens (a ∷ b ∷ c ∷ d ∷ e ∷ []) = Some (a, b, c, d, e)
five_tokens _ = None
