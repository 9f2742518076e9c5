-- Lines of so many tokens, token by token.
use Rattle.std.specs.Prelude.{◌≡◌, ℕ, List, [], ◌∷◌, Some}
use Rattle.mtx_io.specs.Fields.{three_tokens, five_tokens}

-- two tokens before three
pub five_more : (a b : List ℕ) (rest : List (List ℕ)) (t : List ℕ × List ℕ × List ℕ) → three_tokens rest ≡ Some t
    → five_tokens (a ∷ b ∷ rest) ≡ Some (a, b, t.0, t.1, t.2)
five_more a b [] t e = cc
five_more a b (x ∷ []) t e = cc
five_more a b (x ∷ y ∷ []) t e = cc
five_more a b (x ∷ y ∷ z ∷ []) t e = cc
five_more a b (x ∷ y ∷ z ∷ w ∷ rest) t e = cc
