use Rattle.std.proofs.Common.{List, ℕ, ◌∷◌, [], ap, ◌∙◌, inl, inr, refl}
use Rattle.text_lines.proofs.plain.bytes_to_feed.Goals as goal

pub returns-in-Some : goal.returns-in-Some
returns-in-Some c = record { return = []; rest = c.in-Some._rest.now; text_is = c.in-Some.ensures; long = refl; bare = inl refl }

pub returns : goal.returns
returns c = record {
  return = 13 ∷ [];
  rest = c.in_ok-_rest._rest.now;
  text_is = c.in_ok-feed.ensures ∙ ap (λ (bytes : List ℕ). 13 ∷ bytes) c.in_ok-_rest.ensures;
  long = refl;
  bare = inr refl;
}
