-- What a result's text depends on.
use Rattle.std.specs.Prelude.{◌≡◌, ℕ, Bool, true, false, List, [], ◌∷◌, ◌++◌, Option, refl}
use Rattle.std.specs.List.{flat_map}
use Rattle.std.proofs.Common.{sym, ◌∙◌, inl, inr}
use Rattle.numbers.specs.Arithmetic.{Arithmetic}
use Rattle.tns_io.specs.Positions.{IsBelow}
use Rattle.tns_io.specs.Text.{IsAmong, line_text}
use Rattle.result_files.specs.ResultText.{IsResultText, IsTextIn, asks_matrix}

same_lines : (signed : Bool) (value other : List ℕ → ℕ) (places : List (List ℕ))
    → ((coords : List ℕ) → IsAmong places coords → value coords ≡ other coords)
    → flat_map (λ coords. line_text signed coords (value coords)) places
    ≡ flat_map (λ coords. line_text signed coords (other coords)) places
same_lines signed value other [] same = refl
same_lines signed value other (place ∷ places) same =
    let here : value place ≡ other place = same place (inl refl) in
    λ i. line_text signed place (here i) ++ same_lines signed value other places (λ coords among. same coords (inr among)) i

module _ (a : Arithmetic) (signed : Bool) (ranges : List ℕ) (value other : List ℕ → ℕ) (text : List ℕ)
    (same : (coords : List ℕ) → IsBelow ranges coords → value coords ≡ other coords) where
  same_in : (b : Bool) → IsTextIn b a signed ranges value text → IsTextIn b a signed ranges other text
  same_in true is = record {
    tensor = is.tensor;
    inside = λ coords below. is.inside coords below ∙ same coords below;
    text_is = is.text_is;
  }
  same_in false is = record {
    places = is.places;
    increasing = is.increasing;
    exact = λ coords. (
      λ among.
          let both = (is.exact coords).0 among in (both.0, λ none. both.1 (same coords both.0 ∙ none)),
      λ both. (is.exact coords).1 (both.0, λ none. both.1 (sym (same coords both.0) ∙ none)),
    );
    lines = is.lines ∙ same_lines signed value other is.places (λ coords among. same coords ((is.exact coords).0 among).0);
  }

pub same_text : (a : Arithmetic) (signed : Bool) (path : Option (List ℕ)) (ranges : List ℕ) (value other : List ℕ → ℕ) (text : List ℕ)
    → ((coords : List ℕ) → IsBelow ranges coords → value coords ≡ other coords)
    → IsResultText a signed path ranges value text → IsResultText a signed path ranges other text
same_text a signed path ranges value other text same is = same_in a signed ranges value other text same (asks_matrix path) is
