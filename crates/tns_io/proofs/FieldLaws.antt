-- Lemmas about what specs/Fields.antt defines.
use Rattle.std.specs.Prelude.{◌≡◌, ℕ, ◌+◌, ◌<◌, List, [], ◌∷◌, ◌++◌, length, take, slice_set, Result, Ok, Err, refl}
use Rattle.std.proofs.Common.{arith, ap, subst, sym, ◌∙◌, append_assoc}
use Rattle.std.proofs.lemmas.List.{take_more_set}
use Rattle.tensor_map.specs.Entries.{Entry}
use Rattle.tns_io.specs.Fields.{AreCoordinates, behind_coords}
use Rattle.tns_io.specs.Reading.{coordinate_of, with_first, entry_of}
use Rattle.text_lines.specs.declared.line_kind.LineKind.{LineKind}
use Rattle.tns_io.proofs.WrittenLaws.{entry_of_more}

one_behind : (coords : List ℕ) (c : ℕ) (entry : Result Entry LineKind)
    → behind_coords coords (with_first (Ok c) entry) ≡ behind_coords (coords ++ c ∷ []) entry
one_behind coords c (Err kind) = refl
one_behind coords c (Ok entry) =
    ap (λ (cs : List ℕ). Ok (record { coords = cs; value = entry.value })) (sym (append_assoc coords (c ∷ []) entry.coords))

-- one more token is a coordinate
coordinates_more : (count : ℕ) (ts rs more : List (List ℕ)) (coords : List ℕ) (token : List ℕ) (c : ℕ)
    → AreCoordinates count ts coords rs
    → rs ≡ token ∷ more → coordinate_of token ≡ Ok c → AreCoordinates (count + 1) ts (coords ++ c ∷ []) more
coordinates_more count ts rs more coords token c are rs_is is = record {
  long = omega (arith, are.long, ap length rs_is);
  entry = λ signed some.
      are.entry signed (omega (arith, ap length rs_is))
      ∙ ap (λ tokens. behind_coords coords (entry_of signed tokens)) rs_is
      ∙ ap (behind_coords coords) (entry_of_more signed token more some ∙ ap (λ first. with_first first (entry_of signed more)) is)
      ∙ one_behind coords c (entry_of signed more);
}

-- it is put aside at its place
pub coordinates_set : (i : ℕ) (ts rs more : List (List ℕ)) (coords token : List ℕ) (c : ℕ) → i < length coords
    → AreCoordinates i ts (take i coords) rs → rs ≡ token ∷ more → coordinate_of token ≡ Ok c
    → AreCoordinates (i + 1) ts (take (i + 1) (slice_set coords i c)) more
coordinates_set i ts rs more coords token c within are rs_is is =
    subst (λ (cs : List ℕ). AreCoordinates (i + 1) ts cs more) (sym (take_more_set coords i c within))
    (coordinates_more i ts rs more (take i coords) token c are rs_is is)
