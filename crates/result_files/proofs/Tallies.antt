-- What a tally says of the sink that it hands on to.
use Rattle.std.specs.Prelude.{◌≡◌, ℕ, ◌-◌, ◌≤◌, List, [], ◌∷◌, ◌++◌, length, drop, Option, Some, None, refl}
use Rattle.std.specs.Borrow.{GName}
use Rattle.std.proofs.Common.{arith, ap, sym, subst, ◌∙◌, append_assoc}
use Rattle.outside.specs.Folder.{appended}
use Rattle.outside.specs.Sink.{SinkState, Beside}
use Rattle.outside.specs.declared.refusal.Refusal.{Refusal}
use Rattle.result_files.specs.Fills.{FillsPart}
use Rattle.result_files.specs.Refused.{refused_as}
use Rattle.result_files.specs.Tally.{marked, tallied}
use Rattle.result_files.specs.Writes.{PutsFront}
use Rattle.result_files.proofs.FilledFiles.{cause_of}

-- what is beside the sink below
abbrev beneath : Beside → Beside
beneath beside = record { borrows = drop 1 beside.borrows; folder = beside.folder }

-- a front that is no shorter
record IsCut (before now kept front : List ℕ) : Type 0 where
  given : List ℕ
  now_is : now ≡ before ++ given
  front_is : front ≡ given ++ kept

cut_off : (before now kept front : List ℕ) → length before ≤ length now → now ++ kept ≡ before ++ front → IsCut before now kept front
cut_off [] now kept front h is = record { given = now; now_is = refl; front_is = sym is }
cut_off (x ∷ before) [] kept front h is = absurd (omega arith)
cut_off (x ∷ before) (y ∷ now) kept front h is =
    let more = cut_off before now kept front (omega arith) (ap (drop 1) is) in
    let same : y ≡ x = cc (is) in
    record {
      given = more.given;
      now_is = λ i. same i ∷ more.now_is i;
      front_is = more.front_is;
    }

record IsPart (old new : Option (List ℕ)) (text : List ℕ) : Type 0 where
  front : List ℕ
  rest : List ℕ
  text_is : text ≡ front ++ rest
  is : new ≡ appended old front

abbrev head_in : Option (List ℕ) → ℕ
head_in None = 0
head_in (Some []) = 0
head_in (Some (x ∷ xs)) = x

abbrev bytes_in : Option (List ℕ) → List ℕ
bytes_in None = []
bytes_in (Some bytes) = drop 1 bytes

part_of : (old new : Option (List ℕ)) (n : ℕ) (text front rest kept : List ℕ) → text ≡ front ++ rest
    → appended (marked new n) kept ≡ appended (marked old 0) front → IsPart old new text
part_of None None n text front rest kept is same = record { front = []; rest = text; text_is = refl; is = refl }
part_of None (Some bytes) n text front rest kept is same = cc
part_of (Some before) None n text front rest kept is same = cc
part_of (Some before) (Some bytes) n text front rest kept is same =
    let mark : length bytes - n ≡ length before - 0 = ap head_in same in
    let cut = cut_off before bytes kept front (omega (arith, mark)) (ap bytes_in same) in
    record {
      front = cut.given;
      rest = kept ++ rest;
      text_is = is ∙ ap (λ (f : List ℕ). f ++ rest) cut.front_is ∙ append_assoc cut.given kept rest;
      is = ap Some cut.now_is;
    }

pub tally_part : (old new start : SinkState) (γ γ' : GName) (n : ℕ) (text : List ℕ) (why : Refusal)
    → start ≡ tallied old γ 0 → FillsPart start (tallied new γ' n) text why → PutsFront old new text (refused_as why)
tally_part old new start γ γ' n text why at all =
    let part : FillsPart (tallied old γ 0) (tallied new γ' n) text why =
    subst (λ (s : SinkState). FillsPart s (tallied new γ' n) text why) at all in
    let front = part_of old.written new.written n text part.front part.rest part.kept part.text_is part.written_is in
    record {
      front = front.front;
      rest = front.rest;
      text_is = front.text_is;
      written_is = front.is;
      cause = cause_of why old.faults new.faults old.wants new.wants part.counted;
      beside_is = ap beneath part.beside_is;
    }
