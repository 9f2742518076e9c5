-- Lines that are entries are no comments, and are read as these.
use Rattle.std.specs.Prelude.{◌≡◌, ℕ, suc, ◌+◌, Bool, true, false, cond, nat_lt, ◌==◌}
use Rattle.std.specs.Prelude.{List, [], ◌∷◌, length, take, Option, None, Ok, refl}
use Rattle.std.specs.List.{list_all, after_first, position_or_len}
use Rattle.std.specs.Option.{option_map}
use Rattle.std.specs.Str.{all_ascii_digits}
use Rattle.std.proofs.Common.{arith, ap, sym, subst, ◌∙◌}
use Rattle.std.proofs.lemmas.Bool.{and_right, eq-eqb, eqb-true}
use Rattle.tensor_map.specs.Entries.{Entry}
use Rattle.text_lines.specs.Cutting.{is_long}
use Rattle.text_lines.specs.Numbers.{is_decimal, is_point, number_of, whole_part_of, whole_within, with_sign}
use Rattle.text_lines.specs.Tokens.{tokens}
use Rattle.text_lines.proofs.NumberLaws.{no_number}
use Rattle.tns_io.specs.Fields.{IsEntryOf}
use Rattle.tns_io.specs.Reading.{coordinate_from, coordinate_of, entry_of, is_comment, read_or_bad, reading, reading_of_tokens}
use Rattle.tns_io.specs.Reading.{value_alone, value_from, with_first}
use Rattle.tns_io.specs.Reading.Reading.{Skipped, Read, Bad}
use Rattle.text_lines.specs.declared.line_kind.LineKind.TheVariants.{LongLine, Fields}

-- a comment stands for no entry
no_number_of_comment : (text : List ℕ) → number_of (35 ∷ text) ≡ None
no_number_of_comment text = no_number (35 ∷ text) (and_right (nat_lt 0 (length (35 ∷ text))) (all_ascii_digits (35 ∷ text)) refl)

no_whole_of_comment : (text : List ℕ) → whole_part_of (35 ∷ text) ≡ None
no_whole_of_comment text =
    let more : 1 + position_or_len is_point text ≡ suc (position_or_len is_point text) = omega arith in
    ap (λ (n : ℕ). cond (list_all (λ byte. byte == 48) (after_first is_point (35 ∷ text))) (number_of (take n (35 ∷ text))) None) more
    ∙ ap (λ r. cond (list_all (λ byte. byte == 48) (after_first is_point (35 ∷ text))) r None)
    (no_number_of_comment (take (position_or_len is_point text) text))
    ∙ same (list_all (λ byte. byte == 48) (after_first is_point (35 ∷ text))) None
  where
    same : (b : Bool) (number : Option ℕ) → cond b number number ≡ number
    same true number = refl
    same false number = refl

comment_is_no_entry : (signed : Bool) (text : List ℕ) (more : List (List ℕ)) (entry : Entry)
    → entry_of signed ((35 ∷ text) ∷ more) ≡ Ok entry → ⊥
comment_is_no_entry signed text [] entry e = by (is_decimal (35 ∷ text)) (sym value ∙ e)
  where
    value : entry_of signed ((35 ∷ text) ∷ []) ≡ value_alone (value_from signed (whole_within (is_decimal (35 ∷ text)) None))
    value =
        ap (λ z. value_alone (value_from signed (whole_within (is_decimal (35 ∷ text)) (option_map (with_sign false) z))))
        (no_whole_of_comment text)

    by : (b : Bool) → value_alone (value_from signed (whole_within b None)) ≡ Ok entry → ⊥
    by true h = absurd (cc)
    by false h = absurd (cc)
comment_is_no_entry signed text (next ∷ more) entry e =
    let first : with_first (coordinate_of (35 ∷ text)) (entry_of signed (next ∷ more))
    ≡ with_first (coordinate_from None) (entry_of signed (next ∷ more)) =
    ap (λ n. with_first (coordinate_from n) (entry_of signed (next ∷ more))) (no_number_of_comment text) in
    absurd (cc)

no_comment : (signed : Bool) (token : List ℕ) (more : List (List ℕ)) (entry : Entry) → entry_of signed (token ∷ more) ≡ Ok entry
    → is_comment token ≡ false
no_comment signed [] more entry e = refl
no_comment signed (c ∷ text) more entry e = by (c == 35) refl
  where
    by : (b : Bool) → (c == 35) ≡ b → (c == 35) ≡ false
    by false t = t
    by true t =
        absurd (comment_is_no_entry signed text more entry
        (subst (λ (x : ℕ). entry_of signed ((x ∷ text) ∷ more) ≡ Ok entry) (eqb-true c 35 t) e))

-- a line whose tokens are an entry is read as that
pub tokens_are_read : (signed : Bool) (order : ℕ) (ts : List (List ℕ)) (entry : Entry) → length ts ≡ order + 1
    → entry_of signed ts ≡ Ok entry
    → reading_of_tokens signed order ts ≡ Read entry
tokens_are_read signed order [] entry long e = absurd (omega arith)
tokens_are_read signed order (token ∷ more) entry long e =
    ap (λ b. cond b Skipped (cond (length more == order) (read_or_bad (entry_of signed (token ∷ more))) (Bad Fields)))
    (no_comment signed token more entry e)
    ∙ ap (λ b. cond b (read_or_bad (entry_of signed (token ∷ more))) (Bad Fields)) (eq-eqb (length more) order (omega arith))
    ∙ ap read_or_bad e

pub plain_is_read : (signed : Bool) (order : ℕ) (line coords : List ℕ) (value : ℕ) → is_long line ≡ false
    → IsEntryOf signed order (tokens line) coords (Ok value) → reading signed order line ≡ Read (record { coords = coords; value = value })
plain_is_read signed order line coords value short entry =
    ap (λ b. cond b (Bad LongLine) (reading_of_tokens signed order (tokens line))) short
    ∙ tokens_are_read signed order (tokens line) (record { coords = coords; value = value }) entry.0 entry.1
