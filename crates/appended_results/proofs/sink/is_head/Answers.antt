use Rattle.std.specs.Prelude.{◌≡◌, ℕ, ◌-◌, ◌<◌, Bool, List, length, drop, take}
use Rattle.std.specs.List.{list_all}
use Rattle.std.proofs.Common.{◌∙◌, sym, ap, arith}
use Rattle.std.proofs.lemmas.List.{get_or-map, length-map, length-drop, take_all}
use Rattle.level_core.specs.declared.letter.Letter.TheVariants.{Dense}
use Rattle.format_spec.specs.declared.format.FormatLevel.{FormatLevel}
use Rattle.format_spec.specs.Formats.{letters_of}
use Rattle.appended_results.specs.Heads.{is_full}
use Rattle.tensor_storage.proofs.Tables.{apart}
use Rattle.appended_results.proofs.HeadLengths.{tested_head, head_tests, full_levels, letters_below}
use Rattle.appended_results.proofs.sink.is_head.Goals as goal

abbrev none : FormatLevel
none = record { letter = Dense; mode = 0 }

-- the whole rest of a list
rest_is : (levels : List FormatLevel) (head : ℕ) → take (length levels - head) (drop head levels) ≡ drop head levels
rest_is levels head = let long = length-drop head levels in take_all (length levels - head) (drop head levels) (omega (arith, long))

abbrev all : List FormatLevel → Bool
all levels = list_all (λ (level : FormatLevel). is_full level.letter) levels

pub returns-then-is_full-clause-only : goal.returns-then-is_full-clause-only
returns-then-is_full-clause-only c =
    let levels = c.args.levels.now in
    let head = c.args.head in
    let inside : head - 1 < length levels = omega arith in
    λ is. apart (sym c.if-is_full.true ∙ c.is_full.ensures
    ∙ ap is_full (sym (get_or-map (λ (level : FormatLevel). level.letter) levels (head - 1) none Dense inside))
    ∙ (head_tests (letters_of levels) head is).0)

pub returns-clause-yes : goal.returns-clause-yes
returns-clause-yes c =
    let levels = c.args.levels.now in
    let head = c.args.head in
    let many = length-map levels (λ (level : FormatLevel). level.letter) in
    let inside : head - 1 < length levels = omega arith in
    λ yes. tested_head (letters_of levels) head (omega arith) (omega (arith, many))
    (ap is_full (get_or-map (λ (level : FormatLevel). level.letter) levels (head - 1) none Dense inside)
    ∙ sym c.is_full.ensures ∙ c.if-is_full.false)
    (ap (list_all is_full) (sym (letters_below levels head)) ∙ full_levels (drop head levels) ∙ ap all (sym (rest_is levels head))
    ∙ sym c.are_full.ensures ∙ yes)

pub returns-clause-only : goal.returns-clause-only
returns-clause-only c =
    let levels = c.args.levels.now in
    let head = c.args.head in
    λ is. c.are_full.ensures ∙ ap all (rest_is levels head) ∙ sym (full_levels (drop head levels))
    ∙ ap (list_all is_full) (letters_below levels head) ∙ (head_tests (letters_of levels) head is).1
