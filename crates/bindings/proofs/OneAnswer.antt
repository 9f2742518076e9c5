-- Words have one answer.
use Rattle.std.specs.Prelude.{◌≡◌, ℕ, suc, ◌<◌, Bool, true, List, [], ◌∷◌, length, Option, Some, None, is_some, Result, Ok, Err}
use Rattle.std.specs.Prelude.{slice_index_or, refl}
use Rattle.std.proofs.Common.{◌∙◌, sym, ap, subst, arith}
use Rattle.format_spec.specs.declared.format.FormatLevel.{FormatLevel}
use Rattle.format_spec.specs.declared.fault.FormatFault.{FormatFault}
use Rattle.format_spec.specs.Formats.{letters_of, modes_of}
use Rattle.format_spec.specs.Words.{Answers}
use Rattle.format_spec.proofs.WordLaws.{one_answer}
use Rattle.index_notation.specs.declared.syntax.Statement.{Statement}
use Rattle.bindings.specs.Words.{FormatText}
use Rattle.bindings.specs.Bindings.{first_in, format_in, path_in, order_of}
use Rattle.bindings.specs.Outcome.{first_named, AnswersFormat}
use Rattle.bindings.specs.Outcome.{Binds, IsRefused, IsWant}
use Rattle.bindings.specs.declared.fault.BindingFault.{BindingFault}
use Rattle.bindings.specs.declared.fault.BindingFault.TheVariants.{Word, NoFile, BadFormat, Memory}

pub same_files : (s : Statement) (words : List (List ℕ)) (need : Bool)
    (formats layouts : List (List FormatLevel)) (files others : List (ℕ × List ℕ)) (ranges given : List (Option ℕ))
    → Binds s words need formats files ranges → Binds s words need layouts others given → files ≡ others
same_files s words need formats layouts files others ranges given binds bind = binds.files_are ∙ sym bind.files_are

-- two lists of one length that agree at each place
lists_agree : {A : Type 0} (xs ys : List A) → length xs ≡ length ys
    → ((k : ℕ) (d : A) → k < length xs → slice_index_or xs k d ≡ slice_index_or ys k d) → xs ≡ ys
lists_agree [] [] long agree = refl
lists_agree [] (y ∷ ys) long agree = cc
lists_agree (x ∷ xs) [] long agree = cc
lists_agree (x ∷ xs) (y ∷ ys) long agree =
    ap (λ head. head ∷ xs) (agree 0 x (omega arith))
    ∙ ap (λ tail. y ∷ tail) (lists_agree xs ys (omega (arith, long)) (λ k d lt. agree (suc k) d (omega (arith, lt))))

pub same_ranges : (s : Statement) (words : List (List ℕ)) (need : Bool)
    (formats layouts : List (List FormatLevel)) (files others : List (ℕ × List ℕ)) (ranges given : List (Option ℕ))
    → Binds s words need formats files ranges → Binds s words need layouts others given → ranges ≡ given
same_ranges s words need formats layouts files others ranges given binds bind =
    lists_agree ranges given (binds.variables ∙ sym bind.variables) (λ var d lt.
    let within : var < length s.vars = subst (λ n. var < n) binds.variables lt in
    binds.ranges_are var d within ∙ sym (bind.ranges_are var d within))

-- levels are told by their letters and their modes
levels_same : (xs ys : List FormatLevel) → letters_of xs ≡ letters_of ys → modes_of xs ≡ modes_of ys → xs ≡ ys
levels_same [] [] letters modes = refl
levels_same [] (y ∷ ys) letters modes = absurd cc
levels_same (x ∷ xs) [] letters modes = absurd cc
levels_same (x ∷ xs) (y ∷ ys) letters modes =
    let letter : x.letter ≡ y.letter = cc in
    let mode : x.mode ≡ y.mode = cc in
    let letters_left : letters_of xs ≡ letters_of ys = cc in
    let modes_left : modes_of xs ≡ modes_of ys = cc in
    let rest = levels_same xs ys letters_left modes_left in
    λ i. record { letter = letter i; mode = mode i } ∷ rest i

abbrev ok_or : List FormatLevel → Result (List FormatLevel) FormatFault → List FormatLevel
ok_or d (Ok levels) = levels
ok_or d (Err fault) = d

format_once : (text : Option FormatText) (order : ℕ) (levels others : List FormatLevel)
    → AnswersFormat text order (Ok levels) → AnswersFormat text order (Ok others) → levels ≡ others
format_once None order levels others is be =
    levels_same levels others (is.0 ∙ sym be.0) (is.1 ∙ sym be.1)
format_once (Some text) order levels others is be =
    ap (ok_or []) (one_answer text.letters text.order order (Ok levels) (Ok others) is be)

pub same_formats : (s : Statement) (words : List (List ℕ)) (need : Bool)
    (formats layouts : List (List FormatLevel)) (files others : List (ℕ × List ℕ)) (ranges given : List (Option ℕ))
    → Binds s words need formats files ranges → Binds s words need layouts others given → formats ≡ layouts
same_formats s words need formats layouts files others ranges given binds bind =
    lists_agree formats layouts (binds.formats_are.tensors ∙ sym bind.formats_are.tensors) (λ tensor d lt.
    let within : tensor < length s.tensors = subst (λ n. tensor < n) binds.formats_are.tensors lt in
    format_once (first_in (format_in s (first_named s.tensors tensor)) words) (order_of s tensor) (slice_index_or formats tensor d)
    (slice_index_or layouts tensor d) (binds.formats_are.are tensor d within) (bind.formats_are.are tensor d within))

-- a format is there or isn't
answers_apart : (text : FormatText) (order : ℕ) (levels : List FormatLevel) (fault : FormatFault)
    → Answers text.letters text.order order (Ok levels) → Answers text.letters text.order order (Err fault) → ⊥
answers_apart text order levels fault is bad = apart (one_answer text.letters text.order order (Ok levels) (Err fault) is bad)
  where
    apart : {A B : Type 0} {x : A} {y : B} → Ok x ≡ Err y → ⊥
    apart h = cc

format_apart : (text : Option FormatText) (order : ℕ) (levels : List FormatLevel) (fault : FormatFault)
    → AnswersFormat text order (Ok levels) → AnswersFormat text order (Err fault) → ⊥
format_apart None order levels fault is bad = bad
format_apart (Some text) order levels fault is bad = answers_apart text order levels fault is bad

none_is_some : (o : Option (List ℕ)) → is_some o ≡ true → o ≡ None → ⊥
none_is_some None some none = cc
none_is_some (Some x) some none = cc

pub never_both : (s : Statement) (words : List (List ℕ)) (need : Bool)
    (formats : List (List FormatLevel)) (files : List (ℕ × List ℕ)) (ranges : List (Option ℕ)) (fault : BindingFault)
    → Binds s words need formats files ranges → IsRefused s words need fault → IsWant fault
never_both s words need formats files ranges (Word word why) binds first =
    apart (sym (binds.sound first.at first.within) ∙ first.is)
  where
    apart : {A : Type 0} {x : A} → None ≡ Some x → ⊥
    apart h = cc
never_both s words need formats files ranges (NoFile tensor) binds lacks =
    none_is_some (first_in (path_in s (first_named s.tensors tensor)) words)
    (binds.all_read lacks.needed tensor lacks.lacks.operand lacks.lacks.within) lacks.lacks.lacks
never_both s words need formats files ranges (BadFormat tensor why) binds bad =
    format_apart (first_in (format_in s (first_named s.tensors tensor)) words) (order_of s tensor) (slice_index_or formats tensor []) why
    (binds.formats_are.are tensor [] bad.bad.within) bad.bad.is
never_both s words need formats files ranges (Memory error) binds want = want
