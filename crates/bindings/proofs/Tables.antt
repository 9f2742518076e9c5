-- One more word behind those that are bound.
use Rattle.std.specs.Prelude.{◌≡◌, ◌≢◌, ℕ, ◌<◌, ◌==◌, Bool, true, false, not, nat_lt, List, [], ◌∷◌, ◌++◌, length, map}
use Rattle.std.specs.Prelude.{Option, Some, None, is_some, if◌then◌else◌, slice_index_or, slice_set, refl}
use Rattle.std.specs.Option.{option_map}
use Rattle.std_collections.specs.Map.{lookup}
use Rattle.std.proofs.Common.{sym, ◌∙◌, ap, subst, arith, cond}
use Rattle.std.proofs.lemmas.Grind.{common_steps}
use Rattle.lists.proofs.Tests.{same_number, number_same, number_apart}
use Rattle.index_notation.specs.Numbering.{place_of}
use Rattle.index_notation.specs.declared.syntax.Statement.{Statement}
use Rattle.bindings.specs.Words.{Said, SaysFormat, SaysFile, SaysRange, said_of}
use Rattle.bindings.specs.Bindings.{first_in, or_later, format_in, path_in, range_in, is_bound, is_no_matrix, is_above_limit}
use Rattle.bindings.specs.Bindings.{number_in, names_for, fault_of_said}
use Rattle.bindings.specs.declared.fault.WordFault.{WordFault}
use Rattle.bindings.specs.declared.fault.WordFault.TheVariants.{UnknownName, Twice, NotMatrix, RangeLimit}
use Rattle.bindings.specs.declared.bound.Bound.{Bound}
use Rattle.bindings.specs.declared.tensor_file.TensorFile.{TensorFile}
use Rattle.bindings.specs.declared.word.FormatText.{FormatText}
use Rattle.limits.specs.Limits.{greatest_range_word}
use Rattle.std.specs.Str.Parse.{digits_value}
use Rattle.std.proofs.lemmas.List.{append-nil, map-append}
use Rattle.bindings.specs.Views.{text_in}
use Rattle.std.specs.Vec.{with_item}
use Rattle.bindings.specs.Outcome.{files_in, with_file}
use Rattle.bindings.specs.Tables.{file_in, IsBound}

or_later_assoc : {X : Type 0} (a b c : Option X) → or_later a (or_later b c) ≡ or_later (or_later a b) c
or_later_assoc None b c = refl
or_later_assoc (Some x) b c = refl

or_later_none : {X : Type 0} (a : Option X) → or_later a None ≡ a
or_later_none None = refl
or_later_none (Some x) = refl

-- what is said first, with one word more
pub first_in_more : {X : Type 0} (pick : Option Said → Option X) (words : List (List ℕ)) (word : List ℕ)
    → first_in pick (words ++ word ∷ []) ≡ or_later (first_in pick words) (pick (said_of word))
first_in_more pick [] word = or_later_none (pick (said_of word))
first_in_more pick (first ∷ words) word = ap (or_later (pick (said_of first))) (first_in_more pick words word)
    ∙ or_later_assoc (pick (said_of first)) (first_in pick words) (pick (said_of word))

-- where nothing was said yet, or the word says nothing of it
pub first_in_new : {X : Type 0} (pick : Option Said → Option X) (words : List (List ℕ)) (word : List ℕ) → first_in pick words ≡ None
    → first_in pick (words ++ word ∷ []) ≡ pick (said_of word)
first_in_new pick words word none = first_in_more pick words word ∙ ap (λ o. or_later o (pick (said_of word))) none

pub first_in_kept : {X : Type 0} (pick : Option Said → Option X) (words : List (List ℕ)) (word : List ℕ) → pick (said_of word) ≡ None
    → first_in pick (words ++ word ∷ []) ≡ first_in pick words
first_in_kept pick words word none = first_in_more pick words word ∙ ap (or_later (first_in pick words)) none
    ∙ or_later_none (first_in pick words)

-- the files, with one word more
files_more : (s : Statement) (said : Option Said) (files more : List (ℕ × List ℕ))
    → with_file s said (files ++ more) ≡ with_file s said files ++ more
files_more s None files more = refl
files_more s (Some (SaysFormat name text)) files more = refl
files_more s (Some (SaysFile name path)) files more = refl
files_more s (Some (SaysRange name digits)) files more = refl

pub files_in_more : (s : Statement) (words : List (List ℕ)) (word : List ℕ)
    → files_in s (words ++ word ∷ []) ≡ files_in s words ++ with_file s (said_of word) []
files_in_more s [] word = refl
files_in_more s (first ∷ words) word = ap (with_file s (said_of first)) (files_in_more s words word)
    ∙ files_more s (said_of first) (files_in s words) (with_file s (said_of word) [])

-- ---- whether a tensor has a file
pub eq_turned : (n m : ℕ) → (n == m) ≡ (m == n)
eq_turned n m = by_case (m == n) refl
  where
    by_case : (b : Bool) → (m == n) ≡ b → (n == m) ≡ b
    by_case true is = ap (λ k. n == k) (same_number m n is) ∙ number_same n
    by_case false is = number_apart n m (λ same. let never : (m == n) ≡ true = ap (λ k. m == k) same ∙ number_same m in cc)

abbrev found : {X : Type 0} → ℕ → List (ℕ × X) → Bool
found n files = is_some (lookup (λ k. n == k) files)

found_in_words : (s : Statement) (n : ℕ) (words : List (List ℕ)) → found n (files_in s words) ≡ is_some (first_in (path_in s n) words)
found_in_words s n [] = refl
found_in_words s n (word ∷ words) = by_said (said_of word) (found_in_words s n words)
  where
    by_said : (said : Option Said) → found n (files_in s words) ≡ is_some (first_in (path_in s n) words)
        → found n (with_file s said (files_in s words)) ≡ is_some (or_later (path_in s n said) (first_in (path_in s n) words))
    by_said None later = later
    by_said (Some (SaysFormat name text)) later = later
    by_said (Some (SaysRange name digits)) later = later
    by_said (Some (SaysFile name path)) later =
        let place : ℕ = place_of s.tensors (record { bytes = name }) in
        ap (λ b. is_some (cond b (Some path) (lookup (λ k. n == k) (files_in s words)))) (eq_turned n place) ∙ by_place (place == n)
      where
        by_place : (b : Bool) → is_some (cond b (Some path) (lookup (λ k. n == k) (files_in s words)))
            ≡ is_some (or_later (if b then Some path else None) (first_in (path_in s n) words))
        by_place true = refl
        by_place false = later

found_in_view : (n : ℕ) (files : List (ℕ × TensorFile)) → found n files ≡ found n (map file_in files)
found_in_view n [] = refl
found_in_view n (file ∷ files) = by_key (n == file.0) (found_in_view n files)
  where
    by_key : (b : Bool) → found n files ≡ found n (map file_in files)
        → is_some (cond b (Some file.1) (lookup (λ k. n == k) files)) ≡ is_some
        (cond b (Some file.1.path.now) (lookup (λ k. n == k) (map file_in files)))
    by_key true later = refl
    by_key false later = later

pub file_found : (s : Statement) (words : List (List ℕ)) (n : ℕ) (files : List (ℕ × TensorFile)) → map file_in files ≡ files_in s words
    → is_some (lookup (λ k. n == k) files) ≡ is_some (first_in (path_in s n) words)
file_found s words n files are = found_in_view n files ∙ ap (found n) are ∙ found_in_words s n words

pub is_some_map : {X Y : Type 0} (f : X → Y) (o : Option X) → is_some (option_map f o) ≡ is_some o
is_some_map f None = refl
is_some_map f (Some x) = refl

-- ---- a word that is bound
pub none_if_absent : {X : Type 0} (o : Option X) → is_some o ≡ false → o ≡ None
none_if_absent None h = refl
none_if_absent (Some x) h = cc

-- a word without a fault says something new
pub is_new : (s : Statement) (words : List (List ℕ)) (said : Said) → fault_of_said s words said ≡ None → is_bound s words said ≡ false
is_new s words said sound = by_known (nat_lt (number_in s said) (length (names_for s said))) (is_bound s words said) sound
  where
    rest : Option WordFault
    rest = if is_no_matrix s said then Some NotMatrix else (if is_above_limit said then Some RangeLimit else None)

    by_known : (known old : Bool) → (if not known then Some UnknownName else (if old then Some Twice else rest)) ≡ None → old ≡ false
    by_known true false h = refl
    by_known true true h = cc
    by_known false old h = cc

-- a word without a fault gives no range above the limit
pub not_above : (s : Statement) (words : List (List ℕ)) (name digits : List ℕ) → fault_of_said s words (SaysRange name digits) ≡ None
    → nat_lt greatest_range_word (digits_value 10 digits) ≡ false
not_above s words name digits sound =
    by_tests (nat_lt (number_in s (SaysRange name digits)) (length s.vars)) (is_bound s words (SaysRange name digits))
    (nat_lt greatest_range_word (digits_value 10 digits)) sound
  where
    by_tests : (known old above : Bool) → (if not known then Some UnknownName else (if old then Some Twice
        else (if false then Some NotMatrix else (if above then Some RangeLimit else None)))) ≡ None → above ≡ false
    by_tests true false false h = refl
    by_tests true false true h = cc
    by_tests true true above h = cc
    by_tests false old above h = cc

-- one place is filled
module _ {X Y : Type 0} (view : Option Y → Option X) (items : List (Option Y)) (number : ℕ) (value : Option Y)
    (pick : ℕ → Option Said → Option X) (words : List (List ℕ)) (word : List ℕ) where
  filled_there : (d : Option Y) → number < length items → first_in (pick number) words ≡ None → pick number (said_of word) ≡ view value
      → view (slice_index_or (slice_set items number value) number d) ≡ first_in (pick number) (words ++ word ∷ [])
  filled_there d within none is =
      let there : slice_index_or (slice_set items number value) number d ≡ value = grind (arith, common_steps) in
      ap view there ∙ sym is ∙ sym (first_in_new (pick number) words word none)

  pub filled : ((at : ℕ) (d : Option Y) → at < length items → view (slice_index_or items at d) ≡ first_in (pick at) words)
      → number < length items → first_in (pick number) words ≡ None → pick number (said_of word) ≡ view value
      → ((at : ℕ) → at ≢ number → pick at (said_of word) ≡ None) → (at : ℕ) (d : Option Y) → at < length items
      → view (slice_index_or (slice_set items number value) at d) ≡ first_in (pick at) (words ++ word ∷ [])
  filled before within none is others at d lt = by_place (at == number) refl
    where
      by_place : (b : Bool) → (at == number) ≡ b
          → view (slice_index_or (slice_set items number value) at d) ≡ first_in (pick at) (words ++ word ∷ [])
      by_place true same =
          let here : number ≡ at = sym (same_number at number same) in
          subst (λ k. view (slice_index_or (slice_set items number value) k d) ≡ first_in (pick k) (words ++ word ∷ [])) here
          (filled_there d within none is)
      by_place false apart =
          let other : at ≢ number = λ same. let yes : (at == number) ≡ true = ap (λ k. at == k) (sym same) ∙ number_same at in cc in
          let kept : slice_index_or (slice_set items number value) at d ≡ slice_index_or items at d = grind (arith, common_steps, other) in
          ap view kept ∙ before at d lt ∙ sym (first_in_kept (pick at) words word (others at other))

-- a word that says nothing of a table leaves it
kept : {X Y : Type 0} (view : Option Y → Option X) (items : List (Option Y)) (pick : ℕ → Option Said → Option X) (words : List (List ℕ))
    (word : List ℕ) (count : ℕ) → ((at : ℕ) (d : Option Y) → at < count → view (slice_index_or items at d) ≡ first_in (pick at) words)
    → ((at : ℕ) → pick at (said_of word) ≡ None) → (at : ℕ) (d : Option Y) → at < count
    → view (slice_index_or items at d) ≡ first_in (pick at) (words ++ word ∷ [])
kept view items pick words word count before none at d lt = before at d lt ∙ sym (first_in_kept (pick at) words word (none at))

no_file_more : (s : Statement) (words : List (List ℕ)) (word : List ℕ) (files : List (ℕ × List ℕ)) → files ≡ files_in s words
    → with_file s (said_of word) [] ≡ [] → files ≡ files_in s (words ++ word ∷ [])
no_file_more s words word files are none =
    are ∙ sym (append-nil (files_in s words)) ∙ ap (λ more. files_in s words ++ more) (sym none) ∙ sym (files_in_more s words word)

elsewhere : (place at : ℕ) → at ≢ place → (place == at) ≡ false
elsewhere place at other = number_apart place at (λ same. other (sym same))

module _ (s : Statement) (words : List (List ℕ)) (text : List ℕ) (bound : Bound) (number : ℕ) (name : List ℕ)
    (is : IsBound s words bound) where
  -- the text of a format is bound
  pub format_bound : (format : FormatText) → number ≡ place_of s.tensors (record { bytes = name }) → number < length s.tensors
      → said_of text ≡ Some (SaysFormat name (text_in format)) → fault_of_said s words (SaysFormat name (text_in format)) ≡ None
      → IsBound s (words ++ text ∷ []) (record bound { texts = with_item bound.texts number (Some format) })
  format_bound format place within said sound =
      let new : first_in (format_in s number) words ≡ None = ap (λ n. first_in (format_in s n) words) place
      ∙ none_if_absent _ (is_new s words (SaysFormat name (text_in format)) sound) in
      let here : format_in s number (said_of text) ≡ Some (text_in format) = ap (format_in s number) said
      ∙ ap (λ n. if n == number then Some (text_in format) else None) (sym place)
      ∙ ap (λ b. if b then Some (text_in format) else None) (number_same number) in
      let others : (at : ℕ) → at ≢ number → format_in s at (said_of text) ≡ None = λ at other. ap (format_in s at) said
      ∙ ap (λ n. if n == at then Some (text_in format) else None) (sym place)
      ∙ ap (λ b. if b then Some (text_in format) else None) (elsewhere number at other) in
      let long : length bound.texts.items ≡ length s.tensors = is.places.tensors in
      let same_long : length (slice_set bound.texts.items number (Some format)) ≡ length s.tensors = grind (arith, common_steps) in
      record {
        places = record { tensors = same_long; variables = is.places.variables };
        texts = λ at d lt. filled (option_map text_in) bound.texts.items number (Some format) (format_in s) words text
            (λ k e l. is.texts k e (omega (arith, l, long))) (omega (arith, within, long)) new here others at d (omega (arith, lt, long));
        files = no_file_more s words text _ is.files (ap (λ o. with_file s o []) said);
        ranges = kept (λ o. o) bound.ranges.items (range_in s) words text (length s.vars) is.ranges (λ at. ap (range_in s at) said);
      }

  -- the range of a variable is bound
  pub range_bound : (digits : List ℕ) (range : Option ℕ) → number ≡ place_of s.vars (record { bytes = name }) → number < length s.vars
      → said_of text ≡ Some (SaysRange name digits)
      → range ≡ (if nat_lt greatest_range_word (digits_value 10 digits) then None else Some (digits_value 10 digits))
      → fault_of_said s words (SaysRange name digits) ≡ None
      → IsBound s (words ++ text ∷ []) (record bound { ranges = with_item bound.ranges number range })
  range_bound digits range place within said value sound =
      let new : first_in (range_in s number) words ≡ None = ap (λ n. first_in (range_in s n) words) place
      ∙ none_if_absent _ (is_new s words (SaysRange name digits) sound) in
      let fits : range ≡ Some (digits_value 10 digits) = value
      ∙ ap (λ b. if b then None else Some (digits_value 10 digits)) (not_above s words name digits sound) in
      let here : range_in s number (said_of text) ≡ range = ap (range_in s number) said
      ∙ ap (λ n. if n == number then Some (digits_value 10 digits) else None) (sym place)
      ∙ ap (λ b. if b then Some (digits_value 10 digits) else None) (number_same number) ∙ sym fits in
      let others : (at : ℕ) → at ≢ number → range_in s at (said_of text) ≡ None = λ at other. ap (range_in s at) said
      ∙ ap (λ n. if n == at then Some (digits_value 10 digits) else None) (sym place)
      ∙ ap (λ b. if b then Some (digits_value 10 digits) else None) (elsewhere number at other) in
      let long : length bound.ranges.items ≡ length s.vars = is.places.variables in
      let same_long : length (slice_set bound.ranges.items number range) ≡ length s.vars = grind (arith, common_steps) in
      record {
        places = record { tensors = is.places.tensors; variables = same_long };
        texts = kept (option_map text_in) bound.texts.items (format_in s) words text (length s.tensors) is.texts
            (λ at. ap (format_in s at) said);
        files = no_file_more s words text _ is.files (ap (λ o. with_file s o []) said);
        ranges = λ at d lt. filled (λ o. o) bound.ranges.items number range (range_in s) words text
            (λ k e l. is.ranges k e (omega (arith, l, long))) (omega (arith, within, long)) new here others at d (omega (arith, lt, long));
      }

  -- the file of a tensor is bound
  pub file_bound : (file : TensorFile) (files : List (ℕ × TensorFile)) (now : Bound)
      → number ≡ place_of s.tensors (record { bytes = name })
      → said_of text ≡ Some (SaysFile name file.path.now) → files ≡ bound.files.entries ++ (number, file) ∷ []
      → now.files.entries ≡ files → now.texts ≡ bound.texts → now.ranges ≡ bound.ranges
      → IsBound s (words ++ text ∷ []) now
  file_bound file files now place said more entries texts ranges =
      let one : with_file s (said_of text) [] ≡ (number, file.path.now) ∷ [] = ap (λ o. with_file s o []) said
      ∙ ap (λ n. (n, file.path.now) ∷ []) (sym place) in
      let all : map file_in now.files.entries ≡ files_in s (words ++ text ∷ []) = ap (map file_in) (entries ∙ more)
      ∙ map-append file_in bound.files.entries ((number, file) ∷ []) ∙ ap (λ l. l ++ (number, file.path.now) ∷ []) is.files
      ∙ ap (λ l. files_in s words ++ l) (sym one) ∙ sym (files_in_more s words text) in
      record {
        places = record {
          tensors = ap (λ v. length v.items) texts ∙ is.places.tensors;
          variables = ap (λ v. length v.items) ranges ∙ is.places.variables;
        };
        texts = λ at d lt. ap (λ v. option_map text_in (slice_index_or v.items at d)) texts
            ∙ kept (option_map text_in) bound.texts.items (format_in s) words text (length s.tensors) is.texts
            (λ k. ap (format_in s k) said) at d lt;
        files = all;
        ranges = λ at d lt. ap (λ v. slice_index_or v.items at d) ranges
            ∙ kept (λ o. o) bound.ranges.items (range_in s) words text (length s.vars) is.ranges (λ k. ap (range_in s k) said) at d lt;
      }

  pub file_is_new : (path : List ℕ) → number ≡ place_of s.tensors (record { bytes = name })
      → fault_of_said s words (SaysFile name path) ≡ None
      → lookup (λ k. number == k) bound.files.entries ≡ None
  file_is_new path place sound = none_if_absent _ (file_found s words number bound.files.entries is.files
      ∙ ap (λ n. is_some (first_in (path_in s n) words)) place ∙ is_new s words (SaysFile name path) sound)
