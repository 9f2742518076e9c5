-- What code reads of a level that is sought.
use Rattle.std.specs.Prelude.{◌≡◌, ℕ, zero, suc, ◌+◌, ◌-◌, ◌≤◌, ◌<◌, nat_lt, Bool, true, false, List, [], ◌∷◌, length}
use Rattle.std.specs.Prelude.{Some, slice_get, slice_index}
use Rattle.std.specs.Prelude.{slice_index_or, refl}
use Rattle.std.proofs.Common.{◌∙◌, sym, ap, subst, arith}
use Rattle.std.proofs.lemmas.Bool.Decides.{nat_tests}
use Rattle.std.proofs.lemmas.Option.{slice_get-get_or}
use Rattle.format_spec.specs.declared.format.FormatLevel.{FormatLevel}
use Rattle.level_core.specs.declared.letter.Letter.{Letter}
use Rattle.level_core.specs.declared.letter.Letter.TheVariants.{Dense}
use Rattle.format_spec.specs.Formats.{letters_of, modes_of}
use Rattle.iteration_graph.specs.Edges.{by_level, format_of}
use Rattle.index_notation.specs.declared.syntax.Access.{Access}
use Rattle.index_notation.specs.declared.syntax.Statement.{Statement}
use Rattle.lists.specs.Each.{Each}
use Rattle.loop_code.specs.declared.loops.Seek.{Seek}
use Rattle.index_notation.specs.Statement.{IsNumbered, IsRead as IsReadAccess}
use Rattle.lowering.specs.Layouts.{at_level, layout_of, levels_of, variables_of}
use Rattle.lowering.specs.Sums.{SuitsFormats}
use Rattle.lowering.proofs.Steps.{format_read, level_variable, levels_long}
use Rattle.level_location.specs.Walked.{IsLevel, letter_of}

-- what is read of a list is an element of it
pub get_read : {X : Type 0} (xs : List X) (i : ℕ) (x : X) → i < length xs → x ≡ slice_index_or xs i x → slice_get xs i ≡ Some x
get_read xs i x l read = slice_get-get_or xs i x l ∙ ap Some (sym read)

each_at : {X : Type 0} (P : X → Type 0) (xs : List X) (i : ℕ) (x : X) → Each P xs → i < length xs → x ≡ slice_index_or xs i x → P x
each_at P [] i x h l read = absurd (omega (arith, l))
each_at P (y ∷ ys) zero x h l read = subst P (sym read) h.0
each_at P (y ∷ ys) (suc i) x h l read = each_at P ys i x h.1 (omega (arith, l)) read

-- an access and its format as code reads them
pub record IsRead (s : Statement) (formats : List (List FormatLevel)) (seek : Seek) (access : Access) (format : List FormatLevel)
    : Type 0 where
  pub there : slice_get s.accesses seek.access ≡ Some access
  pub format_is : format ≡ format_of formats access.tensor
  pub order : length format ≡ length access.vars

-- a tensor without a format has no levels
no_format : (formats : List (List FormatLevel)) (tensor : ℕ) → length formats ≤ tensor → format_of formats tensor ≡ []
no_format [] tensor l = refl
no_format (f ∷ formats) zero l = absurd (omega (arith, l))
no_format (f ∷ formats) (suc tensor) l = no_format formats tensor (omega (arith, l))

-- so the tensor of which a level is sought has one
pub format_there : (s : Statement) (formats : List (List FormatLevel)) (seek : Seek) (access : Access) → IsLevel s formats seek
    → access ≡ slice_index_or s.accesses seek.access access → access.tensor < length formats
format_there s formats seek access is read = by_size (nat_lt access.tensor (length formats)) refl
  where
    levels : length (by_level (format_of formats access.tensor) access.vars) ≡ (layout_of s formats).levels seek.access
    levels = ap (λ o. length (variables_of formats o)) (sym (get_read s.accesses seek.access access is.access read))

    none : length formats ≤ access.tensor → ⊥
    none l =
        let empty : length (by_level (format_of formats access.tensor) access.vars) ≡ 0 =
        ap (λ f. length (by_level f access.vars)) (no_format formats access.tensor l) in
        let first = is.first in
        let last = is.last in
        omega (arith, levels, empty, first, last)

    by_size : (b : Bool) → nat_lt access.tensor (length formats) ≡ b → access.tensor < length formats
    by_size true h = grind (arith, nat_tests, h)
    by_size false h = absurd (none (grind (arith, nat_tests, h)))

pub is_read : (s : Statement) (formats : List (List FormatLevel)) (seek : Seek) (access : Access) (format : List FormatLevel)
    → Each (SuitsFormats formats) s.accesses → IsLevel s formats seek → access ≡ slice_index_or s.accesses seek.access access
    → format ≡ slice_index_or formats access.tensor format → IsRead s formats seek access format
is_read s formats seek access format each is read same =
    let below = format_there s formats seek access is read in
    let format_is = format_read formats access format below same in
    let has = each_at (SuitsFormats formats) s.accesses seek.access access each is.access read below in record {
      there = get_read s.accesses seek.access access is.access read;
      format_is = format_is;
      order = ap length format_is ∙ has.order;
    }

pub variable_read : (s : Statement) (formats : List (List FormatLevel)) (seek : Seek) (access : Access) (format : List FormatLevel)
    (mode variable : ℕ) → IsLevel s formats seek → IsRead s formats seek access format
    → slice_get (modes_of format) (seek.level - 1) ≡ Some mode → variable ≡ slice_index access.vars mode
    → variable ≡ (layout_of s formats).variable seek.access seek.level
variable_read s formats seek access format mode variable is r h read =
    let first = is.first in
    let level : suc (seek.level - 1) ≡ seek.level = omega (arith, first) in
    let at : seek.level - 1 + 1 - 1 ≡ seek.level - 1 = omega arith in
    read
    ∙ level_variable access.vars (modes_of format) (seek.level - 1) mode 0 0 (ap (slice_get (modes_of format)) at ∙ h) refl
    ∙ ap (λ n. at_level (by_level format access.vars) n 0) level
    ∙ ap (λ f. at_level (by_level f access.vars) seek.level 0) r.format_is
    ∙ ap (λ o. at_level (variables_of formats o) seek.level 0) (sym r.there)

-- the level is one of the format that was read
pub level_within : (s : Statement) (formats : List (List FormatLevel)) (seek : Seek) (access : Access) (format : List FormatLevel)
    → IsLevel s formats seek → IsRead s formats seek access format → seek.level ≤ length format
level_within s formats seek access format is r =
    let last = is.last in
    let same : length (variables_of formats (slice_get s.accesses seek.access)) ≡ length
    (by_level (format_of formats access.tensor) access.vars) =
    ap (λ o. length (variables_of formats o)) r.there in
    let levels = levels_long (format_of formats access.tensor) access.vars in
    let read : length format ≡ length (format_of formats access.tensor) = ap length r.format_is in
    omega (arith, last, same, levels, read)

index_read : {X : Type 0} (xs : List X) (i : ℕ) (x d : X) → slice_get xs i ≡ Some x → x ≡ slice_index_or xs i d
index_read [] i x d h = absurd (cc h)
index_read (y ∷ ys) zero x d h = cc
index_read (y ∷ ys) (suc i) x d h = index_read ys i x d h

pub letter_read : (s : Statement) (formats : List (List FormatLevel)) (seek : Seek) (access : Access) (format : List FormatLevel)
    (letter : Letter) → IsLevel s formats seek → IsRead s formats seek access format
    → slice_get (letters_of format) (seek.level - 1) ≡ Some letter → letter ≡ letter_of s formats seek
letter_read s formats seek access format letter is r h =
    let first = is.first in
    let level : suc (seek.level - 1) ≡ seek.level = omega (arith, first) in
    index_read (letters_of format) (seek.level - 1) letter Dense h
    ∙ ap (λ n. at_level (letters_of format) n Dense) level
    ∙ ap (λ f. at_level (letters_of f) seek.level Dense) r.format_is
    ∙ ap (λ o. at_level (letters_of (levels_of formats o)) seek.level Dense) (sym r.there)

-- a variable that is read is one of the statement's
pub variable_within : (s : Statement) (seek : Seek) (access : Access) (mode variable : ℕ) → IsNumbered s → seek.access < length s.accesses
    → access ≡ slice_index_or s.accesses seek.access access → mode < length access.vars → variable ≡ slice_index access.vars mode
    → variable < length s.vars
variable_within s seek access mode variable numbered l read within is =
    let stands = each_at (IsReadAccess (length s.tensors) (length s.vars)) s.accesses seek.access access numbered.right l read in
    each_at (λ v. v < length s.vars) access.vars mode variable stands.vars_stand within
    (is ∙ read_index access.vars mode variable within is)
  where
    read_index : (xs : List ℕ) (i x : ℕ) → i < length xs → x ≡ slice_index xs i → slice_index xs i ≡ slice_index_or xs i x
    read_index [] i x l h = absurd (omega (arith, l))
    read_index (y ∷ ys) zero x l h = refl
    read_index (y ∷ ys) (suc i) x l h = read_index ys i x (omega (arith, l)) h
