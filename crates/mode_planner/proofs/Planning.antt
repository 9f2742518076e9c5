-- A plan grows by one access after another.
use Rattle.std.specs.Prelude.{◌≡◌, ◌⊎◌, ℕ, zero, suc, ◌+◌, ◌≤◌, ◌<◌, List, [], ◌∷◌, ◌++◌, length, Some, slice_get, refl}
use Rattle.std.specs.Prelude.{slice_index_or, take}
use Rattle.std.proofs.Common.{◌∙◌, sym, ap, subst, arith, inl, inr}
use Rattle.std.proofs.lemmas.Bool.{cases_lt}
use Rattle.std.proofs.lemmas.List.{get_or_append_left, length-append}
use Rattle.std.proofs.lemmas.Option.{slice_get_within}
use Rattle.std.proofs.Math.Seq.{get_or-append_seam, take-suc}
use Rattle.format_spec.specs.declared.format.FormatLevel.{FormatLevel}
use Rattle.index_notation.specs.declared.syntax.Access.{Access}
use Rattle.index_notation.specs.declared.syntax.Name.{Name}
use Rattle.index_notation.specs.declared.syntax.Statement.{Statement}
use Rattle.iteration_graph.specs.Edges.{format_of}
use Rattle.mode_planner.specs.Planned.{AreByAppearance, IsPlannedAccess, IsPlannedOf, IsReadAt, IsStoredAs, origin_of, stored_by_plan}
use Rattle.mode_planner.specs.Planned.{planned_format}
use Rattle.mode_planner.specs.declared.planned.Planned.{Planned}

-- ---- a row with one more behind it
module _ {X : Type 0} where
  behind : (xs : List X) (x y : X) (n : ℕ) → slice_get (xs ++ x ∷ []) n ≡ Some y
      → (slice_get xs n ≡ Some y) ⊎ ((n ≡ length xs) × (x ≡ y))
  behind [] x y zero is = inr (refl, some is)
    where
      some : {v w : X} → Some v ≡ Some w → v ≡ w
      some e = cc
  behind [] x y (suc n) is = absurd cc
  behind (z ∷ xs) x y zero is = inl is
  behind (z ∷ xs) x y (suc n) is = by (behind xs x y n is)
    where
      by : (slice_get xs n ≡ Some y) ⊎ ((n ≡ length xs) × (x ≡ y))
          → (slice_get xs n ≡ Some y) ⊎ ((suc n ≡ suc (length xs)) × (x ≡ y))
      by (inl here) = inl here
      by (inr there) = inr (ap suc there.0, there.1)

front : {X : Type 0} (xs : List X) (x y : X) (n : ℕ) → slice_get xs n ≡ Some y → slice_get (xs ++ x ∷ []) n ≡ Some y
front [] x y n is = absurd cc
front (z ∷ xs) x y zero is = is
front (z ∷ xs) x y (suc n) is = front xs x y n is

front_same : {X : Type 0} (xs : List X) (x : X) (n : ℕ) → n < length xs → slice_get (xs ++ x ∷ []) n ≡ slice_get xs n
front_same [] x n h = absurd (omega (arith, h))
front_same (z ∷ xs) x zero h = refl
front_same (z ∷ xs) x (suc n) h = front_same xs x n (omega (arith, h))

last : {X : Type 0} (xs : List X) (x : X) → slice_get (xs ++ x ∷ []) (length xs) ≡ Some x
last [] x = refl
last (z ∷ xs) x = last xs x

longer : {X : Type 0} (xs : List X) (x : X) → length (xs ++ x ∷ []) ≡ length xs + 1
longer xs x = length-append xs (x ∷ [])

origin_kept : (origins : List ℕ) (origin tensor : ℕ) → tensor ≤ length origins
    → origin_of (origins ++ origin ∷ []) tensor ≡ origin_of origins tensor
origin_kept origins origin zero h = refl
origin_kept origins origin (suc n) h = get_or_append_left origins (origin ∷ []) 0 n (omega (arith, h))

origin_last : (origins : List ℕ) (origin : ℕ) → origin_of (origins ++ origin ∷ []) (suc (length origins)) ≡ origin
origin_last origins origin = get_or-append_seam origins origin [] 0

format_kept : (formats : List (List FormatLevel)) (format : List FormatLevel) (tensor : ℕ) → tensor < length formats
    → format_of (formats ++ format ∷ []) tensor ≡ format_of formats tensor
format_kept formats format tensor h = get_or_append_left formats (format ∷ []) [] tensor h

format_last : (formats : List (List FormatLevel)) (format : List FormatLevel) → format_of (formats ++ format ∷ []) (length formats) ≡ format
format_last formats format = get_or-append_seam formats format [] []

-- ---- which accesses read a tensor
read_front : (accesses : List Access) (more : Access) (place tensor : ℕ) → IsReadAt accesses place tensor
    → IsReadAt (accesses ++ more ∷ []) place tensor
read_front accesses more place tensor is = record {
  access = is.access;
  stands = front accesses more is.access place is.stands;
  tensor_is = is.tensor_is;
}

read_last : (accesses : List Access) (more : Access) → IsReadAt (accesses ++ more ∷ []) (length accesses) more.tensor
read_last accesses more = record { access = more; stands = last accesses more; tensor_is = refl }

read_behind : (accesses : List Access) (more : Access) (place tensor : ℕ) → IsReadAt (accesses ++ more ∷ []) place tensor
    → IsReadAt accesses place tensor ⊎ ((place ≡ length accesses) × (more.tensor ≡ tensor))
read_behind accesses more place tensor is = by (behind accesses more is.access place is.stands)
  where
    by : (slice_get accesses place ≡ Some is.access) ⊎ ((place ≡ length accesses) × (more ≡ is.access))
        → IsReadAt accesses place tensor ⊎ ((place ≡ length accesses) × (more.tensor ≡ tensor))
    by (inl here) = inl (record { access = is.access; stands = here; tensor_is = is.tensor_is })
    by (inr there) = inr (there.0, ap (λ (x : Access). x.tensor) there.1 ∙ is.tensor_is)

-- one more access to a tensor that is numbered, or to the next one
numbered_more : (accesses : List Access) (more : Access) (many : ℕ) → AreByAppearance accesses many → more.tensor ≤ many
    → AreByAppearance (accesses ++ more ∷ []) many
numbered_more accesses more many is within = record {
  read = λ tensor some small.
      let at = is.read tensor some small in (at.0, read_front accesses more at.0 tensor at.1);
  earlier = λ place tensor less at some small. by place tensor less some small (read_behind accesses more place tensor at);
}
  where
    by : (place tensor less : ℕ) → 0 < less → less < tensor
        → IsReadAt accesses place tensor ⊎ ((place ≡ length accesses) × (more.tensor ≡ tensor))
        → (before : ℕ) × (before < place) × IsReadAt (accesses ++ more ∷ []) before less
    by place tensor less some small (inl here) =
        let at = is.earlier place tensor less here some small in (at.0, at.1, read_front accesses more at.0 less at.2)
    by place tensor less some small (inr there) =
        let at = is.read less some (let same = there.1 in omega (arith, small, same, within)) in
        let inside = slice_get_within accesses at.0 at.1.access at.1.stands in
        (at.0, (let end = there.0 in omega (arith, inside, end)), read_front accesses more at.0 less at.1)

numbered_next : (accesses : List Access) (more : Access) (many : ℕ) → AreByAppearance accesses many → more.tensor ≡ many + 1
    → AreByAppearance (accesses ++ more ∷ []) (many + 1)
numbered_next accesses more many is next = record {
  read = λ tensor some small. reads tensor some small (cases_lt many tensor);
  earlier = λ place tensor less at some small. by place tensor less some small (read_behind accesses more place tensor at);
}
  where
    reads : (tensor : ℕ) → 0 < tensor → tensor ≤ many + 1 → (many < tensor) ⊎ (tensor ≤ many)
        → (place : ℕ) × IsReadAt (accesses ++ more ∷ []) place tensor
    reads tensor some small (inl new) =
        let same : more.tensor ≡ tensor = omega (arith, next, small, new) in
        (length accesses, subst (λ t. IsReadAt (accesses ++ more ∷ []) (length accesses) t) same (read_last accesses more))
    reads tensor some small (inr old) = let at = is.read tensor some old in (at.0, read_front accesses more at.0 tensor at.1)

    by : (place tensor less : ℕ) → 0 < less → less < tensor
        → IsReadAt accesses place tensor ⊎ ((place ≡ length accesses) × (more.tensor ≡ tensor))
        → (before : ℕ) × (before < place) × IsReadAt (accesses ++ more ∷ []) before less
    by place tensor less some small (inl here) =
        let at = is.earlier place tensor less here some small in (at.0, at.1, read_front accesses more at.0 less at.2)
    by place tensor less some small (inr there) =
        let at = is.read less some (let same = there.1 in omega (arith, small, same, next)) in
        let inside = slice_get_within accesses at.0 at.1.access at.1.stands in
        (at.0, (let end = there.0 in omega (arith, inside, end)), read_front accesses more at.0 less at.1)

-- ---- the plan of no access
pub begun : (s : Statement) (formats : List (List FormatLevel)) (plan : Planned) (name : Name) (format : List FormatLevel)
    → plan.statement.vars ≡ s.vars → plan.statement.left ≡ s.left → plan.statement.accumulate ≡ s.accumulate
    → plan.statement.sums ≡ s.sums → plan.statement.expr ≡ s.expr → plan.statement.accesses ≡ [] → plan.statement.tensors ≡ name ∷ []
    → slice_get s.tensors 0 ≡ Some name
    → plan.formats ≡ format ∷ [] → format ≡ stored_by_plan s formats s.left → plan.origins ≡ [] → IsPlannedOf s formats [] plan
begun s formats plan name format vars left accumulate sums expr accesses tensors named stored by_plan origins = record {
  vars = vars;
  left = left;
  accumulate = accumulate;
  sums = sums;
  expr = expr;
  many = ap length accesses;
  accesses = λ place old access here there. absurd (nothing place old here);
  result = ap (λ fs. format_of fs 0) stored ∙ by_plan;
  formats_many = let one = ap length stored in let none = ap length origins in omega (arith, one, none);
  tensors_many = let one = ap length tensors in let none = ap length origins in omega (arith, one, none);
  names = λ tensor small. subst
      (λ t. slice_get plan.statement.tensors t ≡ slice_get s.tensors (origin_of plan.origins t))
      (let none = ap length origins in let first : 0 ≡ tensor = omega (arith, small, none) in first)
      (ap (λ ts. slice_get ts 0) tensors ∙ sym named);
  apart = λ tensor other some less small origin same.
      let none = ap length origins in absurd (omega (arith, some, less, small, none));
  numbered = record {
    read = λ tensor some small. let none = ap length origins in absurd (omega (arith, some, small, none));
    earlier = λ place tensor less at some small. absurd
        (nothing place at.access (ap (λ xs. slice_get xs place) (sym accesses) ∙ at.stands));
  };
}
  where
    nothing : (place : ℕ) (access : Access) → slice_get [] place ≡ Some access → ⊥
    nothing place access h = cc

-- ---- one access more
module _ (s : Statement) (formats : List (List FormatLevel)) (given : List Access) (plan : Planned) (p : IsPlannedOf s formats given plan)
    (old : Access) where
  abbrev one_more : ℕ → Access
  one_more tensor = record { tensor = tensor; vars = old.vars }

  -- each access of a plan that stores what this one stores, and one more, is planned
  planned_more : (next : Planned) (tensor : ℕ)
      → next.statement.accesses ≡ plan.statement.accesses ++ one_more tensor ∷ []
      → ((before access : Access) → IsPlannedAccess s formats plan before access → IsPlannedAccess s formats next before access)
      → IsStoredAs next.origins next.formats old.tensor (stored_by_plan s formats old) tensor
      → (place : ℕ) (before access : Access) → slice_get (given ++ old ∷ []) place ≡ Some before
      → slice_get next.statement.accesses place ≡ Some access → IsPlannedAccess s formats next before access
  planned_more next tensor accesses kept stored place before access here there =
      by (behind given old before place here)
      (behind plan.statement.accesses (one_more tensor) access place (ap (λ xs. slice_get xs place) (sym accesses) ∙ there))
    where
      by : (slice_get given place ≡ Some before) ⊎ ((place ≡ length given) × (old ≡ before))
          → (slice_get plan.statement.accesses place ≡ Some access)
          ⊎ ((place ≡ length plan.statement.accesses) × (one_more tensor ≡ access)) → IsPlannedAccess s formats next before access
      by (inl first) (inl second) = kept before access (p.accesses place before access first second)
      by (inl first) (inr second) =
          let inside = slice_get_within given place before first in let end = second.0 in let many = p.many in
          absurd (omega (arith, inside, end, many))
      by (inr first) (inl second) =
          let inside = slice_get_within plan.statement.accesses place access second in let end = first.0 in let many = p.many in
          absurd (omega (arith, inside, end, many))
      by (inr first) (inr second) =
          subst (λ a. IsPlannedAccess s formats next before a) second.1
          (subst (λ b. IsPlannedAccess s formats next b (one_more tensor)) first.1 (record { vars = refl; stored = stored }))

  many_more : (tensor : ℕ) → length (plan.statement.accesses ++ one_more tensor ∷ []) ≡ length (given ++ old ∷ [])
  many_more tensor =
      let one = longer plan.statement.accesses (one_more tensor) in
      let other = longer given old in
      let many = p.many in
      omega (arith, one, other, many)

  -- the access is to a tensor that is there
  pub found : (tensor : ℕ) → IsStoredAs plan.origins plan.formats old.tensor (stored_by_plan s formats old) tensor
      → IsPlannedOf s formats (given ++ old ∷ [])
      (record plan { statement = record plan.statement { accesses = plan.statement.accesses ++ one_more tensor ∷ [] } })
  found tensor stored =
      let next : Planned =
      record plan { statement = record plan.statement { accesses = plan.statement.accesses ++ one_more tensor ∷ [] } } in
      record {
        vars = p.vars;
        left = p.left;
        accumulate = p.accumulate;
        sums = p.sums;
        expr = p.expr;
        many = many_more tensor;
        accesses = planned_more next tensor refl (λ before access is. record { vars = is.vars; stored = is.stored }) stored;
        result = p.result;
        formats_many = p.formats_many;
        tensors_many = p.tensors_many;
        names = p.names;
        apart = p.apart;
        numbered = numbered_more plan.statement.accesses (one_more tensor) (length plan.origins) p.numbered stored.within;
      }

  -- it is to the next one
  module _ (name : Name) (format : List FormatLevel) (named : slice_get s.tensors old.tensor ≡ Some name)
      (by_plan : format ≡ stored_by_plan s formats old)
      (none : (tensor : ℕ) → IsStoredAs plan.origins plan.formats old.tensor format tensor → ⊥) where
    abbrev after : Planned
    after = record {
      statement = record plan.statement {
        tensors = plan.statement.tensors ++ name ∷ [];
        accesses = plan.statement.accesses ++ one_more (length plan.formats) ∷ [];
      };
      formats = plan.formats ++ format ∷ [];
      origins = plan.origins ++ old.tensor ∷ [];
    }

    stored_kept : (origin : ℕ) (stored : List FormatLevel) (tensor : ℕ) → IsStoredAs plan.origins plan.formats origin stored tensor
        → IsStoredAs after.origins after.formats origin stored tensor
    stored_kept origin stored tensor is =
        let within = is.within in
        record {
          operand = is.operand;
          within = let more = longer plan.origins old.tensor in omega (arith, within, more);
          origin_is = origin_kept plan.origins old.tensor tensor within ∙ is.origin_is;
          format_is = format_kept plan.formats format tensor (let many = p.formats_many in omega (arith, within, many)) ∙ is.format_is;
        }

    next_is : length plan.formats ≡ suc (length plan.origins)
    next_is = let many = p.formats_many in omega (arith, many)

    stored_last : IsStoredAs after.origins after.formats old.tensor (stored_by_plan s formats old) (length plan.formats)
    stored_last =
        let many = p.formats_many in
        let more = longer plan.origins old.tensor in
        record {
          operand = omega (arith, many);
          within = omega (arith, many, more);
          origin_is = ap (origin_of (plan.origins ++ old.tensor ∷ [])) next_is ∙ origin_last plan.origins old.tensor;
          format_is = format_last plan.formats format ∙ by_plan;
        }

    name_more : (tensor : ℕ) → tensor ≤ length plan.origins + 1 → (length plan.origins < tensor) ⊎ (tensor ≤ length plan.origins)
        → slice_get (plan.statement.tensors ++ name ∷ []) tensor ≡ slice_get s.tensors (origin_of (plan.origins ++ old.tensor ∷ []) tensor)
    name_more tensor small (inl new) =
        let many = p.tensors_many in
        let end : tensor ≡ length plan.statement.tensors = omega (arith, small, new, many) in
        let place : tensor ≡ suc (length plan.origins) = omega (arith, small, new) in
        ap (slice_get (plan.statement.tensors ++ name ∷ [])) end ∙ last plan.statement.tensors name ∙ sym named
        ∙ ap (slice_get s.tensors) (sym (ap (origin_of (plan.origins ++ old.tensor ∷ [])) place ∙ origin_last plan.origins old.tensor))
    name_more tensor small (inr old_one) =
        front_same plan.statement.tensors name tensor (let many = p.tensors_many in omega (arith, old_one, many))
        ∙ p.names tensor old_one ∙ ap (slice_get s.tensors) (sym (origin_kept plan.origins old.tensor tensor old_one))

    apart_more : (tensor other : ℕ) → 0 < tensor → tensor < other → other ≤ length plan.origins + 1
        → (length plan.origins < other) ⊎ (other ≤ length plan.origins)
        → origin_of (plan.origins ++ old.tensor ∷ []) tensor ≡ origin_of (plan.origins ++ old.tensor ∷ []) other
        → format_of (plan.formats ++ format ∷ []) tensor ≡ format_of (plan.formats ++ format ∷ []) other → ⊥
    apart_more tensor other some less small (inl new) origin same =
        let place : other ≡ suc (length plan.origins) = omega (arith, small, new) in
        let many = p.formats_many in
        let within : tensor ≤ length plan.origins = omega (arith, less, small) in
        let inside : tensor < length plan.formats = omega (arith, within, many) in
        let end : other ≡ length plan.formats = omega (arith, place, many) in
        none tensor (record {
          operand = some;
          within = within;
          origin_is = sym (origin_kept plan.origins old.tensor tensor within) ∙ origin
              ∙ ap (origin_of (plan.origins ++ old.tensor ∷ [])) place ∙ origin_last plan.origins old.tensor;
          format_is = sym (format_kept plan.formats format tensor inside) ∙ same
              ∙ ap (format_of (plan.formats ++ format ∷ [])) end ∙ format_last plan.formats format;
        })
    apart_more tensor other some less small (inr old_one) origin same =
        let many = p.formats_many in
        let within : tensor ≤ length plan.origins = omega (arith, less, old_one) in
        p.apart tensor other some less old_one
        (sym (origin_kept plan.origins old.tensor tensor within) ∙ origin ∙ origin_kept plan.origins old.tensor other old_one)
        (sym (format_kept plan.formats format tensor (omega (arith, within, many))) ∙ same
        ∙ format_kept plan.formats format other (omega (arith, old_one, many)))

    pub added : IsPlannedOf s formats (given ++ old ∷ []) after
    added =
        let more = longer plan.origins old.tensor in
        record {
          vars = p.vars;
          left = p.left;
          accumulate = p.accumulate;
          sums = p.sums;
          expr = p.expr;
          many = many_more (length plan.formats);
          accesses = planned_more after (length plan.formats) refl
              (λ before access is. record { vars = is.vars; stored = stored_kept before.tensor _ access.tensor is.stored }) stored_last;
          result = format_kept plan.formats format 0 (let many = p.formats_many in omega (arith, many)) ∙ p.result;
          formats_many = let longer_formats = longer plan.formats format in let many = p.formats_many in
              omega (arith, longer_formats, many, more);
          tensors_many = let longer_tensors = longer plan.statement.tensors name in let many = p.tensors_many in
              omega (arith, longer_tensors, many, more);
          names = λ tensor small. name_more tensor (omega (arith, small, more)) (cases_lt (length plan.origins) tensor);
          apart = λ tensor other some less small origin same.
              apart_more tensor other some less (omega (arith, small, more)) (cases_lt (length plan.origins) other) origin same;
          numbered = subst (AreByAppearance (plan.statement.accesses ++ one_more (length plan.formats) ∷ [])) (sym more)
              (numbered_next plan.statement.accesses (one_more (length plan.formats)) (length plan.origins) p.numbered p.formats_many);
        }

-- ---- what is read at places
other_default : {X : Type 0} (xs : List X) (n : ℕ) (d e : X) → n < length xs → slice_index_or xs n d ≡ slice_index_or xs n e
other_default [] n d e h = absurd (omega (arith, h))
other_default (x ∷ xs) zero d e h = refl
other_default (x ∷ xs) (suc n) d e h = other_default xs n d e (omega (arith, h))

pub stands_at : {X : Type 0} (xs : List X) (n : ℕ) (x : X) → n < length xs → x ≡ slice_index_or xs n x → slice_get xs n ≡ Some x
stands_at [] n x h is = absurd (omega (arith, h))
stands_at (y ∷ xs) zero x h is = ap (λ z. Some z) (sym is)
stands_at (y ∷ xs) (suc n) x h is = stands_at xs n x (omega (arith, h)) is

pub by_plan_is : (s : Statement) (formats : List (List FormatLevel)) (access : Access) (count : ℕ) (levels : List FormatLevel)
    (vars : List ℕ) (format : List FormatLevel) → access.tensor < length formats → count ≡ length s.vars
    → levels ≡ slice_index_or formats access.tensor levels → vars ≡ access.vars → format ≡ planned_format count levels vars
    → format ≡ stored_by_plan s formats access
by_plan_is s formats access count levels vars format inside counted at same is =
    is ∙ ap (λ n. planned_format n levels vars) counted
    ∙ ap (λ ls. planned_format (length s.vars) ls vars) (at ∙ other_default formats access.tensor levels [] inside)
    ∙ ap (planned_format (length s.vars) (format_of formats access.tensor)) same

-- what is handed to the search of a tensor is what the plan has
pub stored_lent : (origins lent : List ℕ) (formats lent_formats : List (List FormatLevel)) (origin : ℕ) (format other : List FormatLevel)
    (tensor : ℕ) → lent ≡ origins → lent_formats ≡ formats → format ≡ other → IsStoredAs lent lent_formats origin format tensor
    → IsStoredAs origins formats origin other tensor
stored_lent origins lent formats lent_formats origin format other tensor first second third is = record {
  operand = is.operand;
  within = subst (λ (xs : List ℕ). tensor ≤ length xs) first is.within;
  origin_is = ap (λ xs. origin_of xs tensor) (sym first) ∙ is.origin_is;
  format_is = ap (λ fs. format_of fs tensor) (sym second) ∙ is.format_is ∙ third;
}

pub next_taken : {X : Type 0} (xs : List X) (k : ℕ) (x : X) → k < length xs → x ≡ slice_index_or xs k x
    → take (k + 1) xs ≡ take k xs ++ x ∷ []
next_taken xs k x h is =
    let more : suc k ≡ k + 1 = omega arith in
    ap (λ n. take n xs) (sym more) ∙ take-suc xs k x h ∙ ap (λ y. take k xs ++ y ∷ []) (sym is)
