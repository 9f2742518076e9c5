-- A planned statement is as calls ask for one, and has no cycle.
use Rattle.std.specs.Prelude.{◌≡◌, ◌≢◌, ℕ, zero, suc, ◌+◌, ◌<◌, List, [], ◌∷◌, length, Some, slice_get, refl}
use Rattle.std.proofs.Common.{◌∙◌, sym, ap, subst, arith}
use Rattle.std.proofs.lemmas.Option.{slice_get_within}
use Rattle.format_spec.specs.declared.format.FormatLevel.{FormatLevel}
use Rattle.format_spec.specs.Formats.{IsFormat}
use Rattle.index_notation.specs.Statement.{AccessesUnder, AreSums, HaveOneOrder, HaveOrders, IsAccess, IsDistinct}
use Rattle.index_notation.specs.Statement.{IsNumberedWithSums, IsWellNamed}
use Rattle.index_notation.specs.Statement.{numbers_from}
use Rattle.index_notation.specs.declared.syntax.Access.{Access}
use Rattle.index_notation.specs.declared.syntax.NestedSum.{NestedSum}
use Rattle.index_notation.specs.declared.syntax.Statement.{Statement}
use Rattle.iteration_graph.specs.Edges.{AreFormed, HasFormat, access_edges, edges_of, format_of}
use Rattle.lists.specs.Each.{Each}
use Rattle.lists.proofs.Each.{each_append, each_from, each_get}
use Rattle.mode_planner.specs.Plans.{LeadsForward}
use Rattle.mode_planner.specs.Planned.{AreOrigins, CanBeCompiled, IsPlanned, IsPlannedAccess, IsReadAt, origin_of}
use Rattle.mode_planner.specs.Planned.{stored_by_plan}
use Rattle.mode_planner.specs.declared.planned.Planned.{Planned}
use Rattle.mode_planner.proofs.Forward.{no_cycle}
use Rattle.mode_planner.proofs.StoredFormats.{planned_is_format, planned_long, stored_forward}

pub some_at : {X : Type 0} (xs : List X) (n : ℕ) → n < length xs → (x : X) × (slice_get xs n ≡ Some x)
some_at [] n h = absurd (omega (arith, h))
some_at (x ∷ xs) zero h = (x, refl)
some_at (x ∷ xs) (suc n) h = some_at xs n (omega (arith, h))

-- accesses that have formats have one order a tensor
one_order : (formats : List (List FormatLevel)) (a : Access) (accesses : List Access) → HasFormat formats a
    → Each (HasFormat formats) accesses → Each (HaveOneOrder a) accesses
one_order formats a [] first each = tt
one_order formats a (b ∷ accesses) first each = (
  (λ same. let one = first.order in let other = each.0.order in sym one ∙ ap (λ t. length (format_of formats t)) same ∙ other),
  one_order formats a accesses first each.1,
)

have_orders : (formats : List (List FormatLevel)) (accesses : List Access) → Each (HasFormat formats) accesses → HaveOrders accesses
have_orders formats [] each = tt
have_orders formats (a ∷ accesses) each = (one_order formats a accesses each.0 each.1, have_orders formats accesses each.1)

-- the edges of accesses, each of which leads forward
edges_forward : (formats : List (List FormatLevel)) (accesses : List Access)
    → Each (λ (a : Access). Each LeadsForward (access_edges (format_of formats a.tensor) a.vars)) accesses
    → Each LeadsForward (edges_of formats accesses)
edges_forward formats [] each = tt
edges_forward formats (a ∷ accesses) each =
    each_append LeadsForward (access_edges (format_of formats a.tensor) a.vars) (edges_of formats accesses) each.0
    (edges_forward formats accesses each.1)

module _ (s : Statement) (formats : List (List FormatLevel)) (plan : Planned) (p : IsPlanned s formats plan) where
  -- an access of the planned statement, and the one that it stands for
  pub record Stands (place : ℕ) (access : Access) : Type 0 where
    pub old : Access
    pub at : slice_get s.accesses place ≡ Some old
    pub planned : IsPlannedAccess s formats plan old access

  pub stands : (place : ℕ) (access : Access) → slice_get plan.statement.accesses place ≡ Some access → Stands place access
  stands place access there =
      let inside = slice_get_within plan.statement.accesses place access there in
      let many = p.many in
      let found = some_at s.accesses place (omega (arith, inside, many)) in
      record { old = found.0; at = found.1; planned = p.accesses place found.0 access found.1 there }

  module _ (numbered : IsNumberedWithSums s) (named : IsWellNamed s) (left : HasFormat formats s.left)
      (right : Each (HasFormat formats) s.accesses) where
    -- ---- the accesses
    vars_below : length plan.statement.vars ≡ length s.vars
    vars_below = ap (λ vars. length vars) p.vars

    all_many : length plan.statement.accesses + length plan.statement.sums ≡ length s.accesses + length s.sums
    all_many = ap (λ n. n + length plan.statement.sums) p.many ∙ ap (λ (sums : List NestedSum). length s.accesses + length sums) p.sums

    access_is : (place : ℕ) (access : Access) → slice_get plan.statement.accesses place ≡ Some access
        → IsAccess (length plan.statement.tensors) (length plan.statement.vars) access
    access_is place access there =
        let at = stands place access there in
        let old : IsAccess (length s.tensors) (length s.vars) at.old =
        each_get (IsAccess (length s.tensors) (length s.vars)) s.accesses place at.old numbered.right at.at in
        let within = at.planned.stored.within in
        let many = p.tensors_many in
        record {
          tensor = omega (arith, within, many);
          vars_stand = subst (λ n. Each (λ v. v < n) access.vars) (sym vars_below)
              (subst (Each (λ v. v < length s.vars)) (sym at.planned.vars) old.vars_stand);
          order = let order = old.order in let same = ap (λ (vars : List ℕ). length vars) at.planned.vars in omega (arith, order, same);
        }

    left_is : IsAccess (length plan.statement.tensors) (length plan.statement.vars) plan.statement.left
    left_is = subst (IsAccess (length plan.statement.tensors) (length plan.statement.vars)) (sym p.left) (record {
      tensor = let result = named.result in let many = p.tensors_many in omega (arith, result, many);
      vars_stand = subst (λ n. Each (λ v. v < n) s.left.vars) (sym vars_below) numbered.left.vars_stand;
      order = numbered.left.order;
    })

    right_formats : (place : ℕ) (access : Access) → slice_get plan.statement.accesses place ≡ Some access → HasFormat plan.formats access
    right_formats place access there =
        let at = stands place access there in
        let old : IsAccess (length s.tensors) (length s.vars) at.old =
        each_get (IsAccess (length s.tensors) (length s.vars)) s.accesses place at.old numbered.right at.at in
        let format : HasFormat formats at.old = each_get (HasFormat formats) s.accesses place at.old right at.at in
        let within = at.planned.stored.within in
        let many = p.formats_many in
        record {
          tensor = omega (arith, within, many);
          order = ap (λ (f : List FormatLevel). length f) at.planned.stored.format_is
              ∙ planned_long (length s.vars) (format_of formats at.old.tensor) at.old.vars format.order
              (each_get (λ (a : Access). IsDistinct a.vars) s.accesses place at.old named.right_once at.at) old.vars_stand
              ∙ ap (λ (vars : List ℕ). length vars) (sym at.planned.vars);
        }

    left_stored : format_of plan.formats s.left.tensor ≡ stored_by_plan s formats s.left
    left_stored = ap (format_of plan.formats) named.result ∙ p.result

    pub left_format : HasFormat plan.formats plan.statement.left
    left_format = subst (HasFormat plan.formats) (sym p.left) (record {
      tensor = let result = named.result in let many = p.formats_many in omega (arith, result, many);
      order = ap (λ (f : List FormatLevel). length f) left_stored
          ∙ planned_long (length s.vars) (format_of formats s.left.tensor) s.left.vars left.order named.left_once
          numbered.left.vars_stand;
    })

    -- ---- the whole statement
    pub all_formats : Each (HasFormat plan.formats) plan.statement.accesses
    all_formats = each_from (HasFormat plan.formats) plan.statement.accesses right_formats

    pub is_numbered : IsNumberedWithSums plan.statement
    is_numbered = record {
      left = left_is;
      right = each_from (IsAccess (length plan.statement.tensors) (length plan.statement.vars)) plan.statement.accesses access_is;
      sums = subst (λ sums. AreSums (length plan.statement.vars) (length plan.statement.accesses) sums) (sym p.sums)
          (subst (λ n. AreSums (length plan.statement.vars) n s.sums) (sym p.many)
          (subst (λ n. AreSums n (length s.accesses) s.sums) (sym vars_below) numbered.sums));
      expr = subst (λ n. AccessesUnder n plan.statement.expr) (sym all_many)
          (subst (AccessesUnder (length s.accesses + length s.sums)) (sym p.expr) numbered.expr);
      variables = let some = numbered.variables in let same = vars_below in omega (arith, some, same);
    }

    pub is_well_named : IsWellNamed plan.statement
    is_well_named = record {
      result = ap (λ (a : Access). a.tensor) p.left ∙ named.result;
      unread = each_from (λ (a : Access). a.tensor ≢ 0) plan.statement.accesses (λ place access there same.
          let some = (stands place access there).planned.stored.operand in omega (arith, some, same));
      orders = have_orders plan.formats (plan.statement.left ∷ plan.statement.accesses) (left_format, all_formats);
      left_once = subst (λ (a : Access). IsDistinct a.vars) (sym p.left) named.left_once;
      right_once = each_from (λ (a : Access). IsDistinct a.vars) plan.statement.accesses (λ place access there.
          let at = stands place access there in
          subst IsDistinct (sym at.planned.vars)
          (each_get (λ (a : Access). IsDistinct a.vars) s.accesses place at.old named.right_once at.at));
      standing = subst (λ (a : Access). a.vars ≡ numbers_from 0 (length a.vars)) (sym p.left) named.standing;
    }

    module _ (formed : AreFormed formats (s.left ∷ s.accesses)) where
      -- what is true of the planned format of each access
      right_formed : (place : ℕ) (access : Access) → slice_get plan.statement.accesses place ≡ Some access
          → IsFormat (format_of plan.formats access.tensor)
          × Each LeadsForward (access_edges (format_of plan.formats access.tensor) access.vars)
      right_formed place access there =
          let at = stands place access there in
          let old : IsAccess (length s.tensors) (length s.vars) at.old =
          each_get (IsAccess (length s.tensors) (length s.vars)) s.accesses place at.old numbered.right at.at in
          let format : HasFormat formats at.old = each_get (HasFormat formats) s.accesses place at.old right at.at in
          let once = each_get (λ (a : Access). IsDistinct a.vars) s.accesses place at.old named.right_once at.at in
          let is : IsFormat (format_of formats at.old.tensor) =
          each_get (λ (a : Access). IsFormat (format_of formats a.tensor)) s.accesses place at.old formed.1 at.at in (
            subst IsFormat (sym at.planned.stored.format_is)
                (planned_is_format (length s.vars) (format_of formats at.old.tensor) at.old.vars format.order once old.vars_stand is),
            subst (λ vars. Each LeadsForward (access_edges (format_of plan.formats access.tensor) vars)) (sym at.planned.vars)
                (subst (λ f. Each LeadsForward (access_edges f at.old.vars)) (sym at.planned.stored.format_is)
                (stored_forward (length s.vars) (format_of formats at.old.tensor) at.old.vars format.order once old.vars_stand is)),
          )

      left_formed : IsFormat (format_of plan.formats plan.statement.left.tensor)
          × Each LeadsForward (access_edges (format_of plan.formats plan.statement.left.tensor) plan.statement.left.vars)
      left_formed = subst (λ (a : Access). IsFormat (format_of plan.formats a.tensor)
          × Each LeadsForward (access_edges (format_of plan.formats a.tensor) a.vars)) (sym p.left) (
            subst IsFormat (sym left_stored)
                (planned_is_format (length s.vars) (format_of formats s.left.tensor) s.left.vars left.order named.left_once
                numbered.left.vars_stand formed.0),
            subst (λ f. Each LeadsForward (access_edges f s.left.vars)) (sym left_stored)
                (stored_forward (length s.vars) (format_of formats s.left.tensor) s.left.vars left.order named.left_once
                numbered.left.vars_stand formed.0),
          )

      pub can_be_compiled : CanBeCompiled plan.statement plan.formats
      can_be_compiled = record {
        numbered = is_numbered;
        named = is_well_named;
        left_format = left_format;
        right_formats = all_formats;
        formed = (
          left_formed.0,
          each_from (λ (a : Access). IsFormat (format_of plan.formats a.tensor)) plan.statement.accesses
              (λ place access there. (right_formed place access there).0),
        );
        no_cycle = λ cycle names. no_cycle (length plan.statement.vars)
            (edges_of plan.formats (plan.statement.left ∷ plan.statement.accesses)) cycle
            (edges_forward plan.formats (plan.statement.left ∷ plan.statement.accesses) (
              left_formed.1,
              each_from (λ (a : Access). Each LeadsForward (access_edges (format_of plan.formats a.tensor) a.vars))
                  plan.statement.accesses (λ place access there. (right_formed place access there).1),
            )) names;
      }

    -- ---- its tensors store the entries of operands
    pub are_origins : AreOrigins s plan
    are_origins = record {
      operands = λ tensor some small. operand tensor (p.numbered.read tensor some small);
      all = λ place tensor is.
          let inside = slice_get_within s.accesses place is.access is.stands in
          let many = p.many in
          let there = some_at plan.statement.accesses place (omega (arith, inside, many)) in
          let planned = p.accesses place is.access there.0 is.stands there.1 in
          (there.0.tensor, planned.stored.operand, planned.stored.within, planned.stored.origin_is ∙ is.tensor_is);
    }
      where
        operand : (tensor : ℕ) → (place : ℕ) × IsReadAt plan.statement.accesses place tensor
            → (0 < origin_of plan.origins tensor) × (origin_of plan.origins tensor < length s.tensors)
        operand tensor read =
            let at = stands read.0 read.1.access read.1.stands in
            let is : origin_of plan.origins tensor ≡ at.old.tensor =
            ap (origin_of plan.origins) (sym read.1.tensor_is) ∙ at.planned.stored.origin_is in
            let unread = each_get (λ (a : Access). a.tensor ≢ 0) s.accesses read.0 at.old named.unread at.at in
            let old : IsAccess (length s.tensors) (length s.vars) at.old =
            each_get (IsAccess (length s.tensors) (length s.vars)) s.accesses read.0 at.old numbered.right at.at in
            let below = old.tensor in
            (omega (arith, is, unread), omega (arith, is, below))
