-- Storages tell what their paths end at.
use Rattle.std.specs.Prelude.{◌≡◌, ◌⊎◌, ℕ, ◌<◌, ◌^◌, false}
use Rattle.std.specs.Prelude.{List, [], ◌∷◌, length, Option, Some, None, slice_index, refl}
use Rattle.std.proofs.Common.{◌∙◌, sym, ap, subst, arith, inl, inr}
use Rattle.numbers.specs.Arithmetic.{Arithmetic, Laws}
use Rattle.level_core.specs.declared.span.Span.{Span}
use Rattle.level_core.specs.declared.span.Entry.{Entry}
use Rattle.level_core.specs.Entries.{Distinct, StandsAt, one, span as the_span}
use Rattle.format_spec.specs.declared.format.FormatLevel.{FormatLevel}
use Rattle.expr_terms.specs.ValueLaws.{AreWords}
use Rattle.workspaces.specs.PresenceLaws.{AreZeroElsewhere}
use Rattle.level_rows.specs.Stacks.{Path}
use Rattle.level_rows.proofs.Entries.{one_entry}
use Rattle.tensor_storage.specs.Children.{child_of}
use Rattle.tensor_storage.specs.Laws.{laws}
use Rattle.tensor_storage.specs.declared.level.StorageLevel.{StorageLevel}
use Rattle.tensor_storage.specs.Levels.{entries_of, meaning}
use Rattle.tensor_storage.specs.Storages.{Storage, IsStorage, IsOpen, EndsAt, in_level_order}
use Rattle.tensor_storage.proofs.Children.{child_is, no_child}
use Rattle.loop_code.specs.Loops.{follow}
use Rattle.loop_code.specs.Parts.{is_some}
use Rattle.lowering.specs.Stored.{walk, walk_of, value_or_zero, inputs_of, IsToldBy}
use Rattle.lowering.proofs.HeldStorages.{map_long, some_or_none}

-- the children of an entry's coordinate are its own
child_found : (es : List Entry) (e : Entry) (x : ℕ) → Distinct es → StandsAt e.child.lo e es → e.coord ≡ x → child_of es x ≡ Some e.child
child_found es e x distinct stands coord = by (some_or_none (child_of es x))
  where
    by : ((c : Span) × (child_of es x ≡ Some c)) ⊎ (child_of es x ≡ None) → child_of es x ≡ Some e.child
    by (inl c) =
        let k = child_is x c.0 es c.1 in
        c.1 ∙ ap Some (sym (ap (λ (f : Entry). f.child) (one_entry e.child.lo k.entry.child.lo e k.entry es distinct stands k.stands
        (coord ∙ sym k.coord)) ∙ k.is))
    by (inr n) = absurd (no_child x e.child.lo e es n stands coord)

walk_ends : (levels : List StorageLevel) (span : Span) (xs : List ℕ) (pos positions : ℕ) → IsOpen meaning levels positions span
    → Path meaning levels span xs pos → walk levels span xs ≡ Some (one pos)
walk_ends [] span [] pos positions o p = ap Some p
walk_ends [] span (x ∷ xs) pos positions o p = absurd p
walk_ends (l ∷ levels) span [] pos positions o p = absurd p
walk_ends (l ∷ levels) span (x ∷ xs) pos positions o p =
    ap (λ c. follow c (λ child. walk levels child xs))
    (child_found (entries_of l span) p.0 x (laws.entries l span o.0).distinct p.1 p.2)
    ∙ walk_ends levels p.0.child xs pos positions (o.1 p.0 p.1) p.3

no_some : (s : Span) → None ≡ Some s → ⊥
no_some s h = cc

same_some : (s t : Span) → Some s ≡ Some t → s ≡ t
same_some s t h = cc

walk_path : (levels : List StorageLevel) (span : Span) (xs : List ℕ) (positions : ℕ) (end : Span) → IsOpen meaning levels positions span
    → length xs ≡ length levels → walk levels span xs ≡ Some end → Path meaning levels span xs end.lo
walk_path [] span [] positions end o long h =
    subst (λ (q : Span). span ≡ one q.lo) (same_some span end h) (ap (λ hi. the_span span.lo hi) o.0)
walk_path [] span (x ∷ xs) positions end o long h = absurd (omega (arith, long))
walk_path (l ∷ levels) span [] positions end o long h = absurd (no_some end h)
walk_path (l ∷ levels) span (x ∷ xs) positions end o long h =
    by (λ c opened rest. walk_path levels c xs positions end opened (omega (arith, long)) rest) (some_or_none (child_of
    (entries_of l span) x))
  where
    by : ((c : Span) → IsOpen meaning levels positions c → walk levels c xs ≡ Some end → Path meaning levels c xs end.lo)
        → ((c : Span) × (child_of (entries_of l span) x ≡ Some c)) ⊎ (child_of (entries_of l span) x ≡ None)
        → Path meaning (l ∷ levels) span (x ∷ xs) end.lo
    by more (inl c) =
        let k = child_is x c.0 (entries_of l span) c.1 in (
          k.entry,
          k.stands,
          k.coord,
          more k.entry.child (o.1 k.entry k.stands)
              (ap (λ q. walk levels q xs) k.is ∙ sym (ap (λ q. follow q (λ child. walk levels child xs)) c.1) ∙ h),
        )
    by more (inr n) = absurd (no_some end (sym (ap (λ q. follow q (λ child. walk levels child xs)) n) ∙ h))

pub storages_tell : (a : Arithmetic) (storages : ℕ → Storage) (ranges : ℕ → ℕ) (tensor : ℕ) → IsStorage (storages tensor)
    → (coords : List ℕ)
    → IsToldBy a (inputs_of a storages ranges) (storages tensor) tensor coords
storages_tell a storages ranges tensor is coords = record {
  path = λ pos p.
      let ends = walk_ends (storages tensor).levels (one 0) (in_level_order (storages tensor).format coords) pos
      (length (storages tensor).values) is.opened p in
      (ap is_some ends, sym (ap (value_or_zero a (storages tensor).values) ends));
  none = λ lacks. by lacks (some_or_none (walk_of (storages tensor) coords));
}
  where
    deep : length (in_level_order (storages tensor).format coords) ≡ length (storages tensor).levels
    deep =
        map_long (λ (l : FormatLevel). slice_index coords l.mode) (storages tensor).format
        ∙ sym (sym (map_long meaning.kind (storages tensor).levels) ∙ ap length is.letters
        ∙ map_long (λ (l : FormatLevel). l.letter) (storages tensor).format)

    by : ((pos : ℕ) → EndsAt (storages tensor) coords pos → ⊥)
        → ((q : Span) × (walk_of (storages tensor) coords ≡ Some q)) ⊎ (walk_of (storages tensor) coords ≡ None)
        → (is_some (walk_of (storages tensor) coords) ≡ false)
        × (value_or_zero a (storages tensor).values (walk_of (storages tensor) coords) ≡ a.zero)
    by lacks (inl q) =
        absurd (lacks q.0.lo (walk_path (storages tensor).levels (one 0) (in_level_order (storages tensor).format coords) (length
        (storages tensor).values)
        q.0 is.opened deep q.1))
    by lacks (inr n) = (ap is_some n, ap (value_or_zero a (storages tensor).values) n)

pub storages_zero : (a : Arithmetic) (storages : ℕ → Storage) (ranges : ℕ → ℕ)
    → AreZeroElsewhere a (inputs_of a storages ranges).paths (inputs_of a storages ranges).values
storages_zero a storages ranges tensor coords h = by (walk_of (storages tensor) coords) h
  where
    by : (o : Option Span) → is_some o ≡ false → value_or_zero a (storages tensor).values o ≡ a.zero
    by None h = refl
    by (Some q) h = cc

pub storages_words : (a : Arithmetic) → Laws a → (storages : ℕ → Storage) (ranges : ℕ → ℕ)
    → ((tensor pos : ℕ) → slice_index (storages tensor).values pos < 2 ^ 64) → AreWords (inputs_of a storages ranges).values
storages_words a laws storages ranges words tensor coords = by (walk_of (storages tensor) coords)
  where
    by : (o : Option Span) → value_or_zero a (storages tensor).values o < 2 ^ 64
    by None = laws.zero_fits
    by (Some q) = words tensor q.lo
