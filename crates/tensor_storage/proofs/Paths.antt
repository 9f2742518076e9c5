-- A path followed from level to level.
use Rattle.std.specs.Prelude.{◌≡◌, ℕ, zero, suc, ◌+◌, ◌<◌, List, [], ◌∷◌, length, map, drop, slice_index, Some, None, refl}
use Rattle.std.proofs.Common.{◌∙◌, sym, ap, subst, arith, add-one, drop-cons, get_or}
use Rattle.std.proofs.Math.Seq.{drop-length}
use Rattle.std.proofs.Math.ListN.{get_or-map}
use Rattle.std.proofs.lemmas.List.{length-map}
use Rattle.format_spec.specs.Formats.{modes_of, IsFormat}
use Rattle.level_core.specs.declared.span.Span.{Span}
use Rattle.level_core.specs.declared.span.Entry.{Entry}
use Rattle.level_core.specs.Entries.{StandsAt, one, span as the_span}
use Rattle.level_core.specs.Meaning.{Meaning}
use Rattle.level_core.specs.Laws.{Laws}
use Rattle.format_spec.specs.declared.format.FormatLevel.{FormatLevel}
use Rattle.level_rows.specs.Stacks.{Path}
use Rattle.level_rows.proofs.Entries.{one_entry}
use Rattle.tensor_storage.specs.Children.{child_of}
use Rattle.tensor_storage.specs.Storages.{IsOpen, in_level_order}
use Rattle.tensor_storage.proofs.Children.{Child, child_is, no_child}

-- a path is followed to a span: what is left of it, and of the levels
pub record Reached {L : Type 0} (means : Meaning L) (levels : List L) (xs : List ℕ) (positions depth : ℕ) (span : Span) : Type 0 where
  pub opened : IsOpen means (drop depth levels) positions span
  pub into : (pos : ℕ) → Path means levels (one 0) xs pos → Path means (drop depth levels) span (drop depth xs) pos
  pub back : (pos : ℕ) → Path means (drop depth levels) span (drop depth xs) pos → Path means levels (one 0) xs pos

pub none_reached : {L : Type 0} (means : Meaning L) (levels : List L) (xs : List ℕ) (positions : ℕ) → IsOpen means levels positions (one 0)
    → Reached means levels xs positions 0 (one 0)
none_reached means levels xs positions o = record { opened = o; into = λ pos p. p; back = λ pos p. p }

pub drop_map : {A B : Type 0} (f : A → B) (xs : List A) (i : ℕ) (d : A) → i < length xs
    → drop i (map f xs) ≡ f (get_or xs i d) ∷ drop (suc i) (map f xs)
drop_map f [] i d h = absurd (omega (arith, h))
drop_map f (x ∷ xs) zero d h = refl
drop_map f (x ∷ xs) (suc i) d h = drop_map f xs i d (omega (arith, h))

-- the coordinate at a level
pub coordinate_left : (format : List FormatLevel) (coords : List ℕ) (depth : ℕ) (d : FormatLevel) → depth < length format
    → drop depth (in_level_order format coords) ≡ slice_index coords (get_or format depth d).mode
    ∷ drop (suc depth) (in_level_order format coords)
coordinate_left format coords depth d h = drop_map (λ level. slice_index coords level.mode) format depth d h

module _ {L : Type 0} (means : Meaning L) (laws : Laws means) (levels : List L) (xs : List ℕ) (positions depth : ℕ) (span : Span)
    (l : L) (x : ℕ)
    (within : depth < length levels) (is : l ≡ get_or levels depth l) (next : drop depth xs ≡ x ∷ drop (suc depth) xs)
    (r : Reached means levels xs positions depth span) where
  level_left : drop depth levels ≡ l ∷ drop (suc depth) levels
  level_left = drop-cons levels depth l within ∙ ap (λ m. m ∷ drop (suc depth) levels) (sym is)

  opened_here : IsOpen means (l ∷ drop (suc depth) levels) positions span
  opened_here = subst (λ ls. IsOpen means ls positions span) level_left r.opened

  pub allowed_here : means.allowed l span
  allowed_here = opened_here.0

  into_here : (pos : ℕ) → Path means levels (one 0) xs pos → Path means (l ∷ drop (suc depth) levels) span (x ∷ drop (suc depth) xs) pos
  into_here pos p = subst (λ ls. Path means ls span (x ∷ drop (suc depth) xs) pos) level_left
      (subst (λ ys. Path means (drop depth levels) span ys pos) next (r.into pos p))

  back_here : (pos : ℕ) → Path means (l ∷ drop (suc depth) levels) span (x ∷ drop (suc depth) xs) pos → Path means levels (one 0) xs pos
  back_here pos p =
      r.back pos (subst (λ ys. Path means (drop depth levels) span ys pos) (sym next)
      (subst (λ ls. Path means ls span (x ∷ drop (suc depth) xs) pos) (sym level_left) p))

  -- the children of the next coordinate
  pub next_reached : (child : Span) → child_of (means.entries l span) x ≡ Some child → Reached means levels xs positions (depth + 1) child
  next_reached child h = subst (λ n. Reached means levels xs positions n child) (sym (add-one depth)) reached
    where
      k : Child x child (means.entries l span)
      k = child_is x child (means.entries l span) h

      same : (e : Entry) → StandsAt e.child.lo e (means.entries l span) → e.coord ≡ x → e.child ≡ child
      same e stands coord =
          ap (λ f. f.child) (one_entry e.child.lo k.entry.child.lo e k.entry (means.entries l span)
          (laws.entries l span allowed_here).distinct stands k.stands (coord ∙ sym k.coord)) ∙ k.is

      reached : Reached means levels xs positions (suc depth) child
      reached = record {
        opened = subst (λ c. IsOpen means (drop (suc depth) levels) positions c) k.is (opened_here.1 k.entry k.stands);
        into = λ pos p. let q = into_here pos p in subst (λ c. Path means (drop (suc depth) levels) c (drop (suc depth) xs) pos)
            (same q.0 q.1 q.2) q.3;
        back = λ pos p. back_here pos (
          k.entry,
          k.stands,
          k.coord,
          subst (λ c. Path means (drop (suc depth) levels) c (drop (suc depth) xs) pos) (sym k.is) p,
        );
      }

  -- the next coordinate isn't there
  pub none_further : child_of (means.entries l span) x ≡ None → (pos : ℕ) → Path means levels (one 0) xs pos → ⊥
  none_further h pos p = let q = into_here pos p in no_child x q.0.child.lo q.0 (means.entries l span) h q.1 q.2

-- behind the last level the path ends
pub path_ends : {L : Type 0} (means : Meaning L) (levels : List L) (xs : List ℕ) (positions : ℕ) (span : Span) → length xs ≡ length levels
    → Reached means levels xs positions (length levels) span → Path means levels (one 0) xs span.lo
path_ends means levels xs positions span long r =
    let last : drop (length levels) levels ≡ [] = drop-length levels in
    let none : drop (length levels) xs ≡ [] = subst (λ n. drop n xs ≡ []) long (drop-length xs) in
    let o = subst (λ ls. IsOpen means ls positions span) last r.opened in
    let is : span ≡ one span.lo = ap (λ hi. the_span span.lo hi) o.0 in
    r.back span.lo (subst (λ ls. Path means ls span (drop (length levels) xs) span.lo) (sym last)
    (subst (λ ys. Path means [] span ys span.lo) (sym none) is))

-- a format's modes are those of the tensor
pub mode_below : (format : List FormatLevel) → IsFormat format → (k : ℕ) (d : FormatLevel) → k < length format
    → (get_or format k d).mode < length format
mode_below format is k d h =
    let long : length (modes_of format) ≡ length format = length-map format (λ level. level.mode) in
    let same : get_or (modes_of format) k d.mode ≡ (get_or format k d).mode = get_or-map (λ level. level.mode) format k d in
    let below = is.order.below k d.mode (omega (arith, long, h)) in
    omega (arith, same, below)
