-- Values in whose place another is put, path after path.
use Rattle.std.specs.Prelude.{◌≡◌, ◌⊎◌, ℕ, ◌+◌, ◌<◌, List, [], ◌∷◌, ◌++◌, length}
use Rattle.std.specs.Prelude.{slice_index, slice_set, refl}
use Rattle.std.proofs.Common.{◌∙◌, sym, ap, subst, inl, inr}
use Rattle.std.proofs.lemmas.Bool.Decides.{eqb_tells}
use Rattle.std.proofs.lemmas.List.{get_or-set_same, get_or-set_other}
use Rattle.level_core.specs.declared.span.Span.{Span}
use Rattle.level_core.specs.declared.span.Entry.{Entry}
use Rattle.level_core.specs.Entries.{StandsAt, one, span as the_span}
use Rattle.level_core.specs.Meaning.{Meaning}
use Rattle.tensor_storage.specs.Storages.{IsOpen}
use Rattle.level_checks.proofs.Loops.{Same}
use Rattle.storage_builder.specs.Cleared.{EndsBelow, IsCleared}

pub cleared_none : (nothing : ℕ) (xs : List ℕ) → IsCleared (λ pos. ⊥) nothing xs xs
cleared_none nothing xs = record { there = λ pos h. absurd h; each = λ pos. inr refl; others = λ pos n. refl }

-- the same positions, named otherwise
pub cleared_as : (P Q : ℕ → Type 0) (nothing : ℕ) (xs ys : List ℕ) → ((pos : ℕ) → Same (P pos) (Q pos)) → IsCleared P nothing xs ys
    → IsCleared Q nothing xs ys
cleared_as P Q nothing xs ys same c = record {
  there = λ pos q. c.there pos ((same pos).1 q);
  each = c.each;
  others = λ pos n. c.others pos (λ p. n ((same pos).0 p));
}

-- some positions, and then others
pub cleared_both : (P Q : ℕ → Type 0) (nothing : ℕ) (xs ys zs : List ℕ) → IsCleared P nothing xs ys → IsCleared Q nothing ys zs
    → IsCleared (λ pos. P pos ⊎ Q pos) nothing xs zs
cleared_both P Q nothing xs ys zs c d = record {
  there = there;
  each = λ pos. elim (d.each pos) [
    | inl put ↦ inl put
    | inr kept ↦ elim (c.each pos) [ inl put ↦ inl (kept ∙ put) | inr before ↦ inr (kept ∙ before) ]
  ];
  others = λ pos n. d.others pos (λ q. n (inr q)) ∙ c.others pos (λ p. n (inl p));
}
  where
    there : (pos : ℕ) → P pos ⊎ Q pos → slice_index zs pos ≡ nothing
    there pos (inl p) = elim (d.each pos) [ inl put ↦ put | inr kept ↦ kept ∙ c.there pos p ]
    there pos (inr q) = d.there pos q

-- one position
pub cleared_one : (nothing pos : ℕ) (xs : List ℕ) → pos < length xs → IsCleared (λ p. p ≡ pos) nothing xs (slice_set xs pos nothing)
cleared_one nothing pos xs inside = record { there = there; each = each; others = others }
  where
    put : slice_index (slice_set xs pos nothing) pos ≡ nothing
    put = get_or-set_same xs pos nothing 0 inside

    there : (p : ℕ) → p ≡ pos → slice_index (slice_set xs pos nothing) p ≡ nothing
    there p is = ap (slice_index (slice_set xs pos nothing)) is ∙ put

    others : (p : ℕ) → (p ≡ pos → ⊥) → slice_index (slice_set xs pos nothing) p ≡ slice_index xs p
    others p apart = get_or-set_other xs pos p nothing 0 apart

    each : (p : ℕ) → (slice_index (slice_set xs pos nothing) p ≡ nothing) ⊎ (slice_index (slice_set xs pos nothing) p ≡ slice_index xs p)
    each p = elim (eqb_tells p pos) [ inl same ↦ inl (there p same.1) | inr apart ↦ inr (others p apart.1) ]

none_or : {A : Type 0} → Same (⊥ ⊎ A) (A ⊎ ⊥)
none_or {A} = (into, back)
  where
    into : ⊥ ⊎ A → A ⊎ ⊥
    into (inl none) = absurd none
    into (inr here) = inl here

    back : A ⊎ ⊥ → ⊥ ⊎ A
    back (inl here) = inr here
    back (inr none) = absurd none

or_later : {A B C D : Type 0} → Same (B ⊎ C) D → Same ((A ⊎ B) ⊎ C) (A ⊎ D)
or_later {A} {B} {C} {D} rest = (into, back)
  where
    into : (A ⊎ B) ⊎ C → A ⊎ D
    into (inl (inl here)) = inl here
    into (inl (inr there)) = inr (rest.0 (inl there))
    into (inr last) = inr (rest.0 (inr last))

    between : B ⊎ C → (A ⊎ B) ⊎ C
    between (inl before) = inl (inr before)
    between (inr last) = inr last

    back : A ⊎ D → (A ⊎ B) ⊎ C
    back (inl here) = inl (inl here)
    back (inr there) = between (rest.1 there)

module _ {L : Type 0} (means : Meaning L) (ls : List L) where
  -- a path goes on below one of the entries
  abbrev pub Through : List Entry → ℕ → Type 0
  Through [] pos = ⊥
  Through (e ∷ es) pos = EndsBelow means ls e.child pos ⊎ Through es pos

  -- the levels can be asked below each of the entries
  abbrev pub Opened : ℕ → List Entry → Type 0
  Opened count [] = Unit {0}
  Opened count (e ∷ es) = IsOpen means ls count e.child × Opened count es

  pub through_push : (es : List Entry) (e : Entry) (pos : ℕ)
      → Same (Through es pos ⊎ EndsBelow means ls e.child pos) (Through (es ++ e ∷ []) pos)
  through_push [] e pos = none_or
  through_push (f ∷ es) e pos = or_later (through_push es e pos)

  stands_open : (count : ℕ) (es : List Entry) → Opened count es → (e : Entry) (pos : ℕ) → StandsAt pos e es → IsOpen means ls count e.child
  stands_open count [] o e pos at = absurd at
  stands_open count (f ∷ es) o e pos (inl here) = subst (λ (g : Entry). IsOpen means ls count g.child) here.1 o.0
  stands_open count (f ∷ es) o e pos (inr there) = stands_open count es o.1 e pos there

  -- below each entry the levels can be asked
  pub opened_all : (count : ℕ) (es : List Entry)
      → Same (Opened count es) ((e : Entry) → StandsAt e.child.lo e es → IsOpen means ls count e.child)
  opened_all count es = (λ o e at. stands_open count es o e e.child.lo at, back es)
    where
      back : (fs : List Entry) → ((e : Entry) → StandsAt e.child.lo e fs → IsOpen means ls count e.child) → Opened count fs
      back [] all = tt
      back (f ∷ fs) all = (all f (inl (refl, refl)), back fs (λ e at. all e (inr at)))

  stands_through : (es : List Entry) (e : Entry) (n pos : ℕ) → StandsAt n e es → EndsBelow means ls e.child pos → Through es pos
  stands_through [] e n pos at ends = absurd at
  stands_through (f ∷ es) e n pos (inl here) ends =
      inl (subst (λ (g : Entry). EndsBelow means ls g.child pos) (sym here.1) ends)
  stands_through (f ∷ es) e n pos (inr there) ends = inr (stands_through es e n pos there ends)

  pub through_stands : (es : List Entry) (pos : ℕ) → Through es pos
      → (e : Entry) × (StandsAt e.child.lo e es × EndsBelow means ls e.child pos)
  through_stands [] pos t = absurd t
  through_stands (f ∷ es) pos (inl here) = (f, (inl (refl, refl), here))
  through_stands (f ∷ es) pos (inr there) = let r = through_stands es pos there in (r.0, (inr r.1.0, r.1.1))

  -- a path through the level goes on below one of its entries
  pub through_level : (l : L) (s : Span) (pos : ℕ) → Same (Through (means.entries l s) pos) (EndsBelow means (l ∷ ls) s pos)
  through_level l s pos = (into, back)
    where
      into : Through (means.entries l s) pos → EndsBelow means (l ∷ ls) s pos
      into t = let r = through_stands (means.entries l s) pos t in (r.0.coord ∷ r.1.1.0, (r.0, r.1.0, refl, r.1.1.1))

      back : EndsBelow means (l ∷ ls) s pos → Through (means.entries l s) pos
      back ([], p) = absurd p
      back (x ∷ xs, p) = stands_through (means.entries l s) p.0 p.0.child.lo pos p.1 (xs, p.3)

-- behind the last level a path ends at the one position of the span
pub ends_here : {L : Type 0} (means : Meaning L) (s : Span) (pos : ℕ) → s.hi ≡ s.lo + 1 → Same (pos ≡ s.lo) (EndsBelow means [] s pos)
ends_here means s pos single = (into, back)
  where
    is : s ≡ one s.lo
    is = λ i. the_span s.lo (single i)

    into : pos ≡ s.lo → EndsBelow means [] s pos
    into same = ([], is ∙ ap one (sym same))

    back : EndsBelow means [] s pos → pos ≡ s.lo
    back ([], p) = ap (λ (t : Span). t.lo) (sym p)
    back (x ∷ xs, p) = absurd p
