-- The sums of rows with coordinates before their own are those of the rows, with the same coordinates before theirs.
use Rattle.std.specs.Prelude.{◌≡◌, ◌≢◌, ◌⊎◌, ℕ, false, nat_eq, List, [], ◌∷◌, ◌++◌, refl}
use Rattle.std.specs.Cmp.Lexicographic.{pointwise}
use Rattle.std.proofs.Common.{◌∙◌, sym, ap, subst, inl, inr}
use Rattle.std.proofs.lemmas.Bool.Decides.{eqb_tells}
use Rattle.numbers.specs.Arithmetic.{Arithmetic, Laws}
use Rattle.tensor_map.specs.Entries.{Entry, coords_of, is_at, value_at, Listed, StrictlyIncreasing}
use Rattle.tensor_map.specs.Laws.{same, other}
use Rattle.tensor_map.specs.Order.{IsBefore, IsBeforeAll}
use Rattle.tensor_map.proofs.Lemmas.{tested, at_itself, value_here, value_elsewhere, value_unlisted}
use Rattle.workspaces.specs.Workspaces.{AreSums}
use Rattle.drained_workspaces.specs.Drained.{prefixed_row, prefixed}

abbrev first_of : List ℕ → ℕ
first_of [] = 0
first_of (x ∷ xs) = x

abbrev rest_of : List ℕ → List ℕ
rest_of [] = []
rest_of (x ∷ xs) = xs

cancelled : (hs xs ys : List ℕ) → hs ++ xs ≡ hs ++ ys → xs ≡ ys
cancelled [] xs ys e = e
cancelled (h ∷ hs) xs ys e = cancelled hs xs ys (ap rest_of e)

-- coordinates begin with some, or they don't
begins : (hs coords : List ℕ) → ((c : List ℕ) × (hs ++ c ≡ coords)) ⊎ ((c : List ℕ) → hs ++ c ≢ coords)
begins [] coords = inl (coords, refl)
begins (h ∷ hs) [] = inr (λ c e. cc)
begins (h ∷ hs) (x ∷ xs) = elim (eqb_tells h x) [
  | inl equal ↦ elim (begins hs xs) [
    | inl found ↦ let first = equal.1 in let rest = found.1 in inl (found.0, λ i. first i ∷ rest i)
    | inr none ↦ inr (λ c e. none c (ap rest_of e))
  ]
  | inr apart ↦ inr (λ c e. apart.1 (ap first_of e))
]

-- rows are listed so behind the coordinates before them
listed_behind : (hs : List ℕ) (rows : List Entry) (coords : List ℕ) → Listed (prefixed hs rows) coords
    → (c : List ℕ) × (hs ++ c ≡ coords) × Listed rows c
listed_behind hs [] coords h = absurd h
listed_behind hs (row ∷ rows) coords (inl here) = (row.coords, here, inl refl)
listed_behind hs (row ∷ rows) coords (inr there) = let p = listed_behind hs rows coords there in (p.0, p.1, inr p.2)

listed_prefixed : (hs : List ℕ) (rows : List Entry) (c : List ℕ) → Listed rows c → Listed (prefixed hs rows) (hs ++ c)
listed_prefixed hs [] c h = absurd h
listed_prefixed hs (row ∷ rows) c (inl here) = inl (ap (λ xs. hs ++ xs) here)
listed_prefixed hs (row ∷ rows) c (inr there) = inr (listed_prefixed hs rows c there)

listed_same : (hs : List ℕ) (rows others : List Entry) → ((c : List ℕ) → Listed rows c → Listed others c) → (coords : List ℕ)
    → Listed (prefixed hs rows) coords → Listed (prefixed hs others) coords
listed_same hs rows others f coords h =
    let p = listed_behind hs rows coords h in
    subst (Listed (prefixed hs others)) p.1 (listed_prefixed hs others p.0 (f p.0 p.2))

-- a value is that of the rows
value_prefixed : (a : Arithmetic) (hs c : List ℕ) (rows : List Entry) → value_at a (prefixed hs rows) (hs ++ c) ≡ value_at a rows c
value_prefixed a hs c [] = refl
value_prefixed a hs c (row ∷ rows) = elim (tested row.coords c) [
  | same is t ↦ value_here a (hs ++ c) (prefixed_row hs row) (prefixed hs rows)
      (ap (λ xs. pointwise nat_eq (hs ++ xs) (hs ++ c)) is ∙ at_itself (hs ++ c))
      ∙ ap (a.plus row.value) (value_prefixed a hs c rows) ∙ sym (value_here a c row rows t)
  | other isnt t ↦ value_elsewhere a (hs ++ c) (prefixed_row hs row) (prefixed hs rows) (away isnt)
      ∙ value_prefixed a hs c rows ∙ sym (value_elsewhere a c row rows t)
]
  where
    away : row.coords ≢ c → is_at (hs ++ c) (prefixed_row hs row) ≡ false
    away isnt = elim (tested (hs ++ row.coords) (hs ++ c)) [
      | same e t ↦ absurd (isnt (cancelled hs row.coords c e))
      | other e t ↦ t
    ]

-- rows that increase do so
before_prefixed : (hs xs ys : List ℕ) → IsBefore xs ys → IsBefore (hs ++ xs) (hs ++ ys)
before_prefixed [] xs ys h = h
before_prefixed (x ∷ hs) xs ys h = inr (refl, before_prefixed hs xs ys h)

before_all : (hs xs : List ℕ) (rows : List Entry) → IsBeforeAll xs (coords_of rows) → IsBeforeAll (hs ++ xs) (coords_of (prefixed hs rows))
before_all hs xs [] h = tt
before_all hs xs (row ∷ rows) h = (before_prefixed hs xs row.coords h.0, before_all hs xs rows h.1)

pub prefixed_increase : (hs : List ℕ) (rows : List Entry) → StrictlyIncreasing rows → StrictlyIncreasing (prefixed hs rows)
prefixed_increase hs [] h = tt
prefixed_increase hs (row ∷ rows) h = (before_all hs row.coords rows h.0, prefixed_increase hs rows h.1)

pub prefixed_sums : (a : Arithmetic) → Laws a → (hs : List ℕ) (rows sums : List Entry) → AreSums a rows sums
    → AreSums a (prefixed hs rows) (prefixed hs sums)
prefixed_sums a laws hs rows sums are = record {
  listed = λ coords. (
    listed_same hs sums rows (λ c. (are.listed c).0) coords,
    listed_same hs rows sums (λ c. (are.listed c).1) coords,
  );
  values = λ coords. elim (begins hs coords) [
    | inl found ↦ subst (λ cs. value_at a (prefixed hs sums) cs ≡ value_at a (prefixed hs rows) cs) found.1
        (value_prefixed a hs found.0 sums ∙ are.values found.0 ∙ sym (value_prefixed a hs found.0 rows))
    | inr none ↦ value_unlisted a laws coords (prefixed hs sums) (unlisted coords none sums)
        ∙ sym (value_unlisted a laws coords (prefixed hs rows) (unlisted coords none rows))
  ];
  increasing = prefixed_increase hs sums are.increasing;
}
  where
    unlisted : (coords : List ℕ) → ((c : List ℕ) → hs ++ c ≢ coords) → (es : List Entry) → Listed (prefixed hs es) coords → ⊥
    unlisted coords none es h = let p = listed_behind hs es coords h in none p.0 p.1
