-- The columns that a storage in format `ds` has below a row are different, and each leads to a value.
use Rattle.std.specs.Prelude.{◌≡◌, ℕ, zero, suc, ◌==◌, Bool, true, false, if◌then◌else◌, List, [], ◌∷◌, length, map}
use Rattle.std.specs.Prelude.{Option, Some, None, slice_get, refl}
use Rattle.std.proofs.Common.{◌∙◌, sym, ap, subst, arith}
use Rattle.lists.specs.Each.{Each}
use Rattle.lists.proofs.Each.{each_from}
use Rattle.lists.proofs.Tests.{number_same}
use Rattle.level_core.specs.declared.letter.Letter.TheVariants.{Dense, Compressed}
use Rattle.level_core.specs.declared.span.Span.{Span}
use Rattle.level_core.specs.declared.span.Entry.{Entry as LevelEntry}
use Rattle.level_core.specs.Entries.{Distinct, one}
use Rattle.loop_code.specs.Loops.{follow}
use Rattle.loop_code.specs.Parts.{is_some}
use Rattle.tensor_storage.specs.declared.level.StorageLevel.{StorageLevel}
use Rattle.tensor_storage.specs.Children.{child_of}
use Rattle.tensor_storage.specs.Laws.{laws}
use Rattle.tensor_storage.specs.Levels.{meaning, entries_of}
use Rattle.tensor_storage.specs.Storages.{IsOpen}
use Rattle.tensor_storage.proofs.Children.{child_is}
use Rattle.lowering.specs.Stored.{entries_at, walk}

-- below some positions, if there are any, the entries of the second level
abbrev pub below_of : List StorageLevel → Option Span → List LevelEntry
below_of levels None = []
below_of levels (Some p) = entries_at levels 2 p

-- below a row
abbrev pub row_segment : List StorageLevel → ℕ → List LevelEntry
row_segment levels x = below_of levels (child_of (entries_at levels 1 (one 0)) x)

-- an entry that stands in a list has a child there
child_there : (es : List LevelEntry) (n : ℕ) (e : LevelEntry) → slice_get es n ≡ Some e → is_some (child_of es e.coord) ≡ true
child_there [] n e at = absurd cc
child_there (f ∷ es) zero e at =
    let same : f ≡ e = cc in
    subst (λ (g : LevelEntry). is_some (child_of (f ∷ es) g.coord) ≡ true) same
    (ap (λ b. is_some (if b then Some f.child else child_of es f.coord)) (number_same f.coord))
child_there (f ∷ es) (suc n) e at = by (child_there es n e at) (f.coord == e.coord) refl
  where
    by : is_some (child_of es e.coord) ≡ true → (b : Bool) → (f.coord == e.coord) ≡ b
        → is_some (if f.coord == e.coord then Some f.child else child_of es e.coord) ≡ true
    by rest true t = ap (λ b. is_some (if b then Some f.child else child_of es e.coord)) t
    by rest false t = ap (λ b. is_some (if b then Some f.child else child_of es e.coord)) t ∙ rest

pub record IsRow (levels : List StorageLevel) (x : ℕ) : Type 0 where
  pub apart : Distinct (row_segment levels x)
  pub there : Each (λ (e : LevelEntry). is_some (walk levels (one 0) (x ∷ e.coord ∷ [])) ≡ true) (row_segment levels x)

-- a span that is there leads on to each child
leads_on : (top second : StorageLevel) (x : ℕ) (p : Span) → child_of (entries_of top (one 0)) x ≡ Some p
    → (n : ℕ) (e : LevelEntry) → slice_get (entries_of second p) n ≡ Some e
    → is_some (walk (top ∷ second ∷ []) (one 0) (x ∷ e.coord ∷ [])) ≡ true
leads_on top second x p is n e at =
    ap (λ o. is_some (follow o (λ child. walk (second ∷ []) child (e.coord ∷ [])))) is
    ∙ by (child_of (entries_of second p) e.coord) (child_there (entries_of second p) n e at)
  where
    by : (o : Option Span) → is_some o ≡ true → is_some (follow o (λ child. Some child)) ≡ true
    by None h = h
    by (Some child) h = refl

row_of : (top second : StorageLevel) (positions : ℕ) → IsOpen meaning (top ∷ second ∷ []) positions (one 0) → (x : ℕ)
    → IsRow (top ∷ second ∷ []) x
row_of top second positions opened x = by (child_of (entries_of top (one 0)) x) refl
  where
    by : (o : Option Span) → child_of (entries_of top (one 0)) x ≡ o → IsRow (top ∷ second ∷ []) x
    by None is = record {
      apart = subst (λ q. Distinct (below_of (top ∷ second ∷ []) q)) (sym is) tt;
      there = subst (λ q. Each (λ (e : LevelEntry). is_some (walk (top ∷ second ∷ []) (one 0) (x ∷ e.coord ∷ [])) ≡ true)
          (below_of (top ∷ second ∷ []) q)) (sym is) tt;
    }
    by (Some p) is =
        let child = child_is x p (entries_of top (one 0)) is in
        let inside = opened.1 child.entry child.stands in
        let allowed = subst (meaning.allowed second) child.is inside.0 in
        record {
          apart = subst (λ q. Distinct (below_of (top ∷ second ∷ []) q)) (sym is) (laws.entries second p allowed).distinct;
          there = subst (λ q. Each (λ (e : LevelEntry). is_some (walk (top ∷ second ∷ []) (one 0) (x ∷ e.coord ∷ [])) ≡ true)
              (below_of (top ∷ second ∷ []) q)) (sym is)
              (each_from (λ (e : LevelEntry). is_some (walk (top ∷ second ∷ []) (one 0) (x ∷ e.coord ∷ [])) ≡ true)
              (entries_of second p) (leads_on top second x p is));
        }

-- so it is of each row of a storage in that format
pub row_is : (levels : List StorageLevel) (positions : ℕ) → map meaning.kind levels ≡ Dense ∷ Compressed ∷ []
    → IsOpen meaning levels positions (one 0) → (x : ℕ) → IsRow levels x
row_is [] positions kinds opened x = absurd (let none = ap length kinds in omega (arith, none))
row_is (top ∷ []) positions kinds opened x = absurd (let none = ap length kinds in omega (arith, none))
row_is (top ∷ second ∷ []) positions kinds opened x = row_of top second positions opened x
row_is (top ∷ second ∷ third ∷ more) positions kinds opened x = absurd (let none = ap length kinds in omega (arith, none))
