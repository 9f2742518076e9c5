-- A row comes: its head is appended unless it is the last one, and its value is added.
use Rattle.std.specs.Prelude.{◌≡◌, ◌⊎◌, ℕ, zero, suc, ◌+◌, ◌-◌, ◌≤◌, ◌<◌, List, [], ◌∷◌, ◌++◌, length, take, drop}
use Rattle.std.specs.Prelude.{slice_index, Some, refl}
use Rattle.std.proofs.Common.{◌∙◌, sym, ap, subst, arith, inl, inr}
use Rattle.std.proofs.lemmas.List.{get_or-take, ext_get_or, length-take-le, take-append-drop, drop_all, get_or_push, length_push}
use Rattle.numbers.specs.Arithmetic.{Arithmetic, Laws}
use Rattle.kernel_code.specs.Does.{Does}
use Rattle.kernel_code.proofs.Does.{does_weaker, does_append}
use Rattle.kernel_code.specs.Keeps.{Leaves, no_turns}
use Rattle.kernel_code.specs.Meaning.{Setting, State}
use Rattle.kernel_code.specs.declared.syntax.Arr.TheVariants.{Values}
use Rattle.kernel_code.specs.declared.syntax.KStmt.{KStmt}
use Rattle.tensor_map.specs.Entries.{Entry}
use Rattle.tns_io.specs.Positions.{IsBelow}
use Rattle.tns_io.proofs.PositionLaws.{below_long}
use Rattle.level_core.specs.declared.letter.Letter.{Letter}
use Rattle.level_core.specs.Fragments.{RefusedWithin}
use Rattle.appended_results.specs.Heads.{AreHeads}
use Rattle.appended_results.specs.Levels.{IsMine, IsKept, MayHold}
use Rattle.appended_results.specs.Codes.{AreKeys, IsOutsideResult}
use Rattle.appended_results.specs.Rows.{HoldsHeads}
use Rattle.appended_results.specs.Opening.{ComesNext, IsOpen, Opens, OpensHead}
use Rattle.appended_results.specs.Sums.{head_at, HoldsSums}
use Rattle.appended_results.specs.Values.{add_code, HaveTail}
use Rattle.appended_results.specs.Results.{HoldsRows, MayCome, RefusesRows}
use Rattle.appended_results.proofs.SumLaws.{drop_step}
use Rattle.appended_results.proofs.NewHeads.{head_added}
use Rattle.appended_results.proofs.AddLaws.{adds_value}
use Rattle.appended_results.proofs.RowHeads.{each_at, heads_same, heads_more, head_follows, head_fresh}

below_at : (ns xs : List ℕ) (m : ℕ) → IsBelow ns xs → m < length ns → slice_index xs m < slice_index ns m
below_at [] [] m b l = absurd (omega (arith, l))
below_at [] (x ∷ xs) m b l = absurd b
below_at (n ∷ ns) [] m b l = absurd b
below_at (n ∷ ns) (x ∷ xs) zero b l = b.0
below_at (n ∷ ns) (x ∷ xs) (suc m) b l = below_at ns xs m b.1 (omega (arith, l))

below_from : (ns xs : List ℕ) (d : ℕ) → IsBelow ns xs → IsBelow (drop d ns) (drop d xs)
below_from ns xs zero b = b
below_from [] [] (suc d) b = tt
below_from [] (x ∷ xs) (suc d) b = absurd b
below_from (n ∷ ns) [] (suc d) b = absurd b
below_from (n ∷ ns) (x ∷ xs) (suc d) b = below_from ns xs d b.1

-- the levels below the head have their sizes, and variables the row's coordinates there
tail_there : (letters : List Letter) (sizes : List ℕ) (head base : ℕ) (heads : List (List ℕ)) (s : State) (coords keys : List ℕ)
    → MayHold letters sizes head heads → HoldsHeads letters sizes head base heads s → length coords ≡ length letters
    → length keys ≡ length letters → ((e : ℕ) → e < length letters → s.vars (slice_index keys e) ≡ Some (slice_index coords e))
    → (more d : ℕ) → head ≤ d → d + more ≡ length letters → HaveTail d (drop d sizes) (drop d coords) (drop d keys) s
tail_there letters sizes head base heads s coords keys may holds long many now zero d from at =
    let e = may.each in
    subst (λ ns. HaveTail d ns (drop d coords) (drop d keys) s) (sym (drop_all d sizes (omega (arith, at, e))))
    (subst (λ xs. HaveTail d [] xs (drop d keys) s) (sym (drop_all d coords (omega (arith, at, long))))
    (subst (λ ys. HaveTail d [] [] ys s) (sym (drop_all d keys (omega (arith, at, many)))) tt))
tail_there letters sizes head base heads s coords keys may holds long many now (suc more) d from at =
    let e = may.each in
    let inside : d < length letters = omega (arith, at) in
    subst (λ ns. HaveTail d ns (drop d coords) (drop d keys) s) (sym (drop_step sizes d (omega (arith, inside, e))))
    (subst (λ xs. HaveTail d (slice_index sizes d ∷ drop (suc d) sizes) xs (drop d keys) s)
    (sym (drop_step coords d (omega (arith, inside, long))))
    (subst (λ ys. HaveTail d (slice_index sizes d ∷ drop (suc d) sizes) (slice_index coords d ∷ drop (suc d) coords) ys s)
    (sym (drop_step keys d (omega (arith, inside, many)))) (
      (holds.levels d inside).size (may.is_head.tail d from inside),
      now d inside,
      tail_there letters sizes head base heads s coords keys may holds long many now more (suc d) (omega (arith, from)) (omega (arith, at)),
    )))

-- what the code of a row leaves
pub record HasRows (a : Arithmetic) (letters : List Letter) (sizes : List ℕ) (head base free nothing : ℕ) (rows : List Entry) (s t : State)
    : Type 0 where
  pub holds : HoldsRows a letters sizes head base nothing rows t
  pub leaves : Leaves (IsMine base (length letters)) IsKept free no_turns s t

module _ (letters : List Letter) (head base free nothing : ℕ) (keys : List ℕ) (var : ℕ) (open_code : List KStmt)
    (opens : OpensHead letters head base free nothing keys open_code) (are_keys : AreKeys (length letters) base free keys)
    (outside : IsOutsideResult (length letters) base free var) (c : Setting) (laws : Laws c.arithmetic) (sizes : List ℕ) (rows : List Entry)
    (row : Entry) (comes : MayCome sizes head rows row) (s : State) (h : HoldsRows c.arithmetic letters sizes head base nothing rows s)
    (now : (e : ℕ) → e < length letters → s.vars (slice_index keys e) ≡ Some (slice_index row.coords e))
    (value_is : s.vars var ≡ Some row.value) where
  abbrev key : List ℕ
  key = take head row.coords

  long : length row.coords ≡ length letters
  long = below_long sizes row.coords comes.below ∙ h.may.each

  key_long : length (take head row.coords) ≡ head
  key_long = let w = h.may.is_head.within in length-take-le head row.coords (omega (arith, w, long))

  whole_row : row.coords ≡ take head row.coords ++ drop head row.coords
  whole_row = sym (take-append-drop head row.coords)

  key_now : (e : ℕ) → e < head → s.vars (slice_index keys e) ≡ Some (slice_index (take head row.coords) e)
  key_now e l = let w = h.may.is_head.within in now e (omega (arith, l, w)) ∙ ap Some (sym (get_or-take head row.coords e 0 l))

  comes_next : ComesNext sizes head h.heads (take head row.coords)
  comes_next = record {
    below = λ d l.
        let w = h.may.is_head.within in let e = h.may.each in
        let b = below_at sizes row.coords d comes.below (omega (arith, l, w, e)) in
        let k = get_or-take head row.coords d 0 l in
        omega (arith, b, k);
    follows = head_follows head rows row h.heads h.are comes.follows;
  }

  -- the value, once the row's head is the last one
  adds : (t : State) → Leaves (IsMine base (length letters)) IsKept free no_turns s t → (heads : List (List ℕ))
      → MayHold letters sizes head heads
      → AreHeads head (rows ++ row ∷ []) heads → HoldsHeads letters sizes head base heads t → (words : List ℕ)
      → t.arrays (Values 0) ≡ Some words → HoldsSums c.arithmetic letters sizes head heads rows words
      → (j : ℕ) → length heads ≡ suc j → head_at heads j ≡ take head row.coords
      → Does c (add_code base head keys var) t
      (HasRows c.arithmetic letters sizes head base free nothing (rows ++ row ∷ []) s)
      (RefusedWithin no_turns s (RefusesRows letters sizes head (rows ++ row ∷ [])))
  adds t l heads may are holds words held sums j is same =
      does_weaker c (add_code base head keys var) t _ _ _ _
      (adds_value c laws letters sizes head base free heads may (λ i g. each_at head heads i are.long g) rows row comes.word t holds
      words held
      sums j is (drop head row.coords) keys var (below_from sizes row.coords head comes.below)
      (whole_row ∙ ap (λ k. k ++ drop head row.coords) (sym same))
      (let w = may.is_head.within in
      tail_there letters sizes head base heads t row.coords keys may holds long are_keys.many
      (λ e g. let o = are_keys.outside e g in l.below (slice_index keys e) o.below (λ mine. o.other mine) ∙ now e g)
      (length letters - head) head (omega arith) (omega (arith, w)))
      (l.below var outside.below (λ mine. outside.other mine) ∙ value_is))
      (λ u r. record {
        holds = record {
          heads = heads;
          are = are;
          may = may;
          holds = r.holds;
          words = r.words;
          held = r.held;
          sums = r.sums;
          zeros = h.zeros;
        };
        leaves = record {
          below = λ y g m. r.leaves.below y g (λ never. never) ∙ l.below y g m;
          arrays = λ b kept. r.leaves.arrays b kept ∙ l.arrays b kept;
          turns = λ k. let x = r.leaves.turns k in let y = l.turns k in omega (arith, x, y);
        };
      })
      (λ turns b count never. absurd never)

  pub adds_row : Does c (open_code ++ add_code base head keys var) s
      (HasRows c.arithmetic letters sizes head base free nothing (rows ++ row ∷ []) s)
      (RefusedWithin no_turns s (RefusesRows letters sizes head (rows ++ row ∷ [])))
  adds_row =
      does_append c open_code (add_code base head keys var) s
      (λ t. IsOpen letters sizes head base free h.heads key h.words s t
      ⊎ Opens letters sizes head base free nothing h.heads key h.words s t)
      _ _
      (does_weaker c open_code s _ _ _ _
      (opens c sizes h.heads key h.may comes_next s h.holds h.words h.held h.sums.many key_now) (λ t o. o)
      (λ turns b count z. (
        z.0,
        record {
          heads = h.heads ++ take head row.coords ∷ [];
          are = heads_more head rows row h.heads h.are (take head row.coords) refl key_long z.1.may.rise;
          may = z.1.may;
          level = z.1.level;
          inside = z.1.inside;
          passes = z.1.passes;
        },
      )))
      (λ t o. by_case t o)
    where
      by_case : (t : State) → IsOpen letters sizes head base free h.heads (take head row.coords) h.words s t
          ⊎ Opens letters sizes head base free nothing h.heads (take head row.coords) h.words s t
          → Does c (add_code base head keys var) t
          (HasRows c.arithmetic letters sizes head base free nothing (rows ++ row ∷ []) s)
          (RefusedWithin no_turns s (RefusesRows letters sizes head (rows ++ row ∷ [])))
      by_case t (inl o) =
          let many = each_at head h.heads o.last h.are.long (let l = o.is_last in omega (arith, l)) in
          let same : head_at h.heads o.last ≡ take head row.coords =
          ext_get_or 0 (head_at h.heads o.last) (take head row.coords) (many ∙ sym key_long) (λ m l. o.same m (omega (arith, l, many))) in
          adds t o.leaves h.heads h.may (heads_same head rows row h.heads h.are o.last o.is_last (sym same)) o.holds h.words o.values_are
          h.sums
          o.last o.is_last same
      by_case t (inr p) =
          let more = heads_more head rows row h.heads h.are (take head row.coords) refl key_long p.may.rise in
          let counted = counted_push in
          adds t p.has.leaves (h.heads ++ take head row.coords ∷ []) p.may more p.has.holds _ p.has.values_are
          (head_added letters sizes head h.heads (take head row.coords) h.may p.may c.arithmetic nothing rows h.words h.zeros p.has.upto
          (head_fresh head rows row h.heads h.are (take head row.coords) key_long p.may.rise) h.sums)
          (length h.heads) counted (get_or_push h.heads (take head row.coords) [] (length h.heads) refl)
        where
          counted_push : length (h.heads ++ take head row.coords ∷ []) ≡ suc (length h.heads)
          counted_push = let k = length_push h.heads (take head row.coords) in omega (arith, k)
