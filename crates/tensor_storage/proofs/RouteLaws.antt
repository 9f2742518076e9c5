-- The paths of levels, one after another, are the paths below a span, each once.
use Rattle.std.specs.Prelude.{◌≡◌, ◌≢◌, ◌⊎◌, ℕ, suc, List, [], ◌∷◌, ◌++◌, length, map, refl}
use Rattle.std.proofs.Common.{◌∙◌, sym, ap, subst, arith, inl, inr}
use Rattle.std.proofs.lemmas.List.{append_assoc, append-nil}
use Rattle.level_core.specs.declared.span.Span.{Span}
use Rattle.level_core.specs.declared.span.Entry.{Entry}
use Rattle.level_core.specs.Entries.{StandsAt, Lacks, Distinct, one, span as the_span}
use Rattle.level_core.specs.Meaning.{Meaning}
use Rattle.level_core.specs.Laws.{Laws}
use Rattle.level_rows.specs.Stacks.{Path}
use Rattle.tensor_storage.specs.Routes.{Route, longer, routes_through, routes}
use Rattle.tensor_storage.specs.Storages.{IsOpen}

-- the path is one of these
abbrev pub Among : Route → List Route → Type 0
Among r [] = ⊥
Among r (s ∷ rs) = (s ≡ r) ⊎ Among r rs

among_front : (r : Route) (xs ys : List Route) → Among r xs → Among r (xs ++ ys)
among_front r [] ys a = absurd a
among_front r (x ∷ xs) ys (inl is) = inl is
among_front r (x ∷ xs) ys (inr more) = inr (among_front r xs ys more)

among_back : (r : Route) (xs ys : List Route) → Among r ys → Among r (xs ++ ys)
among_back r [] ys a = a
among_back r (x ∷ xs) ys a = inr (among_back r xs ys a)

among_either : (r : Route) (xs ys : List Route) → Among r (xs ++ ys) → Among r xs ⊎ Among r ys
among_either r [] ys a = inr a
among_either r (x ∷ xs) ys (inl is) = inl (inl is)
among_either r (x ∷ xs) ys (inr more) = by_part (among_either r xs ys more)
  where
    by_part : Among r xs ⊎ Among r ys → Among r (x ∷ xs) ⊎ Among r ys
    by_part (inl a) = inl (inr a)
    by_part (inr a) = inr a

among_longer : (x : ℕ) (r : Route) (rs : List Route) → Among r rs → Among (longer x r) (map (longer x) rs)
among_longer x r [] a = absurd a
among_longer x r (s ∷ rs) (inl is) = inl (ap (longer x) is)
among_longer x r (s ∷ rs) (inr more) = inr (among_longer x r rs more)

-- what is left of a path behind its first coordinate
record Behind (x : ℕ) (r : Route) (rs : List Route) : Type 0 where
  rest : Route
  among : Among rest rs
  is : longer x rest ≡ r

among_behind : (x : ℕ) (r : Route) (rs : List Route) → Among r (map (longer x) rs) → Behind x r rs
among_behind x r [] a = absurd a
among_behind x r (s ∷ rs) (inl is) = record { rest = s; among = inl refl; is = is }
among_behind x r (s ∷ rs) (inr more) = let k = among_behind x r rs more in record { rest = k.rest; among = inr k.among; is = k.is }

-- no path has these coordinates, and no two have the same
abbrev pub NoneHas : List ℕ → List Route → Type 0
NoneHas xs [] = Unit {0}
NoneHas xs (r ∷ rs) = (r.coords ≢ xs) × NoneHas xs rs

abbrev pub AreApart : List Route → Type 0
AreApart [] = Unit {0}
AreApart (r ∷ rs) = NoneHas r.coords rs × AreApart rs

none_has : (xs : List ℕ) (rs : List Route) → ((s : Route) → Among s rs → s.coords ≢ xs) → NoneHas xs rs
none_has xs [] none = tt
none_has xs (r ∷ rs) none = (none r (inl refl), none_has xs rs (λ s a. none s (inr a)))

pub has_none : (xs : List ℕ) (rs : List Route) → NoneHas xs rs → (s : Route) → Among s rs → s.coords ≢ xs
has_none xs [] none s a = absurd a
has_none xs (r ∷ rs) none s (inl is) = λ same. none.0 (ap (λ t. t.coords) is ∙ same)
has_none xs (r ∷ rs) none s (inr more) = has_none xs rs none.1 s more

apart_append : (rs ss : List Route) → AreApart rs → AreApart ss → ((r s : Route) → Among r rs → Among s ss → s.coords ≢ r.coords)
    → AreApart (rs ++ ss)
apart_append [] ss a b between = b
apart_append (r ∷ rs) ss a b between = (
  none_has r.coords (rs ++ ss) (λ s among. by_part s (among_either s rs ss among)),
  apart_append rs ss a.1 b (λ q s i j. between q s (inr i) j),
)
  where
    by_part : (s : Route) → Among s rs ⊎ Among s ss → s.coords ≢ r.coords
    by_part s (inl among) = has_none r.coords rs a.0 s among
    by_part s (inr among) = between r s (inl refl) among

tail_same : (x : ℕ) (xs ys : List ℕ) → x ∷ xs ≡ x ∷ ys → xs ≡ ys
tail_same x xs ys h = cc

head_same : (x y : ℕ) (xs ys : List ℕ) → x ∷ xs ≡ y ∷ ys → x ≡ y
head_same x y xs ys h = cc

none_longer : (x : ℕ) (xs : List ℕ) (rs : List Route) → NoneHas xs rs → NoneHas (x ∷ xs) (map (longer x) rs)
none_longer x xs [] none = tt
none_longer x xs (r ∷ rs) none = (λ same. none.0 (tail_same x r.coords xs same), none_longer x xs rs none.1)

apart_longer : (x : ℕ) (rs : List Route) → AreApart rs → AreApart (map (longer x) rs)
apart_longer x [] a = tt
apart_longer x (r ∷ rs) a = (none_longer x r.coords rs a.0, apart_longer x rs a.1)

-- the paths through some entries begin with their coordinates
head_is_other : (below : Span → List Route) (x : ℕ) (es : List Entry) (s : Route) (rest : List ℕ) → Lacks x es
    → Among s (routes_through below es) → s.coords ≡ x ∷ rest → ⊥
head_is_other below x [] s rest lacks a same = a
head_is_other below x (e ∷ es) s rest lacks a same =
    by_part (λ there. head_is_other below x es s rest lacks.1 there same)
    (among_either s (map (longer e.coord) (below e.child)) (routes_through below es) a)
  where
    by_part : (Among s (routes_through below es) → ⊥)
        → Among s (map (longer e.coord) (below e.child)) ⊎ Among s (routes_through below es) → ⊥
    by_part again (inl here) = let k = among_behind e.coord s (below e.child) here in
        lacks.0 (head_same e.coord x k.rest.coords rest (ap (λ t. t.coords) k.is ∙ same))
    by_part again (inr there) = again there

through_apart : (below : Span → List Route) (es : List Entry) → Distinct es
    → ((e : Entry) → StandsAt e.child.lo e es → AreApart (below e.child)) → AreApart (routes_through below es)
through_apart below [] d each = tt
through_apart below (e ∷ es) d each = apart_append (map (longer e.coord) (below e.child)) (routes_through below es)
    (apart_longer e.coord (below e.child) (each e (inl (refl, refl)))) (through_apart below es d.1 (λ f s. each f (inr s)))
    (λ r s a b same. let k = among_behind e.coord r (below e.child) a in
    head_is_other below e.coord es s k.rest.coords d.0 b (same ∙ sym (ap (λ t. t.coords) k.is)))

-- a path through an entry is one of those
pub through_among : (below : Span → List Route) (e : Entry) (r : Route) (es : List Entry) (q : ℕ) → StandsAt q e es
    → Among r (below e.child) → Among (longer e.coord r) (routes_through below es)
through_among below e r [] q s a = absurd s
through_among below e r (f ∷ es) q (inl (at, same)) a =
    let P : Entry → Type 0 = λ g. Among (longer e.coord r) (map (longer g.coord) (below g.child) ++ routes_through below es) in
    subst P (sym same) (among_front (longer e.coord r) (map (longer e.coord) (below e.child)) (routes_through below es)
    (among_longer e.coord r (below e.child) a))
through_among below e r (f ∷ es) q (inr s) a = among_back (longer e.coord r) (map (longer f.coord) (below f.child))
    (routes_through below es) (through_among below e r es q s a)

-- an entry that a path goes through
record Through (below : Span → List Route) (r : Route) (es : List Entry) : Type 0 where
  entry : Entry
  stands : StandsAt entry.child.lo entry es
  rest : Route
  among : Among rest (below entry.child)
  is : longer entry.coord rest ≡ r

through_which : (below : Span → List Route) (r : Route) (es : List Entry) → Among r (routes_through below es) → Through below r es
through_which below r [] a = absurd a
through_which below r (e ∷ es) a = by_part (through_which below r es)
    (among_either r (map (longer e.coord) (below e.child)) (routes_through below es) a)
  where
    by_part : (Among r (routes_through below es) → Through below r es)
        → Among r (map (longer e.coord) (below e.child)) ⊎ Among r (routes_through below es) → Through below r (e ∷ es)
    by_part again (inl here) = let k = among_behind e.coord r (below e.child) here in
        record { entry = e; stands = inl (refl, refl); rest = k.rest; among = k.among; is = k.is }
    by_part again (inr there) = let k = again there in
        record { entry = k.entry; stands = inr k.stands; rest = k.rest; among = k.among; is = k.is }

-- one entry more behind those that are done
pub through_more : (below : Span → List Route) (es : List Entry) (e : Entry)
    → routes_through below (es ++ e ∷ []) ≡ routes_through below es ++ map (longer e.coord) (below e.child)
through_more below [] e = append-nil (map (longer e.coord) (below e.child))
through_more below (f ∷ es) e = ap (λ rs. map (longer f.coord) (below f.child) ++ rs) (through_more below es e)
    ∙ sym (append_assoc (map (longer f.coord) (below f.child)) (routes_through below es) (map (longer e.coord) (below e.child)))

-- entries below which there is no path
through_none : (below : Span → List Route) (es : List Entry) → ((e : Entry) → StandsAt e.child.lo e es → below e.child ≡ [])
    → routes_through below es ≡ []
through_none below [] none = refl
through_none below (e ∷ es) none = ap (λ rs. map (longer e.coord) rs ++ routes_through below es) (none e (inl (refl, refl)))
    ∙ through_none below es (λ f stands. none f (inr stands))

abbrev ends : ℕ → Route
ends pos = record { coords = []; end = pos }

module _ {L : Type 0} (means : Meaning L) where
  pub route_of_path : (ls : List L) (s : Span) (xs : List ℕ) (pos : ℕ) → Path means ls s xs pos
      → Among (record { coords = xs; end = pos }) (routes means ls s)
  route_of_path [] s [] pos p =
      let P : ℕ → Type 0 = λ q. ends s.lo ≡ ends q in
      inl (subst P (ap (λ t. t.lo) p) refl)
  route_of_path [] s (x ∷ xs) pos p = absurd p
  route_of_path (l ∷ ls) s [] pos p = absurd p
  route_of_path (l ∷ ls) s (x ∷ xs) pos p =
      let below = route_of_path ls p.0.child xs pos p.3 in
      let through = through_among (routes means ls) p.0 (record { coords = xs; end = pos }) (means.entries l s) p.0.child.lo p.1 below in
      let P : ℕ → Type 0 = λ y. Among (record { coords = y ∷ xs; end = pos }) (routes_through (routes means ls) (means.entries l s)) in
      subst P p.2 through

  pub path_of_route : (ls : List L) (positions : ℕ) (s : Span) → IsOpen means ls positions s → (r : Route) → Among r (routes means ls s)
      → Path means ls s r.coords r.end
  path_of_route [] positions s o r (inl is) =
      let P : Route → Type 0 = λ q. Path means [] s q.coords q.end in
      let Q : ℕ → Type 0 = λ hi. the_span s.lo hi ≡ one s.lo in
      subst P is (subst Q (sym o.0) refl)
  path_of_route [] positions s o r (inr none) = absurd none
  path_of_route (l ∷ ls) positions s o r a =
      let k = through_which (routes means ls) r (means.entries l s) a in
      let P : Route → Type 0 = λ q. Path means (l ∷ ls) s q.coords q.end in
      subst P k.is (k.entry, k.stands, refl, path_of_route ls positions k.entry.child (o.1 k.entry k.stands) k.rest k.among)

  -- there is no path where there is no position for its end
  pub no_routes : (ls : List L) (s : Span) → IsOpen means ls 0 s → routes means ls s ≡ []
  no_routes [] s o = absurd (let h = o.1 in omega (arith, h))
  no_routes (l ∷ ls) s o = through_none (routes means ls) (means.entries l s) (λ e stands. no_routes ls e.child (o.1 e stands))

  pub routes_apart : Laws means → (ls : List L) (positions : ℕ) (s : Span) → IsOpen means ls positions s → AreApart (routes means ls s)
  routes_apart laws [] positions s o = (tt, tt)
  routes_apart laws (l ∷ ls) positions s o = through_apart (routes means ls) (means.entries l s) (laws.entries l s o.0).distinct
      (λ e stands. routes_apart laws ls positions e.child (o.1 e stands))

  pub path_long : (ls : List L) (s : Span) (xs : List ℕ) (pos : ℕ) → Path means ls s xs pos → length xs ≡ length ls
  path_long [] s [] pos p = refl
  path_long [] s (x ∷ xs) pos p = absurd p
  path_long (l ∷ ls) s [] pos p = absurd p
  path_long (l ∷ ls) s (x ∷ xs) pos p = ap suc (path_long ls p.0.child xs pos p.3)
