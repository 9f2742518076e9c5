-- The entries of all paths list the storage's paths.
use Rattle.std.specs.Prelude.{◌≡◌, ◌⊎◌, ℕ, ◌<◌, List, [], ◌∷◌, length, map, All, slice_index, refl}
use Rattle.std.proofs.Common.{◌∙◌, sym, ap, subst, arith, inl, inr, get_or}
use Rattle.std.proofs.lemmas.Bool.{cases_order}
use Rattle.std.proofs.lemmas.Grind.{same_number_lists}
use Rattle.std.proofs.lemmas.List.{length-map, get_or-map}
use Rattle.std.proofs.lemmas.List.Elements.{All-tail}
use Rattle.numbers.specs.Arithmetic.{Arithmetic, Laws}
use Rattle.level_core.specs.Entries.{one}
use Rattle.level_core.specs.declared.letter.Letter.TheVariants.{Dense}
use Rattle.level_rows.specs.Stacks.{Path}
use Rattle.format_spec.specs.declared.format.FormatLevel.{FormatLevel}
use Rattle.format_spec.specs.Formats.{modes_of, IsFormat}
use Rattle.tensor_map.specs.Entries.{Entry, IsEntry, Entries, Listed, value_at}
use Rattle.tensor_map.specs.Laws.{same, other}
use Rattle.tensor_map.proofs.Lemmas.{tested, at_itself, value_here, value_elsewhere, value_unlisted}
use Rattle.tensor_storage.specs.Levels.{meaning}
use Rattle.tensor_storage.specs.Laws.{laws as level_laws}
use Rattle.tensor_storage.specs.Routes.{Route, routes, in_mode_order, entry_of, ListsPaths, AreLevelsOf, AreSorted}
use Rattle.tensor_storage.specs.Storages.{Storage, IsStorage, EndsAt, in_level_order}
use Rattle.tensor_storage.proofs.Arranging.{level_coord}
use Rattle.tensor_storage.proofs.RouteLaws.{Among, AreApart, has_none, route_of_path, path_of_route, routes_apart, path_long}

none : FormatLevel
none = record { letter = Dense; mode = 0 }

module _ (format : List FormatLevel) (places : List ℕ) (is : IsFormat format) (are : AreLevelsOf (modes_of format) places) where
  many_modes : length (modes_of format) ≡ length format
  many_modes = length-map format (λ level. level.mode)

  many_places : length places ≡ length format
  many_places = are.many ∙ many_modes

  place_below : (mode : ℕ) → mode < length format → slice_index places mode < length format
  place_below mode h = let below = are.within mode 0 (omega (arith, h, many_places)) in omega (arith, below, many_modes)

  mode_at : (k : ℕ) → k < length format → (get_or format k none).mode ≡ slice_index (modes_of format) k
  mode_at k h = sym (get_or-map (λ level. level.mode) format k none 0 h)

  mode_small : (k : ℕ) → k < length format → (get_or format k none).mode < length format
  mode_small k h = let below = is.order.below k 0 (omega (arith, h, many_modes)) in let at = mode_at k h in omega (arith, below, at)

  -- the level of a level's mode is the level
  place_back : (k : ℕ) → k < length format → slice_index places (get_or format k none).mode ≡ k
  place_back k h = by_order (cases_order (slice_index places (get_or format k none).mode) k)
    where
      stored : slice_index (modes_of format) (slice_index places (get_or format k none).mode) ≡ slice_index (modes_of format) k
      stored = are.modes_are (get_or format k none).mode (let small = mode_small k h in omega (arith, small, many_modes)) ∙ mode_at k h

      by_order : (slice_index places (get_or format k none).mode ≡ k)
          ⊎ ((slice_index places (get_or format k none).mode < k) ⊎ (k < slice_index places (get_or format k none).mode))
          → slice_index places (get_or format k none).mode ≡ k
      by_order (inl equal) = equal
      by_order (inr (inl less)) =
          absurd (is.order.once (slice_index places (get_or format k none).mode) k 0 less (omega (arith, h, many_modes)) stored)
      by_order (inr (inr less)) =
          absurd (is.order.once k (slice_index places (get_or format k none).mode) 0 less
          (let below = place_below (get_or format k none).mode (mode_small k h) in omega (arith, below, many_modes)) (sym stored))

  placed_coord : (xs : List ℕ) (mode : ℕ) → mode < length format
      → slice_index (in_mode_order places xs) mode ≡ slice_index xs (slice_index places mode)
  placed_coord xs mode h = get_or-map (slice_index xs) places mode 0 0 (omega (arith, h, many_places))

  pub level_order_back : (xs : List ℕ) → length xs ≡ length format → in_level_order format (in_mode_order places xs) ≡ xs
  level_order_back xs long = same_number_lists (in_level_order format (in_mode_order places xs)) xs (all ∙ sym long)
      (λ k h. at k (omega (arith, h, all)))
    where
      all : length (in_level_order format (in_mode_order places xs)) ≡ length format
      all = length-map format (λ level. slice_index (in_mode_order places xs) level.mode)

      at : (k : ℕ) → k < length format → slice_index (in_level_order format (in_mode_order places xs)) k ≡ slice_index xs k
      at k h = level_coord format (in_mode_order places xs) k none h ∙ placed_coord xs (get_or format k none).mode (mode_small k h)
          ∙ ap (slice_index xs) (place_back k h)

  pub mode_order_back : (coords : List ℕ) → length coords ≡ length format → in_mode_order places (in_level_order format coords) ≡ coords
  mode_order_back coords long = same_number_lists (in_mode_order places (in_level_order format coords)) coords
      (all ∙ many_places ∙ sym long) (λ mode h. at mode (omega (arith, h, all, many_places)))
    where
      all : length (in_mode_order places (in_level_order format coords)) ≡ length places
      all = length-map places (slice_index (in_level_order format coords))

      at : (mode : ℕ) → mode < length format → slice_index (in_mode_order places (in_level_order format coords)) mode
          ≡ slice_index coords mode
      at mode h =
          let level = place_below mode h in
          placed_coord (in_level_order format coords) mode h ∙ level_coord format coords (slice_index places mode) none level
          ∙ ap (slice_index coords) (mode_at (slice_index places mode) level ∙ are.modes_are mode (omega (arith, h, many_modes)))

  module _ (values : List ℕ) where
    -- a listed entry is that of a path
    pub listed_to : (rs : List Route) (coords : List ℕ) → Listed (map (entry_of places values []) rs) coords
        → (r : Route) × Among r rs × (in_mode_order places r.coords ≡ coords)
    listed_to [] coords l = absurd l
    listed_to (r ∷ rs) coords (inl here) = (r, inl refl, here)
    listed_to (r ∷ rs) coords (inr there) = let k = listed_to rs coords there in (k.0, inr k.1, k.2)

    pub listed_from : (r : Route) (rs : List Route) → Among r rs
        → Listed (map (entry_of places values []) rs) (in_mode_order places r.coords)
    listed_from r [] a = absurd a
    listed_from r (s ∷ rs) (inl equal) = inl (ap (λ t. in_mode_order places t.coords) equal)
    listed_from r (s ∷ rs) (inr more) = inr (listed_from r rs more)

    module _ (a : Arithmetic) (laws : Laws a) where
      -- paths with the same coordinates in the order of the modes are the same
      coords_same : (xs ys : List ℕ) → length xs ≡ length format → length ys ≡ length format
          → in_mode_order places xs ≡ in_mode_order places ys → xs ≡ ys
      coords_same xs ys long also h = sym (level_order_back xs long) ∙ ap (in_level_order format) h ∙ level_order_back ys also

      pub value_apart : (order : ℕ) (rs : List Route) (r : Route) → AreApart rs
          → ((s : Route) → Among s rs → length s.coords ≡ length format) → All (IsEntry order) (map (entry_of places values []) rs)
          → Among r rs
          → value_at a (map (entry_of places values []) rs) (in_mode_order places r.coords) ≡ slice_index values r.end
      value_apart order [] r apart long each among = absurd among
      value_apart order (s ∷ rs) r apart long each (inl is) =
          let P : Route → Type 0 = λ q. value_at a (map (entry_of places values []) (s ∷ rs)) (in_mode_order places q.coords)
          ≡ slice_index values q.end in
          subst P is
          (value_here a (in_mode_order places s.coords) (entry_of places values [] s) (map (entry_of places values []) rs)
          (at_itself (in_mode_order places s.coords))
          ∙ ap (a.plus (slice_index values s.end))
          (value_unlisted a laws (in_mode_order places s.coords) (map (entry_of places values []) rs) (λ l.
          let k = listed_to rs (in_mode_order places s.coords) l in
          has_none s.coords rs apart.0 k.0 k.1 (coords_same k.0.coords s.coords (long k.0 (inr k.1)) (long s (inl refl)) k.2)))
          ∙ laws.plus_zero (slice_index values s.end) (each 0 (entry_of places values [] s) (omega arith)).word)
      value_apart order (s ∷ rs) r apart long each (inr more) =
          let rest = value_apart order rs r apart.1 (λ q i. long q (inr i))
          (All-tail (IsEntry order) (entry_of places values [] s) (map (entry_of places values []) rs) each) more in
          elim (tested (in_mode_order places s.coords) (in_mode_order places r.coords)) [
            | same is e ↦ absurd (has_none s.coords rs apart.0 r more
                (coords_same r.coords s.coords (long r (inr more)) (long s (inl refl)) (sym is)))
            | other isnt e ↦ value_elsewhere a (in_mode_order places r.coords) (entry_of places values [] s)
                (map (entry_of places values []) rs) e ∙ rest
          ]

-- the entries of all paths, once they are sorted, list the paths
pub lists_paths : (a : Arithmetic) → Laws a → (storage : Storage) (places : List ℕ) (gathered : List Entry) (entries : Entries)
    → IsStorage storage → AreLevelsOf (modes_of storage.format) places
    → gathered ≡ map (entry_of places storage.values []) (routes meaning storage.levels (one 0)) → AreSorted a gathered entries.list
    → entries.order ≡ length storage.format → ListsPaths a storage entries
lists_paths a laws storage places gathered entries is are all sorted order = record {
  order = order;
  increasing = sorted.increasing;
  listed = λ coords. (λ l. to coords ((sorted.listed coords).0 l), λ k. (sorted.listed coords).1 (from coords k.0 k.1.0 k.1.1));
  values = λ coords pos long path. sorted.values coords ∙ value coords pos long path;
}
  where
    rs_long : (s : List Route) → s ≡ routes meaning storage.levels (one 0) → (r : Route) → Among r s
        → length r.coords ≡ length storage.format
    rs_long s equal r among =
        let path = path_of_route meaning storage.levels (length storage.values) (one 0) is.opened r (subst (Among r) equal among) in
        path_long meaning storage.levels (one 0) r.coords r.end path ∙ sym (length-map storage.levels meaning.kind) ∙ ap length is.letters
        ∙ length-map storage.format (λ level. level.letter)

    to : (coords : List ℕ) → Listed gathered coords → (length coords ≡ length storage.format) × ((pos : ℕ) × EndsAt storage coords pos)
    to coords l =
        let k = listed_to storage.format places is.format are storage.values (routes meaning storage.levels (one 0)) coords
        (subst (λ es. Listed es coords) all l) in
        let long = rs_long (routes meaning storage.levels (one 0)) refl k.0 k.1 in
        let path = path_of_route meaning storage.levels (length storage.values) (one 0) is.opened k.0 k.1 in (
          sym (ap length k.2) ∙ length-map places (slice_index k.0.coords) ∙ many_places storage.format places is.format are,
          (
            k.0.end,
            subst (λ cs. EndsAt storage cs k.0.end) k.2
                (subst (λ xs. Path meaning storage.levels (one 0) xs k.0.end)
                (sym (level_order_back storage.format places is.format are k.0.coords long)) path),
          ),
        )

    from : (coords : List ℕ) → length coords ≡ length storage.format → (pos : ℕ) → EndsAt storage coords pos → Listed gathered coords
    from coords long pos path = subst (λ es. Listed es coords) (sym all)
        (subst (Listed (map (entry_of places storage.values []) (routes meaning storage.levels (one 0))))
        (mode_order_back storage.format places is.format are coords long)
        (listed_from storage.format places is.format are storage.values
        (record { coords = in_level_order storage.format coords; end = pos }) (routes meaning storage.levels (one 0))
        (route_of_path meaning storage.levels (one 0) (in_level_order storage.format coords) pos path)))

    value : (coords : List ℕ) (pos : ℕ) → length coords ≡ length storage.format → EndsAt storage coords pos
        → value_at a gathered coords ≡ slice_index storage.values pos
    value coords pos long path = ap (λ es. value_at a es coords) all
        ∙ ap (value_at a (map (entry_of places storage.values []) (routes meaning storage.levels (one 0))))
        (sym (mode_order_back storage.format places is.format are coords long))
        ∙ value_apart storage.format places is.format are storage.values a laws sorted.order (routes meaning storage.levels (one 0))
        (record { coords = in_level_order storage.format coords; end = pos })
        (routes_apart meaning level_laws storage.levels (length storage.values) (one 0)
        is.opened) (rs_long (routes meaning storage.levels (one 0)) refl) (subst (All (IsEntry sorted.order)) all sorted.each)
        (route_of_path meaning storage.levels (one 0) (in_level_order storage.format coords) pos path)
