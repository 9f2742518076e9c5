-- The places of a block, at elements of any type: where they are cut, put together, emptied, opened and lent. Assumes `Logic`.
use Rattle.seg_buffer.proofs.Steps.{◌≡◌, refl, sym, ap, ◌∙◌, List, [], ◌∷◌, ◌++◌, map, ℕ, zero, suc, ◌+◌, ◌-◌, ◌*◌, ◌≤◌, ◌<◌, arith}
use Rattle.seg_buffer.proofs.Steps.{length, take, drop, replicate, length-replicate, length-append, length-take, length-drop}
use Rattle.seg_buffer.proofs.Steps.{take-append-drop, Ura, full_share, ent, sep, emp, ex, id⊢, mono_r, Fml, Lft, ftrue, fsep, fat, froom}
use Rattle.seg_buffer.proofs.Steps.{ty_array, Val, Logic, sem, cells, ‵, some, ◌⊛◌, ◌$◌, ◌∵◌, !, qed, by, move, keep, use1, use2, pick}
use Rattle.seg_buffer.proofs.Steps.{split, frame, fsplit, fjoin, rewrite, skip, done, mem, part_at, param, layout, Laws, elements_shared}
use Rattle.seg_buffer.proofs.Steps.{nothing, El, R, el_x, elτ, Option, Some, None, type_size}
use native.Mathlib.Nat.{zero-mul, suc-mul}
use denote.RattleType.{RattleType}
use denote.Memory.{shared_of}
use borrow.Table.OneValue.{part_in, part_out}
use Rattle.std.proofs.Common.{append_assoc}
use Rattle.std.proofs.lemmas.List.{length-map, map-append}
use Rattle.seg_buffer.specs.Memory.{place, row, spread, values_lent}

module _ {X : Type 0} where
  -- the places after the first k of `spread n xs`
  abbrev pub tail_of : ℕ → ℕ → List X → List (Option X)
  tail_of k n xs = map Some (drop k xs) ++ replicate (n - length xs) None

  pub spread_cut : (k n : ℕ) (xs : List X) → spread n xs ≡ map Some (take k xs) ++ tail_of k n xs
  spread_cut k n xs =
      let rest = replicate (n - length xs) None in
      ap (λ l. map Some l ++ rest) (sym (take-append-drop k xs)) ∙ ap (λ l. l ++ rest) (map-append Some (take k xs) (drop k xs))
      ∙ append_assoc (map Some (take k xs)) (map Some (drop k xs)) rest

  pub length-tail_of : (k n : ℕ) (xs : List X) → k ≤ length xs → length xs ≤ n → length (tail_of k n xs) ≡ n - k
  length-tail_of k n xs le fits =
      let rest : List (Option X) = replicate (n - length xs) None in let none : Option X = None in
      omega (
        arith,
        length-append (map Some (drop k xs)) rest,
        length-map (drop k xs) Some,
        length-drop k xs,
        length-replicate
            (n - length xs) none,
      )

  pub length-spread : (n : ℕ) (xs : List X) → length xs ≤ n → length (spread n xs) ≡ n
  length-spread n xs fits =
      let rest : List (Option X) = replicate (n - length xs) None in let none : Option X = None in
      omega (arith, length-append (map Some xs) rest, length-map xs Some, length-replicate (n - length xs) none)

  pub length-first : (k : ℕ) (xs : List X) → k ≤ length xs → length (map Some (take k xs)) ≡ k
  length-first k xs le = omega (arith, length-map (take k xs) Some, length-take k xs)

  -- the first k values, x, and room for the rest
  pub spread_put : (k n : ℕ) (xs : List X) (x : X) → k ≤ length xs
      → map Some (take k xs) ++ Some x ∷ replicate (n - suc k) None ≡ spread n (take k xs ++ x ∷ [])
  spread_put k n xs x le =
      let long : length (take k xs ++ x ∷ []) ≡ suc k = omega (arith, length-append (take k xs) (x ∷ []), length-take k xs) in
      let rest : ℕ → List (Option X) = λ j. replicate (n - j) None in
      sym (append_assoc (map Some (take k xs)) (Some x ∷ []) (rest (suc k)))
      ∙ (λ i. sym (map-append Some (take k xs) (x ∷ [])) i ++ rest (sym long i))

  -- ws in the place of the first k values
  pub spread_over : (k n : ℕ) (xs ws : List X) → k ≤ length xs → length ws ≡ k → map Some ws ++ tail_of k n xs ≡ spread n (ws ++ drop k xs)
  spread_over k n xs ws le same =
      let long : length xs ≡ length (ws ++ drop k xs) = omega (arith, length-append ws (drop k xs), length-drop k xs) in
      sym (append_assoc (map Some ws) (map Some (drop k xs)) (replicate (n - length xs) None))
      ∙ ap (λ l. l ++ replicate (n - length xs) None) (sym (map-append Some ws (drop k xs)))
      ∙ ap (λ j. map Some (ws ++ drop k xs) ++ replicate (n - j) None) long

module _ (i : ℕ) (Y : RattleType) (L : Laws Y) {M : Type 1} {𝓤 : Ura M} (𝓛 : Logic 𝓤) where
  open 𝓛 use {H}

  -- a value in memory is a machine value there, and what that owns
  value_out : (x : Y.Denot) (b o : ℕ)
      → ent 𝓤 (sem 𝓛 (part_at (param i Y) full_share x b o))
      (ex 𝓤 (λ (v : Val). sep 𝓤 (H.at full_share (layout Y) b o v) (sem 𝓛 (Y.own_val x (v ∷ [])))))
  value_out x b o = part_out 𝓛 (param i Y) refl full_share x b o

  pub value_in : (x : Y.Denot) (b o : ℕ) (v : Val)
      → ent 𝓤 (sep 𝓤 (H.at full_share (layout Y) b o v) (sem 𝓛 (Y.own_val x (v ∷ [])))) (sem 𝓛 (part_at (param i Y) full_share x b o))
  value_in x b o v = part_in 𝓛 (param i Y) refl full_share x b o v

  -- a value is forgotten, and its place is room
  pub value_forgotten : (x : Y.Denot) (b o : ℕ) → ent 𝓤 (sem 𝓛 (part_at (param i Y) full_share x b o)) (H.room (layout Y) b o)
  value_forgotten x b o = qed 𝓛 (‵ (part_at (param i Y) full_share x b o) ∷ []) ∵
      use1 𝓛 (some (λ (v : Val). ‵ (fat full_share (layout Y) b o v) ⊛ ‵ (Y.own_val x (v ∷ [])))) (value_out x b o) $ pick !
      (λ v. split ! $ keep ! (0 ∷ []) $ by ! (𝓛.laws.at_room (layout Y) b o v))

module _ (E : El) {M : Type 1} {𝓤 : Ura M} (𝓛 : Logic 𝓤) (b : ℕ) where
  open 𝓛 use {H}

  abbrev s : ℕ
  s = type_size (R E)

  abbrev Row : ℕ → List (Option (el_x E)) → Fml
  Row = row (R E) b

  cut : (cs ds : List (Option (el_x E))) (o at : ℕ) → at ≡ length cs * s + o
      → ent 𝓤 (sem 𝓛 (Row o (cs ++ ds))) (sep 𝓤 (sem 𝓛 (Row o cs)) (sem 𝓛 (Row at ds)))
  cut [] ds o at e = qed 𝓛 (‵ (Row o ds)
      ∷ []) ∵ rewrite ! 0 (λ (k : ℕ). ‵ (Row k ds)) {x = at} (omega (arith, zero-mul s)) refl $ nothing ! $ done !
  cut (c ∷ cs) ds o at e = let more : at ≡ suc (length cs) * s + o =
      e in qed 𝓛 (‵ (Row o (c ∷ cs ++ ds)) ∷ []) ∵ fsplit ! $ move ! (1 ∷ []) $
      use1 𝓛 (‵ (Row (o + s) cs) ⊛ ‵ (Row at ds)) (cut cs ds (o + s) at (omega (arith, suc-mul (length cs) s))) $ split ! $ move ! (2 ∷ 0
      ∷ []) $ fjoin ! $ done !

  glue : (cs ds : List (Option (el_x E))) (o at : ℕ) → at ≡ length cs * s + o
      → ent 𝓤 (sep 𝓤 (sem 𝓛 (Row o cs)) (sem 𝓛 (Row at ds))) (sem 𝓛 (Row o (cs ++ ds)))
  glue [] ds o at e = qed 𝓛 (‵ ftrue ∷ ‵ (Row at ds)
      ∷ []) ∵ skip ! $ rewrite ! 0 (λ (k : ℕ). ‵ (Row k ds)) {x = o} (omega (arith, zero-mul s)) refl $ done !
  glue (c ∷ cs) ds o at e = let more : at ≡ suc (length cs) * s + o =
      e in qed 𝓛 (‵ (Row o (c ∷ cs)) ∷ ‵ (Row at ds) ∷ []) ∵ fsplit ! $ move ! (1 ∷ 2 ∷ []) $
      use2 𝓛 (‵ (Row (o + s) (cs ++ ds))) (glue cs ds (o + s) at (omega (arith, suc-mul (length cs) s))) $ move ! (1 ∷ 0
      ∷ []) $ fjoin ! $ done !

  -- whatever the places hold is forgotten
  emptied_one : (c : Option (el_x E)) (o : ℕ) → ent 𝓤 (sem 𝓛 (place (R E) b o c)) (sem 𝓛 (place (R E) b o None))
  emptied_one None o = id⊢ 𝓤 _
  emptied_one (Some x) o =
      qed 𝓛 (‵ (place (R E) b o (Some x))
      ∷ []) ∵ use1 𝓛 (‵ (froom (elτ E) b o)) (value_forgotten 0 E.row E.laws 𝓛 x b o) $ by ! (𝓛.laws.room-raw (elτ E) b o)

  pub emptied : (cs : List (Option (el_x E))) (o : ℕ) → ent 𝓤 (sem 𝓛 (Row o cs)) (sem 𝓛 (Row o (replicate (length cs) None)))
  emptied [] o = id⊢ 𝓤 _
  emptied (c ∷ cs) o = qed 𝓛 (‵ (Row o (c ∷ cs)) ∷ []) ∵ fsplit ! $ use1 𝓛 (‵ (place (R E) b o None)) (emptied_one c o) $
      move ! (1 ∷ []) $ use1 𝓛 (‵ (Row (o + s) (replicate (length cs) None))) (emptied cs (o + s)) $ move ! (1 ∷ 0 ∷ []) $ fjoin ! $ done !

  -- room for an array is a row of empty places
  pub of_room : (n o : ℕ) → ent 𝓤 (H.room (ty_array (elτ E) n) b o) (sem 𝓛 (Row o (replicate n None)))
  of_room zero o = qed 𝓛 (‵ (froom (ty_array (elτ E) 0) b o) ∷ []) ∵ keep ! [] $ done !
  of_room (suc n) o = qed 𝓛 (‵ (froom (ty_array (elτ E) (suc n)) b o) ∷ []) ∵
      use1 𝓛 (‵ (froom (elτ E) b o) ⊛ ‵ (froom (ty_array (elτ E) n) b (o + s))) (𝓛.laws.room_uncons (elτ E) n b o) $ split ! $
      use1 𝓛 (‵ (place (R E) b o None)) (𝓛.laws.room-raw (elτ E) b o) $ frame ! $ by ! (of_room n (o + s))

  pub to_room : (n o : ℕ) → ent 𝓤 (sem 𝓛 (Row o (replicate n None))) (H.room (ty_array (elτ E) n) b o)
  to_room zero o = 𝓛.laws.room_nil (elτ E) b o
  to_room (suc n) o = qed 𝓛 (‵ (place (R E) b o None) ∷ ‵ (Row (o + s) (replicate n None)) ∷ []) ∵
      use1 𝓛 (‵ (froom (elτ E) b o)) (𝓛.laws.raw-room (elτ E) b o) $ move ! (1 ∷ []) $
      use1 𝓛 (‵ (froom (ty_array (elτ E) n) b (o + s))) (to_room n (o + s)) $ move ! (1 ∷ []) $ by ! (𝓛.laws.room_cons (elτ E) n b o)

  -- a row of values is what a slice of them owns
  to_cells : (xs : List (el_x E)) (o : ℕ) → ent 𝓤 (sem 𝓛 (Row o (map Some xs))) (sem 𝓛 (cells (mem (R E)) xs b o))
  to_cells [] o = id⊢ 𝓤 (emp 𝓤)
  to_cells (x ∷ xs) o = mono_r 𝓤 (sem 𝓛 (part_at (R E) full_share x b o)) (to_cells xs (o + s))

  of_cells : (xs : List (el_x E)) (o : ℕ) → ent 𝓤 (sem 𝓛 (cells (mem (R E)) xs b o)) (sem 𝓛 (Row o (map Some xs)))
  of_cells [] o = id⊢ 𝓤 (emp 𝓤)
  of_cells (x ∷ xs) o = mono_r 𝓤 (sem 𝓛 (part_at (R E) full_share x b o)) (of_cells xs (o + s))

  -- n places that begin with xs are cut after the first k
  module _ (o k n : ℕ) (xs : List (el_x E)) (le : k ≤ length xs) (fits : length xs ≤ n) where
    far : k * s + o ≡ length (map Some (take k xs)) * s + o
    far = ap (λ j. j * s + o) (sym (length-first k xs le))

    -- all places but the one at k, of which the later ones are empty
    abbrev pub Beside : Fml
    Beside = fsep (Row o (map Some (take k xs))) (Row (k * s + o + s) (replicate (n - suc k) None))

    pub open_at : k < n → ent 𝓤 (sem 𝓛 (Row o (spread n xs))) (sep 𝓤 (sem 𝓛 (place (R E) b (k * s + o) None)) (sem 𝓛 Beside))
    open_at lt =
        let tail = tail_of k n xs in let count : length tail ≡ suc (n - suc k) = omega (arith, length-tail_of k n xs le fits) in
        qed 𝓛 (‵ (Row o (spread n xs)) ∷ []) ∵ rewrite ! 0 (λ (l : List (Option (el_x E))). ‵ (Row o l)) (spread_cut k n xs) refl $
        use1 𝓛 (‵ (Row o (map Some (take k xs))) ⊛ ‵ (Row (k * s + o) tail))
        (cut (map Some (take k xs)) tail o (k * s + o) far) $ split ! $ move ! (1 ∷ []) $
        use1 𝓛 (‵ (Row (k * s + o) (replicate (length tail) None))) (emptied tail (k * s + o)) $ rewrite ! 0
        (λ (j : ℕ). ‵ (Row (k * s + o) (replicate j None))) count refl $
        fsplit ! $ move ! (2 ∷ 1 ∷ []) $ fjoin ! $ move ! (1 ∷ 0 ∷ []) $ done !

    pub put_at : (x : el_x E)
        → ent 𝓤 (sep 𝓤 (sem 𝓛 (place (R E) b (k * s + o) (Some x))) (sem 𝓛 Beside)) (sem 𝓛 (Row o (spread n (take k xs ++ x ∷ []))))
    put_at x = qed 𝓛 (‵ (place (R E) b (k * s + o) (Some x)) ∷ ‵ Beside ∷ []) ∵ move ! (1 ∷ []) $ fsplit ! $ move ! (2 ∷ 1
        ∷ []) $ fjoin ! $ move ! (1 ∷ 0 ∷ []) $
        use2 𝓛 (‵ (Row o (map Some (take k xs) ++ Some x ∷ replicate (n - suc k) None)))
        (glue (map Some (take k xs)) (Some x ∷ replicate (n - suc k) None) o (k * s + o) far) $
        rewrite ! 0 (λ (l : List (Option (el_x E))). ‵ (Row o l)) (spread_put k n xs x le) refl $ done !

    -- the places after the first k
    abbrev pub After_first : Fml
    After_first = Row (k * s + o) (tail_of k n xs)

    pub first_out : ent 𝓤 (sem 𝓛 (Row o (spread n xs))) (sep 𝓤 (sem 𝓛 (cells (mem (R E)) (take k xs) b o)) (sem 𝓛 After_first))
    first_out = qed 𝓛 (‵ (Row o (spread n xs)) ∷ []) ∵ rewrite ! 0 (λ (l : List (Option (el_x E))). ‵ (Row o l)) (spread_cut k n xs) refl $
        use1 𝓛 (‵ (Row o (map Some (take k xs))) ⊛ ‵ After_first)
        (cut (map Some (take k xs)) (tail_of k n xs) o (k * s + o) far) $ split ! $
        use1 𝓛 (‵ (cells (mem (R E)) (take k xs) b o)) (to_cells (take k xs) o) $ done !

    pub first_in : (ws : List (el_x E)) → length ws ≡ k
        → ent 𝓤 (sep 𝓤 (sem 𝓛 (cells (mem (R E)) ws b o)) (sem 𝓛 After_first)) (sem 𝓛 (Row o (spread n (ws ++ drop k xs))))
    first_in ws same =
        let long : k ≡ length (map Some ws) = omega (arith, length-map ws Some) in
        qed 𝓛 (‵ (cells (mem (R E)) ws b o) ∷ ‵ After_first ∷ []) ∵ use1 𝓛 (‵ (Row o (map Some ws))) (of_cells ws o) $
        use2 𝓛 (‵ (Row o (map Some ws ++ tail_of k n xs))) (glue (map Some ws) (tail_of k n xs) o (k * s + o) (ap (λ j. j * s + o) long)) $
        rewrite ! 0 (λ (l : List (Option (el_x E))). ‵ (Row o l)) (spread_over k n xs ws le same) refl $ done !

  -- a `&` to the values is one to the first of them
  module _ (κ : Lft) where
    these_lent : (xs ys : List (el_x E)) (o : ℕ)
        → ent 𝓤 (sem 𝓛 (values_lent (R E) b o (xs ++ ys) κ)) (sem 𝓛 (elements_shared (R E) xs b o κ))
    these_lent [] ys o = qed 𝓛 (‵ (values_lent (R E) b o ys κ) ∷ []) ∵ keep ! [] $ done !
    these_lent (x ∷ xs) ys o = mono_r 𝓤 (sem 𝓛 (shared_of (R E) x b o κ)) (these_lent xs ys (o + s))

    pub first_lent : (k o : ℕ) (xs : List (el_x E))
        → ent 𝓤 (sem 𝓛 (values_lent (R E) b o xs κ)) (sem 𝓛 (elements_shared (R E) (take k xs) b o κ))
    first_lent k o xs = qed 𝓛 (‵ (values_lent (R E) b o xs κ)
        ∷ []) ∵ rewrite ! 0 (λ (l : List (el_x E)). ‵ (values_lent (R E) b o l κ)) (sym (take-append-drop k xs)) refl $ by !
        (these_lent (take k xs) (drop k xs) o)
