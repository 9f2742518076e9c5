-- A `Base`, the rights `Places` and `Deed`, and a tuple of the three: how a walk makes them and takes them apart. Assumes `Logic`.
use Rattle.seg_buffer.proofs.Steps.{◌≡◌, refl, subst, List, [], ◌∷◌, ◌++◌, ℕ, Ura, ent, sep, emp, Val, vstruct, vcons, vnil, of_list, T}
use Rattle.seg_buffer.proofs.Steps.{Logic, sem, Item, Goal, Seq, Step, step, ‵, ◌$◌, ◌∵◌, !, qed, move, fsplit, fjoin, fpick, fpack, feq_i}
use Rattle.seg_buffer.proofs.Steps.{feq_l, rewrite, skip, done, RattleType, Valss, Is, shows, param, layout, param_laws, Ptr, RawPtr}
use Rattle.seg_buffer.proofs.Steps.{ptr_val, nothing, peeks, Shape, Struct, within, shape, Tuple, tuple_type, El, R, Good, word}
use Rattle.core.proofs.mem.Param.{one}
use denote.Shadow.{makes_shadow}
use denote.Struct.Declared as Declared
use Prim.Native.Nat.{zero, suc, ◌<◌}
use native.Mathlib.Omega.{arith}
use base.Fml.{Fml}
use mir.Syntax.{Ty, ty_array}
use mir.Raw.{raw as bare}
use denote.Memory.{lone}
use Rattle.std.specs.Prelude.{not, ◌==◌}
use Rattle.seg_buffer.specs.Memory.{deed_owns}
use Rattle.seg_buffer.specs.contracts.raw.Places as P-type
use Rattle.seg_buffer.specs.contracts.raw.Base as B-type

module _ (E : El) where
  abbrev pub Pl : RattleType
  Pl = P-type.the_row (R E)

  abbrev pub Bs : RattleType
  Bs = B-type.the_row (R E)

  -- the one field of the rights, which takes no bytes
  abbrev pub Mark : RattleType
  Mark = Struct (shape (P-type.the_type (R E)))

abbrev address : Shape
address = record { name = []; args = []; types = []; fields = RawPtr ∷ [] }

abbrev pub Address : RattleType
Address = Struct address

abbrev pub mark : Val
mark = vstruct (vcons (vstruct vnil) vnil)

pub mark_made : (E : El) {M : Type 1} {𝓤 : Ura M} (𝓛 : Logic 𝓤) → ent 𝓤 (emp 𝓤) (sem 𝓛 ((Mark E).own_val (tt, tt) (mark ∷ [])))
mark_made E 𝓛 = makes_shadow 𝓛 ((Mark E).own_val (tt, tt) (mark ∷ [])) (λ vss. (tt, ((λ uss. (tt, tt)), tt)))
    ((vstruct vnil ∷ [], tt), (refl, ((tt, (refl, tt)), tt)))

module _ {M : Type 1} {𝓤 : Ura M} {𝓛 : Logic 𝓤} {K : Type 0} {Γ : List (Item 𝓤)} {G : Goal 𝓤 𝓛.H} where
  pub base_had : K → (p : Ptr) (vs : List Val) → (vs ≡ word p ∷ [] → Seq K 𝓛 Γ G) → Seq K 𝓛 (‵ (Address.own_val (p, tt) vs) ∷ Γ) G
  base_had t p vs k = fpick t
      (λ vss. fsplit t $ feq_l t
      (λ ev. fsplit t $ feq_l t (λ e. skip t $ k (subst (λ (ws : List Val). vs ≡ vstruct (of_list (ws ++ [])) ∷ []) e ev))))

  pub base_made : K → (p : Ptr) → Step K 𝓛 (‵ (Address.own_val (p, tt) (word p ∷ [])) ∷ Γ) G Γ G
  base_made t p = step (λ s.
      nothing t $ feq_i t (List Val) (ptr_val p ∷ []) (ptr_val p ∷ []) refl $ fjoin t $ feq_i t (List Val) (word p ∷ []) (word p
      ∷ []) refl $ fjoin t $
      fpack t (Valss (RawPtr ∷ [])) (within address (p, tt) (word p ∷ [])) (ptr_val p ∷ [], tt) $ s)

  pub mark_had : K → (E : El) (vs : List Val) → (vs ≡ mark ∷ [] → Seq K 𝓛 Γ G) → Seq K 𝓛 (‵ ((Mark E).own_val (tt, tt) vs) ∷ Γ) G
  mark_had t E vs k = fpick t (λ vss. fsplit t $ feq_l t (λ ev. fsplit t $ fpick t (λ uss. fsplit t $ feq_l t (λ e. skip t $ skip t $
      k (subst (λ (ws : List Val). vs ≡ vstruct (of_list (ws ++ [])) ∷ []) e ev)))))

abbrev pub three_val : Val → Val → Val → Val
three_val u v w = vstruct (vcons u (vcons v (vcons w vnil)))

pub three_made : {M : Type 1} {𝓤 : Ura M} (𝓛 : Logic 𝓤) (A B C : RattleType) (x : A.Denot) (y : B.Denot) (z : C.Denot) (u v w : Val)
    → ent 𝓤 (sep 𝓤 (sem 𝓛 (A.own_val x (u ∷ []))) (sep 𝓤 (sem 𝓛 (B.own_val y (v ∷ []))) (sem 𝓛 (C.own_val z (w ∷ [])))))
    (sem 𝓛 ((Tuple (A ∷ B ∷ C ∷ [])).own_val (x, y, z) (three_val u v w ∷ [])))
three_made 𝓛 A B C x y z u v w =
    qed 𝓛 (‵ (A.own_val x (u ∷ [])) ∷ ‵ (B.own_val y (v ∷ [])) ∷ ‵ (C.own_val z (w ∷ [])) ∷ []) ∵ nothing ! $ move ! (3 ∷ 0
    ∷ []) $ fjoin ! $ move ! (2 ∷ 0 ∷ []) $ fjoin ! $ move ! (1 ∷ 0 ∷ []) $ fjoin ! $
    feq_i ! (List Val) (three_val u v w ∷ []) (three_val u v w ∷ []) refl $ fjoin ! $
    fpack ! (Valss (A ∷ B ∷ C ∷ [])) (within (Declared.shape (tuple_type (A ∷ B ∷ C ∷ []))) (x, (y, (z, tt))) (three_val u v w ∷ [])) (
      u
          ∷ [],
      (v ∷ [], (w ∷ [], tt)),
    ) $ done !

module _ (E : El) {M : Type 1} {𝓤 : Ura M} {𝓛 : Logic 𝓤} {K : Type 0} {Γ : List (Item 𝓤)} {G : Goal 𝓤 𝓛.H} where
  -- what is owned of an element is one machine value, of its type
  pub element_had : K → (x : E.row.Denot) (vs : List Val)
      → ((v : Val) → vs ≡ v ∷ [] → Good (layout E.row) v → Seq K 𝓛 (‵ (E.row.own_val x (v ∷ [])) ∷ Γ) G)
      → Seq K 𝓛 (‵ (E.row.own_val x vs) ∷ Γ) G
  element_had t x vs k =
      peeks t (param 0 E.row) (Is (param 0 E.row)) (shows 𝓛 (param 0 E.row)) x vs (λ is.
      let only = one E vs (((param_laws 0 E.row E.laws).lawful 𝓛).typed x vs is) in
      rewrite t 0 (λ (us : List Val). ‵ (E.row.own_val x us)) only.1 refl $ k only.0 only.1 only.2)

-- where there is a block, the deed is the allocator's token for it
pub deed_real : (R : RattleType) (token : Ty → Ptr → Fml) (p : Ptr) (n : ℕ) → 0 < n
    → deed_owns R token p n ≡ token (bare (ty_array (lone R.mir) n)) p
deed_real R token p zero lt = absurd (omega arith)
deed_real R token p (suc n) lt = refl

pub some_room : (n : ℕ) → T (not (n == 0)) → 0 < n
some_room zero t = absurd t
some_room (suc n) t = omega arith
