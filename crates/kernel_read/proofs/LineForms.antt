-- Lines of a body by cases on their forms.
use Rattle.std.specs.Prelude.{◌≡◌, ◌≢◌, ℕ, zero, suc, ◌+◌, ◌<◌, ◌≤◌, ◌⊎◌, Bool, true, false, ◌==◌, List, [], ◌∷◌, ◌++◌, codes}
use Rattle.std.specs.Prelude.{length, take, drop}
use Rattle.std.specs.Prelude.{Option, Some, None, Result, Ok, Err, IfOk, MatchOption, refl}
use Rattle.std.specs.declared.alloc.AllocError.{AllocError}
use Rattle.std.specs.Fmt.{decimal}
use Rattle.std.proofs.Common.{◌∙◌, ap, sym, subst, append_assoc, arith, inl, inr}
use Rattle.std.proofs.lemmas.Bool.Decides.{Decides-eqb}
use Rattle.std.proofs.lemmas.List.{append_cancel_left, append-nil, length-drop, take-append-drop}
use Rattle.kernel_code.specs.declared.syntax.KExpr.{KExpr}
use Rattle.kernel_code.specs.declared.syntax.KStmt.{KStmt, Set, Combine, Put, AddTo, Push, Extend, Cut, Sort, SortSum, If', While'}
use Rattle.kernel_code.specs.declared.syntax.LoopKind.{LoopKind}
use Rattle.kernel_code.specs.declared.syntax.LoopKind.TheVariants as kind
use Rattle.kernel_print.specs.ArrayNames.{BeginsWithoutDigit}
use Rattle.kernel_print.specs.ExprTexts.{ExprHasWords}
use Rattle.kernel_print.specs.Text.{array_text, combining_text, expr_text, indentation, kind_text, statement_text}
use Rattle.kernel_read.specs.Lines.{IsLine, IsLineOf, IsOpening, LineFits, inner_text, line_text, opening_text}
use Rattle.kernel_read.specs.Reading.{NoneStands, Stands}
use Rattle.kernel_read.specs.Statements.{IsSimple}
use Rattle.kernel_read.specs.declared.lines.Line.{Line}
use Rattle.kernel_read.specs.declared.lines.Line.TheVariants as a
use Rattle.kernel_read.proofs.Bytes.{behind_told}
use Rattle.kernel_read.proofs.Parts.{Found}
use Rattle.kernel_read.proofs.Standing.{moves_by}

-- a line feed stands last
pub record EndsLine (text : List ℕ) : Type 0 where
  pub front : List ℕ
  pub is : text ≡ front ++ (10 ∷ [])

feed : (front : List ℕ) → EndsLine (front ++ codes "\n")
feed front = record { front = front; is = refl }

ends_behind : (before : List ℕ) {text : List ℕ} → EndsLine text → EndsLine (before ++ text)
ends_behind before ends = record {
  front = before ++ ends.front;
  is = ap (λ (x : List ℕ). before ++ x) ends.is ∙ sym (append_assoc before ends.front (10 ∷ []));
}

simple_ends : (combines : Bool) (s : KStmt) → IsSimple combines s → EndsLine (statement_text 0 s)
simple_ends combines (Set x e) fits =
    ends_behind (codes "x") (ends_behind (decimal x) (ends_behind (codes " = ") (ends_behind (expr_text e) (feed (codes ";")))))
simple_ends combines (Combine x o e f) fits =
    ends_behind (codes "x") (ends_behind (decimal x) (ends_behind (combining_text o) (ends_behind (expr_text e)
    (ends_behind (codes ", ") (ends_behind (expr_text f) (feed (codes ");")))))))
simple_ends combines (Put x i e) fits =
    ends_behind (array_text x) (ends_behind (codes "[") (ends_behind (expr_text i) (ends_behind (codes "] = ")
    (ends_behind (expr_text e) (feed (codes ";"))))))
simple_ends combines (AddTo x i e) fits =
    ends_behind (array_text x) (ends_behind (codes "[") (ends_behind (expr_text i) (ends_behind (codes "] += ")
    (ends_behind (expr_text e) (feed (codes ";"))))))
simple_ends combines (Push x e) fits =
    ends_behind (codes "push(") (ends_behind (array_text x) (ends_behind (codes ", ") (ends_behind (expr_text e) (feed (codes ");")))))
simple_ends combines (Extend x n e) fits =
    ends_behind (codes "extend(") (ends_behind (array_text x) (ends_behind (codes ", ") (ends_behind (expr_text n)
    (ends_behind (codes ", ") (ends_behind (expr_text e) (feed (codes ");")))))))
simple_ends combines (Cut x e) fits =
    ends_behind (codes "cut(") (ends_behind (array_text x) (ends_behind (codes ", ") (ends_behind (expr_text e) (feed (codes ");")))))
simple_ends combines (Sort g) fits = ends_behind (codes "sort(g") (ends_behind (decimal g) (feed (codes ");")))
simple_ends combines (SortSum w) fits = ends_behind (codes "sort_sum(w") (ends_behind (decimal w) (feed (codes ");")))
simple_ends combines (If' e p first q second) fits = absurd fits
simple_ends combines (While' k e p body) fits = absurd fits

opening_ends : (combines : Bool) (x : Line) → IsOpening combines x → EndsLine (opening_text x)
opening_ends combines (a.Whole s) fits = simple_ends combines s fits
opening_ends combines (a.If e) fits = ends_behind (codes "if ") (ends_behind (expr_text e) (feed (codes " {")))
opening_ends combines (a.While k e) fits =
    ends_behind (codes "while ") (ends_behind (kind_text k) (ends_behind (codes " ") (ends_behind (expr_text e) (feed (codes " {")))))
opening_ends combines a.Else fits = absurd fits
opening_ends combines a.Close fits = absurd fits

-- no line feed stands within a line
no_inner : (front : List ℕ) (byte : ℕ) (text : List ℕ) → IsLine (front ++ (10 ∷ byte ∷ text)) → ⊥
no_inner [] byte text line = line.0 refl
no_inner (b ∷ []) byte text line = no_inner [] byte text line.1
no_inner (b ∷ c ∷ front) byte text line = no_inner (c ∷ front) byte text line.1

regrouped : (before front : List ℕ) (byte : ℕ) (text : List ℕ)
    → before ++ ((front ++ (10 ∷ [])) ++ (byte ∷ text)) ≡ (before ++ front) ++ (10 ∷ byte ∷ text)
regrouped before front byte text = simp append_assoc

rest_none : (line before front rest : List ℕ) → IsLine line → line ≡ before ++ ((front ++ (10 ∷ [])) ++ rest) → rest ≡ []
rest_none line before front [] is same = refl
rest_none line before front (byte ∷ text) is same =
    absurd (no_inner (before ++ front) byte text (subst IsLine (same ∙ regrouped before front byte text) is))

-- what ends a line stands at its end
whole : (line : List ℕ) (at : ℕ) (text : List ℕ) (next : ℕ) → IsLine line → EndsLine text → Stands line at text next → next ≡ length line
whole line at text next is ends stands =
    let parted : line ≡ take at line ++ ((ends.front ++ (10 ∷ [])) ++ drop next line) =
    sym (take-append-drop at line) ∙ ap (λ (x : List ℕ). take at line ++ x) (stands.goes_on
    ∙ ap (λ (x : List ℕ). x ++ drop next line) ends.is) in
    let none : length (drop next line) ≡ 0 = ap length (rest_none line (take at line) ends.front (drop next line) is parted) in
    let left = length-drop next line in
    let within = stands.within in
    omega (arith, none, left, within)

drop_end : (line : List ℕ) (next : ℕ) → next ≡ length line → drop next line ≡ []
drop_end line next same = empty (drop next line) (let left = length-drop next line in omega (arith, left, same))
  where
    empty : (xs : List ℕ) → length xs ≡ 0 → xs ≡ []
    empty [] none = refl
    empty (x ∷ xs) none = absurd (omega (arith, none))

at_end : (line : List ℕ) (at : ℕ) (text : List ℕ) (next : ℕ) → Stands line at text next → next ≡ length line → drop at line ≡ text
at_end line at text next stands same =
    stands.goes_on ∙ ap (λ (x : List ℕ). text ++ x) (drop_end line next same) ∙ append-nil text

-- that a line ends with bytes
pub ends_yes : (line : List ℕ) (at : ℕ) (text : List ℕ) (next : ℕ) → Stands line at text next → (next == length line) ≡ true
    → drop at line ≡ text
ends_yes line at text next stands test = at_end line at text next stands ((Decides-eqb next (length line)).0 test)

pub ends_no : (line : List ℕ) (at : ℕ) (text : List ℕ) (next : ℕ) → at ≤ length line → Stands line at text next
    → (next == length line) ≡ false → drop at line ≡ text → ⊥
ends_no line at text next h stands test same =
    let moved = moves_by line at text next stands in
    let left = length-drop at line in
    let sized : length (drop at line) ≡ length text = ap length same in
    let is : next ≡ length line = omega (arith, moved, left, sized, h) in
    apart ((Decides-eqb next (length line)).1 is) test
  where
    apart : {b : Bool} → b ≡ true → b ≡ false → ⊥
    apart e f = cc

pub ends_none : (line : List ℕ) (at : ℕ) (text : List ℕ) → ((rest : List ℕ) → drop at line ≡ text ++ rest → ⊥) → drop at line ≡ text → ⊥
ends_none line at text none same = none [] (same ∙ sym (append-nil text))

-- loops
loop_none : (line : List ℕ) (at : ℕ) → NoneStands KExpr (λ e. codes "while merge " ++ (expr_text e ++ codes " {\n")) ExprHasWords line at
    → NoneStands KExpr (λ e. codes "while skip " ++ (expr_text e ++ codes " {\n")) ExprHasWords line at
    → NoneStands KExpr (λ e. codes "while gather " ++ (expr_text e ++ codes " {\n")) ExprHasWords line at
    → NoneStands KExpr (λ e. codes "while drain " ++ (expr_text e ++ codes " {\n")) ExprHasWords line at
    → NoneStands KExpr (λ e. codes "while probe " ++ (expr_text e ++ codes " {\n")) ExprHasWords line at
    → (k : LoopKind) (e : KExpr) (behind : List ℕ) → ExprHasWords e → BeginsWithoutDigit behind
    → drop at line ≡ (codes "while " ++ (kind_text k ++ (codes " " ++ (expr_text e ++ codes " {\n")))) ++ behind → ⊥
loop_none line at m s g d p kind.Merge e behind fits plain same = m e behind fits plain same
loop_none line at m s g d p kind.Skip e behind fits plain same = s e behind fits plain same
loop_none line at m s g d p kind.Gather e behind fits plain same = g e behind fits plain same
loop_none line at m s g d p kind.Drain e behind fits plain same = d e behind fits plain same
loop_none line at m s g d p kind.Probe e behind fits plain same = p e behind fits plain same

pub no_loop : (line : List ℕ) (at : ℕ) → NoneStands KExpr (λ e. codes "while merge " ++ (expr_text e ++ codes " {\n")) ExprHasWords line at
    → NoneStands KExpr (λ e. codes "while skip " ++ (expr_text e ++ codes " {\n")) ExprHasWords line at
    → NoneStands KExpr (λ e. codes "while gather " ++ (expr_text e ++ codes " {\n")) ExprHasWords line at
    → NoneStands KExpr (λ e. codes "while drain " ++ (expr_text e ++ codes " {\n")) ExprHasWords line at
    → NoneStands KExpr (λ e. codes "while probe " ++ (expr_text e ++ codes " {\n")) ExprHasWords line at
    → NoneStands (LoopKind × KExpr) (λ s. codes "while " ++ (kind_text s.0 ++ (codes " " ++ (expr_text s.1 ++ codes " {\n"))))
    (λ s. ExprHasWords s.1) line at
no_loop line at m s g d p x behind fits plain same = loop_none line at m s g d p x.0 x.1 behind fits plain same

-- the first lines of statements
pub no_opening : (line : List ℕ) (at : ℕ) (combines : Bool) → NoneStands KStmt (statement_text 0) (IsSimple combines) line at
    → NoneStands KExpr (λ e. codes "if " ++ (expr_text e ++ codes " {\n")) ExprHasWords line at
    → NoneStands (LoopKind × KExpr) (λ s. codes "while " ++ (kind_text s.0 ++ (codes " " ++ (expr_text s.1 ++ codes " {\n"))))
    (λ s. ExprHasWords s.1) line at
    → NoneStands Line opening_text (IsOpening combines) line at
no_opening line at combines s i w (a.Whole t) behind fits plain same = s t behind fits plain same
no_opening line at combines s i w (a.If e) behind fits plain same = i e behind fits plain same
no_opening line at combines s i w (a.While k e) behind fits plain same = w (k, e) behind fits plain same
no_opening line at combines s i w a.Else behind fits plain same = absurd fits
no_opening line at combines s i w a.Close behind fits plain same = absurd fits

pub opening_none : (line : List ℕ) (at : ℕ) (combines : Bool) → NoneStands Line opening_text (IsOpening combines) line at
    → (x : Line) → IsOpening combines x → drop at line ≡ opening_text x → ⊥
opening_none line at combines none x fits same = none x [] fits tt (same ∙ sym (append-nil (opening_text x)))

pub opening_found : (line : List ℕ) (at : ℕ) (combines : Bool) (x : Line) (next : ℕ)
    → Found Line opening_text (IsOpening combines) line at x next → next ≡ length line
    → IsOpening combines x × (drop at line ≡ opening_text x)
opening_found line at combines x next found same = (found.0, at_end line at (opening_text x) next found.1 same)

pub opening_part : (line : List ℕ) (at : ℕ) (combines : Bool) (x : Line) (next : ℕ) → IsLine line
    → Found Line opening_text (IsOpening combines) line at x next → next ≢ length line → ⊥
opening_part line at combines x next is found other =
    other (whole line at (opening_text x) next is (opening_ends combines x found.0) found.1)

-- lines by what stands behind the blanks
inner_told : (line : List ℕ) (outer at : ℕ) (x : Line) → line ≡ indentation outer ++ drop at line → line ≡ line_text outer x
    → drop at line ≡ inner_text x
inner_told line outer at x blanks same = append_cancel_left (indentation outer) (drop at line) (inner_text x) (sym blanks ∙ same)

pub opening_inner : (combines : Bool) (x : Line) → IsOpening combines x → inner_text x ≡ codes "  " ++ opening_text x
opening_inner combines (a.Whole s) fits = refl
opening_inner combines (a.If e) fits = refl
opening_inner combines (a.While k e) fits = refl
opening_inner combines a.Else fits = absurd fits
opening_inner combines a.Close fits = absurd fits

pub opening_fits : (combines : Bool) (x : Line) → IsOpening combines x → LineFits combines x
opening_fits combines (a.Whole s) fits = fits
opening_fits combines (a.If e) fits = fits
opening_fits combines (a.While k e) fits = fits
opening_fits combines a.Else fits = absurd fits
opening_fits combines a.Close fits = absurd fits

no_brace : (text rest : List ℕ) → 125 ∷ text ≡ 32 ∷ rest → ⊥
no_brace text rest same = cc

abbrev pub IsOpened : Bool → List ℕ → ℕ → Option Line → Type 0
IsOpened combines line at answer =
    MatchOption answer ((x : Line) → IsOpening combines x → drop at line ≡ opening_text x → ⊥)
    (λ x. IsOpening combines x × (drop at line ≡ opening_text x))

no_line_opened : (combines : Bool) (line : List ℕ) (outer at inner : ℕ) → line ≡ indentation outer ++ drop at line
    → Stands line at (codes "  ") inner → ((x : Line) → IsOpening combines x → drop inner line ≡ opening_text x → ⊥)
    → (x : Line) → LineFits combines x → line ≡ line_text outer x → ⊥
no_line_opened combines line outer at inner blanks stands none (a.Whole s) fits same =
    none (a.Whole s) fits (behind_told line at (codes "  ") inner (opening_text (a.Whole s)) stands
    (inner_told line outer at (a.Whole s) blanks same))
no_line_opened combines line outer at inner blanks stands none (a.If e) fits same =
    none (a.If e) fits (behind_told line at (codes "  ") inner (opening_text (a.If e)) stands
    (inner_told line outer at (a.If e) blanks same))
no_line_opened combines line outer at inner blanks stands none (a.While k e) fits same =
    none (a.While k e) fits (behind_told line at (codes "  ") inner (opening_text (a.While k e)) stands
    (inner_told line outer at (a.While k e) blanks same))
no_line_opened combines line outer at inner blanks stands none a.Else fits same =
    no_brace (codes " else {\n") (32 ∷ drop inner line) (sym (inner_told line outer at a.Else blanks same) ∙ stands.goes_on)
no_line_opened combines line outer at inner blanks stands none a.Close fits same =
    no_brace (codes "\n") (32 ∷ drop inner line) (sym (inner_told line outer at a.Close blanks same) ∙ stands.goes_on)

pub ok_opened : (combines : Bool) (line : List ℕ) (outer at inner : ℕ) → line ≡ indentation outer ++ drop at line
    → Stands line at (codes "  ") inner → (answer : Result (Option Line) AllocError) → IfOk answer (IsOpened combines line inner)
    → IfOk answer (IsLineOf combines outer line)
ok_opened combines line outer at inner blanks stands (Ok None) none = no_line_opened combines line outer at inner blanks stands none
ok_opened combines line outer at inner blanks stands (Ok (Some x)) found = (
  opening_fits combines x found.0,
  blanks ∙ ap (λ (t : List ℕ). indentation outer ++ t) (stands.goes_on ∙ ap (λ (t : List ℕ). codes "  " ++ t) found.1
      ∙ sym (opening_inner combines x found.0)),
)
ok_opened combines line outer at inner blanks stands (Err e) reads = tt

abbrev pub IsClosed : List ℕ → ℕ → Option Line → Type 0
IsClosed line at answer =
    MatchOption answer ((drop at line ≡ codes "}\n" → ⊥) × (drop at line ≡ codes "} else {\n" → ⊥))
    (λ x. ((x ≡ a.Close) × (drop at line ≡ codes "}\n")) ⊎ ((x ≡ a.Else) × (drop at line ≡ codes "} else {\n")))

no_line_closed : (combines : Bool) (line : List ℕ) (outer at : ℕ) → line ≡ indentation outer ++ drop at line
    → ((rest : List ℕ) → drop at line ≡ codes "  " ++ rest → ⊥)
    → (drop at line ≡ codes "}\n" → ⊥) × (drop at line ≡ codes "} else {\n" → ⊥)
    → (x : Line) → LineFits combines x → line ≡ line_text outer x → ⊥
no_line_closed combines line outer at blanks none closing (a.Whole s) fits same =
    none (opening_text (a.Whole s)) (inner_told line outer at (a.Whole s) blanks same)
no_line_closed combines line outer at blanks none closing (a.If e) fits same =
    none (opening_text (a.If e)) (inner_told line outer at (a.If e) blanks same)
no_line_closed combines line outer at blanks none closing (a.While k e) fits same =
    none (opening_text (a.While k e)) (inner_told line outer at (a.While k e) blanks same)
no_line_closed combines line outer at blanks none closing a.Else fits same = closing.1 (inner_told line outer at a.Else blanks same)
no_line_closed combines line outer at blanks none closing a.Close fits same = closing.0 (inner_told line outer at a.Close blanks same)

line_is : (combines : Bool) (line : List ℕ) (outer at : ℕ) (x y : Line) → line ≡ indentation outer ++ drop at line → x ≡ y
    → LineFits combines y → drop at line ≡ inner_text y → LineFits combines x × (line ≡ line_text outer x)
line_is combines line outer at x y blanks is fits same =
    subst (λ z. LineFits combines z × (line ≡ line_text outer z)) (sym is)
    (fits, blanks ∙ ap (λ (t : List ℕ). indentation outer ++ t) same)

pub line_closed : (combines : Bool) (line : List ℕ) (outer at : ℕ) → line ≡ indentation outer ++ drop at line
    → ((rest : List ℕ) → drop at line ≡ codes "  " ++ rest → ⊥) → (answer : Option Line) → IsClosed line at answer
    → IsLineOf combines outer line answer
line_closed combines line outer at blanks none None closing = no_line_closed combines line outer at blanks none closing
line_closed combines line outer at blanks none (Some x) (inl closes) =
    line_is combines line outer at x a.Close blanks closes.0 tt closes.1
line_closed combines line outer at blanks none (Some x) (inr closes) =
    line_is combines line outer at x a.Else blanks closes.0 tt closes.1

-- blanks of indentation
pub indent_more : (depth : ℕ) → indentation (suc depth) ≡ indentation depth ++ codes "  "
indent_more zero = refl
indent_more (suc depth) = ap (λ (t : List ℕ). codes "  " ++ t) (indent_more depth)

pub blanks_more : (line : List ℕ) (depth at next : ℕ) → line ≡ indentation depth ++ drop at line → Stands line at (codes "  ") next
    → line ≡ indentation (depth + 1) ++ drop next line
blanks_more line depth at next blanks stands =
    let more : depth + 1 ≡ suc depth = omega arith in
    blanks ∙ ap (λ (t : List ℕ). indentation depth ++ t) stands.goes_on
    ∙ sym (append_assoc (indentation depth) (codes "  ") (drop next line))
    ∙ ap (λ (t : List ℕ). t ++ drop next line) (sym (indent_more depth))
    ∙ ap (λ n. indentation n ++ drop next line) (sym more)

deeper : (less depth : ℕ) (rest : List ℕ) → less < depth
    → (more : List ℕ) × (indentation depth ++ rest ≡ indentation less ++ (codes "  " ++ more))
deeper less zero rest h = absurd (omega (arith, h))
deeper zero (suc depth) rest h = (indentation depth ++ rest, refl)
deeper (suc less) (suc depth) rest h =
    let inner = deeper less depth rest (omega (arith, h)) in (inner.0, ap (λ (t : List ℕ). codes "  " ++ t) inner.1)

pub no_blanks : (line : List ℕ) (less depth at : ℕ) → less < depth → line ≡ indentation less ++ drop at line
    → ((rest : List ℕ) → drop at line ≡ codes "  " ++ rest → ⊥) → (rest : List ℕ) → line ≡ indentation depth ++ rest → ⊥
no_blanks line less depth at h blanks none rest same =
    let more = deeper less depth rest h in
    none more.0 (append_cancel_left (indentation less) (drop at line) (codes "  " ++ more.0) (sym blanks ∙ same ∙ more.1))
