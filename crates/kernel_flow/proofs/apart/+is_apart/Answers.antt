use Rattle.std.specs.Prelude.{ℕ, false}
use Rattle.std.proofs.Common.{◌≡◌, sym, subst}
use Rattle.kernel_code.specs.Keeps.{Mentions}
use Rattle.kernel_code.proofs.Keeps.{mentions_at, mentions_bin, mentions_min, mentions_width}
use Rattle.kernel_flow.specs.Apart.{is_in}
use Rattle.kernel_flow.specs.Steady.{IsReadOnly}
use Rattle.kernel_flow.proofs.ExprLemmas.{from_part, is_true}
use Rattle.kernel_flow.proofs.apart.+is_apart.Goals as goal

pub returns-then-is_read_only : goal.returns-then-is_read_only
returns-then-is_read_only t c =
    let s = c.in-At in
    let out = λ (y : ℕ). is_in c.args.some.now y ≡ false in
    λ h. subst (Mentions out IsReadOnly) (sym s.is)
    (mentions_at out IsReadOnly s.array s.i (c.is_read_only.ensures (is_true c.is_read_only.result c.if-is_read_only.true))
    (from_part out c.get.result.now s.i c.get.ensures (c.is_apart.ensures h)))

pub returns-then-is_apart : goal.returns-then-is_apart
returns-then-is_apart t c =
    let s = c.in-Bin in
    let out = λ (y : ℕ). is_in c.args.some.now y ≡ false in
    λ h. subst (Mentions out IsReadOnly) (sym s.is)
    (mentions_bin out IsReadOnly s.field-0 s.a s.b
    (from_part out c.get-in-Bin.result.now s.a c.get-in-Bin.ensures
    (c.is_apart-in-Bin.ensures (is_true c.is_apart-in-Bin.result c.if-is_apart.true)))
    (from_part out c.get-then-is_apart.result.now s.b c.get-then-is_apart.ensures (c.is_apart-then-is_apart.ensures h)))

pub returns-then-is_apart-2 : goal.returns-then-is_apart-2
returns-then-is_apart-2 t c =
    let s = c.in-Min in
    let out = λ (y : ℕ). is_in c.args.some.now y ≡ false in
    λ h. subst (Mentions out IsReadOnly) (sym s.is)
    (mentions_min out IsReadOnly s.a s.b
    (from_part out c.get-in-Min.result.now s.a c.get-in-Min.ensures
    (c.is_apart-in-Min.ensures (is_true c.is_apart-in-Min.result c.if-is_apart-2.true)))
    (from_part out c.get-then-is_apart-2.result.now s.b c.get-then-is_apart-2.ensures (c.is_apart-then-is_apart-2.ensures h)))

pub returns-in-Width : goal.returns-in-Width
returns-in-Width t c =
    let s = c.in-Width in
    let out = λ (y : ℕ). is_in c.args.some.now y ≡ false in
    λ h. subst (Mentions out IsReadOnly) (sym s.is)
    (mentions_width out IsReadOnly s.e
    (from_part out c.get-in-Width.result.now s.e c.get-in-Width.ensures (c.is_apart-in-Width.ensures h)))
