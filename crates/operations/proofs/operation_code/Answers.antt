-- `operations::operation_code` meets its contract: each test is that of a row of `operation_code`.
-- Assumes nothing.
use Prim.Native.Nat.{ℕ, ◌+◌, ◌-◌}
use mathlib.Core.Path.{◌≡◌, refl, sym, ap, ◌∙◌}
use mathlib.Core.Bool.{Bool, false}
use mathlib.Core.List.{[], ◌∷◌}
use lib.Dec.{eqb}
use lib.ListN.{length, drop, get_or}
use Rattle.base.specs.And.{◌and◌}
use Rattle.base.specs.Bytes.{same_bytes}
use Rattle.base.proofs.Choose.{row_holds, row_fails}
use Rattle.operations.specs.Operations.{operation_code}
use Rattle.operations.proofs.Ends.{last_three, too_short}
use Rattle.operations.proofs.operation_code.Goals as goal

pub returns-then-s-lt3 : goal.returns-then-s-lt3
unfolding operation_code
returns-then-s-lt3 c =
    let short : (z : ℕ) → let s = c.args.s.now in same_bytes (drop (length s - 3) s) (68 ∷ 48 ∷ z ∷ []) ≡ false =
    λ z. too_short c.args.s.now 68 48 z c.if-s-lt3.true in
    row_fails _ (short 49) (row_fails _ (short 50) (row_fails _ (short 51) refl))

pub returns-then-both : goal.returns-then-both
unfolding operation_code
returns-then-both c =
    let ends : (z : ℕ) (t : Bool) →
    let s = c.args.s.now in
    (c.both-coded.result and eqb (get_or s (length s - 3 + 2) 0) z) ≡ t → same_bytes (drop (length s - 3) s) (68 ∷ 48 ∷ z ∷ []) ≡ t =
    λ z t e. let s = c.args.s.now in
    last_three s 68 48 z c.if-s-lt3.false ∙ ap (λ t. t and eqb (get_or s (length s - 3 + 2) 0) z) (sym c.both-coded.ensures) ∙ e in
    row_holds _ (ends 49 _ (sym c.both.ensures ∙ c.if-both.true)) refl

pub returns-then-both-2 : goal.returns-then-both-2
unfolding operation_code
returns-then-both-2 c =
    let ends : (z : ℕ) (t : Bool) →
    let s = c.args.s.now in
    (c.both-coded.result and eqb (get_or s (length s - 3 + 2) 0) z) ≡ t → same_bytes (drop (length s - 3) s) (68 ∷ 48 ∷ z ∷ []) ≡ t =
    λ z t e. let s = c.args.s.now in
    last_three s 68 48 z c.if-s-lt3.false ∙ ap (λ t. t and eqb (get_or s (length s - 3 + 2) 0) z) (sym c.both-coded.ensures) ∙ e in
    row_fails _ (ends 49 _ (sym c.both.ensures ∙ c.if-both.false))
    (row_holds _ (ends 50 _ (sym c.both-2.ensures ∙ c.if-both-2.true)) refl)

pub returns-then-both-3 : goal.returns-then-both-3
unfolding operation_code
returns-then-both-3 c =
    let ends : (z : ℕ) (t : Bool) →
    let s = c.args.s.now in
    (c.both-coded.result and eqb (get_or s (length s - 3 + 2) 0) z) ≡ t → same_bytes (drop (length s - 3) s) (68 ∷ 48 ∷ z ∷ []) ≡ t =
    λ z t e. let s = c.args.s.now in
    last_three s 68 48 z c.if-s-lt3.false ∙ ap (λ t. t and eqb (get_or s (length s - 3 + 2) 0) z) (sym c.both-coded.ensures) ∙ e in
    row_fails _ (ends 49 _ (sym c.both.ensures ∙ c.if-both.false))
    (row_fails _ (ends 50 _ (sym c.both-2.ensures ∙ c.if-both-2.false))
    (row_holds _ (ends 51 _ (sym c.both-3.ensures ∙ c.if-both-3.true)) refl))

pub returns : goal.returns
unfolding operation_code
returns c =
    let ends : (z : ℕ) (t : Bool) →
    let s = c.args.s.now in
    (c.both-coded.result and eqb (get_or s (length s - 3 + 2) 0) z) ≡ t → same_bytes (drop (length s - 3) s) (68 ∷ 48 ∷ z ∷ []) ≡ t =
    λ z t e. let s = c.args.s.now in
    last_three s 68 48 z c.if-s-lt3.false ∙ ap (λ t. t and eqb (get_or s (length s - 3 + 2) 0) z) (sym c.both-coded.ensures) ∙ e in
    row_fails _ (ends 49 _ (sym c.both.ensures ∙ c.if-both.false))
    (row_fails _ (ends 50 _ (sym c.both-2.ensures ∙ c.if-both-2.false))
    (row_fails _ (ends 51 _ (sym c.both-3.ensures ∙ c.if-both-3.false)) refl))
