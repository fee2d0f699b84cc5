-- What the loops over items need: the pass by the item at k, the mains known before k, and a number's digits by its word.
-- Assumes nothing.
use Prim.Native.Nat.{ℕ, zero, suc, ◌+◌, ◌-◌, ◌≤◌, ◌<◌, ◌^◌}
use mathlib.Core.Path.{◌≡◌, refl, sym, ap, ◌∙◌}
use mathlib.Core.Bool.{Bool, true, false, cond}
use mathlib.Core.List.{List, [], ◌∷◌, ◌++◌}
use native.Mathlib.Omega.{arith}
use native.Mathlib.Numerals.{add-one}
use borrow.Author.Tests.{le-leb, lt-leb, ne_eqb}
use lib.Dec.{eqb, leb}
use lib.IntN.{ℤ, pos, negsuc, nat_abs}
use lib.ListN.{length, take}
use lib.Seq.{take-suc}
use mir.Syntax.{w64}
use mir.Val.{of_z, SFits}
use Rattle.base.specs.And.{◌and◌}
use Rattle.base.specs.Or.{◌or◌}
use Rattle.base.specs.Bytes.{same_bytes}
use Rattle.text.specs.Text.{text}
use Rattle.lines.specs.Line.{decimal_of, signed_of}
use Rattle.lines.proofs.Decimal.{length_decimal}
use Rattle.law_components.specs.Parts.{Part, nothing, is_main, designator}
use Rattle.law_components.specs.Outlines.{at}
use Rattle.law_components.specs.Faults.{repeats, has_main}
use Rattle.law_components.specs.Pass.{met_of, outline_after, step_fault, end_fault, pass}
use Rattle.law_components.specs.Records.{numeral}
use Rattle.law_components.specs.declared.Outline.{Outline}

-- ---- the pass at item k: on, or out

module _ (ps : List Part) (o : Outline) (k : ℕ) where
  pub pass_on : k < length ps → (step_fault o (met_of (at ps k)) (repeats ps k)).number ≡ 0 →
      pass ps o k (length ps - k) ≡ pass ps (outline_after o (met_of (at ps k))) (k + 1) (length ps - (k + 1))
  unfolding pass
  pass_on l e =
      let q : length ps - k ≡ suc (length ps - (k + 1)) = omega arith in
      rw (q, pass, e, add-one)

  pub pass_out : k < length ps → ((step_fault o (met_of (at ps k)) (repeats ps k)).number ≡ 0 → ⊥) →
      pass ps o k (length ps - k) ≡ step_fault o (met_of (at ps k)) (repeats ps k)
  unfolding pass
  pass_out l e =
      let q : length ps - k ≡ suc (length ps - (k + 1)) = omega arith in
      rw (q, pass, ne_eqb _ 0 e)

  pub pass_end : length ps ≤ k → pass ps o k (length ps - k) ≡ end_fault o
  unfolding pass
  pass_end l = let q : length ps - k ≡ 0 = omega arith in rw (q, pass)

-- ---- the mains that are known

or_assoc : (a b c : Bool) → (a or (b or c)) ≡ ((a or b) or c)
unfolding ◌or◌
or_assoc true b c = refl
or_assoc false b c = refl

or_false : (a : Bool) → (a or false) ≡ a
unfolding ◌or◌
or_false true = refl
or_false false = refl

has_main_append : (d : List ℕ) (l m : List Part) → has_main d (l ++ m) ≡ (has_main d l or has_main d m)
unfolding has_main ◌or◌
has_main_append d [] m = refl
has_main_append d (p ∷ l) m =
    ap (λ t. (is_main p.role and same_bytes (designator p) d) or t) (has_main_append d l m)
    ∙ or_assoc (is_main p.role and same_bytes (designator p) d) (has_main d l) (has_main d m)

pub has_main_more : (d : List ℕ) (ps : List Part) (k : ℕ) → k < length ps →
    has_main d (take (suc k) ps) ≡ (has_main d (take k ps) or (is_main (at ps k).role and same_bytes (designator (at ps k)) d))
unfolding has_main
has_main_more d ps k l =
    ap (has_main d) (take-suc ps k nothing l)
    ∙ has_main_append d (take k ps) (at ps k ∷ [])
    ∙ ap (λ t. has_main d (take k ps) or t) (or_false (is_main (at ps k).role and same_bytes (designator (at ps k)) d))

-- ---- a number by its word

pub numeral_word : (z : ℤ) → SFits w64 z → signed_of (of_z w64 z) ≡ numeral z
unfolding numeral signed_of
numeral_word (pos n) f = let h : n < 2 ^ 63 = f.sfits in rw (lt-leb 9223372036854775808 n (omega arith))
numeral_word (negsuc n) f =
    let h : n < 2 ^ 63 = f.sfits in
    let e : 18446744073709551616 - (18446744073709551616 - suc n) ≡ suc n = omega arith in
    rw (le-leb 9223372036854775808 (18446744073709551616 - suc n) (omega arith)) (ap (λ m. text "-" ++ decimal_of m) e)

pub length_numeral : (z : ℤ) → length (numeral z) ≤ 21
unfolding numeral
length_numeral (pos n) = omega (arith, length_decimal n)
length_numeral (negsuc n) = omega (arith, length_decimal (suc n))
