-- `reckon::product` meets its contract: the size of the product in two words, of which the high one is to be 0.
use Prim.Native.Nat.{◌+◌, ◌/◌}
use mathlib.Core.Path.{◌≡◌, ◌∙◌}
use lib.IntN.{nat_abs, ◌*ℤ◌}
use mir.Facts.{to_z-of_z}
use Rattle.ints.specs.Ints.{signed, is_neg}
use Rattle.product.specs.Wide.{number}
use Rattle.reckon.specs.Rounding.{kept_of}
use Rattle.reckon.proofs.Nearest.{product_by_size, product_high, product_low, product_word}
use native.Mathlib.Omega.{arith}
use Rattle.reckon.proofs.product.Goals as goal

pub returns-then-hi-ne0 : goal.returns-then-hi-ne0
returns-then-hi-ne0 c =
    let whole : number c.size_of_product-hi.result ≡ nat_abs (c.args.a *ℤ c.args.b) =
    let f = c.ranges in c.size_of_product-hi.ensures ∙ (λ i. nat_abs (to_z-of_z f.a i *ℤ to_z-of_z f.b i)) in
    product_high _ _ _ whole c.if-hi-ne0.true

pub returns-then-lo-ge1000000000000000000 : goal.returns-then-lo-ge1000000000000000000
returns-then-lo-ge1000000000000000000 c =
    let whole : number c.size_of_product-hi.result ≡ nat_abs (c.args.a *ℤ c.args.b) =
    let f = c.ranges in c.size_of_product-hi.ensures ∙ (λ i. nat_abs (to_z-of_z f.a i *ℤ to_z-of_z f.b i)) in
    product_low _ _ _ whole (omega arith)

pub returns : goal.returns
returns c =
    let whole : number c.size_of_product-hi.result ≡ nat_abs (c.args.a *ℤ c.args.b) =
    let f = c.ranges in c.size_of_product-hi.ensures ∙ (λ i. nat_abs (to_z-of_z f.a i *ℤ to_z-of_z f.b i)) in
    let n = product_word c.args.a c.args.b _ whole c.if-hi-ne0.false in
    let minus = c.negative_product.ensures ∙ (λ i. is_neg (to_z-of_z c.ranges.a i *ℤ to_z-of_z c.ranges.b i)) in
    c.kept.ensures ∙ (λ i. kept_of (signed (minus i) ((n i + 500000) / 1000000))) ∙ product_by_size c.args.a c.args.b
