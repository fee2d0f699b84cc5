-- What is written into ten words that are all 0, by how the address begins.
-- Assumes nothing.
use Prim.Native.Nat.{ℕ, ◌+◌, ◌-◌, ◌≤◌}
use mathlib.Core.Path.{◌≡◌, refl, sym, ap, ◌∙◌}
use mathlib.Core.List.{List, [], ◌∷◌, append-nil}
use native.Mathlib.Nat.{not-suc-le-zero}
use native.Mathlib.Omega.{arith}
use lib.ListN.{length, get_or, take, drop, set, replicate}
use borrow.Rule.Slice.PartMut.{put_mid}
use Rattle.sheet.specs.Records.{entry_room}
use Rattle.sheet.specs.declared.Container.{Container}
use Rattle.law_addresses.specs.Chains.{chains}
use Rattle.law_addresses.specs.Addresses.{raised, sheet_addresses}
use Rattle.address.specs.Writing.{Writes}
use Rattle.address.specs.Starting.{InFlash, InCopy}

module _ (head e a : List ℕ) (n : ℕ) (out : List ℕ) (z : out ≡ replicate 10 0) where
  abbrev address : List ℕ
  address = get_or (sheet_addresses head e a) n []

  pub ten : length out ≡ 10
  ten = ap length z

  pub two_words : 2 ≤ length out
  two_words = let t = ten in omega arith

  pub one_word : 1 ≤ length out
  one_word = let t = ten in omega arith

  pub alone_written : (p : ℕ) → address ≡ 0 ∷ p ∷ replicate 8 0 → set out 1 p ≡ address
  alone_written p q = ap (λ w. set w 1 p) z ∙ sym q

  module _ (p : ℕ) (u : Container) (j : ℕ) (f : InFlash head e a n p u j) where
    flash_part : take (length (set out 1 p) - 2) (drop 2 (set out 1 p)) ≡ replicate 8 0
    flash_part = ap (λ w. take (length (set w 1 p) - 2) (drop 2 (set w 1 p))) z

    pub flash_writes : Writes e a u j (take (length (set out 1 p) - 2) (drop 2 (set out 1 p)))
    flash_writes = rw flash_part (record { held = f.held; low = (let l = f.low in omega arith); high = f.low; zeros = refl })

    pub flash_written : (ys : List ℕ) → ys ≡ get_or (chains e a (length (take (length (set out 1 p) - 2) (drop 2 (set out 1 p)))) u) j [] →
        put_mid 2 (length (set out 1 p) - 2) (set out 1 p) ys ≡ address
    flash_written ys q =
        ap (λ w. put_mid 2 (length (set w 1 p) - 2) (set w 1 p) ys) z
        ∙ ap (λ w. 0 ∷ p ∷ w) (append-nil ys)
        ∙ ap (λ w. 0 ∷ p ∷ w) (q ∙ ap (λ w. get_or (chains e a (length w) u) j []) flash_part)
        ∙ sym f.is

  module _ (copy b : ℕ) (u : Container) (j : ℕ) (f : InCopy head e a n copy b u j) where
    copy_part : take (length (set out 0 copy) - 1) (drop 1 (set out 0 copy)) ≡ replicate 9 0
    copy_part = ap (λ w. take (length (set w 0 copy) - 1) (drop 1 (set w 0 copy))) z

    pub copy_writes : Writes e a u j (take (length (set out 0 copy) - 1) (drop 1 (set out 0 copy)))
    copy_writes = rw copy_part (record { held = f.held; low = f.low; high = f.low; zeros = refl })

    module _ (ys : List ℕ) (q : ys ≡ get_or (chains e a (length (take (length (set out 0 copy) - 1) (drop 1 (set out 0 copy)))) u) j []) where
      abbrev behind : List ℕ
      behind = put_mid 1 (length (set out 0 copy) - 1) (set out 0 copy) ys

      chain_is : behind ≡ copy ∷ get_or (chains e a 9 u) j []
      chain_is =
          ap (λ w. put_mid 1 (length (set w 0 copy) - 1) (set w 0 copy) ys) z
          ∙ ap (λ w. copy ∷ w) (append-nil ys)
          ∙ ap (λ w. copy ∷ w) (q ∙ ap (λ w. get_or (chains e a (length w) u) j []) copy_part)

      first_is : get_or behind 1 0 ≡ get_or (get_or (chains e a 9 u) j []) 0 0
      first_is = ap (λ w. get_or w 1 0) chain_is

      pub copy_fits : (x : ℕ) → x ≡ get_or behind 1 0 → b + x ≤ entry_room e + entry_room e
      copy_fits x t = let s = t ∙ first_is in let fits = f.fits in omega arith

      pub copy_written : (x : ℕ) → x ≡ get_or behind 1 0 → set behind 1 (b + x) ≡ address
      copy_written x t = ap (λ w. set w 1 (b + x)) chain_is ∙ go (get_or (chains e a 9 u) j []) f.some x (t ∙ first_is) ∙ sym f.is
        where
          go : (w : List ℕ) → 1 ≤ length w → (x : ℕ) → x ≡ get_or w 0 0 → set (copy ∷ w) 1 (b + x) ≡ copy ∷ raised b w
          go [] l x t = absurd (not-suc-le-zero l)
          go (y ∷ ys) l x t = unfold raised in ap (λ m. copy ∷ (b + m) ∷ ys) t
