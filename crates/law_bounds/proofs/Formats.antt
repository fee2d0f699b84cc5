-- What FS says in either edition is a format: six places at most before the point and after it, one at least in all.
-- Assumes nothing.
use Rattle.std.specs.Prelude.{Err, Ok, Result}
use Prim.Native.Nat.{ℕ, ◌-◌, ◌≤◌}
use mathlib.Core.Path.{◌≡◌, refl, sym, ap, subst, ◌∙◌}
use mathlib.Core.Bool.{Bool, true, false, not}
use mathlib.Core.List.{List}
use native.Mathlib.Omega.{arith}
use lib.Dec.{leb, eqb}
use lib.ListN.{get_or}
use borrow.Author.Tests.{leb-true, eqb-false, le-leb}
use Rattle.base.specs.And.{◌and◌}
use Rattle.base.specs.Or.{◌or◌}
use Rattle.base.specs.Choose.{pick}
use Rattle.base.proofs.And.{and_l, and_r, and_i, ands, and_false}
use Rattle.base.proofs.Tests.{tests, eqb_agree}
use Rattle.text.specs.Name.{range}
use Rattle.text.specs.Text.{byte}
use Rattle.formats.specs.Format.{is_format, newer}
use Rattle.formats.specs.Texts.{newer_format, of_form, old_format}
use Rattle.formats.specs.declared.Format.{Format}
use Rattle.law_bounds.proofs.Tables.{picks, neither}
use Rattle.formats.specs.declared.FormatError.TheVariants as format_error
use Rattle.formats.specs.declared.FormatError.{FormatError}

-- whatever format it says is one
abbrev Formats : Result Format FormatError → Type 0
Formats a = (f : Format) → a ≡ Ok f → is_format f ≡ true

no_format_lem : {a : Result Format FormatError} → ((f : Format) → a ≡ Ok f → ⊥) → Formats a
no_format_lem h f e = absurd (h f e)

is_format_lem : {f : Format} → is_format f ≡ true → Formats (Ok f)
is_format_lem {f = f} h g e = let q : f ≡ g = cc in subst (λ (x : Format). is_format x ≡ true) q h

-- a byte of a place, of which the digit is told
low : (n high : ℕ) → (leb 48 n and leb n high) ≡ true → 48 ≤ n
low n high e = leb-true 48 n (and_l (leb 48 n) (leb n high) e)

high : (n top : ℕ) → (leb 48 n and leb n top) ≡ true → n ≤ top
high n top e = leb-true n top (and_r (leb 48 n) (leb n top) e)

newer_is : (n : ℕ) → n ≤ 6 → is_format (newer n) ≡ true
unfolding is_format newer
newer_is n h = simp (tests, ands, and_false)

pub newer_formats : (s : List ℕ) → Formats (newer_format s)
unfolding newer_format
newer_formats s =
    let n : ℕ = get_or s 5 0 in
    picks Formats
    (λ e. is_format_lem (newer_is (n - 48) (let h = leb-true n 54 (and_r (leb 49 n) (leb n 54) (and_l (range "1" "6" n) _ e)) in omega (arith, h))))
    (no_format_lem (λ f e. let z : ◌≡◌ {A = ℕ} 0 1 = cc in absurd (omega arith)))

-- two bytes of places, no seven among them and not both 0
module _ (n m : ℕ) (trailing incremental : Bool) where
  places_are : 48 ≤ n → n ≤ 54 → 48 ≤ m → m ≤ 54 → not (byte "0" n and byte "0" m) ≡ true →
      is_format (record { integers = n - 48; decimals = m - 48; trailing = trailing; incremental = incremental }) ≡ true
  unfolding is_format
  places_are a b c d e =
      let p : eqb (n - 48) 0 ≡ eqb n 48 = eqb_agree (n - 48) 0 n 48 (λ q. omega arith) (λ q. omega arith) in
      let r : eqb (m - 48) 0 ≡ eqb m 48 = eqb_agree (m - 48) 0 m 48 (λ q. omega arith) (λ q. omega arith) in
      and_i _ _ (and_i _ _ (le-leb (n - 48) 6 (omega arith)) (le-leb (m - 48) 6 (omega arith)))
      (ap not (λ i. p i and r i) ∙ e)

six : (n : ℕ) → n ≤ 55 → byte "7" n ≡ false → n ≤ 54
six n h e = let k : n ≡ 55 → ⊥ = eqb-false n 55 e in omega arith

module _ (n m : ℕ) (trailing incremental : Bool) where
  by_seven : (t : Bool) → (byte "7" n or byte "7" m) ≡ t → 48 ≤ n → n ≤ 55 → 48 ≤ m → m ≤ 55 → not (byte "0" n and byte "0" m) ≡ true →
      Formats (pick t (Err format_error.SevenPlaces) (Ok (record { integers = n - 48; decimals = m - 48; trailing = trailing; incremental = incremental })))
  unfolding pick
  by_seven true e a b c d some = no_format_lem (λ f q. let z : ◌≡◌ {A = ℕ} 0 1 = cc in absurd (omega arith))
  by_seven false e a b c d some =
      let r = neither (byte "7" n) (byte "7" m) e in
      is_format_lem (places_are n m trailing incremental a (six n b r.0) c (six m d r.1) some)

pub old_formats : (s : List ℕ) → Formats (old_format s)
unfolding old_format of_form
old_formats s =
    let n : ℕ = get_or s 5 0 in
    let m : ℕ = get_or s 6 0 in
    picks Formats
    (λ formed.
    let a = and_l _ _ formed in
    let b = and_l _ _ a in
    let rm : range "0" "7" m ≡ true = and_r _ _ b in
    let rn : range "0" "7" n ≡ true = and_r _ _ (and_l _ _ b) in
    by_seven n m _ _ (byte "7" n or byte "7" m) refl (low n 55 rn) (high n 55 rn) (low m 55 rm) (high m 55 rm) (and_r _ _ a))
    (no_format_lem (λ f e. let z : ◌≡◌ {A = ℕ} 0 1 = cc in absurd (omega arith)))
