-- The walk from command to command: what is found from here on is what the file is judged by.
-- Assumes nothing.
use Prim.Native.Nat.{ℕ, zero, suc, ◌+◌, ◌≤◌, ◌<◌}
use mathlib.Core.Path.{◌≡◌, refl}
use mathlib.Core.Bool.{true, false}
use mathlib.Core.List.{List}
use native.Mathlib.Omega.{arith}
use lib.ListN.{length}
use Rattle.scan.specs.Scan.{next_command}
use Rattle.scan.specs.declared.Kind.{Kind}
use Rattle.book.specs.declared.Book.{Book}
use Rattle.scan.specs.declared.Scan.{Scan}
use Rattle.scan.specs.declared.Scan.TheVariants.{Command, BadByte, Ended}
use Rattle.scan.proofs.Within.{Within, next_within}
use Rattle.signature.specs.Form.{is_end}
use Rattle.signature.specs.Signature.{refused, bare, at_end, walked, signature_of}

pub record Walking (book : Book) (file : List ℕ) (from at : ℕ) : Type 0 where
  pub fuel : ℕ
  pub inside : at ≤ length file
  pub enough : length file < at + fuel
  pub same : walked book fuel file from at ≡ signature_of book file

pub starts : (book : Book) (file : List ℕ) → Walking book file 0 0
unfolding signature_of
starts book file = record { fuel = suc (length file); inside = omega arith; enough = omega arith; same = refl }

module _ {book : Book} {file : List ℕ} {from at : ℕ} (w : Walking book file from at) where
  within : {r : Scan} → next_command book file at ≡ r → Within (length file) at r
  within e = rw e at (next_within book file at w.inside)

  fuelled : (A : Type 0) → ((m : ℕ) → w.fuel ≡ suc m → A) → A
  fuelled A f = go w.fuel refl
    where
      go : (n : ℕ) → w.fuel ≡ n → A
      go zero e = absurd (omega (arith, w.inside, w.enough, e))
      go (suc m) e = f m e

  module _ {kind : Kind} {place text end next : ℕ} (e : next_command book file at ≡ Command kind place text end next) where
    pub moves : (at < next) × (next ≤ length file)
    moves = let k = within e in (omega (arith, k.0, k.1, k.2, k.3), k.4)

    pub goes : is_end book (bare file place next) ≡ false → Walking book file place next
    unfolding walked
    goes t =
        fuelled (Walking book file place next)
        (λ m k.
        record {
          fuel = m;
          inside = moves.1;
          enough = omega (arith, w.enough, k, moves.0);
          same = rw (k, walked, e, t) at w.same;
        })

    pub ends : is_end book (bare file place next) ≡ true → at_end file from at place next ≡ signature_of book file
    unfolding walked
    ends t = fuelled _ (λ m k. rw (k, walked, e, t) at w.same)

  pub bad : {place : ℕ} → next_command book file at ≡ BadByte place → refused 2 place ≡ signature_of book file
  unfolding walked
  bad e = fuelled _ (λ m k. rw (k, walked, e) at w.same)

  pub over : {place : ℕ} → next_command book file at ≡ Ended place → refused 3 place ≡ signature_of book file
  unfolding walked
  over e = fuelled _ (λ m k. rw (k, walked, e) at w.same)
