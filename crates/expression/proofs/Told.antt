-- What answers say: of an operation, of a sign, of an operator after what was read, of a closed parenthesis.
-- Assumes nothing.
use Rattle.std.specs.Prelude.{None, Option, Some, ℤ}
use Prim.Native.Nat.{ℕ, ◌^◌, ◌<◌}
use mathlib.Core.Path.{◌≡◌, refl, sym, ◌∙◌}
use mathlib.Core.Bool.{Bool, true, false, false≢true}
use mathlib.Core.List.{List}
use native.Mathlib.Omega.{arith}
use lib.Dec.{leb}
use lib.IntN.{ℤ, pos, neg_ℤ, nat_abs}
use lib.ListN.{length, drop}
use borrow.Author.Tests.{leb-true, leb-false}
use Rattle.base.specs.And.{◌and◌}
use Rattle.base.proofs.And.{and_l, and_r}
use Rattle.macro_tokens.specs.Tokens.{tokens, lexed}
use Rattle.macro_tokens.specs.declared.Token.{Token}
use Rattle.expression.specs.Grammar.{Reading, refused, reads, after, kept, joined, negated, is_close, closed}
use Rattle.macro_tokens.proofs.Tokens.{tokens_next, tokens_end}
use Rattle.expression.specs.Value.{whole}
use Rattle.expression.specs.Reading.{Follows, After, Joins, Negates, as_read, next_of, worked_of}
use Rattle.expression.specs.declared.Operator.{Operator}
use Rattle.expression.specs.declared.Sign.{Sign}
use Rattle.expression.specs.declared.Worked.{Worked}
use Rattle.expression.proofs.Seen.{head_seen, tail_seen}
use Rattle.expression.proofs.Sizes.{SmallResult, worked_small}

pub told_fine : (s : List ℕ) (w : Worked) → w.fine ≡ true → as_read s w ≡ reads w.value.millionths (tokens (drop w.next s))
unfolding as_read
told_fine s w e = rw e

pub told_refused : (s : List ℕ) (w : Worked) → w.fine ≡ false → as_read s w ≡ refused
unfolding as_read
told_refused s w e = rw e

told_worked : (s : List ℕ) (r : Option ℤ) (next : ℕ) → as_read s (worked_of r next) ≡ kept r (tokens (drop next s))
unfolding as_read worked_of kept
told_worked s None next = refl
told_worked s (Some a) next = refl

worked_next : (r : Option ℤ) (next : ℕ) → (worked_of r next).next ≡ next
unfolding worked_of
worked_next None next = refl
worked_next (Some a) next = refl

module _ (op : ℤ → ℤ → Option ℤ) (a b : Worked) where
  pub join_fine : (a.fine and b.fine) ≡ true → (r : Option ℤ) → r ≡ op a.value.millionths b.value.millionths → SmallResult r → Joins op a b (worked_of r b.next)
  unfolding joined
  join_fine e r q small =
      record {
        says = λ s. rw (told_fine s a (and_l a.fine b.fine e), told_fine s b (and_r a.fine b.fine e), sym q) (told_worked s r b.next);
        next = worked_next r b.next;
        small = worked_small r b.next small;
      }

  join_none : (s : List ℕ) (x y : Bool) → (x and y) ≡ false → a.fine ≡ x → b.fine ≡ y → refused ≡ joined op (as_read s a) (as_read s b)
  unfolding joined ◌and◌
  join_none s false y e p q = rw (told_refused s a p)
  join_none s true false e p q = rw (told_fine s a p, told_refused s b q)
  join_none s true true e p q = absurd (false≢true (sym e))

  pub join_refused : (a.fine and b.fine) ≡ false → Joins op a b (record { fine = false; value = record { millionths = pos 0 }; next = b.next })
  join_refused e =
      record {
        says = λ s. told_refused s (record { fine = false; value = record { millionths = pos 0 }; next = b.next }) refl ∙ join_none s a.fine b.fine e refl refl;
        next = refl;
        small = omega arith;
      }

turned : (s : List ℕ) (w : Worked) (z : ℤ) (x : Bool) → w.fine ≡ x → z ≡ neg_ℤ w.value.millionths →
    as_read s (record { fine = w.fine; value = record { millionths = z }; next = w.next }) ≡ negated true (as_read s w)
unfolding as_read negated
turned s w z true f e = rw (f, e)
turned s w z false f e = rw f

pub turn : (w : Worked) (z : ℤ) → z ≡ neg_ℤ w.value.millionths → nat_abs z ≡ nat_abs w.value.millionths → nat_abs w.value.millionths < 10 ^ 12 →
    Negates true w (record { fine = w.fine; value = record { millionths = z }; next = w.next })
turn w z e n h = record { says = λ s. turned s w z w.fine refl e; next = refl; small = omega arith }

pub stayed : (r : Reading) → r ≡ negated false r
unfolding negated
stayed refused = refl
stayed (reads a ts) = refl

pub stay : (w : Worked) → nat_abs w.value.millionths < 10 ^ 12 → Negates false w w
stay w h = record { says = λ s. stayed (as_read s w); next = refl; small = h }

module _ (rank : Token → Sign) (s : List ℕ) (w : Worked) where
  pub after_fine : (o : Operator) → w.fine ≡ true → Follows rank s w.next o → After rank s w o
  unfolding after
  after_fine o e f = record { says = rw (told_fine s w e) f.says; inside = f.inside; beyond = f.beyond }

  pub after_refused : w.fine ≡ false → After rank s w (record { any = false; second = false; next = w.next })
  unfolding after next_of
  after_refused e = record { says = rw (told_refused s w e); inside = λ a. absurd (false≢true a); beyond = λ a. absurd (false≢true a) }

pub close_says : (s : List ℕ) (w : Worked) (x y : Bool) → w.fine ≡ x → is_close (lexed s w.next).token ≡ y →
    as_read s (record { fine = w.fine and is_close (lexed s w.next).token; value = w.value; next = (lexed s w.next).next }) ≡ closed (as_read s w)
unfolding as_read closed ◌and◌
close_says s w true true e f = rw (e, f, head_seen s w.next, tail_seen s w.next, f)
close_says s w true false e f = rw (e, f, head_seen s w.next, f)
close_says s w false y e f = rw e

-- whether the whole text was read
module _ (s : List ℕ) (w : Worked) where
  pub whole_read : (w.fine and leb (length s) w.next) ≡ true → whole (as_read s w) ≡ Some w.value.millionths
  unfolding whole
  whole_read e =
      let h = leb-true (length s) w.next (and_r w.fine (leb (length s) w.next) e) in
      rw (told_fine s w (and_l w.fine (leb (length s) w.next) e), tokens_end s w.next h)

  pub part_read : (x y : Bool) → w.fine ≡ x → leb (length s) w.next ≡ y → (x and y) ≡ false → whole (as_read s w) ≡ None
  unfolding whole ◌and◌
  part_read false y p q e = rw (told_refused s w p)
  part_read true false p q e = rw (told_fine s w p, tokens_next s w.next (leb-false (length s) w.next q))
  part_read true true p q e = absurd (false≢true (sym e))
