-- What is written in pieces is written: the pen after the last is full just where all of it together is longer than the room.
-- Assumes nothing.
use Prim.Native.Nat.{ℕ, ◌+◌, ◌≤◌, ◌<◌}
use mathlib.Core.Path.{◌≡◌, refl, sym, ap, ◌∙◌, subst}
use mathlib.Core.Bool.{Bool, true, false, false≢true}
use mathlib.Core.List.{List, [], ◌++◌}
use native.Mathlib.Nat.{add-zero, zero-add, add_assoc}
use native.Mathlib.Omega.{arith}
use borrow.Author.Tests.{lt-ltb, le-ltb, ltb-true}
use lib.Dec.{ltb}
use lib.ListN.{length, take, drop, length-append, take-append-drop}
use lib.Seq.{take_at}
use Rattle.base.specs.Or.{◌or◌}
use Rattle.lines.specs.Line.{Added}
use Rattle.lines.proofs.Laws as added
use Rattle.law_components.specs.Written.{Wrote}
use Rattle.law_components.specs.declared.Pen.{Pen}

-- full before, or too long with the first piece: too long with both
over_both : (a : Bool) (n at s t : ℕ) → (a or ltb n (at + s)) ≡ true → (a or ltb n (at + (s + t))) ≡ true
unfolding ◌or◌
over_both true n at s t h = refl
over_both false n at s t h = let l = ltb-true n (at + s) h in lt-ltb n (at + (s + t)) (omega arith)

-- not full before, where not full after
not_before : (a b : Bool) → (a or b) ≡ false → a ≡ false
unfolding ◌or◌
not_before true b h = absurd (false≢true (sym h))
not_before false b h = refl

or_true : (b : Bool) → (true or b) ≡ true
unfolding ◌or◌
or_true b = refl

pub behind : {b m a : List ℕ} {p q r : Pen} {s t : List ℕ} → Wrote b m p q s → Wrote m a q r t → Wrote b a p r (s ++ t)
unfolding ◌or◌
behind {b} {m} {a} {p} {q} {r} {s} {t} f g = record {
  long = g.long ∙ f.long;
  full = full_both q.full refl;
  stands = λ e. added.behind (f.stands (not_before q.full _ (sym g.full ∙ e))) (g.stands e);
}
  where
    full_both : (x : Bool) → q.full ≡ x → r.full ≡ (p.full or ltb (length b) (p.at + length (s ++ t)))
    full_both true e =
        g.full ∙ ap (λ x. x or ltb (length m) (q.at + length t)) e ∙ or_true (ltb (length m) (q.at + length t))
        ∙ sym (ap (λ n. p.full or ltb (length b) (p.at + n)) (length-append s t) ∙ over_both p.full (length b) p.at (length s) (length t) (sym f.full ∙ e))
    full_both false e =
        let p-free : p.full ≡ false = not_before p.full (ltb (length b) (p.at + length s)) (sym f.full ∙ e) in
        g.full
        ∙ ap (λ x. x or ltb (length m) (q.at + length t)) (e ∙ sym p-free)
        ∙ (λ i. p.full or ltb (f.long i) (((ap (λ n. n + length t) (f.stands e).end ∙ add_assoc p.at (length s) (length t)) ∙ ap (λ n. p.at + n) (sym (length-append s t))) i))

pub is_also : {b a : List ℕ} {p q : Pen} {s t : List ℕ} → s ≡ t → Wrote b a p q s → Wrote b a p q t
is_also {b} {a} {p} {q} e f = subst (λ l. Wrote b a p q l) e f

-- from the first place on: 17 is just where the pen is full, and else the room begins with what was written
pub from_first : {b a : List ℕ} {q : Pen} {s : List ℕ} → Wrote b a (record { at = 0; full = false }) q s → q.full ≡ ltb (length b) (length s)
unfolding ◌or◌
from_first {b} {a} {q} {s} f = f.full ∙ ap (ltb (length b)) (zero-add (length s))

pub whole : {b a : List ℕ} {q : Pen} {s : List ℕ} → Wrote b a (record { at = 0; full = false }) q s → q.full ≡ false → a ≡ s ++ drop (length s) b
whole {b} {a} {q} {s} f e = (f.stands e).is ∙ ap (λ n. s ++ drop n b) ((f.stands e).end ∙ zero-add (length s))

-- ---- one piece: the pen was full, the piece does not fit, or it stands there

module _ {b : List ℕ} {p : Pen} {s : List ℕ} where
  pub was_full : p.full ≡ true → Wrote b b p (record { at = p.at; full = true }) s
  unfolding ◌or◌
  was_full e = record { long = refl; full = sym (ap (λ t. t or ltb (length b) (p.at + length s)) e); stands = λ q. absurd (false≢true (sym q)) }

  pub too_long_lem : length b < p.at + length s → Wrote b b p (record { at = p.at; full = true }) s
  unfolding ◌or◌
  too_long_lem l = record { long = refl; full = sym (or_over p.full); stands = λ q. absurd (false≢true (sym q)) }
    where
      or_over : (t : Bool) → (t or ltb (length b) (p.at + length s)) ≡ true
      or_over true = refl
      or_over false = lt-ltb (length b) (p.at + length s) l

  pub stands : {a : List ℕ} {r : ℕ} → p.full ≡ false → p.at + length s ≤ length b → length a ≡ length b → Added b a p.at r s →
      Wrote b a p (record { at = r; full = false }) s
  unfolding ◌or◌
  stands {a} {r} e l k f = record {
    long = k;
    full = sym (ap (λ t. t or ltb (length b) (p.at + length s)) e ∙ le-ltb (length b) (p.at + length s) l);
    stands = λ _. f;
  }

-- nothing
pub nothing_more : {b : List ℕ} (p : Pen) → (p.full ≡ false → p.at ≤ length b) → Wrote b b p p []
unfolding ◌or◌
nothing_more {b} p inside = record { long = refl; full = full_is p.full refl; stands = λ e. record { end = sym (add-zero p.at); inside = inside e; is = sym (take-append-drop p.at b) } }
  where
    full_is : (t : Bool) → p.full ≡ t → p.full ≡ (p.full or ltb (length b) (p.at + 0))
    full_is true e = e ∙ sym (ap (λ x. x or ltb (length b) (p.at + 0)) e)
    full_is false e = e ∙ sym (ap (λ x. x or ltb (length b) (p.at + 0)) e ∙ le-ltb (length b) (p.at + 0) (omega (arith, inside e)))

-- what stands from the first place on
pub begins_with : {b a : List ℕ} {r : ℕ} {s : List ℕ} → Added b a 0 r s → take r a ≡ s
begins_with {b} {a} {r} {s} f = ap (take r) f.is ∙ take_at s (drop r b) r (sym (f.end ∙ zero-add (length s)))
