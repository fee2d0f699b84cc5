-- A primitive's parameters, worked out one by one: what those from here on leave, after what was left so far, is what all of them leave.
-- Assumes nothing.
use Rattle.std.specs.Prelude.{None, Option, Some}
use Prim.Native.Nat.{ℕ, ◌+◌, ◌<◌, ◌≤◌}
use Prim.Native.Char.{code}
use mathlib.Core.Path.{◌≡◌, refl, sym, ap, ◌∙◌}
use mathlib.Core.Bool.{Bool, true, false}
use mathlib.Core.List.{List, []}
use native.Mathlib.Omega.{arith}
use lib.IntN.{ℤ}
use lib.ListN.{length, drop, set, length-set}
use lib.Seq.{slice}
use lib.Dec.{eqb}
use Rattle.text.specs.First.{place}
use Rattle.text.proofs.First.{first_from_lem}
use Rattle.macro_tokens.specs.LineEnds.{without_leading}
use Rattle.text.proofs.Pieces.{pieces_next, pieces_end}
use Rattle.primitives.specs.Asked.{none, added, asked, amount}
use Rattle.primitives.proofs.Gathered.{gathered, gathered_is}
use Rattle.primitives.specs.declared.Asked.{Asked}
use Rattle.macros.specs.Pen.{penned, pens, laid}
use Rattle.macros.specs.Says.{Comes, Gathers, reckoned_as}
use Rattle.macros.specs.Work.{Values, onward, values_of, parameters_in}
use Rattle.macros.specs.declared.Pen.{Pen}
use Rattle.decimal.specs.declared.Amount.{Amount}

pub record Gathering (all rest : Values) (l₀ l : List ℤ) (p₀ p : Pen) (q : Asked) (at : ℕ) : Type 0 where
  pub fine : rest.fine ≡ all.fine
  pub asks : gathered q rest.values ≡ asked none all.values
  pub pen : pens (length l₀) p rest.values ≡ pens (length l₀) p₀ all.values
  pub stores : laid l p rest.values ≡ laid l₀ p₀ all.values
  pub long : length l ≡ length l₀
  pub counted : q.count ≤ at

pub gathering_starts : (all : Values) (l : List ℤ) (p : Pen) (q : Asked) (at : ℕ) → q ≡ asked none [] → Gathering all all l l p p q at
unfolding asked
gathering_starts all l p q at e =
    let n : q.count ≡ 0 = ap (λ x. x.count) e in
    record { fine = refl; asks = rw e (gathered_is all.values); pen = refl; stores = refl; long = refl; counted = omega arith }

module _ (all : Values) (l₀ l : List ℤ) (p₀ p : Pen) (q : Asked) (at : ℕ) where
  pub gathering_goes : (rest : Values) (z : ℤ) (next : ℕ) → at < next → Gathering all (onward (Some z) rest) l₀ l p₀ p q at →
      Gathering all rest l₀ (set l p.at z) p₀ (penned (length l) p) (added q (amount z)) next
  unfolding onward gathered pens laid added
  gathering_goes rest z next h g =
      let c = g.counted in
      record {
        fine = g.fine;
        asks = g.asks;
        pen = rw g.long g.pen;
        stores = g.stores;
        long = length-set l p.at z ∙ g.long;
        counted = omega arith;
      }

  pub gathering_ends : (fine : Bool) → Gathering all (record { fine = fine; values = [] }) l₀ l p₀ p q at →
      (fine ≡ all.fine) × (q ≡ asked none all.values) × (p ≡ pens (length l₀) p₀ all.values) × (l ≡ laid l₀ p₀ all.values)
  unfolding gathered pens laid
  gathering_ends fine g = (g.fine, g.asks, g.pen, g.stores)

-- the next parameter, and those after it
module _ (variables : List ℤ) (t : List ℕ) (at : ℕ) where
  pub values_next : (w : Option Amount) → at < length t → Comes variables (without_leading (slice (at + 1) (place (code ",") t (at + 1)) t)) w →
      values_of variables (parameters_in (drop at t)) ≡ onward (reckoned_as w) (values_of variables (parameters_in (drop (place (code ",") t (at + 1)) t)))
  unfolding values_of
  values_next w h c = rw (pieces_next (code ",") t at h, sym c.says)

  pub values_end : length t ≤ at → values_of variables (parameters_in (drop at t)) ≡ record { fine = true; values = [] }
  unfolding values_of
  values_end h = rw (pieces_end (code ",") t at h)

pub fine_value : (w : Option Amount) (a : Amount) → w ≡ Some a → reckoned_as w ≡ Some a.millionths
unfolding reckoned_as
fine_value w a e = rw e

pub refused_value : (w : Option Amount) → w ≡ None → (vs : Values) → onward (reckoned_as w) vs ≡ record { fine = false; values = [] }
unfolding reckoned_as onward
refused_value w e vs = rw e

-- one turn, and the two ends, of the loop over the parameters
module _ (vs : List ℤ) (ts : List (List ℕ)) (t : List ℕ) (at next : ℕ) (l₀ l : List ℤ) (p₀ p : Pen) (q : Asked) (w : Option Amount)
    (g : Gathering (values_of vs ts) (values_of vs (parameters_in (drop at t))) l₀ l p₀ p q at) where
  pub gathering_step : at < length t → next ≡ place (code ",") t (at + 1) → Comes vs (without_leading (slice (at + 1) next t)) w →
      (a : Amount) → w ≡ Some a →
      (l' : List ℤ) (p' : Pen) (q' : Asked) → l' ≡ set l p.at a.millionths → p' ≡ penned (length l) p → q' ≡ added q a →
      Gathering (values_of vs ts) (values_of vs (parameters_in (drop next t))) l₀ l' p₀ p' q' next
  gathering_step h en c a e l' p' q' el ep eq =
      let low = first_from_lem (λ b. eqb b (code ",")) t (at + 1) in
      rw (el, ep, eq, en)
      (gathering_goes (values_of vs ts) l₀ l p₀ p q at _ a.millionths _ (omega arith)
      (rw (values_next vs t at w h (rw en at c), fine_value w a e) at g))

  pub gathering_stop : at < length t → next ≡ place (code ",") t (at + 1) → Comes vs (without_leading (slice (at + 1) next t)) w → w ≡ None →
      Gathers vs ts l₀ l p₀ (record { fine = false; asked = q; pen = p })
  gathering_stop h en c e =
      let f = gathering_ends (values_of vs ts) l₀ l p₀ p q at false (rw (values_next vs t at w h (rw en at c), refused_value w e) at g) in
      record { fine = f.0; asks = f.1; pen = f.2; stores = f.3 }

  pub gathering_end : length t ≤ at → Gathers vs ts l₀ l p₀ (record { fine = true; asked = q; pen = p })
  gathering_end h =
      let f = gathering_ends (values_of vs ts) l₀ l p₀ p q at true (rw (values_end vs t at h) at g) in
      record { fine = f.0; asks = f.1; pen = f.2; stores = f.3 }
