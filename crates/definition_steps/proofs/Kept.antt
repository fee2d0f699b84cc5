-- The numbers that an AD keeps: where they fit they stand after those of the apertures before it; where they do not, the answer is 17.
-- Assumes nothing.
use Prim.Native.Nat.{ℕ, ◌+◌, ◌-◌, ◌≤◌}
use mathlib.Core.Path.{◌≡◌, refl, sym, ap, ◌∙◌}
use mathlib.Core.Bool.{Bool, true, false}
use mathlib.Core.List.{List, ◌++◌, append_assoc}
use native.Mathlib.Omega.{arith}
use lib.Dec.{ltb}
use lib.IntN.{ℤ, pos}
use lib.ListN.{length, take, drop, replicate, length-append, length-replicate, replicate-append-replicate}
use lib.Seq.{take_at, drop_at, drop-drop}
use borrow.Author.Tests.{ltb-true, ltb-false}
use Rattle.macros.specs.Pen.{pens, laid}
use Rattle.macros.specs.declared.Outcome.{Outcome}
use Rattle.macros.specs.declared.Pen.{Pen}
use Rattle.macros.proofs.Laid.{length_laid}
use Rattle.macros.proofs.Room.{at_place, pens_fit, pens_full, laid_fit}
use Rattle.law_reading.specs.Apertures as reading
use Rattle.progress.specs.Tables.{NumberTable}
use Rattle.definition_steps.specs.Worked.{Works}

module _ (room used : ℕ) (zs : List ℤ) (inside : used ≤ room) where
  abbrev pen : Pen
  pen = pens room (at_place used false) zs

  -- no room exactly where fewer numbers are left than are kept
  pub over_is : pen.over ≡ ltb (room - used) (length zs)
  over_is = go (ltb (room - used) (length zs)) refl
    where
      go : (b : Bool) → ltb (room - used) (length zs) ≡ b → pen.over ≡ b
      go true e = ap (λ p. p.over) (pens_full room used zs inside (let h = ltb-true (room - used) (length zs) e in omega arith))
      go false e = ap (λ p. p.over) (pens_fit room used zs (let h = ltb-false (room - used) (length zs) e in omega arith))

  pub never_back : used ≤ pen.at
  never_back = go (ltb (room - used) (length zs)) refl
    where
      go : (b : Bool) → ltb (room - used) (length zs) ≡ b → used ≤ pen.at
      go true e = let p = ap (λ p. p.at) (pens_full room used zs inside (let h = ltb-true (room - used) (length zs) e in omega arith)) in omega arith
      go false e = let p = ap (λ p. p.at) (pens_fit room used zs (let h = ltb-false (room - used) (length zs) e in omega arith)) in omega arith

  module _ (fits : ltb (room - used) (length zs) ≡ false) where
    pub kept_inside : used + length zs ≤ room
    kept_inside = let h = ltb-false (room - used) (length zs) fits in omega arith

    pub behind_kept : pen.at ≡ used + length zs
    behind_kept = ap (λ p. p.at) (pens_fit room used zs kept_inside)

drop_none : (n m : ℕ) → drop n (replicate {A = ℤ} (n + m) (pos 0)) ≡ replicate m (pos 0)
drop_none n m = rw (← replicate-append-replicate {A = ℤ} n m (pos 0)) (drop_at (replicate n (pos 0)) (replicate m (pos 0)) n (length-replicate n (pos 0)))

-- the numbers with those more
pub numbers_more : (l known zs : List ℤ) (used : ℕ) → NumberTable l used known → used + length zs ≤ length l →
    NumberTable (laid l (at_place used false) zs) (used + length zs) (known ++ zs)
numbers_more l known zs used t h =
    let long = t.long in
    let m : ℕ = length l - (used + length zs) in
    let e : length l - used ≡ length zs + m = omega arith in
    let is : l ≡ known ++ replicate (length zs + m) (pos 0) = rw (← e) t.is in
    let front : take used l ≡ known = ap (take used) is ∙ take_at known (replicate (length zs + m) (pos 0)) used long in
    let back : drop (used + length zs) l ≡ replicate m (pos 0) =
    sym (drop-drop (length zs) used l)
    ∙ ap (drop (length zs)) (ap (drop used) is ∙ drop_at known (replicate (length zs + m) (pos 0)) used long)
    ∙ drop_none (length zs) m in
    let left : m ≡ length (laid l (at_place used false) zs) - (used + length zs) = rw (length_laid l (at_place used false) zs) in
    record {
      long = length-append known zs ∙ rw long;
      fits = rw (length_laid l (at_place used false) zs) h;
      is = laid_fit l used zs h ∙ (λ i. front i ++ (zs ++ back i)) ∙ sym (append_assoc known zs (replicate m (pos 0)))
          ∙ ap (λ n. (known ++ zs) ++ replicate n (pos 0)) left;
    }

-- no working out gives numbers back
pub works_on : (b : Bool) (e : reading.Outcome) (l l' : List ℤ) (used : ℕ) (o : Outcome) → Works b e l l' used o → used ≤ length l → used ≤ o.used
unfolding Works
works_on true e l l' used o c h = let q = c.says.used in let n = never_back (length l) used e.kept h in omega arith
works_on false e l l' used o c h = let q = ap (λ x. x.used) c in omega arith
