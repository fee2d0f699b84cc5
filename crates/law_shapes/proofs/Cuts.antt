-- The numbers that a macro's blocks leave, cut into primitives again, are the primitives that were worked out, one by one.
-- Assumes nothing.
use Prim.Native.Nat.{ℕ, ◌+◌, ◌≤◌, ◌<◌}
use mathlib.Core.Path.{◌≡◌, refl, sym, ap, ◌∙◌}
use mathlib.Core.Bool.{Bool, true, false, not}
use mathlib.Core.List.{List, [], ◌∷◌, ◌++◌, map, append_assoc}
use native.Mathlib.Nat.{add-zero}
use native.Mathlib.Omega.{arith}
use lib.Dec.{eqb, leb}
use lib.IntN.{ℤ, pos, nat_abs}
use lib.ListN.{length, get_or, take, drop, length-append, get_or-append}
use lib.Seq.{slice, take-add, take_at, drop_at, drop-drop, drop-append_seam, get_or-drop, length-take-le}
use borrow.Author.Tests.{eqb-true, eqb-false, le-leb}
use Rattle.base.proofs.And.{and_i}
use Rattle.ints.specs.Ints.{is_neg}
use Rattle.primitives.specs.Heading.{most_parameters, heading, code_in, count_in}
use Rattle.primitives.proofs.Headings.{heading_code, heading_count}
use Rattle.macros.specs.Work.{Effect, behind, block_done, worked_out}
use Rattle.shapes.specs.Primitives as cut
use Rattle.shapes.specs.Primitives.{number_at, primitive_at, count_fits, stands, Cut, onto, primitives_in}
use Rattle.shapes.proofs.Cutting.{in_end, in_on}
use Rattle.law_shapes.specs.Figures.{Figure, figures_in, figures_of, figure_at}
use Rattle.law_shapes.proofs.Kept.{Ample, Writes, nothing, one, block_writes}

pub record Cuts (n : List ℤ) (at end : ℕ) (fs : List Figure) : Type 0 where
  pub whole : (primitives_in n at end).whole ≡ true
  pub figures : map (figure_at n) (primitives_in n at end).list ≡ fs

-- a part is so many numbers from its start on
pub slice_from : (f k : ℕ) (l : List ℤ) → f ≤ length l → slice f (f + k) l ≡ take k (drop f l)
slice_from f k l h = rw (take-add f k l) (drop_at (take f l) (take k (drop f l)) f (length-take-le f l h))

-- a primitive with its parameters stands at a place
module _ (n : List ℤ) (at end c : ℕ) (zs more : List ℤ) (small : c < 100) (ample : Ample (length zs)) (fits : count_fits c (length zs) (nat_abs (get_or zs 1 (pos 0))) ≡ true)
    (d : drop at n ≡ pos (heading c (length zs)) ∷ zs ++ more) (h : at + 1 + length zs ≤ end) (inside : end ≤ length n) where
  first : number_at n at ≡ pos (heading c (length zs))
  first = rw (add-zero at) at (sym (get_or-drop at n 0 (pos 0)) ∙ ap (λ l. get_or l 0 (pos 0)) d)

  third : number_at n (at + 2) ≡ get_or zs 1 (pos 0)
  third = sym (get_or-drop at n 2 (pos 0)) ∙ ap (λ l. get_or l 2 (pos 0)) d ∙ get_or-append zs more (pos 0) 1 (omega (arith, ample.least))

  code_is : code_in (nat_abs (number_at n at)) ≡ c
  code_is = ap (λ z. code_in (nat_abs z)) first ∙ heading_code c (length zs) small ample.most

  count_is : count_in (nat_abs (number_at n at)) ≡ length zs
  count_is = ap (λ z. count_in (nat_abs z)) first ∙ heading_count c (length zs) small ample.most

  positive : not (is_neg (number_at n at)) ≡ true
  unfolding is_neg
  positive = ap (λ z. not (is_neg z)) first

  stands_here : stands n at end ≡ true
  unfolding stands
  stands_here =
      let b : cut.behind n at ≤ end = omega (arith, count_is, h) in
      and_i _ _ (and_i _ _ positive (le-leb (cut.behind n at) end b)) (rw (code_is, count_is, third) fits)

  behind_is : cut.behind n at ≡ at + 1 + length zs
  behind_is = ap (λ (k : ℕ). at + 1 + k) count_is

  parameters_are : slice (at + 1) (at + 1 + count_in (nat_abs (number_at n at))) n ≡ zs
  parameters_are =
      let rest : drop (at + 1) n ≡ zs ++ more = sym (drop-drop 1 at n) ∙ ap (drop 1) d in
      rw count_is (slice_from (at + 1) (length zs) n (omega (arith, h, inside)) ∙ rw rest (take_at zs more (length zs) refl))

  figure_is : figure_at n (primitive_at n at) ≡ record { code = c; parameters = zs }
  unfolding figure_at primitive_at
  figure_is = λ i. record { code = code_is i; parameters = parameters_are i }

  pub cuts_one : {gs : List Figure} → Cuts n (at + 1 + length zs) end gs → Cuts n at end (record { code = c; parameters = zs } ∷ gs)
  unfolding onto
  cuts_one {gs} cs =
      let all : primitives_in n at end ≡ onto (primitive_at n at) (primitives_in n (at + 1 + length zs) end) = in_on n end at (omega (arith, h)) stands_here ∙ ap (λ (b : ℕ). onto (primitive_at n at) (primitives_in n b end)) behind_is in
      record {
        whole = ap (λ (x : Cut). x.whole) all ∙ cs.whole;
        figures = ap (λ (x : Cut). map (figure_at n) x.list) all ∙ (λ i. figure_is i ∷ cs.figures i);
      }

pub cuts_none : (n : List ℤ) (at end : ℕ) → end ≤ at → Cuts n at end []
cuts_none n at end h = record { whole = ap (λ (x : Cut). x.whole) (in_end n end at h); figures = ap (λ (x : Cut). map (figure_at n) x.list) (in_end n end at h) }

cuts_on : {w : List ℤ} {fs : List Figure} → Writes w fs → (n : List ℤ) (at end : ℕ) (more : List ℤ) (gs : List Figure) → drop at n ≡ w ++ more →
    Cuts n (at + length w) end gs → at + length w ≤ end → end ≤ length n → Cuts n at end (fs ++ gs)
cuts_on nothing n at end more gs d cs l m = rw (add-zero at) at cs
cuts_on (one {c} {zs} small ample fits) n at end more gs d cs l m =
    let e : at + length (pos (heading c (length zs)) ∷ zs) ≡ at + 1 + length zs = omega arith in
    cuts_one n at end c zs more small ample fits d (rw e at l) m (rw e at cs)

pub work_cuts : (bs : List (List ℕ)) (vs : List ℤ) (n : List ℤ) (at end : ℕ) (rest : List ℤ) → (worked_out vs bs).fault ≡ 0 → drop at n ≡ (worked_out vs bs).written ++ rest →
    at + length (worked_out vs bs).written ≡ end → end ≤ length n → Cuts n at end (figures_of vs bs)
unfolding worked_out figures_of behind
work_cuts [] vs n at end rest f d l m = cuts_none n at end (omega (arith, l))
work_cuts (s ∷ ss) vs n at end rest f d l m =
    go (block_done vs s) (worked_out (block_done vs s).variables ss) (block_writes vs s) (eqb (block_done vs s).fault 0) refl f d l
    (λ a g b k. work_cuts ss (block_done vs s).variables n a end rest g b k m)
  where
    go : (x later : Effect) → (x.fault ≡ 0 → Writes x.written (figures_in vs s)) → (t : Bool) → eqb x.fault 0 ≡ t →
        (let w : Effect = elim t [ true ↦ record { fault = later.fault; variables = later.variables; written = x.written ++ later.written } | false ↦ x ] in w.fault ≡ 0) →
        (let w : Effect = elim t [ true ↦ record { fault = later.fault; variables = later.variables; written = x.written ++ later.written } | false ↦ x ] in drop at n ≡ w.written ++ rest) →
        (let w : Effect = elim t [ true ↦ record { fault = later.fault; variables = later.variables; written = x.written ++ later.written } | false ↦ x ] in at + length w.written ≡ end) →
        ((a : ℕ) → later.fault ≡ 0 → drop a n ≡ later.written ++ rest → a + length later.written ≡ end → Cuts n a end (figures_of (block_done vs s).variables ss)) →
        Cuts n at end (figures_in vs s ++ figures_of (block_done vs s).variables ss)
    go x later writes true e f d l on =
        let d' : drop at n ≡ x.written ++ (later.written ++ rest) = d ∙ append_assoc x.written later.written rest in
        let b : drop (at + length x.written) n ≡ later.written ++ rest = sym (drop-drop (length x.written) at n) ∙ ap (drop (length x.written)) d' ∙ drop-append_seam x.written (later.written ++ rest) in
        let len = length-append x.written later.written in
        cuts_on (writes (eqb-true x.fault 0 e)) n at end (later.written ++ rest) _ d' (on (at + length x.written) f b (omega (arith, l, len))) (omega (arith, l, len)) m
    go x later writes false e f d l on = absurd (eqb-false x.fault 0 e f)
