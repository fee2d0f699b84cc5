-- How many items a sheet has in each place, mark by mark: the count of a contour's edges changes no length.
-- Assumes nothing.
use Prim.Native.Nat.{ℕ, ◌+◌, ◌*◌}
use mathlib.Core.Path.{◌≡◌, refl, sym, ap, ◌∙◌}
use mathlib.Core.Bool.{Bool, true, false, cond}
use mathlib.Core.List.{List, [], ◌∷◌, ◌++◌, map}
use native.Mathlib.Omega.{arith}
use lib.Dec.{eqb}
use lib.ListN.{length, length-append, length-map}
use Rattle.place.specs.declared.Repeat.{Repeat}
use Rattle.place.specs.Copies.{copies}
use Rattle.place.specs.Outer.{flashed_by}
use Rattle.place.specs.Parts.{Parts, ◌then◌, items_in}
use Rattle.place.specs.Parts as parts
use Rattle.place.specs.Mark.{
  Mark,
  draw,
  contour,
  edge,
  flash,
  begin,
  finish,
  block,
  repeat,
  Around,
  top,
  within,
  Sheet,
  parts_of,
  put,
  closed,
  marked,
  written,
}
use Rattle.place.proofs.Copies.{length_of_copies}
use Rattle.place.proofs.Parts.{items_then}
use Rattle.law_built_store.specs.Shown.{blank}
use Rattle.law_kept.specs.Counted.{put_out_in, put_out}

-- what is open, and how many items stand before it
pub data Stack : Type 0 where
  none : Stack
  in_block : ℕ → ℕ → Stack → Stack
  in_repeat : Repeat → ℕ → Stack → Stack

-- the closed blocks with their items, the items here, and what is open around them
pub record Size : Type 0 where
  pub blocks : List (ℕ × ℕ)
  pub here : ℕ
  pub around : Stack

abbrev pub count_of : ℕ → List (ℕ × ℕ) → ℕ
count_of n [] = 0
count_of n (b ∷ bs) = cond (eqb n b.0) b.1 (count_of n bs)

abbrev sizes_of : List (ℕ × Parts) → List (ℕ × ℕ)
sizes_of [] = []
sizes_of (b ∷ bs) = (b.0, length (items_in b.1)) ∷ sizes_of bs

abbrev stack_of : Around → Stack
stack_of top = none
stack_of (within (block n) before around) = in_block n (length (items_in before)) (stack_of around)
stack_of (within (repeat r) before around) = in_repeat r (length (items_in before)) (stack_of around)

abbrev size_of : Sheet → Size
size_of s = record { blocks = sizes_of s.blocks; here = length (items_in s.here); around = stack_of s.around }

abbrev pub more : ℕ → Size → Size
more n z = record { blocks = z.blocks; here = z.here + n; around = z.around }

abbrev pub shut : Stack → Size → Size
shut none z = z
shut (in_block n b st) z = record { blocks = (n, z.here) ∷ z.blocks; here = b; around = st }
shut (in_repeat r b st) z = record { blocks = z.blocks; here = b + r.nx * r.ny * z.here; around = st }

abbrev pub grown : Mark → Size → Size
grown (draw t) z = more 1 z
grown (contour t) z = more 1 z
grown (edge t) z = more 1 z
grown (flash n m place) z = more (count_of n z.blocks) z
grown (begin (block n)) z = record { blocks = z.blocks; here = 0; around = in_block n z.here z.around }
grown (begin (repeat r)) z = record { blocks = z.blocks; here = 0; around = in_repeat r z.here z.around }
grown finish z = shut z.around z

abbrev pub sizes : List Mark → Size → Size
sizes [] z = z
sizes (m ∷ ms) z = sizes ms (grown m z)

-- those of the marks so far
abbrev pub sized : List Mark → Size
sized ms = sizes ms (record { blocks = []; here = 0; around = none })

count_is : (n : ℕ) (bs : List (ℕ × Parts)) → length (items_in (parts_of n bs)) ≡ count_of n (sizes_of bs)
unfolding parts_of items_in
count_is n [] = refl
count_is n (b ∷ bs) = go (count_is n bs) (eqb n b.0)
  where
    go : length (items_in (parts_of n bs)) ≡ count_of n (sizes_of bs) → (t : Bool) →
        length (items_in (cond t b.1 (parts_of n bs))) ≡ cond t (length (items_in b.1)) (count_of n (sizes_of bs))
    go ih true = refl
    go ih false = ih

-- parts one after the other
then_length : (ps qs : Parts) → length (items_in (ps then qs)) ≡ length (items_in ps) + length (items_in qs)
then_length ps qs = ap length (items_then ps qs) ∙ length-append (items_in ps) (items_in qs)

put_size : (ps : Parts) (n : ℕ) (s : Sheet) → length (items_in ps) ≡ n → size_of (put ps s) ≡ more n (size_of s)
unfolding put
put_size ps n s e =
    let q : length (items_in (s.here then ps)) ≡ length (items_in s.here) + n = then_length s.here ps ∙ ap (λ k. length (items_in s.here) + k) e in
    λ i. record { blocks = sizes_of s.blocks; here = q i; around = stack_of s.around }

-- the copies of a repeat's body
repeated_length : (r : Repeat) (ps : Parts) → length (copies r (items_in ps)) ≡ r.nx * r.ny * length (items_in ps)
repeated_length r ps = length_of_copies r (items_in ps) (length (items_in ps)) refl ∙ omega arith

closed_size : (around : Around) (s : Sheet) → size_of (closed around s) ≡ shut (stack_of around) (size_of s)
unfolding closed items_in
closed_size top s = refl
closed_size (within (block n) before around) s = refl
closed_size (within (repeat r) before around) s =
    let a = then_length before (parts.repeated r s.here parts.none) in
    let b = length-append (copies r (items_in s.here)) [] in
    let c = repeated_length r s.here in
    let q : length (items_in (before then parts.repeated r s.here parts.none)) ≡ length (items_in before) + r.nx * r.ny * length (items_in s.here) = omega arith in
    λ i. record { blocks = sizes_of s.blocks; here = q i; around = stack_of around }

mark_size : (m : Mark) (ms : List Mark) (s : Sheet) → size_of (marked m ms s) ≡ grown m (size_of s)
unfolding marked items_in
mark_size (draw t) ms s = put_size _ 1 s refl
mark_size (contour t) ms s = put_size _ 1 s refl
mark_size (edge t) ms s = put_size _ 1 s refl
mark_size (flash n m place) ms s =
    let b = items_in (parts_of n s.blocks) in
    let a = length-append (map (flashed_by place m) b) [] in
    let c = length-map b (flashed_by place m) in
    let d = count_is n s.blocks in
    put_size _ (count_of n (sizes_of s.blocks)) s (omega arith)
mark_size (begin (block n)) ms s = refl
mark_size (begin (repeat r)) ms s = refl
mark_size finish ms s = closed_size s.around s

written_size : (ms : List Mark) (s : Sheet) → size_of (written ms s) ≡ sizes ms (size_of s)
unfolding written
written_size [] s = refl
written_size (m ∷ ms) s = written_size ms (marked m ms s) ∙ ap (sizes ms) (mark_size m ms s)

pub sizes_append : (ms ns : List Mark) (z : Size) → sizes (ms ++ ns) z ≡ sizes ns (sizes ms z)
sizes_append [] ns z = refl
sizes_append (m ∷ ms) ns z = sizes_append ms ns (grown m z)

-- the length of what is put out
abbrev pub out_of : Stack → ℕ → ℕ
out_of none h = h
out_of (in_block n b st) h = h
out_of (in_repeat r b st) h = b + r.nx * r.ny * h

out_length : (around : Around) (here : Parts) → length (put_out_in around here) ≡ out_of (stack_of around) (length (items_in here))
unfolding put_out_in
out_length top here = refl
out_length (within (block n) before around) here = refl
out_length (within (repeat r) before around) here =
    length-append (items_in before) (copies r (items_in here)) ∙ ap (λ n. length (items_in before) + n) (repeated_length r here)

pub put_out_size : (ms : List Mark) → length (put_out ms) ≡ out_of (sized ms).around (sized ms).here
unfolding put_out blank items_in
put_out_size ms = out_length (written ms blank).around (written ms blank).here ∙ ap (λ (z : Size). out_of z.around z.here) (written_size ms blank)
