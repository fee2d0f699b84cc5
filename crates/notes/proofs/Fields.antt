-- The fields of a value by where they lie in the file, and how a command changes them.
-- Assumes nothing.
use Prim.Native.Nat.{ℕ, zero, suc, ◌+◌, ◌-◌, ◌≤◌, ◌<◌, min}
use Prim.Native.Char.{code}
use mathlib.Core.Path.{◌≡◌, refl, sym, ap, ◌∙◌, subst}
use mathlib.Core.Bool.{Bool, true, false}
use mathlib.Core.List.{List, [], ◌∷◌}
use native.Mathlib.Omega.{arith}
use lib.Dec.{eqb, ltb}
use lib.ListN.{length, get_or, take, drop, length-take, length-drop, drop_of_length-le}
use lib.Seq.{slice, take-take, take-nil, drop-drop, take-length}
use borrow.Author.Tests.{ltb-true, ltb-false}
use Rattle.base.specs.Bytes.{same_bytes}
use Rattle.base.proofs.Lists.{slice_take}
use Rattle.text.specs.Text.{◌is◌}
use Rattle.text.specs.First.{first_in, place, before_byte, after_byte}
use Rattle.text.proofs.First.{first_to}
use Rattle.command.specs.declared.Span.{Span}
use Rattle.attribute_call.specs.declared.Saying.{Saying}
use Rattle.attribute_call.specs.declared.Saying.TheVariants.{Silent, Deletes, Sets}
use Rattle.attribute_call.specs.Attribute.{later}
use Rattle.law_components.specs.Values as values
use Rattle.law_components.specs.Values.{bytes_of, field}
use Rattle.law_components.proofs.Fields.{field_first, field_second}
use Rattle.text.specs.Pieces.{parted}
use Rattle.layer.specs.Said.{value_said}
use Rattle.notes.specs.Spans.{SpanIs, Follows}
use Rattle.notes.specs.Functions.{function_is, function_number, FunctionFollows}

-- where the first comma stands, in a value or after it
abbrev comma : List ℕ → ℕ
comma v = place (code ",") v 0

comma_in : (v : List ℕ) → comma v ≤ length v
comma_in v = first_to (λ x. eqb x (code ",")) v 0 (omega arith)

module _ (file : List ℕ) (at n : ℕ) where
  abbrev v : List ℕ
  v = take n (drop at file)

  in_value : length v ≤ n
  in_value = let h = length-take n (drop at file) in omega arith

  in_file : length v ≤ length file - at
  in_file = let h = length-take n (drop at file) in let g = length-drop at file in omega arith

  -- from the place on, or from the file's end on where that is before it
  drop_lower : drop (min at (length file)) file ≡ drop at file
  drop_lower = go (ltb at (length file)) refl
    where
      go : (t : Bool) → ltb at (length file) ≡ t → drop (min at (length file)) file ≡ drop at file
      go true e = let l = ltb-true at (length file) e in let q : min at (length file) ≡ at = omega arith in rw q
      go false e =
          let l = ltb-false at (length file) e in
          let q : length file ≤ min at (length file) = omega arith in
          drop_of_length-le file q ∙ sym (drop_of_length-le file l)

  pub first_is : SpanIs file (record { from = min at (length file); to = min at (length file) + comma v }) (field 0 (values.held v))
  unfolding before_byte
  first_is =
      let a = comma_in v in
      let b = in_value in
      let d = in_file in
      let z : min at (length file) + comma v - min at (length file) ≡ comma v = omega arith in
      record {
        ordered = omega arith;
        inside = omega arith;
        is = slice_take (min at (length file)) (min at (length file) + comma v) file
            ∙ (λ i. take (z i) (drop_lower i))
            ∙ sym (take-take (comma v) n (drop at file) (omega arith))
            ∙ sym (field_first v);
      }

  -- the value after its first comma is a value too
  behind_comma : comma v < length v → after_byte (code ",") v ≡ take (length v - (comma v + 1)) (drop (at + comma v + 1) file)
  unfolding after_byte
  behind_comma l =
      let b = in_value in
      let long : take (length v) (drop at file) ≡ v = sym (take-take (length v) n (drop at file) b) ∙ take-length v in
      let there : at + (comma v + 1) ≡ at + comma v + 1 = omega arith in
      drop-drop 1 (comma v) v
      ∙ ap (drop (comma v + 1)) (sym long)
      ∙ slice_take (comma v + 1) (length v) (drop at file)
      ∙ ap (take (length v - (comma v + 1))) (drop-drop (comma v + 1) at file ∙ ap (λ (k : ℕ). drop k file) there)

  pub second_is : comma v < length v → field 0 (values.held (take (length v - (comma v + 1)) (drop (at + comma v + 1) file))) ≡ field 1 (values.held v)
  second_is l = ap (λ (s : List ℕ). field 0 (values.held s)) (sym (behind_comma l)) ∙ field_first (after_byte (code ",") v) ∙ sym (field_second v)

  pub second_none : length v ≤ comma v → field 1 (values.held v) ≡ []
  unfolding after_byte before_byte
  second_none l = field_second v ∙ rw (drop_of_length-le v l) (take-nil (first_in (λ x. eqb x (code ",")) [] 0))

-- no text
pub nowhere_is : (file : List ℕ) → SpanIs file (record { from = 0; to = 0 }) []
nowhere_is file = record { ordered = omega arith; inside = omega arith; is = refl }

-- the second field as code finds it: v is the value, k the place of its first comma
module _ (file : List ℕ) (at n : ℕ) {v : List ℕ} {k : ℕ} (same : v ≡ take n (drop at file)) (first : k ≡ comma v) where
  comma_is : k ≡ comma (take n (drop at file))
  comma_is = first ∙ ap comma same

  pub second_within : k < length v → at + k + 1 ≤ length file
  second_within l = let e = ap length same in let h = in_file file at n in omega arith

  pub second_there : {p : Span} → k < length v → SpanIs file p (field 0 (values.held (take (length v - (k + 1)) (drop (at + k + 1) file)))) → SpanIs file p (field 1 (values.held (take n (drop at file))))
  second_there {p} l w =
      let m : comma (take n (drop at file)) < length (take n (drop at file)) = let e = ap length same in let f = comma_is in omega arith in
      let all : take (length v - (k + 1)) (drop (at + k + 1) file) ≡ take (length (take n (drop at file)) - (comma (take n (drop at file)) + 1)) (drop (at + comma (take n (drop at file)) + 1) file) =
      λ i. take (length (same i) - (comma_is i + 1)) (drop (at + comma_is i + 1) file) in
      subst (SpanIs file p) (ap (λ (s : List ℕ). field 0 (values.held s)) all ∙ second_is file at n m) w

  pub second_nowhere : {p : Span} → length v ≤ k → p ≡ record { from = 0; to = 0 } → SpanIs file p (field 1 (values.held (take n (drop at file))))
  second_nowhere {p} l e =
      let m : length (take n (drop at file)) ≤ comma (take n (drop at file)) = let e = ap length same in let f = comma_is in omega arith in
      rw (e, second_none file at n m) (nowhere_is file)

-- ---- after a command

module _ (file : List ℕ) (i : ℕ) (p : Span) where
  pub silent : Follows file i p p Silent
  unfolding later
  silent = record { follows = λ said h. h }

  none_field : field i values.none ≡ []
  unfolding field bytes_of parted
  none_field = go i
    where
      go : (j : ℕ) → get_or {A = List ℕ} ([] ∷ []) j [] ≡ []
      go zero = refl
      go (suc j) = refl

  pub deletes : {q : Span} → q ≡ record { from = 0; to = 0 } → Follows file i p q Deletes
  unfolding later value_said
  deletes e = record { follows = λ said h. rw (e, none_field) (nowhere_is file) }

  pub sets : {q : Span} {at n : ℕ} → SpanIs file q (field i (values.held (take n (drop at file)))) → Follows file i p q (Sets at n)
  unfolding later value_said
  sets w = record { follows = λ said h. w }

module _ (file : List ℕ) (old : ℕ) where
  pub function_silent : FunctionFollows file old old Silent
  unfolding later
  function_silent = record { follows = λ said h. h }

  pub function_deletes : FunctionFollows file old 0 Deletes
  unfolding later value_said function_number function_is field bytes_of parted same_bytes
  function_deletes = record { follows = λ said h. refl }

  pub function_sets : {r at n : ℕ} {p : Span} → SpanIs file p (field 0 (values.held (take n (drop at file)))) → r ≡ function_is (slice p.from p.to file) → FunctionFollows file old r (Sets at n)
  unfolding later value_said function_number
  function_sets w e = record { follows = λ said h. e ∙ ap function_is w.is }

-- ---- a function by its name

module _ (s : List ℕ) where
  pub is_main_lem : s is "ComponentMain" ≡ true → 1 ≡ function_is s
  unfolding function_is
  is_main_lem e = rw e

  pub is_pin_lem : s is "ComponentMain" ≡ false → s is "ComponentPin" ≡ true → 2 ≡ function_is s
  unfolding function_is
  is_pin_lem e f = rw (e, f)

  pub is_outline_lem : s is "ComponentMain" ≡ false → s is "ComponentPin" ≡ false → s is "ComponentOutline" ≡ true → 3 ≡ function_is s
  unfolding function_is
  is_outline_lem e f g = rw (e, f, g)

  pub is_other : s is "ComponentMain" ≡ false → s is "ComponentPin" ≡ false → s is "ComponentOutline" ≡ false → 0 ≡ function_is s
  unfolding function_is
  is_other e f g = rw (e, f, g)
