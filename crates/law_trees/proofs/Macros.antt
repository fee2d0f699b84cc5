-- Of a macro of good form, AD can be refused with 9 only over an operation: its expressions are the texts whose form AM looked at.
-- Assumes nothing.
use Rattle.std.specs.Prelude.{None, Option, Some, ℤ}
use Prim.Native.Nat.{ℕ, ◌+◌, ◌-◌, ◌≤◌}
use Prim.Native.Char.{code}
use mathlib.Core.Path.{◌≡◌, refl, sym, ap, ◌∙◌}
use mathlib.Core.Bool.{Bool, true, false, cond}
use mathlib.Core.List.{List, [], ◌∷◌, map}
use native.Mathlib.Omega.{arith}
use lib.Dec.{eqb, ltb}
use lib.IntN.{ℤ}
use lib.ListN.{length, take, drop, get_or}
use lib.Seq.{slice, take-take, length-take-le}
use Rattle.base.specs.Or.{◌or◌}
use Rattle.text.specs.First.{place, after}
use Rattle.text.specs.Text.{byte}
use Rattle.base.specs.Choose.{pick}
use Rattle.command.specs.Numbers.{judged}
use Rattle.command.specs.Span.{span}
use Rattle.command.specs.declared.Command.TheVariants.{Define}
use Rattle.command.specs.declared.Definition.TheVariants.{Macro}
use Rattle.command.specs.Flaws.{not_form, too_long}
use Rattle.command.specs.declared.Span.{Span}
use Rattle.base.specs.Breaks.{is_break}
use Rattle.base.specs.Trimmed.{kept_before, drop_trailing}
use Rattle.macro_tokens.specs.LineEnds.{without_leading, without_trailing}
use Rattle.macro_form.specs.Blocks.{good, joined, gathered, parameter_form, primitive_form, assignment_form, block_form, blocks_form}
use Rattle.macro_form.specs.Expression.{expression_form}
use Rattle.macro_form.specs.Macro.{headed, macro_of}
use Rattle.macro_form.specs.declared.Form.{Form}
use Rattle.expression.specs.Value.{value_of}
use Rattle.macros.specs.Work.{Effect, onward, values_of, verdict, primitive_done, assigned, assignment_done, block_done, behind, worked_out, parameters_in, blocks_in}
use Rattle.law_trees.specs.Sound.{Sound}
use Rattle.law_trees.specs.Unworkable.{expressions_of, Unworkable, Any, here, further, Fails, now, later}
use Rattle.law_trees.proofs.Built.{or_l}
use Rattle.law_trees.proofs.Trees.{understood}

or_r : (a b : Bool) → (a or b) ≡ false → b ≡ false
unfolding ◌or◌
or_r true b e = let z : ◌≡◌ {A = ℕ} 0 1 = cc in absurd (omega arith)
or_r false b e = e

joined_l : (f g : Form) → Sound (joined f g) → Sound f
unfolding joined
joined_l f g s = record { form = or_l _ _ s.form; depth = or_l _ _ s.depth }

joined_r : (f g : Form) → Sound (joined f g) → Sound g
unfolding joined
joined_r f g s = record { form = or_r _ _ s.form; depth = or_r _ _ s.depth }

gathered_sound : (form : List ℕ → Form) (f : Form) (ts : List (List ℕ)) → Sound (gathered form f ts) → Sound f
unfolding gathered
gathered_sound form f [] s = s
gathered_sound form f (t ∷ ts) s = joined_l f (form t) (gathered_sound form (joined f (form t)) ts s)

refused_by : (t : List ℕ) → Sound (expression_form t) → (variables : List ℤ) → value_of variables t ≡ None → Unworkable variables t
refused_by t s variables e = let u = understood t s in record { expression = u; refused = sym (u.value variables) ∙ e }

module _ (variables : List ℤ) where
  -- the expressions of a primitive
  none_fine : (f : Form) (ts : List (List ℕ)) → Sound (gathered parameter_form f ts) → (values_of variables ts).fine ≡ false → Any (Unworkable variables) (map without_leading ts)
  unfolding gathered values_of
  none_fine f [] s e = let z : ◌≡◌ {A = ℕ} 0 1 = cc in absurd (omega arith)
  none_fine f (t ∷ ts) s e = by (none_fine (joined f (parameter_form t)) ts s) (value_of variables (without_leading t)) refl e
    where
      sound : Sound (parameter_form t)
      sound = joined_r f (parameter_form t) (gathered_sound parameter_form (joined f (parameter_form t)) ts s)

      by : ((values_of variables ts).fine ≡ false → Any (Unworkable variables) (map without_leading ts)) → (r : Option ℤ) → value_of variables (without_leading t) ≡ r →
          (onward r (values_of variables ts)).fine ≡ false → Any (Unworkable variables) (without_leading t ∷ map without_leading ts)
      by ih None q e = here (refused_by (without_leading t) (unfold parameter_form in sound) variables q)
      by ih (Some z) q e = further (ih (unfold onward in e))

  not_fine : (fine kept : Bool) → verdict fine kept ≡ 9 → fine ≡ false
  unfolding verdict
  not_fine true true e = absurd (omega arith)
  not_fine true false e = absurd (omega arith)
  not_fine false kept e = refl

  primitive_nine : (t : List ℕ) → Sound (primitive_form t) → (primitive_done variables t).fault ≡ 9 → Any (Unworkable variables) (map without_leading (parameters_in (drop (place (code ",") t 0) t)))
  unfolding primitive_form primitive_done
  primitive_nine t s e = none_fine _ (parameters_in (drop (place (code ",") t 0) t)) s (not_fine _ _ e)

  assigned_nine : (n : ℕ) (r : Option ℤ) → (assigned variables n r).fault ≡ 9 → r ≡ None
  unfolding assigned
  assigned_nine n None e = refl
  assigned_nine n (Some z) e = absurd (omega arith)

  assignment_nine : (t : List ℕ) → Sound (assignment_form t) → (assignment_done variables t).fault ≡ 9 → Any (Unworkable variables) (after "=" t ∷ [])
  unfolding assignment_form assignment_done
  assignment_nine t s e = here (refused_by (after "=" t) (joined_r _ _ s) variables (assigned_nine _ _ e))

  block_nine : (s : List ℕ) → Sound (block_form s) → (block_done variables s).fault ≡ 9 → Any (Unworkable variables) (expressions_of s)
  unfolding block_form block_done expressions_of pick
  block_nine s g e = by (byte "0" (get_or t 0 0)) (byte "$" (get_or t 0 0)) g e
    where
      t : List ℕ
      t = without_leading s

      idle : Effect
      idle = record { fault = 0; variables = variables; written = [] }

      by : (x y : Bool) → Sound (pick x good (pick y (assignment_form t) (primitive_form t))) →
          (pick x idle (pick y (assignment_done variables t) (primitive_done variables t))).fault ≡ 9 →
          Any (Unworkable variables) (pick x [] (pick y (after "=" t ∷ []) (map without_leading (parameters_in (drop (place (code ",") t 0) t)))))
      by true y g e = absurd (omega arith)
      by false true g e = assignment_nine t g e
      by false false g e = primitive_nine t g e

blocks_nine : (f : Form) (ss : List (List ℕ)) (variables : List ℤ) → Sound (gathered block_form f ss) → (worked_out variables ss).fault ≡ 9 → Fails variables ss
unfolding gathered worked_out behind
blocks_nine f [] variables g e = absurd (omega arith)
blocks_nine f (s ∷ ss) variables g e = by (blocks_nine (joined f (block_form s)) ss (block_done variables s).variables g) (eqb (block_done variables s).fault 0) refl
  where
    by : ((worked_out (block_done variables s).variables ss).fault ≡ 9 → Fails (block_done variables s).variables ss) →
        (x : Bool) → eqb (block_done variables s).fault 0 ≡ x → Fails variables (s ∷ ss)
    by ih true q = later (ih (rw (q, worked_out) at e))
    by ih false q = now (block_nine variables s (joined_r f (block_form s) (gathered_sound block_form (joined f (block_form s)) ss g)) (rw (q, worked_out) at e))

pub nine_by_operation : (variables : List ℤ) (s : List ℕ) → Sound (blocks_form s) → (worked_out variables (blocks_in s)).fault ≡ 9 → Fails variables (blocks_in s)
unfolding blocks_form
nine_by_operation variables s g e = blocks_nine good (blocks_in s) variables g e

-- ---- the text that is kept of a macro that AM takes

trailing_prefix : (s : List ℕ) → take (length (without_trailing s)) s ≡ without_trailing s
unfolding drop_trailing
trailing_prefix [] = refl
trailing_prefix (b ∷ s) = by (without_trailing s) (trailing_prefix s)
  where
    one : (x : Bool) → take (length (cond x [] (b ∷ []))) (b ∷ s) ≡ cond x [] (b ∷ [])
    one true = refl
    one false = refl

    by : (r : List ℕ) → take (length r) s ≡ r → take (length (kept_before is_break b r)) (b ∷ s) ≡ kept_before is_break b r
    by [] e = unfold kept_before in (one (is_break b))
    by (c ∷ r) e = unfold kept_before in (ap (λ (l : List ℕ). b ∷ l) e)

module _ (s : List ℕ) where
  abbrev trimmed : List ℕ
  trimmed = without_trailing s

  -- without the last block's `*`
  abbrev unended : List ℕ
  unended = take (length trimmed - 1) trimmed

  unended_prefix : take (length unended) s ≡ unended
  unended_prefix =
      let m : ℕ = length trimmed - 1 in
      let l : m ≤ length trimmed = omega arith in
      ap (λ (n : ℕ). take n s) (length-take-le m trimmed l) ∙ sym (take-take m (length trimmed) s l) ∙ ap (take m) (trailing_prefix s)

  module _ (name body : Span) (rounded : ℕ) where
    named : (q : ℕ) (u : List ℕ) (formless long deep : Bool) (count : ℕ) →
        pick formless not_form (pick long too_long (Define (Macro (span 2 q) (span (q + 1) (length u)) deep count))) ≡ Define (Macro name body false rounded) →
        (name.to ≡ q) × (body.to ≡ length u) × (formless ≡ false) × (deep ≡ false)
    unfolding pick
    named q u true long deep count e = let z : ◌≡◌ {A = ℕ} 0 1 = cc in absurd (omega arith)
    named q u false true deep count e = let z : ◌≡◌ {A = ℕ} 0 1 = cc in absurd (omega arith)
    named q u false false deep count e =
        let n : span 2 q ≡ name = cc in
        let b : span (q + 1) (length u) ≡ body = cc in
        (ap (λ (x : Span). x.to) (sym n), ap (λ (x : Span). x.to) (sym b), refl, cc)

    headed_sound : (t u : List ℕ) (q : ℕ) → headed t u q ≡ Define (Macro name body false rounded) →
        (name.to ≡ q) × (body.to ≡ length u) × Sound (blocks_form (drop q u))
    unfolding headed judged
    headed_sound t u q e =
        let n = named q u _ _ _ _ e in
        (n.0, n.1, record { form = or_r _ _ n.2; depth = n.3 })

    pub taken_sound : macro_of s ≡ Define (Macro name body false rounded) → Sound (blocks_form (slice name.to body.to s))
    unfolding macro_of
    taken_sound e = by (ltb (place (code "*") unended 2) (length unended)) e
      where
        by : (x : Bool) → pick x (headed trimmed unended (place (code "*") unended 2)) not_form ≡ Define (Macro name body false rounded) → Sound (blocks_form (slice name.to body.to s))
        by true e =
            unfold pick in
            (let h = headed_sound trimmed unended (place (code "*") unended 2) e in
            rw (h.0, h.1, unended_prefix) h.2)
        by false e = unfold pick in (let z : ◌≡◌ {A = ℕ} 0 1 = cc in absurd (omega arith))

    -- worked out from any variables, it is 9 only over an operation of one of its trees
    pub taken_nine : macro_of s ≡ Define (Macro name body false rounded) → (variables : List ℤ) →
        (worked_out variables (blocks_in (slice name.to body.to s))).fault ≡ 9 → Fails variables (blocks_in (slice name.to body.to s))
    taken_nine e variables = nine_by_operation variables (slice name.to body.to s) (taken_sound e)
