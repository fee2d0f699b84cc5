-- A macro's blocks, worked out one by one: what those from here on do, after what was done so far, is what all of them do.
-- Assumes nothing.
use Rattle.std.specs.Prelude.{None, Option, Some}
use Prim.Native.Nat.{ℕ, ◌+◌, ◌-◌, ◌<◌, ◌≤◌}
use Prim.Native.Char.{code}
use mathlib.Core.Path.{◌≡◌, refl, sym, ap, ◌∙◌}
use mathlib.Core.Bool.{Bool, true, false}
use mathlib.Core.List.{List, [], ◌∷◌}
use native.Mathlib.Omega.{arith}
use lib.IntN.{ℤ, pos}
use lib.ListN.{length, take, drop, get_or, set, length-set}
use lib.Seq.{slice}
use borrow.Author.Tests.{eq-eqb, ne_eqb}
use Rattle.faults.specs.Rule.{number_told}
use Rattle.text.specs.First.{place, before, after}
use Rattle.command.specs.declared.Number.{Number}
use Rattle.macro_tokens.specs.Tokens.{variable_number}
use Rattle.text.proofs.Pieces.{pieces_next, pieces_end}
use Rattle.expression.specs.Reading.{Fits}
use Rattle.ints.specs.Ints.{signed}
use Rattle.base.specs.Choose.{pick}
use Rattle.base.proofs.Choose.{row_holds, row_fails}
use Rattle.macro_tokens.specs.LineEnds.{without_leading}
use Rattle.expression.specs.Value.{value_of}
use Rattle.primitives.specs.Asked.{none, asked}
use Rattle.primitives.specs.Heading.{heading}
use Rattle.primitives.specs.Rules.{code_of, keeps}
use Rattle.primitives.specs.declared.Asked.{Asked}
use Rattle.macros.specs.Pen.{penned, pens, laid}
use Rattle.macros.specs.Says.{Comes, Gathers, Does, reckoned_as}
use Rattle.macros.specs.Work.{Effect, behind, verdict, assigned, values_of, primitive_done, assignment_done, block_done, worked_out, parameters_in, blocks_in}
use Rattle.macros.specs.declared.Done.{Done}
use Rattle.macros.specs.declared.Gathered.{Gathered}
use Rattle.macros.specs.declared.Pen.{Pen}
use Rattle.decimal.specs.declared.Amount.{Amount}
use Rattle.macros.proofs.Gathering.{fine_value}
use Rattle.macros.proofs.Settled.{fits_set}
use Rattle.macros.proofs.Laid.{length_laid, pens_append, laid_append, laid_last}

pub record Working (all rest : Effect) (l₀ l : List ℤ) (p : Pen) (d : Done) : Type 0 where
  pub none : number_told d.fault ≡ 0
  pub fault : rest.fault ≡ all.fault
  pub variables : rest.variables ≡ all.variables
  pub pen : pens (length l₀) d.pen rest.written ≡ pens (length l₀) p all.written
  pub stores : laid l d.pen rest.written ≡ laid l₀ p all.written
  pub long : length l ≡ length l₀
  pub small : Fits d.variables.values

module _ (s : List ℕ) (at : ℕ) (variables : List ℤ) where
  abbrev piece : List ℕ
  piece = slice (at + 1) (place (code "*") s (at + 1)) s

  abbrev others : List (List ℕ)
  others = blocks_in (drop (place (code "*") s (at + 1)) s)

  next_fine : at < length s → (block_done variables piece).fault ≡ 0 →
      worked_out variables (blocks_in (drop at s)) ≡ behind (block_done variables piece) (worked_out (block_done variables piece).variables others)
  unfolding worked_out
  next_fine h e = rw (pieces_next (code "*") s at h, worked_out, eq-eqb _ _ e)

  next_fault : at < length s → ((block_done variables piece).fault ≡ 0 → ⊥) → worked_out variables (blocks_in (drop at s)) ≡ block_done variables piece
  unfolding worked_out
  next_fault h e = rw (pieces_next (code "*") s at h, worked_out, ne_eqb _ _ e)

  next_none : length s ≤ at → worked_out variables (blocks_in (drop at s)) ≡ record { fault = 0; variables = variables; written = [] }
  unfolding worked_out
  next_none h = rw (pieces_end (code "*") s at h)

module _ (all : Effect) (s : List ℕ) (at : ℕ) (l₀ l : List ℤ) (p : Pen) (d : Done)
    (w : Working all (worked_out d.variables.values (blocks_in (drop at s))) l₀ l p d) where
  pub working_goes : (l' : List ℤ) (d' : Done) → at < length s → Does (block_done d.variables.values (piece s at d.variables.values)) l l' d.pen d' → number_told d'.fault ≡ 0 →
      Working all (worked_out d'.variables.values (others s at d.variables.values)) l₀ l' p d'
  unfolding behind
  working_goes l' d' h b e =
      let vs = d.variables.values in
      let n = next_fine s at vs h (sym b.fault ∙ e) in
      let f = b.variables in
      let bw = (block_done vs (piece s at vs)).written in
      let rw' = (worked_out d'.variables.values (others s at vs)).written in
      record {
        none = e;
        fault = rw f (sym (ap (λ x. x.fault) n) ∙ w.fault);
        variables = rw f (sym (ap (λ x. x.variables) n) ∙ w.variables);
        pen = rw (b.pen, w.long, f) (sym (pens_append (length l₀) d.pen bw _) ∙ sym (ap (λ x. pens (length l₀) d.pen x.written) n) ∙ w.pen);
        stores = rw (b.pen, b.stores, f) (sym (laid_append l d.pen bw _) ∙ sym (ap (λ x. laid l d.pen x.written) n) ∙ w.stores);
        long = rw b.stores (length_laid l d.pen bw ∙ w.long);
        small = rw f b.small;
      }

  pub working_stops : (l' : List ℤ) (d' : Done) → at < length s → Does (block_done d.variables.values (piece s at d.variables.values)) l l' d.pen d' → (number_told d'.fault ≡ 0 → ⊥) →
      Does all l₀ l' p d'
  working_stops l' d' h b e =
      let vs = d.variables.values in
      let n = next_fault s at vs h (λ z. e (b.fault ∙ z)) in
      record {
        fault = b.fault ∙ sym (ap (λ x. x.fault) n) ∙ w.fault;
        variables = b.variables ∙ sym (ap (λ x. x.variables) n) ∙ w.variables;
        pen = rw w.long at b.pen ∙ sym (ap (λ x. pens (length l₀) d.pen x.written) n) ∙ w.pen;
        stores = b.stores ∙ sym (ap (λ x. laid l d.pen x.written) n) ∙ w.stores;
        small = rw (sym (ap (λ x. x.variables) n) ∙ w.variables) at b.small;
      }

  pub working_ends : length s ≤ at → Does all l₀ l p d
  unfolding pens laid
  working_ends h =
      let n = next_none s at d.variables.values h in
      let v = sym (ap (λ x. x.variables) n) ∙ w.variables in
      record {
        fault = w.none ∙ sym (ap (λ x. x.fault) n) ∙ w.fault;
        variables = v;
        pen = sym (ap (λ x. pens (length l₀) d.pen x.written) n) ∙ w.pen;
        stores = sym (ap (λ x. laid l d.pen x.written) n) ∙ w.stores;
        small = rw v at w.small;
      }

pub working_starts : (l : List ℤ) (p : Pen) (d : Done) (all : Effect) → number_told d.fault ≡ 0 → d.pen ≡ p → Fits d.variables.values → Working all all l l p d
working_starts l p d all e f g = record { none = e; fault = refl; variables = refl; pen = rw f; stores = rw f; long = refl; small = g }

-- ---- one block

code_below : (x : Bool) (a b : ℕ) → a < 100 → b < 100 → pick x a b < 100
unfolding pick
code_below true a b p q = p
code_below false a b p q = q

pub code_small : (t : List ℕ) → code_of t < 100
unfolding code_of
code_small t =
    code_below _ _ _ (omega arith) (code_below _ _ _ (omega arith) (code_below _ _ _ (omega arith) (code_below _ _ _ (omega arith) (code_below _ _ _ (omega arith) (code_below _ _ _ (omega arith) (omega arith))))))

counted : (q : Asked) (zs : List ℤ) → q ≡ asked none zs → q.count ≡ length zs
unfolding asked
counted q zs e = ap (λ x. x.count) e

module _ (vs : List ℤ) (t : List ℕ) (comma c n : ℕ) (l l₁ l₂ l' : List ℤ) (p p₁ : Pen) (g : Gathered) (d : Done) {z : ℤ} where
  pub primitive_does : comma ≡ place (code ",") t 0 → c ≡ code_of (take comma t) → l₁ ≡ set l p.at (pos 0) → p₁ ≡ penned (length l) p →
      Gathers vs (parameters_in (drop comma t)) l₁ l₂ p₁ g → Fits vs → n ≡ heading c g.asked.count → l' ≡ set l₂ p.at z → z ≡ pos n →
      number_told d.fault ≡ verdict g.fine (keeps c g.asked) → d.variables.values ≡ vs → d.pen ≡ g.pen →
      Does (primitive_done vs t) l l' p d
  unfolding primitive_done pens
  primitive_does ec ek el ep gg f en eh ez df dv dp =
      let m : length l₁ ≡ length l = ap length el ∙ length-set l p.at (pos 0) in
      let zs = (values_of vs (parameters_in (drop comma t))).values in
      let q : g.asked.count ≡ length zs = counted g.asked zs gg.asks in
      let k : l₂ ≡ laid (set l p.at (pos 0)) (penned (length l) p) zs = gg.stores ∙ rw (ep, el) in
      let h : l' ≡ laid l p (pos (heading c (length zs)) ∷ zs) = eh ∙ rw (k, ez, en, q) (laid_last l p (pos 0) (pos (heading c (length zs))) zs) in
      record {
        fault = rw (sym ec, sym ek, sym gg.fine, sym gg.asks) df;
        variables = dv;
        pen = dp ∙ gg.pen ∙ rw (m, ep, ec);
        stores = h ∙ rw (ek, ec);
        small = f;
      }

module _ (vs : List ℤ) (n : ℕ) (t : List ℕ) (w : Option Amount) (l : List ℤ) (p : Pen) (d : Done) (c : Comes vs t w) (f : Fits vs) (same : d.pen ≡ p) where
  pub assign_fine : (a : Amount) → w ≡ Some a → number_told d.fault ≡ 0 → d.variables.values ≡ set vs (n - 1) a.millionths → Does (assigned vs n (value_of vs t)) l l p d
  unfolding assigned pens laid
  assign_fine a e df dv =
      rw (sym c.says, fine_value w a e)
      (record { fault = df; variables = dv; pen = same; stores = refl; small = fits_set vs (n - 1) a.millionths f (rw e at c.small) })

  pub assign_refused : w ≡ None → number_told d.fault ≡ 9 → d.variables.values ≡ vs → Does (assigned vs n (value_of vs t)) l l p d
  unfolding assigned pens laid reckoned_as
  assign_refused e df dv =
      rw (sym c.says, e)
      (record { fault = df; variables = dv; pen = same; stores = refl; small = f })

pub comment_does : (vs : List ℤ) (l : List ℤ) (p : Pen) (d : Done) → number_told d.fault ≡ 0 → d.variables.values ≡ vs → d.pen ≡ p → Fits vs →
    Does (record { fault = 0; variables = vs; written = [] }) l l p d
unfolding pens laid
comment_does vs l p d df dv dp f = record { fault = df; variables = dv; pen = dp; stores = refl; small = f }

pub assignment_is : (vs : List ℤ) (t : List ℕ) (n : Number) (u : List ℕ) → n ≡ variable_number (drop 1 (before "=" t)) → u ≡ after "=" t →
    assigned vs n.value (value_of vs u) ≡ assignment_done vs t
unfolding assignment_done
assignment_is vs t n u e f = rw (e, f)

-- its first byte tells what a block is
module _ (vs : List ℤ) (s t : List ℕ) (b : ℕ) (et : t ≡ without_leading s) (eb : b ≡ get_or t 0 0) where
  pub block_comment : b ≡ 48 → record { fault = 0; variables = vs; written = [] } ≡ block_done vs s
  unfolding block_done
  block_comment e = rw (sym et, sym eb) (row_holds _ (eq-eqb _ _ e) refl)

  pub block_assigns : (b ≡ 48 → ⊥) → b ≡ 36 → assignment_done vs t ≡ block_done vs s
  unfolding block_done
  block_assigns n e = rw (sym et, sym eb) (row_fails _ (ne_eqb _ _ n) (row_holds _ (eq-eqb _ _ e) refl))

  pub block_draws : (b ≡ 48 → ⊥) → (b ≡ 36 → ⊥) → primitive_done vs t ≡ block_done vs s
  unfolding block_done
  block_draws n m = rw (sym et, sym eb) (row_fails _ (ne_eqb _ _ n) (row_fails _ (ne_eqb _ _ m) refl))

pub signed_plain : (n : ℕ) → signed false n ≡ pos n
unfolding signed
signed_plain n = refl
