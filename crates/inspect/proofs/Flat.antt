-- A run of entries none of which is a repeat: it has no bodies.
-- Assumes nothing.
use Rattle.std.proofs.Common.{◌≡◌, ℕ, ◌+◌, Bool, true, false, eqb, List, sym, ◌∙◌, not-suc-le-zero, add-zero, arith, below_more, eq-eqb, ne_eqb}
use Rattle.base.specs.And.{◌and◌}
use Rattle.base.specs.Run.{sums}
use Rattle.base.proofs.And.{and_true, ands}
use Rattle.base.proofs.Run.{sums_cong, sums_const}
use Rattle.sheet.specs.Records.{entry_of}
use Rattle.sheet.specs.Every.{every}
use Rattle.sheet.specs.Valid.{is_repeat, block_length, body_length, ok_block, ok_body, ok_lengths}
use Rattle.sheet.specs.declared.Entry.{Entry}
use Rattle.sheet.specs.declared.Container.{Container}
use Rattle.sheet.proofs.Every.{every_all}
use Rattle.inspect.specs.Repeats.{NoRepeat}

module _ (e : List ℕ) (p : ℕ) where
  pub no_repeat_none : NoRepeat e p 0
  no_repeat_none = record { none = λ j l. absurd (not-suc-le-zero l) }

  -- one entry more, which is none either
  pub no_repeat_more : (i : ℕ) (r : Entry) → r ≡ entry_of e (p + i) → NoRepeat e p i → eqb r.kind 10 ≡ false → NoRepeat e p (i + 1)
  unfolding is_repeat
  no_repeat_more i r here o k = record { none = below_more _ _ o.none (rw here at k) }

  module _ (n : ℕ) (o : NoRepeat e p n) where
    pub no_bodies : sums (body_length e) p n ≡ 0
    unfolding body_length
    no_bodies = sums_cong (body_length e) (λ _. 0) p n (λ i l. simp (o.none i l)) ∙ sums_const 0 p n ∙ omega arith

    pub bodies_fine : (a : List ℕ) (used m : ℕ) → every (ok_body e a used m) p n ≡ true
    unfolding ok_body
    bodies_fine a used m = every_all (ok_body e a used m) p n (λ i l. simp (o.none i l))

-- what lies below a top level without a repeat
module _ (e a : List ℕ) (used n : ℕ) (top : Container) (o : NoRepeat e top.first top.len) where
  abbrev below : Bool
  below = ok_lengths e a used n top and every (ok_block e a used n) 0 n and every (ok_body e a used n) top.first top.len

  lengths_flat : ok_lengths e a used n top ≡ eqb (top.len + sums (block_length a) 0 n) used
  unfolding ok_lengths
  lengths_flat = rw (no_bodies e top.first top.len o, add-zero (top.len + sums (block_length a) 0 n))

  -- lengths that do not add up
  pub flat_wrong : (top.len + sums (block_length a) 0 n ≡ used → ⊥) → false ≡ below
  flat_wrong f = let l = lengths_flat ∙ ne_eqb _ _ f in sym (simp (l, ands))

  -- lengths that do: the blocks are left
  pub flat_right : top.len + sums (block_length a) 0 n ≡ used → every (ok_block e a used n) 0 n ≡ below
  flat_right t =
      let l = lengths_flat ∙ eq-eqb _ _ t in
      let b = bodies_fine e top.first top.len o a used n in
      sym (simp (l, b, ands) (and_true (every (ok_block e a used n) 0 n)))
